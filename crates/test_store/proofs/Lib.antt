mod Graphs
mod SizeLemmas
