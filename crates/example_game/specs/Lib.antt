pub mod Litres
