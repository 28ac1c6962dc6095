-- What is computed of stored queries.
mod StoredChecks
