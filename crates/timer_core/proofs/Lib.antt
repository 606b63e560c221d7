pub mod FirstSoFar
