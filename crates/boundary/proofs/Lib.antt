-- What belongs to no one function.
-- The claims.
pub mod Theorems
