-- The definitions and claims of the settings crate, in three groups.
--
-- What must be believed: what a settings list is, and what a look at an index gives.
pub mod List
pub mod Walk
-- What follows from it: the claims and the examples. proofs/Theorems.antt proves them.
pub mod Claims
pub mod Examples
-- What only functions behind the public calls cite. Nothing in it has to be believed.
pub mod Parts
