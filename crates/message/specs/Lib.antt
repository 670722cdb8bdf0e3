-- The definitions and claims of the message crate, in three groups.
--
-- What must be believed: the definitions, in the order of document 01, what the public calls promise, and texts as bytes.
pub mod Number
pub mod Address
pub mod Meaning
pub mod Refusal
pub mod Simple
pub mod Options
pub mod Setup
pub mod ToModule
pub mod Status
pub mod FromModule
pub mod Write
pub mod Text
-- What follows from it: the claims and the examples. proofs/Theorems.antt proves them.
pub mod Claims
pub mod AnyOrder
pub mod Examples
-- What only functions behind the public calls cite. Nothing in it has to be believed.
pub mod Parts
