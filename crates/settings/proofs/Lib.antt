-- Laws that belong to no one function, and the claims. The proof of a function stands in the folder of its module.
--
-- The widths and places of identifiers: Table. Laws that the proofs of functions cite, one for each way out: ListLaws (what a list is), WalkLaws (its settings
-- one by one).
-- A list and its identifiers with data: Values. The claims: Examples, and Theorems, which has all of them.
pub mod Table
pub mod ListLaws
pub mod WalkLaws
pub mod Values
pub mod Examples
pub mod Theorems
