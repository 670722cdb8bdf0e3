-- What a reader of the listing crate has to believe: the text of a line, and what the calls promise.
pub mod Line
pub mod Listing
-- What follows from it; each claim is proved in proofs/Theorems.antt.
pub mod Claims
pub mod Examples
-- Cited only by functions that are not public: what they answer.
pub mod Parts
