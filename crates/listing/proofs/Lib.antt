-- What belongs to no one function. The other files are the proofs of the functions, each in the folder of its module of src/.
-- Text: what is written into a buffer part by part, numbers in decimal, and the length of a line.
pub mod Texts
pub mod Decimals
pub mod Fits
-- Calls: what those over one chunk, and of one quiet, list together, what one of them adds, and what the calls over a segment print.
pub mod Chunks
pub mod Steps
pub mod Runs
-- The claims of specs/Claims.antt.
pub mod Theorems
