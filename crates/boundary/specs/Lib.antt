-- What a caller across the boundary has to believe: how numbers and flat structs stand for the values of the crates below, and what each call promises.
-- Numbers that stand for nothing; the values of the crates frame and reader, and their calls.
pub mod Refusal
pub mod Framing
pub mod Single
pub mod Line
-- The settings of a list, and the call that looks at them.
pub mod Setting
-- Messages to the module, and the calls that read and write them.
pub mod Options
pub mod ToModule
-- Messages from the module, and the calls that read and write them.
pub mod Status
pub mod FromModule
-- What follows from it; each claim is proved in proofs/Theorems.antt.
pub mod Claims

-- No file here is cited only by functions that are not public.
