-- Laws that belong to no one function, and the claims. The proof of a function stands in the folder of its module.
--
-- Laws on numbers, tests and lists of bytes: Numbers, Lists.
-- Laws that the proofs of functions cite: OptionLaws (option strings), WriteLaws (messages written).
-- What is read is what is written, and back: OptionGroups, OptionStrings and OptionRoundTrip (option strings), Readings (the ways in which a payload is
-- read), Exact (what is read is its layout), Frames and Written (frames in a buffer), MessageRoundTrip, AnyOrder.
-- The claims: Examples, and Theorems, which has all of them.
pub mod Numbers
pub mod Lists
pub mod OptionLaws
pub mod WriteLaws
pub mod OptionGroups
pub mod OptionStrings
pub mod OptionRoundTrip
pub mod Readings
pub mod Exact
pub mod Frames
pub mod Written
pub mod MessageRoundTrip
pub mod AnyOrder
pub mod Examples
pub mod Theorems
