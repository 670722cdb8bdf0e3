-- What the frame crate is about: both framings, and where the leftmost rule has frames. How they are found as bytes come is the crate reader's.
--
-- First, what must be believed: the formats and the rule in document 01's order, and what a single read and write promise.
pub mod Checks
pub mod Binary
pub mod Digit
pub mod Hex
pub mod Ascii
pub mod Framing
pub mod Refusal
pub mod Single
pub mod Rule
-- Second, the claims, which are proved.
pub mod Elements
pub mod Claims
-- Third, for readers that are built on this crate, as the crate reader is, and for what is stated of the rule's steps.
pub mod Judged
pub mod Steps
-- Fourth, what is proved besides.
pub mod Further
-- Fifth, what only functions behind the public calls cite, here and in the crate reader: nobody has to believe it.
pub mod DigitRuns
pub mod Parts
