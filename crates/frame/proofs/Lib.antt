-- Laws that belong to no one function, and the claims. The proof of a function stands in a folder of its own, under its module's name.
--
-- Numbers, lists and trees of checks.
pub mod Numbers
pub mod Lists
pub mod Copying
pub mod Trees
-- Each framing by itself: its layout and its checks, and how the code judges it.
pub mod BinaryLaws
pub mod BinaryJudge
pub mod XorLaws
pub mod DigitLaws
pub mod Words
pub mod HexLaws
pub mod AsciiLaws
pub mod AsciiJudge
pub mod AsciiShort
-- All formats under one name, the optional byte, and single frames.
pub mod Endings
pub mod Framings
pub mod Optional
pub mod Singles
pub mod Shapes
-- The leftmost rule.
pub mod Rules
-- Every claim of specs/ under its name. The crate reader cites the laws above too; other crates cite this file alone.
pub mod Theorems
