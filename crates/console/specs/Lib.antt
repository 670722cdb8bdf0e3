-- What the functions for the test programs give: parts of slices, the words of a text, hex digits, and the words for formats. Nothing that the library promises rests on it.
pub mod Part
pub mod Text
pub mod Hex
pub mod Format
