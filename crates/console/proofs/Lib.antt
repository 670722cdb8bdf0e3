-- Laws that belong to no one function. The proof of a function stands in a folder of its own, under its module's name.
pub mod Lists
pub mod HexLaws
