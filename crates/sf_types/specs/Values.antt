-- What a row holds: marked bytes, the names of rows, and the edits of lists.
pub mod Names
pub mod Marks
pub mod Edits
