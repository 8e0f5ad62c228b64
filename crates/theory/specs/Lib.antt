-- What any register stands on, in the order in which to read it: lists, places and tables, histories and the line.
-- Assumes nothing.
pub mod Lists
pub mod Place
pub mod Table
pub mod History
pub mod Line
