-- Laws of text in lent bytes. Assumes nothing.
pub mod Sheets
mod Decimals
mod Comparing
