pub mod Answers
mod Sheets
