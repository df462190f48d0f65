mod Checked
mod Ends
mod Known
mod Parsed
mod Rows
mod Walking
mod Walks
mod Words
