mod Ends
mod Found
mod Keys
