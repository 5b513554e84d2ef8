mod Kept
mod Nothing
