pub mod Laws
mod InWords
mod Joined
