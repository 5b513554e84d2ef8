mod Listing
mod Rows
mod Calls
mod Courses
