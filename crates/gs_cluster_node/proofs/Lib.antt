mod Listing
mod Stepping
