mod Gathered
mod Leading
mod Least
mod Merging
mod Walks
