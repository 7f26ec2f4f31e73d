pub mod Best
pub mod Firsts
pub mod Most
pub mod Picks
