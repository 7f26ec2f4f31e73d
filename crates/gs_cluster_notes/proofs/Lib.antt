mod Firsts
mod Noting
mod Taken
