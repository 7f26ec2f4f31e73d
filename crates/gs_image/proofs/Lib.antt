mod Numbers
mod Parts
mod Refusing
mod Finding
mod Putting
mod Worked
