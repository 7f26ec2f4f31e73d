pub mod Alike
pub mod Lasting
pub mod Laws
