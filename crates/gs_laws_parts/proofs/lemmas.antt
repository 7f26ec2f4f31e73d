pub mod master
pub mod server
