pub mod machine
pub mod members
