pub mod CountLemmas
pub mod EachLemmas
