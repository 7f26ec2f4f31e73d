-- What this crate's own functions say of one another's work. No clause of a public call cites these files, so a reader of
-- those clauses may leave them out.
pub mod Building
pub mod Sort
pub mod Steps
pub mod Texts
