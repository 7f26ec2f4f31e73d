-- What the journal's own functions say of one another's work. No clause of a public call cites these files, so a reader of
-- those clauses may leave them out. The models of `Journal`, of `FailingDisk` and of `StoppingDisk`, and `Memory.antt` cite
-- them, to say what private fields stand for.
pub mod Frames
pub mod History
pub mod Items
pub mod Pair
pub mod Past
pub mod Places
pub mod Rest
