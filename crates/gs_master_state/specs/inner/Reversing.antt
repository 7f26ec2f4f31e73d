-- What the inverses lead back to, memory aside.
use Rattle.std.specs.Prelude.{◌≡◌, ◌⊎◌, List, Option, Some, None, Result, Ok, Err}
use Rattle.gs_base.specs.declared.refusal.Refusal.{Refusal}
use Rattle.gs_base.specs.declared.refusal.Refusal.TheVariants.{Memory, BadLine}
use Rattle.gs_edit.specs.View.{NamesView}
use Rattle.gs_master_record.specs.Plain.{PlainInverse}
use Rattle.gs_master_spec.specs.Durable.{Durable}
use Rattle.gs_master_spec.specs.Undoing.{undone, all_undone}

-- an inverse is undone exactly where it is one and fits
abbrev pub TakesBackOne : PlainInverse → NamesView → Result (Unit {0}) Refusal → NamesView → Type 0
TakesBackOne inverse old (Ok _) new = undone inverse old ≡ Some new
TakesBackOne inverse old (Err e) new = (e ≡ Memory) ⊎ ((e ≡ BadLine) × (undone inverse old ≡ None))

-- the names to which the inverses lead, exactly where all can be undone
abbrev pub GivesNamesBack : List PlainInverse → NamesView → Result NamesView Refusal → Type 0
GivesNamesBack inverses names (Ok before) = all_undone inverses names ≡ Some before
GivesNamesBack inverses names (Err e) = (e ≡ Memory) ⊎ ((e ≡ BadLine) × (all_undone inverses names ≡ None))

-- names that are given are those to which the inverses lead
abbrev pub AreBack : Durable → Option NamesView → Type 0
AreBack d None = Unit {0}
AreBack d (Some names) = all_undone d.inverses d.names ≡ Some names
