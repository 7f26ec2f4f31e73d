-- What the records of a journal read to.
use Rattle.std.specs.Prelude.{◌≡◌, ◌⊎◌, List, map, Result, Ok, Err}
use Rattle.std.specs.List.{AllByRecursion}
use Rattle.std.specs.Global.{Vec}
use Rattle.gs_base.specs.declared.refusal.Refusal.{Refusal}
use Rattle.gs_base.specs.declared.refusal.Refusal.TheVariants as refusals
use Rattle.gs_journal.specs.Records.{Entry as Record}
use Rattle.gs_journal.specs.declared.version.Version.{Version}
use Rattle.gs_master_record.specs.Encoding.{encoded}
use Rattle.gs_master_record.specs.Plain.{PlainEntry, plain}
use Rattle.gs_master_record.specs.Writable.{IsEntry}
use Rattle.gs_master_record.specs.declared.entry.Entry.{Entry}

-- the records are those of these entries, written in this version
pub record AreRecordsOf (version : Version) (records : List Record) (entries : List PlainEntry) : Type 0 where
  pub written : records ≡ map (encoded version) entries
  pub are_entries : AllByRecursion (IsEntry version) entries

-- BadLine where they are those of no entries, memory aside
abbrev pub Reads : Version → List Record → Result (Vec Entry) Refusal → Type 0
Reads version records (Ok entries) = AreRecordsOf version records (map plain entries.items)
Reads version records (Err e) = (e ≡ refusals.Memory) ⊎ ((e ≡ refusals.BadLine) × ((entries : List PlainEntry) → ¬ AreRecordsOf version records entries))
