-- The text of the answer to an extend.
use Rattle.std.specs.Prelude.{◌++◌, ℕ, List, [], ◌∷◌, Option, Some, None, codes, decimal}
use Rattle.std.specs.List.{flat_map}
use Rattle.gs_base.specs.Members.{bits_of}
use Rattle.gs_lease.specs.declared.view.Term.{Term}
use Rattle.gs_master_record.specs.declared.entry.SettledView.{SettledView}
use Rattle.gs_master_record.specs.declared.extended.Extended.{Extended}

-- 255 and 0 where there is no primary
abbrev pub primary_of : Option Term → ℕ
primary_of None = 255
primary_of (Some t) = t.primary

abbrev pub end_of : Option Term → ℕ
end_of None = 0
end_of (Some t) = t.end.0

-- handle, epoch, version, count, members, primary, end: as a settled view stands in a record, each in decimal
abbrev pub settled_numbers : SettledView → List ℕ
settled_numbers v = v.handle ∷ v.view.stamp.epoch ∷ v.view.stamp.version ∷ v.view.count ∷ bits_of v.view.members ∷ primary_of v.view.term ∷ end_of v.view.term ∷ []

-- each number and a space behind it
abbrev pub spaced : List ℕ → List ℕ
spaced numbers = flat_map (λ n. decimal n ++ codes " ") numbers

-- the numbers of the settled view, and the epoch of the answer
abbrev pub extended_text : Extended → List ℕ
extended_text a = spaced (settled_numbers a.settled) ++ decimal a.epoch
