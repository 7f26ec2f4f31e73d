-- What the steps of a reader of paths answer.
use Rattle.std.specs.Prelude.{◌≡◌, ◌++◌, ◌==◌, ◌<◌, ◌≤◌, ◌∷◌, [], ℕ, List, Bool, true, false, Option, Some, None, Result, Ok, Err, ◌⊎◌, length}
use Rattle.std.specs.Borrow.{Bor}
use Rattle.std.specs.List.{slice_split}
use Rattle.gs_base.specs.declared.refusal.Refusal.{Refusal}
use Rattle.gs_base.specs.declared.refusal.Refusal.TheVariants.{BadPath, Memory}
use Rattle.gs_path.specs.declared.path.Elements.{Elements}
use Rattle.gs_path.specs.declared.path.Elements.TheVariants.{Visible, Stored}
use Rattle.gs_path.specs.Path.{Name, Path}
use Rattle.gs_path.specs.Element.{is_element, is_stored}

abbrev pub passes : Elements → Name → Bool
passes Visible = is_element
passes Stored = is_stored

-- one more element that passes, or the reason why there is none
abbrev pub Added : (Name → Bool) → Name → Path → Path → Result (Unit {0}) Refusal → Type 0
Added passes name old new (Ok _) = (passes name ≡ true) × (length old < 64) × (new ≡ old ++ name ∷ [])
Added passes name old new (Err e) = ((e ≡ BadPath) × ((64 ≤ length old) ⊎ (passes name ≡ false))) ⊎ (e ≡ Memory)

-- the first part between slashes and what holds the others, and nothing where the text is one part
abbrev pub CutsFirst : List ℕ → Option (Bor (List ℕ) × Bor (List ℕ)) → Type 0
CutsFirst text (Some cut) =
    (slice_split (λ b. b == 47) text ≡ cut.0.now ∷ slice_split (λ b. b == 47) cut.1.now) × (length cut.1.now < length text)
CutsFirst text None = slice_split (λ b. b == 47) text ≡ text ∷ []
