-- What the steps of a reader of hidden names answer.
use Rattle.std.specs.Prelude.{◌≡◌, ℕ, List, [], Option, Some, None}
use Rattle.std.specs.Borrow.{Bor}
use Rattle.gs_path.specs.Path.{Name}
use Rattle.gs_path.specs.Element.{before_point, after_point}

-- what stands before the first point and behind it, and nothing only where nothing stands behind a point
abbrev pub IsCut : List ℕ → Option (Bor (List ℕ) × Bor (List ℕ)) → Type 0
IsCut text (Some cut) = (cut.0.now ≡ before_point text) × (cut.1.now ≡ after_point text)
IsCut text None = after_point text ≡ []

-- parts, without where the old name lies in memory
abbrev pub parts_shown : ℕ × ℕ × Bor (List ℕ) → ℕ × ℕ × Name
parts_shown parts = (parts.0, parts.1, parts.2.now)
