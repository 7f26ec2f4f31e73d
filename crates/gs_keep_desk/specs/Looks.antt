-- What lines may do to a store.
use Rattle.std.specs.Prelude.{◌≡◌, ◌⊎◌, ℕ, List, Bool, true, false, codes, Option, None, Some, MatchOption}
use Rattle.gs_shell_grammar.specs.Grammar.{Request, line_request}
use Rattle.gs_shell_grammar.specs.Grammar as lines
use Rattle.gs_shell_grammar.specs.declared.command.Upgrade.TheVariants as upgrades
use Rattle.gs_shell_script.specs.Run.{memory_text}
use Rattle.gs_shell_desk.specs.Answering.{AnswersText}
use Rattle.gs_keep_desk.specs.declared.looking.LookingDesk.{LookingDesk}

-- what is asked for changes nothing that a store keeps
abbrev pub looks : Request → Bool
looks (lines.Ls path) = true
looks (lines.Stat path) = true
looks (lines.Read path offset many) = true
looks (lines.Digest path chunk block) = true
looks (lines.RollingUpgrade upgrades.Query) = true
looks other = false

-- a store is harmed, as a trial harms it
abbrev pub harms : Request → Bool
harms (lines.Lose server handle) = true
harms (lines.Damage server handle block) = true
harms (lines.Hold kind) = true
harms (lines.Deliver number) = true
harms (lines.Restart node) = true
harms other = false

-- a line without its end asks for that
abbrev pub asks : (Request → Bool) → Option Request → Bool
asks test (Some request) = test request
asks test None = false

abbrev pub harms_line : List ℕ → Bool
harms_line line = asks harms (line_request line)

-- the answer to a line of the grammar that would change something
abbrev pub read_only_text : List ℕ
read_only_text = codes "refused 40 ReadOnly"

-- For a store on disks of some kind.
module _ {D : Type 0} (seen : D → List ℕ) (failures : D → ℕ) where
  -- A line that only looks, or is none of the grammar, is answered as by any desk. Any other is refused, and nothing changes.
  abbrev pub LooksIf : Bool → LookingDesk D → List ℕ → List ℕ → LookingDesk D → Type 0
  LooksIf true old line text new = AnswersText seen failures old.desk line text new.desk
  LooksIf false old line text new = ((text ≡ read_only_text) ⊎ (text ≡ memory_text)) × (new ≡ old)

  -- Or memory is lacking to read the line, and nothing happens.
  abbrev pub LooksAt : LookingDesk D → List ℕ → List ℕ → LookingDesk D → Type 0
  LooksAt old line text new =
      ((text ≡ memory_text) × (new ≡ old)) ⊎ MatchOption (line_request line) (AnswersText seen failures old.desk line text new.desk) (λ request. LooksIf (looks request) old line text new)
