-- The grammar of a line: words separated by single spaces.
use Rattle.std.specs.Prelude.{◌≡◌, ◌==◌, ℕ, Bool, true, false, not, List, [], ◌∷◌, length, codes, bytes_eq, if◌then◌else◌, Option, Some, None, Result, Ok, Err}
use Rattle.std.specs.List.{slice_split, list_all}
use Rattle.std.specs.Str.{is_utf8}
use Rattle.gs_msg.specs.declared.kind.Kind.{Kind}
use Rattle.gs_msg.specs.Kinds.{named}
use Rattle.gs_shell_grammar.specs.declared.command.Command.{Command}
use Rattle.gs_shell_grammar.specs.declared.command.Command.TheVariants as command
use Rattle.gs_shell_grammar.specs.declared.command.Upgrade.{Upgrade}
use Rattle.gs_shell_grammar.specs.declared.command.Upgrade.TheVariants.{Query, Prepare, Finalize, Rollback}
use Rattle.gs_shell_grammar.specs.declared.command.UpgradeStep.{UpgradeStep}
use Rattle.gs_shell_grammar.specs.declared.command.UpgradeStep.TheVariants.{PrepareBegin, PrepareCommit, RollbackBegin, RollbackCommit}
use Rattle.gs_shell_grammar.specs.declared.command.Restarted.{Restarted}
use Rattle.gs_shell_grammar.specs.declared.command.Restarted.TheVariants.{Master, Server}
use Rattle.gs_shell_grammar.specs.declared.error.LineError.{LineError}
use Rattle.gs_shell_grammar.specs.declared.error.LineError.TheVariants.{BadLine, Memory}
use Rattle.gs_shell_grammar.specs.Operands.{number_of, bytes_of}

abbrev pub Text : Type 0
Text = List ℕ

-- what a line asks for, of which paths are their text
pub data Request : Type 0 where
  Mkdir : Text → Request
  Create : Text → Request
  Ls : Text → Request
  Stat : Text → Request
  Mv : Text → Text → Request
  Rm : Text → Bool → Request
  Undelete : Text → Request
  Snapshot : Text → Text → Request
  Write : Text → ℕ → List ℕ → Request
  Append : Text → List ℕ → Request
  Read : Text → ℕ → ℕ → Request
  Digest : Text → ℕ → ℕ → Request
  Scan : Request
  Replicate : Request
  Beat : ℕ → Request
  Tick : Request
  RollingUpgrade : Upgrade → Request
  Step : UpgradeStep → Request
  At : ℕ → Request
  Restart : Restarted → Request
  Lose : ℕ → ℕ → Request
  Damage : ℕ → ℕ → ℕ → Request
  Hold : Option Kind → Request
  Deliver : ℕ → Request

abbrev pub request_of : Command → Request
request_of (command.Mkdir path) = Mkdir path.now
request_of (command.Create path) = Create path.now
request_of (command.Ls path) = Ls path.now
request_of (command.Stat path) = Stat path.now
request_of (command.Mv source target) = Mv source.now target.now
request_of (command.Rm path recursive) = Rm path.now recursive
request_of (command.Undelete path) = Undelete path.now
request_of (command.Snapshot source target) = Snapshot source.now target.now
request_of (command.Write path offset bytes) = Write path.now offset bytes.items
request_of (command.Append path bytes) = Append path.now bytes.items
request_of (command.Read path offset many) = Read path.now offset many
request_of (command.Digest path chunk block) = Digest path.now chunk block
request_of command.Scan = Scan
request_of command.Replicate = Replicate
request_of (command.Beat server) = Beat server
request_of command.Tick = Tick
request_of (command.Upgrade upgrade) = RollingUpgrade upgrade
request_of (command.Step step) = Step step
request_of (command.At moment) = At moment
request_of (command.Restart node) = Restart node
request_of (command.Lose server handle) = Lose server handle
request_of (command.Damage server handle block) = Damage server handle block
request_of (command.Hold kind) = Hold kind
request_of (command.Deliver number) = Deliver number

-- what follows, if an operand is one
infixl 10 ◌>>=◌
abbrev pub ◌>>=◌ : {A B : Type 0} → Option A → (A → Option B) → Option B
Some x >>= f = f x
None >>= f = None

unfoldable pub one_word : Text → Option Request
one_word name =
    if bytes_eq name (codes "scan") then Some Scan
    else if bytes_eq name (codes "replicate") then Some Replicate
    else if bytes_eq name (codes "tick") then Some Tick
    else if bytes_eq name (codes "prepare-begin") then Some (Step PrepareBegin)
    else if bytes_eq name (codes "prepare-commit") then Some (Step PrepareCommit)
    else if bytes_eq name (codes "rollback-begin") then Some (Step RollbackBegin)
    else if bytes_eq name (codes "rollback-commit") then Some (Step RollbackCommit)
    else None

unfoldable pub upgrade_line : Text → Option Request
upgrade_line word =
    if bytes_eq word (codes "query") then Some (RollingUpgrade Query)
    else if bytes_eq word (codes "prepare") then Some (RollingUpgrade Prepare)
    else if bytes_eq word (codes "finalize") then Some (RollingUpgrade Finalize)
    else if bytes_eq word (codes "rollback") then Some (RollingUpgrade Rollback)
    else None

unfoldable pub restart_line : Text → Option Request
restart_line node =
    if bytes_eq node (codes "master") then Some (Restart Master)
    else (number_of node >>= λ server. Some (Restart (Server server)))

-- what a name asks for with a number
abbrev pub number_request : Text → ℕ → Option Request
number_request name number =
    if bytes_eq name (codes "beat") then Some (Beat number)
    else if bytes_eq name (codes "at") then Some (At number)
    else if bytes_eq name (codes "deliver") then Some (Deliver number)
    else None

unfoldable pub number_line : Text → Text → Option Request
number_line name word = do
  number ← number_of word
  number_request name number

unfoldable pub two_words : Text → Text → Option Request
two_words name a =
    if bytes_eq name (codes "mkdir") then Some (Mkdir a)
    else if bytes_eq name (codes "create") then Some (Create a)
    else if bytes_eq name (codes "ls") then Some (Ls a)
    else if bytes_eq name (codes "stat") then Some (Stat a)
    else if bytes_eq name (codes "rm") then Some (Rm a false)
    else if bytes_eq name (codes "undelete") then Some (Undelete a)
    else if bytes_eq name (codes "rollingUpgrade") then upgrade_line a
    else if bytes_eq name (codes "restart") then restart_line a
    else if bytes_eq name (codes "hold") then (if bytes_eq a (codes "off") then Some (Hold None) else None)
    else number_line name a

unfoldable pub append_line : Text → Text → Option Request
append_line path hex = do
  bytes ← bytes_of hex
  Some (Append path bytes)

unfoldable pub lose_line : Text → Text → Option Request
lose_line server handle = do
  s ← number_of server
  h ← number_of handle
  Some (Lose s h)

unfoldable pub hold_line : Text → Option Request
hold_line word = do
  kind ← named word
  Some (Hold (Some kind))

unfoldable pub three_words : Text → Text → Text → Option Request
three_words name a b =
    if bytes_eq name (codes "mv") then Some (Mv a b)
    else if bytes_eq name (codes "snapshot") then Some (Snapshot a b)
    else if bytes_eq name (codes "append") then append_line a b
    else if bytes_eq name (codes "lose") then lose_line a b
    else if bytes_eq name (codes "rm") then (if bytes_eq a (codes "-r") then Some (Rm b true) else None)
    else if bytes_eq name (codes "hold") then (if bytes_eq a (codes "on") then hold_line b else None)
    else None

unfoldable pub write_line : Text → Text → Text → Option Request
write_line path offset hex = do
  at ← number_of offset
  bytes ← bytes_of hex
  Some (Write path at bytes)

unfoldable pub read_line : Text → Text → Text → Option Request
read_line path offset many = do
  from ← number_of offset
  count ← number_of many
  Some (Read path from count)

unfoldable pub digest_line : Text → Text → Text → Option Request
digest_line path chunk block = do
  c ← number_of chunk
  b ← number_of block
  Some (Digest path c b)

unfoldable pub damage_line : Text → Text → Text → Option Request
damage_line server handle block = do
  s ← number_of server
  h ← number_of handle
  b ← number_of block
  Some (Damage s h b)

unfoldable pub four_words : Text → Text → Text → Text → Option Request
four_words name a b c =
    if bytes_eq name (codes "write") then write_line a b c
    else if bytes_eq name (codes "read") then read_line a b c
    else if bytes_eq name (codes "digest") then digest_line a b c
    else if bytes_eq name (codes "damage") then damage_line a b c
    else None

abbrev pub form_request : List Text → Option Request
form_request (name ∷ []) = one_word name
form_request (name ∷ a ∷ []) = two_words name a
form_request (name ∷ a ∷ b ∷ []) = three_words name a b
form_request (name ∷ a ∷ b ∷ c ∷ []) = four_words name a b c
form_request _ = None

-- What stands between two spaces, or a space and an end of the line, is a word unless it is empty.
abbrev pub is_word : Text → Bool
is_word word = not (length word == 0)

abbrev pub words_request : List Text → Option Request
words_request words = if list_all is_word words then form_request words else None

-- what a line asks for, given without its end
abbrev pub line_request : List ℕ → Option Request
line_request line = if is_utf8 line then words_request (slice_split (λ b. b == 32) line) else None

-- what a reader of text returned, seen by view, is what the grammar gives, and BadLine exactly where that is nothing
abbrev pub ParsesAs : {X Y : Type 0} → (X → Y) → Result X LineError → Option Y → Type 0
ParsesAs view (Ok x) read = read ≡ Some (view x)
ParsesAs view (Err BadLine) read = read ≡ None
ParsesAs view (Err Memory) read = Unit {0}
