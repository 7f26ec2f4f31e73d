-- What the words of a command line ask for.
use Rattle.std.specs.Prelude.{◌≡◌, ◌≢◌, ◌∷◌, ◌&&◌, ◌||◌, [], ℕ, Bool, true, not, is_some, List, codes, string_bytes, if◌then◌else◌, Option, Some, None, Result, Ok, Err}
use Rattle.std.specs.Option.{option_map}
use Rattle.clap.specs.Faults.{fault_of}
use Rattle.clap.specs.Walk.{is_empty}
use Rattle.clap.specs.Words.{App, Rule, Row, Text, new_app, new_rule, with_rule, matches_of, first_of}
use Rattle.clap.specs.Kinds.{IsAmong, Kinds}
use Rattle.clap.specs.declared.builder.ArgAction.TheVariants.{Set, SetTrue, Version}
use Rattle.clap.specs.declared.error.kind.ErrorKind.TheVariants as kind
use Rattle.clap.specs.declared.builder.value_parser.ValueParser.TheVariants as vp
use Rattle.gs_base.specs.declared.refusal.Refusal.{Refusal}
use Rattle.gs_base.specs.declared.refusal.Refusal.TheVariants as refusal
use Rattle.gs_shell_options.specs.Options.{flag_in, named_rule, number_in}
use Rattle.gs_keep_options.specs.declared.Asked.{Asked}
use Rattle.gs_keep_options.specs.declared.Mode.{Mode}
use Rattle.gs_keep_options.specs.declared.Task.{Task}
use Rattle.gs_keep_options.specs.declared.Task.TheVariants as task
use Rattle.gs_keep_options.specs.declared.Shown.{Shown}
use Rattle.gs_keep_options.specs.declared.Shown.TheVariants as shown
use Rattle.gs_keep_options.specs.declared.Sizes.{Sizes}
use Rattle.gs_keep_options.specs.Sizes.{given_or}

-- an option that takes a whole number below 2 ^ 64
abbrev pub number_rule : Text → Rule
number_rule name = record (named_rule name Set) { value_names = 1; parser = Some (vp.Unsigned 0 18446744073709551615) }

-- the word that is no option's
abbrev pub file_rule : Rule
file_rule = record (new_rule (codes "FILE")) { required = true; action = Some Set }

-- the command's file and sizes
unfoldable pub sized_app : App
sized_app = with_rule (with_rule (with_rule (with_rule (with_rule (with_rule (new_app (codes "chunkkeep"))
    file_rule)
    (number_rule (codes "servers")))
    (number_rule (codes "racks")))
    (number_rule (codes "replicas")))
    (number_rule (codes "chunk")))
    (number_rule (codes "block"))

-- and what of a store is looked at
unfoldable pub looking_app : App
looking_app = with_rule (with_rule (with_rule (with_rule sized_app
    (named_rule (codes "check") SetTrue))
    (named_rule (codes "read-only") SetTrue))
    (named_rule (codes "names") SetTrue))
    (named_rule (codes "try") SetTrue)

-- and what else is to be done
unfoldable pub mode_app : App
mode_app = with_rule (with_rule (with_rule (with_rule looking_app
    (named_rule (codes "lab") SetTrue))
    (number_rule (codes "upto")))
    (named_rule (codes "image") SetTrue))
    (number_rule (codes "image-at"))

unfoldable pub app : App
app = with_rule (with_rule mode_app (named_rule (codes "existing") SetTrue)) (named_rule (codes "version") Version)

abbrev pub sizes_in : List Row → Sizes
sizes_in rows = record {
  servers = number_in (codes "servers") rows;
  racks = number_in (codes "racks") rows;
  replicas = number_in (codes "replicas") rows;
  chunk = number_in (codes "chunk") rows;
  block = number_in (codes "block") rows;
}

abbrev pub mode_in : List Row → Mode
mode_in rows = record {
  is_check = flag_in (codes "check") rows;
  is_read_only = flag_in (codes "read-only") rows;
  is_names = flag_in (codes "names") rows;
  is_try = flag_in (codes "try") rows;
  is_lab = flag_in (codes "lab") rows;
  upto = number_in (codes "upto") rows;
  is_image = flag_in (codes "image") rows;
  image_at = number_in (codes "image-at") rows;
}

-- What is to be done. A check goes before all else, then names, and what changes nothing goes before an image.
abbrev pub task_of : Mode → Task
task_of m =
    if m.is_check then task.Check
    else if m.is_names then task.Names m.upto
    else if m.is_try && not m.is_read_only then task.Try m.upto
    else if m.is_read_only || is_some m.upto then task.Look m.upto
    else if m.is_image then task.Image
    else task.Serve

-- an image is taken of a log so many times as long as the last one
abbrev pub times_of : Mode → ℕ
times_of m = given_or m.image_at 2

-- a file, the sizes that are given, whether the store has to be there already, and what is to be done
pub record Asks : Type 0 where
  pub path : Text
  pub sizes : Sizes
  pub is_existing : Bool
  pub mode : Mode

abbrev pub rows_asked : List Row → Option Asks
rows_asked rows = option_map (λ path. record { path = path; sizes = sizes_in rows; is_existing = flag_in (codes "existing") rows; mode = mode_in rows }) (first_of (codes "FILE") rows)

-- what the words of a command line ask for, of which the first is the program's own
abbrev pub words_asked : List Text → Option Asks
words_asked words = if is_empty (fault_of app words) then rows_asked (matches_of app words) else None

-- what is asked for, and Config exactly where nothing is, unless memory ran out
abbrev pub AskedAs : Result Asked Refusal → Option Asks → Type 0
AskedAs (Ok asked) asks = asks ≡ Some (record { path = string_bytes asked.path; sizes = asked.sizes; is_existing = asked.is_existing; mode = asked.mode })
AskedAs (Err refusal.Config) asks = asks ≡ None
AskedAs (Err refusal.Memory) asks = Unit {0}
AskedAs (Err _) asks = ⊥

-- help and the version are shown where the words ask for them, and a mistake where they ask for neither
abbrev pub ShownAs : Shown → Kinds → Type 0
ShownAs shown.Help fault = IsAmong kind.DisplayHelp fault
ShownAs shown.Version fault = IsAmong kind.DisplayVersion fault
ShownAs shown.Mistake fault = (fault ≢ kind.DisplayHelp ∷ []) × (fault ≢ kind.DisplayVersion ∷ [])
