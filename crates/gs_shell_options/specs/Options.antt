-- What the words of a command line say.
use Rattle.std.specs.Prelude.{◌≡◌, ◌≢◌, ◌^◌, ◌&&◌, ℕ, Bool, false, List, [], ◌∷◌, length, codes, bytes_eq, nat_lt, if◌then◌else◌, Option, Some, None, Result, Ok, Err, option_and_then, option_map}
use Rattle.std.specs.Option.{option_map_or}
use Rattle.std.specs.Str.{all_ascii_digits}
use Rattle.std.specs.Str.Parse.{digits_value, without_leading_plus}
use Rattle.clap.specs.Faults.{fault_of}
use Rattle.clap.specs.Walk.{is_empty}
use Rattle.clap.specs.Words.{App, Rule, Row, Text, new_app, new_rule, with_rule, Kinds, matches_of, one_of, first_of}
use Rattle.clap.specs.declared.builder.ArgAction.{ArgAction}
use Rattle.clap.specs.declared.builder.ArgAction.TheVariants.{Set, SetTrue}
use Rattle.clap.specs.declared.builder.value_parser.ValueParser.TheVariants as vp
use Rattle.gs_base.specs.Configs.{is_config}
use Rattle.gs_base.specs.declared.config.Config.{Config}
use Rattle.gs_base.specs.declared.refusal.Refusal.{Refusal}
use Rattle.gs_base.specs.declared.refusal.Refusal.TheVariants as refusal

-- an option that is named by two dashes and its name
abbrev pub named_rule : Text → ArgAction → Rule
named_rule name action = record (new_rule name) { long = Some name; action = Some action }

-- an option that takes a whole number below 2 ^ 64, and the text of what stands for it where it isn't given
abbrev pub number_rule : Text → Text → Rule
number_rule name default = record (named_rule name Set) {
  value_names = 1;
  parser = Some (vp.Unsigned 0 18446744073709551615);
  defaults = default ∷ [];
}

-- an option with no value
abbrev pub flag_rule : Text → Rule
flag_rule name = named_rule name SetTrue

unfoldable pub app : App
app = with_rule (with_rule (with_rule (with_rule (with_rule (with_rule (new_app (codes "chunkstore"))
    (number_rule (codes "servers") (codes "3")))
    (number_rule (codes "racks") (codes "1")))
    (number_rule (codes "replicas") (codes "3")))
    (number_rule (codes "chunk") (codes "67108864")))
    (number_rule (codes "block") (codes "65536")))
    (flag_rule (codes "threads"))

-- a number below 2 ^ 64 in decimal digits, where a plus may stand first
abbrev pub number_of : Text → Option ℕ
number_of text =
    let ds = without_leading_plus text in
    if all_ascii_digits ds && (nat_lt 0 (length ds) && nat_lt (digits_value 10 ds) (2 ^ 64)) then Some (digits_value 10 ds) else None

-- the number of an option
abbrev pub number_in : Text → List Row → Option ℕ
number_in id rows = option_and_then number_of (one_of id rows)

-- a flag is given
abbrev pub flag_in : Text → List Row → Bool
flag_in id rows = option_map_or (λ t. bytes_eq t (codes "true")) (first_of id rows) false

pub record Sizes : Type 0 where
  pub servers : ℕ
  pub racks : ℕ
  pub replicas : ℕ
  pub block : ℕ
  pub chunk : ℕ

abbrev pub sizes_of : Config → Sizes
sizes_of c = record { servers = c.servers; racks = c.racks; replicas = c.replicas; block = c.block; chunk = c.chunk }

-- these sizes, if there is a store of them
abbrev pub store_sizes : ℕ → ℕ → ℕ → ℕ → ℕ → Option Sizes
store_sizes servers racks replicas block chunk =
    if is_config servers racks replicas block chunk
    then Some (record { servers = servers; racks = racks; replicas = replicas; block = block; chunk = chunk })
    else None

infixl 10 ◌>>=◌
abbrev pub ◌>>=◌ : {A B : Type 0} → Option A → (A → Option B) → Option B
o >>= f = option_and_then f o

unfoldable pub rows_sizes : List Row → Option Sizes
rows_sizes rows = do
  servers ← number_in (codes "servers") rows
  racks ← number_in (codes "racks") rows
  replicas ← number_in (codes "replicas") rows
  block ← number_in (codes "block") rows
  chunk ← number_in (codes "chunk") rows
  store_sizes servers racks replicas block chunk

-- sizes, and whether the nodes run in threads
abbrev pub Asked : Type 0
Asked = Sizes × Bool

abbrev pub rows_options : List Row → Option Asked
rows_options rows = option_map (λ sizes. (sizes, flag_in (codes "threads") rows)) (rows_sizes rows)

-- what the words of a command line say, of which the first is the program's own
abbrev pub words_options : List Text → Option Asked
words_options words = if is_empty (fault_of app words) then rows_options (matches_of app words) else None

-- the configuration of the sizes, and Config exactly where there are none, unless memory ran out
abbrev pub SizedAs : Result Config Refusal → Option Sizes → Type 0
SizedAs (Ok c) sizes = sizes ≡ Some (sizes_of c)
SizedAs (Err refusal.Config) sizes = sizes ≡ None
SizedAs (Err refusal.Memory) sizes = Unit {0}
SizedAs (Err _) sizes = ⊥

-- so too with whether the nodes run in threads
abbrev pub ConfiguresAs : Result (Config × Bool) Refusal → Option Asked → Type 0
ConfiguresAs (Ok asked) words = words ≡ Some (sizes_of asked.0, asked.1)
ConfiguresAs (Err refusal.Config) words = words ≡ None
ConfiguresAs (Err refusal.Memory) words = Unit {0}
ConfiguresAs (Err _) words = ⊥

-- why there are no matches: a fault of the words, or memory ran out
abbrev pub RefusesWords : Refusal → Kinds → Type 0
RefusesWords refusal.Config fault = fault ≢ []
RefusesWords refusal.Memory fault = Unit {0}
RefusesWords _ fault = ⊥
