-- The first line of a log, without its end.
use Rattle.std.specs.Prelude.{◌≡◌, ◌≢◌, ◌<◌, ◌++◌, ◌∷◌, ◌^◌, ◌&&◌, ◌==◌, ℕ, true, not, List, [], length, take, drop, get_or, codes, bytes_eq, nat_lt, Option, Some, None, IfSome, option_map, option_and_then, Result, Ok, Err, if◌then◌else◌}
use Rattle.std.specs.Fmt.{decimal}
use Rattle.std.specs.Str.{all_ascii_digits}
use Rattle.std.specs.Str.Parse.{digits_value}
use Rattle.std.specs.Result.{result_ok}
use Rattle.hex.specs.Hex.{IsBytes, decode_sized, encode_lower}
use Rattle.gs_base.specs.Configs.{is_config}
use Rattle.gs_base.specs.declared.config.Config.{Config}
use Rattle.gs_keep_head.specs.declared.Form.{Form}
use Rattle.gs_keep_head.specs.declared.Form.TheVariants as form
use Rattle.gs_keep_head.specs.declared.HeadLine.{HeadLine}
use Rattle.gs_keep_head.specs.declared.More.{More}
use Rattle.gs_keep_head.specs.declared.before.Before.{Before}
use Rattle.gs_keep_head.specs.declared.name.LogName.{LogName}
use Rattle.gs_keep_head.specs.declared.HeadFault.{HeadFault}
use Rattle.gs_keep_head.specs.declared.HeadFault.TheVariants as fault

pub record Sizes : Type 0 where
  pub servers : ℕ
  pub racks : ℕ
  pub replicas : ℕ
  pub chunk : ℕ
  pub block : ℕ

abbrev pub sizes_of : Config → Sizes
sizes_of c = record { servers = c.servers; racks = c.racks; replicas = c.replicas; chunk = c.chunk; block = c.block }

-- there is a store of these sizes
abbrev pub AreSizes : Sizes → Type 0
AreSizes s = is_config s.servers s.racks s.replicas s.block s.chunk ≡ true

-- how a line tells the form of its log
abbrev pub form_digit : Form → List ℕ
form_digit form.One = codes "1"
form_digit form.Two = codes "2"
form_digit (form.Three before) = codes "3"

-- a name is 16 bytes
abbrev pub IsName : List ℕ → Type 0
IsName bytes = (length bytes ≡ 16) × IsBytes bytes

-- a digest is 32
abbrev pub IsSum : List ℕ → Type 0
IsSum bytes = (length bytes ≡ 32) × IsBytes bytes

-- what was before a log are two numbers of 64 bits and three digests
abbrev pub IsBefore : Before → Type 0
IsBefore b = (b.image < 2 ^ 64) × (b.lines < 2 ^ 64) × IsSum b.sum × IsSum b.text × IsSum b.answers

abbrev pub IsForm : Form → Type 0
IsForm form.One = Unit {0}
IsForm form.Two = Unit {0}
IsForm (form.Three before) = IsBefore before

abbrev pub bytes_of : Option LogName → Option (List ℕ)
bytes_of name = option_map (λ n. n.bytes) name

-- what a first line says of the form and the sizes
unfoldable pub sized_text : Form → Sizes → List ℕ
sized_text f s =
    codes "chunkkeep " ++ (form_digit f ++ (codes " --servers " ++ (decimal s.servers ++ (codes " --racks " ++ (decimal s.racks ++ (codes " --replicas " ++ (decimal s.replicas
    ++ (codes " --chunk " ++ (decimal s.chunk ++ (codes " --block " ++ decimal s.block))))))))))

-- and of the log's name, if it has one
unfoldable pub called_text : Form → Sizes → Option (List ℕ) → List ℕ
called_text f s None = sized_text f s
called_text f s (Some bytes) = sized_text f s ++ (codes " name " ++ encode_lower bytes)

-- a text, and behind it what was before the log
unfoldable pub before_behind : List ℕ → Before → List ℕ
before_behind text b =
    text ++ (codes " image " ++ (decimal b.image ++ (codes " " ++ (encode_lower b.sum ++ (codes " lines " ++ (decimal b.lines
    ++ (codes " " ++ (encode_lower b.text ++ (codes " " ++ encode_lower b.answers)))))))))

-- the first line of the log of a store of these sizes, with the log's name if it has one, and with what was before if it begins from an image
unfoldable pub head_text : Form → Sizes → Option (List ℕ) → List ℕ
head_text form.One s name = called_text form.One s name
head_text form.Two s name = called_text form.Two s name
head_text (form.Three before) s name = before_behind (called_text (form.Three before) s name) before

-- its words
abbrev pub sized_words : Form → Sizes → List (List ℕ)
sized_words f s =
    codes "chunkkeep" ∷ form_digit f ∷ codes "--servers" ∷ decimal s.servers ∷ codes "--racks" ∷ decimal s.racks ∷ codes "--replicas" ∷ decimal s.replicas
    ∷ codes "--chunk" ∷ decimal s.chunk ∷ codes "--block" ∷ decimal s.block ∷ []

abbrev pub name_words : Option (List ℕ) → List (List ℕ)
name_words None = []
name_words (Some bytes) = codes "name" ∷ encode_lower bytes ∷ []

abbrev pub before_words : Form → List (List ℕ)
before_words form.One = []
before_words form.Two = []
before_words (form.Three b) =
    codes "image" ∷ decimal b.image ∷ encode_lower b.sum ∷ codes "lines" ∷ decimal b.lines ∷ encode_lower b.text ∷ encode_lower b.answers ∷ []

abbrev pub head_words : Form → Sizes → Option (List ℕ) → List (List ℕ)
head_words f s name = sized_words f s ++ (name_words name ++ before_words f)

-- a line is the first of no log
abbrev pub IsNoHead : List ℕ → Type 0
IsNoHead line = (f : Form) (s : Sizes) (name : Option (List ℕ)) → IsForm f → AreSizes s → IfSome name IsName → line ≢ head_text f s name

-- What is read is the line of a log of its form, sizes and name; what isn't read is the line of none, unless memory is lacking to tell.
abbrev pub Reads : Result HeadLine HeadFault → List ℕ → Type 0
Reads (Ok head) line = line ≡ head_text head.form (sizes_of head.config) (bytes_of head.name)
Reads (Err fault.Memory) line = Unit {0}
Reads (Err fault.Version) line = IsNoHead line
Reads (Err fault.Other) line = IsNoHead line

-- ---- how the words are read

-- the number that decimal digits write, with zeros in front or without, if it is below 2 ^ 64
abbrev pub number_of : List ℕ → Option ℕ
number_of word =
    if not (length word == 0) && (all_ascii_digits word && nat_lt (digits_value 10 word) (2 ^ 64)) then Some (digits_value 10 word)
    else None

-- the number behind its name
abbrev pub named_number : List ℕ → List ℕ → List ℕ → Option ℕ
named_number name wanted word = if bytes_eq name wanted then number_of word else None

infixl 10 ◌>>=◌
abbrev pub ◌>>=◌ : {A B : Type 0} → Option A → (A → Option B) → Option B
o >>= f = option_and_then f o

abbrev pub store_sizes : ℕ → ℕ → ℕ → ℕ → ℕ → Option Sizes
store_sizes servers racks replicas chunk block =
    if is_config servers racks replicas block chunk then Some (record { servers = servers; racks = racks; replicas = replicas; chunk = chunk; block = block }) else None

abbrev pub named_sizes : List ℕ → List ℕ → List ℕ → List ℕ → List ℕ → List ℕ → List ℕ → List ℕ → List ℕ → List ℕ → Option Sizes
named_sizes a servers b racks c replicas d chunk e block = do
  servers ← named_number a (codes "--servers") servers
  racks ← named_number b (codes "--racks") racks
  replicas ← named_number c (codes "--replicas") replicas
  chunk ← named_number d (codes "--chunk") chunk
  block ← named_number e (codes "--block") block
  store_sizes servers racks replicas chunk block

unfoldable pub words_sizes : List (List ℕ) → Option Sizes
words_sizes (name ∷ version ∷ a ∷ servers ∷ b ∷ racks ∷ c ∷ replicas ∷ d ∷ chunk ∷ e ∷ block ∷ []) =
    if bytes_eq name (codes "chunkkeep") then named_sizes a servers b racks c replicas d chunk e block else None
words_sizes words = None

abbrev pub SizedAs : Option Config → Option Sizes → Type 0
SizedAs (Some c) sizes = sizes ≡ Some (sizes_of c)
SizedAs None sizes = sizes ≡ None

-- the bytes that 32 hexadecimal digits write
abbrev pub name_of : List ℕ → Option (List ℕ)
name_of digits = result_ok (decode_sized digits 16)

unfoldable pub words_name : List (List ℕ) → Option (List ℕ)
words_name (word ∷ digits ∷ []) = if bytes_eq word (codes "name") then name_of digits else None
words_name words = None

abbrev pub CalledAs : Option LogName → Option (List ℕ) → Type 0
CalledAs name bytes = bytes ≡ bytes_of name

-- the bytes that 64 hexadecimal digits write
abbrev pub sum_of : List ℕ → Option (List ℕ)
sum_of digits = result_ok (decode_sized digits 32)

abbrev pub named_before : List ℕ → List ℕ → List ℕ → List ℕ → List ℕ → List ℕ → List ℕ → Option Before
named_before a image sum b lines text answers = do
  image ← named_number a (codes "image") image
  sum ← sum_of sum
  lines ← named_number b (codes "lines") lines
  text ← sum_of text
  answers ← sum_of answers
  Some (record { image = image; sum = sum; lines = lines; text = text; answers = answers })

unfoldable pub words_before : List (List ℕ) → Option Before
words_before (a ∷ image ∷ sum ∷ b ∷ lines ∷ text ∷ answers ∷ []) = named_before a image sum b lines text answers
words_before words = None

-- the name, and what was before, where the words behind the sizes tell both
abbrev pub both_more : List (List ℕ) → Option (Option (List ℕ) × Option Before)
both_more words = do
  name ← words_name (take 2 words)
  before ← words_before (drop 2 words)
  Some (Some name, Some before)

-- what the words behind the sizes tell: how many there are says which parts they have
unfoldable pub words_more : List (List ℕ) → Option (Option (List ℕ) × Option Before)
words_more words =
    if length words == 0 then Some (None, None)
    else if length words == 2 then option_map (λ name. (Some name, None)) (words_name words)
    else if length words == 7 then option_map (λ before. (None, Some before)) (words_before words)
    else if length words == 9 then both_more words
    else None

abbrev pub MoreAs : Option More → Option (Option (List ℕ) × Option Before) → Type 0
MoreAs more told = told ≡ option_map (λ m. (bytes_of m.name, m.before)) more

-- the form that a digit tells, with what was before
abbrev pub form_of : List ℕ → Option Before → Option Form
form_of digit None = if bytes_eq digit (codes "1") then Some form.One else if bytes_eq digit (codes "2") then Some form.Two else None
form_of digit (Some before) = if bytes_eq digit (codes "3") then Some (form.Three before) else None

-- the form, the sizes and the name that words tell
unfoldable pub words_head : List (List ℕ) → Option (Form × Sizes × Option (List ℕ))
words_head words = do
  sizes ← words_sizes (take 12 words)
  more ← words_more (drop 12 words)
  form ← form_of (get_or words 1 []) more.1
  Some (form, sizes, more.0)

abbrev pub HeadAs : Option HeadLine → Option (Form × Sizes × Option (List ℕ)) → Type 0
HeadAs head told = told ≡ option_map (λ h. (h.form, sizes_of h.config, bytes_of h.name)) head
