-- What a first line says is read.
use Rattle.std.proofs.Common.{◌≡◌, ◌<◌, ◌≤◌, ◌∷◌, ◌++◌, [], ◌*◌, ◌/◌, ◌%◌, ◌^◌, ◌&&◌, ◌==◌, ℕ, zero, suc, true, not, cond, length, List, nat_lt, nat_le, codes, Option, Some, None, option_map, IfSome, refl, sym, ap, subst, ◌∙◌, arith, mul-le-mul, div-add-mod', mod-lt, append-nil, append_assoc}
use Rattle.std.specs.Fmt.{decimal}
use Rattle.std.specs.List.{slice_split}
use Rattle.std.specs.Str.{IsAscii, IsUtf8, all_ascii_digits}
use Rattle.std.specs.Str.Parse.{digits_value}
use Rattle.std.proofs.lemmas.Bool.{and_from, and_parts, lt-ltb, leb-true}
use Rattle.std.proofs.lemmas.Bool.Decides.{nat_tests}
use Rattle.std.proofs.lemmas.Fmt.{decimal_is_IsNumeral, decimal_nonempty, digits_decimal, digits_value-decimal}
use Rattle.std.proofs.lemmas.Str.{IsUtf8-from_ascii}
use Rattle.std.proofs.lemmas.Str.Parse.{IsNumeralModel, numerals_by_value, tells_all_ascii_digits}
use Rattle.hex.specs.Hex.{encode_lower}
use Rattle.gs_base.specs.Configs.{is_within}
use Rattle.gs_keep_head.specs.declared.Form.{Form}
use Rattle.gs_keep_head.specs.declared.Form.TheVariants as form
use Rattle.gs_keep_head.specs.declared.before.Before.{Before}
use Rattle.gs_keep_head.specs.Head.{AreSizes, IsBefore, IsForm, IsName, Sizes, ◌>>=◌, before_behind, before_words, called_text, form_digit, form_of, head_text, head_words, name_words, number_of, sized_text, sized_words, store_sizes, words_before, words_head, words_more, words_name, words_sizes}
use Rattle.gs_keep_head.proofs.Names.{name_read, plain_name, sum_read}
use Rattle.gs_keep_head.proofs.Splitting.{AllPlain, joined, joined_ascii, joined_more, plain, plain_digits, plain_more, split_joined}

-- ---- sizes are below 2 ^ 64

within : (n low high : ℕ) → is_within n low high ≡ true → (low ≤ n) × (n ≤ high)
within n low high h = let s = and_parts (nat_le low n) (nat_le n high) h in (leb-true low n s.0, leb-true n high s.1)

small_product : (q b : ℕ) → q ≤ 1024 → b ≤ 65536 → q * b ≤ 67108864
small_product q b hq hb = let m = mul-le-mul hq hb in omega (arith, m)

pub record Small (s : Sizes) : Type 0 where
  pub servers : s.servers < 2 ^ 64
  pub racks : s.racks < 2 ^ 64
  pub replicas : s.replicas < 2 ^ 64
  pub chunk : s.chunk < 2 ^ 64
  pub block : s.block < 2 ^ 64

pub small : (s : Sizes) → AreSizes s → Small s
small s h =
    let a = and_parts (is_within s.servers 1 16) _ h in
    let b = and_parts (is_within s.racks 1 16) _ a.1 in
    let c = and_parts (is_within s.replicas 1 s.servers) _ b.1 in
    let d = and_parts (is_within s.block 1 65536) _ c.1 in
    let e = and_parts (is_within (s.chunk / s.block) 1 1024) _ d.1 in
    let servers = within s.servers 1 16 a.0 in
    let racks = within s.racks 1 16 b.0 in
    let replicas = within s.replicas 1 s.servers c.0 in
    let block = within s.block 1 65536 d.0 in
    let quotient = within (s.chunk / s.block) 1 1024 e.0 in
    let product = small_product (s.chunk / s.block) s.block quotient.1 block.1 in
    let parts = div-add-mod' s.chunk s.block in
    let left : s.chunk % s.block < s.block = mod-lt s.chunk (omega (arith, block)) in
    record {
      servers = omega (arith, servers);
      racks = omega (arith, racks);
      replicas = omega (arith, replicas, servers);
      chunk = omega (arith, product, parts, left, block);
      block = omega (arith, block);
    }

-- ---- a number is read as it is written

digits : IsNumeralModel (λ ds. all_ascii_digits ds ≡ true) (digits_value 10)
digits = numerals_by_value _ tells_all_ascii_digits

long : (n : ℕ) → 0 < n → not (n == 0) ≡ true
long zero h = absurd (omega arith)
long (suc n) h = grind (arith, nat_tests)

number_decimal : (n : ℕ) → n < 2 ^ 64 → number_of (decimal n) ≡ Some n
number_decimal n h =
    let text = decimal n in
    let value : digits_value 10 text ≡ n = digits_value-decimal digits n h in
    let test : not (length text == 0) && (all_ascii_digits text && nat_lt (digits_value 10 text) (2 ^ 64)) ≡ true =
    and_from _ _ (long (length text) (decimal_nonempty n h)) (and_from _ _ (digits_decimal digits n h) (lt-ltb _ _ (omega (arith, value, h)))) in
    ap (λ b. cond b (Some (digits_value 10 text)) None) test ∙ ap Some value

abbrev chain : (o1 o2 o3 o4 o5 : Option ℕ) → Option Sizes
chain o1 o2 o3 o4 o5 = o1 >>= λ a. o2 >>= λ b. o3 >>= λ c. o4 >>= λ d. o5 >>= λ e. store_sizes a b c d e

sizes_read : (f : Form) (s : Sizes) → AreSizes s → words_sizes (sized_words f s) ≡ Some s
unfolding words_sizes
sizes_read form.One s h =
    let m = small s h in
    (λ i. chain (number_decimal s.servers m.servers i) (number_decimal s.racks m.racks i) (number_decimal s.replicas m.replicas i) (number_decimal s.chunk m.chunk i) (number_decimal s.block m.block i))
    ∙ ap (λ b. cond b (Some s) None) h
sizes_read form.Two s h =
    let m = small s h in
    (λ i. chain (number_decimal s.servers m.servers i) (number_decimal s.racks m.racks i) (number_decimal s.replicas m.replicas i) (number_decimal s.chunk m.chunk i) (number_decimal s.block m.block i))
    ∙ ap (λ b. cond b (Some s) None) h
sizes_read (form.Three b) s h =
    let m = small s h in
    (λ i. chain (number_decimal s.servers m.servers i) (number_decimal s.racks m.racks i) (number_decimal s.replicas m.replicas i) (number_decimal s.chunk m.chunk i) (number_decimal s.block m.block i))
    ∙ ap (λ b. cond b (Some s) None) h

-- ---- what was before is read as it is written

abbrev told : Option ℕ → Option (List ℕ) → Option ℕ → Option (List ℕ) → Option (List ℕ) → Option Before
told o1 o2 o3 o4 o5 =
    o1 >>= λ image. o2 >>= λ sum. o3 >>= λ lines. o4 >>= λ text. o5 >>= λ answers. Some (record { image = image; sum = sum; lines = lines; text = text; answers = answers })

before_read : (b : Before) → IsBefore b → words_before (before_words (form.Three b)) ≡ Some b
unfolding words_before
before_read b (image, lines, sum, text, answers) =
    (λ i. told (number_decimal b.image image i) (sum_read b.sum sum i) (number_decimal b.lines lines i) (sum_read b.text text i) (sum_read b.answers answers i))

abbrev before_of : Form → Option Before
before_of form.One = None
before_of form.Two = None
before_of (form.Three b) = Some b

more_read : (f : Form) (name : Option (List ℕ)) → IsForm f → IfSome name IsName → words_more (name_words name ++ before_words f) ≡ Some (name, before_of f)
unfolding words_more words_name
more_read form.One None form is = refl
more_read form.Two None form is = refl
more_read (form.Three b) None form is = ap (option_map (λ before. (None, Some before))) (before_read b form)
more_read form.One (Some bytes) form is = ap (option_map (λ name. (Some name, None))) (name_read bytes is)
more_read form.Two (Some bytes) form is = ap (option_map (λ name. (Some name, None))) (name_read bytes is)
more_read (form.Three b) (Some bytes) form is =
    (λ i. name_read bytes is i >>= λ name. before_read b form i >>= λ before. Some (Some name, Some before))

form_read : (f : Form) → form_of (form_digit f) (before_of f) ≡ Some f
form_read form.One = refl
form_read form.Two = refl
form_read (form.Three b) = refl

pub words_say : (f : Form) (s : Sizes) (name : Option (List ℕ)) → IsForm f → AreSizes s → IfSome name IsName → words_head (head_words f s name) ≡ Some (f, s, name)
unfolding words_head
words_say f s name form h is =
    (λ i. sizes_read f s h i >>= λ sizes. more_read f name form is i >>= λ more. form_of (form_digit f) more.1 >>= λ form. Some (form, sizes, more.0))
    ∙ ap (λ o. o >>= λ form. Some (form, s, name)) (form_read f)

-- ---- its words

plain_number : (n : ℕ) → n < 2 ^ 64 → plain (decimal n) ≡ true
plain_number n h = plain_digits (decimal n) (decimal_is_IsNumeral n h).0.1

abbrev behind : Form → Sizes → List (List ℕ)
behind f s =
    form_digit f ∷ codes "--servers" ∷ decimal s.servers ∷ codes "--racks" ∷ decimal s.racks ∷ codes "--replicas" ∷ decimal s.replicas
    ∷ codes "--chunk" ∷ decimal s.chunk ∷ codes "--block" ∷ decimal s.block ∷ []

digit_plain : (f : Form) → plain (form_digit f) ≡ true
digit_plain form.One = refl
digit_plain form.Two = refl
digit_plain (form.Three b) = refl

all_plain : (f : Form) (s : Sizes) → AreSizes s → AllPlain (behind f s)
all_plain f s h =
    let m = small s h in (
      digit_plain f,
      (
        refl,
        (
          plain_number s.servers m.servers,
          (
            refl,
            (
              plain_number s.racks m.racks,
              (
                refl,
                (
                  plain_number s.replicas m.replicas,
                  (refl, (plain_number s.chunk m.chunk, (refl, (plain_number s.block m.block, tt)))),
                ),
              ),
            ),
          ),
        ),
      ),
    )

sized_joined : (f : Form) (s : Sizes) → sized_text f s ≡ joined (codes "chunkkeep") (behind f s)
unfolding sized_text
sized_joined form.One s = refl
sized_joined form.Two s = refl
sized_joined (form.Three b) s = refl

called_joined : (f : Form) (s : Sizes) (name : Option (List ℕ)) → called_text f s name ≡ joined (codes "chunkkeep") (behind f s ++ name_words name)
unfolding called_text
called_joined f s None = sized_joined f s
called_joined f s (Some bytes) =
    ap (λ (l : List ℕ). l ++ (codes " name " ++ encode_lower bytes)) (sized_joined f s) ∙ sym (joined_more (codes "chunkkeep") (behind f s) (codes "name") (encode_lower bytes ∷ []))

-- the words behind the first one that tells of what was before
abbrev more_before : Before → List (List ℕ)
more_before b = decimal b.image ∷ encode_lower b.sum ∷ codes "lines" ∷ decimal b.lines ∷ encode_lower b.text ∷ encode_lower b.answers ∷ []

before_joined : (text : List ℕ) (b : Before) → before_behind text b ≡ text ++ 32 ∷ joined (codes "image") (more_before b)
unfolding before_behind
before_joined text b = refl

-- the words behind the first one
abbrev all_behind : Form → Sizes → Option (List ℕ) → List (List ℕ)
all_behind f s name = behind f s ++ (name_words name ++ before_words f)

is_joined : (f : Form) (s : Sizes) (name : Option (List ℕ)) → head_text f s name ≡ joined (codes "chunkkeep") (all_behind f s name)
unfolding head_text
is_joined form.One s name = called_joined form.One s name ∙ ap (λ (l : List (List ℕ)). joined (codes "chunkkeep") (behind form.One s ++ l)) (sym (append-nil (name_words name)))
is_joined form.Two s name = called_joined form.Two s name ∙ ap (λ (l : List (List ℕ)). joined (codes "chunkkeep") (behind form.Two s ++ l)) (sym (append-nil (name_words name)))
is_joined (form.Three b) s name =
    let f = form.Three b in
    before_joined (called_text f s name) b
    ∙ ap (λ (l : List ℕ). l ++ 32 ∷ joined (codes "image") (more_before b)) (called_joined f s name)
    ∙ sym (joined_more (codes "chunkkeep") (behind f s ++ name_words name) (codes "image") (more_before b))
    ∙ ap (joined (codes "chunkkeep")) (append_assoc (behind f s) (name_words name) (before_words f))

name_plain : (name : Option (List ℕ)) → IfSome name IsName → AllPlain (name_words name)
name_plain None is = tt
name_plain (Some bytes) is = (refl, (plain_name bytes is.1, tt))

before_plain : (f : Form) → IsForm f → AllPlain (before_words f)
before_plain form.One is = tt
before_plain form.Two is = tt
before_plain (form.Three b) (image, lines, sum, text, answers) = (
  refl,
  (
    plain_number b.image image,
    (plain_name b.sum sum.1, (refl, (plain_number b.lines lines, (plain_name b.text text.1, (plain_name b.answers answers.1, tt))))),
  ),
)

whole_plain : (f : Form) (s : Sizes) (name : Option (List ℕ)) → IsForm f → AreSizes s → IfSome name IsName → AllPlain (all_behind f s name)
whole_plain f s name form h is =
    plain_more (behind f s) (name_words name ++ before_words f) (all_plain f s h) (plain_more (name_words name) (before_words f) (name_plain name is) (before_plain f form))

head_is : (f : Form) (s : Sizes) (name : Option (List ℕ)) → codes "chunkkeep" ∷ all_behind f s name ≡ head_words f s name
head_is f s name = refl

pub head_splits : (f : Form) (s : Sizes) (name : Option (List ℕ)) → IsForm f → AreSizes s → IfSome name IsName → slice_split (λ b. b == 32) (head_text f s name) ≡ head_words f s name
head_splits f s name form h is =
    ap (slice_split (λ b. b == 32)) (is_joined f s name) ∙ split_joined (codes "chunkkeep") (all_behind f s name) refl (whole_plain f s name form h is) ∙ head_is f s name

pub head_utf8 : (f : Form) (s : Sizes) (name : Option (List ℕ)) → IsForm f → AreSizes s → IfSome name IsName → IsUtf8 (head_text f s name)
head_utf8 f s name form h is =
    IsUtf8-from_ascii (head_text f s name)
    (subst IsAscii (sym (is_joined f s name)) (joined_ascii (codes "chunkkeep") (all_behind f s name) refl (whole_plain f s name form h is)))
