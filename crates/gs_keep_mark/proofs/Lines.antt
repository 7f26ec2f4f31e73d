-- Lines and marks, one behind the other.
use Rattle.std.proofs.Common.{◌≡◌, ◌<◌, ◌+◌, ◌-◌, ◌++◌, ◌∷◌, ◌&&◌, ◌/◌, ◌%◌, [], ℕ, zero, suc, List, Bool, true, false, true≢false, cond, eqb, nat_lt, length, drop, get_or, map, codes, slice_index, refl, sym, ap, subst, ◌∙◌, arith, append_assoc, append-nil, length-append}
use Rattle.std.proofs.lemmas.Bool.Decides.{nat_tests}
use Rattle.std.proofs.lemmas.List.{get_or-append-add}
use Rattle.std.specs.Io.BufRead.{ends_with_byte}
use Rattle.std.specs.List.{AllByRecursion}
use Rattle.sha2.specs.Sha256.{sha256}
use Rattle.sha2.proofs.Facts256.{length-sha256}
use Rattle.hex.specs.Hex.{encode_lower, encode_with, lower_digits}
use Rattle.hex.proofs.HexLemmas.{length-encode_with}
use Rattle.gs_shell_script.specs.Run.{lines_of, onto}
use Rattle.gs_keep_mark.specs.Marks.{Entry, Totals, digest, digits_of, is_whole_mark, mark_of, mark_text, starts_mark, text_of}
use Rattle.gs_keep_mark.specs.Started.{IsBatch, IsInLine, IsPlain, NoMark}

-- ---- two parts

pub split_front : (a b x y : List ℕ) → length a ≡ length b → a ++ x ≡ b ++ y → (a ≡ b) × (x ≡ y)
split_front [] [] x y long same = (refl, same)
split_front [] (d ∷ b) x y long same = absurd (omega (arith, long))
split_front (c ∷ a) [] x y long same = absurd (omega (arith, long))
split_front (c ∷ a) (d ∷ b) x y long same =
    let first : c ≡ d = ap (λ (l : List ℕ). get_or l 0 0) same in
    let (front, back) = split_front a b x y (omega (arith, long)) (ap (λ (l : List ℕ). drop 1 l) same) in
    (ap (λ (n : ℕ). n ∷ a) first ∙ ap (λ (l : List ℕ). d ∷ l) front, back)

pub split_back : (a b x y : List ℕ) → length x ≡ length y → a ++ x ≡ b ++ y → (a ≡ b) × (x ≡ y)
split_back a b x y long same = split_front a b x y (omega (arith, long, ap length same, length-append a x, length-append b y)) same

-- ---- a line's bytes

pub in_line_join : (xs ys : List ℕ) → IsInLine xs → IsInLine ys → IsInLine (xs ++ ys)
in_line_join [] ys one two = two
in_line_join (x ∷ xs) ys one two = (one.0, in_line_join xs ys one.1 two)

no_digit_ends : (m : ℕ) → eqb (48 + m) 10 ≡ false
no_digit_ends m = grind (arith, nat_tests)

digits_in_line : (places n : ℕ) → IsInLine (digits_of places n)
unfolding digits_of
digits_in_line zero n = tt
digits_in_line (suc places) n = in_line_join (digits_of places (n / 10)) ((48 + n % 10) ∷ []) (digits_in_line places (n / 10)) (no_digit_ends (n % 10), tt)

at_no_end : (xs : List ℕ) (i : ℕ) → IsInLine xs → eqb (slice_index xs i) 10 ≡ false
at_no_end [] i within = refl
at_no_end (x ∷ xs) zero within = within.0
at_no_end (x ∷ xs) (suc i) within = at_no_end xs i within.1

table_in_line : IsInLine lower_digits
table_in_line = (refl, (refl, (refl, (refl, (refl, (refl, (refl, (refl, (refl, (refl, (refl, (refl, (refl, (refl, (refl, (refl, tt))))))))))))))))

hex_in_line : (xs : List ℕ) → IsInLine (encode_lower xs)
unfolding encode_with
hex_in_line [] = tt
hex_in_line (b ∷ rest) = (at_no_end lower_digits (b / 16) table_in_line, (at_no_end lower_digits (b % 16) table_in_line, hex_in_line rest))

pub digits_none : (bytes : List ℕ) (places count : ℕ) → places ≡ 0 → bytes ≡ bytes ++ digits_of places count
unfolding digits_of
digits_none bytes places count none = sym (ap (λ (k : ℕ). bytes ++ digits_of k count) none ∙ append-nil bytes)

pub digits_more : (bytes mid new : List ℕ) (places count : ℕ) → 0 < places → mid ≡ bytes ++ digits_of (places - 1) (count / 10) → new ≡ mid ++ (48 + count % 10) ∷ []
    → new ≡ bytes ++ digits_of places count
unfolding digits_of
digits_more bytes mid new zero count some front put = absurd (omega (arith, some))
digits_more bytes mid new (suc k) count some front put =
    let less : suc k - 1 ≡ k = omega arith in
    put ∙ ap (λ (l : List ℕ). l ++ (48 + count % 10) ∷ []) (front ∙ ap (λ (j : ℕ). bytes ++ digits_of j (count / 10)) less)
    ∙ append_assoc bytes (digits_of k (count / 10)) ((48 + count % 10) ∷ [])

-- a mark is put together
pub mark_put : (a b c d e f g h text answers : List ℕ) (count : ℕ) → a ≡ [] → b ≡ a ++ codes "# " → c ≡ b ++ digits_of 20 count → d ≡ c ++ codes " " → e ≡ d ++ text → f ≡ e ++ codes " " → g ≡ f ++ answers
    → h ≡ g ++ 10 ∷ [] → h ≡ mark_text count text answers
unfolding mark_text
mark_put a b c d e f g h text answers count none one two three four five six seven =
    let digits = digits_of 20 count in
    let p : List ℕ = codes "# " in
    let last : List ℕ = answers ++ 10 ∷ [] in
    let b' : b ≡ p = one ∙ ap (λ (l : List ℕ). l ++ p) none in
    let c' : c ≡ p ++ digits = two ∙ ap (λ (l : List ℕ). l ++ digits) b' in
    let d' : d ≡ (p ++ digits) ++ 32 ∷ [] = three ∙ ap (λ (l : List ℕ). l ++ 32 ∷ []) c' in
    let e' : e ≡ ((p ++ digits) ++ 32 ∷ []) ++ text = four ∙ ap (λ (l : List ℕ). l ++ text) d' in
    let f' : f ≡ (((p ++ digits) ++ 32 ∷ []) ++ text) ++ 32 ∷ [] = five ∙ ap (λ (l : List ℕ). l ++ 32 ∷ []) e' in
    seven ∙ ap (λ (l : List ℕ). l ++ 10 ∷ []) (six ∙ ap (λ (l : List ℕ). l ++ answers) f')
    ∙ append_assoc ((((p ++ digits) ++ 32 ∷ []) ++ text) ++ 32 ∷ []) answers (10 ∷ [])
    ∙ append_assoc (((p ++ digits) ++ 32 ∷ []) ++ text) (32 ∷ []) last
    ∙ append_assoc ((p ++ digits) ++ 32 ∷ []) text (32 ∷ last)
    ∙ append_assoc (p ++ digits) (32 ∷ []) (text ++ 32 ∷ last)
    ∙ append_assoc p digits (32 ∷ (text ++ 32 ∷ last))

-- ---- a whole line

pub record IsWhole (line : List ℕ) : Type 0 where
  pub body : List ℕ
  pub within : IsInLine body
  pub ended : line ≡ body ++ 10 ∷ []

pub plain_whole : (line : List ℕ) → IsPlain line → IsWhole line
plain_whole line p = record { body = p.body; within = p.within; ended = p.ended }

same_line : (b d : List ℕ) (x y : List ℕ) → IsInLine b → IsInLine d → (b ++ 10 ∷ []) ++ x ≡ (d ++ 10 ∷ []) ++ y → (b ≡ d) × (x ≡ y)
same_line [] [] x y one two same = (refl, ap (λ (l : List ℕ). drop 1 l) same)
same_line [] (c ∷ d) x y one two same =
    let first : 10 ≡ c = ap (λ (l : List ℕ). get_or l 0 0) same in
    absurd (true≢false (ap (λ n. eqb n 10) first ∙ two.0))
same_line (c ∷ b) [] x y one two same =
    let first : c ≡ 10 = ap (λ (l : List ℕ). get_or l 0 0) same in
    absurd (true≢false (sym (ap (λ n. eqb n 10) first) ∙ one.0))
same_line (c ∷ b) (e ∷ d) x y one two same =
    let first : c ≡ e = ap (λ (l : List ℕ). get_or l 0 0) same in
    let (front, back) = same_line b d x y one.1 two.1 (ap (λ (l : List ℕ). drop 1 l) same) in
    (ap (λ (n : ℕ). n ∷ b) first ∙ ap (λ (l : List ℕ). e ∷ l) front, back)

pub same_whole : (l m : List ℕ) (x y : List ℕ) → IsWhole l → IsWhole m → l ++ x ≡ m ++ y → (l ≡ m) × (x ≡ y)
same_whole l m x y one two same =
    let (bodies, back) = same_line one.body two.body x y one.within two.within (ap (λ (k : List ℕ). k ++ x) (sym one.ended) ∙ same ∙ ap (λ (k : List ℕ). k ++ y) two.ended) in
    (one.ended ∙ ap (λ (k : List ℕ). k ++ 10 ∷ []) bodies ∙ sym two.ended, back)

first_line : (b x : List ℕ) → IsInLine b → lines_of ((b ++ 10 ∷ []) ++ x) ≡ (b ++ 10 ∷ []) ∷ lines_of x
first_line [] x within = refl
first_line (c ∷ b) x within =
    let back = (b ++ 10 ∷ []) ++ x in
    ap (λ (t : Bool). cond t ((c ∷ []) ∷ lines_of back) (onto c (lines_of back))) within.0 ∙ ap (onto c) (first_line b x within.1)

pub first_whole : (l x : List ℕ) → IsWhole l → lines_of (l ++ x) ≡ l ∷ lines_of x
first_whole l x one =
    ap (λ (k : List ℕ). lines_of (k ++ x)) one.ended ∙ first_line one.body x one.within ∙ ap (λ (k : List ℕ). k ∷ lines_of x) (sym one.ended)

-- ---- a mark

digest_long : (m : List ℕ) → length (digest m) ≡ 64
digest_long m = let hex = length-encode_with lower_digits (sha256 m) in let bytes = length-sha256 m in omega (arith, hex, bytes)

pub mark_whole : (t : Totals) → IsWhole (mark_of t)
unfolding mark_text
mark_whole t =
    let count = digits_of 20 t.count in
    let text = digest t.text in
    let answers = digest t.answers in
    let behind : List ℕ = text ++ 32 ∷ answers in
    record {
      body = 35 ∷ 32 ∷ (count ++ 32 ∷ behind);
      within = (
        refl,
        (
          refl,
          in_line_join count (32 ∷ behind) (digits_in_line 20 t.count)
              (refl, in_line_join text (32 ∷ answers) (hex_in_line (sha256 t.text)) (refl, hex_in_line (sha256 t.answers))),
        ),
      );
      ended = ap (λ (l : List ℕ). 35 ∷ 32 ∷ l)
          (ap (λ (l : List ℕ). count ++ 32 ∷ l) (sym (append_assoc text (32 ∷ answers) (10 ∷ []))) ∙ sym (append_assoc count (32 ∷ behind) (10 ∷ [])));
    }

pub mark_starts : (t : Totals) → starts_mark (mark_of t) ≡ true
unfolding mark_text
mark_starts t = refl

pub mark_long : (t : Totals) → 0 < length (mark_of t)
unfolding mark_text
mark_long t = omega arith

pub mark_tells : (t u : Totals) → mark_of t ≡ mark_of u → (digest t.text ≡ digest u.text) × (digest t.answers ≡ digest u.answers)
unfolding mark_text
mark_tells t u same =
    let one : List ℕ = digest t.answers ++ 10 ∷ [] in
    let two : List ℕ = digest u.answers ++ 10 ∷ [] in
    let short : length one ≡ length two = omega (arith, length-append (digest t.answers) (10 ∷ []), length-append (digest u.answers) (10 ∷ []), digest_long t.answers, digest_long u.answers) in
    let front : List ℕ = digest t.text ++ 32 ∷ one in
    let other : List ℕ = digest u.text ++ 32 ∷ two in
    let long : length (32 ∷ front) ≡ length (32 ∷ other) =
    omega (arith, short, length-append (digest t.text) (32 ∷ one), length-append (digest u.text) (32 ∷ two), digest_long t.text, digest_long u.text) in
    let (counts, back) = split_back (digits_of 20 t.count) (digits_of 20 u.count) (32 ∷ front) (32 ∷ other) long (ap (λ (l : List ℕ). drop 2 l) same) in
    let (texts, behind) = split_front (digest t.text) (digest u.text) (32 ∷ one) (32 ∷ two) (omega (arith, digest_long t.text, digest_long u.text)) (ap (λ (l : List ℕ). drop 1 l) back) in
    let (answers, end) = split_front (digest t.answers) (digest u.answers) (10 ∷ []) (10 ∷ []) (omega (arith, digest_long t.answers, digest_long u.answers)) (ap (λ (l : List ℕ). drop 1 l) behind) in
    (texts, answers)

-- no line of a batch is a mark
mark_or_line : (t : Totals) (line : List ℕ) → IsPlain line → mark_of t ≡ line → ⊥
mark_or_line t line p same = true≢false (sym (mark_starts t) ∙ ap starts_mark same ∙ p.plain)

-- ---- a batch

-- two batches stand at the beginning of one text
pub batch_same : (t u : Totals) (one other : List Entry) (x y : List ℕ) → IsBatch one → IsBatch other → text_of one ++ (mark_of t ++ x) ≡ text_of other ++ (mark_of u ++ y)
    → (map (λ (e : Entry). e.line) one ≡ map (λ (e : Entry). e.line) other) × (mark_of t ≡ mark_of u) × (x ≡ y)
batch_same t u [] [] x y ones others same = let (marks, back) = same_whole (mark_of t) (mark_of u) x y (mark_whole t) (mark_whole u) same in (refl, marks, back)
batch_same t u [] (f ∷ other) x y ones others same =
    let (first, back) = same_whole (mark_of t) f.line x (text_of other ++ (mark_of u ++ y)) (mark_whole t) (plain_whole f.line others.0)
    (same ∙ append_assoc f.line (text_of other) (mark_of u ++ y)) in
    absurd (mark_or_line t f.line others.0 first)
batch_same t u (e ∷ one) [] x y ones others same =
    let (first, back) = same_whole e.line (mark_of u) (text_of one ++ (mark_of t ++ x)) y (plain_whole e.line ones.0) (mark_whole u)
    (sym (append_assoc e.line (text_of one) (mark_of t ++ x)) ∙ same) in
    absurd (mark_or_line u e.line ones.0 (sym first))
batch_same t u (e ∷ one) (f ∷ other) x y ones others same =
    let (first, back) = same_whole e.line f.line (text_of one ++ (mark_of t ++ x)) (text_of other ++ (mark_of u ++ y)) (plain_whole e.line ones.0) (plain_whole f.line others.0)
    (sym (append_assoc e.line (text_of one) (mark_of t ++ x)) ∙ same ∙ append_assoc f.line (text_of other) (mark_of u ++ y)) in
    let (lines, marks, behind) = batch_same t u one other x y ones.1 others.1 back in
    (ap (λ (l : List ℕ). l ∷ map (λ (e : Entry). e.line) one) first ∙ ap (λ (l : List (List ℕ)). f.line ∷ l) lines, marks, behind)

whole_some : (line x : List ℕ) → IsWhole line → [] ≡ line ++ x → ⊥
whole_some line x one same =
    let long = ap length same in
    absurd (omega (arith, long, length-append line x, ap length one.ended, length-append one.body (10 ∷ [])))

-- the lines of a text are its own
pub lines_same : (one other : List Entry) → IsBatch one → IsBatch other → text_of one ≡ text_of other → map (λ (e : Entry). e.line) one ≡ map (λ (e : Entry). e.line) other
lines_same [] [] ones others same = refl
lines_same [] (f ∷ other) ones others same = absurd (whole_some f.line (text_of other) (plain_whole f.line others.0) same)
lines_same (e ∷ one) [] ones others same = absurd (whole_some e.line (text_of one) (plain_whole e.line ones.0) (sym same))
lines_same (e ∷ one) (f ∷ other) ones others same =
    let (first, back) = same_whole e.line f.line (text_of one) (text_of other) (plain_whole e.line ones.0) (plain_whole f.line others.0) same in
    ap (λ (l : List ℕ). l ∷ map (λ (e : Entry). e.line) one) first ∙ ap (λ (l : List (List ℕ)). f.line ∷ l) (lines_same one other ones.1 others.1 back)

-- ---- the end of a line

pub last_is : (xs : List ℕ) (c b : ℕ) → ends_with_byte b (xs ++ c ∷ []) ≡ eqb c b
last_is xs c b =
    let ys = xs ++ c ∷ [] in
    let n : length ys - 1 ≡ length xs + 0 = omega (arith, length-append xs (c ∷ [])) in
    let some : nat_lt 0 (length ys) ≡ true = ap (nat_lt 0) (length-append xs (c ∷ [])) ∙ positive (length xs) in
    ap (λ t. t && eqb (get_or ys (length ys - 1) 0) b) some ∙ ap (λ i. eqb (get_or ys i 0) b) n ∙ ap (λ v. eqb v b) (get_or-append-add xs (c ∷ []) 0 0)
  where
    positive : (m : ℕ) → nat_lt 0 (m + 1) ≡ true
    positive m = grind (arith, nat_tests)

digits_long : (places n : ℕ) → length (digits_of places n) ≡ places
unfolding digits_of
digits_long zero n = refl
digits_long (suc places) n = omega (arith, length-append (digits_of places (n / 10)) ((48 + n % 10) ∷ []), digits_long places (n / 10))

marks_long : (t : Totals) → length (mark_of t) ≡ 153
unfolding mark_text
marks_long t =
    let count = digits_of 20 t.count in
    let text = digest t.text in
    let answers = digest t.answers in
    let last : List ℕ = 32 ∷ (answers ++ 10 ∷ []) in
    omega (arith, digits_long 20 t.count, digest_long t.text, digest_long t.answers, length-append answers (10 ∷ []), length-append text last, length-append count (32 ∷ (text ++ last)))

length_test : (n : ℕ) → n ≡ 153 → eqb n 153 ≡ true
length_test n h = ap (λ k. eqb k 153) h

mark_is_one : (t : Totals) → is_whole_mark (mark_of t) ≡ true
mark_is_one t =
    let w = mark_whole t in
    ap (λ b. b && (ends_with_byte 10 (mark_of t) && eqb (length (mark_of t)) 153)) (mark_starts t)
    ∙ ap (λ b. b && eqb (length (mark_of t)) 153) (ap (ends_with_byte 10) w.ended ∙ last_is w.body 10 10) ∙ length_test (length (mark_of t)) (marks_long t)

-- a batch has a mark behind it
pub has_mark : (t : Totals) (batch : List Entry) (x : List ℕ) → IsBatch batch → NoMark (text_of batch ++ (mark_of t ++ x)) → ⊥
has_mark t [] x all none =
    let here = subst (λ (ls : List (List ℕ)). AllByRecursion (λ line. is_whole_mark line ≡ false) ls) (first_whole (mark_of t) x (mark_whole t)) none in
    true≢false (sym (mark_is_one t) ∙ here.0)
has_mark t (e ∷ batch) x all none =
    let back = text_of batch ++ (mark_of t ++ x) in
    let here = subst (λ (ls : List (List ℕ)). AllByRecursion (λ line. is_whole_mark line ≡ false) ls)
    (ap lines_of (append_assoc e.line (text_of batch) (mark_of t ++ x)) ∙ first_whole e.line back (plain_whole e.line all.0)) none in
    has_mark t batch x all.1 here.1
