-- A log of batches: each is its lines, and behind them a mark.
use Rattle.std.specs.Prelude.{◌≡◌, ◌==◌, ◌&&◌, ◌++◌, ◌∷◌, ◌+◌, ◌/◌, ◌%◌, ℕ, zero, suc, Bool, false, List, [], length, flat_map, codes, refl}
use Rattle.std.specs.Io.BufRead.{ends_with_byte}
use Rattle.sha2.specs.Sha256.{sha256}
use Rattle.hex.specs.Hex.{encode_lower}

-- a line of a log with its end, and its answer without one
pub record Entry : Type 0 where
  pub line : List ℕ
  pub answer : List ℕ

-- what a mark tells of a log: how many lines it has, all its bytes, and all answers to its lines, each with an end
pub record Totals : Type 0 where
  pub count : ℕ
  pub text : List ℕ
  pub answers : List ℕ

-- Of a log that has its first line alone. The logs before have so many lines: 0 where there are none. Else that line holds the digests of what they
-- are, so the text that marks speak of begins with it, and the answers begin anew.
abbrev pub begins_from : List ℕ → ℕ → Totals
begins_from head before = record { count = before; text = head; answers = [] }

-- with a line more
abbrev pub noted : Totals → Entry → Totals
noted t e = record { count = t.count + 1; text = t.text ++ e.line; answers = (t.answers ++ e.answer) ++ 10 ∷ [] }

-- ---- a mark

-- the last decimal digits of a number, so many
unfoldable pub digits_of : ℕ → ℕ → List ℕ
digits_of zero n = []
digits_of (suc places) n = digits_of places (n / 10) ++ (48 + n % 10) ∷ []

-- the digest of a text, as 64 hexadecimal digits
abbrev pub digest : List ℕ → List ℕ
digest text = encode_lower (sha256 text)

-- a mark with its end
unfoldable pub mark_text : ℕ → List ℕ → List ℕ → List ℕ
mark_text count text answers = codes "# " ++ (digits_of 20 count ++ (32 ∷ (text ++ (32 ∷ (answers ++ 10 ∷ [])))))

-- the mark that stands behind what it tells of
abbrev pub mark_of : Totals → List ℕ
mark_of t = mark_text t.count (digest t.text) (digest t.answers)

-- with the mark behind it
abbrev pub passed : Totals → Totals
passed t = record { count = t.count; text = t.text ++ mark_of t; answers = t.answers }

-- a line of a log is a mark
abbrev pub starts_mark : List ℕ → Bool
starts_mark [] = false
starts_mark (x ∷ xs) = x == 35

-- it is one with its end: each mark has this length
abbrev pub is_whole_mark : List ℕ → Bool
is_whole_mark line = starts_mark line && (ends_with_byte 10 line && (length line == 153))

-- ---- batches

-- the lines of a batch, as they stand in a log
abbrev pub text_of : List Entry → List ℕ
text_of batch = flat_map (λ e. e.line) batch

-- with the lines of a batch
abbrev pub with_batch : Totals → List Entry → Totals
with_batch t [] = t
with_batch t (e ∷ batch) = with_batch (noted t e) batch

-- with a batch and its mark
abbrev pub behind : Totals → List Entry → Totals
behind t batch = passed (with_batch t batch)

-- how batches stand in a log
abbrev pub marked : Totals → List (List Entry) → List ℕ
marked t [] = []
marked t (batch ∷ more) = text_of batch ++ (mark_of (with_batch t batch) ++ marked (behind t batch) more)

-- what the log comes to behind them
abbrev pub totals_behind : Totals → List (List Entry) → Totals
totals_behind t [] = t
totals_behind t (batch ∷ more) = totals_behind (behind t batch) more

-- what each mark tells of
abbrev pub told_by : Totals → List (List Entry) → List Totals
told_by t [] = []
told_by t (batch ∷ more) = with_batch t batch ∷ told_by (behind t batch) more

-- ---- examples

digits_fill_their_places : digits_of 4 57 ≡ codes "0057"
unfolding digits_of
digits_fill_their_places = refl

a_mark_is_a_line : mark_text 3 (codes "ab") (codes "cd") ≡ codes "# 00000000000000000003 ab cd" ++ 10 ∷ []
unfolding digits_of mark_text
a_mark_is_a_line = refl

listed : Entry
listed = record { line = codes "ls /" ++ 10 ∷ []; answer = codes "ok" }

a_batch_is_counted : (with_batch (begins_from (codes "head" ++ 10 ∷ []) 0) (listed ∷ [])) ≡ record { count = 1; text = codes "head" ++ 10 ∷ codes "ls /" ++ 10 ∷ []; answers = codes "ok" ++ 10 ∷ [] }
unfolding listed
a_batch_is_counted = refl

lines_before_are_counted : (with_batch (begins_from (codes "head" ++ 10 ∷ []) 7) (listed ∷ [])) ≡ record { count = 8; text = codes "head" ++ 10 ∷ codes "ls /" ++ 10 ∷ []; answers = codes "ok" ++ 10 ∷ [] }
unfolding listed
lines_before_are_counted = refl
