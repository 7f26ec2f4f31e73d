-- A log is measured line by line.
use Rattle.std.proofs.Common.{◌≡◌, ◌<◌, ◌≤◌, ◌+◌, ◌-◌, ◌++◌, ◌∷◌, ◌⊎◌, ⊎_elim, [], ℕ, List, Bool, true, false, true≢false, cond, eqb, length, take, length-take, flat_map, Option, Some, None, IfSome, Result, Ok, Err, IfErr, IsErrAnd, refl, sym, ap, subst, ◌∙◌, arith, append_assoc, append-nil, length-append, eqb-true, ◌&&◌, inl, inr}
use Rattle.std.proofs.lemmas.Grind.{flat_map-append}
use Rattle.std.proofs.lemmas.Bool.Decides.{nat_tests}
use Rattle.std.specs.List.{AllByRecursion}
use Rattle.std.specs.Io.BufRead.{drop_through, ends_with_byte, strip_last, take_through}
use Rattle.std.proofs.BufReadLemmas.{take_through_nonempty}
use Rattle.gs_shell_line.specs.Line.{content, longest_line}
use Rattle.gs_shell_script.specs.Run.{lines_of}
use Rattle.gs_shell_script.proofs.Lines.{lines_of-step}
use Rattle.gs_keep_mark.specs.Marks.{is_whole_mark, starts_mark}
use Rattle.gs_keep_mark.proofs.Lines.{last_is}
use Rattle.gs_keep_measure.specs.declared.Measure.{Measure}
use Rattle.gs_keep_measure.specs.declared.MeasureFault.{MeasureFault}
use Rattle.gs_keep_measure.specs.declared.MeasureFault.TheVariants as fault
use Rattle.gs_keep_measure.specs.Measure.{AreTooMany, HasLateMark, IsWhole, LastIsMark, Measures, NoneMark, Refuses, StopsFirst, bytes_in}
use Rattle.gs_keep_measure.specs.Steps.{CantTake, Loses, MarksAs, Passes, RefusesNext, Takes, TakesOne}

all_join : {X : Type 0} (P : X → Type 0) (xs ys : List X) → AllByRecursion P xs → AllByRecursion P ys → AllByRecursion P (xs ++ ys)
all_join P [] ys one two = two
all_join P (x ∷ xs) ys one two = (one.0, all_join P xs ys one.1 two)

bytes_push : (lines : List (List ℕ)) (line : List ℕ) → bytes_in (lines ++ line ∷ []) ≡ bytes_in lines + length line
bytes_push lines line =
    omega (arith, ap length (flat_map-append (λ (l : List ℕ). l) lines (line ∷ [])), length-append (flat_map (λ (l : List ℕ). l) lines) (flat_map (λ (l : List ℕ). l) (line ∷ [])), ap length (append-nil line))

bytes_join : (a b : List (List ℕ)) → bytes_in (a ++ b) ≡ bytes_in a + bytes_in b
bytes_join a b = omega (arith, ap length (flat_map-append (λ (l : List ℕ). l) a b), length-append (flat_map (λ (l : List ℕ). l) a) (flat_map (λ (l : List ℕ). l) b))

ended_some : (xs : List ℕ) → ends_with_byte 10 xs ≡ true → 0 < length xs
ended_some [] e = absurd (true≢false (sym e))
ended_some (x ∷ xs) e = omega arith

-- a line that is longer than a line may be is no mark
strip_shorter : (b : ℕ) (l : List ℕ) → length (strip_last b l) ≤ length l
strip_shorter b l = at (ends_with_byte b l)
  where
    at : (t : Bool) → length (cond t (take (length l - 1) l) l) ≤ length l
    at true = omega (arith, length-take (length l - 1) l)
    at false = omega arith

content_shorter : (l : List ℕ) → length (content l) ≤ length l
content_shorter l = at (ends_with_byte 10 l)
  where
    at : (t : Bool) → length (cond t (strip_last 13 (strip_last 10 l)) l) ≤ length l
    at true = omega (arith, strip_shorter 13 (strip_last 10 l), strip_shorter 10 l)
    at false = omega arith

other_length : (n : ℕ) → longest_line < n → eqb n 153 ≡ false
other_length n long = grind (arith, nat_tests)

neither : (a b : Bool) → (a && (b && false)) ≡ false
neither true true = refl
neither true false = refl
neither false b = refl

pub long_unmarked : (line : List ℕ) → longest_line < length (content line) → is_whole_mark line ≡ false
long_unmarked line long =
    ap (λ b. starts_mark line && (ends_with_byte 10 line && b)) (other_length (length line) (omega (arith, long, content_shorter line))) ∙ neither (starts_mark line) (ends_with_byte 10 line)

pub if_some : {A : Type 0} (o : Option A) (P Q : A → Type 0) → ((x : A) → P x → Q x) → IfSome o P → IfSome o Q
if_some None P Q f h = tt
if_some (Some x) P Q f h = f x h

-- a line without its end is the last
ends_or_last : (xs : List ℕ) → (drop_through 10 xs ≡ []) ⊎ ((b : List ℕ) × (take_through 10 xs ≡ b ++ 10 ∷ []))
ends_or_last [] = inl refl
ends_or_last (x ∷ xs) = at (eqb x 10) refl (ends_or_last xs)
  where
    at : (b : Bool) → eqb x 10 ≡ b → (drop_through 10 xs ≡ []) ⊎ ((b : List ℕ) × (take_through 10 xs ≡ b ++ 10 ∷ []))
        → (cond b xs (drop_through 10 xs) ≡ []) ⊎ ((k : List ℕ) × (cond b (x ∷ []) (x ∷ take_through 10 xs) ≡ k ++ 10 ∷ []))
    at true e more = inr ([], ap (λ (n : ℕ). n ∷ []) (eqb-true x 10 e))
    at false e more = ⊎_elim (λ none. inl none) (λ ended. inr (x ∷ ended.0, ap (λ (l : List ℕ). x ∷ l) ended.1)) more

last_unended : (xs : List ℕ) → ends_with_byte 10 (take_through 10 xs) ≡ false → drop_through 10 xs ≡ []
last_unended xs torn = ⊎_elim (λ none. none) (λ ended. absurd (true≢false (sym (ap (ends_with_byte 10) ended.1 ∙ last_is ended.0 10 10) ∙ torn))) (ends_or_last xs)

no_and : (a : Bool) (b : Bool) → (a && (false && b)) ≡ false
no_and true b = refl
no_and false b = refl

torn_unmarked : (line : List ℕ) → ends_with_byte 10 line ≡ false → is_whole_mark line ≡ false
torn_unmarked line torn = ap (λ b. starts_mark line && (b && eqb (length line) 153)) torn ∙ no_and (starts_mark line) (eqb (length line) 153)

-- these lines begin with one that is too long, or there are none
abbrev BeginsLost : Bool → List (List ℕ) → Type 0
BeginsLost false lines = lines ≡ []
BeginsLost true [] = ⊥
BeginsLost true (line ∷ more) = longest_line < length (content line)

-- so far
pub record Seen (xs rest : List ℕ) (count : ℕ) (now : Measure) : Type 0 where
  pub front : List (List ℕ)
  pub back : List (List ℕ)
  pub lost : List (List ℕ)
  pub parts : lines_of xs ≡ front ++ (back ++ (lost ++ lines_of rest))
  pub last : LastIsMark front
  pub none : NoneMark (back ++ lost)
  pub are_whole : AllByRecursion IsWhole (front ++ back)
  pub begins : BeginsLost now.is_lost lost
  pub marked_long : bytes_in front ≡ now.marked
  pub marked_many : length front ≡ now.marked_lines
  pub whole_long : bytes_in (front ++ back) ≡ now.whole
  pub whole_many : length (front ++ back) ≡ now.whole_lines
  pub many : count ≤ length front + (length back + length lost)

abbrev pub SoFar : List ℕ → Option (List ℕ) → ℕ → Measure → Type 0
SoFar xs left count now = (rest : List ℕ) × (left ≡ Some rest) × Seen xs rest count now

pub none_yet : (o : Option (List ℕ)) (now : Measure) → now.marked ≡ 0 → now.marked_lines ≡ 0 → now.whole ≡ 0 → now.whole_lines ≡ 0 → now.is_lost ≡ false → IfSome o (λ xs. SoFar xs o 0 now)
none_yet None now marked marked_lines whole whole_lines held = tt
none_yet (Some xs) now marked marked_lines whole whole_lines held = (
  xs,
  refl,
  record {
    front = [];
    back = [];
    lost = [];
    parts = refl;
    last = inl refl;
    none = tt;
    are_whole = tt;
    begins = subst (λ b. BeginsLost b []) (sym held) refl;
    marked_long = sym marked;
    marked_many = sym marked_lines;
    whole_long = sym whole;
    whole_many = sym whole_lines;
    many = omega arith;
  },
)

-- nothing is lost yet
not_lost : (now : Measure) (lost : List (List ℕ)) → now.is_lost ≡ false → BeginsLost now.is_lost lost → lost ≡ []
not_lost now lost held begins = subst (λ b. BeginsLost b lost) held begins

held_parts : (xs rest : List ℕ) (front back lost : List (List ℕ)) → lines_of xs ≡ front ++ (back ++ (lost ++ lines_of rest)) → lost ≡ [] → 0 < length rest
    → lines_of xs ≡ front ++ (back ++ (take_through 10 rest ∷ lines_of (drop_through 10 rest)))
held_parts xs rest front back lost parts none some =
    parts ∙ ap (λ (l : List (List ℕ)). front ++ (back ++ (l ++ lines_of rest))) none ∙ ap (λ (l : List (List ℕ)). front ++ (back ++ l)) (lines_of-step rest some)

other_more : (xs rest : List ℕ) (count : ℕ) (now more : Measure) → Seen xs rest count now → 0 < length rest → IsWhole (take_through 10 rest) → is_whole_mark (take_through 10 rest) ≡ false
    → now.is_lost ≡ false → more.is_lost ≡ false → more.whole ≡ now.whole + length (take_through 10 rest) → more.whole_lines ≡ now.whole_lines + 1 → more.marked ≡ now.marked
    → more.marked_lines ≡ now.marked_lines → Seen xs (drop_through 10 rest) (count + 1) more
other_more xs rest count now more s some one other held still sum lines marked marked_lines =
    let line = take_through 10 rest in
    let after = lines_of (drop_through 10 rest) in
    let none = not_lost now s.lost held s.begins in
    let grown : s.front ++ (s.back ++ line ∷ []) ≡ (s.front ++ s.back) ++ line ∷ [] = sym (append_assoc s.front s.back (line ∷ [])) in
    let none_back : NoneMark (s.back ++ []) = subst (λ l. NoneMark (s.back ++ l)) none s.none in
    record {
      front = s.front;
      back = s.back ++ line ∷ [];
      lost = [];
      parts = held_parts xs rest s.front s.back s.lost s.parts none some ∙ ap (λ (l : List (List ℕ)). s.front ++ l) (sym (append_assoc s.back (line ∷ []) after));
      last = s.last;
      none = subst NoneMark (sym (append-nil (s.back ++ line ∷ []))) (all_join _ s.back (line ∷ []) (subst NoneMark (append-nil s.back) none_back) (other, tt));
      are_whole = subst (AllByRecursion IsWhole) (sym grown) (all_join IsWhole (s.front ++ s.back) (line ∷ []) s.are_whole (one, tt));
      begins = subst (λ b. BeginsLost b []) (sym still) refl;
      marked_long = s.marked_long ∙ sym marked;
      marked_many = s.marked_many ∙ sym marked_lines;
      whole_long = ap bytes_in grown ∙ bytes_push (s.front ++ s.back) line ∙ ap (λ (n : ℕ). n + length line) s.whole_long ∙ sym sum;
      whole_many = ap length grown ∙ length-append (s.front ++ s.back) (line ∷ []) ∙ ap (λ (n : ℕ). n + 1) s.whole_many ∙ sym lines;
      many = omega (arith, s.many, ap length none, length-append s.back (line ∷ []));
    }

mark_more : (xs rest : List ℕ) (count : ℕ) (now more : Measure) → Seen xs rest count now → 0 < length rest → IsWhole (take_through 10 rest) → is_whole_mark (take_through 10 rest) ≡ true
    → now.is_lost ≡ false → more.is_lost ≡ false → more.whole ≡ now.whole + length (take_through 10 rest) → more.whole_lines ≡ now.whole_lines + 1 → more.marked ≡ more.whole
    → more.marked_lines ≡ more.whole_lines → Seen xs (drop_through 10 rest) (count + 1) more
mark_more xs rest count now more s some one mark held still sum lines marked marked_lines =
    let line = take_through 10 rest in
    let after = lines_of (drop_through 10 rest) in
    let none = not_lost now s.lost held s.begins in
    let front : List (List ℕ) = (s.front ++ s.back) ++ line ∷ [] in
    let long : bytes_in front ≡ more.whole = bytes_push (s.front ++ s.back) line ∙ ap (λ (n : ℕ). n + length line) s.whole_long ∙ sym sum in
    let many : length front ≡ more.whole_lines = length-append (s.front ++ s.back) (line ∷ []) ∙ ap (λ (n : ℕ). n + 1) s.whole_many ∙ sym lines in
    record {
      front = front;
      back = [];
      lost = [];
      parts = held_parts xs rest s.front s.back s.lost s.parts none some ∙ sym (append_assoc s.front s.back (line ∷ after)) ∙ sym (append_assoc (s.front ++ s.back) (line ∷ []) after);
      last = inr (s.front ++ s.back, line, refl, mark);
      none = tt;
      are_whole = subst (AllByRecursion IsWhole) (sym (append-nil front)) (all_join IsWhole (s.front ++ s.back) (line ∷ []) s.are_whole (one, tt));
      begins = subst (λ b. BeginsLost b []) (sym still) refl;
      marked_long = long ∙ sym marked;
      marked_many = many ∙ sym marked_lines;
      whole_long = ap bytes_in (append-nil front) ∙ long;
      whole_many = ap length (append-nil front) ∙ many;
      many = omega (arith, s.many, ap length none, length-append (s.front ++ s.back) (line ∷ []), length-append s.front s.back);
    }

-- a line more stands after one that is too long, or is it
lost_more : (xs rest : List ℕ) (count : ℕ) (now more : Measure) (s : Seen xs rest count now) → 0 < length rest → is_whole_mark (take_through 10 rest) ≡ false
    → BeginsLost more.is_lost (s.lost ++ take_through 10 rest ∷ []) → more.whole ≡ now.whole → more.whole_lines ≡ now.whole_lines → more.marked ≡ now.marked → more.marked_lines ≡ now.marked_lines
    → Seen xs (drop_through 10 rest) (count + 1) more
lost_more xs rest count now more s some other begins whole lines marked marked_lines =
    let line = take_through 10 rest in
    let after = lines_of (drop_through 10 rest) in
    record {
      front = s.front;
      back = s.back;
      lost = s.lost ++ line ∷ [];
      parts = s.parts ∙ ap (λ (l : List (List ℕ)). s.front ++ (s.back ++ (s.lost ++ l))) (lines_of-step rest some)
          ∙ ap (λ (l : List (List ℕ)). s.front ++ (s.back ++ l)) (sym (append_assoc s.lost (line ∷ []) after));
      last = s.last;
      none = subst NoneMark (append_assoc s.back s.lost (line ∷ [])) (all_join _ (s.back ++ s.lost) (line ∷ []) s.none (other, tt));
      are_whole = s.are_whole;
      begins = begins;
      marked_long = s.marked_long ∙ sym marked;
      marked_many = s.marked_many ∙ sym marked_lines;
      whole_long = s.whole_long ∙ sym whole;
      whole_many = s.whole_many ∙ sym lines;
      many = omega (arith, s.many, length-append s.lost (line ∷ []));
    }

-- what begins with a line that is too long does so with more lines
still_lost : (lost more : List (List ℕ)) → BeginsLost true lost → BeginsLost true (lost ++ more)
still_lost [] more begins = absurd begins
still_lost (line ∷ lost) more begins = begins

now_lost : (b : Bool) (lost : List (List ℕ)) (line : List ℕ) → longest_line < length (content line) → BeginsLost b lost → BeginsLost true (lost ++ line ∷ [])
now_lost true lost line long begins = still_lost lost (line ∷ []) begins
now_lost false lost line long begins = subst (λ (l : List (List ℕ)). BeginsLost true (l ++ line ∷ [])) (sym begins) long

pub one_more : (xs : List ℕ) (left left' : Option (List ℕ)) (count : ℕ) (now more : Measure) → SoFar xs left count now → IfSome left (λ ys. TakesOne (Some more) ys left' now)
    → SoFar xs left' (count + 1) more
one_more xs left left' count now more (rest, is, s) one =
    let (some, left_is, step) = subst (λ (o : Option (List ℕ)). IfSome o (λ ys. TakesOne (Some more) ys left' now)) is one in
    (drop_through 10 rest, left_is, ⊎_elim (λ taken. taken_one some taken.0 taken.1) (loses some) step)
  where
    line : List ℕ
    line = take_through 10 rest

    marks : 0 < length rest → (b : Bool) → is_whole_mark line ≡ b → IsWhole line → now.is_lost ≡ false → more.is_lost ≡ false → more.whole ≡ now.whole + length line
        → more.whole_lines ≡ now.whole_lines + 1 → MarksAs b now more → Seen xs (drop_through 10 rest) (count + 1) more
    marks some true e whole held still sum lines (marked, marked_lines) = mark_more xs rest count now more s some whole e held still sum lines marked marked_lines
    marks some false e whole held still sum lines (marked, marked_lines) = other_more xs rest count now more s some whole e held still sum lines marked marked_lines

    passes : 0 < length rest → Passes now more line → Seen xs (drop_through 10 rest) (count + 1) more
    passes some (lost, other, same) =
        let begins : BeginsLost true s.lost = subst (λ b. BeginsLost b s.lost) lost s.begins in
        lost_more xs rest count now more s some other (subst (λ b. BeginsLost b (s.lost ++ line ∷ [])) (sym (ap (λ (m : Measure). m.is_lost) same ∙ lost)) (still_lost s.lost (line ∷ []) begins))
        (ap (λ (m : Measure). m.whole) same) (ap (λ (m : Measure). m.whole_lines) same) (ap (λ (m : Measure). m.marked) same) (ap (λ (m : Measure). m.marked_lines) same)

    taken_one : 0 < length rest → IsWhole line → Takes now more line → Seen xs (drop_through 10 rest) (count + 1) more
    taken_one some whole taken =
        ⊎_elim (λ grows. marks some (is_whole_mark line) refl whole grows.0 grows.1 grows.2 grows.3 grows.4) (passes some) taken

    loses : 0 < length rest → Loses now more line → Seen xs (drop_through 10 rest) (count + 1) more
    loses some (long, lost, whole, lines, marked, marked_lines) =
        lost_more xs rest count now more s some (long_unmarked line long) (subst (λ b. BeginsLost b (s.lost ++ line ∷ [])) (sym lost) (now_lost now.is_lost s.lost line long s.begins)) whole lines marked marked_lines

pub all_measured : (xs : List ℕ) (left left' : Option (List ℕ)) (count : ℕ) (now : Measure) → SoFar xs left count now → IfSome left (λ ys. TakesOne None ys left' now) → Measures xs now
all_measured xs left left' count now (rest, is, s) one = ⊎_elim ended torn (subst (λ (o : Option (List ℕ)). IfSome o (λ ys. TakesOne None ys left' now)) is one)
  where
    stopped : (b : Bool) (lost last : List (List ℕ)) → BeginsLost b lost → StopsFirst false last → StopsFirst b (lost ++ last)
    stopped false lost last none stops = subst (λ (l : List (List ℕ)). StopsFirst false (l ++ last)) (sym none) stops
    stopped true [] last begins stops = absurd begins
    stopped true (line ∷ lost) last begins stops = begins

    measured : (last : List (List ℕ)) → lines_of rest ≡ last → NoneMark last → StopsFirst false last → Measures xs now
    measured last same none stops = record {
      front = s.front;
      back = s.back;
      torn = s.lost ++ last;
      parts = s.parts ∙ ap (λ (l : List (List ℕ)). s.front ++ (s.back ++ (s.lost ++ l))) same;
      last = s.last;
      none = subst NoneMark (append_assoc s.back s.lost last) (all_join _ (s.back ++ s.lost) last s.none none);
      are_whole = s.are_whole;
      stops = stopped now.is_lost s.lost last s.begins stops;
      marked_long = s.marked_long;
      marked_many = s.marked_many;
      whole_long = s.whole_long;
      whole_many = s.whole_many;
    }

    ended : rest ≡ [] → Measures xs now
    ended none = measured [] (ap lines_of none) tt tt

    torn : ends_with_byte 10 (take_through 10 rest) ≡ false → Measures xs now
    torn unended = at rest refl
      where
        at : (ys : List ℕ) → rest ≡ ys → Measures xs now
        at [] none = ended none
        at (x ∷ ys) same =
            let line = take_through 10 (x ∷ ys) in
            let is_torn : ends_with_byte 10 line ≡ false = ap (λ (l : List ℕ). ends_with_byte 10 (take_through 10 l)) (sym same) ∙ unended in
            let one : lines_of (x ∷ ys) ≡ line ∷ [] = lines_of-step (x ∷ ys) (omega arith) ∙ ap (λ (l : List ℕ). line ∷ lines_of l) (last_unended (x ∷ ys) is_torn) in
            measured (line ∷ []) (ap lines_of same ∙ one) (torn_unmarked line is_torn, tt) (is_torn, refl)

-- ---- where it can't be measured

bytes_more : (line : List ℕ) (lines : List (List ℕ)) → bytes_in (line ∷ lines) ≡ length line + bytes_in lines
bytes_more line lines = length-append line (flat_map (λ (l : List ℕ). l) lines)

pub not_measured : (e : MeasureFault) (xs : List ℕ) (left : Option (List ℕ)) (count : ℕ) (now : Measure) → SoFar xs left count now → IfSome left (λ ys. RefusesNext e ys now) → Refuses e xs
not_measured (fault.Read error) xs left count now so_far one = tt
not_measured fault.Memory xs left count now (rest, is, s) one =
    let some = subst (λ (o : Option (List ℕ)). IfSome o (λ ys. RefusesNext fault.Memory ys now)) is one in
    let next = lines_of-step rest some in
    omega (arith, ap length s.parts, length-append s.front (s.back ++ (s.lost ++ lines_of rest)), length-append s.back (s.lost ++ lines_of rest), length-append s.lost (lines_of rest), ap length next)
not_measured fault.Damaged xs left count now (rest, is, s) one =
    let (some, cant) = subst (λ (o : Option (List ℕ)). IfSome o (λ ys. RefusesNext fault.Damaged ys now)) is one in
    ⊎_elim (λ late. inl (late_mark some late.0 late.1)) (λ full. inr (too_many some full.0 full.1)) cant
  where
    line : List ℕ
    line = take_through 10 rest

    after : List (List ℕ)
    after = lines_of (drop_through 10 rest)

    late_mark : 0 < length rest → now.is_lost ≡ true → is_whole_mark line ≡ true → HasLateMark (lines_of xs)
    late_mark some lost mark = at s.lost refl (subst (λ b. BeginsLost b s.lost) lost s.begins)
      where
        at : (ls : List (List ℕ)) → s.lost ≡ ls → BeginsLost true ls → HasLateMark (lines_of xs)
        at [] same begins = absurd begins
        at (l ∷ ls) same begins = record {
          before = s.front ++ s.back;
          long = l;
          between = ls;
          mark = line;
          after = after;
          parts = s.parts ∙ ap (λ (k : List (List ℕ)). s.front ++ (s.back ++ (k ++ lines_of rest))) same
              ∙ ap (λ (k : List (List ℕ)). s.front ++ (s.back ++ (l ∷ (ls ++ k)))) (lines_of-step rest some) ∙ sym (append_assoc s.front s.back (l ∷ (ls ++ line ∷ after)));
          is_long = begins;
          is_mark = mark;
        }

    too_many : 0 < length rest → now.is_lost ≡ false → ((18446744073709551616 ≤ now.whole + length line) ⊎ (18446744073709551616 ≤ now.whole_lines + 1)) → AreTooMany (lines_of xs)
    too_many some held full =
        let parts : lines_of xs ≡ (s.front ++ s.back) ++ (line ∷ after) =
        held_parts xs rest s.front s.back s.lost s.parts (not_lost now s.lost held s.begins) some ∙ sym (append_assoc s.front s.back (line ∷ after)) in
        ⊎_elim (λ bytes. inr (omega (arith, bytes, ap bytes_in parts, bytes_join (s.front ++ s.back) (line ∷ after), bytes_more line after, s.whole_long)))
        (λ lines. inl (omega (arith, lines, ap length parts, length-append (s.front ++ s.back) (line ∷ after), s.whole_many))) full

pub too_many_lines : (xs : List ℕ) (left : Option (List ℕ)) (count : ℕ) (now : Measure) → 18446744073709551615 ≤ count → SoFar xs left count now → AreTooMany (lines_of xs)
too_many_lines xs left count now most (rest, is, s) =
    inl (omega (arith, most, s.many, ap length s.parts, length-append s.front (s.back ++ (s.lost ++ lines_of rest)), length-append s.back (s.lost ++ lines_of rest), length-append s.lost (lines_of rest)))

-- ---- one line

pub text_taken : (o left : Option (List ℕ)) (now more : Measure) (line : List ℕ)
    → IfSome o (λ xs. (line ≡ take_through 10 xs) × (ends_with_byte 10 (take_through 10 xs) ≡ true) × (length (content (take_through 10 xs)) ≤ longest_line)) → IfSome o (λ xs. left ≡ Some (drop_through 10 xs))
    → Takes now more line → IfSome o (λ xs. TakesOne (Some more) xs left now)
text_taken None left now more line next behind takes = tt
text_taken (Some xs) left now more line (is, ends, short) behind takes =
    (take_through_nonempty 10 xs (ended_some (take_through 10 xs) ends), behind, inl ((ends, short), subst (Takes now more) is takes))

pub text_refused : (o : Option (List ℕ)) (now : Measure) (line : List ℕ) → IfSome o (λ xs. (line ≡ take_through 10 xs) × (ends_with_byte 10 (take_through 10 xs) ≡ true) × (length (content (take_through 10 xs)) ≤ longest_line))
    → CantTake now line → IfSome o (λ xs. RefusesNext fault.Damaged xs now)
text_refused None now line next cant = tt
text_refused (Some xs) now line (is, ends, short) cant = (take_through_nonempty 10 xs (ended_some (take_through 10 xs) ends), subst (CantTake now) is cant)

pub some_line : (o : Option (List ℕ)) → IfSome o (λ xs. 0 < length (take_through 10 xs)) → IfSome o (λ xs. 0 < length xs)
some_line None next = tt
some_line (Some xs) next = take_through_nonempty 10 xs next

pub long_taken : (o left : Option (List ℕ)) (now more : Measure) → IfSome o (λ xs. longest_line < length (content (take_through 10 xs))) → IfSome o (λ xs. left ≡ Some (drop_through 10 xs))
    → more.is_lost ≡ true → more.whole ≡ now.whole → more.whole_lines ≡ now.whole_lines → more.marked ≡ now.marked → more.marked_lines ≡ now.marked_lines
    → IfSome o (λ xs. TakesOne (Some more) xs left now)
long_taken None left now more next behind lost whole lines marked marked_lines = tt
long_taken (Some xs) left now more long behind lost whole lines marked marked_lines =
    (take_through_nonempty 10 xs (omega (arith, long, content_shorter (take_through 10 xs))), behind, inr (long, lost, whole, lines, marked, marked_lines))

-- an error that is x, as `?` hands it on
pub if_err : {T E : Type 0} (r : Result T E) (x : E) (P : E → Type 0) → IsErrAnd r (λ e. e ≡ x) → P x → IfErr r P
if_err (Ok t) x P h p = tt
if_err (Err e) x P h p = subst P (sym h) p
