-- What stands in a log is found, and run on from.
use Rattle.std.proofs.Common.{◌≡◌, ◌≢◌, ◌≤◌, ◌++◌, ◌∷◌, ◌⊎◌, [], ℕ, zero, suc, List, Bool, true, false, true≢false, cond, nat_lt, Option, Some, None, IfSome, Ok, Err, length, take, drop, flat_map, refl, sym, ap, subst, ◌∙◌, arith, take_all, length-append, length-drop, inl, inr}
use Rattle.std.proofs.lemmas.Bool.Decides.{nat_tests}
use Rattle.std.specs.Io.BufRead.{drop_through, ends_with_byte}
use Rattle.gs_keep_log.specs.Log.{Held, whole}
use Rattle.gs_shell_line.specs.Line.{content}
use Rattle.gs_shell_script.specs.Run.{lines_of}
use Rattle.gs_shell_script.proofs.Lines.{lines_of-step}
use Rattle.gs_keep_mark.specs.declared.Ledger.{Ledger}
use Rattle.gs_keep_measure.specs.Extent.{Extends, run_again}
use Rattle.gs_keep_measure.specs.Measure.{Measures, StopsFirst, bytes_in}
use Rattle.gs_keep_measure.specs.Tail.{tail_fault}
use Rattle.gs_keep_measure.specs.declared.Measure.{Measure}
use Rattle.gs_keep_measure.specs.declared.extent.Extent.{Extent}
use Rattle.gs_keep_measure.specs.declared.extent.ExtentFault.{ExtentFault}
use Rattle.gs_keep_measure.specs.declared.tail.TailFault.{TailFault}
use Rattle.gs_keep.specs.Keeping.{AsideAs, KeepsOn, LeavesRest, ReadsLog, StoreFails}
use Rattle.gs_keep.specs.Starting.{Breaks, Found, IsHead, RefusesExtent, RefusesTail, Stands, Starts}
use Rattle.gs_keep.specs.declared.fault.StoreFault.{StoreFault}
use Rattle.gs_keep.proofs.Replaying.{both_parts}

-- ---- the first line

first_of_lines : (text head : List ℕ) → IsHead text head → lines_of text ≡ head ∷ lines_of (drop_through 10 text)
first_of_lines [] head first = absurd (true≢false (sym (sym (ap (ends_with_byte 10) first.0) ∙ first.1.0)))
first_of_lines (x ∷ xs) head first = lines_of-step (x ∷ xs) (omega arith) ∙ ap (λ (l : List ℕ). l ∷ lines_of (drop_through 10 (x ∷ xs))) (sym first.0)

same_first : (a b : List ℕ) (xs ys : List (List ℕ)) → ◌≡◌ {A = List (List ℕ)} (a ∷ xs) (b ∷ ys) → a ≡ b
same_first a b xs ys e = cc

no_lines : (a : List ℕ) (xs : List (List ℕ)) → ◌≡◌ {A = List (List ℕ)} (a ∷ xs) [] → ⊥
no_lines a xs e = cc

-- so many bytes are run again, whatever a log's form
at_least : (t is_second : Bool) (head marked whole : ℕ) → nat_lt 0 marked ≡ t → (head ≤ marked) ⊎ ((marked ≡ 0) × (head ≤ whole)) → head ≤ cond t marked (cond is_second head whole)
at_least true is_second head marked whole some (inl long) = long
at_least true is_second head marked whole some (inr (none, long)) = absurd (true≢false (sym some ∙ ap (nat_lt 0) none))
at_least false true head marked whole none long = omega arith
at_least false false head marked whole none (inl long) = let zero_is : marked ≡ 0 = grind (arith, nat_tests) in omega arith
at_least false false head marked whole none (inr (zero_is, long)) = long

first_counts : (line : List ℕ) (more : List (List ℕ)) → length line ≤ bytes_in (line ∷ more)
first_counts line more = omega (arith, length-append line (flat_map (λ (l : List ℕ). l) more))

-- the first line of a text is run again
head_again : (text : List ℕ) (m : Measure) (is_second : Bool) (head : List ℕ) → Measures text m → IsHead text head → length head ≤ run_again is_second m (length head)
head_again text m is_second head measured first =
    at_least (nat_lt 0 m.marked) is_second (length head) m.marked m.whole refl
    (at measured.front measured.back measured.torn m.is_lost (sym (first_of_lines text head first) ∙ measured.parts) measured.stops measured.marked_long measured.whole_long)
  where
    at : (front back torn : List (List ℕ)) (is_lost : Bool) → head ∷ lines_of (drop_through 10 text) ≡ front ++ (back ++ torn) → StopsFirst is_lost torn
        → bytes_in front ≡ m.marked → bytes_in (front ++ back) ≡ m.whole → (length head ≤ m.marked) ⊎ ((m.marked ≡ 0) × (length head ≤ m.whole))
    at (f ∷ front) back torn is_lost parts stops marked whole =
        let same = same_first head f (lines_of (drop_through 10 text)) (front ++ (back ++ torn)) parts in
        inl (omega (arith, ap length same, first_counts f front, marked))
    at [] (b ∷ back) torn is_lost parts stops marked whole =
        let same = same_first head b (lines_of (drop_through 10 text)) (back ++ torn) parts in
        inr (sym marked, omega (arith, ap length same, first_counts b back, whole))
    at [] [] (t ∷ torn) false parts stops marked whole =
        let same = same_first head t (lines_of (drop_through 10 text)) torn parts in
        absurd (true≢false (sym first.1.0 ∙ ap (ends_with_byte 10) same ∙ stops.0))
    at [] [] (t ∷ torn) true parts stops marked whole =
        let same = same_first head t (lines_of (drop_through 10 text)) torn parts in
        absurd (omega (arith, ap (λ (l : List ℕ). length (content l)) same, stops, first.1.1))
    at [] [] [] is_lost parts stops marked whole = absurd (no_lines head (lines_of (drop_through 10 text)) parts)

-- as far as a text is run again, it is its first line and what stands after that
front_parts : (line rest : List ℕ) (n : ℕ) → length line ≤ n → take n (line ++ rest) ≡ line ++ drop (length line) (take n (line ++ rest))
front_parts [] rest n within = refl
front_parts (x ∷ line) rest zero within = absurd (omega arith)
front_parts (x ∷ line) rest (suc n) within = ap (λ (l : List ℕ). x ∷ l) (front_parts line rest n (omega arith))

head_first : (text head : List ℕ) (n : ℕ) → IsHead text head → length head ≤ n → take n text ≡ head ++ drop (length head) (take n text)
head_first text head n first within =
    let is : head ++ drop_through 10 text ≡ text = ap (λ (l : List ℕ). l ++ drop_through 10 text) first.0 ∙ both_parts text in
    subst (λ (t : List ℕ). take n t ≡ head ++ drop (length head) (take n t)) is (front_parts head (drop_through 10 text) n within)

-- ---- what stands

-- what holds of a text's first bytes, so many as there are, holds of all
pub of_all : (o : Option (List ℕ)) (n : ℕ) (P : List ℕ → Type 0) → IfSome o (λ text. n ≡ length text) → IfSome o (λ text. P (take n text)) → IfSome o P
of_all None n P long holds = tt
of_all (Some text) n P long holds = subst P (take_all n text (omega (arith, long))) holds

pub stands : (o : Option (List ℕ)) (n : ℕ) (measure : Measure) (is_second : Bool) (head : List ℕ) (extent : Extent) (tail : List ℕ)
    → IfSome o (λ text. n ≡ length text) → IfSome o (λ text. Measures (take n text) measure) → IfSome o (λ text. IsHead (take n text) head)
    → Extends (Ok extent) is_second measure (length head) n → IfSome o (λ text. tail ≡ drop extent.whole (take n text))
    → tail_fault is_second measure head tail ≡ None → IfSome o (λ text. Stands text measure is_second head extent tail)
stands None n measure is_second head extent tail long measured first extends rest left = tt
stands (Some text) n measure is_second head extent tail long measured first extends rest left =
    let all : take n text ≡ text = take_all n text (omega (arith, long)) in
    record {
      measured = subst (λ (l : List ℕ). Measures l measure) all measured;
      first = subst (λ (l : List ℕ). IsHead l head) all first;
      extends = subst (λ (k : ℕ). Extends (Ok extent) is_second measure (length head) k) long extends;
      rest = rest ∙ ap (drop extent.whole) all;
      may_be_left = left;
    }

-- ---- what doesn't

module _ {S : Type 0} (Begins : List ℕ → Bool → ℕ → S → Type 0) where
  pub refuses_extent : {E : Type 0} (RefusesHead : List ℕ → E → Type 0) (f : ExtentFault) (o : Option (List ℕ)) (n : ℕ) (measure : Measure) (is_second : Bool) (head : List ℕ) (before : ℕ) (machine : S)
      → IfSome o (λ text. n ≡ length text) → IfSome o (λ text. Measures (take n text) measure) → IfSome o (λ text. IsHead (take n text) head) → Begins head is_second before machine
      → Extends (Err f) is_second measure (length head) n → IfSome o (λ text. RefusesExtent Begins RefusesHead f text)
  refuses_extent RefusesHead f None n measure is_second head before machine long measured first begins extends = tt
  refuses_extent RefusesHead f (Some text) n measure is_second head before machine long measured first begins extends =
      let all : take n text ≡ text = take_all n text (omega (arith, long)) in
      record {
        measure = measure;
        is_second = is_second;
        head = head;
        before = before;
        machine = machine;
        measured = subst (λ (l : List ℕ). Measures l measure) all measured;
        first = subst (λ (l : List ℕ). IsHead l head) all first;
        begins = begins;
        extends = subst (λ (k : ℕ). Extends (Err f) is_second measure (length head) k) long extends;
      }

  pub refuses_tail : {E : Type 0} (RefusesHead : List ℕ → E → Type 0) (f : TailFault) (o : Option (List ℕ)) (n : ℕ) (measure : Measure) (is_second : Bool) (head : List ℕ) (before : ℕ) (machine : S) (extent : Extent) (tail : List ℕ)
      → IfSome o (λ text. n ≡ length text) → IfSome o (λ text. Measures (take n text) measure) → IfSome o (λ text. IsHead (take n text) head) → Begins head is_second before machine
      → Extends (Ok extent) is_second measure (length head) n → IfSome o (λ text. tail ≡ drop extent.whole (take n text))
      → tail_fault is_second measure head tail ≡ Some f → IfSome o (λ text. RefusesTail Begins RefusesHead f extent.lines text)
  refuses_tail RefusesHead f None n measure is_second head before machine extent tail long measured first begins extends rest found = tt
  refuses_tail RefusesHead f (Some text) n measure is_second head before machine extent tail long measured first begins extends rest found =
      let all : take n text ≡ text = take_all n text (omega (arith, long)) in
      let tail_is : tail ≡ drop extent.whole text = rest ∙ ap (drop extent.whole) all in
      record {
        measure = measure;
        is_second = is_second;
        head = head;
        before = before;
        machine = machine;
        extent = extent;
        measured = subst (λ (l : List ℕ). Measures l measure) all measured;
        first = subst (λ (l : List ℕ). IsHead l head) all first;
        begins = begins;
        extends = subst (λ (k : ℕ). Extends (Ok extent) is_second measure (length head) k) long extends;
        counted = refl;
        found = subst (λ (l : List ℕ). tail_fault is_second measure head l ≡ Some f) tail_is found;
      }

-- a text that is known isn't cut while it is read
pub not_shorter : (o : Option (List ℕ)) (n : ℕ) (measure : Measure) (is_second : Bool) (head : List ℕ) (extent : Extent) (tail : List ℕ)
    → IfSome o (λ text. n ≡ length text) → Extends (Ok extent) is_second measure (length head) n → IfSome o (λ text. tail ≡ drop extent.whole (take n text))
    → length tail ≢ extent.rest → IfSome o (λ text. ⊥)
not_shorter None n measure is_second head extent tail long extends rest other = tt
not_shorter (Some text) n measure is_second head extent tail long extends rest other =
    let all : take n text ≡ text = take_all n text (omega (arith, long)) in
    let tail_is : tail ≡ drop extent.whole text = rest ∙ ap (drop extent.whole) all in
    other (omega (arith, ap length tail_is, length-drop extent.whole text, extends.2, long))

-- ---- what a run asks for

module _ (src : Option (List ℕ)) (measure : Measure) (is_second : Bool) (head : List ℕ) (extent : Extent) (tail : List ℕ) (stood : IfSome src (λ text. Stands text measure is_second head extent tail)) where
  stood_in : (h : Held) → src ≡ Some (whole h) → Stands (whole h) measure is_second head extent tail
  stood_in h is = subst (λ (q : Option (List ℕ)). IfSome q (λ text. Stands text measure is_second head extent tail)) is stood

  -- what a reader gives that was made of the source
  abbrev pub Gives : Option (List ℕ) → Type 0
  Gives left = IfSome src (λ text. left ≡ Some (drop (length head) (take extent.whole text)))

  gives_in : (left : Option (List ℕ)) (h : Held) → src ≡ Some (whole h) → Gives left → left ≡ Some (drop (length head) (take extent.whole (whole h)))
  gives_in left h is gives = subst (λ (q : Option (List ℕ)). IfSome q (λ text. left ≡ Some (drop (length head) (take extent.whole text)))) is gives

  script_in : (h : Held) → src ≡ Some (whole h) → take extent.whole (whole h) ≡ head ++ drop (length head) (take extent.whole (whole h))
  script_in h is =
      let stands = stood_in h is in
      head_first (whole h) head extent.whole stands.first (subst (λ (n : ℕ). length head ≤ n) (sym stands.extends.0) (head_again (whole h) measure is_second head stands.measured stands.first))

  pub needs_within : (o : Option Held) → IfSome o (λ h. src ≡ Some (whole h)) → IfSome o (λ h. extent.whole ≤ length (whole h))
  needs_within None is = tt
  needs_within (Some h) is = omega (arith, (stood_in h is).extends.2)

  pub needs_lines : (o : Option Held) (left : Option (List ℕ)) → IfSome o (λ h. src ≡ Some (whole h)) → Gives left → ReadsLog head extent.whole o left
  needs_lines None left is gives = tt
  needs_lines (Some h) left is gives =
      subst (λ (q : Option (List ℕ)). IfSome q (λ script. take extent.whole (whole h) ≡ head ++ script)) (sym (gives_in left h is gives)) (script_in h is)

  pub needs_rest : (o : Option Held) (bytes : List ℕ) → IfSome o (λ h. src ≡ Some (whole h)) → bytes ≡ tail → LeavesRest extent.whole o bytes
  needs_rest None bytes is put = tt
  needs_rest (Some h) bytes is put = sym (put ∙ (stood_in h is).rest)

  -- ---- what a start does

  module _ {S : Type 0} (A : S → List ℕ → List ℕ → S → Type 0) (is_kept : List ℕ → Bool) (turns_away : S → List ℕ → Bool) (due : S → Option (List ℕ)) (Begins : List ℕ → Bool → ℕ → S → Type 0) (before : ℕ) (machine : S) (begins : Begins head is_second before machine) where
    unfoldable found : (h : Held) (aside : List ℕ) → src ≡ Some (whole h) → aside ≡ tail → Found A is_kept turns_away due Begins (whole h) aside
    found h aside is put = record {
      measure = measure;
      is_second = is_second;
      head = head;
      before = before;
      script = drop (length head) (take extent.whole (whole h));
      extent = extent;
      machine = machine;
      stands = subst (λ (l : List ℕ). Stands (whole h) measure is_second head extent l) (sym put) (stood_in h is);
      begins = begins;
      lines = script_in h is;
    }

    pub started : (o log' : Option Held) (left p : Option (List ℕ)) (out out' : Option (List ℕ)) (aside : List ℕ) (is_alone : Bool) (ended : Ledger) (end : S) → IfSome o (λ h. src ≡ Some (whole h)) → Gives left
        → aside ≡ tail → is_alone ≡ false
        → IfSome left (λ script. IfSome p (λ input. KeepsOn A is_kept turns_away due machine head before script input extent.whole o log' out out' ended end))
        → IfSome o (λ h. IfSome p (λ input. Starts A is_kept turns_away due Begins (whole h) input o log' out out' aside is_alone ended end))
    unfolding found
    started None log' left p out out' aside is_alone ended end is gives put alone keeps = tt
    started (Some h) log' left None out out' aside is_alone ended end is gives put alone keeps = tt
    started (Some h) log' left (Some input) out out' aside is_alone ended end is gives put alone keeps =
        record {
          found = found h aside is put;
          not_alone = alone;
          keeps = subst (λ (q : Option (List ℕ)). IfSome q (λ script. KeepsOn A is_kept turns_away due machine head before script input extent.whole (Some h) log' out out' ended end)) (gives_in left h is gives) keeps;
        }

    pub breaks : (f : StoreFault) (o log' : Option Held) (left p back : Option (List ℕ)) (out out' : Option (List ℕ)) (aside : List ℕ) (is_alone : Bool) (end : S) → IfSome o (λ h. src ≡ Some (whole h)) → Gives left
        → aside ≡ tail → AsideAs {T = Ledger} (Err f) is_alone
        → IfSome left (λ script. IfSome p (λ input. StoreFails A is_kept turns_away due f machine head before script input back extent.whole o log' out out' end))
        → IfSome o (λ h. IfSome p (λ input. Breaks A is_kept turns_away due Begins f (whole h) input back o log' out out' aside is_alone))
    unfolding found
    breaks f None log' left p back out out' aside is_alone end is gives put alone fails = tt
    breaks f (Some h) log' left None back out out' aside is_alone end is gives put alone fails = tt
    breaks f (Some h) log' left (Some input) back out out' aside is_alone end is gives put alone fails =
        record {
          found = found h aside is put;
          end = end;
          alone = alone;
          fails = subst (λ (q : Option (List ℕ)). IfSome q (λ script. StoreFails A is_kept turns_away due f machine head before script input back extent.whole (Some h) log' out out' end)) (gives_in left h is gives) fails;
        }
