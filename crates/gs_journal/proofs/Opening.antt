-- What disks say while they are opened.
use Rattle.std.proofs.Common.{◌≡◌, ◌⊎◌, inl, inr, ⊎_elim, ℕ, ◌<◌, ◌≤◌, ◌^◌, true, false, List, [], ◌∷◌, ◌++◌, refl, sym, ◌∙◌, ap, subst, arith}
use Rattle.std.proofs.lemmas.Bool.Decides.{nat_tests}
use Rattle.std.specs.Prelude.{if◌then◌else◌, Bool}
use Rattle.byteorder.specs.Numbers.{big_number-reads_back}
use Rattle.gs_journal.specs.Records.{Text, fresh, header, is_begun, version_of, generation_of, generation_standing, records_of, second_counts, standing, text_of}
use Rattle.gs_journal.specs.inner.Rest.{IsAtRest, Continues, IsMaking, IsComplete}
use Rattle.gs_journal.specs.Journal.{MightHaveStood}
use Rattle.gs_journal.specs.inner.Places.{IsPlace, IsFresh, IsReady, IsLikeFirst, IsLikeSecond, SayTheSame}
use Rattle.gs_journal.specs.declared.place.Place.{Place}
use Rattle.gs_journal.specs.declared.version.Version.TheVariants.{Two}
use Rattle.gs_journal_disk.specs.Disk.{Only, LeavesPairs}
use Rattle.gs_journal_disk.specs.Stage.{LeavesOnly}
use Rattle.gs_journal_disk.proofs.Moments.{Stays, started, weaker, both}
use Rattle.gs_journal.proofs.Complete.{complete_header, at_rest}
use Rattle.gs_journal.proofs.Standing.{SameHeader, same_header, counts_by, fresh_while_made, standing_first, standing_none, first_unbegun, second_unbegun}

-- a header that is written anew
pub header_begun : (g : ℕ) (rest : List ℕ) → is_begun (header Two g ++ rest) ≡ true
header_begun g rest = grind (arith, nat_tests)

pub header_generation : (g : ℕ) (rest : List ℕ) → g < 2 ^ 64 → generation_of (header Two g ++ rest) ≡ g
header_generation g rest fits = big_number-reads_back 8 g rest (omega (arith, fits))

pub header_complete : (g : ℕ) → IsComplete (header Two g) × (records_of (header Two g) ≡ [])
header_complete g = complete_header (header Two g) refl

-- a new disk
pub fresh_rest : (g : ℕ) → IsAtRest 13 (header Two g ++ 0 ∷ []) × (records_of (header Two g ++ 0 ∷ []) ≡ [])
fresh_rest g = let h = header_complete g in let r = at_rest (header Two g) 0 h.0 (omega arith) in (r.0, r.1 ∙ h.1)

pub fresh_text : (g : ℕ) → text_of (header Two g ++ 0 ∷ []) ≡ fresh
fresh_text g = λ i. (Two, (fresh_rest g).1 i)

pub making_like_first : (a b text c : List ℕ) → is_begun a ≡ false → second_counts a b ≡ false → 1 ∷ text ≡ header Two 1 ++ 0 ∷ [] → IsMaking text a c → IsLikeFirst a b c
making_like_first a b text c unbegun none is making d =
    fresh_while_made a b text c d unbegun none (ap is_begun is ∙ header_begun 1 (0 ∷ [])) (ap text_of is ∙ fresh_text 1) (ap generation_of is ∙ header_generation 1 (0 ∷ []) (omega arith)) making

-- a disk whose end is put right
module _ (old c : List ℕ) (goes_on : Continues old (records_of old) c) where
  same : SameHeader old c
  same = same_header old c goes_on.same_header

  same_text : text_of c ≡ text_of old
  same_text = λ i. (same.version i, goes_on.has i)

  pub like_first : (d : List ℕ) → SayTheSame c d old d
  like_first d = (
    ap (λ (x : Bool). if x then text_of d else (if is_begun c then text_of c else fresh)) (counts_by c old d d same.begun same.generation refl refl)
        ∙ ap (λ (x : Bool). if second_counts old d then text_of d else (if x then text_of c else fresh)) same.begun
        ∙ ap (λ (x : Text). if second_counts old d then text_of d else (if is_begun old then x else fresh)) same_text,
    ap (λ (x : Bool). if x then generation_of d else (if is_begun c then generation_of c else 1)) (counts_by c old d d same.begun same.generation refl refl)
        ∙ ap (λ (x : Bool). if second_counts old d then generation_of d else (if x then generation_of c else 1)) same.begun
        ∙ ap (λ (g : ℕ). if second_counts old d then generation_of d else (if is_begun old then g else 1)) same.generation,
  )

  pub like_second : IsLikeSecond old c
  like_second d = (
    ap (λ (x : Bool). if x then text_of c else (if is_begun d then text_of d else fresh)) (counts_by d d c old refl refl same.begun same.generation)
        ∙ ap (λ (x : Text). if second_counts d old then x else (if is_begun d then text_of d else fresh)) same_text,
    ap (λ (x : Bool). if x then generation_of c else (if is_begun d then generation_of d else 1)) (counts_by d d c old refl refl same.begun same.generation)
        ∙ ap (λ (g : ℕ). if second_counts d old then g else (if is_begun d then generation_of d else 1)) same.generation,
  )

-- the place, by the bytes of the disk that counts
pub ready_by : (p : Place) (a b x : List ℕ) → (if p.is_second then b else a) ≡ x → second_counts a b ≡ p.is_second → is_begun x ≡ true → IsAtRest p.end x → p.version ≡ version_of x → p.generation ≡ generation_of x → IsReady p a b
ready_by p a b x is counts begun rest version generation = record {
  counts = counts;
  begun = subst (λ (y : List ℕ). is_begun y ≡ true) (sym is) begun;
  rest = subst (IsAtRest p.end) (sym is) rest;
  version = version ∙ ap version_of (sym is);
  generation = generation ∙ ap generation_of (sym is);
}

picked_second : (p : Place) (a b : List ℕ) → p.is_second ≡ true → (if p.is_second then b else a) ≡ b
picked_second p a b is = ap (λ (x : Bool). if x then b else a) is

picked_first : (p : Place) (a b : List ℕ) → p.is_second ≡ false → (if p.is_second then b else a) ≡ a
picked_first p a b is = ap (λ (x : Bool). if x then b else a) is

-- the first disk was made anew
pub made_ready : (p : Place) (a b a' : List ℕ) → IsFresh p → second_counts a b ≡ false → is_begun a ≡ false → a' ≡ header Two 1 ++ 0 ∷ [] → IsReady p a' b × (standing a' b ≡ standing a b)
made_ready p a b a' is none unbegun made =
    let b_unbegun : is_begun b ≡ false = sym (first_unbegun a b unbegun) ∙ none in
    let still : second_counts a' b ≡ false = second_unbegun a' b b_unbegun in
    let begun : is_begun a' ≡ true = ap is_begun made ∙ header_begun 1 (0 ∷ []) in
    let rest : IsAtRest 13 a' = subst (IsAtRest 13) (sym made) (fresh_rest 1).0 in (
      ready_by p a' b a' (picked_first p a' b is.0) (still ∙ sym is.0) begun (subst (λ (n : ℕ). IsAtRest n a') (sym is.3) rest) (is.1 ∙ sym (ap version_of made))
          (is.2 ∙ sym (ap generation_of made ∙ header_generation 1 (0 ∷ []) (omega arith))),
      standing_first a' b still begun ∙ ap text_of made ∙ fresh_text 1 ∙ sym (standing_none a b none unbegun),
    )

-- the second disk was put right
pub second_ready : (p : Place) (a b b' : List ℕ) → p.is_second ≡ true → second_counts a b ≡ p.is_second → IsPlace p (if p.is_second then b else a) → IsAtRest p.end b' → Continues b (records_of b) b' → IsReady p a b' × (standing a b' ≡ standing a b)
second_ready p a b b' is counts at rest goes_on =
    let place = subst (IsPlace p) (picked_second p a b is) at in
    let h = same_header b b' goes_on.same_header in (
      ready_by p a b' b' (picked_second p a b' is) (counts_by a a b' b refl refl h.begun h.generation ∙ counts) (h.begun ∙ place.begun) rest (place.version ∙ sym h.version) (place.generation ∙ sym h.generation),
      (like_second b b' goes_on a).0,
    )

-- the first disk was put right
pub first_ready : (p : Place) (a b a' : List ℕ) → p.is_second ≡ false → second_counts a b ≡ p.is_second → IsPlace p (if p.is_second then b else a) → IsAtRest p.end a' → Continues a (records_of a) a' → IsReady p a' b × (standing a' b ≡ standing a b)
first_ready p a b a' is counts at rest goes_on =
    let place = subst (IsPlace p) (picked_first p a b is) at in
    let h = same_header a a' goes_on.same_header in (
      ready_by p a' b a' (picked_first p a' b is) (counts_by a' a b b h.begun h.generation refl refl ∙ counts) (h.begun ∙ place.begun) rest (place.version ∙ sym h.version) (place.generation ∙ sym h.generation),
      (like_first a a' goes_on b).0,
    )

-- the place on the disk that is put right
pub second_place : (p : Place) (a b : List ℕ) → p.is_second ≡ true → IsPlace p (if p.is_second then b else a) → IsPlace p b
second_place p a b is at = subst (IsPlace p) (picked_second p a b is) at

pub first_place : (p : Place) (a b : List ℕ) → p.is_second ≡ false → IsPlace p (if p.is_second then b else a) → IsPlace p a
first_place p a b is at = subst (IsPlace p) (picked_first p a b is) at

-- what two disks are left as while they are opened, they might have been left as before
pub might_have_stood : (left_a left_b : List ℕ → Type 0) (a b x y : List ℕ) → left_a a → left_b b → left_a x ⊎ IsLikeFirst a b x → left_b y ⊎ IsLikeSecond b y → MightHaveStood left_a left_b (standing x y)
might_have_stood left_a left_b a b x y at_a at_b (inl was_x) (inl was_y) = (x, y, was_x, was_y, refl)
might_have_stood left_a left_b a b x y at_a at_b (inl was_x) (inr like_y) = (x, b, was_x, at_b, (like_y x).0)
might_have_stood left_a left_b a b x y at_a at_b (inr like_x) (inl was_y) = ⊎_elim
    (λ (e : SayTheSame x y a y). (a, y, at_a, was_y, e.0))
    (λ (e : SayTheSame x y a b). (a, b, at_a, at_b, e.0))
    (like_x y)
might_have_stood left_a left_b a b x y at_a at_b (inr like_x) (inr like_y) = ⊎_elim
    (λ (e : SayTheSame x b a b). (a, b, at_a, at_b, (like_y x).0 ∙ e.0))
    (λ (e : SayTheSame x b a b). (a, b, at_a, at_b, (like_y x).0 ∙ e.0))
    (like_x b)

-- a disk that isn't touched
module _ {D : Type 0} (seen : D → List ℕ) (may_leave : D → List ℕ → Type 0) (moment : D → ℕ) (left_since : D → ℕ → List ℕ → Type 0) (disk : D) (only : Only (seen disk) (may_leave disk)) (stays : Stays seen may_leave moment left_since disk) where
  pub untouched_first : (b : List ℕ) → LeavesOnly moment left_since disk disk (IsLikeFirst (seen disk) b)
  untouched_first b = started moment left_since disk _ (λ x left d. let same = only x (stays x left) in inl (ap (λ (y : List ℕ). standing y d) same, ap (λ (y : List ℕ). generation_standing y d) same))

  pub untouched_second : LeavesOnly moment left_since disk disk (IsLikeSecond (seen disk))
  untouched_second = started moment left_since disk _ (λ x left d. let same = only x (stays x left) in (ap (standing d) same, ap (generation_standing d) same))

-- what disks say behind a run, in which one of them may have failed
module _ {D : Type 0} (seen : D → List ℕ) (may_leave : D → List ℕ → Type 0) (moment : D → ℕ) (left_since : D → ℕ → List ℕ → Type 0)
    (shows : (d : D) → may_leave d (seen d)) (counts_now : (d : D) (t : ℕ) (c : List ℕ) → t ≤ moment d → may_leave d c → left_since d t c) where
  pub shown : (old new : D) (P : List ℕ → Type 0) → LeavesOnly moment left_since old new P → P (seen new)
  shown old new P leaves = leaves.each (seen new) (counts_now new (moment old) (seen new) leaves.later (shows new))

  pub first_told : (old new : D) (b : List ℕ) → LeavesOnly moment left_since old new (IsLikeFirst (seen old) b) → SayTheSame (seen new) b (seen old) b
  first_told old new b leaves = ⊎_elim
      (λ (e : SayTheSame (seen new) b (seen old) b). e)
      (λ (e : SayTheSame (seen new) b (seen old) b). e)
      (shown old new (IsLikeFirst (seen old) b) leaves b)

  pub second_told : (old new : D) (a : List ℕ) → LeavesOnly moment left_since old new (IsLikeSecond (seen old)) → SayTheSame a (seen new) a (seen old)
  second_told old new a leaves = shown old new (IsLikeSecond (seen old)) leaves a

-- two runs that begin with what is asked of each disk
module _ {D : Type 0} (seen : D → List ℕ) (may_leave : D → List ℕ → Type 0) (moment : D → ℕ) (left_since : D → ℕ → List ℕ → Type 0) (first second : D) (at_first : may_leave first (seen first)) (at_second : may_leave second (seen second)) where
  pub opens : (first' second' : D) → LeavesOnly moment left_since first first' (λ x. may_leave first x ⊎ IsLikeFirst (seen first) (seen second) x) → LeavesOnly moment left_since second second' (λ y. may_leave second y ⊎ IsLikeSecond (seen second) y)
      → LeavesPairs moment left_since first second first' second' (λ x y. MightHaveStood (may_leave first) (may_leave second) (standing x y))
  opens first' second' left_first left_second = record {
    later_first = left_first.later;
    later_second = left_second.later;
    each = λ x y left_x left_y. might_have_stood (may_leave first) (may_leave second) (seen first) (seen second) x y at_first at_second (left_first.each x left_x) (left_second.each y left_y);
  }

  pub surveyed : (first' second' : D) → LeavesOnly moment left_since first first' (may_leave first) → LeavesOnly moment left_since second second' (may_leave second)
      → LeavesPairs moment left_since first second first' second' (λ x y. MightHaveStood (may_leave first) (may_leave second) (standing x y))
  surveyed first' second' left_first left_second =
      opens first' second' (weaker moment left_since _ _ _ _ left_first (λ x was. inl was)) (weaker moment left_since _ _ _ _ left_second (λ y was. inl was))

  pub put_right_then : (mid_first mid_second first' second' : D) → seen mid_first ≡ seen first → seen mid_second ≡ seen second
      → LeavesOnly moment left_since first mid_first (may_leave first) → LeavesOnly moment left_since second mid_second (may_leave second)
      → LeavesOnly moment left_since mid_first first' (IsLikeFirst (seen mid_first) (seen mid_second)) → LeavesOnly moment left_since mid_second second' (IsLikeSecond (seen mid_second))
      → LeavesPairs moment left_since first second first' second' (λ x y. MightHaveStood (may_leave first) (may_leave second) (standing x y))
  put_right_then mid_first mid_second first' second' same_first same_second one_first one_second two_first two_second =
      opens first' second'
      (both moment left_since _ _ _ _ _ _ one_first two_first (λ x was. inl was) (λ x like. inr (subst (λ (a : List ℕ). IsLikeFirst a (seen second) x) same_first (subst (λ (b : List ℕ). IsLikeFirst (seen mid_first) b x) same_second like))))
      (both moment left_since _ _ _ _ _ _ one_second two_second (λ y was. inl was) (λ y like. inr (subst (λ (b : List ℕ). IsLikeSecond b y) same_second like)))
