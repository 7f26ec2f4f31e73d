-- The list whose first event comes first.
use Rattle.std.proofs.Common.{◌≡◌, ℕ, suc, ◌+◌, ◌<◌, List, [], ◌∷◌, length, map, drop, get_or, Bool, true, false, Option, Some, None, deque_items, option_map, refl, sym, ap, ◌∙◌, subst, arith, drop-cons}
use Rattle.std.specs.Prelude.{if◌then◌else◌, nat_le, slice_get}
use Rattle.std.specs.declared.alloc.Global.{Global}
use Rattle.std.specs.declared.collections.VecDeque.{VecDeque}
use Rattle.std.proofs.lemmas.List.{get_or-map, length-map}
use Rattle.std.proofs.lemmas.Option.{same_Some, slice_get-map, slice_get_within}
use Rattle.gs_cluster_notes.specs.declared.merging.First.{First}
use Rattle.gs_cluster_notes.specs.declared.notes.Dated.{Dated}
use Rattle.gs_cluster_notes.specs.inner.Firsts.{first_in, sooner, sooner_of}

-- one list more in front
front_more : (lists : List (List Dated)) (at : ℕ) (ds : List Dated) (first now : Option First) → at < length lists → ds ≡ get_or lists at ds
    → first ≡ first_in (suc at) (drop (suc at) lists) → now ≡ sooner_of at ds first → now ≡ first_in at (drop at lists)
front_more lists at ds first now within is before here =
    here ∙ ap (sooner_of at ds) before
    ∙ ap (λ (x : List Dated). sooner_of at x (first_in (suc at) (drop (suc at) lists))) is
    ∙ ap (first_in at) (sym (drop-cons lists at ds within))

pub one_more : (lists : List (VecDeque Dated Global)) (at next : ℕ) (d : VecDeque Dated Global) (first now : Option First) → next ≡ suc at → at < length lists → d ≡ get_or lists at d
    → first ≡ first_in next (drop next (map deque_items lists)) → now ≡ sooner_of at d.items first → now ≡ first_in at (drop at (map deque_items lists))
one_more lists at next d first now count within is before here =
    front_more (map deque_items lists) at d.items first now
    (subst (λ (n : ℕ). at < n) (sym (length-map lists deque_items)) within)
    (ap deque_items is ∙ sym (get_or-map deque_items lists at d d.items within))
    (before ∙ ap (λ (n : ℕ). first_in n (drop n (map deque_items lists))) count) here

-- it stands there
pub record There (i : ℕ) (lists : List (List Dated)) (f : First) : Type 0 where
  pub at : ℕ
  pub place : f.at ≡ i + at
  pub first : Dated
  pub behind : List Dated
  pub there : slice_get lists at ≡ Some (first ∷ behind)

abbrev ThereIf : ℕ → List (List Dated) → Option First → Type 0
ThereIf i lists None = Unit {0}
ThereIf i lists (Some f) = There i lists f

later : (i : ℕ) (ds : List Dated) (lists : List (List Dated)) (f : First) → There (suc i) lists f → There i (ds ∷ lists) f
later i ds lists f s = record { at = suc s.at; place = (let h = s.place in omega arith); first = s.first; behind = s.behind; there = s.there }

later_if : (i : ℕ) (ds : List Dated) (lists : List (List Dated)) (o : Option First) → ThereIf (suc i) lists o → ThereIf i (ds ∷ lists) o
later_if i ds lists None s = tt
later_if i ds lists (Some f) s = later i ds lists f s

here : (i : ℕ) (d : Dated) (ds : List Dated) (lists : List (List Dated)) → There i ((d ∷ ds) ∷ lists) (record { at = i; clock = d.clock })
here i d ds lists = record { at = 0; place = omega arith; first = d; behind = ds; there = refl }

chosen_if : (i : ℕ) (d : Dated) (ds : List Dated) (lists : List (List Dated)) (f : First) (b : Bool) → There (suc i) lists f
    → ThereIf i ((d ∷ ds) ∷ lists) (if b then Some (record { at = i; clock = d.clock }) else Some f)
chosen_if i d ds lists f true s = here i d ds lists
chosen_if i d ds lists f false s = later i (d ∷ ds) lists f s

chosen : (i : ℕ) (d : Dated) (ds : List Dated) (lists : List (List Dated)) (o : Option First) → ThereIf (suc i) lists o → ThereIf i ((d ∷ ds) ∷ lists) (sooner i d.clock o)
chosen i d ds lists None s = here i d ds lists
chosen i d ds lists (Some f) s = chosen_if i d ds lists f (nat_le d.clock f.clock) s

there_if : (i : ℕ) (lists : List (List Dated)) → ThereIf i lists (first_in i lists)
there_if i [] = tt
there_if i ([] ∷ lists) = later_if i [] lists (first_in (suc i) lists) (there_if (suc i) lists)
there_if i ((d ∷ ds) ∷ lists) = chosen i d ds lists (first_in (suc i) lists) (there_if (suc i) lists)

pub there : (lists : List (List Dated)) (f : First) → first_in 0 lists ≡ Some f → There 0 lists f
there lists f is = subst (ThereIf 0 lists) is (there_if 0 lists)

-- there is such a list
pub within : (lists : List (VecDeque Dated Global)) (f : First) → first_in 0 (map deque_items lists) ≡ Some f → f.at < length lists
within lists f is =
    let t = there (map deque_items lists) f is in
    let p = t.place in
    let w = slice_get_within (map deque_items lists) t.at (t.first ∷ t.behind) t.there in
    let long = length-map lists deque_items in
    omega arith

map_at : (lists : List (VecDeque Dated Global)) (at : ℕ) (d : VecDeque Dated Global) → slice_get lists at ≡ Some d → slice_get (map deque_items lists) at ≡ Some d.items
map_at lists at d h = slice_get-map deque_items lists at ∙ ap (option_map deque_items) h

-- it has an event
pub some_there : (lists : List (VecDeque Dated Global)) (f : First) (d : VecDeque Dated Global) → first_in 0 (map deque_items lists) ≡ Some f → slice_get lists f.at ≡ Some d → d.items ≡ [] → ⊥
some_there lists f d is at none =
    let t = there (map deque_items lists) f is in
    let same : t.at ≡ f.at = (let p = t.place in omega arith) in
    no_nil t.first t.behind (sym none ∙ same_Some d.items (t.first ∷ t.behind) (sym (map_at lists f.at d at) ∙ ap (slice_get (map deque_items lists)) (sym same) ∙ t.there))
  where
    no_nil : (e : Dated) (es : List Dated) → ◌≡◌ {A = List Dated} [] (e ∷ es) → ⊥
    no_nil e es h = cc

pub at_front : (lists : List (VecDeque Dated Global)) (at : ℕ) (d : VecDeque Dated Global) (first : Dated) (behind : List Dated) → slice_get lists at ≡ Some d → d.items ≡ first ∷ behind
    → slice_get (map deque_items lists) at ≡ Some (first ∷ behind)
at_front lists at d first behind there items = map_at lists at d there ∙ ap (λ (l : List Dated). Some l) items
