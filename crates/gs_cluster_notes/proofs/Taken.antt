-- Histories are merged by what is noted of them.
use Rattle.std.proofs.Common.{◌≡◌, ℕ, zero, suc, ◌+◌, List, [], ◌∷◌, ◌++◌, length, map, Bool, true, false, Option, Some, None, option_map, refl, sym, ap, ◌∙◌, subst, arith, append_assoc, append-nil}
use Rattle.std.specs.Prelude.{if◌then◌else◌, nat_le, slice_get, slice_set}
use Rattle.std.proofs.lemmas.Option.{none-some, same_Some}
use Rattle.gs_msg.specs.declared.event.Event.{Event}
use Rattle.gs_cluster_history.specs.Histories.{Entry}
use Rattle.gs_cluster_history.specs.Merging.{Place, behind_first, count, event_of, least, lesser, merged, merged_from, next_and, without_first}
use Rattle.gs_cluster_notes.specs.declared.merging.First.{First}
use Rattle.gs_cluster_notes.specs.declared.notes.Dated.{Dated}
use Rattle.gs_cluster_notes.specs.Notes.{dated_all, dated_of}
use Rattle.gs_cluster_notes.specs.inner.Firsts.{Next, first_in, left_in, sooner}

-- ---- the next one of both is the same

abbrev pub first_as : Place → First
first_as p = record { at = p.at; clock = p.entry.clock }

if_mapped : (b : Bool) (p q : Place) → (if b then Some (first_as p) else Some (first_as q)) ≡ option_map first_as (if b then Some p else Some q)
if_mapped true p q = refl
if_mapped false p q = refl

sooner_lesser : (i : ℕ) (e : Entry) (o : Option Place) → sooner i e.clock (option_map first_as o) ≡ option_map first_as (lesser i e o)
sooner_lesser i e None = refl
sooner_lesser i e (Some p) = if_mapped (nat_le e.clock p.entry.clock) (record { at = i; entry = e }) p

first_least : (i : ℕ) (rests : List (List Entry)) → first_in i (dated_all rests) ≡ option_map first_as (least i rests)
first_least i [] = refl
first_least i ([] ∷ rests) = first_least (suc i) rests
first_least i ((e ∷ es) ∷ rests) = ap (sooner i e.clock) (first_least (suc i) rests) ∙ sooner_lesser i e (least (suc i) rests)

none_mapped : (o : Option Place) → option_map first_as o ≡ None → o ≡ None
none_mapped None h = refl
none_mapped (Some p) h = absurd (none-some (first_as p) (sym h))

record Mapped (o : Option Place) (f : First) : Type 0 where
  pub place : Place
  pub is : o ≡ Some place
  pub at : place.at ≡ f.at

some_mapped : (o : Option Place) (f : First) → option_map first_as o ≡ Some f → Mapped o f
some_mapped None f h = absurd (none-some f h)
some_mapped (Some p) f h = record { place = p; is = refl; at = ap (λ (x : First). x.at) (same_Some (first_as p) f h) }

-- ---- where it stands

record Stands (i : ℕ) (rests : List (List Entry)) (p : Place) : Type 0 where
  pub at : ℕ
  pub place : p.at ≡ i + at
  pub behind : List Entry
  pub there : slice_get rests at ≡ Some (p.entry ∷ behind)

abbrev StandsIf : ℕ → List (List Entry) → Option Place → Type 0
StandsIf i rests None = Unit {0}
StandsIf i rests (Some p) = Stands i rests p

later : (i : ℕ) (rest : List Entry) (rests : List (List Entry)) (p : Place) → Stands (suc i) rests p → Stands i (rest ∷ rests) p
later i rest rests p s = record { at = suc s.at; place = (let h = s.place in omega arith); behind = s.behind; there = s.there }

later_if : (i : ℕ) (rest : List Entry) (rests : List (List Entry)) (o : Option Place) → StandsIf (suc i) rests o → StandsIf i (rest ∷ rests) o
later_if i rest rests None s = tt
later_if i rest rests (Some p) s = later i rest rests p s

here : (i : ℕ) (e : Entry) (es : List Entry) (rests : List (List Entry)) → Stands i ((e ∷ es) ∷ rests) (record { at = i; entry = e })
here i e es rests = record { at = 0; place = omega arith; behind = es; there = refl }

chosen_if : (i : ℕ) (e : Entry) (es : List Entry) (rests : List (List Entry)) (p : Place) (b : Bool) → Stands (suc i) rests p
    → StandsIf i ((e ∷ es) ∷ rests) (if b then Some (record { at = i; entry = e }) else Some p)
chosen_if i e es rests p true s = here i e es rests
chosen_if i e es rests p false s = later i (e ∷ es) rests p s

chosen : (i : ℕ) (e : Entry) (es : List Entry) (rests : List (List Entry)) (o : Option Place) → StandsIf (suc i) rests o → StandsIf i ((e ∷ es) ∷ rests) (lesser i e o)
chosen i e es rests None s = here i e es rests
chosen i e es rests (Some p) s = chosen_if i e es rests p (nat_le e.clock p.entry.clock) s

stands : (i : ℕ) (rests : List (List Entry)) → StandsIf i rests (least i rests)
stands i [] = tt
stands i ([] ∷ rests) = later_if i [] rests (least (suc i) rests) (stands (suc i) rests)
stands i ((e ∷ es) ∷ rests) = chosen i e es rests (least (suc i) rests) (stands (suc i) rests)

-- ---- it is taken

without_dated : (rests : List (List Entry)) (i : ℕ) (e : Entry) (es : List Entry) → slice_get rests i ≡ Some (e ∷ es) → dated_all (without_first rests i) ≡ slice_set (dated_all rests) i (map dated_of es)
without_dated [] i e es h = absurd (none-some (e ∷ es) h)
without_dated (rest ∷ rests) zero e es h = ap (λ (r : List Entry). map dated_of (behind_first r) ∷ dated_all rests) (same_Some rest (e ∷ es) h)
without_dated (rest ∷ rests) (suc i) e es h = ap (λ (l : List (List Dated)). map dated_of rest ∷ l) (without_dated rests i e es h)

dated_at : (rests : List (List Entry)) (i : ℕ) (es : List Entry) → slice_get rests i ≡ Some es → slice_get (dated_all rests) i ≡ Some (map dated_of es)
dated_at [] i es h = absurd (none-some es h)
dated_at (rest ∷ rests) zero es h = ap (λ (r : List Entry). Some (map dated_of r)) (same_Some rest es h)
dated_at (rest ∷ rests) (suc i) es h = dated_at rests i es h

one_less : (rests : List (List Entry)) (i : ℕ) (e : Entry) (es : List Entry) → slice_get rests i ≡ Some (e ∷ es) → suc (count (without_first rests i)) ≡ count rests
one_less [] i e es h = absurd (none-some (e ∷ es) h)
one_less (rest ∷ rests) zero e es h = subst (λ (r : List Entry). suc (length (behind_first r) + count rests) ≡ length r + count rests) (sym (same_Some rest (e ∷ es) h)) (omega arith)
one_less (rest ∷ rests) (suc i) e es h = let r = one_less rests i e es h in omega arith

same_head : (a b : Dated) (xs ys : List Dated) → ◌≡◌ {A = List Dated} (a ∷ xs) (b ∷ ys) → a ≡ b
same_head a b xs ys e = cc

same_tail : (a b : Dated) (xs ys : List Dated) → ◌≡◌ {A = List Dated} (a ∷ xs) (b ∷ ys) → xs ≡ ys
same_tail a b xs ys e = cc

-- ---- all of it

abbrev pub events_in : List Place → List Event
events_in ps = map (λ (p : Place). event_of p.entry.took) ps

merged_on : (rests : List (List Entry)) (p : Place) → least 0 rests ≡ Some p → suc (count (without_first rests p.at)) ≡ count rests → merged rests ≡ p ∷ merged (without_first rests p.at)
merged_on rests p is less = ap (λ (n : ℕ). merged_from n rests) (sym less) ∙ ap (next_and (merged_from (count (without_first rests p.at))) rests) is

none_merged : (n : ℕ) (rests : List (List Entry)) → least 0 rests ≡ None → merged_from n rests ≡ []
none_merged zero rests is = refl
none_merged (suc n) rests is = ap (next_and (merged_from n) rests) is

-- Of these histories, whose first events are taken, this is left.
pub record Left (lists : List (List Dated)) (events : List Event) (histories : List (List Entry)) : Type 0 where
  pub rests : List (List Entry)
  pub are : lists ≡ dated_all rests
  pub all : events_in (merged histories) ≡ events ++ events_in (merged rests)

-- of all histories that the lists tell
abbrev pub Merging : List (List Dated) → List (List Dated) → List Event → Type 0
Merging given lists events = (histories : List (List Entry)) → given ≡ dated_all histories → Left lists events histories

pub none_taken : (given lists : List (List Dated)) (events : List Event) → lists ≡ given → events ≡ [] → Merging given lists events
none_taken given lists events same none histories are = record {
  rests = histories;
  are = same ∙ are;
  all = ap (λ (l : List Event). l ++ events_in (merged histories)) (sym none);
}

pub one_taken : (given old new : List (List Dated)) (events now : List Event) (event : Event) → Merging given old events → Next old (Some event) new → now ≡ events ++ event ∷ [] → Merging given new now
one_taken given old new events now event m n more histories are =
    let l = m histories are in
    let f = n.0 in
    let t = n.2 in
    let to = some_mapped (least 0 l.rests) f (sym (first_least 0 l.rests) ∙ ap (first_in 0) (sym l.are) ∙ n.1) in
    let p = to.place in
    let s : Stands 0 l.rests p = subst (StandsIf 0 l.rests) to.is (stands 0 l.rests) in
    let at : s.at ≡ p.at = (let h = s.place in omega arith) in
    let there : slice_get l.rests p.at ≡ Some (p.entry ∷ s.behind) = subst (λ (k : ℕ). slice_get l.rests k ≡ Some (p.entry ∷ s.behind)) at s.there in
    let noted : slice_get old p.at ≡ Some (dated_of p.entry ∷ map dated_of s.behind) = ap (λ (ls : List (List Dated)). slice_get ls p.at) l.are ∙ dated_at l.rests p.at (p.entry ∷ s.behind) there in
    let both = same_Some (t.first ∷ t.behind) (dated_of p.entry ∷ map dated_of s.behind) (sym t.there ∙ ap (slice_get old) (sym to.at) ∙ noted) in
    let first : t.first ≡ dated_of p.entry = same_head t.first (dated_of p.entry) t.behind (map dated_of s.behind) both in
    let behind : t.behind ≡ map dated_of s.behind = same_tail t.first (dated_of p.entry) t.behind (map dated_of s.behind) both in
    let is : event ≡ event_of p.entry.took = t.is ∙ ap (λ (d : Dated). d.event) first in
    record {
      rests = without_first l.rests p.at;
      are = t.left ∙ ap (λ (k : ℕ). slice_set old k t.behind) (sym to.at) ∙ ap (slice_set old p.at) behind
          ∙ ap (λ (ls : List (List Dated)). slice_set ls p.at (map dated_of s.behind)) l.are ∙ sym (without_dated l.rests p.at p.entry s.behind there);
      all = l.all ∙ ap (λ (ps : List Place). events ++ events_in ps) (merged_on l.rests p to.is (one_less l.rests p.at p.entry s.behind there))
          ∙ ap (λ (x : Event). events ++ x ∷ events_in (merged (without_first l.rests p.at))) (sym is)
          ∙ sym (append_assoc events (event ∷ []) (events_in (merged (without_first l.rests p.at))))
          ∙ ap (λ (x : List Event). x ++ events_in (merged (without_first l.rests p.at))) (sym more);
    }

pub all_taken : (given old new : List (List Dated)) (events : List Event) → Merging given old events → Next old None new → (histories : List (List Entry)) → given ≡ dated_all histories → events ≡ events_in (merged histories)
all_taken given old new events m none histories are =
    let l = m histories are in
    let over = none_mapped (least 0 l.rests) (sym (first_least 0 l.rests) ∙ ap (first_in 0) (sym l.are) ∙ none) in
    sym (l.all ∙ ap (λ (ps : List Place). events ++ events_in ps) (none_merged (count l.rests) l.rests over) ∙ append-nil events)

-- ---- it ends

set_less : (lists : List (List Dated)) (at : ℕ) (d : Dated) (ds : List Dated) → slice_get lists at ≡ Some (d ∷ ds) → left_in (slice_set lists at ds) + 1 ≡ left_in lists
set_less [] at d ds h = absurd (none-some (d ∷ ds) h)
set_less (l ∷ lists) zero d ds h = subst (λ (r : List Dated). length ds + left_in lists + 1 ≡ length r + left_in lists) (sym (same_Some l (d ∷ ds) h)) (omega arith)
set_less (l ∷ lists) (suc at) d ds h = let r = set_less lists at d ds h in omega arith

pub less_left : (old new : List (List Dated)) (event : Event) → Next old (Some event) new → left_in new + 1 ≡ left_in old
less_left old new event n = let t = n.2 in ap (λ (l : List (List Dated)). left_in l + 1) t.left ∙ set_less old n.0.at t.first t.behind t.there
