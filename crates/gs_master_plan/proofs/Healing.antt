-- The first in use of those that have the fewest members is the one that needs a replica most.
use Rattle.std.proofs.Common.{inl, inr, ⊎_elim, ◌⊎◌, ◌≡◌, ◌∙◌, ◌<◌, ◌≤◌, ◌+◌, ◌-◌, ◌==◌, ◌&&◌, ℕ, Bool, true, false, cond, T, List, [], ◌∷◌, length, map, filter, Option, Some, None, refl, ap, sym, subst, arith}
use Rattle.std.proofs.lemmas.Bool.{false≢true}
use Rattle.std.proofs.lemmas.Bool.Decides.{nat_tests}
use Rattle.std.proofs.lemmas.List.Elements.{Contains-push, Contains-push_cases, Contains-append_cases, Contains-append_left, Contains-append_right}
use Rattle.std.specs.Prelude.{Contains, option_and_then, option_map, is_some, nat_lt}
use Rattle.std.specs.Cmp.{eq_by_cmp_equiv, nat_cmp_total}
use Rattle.std.specs.FinMap as fin
use Rattle.std.specs.FinMap.Entries.{below_all, is_sorted}
use Rattle.std.specs.Ordering.{eq_by_cmp, is_eq, is_lt, nat_cmp}
use Rattle.std.specs.declared.cmp.Ordering.{Ordering}
use Rattle.std.specs.declared.cmp.Ordering.TheVariants.{Less, Equal, Greater}
use Rattle.gs_base_table.specs.Slots.{live}
use Rattle.gs_edit.proofs.References.{same-is}
use Rattle.gs_lease.specs.declared.lease.Lease.{Lease}
use Rattle.gs_lease_table.specs.Groups.{AreThose, passes}
use Rattle.gs_lease_table.specs.Tallies.{settled_members}
use Rattle.gs_place.proofs.Firsts.{precedes_itself}
use Rattle.gs_place.proofs.Most.{most_is}
use Rattle.gs_place.specs.Needs.{is_needy, most_needed_of, needs_more}
use Rattle.gs_place.specs.Order.{precedes, rank}
use Rattle.gs_place.specs.declared.need.Need.{Need}
use Rattle.gs_tree.proofs.Levels.{never}
use Rattle.gs_master_plan.proofs.Losing.{members_at, told_members}
use Rattle.gs_master_plan.specs.inner.Healing.{first_in_use, is_in_use, or_else}
use Rattle.gs_master_spec.specs.Calls.{references}
use Rattle.gs_master_spec.specs.Chunks.{has_entry}
use Rattle.gs_master_spec.specs.Durable.{Durable, Settled}
use Rattle.gs_master_spec.specs.State.{State}
use Rattle.gs_master_spec.specs.Working.{is_visible, need_of, needs_of}
use Rattle.gs_master_state.proofs.Recording.{get_chunks}
use Rattle.gs_master_state.specs.declared.recorded.Recorded.{Recorded}
use Rattle.gs_master_state.specs.inner.Recorded.{durable_of, settled_by}

-- ---- lists

cons_cases : {X : Type 0} (x : X) (xs : List X) (o : X) → Contains (x ∷ xs) o → (x ≡ o) ⊎ Contains xs o
cons_cases x xs o among = ⊎_elim
    (λ (one : Contains (x ∷ []) o). ⊎_elim (λ (none : Contains [] o). absurd (omega (arith, none.1))) (λ (same : x ≡ o). inl same) (Contains-push_cases [] x o one))
    (λ (rest : Contains xs o). inr rest)
    (Contains-append_cases (x ∷ []) xs o among)

in_head : {X : Type 0} (x : X) (xs : List X) → Contains (x ∷ xs) x
in_head x xs = Contains-append_left (x ∷ []) xs x (Contains-push [] x)

in_tail : {X : Type 0} (x : X) (xs : List X) (o : X) → Contains xs o → Contains (x ∷ xs) o
in_tail x xs o among = Contains-append_right (x ∷ []) xs o among

clash : (b : Bool) → b ≡ true → b ≡ false → ⊥
clash b t f = false≢true (sym f ∙ t)

first : (a b : Bool) → T (a && b) → T a
first true b p = tt
first false b p = p

second : (a b : Bool) → T (a && b) → T b
second true b p = p
second false b p = absurd p

one_of : (a b : Bool) → a && b ≡ true → a ≡ true
one_of true b h = refl
one_of false b h = h

other_of : (a b : Bool) → a && b ≡ true → b ≡ true
other_of true b h = h
other_of false b h = absurd (false≢true h)

both_of : (a b : Bool) → a ≡ true → b ≡ true → a && b ≡ true
both_of true b h k = k
both_of false b h k = absurd (false≢true h)

itself : (q : ℕ) → eq_by_cmp nat_cmp q q ≡ true
itself q = (eq_by_cmp_equiv nat_cmp_total).refl q

some_is : {A : Type 0} (x y : A) → Some x ≡ Some y → x ≡ y
some_is x y e = ap (λ o. from o x) e
  where
    from : {A : Type 0} → Option A → A → A
    from None z = z
    from (Some v) z = v

-- ---- entries and their keys

-- one of a list
abbrev In : ℕ → List ℕ → Type 0
In q [] = ⊥
In q (k ∷ ks) = (k ≡ q) ⊎ In q ks

found_in : {V : Type 0} (q : ℕ) (es : List (ℕ × V)) → is_some (fin.find nat_cmp q es) ≡ true → In q (map (λ e. e.0) es)
found_in q [] h = absurd (false≢true h)
found_in {V = V} q (e ∷ es) h = at (found_in q es) (eq_by_cmp nat_cmp q e.0) refl h
  where
    at : (is_some (fin.find nat_cmp q es) ≡ true → In q (map (λ e. e.0) es)) → (b : Bool) → eq_by_cmp nat_cmp q e.0 ≡ b → is_some (cond b (Some e.1) (fin.find nat_cmp q es)) ≡ true → (e.0 ≡ q) ⊎ In q (map (λ e. e.0) es)
    at behind true is h = inl (sym (same-is q e.0 is))
    at behind false is h = inr (behind h)

in_found : {V : Type 0} (q : ℕ) (es : List (ℕ × V)) → In q (map (λ e. e.0) es) → is_some (fin.find nat_cmp q es) ≡ true
in_found q [] among = absurd among
in_found {V = V} q (e ∷ es) (inl same) = ap (λ k. is_some (cond k (Some e.1) (fin.find nat_cmp q es))) (ap (eq_by_cmp nat_cmp q) same ∙ itself q)
in_found {V = V} q (e ∷ es) (inr among) = at (in_found q es among) (eq_by_cmp nat_cmp q e.0)
  where
    at : is_some (fin.find nat_cmp q es) ≡ true → (b : Bool) → is_some (cond b (Some e.1) (fin.find nat_cmp q es)) ≡ true
    at behind true = refl
    at behind false = behind

not_below : {V : Type 0} (k : ℕ) (es : List (ℕ × V)) → T (below_all nat_cmp k es) → fin.find nat_cmp k es ≡ None
not_below k [] h = refl
not_below {V = V} k (e ∷ es) h = at (not_below k es) (nat_cmp k e.0) h
  where
    at : (T (below_all nat_cmp k es) → fin.find nat_cmp k es ≡ None) → (r : Ordering) → T (is_lt r && below_all nat_cmp k es) → cond (is_eq r) (Some e.1) (fin.find nat_cmp k es) ≡ None
    at behind Less h = behind h
    at behind Equal h = absurd h
    at behind Greater h = absurd h

less_is : (x y : ℕ) → T (is_lt (nat_cmp x y)) → x < y
less_is x y h = from_test (nat_lt x y) (x == y) refl h
  where
    from_test : (a b : Bool) → nat_lt x y ≡ a → T (is_lt (cond a Less (cond b Equal Greater))) → x < y
    from_test true b is h = grind (arith, nat_tests)
    from_test false true is h = absurd h
    from_test false false is h = absurd h

-- each is below those behind it
abbrev Rise : List ℕ → Type 0
Rise [] = Unit {0}
Rise (k ∷ ks) = ((q : ℕ) → In q ks → k < q) × Rise ks

below_in : {V : Type 0} (k : ℕ) (es : List (ℕ × V)) → T (below_all nat_cmp k es) → (q : ℕ) → In q (map (λ e. e.0) es) → k < q
below_in k [] h q among = absurd among
below_in k (e ∷ es) h q (inl same) = subst (λ n. k < n) same (less_is k e.0 (first (is_lt (nat_cmp k e.0)) _ h))
below_in k (e ∷ es) h q (inr among) = below_in k es (second (is_lt (nat_cmp k e.0)) _ h) q among

keys_rise : {V : Type 0} (es : List (ℕ × V)) → T (is_sorted nat_cmp es) → Rise (map (λ e. e.0) es)
keys_rise [] h = tt
keys_rise (e ∷ es) h = (λ q among. below_in e.0 es (first (below_all nat_cmp e.0 es) _ h) q among, keys_rise es (second (below_all nat_cmp e.0 es) _ h))

-- ---- what chunks need

need_in : (d : Durable) (test : ℕ → Bool) (es : List (ℕ × Settled)) (c : ℕ) (x : Settled) → fin.find nat_cmp c es ≡ Some x → test c ≡ true → Contains (map (need_of d) (filter (λ (e : ℕ × Settled). test e.0) es)) (need_of d (c, x))
need_in d test [] c x found h = absurd (let none : None ≡ Some x = found in cc)
need_in d test (e ∷ es) c x found h = at (λ found. need_in d test es c x found h) (eq_by_cmp nat_cmp c e.0) refl found (test e.0) refl
  where
    at : (fin.find nat_cmp c es ≡ Some x → Contains (map (need_of d) (filter (λ (e : ℕ × Settled). test e.0) es)) (need_of d (c, x))) → (b : Bool) → eq_by_cmp nat_cmp c e.0 ≡ b → cond b (Some e.1) (fin.find nat_cmp c es) ≡ Some x → (t : Bool) → test e.0 ≡ t
        → Contains (map (need_of d) (cond t (e ∷ filter (λ (e : ℕ × Settled). test e.0) es) (filter (λ (e : ℕ × Settled). test e.0) es))) (need_of d (c, x))
    at behind true is found true t =
        let key : e.0 ≡ c = sym (same-is c e.0 is) in
        let value : e.1 ≡ x = some_is e.1 x found in
        subst (λ n. Contains (need_of d e ∷ map (need_of d) (filter (λ (e : ℕ × Settled). test e.0) es)) n) (λ i. need_of d (key i, value i)) (in_head (need_of d e) (map (need_of d) (filter (λ (e : ℕ × Settled). test e.0) es)))
    at behind true is found false t = absurd (clash (test c) h (ap test (same-is c e.0 is) ∙ t))
    at behind false is found true t = in_tail (need_of d e) (map (need_of d) (filter (λ (e : ℕ × Settled). test e.0) es)) (need_of d (c, x)) (behind found)
    at behind false is found false t = behind found

-- a need is that of a chunk
record Tells (d : Durable) (test : ℕ → Bool) (es : List (ℕ × Settled)) (other : Need) : Type 0 where
  chunk : ℕ
  settled : Settled
  found : fin.find nat_cmp chunk es ≡ Some settled
  passes : test chunk ≡ true
  is : other ≡ need_of d (chunk, settled)

need_from : (d : Durable) (test : ℕ → Bool) (es : List (ℕ × Settled)) → T (is_sorted nat_cmp es) → (other : Need) → Contains (map (need_of d) (filter (λ (e : ℕ × Settled). test e.0) es)) other → Tells d test es other
need_from d test [] s other among = absurd (omega (arith, among.1))
need_from d test (e ∷ es) s other among = at (need_from d test es (second (below_all nat_cmp e.0 es) _ s) other) (test e.0) refl among
  where
    later : (k : ℕ) (x : Settled) → fin.find nat_cmp k es ≡ Some x → (b : Bool) → eq_by_cmp nat_cmp k e.0 ≡ b → cond b (Some e.1) (fin.find nat_cmp k es) ≡ Some x
    later k x found true is =
        let none : fin.find nat_cmp k es ≡ None = ap (λ q. fin.find nat_cmp q es) (same-is k e.0 is) ∙ not_below e.0 es (first (below_all nat_cmp e.0 es) _ s) in
        absurd (clash (is_some (fin.find nat_cmp k es)) (ap is_some found) (ap is_some none))
    later k x found false is = found

    more : Tells d test es other → Tells d test (e ∷ es) other
    more k = record { chunk = k.chunk; settled = k.settled; found = later k.chunk k.settled k.found (eq_by_cmp nat_cmp k.chunk e.0) refl; passes = k.passes; is = k.is }

    at : (Contains (map (need_of d) (filter (λ (e : ℕ × Settled). test e.0) es)) other → Tells d test es other) → (b : Bool) → test e.0 ≡ b → Contains (map (need_of d) (cond b (e ∷ filter (λ (e : ℕ × Settled). test e.0) es) (filter (λ (e : ℕ × Settled). test e.0) es))) other → Tells d test (e ∷ es) other
    at behind true is among = ⊎_elim
        (λ (same : need_of d e ≡ other). record { chunk = e.0; settled = e.1; found = ap (λ b. cond b (Some e.1) (fin.find nat_cmp e.0 es)) (itself e.0); passes = is; is = sym same })
        (λ (rest : Contains (map (need_of d) (filter (λ (e : ℕ × Settled). test e.0) es)) other). more (behind rest))
        (cons_cases (need_of d e) (map (need_of d) (filter (λ (e : ℕ × Settled). test e.0) es)) other among)
    at behind false is among = more (behind among)

-- ---- the first in use of some chunks

abbrev shows : State → ℕ → Bool
shows s chunk = is_visible (fin.entries s.durable.names.tree) chunk

-- one comes before another of as many members
abbrev leads : State → ℕ → ℕ → Bool
leads s q c = precedes 0 0 (rank (shows s q)) (rank (shows s c)) q c

record Best (s : State) (ks : List ℕ) (c : ℕ) : Type 0 where
  is_one : In c ks
  used : is_in_use s c ≡ true
  least : (q : ℕ) → In q ks → is_in_use s q ≡ true → leads s q c ≡ false

later_leads_not : (r x h k c : ℕ) → h < k → precedes 0 0 r x h c ≡ false → precedes 0 0 r x k c ≡ false
later_leads_not r x h k c less not = grind (arith, nat_tests)

later_than_shown : (r q k : ℕ) → k < q → precedes 0 0 r 0 q k ≡ false
later_than_shown r q k less = grind (arith, nat_tests)

leads_itself : (s : State) (q c : ℕ) → c ≡ q → leads s q c ≡ false
leads_itself s q c same = ap (leads s q) same ∙ precedes_itself 0 (rank (shows s q)) q

-- one that is shown, before those that rise behind it
shown_first : (s : State) (k : ℕ) (ks : List ℕ) (c : ℕ) → shows s k ≡ true → Rise (k ∷ ks) → k ≡ c → (q : ℕ) → In q ks → leads s q c ≡ false
shown_first s k ks c shown rises same q among =
    subst (λ n. leads s q n ≡ false) same (ap (λ b. precedes 0 0 (rank (shows s q)) (rank b) q k) shown ∙ later_than_shown (rank (shows s q)) q k (rises.0 q among))

first_with : (s : State) (h : ℕ) (ks : List ℕ) → is_in_use s h ≡ true → shows s h ≡ false → Rise (h ∷ ks) → (c : ℕ) → first_in_use s (Some h) ks ≡ Some c → Best s (h ∷ ks) c
first_with s h [] used hidden rises c is =
    let same : h ≡ c = some_is h c is in
    record { is_one = inl same; used = ap (is_in_use s) (sym same) ∙ used; least = λ q among used. ⊎_elim (λ (one : h ≡ q). leads_itself s q c (sym same ∙ one)) (λ none. absurd none) among }
first_with s h (k ∷ ks) used hidden rises c is = at (first_with s h ks used hidden (λ q among. rises.0 q (inr among), rises.1.1) c) (is_in_use s k) (shows s k) refl refl is
  where
    with_k : Best s (h ∷ ks) c → (is_in_use s k ≡ true → leads s k c ≡ false) → Best s (h ∷ k ∷ ks) c
    with_k best here = record {
      is_one = ⊎_elim (λ (one : h ≡ c). inl one) (λ (rest : In c ks). inr (inr rest)) best.is_one;
      used = best.used;
      least = λ q among used_q. ⊎_elim
          (λ (one : h ≡ q). best.least q (inl one) used_q)
          (λ (rest : (k ≡ q) ⊎ In q ks). ⊎_elim (λ (one : k ≡ q). subst (λ n. leads s n c ≡ false) one (here (ap (is_in_use s) one ∙ used_q))) (λ (behind : In q ks). best.least q (inr behind) used_q) rest)
          among;
    }

    at : (first_in_use s (Some h) ks ≡ Some c → Best s (h ∷ ks) c) → (u v : Bool) → is_in_use s k ≡ u → shows s k ≡ v → cond u (cond v (Some k) (first_in_use s (Some h) ks)) (first_in_use s (Some h) ks) ≡ Some c → Best s (h ∷ k ∷ ks) c
    at behind true true used_k shown is =
        let same : k ≡ c = some_is k c is in
        record {
          is_one = inr (inl same);
          used = ap (is_in_use s) (sym same) ∙ used_k;
          least = λ q among used_q. ⊎_elim
              (λ (one : h ≡ q). subst (λ n. leads s n c ≡ false) one (subst (λ n. leads s h n ≡ false) same (λ i. precedes 0 0 (rank (hidden i)) (rank (shown i)) h k)))
              (λ (rest : (k ≡ q) ⊎ In q ks). ⊎_elim (λ (one : k ≡ q). leads_itself s q c (sym same ∙ one)) (λ (behind : In q ks). shown_first s k ks c shown rises.1 same q behind) rest)
              among;
        }
    at behind true false used_k hid is =
        let best = behind is in
        with_k best (λ used_k.
        let before : precedes 0 0 1 (rank (shows s c)) h c ≡ false = subst (λ b. precedes 0 0 (rank b) (rank (shows s c)) h c ≡ false) hidden (best.least h (inl refl) used) in
        subst (λ b. precedes 0 0 (rank b) (rank (shows s c)) k c ≡ false) (sym hid) (later_leads_not 1 (rank (shows s c)) h k c (rises.0 k (inl refl)) before))
    at behind false v unused hid is = with_k (behind is) (λ used_k. absurd (clash (is_in_use s k) used_k unused))

first_alone : (s : State) (ks : List ℕ) → Rise ks → (c : ℕ) → first_in_use s None ks ≡ Some c → Best s ks c
first_alone s [] rises c is = absurd (let none : None ≡ Some c = is in cc)
first_alone s (k ∷ ks) rises c is = at (first_alone s ks rises.1 c) (is_in_use s k) (shows s k) refl refl is
  where
    at : (first_in_use s None ks ≡ Some c → Best s ks c) → (u v : Bool) → is_in_use s k ≡ u → shows s k ≡ v → cond u (cond v (Some k) (first_in_use s (Some k) ks)) (first_in_use s None ks) ≡ Some c → Best s (k ∷ ks) c
    at behind true true used shown is =
        let same : k ≡ c = some_is k c is in
        record {
          is_one = inl same;
          used = ap (is_in_use s) (sym same) ∙ used;
          least = λ q among used_q. ⊎_elim (λ (one : k ≡ q). leads_itself s q c (sym same ∙ one)) (λ (behind : In q ks). shown_first s k ks c shown rises same q behind) among;
        }
    at behind true false used hid is = first_with s k ks used hid rises c is
    at behind false v unused hid is =
        let best = behind is in
        record {
          is_one = inr best.is_one;
          used = best.used;
          least = λ q among used_q. ⊎_elim (λ (one : k ≡ q). absurd (clash (is_in_use s q) used_q (ap (is_in_use s) (sym one) ∙ unused))) (λ (behind : In q ks). best.least q behind used_q) among;
        }

some_stays : (s : State) (h : ℕ) (ks : List ℕ) → is_some (first_in_use s (Some h) ks) ≡ true
some_stays s h [] = refl
some_stays s h (k ∷ ks) = at (some_stays s h ks) (is_in_use s k) (shows s k)
  where
    at : is_some (first_in_use s (Some h) ks) ≡ true → (u v : Bool) → is_some (cond u (cond v (Some k) (first_in_use s (Some h) ks)) (first_in_use s (Some h) ks)) ≡ true
    at behind true true = refl
    at behind true false = behind
    at behind false v = behind

none_in_use : (s : State) (ks : List ℕ) → first_in_use s None ks ≡ None → (q : ℕ) → In q ks → is_in_use s q ≡ false
none_in_use s [] is q among = absurd among
none_in_use s (k ∷ ks) is q among = at (λ is. none_in_use s ks is q) (is_in_use s k) (shows s k) refl is
  where
    at : (first_in_use s None ks ≡ None → In q ks → is_in_use s q ≡ false) → (u v : Bool) → is_in_use s k ≡ u → cond u (cond v (Some k) (first_in_use s (Some k) ks)) (first_in_use s None ks) ≡ None → is_in_use s q ≡ false
    at behind true true used is = absurd (let some : Some k ≡ None = is in cc)
    at behind true false used is = absurd (clash (is_some (first_in_use s (Some k) ks)) (some_stays s k ks) (ap is_some is))
    at rest false v unused is = ⊎_elim (λ (one : k ≡ q). ap (is_in_use s) (sym one) ∙ unused) (λ (behind : In q ks). rest is behind) among

-- ---- those of so many members

abbrev many_at : ℕ → Option Settled → Bool
many_at many None = false
many_at many (Some x) = length x.view.members == many

pub record IsGroup (s : State) (many : ℕ) (set : fin.FinMap nat_cmp Bool) : Type 0 where
  pub each : (q : ℕ) → is_some (fin.get set q) ≡ many_at many (fin.get s.durable.chunks q)

none_has : (many : ℕ) → 1 ≤ many → (0 == many) ≡ false
none_has many some = grind (arith, nat_tests)

pub group_of : (s : State) (r : Recorded) (many : ℕ) (set : fin.FinMap nat_cmp Bool) → 1 ≤ many → s.durable.chunks ≡ (durable_of r).chunks
    → AreThose (λ lease. length (settled_members lease) == many) (live nat_cmp r.leases) set → IsGroup s many set
group_of s r many set some same are = record {
  each = λ q. are.each q ∙ at (fin.get (live nat_cmp r.leases) q) ∙ ap (many_at many) (sym (ap (λ m. fin.get m q) same ∙ get_chunks (live nat_cmp r.leases) q));
}
  where
    by : (x : Option Settled) → (length (members_at x) == many) ≡ many_at many x
    by None = none_has many some
    by (Some x) = refl

    at : (l : Option Lease) → passes (λ lease. length (settled_members lease) == many) l ≡ many_at many (option_and_then settled_by l)
    at None = refl
    at (Some lease) = ap (λ members. length members == many) (told_members lease) ∙ by (settled_by lease)

-- none of fewer members is in use
pub record NoneBelow (s : State) (many : ℕ) : Type 0 where
  pub each : (q : ℕ) (x : Settled) → fin.get s.durable.chunks q ≡ Some x → is_in_use s q ≡ true → 0 < length x.view.members → length x.view.members < many → ⊥

pub none_below_one : (s : State) → NoneBelow s 1
none_below_one s = record { each = λ q x get used some low. omega arith }

in_group : (s : State) (many : ℕ) (set : fin.FinMap nat_cmp Bool) (q : ℕ) (x : Settled) → IsGroup s many set → fin.get s.durable.chunks q ≡ Some x → length x.view.members ≡ many → In q (fin.keys set)
in_group s many set q x group get same =
    let is : (length x.view.members == many) ≡ true = grind (arith, nat_tests) in
    found_in q (fin.entries set) (ap is_some (sym (fin.get-entries set q)) ∙ group.each q ∙ ap (many_at many) get ∙ is)

either_way : (a b : ℕ) → a < b + 1 → (a < b) ⊎ (a ≡ b)
either_way a b low = at (a == b) refl
  where
    at : (t : Bool) → (a == b) ≡ t → (a < b) ⊎ (a ≡ b)
    at true is = inr (grind (arith, nat_tests))
    at false is = inl (grind (arith, nat_tests))

pub none_more : (s : State) (many : ℕ) (set : fin.FinMap nat_cmp Bool) → IsGroup s many set → first_in_use s None (fin.keys set) ≡ None → NoneBelow s many → NoneBelow s (many + 1)
none_more s many set group is none = record {
  each = λ q x get used some low. ⊎_elim
      (λ (less : length x.view.members < many). none.each q x get used some less)
      (λ (same : length x.view.members ≡ many). clash (is_in_use s q) used (none_in_use s (fin.keys set) is q (in_group s many set q x group get same)))
      (either_way (length x.view.members) many low);
}

-- ---- the most needed

lt_is : (a b : ℕ) → nat_lt a b ≡ true → a < b
lt_is a b h = grind (arith, nat_tests)

is_lt_so : (a b : ℕ) → a < b → nat_lt a b ≡ true
is_lt_so a b h = grind (arith, nat_tests)

-- who needs a replica is in use
record IsShort (s : State) (replicas : ℕ) (other : Need) : Type 0 where
  chunk : ℕ
  settled : Settled
  get : fin.get s.durable.chunks chunk ≡ Some settled
  is : other ≡ need_of s.durable (chunk, settled)
  used : is_in_use s chunk ≡ true
  some : 0 < length settled.view.members
  few : length settled.view.members < replicas

short_of : (s : State) (replicas : ℕ) (other : Need) → Contains (needs_of s) other → is_needy replicas other ≡ true → IsShort s replicas other
short_of s replicas other among needy =
    let tells = need_from s.durable (has_entry s) (fin.entries s.durable.chunks) (fin.entries_sorted s.durable.chunks) other among in
    let needs : is_needy replicas (need_of s.durable (tells.chunk, tells.settled)) ≡ true = subst (λ n. is_needy replicas n ≡ true) tells.is needy in
    let rest = other_of (nat_lt 0 (references s.durable.names tells.chunk)) _ needs in
    record {
      chunk = tells.chunk;
      settled = tells.settled;
      get = fin.get-entries s.durable.chunks tells.chunk ∙ tells.found;
      is = tells.is;
      used = both_of (has_entry s tells.chunk) _ tells.passes (one_of (nat_lt 0 (references s.durable.names tells.chunk)) _ needs);
      some = lt_is 0 (length tells.settled.view.members) (one_of (nat_lt 0 (length tells.settled.view.members)) _ rest);
      few = lt_is (length tells.settled.view.members) replicas (other_of (nat_lt 0 (length tells.settled.view.members)) _ rest);
    }

pub none_needed : (s : State) (replicas many : ℕ) → replicas ≤ many → NoneBelow s many → None ≡ most_needed_of replicas (needs_of s)
none_needed s replicas many all none = most_is replicas (needs_of s) None (λ other among. never (is_needy replicas other) (λ needy.
    let short = short_of s replicas other among needy in
    none.each short.chunk short.settled short.get short.used short.some (omega (arith, short.few))))

lacks_as_many : (a b r r' h h' : ℕ) → a ≡ b → precedes 0 0 r r' h h' ≡ false → precedes a b r r' h h' ≡ false
lacks_as_many a b r r' h h' same not = grind (arith, nat_tests)

lacks_less : (a b r r' h h' : ℕ) → b < a → precedes a b r r' h h' ≡ false
lacks_less a b r r' h h' less = grind (arith, nat_tests)

three_ways : (a b : ℕ) → (a < b) ⊎ ((a ≡ b) ⊎ (b < a))
three_ways a b = at (nat_lt a b) (a == b) refl refl
  where
    at : (t u : Bool) → nat_lt a b ≡ t → (a == b) ≡ u → (a < b) ⊎ ((a ≡ b) ⊎ (b < a))
    at true u is same = inl (grind (arith, nat_tests))
    at false true is same = inr (inl (grind (arith, nat_tests)))
    at false false is same = inr (inr (grind (arith, nat_tests)))

pub record Finds (s : State) (many : ℕ) (set : fin.FinMap nat_cmp Bool) (c : ℕ) : Type 0 where
  pub some : 1 ≤ many
  pub group : IsGroup s many set
  pub none : NoneBelow s many
  pub is : first_in_use s None (fin.keys set) ≡ Some c

settled_at : (many : ℕ) (x : Option Settled) → many_at many x ≡ true → (settled : Settled) × ((x ≡ Some settled) × (length settled.view.members ≡ many))
settled_at many None h = absurd (false≢true h)
settled_at many (Some settled) h = (settled, (refl, grind (arith, nat_tests)))

pub found_is_needed : (s : State) (replicas many : ℕ) (set : fin.FinMap nat_cmp Bool) (c : ℕ) → many < replicas → Finds s many set c → Some c ≡ most_needed_of replicas (needs_of s)
found_is_needed s replicas many set c few finds =
    let best = first_alone s (fin.keys set) (keys_rise (fin.entries set) (fin.entries_sorted set)) c finds.is in
    let at = settled_at many (fin.get s.durable.chunks c) (sym (finds.group.each c) ∙ ap is_some (fin.get-entries set c) ∙ in_found c (fin.entries set) best.is_one) in
    let settled = at.0 in
    let most = need_of s.durable (c, settled) in
    most_is replicas (needs_of s) (Some most) (
      need_in s.durable (has_entry s) (fin.entries s.durable.chunks) c settled (sym (fin.get-entries s.durable.chunks c) ∙ at.1.0) (one_of (has_entry s c) _ best.used),
      both_of (nat_lt 0 (references s.durable.names c)) _ (other_of (has_entry s c) _ best.used)
          (both_of (nat_lt 0 (length settled.view.members)) _ (is_lt_so 0 (length settled.view.members) (omega (arith, at.1.1, finds.some))) (is_lt_so (length settled.view.members) replicas (omega (arith, at.1.1, few)))),
      λ other among needy.
          let short = short_of s replicas other among needy in
          let needs : needs_more replicas (need_of s.durable (short.chunk, short.settled)) most ≡ false = ⊎_elim
          (λ (less : length short.settled.view.members < many). absurd (finds.none.each short.chunk short.settled short.get short.used short.some less))
          (λ (rest : (length short.settled.view.members ≡ many) ⊎ (many < length short.settled.view.members)). ⊎_elim
          (λ (same : length short.settled.view.members ≡ many).
          lacks_as_many (replicas - length settled.view.members) (replicas - length short.settled.view.members) (rank (shows s short.chunk)) (rank (shows s c)) short.chunk c
          (ap (λ n. replicas - n) (at.1.1 ∙ sym same))
          (best.least short.chunk (in_group s many set short.chunk short.settled finds.group short.get same) short.used))
          (λ (more : many < length short.settled.view.members).
          lacks_less (replicas - length settled.view.members) (replicas - length short.settled.view.members) (rank (shows s short.chunk)) (rank (shows s c)) short.chunk c (omega (arith, at.1.1, short.few, few, more)))
          rest)
          (three_ways (length short.settled.view.members) many) in
          subst (λ n. needs_more replicas n most ≡ false) (sym short.is) needs,
    )
