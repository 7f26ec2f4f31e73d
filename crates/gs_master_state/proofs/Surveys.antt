-- What is found in all leases is what is found in all settled chunks.
use Rattle.std.proofs.Common.{arith, ◌≡◌, ◌∙◌, ◌+◌, ◌==◌, ◌&&◌, ◌||◌, ℕ, Bool, true, false, not, cond, T, List, [], ◌∷◌, map, filter, length, refl, ap, sym, subst, Option, Some, None}
use Rattle.std.specs.Prelude.{Option, Some, None, filter_map, option_map, is_some, if◌then◌else◌}
use Rattle.std.specs.FinMap as fin
use Rattle.std.specs.FinMap.Entries.{below_all, is_sorted}
use Rattle.std.specs.declared.cmp.Ordering.{Ordering}
use Rattle.std.specs.declared.cmp.Ordering.TheVariants.{Less, Equal, Greater}
use Rattle.std.proofs.lemmas.List.Sums.{sum_by-cons}
use Rattle.std.proofs.lemmas.List.Folds.{list_any-append}
use Rattle.std.specs.List.{AllByRecursion, list_any}
use Rattle.std.specs.List.Sorted.{IsStrictlySortedBy}
use Rattle.std.specs.Ordering.{is_lt, nat_cmp}
use Rattle.gs_base.specs.Members.{is_member}
use Rattle.gs_base.specs.declared.numbers.Stamp.{Stamp}
use Rattle.gs_lease.specs.Told.{told_of}
use Rattle.gs_lease.specs.declared.lease.Lease.{Lease}
use Rattle.gs_lease.specs.declared.view.View.{View}
use Rattle.gs_lease_table.specs.Tallies.{AreReplicas, members_of, replicas}
use Rattle.gs_msg.specs.declared.body.Reported.{Reported}
use Rattle.gs_path.specs.Element.{is_hidden}
use Rattle.gs_tree.specs.Chunks.{all_chunks, visible_chunks_under, visible_under}
use Rattle.gs_tree.specs.Edits.{chunks_in}
use Rattle.gs_tree.specs.Find.{Rows}
use Rattle.gs_base_table.specs.Slots.{live, live_entries}
use Rattle.gs_master_spec.specs.Beginning.{replicas_on}
use Rattle.gs_master_spec.specs.Chunks.{has_entry}
use Rattle.gs_master_spec.specs.Durable.{Settled}
use Rattle.gs_master_spec.specs.Hearing.{is_told_sound}
use Rattle.gs_master_state.specs.inner.Recorded.{durable_of, settled_as, settled_by}
use Rattle.gs_master_spec.specs.State.{State}
use Rattle.gs_master_state.specs.inner.Surveying.{AreCounts, AreSound, AreVisible, chunk_set, need_by, need_where, settled_where, sound_handles, view_where}
use Rattle.gs_master_spec.specs.Working.{is_visible, need_of, needs_of}
use Rattle.gs_master_state.specs.declared.recorded.Recorded.{Recorded}
use Rattle.gs_master_state.proofs.ChunkSets.{in_set, keys_where}
use Rattle.gs_master_state.proofs.Recording.{entries_chunks, told_entry}

without : {A B : Type 0} (f : A → Option B) (x : A) (xs : List A) → f x ≡ None → filter_map f (x ∷ xs) ≡ filter_map f xs
without f x xs is = rw is refl

with_one : {A B : Type 0} (f : A → Option B) (x : A) (xs : List A) (y : B) → f x ≡ Some y → filter_map f (x ∷ xs) ≡ y ∷ filter_map f xs
with_one f x xs y is = rw is refl

-- what is found of one chunk, by a test of it and its settled view
abbrev Finds : {B : Type 0} → (ℕ × Lease → Option B) → (ℕ → Bool) → (ℕ × Settled → B) → Type 0
Finds found test f = (e : ℕ × Lease) → found e ≡ cond (test e.0) (option_map (λ s. f (e.0, s)) (settled_by e.1)) None

over_leases : {B : Type 0} (found : ℕ × Lease → Option B) (test : ℕ → Bool) (f : ℕ × Settled → B) → Finds found test f → (es : List (ℕ × Lease)) →
    filter_map found es ≡ map f (filter (λ e. test e.0) (live_entries (map told_entry es)))
over_leases found test f finds [] = refl
over_leases {B = B} found test f finds (e ∷ es) = each (over_leases found test f finds es) (settled_by e.1) refl (test e.0) refl
  where
    at_lease : (s : Option Settled) → settled_by e.1 ≡ s → (b : Bool) → test e.0 ≡ b → found e ≡ cond b (option_map (λ s. f (e.0, s)) s) None
    at_lease s told b is = finds e ∙ (λ i. cond (is i) (option_map (λ s. f (e.0, s)) (told i)) None)

    each : filter_map found es ≡ map f (filter (λ e. test e.0) (live_entries (map told_entry es))) → (s : Option Settled) → settled_by e.1 ≡ s → (b : Bool) → test e.0 ≡ b
        → filter_map found (e ∷ es) ≡ map f (filter (λ e. test e.0) (live_entries ((e.0, s) ∷ map told_entry es)))
    each more None told true is = without found e es (at_lease None told true is) ∙ more
    each more None told false is = without found e es (at_lease None told false is) ∙ more
    each more (Some s) told true is =
        with_one found e es (f (e.0, s)) (at_lease (Some s) told true is) ∙ ap (λ l. f (e.0, s) ∷ l) more
        ∙ ap (λ b. map f (cond b ((e.0, s) ∷ filter (λ e. test e.0) (live_entries (map told_entry es))) (filter (λ e. test e.0) (live_entries (map told_entry es))))) (sym is)
    each more (Some s) told false is =
        without found e es (at_lease (Some s) told false is) ∙ more
        ∙ ap (λ b. map f (cond b ((e.0, s) ∷ filter (λ e. test e.0) (live_entries (map told_entry es))) (filter (λ e. test e.0) (live_entries (map told_entry es))))) (sym is)

-- the leases of a table, in their order
pub record AreLeases (r : Recorded) (es : List (ℕ × Lease)) : Type 0 where
  pub all : es ≡ fin.entries (live nat_cmp r.leases)
  pub rise : IsStrictlySortedBy nat_cmp (map (λ (e : ℕ × Lease). e.0) es)

over_chunks : {B : Type 0} (found : ℕ × Lease → Option B) (test : ℕ → Bool) (f : ℕ × Settled → B) → Finds found test f → (r : Recorded) (es : List (ℕ × Lease)) → AreLeases r es →
    filter_map found es ≡ map f (filter (λ e. test e.0) (fin.entries (durable_of r).chunks))
over_chunks found test f finds r es are =
    over_leases found test f finds es
    ∙ ap (λ l. map f (filter (λ e. test e.0) (live_entries (map told_entry l)))) are.all
    ∙ ap (λ l. map f (filter (λ e. test e.0) l)) (sym (entries_chunks (live nat_cmp r.leases) (subst (λ l. IsStrictlySortedBy nat_cmp (map (λ (e : ℕ × Lease). e.0) l)) are.all are.rise)))

views_find : (test : ℕ → Bool) → Finds (view_where test) test (λ e. e.1.view)
views_find test e = refl

pub views_in : (test : ℕ → Bool) (r : Recorded) (es : List (ℕ × Lease)) → AreLeases r es → filter_map (view_where test) es ≡ map (λ e. e.1.view) (filter (λ e. test e.0) (fin.entries (durable_of r).chunks))
views_in test r es are = over_chunks (view_where test) test (λ e. e.1.view) (views_find test) r es are

needs_find : (s : State) → Finds (need_where s) (has_entry s) (need_of s.durable)
needs_find s e = refl

pub needs_in : (s : State) (r : Recorded) (es : List (ℕ × Lease)) → s.durable.chunks ≡ (durable_of r).chunks → AreLeases r es → filter_map (need_where s) es ≡ needs_of s
needs_in s r es same are = over_chunks (need_where s) (has_entry s) (need_of s.durable) (needs_find s) r es are ∙ ap (λ chunks. map (need_of s.durable) (filter (λ e. has_entry s e.0) (fin.entries chunks))) (sym same)

settled_find : (test : ℕ → Bool) → Finds (settled_where test) test (λ e. e.0)
settled_find test e = each (settled_by e.1) (test e.0)
  where
    each : (s : Option Settled) (b : Bool) → (if is_some s && b then Some e.0 else None) ≡ cond b (option_map (λ _. e.0) s) None
    each None true = refl
    each None false = refl
    each (Some s) true = refl
    each (Some s) false = refl

-- the settled chunks that pass a test, ascending
pub settled_in : (test : ℕ → Bool) (r : Recorded) (es : List (ℕ × Lease)) → AreLeases r es → filter_map (settled_where test) es ≡ filter test (fin.keys (durable_of r).chunks)
settled_in test r es are = over_chunks (settled_where test) test (λ e. e.0) (settled_find test) r es are ∙ sym (keys_where test (fin.entries (durable_of r).chunks))

-- ---- what a lease tells

pub view_told : (v : Option View) (p : Option Stamp) → v ≡ option_map (λ (s : Settled). s.view) (settled_as v p)
view_told None p = refl
view_told (Some view) p = refl

pub is_told : (v : Option View) (p : Option Stamp) → is_some v ≡ is_some (settled_as v p)
is_told None p = refl
is_told (Some view) p = refl

-- ---- visible chunks

visible_member : (rows : Rows ℕ) (chunk : ℕ) → is_member (all_chunks (visible_under [] rows)) chunk ≡ is_visible rows chunk
visible_member [] chunk = refl
visible_member (r ∷ rows) chunk =
    let rest = visible_member rows chunk in
    elim (list_any is_hidden r.0) as (λ b. is_member (all_chunks (cond (not b) (r ∷ visible_under [] rows) (visible_under [] rows))) chunk ≡ ((not b && is_member (chunks_in (Some r.1)) chunk) || is_visible rows chunk)) [
      | true ↦ rest
      | false ↦ list_any-append (λ m. m == chunk) (chunks_in (Some r.1)) (all_chunks (visible_under [] rows)) ∙ ap (λ b. is_member (chunks_in (Some r.1)) chunk || b) rest
    ]

pub are_visible : (rows : Rows ℕ) (chunks : List ℕ) (set : fin.FinMap nat_cmp Bool) → chunks ≡ visible_chunks_under [] rows → set ≡ chunk_set chunks → AreVisible rows set
are_visible rows chunks set listed is = record { each = λ chunk. ap (λ m. is_some (fin.get m chunk)) (is ∙ ap chunk_set listed) ∙ in_set (visible_chunks_under [] rows) chunk ∙ visible_member rows chunk }

-- ---- chunks that are told as sound

and_no : (b : Bool) → b && false ≡ false
and_no true = refl
and_no false = refl

and_yes : (b : Bool) → b && true ≡ b
and_yes true = refl
and_yes false = refl

sound_member : (reported : List Reported) (chunk : ℕ) → is_member (sound_handles reported) chunk ≡ is_told_sound reported chunk
sound_member [] chunk = refl
sound_member (r ∷ reported) chunk =
    let rest = sound_member reported chunk in
    elim r.is_bad as (λ b. is_member (map (λ (r : Reported). r.handle) (cond (not b) (r ∷ filter (λ (r : Reported). not r.is_bad) reported) (filter (λ (r : Reported). not r.is_bad) reported))) chunk ≡ (((r.handle == chunk) && not b) || is_told_sound reported chunk)) [
      | true ↦ rest ∙ ap (λ b. b || is_told_sound reported chunk) (sym (and_no (r.handle == chunk)))
      | false ↦ ap (λ b. (r.handle == chunk) || b) rest ∙ ap (λ b. b || is_told_sound reported chunk) (sym (and_yes (r.handle == chunk)))
    ]

pub are_sound : (reported : List Reported) (handles : List ℕ) (set : fin.FinMap nat_cmp Bool) → handles ≡ sound_handles reported → set ≡ chunk_set handles → AreSound reported set
are_sound reported handles set told is = record { each = λ chunk. ap (λ m. is_some (fin.get m chunk)) (is ∙ ap chunk_set told) ∙ in_set (sound_handles reported) chunk ∙ sound_member reported chunk }

-- ---- needs

need_found : (s : State) (chunk : ℕ) (settled : Option Settled) (b : Bool) (view : View) → Some view ≡ (if b then option_map (λ (s : Settled). s.view) settled else None) →
    (if b then option_map (λ (settled : Settled). need_of s.durable (chunk, settled)) settled else None) ≡ Some (need_by s.durable chunk (length view.members))
need_found s chunk settled false view is = absurd (cc)
need_found s chunk None true view is = absurd (cc)
need_found s chunk (Some found) true view is = let same : view ≡ found.view = cc in ap (λ v. Some (need_by s.durable chunk (length v.members))) (sym same)

pub need_at : (s : State) (e : ℕ × Lease) (view : View) → Some view ≡ view_where (has_entry s) e → need_where s e ≡ Some (need_by s.durable e.0 (length view.members))
need_at s e view is = need_found s e.0 (settled_by e.1) (has_entry s e.0) view is

no_need_found : (s : State) (chunk : ℕ) (settled : Option Settled) (b : Bool) → None ≡ (if b then option_map (λ (s : Settled). s.view) settled else None) →
    (if b then option_map (λ (settled : Settled). need_of s.durable (chunk, settled)) settled else None) ≡ None
no_need_found s chunk settled false is = refl
no_need_found s chunk None true is = refl
no_need_found s chunk (Some found) true is = absurd (cc)

pub no_need_at : (s : State) (e : ℕ × Lease) → None ≡ view_where (has_entry s) e → need_where s e ≡ None
no_need_at s e is = no_need_found s e.0 (settled_by e.1) (has_entry s e.0) is

-- ---- the views that each server is a member of

pub one_view_more : (v : ℕ × Lease → Option View) (e : ℕ × Lease) (rest : List (ℕ × Lease)) (k : ℕ) (view : View) → Some view ≡ v e → replicas_on (filter_map v (e ∷ rest)) k ≡ (if is_member view.members k then 1 else 0) + replicas_on (filter_map v rest) k
one_view_more v e rest k view is = ap (λ l. replicas_on l k) (with_one v e rest view (sym is)) ∙ sum_by-cons (λ (v : View). if is_member v.members k then 1 else 0) view (filter_map v rest)

pub no_view_more : (v : ℕ × Lease → Option View) (e : ℕ × Lease) (rest : List (ℕ × Lease)) (k : ℕ) → None ≡ v e → replicas_on (filter_map v (e ∷ rest)) k ≡ replicas_on (filter_map v rest) k
no_view_more v e rest k is = ap (λ l. replicas_on l k) (without v e rest (sym is))

none_more : (n : ℕ) → 0 + n ≡ n
none_more n = omega arith

told_one : (server : ℕ) (e : ℕ × Lease) (es : List (ℕ × Lease)) (v : Option View) → (told_of e.1).settled ≡ v → replicas server es ≡ replicas_on (filter_map (view_where (λ chunk. true)) es) server →
    replicas server (e ∷ es) ≡ replicas_on (filter_map (view_where (λ chunk. true)) (e ∷ es)) server
told_one server e es None is rest =
    ap (λ v. (if is_member (members_of v) server then 1 else 0) + replicas server es) is ∙ none_more (replicas server es) ∙ rest
    ∙ sym (no_view_more (view_where (λ chunk. true)) e es server (sym is ∙ view_told (told_of e.1).settled (told_of e.1).proposed))
told_one server e es (Some view) is rest =
    ap (λ v. (if is_member (members_of v) server then 1 else 0) + replicas server es) is ∙ ap (λ n. (if is_member view.members server then 1 else 0) + n) rest
    ∙ sym (one_view_more (view_where (λ chunk. true)) e es server view (sym is ∙ view_told (told_of e.1).settled (told_of e.1).proposed))

replicas_told : (server : ℕ) (es : List (ℕ × Lease)) → replicas server es ≡ replicas_on (filter_map (view_where (λ chunk. true)) es) server
replicas_told server [] = refl
replicas_told server (e ∷ es) = told_one server e es (told_of e.1).settled refl (replicas_told server es)

pub all_pass : {A : Type 0} (xs : List A) → filter (λ (x : A). true) xs ≡ xs
all_pass [] = refl
all_pass (x ∷ xs) = ap (λ rest. x ∷ rest) (all_pass xs)

left : (a b : Bool) → T (a && b) → T a
left true b h = tt
left false b h = absurd h

right : (a b : Bool) → T (a && b) → T b
right true b h = h
right false b h = absurd h

is_less : (r : Ordering) → T (is_lt r) → r ≡ Less
is_less Less h = refl
is_less Equal h = absurd h
is_less Greater h = absurd h

all_above : (chunk : ℕ) (es : List (ℕ × Lease)) → T (below_all nat_cmp chunk es) → AllByRecursion (λ y. nat_cmp chunk y ≡ Less) (map (λ (e : ℕ × Lease). e.0) es)
all_above chunk [] h = tt
all_above chunk (e ∷ es) h = (is_less (nat_cmp chunk e.0) (left (is_lt (nat_cmp chunk e.0)) (below_all nat_cmp chunk es) h), all_above chunk es (right (is_lt (nat_cmp chunk e.0)) (below_all nat_cmp chunk es) h))

rising : (es : List (ℕ × Lease)) → T (is_sorted nat_cmp es) → IsStrictlySortedBy nat_cmp (map (λ (e : ℕ × Lease). e.0) es)
unfolding IsStrictlySortedBy
rising [] h = tt
rising (e ∷ es) h = (all_above e.0 es (left (below_all nat_cmp e.0 es) (is_sorted nat_cmp es) h), rising es (right (below_all nat_cmp e.0 es) (is_sorted nat_cmp es) h))

-- what a table of leases counts is what is counted of the settled views
pub counted_all : (r : Recorded) (counts : List ℕ) → AreReplicas (fin.entries (live nat_cmp r.leases)) counts → AreCounts (map (λ (e : ℕ × Settled). e.1.view) (fin.entries (durable_of r).chunks)) counts
counted_all r counts are = record {
  each = λ server low.
      are.each server low ∙ replicas_told server (fin.entries (live nat_cmp r.leases))
      ∙ ap (λ views. replicas_on views server) (views_in (λ chunk. true) r (fin.entries (live nat_cmp r.leases)) (record { all = refl; rise = rising _ (fin.entries_sorted (live nat_cmp r.leases)) }) ∙ ap (map (λ (e : ℕ × Settled). e.1.view)) (all_pass (fin.entries (durable_of r).chunks)));
}

pub found_more : {A B : Type 0} (f : A → Option B) (x : A) (xs : List A) (y : B) → f x ≡ Some y → filter_map f (x ∷ xs) ≡ y ∷ filter_map f xs
found_more f x xs y is = with_one f x xs y is
