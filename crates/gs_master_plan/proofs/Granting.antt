-- Where no settled view has a primary, no lease is granted.
use Rattle.std.proofs.Common.{◌≡◌, ◌∙◌, ◌&&◌, ◌||◌, ◌++◌, ℕ, Bool, true, false, not, cond, List, [], ◌∷◌, filter, Option, Some, None, refl, ap, sym}
use Rattle.std.specs.Prelude.{flat_map, option_and_then, option_map, is_some}
use Rattle.std.specs.FinMap as fin
use Rattle.std.specs.List.{list_any}
use Rattle.std.specs.Ordering.{nat_cmp, eq_by_cmp}
use Rattle.gs_lease.specs.Told.{told_of}
use Rattle.gs_lease.specs.declared.lease.Lease.{Lease}
use Rattle.gs_lease.specs.declared.view.View.{View}
use Rattle.gs_lease_table.proofs.Filtered.{filter_same}
use Rattle.gs_lease_table.specs.Groups.{AreThose, passes}
use Rattle.gs_lease_table.specs.Tallies.{has_primary}
use Rattle.gs_msg.specs.declared.message.Message.{Message}
use Rattle.gs_base_table.specs.Slots.{live}
use Rattle.gs_master_spec.specs.Chunks.{Chunk, chunk_at, has_entry, is_moving, term_of}
use Rattle.gs_master_spec.specs.Durable.{Settled}
use Rattle.gs_master_spec.specs.Handling.{granted_at}
use Rattle.gs_master_state.specs.inner.Recorded.{durable_of, settled_by}
use Rattle.gs_master_spec.specs.State.{State}
use Rattle.gs_master_state.specs.declared.recorded.Recorded.{Recorded}
use Rattle.gs_master_state.proofs.Recording.{get_chunks}
use Rattle.gs_master_state.proofs.Surveys.{view_told}

neither : (a b : Bool) → (a || b) ≡ false → (a ≡ false) × (b ≡ false)
neither true b h = absurd (cc)
neither false b h = (refl, h)

-- whether the view of a chunk has a primary, of what is settled
abbrev has_term : Option Settled → Bool
has_term settled = is_some (option_and_then (λ (v : View). v.term) (option_map (λ (s : Settled). s.view) settled))

told_term : (lease : Lease) → has_term (settled_by lease) ≡ has_primary lease
told_term lease = ap (λ v. is_some (option_and_then (λ (v : View). v.term) v)) (sym (view_told (told_of lease).settled (told_of lease).proposed))

has_none : (chunk : ℕ) (es : List (ℕ × Lease)) → list_any (λ (e : ℕ × Lease). has_primary e.1) es ≡ false → has_term (option_and_then settled_by (fin.find nat_cmp chunk es)) ≡ false
has_none chunk [] none = refl
has_none chunk (e ∷ es) none =
    let both = neither (has_primary e.1) (list_any (λ (e : ℕ × Lease). has_primary e.1) es) none in
    at (eq_by_cmp nat_cmp chunk e.0) (told_term e.1 ∙ both.0) (has_none chunk es both.1)
  where
    at : (b : Bool) → has_term (settled_by e.1) ≡ false → has_term (option_and_then settled_by (fin.find nat_cmp chunk es)) ≡ false → has_term (option_and_then settled_by (cond b (Some e.1) (fin.find nat_cmp chunk es))) ≡ false
    at true here behind = here
    at false here behind = behind

and_none : (a b : Bool) → b ≡ false → a && b ≡ false
and_none true b is = is
and_none false b is = refl

granted_none : (chunk : ℕ) (s : State) → has_term (fin.get s.durable.chunks chunk) ≡ false → granted_at chunk (chunk_at s chunk) ≡ []
unfolding chunk_at
granted_none chunk s none = known (has_entry s chunk) (record { settled = fin.get s.durable.chunks chunk; asking = fin.get s.volatile.moving chunk }) none
  where
    known : (b : Bool) (c : Chunk) → is_some (term_of c) ≡ false → granted_at chunk (cond b (Some c) None) ≡ []
    known true c none = rw (and_none (not (is_moving c)) (is_some (term_of c)) none) refl
    known false c none = refl

nothing_sent : (f : ℕ → List Message) (chunks : List ℕ) → ((chunk : ℕ) → f chunk ≡ []) → flat_map f chunks ≡ []
nothing_sent f [] none = refl
nothing_sent f (chunk ∷ chunks) none = rw (none chunk) (nothing_sent f chunks none)

pub none_granted : (s : State) (r : Recorded) (chunks : List ℕ) → s.durable.chunks ≡ (durable_of r).chunks → list_any (λ (e : ℕ × Lease). has_primary e.1) (fin.entries (live nat_cmp r.leases)) ≡ false →
    flat_map (λ chunk. granted_at chunk (chunk_at s chunk)) chunks ≡ []
none_granted s r chunks same none = nothing_sent (λ chunk. granted_at chunk (chunk_at s chunk)) chunks (λ chunk.
    granted_none chunk s
    (ap (λ m. has_term (fin.get m chunk)) same ∙ ap has_term (get_chunks (live nat_cmp r.leases) chunk)
    ∙ ap (λ o. has_term (option_and_then settled_by o)) (fin.get-entries (live nat_cmp r.leases) chunk) ∙ has_none chunk (fin.entries (live nat_cmp r.leases)) none))

-- ---- where the chunks that have a primary are kept

only_passing : (f : ℕ → List Message) (test : ℕ → Bool) → ((q : ℕ) → test q ≡ false → f q ≡ []) → (xs : List ℕ) → flat_map f xs ≡ flat_map f (filter test xs)
only_passing f test none [] = refl
only_passing f test none (x ∷ xs) = at (only_passing f test none xs) (test x) refl
  where
    at : flat_map f xs ≡ flat_map f (filter test xs) → (b : Bool) → test x ≡ b → f x ++ flat_map f xs ≡ flat_map f (cond b (x ∷ filter test xs) (filter test xs))
    at behind true is = ap (λ l. f x ++ l) behind
    at behind false is = rw (none x is) behind

passing_term : (l : Option Lease) → passes has_primary l ≡ has_term (option_and_then settled_by l)
passing_term None = refl
passing_term (Some lease) = sym (told_term lease)

termed : (x : Option Settled) → has_term x ≡ true → is_some x ≡ true
termed None h = absurd (cc)
termed (Some settled) h = refl

pub granted_in : (s : State) (r : Recorded) (set : fin.FinMap nat_cmp Bool) → s.durable.chunks ≡ (durable_of r).chunks → AreThose has_primary (live nat_cmp r.leases) set →
    flat_map (λ chunk. granted_at chunk (chunk_at s chunk)) (fin.keys set) ≡ flat_map (λ chunk. granted_at chunk (chunk_at s chunk)) (fin.keys s.durable.chunks)
granted_in s r set same are =
    let sends : ℕ → List Message = λ chunk. granted_at chunk (chunk_at s chunk) in
    let test : ℕ → Bool = λ chunk. has_term (fin.get s.durable.chunks chunk) in
    let kept : (q : ℕ) → is_some (fin.get set q) ≡ has_term (fin.get s.durable.chunks q) = λ q.
    are.each q ∙ passing_term (fin.get (live nat_cmp r.leases) q) ∙ ap has_term (sym (ap (λ m. fin.get m q) same ∙ get_chunks (live nat_cmp r.leases) q)) in
    only_passing sends test (λ q none. granted_none q s none) (fin.keys set)
    ∙ ap (flat_map sends) (filter_same set s.durable.chunks test (λ q h. kept q ∙ h ∙ sym (termed (fin.get s.durable.chunks q) h)))
    ∙ sym (only_passing sends test (λ q none. granted_none q s none) (fin.keys s.durable.chunks))
