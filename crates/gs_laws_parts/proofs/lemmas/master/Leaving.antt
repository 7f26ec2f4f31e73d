-- What leaves the chunk as it is.
use Rattle.std.proofs.Common.{◌≡◌, ℕ, ◌<◌, ◌≤◌, ◌⊎◌, inl, inr, Bool, true, false, not, cond, ◌||◌, List, [], ◌∷◌, ◌++◌, Some, None, refl, sym, ap, subst, ◌∙◌, arith}
use Rattle.std.specs.Prelude.{◌==◌, ◌%◌, fold, is_some, slice_get}
use Rattle.std.specs.Cmp.{nat_cmp_total}
use Rattle.std.specs.FinMap as fin
use Rattle.std.specs.List.{list_all}
use Rattle.std.specs.Ordering.{eq_by_cmp, nat_cmp}
use Rattle.std.proofs.lemmas.Bool.{false≢true, and_parts}
use Rattle.std.proofs.lemmas.Bool.Decides.{nat_tests}
use Rattle.gs_base.specs.Members.{is_member}
use Rattle.gs_base.specs.Told.{IsNumber}
use Rattle.gs_edit.specs.View.{NamesView}
use Rattle.gs_master_spec.specs.Chunks.{has_entry, is_any_in}
use Rattle.gs_master_spec.specs.Durable.{Durable, is_given, is_listed, is_ordinary, is_rolling, is_upgrade, prepared_view}
use Rattle.gs_master_spec.specs.State.{State}
use Rattle.gs_master_spec.specs.Undoing.{all_undone}
use Rattle.gs_master_spec.specs.Volatile.{Volatile, all_changed, changed, without_handle}
use Rattle.gs_master_spec.specs.declared.change.Change.{Change}
use Rattle.gs_master_spec.specs.declared.change.Change.TheVariants as changes
use Rattle.gs_laws_master.proofs.lemmas.keeping.KeptViews.{same_key}
use Rattle.gs_laws_chunk.specs.machine.Stamps.{epoch_of, radix, stamp_at}
use Rattle.gs_laws_chunk.specs.machine.Machine.{Entry}
use Rattle.gs_laws_parts.specs.master.Showing.{IsPast, Rises, ShowsDurable, ShowsEntry, ShowsMemory}

-- ---- what is durable

pub record LeavesDurable (chunk : ℕ) (d next : Durable) : Type 0 where
  pub epoch : next.epoch ≡ d.epoch
  pub ends : next.ends ≡ d.ends
  pub phase : next.phase ≡ d.phase
  pub handles : is_given d.next_handle chunk ≡ true → is_given next.next_handle chunk ≡ true
  pub versions : (n : ℕ) → is_given d.next_version n ≡ true → is_given next.next_version n ≡ true
  pub counter : IsNumber d.next_version → IsNumber next.next_version
  pub settled : fin.get next.chunks chunk ≡ fin.get d.chunks chunk
  pub prepared : prepared_view next chunk ≡ prepared_view d chunk
  pub undone : (names : NamesView) → is_ordinary d.phase ≡ false → all_undone next.inverses next.names ≡ Some names → all_undone d.inverses d.names ≡ Some names

-- what was given stays so
pub past_rises : (d e : Durable) → Rises d e → (top : ℕ) → IsPast d top → IsPast e top
past_rises d e r top p = record { epoch = (let a = p.epoch in let b = r.epoch in omega arith); given = by_given p.given }
  where
    by_given : ((top % radix ≡ 0) ⊎ (is_given d.next_version (top % radix) ≡ true)) → (top % radix ≡ 0) ⊎ (is_given e.next_version (top % radix) ≡ true)
    by_given (inl is) = inl is
    by_given (inr is) = inr (r.versions (top % radix) is)

pub rises_both : (a b c : Durable) → Rises a b → Rises b c → Rises a c
rises_both a b c f g = record { epoch = (let x = f.epoch in let y = g.epoch in omega arith); versions = λ n given. g.versions n (f.versions n given) }

pub rises_itself : (d : Durable) → Rises d d
rises_itself d = record { epoch = omega arith; versions = λ n given. given }

past_more : (d next : Durable) (top : ℕ) → next.epoch ≡ d.epoch → ((n : ℕ) → is_given d.next_version n ≡ true → is_given next.next_version n ≡ true) → IsPast d top → IsPast next top
past_more d next top epoch versions p = record { epoch = subst (λ n. epoch_of top ≤ n) (sym epoch) p.epoch; given = by_given p.given }
  where
    by_given : ((top % radix ≡ 0) ⊎ (is_given d.next_version (top % radix) ≡ true)) → (top % radix ≡ 0) ⊎ (is_given next.next_version (top % radix) ≡ true)
    by_given (inl is) = inl is
    by_given (inr is) = inr (versions (top % radix) is)

pub leaves_durable : (chunk : ℕ) (d next : Durable) (e : Entry) → LeavesDurable chunk d next → (is_listed next chunk ≡ true → e.is_known ≡ true) → ShowsDurable chunk d e → ShowsDurable chunk next e
leaves_durable chunk d next e l listed k = record {
  epoch = k.epoch ∙ sym l.epoch;
  how = λ n end is. k.how n end (sym (ap (λ xs. slice_get xs n) l.ends) ∙ is);
  upgrade = λ is. k.upgrade (sym (ap is_upgrade l.phase) ∙ is);
  rolling = k.rolling ∙ sym (ap is_rolling l.phase);
  given = l.handles k.given;
  counter = l.counter k.counter;
  behind = k.behind;
  past = past_more d next e.top l.epoch l.versions k.past;
  settled = λ x has. k.settled x (sym l.settled ∙ has);
  bare = λ known none. k.bare known (sym l.settled ∙ none);
  listed = listed;
  was = λ p is known. k.was p (sym l.prepared ∙ is) known;
  prepared = λ p is was. k.prepared p (sym l.prepared ∙ is) was;
  restores = λ names phase is there. (let ordinary = sym (ap is_ordinary l.phase) ∙ phase in k.restores names ordinary (l.undone names ordinary is) there);
}

-- ---- what is in memory

key_tied : (a b : ℕ) → eq_by_cmp nat_cmp a b ≡ true → (b == a) ≡ true
key_tied a b e = same b a (same_key a b e)
  where
    itself : (n : ℕ) → (n == n) ≡ true
    itself n = grind (arith, nat_tests)

    same : (m n : ℕ) → n ≡ m → (m == n) ≡ true
    same m n is = ap (λ x. m == x) is ∙ itself m

module _ (chunk : ℕ) where
  -- a change that is of other chunks
  abbrev pub leaves_memory : Change → Bool
  leaves_memory (changes.Ask q asking) = not (q == chunk)
  leaves_memory (changes.Settled q) = not (q == chunk)
  leaves_memory (changes.Enter q) = not (q == chunk)
  leaves_memory (changes.Place q) = not (q == chunk)
  leaves_memory (changes.Lose q) = not (q == chunk)
  leaves_memory (changes.Forget qs) = not (is_member qs chunk)
  leaves_memory changes.RolledBack = false
  leaves_memory change = true

  abbrev pub SameMemory : Volatile → Volatile → Type 0
  SameMemory v w = (fin.get w.moving chunk ≡ fin.get v.moving chunk) × (is_member w.unplaced chunk ≡ is_member v.unplaced chunk)

  pub inserted : {A : Type 0} (m : fin.FinMap nat_cmp A) (q : ℕ) (x : A) → not (q == chunk) ≡ true → fin.get (fin.insert m q x) chunk ≡ fin.get m chunk
  inserted m q x other = fin.get-insert nat_cmp_total m q x chunk ∙ by_key (eq_by_cmp nat_cmp chunk q) refl
    where
      by_key : (b : Bool) → eq_by_cmp nat_cmp chunk q ≡ b → cond b (Some x) (fin.get m chunk) ≡ fin.get m chunk
      by_key true same = absurd (false≢true (sym (ap not (key_tied chunk q same)) ∙ other))
      by_key false is = refl

  pub removed : {A : Type 0} (m : fin.FinMap nat_cmp A) (q : ℕ) → not (q == chunk) ≡ true → fin.get (fin.remove m q) chunk ≡ fin.get m chunk
  removed m q other = fin.get-remove nat_cmp_total m q chunk ∙ by_key (eq_by_cmp nat_cmp chunk q) refl
    where
      by_key : (b : Bool) → eq_by_cmp nat_cmp chunk q ≡ b → cond b None (fin.get m chunk) ≡ fin.get m chunk
      by_key true same = absurd (false≢true (sym (ap not (key_tied chunk q same)) ∙ other))
      by_key false is = refl

  all_removed : {A : Type 0} (qs : List ℕ) (m : fin.FinMap nat_cmp A) → not (is_member qs chunk) ≡ true → fin.get (fold fin.remove m qs) chunk ≡ fin.get m chunk
  all_removed [] m none = refl
  all_removed (q ∷ qs) m none = all_removed qs (fin.remove m q) (by_head (q == chunk) (is_member qs chunk) none).1 ∙ removed m q (by_head (q == chunk) (is_member qs chunk) none).0
    where
      by_head : (a b : Bool) → not (a || b) ≡ true → (not a ≡ true) × (not b ≡ true)
      by_head true b h = absurd (false≢true h)
      by_head false b h = (refl, h)

  with_more : (qs : List ℕ) (q : ℕ) → not (q == chunk) ≡ true → is_member (qs ++ q ∷ []) chunk ≡ is_member qs chunk
  with_more [] q other = by_key (q == chunk) other
    where
      by_key : (b : Bool) → not b ≡ true → (b || false) ≡ false
      by_key true h = absurd (false≢true h)
      by_key false h = refl
  with_more (x ∷ qs) q other = ap (λ b. (x == chunk) || b) (with_more qs q other)

  without_one : (qs : List ℕ) (q : ℕ) → not (q == chunk) ≡ true → is_member (without_handle qs q) chunk ≡ is_member qs chunk
  without_one [] q other = refl
  without_one (x ∷ qs) q other = by_key (x == q) refl (without_one qs q other)
    where
      same_number : (a b : ℕ) → (a == b) ≡ true → a ≡ b
      same_number a b e = grind (arith, nat_tests)

      no : (b : Bool) → not b ≡ true → b ≡ false
      no true h = absurd (false≢true h)
      no false h = refl

      by_key : (b : Bool) → (x == q) ≡ b → is_member (without_handle qs q) chunk ≡ is_member qs chunk → is_member (cond (not b) (x ∷ without_handle qs q) (without_handle qs q)) chunk ≡ is_member (x ∷ qs) chunk
      by_key true same rest = rest ∙ sym (ap (λ b. b || is_member qs chunk) (ap (λ n. n == chunk) (same_number x q same) ∙ no (q == chunk) other))
      by_key false is rest = ap (λ b. (x == chunk) || b) rest

  change_leaves : (v : Volatile) (change : Change) → leaves_memory change ≡ true → SameMemory v (changed v change)
  change_leaves v (changes.Ask q asking) other = (inserted v.moving q asking other, refl)
  change_leaves v (changes.Settled q) other = (removed v.moving q other, refl)
  change_leaves v (changes.Enter q) other = (refl, with_more v.unplaced q other)
  change_leaves v (changes.Place q) other = (refl, without_one v.unplaced q other)
  change_leaves v (changes.Lose q) other = (removed v.moving q other, without_one v.unplaced q other)
  change_leaves v (changes.Forget qs) other = (all_removed qs v.moving other, refl)
  change_leaves v changes.RolledBack other = absurd (false≢true other)
  change_leaves v change other = (refl, refl)

  pub changes_leave : (all : List Change) (v : Volatile) → list_all leaves_memory all ≡ true → SameMemory v (all_changed v all)
  changes_leave [] v none = (refl, refl)
  changes_leave (change ∷ all) v none =
      let parts = and_parts (leaves_memory change) (list_all leaves_memory all) none in
      let first = change_leaves v change parts.0 in
      let rest = changes_leave all (changed v change) parts.1 in
      (rest.0 ∙ first.0, rest.1 ∙ first.1)

-- the chunk is shown as before
pub leaves_entry : (chunk : ℕ) (s u : State) (e : Entry) → LeavesDurable chunk s.durable u.durable → is_listed u.durable chunk ≡ is_listed s.durable chunk → SameMemory chunk s.volatile u.volatile → ShowsEntry chunk s e → ShowsEntry chunk u e
leaves_entry chunk s u e l listed same k =
    let entry : has_entry u chunk ≡ has_entry s chunk = ap (λ b. b || is_member u.volatile.unplaced chunk) listed ∙ ap (λ b. is_listed s.durable chunk || b) same.1 in
    record {
      durable = leaves_durable chunk s.durable u.durable e l (λ is. k.durable.listed (sym listed ∙ is)) k.durable;
      memory = record {
        known = k.memory.known ∙ sym entry;
        asked = λ j. k.memory.asked j ∙ sym (ap (is_any_in j) same.0);
        asking = λ a has. k.memory.asking a (sym same.0 ∙ has);
        sought = λ is none. ap is_some same.0 ∙ k.memory.sought (sym entry ∙ is) (sym l.settled ∙ none);
      };
    }

pub durable_itself : (chunk : ℕ) (d : Durable) → LeavesDurable chunk d d
durable_itself chunk d = record { epoch = refl; ends = refl; phase = refl; handles = λ h. h; versions = λ n h. h; counter = λ h. h; settled = refl; prepared = refl; undone = λ names phase h. h }

-- what is in memory is shown as before
pub leaves_in_memory : (chunk : ℕ) (s u : State) (e f : Entry) → fin.get u.durable.chunks chunk ≡ fin.get s.durable.chunks chunk → is_listed u.durable chunk ≡ is_listed s.durable chunk → SameMemory chunk s.volatile u.volatile
    → f.is_known ≡ e.is_known → f.top ≡ e.top → f.view.stamp ≡ e.view.stamp → f.asked ≡ e.asked → ShowsMemory chunk s e → ShowsMemory chunk u f
leaves_in_memory chunk s u e f settled listed same known top stamp asked k =
    let entry : has_entry u chunk ≡ has_entry s chunk = ap (λ b. b || is_member u.volatile.unplaced chunk) listed ∙ ap (λ b. is_listed s.durable chunk || b) same.1 in
    record {
      known = known ∙ k.known ∙ sym entry;
      asked = λ j. ap (λ g. g j) asked ∙ k.asked j ∙ sym (ap (is_any_in j) same.0);
      asking = λ a has. (let old = k.asking a (sym same.0 ∙ has) in (old.0 ∙ ap stamp_at (sym top), subst (λ n. n < f.top) (sym stamp) (subst (λ n. e.view.stamp < n) (sym top) old.1), known ∙ old.2));
      sought = λ is none. ap is_some same.0 ∙ k.sought (sym entry ∙ is) (sym settled ∙ none);
    }
