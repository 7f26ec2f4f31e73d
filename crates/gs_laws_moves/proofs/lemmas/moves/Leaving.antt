-- What records and changes leave of one chunk: its settled view, and what is asked for it.
use Rattle.std.proofs.Common.{◌≡◌, arith, ◌∙◌, ◌==◌, ◌&&◌, ◌++◌, ℕ, Bool, true, false, not, cond, List, [], ◌∷◌, refl, ap, sym, subst}
use Rattle.std.specs.Prelude.{flat_map, fold, is_some, nat_lt, option_and_then, Option, Some, None, Result, Ok, Err, if◌then◌else◌}
use Rattle.std.specs.Cmp.{nat_cmp_total}
use Rattle.std.specs.FinMap as fin
use Rattle.std.specs.List.{AllByRecursion, list_all}
use Rattle.std.specs.Ordering.{eq_by_cmp, nat_cmp}
use Rattle.std.proofs.lemmas.Bool.{false≢true, true≢false, and_parts}
use Rattle.std.proofs.lemmas.Bool.Decides.{nat_tests}
use Rattle.gs_base.specs.Members.{is_member}
use Rattle.gs_base.specs.declared.epoch.EpochEnd.TheVariants as ends
use Rattle.gs_base.specs.declared.numbers.ReqId.{ReqId}
use Rattle.gs_base.specs.declared.refusal.Refusal.{Refusal}
use Rattle.gs_edit.specs.View.{NamesView}
use Rattle.gs_master_record.specs.Plain.{PlainEntry, Edited, Said, Propose, Settle, Prepare, Finalize, RollbackBegin, RollbackCommit, Whole, Holder}
use Rattle.gs_master_record.specs.declared.checkpoint.Phase.TheVariants.{Ordinary, Upgrade, Rolling}
use Rattle.gs_master_spec.specs.Applied.{after_edit, applied, are_at_rest, forgotten_by, held_by, is_next_epoch, may_be_settled, may_edit, may_propose, proposed, replayed, with_edit, with_epoch, with_proposal, with_view, without_chunks, without_prepared}
use Rattle.gs_master_spec.specs.Durable.{Durable, Settled, is_ordinary, is_upgrade, kept_before, prepared_view, with_prepared}
use Rattle.gs_master_spec.specs.Undoing.{edited_names}
use Rattle.gs_master_spec.specs.Volatile.{Volatile, all_changed, changed, is_call, let_go, let_go_of, without_call}
use Rattle.gs_master_spec.specs.declared.asking.Asking.{Asking}
use Rattle.gs_master_spec.specs.declared.change.Change.{Change}
use Rattle.gs_master_spec.specs.declared.change.Change.TheVariants as changes
use Rattle.gs_laws_master.proofs.lemmas.upgrades.Beginnings.{fits_gives}
use Rattle.gs_laws_master.proofs.lemmas.keeping.KeptViews.{same_key}
use Rattle.gs_laws_master.proofs.lemmas.spelling.Retold.{each_entry}

durable_is : {a b : Durable} → ◌≡◌ {A = Option Durable} (Some a) (Some b) → a ≡ b
durable_is k = cc

settled_is : {a b : Settled} → ◌≡◌ {A = Option Settled} (Some a) (Some b) → a ≡ b
settled_is k = cc

asking_is : {a b : Asking} → ◌≡◌ {A = Option Asking} (Some a) (Some b) → a ≡ b
asking_is k = cc

-- a record that settles no view of the chunk, and no rollback or checkpoint
abbrev pub leaves_view : ℕ → PlainEntry → Bool
leaves_view chunk (Edited by edit) = true
leaves_view chunk (Said to refusal) = true
leaves_view chunk (Propose q version) = true
leaves_view chunk (Settle v) = not (v.handle == chunk)
leaves_view chunk (Prepare epoch moment chunks) = true
leaves_view chunk (Finalize epoch) = true
leaves_view chunk (RollbackBegin epoch) = true
leaves_view chunk (RollbackCommit epoch answers) = false
leaves_view chunk (Whole c) = false
leaves_view chunk (Holder q server) = true

-- a change that asks something for the chunk
abbrev pub asks_of : ℕ → Change → Bool
asks_of chunk (changes.Ask q asking) = q == chunk
asks_of chunk change = false

-- of the chunk the same is asked, but perhaps for no call any more
abbrev pub IsSameFor : Asking → Asking → Type 0
IsSameFor a b = b ≡ record a { call = b.call }

key_tied : (a b : ℕ) → eq_by_cmp nat_cmp a b ≡ true → (b == a) ≡ true
key_tied a b e = same b a (same_key a b e)
  where
    itself : (n : ℕ) → (n == n) ≡ true
    itself n = grind (arith, nat_tests)

    same : (m n : ℕ) → n ≡ m → (m == n) ≡ true
    same m n is = ap (λ x. m == x) is ∙ itself m

module _ (chunk : ℕ) where
  -- the settled view, where there is one afterwards, is the one before
  abbrev pub ViewFrom : Durable → Durable → Type 0
  ViewFrom d e = (x : Settled) → fin.get e.chunks chunk ≡ Some x → (y : Settled) × (fin.get d.chunks chunk ≡ Some y) × (y.view ≡ x.view)

  pub then_view : (d e f : Durable) → ViewFrom d e → ViewFrom e f → ViewFrom d f
  then_view d e f a b x has = (let q = b x has in let p = a q.0 q.1 in (p.0, p.1, p.2 ∙ q.2))

  pub same_view : (d e : Durable) → e.chunks ≡ d.chunks → ViewFrom d e
  same_view d e same x has = (x, ap (λ m. fin.get m chunk) (sym same) ∙ has, refl)

  removed : {A : Type 0} (m : fin.FinMap nat_cmp A) (q : ℕ) (x : A) → fin.get (fin.remove m q) chunk ≡ Some x → fin.get m chunk ≡ Some x
  removed m q x has = by_key (eq_by_cmp nat_cmp chunk q) (sym (fin.get-remove nat_cmp_total m q chunk) ∙ has)
    where
      by_key : (b : Bool) → cond b None (fin.get m chunk) ≡ Some x → fin.get m chunk ≡ Some x
      by_key true e = absurd (false≢true (ap is_some e))
      by_key false e = e

  pub all_removed : {A : Type 0} (qs : List ℕ) (m : fin.FinMap nat_cmp A) (x : A) → fin.get (fold fin.remove m qs) chunk ≡ Some x → fin.get m chunk ≡ Some x
  all_removed [] m x has = has
  all_removed (q ∷ qs) m x has = removed m q x (all_removed qs (fin.remove m q) x has)

  forgets : (qs : List ℕ) (d : Durable) → ViewFrom d (without_chunks d qs)
  forgets [] d = same_view d d refl
  forgets (q ∷ qs) d =
      let next : Durable = record d { chunks = fin.remove d.chunks q; prepared = kept_before d q } in
      then_view d next (without_chunks next qs) (λ x has. (x, removed d.chunks q x has, refl)) (forgets qs next)

  edited_view : (d e : Durable) (by : ReqId) (edit : _) (names : Result NamesView Refusal) → after_edit d by edit names ≡ Some e → ViewFrom d e
  edited_view d e by edit (Ok names) fit = subst (ViewFrom d) (fits_gives (may_edit d edit) (with_edit d by edit names) e fit).1 (forgets (forgotten_by edit) d)
  edited_view d e by edit (Err refusal) fit = absurd (false≢true (ap is_some fit))

  proposed_view : (d : Durable) (q version : ℕ) → ViewFrom d (proposed d q version)
  proposed_view d q version = by_settled (fin.get d.chunks q) refl
    where
      by_key : (y x : Settled) → fin.get d.chunks q ≡ Some y → (b : Bool) → eq_by_cmp nat_cmp chunk q ≡ b → cond b (Some (record y { is_moving = true })) (fin.get d.chunks chunk) ≡ Some x → (z : Settled) × (fin.get d.chunks chunk ≡ Some z) × (z.view ≡ x.view)
      by_key y x is true same e = (y, ap (fin.get d.chunks) (same_key chunk q same) ∙ is, ap (λ (s : Settled). s.view) (settled_is e))
      by_key y x is false other e = (x, e, refl)

      by_settled : (o : Option Settled) → fin.get d.chunks q ≡ o → (x : Settled) → fin.get (with_proposal d q o) chunk ≡ Some x → (z : Settled) × (fin.get d.chunks chunk ≡ Some z) × (z.view ≡ x.view)
      by_settled None is x has = (x, has, refl)
      by_settled (Some y) is x has = by_key y x is (eq_by_cmp nat_cmp chunk q) refl (sym (fin.get-insert nat_cmp_total d.chunks q (record y { is_moving = true }) chunk) ∙ has)

  pub record_view : (d e : Durable) (entry : PlainEntry) → leaves_view chunk entry ≡ true → applied d entry ≡ Some e → ViewFrom d e
  unfolding applied
  record_view d e (Edited by edit) leaves fit = edited_view d e by edit (edited_names edit d.names) fit
  record_view d e (Said to refusal) leaves fit = same_view d e (ap (λ (x : Durable). x.chunks) (sym (durable_is fit)))
  record_view d e (Propose q version) leaves fit =
      subst (ViewFrom d) (fits_gives (may_propose d.phase d.next_handle d.next_version q version (fin.get d.chunks q)) (proposed d q version) e fit).1 (proposed_view d q version)
  record_view d e (Settle v) leaves fit = subst (ViewFrom d) (fits_gives (may_be_settled d v) (with_view d v) e fit).1 (λ x has. (x, other (eq_by_cmp nat_cmp chunk v.handle) refl x (sym (fin.get-insert nat_cmp_total d.chunks v.handle (record { view = v.view; is_moving = false }) chunk) ∙ has), refl))
    where
      other : (b : Bool) → eq_by_cmp nat_cmp chunk v.handle ≡ b → (x : Settled) → cond b (Some (record { view = v.view; is_moving = false })) (fin.get d.chunks chunk) ≡ Some x → fin.get d.chunks chunk ≡ Some x
      other true same x e = absurd (false≢true (sym (ap not (key_tied chunk v.handle same)) ∙ leaves))
      other false is x e = e
  record_view d e (Prepare epoch moment many) leaves fit =
      same_view d e (ap (λ (x : Durable). x.chunks) (sym (fits_gives (is_ordinary d.phase && (is_next_epoch d.epoch epoch && are_at_rest d)) (without_prepared (with_epoch d ends.Prepare Upgrade)) e fit).1))
  record_view d e (Finalize epoch) leaves fit = same_view d e (ap (λ (x : Durable). x.chunks) (sym (fits_gives (is_upgrade d.phase && is_next_epoch d.epoch epoch) (without_prepared (with_epoch d ends.Finalize Ordinary)) e fit).1))
  record_view d e (RollbackBegin epoch) leaves fit = same_view d e (ap (λ (x : Durable). x.chunks) (sym (fits_gives (is_upgrade d.phase && is_next_epoch d.epoch epoch) (with_epoch d ends.Rollback Rolling) e fit).1))
  record_view d e (RollbackCommit epoch answers) leaves fit = absurd (false≢true leaves)
  record_view d e (Whole c) leaves fit = absurd (false≢true leaves)
  record_view d e (Holder q server) leaves fit =
      same_view d e (ap (λ (x : Durable). x.chunks) (sym (fits_gives (is_upgrade d.phase && (nat_lt server 16 && is_some (prepared_view d q))) (record d { prepared = with_prepared d q (held_by server (prepared_view d q)) }) e fit).1))

  pub records_view : (entries : List PlainEntry) (d e : Durable) → list_all (leaves_view chunk) entries ≡ true → replayed d entries ≡ Some e → ViewFrom d e
  records_view [] d e all fit = same_view d e (ap (λ (x : Durable). x.chunks) (sym (durable_is fit)))
  records_view (entry ∷ entries) d e all fit =
      let parts = and_parts (leaves_view chunk entry) (list_all (leaves_view chunk) entries) all in by_first (applied d entry) refl fit (λ n is h. then_view d n e (record_view d n entry parts.0 is) (records_view entries n e parts.1 h))
    where
      by_first : (o : Option Durable) → applied d entry ≡ o → option_and_then (λ n. replayed n entries) o ≡ Some e → ((n : Durable) → applied d entry ≡ Some n → replayed n entries ≡ Some e → ViewFrom d e) → ViewFrom d e
      by_first None is h rest = absurd (false≢true (ap is_some h))
      by_first (Some n) is h rest = rest n is h

  -- ---- what is asked

  abbrev pub AskedFrom : fin.FinMap nat_cmp Asking → fin.FinMap nat_cmp Asking → Type 0
  AskedFrom m n = (b : Asking) → fin.get n chunk ≡ Some b → (a : Asking) × (fin.get m chunk ≡ Some a) × IsSameFor a b

  pub then_asked : (m n o : fin.FinMap nat_cmp Asking) → AskedFrom m n → AskedFrom n o → AskedFrom m o
  then_asked m n o f g c has = (let q = g c has in let p = f q.0 q.1 in (p.0, p.1, q.2 ∙ ap (λ (z : Asking). record z { call = c.call }) p.2))

  pub same_asked : (m : fin.FinMap nat_cmp Asking) → AskedFrom m m
  same_asked m b has = (b, has, refl)

  pub change_asked : (v : Volatile) (change : Change) → asks_of chunk change ≡ false → AskedFrom v.moving (changed v change).moving
  change_asked v (changes.Ask q asking) other b has = (b, not_here (eq_by_cmp nat_cmp chunk q) refl (sym (fin.get-insert nat_cmp_total v.moving q asking chunk) ∙ has), refl)
    where
      not_here : (t : Bool) → eq_by_cmp nat_cmp chunk q ≡ t → cond t (Some asking) (fin.get v.moving chunk) ≡ Some b → fin.get v.moving chunk ≡ Some b
      not_here true same e = absurd (true≢false (sym (key_tied chunk q same) ∙ other))
      not_here false is e = e
  change_asked v (changes.Settled q) other b has = (b, removed v.moving q b has, refl)
  change_asked v (changes.Enter q) other b has = (b, has, refl)
  change_asked v (changes.Place q) other b has = (b, has, refl)
  change_asked v (changes.Lose q) other b has = (b, removed v.moving q b has, refl)
  change_asked v (changes.Forget qs) other b has = (b, all_removed qs v.moving b has, refl)
  change_asked v changes.RolledBack other b has = absurd (false≢true (sym (ap is_some (fin.get-empty nat_cmp chunk)) ∙ ap is_some has))
  change_asked v change other b has = (b, has, refl)

  pub changes_asked : (all : List Change) (v : Volatile) → list_all (λ c. not (asks_of chunk c)) all ≡ true → AskedFrom v.moving (all_changed v all).moving
  changes_asked [] v none = same_asked v.moving
  changes_asked (change ∷ all) v none =
      let parts = and_parts (not (asks_of chunk change)) (list_all (λ c. not (asks_of chunk c)) all) none in
      then_asked v.moving (changed v change).moving (all_changed (changed v change) all).moving (change_asked v change (not_so (asks_of chunk change) parts.0)) (changes_asked all (changed v change) parts.1)
    where
      not_so : (b : Bool) → not b ≡ true → b ≡ false
      not_so true h = absurd (false≢true h)
      not_so false h = refl

  -- what is let go was asked so before
  loosed : (m : fin.FinMap nat_cmp Asking) (new : List ℕ) (req : ReqId) (es : List (ℕ × Asking)) → AllByRecursion (λ e. fin.get m e.0 ≡ Some e.1) es → (v : Volatile) → AskedFrom m v.moving → AskedFrom m (all_changed v (flat_map (let_go_of new req) es)).moving
  loosed m new req [] all v from = from
  loosed m new req (e ∷ es) all v from = by_call (λ w f. loosed m new req es all.1 w f) (is_call req e.1.call) (is_member new e.0)
    where
      asked : AskedFrom m (changed v (changes.Ask (e.0) (without_call e.1))).moving
      asked b has = by_key (eq_by_cmp nat_cmp chunk e.0) refl (sym (fin.get-insert nat_cmp_total v.moving e.0 (without_call e.1) chunk) ∙ has)
        where
          by_key : (t : Bool) → eq_by_cmp nat_cmp chunk e.0 ≡ t → cond t (Some (without_call e.1)) (fin.get v.moving chunk) ≡ Some b → (a : Asking) × (fin.get m chunk ≡ Some a) × IsSameFor a b
          by_key true same k = (e.1, ap (fin.get m) (same_key chunk e.0 same) ∙ all.0, subst (IsSameFor e.1) (asking_is k) refl)
          by_key false other k = from b k

      lost : AskedFrom m (changed v (changes.Lose (e.0))).moving
      lost b has = from b (removed v.moving e.0 b has)

      by_call : ((w : Volatile) → AskedFrom m w.moving → AskedFrom m (all_changed w (flat_map (let_go_of new req) es)).moving) → (c n : Bool)
          → AskedFrom m (all_changed v ((if not c then [] else if n then changes.Lose e.0 ∷ [] else changes.Ask e.0 (without_call e.1) ∷ []) ++ flat_map (let_go_of new req) es)).moving
      by_call rest false n = rest v from
      by_call rest true true = rest (changed v (changes.Lose (e.0))) lost
      by_call rest true false = rest (changed v (changes.Ask (e.0) (without_call e.1))) asked

  pub let_go_asked : (v : Volatile) (w : Volatile) (req : ReqId) → w.moving ≡ v.moving → AskedFrom v.moving (all_changed w (let_go v req)).moving
  let_go_asked v w req same =
      loosed v.moving v.unplaced req (fin.entries v.moving)
      (each_entry nat_cmp nat_cmp_total fin.nat_cmp-IsAntisymmetric (λ q a. fin.get v.moving q ≡ Some a) (fin.entries v.moving) (fin.entries_sorted v.moving) (λ q a found. fin.get-entries v.moving q ∙ found)) w
      (λ b has. (b, ap (λ m. fin.get m chunk) (sym same) ∙ has, refl))
