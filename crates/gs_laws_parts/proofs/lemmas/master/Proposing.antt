-- A stamp is proposed for the chunk.
use Rattle.std.proofs.Common.{◌≡◌, ℕ, ◌+◌, ◌*◌, ◌<◌, ◌≤◌, ◌⊎◌, inl, inr, Bool, true, false, not, cond, ◌&&◌, Option, Some, None, refl, sym, ap, subst, ◌∙◌, arith}
use Rattle.std.specs.Prelude.{◌%◌, is_some, nat_lt, if◌then◌else◌}
use Rattle.std.specs.FinMap as fin
use Rattle.std.specs.Cmp.{nat_cmp_total, tied_itself}
use Rattle.std.specs.Ordering.{is_eq}
use Rattle.std.proofs.lemmas.Bool.{false≢true, true≢false, and_parts}
use Rattle.std.proofs.lemmas.Bool.Decides.{nat_tests}
use Rattle.gs_base.specs.Told.{IsNumber}
use Rattle.gs_master_record.specs.Plain.{PlainEntry, Propose}
use Rattle.gs_master_record.specs.declared.checkpoint.Phase.{Phase}
use Rattle.gs_master_record.specs.declared.checkpoint.Phase.TheVariants.{Ordinary, Upgrade, Rolling}
use Rattle.gs_master_spec.specs.Applied.{applied, is_fresh, proposed, raised, with_proposal}
use Rattle.gs_master_spec.specs.Durable.{Durable, Settled, after_number, is_given, is_ordinary, is_rolling, prepared_view, prepared_of, upgrade_epoch}
use Rattle.gs_laws_master.specs.Promises.{goes_on_within, prepared_behind}
use Rattle.gs_laws_master.proofs.lemmas.keeping.Kept.{keeps_prepared}
use Rattle.gs_laws_chunk.specs.machine.Stamps.{epoch_of, radix, start_of}
use Rattle.gs_laws_chunk.specs.machine.Machine.{Entry, ChunkWorld}
use Rattle.gs_laws_chunk.specs.machine.Events.{Can, Proposes}
use Rattle.gs_laws_parts.specs.master.Showing.{IsBare, ShowsDurable, ShowsSettled}

-- the number of a stamp
abbrev pub number_of : ℕ → ℕ → ℕ
number_of epoch version = epoch * 18446744073709551616 + version

pub its_epoch : (epoch version : ℕ) → version < 18446744073709551616 → epoch_of (number_of epoch version) ≡ epoch
unfolding epoch_of
its_epoch epoch version less = omega arith

pub its_version : (epoch version : ℕ) → version < 18446744073709551616 → number_of epoch version % radix ≡ version
its_version epoch version less = omega arith

above_start : (epoch version : ℕ) → 0 < version → start_of epoch < number_of epoch version
unfolding start_of
above_start epoch version some = omega arith

above_past : (top epoch version : ℕ) → epoch_of top ≤ epoch → top % radix < version → top < number_of epoch version
unfolding epoch_of
above_past top epoch version past less = omega arith

pub fresh_some : (n : ℕ) → is_fresh n n ≡ true → 0 < n
fresh_some n fresh = grind (arith, nat_tests)

given_below : (next n : ℕ) → 0 < next → is_given next n ≡ true → n < next
given_below next n some given = grind (arith, nat_tests)

pub given_now : (n : ℕ) → 0 < n → is_given (after_number n) n ≡ true
given_now n some = grind (arith, nat_tests)

pub still_number : (n : ℕ) → IsNumber n → IsNumber (after_number n)
still_number n is = grind (arith, nat_tests)

still_given : (next chunk : ℕ) → is_given next chunk ≡ true → is_given (raised next chunk) chunk ≡ true
still_given next chunk given = by_fresh (is_fresh next chunk) refl
  where
    no : (a b : Bool) → b ≡ true → (a && not b) ≡ true → a ≡ false
    no true true e h = absurd (false≢true h)
    no true false e h = absurd (false≢true e)
    no false b e h = refl

    by_fresh : (b : Bool) → is_fresh next chunk ≡ b → is_given (if b then after_number chunk else next) chunk ≡ true
    by_fresh false is = given
    by_fresh true is = absurd (false≢true (sym (no (nat_lt 0 chunk) (is_given next chunk) given is) ∙ (and_parts (nat_lt 0 chunk) (not (is_given next chunk)) is).0))

-- a record that tells of no holder of the chunk leaves its prepared view
pub prepared_same : (entry : PlainEntry) (chunk : ℕ) (d next : Durable) → goes_on_within entry ≡ true → prepared_behind entry chunk (prepared_view d chunk) ≡ prepared_view d chunk → applied d entry ≡ Some next → next.phase ≡ d.phase
    → prepared_view next chunk ≡ prepared_view d chunk
prepared_same entry chunk d next within still fit same = by_phase (is_ordinary d.phase) refl
  where
    none : (phase : Phase) (epoch : ℕ) → is_ordinary phase ≡ true → upgrade_epoch phase epoch ≡ None
    none Ordinary epoch e = refl
    none Upgrade epoch e = absurd (false≢true e)
    none Rolling epoch e = absurd (false≢true e)

    bare_view : (x : Durable) → is_ordinary x.phase ≡ true → prepared_view x chunk ≡ None
    bare_view x is = ap (λ u. prepared_of u (fin.get x.prepared chunk) (fin.get x.chunks chunk)) (none x.phase x.epoch is)

    by_phase : (b : Bool) → is_ordinary d.phase ≡ b → prepared_view next chunk ≡ prepared_view d chunk
    by_phase true is = bare_view next (ap is_ordinary same ∙ is) ∙ sym (bare_view d is)
    by_phase false is = keeps_prepared entry d next is within fit chunk ∙ still

-- the machine may propose it too
pub may_propose_it : (chunk : ℕ) (d : Durable) (w : ChunkWorld) (asked : ℕ → Bool) → ShowsDurable chunk d w.entry → w.entry.is_known ≡ true → is_rolling d.phase ≡ false → is_fresh d.next_version d.next_version ≡ true → Can w (Proposes (number_of d.epoch d.next_version) asked)
may_propose_it chunk d w asked k known unrolled fresh =
    (known, k.rolling ∙ unrolled, its_epoch d.epoch d.next_version k.counter ∙ sym k.epoch, above_top, subst (λ n. start_of n < number_of d.epoch d.next_version) (sym k.epoch) (above_start d.epoch d.next_version (fresh_some d.next_version fresh)))
  where
    by_given : (w.entry.top % radix ≡ 0) ⊎ (is_given d.next_version (w.entry.top % radix) ≡ true) → w.entry.top % radix < d.next_version
    by_given (inl is) = subst (λ n. n < d.next_version) (sym is) (fresh_some d.next_version fresh)
    by_given (inr is) = given_below d.next_version (w.entry.top % radix) (fresh_some d.next_version fresh) is

    above_top : w.entry.top < number_of d.epoch d.next_version
    above_top = above_past w.entry.top d.epoch d.next_version k.past.epoch (by_given k.past.given)

-- and what is durable is shown then
pub proposed_shows : (chunk : ℕ) (d next : Durable) (e : Entry) (asked : ℕ → Bool) → ShowsDurable chunk d e → e.top < number_of d.epoch d.next_version → is_fresh d.next_version d.next_version ≡ true → applied d (Propose chunk (d.next_version)) ≡ Some next → proposed d chunk d.next_version ≡ next
    → ShowsDurable chunk (proposed d chunk d.next_version) (record e { top = number_of d.epoch d.next_version; asked = asked })
proposed_shows chunk d next e asked k above fresh fit gives = record {
  epoch = k.epoch;
  how = k.how;
  upgrade = k.upgrade;
  rolling = k.rolling;
  given = still_given d.next_handle chunk k.given;
  counter = still_number d.next_version k.counter;
  behind = (let b = k.behind in omega arith);
  past = record {
    epoch = subst (λ n. n ≤ d.epoch) (sym (its_epoch d.epoch d.next_version k.counter)) (omega arith);
    given = inr (subst (λ n. is_given (after_number d.next_version) n ≡ true) (sym (its_version d.epoch d.next_version k.counter)) (given_now d.next_version (fresh_some d.next_version fresh)));
  };
  settled = settled;
  bare = bare;
  listed = k.listed;
  was = λ p is known. k.was p (sym same ∙ is) known;
  prepared = λ p is was. (let s = k.prepared p (sym same ∙ is) was in record { view = s.view; holders = s.holders });
  restores = k.restores;
}
  where
    same : prepared_view (proposed d chunk d.next_version) chunk ≡ prepared_view d chunk
    same = ap (λ x. prepared_view x chunk) gives ∙ prepared_same (Propose chunk (d.next_version)) chunk d next refl refl fit (ap (λ (x : Durable). x.phase) (sym gives))

    settled_is : {a b : Settled} → ◌≡◌ {A = Option Settled} (Some a) (Some b) → a ≡ b
    settled_is h = cc

    got : (y : Settled) → fin.get (fin.insert d.chunks chunk y) chunk ≡ Some y
    got y = fin.get-insert nat_cmp_total d.chunks chunk y chunk ∙ ap (λ o. cond (is_eq o) (Some y) (fin.get d.chunks chunk)) (tied_itself nat_cmp_total chunk)

    settled_at : (o : Option Settled) → fin.get d.chunks chunk ≡ o → (x : Settled) → fin.get (with_proposal d chunk o) chunk ≡ Some x → ShowsSettled x (record e { top = number_of d.epoch d.next_version; asked = asked })
    settled_at None is x has = absurd (false≢true (sym (ap is_some is) ∙ ap is_some has))
    settled_at (Some y) is x has =
        let old = k.settled y is in
        subst (λ z. ShowsSettled z (record e { top = number_of d.epoch d.next_version; asked = asked })) (settled_is (sym (got (record y { is_moving = true })) ∙ has))
        (record { view = old.view; moving = λ m. (let b = k.behind in omega arith); still = λ m. absurd (true≢false m) })

    settled : (x : Settled) → fin.get (with_proposal d chunk (fin.get d.chunks chunk)) chunk ≡ Some x → ShowsSettled x (record e { top = number_of d.epoch d.next_version; asked = asked })
    settled x has = settled_at (fin.get d.chunks chunk) refl x has

    bare_at : (o : Option Settled) → fin.get d.chunks chunk ≡ o → e.is_known ≡ true → fin.get (with_proposal d chunk o) chunk ≡ None → IsBare e.view
    bare_at None is known none = k.bare known is
    bare_at (Some y) is known none = absurd (false≢true (sym (ap is_some none) ∙ ap is_some (got (record y { is_moving = true }))))

    bare : e.is_known ≡ true → fin.get (with_proposal d chunk (fin.get d.chunks chunk)) chunk ≡ None → IsBare e.view
    bare known none = bare_at (fin.get d.chunks chunk) refl known none
