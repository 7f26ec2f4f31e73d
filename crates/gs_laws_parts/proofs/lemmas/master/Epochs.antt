-- An upgrade is finalized, or begins to be rolled back.
use Rattle.std.proofs.Common.{◌≡◌, ℕ, ◌+◌, ◌≤◌, ◌⊎◌, inl, inr, Bool, true, false, cond, ◌&&◌, List, [], ◌∷◌, ◌++◌, length, Option, Some, None, refl, sym, ap, subst, ◌∙◌, arith}
use Rattle.std.specs.Prelude.{◌%◌, Ok, is_some, nat_eq, slice_get, option_and_then}
use Rattle.std.specs.FinMap as fin
use Rattle.std.proofs.lemmas.Bool.{false≢true, true≢false, and_parts}
use Rattle.std.proofs.lemmas.Bool.Decides.{nat_tests}
use Rattle.gs_base.specs.Members.{count_from}
use Rattle.gs_base.specs.declared.config.Config.{Config}
use Rattle.gs_base.specs.declared.epoch.EpochEnd.{EpochEnd}
use Rattle.gs_base.specs.declared.epoch.EpochEnd.TheVariants as ends
use Rattle.gs_base.specs.declared.numbers.ReqId.{ReqId}
use Rattle.gs_msg.specs.declared.answer.Answer.TheVariants as answers
use Rattle.gs_master_record.specs.Plain.{PlainEntry, Finalize, RollbackBegin}
use Rattle.gs_master_record.specs.declared.checkpoint.Phase.{Phase}
use Rattle.gs_master_record.specs.declared.checkpoint.Phase.TheVariants.{Ordinary, Upgrade, Rolling}
use Rattle.gs_master_spec.specs.Applied.{applied, is_next_epoch, replayed, with_epoch, without_prepared}
use Rattle.gs_master_spec.specs.Durable.{Durable, is_given, is_listed, is_ordinary, is_rolling, is_upgrade, prepared_view}
use Rattle.gs_master_spec.specs.State.{State, answer_changes, reply_to}
use Rattle.gs_master_spec.specs.Upgrades.{tell_all}
use Rattle.gs_laws_master.proofs.lemmas.upgrades.Beginnings.{fits_gives}
use Rattle.gs_laws_master.proofs.lemmas.keeping.Kept.{keeps_prepared}
use Rattle.gs_laws_moves.specs.moves.Asked.{WasHeard}
use Rattle.gs_laws_moves.specs.moves.Guards.{Heard, IsMade}
use Rattle.gs_laws_moves.specs.moves.Moves.{BeginsRollback, Finalizes, move_turn}
use Rattle.gs_laws_chunk.proofs.lemmas.machine.Lists.{at_push}
use Rattle.gs_laws_chunk.specs.machine.Stamps.{radix}
use Rattle.gs_laws_chunk.specs.machine.Machine.{Entry, ChunkWorld}
use Rattle.gs_laws_chunk.specs.machine.Events.{BeginsRollback as BeginsIt, Finalizes as FinalizesIt, Goes, Rests, begins_rollback, finalizes, with_end}
use Rattle.gs_laws_parts.specs.master.Showing.{IsPast, ShowsDurable}
use Rattle.gs_laws_parts.specs.master.Single.{FollowsAs, IsUnmoved}
use Rattle.gs_laws_parts.specs.master.Telling.{Says, Shows}
use Rattle.gs_laws_parts.proofs.lemmas.master.Marking.{ends_otherwise}
use Rattle.gs_laws_parts.proofs.lemmas.master.Leaving.{changes_leave, leaves_in_memory}
use Rattle.gs_laws_parts.proofs.lemmas.master.Moving.{answers_leave, epochs_plain, plain_append, shown_then, unmoved_by}

-- how epochs began, with one more
pub how_next : (all : List EpochEnd) (how : ℕ → EpochEnd) (epoch : ℕ) (end : EpochEnd) → length all ≡ epoch → ((n : ℕ) (x : EpochEnd) → slice_get all n ≡ Some x → (n + 1 ≤ epoch) × (how (n + 1) ≡ x))
    → (n : ℕ) (x : EpochEnd) → slice_get (all ++ end ∷ []) n ≡ Some x → (n + 1 ≤ epoch + 1) × (with_end how (epoch + 1) end (n + 1) ≡ x)
how_next all how epoch end many old n x has = by_place (at_push all end n x has)
  where
    other : (m : ℕ) → m + 1 ≤ epoch → nat_eq (m + 1) (epoch + 1) ≡ false
    other m less = grind (arith, nat_tests)

    same : (m : ℕ) → m ≡ epoch → nat_eq (m + 1) (epoch + 1) ≡ true
    same m is = grind (arith, nat_tests)

    by_place : (slice_get all n ≡ Some x) ⊎ ((n ≡ length all) × (end ≡ x)) → (n + 1 ≤ epoch + 1) × (with_end how (epoch + 1) end (n + 1) ≡ x)
    by_place (inl is) = (let h = old n x is in let l = h.0 in (omega arith, ap (λ b. cond b end (how (n + 1))) (other n h.0) ∙ h.1))
    by_place (inr is) = (let at = is.0 in (omega arith, ap (λ b. cond b end (how (n + 1))) (same n (is.0 ∙ many)) ∙ is.1))

pub next_past : (d next : Durable) (top : ℕ) → next.epoch ≡ d.epoch + 1 → next.next_version ≡ d.next_version → IsPast d top → IsPast next top
next_past d next top epoch version p = record { epoch = (let a = p.epoch in omega arith); given = subst (λ v. (top % radix ≡ 0) ⊎ (is_given v (top % radix) ≡ true)) (sym version) p.given }

up_not_rolling : (phase : Phase) → is_upgrade phase ≡ true → is_rolling phase ≡ false
up_not_rolling Ordinary e = absurd (false≢true e)
up_not_rolling Upgrade e = refl
up_not_rolling Rolling e = absurd (false≢true e)

pub up_not_ordinary : (phase : Phase) → is_upgrade phase ≡ true → is_ordinary phase ≡ false
up_not_ordinary Ordinary e = absurd (false≢true e)
up_not_ordinary Upgrade e = refl
up_not_ordinary Rolling e = refl

only : (d next : Durable) (entry : PlainEntry) → replayed d (entry ∷ []) ≡ Some next → applied d entry ≡ Some next
only d next entry fit = by_first (applied d entry) fit
  where
    by_first : (o : Option Durable) → option_and_then (λ (n : Durable). replayed n []) o ≡ Some next → o ≡ Some next
    by_first None h = absurd (false≢true (ap is_some h))
    by_first (Some n) h = h

-- ---- what is durable

finalized_shows : (chunk : ℕ) (d : Durable) (e : Entry) → is_rolling d.phase ≡ false → length d.ends ≡ d.epoch → ShowsDurable chunk d e → ShowsDurable chunk (without_prepared (with_epoch d ends.Finalize Ordinary)) (record e { epoch = e.epoch + 1; how = with_end e.how (e.epoch + 1) ends.Finalize; was_known = false })
finalized_shows chunk d e unrolled ended k = record {
  epoch = ap (λ n. n + 1) k.epoch;
  how = how_next d.ends e.how e.epoch ends.Finalize (ended ∙ sym k.epoch) k.how;
  upgrade = λ up. absurd (false≢true up);
  rolling = k.rolling ∙ unrolled;
  given = k.given;
  counter = k.counter;
  behind = k.behind;
  past = next_past d (without_prepared (with_epoch d ends.Finalize Ordinary)) e.top refl refl k.past;
  settled = λ x has. (let s = k.settled x has in record { view = s.view; moving = s.moving; still = s.still });
  bare = k.bare;
  listed = k.listed;
  was = λ p is known. absurd (false≢true (ap is_some is));
  prepared = λ p is was. absurd (false≢true was);
  restores = λ names ordinary is there. absurd (true≢false ordinary);
}

rolling_shows : (chunk : ℕ) (d next : Durable) (e : Entry) (epoch : ℕ) → is_upgrade d.phase ≡ true → applied d (RollbackBegin epoch) ≡ Some next → with_epoch d ends.Rollback Rolling ≡ next → length d.ends ≡ d.epoch → ShowsDurable chunk d e
    → ShowsDurable chunk (with_epoch d ends.Rollback Rolling) (record e { epoch = e.epoch + 1; how = with_end e.how (e.epoch + 1) ends.Rollback; is_rolling = true })
rolling_shows chunk d next e epoch up fit gives ended k = record {
  epoch = ap (λ n. n + 1) k.epoch;
  how = how_next d.ends e.how e.epoch ends.Rollback (ended ∙ sym k.epoch) k.how;
  upgrade = λ up. absurd (false≢true up);
  rolling = refl;
  given = k.given;
  counter = k.counter;
  behind = k.behind;
  past = next_past d (with_epoch d ends.Rollback Rolling) e.top refl refl k.past;
  settled = λ x has. (let s = k.settled x has in record { view = s.view; moving = s.moving; still = s.still });
  bare = k.bare;
  listed = k.listed;
  was = λ p is known. k.was p (sym same ∙ is) known;
  prepared = λ p is was. (let s = k.prepared p (sym same ∙ is) was in record { view = s.view; holders = s.holders });
  restores = λ names ordinary is there. k.restores names (up_not_ordinary d.phase up) is there;
}
  where
    same : prepared_view (with_epoch d ends.Rollback Rolling) chunk ≡ prepared_view d chunk
    same = ap (λ x. prepared_view x chunk) gives ∙ keeps_prepared (RollbackBegin epoch) d next (up_not_ordinary d.phase up) refl fit chunk

-- ---- the moves

module _ (born chunk : ℕ) (whole : ℕ → Bool) (config : Config) (heard : Heard) (s : State) (w : ChunkWorld) (k : Shows chunk s w) (was : WasHeard (Says chunk w) heard) where
  pub finalize_follows : (req : ReqId) → IsMade config heard s (Finalizes req) → FollowsAs born chunk whole w (move_turn config s (Finalizes req)).after (move_turn config s (Finalizes req)).sent (IsUnmoved w)
  unfolding applied
  finalize_follows req made =
      shown_then born chunk whole config heard s (Finalizes req) w (finalizes w) k was made
      (plain_append (tell_all config (s.durable.epoch + 1) ends.Finalize) (reply_to req (Ok (answers.Epoch (s.durable.epoch + 1))) ∷ []) (epochs_plain (count_from 0 config.servers) (s.durable.epoch + 1) ends.Finalize) refl)
      (Goes w FinalizesIt Rests (k.entry.durable.rolling ∙ unrolled, k.entry.durable.upgrade up)) (tt, refl) (λ j. inl refl) (ends_otherwise whole w (finalizes w) ends.Finalize refl refl (λ same. absurd (cc))) (λ x there. there)
      (record { durable = subst (λ n. ShowsDurable chunk n (finalizes w).entry) gives (finalized_shows chunk s.durable w.entry unrolled made.may.ended k.entry.durable); memory = leaves_in_memory chunk s u w.entry (finalizes w).entry (ap (λ (d : Durable). fin.get d.chunks chunk) (sym gives)) (ap (λ (d : Durable). is_listed d chunk) (sym gives)) (changes_leave chunk (answer_changes s req (answers.Epoch (s.durable.epoch + 1))) s.volatile (answers_leave chunk s req (answers.Epoch (s.durable.epoch + 1)))) refl refl refl refl k.entry.memory })
      (IsUnmoved w) (unmoved_by w (finalizes w) refl)
    where
      u : State
      u = (move_turn config s (Finalizes req)).after

      fit : (is_upgrade s.durable.phase && is_next_epoch s.durable.epoch (s.durable.epoch + 1) ≡ true) × (without_prepared (with_epoch s.durable ends.Finalize Ordinary) ≡ u.durable)
      fit = fits_gives (is_upgrade s.durable.phase && is_next_epoch s.durable.epoch (s.durable.epoch + 1)) (without_prepared (with_epoch s.durable ends.Finalize Ordinary)) u.durable (only s.durable u.durable (Finalize (s.durable.epoch + 1)) made.fits)

      gives : without_prepared (with_epoch s.durable ends.Finalize Ordinary) ≡ u.durable
      gives = fit.1

      up : is_upgrade s.durable.phase ≡ true
      up = (and_parts (is_upgrade s.durable.phase) (is_next_epoch s.durable.epoch (s.durable.epoch + 1)) fit.0).0

      unrolled : is_rolling s.durable.phase ≡ false
      unrolled = up_not_rolling s.durable.phase up

  pub rollback_follows : IsMade config heard s BeginsRollback → FollowsAs born chunk whole w (move_turn config s BeginsRollback).after (move_turn config s BeginsRollback).sent (IsUnmoved w)
  unfolding applied
  rollback_follows made =
      shown_then born chunk whole config heard s BeginsRollback w (begins_rollback w) k was made refl
      (Goes w BeginsIt Rests (k.entry.durable.rolling ∙ up_not_rolling s.durable.phase up, k.entry.durable.upgrade up)) (tt, refl) (λ j. inl refl) (ends_otherwise whole w (begins_rollback w) ends.Rollback refl refl (λ same. absurd (cc))) (λ x there. there)
      (record {
        durable = subst (λ n. ShowsDurable chunk n (begins_rollback w).entry) fit.1 (rolling_shows chunk s.durable u.durable w.entry (s.durable.epoch + 1) up one fit.1 made.may.ended k.entry.durable);
        memory = leaves_in_memory chunk s u w.entry (begins_rollback w).entry (ap (λ (d : Durable). fin.get d.chunks chunk) (sym fit.1)) (ap (λ (d : Durable). is_listed d chunk) (sym fit.1)) (refl, refl) refl refl refl refl k.entry.memory;
      })
      (IsUnmoved w) (unmoved_by w (begins_rollback w) refl)
    where
      u : State
      u = (move_turn config s BeginsRollback).after

      one : applied s.durable (RollbackBegin (s.durable.epoch + 1)) ≡ Some u.durable
      one = only s.durable u.durable (RollbackBegin (s.durable.epoch + 1)) made.fits

      fit : (is_upgrade s.durable.phase && is_next_epoch s.durable.epoch (s.durable.epoch + 1) ≡ true) × (with_epoch s.durable ends.Rollback Rolling ≡ u.durable)
      fit = fits_gives (is_upgrade s.durable.phase && is_next_epoch s.durable.epoch (s.durable.epoch + 1)) (with_epoch s.durable ends.Rollback Rolling) u.durable one

      up : is_upgrade s.durable.phase ≡ true
      up = (and_parts (is_upgrade s.durable.phase) (is_next_epoch s.durable.epoch (s.durable.epoch + 1)) fit.0).0
