-- An upgrade is prepared: the chunk is at rest, and its view is kept.
use Rattle.std.proofs.Common.{◌≡◌, ℕ, ◌+◌, inr, Bool, true, false, not, cond, ◌&&◌, [], ◌∷◌, length, Option, Some, None, refl, sym, ap, subst, ◌∙◌, arith}
use Rattle.std.specs.Prelude.{Ok, is_none, is_some, nat_eq, option_map}
use Rattle.std.specs.FinMap as fin
use Rattle.std.proofs.lemmas.Bool.{false≢true, and_parts}
use Rattle.std.proofs.lemmas.Bool.Decides.{nat_tests}
use Rattle.gs_base.specs.Members.{count_from}
use Rattle.gs_base.specs.declared.epoch.EpochEnd.TheVariants as ends
use Rattle.gs_edit.specs.View.{NamesView}
use Rattle.gs_lease.specs.declared.view.Term.{Term}
use Rattle.gs_msg.specs.declared.answer.Answer.TheVariants as answers
use Rattle.gs_master_record.specs.Plain.{Prepare}
use Rattle.gs_master_record.specs.declared.checkpoint.Phase.{Phase}
use Rattle.gs_master_record.specs.declared.checkpoint.Phase.TheVariants.{Ordinary, Upgrade, Rolling}
use Rattle.gs_master_spec.specs.Applied.{applied, are_at_rest, is_next_epoch, with_epoch, without_prepared}
use Rattle.gs_master_spec.specs.Chunks.{chunk_at, has_entry, is_quiet}
use Rattle.gs_master_spec.specs.Durable.{Durable, Settled, is_listed, is_ordinary, is_rolling, prepared_view}
use Rattle.gs_master_spec.specs.Settling.{is_quiet_at}
use Rattle.gs_master_spec.specs.State.{State, answer_changes, reply_to}
use Rattle.gs_master_spec.specs.Undoing.{all_undone}
use Rattle.gs_master_spec.specs.Upgrades.{chunk_count, tell_all}
use Rattle.gs_master_spec.specs.declared.asking.Asking.{Asking}
use Rattle.gs_master_spec.specs.declared.asking.Prepared.{Prepared}
use Rattle.gs_master_spec.specs.declared.change.Change.TheVariants as changes
use Rattle.gs_laws_master.specs.Promises.{prepared_from}
use Rattle.gs_laws_master.proofs.lemmas.upgrades.Beginnings.{begins_with_all, fits_gives}
use Rattle.gs_laws_moves.proofs.lemmas.moves.Quieted.{prepares_quiet}
use Rattle.gs_laws_moves.proofs.lemmas.moves.Right.{one_fits}
use Rattle.gs_laws_moves.specs.moves.Guards.{MayPrepare}
use Rattle.gs_laws_moves.specs.moves.Moves.{Prepares, move_turn}
use Rattle.gs_laws_chunk.specs.machine.Machine.{Entry}
use Rattle.gs_laws_chunk.specs.machine.Events.{Can, Goes, Prepares as PreparesIt, Rests, nobody, prepares, with_end}
use Rattle.gs_laws_parts.specs.master.Single.{IsUnmoved}
use Rattle.gs_laws_parts.specs.master.Proposals.{PreparesFollow}
use Rattle.gs_laws_parts.specs.master.Showing.{ShowsDurable, ShowsEntry, ShowsPrepared, primary_of}
use Rattle.gs_laws_parts.proofs.lemmas.master.Epochs.{how_next, next_past}
use Rattle.gs_laws_parts.proofs.lemmas.master.Leaving.{changes_leave, leaves_in_memory}
use Rattle.gs_laws_parts.proofs.lemmas.master.Moving.{answers_leave, epochs_plain, plain_append, shown_then, unmoved_by}

prepared_is : {a b : Prepared} → ◌≡◌ {A = Option Prepared} (Some a) (Some b) → a ≡ b
prepared_is k = cc

names_are : {a b : NamesView} → ◌≡◌ {A = Option NamesView} (Some a) (Some b) → a ≡ b
names_are k = cc

not_true : (b : Bool) → not b ≡ true → b ≡ false
not_true true h = absurd (false≢true h)
not_true false h = refl

ordinary_still : (phase : Phase) → is_ordinary phase ≡ true → is_rolling phase ≡ false
ordinary_still Ordinary e = refl
ordinary_still Upgrade e = absurd (false≢true e)
ordinary_still Rolling e = absurd (false≢true e)

abbrev upgraded : Durable → Durable
upgraded d = without_prepared (with_epoch d ends.Prepare Upgrade)

abbrev prepared_entry : Entry → Entry
prepared_entry e = record e { epoch = e.epoch + 1; how = with_end e.how (e.epoch + 1) ends.Prepare; was_known = e.is_known; prepared = e.view; holders = nobody }

prepared_shows : (chunk : ℕ) (d : Durable) (e : Entry) → is_rolling d.phase ≡ false → length d.ends ≡ d.epoch → all_undone (upgraded d).inverses (upgraded d).names ≡ Some d.names → prepared_view (upgraded d) chunk ≡ option_map prepared_from (fin.get d.chunks chunk)
    → ShowsDurable chunk d e → ShowsDurable chunk (upgraded d) (prepared_entry e)
prepared_shows chunk d e unrolled ended back kept k = record {
  epoch = ap (λ n. n + 1) k.epoch;
  how = how_next d.ends e.how e.epoch ends.Prepare (ended ∙ sym k.epoch) k.how;
  upgrade = λ up. ap (λ b. cond b ends.Prepare (e.how (e.epoch + 1))) (itself (e.epoch + 1));
  rolling = k.rolling ∙ unrolled;
  given = k.given;
  counter = k.counter;
  behind = k.behind;
  past = next_past d (upgraded d) e.top refl refl k.past;
  settled = λ x has. (let s = k.settled x has in record { view = s.view; moving = s.moving; still = s.still });
  bare = k.bare;
  listed = k.listed;
  was = λ p is known. known;
  prepared = λ p is was. by_settled (fin.get d.chunks chunk) refl p (sym kept ∙ is);
  restores = λ names ordinary is there. k.listed (ap (λ (x : NamesView). is_some (fin.get x.refs chunk)) (names_are (sym back ∙ is)) ∙ there);
}
  where
    itself : (n : ℕ) → nat_eq n n ≡ true
    itself n = grind (arith, nat_tests)

    by_settled : (o : Option Settled) → fin.get d.chunks chunk ≡ o → (p : Prepared) → option_map prepared_from o ≡ Some p → ShowsPrepared p (prepared_entry e)
    by_settled None is p h = absurd (false≢true (ap is_some h))
    by_settled (Some x) is p h = subst (λ q. ShowsPrepared q (prepared_entry e)) (prepared_is h) (record { view = (k.settled x is).view; holders = λ j here. absurd (false≢true here) })

-- where it is quiet, the machine is at rest
pub quiet_is : (s : State) (chunk : ℕ) → has_entry s chunk ≡ true → is_quiet_at s chunk ≡ is_quiet (record { settled = fin.get s.durable.chunks chunk; asking = fin.get s.volatile.moving chunk })
unfolding chunk_at
quiet_is s chunk known = rw known refl

pub at_rest : (s : State) (chunk : ℕ) (e : Entry) → MayPrepare s → ShowsEntry chunk s e → e.is_known ≡ true → (e.top ≡ e.view.stamp) × (e.view.holder ≡ None)
at_rest s chunk e may k is = by_both (fin.get s.durable.chunks chunk) refl (fin.get s.volatile.moving chunk) refl (sym (quiet_is s chunk known) ∙ prepares_quiet s chunk may known)
  where
    known : has_entry s chunk ≡ true
    known = sym k.memory.known ∙ is

    no_term : (term : Option Term) → is_none term ≡ true → primary_of term ≡ None
    no_term None none = refl
    no_term (Some term) none = absurd (false≢true none)

    by_both : (o : Option Settled) → fin.get s.durable.chunks chunk ≡ o → (a : Option Asking) → fin.get s.volatile.moving chunk ≡ a → is_quiet (record { settled = o; asking = a }) ≡ true → (e.top ≡ e.view.stamp) × (e.view.holder ≡ None)
    by_both o settled (Some a) asks quiet = absurd (false≢true quiet)
    by_both None settled None asks quiet = absurd (false≢true (sym (ap is_some asks) ∙ k.memory.sought known settled))
    by_both (Some x) settled None asks quiet =
        let shown = k.durable.settled x settled in
        let parts = and_parts (not x.is_moving) (is_none x.view.term) quiet in (shown.still (not_true x.is_moving parts.0), shown.view.holder ∙ no_term x.view.term parts.1)

pub prepares_follow : PreparesFollow
unfolding applied
prepares_follow born chunk whole config heard s req moment w live kept k was made =
    shown_then born chunk whole config heard s (Prepares req moment) w (prepares w whole) k was made
    (plain_append (tell_all config (s.durable.epoch + 1) ends.Prepare) (reply_to req (Ok (answers.Epoch (s.durable.epoch + 1))) ∷ []) (epochs_plain (count_from 0 config.servers) (s.durable.epoch + 1) ends.Prepare) refl)
    (Goes w (PreparesIt whole) Rests can) (tt, refl) (λ j. inr refl) (λ e since j. refl) (λ x there. there)
    (record {
      durable = subst (λ n. ShowsDurable chunk n (prepares w whole).entry) fit.1 (prepared_shows chunk s.durable w.entry unrolled made.may.ended back.0 (back.1 chunk) k.entry.durable);
      memory = leaves_in_memory chunk s u w.entry (prepares w whole).entry (ap (λ (d : Durable). fin.get d.chunks chunk) (sym fit.1)) (ap (λ (d : Durable). is_listed d chunk) (sym fit.1))
          (changes_leave chunk (changes.Prepare false ∷ answer_changes s req (answers.Epoch (s.durable.epoch + 1))) s.volatile (answers_leave chunk s req (answers.Epoch (s.durable.epoch + 1)))) refl refl refl refl k.entry.memory;
    })
    (IsUnmoved w) (unmoved_by w (prepares w whole) refl)
  where
    u : State
    u = (move_turn config s (Prepares req moment)).after

    one : applied s.durable (Prepare (s.durable.epoch + 1) moment.0 (chunk_count s)) ≡ Some u.durable
    one = one_fits s.durable u.durable (Prepare (s.durable.epoch + 1) moment.0 (chunk_count s)) made.fits

    fit : (is_ordinary s.durable.phase && (is_next_epoch s.durable.epoch (s.durable.epoch + 1) && are_at_rest s.durable) ≡ true) × (upgraded s.durable ≡ u.durable)
    fit = fits_gives (is_ordinary s.durable.phase && (is_next_epoch s.durable.epoch (s.durable.epoch + 1) && are_at_rest s.durable)) (upgraded s.durable) u.durable one

    unrolled : is_rolling s.durable.phase ≡ false
    unrolled = ordinary_still s.durable.phase (and_parts (is_ordinary s.durable.phase) (is_next_epoch s.durable.epoch (s.durable.epoch + 1) && are_at_rest s.durable) fit.0).0

    back : (all_undone (upgraded s.durable).inverses (upgraded s.durable).names ≡ Some s.durable.names) × ((c : ℕ) → prepared_view (upgraded s.durable) c ≡ option_map prepared_from (fin.get s.durable.chunks c))
    back = subst (λ (n : Durable). (all_undone n.inverses n.names ≡ Some s.durable.names) × ((c : ℕ) → prepared_view n c ≡ option_map prepared_from (fin.get s.durable.chunks c))) (sym fit.1) (begins_with_all s.durable u.durable (s.durable.epoch + 1) moment.0 (chunk_count s) kept one)

    can : Can w (PreparesIt whole)
    can = (k.entry.durable.rolling ∙ unrolled, at_rest s chunk w.entry made.may k.entry, live)
