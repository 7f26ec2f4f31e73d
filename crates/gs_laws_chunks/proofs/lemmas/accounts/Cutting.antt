-- What becomes of the epoch where a part of a turn stands.
use Rattle.std.proofs.Common.{◌≡◌, ◌∙◌, ◌≤◌, ◌⊎◌, inl, inr, ◌+◌, ◌&&◌, ℕ, Bool, true, false, suc, zero, List, [], ◌∷◌, length, take, Option, Some, None, Result, Ok, Err, refl, ap, sym, subst, arith}
use Rattle.std.specs.Prelude.{if◌then◌else◌, is_some, nat_lt, option_and_then, option_map}
use Rattle.std.specs.FinMap as fin
use Rattle.std.specs.List.{AllByRecursion}
use Rattle.std.proofs.lemmas.Bool.{false≢true, and_parts}
use Rattle.std.proofs.lemmas.List.{take_all}
use Rattle.gs_base.specs.declared.config.Config.{Config}
use Rattle.gs_base.specs.declared.epoch.EpochEnd.TheVariants as ends
use Rattle.gs_base.specs.declared.numbers.ReqId.{ReqId}
use Rattle.gs_base.specs.declared.refusal.Refusal.{Refusal}
use Rattle.gs_edit.specs.View.{NamesView}
use Rattle.gs_laws_master.proofs.lemmas.upgrades.Beginnings.{fits_gives}
use Rattle.gs_laws_master.proofs.lemmas.keeping.KeptEdits.{forgets_only}
use Rattle.gs_laws_master.specs.Promises.{goes_on_within}
use Rattle.gs_laws_master.specs.Reached.{GoWithin}
use Rattle.gs_laws_moves.specs.moves.Epochs.{EndsOnce}
use Rattle.gs_laws_moves.specs.moves.Guards.{Heard, IsMade}
use Rattle.gs_laws_moves.specs.moves.Moves.{Move, CommitsRollback, Finalizes, Prepares, move_turn}
use Rattle.gs_master_record.specs.Plain.{PlainCheckpoint, PlainEdit, PlainEntry, Edited, Holder, Propose, RollbackBegin, Said, Settle, Whole}
use Rattle.gs_master_record.specs.Writable.{IsEntry}
use Rattle.gs_journal.specs.declared.version.Version.TheVariants.{Two}
use Rattle.gs_master_record.specs.declared.checkpoint.Phase.{Phase}
use Rattle.gs_master_record.specs.declared.checkpoint.Phase.TheVariants.{Ordinary, Upgrade, Rolling}
use Rattle.gs_master_spec.specs.Applied.{after_edit, applied, forgotten_by, held_by, is_next_epoch, may_be_settled, may_edit, may_propose, proposed, replayed, with_edit, with_epoch, with_view}
use Rattle.gs_master_spec.specs.Durable.{Durable, is_ordinary, is_upgrade, prepared_view, with_prepared}
use Rattle.gs_master_spec.specs.State.{State, Turn}
use Rattle.gs_master_spec.specs.Undoing.{all_undone, edited_names}
use Rattle.gs_master_spec.specs.Whole.{can_go_back, checkpoint_of, durable_with, if_it_can, is_whole, told_replies, whole_of}
use Rattle.gs_laws_moves.proofs.lemmas.upgrades.Records.{Goes, Paced, Turns, chain_within, is_bound, paced, turn_fits}

some_is : {a b : Durable} → ◌≡◌ {A = Option Durable} (Some a) (Some b) → a ≡ b
some_is h = cc

-- Where neither a prepare, nor the end of an upgrade is between, epochs rise; where one stands, so does the phase; and what is ordinary stays so.
pub record IsWithin (d e : Durable) : Type 0 where
  pub rises : d.epoch ≤ e.epoch
  pub stays : d.epoch ≡ e.epoch → e.phase ≡ d.phase
  pub ordinary : is_ordinary d.phase ≡ true → is_ordinary e.phase ≡ true

as_it_was : (d e : Durable) → e.epoch ≡ d.epoch → e.phase ≡ d.phase → IsWithin d e
as_it_was d e epoch phase = record { rises = omega arith; stays = λ same. phase; ordinary = λ is. ap is_ordinary phase ∙ is }

then_within : (d e f : Durable) → IsWithin d e → IsWithin e f → IsWithin d f
then_within d e f a b =
    let one = a.rises in
    let two = b.rises in record { rises = omega arith; stays = λ same. b.stays (omega arith) ∙ a.stays (omega arith); ordinary = λ is. b.ordinary (a.ordinary is) }

-- ---- one record

abbrev told : Durable → ℕ × Phase
told d = (d.epoch, d.phase)

told_within : (d e : Durable) → told e ≡ told d → IsWithin d e
told_within d e same = as_it_was d e (ap (λ (p : ℕ × Phase). p.0) same) (ap (λ (p : ℕ × Phase). p.1) same)

edited_same : (d e : Durable) (by : ReqId) (edit : PlainEdit) (names : Result NamesView Refusal) → after_edit d by edit names ≡ Some e → told e ≡ told d
edited_same d e by edit (Ok names) fit = ap told (sym (fits_gives (may_edit d edit) (with_edit d by edit names) e fit).1) ∙ ap told (forgets_only d (forgotten_by edit))
edited_same d e by edit (Err refusal) fit = absurd (false≢true (ap is_some fit))

begun_within : (d e : Durable) (epoch : ℕ) → (is_upgrade d.phase && is_next_epoch d.epoch epoch) ≡ true → with_epoch d ends.Rollback Rolling ≡ e → IsWithin d e
begun_within d e epoch may is =
    let higher : d.epoch + 1 ≡ e.epoch = ap (λ (x : Durable). x.epoch) is in
    record { rises = omega arith; stays = λ same. absurd (omega arith); ordinary = λ o. absurd (not_both d.phase (and_parts (is_upgrade d.phase) (is_next_epoch d.epoch epoch) may).0 o) }
  where
    not_both : (phase : Phase) → is_upgrade phase ≡ true → is_ordinary phase ≡ true → ⊥
    not_both Ordinary up o = absurd (false≢true up)
    not_both Upgrade up o = absurd (false≢true o)
    not_both Rolling up o = absurd (false≢true up)

record_within : (d e : Durable) (entry : PlainEntry) → goes_on_within entry ≡ true → applied d entry ≡ Some e → IsWithin d e
unfolding applied
record_within d e (Edited by edit) within fit = told_within d e (edited_same d e by edit (edited_names edit d.names) fit)
record_within d e (Said to refusal) within fit = told_within d e (ap told (sym (some_is fit)))
record_within d e (Propose q version) within fit = told_within d e (ap told (sym (fits_gives (may_propose d.phase d.next_handle d.next_version q version (fin.get d.chunks q)) (proposed d q version) e fit).1))
record_within d e (Settle v) within fit = told_within d e (ap told (sym (fits_gives (may_be_settled d v) (with_view d v) e fit).1))
record_within d e (Holder q server) within fit =
    told_within d e (ap told (sym (fits_gives (is_upgrade d.phase && (nat_lt server 16 && is_some (prepared_view d q))) (record d { prepared = with_prepared d q (held_by server (prepared_view d q)) }) e fit).1))
record_within d e (RollbackBegin epoch) within fit = (let is = fits_gives (is_upgrade d.phase && is_next_epoch d.epoch epoch) (with_epoch d ends.Rollback Rolling) e fit in begun_within d e epoch is.0 is.1)
record_within d e entry within fit = absurd (false≢true within)

-- a checkpoint of what is durable leaves its epoch
whole_told : (c : PlainCheckpoint) (e : Durable) → whole_of c ≡ Some e → (e.epoch ≡ c.epoch) × (e.phase ≡ c.phase)
unfolding whole_of
whole_told c e fit = by_test (is_whole c) fit
  where
    by_able : (f : Durable) (b : Bool) → (if b then Some f else None) ≡ Some e → f ≡ e
    by_able f true is = some_is is
    by_able f false is = absurd (false≢true (ap is_some is))

    by_replies : (o : Option _) → option_and_then if_it_can (option_map (durable_with c) o) ≡ Some e → (e.epoch ≡ c.epoch) × (e.phase ≡ c.phase)
    by_replies None is = absurd (false≢true (ap is_some is))
    by_replies (Some replies) is =
        let f = durable_with c replies in
        let same : f ≡ e = by_able f (can_go_back f (all_undone f.inverses f.names)) is in (sym (ap (λ (x : Durable). x.epoch) same), sym (ap (λ (x : Durable). x.phase) same))

    by_test : (b : Bool) → (if b then option_and_then if_it_can (option_map (durable_with c) (told_replies c.replies)) else None) ≡ Some e → (e.epoch ≡ c.epoch) × (e.phase ≡ c.phase)
    by_test true is = by_replies (told_replies c.replies) is
    by_test false is = absurd (false≢true (ap is_some is))

checkpoint_within : (d e : Durable) (entry : PlainEntry) → entry ≡ Whole (checkpoint_of d) → applied d entry ≡ Some e → IsWithin d e
unfolding applied checkpoint_of
checkpoint_within d e entry is fit = (let same = whole_told (checkpoint_of d) e (ap (applied d) (sym is) ∙ fit) in as_it_was d e same.0 same.1)

-- ---- a part of a turn

part_within : (d e : Durable) (entries : List PlainEntry) (many : ℕ) → GoWithin d entries → replayed d (take many entries) ≡ Some e → IsWithin d e
part_within d e entries zero within fit = subst (IsWithin d) (some_is fit) (as_it_was d d refl refl)
part_within d e [] (suc many) within fit = subst (IsWithin d) (some_is fit) (as_it_was d d refl refl)
part_within d e (entry ∷ entries) (suc many) within fit = each (applied d entry) refl fit (λ n is rest. part_within n e entries many (within.1 n is) rest)
  where
    one : (n : Durable) → applied d entry ≡ Some n → ((goes_on_within entry ≡ true) × IsEntry Two entry) ⊎ (entry ≡ Whole (checkpoint_of d)) → IsWithin d n
    one n is (inl goes) = record_within d n entry goes.0 is
    one n is (inr whole) = checkpoint_within d n entry whole is

    each : (o : Option Durable) → applied d entry ≡ o → option_and_then (λ n. replayed n (take many entries)) o ≡ Some e → ((n : Durable) → applied d entry ≡ Some n → replayed n (take many entries) ≡ Some e → IsWithin n e) → IsWithin d e
    each None is rest on = absurd (false≢true (ap is_some rest))
    each (Some n) is rest on = then_within d n e (one n is within.0) (on n is rest)

module _ (config : Config) (heard : Heard) (s : State) (t : Turn) (turn : EndsOnce config (IsMade config heard) s t) (written : AllByRecursion (IsEntry Two) t.records) where
  -- a turn of which all stands
  pub all_stand : (many : ℕ) (e : Durable) → length t.records ≤ many → replayed s.durable (take many t.records) ≡ Some e → e ≡ t.after.durable
  all_stand many e all fit = some_is (sym fit ∙ ap (replayed s.durable) (take_all many t.records all) ∙ turn_fits config heard s t turn written)

-- All of it stands, or no prepare is among what does, and no end of an upgrade.
pub part_stands : (config : Config) (heard : Heard) (s : State) (t : Turn) → EndsOnce config (IsMade config heard) s t → AllByRecursion (IsEntry Two) t.records → (many : ℕ) (e : Durable) → replayed s.durable (take many t.records) ≡ Some e → IsWithin s.durable e ⊎ (e ≡ t.after.durable)
part_stands config heard s t turn written many e fit = by_pace s t (paced config heard s t turn) written many fit (λ all. all_stand config heard s t turn written many e all fit)
  where
    alone : (s : State) (entry : PlainEntry) (records : List PlainEntry) (next : Durable) → records ≡ entry ∷ [] → (many : ℕ) → replayed s.durable (take many records) ≡ Some e → (length records ≤ many → e ≡ next) → IsWithin s.durable e ⊎ (e ≡ next)
    alone s entry records next is zero fit whole = inl (subst (IsWithin s.durable) (some_is fit) (as_it_was s.durable s.durable refl refl))
    alone s entry records next is (suc many) fit whole = (let one : length records ≡ 1 = ap (λ (xs : List PlainEntry). length xs) is in inr (whole (omega arith)))

    by_move : (s : State) (move : Move) (next : Durable) → is_bound move ≡ true → (many : ℕ) → replayed s.durable (take many (move_turn config s move).records) ≡ Some e → (length (move_turn config s move).records ≤ many → e ≡ next) → IsWithin s.durable e ⊎ (e ≡ next)
    by_move s (Prepares req moment) next bound many fit whole = alone s _ (move_turn config s (Prepares req moment)).records next refl many fit whole
    by_move s (Finalizes req) next bound many fit whole = alone s _ (move_turn config s (Finalizes req)).records next refl many fit whole
    by_move s (CommitsRollback req names) next bound many fit whole = alone s _ (move_turn config s (CommitsRollback req names)).records next refl many fit whole
    by_move s move next bound many fit whole = absurd (false≢true bound)

    by_pace : (s : State) (t : Turn) → Paced config heard s t → AllByRecursion (IsEntry Two) t.records → (many : ℕ) → replayed s.durable (take many t.records) ≡ Some e → (length t.records ≤ many → e ≡ t.after.durable) → IsWithin s.durable e ⊎ (e ≡ t.after.durable)
    by_pace s t (Goes u next chain) written many fit whole = inl (part_within u.durable e next.records many (chain_within config heard u next chain written).0 fit)
    by_pace s t (Turns u move said made bound) written many fit whole = by_move u move _ bound many fit whole
