-- Where no move of a chain is alone, the epoch stays, and so does the phase; and what becomes of both over each turn.
use Rattle.std.proofs.Common.{◌≡◌, ◌∙◌, ◌==◌, ◌&&◌, ◌||◌, ◌+◌, ◌++◌, ℕ, Bool, true, false, not, List, [], ◌∷◌, length, refl, ap, sym}
use Rattle.std.specs.Prelude.{is_some, map, nat_lt, slice_get, Option, Some, None, Result, Ok, Err}
use Rattle.std.specs.FinMap as fin
use Rattle.std.specs.Ordering.{nat_cmp}
use Rattle.std.specs.List.{list_all}
use Rattle.std.proofs.lemmas.Bool.{false≢true, and_parts}
use Rattle.gs_base.specs.declared.config.Config.{Config}
use Rattle.gs_base.specs.declared.epoch.EpochEnd.{EpochEnd}
use Rattle.gs_base.specs.declared.epoch.EpochEnd.TheVariants as ends
use Rattle.gs_base.specs.declared.numbers.ReqId.{ReqId}
use Rattle.gs_base.specs.declared.refusal.Refusal.{Refusal}
use Rattle.gs_edit.specs.View.{NamesView}
use Rattle.gs_master_record.specs.Plain.{PlainEdit, PlainEntry, Edited, Finalize, Holder, Prepare, Propose, RollbackBegin, RollbackCommit, Said, Settle, Remove}
use Rattle.gs_master_record.specs.declared.checkpoint.Phase.{Phase}
use Rattle.gs_master_record.specs.declared.checkpoint.Phase.TheVariants.{Ordinary, Upgrade, Rolling}
use Rattle.gs_master_record.specs.declared.entry.Answered.{Answered}
use Rattle.gs_laws_master.proofs.lemmas.upgrades.Beginnings.{fits_gives}
use Rattle.gs_laws_master.proofs.lemmas.keeping.KeptEdits.{forgets_only}
use Rattle.gs_master_spec.specs.Applied.{after_edit, after_undoing, applied, are_answers, are_at_rest, forgotten_by, held_by, is_next_epoch, may_be_settled, may_edit, may_propose, proposed, replayed, rolled_back, with_edit, with_epoch, with_view, without_prepared}
use Rattle.gs_master_spec.specs.Undoing.{all_undone, edited_names}
use Rattle.gs_master_spec.specs.Upgrades.{answers_for, chunk_count, told_of}
use Rattle.gs_master_spec.specs.Durable.{Durable, is_ordinary, is_rolling, is_upgrade, prepared_view, with_prepared}
use Rattle.gs_master_spec.specs.Settling.{own_request}
use Rattle.gs_master_spec.specs.State.{State, Turn}
use Rattle.gs_master_spec.specs.Working.{forget_if}
use Rattle.gs_laws_moves.specs.moves.Guards.{Heard, IsMade, is_location}
use Rattle.gs_laws_moves.specs.moves.Laws.{IsMadeWell}
use Rattle.gs_laws_moves.specs.moves.Moves.{Chain, Rests, Moves, Then, Move, Scans, Refuses, Answers as AnswersCall, Prepares, Finalizes, BeginsRollback, TellsRollback, CommitsRollback, Checkpoints, move_turn}
use Rattle.gs_path.specs.Path.{Path}
use Rattle.gs_laws_moves.specs.moves.Epochs.{Begun, ByItself, Closes, Committed, EpochGoes, EpochsGo, Finalized, IsSameEpoch, Prepared, Stays, Within, WithinStays, closes, is_alone, is_followed}
use Rattle.gs_laws_moves.proofs.lemmas.moves.Listed.{keeps_listed, over_records, within_keeps}
use Rattle.gs_laws_moves.proofs.lemmas.moves.Right.{one_fits}
use Rattle.gs_laws_moves.proofs.lemmas.moves.Upgrades.{at_end}

durable_is : {a b : Durable} → ◌≡◌ {A = Option Durable} (Some a) (Some b) → a ≡ b
durable_is k = cc

-- a record that ends no epoch, and is no checkpoint
abbrev is_usual : PlainEntry → Bool
is_usual (Edited by edit) = true
is_usual (Said to refusal) = true
is_usual (Propose chunk version) = true
is_usual (Settle v) = true
is_usual (Holder chunk server) = true
is_usual entry = false

-- what a move makes of the epochs
abbrev pub told : Durable → ℕ × Phase × List EpochEnd
told d = (d.epoch, d.phase, d.ends)

edited_same : (d e : Durable) (by : ReqId) (edit : PlainEdit) (names : Result NamesView Refusal) → after_edit d by edit names ≡ Some e → told e ≡ told d
edited_same d e by edit (Ok names) fit = ap told (sym (fits_gives (may_edit d edit) (with_edit d by edit names) e fit).1) ∙ ap told (forgets_only d (forgotten_by edit))
edited_same d e by edit (Err refusal) fit = absurd (false≢true (ap is_some fit))

record_same : (d e : Durable) (entry : PlainEntry) → is_usual entry ≡ true → applied d entry ≡ Some e → told e ≡ told d
unfolding applied
record_same d e (Edited by edit) usual fit = edited_same d e by edit (edited_names edit d.names) fit
record_same d e (Said to refusal) usual fit = ap told (sym (durable_is fit))
record_same d e (Propose q version) usual fit = ap told (sym (fits_gives (may_propose d.phase d.next_handle d.next_version q version (fin.get d.chunks q)) (proposed d q version) e fit).1)
record_same d e (Settle v) usual fit = ap told (sym (fits_gives (may_be_settled d v) (with_view d v) e fit).1)
record_same d e (Holder q server) usual fit =
    ap told (sym (fits_gives (is_upgrade d.phase && (nat_lt server 16 && is_some (prepared_view d q))) (record d { prepared = with_prepared d q (held_by server (prepared_view d q)) }) e fit).1)
record_same d e entry usual fit = absurd (false≢true usual)

records_same : (entries : List PlainEntry) (d e : Durable) → list_all is_usual entries ≡ true → replayed d entries ≡ Some e → told e ≡ told d
records_same = over_records (λ d e. told e ≡ told d) (λ d. refl) (λ d n e one more. more ∙ one) is_usual record_same

-- what forgets no chunk is one of these
kept_usual : (entries : List PlainEntry) → list_all keeps_listed entries ≡ true → list_all is_usual entries ≡ true
kept_usual [] all = refl
kept_usual (entry ∷ entries) all = (let parts = and_parts (keeps_listed entry) (list_all keeps_listed entries) all in ap (λ b. b && list_all is_usual entries) (usual entry parts.0) ∙ kept_usual entries parts.1)
  where
    usual : (x : PlainEntry) → keeps_listed x ≡ true → is_usual x ≡ true
    usual (Edited by edit) keeps = refl
    usual (Said to refusal) keeps = refl
    usual (Propose chunk version) keeps = refl
    usual (Settle v) keeps = refl
    usual (Holder chunk server) keeps = refl
    usual x keeps = absurd (false≢true keeps)

pub scan_usual : (removed : List Path) (forgotten : List ℕ) → list_all is_usual (map (Edited own_request) (map (λ path. Remove path) removed ++ forget_if forgotten)) ≡ true
scan_usual [] [] = refl
scan_usual [] (c ∷ forgotten) = refl
scan_usual (path ∷ removed) forgotten = scan_usual removed forgotten

module _ (config : Config) (heard : Heard) where
  pub by_records : (s : State) (move : Move) → IsMade config heard s move → list_all is_usual (move_turn config s move).records ≡ true → told (move_turn config s move).after.durable ≡ told s.durable
  by_records s move made usual = records_same (move_turn config s move).records s.durable (move_turn config s move).after.durable usual made.fits

  move_same : (s : State) (move : Move) → IsMade config heard s move → is_alone move ≡ false → told (move_turn config s move).after.durable ≡ told s.durable
  move_same s Checkpoints made within = refl
  move_same s move made within = by_records s move made (kept_usual (move_turn config s move).records (within_keeps config heard s move made within refl))

  -- who ends a call isn't alone
  closing_same : (s : State) (move : Move) → IsMade config heard s move → closes move ≡ true → told (move_turn config s move).after.durable ≡ told s.durable
  closing_same s (Refuses req refusal over) made is = move_same s (Refuses req refusal over) made refl
  closing_same s (AnswersCall req answer over) made is = move_same s (AnswersCall req answer over) made (apart (is_location answer) over is)
    where
      apart : (a b : Bool) → (b || not a) ≡ true → (a && not b) ≡ false
      apart true true e = refl
      apart true false e = absurd (false≢true e)
      apart false b e = refl
  closing_same s (TellsRollback req epoch) made is = move_same s (TellsRollback req epoch) made refl
  closing_same s move made is = absurd (false≢true is)

chain_same : (config : Config) (P : State → Move → Type 0) → ((s : State) (move : Move) → P s move → told (move_turn config s move).after.durable ≡ told s.durable) → (s : State) (t : Turn) → Chain config P s t → told t.after.durable ≡ told s.durable
chain_same config P same s t (Rests u said) = refl
chain_same config P same s t (Moves u move said held) = same s move held
chain_same config P same s t (Then u first next a b) = chain_same config P same first.after next b ∙ chain_same config P same s first a

pub stays_by : (d e : Durable) → told e ≡ told d → IsSameEpoch d e
stays_by d e same = (ap (λ (x : ℕ × Phase × List EpochEnd). x.0) same, ap (λ (x : ℕ × Phase × List EpochEnd). x.1) same)

pub within_stays : WithinStays
within_stays config heard s t chain =
    stays_by s.durable t.after.durable (chain_same config (λ u move. IsMade config heard u move × (is_alone move ≡ false)) (λ u move both. move_same config heard u move both.0 both.1) s t chain)

-- ---- how epochs go on

pub ordinary_is : (phase : Phase) → is_ordinary phase ≡ true → phase ≡ Ordinary
ordinary_is Ordinary h = refl
ordinary_is Upgrade h = absurd (false≢true h)
ordinary_is Rolling h = absurd (false≢true h)

pub upgrade_is : (phase : Phase) → is_upgrade phase ≡ true → phase ≡ Upgrade
upgrade_is Ordinary h = absurd (false≢true h)
upgrade_is Upgrade h = refl
upgrade_is Rolling h = absurd (false≢true h)

pub rolling_is : (phase : Phase) → is_rolling phase ≡ true → phase ≡ Rolling
rolling_is Ordinary h = absurd (false≢true h)
rolling_is Upgrade h = absurd (false≢true h)
rolling_is Rolling h = refl

-- the end of the epoch that stood is the last one that is kept
last_end : (d : Durable) (end : EpochEnd) (all : List EpochEnd) → length d.ends ≡ d.epoch → all ≡ d.ends ++ end ∷ [] → slice_get all d.epoch ≡ Some end
last_end d end all counted is = ap (λ l. slice_get l d.epoch) is ∙ ap (slice_get (d.ends ++ end ∷ [])) (sym counted) ∙ at_end d.ends end

prepared_goes : (d e : Durable) (epoch moment chunks : ℕ) → applied d (Prepare epoch moment chunks) ≡ Some e → EpochGoes d e
unfolding applied
prepared_goes d e epoch moment chunks fit =
    let gives = fits_gives (is_ordinary d.phase && (is_next_epoch d.epoch epoch && are_at_rest d)) (without_prepared (with_epoch d ends.Prepare Upgrade)) e fit in
    let is = sym gives.1 in
    Prepared (ap (λ (x : Durable). x.epoch) is) (ordinary_is d.phase (and_parts (is_ordinary d.phase) (is_next_epoch d.epoch epoch && are_at_rest d) gives.0).0) (ap (λ (x : Durable). x.phase) is) (ap (λ (x : Durable). x.inverses) is)
    (λ chunk. ap (λ (x : Durable). fin.get x.prepared chunk) is ∙ fin.get-empty nat_cmp chunk)

finalized_goes : (d e : Durable) (epoch : ℕ) → length d.ends ≡ d.epoch → applied d (Finalize epoch) ≡ Some e → EpochGoes d e
unfolding applied
finalized_goes d e epoch counted fit =
    let gives = fits_gives (is_upgrade d.phase && is_next_epoch d.epoch epoch) (without_prepared (with_epoch d ends.Finalize Ordinary)) e fit in
    let is = sym gives.1 in
    Finalized (ap (λ (x : Durable). x.epoch) is) (upgrade_is d.phase (and_parts (is_upgrade d.phase) (is_next_epoch d.epoch epoch) gives.0).0) (ap (λ (x : Durable). x.phase) is) (last_end d ends.Finalize e.ends counted (ap (λ (x : Durable). x.ends) is))

-- behind the beginning of a rollback calls end
begun_goes : (d n e : Durable) (epoch : ℕ) → length d.ends ≡ d.epoch → applied d (RollbackBegin epoch) ≡ Some n → told e ≡ told n → EpochGoes d e
unfolding applied
begun_goes d n e epoch counted fit same =
    let gives = fits_gives (is_upgrade d.phase && is_next_epoch d.epoch epoch) (with_epoch d ends.Rollback Rolling) n fit in
    let is = same ∙ ap told (sym gives.1) in
    Begun (ap (λ (x : ℕ × Phase × List EpochEnd). x.0) is) (upgrade_is d.phase (and_parts (is_upgrade d.phase) (is_next_epoch d.epoch epoch) gives.0).0) (ap (λ (x : ℕ × Phase × List EpochEnd). x.1) is)
    (last_end d ends.Rollback e.ends counted (ap (λ (x : ℕ × Phase × List EpochEnd). x.2) is))

committed_goes : (d e : Durable) (epoch : ℕ) (answers : List Answered) (names : Option NamesView) → after_undoing d epoch answers names ≡ Some e → EpochGoes d e
committed_goes d e epoch answers None fit = absurd (false≢true (ap is_some fit))
committed_goes d e epoch answers (Some names) fit =
    let here = (epoch == d.epoch) && are_answers (prepared_view d) (fin.entries names.refs) answers in
    let gives = fits_gives (is_rolling d.phase && here) (rolled_back d answers names) e fit in
    let is = sym gives.1 in
    Committed (ap (λ (x : Durable). x.epoch) is) (rolling_is d.phase (and_parts (is_rolling d.phase) here gives.0).0) (ap (λ (x : Durable). x.phase) is)

undone_goes : (d e : Durable) (epoch : ℕ) (answers : List Answered) → applied d (RollbackCommit epoch answers) ≡ Some e → EpochGoes d e
unfolding applied
undone_goes d e epoch answers fit = committed_goes d e epoch answers (all_undone d.inverses d.names) fit

module _ (config : Config) (heard : Heard) where
  followed_goes : (s : State) (move : Move) → IsMade config heard s move → is_followed move ≡ true → (e : Durable) → told e ≡ told (move_turn config s move).after.durable → EpochGoes s.durable e
  followed_goes s (Scans removed forgotten) made is e same =
      let both = stays_by s.durable e (same ∙ by_records config heard s (Scans removed forgotten) made (scan_usual removed forgotten)) in Stays both.0 both.1
  followed_goes s BeginsRollback made is e same =
      let n = (move_turn config s BeginsRollback).after.durable in begun_goes s.durable n e (s.durable.epoch + 1) made.may.ended (one_fits s.durable n (RollbackBegin (s.durable.epoch + 1)) made.fits) same
  followed_goes s move made is e same = absurd (false≢true is)

  alone_goes : (s : State) (move : Move) → IsMade config heard s move → is_alone move ≡ true → EpochGoes s.durable (move_turn config s move).after.durable
  alone_goes s (Scans removed forgotten) made is = followed_goes s (Scans removed forgotten) made refl (move_turn config s (Scans removed forgotten)).after.durable refl
  alone_goes s (Prepares req moment) made is =
      let n = (move_turn config s (Prepares req moment)).after.durable in
      prepared_goes s.durable n (s.durable.epoch + 1) moment.0 (chunk_count s) (one_fits s.durable n (Prepare (s.durable.epoch + 1) moment.0 (chunk_count s)) made.fits)
  alone_goes s (Finalizes req) made is =
      let n = (move_turn config s (Finalizes req)).after.durable in finalized_goes s.durable n (s.durable.epoch + 1) made.may.ended (one_fits s.durable n (Finalize (s.durable.epoch + 1)) made.fits)
  alone_goes s BeginsRollback made is = followed_goes s BeginsRollback made refl (move_turn config s BeginsRollback).after.durable refl
  alone_goes s (CommitsRollback req names) made is =
      let answers = answers_for (prepared_view s.durable) (told_of s) (fin.entries names.refs) in
      let n = (move_turn config s (CommitsRollback req names)).after.durable in
      undone_goes s.durable n s.durable.epoch answers (one_fits s.durable n (RollbackCommit s.durable.epoch answers) made.fits)
  alone_goes s (AnswersCall req answer true) made is = Stays refl refl
  alone_goes s (AnswersCall req answer false) made is = Stays refl refl
  alone_goes s move made is = absurd (false≢true is)

pub epochs_go : EpochsGo
epochs_go config heard s t (Within u v chain) =
    let both = stays_by s.durable t.after.durable (chain_same config (λ u move. IsMadeWell config heard u move × (is_alone move ≡ false)) (λ u move both. move_same config heard u move both.0.made both.1) s t chain) in
    Stays both.0 both.1
epochs_go config heard s t (ByItself u move said well is) = alone_goes config heard s move well.made is
epochs_go config heard s t (Closes u move said next well is chain) =
    followed_goes config heard s move well.made is next.after.durable
    (chain_same config (λ u move. IsMadeWell config heard u move × (closes move ≡ true)) (λ u move both. closing_same config heard u move both.0.made both.1) (move_turn config s move).after next chain)
