-- Which move that is alone begins an epoch by a prepare, and which commits a rollback.
use Rattle.std.proofs.Common.{◌≡◌, ◌∙◌, ◌==◌, ◌&&◌, ◌+◌, ℕ, true, false, List, refl, ap, sym}
use Rattle.std.specs.Prelude.{is_some, Option, Some, None}
use Rattle.std.specs.FinMap as fin
use Rattle.std.proofs.lemmas.Bool.{false≢true, true≢false, and_parts}
use Rattle.gs_base.specs.declared.config.Config.{Config}
use Rattle.gs_base.specs.declared.epoch.EpochEnd.TheVariants as ends
use Rattle.gs_edit.specs.View.{NamesView}
use Rattle.gs_master_record.specs.Plain.{Finalize, Prepare, RollbackBegin, RollbackCommit}
use Rattle.gs_master_record.specs.declared.checkpoint.Phase.{Phase}
use Rattle.gs_master_record.specs.declared.checkpoint.Phase.TheVariants.{Ordinary, Upgrade, Rolling}
use Rattle.gs_master_record.specs.declared.entry.Answered.{Answered}
use Rattle.gs_laws_master.proofs.lemmas.upgrades.Beginnings.{fits_gives}
use Rattle.gs_master_spec.specs.Applied.{after_undoing, applied, are_answers, are_at_rest, is_next_epoch, rolled_back, with_epoch, without_prepared}
use Rattle.gs_master_spec.specs.Durable.{Durable, is_ordinary, is_rolling, is_upgrade, prepared_view}
use Rattle.gs_master_spec.specs.State.{State}
use Rattle.gs_master_spec.specs.Undoing.{all_undone}
use Rattle.gs_master_spec.specs.Upgrades.{answers_for, chunk_count, told_of}
use Rattle.gs_laws_moves.specs.moves.Epochs.{is_alone, is_followed, prepares, rolls_back}
use Rattle.gs_laws_moves.specs.moves.Guards.{Heard, IsMade, MayPrepare}
use Rattle.gs_laws_moves.specs.moves.Moved.{is_commit}
use Rattle.gs_laws_moves.specs.moves.Moves.{Answers as AnswersCall, Move, Scans, Prepares, Finalizes, BeginsRollback, CommitsRollback, move_turn}
use Rattle.gs_laws_moves.proofs.lemmas.moves.Epochs.{by_records, ordinary_is, rolling_is, scan_usual, stays_by, upgrade_is}
use Rattle.gs_laws_moves.proofs.lemmas.moves.Right.{one_fits}

-- ---- phases

pub same_prepares_none : (d e : Durable) → e.phase ≡ d.phase → prepares d e ≡ false
same_prepares_none d e same = ap (λ p. is_ordinary d.phase && is_upgrade p) same ∙ apart d.phase
  where
    apart : (p : Phase) → (is_ordinary p && is_upgrade p) ≡ false
    apart Ordinary = refl
    apart Upgrade = refl
    apart Rolling = refl

pub same_commits_none : (d e : Durable) → e.phase ≡ d.phase → rolls_back d e ≡ false
same_commits_none d e same = ap (λ p. is_rolling d.phase && is_ordinary p) same ∙ apart d.phase
  where
    apart : (p : Phase) → (is_rolling p && is_ordinary p) ≡ false
    apart Ordinary = refl
    apart Upgrade = refl
    apart Rolling = refl

upgrade_prepares_none : (d e : Durable) → d.phase ≡ Upgrade → prepares d e ≡ false
upgrade_prepares_none d e is = ap (λ p. is_ordinary p && is_upgrade e.phase) is

upgrade_commits_none : (d e : Durable) → d.phase ≡ Upgrade → rolls_back d e ≡ false
upgrade_commits_none d e is = ap (λ p. is_rolling p && is_ordinary e.phase) is

-- ---- records

prepared_from : (d e : Durable) (epoch moment many : ℕ) → applied d (Prepare epoch moment many) ≡ Some e → d.phase ≡ Ordinary
unfolding applied
prepared_from d e epoch moment many fit =
    let gives = fits_gives (is_ordinary d.phase && (is_next_epoch d.epoch epoch && are_at_rest d)) (without_prepared (with_epoch d ends.Prepare Upgrade)) e fit in
    ordinary_is d.phase (and_parts (is_ordinary d.phase) (is_next_epoch d.epoch epoch && are_at_rest d) gives.0).0

finalized_from : (d e : Durable) (epoch : ℕ) → applied d (Finalize epoch) ≡ Some e → d.phase ≡ Upgrade
unfolding applied
finalized_from d e epoch fit =
    let gives = fits_gives (is_upgrade d.phase && is_next_epoch d.epoch epoch) (without_prepared (with_epoch d ends.Finalize Ordinary)) e fit in
    upgrade_is d.phase (and_parts (is_upgrade d.phase) (is_next_epoch d.epoch epoch) gives.0).0

begun_from : (d e : Durable) (epoch : ℕ) → applied d (RollbackBegin epoch) ≡ Some e → d.phase ≡ Upgrade
unfolding applied
begun_from d e epoch fit =
    let gives = fits_gives (is_upgrade d.phase && is_next_epoch d.epoch epoch) (with_epoch d ends.Rollback Rolling) e fit in
    upgrade_is d.phase (and_parts (is_upgrade d.phase) (is_next_epoch d.epoch epoch) gives.0).0

undoing_commits : (d e : Durable) (epoch : ℕ) (answers : List Answered) (names : Option NamesView) → after_undoing d epoch answers names ≡ Some e → rolls_back d e ≡ true
undoing_commits d e epoch answers None fit = absurd (false≢true (ap is_some fit))
undoing_commits d e epoch answers (Some names) fit =
    let here = (epoch == d.epoch) && are_answers (prepared_view d) (fin.entries names.refs) answers in
    let gives = fits_gives (is_rolling d.phase && here) (rolled_back d answers names) e fit in
    let rolls = (and_parts (is_rolling d.phase) here gives.0).0 in
    ap (λ b. b && is_ordinary e.phase) rolls ∙ ap (λ (x : Durable). is_ordinary x.phase) (sym gives.1)

committed_from : (d e : Durable) (epoch : ℕ) (answers : List Answered) → applied d (RollbackCommit epoch answers) ≡ Some e → rolls_back d e ≡ true
unfolding applied
committed_from d e epoch answers fit = undoing_commits d e epoch answers (all_undone d.inverses d.names) fit

-- ---- moves

module _ (config : Config) (heard : Heard) (s : State) where
  abbrev behind : Move → Durable
  behind move = (move_turn config s move).after.durable

  -- one behind which calls end prepares nothing
  pub followed_none : (move : Move) → IsMade config heard s move → is_followed move ≡ true → prepares s.durable (behind move) ≡ false
  followed_none (Scans removed forgotten) made is =
      same_prepares_none s.durable (behind (Scans removed forgotten)) (stays_by s.durable (behind (Scans removed forgotten)) (by_records config heard s (Scans removed forgotten) made (scan_usual removed forgotten))).1
  followed_none BeginsRollback made is =
      let n = behind BeginsRollback in upgrade_prepares_none s.durable n (begun_from s.durable n (s.durable.epoch + 1) (one_fits s.durable n (RollbackBegin (s.durable.epoch + 1)) made.fits))
  followed_none move made is = absurd (false≢true is)

  -- where one prepares it may
  pub prepares_by : (move : Move) → IsMade config heard s move → is_alone move ≡ true → prepares s.durable (behind move) ≡ true → MayPrepare s
  prepares_by (Scans removed forgotten) made is here = absurd (true≢false (sym here ∙ followed_none (Scans removed forgotten) made refl))
  prepares_by (Prepares req moment) made is here = made.may
  prepares_by (Finalizes req) made is here =
      let n = behind (Finalizes req) in
      absurd (true≢false (sym here ∙ upgrade_prepares_none s.durable n (finalized_from s.durable n (s.durable.epoch + 1) (one_fits s.durable n (Finalize (s.durable.epoch + 1)) made.fits))))
  prepares_by BeginsRollback made is here = absurd (true≢false (sym here ∙ followed_none BeginsRollback made refl))
  prepares_by (CommitsRollback req names) made is here =
      absurd (true≢false (sym here ∙ ap (λ p. is_ordinary p && is_upgrade (behind (CommitsRollback req names)).phase) (rolling_is s.durable.phase made.may.rolling)))
  prepares_by (AnswersCall req answer true) made is here = absurd (true≢false (sym here ∙ same_prepares_none s.durable (behind (AnswersCall req answer true)) refl))
  prepares_by (AnswersCall req answer false) made is here = absurd (true≢false (sym here ∙ same_prepares_none s.durable (behind (AnswersCall req answer false)) refl))
  prepares_by move made is here = absurd (false≢true is)

  -- only a commit commits
  pub commits_by : (move : Move) → IsMade config heard s move → is_alone move ≡ true → rolls_back s.durable (behind move) ≡ is_commit move
  commits_by (Scans removed forgotten) made is =
      same_commits_none s.durable (behind (Scans removed forgotten)) (stays_by s.durable (behind (Scans removed forgotten)) (by_records config heard s (Scans removed forgotten) made (scan_usual removed forgotten))).1
  commits_by (Prepares req moment) made is =
      let n = behind (Prepares req moment) in
      ap (λ p. is_rolling p && is_ordinary n.phase) (prepared_from s.durable n (s.durable.epoch + 1) moment.0 (chunk_count s) (one_fits s.durable n (Prepare (s.durable.epoch + 1) moment.0 (chunk_count s)) made.fits))
  commits_by (Finalizes req) made is =
      let n = behind (Finalizes req) in upgrade_commits_none s.durable n (finalized_from s.durable n (s.durable.epoch + 1) (one_fits s.durable n (Finalize (s.durable.epoch + 1)) made.fits))
  commits_by BeginsRollback made is =
      let n = behind BeginsRollback in upgrade_commits_none s.durable n (begun_from s.durable n (s.durable.epoch + 1) (one_fits s.durable n (RollbackBegin (s.durable.epoch + 1)) made.fits))
  commits_by (CommitsRollback req names) made is =
      let answers = answers_for (prepared_view s.durable) (told_of s) (fin.entries names.refs) in
      let n = behind (CommitsRollback req names) in
      committed_from s.durable n s.durable.epoch answers (one_fits s.durable n (RollbackCommit s.durable.epoch answers) made.fits)
  commits_by (AnswersCall req answer true) made is = same_commits_none s.durable (behind (AnswersCall req answer true)) refl
  commits_by (AnswersCall req answer false) made is = same_commits_none s.durable (behind (AnswersCall req answer false)) refl
  commits_by move made is = absurd (false≢true is)
