use Rattle.std.proofs.Common.{◌==◌, ◌∙◌, ap, inr, refl, rules, sym}
use Rattle.std.specs.Prelude.{Some}
use Rattle.std.specs.FinMap as fin
use Rattle.gs_master_spec.specs.Applied.{are_answers, without_prepared}
use Rattle.gs_master_spec.specs.Durable.{is_rolling, prepared_view}
use Rattle.gs_master_state.specs.inner.Recorded.{durable_of}
use Rattle.gs_master_state.proofs.Recording.{commit_refused, commit_too_soon, no_rollback, not_answered, rollback_gives, rolls}
use Rattle.gs_master_state.proofs.recorded.Recorded.enter_commit.Goals as goal

pub returns-then-not-may_commit-clause-applied : goal.returns-then-not-may_commit-clause-applied
returns-then-not-may_commit-clause-applied c = (inr (commit_too_soon (durable_of c.args.self.now) c.args.epoch c.args.answered.now (search rules), refl), refl)

pub returns-in-Err-clause-applied : goal.returns-in-Err-clause-applied
returns-in-Err-clause-applied c = (commit_refused (durable_of c.args.self.now) c.args.epoch c.args.answered.now c.in-Err.refusal c.in-Err.ensures, refl)

pub returns-then-not-are_answers-clause-applied : goal.returns-then-not-are_answers-clause-applied
returns-then-not-are_answers-clause-applied c =
    let d = durable_of c.args.self.now in
    let listed = fin.entries c.in-Ok.names.refs in (
      inr (
        no_rollback d c.args.epoch c.args.answered.now c.in-Ok.names listed refl c.in-Ok.ensures
            (not_answered (is_rolling d.phase) (c.args.epoch == d.epoch) (are_answers (prepared_view d) listed c.args.answered.now) (search rules)),
        refl,
      ),
      refl,
    )

pub returns-clause-applied : goal.returns-clause-applied
returns-clause-applied c =
    let d = durable_of c.args.self.now in
    rollback_gives d (without_prepared d) c.args.epoch c.args.answered.now c.in-Ok.names (fin.entries c.in-Ok.names.refs) _
    (search rules) (search rules) (search rules) refl c.in-Ok.ensures refl c.in_ok-leases.ensures
    ∙ ap Some (sym c.exchange_all.ensures.value)

pub returns-clause-back : goal.returns-clause-back
returns-clause-back c = c.exchange_all.ensures.back (rolls c.args.self.now.phase (search rules))
