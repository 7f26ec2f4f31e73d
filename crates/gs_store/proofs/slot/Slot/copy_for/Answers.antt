use Rattle.std.proofs.Common.{◌≡◌, false, inl, ap, sym, ◌∙◌}
use Rattle.gs_base.specs.Stamps.{is_before}
use Rattle.gs_base.specs.declared.numbers.Stamp.{Stamp}
use Rattle.gs_store.specs.Slots.{Slot}
use Rattle.gs_store.proofs.Copied.{answered, never_lacks, never_old, unsound_for, unsound_copy, refused_for, refused_copy, found_for, found_copy, makes_err, makes_ok}
use Rattle.gs_store.proofs.slot.Slot.copy_for.Goals as goal

late : (t u : Slot) (stamp : Stamp) → t ≡ u → false ≡ is_before t.promise stamp → is_before u.promise stamp ≡ false
late t u stamp are is = ap (λ (v : Slot). is_before v.promise stamp) (sym are) ∙ sym is

pub returns-in-Err-clause-made : goal.returns-in-Err-clause-made
returns-in-Err-clause-made c =
    makes_err _ _ (unsound_for c.args.at c.args.stamp c.args.self.now c.args.target.now c.in_ok-replica.replica.now (answered _ _ c.in_ok-replica.replica c.in_ok-replica.ensures) c.in-Err.refusal (c.in-Err.ensures c.args.stamp))

pub returns-in-Err-clause-prepares : goal.returns-in-Err-clause-prepares
returns-in-Err-clause-prepares c =
    inl (unsound_copy c.args.at c.args.stamp c.args.self.now c.args.target.now c.in_ok-replica.replica.now (answered _ _ c.in_ok-replica.replica c.in_ok-replica.ensures) c.in-Err.refusal (c.in-Err.ensures c.args.stamp))

pub returns-in-Err-clause-lacking : goal.returns-in-Err-clause-lacking
returns-in-Err-clause-lacking c = λ lacks. absurd (never_lacks c.args.stamp c.in_ok-replica.replica.now.held c.in-Err.refusal (c.in-Err.ensures c.args.stamp) lacks)

pub returns-in-Err-find_again-clause-made : goal.returns-in-Err-find_again-clause-made
returns-in-Err-find_again-clause-made c =
    makes_err _ _ (refused_for c.args.at c.args.stamp c.args.self.now c.args.target.now c.in_ok-replica.replica.now (answered _ _ c.in_ok-replica.replica c.in_ok-replica.ensures)
    (c.in_default.ensures c.args.stamp) (late _ _ c.args.stamp c.target.view_is c.if-is_before.ensures) c.in-Err-find_again.refusal c.in-Err-find_again.ensures)

pub returns-in-Err-find_again-clause-prepares : goal.returns-in-Err-find_again-clause-prepares
returns-in-Err-find_again-clause-prepares c =
    inl (refused_copy c.args.at c.args.stamp c.args.self.now c.args.target.now c.in_ok-replica.replica.now (answered _ _ c.in_ok-replica.replica c.in_ok-replica.ensures)
    (c.in_default.ensures c.args.stamp) (late _ _ c.args.stamp c.target.view_is c.if-is_before.ensures) c.in-Err-find_again.refusal c.in-Err-find_again.ensures)

pub returns-in-Err-find_again-clause-lacking : goal.returns-in-Err-find_again-clause-lacking
returns-in-Err-find_again-clause-lacking c = λ lacks. absurd (never_old c.args.stamp c.args.target.now c.in-Err-find_again.refusal c.in-Err-find_again.ensures lacks)

pub returns-clause-made : goal.returns-clause-made
returns-clause-made c =
    makes_ok _ _ (found_for c.args.at c.args.stamp c.args.self.now c.args.target.now c.in_ok-replica.replica.now (answered _ _ c.in_ok-replica.replica c.in_ok-replica.ensures)
    (c.in_default.ensures c.args.stamp) (late _ _ c.args.stamp c.target.view_is c.if-is_before.ensures) c.in_default-find_again.ensures)

pub returns-clause-prepares : goal.returns-clause-prepares
returns-clause-prepares c =
    found_copy c.args.at c.args.stamp c.args.self.now c.args.target.now c.in_ok-replica.replica.now (answered _ _ c.in_ok-replica.replica c.in_ok-replica.ensures)
    (c.in_default.ensures c.args.stamp) (late _ _ c.args.stamp c.target.view_is c.if-is_before.ensures) c.in_default-find_again.ensures
