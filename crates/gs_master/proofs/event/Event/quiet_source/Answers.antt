use Rattle.std.proofs.Common.{◌≡◌, ◌+◌, ◌*◌, Some, true, false, ap, length, rules, subst, sym}
use Rattle.std.specs.List.{list_any}
use Rattle.std.specs.Prelude.{nat_le}
use Rattle.gs_lease.specs.declared.view.Purpose.TheVariants as purposes
use Rattle.gs_master_spec.specs.Beginning.{all_begun, has_versions}
use Rattle.gs_master_spec.specs.State.{Plan, Turn, and_then, turned}
use Rattle.gs_master.specs.inner.Turns.{EventSteps, state_at}
use Rattle.gs_master_spec.specs.Working.{is_wanted_at}
use Rattle.gs_master_spec.specs.declared.pending.Waiting.TheVariants as waits
use Rattle.gs_master.proofs.Composing.{steps_and}
use Rattle.gs_master.proofs.Copies.{begins_quiet, by_room}
use Rattle.gs_master.proofs.Entered.{goes_back_on}
use Rattle.gs_master.proofs.event.Event.quiet_source.Goals as goal

pub returns-then-not-has_room_for_proposals-clause-steps : goal.returns-then-not-has_room_for_proposals-clause-steps
returns-then-not-has_room_for_proposals-clause-steps c =
    let s = state_at c.args.self.now in
    let chunks = c.args.chunks.now in
    let same = ap (λ t. list_any (is_wanted_at t) chunks) c.standing.ensures in
    let free : list_any (is_wanted_at s) chunks ≡ false = search (rules, same) in
    let left : has_versions s.durable (length chunks) ≡ true = search rules in
    let room : nat_le (s.log.size + length chunks * 22) s.log.limit ≡ false = search rules in
    subst (λ (t : Turn). EventSteps t c.args.self.now c.refuse-then-not-has_room_for_proposals.result c.refuse-then-not-has_room_for_proposals.new.self) (sym (by_room s c.args.req c.args.from c.args.to chunks c.requires.some false free left room)) c.refuse-then-not-has_room_for_proposals.ensures.steps

pub returns-clause-steps : goal.returns-clause-steps
returns-clause-steps c =
    let s = state_at c.args.self.now in
    let chunks = c.args.chunks.now in
    let same = ap (λ t. list_any (is_wanted_at t) chunks) c.standing.ensures in
    let free : list_any (is_wanted_at s) chunks ≡ false = search (rules, same) in
    let left : has_versions s.durable (length chunks) ≡ true = search rules in
    let room : nat_le (s.log.size + length chunks * 22) s.log.limit ≡ true = search rules in
    let begun : EventSteps (begins_quiet s c.args.req c.args.from c.args.to chunks) c.args.self.now c.begin_all.result c.begin_all.new.self =
    subst (λ (p : Plan). EventSteps (and_then (turned s p) (λ next. all_begun next chunks purposes.Quiet (Some c.args.req))) c.args.self.now c.begin_all.result c.begin_all.new.self) c.in_ok-plan.ensures
    (steps_and _ (λ next. all_begun next chunks purposes.Quiet (Some c.args.req)) c.args.self.now c.carry_out.new.self _ _ c.in_ok-carry_out.ensures.steps c.begin_all.ensures.steps) in
    subst (λ (t : Turn). EventSteps t c.args.self.now c.begin_all.result c.begin_all.new.self) (sym (by_room s c.args.req c.args.from c.args.to chunks c.requires.some true free left room)) begun

pub returns-clause-back : goal.returns-clause-back
returns-clause-back c = goes_back_on _ _ _ c.carry_out.ensures.back c.begin_all.ensures.back
