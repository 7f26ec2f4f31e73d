use Rattle.std.proofs.Common.{◌≡◌, ◌+◌, ◌*◌, true, false, length, rules, subst, sym}
use Rattle.std.specs.Prelude.{nat_le}
use Rattle.gs_master_spec.specs.Beginning.{has_versions}
use Rattle.gs_master.specs.inner.Turns.{IsTurned, EventSteps, state_at}
use Rattle.gs_master.proofs.Composing.{unmoved_stays}
use Rattle.gs_master.proofs.Proposals.{quiet_with_room, quiet_without_room}
use Rattle.gs_master.proofs.event.Event.make_quiet.Goals as goal

pub returns-then-not-has_room_for_proposals-clause-steps : goal.returns-then-not-has_room_for_proposals-clause-steps
returns-then-not-has_room_for_proposals-clause-steps c =
    let s = state_at c.args.self.now in
    let many = c.args.many.now in
    let room : nat_le (s.log.size + length many * 22) s.log.limit ≡ false = search rules in
    subst (λ t. IsTurned t c.args.self.now c.args.self.now) (sym (quiet_without_room s many room)) (unmoved_stays c.args.self.now)

pub returns-clause-steps : goal.returns-clause-steps
returns-clause-steps c =
    let s = state_at c.args.self.now in
    let many = c.args.many.now in
    let left : has_versions s.durable (length many) ≡ true = search rules in
    let room : nat_le (s.log.size + length many * 22) s.log.limit ≡ true = search rules in
    subst (λ t. EventSteps t c.args.self.now c.begin_all.result c.begin_all.new.self) (sym (quiet_with_room s many left room)) c.begin_all.ensures.steps
