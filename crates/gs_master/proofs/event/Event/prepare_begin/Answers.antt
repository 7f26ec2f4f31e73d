use Rattle.std.proofs.Common.{◌≡◌, ◌∙◌, ◌+◌, ◌*◌, [], ◌∷◌, ℕ, Bool, None, Some, true, false, not, ap, length, refl, rules, subst, sym}
use Rattle.std.specs.Prelude.{List, nat_le}
use Rattle.gs_base.specs.declared.refusal.Refusal.{Refusal}
use Rattle.gs_base.specs.declared.refusal.Refusal.TheVariants as refusals
use Rattle.gs_lease.specs.declared.view.Purpose.TheVariants as purposes
use Rattle.gs_master_spec.specs.Beginning.{all_begun, has_versions}
use Rattle.gs_master_state.specs.inner.Plans.{plan_of}
use Rattle.gs_master_spec.specs.State.{Plan, State, Turn, first_of, refused, turned}
use Rattle.gs_master.specs.inner.Turns.{ComesWithOthers, IsTurned, EventSteps, WhyNotTurned, state_at}
use Rattle.gs_master_spec.specs.Upgrades.{accepted_plan, all_unquiet, begin_tests, prepare_begin, unless}
use Rattle.gs_master_spec.specs.declared.change.Change.TheVariants as changes
use Rattle.gs_master.proofs.Accepting.{accepted_together}
use Rattle.gs_master.proofs.Anew.{back_at, goes_back_from, steps_from}
use Rattle.gs_master.proofs.Entered.{goes_back_on}
use Rattle.gs_master.proofs.Sparing.{all_asked, all_given_up, beginning_told, begins, prepare_by_room, ready_again, second_refused, third_steps}
use Rattle.gs_master.proofs.event.Event.prepare_begin.Goals as goal

abbrev tests : State → ℕ → List (Bool × Refusal)
tests s many = begin_tests s.durable.phase s.volatile.is_preparing s.volatile.pending (not (has_versions s.durable many))

pub refuse-requires-then-not-has_room_for_proposals : goal.refuse-requires-then-not-has_room_for_proposals
refuse-requires-then-not-has_room_for_proposals c = ready_again _ _ _ _ c.beginning-beginning.ensures c.start_over.ensures c.requires.ready

pub returns-in-Some-clause-steps : goal.returns-in-Some-clause-steps
returns-in-Some-clause-steps c =
    let s = state_at c.args.self.now in
    let found : c.in_ok-chunks.chunks.items ≡ all_unquiet s = c.in_ok-chunks.ensures ∙ ap all_unquiet c.standing.ensures in
    let counted : c.len.result ≡ length c.in_ok-chunks.chunks.items = search rules in
    let many = counted ∙ ap length found in
    let judged : Some c.in-Some.refusal ≡ first_of (tests s (length (all_unquiet s))) = sym c.in-Some.is ∙ c.in_ok-judged.ensures ∙ (λ i. first_of (tests (c.standing-2.ensures i) (many i))) in
    subst (λ judged. EventSteps (unless judged s c.args.req (begins s c.args.req)) c.args.self.now c.refuse.result c.refuse.new.self) judged c.refuse.ensures.steps

pub returns-then-not-has_room_for_proposals-clause-steps : goal.returns-then-not-has_room_for_proposals-clause-steps
returns-then-not-has_room_for_proposals-clause-steps c =
    let first = c.args.self.now in
    let mid = c.give_up_all.new.self in
    let back = c.start_over.new.self in
    let s = state_at first in
    let found : c.in_ok-chunks.chunks.items ≡ all_unquiet s = c.in_ok-chunks.ensures ∙ ap all_unquiet c.standing.ensures in
    let counted : c.len.result ≡ length c.in_ok-chunks.chunks.items = search rules in
    let again : c.len-2.result ≡ length c.in_ok-chunks.chunks.items = search rules in
    let many = counted ∙ ap length found in
    let judged : None ≡ first_of (tests s (length (all_unquiet s))) = sym c.in_default.is ∙ c.in_ok-judged.ensures ∙ (λ i. first_of (tests (c.standing-2.ensures i) (many i))) in
    let given : IsTurned (all_given_up s) first mid = c.in_ok-give_up_all.ensures.given in
    let tested : c.has_room_for_proposals.result ≡ false = search rules in
    let none : nat_le ((all_given_up s).after.log.size + length (all_unquiet s) * 22) (all_given_up s).after.log.limit ≡ false =
    sym (λ i. nat_le ((given.after i).log.size + ((again ∙ ap length found) i) * 22) (given.after i).log.limit) ∙ sym c.has_room_for_proposals.ensures ∙ tested in
    let at = back_at c.beginning-beginning.result first mid back c.beginning-beginning.ensures c.requires.begun c.give_up_all.ensures.back c.start_over.ensures in
    let full : EventSteps (refused s c.args.req refusals.Full) back c.refuse-then-not-has_room_for_proposals.result c.refuse-then-not-has_room_for_proposals.new.self = subst (λ t. EventSteps (refused t c.args.req refusals.Full) back c.refuse-then-not-has_room_for_proposals.result c.refuse-then-not-has_room_for_proposals.new.self) at.state c.refuse-then-not-has_room_for_proposals.ensures.steps in
    subst (λ (t : Turn). EventSteps t first c.refuse-then-not-has_room_for_proposals.result c.refuse-then-not-has_room_for_proposals.new.self) (sym (prepare_by_room s c.args.req judged false none))
    (steps_from first back c.requires.begun c.start_over.ensures.begun at (refused s c.args.req refusals.Full) c.refuse-then-not-has_room_for_proposals.result c.refuse-then-not-has_room_for_proposals.new.self full)

pub returns-then-not-has_room_for_proposals-clause-back : goal.returns-then-not-has_room_for_proposals-clause-back
returns-then-not-has_room_for_proposals-clause-back c =
    let at = back_at c.beginning-beginning.result c.args.self.now c.give_up_all.new.self c.start_over.new.self c.beginning-beginning.ensures c.requires.begun c.give_up_all.ensures.back c.start_over.ensures in
    goes_back_from c.args.self.now c.start_over.new.self c.requires.begun c.start_over.ensures.begun at c.refuse-then-not-has_room_for_proposals.new.self c.refuse-then-not-has_room_for_proposals.ensures.back

pub returns-in_err-begin_all-clause-steps : goal.returns-in_err-begin_all-clause-steps
returns-in_err-begin_all-clause-steps c =
    let first = c.args.self.now in
    let mid = c.give_up_all.new.self in
    let e = c.in_err-begin_all.field-0.0 in
    let s = state_at first in
    let found : c.in_ok-chunks.chunks.items ≡ all_unquiet s = c.in_ok-chunks.ensures ∙ ap all_unquiet c.standing.ensures in
    let counted : c.len.result ≡ length c.in_ok-chunks.chunks.items = search rules in
    let again : c.len-2.result ≡ length c.in_ok-chunks.chunks.items = search rules in
    let many = counted ∙ ap length found in
    let judged : None ≡ first_of (tests s (length (all_unquiet s))) = sym c.in_default.is ∙ c.in_ok-judged.ensures ∙ (λ i. first_of (tests (c.standing-2.ensures i) (many i))) in
    let given : IsTurned (all_given_up s) first mid = c.in_ok-give_up_all.ensures.given in
    let tested : c.has_room_for_proposals.result ≡ true = search rules in
    let room : nat_le ((all_given_up s).after.log.size + length (all_unquiet s) * 22) (all_given_up s).after.log.limit ≡ true =
    sym (λ i. nat_le ((given.after i).log.size + ((again ∙ ap length found) i) * 22) (given.after i).log.limit) ∙ sym c.has_room_for_proposals.ensures ∙ tested in
    let asked = subst (λ chunks. WhyNotTurned (all_begun (state_at mid) chunks purposes.Quiet None) mid e) (c.deref.ensures.value ∙ found) c.in_err-begin_all.ensures.steps in
    let why : WhyNotTurned (prepare_begin s c.args.req) first e =
    subst (λ (t : Turn). WhyNotTurned t first e) (sym (prepare_by_room s c.args.req judged true room)) (second_refused (all_given_up s) (all_asked s) (beginning_told s c.args.req) first mid e given asked) in
    search (rules, why)

pub returns-in_err-begin_all-clause-back : goal.returns-in_err-begin_all-clause-back
returns-in_err-begin_all-clause-back c = goes_back_on _ _ _ c.give_up_all.ensures.back c.begin_all.ensures.back

pub carry_out-requires-clause-together : goal.carry_out-requires-clause-together
carry_out-requires-clause-together c =
    let s = state_at c.begin_all.new.self in
    subst ComesWithOthers (sym (c.in_ok-told.ensures ∙ ap (λ s. accepted_plan s c.args.req [] (changes.Prepare true ∷ []) [] c.args.self.now.recorded.epoch) c.standing-3.ensures))
    (accepted_together s c.args.req [] (changes.Prepare true ∷ []) [] c.args.self.now.recorded.epoch refl)

pub returns-clause-steps : goal.returns-clause-steps
returns-clause-steps c =
    let first = c.args.self.now in
    let mid = c.give_up_all.new.self in
    let behind = c.begin_all.new.self in
    let s = state_at first in
    let found : c.in_ok-chunks.chunks.items ≡ all_unquiet s = c.in_ok-chunks.ensures ∙ ap all_unquiet c.standing.ensures in
    let counted : c.len.result ≡ length c.in_ok-chunks.chunks.items = search rules in
    let again : c.len-2.result ≡ length c.in_ok-chunks.chunks.items = search rules in
    let many = counted ∙ ap length found in
    let judged : None ≡ first_of (tests s (length (all_unquiet s))) = sym c.in_default.is ∙ c.in_ok-judged.ensures ∙ (λ i. first_of (tests (c.standing-2.ensures i) (many i))) in
    let given : IsTurned (all_given_up s) first mid = c.in_ok-give_up_all.ensures.given in
    let tested : c.has_room_for_proposals.result ≡ true = search rules in
    let room : nat_le ((all_given_up s).after.log.size + length (all_unquiet s) * 22) (all_given_up s).after.log.limit ≡ true =
    sym (λ i. nat_le ((given.after i).log.size + ((again ∙ ap length found) i) * 22) (given.after i).log.limit) ∙ sym c.has_room_for_proposals.ensures ∙ tested in
    let asked = subst (λ chunks. IsTurned (all_begun (state_at mid) chunks purposes.Quiet None) mid behind) (c.deref.ensures.value ∙ found) c.in_ok-begin_all.ensures.steps in
    let told : plan_of c.in_ok-told.told ≡ accepted_plan (state_at behind) c.args.req [] (changes.Prepare true ∷ []) [] s.durable.epoch =
    c.in_ok-told.ensures ∙ ap (λ t. accepted_plan t c.args.req [] (changes.Prepare true ∷ []) [] s.durable.epoch) c.standing-3.ensures in
    let done : EventSteps (beginning_told s c.args.req (state_at behind)) behind c.carry_out.result c.carry_out.new.self =
    subst (λ (p : Plan). EventSteps (turned (state_at behind) p) behind c.carry_out.result c.carry_out.new.self) told c.carry_out.ensures.steps in
    subst (λ (t : Turn). EventSteps t first c.carry_out.result c.carry_out.new.self) (sym (prepare_by_room s c.args.req judged true room))
    (third_steps (all_given_up s) (all_asked s) (beginning_told s c.args.req) first mid behind c.carry_out.new.self c.carry_out.result given asked done)

pub returns-clause-back : goal.returns-clause-back
returns-clause-back c = goes_back_on _ _ _ (goes_back_on _ _ _ c.give_up_all.ensures.back c.begin_all.ensures.back) c.carry_out.ensures.back

pub returns-in_err-told-clause-back : goal.returns-in_err-told-clause-back
returns-in_err-told-clause-back c = goes_back_on _ _ _ c.give_up_all.ensures.back c.begin_all.ensures.back
