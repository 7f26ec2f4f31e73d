use Rattle.std.proofs.Common.{inr, refl, sym, ◌∙◌}
use Rattle.gs_master_record.specs.Plain.{plain_checkpoint}
use Rattle.gs_base_table.specs.Slots.{live}
use Rattle.gs_master_state.specs.inner.Recorded.{durable_of}
use Rattle.gs_master_spec.specs.Replies.{client_cmp}
use Rattle.gs_master_state.proofs.Opened.{no_names, read_all, read_none, unsettled, unsound}
use Rattle.gs_master_state.proofs.recorded.Recorded.told.Goals as goal

pub returns-then-not-are_sound : goal.returns-then-not-are_sound
returns-then-not-are_sound c = inr (refl, unsound (plain_checkpoint c.args.checkpoint.now) (live client_cmp c.args.replies) (sym c.are_sound.ensures ∙ c.if-not-are_sound.true))

pub returns-in-Err : goal.returns-in-Err
returns-in-Err c = no_names (plain_checkpoint c.args.checkpoint.now) (live client_cmp c.args.replies) c.in-Err.refusal c.in-Err.ensures

pub returns-then-not-are_settled : goal.returns-then-not-are_settled
returns-then-not-are_settled c = inr (refl, unsettled (plain_checkpoint c.args.checkpoint.now) (live client_cmp c.args.replies) (sym c.are_settled.ensures ∙ c.if-not-are_settled.true))

pub returns-then-not-branch : goal.returns-then-not-branch
returns-then-not-branch c = inr (
  refl,
  read_none (plain_checkpoint c.args.checkpoint.now) (live client_cmp c.args.replies) (durable_of c.in_ok-recorded.recorded) c.in-Ok.ensures.0 (sym c.are_settled.ensures ∙ c.if-not-are_settled.false)
      (sym c.are_sound.ensures ∙ c.if-not-are_sound.false) c.in_ok-recorded.ensures (sym c.in_ok-can_go_back.ensures ∙ c.if-not-branch.true),
)

pub returns : goal.returns
returns c =
    read_all (plain_checkpoint c.args.checkpoint.now) (live client_cmp c.args.replies) (durable_of c.in_ok-recorded.recorded) c.in-Ok.ensures.0 (sym c.are_settled.ensures ∙ c.if-not-are_settled.false)
    (sym c.are_sound.ensures ∙ c.if-not-are_sound.false) c.in_ok-recorded.ensures (sym c.in_ok-can_go_back.ensures ∙ c.if-not-branch.false)
