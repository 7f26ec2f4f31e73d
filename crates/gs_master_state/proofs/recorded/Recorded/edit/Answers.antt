use Rattle.std.proofs.Common.{rules, inr, refl}
use Rattle.gs_master_record.specs.Plain.{plain_edit}
use Rattle.gs_master_state.specs.inner.Recorded.{durable_of}
use Rattle.gs_master_state.proofs.Edits.{edit_refused, edited_gives, may_not, names_after}
use Rattle.gs_master_state.proofs.recorded.Recorded.edit.Goals as goal

pub returns-then-not-branch : goal.returns-then-not-branch
returns-then-not-branch c = (inr (may_not (durable_of c.args.self.now) c.args.by (plain_edit c.args.edit.now) (search rules), refl), refl)

pub returns-in-Err : goal.returns-in-Err
returns-in-Err c = edit_refused (durable_of c.args.self.now) c.args.by c.args.edit.now c.in-Err.refusal c.unfit.result c.apply.new.self.names c.unfit.ensures c.in-Err.ensures.edit

pub returns : goal.returns
returns c =
    edited_gives (durable_of c.args.self.now) (durable_of c.forget_chunks.new.self) (durable_of c.keep_answer.new.self) (durable_of c.keep_inverse.new.self)
    c.args.by c.args.edit.now c.apply.new.self.names c.next_behind-next_hidden.result c.in_ok-answer.answer c.args.inverse
    (search rules) (names_after c.args.edit.now c.args.self.now.names.names c.apply.new.self.names c.in-Ok.ensures.edit)
    c.next_behind-next_hidden.ensures (search rules) c.requires.back (search rules) c.keep_answer.ensures.value c.keep_inverse.ensures
