use Rattle.std.proofs.Common.{ap, subst, sym, ◌∙◌}
use Rattle.std.specs.Prelude.{map}
use Rattle.gs_master_record.specs.Plain.{plain_inverse}
use Rattle.gs_base_table.specs.Slots.{live}
use Rattle.gs_master_state.specs.inner.Recorded.{durable_of}
use Rattle.gs_master_spec.specs.Replies.{client_cmp}
use Rattle.gs_master_state.specs.inner.TakingBack.{AreItemsBefore, with_reply_before}
use Rattle.gs_master_state.proofs.Before.{edit_back}
use Rattle.gs_master_state.proofs.recorded.Recorded.take_edit_back.Goals as goal

pub returns-clause-value : goal.returns-clause-value
returns-clause-value c = λ before is.
    edit_back c.args.edit before (durable_of c.args.self.now) (durable_of c.put_chunks_back.new.self) c.put_names_back.new.names.names (live client_cmp c.put_reply_back.new.replies) (map plain_inverse c.put_inverses_back.new.inverses.items) is
    c.put_chunks_back.ensures.value (c.put_names_back.ensures.names before.names is.names)
    (c.put_reply_back.ensures.put ∙ ap (λ slots. with_reply_before c.args.edit.reply (live client_cmp slots)) c.put_chunks_back.ensures.replies)
    (c.put_inverses_back.ensures before.inverses (subst (λ v. AreItemsBefore c.args.edit.keeps_inverse before.inverses (map plain_inverse v.items)) (sym c.put_chunks_back.ensures.inverses) is.inverses))
