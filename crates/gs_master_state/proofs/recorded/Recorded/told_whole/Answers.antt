use Rattle.std.proofs.Common.{inr, map, refl, ap, sym, ◌∙◌}
use Rattle.std.specs.Prelude.{option_map}
use Rattle.gs_master_record.specs.Plain.{plain_checkpoint, plain_reply}
use Rattle.gs_base_table.specs.Slots.{live}
use Rattle.gs_master_spec.specs.Replies.{client_cmp}
use Rattle.gs_master_state.specs.inner.ToldNumbers.{told_table}
use Rattle.gs_master_state.proofs.ToldWhole.{nothing_read, whole_read}
use Rattle.gs_master_state.proofs.recorded.Recorded.told_whole.Goals as goal

pub returns-in-Some : goal.returns-in-Some
returns-in-Some c =
    let told = ap (option_map (live client_cmp)) (sym c.in-Some.is) ∙ c.in_ok-replies.ensures ∙ ap (λ l. told_table (map plain_reply l)) c.deref.ensures.value in
    whole_read (plain_checkpoint c.args.checkpoint.now) (live client_cmp c.in-Some.replies) c.told.result told c.told.ensures

pub returns-in-None : goal.returns-in-None
returns-in-None c =
    let told = ap (option_map (live client_cmp)) (sym c.in-None.is) ∙ c.in_ok-replies.ensures ∙ ap (λ l. told_table (map plain_reply l)) c.deref.ensures.value in
    inr (refl, nothing_read (plain_checkpoint c.args.checkpoint.now) told)
