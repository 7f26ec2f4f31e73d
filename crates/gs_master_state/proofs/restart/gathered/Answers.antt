use Rattle.std.proofs.Common.{ap, ◌∙◌, map}
use Rattle.std.specs.Ordering.{nat_cmp}
use Rattle.gs_master_record.specs.Plain.{plain_checkpoint, plain_inverse}
use Rattle.gs_base_table.specs.Slots.{live}
use Rattle.gs_master_state.specs.inner.Held.{HeldView}
use Rattle.gs_master_state.specs.Checkpoints.{told_prepared}
use Rattle.gs_master_state.specs.inner.Recorded.{chunks_of}
use Rattle.gs_master_spec.specs.Replies.{client_cmp}
use Rattle.gs_master_state.proofs.Opened.{made_is}
use Rattle.gs_master_state.proofs.restart.gathered.Goals as goal

pub returns : goal.returns
returns c =
    made_is (plain_checkpoint c.args.checkpoint.now) (live client_cmp c.args.replies) c.new.result.names (chunks_of (live nat_cmp c.args.leases)) c.in_ok-ends.ends.items (map plain_inverse c.in_ok-inverses.inverses.items) (live nat_cmp c.in_ok-prepared.prepared)
    (record {
      the_names = ap (λ (v : HeldView). v.names) c.new.ensures ∙ c.requires.names;
      the_chunks = c.requires.leases;
      the_ends = c.in_ok-ends.ensures.items ∙ c.deref.ensures.value;
      the_inverses = c.in_ok-inverses.ensures ∙ ap (map plain_inverse) c.deref-2.ensures.value;
      the_prepared = c.in_ok-prepared.ensures ∙ ap told_prepared c.deref-3.ensures.value;
    })
