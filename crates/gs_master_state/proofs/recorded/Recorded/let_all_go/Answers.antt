use Rattle.std.proofs.Common.{◌∙◌}
use Rattle.gs_master_state.proofs.Releasing.{released_with}
use Rattle.gs_master_state.proofs.recorded.Recorded.let_all_go.Goals as goal

pub loop-undo-preserved : goal.loop-undo-preserved
loop-undo-preserved c =
    let inv = c.loop-undo.invariant in
    record {
      value = c.let_go.ensures.value ∙ inv.value;
      leases = c.let_go.ensures.leases ∙ inv.leases;
      room = λ slots same given.
          inv.room slots (same ∙ c.let_go.ensures.leases) (released_with c.loop-undo.self.leases c.let_go.new.self.leases slots c.pop.new.self.items c.loop-undo.undos.items c.in-Some.undo c.in-Some.ensures.items same c.let_go.ensures.room given);
    }
