use Rattle.std.proofs.Common.{◌∙◌, ap}
use Rattle.gs_master_spec.specs.Handling.{restarted}
use Rattle.gs_master_state.specs.inner.Recorded.{durable_of}
use Rattle.gs_master.proofs.restart.rested.Goals as goal

pub returns-in_ok-restarted-in-Ok : goal.returns-in_ok-restarted-in-Ok
returns-in_ok-restarted-in-Ok g c =
    let is = c.in_ok-restarted-in-Ok.ensures in
    record {
      durable = durable_of c.in-Ok.recorded;
      replays = c.in-Ok.ensures;
      state = is.state ∙ ap (restarted (durable_of c.in-Ok.recorded)) c.in-Some.ensures.room;
      begun = is.begun;
      ready = is.ready;
      sent = is.sent;
    }
