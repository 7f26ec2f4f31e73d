use Rattle.std.proofs.Common.{◌∙◌, ℕ, sym}
use Rattle.std.specs.Prelude.{Result, Ok, Err}
use Rattle.gs_base.specs.declared.refusal.Refusal.{Refusal}
use Rattle.gs_store.specs.Slots.{Slot, check_grant, count_of}
use Rattle.gs_server.specs.Places.{count_or_none}
use Rattle.gs_server.specs.Servers.{place_of}
use Rattle.gs_server.proofs.Forwarded.{Agrees, found_so, forward_refused, forward_next}
use Rattle.gs_server.proofs.server.Server.forward.Goals as goal

pub returns-in-Err : goal.returns-in-Err
returns-in-Err c =
    let r : Result ℕ Refusal = Err c.in-Err.refusal in
    let agrees : Slot → Type 0 = λ s. Agrees (check_grant c.args.edit.stamp s) (count_or_none (count_of s.live)) r in
    let refused : agrees (place_of c.args.handle c.args.self.now).slot =
    found_so c.args.edit.stamp (place_of c.args.handle c.args.self.now).slot c.promise_and_count-applied.result.0 c.promise_and_count-applied.result.1 r c.promise_and_count-applied.ensures.promise c.promise_and_count-applied.ensures.count (sym c.count_under.ensures ∙ c.in-Err.is) in
    forward_refused c.args.handle c.args.from c.args.edit.stamp c.args.edit.req c.args.moment c.args.self.now (check_grant c.args.edit.stamp (place_of c.args.handle c.args.self.now).slot) c.in-Err.refusal _ c.decline.result c.decline.new.self refused c.decline.ensures.step

pub returns : goal.returns
returns c =
    let r : Result ℕ Refusal = Ok c.in-Ok.count in
    let agrees : Slot → Type 0 = λ s. Agrees (check_grant c.args.edit.stamp s) (count_or_none (count_of s.live)) r in
    let found : agrees (place_of c.args.handle c.args.self.now).slot =
    found_so c.args.edit.stamp (place_of c.args.handle c.args.self.now).slot c.promise_and_count-applied.result.0 c.promise_and_count-applied.result.1 r c.promise_and_count-applied.ensures.promise c.promise_and_count-applied.ensures.count (sym c.count_under.ensures ∙ c.in-Ok.is) in
    forward_next c.args.handle c.args.from c.args.edit.stamp c.args.edit.number c.args.edit.req c.args.edit.op c.args.carried c.args.moment c.args.self.now c.in-Ok.count c.take_next.result c.take_next.new.self
    found.0 found.1 c.if-edit-count.false c.if-count-edit.false c.take_next.ensures
