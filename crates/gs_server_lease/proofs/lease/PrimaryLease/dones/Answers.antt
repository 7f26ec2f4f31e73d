use Rattle.std.proofs.Common.{◌≡◌, ◌++◌, ◌∷◌, [], sym, ap, ◌∙◌, List}
use Rattle.std.specs.Prelude.{ℕ}
use Rattle.gs_msg.specs.declared.message.Message.{Message}
use Rattle.gs_server_lease.specs.declared.lease.Open.{Open}
use Rattle.gs_server_lease.specs.Leases.{done_of, is_acknowledged, with_told}
use Rattle.gs_server_lease.proofs.Lists.{put, put_one, put_none}
use Rattle.gs_server_lease.proofs.lease.PrimaryLease.dones.Goals as goal

pub loop-number-preserved-in-Continue-1 : goal.loop-number-preserved-in-Continue-1
loop-number-preserved-in-Continue-1 c =
    let rest : List (ℕ × Open) = c.next.new.self in
    let p : (ℕ × Open) → _ = λ edit. is_acknowledged (with_told c.args.told c.args.self.now) edit.0 in
    let sends : c.push.new.self.items ≡ c.loop-number.sent.items ++ done_of c.args.me (c.in-Some.number.now, c.in-Some.edit.now) ∷ [] =
    c.in_ok-push.ensures.items ∙ ap (λ (m : Message). c.loop-number.sent.items ++ m ∷ []) (c.done_of.ensures c.in-Some.number.now) in
    ap (λ (xs : List Message). put p (done_of c.args.me) xs rest) sends
    ∙ put_one p (done_of c.args.me) c.loop-number.sent.items (c.in-Some.number.now, c.in-Some.edit.now) rest (sym c.is_acknowledged.ensures ∙ c.if-is_acknowledged.true)
    ∙ ap (put p (done_of c.args.me) c.loop-number.sent.items) (sym c.in-Some.ensures.steps)
    ∙ c.loop-number.invariant

pub loop-number-preserved : goal.loop-number-preserved
loop-number-preserved c =
    let rest : List (ℕ × Open) = c.next.new.self in
    let p : (ℕ × Open) → _ = λ edit. is_acknowledged (with_told c.args.told c.args.self.now) edit.0 in
    put_none p (done_of c.args.me) c.loop-number.sent.items (c.in-Some.number.now, c.in-Some.edit.now) rest (sym c.is_acknowledged.ensures ∙ c.if-is_acknowledged.false)
    ∙ ap (put p (done_of c.args.me) c.loop-number.sent.items) (sym c.in-Some.ensures.steps)
    ∙ c.loop-number.invariant
