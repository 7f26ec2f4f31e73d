use Rattle.std.proofs.Common.{◌≡◌, ◌<◌, ◌+◌, ◌^◌, sym, ap, subst, ◌∙◌, rules}
use Rattle.gs_store.specs.Slots.{count_of}
use Rattle.gs_base.specs.declared.refusal.Refusal.{Refusal}
use Rattle.gs_server.specs.Servers.{ServerSteps}
use Rattle.gs_server.specs.inner.Answering.{kept_by}
use Rattle.gs_server.specs.Places.{count_or_none}
use Rattle.gs_server.proofs.Counted.{numbered_next, exhausted}
use Rattle.gs_server.proofs.server.Server.number_next.Goals as goal

pub returns-in_default : goal.returns-in_default
returns-in_default c = λ moment bytes live l ready.
    let count : c.count.result ≡ live.replica.held.count = c.count.ensures ∙ ap (λ o. count_or_none (count_of o)) ready.lives in
    let fits : c.count.result < 2 ^ 64 = search (rules, c.count.type_inv) in
    exhausted c.args.handle l c.args.edit.req c.args.edit.op bytes live moment c.args.self.now c.refuse_edit.new.self c.refuse_edit.result ready.there ready.lives c.check_promise.ensures ready.promised ready.above
    (subst (λ n. n < 2 ^ 64) count fits) (λ less. c.in_default.ensures (subst (λ n. n + 1 < 2 ^ 64) (sym count) less))
    (subst (λ (refusal : Refusal). ServerSteps (kept_by c.args.handle c.args.edit.req refusal c.args.self.now) c.refuse_edit.result c.args.self.now c.refuse_edit.new.self) c.refusal_at_last-refusal.ensures c.refuse_edit.ensures.step)

pub returns : goal.returns
returns c = λ moment bytes live l ready.
    let count : c.count.result ≡ live.replica.held.count = c.count.ensures ∙ ap (λ o. count_or_none (count_of o)) ready.lives in
    let next : c.in-Some.number ≡ c.count.result + 1 = c.in-Some.ensures.1 in
    numbered_next c.args.handle l c.args.edit.stamp c.in-Some.number c.args.edit.req c.args.edit.op bytes live moment c.args.self.now c.number.new.self c.number.result ready.there ready.lives ready.asked
    (next ∙ ap (λ n. n + 1) count) (subst (λ n. n < 2 ^ 64) (sym next) c.in-Some.ensures.0) (c.number.ensures l ready.leased)
