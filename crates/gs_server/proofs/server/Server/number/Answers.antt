use Rattle.std.proofs.Common.{◌≡◌, ℕ, Some, None, refl, sym, ap, subst, ◌∙◌}
use Rattle.std.specs.Prelude.{Ok}
use Rattle.std.specs.FinMap as fin
use Rattle.std.specs.Ordering.{nat_cmp}
use Rattle.gs_base_table.specs.Slots.{live}
use Rattle.gs_replica.specs.declared.op.EditOutcome.{EditOutcome}
use Rattle.gs_store.specs.Serving.{length_in}
use Rattle.gs_store.specs.Stores.{slot_of}
use Rattle.gs_server_lease.specs.Numbering.{outcome_at}
use Rattle.gs_server.specs.declared.applying.Numbered.{Numbered}
use Rattle.gs_server_lease.specs.declared.lease.Open.{Open}
use Rattle.gs_server.specs.Servers.{Server, ServerSteps, store_of, with_leases, with_store}
use Rattle.gs_server_lease.specs.Leases.{PrimaryLease, opens_edit}
use Rattle.gs_server.specs.inner.Numbering.{told_of, numbered_by}
use Rattle.gs_server.proofs.Made.{inside}
use Rattle.gs_server.proofs.Numbered.{numbered_ok, numbered_err}
use Rattle.gs_server.proofs.Putting.{put_back, put_other}
use Rattle.gs_server.specs.contracts.server.Server.{the_view}
use Rattle.gs_server.proofs.server.Server.number.Goals as goal

pub returns-in-Ok : goal.returns-in-Ok
returns-in-Ok c =
    let v : Server = the_view c.self.inside in
    let edit : Numbered = c.args.edit in
    let stored : ℕ = length_in (slot_of c.args.handle (store_of v)).live in
    let open_of : EditOutcome → Open = λ outcome. record { req = edit.req; op = edit.op; bytes = c.in-Ok.bytes; outcome = outcome } in
    let outcome : c.outcome_at-outcome.result ≡ outcome_at stored edit.op =
    c.outcome_at-outcome.ensures ∙ ap (λ many. outcome_at many edit.op) (subst (λ (s : Server). c.stored.result ≡ length_in (slot_of c.args.handle (store_of s)).live) (sym c.self.view_is) c.stored.ensures) in
    subst (λ (old : Server). (l : PrimaryLease) → fin.get old.dropped.leases c.args.handle ≡ Some l → ServerSteps (numbered_by c.args.handle l edit old) (Ok (record { sent = c.in_ok-sent.sent; said = None })) old
    (the_view (record { alloc = c.self.inside.alloc; id = c.self.inside.id; store = c.apply_buffered.new.store; leases = c.put.new.self; refused = c.self.inside.refused }))) c.self.view_is
    (λ l held.
    let is : c.in_ok-lease.lease ≡ l = inside c.in_ok-lease.lease l (sym c.in_ok-lease.ensures.value ∙ held) in
    let opened : c.open.result ≡ opens_edit v.me edit.number (open_of (outcome_at stored edit.op)) l =
    c.open.ensures ∙ ap (λ o. opens_edit v.me edit.number (open_of o) c.in_ok-lease.lease) outcome ∙ ap (opens_edit v.me edit.number (open_of (outcome_at stored edit.op))) is in
    numbered_ok c.args.handle l edit c.in-Ok.bytes c.in-Ok.bytes v c.apply_buffered.new.store _ (record { sent = c.in_ok-sent.sent; said = None }) c.in-Ok.ensures.bytes c.in-Ok.ensures.edit
    (ap (λ leases. with_leases leases (with_store c.apply_buffered.new.store v))
    (put_other v.dropped.leases (live nat_cmp c.take_roomy.new.leases) (live nat_cmp c.put.new.self) c.args.handle c.open.result c.in_ok-lease.ensures.taken c.put.ensures.put ∙ ap (fin.insert v.dropped.leases c.args.handle) opened))
    (subst (λ (s : Server). (l : PrimaryLease) → fin.get s.dropped.leases c.args.handle ≡ Some l → c.in_ok-sent.sent.items ≡ told_of s.me c.args.handle l edit.number (open_of c.outcome_at-outcome.result)) (sym c.self.view_is) c.in_ok-sent.ensures l held
    ∙ ap (λ o. told_of v.me c.args.handle l edit.number (open_of o)) outcome) refl)

pub returns-in-Err : goal.returns-in-Err
returns-in-Err c =
    let v : Server = the_view c.self.inside in
    subst (λ (old : Server). (l : PrimaryLease) → fin.get old.dropped.leases c.args.handle ≡ Some l → ServerSteps (numbered_by c.args.handle l c.args.edit old) c.refuse_edit.result old c.refuse_edit.new.self) c.self.view_is
    (λ l held. numbered_err _ c.args.handle l c.args.edit c.in-Err.refusal v c.apply_buffered.new.store _ c.refuse_edit.new.self c.refuse_edit.result c.in-Err.ensures.edit
    (ap (λ leases. with_leases leases (with_store c.apply_buffered.new.store v)) (put_back v.dropped.leases (live nat_cmp c.take_roomy.new.leases) (live nat_cmp c.put-in-Err.new.self) c.args.handle c.in_ok-lease.lease c.in_ok-lease.ensures.value c.in_ok-lease.ensures.taken
    (c.put-in-Err.ensures.put ∙ ap (fin.insert (live nat_cmp c.take_roomy.new.leases) c.args.handle) c.into_lease.ensures)))
    c.refuse_edit.ensures.step c.refuse_edit.ensures.lacking c.refuse_edit.ensures.unchanged)
