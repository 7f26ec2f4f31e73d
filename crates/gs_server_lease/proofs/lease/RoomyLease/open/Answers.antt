use Rattle.std.proofs.Common.{◌≡◌, true, false, not, sym, ap, subst, ◌∙◌, OnOk}
use Rattle.std.specs.Prelude.{◌==◌}
use Rattle.std.specs.List.{list_all}
use Rattle.gs_lease.specs.declared.held.Grant.{Grant}
use Rattle.indexmap.specs.IndexMap.{insert_entry}
use Rattle.gs_server_lease.specs.Leases.{PrimaryLease, lacks, opens_edit}
use Rattle.gs_server_lease.proofs.Opening.{known_of_all, waiting_for_some}
use Rattle.gs_server_lease.proofs.lease.RoomyLease.open.Goals as goal

pub returns-then-reach : goal.returns-then-reach
returns-then-reach c =
    let number = c.args.number in
    let l : PrimaryLease = record { grant = c.self.inside.held; told = c.self.inside.told; outbox = c.self.inside.outbox.entries } in
    let tested : list_all (λ server. not (lacks c.hear.new.self number server)) l.grant.members ≡ true =
    ap (λ (g : Grant). list_all (λ server. not (lacks c.hear.new.self number server)) g.members) (sym c.granted.ensures) ∙ sym c.reach.ensures ∙ c.if-reach.true in
    known_of_all c.args.me number c.args.edit l c.hear.new.self c.hear.ensures tested ∙ ap (opens_edit c.args.me number c.args.edit) c.self.view_is

pub returns : goal.returns
returns c =
    let number = c.args.number in
    let l : PrimaryLease = record { grant = c.self.inside.held; told = c.self.inside.told; outbox = c.self.inside.outbox.entries } in
    let tested : list_all (λ server. not (lacks c.hear.new.self number server)) l.grant.members ≡ false =
    ap (λ (g : Grant). list_all (λ server. not (lacks c.hear.new.self number server)) g.members) (sym c.granted.ensures) ∙ sym c.reach.ensures ∙ c.if-reach.false in
    let put : c.insert.new.self.entries ≡ insert_entry (λ a b. a == b) c.self.inside.outbox.entries number c.args.edit =
    subst (λ r. OnOk r (c.insert.new.self.entries ≡ insert_entry (λ a b. a == b) c.self.inside.outbox.entries number c.args.edit)) c.unwrap.ensures c.insert.ensures.entries in
    waiting_for_some c.args.me number c.args.edit l c.hear.new.self c.insert.new.self.entries c.hear.ensures tested put ∙ ap (opens_edit c.args.me number c.args.edit) c.self.view_is
