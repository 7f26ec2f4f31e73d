use Rattle.std.proofs.Common.{◌≡◌, Some, subst}
use Rattle.std.specs.FinMap as fin
use Rattle.gs_server_lease.specs.Leases.{PrimaryLease}
use Rattle.gs_server.specs.Servers.{Server}
use Rattle.gs_server.specs.inner.Numbering.{told_of}
use Rattle.gs_server.proofs.Numbered.{told_in_turn}
use Rattle.gs_server.specs.contracts.server.Server.{the_view}
use Rattle.gs_server.proofs.server.Server.numbering_told.Goals as goal

pub returns : goal.returns
returns c =
    let v : Server = the_view c.self.inside in
    subst (λ (s : Server). (l : PrimaryLease) → fin.get s.dropped.leases c.args.handle ≡ Some l → c.done_at_once.new.sent.items ≡ told_of s.me c.args.handle l c.args.number c.args.edit.now) c.self.view_is
    (λ l held. told_in_turn v.me c.args.handle c.args.number c.args.edit.now (fin.get v.dropped.leases c.args.handle) c.in-Some.lease.now l c.new-sent.result.items c.forwards.new.sent.items c.done_at_once.new.sent.items
    c.new-sent.ensures.items c.in-Some.ensures.value held c.in_ok-forwards.ensures c.in_ok-done_at_once.ensures)
