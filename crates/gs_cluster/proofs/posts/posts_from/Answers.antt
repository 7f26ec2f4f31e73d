use Rattle.std.proofs.Common.{sym, ◌∙◌}
use Rattle.gs_cluster.proofs.Senders.{posts_are}
use Rattle.gs_cluster.proofs.posts.posts_from.Goals as goal

pub returns : goal.returns
returns c = λ s same many none.
    let store = c.in_ok-store.store in
    let masters = c.in_ok-masters.masters in
    posts_are c.args.outboxes.items store.items masters.items c.in_ok-masters.servers.items c.in_ok-store.clients.items c.pop.new.self.items c.in-Some.master c.of.result s c.args.servers
    c.in_ok-store.ensures.all (sym store.ok.0 ∙ c.in_ok-store.ensures.many) c.in_ok-masters.ensures.all (sym masters.ok.0 ∙ c.in_ok-masters.ensures.many) c.in-Some.ensures.items c.of.ensures same many none
