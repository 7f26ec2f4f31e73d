use Rattle.std.proofs.Common.{◌≡◌, ◌∙◌, ◌≤◌, ◌∷◌, Err, ap, arith, inl, inr, rules}
use Rattle.gs_cluster.specs.inner.Seeds.{row_of}
use Rattle.gs_cluster.proofs.Seeding.{is_new}
use Rattle.gs_cluster.proofs.opening.Opened.new.Goals as goal

pub returns-clause-new : goal.returns-clause-new
returns-clause-new g c =
    let some : 1 ≤ c.args.clients = let e = c.if-clients-eq0.false in omega arith in
    let few : c.args.clients ≤ 16 = let e = c.if-clients-gt-CLIENTS.false in omega arith in
    let h = c.in_ok-seeds.ensures.master in
    is_new g.D.Disk.seen g.D.Disk.failures c.args.config c.args.clients c.args.disks h.master h.begins c.in_ok-seeds.seeds.items (h.rows ∙ ap (λ rows. row_of h.master ∷ rows) c.in-Ok.ensures.rows) some few

pub returns-in_default-clause-refused : goal.returns-in_default-clause-refused
returns-in_default-clause-refused g c =
    let some : 1 ≤ c.args.clients = let e = c.if-clients-eq0.false in omega arith in
    let few : c.args.clients ≤ 16 = let e = c.if-clients-gt-CLIENTS.false in omega arith in
    let back = c.handed_back-in_default.ensures in
    inr (some, few, inl (back.refusal, back.disks.0, back.disks.1))

pub returns-in_err-seeds-clause-refused : goal.returns-in_err-seeds-clause-refused
returns-in_err-seeds-clause-refused g c =
    let e : c.from_residual.result ≡ Err c.in_err-seeds.field-0.0 = search rules in
    let some : 1 ≤ c.args.clients = let e = c.if-clients-eq0.false in omega arith in
    let few : c.args.clients ≤ 16 = let e = c.if-clients-gt-CLIENTS.false in omega arith in
    rw e (inr (some, few, c.in_err-seeds.ensures.refused))
