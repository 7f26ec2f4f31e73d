use Rattle.std.proofs.Common.{◌≡◌, ◌∷◌, List, None, Result, Ok, Err, ap, inr, refl, subst, sym}
use Rattle.std.specs.Prelude.{IfErr, IsErrAnd}
use Rattle.gs_cluster.specs.inner.Seeds.{rows_of}
use Rattle.gs_cluster_core.specs.declared.role.Role.{Role}
use Rattle.gs_cluster_core.specs.declared.role.Role.TheVariants.{Master}
use Rattle.gs_cluster_threads.specs.declared.wiring.Seed.{Seed}
use Rattle.gs_nodes.specs.declared.place.MasterPlace.TheVariants.{Standing}
use Rattle.gs_cluster.proofs.opening.with_master.Goals as goal

pub returns-clause-master : goal.returns-clause-master
returns-clause-master g c =
    let place = Standing c.in_ok-master.field-0.master in
    let sent = c.in_ok-master.field-0.sent in
    let first : Seed (Role g.row.D.Denot) = record { line = c.args.line; core = Master place; turn = record { sent = sent; said = None } } in
    let is : c.insert.new.self.items ≡ first ∷ c.args.behind.items = c.in-Ok.ensures.items in
    record {
      master = first;
      begins = record {
        place = place;
        turn = record { sent = sent; said = None };
        row = ap (λ me. (me, (Master place, sent.items))) c.requires.line;
        opens = (c.in_ok-master.field-0.master, refl, c.in_ok-master.ensures.opened, refl);
      };
      rows = ap (λ (seeds : List (Seed (Role g.row.D.Denot))). rows_of seeds) is;
    }

if_err : {T E : Type 0} (r : Result T E) (x : E) (P : E → Type 0) → IsErrAnd r (λ e. e ≡ x) → P x → IfErr r P
if_err (Ok t) x P h p = tt
if_err (Err e) x P h p = subst P (sym h) p

pub returns-in_err-master-clause-refused : goal.returns-in_err-master-clause-refused
returns-in_err-master-clause-refused g c = if_err c.from_residual.result c.in_err-master.field-0.0 _ c.from_residual.ensures.1 (inr c.in_err-master.ensures.refused)
