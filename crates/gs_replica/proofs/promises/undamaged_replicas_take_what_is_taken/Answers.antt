use Rattle.std.proofs.Common.{sym, subst, ◌++◌, ◌∷◌, []}
use Rattle.gs_replica.specs.Stands.{IsTaken}
use Rattle.gs_replica.proofs.Own.{own}
use Rattle.gs_replica.proofs.Listing.{seal_ok}
use Rattle.gs_replica.proofs.Taking.{takes_next, stays_undamaged}
use Rattle.gs_replica.proofs.promises.undamaged_replicas_take_what_is_taken.Goals as goal

pub returns-clause-takes : goal.returns-clause-takes
returns-clause-takes c block chunk r edits e stands none all = takes_next r _ edits e (own block chunk r.held edits stands) none (subst (λ n. IsTaken n (edits ++ e ∷ [])) (sym stands.chunk) all)

pub returns-clause-stays : goal.returns-clause-stays
returns-clause-stays c block chunk r r2 edits stamp number req op bytes stands none e =
    let w = stands.bytes in
    stays_undamaged stamp number req op bytes r.held r2.held w.stored none (seal_ok _ _ r2 e).0
