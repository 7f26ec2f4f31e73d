use Rattle.std.proofs.Common.{◌≡◌, ◌++◌, ◌∷◌, []}
use Rattle.std.proofs.lemmas.Result.{err_from_is_err_and}
use Rattle.gs_store_image.proofs.Kept.{keeps_none_of}
use Rattle.gs_store_image.proofs.store.keep_each.Goals as goal

pub returns-in_err-keep : goal.returns-in_err-keep
returns-in_err-keep c =
    let p = err_from_is_err_and c.from_residual.result c.from_residual.ensures.1 in
    let taken : c.loop-handle.left.items ≡ c.pop.new.self.items ++ (c.in-Some.handle, c.in-Some.slot) ∷ [] = cc (c.in-Some.ensures.items) in
    rw (p.1, p.2) (keeps_none_of c.args.slots.items c.args.store.now c.loop-handle.left.items c.pop.new.self.items c.in-Some.handle c.in-Some.slot c.loop-handle.store c.keep.new.store c.in_err-keep.field-0.0 taken c.requires.rising c.loop-handle.invariant _ _ c.in_err-keep.ensures.judged (cc) (cc))
