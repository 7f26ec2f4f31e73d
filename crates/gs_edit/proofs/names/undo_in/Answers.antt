use Rattle.std.proofs.Common.{inl, inr, sym, subst}
use Rattle.gs_tree.specs.Inverses.{LeavesChunks}
use Rattle.gs_edit.proofs.Applied.{undo_kept}
use Rattle.gs_edit.proofs.names.undo_in.Goals as goal

pub returns-in-Made-clause-undo : goal.returns-in-Made-clause-undo
returns-in-Made-clause-undo c =
    let leaves : LeavesChunks c.args.inverse.now = elim c.in-Made.is [
      | inl made ↦ subst LeavesChunks (sym made.2) tt
      | inr moved ↦ subst LeavesChunks (sym moved.2) tt
    ] in undo_kept c.args.inverse.now leaves c.undo.result c.args.tree.now c.undo.new.self c.args.refs.now c.undo.ensures.undo
