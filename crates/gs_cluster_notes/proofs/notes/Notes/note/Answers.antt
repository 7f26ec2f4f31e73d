use Rattle.std.proofs.Common.{◌≡◌, Option, subst}
use Rattle.std.specs.Prelude.{IfSome}
use Rattle.gs_cluster_notes.specs.declared.notes.Dated.{Dated}
use Rattle.gs_cluster_notes.specs.Notes.{dated_of}
use Rattle.gs_cluster_notes.proofs.Noting.{noted}
use Rattle.gs_cluster_notes.proofs.notes.Notes.note.Goals as goal

pub returns-then-add : goal.returns-then-add
returns-then-add c = λ e entries before is out keeps.
    noted c.in-Some.dated c.args.sent.now c.add.result c.args.self.now c.add.new.self e entries before c.add.ensures c.if-add.true
    (subst (λ (o : Option Dated). IfSome o (λ d. d ≡ dated_of e)) c.in-Some.is is) out keeps
