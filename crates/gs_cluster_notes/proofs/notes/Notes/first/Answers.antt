use Rattle.std.proofs.Common.{List, ◌++◌, ap, map, subst, sym, true≢false, ◌∙◌}
use Rattle.std.specs.Prelude.{IsTrue}
use Rattle.gs_msg.specs.Posts.{Posted, posted}
use Rattle.gs_msg.specs.declared.outbox.Post.{Post}
use Rattle.gs_cluster_notes.proofs.Noting.{posts_listed}
use Rattle.gs_cluster_notes.proofs.notes.Notes.first.Goals as goal
use Rattle.gs_cluster_notes.proofs.notes.Notes.first.Goals.{else-are_wanted, then-are_wanted}

pub returns : goal.returns
returns c = λ whole. (
  c.new.ensures.items,
  elim c.if-are_wanted.branch [
    | then-are_wanted w ↦
        (ap (λ (o : Posted). o.posts) w.outbox-is ∙ w.post_all-is_whole.ensures (subst IsTrue w.is_whole-is whole) ∙ ap (λ (l : List Post). l ++ map (posted (record { 0 = 0 })) c.args.sent.now) c.new-outbox.ensures
        ∙ sym (posts_listed 0 (record { 0 = 0 }) c.args.sent.now))
    | else-are_wanted w ↦ absurd (true≢false (sym (subst IsTrue (w.is_whole-is ∙ w.if-are_wanted.false) whole)))
  ],
)
