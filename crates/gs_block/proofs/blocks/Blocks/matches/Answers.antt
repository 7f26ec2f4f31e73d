use Rattle.std.proofs.Common.{List, ℕ, ap, ◌∙◌}
use Rattle.gs_block.specs.Stored.{Stored, are_digests}
use Rattle.gs_block.proofs.Matching.{digests_iff}
use Rattle.gs_block.proofs.blocks.Blocks.matches.Goals as goal

pub returns-clause-digests : goal.returns-clause-digests
returns-clause-digests c = digests_iff c.are_digests.result c.args.self.now.block c.args.self.now.bytes c.args.digests.now
    (c.are_digests.ensures.test ∙ ap (λ (bytes : List ℕ). are_digests c.self.inside.block bytes c.args.digests.now) c.deref.ensures.value
    ∙ ap (λ (s : Stored). are_digests s.block s.bytes c.args.digests.now) c.self.view_is)
