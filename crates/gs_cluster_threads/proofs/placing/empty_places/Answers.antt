use Rattle.std.proofs.Common.{◌≡◌, ℕ, ◌++◌, [], ◌∷◌, None, ap, ◌∙◌, arith}
use Rattle.std.specs.Prelude.{replicate}
use Rattle.std.proofs.lemmas.List.{replicate_more}
use Rattle.gs_cluster_threads.proofs.placing.empty_places.Goals as goal

pub loop-preserved : goal.loop-preserved
loop-preserved g c = c.in_ok-push.ensures.items ∙ ap (λ l. l ++ None ∷ []) c.loop.invariant ∙ replicate_more c.loop.counter None

pub returns : goal.returns
returns g c =
    let past = c.loop-test.false in
    let within = c.loop.auto.counter-end in
    let same : c.loop.counter ≡ c.args.many = omega arith in
    c.loop.invariant ∙ ap (λ (n : ℕ). replicate n None) same
