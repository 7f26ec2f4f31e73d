use Rattle.std.proofs.Common.{List, [], ◌∷◌, ◌++◌, sym, ap, ◌∙◌, subst}
use Rattle.std.proofs.lemmas.List.{nil_from_length}
use Rattle.gs_cluster_channel.specs.Settled.{Putting}
use Rattle.gs_cluster_threads.proofs.Ears.{Splitting, all_split, one_split, row_of_rest}
use Rattle.gs_cluster_threads.proofs.settling.column_of.Goals as goal

pub unreachable-requires : goal.unreachable-requires
unreachable-requires g c =
    let rows = c.args.rows.items in
    let left = c.loop-row.left.items in
    let column = c.loop-row.column.items in
    let before = subst (λ (l : List (List Putting)). Splitting rows l left column) c.in-Some.ensures.steps.0 c.loop-row.invariant in
    let ways = c.into_ways-ways.result in
    c.requires c.in-Some.row (row_of_rest rows c.next.new.self.rest.items left column c.in-Some.row before) (sym c.into_ways-ways.ensures ∙ nil_from_length ways.items (sym ways.ok.0 ∙ c.in_default.ensures.cases.0))

pub loop-row-preserved : goal.loop-row-preserved
loop-row-preserved g c =
    let rows = c.args.rows.items in
    let left = c.loop-row.left.items in
    let column = c.loop-row.column.items in
    let before = subst (λ (l : List (List Putting)). Splitting rows l left column) c.in-Some.ensures.steps.0 c.loop-row.invariant in
    one_split rows c.next.new.self.rest.items left c.push.new.self.items column c.push-in-loop-row.new.self.items c.in-Some.row c.new.result c.in-Some-pop.way before
    (sym c.into_ways-ways.ensures ∙ c.in-Some-pop.ensures.items ∙ ap (λ (l : List Putting). l ++ c.in-Some-pop.way ∷ []) (sym c.new.ensures)) c.in_ok-push.ensures.items c.in_ok-push-2.ensures.items

pub returns : goal.returns
returns g c =
    let rest = c.loop-row.row-iterator.rest in
    let nothing = nil_from_length rest.items (sym rest.ok.0 ∙ c.in-None.ensures.steps.0) in
    all_split c.args.rows.items c.loop-row.left.items c.loop-row.column.items (subst (λ (l : List (List Putting)). Splitting c.args.rows.items l c.loop-row.left.items c.loop-row.column.items) nothing c.loop-row.invariant)
