use Rattle.std.proofs.Common.{arith, ◌≡◌, ap, sym, ◌∙◌, subst, refl, false}
use Rattle.std.specs.Prelude.{Some}
use Rattle.std.specs.Option.{IsSome}
use Rattle.std.proofs.lemmas.Grind.{common_steps}
use Rattle.gs_path.specs.Path.{Path}
use Rattle.gs_tree.specs.Find.{at}
use Rattle.gs_tree.specs.Edits.{is_file, chunks_in, with_chunks}
use Rattle.gs_tree.proofs.Rows.{goes_to, at-path, at_child, rest_of}
use Rattle.gs_tree.proofs.Splice.{at-updated, updates, child_at}
use Rattle.gs_tree.proofs.Chunks.{chunks_below}
use Rattle.gs_tree.proofs.Reaching.{node_spliced}
use Rattle.gs_tree.proofs.node.Node.+exchange.Goals as goal

-- no child, and yet a file
pub returns-in_default-get_mut-clause-had : goal.returns-in_default-get_mut-clause-had
returns-in_default-get_mut-clause-had t c =
    let g = goes_to c.self.view_is c.self.invariant.level c.in-Dir.is c.in-len1-up.len_at_least c.first-item.is in
    let none : is_file (at c.args.self.now c.args.path.now) ≡ false = ap is_file (at-path g ∙ ap (λ v. at_child v (rest_of c.args.path.now)) (sym c.in_default-get_mut.ensures.value)) in
    absurd (let file = c.requires in cc)

pub returns-in_default-get_mut-clause-has : goal.returns-in_default-get_mut-clause-has
returns-in_default-get_mut-clause-has t c q =
    let g = goes_to c.self.view_is c.self.invariant.level c.in-Dir.is c.in-len1-up.len_at_least c.first-item.is in
    let none : is_file (at c.args.self.now c.args.path.now) ≡ false = ap is_file (at-path g ∙ ap (λ v. at_child v (rest_of c.args.path.now)) (sym c.in_default-get_mut.ensures.value)) in
    absurd (let file = c.requires in cc)

pub exchange-had-requires : goal.exchange-had-requires
exchange-had-requires t c =
    let g = goes_to c.self.view_is c.self.invariant.level c.in-Dir.is c.in-len1-up.len_at_least c.first-item.is in
    (grind (arith, common_steps), sym (ap is_file (at-path g ∙ ap (λ v. at_child v (rest_of c.args.path.now)) (sym c.in-Some.ensures.value))) ∙ c.requires)

pub returns-clause-had : goal.returns-clause-had
returns-clause-had t c =
    let g = goes_to c.self.view_is c.self.invariant.level c.in-Dir.is c.in-len1-up.len_at_least c.first-item.is in
    c.exchange-had.ensures.had ∙ ap chunks_in (sym (at-path g ∙ ap (λ v. at_child v (rest_of c.args.path.now)) (sym c.in-Some.ensures.value)))

pub returns-clause-has : goal.returns-clause-has
returns-clause-has t c q =
    let g = goes_to c.self.view_is c.self.invariant.level c.in-Dir.is c.in-len1-up.len_at_least c.first-item.is in
    let written = c.get_mut.follows.holds c.exchange-had.new.self in
    let u = updates (c.get_mut.follows.lender c.exchange-had.new.self) (Some c.exchange-had.new.self) g written.4 (written.3 (subst IsSome c.in-Some.ensures.value refl)).0 in
    at-updated u q
    ∙ chunks_below c.first-item.result (rest_of c.args.path.now) c.args.chunks.items c.in-Some.child.now c.exchange-had.new.self (at c.args.self.now) (child_at g c.in-Some.child.now c.in-Some.ensures.value) c.exchange-had.ensures.has q
    ∙ ap (λ (p : Path). with_chunks p c.args.chunks.items (at c.args.self.now) q) (sym g.parts)

pub invariant_of-self-2 : goal.invariant_of-self-2
invariant_of-self-2 t c =
    let g = goes_to c.self.view_is c.self.invariant.level c.in-Dir.is c.in-len1-up.len_at_least c.first-item.is in
    let written = c.get_mut.follows.holds c.exchange-had.new.self in
    let u = updates (c.get_mut.follows.lender c.exchange-had.new.self) (Some c.exchange-had.new.self) g written.4 (written.3 (subst IsSome c.in-Some.ensures.value refl)).0 in
    node_spliced c.self.inside.kind c.self.inside.reach c.saturating_add-reach.result c.reach.result c.max-self-inside.result u c.self.view_is c.self.invariant c.in-Dir.is c.reach.ensures.bound c.reach.ensures.stands c.saturating_add-reach.ensures c.max-self-inside.ensures
