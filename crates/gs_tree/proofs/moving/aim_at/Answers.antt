use Rattle.std.proofs.Common.{◌≡◌, ◌-◌, ◌++◌, ◌∷◌, [], ap, sym, ◌∙◌, subst, refl, inl, inr, true, false, cond, rules, length, append-nil, arith}
use Rattle.std.specs.Prelude.{Ok, Err, Some, is_some}
use Rattle.gs_base.specs.declared.refusal.Refusal.TheVariants.{BadPath, Exists}
use Rattle.gs_path.specs.Path.{Path, begins}
use Rattle.gs_tree.specs.Entry.{Dir}
use Rattle.gs_tree.specs.inner.Sort.{sort_of}
use Rattle.gs_tree.specs.Plain.{with_at}
use Rattle.gs_tree.specs.Find.{at, IsDepthTest}
use Rattle.gs_tree.specs.Edits.{moved, move_to, parent, target_of}
use Rattle.gs_tree.specs.inner.Steps.{IsElsewhere, IsKnown, IsTarget}
use Rattle.gs_tree.proofs.Rows.{empty_path}
use Rattle.gs_tree.proofs.Laws.{elsewhere, with_at-append}
use Rattle.gs_tree.proofs.Moves.{known_of, depth_of, deep_false, deep_true, parent-append, none_is, stands_is}
use Rattle.gs_tree.proofs.moving.aim_at.Goals as goal

pub returns-in_err-test_target-clause-edit : goal.returns-in_err-test_target-clause-edit
returns-in_err-test_target-clause-edit c deep test =
    let from = c.args.from.now in
    let root = at c.args.root.now in
    let m = with_at from (at c.args.node.now) root in
    let target = c.in_ok-target.target in
    let is : target ≡ target_of m from c.args.to.now = c.in_ok-target.ensures m c.requires.found in
    let others : IsElsewhere from m root = λ q r apart. sym (elsewhere root (at c.args.node.now) m from q r (λ p. refl) apart) in
    let known : IsKnown m target c.args.found = subst (λ (t : Path). IsKnown m t c.args.found) (sym is) (known_of m from c.args.to.now c.args.found c.requires.root c.requires.found) in
    let e : c.from_residual-in_err-test_target.result ≡ Err c.in_err-test_target.field-0.0 = search rules in
    rw e (inr (subst (λ (t : Path). move_to deep m from t ≡ Err c.in_err-test_target.field-0.0) is (c.in_err-test_target.ensures m others known deep (moved from target m))))

pub returns-in_default-clause-edit : goal.returns-in_default-clause-edit
returns-in_default-clause-edit c deep test =
    let from = c.args.from.now in
    let root = at c.args.root.now in
    let m = with_at from (at c.args.node.now) root in
    let target = c.in_ok-target.target in
    let is : target ≡ target_of m from c.args.to.now = c.in_ok-target.ensures m c.requires.found in
    let others : IsElsewhere from m root = λ q r apart. sym (elsewhere root (at c.args.node.now) m from q r (λ p. refl) apart) in
    let known : IsKnown m target c.args.found = subst (λ (t : Path). IsKnown m t c.args.found) (sym is) (known_of m from c.args.to.now c.args.found c.requires.root c.requires.found) in
    let aimed : IsTarget m from target = c.in_ok-test_target.ensures m others known in
    let root_is : target ≡ [] = sym c.elements.ensures ∙ empty_path c.elements.result.now (let z = c.in_default.ensures.cases in omega arith) in
    let stands : m target ≡ Some Dir = ap m (root_is ∙ sym (ap parent root_is)) ∙ aimed.dir in
    inr (subst (λ (t : Path). move_to deep m from t ≡ Err Exists) is (aimed.answer deep (moved from target m) ∙ ap (λ v. cond (is_some v) (Err Exists) (cond deep (Err BadPath) (Ok (moved from target m)))) stands))

pub returns-in-Missing-clause-edit : goal.returns-in-Missing-clause-edit
returns-in-Missing-clause-edit c deep test =
    let from = c.args.from.now in
    let root = at c.args.root.now in
    let m = with_at from (at c.args.node.now) root in
    let target = c.in_ok-target.target in
    let is : target ≡ target_of m from c.args.to.now = c.in_ok-target.ensures m c.requires.found in
    let others : IsElsewhere from m root = λ q r apart. sym (elsewhere root (at c.args.node.now) m from q r (λ p. refl) apart) in
    let known : IsKnown m target c.args.found = subst (λ (t : Path). IsKnown m t c.args.found) (sym is) (known_of m from c.args.to.now c.args.found c.requires.root c.requires.found) in
    let aimed : IsTarget m from target = c.in_ok-test_target.ensures m others known in
    let tested = subst (λ (t : Path). IsDepthTest deep m from t) (sym is) test in
    let depth = depth_of c.is_below.result c.saturating_sub.result (length target) m (at c.args.node.now) from (c.saturating_sub.ensures ∙ ap (λ (p : Path). 65 - length p) c.elements-2.ensures) (λ q. with_at-append from (at c.args.node.now) root q) c.is_below.ensures in
    let seen : root c.elements-then-not-is_below.result.now ≡ m target = ap root c.elements-then-not-is_below.ensures ∙ others target [] (ap (begins from) (append-nil target) ∙ aimed.apart) in
    let sort = c.sort_at.ensures.sort ∙ ap sort_of seen in
    let none = none_is (m target) (sym c.in-Missing.is ∙ sort) in
    let out : c.is_below.result ≡ false = search rules in
    let lost = deep_true deep m from target tested (rw out at depth) in
    inr (subst (λ (t : Path). move_to deep m from t ≡ Err BadPath) is (
    aimed.answer deep (moved from target m) ∙ ap (λ v. cond (is_some v) (Err Exists) (cond deep (Err BadPath) (Ok (moved from target m)))) none
    ∙ ap (λ b. cond b (Err BadPath) (Ok (moved from target m))) lost))

pub returns-in-Dir-clause-edit : goal.returns-in-Dir-clause-edit
returns-in-Dir-clause-edit c deep test =
    let from = c.args.from.now in
    let root = at c.args.root.now in
    let m = with_at from (at c.args.node.now) root in
    let target = c.in_ok-target.target in
    let is : target ≡ target_of m from c.args.to.now = c.in_ok-target.ensures m c.requires.found in
    let others : IsElsewhere from m root = λ q r apart. sym (elsewhere root (at c.args.node.now) m from q r (λ p. refl) apart) in
    let known : IsKnown m target c.args.found = subst (λ (t : Path). IsKnown m t c.args.found) (sym is) (known_of m from c.args.to.now c.args.found c.requires.root c.requires.found) in
    let aimed : IsTarget m from target = c.in_ok-test_target.ensures m others known in
    let seen : root c.elements-then-not-is_below.result.now ≡ m target = ap root c.elements-then-not-is_below.ensures ∙ others target [] (ap (begins from) (append-nil target) ∙ aimed.apart) in
    let sort = c.sort_at.ensures.sort ∙ ap sort_of seen in
    let taken = stands_is (m target) (λ e. let k = sort ∙ sym e in elim c.in-Dir.is [ inl d ↦ cc (d, k) | inr f ↦ cc (f, k) ]) in
    inr (subst (λ (t : Path). move_to deep m from t ≡ Err Exists) is (aimed.answer deep (moved from target m) ∙ ap (λ b. cond b (Err Exists) (cond deep (Err BadPath) (Ok (moved from target m)))) taken))

pub returns-clause-aim : goal.returns-clause-aim
returns-clause-aim c =
    let from = c.args.from.now in
    let root = at c.args.root.now in
    let m = with_at from (at c.args.node.now) root in
    let target = c.in_ok-target.target in
    let is : target ≡ target_of m from c.args.to.now = c.in_ok-target.ensures m c.requires.found in
    let others : IsElsewhere from m root = λ q r apart. sym (elsewhere root (at c.args.node.now) m from q r (λ p. refl) apart) in
    let known : IsKnown m target c.args.found = subst (λ (t : Path). IsKnown m t c.args.found) (sym is) (known_of m from c.args.to.now c.args.found c.requires.root c.requires.found) in
    let aimed : IsTarget m from target = c.in_ok-test_target.ensures m others known in
    let split = sym c.elements.ensures ∙ c.in-Some.ensures.cases.0 in
    let up : parent target ≡ c.in-Some.field-0-1.now = ap parent split ∙ parent-append c.in-Some.field-0-1.now c.in-Some.name.now in record {
      same = c.in_ok-source.ensures;
      ends = split ∙ ap (λ p. p ++ c.in-Some.name.now ∷ []) (sym up) ∙ ap (λ n. parent target ++ n ∷ []) (sym c.in_ok-name.ensures);
      apart = aimed.apart;
      dir = aimed.dir;
    }

pub returns-clause-edit : goal.returns-clause-edit
returns-clause-edit c deep test =
    let from = c.args.from.now in
    let root = at c.args.root.now in
    let m = with_at from (at c.args.node.now) root in
    let target = c.in_ok-target.target in
    let is : target ≡ target_of m from c.args.to.now = c.in_ok-target.ensures m c.requires.found in
    let others : IsElsewhere from m root = λ q r apart. sym (elsewhere root (at c.args.node.now) m from q r (λ p. refl) apart) in
    let known : IsKnown m target c.args.found = subst (λ (t : Path). IsKnown m t c.args.found) (sym is) (known_of m from c.args.to.now c.args.found c.requires.root c.requires.found) in
    let aimed : IsTarget m from target = c.in_ok-test_target.ensures m others known in
    let tested = subst (λ (t : Path). IsDepthTest deep m from t) (sym is) test in
    let depth = depth_of c.is_below.result c.saturating_sub.result (length target) m (at c.args.node.now) from (c.saturating_sub.ensures ∙ ap (λ (p : Path). 65 - length p) c.elements-2.ensures) (λ q. with_at-append from (at c.args.node.now) root q) c.is_below.ensures in
    let fits : c.is_below.result ≡ true = search rules in
    let short = deep_false deep m from target tested (rw fits at depth) in
    subst (λ (t : Path). move_to deep m from t ≡ cond (is_some (m target)) (Err Exists) (Ok (moved from target m))) is
    (aimed.answer deep (moved from target m) ∙ ap (λ b. cond (is_some (m target)) (Err Exists) (cond b (Err BadPath) (Ok (moved from target m)))) short)
