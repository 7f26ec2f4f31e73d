use Rattle.std.proofs.Common.{arith, ◌≡◌, ◌+◌, ◌<◌, ◌++◌, ◌∷◌, [], ℕ, suc, cond, false, length, get_or, take, drop, ap, sym, ◌∙◌}
use Rattle.std.specs.Prelude.{Option, Result, Ok, Err, is_none, is_err}
use Rattle.std.specs.FinMap as fin
use Rattle.gs_base.specs.declared.refusal.Refusal.{Refusal}
use Rattle.gs_tree.specs.Entry.{Entry}
use Rattle.gs_tree.specs.Listing.{StandsAs}
use Rattle.gs_tree.specs.declared.tree.Status.{Status}
use Rattle.gs_tree.specs.declared.tree.Status.TheVariants as status
use Rattle.std.proofs.lemmas.Bool.{false≢true}
use Rattle.std.proofs.Math.Seq.{take-suc, drop-cons}
use Rattle.std.proofs.lemmas.List.{append_assoc}
use Rattle.gs_path.specs.Path.{Name, Path}
use Rattle.gs_tree.specs.Edits.{stood}
use Rattle.gs_tree.specs.Plain.{Plain}
use Rattle.gs_master_state.proofs.inverse.stood.Goals as goal

-- where something stands at the next front too, one more stood
one_more : (m : Plain ℕ) (front next elements : Path) (above : ℕ) (x : Name) → above < length elements → x ≡ get_or elements above x → next ≡ front ++ x ∷ [] → is_none (m next) ≡ false → front ≡ take above elements
    → above + stood (λ q. m (front ++ q)) (drop above elements) ≡ stood m elements
    → (next ≡ take (above + 1) elements) × (above + 1 + stood (λ q. m (next ++ q)) (drop (above + 1) elements) ≡ stood m elements)
one_more m front next elements above x short is e stands begun so_far =
    let count : suc above ≡ above + 1 = omega arith in
    let whole : next ≡ take (suc above) elements = e ∙ ap (λ p. p ++ x ∷ []) begun ∙ ap (λ y. take above elements ++ y ∷ []) is ∙ sym (take-suc elements above x short) in
    let rest : drop above elements ≡ x ∷ drop (suc above) elements = drop-cons elements above x short ∙ ap (λ y. y ∷ drop (suc above) elements) (sym is) in
    let same : (λ (q : Path). m (front ++ x ∷ q)) ≡ (λ q. m (next ++ q)) = λ i q. ap m (sym (append_assoc front (x ∷ []) q) ∙ ap (λ p. p ++ q) (sym e)) i in
    let step : stood (λ q. m (front ++ q)) (drop above elements) ≡ stood (λ q. m (next ++ q)) (drop (suc above) elements) + 1 =
    ap (stood (λ q. m (front ++ q))) rest ∙ ap (λ b. cond b 0 (stood (λ q. m (front ++ x ∷ q)) (drop (suc above) elements) + 1)) (ap (λ p. is_none (m p)) (sym e) ∙ stands) ∙ ap (λ (g : Plain ℕ). stood g (drop (suc above) elements) + 1) same in
    let more : stood (λ q. m (next ++ q)) (drop (suc above) elements) ≡ stood (λ q. m (next ++ q)) (drop (above + 1) elements) = ap (λ n. stood (λ q. m (next ++ q)) (drop n elements)) count in
    (whole ∙ ap (λ n. take n elements) count, omega arith)

-- what is told stands
stands_at : (entry : Option (Entry ℕ)) (told : Result Status Refusal) → StandsAs entry told → is_err told ≡ false → is_none entry ≡ false
stands_at entry (Ok status.Dir) is fine = ap is_none is
stands_at entry (Ok (status.File chunks)) is fine = ap is_none is
stands_at entry (Err e) is fine = absurd (false≢true (sym fine))

pub loop-above-preserved : goal.loop-above-preserved
loop-above-preserved c = one_more (fin.get c.args.names.now.names.tree) c.loop-above.front c.push.new.self c.elements-elements.result.now c.loop-above.above c.index-elements-above.result c.loop-above-test.true c.index-elements-above.is
    (c.in_ok-push.ensures.ok ∙ ap (λ n. c.loop-above.front ++ n ∷ []) c.in_ok-copy.ensures) (stands_at (fin.get c.args.names.now.names.tree c.push.new.self) c.status.result c.status.ensures (sym c.is_err.ensures.value ∙ c.if-is_err.false)) c.loop-above.invariant.0 c.loop-above.invariant.1
