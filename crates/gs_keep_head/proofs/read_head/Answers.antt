use Rattle.std.proofs.Common.{rules, ◌≡◌, ◌≢◌, ◌==◌, ℕ, List, Option, Some, None, IfSome, Err, map, Bor, sym, ap, subst, ◌∙◌}
use Rattle.std.specs.List.{slice_split}
use Rattle.std.specs.Str.{IsUtf8}
use Rattle.gs_keep_head.specs.Head.{AreSizes, IsForm, IsName, IsNoHead, Reads, Sizes, head_text, words_head}
use Rattle.gs_keep_head.specs.declared.Form.{Form}
use Rattle.gs_keep_head.specs.declared.HeadFault.{HeadFault}
use Rattle.gs_keep_head.specs.declared.HeadFault.TheVariants as fault
use Rattle.gs_keep_head.proofs.Numbers.{head_splits, head_utf8, words_say}
use Rattle.gs_keep_head.proofs.read_head.Goals as goal

none_of : (f : HeadFault) (line : List ℕ) → f ≢ fault.Memory → IsNoHead line → Reads (Err f) line
none_of fault.Memory line other h = tt
none_of fault.Version line other h = h
none_of fault.Other line other h = h

-- the words of a first line say its form, its sizes and its name
say : (line text : List ℕ) (words : List (List ℕ)) → text ≡ line → words ≡ slice_split (λ b. b == 32) text → (f : Form) (s : Sizes) (name : Option (List ℕ)) → IsForm f → AreSizes s → IfSome name IsName
    → line ≡ head_text f s name → words_head words ≡ Some (f, s, name)
say line text words same split f s name form are called is =
    ap words_head (split ∙ ap (slice_split (λ b. b == 32)) (same ∙ is) ∙ head_splits f s name form are called) ∙ words_say f s name form are called

said : (o : Option (Form × Sizes × Option (List ℕ))) (p : Form × Sizes × Option (List ℕ)) → o ≡ None → o ≡ Some p → ⊥
said o p none some = absurd (cc)

same_said : (o : Option (Form × Sizes × Option (List ℕ))) (p q : Form × Sizes × Option (List ℕ)) → o ≡ Some q → o ≡ Some p → q ≡ p
same_said o p q one two = cc

pub returns-in_default : goal.returns-in_default
returns-in_default c f s name form are called is = c.in_default.ensures.cases.0 (subst IsUtf8 (sym is) (head_utf8 f s name form are called))

pub returns-in_default-head_of : goal.returns-in_default-head_of
returns-in_default-head_of c =
    let value = c.deref.ensures.value in
    none_of c.fault_of.result c.args.line.now c.fault_of.ensures
    (λ f s name form are called is. said _ (f, s, name) c.in_default-head_of.ensures
    (say c.args.line.now c.in-Ok.text.now _ c.in-Ok.ensures.cases.0 (ap (map (λ (w : Bor (List ℕ)). w.now)) value ∙ c.in_ok-words.ensures) f s name form are called is))

-- a line that isn't what was said is no other first line
no_other : (line : List ℕ) (q p : Form × Sizes × Option (List ℕ)) → line ≢ head_text q.0 q.1 q.2 → q ≡ p → line ≢ head_text p.0 p.1 p.2
no_other line q p one same is = one (is ∙ ap (λ (r : Form × Sizes × Option (List ℕ)). head_text r.0 r.1 r.2) (sym same))

pub returns : goal.returns
returns c f s name form are called is =
    let value = c.deref.ensures.value in
    let text = c.in-Ok.ensures.cases.0 in
    let same = same_said _ (f, s, name) _ c.in-Some.ensures
    (say c.args.line.now c.in-Ok.text.now _ text (ap (map (λ (w : Bor (List ℕ)). w.now)) value ∙ c.in_ok-words.ensures) f s name form are called is) in
    no_other c.args.line.now _ (f, s, name) (λ e. c.in_ok-is_head.ensures.1 (search rules) (text ∙ e)) same is
