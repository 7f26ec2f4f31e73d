-- First entries laid over the requests that stand.
use Rattle.std.proofs.Common.{◌≡◌, ◌≢◌, ℕ, [], ◌∷◌, List, cond, Bool, true, false, Option, Some, None, refl, sym, ap, subst, ◌∙◌, ⊎_elim, arith}
use Rattle.std.specs.Prelude.{is_some, not, ◌<◌, ◌-◌}
use Rattle.std.proofs.lemmas.Bool.{cases_eq}
use Rattle.std.proofs.lemmas.Grind.{common_steps}
use Rattle.std.specs.Cmp.{nat_cmp_total}
use Rattle.std.specs.FinMap as fin
use Rattle.std.specs.Ordering.{nat_cmp, eq_by_cmp}
use Rattle.gs_replica.specs.declared.op.Done.{Done}
use Rattle.gs_replica.specs.Undo.{entry_before}
use Rattle.gs_replica.proofs.Back.{back_none}
use Rattle.gs_replica.specs.First.{First, keep_first, put_back, done_before, fits}
use Rattle.gs_replica.specs.Inside.{HasSealed}

abbrev Table : Type 0
Table = fin.FinMap nat_cmp Done

-- a client's request as it was sealed, from its first entry and what stands
over : Option (Option Done) → Option Done → Option Done
over None now = now
over (Some before) now = before

get_before : (m : Table) (k : ℕ) (b : Option Done) (q : ℕ) → fin.get (entry_before m k b) q ≡ cond (eq_by_cmp nat_cmp q k) b (fin.get m q)
get_before m k None q = fin.get-remove nat_cmp_total m k q
get_before m k (Some d) q = fin.get-insert nat_cmp_total m k d q

over_cond : (t : Bool) (b : Option Done) (o : Option (Option Done)) (now : Option Done) → cond t b (over o now) ≡ over (cond t (Some b) o) now
unfolding over
over_cond true b o now = refl
over_cond false b o now = refl

get_put_back : (es : List (ℕ × Option Done)) (m : Table) (q : ℕ) → fin.get (put_back es m) q ≡ over (fin.find nat_cmp q es) (fin.get m q)
unfolding over
get_put_back [] m q = refl
get_put_back (e ∷ es) m q = get_before (put_back es m) e.0 e.1 q ∙ ap (cond (eq_by_cmp nat_cmp q e.0) e.1) (get_put_back es m q) ∙ over_cond (eq_by_cmp nat_cmp q e.0) e.1 (fin.find nat_cmp q es) (fin.get m q)

get_done_before : (f : First) (m : Table) (q : ℕ) → fin.get (done_before f m) q ≡ over (fin.get f q) (fin.get m q)
get_done_before f m q = get_put_back (fin.entries f) m q ∙ ap (λ o. over o (fin.get m q)) (sym (fin.get-entries f q))

same_before : (f g : First) (m n : Table) → ((q : ℕ) → over (fin.get f q) (fin.get m q) ≡ over (fin.get g q) (fin.get n q)) → done_before f m ≡ done_before g n
same_before f g m n is = fin.same_map nat_cmp_total fin.nat_cmp-IsAntisymmetric _ _ (λ q. get_done_before f m q ∙ is q ∙ sym (get_done_before g n q))

-- with no first entry, what stands was sealed
pub nothing_over : (m : Table) → done_before fin.empty m ≡ m
unfolding over
nothing_over m = fin.same_map nat_cmp_total fin.nat_cmp-IsAntisymmetric _ _ (λ q. get_done_before fin.empty m q ∙ ap (λ o. over o (fin.get m q)) (fin.get-empty nat_cmp q))

over_is : (o : Option (Option Done)) (m n : Option Done) → is_some o ≡ true → over o m ≡ over o n
unfolding over
over_is None m n e = absurd (cc)
over_is (Some c) m n e = refl

same_key : (q k : ℕ) → q ≡ k → eq_by_cmp nat_cmp q k ≡ true
same_key q k e = grind (arith, common_steps, fin.gets)

other_key : (q k : ℕ) → q ≢ k → eq_by_cmp nat_cmp q k ≡ false
other_key q k n = grind (arith, common_steps, fin.gets)

get_before_same : (m : Table) (k : ℕ) (b : Option Done) → fin.get (entry_before m k b) k ≡ b
get_before_same m k b = get_before m k b k ∙ ap (λ t. cond t b (fin.get m k)) (same_key k k refl)

get_before_other : (m : Table) (k : ℕ) (b : Option Done) (q : ℕ) → q ≢ k → fin.get (entry_before m k b) q ≡ fin.get m q
get_before_other m k b q n = get_before m k b q ∙ ap (λ t. cond t b (fin.get m q)) (other_key q k n)

fits_some : (o : Option (Option Done)) (before : Option Done) → fits o before ≡ true → is_some o ≡ true
fits_some None before e = absurd (cc)
fits_some (Some b) before e = refl

-- an edit of a client whose inverse fits leaves what was sealed, where it is undone
pub undone_over : (f : First) (m : Table) (k : ℕ) (before : Option Done) → fits (fin.get f k) before ≡ true → done_before f (entry_before m k before) ≡ done_before f m
undone_over f m k before e = same_before f f (entry_before m k before) m (λ q. ⊎_elim
    (λ (s : q ≡ k). over_is (fin.get f q) _ _ (fits_some (fin.get f q) before (ap (λ x. fits (fin.get f x) before) s ∙ e)))
    (λ (n : q ≢ k). ap (over (fin.get f q)) (get_before_other m k before q n))
    (cases_eq q k))

pub has_undone : (f : First) (m : Table) (k : ℕ) (before : Option Done) → fits (fin.get f k) before ≡ true → HasSealed f m → HasSealed f (entry_before m k before)
has_undone f m k before e has = λ q sealed is. ⊎_elim
    (λ (s : q ≡ k). ap is_some (ap (fin.get (entry_before m k before)) s ∙ get_before_same m k before) ∙ ap (λ o. fits o before) (sym (ap (fin.get f) (sym s) ∙ is)) ∙ e)
    (λ (n : q ≢ k). ap is_some (get_before_other m k before q n) ∙ has q sealed is)
    (cases_eq q k)

kept_at : (f : First) (k : ℕ) (b : Option Done) (o : Option (Option Done)) → fin.get f k ≡ o → fin.get (cond (is_some o) f (fin.insert f k b)) k ≡ Some (over o b)
unfolding over
kept_at f k b None e = fin.get-insert nat_cmp_total f k b k ∙ ap (λ t. cond t (Some b) (fin.get f k)) (same_key k k refl)
kept_at f k b (Some c) e = e

get_kept : (f : First) (k : ℕ) (b : Option Done) → fin.get (keep_first k b f) k ≡ Some (over (fin.get f k) b)
get_kept f k b = kept_at f k b (fin.get f k) refl

kept_beside : (f : First) (k : ℕ) (b : Option Done) (o : Bool) (q : ℕ) → q ≢ k → fin.get (cond o f (fin.insert f k b)) q ≡ fin.get f q
kept_beside f k b true q n = refl
kept_beside f k b false q n = fin.get-insert nat_cmp_total f k b q ∙ ap (λ t. cond t (Some b) (fin.get f q)) (other_key q k n)

get_kept_other : (f : First) (k : ℕ) (b : Option Done) (q : ℕ) → q ≢ k → fin.get (keep_first k b f) q ≡ fin.get f q
get_kept_other f k b q n = kept_beside f k b (is_some (fin.get f k)) q n

over_over : (o : Option (Option Done)) (b x : Option Done) → over (Some (over o b)) x ≡ over o b
unfolding over
over_over o b x = refl

-- an edit whose client's first entry is taken leaves what was sealed
pub kept_over : (f : First) (m : Table) (k : ℕ) (d : Done) → done_before (keep_first k (fin.get m k) f) (fin.insert m k d) ≡ done_before f m
kept_over f m k d = same_before (keep_first k (fin.get m k) f) f (fin.insert m k d) m (λ q. ⊎_elim
    (λ (s : q ≡ k). subst (λ x. over (fin.get (keep_first k (fin.get m k) f) x) (fin.get (fin.insert m k d) x) ≡ over (fin.get f x) (fin.get m x)) (sym s)
    (ap (λ o. over o (fin.get (fin.insert m k d) k)) (get_kept f k (fin.get m k)) ∙ over_over (fin.get f k) (fin.get m k) _))
    (λ (n : q ≢ k). ap (λ o. over o (fin.get (fin.insert m k d) q)) (get_kept_other f k (fin.get m k) q n) ∙ ap (over (fin.get f q)) (get_before_other m k (Some d) q n))
    (cases_eq q k))

pub has_kept : (f : First) (m : Table) (k : ℕ) (d : Done) → HasSealed f m → HasSealed (keep_first k (fin.get m k) f) (fin.insert m k d)
has_kept f m k d has = λ q sealed is. ⊎_elim
    (λ (s : q ≡ k). ap is_some (ap (fin.get (fin.insert m k d)) s ∙ get_before_same m k (Some d)))
    (λ (n : q ≢ k). ap is_some (get_before_other m k (Some d) q n) ∙ has q sealed (sym (get_kept_other f k (fin.get m k) q n) ∙ is))
    (cases_eq q k)

fits_over : (o : Option (Option Done)) (x : Option Done) → ((sealed : Done) → o ≡ Some (Some sealed) → is_some x ≡ true) → fits (Some (over o x)) x ≡ true
unfolding over
fits_over None None h = refl
fits_over None (Some d) h = refl
fits_over (Some None) x h = refl
fits_over (Some (Some sealed)) x h = h sealed refl

-- the inverse of an edit fits its client's first entry
pub fits_kept : (f : First) (m : Table) (k : ℕ) → HasSealed f m → fits (fin.get (keep_first k (fin.get m k) f) k) (fin.get m k) ≡ true
fits_kept f m k has = ap (λ o. fits o (fin.get m k)) (get_kept f k (fin.get m k)) ∙ fits_over (fin.get f k) (fin.get m k) (λ sealed e. has k sealed e)

forgotten_at : (f : First) (k : ℕ) (b : Option Done) (o : Option (Option Done)) → fin.get f k ≡ o → not (is_some o) ≡ true → fin.remove (cond (is_some o) f (fin.insert f k b)) k ≡ f
forgotten_at f k b None e n = back_none f k b e
forgotten_at f k b (Some c) e n = absurd (cc)

stays_at : (f g : First) (o : Bool) → not o ≡ false → cond o f g ≡ f
stays_at f g true e = refl
stays_at f g false e = absurd (cc)

-- an entry that a refused edit took is forgotten
forgotten : (f : First) (k : ℕ) (b : Option Done) → not (is_some (fin.get f k)) ≡ true → fin.remove (keep_first k b f) k ≡ f
forgotten f k b e = forgotten_at f k b (fin.get f k) refl e

stays : (f : First) (k : ℕ) (b : Option Done) → not (is_some (fin.get f k)) ≡ false → keep_first k b f ≡ f
stays f k b e = stays_at f (fin.insert f k b) (is_some (fin.get f k)) e

-- what a refused edit took is taken back
pub back_kept : (f : First) (k : ℕ) (b : Option Done) (t : Bool) → t ≡ not (is_some (fin.get f k)) → cond t (fin.remove (keep_first k b f) k) (keep_first k b f) ≡ f
back_kept f k b true e = forgotten f k b (sym e)
back_kept f k b false e = stays f k b (sym e)

pub has_nothing : (m : Table) → HasSealed fin.empty m
has_nothing m = λ q sealed e. let none = sym (fin.get-empty nat_cmp q) ∙ e in absurd (cc)

removed_same : (f : First) (k : ℕ) → fin.get (fin.remove f k) k ≡ None
removed_same f k = fin.get-remove nat_cmp_total f k k ∙ ap (λ t. cond t None (fin.get f k)) (same_key k k refl)

removed_other : (f : First) (k q : ℕ) → q ≢ k → fin.get (fin.remove f k) q ≡ fin.get f q
removed_other f k q n = fin.get-remove nat_cmp_total f k q ∙ ap (λ t. cond t None (fin.get f q)) (other_key q k n)

popped_same : (o p : Option (Option Done)) (x y b : Option Done) → o ≡ None → p ≡ Some b → x ≡ b → over o x ≡ over p y
unfolding over
popped_same o p x y b none some is = ap (λ t. over t x) none ∙ is ∙ ap (λ t. over t y) (sym some)

-- a first entry is put back
pub popped_over : (f : First) (m : Table) (k : ℕ) (b : Option Done) → fin.get f k ≡ Some b → done_before (fin.remove f k) (entry_before m k b) ≡ done_before f m
popped_over f m k b e = same_before (fin.remove f k) f (entry_before m k b) m (λ q. ⊎_elim
    (λ (s : q ≡ k). subst (λ x. over (fin.get (fin.remove f k) x) (fin.get (entry_before m k b) x) ≡ over (fin.get f x) (fin.get m x)) (sym s) (popped_same (fin.get (fin.remove f k) k) (fin.get f k) (fin.get (entry_before m k b) k) (fin.get m k) b (removed_same f k) e (get_before_same m k b)))
    (λ (n : q ≢ k). ap (λ o. over o (fin.get (entry_before m k b) q)) (removed_other f k q n) ∙ ap (over (fin.get f q)) (get_before_other m k b q n))
    (cases_eq q k))

pub has_popped : (f : First) (m : Table) (k : ℕ) (b : Option Done) → HasSealed f m → HasSealed (fin.remove f k) (entry_before m k b)
has_popped f m k b has = λ q sealed e. ⊎_elim
    (λ (s : q ≡ k). let none = sym (removed_same f k) ∙ ap (fin.get (fin.remove f k)) (sym s) ∙ e in absurd (cc))
    (λ (n : q ≢ k). ap is_some (get_before_other m k b q n) ∙ has q sealed (sym (removed_other f k q n) ∙ e))
    (cases_eq q k)

pub fewer : (f : First) (k : ℕ) (b : Option Done) → fin.get f k ≡ Some b → fin.len (fin.remove f k) < fin.len f
fewer f k b e =
    let less : fin.len (fin.remove f k) ≡ fin.len f - 1 = fin.len-remove nat_cmp_total f k ∙ ap (λ o. cond (is_some o) (fin.len f - 1) (fin.len f)) e in
    ⊎_elim
    (λ (z : fin.len f ≡ 0). let none = sym (fin.get-empty nat_cmp k) ∙ ap (λ m. fin.get m k) (sym (fin.empty_of_len f z)) ∙ e in absurd (cc))
    (λ (n : fin.len f ≢ 0). omega arith)
    (cases_eq (fin.len f) 0)
