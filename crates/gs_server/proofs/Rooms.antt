-- Leases are spent one after the other, and their room is given up.
use Rattle.std.proofs.Common.{refl, ◌≡◌, ◌∙◌, ℕ, suc, Bool, true, false, List, [], ◌∷◌, ◌++◌, ◌+◌, ◌<◌, Option, None, length, take, drop, get_or, add-one, ap, sym, subst}
use Rattle.std.proofs.Math.Seq.{take-suc, drop-cons}
use Rattle.std.proofs.lemmas.Bool.{false≢true}
use Rattle.std.proofs.lemmas.List.Elements.{All-push, All-weaker}
use Rattle.std.proofs.lemmas.List.Folds.{list_any-append}
use Rattle.std.specs.Prelude.{◌||◌, is_some}
use Rattle.std.specs.List.{list_any}
use Rattle.std.specs.Ordering.{nat_cmp, eq_by_cmp}
use Rattle.std.specs.FinMap as fin
use Rattle.gs_server_lease.specs.Leases.{PrimaryLease}
use Rattle.gs_base_table.specs.Slots.{GivesUpRoom, HasRoom}
use Rattle.gs_server.specs.inner.Spending.{GivesUpEach, without}

either_none : (a b : Bool) → (a || (b || false)) ≡ false → (a ≡ false) × (b ≡ false)
either_none false false is = (refl, refl)
either_none false true is = absurd (false≢true (sym is))
either_none true b is = absurd (false≢true (sym is))

pub without_next : (leases more : fin.FinMap nat_cmp PrimaryLease) (handles : List ℕ) (i x : ℕ) → i < length handles → x ≡ get_or handles i x → more ≡ fin.remove leases x →
    without (drop (i + 1) handles) more ≡ without (drop i handles) leases
without_next leases more handles i x below at is =
    ap (without (drop (i + 1) handles)) is
    ∙ ap (λ xs. without xs leases) (ap (λ k. x ∷ drop k handles) (add-one i) ∙ ap (λ y. y ∷ drop (suc i) handles) at ∙ sym (drop-cons handles i x below))

module _ {V : Type 0} where
  abbrev Lacks : List (ℕ × Option V) → ℕ → Type 0
  Lacks slots handle = HasRoom nat_cmp slots handle → ⊥

  gives_one : (a b c : List (ℕ × Option V)) (xs : List ℕ) (x : ℕ) → GivesUpEach a b xs → GivesUpRoom nat_cmp b c x → GivesUpEach a c (xs ++ x ∷ [])
  gives_one a b c xs x given one = record {
    none = All-push (Lacks c) xs x (All-weaker (Lacks b) (Lacks c) (λ y lacks room. lacks (one.fewer y room)) xs given.none) (λ room. false≢true (sym (ap is_some one.none) ∙ room.slot));
    others = λ other passed room.
        let both = either_none (list_any (eq_by_cmp nat_cmp other) xs) (eq_by_cmp nat_cmp other x) (sym (list_any-append (eq_by_cmp nat_cmp other) xs (x ∷ [])) ∙ passed) in
        one.others other both.1 (given.others other both.0 room);
    fewer = λ other room. given.fewer other (one.fewer other room);
  }

  -- one handle more
  pub gives_more : (a b c : List (ℕ × Option V)) (handles : List ℕ) (i : ℕ) (x : ℕ) → i < length handles → x ≡ get_or handles i x → GivesUpEach a b (take i handles) → GivesUpRoom nat_cmp b c x → GivesUpEach a c (take (i + 1) handles)
  gives_more a b c handles i x below is given one =
      subst (GivesUpEach a c) (sym (ap (λ k. take k handles) (add-one i) ∙ take-suc handles i x below ∙ ap (λ y. take i handles ++ y ∷ []) (sym is))) (gives_one a b c (take i handles) x given one)
