-- Values that are told apart by a tag.
use Rattle.std.proofs.Common.{◌≡◌, ℕ, Bool, true, false, cond, eqb, List, ◌++◌, Option, Some, refl, sym, ap, subst, ◌∙◌}
use Rattle.std.proofs.lemmas.Bool.{eqb-true}
use Rattle.gs_master_record.proofs.Laws.{IsBytes, Takes, Reads, bind_some, some_is}
use Rattle.gs_master_record.specs.inner.Reading.{◌>>=◌, Reader, made}

-- how the values of a type are told apart by a tag, and what stands behind it
pub record Tagged (X : Type 0) : Type 1 where
  pub Is : X → Type 0
  pub tag : X → ℕ
  pub fields : X → List ℕ

-- what was read behind a tag
pub record Chosen {X : Type 0} (t : Tagged X) (k : ℕ) (bytes : List ℕ) (x : X) (rest : List ℕ) : Type 0 where
  pub same : t.tag x ≡ k
  pub takes : Takes t.Is t.fields bytes x rest

-- the values of one tag
pub record Arm {X A : Type 0} (t : Tagged X) (k : ℕ) (Is : A → Type 0) (write : A → List ℕ) (of : A → X) : Type 0 where
  pub is : (y : A) → Is y → t.Is (of y)
  pub tag : (y : A) → t.tag (of y) ≡ k
  pub fields : (y : A) → write y ≡ t.fields (of y)

-- an arm of a choice, and the arms behind it
pub arm : {X A : Type 0} (t : Tagged X) {k : ℕ} {Is : A → Type 0} {write : A → List ℕ} {of : A → X} {reader : Reader A} {other : Option (X × List ℕ)} {n : ℕ} {bytes : List ℕ} {x : X} {rest : List ℕ}
    → Reads Is write reader → Arm t k Is write of → IsBytes bytes
    → (other ≡ Some (x, rest) → Chosen t n bytes x rest)
    → cond (eqb n k) (made (λ y. Some (of y)) reader bytes) other ≡ Some (x, rest) → Chosen t n bytes x rest
arm {X = X} {A = A} t {k = k} {Is = Is} {write = write} {of = of} {reader = reader} {other = other} {n = n} {bytes = bytes} {x = x} {rest = rest} p a h more e = by (eqb n k) refl e where
  by : (b : Bool) → eqb n k ≡ b → cond b (made (λ y. Some (of y)) reader bytes) other ≡ Some (x, rest) → Chosen t n bytes x rest
  by false same e = more e
  by true same e =
      let s = bind_some (reader bytes) (λ x. Some (of x.0) >>= λ y. Some (y, x.1)) (x, rest) e in
      let one = p.takes bytes s.0.0 s.0.1 h s.1 in
      let whole : Chosen t n bytes (of s.0.0) s.0.1 = record {
        same = a.tag s.0.0 ∙ sym (eqb-true n k same);
        takes = record { parts = one.parts ∙ ap (λ (z : List ℕ). z ++ s.0.1) (a.fields s.0.0); left = one.left; is = a.is s.0.0 one.is };
      } in
      subst (λ (y : X × List ℕ). Chosen t n bytes y.0 y.1) (some_is (of s.0.0, s.0.1) (x, rest) s.2) whole

pub again : {X A : Type 0} {Is : A → Type 0} {write : A → List ℕ} (of : A → X) {reader : Reader A} → Reads Is write reader → (y : A) (rest : List ℕ) → Is y → made (λ y. Some (of y)) reader (write y ++ rest) ≡ Some (of y, rest)
again of p y rest is = rw (p.again y rest is) refl
