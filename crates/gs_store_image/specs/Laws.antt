-- A request is read as it is written.
use Rattle.std.proofs.Common.{◌≡◌, ℕ, ◌<◌, Bool, true, false, cond, eqb, Some, None, refl, sym, subst, arith}
use Rattle.std.proofs.lemmas.Bool.{eqb-true}
use Rattle.gs_base.specs.Told.{IsNumber}
use Rattle.gs_fields.specs.Laws.{Reads, reads_both, reads_made, reads_byte, n64, bind_some, some_is}
use Rattle.gs_replica.specs.declared.op.Done.{Done}
use Rattle.gs_replica.specs.declared.op.EditOutcome.{EditOutcome}
use Rattle.gs_replica.specs.declared.op.EditOutcome.TheVariants.{Written, Appended, Padded}
use Rattle.gs_store_image.specs.Encoding.{outcome_fields, done}
use Rattle.gs_store_image.specs.Writable.{IsOutcome, IsDone}
use Rattle.gs_store_image.specs.Reading.{outcome_of, with_outcome, done_of, done_at}

abbrev pair : {A B : Type 0} → A → B → A × B
pair a b = (a, b)

pair_is : {A B : Type 0} {a b : A} {c d : B} → a ≡ b → c ≡ d → pair a c ≡ pair b d
pair_is p q = λ i. pair (p i) (q i)

abbrev IsTold : EditOutcome → ℕ × ℕ → Type 0
IsTold o x = (outcome_fields o ≡ x) × IsOutcome o

pub outcome_back : (o : EditOutcome) → IsOutcome o → (((outcome_fields o).0 < 256) × IsNumber (outcome_fields o).1) × (outcome_of (outcome_fields o) ≡ Some o)
outcome_back Written is = ((omega arith, omega arith), refl)
outcome_back (Appended offset) is = ((omega arith, is), refl)
outcome_back Padded is = ((omega arith, omega arith), refl)

told_by : (x : ℕ × ℕ) (o : EditOutcome) → IsNumber x.1 → (a : Bool) → eqb x.0 0 ≡ a → (z : Bool) → eqb x.1 0 ≡ z → (b : Bool) → eqb x.0 1 ≡ b → (c : Bool) → eqb x.0 2 ≡ c
    → cond a (cond z (Some Written) None) (cond b (Some (Appended x.1)) (cond c (cond z (Some Padded) None) None)) ≡ Some o → IsTold o x
told_by x o is true p true q b r c s e = subst (λ (w : EditOutcome). IsTold w x) (some_is Written o e) (pair_is (sym (eqb-true x.0 0 p)) (sym (eqb-true x.1 0 q)), tt)
told_by x o is true p false q b r c s e = absurd cc
told_by x o is false p z q true r c s e = subst (λ (w : EditOutcome). IsTold w x) (some_is (Appended x.1) o e) (pair_is (sym (eqb-true x.0 1 r)) refl, is)
told_by x o is false p true q false r true s e = subst (λ (w : EditOutcome). IsTold w x) (some_is Padded o e) (pair_is (sym (eqb-true x.0 2 s)) (sym (eqb-true x.1 0 q)), tt)
told_by x o is false p false q false r true s e = absurd cc
told_by x o is false p z q false r false s e = absurd cc

abbrev done_fields : Done → ℕ × (ℕ × ℕ)
done_fields d = (d.number, outcome_fields d.outcome)

pub reads_done : Reads IsDone done done_at
unfolding done_at
reads_done = reads_made {fields = done_fields} (reads_both n64 (reads_both reads_byte n64)) (record { back = back; forth = forth }) where
  back : (y : Done) → IsDone y → (IsNumber y.number × (((outcome_fields y.outcome).0 < 256) × IsNumber (outcome_fields y.outcome).1)) × (done_of (done_fields y) ≡ Some y)
  back y is = let k = outcome_back y.outcome is.1 in ((is.0, k.0), rw k.1 refl)

  forth : (x : ℕ × (ℕ × ℕ)) (y : Done) → IsNumber x.0 × ((x.1.0 < 256) × IsNumber x.1.1) → done_of x ≡ Some y → (done_fields y ≡ x) × IsDone y
  forth x y is e =
      let s = bind_some (outcome_of x.1) (with_outcome x.0) y e in
      let k = told_by x.1 s.0 is.1.1 (eqb x.1.0 0) refl (eqb x.1.1 0) refl (eqb x.1.0 1) refl (eqb x.1.0 2) refl s.1 in
      subst (λ (z : Done). (done_fields z ≡ x) × IsDone z) (some_is (record { number = x.0; outcome = s.0 }) y s.2) (pair_is refl k.0, (is.0, k.1))
