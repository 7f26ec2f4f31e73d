-- A kept refusal is read as it is written.
use Rattle.std.proofs.Common.{◌≡◌, ℕ, ◌<◌, List, Some, refl, subst, arith}
use Rattle.gs_base.specs.Refusals.{number_of}
use Rattle.gs_base.specs.Told.{IsNumber, detail_text}
use Rattle.gs_base.specs.declared.refusal.Refusal.{Refusal}
use Rattle.gs_fields.specs.Laws.{Reads, reads_both, reads_made, reads_byte, reads_text, n64, some_is}
use Rattle.gs_fields.specs.Writable.{IsText}
use Rattle.gs_master_record.proofs.Told.{told_back, told_tells, small}
use Rattle.gs_server.specs.declared.turn.KeptRefusal.{KeptRefusal}
use Rattle.gs_server_image.specs.Encoding.{refusal, kept}
use Rattle.gs_server_image.specs.Writable.{IsTold, IsKept}
use Rattle.gs_server_image.specs.Reading.{refusal_of, refusal_at, kept_of, kept_at}

abbrev pair : {A B : Type 0} → A → B → A × B
pair a b = (a, b)

pair_is : {A B : Type 0} {a b : A} {c d : B} → a ≡ b → c ≡ d → pair a c ≡ pair b d
pair_is p q = λ i. pair (p i) (q i)

abbrev refusal_fields : Refusal → ℕ × List ℕ
refusal_fields r = (number_of r, detail_text r)

pub reads_refusal : Reads IsTold refusal refusal_at
unfolding refusal_at
reads_refusal = reads_made {fields = refusal_fields} (reads_both reads_byte reads_text) (record { back = back; forth = forth }) where
  back : (y : Refusal) → IsTold y → ((number_of y < 256) × IsText (detail_text y)) × (refusal_of (refusal_fields y) ≡ Some y)
  back y is = ((let h = small y in omega arith, is.1), told_back y is.0)

  forth : (x : ℕ × List ℕ) (y : Refusal) → (x.0 < 256) × IsText x.1 → refusal_of x ≡ Some y → (refusal_fields y ≡ x) × IsTold y
  forth x y is e = let k = told_tells x.0 x.1 y e in (pair_is k.1.0 k.1.1, (k.0, rw k.1.1 is.1))

abbrev kept_fields : KeptRefusal → ℕ × Refusal
kept_fields k = (k.number, k.refusal)

pub reads_kept : Reads IsKept kept kept_at
unfolding kept_at
reads_kept = reads_made {fields = kept_fields} (reads_both n64 reads_refusal) (record { back = λ y is. (is, refl); forth = forth }) where
  forth : (x : ℕ × Refusal) (y : KeptRefusal) → IsNumber x.0 × IsTold x.1 → kept_of x ≡ Some y → (kept_fields y ≡ x) × IsKept y
  forth x y is e = subst (λ (z : KeptRefusal). (kept_fields z ≡ x) × IsKept z) (some_is (record { number = x.0; refusal = x.1 }) y e) (refl, is)
