-- An entry is read from its record, and from no other.
use Rattle.std.proofs.Common.{◌≡◌, ℕ, ◌^◌, ◌<◌, ◌≤◌, Bool, true, false, cond, eqb, ltb, List, [], length, Option, Some, None, Result, Ok, Err, refl, sym, ap, subst, ◌∙◌, arith}
use Rattle.std.proofs.lemmas.Bool.{eqb-true, ltb-false, le-ltb}
use Rattle.std.proofs.lemmas.List.{append-nil, nil_from_length}
use Rattle.gs_journal.specs.declared.version.Version.{Version}
use Rattle.gs_master_record.proofs.Choices.{any_entry, entry_again}
use Rattle.gs_master_record.proofs.Laws.{IsBytes, if_some, some_is}
use Rattle.gs_master_record.specs.Encoding.{kind, body, encoded}
use Rattle.gs_master_record.specs.Plain.{PlainEntry, plain}
use Rattle.gs_master_record.specs.Writable.{IsEntry}
use Rattle.gs_master_record.specs.declared.entry.Entry.{Entry}
use Rattle.gs_master_record.specs.declared.fault.Fault.{Fault}
use Rattle.gs_master_record.specs.declared.fault.Fault.TheVariants as faults
use Rattle.gs_master_record.specs.inner.Reading.{entry_at, entry_of, whole}
use Rattle.gs_master_record.specs.inner.Work.{GivesAll, Decodes}

pub again : (version : Version) (x : PlainEntry) → IsEntry version x → entry_of version (kind x) (body version x) ≡ Some x
unfolding entry_of
again version x is =
    let all : entry_at version (kind x) (body version x) ≡ Some (x, []) = ap (entry_at version (kind x)) (sym (append-nil (body version x))) ∙ entry_again version x [] is.0 in
    let short : ltb 4294967295 (length (body version x)) ≡ false = le-ltb _ _ (let h = is.1 in omega arith) in
    ap (λ b. cond b None (whole (entry_at version (kind x) (body version x)))) short ∙ ap whole all

-- a value that took all bytes
all_taken : {A : Type 0} (r : Option (A × List ℕ)) (x : A) → whole r ≡ Some x → r ≡ Some (x, [])
all_taken None x e = absurd cc
all_taken (Some y) x e =
    let k = if_some (eqb (length y.1) 0) y.0 x e in
    let end : y.1 ≡ [] = nil_from_length y.1 (eqb-true _ _ k.0) in
    λ i. Some (k.1 i, end i)

in_range : {A : Type 0} (b : Bool) (r : Option A) (x : A) → cond b None r ≡ Some x → (b ≡ false) × (r ≡ Some x)
in_range true r x e = absurd cc
in_range false r x e = (refl, e)

pub taken : (version : Version) (k : ℕ) (bytes : List ℕ) (x : PlainEntry) → IsBytes bytes → entry_of version k bytes ≡ Some x → IsEntry version x × (encoded version x ≡ (k, bytes))
unfolding entry_of
taken version k bytes x h e =
    let r = in_range (ltb 4294967295 (length bytes)) (whole (entry_at version k bytes)) x e in
    let c = any_entry version k bytes x [] h (all_taken (entry_at version k bytes) x r.1) in
    let same : body version x ≡ bytes = sym (c.takes.parts ∙ append-nil (body version x)) in
    let short : length bytes ≤ 4294967295 = ltb-false _ _ r.0 in
    ((c.takes.is, subst (λ (z : List ℕ). length z < 2 ^ 32) (sym same) (omega arith)), λ i. (c.same i, same i))

pub one_of : (version : Version) (k : ℕ) (bytes : List ℕ) (x : PlainEntry) → IsEntry version x → encoded version x ≡ (k, bytes) → entry_of version k bytes ≡ Some x
one_of version k bytes x is e = ap (λ (t : ℕ × List ℕ). entry_of version t.0 t.1) (sym e) ∙ again version x is

pub decodes : (version : Version) (k : ℕ) (bytes : List ℕ) (r : Result Entry Fault) → IsBytes bytes → GivesAll plain r (entry_of version k bytes) → Decodes version (k, bytes) r
decodes version k bytes (Ok e) h g = taken version k bytes (plain e) h g
decodes version k bytes (Err faults.Memory) h g = tt
decodes version k bytes (Err faults.Form) h g = λ x is e. none (sym (one_of version k bytes x is e) ∙ g)
  where
    none : {x : PlainEntry} → Some x ≡ None → ⊥
    none e = absurd cc

-- entries with the same record are the same
pub one_entry : (version : Version) (x y : PlainEntry) → IsEntry version x → IsEntry version y → encoded version x ≡ encoded version y → x ≡ y
one_entry version x y p q e = some_is x y (sym (again version x p) ∙ one_of version (kind x) (body version x) y q (sym e))
