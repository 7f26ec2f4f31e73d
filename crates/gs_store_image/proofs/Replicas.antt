-- A replica is read as it is written.
use Rattle.std.proofs.Common.{◌≡◌, ℕ, Bool, true, false, cond, ltb, eqb, List, length, map, Option, Some, None, Result, Ok, Err, refl, sym, ap, subst, ◌∙◌}
use Rattle.std.proofs.lemmas.Bool.{le-ltb}
use Rattle.std.proofs.lemmas.List.{map-id}
use Rattle.std.proofs.lemmas.Bool.Decides.{Decides-eqb}
use Rattle.gs_base.specs.declared.numbers.Stamp.{Stamp}
use Rattle.gs_block.specs.Stored.{Stored, count_of, IsStored}
use Rattle.gs_fields.specs.Laws.{Reads, reads_both, reads_made, reads_long_bytes, reads_long_list, reads_bytes, reads_stamp, n64, some_is, if_some}
use Rattle.gs_fields.specs.Reading.{option_at}
use Rattle.gs_fields.specs.Writable.{IsOption}
use Rattle.gs_base.specs.declared.refusal.Refusal.{Refusal}
use Rattle.gs_base.specs.declared.refusal.Refusal.TheVariants as refusals
use Rattle.gs_replica.specs.declared.seal.Seal.{Seal}
use Rattle.gs_replica.specs.Copies.{SealedImage}
use Rattle.gs_replica.specs.Edits.{held_of}
use Rattle.gs_replica.specs.Held.{Held}
use Rattle.gs_replica.specs.Parts.{stands_as, stands_of, PartsMake}
use Rattle.gs_replica.specs.Seals.{Sealed, State}
use Rattle.gs_replica.specs.View.{seen_in, BelongsIn}
use Rattle.gs_replica.specs.Whole.{IsWhole}
use Rattle.gs_store_image.specs.Belonging.{belongs_in}
use Rattle.gs_store_image.specs.Encoding.{parts, replica, seals_of}
use Rattle.gs_store_image.specs.Writable.{AreParts, IsSeal, IsTold, IsReplica}
use Rattle.gs_store_image.specs.Reading.{Table, Fields, blocks_at, parts_of, parts_at, seal_at, with_seal, replica_of, replica_at}
use Rattle.gs_store_image.proofs.Belonging.{decides_belongs_in}
use Rattle.gs_store_image.proofs.Seals.{reads_seals, seals_again}
use Rattle.gs_store_image.proofs.Tables.{reads_table}

pub as_it_is : {A : Type 0} (xs : List A) → map (λ x. x) xs ≡ xs
as_it_is xs = map-id xs

abbrev fields : SealedImage → Fields
fields i = (i.stamp, (i.image.count, (i.image.done, (i.image.bytes, i.digests))))

pub reads_parts : Reads AreParts parts parts_at
unfolding parts_at blocks_at
reads_parts = reads_made {fields = fields} (reads_both reads_stamp (reads_both n64 (reads_both reads_table (reads_both reads_long_bytes (reads_long_list (reads_bytes 32)))))) (record { back = λ y is. (is, refl); forth = forth }) where
  forth : (x : Fields) (y : SealedImage) → AreParts (record { image = record { bytes = x.1.1.1.0; count = x.1.0; done = x.1.1.0 }; stamp = x.0; digests = x.1.1.1.1 }) → parts_of x ≡ Some y → (fields y ≡ x) × AreParts y
  forth x y is e =
      subst (λ (z : SealedImage). (fields z ≡ x) × AreParts z) (some_is (record { image = record { bytes = x.1.1.1.0; count = x.1.0; done = x.1.1.0 }; stamp = x.0; digests = x.1.1.1.1 }) y e) (refl, is)

-- what stands of parts has these parts
stands_by : (long same : Bool) (s : Stored) (stamp : Stamp) (count : ℕ) (done : Table) (h : Held) → held_of stamp count done (cond long (Err refusals.Range) (cond same (Ok s) (Err refusals.BadLine))) ≡ Ok h
    → h ≡ record { chunk = s; count = count; done = done; promise = stamp }
stands_by true same s stamp count done h e = absurd (cc)
stands_by false true s stamp count done h e = cc
stands_by false false s stamp count done h e = absurd (cc)

pub stands_again : (block chunk : ℕ) (i : SealedImage) (h : Held) → stands_of block chunk i ≡ Ok h → stands_as h ≡ i
stands_again block chunk i h e =
    ap stands_as
    (stands_by (ltb chunk (length i.image.bytes)) (eqb (length i.digests) (count_of block (length i.image.bytes))) (record { block = block; chunk = chunk; bytes = i.image.bytes; digests = i.digests }) i.stamp i.image.count i.image.done h e)

-- what stands whole is made of its parts again
pub made_again : (h : Held) → IsStored h.chunk → stands_of h.chunk.block h.chunk.chunk (stands_as h) ≡ Ok h
made_again h stored =
    let short : ltb h.chunk.chunk (length h.chunk.bytes) ≡ false = le-ltb _ _ stored.bytes_fit in
    let each : eqb (length h.chunk.digests) (count_of h.chunk.block (length h.chunk.bytes)) ≡ true = (Decides-eqb _ _).1 stored.each in
    rw short (rw each refl)

record Stands (o : Option Seal) (made : Result Held Refusal) (r : State) : Type 0 where
  pub held : Held
  pub stands : made ≡ Ok held
  pub belongs : belongs_in held o ≡ true
  pub whole : record { held = held; sealed = seen_in held o } ≡ r

stands_with : (o : Option Seal) (made : Result Held Refusal) (r : State) → with_seal o made ≡ Some r → Stands o made r
stands_with o (Ok h) r e =
    let k = if_some (belongs_in h o) (record { held = h; sealed = seen_in h o }) r e in
    record { held = h; stands = refl; belongs = k.0; whole = k.1 }
stands_with o (Err x) r e = absurd (cc)

abbrev pair : {A B : Type 0} → A → B → A × B
pair a b = (a, b)

pair_is : {A B : Type 0} {a b : A} {c d : B} → a ≡ b → c ≡ d → pair a c ≡ pair b d
pair_is p q = λ i. pair (p i) (q i)

abbrev ReplicaFields : Type 0
ReplicaFields = SealedImage × Option Seal

abbrev replica_fields : State → ReplicaFields
replica_fields r = (stands_as r.held, seals_of r.sealed)

abbrev AreFields : ReplicaFields → Type 0
AreFields x = AreParts x.0 × IsOption IsSeal x.1

pub reads_replica : (block chunk : ℕ) → Reads (IsReplica block chunk) replica (replica_at block chunk)
unfolding replica_at
reads_replica block chunk = reads_made {fields = replica_fields} (reads_both reads_parts reads_seals) (record { back = λ y is. is; forth = forth }) where
  fields_again : (x : ReplicaFields) (r : State) → Stands x.1 (stands_of block chunk x.0) r → replica_fields r ≡ x
  fields_again x r s =
      let stands = stands_again block chunk x.0 s.held s.stands in
      let seals = seals_again s.held x.1 ((decides_belongs_in s.held x.1).0 s.belongs) in
      subst (λ (z : State). replica_fields z ≡ x) s.whole (pair_is stands seals)

  forth : (x : ReplicaFields) (r : State) → AreFields x → replica_of block chunk x ≡ Some r → (replica_fields r ≡ x) × IsReplica block chunk r
  forth x r is e =
      let same = fields_again x r (stands_with x.1 (stands_of block chunk x.0) r e) in
      (same, (subst AreFields (sym same) is, ap (replica_of block chunk) same ∙ e))

-- each replica in memory is one
kept_with : (r : State) (o : Option Seal) → belongs_in r.held o ≡ true → seen_in r.held o ≡ r.sealed → with_seal o (Ok r.held) ≡ Some r
kept_with r o belongs seen = rw belongs (ap Some (λ i. record { held = r.held; sealed = seen i }))

pub held_are : (r : State) (o : Option Seal) → IsWhole r → seen_in r.held o ≡ r.sealed → BelongsIn r.held o → IsTold r → IsReplica r.held.chunk.block r.held.chunk.chunk r
held_are r o whole seen belongs is =
    let same : seals_of r.sealed ≡ o = ap seals_of (sym seen) ∙ seals_again r.held o belongs in (
      is,
      ap (λ (z : Option Seal). with_seal z (stands_of r.held.chunk.block r.held.chunk.chunk (stands_as r.held))) same
          ∙ ap (with_seal o) (made_again r.held whole.stands)
          ∙ kept_with r o ((decides_belongs_in r.held o).1 belongs) seen,
    )

-- ---- what is made of parts

pub parts_made : (o : Option Seal) (made : Result Held Refusal) (r : State) → PartsMake o made (Ok r) → with_seal o made ≡ Some r
parts_made o (Ok h) r m = rw ((decides_belongs_in h o).1 m.1) (ap Some (sym m.0))
parts_made o (Err x) r m = absurd m

none_by : (h : Held) (o : Option Seal) (b : Bool) → belongs_in h o ≡ b → ¬ (BelongsIn h o) → belongs_in h o ≡ false
none_by h o true e n = absurd (n ((decides_belongs_in h o).0 e))
none_by h o false e n = e

pub parts_refused : (o : Option Seal) (made : Result Held Refusal) (e : Refusal) → PartsMake o made (Err e) → with_seal o made ≡ None
parts_refused o (Ok h) e m = rw (none_by h o (belongs_in h o) refl m.1) refl
parts_refused o (Err x) e m = refl

-- the seal of a replica as it is written
pub seals_seen : (h : Held) (o : Option Seal) (sealed : Option Sealed) → seen_in h o ≡ sealed → BelongsIn h o → seals_of sealed ≡ o
seals_seen h o sealed seen belongs = ap seals_of (sym seen) ∙ seals_again h o belongs

pub replica_read : (block chunk : ℕ) (bytes mid rest : List ℕ) (i : SealedImage) (o : Option Seal) (r : State) → parts_at bytes ≡ Some (i, mid) → option_at seal_at mid ≡ Some (o, rest) → PartsMake o (stands_of block chunk i) (Ok r)
    → replica_at block chunk bytes ≡ Some (r, rest)
unfolding replica_at
replica_read block chunk bytes mid rest i o r first second m = rw first (rw second (rw (parts_made o (stands_of block chunk i) r m) refl))

pub replica_unread : (block chunk : ℕ) (bytes mid rest : List ℕ) (i : SealedImage) (o : Option Seal) (e : Refusal) → parts_at bytes ≡ Some (i, mid) → option_at seal_at mid ≡ Some (o, rest) → PartsMake o (stands_of block chunk i) (Err e)
    → replica_at block chunk bytes ≡ None
unfolding replica_at
replica_unread block chunk bytes mid rest i o e first second m = rw first (rw second (rw (parts_refused o (stands_of block chunk i) e m) refl))
