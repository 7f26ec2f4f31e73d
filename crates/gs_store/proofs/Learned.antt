-- A store that goes on to the next epoch.
use Rattle.std.proofs.Common.{◌≡◌, ℕ, ◌+◌, Bool, true, false, cond, List, map, Ok, Err, refl, sym, ap, subst, ◌∙◌, inl, inr}
use Rattle.std.specs.Prelude.{◌==◌, ◌⊎◌}
use Rattle.std.proofs.lemmas.Bool.{eqb-true, eq-eqb}
use Rattle.std.specs.FinMap as fin
use Rattle.std.specs.Ordering.{nat_cmp}
use Rattle.gs_base.specs.declared.epoch.EpochEnd.{EpochEnd}
use Rattle.gs_base.specs.declared.refusal.Refusal.TheVariants as refusals
use Rattle.gs_store.specs.Slots.{Slot}
use Rattle.gs_store.specs.Buffers.{Pushes}
use Rattle.gs_store.specs.Stores.{Store, Performs, learn, learned, gone_on}
use Rattle.gs_store.specs.inner.Placed.{IsPlaced}
use Rattle.gs_store.proofs.Places.{all_written}
use Rattle.gs_store.proofs.Changes.{seen}
use Rattle.gs_store.proofs.Maps.{len-each}

apart : (a b : ℕ) (t : Bool) → (a == b) ≡ t → (a ≡ b → ⊥) → t ≡ false
apart a b true is h = absurd (h (eqb-true a b is))
apart a b false is h = refl

learns : (e : ℕ) (end : EpochEnd) (s new : Store) → (e ≡ s.epoch → ⊥) → e ≡ s.epoch + 1 → new ≡ learned e end s → Performs {B = Unit {0}} (learn e end s) (Ok tt) s new
learns e end s new other next is =
    let first : (e == s.epoch) ≡ false = apart e s.epoch (e == s.epoch) refl other in
    let second : (e == s.epoch + 1) ≡ true = eq-eqb e (s.epoch + 1) next in
    subst (λ t. Performs {B = Unit {0}} (cond t (Ok s) (cond (e == s.epoch + 1) (Ok (learned e end s)) (Err (refusals.Epoch s.epoch)))) (Ok tt) s new) (sym first)
    (subst (λ t. Performs {B = Unit {0}} (cond t (Ok (learned e end s)) (Err (refusals.Epoch s.epoch))) (Ok tt) s new) (sym second) is)

pub is_next : (e here there : ℕ) → (e ≡ here) ⊎ (e ≡ here + 1) → there ≡ here → (e ≡ there → ⊥) → e ≡ there + 1
is_next e here there (inl is) same other = absurd (other (is ∙ sym same))
is_next e here there (inr is) same other = is ∙ ap (λ n. n + 1) (sym same)

pub goes_on : (block chunk epoch : ℕ) (places : fin.FinMap nat_cmp ℕ) (slots : List Slot) (buffer : Pushes) (s : Store) → seen block chunk epoch places slots buffer ≡ s → IsPlaced places slots
    → (e : ℕ) (end : EpochEnd) (items : List Slot) → (e ≡ epoch → ⊥) → e ≡ epoch + 1 → items ≡ map (gone_on end e) slots → Performs {B = Unit {0}} (learn e end s) (Ok tt) s (seen block chunk e places items buffer)
goes_on block chunk epoch places slots buffer s view placed e end items other next is =
    learns e end s (seen block chunk e places items buffer) (λ same. other (same ∙ ap (λ x. x.epoch) (sym view))) (next ∙ ap (λ x. x.epoch + 1) view)
    (ap (λ l. seen block chunk e places l buffer) is
    ∙ ap (λ m. record { block = block; chunk = chunk; epoch = e; slots = m; buffer = buffer }) (all_written places slots (gone_on end e) placed)
    ∙ ap (learned e end) view)

-- a store that goes on keeps as many slots
pub as_many : (e : ℕ) (end : EpochEnd) (s t : Store) → Performs {B = Unit {0}} (learn e end s) (Ok tt) s t → fin.len t.slots ≡ fin.len s.slots
as_many e end s t = by_case (e == s.epoch) (e == s.epoch + 1)
  where
    by_case : (a b : Bool) → Performs {B = Unit {0}} (cond a (Ok s) (cond b (Ok (learned e end s)) (Err (refusals.Epoch s.epoch)))) (Ok tt) s t → fin.len t.slots ≡ fin.len s.slots
    by_case true b is = ap (λ (x : Store). fin.len x.slots) is
    by_case false true is = ap (λ (x : Store). fin.len x.slots) is ∙ len-each nat_cmp (gone_on end e) s.slots
    by_case false false is = elim is [ ]
