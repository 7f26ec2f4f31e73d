-- What a server names of a rollback.
use Rattle.std.proofs.Common.{◌≡◌, ℕ, Bool, true, false, cond, length, Option, Some, None, refl, ap, subst, ◌∙◌, arith}
use Rattle.std.specs.Prelude.{is_some, is_none, not, ◌==◌, ◌&&◌}
use Rattle.std.proofs.lemmas.Bool.Decides.{nat_tests}
use Rattle.gs_base.specs.declared.numbers.Stamp.{Stamp}
use Rattle.gs_base.specs.Stamps.{is_before, is_same}
use Rattle.gs_block.specs.Stored.{Stored, IsStored, count_of, first_damaged, are_digests}
use Rattle.gs_block.specs.Edits.{unless_damaged}
use Rattle.gs_replica.specs.Seals.{Sealed, State, lowest_damaged, roll_back_to}
use Rattle.gs_replica.specs.Copies.{as_sealed}
use Rattle.gs_replica.specs.Whole.{HasUndone}
use Rattle.gs_store.specs.Slots.{Live, Slot, trashed_seal, seal_in, seal_of, sealed_of}
use Rattle.gs_store.specs.Whole.{LiveWhole, TrashWhole, IsWholeSlot}
use Rattle.gs_store.specs.Moves.{unless_lost, sound_image}
use Rattle.gs_store_seal.specs.Rollback.{later}
use Rattle.gs_store.specs.Learning.{start_of, rolled_to, is_named}

abbrev SealStored : Option Sealed → Type 0
SealStored None = Unit {0}
SealStored (Some t) = IsStored t.undone

undone_stored : (s : Stored) (o : Option Sealed) → HasUndone s o → SealStored o
undone_stored s None has = tt
undone_stored s (Some t) has = has.stored

trash_stored : (trash : Option State) → TrashWhole trash → SealStored (trashed_seal trash)
trash_stored None whole = tt
trash_stored (Some r) whole = undone_stored r.held.chunk r.sealed whole.undoing

in_stored : (o : Option Sealed) (trash : Option State) → SealStored o → TrashWhole trash → SealStored (seal_in o trash)
in_stored None trash here whole = trash_stored trash whole
in_stored (Some t) trash here whole = here

seal_stored : (live : Option Live) (trash : Option State) → LiveWhole live → TrashWhole trash → SealStored (seal_of live trash)
seal_stored None trash here whole = trash_stored trash whole
seal_stored (Some l) trash here whole = in_stored l.replica.sealed trash (undone_stored l.replica.held.chunk l.replica.sealed here.undoing) whole

same_many : (m n : ℕ) → m ≡ n → (m == n) ≡ true
same_many m n h = grind (arith, nat_tests)

-- an undamaged chunk in memory has its digests
undamaged : (s : Stored) → IsStored s → lowest_damaged s ≡ None → are_digests s.block s.bytes s.digests ≡ true
undamaged s stored none =
    let many = count_of s.block (length s.bytes) in
    ap (λ b. b && is_none (first_damaged s.block s.bytes s.digests 0 many)) (same_many (length s.digests) many stored.each)
    ∙ ap is_none (subst (λ n. first_damaged s.block s.bytes s.digests 0 n ≡ None) stored.each none)

starts : (p q : Stamp) → is_same (later p q) q ≡ not (is_before q p)
starts p q = by_case (is_before p q) refl
  where
    before : is_before p q ≡ true → is_same q q ≡ not (is_before q p)
    before h = grind (arith, nat_tests)

    behind : is_before p q ≡ false → is_same p q ≡ not (is_before q p)
    behind h = grind (arith, nat_tests)

    by_case : (t : Bool) → is_before p q ≡ t → is_same (cond t q p) q ≡ not (is_before q p)
    by_case true h = before h
    by_case false h = behind h

nothing_named : (b : Bool) → (b && false) ≡ false
nothing_named true = refl
nothing_named false = refl

all_named : (b d : Bool) → d ≡ true → (b && d) ≡ b
all_named true d h = h
all_named false d h = refl

named_case : (epoch : ℕ) (s : Slot) (t : Sealed) (d : Option ℕ) → lowest_damaged t.undone ≡ d → IsStored t.undone →
    (let p = later s.promise (start_of epoch) in
    let r : State = record { held = record { chunk = t.undone; count = t.count; done = t.done; promise = p }; sealed = None } in
    is_named epoch (rolled_to p (unless_damaged d r) s)) ≡ (is_some (unless_lost d (as_sealed t)) && not (is_before (start_of epoch) s.promise))
named_case epoch s t None none stored =
    all_named (is_same (later s.promise (start_of epoch)) (start_of epoch)) (are_digests t.undone.block t.undone.bytes t.undone.digests) (undamaged t.undone stored none) ∙ starts s.promise (start_of epoch)
named_case epoch s t (Some k) found stored = nothing_named (is_same s.promise (start_of epoch))

pub named : (epoch : ℕ) (s : Slot) (o : Option Sealed) → SealStored o →
    is_named epoch (rolled_to (later s.promise (start_of epoch)) (roll_back_to (later s.promise (start_of epoch)) o) s) ≡ (is_some (sound_image o) && not (is_before (start_of epoch) s.promise))
named epoch s None stored = nothing_named (is_same s.promise (start_of epoch))
named epoch s (Some t) stored = named_case epoch s t (lowest_damaged t.undone) refl stored

pub named_whole : (epoch : ℕ) (s : Slot) → IsWholeSlot s →
    is_named epoch (rolled_to (later s.promise (start_of epoch)) (roll_back_to (later s.promise (start_of epoch)) (sealed_of s)) s) ≡ (is_some (sound_image (sealed_of s)) && not (is_before (start_of epoch) s.promise))
named_whole epoch s whole = named epoch s (sealed_of s) (seal_stored s.live s.trash whole.live whole.trash)
