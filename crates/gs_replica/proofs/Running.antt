-- Runs of calls that leave a seal.
use Rattle.std.proofs.Common.{◌≡◌, ℕ, List, [], ◌∷◌, refl, sym, ap, subst, ◌∙◌}
use Rattle.std.specs.Prelude.{Option, None, Ok}
use Rattle.gs_base.specs.declared.numbers.Stamp.{Stamp}
use Rattle.gs_replica.specs.Seals.{Sealed, State, touch_seal, damage_seal, roll_back, seal, unseal, lowest_damaged}
use Rattle.gs_replica.specs.Copies.{under}
use Rattle.gs_replica.specs.Stands.{Edit, StoodFor, SealedAt}
use Rattle.gs_replica.specs.Calls.{Call, Applies, Undoes, Promises, Damages, called, LeadsTo, IsSparing, LeadsSparing}
use Rattle.gs_replica.proofs.Listing.{seal_ok}
use Rattle.gs_replica.proofs.Stood.{on_stood, damage_stood, undo_ok}
use Rattle.gs_replica.proofs.Returning.{rolls_same, rolls_damaged, rolls_there, rolls_on}

-- each call leaves what a sealed replica stood for
pub called_stood : (size limit : ℕ) (xs : List Edit) (c : Call) (r r2 : State) → SealedAt size limit r xs → called c r ≡ Ok r2 → SealedAt size limit r2 xs
called_stood size limit xs (Applies stamp number req op bytes) r r2 stood e =
    subst (λ (o : Option Sealed). StoodFor size limit o xs) (sym (seal_ok _ _ r2 e).1)
    (on_stood size limit xs (touch_seal req op bytes r.held) r.sealed (λ t s. record { block = s.block; chunk = s.chunk; taken = s.taken; count = s.count; done = s.done; bytes = s.bytes }) stood)
called_stood size limit xs (Undoes i) r r2 stood e = subst (λ (o : Option Sealed). StoodFor size limit o xs) (sym (seal_ok _ _ r2 (undo_ok _ _ r2 e)).1) stood
called_stood size limit xs (Promises stamp) r r2 stood e = subst (λ (o : Option Sealed). StoodFor size limit o xs) (sym (seal_ok _ _ r2 e).1) stood
called_stood size limit xs (Damages index) r r2 stood e =
    subst (λ (o : Option Sealed). StoodFor size limit o xs) (sym (seal_ok _ _ r2 e).1)
    (on_stood size limit xs (damage_seal index) r.sealed (λ t s. damage_stood size limit xs index t s) stood)

pub leads_stood : (size limit : ℕ) (xs : List Edit) (r end : State) (calls : List Call) → SealedAt size limit r xs → LeadsTo r calls end → SealedAt size limit end xs
leads_stood size limit xs r end [] stood leads = subst (λ (q : State). SealedAt size limit q xs) (sym leads) stood
leads_stood size limit xs r end (c ∷ calls) stood leads = leads_stood size limit xs leads.0 end calls (called_stood size limit xs c r leads.0 stood leads.1) leads.2

-- and what a rollback gives
pub called_rolls : (start : Stamp) (c : Call) (r r2 : State) → IsSparing c r → called c r ≡ Ok r2 → roll_back start r2 ≡ roll_back start r
called_rolls start (Applies stamp number req op bytes) r r2 spares e = rolls_on start r r2 _ (seal_ok _ _ r2 e).1 (rolls_same start (touch_seal req op bytes r.held) r.sealed (λ t. refl))
called_rolls start (Undoes i) r r2 spares e = rolls_on start r r2 _ (seal_ok _ _ r2 (undo_ok _ _ r2 e)).1 refl
called_rolls start (Promises stamp) r r2 spares e = rolls_on start r r2 _ (seal_ok _ _ r2 e).1 refl
called_rolls start (Damages index) r r2 spares e = rolls_on start r r2 _ (seal_ok _ _ r2 e).1 (rolls_damaged start index r.sealed spares)

pub leads_rolls : (start : Stamp) (r end : State) (calls : List Call) → LeadsSparing r calls end → roll_back start end ≡ roll_back start r
leads_rolls start r end [] leads = ap (roll_back start) leads
leads_rolls start r end (c ∷ calls) leads = leads_rolls start leads.0 end calls leads.3 ∙ called_rolls start c r leads.0 leads.2 leads.1

-- a replica that was undamaged when it was sealed goes back to what it was, under another promise
pub goes_back : (start : Stamp) (r end : State) (calls : List Call) → lowest_damaged r.held.chunk ≡ None → LeadsSparing (seal r) calls end → roll_back start end ≡ under start (Ok (unseal r))
goes_back start r end calls none leads = leads_rolls start (seal r) end calls leads ∙ rolls_there r start none
