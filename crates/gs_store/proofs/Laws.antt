-- What holds of a slot through its calls.
use Rattle.std.proofs.Common.{List, ◌≡◌, ℕ, Bool, true, false, cond, [], ◌∷◌, Option, Some, None, refl, sym, ap, subst, ◌∙◌, arith}
use Rattle.std.specs.Prelude.{Result, Ok, Err, is_some, not, ◌&&◌}
use Rattle.std.proofs.lemmas.Bool.Decides.{nat_tests}
use Rattle.std.specs.Result.{result_ok}
use Rattle.gs_base.specs.declared.numbers.Stamp.{Stamp}
use Rattle.gs_base.specs.Stamps.{is_before, is_same}
use Rattle.gs_base.specs.declared.refusal.Refusal.{Refusal}
use Rattle.gs_base.specs.declared.refusal.Refusal.TheVariants as refusals
use Rattle.gs_base.specs.declared.numbers.ReqId.{ReqId}
use Rattle.gs_replica.specs.declared.op.Op.{Op}
use Rattle.gs_replica.specs.Held.{Held}
use Rattle.gs_replica.specs.Edits as edits
use Rattle.gs_store.specs.Serving.{apply_to}
use Rattle.gs_replica.specs.Copies.{and_then}
use Rattle.gs_store.specs.Moves.{source, live_in, sound_image}
use Rattle.gs_store.proofs.Calls.{standing_in}
use Rattle.gs_replica.specs.Seals.{with_seal, on_seal, touch_seal, Sealed, State}
use Rattle.gs_store_seal.specs.Trash.{trash_of}
use Rattle.gs_store.specs.Slots.{with_live, Live, Slot, first_of, when, unless, unless_live, if_bad, again, replaced, removed, trash_behind, trashed_seal, seal_in, seal_of, sealed_of, risen, live_under, mark_bad, marked_live}
use Rattle.gs_store_seal.specs.Rollback.{later}
use Rattle.gs_store.specs.Learning.{start_of, rolled_to}

-- the order of stamps
pub not_before_itself : (a : Stamp) → is_before a a ≡ false
not_before_itself a = grind (arith, nat_tests)

pub not_both : (a b : Stamp) → is_before a b ≡ true → is_before b a ≡ false
not_both a b before = grind (arith, nat_tests)

pub not_below : (a b : Stamp) → is_before (later a b) a ≡ false
not_below a b = by_case (is_before a b) refl
  where
    by_case : (t : Bool) → is_before a b ≡ t → is_before (cond t b a) a ≡ false
    by_case true is = not_both a b is
    by_case false is = not_before_itself a

-- A fact of what a call accepts, by the cases of its definition.
abbrev pub Holds : (Slot → Type 0) → Result Slot Refusal → Type 0
Holds P (Ok s) = P s
Holds P (Err e) = Unit {0}

pub of_ok : (P : Slot → Type 0) (m : Result Slot Refusal) (s : Slot) → m ≡ Ok s → Holds P m → P s
of_ok P m s is h = subst (Holds P) is h

pub of_cond : (P : Slot → Type 0) (test : Bool) (m n : Result Slot Refusal) → (test ≡ true → Holds P m) → (test ≡ false → Holds P n) → Holds P (cond test m n)
of_cond P true m n first second = first refl
of_cond P false m n first second = second refl

pub of_unless : (P : Slot → Type 0) (o : Option Refusal) (s : Slot) → (o ≡ None → P s) → Holds P (unless o (Ok s))
of_unless P None s h = h refl
of_unless P (Some e) s h = tt

pub of_again : (P : Slot → Type 0) (stamp : Stamp) (s : Slot) → P s → Holds P (again stamp s)
of_again P stamp s h = of_cond P (is_same stamp s.promise && is_some s.live) (Ok s) (Err refusals.Old) (λ _. h) (λ _. tt)

-- a call that refuses only what isn't above the promise
pub of_raised : (P : Slot → Type 0) (stamp : Stamp) (carried : Bool) (r : State) (s : Slot) → P s → (is_before s.promise stamp ≡ true → P (replaced stamp carried r s)) → Holds P (cond (is_before s.promise stamp) (Ok (replaced stamp carried r s)) (again stamp s))
of_raised P stamp carried r s h up = of_cond P (is_before s.promise stamp) (Ok (replaced stamp carried r s)) (again stamp s) up (λ _. of_again P stamp s h)

-- what is sealed goes to the trash with its replica
behind_one : (o : Option Sealed) (r : State) (trash : Option State) → r.sealed ≡ o → trashed_seal (trash_of o r trash) ≡ seal_in o trash
behind_one None r trash is = refl
behind_one (Some t) r trash is = is

behind : (live : Option Live) (trash : Option State) → trashed_seal (trash_behind live trash) ≡ seal_of live trash
behind None trash = refl
behind (Some l) trash = behind_one l.replica.sealed l.replica trash refl

pub removed_stays : (s : Slot) → sealed_of (removed s) ≡ sealed_of s
removed_stays s = behind s.live s.trash

pub replaced_stays : (stamp : Stamp) (carried : Bool) (r : State) (s : Slot) → r.sealed ≡ None → sealed_of (replaced stamp carried r s) ≡ sealed_of s
replaced_stays stamp carried r s is = ap (λ o. seal_in o (trash_behind s.live s.trash)) is ∙ behind s.live s.trash

under_stays : (stamp : Stamp) (live : Option Live) (trash : Option State) → seal_of (live_under stamp live) trash ≡ seal_of live trash
under_stays stamp None trash = refl
under_stays stamp (Some l) trash = refl

pub risen_stays : (stamp : Stamp) (s : Slot) → sealed_of (risen stamp s) ≡ sealed_of s
risen_stays stamp s = under_stays stamp s.live s.trash

mark_stays : (block : ℕ) (live : Option Live) (trash : Option State) → seal_of (marked_live block live) trash ≡ seal_of live trash
mark_stays block None trash = refl
mark_stays block (Some l) trash = refl

pub marked_stays : (block : ℕ) (s : Slot) → sealed_of (mark_bad block s) ≡ sealed_of s
marked_stays block s = mark_stays block s.live s.trash

pub rolled_rises : (m : Result State Refusal) (epoch : ℕ) (s : Slot) → is_before (rolled_to (later s.promise (start_of epoch)) m s).promise s.promise ≡ false
rolled_rises (Ok r) epoch s = not_below s.promise (start_of epoch)
rolled_rises (Err e) epoch s = not_before_itself s.promise

-- refusals of a bad replica
pub behind_when : {A : Type 0} (a : Bool) (e f : Refusal) (m : Result A Refusal) → result_ok (unless (first_of (when a e ∷ Some f ∷ [])) m) ≡ None
behind_when true e f m = refl
behind_when false e f m = refl

pub behind_both : {A : Type 0} (a b : Bool) (e g f : Refusal) (m : Result A Refusal) → result_ok (unless (first_of (when a e ∷ when b g ∷ Some f ∷ [])) m) ≡ None
behind_both true b e g f m = refl
behind_both false true e g f m = refl
behind_both false false e g f m = refl

pub behind_promise : {A : Type 0} (a : Bool) (e f : Refusal) (m : Result A Refusal) → result_ok (unless (first_of (when a e ∷ None ∷ Some f ∷ [])) m) ≡ None
behind_promise true e f m = refl
behind_promise false e f m = refl

-- what a bad replica's slot refuses is refused of its copies
pub then_none : {A B : Type 0} (m : Result A Refusal) (f : A → Result B Refusal) → result_ok m ≡ None → result_ok (and_then m f) ≡ None
then_none (Ok a) f none = absurd (cc)
then_none (Err e) f none = refl

pub bad_source : (at : Stamp) (block : ℕ) (s : Slot) (r : State) → s.live ≡ Some (record { replica = r; bad = Some block }) → result_ok (source at s) ≡ None
bad_source at block s r is =
    subst (λ l. result_ok (unless (first_of (when (not (is_same at s.promise)) (refusals.Stamp s.promise) ∷ unless_live l ∷ if_bad l ∷ [])) (live_in l)) ≡ None) (sym is)
    (behind_promise (not (is_same at s.promise)) (refusals.Stamp s.promise) (refusals.Damaged block) _)

-- what isn't refused as old
abbrev IsRefused : Option Refusal → Type 0
IsRefused None = ⊥
IsRefused (Some e) = Unit {0}

never : (e : Refusal) (o : Option Refusal) → o ≡ Some e → o ≡ None → ⊥
never e o some none = subst IsRefused none (subst IsRefused (sym some) tt)

pub not_old : (o p : Option Refusal) (test : Bool) (e : Refusal) → first_of (o ∷ p ∷ when test e ∷ []) ≡ None → test ≡ false
not_old None None false e is = refl
not_old None None true e is = elim (never e (Some e) refl is) [ ]
not_old None (Some f) test e is = elim (never f (Some f) refl is) [ ]
not_old (Some f) p test e is = elim (never f (Some f) refl is) [ ]

-- an edit touches blocks and requests of what is sealed, and leaves what undoing gives
touched_stays : (req : ReqId) (op : Op) (bytes : List ℕ) (h : Held) (o : Option Sealed) (trash : Option State) → sound_image (seal_in (on_seal (touch_seal req op bytes h) o) trash) ≡ sound_image (seal_in o trash)
touched_stays req op bytes h None trash = refl
touched_stays req op bytes h (Some t) trash = refl

in_live : (P : Slot → Type 0) (s : Slot) (bad : Option ℕ) (sealed : Option Sealed) (m : Result Held Refusal) → ((h : Held) → P (standing_in s bad (record { held = h; sealed = sealed }))) → Holds P (with_live s bad (with_seal sealed m))
in_live P s bad sealed (Ok h) each = each h
in_live P s bad sealed (Err e) each = tt

pub edited_stays : (stamp : Stamp) (number : ℕ) (req : ReqId) (op : Op) (bytes : List ℕ) (s : Slot) (live : Option Live) → Holds (λ x. sound_image (sealed_of x) ≡ sound_image (seal_of live s.trash)) (apply_to stamp number req op bytes s live)
edited_stays stamp number req op bytes s None = tt
edited_stays stamp number req op bytes s (Some l) =
    in_live (λ x. sound_image (sealed_of x) ≡ sound_image (seal_in l.replica.sealed s.trash)) s l.bad (on_seal (touch_seal req op bytes l.replica.held) l.replica.sealed) (edits.apply stamp number req op bytes l.replica.held)
    (λ h. touched_stays req op bytes l.replica.held l.replica.sealed s.trash)
