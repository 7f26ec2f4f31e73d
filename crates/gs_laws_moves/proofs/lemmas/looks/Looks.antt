-- What the look-ups of a file are answered.
use Rattle.std.proofs.Common.{◌≡◌, ◌∙◌, inl, inr, ℕ, Bool, true, false, List, [], ◌∷◌, map, refl, ap, sym}
use Rattle.std.specs.Prelude.{slice_get, Option, Some, None, Result, Ok, Err}
use Rattle.std.specs.FinMap as fin
use Rattle.gs_base.specs.declared.numbers.ReqId.{ReqId}
use Rattle.gs_base.specs.declared.refusal.Refusal.{Refusal}
use Rattle.gs_base.specs.declared.refusal.Refusal.TheVariants as refusals
use Rattle.gs_tree.specs.Entry.{Dir, Entry, File}
use Rattle.gs_lease.specs.declared.view.View.{View}
use Rattle.gs_msg.specs.declared.answer.Answer.{Answer}
use Rattle.gs_msg.specs.declared.answer.Answer.TheVariants as answers
use Rattle.gs_msg.specs.declared.answer.ChunkStatus.{ChunkStatus}
use Rattle.gs_msg.specs.declared.answer.Status.TheVariants as statuses
use Rattle.gs_msg.specs.declared.body.Body.TheVariants as bodies
use Rattle.gs_msg.specs.declared.call.Call.TheVariants as calls
use Rattle.gs_path.specs.Path.{Path}
use Rattle.gs_master_spec.specs.Applied.{view_in}
use Rattle.gs_master_spec.specs.Calls.{chunk_status, found_chunk, is_locked, location, location_on, looked_up, ordered, refused_before, status}
use Rattle.gs_master_spec.specs.Durable.{Durable, is_rolling}
use Rattle.gs_master_spec.specs.Handling.{called_unless}
use Rattle.gs_master_spec.specs.State.{State, first_of, is_failed, reply_to}
use Rattle.gs_laws_moves.specs.answers.AtOnce.{OneSays}
use Rattle.gs_laws_moves.specs.looks.Looked.{IsLookedUp, Locates, LocationsAreAnswered, LocationsTellChunks, StatusesAreAnswered, StatusesTellFiles}

pub no_answer : {T : Type 0} (req : ReqId) (refusal : Refusal) (answer : Answer) → OneSays req (Ok answer) (reply_to req (Err refusal) ∷ []) → T
no_answer req refusal answer (inl is) = absurd (other_result is)
  where
    other_result : bodies.Reply req (Err refusal) ≡ bodies.Reply req (Ok answer) → ⊥
    other_result is = cc
no_answer req refusal answer (inr none) = absurd none

answer_said : (req : ReqId) (given answer : Answer) → OneSays req (Ok answer) (reply_to req (Ok given) ∷ []) → given ≡ answer
answer_said req given answer (inl is) = same is
  where
    same : bodies.Reply req (Ok given) ≡ bodies.Reply req (Ok answer) → given ≡ answer
    same is = cc
answer_said req given answer (inr none) = absurd none

ok_is : {a b : Answer} → ◌≡◌ {A = Result Answer Refusal} (Ok a) (Ok b) → a ≡ b
ok_is is = cc

err_ok : {e : Refusal} {a : Answer} {Z : Type 0} → ◌≡◌ {A = Result Answer Refusal} (Err e) (Ok a) → Z
err_ok is = absurd (never is)
  where
    never : {e : Refusal} {a : Answer} → ◌≡◌ {A = Result Answer Refusal} (Err e) (Ok a) → ⊥
    never is = cc

module _ (s : State) (req : ReqId) (answer : Answer) where
  given_so : (r : Result Answer Refusal) → OneSays req (Ok answer) (looked_up s req r).sent → r ≡ Ok answer
  given_so (Ok given) says = ap Ok (answer_said req given answer says)
  given_so (Err refusal) says = no_answer req refusal answer says

-- neither is taken where a disk has failed, or a rollback is begun
status_passed : (s : State) (req : ReqId) (path : Path) → refused_before s req (calls.Status path) ≡ None → (is_failed s.fault ≡ false) × (is_rolling s.durable.phase ≡ false)
status_passed s req path is = by_tests (is_failed s.fault) (is_rolling s.durable.phase) is
  where
    by_tests : (failed rolling : Bool) → first_of (ordered failed rolling s.volatile.is_preparing (is_locked s req (calls.Status path)) (calls.Status path)) ≡ None → (failed ≡ false) × (rolling ≡ false)
    by_tests true rolling is = absurd cc
    by_tests false true is = absurd cc
    by_tests false false is = (refl, refl)

location_passed : (s : State) (req : ReqId) (path : Path) (index : ℕ) → refused_before s req (calls.FindForReading path index) ≡ None → (is_failed s.fault ≡ false) × (is_rolling s.durable.phase ≡ false)
location_passed s req path index is = by_tests (is_failed s.fault) (is_rolling s.durable.phase) is
  where
    by_tests : (failed rolling : Bool) → first_of (ordered failed rolling s.volatile.is_preparing (is_locked s req (calls.FindForReading path index)) (calls.FindForReading path index)) ≡ None → (failed ≡ false) × (rolling ≡ false)
    by_tests true rolling is = absurd cc
    by_tests false true is = absurd cc
    by_tests false false is = (refl, refl)

pub statuses_answered : StatusesAreAnswered
statuses_answered config s req moment path answer says = by_refusal (refused_before s req (calls.Status path)) refl says
  where
    gives : Result Answer Refusal
    gives = status s.durable (fin.get s.durable.names.tree path)

    by_refusal : (o : Option Refusal) → refused_before s req (calls.Status path) ≡ o → OneSays req (Ok answer) (called_unless config s req moment (calls.Status path) o).sent → IsLookedUp s gives answer
    by_refusal None none says = (let passed = status_passed s req path none in record { is = given_so s req answer gives says; sound = passed.0; rolling = passed.1 })
    by_refusal (Some refusal) none says = no_answer req refusal answer says

pub locations_answered : LocationsAreAnswered
locations_answered config s req moment path index answer says = by_refusal (refused_before s req (calls.FindForReading path index)) refl says
  where
    gives : Result Answer Refusal
    gives = location s.durable (found_chunk (fin.get s.durable.names.tree path) index)

    by_refusal : (o : Option Refusal) → refused_before s req (calls.FindForReading path index) ≡ o → OneSays req (Ok answer) (called_unless config s req moment (calls.FindForReading path index) o).sent → IsLookedUp s gives answer
    by_refusal None none says = (let passed = location_passed s req path index none in record { is = given_so s req answer gives says; sound = passed.0; rolling = passed.1 })
    by_refusal (Some refusal) none says = no_answer req refusal answer says

-- ---- what they tell

handles_of : (d : Durable) (many : List ℕ) → map (λ (c : ChunkStatus). c.handle) (map (chunk_status d) many) ≡ many
handles_of d [] = refl
handles_of d (chunk ∷ many) = ap (λ (xs : List ℕ). chunk ∷ xs) (handles_of d many)

pub statuses_tell : StatusesTellFiles
statuses_tell d path chunks gives = by_entry (fin.get d.names.tree path) gives
  where
    tells : {a b : List ChunkStatus} → ◌≡◌ {A = Result Answer Refusal} (Ok (answers.Status (statuses.File a))) (Ok (answers.Status (statuses.File b))) → a ≡ b
    tells is = cc

    no_file : {b : List ChunkStatus} {Z : Type 0} → ◌≡◌ {A = Result Answer Refusal} (Ok (answers.Status statuses.Directory)) (Ok (answers.Status (statuses.File b))) → Z
    no_file is = absurd (never is)
      where
        never : {b : List ChunkStatus} → ◌≡◌ {A = Result Answer Refusal} (Ok (answers.Status statuses.Directory)) (Ok (answers.Status (statuses.File b))) → ⊥
        never is = cc

    by_entry : (o : Option (Entry ℕ)) → status d o ≡ Ok (answers.Status (statuses.File chunks)) → o ≡ Some (File (map (λ (c : ChunkStatus). c.handle) chunks))
    by_entry None h = err_ok h
    by_entry (Some Dir) h = no_file h
    by_entry (Some (File many)) h = ap (λ (xs : List ℕ). Some (File xs)) (sym (handles_of d many) ∙ ap (map (λ (c : ChunkStatus). c.handle)) (tells h))

abbrev found_in : Option ℕ → Result ℕ Refusal
found_in None = Err refusals.Range
found_in (Some chunk) = Ok chunk

pub locations_tell : LocationsTellChunks
locations_tell d path index answer gives = by_entry (fin.get d.names.tree path) refl gives
  where
    by_view : (chunks : List ℕ) (chunk : ℕ) → fin.get d.names.tree path ≡ Some (File chunks) → slice_get chunks index ≡ Some chunk → found_chunk (fin.get d.names.tree path) index ≡ Ok chunk → (view : Option View) → view_in (fin.get d.chunks chunk) ≡ view
        → location_on chunk d.epoch view ≡ Ok answer → Locates d path index answer
    by_view chunks chunk file place found None settled h = err_ok h
    by_view chunks chunk file place found (Some view) settled h = record { chunks = chunks; file = file; chunk = chunk; place = place; found = found; view = view; settled = settled; says = sym (ok_is h) }

    by_place : (chunks : List ℕ) → fin.get d.names.tree path ≡ Some (File chunks) → (o : Option ℕ) → slice_get chunks index ≡ o → location d (found_chunk (Some (File chunks)) index) ≡ Ok answer → Locates d path index answer
    by_place chunks file None at h = err_ok (sym (ap (λ o. location d (found_in o)) at) ∙ h)
    by_place chunks file (Some chunk) at h =
        by_view chunks chunk file at (ap (λ o. found_chunk o index) file ∙ ap found_in at) (view_in (fin.get d.chunks chunk)) refl (sym (ap (λ o. location d (found_in o)) at) ∙ h)

    by_entry : (o : Option (Entry ℕ)) → fin.get d.names.tree path ≡ o → location d (found_chunk o index) ≡ Ok answer → Locates d path index answer
    by_entry None is h = err_ok h
    by_entry (Some Dir) is h = err_ok h
    by_entry (Some (File chunks)) is h = by_place chunks is (slice_get chunks index) refl h
