-- That what is planned comes with other records of an event.
use Rattle.std.proofs.Common.{◌≡◌, ◌∙◌, ℕ, ◌&&◌, ◌||◌, Bool, true, false, cond, List, [], ◌∷◌, ◌++◌, Option, Some, None, refl, ap}
use Rattle.std.specs.List.{list_any}
use Rattle.gs_base.specs.declared.numbers.ReqId.{ReqId}
use Rattle.gs_base.specs.declared.refusal.Refusal.{Refusal}
use Rattle.gs_lease.specs.declared.view.View.{View}
use Rattle.gs_msg.specs.declared.answer.Answer.{Answer}
use Rattle.gs_master_record.specs.Plain.{PlainEntry, Edited, Said, Propose, Settle, Prepare, Finalize, RollbackBegin, RollbackCommit, Whole, Holder}
use Rattle.gs_master_record.specs.declared.checkpoint.Phase.{Phase}
use Rattle.gs_master_spec.specs.Applied.{is_whole_entry}
use Rattle.gs_master_spec.specs.Chunks.{holder_records, is_holder, settling, target_of}
use Rattle.gs_master_spec.specs.Settling.{end_plan}
use Rattle.gs_master_spec.specs.State.{State, fits, keeps_refusal, refusal_plan}
use Rattle.gs_master_state.specs.inner.TakingBack.{comes_alone}
use Rattle.gs_master.specs.inner.Turns.{ComesWithOthers}
use Rattle.gs_master_spec.specs.declared.asking.Asking.{Asking}
use Rattle.gs_master_spec.specs.declared.asking.Prepared.{Prepared}
use Rattle.gs_master_spec.specs.declared.change.Change.{Change}

-- ---- records

whole_alone : (entry : PlainEntry) → comes_alone entry ≡ false → is_whole_entry entry ≡ false
whole_alone (Edited by edit) h = refl
whole_alone (Said to refusal) h = refl
whole_alone (Propose chunk version) h = refl
whole_alone (Settle v) h = refl
whole_alone (Prepare epoch moment chunks) h = refl
whole_alone (Finalize epoch) h = refl
whole_alone (RollbackBegin epoch) h = refl
whole_alone (RollbackCommit epoch answers) h = refl
whole_alone (Whole c) h = h
whole_alone (Holder chunk server) h = refl

neither : (a b : Bool) → (a || b) ≡ false → (a ≡ false) × (b ≡ false)
neither true b h = (h, cc)
neither false b h = (refl, h)

both_none : (a b : Bool) → a ≡ false → b ≡ false → (a || b) ≡ false
both_none a b h k = ap (λ x. x || b) h ∙ k

-- what comes with others is no checkpoint
pub no_checkpoint : (records : List PlainEntry) → list_any comes_alone records ≡ false → list_any is_whole_entry records ≡ false
no_checkpoint [] h = refl
no_checkpoint (x ∷ xs) h =
    let parts = neither (comes_alone x) (list_any comes_alone xs) h in both_none (is_whole_entry x) (list_any is_whole_entry xs) (whole_alone x parts.0) (no_checkpoint xs parts.1)

said_with_others : (b : Bool) (req : ReqId) (refusal : Refusal) → list_any comes_alone (cond b (Said req refusal ∷ []) []) ≡ false
said_with_others true req refusal = refl
said_with_others false req refusal = refl

holder_with_others : (holds : Bool) (chunk : ℕ) (target : Option ℕ) (v : PlainEntry) → comes_alone v ≡ false → list_any comes_alone (holder_records holds chunk target ++ v ∷ []) ≡ false
holder_with_others holds chunk None v h = both_none (comes_alone v) false h refl
holder_with_others true chunk (Some target) v h = both_none (comes_alone v) false h refl
holder_with_others false chunk (Some target) v h = both_none (comes_alone v) false h refl

-- ---- plans

pub refused_together : (s : State) (req : ReqId) (refusal : Refusal) (further : List Change) (said : Option Refusal) → ComesWithOthers (refusal_plan s req refusal further said)
refused_together s req refusal further said = record { records = said_with_others (keeps_refusal s req refusal && fits s.log (Said req refusal ∷ [])) req refusal }

pub ended_together : (s : State) (req : ReqId) (answer : Answer) → ComesWithOthers (end_plan s req answer)
ended_together s req answer = record { records = refl }

pub settled_with_others : (phase : Phase) (prepared : Option Prepared) (carried : Bool) (chunk : ℕ) (asking : Asking) (view : View) → list_any comes_alone (settling phase prepared carried chunk asking view) ≡ false
settled_with_others phase prepared carried chunk asking view =
    holder_with_others (is_holder phase prepared carried asking view) chunk (target_of asking.purpose) (Settle (record { handle = chunk; view = view })) refl
