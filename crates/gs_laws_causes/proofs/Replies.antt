-- What the replies to single requests come to.
use Rattle.std.proofs.Common.{◌≡◌, ◌⊎◌, inl, inr, ℕ, [], true, Some, None, Result, Err, refl, sym, ap, subst}
use Rattle.gs_base.specs.declared.refusal.Refusal.{Refusal}
use Rattle.gs_base.specs.declared.refusal.Refusal.TheVariants as refusals
use Rattle.gs_client_dialogue.specs.Dialogues.{ask}
use Rattle.gs_msg.specs.declared.answer.Answer.{Answer}
use Rattle.gs_msg.specs.declared.answer.Answer.TheVariants as answers
use Rattle.gs_msg.specs.declared.call.Call.{Call as Called}
use Rattle.gs_msg.specs.declared.event.Request.{Request}
use Rattle.gs_msg.specs.declared.event.Request.TheVariants as requests
use Rattle.gs_client.specs.declared.link.Reply.{Reply}
use Rattle.gs_client.specs.declared.link.Reply.TheVariants as replies
use Rattle.gs_client.specs.Replies.{changed, copied_in, deleted_in, edited, epoch_in, located_in, looked, names_in, nothing_in, path_in, phase_in, scanned_in, status_in, unsure_or}
use Rattle.gs_client.specs.Trees.{and_then, change, look}
use Rattle.gs_laws_causes.specs.Causes.{Exchanges, IsLast, Why, WhyNoReplica, WhyUnsure, may_change, only_looks}
use Rattle.gs_laws_causes.proofs.Ways.{Holds, IsClear, clash, err_clear, err_is, never, not_other, ok_clear, one_has, stray_other}

-- ---- what is read of an answer

-- an answer of another kind is nobody's
pub record Reads {A : Type 0} (says : Answer → Result A Refusal) : Type 0 where
  pub clear : (answer : Answer) → IsClear (says answer)

pub stray : {A : Type 0} → IsClear {A = A} (Err refusals.Stray)
stray = err_clear refusals.Stray stray_other

pub reads_nothing : Reads nothing_in
reads_nothing = record { clear = clear }
  where
    clear : (answer : Answer) → IsClear (nothing_in answer)
    clear answers.Nothing = ok_clear tt
    clear answer = stray

pub reads_path : Reads path_in
reads_path = record { clear = clear }
  where
    clear : (answer : Answer) → IsClear (path_in answer)
    clear (answers.Path path) = ok_clear path
    clear answer = stray

pub reads_deleted : Reads deleted_in
reads_deleted = record { clear = clear }
  where
    clear : (answer : Answer) → IsClear (deleted_in answer)
    clear (answers.Path path) = ok_clear (Some path)
    clear answers.Absent = ok_clear None
    clear answer = stray

pub reads_names : Reads names_in
reads_names = record { clear = clear }
  where
    clear : (answer : Answer) → IsClear (names_in answer)
    clear (answers.Names names) = ok_clear names
    clear answer = stray

pub reads_status : Reads status_in
reads_status = record { clear = clear }
  where
    clear : (answer : Answer) → IsClear (status_in answer)
    clear (answers.Status status) = ok_clear status
    clear answer = stray

pub reads_located : (index : ℕ) → Reads (located_in index)
reads_located index = record { clear = clear }
  where
    clear : (answer : Answer) → IsClear (located_in index answer)
    clear (answers.Location handle view epoch) = ok_clear (record { index = index; handle = handle; view = view; epoch = epoch })
    clear answer = stray

pub reads_scanned : Reads scanned_in
reads_scanned = record { clear = clear }
  where
    clear : (answer : Answer) → IsClear (scanned_in answer)
    clear (answers.Scanned removed forgotten) = ok_clear (removed, forgotten)
    clear answer = stray

pub reads_copied : Reads copied_in
reads_copied = record { clear = clear }
  where
    clear : (answer : Answer) → IsClear (copied_in answer)
    clear (answers.Copied copied) = ok_clear copied
    clear answer = stray

pub reads_epoch : Reads epoch_in
reads_epoch = record { clear = clear }
  where
    clear : (answer : Answer) → IsClear (epoch_in answer)
    clear (answers.Epoch epoch) = ok_clear epoch
    clear answer = stray

pub reads_phase : Reads phase_in
reads_phase = record { clear = clear }
  where
    clear : (answer : Answer) → IsClear (phase_in answer)
    clear (answers.Phase phase epoch) = ok_clear (phase, epoch)
    clear answer = stray

-- ---- a refusal of a change

-- it stays, but that memory or a disk was wanting
data Unsettled (f e : Refusal) : Type 0 where
  Stays : e ≡ f → Unsettled f e
  NoMemory : f ≡ refusals.Memory → e ≡ refusals.Unsure → Unsettled f e
  NoDisk : f ≡ refusals.Device → e ≡ refusals.Unsure → Unsettled f e

unsettled : (f e : Refusal) → e ≡ unsure_or f → Unsettled f e
unsettled refusals.Memory e is = NoMemory refl is
unsettled refusals.Device e is = NoDisk refl is
unsettled f e is = Stays is

module _ (e : Refusal) (either : (e ≡ refusals.NoReplica) ⊎ (e ≡ refusals.Unsure)) where
  -- ---- why

  pub refused_so : (asked : Request) (f : Refusal) (behind : Exchanges) → e ≡ f → IsLast asked behind → Why e asked (replies.Refused f) behind
  refused_so asked f behind is last = subst (λ g. Why e asked (replies.Refused g) behind) is (elim either [
    | inl so ↦ subst (λ g. Why g asked (replies.Refused g) behind) (sym so) (WhyNoReplica.Refused refl last)
    | inr so ↦ subst (λ g. Why g asked (replies.Refused g) behind) (sym so) (WhyUnsure.Refused refl last)
  ])

  why_replica : (asked : Request) (reply : Reply) → e ≡ refusals.NoReplica → WhyNoReplica asked reply [] → Why e asked reply []
  why_replica asked reply is why = subst (λ g. Why g asked reply []) (sym is) why

  why_unsure : (asked : Request) (reply : Reply) → e ≡ refusals.Unsure → WhyUnsure asked reply [] → Why e asked reply []
  why_unsure asked reply is why = subst (λ g. Why g asked reply []) (sym is) why

  refused_change : (asked : Request) → may_change asked ≡ true → IsLast asked [] → (f : Refusal) → Unsettled f e → Why e asked (replies.Refused f) []
  refused_change asked may last f (Stays is) = refused_so asked f [] is last
  refused_change asked may last f (NoMemory memory is) = why_unsure asked (replies.Refused f) is (WhyUnsure.NoMemory may (ap (λ g. replies.Refused g) memory) refl)
  refused_change asked may last f (NoDisk disk is) = why_unsure asked (replies.Refused f) is (WhyUnsure.NoDisk may (ap (λ g. replies.Refused g) disk) refl)

module _ {e : Refusal} {either : (e ≡ refusals.NoReplica) ⊎ (e ≡ refusals.Unsure)} where
  -- ---- one request

  pub look_has : {A : Type 0} (call : Called) (says : Answer → Result A Refusal) → only_looks (requests.Call call) ≡ true → Reads says → Holds e either (look call says)
  look_has {A} call says looks reads = one_has (requests.Call call) (λ reply. and_then says (looked reply)) why
    where
      why : (reply : Reply) → Err e ≡ and_then says (looked reply) → Why e (requests.Call call) reply []
      why (replies.Answer answer) is = not_other e either ((reads.clear answer).other e is)
      why (replies.Outcome outcome) is = clash e either refusals.Stray stray_other is
      why (replies.Given given) is = clash e either refusals.Stray stray_other is
      why (replies.Refused refusal) is = refused_so e either (requests.Call call) refusal [] (err_is is) refl
      why replies.Lost is = why_replica e either (requests.Call call) replies.Lost (err_is is) (WhyNoReplica.Unanswered looks refl refl)

  pub change_has : {A : Type 0} (call : Called) (says : Answer → Result A Refusal) → may_change (requests.Call call) ≡ true → Reads says → Holds e either (change call says)
  change_has {A} call says may reads = one_has (requests.Call call) (λ reply. and_then says (changed reply)) why
    where
      why : (reply : Reply) → Err e ≡ and_then says (changed reply) → Why e (requests.Call call) reply []
      why (replies.Answer answer) is = not_other e either ((reads.clear answer).other e is)
      why (replies.Outcome outcome) is = clash e either refusals.Stray stray_other is
      why (replies.Given given) is = clash e either refusals.Stray stray_other is
      why (replies.Refused refusal) is = refused_change e either (requests.Call call) may refl refusal (unsettled refusal e (err_is is))
      why replies.Lost is = why_unsure e either (requests.Call call) replies.Lost (err_is is) (WhyUnsure.Unanswered may refl refl)

  pub edit_has : (asked : Request) → may_change asked ≡ true → IsLast asked [] → Holds e either (ask asked edited)
  edit_has asked may last = one_has asked edited why
    where
      why : (reply : Reply) → Err e ≡ edited reply → Why e asked reply []
      why (replies.Answer answer) is = clash e either refusals.Stray stray_other is
      why (replies.Outcome outcome) is = never is
      why (replies.Given given) is = clash e either refusals.Stray stray_other is
      why (replies.Refused refusal) is = refused_change e either asked may last refusal (unsettled refusal e (err_is is))
      why replies.Lost is = why_unsure e either asked replies.Lost (err_is is) (WhyUnsure.Unanswered may refl refl)
