-- Edits that are counted, and calls in which none is made.
use Rattle.std.proofs.Common.{length, ◌≡◌, ◌∙◌, ◌+◌, ◌-◌, ◌<◌, ◌/◌, ℕ, zero, suc, List, Option, Some, None, Result, Ok, Err, inl, inr, refl, sym, ap, subst, arith}
use Rattle.gs_base.specs.declared.numbers.ReqId.{ReqId}
use Rattle.gs_base.specs.declared.refusal.Refusal.{Refusal}
use Rattle.gs_base.specs.declared.refusal.Refusal.TheVariants as refusals
use Rattle.gs_path.specs.Path.{Path}
use Rattle.gs_lease.specs.declared.view.Term.{Term}
use Rattle.gs_replica.specs.declared.op.EditOutcome.{EditOutcome}
use Rattle.gs_client_dialogue.specs.Dialogues.{Dialogue, Say, Ask, Grow, FollowsDialogue, upon, both, onward, otherwise}
use Rattle.gs_client_dialogue.proofs.Talks.{follows_upon}
use Rattle.gs_msg.specs.declared.answer.Answer.{Answer}
use Rattle.gs_msg.specs.declared.call.Call.{Call as Called}
use Rattle.gs_msg.specs.declared.op.Op.{Op}
use Rattle.gs_msg.specs.declared.op.Op.TheVariants as ops
use Rattle.gs_msg.specs.declared.event.Request.{Request}
use Rattle.gs_msg.specs.declared.event.Request.TheVariants as requests
use Rattle.gs_client.specs.declared.client.Client.{Client}
use Rattle.gs_client.specs.declared.link.Reply.{Reply}
use Rattle.gs_client_part.specs.declared.located.Located.{Located}
use Rattle.gs_client.specs.Sends.{Sends}
use Rattle.gs_client.specs.Edits.{Edits, counted, with_edit}
use Rattle.gs_client.specs.Replies.{changed, looked, status_in, chunks_in, located_in, edited}
use Rattle.gs_client.specs.Trees.{Call, and_then, look}
use Rattle.gs_client.specs.Looking.{count_in, known_call}
use Rattle.gs_client_part.specs.Writing.{part_bytes}
use Rattle.gs_client.specs.Writing.{send_call, edit_call, again_call, write_part_call, extend_call, extends_call, part_op, parts_call}

-- a call that makes no edit
abbrev pub Quiet : {A : Type 0} → Dialogue Request Reply A → Type 0
Quiet (Say x) = Unit {0}
Quiet (Ask asked more) = ((reply : Reply) (n : ℕ) → counted asked reply n ≡ n) × ((reply : Reply) → Quiet (more reply))
Quiet (Grow rest) = Quiet rest

pub as_edits : {L A : Type 0} (carries : L → ReqId → Request → Reply → L → Type 0) (call : Call A) → Quiet call → (old new : Client) (n : ℕ) (from to : L) (result : Result A Refusal)
    → FollowsDialogue (Sends carries) call (old, from) result (new, to) → FollowsDialogue (Edits carries) call (old, n, from) result (new, n, to)
as_edits carries (Say x) quiet old new n from to result (is, same) = (is, λ i. ((same i).0, n, (same i).1))
as_edits carries (Ask asked more) (quiet, then) old new n from to result (reply, mid, sent, rest) =
    (reply, (mid.0, n, mid.1), (sent, sym (quiet reply n)), as_edits carries (more reply) (then reply) mid.0 new n mid.1 to result rest)
as_edits carries (Grow call) quiet old new n from to result follows = elim follows [
  | inl h ↦ inl (as_edits carries call quiet old new n from to result h)
  | inr (e, same) ↦ inr (e, λ i. ((same i).0, n, (same i).1))
]

quiet_onward : {A B : Type 0} (go : A → Call B) → ((x : A) → Quiet (go x)) → (r : Result A Refusal) → Quiet (onward go r)
quiet_onward go quiet (Ok x) = quiet x
quiet_onward go quiet (Err refusal) = tt

pub quiet_look : {A : Type 0} (call : Called) (says : Answer → Result A Refusal) → Quiet (Grow (look call says))
quiet_look call says = (λ reply n. refl, λ reply. tt)

quiet_said : {A B : Type 0} (r : Result A Refusal) (says : A → Result B Refusal) → Quiet (both (Say r) (λ x. Say (says x)))
quiet_said (Ok x) says = tt
quiet_said (Err refusal) says = tt

pub quiet_known : (path : Path) (opened : Option ℕ) → Quiet (known_call path opened)
quiet_known path (Some chunks) = tt
quiet_known path None =
    (λ reply n. refl, λ reply. quiet_onward (λ status. both (Say (chunks_in status)) (λ chunks. Say (count_in chunks))) (λ status. quiet_said (chunks_in status) count_in) (and_then status_in (looked reply)))

pub quiet_extends : (path : Path) (index count : ℕ) → Quiet (extends_call path index count)
quiet_extends path index zero = tt
quiet_extends path index (suc count) =
    (λ reply n. refl, λ reply. quiet_onward (λ l. extends_call path (index + 1) count) (λ l. quiet_extends path (index + 1) count) (and_then (located_in index) (changed reply)))

-- an edit is sent
pub edit_sent : {L : Type 0} (carries : L → ReqId → Request → Reply → L → Type 0) (l : Located) (term : Term) (op : Op) (bytes : List ℕ) (old new : Client) (n m : ℕ) (from to : L) (reply : Reply) (result : Result EditOutcome Refusal)
    → l.view.term ≡ Some term → Sends carries (old, from) (requests.Write l.handle l.view.members term.primary l.view.stamp op bytes) reply (new, to)
    → result ≡ edited reply → m ≡ with_edit result n → FollowsDialogue (Edits carries) (edit_call l op bytes) (old, n, from) result (new, m, to)
edit_sent carries l term op bytes old new n m from to reply result known sent is count =
    subst (λ (t : Option Term). FollowsDialogue (Edits carries) (send_call l t op bytes) (old, n, from) result (new, m, to)) (sym known)
    (inl (reply, (new, m, to), (sent, count ∙ ap (λ r. with_edit r n) is), (is, refl)))

pub edit_unsent : {L : Type 0} (carries : L → ReqId → Request → Reply → L → Type 0) (l : Located) (term : Term) (op : Op) (bytes : List ℕ) (s : Client × ℕ × L)
    → l.view.term ≡ Some term → FollowsDialogue (Edits carries) (edit_call l op bytes) s (Err refusals.Memory) s
edit_unsent carries l term op bytes s known =
    subst (λ (t : Option Term). FollowsDialogue (Edits carries) (send_call l t op bytes) s (Err refusals.Memory) s) (sym known) (inr (refl, refl))

-- the first call came to something, and the second went on from there; where there was no memory nothing is left to do
pub follows_other : {S Q R A B : Type 0} (carries : S → Q → R → S → Type 0) (call : Dialogue Q R (Result A Refusal)) (go : Result A Refusal → Dialogue Q R (Result B Refusal))
    (old mid new : S) (first : Result A Refusal) (result : Result B Refusal) → go (Err refusals.Memory) ≡ Say (Err refusals.Memory)
    → FollowsDialogue carries call old first mid → FollowsDialogue carries (go first) mid result new → FollowsDialogue carries (upon call go) old result new
follows_other carries (Say said) go old mid new first result ends (is, same) after =
    subst (λ s. FollowsDialogue carries (go said) s result new) same (subst (λ r. FollowsDialogue carries (go r) mid result new) is after)
follows_other carries (Ask asked more) go old mid new first result ends (reply, next, carried, rest) after =
    (reply, next, carried, follows_other carries (more reply) go next mid new first result ends rest after)
follows_other carries (Grow rest) go old mid new first result ends follows after = elim follows [
  | inl h ↦ inl (follows_other carries rest go old mid new first result ends h after)
  | inr (e, same) ↦
      let over : FollowsDialogue carries (Say (Err refusals.Memory)) mid result new = subst (λ d. FollowsDialogue carries d mid result new) ends (subst (λ r. FollowsDialogue carries (go r) mid result new) e after) in
      inr (over.0, over.1 ∙ same)
]

-- a part that was done at once, and one that wasn't
pub edit_done : {S : Type 0} (carries : S → Request → Reply → S → Type 0) (path : Path) (index : ℕ) (l : Located) (op : Op) (bytes : List ℕ) (old new : S) (outcome : EditOutcome)
    → FollowsDialogue carries (edit_call l op bytes) old (Ok outcome) new → FollowsDialogue carries (upon (edit_call l op bytes) (otherwise (again_call path index l.view.stamp op bytes))) old (Ok outcome) new
edit_done carries path index l op bytes old new outcome follows =
    follows_upon carries (edit_call l op bytes) (otherwise (again_call path index l.view.stamp op bytes)) old new new (Ok outcome) (Ok outcome) (λ e. cc) follows (refl, refl)

pub edit_again : {S : Type 0} (carries : S → Request → Reply → S → Type 0) (path : Path) (index : ℕ) (l : Located) (op : Op) (bytes : List ℕ) (old mid new : S) (refusal : Refusal) (result : Result EditOutcome Refusal)
    → FollowsDialogue carries (edit_call l op bytes) old (Err refusal) mid → FollowsDialogue carries (again_call path index l.view.stamp op bytes refusal) mid result new
    → FollowsDialogue carries (upon (edit_call l op bytes) (otherwise (again_call path index l.view.stamp op bytes))) old result new
edit_again carries path index l op bytes old mid new refusal result follows after =
    follows_other carries (edit_call l op bytes) (otherwise (again_call path index l.view.stamp op bytes)) old mid new (Err refusal) result refl follows after

pub no_more : (n : ℕ) → n + 0 ≡ n
no_more n = omega arith

-- chunks that are added, one after another
pub extends_next : (path : Path) (from i count : ℕ) → i < count
    → extends_call path (from + i) (count - i) ≡ both (extend_call path (from + i)) (λ l. extends_call path (from + (i + 1)) (count - (i + 1)))
extends_next path from i count h =
    let e : count - i ≡ suc (count - (i + 1)) = omega arith in
    let next : from + i + 1 ≡ from + (i + 1) = omega arith in
    ap (extends_call path (from + i)) e ∙ ap (λ (n : ℕ). both (extend_call path (from + i)) (λ l. extends_call path n (count - (i + 1)))) next

-- parts, one after another
pub parts_next : (size : ℕ) (path : Path) (offset : ℕ) (bytes : List ℕ) (i count : ℕ) → i < count
    → parts_call size path offset bytes i (count - i)
    ≡ both (write_part_call path (offset / size + i) (part_op size offset bytes i) (part_bytes size offset bytes i)) (λ done. parts_call size path offset bytes (i + 1) (count - (i + 1)))
parts_next size path offset bytes i count h =
    let e : count - i ≡ suc (count - (i + 1)) = omega arith in
    ap (parts_call size path offset bytes i) e

-- a part under the names of its values
pub part_named : {S : Type 0} (carries : S → Request → Reply → S → Type 0) (path : Path) (index start start' many : ℕ) (bytes bytes' : List ℕ) (old new : S) (result : Result (Unit {0}) Refusal)
    → start ≡ start' → many ≡ length bytes → bytes ≡ bytes' → FollowsDialogue carries (write_part_call path index (ops.Write start many) bytes) old result new
    → FollowsDialogue carries (write_part_call path index (ops.Write start' (length bytes')) bytes') old result new
part_named carries path index start start' many bytes bytes' old new result is long same follows =
    subst (λ (n : ℕ). FollowsDialogue carries (write_part_call path index (ops.Write n (length bytes')) bytes') old result new) is
    (subst (λ (l : List ℕ). FollowsDialogue carries (write_part_call path index (ops.Write start (length l)) l) old result new) same
    (subst (λ (n : ℕ). FollowsDialogue carries (write_part_call path index (ops.Write start n) bytes) old result new) long follows))
