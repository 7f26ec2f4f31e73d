-- What is kept of the last replies to a client, and which requests are new.
use Rattle.std.proofs.Common.{arith, ◌≡◌, ◌==◌, ◌<◌, ℕ, Bool, true, false, cond, nat_lt, refl, sym, subst}
use Rattle.std.specs.Prelude.{Option, Some, None, Result, Ok, if◌then◌else◌}
use Rattle.std.specs.FinMap as fin
use Rattle.std.specs.Ordering.{eq_by_cmp}
use Rattle.std.proofs.lemmas.Bool.Decides.{nat_tests}
use Rattle.gs_base.specs.declared.numbers.ClientId.{ClientId}
use Rattle.gs_base.specs.declared.numbers.ReqId.{ReqId}
use Rattle.gs_base.specs.declared.refusal.Refusal.{Refusal}
use Rattle.gs_msg.specs.declared.answer.Answer.{Answer}
use Rattle.gs_master_state.proofs.Tracking.{client_total}
use Rattle.gs_master_spec.specs.Applied.{with_answer, with_reply}
use Rattle.gs_master_spec.specs.Handling.{New, Numbered, numbered}
use Rattle.gs_master_spec.specs.Replies.{client_cmp, is_later, later}
use Rattle.gs_master_spec.specs.State.{State, last_reply}
use Rattle.gs_master_spec.specs.declared.reply.KeptReply.{KeptReply}
use Rattle.gs_laws_plain.specs.calm.Calm.{AnsweredUpTo, IsUpTo}

abbrev pub Replies : Type 0
Replies = fin.FinMap client_cmp KeptReply

-- ---- which are new

later_up_to : (last : ℕ) (a b : Option KeptReply) → IsUpTo last a → IsUpTo last b → IsUpTo last (later a b)
later_up_to last None b x y = y
later_up_to last (Some r) None x y = x
later_up_to last (Some r) (Some o) x y = each (nat_lt r.number o.number)
  where
    each : (c : Bool) → IsUpTo last (if c then Some o else Some r)
    each true = y
    each false = x

new_above : (last number : ℕ) (o : Option KeptReply) → IsUpTo last o → last < number → numbered o number ≡ New
new_above last number None up above = refl
new_above last number (Some r) up above = each (r.number == number) (nat_lt number r.number) refl refl
  where
    each : (same less : Bool) → (r.number == number) ≡ same → nat_lt number r.number ≡ less → (if same then Rattle.gs_master_spec.specs.Handling.Again r.result else if less then Rattle.gs_master_spec.specs.Handling.Older else New) ≡ New
    each true less is so = absurd (grind (arith, nat_tests))
    each false true is so = absurd (grind (arith, nat_tests))
    each false false is so = refl

pub is_new : (s : State) (client : ClientId) (last number : ℕ) → AnsweredUpTo s client last → last < number → numbered (last_reply s client) number ≡ New
is_new s client last number up above = new_above last number (last_reply s client) (later_up_to last (fin.get s.durable.replies client) (fin.get s.volatile.replies client) up.recorded up.remembered) above

-- ---- what is kept

up_more : (last number : ℕ) (o : Option KeptReply) → IsUpTo last o → last < number → IsUpTo number o
up_more last number None up above = tt
up_more last number (Some r) up above = omega arith

pub insert_up : (replies : Replies) (client : ClientId) (last number : ℕ) (result : Result Answer Refusal) → IsUpTo last (fin.get replies client) → last < number → IsUpTo number (fin.get (fin.insert replies client (record { number = number; result = result })) client)
insert_up replies client last number result up above = subst (IsUpTo number) (sym (fin.get-insert client_total replies client (record { number = number; result = result }) client)) (each (eq_by_cmp client_cmp client client))
  where
    each : (b : Bool) → IsUpTo number (cond b (Some (record { number = number; result = result })) (fin.get replies client))
    each true = omega arith
    each false = up_more last number (fin.get replies client) up above

pub reply_up : (replies : Replies) (req : ReqId) (last : ℕ) (result : Result Answer Refusal) → IsUpTo last (fin.get replies req.client) → last < req.number → IsUpTo req.number (fin.get (with_reply replies req result) req.client)
reply_up replies req last result up above = each (is_later (fin.get replies req.client) req.number)
  where
    each : (b : Bool) → IsUpTo req.number (fin.get (if b then fin.insert replies req.client (record { number = req.number; result = result }) else replies) req.client)
    each true = insert_up replies req.client last req.number result up above
    each false = up_more last req.number (fin.get replies req.client) up above

pub answer_up : (replies : Replies) (req : ReqId) (last : ℕ) (answer : Option Answer) → IsUpTo last (fin.get replies req.client) → last < req.number → IsUpTo req.number (fin.get (with_answer replies req answer) req.client)
answer_up replies req last None up above = up_more last req.number (fin.get replies req.client) up above
answer_up replies req last (Some answer) up above = reply_up replies req last (Ok answer) up above

pub more : (s : State) (client : ClientId) (last number : ℕ) → AnsweredUpTo s client last → last < number → AnsweredUpTo s client number
more s client last number up above = record { recorded = up_more last number (fin.get s.durable.replies client) up.recorded above; remembered = up_more last number (fin.get s.volatile.replies client) up.remembered above }
