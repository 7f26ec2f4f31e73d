-- Behind a turn by which nothing is called no chunk of a file has a primary.
use Rattle.std.proofs.Common.{◌≡◌, ◌||◌, inl, inr, ℕ, Bool, true, List, [], ◌∷◌, refl, ap, sym, subst, arith}
use Rattle.std.specs.Prelude.{take}
use Rattle.std.proofs.lemmas.Bool.{false≢true}
use Rattle.gs_base.specs.declared.numbers.ReqId.{ReqId}
use Rattle.gs_msg.specs.declared.body.Body.{Body}
use Rattle.gs_msg.specs.declared.body.Body.TheVariants as bodies
use Rattle.gs_master_spec.specs.Durable.{is_listed}
use Rattle.gs_master_spec.specs.Handling.{checkpoint, granted, handle, pressed, proposals, tick}
use Rattle.gs_master_spec.specs.Outcomes.{cut}
use Rattle.gs_master_spec.specs.State.{State, Turn, and_then, for_each}
use Rattle.gs_master_spec.specs.Volatile.{is_pending}
use Rattle.gs_master_spec.specs.declared.pending.Pending.{Pending}
use Rattle.gs_laws_moves.proofs.lemmas.answers.Kept.{itself}
use Rattle.gs_laws_moves.proofs.lemmas.answers.Plans.{volatile_still}
use Rattle.gs_laws_moves.proofs.lemmas.answers.Resting.{had_not_new}
use Rattle.gs_laws_moves.proofs.lemmas.looks.Checkpoints.{checkpoint_so, tick_so}
use Rattle.gs_laws_moves.proofs.lemmas.looks.Records.{DurableSo, all_done, replayed_so, some_so}
use Rattle.gs_laws_moves.proofs.lemmas.looks.Turns.{BringsLook, MemorySo, So, TurnSo, message_so, steps_so}
use Rattle.gs_laws_moves.specs.looks.Unled.{CallsNothing, CheckpointsLeaveUnled, IsUnled, LeavesUnled, MessagesLeaveUnled, StepsLeaveUnled, TicksLeaveUnled}

nobody_waits : (ps : List Pending) → ((req : ReqId) → is_pending ps req ≡ true → ⊥) → ps ≡ []
nobody_waits [] none = refl
nobody_waits (p ∷ ps) none = absurd (none p.req (ap (λ b. b || is_pending ps p.req) (itself p.req)))

none_in : (ps : List Pending) → ps ≡ [] → (req : ReqId) → is_pending ps req ≡ true → ⊥
none_in ps is req there = false≢true (subst (λ (xs : List Pending). is_pending xs req ≡ true) is there)

module _ (s : State) (u : IsUnled s) where
  abbrev listed : ℕ → Bool
  listed = is_listed s.durable

  so_now : So listed s
  so_now = record { durable = record { views = u.views; fewer = λ chunk known. known }; memory = record { asked = λ chunk asking has known. u.asked chunk asking known has; none = nobody_waits s.volatile.pending u.none } }

  unled_of : (x : State) → DurableSo listed x.durable → MemorySo listed x.volatile → IsUnled x
  unled_of x durable memory = record { views = durable.views; asked = λ chunk asking known has. memory.asked chunk asking has (durable.fewer chunk known); none = none_in x.volatile.pending memory.none }

  leaves_so : (t : Turn) → TurnSo listed t → LeavesUnled s t
  leaves_so t so = record {
    after = unled_of t.after so.after.durable so.after.memory;
    cuts = λ place within. unled_of (cut s t.records place) (all_done listed (take place t.records) s (some_so listed place t.records so.records) so_now.durable)
        (subst (MemorySo listed) (sym (volatile_still (take place t.records) s)) so_now.memory);
    told = λ many e fit. (replayed_so listed (take many t.records) s.durable e (some_so listed many t.records so.records) so_now.durable fit).views;
  }

brings : (s : State) (body : Body) → CallsNothing s body → BringsLook s body
brings s (bodies.Call req call) (inl looks) = λ new. looks
brings s (bodies.Call req call) (inr had) = λ new. absurd (had_not_new s req.client req.number req.number had (omega arith) new)
brings s body nothing = tt

pub messages_leave : MessagesLeaveUnled
messages_leave config s message moment calls u = leaves_so s u (handle config s message moment) (message_so (is_listed s.durable) config s message moment (brings s message.body calls) (so_now s u))

pub ticks_leave : TicksLeaveUnled
ticks_leave s moment u = leaves_so s u (tick s moment) (tick_so (is_listed s.durable) s moment (so_now s u))

pub steps_leave : StepsLeaveUnled
steps_leave s moment u = leaves_so s u (and_then (for_each s (proposals s) (pressed moment)) granted) (steps_so (is_listed s.durable) s moment (so_now s u))

pub checkpoints_leave : CheckpointsLeaveUnled
checkpoints_leave s u = leaves_so s u (checkpoint s) (checkpoint_so (is_listed s.durable) s (so_now s u))
