-- A change of the tree that a desk carries and that is over is explained, and the desk stands for the machine to which it leads.
use Rattle.std.proofs.Common.{[], ap, refl, subst, sym, ◌∙◌, ◌≡◌, Bool, List, Ok, Result, false, if◌then◌else◌, true, ℕ}
use Rattle.std.proofs.lemmas.Bool.{false≢true}
use Rattle.gs_base.specs.Told.{IsNumber}
use Rattle.gs_base.specs.declared.config.Config.{Config}
use Rattle.gs_base.specs.declared.numbers.Moment.{Moment}
use Rattle.gs_base.specs.declared.refusal.Refusal.{Refusal}
use Rattle.gs_client.specs.Replies.{changed}
use Rattle.gs_client.specs.declared.client.Client.{Client}
use Rattle.gs_client.specs.declared.link.Reply.{Reply}
use Rattle.gs_client.specs.declared.link.Reply.TheVariants as replies
use Rattle.gs_laws_chunks.proofs.lemmas.answers.Changed.{changes_leave_still}
use Rattle.gs_laws_chunks.specs.answers.Changed.{IsChanged}
use Rattle.gs_laws_chunks.specs.desks.Reached.{history}
use Rattle.gs_laws_looks.specs.carrying.Carried.{IsCarried}
use Rattle.gs_laws_moves.specs.answers.Changes.{is_change}
use Rattle.gs_laws_world.specs.steady.Asking.{MayBeAsked}
use Rattle.gs_laws_world.specs.steady.Unarmed.{unarmed}
use Rattle.gs_master_spec.specs.Durable.{Durable}
use Rattle.gs_master_spec.specs.Handling.{new_call}
use Rattle.gs_msg.specs.declared.answer.Answer.{Answer as Said}
use Rattle.gs_msg.specs.declared.answer.Answer.TheVariants as says
use Rattle.gs_msg.specs.declared.call.Call.{Call}
use Rattle.gs_msg.specs.declared.call.Call.TheVariants as calls
use Rattle.gs_msg.specs.declared.event.Request.TheVariants as requests
use Rattle.gs_shell_desk.specs.Ways.{way_of}
use Rattle.gs_shell_desk.specs.declared.desk.Desk.{Desk}
use Rattle.gs_shell_desk.specs.declared.wire.Wire.{Wire}
use Rattle.gs_world.specs.Histories.{History}
use Rattle.gs_laws_scripts.proofs.lemmas.explained.Behind.{IsTaken, shows_then, stands_behind}
use Rattle.gs_laws_scripts.proofs.lemmas.explained.Changes.{changes_are_told}
use Rattle.gs_laws_scripts.proofs.lemmas.explained.Refusing.{no_server_replies, refusal_explained}
use Rattle.gs_laws_scripts.proofs.lemmas.lists.Lines.{answered_on}
use Rattle.gs_laws_scripts.proofs.lemmas.reads.Clients.{still_mine}
use Rattle.gs_laws_scripts.specs.explained.Changes.{ChangesAreExplainedThere, IsChangeTold, IsOver}
use Rattle.gs_laws_scripts.specs.explained.Lines.{Asks, overtaken}
use Rattle.gs_laws_scripts.specs.explained.Looked.{LooksUp}
use Rattle.gs_laws_scripts.specs.explained.Machine.{Machine, is_remembered, overtaking}
use Rattle.gs_laws_scripts.specs.explained.Standing.{ShowsNames, Stands, the_client}

-- ---- late calls that it overtakes: the machine shows what it did

overtaken_is : (call : Call) → is_change call ≡ true → (found : Result Said Refusal × Machine) → overtaken call found ≡ overtaking call [] found
overtaken_is (calls.Mkdirs p) is found = refl
overtaken_is (calls.Create p) is found = refl
overtaken_is (calls.Rename from to) is found = refl
overtaken_is (calls.Delete p recursive) is found = refl
overtaken_is (calls.Undelete p) is found = refl
overtaken_is call is found = absurd (false≢true is)

overtaking_shows : (d : Durable) (call : Call) (said : Said) (m : Machine) → ShowsNames d m → ShowsNames d (overtaking call [] (Ok said, m))
overtaking_shows d call says.Absent m shows = shows
overtaking_shows d call said m shows = by_test (is_remembered call)
  where
    by_test : (b : Bool) → ShowsNames d (if b then record m { late = [] } else m)
    by_test true = record { text = shows.text; tree = shows.tree; hidden = shows.hidden; epoch = shows.epoch; phase = shows.phase }
    by_test false = shows

-- and it is at its moment
overtaking_now : (call : Call) (said : Said) (m : Machine) → (overtaking call [] (Ok said, m)).moment ≡ m.moment
overtaking_now call says.Absent m = refl
overtaking_now call said m = by_test (is_remembered call)
  where
    by_test : (b : Bool) → (if b then record m { late = [] } else m).moment ≡ m.moment
    by_test true = refl
    by_test false = refl

module _ {D : Type 0} (seen : D → List ℕ) (failures : D → ℕ) (config : Config) (size : ℕ) (old new : Desk D) (m : Machine) (call : Call) (st : Stands seen config old m) (is : is_change call ≡ true) (may : MayBeAsked (requests.Call call)) where
  abbrev at : Desk D → Client × Wire D
  at d = (d.caller.client, d.wire)

  abbrev before : History D
  before = history st.sent (way_of old.wire)

  -- ---- where it is accepted

  module _ (said : Said) (carried : LooksUp seen failures old call (replies.Answer said) new) where
    done : IsCarried seen failures the_client (way_of old.wire) st.sent call said (way_of new.wire)
    done = subst (λ k. IsCarried seen failures k (way_of old.wire) st.sent call said (way_of new.wire)) st.ours.0 (answered_on seen failures st.sent (at old) (at new) call said st.covers st.moment may carried)

    abbrev taken : IsTaken seen failures config old new m st call done.mid
    taken = record {
      since = record { moment = done.has.moment; req = done.has.req; own = done.has.own; asked = done.has.asked; asks = done.has.asks; steps = done.has.steps; runs = done.has.runs; within = done.has.within; looking = done.has.looking };
      after = done.after;
      takes = done.takes;
      covers = done.covers;
      moment = subst (λ (moment : Moment). IsNumber moment.0) (sym done.moment) st.moment;
      same = done.moment;
      ours = still_mine seen failures config (at old) (at new) (requests.Call call) (replies.Answer said) st.ours carried;
    }

    changed_so : IsChanged st.durable the_client st.number done.has.req call said done.has.steps done.mid
    changed_so = changes_leave_still seen failures unarmed st.durable the_client st.number before done.mid call said is st.rests.asked st.rests.types st.rests.lasts st.rests.still done.has

    abbrev e : Durable
    e = (new_call changed_so.turn.config changed_so.turn.state done.has.req changed_so.turn.moment call).after.durable

    is_told : IsChangeTold e call m (Ok said)
    is_told =
        changes_are_told changed_so.turn.config changed_so.turn.state done.has.req changed_so.turn.moment m call (Ok said) (shows_then seen failures config old new m st changed_so.turn.state changed_so.turn.stood)
        (st.now ∙ ap (λ (moment : Moment). moment.0) (sym (changed_so.turn.since old.wire.moment done.moments))) is changed_so.turn.says (λ other same. changed_so.changes)

    shows : ShowsNames e (overtaken call (Ok said, is_told.0))
    shows = subst (ShowsNames e) (sym (overtaken_is call is (Ok said, is_told.0))) (overtaking_shows e call said is_told.0 is_told.2)

    now : (overtaken call (Ok said, is_told.0)).moment ≡ m.moment
    now = ap (λ (x : Machine). x.moment) (overtaken_is call is (Ok said, is_told.0)) ∙ overtaking_now call said is_told.0 ∙ is_told.3

    answer_explained : (mid : Machine) × Asks size call m (Ok said) mid × Stands seen config new (overtaken call (Ok said, mid))
    answer_explained = (is_told.0, ([], is_told.1), stands_behind seen failures config old new m st call is done.mid taken e changed_so.still (overtaken call (Ok said, is_told.0)) shows now)

  -- ---- whatever it is told, if that is over

  explained : (reply : Reply) → LooksUp seen failures old call reply new → IsOver (changed reply) → (mid : Machine) × Asks size call m (changed reply) mid × Stands seen config new (overtaken call (changed reply, mid))
  explained (replies.Answer said) carried over = answer_explained said carried
  explained (replies.Refused refusal) carried over = refusal_explained seen failures config size old new m call st is may refusal over carried
  explained replies.Lost carried over = absurd (over refl)
  explained (replies.Given given) carried over = absurd (no_server_replies seen failures config size old new m call st is may (replies.Given given) tt carried)
  explained (replies.Outcome outcome) carried over = absurd (no_server_replies seen failures config size old new m call st is may (replies.Outcome outcome) tt carried)

pub changes_are_explained_there : {D : Type 0} → ChangesAreExplainedThere D
changes_are_explained_there seen failures config size old new m call reply st is may carried over = explained seen failures config size old new m call st is may reply carried over
