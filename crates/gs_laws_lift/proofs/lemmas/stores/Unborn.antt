-- A chunk that isn't born stays so whatever happens at a server.
use Rattle.std.proofs.Common.{◌≡◌, ◌∙◌, ◌⊎◌, ◌<◌, ◌≤◌, ℕ, Bool, true, false, List, [], ◌∷◌, Some, refl, sym, ap, subst, inl, inr, slice_get, arith}
use Rattle.std.specs.Prelude.{◌==◌}
use Rattle.std.specs.List.{AllByRecursion}
use Rattle.std.proofs.lemmas.Bool.{cases_lt}
use Rattle.gs_base.specs.declared.config.Config.{Config}
use Rattle.gs_base.specs.declared.epoch.EpochEnd.TheVariants as ends
use Rattle.gs_base.specs.declared.numbers.Moment.{Moment}
use Rattle.gs_base.specs.declared.numbers.ReqId.{ReqId}
use Rattle.gs_msg.specs.declared.body.Body.{Body}
use Rattle.gs_msg.specs.declared.body.Body.TheVariants as bodies
use Rattle.gs_msg.specs.declared.message.Message.{Message}
use Rattle.gs_msg.specs.declared.node.NodeId.{NodeId}
use Rattle.gs_server.specs.Servers.{Server, handle_body, place_of}
use Rattle.gs_server.specs.Runs as at_server
use Rattle.gs_server.specs.Servers as servers
use Rattle.gs_world.specs.Histories.{History}
use Rattle.gs_world.specs.Sent.{IsSent, Sent}
use Rattle.gs_laws_chunk.specs.machine.Machine.{Entry, ChunkWorld}
use Rattle.gs_laws_chunk.specs.machine.Events.{Rests, born}
use Rattle.gs_laws_chunk.specs.machine.Laws.{Birth, IsReached}
use Rattle.gs_laws_chunk.proofs.lemmas.machine.Facts.{reached_world}
use Rattle.gs_laws_parts.specs.server.Answering.{IsByServer}
use Rattle.gs_laws_parts.specs.server.Moving.{IsSteps}
use Rattle.gs_laws_parts.specs.server.Showing.{Setting, ShowsPlace, setting_of}
use Rattle.gs_laws_parts.specs.server.Telling.{BringsCopy, ServersTell, TellsBody}
use Rattle.gs_laws_parts.specs.server.Unborn as member
use Rattle.gs_laws_parts.specs.server.Unborn.{KeepsNothing, StaysUnborn}
use Rattle.gs_laws_parts.proofs.lemmas.server.Ticks.{apart_of, eq_same}
use Rattle.gs_laws_parts.proofs.lemmas.server.Unborn.{beat_unborn, body_unborn, born_shows, damage_unborn, lose_unborn, nothing_tells, restart_unborn, tick_unborn}
use Rattle.gs_laws_lift.specs.stores.Saying.{PushRight}
use Rattle.gs_laws_lift.specs.stores.Going.{AllSent, Beats, Damages, Hears, Loses, Restarts, ServerGoes, Ticks, about_of, cause_at}
use Rattle.gs_laws_lift.specs.stores.Showing.{AreToldApart, Keeps, ShowsNodes, setting}
use Rattle.gs_laws_lift.specs.stores.Unborn.{IsBefore, SaysNothing, TellsWithin}
use Rattle.gs_laws_lift.proofs.lemmas.stores.Asking.{client_says, client_tells}
use Rattle.gs_laws_lift.proofs.lemmas.stores.Refusing.{asked_unborn, copied_unborn}
use Rattle.gs_laws_lift.proofs.lemmas.stores.Serving.{by_server, steps_at}

-- what was said before the birth tells nothing
pub before_tells : (c : Setting) (chunk : ℕ) (w : ChunkWorld) (m : Message) → IsBefore chunk c.born m → PushRight c.bytes m → ServersTell c chunk w m
before_tells c chunk w m before right = by_body m.body before.0 before.1 right
  where
    IsRight : Body → Type 0
    IsRight body = PushRight c.bytes (record { from = m.from; to = m.to; body = body })

    other : (body : Body) → member.SaysNothing chunk body → member.IsTimely c body → TellsBody c chunk w m.from m.to body
    other body says timely = nothing_tells c chunk w (record { from = m.from; to = m.to; body = body }) says timely

    by_body : (body : Body) → SaysNothing chunk body → TellsWithin c.born body → IsRight body → TellsBody c chunk w m.from m.to body
    by_body (bodies.About handle said) says within right = λ same. (client_says c w m.from said (says same), client_tells c w m.to said (says same))
    by_body (bodies.MakeCopy handle at new_handle stamp) says within right = tt
    by_body (bodies.Push req pushed) says within right = right
    by_body (bodies.Epoch told end) says within right = other (bodies.Epoch told end) says within
    by_body (bodies.Report epoch replicas) says within right = other (bodies.Report epoch replicas) says tt
    by_body (bodies.Learned epoch handles) says within right = other (bodies.Learned epoch handles) says tt
    by_body (bodies.Call req call) says within right = tt
    by_body (bodies.Reply req result) says within right = tt
    by_body (bodies.Done req result) says within right = tt
    by_body (bodies.Bytes req result) says within right = tt
    by_body (bodies.Behind epoch) says within right = tt

-- ---- what a server hears

heard_unborn : (chunk : ℕ) (s : Server) (from : NodeId) (body : Body) (moment : Moment) → KeepsNothing chunk s → SaysNothing chunk body → StaysUnborn chunk (handle_body s from body moment).after (handle_body s from body moment).sent
heard_unborn chunk s from (bodies.About handle said) moment none says = by_case (chunk == handle) refl
  where
    by_case : (b : Bool) → (chunk == handle) ≡ b → StaysUnborn chunk (handle_body s from (bodies.About handle said) moment).after (handle_body s from (bodies.About handle said) moment).sent
    by_case true is =
        let same : handle ≡ chunk = eq_same chunk handle is in
        subst (λ k. StaysUnborn chunk (handle_body s from (bodies.About k said) moment).after (handle_body s from (bodies.About k said) moment).sent) (sym same) (asked_unborn chunk s from said moment none (says same))
    by_case false is = body_unborn chunk s none from (bodies.About handle said) moment (apart_of chunk handle is)
heard_unborn chunk s from (bodies.MakeCopy handle at new_handle stamp) moment none says = by_case (chunk == handle) (chunk == new_handle) refl refl
  where
    by_case : (b t : Bool) → (chunk == handle) ≡ b → (chunk == new_handle) ≡ t → StaysUnborn chunk (handle_body s from (bodies.MakeCopy handle at new_handle stamp) moment).after (handle_body s from (bodies.MakeCopy handle at new_handle stamp) moment).sent
    by_case b true is new = absurd (says (eq_same chunk new_handle new))
    by_case true false is new =
        let same : handle ≡ chunk = eq_same chunk handle is in
        subst (λ k. StaysUnborn chunk (handle_body s from (bodies.MakeCopy k at new_handle stamp) moment).after (handle_body s from (bodies.MakeCopy k at new_handle stamp) moment).sent) (sym same) (copied_unborn chunk s new_handle at stamp moment none says new)
    by_case false false is new = body_unborn chunk s none from (bodies.MakeCopy handle at new_handle stamp) moment (apart_of chunk handle is, says)
heard_unborn chunk s from (bodies.Push req pushed) moment none says = body_unborn chunk s none from (bodies.Push req pushed) moment tt
heard_unborn chunk s from (bodies.Epoch epoch end) moment none says = body_unborn chunk s none from (bodies.Epoch epoch end) moment tt
heard_unborn chunk s from (bodies.Call req call) moment none says = body_unborn chunk s none from (bodies.Call req call) moment tt
heard_unborn chunk s from (bodies.Reply req result) moment none says = body_unborn chunk s none from (bodies.Reply req result) moment tt
heard_unborn chunk s from (bodies.Done req result) moment none says = body_unborn chunk s none from (bodies.Done req result) moment tt
heard_unborn chunk s from (bodies.Bytes req result) moment none says = body_unborn chunk s none from (bodies.Bytes req result) moment tt
heard_unborn chunk s from (bodies.Report epoch replicas) moment none says = body_unborn chunk s none from (bodies.Report epoch replicas) moment says
heard_unborn chunk s from (bodies.Learned epoch handles) moment none says = body_unborn chunk s none from (bodies.Learned epoch handles) moment says
heard_unborn chunk s from (bodies.Behind epoch) moment none says = body_unborn chunk s none from (bodies.Behind epoch) moment tt

as_unborn : (chunk : ℕ) (x after : Server) (y messages : List Message) → after ≡ x → messages ≡ y → StaysUnborn chunk x y → StaysUnborn chunk after messages
as_unborn chunk x after y messages is sends stays = subst (λ t. StaysUnborn chunk t messages) (sym is) (subst (StaysUnborn chunk x) (sym sends) stays)

goes_unborn : (chunk epoch id : ℕ) (sent : Sent) (s after : Server) (messages : List Message) → KeepsNothing chunk s → AllSent (IsBefore chunk epoch) sent → ServerGoes sent id s after messages → StaysUnborn chunk after messages
goes_unborn chunk epoch id sent s after messages none before (Hears message moment was to is sends) =
    as_unborn chunk (servers.handle s message moment).after after (servers.handle s message moment).sent messages is sends (heard_unborn chunk s message.from message.body moment none (before was.0 message was.1).0)
goes_unborn chunk epoch id sent s after messages none before (Ticks moment is sends) = as_unborn chunk (servers.tick s moment).after after (servers.tick s moment).sent messages is sends (tick_unborn chunk s none moment)
goes_unborn chunk epoch id sent s after messages none before (Beats is sends) = as_unborn chunk s after (servers.beat s ∷ []) messages is sends (beat_unborn chunk s none)
goes_unborn chunk epoch id sent s after messages none before (Restarts is sends) = as_unborn chunk (servers.restart s) after [] messages is sends (restart_unborn chunk s none)
goes_unborn chunk epoch id sent s after messages none before (Loses handle is sends) = as_unborn chunk (at_server.behind (at_server.Loses handle) s) after [] messages is sends (lose_unborn chunk s none handle)
goes_unborn chunk epoch id sent s after messages none before (Damages handle block is sends) = as_unborn chunk (at_server.behind (at_server.Damages handle block) s) after [] messages is sends (damage_unborn chunk s none handle block)

-- ---- what it says, and of which epoch it is

-- a machine that is born in this epoch shows the servers
still_birth : ℕ → Birth
still_birth epoch = record { epoch = epoch; how = λ e. ends.Finalize; origin = []; numbered = record { rises = λ i j a b one other. absurd (cc) } }

abbrev silent : ℕ → ChunkWorld
silent epoch = born epoch (λ e. ends.Finalize) []

module _ {D : Type 0} (seen : D → List ℕ) (config : Config) (bytes : ReqId → List ℕ) (chunk epoch : ℕ) (old : History D) (keeps : Keeps config bytes old)
    (none : (id : ℕ) (s : Server) → slice_get old.nodes.servers id ≡ Some s → KeepsNothing chunk s × (s.kept.epoch ≤ epoch)) (right : AllSent (PushRight bytes) old.sent) (before : AllSent (IsBefore chunk epoch) old.sent) where
  nodes_shown : ShowsNodes config bytes epoch chunk old (silent epoch)
  nodes_shown = record {
    members = λ id s found. born_shows (setting config bytes epoch) chunk (λ e. ends.Finalize) [] s (none id s found).0 (none id s found).1;
    sent = λ id m is. before_tells (setting config bytes epoch) chunk (silent epoch) m (before id m is) (right id m is);
  }

  nothing_apart : AreToldApart chunk old (silent epoch)
  nothing_apart id s found = record { live = λ edits is. absurd (cc); image = λ edits is. absurd (cc) }

  nothing_brought : (id : ℕ) (s : Server) (message : Message) → IsSent message old.sent → BringsCopy (setting_of bytes epoch s) chunk (silent epoch) s message.body
  nothing_brought id s message was = by_body message.body (before was.0 message was.1).0
    where
      by_body : (body : Body) → SaysNothing chunk body → BringsCopy (setting_of bytes epoch s) chunk (silent epoch) s body
      by_body (bodies.MakeCopy handle at new_handle stamp) says = λ same. absurd (says same)
      by_body body says = tt

  steps_silent : (id : ℕ) (s after : Server) (messages : List Message) → slice_get old.nodes.servers id ≡ Some s → (goes : ServerGoes old.sent id s after messages) → IsSteps (cause_at chunk goes) (setting_of bytes epoch s) chunk (silent epoch) s.me (about_of goes) after messages
  unfolding still_birth
  steps_silent id s after messages found goes =
      steps_at seen config bytes epoch chunk old (silent epoch) (still_birth epoch, Rests) nodes_shown keeps nothing_apart id s after messages found goes (λ message was to. nothing_brought id s message was)

  says_within : (body : Body) → IsByServer body → member.SaysNothing chunk body → SaysNothing chunk body × TellsWithin epoch body
  says_within (bodies.About handle said) by says = ((λ same. absurd (says same)), tt)
  says_within (bodies.MakeCopy handle at new_handle stamp) by says = absurd by
  says_within (bodies.Epoch told end) by says = absurd by
  says_within (bodies.Push req pushed) by says = absurd by
  says_within (bodies.Call req call) by says = absurd by
  says_within (bodies.Reply req result) by says = absurd by
  says_within (bodies.Report told replicas) by says = (says, tt)
  says_within (bodies.Learned told handles) by says = (says, tt)
  says_within (bodies.Done req result) by says = (tt, tt)
  says_within (bodies.Bytes req result) by says = (tt, tt)
  says_within (bodies.Behind told) by says = (tt, tt)

  all_within : (messages : List Message) → AllByRecursion (λ (m : Message). IsByServer m.body) messages → AllByRecursion (λ (m : Message). member.SaysNothing chunk m.body) messages → AllByRecursion (IsBefore chunk epoch) messages
  all_within [] by says = tt
  all_within (m ∷ messages) by says = (says_within m.body by.0 says.0, all_within messages by.1 says.1)

  -- it says none of what the master or clients say
  pub server_says : (id : ℕ) (s after : Server) (messages : List Message) → slice_get old.nodes.servers id ≡ Some s → ServerGoes old.sent id s after messages → AllByRecursion (λ (m : Message). IsByServer m.body) messages
  server_says id s after messages found goes = let steps = steps_silent id s after messages found goes in by_server _ (setting_of bytes epoch s) chunk steps.world s.me (about_of goes) messages steps.answers

  -- it keeps nothing, is of no epoch behind this one, and says nothing
  pub server_unborn : (id : ℕ) (s after : Server) (messages : List Message) → slice_get old.nodes.servers id ≡ Some s → ServerGoes old.sent id s after messages → KeepsNothing chunk after × (after.kept.epoch ≤ epoch) × AllByRecursion (IsBefore chunk epoch) messages
  unfolding still_birth
  server_unborn id s after messages found goes =
      let stays = goes_unborn chunk epoch id old.sent s after messages (none id s found).0 before goes in
      let steps = steps_silent id s after messages found goes in
      let reached : IsReached steps.world = (still_birth epoch, steps.leads) in
      let ok = reached_world steps.world reached in
      let ahead = (ok.seals after.me).learned in
      let now : steps.world.known.current ≡ epoch = sym (ok.entry).epoch ∙ ap (λ (e : Entry). e.epoch) steps.entry in
      (stays.keeps, by_epoch steps.world after steps.shows (subst (λ n. (steps.world.members after.me).epoch ≤ n) now ahead) (cases_lt after.kept.epoch epoch), all_within messages (server_says id s after messages found goes) stays.says)
    where
      by_epoch : (v : ChunkWorld) (after : Server) → ShowsPlace (setting_of bytes epoch s) v.known after.kept.epoch (place_of chunk after) (v.members after.me) → (v.members after.me).epoch ≤ epoch → (after.kept.epoch < epoch) ⊎ (epoch ≤ after.kept.epoch) → after.kept.epoch ≤ epoch
      by_epoch v after shows within (inl early) = omega arith
      by_epoch v after shows within (inr late) = let same = shows.epoch_is late in omega arith
