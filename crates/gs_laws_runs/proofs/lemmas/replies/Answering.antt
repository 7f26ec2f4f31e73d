-- Each reply of each step of a run is as the plain machine answers.
use Rattle.std.proofs.Common.{◌≡◌, ◌⊎◌, inl, inr, ◌∙◌, ◌++◌, Bool, true, false, List, [], ◌∷◌, refl, ap, sym, subst}
use Rattle.std.specs.Prelude.{filter_map, option_map, take, MatchBool, Option, Some, None, Result}
use Rattle.std.specs.List.{AllByRecursion}
use Rattle.std.proofs.lemmas.List.Elements.{filter_map-append}
use Rattle.gs_base.specs.declared.numbers.Moment.{Moment}
use Rattle.gs_base.specs.declared.numbers.ReqId.{ReqId}
use Rattle.gs_base.specs.declared.refusal.Refusal.{Refusal}
use Rattle.gs_msg.specs.declared.answer.Answer.{Answer}
use Rattle.gs_msg.specs.declared.body.Body.{Body}
use Rattle.gs_msg.specs.declared.body.Body.TheVariants as bodies
use Rattle.gs_msg.specs.declared.event.Happening.{Happening}
use Rattle.gs_msg.specs.declared.event.Happening.TheVariants as happenings
use Rattle.gs_msg.specs.declared.message.Message.{Message}
use Rattle.gs_msg.specs.declared.node.NodeId.{NodeId}
use Rattle.gs_msg.specs.declared.node.NodeId.TheVariants as nodes
use Rattle.gs_msg.specs.declared.node.StoreNode.TheVariants as keepers
use Rattle.gs_master.specs.Journaled.{text_seen}
use Rattle.gs_master.specs.Masters.{MasterOf}
use Rattle.gs_laws_master.specs.Standing.{Comes as HearsAt, IsNamed}
use Rattle.gs_laws_master.specs.Written.{IsHeardBody}
use Rattle.gs_laws_plain.specs.commands.Commands.{command_of}
use Rattle.gs_laws_plain.specs.commands.Doing.{NewCallsDoAsAnswered}
use Rattle.gs_master_record.specs.Plain.{PlainEntry, Whole}
use Rattle.gs_master_spec.specs.Durable.{Durable}
use Rattle.gs_master_spec.specs.Handling.{handle, tick}
use Rattle.gs_master_spec.specs.State.{Turn, is_failed}
use Rattle.gs_laws_plain.proofs.lemmas.replies.Steady.{meek_replies, message_meek, messages_plainly, tick_meek, ticks_plainly}
use Rattle.gs_laws_plain.specs.replies.Steady.{ArePlainReplies, IsMeek, IsMeekReply, IsPlainReply}
use Rattle.gs_laws_plain.specs.replies.Waited.{RepliesSo}
use Rattle.gs_nodes.specs.declared.place.MasterPlace.TheVariants.{Standing}
use Rattle.gs_world.specs.Histories.{History}
use Rattle.gs_laws_world.specs.lasting.Lasting.{HearsNamed, IsToldIn}
use Rattle.gs_world.specs.Runs.{Comes, Step, Takes}
use Rattle.gs_world.specs.Sent.{message_of}
use Rattle.gs_laws_chunks.proofs.lemmas.accounts.Accounted.{runs_told}
use Rattle.gs_laws_chunks.proofs.lemmas.accounts.SeeingThrough.{reached_well}
use Rattle.gs_laws_chunks.proofs.lemmas.accounts.Well.{step_within, well_steady}
use Rattle.gs_laws_chunks.specs.accounts.Accounts.{Account}
use Rattle.gs_laws_chunks.specs.accounts.Hearing.{to_master}
use Rattle.gs_laws_chunks.specs.accounts.Running.{IsReached, IsToldAt, Setup}
use Rattle.gs_laws_world.specs.steady.Steady.{HearsWithin, IsHeardAt, LastsSteady, StandsSteady, StepWithin}
use Rattle.gs_laws_lift.specs.stores.Left.{as_left, left_of}
use Rattle.gs_laws_runs.specs.plain.Written.{IsAllBut, messages_at, messages_of_message, messages_of_tick, records_at, records_of_message, records_of_tick}
use Rattle.gs_laws_runs.specs.replies.Answered.{AnswersPlainly, AtStep, CommandsAreOfRecords, RepliesAreAsPlain}

-- ---- replies, by the account

module _ {D : Type 0} (m : MasterOf D) (a : Account) (records : List PlainEntry) (moment : Moment) (heard : Option Body) where
  abbrev Plain : ReqId → Result Answer Refusal → Type 0
  Plain req result = AnswersPlainly m a records moment heard req result

  abbrev AllPlain : List Message → Type 0
  AllPlain messages = AllByRecursion (λ (n : Message). RepliesSo Plain n.body) messages

  -- where a disk has failed
  abbrev AllMeek : List Message → Type 0
  AllMeek messages = is_failed m.state.fault ≡ true → (records ≡ []) × AllByRecursion (λ (n : Message). RepliesSo (IsMeekReply m.state heard) n.body) messages

  all_plain : (messages : List Message) → ArePlainReplies a.durable m.state records moment heard messages → AllMeek messages → AllPlain messages
  all_plain [] all meek = tt
  all_plain (n ∷ messages) all meek = (one n.body all.0 (λ failed. ((meek failed).0, (meek failed).1.0)), all_plain messages all.1 (λ failed. ((meek failed).0, (meek failed).1.1)))
    where
      one : (body : Body) → RepliesSo (IsPlainReply a.durable m.state records moment heard) body → (is_failed m.state.fault ≡ true → (records ≡ []) × RepliesSo (IsMeekReply m.state heard) body) → RepliesSo Plain body
      one (bodies.Reply req result) is meek = record { plain = is; failed = meek }
      one body is meek = tt

-- ---- steps

module _ (law : NewCallsDoAsAnswered) {D : Type 0} (x : Setup D) (a : Account) (m : MasterOf D) where
  -- it has what the account has, and all of it stands; or a disk has failed
  abbrev pub Had : Type 0
  Had = ((a.durable ≡ m.state.durable) × StandsSteady x.seen m) ⊎ (is_failed m.state.fault ≡ true)

  had : LastsSteady x.seen (left_of (is_failed m.state.fault) m) → IsToldAt x.seen (Standing m) a.durable → Had
  had lasts told = by (is_failed m.state.fault) refl lasts told
    where
      by : (b : Bool) → is_failed m.state.fault ≡ b → LastsSteady x.seen (left_of b m) → MatchBool b (IsToldIn (text_seen x.seen m.journal) a.durable) (a.durable ≡ m.state.durable) → Had
      by true failed lasts told = inr failed
      by false sound lasts told = inl (told, lasts)

  -- by what the account has
  by_account : (t : Turn) (moment : Moment) (heard : Option Body) → a.durable ≡ m.state.durable → ArePlainReplies m.state.durable m.state t.records moment heard t.sent → ArePlainReplies a.durable m.state t.records moment heard t.sent
  by_account t moment heard same all = subst (λ (d : Durable). ArePlainReplies d m.state t.records moment heard t.sent) (sym same) all

  turn_plain : (t : Turn) (moment : Moment) (heard : Option Body) → ((is_failed m.state.fault ≡ true) → IsMeek m.state heard t) → (StandsSteady x.seen m → ArePlainReplies m.state.durable m.state t.records moment heard t.sent) → Had →
      AllPlain m a t.records moment heard t.sent
  turn_plain t moment heard meek plain has = all_plain m a t.records moment heard t.sent (by has) (λ failed. ((meek failed).none, (meek failed).sent))
    where
      by : Had → ArePlainReplies a.durable m.state t.records moment heard t.sent
      by (inl has) = by_account t moment heard has.0 (plain has.1)
      by (inr failed) = meek_replies a.durable m.state moment heard t (meek failed)

  message_plain : (message : Message) (moment : Moment) → IsNamed (HearsAt message moment) → IsHeardBody m.state.durable.names message.body → Had →
      AllPlain m a (handle m.config m.state message moment).records moment (Some message.body) (handle m.config m.state message moment).sent
  message_plain message moment named low has =
      turn_plain (handle m.config m.state message moment) moment (Some message.body) (λ failed. message_meek m.config m.state message moment failed) (λ stands. messages_plainly law m.config m.state message moment named low (inl stands.steady)) has

  tick_plain : (moment : Moment) → Had → AllPlain m a (tick m.state moment).records moment None (tick m.state moment).sent
  tick_plain moment has = turn_plain (tick m.state moment) moment None (λ failed. tick_meek m.state moment failed) (λ stands. ticks_plainly m.state moment (inl stands.steady)) has

  module _ (old : History D) (at : old.nodes.master ≡ Standing m) (has : Had) where
    abbrev AtHeard : Moment → Option Message → Type 0
    AtHeard moment o = AllPlain m a (records_of_message old.nodes.master moment o) moment (option_map (λ (n : Message). n.body) o) (messages_of_message old.nodes.master moment o)

    -- what comes to it
    heard_plain : (moment : Moment) (message : Message) → IsNamed (HearsAt message moment) → IsHeardAt old.nodes.master message.body → AtHeard moment (Some message)
    heard_plain moment message named low =
        subst (λ p. AllPlain m a (records_of_message p moment (Some message)) moment (Some message.body) (messages_of_message p moment (Some message))) (sym at) (message_plain message moment named (subst (λ p. IsHeardAt p message.body) at low) has)

    -- where nothing does
    nothing_plain : (moment : Moment) → AtHeard moment None
    nothing_plain moment = subst (λ p. AllPlain m a (records_of_message p moment None) moment None (messages_of_message p moment None)) (sym at) tt

    by_happening : (moment : Moment) (happening : Happening) → HearsNamed moment happening old → HearsWithin happening old →
        AllByRecursion (λ (n : Message). RepliesSo (AtStep (Comes (record { moment = moment; happening = happening })) old a m) n.body) (messages_at (Comes (record { moment = moment; happening = happening })) old)
    by_happening moment (happenings.Deliver id) named within = by_found (message_of old.sent id) refl
      where
        by_to : (message : Message) → message_of old.sent id ≡ Some message → (to : NodeId) → message.to ≡ to → AtHeard moment (to_master (Some message))
        by_to message found nodes.Master to =
            let heard : to_master (Some message) ≡ Some message = rw to refl in
            (let both = named message found to in subst (AtHeard moment) (sym heard) (heard_plain moment message both (within message found to)))
        by_to message found (nodes.Server server) to = (let nobody : to_master (Some message) ≡ None = rw to refl in subst (AtHeard moment) (sym nobody) (nothing_plain moment))
        by_to message found (nodes.Client client) to = (let nobody : to_master (Some message) ≡ None = rw to refl in subst (AtHeard moment) (sym nobody) (nothing_plain moment))

        by_found : (o : Option Message) → message_of old.sent id ≡ o → AtHeard moment (to_master o)
        by_found None found = nothing_plain moment
        by_found (Some message) found = by_to message found message.to refl
    by_happening moment (happenings.Tick keepers.Master) named within = subst (λ p. AllPlain m a (records_of_tick p moment) moment None (messages_of_tick p moment)) (sym at) (tick_plain moment has)
    by_happening moment (happenings.Tick (keepers.Server id)) named within = tt
    by_happening moment (happenings.Ask req request) named within = tt
    by_happening moment (happenings.Beat id) named within = tt
    by_happening moment (happenings.Restart node) named within = tt
    by_happening moment (happenings.Lose id handle) named within = tt
    by_happening moment (happenings.Damage id handle block) named within = tt
    by_happening moment (happenings.FailDisk disk call) named within = tt

    by_step : (step : Step) → StepWithin step old → AllByRecursion (λ (n : Message). RepliesSo (AtStep step old a m) n.body) (messages_at step old)
    by_step (Comes event) within = by_happening event.moment event.happening within.0 within.1
    by_step (Takes client) within = tt

pub told_at : {D : Type 0} (x : Setup D) (old : History D) (a : Account) → IsReached x old a → IsToldAt x.seen old.nodes.master a.durable
told_at x old a r = runs_told x r.steps r.begun old r.first a r.begins.told r.runs

pub has_at : {D : Type 0} (x : Setup D) (old : History D) (a : Account) (m : MasterOf D) (law : NewCallsDoAsAnswered) → IsReached x old a → old.nodes.master ≡ Standing m → Had law x a m
has_at x old a m law r at = had law x a m (subst (λ p. LastsSteady x.seen (as_left p)) at (well_steady x old (reached_well x old a r))) (subst (λ p. IsToldAt x.seen p a.durable) at (told_at x old a r))

pub replies_plain : NewCallsDoAsAnswered → {D : Type 0} (x : Setup D) → RepliesAreAsPlain x
replies_plain law x old new a b step m r moves at = by_step law x a m old at (has_at x old a m law r at) step (step_within x r.begins.given step old new (reached_well x old a r) moves.steps)

-- ---- commands

-- a checkpoint says none
pub all_but_said : (records these : List PlainEntry) → IsAllBut records these → filter_map command_of these ≡ filter_map command_of records
all_but_said records these (inl all) = ap (filter_map command_of) all
all_but_said records these (inr (c, parts)) = sym (ap (filter_map command_of) parts ∙ filter_map-append command_of these (Whole c ∷ []) ∙ nothing (filter_map command_of these))
  where
    nothing : {A : Type 0} (xs : List A) → xs ++ [] ≡ xs
    nothing [] = refl
    nothing (y ∷ xs) = ap (λ zs. y ∷ zs) (nothing xs)

pub commands_said : {D : Type 0} (x : Setup D) → CommandsAreOfRecords x
commands_said x old new a b step p but = p.others ∙ all_but_said (records_at step old) (take p.written (records_at step old)) but
