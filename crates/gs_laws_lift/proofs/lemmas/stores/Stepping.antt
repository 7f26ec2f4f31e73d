-- All chunks of a store at once, over each step at which no disk of the master fails.
use Rattle.std.proofs.Common.{◌≡◌, ◌∙◌, ℕ, Bool, List, [], ◌∷◌, Option, Some, None, refl, sym, ap, subst, inl, inr, slice_get, arith}
use Rattle.std.specs.Prelude.{}
use Rattle.std.specs.List.{AllByRecursion}
use Rattle.gs_base.specs.declared.config.Config.{Config}
use Rattle.gs_base.specs.declared.numbers.Moment.{Moment}
use Rattle.gs_base.specs.declared.numbers.ReqId.{ReqId}
use Rattle.gs_block.specs.Written.{HasBlocks, TellsApart}
use Rattle.gs_msg.specs.declared.body.Body.{Body}
use Rattle.gs_msg.specs.declared.body.Body.TheVariants as bodies
use Rattle.gs_msg.specs.declared.event.DiskId.{DiskId}
use Rattle.gs_msg.specs.declared.message.Message.{Message}
use Rattle.gs_msg.specs.declared.node.NodeId.TheVariants as ids
use Rattle.gs_replica.specs.Stands.{replica_of}
use Rattle.gs_master_spec.specs.Durable.{Durable}
use Rattle.gs_nodes.specs.Happenings.{refusal_of_call}
use Rattle.gs_nodes.specs.declared.place.MasterPlace.{MasterPlace}
use Rattle.gs_world.specs.Histories.{History}
use Rattle.gs_laws_world.specs.lasting.Lasting.{Lasts, failures_at}
use Rattle.gs_laws_world.proofs.lemmas.lasting.Lasting.{run_lasts}
use Rattle.gs_laws_chunk.specs.machine.Machine.{ChunkWorld}
use Rattle.gs_laws_chunk.specs.machine.Events as events
use Rattle.gs_laws_parts.specs.server.Showing.{Setting}
use Rattle.gs_laws_parts.specs.server.Telling.{ServersTell}
use Rattle.gs_laws_parts.proofs.lemmas.master.Marking.{same_epoch}
use Rattle.gs_laws_parts.specs.master.Rows.{AreCopiedSince, CopiesSince}
use Rattle.gs_laws_lift.specs.stores.Copying.{MakesOther}
use Rattle.gs_laws_lift.proofs.lemmas.stores.Rowing.{rows_still}
use Rattle.gs_world.specs.Runs.{Step}
use Rattle.gs_laws_lift.specs.stores.Among.{AllAmong}
use Rattle.gs_laws_lift.specs.stores.Doing.{Arms, MasterDoes, HasDurable, Moves, Refuses, Starts, Waits}
use Rattle.gs_laws_lift.specs.stores.Going.{AllSent, Elsewhere, Kind, OfMaster, OfServer, Posts, about_of, heard_in}
use Rattle.gs_laws_lift.specs.stores.Joint.{AtMaster}
use Rattle.gs_laws_lift.specs.stores.Living.{ShowsArmed, StoreLives, TextsOf}
use Rattle.gs_laws_lift.specs.stores.Running.{LastsArmed, StoresGoOn, UnknownArmed}
use Rattle.gs_laws_lift.specs.stores.Saying.{PushRight}
use Rattle.gs_laws_lift.specs.stores.Showing.{Life, ShowsMaster, setting, whole_in}
use Rattle.gs_laws_lift.specs.stores.Unborn.{IsBefore, IsUnknown}
use Rattle.gs_laws_lift.proofs.lemmas.stores.Births.{stays_unborn}
use Rattle.gs_laws_lift.proofs.lemmas.stores.Chains.{begun_standing, begun_started, chain_next}
use Rattle.gs_laws_lift.proofs.lemmas.stores.Doing.{masters_do}
use Rattle.gs_laws_lift.proofs.lemmas.stores.Durable.{durable_shown, has_durable, kept_there, unknown_on}
use Rattle.gs_laws_lift.proofs.lemmas.stores.Keeping.{keeps_then}
use Rattle.gs_laws_lift.proofs.lemmas.stores.Living.{AllNext, Next, all_next, elsewhere_next, goes_next, server_next, tells_no_copy}
use Rattle.gs_laws_lift.proofs.lemmas.stores.Placing.{kind_of}
use Rattle.gs_laws_lift.proofs.lemmas.stores.Posting.{posted_all}

abbrev pub IsReply : Body → Type 0
IsReply (bodies.Reply req result) = Unit {0}
IsReply body = ⊥

refusal_replies : (caller : Option ReqId) → AllByRecursion (λ (m : Message). IsReply m.body) (refusal_of_call caller)
refusal_replies None = tt
refusal_replies (Some req) = (tt, tt)

module _ {D : Type 0} (seen : D → List ℕ) (config : Config) (bytes : ReqId → List ℕ) (among : List ℕ → Bool) (step : Step) (about : Option ℕ) (quiet : None ≡ about) (old new : History D) (lives : StoreLives seen config bytes among old) (lasts : Lasts seen new.nodes.master)
    (held : (chunk : ℕ) → AllAmong among config.block chunk new.nodes.servers) (moment : Moment) (messages : List Message) (servers : new.nodes.servers ≡ old.nodes.servers) (posted : Posts moment ids.Master messages old.sent new.sent) where
  -- ---- no machine changes

  module _ (before behind : Durable) (same : behind ≡ before) (had : HasDurable seen old.nodes.master before) (has : HasDurable seen new.nodes.master behind) (replies : AllByRecursion (λ (m : Message). IsReply m.body) messages)
      (shown : (chunk : ℕ) (w : ChunkWorld) → ShowsMaster seen chunk old.nodes.master w → ShowsMaster seen chunk new.nodes.master w) (unknown : (chunk epoch : ℕ) → IsUnknown seen chunk epoch old.nodes.master → IsUnknown seen chunk epoch new.nodes.master) where
    reply_tells : (c : Setting) (chunk : ℕ) (w : ChunkWorld) (ms : List Message) → AllByRecursion (λ (m : Message). IsReply m.body) ms → AllByRecursion (ServersTell c chunk w) ms
    reply_tells c chunk w [] all = tt
    reply_tells c chunk w (m ∷ ms) all = (by_body m.body all.0, reply_tells c chunk w ms all.1)
      where
        by_body : (body : Body) → IsReply body → ServersTell c chunk w (record { from = m.from; to = m.to; body = body })
        by_body (bodies.Reply req result) is = tt
        by_body body is = absurd is

    reply_copies : (chunk : ℕ) (d : Durable) (low : ℕ) (was : Bool) (w : ChunkWorld) (ms : List Message) → AllByRecursion (λ (m : Message). IsReply m.body) ms → AreCopiedSince chunk d low was w ms
    reply_copies chunk d low was w [] all = tt
    reply_copies chunk d low was w (m ∷ ms) all = (by_body m.body all.0, reply_copies chunk d low was w ms all.1)
      where
        by_body : (body : Body) → IsReply body → CopiesSince chunk d low was w body
        by_body (bodies.Reply req result) is = tt
        by_body body is = absurd is

    reply_others : (chunk : ℕ) (ms : List Message) → AllByRecursion (λ (m : Message). IsReply m.body) ms → AllByRecursion (λ (m : Message). MakesOther chunk m.body) ms
    reply_others chunk [] all = tt
    reply_others chunk (m ∷ ms) all = (by_body m.body all.0, reply_others chunk ms all.1)
      where
        by_body : (body : Body) → IsReply body → MakesOther chunk body
        by_body (bodies.Reply req result) is = tt
        by_body body is = absurd is

    reply_before : (chunk epoch : ℕ) (ms : List Message) → AllByRecursion (λ (m : Message). IsReply m.body) ms → AllByRecursion (IsBefore chunk epoch) ms
    reply_before chunk epoch [] all = tt
    reply_before chunk epoch (m ∷ ms) all = (by_body m.body all.0, reply_before chunk epoch ms all.1)
      where
        by_body : (body : Body) → IsReply body → IsBefore chunk epoch (record { from = m.from; to = m.to; body = body })
        by_body (bodies.Reply req result) is = (tt, tt)
        by_body body is = absurd is

    stays : (chunk : ℕ) (life : Life seen config bytes chunk old) → TextsOf seen config bytes among chunk old life → Next seen config bytes among step about old new lives chunk life
    stays chunk (inl first) texts = record {
      last = (inl (stays_unborn config bytes chunk seen old new first ids.Master moment messages servers posted first.epoch (omega arith) (unknown chunk first.epoch first.master) (reply_before chunk first.epoch messages replies)));
      goes = tt;
      from = tt;
      texts = tt;
    }
    stays chunk (inr a) texts =
        let c = setting config bytes a.reached.0.epoch in
        let there : ShowsMaster seen chunk new.nodes.master a.world = shown chunk a.world a.shows.master in
        goes_next seen config bytes among step about old new lives held chunk a texts (record {
          world = a.world;
          leads = events.Rests;
          shows = record {
            members = λ id x found. a.shows.members id x (subst (λ xs. slice_get xs id ≡ Some x) servers found);
            master = there;
            sent = posted_all (ServersTell c chunk a.world) moment ids.Master messages old.sent new.sent posted a.shows.sent (reply_tells c chunk a.world messages replies);
          };
          by = AtMaster (record {
            before = before;
            behind = behind;
            had = had;
            has = has;
            shown = durable_shown seen chunk a.world old.nodes.master before had a.shows.master;
            shows = durable_shown seen chunk a.world new.nodes.master behind has there;
            leads = events.Rests;
            masters = tt;
            members = λ j. inl refl;
            marks = same_epoch (whole_in behind chunk old.nodes.servers) a.world a.world refl;
            servers = servers;
            kept = kept_there seen new.nodes.master behind lasts has;
            rows = rows_still chunk before behind a.world a.reached same;
            messages = messages;
            copies = reply_copies chunk behind a.world.known.view a.world.entry.is_known a.world messages replies;
            others = reply_others chunk messages replies;
            moment = moment;
            posted = posted;
          });
          heard = quiet;
        })

    pub still_next : AllNext seen config bytes among step about old new lives
    still_next =
        let each : (chunk : ℕ) → Next seen config bytes among step about old new lives chunk (lives.life chunk) = λ chunk. stays chunk (lives.life chunk) (lives.texts chunk) in
        all_next seen config bytes among step about old new lives each ids.Master moment messages posted
        (tells_no_copy seen config bytes among step about old new lives (λ (body : Body). IsReply body) (λ handle at new_handle stamp is. is) (λ chunk. (each chunk).last) messages replies)

  -- ---- whatever the master does

  module _ (armed : DiskId → ℕ → MasterPlace D → MasterPlace D) (arming : ShowsArmed seen armed) (lasting : LastsArmed seen armed) (unknown : UnknownArmed seen armed) (empty : HasBlocks config.block among (replica_of config.chunk []).bytes) (right : AllSent (PushRight bytes) new.sent) where
    pub master_next : MasterDoes seen armed old.sent old.nodes.master new.nodes.master messages → AllNext seen config bytes among step about old new lives
    master_next (Moves m after heard t at master was turn state sends) =
        chain_next seen config bytes among step about old new lives quiet empty right moment messages servers posted m.state (subst (λ place. HasDurable seen place m.state.durable) (sym at) refl)
        (λ chunk. begun_standing seen config bytes among step about old new lives m at chunk (lives.life chunk)) m.config heard t turn was after master lasts state sends
    master_next (Starts by_config d log after t had kept counters master turn state sends) =
        chain_next seen config bytes among step about old new lives quiet empty right moment messages servers posted _ had
        (λ chunk. begun_started seen config bytes among step about old new lives d log had kept counters chunk (lives.life chunk)) by_config None t turn (inl refl) after master lasts state sends
    master_next (Waits d first second had kept counters master told none) =
        still_next d d refl had (subst (λ place. HasDurable seen place d) (sym master) told) (subst (AllByRecursion (λ (m : Message). IsReply m.body)) (sym none) tt)
        (λ chunk w shows. subst (λ place. ShowsMaster seen chunk place w) (sym master) (record { durable = d; kept = kept; counters = counters; told = told; shows = durable_shown seen chunk w old.nodes.master d had shows }))
        (λ chunk epoch untold. let x = unknown_on seen chunk epoch old.nodes.master d had untold in
        subst (IsUnknown seen chunk epoch) (sym master) (record { durable = d; kept = kept; counters = counters; told = told; ungiven = x.0; later = x.1 }))
    master_next (Refuses caller same sends) =
        let x = has_durable seen old.nodes.master lives.lasts in
        still_next x.0 x.0 refl x.1 (subst (λ place. HasDurable seen place x.0) (sym same) x.1) (subst (AllByRecursion (λ (m : Message). IsReply m.body)) (sym sends) (refusal_replies caller))
        (λ chunk w shows. subst (λ place. ShowsMaster seen chunk place w) (sym same) shows) (λ chunk epoch untold. subst (IsUnknown seen chunk epoch) (sym same) untold)
    master_next (Arms disk call same none) =
        let x = has_durable seen old.nodes.master lives.lasts in
        still_next x.0 x.0 refl x.1 (subst (λ place. HasDurable seen place x.0) (sym same) (arming.durable x.0 disk call old.nodes.master x.1)) (subst (AllByRecursion (λ (m : Message). IsReply m.body)) (sym none) tt)
        (λ chunk w shows. subst (λ place. ShowsMaster seen chunk place w) (sym same) (arming.shown chunk w disk call old.nodes.master shows))
        (λ chunk epoch untold. subst (IsUnknown seen chunk epoch) (sym same) (unknown chunk disk call epoch old.nodes.master untold))

-- ---- a step

module _ {D : Type 0} (seen : D → List ℕ) (failures : D → ℕ) (armed : DiskId → ℕ → MasterPlace D → MasterPlace D) (config : Config) (bytes : ReqId → List ℕ) (among : List ℕ → Bool) where
  kind_next : ShowsArmed seen armed → LastsArmed seen armed → UnknownArmed seen armed → TellsApart among → HasBlocks config.block among (replica_of config.chunk []).bytes → (step : Step) (old new : History D) (lives : StoreLives seen config bytes among old) (kind : Kind seen failures armed step old new)
      → failures_at failures new.nodes.master ≡ failures_at failures old.nodes.master → Lasts seen new.nodes.master → ((chunk : ℕ) → AllAmong among config.block chunk new.nodes.servers) → AllSent (PushRight bytes) new.sent → AllNext seen config bytes among step (heard_in seen failures armed kind) old new lives
  kind_next arming lasting unknown apart empty step old new lives (OfServer id s after messages moment found goes met servers master posted) same lasts held right =
      server_next seen config bytes among step (about_of goes) old new lives held apart id s after messages moment found goes refl met servers master posted
  kind_next arming lasting unknown apart empty step old new lives (OfMaster place messages moment goes servers master posted) same lasts held right =
      master_next seen config bytes among step None refl old new lives lasts held moment messages servers posted armed arming lasting unknown empty right
      (subst (λ there. MasterDoes seen armed old.sent old.nodes.master there messages) (sym master) (masters_do seen failures armed old.nodes.config old.sent old.nodes.master place messages lives.lasts (sym (ap (failures_at failures) master) ∙ same) goes))
  kind_next arming lasting unknown apart empty step old new lives (Elsewhere by messages moment are servers master posted) same lasts held right = elsewhere_next seen config bytes among step None old new lives held refl right by messages moment are servers master posted

  pub stores_go_on : StoresGoOn seen failures armed config bytes among
  stores_go_on arming lasting unknown apart empty step old new lives goes named same held right =
      let kind = kind_of seen failures armed step old new goes named in
      let lasts = run_lasts seen failures armed lasting (step ∷ []) old new (new, goes, named, same, refl) lives.lasts in
      let all = kind_next arming lasting unknown apart empty step old new lives kind same lasts held right in
      record {
        kind = kind;
        last = record {
          keeps = keeps_then seen failures armed config bytes step old new lives.pushes lives.keeps kind;
          lasts = lasts;
          pushes = right;
          held = held;
          life = all.last;
          copies = all.copies;
          texts = all.texts;
        };
        goes = all.goes;
        from = all.from;
      }
