-- What clients have asked and were told goes on with the machines of a store's chunks, whatever disks of the master fail.
use Rattle.std.proofs.Common.{◌≡◌, ℕ, Bool, List, [], ◌∷◌, None, refl, sym, subst}
use Rattle.gs_base.specs.declared.config.Config.{Config}
use Rattle.gs_base.specs.declared.numbers.ReqId.{ReqId}
use Rattle.gs_msg.specs.declared.event.DiskId.{DiskId}
use Rattle.gs_msg.specs.declared.message.Message.{Message}
use Rattle.gs_msg.specs.declared.node.NodeId.TheVariants as ids
use Rattle.gs_nodes.specs.Nodes.{with_master}
use Rattle.gs_nodes.specs.declared.place.MasterPlace.{MasterPlace}
use Rattle.gs_laws_parts.specs.server.Requests.{Asked, IsOfOneEdit}
use Rattle.gs_laws_world.proofs.lemmas.lasting.Lasting.{begins_firm}
use Rattle.gs_world.proofs.Reaching.{HaveSizes}
use Rattle.gs_world.specs.Histories.{History}
use Rattle.gs_laws_world.specs.lasting.Lasting.{Lasts, StepNamed}
use Rattle.gs_world.specs.Runs.{Goes, StaySent, Step}
use Rattle.gs_world.specs.Sent.{Sent}
use Rattle.gs_laws_lift.proofs.lemmas.stores.Answered.{nothing_new, of_client_quiet, of_master_quiet, server_done}
use Rattle.gs_laws_lift.proofs.lemmas.stores.AskingClients.{NoRequests, clients_go, of_master}
use Rattle.gs_laws_lift.proofs.lemmas.stores.AskingRuns.{asked_first, asks_more, does_say, none_more, stay_then}
use Rattle.gs_laws_lift.proofs.lemmas.stores.DoingAll.{answers_reply, cut_replies, masters_do_all}
use Rattle.gs_laws_lift.proofs.lemmas.stores.Posting.{posts_stay}
use Rattle.gs_laws_lift.proofs.lemmas.stores.Running.{before, leads_more, leads_still}
use Rattle.gs_laws_lift.proofs.lemmas.stores.SteppingAll.{held_first, lasting_stays, left_still, replies_of_master, stores_go_all}
use Rattle.gs_laws_lift.proofs.lemmas.stores.Telling.{asked_on, numbered_on, own_on, stores_tell_first}
use Rattle.gs_laws_lift.proofs.lemmas.stores.Waiting.{waits_go_on}
use Rattle.gs_laws_lift.specs.stores.Answers.{DonesAreAnswered, LivesOf}
use Rattle.gs_laws_lift.specs.stores.Asking.{AreAskedIn, AskMore}
use Rattle.gs_laws_lift.specs.stores.Going.{AllSent, Elsewhere, Kind, MasterGoes, OfMaster, OfServer, about_of, heard_in}
use Rattle.gs_laws_lift.specs.stores.Left.{Arranges, Cuts, Does, Keeps, MasterDoesAll, as_left, left_in}
use Rattle.gs_laws_lift.specs.stores.LeftTelling.{AreAskedOverAll, AskOnAll, StoreTellsOnAll, StoresTellFirstAll, StoresTellOnAll, StoresTellRunAll}
use Rattle.gs_laws_lift.specs.stores.Living.{GoesOn, StoreLives}
use Rattle.gs_laws_lift.specs.stores.Saying.{AreOfMaster, PushRight}
use Rattle.gs_laws_lift.specs.stores.Telling.{StoreTells}
use Rattle.gs_laws_lift.specs.stores.Waiting.{AllWaitAsked}

-- ---- the master says what is its own

module _ {D : Type 0} (seen : D → List ℕ) (armed : DiskId → ℕ → MasterPlace D → MasterPlace D) (sent : Sent) (old new : MasterPlace D) (messages : List Message) where
  pub does_all_say : MasterDoesAll seen armed sent old new messages → AreOfMaster messages
  does_all_say (Does sound does) = does_say seen (λ disk call place. place) sent (as_left old) (as_left new) messages does
  does_all_say (Cuts m after heard caller t place many said d first second at there was turn cut least within stand master kept counters told) = replies_of_master messages (cut_replies m.state caller t place messages said after.state cut)
  does_all_say (Keeps m after heard caller at there failed still same was answers) = replies_of_master messages (answers_reply m.state caller messages answers)
  does_all_say (Arranges disk call is none) = subst AreOfMaster (sym none) tt

module _ {D : Type 0} (seen : D → List ℕ) (failures : D → ℕ) (armed : DiskId → ℕ → MasterPlace D → MasterPlace D) where
  goes_say : (config : Config) (sent : Sent) (old new place : MasterPlace D) (messages : List Message) → Lasts seen (as_left old) → Lasts seen (as_left new) → new ≡ place → MasterGoes seen failures armed config sent old place messages → AreOfMaster messages
  goes_say config sent old new place messages lasts still is goes = does_all_say seen armed sent old place messages (masters_do_all seen failures armed config sent old place messages lasts (subst (λ there. Lasts seen (as_left there)) is still) goes)

  -- ---- what clients ask

  step_asks_all : (step : Step) (old new : History D) (asked : ℕ → Asked) → AreAskedIn asked old → Lasts seen (as_left old.nodes.master) → Lasts seen (as_left new.nodes.master) → Goes seen failures armed step old new → StepNamed step old → AskMore asked new
  step_asks_all step old new asked are lasts still goes named = asks_more old new asked are (clients_go seen failures armed step old new goes named says)
    where
      says : (place : MasterPlace D) (messages : List Message) → new.nodes.master ≡ place → MasterGoes seen failures armed old.nodes.config old.sent old.nodes.master place messages → NoRequests messages
      says place messages is does = of_master messages (goes_say old.nodes.config old.sent old.nodes.master new.nodes.master place messages lasts still is does)

  pub ask_on_all : AskOnAll seen failures armed
  ask_on_all [] old new asked are lasts same = record { all = asked; stay = none_more asked; are = subst (AreAskedIn asked) (sym same) are }
  ask_on_all (step ∷ steps) old new asked are lasts (mid, goes, named, still, rest) =
      let one = step_asks_all step old mid asked are lasts still goes named in
      let last = ask_on_all steps mid new one.all one.are still rest in
      record { all = last.all; stay = stay_then asked one.all last.all one.stay last.stay; are = last.are }

  pub asked_over_all : AreAskedOverAll seen failures armed
  asked_over_all config clients disks steps begun now none begins runs =
      let firm = begins_firm seen failures armed config clients disks begun none begins in
      let x = ask_on_all steps begun now (λ id. []) (asked_first seen failures armed config clients disks begun none begins) (subst (Lasts seen) (sym (left_still seen begun.nodes.master firm)) firm) runs in
      (x.all, x.are)

-- ---- what clients are told

module _ {D : Type 0} (seen : D → List ℕ) (failures : D → ℕ) (armed : DiskId → ℕ → MasterPlace D → MasterPlace D) (config : Config) (bytes : ReqId → List ℕ) (asked : ℕ → Asked) where
  answers_all : (step : Step) (old new : History D) (kind : Kind seen failures armed step old new) → AllSent (IsOfOneEdit asked) old.sent → AllWaitAsked asked old → Lasts seen (as_left old.nodes.master) → Lasts seen (as_left new.nodes.master)
      → (was : LivesOf seen config bytes (left_in old)) (behind : LivesOf seen config bytes (left_in new)) → ((chunk : ℕ) → GoesOn seen config bytes chunk step (heard_in seen failures armed kind) (left_in old) (left_in new) (was chunk) (behind chunk))
      → DonesAreAnswered seen config bytes asked (left_in old) was → DonesAreAnswered seen config bytes asked (left_in new) behind
  answers_all step old new (OfServer id s after messages moment found goes met servers master posted) one waits lasts still was behind each answered =
      server_done seen config bytes step (about_of goes) (left_in old) (left_in new) (posts_stay moment (ids.Server id) messages old.sent new.sent posted) asked was behind each one waits answered id s after messages moment goes found posted refl
  answers_all step old new (OfMaster place messages moment goes servers master posted) one waits lasts still was behind each answered =
      nothing_new seen config bytes step None (left_in old) (left_in new) (posts_stay moment ids.Master messages old.sent new.sent posted) asked was behind each one waits answered ids.Master messages moment posted
      (of_master_quiet messages (goes_say seen failures armed old.nodes.config old.sent old.nodes.master new.nodes.master place messages lasts still master goes))
  answers_all step old new (Elsewhere by messages moment are servers master posted) one waits lasts still was behind each answered =
      nothing_new seen config bytes step None (left_in old) (left_in new) (posts_stay moment by messages old.sent new.sent posted) asked was behind each one waits answered by messages moment posted (of_client_quiet messages are)

module _ {D : Type 0} (seen : D → List ℕ) (failures : D → ℕ) (armed : DiskId → ℕ → MasterPlace D → MasterPlace D) (config : Config) (bytes : ReqId → List ℕ) (among : List ℕ → Bool) (asked : ℕ → Asked) where
  pub stores_tell_on_all : StoresTellOnAll seen failures armed config bytes among asked
  stores_tell_on_all step old new lives goes one tells =
      let about = heard_in seen failures armed goes.kind in record {
        one = one;
        waits = waits_go_on seen failures armed asked step old new goes.kind tells.one tells.waits;
        dones = answers_all seen failures armed config bytes asked step old new goes.kind tells.one tells.waits lives.lasts goes.last.lasts lives.life goes.last.life goes.goes tells.dones;
        numbered = λ chunk.
            numbered_on seen config bytes asked step about (left_in old) (left_in new) lives.life goes.last.life goes.goes tells.one tells.numbered chunk (lives.life chunk) (goes.last.life chunk) refl (goes.goes chunk) (goes.from chunk) (tells.numbered chunk);
        own = λ chunk. own_on seen config bytes asked step about (left_in old) (left_in new) lives.life tells.one tells.own chunk (lives.life chunk) (goes.last.life chunk) (goes.goes chunk) (goes.from chunk) (tells.own chunk);
        asked_for = λ chunk. asked_on seen config bytes asked step about (left_in old) (left_in new) lives.life tells.one tells.asked_for chunk (lives.life chunk) (goes.last.life chunk) (goes.goes chunk) (goes.from chunk) (tells.asked_for chunk);
      }

  pub stores_tell_run_all : StoresTellRunAll seen failures armed config bytes among asked
  stores_tell_run_all x [] old new lives same held right one tells =
      subst (λ h. StoreTellsOnAll seen failures armed config bytes among asked old h lives) (sym same) (record { leads = record { last = lives; leads = λ chunk. leads_still seen config bytes chunk (left_in old) (lives.life chunk) }; tells = tells })
  stores_tell_run_all x (step ∷ steps) old new lives (mid, goes, named, still, rest) held right one tells =
      let stays : StaySent mid.sent new.sent = lasting_stays seen failures armed config bytes among steps mid new rest in
      let first =
      stores_go_all seen failures armed config bytes among x step old mid lives goes named still (λ chunk. held_first seen failures armed config bytes among chunk steps mid new rest (held chunk).1) (before seen failures armed (PushRight bytes) mid.sent new.sent stays right) in
      let more =
      stores_tell_run_all x steps mid new first.last rest (λ chunk. (held chunk).1) right one (stores_tell_on_all step old mid lives first (before seen failures armed (IsOfOneEdit asked) mid.sent new.sent stays one) tells) in
      record {
        leads = record {
          last = more.leads.last;
          leads = λ chunk.
              leads_more seen config bytes chunk step (heard_in seen failures armed first.kind) (left_in old) (left_in mid) (left_in new) (lives.life chunk) (first.last.life chunk) (more.leads.last.life chunk) (first.goes chunk) (more.leads.leads chunk);
        };
        tells = more.tells;
      }

  pub stores_tell_first_all : HaveSizes → StoresTellFirstAll seen failures armed config bytes among asked
  stores_tell_first_all sizes clients disks begun none begins held right one =
      let x = stores_tell_first seen failures armed config bytes among asked sizes clients disks begun none begins held right one in
      subst (λ place. (lives : StoreLives seen config bytes among (record begun { nodes = with_master place begun.nodes })) × StoreTells seen config bytes asked among (record begun { nodes = with_master place begun.nodes }) lives)
      (sym (left_still seen begun.nodes.master x.0.lasts)) x
