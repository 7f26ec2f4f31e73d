-- All chunks of a store at once, over each step, whatever disk of the master fails at it, and over runs.
use Rattle.std.proofs.Common.{◌≡◌, ℕ, Bool, true, false, List, [], ◌∷◌, Option, Some, None, refl, sym, ap, subst, arith}
use Rattle.std.specs.List.{AllByRecursion}
use Rattle.gs_base.specs.declared.config.Config.{Config}
use Rattle.gs_base.specs.declared.numbers.Moment.{Moment}
use Rattle.gs_base.specs.declared.numbers.ReqId.{ReqId}
use Rattle.gs_block.specs.Written.{HasBlocks}
use Rattle.gs_journal.specs.Faults.{Failing, armed}
use Rattle.gs_journal.specs.Records.{standing}
use Rattle.gs_master.specs.Masters.{MasterOf, with_journal}
use Rattle.gs_laws_parts.specs.master.Rows.{FamilyRows}
use Rattle.gs_laws_master.specs.Promises.{IsKept}
use Rattle.gs_laws_master.specs.Standing.{AreCounters}
use Rattle.gs_master_spec.specs.Durable.{Durable}
use Rattle.gs_master_spec.specs.Handling.{restarted}
use Rattle.gs_master_spec.specs.State.{is_failed}
use Rattle.gs_msg.specs.declared.body.Body.{Body}
use Rattle.gs_msg.specs.declared.body.Body.TheVariants as bodies
use Rattle.gs_msg.specs.declared.event.DiskId.{DiskId}
use Rattle.gs_msg.specs.declared.event.DiskId.TheVariants as disks
use Rattle.gs_msg.specs.declared.message.Message.{Message}
use Rattle.gs_msg.specs.declared.node.NodeId.TheVariants as ids
use Rattle.gs_nodes.specs.Nodes.{with_master}
use Rattle.gs_nodes.specs.declared.place.MasterPlace.{MasterPlace}
use Rattle.gs_nodes.specs.declared.place.MasterPlace.TheVariants.{Standing, Closed, Away}
use Rattle.gs_replica.specs.Stands.{replica_of}
use Rattle.gs_world.proofs.Reaching.{HaveSizes}
use Rattle.gs_world.proofs.Sending.{chained, step_stays}
use Rattle.gs_world.specs.Histories.{History, arms, fault_at, seen_of}
use Rattle.gs_laws_world.specs.lasting.Lasting.{IsToldIn, Lasts}
use Rattle.gs_world.specs.Runs.{StaySent, Step}
use Rattle.gs_world.specs.Sent.{message_of}
use Rattle.gs_laws_lift.proofs.lemmas.stores.Arming.{shows_armed, unknown_armed}
use Rattle.gs_laws_lift.proofs.lemmas.stores.Chains.{begun_standing, heard_of, marks_of}
use Rattle.gs_laws_lift.proofs.lemmas.stores.CutRows.{cut_rows, replies_so}
use Rattle.gs_laws_lift.proofs.lemmas.stores.DoingAll.{answers_reply, cut_replies, heard_by, masters_do_all}
use Rattle.gs_laws_lift.proofs.lemmas.stores.Durable.{has_durable}
use Rattle.gs_laws_lift.proofs.lemmas.stores.Keeping.{keeps_then}
use Rattle.gs_laws_lift.proofs.lemmas.stores.Living.{AllNext, elsewhere_next, server_next}
use Rattle.gs_laws_lift.proofs.lemmas.stores.Placing.{kind_of}
use Rattle.gs_laws_lift.proofs.lemmas.stores.Running.{before, leads_more, leads_still, stores_begin}
use Rattle.gs_laws_lift.proofs.lemmas.stores.Stepping.{IsReply as ReplyThere, master_next, still_next}
use Rattle.gs_laws_lift.proofs.lemmas.stores.Turns.{turn_next}
use Rattle.gs_laws_lift.specs.stores.Among.{AllAmong}
use Rattle.gs_laws_lift.specs.stores.Copying.{MakesOther, is_copied}
use Rattle.gs_laws_lift.specs.stores.Doing.{HasDurable}
use Rattle.gs_laws_lift.specs.stores.Going.{AllSent, Elsewhere, Kind, OfMaster, OfServer, Posts, about_of, heard_in}
use Rattle.gs_laws_lift.specs.stores.Left.{AreReplies, Arranges, Cuts, Does, IsReply, Keeps, MasterDoesAll, as_left, left_in, left_of}
use Rattle.gs_laws_lift.specs.stores.LeftRunning.{AreHeldThrough, ArmsLeft, EachLivesAll, IsSetUp, RunsLasting, StoreLeadsAll, StoresGoAll, StoresRunAll}
use Rattle.gs_laws_lift.specs.stores.Living.{ShowsArmed, StoreLives}
use Rattle.gs_laws_lift.specs.stores.Running.{UnknownArmed}
use Rattle.gs_laws_lift.specs.stores.Saying.{AreOfMaster, IsOfMaster, PushRight}
use Rattle.gs_laws_lift.specs.stores.Showing.{ShowsMaster, whole_in}
use Rattle.gs_laws_lift.specs.stores.Unborn.{IsUnknown}

-- ---- replies

replies_there : (messages : List Message) → AreReplies messages → AllByRecursion (λ (m : Message). ReplyThere m.body) messages
replies_there messages replies = replies_so (λ (m : Message). ReplyThere m.body) (λ m is. by_body m.body is) messages replies
  where
    by_body : (body : Body) → IsReply body → ReplyThere body
    by_body (bodies.Reply req result) is = tt
    by_body body is = absurd is

pub replies_of_master : (messages : List Message) → AreReplies messages → AreOfMaster messages
replies_of_master [] replies = tt
replies_of_master (m ∷ messages) replies = (by_body m.body replies.0, replies_of_master messages replies.1)
  where
    by_body : (body : Body) → IsReply body → IsOfMaster body
    by_body (bodies.Reply req result) is = tt
    by_body body is = absurd is

replies_others : (chunk : ℕ) (messages : List Message) → AreReplies messages → AllByRecursion (λ (m : Message). MakesOther chunk m.body) messages
replies_others chunk messages replies = replies_so (λ (m : Message). MakesOther chunk m.body) (λ m is. by_body m.body is) messages replies
  where
    by_body : (body : Body) → IsReply body → MakesOther chunk body
    by_body (bodies.Reply req result) is = tt
    by_body body is = absurd is

-- ---- at the master

module _ {D : Type 0} (seen : D → List ℕ) (config : Config) (bytes : ReqId → List ℕ) (among : List ℕ → Bool) (step : Step) (about : Option ℕ) (quiet : None ≡ about) (old new : History D) (lives : StoreLives seen config bytes among (left_in old)) (lasts : Lasts seen (as_left new.nodes.master))
    (held : (chunk : ℕ) → AllAmong among config.block chunk new.nodes.servers) (moment : Moment) (messages : List Message) (servers : new.nodes.servers ≡ old.nodes.servers) (posted : Posts moment ids.Master messages old.sent new.sent)
    (armed : DiskId → ℕ → MasterPlace D → MasterPlace D) (arming : ArmsLeft seen armed) (empty : HasBlocks config.block among (replica_of config.chunk []).bytes) (right : AllSent (PushRight bytes) new.sent) where
  abbrev O : History D
  O = left_in old

  abbrev N : History D
  N = left_in new

  -- a disk fails at a turn
  cut_next : (m : MasterOf D) (d : Durable) (first second : D) (at : as_left old.nodes.master ≡ Standing m) → as_left new.nodes.master ≡ Closed first second → IsKept d → AreCounters d → IsToldIn (standing (seen first) (seen second)) d → AreReplies messages
      → FamilyRows (λ chunk. is_copied new.sent chunk) (λ chunk. whole_in d chunk old.nodes.servers) m.state (restarted d m.state.log) messages (λ chunk. (begun_standing seen config bytes among step about O N lives m at chunk (lives.life chunk)).there)
      → AllNext seen config bytes among step about O N lives
  cut_next m d first second at master kept counters told replies rows =
      turn_next seen config bytes among step about O N lives quiet empty right moment messages servers posted m.state (subst (λ place. HasDurable seen place m.state.durable) (sym at) refl)
      (λ chunk. begun_standing seen config bytes among step about O N lives m at chunk (lives.life chunk)) (record m { state = restarted d m.state.log }) kept (subst (λ place. HasDurable seen place d) (sym master) told)
      (λ chunk w shows. subst (λ place. ShowsMaster seen chunk place w) (sym master) (record { durable = d; kept = kept; counters = counters; told = told; shows = shows.entry.durable }))
      (λ chunk k. subst (IsUnknown seen chunk d.epoch) (sym master) (record { durable = d; kept = kept; counters = counters; told = told; ungiven = k.ungiven; later = omega arith }))
      (replies_of_master messages replies) (λ chunk given. replies_others chunk messages replies) rows

  master_all : MasterDoesAll seen armed old.sent old.nodes.master new.nodes.master messages → AllNext seen config bytes among step about O N lives
  master_all (Does sound does) =
      master_next seen config bytes among step about quiet O N lives lasts held moment messages servers posted (λ disk call place. place) (record { shown = λ chunk w disk call place shows. shows; durable = λ d disk call place has. has })
      (λ disk call place last. last) (λ chunk disk call epoch place untold. untold) empty right does
  master_all (Cuts m after heard caller t place many said d first second at there was turn cut least within stand master kept counters told) =
      let replies = cut_replies m.state caller t place messages said after.state cut in
      cut_next m d first second at master kept counters told replies
      (cut_rows (λ chunk. is_copied new.sent chunk) (λ chunk. whole_in d chunk old.nodes.servers) m.config heard m.state t many d m.state.log messages (λ chunk. (begun_standing seen config bytes among step about O N lives m at chunk (lives.life chunk)).there)
      (λ chunk. let b = begun_standing seen config bytes among step about O N lives m at chunk (lives.life chunk) in heard_of seen config bytes among step about O N lives m.state heard (heard_by old.sent heard caller was) chunk (lives.life chunk) b.there b.linked)
      (λ chunk. let b = begun_standing seen config bytes among step about O N lives m at chunk (lives.life chunk) in marks_of seen config bytes among step about O N lives m.state d chunk (lives.life chunk) b.there b.linked) kept replies within stand turn)
  master_all (Keeps m after heard caller at there failed still same was answers) =
      let x = has_durable seen O.nodes.master lives.lasts in
      let replies = answers_reply m.state caller messages answers in
      still_next seen config bytes among step about quiet O N lives lasts held moment messages servers posted x.0 x.0 refl x.1 (subst (λ place. HasDurable seen place x.0) (sym same) x.1) (replies_there messages replies)
      (λ chunk w shows. subst (λ place. ShowsMaster seen chunk place w) (sym same) shows) (λ chunk epoch untold. subst (IsUnknown seen chunk epoch) (sym same) untold)
  master_all (Arranges disk call is none) =
      let x = has_durable seen O.nodes.master lives.lasts in
      let replies = subst AreReplies (sym none) tt in
      let same = ap as_left is in
      still_next seen config bytes among step about quiet O N lives lasts held moment messages servers posted x.0 x.0 refl x.1 (subst (λ place. HasDurable seen place x.0) (sym same) (arming.durable x.0 disk call old.nodes.master x.1)) (replies_there messages replies)
      (λ chunk w shows. subst (λ place. ShowsMaster seen chunk place w) (sym same) (arming.shown chunk w disk call old.nodes.master shows))
      (λ chunk epoch untold. subst (IsUnknown seen chunk epoch) (sym same) (arming.unknown chunk disk call epoch old.nodes.master untold))

-- ---- a step

-- while no disk has failed all is left
pub left_still : {D : Type 0} (seen : D → List ℕ) (place : MasterPlace D) → Lasts seen place → as_left place ≡ place
left_still seen (Standing m) lasts = ap (λ b. left_of b m) lasts.sound
left_still seen (Closed first second) lasts = refl
left_still seen Away lasts = refl

module _ {D : Type 0} (seen : D → List ℕ) (failures : D → ℕ) (armed : DiskId → ℕ → MasterPlace D → MasterPlace D) (config : Config) (bytes : ReqId → List ℕ) (among : List ℕ → Bool) where
  kind_next : IsSetUp seen failures armed config bytes among → (step : Step) (old new : History D) (lives : StoreLives seen config bytes among (left_in old)) (kind : Kind seen failures armed step old new) → Lasts seen (as_left new.nodes.master)
      → ((chunk : ℕ) → AllAmong among config.block chunk new.nodes.servers) → AllSent (PushRight bytes) new.sent → AllNext seen config bytes among step (heard_in seen failures armed kind) (left_in old) (left_in new) lives
  kind_next x step old new lives (OfServer id s after messages moment found goes met servers master posted) lasts held right =
      server_next seen config bytes among step (about_of goes) (left_in old) (left_in new) lives held x.apart id s after messages moment found goes refl met servers (ap as_left master) posted
  kind_next x step old new lives (OfMaster place messages moment goes servers master posted) lasts held right =
      master_all seen config bytes among step None refl old new lives lasts held moment messages servers posted armed x.arming x.empty right
      (subst (λ there. MasterDoesAll seen armed old.sent old.nodes.master there messages) (sym master)
      (masters_do_all seen failures armed old.nodes.config old.sent old.nodes.master place messages lives.lasts (subst (λ there. Lasts seen (as_left there)) master lasts) goes))
  kind_next x step old new lives (Elsewhere by messages moment are servers master posted) lasts held right = elsewhere_next seen config bytes among step None (left_in old) (left_in new) lives held refl right by messages moment are servers (ap as_left master) posted

  pub stores_go_all : StoresGoAll seen failures armed config bytes among
  stores_go_all x step old new lives goes named lasts held right =
      let kind = kind_of seen failures armed step old new goes named in
      let all = kind_next x step old new lives kind lasts held right in
      let keeps = keeps_then seen failures armed config bytes step old new lives.pushes (record { servers = lives.keeps.servers; buffers = lives.keeps.buffers }) kind in
      record {
        kind = kind;
        last = record {
          keeps = record { servers = keeps.servers; buffers = keeps.buffers };
          lasts = lasts;
          pushes = right;
          held = held;
          life = all.last;
          copies = all.copies;
          texts = all.texts;
        };
        goes = all.goes;
        from = all.from;
      }

  -- ---- a run

  -- what was sent stays so
  pub lasting_stays : (steps : List Step) (old new : History D) → RunsLasting seen failures armed steps old new → StaySent old.sent new.sent
  lasting_stays [] old new same = λ id message stands. subst (λ s. message_of s id ≡ Some message) (sym (ap (λ (h : History D). h.sent) same)) stands
  lasting_stays (step ∷ steps) old new (mid, goes, named, lasts, rest) = chained old.sent mid.sent new.sent (step_stays seen failures armed step old mid goes) (lasting_stays steps mid new rest)

  pub held_first : (chunk : ℕ) (steps : List Step) (mid new : History D) (runs : RunsLasting seen failures armed steps mid new) → AreHeldThrough seen failures armed config bytes among chunk steps mid new runs → AllAmong among config.block chunk mid.nodes.servers
  held_first chunk [] mid new same held = held
  held_first chunk (step ∷ steps) mid new runs held = held.0

  pub stores_run_all : StoresRunAll seen failures armed config bytes among
  stores_run_all x [] old new lives same held right =
      subst (λ h. StoreLeadsAll seen failures armed config bytes among old h lives) (sym same) (record { last = lives; leads = λ chunk. leads_still seen config bytes chunk (left_in old) (lives.life chunk) })
  stores_run_all x (step ∷ steps) old new lives (mid, goes, named, lasts, rest) held right =
      let stays : StaySent mid.sent new.sent = lasting_stays steps mid new rest in
      let one = stores_go_all x step old mid lives goes named lasts (λ chunk. held_first chunk steps mid new rest (held chunk).1) (before seen failures armed (PushRight bytes) mid.sent new.sent stays right) in
      let more = stores_run_all x steps mid new one.last rest (λ chunk. (held chunk).1) right in
      record {
        last = more.last;
        leads = λ chunk. leads_more seen config bytes chunk step (heard_in seen failures armed one.kind) (left_in old) (left_in mid) (left_in new) (lives.life chunk) (one.last.life chunk) (more.last.life chunk) (one.goes chunk) (more.leads chunk);
      }

  -- ---- from the beginning

  left_lives : (h : History D) → StoreLives seen config bytes among h → StoreLives seen config bytes among (left_in h)
  left_lives h lives = subst (StoreLives seen config bytes among) (λ i. record h { nodes = with_master (sym (left_still seen h.nodes.master lives.lasts) i) h.nodes }) lives

  pub each_lives_all : HaveSizes → EachLivesAll seen failures armed config bytes among
  each_lives_all sizes x clients pair steps begun now none begins runs held right =
      let first =
      stores_begin seen failures armed config bytes among sizes clients pair begun none begins (λ chunk. held_first chunk steps begun now runs (held chunk)) (before seen failures armed (PushRight bytes) begun.sent now.sent (lasting_stays steps begun now runs) right) in
      (stores_run_all x steps begun now (left_lives begun first) runs held right).last

-- ---- failures that are arranged

-- where what is left is arranged alike
pub arms_so : {D : Type 0} (seen : D → List ℕ) (armed : DiskId → ℕ → MasterPlace D → MasterPlace D) → ((disk : DiskId) (call : ℕ) (place : MasterPlace D) → as_left (armed disk call place) ≡ armed disk call (as_left place)) → ShowsArmed seen armed → UnknownArmed seen armed → ArmsLeft seen armed
arms_so seen armed alike shows unknown = record {
  shown = λ chunk w disk call place h. subst (λ p. ShowsMaster seen chunk p w) (sym (alike disk call place)) (shows.shown chunk w disk call (as_left place) h);
  durable = λ d disk call place h. subst (λ p. HasDurable seen p d) (sym (alike disk call place)) (shows.durable d disk call (as_left place) h);
  unknown = λ chunk disk call epoch place h. subst (IsUnknown seen chunk epoch) (sym (alike disk call place)) (unknown chunk disk call epoch (as_left place) h);
}

module _ {D : Type 0} (seen : D → List ℕ) where
  left_armed : (disk : DiskId) (call : ℕ) (place : MasterPlace (Failing D)) → as_left (arms disk call place) ≡ arms disk call (as_left place)
  left_armed disks.First call (Standing m) = by_fault (is_failed m.state.fault)
    where
      by_fault : (b : Bool) → left_of b (with_journal m (record m.journal { first = armed m.journal.first (fault_at call) })) ≡ arms disks.First call (left_of b m)
      by_fault true = refl
      by_fault false = refl
  left_armed disks.First call (Closed first second) = refl
  left_armed disks.First call Away = refl
  left_armed disks.Second call (Standing m) = by_fault (is_failed m.state.fault)
    where
      by_fault : (b : Bool) → left_of b (with_journal m (record m.journal { second = armed m.journal.second (fault_at call) })) ≡ arms disks.Second call (left_of b m)
      by_fault true = refl
      by_fault false = refl
  left_armed disks.Second call (Closed first second) = refl
  left_armed disks.Second call Away = refl

  pub arms_all : ArmsLeft (seen_of seen) arms
  arms_all = arms_so (seen_of seen) arms left_armed (shows_armed seen) (unknown_armed seen)
