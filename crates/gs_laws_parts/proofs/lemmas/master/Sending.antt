-- Each message that is right in a state that is shown is sent by an event of the machine.
use Rattle.std.proofs.Common.{◌≡◌, ℕ, ◌<◌, ◌≤◌, ◌⊎◌, inl, inr, Bool, true, false, not, ◌||◌, List, [], ◌∷◌, Option, Some, None, refl, sym, ap, subst, ◌∙◌, arith}
use Rattle.std.specs.Prelude.{◌==◌, Contains, if◌then◌else◌}
use Rattle.std.specs.FinMap as fin
use Rattle.std.specs.List.{AllByRecursion, list_all}
use Rattle.std.proofs.lemmas.Bool.{false≢true, and_parts}
use Rattle.std.proofs.lemmas.List.Elements.{Contains-append_cases, Contains-append_left, Contains-append_right, Contains-push_cases}
use Rattle.gs_base.specs.Members.{is_member}
use Rattle.gs_base.specs.declared.epoch.EpochEnd.{EpochEnd}
use Rattle.gs_base.specs.declared.numbers.Stamp.{Stamp}
use Rattle.gs_lease.specs.declared.held.Grant.{Grant}
use Rattle.gs_msg.specs.declared.body.Body.{Body}
use Rattle.gs_msg.specs.declared.body.Body.TheVariants as bodies
use Rattle.gs_msg.specs.declared.body.Reported.{Reported}
use Rattle.gs_msg.specs.declared.chunk.Chunk.{Chunk as About}
use Rattle.gs_msg.specs.declared.chunk.Chunk.TheVariants as abouts
use Rattle.gs_msg.specs.declared.message.Message.{Message}
use Rattle.gs_msg.specs.declared.node.NodeId.{NodeId}
use Rattle.gs_msg.specs.declared.node.NodeId.TheVariants as nodes
use Rattle.gs_base.specs.declared.epoch.EpochEnd.TheVariants as ends
use Rattle.gs_lease.specs.declared.view.Purpose.TheVariants as purposes
use Rattle.gs_master_spec.specs.Chunks.{chunk_at, has_entry, is_any_in, members_of}
use Rattle.gs_master_spec.specs.Durable.{Settled, is_upgrade, prepared_view}
use Rattle.gs_master_spec.specs.Hearing.{is_any_on, is_stray, is_with_sealed}
use Rattle.gs_master_spec.specs.State.{State}
use Rattle.gs_master_spec.specs.declared.asking.Asking.{Asking}
use Rattle.gs_master_spec.specs.declared.asking.Prepared.{Prepared}
use Rattle.gs_laws_moves.specs.moves.Guards.{Heard, AreRight, IsAskedToCopy, IsElsewhere, IsRight, IsRightAbout, IsStrayOf, HasEnded, IsLeasedTo}
use Rattle.gs_laws_moves.specs.moves.Asked.{IsAskedFor, WasHeard}
use Rattle.gs_laws_moves.proofs.lemmas.moves.Asked.{more_so}
use Rattle.gs_laws_chunk.specs.machine.Stamps.{stamp_at}
use Rattle.gs_laws_chunk.specs.machine.Machine.{Sent, ChunkWorld, WasTold, Create, Advance, Promised, Grant as Granted, CopyOut, Report, Drop, Epoch, Learned}
use Rattle.gs_laws_chunk.specs.machine.Machine as machine
use Rattle.gs_laws_chunk.specs.machine.Acting.{actor}
use Rattle.gs_laws_chunk.specs.machine.Events.{Event, Can, IsFit, is_of, happens, sends, Leads, Rests, Goes, Grants, SendsDrop, TellsEpoch, AsksForCopy}
use Rattle.gs_laws_parts.specs.master.Showing.{ShowsEntry, ShowsPrepared, primary_of}
use Rattle.gs_laws_parts.proofs.lemmas.master.Stamps.{of_member, other_number, same_number}
use Rattle.gs_laws_parts.specs.master.Laws.{is_plain, is_plain_about, is_plain_message}
use Rattle.gs_laws_chunk.specs.machine.Mastering.{AreOfMaster}
use Rattle.gs_laws_parts.specs.server.Messages.{SaysOf, ReportsIt, NamesIt, TellsServer, TellsEpochTo}
use Rattle.gs_laws_parts.specs.master.Telling.{Says, TellsTo, TellsBody, MastersTell, Shows}

pub first_contains : {X : Type 0} (x : X) (xs : List X) → Contains (x ∷ xs) x
first_contains x xs = (0, omega arith, refl)

pub leads_on : (a b d : ChunkWorld) → Leads a b → Leads b d → Leads a d
leads_on a b d first Rests = first
leads_on a b d first (Goes w e more can) = Goes w e (leads_on a b w first more) can

pub masters_on : (a b d : ChunkWorld) (first : Leads a b) (next : Leads b d) → AreOfMaster a b first → AreOfMaster b d next → AreOfMaster a d (leads_on a b d first next)
unfolding leads_on
masters_on a b d first Rests f g = f
masters_on a b d first (Goes w e more can) f g = (masters_on a b w first more f g.0, g.1)

-- an event of the master leads there
pub record IsLed (w v : ChunkWorld) : Type 0 where
  pub leads : Leads w v
  pub masters : AreOfMaster w v leads

led_by : (w v : ChunkWorld) (e : Event) → happens w e ≡ v → Can w e → actor e ≡ None → IsLed w v
led_by w v e is can none = subst (IsLed w) is (record { leads = Goes w e Rests can; masters = (tt, none) })

-- ---- what was sent stays so

abbrev pub Stays : ChunkWorld → ChunkWorld → Type 0
Stays w v = (x : Sent) → Contains w.sent x → Contains v.sent x

module _ (chunk : ℕ) (w v : ChunkWorld) (stays : Stays w v) where
  says_of : (from : ℕ) (said : About) → SaysOf w from said → SaysOf v from said
  says_of from (abouts.Promised stamp count carried) k = (k.0, k.1, stays (record { server = from; body = Promised (k.0) count carried }) k.2)
  says_of from said k = k

  reports_all : (from epoch : ℕ) (replicas : List Reported) → AllByRecursion (ReportsIt chunk w from epoch) replicas → AllByRecursion (ReportsIt chunk v from epoch) replicas
  reports_all from epoch [] k = k
  reports_all from epoch (r ∷ replicas) k = (λ same. (let h = k.0 same in (h.0, h.1, stays (record { server = from; body = Report epoch (h.0) }) h.2)), reports_all from epoch replicas k.1)

  names_all : (from epoch : ℕ) (handles : List ℕ) → AllByRecursion (NamesIt chunk w from epoch) handles → AllByRecursion (NamesIt chunk v from epoch) handles
  names_all from epoch [] k = k
  names_all from epoch (h ∷ handles) k = (λ same. stays (record { server = from; body = Learned epoch }) (k.0 same), names_all from epoch handles k.1)

  pub says_more : (from : ℕ) (body : Body) → Says chunk w from body → Says chunk v from body
  says_more from (bodies.About handle said) k = λ same. says_of from said (k same)
  says_more from (bodies.Report epoch replicas) k = reports_all from epoch replicas k
  says_more from (bodies.Learned epoch handles) k = names_all from epoch handles k
  says_more from body k = k

  tells_server : (born to : ℕ) (said : About) → TellsServer born w to said → TellsServer born v to said
  tells_server born to (abouts.Create stamp) k = (k.0, k.1, k.2, stays (record { server = to; body = Create (k.0) }) k.3)
  tells_server born to (abouts.Advance stamp) k = (k.0, k.1, stays (record { server = to; body = Advance (k.0) }) k.2)
  tells_server born to (abouts.Grant given) k = (k.0, k.1, stays (record { server = to; body = Granted (k.0) (given.members) }) k.2)
  tells_server born to (abouts.CopyOut stamp target with_sealed) k = (k.0, k.1, stays (record { server = to; body = CopyOut (k.0) target with_sealed }) k.2)
  tells_server born to (abouts.Drop epoch promise) k = (k.0, k.1, stays (record { server = to; body = Drop epoch (k.0) }) k.2)
  tells_server born to said k = k

  tells_to : (born : ℕ) (to : NodeId) (said : About) → TellsTo born w to said → TellsTo born v to said
  tells_to born (nodes.Server to) said k = tells_server born to said k
  tells_to born to said k = k

  tells_epoch : (born : ℕ) (to : NodeId) (epoch : ℕ) (end : EpochEnd) → TellsEpochTo born w to epoch end → TellsEpochTo born v to epoch end
  tells_epoch born (nodes.Server to) epoch end k = λ later. stays (record { server = to; body = Epoch epoch end }) (k later)
  tells_epoch born to epoch end k = k

  tells_body : (born : ℕ) (to : NodeId) (body : Body) → TellsBody born chunk w to body → TellsBody born chunk v to body
  tells_body born to (bodies.About handle said) k = λ same. tells_to born to said (k same)
  tells_body born to (bodies.Epoch epoch end) k = tells_epoch born to epoch end k
  tells_body born to body k = k

  pub tells_more : (born : ℕ) (messages : List Message) → AllByRecursion (MastersTell born chunk w) messages → AllByRecursion (MastersTell born chunk v) messages
  tells_more born [] k = k
  tells_more born (m ∷ messages) k = (tells_body born m.to m.body k.0, tells_more born messages k.1)

  pub shows_more : (s : State) → v.entry ≡ w.entry → Shows chunk s w → Shows chunk s v
  shows_more s same k = record { entry = subst (ShowsEntry chunk s) (sym same) k.entry; said = more_so (Says chunk w) (Says chunk v) says_more s chunk k.said }

  pub heard_more : (heard : Heard) → WasHeard (Says chunk w) heard → WasHeard (Says chunk v) heard
  heard_more heard was server body is = says_more server body (was server body is)

-- ---- one message

-- events that send lead to where so much is told
pub record Sends (born chunk : ℕ) (w : ChunkWorld) (to : NodeId) (body : Body) : Type 0 where
  pub world : ChunkWorld
  pub leads : Leads w world
  pub masters : AreOfMaster w world leads
  pub entry : world.entry ≡ w.entry
  pub known : world.known ≡ w.known
  pub members : world.members ≡ w.members
  pub stays : Stays w world
  pub tells : TellsBody born chunk world to body

pub nothing_said : (born chunk : ℕ) (w : ChunkWorld) (to : NodeId) (body : Body) → TellsBody born chunk w to body → Sends born chunk w to body
nothing_said born chunk w to body tells = record { world = w; leads = Rests; masters = tt; entry = refl; known = refl; members = refl; stays = λ x there. there; tells = tells }

pub sent_so : (born chunk : ℕ) (w : ChunkWorld) (to : NodeId) (body : Body) (e : Event) (server : ℕ) (said : machine.Message) → Can w e → actor e ≡ None → happens w e ≡ sends w server said → TellsBody born chunk (sends w server said) to body → Sends born chunk w to body
sent_so born chunk w to body e server said can none is tells = record {
  world = sends w server said;
  leads = (led_by w (sends w server said) e is can none).leads;
  masters = (led_by w (sends w server said) e is can none).masters;
  entry = refl;
  known = refl;
  members = refl;
  stays = λ x there. Contains-append_left w.sent (record { server = server; body = said } ∷ []) x there;
  tells = tells;
}

pub told_now : (w : ChunkWorld) (server : ℕ) (said : machine.Message) → WasTold (sends w server said) server said
told_now w server said = Contains-append_right w.sent (record { server = server; body = said } ∷ []) (record { server = server; body = said }) (first_contains (record { server = server; body = said }) [])

-- ---- each that is right

-- one who isn't at home is no member, and isn't asked
not_home : (chunk : ℕ) (u : State) (w : ChunkWorld) → ShowsEntry chunk u w.entry → (server : ℕ) → w.entry.is_known ≡ true → is_stray (chunk_at u chunk) server ≡ true → (is_of w.entry.view.members server ≡ false) × (w.entry.asked server ≡ false)
unfolding chunk_at
not_home chunk u w k server known stray = by_entry (has_entry u chunk) (sym k.memory.known ∙ known) stray
  where
    settled : Option Settled
    settled = fin.get u.durable.chunks chunk

    asked : Option Asking
    asked = fin.get u.volatile.moving chunk

    members_shown : (o : Option Settled) → settled ≡ o → w.entry.view.members ≡ members_of (record { settled = o; asking = asked })
    members_shown None is = (k.durable.bare known is).members
    members_shown (Some x) is = (k.durable.settled x is).view.members

    by_parts : (a b : Bool) → is_member (members_of (record { settled = settled; asking = asked })) server ≡ a → is_any_in server asked ≡ b → not (a || b) ≡ true → (is_of w.entry.view.members server ≡ false) × (w.entry.asked server ≡ false)
    by_parts true b first second h = absurd (false≢true h)
    by_parts false true first second h = absurd (false≢true h)
    by_parts false false first second h = (of_member w.entry.view.members server ∙ ap (λ ms. is_member ms server) (members_shown settled refl) ∙ first, k.memory.asked server ∙ second)

    by_entry : (b : Bool) → b ≡ true → is_stray (if b then Some (record { settled = settled; asking = asked }) else None) server ≡ true → (is_of w.entry.view.members server ≡ false) × (w.entry.asked server ≡ false)
    by_entry false e h = absurd (false≢true e)
    by_entry true e h = by_parts (is_member (members_of (record { settled = settled; asking = asked })) server) (is_any_in server asked) refl refl h

module _ (born chunk : ℕ) (heard : Heard) (u : State) (w : ChunkWorld) (k : Shows chunk u w) where
  grant_sent : (grant : Grant) (to : NodeId) → IsLeasedTo u chunk grant to → Sends born chunk w to (bodies.About chunk (abouts.Grant grant))
  grant_sent grant to r =
      let shown = k.entry.durable.settled (record { view = r.view; is_moving = false }) r.settled.has in
      let said : machine.Message = Granted (w.entry.view.stamp) (w.entry.view.members) in
      subst (λ n. Sends born chunk w n (bodies.About chunk (abouts.Grant grant))) (sym r.is)
      (sent_so born chunk w (nodes.Server (r.primary)) (bodies.About chunk (abouts.Grant grant)) (Grants (r.primary)) r.primary said (shown.view.holder ∙ ap primary_of r.term) refl refl
      (λ same. (w.entry.view.stamp, sym r.under ∙ shown.view.stamp, subst (λ ms. WasTold (sends w r.primary said) r.primary (Granted (w.entry.view.stamp) ms)) (shown.view.members ∙ r.members) (told_now w r.primary said))))

  epoch_sent : (to : NodeId) (epoch : ℕ) (end : EpochEnd) → HasEnded u epoch end → Sends born chunk w to (bodies.Epoch epoch end)
  epoch_sent (nodes.Server to) epoch end r =
      let h = k.entry.durable.how r.before end r.ended in
      let at = (sym r.next) in
      sent_so born chunk w (nodes.Server to) (bodies.Epoch epoch end) (TellsEpoch to epoch) to (Epoch epoch (w.entry.how epoch)) (subst (λ n. n ≤ w.entry.epoch) at h.0) refl refl
      (λ later. subst (λ x. WasTold (sends w to (Epoch epoch (w.entry.how epoch))) to (Epoch epoch x)) (ap w.entry.how r.next ∙ h.1) (told_now w to (Epoch epoch (w.entry.how epoch))))
  epoch_sent nodes.Master epoch end r = nothing_said born chunk w nodes.Master (bodies.Epoch epoch end) tt
  epoch_sent (nodes.Client client) epoch end r = nothing_said born chunk w (nodes.Client client) (bodies.Epoch epoch end) tt

  -- the target of a copy is no member
  not_there : (asking : Asking) (target : ℕ) → fin.get u.volatile.moving chunk ≡ Some asking → asking.purpose ≡ purposes.Copy target → is_of w.entry.view.members target ≡ false
  not_there asking target has copies = by_settled (fin.get u.durable.chunks chunk) refl
    where
      said : IsAskedFor (Says chunk w) u chunk asking
      said = k.said.asked asking has

      out : is_member asking.asked target ≡ false
      out = subst (λ p. IsElsewhere p asking.asked) copies said.elsewhere

      by_settled : (o : Option Settled) → fin.get u.durable.chunks chunk ≡ o → is_of w.entry.view.members target ≡ false
      by_settled None is = ap (λ ms. is_of ms target) (k.entry.durable.bare (k.entry.memory.asking asking has).2 is).members
      by_settled (Some x) is = of_member w.entry.view.members target ∙ ap (λ ms. is_member ms target) ((k.entry.durable.settled x is).view.members ∙ sym (said.members x is)) ∙ out

  -- an image is asked for of one that has it
  sealed_fits : (source : ℕ) → is_with_sealed u.durable.phase (prepared_view u.durable chunk) source ≡ true → w.entry.is_known ≡ true
      → (w.entry.how w.entry.epoch ≡ ends.Prepare) × (w.entry.was_known ≡ true) × IsFit w.entry source
  sealed_fits source with_it known = by_prepared (prepared_view u.durable chunk) refl (and_parts (is_upgrade u.durable.phase) (is_any_on source (prepared_view u.durable chunk)) with_it)
    where
      by_part : (p : Prepared) → ShowsPrepared p w.entry → (a b : Bool) → is_member p.view.members source ≡ a → is_member p.holders source ≡ b → (a || b) ≡ true → IsFit w.entry source
      by_part p shown true b first second h = inl (of_member w.entry.prepared.members source ∙ ap (λ ms. is_member ms source) shown.view.members ∙ first)
      by_part p shown false true first second h = inr (shown.holders source second)
      by_part p shown false false first second h = absurd (false≢true h)

      by_prepared : (o : Option Prepared) → prepared_view u.durable chunk ≡ o → (is_upgrade u.durable.phase ≡ true) × (is_any_on source o ≡ true) → (w.entry.how w.entry.epoch ≡ ends.Prepare) × (w.entry.was_known ≡ true) × IsFit w.entry source
      by_prepared None is h = absurd (false≢true h.1)
      by_prepared (Some p) is h =
          let was = k.entry.durable.was p is known in
          (k.entry.durable.upgrade h.0, was, by_part p (k.entry.durable.prepared p is was) (is_member p.view.members source) (is_member p.holders source) refl refl h.1)

  copy_sent : (stamp : Stamp) (target : ℕ) (with_sealed : Bool) (to : NodeId) → IsAskedToCopy u chunk stamp target with_sealed to → Sends born chunk w to (bodies.About chunk (abouts.CopyOut stamp target with_sealed))
  copy_sent stamp target with_sealed to r =
      let asked = k.entry.memory.asking r.asking r.has in
      let said : machine.Message = CopyOut (w.entry.top) target with_sealed in
      subst (λ n. Sends born chunk w n (bodies.About chunk (abouts.CopyOut stamp target with_sealed))) (sym r.is)
      (sent_so born chunk w (nodes.Server (r.source)) (bodies.About chunk (abouts.CopyOut stamp target with_sealed)) (AsksForCopy (r.source) target with_sealed) r.source said
      (asked.1, not_there r.asking target r.has r.copies, λ with_it. sealed_fits r.source (sym r.sealed ∙ with_it) asked.2) refl refl
      (λ same. (w.entry.top, sym r.under ∙ asked.0, told_now w r.source said)))

  drop_sent : WasHeard (Says chunk w) heard → (epoch : ℕ) (promise : Stamp) (to : NodeId) → IsStrayOf heard u chunk epoch promise to → Sends born chunk w to (bodies.About chunk (abouts.Drop epoch promise))
  drop_sent was epoch promise to r =
      subst (λ n. Sends born chunk w n (bodies.About chunk (abouts.Drop epoch promise))) (sym r.is)
      (let t = told.0 in
      let said : machine.Message = Drop (w.entry.epoch) t in
      sent_so born chunk w (nodes.Server (r.server)) (bodies.About chunk (abouts.Drop epoch promise)) (SendsDrop (r.server) t) r.server said
      (k.entry.durable.rolling ∙ r.rolling, subst (λ n. WasTold w r.server (Report n t)) now told.2, away) refl refl
      (λ same. (t, told.1, subst (λ n. WasTold (sends w r.server said) r.server (Drop n t)) (sym now) (told_now w r.server said))))
    where
      now : epoch ≡ w.entry.epoch
      now = r.now ∙ sym k.entry.durable.epoch

      among : (replicas : List Reported) → Contains {X = Reported} replicas (record { handle = chunk; promise = promise; is_bad = r.is_bad }) → AllByRecursion (ReportsIt chunk w r.server epoch) replicas → (t : ℕ) × (promise ≡ stamp_at t) × WasTold w r.server (Report epoch t)
      among [] there all = absurd (let l : there.0 < 0 = there.1 in omega arith)
      among (x ∷ replicas) there all = by_place (Contains-append_cases (x ∷ []) replicas (record { handle = chunk; promise = promise; is_bad = r.is_bad }) there) all (among replicas)
        where
          by_first : Contains {X = Reported} [] (record { handle = chunk; promise = promise; is_bad = r.is_bad }) ⊎ (x ≡ record { handle = chunk; promise = promise; is_bad = r.is_bad }) → ReportsIt chunk w r.server epoch x → (t : ℕ) × (promise ≡ stamp_at t) × WasTold w r.server (Report epoch t)
          by_first (inl none) it = absurd (let l : none.0 < 0 = none.1 in omega arith)
          by_first (inr is) it = subst (ReportsIt chunk w r.server epoch) is it refl

          by_place : Contains {X = Reported} (x ∷ []) (record { handle = chunk; promise = promise; is_bad = r.is_bad }) ⊎ Contains {X = Reported} replicas (record { handle = chunk; promise = promise; is_bad = r.is_bad }) → ReportsIt chunk w r.server epoch x × AllByRecursion (ReportsIt chunk w r.server epoch) replicas
              → (Contains {X = Reported} replicas (record { handle = chunk; promise = promise; is_bad = r.is_bad }) → AllByRecursion (ReportsIt chunk w r.server epoch) replicas → (t : ℕ) × (promise ≡ stamp_at t) × WasTold w r.server (Report epoch t)) → (t : ℕ) × (promise ≡ stamp_at t) × WasTold w r.server (Report epoch t)
          by_place (inl here) both rest = by_first (Contains-push_cases [] x (record { handle = chunk; promise = promise; is_bad = r.is_bad }) here) both.0
          by_place (inr later) both rest = rest later both.1

      told : (t : ℕ) × (promise ≡ stamp_at t) × WasTold w r.server (Report epoch t)
      told = among r.replicas r.told (was r.server (bodies.Report epoch r.replicas) r.said)

      away : w.entry.is_known ≡ true → (is_of w.entry.view.members r.server ≡ false) × (w.entry.asked r.server ≡ false)
      away known = not_home chunk u w k.entry r.server known r.stray

  about_sent : WasHeard (Says chunk w) heard → (to : NodeId) (said : About) → is_plain_about said ≡ true → IsRightAbout heard u chunk to said → Sends born chunk w to (bodies.About chunk said)
  about_sent was to (abouts.Create stamp) plain r = absurd (false≢true plain)
  about_sent was to (abouts.Advance stamp) plain r = absurd (false≢true plain)
  about_sent was to (abouts.CopyOut stamp target with_sealed) plain r = copy_sent stamp target with_sealed to r
  about_sent was to (abouts.Grant grant) plain r = grant_sent grant to r
  about_sent was to (abouts.Renewed stamp end) plain r = nothing_said born chunk w to (bodies.About chunk (abouts.Renewed stamp end)) (λ same. renewed_tells to)
    where
      renewed_tells : (to : NodeId) → TellsTo born w to (abouts.Renewed stamp end)
      renewed_tells (nodes.Server to) = tt
      renewed_tells to = tt
  about_sent was to (abouts.Drop epoch promise) plain r = drop_sent was epoch promise to r
  about_sent was to said plain r = absurd r

  pub body_sent : WasHeard (Says chunk w) heard → (to : NodeId) (body : Body) → is_plain body ≡ true → IsRight heard u to body → Sends born chunk w to body
  body_sent was to (bodies.About handle said) plain r = by_key (handle == chunk) refl
    where
      by_key : (b : Bool) → (handle == chunk) ≡ b → Sends born chunk w to (bodies.About handle said)
      by_key true is = subst (λ h. Sends born chunk w to (bodies.About h said)) (sym (same_number handle chunk is)) (about_sent was to said plain (subst (λ h. IsRightAbout heard u h to said) (same_number handle chunk is) r))
      by_key false is = nothing_said born chunk w to (bodies.About handle said) (λ same. absurd (other_number handle chunk is same))
  body_sent was to (bodies.Epoch epoch end) plain r = epoch_sent to epoch end r
  body_sent was to body plain r = nothing_said born chunk w to body tt

-- ---- all of them

-- events that send lead to where all is told
pub record SendsAll (born chunk : ℕ) (w : ChunkWorld) (messages : List Message) : Type 0 where
  pub world : ChunkWorld
  pub leads : Leads w world
  pub masters : AreOfMaster w world leads
  pub entry : world.entry ≡ w.entry
  pub known : world.known ≡ w.known
  pub members : world.members ≡ w.members
  pub stays : Stays w world
  pub tells : AllByRecursion (MastersTell born chunk world) messages

pub all_sent : (born chunk : ℕ) (heard : Heard) (u : State) (messages : List Message) (w : ChunkWorld) → Shows chunk u w → WasHeard (Says chunk w) heard → list_all is_plain_message messages ≡ true → AreRight heard u messages → SendsAll born chunk w messages
all_sent born chunk heard u [] w k was plain right = record { world = w; leads = Rests; masters = tt; entry = refl; known = refl; members = refl; stays = λ x there. there; tells = tt }
all_sent born chunk heard u (m ∷ messages) w k was plain right =
    let parts = and_parts (is_plain_message m) (list_all is_plain_message messages) plain in
    let one = body_sent born chunk heard u w k was m.to m.body parts.0 right.0 in
    let more = all_sent born chunk heard u messages one.world (shows_more chunk w one.world one.stays u one.entry k) (heard_more chunk w one.world one.stays heard was) parts.1 right.1 in
    record {
      world = more.world;
      leads = leads_on w one.world more.world one.leads more.leads;
      masters = masters_on w one.world more.world one.leads more.leads one.masters more.masters;
      entry = more.entry ∙ one.entry;
      known = more.known ∙ one.known;
      members = more.members ∙ one.members;
      stays = λ x there. more.stays x (one.stays x there);
      tells = ((tells_more chunk one.world more.world more.stays born (m ∷ []) (one.tells, tt)).0, more.tells);
    }
