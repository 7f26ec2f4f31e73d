-- What happens to a chunk: each event with what must be true for it, and with what it makes of a world.
use Rattle.std.specs.Prelude.{◌≡◌, ◌≢◌, ℕ, ◌+◌, ◌-◌, ◌<◌, ◌≤◌, ◌⊎◌, max, Bool, true, false, not, ◌&&◌, ◌||◌, nat_eq, cond, List, [], ◌∷◌, ◌++◌, take, length, Option, Some, None, is_some, slice_get, Contains, filter}
use Rattle.std.specs.List.{AllByRecursion, list_any}
use Rattle.gs_base.specs.declared.epoch.EpochEnd.{EpochEnd}
use Rattle.gs_base.specs.declared.epoch.EpochEnd.TheVariants.{Prepare, Finalize, Rollback}
use Rattle.gs_replica.specs.Stands.{Edit}
use Rattle.gs_laws_chunk.specs.machine.Stamps.{epoch_of, start_of}
use Rattle.gs_laws_chunk.specs.machine.Machine.{Open, MemberLease, Member, Message, Create, Advance, Promised, Grant, Forward, Ack, Done, CopyOut, CopyIn, Report, Drop, Epoch, Learned, Sent, View, Entry, Known, ChunkWorld, WasTold}

-- Each event is small, and says what it meets: the live edits, the lease. What a node does at once is a list of them.
pub data Event : Type 0 where
  -- a server goes on to a greater stamp, with what a message brings or with what it has; it says its promise again, or sends a copy
  Raises : (me stamp : ℕ) → (edits : List Edit) → (image : Option (List Edit)) → Event
  Rises : (me stamp : ℕ) → (edits : List Edit) → Event
  Promises : (me : ℕ) → (edits : List Edit) → Event
  SendsCopy : (me stamp target : ℕ) → (edits : List Edit) → (image : Option (List Edit)) → Event
  -- a primary takes its lease, numbers an edit under it and sends it on
  TakesLease : (me stamp : ℕ) → (members : List ℕ) → Event
  Numbers : (me : ℕ) → (lease : MemberLease) → (edits : List Edit) → (edit : Edit) → Event
  Forwards : (me : ℕ) → (lease : MemberLease) → (to place : ℕ) → (edit : Edit) → Event
  -- a member takes the next edit, and tells its count
  Applies : (me : ℕ) → (edits : List Edit) → (edit : Edit) → Event
  Acknowledges : (me : ℕ) → (edits : List Edit) → Event
  -- the primary hears a count, lets an edit go that all have told, and tells a client that it is done
  Hears : (me : ℕ) → (lease : MemberLease) → (from count : ℕ) → Event
  Closes : (me : ℕ) → (lease : MemberLease) → (place : ℕ) → Event
  Answers : (me : ℕ) → (lease : MemberLease) → (place : ℕ) → (edit : Edit) → Event
  -- a lease ends; a replica is dropped, lost or damaged
  Spends : (me : ℕ) → Event
  Drops : (me : ℕ) → Event
  Loses : (me : ℕ) → Event
  Damages : (me : ℕ) → Event
  -- a server learns the next epoch, names the chunk behind a rollback, reports what it has
  Learns : (me : ℕ) → (end : EpochEnd) → (fails : Bool) → Event
  Names : (me : ℕ) → (edits : List Edit) → Event
  Reports : (me : ℕ) → Event
  -- the master proposes a stamp to those who may be counted, brings the first replicas, asks members, and has a copy sent
  Proposes : (stamp : ℕ) → (asked : ℕ → Bool) → Event
  AsksFirst : (to : ℕ) → (copy : Bool) → Event
  Asks : (to : ℕ) → Event
  AsksForCopy : (source target : ℕ) → (with_image : Bool) → Event
  -- it counts nobody any more; it keeps who took an image; it settles the view of those who told the most edits, and grants the lease
  GivesUp : Event
  Holds : (server : ℕ) → Event
  Settles : (members : List ℕ) → (count : ℕ) → (holder : Option ℕ) → Event
  Grants : (to : ℕ) → Event
  -- it forgets the chunk; it has a replica dropped
  Retires : Event
  SendsDrop : (to promise : ℕ) → Event
  -- its epoch goes up by a prepare, a finalize or a rollback, which is committed with the members that named the chunk, or without it
  Prepares : (whole : ℕ → Bool) → Event
  Finalizes : Event
  BeginsRollback : Event
  CommitsRollback : (members : List ℕ) → (keeps : Bool) → Event
  -- it tells a server how an epoch began
  TellsEpoch : (to epoch : ℕ) → Event

abbrev pub is_of : List ℕ → ℕ → Bool
is_of xs j = list_any (nat_eq j) xs

-- an edit waits at this place
abbrev pub waits : List Open → ℕ → Bool
waits waiting place = list_any (λ (o : Open). nat_eq place o.place) waiting

-- an edit's request has a number above all that its list has of its client
abbrev pub IsNew : List Edit → Edit → Type 0
IsNew edits e = AllByRecursion (λ (o : Edit). o.req.client.0 ≡ e.req.client.0 → o.req.number < e.req.number) edits

-- each member has told a count above the place
abbrev pub IsCovered : MemberLease → ℕ → Type 0
IsCovered l place = (j : ℕ) → is_of l.members j ≡ true → place < l.told j

-- a message that brings a replica under a stamp
abbrev pub Brings : ChunkWorld → ℕ → ℕ → List Edit → Option (List Edit) → Type 0
Brings w me stamp edits image = (WasTold w me (Create stamp) × (edits ≡ []) × (image ≡ None)) ⊎ WasTold w me (CopyIn stamp edits image)

-- a message that asks for a promise of a stamp
abbrev pub AsksAgain : ChunkWorld → ℕ → ℕ → Type 0
AsksAgain w me stamp = WasTold w me (Advance stamp) ⊎ ((edits : List Edit) × (image : Option (List Edit)) × Brings w me stamp edits image)

-- whose image was sealed at the prepare, or brought by a copy since
abbrev pub IsFit : Entry → ℕ → Type 0
IsFit entry j = (is_of entry.prepared.members j ≡ true) ⊎ (entry.holders j ≡ true)

-- a former member that has promised with no more edits; a view without members has none
abbrev pub HasWitness : ChunkWorld → ℕ → Type 0
HasWitness w count = (w.entry.view.members ≡ []) ⊎ ((x : ℕ) × (c : ℕ) × (carried : Bool) × (is_of w.entry.view.members x ≡ true) × WasTold w x (Promised w.entry.top c carried) × (c ≤ count))

-- what must be true for an event
abbrev pub Can : ChunkWorld → Event → Type 0
Can w (Raises me stamp edits image) = ((w.members me).promise < stamp) × (epoch_of stamp ≡ (w.members me).epoch) × Brings w me stamp edits image
Can w (Rises me stamp edits) = ((w.members me).promise < stamp) × (epoch_of stamp ≡ (w.members me).epoch) × WasTold w me (Advance stamp) × ((w.members me).live ≡ Some edits)
Can w (Promises me edits) = ((w.members me).live ≡ Some edits) × AsksAgain w me (w.members me).promise
Can w (SendsCopy me stamp target edits image) = (stamp ≡ (w.members me).promise) × (epoch_of stamp ≡ (w.members me).epoch) × ((w.members me).live ≡ Some edits)
    × ((with_image : Bool) × WasTold w me (CopyOut stamp target with_image) × ((image ≡ None) ⊎ ((with_image ≡ true) × (image ≡ (w.members me).image))))
Can w (TakesLease me stamp members) = WasTold w me (Grant stamp members) × (stamp ≡ (w.members me).promise) × ((w.members me).taken ≢ stamp)
Can w (Numbers me lease edits edit) = ((w.members me).lease ≡ Some lease) × ((w.members me).live ≡ Some edits) × IsNew edits edit
Can w (Forwards me lease to place edit) = ((w.members me).lease ≡ Some lease) × (is_of lease.members to ≡ true) × Contains lease.waiting (record { place = place; edit = edit })
Can w (Applies me edits edit) = ((w.members me).live ≡ Some edits) × WasTold w me (Forward (w.members me).promise (length edits) edit)
Can w (Acknowledges me edits) = (w.members me).live ≡ Some edits
Can w (Hears me lease from count) = ((w.members me).lease ≡ Some lease) × WasTold w from (Ack lease.stamp count)
Can w (Closes me lease place) = ((w.members me).lease ≡ Some lease) × IsCovered lease place
Can w (Answers me lease place edit) = ((w.members me).lease ≡ Some lease)
    × ((Contains lease.waiting (record { place = place; edit = edit }) × IsCovered lease place)
    ⊎ ((edits : List Edit) × ((w.members me).live ≡ Some edits) × (slice_get edits place ≡ Some edit) × (waits lease.waiting place ≡ false)))
Can w (Spends me) = Unit {0}
Can w (Drops me) = WasTold w me (Drop (w.members me).epoch (w.members me).promise)
Can w (Loses me) = Unit {0}
Can w (Damages me) = Unit {0}
Can w (Learns me end fails) = WasTold w me (Epoch ((w.members me).epoch + 1) end) × (fails ≡ true → (w.members me).intact ≡ false)
Can w (Names me edits) = ((w.members me).live ≡ Some edits) × ((w.members me).promise ≡ start_of (w.members me).epoch)
Can w (Reports me) = Unit {0}
Can w (Proposes stamp asked) = (w.entry.is_known ≡ true) × (w.entry.is_rolling ≡ false) × (epoch_of stamp ≡ w.entry.epoch) × (w.entry.top < stamp) × (start_of w.entry.epoch < stamp)
Can w (AsksFirst to copy) = (w.entry.view.stamp < w.entry.top) × (w.entry.view.members ≡ []) × (copy ≡ false → w.known.list w.entry.view.stamp ≡ [])
Can w (Asks to) = (w.entry.view.stamp < w.entry.top) × (is_of w.entry.view.members to ≡ true)
Can w (AsksForCopy source target with_image) = (w.entry.view.stamp < w.entry.top) × (is_of w.entry.view.members target ≡ false)
    × (with_image ≡ true → (w.entry.how w.entry.epoch ≡ Prepare) × (w.entry.was_known ≡ true) × IsFit w.entry source)
Can w GivesUp = Unit {0}
Can w (Holds server) = (w.entry.how w.entry.epoch ≡ Prepare) × (w.entry.view.stamp < w.entry.top) × ((count : ℕ) × WasTold w server (Promised w.entry.top count true))
Can w (Settles members count holder) = (w.entry.view.stamp < w.entry.top) × (members ≢ [])
    × ((j : ℕ) → is_of members j ≡ true → (w.entry.asked j ≡ true) × ((carried : Bool) × WasTold w j (Promised w.entry.top count carried)))
    × HasWitness w count × ((j : ℕ) → holder ≡ Some j → is_of members j ≡ true)
Can w (Grants to) = w.entry.view.holder ≡ Some to
Can w Retires = Unit {0}
Can w (SendsDrop to promise) = (w.entry.is_rolling ≡ false) × WasTold w to (Report w.entry.epoch promise) × (w.entry.is_known ≡ true → (is_of w.entry.view.members to ≡ false) × (w.entry.asked to ≡ false))
Can w (Prepares whole) = (w.entry.is_rolling ≡ false) × (w.entry.is_known ≡ true → (w.entry.top ≡ w.entry.view.stamp) × (w.entry.view.holder ≡ None))
    × ((j : ℕ) → whole j ≡ true → is_some (w.members j).live ≡ true)
Can w Finalizes = (w.entry.is_rolling ≡ false) × (w.entry.how w.entry.epoch ≡ Prepare)
Can w BeginsRollback = (w.entry.is_rolling ≡ false) × (w.entry.how w.entry.epoch ≡ Prepare)
Can w (CommitsRollback members keeps) = (w.entry.is_rolling ≡ true)
    × (keeps ≡ true → (w.entry.was_known ≡ true) × ((j : ℕ) → is_of members j ≡ true → IsFit w.entry j × WasTold w j (Learned w.entry.epoch)))
Can w (TellsEpoch to epoch) = epoch ≤ w.entry.epoch

-- a server after an event, with the messages that it sends and the edits that it numbers under its promise
pub record Step : Type 0 where
  pub member : Member
  pub sends : List Sent
  pub edits : List Edit

abbrev pub quiet : Member → List Sent → Step
quiet m sends = record { member = m; sends = sends; edits = [] }

abbrev pub one : ℕ → Message → List Sent
one server body = record { server = server; body = body } ∷ []

abbrev pub count_or : ℕ → Option (List Edit) → ℕ
count_or n None = n
count_or n (Some edits) = length edits

-- what is known after it
abbrev pub after : Known → ℕ → Step → Known
after k me st = record k {
  list = λ t. cond (nat_eq t st.member.promise) (k.list t ++ st.edits) (k.list t);
  reached = λ j t. cond (nat_eq j me && nat_eq t st.member.promise) (count_or (k.reached j t) st.member.live) (k.reached j t);
  promise = λ j. cond (nat_eq j me) st.member.promise (k.promise j);
  epoch = λ j. cond (nat_eq j me) st.member.epoch (k.epoch j);
  carries = λ e j. k.carries e j || (nat_eq j me && (nat_eq e (epoch_of st.member.promise) && st.member.carried));
}

abbrev pub steps : ChunkWorld → ℕ → Step → ChunkWorld
steps w me st = record w { members = λ j. cond (nat_eq j me) st.member (w.members j); sent = w.sent ++ st.sends; known = after w.known me st }

abbrev pub or_image : Option (List Edit) → Option (List Edit) → Option (List Edit)
or_image None other = other
or_image (Some edits) other = Some edits

-- the promise is raised, with these edits live
abbrev pub raised : Member → ℕ → List Edit → Option (List Edit) → Member
raised m stamp edits image = record {
  epoch = m.epoch;
  promise = stamp;
  carried = is_some image;
  live = Some edits;
  image = or_image image m.image;
  lease = None;
  taken = m.taken;
  intact = is_some image || m.intact;
}

abbrev pub new_lease : ℕ → List ℕ → MemberLease
new_lease stamp members = record { stamp = stamp; members = members; told = λ _. 0; waiting = [] }

-- a server tells a count
abbrev pub told_by : MemberLease → ℕ → ℕ → MemberLease
told_by l from count = record l { told = λ j. cond (nat_eq j from) (max (l.told j) count) (l.told j) }

-- the edit waits, and the primary has told its own count
abbrev pub opened : ℕ → MemberLease → ℕ → Edit → MemberLease
opened me l place e = told_by (record l { waiting = l.waiting ++ record { place = place; edit = e } ∷ [] }) me (place + 1)

abbrev pub closed : MemberLease → ℕ → MemberLease
closed l place = record l { waiting = filter (λ (o : Open). not (nat_eq place o.place)) l.waiting }

abbrev pub rolled : Member → ℕ → Option (List Edit) → Member
rolled m epoch None = record m { epoch = epoch; live = None; image = None; lease = None }
rolled m epoch (Some edits) = record m { epoch = epoch; promise = start_of epoch; carried = false; live = Some edits; image = None; lease = None; intact = true }

-- a sealed image that fails is not made live
abbrev pub learned : Member → ℕ → EpochEnd → Bool → Member
learned m epoch Prepare fails = record m { epoch = epoch; image = m.live }
learned m epoch Finalize fails = record m { epoch = epoch; image = None }
learned m epoch Rollback fails = rolled m epoch (cond fails None m.image)

abbrev pub reports : ℕ → Member → Option (List Edit) → List Sent
reports me m None = []
reports me m (Some edits) = one me (Report m.epoch m.promise)

abbrev pub sends : ChunkWorld → ℕ → Message → ChunkWorld
sends w server body = record w { sent = w.sent ++ one server body }

abbrev pub proposed : ChunkWorld → ℕ → (ℕ → Bool) → ChunkWorld
proposed w stamp asked = record w { entry = record (w.entry) { top = stamp; asked = asked }; known = record (w.known) { top = stamp; asked = asked } }

abbrev pub nobody : ℕ → Bool
nobody _ = false

abbrev pub given_up : ChunkWorld → ChunkWorld
given_up w = record w { entry = record (w.entry) { asked = nobody }; known = record (w.known) { asked = nobody } }

abbrev pub retired : ChunkWorld → ChunkWorld
retired w = record w { entry = record (w.entry) { asked = nobody; is_known = false }; known = record (w.known) { asked = nobody; is_known = false } }

-- the list of a view that is settled begins with as many edits as its members told
abbrev pub settled_known : Known → List ℕ → ℕ → Option ℕ → Known
settled_known k members count holder = record k {
  view = k.top;
  asked = nobody;
  list = λ t. cond (nat_eq t k.top) (take count (k.list k.view)) (k.list t);
  members = λ t j. cond (nat_eq t k.top) (is_of members j) (k.members t j);
  holder = λ t. cond (nat_eq t k.top) holder (k.holder t);
  base = λ t. cond (nat_eq t k.top) count (k.base t);
  prev = λ t. cond (nat_eq t k.top) k.view (k.prev t);
  stood = λ t. cond (nat_eq t k.top) true (k.stood t);
}

abbrev pub settled_view : ChunkWorld → List ℕ → ℕ → Option ℕ → ChunkWorld
settled_view w members count holder = record w {
  entry = record (w.entry) { view = record { stamp = w.entry.top; members = members; count = count; holder = holder }; asked = nobody };
  known = settled_known w.known members count holder;
}

-- how an epoch began
abbrev pub with_end : (ℕ → EpochEnd) → ℕ → EpochEnd → ℕ → EpochEnd
with_end how epoch end e = cond (nat_eq e epoch) end (how e)

abbrev pub next_known : Known → EpochEnd → Known
next_known k end = record k { current = k.current + 1; how = with_end k.how (k.current + 1) end }

abbrev pub prepared_known : Known → Known
prepared_known k = record (next_known k Prepare) {
  prepared = λ e. cond (nat_eq e (k.current + 1)) k.view (k.prepared e);
  kept = λ e. cond (nat_eq e (k.current + 1)) k.is_known (k.kept e);
}

abbrev pub next_epoch : Entry → EpochEnd → Entry
next_epoch entry end = record entry { epoch = entry.epoch + 1; how = with_end entry.how (entry.epoch + 1) end }

-- only the proof sees it: from now on a loss counts
abbrev pub marked : Member → Bool → Member
marked m whole = record m { intact = whole }

abbrev pub prepares : ChunkWorld → (ℕ → Bool) → ChunkWorld
prepares w whole = record w {
  members = λ j. marked (w.members j) (whole j);
  entry = record (next_epoch w.entry Prepare) { was_known = w.entry.is_known; prepared = w.entry.view; holders = nobody };
  known = prepared_known w.known;
}

abbrev pub finalizes : ChunkWorld → ChunkWorld
finalizes w = record w { entry = record (next_epoch w.entry Finalize) { was_known = false }; known = next_known w.known Finalize }

abbrev pub begins_rollback : ChunkWorld → ChunkWorld
begins_rollback w = record w { entry = record (next_epoch w.entry Rollback) { is_rolling = true }; known = next_known w.known Rollback }

-- a chunk that was prepared has its prepared list under the first stamp of the epoch
abbrev pub restored_known : Known → List ℕ → Known
restored_known k members = record k {
  view = start_of k.current;
  top = start_of k.current;
  is_known = true;
  asked = nobody;
  list = λ t. cond (nat_eq t (start_of k.current)) (k.list (k.prepared (k.current - 1))) (k.list t);
  members = λ t j. cond (nat_eq t (start_of k.current)) (is_of members j) (k.members t j);
  holder = λ t. cond (nat_eq t (start_of k.current)) None (k.holder t);
  base = λ t. cond (nat_eq t (start_of k.current)) (k.base (k.prepared (k.current - 1))) (k.base t);
  prev = λ t. cond (nat_eq t (start_of k.current)) (k.prepared (k.current - 1)) (k.prev t);
  stood = λ t. cond (nat_eq t (start_of k.current)) true (k.stood t);
}

-- any other chunk is given up
abbrev pub removed_known : Known → Known
removed_known k = record k {
  view = start_of k.current;
  top = start_of k.current;
  is_known = false;
  asked = nobody;
  list = λ t. cond (nat_eq t (start_of k.current)) [] (k.list t);
  members = λ t j. cond (nat_eq t (start_of k.current)) false (k.members t j);
  holder = λ t. cond (nat_eq t (start_of k.current)) None (k.holder t);
  base = λ t. cond (nat_eq t (start_of k.current)) 0 (k.base t);
  stood = λ t. cond (nat_eq t (start_of k.current)) false (k.stood t);
}

abbrev pub bare : ℕ → View
bare stamp = record { stamp = stamp; members = []; count = 0; holder = None }

abbrev pub restored_view : Entry → List ℕ → View
restored_view entry members = record { stamp = start_of entry.epoch; members = members; count = entry.prepared.count; holder = None }

abbrev pub committed : Entry → Bool → View → Entry
committed entry keeps view = record entry { is_rolling = false; is_known = keeps; top = start_of entry.epoch; view = view; asked = nobody; was_known = false }

-- what an event makes of a world
abbrev pub happens : ChunkWorld → Event → ChunkWorld
happens w (Raises me stamp edits image) = steps w me (quiet (raised (w.members me) stamp edits image) (one me (Promised stamp (length edits) (is_some image))))
happens w (Rises me stamp edits) = steps w me (quiet (raised (w.members me) stamp edits None) (one me (Promised stamp (length edits) false)))
happens w (Promises me edits) = steps w me (quiet (w.members me) (one me (Promised (w.members me).promise (length edits) (w.members me).carried)))
happens w (SendsCopy me stamp target edits image) = steps w me (quiet (w.members me) (one target (CopyIn stamp edits image)))
happens w (TakesLease me stamp members) = steps w me (quiet (record (w.members me) { taken = stamp; lease = Some (new_lease stamp members) }) [])
happens w (Numbers me lease edits edit) = steps w me (record {
  member = record (w.members me) { live = Some (edits ++ edit ∷ []); lease = Some (opened me lease (length edits) edit) };
  sends = [];
  edits = edit ∷ [];
})
happens w (Forwards me lease to place edit) = steps w me (quiet (w.members me) (one to (Forward lease.stamp place edit)))
happens w (Applies me edits edit) = steps w me (quiet (record (w.members me) { live = Some (edits ++ edit ∷ []) }) [])
happens w (Acknowledges me edits) = steps w me (quiet (w.members me) (one me (Ack (w.members me).promise (length edits))))
happens w (Hears me lease from count) = steps w me (quiet (record (w.members me) { lease = Some (told_by lease from count) }) [])
happens w (Closes me lease place) = steps w me (quiet (record (w.members me) { lease = Some (closed lease place) }) [])
happens w (Answers me lease place edit) = steps w me (quiet (w.members me) (one me (Done lease.stamp place edit)))
happens w (Spends me) = steps w me (quiet (record (w.members me) { lease = None }) [])
happens w (Drops me) = steps w me (quiet (record (w.members me) { live = None; lease = None }) [])
happens w (Loses me) = steps w me (quiet (record (w.members me) { live = None; image = None; intact = false }) [])
happens w (Damages me) = steps w me (quiet (record (w.members me) { intact = false }) [])
happens w (Learns me end fails) = steps w me (quiet (learned (w.members me) ((w.members me).epoch + 1) end fails) [])
happens w (Names me edits) = steps w me (quiet (w.members me) (one me (Learned (w.members me).epoch)))
happens w (Reports me) = steps w me (quiet (w.members me) (reports me (w.members me) (w.members me).live))
happens w (Proposes stamp asked) = proposed w stamp asked
happens w (AsksFirst to false) = sends w to (Create w.entry.top)
happens w (AsksFirst to true) = sends w to (CopyIn w.entry.top (w.known.list w.entry.view.stamp) None)
happens w (Asks to) = sends w to (Advance w.entry.top)
happens w (AsksForCopy source target with_image) = sends w source (CopyOut w.entry.top target with_image)
happens w GivesUp = given_up w
happens w (Holds server) = record w { entry = record (w.entry) { holders = λ j. nat_eq j server || w.entry.holders j } }
happens w (Settles members count holder) = settled_view w members count holder
happens w (Grants to) = sends w to (Grant w.entry.view.stamp w.entry.view.members)
happens w Retires = retired w
happens w (SendsDrop to promise) = sends w to (Drop w.entry.epoch promise)
happens w (Prepares whole) = prepares w whole
happens w Finalizes = finalizes w
happens w BeginsRollback = begins_rollback w
happens w (CommitsRollback members true) = record w { entry = committed w.entry true (restored_view w.entry members); known = restored_known w.known members }
happens w (CommitsRollback members false) = record w { entry = committed w.entry false (bare (start_of w.entry.epoch)); known = removed_known w.known }
happens w (TellsEpoch to epoch) = sends w to (Epoch epoch (w.entry.how epoch))

-- The chunk is born in an epoch with a list: nobody has promised anything, and each server counts as one of that epoch.
abbrev pub no_member : ℕ → Member
no_member epoch = record { epoch = epoch; promise = 0; carried = false; live = None; image = None; lease = None; taken = 0; intact = false }

abbrev pub born_known : ℕ → (ℕ → EpochEnd) → List Edit → Known
born_known epoch how origin = record {
  born = start_of epoch;
  view = start_of epoch;
  top = start_of epoch;
  current = epoch;
  is_known = true;
  asked = nobody;
  list = λ _. origin;
  members = λ _ _. false;
  holder = λ _. None;
  base = λ _. length origin;
  prev = λ _. 0;
  stood = λ t. nat_eq t (start_of epoch);
  how = how;
  prepared = λ _. 0;
  kept = λ _. false;
  promise = λ _. 0;
  epoch = λ _. epoch;
  reached = λ _ _. 0;
  carries = λ _ _. false;
}

abbrev pub born : ℕ → (ℕ → EpochEnd) → List Edit → ChunkWorld
born epoch how origin = record {
  members = λ _. no_member epoch;
  sent = [];
  entry = record {
    epoch = epoch;
    how = how;
    is_rolling = false;
    is_known = true;
    top = start_of epoch;
    view = record { stamp = start_of epoch; members = []; count = length origin; holder = None };
    asked = nobody;
    was_known = false;
    prepared = bare 0;
    holders = nobody;
  };
  known = born_known epoch how origin;
}

-- a run of events from one world to another, the last event first
pub data Leads (from : ChunkWorld) : ChunkWorld → Type 0 where
  Rests : Leads from from
  Goes : (w : ChunkWorld) → (e : Event) → Leads from w → Can w e → Leads from (happens w e)

-- the events of a list, the first one first
abbrev pub run : ChunkWorld → List Event → ChunkWorld
run w [] = w
run w (e ∷ events) = run (happens w e) events

abbrev pub AllCan : ChunkWorld → List Event → Type 0
AllCan w [] = Unit {0}
AllCan w (e ∷ events) = Can w e × AllCan (happens w e) events
