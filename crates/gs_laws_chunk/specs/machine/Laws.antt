-- What holds of one chunk, whatever happens to it.
use Rattle.std.specs.Prelude.{◌≡◌, ℕ, ◌+◌, ◌<◌, ◌≤◌, ◌⊎◌, min, Bool, true, false, List, [], ◌∷◌, ◌++◌, take, length, Option, Some, None, slice_get}
use Rattle.gs_base.specs.declared.epoch.EpochEnd.{EpochEnd}
use Rattle.gs_base.specs.declared.epoch.EpochEnd.TheVariants.{Prepare, Rollback}
use Rattle.gs_replica.specs.Stands.{Edit}
use Rattle.gs_laws_chunk.specs.machine.Stamps.{epoch_of, start_of}
use Rattle.gs_laws_chunk.specs.machine.Machine.{MemberLease, Message, CopyIn, Forward, Done, Learned, ChunkWorld, WasTold}
use Rattle.gs_laws_chunk.specs.machine.Events.{Event, Applies, Numbers, Learns, Names, Prepares, CommitsRollback, is_of, IsFit, Can, happens, born, Leads}

-- each request of a client has a greater number than those before it
pub record IsNumbered (list : List Edit) : Type 0 where
  pub rises : (i j : ℕ) (a b : Edit) → slice_get list i ≡ Some a → slice_get list j ≡ Some b → a.req.client.0 ≡ b.req.client.0 → i < j → a.req.number < b.req.number

-- a chunk is born in an epoch, with an empty list or with that of the chunk of which it is a copy
pub record Birth : Type 0 where
  pub epoch : ℕ
  pub how : ℕ → EpochEnd
  pub origin : List Edit
  pub numbered : IsNumbered origin

abbrev pub world_of : Birth → ChunkWorld
world_of b = born b.epoch b.how b.origin

abbrev pub IsReached : ChunkWorld → Type 0
IsReached w = (b : Birth) × Leads (world_of b) w

abbrev pub BeginsList : List Edit → List Edit → Type 0
BeginsList list edits = (rest : List Edit) × (list ≡ edits ++ rest)

-- ---- what a replica stands for
-- edits begin the list of a view that was settled, or is
abbrev pub BeginsOne : ChunkWorld → List Edit → Type 0
BeginsOne w edits = (stamp : ℕ) × (stamp ≤ w.entry.view.stamp) × BeginsList (w.known.list stamp) edits

abbrev pub is_member : ChunkWorld → ℕ → Bool
is_member w me = is_of w.entry.view.members me

-- a server of the settled view that was not lost since it promised that view, with its edits
abbrev pub IsThere : ChunkWorld → ℕ → List Edit → Type 0
IsThere w me edits = (is_member w me ≡ true) × ((w.members me).promise ≡ w.entry.view.stamp) × ((w.members me).live ≡ Some edits)

-- Each live replica and each sealed image begins one view's list, and so does what a copy carries; what is forwarded stands in the
-- list of its stamp; and a member of the settled view has at least the edits with which the view was settled.
pub record EachStands (w : ChunkWorld) : Type 0 where
  pub live : (me : ℕ) (edits : List Edit) → (w.members me).live ≡ Some edits → BeginsOne w edits
  pub image : (me : ℕ) (edits : List Edit) → (w.members me).image ≡ Some edits → BeginsOne w edits
  pub copies : (server stamp : ℕ) (edits : List Edit) (image : Option (List Edit)) → WasTold w server (CopyIn stamp edits image) → BeginsOne w edits × ((sealed : List Edit) → image ≡ Some sealed → BeginsOne w sealed)
  pub forwards : (server stamp place : ℕ) (edit : Edit) → WasTold w server (Forward stamp place edit) → slice_get (w.known.list stamp) place ≡ Some edit
  pub members : (me : ℕ) (edits : List Edit) → IsThere w me edits → BeginsList (w.known.list w.entry.view.stamp) edits × (w.entry.view.count ≤ length edits)
  pub numbered : (stamp : ℕ) → IsNumbered (w.known.list stamp)

-- ---- a quiet chunk
-- Under a view in which nobody may number, each member that was not lost has the whole list, as many edits as the view counts, and
-- nothing that was ever sent changes them.
pub record IsStill (w : ChunkWorld) (me : ℕ) (edits : List Edit) : Type 0 where
  pub whole : edits ≡ w.known.list w.entry.view.stamp
  pub count : length edits ≡ w.entry.view.count
  pub applies : (edit : Edit) → Can w (Applies me edits edit) → ⊥
  pub numbers : (lease : MemberLease) (edit : Edit) → Can w (Numbers me lease edits edit) → ⊥

abbrev pub QuietIsStill : ChunkWorld → Type 0
QuietIsStill w = w.entry.view.holder ≡ None → (me : ℕ) (edits : List Edit) → IsThere w me edits → IsStill w me edits

-- And so it stays while the member promises that view, whatever the master does meanwhile: a copy for another chunk has all of it.
abbrev pub QuietStays : ChunkWorld → ChunkWorld → Type 0
QuietStays w last = w.entry.view.holder ≡ None → (me : ℕ) (edits : List Edit) → is_member w me ≡ true → (last.members me).promise ≡ w.entry.view.stamp → (last.members me).live ≡ Some edits → edits ≡ w.known.list w.entry.view.stamp

-- ---- an upgrade
-- the list at the prepare
abbrev pub prepared_list : ChunkWorld → List Edit
prepared_list w = w.known.list w.entry.prepared.stamp

-- the upgrade that began with epoch e stands, or is being rolled back
abbrev pub IsUpgrading : ChunkWorld → ℕ → Type 0
IsUpgrading w e = ((e ≡ w.entry.epoch) × (w.entry.how e ≡ Prepare)) ⊎ ((e + 1 ≡ w.entry.epoch) × (w.entry.is_rolling ≡ true))

-- the master knew the chunk at the prepare; the server was current then, or took a copy with the image since; and it lost nothing
pub record IsSurvivor (w : ChunkWorld) (me : ℕ) : Type 0 where
  pub known : w.entry.was_known ≡ true
  pub fit : IsFit w.entry me
  pub intact : (w.members me).intact ≡ true

-- by the server's epoch: the prepare not learned, learned, the rollback learned
pub record KeepsSealed (w : ChunkWorld) (e me : ℕ) : Type 0 where
  pub unlearned : (w.members me).epoch < e → ((w.members me).promise ≡ w.entry.prepared.stamp) × ((w.members me).live ≡ Some (prepared_list w))
  pub learned : (w.members me).epoch ≡ e → (w.members me).image ≡ Some (prepared_list w)
  pub rolled : (w.members me).epoch ≡ e + 1 → ((w.members me).promise ≡ start_of (e + 1)) × ((w.members me).live ≡ Some (prepared_list w))

abbrev pub SurvivorsKeep : ChunkWorld → Type 0
SurvivorsKeep w = (e me : ℕ) → IsUpgrading w e → IsSurvivor w me → KeepsSealed w e me

-- The last prepare began epoch e, and the master knew the chunk; the server was current then, or took a copy with the image since; and
-- it lost nothing.
pub record WasCurrent (w : ChunkWorld) (e me : ℕ) : Type 0 where
  pub within : e ≤ w.entry.epoch
  pub prepare : w.entry.how e ≡ Prepare
  pub last : (x : ℕ) → x ≤ w.entry.epoch → w.entry.how x ≡ Prepare → x ≤ e
  pub known : w.known.kept e ≡ true
  pub fit : (w.known.members (w.known.prepared e) me ≡ true) ⊎ (w.known.carries e me ≡ true)
  pub intact : (w.members me).intact ≡ true

-- Until the next prepare it keeps the prepared list, however late it learns: also where the master has long committed the rollback.
pub record StillKeeps (w : ChunkWorld) (e me : ℕ) : Type 0 where
  pub unlearned : (w.members me).epoch < e → ((w.members me).promise ≡ w.known.prepared e) × ((w.members me).live ≡ Some (w.known.list (w.known.prepared e)))
  pub learned : (w.members me).epoch ≡ e → (w.members me).image ≡ Some (w.known.list (w.known.prepared e))
  pub rolled : (edits : List Edit) → e + 1 ≤ w.entry.epoch → w.entry.how (e + 1) ≡ Rollback → (w.members me).promise ≡ start_of (e + 1) → (w.members me).live ≡ Some edits → edits ≡ w.known.list (w.known.prepared e)

abbrev pub CurrentStillKeep : ChunkWorld → Type 0
CurrentStillKeep w = (e me : ℕ) → WasCurrent w e me → StillKeeps w e me

abbrev pub SurvivorsWereCurrent : ChunkWorld → Type 0
SurvivorsWereCurrent w = (e me : ℕ) → IsUpgrading w e → IsSurvivor w me → WasCurrent w e me × (w.entry.prepared.stamp ≡ w.known.prepared e)

-- a survivor that has learned the rollback, or learns it now, can name the chunk; and one that has is enough for the commit
pub record IsNamedBy (w : ChunkWorld) (me : ℕ) : Type 0 where
  pub again : (w.members me).epoch ≡ w.entry.epoch → Can w (Names me (prepared_list w))
  pub learns : (w.members me).epoch + 1 ≡ w.entry.epoch → (fails : Bool) → Can w (Learns me Rollback fails) → Can (happens w (Learns me Rollback fails)) (Names me (prepared_list w))
  pub accepts : WasTold w me (Learned w.entry.epoch) → Can w (CommitsRollback (me ∷ []) true)

abbrev pub SurvivorsName : ChunkWorld → Type 0
SurvivorsName w = (me : ℕ) → w.entry.is_rolling ≡ true → IsSurvivor w me → IsNamedBy w me

-- Behind a commit that keeps the chunk its list is the prepared one; each member has promised the first stamp of the epoch or more,
-- and what it holds live under just that is the prepared list.
pub record GivesBack (w : ChunkWorld) (members : List ℕ) : Type 0 where
  pub list : (happens w (CommitsRollback members true)).known.list (start_of w.entry.epoch) ≡ prepared_list w
  pub promise : (me : ℕ) → is_of members me ≡ true → start_of w.entry.epoch ≤ (w.members me).promise
  pub live : (me : ℕ) (edits : List Edit) → is_of members me ≡ true → (w.members me).promise ≡ start_of w.entry.epoch → (w.members me).live ≡ Some edits → edits ≡ prepared_list w

-- ---- settled edits
-- the least of what is counted of some servers
abbrev pub least_of : (ℕ → ℕ) → List ℕ → ℕ → ℕ
least_of count [] none = none
least_of count (s ∷ []) none = count s
least_of count (s ∷ t ∷ servers) none = min (count s) (least_of count (t ∷ servers) none)

-- the first edits of the settled view's list, as many as each member has reached, be its replica lost by now or not
abbrev pub settled_count : ChunkWorld → ℕ
settled_count w = least_of (λ server. w.known.reached server w.entry.view.stamp) w.entry.view.members w.entry.view.count

abbrev pub settled : ChunkWorld → List Edit
settled w = take (settled_count w) (w.known.list w.entry.view.stamp)

abbrev pub QuietIsSettled : ChunkWorld → Type 0
QuietIsSettled w = w.entry.view.holder ≡ None → settled w ≡ w.known.list w.entry.view.stamp

-- What was settled when a prepare was accepted is settled when its rollback has been, whatever happened between.
abbrev pub GivesBackExactly : ChunkWorld → (ℕ → Bool) → ChunkWorld → List ℕ → Type 0
GivesBackExactly w whole last members = last.entry.epoch ≡ w.entry.epoch + 2 → Can last (CommitsRollback members true) → settled (happens last (CommitsRollback members true)) ≡ settled w

-- So it is of each run from a prepare on.
abbrev pub RollbacksGiveBackExactly : Type 0
RollbacksGiveBackExactly = (w : ChunkWorld) (whole : ℕ → Bool) (last : ChunkWorld) (members : List ℕ) → IsReached w → Can w (Prepares whole)
    → Leads (happens w (Prepares whole)) last → GivesBackExactly w whole last members

-- ---- what is acknowledged
-- An edit stands in the list of a view, its request at no other place, and each member of that view has reached more.
pub record IsSettledIn (w : ChunkWorld) (stamp place : ℕ) (edit : Edit) : Type 0 where
  pub stands : slice_get (w.known.list stamp) place ≡ Some edit
  pub once : (other : ℕ) (e : Edit) → slice_get (w.known.list stamp) other ≡ Some e → e.req.client.0 ≡ edit.req.client.0 → e.req.number ≡ edit.req.number → other ≡ place
  pub members : (j : ℕ) → w.known.members stamp j ≡ true → place < w.known.reached j stamp

-- It stands in the settled view, with the same edits before it as in the view of that stamp, it is settled there, and each member that
-- was not lost has it.
pub record StandsStill (w : ChunkWorld) (stamp place : ℕ) (edit : Edit) : Type 0 where
  pub before : take (place + 1) (w.known.list w.entry.view.stamp) ≡ take (place + 1) (w.known.list stamp)
  pub standing : IsSettledIn w w.entry.view.stamp place edit
  pub counted : slice_get (settled w) place ≡ Some edit
  pub holds : (me : ℕ) (edits : List Edit) → IsThere w me edits → (place < length edits) × BeginsList (w.known.list w.entry.view.stamp) edits

-- A rollback that was accepted gave up the view of that stamp, which is one of the epoch that its prepare began, and the place lies
-- past the prepared list.
pub record WasUndone (w : ChunkWorld) (stamp place : ℕ) : Type 0 where
  pub e : ℕ
  pub is : epoch_of stamp ≡ e
  pub prepare : w.entry.how e ≡ Prepare
  pub known : w.known.kept e ≡ true
  pub rollback : w.entry.how (e + 1) ≡ Rollback
  pub accepted : start_of (e + 1) ≤ w.entry.view.stamp
  pub after : w.known.prepared e < stamp
  pub before : stamp < start_of (e + 1)
  pub past : length (w.known.list (w.known.prepared e)) ≤ place

-- where the chunk has a view that was settled, be it known still or retired
abbrev pub StaysUnlessUndone : ChunkWorld → ℕ → ℕ → Edit → Type 0
StaysUnlessUndone last stamp place edit = last.known.stood last.entry.view.stamp ≡ true → WasUndone last stamp place ⊎ StandsStill last stamp place edit

-- An edit of which a client was told that it is done is settled, once, and it stays in each later world, unless a rollback undid it.
abbrev pub AcknowledgedStays : ChunkWorld → ChunkWorld → Type 0
AcknowledgedStays w last = (server stamp place : ℕ) (edit : Edit) → WasTold w server (Done stamp place edit) → IsSettledIn w stamp place edit × StaysUnlessUndone last stamp place edit

-- and so does each edit that is settled
abbrev pub SettledStays : ChunkWorld → ChunkWorld → Type 0
SettledStays w last = (place : ℕ) (edit : Edit) → w.entry.is_known ≡ true → slice_get (settled w) place ≡ Some edit → IsSettledIn w w.entry.view.stamp place edit × StaysUnlessUndone last w.entry.view.stamp place edit

-- A chunk that is born with a list has all of it in its settled view, and so has each member that was not lost.
pub record Inherits (origin : List Edit) (w : ChunkWorld) : Type 0 where
  pub list : take (length origin) (w.known.list w.entry.view.stamp) ≡ origin
  pub holds : (me : ℕ) (edits : List Edit) → IsThere w me edits → length origin ≤ length edits

abbrev pub KnownInherits : List Edit → ChunkWorld → Type 0
KnownInherits origin w = w.entry.is_known ≡ true → Inherits origin w

-- An event adds settled edits behind those that are settled, or it commits a rollback, and then the prepared ones are.
abbrev pub SettlesOn : ChunkWorld → Event → Type 0
SettlesOn w (CommitsRollback members true) = settled (happens w (CommitsRollback members true)) ≡ prepared_list w
SettlesOn w (CommitsRollback members false) = Unit {0}
SettlesOn w e = BeginsList (settled (happens w e)) (settled w)

-- ---- what is read
-- What a reader may be given that was told a view: the first edits of that view's list, or of a later one's, with at least those that
-- were settled when it was told.
pub record IsLegalRead (w last : ChunkWorld) (edits : List Edit) : Type 0 where
  pub stamp : ℕ
  pub later : w.entry.view.stamp ≤ stamp
  pub within : stamp ≤ last.entry.view.stamp
  pub begins : BeginsList (last.known.list stamp) edits
  pub enough : BeginsList edits (settled w)

-- Told while no rollback was begun, by a member of the view, in the epoch of then, under no lesser promise.
abbrev pub ReadsAreLegal : ChunkWorld → ChunkWorld → Type 0
ReadsAreLegal w last = w.entry.is_known ≡ true → w.entry.is_rolling ≡ false → (me : ℕ) (edits : List Edit) → is_member w me ≡ true
    → (last.members me).epoch ≡ w.entry.epoch → w.entry.view.stamp ≤ (last.members me).promise → (last.members me).live ≡ Some edits → IsLegalRead w last edits

-- ---- what is known
-- What is known of a chunk is what its nodes have: the master's view, and of each server its promise, its epoch and its count.
pub record Agrees (w : ChunkWorld) : Type 0 where
  pub view : w.known.view ≡ w.entry.view.stamp
  pub top : w.known.top ≡ w.entry.top
  pub stood : w.entry.is_known ≡ true → w.known.stood w.entry.view.stamp ≡ true
  pub epoch : w.known.current ≡ w.entry.epoch
  pub how : (e : ℕ) → w.known.how e ≡ w.entry.how e
  pub members : (j : ℕ) → w.known.members w.entry.view.stamp j ≡ is_member w j
  pub holder : w.known.holder w.entry.view.stamp ≡ w.entry.view.holder
  pub count : w.known.base w.entry.view.stamp ≡ w.entry.view.count
  pub promises : (j : ℕ) → w.known.promise j ≡ (w.members j).promise
  pub epochs : (j : ℕ) → w.known.epoch j ≡ (w.members j).epoch
  pub reached : (j : ℕ) (edits : List Edit) → (w.members j).live ≡ Some edits → w.known.reached j (w.members j).promise ≡ length edits

-- Nothing is reached under a stamp above the promise.
abbrev pub ReachedWithin : ChunkWorld → Type 0
ReachedWithin w = (j stamp : ℕ) → (w.members j).promise < stamp → w.known.reached j stamp ≡ 0

-- What is known stays: of each view that was settled its members, who may number in it, and its list but for edits behind it; how the
-- epochs began, and what was prepared. All that was said stays said. Promises and epochs rise.
pub record StaysKnown (w last : ChunkWorld) : Type 0 where
  pub view : w.entry.view.stamp ≤ last.entry.view.stamp
  pub top : w.entry.top ≤ last.entry.top
  pub epoch : w.entry.epoch ≤ last.entry.epoch
  pub how : (e : ℕ) → e ≤ w.entry.epoch → last.entry.how e ≡ w.entry.how e
  pub prepared : (e : ℕ) → e ≤ w.entry.epoch → (last.known.prepared e ≡ w.known.prepared e) × (last.known.kept e ≡ w.known.kept e)
  pub list : (stamp : ℕ) → stamp ≤ w.entry.view.stamp → BeginsList (last.known.list stamp) (w.known.list stamp)
  pub quiet : (stamp : ℕ) → stamp ≤ w.entry.view.stamp → w.known.holder stamp ≡ None → last.known.list stamp ≡ w.known.list stamp
  pub members : (stamp j : ℕ) → stamp ≤ w.entry.view.stamp → last.known.members stamp j ≡ w.known.members stamp j
  pub holder : (stamp : ℕ) → stamp ≤ w.entry.view.stamp → last.known.holder stamp ≡ w.known.holder stamp
  pub promises : (j : ℕ) → (w.members j).promise ≤ (last.members j).promise
  pub epochs : (j : ℕ) → (w.members j).epoch ≤ (last.members j).epoch
  pub reached : (j stamp : ℕ) → stamp ≤ (w.members j).promise → w.known.reached j stamp ≤ last.known.reached j stamp
  pub sent : (server : ℕ) (body : Message) → WasTold w server body → WasTold last server body
