-- All chunks together, over a chain of moves.
use Rattle.std.proofs.Common.{◌≡◌, ℕ, zero, suc, ◌==◌, ◌+◌, ◌<◌, ◌≤◌, inl, inr, Bool, true, false, ◌||◌, List, [], ◌∷◌, ◌++◌, Option, Some, None, refl, sym, ap, subst, ◌∙◌, arith}
use Rattle.std.specs.Prelude.{is_some, length, take}
use Rattle.std.specs.FinMap as fin
use Rattle.std.specs.Ordering.{nat_cmp}
use Rattle.std.specs.List.{AllByRecursion}
use Rattle.std.proofs.lemmas.Bool.{false≢true, true≢false, and_parts}
use Rattle.std.proofs.lemmas.Bool.Decides.{nat_tests}
use Rattle.gs_base.specs.Members.{count_from, is_member}
use Rattle.gs_base.specs.Told.{IsNumber}
use Rattle.gs_base.specs.declared.config.Config.{Config}
use Rattle.gs_base.specs.declared.epoch.EpochEnd.{EpochEnd}
use Rattle.gs_base.specs.declared.epoch.EpochEnd.TheVariants as ends
use Rattle.gs_base.specs.declared.numbers.ReqId.{ReqId}
use Rattle.gs_base.specs.declared.numbers.Stamp.{Stamp}
use Rattle.gs_lease.specs.declared.view.Purpose.{Purpose}
use Rattle.gs_lease.specs.declared.view.Term.{Term}
use Rattle.gs_lease.specs.declared.view.View.{View}
use Rattle.gs_msg.specs.declared.body.Body.{Body}
use Rattle.gs_msg.specs.declared.body.Body.TheVariants as bodies
use Rattle.gs_msg.specs.declared.chunk.Chunk.{Chunk as About}
use Rattle.gs_msg.specs.declared.chunk.Chunk.TheVariants as abouts
use Rattle.gs_msg.specs.declared.message.Message.{Message}
use Rattle.gs_msg.specs.declared.node.NodeId.{NodeId}
use Rattle.gs_msg.specs.declared.node.NodeId.TheVariants as nodes
use Rattle.gs_replica.specs.Stands.{Edit}
use Rattle.gs_master_spec.specs.Beginning.{next_stamp}
use Rattle.gs_master_spec.specs.Applied.{replayed}
use Rattle.gs_master_spec.specs.Durable.{Durable, is_given, start}
use Rattle.gs_master_spec.specs.Handling.{restarted}
use Rattle.gs_master_spec.specs.Settling.{grant_of}
use Rattle.gs_master_spec.specs.State.{State, Log, Turn, about, post, to_each}
use Rattle.gs_laws_moves.specs.moves.Asked.{IsAskedSo, WasHeard}
use Rattle.gs_laws_master.specs.Promises.{IsKept, IsWritten}
use Rattle.gs_laws_moves.proofs.lemmas.moves.Stands.{chains_stand}
use Rattle.gs_laws_moves.specs.moves.Epochs.{is_alone}
use Rattle.gs_laws_moves.specs.moves.Guards.{Heard, IsMade, MayCopy, ask_nobody, asks_nobody}
use Rattle.gs_laws_moves.specs.moves.Laws.{IsMadeWell}
use Rattle.gs_laws_moves.specs.moves.Moves.{Chain, Rests as Rests_it, Moves, Then, Alone, Beside, FromNow, Further, Move, Begins, Makes, Copies, Hears, Sends, Settles, Edits, Extends, CopiesTree, Replaces, Scans, Refuses, Answers as AnswersCall, Waits, Restores, Says as Says_it, Flags, Prepares, Finalizes, BeginsRollback, TellsRollback, CommitsRollback, Checkpoints, move_turn}
use Rattle.gs_laws_moves.proofs.lemmas.moves.Asked.{more_so}
use Rattle.gs_laws_chunk.specs.machine.Stamps.{epoch_of, stamp_at}
use Rattle.gs_laws_chunk.specs.machine.Laws.{Birth, IsNumbered, IsReached, world_of}
use Rattle.gs_laws_chunk.specs.machine.Machine.{Member, ChunkWorld, CopyIn}
use Rattle.gs_laws_chunk.specs.machine.Events.{Leads, Rests, marked, no_member}
use Rattle.gs_laws_chunk.proofs.lemmas.machine.Facts.{each_stands, reached_world}
use Rattle.gs_laws_chunk.proofs.lemmas.machine.Lasting.{agrees}
use Rattle.gs_laws_chunk.proofs.lemmas.machine.Worlds.{leads_later}
use Rattle.gs_laws_parts.proofs.lemmas.master.Bearing.{copies_are_births}
use Rattle.gs_laws_parts.proofs.lemmas.master.Carrying.{all_append, all_later, all_quiet, from_silent, same_blank, written_cuts_go_unborn}
use Rattle.gs_laws_parts.proofs.lemmas.master.Every.{moves_follow_as, parts_follow}
use Rattle.gs_laws_parts.proofs.lemmas.master.Leading.{masters_leave}
use Rattle.gs_laws_parts.proofs.lemmas.master.Marking.{marks_both, same_epoch}
use Rattle.gs_laws_parts.proofs.lemmas.master.Sending.{IsLed, heard_more, leads_on, masters_on, tells_more}
use Rattle.gs_laws_parts.proofs.lemmas.master.Stamps.{of_member, same_number}
use Rattle.gs_laws_parts.proofs.lemmas.master.Unborn.{alone_moves_stay, copies_rise, each_move_goes_unborn, restarts_unborn}
use Rattle.gs_laws_chunk.proofs.lemmas.machine.Numbering.{stays_behind}
use Rattle.gs_laws_parts.specs.master.Showing.{Rises}
use Rattle.gs_laws_parts.proofs.lemmas.master.Leaving.{past_rises, rises_both, rises_itself}
use Rattle.gs_laws_parts.specs.master.Bearing.{IsBornWithin, IsUnbornAgain}
use Rattle.gs_laws_parts.specs.master.Births.{Anything, Brings, BringsTo, IsBorn}
use Rattle.gs_laws_parts.specs.master.Families.{Alive, BornBare, BornFrom, ComesFrom, CopiesTo, CopiesOf, FamiliesCut, FamiliesGo, FamilyLists, StartsUnborn, WrittenFamiliesGo, Family, FamilyGoes, Goes, HeardOf, IsAlive, IsCopyOf, IsFixed, Life, ListsFrom, MarksOf, Unborn, birth_of, is_kept}
use Rattle.gs_laws_parts.specs.master.Showing.{ShowsSettled, primary_of}
use Rattle.gs_laws_parts.specs.master.Single.{AsOf}
use Rattle.gs_laws_parts.specs.master.Telling.{FollowsMaster, IsSameMember, Says, Shows, MastersTell}
use Rattle.gs_laws_parts.specs.master.Unborn.{GoesUnborn, IsUnborn, SaysNothing, StaysUnborn, silent}

-- ---- the old chunk of a copy

-- its list in the view on which it is at rest
abbrev list_of : {old : ℕ} {s : State} → IsAlive old s → List Edit
list_of a = a.world.known.list a.world.entry.view.stamp

list_numbered : (old : ℕ) (s : State) (a : IsAlive old s) → IsNumbered (list_of a)
list_numbered old s a = (each_stands a.world (reached_world a.world a.reached)).numbered a.world.entry.view.stamp

module _ (old : ℕ) (s : State) (a : IsAlive old s) (view : View) (may : MayCopy s old view) where
  shown : ShowsSettled (record { view = view; is_moving = false }) a.world.entry
  shown = a.shows.entry.durable.settled (record { view = view; is_moving = false }) may.settled.has

  pub at_is : view.stamp ≡ stamp_at a.world.entry.view.stamp
  at_is = shown.view.stamp

  -- nobody numbers in it
  pub is_fixed : (me : ℕ) → is_member view.members me ≡ true → IsFixed a.world a.world.entry.view.stamp me (list_of a)
  is_fixed me on =
      let known = agrees a.world (reached_world a.world a.reached) in
      record {
        within = (let same = known.view in omega arith);
        free = known.holder ∙ shown.view.holder ∙ ap primary_of may.quiet;
        member = known.members me ∙ of_member a.world.entry.view.members me ∙ ap (λ ms. is_member ms me) shown.view.members ∙ on;
        list = refl;
      }

pub fixed_on : (w v : ChunkWorld) (t me : ℕ) (edits : List Edit) → IsReached w → Leads w v → IsFixed w t me edits → IsFixed v t me edits
fixed_on w v t me edits reached leads f =
    let x = leads_later w v leads (reached_world w reached) in
    let y = x.fixed t f.within f.free in
    record { within = (let a = x.view in let b = f.within in omega arith); free = y.0; member = y.2 me ∙ f.member; list = y.1 ∙ f.list }

-- ---- how one chunk goes on, by what it was

abbrev none_yet : List Edit
none_yet = []

abbrev alive_on : (chunk : ℕ) (s u : State) (a : IsAlive chunk s) (v : ChunkWorld) → Leads a.world v → Shows chunk u v → IsAlive chunk u
alive_on chunk s u a v leads shows = record { world = v; reached = (a.reached.0, leads_on (world_of a.reached.0) a.world v a.reached.1 leads); shows = shows }

take_none : (many : ℕ) → take many none_yet ≡ []
take_none zero = refl
take_none (suc many) = refl

-- what is left of a chunk that lived, and of one that is born
abbrev pub LeavesAs : (ChunkWorld → ChunkWorld → Type 0) → (ChunkWorld → Type 0) → (chunk : ℕ) (s u : State) → Life chunk s → Life chunk u → Type 0
LeavesAs As Born chunk s u (Alive a) (Alive b) = As a.world b.world
LeavesAs As Born chunk s u (Unborn k) (Alive b) = Born b.world
LeavesAs As Born chunk s u life last = Unit {0}

-- a chunk behind some moves, with how it goes on, where it comes from, and what is left of it
record Next (P : List Edit → Type 0) (As : ChunkWorld → ChunkWorld → Type 0) (Born : ChunkWorld → Type 0) (kept : Bool) (chunk : ℕ) (whole : ℕ → Bool) (s u : State) (messages : List Message) (life : Life chunk s) : Type 0 where
  life_then : Life chunk u
  goes : Goes chunk whole s u messages life life_then
  from : BornFrom P chunk s u life life_then
  bare : BornBare kept chunk s u life life_then
  leaves : LeavesAs As Born chunk s u life life_then

follows_next : (P : List Edit → Type 0) (As : ChunkWorld → ChunkWorld → Type 0) (Born : ChunkWorld → Type 0) (kept : Bool) (chunk : ℕ) (whole : ℕ → Bool) (s u : State) (messages : List Message) (a : IsAlive chunk s) (f : FollowsMaster (birth_of a) chunk whole a.world u messages) → As a.world f.world
    → Next P As Born kept chunk whole s u messages (Alive a)
follows_next P As Born kept chunk whole s u messages a f leaves = record {
  life_then = Alive (alive_on chunk s u a f.world f.leads f.shows);
  goes = record { leads = f.leads; masters = f.masters; same = refl; members = f.members; marks = f.marks; stays = f.stays; tells = f.tells };
  from = tt;
  bare = tt;
  leaves = leaves;
}

born_next : (P : List Edit → Type 0) (As : ChunkWorld → ChunkWorld → Type 0) (Born : ChunkWorld → Type 0) (kept : Bool) (chunk : ℕ) (whole : ℕ → Bool) (s u : State) (messages : List Message) (origin : List Edit) (k : IsUnborn chunk s) → ((many : ℕ) → P (take many origin)) → (kept ≡ false → origin ≡ [])
    → Rises s.durable u.durable → (b : IsBorn chunk origin u messages) → Born b.world → Next P As Born kept chunk whole s u messages (Unborn k)
born_next P As Born kept chunk whole s u messages origin k from bare rises b leaves = record {
  life_then = Alive (record { world = b.world; reached = (b.birth, b.leads); shows = b.shows });
  goes = record { later = (let now = b.now in let up = rises.epoch in omega arith); leads = b.leads; masters = b.masters; members = b.members; fresh = λ top past. b.fresh top (past_rises s.durable u.durable rises top past); tells = b.tells };
  from = λ many. subst (λ es. P (take many es)) (sym b.begins) (from many);
  bare = λ out. b.begins ∙ bare out;
  leaves = leaves;
}

silent_next : (P : List Edit → Type 0) (As : ChunkWorld → ChunkWorld → Type 0) (Born : ChunkWorld → Type 0) (kept : Bool) (chunk : ℕ) (whole : ℕ → Bool) (s : State) (t : Turn) (k : IsUnborn chunk s) → StaysUnborn chunk s t → Next P As Born kept chunk whole s t.after t.sent (Unborn k)
silent_next P As Born kept chunk whole s t k stays = record { life_then = Unborn stays.unborn; goes = record { rises = stays.rises; says = stays.says }; from = tt; bare = tt; leaves = tt }

-- the handle of a chunk that is given is below that of one that isn't
below : (next old chunk : ℕ) → is_given next old ≡ true → is_given next chunk ≡ false → IsNumber chunk → 0 < chunk → IsNumber old
below next old chunk given other number some = grind (arith, nat_tests)

-- ---- messages that copy nothing

abbrev pub CopiesNothing : Body → Type 0
CopiesNothing (bodies.MakeCopy old at new stamp) = ⊥
CopiesNothing body = Unit {0}

abbrev pub CopyNothing : List Message → Type 0
CopyNothing messages = AllByRecursion (λ (m : Message). CopiesNothing m.body) messages

none_about : (q : ℕ) (said : About) (servers : List ℕ) → CopyNothing (to_each servers (about q said))
none_about q said [] = tt
none_about q said (x ∷ servers) = (tt, none_about q said servers)

none_epoch : (epoch : ℕ) (end : EpochEnd) (servers : List ℕ) → CopyNothing (to_each servers (λ server. post (nodes.Server server) (bodies.Epoch epoch end)))
none_epoch epoch end [] = tt
none_epoch epoch end (x ∷ servers) = (tt, none_epoch epoch end servers)

none_granted : (q : ℕ) (view : View) (term : Option Term) → CopyNothing (grant_of q view term)
none_granted q view None = tt
none_granted q view (Some term) = (tt, tt)

none_asked : (body : Body) → asks_nobody body ≡ true → CopiesNothing body
none_asked (bodies.MakeCopy old at new stamp) asks = absurd (false≢true asks)
none_asked body asks = tt

all_asked : (messages : List Message) → ask_nobody messages ≡ true → CopyNothing messages
all_asked [] asks = tt
all_asked (m ∷ messages) asks = (let parts = and_parts (asks_nobody m.body) (ask_nobody messages) asks in (none_asked m.body parts.0, all_asked messages parts.1))

-- whatever is to hold of those that do
pub nothing_so : (P : Message → Type 0) → ((m : Message) → CopiesNothing m.body → P m) → (messages : List Message) → CopyNothing messages → AllByRecursion P messages
nothing_so P so [] none = tt
nothing_so P so (m ∷ messages) none = (so m none.0, nothing_so P so messages none.1)

abbrev KeptTo : (keeps : ℕ → Bool) (u : State) → Family u → Message → Type 0
KeptTo keeps u last m = is_kept keeps m.body ≡ true → CopiesOf u last m

none_kept : (keeps : ℕ → Bool) (u : State) (last : Family u) (m : Message) → CopiesNothing m.body → KeptTo keeps u last m
none_kept keeps u last m none kept = by_body m.to m.body none
  where
    by_body : (to : NodeId) (body : Body) → CopiesNothing body → CopiesTo u last to body
    by_body (nodes.Server to) (bodies.MakeCopy old at new stamp) none = absurd none
    by_body (nodes.Server to) body none = tt
    by_body to body none = tt

abbrev pub is_copying : Move → Bool
is_copying (Copies old view req beside) = true
is_copying move = false

begins_none : (config : Config) (s : State) (q : ℕ) (purpose : Purpose) (call : Option ReqId) (beside : Beside) → let t = move_turn config s (Begins q purpose call beside) in CopyNothing t.sent
begins_none config s q purpose call Alone = none_about q (abouts.Advance (next_stamp s.durable)) _
begins_none config s q purpose call (FromNow req waiting) = none_about q (abouts.Advance (next_stamp s.durable)) _
begins_none config s q purpose call (Further req waiting) = none_about q (abouts.Advance (next_stamp s.durable)) _

pub no_copies : (config : Config) (heard : Heard) (s : State) (move : Move) → IsMadeWell config heard s move → is_copying move ≡ false → CopyNothing (move_turn config s move).sent
no_copies config heard s (Begins q purpose call beside) well plain = begins_none config s q purpose call beside
no_copies config heard s (Makes targets req path) well plain = none_about s.durable.next_handle (abouts.Create (next_stamp s.durable)) targets
no_copies config heard s (Copies old view req beside) well plain = absurd (true≢false plain)
no_copies config heard s (Hears q new) well plain = tt
no_copies config heard s (Sends q asking source target) well plain = (tt, tt)
no_copies config heard s (Settles q asking carried view) well plain = none_granted q view view.term
no_copies config heard s (Edits req edit answer) well plain = (tt, tt)
no_copies config heard s (Extends req path q view) well plain = (tt, tt)
no_copies config heard s (CopiesTree req from to) well plain = (tt, tt)
no_copies config heard s (Replaces path index old new) well plain = tt
no_copies config heard s (Scans removed forgotten) well plain = tt
no_copies config heard s (Refuses req refusal over) well plain = (tt, tt)
no_copies config heard s (AnswersCall req answer true) well plain = (tt, tt)
no_copies config heard s (AnswersCall req answer false) well plain = (tt, tt)
no_copies config heard s (Waits req waiting) well plain = tt
no_copies config heard s (Restores server chunks) well plain = tt
no_copies config heard s (Says_it messages) well plain = all_asked messages well.made.may.1
no_copies config heard s (Flags req preparing epoch) well plain = (tt, tt)
no_copies config heard s (Prepares req moment) well plain = all_append (λ (m : Message). CopiesNothing m.body) _ _ (none_epoch (s.durable.epoch + 1) ends.Prepare (count_from 0 config.servers)) (tt, tt)
no_copies config heard s (Finalizes req) well plain = all_append (λ (m : Message). CopiesNothing m.body) _ _ (none_epoch (s.durable.epoch + 1) ends.Finalize (count_from 0 config.servers)) (tt, tt)
no_copies config heard s BeginsRollback well plain = tt
no_copies config heard s (TellsRollback req epoch) well plain = all_append (λ (m : Message). CopiesNothing m.body) _ _ (none_epoch epoch ends.Rollback (count_from 0 config.servers)) (tt, tt)
no_copies config heard s (CommitsRollback req names) well plain = (tt, tt)
no_copies config heard s Checkpoints well plain = tt

-- ---- one move

-- what a move leaves of a chunk: nobody may number in the view of one that is born, and those that are alone bear none
abbrev pub IsBornBy : Move → ChunkWorld → Type 0
IsBornBy move w = (w.entry.view.holder ≡ None) × (is_alone move ≡ false)

abbrev pub LeftBy : (chunk : ℕ) → Move → (s u : State) → Life chunk s → Life chunk u → Type 0
LeftBy chunk move s u life last = LeavesAs (AsOf chunk move u) (IsBornBy move) chunk s u life last

-- all chunks behind a move
pub record MoveFamily (keeps : ℕ → Bool) (whole : ℕ → ℕ → Bool) (move : Move) (s u : State) (messages : List Message) (family : Family s) : Type 0 where
  pub goes : FamilyGoes keeps whole s u messages family
  pub leaves : (chunk : ℕ) → LeftBy chunk move s u (family chunk) (goes.last chunk)

module _ (keeps : ℕ → Bool) (whole : ℕ → ℕ → Bool) (config : Config) (heard : Heard) (s : State) (family : Family s) (hears : (chunk : ℕ) → HeardOf chunk s heard (family chunk)) (marks : (chunk : ℕ) → MarksOf chunk s (whole chunk) (family chunk)) where
  -- what a new one may begin with
  abbrev Comes : List Edit → Type 0
  Comes = ComesFrom s family

  -- the old chunk of a copy is alive
  old_alive : (old : ℕ) (life : Life old s) → is_given s.durable.next_handle old ≡ true → IsNumber old → (a : IsAlive old s) × (life ≡ Alive a)
  old_alive old (Unborn k) given number = absurd (false≢true (sym (k.ungiven.given number) ∙ given))
  old_alive old (Alive a) given number = (a, refl)

  positive : (chunk : ℕ) (u : State) (origin : List Edit) (messages : List Message) → IsBorn chunk origin u messages → 0 < chunk
  positive chunk u origin messages b = above u.durable.next_handle chunk b.shows.entry.durable.given
    where
      above : (n c : ℕ) → is_given n c ≡ true → 0 < c
      above n c given = grind (arith, nat_tests)

  abbrev Behind : Bool → Move → (chunk : ℕ) → Life chunk s → Type 0
  Behind kept move chunk life = Next Comes (AsOf chunk move (move_turn config s move).after) (IsBornBy move) kept chunk (whole chunk) s (move_turn config s move).after (move_turn config s move).sent life

  no_edits : IsNumbered []
  no_edits = record { rises = λ i j x y at. absurd (false≢true (ap is_some at)) }

  -- each chunk behind a move: one that is born has no edits
  unborn_next : (kept : Bool) (move : Move) → IsMadeWell config heard s move → (chunk : ℕ) (k : IsUnborn chunk s) → WasHeard (Says chunk silent) heard → Behind kept move chunk (Unborn k)
  unborn_next kept move well chunk k was = by_alone (is_alone move) refl
    where
      t : Turn
      t = move_turn config s move

      born_bare : is_alone move ≡ false → Rises s.durable t.after.durable → IsBorn chunk [] t.after t.sent → Behind kept move chunk (Unborn k)
      born_bare beside later b = born_next Comes (AsOf chunk move t.after) (IsBornBy move) kept chunk (whole chunk) s t.after t.sent [] k (λ many. inl (take_none many)) (λ out. refl) later b (b.unled, beside)

      by_way : is_alone move ≡ false → GoesUnborn chunk s t → Behind kept move chunk (Unborn k)
      by_way beside (inl stays) = silent_next Comes (AsOf chunk move t.after) (IsBornBy move) kept chunk (whole chunk) s t k stays
      by_way beside (inr (later, inl born)) = born_bare beside later born
      by_way beside (inr (later, inr copied)) = born_bare beside later (copied.3 [] no_edits)

      by_alone : (b : Bool) → is_alone move ≡ b → Behind kept move chunk (Unborn k)
      by_alone true alone = silent_next Comes (AsOf chunk move t.after) (IsBornBy move) kept chunk (whole chunk) s t k (alone_moves_stay chunk config heard s move was well k alone)
      by_alone false beside = by_way beside (each_move_goes_unborn chunk config heard s move was well k)

  plain_next : (kept : Bool) (move : Move) → IsMadeWell config heard s move → (chunk : ℕ) (life : Life chunk s) → HeardOf chunk s heard life → MarksOf chunk s (whole chunk) life → Behind kept move chunk life
  plain_next kept move well chunk (Unborn k) was live = unborn_next kept move well chunk k was
  plain_next kept move well chunk (Alive a) was live =
      let f = moves_follow_as (birth_of a) chunk (whole chunk) config heard s move a.world live a.shows was well in
      follows_next Comes (AsOf chunk move (move_turn config s move).after) (IsBornBy move) kept chunk (whole chunk) s (move_turn config s move).after (move_turn config s move).sent a f.follows (f.leaves a.reached)

  -- ---- a chunk is copied

  module _ (old : ℕ) (view : View) (req : ReqId) (beside : Beside) (well : IsMadeWell config heard s (Copies old view req beside)) where
    abbrev next : ℕ
    next = s.durable.next_handle

    abbrev turn : Turn
    turn = move_turn config s (Copies old view req beside)

    asked_any : (chunk : ℕ) → (next == chunk) ≡ true → IsUnborn chunk s → IsAskedSo Anything s next
    asked_any chunk same k = subst (IsAskedSo Anything s) (sym (same_number next chunk same)) (more_so (Says chunk silent) Anything (λ server body said. tt) s chunk k.said)

    born_with : (chunk : ℕ) → (next == chunk) ≡ true → IsUnborn chunk s → (origin : List Edit) → IsNumbered origin → IsBorn chunk origin turn.after turn.sent
    born_with chunk same k origin numbered =
        subst (λ c. IsBorn c origin turn.after turn.sent) (same_number next chunk same) (copies_are_births config heard s old view req beside origin numbered k.counter (asked_any chunk same k) well)

    old_number : (chunk : ℕ) → (next == chunk) ≡ true → IsUnborn chunk s → IsNumber old
    old_number chunk same k =
        let number : IsNumber chunk = subst IsNumber (same_number next chunk same) k.ungiven.handle in
        below next old chunk well.made.may.0.given (k.ungiven.given number) number (positive chunk turn.after [] turn.sent (born_with chunk same k [] no_edits))

    -- the old one, as it is shown
    the_old : (chunk : ℕ) → (next == chunk) ≡ true → IsUnborn chunk s → IsAlive old s
    the_old chunk same k = (old_alive old (family old) well.made.may.0.given (old_number chunk same k)).0

    -- the list of the new one is that of the old one
    from_old : (chunk : ℕ) (same : (next == chunk) ≡ true) (k : IsUnborn chunk s) → (many : ℕ) → Comes (take many (list_of (the_old chunk same k)))
    unfolding the_old
    from_old chunk same k many =
        let x = old_alive old (family old) well.made.may.0.given (old_number chunk same k) in
        inr (record { chunk = old; alive = x.0; is = x.1; stamp = x.0.world.entry.view.stamp; many = many; begins = refl })

    later : (chunk : ℕ) (same : (next == chunk) ≡ true) (k : IsUnborn chunk s) → IsBorn chunk (list_of (the_old chunk same k)) turn.after turn.sent
    later chunk same k = born_with chunk same k (list_of (the_old chunk same k)) (list_numbered old s (the_old chunk same k))

    rises : Rises s.durable turn.after.durable
    rises = copies_rise config heard s old view req beside well

    -- where it is kept; and the others begin with none
    copied_as : (kept : Bool) (chunk : ℕ) → (next == chunk) ≡ true → (k : IsUnborn chunk s) → Behind kept (Copies old view req beside) chunk (Unborn k)
    copied_as true chunk same k =
        let b = later chunk same k in
        born_next Comes (AsOf chunk (Copies old view req beside) turn.after) (IsBornBy (Copies old view req beside)) true chunk (whole chunk) s turn.after turn.sent (list_of (the_old chunk same k)) k (from_old chunk same k) (λ out. absurd (true≢false out)) rises b (b.unled, refl)
    copied_as false chunk same k =
        let b = born_with chunk same k [] no_edits in
        born_next Comes (AsOf chunk (Copies old view req beside) turn.after) (IsBornBy (Copies old view req beside)) false chunk (whole chunk) s turn.after turn.sent [] k (λ many. inl (take_none many)) (λ out. refl) rises b (b.unled, refl)

    copies_at : (chunk : ℕ) (b : Bool) → (next == chunk) ≡ b → (life : Life chunk s) → HeardOf chunk s heard life → MarksOf chunk s (whole chunk) life → Behind (keeps chunk) (Copies old view req beside) chunk life
    copies_at chunk true same (Unborn k) was live = copied_as (keeps chunk) chunk same k
    copies_at chunk true same (Alive a) was live = plain_next (keeps chunk) (Copies old view req beside) well chunk (Alive a) was live
    copies_at chunk false other life was live = plain_next (keeps chunk) (Copies old view req beside) well chunk life was live

    each_then : (chunk : ℕ) → Behind (keeps chunk) (Copies old view req beside) chunk (family chunk)
    each_then chunk = copies_at chunk (next == chunk) refl (family chunk) (hears chunk) (marks chunk)

    -- the old one goes on
    record OldThen (a : IsAlive old s) (l : Life old turn.after) : Type 0 where
      now : IsAlive old turn.after
      is : l ≡ Alive now
      leads : Leads a.world now.world

    old_next : (life : Life old s) (was : HeardOf old s heard life) (live : MarksOf old s (whole old) life) (number : IsNumber old) → OldThen (old_alive old life well.made.may.0.given number).0 (plain_next (keeps old) (Copies old view req beside) well old life was live).life_then
    unfolding plain_next follows_next old_alive
    old_next (Unborn k) was live number = absurd (false≢true (sym (k.ungiven.given number) ∙ well.made.may.0.given))
    old_next (Alive a) was live number =
        let f = (moves_follow_as (birth_of a) old (whole old) config heard s (Copies old view req beside) a.world live a.shows was well).follows in record { now = alive_on old s turn.after a f.world f.leads f.shows; is = refl; leads = f.leads }

    old_then : (b : Bool) (e : (next == old) ≡ b) (number : IsNumber old) → OldThen (old_alive old (family old) well.made.may.0.given number).0 (copies_at old b e (family old) (hears old) (marks old)).life_then
    unfolding copies_at plain_next
    old_then true same number = absurd (ungiven next (subst (λ c. is_given next c ≡ true) (sym (same_number next old same)) well.made.may.0.given))
      where
        ungiven : (n : ℕ) → is_given n n ≡ true → ⊥
        ungiven n g = absurd (grind (arith, nat_tests))
    old_then false other number = old_next (family old) (hears old) (marks old) number

    -- each that is told to copy it has it
    copied_as_to : (me : ℕ) → is_member view.members me ≡ true → (kept : Bool) → kept ≡ true → (same : (next == next) ≡ true) (k : IsUnborn next s)
        → ((born : ℕ) (origin : List Edit) (w : ChunkWorld) → AllByRecursion (Brings born next origin w) turn.sent → BringsTo born origin w (nodes.Server me) (next_stamp s.durable)) → IsCopyOf old next turn.after (each_then old).life_then (copied_as kept next same k).life_then me view.stamp (next_stamp s.durable)
    unfolding copied_as born_next the_old later each_then
    copied_as_to me on true is same k told =
        let a = the_old next same k in
        let b = later next same k in
        let o = old_then (next == old) refl (old_number next same k) in
        let t = told b.birth.epoch (list_of a) b.world b.brings in
        subst (λ l. IsCopyOf old next turn.after l (Alive (record { world = b.world; reached = (b.birth, b.leads); shows = b.shows })) me view.stamp (next_stamp s.durable)) (sym o.is)
        (record {
          before = a.world.entry.view.stamp;
          after = t.0;
          edits = list_of a;
          origin = b.begins;
          from = at_is old s a view well.made.may.0;
          to = t.1;
          late = t.2;
          told = t.3;
          fixed = fixed_on a.world o.now.world a.world.entry.view.stamp me (list_of a) a.reached o.leads (is_fixed old s a view well.made.may.0 me on);
        })
    copied_as_to me on false is same k told = absurd (false≢true is)

    copied_to : (me : ℕ) → is_member view.members me ≡ true → keeps next ≡ true → (b : Bool) (e : (next == next) ≡ b) (life : Life next s) (was : HeardOf next s heard life) (live : MarksOf next s (whole next) life)
        → ((born : ℕ) (origin : List Edit) (w : ChunkWorld) → AllByRecursion (Brings born next origin w) turn.sent → BringsTo born origin w (nodes.Server me) (next_stamp s.durable)) → IsCopyOf old next turn.after (each_then old).life_then (copies_at next b e life was live).life_then me view.stamp (next_stamp s.durable)
    unfolding copies_at
    copied_to me on kept true same (Unborn k) was live told = copied_as_to me on (keeps next) kept same k told
    copied_to me on kept true same (Alive a) was live told = absurd (ungiven next a.shows.entry.durable.given)
      where
        ungiven : (n : ℕ) → is_given n n ≡ true → ⊥
        ungiven n g = absurd (grind (arith, nat_tests))
    copied_to me on kept false other life was live told = absurd (true≢false (sym (itself next) ∙ other))
      where
        itself : (n : ℕ) → (n == n) ≡ true
        itself n = grind (arith, nat_tests)

    abbrev copy_for : ℕ → Message
    copy_for server = post (nodes.Server server) (bodies.MakeCopy old view.stamp next (next_stamp s.durable))

    sent_is : turn.sent ≡ to_each view.members copy_for
    sent_is = by_beside beside
      where
        by_beside : (b : Beside) → (move_turn config s (Copies old view req b)).sent ≡ to_each view.members copy_for
        by_beside Alone = refl
        by_beside (FromNow by waiting) = refl
        by_beside (Further by waiting) = refl

    brought : (born : ℕ) (origin : List Edit) (w : ChunkWorld) (me : ℕ) (js : List ℕ) → is_member js me ≡ true → AllByRecursion (Brings born next origin w) (to_each js copy_for) → BringsTo born origin w (nodes.Server me) (next_stamp s.durable)
    brought born origin w me [] here all = absurd (false≢true here)
    brought born origin w me (j ∷ js) here all = by_head (brought born origin w me js) (j == me) refl here
      where
        by_head : (is_member js me ≡ true → AllByRecursion (Brings born next origin w) (to_each js copy_for) → BringsTo born origin w (nodes.Server me) (next_stamp s.durable)) → (b : Bool) → (j == me) ≡ b → (b || is_member js me) ≡ true → BringsTo born origin w (nodes.Server me) (next_stamp s.durable)
        by_head rest true same h = subst (λ x. BringsTo born origin w (nodes.Server x) (next_stamp s.durable)) (same_number j me same) (all.0 refl)
        by_head rest false other h = rest h all.1

    all_copied : (js : List ℕ) → ((j : ℕ) → is_member js j ≡ true → is_member view.members j ≡ true) → AllByRecursion (KeptTo keeps turn.after (λ chunk. (each_then chunk).life_then)) (to_each js copy_for)
    unfolding each_then copies_at
    all_copied [] within = tt
    all_copied (j ∷ js) within = (
      λ kept. copied_to j (within j (first (j == j) (itself j))) kept (next == next) refl (family next) (hears next) (marks next)
          (λ born origin w all. brought born origin w j view.members (within j (first (j == j) (itself j))) (subst (AllByRecursion (Brings born next origin w)) sent_is all)),
      all_copied js (λ x here. within x (second (j == x) (is_member js x) here)),
    )
      where
        itself : (n : ℕ) → (n == n) ≡ true
        itself n = grind (arith, nat_tests)

        first : (b : Bool) → b ≡ true → (b || is_member js j) ≡ true
        first true h = refl
        first false h = absurd (false≢true h)

        second : (b c : Bool) → c ≡ true → (b || c) ≡ true
        second true c h = refl
        second false c h = h

    copies_family : MoveFamily keeps whole (Copies old view req beside) s turn.after turn.sent family
    copies_family = record {
      goes = record {
        last = λ chunk. (each_then chunk).life_then;
        goes = λ chunk. (each_then chunk).goes;
        origins = λ chunk. (each_then chunk).from;
        bare = λ chunk. (each_then chunk).bare;
        copies = subst (AllByRecursion (KeptTo keeps turn.after (λ chunk. (each_then chunk).life_then))) (sym sent_is) (all_copied view.members (λ j here. here));
      };
      leaves = λ chunk. (each_then chunk).leaves;
    }

  -- ---- any other move

  -- it copies none
  plain_family : (move : Move) → IsMadeWell config heard s move → is_copying move ≡ false → MoveFamily keeps whole move s (move_turn config s move).after (move_turn config s move).sent family
  plain_family move well plain =
      let each : (chunk : ℕ) → Behind (keeps chunk) move chunk (family chunk) = λ chunk. plain_next (keeps chunk) move well chunk (family chunk) (hears chunk) (marks chunk) in
      record {
        goes = record {
          last = λ chunk. (each chunk).life_then;
          goes = λ chunk. (each chunk).goes;
          origins = λ chunk. (each chunk).from;
          bare = λ chunk. (each chunk).bare;
          copies = nothing_so (KeptTo keeps (move_turn config s move).after (λ chunk. (each chunk).life_then)) (none_kept keeps (move_turn config s move).after (λ chunk. (each chunk).life_then)) (move_turn config s move).sent (no_copies config heard s move well plain);
        };
        leaves = λ chunk. (each chunk).leaves;
      }

  pub move_family : (move : Move) → IsMadeWell config heard s move → MoveFamily keeps whole move s (move_turn config s move).after (move_turn config s move).sent family
  move_family move well = by_copying (is_copying move) refl
    where
      copying : (m : Move) → is_copying m ≡ true → IsMadeWell config heard s m → MoveFamily keeps whole m s (move_turn config s m).after (move_turn config s m).sent family
      copying (Copies old view req beside) is w = copies_family old view req beside w
      copying m is w = absurd (false≢true is)

      by_copying : (b : Bool) → is_copying move ≡ b → MoveFamily keeps whole move s (move_turn config s move).after (move_turn config s move).sent family
      by_copying true is = copying move is well
      by_copying false is = plain_family move well is

-- ---- chains

same_twice : (m n o : Member) (b : Bool) → IsSameMember m b n → IsSameMember n b o → IsSameMember m b o
same_twice m n o b (inl e) (inl f) = inl (f ∙ e)
same_twice m n o b (inl e) (inr f) = inr (f ∙ ap (λ x. marked x b) e)
same_twice m n o b (inr e) (inl f) = inr (f ∙ e)
same_twice m n o b (inr e) (inr f) = inr (f ∙ ap (λ x. marked x b) e)

same_live : (m n : Member) (b : Bool) → IsSameMember m b n → is_some m.live ≡ true → is_some n.live ≡ true
same_live m n b (inl e) live = ap (λ (x : Member). is_some x.live) e ∙ live
same_live m n b (inr e) live = ap (λ (x : Member). is_some x.live) e ∙ live

-- what it hears behind some moves
hears_on : (chunk : ℕ) (whole : ℕ → Bool) (heard : Heard) (s u : State) (messages : List Message) (l : Life chunk s) (m : Life chunk u) → Goes chunk whole s u messages l m → HeardOf chunk s heard l → HeardOf chunk u heard m
hears_on chunk whole heard s u messages (Unborn b) (Unborn v) goes was = was
hears_on chunk whole heard s u messages (Unborn b) (Alive c) goes was = heard_more chunk silent c.world (from_silent c.world) heard was
hears_on chunk whole heard s u messages (Alive a) (Unborn v) goes was = absurd goes
hears_on chunk whole heard s u messages (Alive a) (Alive c) goes was = heard_more chunk a.world c.world goes.stays heard was

marks_on : (chunk : ℕ) (whole : ℕ → Bool) (s u : State) (messages : List Message) (l : Life chunk s) (m : Life chunk u) → Goes chunk whole s u messages l m → MarksOf chunk s whole l → MarksOf chunk u whole m
marks_on chunk whole s u messages (Unborn b) (Unborn v) goes live = live
marks_on chunk whole s u messages (Unborn b) (Alive c) goes live = λ j is. absurd (false≢true (sym (live j) ∙ is))
marks_on chunk whole s u messages (Alive a) (Unborn v) goes live = absurd goes
marks_on chunk whole s u messages (Alive a) (Alive c) goes live = λ j is. same_live (a.world.members j) (c.world.members j) (whole j) (goes.members j) (live j is)

-- one behind the other
pub goes_both : (chunk : ℕ) (whole : ℕ → Bool) (s u v : State) (first next : List Message) (l : Life chunk s) (m : Life chunk u) (n : Life chunk v) → MarksOf chunk s whole l → Goes chunk whole s u first l m → Goes chunk whole u v next m n → Goes chunk whole s v (first ++ next) l n
goes_both chunk whole s u v first next (Unborn b) (Unborn c) (Unborn d) live f g = record {
  rises = rises_both s.durable u.durable v.durable f.rises g.rises;
  says = all_append (SaysNothing chunk v.durable.epoch) first next (all_later chunk u.durable.epoch v.durable.epoch g.rises.epoch first f.says) g.says;
}
goes_both chunk whole s u v first next (Unborn b) (Unborn c) (Alive d) live f g = record {
  later = (let x = f.rises.epoch in let y = g.later in omega arith);
  leads = g.leads;
  masters = g.masters;
  members = g.members;
  fresh = λ top past. g.fresh top (past_rises s.durable u.durable f.rises top past);
  tells = all_append (MastersTell (birth_of d) chunk d.world) first next (all_quiet chunk (birth_of d) [] d.world first (all_later chunk u.durable.epoch (birth_of d) g.later first f.says)).0 g.tells;
}
goes_both chunk whole s u v first next (Unborn b) (Alive c) (Unborn d) live f g = absurd g
goes_both chunk whole s u v first next (Unborn b) (Alive c) (Alive d) live f g =
    let same : birth_of d ≡ birth_of c = ap (λ (x : Birth). x.epoch) g.same in
    let led = subst (λ (b : Birth). IsLed (world_of b) d.world) (sym g.same) (record { leads = leads_on (world_of c.reached.0) c.world d.world f.leads g.leads; masters = masters_on (world_of c.reached.0) c.world d.world f.leads g.leads f.masters g.masters }) in
    record {
      later = (let x = f.later in omega arith);
      leads = led.leads;
      masters = led.masters;
      fresh = λ top past. stays_behind c.world d.world top c.reached g.leads (f.fresh top past);
      members = λ j. same_blank (birth_of d) (c.world.members j) (d.world.members j) (f.members j ∙ ap no_member (sym same)) (subst (λ b. IsSameMember (c.world.members j) b (d.world.members j)) (live j) (g.members j));
      tells = all_append (MastersTell (birth_of d) chunk d.world) first next (subst (λ e. AllByRecursion (MastersTell e chunk d.world) first) (sym same) (tells_more chunk c.world d.world g.stays (birth_of c) first f.tells)) g.tells;
    }
goes_both chunk whole s u v first next (Alive a) (Unborn c) n live f g = absurd f
goes_both chunk whole s u v first next (Alive a) (Alive c) (Unborn d) live f g = absurd g
goes_both chunk whole s u v first next (Alive a) (Alive c) (Alive d) live f g =
    let same : birth_of d ≡ birth_of c = ap (λ (x : Birth). x.epoch) g.same in
    record {
      leads = leads_on a.world c.world d.world f.leads g.leads;
      masters = masters_on a.world c.world d.world f.leads g.leads f.masters g.masters;
      same = g.same ∙ f.same;
      members = λ j. same_twice (a.world.members j) (c.world.members j) (d.world.members j) (whole j) (f.members j) (g.members j);
      marks = marks_both whole a.world c.world d.world g.leads f.members g.members f.marks g.marks;
      stays = λ x there. g.stays x (f.stays x there);
      tells = all_append (MastersTell (birth_of d) chunk d.world) first next (subst (λ e. AllByRecursion (MastersTell e chunk d.world) first) (sym same) (tells_more chunk c.world d.world g.stays (birth_of c) first f.tells)) g.tells;
    }

-- what was copied stays so
copy_on : (old new : ℕ) (s u : State) (whole more : ℕ → Bool) (messages : List Message) (l : Life old s) (m : Life old u) (x : Life new s) (y : Life new u) → Goes old whole s u messages l m → Goes new more s u messages x y → (me : ℕ) (at stamp : Stamp) → IsCopyOf old new s l x me at stamp → IsCopyOf old new u m y me at stamp
copy_on old new s u whole more messages (Alive a) (Alive b) (Alive c) (Alive d) f g me at stamp k = record {
  before = k.before;
  after = k.after;
  edits = k.edits;
  origin = ap (λ (z : Birth). z.origin) g.same ∙ k.origin;
  from = k.from;
  to = k.to;
  late = subst (λ n. n ≤ epoch_of k.after) (sym (ap (λ (z : Birth). z.epoch) g.same)) k.late;
  told = g.stays (record { server = me; body = CopyIn (k.after) (k.edits) None }) k.told;
  fixed = fixed_on a.world b.world k.before me k.edits a.reached f.leads k.fixed;
}
copy_on old new s u whole more messages (Alive a) (Unborn b) (Alive c) y f g me at stamp k = absurd f
copy_on old new s u whole more messages (Alive a) (Alive b) (Alive c) (Unborn d) f g me at stamp k = absurd g
copy_on old new s u whole more messages (Unborn a) m (Alive c) y f g me at stamp k = absurd k
copy_on old new s u whole more messages l m (Unborn c) y f g me at stamp k = absurd k

module _ (keeps : ℕ → Bool) (whole : ℕ → ℕ → Bool) (s u : State) (family : Family s) (last : Family u) (messages : List Message) (goes : (chunk : ℕ) → Goes chunk (whole chunk) s u messages (family chunk) (last chunk)) where
  body_on : (to : NodeId) (body : Body) → CopiesTo s family to body → CopiesTo u last to body
  body_on (nodes.Server me) (bodies.MakeCopy old at new stamp) k = copy_on old new s u (whole old) (whole new) messages (family old) (last old) (family new) (last new) (goes old) (goes new) me at stamp k
  body_on (nodes.Server me) body k = tt
  body_on to body k = tt

  pub all_on : (sent : List Message) → AllByRecursion (KeptTo keeps s family) sent → AllByRecursion (KeptTo keeps u last) sent
  all_on [] k = tt
  all_on (m ∷ sent) k = (λ kept. body_on m.to m.body (k.0 kept), all_on sent k.1)

-- ---- where lists come from

module _ (s u : State) (family : Family s) where
  abbrev From : List Edit → Type 0
  From = ComesFrom s family

  -- a chunk that lives goes on by events of the master's part
  lists_of : (chunk : ℕ) (whole : ℕ → Bool) (messages : List Message) (l : Life chunk s) (m : Life chunk u) → family chunk ≡ l → Goes chunk whole s u messages l m → BornFrom From chunk s u l m → ListsFrom From chunk u m
  lists_of chunk whole messages (Alive a) (Alive b) is goes from = λ stamp many. let x = (masters_leave a.world b.world goes.leads goes.masters).lists stamp many in inr (record { chunk = chunk; alive = a; is = is; stamp = x.0; many = x.1; begins = x.2 })
  lists_of chunk whole messages (Unborn k) (Alive b) is goes from = λ stamp many.
      let x = (masters_leave (world_of b.reached.0) b.world goes.leads goes.masters).lists stamp many in subst From (sym x.2) (from x.1)
  lists_of chunk whole messages l (Unborn b) is goes from = tt

  -- what comes from a list there comes from one of before
  carried : (last : Family u) → ((chunk : ℕ) → ListsFrom From chunk u (last chunk)) → (edits : List Edit) → ComesFrom u last edits → From edits
  carried last lists edits (inl none) = inl none
  carried last lists edits (inr old) = subst From (sym old.begins) (on (subst (ListsFrom From old.chunk u) old.is (lists old.chunk)) old.stamp old.many)
    where
      on : ListsFrom From old.chunk u (Alive old.alive) → (stamp many : ℕ) → From (take many (old.alive.world.known.list stamp))
      on all = all

  -- a chunk that is born behind some moves comes from what was before
  pub from_both : (v : State) (first : Family u) → ((chunk : ℕ) → ListsFrom From chunk u (first chunk)) → (chunk : ℕ) (whole : ℕ → Bool) (one more : List Message) (l : Life chunk s) (m : Life chunk u) (n : Life chunk v)
      → Goes chunk whole s u one l m → Goes chunk whole u v more m n → BornFrom From chunk s u l m → BornFrom (ComesFrom u first) chunk u v m n → BornFrom From chunk s v l n
  from_both v first lists chunk whole one more (Unborn k) (Unborn m) (Alive n) f g a b = λ many. carried first lists (take many n.reached.0.origin) (b many)
  from_both v first lists chunk whole one more (Unborn k) (Alive m) (Alive n) f g a b = λ many. subst (λ (z : Birth). From (take many z.origin)) (sym g.same) (a many)
  from_both v first lists chunk whole one more (Unborn k) m (Unborn n) f g a b = tt
  from_both v first lists chunk whole one more (Alive k) m n f g a b = tt

-- one that is born without edits was
pub bare_both : (s u v : State) (kept : Bool) (chunk : ℕ) (whole : ℕ → Bool) (more : List Message) (l : Life chunk s) (m : Life chunk u) (n : Life chunk v) → Goes chunk whole u v more m n → BornBare kept chunk s u l m → BornBare kept chunk u v m n → BornBare kept chunk s v l n
bare_both s u v kept chunk whole more (Unborn k) (Unborn m) (Alive n) g a b = b
bare_both s u v kept chunk whole more (Unborn k) (Alive m) (Alive n) g a b = λ out. ap (λ (z : Birth). z.origin) g.same ∙ a out
bare_both s u v kept chunk whole more (Unborn k) m (Unborn n) g a b = tt
bare_both s u v kept chunk whole more (Alive k) m n g a b = tt

pub family_lists : FamilyLists
family_lists keeps whole s u messages family f chunk = lists_of s u family chunk (whole chunk) messages (family chunk) (f.last chunk) refl (f.goes chunk) (f.origins chunk)

-- nothing happens
pub goes_still : (chunk : ℕ) (whole : ℕ → Bool) (s : State) (l : Life chunk s) → Goes chunk whole s s [] l l
goes_still chunk whole s (Unborn k) = record { rises = rises_itself s.durable; says = tt }
goes_still chunk whole s (Alive a) = record { leads = Rests; masters = tt; same = refl; members = λ j. inl refl; marks = same_epoch whole a.world a.world refl; stays = λ x there. there; tells = tt }

-- nothing is born
pub from_still : (P : List Edit → Type 0) (chunk : ℕ) (s : State) (l : Life chunk s) → BornFrom P chunk s s l l
from_still P chunk s (Unborn k) = tt
from_still P chunk s (Alive a) = tt

pub bare_still : (kept : Bool) (chunk : ℕ) (s : State) (l : Life chunk s) → BornBare kept chunk s s l l
bare_still kept chunk s (Unborn k) = tt
bare_still kept chunk s (Alive a) = tt

unfoldable pub family_still : (keeps : ℕ → Bool) (whole : ℕ → ℕ → Bool) (s : State) (family : Family s) → FamilyGoes keeps whole s s [] family
family_still keeps whole s family = record { last = family; goes = λ chunk. goes_still chunk (whole chunk) s (family chunk); origins = λ chunk. from_still (ComesFrom s family) chunk s (family chunk); bare = λ chunk. bare_still (keeps chunk) chunk s (family chunk); copies = tt }

-- ---- one behind the other

module _ (keeps : ℕ → Bool) (whole : ℕ → ℕ → Bool) (s u : State) (messages : List Message) (family : Family s) (f : FamilyGoes keeps whole s u messages family) where
  pub family_hears : (heard : Heard) → ((chunk : ℕ) → HeardOf chunk s heard (family chunk)) → (chunk : ℕ) → HeardOf chunk u heard (f.last chunk)
  family_hears heard hears chunk = hears_on chunk (whole chunk) heard s u messages (family chunk) (f.last chunk) (f.goes chunk) (hears chunk)

  pub family_marks : ((chunk : ℕ) → MarksOf chunk s (whole chunk) (family chunk)) → (chunk : ℕ) → MarksOf chunk u (whole chunk) (f.last chunk)
  family_marks marks chunk = marks_on chunk (whole chunk) s u messages (family chunk) (f.last chunk) (f.goes chunk) (marks chunk)

unfoldable pub families_both : (keeps : ℕ → Bool) (whole : ℕ → ℕ → Bool) (s u v : State) (first next : List Message) (family : Family s) → ((chunk : ℕ) → MarksOf chunk s (whole chunk) (family chunk)) → (f : FamilyGoes keeps whole s u first family) → FamilyGoes keeps whole u v next f.last
    → FamilyGoes keeps whole s v (first ++ next) family
families_both keeps whole s u v first next family marks f g = record {
  last = g.last;
  goes = λ chunk. goes_both chunk (whole chunk) s u v first next (family chunk) (f.last chunk) (g.last chunk) (marks chunk) (f.goes chunk) (g.goes chunk);
  origins = λ chunk. from_both s u family v f.last (family_lists keeps whole s u first family f) chunk (whole chunk) first next (family chunk) (f.last chunk) (g.last chunk) (f.goes chunk) (g.goes chunk) (f.origins chunk) (g.origins chunk);
  bare = λ chunk. bare_both s u v (keeps chunk) chunk (whole chunk) next (family chunk) (f.last chunk) (g.last chunk) (g.goes chunk) (f.bare chunk) (g.bare chunk);
  copies = all_append (KeptTo keeps v g.last) first next (all_on keeps whole u v f.last g.last next g.goes first f.copies) g.copies;
}

pub families_go : FamiliesGo
families_go keeps whole config heard s t family hears marks (Rests_it u said) = family_still keeps whole u family
families_go keeps whole config heard s t family hears marks (Moves u move said well) = (move_family keeps whole config heard u family hears marks move well).goes
families_go keeps whole config heard s t family hears marks (Then u first next a b) =
    let f = families_go keeps whole config heard u first family hears marks a in
    families_both keeps whole u first.after next.after first.sent next.sent family marks f
    (families_go keeps whole config heard first.after next f.last (family_hears keeps whole u first.after first.sent family f heard hears) (family_marks keeps whole u first.after first.sent family f marks) b)

-- ---- a chain whose records can be written

pub written_families_go : WrittenFamiliesGo
written_families_go keeps whole config heard s t family hears marks kept written chain = families_go keeps whole config heard s t family hears marks (chains_stand config heard s t chain written kept).chain

abbrev AnyLeft : ChunkWorld → ChunkWorld → Type 0
AnyLeft w v = Unit {0}

abbrev AnyBorn : ChunkWorld → Type 0
AnyBorn w = Unit {0}

within_next : (P : List Edit → Type 0) (kept : Bool) (chunk : ℕ) (whole : ℕ → Bool) (s u : State) (k : IsUnborn chunk s) → ((many : ℕ) → P (take many none_yet)) → IsBornWithin chunk [] s.durable u [] → Next P AnyLeft AnyBorn kept chunk whole s u [] (Unborn k)
within_next P kept chunk whole s u k from b = record {
  life_then = Alive (record { world = b.world; reached = (b.birth, b.leads); shows = b.shows });
  goes = record { later = b.later; leads = b.leads; masters = b.masters; members = b.members; fresh = b.fresh; tells = tt };
  from = λ many. subst (λ es. P (take many es)) (sym b.begins) (from many);
  bare = λ out. b.begins;
  leaves = tt;
}

-- it is cut, and the master is started again
cut_next : (P : List Edit → Type 0) → ((many : ℕ) → P (take many none_yet)) → (kept : Bool) (whole : ℕ → Bool) (config : Config) (heard : Heard) (s : State) (t : Turn) (many : ℕ) (d : Durable) (log : Log) → IsKept s.durable → IsWritten t → Chain config (IsMade config heard) s t → many ≤ length t.records → replayed s.durable (take many t.records) ≡ Some d
    → (chunk : ℕ) (life : Life chunk s) → HeardOf chunk s heard life → MarksOf chunk s whole life → Next P AnyLeft AnyBorn kept chunk whole s (restarted d log) [] life
cut_next P none kept whole config heard s t many d log stands written chain within fit chunk (Alive a) was live =
    follows_next P AnyLeft AnyBorn kept chunk whole s (restarted d log) [] a (parts_follow (birth_of a) chunk whole config heard s t many d log a.world live a.shows was stands written chain within fit) tt
cut_next P none kept whole config heard s t many d log stands written chain within fit chunk (Unborn k) was live = by_way (written_cuts_go_unborn chunk config heard s t many d log was chain written stands fit k)
  where
    by_way : IsUnbornAgain config heard chunk s (restarted d log) → Next P AnyLeft AnyBorn kept chunk whole s (restarted d log) [] (Unborn k)
    by_way (inl unborn) = record { life_then = Unborn unborn.0; goes = record { rises = unborn.1; says = tt }; from = tt; bare = tt; leaves = tt }
    by_way (inr (inl born)) = within_next P kept chunk whole s (restarted d log) k none born
    by_way (inr (inr copied)) = within_next P kept chunk whole s (restarted d log) k none (copied.born [] (record { rises = λ i j x y at. absurd (false≢true (ap is_some at)) }))

pub families_cut : FamiliesCut
families_cut keeps whole config heard s t many d log family hears marks stands written chain within fit =
    let each : (chunk : ℕ) → Next (ComesFrom s family) AnyLeft AnyBorn (keeps chunk) chunk (whole chunk) s (restarted d log) [] (family chunk) = λ chunk. cut_next (ComesFrom s family) (λ n. inl (take_none n)) (keeps chunk) (whole chunk) config heard s t many d log stands written chain within fit chunk (family chunk) (hears chunk) (marks chunk) in
    record { last = λ chunk. (each chunk).life_then; goes = λ chunk. (each chunk).goes; origins = λ chunk. (each chunk).from; bare = λ chunk. (each chunk).bare; copies = tt }

-- ---- a new store

pub starts_unborn : StartsUnborn
starts_unborn chunk log = restarts_unborn chunk start log (omega arith) (record { handle = omega arith; given = λ number. none_given chunk; settled = fin.get-empty nat_cmp chunk; prepared = fin.get-empty nat_cmp chunk })
  where
    none_given : (c : ℕ) → is_given 1 c ≡ false
    none_given c = grind (arith, nat_tests)
