-- A chunk that isn't born yet, over chains and events.
use Rattle.std.proofs.Common.{◌≡◌, ℕ, zero, suc, ◌==◌, ◌+◌, ◌<◌, ◌≤◌, ◌⊎◌, inl, inr, Bool, true, false, ◌&&◌, List, [], ◌∷◌, ◌++◌, length, Option, Some, None, refl, sym, ap, subst, ◌∙◌, arith}
use Rattle.std.specs.Prelude.{take}
use Rattle.std.specs.FinMap as fin
use Rattle.std.specs.List.{AllByRecursion, list_all}
use Rattle.std.proofs.lemmas.Bool.{false≢true, and_parts}
use Rattle.std.proofs.lemmas.Bool.Decides.{nat_tests}
use Rattle.gs_base.specs.Members.{count_from}
use Rattle.gs_base.specs.declared.config.Config.{Config}
use Rattle.gs_base.specs.declared.epoch.EpochEnd.{EpochEnd}
use Rattle.gs_base.specs.declared.epoch.EpochEnd.TheVariants as ends
use Rattle.gs_base.specs.Told.{IsNumber}
use Rattle.gs_base.specs.declared.numbers.ReqId.{ReqId}
use Rattle.gs_base.specs.declared.numbers.Stamp.{Stamp}
use Rattle.gs_base.specs.declared.refusal.Refusal.{Refusal}
use Rattle.gs_lease.specs.declared.view.Purpose.{Purpose}
use Rattle.gs_lease.specs.declared.view.Term.{Term}
use Rattle.gs_lease.specs.declared.view.View.{View}
use Rattle.gs_msg.specs.declared.body.Body.{Body}
use Rattle.gs_msg.specs.declared.body.Body.TheVariants as bodies
use Rattle.gs_msg.specs.declared.chunk.Chunk.{Chunk as About}
use Rattle.gs_msg.specs.declared.chunk.Chunk.TheVariants as abouts
use Rattle.gs_msg.specs.declared.message.Message.{Message}
use Rattle.gs_msg.specs.declared.node.NodeId.{NodeId}
use Rattle.gs_msg.specs.declared.node.NodeId.TheVariants as nodes
use Rattle.gs_master_record.specs.Plain.{PlainEntry}
use Rattle.gs_replica.specs.Stands.{Edit}
use Rattle.gs_master_spec.specs.Applied.{replayed}
use Rattle.gs_master_spec.specs.Beginning.{next_stamp}
use Rattle.gs_master_spec.specs.Chunks.{is_holder, target_of}
use Rattle.gs_master_spec.specs.Durable.{Durable, is_given, prepared_view}
use Rattle.gs_master_spec.specs.Handling.{restarted}
use Rattle.gs_master_spec.specs.Settling.{grant_of}
use Rattle.gs_master_spec.specs.State.{State, Log, Turn, about, joined, post, to_each}
use Rattle.gs_laws_master.specs.Promises.{IsKept}
use Rattle.gs_laws_master.specs.Standing.{Event, Comes, Ticks, Renews, Restarts, turn_of}
use Rattle.gs_laws_master.proofs.lemmas.telling.Writing.{events_written}
use Rattle.gs_laws_moves.proofs.lemmas.moves.Fitting.{AreSplit, chain_leaves, cuts_are_beginnings, split}
use Rattle.gs_laws_moves.proofs.lemmas.moves.Stands.{chains_stand, cuts_stand, events_stand}
use Rattle.gs_laws_moves.specs.moves.Asked.{WasHeard}
use Rattle.gs_laws_moves.specs.moves.Guards.{Heard, ask_nobody, asks_nobody}
use Rattle.gs_laws_moves.specs.moves.Laws.{IsChainWell, IsCutAt, IsMadeWell, heard_in, met_in}
use Rattle.gs_laws_moves.specs.moves.Moves.{Chain, Rests as Rests_it, Moves, Then, Alone, Beside, FromNow, Further, Move, Begins, Makes, Copies, Hears, Sends, Settles, Edits, Extends, CopiesTree, Replaces, Scans, Refuses, Answers as AnswersCall, Waits, Restores, Says as Says_it, Flags, Prepares, Finalizes, BeginsRollback, TellsRollback, CommitsRollback, Checkpoints, move_turn}
use Rattle.gs_laws_chunk.specs.machine.Laws.{world_of}
use Rattle.gs_laws_chunk.specs.machine.Machine.{Member, ChunkWorld}
use Rattle.gs_laws_chunk.specs.machine.Events.{marked, no_member}
use Rattle.gs_laws_parts.proofs.lemmas.master.Every.{chains_follow, cuts_follow, restarts_follow}
use Rattle.gs_laws_parts.proofs.lemmas.master.Sending.{Stays, heard_more, leads_on, masters_on, tells_more}
use Rattle.gs_laws_parts.proofs.lemmas.master.Stamps.{other_number, same_number}
use Rattle.gs_laws_parts.proofs.lemmas.master.Unborn.{counted_rises, counted_ungiven, other_than, IsCounted, counts_on, each_move_goes_unborn, records_counted, restarts_unborn, said_counts, scan_counts, settle_counts}
use Rattle.gs_laws_chunk.proofs.lemmas.machine.Numbering.{stays_behind}
use Rattle.gs_laws_parts.specs.master.Showing.{Rises}
use Rattle.gs_laws_parts.proofs.lemmas.master.Leaving.{past_rises, rises_both, rises_itself}
use Rattle.gs_laws_parts.specs.master.Bearing.{ChainsGoUnborn, EventsCutGoUnborn, EventsGoUnborn, GoesOnUnborn, IsBornWithin, IsUnbornAgain, WrittenChainsGoUnborn, WrittenCutsGoUnborn}
use Rattle.gs_laws_parts.specs.master.Births.{Brings, BringsBody, BringsTo, IsBorn}
use Rattle.gs_laws_parts.specs.master.Chains.{AreLive}
use Rattle.gs_laws_parts.specs.server.Messages.{TellsEpochTo}
use Rattle.gs_laws_parts.specs.master.Telling.{IsSameMember, Says, Shows, MastersTell, TellsBody}
use Rattle.gs_laws_parts.specs.master.Unborn.{GoesUnborn, IsUnborn, SaysNothing, SaysNothingIn, StaysUnborn, silent}

pub all_append : (P : Message → Type 0) (xs ys : List Message) → AllByRecursion P xs → AllByRecursion P ys → AllByRecursion P (xs ++ ys)
all_append P [] ys a b = b
all_append P (x ∷ xs) ys a b = (a.0, all_append P xs ys a.1 b)

-- ---- who says nothing of the chunk tells all that it says

later_quiet : (chunk epoch later : ℕ) → epoch ≤ later → (body : Body) → SaysNothingIn chunk epoch body → SaysNothingIn chunk later body
later_quiet chunk epoch later less (bodies.About handle said) k = k
later_quiet chunk epoch later less (bodies.MakeCopy old at new stamp) k = k
later_quiet chunk epoch later less (bodies.Epoch told end) k = omega arith
later_quiet chunk epoch later less body k = tt

pub all_later : (chunk epoch later : ℕ) → epoch ≤ later → (messages : List Message) → AllByRecursion (SaysNothing chunk epoch) messages → AllByRecursion (SaysNothing chunk later) messages
all_later chunk epoch later less [] k = tt
all_later chunk epoch later less (m ∷ messages) k = (later_quiet chunk epoch later less m.body k.0, all_later chunk epoch later less messages k.1)

epoch_quiet : (born : ℕ) (w : ChunkWorld) (to : NodeId) (epoch : ℕ) (end : EpochEnd) → epoch ≤ born → TellsEpochTo born w to epoch end
epoch_quiet born w (nodes.Server to) epoch end less = λ later. absurd (omega arith)
epoch_quiet born w to epoch end less = tt

quiet_tells : (chunk born : ℕ) (w : ChunkWorld) (to : NodeId) (body : Body) → SaysNothingIn chunk born body → TellsBody born chunk w to body
quiet_tells chunk born w to (bodies.About handle said) k = λ same. absurd (k same)
quiet_tells chunk born w to (bodies.Epoch told end) k = epoch_quiet born w to told end k
quiet_tells chunk born w to body k = tt

quiet_brings : (chunk born : ℕ) (origin : List Edit) (w : ChunkWorld) (to : NodeId) (body : Body) → SaysNothingIn chunk born body → BringsBody born chunk origin w to body
quiet_brings chunk born origin w to (bodies.MakeCopy old at new stamp) k = λ same. absurd (k.1 same)
quiet_brings chunk born origin w to body k = tt

pub all_quiet : (chunk born : ℕ) (origin : List Edit) (w : ChunkWorld) (messages : List Message) → AllByRecursion (SaysNothing chunk born) messages → AllByRecursion (MastersTell born chunk w) messages × AllByRecursion (Brings born chunk origin w) messages
all_quiet chunk born origin w [] k = (tt, tt)
all_quiet chunk born origin w (m ∷ messages) k =
    let rest = all_quiet chunk born origin w messages k.1 in ((quiet_tells chunk born w m.to m.body k.0, rest.0), (quiet_brings chunk born origin w m.to m.body k.0, rest.1))

-- ---- once its handle is given nobody is told to make it of another

module _ (born chunk : ℕ) (origin : List Edit) (w : ChunkWorld) where
  abbrev AllBring : List Message → Type 0
  AllBring messages = AllByRecursion (Brings born chunk origin w) messages

  each_about : (q : ℕ) (said : About) (servers : List ℕ) → AllBring (to_each servers (about q said))
  each_about q said [] = tt
  each_about q said (x ∷ servers) = (tt, each_about q said servers)

  each_epoch : (epoch : ℕ) (end : EpochEnd) (servers : List ℕ) → AllBring (to_each servers (λ server. post (nodes.Server server) (bodies.Epoch epoch end)))
  each_epoch epoch end [] = tt
  each_epoch epoch end (x ∷ servers) = (tt, each_epoch epoch end servers)

  each_copy : (old new : ℕ) (at stamp : Stamp) → (new == chunk) ≡ false → (servers : List ℕ) → AllBring (to_each servers (λ server. post (nodes.Server server) (bodies.MakeCopy old at new stamp)))
  each_copy old new at stamp other [] = tt
  each_copy old new at stamp other (x ∷ servers) = (λ same. absurd (other_number new chunk other same), each_copy old new at stamp other servers)

  granted : (q : ℕ) (view : View) (term : Option Term) → AllBring (grant_of q view term)
  granted q view None = tt
  granted q view (Some term) = (tt, tt)

  body_asks : (to : NodeId) (body : Body) → asks_nobody body ≡ true → BringsBody born chunk origin w to body
  body_asks to (bodies.MakeCopy old at new stamp) asks = absurd (false≢true asks)
  body_asks to body asks = tt

  all_ask : (messages : List Message) → ask_nobody messages ≡ true → AllBring messages
  all_ask [] asks = tt
  all_ask (m ∷ messages) asks = (let parts = and_parts (asks_nobody m.body) (ask_nobody messages) asks in (body_asks m.to m.body parts.0, all_ask messages parts.1))

  -- the next handle is that of another
  not_next : (n : ℕ) → is_given n chunk ≡ true → (n == chunk) ≡ false
  not_next n given = by_test (n == chunk) refl
    where
      clash : is_given chunk chunk ≡ true → ⊥
      clash g = absurd (grind (arith, nat_tests))

      by_test : (b : Bool) → (n == chunk) ≡ b → b ≡ false
      by_test true same = absurd (clash (subst (λ x. is_given x chunk ≡ true) (same_number n chunk same) given))
      by_test false same = refl

  module _ (config : Config) (heard : Heard) (s : State) (given : is_given s.durable.next_handle chunk ≡ true) where
    begins_bring : (q : ℕ) (purpose : Purpose) (call : Option ReqId) (beside : Beside) → AllBring (move_turn config s (Begins q purpose call beside)).sent
    begins_bring q purpose call Alone = each_about q (abouts.Advance (next_stamp s.durable)) _
    begins_bring q purpose call (FromNow req waiting) = each_about q (abouts.Advance (next_stamp s.durable)) _
    begins_bring q purpose call (Further req waiting) = each_about q (abouts.Advance (next_stamp s.durable)) _

    copies_bring : (old : ℕ) (view : View) (req : ReqId) (beside : Beside) → AllBring (move_turn config s (Copies old view req beside)).sent
    copies_bring old view req Alone = each_copy old s.durable.next_handle view.stamp (next_stamp s.durable) (not_next s.durable.next_handle given) view.members
    copies_bring old view req (FromNow by waiting) = each_copy old s.durable.next_handle view.stamp (next_stamp s.durable) (not_next s.durable.next_handle given) view.members
    copies_bring old view req (Further by waiting) = each_copy old s.durable.next_handle view.stamp (next_stamp s.durable) (not_next s.durable.next_handle given) view.members

    move_brings : (move : Move) → IsMadeWell config heard s move → AllBring (move_turn config s move).sent
    move_brings (Begins q purpose call beside) well = begins_bring q purpose call beside
    move_brings (Makes targets req path) well = each_about s.durable.next_handle (abouts.Create (next_stamp s.durable)) targets
    move_brings (Copies old view req beside) well = copies_bring old view req beside
    move_brings (Hears q new) well = tt
    move_brings (Sends q asking source target) well = (tt, tt)
    move_brings (Settles q asking carried view) well = granted q view view.term
    move_brings (Edits req edit answer) well = (tt, tt)
    move_brings (Extends req path q view) well = (tt, tt)
    move_brings (CopiesTree req from to) well = (tt, tt)
    move_brings (Replaces path index old new) well = tt
    move_brings (Scans removed forgotten) well = tt
    move_brings (Refuses req refusal over) well = (tt, tt)
    move_brings (AnswersCall req answer true) well = (tt, tt)
    move_brings (AnswersCall req answer false) well = (tt, tt)
    move_brings (Waits req waiting) well = tt
    move_brings (Restores server chunks) well = tt
    move_brings (Says_it messages) well = all_ask messages well.made.may.1
    move_brings (Flags req preparing epoch) well = (tt, tt)
    move_brings (Prepares req moment) well = all_append (Brings born chunk origin w) _ _ (each_epoch (s.durable.epoch + 1) ends.Prepare (count_from 0 config.servers)) (tt, tt)
    move_brings (Finalizes req) well = all_append (Brings born chunk origin w) _ _ (each_epoch (s.durable.epoch + 1) ends.Finalize (count_from 0 config.servers)) (tt, tt)
    move_brings BeginsRollback well = tt
    move_brings (TellsRollback req epoch) well = all_append (Brings born chunk origin w) _ _ (each_epoch epoch ends.Rollback (count_from 0 config.servers)) (tt, tt)
    move_brings (CommitsRollback req names) well = (tt, tt)
    move_brings Checkpoints well = tt

nobody_whole : ℕ → Bool
nobody_whole j = false

-- where the chunk's state is shown, no copy of it is asked for any more
chain_brings : (born chunk : ℕ) (origin : List Edit) (last : ChunkWorld) (config : Config) (heard : Heard) (s : State) (t : Turn) (w : ChunkWorld) → Chain config (IsMadeWell config heard) s t → Shows chunk s w → WasHeard (Says chunk w) heard → AreLive nobody_whole w → AllByRecursion (Brings born chunk origin last) t.sent
unfolding nobody_whole
chain_brings born chunk origin last config heard s t w (Rests_it u said) k was live = tt
chain_brings born chunk origin last config heard s t w (Moves u move said well) k was live = move_brings born chunk origin last config heard u k.entry.durable.given move well
chain_brings born chunk origin last config heard s t w (Then u first next a b) k was live =
    let f = chains_follow born chunk nobody_whole config heard u first w live k was a in
    all_append (Brings born chunk origin last) first.sent next.sent (chain_brings born chunk origin last config heard u first w a k was live)
    (chain_brings born chunk origin last config heard first.after next f.world b f.shows (heard_more chunk w f.world f.stays heard was) (λ j whole. absurd (false≢true whole)))

-- ---- once it is born

pub from_silent : (w : ChunkWorld) → Stays silent w
from_silent w x there = absurd (let l : there.0 < 0 = there.1 in omega arith)

pub same_blank : (epoch : ℕ) (m n : Member) → m ≡ no_member epoch → IsSameMember m false n → n ≡ no_member epoch
same_blank epoch m n is (inl same) = same ∙ is
same_blank epoch m n is (inr same) = same ∙ ap (λ x. marked x false) is

-- what is brought stays brought
brings_to : (born : ℕ) (origin : List Edit) (w v : ChunkWorld) → Stays w v → (to : NodeId) (stamp : Stamp) → BringsTo born origin w to stamp → BringsTo born origin v to stamp
brings_to born origin w v stays (nodes.Server to) stamp k = (k.0, k.1, k.2, stays _ k.3)
brings_to born origin w v stays to stamp k = k

brings_body : (born chunk : ℕ) (origin : List Edit) (w v : ChunkWorld) → Stays w v → (to : NodeId) (body : Body) → BringsBody born chunk origin w to body → BringsBody born chunk origin v to body
brings_body born chunk origin w v stays to (bodies.MakeCopy old at new stamp) k = λ same. brings_to born origin w v stays to stamp (k same)
brings_body born chunk origin w v stays to body k = k

brings_more : (born chunk : ℕ) (origin : List Edit) (w v : ChunkWorld) → Stays w v → (messages : List Message) → AllByRecursion (Brings born chunk origin w) messages → AllByRecursion (Brings born chunk origin v) messages
brings_more born chunk origin w v stays [] k = tt
brings_more born chunk origin w v stays (m ∷ messages) k = (brings_body born chunk origin w v stays m.to m.body k.0, brings_more born chunk origin w v stays messages k.1)

as_within : (chunk : ℕ) (first : Durable) (origin : List Edit) (u : State) (messages : List Message) → Rises first u.durable → IsBorn chunk origin u messages → IsBornWithin chunk origin first u messages
as_within chunk first origin u messages rises b = record {
  birth = b.birth;
  begins = b.begins;
  later = (let now = b.now in let up = rises.epoch in omega arith);
  world = b.world;
  leads = b.leads;
  masters = b.masters;
  members = b.members;
  shows = b.shows;
  fresh = λ top past. b.fresh top (past_rises first u.durable rises top past);
  tells = b.tells;
  brings = b.brings;
}

-- messages before it say nothing of it
behind_quiet : (chunk : ℕ) (first now : Durable) (origin : List Edit) (u : State) (quiet messages : List Message) → Rises first now → AllByRecursion (SaysNothing chunk now.epoch) quiet → IsBornWithin chunk origin now u messages → IsBornWithin chunk origin first u (quiet ++ messages)
behind_quiet chunk first now origin u quiet messages rises nothing b =
    let all = all_quiet chunk b.birth.epoch origin b.world quiet (all_later chunk now.epoch b.birth.epoch b.later quiet nothing) in
    record {
      birth = b.birth;
      begins = b.begins;
      later = (let l = b.later in let up = rises.epoch in omega arith);
      world = b.world;
      leads = b.leads;
      masters = b.masters;
      members = b.members;
      shows = b.shows;
      fresh = λ top past. b.fresh top (past_rises first now rises top past);
      tells = all_append (MastersTell b.birth.epoch chunk b.world) quiet messages all.0 b.tells;
      brings = all_append (Brings b.birth.epoch chunk origin b.world) quiet messages all.1 b.brings;
    }

-- and the moves behind it are events of its machine
born_on : (chunk : ℕ) (first : Durable) (origin : List Edit) (config : Config) (heard : Heard) (u : State) (messages : List Message) (t : Turn) → WasHeard (Says chunk silent) heard → Chain config (IsMadeWell config heard) u t → IsBornWithin chunk origin first u messages → IsBornWithin chunk origin first t.after (messages ++ t.sent)
unfolding nobody_whole
born_on chunk first origin config heard u messages t was chain b =
    let now = heard_more chunk silent b.world (from_silent b.world) heard was in
    let live : AreLive nobody_whole b.world = λ j whole. absurd (false≢true whole) in
    let f = chains_follow b.birth.epoch chunk nobody_whole config heard u t b.world live b.shows now chain in
    record {
      birth = b.birth;
      begins = b.begins;
      later = b.later;
      world = f.world;
      leads = leads_on (world_of b.birth) b.world f.world b.leads f.leads;
      masters = masters_on (world_of b.birth) b.world f.world b.leads f.leads b.masters f.masters;
      members = λ j. same_blank b.birth.epoch (b.world.members j) (f.world.members j) (b.members j) (f.members j);
      shows = f.shows;
      fresh = λ top past. stays_behind b.world f.world top (b.birth, b.leads) f.leads (b.fresh top past);
      tells = all_append (MastersTell b.birth.epoch chunk f.world) messages t.sent (tells_more chunk b.world f.world f.stays b.birth.epoch messages b.tells) f.tells;
      brings = all_append (Brings b.birth.epoch chunk origin f.world) messages t.sent (brings_more b.birth.epoch chunk origin b.world f.world f.stays messages b.brings) (chain_brings b.birth.epoch chunk origin f.world config heard u t b.world chain b.shows now live);
    }

-- ---- chains

stays_both : (chunk : ℕ) (s : State) (first next : Turn) → StaysUnborn chunk s first → StaysUnborn chunk first.after next → StaysUnborn chunk s (joined first next)
stays_both chunk s first next a b = record {
  unborn = b.unborn;
  rises = rises_both s.durable first.after.durable next.after.durable a.rises b.rises;
  says = all_append (SaysNothing chunk next.after.durable.epoch) first.sent next.sent (all_later chunk first.after.durable.epoch next.after.durable.epoch b.rises.epoch first.sent a.says) b.says;
}

one_on : (chunk : ℕ) (config : Config) (heard : Heard) (s : State) (t : Turn) (said : Option Refusal) → GoesUnborn chunk s t → GoesOnUnborn config heard chunk s (record t { said = said })
one_on chunk config heard s t said (inl stays) = inl (record { unborn = stays.unborn; rises = stays.rises; says = stays.says })
one_on chunk config heard s t said (inr (later, inl born)) = inr (inl (as_within chunk s.durable [] t.after t.sent later born))
one_on chunk config heard s t said (inr (later, inr copied)) = inr (inr (record {
  before = record { after = s; records = []; sent = []; said = None };
  chain = Rests_it s None;
  old = copied.0;
  view = copied.1;
  may = copied.2;
  born = λ origin numbered. as_within chunk s.durable origin t.after t.sent later (copied.3 origin numbered);
}))

then_on : (chunk : ℕ) (config : Config) (heard : Heard) (s : State) (first next : Turn) → WasHeard (Says chunk silent) heard → Chain config (IsMadeWell config heard) s first → Chain config (IsMadeWell config heard) first.after next
    → GoesOnUnborn config heard chunk s first → (IsUnborn chunk first.after → GoesOnUnborn config heard chunk first.after next) → GoesOnUnborn config heard chunk s (joined first next)
then_on chunk config heard s first next was a b (inl stays) rest = by_next (rest stays.unborn)
  where
    by_next : GoesOnUnborn config heard chunk first.after next → GoesOnUnborn config heard chunk s (joined first next)
    by_next (inl more) = inl (stays_both chunk s first next stays more)
    by_next (inr (inl born)) = inr (inl (behind_quiet chunk s.durable first.after.durable [] next.after first.sent next.sent stays.rises stays.says born))
    by_next (inr (inr copied)) = inr (inr (record {
      before = joined first copied.before;
      chain = Then s first copied.before a copied.chain;
      old = copied.old;
      view = copied.view;
      may = copied.may;
      born = λ origin numbered. behind_quiet chunk s.durable first.after.durable origin next.after first.sent next.sent stays.rises stays.says (copied.born origin numbered);
    }))
then_on chunk config heard s first next was a b (inr (inl born)) rest = inr (inl (born_on chunk s.durable [] config heard first.after first.sent next was b born))
then_on chunk config heard s first next was a b (inr (inr copied)) rest = inr (inr (record {
  before = copied.before;
  chain = copied.chain;
  old = copied.old;
  view = copied.view;
  may = copied.may;
  born = λ origin numbered. born_on chunk s.durable origin config heard first.after first.sent next was b (copied.born origin numbered);
}))

pub chains_go_unborn : ChainsGoUnborn
chains_go_unborn chunk config heard s t was (Rests_it u said) k = inl (record { unborn = k; rises = rises_itself u.durable; says = tt })
chains_go_unborn chunk config heard s t was (Moves u move said well) k = one_on chunk config heard u (move_turn config u move) said (each_move_goes_unborn chunk config heard u move was well k)
chains_go_unborn chunk config heard s t was (Then u first next a b) k =
    then_on chunk config heard u first next was a b (chains_go_unborn chunk config heard u first was a k) (λ unborn. chains_go_unborn chunk config heard first.after next was b unborn)

-- ---- events

met_unborn : (chunk : ℕ) (s : State) (event : Event) → IsUnborn chunk s → IsUnborn chunk (met_in s event)
met_unborn chunk s (Comes message moment) k = k
met_unborn chunk s (Ticks moment) k = k
met_unborn chunk s Renews k = k
met_unborn chunk s Restarts k = restarts_unborn chunk s.durable s.log k.counter k.ungiven

pub events_go_unborn : EventsGoUnborn
events_go_unborn chunk config s event named heard steady was k =
    chains_go_unborn chunk config (heard_in event) (met_in s event) (turn_of config s event) was (events_stand config s event named heard steady).chain (met_unborn chunk s event k)

-- ---- an event that is cut

-- the first records of a move, but not all, give no number
is_short : List PlainEntry → Bool
is_short [] = true
is_short (x ∷ []) = true
is_short (x ∷ y ∷ xs) = false

short_counts : (chunk : ℕ) (xs : List PlainEntry) (many : ℕ) → is_short xs ≡ true → many < length xs → list_all (counts_on chunk) (take many xs) ≡ true
unfolding is_short
short_counts chunk [] zero short within = refl
short_counts chunk [] (suc many) short within = refl
short_counts chunk (x ∷ []) zero short within = refl
short_counts chunk (x ∷ []) (suc many) short within = absurd (omega arith)
short_counts chunk (x ∷ y ∷ xs) many short within = absurd (false≢true short)

all_counts : (chunk : ℕ) (xs : List PlainEntry) (many : ℕ) → list_all (counts_on chunk) xs ≡ true → list_all (counts_on chunk) (take many xs) ≡ true
all_counts chunk xs zero all = refl
all_counts chunk [] (suc many) all = refl
all_counts chunk (x ∷ xs) (suc many) all = (let parts = and_parts (counts_on chunk x) (list_all (counts_on chunk) xs) all in ap (λ b. b && list_all (counts_on chunk) (take many xs)) parts.0 ∙ all_counts chunk xs many parts.1)

part_counts : (chunk : ℕ) (config : Config) (heard : Heard) (s : State) (move : Move) (many : ℕ) → fin.get s.volatile.moving chunk ≡ None → IsMadeWell config heard s move → many < length (move_turn config s move).records → list_all (counts_on chunk) (take many (move_turn config s move).records) ≡ true
unfolding is_short
part_counts chunk config heard s (Begins q purpose call Alone) many unasked well within = short_counts chunk (move_turn config s (Begins q purpose call Alone)).records many refl within
part_counts chunk config heard s (Begins q purpose call (FromNow req waiting)) many unasked well within = short_counts chunk (move_turn config s (Begins q purpose call (FromNow req waiting))).records many refl within
part_counts chunk config heard s (Begins q purpose call (Further req waiting)) many unasked well within = short_counts chunk (move_turn config s (Begins q purpose call (Further req waiting))).records many refl within
part_counts chunk config heard s (Copies old view by Alone) many unasked well within = short_counts chunk (move_turn config s (Copies old view by Alone)).records many refl within
part_counts chunk config heard s (Copies old view by (FromNow req waiting)) many unasked well within = short_counts chunk (move_turn config s (Copies old view by (FromNow req waiting))).records many refl within
part_counts chunk config heard s (Copies old view by (Further req waiting)) many unasked well within = short_counts chunk (move_turn config s (Copies old view by (Further req waiting))).records many refl within
part_counts chunk config heard s (Settles q asking carried view) many unasked well within = all_counts chunk _ many (settle_counts chunk (is_holder s.durable.phase (prepared_view s.durable q) carried asking view) q (target_of asking.purpose) view (other_than chunk s unasked q asking well.made.may.has))
part_counts chunk config heard s (Scans removed forgotten) many unasked well within = all_counts chunk _ many (scan_counts chunk removed forgotten)
part_counts chunk config heard s (Refuses req refusal over) many unasked well within = all_counts chunk _ many (said_counts chunk s req refusal)
part_counts chunk config heard s (AnswersCall req answer true) many unasked well within = short_counts chunk [] many refl within
part_counts chunk config heard s (AnswersCall req answer false) many unasked well within = short_counts chunk [] many refl within
part_counts chunk config heard s move many unasked well within = short_counts chunk (move_turn config s move).records many refl within

-- one that was born is there again
born_again : (chunk : ℕ) (first : Durable) (origin : List Edit) (config : Config) (heard : Heard) (u : State) (messages : List Message) (move : Move) (many : ℕ) (d : Durable) (log : Log) → WasHeard (Says chunk silent) heard → IsMadeWell config heard u move → many < length (move_turn config u move).records
    → replayed u.durable (take many (move_turn config u move).records) ≡ Some d → IsKept d → IsBornWithin chunk origin first u messages → IsBornWithin chunk origin first (restarted d log) []
unfolding nobody_whole
born_again chunk first origin config heard u messages move many d log was well within fit kept b =
    let now = heard_more chunk silent b.world (from_silent b.world) heard was in
    let live : AreLive nobody_whole b.world = λ j whole. absurd (false≢true whole) in
    let cut : IsCutAt config (IsMadeWell config heard) u (move_turn config u move) many = record {
      before = record { after = u; records = []; sent = []; said = None };
      move = move;
      many = many;
      chain = Rests_it u None;
      holds = well;
      within = within;
      stand = refl;
      doubt = refl;
    } in
    let f = cuts_follow b.birth.epoch chunk nobody_whole config heard u (move_turn config u move) many d log b.world live b.shows now cut fit kept in
    record {
      birth = b.birth;
      begins = b.begins;
      later = b.later;
      world = f.world;
      leads = leads_on (world_of b.birth) b.world f.world b.leads f.leads;
      masters = masters_on (world_of b.birth) b.world f.world b.leads f.leads b.masters f.masters;
      members = λ j. same_blank b.birth.epoch (b.world.members j) (f.world.members j) (b.members j) (f.members j);
      shows = f.shows;
      fresh = λ top past. stays_behind b.world f.world top (b.birth, b.leads) f.leads (b.fresh top past);
      tells = tt;
      brings = tt;
    }

cut_unborn : (chunk : ℕ) (config : Config) (heard : Heard) (s : State) (t : Turn) (place : ℕ) (d : Durable) (log : Log) (c : IsCutAt config (IsMadeWell config heard) s t place) → WasHeard (Says chunk silent) heard → replayed s.durable (take place t.records) ≡ Some d → IsKept d
    → GoesOnUnborn config heard chunk s c.before → IsUnbornAgain config heard chunk s (restarted d log)
cut_unborn chunk config heard s t place d log c was fit kept goes = by_way goes
  where
    part : List PlainEntry
    part = take c.many (move_turn config c.before.after c.move).records

    parts : AreSplit s.durable c.before.records part d
    parts = split c.before.records part s.durable d (ap (replayed s.durable) (sym c.stand) ∙ fit)

    left : c.before.after.durable ≡ parts.mid
    left = chain_leaves config heard (IsMadeWell config heard) (λ u move well. well.made.may) s c.before parts.mid c.chain parts.first

    rest : replayed c.before.after.durable part ≡ Some d
    rest = subst (λ m. replayed m part ≡ Some d) (sym left) parts.then

    counted : fin.get c.before.after.volatile.moving chunk ≡ None → IsCounted chunk c.before.after.durable d
    counted unasked = records_counted chunk part c.before.after.durable d (part_counts chunk config heard c.before.after c.move c.many unasked c.holds c.within) rest

    by_way : GoesOnUnborn config heard chunk s c.before → IsUnbornAgain config heard chunk s (restarted d log)
    by_way (inl stays) =
        let x = counted stays.unborn.unasked in
        inl (restarts_unborn chunk d log (subst IsNumber (sym x.version) stays.unborn.counter) (counted_ungiven chunk c.before.after.durable d x stays.unborn.ungiven), rises_both s.durable c.before.after.durable d stays.rises (counted_rises chunk c.before.after.durable d x))
    by_way (inr (inl born)) = inr (inl (born_again chunk s.durable [] config heard c.before.after c.before.sent c.move c.many d log was c.holds c.within rest kept born))
    by_way (inr (inr copied)) = inr (inr (record {
      before = copied.before;
      chain = copied.chain;
      old = copied.old;
      view = copied.view;
      may = copied.may;
      born = λ origin numbered. born_again chunk s.durable origin config heard c.before.after c.before.sent c.move c.many d log was c.holds c.within rest kept (copied.born origin numbered);
    }))

met_durable : (s : State) (event : Event) → (met_in s event).durable ≡ s.durable
met_durable s (Comes message moment) = refl
met_durable s (Ticks moment) = refl
met_durable s Renews = refl
met_durable s Restarts = refl

pub events_cut_go_unborn : EventsCutGoUnborn
events_cut_go_unborn chunk config s event place d log named heard steady within fit was k =
    let t = turn_of config s event in
    let came = heard_in event in
    let chain = (events_stand config s event named heard steady).chain in
    let c = cuts_are_beginnings (IsMadeWell config came) config (met_in s event) t place chain within in
    let fits : replayed (met_in s event).durable (take place t.records) ≡ Some d = subst (λ e. replayed e (take place t.records) ≡ Some d) (sym (met_durable s event)) fit in
    let kept = cuts_stand config came (met_in s event) t place d c (events_written config s event named heard steady).written fits in
    cut_unborn chunk config came (met_in s event) t place d log c was fits kept (chains_go_unborn chunk config came (met_in s event) c.before was c.chain (met_unborn chunk s event k))

-- ---- chains whose records can be written

pub written_chains_go_unborn : WrittenChainsGoUnborn
written_chains_go_unborn chunk config heard s t was chain written kept k = chains_go_unborn chunk config heard s t was (chains_stand config heard s t chain written kept).chain k

part_or_all : (many : ℕ) (xs : List PlainEntry) → (many < length xs) ⊎ (take many xs ≡ xs)
part_or_all zero [] = inr refl
part_or_all zero (x ∷ xs) = inl (omega arith)
part_or_all (suc many) [] = inr refl
part_or_all (suc many) (x ∷ xs) = one_more (part_or_all many xs)
  where
    one_more : (many < length xs) ⊎ (take many xs ≡ xs) → (suc many < length (x ∷ xs)) ⊎ (take (suc many) (x ∷ xs) ≡ x ∷ xs)
    one_more (inl less) = inl (omega arith)
    one_more (inr same) = inr (ap (λ ys. x ∷ ys) same)

-- all stands, and the master is started again
born_over : (chunk : ℕ) (first : Durable) (origin : List Edit) (u : State) (messages : List Message) (log : Log) → IsKept u.durable → IsBornWithin chunk origin first u messages → IsBornWithin chunk origin first (restarted u.durable log) []
unfolding nobody_whole
born_over chunk first origin u messages log kept b =
    let f = restarts_follow b.birth.epoch chunk nobody_whole u log b.world b.shows kept in
    record {
      birth = b.birth;
      begins = b.begins;
      later = b.later;
      world = f.world;
      leads = leads_on (world_of b.birth) b.world f.world b.leads f.leads;
      masters = masters_on (world_of b.birth) b.world f.world b.leads f.leads b.masters f.masters;
      members = λ j. same_blank b.birth.epoch (b.world.members j) (f.world.members j) (b.members j) (f.members j);
      shows = f.shows;
      fresh = λ top past. stays_behind b.world f.world top (b.birth, b.leads) f.leads (b.fresh top past);
      tells = tt;
      brings = tt;
    }

all_unborn : (chunk : ℕ) (config : Config) (heard : Heard) (s : State) (t : Turn) (log : Log) → IsKept t.after.durable → GoesOnUnborn config heard chunk s t → IsUnbornAgain config heard chunk s (restarted t.after.durable log)
all_unborn chunk config heard s t log kept (inl stays) = inl (restarts_unborn chunk t.after.durable log stays.unborn.counter stays.unborn.ungiven, stays.rises)
all_unborn chunk config heard s t log kept (inr (inl born)) = inr (inl (born_over chunk s.durable [] t.after t.sent log kept born))
all_unborn chunk config heard s t log kept (inr (inr copied)) = inr (inr (record {
  before = copied.before;
  chain = copied.chain;
  old = copied.old;
  view = copied.view;
  may = copied.may;
  born = λ origin numbered. born_over chunk s.durable origin t.after t.sent log kept (copied.born origin numbered);
}))

pub written_cuts_go_unborn : WrittenCutsGoUnborn
written_cuts_go_unborn chunk config heard s t many d log was chain written kept fit k = by_part (part_or_all many t.records)
  where
    well : IsChainWell config heard s t
    well = chains_stand config heard s t chain written kept

    by_part : (many < length t.records) ⊎ (take many t.records ≡ t.records) → IsUnbornAgain config heard chunk s (restarted d log)
    by_part (inl within) =
        let c = cuts_are_beginnings (IsMadeWell config heard) config s t many well.chain within in
        cut_unborn chunk config heard s t many d log c was fit (cuts_stand config heard s t many d c written fit) (chains_go_unborn chunk config heard s c.before was c.chain k)
    by_part (inr all) =
        let left = chain_leaves config heard (IsMadeWell config heard) (λ u move made. made.made.may) s t d well.chain (ap (replayed s.durable) (sym all) ∙ fit) in
        subst (λ e. IsUnbornAgain config heard chunk s (restarted e log)) left (all_unborn chunk config heard s t log well.behind (chains_go_unborn chunk config heard s t was well.chain k))
