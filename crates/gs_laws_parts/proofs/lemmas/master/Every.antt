-- Every move is some events of the machine of each chunk: so is every chain, also where it is cut, and every event.
use Rattle.std.proofs.Common.{◌≡◌, ◌∙◌, ◌&&◌, ℕ, ◌<◌, ◌≤◌, ◌⊎◌, inl, inr, arith, Bool, true, false, List, [], ◌∷◌, length, None, Some, refl, ap, sym, subst}
use Rattle.std.specs.Prelude.{is_some, nat_lt, take}
use Rattle.std.proofs.lemmas.Bool.Decides.{nat_tests}
use Rattle.gs_master_record.specs.Plain.{PlainEntry}
use Rattle.std.specs.List.{list_all}
use Rattle.std.proofs.lemmas.Bool.{false≢true, and_parts}
use Rattle.gs_base.specs.declared.config.Config.{Config}
use Rattle.gs_msg.specs.declared.body.Body.{Body}
use Rattle.gs_msg.specs.declared.body.Body.TheVariants as bodies
use Rattle.gs_msg.specs.declared.chunk.Chunk.{Chunk as About}
use Rattle.gs_msg.specs.declared.chunk.Chunk.TheVariants as abouts
use Rattle.gs_msg.specs.declared.message.Message.{Message}
use Rattle.gs_master_spec.specs.Applied.{replayed}
use Rattle.gs_master_spec.specs.Durable.{Durable}
use Rattle.gs_master_spec.specs.Handling.{granted, pressed, proposals, restarted}
use Rattle.gs_master_spec.specs.State.{State, Log, and_then, for_each}
use Rattle.gs_laws_master.specs.Promises.{IsKept}
use Rattle.gs_laws_master.specs.Standing.{Event, Comes, Ticks, Renews, Restarts, turn_of}
use Rattle.gs_laws_master.proofs.lemmas.telling.Writing.{events_written}
use Rattle.gs_laws_moves.proofs.lemmas.moves.Fitting.{chain_leaves, cuts_are_beginnings}
use Rattle.gs_laws_moves.proofs.lemmas.moves.Made.{ticks_are_chains}
use Rattle.gs_laws_moves.proofs.lemmas.moves.Stands.{chains_stand, cuts_stand, events_stand}
use Rattle.gs_laws_moves.specs.moves.Asked.{WasHeard}
use Rattle.gs_laws_moves.specs.moves.Guards.{Heard, ask_nobody, asks_nobody, asks_nobody_about}
use Rattle.gs_laws_moves.specs.moves.Laws.{IsChainWell, IsMadeWell, heard_in, met_in}
use Rattle.gs_laws_moves.specs.moves.Moves.{Begins, Makes, Copies, Hears, Sends, Settles, Scans, Waits, Restores, Says as Says_it, Flags, Prepares, Finalizes, BeginsRollback, TellsRollback, CommitsRollback, Move, move_turn}
use Rattle.gs_laws_chunk.specs.machine.Laws.{IsReached}
use Rattle.gs_laws_chunk.specs.machine.Machine.{ChunkWorld}
use Rattle.gs_laws_chunk.specs.machine.Events.{Rests}
use Rattle.gs_laws_parts.specs.master.Chains.{ChainsFollow, CutsFollow, EventsCutFollow, EventsFollow, MovesFollow, MovesFollowAs, PartsFollow, RestartsFollow, TicksFollow, WrittenChainsFollow}
use Rattle.gs_laws_parts.specs.master.Laws.{Reaches, is_plain, is_plain_about, is_plain_message}
use Rattle.gs_laws_parts.specs.master.Single.{FollowsAs, IsUnmoved}
use Rattle.gs_laws_parts.specs.master.Telling.{FollowsMaster, Says, Shows}
use Rattle.gs_laws_parts.proofs.lemmas.master.Marking.{same_epoch}
use Rattle.gs_laws_parts.proofs.lemmas.master.Beginning.{all_proposals_follow}
use Rattle.gs_laws_parts.proofs.lemmas.master.Chaining.{both_follow, chain_follows, lives_on}
use Rattle.gs_laws_parts.proofs.lemmas.master.Committing.{commits_follow}
use Rattle.gs_laws_parts.proofs.lemmas.master.Cutting.{again, cut_follows, part_reached, settles_cut, started_again}
use Rattle.gs_laws_parts.proofs.lemmas.master.Ending.{fading_moves_follow}
use Rattle.gs_laws_parts.proofs.lemmas.master.Preparing.{prepares_follow}
use Rattle.gs_laws_parts.proofs.lemmas.master.Restarting.{restarts_reach}
use Rattle.gs_laws_parts.proofs.lemmas.master.Scanning.{scans_cut_reach}
use Rattle.gs_laws_parts.proofs.lemmas.master.Sending.{heard_more}
use Rattle.gs_laws_parts.proofs.lemmas.master.Settling.{settlings_follow}
use Rattle.gs_laws_parts.proofs.lemmas.master.Simple.{simple_moves_follow}

-- ---- what is said beside other moves proposes nothing

plain_about : (said : About) → asks_nobody_about said ≡ true → is_plain_about said ≡ true
plain_about (abouts.Create stamp) asks = absurd (false≢true asks)
plain_about (abouts.Advance stamp) asks = absurd (false≢true asks)
plain_about said asks = refl

plain : (body : Body) → asks_nobody body ≡ true → is_plain body ≡ true
plain (bodies.About chunk said) asks = plain_about said asks
plain (bodies.MakeCopy old at new stamp) asks = absurd (false≢true asks)
plain body asks = refl

all_plain : (messages : List Message) → ask_nobody messages ≡ true → list_all is_plain_message messages ≡ true
all_plain [] asks = refl
all_plain (m ∷ messages) asks =
    let parts = and_parts (asks_nobody m.body) (ask_nobody messages) asks in ap (λ b. b && list_all is_plain_message messages) (plain m.body parts.0) ∙ all_plain messages parts.1

-- ---- each move

-- where it leaves the view
unmoved : (born chunk : ℕ) (whole : ℕ → Bool) (w : ChunkWorld) (u : State) (messages : List Message) → FollowsAs born chunk whole w u messages (IsUnmoved w) → FollowsAs born chunk whole w u messages (λ v. IsReached w → IsUnmoved w v)
unmoved born chunk whole w u messages f = record { follows = f.follows; leaves = λ reached. f.leaves }

pub moves_follow_as : MovesFollowAs
moves_follow_as born chunk whole config heard s (Begins q purpose call beside) w live k was well = unmoved born chunk whole w _ _ (all_proposals_follow born chunk whole config heard s (Begins q purpose call beside) w refl k was well.made)
moves_follow_as born chunk whole config heard s (Makes targets req path) w live k was well = unmoved born chunk whole w _ _ (all_proposals_follow born chunk whole config heard s (Makes targets req path) w refl k was well.made)
moves_follow_as born chunk whole config heard s (Copies old view req beside) w live k was well = unmoved born chunk whole w _ _ (all_proposals_follow born chunk whole config heard s (Copies old view req beside) w refl k was well.made)
moves_follow_as born chunk whole config heard s (Settles q asking carried view) w live k was well = (let f = settlings_follow born chunk whole config heard s q asking carried view w k was well.made in record { follows = f.follows; leaves = λ reached. f.leaves })
moves_follow_as born chunk whole config heard s (Says_it messages) w live k was well = unmoved born chunk whole w _ _ (simple_moves_follow born chunk whole config heard s (Says_it messages) w (all_plain messages well.made.may.1) k was well.made)
moves_follow_as born chunk whole config heard s (Prepares req moment) w live k was well = unmoved born chunk whole w _ _ (prepares_follow born chunk whole config heard s req moment w live well.before k was well.made)
moves_follow_as born chunk whole config heard s (CommitsRollback req names) w live k was well = commits_follow born chunk whole config heard s req names w k was well
moves_follow_as born chunk whole config heard s (Hears q asking) w live k was well = unmoved born chunk whole w _ _ (simple_moves_follow born chunk whole config heard s (Hears q asking) w refl k was well.made)
moves_follow_as born chunk whole config heard s (Sends q asking source target) w live k was well = unmoved born chunk whole w _ _ (simple_moves_follow born chunk whole config heard s (Sends q asking source target) w refl k was well.made)
moves_follow_as born chunk whole config heard s (Waits req waiting) w live k was well = unmoved born chunk whole w _ _ (simple_moves_follow born chunk whole config heard s (Waits req waiting) w refl k was well.made)
moves_follow_as born chunk whole config heard s (Restores server chunks) w live k was well = unmoved born chunk whole w _ _ (simple_moves_follow born chunk whole config heard s (Restores server chunks) w refl k was well.made)
moves_follow_as born chunk whole config heard s (Flags req preparing epoch) w live k was well = unmoved born chunk whole w _ _ (simple_moves_follow born chunk whole config heard s (Flags req preparing epoch) w refl k was well.made)
moves_follow_as born chunk whole config heard s (Finalizes req) w live k was well = unmoved born chunk whole w _ _ (simple_moves_follow born chunk whole config heard s (Finalizes req) w refl k was well.made)
moves_follow_as born chunk whole config heard s BeginsRollback w live k was well = unmoved born chunk whole w _ _ (simple_moves_follow born chunk whole config heard s BeginsRollback w refl k was well.made)
moves_follow_as born chunk whole config heard s (TellsRollback req epoch) w live k was well = unmoved born chunk whole w _ _ (simple_moves_follow born chunk whole config heard s (TellsRollback req epoch) w refl k was well.made)
moves_follow_as born chunk whole config heard s move w live k was well = unmoved born chunk whole w _ _ (fading_moves_follow born chunk whole config heard s move w refl k was well)

pub moves_follow : MovesFollow
moves_follow born chunk whole config heard s move w live k was well = (moves_follow_as born chunk whole config heard s move w live k was well).follows

-- ---- chains

pub chains_follow : ChainsFollow
chains_follow born chunk whole config heard s t w live k was chain =
    chain_follows born chunk whole config heard (IsMadeWell config heard) (λ u move v well shown said lives. moves_follow born chunk whole config heard u move v lives shown said well) s t w chain k was live

part_restarts : (born chunk : ℕ) (whole : ℕ → Bool) (config : Config) (heard : Heard) (s : State) (move : Move) (many : ℕ) (d : Durable) (log : Log) (w : ChunkWorld) → IsMadeWell config heard s move → Shows chunk s w → WasHeard (Says chunk w) heard
    → many < length (move_turn config s move).records → IsKept d → replayed s.durable (take many (move_turn config s move).records) ≡ Some d → Reaches chunk w (restarted d log)
part_restarts born chunk whole config heard s (Settles q asking carried view) many d log w well k was within kept fit =
    started_again chunk w d log kept (settles_cut born chunk whole config heard s w k was q asking carried view many d well.made within fit)
part_restarts born chunk whole config heard s (Scans removed forgotten) many d log w well k was within kept fit = scans_cut_reach chunk config s removed forgotten many d log w well.before fit k.entry
part_restarts born chunk whole config heard s move many d log w well k was within kept fit = started_again chunk w d log kept (part_reached born chunk whole config heard s w k was move many d refl within fit)

pub cuts_follow : CutsFollow
cuts_follow born chunk whole config heard s t place d log w live k was c fit kept =
    cut_follows born chunk whole config heard (IsMadeWell config heard) (λ u move v well shown said lives. moves_follow born chunk whole config heard u move v lives shown said well)
    (part_restarts born chunk whole config heard) (λ u move well. well.made.may) s t place d log w c fit kept k was live

pub written_chains_follow : WrittenChainsFollow
written_chains_follow born chunk whole config heard s t w live k was kept written chain = chains_follow born chunk whole config heard s t w live k was (chains_stand config heard s t chain written kept).chain

-- ---- restarts

still_follows : (born chunk : ℕ) (whole : ℕ → Bool) (s : State) (w : ChunkWorld) → Shows chunk s w → FollowsMaster born chunk whole w s []
still_follows born chunk whole s w k = record { world = w; leads = Rests; masters = tt; members = λ j. inl refl; marks = same_epoch whole w w refl; stays = λ x there. there; shows = k; tells = tt }

pub restarts_follow : RestartsFollow
unfolding still_follows
restarts_follow born chunk whole s log w k kept = again born chunk whole w s [] (still_follows born chunk whole s w k) s.durable log (restarts_reach chunk s.durable log w kept k.entry.durable)

-- some of the records, or all
more_or_all : (many all : ℕ) → many ≤ all → (many < all) ⊎ (many ≡ all)
more_or_all many all within = by_test (nat_lt many all) refl
  where
    by_test : (b : Bool) → nat_lt many all ≡ b → (many < all) ⊎ (many ≡ all)
    by_test true is = inl (grind (arith, nat_tests))
    by_test false is = inr (grind (arith, nat_tests))

take_all : (xs : List PlainEntry) → take (length xs) xs ≡ xs
take_all [] = refl
take_all (x ∷ xs) = ap (λ l. x ∷ l) (take_all xs)

pub parts_follow : PartsFollow
parts_follow born chunk whole config heard s t many d log w live k was kept written chain within fit = by_place (more_or_all many (length t.records) within)
  where
    well : IsChainWell config heard s t
    well = chains_stand config heard s t chain written kept

    by_place : (many < length t.records) ⊎ (many ≡ length t.records) → FollowsMaster born chunk whole w (restarted d log) []
    by_place (inl part) =
        let c = cuts_are_beginnings (IsMadeWell config heard) config s t many well.chain part in
        cuts_follow born chunk whole config heard s t many d log w live k was c fit (cuts_stand config heard s t many d c written fit)
    by_place (inr all) =
        let f = chains_follow born chunk whole config heard s t w live k was well.chain in
        let whole_fit : replayed s.durable t.records ≡ Some d = ap (replayed s.durable) (sym (ap (λ n. take n t.records) all ∙ take_all t.records)) ∙ fit in
        let same = chain_leaves config heard (IsMadeWell config heard) (λ u move made. made.made.may) s t d well.chain whole_fit in
        subst (λ e. FollowsMaster born chunk whole w (restarted e log) []) same (again born chunk whole w t.after t.sent f t.after.durable log (restarts_reach chunk t.after.durable log f.world well.behind f.shows.entry.durable))

-- ---- events

met_follows : (born chunk : ℕ) (whole : ℕ → Bool) (s : State) (event : Event) (w : ChunkWorld) → Shows chunk s w → IsKept s.durable → FollowsMaster born chunk whole w (met_in s event) []
met_follows born chunk whole s (Comes message moment) w k kept = still_follows born chunk whole s w k
met_follows born chunk whole s (Ticks moment) w k kept = still_follows born chunk whole s w k
met_follows born chunk whole s Renews w k kept = still_follows born chunk whole s w k
met_follows born chunk whole s Restarts w k kept = restarts_follow born chunk whole s s.log w k kept

met_durable : (s : State) (event : Event) → (met_in s event).durable ≡ s.durable
met_durable s (Comes message moment) = refl
met_durable s (Ticks moment) = refl
met_durable s Renews = refl
met_durable s Restarts = refl

pub events_follow : EventsFollow
events_follow born chunk whole config s event w named heard steady live k was =
    let f = met_follows born chunk whole s event w k steady.firm.stands.kept in
    both_follow born chunk whole w (met_in s event) (turn_of config s event).after [] (turn_of config s event).sent f
    (chains_follow born chunk whole config (heard_in event) (met_in s event) (turn_of config s event) f.world (lives_on born chunk whole w (met_in s event) [] f live) f.shows (heard_more chunk w f.world f.stays (heard_in event) was)
    (events_stand config s event named heard steady).chain)

pub ticks_follow : TicksFollow
ticks_follow born chunk whole config s moment w firm fit written live k =
    let t = and_then (for_each s (proposals s) (pressed moment)) granted in
    written_chains_follow born chunk whole config None s t w live k (λ server body none. absurd (false≢true (ap is_some none))) firm.stands.kept written (ticks_are_chains config s moment firm fit)

pub events_cut_follow : EventsCutFollow
events_cut_follow born chunk whole config s event place d log w named heard steady within fit live k was =
    let t = turn_of config s event in
    let f = met_follows born chunk whole s event w k steady.firm.stands.kept in
    let chain = (events_stand config s event named heard steady).chain in
    let c = cuts_are_beginnings (IsMadeWell config (heard_in event)) config (met_in s event) t place chain within in
    let met = met_durable s event in
    let fits : replayed (met_in s event).durable (take place t.records) ≡ Some d = subst (λ e. replayed e (take place t.records) ≡ Some d) (sym met) fit in
    let kept = cuts_stand config (heard_in event) (met_in s event) t place d c (events_written config s event named heard steady).written fits in
    both_follow born chunk whole w (met_in s event) (restarted d log) [] [] f
    (cuts_follow born chunk whole config (heard_in event) (met_in s event) t place d log f.world (lives_on born chunk whole w (met_in s event) [] f live) f.shows (heard_more chunk w f.world f.stays (heard_in event) was) c fits kept)
