-- All chunks of a master together, with their rows, where a turn of it is cut: so many of its records stand, and it is started again on them.
use Rattle.std.proofs.Common.{◌≡◌, ◌∙◌, ◌&&◌, ◌||◌, ◌+◌, ◌-◌, ◌<◌, ◌≤◌, ◌⊎◌, ◌++◌, ℕ, zero, suc, Bool, true, false, List, [], ◌∷◌, length, Option, Some, None, refl, sym, ap, subst, inl, inr, arith}
use Rattle.std.specs.Prelude.{Contains, if◌then◌else◌, is_some, map, nat_le, nat_lt, option_and_then, take}
use Rattle.std.specs.FinMap as fin
use Rattle.std.specs.List.{AllByRecursion, list_all}
use Rattle.std.proofs.lemmas.Bool.{and_parts, false≢true, true≢false}
use Rattle.std.proofs.lemmas.Bool.Decides.{nat_tests}
use Rattle.std.proofs.Math.Seq.{take-append-add}
use Rattle.std.proofs.lemmas.List.{length-append, take-append-le, take_all}
use Rattle.gs_base.specs.Members.{is_member}
use Rattle.gs_base.specs.Told.{IsNumber}
use Rattle.gs_base.specs.declared.config.Config.{Config}
use Rattle.gs_base.specs.declared.numbers.ReqId.{ReqId}
use Rattle.gs_base.specs.declared.refusal.Refusal.{Refusal}
use Rattle.gs_laws_chunk.proofs.lemmas.machine.Facts.{reached_world}
use Rattle.gs_laws_chunk.proofs.lemmas.machine.Lasting.{agrees}
use Rattle.gs_laws_chunk.specs.machine.Laws.{IsReached, world_of}
use Rattle.gs_laws_chunk.specs.machine.Machine.{ChunkWorld}
use Rattle.gs_laws_chunk.specs.machine.Machine as machine
use Rattle.gs_lease.specs.declared.view.View.{View}
use Rattle.gs_msg.specs.declared.body.Body.{Body}
use Rattle.gs_msg.specs.declared.body.Body.TheVariants as bodies
use Rattle.gs_msg.specs.declared.message.Message.{Message}
use Rattle.gs_msg.specs.declared.node.NodeId.{NodeId}
use Rattle.gs_msg.specs.declared.node.NodeId.TheVariants as nodes
use Rattle.gs_laws_parts.proofs.lemmas.master.Calm.{AloneFamily, AloneIn, CalmIn, each_closing, each_made, families_alone, families_calm, families_close, none_commits, unmoved_unled}
use Rattle.gs_laws_parts.proofs.lemmas.master.Cutting.{has_many, part_reached, settles_cut, started_again}
use Rattle.gs_laws_parts.proofs.lemmas.master.Ending.{answer_both, scan_keeps}
use Rattle.gs_laws_parts.proofs.lemmas.master.Fading.{Keeps, fades, records_fade}
use Rattle.gs_laws_parts.proofs.lemmas.master.Families.{bare_both, families_both, family_hears, family_lists, family_marks, family_still, from_both, goes_both}
use Rattle.gs_laws_parts.proofs.lemmas.master.Leaving.{rises_itself}
use Rattle.gs_laws_parts.proofs.lemmas.master.Marking.{same_epoch}
use Rattle.gs_laws_parts.proofs.lemmas.master.Restarting.{restarts_reach}
use Rattle.gs_laws_parts.proofs.lemmas.master.Rowing.{rows_back, rows_born, rows_go}
use Rattle.gs_laws_parts.proofs.lemmas.master.Scanning.{scans_cut_reach}
use Rattle.gs_laws_parts.proofs.lemmas.master.Sending.{leads_on, masters_on}
use Rattle.gs_laws_parts.proofs.lemmas.master.Unborn.{IsCounted, counted_rises, counted_ungiven, counts_on, other_than, records_counted, restarts_unborn, scan_counts, settle_counts}
use Rattle.gs_laws_parts.specs.master.Families.{Alive, BornBare, BornFrom, ComesFrom, CopiesTo, Family, FamilyGoes, Goes, HeardOf, IsAlive, Life, MarksOf, Unborn, birth_of, is_kept}
use Rattle.gs_laws_parts.specs.master.Laws.{Reaches}
use Rattle.gs_laws_parts.specs.master.Rows.{AreCopiedSince, CopiesSince, FamilyRows, RowsGo, RowsIn}
use Rattle.gs_laws_parts.specs.master.Showing.{Rises, ShowsDurable}
use Rattle.gs_laws_parts.specs.master.Single.{AsOf, IsCommitted, IsUnmoved}
use Rattle.gs_laws_parts.specs.master.Telling.{MastersTell, Says, Shows}
use Rattle.gs_laws_parts.specs.master.Unborn.{IsUnborn, SaysNothing}
use Rattle.gs_laws_master.proofs.lemmas.upgrades.Beginnings.{fits_gives}
use Rattle.gs_laws_master.specs.Promises.{IsKept}
use Rattle.gs_laws_moves.proofs.lemmas.moves.Asked.{starts_so}
use Rattle.gs_laws_moves.proofs.lemmas.moves.Epochs.{epochs_go, within_stays}
use Rattle.gs_laws_moves.proofs.lemmas.moves.Fitting.{chain_leaves, cuts_are_beginnings, split}
use Rattle.gs_laws_moves.proofs.lemmas.moves.Phases.{commits_by, followed_none, prepares_by, same_commits_none, same_prepares_none}
use Rattle.gs_laws_moves.proofs.lemmas.moves.Rows.{rows_go_over}
use Rattle.gs_laws_moves.specs.moves.Asked.{WasHeard}
use Rattle.gs_laws_moves.specs.moves.Epochs.{ByItself, Closes, EndsOnce, EpochGoes, IsSameEpoch, Stays, Within, closes, is_alone, is_followed, prepares, rolls_back}
use Rattle.gs_laws_moves.specs.moves.Guards.{Heard, MayPrepare}
use Rattle.gs_laws_moves.specs.moves.Laws.{IsMadeWell}
use Rattle.gs_laws_moves.specs.moves.Moved.{is_commit}
use Rattle.gs_laws_moves.specs.moves.Moves.{Alone, Answers as AnswersCall, Begins, Chain, CommitsRollback, Copies, FromNow, Further, Move, BeginsRollback, Moves, Refuses, Scans, Settles, Then, move_turn}
use Rattle.gs_laws_moves.specs.moves.Rows.{RowGoes}
use Rattle.gs_msg.specs.declared.answer.Answer.TheVariants as answers
use Rattle.gs_master_record.specs.Plain.{Edited, Holder, PlainEdit, PlainEntry, Said, Settle}
use Rattle.gs_master_spec.specs.Settling.{own_request}
use Rattle.gs_master_spec.specs.Volatile.{changed}
use Rattle.gs_master_spec.specs.Working.{scan_edits}
use Rattle.gs_master_spec.specs.declared.change.Change.TheVariants as changes
use Rattle.gs_master_spec.specs.Applied.{applied, replayed}
use Rattle.gs_master_spec.specs.Chunks.{has_entry, holder_records, is_holder, target_of}
use Rattle.gs_master_spec.specs.Durable.{Durable, Settled, is_given, is_listed, is_ordinary, is_rolling, is_upgrade, prepared_view}
use Rattle.gs_master_spec.specs.Handling.{restarted}
use Rattle.gs_master_spec.specs.State.{Log, State, Turn, fits, joined, keeps_refusal, said_records}
use Rattle.gs_replica.specs.Stands.{Edit}
use Rattle.gs_laws_lift.specs.stores.Left.{AreReplies, IsReply}

durable_is : {a b : Durable} → ◌≡◌ {A = Option Durable} (Some a) (Some b) → a ≡ b
durable_is k = cc

-- ---- replies say nothing of chunks

-- what holds of each reply
pub replies_so : (P : Message → Type 0) → ((m : Message) → IsReply m.body → P m) → (messages : List Message) → AreReplies messages → AllByRecursion P messages
replies_so P each [] all = tt
replies_so P each (m ∷ messages) all = (each m all.0, replies_so P each messages all.1)

reply_tells : (born chunk : ℕ) (w : ChunkWorld) (m : Message) → IsReply m.body → MastersTell born chunk w m
reply_tells born chunk w m is = by_body m.body is
  where
    by_body : (body : Body) → IsReply body → MastersTell born chunk w (record { from = m.from; to = m.to; body = body })
    by_body (bodies.Reply req result) is = tt
    by_body body is = absurd is

reply_says : (chunk epoch : ℕ) (m : Message) → IsReply m.body → SaysNothing chunk epoch m
reply_says chunk epoch m is = by_body m.body is
  where
    by_body : (body : Body) → IsReply body → SaysNothing chunk epoch (record { from = m.from; to = m.to; body = body })
    by_body (bodies.Reply req result) is = tt
    by_body body is = absurd is

reply_copied : (chunk : ℕ) (d : Durable) (low : ℕ) (was : Bool) (w : ChunkWorld) (m : Message) → IsReply m.body → CopiesSince chunk d low was w m.body
reply_copied chunk d low was w m is = by_body m.body is
  where
    by_body : (body : Body) → IsReply body → CopiesSince chunk d low was w body
    by_body (bodies.Reply req result) is = tt
    by_body body is = absurd is

reply_copies : (s : State) (family : Family s) (to : NodeId) (body : Body) → IsReply body → CopiesTo s family to body
reply_copies s family to (bodies.Reply req result) is = by_to to
  where
    by_to : (to : NodeId) → CopiesTo s family to (bodies.Reply req result)
    by_to (nodes.Server me) = tt
    by_to to = tt
reply_copies s family to body is = absurd is

-- ---- a part of one move

-- the rows, the names, the replies, and what tells of epochs stay
pub record IsLinked (u d : Durable) : Type 0 where
  pub epoch : d.epoch ≡ u.epoch
  pub phase : d.phase ≡ u.phase
  pub handle : d.next_handle ≡ u.next_handle
  pub listed : (chunk : ℕ) → is_listed d chunk ≡ is_listed u chunk
  pub rows : (chunk : ℕ) → fin.get d.chunks chunk ≡ fin.get u.chunks chunk
  pub replies : d.replies ≡ u.replies
  pub names : d.names ≡ u.names

pub linked_still : (u d : Durable) → u ≡ d → IsLinked u d
linked_still u d same = subst (IsLinked u) same (record { epoch = refl; phase = refl; handle = refl; listed = λ chunk. refl; rows = λ chunk. refl; replies = refl; names = refl })

-- who took an image changes nothing else
holds_others : (d next : Durable) (q : ℕ) (b : Bool) (target : Option ℕ) → replayed d (holder_records b q target) ≡ Some next → next ≡ record d { prepared = next.prepared }
unfolding applied
holds_others d next q b None fit = subst (λ (x : Durable). x ≡ record d { prepared = x.prepared }) (durable_is fit) refl
holds_others d next q false (Some server) fit = subst (λ (x : Durable). x ≡ record d { prepared = x.prepared }) (durable_is fit) refl
holds_others d next q true (Some server) fit = by_gives (applied d (Holder q server)) refl fit
  where
    others : (e : Durable) → applied d (Holder q server) ≡ Some e → e ≡ record d { prepared = e.prepared }
    others e is = subst (λ (x : Durable). x ≡ record d { prepared = x.prepared }) (fits_gives _ _ e is).1 refl

    by_gives : (o : Option Durable) → applied d (Holder q server) ≡ o → option_and_then (λ n. replayed n []) o ≡ Some next → next ≡ record d { prepared = next.prepared }
    by_gives None is h = absurd (false≢true (ap is_some h))
    by_gives (Some e) is h = subst (λ (x : Durable). x ≡ record d { prepared = x.prepared }) (durable_is h) (others e is)

linked_holds : (d next : Durable) (q : ℕ) (b : Bool) (target : Option ℕ) → replayed d (holder_records b q target) ≡ Some next → IsLinked d next
linked_holds d next q b target fit =
    let others = holds_others d next q b target fit in record {
      epoch = ap (λ (x : Durable). x.epoch) others;
      phase = ap (λ (x : Durable). x.phase) others;
      handle = ap (λ (x : Durable). x.next_handle) others;
      listed = λ chunk. ap (λ (x : Durable). is_listed x chunk) others;
      rows = λ chunk. ap (λ (x : Durable). fin.get x.chunks chunk) others;
      replies = ap (λ (x : Durable). x.replies) others;
      names = ap (λ (x : Durable). x.names) others;
    }

counts_taken : (chunk : ℕ) (xs : List PlainEntry) (many : ℕ) → list_all (counts_on chunk) xs ≡ true → list_all (counts_on chunk) (take many xs) ≡ true
counts_taken chunk xs zero all = refl
counts_taken chunk [] (suc many) all = refl
counts_taken chunk (x ∷ xs) (suc many) all = (let parts = and_parts (counts_on chunk x) (list_all (counts_on chunk) xs) all in ap (λ b. b && list_all (counts_on chunk) (take many xs)) parts.0 ∙ counts_taken chunk xs many parts.1)

-- of a view that is settled nothing, or who took the image
some_taken : (b : Bool) (q : ℕ) (target : Option ℕ) (view : View) (many : ℕ) → many < length (holder_records b q target ++ Settle (record { handle = q; view = view }) ∷ [])
    → (take many (holder_records b q target ++ Settle (record { handle = q; view = view }) ∷ []) ≡ []) ⊎ (take many (holder_records b q target ++ Settle (record { handle = q; view = view }) ∷ []) ≡ holder_records b q target)
some_taken b q None view zero within = inl refl
some_taken b q None view (suc many) within = absurd (omega arith)
some_taken false q (Some server) view zero within = inl refl
some_taken false q (Some server) view (suc many) within = absurd (omega arith)
some_taken true q (Some server) view zero within = inl refl
some_taken true q (Some server) view (suc zero) within = inr refl
some_taken true q (Some server) view (suc (suc many)) within = absurd (omega arith)

-- all other moves have one record at most
is_short : List PlainEntry → Bool
is_short [] = true
is_short (x ∷ []) = true
is_short (x ∷ y ∷ xs) = false

none_taken : (xs : List PlainEntry) (many : ℕ) → is_short xs ≡ true → many < length xs → take many xs ≡ []
unfolding is_short
none_taken [] many short within = absurd (omega arith)
none_taken (x ∷ []) zero short within = refl
none_taken (x ∷ []) (suc many) short within = absurd (omega arith)
none_taken (x ∷ y ∷ xs) many short within = absurd (false≢true short)

said_short : (s : State) (req : ReqId) (refusal : Refusal) → is_short (said_records (keeps_refusal s req refusal) s.log req refusal) ≡ true
unfolding is_short
said_short s req refusal = by_test (keeps_refusal s req refusal && fits s.log (Said req refusal ∷ []))
  where
    by_test : (b : Bool) → is_short (if b then Said req refusal ∷ [] else []) ≡ true
    by_test true = refl
    by_test false = refl

short_records : (config : Config) (s : State) (move : Move) → has_many move ≡ false → is_short (move_turn config s move).records ≡ true
unfolding is_short
short_records config s (Begins q purpose call Alone) few = refl
short_records config s (Begins q purpose call (FromNow req waiting)) few = refl
short_records config s (Begins q purpose call (Further req waiting)) few = refl
short_records config s (Copies old view req Alone) few = refl
short_records config s (Copies old view req (FromNow by waiting)) few = refl
short_records config s (Copies old view req (Further by waiting)) few = refl
short_records config s (Refuses req refusal over) few = said_short s req refusal
short_records config s (AnswersCall req answer true) few = refl
short_records config s (AnswersCall req answer false) few = refl
short_records config s (Settles q asking carried view) few = absurd (false≢true (sym few))
short_records config s (Scans removed forgotten) few = absurd (false≢true (sym few))
short_records config s move few = refl

-- a record that tells who took an image tells nothing else
abbrev pub is_silent : PlainEntry → Bool
is_silent (Holder q server) = true
is_silent entry = false

holders_silent : (b : Bool) (q : ℕ) (target : Option ℕ) → list_all is_silent (holder_records b q target) ≡ true
holders_silent b q None = refl
holders_silent false q (Some server) = refl
holders_silent true q (Some server) = refl

-- a scan alone takes rows and names out
abbrev pub is_scan : Move → Bool
is_scan (Scans removed forgotten) = true
is_scan move = false

module _ (config : Config) (heard : Heard) (u : State) (d : Durable) where
  -- some records of a move, but not all
  module _ (many : ℕ) where
    abbrev pub IsPartOf : Move → Type 0
    IsPartOf move = (many < length (move_turn config u move).records) × (replayed u.durable (take many (move_turn config u move).records) ≡ Some d)

    pub short_part : (move : Move) → has_many move ≡ false → IsPartOf move → u.durable ≡ d
    short_part move few (within, fit) = durable_is (sym (ap (replayed u.durable) (none_taken (move_turn config u move).records many (short_records config u move few) within)) ∙ fit)

    pub part_links : (move : Move) → is_scan move ≡ false → IsPartOf move → IsLinked u.durable d
    part_links (Settles q asking carried view) other (within, fit) = by_taken (some_taken holds q (target_of asking.purpose) view many within)
      where
        holds : Bool
        holds = is_holder u.durable.phase (prepared_view u.durable q) carried asking view

        all : List PlainEntry
        all = (move_turn config u (Settles q asking carried view)).records

        by_taken : (take many all ≡ []) ⊎ (take many all ≡ holder_records holds q (target_of asking.purpose)) → IsLinked u.durable d
        by_taken (inl none) = linked_still u.durable d (durable_is (sym (ap (replayed u.durable) none) ∙ fit))
        by_taken (inr part) = linked_holds u.durable d q holds (target_of asking.purpose) (sym (ap (replayed u.durable) part) ∙ fit)
    part_links (Scans removed forgotten) other part = absurd (false≢true (sym other))
    part_links move other part = linked_still u.durable d (short_part move refl part)

    -- its records are none, or tell who took the image
    pub part_silent : (move : Move) → is_scan move ≡ false → IsPartOf move → list_all is_silent (take many (move_turn config u move).records) ≡ true
    part_silent (Settles q asking carried view) other (within, fit) = by_taken (some_taken holds q (target_of asking.purpose) view many within)
      where
        holds : Bool
        holds = is_holder u.durable.phase (prepared_view u.durable q) carried asking view

        all : List PlainEntry
        all = (move_turn config u (Settles q asking carried view)).records

        by_taken : (take many all ≡ []) ⊎ (take many all ≡ holder_records holds q (target_of asking.purpose)) → list_all is_silent (take many all) ≡ true
        by_taken (inl none) = ap (list_all is_silent) none
        by_taken (inr part) = ap (list_all is_silent) part ∙ holders_silent holds q (target_of asking.purpose)
    part_silent (Scans removed forgotten) other part = absurd (false≢true (sym other))
    part_silent move other (within, fit) = ap (list_all is_silent) (none_taken (move_turn config u move).records many (short_records config u move refl) within)

    part_reaches : (chunk : ℕ) (log : Log) (w : ChunkWorld) (move : Move) → IsMadeWell config heard u move → IsKept d → IsPartOf move → Shows chunk u w → WasHeard (Says chunk w) heard → Reaches chunk w (restarted d log)
    part_reaches chunk log w (Settles q asking carried view) well kept (within, fit) k was =
        started_again chunk w d log kept (settles_cut 0 chunk (λ server. false) config heard u w k was q asking carried view many d well.made within fit)
    part_reaches chunk log w (Scans removed forgotten) well kept (within, fit) k was = scans_cut_reach chunk config u removed forgotten many d log w well.before fit k.entry
    part_reaches chunk log w move well kept (within, fit) k was = started_again chunk w d log kept (part_reached 0 chunk (λ server. false) config heard u w k was move many d refl within fit)

    part_counted : (chunk : ℕ) (move : Move) → fin.get u.volatile.moving chunk ≡ None → IsMadeWell config heard u move → IsPartOf move → IsCounted chunk u.durable d
    part_counted chunk (Settles q asking carried view) unasked well (within, fit) =
        records_counted chunk (take many (move_turn config u (Settles q asking carried view)).records) u.durable d
        (counts_taken chunk (move_turn config u (Settles q asking carried view)).records many (settle_counts chunk (is_holder u.durable.phase (prepared_view u.durable q) carried asking view) q (target_of asking.purpose) view (other_than chunk u unasked q asking well.made.may.has))) fit
    part_counted chunk (Scans removed forgotten) unasked well (within, fit) =
        records_counted chunk (take many (move_turn config u (Scans removed forgotten)).records) u.durable d (counts_taken chunk (move_turn config u (Scans removed forgotten)).records many (scan_counts chunk removed forgotten)) fit
    part_counted chunk move unasked well part = records_counted chunk [] u.durable d refl (ap Some (short_part move refl part))

-- ---- the master is started again

-- from where some moves lead
record Restarts (heard : Heard) (u : State) (d : Durable) (log : Log) : Type 0 where
  reaches : (chunk : ℕ) (w : ChunkWorld) → Shows chunk u w → WasHeard (Says chunk w) heard → Reaches chunk w (restarted d log)
  unborn : (chunk : ℕ) → IsUnborn chunk u → IsUnborn chunk (restarted d log) × Rises u.durable d

restarts_still : (heard : Heard) (u : State) (d : Durable) (log : Log) → IsKept d → u.durable ≡ d → Restarts heard u d log
restarts_still heard u d log kept same = record {
  reaches = λ chunk w k was. restarts_reach chunk d log w kept (subst (λ x. ShowsDurable chunk x w.entry) same k.entry.durable);
  unborn = λ chunk k.
      (subst (λ x. IsUnborn chunk (restarted x log) × Rises u.durable x) same (restarts_unborn chunk u.durable log k.counter k.ungiven, rises_itself u.durable));
}

restarts_part : (config : Config) (heard : Heard) (u : State) (d : Durable) (log : Log) (many : ℕ) (move : Move) → IsMadeWell config heard u move → IsKept d → IsPartOf config heard u d many move → Restarts heard u d log
restarts_part config heard u d log many move well kept part = record {
  reaches = λ chunk w k was. part_reaches config heard u d many chunk log w move well kept part k was;
  unborn = λ chunk k.
      (let x = part_counted config heard u d many chunk move k.unasked well part in
      (restarts_unborn chunk d log (subst IsNumber (sym x.version) k.counter) (counted_ungiven chunk u.durable d x k.ungiven), counted_rises chunk u.durable d x));
}

-- ---- all chunks there

-- nobody leases a view that was settled since, of a chunk that no file has
abbrev UnledIn : (chunk : ℕ) (s u : State) → Life chunk s → Life chunk u → Type 0
UnledIn chunk s u (Alive a) (Alive b) = a.world.known.view < b.world.known.view → is_listed u.durable chunk ≡ false → b.world.entry.view.holder ≡ None
UnledIn chunk s u (Unborn k) (Alive b) = (world_of b.reached.0).known.view < b.world.known.view → is_listed u.durable chunk ≡ false → b.world.entry.view.holder ≡ None
UnledIn chunk s u life (Unborn k) = Unit {0}

calm_unled : (chunk : ℕ) (s u : State) (sent : List Message) (l : Life chunk s) (m : Life chunk u) → CalmIn chunk s u sent l m → UnledIn chunk s u l m
calm_unled chunk s u sent (Alive a) (Alive b) calm = calm.unled
calm_unled chunk s u sent (Unborn k) (Alive b) calm = calm.unled
calm_unled chunk s u sent life (Unborn k) calm = tt

-- one that is born is born in the epoch that stands, and none began by a prepare
abbrev LateIn : (chunk : ℕ) (s u : State) (d : Durable) → Life chunk s → Life chunk u → Type 0
LateIn chunk s u d (Unborn k) (Alive b) = (d.epoch ≤ birth_of b) × (prepares s.durable d ≡ false)
LateIn chunk s u d life last = Unit {0}

module _ (keeps : ℕ → Bool) (whole : ℕ → ℕ → Bool) (heard : Heard) (s : State) (family : Family s) (hears : (chunk : ℕ) → HeardOf chunk s heard (family chunk)) (marks : (chunk : ℕ) → MarksOf chunk s (whole chunk) (family chunk))
    (d : Durable) (log : Log) (kept : IsKept d) (messages : List Message) (replies : AreReplies messages) where
  abbrev again : State
  again = restarted d log

  module _ (u : State) (sent : List Message) (f : FamilyGoes keeps whole s u sent family) (r : Restarts heard u d log) where
    heard_there : (chunk : ℕ) → HeardOf chunk u heard (f.last chunk)
    heard_there chunk = family_hears keeps whole s u sent family f heard hears chunk

    -- one chunk
    abbrev next : (chunk : ℕ) (m : Life chunk u) → HeardOf chunk u heard m → Life chunk again
    next chunk (Unborn k) was = Unborn (r.unborn chunk k).0
    next chunk (Alive b) was =
        let x = r.reaches chunk b.world b.shows was in
        Alive (record { world = x.world; reached = (b.reached.0, leads_on (world_of b.reached.0) b.world x.world b.reached.1 x.leads); shows = record { entry = x.shows; said = starts_so (Says chunk x.world) d log chunk } })

    -- it goes on from there
    next_goes : (chunk : ℕ) (m : Life chunk u) (was : HeardOf chunk u heard m) → Goes chunk (whole chunk) u again [] m (next chunk m was)
    next_goes chunk (Unborn k) was = record { rises = (r.unborn chunk k).1; says = tt }
    next_goes chunk (Alive b) was =
        let x = r.reaches chunk b.world b.shows was in record {
          leads = x.leads;
          masters = x.masters;
          same = refl;
          members = λ j. inl (ap (λ ms. ms j) x.members);
          marks = same_epoch (whole chunk) b.world x.world x.epoch;
          stays = λ y there. subst (λ ys. Contains ys y) (sym x.sent) there;
          tells = tt;
        }

    next_from : (P : List Edit → Type 0) (chunk : ℕ) (m : Life chunk u) (was : HeardOf chunk u heard m) → BornFrom P chunk u again m (next chunk m was)
    next_from P chunk (Unborn k) was = tt
    next_from P chunk (Alive b) was = tt

    next_bare : (b : Bool) (chunk : ℕ) (m : Life chunk u) (was : HeardOf chunk u heard m) → BornBare b chunk u again m (next chunk m was)
    next_bare b chunk (Unborn k) was = tt
    next_bare b chunk (Alive c) was = tt

    -- and only replies are sent
    told : (chunk : ℕ) (ms : List Message) (l : Life chunk s) (n : Life chunk again) → Goes chunk (whole chunk) s again ms l n → Goes chunk (whole chunk) s again messages l n
    told chunk ms (Unborn k) (Unborn n) g = record { rises = g.rises; says = replies_so (SaysNothing chunk d.epoch) (reply_says chunk d.epoch) messages replies }
    told chunk ms (Unborn k) (Alive n) g = record { later = g.later; leads = g.leads; masters = g.masters; members = g.members; fresh = g.fresh; tells = replies_so (MastersTell (birth_of n) chunk n.world) (reply_tells (birth_of n) chunk n.world) messages replies }
    told chunk ms (Alive a) (Alive n) g = record { leads = g.leads; masters = g.masters; same = g.same; members = g.members; marks = g.marks; stays = g.stays; tells = replies_so (MastersTell (birth_of n) chunk n.world) (reply_tells (birth_of n) chunk n.world) messages replies }
    told chunk ms (Alive a) (Unborn n) g = absurd g

    abbrev there : (chunk : ℕ) → Life chunk again
    there chunk = next chunk (f.last chunk) (heard_there chunk)

    all_goes : FamilyGoes keeps whole s again messages family
    all_goes = record {
      last = there;
      goes = λ chunk. told chunk (sent ++ []) (family chunk) (there chunk) (goes_both chunk (whole chunk) s u again sent [] (family chunk) (f.last chunk) (there chunk) (marks chunk) (f.goes chunk) (next_goes chunk (f.last chunk) (heard_there chunk)));
      origins = λ chunk. from_both s u family again f.last (family_lists keeps whole s u sent family f) chunk (whole chunk) sent [] (family chunk) (f.last chunk) (there chunk) (f.goes chunk) (next_goes chunk (f.last chunk) (heard_there chunk)) (f.origins chunk)
          (next_from (ComesFrom u f.last) chunk (f.last chunk) (heard_there chunk));
      bare = λ chunk. bare_both s u again (keeps chunk) chunk (whole chunk) [] (family chunk) (f.last chunk) (there chunk) (next_goes chunk (f.last chunk) (heard_there chunk)) (f.bare chunk) (next_bare (keeps chunk) chunk (f.last chunk) (heard_there chunk));
      copies = replies_so (λ (m : Message). is_kept keeps m.body ≡ true → CopiesTo again there m.to m.body) (λ m is kept. reply_copies again there m.to m.body is) messages replies;
    }

    -- ---- their rows

    all_copied : (chunk low : ℕ) (was : Bool) (w : ChunkWorld) → AreCopiedSince chunk d low was w messages
    all_copied chunk low was w = replies_so (λ (m : Message). CopiesSince chunk d low was w m.body) (reply_copied chunk d low was w) messages replies

    no_entry : (b : Bool) → (b || false) ≡ true → b ≡ true
    no_entry true is = refl
    no_entry false is = absurd (false≢true is)

    -- over a turn that commits no rollback
    module _ (links : IsLinked u.durable d) (epochs : EpochGoes s.durable d) (none : rolls_back s.durable d ≡ false) (may : prepares s.durable d ≡ true → MayPrepare s) (chunk : ℕ) (row : RowGoes s u chunk) where
      listed_first : has_entry again chunk ≡ true → is_listed u.durable chunk ≡ true
      listed_first entry = sym (links.listed chunk) ∙ no_entry (is_listed d chunk) entry

      row_again : RowGoes s again chunk
      row_again = record {
        given = λ given. subst (λ h. is_given h chunk ≡ true) (sym links.handle) (row.given given);
        gone = λ given entry. row.gone given (ap (λ b. b || is_member u.volatile.unplaced chunk) (listed_first entry));
        none = λ given entry no_row. absurd (false≢true (sym (ap is_some no_row) ∙ kept.settled chunk (no_entry (is_listed d chunk) entry)));
        row = λ y has. row.row y (sym (links.rows chunk) ∙ has);
        known = λ given y has. row.known given y (sym (links.rows chunk) ∙ has);
      }

      out_of : (v : ChunkWorld) → Shows chunk again v → v.entry.is_known ≡ false → is_listed u.durable chunk ≡ false
      out_of v shows unknown = sym (links.listed chunk) ∙ by_listed (is_listed d chunk) refl
        where
          by_listed : (b : Bool) → is_listed d chunk ≡ b → b ≡ false
          by_listed true is = absurd (false≢true (sym unknown ∙ shows.entry.durable.listed is))
          by_listed false is = refl

      unled_fades : (b : IsAlive chunk u) (x : Reaches chunk b.world again) (low : ℕ) → (low < b.world.known.view → is_listed u.durable chunk ≡ false → b.world.entry.view.holder ≡ None) → IsReached x.world → Shows chunk again x.world
          → x.world.entry.is_known ≡ false → low < x.world.known.view → x.world.known.holder x.world.known.view ≡ None
      unled_fades b x low unled reached shows unknown later =
          let known = agrees x.world (reached_world x.world reached) in
          ap x.world.known.holder known.view ∙ known.holder ∙ ap (λ (view : machine.View). view.holder) x.view ∙ unled (subst (λ n. low < n) x.known.view later) (out_of x.world shows unknown)

      rows_in : (l : Life chunk s) (m : Life chunk u) (was : HeardOf chunk u heard m) → Goes chunk (whole chunk) s u sent l m → UnledIn chunk s u l m → LateIn chunk s u d l m → RowsIn chunk s again messages l (next chunk m was)
      rows_in (Alive a) (Alive b) was goes unled late =
          let x = r.reaches chunk b.world b.shows was in
          let shows : Shows chunk again x.world = record { entry = x.shows; said = starts_so (Says chunk x.world) d log chunk } in
          let reached : IsReached x.world = (b.reached.0, leads_on (world_of b.reached.0) b.world x.world b.reached.1 x.leads) in (
            rows_go chunk s again a.world x.world (leads_on a.world b.world x.world goes.leads x.leads) (masters_on a.world b.world x.world goes.leads x.leads goes.masters x.masters) a.reached a.shows shows epochs none row_again
                (unled_fades b x a.world.known.view unled reached shows) may,
            all_copied chunk a.world.known.view a.world.entry.is_known x.world,
          )
      rows_in (Unborn k) (Alive b) was goes unled late =
          let x = r.reaches chunk b.world b.shows was in
          let shows : Shows chunk again x.world = record { entry = x.shows; said = starts_so (Says chunk x.world) d log chunk } in
          let reached : IsReached x.world = (b.reached.0, leads_on (world_of b.reached.0) b.world x.world b.reached.1 x.leads) in
          let born =
          rows_born chunk s.durable again b.reached.0 x.world (leads_on (world_of b.reached.0) b.world x.world goes.leads x.leads) (masters_on (world_of b.reached.0) b.world x.world goes.leads x.leads goes.masters x.masters) shows k.ungiven late.0 epochs none late.1 row_again.row
          (unled_fades b x (world_of b.reached.0).known.view unled reached shows) in
          (born.0, born.1, all_copied chunk 0 true x.world)
      rows_in (Alive a) (Unborn m) was goes unled late = absurd goes
      rows_in (Unborn k) (Unborn m) was goes unled late = tt

    all_rows : IsLinked u.durable d → EpochGoes s.durable d → rolls_back s.durable d ≡ false → (prepares s.durable d ≡ true → MayPrepare s) → ((chunk : ℕ) → RowGoes s u chunk) → ((chunk : ℕ) → UnledIn chunk s u (family chunk) (f.last chunk))
        → ((chunk : ℕ) → LateIn chunk s u d (family chunk) (f.last chunk)) → FamilyRows keeps whole s again messages family
    unfolding all_goes
    all_rows links epochs none may row unled late = record {
      goes = all_goes;
      rows = λ chunk. rows_in links epochs none may chunk (row chunk) (family chunk) (f.last chunk) (heard_there chunk) (f.goes chunk) (unled chunk) (late chunk);
    }

  -- ---- moves of which none is alone

  -- so many of these records
  enough : (many all : ℕ) → many ≤ all → (many < all) ⊎ (many ≡ all)
  enough many all within = by_test (nat_lt many all) refl
    where
      by_test : (b : Bool) → nat_lt many all ≡ b → (many < all) ⊎ (many ≡ all)
      by_test true is = inl (grind (arith, nat_tests))
      by_test false is = inr (grind (arith, nat_tests))

  whole_of : (t : Turn) (many : ℕ) → many ≡ length t.records → (e : Durable) → replayed e (take many t.records) ≡ Some d → replayed e t.records ≡ Some d
  whole_of t many is e fit = sym (ap (λ n. replayed e (take n t.records)) is ∙ ap (replayed e) (take_all (length t.records) t.records (omega arith))) ∙ fit

  -- where a part of a chain stands
  record IsFront (config : Config) (Holds : State → Move → Type 0) (u : State) (t : Turn) (many : ℕ) : Type 0 where
    before : Turn
    chain : Chain config Holds u before
    restarts : Restarts heard before.after d log
    links : IsLinked before.after.durable d

  module _ (config : Config) (Holds : State → Move → Type 0) (well : (v : State) (move : Move) → Holds v move → IsMadeWell config heard v move) (none_scans : (v : State) (move : Move) → Holds v move → is_scan move ≡ false) where
    front_of : (u : State) (t : Turn) (many : ℕ) → Chain config Holds u t → many ≤ length t.records → replayed u.durable (take many t.records) ≡ Some d → IsFront config Holds u t many
    front_of u t many chain within fit = by_place (enough many (length t.records) within)
      where
        by_place : (many < length t.records) ⊎ (many ≡ length t.records) → IsFront config Holds u t many
        by_place (inl less) =
            let c = cuts_are_beginnings Holds config u t many chain less in
            let part = take c.many (move_turn config c.before.after c.move).records in
            let parts = split c.before.records part u.durable d (ap (replayed u.durable) (sym c.stand) ∙ fit) in
            let left = chain_leaves config heard Holds (λ v move held. (well v move held).made.may) u c.before parts.mid c.chain parts.first in
            let here : IsPartOf config heard c.before.after d c.many c.move = (c.within, subst (λ m. replayed m part ≡ Some d) (sym left) parts.then) in
            record {
              before = c.before;
              chain = c.chain;
              restarts = restarts_part config heard c.before.after d log c.many c.move (well c.before.after c.move c.holds) kept here;
              links = part_links config heard c.before.after d c.many c.move (none_scans c.before.after c.move c.holds) here;
            }
        by_place (inr all) =
            let left = chain_leaves config heard Holds (λ v move held. (well v move held).made.may) u t d chain (whole_of t many all u.durable fit) in
            record { before = t; chain = chain; restarts = restarts_still heard t.after d log kept left; links = linked_still t.after.durable d left }

  module _ (config : Config) where
    abbrev Calm : State → Move → Type 0
    Calm u move = IsMadeWell config heard u move × (is_alone move ≡ false)

    scans_alone : (move : Move) → is_alone move ≡ false → is_scan move ≡ false
    scans_alone (Scans removed forgotten) beside = absurd (true≢false beside)
    scans_alone move beside = refl

    late_by : (chunk : ℕ) (u : State) (sent : List Message) (l : Life chunk s) (m : Life chunk u) → d.epoch ≡ s.durable.epoch → d.phase ≡ s.durable.phase → Goes chunk (whole chunk) s u sent l m → LateIn chunk s u d l m
    late_by chunk u sent (Unborn k) (Alive b) epoch phase goes = ((let later = goes.later in omega arith), same_prepares_none s.durable d phase)
    late_by chunk u sent (Alive a) m epoch phase goes = tt
    late_by chunk u sent (Unborn k) (Unborn m) epoch phase goes = tt

    within_rows : (t : Turn) (many : ℕ) → Chain config Calm s t → many ≤ length t.records → replayed s.durable (take many t.records) ≡ Some d → FamilyRows keeps whole s again messages family
    within_rows t many chain within fit =
        let front = front_of config Calm (λ v move held. held.0) (λ v move held. scans_alone move held.1) s t many chain within fit in
        let u = front.before.after in
        let f = families_calm keeps whole config heard s front.before family hears marks front.chain in
        let same = within_stays config heard s front.before (each_made config heard s front.before front.chain) in
        let epoch : d.epoch ≡ s.durable.epoch = front.links.epoch ∙ same.0 in
        let phase : d.phase ≡ s.durable.phase = front.links.phase ∙ same.1 in
        all_rows u front.before.sent f.goes front.restarts front.links (Stays epoch phase) (same_commits_none s.durable d phase) (λ here. absurd (true≢false (sym here ∙ same_prepares_none s.durable d phase)))
        (λ chunk. rows_go_over config heard s front.before chunk (none_commits config heard s front.before front.chain))
        (λ chunk. calm_unled chunk s u front.before.sent (family chunk) (f.goes.last chunk) (f.calm chunk))
        (λ chunk. late_by chunk u front.before.sent (family chunk) (f.goes.last chunk) epoch phase (f.goes.goes chunk))

    -- ---- a move that is alone, of which a part stands

    edits_fade : (chunk : ℕ) (edits : List PlainEdit) → list_all (fades chunk) (map (Edited own_request) edits) ≡ true
    edits_fade chunk [] = refl
    edits_fade chunk (edit ∷ edits) = edits_fade chunk edits

    fades_taken : (chunk : ℕ) (xs : List PlainEntry) (many : ℕ) → list_all (fades chunk) xs ≡ true → list_all (fades chunk) (take many xs) ≡ true
    fades_taken chunk xs zero all = refl
    fades_taken chunk [] (suc many) all = refl
    fades_taken chunk (x ∷ xs) (suc many) all = (let parts = and_parts (fades chunk x) (list_all (fades chunk) xs) all in ap (λ b. b && list_all (fades chunk) (take many xs)) parts.0 ∙ fades_taken chunk xs many parts.1)

    keeps_taken : (chunk : ℕ) (xs : List PlainEntry) (many : ℕ) → AllByRecursion (Keeps chunk) xs → AllByRecursion (Keeps chunk) (take many xs)
    keeps_taken chunk xs zero all = tt
    keeps_taken chunk [] (suc many) all = tt
    keeps_taken chunk (x ∷ xs) (suc many) all = (all.0, keeps_taken chunk xs many all.1)

    -- nothing but rows that go
    record IsFaded (chunk : ℕ) : Type 0 where
      epoch : d.epoch ≡ s.durable.epoch
      phase : d.phase ≡ s.durable.phase
      rows : (y : Settled) → fin.get d.chunks chunk ≡ Some y → fin.get s.durable.chunks chunk ≡ Some y

    part_fades : (move : Move) (many : ℕ) → IsMadeWell config heard s move → is_alone move ≡ true → IsPartOf config heard s d many move → (chunk : ℕ) → IsFaded chunk
    part_fades (Scans removed forgotten) many well alone (within, fit) chunk =
        let entries = map (Edited own_request) (scan_edits removed forgotten) in
        let x = records_fade chunk (take many entries) s.durable d (fades_taken chunk entries many (edits_fade chunk (scan_edits removed forgotten))) (keeps_taken chunk entries many (scan_keeps chunk removed forgotten)) well.before fit in
        record { epoch = x.0.epoch; phase = x.0.phase; rows = x.0.settled }
    part_fades (Settles q asking carried view) many well alone part chunk = absurd (false≢true alone)
    part_fades move many well alone part chunk =
        let same = short_part config heard s d many move refl part in
        record { epoch = ap (λ (x : Durable). x.epoch) (sym same); phase = ap (λ (x : Durable). x.phase) (sym same); rows = λ y has. ap (λ (x : Durable). fin.get x.chunks chunk) same ∙ has }

    rows_reached : (chunk : ℕ) (a : IsAlive chunk s) (x : Reaches chunk a.world again) → IsFaded chunk → RowsGo chunk s.durable d a.world x.world
    rows_reached chunk a x faded = record {
      epochs = Stays faded.epoch faded.phase;
      appears = λ y none has. absurd (false≢true (sym (ap is_some none) ∙ ap is_some (faded.rows y has)));
      first = λ first known none. absurd (false≢true (sym (ap is_some none) ∙ kept.settled chunk (listed_by (is_listed d chunk) (sym x.shows.memory.known ∙ known))));
      fades = λ gone later. absurd (let view = x.known.view in omega arith);
      back = λ later. absurd (above later);
      given = λ later. absurd (above later);
      returned = λ later. absurd (above later);
      listed = λ later. absurd (above later);
      unprepared = λ none e least within how. absurd (let same = x.epoch in omega arith);
      prepared = λ is. absurd (true≢false (sym is ∙ same_prepares_none s.durable d faded.phase));
    }
      where
        listed_by : (b : Bool) → (b || false) ≡ true → b ≡ true
        listed_by true is = refl
        listed_by false is = absurd (false≢true is)

        above : a.world.known.top < x.world.known.view → ⊥
        above later = let within = ((reached_world a.world a.reached).known).viewtop in let view = x.known.view in omega arith

    part_rows : (move : Move) (many : ℕ) → IsMadeWell config heard s move → is_alone move ≡ true → IsPartOf config heard s d many move → FamilyRows keeps whole s again messages family
    unfolding family_still all_goes
    part_rows move many well alone part = record { goes = all_goes s [] still r; rows = λ chunk. rows_there chunk (family chunk) (heard_there s [] still r chunk) }
      where
        still : FamilyGoes keeps whole s s [] family
        still = family_still keeps whole s family

        r : Restarts heard s d log
        r = restarts_part config heard s d log many move well kept part

        rows_there : (chunk : ℕ) (l : Life chunk s) (was : HeardOf chunk s heard l) → RowsIn chunk s again messages l (next s [] still r chunk l was)
        rows_there chunk (Unborn k) was = tt
        rows_there chunk (Alive a) was =
            let x = r.reaches chunk a.world a.shows was in (rows_reached chunk a x (part_fades move many well alone part chunk), all_copied s [] still r chunk a.world.known.view a.world.entry.is_known x.world)

    -- ---- a move that is alone, and stands

    unmoved_of : (chunk : ℕ) (move : Move) (u : State) (w v : ChunkWorld) → is_alone move ≡ true → is_commit move ≡ false → AsOf chunk move u w v → IsUnmoved w v
    unmoved_of chunk (Settles q asking carried view) u w v alone other left = absurd (false≢true alone)
    unmoved_of chunk (CommitsRollback req names) u w v alone other left = absurd (true≢false other)
    unmoved_of chunk move u w v alone other left = left

    module _ (move : Move) (well : IsMadeWell config heard s move) (alone : is_alone move ≡ true) where
      abbrev one : Option Refusal → Turn
      one said = record (move_turn config s move) { said = said }

      abbrev behind : State
      behind = (move_turn config s move).after

      abbrev sent_by : List Message
      sent_by = (move_turn config s move).sent

      alone_unled : (chunk : ℕ) (ms : List Message) (l : Life chunk s) (m : Life chunk behind) → is_commit move ≡ false → AloneIn chunk move s behind ms l m → UnledIn chunk s behind l m
      alone_unled chunk ms (Alive a) (Alive b) other left = λ later out. unmoved_unled config heard s chunk a b.world b.reached (unmoved_of chunk move behind a.world b.world alone other left.0) later
      alone_unled chunk ms (Unborn k) (Alive b) other left = absurd left
      alone_unled chunk ms life (Unborn k) other left = tt

      alone_late : (chunk : ℕ) (ms : List Message) (l : Life chunk s) (m : Life chunk behind) → AloneIn chunk move s behind ms l m → LateIn chunk s behind d l m
      alone_late chunk ms (Unborn k) (Alive b) left = absurd left
      alone_late chunk ms (Alive a) m left = tt
      alone_late chunk ms (Unborn k) (Unborn m) left = tt

      -- a rollback is committed
      committed_rows : is_commit move ≡ true → behind.durable ≡ d → FamilyRows keeps whole s again messages family
      unfolding all_goes
      committed_rows is same = record { goes = all_goes behind sent_by f.goes r; rows = λ chunk. rows_there chunk (family chunk) (f.goes.last chunk) (heard_there behind sent_by f.goes r chunk) (f.goes.goes chunk) (f.alone chunk) }
        where
          f : AloneFamily keeps whole move s behind sent_by family
          f = families_alone keeps whole config heard s move family hears marks well alone

          r : Restarts heard behind d log
          r = restarts_still heard behind d log kept same

          epochs : EpochGoes s.durable d
          epochs = subst (EpochGoes s.durable) same (epochs_go config heard s (one None) (ByItself s move None well alone))

          back : rolls_back s.durable d ≡ true
          back = subst (λ x. rolls_back s.durable x ≡ true) same (commits_by config heard s move well.made alone ∙ is)

          bare : behind.volatile.unplaced ≡ []
          bare = bare_by move is
            where
              bare_by : (m : Move) → is_commit m ≡ true → (move_turn config s m).after.volatile.unplaced ≡ []
              bare_by (CommitsRollback req names) is = (answer_both 0 s (changed s.volatile changes.RolledBack) req (answers.Epoch s.durable.epoch)).1
              bare_by m is = absurd (false≢true is)

          committed : (chunk : ℕ) (w v : ChunkWorld) (m : Move) → is_commit m ≡ true → AsOf chunk m behind w v → IsCommitted chunk behind w v
          committed chunk w v (CommitsRollback req names) is left = left
          committed chunk w v m is left = absurd (false≢true is)

          -- it is known behind a restart where it was before
          known_so : (chunk : ℕ) (b : IsAlive chunk behind) (x : Reaches chunk b.world again) → x.world.entry.is_known ≡ b.world.entry.is_known
          known_so chunk b x =
              x.shows.memory.known ∙ ap (λ e. is_listed e chunk || false) (sym same) ∙ sym (b.shows.entry.memory.known ∙ ap (λ xs. is_listed behind.durable chunk || is_member xs chunk) bare)

          goes_on : (chunk : ℕ) (w : ChunkWorld) (b : IsAlive chunk behind) (x : Reaches chunk b.world again) → IsCommitted chunk behind w b.world → IsCommitted chunk again w x.world
          goes_on chunk w b x c =
              let known = known_so chunk b x in
              record {
                back = by_top c.back;
                given = ap x.world.known.stood x.known.view ∙ ap (λ stood. stood b.world.known.view) x.known.stood ∙ c.given ∙ sym known;
                fades = λ unknown. ap (λ (view : machine.View). view.holder) x.view ∙ c.fades (sym known ∙ unknown);
                row = known ∙ c.row ∙ ap (λ (e : Durable). is_some (fin.get e.chunks chunk)) same;
              }
            where
              by_top : (w.known.view ≡ w.known.top) ⊎ (b.world.known.stood w.known.top ≡ false) → (w.known.view ≡ w.known.top) ⊎ (x.world.known.stood w.known.top ≡ false)
              by_top (inl at) = inl at
              by_top (inr none) = inr (ap (λ stood. stood w.known.top) x.known.stood ∙ none)

          rows_there : (chunk : ℕ) (l : Life chunk s) (m : Life chunk behind) (was : HeardOf chunk behind heard m) → Goes chunk (whole chunk) s behind sent_by l m → AloneIn chunk move s behind sent_by l m → RowsIn chunk s again messages l (next behind sent_by f.goes r chunk m was)
          rows_there chunk (Alive a) (Alive b) was goes left =
              let x = r.reaches chunk b.world b.shows was in
              let shows : Shows chunk again x.world = record { entry = x.shows; said = starts_so (Says chunk x.world) d log chunk } in (
                rows_back chunk s again a.world x.world (leads_on a.world b.world x.world goes.leads x.leads) (masters_on a.world b.world x.world goes.leads x.leads goes.masters x.masters) a.reached a.shows shows epochs back refl
                    (goes_on chunk a.world b x (committed chunk a.world b.world move is left.0)),
                all_copied behind sent_by f.goes r chunk a.world.known.view a.world.entry.is_known x.world,
              )
          rows_there chunk (Unborn k) (Alive b) was goes left = absurd left
          rows_there chunk (Alive a) (Unborn m) was goes left = absurd goes
          rows_there chunk (Unborn k) (Unborn m) was goes left = tt

      alone_rows : behind.durable ≡ d → FamilyRows keeps whole s again messages family
      alone_rows same = by_commit (is_commit move) refl
        where
          by_commit : (b : Bool) → is_commit move ≡ b → FamilyRows keeps whole s again messages family
          by_commit true is = committed_rows is same
          by_commit false other =
              let f = families_alone keeps whole config heard s move family hears marks well alone in
              all_rows behind sent_by f.goes (restarts_still heard behind d log kept same) (linked_still behind.durable d same)
              (subst (EpochGoes s.durable) same (epochs_go config heard s (one None) (ByItself s move None well alone)))
              (subst (λ x. rolls_back s.durable x ≡ false) same (commits_by config heard s move well.made alone ∙ other))
              (λ here. prepares_by config heard s move well.made alone (subst (λ x. prepares s.durable x ≡ true) (sym same) here))
              (λ chunk. rows_go_over config heard s (one None) chunk (Moves s move None (well.made, other)))
              (λ chunk. alone_unled chunk sent_by (family chunk) (f.goes.last chunk) other (f.alone chunk))
              (λ chunk. alone_late chunk sent_by (family chunk) (f.goes.last chunk) (f.alone chunk))

      -- ---- with moves behind it by which calls end

      abbrev Closing : State → Move → Type 0
      Closing u m = IsMadeWell config heard u m × (closes m ≡ true)

      closing_few : (m : Move) → closes m ≡ true → has_many m ≡ false
      closing_few (Scans removed forgotten) is = absurd (false≢true is)
      closing_few (Settles q asking carried view) is = absurd (false≢true is)
      closing_few m is = refl

      -- a part of such a chain is some of its moves
      closing_front : (u : State) (next : Turn) (many : ℕ) → Chain config Closing u next → many ≤ length next.records → replayed u.durable (take many next.records) ≡ Some d → (pre : Turn) × Chain config Closing u pre × (pre.after.durable ≡ d)
      closing_front u next many chain within fit = by_place (enough many (length next.records) within)
        where
          by_place : (many < length next.records) ⊎ (many ≡ length next.records) → (pre : Turn) × Chain config Closing u pre × (pre.after.durable ≡ d)
          by_place (inl less) =
              let c = cuts_are_beginnings Closing config u next many chain less in
              let part = take c.many (move_turn config c.before.after c.move).records in
              let parts = split c.before.records part u.durable d (ap (replayed u.durable) (sym c.stand) ∙ fit) in
              let left = chain_leaves config heard Closing (λ v m held. held.0.made.may) u c.before parts.mid c.chain parts.first in
              (c.before, c.chain, short_part config heard c.before.after d c.many c.move (closing_few c.move c.holds.1) (c.within, subst (λ m. replayed m part ≡ Some d) (sym left) parts.then))
          by_place (inr all) = (next, chain, chain_leaves config heard Closing (λ v m held. held.0.made.may) u next d chain (whole_of next many all u.durable fit))

      module _ (is : is_followed move ≡ true) (said : Option Refusal) (pre : Turn) (chain : Chain config Closing behind pre) (same : pre.after.durable ≡ d) where
        other : is_commit move ≡ false
        other = by_move move is
          where
            by_move : (m : Move) → is_followed m ≡ true → is_commit m ≡ false
            by_move (CommitsRollback req names) is = absurd (false≢true is)
            by_move m is = refl

        calm_chain : Chain config Calm behind pre
        calm_chain = each_closing config heard behind pre chain

        same_epochs : IsSameEpoch behind.durable pre.after.durable
        same_epochs = within_stays config heard behind pre (each_made config heard behind pre calm_chain)

        phase : d.phase ≡ behind.durable.phase
        phase = ap (λ (x : Durable). x.phase) (sym same) ∙ same_epochs.1

        epoch : d.epoch ≡ behind.durable.epoch
        epoch = ap (λ (x : Durable). x.epoch) (sym same) ∙ same_epochs.0

        prepares_none : prepares s.durable d ≡ false
        prepares_none = ap (λ p. is_ordinary s.durable.phase && is_upgrade p) phase ∙ followed_none config heard s move well.made is

        commits_none : rolls_back s.durable d ≡ false
        commits_none = ap (λ p. is_rolling s.durable.phase && is_ordinary p) phase ∙ commits_by config heard s move well.made alone ∙ other

        row_over : (chunk : ℕ) → RowGoes s pre.after chunk
        row_over chunk = rows_go_over config heard s (joined (one said) pre) chunk (Then s (one said) pre (Moves s move said (well.made, other)) (none_commits config heard behind pre calm_chain))

        late_then : (chunk : ℕ) (l : Life chunk s) (m : Life chunk behind) (n : Life chunk pre.after) → AloneIn chunk move s behind sent_by l m → Goes chunk (whole chunk) behind pre.after pre.sent m n → LateIn chunk s pre.after d l n
        late_then chunk (Unborn k) (Unborn m) (Alive b) left goes = ((let later = goes.later in let at = epoch in omega arith), prepares_none)
        late_then chunk (Unborn k) (Alive a) (Alive b) left goes = absurd left
        late_then chunk (Unborn k) m (Unborn n) left goes = tt
        late_then chunk (Alive a) m n left goes = tt

        -- the first move settles nothing
        unled_then : (chunk : ℕ) (l : Life chunk s) (m : Life chunk behind) (n : Life chunk pre.after) → Goes chunk (whole chunk) s behind sent_by l m → AloneIn chunk move s behind sent_by l m → Goes chunk (whole chunk) behind pre.after pre.sent m n → UnledIn chunk behind pre.after m n
            → UnledIn chunk s pre.after l n
        unled_then chunk (Alive a) (Alive b) (Alive c) first left goes unled = λ later out. unled (subst (λ n. n < c.world.known.view) (sym same_view) later) out
          where
            unmoved : IsUnmoved a.world b.world
            unmoved = unmoved_of chunk move behind a.world b.world alone other left.0

            same_view : b.world.known.view ≡ a.world.known.view
            same_view = (agrees b.world (reached_world b.world b.reached)).view ∙ ap (λ (view : machine.View). view.stamp) unmoved ∙ sym (agrees a.world (reached_world a.world a.reached)).view
        unled_then chunk (Unborn k) (Unborn m) (Alive c) first left goes unled = unled
        unled_then chunk (Unborn k) (Alive b) (Alive c) first left goes unled = absurd left
        unled_then chunk (Alive a) (Unborn m) (Alive c) first left goes unled = absurd first
        unled_then chunk l m (Unborn n) first left goes unled = tt

        closed_rows : FamilyRows keeps whole s again messages family
        unfolding families_both
        closed_rows =
            let f = families_alone keeps whole config heard s move family hears marks well alone in
            let g = families_close keeps whole config heard behind pre f.goes.last (family_hears keeps whole s behind sent_by family f.goes heard hears) (family_marks keeps whole s behind sent_by family f.goes marks) chain in
            let both = families_both keeps whole s behind pre.after sent_by pre.sent family marks f.goes g.goes in
            all_rows pre.after (sent_by ++ pre.sent) both (restarts_still heard pre.after d log kept same) (linked_still pre.after.durable d same)
            (subst (EpochGoes s.durable) same (epochs_go config heard s (joined (one said) pre) (Closes s move said pre well is chain))) commits_none (λ here. absurd (true≢false (sym here ∙ prepares_none))) row_over
            (λ chunk. unled_then chunk (family chunk) (f.goes.last chunk) (g.goes.last chunk) (f.goes.goes chunk) (f.alone chunk) (g.goes.goes chunk) (calm_unled chunk behind pre.after pre.sent (f.goes.last chunk) (g.goes.last chunk) (g.calm chunk)))
            (λ chunk. late_then chunk (family chunk) (f.goes.last chunk) (g.goes.last chunk) (f.alone chunk) (g.goes.goes chunk))

    -- ---- so many records of a move that is alone, with such moves behind it or without

    alone_part : (move : Move) (many : ℕ) → IsMadeWell config heard s move → is_alone move ≡ true → many ≤ length (move_turn config s move).records → replayed s.durable (take many (move_turn config s move).records) ≡ Some d → FamilyRows keeps whole s again messages family
    alone_part move many well alone within fit = by_place (enough many (length (move_turn config s move).records) within)
      where
        by_place : (many < length (move_turn config s move).records) ⊎ (many ≡ length (move_turn config s move).records) → FamilyRows keeps whole s again messages family
        by_place (inl less) = part_rows move many well alone (less, fit)
        by_place (inr all) =
            let t = record (move_turn config s move) { said = None } in
            alone_rows move well alone (chain_leaves config heard (IsMadeWell config heard) (λ v m made. made.made.may) s t d (Moves s move None well) (whole_of t many all s.durable fit))

    followed_alone : (move : Move) → is_followed move ≡ true → is_alone move ≡ true
    followed_alone (Scans removed forgotten) is = refl
    followed_alone BeginsRollback is = refl
    followed_alone move is = absurd (false≢true is)

    closed_part : (move : Move) (said : Option Refusal) (next : Turn) (many : ℕ) (well : IsMadeWell config heard s move) → is_followed move ≡ true → Chain config (λ u m. IsMadeWell config heard u m × (closes m ≡ true)) (move_turn config s move).after next
        → many ≤ length ((move_turn config s move).records ++ next.records) → replayed s.durable (take many ((move_turn config s move).records ++ next.records)) ≡ Some d → FamilyRows keeps whole s again messages family
    closed_part move said next many well is chain within fit = by_place (nat_le many (length xs)) refl
      where
        xs : List PlainEntry
        xs = (move_turn config s move).records

        ys : List PlainEntry
        ys = next.records

        alone : is_alone move ≡ true
        alone = followed_alone move is

        by_place : (b : Bool) → nat_le many (length xs) ≡ b → FamilyRows keeps whole s again messages family
        by_place true less =
            let within_it : many ≤ length xs = grind (arith, nat_tests) in alone_part move many well alone within_it (ap (replayed s.durable) (sym (take-append-le many xs ys within_it)) ∙ fit)
        by_place false more =
            let above : length xs ≤ many = grind (arith, nat_tests) in
            let rest = many - length xs in
            let is_rest = back_again many (length xs) above in
            let taken : take many (xs ++ ys) ≡ xs ++ take rest ys = ap (λ n. take n (xs ++ ys)) is_rest ∙ take-append-add xs ys rest in
            let parts = split xs (take rest ys) s.durable d (ap (replayed s.durable) (sym taken) ∙ fit) in
            let t = record (move_turn config s move) { said = None } in
            let left = chain_leaves config heard (IsMadeWell config heard) (λ v m made. made.made.may) s t parts.mid (Moves s move None well) parts.first in
            let rest_within = less_rest many (length xs) (length ys) (length (xs ++ ys)) within (length-append xs ys) in
            let front = closing_front move well alone (move_turn config s move).after next rest chain rest_within (fit_there (move_turn config s move).after.durable parts.mid (take rest ys) left parts.then) in
            closed_rows move well alone is said front.0 front.1 front.2
          where
            fit_there : (u mid : Durable) (es : List PlainEntry) → u ≡ mid → replayed mid es ≡ Some d → replayed u es ≡ Some d
            fit_there u mid es same fit = subst (λ m. replayed m es ≡ Some d) (sym same) fit

            back_again : (n m : ℕ) → m ≤ n → n ≡ m + (n - m)
            back_again n m least = omega arith

            less_rest : (n a b all : ℕ) → n ≤ all → all ≡ a + b → n - a ≤ b
            less_rest n a b all within both = omega arith

-- So it is of each turn that ends one epoch at most.
pub cut_rows : (keeps : ℕ → Bool) (whole : ℕ → ℕ → Bool) (config : Config) (heard : Heard) (s : State) (t : Turn) (many : ℕ) (d : Durable) (log : Log) (messages : List Message) (family : Family s) → ((chunk : ℕ) → HeardOf chunk s heard (family chunk)) → ((chunk : ℕ) → MarksOf chunk s (whole chunk) (family chunk))
    → IsKept d → AreReplies messages → many ≤ length t.records → replayed s.durable (take many t.records) ≡ Some d → EndsOnce config (IsMadeWell config heard) s t → FamilyRows keeps whole s (restarted d log) messages family
cut_rows keeps whole config heard s t many d log messages family hears marks kept replies within fit (Within u v chain) = within_rows keeps whole heard u family hears marks d log kept messages replies config v many chain within fit
cut_rows keeps whole config heard s t many d log messages family hears marks kept replies within fit (ByItself u move said well alone) = alone_part keeps whole heard u family hears marks d log kept messages replies config move many well alone within fit
cut_rows keeps whole config heard s t many d log messages family hears marks kept replies within fit (Closes u move said next well is chain) = closed_part keeps whole heard u family hears marks d log kept messages replies config move said next many well is chain within fit
