-- A prepare and a finalize at a master of which no chunk is settled.
use Rattle.std.proofs.Common.{◌≡◌, ◌⊎◌, inl, inr, ◌∙◌, ◌++◌, ◌+◌, ◌&&◌, ℕ, Bool, true, false, not, List, [], ◌∷◌, length, refl, sym, ap, subst}
use Rattle.std.specs.Prelude.{Some, None, Ok, Err, if◌then◌else◌}
use Rattle.std.specs.FinMap as fin
use Rattle.gs_base.specs.declared.config.Config.{Config}
use Rattle.gs_base.specs.declared.epoch.EpochEnd.TheVariants as ends
use Rattle.gs_base.specs.declared.numbers.Moment.{Moment}
use Rattle.gs_base.specs.declared.numbers.ReqId.{ReqId}
use Rattle.gs_base.specs.declared.refusal.Refusal.TheVariants as refusals
use Rattle.gs_edit.specs.Machine.{Plain, prepared, finalized}
use Rattle.gs_lease.specs.declared.view.Purpose.TheVariants as purposes
use Rattle.gs_msg.specs.declared.answer.Answer.TheVariants as answers
use Rattle.gs_msg.specs.declared.call.Call.TheVariants as calls
use Rattle.gs_msg.specs.declared.message.Message.{Message}
use Rattle.gs_laws_master.proofs.lemmas.upgrades.Beginnings.{fits_gives}
use Rattle.gs_laws_master.specs.Standing.{FitsAndStands}
use Rattle.gs_laws_plain.specs.commands.Records.{machine_of}
use Rattle.gs_master_record.specs.Plain.{PlainEntry, Finalize, Prepare}
use Rattle.gs_master_record.specs.declared.checkpoint.Phase.{Phase}
use Rattle.gs_master_record.specs.declared.checkpoint.Phase.TheVariants.{Ordinary, Upgrade, Rolling}
use Rattle.gs_master_spec.specs.Applied.{applied, are_at_rest, is_next_epoch, with_epoch, without_prepared}
use Rattle.gs_master_spec.specs.Beginning.{all_begun, has_versions}
use Rattle.gs_master_spec.specs.Durable.{Durable, is_ordinary, is_rolling, is_upgrade}
use Rattle.gs_master_spec.specs.Replies.{is_later}
use Rattle.gs_master_spec.specs.Settling.{requests_of}
use Rattle.gs_master_spec.specs.State.{State, Turn, all_ended_by, and_then, first_of, fits, kept_in_memory, last_reply, refused, reply_to, turned}
use Rattle.gs_master_spec.specs.Upgrades.{accepted_plan, all_unquiet, begin_tests, chunk_count, commit_tests, end_tests, is_last_epoch, prepare_begin, prepare_commit, tell_all, unless}
use Rattle.gs_master_spec.specs.declared.change.Change.{Change}
use Rattle.gs_master_spec.specs.declared.change.Change.TheVariants as changes
use Rattle.gs_master_spec.specs.declared.pending.Pending.{Pending}
use Rattle.gs_laws_plain.proofs.lemmas.calm.Answered.{insert_up, more}
use Rattle.gs_laws_plain.proofs.lemmas.calm.Asking.{all_quiet, comes_to_tests, fits_so, is_ordinary_where_none, is_upgrade_where_kept}
use Rattle.gs_laws_plain.proofs.lemmas.calm.Going.{one_applied, refused_went}
use Rattle.gs_laws_plain.specs.calm.Calm.{Asked, FinalizesGo, IsStill, IsUpTo, PreparesBegin, PreparesCommit, WasShort, WentTo, bare}

-- a call that answers an epoch keeps that in memory, where no later one is kept
abbrev pub kept_if : Bool → ReqId → ℕ → List Change
kept_if keeps req epoch = if keeps then kept_in_memory req (Ok (answers.Epoch epoch)) ∷ [] else []

pub full : (req : ReqId) (s : State) → WasShort req (refused s req refusals.Full)
full req s = record { result = Err refusals.Full; short = inl refl; sent = refl }

pub exhausted : (req : ReqId) (s : State) → WasShort req (refused s req refusals.Exhausted)
exhausted req s = record { result = Err refusals.Exhausted; short = inr refl; sent = refl }

-- ---- beginning

abbrev beginning : State → ReqId → Phase → Bool → List Pending → List ℕ → Turn
beginning s req phase preparing pending unquiet =
    unless (first_of (begin_tests phase preparing pending (not (has_versions s.durable (length unquiet))))) s req
    (and_then (and_then (all_ended_by s (requests_of pending) refusals.Preparing) (λ next. all_begun next unquiet purposes.Quiet None)) (λ next. turned next (accepted_plan next req [] (changes.Prepare true ∷ []) [] s.durable.epoch)))

-- where no call waits, and nothing is unquiet
begins_so : (s : State) (req : ReqId) (preparing : Bool) → IsStill s → s.volatile.is_preparing ≡ preparing → prepare_begin s req ≡ beginning s req s.durable.phase preparing [] []
begins_so s req preparing still is =
    ap (λ (b : Bool). beginning s req s.durable.phase b s.volatile.pending (all_unquiet s)) is
    ∙ ap (λ (p : List Pending). beginning s req s.durable.phase preparing p (all_unquiet s)) still.pending
    ∙ ap (λ (u : List ℕ). beginning s req s.durable.phase preparing [] u) (all_quiet s still)

module _ (s : State) (req : ReqId) (m : Plain (List ℕ)) (now next : ℕ) (asked : Asked false false s req m now next) where
  abbrev begun_turn : Bool → Turn
  begun_turn keeps = turned s (record { records = []; changes = changes.Prepare true ∷ kept_if keeps req s.durable.epoch; sent = reply_to req (Ok (answers.Epoch s.durable.epoch)) ∷ []; said = None })

  begun_so : (keeps : Bool) → FitsAndStands s (begun_turn keeps) → WentTo true false req (begun_turn keeps) [] (Ok (answers.Epoch s.durable.epoch)) m now next
  begun_so true so = record {
    sent = refl;
    still = record { sound = asked.still.sound; moving = asked.still.moving; pending = asked.still.pending; locks = asked.still.locks; chunks = asked.still.chunks; prepared = asked.still.prepared; firm = so.firm };
    begun = refl;
    rolled = asked.rolled;
    shows = record { plain = asked.shows.plain; epoch = asked.shows.epoch; hidden = asked.shows.hidden };
    answered = record { recorded = (more s req.client asked.last req.number asked.answered asked.above).recorded; remembered = insert_up s.volatile.replies req.client asked.last req.number (Ok (answers.Epoch s.durable.epoch)) asked.answered.remembered asked.above };
  }
  begun_so false so = record {
    sent = refl;
    still = record { sound = asked.still.sound; moving = asked.still.moving; pending = asked.still.pending; locks = asked.still.locks; chunks = asked.still.chunks; prepared = asked.still.prepared; firm = so.firm };
    begun = refl;
    rolled = asked.rolled;
    shows = record { plain = asked.shows.plain; epoch = asked.shows.epoch; hidden = asked.shows.hidden };
    answered = record { recorded = (more s req.client asked.last req.number asked.answered asked.above).recorded; remembered = (more s req.client asked.last req.number asked.answered asked.above).remembered };
  }

  with_room : (room : Bool) → FitsAndStands s (if room then begun_turn (is_later (last_reply s req.client) req.number) else refused s req refusals.Full)
      → WasShort req (if room then begun_turn (is_later (last_reply s req.client) req.number) else refused s req refusals.Full) ⊎ WentTo true false req (if room then begun_turn (is_later (last_reply s req.client) req.number) else refused s req refusals.Full) [] (Ok (answers.Epoch now)) m now next
  with_room true so = inr (subst (λ (n : ℕ). WentTo true false req (begun_turn (is_later (last_reply s req.client) req.number)) [] (Ok (answers.Epoch n)) m now next) asked.shows.epoch (begun_so (is_later (last_reply s req.client) req.number) so))
  with_room false so = inl (full req s)

  abbrev begun_whole : Bool → Turn
  begun_whole exhausted = unless (first_of ((exhausted, refusals.Exhausted) ∷ [])) s req (begun_turn (is_later (last_reply s req.client) req.number))

  begun_tested : (exhausted : Bool) → FitsAndStands s (begun_whole exhausted) → WasShort req (begun_whole exhausted) ⊎ WentTo true false req (begun_whole exhausted) [] (Ok (answers.Epoch now)) m now next
  begun_tested true so = inl (exhausted req s)
  begun_tested false so = with_room (fits s.log (begun_turn (is_later (last_reply s req.client) req.number)).records) so

  begins_in : (phase : Phase) → phase ≡ Ordinary → FitsAndStands s (beginning s req phase false [] []) → WasShort req (beginning s req phase false [] []) ⊎ WentTo true false req (beginning s req phase false [] []) [] (Ok (answers.Epoch now)) m now next
  begins_in Ordinary is so = begun_tested (not (has_versions s.durable 0)) so
  begins_in Upgrade is so = absurd (cc)
  begins_in Rolling is so = absurd (cc)

  stands_in : (phase : Phase) → phase ≡ Upgrade → FitsAndStands s (beginning s req phase false [] []) → WentTo false false req (beginning s req phase false [] []) [] (Err refusals.AlreadyUpgrading) m now next
  stands_in Ordinary is so = absurd (cc)
  stands_in Upgrade is so = refused_went false false s req refusals.AlreadyUpgrading m now next asked so
  stands_in Rolling is so = absurd (cc)

pub prepares_begin : PreparesBegin
prepares_begin config s req moment m now next asked number =
    let is = comes_to_tests false false config s req moment m now next asked calls.PrepareBegin refl refl refl refl in
    let so = fits_so false false config s req moment m now next asked calls.PrepareBegin tt number is in
    let whole = is ∙ begins_so s req false asked.still asked.begun in
    let fit = subst (FitsAndStands s) (begins_so s req false asked.still asked.begun) so in (
      λ none. subst (λ (t : Turn). WasShort req t ⊎ WentTo true false req t [] (Ok (answers.Epoch now)) m now next) (sym whole)
          (begins_in s req m now next asked s.durable.phase (is_ordinary_where_none false false config s req moment m now next asked refl none) fit),
      λ kept some. subst (λ (t : Turn). WentTo false false req t [] (Err refusals.AlreadyUpgrading) m now next) (sym whole)
          (stands_in s req m now next asked s.durable.phase (is_upgrade_where_kept false false config s req moment m now next asked kept refl some) fit),
    )

-- ---- an epoch ends

-- the turn by which one does: its record, perhaps the end of preparing, and what every server is told
abbrev pub ends_preparing : Bool → List Change
ends_preparing ends = if ends then changes.Prepare false ∷ [] else []

abbrev pub ending : State → ReqId → PlainEntry → Bool → List Message → ℕ → Bool → Turn
ending s req entry ends told epoch keeps = turned s (record { records = entry ∷ []; changes = ends_preparing ends ++ kept_if keeps req epoch; sent = told ++ reply_to req (Ok (answers.Epoch epoch)) ∷ []; said = None })

-- what it leaves of what is durable
pub record Leaves (d next : Durable) (rolling : Bool) (m : Plain (List ℕ)) : Type 0 where
  pub chunks : next.chunks ≡ d.chunks
  pub prepared : (next.prepared ≡ d.prepared) ⊎ (next.prepared ≡ fin.empty)
  pub hidden : next.next_hidden ≡ d.next_hidden
  pub replies : next.replies ≡ d.replies
  pub epoch : next.epoch ≡ d.epoch + 1
  pub rolled : is_rolling next.phase ≡ rolling
  pub plain : machine_of bare next ≡ m

-- a prepare that goes on is over where the turn ends it
abbrev preparing_behind : Bool → Bool → Bool
preparing_behind ends preparing = if ends then false else preparing

module _ (preparing rolling : Bool) (s : State) (req : ReqId) (m behind : Plain (List ℕ)) (now next : ℕ) (asked : Asked preparing rolling s req m now next) (entry : PlainEntry) (told : List Message) (epoch : ℕ) (goes : Bool) where
  no_prepared : (d : Durable) → (d.prepared ≡ s.durable.prepared) ⊎ (d.prepared ≡ fin.empty) → d.prepared ≡ fin.empty
  no_prepared d (inl is) = is ∙ asked.still.prepared
  no_prepared d (inr is) = is

  number_left : (n : ℕ) → n ≡ s.durable.next_hidden → (n ≡ next) ⊎ (n ≡ 0)
  number_left n is = each asked.shows.hidden
    where
      each : (s.durable.next_hidden ≡ next) ⊎ (s.durable.next_hidden ≡ 0) → (n ≡ next) ⊎ (n ≡ 0)
      each (inl h) = inl (is ∙ h)
      each (inr h) = inr (is ∙ h)

  pub ending_went : (ends keeps : Bool) → Leaves s.durable (ending s req entry ends told epoch keeps).after.durable goes behind → FitsAndStands s (ending s req entry ends told epoch keeps)
      → WentTo (preparing_behind ends preparing) goes req (ending s req entry ends told epoch keeps) told (Ok (answers.Epoch epoch)) behind (now + 1) next
  ending_went true true left so = record {
    sent = refl;
    still = record { sound = asked.still.sound; moving = asked.still.moving; pending = asked.still.pending; locks = asked.still.locks; chunks = left.chunks ∙ asked.still.chunks; prepared = no_prepared (ending s req entry true told epoch true).after.durable left.prepared; firm = so.firm };
    begun = refl;
    rolled = left.rolled;
    shows = record { plain = left.plain; epoch = left.epoch ∙ ap (λ n. n + 1) asked.shows.epoch; hidden = number_left (ending s req entry true told epoch true).after.durable.next_hidden left.hidden };
    answered = record {
      recorded = subst (λ (r : _). IsUpTo req.number (fin.get r req.client)) (sym left.replies) (more s req.client asked.last req.number asked.answered asked.above).recorded;
      remembered = insert_up s.volatile.replies req.client asked.last req.number (Ok (answers.Epoch epoch)) asked.answered.remembered asked.above;
    };
  }
  ending_went true false left so = record {
    sent = refl;
    still = record { sound = asked.still.sound; moving = asked.still.moving; pending = asked.still.pending; locks = asked.still.locks; chunks = left.chunks ∙ asked.still.chunks; prepared = no_prepared (ending s req entry true told epoch false).after.durable left.prepared; firm = so.firm };
    begun = refl;
    rolled = left.rolled;
    shows = record { plain = left.plain; epoch = left.epoch ∙ ap (λ n. n + 1) asked.shows.epoch; hidden = number_left (ending s req entry true told epoch false).after.durable.next_hidden left.hidden };
    answered = record {
      recorded = subst (λ (r : _). IsUpTo req.number (fin.get r req.client)) (sym left.replies) (more s req.client asked.last req.number asked.answered asked.above).recorded;
      remembered = (more s req.client asked.last req.number asked.answered asked.above).remembered;
    };
  }
  ending_went false true left so = record {
    sent = refl;
    still = record { sound = asked.still.sound; moving = asked.still.moving; pending = asked.still.pending; locks = asked.still.locks; chunks = left.chunks ∙ asked.still.chunks; prepared = no_prepared (ending s req entry false told epoch true).after.durable left.prepared; firm = so.firm };
    begun = asked.begun;
    rolled = left.rolled;
    shows = record { plain = left.plain; epoch = left.epoch ∙ ap (λ n. n + 1) asked.shows.epoch; hidden = number_left (ending s req entry false told epoch true).after.durable.next_hidden left.hidden };
    answered = record {
      recorded = subst (λ (r : _). IsUpTo req.number (fin.get r req.client)) (sym left.replies) (more s req.client asked.last req.number asked.answered asked.above).recorded;
      remembered = insert_up s.volatile.replies req.client asked.last req.number (Ok (answers.Epoch epoch)) asked.answered.remembered asked.above;
    };
  }
  ending_went false false left so = record {
    sent = refl;
    still = record { sound = asked.still.sound; moving = asked.still.moving; pending = asked.still.pending; locks = asked.still.locks; chunks = left.chunks ∙ asked.still.chunks; prepared = no_prepared (ending s req entry false told epoch false).after.durable left.prepared; firm = so.firm };
    begun = asked.begun;
    rolled = left.rolled;
    shows = record { plain = left.plain; epoch = left.epoch ∙ ap (λ n. n + 1) asked.shows.epoch; hidden = number_left (ending s req entry false told epoch false).after.durable.next_hidden left.hidden };
    answered = record {
      recorded = subst (λ (r : _). IsUpTo req.number (fin.get r req.client)) (sym left.replies) (more s req.client asked.last req.number asked.answered asked.above).recorded;
      remembered = (more s req.client asked.last req.number asked.answered asked.above).remembered;
    };
  }

-- ---- a prepare is committed

prepare_leaves : (d next : Durable) (m : Plain (List ℕ)) (epoch moment chunks : ℕ) → machine_of bare d ≡ m → applied d (Prepare epoch moment chunks) ≡ Some next → Leaves d next false (prepared m)
unfolding applied
prepare_leaves d next m epoch moment chunks is h =
    subst (λ (n : Durable). Leaves d n false (prepared m)) (fits_gives (is_ordinary d.phase && (is_next_epoch d.epoch epoch && are_at_rest d)) (without_prepared (with_epoch d ends.Prepare Upgrade)) next h).1
    (record { chunks = refl; prepared = inr refl; hidden = refl; replies = refl; epoch = refl; rolled = refl; plain = ap prepared is })

module _ (config : Config) (s : State) (req : ReqId) (moment : Moment) (m : Plain (List ℕ)) (now next : ℕ) (asked : Asked true false s req m now next) where
  abbrev commit_turn : Turn
  commit_turn = ending s req (Prepare (s.durable.epoch + 1) moment.0 (chunk_count s)) true (tell_all config (s.durable.epoch + 1) ends.Prepare) (s.durable.epoch + 1) (is_later (last_reply s req.client) req.number)

  abbrev committing : Bool → List ℕ → Turn
  committing preparing unquiet = unless (first_of (commit_tests s.durable.phase preparing unquiet (is_last_epoch s.durable))) s req commit_turn

  commits_so : prepare_commit config s req moment ≡ committing true []
  commits_so = ap (λ (b : Bool). committing b (all_unquiet s)) asked.begun ∙ ap (committing true) (all_quiet s asked.still)

  commit_room : (room : Bool) → FitsAndStands s (if room then commit_turn else refused s req refusals.Full)
      → WasShort req (if room then commit_turn else refused s req refusals.Full) ⊎ WentTo false false req (if room then commit_turn else refused s req refusals.Full) (tell_all config (now + 1) ends.Prepare) (Ok (answers.Epoch (now + 1))) (prepared m) (now + 1) next
  commit_room false so = inl (full req s)
  commit_room true so = inr (subst (λ (n : ℕ). WentTo false false req commit_turn (tell_all config (n + 1) ends.Prepare) (Ok (answers.Epoch (n + 1))) (prepared m) (now + 1) next) asked.shows.epoch
      (ending_went true false s req m (prepared m) now next asked (Prepare (s.durable.epoch + 1) moment.0 (chunk_count s)) (tell_all config (s.durable.epoch + 1) ends.Prepare) (s.durable.epoch + 1) false true (is_later (last_reply s req.client) req.number)
      (prepare_leaves s.durable commit_turn.after.durable m (s.durable.epoch + 1) moment.0 (chunk_count s) asked.shows.plain (one_applied s.durable commit_turn.after.durable (Prepare (s.durable.epoch + 1) moment.0 (chunk_count s)) so.fits)) so))

  commit_tested : (exhausted : Bool) → FitsAndStands s (unless (first_of ((exhausted, refusals.Exhausted) ∷ [])) s req commit_turn)
      → WasShort req (unless (first_of ((exhausted, refusals.Exhausted) ∷ [])) s req commit_turn) ⊎ WentTo false false req (unless (first_of ((exhausted, refusals.Exhausted) ∷ [])) s req commit_turn) (tell_all config (now + 1) ends.Prepare) (Ok (answers.Epoch (now + 1))) (prepared m) (now + 1) next
  commit_tested true so = inl (exhausted req s)
  commit_tested false so = commit_room (fits s.log commit_turn.records) so

pub prepares_commit : PreparesCommit
prepares_commit config s req moment m now next asked number =
    let is = comes_to_tests true false config s req moment m now next asked calls.PrepareCommit refl refl refl refl in
    let so = fits_so true false config s req moment m now next asked calls.PrepareCommit tt number is in
    let same = commits_so config s req moment m now next asked in
    subst (λ (t : Turn). WasShort req t ⊎ WentTo false false req t (tell_all config (now + 1) ends.Prepare) (Ok (answers.Epoch (now + 1))) (prepared m) (now + 1) next) (sym (is ∙ same))
    (commit_tested config s req moment m now next asked (is_last_epoch s.durable) (subst (FitsAndStands s) same so))

-- ---- a finalize

finalize_leaves : (d next : Durable) (m : Plain (List ℕ)) (epoch : ℕ) → machine_of bare d ≡ m → applied d (Finalize epoch) ≡ Some next → Leaves d next false (finalized m)
unfolding applied
finalize_leaves d next m epoch is h =
    subst (λ (n : Durable). Leaves d n false (finalized m)) (fits_gives (is_upgrade d.phase && is_next_epoch d.epoch epoch) (without_prepared (with_epoch d ends.Finalize Ordinary)) next h).1
    (record { chunks = refl; prepared = inr refl; hidden = refl; replies = refl; epoch = refl; rolled = refl; plain = ap finalized is })

module _ (config : Config) (s : State) (req : ReqId) (m : Plain (List ℕ)) (now next : ℕ) (asked : Asked false false s req m now next) where
  abbrev final_turn : Turn
  final_turn = ending s req (Finalize (s.durable.epoch + 1)) false (tell_all config (s.durable.epoch + 1) ends.Finalize) (s.durable.epoch + 1) (is_later (last_reply s req.client) req.number)

  final_room : (room : Bool) → FitsAndStands s (if room then final_turn else refused s req refusals.Full)
      → WasShort req (if room then final_turn else refused s req refusals.Full) ⊎ WentTo false false req (if room then final_turn else refused s req refusals.Full) (tell_all config (now + 1) ends.Finalize) (Ok (answers.Epoch (now + 1))) (finalized m) (now + 1) next
  final_room false so = inl (full req s)
  final_room true so = inr (subst (λ (n : ℕ). WentTo false false req final_turn (tell_all config (n + 1) ends.Finalize) (Ok (answers.Epoch (n + 1))) (finalized m) (now + 1) next) asked.shows.epoch
      (ending_went false false s req m (finalized m) now next asked (Finalize (s.durable.epoch + 1)) (tell_all config (s.durable.epoch + 1) ends.Finalize) (s.durable.epoch + 1) false false (is_later (last_reply s req.client) req.number)
      (finalize_leaves s.durable final_turn.after.durable m (s.durable.epoch + 1) asked.shows.plain (one_applied s.durable final_turn.after.durable (Finalize (s.durable.epoch + 1)) so.fits)) so))

  final_tested : (exhausted : Bool) → FitsAndStands s (unless (first_of ((exhausted, refusals.Exhausted) ∷ [])) s req final_turn)
      → WasShort req (unless (first_of ((exhausted, refusals.Exhausted) ∷ [])) s req final_turn) ⊎ WentTo false false req (unless (first_of ((exhausted, refusals.Exhausted) ∷ [])) s req final_turn) (tell_all config (now + 1) ends.Finalize) (Ok (answers.Epoch (now + 1))) (finalized m) (now + 1) next
  final_tested true so = inl (exhausted req s)
  final_tested false so = final_room (fits s.log final_turn.records) so

  abbrev finalizing : Phase → Turn
  finalizing phase = unless (first_of (end_tests phase (is_last_epoch s.durable))) s req final_turn

  finalizes_in : (phase : Phase) → phase ≡ Upgrade → FitsAndStands s (finalizing phase) → WasShort req (finalizing phase) ⊎ WentTo false false req (finalizing phase) (tell_all config (now + 1) ends.Finalize) (Ok (answers.Epoch (now + 1))) (finalized m) (now + 1) next
  finalizes_in Ordinary is so = absurd (cc)
  finalizes_in Upgrade is so = final_tested (is_last_epoch s.durable) so
  finalizes_in Rolling is so = absurd (cc)

  nothing_to_end : (phase : Phase) → phase ≡ Ordinary → FitsAndStands s (finalizing phase) → WentTo false false req (finalizing phase) [] (Err refusals.NotUpgrading) m now next
  nothing_to_end Ordinary is so = refused_went false false s req refusals.NotUpgrading m now next asked so
  nothing_to_end Upgrade is so = absurd (cc)
  nothing_to_end Rolling is so = absurd (cc)

pub finalizes_go : FinalizesGo
finalizes_go config s req moment m now next asked number =
    let is = comes_to_tests false false config s req moment m now next asked calls.Finalize refl refl refl refl in
    let so = fits_so false false config s req moment m now next asked calls.Finalize tt number is in (
      λ none. subst (λ (t : Turn). WentTo false false req t [] (Err refusals.NotUpgrading) m now next) (sym is)
          (nothing_to_end config s req m now next asked s.durable.phase (is_ordinary_where_none false false config s req moment m now next asked refl none) so),
      λ kept some. subst (λ (t : Turn). WasShort req t ⊎ WentTo false false req t (tell_all config (now + 1) ends.Finalize) (Ok (answers.Epoch (now + 1))) (finalized m) (now + 1) next) (sym is)
          (finalizes_in config s req m now next asked s.durable.phase (is_upgrade_where_kept false false config s req moment m now next asked kept refl some) so),
    )
