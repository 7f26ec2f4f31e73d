-- A rollback at a master of which no chunk is settled: it is begun, servers that name nothing change nothing, and it is committed.
use Rattle.std.proofs.Common.{arith, ◌≡◌, ◌⊎◌, inl, inr, ◌∙◌, ◌+◌, ◌&&◌, ◌==◌, ℕ, Bool, true, false, List, [], ◌∷◌, nat_lt, refl, sym, ap, subst}
use Rattle.std.specs.Prelude.{Option, Some, None, Ok, Err, is_some, if◌then◌else◌}
use Rattle.std.specs.FinMap as fin
use Rattle.std.specs.Ordering.{nat_cmp}
use Rattle.std.proofs.lemmas.Bool.{false≢true}
use Rattle.std.proofs.lemmas.Bool.Decides.{nat_tests}
use Rattle.gs_base.specs.declared.config.Config.{Config}
use Rattle.gs_base.specs.declared.epoch.EpochEnd.TheVariants as ends
use Rattle.gs_base.specs.declared.numbers.Moment.{Moment}
use Rattle.gs_base.specs.declared.numbers.ReqId.{ReqId}
use Rattle.gs_base.specs.declared.refusal.Refusal.TheVariants as refusals
use Rattle.gs_edit.specs.Machine.{Plain, restored}
use Rattle.gs_edit.specs.Mapped.{mapped_rows}
use Rattle.gs_edit.specs.View.{NamesView}
use Rattle.gs_msg.specs.declared.answer.Answer.TheVariants as answers
use Rattle.gs_msg.specs.declared.call.Call.TheVariants as calls
use Rattle.gs_laws_master.proofs.lemmas.upgrades.Beginnings.{fits_gives}
use Rattle.gs_laws_master.specs.Standing.{FitsAndStands}
use Rattle.gs_laws_plain.specs.commands.Commands.{Texts}
use Rattle.gs_laws_plain.specs.commands.Records.{kept_in, machine_of}
use Rattle.gs_master_record.specs.Plain.{RollbackBegin, RollbackCommit}
use Rattle.gs_master_record.specs.declared.checkpoint.Phase.{Phase}
use Rattle.gs_master_record.specs.declared.checkpoint.Phase.TheVariants.{Ordinary, Upgrade, Rolling}
use Rattle.gs_master_spec.specs.Applied.{after_undoing, applied, are_answers, is_next_epoch, rolled_back, with_epoch}
use Rattle.gs_master_spec.specs.Durable.{Durable, is_listed, is_ordinary, is_rolling, is_upgrade, prepared_view}
use Rattle.gs_master_spec.specs.Handling.{handle}
use Rattle.gs_master_spec.specs.Hearing.{learned}
use Rattle.gs_master_spec.specs.Replies.{is_later}
use Rattle.gs_master_spec.specs.Settling.{requests_of}
use Rattle.gs_master_spec.specs.State.{Fault, Sound, State, Turn, all_ended_by, and_then, first_of, fits, is_failed, kept_in_memory, last_reply, met_by, refused, reply_to, turned, unmoved}
use Rattle.gs_master_spec.specs.Undoing.{all_undone}
use Rattle.gs_master_spec.specs.Upgrades.{accepted_plan, answers_for, commit_if, commit_on, end_tests, is_last_epoch, rollback_begin, rollback_commit, tell_all, told_of, unless, unrestored}
use Rattle.gs_master_spec.specs.declared.asking.Prepared.{Prepared}
use Rattle.gs_master_spec.specs.declared.change.Change.TheVariants as changes
use Rattle.gs_master_spec.specs.declared.pending.Pending.{Pending}
use Rattle.gs_laws_plain.proofs.lemmas.calm.Answered.{insert_up, more}
use Rattle.gs_laws_plain.proofs.lemmas.calm.Asking.{comes_to_tests, fits_so, is_ordinary_where_none, is_upgrade_where_kept, no_entries}
use Rattle.gs_laws_plain.proofs.lemmas.calm.Bare.{no_refs, unlisted}
use Rattle.gs_laws_plain.proofs.lemmas.calm.Going.{one_applied, refused_went}
use Rattle.gs_laws_plain.proofs.lemmas.calm.Preparing.{Leaves, ending, ending_went, exhausted, full, kept_if}
use Rattle.gs_laws_plain.specs.calm.Calm.{Asked, IsUpTo, LearnedLeaves, RollbacksBegin, RollbacksCommit, WasShort, WentTo, bare}

-- ---- it is begun

begin_leaves : (d next : Durable) (m : Plain (List ℕ)) (epoch : ℕ) → d.phase ≡ Upgrade → machine_of bare d ≡ m → applied d (RollbackBegin epoch) ≡ Some next → Leaves d next true m
unfolding applied
begin_leaves d next m epoch stands is h =
    subst (λ (n : Durable). Leaves d n true m) (fits_gives (is_upgrade d.phase && is_next_epoch d.epoch epoch) (with_epoch d ends.Rollback Rolling) next h).1
    (record {
      chunks = refl;
      prepared = inl refl;
      hidden = refl;
      replies = refl;
      epoch = refl;
      rolled = refl;
      plain = ap (λ (p : Phase). Rattle.gs_laws_plain.specs.commands.Edits.shown bare.now (kept_in bare.before p (all_undone d.inverses d.names)) d.names) (sym stands) ∙ is;
    })

module _ (config : Config) (s : State) (req : ReqId) (m : Plain (List ℕ)) (now next : ℕ) (asked : Asked false false s req m now next) where
  abbrev behind_record : State
  behind_record = (turned s (record { records = RollbackBegin (s.durable.epoch + 1) ∷ []; changes = []; sent = []; said = None })).after

  abbrev back_turn : Turn
  back_turn = ending s req (RollbackBegin (s.durable.epoch + 1)) false (tell_all config (s.durable.epoch + 1) ends.Rollback) (s.durable.epoch + 1) (is_later (last_reply behind_record req.client) req.number)

  abbrev going_back : Phase → List Pending → Turn
  going_back phase pending = unless (first_of (end_tests phase (is_last_epoch s.durable))) s req
      (and_then (and_then (turned s (record { records = RollbackBegin (s.durable.epoch + 1) ∷ []; changes = []; sent = []; said = None })) (λ next. all_ended_by next (requests_of pending) refusals.RollingBack))
      (λ next. turned next (accepted_plan next req [] [] (tell_all config (s.durable.epoch + 1) ends.Rollback) (s.durable.epoch + 1))))

  back_room : (stands : s.durable.phase ≡ Upgrade) (room : Bool) → FitsAndStands s (if room then back_turn else refused s req refusals.Full)
      → WasShort req (if room then back_turn else refused s req refusals.Full) ⊎ WentTo false true req (if room then back_turn else refused s req refusals.Full) (tell_all config (now + 1) ends.Rollback) (Ok (answers.Epoch (now + 1))) m (now + 1) next
  back_room stands false so = inl (full req s)
  back_room stands true so = inr (subst (λ (n : ℕ). WentTo false true req back_turn (tell_all config (n + 1) ends.Rollback) (Ok (answers.Epoch (n + 1))) m (now + 1) next) asked.shows.epoch
      (ending_went false false s req m m now next asked (RollbackBegin (s.durable.epoch + 1)) (tell_all config (s.durable.epoch + 1) ends.Rollback) (s.durable.epoch + 1) true false (is_later (last_reply behind_record req.client) req.number)
      (begin_leaves s.durable back_turn.after.durable m (s.durable.epoch + 1) stands asked.shows.plain (one_applied s.durable back_turn.after.durable (RollbackBegin (s.durable.epoch + 1)) so.fits)) so))

  back_tested : (stands : s.durable.phase ≡ Upgrade) (exhausts : Bool) → FitsAndStands s (unless (first_of ((exhausts, refusals.Exhausted) ∷ [])) s req back_turn)
      → WasShort req (unless (first_of ((exhausts, refusals.Exhausted) ∷ [])) s req back_turn) ⊎ WentTo false true req (unless (first_of ((exhausts, refusals.Exhausted) ∷ [])) s req back_turn) (tell_all config (now + 1) ends.Rollback) (Ok (answers.Epoch (now + 1))) m (now + 1) next
  back_tested stands true so = inl (exhausted req s)
  back_tested stands false so = back_room stands (fits s.log back_turn.records) so

  back_in : (stands : s.durable.phase ≡ Upgrade) (phase : Phase) → phase ≡ Upgrade → FitsAndStands s (going_back phase []) → WasShort req (going_back phase []) ⊎ WentTo false true req (going_back phase []) (tell_all config (now + 1) ends.Rollback) (Ok (answers.Epoch (now + 1))) m (now + 1) next
  back_in stands Ordinary is so = absurd (cc)
  back_in stands Upgrade is so = back_tested stands (is_last_epoch s.durable) so
  back_in stands Rolling is so = absurd (cc)

  nothing_to_take_back : (phase : Phase) → phase ≡ Ordinary → FitsAndStands s (going_back phase []) → WentTo false false req (going_back phase []) [] (Err refusals.NotUpgrading) m now next
  nothing_to_take_back Ordinary is so = refused_went false false s req refusals.NotUpgrading m now next asked so
  nothing_to_take_back Upgrade is so = absurd (cc)
  nothing_to_take_back Rolling is so = absurd (cc)

pub rollbacks_begin : RollbacksBegin
rollbacks_begin config s req moment m now next asked number =
    let is = comes_to_tests false false config s req moment m now next asked calls.RollbackBegin refl refl refl refl in
    let so = fits_so false false config s req moment m now next asked calls.RollbackBegin tt number is in
    let same : rollback_begin config s req ≡ going_back config s req m now next asked s.durable.phase [] = ap (λ (p : List Pending). going_back config s req m now next asked s.durable.phase p) asked.still.pending in
    let fit = subst (FitsAndStands s) same so in (
      λ none. subst (λ (t : Turn). WentTo false false req t [] (Err refusals.NotUpgrading) m now next) (sym (is ∙ same))
          (nothing_to_take_back config s req m now next asked s.durable.phase (is_ordinary_where_none false false config s req moment m now next asked refl none) fit),
      λ kept some. let stands = is_upgrade_where_kept false false config s req moment m now next asked kept refl some in
          subst (λ (t : Turn). WasShort req t ⊎ WentTo false true req t (tell_all config (now + 1) ends.Rollback) (Ok (answers.Epoch (now + 1))) m (now + 1) next) (sym (is ∙ same))
          (back_in config s req m now next asked stands s.durable.phase stands fit),
    )

-- ---- servers answer that they name nothing

learned_so : (s : State) (server epoch : ℕ) (older now : Bool) → older ≡ false → ((if older then Rattle.gs_master_spec.specs.Hearing.sends s (Rattle.gs_master_spec.specs.Hearing.next_epoch s.durable server epoch) else if now then turned s (record { records = []; changes = changes.Restored server [] ∷ []; sent = []; said = None }) else unmoved s).after ≡ s)
    × ((if older then Rattle.gs_master_spec.specs.Hearing.sends s (Rattle.gs_master_spec.specs.Hearing.next_epoch s.durable server epoch) else if now then turned s (record { records = []; changes = changes.Restored server [] ∷ []; sent = []; said = None }) else unmoved s).sent ≡ [])
learned_so s server epoch true now h = absurd (cc)
learned_so s server epoch false true h = (refl, refl)
learned_so s server epoch false false h = (refl, refl)

pub learned_leaves : LearnedLeaves
unfolding handle
learned_leaves config s moment server to still =
    subst (λ (f : Fault). ((if is_failed f then met_by s refusals.Device else learned s server s.durable.epoch []).after ≡ s) × ((if is_failed f then met_by s refusals.Device else learned s server s.durable.epoch []).sent ≡ [])) (sym still.sound)
    (learned_so s server s.durable.epoch (nat_lt s.durable.epoch s.durable.epoch) (is_rolling s.durable.phase && (s.durable.epoch == s.durable.epoch)) (grind (arith, nat_tests)))

-- ---- it is committed

names_are : {a b : NamesView} → ◌≡◌ {A = Option NamesView} (Some a) (Some b) → a ≡ b
names_are h = cc

texts_are : {a b : Texts} → ◌≡◌ {A = Option Texts} (Some a) (Some b) → a ≡ b
texts_are h = cc

rolled_kept : (phase : Phase) (names : NamesView) (kept : Texts) → is_rolling phase ≡ true → kept_in bare.before phase (Some names) ≡ Some kept → mapped_rows bare.before (fin.entries names.tree) ≡ kept
rolled_kept Ordinary names kept r h = absurd (cc)
rolled_kept Upgrade names kept r h = absurd (cc)
rolled_kept Rolling names kept r h = texts_are h

not_there : (listed prepared : Bool) → listed ≡ false → prepared ≡ false → (listed ≡ true) ⊎ (prepared ≡ true) → ⊥
not_there listed prepared l p (inl h) = false≢true (sym l ∙ h)
not_there listed prepared l p (inr h) = false≢true (sym p ∙ h)

nothing_in : (o : Option ℕ) → (is_some o ≡ true → ⊥) → o ≡ None
nothing_in None h = refl
nothing_in (Some x) h = absurd (h refl)

module _ (config : Config) (s : State) (req : ReqId) (moment : Moment) (m : Plain (List ℕ)) (now next : ℕ) (kept : Texts) (asked : Asked false true s req m now next) where
  names_back : NamesView
  names_back = asked.still.firm.stands.kept.back.0

  leads_to : all_undone s.durable.inverses s.durable.names ≡ Some names_back
  unfolding names_back
  leads_to = asked.still.firm.stands.kept.back.1

  stands_not : (phase : Phase) → is_rolling phase ≡ true → is_ordinary phase ≡ false
  stands_not Ordinary r = absurd (cc)
  stands_not Upgrade r = refl
  stands_not Rolling r = refl

  none_back : (chunk : ℕ) → fin.get names_back.refs chunk ≡ None
  none_back chunk = nothing_in (fin.get names_back.refs chunk) (λ some. not_there (is_listed s.durable chunk) (is_some (fin.get s.durable.prepared chunk))
      (ap is_some (unlisted s asked.still chunk)) (ap (λ (p : fin.FinMap nat_cmp Prepared). is_some (fin.get p chunk)) asked.still.prepared ∙ ap is_some (fin.get-empty nat_cmp chunk))
      (asked.still.firm.stands.kept.still names_back chunk leads_to (stands_not s.durable.phase asked.rolled) some))

  nothing_back : fin.entries names_back.refs ≡ []
  nothing_back = no_entries names_back.refs (no_refs names_back.refs none_back)

  abbrev done_turn : Bool → Turn
  done_turn keeps = turned s (record { records = RollbackCommit s.durable.epoch [] ∷ []; changes = changes.RolledBack ∷ kept_if keeps req s.durable.epoch; sent = reply_to req (Ok (answers.Epoch s.durable.epoch)) ∷ []; said = None })

  -- what it leaves of what is durable
  commit_leaves : (d : Durable) → applied s.durable (RollbackCommit s.durable.epoch []) ≡ Some d → rolled_back s.durable [] names_back ≡ d
  unfolding applied
  commit_leaves d h = each (all_undone s.durable.inverses s.durable.names) leads_to h
    where
      each : (o : Option NamesView) → o ≡ Some names_back → after_undoing s.durable s.durable.epoch [] o ≡ Some d → rolled_back s.durable [] names_back ≡ d
      each None is h = absurd (cc)
      each (Some n) is h = ap (rolled_back s.durable []) (sym (names_are is)) ∙ (fits_gives (is_rolling s.durable.phase && ((s.durable.epoch == s.durable.epoch) && are_answers (prepared_view s.durable) (fin.entries n.refs) [])) (rolled_back s.durable [] n) d h).1

  plain_back : (d : Durable) → m.kept ≡ Some kept → rolled_back s.durable [] names_back ≡ d → machine_of bare d ≡ restored m kept
  plain_back d some is = subst (λ (d : Durable). machine_of bare d ≡ restored m kept) is
      (ap (λ (t : Texts). record { tree = t; kept = None })
      (rolled_kept s.durable.phase names_back kept asked.rolled (ap (kept_in bare.before s.durable.phase) (sym leads_to) ∙ ap (λ (p : Plain (List ℕ)). p.kept) asked.shows.plain ∙ some)))

  number_left : (n : ℕ) → n ≡ s.durable.next_hidden → (n ≡ next) ⊎ (n ≡ 0)
  number_left n is = each asked.shows.hidden
    where
      each : (s.durable.next_hidden ≡ next) ⊎ (s.durable.next_hidden ≡ 0) → (n ≡ next) ⊎ (n ≡ 0)
      each (inl h) = inl (is ∙ h)
      each (inr h) = inr (is ∙ h)

  done_went : m.kept ≡ Some kept → (keeps : Bool) → FitsAndStands s (done_turn keeps) → WentTo false false req (done_turn keeps) [] (Ok (answers.Epoch s.durable.epoch)) (restored m kept) now next
  done_went some true so =
      let is = commit_leaves (done_turn true).after.durable (one_applied s.durable (done_turn true).after.durable (RollbackCommit s.durable.epoch []) so.fits) in
      record {
        sent = refl;
        still = record { sound = asked.still.sound; moving = refl; pending = asked.still.pending; locks = asked.still.locks; chunks = subst (λ (d : Durable). d.chunks ≡ fin.empty) is refl; prepared = subst (λ (d : Durable). d.prepared ≡ fin.empty) is refl; firm = so.firm };
        begun = asked.begun;
        rolled = subst (λ (d : Durable). is_rolling d.phase ≡ false) is refl;
        shows = record { plain = plain_back (done_turn true).after.durable some is; epoch = subst (λ (d : Durable). d.epoch ≡ now) is asked.shows.epoch; hidden = number_left (done_turn true).after.durable.next_hidden (subst (λ (d : Durable). d.next_hidden ≡ s.durable.next_hidden) is refl) };
        answered = record {
          recorded = subst (λ (d : Durable). IsUpTo req.number (fin.get d.replies req.client)) is (more s req.client asked.last req.number asked.answered asked.above).recorded;
          remembered = insert_up s.volatile.replies req.client asked.last req.number (Ok (answers.Epoch s.durable.epoch)) asked.answered.remembered asked.above;
        };
      }
  done_went some false so =
      let is = commit_leaves (done_turn false).after.durable (one_applied s.durable (done_turn false).after.durable (RollbackCommit s.durable.epoch []) so.fits) in
      record {
        sent = refl;
        still = record { sound = asked.still.sound; moving = refl; pending = asked.still.pending; locks = asked.still.locks; chunks = subst (λ (d : Durable). d.chunks ≡ fin.empty) is refl; prepared = subst (λ (d : Durable). d.prepared ≡ fin.empty) is refl; firm = so.firm };
        begun = asked.begun;
        rolled = subst (λ (d : Durable). is_rolling d.phase ≡ false) is refl;
        shows = record { plain = plain_back (done_turn false).after.durable some is; epoch = subst (λ (d : Durable). d.epoch ≡ now) is asked.shows.epoch; hidden = number_left (done_turn false).after.durable.next_hidden (subst (λ (d : Durable). d.next_hidden ≡ s.durable.next_hidden) is refl) };
        answered = record {
          recorded = subst (λ (d : Durable). IsUpTo req.number (fin.get d.replies req.client)) is (more s req.client asked.last req.number asked.answered asked.above).recorded;
          remembered = (more s req.client asked.last req.number asked.answered asked.above).remembered;
        };
      }

  done_room : m.kept ≡ Some kept → (room : Bool) → FitsAndStands s (if room then done_turn (is_later (last_reply s req.client) req.number) else refused s req refusals.Full)
      → WasShort req (if room then done_turn (is_later (last_reply s req.client) req.number) else refused s req refusals.Full) ⊎ WentTo false false req (if room then done_turn (is_later (last_reply s req.client) req.number) else refused s req refusals.Full) [] (Ok (answers.Epoch now)) (restored m kept) now next
  done_room some false so = inl (full req s)
  done_room some true so = inr (subst (λ (n : ℕ). WentTo false false req (done_turn (is_later (last_reply s req.client) req.number)) [] (Ok (answers.Epoch n)) (restored m kept) now next) asked.shows.epoch (done_went some (is_later (last_reply s req.client) req.number) so))

  -- the commit, by the references of the names of then
  abbrev committed : List (ℕ × ℕ) → Turn
  committed refs = Rattle.gs_master_spec.specs.State.if_room s
      (turned s (accepted_plan s req (RollbackCommit s.durable.epoch (answers_for (prepared_view s.durable) (told_of s) refs) ∷ []) (changes.RolledBack ∷ []) [] s.durable.epoch))
      (refused s req refusals.Full)

  abbrev committing : List (ℕ × ℕ) → Option ℕ → Turn
  committing refs (Some chunk) = refused s req (refusals.Unrestored chunk)
  committing refs None = committed refs

  commits_so : rollback_commit s req ≡ committed []
  commits_so =
      ap (λ (b : Bool). if b then commit_on s req (all_undone s.durable.inverses s.durable.names) else refused s req refusals.NotUpgrading) asked.rolled
      ∙ ap (commit_on s req) leads_to
      ∙ same (unrestored (prepared_view s.durable) (told_of s) (fin.entries names_back.refs)) (ap (unrestored (prepared_view s.durable) (told_of s)) nothing_back)
      ∙ ap committed nothing_back
    where
      same : (o : Option ℕ) → o ≡ None → commit_if s req names_back o ≡ committed (fin.entries names_back.refs)
      same None is = refl
      same (Some chunk) is = absurd (cc)

pub rollbacks_commit : RollbacksCommit
rollbacks_commit config s req moment m now next kept asked number some =
    let is = comes_to_tests false true config s req moment m now next asked calls.RollbackCommit refl refl refl refl in
    let so = fits_so false true config s req moment m now next asked calls.RollbackCommit tt number is in
    let same = commits_so config s req moment m now next kept asked in
    subst (λ (t : Turn). WasShort req t ⊎ WentTo false false req t [] (Ok (answers.Epoch now)) (restored m kept) now next) (sym (is ∙ same))
    (done_room config s req moment m now next kept asked some (fits s.log (RollbackCommit s.durable.epoch [] ∷ [])) (subst (FitsAndStands s) same so))
