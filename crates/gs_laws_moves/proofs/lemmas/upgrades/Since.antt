-- What stands of a prepare, through each turn until its rollback has ended.
use Rattle.std.proofs.Common.{arith, ◌≡◌, ◌⊎◌, inl, inr, ◌∙◌, ◌&&◌, ◌==◌, ◌<◌, ℕ, zero, suc, Bool, true, false, cond, List, [], ◌∷◌, length, nat_lt, refl, sym, ap, subst}
use Rattle.std.specs.Prelude.{Option, Some, None, filter_map, is_some, option_map, option_and_then, slice_get, take, Result, Ok, Err, if◌then◌else◌}
use Rattle.std.specs.Cmp.{nat_cmp_total}
use Rattle.std.specs.FinMap as fin
use Rattle.std.specs.List.{cons_option}
use Rattle.std.specs.Ordering.{eq_by_cmp, nat_cmp}
use Rattle.std.proofs.lemmas.Bool.{false≢true, true≢false, and_parts}
use Rattle.gs_base.specs.declared.config.Config.{Config}
use Rattle.gs_base.specs.declared.epoch.EpochEnd.TheVariants as ends
use Rattle.gs_base.specs.declared.numbers.ReqId.{ReqId}
use Rattle.gs_base.specs.declared.refusal.Refusal.{Refusal}
use Rattle.gs_base.specs.declared.refusal.Refusal.TheVariants as refusals
use Rattle.gs_edit.specs.View.{NamesView}
use Rattle.gs_journal.specs.declared.version.Version.TheVariants.{Two}
use Rattle.gs_master_record.specs.Plain.{PlainEdit, PlainEntry, Edited, Said, Propose, Settle, Prepare, Finalize, RollbackBegin, RollbackCommit, Whole, Holder}
use Rattle.gs_master_record.specs.Writable.{IsEntry}
use Rattle.gs_master_record.specs.declared.checkpoint.Phase.{Phase}
use Rattle.gs_master_record.specs.declared.checkpoint.Phase.TheVariants.{Ordinary, Upgrade, Rolling}
use Rattle.gs_master_spec.specs.Applied.{after_edit, after_undoing, applied, are_answers, are_at_rest, forgotten_by, held_by, is_next_epoch, is_whole_entry, may_be_settled, may_edit, may_propose, proposed, replayed, restored_chunk, restored_view, rolled_back, view_in, with_edit, with_epoch, with_view, without_prepared}
use Rattle.gs_master_spec.specs.Durable.{Durable, Settled, if_before, is_listed, is_ordinary, is_rolling, is_upgrade, prepared_of, prepared_view, upgrade_epoch, with_prepared}
use Rattle.gs_master_spec.specs.Handling.{tidied}
use Rattle.gs_master_spec.specs.State.{State, Turn, fits, if_room, refused, turned}
use Rattle.gs_master_spec.specs.Undoing.{all_undone, edited_names}
use Rattle.gs_master_spec.specs.Upgrades.{accepted_plan, answers_for, commit_if, commit_on, restored_on, rollback_commit, told_of, unrestored}
use Rattle.gs_master_spec.specs.Whole.{checkpoint_of}
use Rattle.gs_master_spec.specs.declared.asking.Prepared.{Prepared}
use Rattle.gs_master_spec.specs.declared.change.Change.TheVariants as changes
use Rattle.gs_laws_master.specs.Promises.{AllFit, CanCommit, IsKept, IsStillThere, IsWritten, answers_of, goes_on_within, members_for}
use Rattle.gs_laws_master.specs.Reached.{GoWithin}
use Rattle.gs_laws_master.proofs.lemmas.upgrades.Beginnings.{fits_gives}
use Rattle.gs_laws_master.proofs.lemmas.upgrades.Committing.{answers_exactly, commits_exactly}
use Rattle.gs_laws_master.proofs.lemmas.keeping.Kept.{is_tied, keeps_views}
use Rattle.gs_laws_master.proofs.lemmas.keeping.KeptAll.{keeps_all, tidied_kept}
use Rattle.gs_laws_master.proofs.lemmas.keeping.KeptEdits.{forgets_only}
use Rattle.gs_laws_master.proofs.lemmas.keeping.KeptViews.{same_key}
use Rattle.gs_laws_master.proofs.lemmas.upgrades.LedBack.{leads_back}
use Rattle.gs_laws_master.proofs.lemmas.telling.ToldAgain.{get_tidied, tells_all}
use Rattle.gs_laws_moves.proofs.lemmas.moves.Epochs.{epochs_go}
use Rattle.gs_laws_moves.proofs.lemmas.moves.Right.{one_fits}
use Rattle.gs_laws_moves.proofs.lemmas.moves.Stands.{once_stands}
use Rattle.gs_laws_moves.specs.moves.Epochs.{Begun, Committed, EpochGoes, Finalized, Prepared as Prepares_so, Stays}
use Rattle.gs_laws_moves.specs.moves.Guards.{Heard, IsMade}
use Rattle.gs_laws_moves.specs.moves.Moves.{Move, Prepares, Finalizes, CommitsRollback, move_turn}
use Rattle.gs_laws_moves.proofs.lemmas.upgrades.Records.{Goes, Paced, Turns, chain_within, is_bound, paced}
use Rattle.gs_laws_moves.specs.upgrades.Since.{CutsLead, IsGivenBack, IsSince, GoesOnSince, GoesOnSinceAt, TurnsBegin, TurnsLead}

durable_is : {a b : Durable} → ◌≡◌ {A = Option Durable} (Some a) (Some b) → a ≡ b
durable_is h = cc

names_is : {a b : NamesView} → ◌≡◌ {A = Option NamesView} (Some a) (Some b) → a ≡ b
names_is h = cc

entry_is : {a b : PlainEntry} → ◌≡◌ {A = Option PlainEntry} (Some a) (Some b) → a ≡ b
entry_is h = cc

-- ---- phases

not_whole : (entry : PlainEntry) → goes_on_within entry ≡ true → is_whole_entry entry ≡ false
not_whole (Edited by edit) h = refl
not_whole (Said to refusal) h = refl
not_whole (Propose chunk version) h = refl
not_whole (Settle v) h = refl
not_whole (Prepare epoch moment chunks) h = refl
not_whole (Finalize epoch) h = refl
not_whole (RollbackBegin epoch) h = refl
not_whole (RollbackCommit epoch answers) h = refl
not_whole (Whole c) h = absurd (false≢true h)
not_whole (Holder chunk server) h = refl

abbrev SamePhase : Durable → Durable → Type 0
SamePhase d next = is_ordinary next.phase ≡ is_ordinary d.phase

as_phase : (d n next : Durable) → n ≡ next → SamePhase d n → SamePhase d next
as_phase d n next is same = subst (SamePhase d) is same

edited_phase : (d next : Durable) (by : ReqId) (edit : PlainEdit) (names : Result NamesView Refusal) → after_edit d by edit names ≡ Some next → SamePhase d next
edited_phase d next by edit (Ok names) e =
    as_phase d (with_edit d by edit names) next (fits_gives (may_edit d edit) (with_edit d by edit names) next e).1 (ap (λ (x : Durable). is_ordinary x.phase) (forgets_only d (forgotten_by edit)))
edited_phase d next by edit (Err refusal) e = absurd (false≢true (ap is_some e))

upgrade_stands : (phase : Phase) → is_upgrade phase ≡ true → false ≡ is_ordinary phase
upgrade_stands Ordinary h = absurd (false≢true h)
upgrade_stands Upgrade h = refl
upgrade_stands Rolling h = refl

not_both : (phase : Phase) → is_upgrade phase ≡ true → is_rolling phase ≡ true → ⊥
not_both Ordinary u r = false≢true u
not_both Upgrade u r = false≢true r
not_both Rolling u r = false≢true u

rolling_stands : (phase : Phase) → is_rolling phase ≡ true → is_ordinary phase ≡ true → ⊥
rolling_stands Ordinary r o = false≢true r
rolling_stands Upgrade r o = false≢true r
rolling_stands Rolling r o = false≢true o

phase_within : (entry : PlainEntry) (d next : Durable) → goes_on_within entry ≡ true → applied d entry ≡ Some next → SamePhase d next
unfolding applied
phase_within (Edited by edit) d next within e = edited_phase d next by edit (edited_names edit d.names) e
phase_within (Said to refusal) d next within e = as_phase d _ next (fits_gives true _ next e).1 refl
phase_within (Propose chunk version) d next within e =
    as_phase d (proposed d chunk version) next (fits_gives (may_propose d.phase d.next_handle d.next_version chunk version (fin.get d.chunks chunk)) (proposed d chunk version) next e).1 refl
phase_within (Settle v) d next within e = as_phase d (with_view d v) next (fits_gives (may_be_settled d v) (with_view d v) next e).1 refl
phase_within (Prepare epoch moment chunks) d next within e = absurd (false≢true within)
phase_within (Finalize epoch) d next within e = absurd (false≢true within)
phase_within (RollbackBegin epoch) d next within e =
    let is = fits_gives (is_upgrade d.phase && is_next_epoch d.epoch epoch) (with_epoch d ends.Rollback Rolling) next e in
    as_phase d (with_epoch d ends.Rollback Rolling) next is.1 (upgrade_stands d.phase (and_parts (is_upgrade d.phase) (is_next_epoch d.epoch epoch) is.0).0)
phase_within (RollbackCommit epoch answers) d next within e = absurd (false≢true within)
phase_within (Whole c) d next within e = absurd (false≢true within)
phase_within (Holder chunk server) d next within e =
    as_phase d (record d { prepared = with_prepared d chunk (held_by server (prepared_view d chunk)) }) next
    (fits_gives (is_upgrade d.phase && (nat_lt server 16 && is_some (prepared_view d chunk))) (record d { prepared = with_prepared d chunk (held_by server (prepared_view d chunk)) }) next e).1 refl

-- ---- since a prepare

module _ (prepared : Durable) where
  since_one : (now next : Durable) (entry : PlainEntry) → IsSince prepared now → goes_on_within entry ≡ true → IsEntry Two entry → applied now entry ≡ Some next → IsSince prepared next
  since_one now next entry s within written e = record {
    kept = keeps_all entry (not_whole entry within) now next written s.kept e;
    stands = phase_within entry now next within e ∙ s.stands;
    back = leads_back entry now next s.kept s.stands within e ∙ s.back;
    views = λ chunk listed. keeps_views entry now next s.stands within e chunk ∙ s.views chunk listed;
  }

  -- a checkpoint of what stands leaves the prepared view of each chunk that is still there
  tidied_view : (now : Durable) (chunk : ℕ) → IsStillThere now chunk → prepared_view (tidied now) chunk ≡ prepared_view now chunk
  tidied_view now chunk (inl listed) = ap (prepared_of (upgrade_epoch now.phase now.epoch) (fin.get now.prepared chunk)) (get_tidied now chunk ∙ ap (λ b. cond b (fin.get now.chunks chunk) None) listed)
  tidied_view now chunk (inr kept) = each (upgrade_epoch now.phase now.epoch) (fin.get now.prepared chunk) kept
    where
      each : (u : Option ℕ) (o : Option Prepared) → is_some o ≡ true → prepared_of u o (fin.get (tidied now).chunks chunk) ≡ prepared_of u o (fin.get now.chunks chunk)
      each None o some = refl
      each (Some up) None some = absurd (false≢true some)
      each (Some up) (Some p) some = refl

  since_tidied : (now : Durable) → IsSince prepared now → IsSince prepared (tidied now)
  since_tidied now s = record {
    kept = tidied_kept now s.kept;
    stands = s.stands;
    back = s.back;
    views = λ chunk listed. ap (option_map (λ (p : Prepared). p.view)) (tidied_view now chunk (s.kept.still prepared.names chunk s.back s.stands listed)) ∙ s.views chunk listed;
  }

  since_checkpoint : (now next : Durable) (entry : PlainEntry) → IsSince prepared now → entry ≡ Whole (checkpoint_of now) → applied now entry ≡ Some next → IsSince prepared next
  unfolding applied
  since_checkpoint now next entry s is e = subst (IsSince prepared) (durable_is (sym (tells_all now s.kept) ∙ ap (applied now) (sym is) ∙ e)) (since_tidied now s)

  since_any : (now next : Durable) (entry : PlainEntry) → IsSince prepared now → ((goes_on_within entry ≡ true) × IsEntry Two entry) ⊎ (entry ≡ Whole (checkpoint_of now)) → applied now entry ≡ Some next → IsSince prepared next
  since_any now next entry s (inl within) e = since_one now next entry s within.0 within.1 e
  since_any now next entry s (inr is) e = since_checkpoint now next entry s is e

  since_all : (now last : Durable) (entries : List PlainEntry) → IsSince prepared now → GoWithin now entries → replayed now entries ≡ Some last → IsSince prepared last
  since_all now last [] s within e = subst (IsSince prepared) (durable_is e) s
  since_all now last (entry ∷ entries) s within e = each (applied now entry) refl (λ n is rest. since_all n last entries (since_any now n entry s within.0 is) (within.1 n is) rest) e
    where
      each : (o : Option Durable) → applied now entry ≡ o → ((n : Durable) → applied now entry ≡ Some n → replayed n entries ≡ Some last → IsSince prepared last) → option_and_then (λ n. replayed n entries) o ≡ Some last → IsSince prepared last
      each None is all h = absurd (false≢true (ap is_some h))
      each (Some n) is all h = all n is h

  -- where these are cut
  abbrev CutSo : List PlainEntry → ℕ → Durable → Type 0
  CutSo entries place d = IsSince prepared d × ((entry : PlainEntry) (next : Durable) → slice_get entries place ≡ Some entry → applied d entry ≡ Some next → IsSince prepared next)

  cut_within : (now d : Durable) (entries : List PlainEntry) (place : ℕ) → IsSince prepared now → GoWithin now entries → replayed now (take place entries) ≡ Some d → CutSo entries place d
  cut_within now d [] zero s within fit = (subst (IsSince prepared) (durable_is fit) s, λ entry next at e. absurd (false≢true (ap is_some at)))
  cut_within now d [] (suc place) s within fit = (subst (IsSince prepared) (durable_is fit) s, λ entry next at e. absurd (false≢true (ap is_some at)))
  cut_within now d (x ∷ xs) zero s within fit = (
    subst (IsSince prepared) (durable_is fit) s,
    λ entry next at e. since_any now next x s within.0 (ap (applied now) (entry_is at) ∙ ap (λ m. applied m entry) (durable_is fit) ∙ e),
  )
  cut_within now d (x ∷ xs) (suc place) s within fit = each (applied now x) refl (λ n is rest. cut_within n d xs place (since_any now n x s within.0 is) (within.1 n is) rest) fit
    where
      each : (o : Option Durable) → applied now x ≡ o → ((n : Durable) → applied now x ≡ Some n → replayed n (take place xs) ≡ Some d → CutSo xs place d) → option_and_then (λ n. replayed n (take place xs)) o ≡ Some d → CutSo (x ∷ xs) (suc place) d
      each None is all h = absurd (false≢true (ap is_some h))
      each (Some n) is all h = all n is h

-- what stands is led on
still : (s : State) (prepared next : Durable) → IsSince prepared next → GoesOnSince s prepared next
still s prepared next k = record { since = λ off. k; names = λ r o. absurd (false≢true (sym k.stands ∙ o)); restored = λ r o. absurd (false≢true (sym k.stands ∙ o)); given = λ r o. absurd (false≢true (sym k.stands ∙ o)) }

-- ---- what a commit makes of a chunk

prepared_is : {a b : Prepared} → ◌≡◌ {A = Option Prepared} (Some a) (Some b) → a ≡ b
prepared_is h = cc

found_back : (d : Durable) (told : ℕ → List ℕ) (refs : List (ℕ × ℕ)) (q count : ℕ) (p : Prepared) → prepared_view d q ≡ Some p → fin.find nat_cmp q refs ≡ Some count
    → fin.find nat_cmp q (filter_map (restored_chunk d) (answers_for (prepared_view d) told refs)) ≡ Some (restored_view d.epoch p (members_for (answers_for (prepared_view d) told refs) q))
found_back d told [] q count p view found = absurd (false≢true (ap is_some found))
found_back d told (e ∷ refs) q count p view found =
    by_key (λ has. found_back d told refs q count p view has) (prepared_view d e.0) refl (eq_by_cmp nat_cmp q e.0) refl found
    ∙ ap (λ b. Some (restored_view d.epoch p (if b then members else members_for (answers_for (prepared_view d) told refs) q))) (is_tied q e.0)
  where
    members : List ℕ
    members = restored_on (prepared_view d e.0) (told e.0)

    rest : List (ℕ × Settled)
    rest = filter_map (restored_chunk d) (answers_for (prepared_view d) told refs)

    by_key : (fin.find nat_cmp q refs ≡ Some count → fin.find nat_cmp q rest ≡ Some (restored_view d.epoch p (members_for (answers_for (prepared_view d) told refs) q))) → (o : Option Prepared) → prepared_view d e.0 ≡ o → (b : Bool) → eq_by_cmp nat_cmp q e.0 ≡ b → cond b (Some e.1) (fin.find nat_cmp q refs) ≡ Some count
        → fin.find nat_cmp q (cons_option (option_map (λ (r : Prepared). (e.0, restored_view d.epoch r members)) o) rest) ≡ Some (restored_view d.epoch p (if b then members else members_for (answers_for (prepared_view d) told refs) q))
    by_key later None is true key has = absurd (false≢true (ap is_some (sym is ∙ ap (prepared_view d) (sym (same_key q e.0 key)) ∙ view)))
    by_key later None is false key has = later has
    by_key later (Some r) is true key has =
        ap (λ b. cond b (Some (restored_view d.epoch r members)) (fin.find nat_cmp q rest)) key
        ∙ ap (λ z. Some (restored_view d.epoch z members)) (prepared_is (sym is ∙ ap (prepared_view d) (sym (same_key q e.0 key)) ∙ view))
    by_key later (Some r) is false key has = ap (λ b. cond b (Some (restored_view d.epoch r members)) (fin.find nat_cmp q rest)) key ∙ later has

-- ---- one record that begins or ends an upgrade

module _ (s : State) (prepared : Durable) (k : IsSince prepared s.durable) where
  no_prepare : (epoch moment chunks : ℕ) (next : Durable) → applied s.durable (Prepare epoch moment chunks) ≡ Some next → ⊥
  unfolding applied
  no_prepare epoch moment chunks next e =
      let d = s.durable in
      let is = fits_gives (is_ordinary d.phase && (is_next_epoch d.epoch epoch && are_at_rest d)) (without_prepared (with_epoch d ends.Prepare Upgrade)) next e in
      false≢true (sym k.stands ∙ (and_parts (is_ordinary d.phase) (is_next_epoch d.epoch epoch && are_at_rest d) is.0).0)

  finalize_leads : (epoch : ℕ) (next : Durable) → applied s.durable (Finalize epoch) ≡ Some next → GoesOnSince s prepared next
  unfolding applied
  finalize_leads epoch next e =
      let d = s.durable in
      let is = fits_gives (is_upgrade d.phase && is_next_epoch d.epoch epoch) (without_prepared (with_epoch d ends.Finalize Ordinary)) next e in
      let up = (and_parts (is_upgrade d.phase) (is_next_epoch d.epoch epoch) is.0).0 in record {
        since = λ off. absurd (true≢false (ap (λ (x : Durable). is_ordinary x.phase) is.1 ∙ off));
        names = λ r o. absurd (not_both d.phase up r);
        restored = λ r o. absurd (not_both d.phase up r);
        given = λ r o. absurd (not_both d.phase up r);
      }

  -- a commit that may be done is one that all is restored for
  can_commit : (req : ReqId) (names : NamesView) → is_rolling s.durable.phase ≡ true → all_undone s.durable.inverses s.durable.names ≡ Some names → unrestored (prepared_view s.durable) (told_of s) (fin.entries names.refs) ≡ None → CanCommit s
  can_commit req names rolling back none = (commits_exactly s req).0 (subst (λ (t : Turn). (t.said ≡ None) ⊎ (t.said ≡ Some refusals.Full)) (sym is) (by_room (fits s.log done.records)))
    where
      done : Turn
      done = turned s (accepted_plan s req (RollbackCommit s.durable.epoch (answers_for (prepared_view s.durable) (told_of s) (fin.entries names.refs)) ∷ []) (changes.RolledBack ∷ []) [] s.durable.epoch)

      is : rollback_commit s req ≡ if_room s done (refused s req refusals.Full)
      is = ap (λ b. if b then commit_on s req (all_undone s.durable.inverses s.durable.names) else refused s req refusals.NotUpgrading) rolling ∙ ap (commit_on s req) back ∙ ap (commit_if s req names) none

      by_room : (b : Bool) → ((if b then done else refused s req refusals.Full).said ≡ None) ⊎ ((if b then done else refused s req refusals.Full).said ≡ Some refusals.Full)
      by_room true = inl refl
      by_room false = inr refl

  -- a chunk whose prepared view is kept is given to those that have told
  given_back : (names : NamesView) (chunk count : ℕ) → fin.get names.refs chunk ≡ Some count → (next : Durable) → fin.get next.chunks chunk ≡ fin.get (rolled_back s.durable (answers_of s names) names).chunks chunk
      → (o : Option Prepared) → prepared_view s.durable chunk ≡ o → is_some o ≡ true → IsGivenBack s next chunk
  given_back names chunk count has next is None view some = absurd (false≢true some)
  given_back names chunk count has next is (Some p) view some = record {
    settled = restored_view s.durable.epoch p (members_for (answers_of s names) chunk);
    here = is ∙ fin.get-from_entries nat_cmp_total (filter_map (restored_chunk s.durable) (answers_of s names)) chunk
        ∙ found_back s.durable (told_of s) (fin.entries names.refs) chunk count p view (sym (fin.get-entries names.refs chunk) ∙ has);
    still = refl;
    unled = refl;
    stamp = refl;
    members = λ server. answers_exactly s names chunk server (ap is_some has);
  }

  commit_leads : (req : ReqId) (names : NamesView) (epoch : ℕ) (next : Durable) → is_rolling s.durable.phase ≡ true → all_undone s.durable.inverses s.durable.names ≡ Some names
      → unrestored (prepared_view s.durable) (told_of s) (fin.entries names.refs) ≡ None → applied s.durable (RollbackCommit epoch (answers_of s names)) ≡ Some next → GoesOnSince s prepared next
  unfolding applied
  commit_leads req names epoch next rolling back none e =
      let d = s.durable in
      let answers = answers_of s names in
      let is = fits_gives (is_rolling d.phase && ((epoch == d.epoch) && are_answers (prepared_view d) (fin.entries prepared.names.refs) answers)) (rolled_back d answers prepared.names) next (ap (after_undoing d epoch answers) (sym k.back) ∙ e) in
      let can = can_commit req names rolling back none in
      let same = names_is (sym can.back ∙ k.back) in record {
        since = λ off. absurd (true≢false (ap (λ (x : Durable). is_ordinary x.phase) is.1 ∙ off));
        names = λ r o. ap (λ (x : Durable). x.names) (sym is.1);
        restored = λ r o chunk count has more. can.restored chunk count (ap (λ (n : NamesView). fin.get n.refs chunk) same ∙ has) more;
        given = λ r o chunk count has. given_back names chunk count (ap (λ (n : NamesView). fin.get n.refs chunk) (names_is (sym back ∙ k.back)) ∙ has) next
            (ap (λ (x : Durable). fin.get x.chunks chunk) (sym is.1)) (prepared_view d chunk) refl (k.kept.restored prepared.names chunk k.back k.stands (ap is_some has));
      }

-- ---- the records of a turn

-- they go on within the upgrade, or are one that begins or ends one
abbrev Paces : State → Durable → List PlainEntry → Type 0
Paces s prepared records = GoWithin s.durable records ⊎ ((entry : PlainEntry) × (records ≡ entry ∷ []) × ((next : Durable) → applied s.durable entry ≡ Some next → GoesOnSince s prepared next))

module _ (config : Config) (heard : Heard) where
  paces : (prepared : Durable) (s : State) (t : Turn) → Paced config heard s t → IsWritten t → IsSince prepared s.durable → Paces s prepared t.records × AllFit s t
  paces prepared s t (Goes u next chain) written k = (let parts = chain_within config heard u next chain written in (inl parts.0, parts.1))
  paces prepared s t (Turns u move said made bound) written k = (by_move move made bound, made.fits)
    where
      by_move : (move : Move) → IsMade config heard u move → is_bound move ≡ true → Paces u prepared (move_turn config u move).records
      by_move (Prepares req moment) m bound = inr (_, refl, λ next e. absurd (no_prepare u prepared k _ _ _ next e))
      by_move (Finalizes req) m bound = inr (_, refl, λ next e. finalize_leads u prepared k _ next e)
      by_move (CommitsRollback req names) m bound = inr (_, refl, λ next e. commit_leads u prepared k req names _ next m.may.rolling m.may.back m.may.restored e)
      by_move other m bound = absurd (false≢true bound)

lead : (prepared : Durable) (s : State) (records : List PlainEntry) (next : Durable) → Paces s prepared records → replayed s.durable records ≡ Some next → IsSince prepared s.durable → GoesOnSince s prepared next
lead prepared s records next (inl within) fit k = still s prepared next (since_all prepared s.durable next records k within fit)
lead prepared s records next (inr (entry, is, f)) fit k = f next (one_fits s.durable next entry (ap (replayed s.durable) (sym is) ∙ fit))

cut_alone : (prepared : Durable) (s : State) (entry : PlainEntry) (place : ℕ) (d : Durable) → IsSince prepared s.durable → ((next : Durable) → applied s.durable entry ≡ Some next → GoesOnSince s prepared next) → place < 1 → replayed s.durable (take place (entry ∷ [])) ≡ Some d
    → GoesOnSinceAt s prepared (entry ∷ []) place d
cut_alone prepared s entry zero d k f within fit =
    record { since = subst (IsSince prepared) (durable_is fit) k; doubt = λ x next at e. f next (ap (applied s.durable) (entry_is at) ∙ ap (λ m. applied m x) (durable_is fit) ∙ e) }
cut_alone prepared s entry (suc place) d k f within fit = absurd (omega arith)

cut_leads : (prepared : Durable) (s : State) (records : List PlainEntry) (place : ℕ) (d : Durable) → Paces s prepared records → IsSince prepared s.durable → place < length records → replayed s.durable (take place records) ≡ Some d → GoesOnSinceAt s prepared records place d
cut_leads prepared s records place d (inl within) k low fit =
    let c = cut_within prepared s.durable d records place k within fit in record { since = c.0; doubt = λ entry next at e. still s prepared next (c.1 entry next at e) }
cut_leads prepared s records place d (inr (entry, is, f)) k low fit =
    subst (λ r. place < length r → replayed s.durable (take place r) ≡ Some d → GoesOnSinceAt s prepared r place d) (sym is) (λ l t. cut_alone prepared s entry place d k f l t) low fit

pub turns_lead : TurnsLead
turns_lead config heard s t prepared turn written k =
    let parts = paces config heard prepared s t (paced config heard s t turn) written k in lead prepared s t.records t.after.durable parts.0 parts.1 k

pub cuts_lead : CutsLead
cuts_lead config heard s t prepared place d turn written k low fit =
    cut_leads prepared s t.records place d (paces config heard prepared s t (paced config heard s t turn) written k).0 k low fit

-- ---- a prepare

-- a view from before the upgrade is kept as it is settled
view_before : (epoch : ℕ) (o : Option Settled) → is_some (if_before epoch o) ≡ true → option_map (λ (p : Prepared). p.view) (if_before epoch o) ≡ view_in o
view_before epoch None some = absurd (false≢true some)
view_before epoch (Some y) some = by_case (nat_lt y.view.stamp.epoch epoch) some
  where
    own : Prepared
    own = record { view = y.view; holders = [] }

    by_case : (b : Bool) → is_some (if b then Some own else None) ≡ true → option_map (λ (p : Prepared). p.view) (if b then Some own else None) ≡ Some y.view
    by_case false some = absurd (false≢true some)
    by_case true some = refl

begun : (d e : Durable) → EpochGoes d e → IsKept e → is_ordinary d.phase ≡ true → is_ordinary e.phase ≡ false → (is_upgrade e.phase ≡ true) × IsSince e e
begun d e (Stays epoch phase) kept ordinary off = absurd (true≢false (sym (ap is_ordinary phase ∙ ordinary) ∙ off))
begun d e (Finalized epoch was phase end) kept ordinary off = absurd (false≢true (sym (ap is_ordinary was) ∙ ordinary))
begun d e (Begun epoch was phase end) kept ordinary off = absurd (false≢true (sym (ap is_ordinary was) ∙ ordinary))
begun d e (Committed epoch was phase) kept ordinary off = absurd (false≢true (sym (ap is_ordinary was) ∙ ordinary))
begun d e (Prepares_so epoch was phase unchanged none) kept ordinary off = (ap is_upgrade phase, record { kept = kept; stands = off; back = back; views = views })
  where
    back : all_undone e.inverses e.names ≡ Some e.names
    back = ap (λ inverses. all_undone inverses e.names) unchanged

    views : (chunk : ℕ) → is_listed e chunk ≡ true → option_map (λ (p : Prepared). p.view) (prepared_view e chunk) ≡ view_in (fin.get e.chunks chunk)
    views chunk listed =
        let settled = fin.get e.chunks chunk in
        let view : prepared_view e chunk ≡ if_before e.epoch settled = ap (λ phase. prepared_of (upgrade_epoch phase e.epoch) (fin.get e.prepared chunk) settled) phase ∙ ap (λ o. prepared_of (Some e.epoch) o settled) (none chunk) in
        ap (option_map (λ (p : Prepared). p.view)) view ∙ view_before e.epoch settled (ap is_some (sym view) ∙ kept.restored e.names chunk back off listed)

pub turns_begin : TurnsBegin
turns_begin config heard s t turn written kept ordinary off =
    let well = once_stands config heard s t turn written kept in begun s.durable t.after.durable (epochs_go config heard s t well.turn) well.behind ordinary off
