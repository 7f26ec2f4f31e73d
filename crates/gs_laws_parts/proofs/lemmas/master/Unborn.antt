-- A chunk whose handle wasn't given stays unknown through each move, but for the one that gives it.
use Rattle.std.proofs.Common.{◌≡◌, ℕ, zero, suc, ◌==◌, ◌+◌, ◌<◌, ◌≤◌, ◌⊎◌, inl, inr, Bool, true, false, not, ◌&&◌, ◌||◌, List, [], ◌∷◌, ◌++◌, map, Option, Some, None, refl, sym, ap, subst, ◌∙◌, arith}
use Rattle.std.specs.Prelude.{cond, filter_map, option_map, is_some, nat_lt, option_and_then, slice_get, Result, Ok, Err, if◌then◌else◌}
use Rattle.std.specs.FinMap as fin
use Rattle.std.specs.List.{AllByRecursion, cons_option, list_all}
use Rattle.std.specs.Cmp.{nat_cmp_total}
use Rattle.std.specs.Ordering.{eq_by_cmp, nat_cmp}
use Rattle.std.proofs.lemmas.Bool.{false≢true, true≢false, and_parts}
use Rattle.std.proofs.lemmas.Bool.Decides.{nat_tests}
use Rattle.std.proofs.lemmas.Option.{slice_get-get_or, slice_get_within}
use Rattle.gs_base.specs.Members.{is_member}
use Rattle.gs_base.specs.Numbers.{last_number}
use Rattle.gs_base.specs.Told.{IsNumber}
use Rattle.gs_base.specs.declared.config.Config.{Config}
use Rattle.gs_base.specs.declared.epoch.EpochEnd.{EpochEnd}
use Rattle.gs_base.specs.declared.epoch.EpochEnd.TheVariants as ends
use Rattle.gs_base.specs.declared.numbers.ReqId.{ReqId}
use Rattle.gs_base.specs.declared.numbers.Stamp.{Stamp}
use Rattle.gs_base.specs.declared.refusal.Refusal.{Refusal}
use Rattle.gs_edit.specs.View.{NamesView}
use Rattle.gs_lease.specs.declared.view.Purpose.{Purpose}
use Rattle.gs_lease.specs.declared.view.View.{View}
use Rattle.gs_msg.specs.declared.body.Body.{Body}
use Rattle.gs_msg.specs.declared.body.Body.TheVariants as bodies
use Rattle.gs_msg.specs.declared.chunk.Chunk.{Chunk as About}
use Rattle.gs_msg.specs.declared.chunk.Chunk.TheVariants as abouts
use Rattle.gs_msg.specs.declared.message.Message.{Message}
use Rattle.gs_msg.specs.declared.node.NodeId.{NodeId}
use Rattle.gs_path.specs.Path.{Path}
use Rattle.gs_master_record.specs.Plain.{PlainEdit, PlainEntry, Edited, Said, Propose, Settle, Prepare, Finalize, RollbackBegin, RollbackCommit, Whole, Holder}
use Rattle.gs_master_record.specs.declared.checkpoint.Phase.TheVariants.{Ordinary, Upgrade, Rolling}
use Rattle.gs_master_record.specs.declared.entry.Answered.{Answered}
use Rattle.gs_master_spec.specs.Applied.{after_edit, after_undoing, applied, are_answers, are_at_rest, forgotten_by, held_by, is_fresh, is_next_epoch, may_be_settled, may_edit, may_propose, proposed, raised, replayed, restored_chunk, restored_view, rolled_back, with_edit, with_epoch, with_proposal, with_view, without_chunks, without_prepared}
use Rattle.gs_master_spec.specs.Beginning.{next_stamp}
use Rattle.gs_master_spec.specs.Chunks.{has_entry, holder_records, is_holder, target_of}
use Rattle.gs_master_spec.specs.Durable.{Durable, Settled, after_number, is_given, is_listed, is_ordinary, is_rolling, is_upgrade, kept_before, prepared_of, prepared_view, upgrade_epoch, with_prepared}
use Rattle.gs_master_spec.specs.Settling.{own_request}
use Rattle.gs_master_spec.specs.State.{State, fits, keeps_refusal, said_records}
use Rattle.gs_master_spec.specs.Undoing.{all_undone, edited_names}
use Rattle.gs_master_spec.specs.Working.{scan_edits}
use Rattle.gs_master_spec.specs.declared.asking.Asking.{Asking}
use Rattle.gs_master_spec.specs.declared.asking.Prepared.{Prepared}
use Rattle.gs_laws_master.proofs.lemmas.keeping.KeptViews.{same_key}
use Rattle.gs_laws_master.proofs.lemmas.telling.ToldAgain.{get_tidied}
use Rattle.gs_master_spec.specs.Handling.{tidied}
use Rattle.gs_laws_parts.proofs.lemmas.master.Leaving.{inserted}
use Rattle.gs_laws_master.specs.Promises.{IsKept}
use Rattle.gs_laws_master.proofs.lemmas.upgrades.Beginnings.{fits_gives}
use Rattle.gs_laws_master.proofs.lemmas.keeping.Counters.{given_raised}
use Rattle.gs_laws_master.proofs.lemmas.keeping.KeptEdits.{forgets_only}
use Rattle.gs_laws_moves.proofs.lemmas.moves.Asked.{chain_so, more_so, starts_so}
use Rattle.gs_laws_moves.proofs.lemmas.moves.Moved.{each_moved_so, new_by}
use Rattle.gs_laws_moves.proofs.lemmas.moves.Right.{one_fits}
use Rattle.gs_laws_moves.proofs.lemmas.moves.Upgrades.{ends_counted}
use Rattle.gs_laws_moves.specs.moves.Asked.{IsAskedSo, WasHeard}
use Rattle.gs_laws_moves.specs.moves.Epochs.{is_alone}
use Rattle.gs_laws_moves.specs.moves.Guards.{AreRight, HasEnded, Heard, IsNext, IsRight, IsRightAbout, IsStrayOf}
use Rattle.gs_laws_moves.specs.moves.Laws.{IsMadeWell}
use Rattle.gs_laws_moves.specs.moves.Moved.{gives_handle, proposes}
use Rattle.gs_laws_moves.specs.moves.Moves.{Alone, Beside, FromNow, Further, Move, Moves, Begins, Makes, Copies, Hears, Sends, Settles, Edits, Extends, CopiesTree, Replaces, Scans, Refuses, Answers as AnswersCall, Waits, Restores, Says as Says_it, Flags, Prepares, Finalizes, BeginsRollback, TellsRollback, CommitsRollback, Checkpoints, move_turn}
use Rattle.gs_laws_parts.proofs.lemmas.master.Bearing.{copies_are_births, makes_are_births}
use Rattle.gs_laws_parts.proofs.lemmas.master.Proposing.{fresh_some, given_now, still_number}
use Rattle.gs_laws_parts.proofs.lemmas.master.Stamps.{same_number}
use Rattle.gs_laws_parts.specs.master.Births.{Anything, IsBorn}
use Rattle.gs_laws_parts.specs.master.Showing.{Rises}
use Rattle.gs_laws_parts.specs.server.Messages.{ReportsIt}
use Rattle.gs_laws_parts.specs.master.Telling.{Says}
use Rattle.gs_laws_parts.specs.master.Unborn.{EachMoveGoesUnborn, GoesUnborn, IsUngiven, IsUnborn, RestartsUnborn, SaysNothing, SaysNothingIn, StaysUnborn, silent}

-- ---- what counters become

-- a record that gives no number, settles no view of the chunk, and is no checkpoint
abbrev pub counts_on : ℕ → PlainEntry → Bool
counts_on chunk (Edited by edit) = true
counts_on chunk (Said to refusal) = true
counts_on chunk (Propose q version) = false
counts_on chunk (Settle v) = not (v.handle == chunk)
counts_on chunk (Prepare epoch moment many) = true
counts_on chunk (Finalize epoch) = true
counts_on chunk (RollbackBegin epoch) = true
counts_on chunk (RollbackCommit epoch answers) = true
counts_on chunk (Whole c) = false
counts_on chunk (Holder q server) = true

-- nothing of the chunk is durable
abbrev pub IsBlank : ℕ → Durable → Type 0
IsBlank chunk d = (fin.get d.chunks chunk ≡ None) × (fin.get d.prepared chunk ≡ None)

pub record IsCounted (chunk : ℕ) (d e : Durable) : Type 0 where
  pub handle : e.next_handle ≡ d.next_handle
  pub version : e.next_version ≡ d.next_version
  pub later : d.epoch ≤ e.epoch
  pub blank : IsBlank chunk d → IsBlank chunk e

durable_is : {a b : Durable} → ◌≡◌ {A = Option Durable} (Some a) (Some b) → a ≡ b
durable_is k = cc

module _ (chunk : ℕ) where
  same_counted : (d e : Durable) → e.next_handle ≡ d.next_handle → e.next_version ≡ d.next_version → e.epoch ≡ d.epoch → (IsBlank chunk d → IsBlank chunk e) → IsCounted chunk d e
  same_counted d e handle version epoch blank = record { handle = handle; version = version; later = (let same = epoch in omega arith); blank = blank }

  next_counted : (d e : Durable) → e.next_handle ≡ d.next_handle → e.next_version ≡ d.next_version → e.epoch ≡ d.epoch + 1 → (IsBlank chunk d → IsBlank chunk e) → IsCounted chunk d e
  next_counted d e handle version epoch blank = record { handle = handle; version = version; later = (let same = epoch in omega arith); blank = blank }

  -- ---- of what is blank nothing is kept, and it stays so

  no_view : (d : Durable) → IsBlank chunk d → prepared_view d chunk ≡ None
  no_view d blank = ap (λ o. prepared_of (upgrade_epoch d.phase d.epoch) o (fin.get d.chunks chunk)) blank.1 ∙ ap (prepared_of (upgrade_epoch d.phase d.epoch) None) blank.0 ∙ by_upgrade (upgrade_epoch d.phase d.epoch)
    where
      by_upgrade : (u : Option ℕ) → prepared_of u None None ≡ None
      by_upgrade None = refl
      by_upgrade (Some upgrade) = refl

  -- what is put under a key, unless there is nothing for the chunk
  put_blank : {A : Type 0} (m : fin.FinMap nat_cmp A) (q : ℕ) (x : A) → (q ≡ chunk → ⊥) → fin.get m chunk ≡ None → fin.get (fin.insert m q x) chunk ≡ None
  put_blank m q x apart none = inserted chunk m q x (by_key (q == chunk) refl) ∙ none
    where
      by_key : (b : Bool) → (q == chunk) ≡ b → not (q == chunk) ≡ true
      by_key true same = absurd (apart (same_number q chunk same))
      by_key false is = ap not is

  with_blank : (d : Durable) (q : ℕ) (o : Option Prepared) → (q ≡ chunk → o ≡ None) → fin.get d.prepared chunk ≡ None → fin.get (with_prepared d q o) chunk ≡ None
  with_blank d q None other none = none
  with_blank d q (Some view) other none = put_blank d.prepared q view (λ same. absurd (false≢true (sym (ap is_some (other same))))) none

  kept_blank : (d : Durable) (q : ℕ) → IsBlank chunk d → fin.get (kept_before d q) chunk ≡ None
  kept_blank d q blank = with_blank d q (prepared_view d q) (λ same. subst (λ c. prepared_view d c ≡ None) (sym same) (no_view d blank)) blank.1

  gone_blank : {A : Type 0} (m : fin.FinMap nat_cmp A) (q : ℕ) → fin.get m chunk ≡ None → fin.get (fin.remove m q) chunk ≡ None
  gone_blank m q none = fin.get-remove nat_cmp_total m q chunk ∙ by_key (eq_by_cmp nat_cmp chunk q) none
    where
      by_key : {X : Type 0} {o : Option X} (b : Bool) → o ≡ None → cond b None o ≡ None
      by_key true n = refl
      by_key false n = n

  forgot_blank : (d : Durable) (chunks : List ℕ) → IsBlank chunk d → IsBlank chunk (without_chunks d chunks)
  forgot_blank d [] blank = blank
  forgot_blank d (q ∷ chunks) blank = forgot_blank (record d { chunks = fin.remove d.chunks q; prepared = kept_before d q }) chunks (gone_blank d.chunks q blank.0, kept_blank d q blank)

  restored_blank : (d : Durable) (answers : List Answered) → IsBlank chunk d → fin.find nat_cmp chunk (filter_map (restored_chunk d) answers) ≡ None
  restored_blank d [] blank = refl
  restored_blank d (answer ∷ answers) blank = by_view (prepared_view d answer.handle) refl (restored_blank d answers blank)
    where
      by_view : (o : Option Prepared) → prepared_view d answer.handle ≡ o → fin.find nat_cmp chunk (filter_map (restored_chunk d) answers) ≡ None
          → fin.find nat_cmp chunk (cons_option (option_map (λ prepared. (answer.handle, restored_view d.epoch prepared answer.members)) o) (filter_map (restored_chunk d) answers)) ≡ None
      by_view None is rest = rest
      by_view (Some p) is rest = by_key (eq_by_cmp nat_cmp chunk answer.handle) refl
        where
          by_key : (b : Bool) → eq_by_cmp nat_cmp chunk answer.handle ≡ b → cond b (Some (restored_view d.epoch p answer.members)) (fin.find nat_cmp chunk (filter_map (restored_chunk d) answers)) ≡ None
          by_key true same = absurd (false≢true (sym (ap is_some (no_view d blank)) ∙ ap (λ c. is_some (prepared_view d c)) (same_key chunk answer.handle same) ∙ ap is_some is))
          by_key false other = rest

  edited_counted : (d e : Durable) (by : ReqId) (edit : PlainEdit) (names : Result NamesView Refusal) → after_edit d by edit names ≡ Some e → IsCounted chunk d e
  edited_counted d e by edit (Ok names) fit =
      let only = forgets_only d (forgotten_by edit) in
      subst (IsCounted chunk d) (fits_gives (may_edit d edit) (with_edit d by edit names) e fit).1
      (same_counted d (with_edit d by edit names) (ap (λ (x : Durable). x.next_handle) only) (ap (λ (x : Durable). x.next_version) only) (ap (λ (x : Durable). x.epoch) only) (λ blank. forgot_blank d (forgotten_by edit) blank))
  edited_counted d e by edit (Err refusal) fit = absurd (false≢true (ap is_some fit))

  undone_counted : (d e : Durable) (epoch : ℕ) (list : List Answered) (names : Option NamesView) → after_undoing d epoch list names ≡ Some e → IsCounted chunk d e
  undone_counted d e epoch list None fit = absurd (false≢true (ap is_some fit))
  undone_counted d e epoch list (Some names) fit =
      subst (IsCounted chunk d) (fits_gives (is_rolling d.phase && ((epoch == d.epoch) && are_answers (prepared_view d) (fin.entries names.refs) list)) (rolled_back d list names) e fit).1
      (same_counted d (rolled_back d list names) refl refl refl (λ blank. (fin.get-from_entries nat_cmp_total (filter_map (restored_chunk d) list) chunk ∙ restored_blank d list blank, fin.get-empty nat_cmp chunk)))

  record_counted : (d e : Durable) (entry : PlainEntry) → counts_on chunk entry ≡ true → applied d entry ≡ Some e → IsCounted chunk d e
  unfolding applied
  record_counted d e (Edited by edit) on fit = edited_counted d e by edit (edited_names edit d.names) fit
  record_counted d e (Said to refusal) on fit = subst (IsCounted chunk d) (durable_is fit) (same_counted d _ refl refl refl (λ blank. blank))
  record_counted d e (Propose q version) on fit = absurd (false≢true on)
  record_counted d e (Settle v) on fit =
      subst (IsCounted chunk d) (fits_gives (may_be_settled d v) (with_view d v) e fit).1
      (same_counted d (with_view d v) refl refl refl (λ blank. (inserted chunk d.chunks v.handle (record { view = v.view; is_moving = false }) on ∙ blank.0, kept_blank d v.handle blank)))
  record_counted d e (Prepare epoch moment many) on fit =
      subst (IsCounted chunk d) (fits_gives (is_ordinary d.phase && (is_next_epoch d.epoch epoch && are_at_rest d)) (without_prepared (with_epoch d ends.Prepare Upgrade)) e fit).1
      (next_counted d (without_prepared (with_epoch d ends.Prepare Upgrade)) refl refl refl (λ blank. (blank.0, fin.get-empty nat_cmp chunk)))
  record_counted d e (Finalize epoch) on fit =
      subst (IsCounted chunk d) (fits_gives (is_upgrade d.phase && is_next_epoch d.epoch epoch) (without_prepared (with_epoch d ends.Finalize Ordinary)) e fit).1
      (next_counted d (without_prepared (with_epoch d ends.Finalize Ordinary)) refl refl refl (λ blank. (blank.0, fin.get-empty nat_cmp chunk)))
  record_counted d e (RollbackBegin epoch) on fit =
      subst (IsCounted chunk d) (fits_gives (is_upgrade d.phase && is_next_epoch d.epoch epoch) (with_epoch d ends.Rollback Rolling) e fit).1 (next_counted d (with_epoch d ends.Rollback Rolling) refl refl refl (λ blank. blank))
  record_counted d e (RollbackCommit epoch list) on fit = undone_counted d e epoch list (all_undone d.inverses d.names) fit
  record_counted d e (Whole c) on fit = absurd (false≢true on)
  record_counted d e (Holder q server) on fit =
      let may = fits_gives (is_upgrade d.phase && (nat_lt server 16 && is_some (prepared_view d q))) (record d { prepared = with_prepared d q (held_by server (prepared_view d q)) }) e fit in
      subst (IsCounted chunk d) may.1
      (same_counted d (record d { prepared = with_prepared d q (held_by server (prepared_view d q)) }) refl refl refl
      (λ blank. (blank.0, with_blank d q (held_by server (prepared_view d q)) (λ same. ap (held_by server) (subst (λ c. prepared_view d c ≡ None) (sym same) (no_view d blank))) blank.1)))

  both_counted : (a b c : Durable) → IsCounted chunk a b → IsCounted chunk b c → IsCounted chunk a c
  both_counted a b c f g = record { handle = g.handle ∙ f.handle; version = g.version ∙ f.version; later = (let x = f.later in let y = g.later in omega arith); blank = λ blank. g.blank (f.blank blank) }

  pub records_counted : (entries : List PlainEntry) (d e : Durable) → list_all (counts_on chunk) entries ≡ true → replayed d entries ≡ Some e → IsCounted chunk d e
  records_counted [] d e on fit = subst (IsCounted chunk d) (durable_is fit) (same_counted d d refl refl refl (λ blank. blank))
  records_counted (entry ∷ entries) d e on fit =
      let parts = and_parts (counts_on chunk entry) (list_all (counts_on chunk) entries) on in by_first (applied d entry) refl fit (λ n is rest. both_counted d n e (record_counted d n entry parts.0 is) (records_counted entries n e parts.1 rest))
    where
      by_first : (o : Option Durable) → applied d entry ≡ o → option_and_then (λ n. replayed n entries) o ≡ Some e → ((n : Durable) → applied d entry ≡ Some n → replayed n entries ≡ Some e → IsCounted chunk d e) → IsCounted chunk d e
      by_first None is h rest = absurd (false≢true (ap is_some h))
      by_first (Some n) is h rest = rest n is h

-- a stamp is proposed: the version goes up, and the handle where it is that of a new chunk
record IsProposed (d e : Durable) (q : ℕ) : Type 0 where
  handle : e.next_handle ≡ raised d.next_handle q
  version : e.next_version ≡ after_number d.next_version
  epoch : e.epoch ≡ d.epoch
  fresh : (is_some (fin.get d.chunks q) || is_fresh d.next_handle q) ≡ true
  versions : (n : ℕ) → is_given d.next_version n ≡ true → is_given e.next_version n ≡ true
  blank : (chunk : ℕ) → IsBlank chunk d → IsBlank chunk e

-- a proposal leaves what is blank
proposal_blank : (chunk : ℕ) (d : Durable) (q : ℕ) → IsBlank chunk d → IsBlank chunk (proposed d q d.next_version)
proposal_blank chunk d q blank = (by_view (fin.get d.chunks q) refl, blank.1)
  where
    by_view : (o : Option Settled) → fin.get d.chunks q ≡ o → fin.get (with_proposal d q o) chunk ≡ None
    by_view None is = blank.0
    by_view (Some settled) is = put_blank chunk d.chunks q (record settled { is_moving = true }) (λ same. absurd (false≢true (sym (ap is_some (ap (fin.get d.chunks) same ∙ blank.0)) ∙ ap is_some is))) blank.0

proposes_so : (d e : Durable) (q : ℕ) → applied d (Propose q (d.next_version)) ≡ Some e → IsProposed d e q
unfolding applied
proposes_so d e q fit =
    let may = fits_gives (may_propose d.phase d.next_handle d.next_version q d.next_version (fin.get d.chunks q)) (proposed d q d.next_version) e fit in
    let rest = and_parts (not (is_rolling d.phase)) (is_fresh d.next_version d.next_version && (is_some (fin.get d.chunks q) || is_fresh d.next_handle q)) may.0 in
    let both = and_parts (is_fresh d.next_version d.next_version) (is_some (fin.get d.chunks q) || is_fresh d.next_handle q) rest.1 in
    record {
      handle = ap (λ (x : Durable). x.next_handle) (sym may.1);
      version = ap (λ (x : Durable). x.next_version) (sym may.1);
      epoch = ap (λ (x : Durable). x.epoch) (sym may.1);
      fresh = both.1;
      versions = λ n given.
          ap (λ (x : Durable). is_given x.next_version n) (sym may.1) ∙ sym (ap (λ b. is_given (if b then after_number d.next_version else d.next_version) n) both.0) ∙ given_raised d.next_version d.next_version n given;
      blank = λ chunk blank. subst (IsBlank chunk) may.1 (proposal_blank chunk d q blank);
    }

proposed_rises : (d e : Durable) (q : ℕ) → IsProposed d e q → Rises d e
proposed_rises d e q p = record { epoch = (let same = p.epoch in omega arith); versions = p.versions }

-- it isn't given where no number is
pub counted_ungiven : (chunk : ℕ) (d e : Durable) → IsCounted chunk d e → IsUngiven chunk d → IsUngiven chunk e
counted_ungiven chunk d e c g = (let b = c.blank (g.settled, g.prepared) in record { handle = subst IsNumber (sym c.handle) g.handle; given = λ number. ap (λ n. is_given n chunk) c.handle ∙ g.given number; settled = b.0; prepared = b.1 })

pub counted_rises : (chunk : ℕ) (d e : Durable) → IsCounted chunk d e → Rises d e
counted_rises chunk d e c = record { epoch = c.later; versions = λ n given. ap (λ v. is_given v n) c.version ∙ given }

-- that of a chunk that was given stays
raised_same : (n q : ℕ) → is_given n q ≡ true → raised n q ≡ n
raised_same n q given = by_fresh (is_fresh n q) refl
  where
    no : (a b : Bool) → b ≡ true → (a && not b) ≡ true → true ≡ false
    no true true e h = absurd (false≢true h)
    no true false e h = absurd (false≢true e)
    no false b e h = absurd (false≢true h)

    by_fresh : (b : Bool) → is_fresh n q ≡ b → (if b then after_number q else n) ≡ n
    by_fresh true is = absurd (true≢false (no (nat_lt 0 q) (is_given n q) given is))
    by_fresh false is = refl

-- and a new one gives no other
raised_other : (n c : ℕ) → IsNumber c → 0 < n → (n == c) ≡ false → is_given n c ≡ false → is_given (after_number n) c ≡ false
raised_other n c number some other given = by_last (n == last_number) refl
  where
    by_last : (b : Bool) → (n == last_number) ≡ b → is_given (if b then 0 else n + 1) c ≡ false
    by_last true is = grind (arith, nat_tests)
    by_last false is = grind (arith, nat_tests)

-- ---- the records of each move that proposes nothing

pub scan_counts : (chunk : ℕ) (removed : List Path) (forgotten : List ℕ) → list_all (counts_on chunk) (map (Edited own_request) (scan_edits removed forgotten)) ≡ true
scan_counts chunk [] [] = refl
scan_counts chunk [] (c ∷ forgotten) = refl
scan_counts chunk (path ∷ removed) forgotten = scan_counts chunk removed forgotten

pub said_counts : (chunk : ℕ) (s : State) (req : ReqId) (refusal : Refusal) → list_all (counts_on chunk) (said_records (keeps_refusal s req refusal) s.log req refusal) ≡ true
said_counts chunk s req refusal = by_test (keeps_refusal s req refusal && fits s.log (Said req refusal ∷ []))
  where
    by_test : (b : Bool) → list_all (counts_on chunk) (if b then Said req refusal ∷ [] else []) ≡ true
    by_test true = refl
    by_test false = refl

pub settle_counts : (chunk : ℕ) (b : Bool) (q : ℕ) (target : Option ℕ) (view : View) → (q == chunk) ≡ false → list_all (counts_on chunk) (holder_records b q target ++ Settle (record { handle = q; view = view }) ∷ []) ≡ true
settle_counts chunk b q None view other = ap (λ c. not c && true) other
settle_counts chunk true q (Some target) view other = ap (λ c. not c && true) other
settle_counts chunk false q (Some target) view other = ap (λ c. not c && true) other

-- ---- what is right to be said

some_is : {X : Type 0} {a b : X} → ◌≡◌ {A = Option X} (Some a) (Some b) → a ≡ b
some_is h = cc

all_at : {X : Type 0} (P : X → Type 0) (xs : List X) (x : X) (i : ℕ) → AllByRecursion P xs → slice_get xs i ≡ Some x → P x
all_at P [] x i all is = absurd (false≢true (ap is_some is))
all_at P (y ∷ xs) x zero all is = subst P (some_is is) all.0
all_at P (y ∷ xs) x (suc i) all is = all_at P xs x i all.1 is

module _ (chunk : ℕ) (heard : Heard) (was : WasHeard (Says chunk silent) heard) (u : State) (k : IsUnborn chunk u) (kept : IsKept u.durable) where
  unlisted : is_listed u.durable chunk ≡ false
  unlisted = by_listed (is_listed u.durable chunk) refl
    where
      by_listed : (b : Bool) → is_listed u.durable chunk ≡ b → b ≡ false
      by_listed true is = absurd (false≢true (sym (ap is_some k.ungiven.settled) ∙ kept.settled chunk is))
      by_listed false is = refl

  unknown : has_entry u chunk ≡ false
  unknown = ap (λ b. b || is_member u.volatile.unplaced chunk) unlisted ∙ k.placed

  not_asked : (a : Asking) → fin.get u.volatile.moving chunk ≡ Some a → ⊥
  not_asked a has = false≢true (sym (ap is_some k.unasked) ∙ ap is_some has)

  not_known : has_entry u chunk ≡ true → ⊥
  not_known entry = false≢true (sym unknown ∙ entry)

  no_stray : (epoch : ℕ) (promise : Stamp) (to : NodeId) → IsStrayOf heard u chunk epoch promise to → ⊥
  no_stray epoch promise to r =
      let told = all_at (ReportsIt chunk silent r.server epoch) r.replicas (record { handle = chunk; promise = promise; is_bad = r.is_bad }) r.told.0 (was r.server (bodies.Report epoch r.replicas) r.said)
      (slice_get-get_or r.replicas r.told.0 (record { handle = chunk; promise = promise; is_bad = r.is_bad }) r.told.1 ∙ ap Some r.told.2) in
      let none = (told refl).2 in absurd (let l : none.0 < 0 = none.1 in omega arith)

  about_none : (to : NodeId) (said : About) → IsRightAbout heard u chunk to said → ⊥
  about_none to (abouts.Create stamp) r = not_asked r.asking r.has
  about_none to (abouts.Advance stamp) r = not_asked r.asking r.has
  about_none to (abouts.CopyOut stamp target with_sealed) r = not_asked r.asking r.has
  about_none to (abouts.Grant grant) r = not_known r.known
  about_none to (abouts.Renewed stamp end) r = not_known r.known
  about_none to (abouts.Drop epoch promise) r = no_stray epoch promise to r
  about_none to said r = r

  ended_before : (epoch : ℕ) (end : EpochEnd) → HasEnded u epoch end → epoch ≤ u.durable.epoch
  ended_before epoch end r = (let less = slice_get_within u.durable.ends r.before end r.ended in let many = ends_counted u.durable kept in let next = r.next in omega arith)

  body_quiet : (to : NodeId) (body : Body) → IsRight heard u to body → SaysNothingIn chunk u.durable.epoch body
  body_quiet to (bodies.About handle said) r = λ same. about_none to said (subst (λ h. IsRightAbout heard u h to said) same r)
  body_quiet to (bodies.MakeCopy old at new stamp) r = (
    λ same. false≢true (sym (ap is_some k.ungiven.settled) ∙ ap (λ c. is_some (fin.get u.durable.chunks c)) (sym same) ∙ ap is_some r.settled.has),
    λ same. not_asked r.asked.asking (ap (fin.get u.volatile.moving) (sym same) ∙ r.asked.has),
  )
  body_quiet to (bodies.Epoch epoch end) r = ended_before epoch end r
  body_quiet to body r = tt

  all_quiet : (messages : List Message) → AreRight heard u messages → AllByRecursion (SaysNothing chunk u.durable.epoch) messages
  all_quiet [] right = tt
  all_quiet (m ∷ messages) right = (body_quiet m.to m.body right.0, all_quiet messages right.1)

-- what is asked for is another
pub other_than : (chunk : ℕ) (s : State) → fin.get s.volatile.moving chunk ≡ None → (q : ℕ) (asking : Asking) → fin.get s.volatile.moving q ≡ Some asking → (q == chunk) ≡ false
other_than chunk s unasked q asking has = by_key (q == chunk) refl
  where
    by_key : (b : Bool) → (q == chunk) ≡ b → b ≡ false
    by_key true same = absurd (false≢true (sym (ap is_some unasked) ∙ ap (λ c. is_some (fin.get s.volatile.moving c)) (sym (same_number q chunk same)) ∙ ap is_some has))
    by_key false is = refl

-- a checkpoint forgets chunks
tidied_blank : (chunk : ℕ) (d : Durable) → IsBlank chunk d → IsBlank chunk (tidied d)
tidied_blank chunk d blank = (get_tidied d chunk ∙ by_listed (is_listed d chunk) blank.0, blank.1)
  where
    by_listed : {A : Type 0} {o : Option A} (b : Bool) → o ≡ None → cond b o None ≡ None
    by_listed true none = none
    by_listed false none = refl

-- ---- each move

module _ (chunk : ℕ) (config : Config) (heard : Heard) (was : WasHeard (Says chunk silent) heard) (s : State) (k : IsUnborn chunk s) where
  -- behind a move that gives no handle to it
  goes_on : (move : Move) → IsMadeWell config heard s move → proposes s move chunk ≡ false → let u = (move_turn config s move).after in IsUngiven chunk u.durable → IsNumber u.durable.next_version → Rises s.durable u.durable
      → is_member u.volatile.unplaced chunk ≡ false → ((q : ℕ) → is_member u.volatile.unplaced q ≡ true → is_given u.durable.next_handle q ≡ true) → StaysUnborn chunk s (move_turn config s move)
  goes_on move well other ungiven counter rises placed new = record {
    unborn = unborn;
    rises = rises;
    says = all_quiet chunk heard was u unborn well.behind (move_turn config s move).sent well.made.right;
  }
    where
      u : State
      u = (move_turn config s move).after

      unasked : (o : Option Asking) → fin.get u.volatile.moving chunk ≡ o → o ≡ None
      unasked None is = refl
      unasked (Some a) is = by_stamp ((each_moved_so config heard s move chunk well.made).stamped a is)
        where
          by_stamp : ((old : Asking) × (fin.get s.volatile.moving chunk ≡ Some old) × (a.stamp ≡ old.stamp)) ⊎ ((proposes s move chunk ≡ true) × (a.stamp ≡ next_stamp s.durable)) → Some a ≡ None
          by_stamp (inl before) = absurd (false≢true (sym (ap is_some k.unasked) ∙ ap is_some before.1))
          by_stamp (inr now) = absurd (false≢true (sym other ∙ now.0))

      unborn : IsUnborn chunk u
      unborn = record {
        counter = counter;
        ungiven = ungiven;
        placed = placed;
        unasked = unasked (fin.get u.volatile.moving chunk) refl;
        said = chain_so (Says chunk silent) chunk config heard was s (record (move_turn config s move) { said = None }) (Moves s move None well.made) k.said;
        new = new;
      }

  still_out : (move : Move) → IsMadeWell config heard s move → gives_handle move ≡ false → is_member (move_turn config s move).after.volatile.unplaced chunk ≡ false
  still_out move well other = by_member (is_member (move_turn config s move).after.volatile.unplaced chunk) refl
    where
      by_member : (b : Bool) → is_member (move_turn config s move).after.volatile.unplaced chunk ≡ b → b ≡ false
      by_member true is = absurd (false≢true (sym k.placed ∙ new_by chunk config heard s move well.made other is))
      by_member false is = refl

  proposed_ungiven : (d e : Durable) (q : ℕ) → IsProposed d e q → IsNumber e.next_handle → (IsNumber chunk → is_given e.next_handle chunk ≡ false) → IsUngiven chunk d → IsUngiven chunk e
  proposed_ungiven d e q p handle given g = (let b = p.blank chunk (g.settled, g.prepared) in record { handle = handle; given = given; settled = b.0; prepared = b.1 })

  -- where it gives no handle
  plain_stays : (move : Move) → IsMadeWell config heard s move → gives_handle move ≡ false → proposes s move chunk ≡ false → IsCounted chunk s.durable (move_turn config s move).after.durable → StaysUnborn chunk s (move_turn config s move)
  plain_stays move well other unproposed counted =
      goes_on move well unproposed (counted_ungiven chunk s.durable (move_turn config s move).after.durable counted k.ungiven) (subst IsNumber (sym counted.version) k.counter) (counted_rises chunk s.durable (move_turn config s move).after.durable counted) (still_out move well other)
      (λ q here. ap (λ n. is_given n q) counted.handle ∙ k.new q (new_by q config heard s move well.made other here))

  plain_on : (move : Move) → IsMadeWell config heard s move → gives_handle move ≡ false → proposes s move chunk ≡ false → IsCounted chunk s.durable (move_turn config s move).after.durable → GoesUnborn chunk s (move_turn config s move)
  plain_on move well other unproposed counted = inl (plain_stays move well other unproposed counted)

  -- a known chunk was given, and is another
  known_given : IsKept s.durable → (q : ℕ) → has_entry s q ≡ true → is_given s.durable.next_handle q ≡ true
  known_given kept q entry = by_listed (is_listed s.durable q) refl entry
    where
      by_listed : (b : Bool) → is_listed s.durable q ≡ b → (b || is_member s.volatile.unplaced q) ≡ true → is_given s.durable.next_handle q ≡ true
      by_listed true is h = kept.handles q (kept.settled q is)
      by_listed false is h = k.new q h

  begins_on : (q : ℕ) (purpose : Purpose) (call : Option ReqId) (beside : Beside) → IsMadeWell config heard s (Begins q purpose call beside) → GoesUnborn chunk s (move_turn config s (Begins q purpose call beside))
  begins_on q purpose call beside well = by_beside beside well
    where
      given : is_given s.durable.next_handle q ≡ true
      given = known_given well.before q well.made.may.known

      apart : (q == chunk) ≡ false
      apart = by_key (q == chunk) refl
        where
          by_key : (b : Bool) → (q == chunk) ≡ b → b ≡ false
          by_key true same = absurd (false≢true (sym (unknown chunk heard was s k well.before) ∙ ap (has_entry s) (sym (same_number q chunk same)) ∙ well.made.may.known))
          by_key false other = refl

      stays : (b : Beside) (w : IsMadeWell config heard s (Begins q purpose call b)) → IsProposed s.durable (move_turn config s (Begins q purpose call b)).after.durable q → GoesUnborn chunk s (move_turn config s (Begins q purpose call b))
      stays b w p =
          let handle = p.handle ∙ raised_same s.durable.next_handle q given in
          inl (goes_on (Begins q purpose call b) w apart (proposed_ungiven s.durable (move_turn config s (Begins q purpose call b)).after.durable q p (subst IsNumber (sym handle) k.ungiven.handle) (λ number. ap (λ n. is_given n chunk) handle ∙ k.ungiven.given number) k.ungiven) (subst IsNumber (sym p.version) (still_number s.durable.next_version k.counter)) (proposed_rises s.durable (move_turn config s (Begins q purpose call b)).after.durable q p)
          (still_out (Begins q purpose call b) w refl) (λ x here. ap (λ n. is_given n x) handle ∙ k.new x (new_by x config heard s (Begins q purpose call b) w.made refl here)))

      by_beside : (b : Beside) → IsMadeWell config heard s (Begins q purpose call b) → GoesUnborn chunk s (move_turn config s (Begins q purpose call b))
      by_beside Alone w = stays Alone w (proposes_so s.durable _ q (one_fits s.durable _ (Propose q (s.durable.next_version)) w.made.fits))
      by_beside (FromNow req waiting) w = stays (FromNow req waiting) w (proposes_so s.durable _ q (one_fits s.durable _ (Propose q (s.durable.next_version)) w.made.fits))
      by_beside (Further req waiting) w = stays (Further req waiting) w (proposes_so s.durable _ q (one_fits s.durable _ (Propose q (s.durable.next_version)) w.made.fits))

  -- the next handle is given to another
  other_on : (move : Move) → IsMadeWell config heard s move → IsNext s → (s.durable.next_handle == chunk) ≡ false → proposes s move chunk ≡ (s.durable.next_handle == chunk) → applied s.durable (Propose (s.durable.next_handle) (s.durable.next_version)) ≡ Some (move_turn config s move).after.durable
      → (move_turn config s move).after.volatile.unplaced ≡ s.volatile.unplaced ++ s.durable.next_handle ∷ [] → GoesUnborn chunk s (move_turn config s move)
  other_on move well next other unproposed fit unplaced =
      inl (goes_on move well (unproposed ∙ other) (proposed_ungiven s.durable u.durable it p (subst IsNumber (sym handle) (still_number it k.ungiven.handle)) (λ number. ap (λ n. is_given n chunk) handle ∙ raised_other it chunk number some other (k.ungiven.given number)) k.ungiven) (subst IsNumber (sym p.version) (still_number s.durable.next_version k.counter)) (proposed_rises s.durable u.durable it p)
      (ap (λ xs. is_member xs chunk) unplaced ∙ out s.volatile.unplaced k.placed) (λ q here. ap (λ n. is_given n q) p.handle ∙ by_new q (new_or s.volatile.unplaced q (ap (λ xs. is_member xs q) (sym unplaced) ∙ here))))
    where
      it : ℕ
      it = s.durable.next_handle

      u : State
      u = (move_turn config s move).after

      p : IsProposed s.durable u.durable it
      p = proposes_so s.durable u.durable it fit

      fresh : is_fresh it it ≡ true
      fresh = ap (λ b. b || is_fresh it it) (sym (ap is_some next)) ∙ p.fresh

      some : 0 < it
      some = fresh_some it fresh

      handle : u.durable.next_handle ≡ after_number it
      handle = p.handle ∙ ap (λ b. if b then after_number it else it) fresh

      out : (xs : List ℕ) → is_member xs chunk ≡ false → is_member (xs ++ it ∷ []) chunk ≡ false
      out [] h = ap (λ b. b || false) other
      out (x ∷ xs) h = by_head (x == chunk) h (out xs)
        where
          by_head : (b : Bool) → (b || is_member xs chunk) ≡ false → (is_member xs chunk ≡ false → is_member (xs ++ it ∷ []) chunk ≡ false) → (b || is_member (xs ++ it ∷ []) chunk) ≡ false
          by_head true g rest = absurd (true≢false g)
          by_head false g rest = rest g

      new_or : (xs : List ℕ) (q : ℕ) → is_member (xs ++ it ∷ []) q ≡ true → (is_member xs q ≡ true) ⊎ ((it == q) ≡ true)
      new_or [] q h = inr (first (it == q) h)
        where
          first : (b : Bool) → (b || false) ≡ true → b ≡ true
          first true g = refl
          first false g = absurd (false≢true g)
      new_or (x ∷ xs) q h = by_head (x == q) h (new_or xs q)
        where
          by_head : (b : Bool) → (b || is_member (xs ++ it ∷ []) q) ≡ true → (is_member (xs ++ it ∷ []) q ≡ true → (is_member xs q ≡ true) ⊎ ((it == q) ≡ true)) → ((b || is_member xs q) ≡ true) ⊎ ((it == q) ≡ true)
          by_head true g rest = inl refl
          by_head false g rest = rest g

      by_new : (q : ℕ) → (is_member s.volatile.unplaced q ≡ true) ⊎ ((it == q) ≡ true) → is_given (raised it it) q ≡ true
      by_new q (inl here) = given_raised it it q (k.new q here)
      by_new q (inr same) = ap (λ b. is_given (if b then after_number it else it) q) fresh ∙ ap (is_given (after_number it)) (sym (same_number it q same)) ∙ given_now it some

  asked_any : IsAskedSo Anything s chunk
  asked_any = more_so (Says chunk silent) Anything (λ server body said. tt) s chunk k.said

  makes_on : (targets : List ℕ) (req : ReqId) (path : Path) → IsMadeWell config heard s (Makes targets req path) → GoesUnborn chunk s (move_turn config s (Makes targets req path))
  makes_on targets req path well = by_key (s.durable.next_handle == chunk) refl
    where
      by_key : (b : Bool) → (s.durable.next_handle == chunk) ≡ b → GoesUnborn chunk s (move_turn config s (Makes targets req path))
      by_key true same =
          let is = same_number s.durable.next_handle chunk same in
          let t = move_turn config s (Makes targets req path) in
          let p = proposes_so s.durable t.after.durable s.durable.next_handle (one_fits s.durable t.after.durable (Propose (s.durable.next_handle) (s.durable.next_version)) well.made.fits) in
          inr (proposed_rises s.durable t.after.durable s.durable.next_handle p, inl (subst (λ c. IsBorn c [] t.after t.sent) is (makes_are_births config heard s targets req path k.counter (subst (IsAskedSo Anything s) (sym is) asked_any) well)))
      by_key false other = other_on (Makes targets req path) well well.made.may.0 other refl (one_fits s.durable _ (Propose (s.durable.next_handle) (s.durable.next_version)) well.made.fits) refl

  copies_on : (old : ℕ) (view : View) (req : ReqId) (beside : Beside) → IsMadeWell config heard s (Copies old view req beside) → GoesUnborn chunk s (move_turn config s (Copies old view req beside))
  copies_on old view req beside well = by_key (s.durable.next_handle == chunk) refl
    where
      others : (b : Beside) → IsMadeWell config heard s (Copies old view req b) → (s.durable.next_handle == chunk) ≡ false → GoesUnborn chunk s (move_turn config s (Copies old view req b))
      others Alone w other = other_on (Copies old view req Alone) w w.made.may.0.fresh other refl (one_fits s.durable _ (Propose (s.durable.next_handle) (s.durable.next_version)) w.made.fits) refl
      others (FromNow by waiting) w other = other_on (Copies old view req (FromNow by waiting)) w w.made.may.0.fresh other refl (one_fits s.durable _ (Propose (s.durable.next_handle) (s.durable.next_version)) w.made.fits) refl
      others (Further by waiting) w other = other_on (Copies old view req (Further by waiting)) w w.made.may.0.fresh other refl (one_fits s.durable _ (Propose (s.durable.next_handle) (s.durable.next_version)) w.made.fits) refl

      later : (b : Beside) → IsMadeWell config heard s (Copies old view req b) → Rises s.durable (move_turn config s (Copies old view req b)).after.durable
      later Alone w = proposed_rises s.durable _ s.durable.next_handle (proposes_so s.durable _ s.durable.next_handle (one_fits s.durable _ (Propose (s.durable.next_handle) (s.durable.next_version)) w.made.fits))
      later (FromNow by waiting) w = proposed_rises s.durable _ s.durable.next_handle (proposes_so s.durable _ s.durable.next_handle (one_fits s.durable _ (Propose (s.durable.next_handle) (s.durable.next_version)) w.made.fits))
      later (Further by waiting) w = proposed_rises s.durable _ s.durable.next_handle (proposes_so s.durable _ s.durable.next_handle (one_fits s.durable _ (Propose (s.durable.next_handle) (s.durable.next_version)) w.made.fits))

      by_key : (b : Bool) → (s.durable.next_handle == chunk) ≡ b → GoesUnborn chunk s (move_turn config s (Copies old view req beside))
      by_key true same =
          let is = same_number s.durable.next_handle chunk same in
          let t = move_turn config s (Copies old view req beside) in
          inr (later beside well, inr (old, view, well.made.may.0, λ origin numbered. subst (λ c. IsBorn c origin t.after t.sent) is (copies_are_births config heard s old view req beside origin numbered k.counter (subst (IsAskedSo Anything s) (sym is) asked_any) well)))
      by_key false other = others beside well other

  -- its records give no number
  counted_by : (move : Move) → IsMadeWell config heard s move → list_all (counts_on chunk) (move_turn config s move).records ≡ true → IsCounted chunk s.durable (move_turn config s move).after.durable
  counted_by move well on = records_counted chunk (move_turn config s move).records s.durable (move_turn config s move).after.durable on well.made.fits

  -- a move that is alone gives none
  alone_stays : (move : Move) → IsMadeWell config heard s move → is_alone move ≡ true → StaysUnborn chunk s (move_turn config s move)
  alone_stays (Scans removed forgotten) well alone = plain_stays (Scans removed forgotten) well refl refl (counted_by (Scans removed forgotten) well (scan_counts chunk removed forgotten))
  alone_stays (Prepares req moment) well alone = plain_stays (Prepares req moment) well refl refl (counted_by (Prepares req moment) well refl)
  alone_stays (Finalizes req) well alone = plain_stays (Finalizes req) well refl refl (counted_by (Finalizes req) well refl)
  alone_stays BeginsRollback well alone = plain_stays BeginsRollback well refl refl (counted_by BeginsRollback well refl)
  alone_stays (CommitsRollback req names) well alone = plain_stays (CommitsRollback req names) well refl refl (counted_by (CommitsRollback req names) well refl)
  alone_stays (AnswersCall req answer true) well alone = plain_stays (AnswersCall req answer true) well refl refl (same_counted chunk s.durable s.durable refl refl refl (λ blank. blank))
  alone_stays (AnswersCall req answer false) well alone = plain_stays (AnswersCall req answer false) well refl refl (same_counted chunk s.durable s.durable refl refl refl (λ blank. blank))
  alone_stays move well alone = absurd (false≢true alone)

  move_unborn : (move : Move) → IsMadeWell config heard s move → GoesUnborn chunk s (move_turn config s move)
  move_unborn (Begins q purpose call beside) well = begins_on q purpose call beside well
  move_unborn (Makes targets req path) well = makes_on targets req path well
  move_unborn (Copies old view req beside) well = copies_on old view req beside well
  move_unborn (Hears q new) well = plain_on (Hears q new) well refl refl (same_counted chunk s.durable s.durable refl refl refl (λ blank. blank))
  move_unborn (Sends q asking source target) well = plain_on (Sends q asking source target) well refl refl (same_counted chunk s.durable s.durable refl refl refl (λ blank. blank))
  move_unborn (Settles q asking carried view) well =
      plain_on (Settles q asking carried view) well refl refl (counted_by (Settles q asking carried view) well (settle_counts chunk (is_holder s.durable.phase (prepared_view s.durable q) carried asking view) q (target_of asking.purpose) view (other_than chunk s k.unasked q asking well.made.may.has)))
  move_unborn (Edits req edit answer) well = plain_on (Edits req edit answer) well refl refl (counted_by (Edits req edit answer) well refl)
  move_unborn (Extends req path q view) well = plain_on (Extends req path q view) well refl refl (counted_by (Extends req path q view) well refl)
  move_unborn (CopiesTree req from to) well = plain_on (CopiesTree req from to) well refl refl (counted_by (CopiesTree req from to) well refl)
  move_unborn (Replaces path index old new) well = plain_on (Replaces path index old new) well refl refl (counted_by (Replaces path index old new) well refl)
  move_unborn (Scans removed forgotten) well = inl (alone_stays (Scans removed forgotten) well refl)
  move_unborn (Refuses req refusal over) well = plain_on (Refuses req refusal over) well refl refl (counted_by (Refuses req refusal over) well (said_counts chunk s req refusal))
  move_unborn (AnswersCall req answer true) well = plain_on (AnswersCall req answer true) well refl refl (same_counted chunk s.durable s.durable refl refl refl (λ blank. blank))
  move_unborn (AnswersCall req answer false) well = plain_on (AnswersCall req answer false) well refl refl (same_counted chunk s.durable s.durable refl refl refl (λ blank. blank))
  move_unborn (Waits req waiting) well = plain_on (Waits req waiting) well refl refl (same_counted chunk s.durable s.durable refl refl refl (λ blank. blank))
  move_unborn (Restores server chunks) well = plain_on (Restores server chunks) well refl refl (same_counted chunk s.durable s.durable refl refl refl (λ blank. blank))
  move_unborn (Says_it messages) well = plain_on (Says_it messages) well refl refl (same_counted chunk s.durable s.durable refl refl refl (λ blank. blank))
  move_unborn (Flags req preparing epoch) well = plain_on (Flags req preparing epoch) well refl refl (same_counted chunk s.durable s.durable refl refl refl (λ blank. blank))
  move_unborn (Prepares req moment) well = inl (alone_stays (Prepares req moment) well refl)
  move_unborn (Finalizes req) well = inl (alone_stays (Finalizes req) well refl)
  move_unborn BeginsRollback well = inl (alone_stays BeginsRollback well refl)
  move_unborn (TellsRollback req epoch) well = plain_on (TellsRollback req epoch) well refl refl (same_counted chunk s.durable s.durable refl refl refl (λ blank. blank))
  move_unborn (CommitsRollback req names) well = inl (alone_stays (CommitsRollback req names) well refl)
  move_unborn Checkpoints well = plain_on Checkpoints well refl refl (same_counted chunk s.durable (move_turn config s Checkpoints).after.durable refl refl refl (tidied_blank chunk s.durable))

-- a copy leaves the epoch, and gives a version
pub copies_rise : (config : Config) (heard : Heard) (s : State) (old : ℕ) (view : View) (req : ReqId) (b : Beside) → IsMadeWell config heard s (Copies old view req b) → Rises s.durable (move_turn config s (Copies old view req b)).after.durable
copies_rise config heard s old view req Alone w = proposed_rises s.durable _ s.durable.next_handle (proposes_so s.durable _ s.durable.next_handle (one_fits s.durable _ (Propose (s.durable.next_handle) (s.durable.next_version)) w.made.fits))
copies_rise config heard s old view req (FromNow by waiting) w = proposed_rises s.durable _ s.durable.next_handle (proposes_so s.durable _ s.durable.next_handle (one_fits s.durable _ (Propose (s.durable.next_handle) (s.durable.next_version)) w.made.fits))
copies_rise config heard s old view req (Further by waiting) w = proposed_rises s.durable _ s.durable.next_handle (proposes_so s.durable _ s.durable.next_handle (one_fits s.durable _ (Propose (s.durable.next_handle) (s.durable.next_version)) w.made.fits))

pub each_move_goes_unborn : EachMoveGoesUnborn
each_move_goes_unborn chunk config heard s move was well k = move_unborn chunk config heard was s k move well

-- behind a move that is alone it stays so
pub alone_moves_stay : (chunk : ℕ) (config : Config) (heard : Heard) (s : State) (move : Move) → WasHeard (Says chunk silent) heard → IsMadeWell config heard s move → IsUnborn chunk s → is_alone move ≡ true → StaysUnborn chunk s (move_turn config s move)
alone_moves_stay chunk config heard s move was well k alone = alone_stays chunk config heard was s k move well alone

pub restarts_unborn : RestartsUnborn
restarts_unborn chunk d log counter ungiven = record {
  counter = counter;
  ungiven = ungiven;
  placed = refl;
  unasked = fin.get-empty nat_cmp chunk;
  said = starts_so (Says chunk silent) d log chunk;
  new = λ q here. absurd (false≢true here);
}
