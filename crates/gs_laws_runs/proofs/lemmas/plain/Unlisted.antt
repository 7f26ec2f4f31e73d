-- A chunk that no file has is leased to nobody, through each move.
use Rattle.std.proofs.Common.{◌≡◌, ◌∙◌, arith, ◌==◌, ◌&&◌, ℕ, Bool, true, false, cond, List, [], ◌∷◌, refl, ap, sym, subst}
use Rattle.std.specs.Prelude.{filter_map, is_some, nat_lt, option_map, Option, Some, None, Result, Ok, Err}
use Rattle.std.specs.Cmp.{nat_cmp_total}
use Rattle.std.specs.FinMap as fin
use Rattle.std.specs.List.{cons_option, list_all}
use Rattle.std.specs.Ordering.{eq_by_cmp, nat_cmp}
use Rattle.std.proofs.lemmas.Bool.{false≢true, true≢false}
use Rattle.std.proofs.lemmas.Bool.Decides.{nat_tests}
use Rattle.gs_base.specs.declared.config.Config.{Config}
use Rattle.gs_base.specs.declared.epoch.EpochEnd.TheVariants as ends
use Rattle.gs_base.specs.declared.numbers.ReqId.{ReqId}
use Rattle.gs_base.specs.declared.refusal.Refusal.{Refusal}
use Rattle.gs_edit.proofs.References.{among}
use Rattle.gs_edit.specs.View.{NamesView}
use Rattle.gs_lease.specs.declared.view.View.{View}
use Rattle.gs_laws_moves.proofs.lemmas.moves.GivenNames.{names_given}
use Rattle.gs_laws_master.proofs.lemmas.upgrades.Beginnings.{fits_gives}
use Rattle.gs_laws_master.proofs.lemmas.keeping.KeptEdits.{get_left, listed_after}
use Rattle.gs_laws_moves.proofs.lemmas.moves.Asked.{said_usual, scan_usual, settle_view, tidied_view}
use Rattle.gs_laws_moves.proofs.lemmas.moves.Entries.{settling_names}
use Rattle.gs_laws_moves.proofs.lemmas.moves.Fitting.{split}
use Rattle.gs_laws_moves.proofs.lemmas.moves.Leaving.{ViewFrom, leaves_view, record_view}
use Rattle.gs_laws_moves.proofs.lemmas.moves.Listed.{over_records}
use Rattle.gs_laws_moves.proofs.lemmas.moves.Moved.{beside_records}
use Rattle.gs_laws_moves.proofs.lemmas.moves.Right.{one_fits, settled_gives}
use Rattle.gs_laws_moves.proofs.lemmas.moves.Rows.{listed_stay, new_are_unled}
use Rattle.gs_laws_moves.specs.moves.Epochs.{ByItself, Closes, EndsOnce, Within, closes, is_alone, is_followed}
use Rattle.gs_laws_moves.specs.moves.Guards.{Heard, IsMade}
use Rattle.gs_laws_moves.specs.moves.Moves.{BeginsRollback, Finalizes, Prepares, TellsRollback, Chain, Move, Moves, Rests, Then, Answers as AnswersCall, Begins, Checkpoints, CommitsRollback, Copies, Refuses, Scans, Settles, move_turn}
use Rattle.gs_laws_moves.specs.moves.Shared.{HasNoTerm}
use Rattle.gs_master_record.specs.Plain.{Edited, Finalize, Holder, PlainEdit, PlainEntry, Prepare, Propose, RollbackBegin, RollbackCommit, Said, Settle, Whole}
use Rattle.gs_master_record.specs.declared.checkpoint.Phase.TheVariants.{Ordinary, Rolling, Upgrade}
use Rattle.gs_master_record.specs.declared.entry.Answered.{Answered}
use Rattle.gs_master_spec.specs.Applied.{after_edit, after_undoing, applied, replayed, are_answers, are_at_rest, forgotten_by, held_by, is_next_epoch, may_be_settled, may_edit, may_propose, proposed, restored_chunk, restored_view, rolled_back, with_edit, with_epoch, with_reply, with_view, without_prepared}
use Rattle.gs_master_spec.specs.Beginning.{begin_at, copy_plan, next_stamp}
use Rattle.gs_master_spec.specs.Chunks.{holder_records, is_holder, target_of}
use Rattle.gs_master_spec.specs.Durable.{Durable, Settled, is_listed, is_ordinary, is_rolling, is_upgrade, prepared_view, with_prepared}
use Rattle.gs_master_spec.specs.Settling.{own_request}
use Rattle.gs_master_spec.specs.State.{State, Turn}
use Rattle.gs_master_spec.specs.Undoing.{edited_names}
use Rattle.gs_master_spec.specs.Upgrades.{answers_for, restored_on, told_of}
use Rattle.gs_master_spec.specs.Working.{scan_edits}
use Rattle.gs_master_spec.specs.declared.asking.Asking.{Asking}
use Rattle.gs_master_spec.specs.declared.asking.Prepared.{Prepared}

settled_is : {a b : Settled} → ◌≡◌ {A = Option Settled} (Some a) (Some b) → a ≡ b
settled_is k = cc

same_number : (a b : ℕ) → (a == b) ≡ true → a ≡ b
same_number a b h = grind (arith, nat_tests)

-- what a rollback gives back
commit_gives : (config : Config) (heard : Heard) (s : State) (req : ReqId) (names : NamesView) → IsMade config heard s (CommitsRollback req names) → rolled_back s.durable (answers_for (prepared_view s.durable) (told_of s) (fin.entries names.refs)) names ≡ (move_turn config s (CommitsRollback req names)).after.durable
unfolding applied
commit_gives config heard s req names made =
    let u = (move_turn config s (CommitsRollback req names)).after in
    let list = answers_for (prepared_view s.durable) (told_of s) (fin.entries names.refs) in
    (fits_gives (is_rolling s.durable.phase && ((s.durable.epoch == s.durable.epoch) && are_answers (prepared_view s.durable) (fin.entries names.refs) list)) (rolled_back s.durable list names) u.durable
    (ap (after_undoing s.durable s.durable.epoch list) (sym made.may.back) ∙ one_fits s.durable u.durable (RollbackCommit (s.durable.epoch) list) made.fits)).1

module _ (chunk : ℕ) where
  -- a chunk that no file has, nor had
  abbrev pub IsUnledUnlisted : Durable → Type 0
  IsUnledUnlisted d = is_listed d chunk ≡ false → HasNoTerm d chunk

  -- no view is settled of it, and it is listed behind it where it was
  from_view : (d e : Durable) → ViewFrom chunk d e → is_listed e chunk ≡ is_listed d chunk → IsUnledUnlisted d → IsUnledUnlisted e
  from_view d e view same k out = record { term = λ y has. (let p = view y has in ap (λ (v : View). v.term) (sym p.2) ∙ (k (sym same ∙ out)).term p.0 p.1) }

  from_names : (d e : Durable) → ViewFrom chunk d e → e.names ≡ d.names → IsUnledUnlisted d → IsUnledUnlisted e
  from_names d e view same = from_view d e view (ap (λ (n : NamesView). is_some (fin.get n.refs chunk)) same)

  -- ---- records

  out_by_names : (d e : Durable) → e.names ≡ d.names → is_listed e chunk ≡ false → is_listed d chunk ≡ false
  out_by_names d e same out = ap (λ (n : NamesView). is_some (fin.get n.refs chunk)) (sym same) ∙ out

  -- an edit forgets the chunk with its row, or leaves it listed
  module _ (d e : Durable) (by : ReqId) (edit : PlainEdit) (fit : applied d (Edited by edit) ≡ Some e) where
    left_by : (names : Result NamesView Refusal) → after_edit d by edit names ≡ Some e → fin.get e.chunks chunk ≡ cond (among chunk (forgotten_by edit)) None (fin.get d.chunks chunk)
    left_by (Ok names) h = ap (λ (x : Durable). fin.get x.chunks chunk) (sym (fits_gives (may_edit d edit) (with_edit d by edit names) e h).1) ∙ get_left d (forgotten_by edit) chunk
    left_by (Err refusal) h = absurd (false≢true (ap is_some h))

    left : fin.get e.chunks chunk ≡ cond (among chunk (forgotten_by edit)) None (fin.get d.chunks chunk)
    unfolding applied
    left = left_by (edited_names edit d.names) fit

    edit_out : is_listed e chunk ≡ false → is_some (fin.get e.chunks chunk) ≡ true → is_listed d chunk ≡ false
    edit_out out some = by_among (among chunk (forgotten_by edit)) (is_listed d chunk) refl refl
      where
        by_among : (b listed : Bool) → among chunk (forgotten_by edit) ≡ b → is_listed d chunk ≡ listed → listed ≡ false
        by_among b false gone is = refl
        by_among true true gone is = absurd (false≢true (sym (ap is_some (left ∙ ap (λ g. cond g None (fin.get d.chunks chunk)) gone)) ∙ some))
        by_among false true gone is = absurd (true≢false (sym (listed_after edit d.names e.names chunk (names_given d e by edit fit) is gone) ∙ out))

  -- A chunk that no file has, and of which a view is settled, no file had: so it is over each record but those of rollbacks and checkpoints.
  was_unlisted : (d e : Durable) (entry : PlainEntry) → leaves_view chunk entry ≡ true → applied d entry ≡ Some e → is_listed e chunk ≡ false → is_some (fin.get e.chunks chunk) ≡ true → is_listed d chunk ≡ false
  unfolding applied
  was_unlisted d e (Edited by edit) usual fit out some = edit_out d e by edit fit out some
  was_unlisted d e (Said to refusal) usual fit out some = out_by_names d e (ap (λ (x : Durable). x.names) (sym (fits_gives true (record d { replies = with_reply d.replies to (Err refusal) }) e fit).1)) out
  was_unlisted d e (Propose q version) usual fit out some =
      out_by_names d e (ap (λ (x : Durable). x.names) (sym (fits_gives (may_propose d.phase d.next_handle d.next_version q version (fin.get d.chunks q)) (proposed d q version) e fit).1)) out
  was_unlisted d e (Settle v) usual fit out some = out_by_names d e (ap (λ (x : Durable). x.names) (sym (fits_gives (may_be_settled d v) (with_view d v) e fit).1)) out
  was_unlisted d e (Prepare epoch moment many) usual fit out some =
      out_by_names d e (ap (λ (x : Durable). x.names) (sym (fits_gives (is_ordinary d.phase && (is_next_epoch d.epoch epoch && are_at_rest d)) (without_prepared (with_epoch d ends.Prepare Upgrade)) e fit).1)) out
  was_unlisted d e (Finalize epoch) usual fit out some =
      out_by_names d e (ap (λ (x : Durable). x.names) (sym (fits_gives (is_upgrade d.phase && is_next_epoch d.epoch epoch) (without_prepared (with_epoch d ends.Finalize Ordinary)) e fit).1)) out
  was_unlisted d e (RollbackBegin epoch) usual fit out some =
      out_by_names d e (ap (λ (x : Durable). x.names) (sym (fits_gives (is_upgrade d.phase && is_next_epoch d.epoch epoch) (with_epoch d ends.Rollback Rolling) e fit).1)) out
  was_unlisted d e (RollbackCommit epoch answers) usual fit out some = absurd (false≢true usual)
  was_unlisted d e (Whole c) usual fit out some = absurd (false≢true usual)
  was_unlisted d e (Holder q server) usual fit out some =
      out_by_names d e
      (ap (λ (x : Durable). x.names) (sym (fits_gives (is_upgrade d.phase && (nat_lt server 16 && is_some (prepared_view d q))) (record d { prepared = with_prepared d q (held_by server (prepared_view d q)) }) e fit).1)) out

  record_unled : (d e : Durable) (entry : PlainEntry) → leaves_view chunk entry ≡ true → applied d entry ≡ Some e → IsUnledUnlisted d → IsUnledUnlisted e
  record_unled d e entry usual fit k out = record { term = λ y has. (let p = record_view chunk d e entry usual fit y has in let was = was_unlisted d e entry usual fit out (ap is_some has) in ap (λ (v : View). v.term) (sym p.2) ∙ (k was).term p.0 p.1) }

  -- over such records
  pub part_unled : (entries : List PlainEntry) (d e : Durable) → list_all (leaves_view chunk) entries ≡ true → replayed d entries ≡ Some e → IsUnledUnlisted d → IsUnledUnlisted e
  part_unled entries d e usual fit k = over_records (λ d e. IsUnledUnlisted d → IsUnledUnlisted e) (λ d h. h) (λ d n e a b h. b (a h)) (leaves_view chunk) record_unled entries d e usual fit k

  -- where rows and names are the same
  pub linked_unled : (d e : Durable) → fin.get e.chunks chunk ≡ fin.get d.chunks chunk → e.names ≡ d.names → IsUnledUnlisted d → IsUnledUnlisted e
  linked_unled d e row names = from_names d e (λ y has. (y, sym row ∙ has, refl)) names

  -- ---- moves

  module _ (config : Config) (heard : Heard) (s : State) (k : IsUnledUnlisted s.durable) where
    by_records : (move : Move) → IsMade config heard s move → list_all (leaves_view chunk) (move_turn config s move).records ≡ true → IsUnledUnlisted (move_turn config s move).after.durable
    by_records move made usual =
        over_records (λ d e. IsUnledUnlisted d → IsUnledUnlisted e) (λ d h. h) (λ d n e a b h. b (a h)) (leaves_view chunk) record_unled (move_turn config s move).records s.durable (move_turn config s move).after.durable usual made.fits k

    -- a view of it that is settled leases it to nobody
    settles_own : (asking : Asking) (carried : Bool) (view : View) → IsMade config heard s (Settles chunk asking carried view) → IsUnledUnlisted (move_turn config s (Settles chunk asking carried view)).after.durable
    settles_own asking carried view made out =
        let u = (move_turn config s (Settles chunk asking carried view)).after in
        let holds = holder_records (is_holder s.durable.phase (prepared_view s.durable chunk) carried asking view) chunk (target_of asking.purpose) in
        let parts = split holds (Settle (record { handle = chunk; view = view }) ∷ []) s.durable u.durable made.fits in
        let has = settled_gives parts.mid u.durable chunk view (one_fits parts.mid u.durable (Settle (record { handle = chunk; view = view })) parts.then) in
        let names = settling_names s chunk asking carried view in
        let none = new_are_unled config heard s chunk asking carried view made (ap (λ (n : NamesView). is_some (fin.get n.refs chunk)) (sym names) ∙ out) in
        record { term = λ y there. ap (λ (z : Settled). z.view.term) (settled_is (sym there ∙ has)) ∙ none }

    settles_unled : (q : ℕ) (asking : Asking) (carried : Bool) (view : View) → IsMade config heard s (Settles q asking carried view) → IsUnledUnlisted (move_turn config s (Settles q asking carried view)).after.durable
    settles_unled q asking carried view made = by_key (q == chunk) refl
      where
        by_key : (b : Bool) → (q == chunk) ≡ b → IsUnledUnlisted (move_turn config s (Settles q asking carried view)).after.durable
        by_key true same =
            subst (λ h. IsMade config heard s (Settles h asking carried view) → IsUnledUnlisted (move_turn config s (Settles h asking carried view)).after.durable) (sym (same_number q chunk same)) (settles_own asking carried view) made
        by_key false other = from_names s.durable (move_turn config s (Settles q asking carried view)).after.durable (settle_view chunk s q asking carried view other made.fits) (settling_names s q asking carried view) k

    -- what a rollback restores is leased to nobody
    restored_term : (d : Durable) (all : List Answered) (x : Settled) → fin.find nat_cmp chunk (filter_map (restored_chunk d) all) ≡ Some x → x.view.term ≡ None
    restored_term d [] x e = absurd (false≢true (ap is_some e))
    restored_term d (answer ∷ all) x e = by_prepared (restored_term d all x) (prepared_view d answer.handle) e
      where
        by_key : (fin.find nat_cmp chunk (filter_map (restored_chunk d) all) ≡ Some x → x.view.term ≡ None) → (p : Prepared) (b : Bool) → cond b (Some (restored_view d.epoch p answer.members)) (fin.find nat_cmp chunk (filter_map (restored_chunk d) all)) ≡ Some x → x.view.term ≡ None
        by_key rest p true h = ap (λ (z : Settled). z.view.term) (sym (settled_is h))
        by_key rest p false h = rest h

        by_prepared : (fin.find nat_cmp chunk (filter_map (restored_chunk d) all) ≡ Some x → x.view.term ≡ None) → (o : Option Prepared) → fin.find nat_cmp chunk (cons_option (option_map (λ (p : Prepared). (answer.handle, restored_view d.epoch p answer.members)) o) (filter_map (restored_chunk d) all)) ≡ Some x → x.view.term ≡ None
        by_prepared rest None h = rest h
        by_prepared rest (Some p) h = by_key rest p (eq_by_cmp nat_cmp chunk answer.handle) h

    commits_unled : (req : ReqId) (names : NamesView) → IsMade config heard s (CommitsRollback req names) → IsUnledUnlisted (move_turn config s (CommitsRollback req names)).after.durable
    commits_unled req names made out =
        let list = answers_for (prepared_view s.durable) (told_of s) (fin.entries names.refs) in
        record { term = λ x has. restored_term s.durable list x (sym (fin.get-from_entries nat_cmp_total (filter_map (restored_chunk s.durable) list) chunk) ∙ ap (λ (d : Durable). fin.get d.chunks chunk) (commit_gives config heard s req names made) ∙ has) }

    move_unled : (move : Move) → IsMade config heard s move → IsUnledUnlisted (move_turn config s move).after.durable
    move_unled (Begins q purpose call beside) made = by_records (Begins q purpose call beside) made (ap (list_all (leaves_view chunk)) (beside_records chunk (begin_at s q purpose call) beside))
    move_unled (Copies old view req beside) made = by_records (Copies old view req beside) made (ap (list_all (leaves_view chunk)) (beside_records chunk (copy_plan (next_stamp s.durable) old view s.durable.next_handle req) beside))
    move_unled (Settles q asking carried view) made = settles_unled q asking carried view made
    move_unled (Scans removed forgotten) made = by_records (Scans removed forgotten) made (scan_usual chunk own_request (scan_edits removed forgotten))
    move_unled (Refuses req refusal over) made = by_records (Refuses req refusal over) made (said_usual chunk s req refusal)
    move_unled (AnswersCall req answer true) made = by_records (AnswersCall req answer true) made refl
    move_unled (AnswersCall req answer false) made = by_records (AnswersCall req answer false) made refl
    move_unled (CommitsRollback req names) made = commits_unled req names made
    move_unled Checkpoints made = from_names s.durable (move_turn config s Checkpoints).after.durable (tidied_view chunk s.durable) refl k
    move_unled move made = by_records move made refl

  -- what a rollback restores a file has
  find_listed : (d : Durable) (told : ℕ → List ℕ) (refs : List (ℕ × ℕ)) (x : Settled) → fin.find nat_cmp chunk (filter_map (restored_chunk d) (answers_for (prepared_view d) told refs)) ≡ Some x → is_some (fin.find nat_cmp chunk refs) ≡ true
  find_listed d told [] x e = absurd (false≢true (ap is_some e))
  find_listed d told (r ∷ refs) x e = by_prepared (find_listed d told refs x) (prepared_view d r.0) e
    where
      rest : List (ℕ × Settled)
      rest = filter_map (restored_chunk d) (answers_for (prepared_view d) told refs)

      by_key : (b : Bool) (y : Settled) → (fin.find nat_cmp chunk rest ≡ Some x → is_some (fin.find nat_cmp chunk refs) ≡ true) → cond b (Some y) (fin.find nat_cmp chunk rest) ≡ Some x → is_some (cond b (Some r.1) (fin.find nat_cmp chunk refs)) ≡ true
      by_key true y more h = refl
      by_key false y more h = more h

      by_none : (b : Bool) → is_some (fin.find nat_cmp chunk refs) ≡ true → is_some (cond b (Some r.1) (fin.find nat_cmp chunk refs)) ≡ true
      by_none true more = refl
      by_none false more = more

      by_prepared : (fin.find nat_cmp chunk rest ≡ Some x → is_some (fin.find nat_cmp chunk refs) ≡ true) → (o : Option Prepared)
          → fin.find nat_cmp chunk (cons_option (option_map (λ (p : Prepared). (r.0, restored_view d.epoch p (restored_on (prepared_view d r.0) (told r.0)))) o) rest) ≡ Some x → is_some (cond (eq_by_cmp nat_cmp chunk r.0) (Some r.1) (fin.find nat_cmp chunk refs)) ≡ true
      by_prepared more None h = by_none (eq_by_cmp nat_cmp chunk r.0) (more h)
      by_prepared more (Some p) h = by_key (eq_by_cmp nat_cmp chunk r.0) (restored_view d.epoch p (restored_on (prepared_view d r.0) (told r.0))) more h

  -- ---- who is settled, and in no file, was so before

  abbrev pub IsOutFrom : Durable → Durable → Type 0
  IsOutFrom d e = is_listed e chunk ≡ false → is_some (fin.get e.chunks chunk) ≡ true → (is_listed d chunk ≡ false) × (is_some (fin.get d.chunks chunk) ≡ true)

  some_of : (o : Option Settled) → is_some o ≡ true → (y : Settled) × (o ≡ Some y)
  some_of None some = absurd (false≢true some)
  some_of (Some y) some = (y, refl)

  out_by_view : (d e : Durable) → ViewFrom chunk d e → is_listed d chunk ≡ false → is_some (fin.get e.chunks chunk) ≡ true → (is_listed d chunk ≡ false) × (is_some (fin.get d.chunks chunk) ≡ true)
  out_by_view d e view out some = (let y = some_of (fin.get e.chunks chunk) some in let p = view y.0 y.1 in (out, ap is_some p.1))

  record_out : (d e : Durable) (entry : PlainEntry) → leaves_view chunk entry ≡ true → applied d entry ≡ Some e → IsOutFrom d e
  record_out d e entry usual fit out some = out_by_view d e (record_view chunk d e entry usual fit) (was_unlisted d e entry usual fit out some) some

  over_out : (d n e : Durable) → IsOutFrom d n → IsOutFrom n e → IsOutFrom d e
  over_out d n e a b out some = let later = b out some in a later.0 later.1

  pub part_out : (entries : List PlainEntry) (d e : Durable) → list_all (leaves_view chunk) entries ≡ true → replayed d entries ≡ Some e → IsOutFrom d e
  part_out entries d e usual fit = over_records IsOutFrom (λ d out some. (out, some)) over_out (leaves_view chunk) record_out entries d e usual fit

  module _ (config : Config) (heard : Heard) (s : State) where
    out_records : (move : Move) → IsMade config heard s move → list_all (leaves_view chunk) (move_turn config s move).records ≡ true → IsOutFrom s.durable (move_turn config s move).after.durable
    out_records move made usual = over_records IsOutFrom (λ d out some. (out, some)) over_out (leaves_view chunk) record_out (move_turn config s move).records s.durable (move_turn config s move).after.durable usual made.fits

    never_out : (req : ReqId) (names : NamesView) → IsMade config heard s (CommitsRollback req names) → is_listed (move_turn config s (CommitsRollback req names)).after.durable chunk ≡ false → is_some (fin.get (move_turn config s (CommitsRollback req names)).after.durable.chunks chunk) ≡ true → ⊥
    never_out req names made out some =
        let u = (move_turn config s (CommitsRollback req names)).after in
        let gives = commit_gives config heard s req names made in
        let y = some_of (fin.get u.durable.chunks chunk) some in
        let list = answers_for (prepared_view s.durable) (told_of s) (fin.entries names.refs) in
        let found = sym (fin.get-from_entries nat_cmp_total (filter_map (restored_chunk s.durable) list) chunk) ∙ ap (λ (d : Durable). fin.get d.chunks chunk) gives ∙ y.1 in
        let listed = find_listed s.durable (told_of s) (fin.entries names.refs) y.0 found in
        true≢false (sym listed ∙ ap is_some (sym (fin.get-entries names.refs chunk)) ∙ ap (λ (d : Durable). is_listed d chunk) gives ∙ out)

    -- so each chunk of which a view is settled behind a rollback stands in a file
    pub commit_lists : (req : ReqId) (names : NamesView) → IsMade config heard s (CommitsRollback req names) → is_some (fin.get (move_turn config s (CommitsRollback req names)).after.durable.chunks chunk) ≡ true
        → is_listed (move_turn config s (CommitsRollback req names)).after.durable chunk ≡ true
    commit_lists req names made some = by_listed (is_listed (move_turn config s (CommitsRollback req names)).after.durable chunk) refl
      where
        by_listed : (b : Bool) → is_listed (move_turn config s (CommitsRollback req names)).after.durable chunk ≡ b → b ≡ true
        by_listed true is = refl
        by_listed false is = absurd (never_out req names made is some)

    -- so it is over each move that isn't a settling
    move_out : (move : Move) → is_alone move ≡ true → IsMade config heard s move → IsOutFrom s.durable (move_turn config s move).after.durable
    move_out (Scans removed forgotten) alone made = out_records (Scans removed forgotten) made (scan_usual chunk own_request (scan_edits removed forgotten))
    move_out (CommitsRollback req names) alone made = (λ out some. absurd (never_out req names made out some))
    move_out (Prepares req moment) alone made = out_records (Prepares req moment) made refl
    move_out (Finalizes req) alone made = out_records (Finalizes req) made refl
    move_out BeginsRollback alone made = out_records BeginsRollback made refl
    move_out (AnswersCall req answer true) alone made = out_records (AnswersCall req answer true) made refl
    move_out (AnswersCall req answer false) alone made = out_records (AnswersCall req answer false) made refl
    move_out move alone made = absurd (false≢true alone)

    closing_out : (move : Move) → closes move ≡ true → IsMade config heard s move → IsOutFrom s.durable (move_turn config s move).after.durable
    closing_out (Refuses req refusal over) closing made = out_records (Refuses req refusal over) made (said_usual chunk s req refusal)
    closing_out (AnswersCall req answer true) closing made = out_records (AnswersCall req answer true) made refl
    closing_out (AnswersCall req answer false) closing made = out_records (AnswersCall req answer false) made refl
    closing_out (TellsRollback req epoch) closing made = out_records (TellsRollback req epoch) made refl
    closing_out move closing made = absurd (false≢true closing)

  closing_over : (config : Config) (heard : Heard) (s : State) (t : Turn) → Chain config (λ u move. IsMade config heard u move × (closes move ≡ true)) s t → IsOutFrom s.durable t.after.durable
  closing_over config heard s t (Rests u said) = λ out some. (out, some)
  closing_over config heard s t (Moves u move said held) = closing_out config heard s move held.1 held.0
  closing_over config heard s t (Then u first next a b) = over_out u.durable first.after.durable next.after.durable (closing_over config heard u first a) (closing_over config heard first.after next b)

  -- A chunk that no file has behind a turn, and of which a view is settled then, no file had before it.
  pub turn_out : (config : Config) (heard : Heard) (s : State) (t : Turn) → EndsOnce config (IsMade config heard) s t → is_listed t.after.durable chunk ≡ false → is_some (fin.get t.after.durable.chunks chunk) ≡ true → is_listed s.durable chunk ≡ false
  turn_out config heard s t (Within u v chain) out some = by_listed (is_listed u.durable chunk) refl
    where
      by_listed : (b : Bool) → is_listed u.durable chunk ≡ b → b ≡ false
      by_listed true is = absurd (true≢false (sym (listed_stay config heard u v chunk chain is) ∙ out))
      by_listed false is = refl
  turn_out config heard s t (ByItself u move said made alone) out some = (move_out config heard u move alone made out some).0
  turn_out config heard s t (Closes u move said next made followed chain) out some =
      let later = closing_over config heard (move_turn config u move).after next chain out some in (move_out config heard u move (followed_alone move followed) made later.0 later.1).0
    where
      followed_alone : (m : Move) → is_followed m ≡ true → is_alone m ≡ true
      followed_alone (Scans removed forgotten) is = refl
      followed_alone BeginsRollback is = refl
      followed_alone m is = absurd (false≢true is)

  pub chain_unled : (config : Config) (heard : Heard) (s : State) (t : Turn) → Chain config (IsMade config heard) s t → IsUnledUnlisted s.durable → IsUnledUnlisted t.after.durable
  chain_unled config heard s t (Rests u said) k = k
  chain_unled config heard s t (Moves u move said made) k = move_unled config heard s k move made
  chain_unled config heard s t (Then u first next a b) k = chain_unled config heard first.after next b (chain_unled config heard s first a k)
