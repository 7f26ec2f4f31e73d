-- Each step of a run is commands of the plain machine, where chunks that are put into files have their texts.
use Rattle.std.proofs.Common.{◌≡◌, ◌∙◌, ◌++◌, ◌≤◌, arith, inl, inr, ℕ, zero, suc, Bool, true, false, List, [], ◌∷◌, append-nil, length, map, take, refl, sym, ap, subst}
use Rattle.std.specs.Prelude.{None, is_some, Option, Some, if◌then◌else◌}
use Rattle.std.specs.FinMap as fin
use Rattle.std.specs.List.{AllByRecursion, list_all}
use Rattle.std.proofs.lemmas.Bool.{and_parts, false≢true}
use Rattle.std.proofs.lemmas.List.{take_all}
use Rattle.gs_laws_world.specs.steady.Through.{is_sound_at}
use Rattle.gs_journal.specs.declared.version.Version.TheVariants.{Two}
use Rattle.gs_laws_master.specs.Promises.{IsKept}
use Rattle.gs_laws_master.specs.Reached.{GoWithin}
use Rattle.gs_laws_moves.specs.moves.Epochs.{prepares, rolls_back}
use Rattle.gs_laws_moves.specs.moves.Guards.{Heard}
use Rattle.gs_laws_moves.specs.moves.Moves.{CommitsRollback, Finalizes, Move, Prepares, move_turn}
use Rattle.gs_edit.specs.Machine.{restored}
use Rattle.gs_edit.specs.Mapped.{mapped_rows}
use Rattle.gs_edit.specs.View.{NamesView}
use Rattle.gs_laws_moves.proofs.lemmas.moves.Epochs.{rolling_is}
use Rattle.gs_laws_plain.proofs.lemmas.commands.Placed.{same_rows, stand_in}
use Rattle.gs_laws_plain.specs.commands.Commands.{Texts}
use Rattle.gs_laws_plain.proofs.lemmas.commands.Places.{all_weaker}
use Rattle.gs_laws_plain.specs.commands.OnePlace.{standing_at}
use Rattle.gs_laws_plain.specs.commands.Records.{KeepsTexts, kept_in}
use Rattle.gs_laws_plain.specs.commands.Places.{AreAlone, Place, places_in}
use Rattle.gs_master_record.specs.Plain.{AddChunk, Cow, Edited, PlainEdit, Finalize, Forget, Holder, PlainEntry, Prepare, Remove, RollbackCommit}
use Rattle.gs_master_record.specs.Writable.{IsEntry}
use Rattle.gs_master_record.specs.declared.checkpoint.Phase.{Phase}
use Rattle.gs_master_record.specs.declared.checkpoint.Phase.TheVariants.{Rolling}
use Rattle.gs_master_record.specs.declared.entry.Answered.{Answered}
use Rattle.gs_master_spec.specs.Applied.{applied, replayed}
use Rattle.gs_master_spec.specs.Durable.{Durable, is_listed, is_ordinary, is_rolling}
use Rattle.gs_master_spec.specs.State.{State, Turn}
use Rattle.gs_master_spec.specs.Undoing.{all_undone}
use Rattle.gs_laws_moves.proofs.lemmas.upgrades.Records.{Goes, Paced, Turns as Bounds, chain_within, is_bound, paced}
use Rattle.gs_world.proofs.Reaching.{HaveSizes}
use Rattle.gs_world.specs.Histories.{History}
use Rattle.gs_world.specs.Runs.{Step}
use Rattle.gs_laws_chunks.proofs.lemmas.accounts.Edits.{AreNumbered}
use Rattle.gs_laws_chunks.proofs.lemmas.accounts.SeeingThrough.{reached_well}
use Rattle.gs_laws_chunks.specs.accounts.Accounts.{Account, edits_in, settled_edits, text_of, view_at}
use Rattle.gs_laws_chunks.specs.accounts.Back.{EachIsOfAPrepare, GivesNoOtherBack, GivesSettledBack}
use Rattle.gs_laws_chunks.specs.accounts.Running.{IsReached, Moves, Setup}
use Rattle.gs_laws_chunks.specs.accounts.Upgrading.{IsUpgrading}
use Rattle.gs_laws_runs.proofs.lemmas.plain.Committed.{alone_back, before_is_settled, settled_is_before}
use Rattle.gs_laws_lift.proofs.lemmas.copies.Counted.{is_listed_there}
use Rattle.gs_laws_runs.proofs.lemmas.plain.Ends.{commit_ends, finalize_ends_as, prepare_ends, within_ends}
use Rattle.gs_laws_runs.proofs.lemmas.plain.Ending.{commits_lead, committed_is, committed_names, finalizes_lead, growing_lead, prepared_is, prepares_lead}
use Rattle.gs_laws_runs.proofs.lemmas.plain.Onward.{grows, had, has, kept_before, kept_behind, none_new}
use Rattle.gs_laws_runs.proofs.lemmas.plain.Shapes.{all_keep_texts, all_within, commit_is_back, finalize_ends, go_taken, none_begins, none_is_back, prepare_begins, same_phase_over, then_replays}
use Rattle.gs_laws_runs.proofs.lemmas.plain.Shared.{alone_within}
use Rattle.gs_laws_runs.proofs.lemmas.plain.Writing.{Keeps, Turns, Writes, writes, WritesTurn}
use Rattle.gs_laws_runs.proofs.lemmas.plain.Cut.{CutLeaves, Leads, Scanned, cut_leaves, taken, taken_of}
use Rattle.gs_laws_runs.proofs.lemmas.plain.Scans.{OfScan, of_scan}
use Rattle.gs_laws_lift.proofs.lemmas.stores.CutRows.{is_silent}
use Rattle.gs_laws_lift.specs.stores.Left.{as_left}
use Rattle.gs_master_spec.specs.Settling.{own_request}
use Rattle.gs_master_spec.specs.Working.{scan_edits}
use Rattle.gs_base.specs.declared.numbers.ReqId.{ReqId}
use Rattle.gs_master.specs.Masters.{MasterOf}
use Rattle.gs_nodes.specs.declared.place.MasterPlace.TheVariants.{Standing}
use Rattle.gs_replica.specs.Stands.{replica_of}
use Rattle.gs_laws_lift.proofs.lemmas.copies.Put.{once_over}
use Rattle.gs_laws_lift.proofs.lemmas.copies.Waited.{AndWaited, Waited, WaitsIn, all_waited, for_copy}
use Rattle.gs_laws_lift.specs.copies.Held.{AreHeld, slot}
use Rattle.gs_laws_lift.specs.copies.Made.{PutsCopy}
use Rattle.gs_laws_lift.specs.copies.Told.{OfPut}
use Rattle.gs_laws_moves.proofs.lemmas.moves.Stands.{once_stands}
use Rattle.gs_laws_chunks.specs.accounts.Moving.{edits_of}
use Rattle.gs_laws_lift.specs.stores.Copying.{copied_from, is_copied}
use Rattle.gs_laws_runs.proofs.lemmas.plain.Copying.{WaitsStill, copied_given, holds, some_copied, told_of_place, unled_in}
use Rattle.gs_laws_runs.proofs.lemmas.plain.Holding.{places_held}
use Rattle.gs_laws_runs.proofs.lemmas.plain.Copies.{MadeAt, ToldSo, made_there, no_copy}
use Rattle.gs_laws_runs.proofs.lemmas.plain.Committed.{view_of}
use Rattle.gs_laws_runs.proofs.lemmas.plain.Fresh.{added_as_made, same_made}
use Rattle.gs_laws_runs.specs.plain.Ends.{EndsAs}
use Rattle.gs_laws_runs.specs.plain.Plainly.{EditsOnePlace, IsPlainStep, StepsArePlain}
use Rattle.gs_laws_runs.specs.plain.Settling.{newly_settled}
use Rattle.gs_laws_runs.specs.plain.Told.{PutWereTold}
use Rattle.gs_laws_runs.specs.plain.Stepping.{AreCommandsOf, EndsBy, OfEachPlace, texts_between}
use Rattle.gs_laws_runs.specs.plain.Views.{plain_view, texts_of}
use Rattle.gs_laws_runs.specs.plain.Written.{AreWhole, IsAllBut, records_at}

-- of each chunk that stands in a file
of_places : (c : Account) → IsKept c.durable → (P : ℕ → Type 0) → ((chunk : ℕ) → is_listed c.durable chunk ≡ true → P chunk) → OfEachPlace c P
of_places c kept P each =
    all_weaker (λ (place : Place). standing_at c.durable.names place.path place.index ≡ Some place.chunk) (λ (place : Place). P place.chunk) (places_in (fin.entries c.durable.names.tree))
    (λ place here. each place.chunk (is_listed_there c.durable.names kept.names place.chunk place.path place.index here)) (stand_in c.durable.names)

durable_is : {d e : Durable} → ◌≡◌ {A = Option Durable} (Some d) (Some e) → d ≡ e
durable_is h = cc

one_applies : (d next : Durable) (entry : PlainEntry) → replayed d (entry ∷ []) ≡ Some next → applied d entry ≡ Some next
one_applies d next entry is = let first = then_replays d next entry [] is in first.1 ∙ first.2

module _ (sizes : HaveSizes) (law : AreNumbered) {D : Type 0} (x : Setup D) (of_prepare : EachIsOfAPrepare x) (settled_back : GivesSettledBack x) (no_other : GivesNoOtherBack x) (step : Step) (old new : History D) (a b : Account) (r : IsReached x old a) (moves : Moves x step old a new b) (were_told : PutWereTold x) where
  abbrev size : ℕ
  size = x.config.chunk

  first_kept : IsKept a.durable
  first_kept = kept_before sizes law x step old new a b r moves

  last_kept : IsKept b.durable
  last_kept = kept_behind sizes law x step old new a b r moves

  before_same : prepares a.durable b.durable ≡ false → b.before ≡ a.before
  before_same none = ap (λ (c : Account). c.before) moves.account ∙ ap (λ q. (λ (chunk : ℕ). if q then edits_in a chunk (view_at a chunk) else a.before chunk)) none

  -- where no disk has failed behind it, so many records are none of it, or all, or all but a checkpoint
  abbrev IsWhole : ℕ → Type 0
  IsWhole many = is_sound_at new.nodes.master ≡ true → AreWhole (records_at step old) many

  plain_by : (many : ℕ) → IsWhole many → replayed a.durable (take many (records_at step old)) ≡ Some b.durable → (c : AreCommandsOf size a b (take many (records_at step old))) → EndsAs size a b c.commands → IsPlainStep size step old new a b
  plain_by many whole replays c ends = record {
    commands = c.commands;
    leads = c.leads;
    written = many;
    records = replays;
    whole = whole;
    others = c.others;
    edits = c.edits;
    ends = ends;
    grows = λ chunk goes_on listed. grows sizes law x step old new a b r moves chunk listed goes_on;
  }

  -- a plain step, of all records where no disk has failed behind it, but perhaps for a checkpoint
  abbrev Covers : ℕ → Type 0
  Covers many = is_sound_at new.nodes.master ≡ true → IsAllBut (records_at step old) (take many (records_at step old))

  abbrev pub PlainWith : Type 0
  PlainWith = (p : IsPlainStep size step old new a b) × (is_sound_at new.nodes.master ≡ true → IsAllBut (records_at step old) (take p.written (records_at step old)))

  plain_with : (many : ℕ) → Covers many → replayed a.durable (take many (records_at step old)) ≡ Some b.durable → (c : AreCommandsOf size a b (take many (records_at step old))) → EndsAs size a b c.commands → PlainWith
  unfolding plain_by
  plain_with many covers replays c ends = (plain_by many (λ sound. inr (covers sound)) replays c ends, covers)

  -- ---- within an epoch

  -- a chunk that is put at the end of a file has no text
  abbrev HasNoText : ℕ → Type 0
  HasNoText chunk = text_of size (settled_edits a chunk ++ newly_settled a b chunk) ≡ []

  no_edits_no_text : text_of size [] ≡ []
  unfolding replica_of
  no_edits_no_text = refl

  added_text : rolls_back a.durable b.durable ≡ false → (chunk : ℕ) → copied_from old.sent chunk ≡ None → is_listed a.durable chunk ≡ false → is_listed b.durable chunk ≡ true → HasNoText chunk
  added_text goes_on chunk none out listed =
      let there = view_of (fin.get b.durable.chunks chunk) (last_kept.settled chunk listed) in
      ap (text_of size) (added_as_made sizes law x old new a b step chunk r moves goes_on out listed ∙ same_made sizes law x step old new a b r moves chunk there.0 there.1 goes_on ∙ ap (edits_of a) none) ∙ no_edits_no_text

  -- one that takes the place of another has the text of that
  abbrev HasTextOf : Option Place → ℕ → Type 0
  HasTextOf None chunk = HasNoText chunk
  HasTextOf (Some place) chunk = text_of size (settled_edits a chunk ++ newly_settled a b chunk) ≡ text_of size (settled_edits a place.chunk ++ newly_settled a b place.chunk)

  keep_texts : (records : List PlainEntry) → AllByRecursion (OfPut HasTextOf) records → AllByRecursion (KeepsTexts (texts_between size a b)) records
  keep_texts [] all = tt
  keep_texts (entry ∷ records) all = (by_entry entry all.0, keep_texts records all.1)
    where
      by_edit : (by : ReqId) (edit : PlainEdit) → OfPut HasTextOf (Edited by edit) → KeepsTexts (texts_between size a b) (Edited by edit)
      by_edit by (AddChunk path chunk) k = k
      by_edit by (Cow path index before after) k = k
      by_edit by edit k = tt

      by_entry : (entry : PlainEntry) → OfPut HasTextOf entry → KeepsTexts (texts_between size a b) entry
      by_entry (Edited by edit) k = by_edit by edit k
      by_entry entry k = tt

  abbrev PutTexts : List PlainEntry → Type 0
  PutTexts records = rolls_back a.durable b.durable ≡ false → AllByRecursion (OfPut HasTextOf) records

  within : (many : ℕ) → PutTexts (take many (records_at step old)) → AllByRecursion (IsEntry Two) (take many (records_at step old)) → GoWithin a.durable (take many (records_at step old)) → replayed a.durable (take many (records_at step old)) ≡ Some b.durable → (c : AreCommandsOf size a b (take many (records_at step old))) × EndsAs size a b c.commands
  within many puts written go replays =
      let records = take many (records_at step old) in
      let phase = same_phase_over a.durable b.durable records first_kept written go replays in
      let goes_on = none_is_back a.durable b.durable phase in
      let all = all_within a.durable b.durable records go replays in
      let leads : AreCommandsOf size a b records = growing_lead size a b records (record {
        stands = first_kept;
        within = all;
        alone = alone_within sizes law x step old new a b r moves goes_on;
        written = written;
        keep = all_keep_texts (texts_between size a b) a.durable records go (keep_texts records (puts goes_on));
        replays = replays;
        grows = of_places b last_kept (λ chunk. settled_edits a chunk ++ newly_settled a b chunk ≡ settled_edits b chunk) (λ chunk listed. grows sizes law x step old new a b r moves chunk listed goes_on);
        before = before_same (none_begins a.durable b.durable phase);
      }) in
      (leads, within_ends size a b leads.commands phase records all leads.others)

  -- ---- by one record

  ends_by : (entry : PlainEntry) → AreAlone a.durable.names (newly_settled a b) → IsEntry Two entry → applied a.durable entry ≡ Some b.durable → EndsBy a b entry
  ends_by entry alone written applies = record { stands = first_kept; alone = alone; written = written; applies = applies }

  prepared : (epoch moment chunks : ℕ) → IsEntry Two (Prepare epoch moment chunks) → applied a.durable (Prepare epoch moment chunks) ≡ Some b.durable → AreCommandsOf size a b (Prepare epoch moment chunks ∷ [])
  prepared epoch moment chunks written applies =
      let begins = prepare_begins a.durable b.durable epoch moment chunks applies in
      let up : IsUpgrading x new b new b = record { old = old; first = a; reached = r; step = step; moves = moves; accepted = begins.0; steps = []; runs = (refl, refl) } in
      let listed_then : (chunk : ℕ) → is_listed a.durable chunk ≡ true → is_listed b.durable chunk ≡ true = λ chunk listed. ap (λ names. is_some (fin.get names.refs chunk)) begins.2 ∙ listed in
      prepares_lead size a b epoch moment chunks (ends_by (Prepare epoch moment chunks) (alone_within sizes law x step old new a b r moves begins.1) written applies)
      (of_places b last_kept (λ chunk. settled_edits a chunk ++ newly_settled a b chunk ≡ settled_edits b chunk) (λ chunk listed. grows sizes law x step old new a b r moves chunk listed begins.1))
      (of_places a first_kept (λ chunk. text_of size (settled_edits a chunk ++ newly_settled a b chunk) ≡ text_of size (b.before chunk))
      (λ chunk listed. ap (text_of size) (grows sizes law x step old new a b r moves chunk (listed_then chunk listed) begins.1 ∙ sym (before_is_settled sizes law x new new b b up chunk (listed_then chunk listed) last_kept))))

  -- right behind it the tree that stands is kept
  kept_then : (epoch moment chunks : ℕ) → applied a.durable (Prepare epoch moment chunks) ≡ Some b.durable → (plain_view size b).kept ≡ Some (plain_view size b).tree
  kept_then epoch moment chunks applies =
      let begins = prepare_begins a.durable b.durable epoch moment chunks applies in
      let up : IsUpgrading x new b new b = record { old = old; first = a; reached = r; step = step; moves = moves; accepted = begins.0; steps = []; runs = (refl, refl) } in
      prepared_is (texts_of size b).before a.durable b.durable epoch moment chunks applies ∙ ap (λ (names : NamesView). Some (mapped_rows (texts_of size b).before (fin.entries names.tree))) (sym begins.2)
      ∙ ap (λ (rows : Texts). Some rows)
      (same_rows (texts_of size b).before (texts_of size b).now (fin.entries b.durable.names.tree)
      (of_places b last_kept (λ chunk. text_of size (b.before chunk) ≡ text_of size (settled_edits b chunk)) (λ chunk listed. ap (text_of size) (before_is_settled sizes law x new new b b up chunk listed last_kept))))

  finalized : (epoch : ℕ) → IsEntry Two (Finalize epoch) → applied a.durable (Finalize epoch) ≡ Some b.durable → AreCommandsOf size a b (Finalize epoch ∷ [])
  finalized epoch written applies =
      let goes_on = finalize_ends a.durable b.durable epoch applies in
      finalizes_lead size a b epoch (ends_by (Finalize epoch) (alone_within sizes law x step old new a b r moves goes_on) written applies)
      (of_places b last_kept (λ chunk. settled_edits a chunk ++ newly_settled a b chunk ≡ settled_edits b chunk) (λ chunk listed. grows sizes law x step old new a b r moves chunk listed goes_on))

  rolled_back : (epoch : ℕ) (answers : List Answered) → IsEntry Two (RollbackCommit epoch answers) → applied a.durable (RollbackCommit epoch answers) ≡ Some b.durable → AreCommandsOf size a b (RollbackCommit epoch answers ∷ [])
  rolled_back epoch answers written applies =
      let committed = commit_is_back a.durable b.durable epoch answers first_kept applies in
      commits_lead size a b epoch answers (ends_by (RollbackCommit epoch answers) (alone_back sizes law x of_prepare settled_back no_other step old new a b r moves committed) written applies)
      (of_places b last_kept (λ chunk. text_of size (a.before chunk) ≡ text_of size (settled_edits b chunk)) (λ chunk listed. ap (text_of size) (settled_is_before sizes law x of_prepare settled_back no_other step old new a b r moves committed chunk listed)))

  -- what was kept stands behind it
  restored_then : (epoch : ℕ) (answers : List Answered) → applied a.durable (RollbackCommit epoch answers) ≡ Some b.durable → (kept : Texts) × ((plain_view size a).kept ≡ Some kept) × (plain_view size b ≡ restored (plain_view size a) kept)
  restored_then epoch answers applies = (mapped_rows (texts_of size a).before (fin.entries names.tree), was_kept, λ i. record { tree = stands i; kept = none i })
    where
      names : NamesView
      names = first_kept.back.0

      committed : rolls_back a.durable b.durable ≡ true
      committed = commit_is_back a.durable b.durable epoch answers first_kept applies

      was_kept : (plain_view size a).kept ≡ Some (mapped_rows (texts_of size a).before (fin.entries names.tree))
      was_kept =
          ap (λ (p : Phase). kept_in (texts_of size a).before p (all_undone a.durable.inverses a.durable.names)) (rolling_is a.durable.phase (and_parts (is_rolling a.durable.phase) (is_ordinary b.durable.phase) committed).0)
          ∙ ap (kept_in (texts_of size a).before Rolling) first_kept.back.1

      stands : (plain_view size b).tree ≡ mapped_rows (texts_of size a).before (fin.entries names.tree)
      stands =
          same_rows (texts_of size b).now (texts_of size a).before (fin.entries b.durable.names.tree)
          (of_places b last_kept (λ chunk. text_of size (settled_edits b chunk) ≡ text_of size (a.before chunk))
          (λ chunk listed. ap (text_of size) (sym (settled_is_before sizes law x of_prepare settled_back no_other step old new a b r moves committed chunk listed))))
          ∙ ap (λ (n : NamesView). mapped_rows (texts_of size a).before (fin.entries n.tree)) (committed_names a.durable b.durable epoch answers names first_kept.back.1 applies)

      none : (plain_view size b).kept ≡ None
      none = ap (λ (p : Phase). kept_in (texts_of size b).before p (all_undone b.durable.inverses b.durable.names)) (committed_is a.durable b.durable epoch answers names first_kept.back.1 applies)

  -- ---- a turn

  by_one : (many : ℕ) (entry : PlainEntry) → entry ∷ [] ≡ take many (records_at step old) → IsAllBut (records_at step old) (entry ∷ []) → replayed a.durable (entry ∷ []) ≡ Some b.durable → (applied a.durable entry ≡ Some b.durable → (c : AreCommandsOf size a b (entry ∷ [])) × EndsAs size a b c.commands) → PlainWith
  by_one many entry is but replays leads =
      let by_records = subst (λ records. (c : AreCommandsOf size a b records) × EndsAs size a b c.commands) is (leads (one_applies a.durable b.durable entry replays)) in
      plain_with many (λ sound. subst (IsAllBut (records_at step old)) is but) (ap (replayed a.durable) (sym is) ∙ replays) by_records.0 by_records.1

  -- nothing stands
  none_stands : a.durable ≡ b.durable → IsPlainStep size step old new a b
  none_stands same = (let c = within 0 (λ goes_on. tt) tt tt (ap Some same) in plain_by 0 (λ sound. inl refl) (ap Some same) c.0 c.1)

  -- so many records stand of one
  one_or_none : (many all : ℕ) (entry : PlainEntry) → entry ∷ [] ≡ take all (records_at step old) → IsAllBut (records_at step old) (entry ∷ []) → (is_sound_at new.nodes.master ≡ true → many ≡ length (entry ∷ [])) → replayed a.durable (take many (entry ∷ [])) ≡ Some b.durable → (applied a.durable entry ≡ Some b.durable → (c : AreCommandsOf size a b (entry ∷ [])) × EndsAs size a b c.commands) → PlainWith
  one_or_none zero all entry is but whole stands leads = (none_stands (durable_is stands), λ sound. absurd (let none = whole sound in omega arith))
  one_or_none (suc zero) all entry is but whole stands leads = by_one all entry is but stands leads
  one_or_none (suc (suc many)) all entry is but whole stands leads = by_one all entry is but stands leads

  by_move : (many all : ℕ) (config : _) (s : State) (move : Move) → is_bound move ≡ true → (move_turn config s move).records ≡ take all (records_at step old) → IsAllBut (records_at step old) (move_turn config s move).records → AllByRecursion (IsEntry Two) (move_turn config s move).records → (is_sound_at new.nodes.master ≡ true → many ≡ length (move_turn config s move).records) → replayed a.durable (take many (move_turn config s move).records) ≡ Some b.durable → PlainWith
  by_move many all config s (Prepares req moment) bound is but written whole stands =
      one_or_none many all _ is but whole stands (λ applies. (let c = prepared _ _ _ written.0 applies in (c, prepare_ends size a b c.commands _ _ _ applies c.others (kept_then _ _ _ applies))))
  by_move many all config s (Finalizes req) bound is but written whole stands = one_or_none many all _ is but whole stands (λ applies. (let c = finalized _ written.0 applies in (c, finalize_ends_as size a b c.commands _ applies)))
  by_move many all config s (CommitsRollback req names) bound is but written whole stands =
      one_or_none many all _ is but whole stands (λ applies. (let c = rolled_back _ _ written.0 applies in (c, commit_ends size a b c.commands _ _ first_kept applies c.others (restored_then _ _ applies))))
  by_move many all config s move bound is but written whole stands = absurd (false≢true bound)

  -- of a turn so many records stand
  by_pace : (many all : ℕ) (config : _) (heard : Heard) (s : State) (t : Turn) → PutTexts (take many t.records) → Paced config heard s t → s.durable ≡ a.durable → t.records ≡ take all (records_at step old) → IsAllBut (records_at step old) t.records → (is_sound_at new.nodes.master ≡ true → many ≡ length t.records) → AllByRecursion (IsEntry Two) t.records → many ≤ length t.records
      → replayed a.durable (take many t.records) ≡ Some b.durable → PlainWith
  by_pace many all config heard s t puts (Goes u v chain) first is but whole written low stands =
      let same : take many v.records ≡ take many (records_at step old) = taken_of many all v.records (records_at step old) is low in
      let so : Covers many = λ sound. subst (IsAllBut (records_at step old)) (sym (ap (λ n. take n v.records) (whole sound) ∙ take_all (length v.records) v.records (omega arith)) ∙ same) but in
      let c = within many (subst PutTexts same puts) (subst (AllByRecursion (IsEntry Two)) same (taken (IsEntry Two) many v.records written))
      (subst (GoWithin a.durable) same (go_taken a.durable v.records many (subst (λ d. GoWithin d v.records) first (chain_within config heard u v chain written).0))) (ap (replayed a.durable) (sym same) ∙ stands) in plain_with many so (ap (replayed a.durable) (sym same) ∙ stands) c.0 c.1
  by_pace many all config heard s t puts (Bounds u move said made bound) first is but whole written low stands = by_move many all config u move bound is but written whole stands

  -- ---- a copy that takes the place of a chunk

  module _ (goes_on : rolls_back a.durable b.durable ≡ false) (m : MasterOf D) (stands : as_left old.nodes.master ≡ Standing m) (same : m.state.durable ≡ a.durable) (place : Place) (chunk : ℕ) (listed : is_listed b.durable chunk ≡ true) where
    held : AreHeld m.state
    held = places_held x old a m r stands

    -- it was waited for before the turn
    waited : is_copied old.sent chunk ≡ true → Waited m.state (Some place) chunk → WaitsIn m.state (for_copy place chunk)
    waited copied (inl out) = absurd (false≢true (sym out ∙ copied_given old.sent m.state chunk (subst (MadeAt x old.sent) stands (made_there x sizes old a r)) copied))
    waited copied (inr waits_so) = waits_so

    -- where it hasn't come, the chunk that is copied stands there
    waits_still : is_listed a.durable chunk ≡ false → WaitsIn m.state (for_copy place chunk) → WaitsStill place chunk m.state
    waits_still out waits_so = (
      waits_so,
      elim (holds place chunk m.state held waits_so).2 [
        | inl come ↦ absurd (false≢true (sym out ∙ is_listed_there a.durable.names first_kept.names chunk place.path place.index (ap (λ (d : Durable). slot d.names place.path place.index) (sym same) ∙ come)))
        | inr still ↦ still.0
      ],
    )

    replaced_text : is_listed a.durable chunk ≡ false → is_copied old.sent chunk ≡ true → Waited m.state (Some place) chunk → HasTextOf (Some place) chunk
    replaced_text out copied waits_so =
        let k = waits_still out (waited copied waits_so) in
        let from = some_copied (copied_from old.sent chunk) copied in
        let told = told_of_place sizes law x place chunk old a m from.0.0 from.0.1 r stands k from.1 in
        let un = unled_in sizes law x place chunk old a m r stands k in
        let later = view_of (fin.get b.durable.chunks chunk) (last_kept.settled chunk listed) in
        ap (text_of size)
        (added_as_made sizes law x old new a b step chunk r moves goes_on out listed ∙ same_made sizes law x step old new a b r moves chunk later.0 later.1 goes_on ∙ ap (edits_of a) from.1 ∙ ap (λ n. a.list n from.0.1) told.source_is
        ∙ sym told.settled_is ∙ sym (append-nil (settled_edits a place.chunk)) ∙ ap (λ es. settled_edits a place.chunk ++ es) (sym (none_new sizes law x step old new a b r moves place.chunk un.view un.told un.unled goes_on)))

  -- ---- what the master writes

  -- a chunk that a turn puts into a file
  abbrev Put : State → State → Option Place → ℕ → Type 0
  Put s u place chunk = AndWaited (ToldSo old.sent) s place chunk × ((is_listed s.durable chunk ≡ false) × (is_listed u.durable chunk ≡ true))

  abbrev ToldPut : PlainEntry → Type 0
  ToldPut = PutsCopy (λ chunk. is_some (fin.get b.durable.chunks chunk) ≡ true → is_copied old.sent chunk ≡ true)

  -- each has its text
  put_texts : (s u : State) → ((chunk : ℕ) → Put s u None chunk → HasTextOf None chunk) → ((place : Place) (chunk : ℕ) → (is_some (fin.get b.durable.chunks chunk) ≡ true → is_copied old.sent chunk ≡ true) → Put s u (Some place) chunk → HasTextOf (Some place) chunk)
      → (records : List PlainEntry) → AllByRecursion (OfPut (Put s u)) records → AllByRecursion ToldPut records → AllByRecursion (OfPut HasTextOf) records
  put_texts s u at_end at_place [] put told = tt
  put_texts s u at_end at_place (entry ∷ records) put told = (by_entry entry put.0 told.0, put_texts s u at_end at_place records put.1 told.1)
    where
      by_edit : (by : ReqId) (edit : PlainEdit) → OfPut (Put s u) (Edited by edit) → ToldPut (Edited by edit) → OfPut HasTextOf (Edited by edit)
      by_edit by (AddChunk path chunk) k is = at_end chunk k
      by_edit by (Cow path index before after) k is = at_place (record { path = path; index = index; chunk = before }) after is k
      by_edit by edit k is = tt

      by_entry : (e : PlainEntry) → OfPut (Put s u) e → ToldPut e → OfPut HasTextOf e
      by_entry (Edited by edit) k is = by_edit by edit k is
      by_entry e k is = tt

  take_told : (many : ℕ) (records : List PlainEntry) → AllByRecursion ToldPut records → AllByRecursion ToldPut (take many records)
  take_told zero records all = tt
  take_told (suc many) [] all = tt
  take_told (suc many) (entry ∷ records) all = (all.0, take_told many records all.1)

  told_more : (xs ys : List PlainEntry) → AllByRecursion ToldPut (xs ++ ys) → AllByRecursion ToldPut xs
  told_more [] ys all = tt
  told_more (x ∷ xs) ys all = (all.0, told_more xs ys all.1)

  -- records that tell who took an image put no chunk into a file, and those of a scan neither
  silent_put : (P : Option Place → ℕ → Type 0) (records : List PlainEntry) → list_all is_silent records ≡ true → AllByRecursion (OfPut P) records
  silent_put P [] silent = tt
  silent_put P (entry ∷ records) silent = (let parts = and_parts (is_silent entry) (list_all is_silent records) silent in (by_entry entry parts.0, silent_put P records parts.1))
    where
      by_entry : (entry : PlainEntry) → is_silent entry ≡ true → OfPut P entry
      by_entry (Holder q server) silent = tt
      by_entry entry silent = absurd (false≢true silent)

  scan_put : (P : Option Place → ℕ → Type 0) (edits : List PlainEdit) → AllByRecursion OfScan edits → AllByRecursion (OfPut P) (map (Edited own_request) edits)
  scan_put P [] of = tt
  scan_put P (edit ∷ edits) of = (by_edit edit of.0, scan_put P edits of.1)
    where
      by_edit : (edit : PlainEdit) → OfScan edit → OfPut P (Edited own_request edit)
      by_edit (Remove p) of = tt
      by_edit (Forget chunks) of = tt
      by_edit edit of = absurd of

  both_put : (P : Option Place → ℕ → Type 0) (xs ys : List PlainEntry) → AllByRecursion (OfPut P) xs → AllByRecursion (OfPut P) ys → AllByRecursion (OfPut P) (xs ++ ys)
  both_put P [] ys first more = more
  both_put P (x ∷ xs) ys first more = (first.0, both_put P xs ys first.1 more)

  -- what stands of a turn puts chunks with their texts
  cut_puts : (m : MasterOf D) (heard : Heard) (records : List PlainEntry) → as_left old.nodes.master ≡ Standing m → m.state.durable ≡ a.durable → AllByRecursion ToldPut records → CutLeaves m.config heard m.state records b.durable → PutTexts records
  cut_puts m heard records at first told (Leads t more turn are silent fits links) goes_on =
      subst (AllByRecursion (OfPut HasTextOf)) (sym are)
      (both_put HasTextOf t.records more
      (put_texts m.state t.after (λ chunk o. added_text goes_on chunk (no_copy old.sent chunk o.0.0) (out chunk o.1.0) (in_file chunk o.1.1))
      (λ place chunk was o. replaced_text goes_on m at first place chunk (in_file chunk o.1.1) (out chunk o.1.0) (was (last_kept.settled chunk (in_file chunk o.1.1))) o.0.1) t.records put (told_more t.records more (subst (AllByRecursion ToldPut) are told)))
      (silent_put HasTextOf more silent))
    where
      put : AllByRecursion (OfPut (Put m.state t.after)) t.records
      put = once_over m.config heard (AndWaited (ToldSo old.sent) m.state) m.state t turn (all_waited (ToldSo old.sent) m.state (subst (MadeAt x old.sent) at (made_there x sizes old a r)))

      out : (chunk : ℕ) → is_listed m.state.durable chunk ≡ false → is_listed a.durable chunk ≡ false
      out chunk none = ap (λ (d : Durable). is_listed d chunk) (sym first) ∙ none

      in_file : (chunk : ℕ) → is_listed t.after.durable chunk ≡ true → is_listed b.durable chunk ≡ true
      in_file chunk some = links.listed chunk ∙ some
  cut_puts m heard records at first told (Scanned removed forgotten many well are fit) goes_on =
      subst (AllByRecursion (OfPut HasTextOf)) (sym are) (taken (OfPut HasTextOf) many (map (Edited own_request) (scan_edits removed forgotten)) (scan_put HasTextOf (scan_edits removed forgotten) (of_scan removed forgotten)))

  -- by a turn
  pub turn_there : WritesTurn (records_at step old) old.nodes.master new.nodes.master a.durable b.durable → PlainWith
  turn_there w =
      let well = once_stands w.m.config w.heard w.m.state w.t w.turn w.written (subst IsKept (sym w.first) first_kept) in
      let cut = cut_leaves w.m.config w.heard w.m.state w.t w.many b.durable well.turn w.low (ap (λ d. replayed d (take w.many w.t.records)) w.first ∙ w.stands) in
      let told = subst (AllByRecursion ToldPut) (sym (taken_of w.many w.all w.t.records (records_at step old) w.are w.low)) (take_told w.many (records_at step old) (were_told old new a b step r moves)) in
      by_pace w.many w.all w.m.config w.heard w.m.state w.t (cut_puts w.m w.heard (take w.many w.t.records) w.at w.first told cut) (paced w.m.config w.heard w.m.state w.t w.turn) w.first w.are w.but w.whole w.written w.low w.stands

  same_there : Writes (records_at step old) old.nodes.master new.nodes.master a.durable b.durable → IsPlainStep size step old new a b
  same_there (Keeps same) = none_stands (sym same)
  same_there (Turns m heard t many all at first turn written low stands are but whole) =
      (turn_there (record { m = m; heard = heard; t = t; many = many; all = all; at = at; first = first; turn = turn; written = written; low = low; stands = stands; are = are; but = but; whole = whole })).0

  pub step_plain : IsPlainStep size step old new a b
  step_plain =
      same_there (writes x r.begins.given step old new a.durable b.durable (reached_well x old a r) moves.steps (had sizes law x step old new a b r moves) (has sizes law x step old new a b r moves))

pub steps_plain : HaveSizes → AreNumbered → {D : Type 0} (x : Setup D) → EachIsOfAPrepare x → GivesSettledBack x → GivesNoOtherBack x → PutWereTold x → StepsArePlain x
steps_plain sizes law x of_prepare settled_back no_other were_told old new a b step r moves = step_plain sizes law x of_prepare settled_back no_other step old new a b r moves were_told

-- edits come to chunks at one place each
pub edits_one_place : HaveSizes → AreNumbered → {D : Type 0} (x : Setup D) → EachIsOfAPrepare x → GivesSettledBack x → GivesNoOtherBack x → EditsOnePlace x
edits_one_place sizes law x of_prepare settled_back no_other old new a b step r moves = by_phase (rolls_back a.durable b.durable) refl
  where
    by_phase : (back : Bool) → rolls_back a.durable b.durable ≡ back → AreAlone a.durable.names (newly_settled a b)
    by_phase false goes_on = alone_within sizes law x step old new a b r moves goes_on
    by_phase true committed = alone_back sizes law x of_prepare settled_back no_other step old new a b r moves committed
