-- Each call that waits waits at the place that it named, through each move and each turn.
use Rattle.std.proofs.Common.{arith, ◌≡◌, ◌∙◌, ◌⊎◌, inl, inr, ◌==◌, ◌&&◌, ◌||◌, ◌++◌, ℕ, Bool, true, false, not, List, [], ◌∷◌, refl, ap, sym, subst}
use Rattle.std.specs.Prelude.{is_some, slice_get, Option, Some, None, if◌then◌else◌}
use Rattle.std.specs.FinMap as fin
use Rattle.std.specs.List.{list_all}
use Rattle.std.proofs.lemmas.Bool.{and_parts, false≢true, true≢false}
use Rattle.std.proofs.lemmas.Bool.Decides.{nat_tests}
use Rattle.gs_base.specs.declared.refusal.Refusal.{Refusal}
use Rattle.gs_base.specs.declared.config.Config.{Config}
use Rattle.gs_base.specs.declared.numbers.ReqId.{ReqId}
use Rattle.gs_edit.proofs.Tables.{same_path-is}
use Rattle.gs_edit.specs.View.{NamesView}
use Rattle.gs_lease.specs.declared.view.View.{View}
use Rattle.gs_lock.specs.Operations.{same_op}
use Rattle.gs_msg.specs.declared.call.Call.{Call}
use Rattle.gs_msg.specs.declared.call.Call.TheVariants as calls
use Rattle.gs_path.specs.Path.{Path, begins}
use Rattle.gs_tree.specs.Edits.{chunks_in, same_path}
use Rattle.gs_tree.specs.Entry.{Entry}
use Rattle.gs_laws_moves.proofs.lemmas.moves.GivenNames.{names_given}
use Rattle.gs_laws_master.proofs.lemmas.standing.Standing.{same_self}
use Rattle.gs_master_record.specs.Plain.{AddChunk, Cow, Create, Edited, Hide, Mkdirs, PlainEdit, Rename, Said, Settle, Snapshot, Unhide}
use Rattle.gs_master_spec.specs.Chunks.{holder_records, is_holder, target_of}
use Rattle.gs_master_spec.specs.Applied.{is_visible}
use Rattle.gs_master_spec.specs.Durable.{is_rolling, prepared_view}
use Rattle.gs_master_spec.specs.Handling.{restarted}
use Rattle.gs_master_spec.specs.Settling.{own_request}
use Rattle.gs_master_spec.specs.State.{State, Turn, fits, keeps_refusal, said_records}
use Rattle.gs_master_spec.specs.declared.pending.Pending.{Pending}
use Rattle.gs_master_spec.specs.declared.pending.Waiting.{Waiting}
use Rattle.gs_master_spec.specs.declared.pending.Waiting.TheVariants as waits
use Rattle.gs_laws_moves.proofs.lemmas.moves.Fitting.{mapped}
use Rattle.gs_laws_moves.proofs.lemmas.moves.Free.{cow_here}
use Rattle.gs_laws_moves.proofs.lemmas.moves.Places.{edits_spare}
use Rattle.gs_laws_moves.proofs.lemmas.moves.Right.{one_fits}
use Rattle.gs_laws_moves.specs.moves.Epochs.{ByItself, Closes, EndsOnce, Within}
use Rattle.gs_laws_moves.specs.moves.ForCalls.{HasChunks, IsBegunFor, IsCopiedFor, IsFor, IsForWriting, IsFurtherFor, IsHeardAs, IsMadeWellFor, IsTreeFor, StandsAt, waits_at_end}
use Rattle.gs_laws_moves.specs.moves.Guards.{Heard, IsCopyFromNow, IsCopyFurther, IsFree, IsMade, is_of_tree, moved_by, waits_for_copy, waits_to_copy}
use Rattle.gs_laws_moves.specs.moves.Laws.{IsMadeWell}
use Rattle.gs_laws_moves.specs.moves.Moved.{is_commit}
use Rattle.gs_laws_moves.specs.moves.Moves.{Chain, Moves, Rests, Then, Alone, FromNow, Further, Move, Begins, Makes, Copies, Settles, Edits, Extends, CopiesTree, Replaces, Scans, Refuses, Answers as AnswersCall, Waits, CommitsRollback, Checkpoints, move_turn}
use Rattle.gs_laws_moves.specs.moves.Places.{spares_path}
use Rattle.gs_laws_lift.proofs.lemmas.copies.Held.{is_replacing, is_that, closing_commit, followed_commit, leaves, none_waits, within_commit}
use Rattle.gs_laws_lift.proofs.lemmas.copies.Locked.{apart_once, in_fewer, one_so, other_op}
use Rattle.gs_laws_lift.proofs.lemmas.copies.Slots.{leaves_names, names_left}
use Rattle.gs_laws_lift.proofs.lemmas.copies.Waiting.{AllIn, BegunIn, move_waits}
use Rattle.gs_laws_lift.specs.copies.Held.{IsIn}
use Rattle.gs_master_state.specs.Sane.{are_apart}
use Rattle.gs_laws_lift.proofs.lemmas.calls.Files.{scan_same}
use Rattle.gs_laws_lift.proofs.lemmas.calls.Keeping.{move_kept}
use Rattle.gs_laws_lift.proofs.lemmas.calls.Locks.{keeps_writes}
use Rattle.gs_laws_lift.specs.calls.Waits.{AreAskedFor, AskedGrow, AskedStart, AskedStay, HearsOneOf, WaitsFor, WasCalled, WasToWrite, file_of, writes_it}

-- ---- lists

all_of : (P : Pending → Type 0) (ps : List Pending) → ((p : Pending) → IsIn p ps → P p) → AllIn P ps
all_of P [] each = tt
all_of P (p ∷ ps) each = (each p (inl refl), all_of P ps (λ q here. each q (inr here)))

at_one : (P : Pending → Type 0) (ps : List Pending) (p : Pending) → AllIn P ps → IsIn p ps → P p
at_one P [] p all here = absurd here
at_one P (q ∷ ps) p all (inl same) = subst P same all.0
at_one P (q ∷ ps) p all (inr here) = at_one P ps p all.1 here

not_true : (b : Bool) → not b ≡ true → b ≡ false
not_true true h = absurd (false≢true h)
not_true false h = refl

-- ---- files

stands_there : (names : NamesView) (path : Path) (index c : ℕ) → StandsAt names path index c → is_some (fin.get names.tree path) ≡ true
stands_there names path index c is = by_entry (fin.get names.tree path) is
  where
    by_entry : (o : Option (Entry ℕ)) → slice_get (chunks_in o) index ≡ Some c → is_some o ≡ true
    by_entry None h = absurd (cc)
    by_entry (Some e) h = refl

-- what stands there is what stood there
abbrev SameFile : NamesView → NamesView → Path → Type 0
SameFile old new path = fin.get new.tree path ≡ fin.get old.tree path

stands_still : (old new : NamesView) (path : Path) (index c : ℕ) → SameFile old new path → StandsAt old path index c → StandsAt new path index c
stands_still old new path index c same is = ap (λ o. slice_get (chunks_in o) index) same ∙ is

counts_still : (old new : NamesView) (path : Path) (index : ℕ) → SameFile old new path → HasChunks old path index → HasChunks new path index
counts_still old new path index same is = record { chunks = is.chunks; file = same ∙ is.file; count = is.count }

-- ---- who waits so

pub is_ending : (path : Path) (chunk : ℕ) (w : Waiting) → waits_at_end path chunk w ≡ true → w ≡ waits.Extend path chunk
is_ending path chunk (waits.Extend p new) is = (let one = and_parts (same_path p path) (new == chunk) is in λ j. waits.Extend (same_path-is p path one.0 j) (same_number new chunk one.1 j))
  where
    same_number : (a b : ℕ) → (a == b) ≡ true → a ≡ b
    same_number a b h = grind (arith, nat_tests)
is_ending path chunk w is = absurd (false≢true is)

is_quieting : (path : Path) (index old : ℕ) (w : Waiting) → waits_to_copy path index old w ≡ true → w ≡ waits.Quiet path index old
is_quieting path index old (waits.Quiet p i o) is =
    let one = and_parts (same_path p path) _ is in
    let two = and_parts (i == index) (o == old) one.1 in
    λ j. waits.Quiet (same_path-is p path one.0 j) (same_number i index two.0 j) (same_number o old two.1 j)
  where
    same_number : (a b : ℕ) → (a == b) ≡ true → a ≡ b
    same_number a b h = grind (arith, nat_tests)
is_quieting path index old w is = absurd (false≢true is)

-- ---- one move

abbrev is_extending : Move → Bool
is_extending (Extends req path chunk view) = true
is_extending move = false

module _ (config : Config) (heard : Heard) (s : State) where
  settle_leaves : (b : Bool) (q : ℕ) (target : Option ℕ) (view : View) → list_all leaves_names (holder_records b q target ++ Settle (record { handle = q; view = view }) ∷ []) ≡ true
  settle_leaves b q None view = refl
  settle_leaves true q (Some target) view = refl
  settle_leaves false q (Some target) view = refl

  said_leaves : (req : ReqId) (refusal : Refusal) → list_all leaves_names (said_records (keeps_refusal s req refusal) s.log req refusal) ≡ true
  said_leaves req refusal = by_test (keeps_refusal s req refusal && fits s.log (Said req refusal ∷ []))
    where
      by_test : (b : Bool) → list_all leaves_names (if b then Said req refusal ∷ [] else []) ≡ true
      by_test true = refl
      by_test false = refl

  move_leaves : (move : Move) → leaves move ≡ true → list_all leaves_names (move_turn config s move).records ≡ true
  move_leaves (Begins q purpose call Alone) is = refl
  move_leaves (Begins q purpose call (FromNow req waiting)) is = refl
  move_leaves (Begins q purpose call (Further req waiting)) is = refl
  move_leaves (Copies old view req Alone) is = refl
  move_leaves (Copies old view req (FromNow by waiting)) is = refl
  move_leaves (Copies old view req (Further by waiting)) is = refl
  move_leaves (Settles q asking carried view) is = settle_leaves (is_holder s.durable.phase (prepared_view s.durable q) carried asking view) q (target_of asking.purpose) view
  move_leaves (Refuses req refusal over) is = said_leaves req refusal
  move_leaves (AnswersCall req answer true) is = refl
  move_leaves (AnswersCall req answer false) is = refl
  move_leaves (Edits req edit answer) is = absurd (false≢true is)
  move_leaves (Extends req path chunk view) is = absurd (false≢true is)
  move_leaves (CopiesTree req from to) is = absurd (false≢true is)
  move_leaves (Replaces path index old new) is = absurd (false≢true is)
  move_leaves (Scans removed forgotten) is = absurd (false≢true is)
  move_leaves (CommitsRollback req names) is = absurd (false≢true is)
  move_leaves Checkpoints is = absurd (false≢true is)
  move_leaves move is = refl

  pub left_names : (move : Move) → IsMade config heard s move → leaves move ≡ true → (move_turn config s move).after.durable.names ≡ s.durable.names
  left_names move made is = names_left (move_turn config s move).records s.durable (move_turn config s move).after.durable (move_leaves move is) made.fits

  module _ (all : List (ReqId × Call)) (hears : HearsOneOf all heard) (k : AreAskedFor all s) where
    -- a call that edits moves nothing of the file of one that waits
    spared : (req : ReqId) (edit : PlainEdit) (p : Pending) (path : Path) → is_of_tree edit ≡ true → IsFree s req [] (moved_by edit) → IsIn p s.volatile.pending → file_of p.waits ≡ Some path → spares_path edit path ≡ true
    spared req edit p path tree free here file = by_edit edit tree free
      where
        apart : (from : Path) → IsFree s req [] (from ∷ []) → not (begins from path) ≡ true
        apart from f = by_test (begins from path) refl
          where
            by_test : (b : Bool) → begins from path ≡ b → not b ≡ true
            by_test true is = absurd (true≢false (sym (keeps_writes (writes_it p.waits) s.volatile.locks p.req req path from (k.locks.locked p here path file) is (other_op s.volatile.pending req p f.new here)) ∙ f.free))
            by_test false is = refl

        by_edit : (e : PlainEdit) → is_of_tree e ≡ true → IsFree s req [] (moved_by e) → spares_path e path ≡ true
        by_edit (Mkdirs at) is f = refl
        by_edit (Create at) is f = refl
        by_edit (Snapshot from to) is f = refl
        by_edit (Rename from to) is f = apart from f
        by_edit (Hide at moment number) is f = apart at f
        by_edit (Unhide at) is f = apart at f
        by_edit e is f = absurd (false≢true is)

    -- a chunk is put into another file
    abbrev IsElse : Move → Path → Type 0
    IsElse (Extends req at new view) path = same_path at path ≡ false
    IsElse (Replaces at index old new) path = same_path at path ≡ false
    IsElse move path = Unit {0}

    changed_file : (move : Move) → IsMadeWell config heard s move → is_commit move ≡ false → leaves move ≡ false → (p : Pending) → IsIn p s.volatile.pending → (path : Path) → file_of p.waits ≡ Some path → is_visible path ≡ true → is_some (fin.get s.durable.names.tree path) ≡ true → IsElse move path
        → SameFile s.durable.names (move_turn config s move).after.durable.names path
    changed_file (Edits req edit answer) well within left p here path file visible some else_so =
        edits_spare edit s.durable.names _ path well.before.names (names_given s.durable (move_turn config s (Edits req edit answer)).after.durable req edit (one_fits s.durable _ (Edited req edit) well.made.fits)) (spared req edit p path well.made.may.tree well.made.may.free here file) some
    changed_file (Extends req at new view) well within left p here path file visible some else_so =
        edits_spare (AddChunk at new) s.durable.names _ path well.before.names (names_given s.durable (move_turn config s (Extends req at new view)).after.durable req (AddChunk at new) (one_fits s.durable _ (Edited req (AddChunk at new)) well.made.fits)) (ap not else_so) some
    changed_file (CopiesTree req from to) well within left p here path file visible some else_so =
        edits_spare (Snapshot from to) s.durable.names _ path well.before.names (names_given s.durable (move_turn config s (CopiesTree req from to)).after.durable req (Snapshot from to) (one_fits s.durable _ (Edited req (Snapshot from to)) well.made.fits)) refl some
    changed_file (Replaces at index old new) well within left p here path file visible some else_so =
        edits_spare (Cow at index old new) s.durable.names _ path well.before.names (names_given s.durable (move_turn config s (Replaces at index old new)).after.durable own_request (Cow at index old new) (one_fits s.durable _ (Edited own_request (Cow at index old new)) well.made.fits)) (ap not else_so) some
    changed_file (Scans removed forgotten) well within left p here path file visible some else_so = scan_same path visible removed forgotten s.durable (move_turn config s (Scans removed forgotten)).after.durable well.made.fits
    changed_file Checkpoints well within left p here path file visible some else_so = refl
    changed_file (CommitsRollback req names) well within left p here path file visible some else_so = absurd (true≢false within)
    changed_file move well within left p here path file visible some else_so = absurd (true≢false left)

    same_file : (move : Move) → IsMadeWell config heard s move → is_commit move ≡ false → (p : Pending) → IsIn p s.volatile.pending → (path : Path) → file_of p.waits ≡ Some path → is_visible path ≡ true → is_some (fin.get s.durable.names.tree path) ≡ true → IsElse move path
        → SameFile s.durable.names (move_turn config s move).after.durable.names path
    same_file move well within p here path file visible some else_so = by_leaves (leaves move) refl
      where
        by_leaves : (b : Bool) → leaves move ≡ b → SameFile s.durable.names (move_turn config s move).after.durable.names path
        by_leaves true left = ap (λ (names : NamesView). fin.get names.tree path) (left_names move well.made left)
        by_leaves false left = changed_file move well within left p here path file visible some else_so

    -- so it waits at its place still
    carried : (u : State) (req : ReqId) (w : Waiting) → ((path : Path) → file_of w ≡ Some path → is_visible path ≡ true → is_some (fin.get s.durable.names.tree path) ≡ true → SameFile s.durable.names u.durable.names path) → WaitsFor all s.durable.names req w → WaitsFor all u.durable.names req w
    carried u req (waits.Extend path new) same is =
        (is.0, (is.1.0, is.1.1, counts_still s.durable.names u.durable.names path is.1.0 (same path refl is.0 (ap is_some is.1.2.file)) is.1.2))
    carried u req (waits.Lease path index chunk) same is = (is.0, is.1, stands_still s.durable.names u.durable.names path index chunk (same path refl is.0 (stands_there s.durable.names path index chunk is.2)) is.2)
    carried u req (waits.Quiet path index quiet) same is = (is.0, is.1, stands_still s.durable.names u.durable.names path index quiet (same path refl is.0 (stands_there s.durable.names path index quiet is.2)) is.2)
    carried u req (waits.Copy path index old new) same is = (is.0, is.1, by_which is.2)
      where
        by_which : StandsAt s.durable.names path index new ⊎ StandsAt s.durable.names path index old → StandsAt u.durable.names path index new ⊎ StandsAt u.durable.names path index old
        by_which (inl here) = inl (stands_still s.durable.names u.durable.names path index new (same path refl is.0 (stands_there s.durable.names path index new here)) here)
        by_which (inr here) = inr (stands_still s.durable.names u.durable.names path index old (same path refl is.0 (stands_there s.durable.names path index old here)) here)
    carried u req (waits.Snapshot from to) same is = is
    carried u req (waits.Replicate chunk target) same is = is

    -- ---- a chunk is added for another call

    module _ (req : ReqId) (at : Path) (new : ℕ) (view : View) (well : IsMadeWell config heard s (Extends req at new view)) (for : IsFor heard s (Extends req at new view)) where
      elsewhere : (p : Pending) → IsIn p s.volatile.pending → same_op req p.req ≡ false → (path : Path) → file_of p.waits ≡ Some path → same_path at path ≡ false
      elsewhere p here other path file = by_test (same_path at path) refl
        where
          by_test : (b : Bool) → same_path at path ≡ b → b ≡ false
          by_test false is = refl
          by_test true is =
              let e = one_so req (waits_at_end at new) s.volatile.pending for in
              let that = is_ending at new e.0.waits e.3 in
              let one = k.locks.alone e.0 p e.1 here path (ap file_of that ∙ ap Some (same_path-is at path is)) file (ap (λ w. writes_it w || writes_it p.waits) that) in
              absurd (true≢false (sym (same_self p.req) ∙ ap (λ r. same_op r p.req) (sym one ∙ e.2) ∙ other))

      extend_stays : (p : Pending) → IsIn p s.volatile.pending → same_op req p.req ≡ false → WaitsFor all s.durable.names p.req p.waits → WaitsFor all (move_turn config s (Extends req at new view)).after.durable.names p.req p.waits
      extend_stays p here other is =
          carried (move_turn config s (Extends req at new view)).after p.req p.waits (λ path file visible some. same_file (Extends req at new view) well refl p here path file visible some (elsewhere p here other path file)) is

    -- ---- a copy comes to stand

    module _ (at : Path) (i before new : ℕ) (well : IsMadeWell config heard s (Replaces at i before new)) (p : Pending) (here : IsIn p s.volatile.pending) where
      abbrev u : State
      u = (move_turn config s (Replaces at i before new)).after

      its_call : (path : Path) → file_of p.waits ≡ Some path → at ≡ path → p.waits ≡ waits.Copy at i before new
      its_call path file same =
          let e = one_so well.made.may.3.0 (waits_for_copy at i before new) s.volatile.pending well.made.may.3.1 in
          let that = is_that at i before new e.0.waits e.3 in
          let one = apart_once s.volatile.pending e.0 p k.locks.apart e.1 here (k.locks.alone e.0 p e.1 here path (ap file_of that ∙ ap Some same) file (ap (λ w. writes_it w || writes_it p.waits) that)) in
          ap (λ (z : Pending). z.waits) (sym one) ∙ that

      come : StandsAt u.durable.names at i new
      come = cow_here at i before new s.durable.names u.durable.names (names_given s.durable u.durable own_request (Cow at i before new) (one_fits s.durable u.durable (Edited own_request (Cow at i before new)) well.made.fits))

      its_own : (w : Waiting) → w ≡ waits.Copy at i before new → WaitsFor all s.durable.names p.req w → WaitsFor all u.durable.names p.req w
      its_own w is had = subst (WaitsFor all u.durable.names p.req) (sym is) (let was = subst (WaitsFor all s.durable.names p.req) is had in (was.0, was.1, inl come))

      replace_stays : WaitsFor all s.durable.names p.req p.waits → WaitsFor all u.durable.names p.req p.waits
      replace_stays had = by_file (file_of p.waits) refl
        where
          by_test : (path : Path) → file_of p.waits ≡ Some path → (b : Bool) → same_path at path ≡ b → WaitsFor all u.durable.names p.req p.waits
          by_test path file true same = its_own p.waits (its_call path file (same_path-is at path same)) had
          by_test path file false other = carried u p.req p.waits (λ q is visible some. same_file (Replaces at i before new) well refl p here q is visible some (ap (same_path at) (path_is (sym is ∙ file)) ∙ other)) had
            where
              path_is : {a b : Path} → Some a ≡ Some b → a ≡ b
              path_is h = cc

          by_file : (o : Option Path) → file_of p.waits ≡ o → WaitsFor all u.durable.names p.req p.waits
          by_file (Some path) file = by_test path file (same_path at path) refl
          by_file None file = carried u p.req p.waits (λ q is visible some. absurd (none_some q (sym file ∙ is))) had
            where
              none_some : (q : Path) → ◌≡◌ {A = Option Path} None (Some q) → ⊥
              none_some q h = absurd (cc)

    -- ---- any move

    else_so : (move : Move) (path : Path) → is_extending move ≡ false → is_replacing move ≡ false → IsElse move path
    else_so (Extends req at new view) path a b = absurd (true≢false a)
    else_so (Replaces at index old new) path a b = absurd (true≢false b)
    else_so move path a b = tt

    each_stays : (move : Move) → IsMadeWell config heard s move → is_commit move ≡ false → is_extending move ≡ false → (p : Pending) → IsIn p s.volatile.pending → WaitsFor all s.durable.names p.req p.waits → WaitsFor all (move_turn config s move).after.durable.names p.req p.waits
    each_stays move well within other p here had = by_test (is_replacing move) refl
      where
        replacing : (m : Move) → IsMadeWell config heard s m → is_replacing m ≡ true → WaitsFor all (move_turn config s m).after.durable.names p.req p.waits
        replacing (Replaces at i before new) one is = replace_stays at i before new one p here had
        replacing m one is = absurd (false≢true is)

        by_test : (b : Bool) → is_replacing move ≡ b → WaitsFor all (move_turn config s move).after.durable.names p.req p.waits
        by_test true is = replacing move well is
        by_test false is = carried (move_turn config s move).after p.req p.waits (λ path file visible some. same_file move well within p here path file visible some (else_so move path other is)) had

    -- ---- who waits from now on

    was_heard : (req : ReqId) (call : Call) → IsHeardAs heard req call → WasCalled all req call
    was_heard req call is = hears is.0 req call is.1

    write_from_now : (u : State) (req : ReqId) (path : Path) (index chunk : ℕ) → u.durable.names ≡ s.durable.names → IsForWriting heard s req path index chunk → (is_visible path ≡ true) × WasToWrite all req path index × StandsAt u.durable.names path index chunk
    write_from_now u req path index chunk same for =
        (for.visible, (for.stamp, was_heard req (calls.FindForWriting path index for.stamp) for.new.heard_so), ap (λ (names : NamesView). slice_get (chunks_in (fin.get names.tree path)) index) same ∙ for.here)

    begun_for : (u : State) (req : ReqId) (q : ℕ) (w : Waiting) → u.durable.names ≡ s.durable.names → IsBegunFor heard s req q w → WaitsFor all u.durable.names req w
    begun_for u req q (waits.Lease path index leased) same for = (let w = write_from_now u req path index q same for.1 in (w.0, w.1, w.2 ∙ ap Some (sym for.0)))
    begun_for u req q (waits.Quiet path index quiet) same for = (let w = write_from_now u req path index q same for.1 in (w.0, w.1, w.2 ∙ ap Some (sym for.0)))
    begun_for u req q (waits.Replicate chunk target) same for = was_heard req calls.Replicate for.heard_so
    begun_for u req q (waits.Extend path new) same for = absurd for
    begun_for u req q (waits.Copy path index old new) same for = absurd for
    begun_for u req q (waits.Snapshot from to) same for = absurd for

    further_for : (u : State) (req : ReqId) (q : ℕ) (w : Waiting) → u.durable.names ≡ s.durable.names → IsFurtherFor s req q w → WaitsFor all u.durable.names req w
    further_for u req q (waits.Lease path index leased) same for =
        let e = one_so req (waits_for_copy path index for.1.0 q) s.volatile.pending for.1.1 in
        let had = subst (WaitsFor all s.durable.names e.0.req) (is_that path index for.1.0 q e.0.waits e.3) (k.calls e.0 e.1) in
        (had.0, subst (λ r. WasToWrite all r path index) e.2 had.1, ap (λ (names : NamesView). slice_get (chunks_in (fin.get names.tree path)) index) same ∙ for.2 ∙ ap Some (sym for.0))
    further_for u req q w same for = absurd for

    copied_for : (u : State) (by : ReqId) (old : ℕ) (w : Waiting) → u.durable.names ≡ s.durable.names → IsCopyFromNow s by old w → IsCopiedFor heard s old (FromNow by w) → WaitsFor all u.durable.names by w
    copied_for u by old (waits.Copy path index source new) same is for = (let w = write_from_now u by path index old same for in (w.0, w.1, inr (w.2 ∙ ap Some (sym is.0))))
    copied_for u by old w same is for = absurd is

    copied_further : (u : State) (by : ReqId) (old : ℕ) (w : Waiting) → u.durable.names ≡ s.durable.names → IsCopyFurther s by old w → WaitsFor all u.durable.names by w
    copied_further u by old (waits.Copy path index source new) same is =
        let e = one_so by (waits_to_copy path index old) s.volatile.pending is.2 in
        let had = subst (WaitsFor all s.durable.names e.0.req) (is_quieting path index old e.0.waits e.3) (k.calls e.0 e.1) in
        (had.0, subst (λ r. WasToWrite all r path index) e.2 had.1, inr (ap (λ (names : NamesView). slice_get (chunks_in (fin.get names.tree path)) index) same ∙ had.2 ∙ ap Some (sym is.0)))
    copied_further u by old w same is = absurd is

    tree_for : (names : NamesView) (req : ReqId) (w : Waiting) → IsTreeFor heard s req w → WaitsFor all names req w
    tree_for names req (waits.Snapshot from to) for = was_heard req (calls.Snapshot from to) for.heard_so
    tree_for names req w for = absurd for

    abbrev Goes : Move → Pending → Type 0
    Goes move p = IsIn p s.volatile.pending ⊎ WaitsFor all (move_turn config s move).after.durable.names p.req p.waits

    begun_so : (move : Move) → IsMadeWell config heard s move → IsFor heard s move → BegunIn (Goes move) s move
    begun_so (Begins q purpose call (FromNow req waiting)) well for = (let m = Begins q purpose call (FromNow req waiting) in inr (begun_for (move_turn config s m).after req q waiting (left_names m well.made refl) for))
    begun_so (Begins q purpose call (Further req waiting)) well for = (let m = Begins q purpose call (Further req waiting) in inr (further_for (move_turn config s m).after req q waiting (left_names m well.made refl) for))
    begun_so (Makes targets req path) well for =
        let m = Makes targets req path in
        let u = (move_turn config s m).after in
        inr (for.visible, (for.index, was_heard req (calls.Extend path for.index) for.new.heard_so, counts_still s.durable.names u.durable.names path for.index (ap (λ (names : NamesView). fin.get names.tree path) (left_names m well.made refl)) for.here))
    begun_so (Copies old view req (FromNow by waiting)) well for = (let m = Copies old view req (FromNow by waiting) in inr (copied_for (move_turn config s m).after by old waiting (left_names m well.made refl) well.made.may.2 for))
    begun_so (Copies old view req (Further by waiting)) well for = (let m = Copies old view req (Further by waiting) in inr (copied_further (move_turn config s m).after by old waiting (left_names m well.made refl) well.made.may.2))
    begun_so (Waits req waiting) well for = inr (tree_for _ req waiting for)
    begun_so move well for = tt

    pub move_asked : (move : Move) → IsMadeWellFor config heard s move → is_commit move ≡ false → AreAskedFor all (move_turn config s move).after
    move_asked move well within = record { locks = move_kept config heard s move well.0.made well.1 k.locks; calls = λ p here. by_test (is_extending move) refl p here }
      where
        extending : (m : Move) → IsMadeWellFor config heard s m → is_extending m ≡ true → (p : Pending) → IsIn p (move_turn config s m).after.volatile.pending → WaitsFor all (move_turn config s m).after.durable.names p.req p.waits
        extending (Extends req at new view) one is p here = (let was = in_fewer (λ (q : Pending). not (same_op req q.req)) p s.volatile.pending here in extend_stays req at new view one.0 one.1 p was.0 (not_true (same_op req p.req) was.1) (k.calls p was.0))
        extending m one is p here = absurd (false≢true is)

        other : is_extending move ≡ false → (p : Pending) → Goes move p → WaitsFor all (move_turn config s move).after.durable.names p.req p.waits
        other is p (inl here) = each_stays move well.0 within is p here (k.calls p here)
        other is p (inr new) = new

        by_test : (b : Bool) → is_extending move ≡ b → (p : Pending) → IsIn p (move_turn config s move).after.volatile.pending → WaitsFor all (move_turn config s move).after.durable.names p.req p.waits
        by_test true is p here = extending move well is p here
        by_test false is p here =
            other is p (at_one (Goes move) (move_turn config s move).after.volatile.pending p (move_waits (Goes move) config s move (all_of (Goes move) s.volatile.pending (λ q there. inl there)) (begun_so move well.0 well.1)) here)

-- where no call waits each is as it was heard
pub none_asked : (all : List (ReqId × Call)) (s : State) → s.volatile.pending ≡ [] → AreAskedFor all s
none_asked all s none = record {
  locks = record { locked = λ p here path file. absurd (subst (IsIn p) none here); alone = λ p q hp hq path a b write. absurd (subst (IsIn p) none hp); apart = ap are_apart none };
  calls = λ p here. absurd (subst (IsIn p) none here);
}

-- ---- chains, and turns

module _ (all : List (ReqId × Call)) (config : Config) (heard : Heard) (hears : HearsOneOf all heard) where
  -- a move is made for a call, and is no commit of a rollback
  abbrev pub Usual : State → Move → Type 0
  Usual u move = IsMadeWellFor config heard u move × (is_commit move ≡ false)

  pub chain_asked : (s : State) (t : Turn) → Chain config Usual s t → AreAskedFor all s → AreAskedFor all t.after
  chain_asked s t (Rests u said) k = k
  chain_asked s t (Moves u move said made) k = move_asked config heard u all hears k move made.0 made.1
  chain_asked s t (Then u first next a b) k = chain_asked first.after next b (chain_asked u first a k)

  pub turn_asked : (s : State) (t : Turn) → EndsOnce config (IsMadeWellFor config heard) s t → (is_rolling s.durable.phase ≡ true → s.volatile.pending ≡ []) → AreAskedFor all s → AreAskedFor all t.after
  turn_asked s t (Within u v chain) calm k = chain_asked u v (mapped config _ _ (λ z move made. (made.0, within_commit config heard move made.1)) u v chain) k
  turn_asked s t (ByItself u move said made alone) calm k = by_test (is_commit move) refl
    where
      by_test : (b : Bool) → is_commit move ≡ b → AreAskedFor all (move_turn config u move).after
      by_test true is = none_asked all _ (none_waits config heard u move made.0 is calm)
      by_test false is = move_asked config heard u all hears k move made is
  turn_asked s t (Closes u move said next made followed chain) calm k =
      chain_asked (move_turn config u move).after next (mapped config _ _ (λ z m one. (one.0, closing_commit config heard m one.1)) (move_turn config u move).after next chain) (move_asked config heard u all hears k move made (followed_commit config heard move followed))

pub asked_stay : AskedStay
asked_stay all config heard s t turn hears calm k = turn_asked all config heard hears s t turn calm k

pub asked_start : AskedStart
asked_start all d log = none_asked all (restarted d log) refl

pub asked_grow : AskedGrow
asked_grow all more grows s k = record { locks = k.locks; calls = λ p here. by_waits p.req p.waits (k.calls p here) }
  where
    by_waits : (req : ReqId) (w : Waiting) → WaitsFor all s.durable.names req w → WaitsFor more s.durable.names req w
    by_waits req (waits.Extend path new) is = (is.0, (is.1.0, grows _ is.1.1, is.1.2))
    by_waits req (waits.Lease path index chunk) is = (is.0, (is.1.0, grows _ is.1.1), is.2)
    by_waits req (waits.Quiet path index quiet) is = (is.0, (is.1.0, grows _ is.1.1), is.2)
    by_waits req (waits.Copy path index old new) is = (is.0, (is.1.0, grows _ is.1.1), is.2)
    by_waits req (waits.Snapshot from to) is = grows _ is
    by_waits req (waits.Replicate chunk target) is = grows _ is
