-- A call that waits to copy a chunk at a place, or for its copy, holds that place: the chunk stands there, and nobody may write it once it is copied, till the copy has come there.
use Rattle.std.proofs.Common.{◌≡◌, arith, ◌∙◌, ◌⊎◌, inl, inr, ◌==◌, ◌&&◌, ◌++◌, ℕ, Bool, true, false, not, List, [], ◌∷◌, refl, ap, sym, subst}
use Rattle.std.specs.Prelude.{Option, Some, None, Ok, if◌then◌else◌}
use Rattle.std.specs.List.{list_all}
use Rattle.std.proofs.lemmas.Bool.{and_parts, false≢true, true≢false}
use Rattle.std.proofs.lemmas.Bool.Decides.{nat_tests}
use Rattle.gs_base.specs.declared.config.Config.{Config}
use Rattle.gs_base.specs.declared.numbers.ReqId.{ReqId}
use Rattle.gs_base.specs.declared.refusal.Refusal.{Refusal}
use Rattle.gs_edit.proofs.Tables.{same_itself, same_path-is}
use Rattle.gs_laws_master.specs.Promises.{AreKept}
use Rattle.gs_lease.specs.Transitions.{is_for_lease}
use Rattle.gs_lease.specs.declared.view.Purpose.{Purpose}
use Rattle.gs_lease.specs.declared.view.Purpose.TheVariants as purposes
use Rattle.gs_lease.specs.declared.view.View.{View}
use Rattle.gs_lock.specs.Locks.{stands_in_the_way}
use Rattle.gs_path.specs.Path.{Path, begins}
use Rattle.gs_tree.specs.Edits.{same_path}
use Rattle.gs_laws_moves.proofs.lemmas.moves.GivenNames.{names_given}
use Rattle.gs_master_record.specs.Plain.{AddChunk, Cow, Create, Edited, Hide, Mkdirs, PlainEdit, Rename, Said, Settle, Snapshot, Unhide}
use Rattle.gs_master_spec.specs.Applied.{is_visible}
use Rattle.gs_master_spec.specs.Calls.{is_shared}
use Rattle.gs_master_spec.specs.Chunks.{holder_records, is_holder, target_of}
use Rattle.gs_master_spec.specs.Durable.{Settled, is_given, is_rolling, prepared_view}
use Rattle.gs_master_spec.specs.Handling.{restarted}
use Rattle.gs_master_state.specs.Sane.{are_apart}
use Rattle.gs_laws_moves.proofs.lemmas.moves.Fitting.{mapped}
use Rattle.gs_laws_moves.specs.moves.Epochs.{ByItself, Closes, EndsOnce, Within, closes, is_alone, is_followed}
use Rattle.gs_master_spec.specs.Settling.{own_request}
use Rattle.gs_master_spec.specs.State.{State, Turn, fits, keeps_refusal, said_records}
use Rattle.gs_master_spec.specs.Undoing.{edited_names}
use Rattle.gs_master_spec.specs.declared.asking.Asking.{Asking}
use Rattle.gs_master_spec.specs.declared.pending.Pending.{Pending}
use Rattle.gs_master_spec.specs.declared.pending.Waiting.{Waiting}
use Rattle.gs_master_spec.specs.declared.pending.Waiting.TheVariants as waits
use Rattle.gs_laws_moves.proofs.lemmas.moves.Free.{cow_here}
use Rattle.gs_laws_moves.proofs.lemmas.moves.Right.{one_fits}
use Rattle.gs_laws_moves.specs.moves.Guards.{Heard, IsBegunBy, IsCopyFromNow, IsCopyFurther, IsFree, IsMade, IsOpenAt, IsWaiting, MayBegin, is_lease_wait, is_of_tree, is_tree_wait, moved_by, waits_for_copy, waits_to_copy}
use Rattle.gs_laws_moves.specs.moves.Laws.{IsMadeWell}
use Rattle.gs_laws_moves.specs.moves.Moved.{is_commit}
use Rattle.gs_laws_moves.specs.moves.Moves.{Chain, Moves, Rests, Then, Alone, FromNow, Further, Beside, Move, Begins, Makes, Copies, Settles, Edits, Extends, CopiesTree, Replaces, Scans, Refuses, Answers as AnswersCall, Waits, CommitsRollback, Checkpoints, move_turn}
use Rattle.gs_laws_moves.specs.moves.Places.{spares_path}
use Rattle.gs_laws_moves.specs.moves.Shared.{IsUnleased}
use Rattle.gs_laws_lift.proofs.lemmas.copies.Counted.{is_shared_there}
use Rattle.gs_laws_lift.specs.copies.Held.{AreHeld, HeldStarts, HoldsPlace, IsIn, IsStill, place_path, slot}
use Rattle.gs_laws_lift.proofs.lemmas.copies.Locked.{apart_once, move_locked, one_so, other_op}
use Rattle.gs_laws_lift.proofs.lemmas.copies.Locks.{locked_reads, locked_writes}
use Rattle.gs_laws_lift.proofs.lemmas.copies.Slots.{add_slot, edit_slot, leaves_names, names_left, scan_slot}
use Rattle.gs_laws_lift.proofs.lemmas.copies.Unleased.{asks_lease, move_unled}
use Rattle.gs_laws_lift.proofs.lemmas.copies.Waiting.{AllIn, BegunIn, move_waits}

pub all_at : (P : Pending → Type 0) (ps : List Pending) (p : Pending) → AllIn P ps → IsIn p ps → P p
all_at P [] p all here = absurd here
all_at P (q ∷ ps) p all (inl same) = subst P same all.0
all_at P (q ∷ ps) p all (inr here) = all_at P ps p all.1 here

pub each_in : (P Q : Pending → Type 0) (ps : List Pending) → ((p : Pending) → IsIn p ps → P p → Q p) → AllIn P ps → AllIn Q ps
each_in P Q [] f all = tt
each_in P Q (p ∷ ps) f all = (f p (inl refl) all.0, each_in P Q ps (λ q here. f q (inr here)) all.1)

same_number : (a b : ℕ) → (a == b) ≡ true → a ≡ b
same_number a b h = grind (arith, nat_tests)

itself : (a : ℕ) → (a == a) ≡ true
itself a = grind (arith, nat_tests)

path_is : {a b : Path} → Some a ≡ Some b → a ≡ b
path_is h = cc

carry : (s u : State) (w : Waiting) → HoldsPlace s w → ((path : Path) (index c : ℕ) → place_path w ≡ Some path → is_visible path ≡ true → slot s.durable.names path index ≡ Some c → slot u.durable.names path index ≡ Some c)
    → ((path : Path) (index old new : ℕ) → w ≡ waits.Copy path index old new → slot s.durable.names path index ≡ Some old → (old == new) ≡ false → IsUnleased s old → IsUnleased u old) → HoldsPlace u w
carry s u (waits.Quiet path index quiet) k slots unled = (k.0, slots path index quiet refl k.0 k.1)
carry s u (waits.Copy path index old new) k slots unled = (k.0, k.1, still k.2)
  where
    still : IsStill s path index old new → IsStill u path index old new
    still (inl is) = inl (slots path index new refl k.0 is)
    still (inr one) = inr (slots path index old refl k.0 one.0, unled path index old new refl one.0 k.1 one.1)
carry s u (waits.Extend path new) k slots unled = tt
carry s u (waits.Lease path index chunk) k slots unled = tt
carry s u (waits.Snapshot from to) k slots unled = tt
carry s u (waits.Replicate chunk target) k slots unled = tt

-- whose copy it waits for is the one that is asked after
pub is_that : (path : Path) (index old new : ℕ) (w : Waiting) → waits_for_copy path index old new w ≡ true → w ≡ waits.Copy path index old new
is_that path index old new (waits.Copy p i o n) is =
    let one = and_parts (same_path p path) _ is in
    let two = and_parts (i == index) _ one.1 in
    let three = and_parts (o == old) (n == new) two.1 in
    λ j. waits.Copy (same_path-is p path one.0 j) (same_number i index two.0 j) (same_number o old three.0 j) (same_number n new three.1 j)
is_that path index old new w is = absurd (false≢true is)

is_quieting : (path : Path) (index old : ℕ) (w : Waiting) → waits_to_copy path index old w ≡ true → w ≡ waits.Quiet path index old
is_quieting path index old (waits.Quiet p i o) is =
    let one = and_parts (same_path p path) _ is in
    let two = and_parts (i == index) (o == old) one.1 in
    λ j. waits.Quiet (same_path-is p path one.0 j) (same_number i index two.0 j) (same_number o old two.1 j)
is_quieting path index old w is = absurd (false≢true is)

abbrev pub is_replacing : Move → Bool
is_replacing (Replaces path index old new) = true
is_replacing move = false

abbrev pub leaves : Move → Bool
leaves (Edits req edit answer) = false
leaves (Extends req path chunk view) = false
leaves (CopiesTree req from to) = false
leaves (Replaces path index old new) = false
leaves (Scans removed forgotten) = false
leaves (CommitsRollback req names) = false
leaves Checkpoints = false
leaves move = true

module _ (config : Config) (heard : Heard) (s : State) where
  settle_leaves : (b : Bool) (q : ℕ) (target : Option ℕ) (view : View) → list_all leaves_names (holder_records b q target ++ Settle (record { handle = q; view = view }) ∷ []) ≡ true
  settle_leaves b q None view = refl
  settle_leaves true q (Some target) view = refl
  settle_leaves false q (Some target) view = refl

  said_leaves : (req : ReqId) (refusal : Refusal) → list_all leaves_names (said_records (keeps_refusal s req refusal) s.log req refusal) ≡ true
  said_leaves req refusal = by_test (keeps_refusal s req refusal && fits s.log (Said req refusal ∷ []))
    where
      by_test : (b : Bool) → list_all leaves_names (if b then Said req refusal ∷ [] else []) ≡ true
      by_test true = refl
      by_test false = refl

  move_leaves : (move : Move) → leaves move ≡ true → list_all leaves_names (move_turn config s move).records ≡ true
  move_leaves (Begins q purpose call Alone) is = refl
  move_leaves (Begins q purpose call (FromNow req waiting)) is = refl
  move_leaves (Begins q purpose call (Further req waiting)) is = refl
  move_leaves (Copies old view req Alone) is = refl
  move_leaves (Copies old view req (FromNow by waiting)) is = refl
  move_leaves (Copies old view req (Further by waiting)) is = refl
  move_leaves (Settles q asking carried view) is = settle_leaves (is_holder s.durable.phase (prepared_view s.durable q) carried asking view) q (target_of asking.purpose) view
  move_leaves (Refuses req refusal over) is = said_leaves req refusal
  move_leaves (AnswersCall req answer true) is = refl
  move_leaves (AnswersCall req answer false) is = refl
  move_leaves (Edits req edit answer) is = absurd (false≢true is)
  move_leaves (Extends req path chunk view) is = absurd (false≢true is)
  move_leaves (CopiesTree req from to) is = absurd (false≢true is)
  move_leaves (Replaces path index old new) is = absurd (false≢true is)
  move_leaves (Scans removed forgotten) is = absurd (false≢true is)
  move_leaves (CommitsRollback req names) is = absurd (false≢true is)
  move_leaves Checkpoints is = absurd (false≢true is)
  move_leaves move is = refl

  -- where the names are left so are the places
  left_slot : (move : Move) → IsMade config heard s move → leaves move ≡ true → (path : Path) (index c : ℕ) → slot s.durable.names path index ≡ Some c → slot (move_turn config s move).after.durable.names path index ≡ Some c
  left_slot move made is path index c here = ap (λ names. slot names path index) (names_left (move_turn config s move).records s.durable (move_turn config s move).after.durable (move_leaves move is) made.fits) ∙ here

  module _ (k : AreHeld s) where
    -- a call that edits moves nothing of a place that is held
    spared : (req : ReqId) (edit : PlainEdit) (p : Pending) (path : Path) → is_of_tree edit ≡ true → IsFree s req [] (moved_by edit) → IsIn p s.volatile.pending → place_path p.waits ≡ Some path → spares_path edit path ≡ true
    spared req edit p path tree free here place = by_edit edit tree free
      where
        apart : (from : Path) → IsFree s req [] (from ∷ []) → not (begins from path) ≡ true
        apart from f = by_test (begins from path) refl
          where
            by_test : (b : Bool) → begins from path ≡ b → not b ≡ true
            by_test true is = absurd (true≢false (sym (locked_writes s.volatile.locks p.req req path from (k.locks.locked p here path place) is (other_op s.volatile.pending req p f.new here)) ∙ f.free))
            by_test false is = refl

        by_edit : (e : PlainEdit) → is_of_tree e ≡ true → IsFree s req [] (moved_by e) → spares_path e path ≡ true
        by_edit (Mkdirs at) is f = refl
        by_edit (Create at) is f = refl
        by_edit (Snapshot from to) is f = refl
        by_edit (Rename from to) is f = apart from f
        by_edit (Hide at moment number) is f = apart at f
        by_edit (Unhide at) is f = apart at f
        by_edit e is f = absurd (false≢true is)

    -- the places of calls that wait stay as they are, but where a copy comes to stand
    changed_slots : (move : Move) → IsMadeWell config heard s move → is_commit move ≡ false → is_replacing move ≡ false → leaves move ≡ false → (p : Pending) → IsIn p s.volatile.pending → (path : Path) → place_path p.waits ≡ Some path → is_visible path ≡ true → (index c : ℕ) → slot s.durable.names path index ≡ Some c
        → slot (move_turn config s move).after.durable.names path index ≡ Some c
    changed_slots (Edits req edit answer) well within other left p here path place visible index c is =
        edit_slot edit s.durable.names _ path index c well.before.names (names_given s.durable (move_turn config s (Edits req edit answer)).after.durable req edit (one_fits s.durable _ (Edited req edit) well.made.fits)) (spared req edit p path well.made.may.tree well.made.may.free here place) is
    changed_slots (Extends req at new view) well within other left p here path place visible index c is =
        add_slot at new s.durable.names _ path index c well.before.names (names_given s.durable (move_turn config s (Extends req at new view)).after.durable req (AddChunk at new) (one_fits s.durable _ (Edited req (AddChunk at new)) well.made.fits)) is
    changed_slots (CopiesTree req from to) well within other left p here path place visible index c is =
        edit_slot (Snapshot from to) s.durable.names _ path index c well.before.names (names_given s.durable (move_turn config s (CopiesTree req from to)).after.durable req (Snapshot from to) (one_fits s.durable _ (Edited req (Snapshot from to)) well.made.fits)) refl is
    changed_slots (Scans removed forgotten) well within other left p here path place visible index c is = scan_slot path visible index c removed forgotten s.durable (move_turn config s (Scans removed forgotten)).after.durable well.made.fits is
    changed_slots Checkpoints well within other left p here path place visible index c is = is
    changed_slots (CommitsRollback req names) well within other left p here path place visible index c is = absurd (true≢false within)
    changed_slots (Replaces at i old new) well within other left p here path place visible index c is = absurd (true≢false other)
    changed_slots move well within other left p here path place visible index c is = absurd (true≢false left)

    pub slots : (move : Move) → IsMadeWell config heard s move → is_commit move ≡ false → is_replacing move ≡ false → (p : Pending) → IsIn p s.volatile.pending → (path : Path) (index c : ℕ) → place_path p.waits ≡ Some path → is_visible path ≡ true → slot s.durable.names path index ≡ Some c
        → slot (move_turn config s move).after.durable.names path index ≡ Some c
    slots move well within other p here path index c place visible is = by_leaves (leaves move) refl
      where
        by_leaves : (b : Bool) → leaves move ≡ b → slot (move_turn config s move).after.durable.names path index ≡ Some c
        by_leaves true left = left_slot move well.made left path index c is
        by_leaves false left = changed_slots move well within other left p here path place visible index c is

    -- ---- no lease is asked for what is copied

    module _ (q : ℕ) (p : Pending) (here : IsIn p s.volatile.pending) (path : Path) (index old new : ℕ) (waits_so : p.waits ≡ waits.Copy path index old new) (there : slot s.durable.names path index ≡ Some old) (apart : (old == new) ≡ false) (same : q ≡ old) where
      held : place_path p.waits ≡ Some path
      held = ap place_path waits_so

      open_clash : AreKept s.durable.names → (req : ReqId) (o : IsOpenAt s req q) → is_shared s.durable.names q ≡ false → ⊥
      open_clash kept req o alone = by_open o.clear
        where
          shared : ((o.path ≡ path) × (o.index ≡ index) → ⊥) → ⊥
          shared differ = true≢false (sym (is_shared_there s.durable.names kept q path o.path index o.index differ (there ∙ ap Some (sym same)) o.here) ∙ alone)

          by_tests : (a : Bool) → same_path o.path path ≡ a → (b : Bool) → (o.index == index) ≡ b → (o.path ≡ path) × (o.index ≡ index)
          by_tests true one true two = (same_path-is o.path path one, same_number o.index index two)
          by_tests false one b two = absurd (shared (λ both. false≢true (sym one ∙ ap (λ z. same_path z path) both.0 ∙ same_itself path)))
          by_tests true one false two = absurd (shared (λ both. false≢true (sym two ∙ ap (λ n. n == index) both.1 ∙ itself index)))

          place : (o.path ≡ path) × (o.index ≡ index)
          place = by_tests (same_path o.path path) refl (o.index == index) refl

          by_open : IsFree s req (o.path ∷ []) [] ⊎ ((before : ℕ) × IsWaiting s req (waits_for_copy o.path o.index before q)) → ⊥
          by_open (inl free) = true≢false (sym (locked_reads s.volatile.locks p.req req path [] (k.locks.locked p here path held) (other_op s.volatile.pending req p free.new here)) ∙ ap (λ z. stands_in_the_way s.volatile.locks req (z ∷ []) []) (sym place.0) ∙ free.free)
          by_open (inr (before, waiting)) =
              let e = one_so req (waits_for_copy o.path o.index before q) s.volatile.pending waiting in
              let that = is_that o.path o.index before q e.0.waits e.3 in
              let one = apart_once s.volatile.pending e.0 p k.locks.apart e.1 here (k.locks.alone e.0 p e.1 here path (ap place_path that ∙ ap Some place.0) held) in
              let copies : waits.Copy o.path o.index before q ≡ waits.Copy path index old new = sym that ∙ ap (λ (z : Pending). z.waits) one ∙ waits_so in
              false≢true (sym apart ∙ ap (λ n. old == n) (sym (made_is o.path path o.index index before old q new copies)) ∙ ap (λ n. old == n) same ∙ itself old)
            where
              made_is : (a b : Path) (i j m n x y : ℕ) → waits.Copy a i m x ≡ waits.Copy b j n y → x ≡ y
              made_is a b i j m n x y h = cc

      lease_clash : AreKept s.durable.names → (purpose : Purpose) (call : Option ReqId) (beside : Beside) → MayBegin heard s q purpose call beside → is_for_lease purpose ≡ true → ⊥
      lease_clash kept purposes.Quiet call beside may is = false≢true is
      lease_clash kept (purposes.Copy target) call beside may is = false≢true is
      lease_clash kept purposes.Lease None beside may is = may.clear
      lease_clash kept purposes.Lease (Some req) beside may is = open_clash kept req may.clear may.alone

    unasked : (move : Move) → IsMadeWell config heard s move → (p : Pending) → IsIn p s.volatile.pending → (path : Path) (index old new : ℕ) → p.waits ≡ waits.Copy path index old new → slot s.durable.names path index ≡ Some old → (old == new) ≡ false → asks_lease old move ≡ false
    unasked (Begins q purpose call beside) well p here path index old new waits_so there apart = by_test (q == old) refl (is_for_lease purpose) refl
      where
        by_test : (a : Bool) → (q == old) ≡ a → (b : Bool) → is_for_lease purpose ≡ b → ((q == old) && is_for_lease purpose) ≡ false
        by_test false is b lease = ap (λ z. z && is_for_lease purpose) is
        by_test true is false lease = ap (λ z. z && is_for_lease purpose) is ∙ lease
        by_test true is true lease = absurd (lease_clash q p here path index old new waits_so there apart (same_number q old is) well.before.names purpose call beside well.made.may lease)
    unasked move well p here path index old new waits_so there apart = refl

    -- ---- who has waited holds its place still

    stays_held : (move : Move) → IsMadeWell config heard s move → is_commit move ≡ false → is_replacing move ≡ false → (p : Pending) → IsIn p s.volatile.pending → HoldsPlace s p.waits → HoldsPlace (move_turn config s move).after p.waits
    stays_held move well within other p here held_so =
        carry s (move_turn config s move).after p.waits held_so (λ path index c place visible is. slots move well within other p here path index c place visible is)
        (λ path index old new waits_so there apart un. move_unled old config heard s un move well.made (unasked move well p here path index old new waits_so there apart) within)

    -- ---- a copy comes to stand

    module _ (at : Path) (i before made_new : ℕ) (well : IsMadeWell config heard s (Replaces at i before made_new)) (p : Pending) (here : IsIn p s.volatile.pending) where
      abbrev u : State
      u = (move_turn config s (Replaces at i before made_new)).after

      pub names_are : edited_names (Cow at i before made_new) s.durable.names ≡ Ok u.durable.names
      names_are = names_given s.durable u.durable own_request (Cow at i before made_new) (one_fits s.durable u.durable (Edited own_request (Cow at i before made_new)) well.made.fits)

      -- who holds the file is the call that waits for this copy
      pub its_call : (path : Path) → place_path p.waits ≡ Some path → at ≡ path → p.waits ≡ waits.Copy at i before made_new
      its_call path held same =
          let e = one_so well.made.may.3.0 (waits_for_copy at i before made_new) s.volatile.pending well.made.may.3.1 in
          let that = is_that at i before made_new e.0.waits e.3 in
          let one = apart_once s.volatile.pending e.0 p k.locks.apart e.1 here (k.locks.alone e.0 p e.1 here path (ap place_path that ∙ ap Some same) held) in
          ap (λ (z : Pending). z.waits) (sym one) ∙ that

      pub elsewhere : (path : Path) (index c : ℕ) → same_path at path ≡ false → slot s.durable.names path index ≡ Some c → slot u.durable.names path index ≡ Some c
      elsewhere path index c other is = edit_slot (Cow at i before made_new) s.durable.names u.durable.names path index c well.before.names names_are (ap not other) is

      by_waits : (w : Waiting) → p.waits ≡ w → HoldsPlace s w → HoldsPlace u w
      by_waits (waits.Quiet path index quiet) is held = by_test (same_path at path) refl
        where
          no_quiet : waits.Quiet path index quiet ≡ waits.Copy at i before made_new → ⊥
          no_quiet h = absurd (cc)

          by_test : (b : Bool) → same_path at path ≡ b → HoldsPlace u (waits.Quiet path index quiet)
          by_test true same = absurd (no_quiet (sym is ∙ its_call path (ap place_path is) (same_path-is at path same)))
          by_test false other = (held.0, elsewhere path index quiet other held.1)
      by_waits (waits.Copy path index old new) is held = by_test (same_path at path) refl
        where
          still : same_path at path ≡ false → IsStill s path index old new → IsStill u path index old new
          still other (inl there) = inl (elsewhere path index new other there)
          still other (inr one) = inr (elsewhere path index old other one.0, move_unled old config heard s one.1 (Replaces at i before made_new) well.made refl refl)

          come : waits.Copy at i before made_new ≡ waits.Copy path index old new → slot u.durable.names path index ≡ Some new
          come copies = by_parts copies (cow_here at i before made_new s.durable.names u.durable.names names_are)
            where
              by_parts : waits.Copy at i before made_new ≡ waits.Copy path index old new → slot u.durable.names at i ≡ Some made_new → slot u.durable.names path index ≡ Some new
              by_parts h there = (let one : at ≡ path = cc in let two : i ≡ index = cc in let three : made_new ≡ new = cc in subst (λ z. slot u.durable.names z index ≡ Some new) one (subst (λ n. slot u.durable.names at n ≡ Some new) two (there ∙ ap Some three)))

          by_test : (b : Bool) → same_path at path ≡ b → HoldsPlace u (waits.Copy path index old new)
          by_test true same = (held.0, held.1, inl (come (sym (its_call path (ap place_path is) (same_path-is at path same)) ∙ is)))
          by_test false other = (held.0, held.1, still other held.2)
      by_waits (waits.Extend path new) is held = tt
      by_waits (waits.Lease path index chunk) is held = tt
      by_waits (waits.Snapshot from to) is held = tt
      by_waits (waits.Replicate chunk target) is held = tt

    -- ---- who waits from now on

    begun_held : (move : Move) → IsMade config heard s move → leaves move ≡ true → (req : ReqId) (q : ℕ) (w : Waiting) → IsBegunBy s req q w → HoldsPlace (move_turn config s move).after w
    begun_held move made left req q (waits.Quiet path index quiet) is = (is.1.visible, left_slot move made left path index quiet (is.1.here ∙ ap Some (sym is.0)))
    begun_held move made left req q (waits.Copy path index old new) is = absurd is
    begun_held move made left req q (waits.Extend path new) is = absurd is
    begun_held move made left req q (waits.Lease path index chunk) is = tt
    begun_held move made left req q (waits.Snapshot from to) is = tt
    begun_held move made left req q (waits.Replicate chunk target) is = tt

    leased_held : (u : State) (w : Waiting) → is_lease_wait w ≡ true → HoldsPlace u w
    leased_held u (waits.Lease path index chunk) is = tt
    leased_held u (waits.Quiet path index quiet) is = absurd (false≢true is)
    leased_held u (waits.Copy path index old new) is = absurd (false≢true is)
    leased_held u (waits.Extend path new) is = tt
    leased_held u (waits.Snapshot from to) is = tt
    leased_held u (waits.Replicate chunk target) is = tt

    tree_held : (u : State) (w : Waiting) → is_tree_wait w ≡ true → HoldsPlace u w
    tree_held u (waits.Lease path index chunk) is = tt
    tree_held u (waits.Quiet path index quiet) is = absurd (false≢true is)
    tree_held u (waits.Copy path index old new) is = absurd (false≢true is)
    tree_held u (waits.Extend path new) is = tt
    tree_held u (waits.Snapshot from to) is = tt
    tree_held u (waits.Replicate chunk target) is = tt

    -- what is copied is settled without a lease, and isn't new
    module _ (old : ℕ) (view : View) (req : ReqId) (beside : Beside) (well : IsMadeWell config heard s (Copies old view req beside)) where
      abbrev v : State
      v = (move_turn config s (Copies old view req beside)).after

      unled : IsUnleased v old
      unled =
          move_unled old config heard s
          (record {
            term = record { term = λ x has. ap (λ (z : Settled). z.view.term) (settled_is (sym has ∙ well.made.may.0.settled.has)) ∙ well.made.may.0.quiet };
            asked = λ a has. absurd (none_there (sym well.made.may.0.settled.unasked ∙ has));
          })
          (Copies old view req beside) well.made refl refl
        where
          settled_is : {a b : Settled} → ◌≡◌ {A = Option Settled} (Some a) (Some b) → a ≡ b
          settled_is h = cc

          none_there : {a : Asking} → ◌≡◌ {A = Option Asking} None (Some a) → ⊥
          none_there h = absurd (cc)

      not_new : (old == s.durable.next_handle) ≡ false
      not_new = by_test (old == s.durable.next_handle) refl
        where
          clash : (n : ℕ) → is_given n n ≡ true → ⊥
          clash n h = absurd (grind (arith, nat_tests))

          by_test : (b : Bool) → (old == s.durable.next_handle) ≡ b → b ≡ false
          by_test true is = absurd (clash s.durable.next_handle (ap (is_given s.durable.next_handle) (sym (same_number old s.durable.next_handle is)) ∙ well.made.may.0.given))
          by_test false is = refl

      copied_at : (path : Path) (index source new : ℕ) → source ≡ old → new ≡ s.durable.next_handle → is_visible path ≡ true → slot s.durable.names path index ≡ Some old → HoldsPlace v (waits.Copy path index source new)
      copied_at path index source new is_old is_new visible there = (
        visible,
        ap (λ a. a == new) is_old ∙ ap (λ b. old == b) is_new ∙ not_new,
        inr (left_slot (Copies old view req beside) well.made refl path index source (there ∙ ap Some (sym is_old)), subst (IsUnleased v) (sym is_old) unled),
      )

      from_now : (by : ReqId) (w : Waiting) → IsCopyFromNow s by old w → HoldsPlace v w
      from_now by (waits.Copy path index source new) is = copied_at path index source new is.0 is.1 is.2.visible is.2.here
      from_now by w is = absurd is

      further : (by : ReqId) (w : Waiting) → IsCopyFurther s by old w → HoldsPlace v w
      further by (waits.Copy path index source new) is =
          let e = one_so by (waits_to_copy path index old) s.volatile.pending is.2 in
          let held = subst (HoldsPlace s) (is_quieting path index old e.0.waits e.3) (all_at (λ z. HoldsPlace s z.waits) s.volatile.pending e.0 k.places e.1) in
          copied_at path index source new is.0 is.1 held.0 held.1
      further by w is = absurd is

    begun_so : (move : Move) → IsMadeWell config heard s move → BegunIn (λ p. HoldsPlace (move_turn config s move).after p.waits) s move
    begun_so (Begins q purpose call (FromNow req waiting)) well = begun_held (Begins q purpose call (FromNow req waiting)) well.made refl req q waiting well.made.may.begun.1
    begun_so (Begins q purpose call (Further req waiting)) well = leased_held _ waiting well.made.may.begun
    begun_so (Makes targets req path) well = tt
    begun_so (Copies old view req (FromNow by waiting)) well = from_now old view req (FromNow by waiting) well by waiting well.made.may.2
    begun_so (Copies old view req (Further by waiting)) well = further old view req (Further by waiting) well by waiting well.made.may.2
    begun_so (Waits req waiting) well = tree_held _ waiting well.made.may.1
    begun_so move well = tt

    -- ---- a move

    each_stays : (move : Move) → IsMadeWell config heard s move → is_commit move ≡ false → (p : Pending) → IsIn p s.volatile.pending → HoldsPlace s p.waits → HoldsPlace (move_turn config s move).after p.waits
    each_stays (Replaces at i before new) well within p here held = by_waits at i before new well p here p.waits refl held
    each_stays move well within p here held = by_test (is_replacing move) refl
      where
        by_test : (b : Bool) → is_replacing move ≡ b → HoldsPlace (move_turn config s move).after p.waits
        by_test true is = replacing move well is
          where
            replacing : (m : Move) → IsMadeWell config heard s m → is_replacing m ≡ true → HoldsPlace (move_turn config s m).after p.waits
            replacing (Replaces at i before new) one is = by_waits at i before new one p here p.waits refl held
            replacing m one is = absurd (false≢true is)
        by_test false is = stays_held move well within is p here held

    pub move_held : (move : Move) → IsMadeWell config heard s move → is_commit move ≡ false → AreHeld (move_turn config s move).after
    move_held move well within = record {
      locks = move_locked config heard s k.locks move well.made;
      places = move_waits (λ p. HoldsPlace (move_turn config s move).after p.waits) config s move (each_in (λ p. HoldsPlace s p.waits) (λ p. HoldsPlace (move_turn config s move).after p.waits) s.volatile.pending (each_stays move well within) k.places) (begun_so move well);
    }

-- where no call waits none holds a place
pub none_held : (s : State) → s.volatile.pending ≡ [] → AreHeld s
none_held s none = record {
  locks = record { locked = λ p here path place. absurd (subst (IsIn p) none here); alone = λ p q hp hq path a b. absurd (subst (IsIn p) none hp); apart = ap are_apart none };
  places = subst (AllIn (λ p. HoldsPlace s p.waits)) (sym none) tt;
}

-- ---- chains, and turns

module _ (config : Config) (heard : Heard) where
  pub chain_held : (s : State) (t : Turn) → Chain config (λ u move. IsMadeWell config heard u move × (is_commit move ≡ false)) s t → AreHeld s → AreHeld t.after
  chain_held s t (Rests u said) k = k
  chain_held s t (Moves u move said made) k = move_held config heard u k move made.0 made.1
  chain_held s t (Then u first next a b) k = chain_held first.after next b (chain_held u first a k)

  pub within_commit : (move : Move) → is_alone move ≡ false → is_commit move ≡ false
  within_commit (CommitsRollback req names) h = absurd (true≢false h)
  within_commit move h = refl

  pub closing_commit : (move : Move) → closes move ≡ true → is_commit move ≡ false
  closing_commit (CommitsRollback req names) h = absurd (false≢true h)
  closing_commit move h = refl

  pub followed_commit : (move : Move) → is_followed move ≡ true → is_commit move ≡ false
  followed_commit (CommitsRollback req names) h = absurd (false≢true h)
  followed_commit move h = refl

  -- behind the commit of a rollback no call waits
  pub none_waits : (s : State) (move : Move) → IsMadeWell config heard s move → is_commit move ≡ true → (is_rolling s.durable.phase ≡ true → s.volatile.pending ≡ []) → (move_turn config s move).after.volatile.pending ≡ []
  none_waits s (CommitsRollback req names) well is calm = nothing_in _ (move_waits (λ p. ⊥) config s (CommitsRollback req names) (subst (AllIn (λ p. ⊥)) (sym (calm well.made.may.rolling)) tt) tt)
    where
      nothing_in : (ps : List Pending) → AllIn (λ p. ⊥) ps → ps ≡ []
      nothing_in [] all = refl
      nothing_in (p ∷ ps) all = absurd all.0
  none_waits s move well is calm = absurd (false≢true is)

  -- So it is of each turn of a master where none waits while a rollback goes on.
  pub turn_held : (s : State) (t : Turn) → EndsOnce config (IsMadeWell config heard) s t → (is_rolling s.durable.phase ≡ true → s.volatile.pending ≡ []) → AreHeld s → AreHeld t.after
  turn_held s t (Within u v chain) calm k = chain_held u v (mapped config _ _ (λ z move made. (made.0, within_commit move made.1)) u v chain) k
  turn_held s t (ByItself u move said made alone) calm k = by_test (is_commit move) refl
    where
      by_test : (b : Bool) → is_commit move ≡ b → AreHeld (move_turn config u move).after
      by_test true is = none_held _ (none_waits u move made is calm)
      by_test false is = move_held config heard u k move made is
  turn_held s t (Closes u move said next made followed chain) calm k =
      chain_held (move_turn config u move).after next (mapped config _ _ (λ z m one. (one.0, closing_commit m one.1)) (move_turn config u move).after next chain) (move_held config heard u k move made (followed_commit move followed))

pub held_starts : HeldStarts
held_starts d log = none_held (restarted d log) refl
