-- A new chunk that a call is to put in the place of another is made on no server, and nor is one whose handle isn't given.
use Rattle.std.proofs.Common.{◌≡◌, ◌∙◌, ◌&&◌, ◌++◌, ◌+◌, ℕ, Bool, true, false, List, [], ◌∷◌, map, refl, ap, sym, subst}
use Rattle.std.specs.Prelude.{is_none, is_some, Option, Some, None, Ok, if◌then◌else◌}
use Rattle.std.specs.FinMap as fin
use Rattle.std.specs.List.{AllByRecursion, list_all}
use Rattle.std.proofs.lemmas.Bool.{false≢true, true≢false, and_parts}
use Rattle.gs_base.specs.Members.{count_from}
use Rattle.gs_base.specs.declared.config.Config.{Config}
use Rattle.gs_base.specs.declared.epoch.EpochEnd.{EpochEnd}
use Rattle.gs_base.specs.declared.epoch.EpochEnd.TheVariants as ends
use Rattle.gs_base.specs.declared.numbers.ReqId.{ReqId}
use Rattle.gs_base.specs.declared.numbers.Stamp.{Stamp}
use Rattle.gs_base.specs.declared.refusal.Refusal.{Refusal}
use Rattle.gs_edit.specs.View.{NamesView}
use Rattle.gs_edit.specs.declared.edit.Edit.TheVariants as edits
use Rattle.gs_lease.specs.declared.view.Purpose.{Purpose}
use Rattle.gs_lease.specs.declared.view.Term.{Term}
use Rattle.gs_lease.specs.declared.view.View.{View}
use Rattle.gs_msg.specs.declared.body.Body.{Body}
use Rattle.gs_msg.specs.declared.body.Body.TheVariants as bodies
use Rattle.gs_msg.specs.declared.chunk.Chunk.{Chunk as About}
use Rattle.gs_msg.specs.declared.chunk.Chunk.TheVariants as abouts
use Rattle.gs_msg.specs.declared.message.Message.{Message}
use Rattle.gs_msg.specs.declared.node.NodeId.TheVariants as nodes
use Rattle.gs_path.specs.Path.{Path}
use Rattle.gs_laws_parts.proofs.lemmas.master.Carrying.{all_append}
use Rattle.gs_laws_moves.proofs.lemmas.moves.GivenNames.{names_given}
use Rattle.gs_laws_master.proofs.lemmas.names.EditsBack.{admitted}
use Rattle.gs_laws_master.proofs.lemmas.keeping.KeptEdits.{cow_lists}
use Rattle.gs_laws_master.proofs.lemmas.names.Undone.{was_named}
use Rattle.gs_master_record.specs.Plain.{Cow, Edited, PlainEdit, PlainEntry, Said, Settle}
use Rattle.gs_master_spec.specs.Beginning.{next_stamp}
use Rattle.gs_master_spec.specs.Chunks.{holder_records, is_holder, target_of}
use Rattle.gs_master_spec.specs.Durable.{is_given, is_listed, prepared_view}
use Rattle.gs_master_spec.specs.Settling.{grant_of, own_request}
use Rattle.gs_master_spec.specs.State.{State, Turn, about, fits, keeps_refusal, post, said_records, to_each}
use Rattle.gs_master_spec.specs.Undoing.{edited_names}
use Rattle.gs_master_spec.specs.Working.{scan_edits}
use Rattle.gs_master_spec.specs.declared.pending.Pending.{Pending}
use Rattle.gs_master_spec.specs.declared.pending.Waiting.{Waiting}
use Rattle.gs_master_spec.specs.declared.pending.Waiting.TheVariants as waits
use Rattle.gs_laws_moves.proofs.lemmas.moves.Fitting.{once_chain}
use Rattle.gs_laws_moves.proofs.lemmas.moves.Listed.{stays_given, stays_listed}
use Rattle.gs_laws_moves.proofs.lemmas.moves.Right.{one_fits}
use Rattle.gs_laws_moves.specs.moves.Epochs.{ByItself, Closes, EndsOnce, Within, closes, is_alone, is_followed}
use Rattle.gs_laws_moves.specs.moves.Guards.{Heard, IsBegunBy, IsCopyFromNow, IsCopyFurther, IsMade, ask_nobody, asks_nobody, asks_nobody_about, is_lease_wait, is_of_tree, is_tree_wait, waits_for_copy}
use Rattle.gs_laws_moves.specs.moves.Moves.{Alone, Beside, Chain, FromNow, Further, Move, Moves, Rests, Then, Begins, Makes, Copies, Hears, Sends, Settles, Edits, Extends, CopiesTree, Replaces, Scans, Refuses, Answers as AnswersCall, Waits, Restores, Says, Flags, Prepares, Finalizes, BeginsRollback, TellsRollback, CommitsRollback, Checkpoints, move_turn}
use Rattle.gs_laws_lift.proofs.lemmas.copies.Told.{copies_given, makes_given, next_ungiven}
use Rattle.gs_laws_lift.proofs.lemmas.copies.Held.{is_replacing, is_that}
use Rattle.gs_laws_lift.proofs.lemmas.copies.Waiting.{BegunIn, all_in_weaker, move_waits, one_waiting}
use Rattle.gs_laws_lift.specs.copies.Made.{AreOfCopies, IsOfCopy, MakeNone, MakesNone, PutsCopy}

-- ---- messages that make nothing

abbrev CreatesNothing : Body → Type 0
CreatesNothing (bodies.About handle (abouts.Create stamp)) = ⊥
CreatesNothing body = Unit {0}

abbrev CreateNothing : List Message → Type 0
CreateNothing messages = AllByRecursion (λ (m : Message). CreatesNothing m.body) messages

none_advance : (q : ℕ) (stamp : Stamp) (servers : List ℕ) → CreateNothing (to_each servers (about q (abouts.Advance stamp)))
none_advance q stamp [] = tt
none_advance q stamp (x ∷ servers) = (tt, none_advance q stamp servers)

none_copied : (old new : ℕ) (at stamp : Stamp) (servers : List ℕ) → CreateNothing (to_each servers (λ server. post (nodes.Server server) (bodies.MakeCopy old at new stamp)))
none_copied old new at stamp [] = tt
none_copied old new at stamp (x ∷ servers) = (tt, none_copied old new at stamp servers)

none_epoch : (epoch : ℕ) (end : EpochEnd) (servers : List ℕ) → CreateNothing (to_each servers (λ server. post (nodes.Server server) (bodies.Epoch epoch end)))
none_epoch epoch end [] = tt
none_epoch epoch end (x ∷ servers) = (tt, none_epoch epoch end servers)

none_granted : (q : ℕ) (view : View) (term : Option Term) → CreateNothing (grant_of q view term)
none_granted q view None = tt
none_granted q view (Some term) = (tt, tt)

none_asked : (body : Body) → asks_nobody body ≡ true → CreatesNothing body
none_asked (bodies.About handle said) asks = by_said said asks
  where
    by_said : (said : About) → asks_nobody_about said ≡ true → CreatesNothing (bodies.About handle said)
    by_said (abouts.Create stamp) asks = absurd (false≢true asks)
    by_said said asks = tt
none_asked body asks = tt

all_asked : (messages : List Message) → ask_nobody messages ≡ true → CreateNothing messages
all_asked [] asks = tt
all_asked (m ∷ messages) asks = (let parts = and_parts (asks_nobody m.body) (ask_nobody messages) asks in (none_asked m.body parts.0, all_asked messages parts.1))

none_made : (chunk : ℕ) (messages : List Message) → CreateNothing messages → MakeNone chunk messages
none_made chunk [] all = tt
none_made chunk (m ∷ messages) all = (by_body m.body all.0, none_made chunk messages all.1)
  where
    by_said : (handle : ℕ) (said : About) → CreatesNothing (bodies.About handle said) → MakesNone chunk (bodies.About handle said)
    by_said handle (abouts.Create stamp) none = absurd none
    by_said handle said none = tt

    by_body : (body : Body) → CreatesNothing body → MakesNone chunk body
    by_body (bodies.About handle said) none = by_said handle said none
    by_body body none = tt

-- one is made that isn't this chunk
another_made : (chunk new : ℕ) (stamp : Stamp) → (new ≡ chunk → ⊥) → (servers : List ℕ) → MakeNone chunk (to_each servers (about new (abouts.Create stamp)))
another_made chunk new stamp other [] = tt
another_made chunk new stamp other (x ∷ servers) = (other, another_made chunk new stamp other servers)

abbrev is_making : Move → Bool
is_making (Makes targets req path) = true
is_making move = false

module _ (config : Config) (heard : Heard) (s : State) where
  begins_none : (q : ℕ) (purpose : Purpose) (call : Option ReqId) (beside : Beside) → CreateNothing (move_turn config s (Begins q purpose call beside)).sent
  begins_none q purpose call Alone = none_advance q (next_stamp s.durable) _
  begins_none q purpose call (FromNow req waiting) = none_advance q (next_stamp s.durable) _
  begins_none q purpose call (Further req waiting) = none_advance q (next_stamp s.durable) _

  copies_none : (old : ℕ) (view : View) (req : ReqId) (beside : Beside) → CreateNothing (move_turn config s (Copies old view req beside)).sent
  copies_none old view req Alone = none_copied old s.durable.next_handle view.stamp (next_stamp s.durable) view.members
  copies_none old view req (FromNow by waiting) = none_copied old s.durable.next_handle view.stamp (next_stamp s.durable) view.members
  copies_none old view req (Further by waiting) = none_copied old s.durable.next_handle view.stamp (next_stamp s.durable) view.members

  -- one move alone makes chunks
  no_makes : (move : Move) → IsMade config heard s move → is_making move ≡ false → CreateNothing (move_turn config s move).sent
  no_makes (Begins q purpose call beside) made plain = begins_none q purpose call beside
  no_makes (Makes targets req path) made plain = absurd (true≢false plain)
  no_makes (Copies old view req beside) made plain = copies_none old view req beside
  no_makes (Hears q new) made plain = tt
  no_makes (Sends q asking source target) made plain = (tt, tt)
  no_makes (Settles q asking carried view) made plain = none_granted q view view.term
  no_makes (Edits req edit answer) made plain = (tt, tt)
  no_makes (Extends req path q view) made plain = (tt, tt)
  no_makes (CopiesTree req from to) made plain = (tt, tt)
  no_makes (Replaces path index old new) made plain = tt
  no_makes (Scans removed forgotten) made plain = tt
  no_makes (Refuses req refusal over) made plain = (tt, tt)
  no_makes (AnswersCall req answer true) made plain = (tt, tt)
  no_makes (AnswersCall req answer false) made plain = (tt, tt)
  no_makes (Waits req waiting) made plain = tt
  no_makes (Restores server chunks) made plain = tt
  no_makes (Says messages) made plain = all_asked messages made.may.1
  no_makes (Flags req preparing epoch) made plain = (tt, tt)
  no_makes (Prepares req moment) made plain = all_append (λ (m : Message). CreatesNothing m.body) _ _ (none_epoch (s.durable.epoch + 1) ends.Prepare (count_from 0 config.servers)) (tt, tt)
  no_makes (Finalizes req) made plain = all_append (λ (m : Message). CreatesNothing m.body) _ _ (none_epoch (s.durable.epoch + 1) ends.Finalize (count_from 0 config.servers)) (tt, tt)
  no_makes BeginsRollback made plain = tt
  no_makes (TellsRollback req epoch) made plain = all_append (λ (m : Message). CreatesNothing m.body) _ _ (none_epoch epoch ends.Rollback (count_from 0 config.servers)) (tt, tt)
  no_makes (CommitsRollback req names) made plain = (tt, tt)
  no_makes Checkpoints made plain = tt

  -- ---- who is made

  module _ (chunk : ℕ) where
    unmade_by : (move : Move) → IsMade config heard s move → (s.durable.next_handle ≡ chunk → is_making move ≡ true → ⊥) → MakeNone chunk (move_turn config s move).sent
    unmade_by move made never = by_test (is_making move) refl
      where
        by_making : (m : Move) → (s.durable.next_handle ≡ chunk → is_making m ≡ true → ⊥) → is_making m ≡ true → MakeNone chunk (move_turn config s m).sent
        by_making (Makes targets req path) never is = another_made chunk s.durable.next_handle (next_stamp s.durable) (λ same. never same refl) targets
        by_making m never is = absurd (false≢true is)

        by_test : (b : Bool) → is_making move ≡ b → MakeNone chunk (move_turn config s move).sent
        by_test true is = by_making move never is
        by_test false is = none_made chunk (move_turn config s move).sent (no_makes move made is)

    -- none that was given
    given_unmade : (move : Move) → IsMade config heard s move → is_given s.durable.next_handle chunk ≡ true → MakeNone chunk (move_turn config s move).sent
    given_unmade move made given = unmade_by move made (λ same is. false≢true (sym (next_ungiven s.durable.next_handle) ∙ ap (is_given s.durable.next_handle) same ∙ given))

    -- and none that isn't given then
    fresh_unmade : (move : Move) → IsMade config heard s move → is_given (move_turn config s move).after.durable.next_handle chunk ≡ false → MakeNone chunk (move_turn config s move).sent
    fresh_unmade move made out = unmade_by move made (λ same is. by_making move made out same is)
      where
        by_making : (m : Move) → IsMade config heard s m → is_given (move_turn config s m).after.durable.next_handle chunk ≡ false → s.durable.next_handle ≡ chunk → is_making m ≡ true → ⊥
        by_making (Makes targets req path) one out same is =
            false≢true (sym out ∙ ap (is_given (move_turn config s (Makes targets req path)).after.durable.next_handle) (sym same) ∙ makes_given config heard s targets req path one)
        by_making m one out same is = absurd (false≢true is)

  -- ---- a move

  module _ (N : ℕ → Type 0) where
    abbrev Behind : Move → ℕ → Type 0
    Behind move chunk = N chunk × MakeNone chunk (move_turn config s move).sent

    abbrev GivenBehind : Move → ℕ → Type 0
    GivenBehind move chunk = (is_given (move_turn config s move).after.durable.next_handle chunk ≡ true) × Behind move chunk

    abbrev Waits_so : Move → Pending → Type 0
    Waits_so move p = IsOfCopy (GivenBehind move) p.waits

    weaker : (move : Move) → IsMade config heard s move → (p : Pending) → IsOfCopy (λ chunk. (is_given s.durable.next_handle chunk ≡ true) × N chunk) p.waits → Waits_so move p
    weaker move made p k = by_waiting p.waits k
      where
        by_waiting : (w : Waiting) → IsOfCopy (λ chunk. (is_given s.durable.next_handle chunk ≡ true) × N chunk) w → IsOfCopy (GivenBehind move) w
        by_waiting (waits.Copy path index old new) k = (stays_given config heard s move new made k.0, (k.1, given_unmade new move made k.0))
        by_waiting (waits.Extend path new) k = tt
        by_waiting (waits.Lease path index chunk) k = tt
        by_waiting (waits.Quiet path index chunk) k = tt
        by_waiting (waits.Snapshot from to) k = tt
        by_waiting (waits.Replicate chunk target) k = tt

    begun_none : (M : ℕ → Type 0) (req : ReqId) (q : ℕ) (waiting : Waiting) → IsBegunBy s req q waiting → IsOfCopy M waiting
    begun_none M req q (waits.Copy path index old new) is = absurd is
    begun_none M req q (waits.Extend path new) is = absurd is
    begun_none M req q (waits.Lease path index chunk) is = tt
    begun_none M req q (waits.Quiet path index chunk) is = tt
    begun_none M req q (waits.Snapshot from to) is = tt
    begun_none M req q (waits.Replicate chunk target) is = tt

    leased_none : (M : ℕ → Type 0) (waiting : Waiting) → is_lease_wait waiting ≡ true → IsOfCopy M waiting
    leased_none M (waits.Copy path index old new) is = absurd (false≢true is)
    leased_none M (waits.Extend path new) is = tt
    leased_none M (waits.Lease path index chunk) is = tt
    leased_none M (waits.Quiet path index chunk) is = tt
    leased_none M (waits.Snapshot from to) is = tt
    leased_none M (waits.Replicate chunk target) is = tt

    tree_none : (M : ℕ → Type 0) (waiting : Waiting) → is_tree_wait waiting ≡ true → IsOfCopy M waiting
    tree_none M (waits.Copy path index old new) is = absurd (false≢true is)
    tree_none M (waits.Extend path new) is = tt
    tree_none M (waits.Lease path index chunk) is = tt
    tree_none M (waits.Quiet path index chunk) is = tt
    tree_none M (waits.Snapshot from to) is = tt
    tree_none M (waits.Replicate chunk target) is = tt

    -- a copy is made under the next handle
    copied_so : (M : ℕ → Type 0) → M s.durable.next_handle → (req : ReqId) (old : ℕ) (waiting : Waiting) → IsCopyFromNow s req old waiting → IsOfCopy M waiting
    copied_so M next req old (waits.Copy path index source new) is = subst M (sym is.1) next
    copied_so M next req old waiting is = absurd is

    further_so : (M : ℕ → Type 0) → M s.durable.next_handle → (req : ReqId) (old : ℕ) (waiting : Waiting) → IsCopyFurther s req old waiting → IsOfCopy M waiting
    further_so M next req old (waits.Copy path index source new) is = subst M (sym is.1) next
    further_so M next req old waiting is = absurd is

    next_so : (old : ℕ) (view : View) (req : ReqId) (beside : Beside) → IsMade config heard s (Copies old view req beside) → AreOfCopies N s → GivenBehind (Copies old view req beside) s.durable.next_handle
    next_so old view req beside made k = (
      copies_given config heard s old view req beside made,
      (k.fresh s.durable.next_handle (next_ungiven s.durable.next_handle), none_made s.durable.next_handle _ (no_makes (Copies old view req beside) made refl)),
    )

    begun : (move : Move) → IsMade config heard s move → AreOfCopies N s → BegunIn (Waits_so move) s move
    begun (Begins q purpose call (FromNow req waiting)) made k = begun_none _ req q waiting made.may.begun.1
    begun (Begins q purpose call (Further req waiting)) made k = leased_none _ waiting made.may.begun
    begun (Copies old view req (FromNow by waiting)) made k = copied_so (GivenBehind (Copies old view req (FromNow by waiting))) (next_so old view req (FromNow by waiting) made k) by old waiting made.may.2
    begun (Copies old view req (Further by waiting)) made k = further_so (GivenBehind (Copies old view req (Further by waiting))) (next_so old view req (Further by waiting) made k) by old waiting made.may.2
    begun (Waits req waiting) made k = tree_none _ waiting made.may.1
    begun move made k = tt

    pub move_unmade : (move : Move) → IsMade config heard s move → AreOfCopies N s → AreOfCopies (Behind move) (move_turn config s move).after
    move_unmade move made k = record {
      waiting = move_waits (Waits_so move) config s move (all_in_weaker _ (Waits_so move) (weaker move made) s.volatile.pending k.waiting) (begun move made k);
      fresh = λ chunk out. (k.fresh chunk (before chunk out (is_given s.durable.next_handle chunk) refl), fresh_unmade chunk move made out);
    }
      where
        before : (chunk : ℕ) → is_given (move_turn config s move).after.durable.next_handle chunk ≡ false → (b : Bool) → is_given s.durable.next_handle chunk ≡ b → b ≡ false
        before chunk out true is = absurd (false≢true (sym out ∙ stays_given config heard s move chunk made is))
        before chunk out false is = refl

    -- ---- its records

    abbrev puts_none : PlainEntry → Bool
    puts_none (Edited by (Cow path index before copy)) = false
    puts_none entry = true

    by_none : (entries : List PlainEntry) → list_all puts_none entries ≡ true → AllByRecursion (PutsCopy N) entries
    by_none [] all = tt
    by_none (entry ∷ entries) all = (let parts = and_parts (puts_none entry) (list_all puts_none entries) all in (by_entry entry parts.0, by_none entries parts.1))
      where
        by_edit : (by : ReqId) (edit : PlainEdit) → puts_none (Edited by edit) ≡ true → PutsCopy N (Edited by edit)
        by_edit by (Cow path index before copy) is = absurd (false≢true is)
        by_edit by edit is = tt

        by_entry : (entry : PlainEntry) → puts_none entry ≡ true → PutsCopy N entry
        by_entry (Edited by edit) is = by_edit by edit is
        by_entry entry is = tt

    scan_puts : (removed : List Path) (forgotten : List ℕ) → list_all puts_none (map (Edited own_request) (scan_edits removed forgotten)) ≡ true
    scan_puts [] [] = refl
    scan_puts [] (c ∷ forgotten) = refl
    scan_puts (path ∷ removed) forgotten = scan_puts removed forgotten

    said_puts : (req : ReqId) (refusal : Refusal) → list_all puts_none (said_records (keeps_refusal s req refusal) s.log req refusal) ≡ true
    said_puts req refusal = by_test (keeps_refusal s req refusal && fits s.log (Said req refusal ∷ []))
      where
        by_test : (b : Bool) → list_all puts_none (if b then Said req refusal ∷ [] else []) ≡ true
        by_test true = refl
        by_test false = refl

    settle_puts : (b : Bool) (q : ℕ) (target : Option ℕ) (view : View) → list_all puts_none (holder_records b q target ++ Settle (record { handle = q; view = view }) ∷ []) ≡ true
    settle_puts b q None view = refl
    settle_puts true q (Some target) view = refl
    settle_puts false q (Some target) view = refl

    tree_puts : (edit : PlainEdit) → is_of_tree edit ≡ true → (puts_none (Edited own_request edit) && true) ≡ true
    tree_puts (Cow path index before copy) tree = absurd (false≢true tree)
    tree_puts edit tree = refl

    none_move : (move : Move) → IsMade config heard s move → is_replacing move ≡ false → list_all puts_none (move_turn config s move).records ≡ true
    none_move (Replaces path index old new) made other = absurd (true≢false other)
    none_move (Begins q purpose call Alone) made other = refl
    none_move (Begins q purpose call (FromNow req waiting)) made other = refl
    none_move (Begins q purpose call (Further req waiting)) made other = refl
    none_move (Copies old view req Alone) made other = refl
    none_move (Copies old view req (FromNow by waiting)) made other = refl
    none_move (Copies old view req (Further by waiting)) made other = refl
    none_move (Settles q asking carried view) made other = settle_puts (is_holder s.durable.phase (prepared_view s.durable q) carried asking view) q (target_of asking.purpose) view
    none_move (Edits req edit answer) made other = tree_puts edit made.may.tree
    none_move (Scans removed forgotten) made other = scan_puts removed forgotten
    none_move (Refuses req refusal over) made other = said_puts req refusal
    none_move (AnswersCall req answer true) made other = refl
    none_move (AnswersCall req answer false) made other = refl
    none_move move made other = refl

    -- one that puts nothing there
    pub none_puts : (move : Move) → IsMade config heard s move → is_replacing move ≡ false → AllByRecursion (PutsCopy N) (move_turn config s move).records
    none_puts move made other = by_none (move_turn config s move).records (none_move move made other)

    pub replace_puts : (path : Path) (index old new : ℕ) → IsMade config heard s (Replaces path index old new) → AreOfCopies N s → N new
    replace_puts path index old new made k =
        one_waiting (λ p. IsOfCopy (λ c. (is_given s.durable.next_handle c ≡ true) × N c) p.waits) (N new) made.may.3.0 (waits_for_copy path index old new) (λ p same waits_so of. by_waiting p.waits waits_so of) s.volatile.pending made.may.3.1 k.waiting
      where
        by_waiting : (w : Waiting) → waits_for_copy path index old new w ≡ true → IsOfCopy (λ c. (is_given s.durable.next_handle c ≡ true) × N c) w → N new
        by_waiting w is of = (subst (IsOfCopy (λ c. (is_given s.durable.next_handle c ≡ true) × N c)) (is_that path index old new w is) of).1

-- ---- chains

pub unmade_weaker : (M N : ℕ → Type 0) → ((chunk : ℕ) → M chunk → N chunk) → (s : State) → AreOfCopies M s → AreOfCopies N s
unmade_weaker M N f s k = record { waiting = all_in_weaker _ _ by_one s.volatile.pending k.waiting; fresh = λ chunk out. f chunk (k.fresh chunk out) }
  where
    by_one : (p : Pending) → IsOfCopy (λ chunk. (is_given s.durable.next_handle chunk ≡ true) × M chunk) p.waits → IsOfCopy (λ chunk. (is_given s.durable.next_handle chunk ≡ true) × N chunk) p.waits
    by_one p = by_waiting p.waits
      where
        by_waiting : (w : Waiting) → IsOfCopy (λ chunk. (is_given s.durable.next_handle chunk ≡ true) × M chunk) w → IsOfCopy (λ chunk. (is_given s.durable.next_handle chunk ≡ true) × N chunk) w
        by_waiting (waits.Copy path index old new) of = (of.0, f new of.1)
        by_waiting (waits.Extend path new) of = tt
        by_waiting (waits.Lease path index chunk) of = tt
        by_waiting (waits.Quiet path index chunk) of = tt
        by_waiting (waits.Snapshot from to) of = tt
        by_waiting (waits.Replicate chunk target) of = tt

none_both : (chunk : ℕ) (xs ys : List Message) → MakeNone chunk xs → MakeNone chunk ys → MakeNone chunk (xs ++ ys)
none_both chunk [] ys a b = b
none_both chunk (x ∷ xs) ys a b = (a.0, none_both chunk xs ys a.1 b)

puts_both : (N : ℕ → Type 0) (xs ys : List PlainEntry) → AllByRecursion (PutsCopy N) xs → AllByRecursion (PutsCopy N) ys → AllByRecursion (PutsCopy N) (xs ++ ys)
puts_both N [] ys a b = b
puts_both N (x ∷ xs) ys a b = (a.0, puts_both N xs ys a.1 b)

pub puts_weaker : (M N : ℕ → Type 0) → ((chunk : ℕ) → M chunk → N chunk) → (entries : List PlainEntry) → AllByRecursion (PutsCopy M) entries → AllByRecursion (PutsCopy N) entries
puts_weaker M N f [] all = tt
puts_weaker M N f (entry ∷ entries) all = (by_entry entry all.0, puts_weaker M N f entries all.1)
  where
    by_edit : (by : ReqId) (edit : PlainEdit) → PutsCopy M (Edited by edit) → PutsCopy N (Edited by edit)
    by_edit by (Cow path index before copy) k = f copy k
    by_edit by edit k = tt

    by_entry : (entry : PlainEntry) → PutsCopy M entry → PutsCopy N entry
    by_entry (Edited by edit) k = by_edit by edit k
    by_entry entry k = tt

-- what comes to a place was in no file
put_out : (path : Path) (index before copy : ℕ) (names after : NamesView) → edited_names (Cow path index before copy) names ≡ Ok after → is_some (fin.get names.refs copy) ≡ false
put_out path index before copy names after e =
    let n = was_named (Cow path index before copy) names after e in
    let tests = (admitted (edits.Cow path index before copy) (fin.entries names.tree) names.refs (n.rows, n.refs) n.made).asked in
    none_no (fin.get names.refs copy) (and_parts (is_none (fin.get names.refs copy)) _ tests).0
  where
    none_no : (o : Option ℕ) → is_none o ≡ true → is_some o ≡ false
    none_no None h = refl
    none_no (Some n) h = absurd (false≢true h)

module _ (config : Config) (heard : Heard) where
  pub chain_unmade : (N : ℕ → Type 0) (s : State) (t : Turn) → Chain config (IsMade config heard) s t → AreOfCopies N s → AreOfCopies (λ chunk. N chunk × MakeNone chunk t.sent) t.after
  chain_unmade N s t (Rests u said) k = unmade_weaker N (λ chunk. N chunk × MakeNone chunk []) (λ chunk n. (n, tt)) u k
  chain_unmade N s t (Moves u move said made) k = move_unmade config heard u N move made k
  chain_unmade N s t (Then u first next a b) k =
      unmade_weaker (λ chunk. (N chunk × MakeNone chunk first.sent) × MakeNone chunk next.sent) (λ chunk. N chunk × MakeNone chunk (first.sent ++ next.sent)) (λ chunk n. (n.0.0, none_both chunk first.sent next.sent n.0.1 n.1)) next.after
      (chain_unmade (λ chunk. N chunk × MakeNone chunk first.sent) first.after next b (chain_unmade N u first a k))

  pub once_unmade : (N : ℕ → Type 0) (s : State) (t : Turn) → EndsOnce config (IsMade config heard) s t → AreOfCopies N s → AreOfCopies (λ chunk. N chunk × MakeNone chunk t.sent) t.after
  once_unmade N s t turn k = chain_unmade N s t (once_chain config (IsMade config heard) s t turn) k

  -- ---- what is put there

  abbrev IsWithin : State → Move → Type 0
  IsWithin u move = IsMade config heard u move × (is_alone move ≡ false)

  abbrev Over : (ℕ → Type 0) → State → State → ℕ → Type 0
  Over N s u chunk = N chunk × ((is_listed s.durable chunk ≡ false) × (is_listed u.durable chunk ≡ true))

  plain : (s : State) (t : Turn) → Chain config IsWithin s t → Chain config (IsMade config heard) s t
  plain s t (Rests u said) = Rests u said
  plain s t (Moves u move said made) = Moves u move said made.0
  plain s t (Then u first next a b) = Then u first next (plain u first a) (plain first.after next b)

  stays : (s : State) (t : Turn) (chunk : ℕ) → Chain config IsWithin s t → is_listed s.durable chunk ≡ true → is_listed t.after.durable chunk ≡ true
  stays s t chunk (Rests u said) listed = listed
  stays s t chunk (Moves u move said made) listed = stays_listed config heard u move chunk made.0 made.1 listed
  stays s t chunk (Then u first next a b) listed = stays first.after next chunk b (stays u first chunk a listed)

  was_out : (s : State) (t : Turn) (chunk : ℕ) → Chain config IsWithin s t → is_listed t.after.durable chunk ≡ false → is_listed s.durable chunk ≡ false
  was_out s t chunk chain out = by_test (is_listed s.durable chunk) refl
    where
      by_test : (b : Bool) → is_listed s.durable chunk ≡ b → b ≡ false
      by_test true is = absurd (false≢true (sym out ∙ stays s t chunk chain is))
      by_test false is = refl

  module _ (N : ℕ → Type 0) where
    replace_over : (s : State) (path : Path) (index old new : ℕ) → IsMade config heard s (Replaces path index old new) → AreOfCopies N s → Over N s (move_turn config s (Replaces path index old new)).after new
    replace_over s path index old new made k =
        let u = (move_turn config s (Replaces path index old new)).after in
        let e = names_given s.durable u.durable own_request (Cow path index old new) (one_fits s.durable u.durable (Edited own_request (Cow path index old new)) made.fits) in
        (replace_puts config heard s N path index old new made k, (put_out path index old new s.durable.names u.durable.names e, cow_lists path index old new s.durable.names u.durable.names e))

    move_over : (s : State) (move : Move) → IsMade config heard s move → AreOfCopies N s → AllByRecursion (PutsCopy (Over N s (move_turn config s move).after)) (move_turn config s move).records
    move_over s move made k = by_test (is_replacing move) refl
      where
        by_replace : (m : Move) → IsMade config heard s m → is_replacing m ≡ true → AllByRecursion (PutsCopy (Over N s (move_turn config s m).after)) (move_turn config s m).records
        by_replace (Replaces path index old new) one is = (replace_over s path index old new one k, tt)
        by_replace m one is = absurd (false≢true is)

        by_test : (b : Bool) → is_replacing move ≡ b → AllByRecursion (PutsCopy (Over N s (move_turn config s move).after)) (move_turn config s move).records
        by_test true is = by_replace move made is
        by_test false is = none_puts config heard s (Over N s (move_turn config s move).after) move made is

  chain_over : (N : ℕ → Type 0) (s : State) (t : Turn) → Chain config IsWithin s t → AreOfCopies N s → AllByRecursion (PutsCopy (Over N s t.after)) t.records
  chain_over N s t (Rests u said) k = tt
  chain_over N s t (Moves u move said made) k = move_over N u move made.0 k
  chain_over N s t (Then u first next a b) k =
      let mid = chain_unmade N u first (plain u first a) k in
      puts_both (Over N u next.after) first.records next.records
      (puts_weaker (Over N u first.after) (Over N u next.after) (λ chunk o. (o.0, (o.1.0, stays first.after next chunk b o.1.1))) first.records (chain_over N u first a k))
      (puts_weaker (Over (λ chunk. N chunk × MakeNone chunk first.sent) first.after next.after) (Over N u next.after) (λ chunk o. (o.0.0, (was_out u first chunk a o.1.0, o.1.1))) next.records (chain_over (λ chunk. N chunk × MakeNone chunk first.sent) first.after next b mid))

  -- a move that is alone puts nothing there, nor one behind which calls end
  alone_other : (move : Move) → is_alone move ≡ true → is_replacing move ≡ false
  alone_other (Replaces path index old new) alone = absurd (false≢true alone)
  alone_other move alone = refl

  closing_other : (move : Move) → closes move ≡ true → is_replacing move ≡ false
  closing_other (Replaces path index old new) is = absurd (false≢true is)
  closing_other move is = refl

  followed_other : (move : Move) → is_followed move ≡ true → is_replacing move ≡ false
  followed_other (Replaces path index old new) is = absurd (false≢true is)
  followed_other move is = refl

  closing_over : (M : ℕ → Type 0) (s : State) (t : Turn) → Chain config (λ u move. IsMade config heard u move × (closes move ≡ true)) s t → AllByRecursion (PutsCopy M) t.records
  closing_over M s t (Rests u said) = tt
  closing_over M s t (Moves u move said made) = none_puts config heard u M move made.0 (closing_other move made.1)
  closing_over M s t (Then u first next a b) = puts_both M first.records next.records (closing_over M u first a) (closing_over M first.after next b)

  pub once_puts : (N : ℕ → Type 0) (s : State) (t : Turn) → EndsOnce config (IsMade config heard) s t → AreOfCopies N s → AllByRecursion (PutsCopy (Over N s t.after)) t.records
  once_puts N s t (Within u v chain) k = chain_over N u v chain k
  once_puts N s t (ByItself u move said made alone) k = none_puts config heard u (Over N u (move_turn config u move).after) move made (alone_other move alone)
  once_puts N s t (Closes u move said next made followed chain) k =
      puts_both (Over N u next.after) (move_turn config u move).records next.records (none_puts config heard u (Over N u next.after) move made (followed_other move followed)) (closing_over (Over N u next.after) (move_turn config u move).after next chain)
