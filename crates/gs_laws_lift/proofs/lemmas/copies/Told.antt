-- A new chunk that a call waits for is told to be a copy of that alone of which the call waits for one, and one whose handle isn't given is told to be none.
use Rattle.std.proofs.Common.{◌≡◌, arith, ◌∙◌, ◌&&◌, ◌||◌, ◌++◌, ◌==◌, ℕ, Bool, true, false, not, List, [], ◌∷◌, map, refl, ap, sym, subst}
use Rattle.std.specs.Prelude.{is_some, Option, Some, None, if◌then◌else◌}
use Rattle.std.specs.FinMap as fin
use Rattle.std.specs.List.{AllByRecursion, list_all}
use Rattle.std.proofs.lemmas.Bool.{false≢true, true≢false, and_parts}
use Rattle.std.proofs.lemmas.Bool.Decides.{nat_tests}
use Rattle.gs_base.specs.declared.config.Config.{Config}
use Rattle.gs_base.specs.declared.numbers.ReqId.{ReqId}
use Rattle.gs_lease.specs.declared.view.View.{View}
use Rattle.gs_msg.specs.declared.body.Body.{Body}
use Rattle.gs_msg.specs.declared.body.Body.TheVariants as bodies
use Rattle.gs_msg.specs.declared.message.Message.{Message}
use Rattle.gs_laws_parts.proofs.lemmas.master.Families.{CopiesNothing, is_copying, no_copies}
use Rattle.gs_laws_plain.specs.commands.Places.{Place}
use Rattle.gs_laws_master.proofs.lemmas.upgrades.Beginnings.{fits_gives}
use Rattle.gs_master_record.specs.Plain.{AddChunk, Cow, Edited, PlainEdit, PlainEntry, Propose, Said, Settle}
use Rattle.gs_master_spec.specs.Applied.{applied, is_fresh, may_propose, proposed, raised}
use Rattle.gs_base.specs.declared.refusal.Refusal.{Refusal}
use Rattle.gs_path.specs.Path.{Path}
use Rattle.gs_master_spec.specs.Chunks.{holder_records, is_holder, target_of}
use Rattle.gs_master_spec.specs.Settling.{own_request}
use Rattle.gs_master_spec.specs.Working.{scan_edits}
use Rattle.gs_master_spec.specs.Durable.{Durable, is_given, is_rolling, prepared_view}
use Rattle.gs_master_spec.specs.State.{State, Turn, fits, keeps_refusal, post, said_records, to_each}
use Rattle.gs_master_spec.specs.Beginning.{next_stamp}
use Rattle.gs_base.specs.declared.numbers.Stamp.{Stamp}
use Rattle.gs_msg.specs.declared.node.NodeId.TheVariants as nodes
use Rattle.gs_master_spec.specs.declared.pending.Pending.{Pending}
use Rattle.gs_master_spec.specs.declared.pending.Waiting.{Waiting}
use Rattle.gs_master_spec.specs.declared.pending.Waiting.TheVariants as waits
use Rattle.gs_laws_moves.proofs.lemmas.moves.Listed.{stays_given}
use Rattle.gs_laws_moves.proofs.lemmas.moves.Right.{one_fits}
use Rattle.gs_laws_moves.specs.moves.Guards.{Heard, IsBegunBy, IsCopyFromNow, IsCopyFurther, IsMade, is_lease_wait, is_of_tree, is_tree_wait, waits_for_copy, waits_to_extend}
use Rattle.gs_laws_moves.specs.moves.Laws.{IsMadeWell}
use Rattle.gs_laws_moves.specs.moves.Moves.{Alone, Beside, Chain, FromNow, Further, Move, Moves, Rests, Then, Begins, Makes, Copies, Settles, Edits, Extends, Replaces, Scans, Refuses, Answers as AnswersCall, Waits, move_turn}
use Rattle.gs_laws_lift.proofs.lemmas.copies.Waiting.{BegunIn, all_in_weaker, move_waits, one_waiting}
use Rattle.gs_laws_lift.proofs.lemmas.copies.Held.{is_that}
use Rattle.gs_laws_lift.specs.copies.Told.{AllNew, MakeSo, MakesSo, OfNew, OfPut, copied_at}

same_number : (a b : ℕ) → (a == b) ≡ true → a ≡ b
same_number a b h = grind (arith, nat_tests)

-- ---- handles

-- a new handle is given behind its proposal
given_raised_itself : (next n : ℕ) → is_fresh next n ≡ true → is_given (raised next n) n ≡ true
given_raised_itself next n fresh = grind (arith, nat_tests)

new_given : (d e : Durable) (version : ℕ) → fin.get d.chunks d.next_handle ≡ None → applied d (Propose d.next_handle version) ≡ Some e → is_given e.next_handle d.next_handle ≡ true
unfolding applied
new_given d e version none fit =
    let may = fits_gives (may_propose d.phase d.next_handle d.next_version d.next_handle version (fin.get d.chunks d.next_handle)) (proposed d d.next_handle version) e fit in
    let rest = and_parts (not (is_rolling d.phase)) (is_fresh d.next_version version && (is_some (fin.get d.chunks d.next_handle) || is_fresh d.next_handle d.next_handle)) may.0 in
    let both = and_parts (is_fresh d.next_version version) (is_some (fin.get d.chunks d.next_handle) || is_fresh d.next_handle d.next_handle) rest.1 in
    ap (λ (x : Durable). is_given x.next_handle d.next_handle) (sym may.1) ∙ given_raised_itself d.next_handle d.next_handle (sym (ap (λ o. is_some o || is_fresh d.next_handle d.next_handle) none) ∙ both.1)

pub next_ungiven : (next : ℕ) → is_given next next ≡ false
next_ungiven next = grind (arith, nat_tests)

-- moves that put a chunk into a file
abbrev pub is_putting : Move → Bool
is_putting (Extends req path chunk view) = true
is_putting (Replaces path index old new) = true
is_putting move = false

-- ---- what holds leads to what is weaker

-- with a handle that is given
abbrev pub AndGiven : State → (Option Place → ℕ → Type 0) → Option Place → ℕ → Type 0
AndGiven s N place chunk = (is_given s.durable.next_handle chunk ≡ true) × N place chunk

pub new_weaker : (M N : Option Place → ℕ → Type 0) → ((place : Option Place) (chunk : ℕ) → M place chunk → N place chunk) → (w : Waiting) → OfNew M w → OfNew N w
new_weaker M N f (waits.Extend path new) k = f None new k
new_weaker M N f (waits.Copy path index old new) k = f (Some (record { path = path; index = index; chunk = old })) new k
new_weaker M N f (waits.Lease path index chunk) k = tt
new_weaker M N f (waits.Quiet path index chunk) k = tt
new_weaker M N f (waits.Snapshot from to) k = tt
new_weaker M N f (waits.Replicate chunk target) k = tt

pub all_new_weaker : (M N : Option Place → ℕ → Type 0) → ((place : Option Place) (chunk : ℕ) → M place chunk → N place chunk) → (s : State) → AllNew M s → AllNew N s
all_new_weaker M N f s k = record {
  waiting = all_in_weaker (λ p. OfNew (AndGiven s M) p.waits) (λ p. OfNew (AndGiven s N) p.waits) (λ p. new_weaker (AndGiven s M) (AndGiven s N) (λ place chunk n. (n.0, f place chunk n.1)) p.waits) s.volatile.pending k.waiting;
  fresh = λ place chunk out. f place chunk (k.fresh place chunk out);
}

pub puts_both : (N : Option Place → ℕ → Type 0) (xs ys : List PlainEntry) → AllByRecursion (OfPut N) xs → AllByRecursion (OfPut N) ys → AllByRecursion (OfPut N) (xs ++ ys)
puts_both N [] ys a b = b
puts_both N (x ∷ xs) ys a b = (a.0, puts_both N xs ys a.1 b)

pub puts_weaker : (M N : Option Place → ℕ → Type 0) → ((place : Option Place) (chunk : ℕ) → M place chunk → N place chunk) → (entries : List PlainEntry) → AllByRecursion (OfPut M) entries → AllByRecursion (OfPut N) entries
puts_weaker M N f [] all = tt
puts_weaker M N f (entry ∷ entries) all = (by_entry entry all.0, puts_weaker M N f entries all.1)
  where
    by_edit : (by : ReqId) (edit : PlainEdit) → OfPut M (Edited by edit) → OfPut N (Edited by edit)
    by_edit by (AddChunk path chunk) k = f None chunk k
    by_edit by (Cow path index old new) k = f (Some (record { path = path; index = index; chunk = old })) new k
    by_edit by edit k = tt

    by_entry : (entry : PlainEntry) → OfPut M entry → OfPut N entry
    by_entry (Edited by edit) k = by_edit by edit k
    by_entry entry k = tt

module _ (config : Config) (heard : Heard) (s : State) where
  pub makes_given : (targets : List ℕ) (req : ReqId) (path : _) → IsMade config heard s (Makes targets req path) → is_given (move_turn config s (Makes targets req path)).after.durable.next_handle s.durable.next_handle ≡ true
  makes_given targets req path made = new_given s.durable (move_turn config s (Makes targets req path)).after.durable s.durable.next_version made.may.0 (one_fits s.durable _ (Propose s.durable.next_handle s.durable.next_version) made.fits)

  pub copies_given : (old : ℕ) (view : View) (req : ReqId) (beside : Beside) → IsMade config heard s (Copies old view req beside) → is_given (move_turn config s (Copies old view req beside)).after.durable.next_handle s.durable.next_handle ≡ true
  copies_given old view req Alone made = new_given s.durable _ s.durable.next_version made.may.0.fresh (one_fits s.durable _ (Propose s.durable.next_handle s.durable.next_version) made.fits)
  copies_given old view req (FromNow by waiting) made = new_given s.durable _ s.durable.next_version made.may.0.fresh (one_fits s.durable _ (Propose s.durable.next_handle s.durable.next_version) made.fits)
  copies_given old view req (Further by waiting) made = new_given s.durable _ s.durable.next_version made.may.0.fresh (one_fits s.durable _ (Propose s.durable.next_handle s.durable.next_version) made.fits)

  -- ---- what is told of a chunk

  module _ (place : Option Place) (chunk : ℕ) where
    none_so : (messages : List Message) → AllByRecursion (λ (m : Message). CopiesNothing m.body) messages → MakeSo place chunk messages
    none_so [] all = tt
    none_so (m ∷ messages) all = (by_body m.body all.0, none_so messages all.1)
      where
        by_body : (body : Body) → CopiesNothing body → MakesSo place chunk body
        by_body (bodies.MakeCopy old at new stamp) k = absurd k
        by_body body k = tt

    copied_so : (old new : ℕ) (at stamp : Stamp) → (new ≡ chunk → copied_at place ≡ Some old) → (members : List ℕ) → MakeSo place chunk (to_each members (λ server. post (nodes.Server server) (bodies.MakeCopy old at new stamp)))
    copied_so old new at stamp is [] = tt
    copied_so old new at stamp is (member ∷ members) = (is, copied_so old new at stamp is members)

    -- of one that isn't the next nothing is told
    next_other : (move : Move) → is_copying move ≡ true → (s.durable.next_handle ≡ chunk → ⊥) → MakeSo place chunk (move_turn config s move).sent
    next_other (Copies old view req Alone) is other = copied_so old s.durable.next_handle view.stamp (next_stamp s.durable) (λ same. absurd (other same)) view.members
    next_other (Copies old view req (FromNow by waiting)) is other = copied_so old s.durable.next_handle view.stamp (next_stamp s.durable) (λ same. absurd (other same)) view.members
    next_other (Copies old view req (Further by waiting)) is other = copied_so old s.durable.next_handle view.stamp (next_stamp s.durable) (λ same. absurd (other same)) view.members
    next_other move is other = absurd (false≢true is)

    other_so : (move : Move) → IsMadeWell config heard s move → (is_copying move ≡ true → s.durable.next_handle ≡ chunk → ⊥) → MakeSo place chunk (move_turn config s move).sent
    other_so move well other = by_test (is_copying move) refl
      where
        by_test : (b : Bool) → is_copying move ≡ b → MakeSo place chunk (move_turn config s move).sent
        by_test true is = next_other move is (other is)
        by_test false is = none_so (move_turn config s move).sent (no_copies config heard s move well is)

    -- nor of one whose handle was given, or isn't then
    given_so : (move : Move) → IsMadeWell config heard s move → is_given s.durable.next_handle chunk ≡ true → MakeSo place chunk (move_turn config s move).sent
    given_so move well given = other_so move well (λ is same. true≢false (sym given ∙ ap (is_given s.durable.next_handle) (sym same) ∙ next_ungiven s.durable.next_handle))

    next_given : (move : Move) → IsMade config heard s move → is_copying move ≡ true → is_given (move_turn config s move).after.durable.next_handle s.durable.next_handle ≡ true
    next_given (Copies old view req beside) made is = copies_given old view req beside made
    next_given move made is = absurd (false≢true is)

    fresh_so : (move : Move) → IsMadeWell config heard s move → is_given (move_turn config s move).after.durable.next_handle chunk ≡ false → MakeSo place chunk (move_turn config s move).sent
    fresh_so move well out = other_so move well (λ is same. true≢false (sym (next_given move well.made is) ∙ ap (is_given (move_turn config s move).after.durable.next_handle) same ∙ out))

  -- ---- a move

  module _ (N : Option Place → ℕ → Type 0) where
    abbrev Behind : Move → Option Place → ℕ → Type 0
    Behind move place chunk = N place chunk × MakeSo place chunk (move_turn config s move).sent

    abbrev GivenBehind : Move → Option Place → ℕ → Type 0
    GivenBehind move place chunk = (is_given (move_turn config s move).after.durable.next_handle chunk ≡ true) × Behind move place chunk

    abbrev WaitsSo : Move → Pending → Type 0
    WaitsSo move p = OfNew (GivenBehind move) p.waits

    weaker : (move : Move) → IsMadeWell config heard s move → (p : Pending) → OfNew (λ place chunk. (is_given s.durable.next_handle chunk ≡ true) × N place chunk) p.waits → WaitsSo move p
    weaker move well p k =
        new_weaker (λ place chunk. (is_given s.durable.next_handle chunk ≡ true) × N place chunk) (GivenBehind move) (λ place chunk n. (stays_given config heard s move chunk well.made n.0, (n.1, given_so place chunk move well n.0))) p.waits k

    begun_so : (M : Option Place → ℕ → Type 0) (req : ReqId) (q : ℕ) (waiting : Waiting) → IsBegunBy s req q waiting → OfNew M waiting
    begun_so M req q (waits.Extend path new) is = absurd is
    begun_so M req q (waits.Copy path index old new) is = absurd is
    begun_so M req q waiting is = tt

    leased_so : (M : Option Place → ℕ → Type 0) (waiting : Waiting) → is_lease_wait waiting ≡ true → OfNew M waiting
    leased_so M (waits.Extend path new) is = absurd (false≢true is)
    leased_so M (waits.Copy path index old new) is = absurd (false≢true is)
    leased_so M waiting is = tt

    tree_so : (M : Option Place → ℕ → Type 0) (waiting : Waiting) → is_tree_wait waiting ≡ true → OfNew M waiting
    tree_so M (waits.Extend path new) is = absurd (false≢true is)
    tree_so M (waits.Copy path index old new) is = absurd (false≢true is)
    tree_so M waiting is = tt

    -- the copy that a call waits for now is that of the chunk at its place
    copy_so : AllNew N s → (old : ℕ) (view : View) (req : ReqId) (beside : Beside) → IsMade config heard s (Copies old view req beside) → (path : Path) (index source new : ℕ) → source ≡ old → new ≡ s.durable.next_handle
        → MakeSo (Some (record { path = path; index = index; chunk = source })) new (move_turn config s (Copies old view req beside)).sent → GivenBehind (Copies old view req beside) (Some (record { path = path; index = index; chunk = source })) new
    copy_so k old view req beside made path index source new from is told = (
      ap (is_given (move_turn config s (Copies old view req beside)).after.durable.next_handle) is ∙ copies_given old view req beside made,
      (k.fresh _ new (ap (is_given s.durable.next_handle) is ∙ next_ungiven s.durable.next_handle), told),
    )

    from_now : AllNew N s → (old : ℕ) (view : View) (req by : ReqId) (waiting : Waiting) → IsMade config heard s (Copies old view req (FromNow by waiting)) → IsCopyFromNow s by old waiting → OfNew (GivenBehind (Copies old view req (FromNow by waiting))) waiting
    from_now k old view req by (waits.Copy path index source new) made is =
        copy_so k old view req (FromNow by (waits.Copy path index source new)) made path index source new is.0 is.1
        (copied_so (Some (record { path = path; index = index; chunk = source })) new old s.durable.next_handle view.stamp (next_stamp s.durable) (λ same. ap Some is.0) view.members)
    from_now k old view req by waiting made is = absurd is

    further : AllNew N s → (old : ℕ) (view : View) (req by : ReqId) (waiting : Waiting) → IsMade config heard s (Copies old view req (Further by waiting)) → IsCopyFurther s by old waiting → OfNew (GivenBehind (Copies old view req (Further by waiting))) waiting
    further k old view req by (waits.Copy path index source new) made is =
        copy_so k old view req (Further by (waits.Copy path index source new)) made path index source new is.0 is.1
        (copied_so (Some (record { path = path; index = index; chunk = source })) new old s.durable.next_handle view.stamp (next_stamp s.durable) (λ same. ap Some is.0) view.members)
    further k old view req by waiting made is = absurd is

    begun : (move : Move) → IsMadeWell config heard s move → AllNew N s → BegunIn (WaitsSo move) s move
    begun (Begins q purpose call (FromNow req waiting)) well k = begun_so (GivenBehind (Begins q purpose call (FromNow req waiting))) req q waiting well.made.may.begun.1
    begun (Begins q purpose call (Further req waiting)) well k = leased_so (GivenBehind (Begins q purpose call (Further req waiting))) waiting well.made.may.begun
    begun (Makes targets req path) well k = (makes_given targets req path well.made, (k.fresh None s.durable.next_handle (next_ungiven s.durable.next_handle), none_so None s.durable.next_handle _ (no_copies config heard s (Makes targets req path) well refl)))
    begun (Copies old view req (FromNow by waiting)) well k = from_now k old view req by waiting well.made well.made.may.2
    begun (Copies old view req (Further by waiting)) well k = further k old view req by waiting well.made well.made.may.2
    begun (Waits req waiting) well k = tree_so (GivenBehind (Waits req waiting)) waiting well.made.may.1
    begun move well k = tt

    pub move_new : (move : Move) → IsMadeWell config heard s move → AllNew N s → AllNew (Behind move) (move_turn config s move).after
    move_new move well k = record {
      waiting = move_waits (WaitsSo move) config s move (all_in_weaker _ (WaitsSo move) (weaker move well) s.volatile.pending k.waiting) (begun move well k);
      fresh = λ place chunk out. (k.fresh place chunk (before chunk out (is_given s.durable.next_handle chunk) refl), fresh_so place chunk move well out);
    }
      where
        before : (chunk : ℕ) → is_given (move_turn config s move).after.durable.next_handle chunk ≡ false → (b : Bool) → is_given s.durable.next_handle chunk ≡ b → b ≡ false
        before chunk out true is = absurd (false≢true (sym out ∙ stays_given config heard s move chunk well.made is))
        before chunk out false is = refl

    -- ---- its records

    abbrev puts_none : PlainEntry → Bool
    puts_none (Edited by (AddChunk path chunk)) = false
    puts_none (Edited by (Cow path index old new)) = false
    puts_none entry = true

    by_none : (entries : List PlainEntry) → list_all puts_none entries ≡ true → AllByRecursion (OfPut N) entries
    by_none [] all = tt
    by_none (entry ∷ entries) all = (let parts = and_parts (puts_none entry) (list_all puts_none entries) all in (by_entry entry parts.0, by_none entries parts.1))
      where
        by_edit : (by : ReqId) (edit : PlainEdit) → puts_none (Edited by edit) ≡ true → OfPut N (Edited by edit)
        by_edit by (AddChunk path chunk) is = absurd (false≢true is)
        by_edit by (Cow path index old new) is = absurd (false≢true is)
        by_edit by edit is = tt

        by_entry : (entry : PlainEntry) → puts_none entry ≡ true → OfPut N entry
        by_entry (Edited by edit) is = by_edit by edit is
        by_entry entry is = tt

    scan_puts : (removed : List Path) (forgotten : List ℕ) → list_all puts_none (map (Edited own_request) (scan_edits removed forgotten)) ≡ true
    scan_puts [] [] = refl
    scan_puts [] (c ∷ forgotten) = refl
    scan_puts (path ∷ removed) forgotten = scan_puts removed forgotten

    said_puts : (req : ReqId) (refusal : Refusal) → list_all puts_none (said_records (keeps_refusal s req refusal) s.log req refusal) ≡ true
    said_puts req refusal = by_test (keeps_refusal s req refusal && fits s.log (Said req refusal ∷ []))
      where
        by_test : (b : Bool) → list_all puts_none (if b then Said req refusal ∷ [] else []) ≡ true
        by_test true = refl
        by_test false = refl

    settle_puts : (b : Bool) (q : ℕ) (target : Option ℕ) (view : View) → list_all puts_none (holder_records b q target ++ Settle (record { handle = q; view = view }) ∷ []) ≡ true
    settle_puts b q None view = refl
    settle_puts true q (Some target) view = refl
    settle_puts false q (Some target) view = refl

    tree_puts : (edit : PlainEdit) → is_of_tree edit ≡ true → (puts_none (Edited own_request edit) && true) ≡ true
    tree_puts (AddChunk path chunk) tree = absurd (false≢true tree)
    tree_puts (Cow path index old new) tree = absurd (false≢true tree)
    tree_puts edit tree = refl

    none_move : (move : Move) → IsMade config heard s move → is_putting move ≡ false → list_all puts_none (move_turn config s move).records ≡ true
    none_move (Extends req path chunk view) made other = absurd (true≢false other)
    none_move (Replaces path index old new) made other = absurd (true≢false other)
    none_move (Begins q purpose call Alone) made other = refl
    none_move (Begins q purpose call (FromNow req waiting)) made other = refl
    none_move (Begins q purpose call (Further req waiting)) made other = refl
    none_move (Copies old view req Alone) made other = refl
    none_move (Copies old view req (FromNow by waiting)) made other = refl
    none_move (Copies old view req (Further by waiting)) made other = refl
    none_move (Settles q asking carried view) made other = settle_puts (is_holder s.durable.phase (prepared_view s.durable q) carried asking view) q (target_of asking.purpose) view
    none_move (Edits req edit answer) made other = tree_puts edit made.may.tree
    none_move (Scans removed forgotten) made other = scan_puts removed forgotten
    none_move (Refuses req refusal over) made other = said_puts req refusal
    none_move (AnswersCall req answer true) made other = refl
    none_move (AnswersCall req answer false) made other = refl
    none_move move made other = refl

    -- one that puts nothing there
    pub none_put : (move : Move) → IsMade config heard s move → is_putting move ≡ false → AllByRecursion (OfPut N) (move_turn config s move).records
    none_put move made other = by_none (move_turn config s move).records (none_move move made other)

    -- what is put there was waited for so
    pub extend_put : (req : ReqId) (path : Path) (chunk : ℕ) (view : View) → IsMade config heard s (Extends req path chunk view) → AllNew N s → AndGiven s N None chunk
    extend_put req path chunk view made k =
        one_waiting (λ p. OfNew (AndGiven s N) p.waits) (AndGiven s N None chunk) req (waits_to_extend chunk) (λ p same waits_so k. by_waiting p.waits waits_so k) s.volatile.pending made.may.4 k.waiting
      where
        by_waiting : (w : Waiting) → waits_to_extend chunk w ≡ true → OfNew (AndGiven s N) w → AndGiven s N None chunk
        by_waiting (waits.Extend at new) is k = subst ((AndGiven s N) None) (same_number new chunk is) k
        by_waiting w is k = absurd (false≢true is)

    pub replace_put : (path : Path) (index old new : ℕ) → IsMade config heard s (Replaces path index old new) → AllNew N s → (AndGiven s N) (Some (record { path = path; index = index; chunk = old })) new
    replace_put path index old new made k =
        one_waiting (λ p. OfNew (AndGiven s N) p.waits) ((AndGiven s N) (Some (record { path = path; index = index; chunk = old })) new) made.may.3.0 (waits_for_copy path index old new)
        (λ p same waits_so k. subst (OfNew (AndGiven s N)) (is_that path index old new p.waits waits_so) k) s.volatile.pending made.may.3.1 k.waiting

-- ---- chains

so_both : (place : Option Place) (chunk : ℕ) (xs ys : List Message) → MakeSo place chunk xs → MakeSo place chunk ys → MakeSo place chunk (xs ++ ys)
so_both place chunk [] ys a b = b
so_both place chunk (x ∷ xs) ys a b = (a.0, so_both place chunk xs ys a.1 b)

module _ (config : Config) (heard : Heard) where
  pub chain_new : (N : Option Place → ℕ → Type 0) (s : State) (t : Turn) → Chain config (IsMadeWell config heard) s t → AllNew N s → AllNew (λ place chunk. N place chunk × MakeSo place chunk t.sent) t.after
  chain_new N s t (Rests u said) k = all_new_weaker N (λ place chunk. N place chunk × MakeSo place chunk []) (λ place chunk n. (n, tt)) u k
  chain_new N s t (Moves u move said well) k = move_new config heard u N move well k
  chain_new N s t (Then u first next a b) k =
      all_new_weaker (λ place chunk. (N place chunk × MakeSo place chunk first.sent) × MakeSo place chunk next.sent) (λ place chunk. N place chunk × MakeSo place chunk (first.sent ++ next.sent))
      (λ place chunk n. (n.0.0, so_both place chunk first.sent next.sent n.0.1 n.1)) next.after
      (chain_new (λ place chunk. N place chunk × MakeSo place chunk first.sent) first.after next b (chain_new N u first a k))

  -- a handle that is given stays so
  pub chain_given : (chunk : ℕ) (s : State) (t : Turn) → Chain config (IsMadeWell config heard) s t → is_given s.durable.next_handle chunk ≡ true → is_given t.after.durable.next_handle chunk ≡ true
  chain_given chunk s t (Rests u said) given = given
  chain_given chunk s t (Moves u move said well) given = stays_given config heard u move chunk well.made given
  chain_given chunk s t (Then u first next a b) given = chain_given chunk first.after next b (chain_given chunk u first a given)
