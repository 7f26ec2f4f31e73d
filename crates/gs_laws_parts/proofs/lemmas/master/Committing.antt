-- A rollback is committed: the chunk is as it stood at the prepare, on those servers that have named it, or it is forgotten.
use Rattle.std.proofs.Common.{◌≡◌, ◌⊎◌, ◌<◌, ℕ, inl, inr, Bool, true, false, cond, ◌&&◌, ◌||◌, List, [], ◌∷◌, Option, Some, None, refl, sym, ap, subst, ◌∙◌, arith}
use Rattle.std.specs.Prelude.{◌%◌, ◌==◌, filter_map, is_some, nat_eq, nat_lt, option_map, if◌then◌else◌}
use Rattle.std.specs.Cmp.{nat_cmp_total}
use Rattle.std.specs.FinMap as fin
use Rattle.std.specs.List.{AllByRecursion, cons_option}
use Rattle.std.specs.Ordering.{eq_by_cmp, nat_cmp}
use Rattle.std.proofs.lemmas.Bool.{false≢true, true≢false, and_parts}
use Rattle.std.proofs.lemmas.Bool.Decides.{nat_tests}
use Rattle.gs_base.specs.Members.{is_member}
use Rattle.gs_edit.specs.View.{NamesView}
use Rattle.gs_msg.specs.declared.answer.Answer.TheVariants as answers
use Rattle.gs_master_record.specs.Plain.{RollbackCommit}
use Rattle.gs_master_record.specs.declared.checkpoint.Phase.{Phase}
use Rattle.gs_master_record.specs.declared.checkpoint.Phase.TheVariants.{Ordinary, Upgrade, Rolling}
use Rattle.gs_master_record.specs.declared.entry.Answered.{Answered}
use Rattle.gs_master_spec.specs.Applied.{after_undoing, applied, are_answers, is_prepared_on, restored_chunk, restored_view, rolled_back}
use Rattle.gs_master_spec.specs.Chunks.{has_entry, is_any_in}
use Rattle.gs_master_spec.specs.Durable.{Durable, Settled, is_listed, is_ordinary, is_rolling, prepared_view}
use Rattle.gs_master_spec.specs.State.{State}
use Rattle.gs_master_spec.specs.Upgrades.{answers_for, restored_on, told_of}
use Rattle.gs_master_spec.specs.Volatile.{changed}
use Rattle.gs_master_spec.specs.declared.change.Change.TheVariants as changes
use Rattle.gs_master_spec.specs.declared.asking.Prepared.{Prepared}
use Rattle.gs_laws_master.specs.Promises.{IsKept}
use Rattle.gs_laws_master.proofs.lemmas.upgrades.Beginnings.{fits_gives}
use Rattle.gs_laws_master.proofs.lemmas.keeping.KeptViews.{same_key}
use Rattle.gs_laws_moves.proofs.lemmas.moves.Asked.{where_passes}
use Rattle.gs_laws_moves.proofs.lemmas.moves.Right.{one_fits}
use Rattle.gs_laws_moves.specs.moves.Guards.{IsMade}
use Rattle.gs_laws_moves.specs.moves.Moves.{CommitsRollback, move_turn}
use Rattle.gs_laws_chunk.specs.machine.Stamps.{epoch_of, radix, start_of}
use Rattle.gs_laws_chunk.specs.machine.Laws.{IsReached}
use Rattle.gs_laws_chunk.specs.machine.Machine.{Entry, Known, ChunkWorld, WasTold, Learned}
use Rattle.gs_laws_chunk.proofs.lemmas.machine.Facts.{reached_world}
use Rattle.gs_laws_chunk.specs.machine.Events.{Can, CommitsRollback as CommitsIt, Goes, IsFit, Rests, bare, committed, happens, restored_view as restored_as}
use Rattle.gs_laws_parts.proofs.lemmas.master.Marking.{same_epoch}
use Rattle.gs_laws_parts.proofs.lemmas.master.Ending.{answer_both}
use Rattle.gs_laws_parts.proofs.lemmas.master.Fading.{bare_view}
use Rattle.gs_laws_parts.proofs.lemmas.master.Moving.{shown_then}
use Rattle.gs_laws_parts.proofs.lemmas.master.Stamps.{of_member, same_number, start_stamp}
use Rattle.gs_laws_parts.specs.master.Laws.{CommitsFollow}
use Rattle.gs_laws_parts.specs.master.Showing.{IsPast, ShowsDurable, ShowsPrepared, ShowsSettled}
use Rattle.gs_laws_parts.specs.master.Single.{FollowsAs, IsCommitted}
use Rattle.gs_laws_parts.specs.server.Messages.{NamesIt}

-- ---- what is settled then

module _ (d : Durable) (told : ℕ → List ℕ) (chunk : ℕ) where
  -- from its prepared view, if it is listed
  abbrev back_as : Bool → Option Settled
  back_as listed = if listed then option_map (λ (p : Prepared). restored_view d.epoch p (restored_on (prepared_view d chunk) (told chunk))) (prepared_view d chunk) else None

  back_none : (b : Bool) → prepared_view d chunk ≡ None → back_as b ≡ None
  back_none true none = ap (λ (o : Option Prepared). option_map (λ (p : Prepared). restored_view d.epoch p (restored_on (prepared_view d chunk) (told chunk))) o) none
  back_none false none = refl

  all_back : (refs : List (ℕ × ℕ)) → fin.find nat_cmp chunk (filter_map (restored_chunk d) (answers_for (prepared_view d) told refs)) ≡ back_as (is_some (fin.find nat_cmp chunk refs))
  all_back [] = refl
  all_back (e ∷ refs) = by_prepared (all_back refs) (prepared_view d e.0) refl
    where
      members : List ℕ
      members = restored_on (prepared_view d e.0) (told e.0)

      rest : List (ℕ × Settled)
      rest = filter_map (restored_chunk d) (answers_for (prepared_view d) told refs)

      by_prepared : fin.find nat_cmp chunk rest ≡ back_as (is_some (fin.find nat_cmp chunk refs)) → (o : Option Prepared) → prepared_view d e.0 ≡ o
          → fin.find nat_cmp chunk (cons_option (option_map (λ (p : Prepared). (e.0, restored_view d.epoch p members)) o) rest) ≡ back_as (is_some (cond (eq_by_cmp nat_cmp chunk e.0) (Some e.1) (fin.find nat_cmp chunk refs)))
      by_prepared more None none = by_key (eq_by_cmp nat_cmp chunk e.0) refl
        where
          by_key : (b : Bool) → eq_by_cmp nat_cmp chunk e.0 ≡ b → fin.find nat_cmp chunk rest ≡ back_as (is_some (cond b (Some e.1) (fin.find nat_cmp chunk refs)))
          by_key true key =
              let here = ap (prepared_view d) (same_key chunk e.0 key) ∙ none in
              more ∙ back_none (is_some (fin.find nat_cmp chunk refs)) here ∙ sym (back_none true here)
          by_key false key = more
      by_prepared more (Some p) is = by_key (eq_by_cmp nat_cmp chunk e.0) refl
        where
          by_key : (b : Bool) → eq_by_cmp nat_cmp chunk e.0 ≡ b → cond b (Some (restored_view d.epoch p members)) (fin.find nat_cmp chunk rest) ≡ back_as (is_some (cond b (Some e.1) (fin.find nat_cmp chunk refs)))
          by_key true key =
              ap (λ (o : Option Prepared). option_map (λ (q : Prepared). restored_view d.epoch q members) o) (sym is)
              ∙ ap (λ c. option_map (λ (q : Prepared). restored_view d.epoch q (restored_on (prepared_view d c) (told c))) (prepared_view d c)) (sym (same_key chunk e.0 key))
          by_key false key = more

  settled_back : (names : NamesView) → fin.get (rolled_back d (answers_for (prepared_view d) told (fin.entries names.refs)) names).chunks chunk ≡ back_as (is_some (fin.get names.refs chunk))
  settled_back names =
      fin.get-from_entries nat_cmp_total (filter_map (restored_chunk d) (answers_for (prepared_view d) told (fin.entries names.refs))) chunk ∙ all_back (fin.entries names.refs) ∙ ap (λ o. back_as (is_some o)) (sym (fin.get-entries names.refs chunk))

-- ---- what is durable

epoch_start : (epoch : ℕ) → epoch_of (start_of epoch) ≡ epoch
unfolding epoch_of start_of
epoch_start epoch = omega arith

version_start : (epoch : ℕ) → start_of epoch % radix ≡ 0
unfolding start_of
version_start epoch = omega arith

settled_is : {a b : Settled} → ◌≡◌ {A = Option Settled} (Some a) (Some b) → a ≡ b
settled_is h = cc

rolling_stands : (phase : Phase) → is_rolling phase ≡ true → is_ordinary phase ≡ false
rolling_stands Ordinary h = absurd (false≢true h)
rolling_stands Upgrade h = absurd (false≢true h)
rolling_stands Rolling h = refl

module _ (chunk : ℕ) (d : Durable) (e : Entry) (k : ShowsDurable chunk d e) (told : ℕ → List ℕ) (names : NamesView) where
  abbrev next : Durable
  next = rolled_back d (answers_for (prepared_view d) told (fin.entries names.refs)) names

  past : IsPast next (start_of e.epoch)
  past = record { epoch = (let a = epoch_start e.epoch in let b = k.epoch in omega arith); given = inl (version_start e.epoch) }

  no_view : (p : Prepared) → prepared_view next chunk ≡ Some p → {Z : Type 0} → Z
  no_view p is = absurd (false≢true (sym (ap is_some (bare_view chunk next refl)) ∙ ap is_some is))

  -- a chunk that was listed at the prepare
  back_shows : (p : Prepared) → prepared_view d chunk ≡ Some p → ShowsPrepared p e → is_some (fin.get names.refs chunk) ≡ true → ShowsDurable chunk next (committed e true (restored_as e (restored_on (prepared_view d chunk) (told chunk))))
  back_shows p is shown there = record {
    epoch = k.epoch;
    how = k.how;
    upgrade = λ up. absurd (false≢true up);
    rolling = refl;
    given = k.given;
    counter = k.counter;
    behind = omega arith;
    past = past;
    settled = λ x has. subst (λ z. ShowsSettled z (committed e true (restored_as e (restored_on (prepared_view d chunk) (told chunk))))) (settled_is (sym got ∙ has)) (record {
      view = record { stamp = sym (start_stamp e.epoch ∙ ap (λ n. record { epoch = n; version = 0 }) k.epoch); members = refl; count = shown.view.count; holder = refl };
      moving = λ m. absurd (false≢true m);
      still = λ m. refl;
    });
    bare = λ known none. absurd (false≢true (sym (ap is_some none) ∙ ap is_some got));
    listed = λ listed. refl;
    was = λ q has. no_view q has;
    prepared = λ q has. no_view q has;
    restores = λ names stands. absurd (true≢false stands);
  }
    where
      got : fin.get next.chunks chunk ≡ Some (restored_view d.epoch p (restored_on (prepared_view d chunk) (told chunk)))
      got = settled_back d told chunk names ∙ ap (back_as d told chunk) there ∙ ap (λ (o : Option Prepared). option_map (λ (q : Prepared). restored_view d.epoch q (restored_on (prepared_view d chunk) (told chunk))) o) is

  -- any other
  out_shows : is_some (fin.get names.refs chunk) ≡ false → ShowsDurable chunk next (committed e false (bare (start_of e.epoch)))
  out_shows out = record {
    epoch = k.epoch;
    how = k.how;
    upgrade = λ up. absurd (false≢true up);
    rolling = refl;
    given = k.given;
    counter = k.counter;
    behind = omega arith;
    past = past;
    settled = λ x has. absurd (false≢true (sym (ap is_some (settled_back d told chunk names ∙ ap (back_as d told chunk) out)) ∙ ap is_some has));
    bare = λ known none. absurd (false≢true known);
    listed = λ listed. absurd (false≢true (sym out ∙ listed));
    was = λ q has. no_view q has;
    prepared = λ q has. no_view q has;
    restores = λ names stands. absurd (true≢false stands);
  }

-- ---- who has named it

named_in : (chunk : ℕ) (w : ChunkWorld) (from epoch : ℕ) (handles : List ℕ) → AllByRecursion (NamesIt chunk w from epoch) handles → is_member handles chunk ≡ true → WasTold w from (Learned epoch)
named_in chunk w from epoch [] all here = absurd (false≢true here)
named_in chunk w from epoch (h ∷ handles) all here = by_head (named_in chunk w from epoch handles all.1) (h == chunk) refl here
  where
    by_head : (is_member handles chunk ≡ true → WasTold w from (Learned epoch)) → (b : Bool) → (h == chunk) ≡ b → (b || is_member handles chunk) ≡ true → WasTold w from (Learned epoch)
    by_head rest true same k = all.0 (same_number h chunk same)
    by_head rest false other k = rest k

fit_on : (p : Prepared) (e : Entry) (j : ℕ) → ShowsPrepared p e → is_prepared_on p j ≡ true → IsFit e j
fit_on p e j shown on = by_part (is_member p.view.members j) (is_member p.holders j) refl refl on
  where
    by_part : (a b : Bool) → is_member p.view.members j ≡ a → is_member p.holders j ≡ b → (a || b) ≡ true → IsFit e j
    by_part true b first second h = inl (of_member e.prepared.members j ∙ ap (λ ms. is_member ms j) shown.view.members ∙ first)
    by_part false true first second h = inr (shown.holders j second)
    by_part false false first second h = absurd (false≢true h)

-- ---- its view

-- one that was proposed is none that was settled
top_stands : (w : ChunkWorld) → IsReached w → (w.known.view ≡ w.known.top) ⊎ (w.known.stood w.known.top ≡ false)
top_stands w reached = by_test (nat_lt w.known.view w.known.top) refl
  where
    by_test : (b : Bool) → nat_lt w.known.view w.known.top ≡ b → (w.known.view ≡ w.known.top) ⊎ (w.known.stood w.known.top ≡ false)
    by_test true less = inr (((reached_world w reached).known).fresh w.known.top (grind (arith, nat_tests))).3
    by_test false least = inl (let most = ((reached_world w reached).known).viewtop in grind (arith, nat_tests))

module _ (chunk : ℕ) (u : State) (w : ChunkWorld) where
  is_committed : (members : List ℕ) (keeps : Bool) → IsReached w → w.entry.is_rolling ≡ true → keeps ≡ is_some (fin.get u.durable.chunks chunk) → IsCommitted chunk u w (happens w (CommitsIt members keeps))
  is_committed members keeps reached rolling row = by_kept keeps row
    where
      start : ℕ
      start = start_of w.known.current

      below : w.known.top < start
      below = let r = ((reached_world w reached).entry).rolling rolling in subst (λ n. w.known.top < start_of n) (sym r.next) r.below

      other : (a b : ℕ) → a < b → nat_eq a b ≡ false
      other a b less = grind (arith, nat_tests)

      itself : (n : ℕ) → nat_eq n n ≡ true
      itself n = grind (arith, nat_tests)

      back : (b : Bool) → (w.known.view ≡ w.known.top) ⊎ (w.known.stood w.known.top ≡ false) → (w.known.view ≡ w.known.top) ⊎ (cond (nat_eq w.known.top start) b (w.known.stood w.known.top) ≡ false)
      back b (inl same) = inl same
      back b (inr out) = inr (ap (λ t. cond t b (w.known.stood w.known.top)) (other w.known.top start below) ∙ out)

      by_kept : (b : Bool) → b ≡ is_some (fin.get u.durable.chunks chunk) → IsCommitted chunk u w (happens w (CommitsIt members b))
      by_kept true row = record { back = back true (top_stands w reached); given = ap (λ t. cond t true (w.known.stood start)) (itself start); fades = λ out. absurd (true≢false out); row = row }
      by_kept false row = record { back = back false (top_stands w reached); given = ap (λ t. cond t false (w.known.stood start)) (itself start); fades = λ out. refl; row = row }

  -- so it is behind messages
  committed_on : (v x : ChunkWorld) → x.entry ≡ v.entry → x.known ≡ v.known → IsCommitted chunk u w v → IsCommitted chunk u w x
  committed_on v x entry known c = record {
    back = subst (λ (n : Known). (w.known.view ≡ w.known.top) ⊎ (n.stood w.known.top ≡ false)) (sym known) c.back;
    given = ap (λ (n : Known). n.stood n.view) known ∙ c.given ∙ sym (ap (λ (e : Entry). e.is_known) entry);
    fades = subst (λ (e : Entry). e.is_known ≡ false → e.view.holder ≡ None) (sym entry) c.fades;
    row = ap (λ (e : Entry). e.is_known) entry ∙ c.row;
  }

-- ---- the move

pub commits_follow : CommitsFollow
unfolding applied
commits_follow born chunk whole config heard s req names w k was well = by_there (is_some (fin.get names.refs chunk)) refl (prepared_view s.durable chunk) refl
  where
    made : IsMade config heard s (CommitsRollback req names)
    made = well.made

    kept : IsKept s.durable
    kept = well.before

    u : State
    u = (move_turn config s (CommitsRollback req names)).after

    told : ℕ → List ℕ
    told = told_of s

    list : List Answered
    list = answers_for (prepared_view s.durable) told (fin.entries names.refs)

    stands : is_ordinary s.durable.phase ≡ false
    stands = rolling_stands s.durable.phase made.may.rolling

    gives : rolled_back s.durable list names ≡ u.durable
    gives =
        (fits_gives (is_rolling s.durable.phase && ((s.durable.epoch == s.durable.epoch) && are_answers (prepared_view s.durable) (fin.entries names.refs) list)) (rolled_back s.durable list names) u.durable
        (ap (after_undoing s.durable s.durable.epoch list) (sym made.may.back) ∙ one_fits s.durable u.durable (RollbackCommit (s.durable.epoch) list) made.fits)).1

    both : (u.volatile.moving ≡ (changed s.volatile changes.RolledBack).moving) × (u.volatile.unplaced ≡ (changed s.volatile changes.RolledBack).unplaced)
    both = answer_both chunk s (changed s.volatile changes.RolledBack) req (answers.Epoch (s.durable.epoch))

    none_asked : fin.get u.volatile.moving chunk ≡ None
    none_asked = ap (λ m. fin.get m chunk) both.0 ∙ fin.get-empty nat_cmp chunk

    entry : has_entry u chunk ≡ is_some (fin.get names.refs chunk)
    entry = ap (λ xs. is_listed u.durable chunk || is_member xs chunk) both.1 ∙ or_none (is_listed u.durable chunk) ∙ ap (λ (x : Durable). is_listed x chunk) (sym gives)
      where
        or_none : (b : Bool) → (b || false) ≡ b
        or_none true = refl
        or_none false = refl

    As : ChunkWorld → Type 0
    As v = IsReached w → IsCommitted chunk u w v

    commits_as : (members : List ℕ) (keeps : Bool) → keeps ≡ is_some (fin.get u.durable.chunks chunk) → (x : ChunkWorld) → x.entry ≡ (happens w (CommitsIt members keeps)).entry → x.known ≡ (happens w (CommitsIt members keeps)).known → As x
    commits_as members keeps row x same known reached = committed_on chunk u w (happens w (CommitsIt members keeps)) x same known (is_committed chunk u w members keeps reached (k.entry.durable.rolling ∙ made.may.rolling) row)

    -- its row
    row_back : (b : Bool) → is_some (fin.get names.refs chunk) ≡ b → fin.get u.durable.chunks chunk ≡ back_as s.durable told chunk b
    row_back b there = ap (λ (x : Durable). fin.get x.chunks chunk) (sym gives) ∙ settled_back s.durable told chunk names ∙ ap (back_as s.durable told chunk) there

    back_some : (p : Prepared) → prepared_view s.durable chunk ≡ Some p → is_some (back_as s.durable told chunk true) ≡ true
    back_some p is = ap is_some (ap (λ (o : Option Prepared). option_map (λ (q : Prepared). restored_view s.durable.epoch q (restored_on (prepared_view s.durable chunk) (told chunk))) o) is)

    is_settled : is_some (fin.get names.refs chunk) ≡ true → is_some (prepared_view s.durable chunk) ≡ true
    is_settled there = kept.restored names chunk made.may.back stands there

    may_restore : (p : Prepared) → prepared_view s.durable chunk ≡ Some p → is_some (fin.get names.refs chunk) ≡ true → Can w (CommitsIt (restored_on (prepared_view s.durable chunk) (told chunk)) true)
    may_restore p is there = (
      k.entry.durable.rolling ∙ made.may.rolling,
      λ keeps. (
        known,
        λ j on.
            (let passes = and_parts (is_member (told chunk) j) (is_prepared_on p j) (where_passes (λ server. is_member (told chunk) server && is_prepared_on p server) j (ap (λ o. is_member (restored_on o (told chunk)) j) (sym is) ∙ sym (of_member (restored_on (prepared_view s.durable chunk) (told chunk)) j) ∙ on)) in
            let named = k.said.restored j passes.0 in
            (fit_on p w.entry j (k.entry.durable.prepared p is known) passes.1, subst (λ n. WasTold w j (Learned n)) (sym k.entry.durable.epoch) (named_in chunk w j s.durable.epoch named.handles named.said named.named))),
      ),
    )
      where
        known : w.entry.was_known ≡ true
        known = k.entry.durable.restores names stands made.may.back there

    by_there : (b : Bool) → is_some (fin.get names.refs chunk) ≡ b → (o : Option Prepared) → prepared_view s.durable chunk ≡ o → FollowsAs born chunk whole w u (move_turn config s (CommitsRollback req names)).sent As
    by_there true there None none = absurd (false≢true (sym (ap is_some none) ∙ is_settled there))
    by_there true there (Some p) is =
        let members = restored_on (prepared_view s.durable chunk) (told chunk) in
        let v = happens w (CommitsIt members true) in
        shown_then born chunk whole config heard s (CommitsRollback req names) w v k was made refl (Goes w (CommitsIt members true) Rests (may_restore p is there)) (tt, refl) (λ j. inl refl) (same_epoch whole w v refl) (λ x here. here)
        (record {
          durable = subst (λ n. ShowsDurable chunk n v.entry) gives (back_shows chunk s.durable w.entry k.entry.durable told names p is (k.entry.durable.prepared p is (k.entry.durable.restores names stands made.may.back there)) there);
          memory = record {
            known = sym (entry ∙ there);
            asked = λ j. sym (ap (is_any_in j) none_asked);
            asking = λ a has. absurd (false≢true (sym (ap is_some none_asked) ∙ ap is_some has));
            sought = λ entered none. absurd (false≢true (sym (ap is_some none) ∙ ap is_some (row_back true there) ∙ back_some p is));
          };
        })
        As (commits_as members true (sym (ap is_some (row_back true there) ∙ back_some p is)))
    by_there false out o is =
        let v = happens w (CommitsIt [] false) in
        shown_then born chunk whole config heard s (CommitsRollback req names) w v k was made refl (Goes w (CommitsIt [] false) Rests (k.entry.durable.rolling ∙ made.may.rolling, λ keeps. absurd (false≢true keeps))) (tt, refl) (λ j. inl refl) (same_epoch whole w v refl) (λ x here. here)
        (record {
          durable = subst (λ n. ShowsDurable chunk n v.entry) gives (out_shows chunk s.durable w.entry k.entry.durable told names out);
          memory = record {
            known = sym (entry ∙ out);
            asked = λ j. sym (ap (is_any_in j) none_asked);
            asking = λ a has. absurd (false≢true (sym (ap is_some none_asked) ∙ ap is_some has));
            sought = λ entered none. absurd (false≢true (sym (entry ∙ out) ∙ entered));
          };
        })
        As (commits_as [] false (sym (ap is_some (row_back false out))))
