-- What is settled of a chunk that no file has yet.
use Rattle.std.proofs.Common.{◌≡◌, ◌∙◌, ◌<◌, ◌≤◌, ◌++◌, inl, inr, ℕ, zero, suc, Bool, true, false, List, [], ◌∷◌, length, take, drop, append-nil, refl, sym, ap, subst, arith}
use Rattle.std.specs.Prelude.{◌&&◌, is_some, map, not, if◌then◌else◌, Option, Some, None}
use Rattle.std.specs.List.{AllByRecursion}
use Rattle.std.proofs.lemmas.Bool.{false≢true, true≢false}
use Rattle.std.specs.FinMap as fin
use Rattle.std.specs.Ordering.{nat_cmp}
use Rattle.gs_base.specs.declared.numbers.Stamp.{Stamp}
use Rattle.gs_laws_chunk.proofs.lemmas.machine.Lists.{nil_list}
use Rattle.gs_laws_chunk.proofs.lemmas.machine.Mastering.{masters_settle_once}
use Rattle.gs_laws_chunk.specs.machine.Events.{Rests}
use Rattle.gs_laws_chunk.specs.machine.Laws.{Birth, world_of}
use Rattle.gs_laws_chunk.specs.machine.Mastering.{SettlesOnce}
use Rattle.gs_journal.specs.Records.{standing}
use Rattle.gs_lease.specs.declared.view.View.{View}
use Rattle.gs_base.specs.declared.config.Config.{Config}
use Rattle.gs_journal.specs.declared.version.Version.TheVariants.{Two}
use Rattle.gs_laws_master.specs.Reached.{GoWithin}
use Rattle.gs_laws_moves.proofs.lemmas.moves.Right.{one_fits}
use Rattle.gs_master_record.specs.Writable.{IsEntry}
use Rattle.gs_master_record.specs.declared.checkpoint.Phase.{Phase}
use Rattle.gs_master_record.specs.declared.checkpoint.Phase.TheVariants.{Ordinary, Rolling, Upgrade}
use Rattle.gs_laws_server.specs.servers.Following.{lengthened}
use Rattle.gs_laws_parts.proofs.lemmas.server.Stamps.{is_itself}
use Rattle.gs_laws_moves.proofs.lemmas.moves.Asked.{scan_usual}
use Rattle.gs_laws_moves.proofs.lemmas.moves.Fitting.{chain_leaves, mapped, once_chain}
use Rattle.gs_laws_moves.proofs.lemmas.moves.Leaving.{leaves_view}
use Rattle.gs_laws_moves.proofs.lemmas.moves.Stands.{once_stands}
use Rattle.gs_laws_moves.specs.moves.Epochs.{ByItself, Closes, EndsOnce, Within, closes, is_alone, rolls_back}
use Rattle.gs_laws_moves.specs.moves.Guards.{Heard, IsMade}
use Rattle.gs_laws_moves.specs.moves.Laws.{IsMadeWell}
use Rattle.gs_laws_moves.specs.moves.Moves.{CommitsRollback, Finalizes, Move, Moves as MovesOf, Prepares, move_turn}
use Rattle.gs_laws_master.specs.Promises.{IsKept}
use Rattle.gs_master_record.specs.Plain.{Edited, PlainEntry}
use Rattle.gs_master_spec.specs.Settling.{own_request}
use Rattle.gs_master_spec.specs.Working.{scan_edits}
use Rattle.gs_msg.specs.declared.event.DiskId.{DiskId}
use Rattle.gs_laws_moves.specs.moves.Shared.{HasNoTerm}
use Rattle.gs_master_spec.specs.Applied.{replayed, view_in}
use Rattle.gs_master_spec.specs.Durable.{Durable, Settled, is_listed, is_ordinary, is_rolling, start}
use Rattle.gs_master_spec.specs.State.{State, Turn}
use Rattle.gs_laws_moves.proofs.lemmas.upgrades.Records.{Goes, Paced, Turns as Bounds, chain_within, is_bound, paced}
use Rattle.gs_msg.specs.declared.message.Message.{Message}
use Rattle.gs_nodes.specs.declared.place.MasterPlace.{MasterPlace}
use Rattle.gs_nodes.specs.declared.place.MasterPlace.TheVariants.{Away, Closed, Standing}
use Rattle.gs_replica.specs.Stands.{Edit}
use Rattle.gs_laws_world.proofs.lemmas.lasting.Lasting.{begins_firm}
use Rattle.gs_world.proofs.Reaching.{HaveSizes}
use Rattle.gs_world.specs.Histories.{History}
use Rattle.gs_laws_world.specs.lasting.Lasting.{IsToldIn, Lasts, OpensAs}
use Rattle.gs_world.specs.Runs.{Step}
use Rattle.gs_world.specs.Sent.{Sent}
use Rattle.gs_laws_chunks.proofs.lemmas.accounts.Durables.{told_is_had}
use Rattle.gs_laws_chunks.proofs.lemmas.accounts.Edits.{AreNumbered}
use Rattle.gs_laws_chunks.proofs.lemmas.accounts.Holding.{copies_inherit, reach_more}
use Rattle.gs_laws_chunks.proofs.lemmas.accounts.Once.{told_once}
use Rattle.gs_laws_chunks.proofs.lemmas.accounts.Origins.{copied_same}
use Rattle.gs_laws_chunks.proofs.lemmas.accounts.Runs.{blank_of, living_told, seen_of}
use Rattle.gs_laws_chunks.specs.accounts.Accounts.{Account, settled_count, settled_edits, settled_in, view_at}
use Rattle.gs_laws_chunks.specs.accounts.Moving.{begun, continued, edit_under, edits_of, is_under, list_behind, numbered}
use Rattle.gs_laws_chunks.specs.accounts.Running.{IsArmed, IsGiven, IsNew, IsReached, Moves, Runs, Setup}
use Rattle.gs_laws_lift.proofs.lemmas.stores.Beginning.{begins_told}
use Rattle.gs_laws_lift.specs.stores.Accounts.{edits_copied}
use Rattle.gs_laws_lift.specs.stores.Copying.{copied_from}
use Rattle.gs_laws_lift.specs.stores.Doing.{Arms, HasDurable, MasterDoes, Moves as MovesAt, Refuses, Starts, Waits}
use Rattle.gs_laws_lift.specs.stores.Going.{heard_in}
use Rattle.gs_laws_lift.specs.stores.Living.{ComesAlive, GoesOn}
use Rattle.gs_laws_lift.specs.stores.Showing.{IsAlive, Life}
use Rattle.gs_laws_lift.specs.stores.Unborn.{IsUnborn}
use Rattle.gs_laws_runs.proofs.lemmas.plain.Beginning.{opens_as_start}
use Rattle.gs_laws_runs.proofs.lemmas.plain.Onward.{asked, bytes, had, has, kept_before, kept_behind, next, no_more, none_new, sees, behind as sees_behind}
use Rattle.gs_laws_runs.proofs.lemmas.plain.Shapes.{finalize_ends, go_taken, none_is_back, prepare_begins, same_phase_over}
use Rattle.gs_laws_runs.proofs.lemmas.plain.Cut.{CutLeaves, Leads, Scanned, cut_leaves, taken, taken_all, tested}
use Rattle.gs_laws_runs.proofs.lemmas.plain.Unleased.{left_over, still_armed}
use Rattle.gs_laws_runs.proofs.lemmas.plain.Unlisted.{IsUnledUnlisted, chain_unled, commit_lists, linked_unled, part_out, part_unled, turn_out}
use Rattle.gs_laws_runs.proofs.lemmas.plain.Writing.{Keeps, Turns, Writes, writes}
use Rattle.gs_laws_chunks.proofs.lemmas.accounts.SeeingThrough.{reached_well}
use Rattle.gs_laws_chunks.proofs.lemmas.accounts.Well.{armed_left, begins_well, left_so}
use Rattle.gs_laws_lift.specs.stores.Left.{Arranges, Cuts, Does as DoesSo, Keeps as KeepsSo, MasterDoesAll, as_left, left_in}
use Rattle.gs_laws_runs.specs.plain.Fresh.{AddedAreAsMade, NewAreAsMade}
use Rattle.gs_laws_runs.specs.plain.Settling.{newly_settled}
use Rattle.gs_laws_runs.specs.plain.Written.{records_at}

-- ---- none has a lease

module _ {D : Type 0} (x : Setup D) (chunk : ℕ) where
  -- of what is durable where the master is
  abbrev IsUnledAt : MasterPlace D → Type 0
  IsUnledAt place = (d : Durable) → HasDurable x.seen place d → IsUnledUnlisted chunk d

  unled_turn : (config : Config) (heard : Heard) (s : State) (t : Turn) → EndsOnce config (IsMadeWell config heard) s t → IsUnledUnlisted chunk s.durable → IsUnledUnlisted chunk t.after.durable
  unled_turn config heard s t turn k =
      chain_unled chunk config heard s t (mapped config (IsMadeWell config heard) (IsMade config heard) (λ u move made. made.made) s t (once_chain config (IsMadeWell config heard) s t turn)) k

  stands_after : (place : MasterPlace D) (m : _) (d e : Durable) → place ≡ Standing m → HasDurable x.seen place d → m.state.durable ≡ d
  stands_after place m d e is has = subst (λ p. HasDurable x.seen p d) is has

  pub armed_had : (place other : MasterPlace D) → IsArmed x.seen place other → (d : Durable) → HasDurable x.seen other d → HasDurable x.seen place d
  armed_had (Standing m) other (j, to, alike) d has = subst (λ p. HasDurable x.seen p d) to has
  armed_had (Closed first second) other (one, two, to, same, alike) d has =
      subst (λ t. IsToldIn t d) (ap (λ s. standing s (x.seen two)) same ∙ ap (standing (x.seen first)) alike) (subst (λ p. HasDurable x.seen p d) to has)
  armed_had Away other to d has = subst (λ p. HasDurable x.seen p d) to has

  unled_does : (armed : DiskId → ℕ → MasterPlace D → MasterPlace D) → ((disk : DiskId) (call : ℕ) (place : MasterPlace D) → IsArmed x.seen place (armed disk call place)) → (sent : Sent) (old new : MasterPlace D) (messages : List Message) → MasterDoes x.seen armed sent old new messages → IsUnledAt old → IsUnledAt new
  unled_does armed arming sent old new messages (MovesAt m after heard t at to was turn state sends) k d has =
      subst (IsUnledUnlisted chunk) (sym (ap (λ (s : State). s.durable) state) ∙ subst (λ p. HasDurable x.seen p d) to has)
      (unled_turn m.config heard m.state t turn (k m.state.durable (subst (λ p. HasDurable x.seen p m.state.durable) (sym at) refl)))
  unled_does armed arming sent old new messages (Starts config d log after t had kept counters to turn state sends) k e has =
      subst (IsUnledUnlisted chunk) (sym (ap (λ (s : State). s.durable) state) ∙ subst (λ p. HasDurable x.seen p e) to has) (unled_turn config _ _ t turn (k d had))
  unled_does armed arming sent old new messages (Waits d first second had kept counters to told sends) k e has =
      subst (IsUnledUnlisted chunk) (told_once (standing (x.seen first) (x.seen second)) d e told (subst (λ p. HasDurable x.seen p e) to has)) (k d had)
  unled_does armed arming sent old new messages (Refuses caller same sends) k d has = k d (subst (λ p. HasDurable x.seen p d) same has)
  unled_does armed arming sent old new messages (Arms disk call is sends) k d has = k d (armed_had old (armed disk call old) (arming disk call old) d (subst (λ p. HasDurable x.seen p d) is has))

  -- and so it is of what stands of a turn that is cut
  unled_cut : (config : Config) (heard : Heard) (s : State) (records : List PlainEntry) (d : Durable) → CutLeaves config heard s records d → IsUnledUnlisted chunk s.durable → IsUnledUnlisted chunk d
  unled_cut config heard s records d (Leads t more turn are silent fits links) k = linked_unled chunk t.after.durable d (links.rows chunk) links.names (unled_turn config heard s t turn k)
  unled_cut config heard s records d (Scanned removed forgotten many well are fit) k =
      let entries = map (Edited own_request) (scan_edits removed forgotten) in
      part_unled chunk (take many entries) s.durable d (tested (leaves_view chunk) many entries (scan_usual chunk own_request (scan_edits removed forgotten))) (ap (replayed s.durable) (sym are) ∙ fit) k

  unled_left : IsGiven x → (sent : Sent) (old new : MasterPlace D) (messages : List Message) → Lasts x.seen (as_left old) → MasterDoesAll x.seen x.armed sent old new messages → IsUnledAt (as_left old) → IsUnledAt (as_left new)
  unled_left given sent old new messages lasts (DoesSo sound does) k d has = unled_does (λ disk call place. place) (λ disk call place. still_armed x.seen place) sent (as_left old) (as_left new) messages does k d has
  unled_left given sent old new messages lasts (Cuts m after heard caller t place many said d first second at there was turn cut least within stand master kept counters told) k e has =
      subst (IsUnledUnlisted chunk) (told_once (standing (x.seen first) (x.seen second)) d e told (subst (λ p. HasDurable x.seen p e) master has))
      (unled_cut m.config heard m.state (take many t.records) d (cut_leaves m.config heard m.state t many d turn within stand) (k m.state.durable (subst (λ p. HasDurable x.seen p m.state.durable) (sym at) refl)))
  unled_left given sent old new messages lasts (KeepsSo m after heard caller at there failed still same was answers) k d has = k d (subst (λ p. HasDurable x.seen p d) same has)
  unled_left given sent old new messages lasts (Arranges disk call is none) k d has =
      k d (armed_had (as_left old) (as_left (x.armed disk call old)) (armed_left x.seen old (x.armed disk call old) (given.armed disk call old)) d (subst (λ p. HasDurable x.seen (as_left p) d) is has))

  unled_first : (place : MasterPlace D) → OpensAs x.seen start place → IsUnledAt place
  unled_first place (after, is, state, firm) d has =
      subst (IsUnledUnlisted chunk) (sym (ap (λ (s : State). s.durable) state) ∙ subst (λ p. HasDurable x.seen p d) is has) (λ out. record { term = λ y there. absurd (false≢true (sym (ap is_some (fin.get-empty nat_cmp chunk)) ∙ ap is_some there)) })

  pub unled_there : (now : History D) (a : Account) → IsReached x now a → HasDurable x.seen (as_left now.nodes.master) a.durable → is_listed a.durable chunk ≡ false → HasNoTerm a.durable chunk
  unled_there now a r has =
      let given = r.begins.given in
      left_over x IsUnledAt given (unled_left given) r.steps r.begun now r.first a r.runs (begins_well x given r.begun r.begins.begins)
      (subst IsUnledAt (sym (left_so x.seen r.begun.nodes.master (begins_firm x.seen x.failures x.armed x.config x.clients x.disks r.begun given.new r.begins.begins)))
      (unled_first r.begun.nodes.master (begins_told x.seen x.failures x.armed x.config x.clients x.disks r.begun given.new r.begins.begins))) a.durable has

-- ---- lists

take_no_more : (n : ℕ) (xs : List Edit) → length (take n xs) ≤ length xs
take_no_more zero xs = omega arith
take_no_more (suc n) [] = omega arith
take_no_more (suc n) (x ∷ xs) = (let rest = take_no_more n xs in omega arith)

-- edits that begin with some, and aren't more, are these
just_these : (xs ys : List Edit) → take (length ys) xs ≡ ys → length xs ≤ length ys → xs ≡ ys
just_these xs [] begins short = nil_list xs (omega arith)
just_these [] (y ∷ ys) begins short = begins
just_these (x ∷ xs) (y ∷ ys) begins short = same_head begins (λ rest. just_these xs ys rest (omega arith))
  where
    same_head : x ∷ take (length ys) xs ≡ y ∷ ys → (take (length ys) xs ≡ ys → xs ≡ ys) → x ∷ xs ≡ y ∷ ys
    same_head h rest = (let tail : take (length ys) xs ≡ ys = cc in let head : x ≡ y = cc in ap (λ e. e ∷ xs) head ∙ ap (λ es. y ∷ es) (rest tail))

row_of : (o : Option Settled) (view : View) → view_in o ≡ Some view → (y : Settled) × (o ≡ Some y) × (y.view ≡ view)
row_of None view is = absurd (cc)
row_of (Some y) view is = (y, refl, cc)

has_row : (o : Option Settled) (view : View) → view_in o ≡ Some view → is_some o ≡ true
has_row None view is = absurd (cc)
has_row (Some y) view is = refl

copied_edits : (a : Account) (o : Option (ℕ × Stamp)) → edits_of a o ≡ edits_copied a.list o
copied_edits a None = refl
copied_edits a (Some source) = refl

-- a first view
first_begun : (a : Account) (sent : Sent) (d : Durable) (found : Option (Stamp × Edit)) (chunk : ℕ) (view : View) → view_at a chunk ≡ None → rolls_back a.durable d ≡ false → list_behind a sent d found chunk view.stamp (Some view) ≡ take view.count (edits_of a (copied_from sent chunk))
first_begun a sent d found chunk view none goes_on =
    let others = lengthened (a.list chunk view.stamp) (edit_under view.stamp found) in
    ap (λ q. if q && not (is_under view.stamp (view_at a chunk)) then begun a sent d chunk view else others) (is_itself view.stamp)
    ∙ ap (λ o. if not (is_under view.stamp o) then begun a sent d chunk view else others) none
    ∙ ap (λ q. if q then a.before chunk else take view.count (continued a sent chunk (view_at a chunk))) goes_on ∙ ap (λ o. take view.count (continued a sent chunk o)) none

pub never_back : (phase : Phase) → (is_rolling phase && is_ordinary phase) ≡ false
never_back Ordinary = refl
never_back Upgrade = refl
never_back Rolling = refl

-- ---- a step

module _ (sizes : HaveSizes) (law : AreNumbered) {D : Type 0} (x : Setup D) (step : Step) (old new : History D) (a b : Account) (r : IsReached x old a) (moves : Moves x step old a new b) (chunk : ℕ) where
  -- what the master writes
  written : Writes (records_at step old) old.nodes.master new.nodes.master a.durable b.durable
  written = writes x r.begins.given step old new a.durable b.durable (reached_well x old a r) moves.steps (had sizes law x step old new a b r moves) (has sizes law x step old new a b r moves)

  once_made : (config : Config) (heard : Heard) (s : State) (t : Turn) → EndsOnce config (IsMadeWell config heard) s t → EndsOnce config (IsMade config heard) s t
  once_made config heard s t (Within u v chain) =
      Within u v (mapped config (λ u move. IsMadeWell config heard u move × (is_alone move ≡ false)) (λ u move. IsMade config heard u move × (is_alone move ≡ false)) (λ u move both. (both.0.made, both.1)) u v chain)
  once_made config heard s t (ByItself u move said well alone) = ByItself u move said well.made alone
  once_made config heard s t (Closes u move said next well is chain) =
      Closes u move said next well.made is (mapped config (λ u move. IsMadeWell config heard u move × (closes move ≡ true)) (λ u move. IsMade config heard u move × (closes move ≡ true)) (λ u move both. (both.0.made, both.1)) (move_turn config u move).after next chain)

  -- a chunk in no file that is settled behind the step was in none
  out_before : is_listed b.durable chunk ≡ false → is_some (fin.get b.durable.chunks chunk) ≡ true → is_listed a.durable chunk ≡ false
  out_before out some = by_writes written
    where
      by_cut : (config : Config) (heard : Heard) (s : State) (records : List PlainEntry) → CutLeaves config heard s records b.durable → is_listed s.durable chunk ≡ false
      by_cut config heard s records (Leads t more turn are silent fits links) =
          turn_out chunk config heard s t (once_made config heard s t turn) (sym (links.listed chunk) ∙ out) (ap is_some (sym (links.rows chunk)) ∙ some)
      by_cut config heard s records (Scanned removed forgotten many well are fit) =
          let entries = map (Edited own_request) (scan_edits removed forgotten) in
          (part_out chunk (take many entries) s.durable b.durable (tested (leaves_view chunk) many entries (scan_usual chunk own_request (scan_edits removed forgotten))) (ap (replayed s.durable) (sym are) ∙ fit) out some).0

      by_writes : Writes (records_at step old) old.nodes.master new.nodes.master a.durable b.durable → is_listed a.durable chunk ≡ false
      by_writes (Keeps same) = ap (λ (d : Durable). is_listed d chunk) (sym same) ∙ out
      by_writes (Turns m heard t many all left first turn fits low stand are but whole) =
          let well = once_stands m.config heard m.state t turn fits (subst IsKept (sym first) (kept_before sizes law x step old new a b r moves)) in
          ap (λ (d : Durable). is_listed d chunk) (sym first)
          ∙ by_cut m.config heard m.state (take many t.records) (cut_leaves m.config heard m.state t many b.durable well.turn low (ap (λ d. replayed d (take many t.records)) first ∙ stand))

  -- in its view nobody may number
  unled_view : (view : View) → view_at a chunk ≡ Some view → is_listed a.durable chunk ≡ false → view.term ≡ None
  unled_view view told out =
      let row = row_of (fin.get a.durable.chunks chunk) view told in
      ap (λ (v : View). v.term) (sym row.2) ∙ (unled_there x chunk old a r (had sizes law x step old new a b r moves) out).term row.0 row.1

  -- one of which a view is told behind it lives then
  module _ (later : View) (told_then : view_at b chunk ≡ Some later) (goes_on : rolls_back a.durable b.durable ≡ false) where
    living : (m : IsAlive x.seen x.config (bytes sizes law x step old new a b r moves) chunk (left_in new)) × ((next sizes law x step old new a b r moves).goes.last.life chunk ≡ inr m)
    living = living_told x (asked sizes law x step old new a b r moves) (left_in new) b (sees_behind sizes law x step old new a b r moves) chunk (has_row (fin.get b.durable.chunks chunk) later told_then)

    abbrev heard : Option ℕ
    heard = heard_in x.seen x.failures x.armed (next sizes law x step old new a b r moves).goes.kind

    -- with what it was born
    abbrev origin : List Edit
    origin = (living.0.reached.0).origin

    origin_then : edits_of b (copied_from new.sent chunk) ≡ origin
    origin_then =
        let seen = seen_of x (asked sizes law x step old new a b r moves) (left_in new) b (sees_behind sizes law x step old new a b r moves) r.apart chunk living.0 living.1 in
        copied_edits b (copied_from new.sent chunk) ∙ (seen.0.agrees).lists.origin ∙ ap (λ (z : IsAlive x.seen x.config (bytes sizes law x step old new a b r moves) chunk (left_in new)). z.reached.0.origin) seen.1

    -- it isn't born at this step
    module _ (unborn : IsUnborn x.seen chunk (left_in old)) (is : (sees sizes law x step old new a b r moves).first.lives.life chunk ≡ inl unborn) (comes : ComesAlive x.seen x.config (bytes sizes law x step old new a b r moves) chunk (left_in old) (left_in new) living.0) where
      before : comes.before ≡ a.durable
      before = told_is_had x.seen (as_left old.nodes.master) a.durable comes.before (sees sizes law x step old new a b r moves).first.lives.lasts (sees sizes law x step old new a b r moves).first.agrees.told comes.had

      behind : comes.behind ≡ b.durable
      behind = told_is_had x.seen (as_left new.nodes.master) b.durable comes.behind (next sizes law x step old new a b r moves).goes.last.lasts (next sizes law x step old new a b r moves).account.told comes.has

      up : (world_of living.0.reached.0).known.view < (living.0.world).known.view
      up =
          let blank = blank_of x (asked sizes law x step old new a b r moves) (left_in old) a (sees sizes law x step old new a b r moves).first chunk unborn is in
          let y = row_of (fin.get b.durable.chunks chunk) later told_then in
          comes.rows.appears y.0 (ap (λ (d : Durable). fin.get d.chunks chunk) before ∙ blank.none) (ap (λ (d : Durable). fin.get d.chunks chunk) behind ∙ y.1)

      not_born : ⊥
      not_born = by_once (masters_settle_once (world_of living.0.reached.0) living.0.world comes.leads (living.0.reached.0, Rests) comes.masters)
        where
          by_once : SettlesOnce (world_of living.0.reached.0) living.0.world → ⊥
          by_once (inl k) = (let same = k.view in let above = up in omega arith)
          by_once (inr (inl k)) = (let moving = k.moving in omega arith)
          by_once (inr (inr k)) = true≢false (sym (comes.rows.back k.later).0 ∙ ap (λ (d : Durable). rolls_back d comes.behind) before ∙ ap (rolls_back a.durable) behind ∙ goes_on)

    -- the account had of what it copies just that before
    origin_before : (edits_of a (copied_from new.sent chunk) ≡ origin) × (edits_of a (copied_from old.sent chunk) ≡ origin)
    origin_before =
        by_life ((sees sizes law x step old new a b r moves).first.lives.life chunk) refl
        (subst (λ life. GoesOn x.seen x.config (bytes sizes law x step old new a b r moves) chunk step heard (left_in old) (left_in new) ((sees sizes law x step old new a b r moves).first.lives.life chunk) life) living.1 ((next sizes law x step old new a b r moves).goes.goes chunk))
      where
        by_life : (life : Life x.seen x.config (bytes sizes law x step old new a b r moves) chunk (left_in old)) → (sees sizes law x step old new a b r moves).first.lives.life chunk ≡ life
            → GoesOn x.seen x.config (bytes sizes law x step old new a b r moves) chunk step heard (left_in old) (left_in new) life (inr living.0) → (edits_of a (copied_from new.sent chunk) ≡ origin) × (edits_of a (copied_from old.sent chunk) ≡ origin)
        by_life (inl unborn) is comes = absurd (not_born unborn is comes)
        by_life (inr l) is goes =
            let seen = seen_of x (asked sizes law x step old new a b r moves) (left_in old) a (sees sizes law x step old new a b r moves).first r.apart chunk l is in
            let copied = copied_same x.seen x.config (bytes sizes law x step old new a b r moves) l.reached.0.epoch chunk step (left_in old) (left_in new) l.world living.0.world goes.by in
            let was : edits_of a (copied_from old.sent chunk) ≡ origin =
            copied_edits a (copied_from old.sent chunk) ∙ (seen.0.agrees).lists.origin
            ∙ ap (λ (z : IsAlive x.seen x.config (bytes sizes law x step old new a b r moves) chunk (left_in old)). z.reached.0.origin) seen.1 ∙ ap (λ (birth : Birth). birth.origin) (sym goes.same) in
            (ap (edits_of a) copied ∙ was, was)

    -- it is a copy of what it was
    pub same_made : edits_of b (copied_from new.sent chunk) ≡ edits_of a (copied_from old.sent chunk)
    same_made = origin_then ∙ sym origin_before.1

    -- a first view begins with what is copied
    first_list : view_at a chunk ≡ None → length (settled_edits b chunk) ≤ length origin
    first_list none =
        let settled_is : settled_edits b chunk ≡ take (settled_count b chunk later) (b.list chunk later.stamp) = ap (settled_in b chunk) told_then in
        let list_is : b.list chunk later.stamp ≡ take later.count (edits_of a (copied_from new.sent chunk)) =
        ap (λ (c : Account). c.list chunk later.stamp) moves.account ∙ ap (list_behind a new.sent b.durable (numbered step old new chunk) chunk later.stamp) told_then
        ∙ first_begun a new.sent b.durable (numbered step old new chunk) chunk later none goes_on in
        let one = ap (λ (es : List Edit). length es) settled_is in
        let two = ap (λ (es : List Edit). length es) list_is in
        let three = ap (λ (es : List Edit). length es) origin_before.0 in
        let short = take_no_more (settled_count b chunk later) (b.list chunk later.stamp) in
        let fewer = take_no_more later.count (edits_of a (copied_from new.sent chunk)) in
        omega arith

    -- A chunk that no file had before the step has no more behind it than it was made with.
    fresh_list : is_listed a.durable chunk ≡ false → ((view : View) → view_at a chunk ≡ Some view → length (settled_edits a chunk) ≤ length (edits_of a (copied_from old.sent chunk))) → length (settled_edits b chunk) ≤ length (edits_of b (copied_from new.sent chunk))
    fresh_list out before = by_view (view_at a chunk) refl
      where
        made : length (edits_of b (copied_from new.sent chunk)) ≡ length origin
        made = ap (λ (es : List Edit). length es) origin_then

        by_view : (o : Option View) → view_at a chunk ≡ o → length (settled_edits b chunk) ≤ length (edits_of b (copied_from new.sent chunk))
        by_view None none = (let short = first_list none in let is = made in omega arith)
        by_view (Some view) told =
            let none = unled_view view told out in
            let less = no_more sizes law x step old new a b r moves chunk view later told told_then goes_on none in
            let was = before view told in
            let same = ap (λ (es : List Edit). length es) origin_before.1 in
            let is = made in
            omega arith

  -- a chunk of which a view is told behind a rollback stands in a file
  commit_listed : rolls_back a.durable b.durable ≡ true → is_some (fin.get b.durable.chunks chunk) ≡ true → is_listed b.durable chunk ≡ true
  commit_listed back some = by_writes written
    where
      by_move : (config : Config) (heard : Heard) (s : State) (move : Move) → is_bound move ≡ true → IsMade config heard s move → (move_turn config s move).after.durable ≡ b.durable → replayed a.durable (move_turn config s move).records ≡ Some b.durable → is_listed b.durable chunk ≡ true
      by_move config said s (Prepares req moment) bound made is replays = absurd (true≢false (sym back ∙ (prepare_begins a.durable b.durable _ _ _ (one_fits a.durable b.durable _ replays)).1))
      by_move config said s (Finalizes req) bound made is replays = absurd (true≢false (sym back ∙ finalize_ends a.durable b.durable _ (one_fits a.durable b.durable _ replays)))
      by_move config said s (CommitsRollback req names) bound made is replays =
          ap (λ (d : Durable). is_listed d chunk) (sym is) ∙ commit_lists chunk config said s req names made (ap (λ (d : Durable). is_some (fin.get d.chunks chunk)) is ∙ some)
      by_move config said s move bound made is replays = absurd (false≢true bound)

      none_back : a.durable ≡ b.durable → ⊥
      none_back same = true≢false (sym back ∙ ap (λ (d : Durable). rolls_back a.durable d) (sym same) ∙ never_back a.durable.phase)

      one_long : (config : Config) (s : State) (move : Move) → is_bound move ≡ true → length (move_turn config s move).records ≡ 1
      one_long config s (Prepares req moment) bound = refl
      one_long config s (Finalizes req) bound = refl
      one_long config s (CommitsRollback req names) bound = refl
      one_long config s move bound = absurd (false≢true bound)

      by_pace : (config : Config) (heard : Heard) (s : State) (t : Turn) (many : ℕ) → Paced config heard s t → s.durable ≡ a.durable → AllByRecursion (IsEntry Two) t.records → many ≤ length t.records → replayed a.durable (take many t.records) ≡ Some b.durable → is_listed b.durable chunk ≡ true
      by_pace config said s t many (Goes u v chain) first fits low stand =
          absurd (true≢false (sym back ∙ none_is_back a.durable b.durable (same_phase_over a.durable b.durable (take many v.records) (kept_before sizes law x step old new a b r moves) (taken (IsEntry Two) many v.records fits)
          (go_taken a.durable v.records many (subst (λ d. GoWithin d v.records) first (chain_within config said u v chain fits).0)) stand)))
      by_pace config said s t many (Bounds u move refused made bound) first fits low stand = by_many many (one_long config u move bound) low stand
        where
          by_many : (n : ℕ) → length (move_turn config u move).records ≡ 1 → n ≤ length (move_turn config u move).records → replayed a.durable (take n (move_turn config u move).records) ≡ Some b.durable → is_listed b.durable chunk ≡ true
          by_many zero long low stand = absurd (none_back (let same : a.durable ≡ b.durable = cc in same))
          by_many (suc zero) long low stand =
              let whole = ap (replayed a.durable) (sym (taken_all 1 (move_turn config u move).records (sym long))) ∙ stand in
              let t = record (move_turn config u move) { said = refused } in
              let last = chain_leaves config said (IsMade config said) (λ v m made. made.may) u t b.durable (MovesOf u move refused made) (ap (λ d. replayed d (move_turn config u move).records) first ∙ whole) in
              by_move config said u move bound made last whole
          by_many (suc (suc n)) long low stand = absurd (omega arith)

      by_writes : Writes (records_at step old) old.nodes.master new.nodes.master a.durable b.durable → is_listed b.durable chunk ≡ true
      by_writes (Keeps same) = absurd (none_back (sym same))
      by_writes (Turns m heard t many all left first turn fits low stand are but whole) = by_pace m.config heard m.state t many (paced m.config heard m.state t turn) first fits low stand

  -- So it stays over a step.
  fresh_step : ((view : View) → is_listed a.durable chunk ≡ false → view_at a chunk ≡ Some view → length (settled_edits a chunk) ≤ length (edits_of a (copied_from old.sent chunk))) → (later : View) → is_listed b.durable chunk ≡ false → view_at b chunk ≡ Some later
      → length (settled_edits b chunk) ≤ length (edits_of b (copied_from new.sent chunk))
  fresh_step before later out told = by_back (rolls_back a.durable b.durable) refl
    where
      some : is_some (fin.get b.durable.chunks chunk) ≡ true
      some = has_row (fin.get b.durable.chunks chunk) later told

      by_back : (back : Bool) → rolls_back a.durable b.durable ≡ back → length (settled_edits b chunk) ≤ length (edits_of b (copied_from new.sent chunk))
      by_back true is = absurd (true≢false (sym (commit_listed is some) ∙ out))
      by_back false is = (let was = out_before out some in fresh_list later told is was (λ view there. before view was there))

-- ---- runs

module _ (sizes : HaveSizes) (law : AreNumbered) {D : Type 0} (x : Setup D) where
  abbrev AreFresh : History D → Account → Type 0
  AreFresh now a = (chunk : ℕ) (view : View) → is_listed a.durable chunk ≡ false → view_at a chunk ≡ Some view → length (settled_edits a chunk) ≤ length (edits_of a (copied_from now.sent chunk))

  fresh_over : (steps : List Step) (old new : History D) (a b : Account) → IsReached x old a → Runs x steps old a new b → AreFresh old a → AreFresh new b
  fresh_over [] old new a b r runs fresh = subst (λ h. AreFresh h b) (sym runs.0) (subst (AreFresh old) (sym runs.1) fresh)
  fresh_over (step ∷ steps) old new a b r (mid, c, one, rest) fresh =
      fresh_over steps mid new c b (reach_more x old mid a c (step ∷ []) r (mid, c, one, (refl, refl))) rest (λ chunk later out told. fresh_step sizes law x step old mid a c r one chunk (λ view was there. fresh chunk view was there) later out told)

  -- in a new store no view is told
  fresh_first : (begun : History D) (a : Account) → IsNew x begun a → AreFresh begun a
  fresh_first begun a new chunk view out told = absurd (false≢true (sym (ap is_some (fin.get-empty nat_cmp chunk)) ∙ ap (λ (d : Durable). is_some (fin.get d.chunks chunk)) (sym from_start) ∙ has_row (fin.get a.durable.chunks chunk) view told))
    where
      from_start : a.durable ≡ start
      from_start = opens_as_start x.seen begun.nodes.master a.durable (begins_told x.seen x.failures x.armed x.config x.clients x.disks begun new.given.new new.begins) new.told

  fresh_there : (now : History D) (a : Account) → IsReached x now a → AreFresh now a
  fresh_there now a r = fresh_over r.steps r.begun now r.first a (reached_first r) r.runs (fresh_first r.begun r.first r.begins)
    where
      reached_first : IsReached x now a → IsReached x r.begun r.first
      reached_first k = record { apart = r.apart; begun = r.begun; first = r.first; steps = []; begins = r.begins; runs = (refl, refl) }

  -- who has no more than that has just that
  just_made : (now : History D) (a : Account) (chunk : ℕ) (view : View) → IsReached x now a → view_at a chunk ≡ Some view → length (settled_edits a chunk) ≤ length (edits_of a (copied_from now.sent chunk)) → settled_edits a chunk ≡ edits_of a (copied_from now.sent chunk)
  just_made now a chunk view r told short = by_copied (copied_from now.sent chunk) refl short
    where
      by_copied : (o : Option (ℕ × Stamp)) → copied_from now.sent chunk ≡ o → length (settled_edits a chunk) ≤ length (edits_of a o) → settled_edits a chunk ≡ edits_of a o
      by_copied None is few = nil_list (settled_edits a chunk) (omega arith)
      by_copied (Some (source, at)) is few = just_these (settled_edits a chunk) (a.list source at) (copies_inherit sizes law x now now a a [] chunk source at view r is (refl, refl) told) few

  pub new_as_made : NewAreAsMade x
  new_as_made now a chunk view r out told = just_made now a chunk view r told (fresh_there now a r chunk view out told)

  pub added_as_made : AddedAreAsMade x
  added_as_made old new a b step chunk r moves goes_on out listed =
      let there = view_there (fin.get b.durable.chunks chunk) ((kept_behind sizes law x step old new a b r moves).settled chunk listed) in
      let reached = reach_more x old new a b (step ∷ []) r (new, b, moves, (refl, refl)) in
      let short = fresh_list sizes law x step old new a b r moves chunk there.0 there.1 goes_on out (λ view told. fresh_there old a r chunk view out told) in
      by_view there.0 there.1 (just_made new b chunk there.0 reached there.1 short) (view_at a chunk) refl
    where
      view_there : (o : Option Settled) → is_some o ≡ true → (view : View) × (view_in o ≡ Some view)
      view_there None some = absurd (false≢true some)
      view_there (Some y) some = (y.view, refl)

      by_view : (later : View) → view_at b chunk ≡ Some later → settled_edits b chunk ≡ edits_of b (copied_from new.sent chunk) → (o : Option View) → view_at a chunk ≡ o → settled_edits a chunk ++ newly_settled a b chunk ≡ edits_of b (copied_from new.sent chunk)
      by_view later told_then all None none = ap (λ es. es ++ drop (length es) (settled_edits b chunk)) (ap (settled_in a chunk) none) ∙ all
      by_view later told_then all (Some view) told =
          let origin = origin_before sizes law x step old new a b r moves chunk later told_then goes_on in
          ap (λ es. settled_edits a chunk ++ es) (none_new sizes law x step old new a b r moves chunk view told (unled_view sizes law x step old new a b r moves chunk view told out) goes_on)
          ∙ append-nil (settled_edits a chunk) ∙ new_as_made old a chunk view r out told ∙ origin.1 ∙ sym (origin_then sizes law x step old new a b r moves chunk later told_then goes_on)
