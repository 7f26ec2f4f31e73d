-- A call that waits for a copy: what was told to be copied is the chunk whose place the copy is to take, and is all that is settled of it while it stands there.
use Rattle.std.proofs.Common.{◌≡◌, ◌∙◌, ◌⊎◌, ◌++◌, ◌==◌, inl, inr, ℕ, Bool, true, false, List, [], ◌∷◌, append-nil, refl, sym, ap, subst, arith}
use Rattle.std.specs.Prelude.{is_some, Option, Some, None}
use Rattle.std.specs.FinMap as fin
use Rattle.std.proofs.lemmas.Bool.{false≢true, true≢false}
use Rattle.std.proofs.lemmas.Bool.Decides.{nat_tests}
use Rattle.gs_base.specs.declared.numbers.Stamp.{Stamp}
use Rattle.gs_laws_chunk.proofs.lemmas.machine.Exact.{quiet_is_settled}
use Rattle.gs_laws_chunk.proofs.lemmas.machine.Facts.{reached_world}
use Rattle.gs_lease.specs.declared.view.View.{View}
use Rattle.gs_master.specs.Masters.{MasterOf}
use Rattle.gs_laws_lift.proofs.lemmas.copies.Counted.{is_listed_there}
use Rattle.gs_laws_lift.proofs.lemmas.copies.Held.{all_at, none_held}
use Rattle.gs_laws_lift.proofs.lemmas.copies.Waited.{WaitsIn, for_copy, there, turn_goes_on, turn_waited}
use Rattle.gs_laws_lift.specs.copies.Held.{AreHeld, HoldsPlace, slot}
use Rattle.gs_laws_lift.specs.copies.Told.{AllNew, OfNew}
use Rattle.gs_laws_parts.specs.master.Showing.{primary_of}
use Rattle.gs_laws_moves.specs.moves.Epochs.{rolls_back}
use Rattle.gs_laws_moves.specs.moves.Shared.{IsUnleased}
use Rattle.gs_laws_plain.specs.commands.Places.{Place}
use Rattle.gs_master_spec.specs.Applied.{view_in}
use Rattle.gs_master_spec.specs.Durable.{Durable, Settled, is_given, is_listed, is_rolling}
use Rattle.gs_master_spec.specs.Handling.{restarted}
use Rattle.gs_master_spec.specs.State.{State}
use Rattle.gs_msg.specs.declared.message.Message.{Message}
use Rattle.gs_msg.specs.declared.node.NodeId.TheVariants as nodes
use Rattle.gs_nodes.specs.declared.place.MasterPlace.{MasterPlace}
use Rattle.gs_nodes.specs.declared.place.MasterPlace.TheVariants.{Away, Closed, Standing}
use Rattle.gs_replica.specs.Stands.{Edit}
use Rattle.gs_laws_parts.specs.server.Requests.{bytes_in}
use Rattle.gs_world.proofs.Reaching.{HaveSizes}
use Rattle.gs_world.specs.Histories.{History}
use Rattle.gs_laws_world.specs.lasting.Lasting.{Lasts}
use Rattle.gs_world.specs.Runs.{Step}
use Rattle.gs_world.specs.Sent.{Sent}
use Rattle.gs_laws_chunks.proofs.lemmas.accounts.Copied.{copies_are_of_views, lists_same}
use Rattle.gs_laws_chunks.proofs.lemmas.accounts.Edits.{AreNumbered}
use Rattle.gs_laws_chunks.proofs.lemmas.accounts.Holding.{reach_more}
use Rattle.gs_laws_chunks.proofs.lemmas.accounts.Runs.{has_told, keeps_told, living_told, seen_of}
use Rattle.gs_laws_chunks.proofs.lemmas.accounts.SeeingThrough.{each_is_seen_through, reached_well, through_stays}
use Rattle.gs_laws_chunks.proofs.lemmas.accounts.Told.{named}
use Rattle.gs_laws_chunks.proofs.lemmas.accounts.Well.{IsWell, armed_left, step_well, well_lasts}
use Rattle.gs_laws_chunks.proofs.lemmas.accounts.Viewing.{told_view}
use Rattle.gs_laws_chunks.specs.accounts.Accounts.{Account, settled_edits, settled_in, view_at}
use Rattle.gs_laws_chunks.specs.accounts.Copying.{WasCopied}
use Rattle.gs_laws_chunks.specs.accounts.Running.{IsArmed, IsGiven, IsReached, Moves, Runs, Setup}
use Rattle.gs_laws_lift.proofs.lemmas.stores.Copying.{copied_is_told, copied_there}
use Rattle.gs_laws_lift.proofs.lemmas.stores.DoingAll.{masters_do_all}
use Rattle.gs_laws_lift.proofs.lemmas.stores.Placing.{kind_of}
use Rattle.gs_laws_lift.specs.stores.Copying.{copied_from, is_copied}
use Rattle.gs_laws_lift.specs.stores.Doing.{Arms, HasDurable, MasterDoes, Moves as MovesAt, Refuses, Starts, Waits}
use Rattle.gs_laws_lift.specs.stores.Going.{Elsewhere, Kind, OfMaster, OfServer}
use Rattle.gs_laws_lift.specs.stores.Left.{Arranges, Cuts, Does, Keeps, MasterDoesAll, as_left, left_in}
use Rattle.gs_laws_runs.proofs.lemmas.plain.Fresh.{armed_had, never_back}
use Rattle.gs_laws_runs.proofs.lemmas.plain.Holding.{places_held}
use Rattle.gs_laws_runs.proofs.lemmas.plain.Onward.{grows, had, has, none_new}
use Rattle.gs_laws_runs.proofs.lemmas.plain.Copies.{MadeAt, ToldSo, copied_so, fresh_at, made_there}
use Rattle.gs_laws_runs.proofs.lemmas.plain.Writing.{has_one}
use Rattle.gs_laws_runs.specs.plain.Fresh.{CopiesAreOfPlaces}

-- ---- lists

row_there : (o : Option Settled) (view : View) → view_in o ≡ Some view → is_some o ≡ true
row_there None view is = absurd (cc)
row_there (Some y) view is = refl

settled_there : (o : Option Settled) → is_some o ≡ true → (y : Settled) × (o ≡ Some y)
settled_there None some = absurd (false≢true some)
settled_there (Some y) some = (y, refl)

pub some_copied : (o : Option (ℕ × Stamp)) → is_some o ≡ true → (source : ℕ × Stamp) × (o ≡ Some source)
some_copied None some = absurd (false≢true some)
some_copied (Some source) some = (source, refl)

-- ---- a master, and a call of it that waits

-- of a chunk that was told to be a copy the handle is given
pub copied_given : (sent : Sent) (s : State) (chunk : ℕ) → AllNew (ToldSo sent) s → is_copied sent chunk ≡ true → is_given s.durable.next_handle chunk ≡ true
copied_given sent s chunk k copied = by_given (is_given s.durable.next_handle chunk) refl
  where
    never : (source : ℕ) → None ≡ Some source → ⊥
    never source h = absurd (cc)

    by_given : (b : Bool) → is_given s.durable.next_handle chunk ≡ b → b ≡ true
    by_given true is = refl
    by_given false is = (let from = some_copied (copied_from sent chunk) copied in absurd (never from.0.0 (copied_so sent None chunk from.0.0 from.0.1 (k.fresh None chunk is) from.1)))

module _ (place : Place) (new : ℕ) where
  -- a call waits for the copy, that hasn't come there
  abbrev pub WaitsStill : State → Type 0
  WaitsStill s = WaitsIn s (for_copy place new) × (there s place ≡ Some place.chunk)

  pub holds : (s : State) → AreHeld s → WaitsIn s (for_copy place new) → HoldsPlace s (for_copy place new)
  holds s k (p, here, is) = subst (HoldsPlace s) is (all_at (λ q. HoldsPlace s q.waits) s.volatile.pending p k.places here)

  place_is : {a b : ℕ} → Some a ≡ Some b → a ≡ b
  place_is h = cc

  itself : (n : ℕ) → (n == n) ≡ true
  itself n = grind (arith, nat_tests)

  -- it isn't the copy that stands there
  apart : (s : State) → AreHeld s → WaitsIn s (for_copy place new) → there s place ≡ Some place.chunk → there s place ≡ Some new → ⊥
  apart s k waits_so here come =
      let same : place.chunk ≡ new = place_is (sym here ∙ come) in
      true≢false (sym (ap (λ n. place.chunk == n) (sym same) ∙ itself place.chunk) ∙ (holds s k waits_so).1)

  -- while it stands there nobody may write the chunk
  pub unleased : (s : State) → AreHeld s → WaitsStill s → IsUnleased s place.chunk
  unleased s k (waits_so, here) = elim (holds s k waits_so).2 [
    | inl come ↦ absurd (apart s k waits_so here come)
    | inr still ↦ still.1
  ]

module _ {D : Type 0} (x : Setup D) (place : Place) (new : ℕ) where
  abbrev pub WaitsAt : MasterPlace D → Type 0
  WaitsAt (Standing m) = WaitsStill place new m.state
  WaitsAt spot = ⊥

  -- what is so at a step behind which it waits: it waited before it if the chunk was told to be a copy then; and no rollback was committed
  record HasWaitedAt (sent : Sent) (old now : MasterPlace D) : Type 0 where
    pub before : is_copied sent new ≡ true → WaitsAt old
    pub goes_on : (d e : Durable) → HasDurable x.seen old d → HasDurable x.seen now e → rolls_back d e ≡ false

  abbrev HeldAt : MasterPlace D → Type 0
  HeldAt spot = (m : MasterOf D) → spot ≡ Standing m → AreHeld m.state

  -- where the master is as it was
  same_waits : (sent : Sent) (old now : MasterPlace D) → now ≡ old → WaitsAt now → HasWaitedAt sent old now
  same_waits sent old now same k = record {
    before = λ copied. subst WaitsAt same k;
    goes_on = λ d e was is. ap (rolls_back d) (sym (has_one x old d e was (subst (λ p. HasDurable x.seen p e) same is))) ∙ never_back d.phase;
  }

  does_waited : (sent : Sent) (old now : MasterPlace D) (messages : List Message) → Lasts x.seen old → MasterDoes x.seen (λ disk call spot. spot) sent old now messages → HeldAt old → MadeAt x sent old → WaitsAt now → HasWaitedAt sent old now
  does_waited sent old now messages lasts (MovesAt m after heard t at to was turn state sends) held made k = record { before = by_copied; goes_on = goes_on }
    where
      firm : is_rolling m.state.durable.phase ≡ true → m.state.volatile.pending ≡ []
      firm = (subst (Lasts x.seen) at lasts).firm.rolling

      waits_then : WaitsStill place new t.after
      waits_then = subst (WaitsStill place new) state (subst WaitsAt to k)

      by_copied : is_copied sent new ≡ true → WaitsAt old
      by_copied copied =
          let all = subst (MadeAt x sent) at made in
          let then = turn_waited m.config heard place new (ToldSo sent) m.state t turn firm (held m at) all (copied_given sent m.state new all copied) waits_then.0 in
          subst WaitsAt (sym at) (
            then.waited,
            elim (holds place new m.state (held m at) then.waited).2 [
              | inl come ↦ absurd (apart_then (then.stays come))
              | inr still ↦ still.0
            ],
          )
        where
          differ : (place.chunk == new) ≡ false
          differ = (holds place new m.state (held m at) (turn_waited m.config heard place new (ToldSo sent) m.state t turn firm (held m at) (subst (MadeAt x sent) at made) (copied_given sent m.state new (subst (MadeAt x sent) at made) copied) waits_then.0).waited).1

          apart_then : there t.after place ≡ Some new → ⊥
          apart_then come =
              let same : place.chunk ≡ new = place_is place new (sym waits_then.1 ∙ come) in
              true≢false (sym (ap (λ n. place.chunk == n) (sym same) ∙ itself place new place.chunk) ∙ differ)

      goes_on : (d e : Durable) → HasDurable x.seen old d → HasDurable x.seen now e → rolls_back d e ≡ false
      goes_on d e was is =
          let first : m.state.durable ≡ d = subst (λ p. HasDurable x.seen p d) at was in
          let last : t.after.durable ≡ e = sym (ap (λ (s : State). s.durable) state) ∙ subst (λ p. HasDurable x.seen p e) to is in
          ap (λ f. rolls_back f e) (sym first) ∙ ap (rolls_back m.state.durable) (sym last) ∙ turn_goes_on m.config heard place new m.state t turn firm waits_then.0
  does_waited sent old now messages lasts (Starts config d log after t durable_was kept counters to turn state sends) held made k = record { before = by_copied; goes_on = goes_on }
    where
      waits_then : WaitsStill place new t.after
      waits_then = subst (WaitsStill place new) state (subst WaitsAt to k)

      by_copied : is_copied sent new ≡ true → WaitsAt old
      by_copied copied =
          let all : AllNew (ToldSo sent) (restarted d log) = record { waiting = tt; fresh = λ other chunk out. fresh_at x sent old d durable_was made other chunk out } in
          absurd ((turn_waited config None place new (ToldSo sent) (restarted d log) t turn (λ rolling. refl) (none_held (restarted d log) refl) all (copied_given sent (restarted d log) new all copied) waits_then.0).waited.1)

      goes_on : (f e : Durable) → HasDurable x.seen old f → HasDurable x.seen now e → rolls_back f e ≡ false
      goes_on f e was is =
          let last : t.after.durable ≡ e = sym (ap (λ (s : State). s.durable) state) ∙ subst (λ p. HasDurable x.seen p e) to is in
          ap (λ g. rolls_back g e) (sym (has_one x old d f durable_was was)) ∙ ap (rolls_back d) (sym last) ∙ turn_goes_on config None place new (restarted d log) t turn (λ rolling. refl) waits_then.0
  does_waited sent old now messages lasts (Waits d first second durable_was kept counters to told sends) held made k = absurd (subst WaitsAt to k)
  does_waited sent old now messages lasts (Refuses caller same sends) held made k = same_waits sent old now same k
  does_waited sent old now messages lasts (Arms disk call is sends) held made k = same_waits sent old now is k

  armed_waits : (spot other : MasterPlace D) → IsArmed x.seen spot other → WaitsAt other → WaitsAt spot
  armed_waits (Standing m) other (j, to, alike) k = subst WaitsAt to k
  armed_waits (Closed first second) other (one, two, to, same, alike) k = absurd (subst WaitsAt to k)
  armed_waits Away other to k = absurd (subst WaitsAt to k)

  -- whatever disks of it fail
  all_waited_so : IsGiven x → (sent : Sent) (old now : MasterPlace D) (messages : List Message) → Lasts x.seen (as_left old) → MasterDoesAll x.seen x.armed sent old now messages → HeldAt (as_left old) → MadeAt x sent (as_left old) → WaitsAt (as_left now) → HasWaitedAt sent (as_left old) (as_left now)
  all_waited_so given sent old now messages lasts (Does sound does) held made k = does_waited sent (as_left old) (as_left now) messages lasts does held made k
  all_waited_so given sent old now messages lasts (Cuts m after heard caller t spot many said d first second at there was turn cut least within stand to kept counters told) held made k = absurd (subst WaitsAt to k)
  all_waited_so given sent old now messages lasts (Keeps m after heard caller at there failed still same was answers) held made k = same_waits sent (as_left old) (as_left now) same k
  all_waited_so given sent old now messages lasts (Arranges disk call is none) held made k = record {
    before = λ copied. armed_waits (as_left old) (as_left (x.armed disk call old)) alike (subst (λ p. WaitsAt (as_left p)) is k);
    goes_on = λ d e was has. ap (rolls_back d) (sym (has_one x (as_left old) d e was (armed_had x 0 (as_left old) (as_left (x.armed disk call old)) alike e (subst (λ p. HasDurable x.seen (as_left p) e) is has)))) ∙ never_back d.phase;
  }
    where
      alike : IsArmed x.seen (as_left old) (as_left (x.armed disk call old))
      alike = armed_left x.seen old (x.armed disk call old) (given.armed disk call old)

module _ (sizes : HaveSizes) (law : AreNumbered) {D : Type 0} (x : Setup D) where
  -- ---- where nobody may number, all edits of a view are settled
  all_settled : (now : History D) (a : Account) (chunk : ℕ) (view : View) → IsReached x now a → view_at a chunk ≡ Some view → view.term ≡ None → settled_edits a chunk ≡ a.list chunk view.stamp
  all_settled now a chunk view r told unled =
      let sees = each_is_seen_through sizes law x now a r in
      let living = living_told x sees.0 (left_in now) a sees.2 chunk (row_there (fin.get a.durable.chunks chunk) view told) in
      let seen = (seen_of x sees.0 (left_in now) a sees.2 r.apart chunk living.0 living.1).0 in
      let w = seen.alive.world in
      let v = told_view x (bytes_in sees.0) chunk (left_in now) a seen view told in
      ap (settled_in a chunk) told ∙ v.settled ∙ quiet_is_settled w (reached_world w seen.alive.reached) (v.shows.holder ∙ ap primary_of unled) ∙ sym v.list ∙ ap (a.list chunk) (sym v.shows.stamp)

  -- and over a step no more comes to them
  still_settled : (step : Step) (old new : History D) (a b : Account) → IsReached x old a → Moves x step old a new b → (chunk : ℕ) (view : View) → view_at a chunk ≡ Some view → view.term ≡ None → is_listed b.durable chunk ≡ true → rolls_back a.durable b.durable ≡ false
      → settled_edits b chunk ≡ settled_edits a chunk
  still_settled step old new a b r moves chunk view told unled listed goes_on =
      sym (grows sizes law x step old new a b r moves chunk listed goes_on) ∙ ap (λ (es : List Edit). settled_edits a chunk ++ es) (none_new sizes law x step old new a b r moves chunk view told unled goes_on) ∙ append-nil (settled_edits a chunk)

  -- ---- a call that waits

  module _ (place : Place) (chunk : ℕ) where
    abbrev WaitsIt : History D → Type 0
    WaitsIt now = WaitsAt x place chunk (as_left now.nodes.master)

    -- the chunk at the place stands in a file, and nobody may write it
    pub record IsUnled (a : Account) : Type 0 where
      pub listed : is_listed a.durable place.chunk ≡ true
      pub view : View
      pub told : view_at a place.chunk ≡ Some view
      pub unled : view.term ≡ None

    -- what is durable where the master stands is what the account has
    pub unled_in : (now : History D) (a : Account) (m : MasterOf D) → IsReached x now a → as_left now.nodes.master ≡ Standing m → WaitsStill place chunk m.state → IsUnled a
    unled_in now a m r at k =
        let sees = each_is_seen_through sizes law x now a r in
        let same : m.state.durable ≡ a.durable = subst (λ p. HasDurable x.seen p a.durable) at (has_told x sees.0 (left_in now) a sees.2) in
        let kept = keeps_told x sees.0 (left_in now) a sees.2 in
        let listed = is_listed_there a.durable.names kept.names place.chunk place.path place.index (ap (λ (d : Durable). slot d.names place.path place.index) (sym same) ∙ k.1) in
        let row = settled_there (fin.get a.durable.chunks place.chunk) (kept.settled place.chunk listed) in
        record {
          listed = listed;
          view = row.0.view;
          told = ap view_in row.1;
          unled = (unleased place chunk m.state (places_held x now a m r at) k).term.term row.0 (ap (λ (d : Durable). fin.get d.chunks place.chunk) same ∙ row.1);
        }

    unled_at : (now : History D) (a : Account) → IsReached x now a → WaitsIt now → IsUnled a
    unled_at now a r k = by_spot (as_left now.nodes.master) refl k
      where
        by_spot : (spot : MasterPlace D) → as_left now.nodes.master ≡ spot → WaitsAt x place chunk spot → IsUnled a
        by_spot (Standing m) at waits_so = unled_in now a m r at waits_so
        by_spot (Closed first second) at waits_so = absurd waits_so
        by_spot Away at waits_so = absurd waits_so

    -- what is so at a step behind which it waits
    step_waited : (step : Step) (old new : History D) (a b : Account) → IsReached x old a → Moves x step old a new b → WaitsIt new → HasWaitedAt x place chunk old.sent (as_left old.nodes.master) (as_left new.nodes.master)
    step_waited step old new a b r moves k = by_kind (kind_of x.seen x.failures x.armed step old new moves.steps.goes (named x step old moves.steps.within well.types))
      where
        well : IsWell x old
        well = reached_well x old a r

        lasts : Lasts x.seen (as_left new.nodes.master)
        lasts = well_lasts x new (step_well x r.begins.given step old new well moves.steps)

        by_kind : Kind x.seen x.failures x.armed step old new → HasWaitedAt x place chunk old.sent (as_left old.nodes.master) (as_left new.nodes.master)
        by_kind (OfServer id s after messages moment found goes met servers master posted) = same_waits x place chunk old.sent (as_left old.nodes.master) (as_left new.nodes.master) (ap as_left master) k
        by_kind (Elsewhere by messages moment are servers master posted) = same_waits x place chunk old.sent (as_left old.nodes.master) (as_left new.nodes.master) (ap as_left master) k
        by_kind (OfMaster spot messages moment goes servers master posted) =
            subst (λ p. HasWaitedAt x place chunk old.sent (as_left old.nodes.master) (as_left p)) (sym master)
            (all_waited_so x place chunk r.begins.given old.sent old.nodes.master spot messages (well_lasts x old well)
            (masters_do_all x.seen x.failures x.armed old.nodes.config old.sent old.nodes.master spot messages (well_lasts x old well) (subst (λ p. Lasts x.seen (as_left p)) master lasts) goes) (λ m at. places_held x old a m r at)
            (made_there x sizes old a r) (subst (λ p. WaitsAt x place chunk (as_left p)) master k))

    goes_on : (step : Step) (old new : History D) (a b : Account) → IsReached x old a → Moves x step old a new b → WaitsIt new → rolls_back a.durable b.durable ≡ false
    goes_on step old new a b r moves k = (step_waited step old new a b r moves k).goes_on a.durable b.durable (had sizes law x step old new a b r moves) (has sizes law x step old new a b r moves)

    -- who was told to be a copy was
    still_copied : (steps : List Step) (old new : History D) (a b : Account) → IsGiven x → Runs x steps old a new b → is_copied old.sent chunk ≡ true → is_copied new.sent chunk ≡ true
    still_copied steps old new a b given runs copied =
        let from = some_copied (copied_from old.sent chunk) copied in
        let told = copied_is_told old.sent from.0.0 chunk from.0.1 from.1 in
        copied_there new.sent told.message told.me from.0.0 chunk from.0.1 told.stamp (told.there.0, through_stays x given steps old new a b runs (record { sender = nodes.Master; place = told.there.0 }) told.message told.there.1) told.to told.is

    -- Back over a run to a world in which it was told: it waited there, and no more came to the chunk at the place.
    run_waited : (steps : List Step) (old new : History D) (a b : Account) → IsReached x old a → Runs x steps old a new b → is_copied old.sent chunk ≡ true → WaitsIt new → WaitsIt old × (settled_edits b place.chunk ≡ settled_edits a place.chunk)
    run_waited [] old new a b r runs copied k = (subst WaitsIt runs.0 k, ap (λ (c : Account). settled_edits c place.chunk) runs.1)
    run_waited (step ∷ steps) old new a b r (mid, c, one, rest) copied k =
        let first : Runs x (step ∷ []) old a mid c = (mid, c, one, (refl, refl)) in
        let then = reach_more x old mid a c (step ∷ []) r first in
        let back = run_waited steps mid new c b then rest (still_copied (step ∷ []) old mid a c r.begins.given first copied) k in
        let was = (step_waited step old mid a c r one back.0).before copied in
        let un = unled_at old a r was in
        (was, back.1 ∙ still_settled step old mid a c r one place.chunk un.view un.told un.unled (unled_at mid c then back.0).listed (goes_on step old mid a c r one back.0))

    -- What was told to be copied is the chunk at the place, with all that is settled of it.
    pub record IsToldOfPlace (now : History D) (a : Account) (source : ℕ) (at : Stamp) : Type 0 where
      pub source_is : source ≡ place.chunk
      pub settled_is : settled_edits a place.chunk ≡ a.list place.chunk at

    pub told_of_place : (now : History D) (a : Account) (m : MasterOf D) (source : ℕ) (at : Stamp) → IsReached x now a → as_left now.nodes.master ≡ Standing m → WaitsStill place chunk m.state → copied_from now.sent chunk ≡ Some (source, at) → IsToldOfPlace now a source at
    told_of_place now a m source at r stands k copied = record { source_is = source_is; settled_is = of_it at (copied ∙ ap (λ n. Some (n, at)) source_is) }
      where
        number_is : {p q : ℕ} → Some p ≡ Some q → q ≡ p
        number_is h = cc

        source_is : source ≡ place.chunk
        source_is =
            let all = subst (MadeAt x now.sent) stands (made_there x sizes now a r) in
            let so = subst (OfNew (λ other n. (is_given m.state.durable.next_handle n ≡ true) × ToldSo now.sent other n)) k.0.2 (all_at (λ q. OfNew (λ other n. (is_given m.state.durable.next_handle n ≡ true) × ToldSo now.sent other n) q.waits) m.state.volatile.pending k.0.0 all.waiting k.0.1) in
            number_is (copied_so now.sent (Some place) chunk source at so.1 copied)

        of_it : (under : Stamp) → copied_from now.sent chunk ≡ Some (place.chunk, under) → settled_edits a place.chunk ≡ a.list place.chunk under
        of_it under from = by_told was.0.told
          where
            was : (w : WasCopied x now a chunk place.chunk under) × (a.list place.chunk under ≡ w.behind.list place.chunk under)
            was = copies_are_of_views sizes law x now a chunk place.chunk under r from

            then : IsReached x was.0.asked was.0.behind
            then = reach_more x was.0.old was.0.asked was.0.before was.0.behind (was.0.step ∷ []) was.0.reached (was.0.asked, was.0.behind, was.0.moves, (refl, refl))

            back : WaitsIt was.0.asked × (settled_edits a place.chunk ≡ settled_edits was.0.behind place.chunk)
            back = run_waited was.0.steps was.0.asked now was.0.behind a then was.0.runs (ap is_some was.0.some) (subst (WaitsAt x place chunk) (sym stands) k)

            by_told : (view_at was.0.before place.chunk ≡ Some was.0.view) ⊎ (view_at was.0.behind place.chunk ≡ Some was.0.view) → settled_edits a place.chunk ≡ a.list place.chunk under
            by_told (inr told) = back.1 ∙ all_settled was.0.asked was.0.behind place.chunk was.0.view then told was.0.unled ∙ ap (was.0.behind.list place.chunk) was.0.under ∙ sym was.1
            by_told (inl told) =
                back.1
                ∙ still_settled was.0.step was.0.old was.0.asked was.0.before was.0.behind was.0.reached was.0.moves place.chunk was.0.view told was.0.unled (unled_at was.0.asked was.0.behind then back.0).listed
                (goes_on was.0.step was.0.old was.0.asked was.0.before was.0.behind was.0.reached was.0.moves back.0)
                ∙ all_settled was.0.old was.0.before place.chunk was.0.view was.0.reached told was.0.unled ∙ ap (was.0.before.list place.chunk) was.0.under
                ∙ sym (lists_same sizes law x was.0.old now was.0.before a (was.0.step ∷ was.0.steps) place.chunk under was.0.view was.0.reached (was.0.asked, was.0.behind, was.0.moves, was.0.runs) told was.0.under was.0.unled)

pub copies_of_places : HaveSizes → AreNumbered → {D : Type 0} (x : Setup D) → CopiesAreOfPlaces x
copies_of_places sizes law x now a m p path index old new source at r stands here is there copied =
    let told = told_of_place sizes law x (record { path = path; index = index; chunk = old }) new now a m source at r stands ((p, here, is), there) copied in (told.source_is, told.settled_is)
