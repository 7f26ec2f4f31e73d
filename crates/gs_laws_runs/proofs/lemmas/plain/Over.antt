-- What is over stays over in a run, and makes no edit.
use Rattle.std.proofs.Common.{◌≡◌, ◌∙◌, ◌∷◌, ◌||◌, Bool, suc, zero, true, false, List, [], map, not, take, refl, sym, ap, subst, ℕ}
use Rattle.std.specs.Prelude.{Some}
use Rattle.std.specs.FinMap as fin
use Rattle.std.specs.List.{list_all, list_any}
use Rattle.std.proofs.lemmas.Bool.{true≢false}
use Rattle.gs_base.specs.declared.config.Config.{Config}
use Rattle.gs_base.specs.declared.numbers.ReqId.{ReqId}
use Rattle.gs_journal.specs.Records.{standing}
use Rattle.gs_laws_master.specs.Standing.{IsOver}
use Rattle.gs_laws_moves.proofs.lemmas.moves.Fitting.{once_chain}
use Rattle.gs_laws_moves.proofs.lemmas.moves.Over.{chained_over, records_told, told_is}
use Rattle.gs_laws_moves.proofs.lemmas.moves.Stands.{plain}
use Rattle.gs_laws_moves.specs.moves.Epochs.{EndsOnce}
use Rattle.gs_laws_moves.specs.moves.Guards.{Heard, IsMade}
use Rattle.gs_laws_moves.specs.moves.Laws.{IsMadeWell}
use Rattle.gs_laws_moves.specs.moves.Moves.{Chain, Moves, Rests, Then}
use Rattle.gs_laws_moves.specs.moves.Over.{IsOverBy, tells_edit_of, was_told}
use Rattle.gs_master_record.specs.Plain.{Edited, PlainEdit, PlainEntry}
use Rattle.gs_master_spec.specs.Applied.{replayed}
use Rattle.gs_master_spec.specs.Durable.{Durable}
use Rattle.gs_master_spec.specs.Handling.{restarted, unlisted}
use Rattle.gs_master_spec.specs.Replies.{is_later}
use Rattle.gs_master_spec.specs.Settling.{own_request}
use Rattle.gs_master_spec.specs.State.{Log, State, Turn}
use Rattle.gs_master_spec.specs.Working.{scan_edits}
use Rattle.gs_msg.specs.declared.event.DiskId.{DiskId}
use Rattle.gs_msg.specs.declared.message.Message.{Message}
use Rattle.gs_nodes.specs.declared.place.MasterPlace.{MasterPlace}
use Rattle.gs_nodes.specs.declared.place.MasterPlace.TheVariants.{Away, Closed, Standing}
use Rattle.gs_world.proofs.Reaching.{HaveSizes}
use Rattle.gs_world.specs.Histories.{History}
use Rattle.gs_laws_world.specs.lasting.Lasting.{IsToldIn, Lasts}
use Rattle.gs_world.specs.Runs.{Step}
use Rattle.gs_world.specs.Sent.{Sent}
use Rattle.gs_laws_chunks.proofs.lemmas.accounts.Edits.{AreNumbered}
use Rattle.gs_laws_chunks.proofs.lemmas.accounts.Holding.{reach_more}
use Rattle.gs_laws_chunks.proofs.lemmas.accounts.Once.{told_once}
use Rattle.gs_laws_chunks.proofs.lemmas.accounts.SeeingThrough.{reached_well}
use Rattle.gs_laws_chunks.specs.accounts.Accounts.{Account}
use Rattle.gs_laws_chunks.specs.accounts.Running.{IsArmed, IsGiven, IsReached, Moves as MovesTo, Runs, Setup}
use Rattle.gs_laws_lift.specs.stores.Doing.{Arms, HasDurable, MasterDoes, Moves as MovesAt, Refuses, Starts, Waits}
use Rattle.gs_laws_lift.specs.stores.Left.{Arranges, Cuts, Does, Keeps as KeepsAll, MasterDoesAll, as_left}
use Rattle.gs_laws_runs.proofs.lemmas.plain.Cut.{CutLeaves, Leads, Scanned, cut_leaves, taken_of, tested}
use Rattle.gs_laws_runs.proofs.lemmas.plain.Onward.{had, has}
use Rattle.gs_laws_chunks.proofs.lemmas.accounts.Well.{armed_left}
use Rattle.gs_laws_runs.proofs.lemmas.plain.Unleased.{left_on, still_armed}
use Rattle.gs_laws_runs.proofs.lemmas.plain.Writing.{Keeps, Turns, Writes, writes}
use Rattle.gs_laws_runs.specs.plain.Over.{EachWritesNoEdit, WritesNoEdit}
use Rattle.gs_laws_runs.specs.plain.Written.{records_at}

plainly : (config : Config) (heard : Heard) (s : State) (t : Turn) → Chain config (IsMadeWell config heard) s t → Chain config (IsMade config heard) s t
plainly config heard s t (Rests u said) = Rests u said
plainly config heard s t (Moves u move said made) = Moves u move said made.made
plainly config heard s t (Then u first next a b) = Then u first next (plainly config heard u first a) (plainly config heard first.after next b)

pub any_taken : (f : PlainEntry → Bool) (many : ℕ) (xs : List PlainEntry) → list_any f xs ≡ false → list_any f (take many xs) ≡ false
any_taken f zero xs none = refl
any_taken f (suc many) [] none = refl
any_taken f (suc many) (x ∷ xs) none = by_head (f x) none (any_taken f many xs)
  where
    by_head : (b : Bool) → (b || list_any f xs) ≡ false → (list_any f xs ≡ false → list_any f (take many xs) ≡ false) → (b || list_any f (take many xs)) ≡ false
    by_head true h rest = absurd (true≢false h)
    by_head false h rest = rest h

edits_usual : (by : ReqId) (edits : List PlainEdit) → list_all plain (map (Edited by) edits) ≡ true
edits_usual by [] = refl
edits_usual by (edit ∷ edits) = edits_usual by edits

module _ (req : ReqId) where
  abbrev IsOverIn : State → Type 0
  IsOverIn s = IsOver s.durable s.volatile req × (was_told s.durable req ≡ true)

  turn_over : (config : Config) (heard : Heard) (s : State) (t : Turn) → EndsOnce config (IsMadeWell config heard) s t → IsOverIn s → IsOverBy req s t
  turn_over config heard s t turn k = chained_over req config heard s t (plainly config heard s t (once_chain config (IsMadeWell config heard) s t turn)) k.0

  behind_turn : (s : State) (t : Turn) → IsOverBy req s t → was_told s.durable req ≡ true → IsOverIn t.after
  behind_turn s t k told = (k.over, k.told told)

  -- what stands of a turn that is cut
  cut_told : (config : Config) (heard : Heard) (s : State) (records : List PlainEntry) (d : Durable) → CutLeaves config heard s records d → IsOverIn s → was_told d req ≡ true
  cut_told config heard s records d (Leads t more turn are silent fits links) k =
      ap (λ m. not (is_later (fin.get m req.client) req.number)) links.replies ∙ (turn_over config heard s t turn k).told k.1
  cut_told config heard s records d (Scanned removed forgotten many well are fit) k =
      records_told (take many (map (Edited own_request) (scan_edits removed forgotten))) s.durable d req (tested plain many (map (Edited own_request) (scan_edits removed forgotten)) (edits_usual own_request (scan_edits removed forgotten)))
      (ap (replayed s.durable) (sym are) ∙ fit) k.1

module _ {D : Type 0} (x : Setup D) (req : ReqId) where
  -- it is over where the master stands, and told by a record; and told where its disks wait
  abbrev IsOverAt : MasterPlace D → Type 0
  IsOverAt (Standing m) = IsOverIn req m.state
  IsOverAt (Closed first second) = (d : Durable) → IsToldIn (standing (x.seen first) (x.seen second)) d → was_told d req ≡ true
  IsOverAt Away = Unit {0}

  told_of : (place : MasterPlace D) (d : Durable) → HasDurable x.seen place d → IsOverAt place → was_told d req ≡ true
  told_of (Standing m) d has k = subst (λ (e : Durable). was_told e req ≡ true) has k.1
  told_of (Closed first second) d has k = k d has
  told_of Away d has k = absurd has

  starts_over : (d : Durable) (log : Log) → was_told d req ≡ true → IsOverIn req (restarted d log)
  starts_over d log told = (record { answered = told_is d (unlisted d) req ∙ told; rests = refl }, told)

  armed_over : (place other : MasterPlace D) → IsArmed x.seen place other → IsOverAt place → IsOverAt other
  armed_over (Standing m) other (j, to, alike) k = subst IsOverAt (sym to) k
  armed_over (Closed first second) other (one, two, to, same, alike) k =
      subst IsOverAt (sym to) (subst (λ t. (d : Durable) → IsToldIn t d → was_told d req ≡ true) (sym (ap (λ s. standing s (x.seen two)) same ∙ ap (standing (x.seen first)) alike)) k)
  armed_over Away other to k = subst IsOverAt (sym to) k

  waits_told : (first second : D) (d : Durable) → IsToldIn (standing (x.seen first) (x.seen second)) d → was_told d req ≡ true → IsOverAt (Closed first second)
  waits_told first second d told is e other = subst (λ f. was_told f req ≡ true) (told_once (standing (x.seen first) (x.seen second)) d e told other) is

  over_does : (armed : DiskId → ℕ → MasterPlace D → MasterPlace D) → ((disk : DiskId) (call : ℕ) (place : MasterPlace D) → IsArmed x.seen place (armed disk call place)) → (sent : Sent) (old new : MasterPlace D) (messages : List Message) → MasterDoes x.seen armed sent old new messages → IsOverAt old → IsOverAt new
  over_does armed arming sent old new messages (MovesAt m after heard t at to was turn state sends) k =
      let was_over = subst IsOverAt at k in
      subst IsOverAt (sym to) (subst (IsOverIn req) (sym state) (behind_turn req m.state t (turn_over req m.config heard m.state t turn was_over) was_over.1))
  over_does armed arming sent old new messages (Starts config d log after t has kept counters to turn state sends) k =
      let starts = starts_over d log (told_of old d has k) in
      subst IsOverAt (sym to) (subst (IsOverIn req) (sym state) (behind_turn req (restarted d log) t (turn_over req config _ (restarted d log) t turn starts) starts.1))
  over_does armed arming sent old new messages (Waits d first second has kept counters to told sends) k = subst IsOverAt (sym to) (waits_told first second d told (told_of old d has k))
  over_does armed arming sent old new messages (Refuses caller same sends) k = subst IsOverAt (sym same) k
  over_does armed arming sent old new messages (Arms disk call is sends) k = subst IsOverAt (sym is) (armed_over old (armed disk call old) (arming disk call old) k)

  over_left : IsGiven x → (sent : Sent) (old new : MasterPlace D) (messages : List Message) → Lasts x.seen (as_left old) → MasterDoesAll x.seen x.armed sent old new messages → IsOverAt (as_left old) → IsOverAt (as_left new)
  over_left given sent old new messages lasts (Does sound does) k = over_does (λ disk call place. place) (λ disk call place. still_armed x.seen place) sent (as_left old) (as_left new) messages does k
  over_left given sent old new messages lasts (Cuts m after heard caller t place many said d first second at there was turn cut least within stand master kept counters told) k =
      subst IsOverAt (sym master)
      (waits_told first second d told (cut_told req m.config heard m.state (take many t.records) d (cut_leaves m.config heard m.state t many d turn within stand) (subst IsOverAt at k)))
  over_left given sent old new messages lasts (KeepsAll m after heard caller at there failed still same was answers) k = subst IsOverAt (sym same) k
  over_left given sent old new messages lasts (Arranges disk call is none) k =
      subst (λ p. IsOverAt (as_left p)) (sym is) (armed_over (as_left old) (as_left (x.armed disk call old)) (armed_left x.seen old (x.armed disk call old) (given.armed disk call old)) k)

module _ (sizes : HaveSizes) (law : AreNumbered) {D : Type 0} (x : Setup D) (req : ReqId) where
  -- what a step writes
  writes_none : (step : Step) (old new : History D) (a b : Account) → IsReached x old a → MovesTo x step old a new b → IsOverAt x req (as_left old.nodes.master) → Writes (records_at step old) old.nodes.master new.nodes.master a.durable b.durable → WritesNoEdit req step old a b
  writes_none step old new a b r moves over (Keeps same) = record { written = 0; records = ap Some (sym same); none = refl }
  writes_none step old new a b r moves over (Turns m heard t many all at first turn written low stands are but whole) =
      let k = chained_over req m.config heard m.state t (once_chain m.config (IsMade m.config heard) m.state t turn) (subst (IsOverAt x req) at over).0 in
      let is = taken_of many all t.records (records_at step old) are low in
      record { written = many; records = ap (replayed a.durable) (sym is) ∙ stands; none = ap (list_any (tells_edit_of req)) (sym is) ∙ any_taken (tells_edit_of req) many t.records k.edits }

  runs_write_none : (steps : List Step) (old new : History D) (a b : Account) → IsReached x old a → IsOverAt x req (as_left old.nodes.master) → (runs : Runs x steps old a new b) → EachWritesNoEdit x req steps old a new b runs
  runs_write_none [] old new a b r over runs = tt
  runs_write_none (step ∷ steps) old new a b r over (mid, c, one, rest) =
      let given = r.begins.given in
      let well = reached_well x old a r in (
        writes_none step old mid a c r one over (writes x given step old mid a.durable c.durable well one.steps (had sizes law x step old mid a c r one) (has sizes law x step old mid a c r one)),
        runs_write_none steps mid new c b (reach_more x old mid a c (step ∷ []) r (mid, c, one, (refl, refl)))
            (left_on x (IsOverAt x req) given (over_left x req given) step old mid well one.steps over) rest,
      )

  pub over_makes_no_edits : (old new : History D) (a b : Account) (steps : List Step) (m : _) → IsReached x old a → as_left old.nodes.master ≡ Standing m → IsOver m.state.durable m.state.volatile req → was_told m.state.durable req ≡ true
      → (runs : Runs x steps old a new b) → EachWritesNoEdit x req steps old a new b runs
  over_makes_no_edits old new a b steps m r at over told runs = runs_write_none steps old new a b r (subst (IsOverAt x req) (sym at) (over, told)) runs
