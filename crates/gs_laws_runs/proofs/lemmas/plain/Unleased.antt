-- A chunk that stands in several places has no lease, in each world of a run.
use Rattle.std.proofs.Common.{◌≡◌, ◌∙◌, ℕ, true, List, [], ◌∷◌, refl, sym, ap, subst}
use Rattle.std.specs.Prelude.{map, nat_lt, take, Some}
use Rattle.std.proofs.lemmas.Bool.{false≢true}
use Rattle.std.specs.Ordering.{nat_cmp}
use Rattle.std.specs.FinMap as fin
use Rattle.gs_base.specs.declared.config.Config.{Config}
use Rattle.gs_journal.specs.Records.{standing}
use Rattle.gs_laws_moves.proofs.lemmas.moves.Fitting.{once_chain}
use Rattle.gs_laws_moves.proofs.lemmas.moves.Sharing.{each_move_shares, starts_shared}
use Rattle.gs_laws_moves.specs.moves.Epochs.{EndsOnce}
use Rattle.gs_laws_moves.specs.moves.Guards.{Heard}
use Rattle.gs_laws_moves.specs.moves.Laws.{IsMadeWell}
use Rattle.gs_laws_moves.specs.moves.Moves.{Chain, Moves, Rests, Then}
use Rattle.gs_laws_moves.specs.moves.Shared.{HasNoTerm, IsSharedSo}
use Rattle.gs_master_spec.specs.Calls.{is_shared}
use Rattle.gs_master_spec.specs.Durable.{Durable, start}
use Rattle.gs_master_spec.specs.Handling.{restarted}
use Rattle.gs_master_spec.specs.State.{State, Turn}
use Rattle.gs_msg.specs.declared.message.Message.{Message}
use Rattle.gs_nodes.specs.declared.place.MasterPlace.{MasterPlace}
use Rattle.gs_nodes.specs.declared.place.MasterPlace.TheVariants.{Away, Closed, Standing}
use Rattle.gs_refs.specs.Counts.{count_or_zero}
use Rattle.gs_world.specs.Histories.{History}
use Rattle.gs_laws_world.specs.lasting.Lasting.{IsToldIn, Lasts, OpensAs}
use Rattle.gs_world.specs.Runs.{Step}
use Rattle.gs_world.specs.Sent.{Sent}
use Rattle.gs_laws_chunks.proofs.lemmas.accounts.Once.{told_once}
use Rattle.gs_laws_chunks.proofs.lemmas.accounts.Told.{named}
use Rattle.gs_laws_chunks.specs.accounts.Accounts.{Account}
use Rattle.gs_laws_chunks.specs.accounts.Running.{IsArmed, IsGiven, IsReached, Runs, Setup, StepsWithin}
use Rattle.gs_laws_lift.proofs.lemmas.stores.Beginning.{begins_told}
use Rattle.gs_laws_lift.proofs.lemmas.stores.Placing.{kind_of}
use Rattle.gs_laws_lift.specs.stores.Doing.{Arms, HasDurable, MasterDoes, Moves as MovesAt, Refuses, Starts, Waits}
use Rattle.gs_laws_lift.specs.stores.Going.{Elsewhere, Kind, OfMaster, OfServer}
use Rattle.gs_laws_lift.proofs.lemmas.stores.DoingAll.{masters_do_all}
use Rattle.gs_laws_lift.specs.stores.Left.{Arranges, Cuts, Does, Keeps, MasterDoesAll, as_left}
use Rattle.gs_laws_chunks.proofs.lemmas.accounts.Well.{IsWell, armed_left, begins_well, left_so, step_well, well_lasts}
use Rattle.gs_laws_runs.proofs.lemmas.plain.Cut.{CutLeaves, Leads, Scanned, cut_leaves, tested}
use Rattle.gs_laws_runs.proofs.lemmas.plain.Scans.{of_scan, scan_shared}
use Rattle.gs_laws_moves.proofs.lemmas.moves.Asked.{scan_usual}
use Rattle.gs_laws_moves.proofs.lemmas.moves.Leaving.{leaves_view, records_view}
use Rattle.gs_master_record.specs.Plain.{Edited, PlainEntry}
use Rattle.gs_master_spec.specs.Applied.{replayed}
use Rattle.gs_master_spec.specs.Settling.{own_request}
use Rattle.gs_master_spec.specs.Working.{scan_edits}
use Rattle.gs_edit.specs.View.{NamesView}
use Rattle.gs_lease.specs.declared.view.View.{View}
use Rattle.gs_msg.specs.declared.event.DiskId.{DiskId}
use Rattle.gs_laws_world.proofs.lemmas.lasting.Lasting.{begins_firm}

-- ---- what holds where what is left of the master is, over a run

module _ {D : Type 0} (x : Setup D) (Holds : MasterPlace D → Type 0) (given : IsGiven x)
    (on : (sent : Sent) (old new : MasterPlace D) (messages : List Message) → Lasts x.seen (as_left old) → MasterDoesAll x.seen x.armed sent old new messages → Holds (as_left old) → Holds (as_left new)) where
  pub left_on : (step : Step) (old mid : History D) → IsWell x old → StepsWithin x step old mid → Holds (as_left old.nodes.master) → Holds (as_left mid.nodes.master)
  left_on step old mid well one h = by_kind (kind_of x.seen x.failures x.armed step old mid one.goes (named x step old one.within well.types))
    where
      by_kind : Kind x.seen x.failures x.armed step old mid → Holds (as_left mid.nodes.master)
      by_kind (OfServer id s after messages moment found goes met servers master posted) = subst (λ p. Holds (as_left p)) (sym master) h
      by_kind (Elsewhere by messages moment are servers master posted) = subst (λ p. Holds (as_left p)) (sym master) h
      by_kind (OfMaster place messages moment goes servers master posted) =
          subst (λ p. Holds (as_left p)) (sym master)
          (on old.sent old.nodes.master place messages (well_lasts x old well)
          (masters_do_all x.seen x.failures x.armed old.nodes.config old.sent old.nodes.master place messages (well_lasts x old well) (subst (λ p. Lasts x.seen (as_left p)) master (well_lasts x mid (step_well x given step old mid well one))) goes) h)

  pub left_over : (steps : List Step) (old new : History D) (a b : Account) → Runs x steps old a new b → IsWell x old → Holds (as_left old.nodes.master) → Holds (as_left new.nodes.master)
  left_over [] old new a b runs well h = subst (λ (k : History D). Holds (as_left k.nodes.master)) (sym runs.0) h
  left_over (step ∷ steps) old new a b (mid, c, one, rest) well h = left_over steps mid new c b rest (step_well x given step old mid well one.steps) (left_on step old mid well one.steps h)

-- a failure that is arranged at nothing
pub still_armed : {D : Type 0} (seen : D → List ℕ) (place : MasterPlace D) → IsArmed seen place place
still_armed seen (Standing m) = (m.journal, refl, record { first = refl; second = refl; others = refl })
still_armed seen (Closed first second) = (first, second, refl, refl, refl)
still_armed seen Away = refl

-- ---- a chunk that stands in several places

module _ (chunk : ℕ) where
  shared_over : (config : Config) (heard : Heard) (s : State) (t : Turn) → Chain config (IsMadeWell config heard) s t → IsSharedSo s chunk → IsSharedSo t.after chunk
  shared_over config heard s t (Rests u said) k = k
  shared_over config heard s t (Moves u move said made) k = each_move_shares config heard u move chunk made.made k
  shared_over config heard s t (Then u first next a b) k = shared_over config heard first.after next b (shared_over config heard u first a k)

  shared_turn : (config : Config) (heard : Heard) (s : State) (t : Turn) → EndsOnce config (IsMadeWell config heard) s t → IsSharedSo s chunk → IsSharedSo t.after chunk
  shared_turn config heard s t turn k = shared_over config heard s t (once_chain config (IsMadeWell config heard) s t turn) k

  -- so it is of what stands of a turn that is cut
  shared_cut : (config : Config) (heard : Heard) (s : State) (records : List PlainEntry) (d : Durable) → CutLeaves config heard s records d → IsSharedSo s chunk → is_shared d.names chunk ≡ true → HasNoTerm d chunk
  shared_cut config heard s records d (Leads t more turn are silent fits links) k shared =
      let none = (shared_turn config heard s t turn k (ap (λ (n : NamesView). is_shared n chunk) (sym links.names) ∙ shared)).term in record { term = λ y has. none.term y (sym (links.rows chunk) ∙ has) }
  shared_cut config heard s records d (Scanned removed forgotten many well are fit) k shared =
      let edits = scan_edits removed forgotten in
      let replays : replayed s.durable (take many (map (Edited own_request) edits)) ≡ Some d = ap (replayed s.durable) (sym are) ∙ fit in
      let none = (k (scan_shared chunk edits many s.durable d (of_scan removed forgotten) replays shared)).term in
      let view = records_view chunk (take many (map (Edited own_request) edits)) s.durable d (tested (leaves_view chunk) many (map (Edited own_request) edits) (scan_usual chunk own_request edits)) replays in
      record { term = λ y has. (let p = view y has in ap (λ (v : View). v.term) (sym p.2) ∙ none.term p.0 p.1) }

module _ {D : Type 0} (x : Setup D) (chunk : ℕ) where
  -- so it is where the master is
  abbrev IsSharedAt : MasterPlace D → Type 0
  IsSharedAt (Standing m) = IsSharedSo m.state chunk
  IsSharedAt (Closed first second) = (d : Durable) → IsToldIn (standing (x.seen first) (x.seen second)) d → is_shared d.names chunk ≡ true → HasNoTerm d chunk
  IsSharedAt Away = Unit {0}

  -- and of what is durable there
  has_no_term : (place : MasterPlace D) (d : Durable) → HasDurable x.seen place d → IsSharedAt place → is_shared d.names chunk ≡ true → HasNoTerm d chunk
  has_no_term (Standing m) d has k = subst (λ (e : Durable). is_shared e.names chunk ≡ true → HasNoTerm e chunk) has (λ more. (k more).term)
  has_no_term (Closed first second) d has k = k d has
  has_no_term Away d has k = absurd has

  armed_shared : (place other : MasterPlace D) → IsArmed x.seen place other → IsSharedAt place → IsSharedAt other
  armed_shared (Standing m) other (j, to, alike) k = subst IsSharedAt (sym to) k
  armed_shared (Closed first second) other (one, two, to, same, alike) k =
      subst IsSharedAt (sym to) (subst (λ t. (d : Durable) → IsToldIn t d → is_shared d.names chunk ≡ true → HasNoTerm d chunk) (sym (ap (λ s. standing s (x.seen two)) same ∙ ap (standing (x.seen first)) alike)) k)
  armed_shared Away other to k = subst IsSharedAt (sym to) k

  shared_does : (armed : DiskId → ℕ → MasterPlace D → MasterPlace D) → ((disk : DiskId) (call : ℕ) (place : MasterPlace D) → IsArmed x.seen place (armed disk call place)) → (sent : Sent) (old new : MasterPlace D) (messages : List Message) → MasterDoes x.seen armed sent old new messages → IsSharedAt old → IsSharedAt new
  shared_does armed arming sent old new messages (MovesAt m after heard t at to was turn state sends) k =
      subst IsSharedAt (sym to) (subst (λ s. IsSharedSo s chunk) (sym state) (shared_turn chunk m.config heard m.state t turn (subst IsSharedAt at k)))
  shared_does armed arming sent old new messages (Starts config d log after t has kept counters to turn state sends) k =
      subst IsSharedAt (sym to) (subst (λ s. IsSharedSo s chunk) (sym state) (shared_turn chunk config _ (restarted d log) t turn (starts_shared d log chunk (has_no_term old d has k))))
  shared_does armed arming sent old new messages (Waits d first second has kept counters to told sends) k =
      subst IsSharedAt (sym to) (λ e other. subst (λ f. is_shared f.names chunk ≡ true → HasNoTerm f chunk) (told_once (standing (x.seen first) (x.seen second)) d e told other) (has_no_term old d has k))
  shared_does armed arming sent old new messages (Refuses caller same sends) k = subst IsSharedAt (sym same) k
  shared_does armed arming sent old new messages (Arms disk call is sends) k = subst IsSharedAt (sym is) (armed_shared old (armed disk call old) (arming disk call old) k)

  -- in a new store no chunk stands anywhere
  none_shared : is_shared start.names chunk ≡ true → HasNoTerm start chunk
  none_shared more = absurd (false≢true (sym (ap (λ o. nat_lt 1 (count_or_zero o)) (fin.get-empty nat_cmp chunk)) ∙ more))

  shared_first : (place : MasterPlace D) → OpensAs x.seen start place → IsSharedAt place
  shared_first place (after, is, state, firm) = subst IsSharedAt (sym is) (subst (λ s. IsSharedSo s chunk) (sym state) (starts_shared start after.state.log chunk none_shared))

  shared_left : IsGiven x → (sent : Sent) (old new : MasterPlace D) (messages : List Message) → Lasts x.seen (as_left old) → MasterDoesAll x.seen x.armed sent old new messages → IsSharedAt (as_left old) → IsSharedAt (as_left new)
  shared_left given sent old new messages lasts (Does sound does) k = shared_does (λ disk call place. place) (λ disk call place. still_armed x.seen place) sent (as_left old) (as_left new) messages does k
  shared_left given sent old new messages lasts (Cuts m after heard caller t place many said d first second at there was turn cut least within stand master kept counters told) k =
      subst IsSharedAt (sym master)
      (λ e other. subst (λ f. is_shared f.names chunk ≡ true → HasNoTerm f chunk) (told_once (standing (x.seen first) (x.seen second)) d e told other)
      (shared_cut chunk m.config heard m.state (take many t.records) d (cut_leaves m.config heard m.state t many d turn within stand) (subst IsSharedAt at k)))
  shared_left given sent old new messages lasts (Keeps m after heard caller at there failed still same was answers) k = subst IsSharedAt (sym same) k
  shared_left given sent old new messages lasts (Arranges disk call is none) k =
      subst (λ p. IsSharedAt (as_left p)) (sym is) (armed_shared (as_left old) (as_left (x.armed disk call old)) (armed_left x.seen old (x.armed disk call old) (given.armed disk call old)) k)

  -- So it is behind each run.
  pub no_lease_where_shared : (now : History D) (a : Account) → IsReached x now a → HasDurable x.seen (as_left now.nodes.master) a.durable → is_shared a.durable.names chunk ≡ true → HasNoTerm a.durable chunk
  no_lease_where_shared now a r has =
      let given = r.begins.given in
      let well = begins_well x given r.begun r.begins.begins in
      has_no_term (as_left now.nodes.master) a.durable has
      (left_over x IsSharedAt given (shared_left given) r.steps r.begun now r.first a r.runs well
      (subst IsSharedAt (sym (left_so x.seen r.begun.nodes.master (begins_firm x.seen x.failures x.armed x.config x.clients x.disks r.begun given.new r.begins.begins)))
      (shared_first r.begun.nodes.master (begins_told x.seen x.failures x.armed x.config x.clients x.disks r.begun given.new r.begins.begins))))
