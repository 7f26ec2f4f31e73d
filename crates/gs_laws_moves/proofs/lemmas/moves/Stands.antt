-- What is durable stands before each move of a chain whose records can be written, and behind it.
use Rattle.std.proofs.Common.{◌≡◌, ◌∙◌, ◌<◌, ◌&&◌, ◌++◌, ℕ, zero, suc, Bool, true, false, not, List, [], ◌∷◌, length, refl, ap, sym, subst, arith}
use Rattle.std.specs.Prelude.{is_some, map, option_and_then, take, Option, Some, None, if◌then◌else◌}
use Rattle.std.specs.List.{AllByRecursion, list_all}
use Rattle.std.proofs.lemmas.Bool.{false≢true, true≢false, and_parts}
use Rattle.gs_base.specs.declared.config.Config.{Config}
use Rattle.gs_base.specs.declared.numbers.ReqId.{ReqId}
use Rattle.gs_base.specs.declared.refusal.Refusal.{Refusal}
use Rattle.gs_journal.specs.declared.version.Version.TheVariants.{Two}
use Rattle.gs_lease.specs.declared.view.View.{View}
use Rattle.gs_path.specs.Path.{Path}
use Rattle.gs_master_record.specs.Plain.{PlainEntry, Edited, Remove, Said, Settle}
use Rattle.gs_master_record.specs.Writable.{IsEntry}
use Rattle.gs_master_spec.specs.Applied.{applied, is_whole_entry, replayed}
use Rattle.gs_master_spec.specs.Chunks.{holder_records, is_holder, target_of}
use Rattle.gs_master_spec.specs.Durable.{Durable, prepared_view}
use Rattle.gs_master_spec.specs.Settling.{own_request}
use Rattle.gs_master_spec.specs.State.{State, fits, keeps_refusal, said_records, Turn}
use Rattle.gs_master_spec.specs.Working.{forget_if}
use Rattle.gs_laws_master.specs.Promises.{IsKept, IsWritten}
use Rattle.gs_laws_master.specs.Standing.{Event, Comes, Ticks, Renews, Restarts, turn_of}
use Rattle.gs_laws_master.proofs.lemmas.keeping.KeptAll.{keeps_all, tidied_kept}
use Rattle.gs_laws_master.proofs.lemmas.telling.Writing.{events_written}
use Rattle.gs_laws_moves.proofs.lemmas.moves.Fitting.{chain_leaves, once_mapped, split}
use Rattle.gs_laws_moves.proofs.lemmas.moves.Made.{events_are_chains, events_are_for}
use Rattle.gs_laws_moves.specs.moves.ForCalls.{EventsStandFor, IsFor}
use Rattle.gs_laws_moves.specs.moves.Epochs.{ByItself, Closes, EndsOnce, OnceStands, Within, closes, is_alone}
use Rattle.gs_laws_moves.specs.moves.Guards.{Heard, IsMade}
use Rattle.gs_laws_moves.specs.moves.Laws.{ChainsStand, CutsStand, EventsStand, IsMadeWell, heard_in, met_in}
use Rattle.gs_laws_moves.specs.moves.Moves.{Chain, Rests, Moves, Then, Alone, FromNow, Further, Move, Begins, Copies, Settles, Scans, Refuses, Answers as AnswersCall, Checkpoints, move_turn}

durable_is : {a b : Durable} → ◌≡◌ {A = Option Durable} (Some a) (Some b) → a ≡ b
durable_is k = cc

-- a record that is no checkpoint
abbrev pub plain : PlainEntry → Bool
plain entry = not (is_whole_entry entry)

pub no_whole : (b : Bool) → not b ≡ true → b ≡ false
no_whole true h = absurd (false≢true h)
no_whole false h = refl

-- records that can be written and are no checkpoints
records_kept : (entries : List PlainEntry) (d next : Durable) → list_all plain entries ≡ true → AllByRecursion (IsEntry Two) entries → IsKept d → replayed d entries ≡ Some next → IsKept next
records_kept [] d next none written k fit = subst IsKept (durable_is fit) k
records_kept (entry ∷ entries) d next none written k fit =
    let parts = and_parts (plain entry) (list_all plain entries) none in
    by_first (applied d entry) refl fit (λ n is h. records_kept entries n next parts.1 written.1 (keeps_all entry (no_whole (is_whole_entry entry) parts.0) d n written.0 k is) h)
  where
    by_first : (o : Option Durable) → applied d entry ≡ o → option_and_then (λ n. replayed n entries) o ≡ Some next → ((n : Durable) → applied d entry ≡ Some n → replayed n entries ≡ Some next → IsKept next) → IsKept next
    by_first None is h rest = absurd (false≢true (ap is_some h))
    by_first (Some n) is h rest = rest n is h

said_plain : (s : State) (req : ReqId) (refusal : Refusal) → list_all plain (said_records (keeps_refusal s req refusal) s.log req refusal) ≡ true
said_plain s req refusal = by_test (keeps_refusal s req refusal && fits s.log (Said req refusal ∷ []))
  where
    by_test : (b : Bool) → list_all plain (if b then Said req refusal ∷ [] else []) ≡ true
    by_test true = refl
    by_test false = refl

settle_plain : (b : Bool) (q : ℕ) (target : Option ℕ) (view : View) → list_all plain (holder_records b q target ++ Settle (record { handle = q; view = view }) ∷ []) ≡ true
settle_plain b q None view = refl
settle_plain true q (Some target) view = refl
settle_plain false q (Some target) view = refl

scan_plain : (removed : List Path) (forgotten : List ℕ) → list_all plain (map (Edited own_request) (map (λ path. Remove path) removed ++ forget_if forgotten)) ≡ true
scan_plain [] [] = refl
scan_plain [] (c ∷ forgotten) = refl
scan_plain (path ∷ removed) forgotten = scan_plain removed forgotten

some_plain : (many : ℕ) (xs : List PlainEntry) → list_all plain xs ≡ true → list_all plain (take many xs) ≡ true
some_plain zero xs all = refl
some_plain (suc many) [] all = refl
some_plain (suc many) (x ∷ xs) all = (let parts = and_parts (plain x) (list_all plain xs) all in ap (λ b. b && list_all plain (take many xs)) parts.0 ∙ some_plain many xs parts.1)

some_written : (many : ℕ) (xs : List PlainEntry) → AllByRecursion (IsEntry Two) xs → AllByRecursion (IsEntry Two) (take many xs)
some_written zero xs all = tt
some_written (suc many) [] all = tt
some_written (suc many) (x ∷ xs) all = (all.0, some_written many xs all.1)

abbrev pub is_checkpoint : Move → Bool
is_checkpoint Checkpoints = true
is_checkpoint move = false

module _ (config : Config) (heard : Heard) where
  -- but for a checkpoint no record of a move is one
  pub plain_records : (s : State) (move : Move) → is_checkpoint move ≡ false → list_all plain (move_turn config s move).records ≡ true
  plain_records s (Begins q purpose call Alone) other = refl
  plain_records s (Begins q purpose call (FromNow req waiting)) other = refl
  plain_records s (Begins q purpose call (Further req waiting)) other = refl
  plain_records s (Copies old view req Alone) other = refl
  plain_records s (Copies old view req (FromNow by waiting)) other = refl
  plain_records s (Copies old view req (Further by waiting)) other = refl
  plain_records s (Settles q asking carried view) other = settle_plain (is_holder s.durable.phase (prepared_view s.durable q) carried asking view) q (target_of asking.purpose) view
  plain_records s (Scans removed forgotten) other = scan_plain removed forgotten
  plain_records s (Refuses req refusal over) other = said_plain s req refusal
  plain_records s (AnswersCall req answer true) other = refl
  plain_records s (AnswersCall req answer false) other = refl
  plain_records s Checkpoints other = absurd (true≢false other)
  plain_records s move other = refl

  plain_kept : (s : State) (move : Move) → is_checkpoint move ≡ false → IsMade config heard s move → AllByRecursion (IsEntry Two) (move_turn config s move).records → IsKept s.durable → IsKept (move_turn config s move).after.durable
  plain_kept s move other made written k = records_kept (move_turn config s move).records s.durable (move_turn config s move).after.durable (plain_records s move other) written k made.fits

  pub move_kept : (s : State) (move : Move) → IsMade config heard s move → AllByRecursion (IsEntry Two) (move_turn config s move).records → IsKept s.durable → IsKept (move_turn config s move).after.durable
  move_kept s Checkpoints made written k = tidied_kept s.durable k
  move_kept s move made written k = plain_kept s move refl made written k

  -- so it is behind some of its records
  part_kept : (s : State) (move : Move) (many : ℕ) (d : Durable) → many < length (move_turn config s move).records → AllByRecursion (IsEntry Two) (take many (move_turn config s move).records) → IsKept s.durable
      → replayed s.durable (take many (move_turn config s move).records) ≡ Some d → IsKept d
  part_kept s Checkpoints zero d within written k fit = subst IsKept (durable_is fit) k
  part_kept s Checkpoints (suc many) d within written k fit = absurd (omega arith)
  part_kept s move many d within written k fit = records_kept (take many (move_turn config s move).records) s.durable d (some_plain many (move_turn config s move).records (plain_records s move refl)) written k fit

both_of : (xs ys : List PlainEntry) → AllByRecursion (IsEntry Two) (xs ++ ys) → AllByRecursion (IsEntry Two) xs × AllByRecursion (IsEntry Two) ys
both_of [] ys all = (tt, all)
both_of (x ∷ xs) ys all = (let rest = both_of xs ys all.1 in ((all.0, rest.0), rest.1))

pub chains_stand : ChainsStand
chains_stand config heard s t (Rests u said) written k = record { chain = Rests u said; behind = k }
chains_stand config heard s t (Moves u move said made) written k =
    let behind = move_kept config heard u move made written k in record { chain = Moves u move said (record { made = made; before = k; behind = behind }); behind = behind }
chains_stand config heard s t (Then u first next a b) written k =
    let parts = both_of first.records next.records written in
    let one = chains_stand config heard u first a parts.0 k in
    let two = chains_stand config heard first.after next b parts.1 one.behind in
    record { chain = Then u first next one.chain two.chain; behind = two.behind }

-- so it is of a turn that ends one epoch at most, whatever else holds of its moves
module _ (config : Config) (heard : Heard) (P : State → Move → Type 0) where
  abbrev Also : State → Move → Type 0
  Also u move = IsMade config heard u move × P u move

  abbrev WellAlso : State → Move → Type 0
  WellAlso u move = IsMadeWell config heard u move × P u move

  part_stands : (is : Move → Bool) (b : Bool) (s : State) (t : Turn) → Chain config (λ u move. Also u move × (is move ≡ b)) s t → IsWritten t → IsKept s.durable → Chain config (λ u move. WellAlso u move × (is move ≡ b)) s t × IsKept t.after.durable
  part_stands is b s t (Rests u said) written k = (Rests u said, k)
  part_stands is b s t (Moves u move said made) written k =
      let behind = move_kept config heard u move made.0.0 written k in (Moves u move said ((record { made = made.0.0; before = k; behind = behind }, made.0.1), made.1), behind)
  part_stands is b s t (Then u first next a c) written k =
      let parts = both_of first.records next.records written in
      let one = part_stands is b u first a parts.0 k in
      let two = part_stands is b first.after next c parts.1 one.1 in
      (Then u first next one.0 two.0, two.1)

  pub once_stands_also : (s : State) (t : Turn) → EndsOnce config Also s t → IsWritten t → IsKept s.durable → EndsOnce config WellAlso s t × IsKept t.after.durable
  once_stands_also s t (Within u v chain) written k = (let part = part_stands is_alone false s t chain written k in (Within s t part.0, part.1))
  once_stands_also s t (ByItself u move said made is) written k = (let behind = move_kept config heard u move made.0 written k in (ByItself s move said (record { made = made.0; before = k; behind = behind }, made.1) is, behind))
  once_stands_also s t (Closes u move said next made is chain) written k =
      let first = move_turn config s move in
      let parts = both_of first.records next.records written in
      let behind = move_kept config heard s move made.0 parts.0 k in
      let rest = part_stands closes true first.after next chain parts.1 behind in
      (Closes s move said next (record { made = made.0; before = k; behind = behind }, made.1) is rest.0, rest.1)

pub once_stands : OnceStands
once_stands config heard s t once written k =
    let all = once_stands_also config heard (λ u move. Unit {0}) s t (once_mapped config (IsMade config heard) (λ u move. IsMade config heard u move × Unit {0}) (λ u move made. (made, tt)) s t once) written k in
    record { turn = once_mapped config (λ u move. IsMadeWell config heard u move × Unit {0}) (IsMadeWell config heard) (λ u move both. both.0) s t all.0; behind = all.1 }

met_kept : (s : State) (event : Event) → IsKept s.durable → IsKept (met_in s event).durable
met_kept s (Comes message moment) k = k
met_kept s (Ticks moment) k = k
met_kept s Renews k = k
met_kept s Restarts k = k

pub events_stand : EventsStand
events_stand config s event named heard y =
    chains_stand config _ (met_in s event) (turn_of config s event) (events_are_chains config s event named y.firm) (events_written config s event named heard y).written (met_kept s event y.firm.stands.kept)

pub events_stand_for : EventsStandFor
events_stand_for config s event named heard y =
    (once_stands_also config (heard_in event) (IsFor (heard_in event)) (met_in s event) (turn_of config s event) (events_are_for config s event named y.firm) (events_written config s event named heard y).written (met_kept s event y.firm.stands.kept)).0

pub cuts_stand : CutsStand
cuts_stand config heard s t place d c written fit =
    let records = (move_turn config c.before.after c.move).records in
    let all = subst (AllByRecursion (IsEntry Two)) c.stand (some_written place t.records written) in
    let parts = split c.before.records (take c.many records) s.durable d (ap (replayed s.durable) (sym c.stand) ∙ fit) in
    let left = chain_leaves config heard (IsMadeWell config heard) (λ u move well. well.made.may) s c.before parts.mid c.chain parts.first in
    part_kept config heard c.before.after c.move c.many d c.within (both_of c.before.records (take c.many records) all).1 c.holds.before (subst (λ m. replayed m (take c.many records) ≡ Some d) (sym left) parts.then)
