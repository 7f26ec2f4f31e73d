-- A turn is a chain of moves within an upgrade, or one by which an upgrade begins or ends; and which records a chain within an upgrade has.
use Rattle.std.proofs.Common.{◌≡◌, ◌∙◌, inl, inr, ◌&&◌, ◌++◌, ℕ, Bool, true, false, List, [], ◌∷◌, refl, ap, subst, sym}
use Rattle.std.specs.Prelude.{map, option_and_then, is_some, Option, Some, None, if◌then◌else◌}
use Rattle.std.specs.List.{AllByRecursion, list_all}
use Rattle.std.proofs.lemmas.Bool.{false≢true, true≢false, and_parts}
use Rattle.gs_base.specs.declared.config.Config.{Config}
use Rattle.gs_base.specs.declared.numbers.ReqId.{ReqId}
use Rattle.gs_base.specs.declared.refusal.Refusal.{Refusal}
use Rattle.gs_journal.specs.declared.version.Version.TheVariants.{Two}
use Rattle.gs_lease.specs.declared.view.View.{View}
use Rattle.gs_path.specs.Path.{Path}
use Rattle.gs_master_record.specs.Plain.{PlainEntry, Edited, Remove, Said, Settle}
use Rattle.gs_master_record.specs.Writable.{IsEntry}
use Rattle.gs_master_spec.specs.Applied.{applied, replayed}
use Rattle.gs_master_spec.specs.Chunks.{holder_records, is_holder, target_of}
use Rattle.gs_master_spec.specs.Durable.{Durable, prepared_view}
use Rattle.gs_master_spec.specs.Settling.{own_request}
use Rattle.gs_master_spec.specs.State.{State, Turn, fits, joined, keeps_refusal, said_records}
use Rattle.gs_master_spec.specs.Working.{forget_if}
use Rattle.gs_laws_master.specs.Promises.{AllFit, goes_on_within}
use Rattle.gs_laws_master.specs.Reached.{GoWithin}
use Rattle.gs_laws_moves.proofs.lemmas.moves.Fitting.{mapped}
use Rattle.gs_laws_moves.proofs.lemmas.moves.Stands.{is_checkpoint}
use Rattle.gs_laws_moves.specs.moves.Epochs.{ByItself, Closes, EndsOnce, Within as WithinEpoch, closes, is_alone, is_followed}
use Rattle.gs_laws_moves.specs.moves.Guards.{Heard, IsMade}
use Rattle.gs_laws_moves.specs.moves.Moves.{Chain, Rests, Moves, Then, Alone, FromNow, Further, Move, Begins, Copies, Settles, Scans, Refuses, Answers as AnswersCall, Prepares, Finalizes, CommitsRollback, Checkpoints, move_turn}

durable_is : {a b : Durable} → ◌≡◌ {A = Option Durable} (Some a) (Some b) → a ≡ b
durable_is h = cc

-- ---- what the records of a move are

said_within : (s : State) (req : ReqId) (refusal : Refusal) → list_all goes_on_within (said_records (keeps_refusal s req refusal) s.log req refusal) ≡ true
said_within s req refusal = by_test (keeps_refusal s req refusal && fits s.log (Said req refusal ∷ []))
  where
    by_test : (b : Bool) → list_all goes_on_within (if b then Said req refusal ∷ [] else []) ≡ true
    by_test true = refl
    by_test false = refl

settle_within : (b : Bool) (q : ℕ) (target : Option ℕ) (view : View) → list_all goes_on_within (holder_records b q target ++ Settle (record { handle = q; view = view }) ∷ []) ≡ true
settle_within b q None view = refl
settle_within true q (Some target) view = refl
settle_within false q (Some target) view = refl

scan_within : (removed : List Path) (forgotten : List ℕ) → list_all goes_on_within (map (Edited own_request) (map (λ path. Remove path) removed ++ forget_if forgotten)) ≡ true
scan_within [] [] = refl
scan_within [] (c ∷ forgotten) = refl
scan_within (path ∷ removed) forgotten = scan_within removed forgotten

-- ---- records one behind the other

both_of : (xs ys : List PlainEntry) → AllByRecursion (IsEntry Two) (xs ++ ys) → AllByRecursion (IsEntry Two) xs × AllByRecursion (IsEntry Two) ys
both_of [] ys all = (tt, all)
both_of (x ∷ xs) ys all = (let rest = both_of xs ys all.1 in ((all.0, rest.0), rest.1))

fit_on : (d mid : Durable) (xs ys : List PlainEntry) → replayed d xs ≡ Some mid → replayed d (xs ++ ys) ≡ replayed mid ys
fit_on d mid [] ys fit = ap (λ n. replayed n ys) (durable_is fit)
fit_on d mid (x ∷ xs) ys fit = by_first (applied d x) refl fit (λ n h. fit_on n mid xs ys h)
  where
    by_first : (o : Option Durable) → applied d x ≡ o → option_and_then (λ n. replayed n xs) o ≡ Some mid → ((n : Durable) → replayed n xs ≡ Some mid → replayed n (xs ++ ys) ≡ replayed mid ys) → replayed d (x ∷ xs ++ ys) ≡ replayed mid ys
    by_first None is h rest = absurd (false≢true (ap is_some h))
    by_first (Some n) is h rest = ap (option_and_then (λ n. replayed n (xs ++ ys))) is ∙ rest n h

go_within : (now : Durable) (entries : List PlainEntry) → list_all goes_on_within entries ≡ true → AllByRecursion (IsEntry Two) entries → GoWithin now entries
go_within now [] e written = tt
go_within now (entry ∷ entries) e written = (let parts = and_parts (goes_on_within entry) (list_all goes_on_within entries) e in (inl (parts.0, written.0), λ next is. go_within next entries parts.1 written.1))

go_on : (d mid : Durable) (xs ys : List PlainEntry) → GoWithin d xs → replayed d xs ≡ Some mid → GoWithin mid ys → GoWithin d (xs ++ ys)
go_on d mid [] ys within fit rest = subst (λ n. GoWithin n ys) (sym (durable_is fit)) rest
go_on d mid (x ∷ xs) ys within fit rest = (within.0, λ next is. go_on next mid xs ys (within.1 next is) (sym (ap (option_and_then (λ n. replayed n xs)) is) ∙ fit) rest)

-- ---- turns

-- a move by which an upgrade begins, or ends
abbrev pub is_bound : Move → Bool
is_bound (Prepares req moment) = true
is_bound (Finalizes req) = true
is_bound (CommitsRollback req names) = true
is_bound move = false

module _ (config : Config) where
  within_records : (s : State) (move : Move) → is_bound move ≡ false → is_checkpoint move ≡ false → list_all goes_on_within (move_turn config s move).records ≡ true
  within_records s (Prepares req moment) within other = absurd (true≢false within)
  within_records s (Finalizes req) within other = absurd (true≢false within)
  within_records s (CommitsRollback req names) within other = absurd (true≢false within)
  within_records s Checkpoints within other = absurd (true≢false other)
  within_records s (Begins q purpose call Alone) within other = refl
  within_records s (Begins q purpose call (FromNow req waiting)) within other = refl
  within_records s (Begins q purpose call (Further req waiting)) within other = refl
  within_records s (Copies old view req Alone) within other = refl
  within_records s (Copies old view req (FromNow by waiting)) within other = refl
  within_records s (Copies old view req (Further by waiting)) within other = refl
  within_records s (Settles q asking carried view) within other = settle_within (is_holder s.durable.phase (prepared_view s.durable q) carried asking view) q (target_of asking.purpose) view
  within_records s (Scans removed forgotten) within other = scan_within removed forgotten
  within_records s (Refuses req refusal over) within other = said_within s req refusal
  within_records s (AnswersCall req answer true) within other = refl
  within_records s (AnswersCall req answer false) within other = refl
  within_records s move within other = refl

  move_within : (s : State) (move : Move) → is_bound move ≡ false → AllByRecursion (IsEntry Two) (move_turn config s move).records → GoWithin s.durable (move_turn config s move).records
  move_within s Checkpoints within written = (inr refl, λ next is. tt)
  move_within s move within written = go_within s.durable (move_turn config s move).records (within_records s move within refl) written

module _ (config : Config) (heard : Heard) where
  abbrev pub Within : State → Turn → Type 0
  Within s t = Chain config (λ u move. IsMade config heard u move × (is_bound move ≡ false)) s t

  pub chain_within : (s : State) (t : Turn) → Within s t → AllByRecursion (IsEntry Two) t.records → GoWithin s.durable t.records × AllFit s t
  chain_within s t (Rests u said) written = (tt, refl)
  chain_within s t (Moves u move said made) written = (move_within config u move made.1 written, made.0.fits)
  chain_within s t (Then u first next a b) written =
      let parts = both_of first.records next.records written in
      let one = chain_within u first a parts.0 in
      let two = chain_within first.after next b parts.1 in
      (go_on u.durable first.after.durable first.records next.records one.0 one.1 two.0, fit_on u.durable first.after.durable first.records next.records one.1 ∙ two.1)

  -- A turn is within an upgrade, or one move by which one begins or ends.
  pub data Paced : State → Turn → Type 0 where
    Goes : (s : State) (t : Turn) → Within s t → Paced s t
    Turns : (s : State) (move : Move) (said : Option Refusal) → IsMade config heard s move → is_bound move ≡ true → Paced s (record (move_turn config s move) { said = said })

  not_alone : (move : Move) → is_alone move ≡ false → is_bound move ≡ false
  not_alone (Prepares req moment) e = e
  not_alone (Finalizes req) e = e
  not_alone (CommitsRollback req names) e = e
  not_alone move e = refl

  ends_calls : (move : Move) → closes move ≡ true → is_bound move ≡ false
  ends_calls (Prepares req moment) e = absurd (false≢true e)
  ends_calls (Finalizes req) e = absurd (false≢true e)
  ends_calls (CommitsRollback req names) e = absurd (false≢true e)
  ends_calls move e = refl

  is_followed_within : (move : Move) → is_followed move ≡ true → is_bound move ≡ false
  is_followed_within (Prepares req moment) e = absurd (false≢true e)
  is_followed_within (Finalizes req) e = absurd (false≢true e)
  is_followed_within (CommitsRollback req names) e = absurd (false≢true e)
  is_followed_within move e = refl

  pub paced : (s : State) (t : Turn) → EndsOnce config (IsMade config heard) s t → Paced s t
  paced s t (WithinEpoch u v chain) =
      Goes s t (mapped config (λ u move. IsMade config heard u move × (is_alone move ≡ false)) (λ u move. IsMade config heard u move × (is_bound move ≡ false)) (λ u move made. (made.0, not_alone move made.1)) s t chain)
  paced s t (ByItself u move said made is) = by_test (is_bound move) refl
    where
      by_test : (b : Bool) → is_bound move ≡ b → Paced s (record (move_turn config s move) { said = said })
      by_test true bound = Turns s move said made bound
      by_test false within = Goes s (record (move_turn config s move) { said = said }) (Moves s move said (made, within))
  paced s t (Closes u move said next made is chain) =
      let first = move_turn config s move in
      Goes s (joined (record first { said = said }) next)
      (Then s (record first { said = said }) next (Moves s move said (made, is_followed_within move is))
      (mapped config (λ u move. IsMade config heard u move × (closes move ≡ true)) (λ u move. IsMade config heard u move × (is_bound move ≡ false)) (λ u move made. (made.0, ends_calls move made.1)) first.after next chain))

  -- the records of such a turn fit
  pub turn_fits : (s : State) (t : Turn) → EndsOnce config (IsMade config heard) s t → AllByRecursion (IsEntry Two) t.records → AllFit s t
  turn_fits s t turn written = fits_so s t (paced s t turn) written
    where
      fits_so : (s : State) (t : Turn) → Paced s t → AllByRecursion (IsEntry Two) t.records → AllFit s t
      fits_so s t (Goes u next chain) written = (chain_within u next chain written).1
      fits_so s t (Turns u move said made bound) written = made.fits
