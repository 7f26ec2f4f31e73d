-- A chunk that a file has, or had, stays such over each record that forgets none, and so over each move that isn't alone. A handle that was given stays so.
use Rattle.std.proofs.Common.{◌≡◌, ◌∙◌, ◌&&◌, ◌++◌, ℕ, Bool, true, false, List, [], ◌∷◌, refl, ap, sym, subst}
use Rattle.std.specs.Prelude.{if◌then◌else◌, is_some, nat_lt, option_and_then, Option, Some, None, Result, Ok, Err}
use Rattle.std.specs.FinMap as fin
use Rattle.std.specs.List.{list_all}
use Rattle.std.proofs.lemmas.Bool.{false≢true, true≢false, and_parts}
use Rattle.gs_base.specs.declared.config.Config.{Config}
use Rattle.gs_base.specs.declared.numbers.ReqId.{ReqId}
use Rattle.gs_base.specs.declared.refusal.Refusal.{Refusal}
use Rattle.gs_edit.proofs.References.{among}
use Rattle.gs_edit.specs.View.{NamesView}
use Rattle.gs_lease.specs.declared.view.View.{View}
use Rattle.gs_master_record.specs.Plain.{Create, Edited, Hide, Holder, Mkdirs, PlainEdit, PlainEntry, Propose, Rename, Said, Settle, Snapshot, Unhide}
use Rattle.gs_master_spec.specs.Applied.{after_edit, applied, forgotten_by, held_by, is_whole_entry, may_be_settled, may_edit, may_propose, proposed, replayed, with_edit, with_view}
use Rattle.gs_master_spec.specs.Chunks.{holder_records, is_holder, target_of}
use Rattle.gs_master_spec.specs.Durable.{Durable, is_given, is_listed, is_upgrade, prepared_view, with_prepared}
use Rattle.gs_master_spec.specs.State.{State, fits, keeps_refusal, said_records}
use Rattle.gs_master_spec.specs.Undoing.{edited_names}
use Rattle.gs_master_spec.specs.Whole.{is_empty}
use Rattle.gs_laws_master.proofs.lemmas.upgrades.Beginnings.{fits_gives}
use Rattle.gs_laws_master.proofs.lemmas.keeping.Counters.{keeps_given}
use Rattle.gs_laws_master.proofs.lemmas.keeping.KeptEdits.{listed_after}
use Rattle.gs_laws_moves.proofs.lemmas.moves.Stands.{is_checkpoint, no_whole, plain, plain_records}
use Rattle.gs_laws_moves.specs.moves.Epochs.{is_alone}
use Rattle.gs_laws_moves.specs.moves.Guards.{Heard, IsMade, is_of_tree}
use Rattle.gs_laws_moves.specs.moves.Moves.{Alone, FromNow, Further, Move, Begins, Copies, Settles, Edits, Scans, Refuses, Answers as AnswersCall, Prepares, Finalizes, BeginsRollback, CommitsRollback, Checkpoints, move_turn}

durable_is : {a b : Durable} → ◌≡◌ {A = Option Durable} (Some a) (Some b) → a ≡ b
durable_is k = cc

-- what holds of each record of a kind holds of several
module _ (R : Durable → Durable → Type 0) (same : (d : Durable) → R d d) (onto : (d n e : Durable) → R d n → R n e → R d e) (f : PlainEntry → Bool) (one : (d e : Durable) (entry : PlainEntry) → f entry ≡ true → applied d entry ≡ Some e → R d e) where
  pub over_records : (entries : List PlainEntry) (d e : Durable) → list_all f entries ≡ true → replayed d entries ≡ Some e → R d e
  over_records [] d e all fit = subst (R d) (durable_is fit) (same d)
  over_records (entry ∷ entries) d e all fit =
      let parts = and_parts (f entry) (list_all f entries) all in by_first (applied d entry) refl fit (λ n is h. onto d n e (one d n entry parts.0 is) (over_records entries n e parts.1 h))
    where
      by_first : (o : Option Durable) → applied d entry ≡ o → option_and_then (λ n. replayed n entries) o ≡ Some e → ((n : Durable) → applied d entry ≡ Some n → replayed n entries ≡ Some e → R d e) → R d e
      by_first None is h rest = absurd (false≢true (ap is_some h))
      by_first (Some n) is h rest = rest n is h

-- ---- handles

abbrev GivenOn : ℕ → Durable → Durable → Type 0
GivenOn chunk d e = is_given d.next_handle chunk ≡ true → is_given e.next_handle chunk ≡ true

pub stays_given : (config : Config) (heard : Heard) (s : State) (move : Move) (chunk : ℕ) → IsMade config heard s move → GivenOn chunk s.durable (move_turn config s move).after.durable
stays_given config heard s Checkpoints chunk made given = given
stays_given config heard s move chunk made given =
    over_records (GivenOn chunk) (λ d here. here) (λ d n e a b here. b (a here)) plain (λ d e entry usual fit. (keeps_given entry d e chunk (no_whole (is_whole_entry entry) usual) fit).0) (move_turn config s move).records s.durable (move_turn config s move).after.durable
    (plain_records config heard s move refl) made.fits given

-- ---- files

-- a record that ends no epoch, is no checkpoint, and forgets no chunk
abbrev pub keeps_listed : PlainEntry → Bool
keeps_listed (Edited by edit) = is_empty (forgotten_by edit)
keeps_listed (Said to refusal) = true
keeps_listed (Propose chunk version) = true
keeps_listed (Settle v) = true
keeps_listed (Holder chunk server) = true
keeps_listed entry = false

abbrev pub ListedOn : ℕ → Durable → Durable → Type 0
ListedOn chunk d e = is_listed d chunk ≡ true → is_listed e chunk ≡ true

same_files : (chunk : ℕ) (d e : Durable) → e.names ≡ d.names → ListedOn chunk d e
same_files chunk d e same listed = ap (λ (n : NamesView). is_some (fin.get n.refs chunk)) same ∙ listed

edited_files : (chunk : ℕ) (d e : Durable) (by : ReqId) (edit : PlainEdit) (names : Result NamesView Refusal) → is_empty (forgotten_by edit) ≡ true → edited_names edit d.names ≡ names → after_edit d by edit names ≡ Some e → ListedOn chunk d e
edited_files chunk d e by edit (Ok names) keeps is fit listed =
    ap (λ (x : Durable). is_some (fin.get x.names.refs chunk)) (sym (fits_gives (may_edit d edit) (with_edit d by edit names) e fit).1) ∙ listed_after edit d.names names chunk is listed (not_among (forgotten_by edit) keeps)
  where
    not_among : (chunks : List ℕ) → is_empty chunks ≡ true → among chunk chunks ≡ false
    not_among [] none = refl
    not_among (c ∷ chunks) none = absurd (false≢true none)
edited_files chunk d e by edit (Err refusal) keeps is fit listed = absurd (false≢true (ap is_some fit))

record_files : (chunk : ℕ) (d e : Durable) (entry : PlainEntry) → keeps_listed entry ≡ true → applied d entry ≡ Some e → ListedOn chunk d e
unfolding applied
record_files chunk d e (Edited by edit) keeps fit = edited_files chunk d e by edit (edited_names edit d.names) keeps refl fit
record_files chunk d e (Said to refusal) keeps fit = same_files chunk d e (ap (λ (x : Durable). x.names) (sym (durable_is fit)))
record_files chunk d e (Propose q version) keeps fit =
    same_files chunk d e (ap (λ (x : Durable). x.names) (sym (fits_gives (may_propose d.phase d.next_handle d.next_version q version (fin.get d.chunks q)) (proposed d q version) e fit).1))
record_files chunk d e (Settle v) keeps fit = same_files chunk d e (ap (λ (x : Durable). x.names) (sym (fits_gives (may_be_settled d v) (with_view d v) e fit).1))
record_files chunk d e (Holder q server) keeps fit =
    same_files chunk d e (ap (λ (x : Durable). x.names) (sym (fits_gives (is_upgrade d.phase && (nat_lt server 16 && is_some (prepared_view d q))) (record d { prepared = with_prepared d q (held_by server (prepared_view d q)) }) e fit).1))
record_files chunk d e entry keeps fit = absurd (false≢true keeps)

said_keeps : (s : State) (req : ReqId) (refusal : Refusal) → list_all keeps_listed (said_records (keeps_refusal s req refusal) s.log req refusal) ≡ true
said_keeps s req refusal = by_test (keeps_refusal s req refusal && fits s.log (Said req refusal ∷ []))
  where
    by_test : (b : Bool) → list_all keeps_listed (if b then Said req refusal ∷ [] else []) ≡ true
    by_test true = refl
    by_test false = refl

settle_keeps : (b : Bool) (q : ℕ) (target : Option ℕ) (view : View) → list_all keeps_listed (holder_records b q target ++ Settle (record { handle = q; view = view }) ∷ []) ≡ true
settle_keeps b q None view = refl
settle_keeps true q (Some target) view = refl
settle_keeps false q (Some target) view = refl

tree_keeps : (edit : PlainEdit) → is_of_tree edit ≡ true → (is_empty (forgotten_by edit) && true) ≡ true
tree_keeps (Mkdirs path) tree = refl
tree_keeps (Create path) tree = refl
tree_keeps (Rename from to) tree = refl
tree_keeps (Hide path moment number) tree = refl
tree_keeps (Unhide path) tree = refl
tree_keeps (Snapshot from to) tree = refl
tree_keeps edit tree = absurd (false≢true tree)

module _ (config : Config) (heard : Heard) where
  -- a move that isn't alone, but for a checkpoint, writes no others
  pub within_keeps : (s : State) (move : Move) → IsMade config heard s move → is_alone move ≡ false → is_checkpoint move ≡ false → list_all keeps_listed (move_turn config s move).records ≡ true
  within_keeps s Checkpoints made within other = absurd (true≢false other)
  within_keeps s (Scans removed forgotten) made within other = absurd (true≢false within)
  within_keeps s (Prepares req moment) made within other = absurd (true≢false within)
  within_keeps s (Finalizes req) made within other = absurd (true≢false within)
  within_keeps s BeginsRollback made within other = absurd (true≢false within)
  within_keeps s (CommitsRollback req names) made within other = absurd (true≢false within)
  within_keeps s (Begins q purpose call Alone) made within other = refl
  within_keeps s (Begins q purpose call (FromNow req waiting)) made within other = refl
  within_keeps s (Begins q purpose call (Further req waiting)) made within other = refl
  within_keeps s (Copies old view req Alone) made within other = refl
  within_keeps s (Copies old view req (FromNow by waiting)) made within other = refl
  within_keeps s (Copies old view req (Further by waiting)) made within other = refl
  within_keeps s (Settles q asking carried view) made within other = settle_keeps (is_holder s.durable.phase (prepared_view s.durable q) carried asking view) q (target_of asking.purpose) view
  within_keeps s (Edits req edit answer) made within other = tree_keeps edit made.may.tree
  within_keeps s (Refuses req refusal over) made within other = said_keeps s req refusal
  within_keeps s (AnswersCall req answer true) made within other = refl
  within_keeps s (AnswersCall req answer false) made within other = refl
  within_keeps s move made within other = refl

  pub stays_listed : (s : State) (move : Move) (chunk : ℕ) → IsMade config heard s move → is_alone move ≡ false → ListedOn chunk s.durable (move_turn config s move).after.durable
  stays_listed s Checkpoints chunk made within listed = listed
  stays_listed s move chunk made within listed =
      over_records (ListedOn chunk) (λ d here. here) (λ d n e a b here. b (a here)) keeps_listed (record_files chunk) (move_turn config s move).records s.durable (move_turn config s move).after.durable (within_keeps s move made within refl) made.fits listed
