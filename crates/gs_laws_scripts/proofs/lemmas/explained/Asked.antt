-- What the master answers to a look-up that is new to it is what the machine tells that shows what it stands on.
use Rattle.std.proofs.Common.{[], ap, arith, inl, inr, refl, subst, sym, ◌&&◌, ◌<◌, ◌∷◌, ◌∙◌, ◌≡◌, ◌≤◌, ◌⊎◌, Bool, Err, List, None, Ok, Option, Result, Some, false, length, map, suc, true, zero, ℕ}
use Rattle.std.proofs.lemmas.Bool.{false≢true}
use Rattle.std.specs.FinMap as fin
use Rattle.gs_base.specs.declared.config.Config.{Config}
use Rattle.gs_base.specs.declared.numbers.Moment.{Moment}
use Rattle.gs_base.specs.declared.numbers.ReqId.{ReqId}
use Rattle.gs_base.specs.declared.refusal.Refusal.{Refusal}
use Rattle.gs_base.specs.declared.refusal.Refusal.TheVariants as refusals
use Rattle.gs_edit.proofs.Tables.{seen as rows_of}
use Rattle.gs_laws_moves.specs.answers.AtOnce.{OneSays}
use Rattle.gs_lease.specs.declared.view.View.{View}
use Rattle.gs_master_record.specs.declared.checkpoint.Phase.{Phase as Durable_phase}
use Rattle.gs_master_record.specs.declared.checkpoint.Phase.TheVariants.{Ordinary, Rolling, Upgrade}
use Rattle.gs_master_spec.specs.Applied.{view_in}
use Rattle.gs_master_spec.specs.Calls.{chunk_status, found_chunk, is_any_deep, is_locked, listing, location, location_on, looked_up, refused_before, status, told_phase}
use Rattle.gs_master_spec.specs.Durable.{is_rolling as is_rolled}
use Rattle.gs_edit.specs.Mapped.{mapped_rows}
use Rattle.gs_master_spec.specs.Handling.{called_unless, new_call}
use Rattle.gs_master_spec.specs.State.{State, first_of, is_failed, reply_to}
use Rattle.gs_msg.specs.declared.answer.Answer.{Answer as Said}
use Rattle.gs_msg.specs.declared.answer.Answer.TheVariants as says
use Rattle.gs_msg.specs.declared.answer.Status.TheVariants as statuses
use Rattle.gs_msg.specs.declared.body.Body.TheVariants as bodies
use Rattle.gs_msg.specs.declared.call.Call.{Call}
use Rattle.gs_msg.specs.declared.call.Call.TheVariants as calls
use Rattle.gs_path.specs.Path.{Path}
use Rattle.gs_tree.specs.Entry.{Dir, Entry, File}
use Rattle.gs_tree.specs.Find.{at}
use Rattle.gs_tree.specs.Mapped.{mapped_at}
use Rattle.gs_laws_scripts.proofs.lemmas.explained.Lifted.{itself}
use Rattle.gs_laws_scripts.proofs.lemmas.explained.Listed.{at_mapped, list_called, query_called}
use Rattle.gs_laws_scripts.specs.explained.Asking.{AreShort, ListsAreTold, PlacesAreTold, QueriesAreTold, Replies, ShowsState, StatusesAreTold, TellsIndex}
use Rattle.gs_laws_scripts.specs.explained.Lines.{AsksNow, IsNoLook, IsOfStore, IsSaid}
use Rattle.gs_laws_scripts.specs.explained.Machine.{Machine, Text, called, is_rolling}
use Rattle.gs_laws_scripts.specs.explained.Told.{TellsStatus}

-- ---- one reply

one_said : (req : ReqId) (given result : Result Said Refusal) → OneSays req result (reply_to req given ∷ []) → result ≡ given
one_said req given result (inl is) = same is
  where
    same : bodies.Reply req given ≡ bodies.Reply req result → result ≡ given
    same e = cc
one_said req given result (inr none) = absurd none

looked_said : (s : State) (req : ReqId) (given result : Result Said Refusal) → OneSays req result (looked_up s req given).sent → result ≡ given
looked_said s req (Ok answer) result said = one_said req (Ok answer) result said
looked_said s req (Err refusal) result said = one_said req (Err refusal) result said

-- ---- what comes before a look-up's own tests

-- The store refuses it, or it comes to its own tests.
abbrev IsGated : Bool → Option Refusal → Type 0
IsGated rolling None = rolling ≡ false
IsGated rolling (Some refusal) = IsOfStore refusal

gates : (failed rolling preparing locked : Bool)
    → IsGated rolling (first_of ((failed, refusals.Device) ∷ (rolling && true, refusals.RollingBack) ∷ (preparing && false, refusals.Preparing) ∷ (false, refusals.BadPath) ∷ (locked, refusals.Locked) ∷ (false, refusals.HiddenName) ∷ []))
gates true rolling preparing locked = refl
gates false true preparing locked = refl
gates false false true true = refl
gates false false true false = refl
gates false false false true = refl
gates false false false false = refl

gates_deep : (failed rolling preparing deep locked : Bool) → deep ≡ false
    → IsGated rolling (first_of ((failed, refusals.Device) ∷ (rolling && true, refusals.RollingBack) ∷ (preparing && false, refusals.Preparing) ∷ (deep, refusals.BadPath) ∷ (locked, refusals.Locked) ∷ (false, refusals.HiddenName) ∷ []))
gates_deep failed rolling preparing true locked is = absurd (false≢true (sym is))
gates_deep failed rolling preparing false locked is = gates failed rolling preparing locked

-- a query comes to its own answer whatever is begun
abbrev IsStoreOr : Option Refusal → Type 0
IsStoreOr None = Unit {0}
IsStoreOr (Some refusal) = IsOfStore refusal

query_gates : (failed rolling preparing locked : Bool)
    → IsStoreOr (first_of ((failed, refusals.Device) ∷ (rolling && false, refusals.RollingBack) ∷ (preparing && false, refusals.Preparing) ∷ (false, refusals.BadPath) ∷ (locked, refusals.Locked) ∷ (false, refusals.HiddenName) ∷ []))
query_gates true rolling preparing locked = refl
query_gates false true true true = refl
query_gates false true true false = tt
query_gates false true false true = refl
query_gates false true false false = tt
query_gates false false true true = refl
query_gates false false true false = tt
query_gates false false false true = refl
query_gates false false false false = tt

-- a chunk of a file, by its index
abbrev Slot : List ℕ → ℕ → Type 0
Slot chunks index = ((chunk : ℕ) × (index < length chunks) × (found_chunk (Some (File chunks)) index ≡ Ok chunk)) ⊎ ((length chunks ≤ index) × (found_chunk (Some (File chunks)) index ≡ Err refusals.Range))

slot : (chunks : List ℕ) (index : ℕ) → Slot chunks index
slot [] index = inr (omega arith, refl)
slot (chunk ∷ chunks) zero = inl (chunk, omega arith, refl)
slot (chunk ∷ chunks) (suc index) = elim (slot chunks index) [
  | inl (found, below, is) ↦ inl (found, omega (arith, below), is)
  | inr (past, is) ↦ inr (omega (arith, past), is)
]

length_map : {A B : Type 0} (f : A → B) (xs : List A) → length (map f xs) ≡ length xs
length_map f [] = refl
length_map f (x ∷ xs) = ap suc (length_map f xs)

-- it isn't rolled back where a machine shows that
calm_shown : (preparing : Bool) (phase : Durable_phase) → is_rolled phase ≡ false → is_rolling (told_phase preparing phase) ≡ false
calm_shown true phase is = refl
calm_shown false Ordinary is = refl
calm_shown false Upgrade is = refl
calm_shown false Rolling is = is

-- ---- lists and queries

said_now : (m : Machine) (call : Call) (plain result : Result Said Refusal) → called call m ≡ (plain, m) → result ≡ plain → AsksNow call m result m
said_now m call plain result comes is = inl (subst (λ (x : Result Said Refusal × Machine). IsSaid x.0 result) (sym comes) (subst (λ r. IsSaid r result) is (itself result)), sym (ap (λ (x : Result Said Refusal × Machine). x.1) comes))

refused_now : (m : Machine) (call : Call) (refusal : Refusal) (result : Result Said Refusal) → IsOfStore refusal → result ≡ Err refusal → AsksNow call m result m
refused_now m call refusal result store is = inr (refusal, is, inl (store, refl))

-- what a status tells of the entry that stands there
abbrev pub TellsEntry : Machine → Path → Result Said Refusal → Type 0
TellsEntry m p (Ok (says.Status statuses.Directory)) = (is_rolling m.phase ≡ false) × (at m.plain.tree p ≡ Some Dir)
TellsEntry m p (Ok (says.Status (statuses.File chunks))) = (is_rolling m.phase ≡ false) × (texts : List Text) × (at m.plain.tree p ≡ Some (File texts))
TellsEntry m p (Ok said) = ⊥
TellsEntry m p (Err refusal) = IsNoLook refusal ⊎ ((refusal ≡ refusals.NotFound) × (is_rolling m.phase ≡ false) × (at m.plain.tree p ≡ None))

-- A list wants of the machine its names, and that it rolls back only where the master does; so does a status.
module _ (config : Config) (s : State) (req : ReqId) (moment : Moment) (m : Machine) (text : ℕ → Text) (tree : m.plain.tree ≡ mapped_rows text (fin.entries s.durable.names.tree)) (calms : is_rolled s.durable.phase ≡ false → is_rolling m.phase ≡ false) where
  list_by : (p : Path) (result : Result Said Refusal) → is_any_deep (calls.List p) ≡ false → (o : Option Refusal) → IsGated (is_rolled s.durable.phase) o → OneSays req result (called_unless config s req moment (calls.List p) o).sent → AsksNow (calls.List p) m result m
  list_by p result not_deep None calm said =
      said_now m (calls.List p) (listing (fin.entries s.durable.names.tree) p (fin.get s.durable.names.tree p)) result (list_called text s.durable.names m p tree (calms calm) not_deep)
      (looked_said s req (listing (fin.entries s.durable.names.tree) p (fin.get s.durable.names.tree p)) result said)
  list_by p result not_deep (Some refusal) store said = refused_now m (calls.List p) refusal result store (one_said req (Err refusal) result said)

  pub list_shown : (p : Path) (result : Result Said Refusal) → is_any_deep (calls.List p) ≡ false → OneSays req result (new_call config s req moment (calls.List p)).sent → AsksNow (calls.List p) m result m
  list_shown p result not_deep said = list_by p result not_deep (refused_before s req (calls.List p)) (gates_deep (is_failed s.fault) (is_rolled s.durable.phase) s.volatile.is_preparing (is_any_deep (calls.List p)) (is_locked s req (calls.List p)) not_deep) said

  found_so : (p : Path) → at m.plain.tree p ≡ mapped_at text (fin.get s.durable.names.tree p)
  found_so p = ap (λ rows. at rows p) tree ∙ at_mapped text (fin.entries s.durable.names.tree) p ∙ ap (λ found. mapped_at text (found p)) (sym (rows_of s.durable.names.tree))

  -- so does a status
  status_is : (p : Path) → AreShort m → is_rolling m.phase ≡ false → (found : Option (Entry ℕ)) → at m.plain.tree p ≡ mapped_at text found → TellsStatus m p (status s.durable found)
  status_is p short calm None is = inr (refl, calm, is)
  status_is p short calm (Some Dir) is = (calm, is)
  status_is p short calm (Some (File chunks)) is = (calm, map text chunks, is, length_map (chunk_status s.durable) chunks ∙ sym (length_map text chunks), short p (map text chunks) is)

  status_by : (p : Path) (result : Result Said Refusal) → AreShort m → (o : Option Refusal) → IsGated (is_rolled s.durable.phase) o → OneSays req result (called_unless config s req moment (calls.Status p) o).sent → TellsStatus m p result
  status_by p result short None calm said =
      subst (TellsStatus m p) (sym (looked_said s req (status s.durable (fin.get s.durable.names.tree p)) result said)) (status_is p short (calms calm) (fin.get s.durable.names.tree p) (found_so p))
  status_by p result short (Some refusal) store said = subst (TellsStatus m p) (sym (one_said req (Err refusal) result said)) (inl (inl store))

  pub status_shown : (p : Path) (result : Result Said Refusal) → AreShort m → is_any_deep (calls.Status p) ≡ false → OneSays req result (new_call config s req moment (calls.Status p)).sent → TellsStatus m p result
  status_shown p result short not_deep said = status_by p result short (refused_before s req (calls.Status p)) (gates_deep (is_failed s.fault) (is_rolled s.durable.phase) s.volatile.is_preparing (is_any_deep (calls.Status p)) (is_locked s req (calls.Status p)) not_deep) said

  -- and however many chunks a file has
  entry_is : (p : Path) → is_rolling m.phase ≡ false → (found : Option (Entry ℕ)) → at m.plain.tree p ≡ mapped_at text found → TellsEntry m p (status s.durable found)
  entry_is p calm None is = inr (refl, calm, is)
  entry_is p calm (Some Dir) is = (calm, is)
  entry_is p calm (Some (File chunks)) is = (calm, map text chunks, is)

  entry_by : (p : Path) (result : Result Said Refusal) → (o : Option Refusal) → IsGated (is_rolled s.durable.phase) o → OneSays req result (called_unless config s req moment (calls.Status p) o).sent → TellsEntry m p result
  entry_by p result None calm said = subst (TellsEntry m p) (sym (looked_said s req (status s.durable (fin.get s.durable.names.tree p)) result said)) (entry_is p (calms calm) (fin.get s.durable.names.tree p) (found_so p))
  entry_by p result (Some refusal) store said = subst (TellsEntry m p) (sym (one_said req (Err refusal) result said)) (inl (inl store))

  pub entry_shown : (p : Path) (result : Result Said Refusal) → is_any_deep (calls.Status p) ≡ false → OneSays req result (new_call config s req moment (calls.Status p)).sent → TellsEntry m p result
  entry_shown p result not_deep said = entry_by p result (refused_before s req (calls.Status p)) (gates_deep (is_failed s.fault) (is_rolled s.durable.phase) s.volatile.is_preparing (is_any_deep (calls.Status p)) (is_locked s req (calls.Status p)) not_deep) said

  -- one that tells of a directory, whatever files there are
  abbrev dir : Result Said Refusal
  dir = Ok (says.Status statuses.Directory)

  dir_is : (p : Path) (found : Option (Entry ℕ)) → at m.plain.tree p ≡ mapped_at text found → status s.durable found ≡ dir → at m.plain.tree p ≡ Some Dir
  dir_is p None is said = absurd (cc)
  dir_is p (Some Dir) is said = is
  dir_is p (Some (File chunks)) is said = absurd (cc)

  dir_by : (p : Path) (o : Option Refusal) → IsGated (is_rolled s.durable.phase) o → OneSays req dir (called_unless config s req moment (calls.Status p) o).sent → (is_rolling m.phase ≡ false) × (at m.plain.tree p ≡ Some Dir)
  dir_by p None calm said = (calms calm, dir_is p (fin.get s.durable.names.tree p) (found_so p) (sym (looked_said s req (status s.durable (fin.get s.durable.names.tree p)) dir said)))
  dir_by p (Some refusal) store said = absurd (never (one_said req (Err refusal) dir said))
    where
      never : ◌≡◌ {A = Result Said Refusal} (Ok (says.Status statuses.Directory)) (Err refusal) → ⊥
      never e = cc

  pub dir_shown : (p : Path) → is_any_deep (calls.Status p) ≡ false → OneSays req dir (new_call config s req moment (calls.Status p)).sent → (is_rolling m.phase ≡ false) × (at m.plain.tree p ≡ Some Dir)
  dir_shown p not_deep said = dir_by p (refused_before s req (calls.Status p)) (gates_deep (is_failed s.fault) (is_rolled s.durable.phase) s.volatile.is_preparing (is_any_deep (calls.Status p)) (is_locked s req (calls.Status p)) not_deep) said

  -- and one that tells of a file without chunks
  abbrev empty : Result Said Refusal
  empty = Ok (says.Status (statuses.File []))

  empty_is : (p : Path) (found : Option (Entry ℕ)) → at m.plain.tree p ≡ mapped_at text found → status s.durable found ≡ empty → at m.plain.tree p ≡ Some (File [])
  empty_is p None is said = absurd (cc)
  empty_is p (Some Dir) is said = absurd (cc)
  empty_is p (Some (File [])) is said = is
  empty_is p (Some (File (chunk ∷ chunks))) is said = absurd (cc)

  empty_by : (p : Path) (o : Option Refusal) → IsGated (is_rolled s.durable.phase) o → OneSays req empty (called_unless config s req moment (calls.Status p) o).sent → (is_rolling m.phase ≡ false) × (at m.plain.tree p ≡ Some (File []))
  empty_by p None calm said = (calms calm, empty_is p (fin.get s.durable.names.tree p) (found_so p) (sym (looked_said s req (status s.durable (fin.get s.durable.names.tree p)) empty said)))
  empty_by p (Some refusal) store said = absurd (never (one_said req (Err refusal) empty said))
    where
      never : ◌≡◌ {A = Result Said Refusal} (Ok (says.Status (statuses.File []))) (Err refusal) → ⊥
      never e = cc

  pub empty_shown : (p : Path) → is_any_deep (calls.Status p) ≡ false → OneSays req empty (new_call config s req moment (calls.Status p)).sent → (is_rolling m.phase ≡ false) × (at m.plain.tree p ≡ Some (File []))
  empty_shown p not_deep said = empty_by p (refused_before s req (calls.Status p)) (gates_deep (is_failed s.fault) (is_rolled s.durable.phase) s.volatile.is_preparing (is_any_deep (calls.Status p)) (is_locked s req (calls.Status p)) not_deep) said

  -- and where a chunk is, if the epoch is the master's too
  module _ (epoch : m.epoch ≡ s.durable.epoch) where
    located : (chunk index : ℕ) (texts : List Text) (view : Option View) → index < length texts → TellsIndex m index texts (location_on chunk s.durable.epoch view)
    located chunk index texts None below = inl refl
    located chunk index texts (Some view) below = (below, sym epoch)

    place_is : (p : Path) (index : ℕ) (texts : List Text) (found : Option (Entry ℕ)) → mapped_at text found ≡ Some (File texts) → TellsIndex m index texts (location s.durable (found_chunk found index))
    place_is p index texts None is = absurd (cc)
    place_is p index texts (Some Dir) is = absurd (cc)
    place_is p index texts (Some (File chunks)) is = by_slot (slot chunks index)
      where
        file_is : {a b : List Text} → ◌≡◌ {A = Option (Entry Text)} (Some (File a)) (Some (File b)) → a ≡ b
        file_is e = cc

        long : length texts ≡ length chunks
        long = ap length (sym (file_is is)) ∙ length_map text chunks

        by_slot : Slot chunks index → TellsIndex m index texts (location s.durable (found_chunk (Some (File chunks)) index))
        by_slot (inl (chunk, below, found)) = subst (λ r. TellsIndex m index texts (location s.durable r)) (sym found) (located chunk index texts (view_in (fin.get s.durable.chunks chunk)) (omega (arith, below, long)))
        by_slot (inr (past, found)) = subst (λ r. TellsIndex m index texts (location s.durable r)) (sym found) (inr (refl, omega (arith, past, long)))

    place_by : (p : Path) (index : ℕ) (texts : List Text) (result : Result Said Refusal) → at m.plain.tree p ≡ Some (File texts) → (o : Option Refusal) → IsGated (is_rolled s.durable.phase) o → OneSays req result (called_unless config s req moment (calls.FindForReading p index) o).sent
        → TellsIndex m index texts result
    place_by p index texts result file None calm said =
        subst (TellsIndex m index texts) (sym (looked_said s req (location s.durable (found_chunk (fin.get s.durable.names.tree p) index)) result said)) (place_is p index texts (fin.get s.durable.names.tree p) (sym (found_so p) ∙ file))
    place_by p index texts result file (Some refusal) store said = subst (TellsIndex m index texts) (sym (one_said req (Err refusal) result said)) (inl store)

    pub place_shown : (p : Path) (index : ℕ) (texts : List Text) (result : Result Said Refusal) → at m.plain.tree p ≡ Some (File texts) → is_any_deep (calls.FindForReading p index) ≡ false → OneSays req result (new_call config s req moment (calls.FindForReading p index)).sent → TellsIndex m index texts result
    place_shown p index texts result file not_deep said =
        place_by p index texts result file (refused_before s req (calls.FindForReading p index)) (gates_deep (is_failed s.fault) (is_rolled s.durable.phase) s.volatile.is_preparing (is_any_deep (calls.FindForReading p index)) (is_locked s req (calls.FindForReading p index)) not_deep) said

-- a query is refused by the store alone
module _ (config : Config) (s : State) (req : ReqId) (moment : Moment) (refusal : Refusal) where
  query_off_by : (o : Option Refusal) → IsStoreOr o → OneSays req (Err refusal) (called_unless config s req moment calls.Query o).sent → IsOfStore refusal
  query_off_by None free said = absurd (never (one_said req (Ok (says.Phase (told_phase s.volatile.is_preparing s.durable.phase) s.durable.epoch)) (Err refusal) said))
    where
      never : {a : Said} → ◌≡◌ {A = Result Said Refusal} (Err refusal) (Ok a) → ⊥
      never is = cc
  query_off_by (Some other) store said = subst IsOfStore (sym (refusal_is (one_said req (Err other) (Err refusal) said))) store
    where
      refusal_is : {a b : Refusal} → ◌≡◌ {A = Result Said Refusal} (Err a) (Err b) → a ≡ b
      refusal_is is = cc

  pub query_refused : OneSays req (Err refusal) (new_call config s req moment calls.Query).sent → IsOfStore refusal
  query_refused said = query_off_by (refused_before s req calls.Query) (query_gates (is_failed s.fault) (is_rolled s.durable.phase) s.volatile.is_preparing (is_locked s req calls.Query)) said

module _ (config : Config) (s : State) (req : ReqId) (moment : Moment) (m : Machine) (shows : ShowsState s m) where
  calm_so : is_rolled s.durable.phase ≡ false → is_rolling m.phase ≡ false
  calm_so is = ap is_rolling shows.phase ∙ calm_shown s.volatile.is_preparing s.durable.phase is

  -- ---- lists and queries

  list_told : (p : Path) (result : Result Said Refusal) → is_any_deep (calls.List p) ≡ false → Replies config s req moment (calls.List p) result → AsksNow (calls.List p) m result m
  list_told p result not_deep said = list_shown config s req moment m shows.text shows.tree calm_so p result not_deep said

  query_by : (result : Result Said Refusal) (o : Option Refusal) → IsStoreOr o → OneSays req result (called_unless config s req moment calls.Query o).sent → AsksNow calls.Query m result m
  query_by result None free said =
      said_now m calls.Query (Ok (says.Phase m.phase m.epoch)) result (query_called m)
      (one_said req (Ok (says.Phase (told_phase s.volatile.is_preparing s.durable.phase) s.durable.epoch)) result said
      ∙ ap (λ phase. Ok (says.Phase phase s.durable.epoch)) (sym shows.phase) ∙ ap (λ epoch. Ok (says.Phase m.phase epoch)) (sym shows.epoch))
  query_by result (Some refusal) store said = refused_now m calls.Query refusal result store (one_said req (Err refusal) result said)

  query_told : (result : Result Said Refusal) → Replies config s req moment calls.Query result → AsksNow calls.Query m result m
  query_told result said = query_by result (refused_before s req calls.Query) (query_gates (is_failed s.fault) (is_rolled s.durable.phase) s.volatile.is_preparing (is_locked s req calls.Query)) said

  -- ---- a status, and where a chunk is

  status_told : (p : Path) (result : Result Said Refusal) → AreShort m → is_any_deep (calls.Status p) ≡ false → Replies config s req moment (calls.Status p) result → TellsStatus m p result
  status_told p result short not_deep said = status_shown config s req moment m shows.text shows.tree calm_so p result short not_deep said

  place_told : (p : Path) (index : ℕ) (texts : List Text) (result : Result Said Refusal) → at m.plain.tree p ≡ Some (File texts) → is_any_deep (calls.FindForReading p index) ≡ false → Replies config s req moment (calls.FindForReading p index) result → TellsIndex m index texts result
  place_told p index texts result file not_deep said = place_shown config s req moment m shows.text shows.tree calm_so shows.epoch p index texts result file not_deep said

pub lists_are_told : ListsAreTold
lists_are_told config s req moment m p result shows not_deep said = list_told config s req moment m shows p result not_deep said

pub queries_are_told : QueriesAreTold
queries_are_told config s req moment m result shows said = query_told config s req moment m shows result said

pub statuses_are_told : StatusesAreTold
statuses_are_told config s req moment m p result shows short not_deep said = status_told config s req moment m shows p result short not_deep said

pub places_are_told : PlacesAreTold
places_are_told config s req moment m p index texts result shows file not_deep said = place_told config s req moment m shows p index texts result file not_deep said
