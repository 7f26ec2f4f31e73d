-- A call of the tree at a calm master is answered as the plain machine answers it, which goes on by its command.
use Rattle.std.proofs.Common.{arith, ◌≡◌, ◌⊎◌, inl, inr, ◌∙◌, ◌+◌, ◌&&◌, ◌==◌, ℕ, Bool, true, false, not, List, [], ◌∷◌, refl, sym, ap, subst}
use Rattle.std.specs.Prelude.{Option, Some, None, option_map, Result, Ok, Err, is_none, if◌then◌else◌}
use Rattle.std.specs.FinMap as fin
use Rattle.std.proofs.lemmas.Bool.Decides.{nat_tests}
use Rattle.gs_base.specs.Numbers.{last_number}
use Rattle.gs_base.specs.Told.{IsNumber}
use Rattle.gs_base.specs.declared.config.Config.{Config}
use Rattle.gs_base.specs.declared.numbers.Moment.{Moment}
use Rattle.gs_base.specs.declared.numbers.ReqId.{ReqId}
use Rattle.gs_base.specs.declared.refusal.Refusal.{Refusal}
use Rattle.gs_base.specs.declared.refusal.Refusal.TheVariants as refusals
use Rattle.gs_edit.proofs.Payloads.{create_rows-map, hide_rows-map, mkdirs_rows-map, rename_rows-map, snapshot_rows-map, unhide_rows-map}
use Rattle.gs_edit.proofs.Tables.{seen}
use Rattle.gs_edit.specs.Edits.{counted, edited, with_counts}
use Rattle.gs_edit.specs.Machine.{Plain}
use Rattle.gs_edit.specs.Mapped.{mapped_edit, mapped_rows}
use Rattle.gs_edit.specs.Plain.{create_rows, hide_rows, mkdirs_rows, rename_rows, snapshot_rows, unhide_rows, unhide_target}
use Rattle.gs_edit.specs.View.{NamesView, names_of}
use Rattle.gs_edit.specs.declared.edit.Edit.TheVariants as edits
use Rattle.gs_msg.specs.declared.answer.Answer.{Answer}
use Rattle.gs_msg.specs.declared.answer.Answer.TheVariants as answers
use Rattle.gs_msg.specs.declared.body.Body.TheVariants as bodies
use Rattle.gs_msg.specs.declared.call.Call.{Call}
use Rattle.gs_msg.specs.declared.call.Call.TheVariants as calls
use Rattle.gs_msg.specs.declared.message.Message.{Message}
use Rattle.gs_msg.specs.declared.node.NodeId.TheVariants as nodes
use Rattle.gs_path.specs.Path.{Path}
use Rattle.gs_refs.specs.Counts.{Counts, raised_each}
use Rattle.gs_replica.specs.Copies.{and_then}
use Rattle.gs_tree.specs.Edits.{hidden_path, old_name, same_path, target_of}
use Rattle.gs_tree.specs.Entry.{Dir, Entry, File}
use Rattle.gs_tree.specs.Find.{Rows, at}
use Rattle.gs_tree.specs.Mapped.{mapped_at}
use Rattle.gs_lock.specs.declared.lock.Lock.{Lock}
use Rattle.gs_master_state.proofs.Renames.{resolved_does}
use Rattle.gs_laws_master.proofs.lemmas.standing.StandingRuns.{events_fit}
use Rattle.gs_laws_master.specs.Standing.{Comes, FitsAndStands, IsNamedCall}
use Rattle.gs_laws_plain.proofs.lemmas.commands.Answering.{none_mapped, same_names, same_visible}
use Rattle.gs_laws_plain.proofs.lemmas.commands.Edits.{edits_lead}
use Rattle.gs_laws_plain.proofs.lemmas.commands.Rows.{at_mapped}
use Rattle.gs_laws_plain.specs.commands.Answers.{answered, by_paths, deletes, has_visible, listed, plain_answer, tree_answer}
use Rattle.gs_laws_plain.specs.commands.Commands.{Command, Texts, all_commanded, command_of_edit, commanded}
use Rattle.gs_laws_plain.specs.commands.Commands as commands
use Rattle.gs_laws_plain.specs.commands.Edits.{KeepsText, shown}
use Rattle.gs_laws_plain.specs.commands.Edits as listing
use Rattle.gs_laws_plain.specs.commands.Records.{kept_in, machine_of}
use Rattle.gs_master_record.specs.Plain.{PlainEdit, Create, Hide, Mkdirs, Rename, Snapshot, Unhide}
use Rattle.gs_master_spec.specs.Applied.{after_if, forgotten_by, number_of_edit}
use Rattle.gs_master_spec.specs.Calls as store
use Rattle.gs_master_spec.specs.Calls.{accept_plan, answered_with, deleted, edit_if, edited_by, has_visible_child, is_always_taken, is_any_deep, is_any_hidden, is_locked, is_work, looked_up, refused_before, renames}
use Rattle.gs_master_spec.specs.Durable.{after_number, is_rolling}
use Rattle.gs_master_spec.specs.Handling.{Numbered, New, call_turn, called, called_unless, handle, new_call, numbered, taken_as}
use Rattle.gs_master_spec.specs.State.{Fault, Sound, State, Turn, first_of, fits, is_failed, is_unopened, last_reply, refused, turned}
use Rattle.gs_master_spec.specs.Undoing.{all_undone, edited_names, names_from}
use Rattle.gs_master_spec.specs.Volatile.{is_pending}
use Rattle.gs_master_spec.specs.Working.{begins_snapshot, snapshot_if}
use Rattle.gs_master_spec.specs.declared.pending.Pending.{Pending}
use Rattle.gs_laws_plain.proofs.lemmas.calm.Answered.{is_new}
use Rattle.gs_laws_plain.proofs.lemmas.calm.Bare.{nothing_unquiet, source_bare}
use Rattle.gs_laws_plain.proofs.lemmas.calm.Going.{answered_went, edit_went, refused_went}
use Rattle.gs_laws_plain.specs.calm.Calm.{Asked, IsShort, IsStill, TreeCallsGo, WasShort, WentTo, bare, command_of_call, hidden_after, hidden_behind, plain_after, plain_behind, plain_by}

-- ---- what comes before a call's own tests

-- a call is a message of its client
abbrev pub message_of : ReqId → Call → Message
message_of req call = record { from = nodes.Client req.client; to = nodes.Master; body = bodies.Call req call }

pub call_fits : (config : Config) (s : State) (req : ReqId) (moment : Moment) (call : Call) → IsStill s → IsNamedCall call → IsNumber moment.0 → FitsAndStands s (call_turn config s req moment call)
unfolding handle
call_fits config s req moment call still named number = events_fit config s (Comes (message_of req call) moment) (named, number) still.firm

as_new : (config : Config) (s : State) (req : ReqId) (moment : Moment) (call : Call) (fault : Fault) (pending : List Pending) (how : Numbered) → fault ≡ Sound → pending ≡ [] → how ≡ New →
    (if is_unopened fault then Rattle.gs_master_spec.specs.Handling.replied_again s req (Err refusals.Device) else if is_pending pending req then Rattle.gs_master_spec.specs.Handling.waits_still s req else taken_as config s req moment call how) ≡ new_call config s req moment call
as_new config s req moment call fault pending how sound alone new =
    ap (λ (f : Fault). if is_unopened f then Rattle.gs_master_spec.specs.Handling.replied_again s req (Err refusals.Device) else if is_pending pending req then Rattle.gs_master_spec.specs.Handling.waits_still s req else taken_as config s req moment call how) sound
    ∙ ap (λ (p : List Pending). if is_pending p req then Rattle.gs_master_spec.specs.Handling.waits_still s req else taken_as config s req moment call how) alone
    ∙ ap (taken_as config s req moment call) new

pub is_new_call : (config : Config) (s : State) (req : ReqId) (moment : Moment) (call : Call) → IsStill s → numbered (last_reply s req.client) req.number ≡ New → call_turn config s req moment call ≡ new_call config s req moment call
is_new_call config s req moment call still new = as_new config s req moment call s.fault s.volatile.pending (numbered (last_reply s req.client) req.number) still.sound still.pending new

-- of these tests a rollback, a prepare, a deep path and a hidden name are left
abbrev pub tests_left : Bool → Bool → Bool → Bool → Option Refusal
tests_left rolling preparing deep hidden = first_of ((rolling, refusals.RollingBack) ∷ (preparing, refusals.Preparing) ∷ (deep, refusals.BadPath) ∷ (hidden, refusals.HiddenName) ∷ [])

pub refused_so : (s : State) (req : ReqId) (call : Call) → IsStill s → refused_before s req call ≡ tests_left (is_rolling s.durable.phase && not (is_always_taken call)) (s.volatile.is_preparing && is_work call) (is_any_deep call) (is_any_hidden call)
refused_so s req call still =
    ap (λ (f : Fault). first_of ((is_failed f, refusals.Device) ∷ (rolling, refusals.RollingBack) ∷ (preparing, refusals.Preparing) ∷ (is_any_deep call, refusals.BadPath) ∷ (is_locked s req call, refusals.Locked) ∷ (is_any_hidden call, refusals.HiddenName) ∷ [])) still.sound
    ∙ ap (λ (b : Bool). first_of ((rolling, refusals.RollingBack) ∷ (preparing, refusals.Preparing) ∷ (is_any_deep call, refusals.BadPath) ∷ (b, refusals.Locked) ∷ (is_any_hidden call, refusals.HiddenName) ∷ [])) unlocked
  where
    rolling : Bool
    rolling = is_rolling s.durable.phase && not (is_always_taken call)

    preparing : Bool
    preparing = s.volatile.is_preparing && is_work call

    unlocked : is_locked s req call ≡ false
    unlocked = ap (λ (locks : List Lock). Rattle.gs_lock.specs.Locks.stands_in_the_way locks req (store.reads_of_call call) (store.writes_of_call s.durable.names call)) still.locks

-- ---- edits

module _ (s : State) (req : ReqId) (moment : Moment) (now next : ℕ) (met : Asked false false s req (machine_of bare s.durable) now next) where
  -- the machine that stands
  abbrev pub standing : Plain (List ℕ)
  standing = machine_of bare s.durable

  abbrev pub Goes : Call → Turn → Result Answer Refusal → Type 0
  Goes call t result = WasShort req t ⊎ WentTo false false req t [] result (plain_after moment.0 next call result (machine_of bare s.durable)) now (hidden_after moment.0 next call result)

  pub short : (call : Call) (e : Refusal) (result : Result Answer Refusal) → IsShort (Err e) → Goes call (refused s req e) result
  short call e result is = inl (record { result = Err e; short = is; sent = refl })

  pub refuses : (call : Call) (e : Refusal) → FitsAndStands s (refused s req e) → Goes call (refused s req e) (Err e)
  refuses call e so = inr (refused_went false false s req e (machine_of bare s.durable) now next met so)

  -- one command alone
  one_command : (c : Command) (m behind : Plain (List ℕ)) → all_commanded 0 (c ∷ []) m ≡ Ok behind → commanded 0 c m ≡ Ok behind
  one_command c m behind h = each (commanded 0 c m) h
    where
      each : (r : Result (Plain (List ℕ)) Refusal) → and_then r (λ (n : Plain (List ℕ)). Ok n) ≡ Ok behind → r ≡ Ok behind
      each (Ok n) h = h
      each (Err e) h = absurd (cc)

  commanded_so : (c : Command) (edit : PlainEdit) (names : NamesView) → command_of_edit edit ≡ Some c → KeepsText bare.now edit → edited_names edit s.durable.names ≡ Ok names →
      plain_by (Some c) (machine_of bare s.durable) ≡ shown bare.now (kept_in bare.before s.durable.phase (all_undone s.durable.inverses s.durable.names)) names
  commanded_so c edit names is keeps e =
      let leads = edits_lead 0 bare.now edit (kept_in bare.before s.durable.phase (all_undone s.durable.inverses s.durable.names)) s.durable.names names keeps e in
      let one = subst (λ (o : Option Command). all_commanded 0 (listing.listed o) (machine_of bare s.durable) ≡ Ok (shown bare.now (kept_in bare.before s.durable.phase (all_undone s.durable.inverses s.durable.names)) names)) is leads in
      ap (λ (r : Result (Plain (List ℕ)) Refusal). plain_behind r (machine_of bare s.durable)) (one_command c (machine_of bare s.durable) (shown bare.now (kept_in bare.before s.durable.phase (all_undone s.durable.inverses s.durable.names)) names) one)

  -- an edit that a call asks for, of which this is recorded
  edit_goes : (call : Call) (edit told : PlainEdit) (answer : Answer) (c : Command) (rows : Result (Rows ℕ) Refusal) (texts : Result Texts Refusal) →
      edited_names edit s.durable.names ≡ names_from (with_counts rows (Ok s.durable.names.refs)) → texts ≡ mapped_edit bare.now rows → command_of_call moment.0 next call answer ≡ Some c → command_of_edit edit ≡ Some c → KeepsText bare.now edit →
      ((names : NamesView) → edited_names edit s.durable.names ≡ Ok names → edited_names told s.durable.names ≡ Ok names) → forgotten_by told ≡ [] →
      ((after_if s.durable.next_hidden (number_of_edit told) ≡ hidden_behind (Some c) next) ⊎ (after_if s.durable.next_hidden (number_of_edit told) ≡ 0)) →
      FitsAndStands s (edit_if s req told answer (edited_names edit s.durable.names)) → Goes call (edit_if s req told answer (edited_names edit s.durable.names)) (answered answer texts)
  edit_goes call edit told answer c rows texts is follows asks commands keeps alike none number so =
      subst (λ (t : Result Texts Refusal). Goes call (edit_if s req told answer (edited_names edit s.durable.names)) (answered answer t)) (sym follows)
      (subst (λ (n : Result NamesView Refusal). Goes call (edit_if s req told answer n) (answered answer (mapped_edit bare.now rows))) (sym is)
      (each rows is (subst (λ (n : Result NamesView Refusal). FitsAndStands s (edit_if s req told answer n)) is so)))
    where
      with_room : (new : Rows ℕ) (room : Bool) → edited_names edit s.durable.names ≡ Ok (names_of (fin.from_entries new) s.durable.names.refs)
          → FitsAndStands s (if room then turned s (accept_plan req told answer) else refused s req refusals.Full) → Goes call (if room then turned s (accept_plan req told answer) else refused s req refusals.Full) (Ok answer)
      with_room new false e so = short call refusals.Full (Ok answer) (inl refl)
      with_room new true e so = inr
          (subst (λ (o : Option Command). WentTo false false req (turned s (accept_plan req told answer)) [] (Ok answer) (plain_by o (machine_of bare s.durable)) now (hidden_behind o next)) (sym asks)
          (subst (λ (m : Plain (List ℕ)). WentTo false false req (turned s (accept_plan req told answer)) [] (Ok answer) m now (hidden_behind (Some c) next)) (sym (commanded_so c edit (names_of (fin.from_entries new) s.durable.names.refs) commands keeps e))
          (edit_went false false s req told answer (names_of (fin.from_entries new) s.durable.names.refs) (machine_of bare s.durable) now next (hidden_behind (Some c) next) none (alike (names_of (fin.from_entries new) s.durable.names.refs) e) number met so)))

      each : (rows : Result (Rows ℕ) Refusal) → edited_names edit s.durable.names ≡ names_from (with_counts rows (Ok s.durable.names.refs)) → FitsAndStands s (edit_if s req told answer (names_from (with_counts rows (Ok s.durable.names.refs))))
          → Goes call (edit_if s req told answer (names_from (with_counts rows (Ok s.durable.names.refs)))) (answered answer (mapped_edit bare.now rows))
      each (Err e) is so = refuses call e so
      each (Ok new) is so = with_room new (fits s.log (turned s (accept_plan req told answer)).records) is so

  -- which leaves the number of the next deletion
  same_number : ((s.durable.next_hidden ≡ next) ⊎ (s.durable.next_hidden ≡ 0))
  same_number = met.shows.hidden

  kept_so : (edit : PlainEdit) (names : NamesView) → edited_names edit s.durable.names ≡ Ok names → edited_names edit s.durable.names ≡ Ok names
  kept_so edit names e = e

  -- ---- a deletion

  after_is : (n : ℕ) → n ≡ next → (after_number n ≡ next + 1) ⊎ (after_number n ≡ 0)
  after_is n is = each (n == last_number)
    where
      each : (b : Bool) → ((if b then 0 else n + 1) ≡ next + 1) ⊎ ((if b then 0 else n + 1) ≡ 0)
      each true = inr refl
      each false = inl (ap (λ k. k + 1) is)

  hides_goes : (p : Path) (recursive : Bool) → s.durable.next_hidden ≡ next → FitsAndStands s (edited_by s req (Hide p moment.0 s.durable.next_hidden) (answers.Path (hidden_path p moment.0 s.durable.next_hidden)))
      → Goes (calls.Delete p recursive) (edited_by s req (Hide p moment.0 s.durable.next_hidden) (answers.Path (hidden_path p moment.0 s.durable.next_hidden)))
      (answered (answers.Path (hidden_path p moment.0 next)) (hide_rows (mapped_rows bare.now (fin.entries s.durable.names.tree)) p moment.0 next))
  unfolding edited_names
  hides_goes p recursive is so =
      subst (λ (n : ℕ). Goes (calls.Delete p recursive) (edited_by s req (Hide p moment.0 s.durable.next_hidden) (answers.Path (hidden_path p moment.0 s.durable.next_hidden)))
      (answered (answers.Path (hidden_path p moment.0 n)) (hide_rows (mapped_rows bare.now (fin.entries s.durable.names.tree)) p moment.0 n))) is
      (edit_goes (calls.Delete p recursive) (Hide p moment.0 s.durable.next_hidden) (Hide p moment.0 s.durable.next_hidden) (answers.Path (hidden_path p moment.0 s.durable.next_hidden)) (commands.Hide p moment.0 next)
      (hide_rows (fin.entries s.durable.names.tree) p moment.0 s.durable.next_hidden) (hide_rows (mapped_rows bare.now (fin.entries s.durable.names.tree)) p moment.0 s.durable.next_hidden) refl
      (hide_rows-map bare.now (fin.entries s.durable.names.tree) p moment.0 s.durable.next_hidden) refl (ap (λ (n : ℕ). Some (commands.Hide p moment.0 n)) is) tt (kept_so (Hide p moment.0 s.durable.next_hidden)) refl (after_is s.durable.next_hidden is) so)

  delete_goes : (p : Path) (recursive : Bool) → FitsAndStands s (deleted s req p recursive moment) → Goes (calls.Delete p recursive) (deleted s req p recursive moment) (deletes (mapped_rows bare.now (fin.entries s.durable.names.tree)) p recursive moment.0 next)
  delete_goes p recursive so =
      subst (λ b. Goes (calls.Delete p recursive) (deleted s req p recursive moment) (if same_path p [] then Err refusals.IsRoot else if b then Ok answers.Absent else if not recursive && has_visible (mapped_rows bare.now (fin.entries s.durable.names.tree)) p then Err refusals.NotEmpty else hides)) (sym none)
      (subst (λ b. Goes (calls.Delete p recursive) (deleted s req p recursive moment) (if same_path p [] then Err refusals.IsRoot else if is_none (fin.get s.durable.names.tree p) then Ok answers.Absent else if not recursive && b then Err refusals.NotEmpty else hides)) (sym (same_visible bare.now p (fin.entries s.durable.names.tree)))
      (each (same_path p []) (is_none (fin.get s.durable.names.tree p)) (not recursive && has_visible_child (fin.entries s.durable.names.tree) p) (s.durable.next_hidden == 0) refl so))
    where
      hides : Result Answer Refusal
      hides = answered (answers.Path (hidden_path p moment.0 next)) (hide_rows (mapped_rows bare.now (fin.entries s.durable.names.tree)) p moment.0 next)

      none : is_none (at (mapped_rows bare.now (fin.entries s.durable.names.tree)) p) ≡ is_none (fin.get s.durable.names.tree p)
      none = ap is_none (at_mapped bare.now (fin.entries s.durable.names.tree) p) ∙ none_mapped bare.now (at (fin.entries s.durable.names.tree) p) ∙ ap (λ m. is_none (m p)) (sym (seen s.durable.names.tree))

      left_number : (s.durable.next_hidden == 0) ≡ false → (s.durable.next_hidden ≡ next) ⊎ (s.durable.next_hidden ≡ 0) → s.durable.next_hidden ≡ next
      left_number some (inl is) = is
      left_number some (inr gone) = absurd (grind (arith, nat_tests))

      each : (root none some last : Bool) → (s.durable.next_hidden == 0) ≡ last
          → FitsAndStands s (if root then refused s req refusals.IsRoot else if none then answered_with s req answers.Absent else if some then refused s req refusals.NotEmpty else if last then refused s req refusals.Exhausted
          else edited_by s req (Hide p moment.0 s.durable.next_hidden) (answers.Path (hidden_path p moment.0 s.durable.next_hidden)))
          → Goes (calls.Delete p recursive)
          (if root then refused s req refusals.IsRoot else if none then answered_with s req answers.Absent else if some then refused s req refusals.NotEmpty else if last then refused s req refusals.Exhausted
          else edited_by s req (Hide p moment.0 s.durable.next_hidden) (answers.Path (hidden_path p moment.0 s.durable.next_hidden)))
          (if root then Err refusals.IsRoot else if none then Ok answers.Absent else if some then Err refusals.NotEmpty else hides)
      each true absent some last is so = refuses (calls.Delete p recursive) refusals.IsRoot so
      each false true some last is so = inr (answered_went false false s req answers.Absent (machine_of bare s.durable) now next met so)
      each false false true last is so = refuses (calls.Delete p recursive) refusals.NotEmpty so
      each false false false true is so = short (calls.Delete p recursive) refusals.Exhausted hides (inr refl)
      each false false false false is so = hides_goes p recursive (left_number is met.shows.hidden) so

  -- ---- a list

  list_goes : (p : Path) (v : Option (Entry ℕ)) → FitsAndStands s (looked_up s req (store.listing (fin.entries s.durable.names.tree) p v)) →
      Goes (calls.List p) (looked_up s req (store.listing (fin.entries s.durable.names.tree) p v)) (listed (mapped_rows bare.now (fin.entries s.durable.names.tree)) p (mapped_at bare.now v))
  list_goes p None so = refuses (calls.List p) refusals.NotFound so
  list_goes p (Some Dir) so =
      subst (λ (r : Result Answer Refusal). Goes (calls.List p) (looked_up s req (store.listing (fin.entries s.durable.names.tree) p (Some Dir))) r) (ap (λ names. Ok (answers.Names names)) (sym (same_names bare.now p (fin.entries s.durable.names.tree))))
      (inr (answered_went false false s req _ (machine_of bare s.durable) now next met so))
  list_goes p (Some (File chunks)) so = inr (answered_went false false s req _ (machine_of bare s.durable) now next met so)

  -- ---- a snapshot

  copies_none : (from to : Path) → counted (edits.Snapshot from to) (fin.entries s.durable.names.tree) s.durable.names.refs ≡ Ok s.durable.names.refs
  copies_none from to = ap (raised_each s.durable.names.refs) (source_bare s met.still from)

  snapshot_goes : (from to : Path) → FitsAndStands s (snapshot_if s req from to (edited (edits.Snapshot from to) (fin.entries s.durable.names.tree)))
      → Goes (calls.Snapshot from to) (snapshot_if s req from to (edited (edits.Snapshot from to) (fin.entries s.durable.names.tree))) (answered answers.Nothing (snapshot_rows (mapped_rows bare.now (fin.entries s.durable.names.tree)) from to))
  unfolding edited_names
  snapshot_goes from to so = each (snapshot_rows (fin.entries s.durable.names.tree) from to) refl so
    where
      own : FitsAndStands s (edited_by s req (Snapshot from to) answers.Nothing) → Goes (calls.Snapshot from to) (edited_by s req (Snapshot from to) answers.Nothing) (answered answers.Nothing (snapshot_rows (mapped_rows bare.now (fin.entries s.durable.names.tree)) from to))
      own so =
          edit_goes (calls.Snapshot from to) (Snapshot from to) (Snapshot from to) answers.Nothing (commands.Snapshot from to) (snapshot_rows (fin.entries s.durable.names.tree) from to) (snapshot_rows (mapped_rows bare.now (fin.entries s.durable.names.tree)) from to)
          (ap (λ (r : Result Counts Refusal). names_from (with_counts (snapshot_rows (fin.entries s.durable.names.tree) from to) r)) (copies_none from to))
          (snapshot_rows-map bare.now (fin.entries s.durable.names.tree) from to) refl refl tt (kept_so (Snapshot from to)) refl same_number so

      each : (r : Result (Rows ℕ) Refusal) → snapshot_rows (fin.entries s.durable.names.tree) from to ≡ r → FitsAndStands s (snapshot_if s req from to r) →
          Goes (calls.Snapshot from to) (snapshot_if s req from to r) (answered answers.Nothing (snapshot_rows (mapped_rows bare.now (fin.entries s.durable.names.tree)) from to))
      each (Ok rows) is so =
          let still = nothing_unquiet s met.still from in
          subst (λ (chunks : List ℕ). Goes (calls.Snapshot from to) (begins_snapshot s req from to chunks) (answered answers.Nothing (snapshot_rows (mapped_rows bare.now (fin.entries s.durable.names.tree)) from to))) (sym still)
          (own (subst (λ (chunks : List ℕ). FitsAndStands s (begins_snapshot s req from to chunks)) still so))
      each (Err e) is so =
          subst (λ (t : Result Texts Refusal). Goes (calls.Snapshot from to) (refused s req e) (answered answers.Nothing t)) (sym (snapshot_rows-map bare.now (fin.entries s.durable.names.tree) from to ∙ ap (mapped_edit bare.now) is)) (refuses (calls.Snapshot from to) e so)

  -- ---- all calls

  same_result : {a b : Result Answer Refusal} → ◌≡◌ {A = Option (Result Answer Refusal)} (Some a) (Some b) → a ≡ b
  same_result h = cc

  called_goes : (config : Config) (call : Call) (result : Result Answer Refusal) → tree_answer (mapped_rows bare.now (fin.entries s.durable.names.tree)) moment.0 next call ≡ Some result → FitsAndStands s (called config s req moment call) → Goes call (called config s req moment call) result
  unfolding edited_names
  called_goes config (calls.Mkdirs p) result is so =
      subst (Goes (calls.Mkdirs p) (edited_by s req (Mkdirs p) answers.Nothing)) (same_result is)
      (edit_goes (calls.Mkdirs p) (Mkdirs p) (Mkdirs p) answers.Nothing (commands.Mkdirs p) (mkdirs_rows (fin.entries s.durable.names.tree) p) (mkdirs_rows (mapped_rows bare.now (fin.entries s.durable.names.tree)) p) refl (mkdirs_rows-map bare.now (fin.entries s.durable.names.tree) p) refl refl tt (kept_so (Mkdirs p)) refl same_number so)
  called_goes config (calls.Create p) result is so =
      subst (Goes (calls.Create p) (edited_by s req (Create p) answers.Nothing)) (same_result is)
      (edit_goes (calls.Create p) (Create p) (Create p) answers.Nothing (commands.Create p) (create_rows (fin.entries s.durable.names.tree) p) (create_rows (mapped_rows bare.now (fin.entries s.durable.names.tree)) p) refl (create_rows-map bare.now (fin.entries s.durable.names.tree) p) refl refl tt (kept_so (Create p)) refl same_number so)
  called_goes config (calls.Rename from to) result is so =
      subst (Goes (calls.Rename from to) (renames s req from to)) (same_result is)
      (edit_goes (calls.Rename from to) (Rename from to) (Rename from (target_of (fin.get s.durable.names.tree) from to)) answers.Nothing (commands.Rename from to) (rename_rows (fin.entries s.durable.names.tree) from to) (rename_rows (mapped_rows bare.now (fin.entries s.durable.names.tree)) from to) refl
      (rename_rows-map bare.now (fin.entries s.durable.names.tree) from to) refl refl tt (λ names e. resolved_does s.durable.names names from to e) refl same_number so)
  called_goes config (calls.Delete p recursive) result is so = subst (Goes (calls.Delete p recursive) (deleted s req p recursive moment)) (same_result is) (delete_goes p recursive so)
  called_goes config (calls.Undelete p) result is so =
      subst (Goes (calls.Undelete p) (edited_by s req (Unhide p) (answers.Path (unhide_target p (old_name p))))) (same_result is)
      (edit_goes (calls.Undelete p) (Unhide p) (Unhide p) (answers.Path (unhide_target p (old_name p))) (commands.Unhide p) (unhide_rows (fin.entries s.durable.names.tree) p) (unhide_rows (mapped_rows bare.now (fin.entries s.durable.names.tree)) p) refl (unhide_rows-map bare.now (fin.entries s.durable.names.tree) p) refl refl tt (kept_so (Unhide p)) refl same_number so)
  called_goes config (calls.Snapshot from to) result is so = subst (Goes (calls.Snapshot from to) (called config s req moment (calls.Snapshot from to))) (same_result is) (snapshot_goes from to so)
  called_goes config (calls.List p) result is so =
      subst (Goes (calls.List p) (looked_up s req (store.listing (fin.entries s.durable.names.tree) p (fin.get s.durable.names.tree p)))) (same_result is)
      (subst (λ v. Goes (calls.List p) (looked_up s req (store.listing (fin.entries s.durable.names.tree) p (fin.get s.durable.names.tree p))) (listed (mapped_rows bare.now (fin.entries s.durable.names.tree)) p v))
      (sym (at_mapped bare.now (fin.entries s.durable.names.tree) p ∙ ap (λ m. mapped_at bare.now (m p)) (sym (seen s.durable.names.tree)))) (list_goes p (fin.get s.durable.names.tree p) so))
  called_goes config (calls.Status p) result is so = absurd (cc)
  called_goes config (calls.FindForReading p index) result is so = absurd (cc)
  called_goes config (calls.FindForWriting p index stamp) result is so = absurd (cc)
  called_goes config (calls.Extend p index) result is so = absurd (cc)
  called_goes config calls.Scan result is so = absurd (cc)
  called_goes config calls.Replicate result is so = absurd (cc)
  called_goes config calls.Query result is so = absurd (cc)
  called_goes config calls.PrepareBegin result is so = absurd (cc)
  called_goes config calls.PrepareCommit result is so = absurd (cc)
  called_goes config calls.PrepareAbort result is so = absurd (cc)
  called_goes config calls.Finalize result is so = absurd (cc)
  called_goes config calls.RollbackBegin result is so = absurd (cc)
  called_goes config calls.RollbackCommit result is so = absurd (cc)

  -- a deep path and a hidden name are refused before
  by_paths_or : (config : Config) (call : Call) (result plain : Result Answer Refusal) (deep hidden : Bool) → tree_answer (mapped_rows bare.now (fin.entries s.durable.names.tree)) moment.0 next call ≡ Some result → (if deep then Err refusals.BadPath else if hidden then Err refusals.HiddenName else result) ≡ plain
      → FitsAndStands s (called_unless config s req moment call (tests_left false false deep hidden)) → Goes call (called_unless config s req moment call (tests_left false false deep hidden)) plain
  by_paths_or config call result plain true hidden tree is so = subst (Goes call (refused s req refusals.BadPath)) is (refuses call refusals.BadPath so)
  by_paths_or config call result plain false true tree is so = subst (Goes call (refused s req refusals.HiddenName)) is (refuses call refusals.HiddenName so)
  by_paths_or config call result plain false false tree is so = subst (Goes call (called config s req moment call)) is (called_goes config call result tree so)

  pub new_goes : (config : Config) (call : Call) (plain : Result Answer Refusal) → plain_answer (mapped_rows bare.now (fin.entries s.durable.names.tree)) moment.0 next call ≡ Some plain → FitsAndStands s (new_call config s req moment call) → Goes call (new_call config s req moment call) plain
  new_goes config call plain is so = each (tree_answer (mapped_rows bare.now (fin.entries s.durable.names.tree)) moment.0 next call) refl is
    where
      tests : refused_before s req call ≡ tests_left false false (is_any_deep call) (is_any_hidden call)
      tests =
          refused_so s req call met.still
          ∙ ap (λ (b : Bool). tests_left (b && not (is_always_taken call)) (s.volatile.is_preparing && is_work call) (is_any_deep call) (is_any_hidden call)) met.rolled
          ∙ ap (λ (b : Bool). tests_left false (b && is_work call) (is_any_deep call) (is_any_hidden call)) met.begun

      each : (o : Option (Result Answer Refusal)) → tree_answer (mapped_rows bare.now (fin.entries s.durable.names.tree)) moment.0 next call ≡ o → option_map (by_paths call) o ≡ Some plain
          → Goes call (new_call config s req moment call) plain
      each None tree h = absurd (cc)
      each (Some result) tree h =
          subst (λ (o : Option Refusal). Goes call (called_unless config s req moment call o) plain) (sym tests)
          (by_paths_or config call result plain (is_any_deep call) (is_any_hidden call) tree (same_result h) (subst (λ (o : Option Refusal). FitsAndStands s (called_unless config s req moment call o)) tests so))

pub tree_calls_go : TreeCallsGo
tree_calls_go config s req moment call m now next plain asked named number is =
    let new = is_new_call config s req moment call asked.still (is_new s req.client asked.last req.number asked.answered asked.above) in
    let so = subst (FitsAndStands s) new (call_fits config s req moment call asked.still named number) in
    let met : Asked false false s req (machine_of bare s.durable) now next = record { still = asked.still; begun = asked.begun; rolled = asked.rolled; shows = record { plain = refl; epoch = asked.shows.epoch; hidden = asked.shows.hidden }; last = asked.last; answered = asked.answered; above = asked.above } in
    subst (λ (t : Turn). WasShort req t ⊎ WentTo false false req t [] plain (plain_after moment.0 next call plain m) now (hidden_after moment.0 next call plain)) (sym new)
    (subst (λ (p : Plain (List ℕ)). WasShort req (new_call config s req moment call) ⊎ WentTo false false req (new_call config s req moment call) [] plain (plain_after moment.0 next call plain p) now (hidden_after moment.0 next call plain)) asked.shows.plain
    (new_goes s req moment now next met config call plain (subst (λ (p : Plain (List ℕ)). plain_answer p.tree moment.0 next call ≡ Some plain) (sym asked.shows.plain) is) so))
