-- A change of the tree that is new to the master is answered as the machine answers it, and leaves what the machine shows after it.
use Rattle.std.proofs.Common.{ap, inl, inr, map, not, refl, subst, sym, ◌&&◌, ◌++◌, ◌+◌, ◌==◌, ◌∷◌, ◌∙◌, ◌≡◌, ◌⊎◌, Bool, Err, List, None, Ok, Option, Result, Some, T, [], false, if◌then◌else◌, true, ℕ}
use Rattle.std.specs.Prelude.{is_none}
use Rattle.std.proofs.lemmas.Bool.{false≢true}
use Rattle.std.specs.FinMap as fin
use Rattle.std.specs.FinMap.Entries.{is_sorted}
use Rattle.std.specs.Result.{result_unwrap_or}
use Rattle.gs_base.specs.declared.config.Config.{Config}
use Rattle.gs_base.specs.declared.numbers.Moment.{Moment}
use Rattle.gs_base.specs.declared.numbers.ReqId.{ReqId}
use Rattle.gs_base.specs.declared.refusal.Refusal.{Refusal}
use Rattle.gs_base.specs.declared.refusal.Refusal.TheVariants as refusals
use Rattle.gs_edit.proofs.Payloads.{create-tables, create_rows-map, hide-tables, hide_rows-map, mkdirs-tables, mkdirs_rows-map, rename-tables, rename_rows-map, unhide-tables, unhide_rows-map}
use Rattle.gs_edit.specs.Edits.{with_counts}
use Rattle.gs_edit.specs.Mapped.{Tables, mapped_edit, mapped_rows}
use Rattle.gs_edit.specs.Plain.{create_rows, hide_rows, mkdirs_rows, rename_rows, unhide_rows, unhide_target}
use Rattle.gs_edit.specs.Table.{moved_path, paths_of, tabled}
use Rattle.gs_edit.specs.View.{NamesView}
use Rattle.gs_laws_moves.specs.answers.AtOnce.{OneSays}
use Rattle.gs_laws_moves.specs.answers.Changes.{Changes, edit_for, is_change, number_after}
use Rattle.gs_edit.proofs.Tables.{seen}
use Rattle.gs_laws_plain.proofs.lemmas.commands.Answering.{same_visible}
use Rattle.gs_laws_plain.proofs.lemmas.commands.Rows.{at_mapped, from_itself}
use Rattle.gs_laws_plain.specs.calm.Calm.{hidden_after}
use Rattle.gs_laws_plain.specs.commands.Answers.{answered, by_paths, deletes, has_visible}
use Rattle.gs_laws_plain.specs.commands.Commands.{Texts}
use Rattle.gs_master_record.specs.Plain.{Create, Hide, Mkdirs, PlainEdit, Rename, Unhide}
use Rattle.gs_master_record.specs.declared.checkpoint.Phase.{Phase as Durable_phase}
use Rattle.gs_master_record.specs.declared.checkpoint.Phase.TheVariants.{Ordinary, Rolling, Upgrade}
use Rattle.gs_master_spec.specs.Calls.{accept_plan, answered_with, edit_if, edited_by, has_visible_child, is_always_taken, is_any_deep, is_any_hidden, is_locked, is_work, refused_before, told_phase}
use Rattle.gs_master_spec.specs.Durable.{Durable, after_number}
use Rattle.gs_master_spec.specs.Durable.{is_rolling as is_rolled}
use Rattle.gs_master_spec.specs.Handling.{called_unless, new_call}
use Rattle.gs_master_spec.specs.State.{State, Turn, first_of, fits, is_failed, refused, reply_to, turned}
use Rattle.gs_master_spec.specs.Undoing.{edited_names, names_from}
use Rattle.gs_msg.specs.declared.answer.Answer.{Answer as Said}
use Rattle.gs_msg.specs.declared.answer.Answer.TheVariants as says
use Rattle.gs_msg.specs.declared.body.Body.TheVariants as bodies
use Rattle.gs_msg.specs.declared.call.Call.{Call}
use Rattle.gs_msg.specs.declared.call.Call.TheVariants as calls
use Rattle.gs_base.specs.Numbers.{last_number}
use Rattle.gs_path.specs.Path.{Path, path_cmp}
use Rattle.gs_tree.specs.Edits.{create, hidden_path, hide, mkdirs, old_name, rename, same_path, target_of, unhide}
use Rattle.gs_tree.specs.Entry.{Entry}
use Rattle.gs_tree.specs.Mapped.{mapped_at}
use Rattle.gs_tree.specs.Find.{Rows, at, is_too_deep}
use Rattle.gs_tree.specs.Plain.{Plain}
use Rattle.gs_laws_scripts.proofs.lemmas.explained.Lifted.{itself}
use Rattle.gs_laws_scripts.proofs.lemmas.explained.Listed.{rolls_so, rows_twice}
use Rattle.gs_laws_scripts.specs.explained.Changes.{ChangesAreTold, IsChangeTold}
use Rattle.gs_laws_scripts.specs.explained.Lines.{AsksNow, IsOfStore, IsSaid}
use Rattle.gs_laws_scripts.specs.explained.Machine.{Machine, Text, called, is_preparing, is_rolling, taken, tree_after, tree_called, tree_said}
use Rattle.gs_laws_scripts.specs.explained.Standing.{IsNumberOf, ShowsNames}

-- ---- names and rows

true_t : (b : Bool) → b ≡ true → T b
true_t true h = tt
true_t false h = absurd (cc)

sorted_of : (m : Result (Plain ℕ) Refusal) (r : Result (Rows ℕ) Refusal) (rows : Rows ℕ) → Tables m r → r ≡ Ok rows → T (is_sorted path_cmp rows)
sorted_of (Ok m) (Ok own) rows t e = (let same : own ≡ rows = (let h = e in cc) in true_t (is_sorted path_cmp rows) (subst (λ (rs : Rows ℕ). is_sorted path_cmp rs ≡ true) same t.0))
sorted_of (Ok m) (Err x) rows t e = absurd t
sorted_of (Err x) (Ok own) rows t e = absurd t
sorted_of (Err x) (Err y) rows t e = absurd (cc)

-- names that rows make
record AreMade (made : Result (Rows ℕ) Refusal) (new : NamesView) : Type 0 where
  rows : Rows ℕ
  is : made ≡ Ok rows
  tree : new.tree ≡ fin.from_entries rows

made_of : (made : Result (Rows ℕ) Refusal) (old new : NamesView) → names_from (with_counts made (Ok old.refs)) ≡ Ok new → AreMade made new
made_of (Err x) old new e = absurd (cc)
made_of (Ok rows) old new e = record { rows = rows; is = refl; tree = sym (ap (λ (n : Result NamesView Refusal). tree_in n) e) }
  where
    tree_in : Result NamesView Refusal → fin.FinMap path_cmp (Entry ℕ)
    tree_in (Ok n) = n.tree
    tree_in (Err x) = fin.empty

refusal_of : (made : Result (Rows ℕ) Refusal) (old : NamesView) (refusal : Refusal) → names_from (with_counts made (Ok old.refs)) ≡ Err refusal → made ≡ Err refusal
refusal_of (Err x) old refusal e = ap (λ k. Err k) (same e)
  where
    same : {a b : Refusal} → ◌≡◌ {A = Result NamesView Refusal} (Err a) (Err b) → a ≡ b
    same h = cc
refusal_of (Ok rows) old refusal e = absurd (cc)

-- whatever stands for chunks, it is answered alike
answered_mapped : {A B : Type 0} (f : A → B) (answer : Said) (made : Result (Rows A) Refusal) → answered answer (mapped_edit f made) ≡ answered answer made
answered_mapped f answer (Ok rows) = refl
answered_mapped f answer (Err refusal) = refl

-- ---- what comes before a change's own tests

-- The store refuses it, or its paths are refused, or it comes to its own tests.
abbrev IsGate : Bool → Bool → Bool → Option Refusal → Type 0
IsGate rolling deep hidden None = (rolling ≡ false) × ((deep ≡ false) × (hidden ≡ false))
IsGate rolling deep hidden (Some refusal) = IsOfStore refusal ⊎ (((rolling ≡ false) × ((deep ≡ true) × (refusal ≡ refusals.BadPath))) ⊎ ((rolling ≡ false) × ((deep ≡ false) × ((hidden ≡ true) × (refusal ≡ refusals.HiddenName)))))

gates : (failed rolling preparing deep locked hidden : Bool)
    → IsGate rolling deep hidden (first_of ((failed, refusals.Device) ∷ (rolling && true, refusals.RollingBack) ∷ (preparing && true, refusals.Preparing) ∷ (deep, refusals.BadPath) ∷ (locked, refusals.Locked) ∷ (hidden, refusals.HiddenName) ∷ []))
gates true rolling preparing deep locked hidden = inl refl
gates false true preparing deep locked hidden = inl refl
gates false false true deep locked hidden = inl refl
gates false false false true locked hidden = inr (inl (refl, (refl, refl)))
gates false false false false true hidden = inl refl
gates false false false false false true = inr (inr (refl, (refl, (refl, refl))))
gates false false false false false false = (refl, (refl, refl))

-- ---- the machine

no_gate : (rolling preparing a b : Bool) (x y z : Result Said Refusal × Machine) → rolling ≡ false → preparing ≡ false → ◌≡◌ {A = Result Said Refusal × Machine} (if rolling && a then x else if preparing && b then y else z) z
no_gate true preparing a b x y z r p = absurd (false≢true (sym r))
no_gate false true a b x y z r p = absurd (false≢true (sym p))
no_gate false false a b x y z r p = refl

-- what is told shows no prepare that is begun
none_begun : (phase : Durable_phase) → is_preparing (told_phase false phase) ≡ false
none_begun Ordinary = refl
none_begun Upgrade = refl
none_begun Rolling = refl

-- a deletion takes its number
taken_number : (shown number : ℕ) → (number == 0) ≡ false → IsNumberOf shown number → IsNumberOf (shown + 1) (after_number number)
taken_number shown number some (inr none) = absurd (false≢true (sym some ∙ ap (λ n. n == 0) none))
taken_number shown number some (inl same) = by_last (number == last_number)
  where
    by_last : (b : Bool) → IsNumberOf (shown + 1) (if b then 0 else number + 1)
    by_last true = inr refl
    by_last false = inl (ap (λ n. n + 1) same)

its_number : (shown number : ℕ) → (number == 0) ≡ false → IsNumberOf shown number → shown ≡ number
its_number shown number some (inl same) = same
its_number shown number some (inr none) = absurd (false≢true (sym some ∙ ap (λ n. n == 0) none))

none_mapped : {A B : Type 0} (f : A → B) (entry : Option (Entry A)) → is_none (mapped_at f entry) ≡ is_none entry
none_mapped f None = refl
none_mapped f (Some entry) = refl

-- what isn't there isn't hidden
nothing_hides : (moved : List Path) (rest : Result (Plain Text) Refusal) (rows : Rows Text) (root none : Bool) → none ≡ true → result_unwrap_or (tabled moved (if root then Err refusals.IsRoot else if none then Err refusals.NotFound else rest)) rows ≡ rows
nothing_hides moved rest rows true none is = refl
nothing_hides moved rest rows false true is = refl
nothing_hides moved rest rows false false is = absurd (false≢true is)

module _ (config : Config) (s : State) (req : ReqId) (moment : Moment) (m : Machine) (result : Result Said Refusal) (shows : ShowsNames s.durable m) (now : m.moment ≡ moment.0) where
  abbrev bytes : Text → List ℕ
  bytes text = text.bytes

  -- one reply
  one_said : (given : Result Said Refusal) → OneSays req result (reply_to req given ∷ []) → result ≡ given
  one_said given (inl is) = same is
    where
      same : bodies.Reply req given ≡ bodies.Reply req result → result ≡ given
      same e = cc
  one_said given (inr none) = absurd none

  -- ---- a change, by what the plain tree answers

  module _ (call : Call) (plainly : Result Said Refusal) (plain : tree_said call m ≡ by_paths call plainly) (takes : taken call m ≡ tree_called call (tree_said call m) m) (gate : IsGate (is_rolled s.durable.phase) (is_any_deep call) (is_any_hidden call) (refused_before s req call)) where
    abbrev e : Durable
    e = (new_call config s req moment call).after.durable

    called_so : is_rolled s.durable.phase ≡ false → (said : Result Said Refusal) → by_paths call plainly ≡ said → called call m ≡ tree_called call said m
    called_so calm said is =
        no_gate (is_rolling m.phase) (is_preparing m.phase) (not (is_always_taken call)) (is_work call) (Err refusals.RollingBack, m) (Err refusals.Preparing, m) (taken call m) (ap is_rolling shows.phase ∙ rolls_so s.durable.phase ∙ calm) (ap is_preparing shows.phase ∙ none_begun s.durable.phase)
        ∙ takes ∙ ap (λ r. tree_called call r m) (plain ∙ is)

    -- ---- refused

    refused_so : is_rolled s.durable.phase ≡ false → (refusal : Refusal) → by_paths call plainly ≡ Err refusal → AsksNow call m (Err refusal) m
    refused_so calm refusal is =
        let comes : called call m ≡ (Err refusal, m) = called_so calm (Err refusal) is in
        inl (subst (λ (x : Result Said Refusal × Machine). IsSaid x.0 (Err refusal)) (sym comes) (itself (Err refusal)), sym (ap (λ (x : Result Said Refusal × Machine). x.1) comes))

    by_store : (refusal : Refusal) → IsOfStore refusal → AsksNow call m (Err refusal) m
    by_store refusal store = inr (refusal, refl, inl (store, refl))

    refused_told : (refusal : Refusal) → result ≡ Err refusal → AsksNow call m (Err refusal) m → IsChangeTold e call m result
    refused_told refusal is asks = subst (IsChangeTold e call m) (sym is) asks

    paths_pass : is_any_deep call ≡ false → is_any_hidden call ≡ false → by_paths call plainly ≡ plainly
    paths_pass deep hidden = ap (λ b. if b then Err refusals.BadPath else if is_any_hidden call then Err refusals.HiddenName else plainly) deep ∙ ap (λ b. if b then Err refusals.HiddenName else plainly) hidden

    abbrev Inner : Type 0
    Inner = is_rolled s.durable.phase ≡ false → is_any_deep call ≡ false → is_any_hidden call ≡ false → OneSays req result (called_unless config s req moment call None).sent → IsChangeTold e call m result

    refused_there : is_rolled s.durable.phase ≡ false → is_any_deep call ≡ false → is_any_hidden call ≡ false → (refusal : Refusal) → plainly ≡ Err refusal → result ≡ Err refusal → IsChangeTold e call m result
    refused_there calm deep hidden refusal is said = refused_told refusal said (refused_so calm refusal (paths_pass deep hidden ∙ is))

    -- ---- accepted

    accepted_there : is_rolled s.durable.phase ≡ false → is_any_deep call ≡ false → is_any_hidden call ≡ false → (answer : Said) → plainly ≡ Ok answer → result ≡ Ok answer → ShowsNames e (tree_called call (Ok answer) m).1 → IsChangeTold e call m result
    accepted_there calm deep hidden answer is said shown =
        let comes : called call m ≡ tree_called call (Ok answer) m = called_so calm (Ok answer) (paths_pass deep hidden ∙ is) in
        subst (IsChangeTold e call m) (sym said) (
          (tree_called call (Ok answer) m).1,
          inl (subst (λ (x : Result Said Refusal × Machine). IsSaid x.0 (Ok answer)) (sym comes) (itself (Ok answer)), sym (ap (λ (x : Result Said Refusal × Machine). x.1) comes)),
          shown,
          refl,
        )

    -- ---- its turn

    by_gate : Inner → (o : Option Refusal) → IsGate (is_rolled s.durable.phase) (is_any_deep call) (is_any_hidden call) o → OneSays req result (called_unless config s req moment call o).sent → IsChangeTold e call m result
    by_gate inner None (calm, (deep, hidden)) said = inner calm deep hidden said
    by_gate inner (Some refusal) (inl store) said = refused_told refusal (one_said (Err refusal) said) (by_store refusal store)
    by_gate inner (Some refusal) (inr (inl (calm, (deep, is)))) said =
        refused_told refusal (one_said (Err refusal) said)
        (refused_so calm refusal (ap (λ b. if b then Err refusals.BadPath else if is_any_hidden call then Err refusals.HiddenName else plainly) deep ∙ ap (λ (k : Refusal). Err k) (sym is)))
    by_gate inner (Some refusal) (inr (inr (calm, (deep, (hidden, is))))) said =
        refused_told refusal (one_said (Err refusal) said)
        (refused_so calm refusal
        (ap (λ b. if b then Err refusals.BadPath else if is_any_hidden call then Err refusals.HiddenName else plainly) deep ∙ ap (λ b. if b then Err refusals.HiddenName else plainly) hidden ∙ ap (λ (k : Refusal). Err k) (sym is)))

    told : Inner → OneSays req result (new_call config s req moment call).sent → IsChangeTold e call m result
    told inner said = by_gate inner (refused_before s req call) gate said

    -- ---- by the rows that an edit makes

    module _ (edit recorded : PlainEdit) (answer : Said) (made : Result (Rows ℕ) Refusal) (makes : plainly ≡ answered answer made) (changes : result ≡ Ok answer → Changes s req (Some edit) (new_call config s req moment call)) (after : tree_after call m ≡ mapped_edit shows.text made)
        (named : edited_names edit s.durable.names ≡ names_from (with_counts made (Ok s.durable.names.refs))) (sorted : (rows : Rows ℕ) → made ≡ Ok rows → T (is_sorted path_cmp rows))
        (numbers : IsNumberOf (hidden_after m.moment m.next_hidden call (Ok answer)) (number_after (Some edit) s.durable.next_hidden)) (calm : is_rolled s.durable.phase ≡ false) (deep : is_any_deep call ≡ false) (hidden : is_any_hidden call ≡ false) where
      shown_so : Changes s req (Some edit) (new_call config s req moment call) → AreMade made e.names → ShowsNames e (tree_called call (Ok answer) m).1
      shown_so c a =
          let rows_are : fin.entries e.names.tree ≡ a.rows = ap fin.entries a.tree ∙ from_itself a.rows (sorted a.rows a.is) in
          record {
            text = shows.text;
            tree = ap (λ (r : Result (Rows Text) Refusal). result_unwrap_or r m.plain.tree) (after ∙ ap (mapped_edit shows.text) a.is) ∙ ap (λ (rs : Rows ℕ). mapped_rows shows.text rs) (sym rows_are);
            hidden = subst (IsNumberOf (hidden_after m.moment m.next_hidden call (Ok answer))) (sym c.hidden) numbers;
            epoch = shows.epoch ∙ sym c.epoch;
            phase = shows.phase ∙ ap (told_phase false) (sym c.phase);
          }

      accepted_told : result ≡ Ok answer → IsChangeTold e call m result
      accepted_told is = (let c = changes is in let a = made_of made s.durable.names e.names (sym named ∙ c.names) in accepted_there calm deep hidden answer (makes ∙ ap (answered answer) a.is) is (shown_so c a))

      by_names : (names : Result NamesView Refusal) → edited_names edit s.durable.names ≡ names → OneSays req result (edit_if s req recorded answer names).sent → IsChangeTold e call m result
      by_names (Err refusal) does said = refused_there calm deep hidden refusal (makes ∙ ap (answered answer) (refusal_of made s.durable.names refusal (sym named ∙ does))) (one_said (Err refusal) said)
      by_names (Ok names) does said = by_room (fits s.log (turned s (accept_plan req recorded answer)).records) said
        where
          by_room : (room : Bool) → OneSays req result (if room then turned s (accept_plan req recorded answer) else refused s req refusals.Full).sent → IsChangeTold e call m result
          by_room true said = accepted_told (one_said (Ok answer) said)
          by_room false said = refused_told refusals.Full (one_said (Err refusals.Full) said) (by_store refusals.Full refl)

  -- ---- each of them

  abbrev rows : Rows ℕ
  rows = fin.entries s.durable.names.tree

  abbrev gate_of : (call : Call) → IsGate (is_rolled s.durable.phase) (is_any_deep call) (is_any_hidden call) (first_of ((is_failed s.fault, refusals.Device) ∷ (is_rolled s.durable.phase && true, refusals.RollingBack) ∷ (s.volatile.is_preparing && true, refusals.Preparing) ∷ (is_any_deep call, refusals.BadPath) ∷ (is_locked s req call, refusals.Locked) ∷ (is_any_hidden call, refusals.HiddenName) ∷ []))
  gate_of call = gates (is_failed s.fault) (is_rolled s.durable.phase) s.volatile.is_preparing (is_any_deep call) (is_locked s req call) (is_any_hidden call)

  -- by what it makes of the rows of texts
  plain_so : (answer : Said) (made : Result (Rows ℕ) Refusal) (texts : Result (Rows Text) Refusal) (all : Result Texts Refusal) → all ≡ mapped_edit bytes texts → texts ≡ mapped_edit shows.text made → answered answer all ≡ answered answer made
  plain_so answer made texts all first second = ap (answered answer) first ∙ answered_mapped bytes answer texts ∙ ap (answered answer) second ∙ answered_mapped shows.text answer made

  abbrev Told : Call → Type 0
  Told call = OneSays req result (new_call config s req moment call).sent → ((said : Said) → result ≡ Ok said → Changes s req (edit_for s.durable moment call) (new_call config s req moment call)) → IsChangeTold (new_call config s req moment call).after.durable call m result

  -- ---- a deletion

  module _ (p : Path) (recursive : Bool) (said : OneSays req result (new_call config s req moment (calls.Delete p recursive)).sent) (changes : (said : Said) → result ≡ Ok said → Changes s req (edit_for s.durable moment (calls.Delete p recursive)) (new_call config s req moment (calls.Delete p recursive))) where
    abbrev call_it : Call
    call_it = calls.Delete p recursive

    abbrev number : ℕ
    number = s.durable.next_hidden

    abbrev texts : Texts
    texts = mapped_rows bytes m.plain.tree

    abbrev hidden_there : Said
    hidden_there = says.Path (hidden_path p m.moment m.next_hidden)

    abbrev hide_it : PlainEdit
    hide_it = Hide p moment.0 number

    abbrev plainly_it : Result Said Refusal
    plainly_it = deletes texts p recursive m.moment m.next_hidden

    abbrev after_it : Durable
    after_it = (new_call config s req moment call_it).after.durable

    both_texts : texts ≡ mapped_rows (λ chunk. bytes (shows.text chunk)) rows
    both_texts = ap (mapped_rows bytes) shows.tree ∙ rows_twice bytes shows.text rows

    -- what the tests find in both
    none_is : is_none (at texts p) ≡ is_none (fin.get s.durable.names.tree p)
    none_is =
        ap (λ (ts : Texts). is_none (at ts p)) both_texts ∙ ap is_none (at_mapped (λ chunk. bytes (shows.text chunk)) rows p) ∙ none_mapped (λ chunk. bytes (shows.text chunk)) (at rows p) ∙ ap (λ (t : Plain ℕ). is_none (t p)) (sym (seen s.durable.names.tree))

    none_there : is_none (at m.plain.tree p) ≡ is_none (fin.get s.durable.names.tree p)
    none_there = ap (λ (ts : Rows Text). is_none (at ts p)) shows.tree ∙ ap is_none (at_mapped shows.text rows p) ∙ none_mapped shows.text (at rows p) ∙ ap (λ (t : Plain ℕ). is_none (t p)) (sym (seen s.durable.names.tree))

    full_is : has_visible texts p ≡ has_visible_child rows p
    full_is = ap (λ (ts : Texts). has_visible ts p) both_texts ∙ same_visible (λ chunk. bytes (shows.text chunk)) p rows

    -- what the plain tree answers, by the tests of the master
    abbrev hides : Result Said Refusal
    hides = answered hidden_there (hide_rows texts p m.moment m.next_hidden)

    abbrev answers_by : (root none full : Bool) → Result Said Refusal
    answers_by root none full = if root then Err refusals.IsRoot else if none then Ok says.Absent else if full then Err refusals.NotEmpty else hides

    abbrev full_there : Bool
    full_there = not recursive && has_visible_child rows p

    abbrev none_here : Bool
    none_here = is_none (fin.get s.durable.names.tree p)

    answers_so : plainly_it ≡ answers_by (same_path p []) none_here full_there
    answers_so = ap (λ b. answers_by (same_path p []) b (not recursive && has_visible texts p)) none_is ∙ ap (λ b. answers_by (same_path p []) none_here (not recursive && b)) full_is

    module _ (calm : is_rolled s.durable.phase ≡ false) (deep : is_any_deep call_it ≡ false) (hidden : is_any_hidden call_it ≡ false) where
      refuses : (refusal : Refusal) → plainly_it ≡ Err refusal → OneSays req result (reply_to req (Err refusal) ∷ []) → IsChangeTold after_it call_it m result
      refuses refusal is said = refused_there call_it plainly_it refl refl (gate_of call_it) calm deep hidden refusal is (one_said (Err refusal) said)

      -- nothing stands there
      unmade : none_here ≡ true → result ≡ Ok says.Absent → edit_for s.durable moment call_it ≡ None
      unmade none is = ap (λ b. if b then None else Some hide_it) none

      absent : none_here ≡ true → plainly_it ≡ Ok says.Absent → result ≡ Ok says.Absent → IsChangeTold after_it call_it m result
      absent none plainly is =
          let c : Changes s req None (new_call config s req moment call_it) = subst (λ o. Changes s req o (new_call config s req moment call_it)) (unmade none is) (changes says.Absent is) in
          accepted_there call_it plainly_it refl refl (gate_of call_it) calm deep hidden says.Absent plainly is (record {
            text = shows.text;
            tree = nothing_hides (paths_of m.plain.tree ++ map (moved_path p (hidden_path p m.moment m.next_hidden)) (paths_of m.plain.tree)) _ m.plain.tree (same_path p []) (is_none (at m.plain.tree p)) (none_there ∙ none)
                ∙ shows.tree ∙ ap (λ (names : NamesView). mapped_rows shows.text (fin.entries names.tree)) (names_are c.names);
            hidden = subst (IsNumberOf m.next_hidden) (sym c.hidden) shows.hidden;
            epoch = shows.epoch ∙ sym c.epoch;
            phase = shows.phase ∙ ap (told_phase false) (sym c.phase);
          })
        where
          names_are : {a b : NamesView} → ◌≡◌ {A = Result NamesView Refusal} (Ok a) (Ok b) → a ≡ b
          names_are h = cc

      -- it is hidden
      module _ (root : same_path p [] ≡ false) (some : none_here ≡ false) (empty : full_there ≡ false) (left : (number == 0) ≡ false) where
        same_number : m.next_hidden ≡ number
        same_number = its_number m.next_hidden number left shows.hidden

        hides_so : plainly_it ≡ hides
        hides_so = answers_so ∙ ap (λ b. answers_by b none_here full_there) root ∙ ap (λ b. answers_by false b full_there) some ∙ ap (λ b. answers_by false false b) empty

        abbrev to_answer : Said
        to_answer = says.Path (hidden_path p moment.0 number)

        answer_is : hidden_there ≡ to_answer
        answer_is = λ i. says.Path (hidden_path p (now i) (same_number i))

        after_so : tree_after call_it m ≡ mapped_edit shows.text (hide_rows rows p moment.0 number)
        after_so = (λ i. hide_rows (shows.tree i) p (now i) (same_number i)) ∙ hide_rows-map shows.text rows p moment.0 number

        makes_so : plainly_it ≡ answered to_answer (hide_rows rows p moment.0 number)
        makes_so = hides_so ∙ ap (λ a. answered a (hide_rows texts p m.moment m.next_hidden)) answer_is ∙ plain_so to_answer (hide_rows rows p moment.0 number) (hide_rows m.plain.tree p m.moment m.next_hidden) (hide_rows texts p m.moment m.next_hidden) (hide_rows-map bytes m.plain.tree p m.moment m.next_hidden) after_so

        made_by : result ≡ Ok to_answer → Changes s req (Some hide_it) (new_call config s req moment call_it)
        made_by is = subst (λ o. Changes s req o (new_call config s req moment call_it)) (ap (λ b. if b then None else Some hide_it) some) (changes to_answer is)

        hidden_told : OneSays req result (edited_by s req hide_it to_answer).sent → IsChangeTold after_it call_it m result
        unfolding edited_names
        hidden_told said =
            by_names call_it plainly_it refl refl (gate_of call_it) hide_it hide_it to_answer (hide_rows rows p moment.0 number) makes_so made_by after_so refl (λ rs e. sorted_of (hide (at rows) p moment.0 number) (hide_rows rows p moment.0 number) rs (hide-tables rows p moment.0 number) e)
            (taken_number m.next_hidden number left shows.hidden) calm deep hidden (edited_names hide_it s.durable.names) refl said

      by_number : same_path p [] ≡ false → none_here ≡ false → full_there ≡ false → (b : Bool) → (number == 0) ≡ b → OneSays req result (if b then refused s req refusals.Exhausted else edited_by s req hide_it (says.Path (hidden_path p moment.0 number))).sent → IsChangeTold after_it call_it m result
      by_number root some empty true none said = refused_told call_it plainly_it refl refl (gate_of call_it) refusals.Exhausted (one_said (Err refusals.Exhausted) said) (by_store call_it plainly_it refl refl (gate_of call_it) refusals.Exhausted refl)
      by_number root some empty false left said = hidden_told root some empty left said

      abbrev numbered_turn : Turn
      numbered_turn = if number == 0 then refused s req refusals.Exhausted else edited_by s req hide_it (says.Path (hidden_path p moment.0 number))

      by_full : same_path p [] ≡ false → none_here ≡ false → (b : Bool) → full_there ≡ b → OneSays req result (if b then refused s req refusals.NotEmpty else numbered_turn).sent → IsChangeTold after_it call_it m result
      by_full root some true full said = refuses refusals.NotEmpty (answers_so ∙ ap (λ b. answers_by b none_here full_there) root ∙ ap (λ b. answers_by false b full_there) some ∙ ap (λ b. answers_by false false b) full) said
      by_full root some false empty said = by_number root some empty (number == 0) refl said

      by_none : same_path p [] ≡ false → (b : Bool) → none_here ≡ b → OneSays req result (if b then answered_with s req says.Absent else if full_there then refused s req refusals.NotEmpty else numbered_turn).sent → IsChangeTold after_it call_it m result
      by_none root true none said = absent none (answers_so ∙ ap (λ b. answers_by b none_here full_there) root ∙ ap (λ b. answers_by false b full_there) none) (one_said (Ok says.Absent) said)
      by_none root false some said = by_full root some full_there refl said

      by_root : (b : Bool) → same_path p [] ≡ b → OneSays req result (if b then refused s req refusals.IsRoot else if none_here then answered_with s req says.Absent else if full_there then refused s req refusals.NotEmpty else numbered_turn).sent → IsChangeTold after_it call_it m result
      by_root true root said = refuses refusals.IsRoot (answers_so ∙ ap (λ b. answers_by b none_here full_there) root) said
      by_root false root said = by_none root none_here refl said

    deleted_told : IsChangeTold after_it call_it m result
    deleted_told = told call_it plainly_it refl refl (gate_of call_it) (λ calm deep hidden said. by_root calm deep hidden (same_path p []) refl said) said

  -- ---- the others

  by_call : (call : Call) → is_change call ≡ true → Told call
  unfolding edited_names
  by_call (calls.Mkdirs p) is said changes =
      let call = calls.Mkdirs p in
      let made = mkdirs_rows rows p in
      let after = ap (λ (rs : Rows Text). mkdirs_rows rs p) shows.tree ∙ mkdirs_rows-map shows.text rows p in
      let plainly = answered says.Nothing (mkdirs_rows (mapped_rows bytes m.plain.tree) p) in
      told call plainly refl refl (gate_of call) (λ calm deep hidden said. by_names call plainly refl refl (gate_of call) (Mkdirs p) (Mkdirs p) says.Nothing made (plain_so says.Nothing made (mkdirs_rows m.plain.tree p) (mkdirs_rows (mapped_rows bytes m.plain.tree) p) (mkdirs_rows-map bytes m.plain.tree p) after)
      (changes says.Nothing) after refl (λ rs e. sorted_of (mkdirs (at rows) p) made rs (mkdirs-tables rows p) e) shows.hidden calm deep hidden (edited_names (Mkdirs p) s.durable.names) refl said) said
  by_call (calls.Create p) is said changes =
      let call = calls.Create p in
      let made = create_rows rows p in
      let after = ap (λ (rs : Rows Text). create_rows rs p) shows.tree ∙ create_rows-map shows.text rows p in
      let plainly = answered says.Nothing (create_rows (mapped_rows bytes m.plain.tree) p) in
      told call plainly refl refl (gate_of call) (λ calm deep hidden said. by_names call plainly refl refl (gate_of call) (Create p) (Create p) says.Nothing made (plain_so says.Nothing made (create_rows m.plain.tree p) (create_rows (mapped_rows bytes m.plain.tree) p) (create_rows-map bytes m.plain.tree p) after)
      (changes says.Nothing) after refl (λ rs e. sorted_of (create (at rows) p) made rs (create-tables rows p) e) shows.hidden calm deep hidden (edited_names (Create p) s.durable.names) refl said) said
  by_call (calls.Rename from to) is said changes =
      let call = calls.Rename from to in
      let made = rename_rows rows from to in
      let after = ap (λ (rs : Rows Text). rename_rows rs from to) shows.tree ∙ rename_rows-map shows.text rows from to in
      let plainly = answered says.Nothing (rename_rows (mapped_rows bytes m.plain.tree) from to) in
      told call plainly refl refl (gate_of call) (λ calm deep hidden said. by_names call plainly refl refl (gate_of call) (Rename from to) (Rename from (target_of (fin.get s.durable.names.tree) from to)) says.Nothing made
      (plain_so says.Nothing made (rename_rows m.plain.tree from to) (rename_rows (mapped_rows bytes m.plain.tree) from to) (rename_rows-map bytes m.plain.tree from to) after)
      (changes says.Nothing) after refl (λ rs e. sorted_of (rename (is_too_deep rows from) (at rows) from to) made rs (rename-tables rows from to) e) shows.hidden calm deep hidden (edited_names (Rename from to) s.durable.names) refl said) said
  by_call (calls.Delete p recursive) is said changes = deleted_told p recursive said changes
  by_call (calls.Undelete p) is said changes =
      let call = calls.Undelete p in
      let answer = says.Path (unhide_target p (old_name p)) in
      let made = unhide_rows rows p in
      let after = ap (λ (rs : Rows Text). unhide_rows rs p) shows.tree ∙ unhide_rows-map shows.text rows p in
      let plainly = answered answer (unhide_rows (mapped_rows bytes m.plain.tree) p) in
      told call plainly refl refl (gate_of call) (λ calm deep hidden said. by_names call plainly refl refl (gate_of call) (Unhide p) (Unhide p) answer made (plain_so answer made (unhide_rows m.plain.tree p) (unhide_rows (mapped_rows bytes m.plain.tree) p) (unhide_rows-map bytes m.plain.tree p) after)
      (changes answer) after refl (λ rs e. sorted_of (unhide (at rows) p) made rs (unhide-tables rows p) e) shows.hidden calm deep hidden (edited_names (Unhide p) s.durable.names) refl said) said
  by_call call is said changes = absurd (false≢true is)

pub changes_are_told : ChangesAreTold
changes_are_told config s req moment m call result shows now is said changes = by_call config s req moment m result shows now call is said changes
