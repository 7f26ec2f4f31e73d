-- What a change of the tree that waits for nothing is answered, and what it leaves.
use Rattle.std.proofs.Common.{◌≡◌, inl, inr, ◌∙◌, ℕ, Bool, true, false, List, [], ◌∷◌, refl, ap, sym, subst, arith}
use Rattle.std.specs.Prelude.{Option, Some, None, Result, Ok, Err, ◌&&◌, ◌==◌, if◌then◌else◌, is_none, is_some, nat_lt, not, option_and_then, unwrap_or}
use Rattle.std.specs.FinMap as fin
use Rattle.std.proofs.lemmas.Bool.{false≢true}
use Rattle.std.proofs.lemmas.Bool.Decides.{nat_tests}
use Rattle.gs_base.specs.declared.config.Config.{Config}
use Rattle.gs_base.specs.declared.numbers.Moment.{Moment}
use Rattle.gs_base.specs.declared.numbers.ReqId.{ReqId}
use Rattle.gs_base.specs.declared.refusal.Refusal.{Refusal}
use Rattle.gs_base.specs.declared.refusal.Refusal.TheVariants as refusals
use Rattle.gs_edit.specs.Edits.{with_counts}
use Rattle.gs_edit.specs.Plain.{create_rows, hide_rows, mkdirs_rows, rename_rows, unhide_rows, unhide_target}
use Rattle.gs_edit.specs.Table.{tabled}
use Rattle.gs_edit.specs.View.{NamesView}
use Rattle.gs_msg.specs.declared.answer.Answer.{Answer}
use Rattle.gs_msg.specs.declared.answer.Answer.TheVariants as answers
use Rattle.gs_msg.specs.declared.body.Body.TheVariants as bodies
use Rattle.gs_msg.specs.declared.call.Call.{Call}
use Rattle.gs_msg.specs.declared.call.Call.TheVariants as calls
use Rattle.gs_path.specs.Path.{Name, Path, begins}
use Rattle.gs_refs.specs.Counts.{Counts}
use Rattle.gs_tree.specs.Edits.{beside, create, file_above, hidden_path, hide, is_file, mkdirs, moved, old_name, parent, placed, rename, same_path, target_of, unhidden, unhide}
use Rattle.gs_tree.specs.Find.{Rows, at, is_too_deep}
use Rattle.gs_tree.specs.Plain.{Plain}
use Rattle.gs_master_record.specs.Plain.{Create, Edited, Hide, Mkdirs, PlainEdit, Rename, Unhide}
use Rattle.gs_master_spec.specs.Applied.{after_edit, after_if, applied, chunk_of_edit, if_fits, may_edit, number_of_edit, replayed, view_for, with_answer, with_edit}
use Rattle.gs_master_spec.specs.Calls.{accept_plan, answered_with, deleted, edit_if, edited_by, has_visible_child, is_always_taken, is_any_deep, is_any_hidden, is_locked, is_work, refused_before}
use Rattle.gs_master_spec.specs.Durable.{Durable, is_rolling}
use Rattle.gs_master_spec.specs.Handling.{New, called_unless, numbered}
use Rattle.gs_master_spec.specs.Replies.{answer_to, is_later, later}
use Rattle.gs_master_spec.specs.State.{State, Turn, first_of, fits, is_failed, kept_in_memory, last_reply, refused, reply_to, turned}
use Rattle.gs_master_spec.specs.Undoing.{edited_names, names_from}
use Rattle.gs_master_spec.specs.Volatile.{all_changed}
use Rattle.gs_master_spec.specs.declared.reply.KeptReply.{KeptReply}
use Rattle.gs_master_state.proofs.Renames.{resolved_does}
use Rattle.gs_laws_moves.proofs.lemmas.answers.AtOnce.{Alone, answered_alone, but_replied, but_still, pick, refused_alone, room_alone}
use Rattle.gs_laws_moves.proofs.lemmas.answers.Resting.{answered_leaves, from_first, its_own, kept_had, new_later, no_answer, own_there, refused_leaves}
use Rattle.gs_laws_moves.specs.answers.AtOnce.{AnswersAlone, KeepsBut, OneSays}
use Rattle.gs_laws_moves.specs.answers.Changes.{Changes, ChangesAnswerAtOnce, ChangesAreMade, ChangesAreNotOld, RefusedChangesLeaveNames, edit_for, is_change}
use Rattle.gs_laws_moves.specs.answers.Resting.{HasHad, IsFrom, LeavesNames}

-- of two replies none is later than a number if the later one isn't
first_later : (a o : Option KeptReply) (number : ℕ) → is_later (later a o) number ≡ true → is_later a number ≡ true
first_later None o number is = refl
first_later (Some r) None number is = is
first_later (Some r) (Some q) number is = by_test (nat_lt r.number q.number) refl is
  where
    by_test : (b : Bool) → nat_lt r.number q.number ≡ b → is_later (if b then Some q else Some r) number ≡ true → nat_lt r.number number ≡ true
    by_test true test is = grind (arith, nat_tests)
    by_test false test is = is

module _ (s : State) (req : ReqId) where
  -- the answer that a record tells is the one that is sent
  abbrev Tells : PlainEdit → Answer → Type 0
  Tells edit answer = answer_to edit (view_for s.durable (chunk_of_edit edit)) s.durable.epoch ≡ Some answer

  module _ (edit : PlainEdit) (answer : Answer) (tells : Tells edit answer) where
    abbrev t : Turn
    t = turned s (accept_plan req edit answer)

    -- ---- one reply

    replies_left : KeepsBut req (Ok answer) s.durable.replies (unwrap_or (applied s.durable (Edited req edit)) s.durable).replies
    unfolding applied
    replies_left = by_names (edited_names edit s.durable.names)
      where
        by_fit : (b : Bool) (names : NamesView) → KeepsBut req (Ok answer) s.durable.replies (unwrap_or (if_fits b (with_edit s.durable req edit names)) s.durable).replies
        by_fit true names = subst (λ o. KeepsBut req (Ok answer) s.durable.replies (with_answer s.durable.replies req o)) (sym tells) (but_replied req (Ok answer) s.durable.replies)
        by_fit false names = but_still req (Ok answer) s.durable.replies s.durable.replies refl

        by_names : (r : Result NamesView Refusal) → KeepsBut req (Ok answer) s.durable.replies (unwrap_or (after_edit s.durable req edit r) s.durable).replies
        by_names (Ok names) = by_fit (may_edit s.durable edit) names
        by_names (Err refusal) = but_still req (Ok answer) s.durable.replies s.durable.replies refl

    accepted_alone : AnswersAlone req (Ok answer) s t
    accepted_alone = record { sent = ((refl, refl), tt); says = inl refl; durable = replies_left; memory = but_still req (Ok answer) s.volatile.replies s.volatile.replies refl; waits = λ other there. there; few = omega arith }

    edit_alone : (names : Result NamesView Refusal) → Alone s req (edit_if s req edit answer names)
    edit_alone (Ok names) = room_alone s req t (Ok answer, accepted_alone)
    edit_alone (Err refusal) = (Err refusal, refused_alone s req refusal)

    -- ---- what is made

    -- what the durable state is then
    record Made (names : NamesView) (d : Durable) : Type 0 where
      named : d.names ≡ names
      numbered_so : d.next_hidden ≡ after_if s.durable.next_hidden (number_of_edit edit)
      phased : d.phase ≡ s.durable.phase
      dated : d.epoch ≡ s.durable.epoch
      had : HasHad (record s { durable = d }) req.client req.number

    module _ (new : numbered (last_reply s req.client) req.number ≡ New) (leaves : (names : NamesView) → ((with_edit s.durable req edit names).phase ≡ s.durable.phase) × ((with_edit s.durable req edit names).epoch ≡ s.durable.epoch)) where
      replied_had : IsFrom req.number (later (fin.get (with_answer s.durable.replies req (Some answer)) req.client) (fin.get s.volatile.replies req.client))
      replied_had = by_test (is_later (fin.get s.durable.replies req.client) req.number) (first_later (fin.get s.durable.replies req.client) (fin.get s.volatile.replies req.client) req.number (new_later (last_reply s req.client) req.number new))
        where
          by_test : (b : Bool) → b ≡ true → IsFrom req.number (later (fin.get (if b then fin.insert s.durable.replies req.client (its_own req (Ok answer)) else s.durable.replies) req.client) (fin.get s.volatile.replies req.client))
          by_test true is =
              from_first req.number (fin.get (fin.insert s.durable.replies req.client (its_own req (Ok answer))) req.client) (fin.get s.volatile.replies req.client)
              (record { reply = its_own req (Ok answer); has = own_there req (Ok answer) s.durable.replies; late = omega arith })
          by_test false is = absurd (false≢true is)

      made_of : (names : NamesView) → Made names (with_edit s.durable req edit names)
      made_of names = record {
        named = refl;
        numbered_so = refl;
        phased = (leaves names).0;
        dated = (leaves names).1;
        had = subst (λ o. IsFrom req.number (later (fin.get (with_answer s.durable.replies req o) req.client) (fin.get s.volatile.replies req.client))) (sym tells) replied_had;
      }

      some_is : {a b : Durable} → ◌≡◌ {A = Option Durable} (Some a) (Some b) → a ≡ b
      some_is e = cc

      -- where the record fits
      applied_made : (names : NamesView) → edited_names edit s.durable.names ≡ Ok names → (d : Durable) → replayed s.durable (Edited req edit ∷ []) ≡ Some d → Made names d
      unfolding applied
      applied_made names does d fit = by_names (edited_names edit s.durable.names) does fit
        where
          by_fit : (b : Bool) → option_and_then (λ next. Some next) (if_fits b (with_edit s.durable req edit names)) ≡ Some d → Made names d
          by_fit true fit = subst (Made names) (some_is fit) (made_of names)
          by_fit false fit = absurd (cc)

          by_names : (r : Result NamesView Refusal) → r ≡ Ok names → option_and_then (λ next. Some next) (after_edit s.durable req edit r) ≡ Some d → Made names d
          by_names (Ok other) is fit = by_fit (may_edit s.durable edit) (subst (λ n. option_and_then (λ next. Some next) (if_fits (may_edit s.durable edit) (with_edit s.durable req edit n)) ≡ Some d) (same is) fit)
            where
              same : {a b : NamesView} → ◌≡◌ {A = Result NamesView Refusal} (Ok a) (Ok b) → a ≡ b
              same e = cc
          by_names (Err refusal) is fit = absurd (cc)

      -- The turn is accepted: these are the names, if the edit of the record gives them.
      edit_made : (given : Answer) (asked : PlainEdit) → number_of_edit edit ≡ number_of_edit asked → (names : Result NamesView Refusal) → edited_names asked s.durable.names ≡ names → ((n : NamesView) → names ≡ Ok n → edited_names edit s.durable.names ≡ Ok n)
          → OneSays req (Ok given) (edit_if s req edit answer names).sent → replayed s.durable (edit_if s req edit answer names).records ≡ Some (edit_if s req edit answer names).after.durable → Changes s req (Some asked) (edit_if s req edit answer names)
      edit_made given asked numbers (Err refusal) does resolves says fit = no_answer req refusal given [] says
      edit_made given asked numbers (Ok n) does resolves says fit = by_room (fits s.log t.records) says fit
        where
          by_room : (room : Bool) → OneSays req (Ok given) (if room then t else refused s req refusals.Full).sent → replayed s.durable (if room then t else refused s req refusals.Full).records ≡ Some (if room then t else refused s req refusals.Full).after.durable
              → Changes s req (Some asked) (if room then t else refused s req refusals.Full)
          by_room true says fit = (let made = applied_made n (resolves n refl) t.after.durable fit in record { names = does ∙ ap (λ (x : NamesView). Ok x) (sym made.named); hidden = made.numbered_so ∙ ap (after_if s.durable.next_hidden) numbers; phase = made.phased; epoch = made.dated; had = made.had })
          by_room false says fit = no_answer req refusals.Full given [] says

    -- ---- what is refused

    ok_is_no_refusal : {T : Type 0} (refusal : Refusal) → OneSays req (Err refusal) (reply_to req (Ok answer) ∷ []) → T
    ok_is_no_refusal refusal (inl is) = absurd (never is)
      where
        never : bodies.Reply req (Ok answer) ≡ bodies.Reply req (Err refusal) → ⊥
        never e = cc
    ok_is_no_refusal refusal (inr none) = absurd none

    edit_left : (refusal : Refusal) (names : Result NamesView Refusal) → OneSays req (Err refusal) (edit_if s req edit answer names).sent → LeavesNames s req (edit_if s req edit answer names)
    edit_left refusal (Err other) says = refused_leaves s req other
    edit_left refusal (Ok n) says = by_room (fits s.log t.records) says
      where
        by_room : (room : Bool) → OneSays req (Err refusal) (if room then t else refused s req refusals.Full).sent → LeavesNames s req (if room then t else refused s req refusals.Full)
        by_room true says = ok_is_no_refusal refusal says
        by_room false says = refused_leaves s req refusals.Full

-- ---- the calls

module _ (config : Config) (s : State) (req : ReqId) (moment : Moment) where
  abbrev resolved : Path → Path → PlainEdit
  resolved from to = Rename from (target_of (fin.get s.durable.names.tree) from to)

  abbrev restored : Path → Answer
  restored path = answers.Path (unhide_target path (old_name path))

  -- a deletion, test by test
  abbrev hide_by : Path → PlainEdit
  hide_by path = Hide path moment.0 s.durable.next_hidden

  abbrev hidden_at : Path → Answer
  hidden_at path = answers.Path (hidden_path path moment.0 s.durable.next_hidden)

  abbrev numbered_hide : Path → Turn
  numbered_hide path = if s.durable.next_hidden == 0 then refused s req refusals.Exhausted else edited_by s req (hide_by path) (hidden_at path)

  abbrev allowed_hide : Path → Bool → Turn
  allowed_hide path recursive = if not recursive && has_visible_child (fin.entries s.durable.names.tree) path then refused s req refusals.NotEmpty else numbered_hide path

  abbrev found_hide : Bool → Path → Bool → Turn
  found_hide none path recursive = if none then answered_with s req answers.Absent else allowed_hide path recursive

  -- at once

  deleted_alone : (path : Path) (recursive : Bool) → Alone s req (deleted s req path recursive moment)
  deleted_alone path recursive =
      let none = is_none (fin.get s.durable.names.tree path) in
      pick (Alone s req) (same_path path []) (refused s req refusals.IsRoot) (found_hide none path recursive) (Err refusals.IsRoot, refused_alone s req refusals.IsRoot)
      (pick (Alone s req) none (answered_with s req answers.Absent) (allowed_hide path recursive) (Ok answers.Absent, answered_alone s req answers.Absent)
      (pick (Alone s req) (not recursive && has_visible_child (fin.entries s.durable.names.tree) path) (refused s req refusals.NotEmpty) (numbered_hide path) (Err refusals.NotEmpty, refused_alone s req refusals.NotEmpty)
      (pick (Alone s req) (s.durable.next_hidden == 0) (refused s req refusals.Exhausted) (edited_by s req (hide_by path) (hidden_at path)) (Err refusals.Exhausted, refused_alone s req refusals.Exhausted)
      (edit_alone s req (hide_by path) (hidden_at path) refl (edited_names (hide_by path) s.durable.names)))))

  called_alone : (call : Call) → is_change call ≡ true → Alone s req (called_unless config s req moment call None)
  called_alone (calls.Mkdirs path) is = edit_alone s req (Mkdirs path) answers.Nothing refl (edited_names (Mkdirs path) s.durable.names)
  called_alone (calls.Create path) is = edit_alone s req (Create path) answers.Nothing refl (edited_names (Create path) s.durable.names)
  called_alone (calls.Rename from to) is = edit_alone s req (resolved from to) answers.Nothing refl (edited_names (Rename from to) s.durable.names)
  called_alone (calls.Delete path recursive) is = deleted_alone path recursive
  called_alone (calls.Undelete path) is = edit_alone s req (Unhide path) (restored path) refl (edited_names (Unhide path) s.durable.names)
  called_alone call is = absurd (false≢true is)

  new_alone : (call : Call) → is_change call ≡ true → (o : Option Refusal) → Alone s req (called_unless config s req moment call o)
  new_alone call is None = called_alone call is
  new_alone call is (Some refusal) = (Err refusal, refused_alone s req refusal)

  -- refused

  module _ (refusal : Refusal) where
    abbrev Leaves : Turn → Type 0
    Leaves t = OneSays req (Err refusal) t.sent → LeavesNames s req t

    deleted_left : (path : Path) (recursive : Bool) → Leaves (deleted s req path recursive moment)
    deleted_left path recursive =
        let none = is_none (fin.get s.durable.names.tree path) in
        pick Leaves (same_path path []) (refused s req refusals.IsRoot) (found_hide none path recursive) (λ says. refused_leaves s req refusals.IsRoot)
        (pick Leaves none (answered_with s req answers.Absent) (allowed_hide path recursive) (λ says. answered_leaves s req answers.Absent)
        (pick Leaves (not recursive && has_visible_child (fin.entries s.durable.names.tree) path) (refused s req refusals.NotEmpty) (numbered_hide path) (λ says. refused_leaves s req refusals.NotEmpty)
        (pick Leaves (s.durable.next_hidden == 0) (refused s req refusals.Exhausted) (edited_by s req (hide_by path) (hidden_at path)) (λ says. refused_leaves s req refusals.Exhausted)
        (edit_left s req (hide_by path) (hidden_at path) refl refusal (edited_names (hide_by path) s.durable.names)))))

    called_left : (call : Call) → is_change call ≡ true → Leaves (called_unless config s req moment call None)
    called_left (calls.Mkdirs path) is says = edit_left s req (Mkdirs path) answers.Nothing refl refusal (edited_names (Mkdirs path) s.durable.names) says
    called_left (calls.Create path) is says = edit_left s req (Create path) answers.Nothing refl refusal (edited_names (Create path) s.durable.names) says
    called_left (calls.Rename from to) is says = edit_left s req (resolved from to) answers.Nothing refl refusal (edited_names (Rename from to) s.durable.names) says
    called_left (calls.Delete path recursive) is says = deleted_left path recursive says
    called_left (calls.Undelete path) is says = edit_left s req (Unhide path) (restored path) refl refusal (edited_names (Unhide path) s.durable.names) says
    called_left call is says = absurd (false≢true is)

    new_left : (call : Call) → is_change call ≡ true → (o : Option Refusal) → Leaves (called_unless config s req moment call o)
    new_left call is None says = called_left call is says
    new_left call is (Some other) says = refused_leaves s req other

  -- accepted

  module _ (new : numbered (last_reply s req.client) req.number ≡ New) (answer : Answer) where
    abbrev Goes : Option PlainEdit → Turn → Type 0
    Goes edit t = OneSays req (Ok answer) t.sent → replayed s.durable t.records ≡ Some t.after.durable → Changes s req edit t

    refused_goes : (edit : Option PlainEdit) (refusal : Refusal) → Goes edit (refused s req refusal)
    refused_goes edit refusal says fit = no_answer req refusal answer [] says

    answered_goes : (given : Answer) → Goes None (answered_with s req given)
    answered_goes given says fit = record {
      names = refl;
      hidden = refl;
      phase = refl;
      epoch = refl;
      had = subst (λ b. IsFrom req.number (later (fin.get s.durable.replies req.client) (fin.get (all_changed s.volatile (if b then kept_in_memory req (Ok given) ∷ [] else [])).replies req.client))) (sym (new_later (last_reply s req.client) req.number new))
          (kept_had req (Ok given) s);
    }

    abbrev hide_of : Bool → Path → Option PlainEdit
    hide_of none path = if none then None else Some (hide_by path)

    allowed_goes : (path : Path) (recursive : Bool) → Goes (Some (hide_by path)) (allowed_hide path recursive)
    allowed_goes path recursive =
        pick (Goes (Some (hide_by path))) (not recursive && has_visible_child (fin.entries s.durable.names.tree) path) (refused s req refusals.NotEmpty) (numbered_hide path) (refused_goes (Some (hide_by path)) refusals.NotEmpty)
        (pick (Goes (Some (hide_by path))) (s.durable.next_hidden == 0) (refused s req refusals.Exhausted) (edited_by s req (hide_by path) (hidden_at path)) (refused_goes (Some (hide_by path)) refusals.Exhausted)
        (λ says fit. edit_made s req (hide_by path) (hidden_at path) refl new (λ names. (refl, refl)) answer (hide_by path) refl (edited_names (hide_by path) s.durable.names) refl (λ n does. does) says fit))

    found_goes : (none : Bool) (path : Path) (recursive : Bool) → Goes (hide_of none path) (found_hide none path recursive)
    found_goes true path recursive = answered_goes answers.Absent
    found_goes false path recursive = allowed_goes path recursive

    deleted_goes : (path : Path) (recursive : Bool) → Goes (edit_for s.durable moment (calls.Delete path recursive)) (deleted s req path recursive moment)
    deleted_goes path recursive =
        let none = is_none (fin.get s.durable.names.tree path) in
        pick (Goes (hide_of none path)) (same_path path []) (refused s req refusals.IsRoot) (found_hide none path recursive) (refused_goes (hide_of none path) refusals.IsRoot) (found_goes none path recursive)

    called_made : (call : Call) → is_change call ≡ true → Goes (edit_for s.durable moment call) (called_unless config s req moment call None)
    called_made (calls.Mkdirs path) is says fit = edit_made s req (Mkdirs path) answers.Nothing refl new (λ names. (refl, refl)) answer (Mkdirs path) refl (edited_names (Mkdirs path) s.durable.names) refl (λ n does. does) says fit
    called_made (calls.Create path) is says fit = edit_made s req (Create path) answers.Nothing refl new (λ names. (refl, refl)) answer (Create path) refl (edited_names (Create path) s.durable.names) refl (λ n does. does) says fit
    called_made (calls.Rename from to) is says fit =
        edit_made s req (resolved from to) answers.Nothing refl new (λ names. (refl, refl)) answer (Rename from to) refl (edited_names (Rename from to) s.durable.names) refl (λ n does. resolved_does s.durable.names n from to does) says fit
    called_made (calls.Delete path recursive) is says fit = deleted_goes path recursive says fit
    called_made (calls.Undelete path) is says fit = edit_made s req (Unhide path) (restored path) refl new (λ names. (refl, refl)) answer (Unhide path) refl (edited_names (Unhide path) s.durable.names) refl (λ n does. does) says fit
    called_made call is says fit = absurd (false≢true is)

    new_made : (call : Call) → is_change call ≡ true → (o : Option Refusal) → Goes (edit_for s.durable moment call) (called_unless config s req moment call o)
    new_made call is None = called_made call is
    new_made call is (Some refusal) = refused_goes (edit_for s.durable moment call) refusal

-- ---- no refusal is that the request is an old one

abbrev IsNoOld : {A : Type 0} → Result A Refusal → Type 0
IsNoOld (Ok x) = Unit {0}
IsNoOld (Err refusal) = refusal ≡ refusals.Old → ⊥

new_if : {A : Type 0} (b : Bool) (refusal : Refusal) (r : Result A Refusal) → (refusal ≡ refusals.Old → ⊥) → IsNoOld r → IsNoOld (if b then Err refusal else r)
new_if true refusal r apart new = apart
new_if false refusal r apart new = new

new_table : (paths : List Path) (made : Result (Plain ℕ) Refusal) → IsNoOld made → IsNoOld (tabled paths made)
new_table paths (Ok m) new = tt
new_table paths (Err refusal) new = new

new_names : (made : Result (Rows ℕ) Refusal) (refs : Counts) → IsNoOld made → IsNoOld (names_from (with_counts made (Ok refs)))
new_names (Ok rows) refs new = tt
new_names (Err refusal) refs new = new

new_mkdirs : (m : Plain ℕ) (p : Path) → IsNoOld (mkdirs m p)
new_mkdirs m p = new_if (is_file (m p)) refusals.Exists _ (λ is. absurd (cc)) (new_if (file_above m p) refusals.NotADirectory _ (λ is. absurd (cc)) tt)

new_create : (m : Plain ℕ) (p : Path) → IsNoOld (create m p)
new_create m p = new_if (is_some (m p)) refusals.Exists _ (λ is. absurd (cc)) (new_if (file_above m p) refusals.NotADirectory _ (λ is. absurd (cc)) tt)

new_placed : (deep : Bool) (m : Plain ℕ) (from to : Path) (new : Plain ℕ) → IsNoOld (placed deep m from to new)
new_placed deep m from to new =
    new_if (same_path to from) refusals.Exists _ (λ is. absurd (cc))
    (new_if (begins from to) refusals.IntoItself _ (λ is. absurd (cc))
    (new_if (is_some (m to)) refusals.Exists _ (λ is. absurd (cc))
    (new_if (is_none (m (parent to))) refusals.NotFound _ (λ is. absurd (cc))
    (new_if (is_file (m (parent to))) refusals.NotADirectory _ (λ is. absurd (cc)) (new_if deep refusals.BadPath _ (λ is. absurd (cc)) tt)))))

new_rename : (is_deep : Path → Bool) (m : Plain ℕ) (from to : Path) → IsNoOld (rename is_deep m from to)
new_rename is_deep m from to =
    new_if (same_path from []) refusals.IsRoot _ (λ is. absurd (cc))
    (new_if (is_none (m from)) refusals.NotFound _ (λ is. absurd (cc)) (new_placed (is_deep (target_of m from to)) m from (target_of m from to) (moved from (target_of m from to) m)))

new_hide : (m : Plain ℕ) (p : Path) (moment number : ℕ) → IsNoOld (hide m p moment number)
new_hide m p moment number =
    new_if (same_path p []) refusals.IsRoot _ (λ is. absurd (cc)) (new_if (is_none (m p)) refusals.NotFound _ (λ is. absurd (cc)) (new_if (is_some (m (hidden_path p moment number))) refusals.Exists _ (λ is. absurd (cc)) tt))

new_unhidden : (m : Plain ℕ) (p : Path) (name : Option Name) → IsNoOld (unhidden m p name)
new_unhidden m p None = λ is. absurd (cc)
new_unhidden m p (Some name) = new_if (is_none (m p)) refusals.NotFound _ (λ is. absurd (cc)) (new_if (is_some (m (beside p name))) refusals.Exists _ (λ is. absurd (cc)) tt)

module _ (config : Config) (s : State) (req : ReqId) (moment : Moment) where
  abbrev rows_there : Rows ℕ
  rows_there = fin.entries s.durable.names.tree

  abbrev NotOld : Turn → Type 0
  NotOld t = OneSays req (Err refusals.Old) t.sent → ⊥

  refused_new : (refusal : Refusal) → (refusal ≡ refusals.Old → ⊥) → NotOld (refused s req refusal)
  refused_new refusal apart (inl is) = apart (same is)
    where
      same : {a b : Refusal} → bodies.Reply req (Err a) ≡ bodies.Reply req (Err b) → a ≡ b
      same e = cc
  refused_new refusal apart (inr none) = none

  ok_new : (answer : Answer) → OneSays req (Err refusals.Old) (reply_to req (Ok answer) ∷ []) → ⊥
  ok_new answer (inl is) = never is
    where
      never : bodies.Reply req (Ok answer) ≡ bodies.Reply req (Err refusals.Old) → ⊥
      never e = cc
  ok_new answer (inr none) = none

  edit_new : (edit : PlainEdit) (answer : Answer) (names : Result NamesView Refusal) → IsNoOld names → NotOld (edit_if s req edit answer names)
  edit_new edit answer (Err refusal) new = refused_new refusal new
  edit_new edit answer (Ok names) new = by_room (fits s.log (turned s (accept_plan req edit answer)).records)
    where
      by_room : (room : Bool) → NotOld (if room then turned s (accept_plan req edit answer) else refused s req refusals.Full)
      by_room true says = ok_new answer says
      by_room false says = refused_new refusals.Full (λ is. absurd (cc)) says

  deleted_new : (path : Path) (recursive : Bool) → NotOld (deleted s req path recursive moment)
  unfolding edited_names
  deleted_new path recursive =
      let none = is_none (fin.get s.durable.names.tree path) in
      pick NotOld (same_path path []) (refused s req refusals.IsRoot) (found_hide config s req moment none path recursive) (refused_new refusals.IsRoot (λ is. absurd (cc)))
      (pick NotOld none (answered_with s req answers.Absent) (allowed_hide config s req moment path recursive) (λ says. ok_new answers.Absent says)
      (pick NotOld (not recursive && has_visible_child (fin.entries s.durable.names.tree) path) (refused s req refusals.NotEmpty) (numbered_hide config s req moment path) (refused_new refusals.NotEmpty (λ is. absurd (cc)))
      (pick NotOld (s.durable.next_hidden == 0) (refused s req refusals.Exhausted) (edited_by s req (hide_by config s req moment path) (hidden_at config s req moment path)) (refused_new refusals.Exhausted (λ is. absurd (cc)))
      (edit_new (hide_by config s req moment path) (hidden_at config s req moment path) (edited_names (hide_by config s req moment path) s.durable.names)
      (new_names (hide_rows rows_there path moment.0 s.durable.next_hidden) s.durable.names.refs (new_table _ (hide (at rows_there) path moment.0 s.durable.next_hidden) (new_hide (at rows_there) path moment.0 s.durable.next_hidden)))))))

  called_new : (call : Call) → is_change call ≡ true → NotOld (called_unless config s req moment call None)
  unfolding edited_names
  called_new (calls.Mkdirs path) is = edit_new (Mkdirs path) answers.Nothing (edited_names (Mkdirs path) s.durable.names) (new_names (mkdirs_rows rows_there path) s.durable.names.refs (new_table _ (mkdirs (at rows_there) path) (new_mkdirs (at rows_there) path)))
  called_new (calls.Create path) is = edit_new (Create path) answers.Nothing (edited_names (Create path) s.durable.names) (new_names (create_rows rows_there path) s.durable.names.refs (new_table _ (create (at rows_there) path) (new_create (at rows_there) path)))
  called_new (calls.Rename from to) is =
      edit_new (resolved config s req moment from to) answers.Nothing (edited_names (Rename from to) s.durable.names)
      (new_names (rename_rows rows_there from to) s.durable.names.refs (new_table _ (rename (is_too_deep rows_there from) (at rows_there) from to) (new_rename (is_too_deep rows_there from) (at rows_there) from to)))
  called_new (calls.Delete path recursive) is = deleted_new path recursive
  called_new (calls.Undelete path) is =
      edit_new (Unhide path) (restored config s req moment path) (edited_names (Unhide path) s.durable.names)
      (new_names (unhide_rows rows_there path) s.durable.names.refs (new_table _ (unhide (at rows_there) path) (new_unhidden (at rows_there) path (old_name path))))
  called_new call is = absurd (false≢true is)

  first_new : (failed rolling preparing deep locked hidden : Bool) → (o : Option Refusal) → first_of ((failed, refusals.Device) ∷ (rolling, refusals.RollingBack) ∷ (preparing, refusals.Preparing) ∷ (deep, refusals.BadPath) ∷ (locked, refusals.Locked) ∷ (hidden, refusals.HiddenName) ∷ []) ≡ o → o ≡ Some refusals.Old → ⊥
  first_new true rolling preparing deep locked hidden o is old = absurd (cc)
  first_new false true preparing deep locked hidden o is old = absurd (cc)
  first_new false false true deep locked hidden o is old = absurd (cc)
  first_new false false false true locked hidden o is old = absurd (cc)
  first_new false false false false true hidden o is old = absurd (cc)
  first_new false false false false false true o is old = absurd (cc)
  first_new false false false false false false o is old = absurd (cc)

  new_new : (call : Call) → is_change call ≡ true → (o : Option Refusal) → (o ≡ Some refusals.Old → ⊥) → NotOld (called_unless config s req moment call o)
  new_new call is None apart = called_new call is
  new_new call is (Some refusal) apart = refused_new refusal (λ old. apart (ap Some old))

pub changes_are_not_old : ChangesAreNotOld
changes_are_not_old config s req moment call is says =
    new_new config s req moment call is (refused_before s req call)
    (λ old. first_new config s req moment (is_failed s.fault) (is_rolling s.durable.phase && not (is_always_taken call)) (s.volatile.is_preparing && is_work call) (is_any_deep call) (is_locked s req call) (is_any_hidden call) (refused_before s req call) refl old) says

pub changes_at_once : ChangesAnswerAtOnce
changes_at_once config s req moment call is = new_alone config s req moment call is (refused_before s req call)

pub changes_are_made : ChangesAreMade
changes_are_made config s req moment call answer is new says fit = new_made config s req moment new answer call is (refused_before s req call) says fit

pub refused_changes_leave : RefusedChangesLeaveNames
refused_changes_leave config s req moment call refusal is says = new_left config s req moment refusal call is (refused_before s req call) says
