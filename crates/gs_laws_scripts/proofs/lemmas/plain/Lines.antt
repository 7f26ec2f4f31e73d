-- A line of the tree, at a store that stands as a plain machine does.
use Rattle.std.proofs.Common.{◌≡◌, ◌⊎◌, inl, inr, ◌∙◌, ◌+◌, ◌&&◌, ℕ, Bool, true, false, not, List, [], refl, sym, ap, subst}
use Rattle.std.specs.Prelude.{Result, Ok, Err, Option, Some, None, if◌then◌else◌, is_none}
use Rattle.gs_base.specs.Told.{IsNumber}
use Rattle.gs_base.specs.declared.config.Config.{Config}
use Rattle.gs_base.specs.declared.refusal.Refusal.{Refusal}
use Rattle.gs_base.specs.declared.refusal.Refusal.TheVariants as refusals
use Rattle.gs_client.specs.Nodes.{answered}
use Rattle.gs_client.specs.Replies.{changed, deleted_in, looked, names_in, nothing_in, path_in}
use Rattle.gs_client.specs.Trees.{Call, and_then, change, look}
use Rattle.gs_client.specs.Trees as trees
use Rattle.gs_client.specs.declared.link.Reply.{Reply}
use Rattle.gs_client.specs.declared.link.Reply.TheVariants as replies
use Rattle.gs_client_dialogue.specs.Dialogues.{Say, onward, run}
use Rattle.gs_edit.specs.Plain.{create_rows, hide_rows, mkdirs_rows, rename_rows, snapshot_rows, unhide_rows, unhide_target}
use Rattle.gs_laws_plain.proofs.lemmas.calm.Trees.{tree_calls_go}
use Rattle.gs_laws_plain.specs.calm.Calm.{WasShort, WentTo, hidden_after, plain_after}
use Rattle.gs_laws_master.specs.Standing.{IsNamedCall}
use Rattle.gs_laws_plain.specs.commands.Answers.{deletes, has_visible, listed, plain_answer}
use Rattle.gs_laws_plain.specs.commands.Answers as plain_answers
use Rattle.gs_master_spec.specs.Calls.{is_any_deep, is_any_hidden}
use Rattle.gs_msg.specs.declared.answer.Answer.{Answer as Said}
use Rattle.gs_msg.specs.declared.answer.Answer.TheVariants as says
use Rattle.gs_msg.specs.declared.call.Call.{Call as Called}
use Rattle.gs_msg.specs.declared.call.Call.TheVariants as calls
use Rattle.gs_msg.specs.declared.event.Request.TheVariants as requests
use Rattle.gs_path.specs.Path.{Path}
use Rattle.gs_shell_calls.specs.Asked.{done, hidden, plain}
use Rattle.gs_shell_calls.specs.Asked as asked
use Rattle.gs_shell_calls.specs.declared.answer.Answer.{Answer}
use Rattle.gs_shell_calls.specs.declared.answer.Answer.TheVariants as answers
use Rattle.gs_tree.specs.Edits.{hidden_path, old_name, same_path}
use Rattle.gs_tree.specs.Entry.{Dir, Entry, File}
use Rattle.gs_tree.specs.Find.{Rows, at}
use Rattle.gs_laws_scripts.specs.answers.Plain.{PlainDesk, serves}
use Rattle.gs_laws_scripts.proofs.lemmas.plain.Asking.{FallsShort, IsAnswered, StandsAt, answers as is_answered, asked_at, falls}
use Rattle.gs_laws_scripts.proofs.lemmas.plain.Settled.{IsSure, sure_create, sure_hide, sure_mkdirs, sure_rename, sure_snapshot, sure_unhide}
use Rattle.gs_laws_scripts.specs.plain.Machines.{Machine, called, line_answer, moved, shown}
use Rattle.gs_laws_scripts.specs.plain.Machines as machines

-- a desk that stands as the machine does
pub record Standing (config : Config) (m : Machine) (w : PlainDesk) : Type 0 where
  pub at : StandsAt false false config m.plain m.epoch m.next_hidden (record { 0 = m.moment }) w
  pub moment : IsNumber m.moment

-- a line is refused for want of room or of counters
pub record ShortLine (r : Result Answer Refusal) : Type 0 where
  pub refusal : Refusal
  pub short : (refusal ≡ refusals.Full) ⊎ (refusal ≡ refusals.Exhausted)
  pub is : r ≡ Err refusal

-- or answered alike, and the desk stands as the machine does behind it
pub record GoesAlike (config : Config) (desk : Result Answer Refusal × PlainDesk) (machine : Result Answer Refusal × Machine) : Type 0 where
  pub same : desk.0 ≡ machine.0
  pub stands : Standing config machine.1 desk.1

abbrev pub LineGoes : Config → Result Answer Refusal × PlainDesk → Result Answer Refusal × Machine → Type 0
LineGoes config desk machine = ShortLine desk.0 ⊎ GoesAlike config desk machine

-- ---- one call and what its reply says

run_onward : {A : Type 0} (answer : A → Answer) (r : Result A Refusal) (w : PlainDesk) → run serves (onward (λ x. Say (Ok (answer x))) r) w ≡ (asked.answered answer r, w)
run_onward answer (Ok x) w = refl
run_onward answer (Err e) w = refl

-- what a line says of a reply to a call that changes something, or only looks
abbrev pub says_of : {A : Type 0} → (Said → Result A Refusal) → (A → Answer) → Reply → Result Answer Refusal
says_of reads answer reply = asked.answered answer (and_then reads (changed reply))

abbrev pub says_looked : {A : Type 0} → (Said → Result A Refusal) → (A → Answer) → Reply → Result Answer Refusal
says_looked reads answer reply = asked.answered answer (and_then reads (looked reply))

pub run_change : {A : Type 0} (c : Called) (reads : Said → Result A Refusal) (answer : A → Answer) (w : PlainDesk) → run serves (plain (change c reads) answer) w ≡ (says_of reads answer (serves w (requests.Call c)).0, (serves w (requests.Call c)).1)
run_change c reads answer w = run_onward answer (and_then reads (changed (serves w (requests.Call c)).0)) (serves w (requests.Call c)).1

pub run_look : {A : Type 0} (c : Called) (reads : Said → Result A Refusal) (answer : A → Answer) (w : PlainDesk) → run serves (plain (look c reads) answer) w ≡ (says_looked reads answer (serves w (requests.Call c)).0, (serves w (requests.Call c)).1)
run_look c reads answer w = run_onward answer (and_then reads (looked (serves w (requests.Call c)).0)) (serves w (requests.Call c)).1

-- a refusal of the store is said as it is
pub record SaysShort (says : Reply → Result Answer Refusal) : Type 0 where
  pub full : says (replies.Refused refusals.Full) ≡ Err refusals.Full
  pub exhausted : says (replies.Refused refusals.Exhausted) ≡ Err refusals.Exhausted

pub short_line : (says : Reply → Result Answer Refusal) (w : PlainDesk) (c : Called) → SaysShort says → FallsShort w c → ShortLine (says (serves w (requests.Call c)).0)
short_line says w c shorts f = record { refusal = f.refusal; short = f.short; is = ap (λ (x : Reply × PlainDesk). says x.0) f.is ∙ each f.short }
  where
    each : (f.refusal ≡ refusals.Full) ⊎ (f.refusal ≡ refusals.Exhausted) → says (replies.Refused f.refusal) ≡ Err f.refusal
    each (inl h) = ap (λ (e : Refusal). says (replies.Refused e)) h ∙ shorts.full ∙ ap (λ (e : Refusal). Err e) (sym h)
    each (inr h) = ap (λ (e : Refusal). says (replies.Refused e)) h ∙ shorts.exhausted ∙ ap (λ (e : Refusal). Err e) (sym h)

module _ (config : Config) (m : Machine) (w : PlainDesk) (st : Standing config m w) where
  -- a line that asks for nothing, or whose path is refused
  pub stays : (r : Result Answer Refusal) → LineGoes config (r, w) (r, m)
  stays r = inr (record { same = refl; stands = st })

  -- a line by one call of the tree
  pub tree_line : (c : Called) (says : Reply → Result Answer Refusal) (result : Result Said Refusal) → IsNamedCall c → plain_answer m.plain.tree m.moment m.next_hidden c ≡ Some result → SaysShort says → says (answered replies.Answer result) ≡ line_answer result
      → LineGoes config (says (serves w (requests.Call c)).0, (serves w (requests.Call c)).1) (called (Ok c) m)
  tree_line c says result named is shorts alike =
      subst (λ (o : Option (Result Said Refusal)). LineGoes config (says (serves w (requests.Call c)).0, (serves w (requests.Call c)).1) (machines.answered_as o c m)) (sym is)
      (each (tree_calls_go config st.at.s (Rattle.gs_laws_scripts.proofs.lemmas.plain.Delivering.request (st.at.last + 1)) (record { 0 = m.moment }) c m.plain m.epoch m.next_hidden result (asked_at false false config m.plain m.epoch m.next_hidden (record { 0 = m.moment }) w st.at) named st.moment is))
    where
      by_answer : FallsShort w c ⊎ IsAnswered false false config w c result (plain_after m.moment m.next_hidden c result m.plain) m.epoch (hidden_after m.moment m.next_hidden c result) (record { 0 = m.moment }) → LineGoes config (says (serves w (requests.Call c)).0, (serves w (requests.Call c)).1) (line_answer result, moved c result m)
      by_answer (inl f) = inl (short_line says w c shorts f)
      by_answer (inr a) = inr (record {
        same = ap (λ (x : Reply × PlainDesk). says x.0) a.is ∙ alike;
        stands = record { at = subst (λ (x : Reply × PlainDesk). StandsAt false false config (moved c result m).plain (moved c result m).epoch (moved c result m).next_hidden (record { 0 = m.moment }) x.1) (sym a.is) a.stands; moment = st.moment };
      })

      each : WasShort (Rattle.gs_laws_scripts.proofs.lemmas.plain.Delivering.request (st.at.last + 1)) (Rattle.gs_master_spec.specs.Handling.call_turn config st.at.s (Rattle.gs_laws_scripts.proofs.lemmas.plain.Delivering.request (st.at.last + 1)) (record { 0 = m.moment }) c)
          ⊎ WentTo false false (Rattle.gs_laws_scripts.proofs.lemmas.plain.Delivering.request (st.at.last + 1)) (Rattle.gs_master_spec.specs.Handling.call_turn config st.at.s (Rattle.gs_laws_scripts.proofs.lemmas.plain.Delivering.request (st.at.last + 1)) (record { 0 = m.moment }) c) [] result (plain_after m.moment m.next_hidden c result m.plain) m.epoch (hidden_after m.moment m.next_hidden c result)
          → LineGoes config (says (serves w (requests.Call c)).0, (serves w (requests.Call c)).1) (line_answer result, moved c result m)
      each (inl short) = by_answer (inl (falls false false config m.plain m.epoch m.next_hidden (record { 0 = m.moment }) w st.at c short))
      each (inr went) = by_answer (is_answered false false config m.plain m.epoch m.next_hidden (record { 0 = m.moment }) w st.at false false c result (plain_after m.moment m.next_hidden c result m.plain) (hidden_after m.moment m.next_hidden c result) went)

-- ---- what is said of what the plain tree answers

-- where a deep path or a hidden name may be refused
said_done : {A : Type 0} (deep hides : Bool) (r : Result A Refusal) → IsSure r →
    says_of nothing_in done (answered replies.Answer (if deep then Err refusals.BadPath else if hides then Err refusals.HiddenName else plain_answers.answered says.Nothing r)) ≡ line_answer (if deep then Err refusals.BadPath else if hides then Err refusals.HiddenName else plain_answers.answered says.Nothing r)
said_done true hides r sure = refl
said_done false true r sure = refl
said_done false false (Ok x) sure = refl
said_done false false (Err e) sure = ap (λ (e : Refusal). Err e) sure

-- where a deep path may be
said_path : {A : Type 0} (deep : Bool) (p : Path) (r : Result A Refusal) → IsSure r →
    says_of path_in answers.Path (answered replies.Answer (if deep then Err refusals.BadPath else plain_answers.answered (says.Path p) r)) ≡ line_answer (if deep then Err refusals.BadPath else plain_answers.answered (says.Path p) r)
said_path true p r sure = refl
said_path false p (Ok x) sure = refl
said_path false p (Err e) sure = ap (λ (e : Refusal). Err e) sure

said_deleted : (deep hides root none some : Bool) (p : Path) (r : Result (Rows (List ℕ)) Refusal) → IsSure r →
    says_of deleted_in hidden (answered replies.Answer (if deep then Err refusals.BadPath else if hides then Err refusals.HiddenName else if root then Err refusals.IsRoot else if none then Ok says.Absent else if some then Err refusals.NotEmpty else plain_answers.answered (says.Path p) r))
    ≡ line_answer (if deep then Err refusals.BadPath else if hides then Err refusals.HiddenName else if root then Err refusals.IsRoot else if none then Ok says.Absent else if some then Err refusals.NotEmpty else plain_answers.answered (says.Path p) r)
said_deleted true hides root none some p r sure = refl
said_deleted false true root none some p r sure = refl
said_deleted false false true none some p r sure = refl
said_deleted false false false true some p r sure = refl
said_deleted false false false false true p r sure = refl
said_deleted false false false false false p (Ok x) sure = refl
said_deleted false false false false false p (Err e) sure = ap (λ (e : Refusal). Err e) sure

said_names : (deep : Bool) (rows : Rows (List ℕ)) (p : Path) (o : Option (Entry (List ℕ))) →
    says_looked names_in answers.Names (answered replies.Answer (if deep then Err refusals.BadPath else listed rows p o)) ≡ line_answer (if deep then Err refusals.BadPath else listed rows p o)
said_names true rows p o = refl
said_names false rows p None = refl
said_names false rows p (Some Dir) = refl
said_names false rows p (Some (File texts)) = refl

done_short : SaysShort (says_of nothing_in done)
done_short = record { full = refl; exhausted = refl }

module _ (config : Config) (m : Machine) (w : PlainDesk) (st : Standing config m w) where
  rows : Rows (List ℕ)
  rows = m.plain.tree

  -- what a call that changes something, or one that looks, comes to
  by_change : {A : Type 0} (c : Called) (reads : Said → Result A Refusal) (answer : A → Answer) (machine : Result Answer Refusal × Machine) → LineGoes config (says_of reads answer (serves w (requests.Call c)).0, (serves w (requests.Call c)).1) machine → LineGoes config (run serves (plain (change c reads) answer) w) machine
  by_change c reads answer machine h = subst (λ (x : Result Answer Refusal × PlainDesk). LineGoes config x machine) (sym (run_change c reads answer w)) h

  by_look : {A : Type 0} (c : Called) (reads : Said → Result A Refusal) (answer : A → Answer) (machine : Result Answer Refusal × Machine) → LineGoes config (says_looked reads answer (serves w (requests.Call c)).0, (serves w (requests.Call c)).1) machine → LineGoes config (run serves (plain (look c reads) answer) w) machine
  by_look c reads answer machine h = subst (λ (x : Result Answer Refusal × PlainDesk). LineGoes config x machine) (sym (run_look c reads answer w)) h

  pub mkdir_line : (r : Result Path Refusal) → ((p : Path) → r ≡ Ok p → IsNamedCall (calls.Mkdirs p)) → LineGoes config (run serves (asked.on r trees.mkdirs_call done) w) (called (machines.on r calls.Mkdirs) m)
  mkdir_line (Err e) named = stays config m w st (Err e)
  mkdir_line (Ok p) named =
      by_change (calls.Mkdirs p) nothing_in done (called (Ok (calls.Mkdirs p)) m)
      (tree_line config m w st (calls.Mkdirs p) (says_of nothing_in done) (if is_any_deep (calls.Mkdirs p) then Err refusals.BadPath else if is_any_hidden (calls.Mkdirs p) then Err refusals.HiddenName else plain_answers.answered says.Nothing (mkdirs_rows m.plain.tree p)) (named p refl) refl done_short
      (said_done (is_any_deep (calls.Mkdirs p)) (is_any_hidden (calls.Mkdirs p)) (mkdirs_rows m.plain.tree p) (sure_mkdirs m.plain.tree p)))

  pub create_line : (r : Result Path Refusal) → ((p : Path) → r ≡ Ok p → IsNamedCall (calls.Create p)) → LineGoes config (run serves (asked.on r trees.create_call done) w) (called (machines.on r calls.Create) m)
  create_line (Err e) named = stays config m w st (Err e)
  create_line (Ok p) named =
      by_change (calls.Create p) nothing_in done (called (Ok (calls.Create p)) m)
      (tree_line config m w st (calls.Create p) (says_of nothing_in done) (if is_any_deep (calls.Create p) then Err refusals.BadPath else if is_any_hidden (calls.Create p) then Err refusals.HiddenName else plain_answers.answered says.Nothing (create_rows m.plain.tree p)) (named p refl) refl done_short
      (said_done (is_any_deep (calls.Create p)) (is_any_hidden (calls.Create p)) (create_rows m.plain.tree p) (sure_create m.plain.tree p)))

  pub ls_line : (r : Result Path Refusal) → LineGoes config (run serves (asked.on r trees.list_call answers.Names) w) (called (machines.on r calls.List) m)
  ls_line (Err e) = stays config m w st (Err e)
  ls_line (Ok p) =
      by_look (calls.List p) names_in answers.Names (called (Ok (calls.List p)) m)
      (tree_line config m w st (calls.List p) (says_looked names_in answers.Names) (if is_any_deep (calls.List p) then Err refusals.BadPath else listed m.plain.tree p (at m.plain.tree p)) tt refl (record { full = refl; exhausted = refl }) (said_names (is_any_deep (calls.List p)) m.plain.tree p (at m.plain.tree p)))

  pub rm_line : (r : Result Path Refusal) (recursive : Bool) → ((p : Path) → r ≡ Ok p → IsNamedCall (calls.Delete p recursive)) → LineGoes config (run serves (asked.on r (λ path. trees.delete_call path recursive) hidden) w) (called (machines.on r (λ path. calls.Delete path recursive)) m)
  rm_line (Err e) recursive named = stays config m w st (Err e)
  rm_line (Ok p) recursive named =
      by_change (calls.Delete p recursive) deleted_in hidden (called (Ok (calls.Delete p recursive)) m)
      (tree_line config m w st (calls.Delete p recursive) (says_of deleted_in hidden) (if is_any_deep (calls.Delete p recursive) then Err refusals.BadPath else if is_any_hidden (calls.Delete p recursive) then Err refusals.HiddenName else deletes m.plain.tree p recursive m.moment m.next_hidden) (named p refl) refl (record { full = refl; exhausted = refl })
      (said_deleted (is_any_deep (calls.Delete p recursive)) (is_any_hidden (calls.Delete p recursive)) (same_path p []) (is_none (at m.plain.tree p)) (not recursive && has_visible m.plain.tree p) (hidden_path p m.moment m.next_hidden) (hide_rows m.plain.tree p m.moment m.next_hidden) (sure_hide m.plain.tree p m.moment m.next_hidden)))

  pub undelete_line : (r : Result Path Refusal) → ((p : Path) → r ≡ Ok p → IsNamedCall (calls.Undelete p)) → LineGoes config (run serves (asked.on r trees.undelete_call answers.Path) w) (called (machines.on r calls.Undelete) m)
  undelete_line (Err e) named = stays config m w st (Err e)
  undelete_line (Ok p) named =
      by_change (calls.Undelete p) path_in answers.Path (called (Ok (calls.Undelete p)) m)
      (tree_line config m w st (calls.Undelete p) (says_of path_in answers.Path) (if is_any_deep (calls.Undelete p) then Err refusals.BadPath else plain_answers.answered (says.Path (unhide_target p (old_name p))) (unhide_rows m.plain.tree p)) (named p refl) refl (record { full = refl; exhausted = refl })
      (said_path (is_any_deep (calls.Undelete p)) (unhide_target p (old_name p)) (unhide_rows m.plain.tree p) (sure_unhide m.plain.tree p)))

  pub mv_line : (r q : Result Path Refusal) → ((from to : Path) → r ≡ Ok from → q ≡ Ok to → IsNamedCall (calls.Rename from to)) → LineGoes config (run serves (asked.on_two r q trees.rename_call) w) (called (machines.on_two r q calls.Rename) m)
  mv_line (Err e) q named = stays config m w st (Err e)
  mv_line (Ok from) (Err e) named = stays config m w st (Err e)
  mv_line (Ok from) (Ok to) named =
      by_change (calls.Rename from to) nothing_in done (called (Ok (calls.Rename from to)) m)
      (tree_line config m w st (calls.Rename from to) (says_of nothing_in done) (if is_any_deep (calls.Rename from to) then Err refusals.BadPath else if is_any_hidden (calls.Rename from to) then Err refusals.HiddenName else plain_answers.answered says.Nothing (rename_rows m.plain.tree from to)) (named from to refl refl) refl done_short
      (said_done (is_any_deep (calls.Rename from to)) (is_any_hidden (calls.Rename from to)) (rename_rows m.plain.tree from to) (sure_rename m.plain.tree from to)))

  pub snapshot_line : (r q : Result Path Refusal) → ((from to : Path) → r ≡ Ok from → q ≡ Ok to → IsNamedCall (calls.Snapshot from to)) → LineGoes config (run serves (asked.on_two r q trees.snapshot_call) w) (called (machines.on_two r q calls.Snapshot) m)
  snapshot_line (Err e) q named = stays config m w st (Err e)
  snapshot_line (Ok from) (Err e) named = stays config m w st (Err e)
  snapshot_line (Ok from) (Ok to) named =
      by_change (calls.Snapshot from to) nothing_in done (called (Ok (calls.Snapshot from to)) m)
      (tree_line config m w st (calls.Snapshot from to) (says_of nothing_in done) (if is_any_deep (calls.Snapshot from to) then Err refusals.BadPath else if is_any_hidden (calls.Snapshot from to) then Err refusals.HiddenName else plain_answers.answered says.Nothing (snapshot_rows m.plain.tree from to)) (named from to refl refl) refl done_short
      (said_done (is_any_deep (calls.Snapshot from to)) (is_any_hidden (calls.Snapshot from to)) (snapshot_rows m.plain.tree from to) (sure_snapshot m.plain.tree from to)))
