-- What a list is answered by a store whose names stand is what the machine answers that shows them.
use Rattle.std.proofs.Common.{[], ap, inl, inr, refl, subst, sym, ◌&&◌, ◌∷◌, ◌∙◌, ◌≡◌, Bool, Err, List, None, Ok, Option, Result, Some, cond, false, map, true, ℕ}
use Rattle.std.specs.FinMap as fin
use Rattle.std.specs.List.{AllByRecursion}
use Rattle.std.specs.Prelude.{if◌then◌else◌}
use Rattle.gs_base.specs.declared.config.Config.{Config}
use Rattle.gs_base.specs.declared.numbers.Moment.{Moment}
use Rattle.gs_base.specs.declared.numbers.ReqId.{ReqId}
use Rattle.gs_base.specs.declared.refusal.Refusal.{Refusal}
use Rattle.gs_base.specs.declared.refusal.Refusal.TheVariants as refusals
use Rattle.gs_client.specs.declared.link.Reply.TheVariants as replies
use Rattle.gs_edit.proofs.Tables.{seen as rows_of}
use Rattle.gs_edit.specs.Mapped.{mapped_rows}
use Rattle.gs_edit.specs.View.{NamesView}
use Rattle.gs_laws_chunks.proofs.lemmas.answers.Answered.{answers_are_made}
use Rattle.gs_laws_chunks.proofs.lemmas.answers.Behind.{MadeThere, all_front, all_spare, made_there}
use Rattle.gs_laws_chunks.proofs.lemmas.answers.Calm.{stays_calm}
use Rattle.gs_laws_chunks.proofs.lemmas.answers.OfTree.{stays_sparing}
use Rattle.gs_laws_chunks.proofs.lemmas.answers.Replied.{run_replied}
use Rattle.gs_laws_chunks.proofs.lemmas.answers.Resting.{stays_still}
use Rattle.gs_laws_chunks.proofs.lemmas.answers.Served.{stays_served}
use Rattle.gs_laws_chunks.proofs.lemmas.answers.Sparing.{asked_spared, lasts_spared}
use Rattle.gs_laws_chunks.proofs.lemmas.calls.Arming.{unarmed_alone}
use Rattle.gs_laws_chunks.specs.answers.Answered.{WasAnswered}
use Rattle.gs_laws_chunks.specs.answers.Behind.{asks_call}
use Rattle.gs_laws_chunks.specs.answers.Calm.{IsCalm, IsCalmAt}
use Rattle.gs_laws_chunks.specs.answers.Resting.{IsLooking, StandsStill, StandsStillAt}
use Rattle.gs_laws_looks.specs.carrying.Exchanged.{HasReply}
use Rattle.gs_laws_moves.proofs.lemmas.answers.Resting.{lists_answered, sound_so}
use Rattle.gs_laws_moves.proofs.lemmas.looks.Looks.{no_answer}
use Rattle.gs_laws_moves.specs.answers.AtOnce.{OneSays, is_answered_at_once}
use Rattle.gs_laws_moves.specs.answers.Resting.{is_look}
use Rattle.gs_laws_plain.proofs.lemmas.commands.Answering.{same_names}
use Rattle.gs_laws_plain.specs.commands.Answers.{listed}
use Rattle.gs_laws_world.proofs.lemmas.steady.Keeping.{run_keeps}
use Rattle.gs_laws_world.specs.steady.Saying.{IsStepWithin}
use Rattle.gs_laws_world.specs.steady.Unarmed.{unarmed}
use Rattle.gs_master_record.specs.declared.checkpoint.Phase.{Phase as Durable_phase}
use Rattle.gs_master_record.specs.declared.checkpoint.Phase.TheVariants.{Ordinary, Rolling, Upgrade}
use Rattle.gs_master_spec.specs.Calls.{is_any_deep, is_any_hidden, is_locked, listing, refused_before, told_phase}
use Rattle.gs_master_spec.specs.Durable.{Durable}
use Rattle.gs_master_spec.specs.Durable.{is_rolling as is_rolled}
use Rattle.gs_master_spec.specs.Handling.{called_unless, new_call}
use Rattle.gs_master_spec.specs.State.{State, first_of, is_failed, reply_to}
use Rattle.gs_msg.specs.declared.answer.Answer.{Answer as Said}
use Rattle.gs_msg.specs.declared.answer.Answer.TheVariants as says
use Rattle.gs_msg.specs.declared.answer.Phase.{Phase}
use Rattle.gs_msg.specs.declared.body.Body.TheVariants as bodies
use Rattle.gs_msg.specs.declared.call.Call.{Call}
use Rattle.gs_msg.specs.declared.call.Call.TheVariants as calls
use Rattle.gs_msg.specs.declared.event.Request.TheVariants as requests
use Rattle.gs_msg.specs.declared.lists.ListedName.{ListedName}
use Rattle.gs_nodes.specs.Happenings.{client_in}
use Rattle.gs_path.specs.Path.{Path}
use Rattle.gs_shell_calls.specs.declared.answer.Answer.TheVariants as answers
use Rattle.gs_tree.proofs.Mapped.{mapped_cond}
use Rattle.gs_tree.specs.Edits.{same_path}
use Rattle.gs_tree.specs.Entry.{Dir, Entry, File}
use Rattle.gs_tree.specs.Find.{Rows, at}
use Rattle.gs_tree.specs.Mapped.{mapped_at, mapped_entry}
use Rattle.gs_world.proofs.Staying.{run_same}
use Rattle.gs_world.specs.Histories.{History}
use Rattle.gs_world.specs.Runs.{Comes, RunsTo, Step}
use Rattle.gs_laws_scripts.proofs.lemmas.explained.Turns.{IsJudged}
use Rattle.gs_laws_scripts.specs.explained.Lines.{AsksOne, AsksTree, IsNoLook, IsSaid}
use Rattle.gs_laws_scripts.specs.explained.Machine.{Machine, Text, called, is_preparing, is_rolling, taken, tree_called, tree_said}
use Rattle.gs_laws_scripts.specs.explained.Standing.{IsUndisturbed, ShowsNames, the_client}

-- ---- rows with texts

pub at_mapped : {A B : Type 0} (f : A → B) (rows : Rows A) (p : Path) → at (mapped_rows f rows) p ≡ mapped_at f (at rows p)
at_mapped f [] p = refl
at_mapped f (row ∷ rows) p = ap (cond (same_path p row.0) (Some (mapped_entry f row.1))) (at_mapped f rows p) ∙ mapped_cond f (same_path p row.0) (Some row.1) (at rows p)

all_twice : {A B C : Type 0} (f : B → C) (g : A → B) (xs : List A) → map f (map g xs) ≡ map (λ x. f (g x)) xs
all_twice f g [] = refl
all_twice f g (x ∷ xs) = ap (λ ys. f (g x) ∷ ys) (all_twice f g xs)

entry_twice : {A B C : Type 0} (f : B → C) (g : A → B) (entry : Entry A) → mapped_entry f (mapped_entry g entry) ≡ mapped_entry (λ x. f (g x)) entry
entry_twice f g Dir = refl
entry_twice f g (File xs) = ap (λ all. File all) (all_twice f g xs)

pub rows_twice : {A B C : Type 0} (f : B → C) (g : A → B) (rows : Rows A) → mapped_rows f (mapped_rows g rows) ≡ mapped_rows (λ x. f (g x)) rows
rows_twice f g [] = refl
rows_twice f g (row ∷ rows) = ap (λ entry. (row.0, entry) ∷ mapped_rows f (mapped_rows g rows)) (entry_twice f g row.1) ∙ ap (λ all. (row.0, mapped_entry (λ x. f (g x)) row.1) ∷ all) (rows_twice f g rows)

-- names are listed alike, whatever texts stand there
listed_found : (text : ℕ → List ℕ) (rows : Rows ℕ) (p : Path) (found : Option (Entry ℕ)) → listed (mapped_rows text rows) p (mapped_at text found) ≡ listing rows p found
listed_found text rows p None = refl
listed_found text rows p (Some Dir) = ap (λ names. Ok (says.Names names)) (same_names text p rows)
listed_found text rows p (Some (File chunks)) = refl

listed_so : (text : ℕ → List ℕ) (names : NamesView) (p : Path) → listed (mapped_rows text (fin.entries names.tree)) p (at (mapped_rows text (fin.entries names.tree)) p) ≡ listing (fin.entries names.tree) p (fin.get names.tree p)
listed_so text names p =
    ap (listed (mapped_rows text (fin.entries names.tree)) p) (at_mapped text (fin.entries names.tree) p ∙ ap (λ found. mapped_at text (found p)) (sym (rows_of names.tree)))
    ∙ listed_found text (fin.entries names.tree) p (fin.get names.tree p)

-- ---- the machine

no_gate : (rolling preparing : Bool) (x y z : Result Said Refusal × Machine) → rolling ≡ false → ◌≡◌ {A = Result Said Refusal × Machine} (if rolling && true then x else if preparing && false then y else z) z
no_gate true preparing x y z r = absurd (never r)
  where
    never : true ≡ false → ⊥
    never is = cc
no_gate false true x y z r = refl
no_gate false false x y z r = refl

leaves : (p : Path) (said : Result Said Refusal) (m : Machine) → tree_called (calls.List p) said m ≡ (said, m)
leaves p (Ok said) m = refl
leaves p (Err refusal) m = refl

shallow : (deep : Bool) (result : Result Said Refusal) → deep ≡ false → ◌≡◌ {A = Result Said Refusal} (if deep then Err refusals.BadPath else result) result
shallow true result is = absurd (never is)
  where
    never : true ≡ false → ⊥
    never is = cc
shallow false result is = refl

-- it rolls back where that is told
pub rolls_so : (phase : Durable_phase) → is_rolling (told_phase false phase) ≡ is_rolled phase
rolls_so Ordinary = refl
rolls_so Upgrade = refl
rolls_so Rolling = refl

-- what is listed by the names that the machine shows
pub list_called : (text : ℕ → Text) (names : NamesView) (m : Machine) (p : Path) → m.plain.tree ≡ mapped_rows text (fin.entries names.tree) → is_rolling m.phase ≡ false → is_any_deep (calls.List p) ≡ false
    → called (calls.List p) m ≡ (listing (fin.entries names.tree) p (fin.get names.tree p), m)
list_called text names m p shows calm not_deep =
    let rows : mapped_rows (λ (t : Text). t.bytes) m.plain.tree ≡ mapped_rows (λ chunk. (text chunk).bytes) (fin.entries names.tree) =
    ap (mapped_rows (λ (t : Text). t.bytes)) shows ∙ rows_twice (λ (t : Text). t.bytes) text (fin.entries names.tree) in
    let found : listed (mapped_rows (λ (t : Text). t.bytes) m.plain.tree) p (at (mapped_rows (λ (t : Text). t.bytes) m.plain.tree) p) ≡ listing (fin.entries names.tree) p (fin.get names.tree p) =
    ap (λ all. listed all p (at all p)) rows ∙ listed_so (λ chunk. (text chunk).bytes) names p in
    let said : tree_said (calls.List p) m ≡ listing (fin.entries names.tree) p (fin.get names.tree p) =
    shallow (is_any_deep (calls.List p)) (listed (mapped_rows (λ (t : Text). t.bytes) m.plain.tree) p (at (mapped_rows (λ (t : Text). t.bytes) m.plain.tree) p)) not_deep ∙ found in
    no_gate (is_rolling m.phase) (is_preparing m.phase) (Err refusals.RollingBack, m) (Err refusals.Preparing, m) (taken (calls.List p) m) calm ∙ leaves p (tree_said (calls.List p) m) m ∙ ap (λ (x : Result Said Refusal). (x, m)) said

pub list_is : (size : ℕ) (d : Durable) (m : Machine) (p : Path) (names : List ListedName) → ShowsNames d m → listing (fin.entries d.names.tree) p (fin.get d.names.tree p) ≡ Ok (says.Names names) → is_rolled d.phase ≡ false → is_any_deep (calls.List p) ≡ false
    → AsksTree size (Ok (calls.List p)) m (Ok (answers.Names names)) m
list_is size d m p names shows is calm not_deep =
    let comes : called (calls.List p) m ≡ (Ok (says.Names names), m) =
    list_called shows.text d.names m p shows.tree (ap is_rolling shows.phase ∙ rolls_so d.phase ∙ calm) not_deep ∙ ap (λ (x : Result Said Refusal). (x, m)) is in (
      Ok (says.Names names),
      (called (calls.List p) m).1,
      ([], inl (subst (λ (x : Result Said Refusal × Machine). IsSaid x.0 (Ok (says.Names names))) (sym comes) refl, refl)),
      refl,
      sym (ap (λ (x : Result Said Refusal × Machine). x.1) comes),
    )

-- one that isn't answered
pub list_off : (size : ℕ) (m : Machine) (p : Path) (refusal : Refusal) → IsNoLook refusal → AsksTree size (Ok (calls.List p)) m (Err refusal) m
list_off size m p refusal (inl store) = (Err refusal, m, ([], inr (refusal, refl, inl (store, refl))), refl, refl)
list_off size m p refusal (inr unsure) = (Err refusal, m, ([], inr (refusal, refl, inr (unsure, refl))), refl, refl)

-- nothing but names is listed
pub listed_names : (rows : Rows ℕ) (p : Path) (found : Option (Entry ℕ)) (answer : Said) → listing rows p found ≡ Ok answer → (names : List ListedName) × (answer ≡ says.Names names)
listed_names rows p None answer is = absurd (cc)
listed_names rows p (Some Dir) answer is = (_, sym (answer_is is))
  where
    answer_is : {a b : Said} → ◌≡◌ {A = Result Said Refusal} (Ok a) (Ok b) → a ≡ b
    answer_is e = cc
listed_names rows p (Some (File chunks)) answer is = (_, sym (answer_is is))
  where
    answer_is : {a b : Said} → ◌≡◌ {A = Result Said Refusal} (Ok a) (Ok b) → a ≡ b
    answer_is e = cc

-- ---- the phase

any_gate : (rolling preparing : Bool) (x y z : Result Said Refusal × Machine) → ◌≡◌ {A = Result Said Refusal × Machine} (if rolling && false then x else if preparing && false then y else z) z
any_gate true true x y z = refl
any_gate true false x y z = refl
any_gate false true x y z = refl
any_gate false false x y z = refl

pub query_called : (m : Machine) → called calls.Query m ≡ (Ok (says.Phase m.phase m.epoch), m)
query_called m = any_gate (is_rolling m.phase) (is_preparing m.phase) (Err refusals.RollingBack, m) (Err refusals.Preparing, m) (taken calls.Query m)

pub query_is : (size : ℕ) (m : Machine) (phase : Phase) (epoch : ℕ) → phase ≡ m.phase → epoch ≡ m.epoch → AsksOne size calls.Query m (Ok (answers.Phase phase epoch)) m
query_is size m phase epoch same so =
    let comes = query_called m in (
      Ok (says.Phase m.phase m.epoch),
      ([], inl (subst (λ (x : Result Said Refusal × Machine). IsSaid x.0 (Ok (says.Phase m.phase m.epoch))) (sym comes) refl, sym (ap (λ (x : Result Said Refusal × Machine). x.1) comes))),
      ap (λ p. Ok (answers.Phase p epoch)) same ∙ ap (λ e. Ok (answers.Phase m.phase e)) so,
    )

pub query_off : (size : ℕ) (m : Machine) (refusal : Refusal) → IsNoLook refusal → AsksOne size calls.Query m (Err refusal) m
query_off size m refusal (inl store) = (Err refusal, ([], inr (refusal, refl, inl (store, refl))), refl)
query_off size m refusal (inr unsure) = (Err refusal, ([], inr (refusal, refl, inr (unsure, refl))), refl)

-- ---- a list that is new to the master

module _ (config : Config) (s : State) (req : ReqId) (moment : Moment) (p : Path) (answer : Said) where
  abbrev IsPassed : Type 0
  IsPassed = (is_rolled s.durable.phase ≡ false) × (is_any_deep (calls.List p) ≡ false)

  by_tests : (failed rolling preparing deep locked hidden : Bool)
      → first_of ((failed, refusals.Device) ∷ (rolling && true, refusals.RollingBack) ∷ (preparing && false, refusals.Preparing) ∷ (deep, refusals.BadPath) ∷ (locked, refusals.Locked) ∷ (hidden, refusals.HiddenName) ∷ []) ≡ None → (rolling ≡ false) × (deep ≡ false)
  by_tests true rolling preparing deep locked hidden is = absurd cc
  by_tests false true preparing deep locked hidden is = absurd cc
  by_tests false false true true locked hidden is = absurd cc
  by_tests false false false true locked hidden is = absurd cc
  by_tests false false preparing false locked hidden is = (refl, refl)

  by_refusal : (o : Option Refusal) → refused_before s req (calls.List p) ≡ o → OneSays req (Ok answer) (called_unless config s req moment (calls.List p) o).sent → IsPassed
  by_refusal None none said = by_tests (is_failed s.fault) (is_rolled s.durable.phase) s.volatile.is_preparing (is_any_deep (calls.List p)) (is_locked s req (calls.List p)) (is_any_hidden (calls.List p)) none
  by_refusal (Some refusal) is said = no_answer req refusal answer said

  pub passed : OneSays req (Ok answer) (new_call config s req moment (calls.List p)).sent → IsPassed
  passed said = by_refusal (refused_before s req (calls.List p)) refl said

-- ---- a query that is

said_is : (req : ReqId) (given answer : Said) → OneSays req (Ok answer) (reply_to req (Ok given) ∷ []) → answer ≡ given
said_is req given answer (inl is) = same is
  where
    same : bodies.Reply req (Ok given) ≡ bodies.Reply req (Ok answer) → answer ≡ given
    same e = cc
said_is req given answer (inr none) = absurd none

module _ (config : Config) (s : State) (req : ReqId) (moment : Moment) (answer : Said) (calm : IsCalm s) where
  abbrev IsQueried : Type 0
  IsQueried = answer ≡ says.Phase (told_phase false s.durable.phase) s.durable.epoch

  flag : is_failed s.fault ≡ false → IsCalm s → s.volatile.is_preparing ≡ false
  flag sound (inl failed) = absurd (never (sym sound ∙ failed))
    where
      never : false ≡ true → ⊥
      never is = cc
  flag sound (inr is) = is

  by_query : (o : Option Refusal) → refused_before s req calls.Query ≡ o → OneSays req (Ok answer) (called_unless config s req moment calls.Query o).sent → IsQueried
  by_query None none said =
      said_is req (says.Phase (told_phase s.volatile.is_preparing s.durable.phase) s.durable.epoch) answer said ∙ ap (λ preparing. says.Phase (told_phase preparing s.durable.phase) s.durable.epoch) (flag (sound_so s req calls.Query none) calm)
  by_query (Some refusal) none said = no_answer req refusal answer said

  queried_so : OneSays req (Ok answer) (new_call config s req moment calls.Query).sent → IsQueried
  queried_so said = by_query (refused_before s req calls.Query) refl said

-- ---- a store whose names stand

module _ {D : Type 0} (seen : D → List ℕ) (failures : D → ℕ) (d : Durable) (number : ℕ) where
  pub undisturbed_on : (steps : List Step) (old new : History D) → RunsTo seen failures unarmed steps old new → AllByRecursion IsStepWithin steps → AllByRecursion (IsLooking the_client) steps → IsUndisturbed seen d number old → IsUndisturbed seen d number new
  undisturbed_on steps old new runs within looking u = record {
    still = stays_still seen failures unarmed d the_client number steps old new runs looking u.still;
    asked = asked_spared seen failures unarmed steps old new runs (all_spare the_client steps looking) within u.types u.lasts u.asked;
    types = run_keeps seen failures unarmed steps old new runs within u.types;
    lasts = lasts_spared seen failures unarmed steps old new runs (all_spare the_client steps looking) within u.types u.lasts;
    served = stays_served seen failures unarmed (unarmed_alone seen failures) steps old new runs within u.types u.lasts u.asked u.served;
    replied = run_replied seen failures unarmed steps old new runs u.replied;
    sparing = stays_sparing seen failures unarmed (unarmed_alone seen failures) steps old new runs within u.types u.lasts u.sparing;
    calm = stays_calm seen failures unarmed d the_client number steps old new runs within looking u.types u.lasts u.still u.calm;
    one = (run_same seen failures unarmed steps old new runs).clients ∙ u.one;
  }

  -- a look-up that is answered
  module _ (old mid : History D) (call : Call) (look : is_look call ≡ true) (once : is_answered_at_once call ≡ true) (answer : Said) (u : IsUndisturbed seen d number old) (h : HasReply seen failures the_client old (requests.Call call) (replies.Answer answer) mid) where
    made : WasAnswered seen failures unarmed h.behind.steps h.asked mid h.req call answer
    made = (answers_are_made seen failures unarmed old h.asked mid h.moment h.req call h.behind.steps h.last answer u.asked (record { node = h.node; there = h.there; fresh = h.fresh; happens = h.happens }) once h.behind.runs (all_spare the_client h.behind.steps h.behind.looking)
        (subst (λ k. client_in mid.nodes.clients k ≡ Some h.last) (sym h.own) h.found) h.number h.has).0

    abbrev ask : Step
    ask = asks_call h.moment h.req call

    looks_before : AllByRecursion (IsLooking the_client) (ask ∷ made.before)
    looks_before = ((refl, (h.own, look)), all_front (IsLooking the_client) made.before (Comes made.event ∷ made.after) (subst (AllByRecursion (IsLooking the_client)) made.parts h.behind.looking))

    within_before : AllByRecursion IsStepWithin (ask ∷ made.before)
    within_before = (h.asks, all_front IsStepWithin made.before (Comes made.event ∷ made.after) (subst (AllByRecursion IsStepWithin) made.parts h.behind.within))

    now : IsUndisturbed seen d number made.now
    now = undisturbed_on (ask ∷ made.before) old made.now (h.asked, (Ok tt, h.happens), made.first) within_before looks_before u

    there : MadeThere seen failures unarmed made.now made.event.moment made.answers.master h.req call answer made.next.nodes
    there = made_there seen failures unarmed made.now made.event made.said made.next made.happens h.req call answer made.answers

    abbrev s : State
    s = made.answers.master.state

    stands : StandsStill d the_client number s
    stands = subst (StandsStillAt d the_client number) made.answers.stands now.still.master

    calm : IsCalm s
    calm = subst IsCalmAt made.answers.stands now.calm

    -- it is what the master says in the turn of the call
    pub judged_so : IsJudged d call (Ok answer)
    judged_so = record { config = made.answers.master.config; state = s; req = h.req; moment = made.event.moment; stands = (number, stands); says = there.says }

  -- a list is by the names
  module _ (old mid : History D) (p : Path) (answer : Said) (u : IsUndisturbed seen d number old) (h : HasReply seen failures the_client old (requests.Call (calls.List p)) (replies.Answer answer) mid) where
    abbrev its : State
    its = s old mid (calls.List p) refl refl answer u h

    abbrev one : StandsStill d the_client number its
    one = stands old mid (calls.List p) refl refl answer u h

    says_it : OneSays h.req (Ok answer) (new_call (made old mid (calls.List p) refl refl answer u h).answers.master.config its h.req (made old mid (calls.List p) refl refl answer u h).event.moment (calls.List p)).sent
    says_it = (there old mid (calls.List p) refl refl answer u h).says

    pub is_listed : listing (fin.entries d.names.tree) p (fin.get d.names.tree p) ≡ Ok answer
    is_listed = ap (λ (n : NamesView). listing (fin.entries n.tree) p (fin.get n.tree p)) (sym one.names)
        ∙ lists_answered (made old mid (calls.List p) refl refl answer u h).answers.master.config its h.req (made old mid (calls.List p) refl refl answer u h).event.moment p answer says_it

    is_passed : (is_rolled its.durable.phase ≡ false) × (is_any_deep (calls.List p) ≡ false)
    is_passed = passed (made old mid (calls.List p) refl refl answer u h).answers.master.config its h.req (made old mid (calls.List p) refl refl answer u h).event.moment p answer says_it

    pub is_calm : is_rolled d.phase ≡ false
    is_calm = ap is_rolled (sym one.phase) ∙ is_passed.0

    pub is_shallow : is_any_deep (calls.List p) ≡ false
    is_shallow = is_passed.1

  -- and a query by the phase and the epoch
  module _ (old mid : History D) (answer : Said) (u : IsUndisturbed seen d number old) (h : HasReply seen failures the_client old (requests.Call calls.Query) (replies.Answer answer) mid) where
    pub is_told : answer ≡ says.Phase (told_phase false d.phase) d.epoch
    is_told =
        let m = made old mid calls.Query refl refl answer u h in
        let st = stands old mid calls.Query refl refl answer u h in
        queried_so m.answers.master.config m.answers.master.state h.req m.event.moment answer (calm old mid calls.Query refl refl answer u h) (there old mid calls.Query refl refl answer u h).says
        ∙ ap (λ p. says.Phase (told_phase false p) m.answers.master.state.durable.epoch) st.phase ∙ ap (λ e. says.Phase (told_phase false d.phase) e) st.epoch
