-- Lines that ask for changes of the tree are explained where a desk stands for a machine, if their answers tell what came of them.
use Rattle.std.proofs.Common.{[], ap, inl, inr, not, refl, subst, sym, ◌&&◌, ◌∷◌, ◌∙◌, ◌≡◌, Bool, Err, List, MatchOption, None, Ok, Option, Result, Some, false, if◌then◌else◌, length, nat_le, true, ℕ}
use Rattle.std.specs.Prelude.{is_none}
use Rattle.std.proofs.lemmas.Bool.{false≢true}
use Rattle.gs_base.specs.declared.config.Config.{Config}
use Rattle.gs_base.specs.declared.refusal.Refusal.{Refusal}
use Rattle.gs_base.specs.declared.refusal.Refusal.TheVariants as refusals
use Rattle.gs_client.specs.Replies.{changed, deleted_in, nothing_in, path_in}
use Rattle.gs_client.specs.Trees.{and_then}
use Rattle.gs_client.specs.Trees as trees
use Rattle.gs_client.specs.declared.client.Client.{Client}
use Rattle.gs_client.specs.declared.link.Reply.{Reply}
use Rattle.gs_client_dialogue.specs.Dialogues.{FollowsDialogue, Say, onward}
use Rattle.gs_edit.specs.Mapped.{mapped_rows}
use Rattle.gs_edit.specs.Plain.{create_rows, hide_rows, mkdirs_rows, rename_rows, unhide_rows, unhide_target}
use Rattle.gs_laws_chunks.proofs.lemmas.desks.Asking.{line_asks}
use Rattle.gs_laws_moves.specs.answers.Changes.{is_change}
use Rattle.gs_laws_plain.specs.commands.Answers as plain
use Rattle.gs_laws_world.specs.steady.Asking.{AllAsked, MayBeAsked}
use Rattle.gs_master_spec.specs.Calls.{is_always_taken, is_any_deep, is_any_hidden, is_work}
use Rattle.gs_msg.specs.declared.answer.Answer.{Answer as Said}
use Rattle.gs_msg.specs.declared.answer.Answer.TheVariants as says
use Rattle.gs_msg.specs.declared.call.Call.{Call as Called}
use Rattle.gs_msg.specs.declared.call.Call.TheVariants as calls
use Rattle.gs_msg.specs.declared.event.Request.{Request as Asked}
use Rattle.gs_msg.specs.declared.event.Request.TheVariants as requests
use Rattle.gs_path.specs.Path.{Path}
use Rattle.gs_path.specs.Rules.{parse, parse_hidden}
use Rattle.gs_shell_calls.specs.Asked.{answered, done, hidden, on, on_two}
use Rattle.gs_shell_calls.specs.Texts.{answer_text}
use Rattle.gs_shell_calls.specs.declared.answer.Answer.{Answer}
use Rattle.gs_shell_calls.specs.declared.answer.Answer.TheVariants as answers
use Rattle.gs_shell_desk.specs.Answering.{AnswersText, IsText}
use Rattle.gs_shell_desk.specs.Lines.{Comes}
use Rattle.gs_shell_desk.specs.declared.desk.Desk.{Desk}
use Rattle.gs_shell_desk.specs.declared.wire.Wire.{Wire}
use Rattle.gs_shell_grammar.specs.Grammar.{Request, line_request}
use Rattle.gs_shell_grammar.specs.Grammar as lines
use Rattle.gs_shell_line.specs.Line.{content, longest_line}
use Rattle.gs_shell_script.specs.Run.{AnswersIfShort, AnswersLine, Runs}
use Rattle.gs_tree.specs.Edits.{hidden_path, old_name, same_path}
use Rattle.gs_tree.specs.Find.{Rows}
use Rattle.gs_tree.specs.Find.{at as at_rows}
use Rattle.gs_laws_scripts.proofs.lemmas.explained.Changing.{changes_are_explained_there}
use Rattle.gs_laws_scripts.proofs.lemmas.explained.LookLines.{look_line_goes}
use Rattle.gs_laws_scripts.proofs.lemmas.explained.NoPaths.{no_path_goes}
use Rattle.gs_laws_scripts.proofs.lemmas.explained.Still.{line_goes, stands_still}
use Rattle.gs_laws_scripts.proofs.lemmas.lists.Lines.{Carries_at}
use Rattle.gs_laws_scripts.specs.explained.Changes.{AreCalmLines, CalmLinesAreExplained, IsCalmLine, IsOver, IsSure, is_change_line}
use Rattle.gs_laws_scripts.specs.explained.Lines.{Asks, AsksTree, Explains, IsSaid, Leads, LeadsBy, overtaken, told}
use Rattle.gs_laws_scripts.specs.explained.Machine.{Machine, Text, called, is_preparing, is_rolling, paid_now, taken, tree_called}
use Rattle.gs_laws_scripts.specs.explained.Standing.{Stands}
use Rattle.gs_laws_scripts.specs.plain.Machines.{asked_in, call_of}
use Rattle.gs_laws_scripts.specs.plain.Machines as plainly

-- ---- a change as a dialogue

-- how a line shows what a call that changes something is told
abbrev shown_by : {A : Type 0} → (Said → Result A Refusal) → (A → Answer) → Result Said Refusal → Result Answer Refusal
shown_by says_in shows said = answered shows (and_then says_in said)

call_is : {a b : Called} → ◌≡◌ {A = Result Called Refusal} (Ok a) (Ok b) → a ≡ b
call_is e = cc

ok_is : {a b : Said} → ◌≡◌ {A = Result Said Refusal} (Ok a) (Ok b) → a ≡ b
ok_is e = cc

module _ {S : Type 0} (carries : S → Asked → Reply → S → Type 0) where
  -- Memory is wanting for a path; or a path is none; or the call is asked, and what it is told is shown.
  pub data ChangeGoes (called : Result Called Refusal) (shows : Result Said Refusal → Result Answer Refusal) (old : S) (result : Result Answer Refusal) (new : S) : Type 0 where
    Short : result ≡ Err refusals.Memory → ChangeGoes called shows old result new
    NoPath : (refusal : Refusal) → called ≡ Err refusal → result ≡ Err refusal → new ≡ old → ChangeGoes called shows old result new
    IsAsked : (call : Called) (reply : Reply) → called ≡ Ok call → carries old (requests.Call call) reply new → result ≡ shows (changed reply) → ChangeGoes called shows old result new

  module _ {A : Type 0} (says_in : Said → Result A Refusal) (shows : A → Answer) where
    by_reply : (call : Called) (reply : Reply) (r : Result A Refusal) → and_then says_in (changed reply) ≡ r → (old mid new : S) (result : Result Answer Refusal) → carries old (requests.Call call) reply mid → FollowsDialogue carries (onward (λ x. Say (Ok (shows x))) r) mid result new
        → ChangeGoes (Ok call) (shown_by says_in shows) old result new
    by_reply call reply (Ok x) said old mid new result carried (came, same) = IsAsked call reply refl (subst (λ s. carries old (requests.Call call) reply s) (sym same) carried) (came ∙ ap (answered shows) (sym said))
    by_reply call reply (Err e) said old mid new result carried (came, same) = IsAsked call reply refl (subst (λ s. carries old (requests.Call call) reply s) (sym same) carried) (came ∙ ap (answered shows) (sym said))

    -- on a path
    pub on_goes : (parsed : Result Path Refusal) (call : Path → Called) (old new : S) (result : Result Answer Refusal) → FollowsDialogue carries (on parsed (λ p. trees.change (call p) says_in) shows) old result new → ChangeGoes (plainly.on parsed call) (shown_by says_in shows) old result new
    on_goes (Ok path) call old new result (inl (reply, mid, carried, rest)) = by_reply (call path) reply (and_then says_in (changed reply)) refl old mid new result carried rest
    on_goes (Err refusal) call old new result (inl (came, same)) = NoPath refusal refl came same
    on_goes parsed call old new result (inr (came, same)) = Short came

    -- what it asks may be asked
    pub may_ask : (parsed : Result Path Refusal) (called : Path → Called) (call : Called) → AllAsked MayBeAsked (on parsed (λ p. trees.change (called p) says_in) shows) → plainly.on parsed called ≡ Ok call → MayBeAsked (requests.Call call)
    may_ask (Ok path) called call all is = subst (λ c. MayBeAsked (requests.Call c)) (call_is is) all.0
    may_ask (Err refusal) called call all is = absurd (cc)

  -- on two paths
  pub two_go : (from to : Result Path Refusal) (old new : S) (result : Result Answer Refusal) → FollowsDialogue carries (on_two from to trees.rename_call) old result new → ChangeGoes (plainly.on_two from to calls.Rename) (shown_by nothing_in done) old result new
  two_go (Ok source) to old new result (inl rest) = on_goes nothing_in done to (calls.Rename source) old new result rest
  two_go (Err refusal) to old new result (inl (came, same)) = NoPath refusal refl came same
  two_go from to old new result (inr (came, same)) = Short came

  pub may_rename : (from to : Result Path Refusal) (call : Called) → AllAsked MayBeAsked (on_two from to trees.rename_call) → plainly.on_two from to calls.Rename ≡ Ok call → MayBeAsked (requests.Call call)
  may_rename (Ok source) to call all is = may_ask nothing_in done to (calls.Rename source) call all is
  may_rename (Err refusal) to call all is = absurd (cc)

-- ---- what the machine says to one is shown

-- the machine accepts it with this alone
abbrev SaysOnly : Said → Result Said Refusal → Type 0
SaysOnly answer (Ok said) = said ≡ answer
SaysOnly answer (Err refusal) = Unit {0}

module _ (answer : Said) where
  only_if : (b : Bool) (refusal : Refusal) (r : Result Said Refusal) → SaysOnly answer r → SaysOnly answer (if b then Err refusal else r)
  only_if true refusal r says = tt
  only_if false refusal r says = says

  only_called : (call : Called) (r : Result Said Refusal) (m : Machine) → SaysOnly answer r → SaysOnly answer (tree_called call r m).0
  only_called call (Ok said) m says = says
  only_called call (Err refusal) m says = tt

  only_gated : (a b : Bool) (x y : Refusal) (m : Machine) (z : Result Said Refusal × Machine) → SaysOnly answer z.0 → SaysOnly answer (if a then (Err x, m) else if b then (Err y, m) else z).0
  only_gated true b x y m z says = tt
  only_gated false true x y m z says = tt
  only_gated false false x y m z says = says

  only_made : {A : Type 0} (made : Result A Refusal) → SaysOnly answer (plain.answered answer made)
  only_made (Ok rows) = refl
  only_made (Err refusal) = tt

  only_by_paths : (call : Called) (r : Result Said Refusal) → SaysOnly answer r → SaysOnly answer (plain.by_paths call r)
  only_by_paths call r says = only_if (is_any_deep call) refusals.BadPath (if is_any_hidden call then Err refusals.HiddenName else r) (only_if (is_any_hidden call) refusals.HiddenName r says)

  -- so it says this alone
  said_only : (same : (said : Said) → IsSaid (Ok answer) (Ok said) → said ≡ answer) (r : Result Said Refusal) (said : Said) → SaysOnly answer r → IsSaid r (Ok said) → said ≡ answer
  said_only same (Ok other) said says is = same said (subst (λ a. IsSaid (Ok a) (Ok said)) says is)
  said_only same (Err refusal) said says is = absurd (never is)
    where
      never : ◌≡◌ {A = Result Said Refusal} (Ok said) (Err refusal) → ⊥
      never e = cc

  asked_only : (size : ℕ) (call : Called) (old mid : Machine) (said : Said) → ((m : Machine) → SaysOnly answer (called call m).0) → ((said : Said) → IsSaid (Ok answer) (Ok said) → said ≡ answer) → Asks size call old (Ok said) mid → said ≡ answer
  asked_only size call old mid said only same (payments, inl (is, after)) = said_only same (called call (paid_now size payments old)).0 said (only (paid_now size payments old)) is
  asked_only size call old mid said only same (payments, inr (refusal, refused, rest)) = absurd (never refused)
    where
      never : ◌≡◌ {A = Result Said Refusal} (Ok said) (Err refusal) → ⊥
      never e = cc

-- the call of a change but a deletion is answered by nothing, or by a path
abbrev answer_to : Called → Said
answer_to (calls.Undelete p) = says.Path (unhide_target p (old_name p))
answer_to call = says.Nothing

-- a call that is no deletion
abbrev is_kept_visible : Called → Bool
is_kept_visible (calls.Delete p recursive) = false
is_kept_visible call = is_change call

answers_only : (call : Called) → is_kept_visible call ≡ true → (m : Machine) → SaysOnly (answer_to call) (called call m).0
answers_only call is m = by_call call is
  where
    gated : (call : Called) → is_kept_visible call ≡ true → SaysOnly (answer_to call) (taken call m).0 → SaysOnly (answer_to call) (called call m).0
    gated call is says = only_gated (answer_to call) (is_rolling m.phase && not (is_always_taken call)) (is_preparing m.phase && is_work call) refusals.RollingBack refusals.Preparing m (taken call m) says

    by_rows : {A : Type 0} (call : Called) (answer : Said) (made : Result A Refusal) → SaysOnly answer (tree_called call (plain.by_paths call (plain.answered answer made)) m).0
    by_rows call answer made = only_called answer call (plain.by_paths call (plain.answered answer made)) m (only_by_paths answer call (plain.answered answer made) (only_made answer made))

    rows : Rows (List ℕ)
    rows = mapped_rows (λ (text : Text). text.bytes) m.plain.tree

    by_call : (call : Called) → is_kept_visible call ≡ true → SaysOnly (answer_to call) (called call m).0
    by_call (calls.Mkdirs p) is = gated (calls.Mkdirs p) is (by_rows (calls.Mkdirs p) says.Nothing (mkdirs_rows rows p))
    by_call (calls.Create p) is = gated (calls.Create p) is (by_rows (calls.Create p) says.Nothing (create_rows rows p))
    by_call (calls.Rename from to) is = gated (calls.Rename from to) is (by_rows (calls.Rename from to) says.Nothing (rename_rows rows from to))
    by_call (calls.Undelete p) is = gated (calls.Undelete p) is (by_rows (calls.Undelete p) (says.Path (unhide_target p (old_name p))) (unhide_rows rows p))
    by_call call is = absurd (false≢true is)

-- a change that the machine explains is shown as it is told
module _ (size : ℕ) (call : Called) (old mid : Machine) (is : is_kept_visible call ≡ true) where
  nothing_shown : answer_to call ≡ says.Nothing → (said : Result Said Refusal) → Asks size call old said mid → shown_by nothing_in done said ≡ answered told said
  nothing_shown answer (Err refusal) asks = refl
  nothing_shown answer (Ok said) asks = subst (λ (s : Said). shown_by nothing_in done (Ok s) ≡ answered told (Ok s)) (sym (asked_only says.Nothing size call old mid said (λ m. subst (λ (a : Said). SaysOnly a (called call m).0) answer (answers_only call is m)) (λ s same. ok_is same) asks)) refl

  path_shown : (path : Path) → answer_to call ≡ says.Path path → (said : Result Said Refusal) → Asks size call old said mid → shown_by path_in answers.Path said ≡ answered told said
  path_shown path answer (Err refusal) asks = refl
  path_shown path answer (Ok said) asks = subst (λ (s : Said). shown_by path_in answers.Path (Ok s) ≡ answered told (Ok s)) (sym (asked_only (says.Path path) size call old mid said (λ m. subst (λ (a : Said). SaysOnly a (called call m).0) answer (answers_only call is m)) (λ s same. ok_is same) asks)) refl

-- a deletion is answered by the hidden path, or that nothing stood there
abbrev SaysHidden : Result Said Refusal → Type 0
SaysHidden (Ok (says.Path p)) = Unit {0}
SaysHidden (Ok says.Absent) = Unit {0}
SaysHidden (Ok said) = ⊥
SaysHidden (Err refusal) = Unit {0}

hidden_if : (b : Bool) (refusal : Refusal) (r : Result Said Refusal) → SaysHidden r → SaysHidden (if b then Err refusal else r)
hidden_if true refusal r says = tt
hidden_if false refusal r says = says

absent_if : (b : Bool) (r : Result Said Refusal) → SaysHidden r → SaysHidden (if b then Ok says.Absent else r)
absent_if true r says = tt
absent_if false r says = says

hidden_called : (call : Called) (r : Result Said Refusal) (m : Machine) → SaysHidden r → SaysHidden (tree_called call r m).0
hidden_called call (Ok said) m says = says
hidden_called call (Err refusal) m says = tt

hidden_gated : (a b : Bool) (x y : Refusal) (m : Machine) (z : Result Said Refusal × Machine) → SaysHidden z.0 → SaysHidden (if a then (Err x, m) else if b then (Err y, m) else z).0
hidden_gated true b x y m z says = tt
hidden_gated false true x y m z says = tt
hidden_gated false false x y m z says = says

hidden_made : {A : Type 0} (p : Path) (made : Result A Refusal) → SaysHidden (plain.answered (says.Path p) made)
hidden_made p (Ok rows) = tt
hidden_made p (Err refusal) = tt

deletes_hidden : (p : Path) (recursive : Bool) (m : Machine) → SaysHidden (called (calls.Delete p recursive) m).0
deletes_hidden p recursive m =
    let call = calls.Delete p recursive in
    let rows = mapped_rows (λ (text : Text). text.bytes) m.plain.tree in
    let made = plain.answered (says.Path (hidden_path p m.moment m.next_hidden)) (hide_rows rows p m.moment m.next_hidden) in
    let full = if not recursive && plain.has_visible rows p then Err refusals.NotEmpty else made in
    let found = if is_none (at_rows rows p) then Ok says.Absent else full in
    hidden_gated (is_rolling m.phase && not (is_always_taken call)) (is_preparing m.phase && is_work call) refusals.RollingBack refusals.Preparing m (taken call m)
    (hidden_called call (plain.by_paths call (plain.deletes rows p recursive m.moment m.next_hidden)) m
    (hidden_if (is_any_deep call) refusals.BadPath (if is_any_hidden call then Err refusals.HiddenName else plain.deletes rows p recursive m.moment m.next_hidden)
    (hidden_if (is_any_hidden call) refusals.HiddenName (plain.deletes rows p recursive m.moment m.next_hidden)
    (hidden_if (same_path p []) refusals.IsRoot found (absent_if (is_none (at_rows rows p)) full (hidden_if (not recursive && plain.has_visible rows p) refusals.NotEmpty made (hidden_made (hidden_path p m.moment m.next_hidden) (hide_rows rows p m.moment m.next_hidden))))))))

-- one that the machine explains is shown as it is told
hidden_shown : (said : Result Said Refusal) → SaysHidden said → shown_by deleted_in hidden said ≡ answered told said
hidden_shown (Ok (says.Path p)) says = refl
hidden_shown (Ok says.Absent) says = refl
hidden_shown (Ok said) says = absurd says
hidden_shown (Err refusal) says = refl

hidden_said : (given said : Result Said Refusal) → SaysHidden given → IsSaid given said → SaysHidden said
hidden_said (Ok (says.Path p)) said says is = subst SaysHidden (sym is) tt
hidden_said (Ok says.Absent) said says is = subst SaysHidden (sym is) tt
hidden_said (Ok given) said says is = absurd says
hidden_said (Err refusal) said says is = subst SaysHidden (sym is) tt

deleted_shown : (size : ℕ) (p : Path) (recursive : Bool) (old mid : Machine) (said : Result Said Refusal) → Asks size (calls.Delete p recursive) old said mid → shown_by deleted_in hidden said ≡ answered told said
deleted_shown size p recursive old mid said (payments, inl (is, after)) = hidden_shown said (hidden_said (called (calls.Delete p recursive) (paid_now size payments old)).0 said (deletes_hidden p recursive (paid_now size payments old)) is)
deleted_shown size p recursive old mid said (payments, inr (refusal, refused, rest)) = hidden_shown said (subst SaysHidden (sym refused) tt)

-- ---- what is sure

-- a reply whose answer is told is over
told_over : (text : List ℕ) → IsSure text → (shows : Result Said Refusal → Result Answer Refusal) → ((refusal : Refusal) → shows (Err refusal) ≡ Err refusal) → (said : Result Said Refusal) → text ≡ answer_text (shows said) → IsOver said
told_over text sure shows as_it_is said is unsure = sure.sure (is ∙ ap (λ s. answer_text (shows s)) unsure ∙ ap answer_text (as_it_is refusals.Unsure))

-- ---- a line

module _ {D : Type 0} (seen : D → List ℕ) (failures : D → ℕ) (config : Config) (size block : ℕ) (old new : Desk D) (m : Machine) (st : Stands seen config old m) where
  abbrev at : Desk D → Client × Wire D
  at d = (d.caller.client, d.wire)

  -- it is explained, and the desk stands for the machine to which it leads
  record Goes (request : Request) (text : List ℕ) : Type 0 where
    next : Machine
    answer : Result Answer Refusal
    leads : Leads size block request m answer next
    is : IsText answer text
    stands : Stands seen config new next

  abbrev Explained : Result Called Refusal → Result Answer Refusal → Type 0
  Explained called answer = (next : Machine) × AsksTree size called m answer next × Stands seen config new next

  -- a call that is asked
  module _ (call : Called) (reply : Reply) (is : is_change call ≡ true) (may : MayBeAsked (requests.Call call)) (carried : Carries_at seen failures (at old) (requests.Call call) reply (at new)) (over : IsOver (changed reply)) where
    found : (mid : Machine) × Asks size call m (changed reply) mid × Stands seen config new (overtaken call (changed reply, mid))
    found = changes_are_explained_there seen failures config size old new m call reply st is may carried over

    asked_so : (shows : Result Said Refusal → Result Answer Refusal) → ((mid : Machine) → Asks size call m (changed reply) mid → shows (changed reply) ≡ answered told (changed reply)) → Explained (Ok call) (shows (changed reply))
    asked_so shows shown = (overtaken call (changed reply, found.0), (changed reply, found.0, found.1, shown found.0 found.1, refl), found.2)

  module _ (text : List ℕ) (sure : IsSure text) (shows : Result Said Refusal → Result Answer Refusal) (as_it_is : (refusal : Refusal) → shows (Err refusal) ≡ Err refusal) (answer : Result Answer Refusal) (is : text ≡ answer_text answer) where
    never_short : {Z : Type 0} → answer ≡ Err refusals.Memory → Z
    never_short short = absurd (sure.told (is ∙ ap answer_text short))

    abbrev Shown : Called → Type 0
    Shown call = (mid : Machine) (said : Result Said Refusal) → Asks size call m said mid → shows said ≡ answered told said

    -- one of some paths
    explained : (asked : Result Called Refusal) → ((call : Called) → asked ≡ Ok call → MayBeAsked (requests.Call call)) → ((call : Called) → asked ≡ Ok call → is_change call ≡ true) → ((call : Called) → asked ≡ Ok call → Shown call)
        → ChangeGoes (Carries_at seen failures) asked shows (at old) answer (at new) → Explained asked answer
    explained asked may changes shown (Short short) = never_short short
    explained asked may changes shown (NoPath refusal none came same) = (m, subst (λ c. AsksTree size c m answer m) (sym none) (came, refl), stands_still seen failures config size block old new m st same)
    explained asked may changes shown (IsAsked call reply some carried came) =
        let over : IsOver (changed reply) = told_over text sure shows as_it_is (changed reply) (is ∙ ap answer_text came) in
        subst (λ c. Explained c answer) (sym some) (subst (Explained (Ok call)) (sym came) (asked_so call reply (changes call some) (may call some) carried over shows (λ mid asks. shown call some mid (changed reply) asks)))

  goes_on : (request : Request) (asked : Result Called Refusal) (answer : Result Answer Refusal) (text : List ℕ) → call_of request ≡ Some asked → IsText answer text → Explained asked answer → Goes request text
  goes_on request asked answer text calls is e = record { next = e.0; answer = answer; leads = subst (λ c. LeadsBy size block c request m answer e.0) (sym calls) e.1; is = is; stands = e.2 }

  -- its text is no want of memory
  said_so : (answer : Result Answer Refusal) (text : List ℕ) → IsSure text → IsText answer text → text ≡ answer_text answer
  said_so answer text sure (inl said) = said
  said_so answer text sure (inr memory) = absurd (sure.told memory)

  is_change_on : (call : Path → Called) (parsed : Result Path Refusal) (called : Called) → ((p : Path) → is_change (call p) ≡ true) → plainly.on parsed call ≡ Ok called → is_change called ≡ true
  is_change_on call (Ok p) called changes is = subst (λ c. is_change c ≡ true) (call_is is) (changes p)
  is_change_on call (Err refusal) called changes is = absurd (cc)

  -- what is shown of a call on a path
  nothing_on : (call : Path → Called) (parsed : Result Path Refusal) (called : Called) → ((p : Path) → is_kept_visible (call p) ≡ true) → ((p : Path) → answer_to (call p) ≡ says.Nothing) → plainly.on parsed call ≡ Ok called
      → (mid : Machine) (said : Result Said Refusal) → Asks size called m said mid → shown_by nothing_in done said ≡ answered told said
  nothing_on call (Ok p) called some answer is mid said asks = nothing_shown size (call p) m mid (some p) (answer p) said (subst (λ c. Asks size c m said mid) (sym (call_is is)) asks)
  nothing_on call (Err refusal) called some answer is mid said asks = absurd (cc)

  path_on : (parsed : Result Path Refusal) (called : Called) → plainly.on parsed calls.Undelete ≡ Ok called → (mid : Machine) (said : Result Said Refusal) → Asks size called m said mid → shown_by path_in answers.Path said ≡ answered told said
  path_on (Ok p) called is mid said asks = path_shown size (calls.Undelete p) m mid refl (unhide_target p (old_name p)) refl said (subst (λ c. Asks size c m said mid) (sym (call_is is)) asks)
  path_on (Err refusal) called is mid said asks = absurd (cc)

  hidden_on : (recursive : Bool) (parsed : Result Path Refusal) (called : Called) → plainly.on parsed (λ path. calls.Delete path recursive) ≡ Ok called → (mid : Machine) (said : Result Said Refusal) → Asks size called m said mid → shown_by deleted_in hidden said ≡ answered told said
  hidden_on recursive (Ok p) called is mid said asks = deleted_shown size p recursive m mid said (subst (λ c. Asks size c m said mid) (sym (call_is is)) asks)
  hidden_on recursive (Err refusal) called is mid said asks = absurd (cc)

  rename_is : (from to : Result Path Refusal) (called : Called) → plainly.on_two from to calls.Rename ≡ Ok called → is_change called ≡ true
  rename_is (Ok source) to called is = is_change_on (calls.Rename source) to called (λ p. refl) is
  rename_is (Err refusal) to called is = absurd (cc)

  nothing_on_two : (from to : Result Path Refusal) (called : Called) → plainly.on_two from to calls.Rename ≡ Ok called → (mid : Machine) (said : Result Said Refusal) → Asks size called m said mid → shown_by nothing_in done said ≡ answered told said
  nothing_on_two (Ok source) to called is mid said asks = nothing_on (calls.Rename source) to called (λ p. refl) (λ p. refl) is mid said asks
  nothing_on_two (Err refusal) to called is mid said asks = absurd (cc)

  request_goes : (line : List ℕ) (request : Request) (answer : Result Answer Refusal) (text : List ℕ) → line_request line ≡ Some request → is_change_line (Some request) ≡ true → IsSure text → IsText answer text → Comes seen failures request old answer new → Goes request text
  unfolding Comes
  request_goes line (lines.Mkdir p) answer text read is sure text_is comes =
      let asks = line_asks old.caller.client.chunk line (lines.Mkdir p) (on (parse p) trees.mkdirs_call done) read refl in
      goes_on (lines.Mkdir p) (plainly.on (parse p) calls.Mkdirs) answer text refl text_is
      (explained text sure (shown_by nothing_in done) (λ refusal. refl) answer (said_so answer text sure text_is) (plainly.on (parse p) calls.Mkdirs) (λ call some. may_ask (Carries_at seen failures) nothing_in done (parse p) calls.Mkdirs call asks some)
      (λ call some. is_change_on calls.Mkdirs (parse p) call (λ path. refl) some) (λ call some. nothing_on calls.Mkdirs (parse p) call (λ path. refl) (λ path. refl) some)
      (on_goes (Carries_at seen failures) nothing_in done (parse p) calls.Mkdirs (at old) (at new) answer comes))
  request_goes line (lines.Create p) answer text read is sure text_is comes =
      let asks = line_asks old.caller.client.chunk line (lines.Create p) (on (parse p) trees.create_call done) read refl in
      goes_on (lines.Create p) (plainly.on (parse p) calls.Create) answer text refl text_is
      (explained text sure (shown_by nothing_in done) (λ refusal. refl) answer (said_so answer text sure text_is) (plainly.on (parse p) calls.Create) (λ call some. may_ask (Carries_at seen failures) nothing_in done (parse p) calls.Create call asks some)
      (λ call some. is_change_on calls.Create (parse p) call (λ path. refl) some) (λ call some. nothing_on calls.Create (parse p) call (λ path. refl) (λ path. refl) some)
      (on_goes (Carries_at seen failures) nothing_in done (parse p) calls.Create (at old) (at new) answer comes))
  request_goes line (lines.Mv p q) answer text read is sure text_is comes =
      let asks = line_asks old.caller.client.chunk line (lines.Mv p q) (on_two (parse p) (parse q) trees.rename_call) read refl in
      goes_on (lines.Mv p q) (plainly.on_two (parse p) (parse q) calls.Rename) answer text refl text_is
      (explained text sure (shown_by nothing_in done) (λ refusal. refl) answer (said_so answer text sure text_is) (plainly.on_two (parse p) (parse q) calls.Rename) (λ call some. may_rename (Carries_at seen failures) (parse p) (parse q) call asks some)
      (λ call some. rename_is (parse p) (parse q) call some) (λ call some. nothing_on_two (parse p) (parse q) call some)
      (two_go (Carries_at seen failures) (parse p) (parse q) (at old) (at new) answer comes))
  request_goes line (lines.Rm p recursive) answer text read is sure text_is comes =
      let call : Path → Called = λ path. calls.Delete path recursive in
      let asks = line_asks old.caller.client.chunk line (lines.Rm p recursive) (on (parse p) (λ path. trees.delete_call path recursive) hidden) read refl in
      goes_on (lines.Rm p recursive) (plainly.on (parse p) call) answer text refl text_is
      (explained text sure (shown_by deleted_in hidden) (λ refusal. refl) answer (said_so answer text sure text_is) (plainly.on (parse p) call) (λ asked some. may_ask (Carries_at seen failures) deleted_in hidden (parse p) call asked asks some)
      (λ asked some. is_change_on call (parse p) asked (λ path. refl) some) (λ asked some. hidden_on recursive (parse p) asked some)
      (on_goes (Carries_at seen failures) deleted_in hidden (parse p) call (at old) (at new) answer comes))
  request_goes line (lines.Undelete p) answer text read is sure text_is comes =
      let asks = line_asks old.caller.client.chunk line (lines.Undelete p) (on (parse_hidden p) trees.undelete_call answers.Path) read refl in
      goes_on (lines.Undelete p) (plainly.on (parse_hidden p) calls.Undelete) answer text refl text_is
      (explained text sure (shown_by path_in answers.Path) (λ refusal. refl) answer (said_so answer text sure text_is) (plainly.on (parse_hidden p) calls.Undelete) (λ call some. may_ask (Carries_at seen failures) path_in answers.Path (parse_hidden p) calls.Undelete call asks some)
      (λ call some. is_change_on calls.Undelete (parse_hidden p) call (λ path. refl) some) (λ call some. path_on (parse_hidden p) call some)
      (on_goes (Carries_at seen failures) path_in answers.Path (parse_hidden p) calls.Undelete (at old) (at new) answer comes))
  request_goes line request answer text read is sure text_is comes = absurd (false≢true is)

  -- ---- with its end

  abbrev LineGoes : List ℕ → List ℕ → Type 0
  LineGoes whole text = (next : Machine) × AnswersLine (Explains size block) m whole text next × Stands seen config new next

  by_request : (line text : List ℕ) (o : Option Request) → line_request line ≡ o → is_change_line o ≡ true → IsSure text
      → MatchOption o (IsText (Err refusals.BadLine) text × (new ≡ old)) (λ request. (answer : Result Answer Refusal) × Comes seen failures request old answer new × IsText answer text)
      → (next : Machine) × MatchOption o (IsText (Err refusals.BadLine) text × (next ≡ m)) (λ request. (answer : Result Answer Refusal) × Leads size block request m answer next × IsText answer text) × Stands seen config new next
  by_request line text None read is sure given = absurd (false≢true is)
  by_request line text (Some request) read is sure (answer, comes, text_is) = (let g = request_goes line request answer text read is sure text_is comes in (g.next, (g.answer, g.leads, g.is), g.stands))

  short_line : (line text : List ℕ) → is_change_line (line_request line) ≡ true → IsSure text → AnswersText seen failures old line text new → (next : Machine) × Explains size block m line text next × Stands seen config new next
  unfolding AnswersText
  short_line line text is sure (inl none) = absurd (sure.told none.0)
  short_line line text is sure (inr came) = by_request line text (line_request line) refl is sure came

  whole_line : (line text : List ℕ) (short : Bool) → is_change_line (if short then line_request line else None) ≡ true → IsSure text → AnswersIfShort (AnswersText seen failures) short old line text new → (next : Machine) × AnswersIfShort (Explains size block) short m line text next × Stands seen config new next
  whole_line line text true is sure a = short_line line text is sure a
  whole_line line text false is sure a = absurd (false≢true is)

  pub change_line_goes : (whole text : List ℕ) → is_change_line (asked_in whole) ≡ true → IsSure text → AnswersLine (AnswersText seen failures) old whole text new → LineGoes whole text
  change_line_goes whole text is sure (inl none) = absurd (sure.told none.0)
  change_line_goes whole text is sure (inr a) = (let found = whole_line (content whole) text (nat_le (length (content whole)) longest_line) is sure a in (found.0, inr found.1, found.2))

  calm_line_goes : (whole text : List ℕ) → IsCalmLine whole text → AnswersLine (AnswersText seen failures) old whole text new → LineGoes whole text
  calm_line_goes whole text (inl still) a = line_goes seen failures config size block old new m st whole text still a
  calm_line_goes whole text (inr (inl change)) a = change_line_goes whole text change.0 change.1 a
  calm_line_goes whole text (inr (inr (inl none))) a = no_path_goes seen failures config size block old new m st whole text none a
  calm_line_goes whole text (inr (inr (inr look))) a = look_line_goes seen failures config size block old new m st whole text look.0 look.1 a

-- ---- many of them

module _ {D : Type 0} (seen : D → List ℕ) (failures : D → ℕ) where
  pub calm_lines_go : (config : Config) (size block : ℕ) (all texts : List (List ℕ)) (old new : Desk D) (m : Machine) → Stands seen config old m → AreCalmLines all texts → Runs (AnswersText seen failures) old all texts new → (end : Machine) × Runs (Explains size block) m all texts end × Stands seen config new end
  calm_lines_go config size block [] [] old new m st are same = (m, refl, subst (λ d. Stands seen config d m) (sym same) st)
  calm_lines_go config size block (whole ∷ all) (text ∷ texts) old new m st are (mid, one, rest) =
      let first = calm_line_goes seen failures config size block old mid m st whole text are.0 one in let more = calm_lines_go config size block all texts mid new first.0 first.2 are.1 rest in (more.0, (first.0, first.1, more.1), more.2)
  calm_lines_go config size block [] (text ∷ texts) old new m st are never = absurd never
  calm_lines_go config size block (whole ∷ all) [] old new m st are never = absurd never

pub calm_lines_are_explained : {D : Type 0} → CalmLinesAreExplained D
calm_lines_are_explained seen failures config size block old new all texts m st are runs = calm_lines_go seen failures config size block all texts old new m st are runs
