-- What lines list behind a prepare, and behind its rollback.
use Rattle.std.proofs.Common.{◌≡◌, ◌∙◌, ◌⊎◌, inl, inr, ◌++◌, ◌+◌, ◌-◌, ◌==◌, ◌<◌, ℕ, zero, suc, Bool, true, false, List, [], ◌∷◌, Some, None, Result, Ok, length, nat_le, refl, sym, ap, subst, arith, slice_get, if◌then◌else◌}
use Rattle.std.specs.List.{AllByRecursion}
use Rattle.std.proofs.lemmas.Bool.{false≢true}
use Rattle.std.proofs.lemmas.Bool.Decides.{nat_tests}
use Rattle.gs_base.specs.Told.{IsNumber}
use Rattle.gs_base.specs.declared.config.Config.{Config}
use Rattle.gs_base.specs.declared.numbers.ClientId.{ClientId}
use Rattle.gs_base.specs.declared.numbers.Moment.{Moment}
use Rattle.gs_base.specs.declared.refusal.Refusal.{Refusal}
use Rattle.gs_client.specs.Nodes.{Node}
use Rattle.gs_client.specs.Sends.{Sends as Asks, last_number, next_request}
use Rattle.gs_client.specs.declared.client.Client.{Client}
use Rattle.gs_client.specs.declared.link.Reply.{Reply}
use Rattle.gs_client.specs.declared.link.Reply.TheVariants as replies
use Rattle.gs_msg.specs.declared.answer.Answer.{Answer}
use Rattle.gs_msg.specs.declared.answer.Answer.TheVariants as said
use Rattle.gs_msg.specs.declared.call.Call.{Call}
use Rattle.gs_msg.specs.declared.call.Call.TheVariants as calls
use Rattle.gs_msg.specs.declared.event.Request.{Request}
use Rattle.gs_msg.specs.declared.event.Request.TheVariants as requests
use Rattle.gs_msg.specs.declared.lists.ListedName.{ListedName}
use Rattle.gs_nodes.specs.Happenings.{client_in}
use Rattle.gs_nodes.specs.Nodes.{Nodes}
use Rattle.gs_path.specs.Path.{Path}
use Rattle.gs_shell_calls.specs.declared.answer.Answer.TheVariants as answers
use Rattle.gs_shell_desk.specs.Answering.{AnswersText}
use Rattle.gs_shell_desk.specs.Lines.{Comes, carried}
use Rattle.gs_shell_desk.specs.Ways.{way_of}
use Rattle.gs_shell_desk.specs.declared.desk.Desk.{Desk}
use Rattle.gs_shell_desk.specs.declared.wire.Wire.{Wire}
use Rattle.gs_shell_grammar.specs.Grammar.{Request as LineRequest}
use Rattle.gs_shell_grammar.specs.Grammar as lines
use Rattle.gs_shell_grammar.specs.declared.command.Upgrade.TheVariants as upgrades
use Rattle.gs_shell_grammar.specs.declared.command.UpgradeStep.TheVariants as steps
use Rattle.gs_shell_line.specs.Line.{content, longest_line}
use Rattle.gs_shell_script.specs.Run as script
use Rattle.gs_world.proofs.Staying.{run_same}
use Rattle.gs_world.specs.Histories.{History}
use Rattle.gs_world.specs.Runs.{RunsTo, Step, Takes}
use Rattle.gs_world.specs.Sent.{Sent}
use Rattle.gs_laws_chunks.specs.answers.Behind.{HasAnswer, asks_call}
use Rattle.gs_laws_looks.proofs.lemmas.carrying.Carried.{calls_are_carried}
use Rattle.gs_laws_looks.specs.carrying.Carried.{IsCarried}
use Rattle.gs_laws_chunks.proofs.lemmas.desks.Lines.{line_leads}
use Rattle.gs_laws_chunks.proofs.lemmas.desks.Ways.{Leads, carries, chain, joined, nothing}
use Rattle.gs_laws_chunks.proofs.lemmas.desks.When.{StepsSo}
use Rattle.gs_laws_world.specs.steady.Asking.{MayBeAsked, MayBeCalled}
use Rattle.gs_laws_chunks.specs.desks.Reached.{Covers, history}
use Rattle.gs_laws_world.specs.steady.Unarmed.{unarmed}
use Rattle.gs_laws_world.specs.steady.Saying.{IsStepWithin}
use Rattle.gs_laws_chunks.specs.desks.Within.{IsReachedWithin}
use Rattle.gs_laws_looks.specs.lists.Listed.{EpochsAreNumbers, ListsComeBack, ListsTwice}
use Rattle.gs_laws_scripts.proofs.lemmas.lists.Dialogues.{BeginsAndCommits, Lists, list_asks, prepare_asks, prepare_commit_asks, rollback_asks, rollback_commit_asks}
use Rattle.gs_laws_scripts.specs.lists.Lines.{ListTheSame, ListTwice, commits_prepare, commits_rollback}

-- a number below the last is one of 64 bits, and so is the next
pub next_small : (number : ℕ) → number < last_number → IsNumber (number + 1)
next_small number below = omega arith

pub all_join : {A : Type 0} (S : A → Type 0) (xs ys : List A) → AllByRecursion S xs → AllByRecursion S ys → AllByRecursion S (xs ++ ys)
all_join S [] ys first second = second
all_join S (x ∷ xs) ys first second = (first.0, all_join S xs ys first.1 second)

abbrev pub the_client : ClientId
the_client = record { 0 = 1 }

-- there is one client, of this number
pub only_one : (clients : List Node) → length clients ≡ 1 → (other : ClientId) (n : Node) → client_in clients other ≡ Some n → other ≡ the_client
only_one clients one other n there = (let is = by_test (other.0 == 0) refl there in (λ i. record { 0 = is i }))
  where
    in_one : (xs : List Node) (k : ℕ) → length xs ≡ 1 → slice_get xs k ≡ Some n → k ≡ 0
    in_one [] k one is = absurd cc
    in_one (x ∷ xs) zero one is = refl
    in_one (x ∷ []) (suc k) one is = absurd cc
    in_one (x ∷ y ∷ xs) (suc k) one is = absurd (omega arith)

    number : (m : ℕ) → (m == 0) ≡ false → m - 1 ≡ 0 → m ≡ 1
    number m some is = grind (arith, nat_tests)

    by_test : (b : Bool) → (other.0 == 0) ≡ b → (if b then None else slice_get clients (other.0 - 1)) ≡ Some n → other.0 ≡ 1
    by_test true is there = absurd cc
    by_test false is there = number other.0 is (in_one clients (other.0 - 1) one there)

module _ {D : Type 0} (seen : D → List ℕ) (failures : D → ℕ) where
  abbrev pub Carries_at : Client × Wire D → Request → Reply → Client × Wire D → Type 0
  Carries_at old request reply new = Asks (carried seen failures) old request reply new

  -- a request that is carried leads on, whatever is replied
  pub leads_on : (old new : Client × Wire D) (request : Request) (reply : Reply) → MayBeAsked request → Carries_at old request reply new → Leads seen failures true (way_of old.1) (way_of new.1)
  leads_on old new request reply may (inl (below, is, c)) = carries seen failures true (next_request old.0) request (way_of old.1) reply (way_of new.1) (next_small old.0.last.number below, may) c
  leads_on old new request reply may (inr (last, is, same)) = nothing seen failures true (way_of old.1) (way_of new.1) (ap (λ (s : Client × Wire D). way_of s.1) same)

  -- a call that is answered is carried
  pub answered_on : (sent : Sent) (old new : Client × Wire D) (call : Call) (answer : Answer) → Covers sent (way_of old.1) → IsNumber old.1.moment.0 → MayBeAsked (requests.Call call) → Carries_at old (requests.Call call) (replies.Answer answer) new
      → IsCarried seen failures (next_request old.0).client (way_of old.1) sent call answer (way_of new.1)
  answered_on sent old new call answer covers small may (inl (below, is, c)) = calls_are_carried seen failures sent (way_of old.1) (way_of new.1) (next_request old.0) call answer covers small (next_small old.0.last.number below, may) c
  answered_on sent old new call answer covers small may (inr (last, is, same)) = absurd cc

  -- ---- lines between

  whole_leads : (b : Bool) (old new : Desk D) (line text : List ℕ) → script.AnswersIfShort (AnswersText seen failures) b old line text new → Leads seen failures true (way_of old.wire) (way_of new.wire)
  whole_leads true old new line text a = line_leads seen failures true old line text new a
  whole_leads false old new line text (is, same) = nothing seen failures true (way_of old.wire) (way_of new.wire) (ap (λ (d : Desk D). way_of d.wire) same)

  one_leads : (old new : Desk D) (line text : List ℕ) → script.AnswersLine (AnswersText seen failures) old line text new → Leads seen failures true (way_of old.wire) (way_of new.wire)
  one_leads old new line text (inl (is, same)) = nothing seen failures true (way_of old.wire) (way_of new.wire) (ap (λ (d : Desk D). way_of d.wire) same)
  one_leads old new line text (inr a) = whole_leads (nat_le (length (content line)) longest_line) old new (content line) text a

  pub lines_lead : (input texts : List (List ℕ)) (old new : Desk D) → script.Runs (AnswersText seen failures) old input texts new → Leads seen failures true (way_of old.wire) (way_of new.wire)
  lines_lead [] [] old new same = nothing seen failures true (way_of old.wire) (way_of new.wire) (ap (λ (d : Desk D). way_of d.wire) same)
  lines_lead (line ∷ input) (text ∷ texts) old new (mid, first, rest) = chain seen failures true (way_of old.wire) (way_of mid.wire) (way_of new.wire) (one_leads old mid line text first) (lines_lead input texts mid new rest)
  lines_lead [] (text ∷ texts) old new never = absurd never
  lines_lead (line ∷ input) [] old new never = absurd never

  -- ---- dialogues

  abbrev at : Desk D → Client × Wire D
  at d = (d.caller.client, d.wire)

  pub prepares_asks : (by : LineRequest) → commits_prepare by ≡ true → (old new : Desk D) (epoch : ℕ) → Comes seen failures by old (Ok (answers.Number epoch)) new → BeginsAndCommits Carries_at (requests.Call calls.PrepareBegin) (requests.Call calls.PrepareCommit) (at old) epoch (at new)
  unfolding Comes
  prepares_asks (lines.RollingUpgrade upgrades.Prepare) is old new epoch c = prepare_asks Carries_at (at old) (at new) epoch c
  prepares_asks (lines.Step steps.PrepareCommit) is old new epoch c = prepare_commit_asks Carries_at (at old) (at new) epoch c
  prepares_asks by is old new epoch c = absurd (false≢true is)

  pub rolls_asks : (by : LineRequest) → commits_rollback by ≡ true → (old new : Desk D) (epoch : ℕ) → Comes seen failures by old (Ok (answers.Number epoch)) new → BeginsAndCommits Carries_at (requests.Call calls.RollbackBegin) (requests.Call calls.RollbackCommit) (at old) epoch (at new)
  unfolding Comes
  rolls_asks (lines.RollingUpgrade upgrades.Rollback) is old new epoch c = rollback_asks Carries_at (at old) (at new) epoch c
  rolls_asks (lines.Step steps.RollbackCommit) is old new epoch c = rollback_commit_asks Carries_at (at old) (at new) epoch c
  rolls_asks by is old new epoch c = absurd (false≢true is)

  -- what is begun before a commit, if something is, leads on
  pub begun_leads : (old mid : Client × Wire D) (begin : Request) → MayBeAsked begin → ((reply : Reply) × Carries_at old begin reply mid) ⊎ (mid ≡ old) → Leads seen failures true (way_of old.1) (way_of mid.1)
  begun_leads old mid begin may (inl (reply, c)) = leads_on old mid begin reply may c
  begun_leads old mid begin may (inr same) = nothing seen failures true (way_of old.1) (way_of mid.1) (ap (λ (s : Client × Wire D). way_of s.1) same)

  lists_asks : (path : List ℕ) (old new : Desk D) (names : List ListedName) → Comes seen failures (lines.Ls path) old (Ok (answers.Names names)) new → Lists Carries_at path (at old) names (at new)
  unfolding Comes
  lists_asks path old new names c = list_asks Carries_at path (at old) (at new) names c

  may_call : (call : Call) → MayBeCalled call → MayBeAsked (requests.Call call)
  may_call call may = may

  module _ (config : Config) (disks : D × D) (path : List ℕ) (epoch next : ℕ) (had has : List ListedName) (l : ListTwice seen failures config disks path epoch next had has) where
    r : IsReachedWithin seen failures config disks l.begun
    r = l.reached

    one : BeginsAndCommits Carries_at (requests.Call calls.PrepareBegin) (requests.Call calls.PrepareCommit) (at l.begun) epoch (at l.prepared)
    one = prepares_asks l.prepare_by l.is_prepare l.begun l.prepared epoch l.prepares

    first : StepsSo seen failures true (way_of l.begun.wire) (way_of one.mid.1) r.sent
    first = begun_leads (at l.begun) one.mid (requests.Call calls.PrepareBegin) (record { named = tt; met = λ names. tt }) one.begins r.sent r.covers r.moment

    prepared : IsCarried seen failures (next_request one.mid.0).client (way_of one.mid.1) first.after calls.PrepareCommit (said.Epoch epoch) (way_of l.prepared.wire)
    prepared = answered_on first.after one.mid (at l.prepared) calls.PrepareCommit (said.Epoch epoch) first.covers first.moment (record { named = tt; met = λ names. tt }) one.commits

    small_one : IsNumber l.prepared.wire.moment.0
    small_one = subst (λ (m : Moment). IsNumber m.0) (sym prepared.moment) first.moment

    list_one : Lists Carries_at path (at l.prepared) had (at l.listed)
    list_one = lists_asks path l.prepared l.listed had l.lists

    listed : IsCarried seen failures (next_request l.prepared.caller.client).client (way_of l.prepared.wire) prepared.after (calls.List list_one.path) (said.Names had) (way_of l.listed.wire)
    listed = answered_on prepared.after (at l.prepared) (at l.listed) (calls.List list_one.path) (said.Names had) prepared.covers small_one (record { named = tt; met = λ names. tt }) list_one.asks

    small_two : IsNumber l.listed.wire.moment.0
    small_two = subst (λ (m : Moment). IsNumber m.0) (sym listed.moment) small_one

    lines_on : StepsSo seen failures true (way_of l.listed.wire) (way_of l.later.wire) listed.after
    lines_on = lines_lead l.between l.texts l.listed l.later l.passes listed.after listed.covers small_two

    two : BeginsAndCommits Carries_at (requests.Call calls.RollbackBegin) (requests.Call calls.RollbackCommit) (at l.later) next (at l.back)
    two = rolls_asks l.roll_by l.is_rollback l.later l.back next l.rolls

    second : StepsSo seen failures true (way_of l.later.wire) (way_of two.mid.1) lines_on.after
    second = begun_leads (at l.later) two.mid (requests.Call calls.RollbackBegin) (record { named = tt; met = λ names. tt }) two.begins lines_on.after lines_on.covers lines_on.moment

    back : IsCarried seen failures (next_request two.mid.0).client (way_of two.mid.1) second.after calls.RollbackCommit (said.Epoch next) (way_of l.back.wire)
    back = answered_on second.after two.mid (at l.back) calls.RollbackCommit (said.Epoch next) second.covers second.moment (record { named = tt; met = λ names. tt }) two.commits

    small_three : IsNumber l.back.wire.moment.0
    small_three = subst (λ (m : Moment). IsNumber m.0) (sym back.moment) second.moment

    list_two : Lists Carries_at path (at l.back) has (at l.last)
    list_two = lists_asks path l.back l.last has l.again

    again : IsCarried seen failures (next_request l.back.caller.client).client (way_of l.back.wire) back.after (calls.List list_two.path) (said.Names has) (way_of l.last.wire)
    again = answered_on back.after (at l.back) (at l.last) (calls.List list_two.path) (said.Names has) back.covers small_three (record { named = tt; met = λ names. tt }) list_two.asks

    same_path : list_two.path ≡ list_one.path
    same_path = path_is (sym list_two.parsed ∙ list_one.parsed)
      where
        path_is : {a b : Path} → ◌≡◌ {A = Result Path Refusal} (Ok a) (Ok b) → a ≡ b
        path_is is = cc

    -- ---- there is one client

    abbrev start : History D
    start = r.reached.begun

    one_there : length start.nodes.clients ≡ 1
    one_there = ap (λ (n : Nodes D). length n.clients) r.reached.begins.nodes

    -- behind any run from the beginning
    only_at : (steps : List Step) (world : History D) → RunsTo seen failures unarmed steps start world → (other : ClientId) (n : Node) → client_in world.nodes.clients other ≡ Some n → other ≡ the_client
    only_at steps world runs other n there = only_one world.nodes.clients ((run_same seen failures unarmed steps start world runs).clients ∙ one_there) other n there

    join : (xs ys : List Step) (a b c : History D) → RunsTo seen failures unarmed xs a b → RunsTo seen failures unarmed ys b c → RunsTo seen failures unarmed (xs ++ ys) a c
    join xs ys a b c first second = joined seen failures true xs ys a b c first second

    abbrev ask_steps : {client : ClientId} {old : History D} {call : Call} {answer : Answer} {new : History D} → HasAnswer seen failures unarmed client old call answer new → List Step
    ask_steps {client} {old} {call} h = asks_call h.moment h.req call ∷ h.steps

    ask_runs : (client : ClientId) (old : History D) (call : Call) (answer : Answer) (new : History D) (h : HasAnswer seen failures unarmed client old call answer new) → RunsTo seen failures unarmed (asks_call h.moment h.req call ∷ h.steps) old new
    ask_runs client old call answer new h = (h.asked, (Ok tt, h.asks.happens), h.runs)

    abbrev S1 : List Step
    S1 = r.reached.steps ++ first.steps

    to_old : RunsTo seen failures unarmed S1 start (history first.after (way_of one.mid.1))
    to_old = join r.reached.steps first.steps start (history r.sent (way_of l.begun.wire)) (history first.after (way_of one.mid.1)) r.reached.runs first.runs

    abbrev S2 : List Step
    S2 = S1 ++ (asks_call prepared.has.moment prepared.has.req calls.PrepareCommit ∷ prepared.has.steps)

    to_prepared : RunsTo seen failures unarmed S2 start prepared.mid
    to_prepared = join S1 (asks_call prepared.has.moment prepared.has.req calls.PrepareCommit ∷ prepared.has.steps) start (history first.after (way_of one.mid.1)) prepared.mid to_old (ask_runs (next_request one.mid.0).client (history first.after (way_of one.mid.1)) calls.PrepareCommit (said.Epoch epoch) prepared.mid prepared.has)

    abbrev S3 : List Step
    S3 = S2 ++ (Takes (next_request one.mid.0).client ∷ [])

    to_ready : RunsTo seen failures unarmed S3 start (history prepared.after (way_of l.prepared.wire))
    to_ready = join S2 (Takes (next_request one.mid.0).client ∷ []) start prepared.mid (history prepared.after (way_of l.prepared.wire)) to_prepared prepared.takes

    abbrev S4 : List Step
    S4 = S3 ++ (asks_call listed.has.moment listed.has.req (calls.List list_one.path) ∷ listed.has.steps)

    to_listed : RunsTo seen failures unarmed S4 start listed.mid
    to_listed = join S3 (asks_call listed.has.moment listed.has.req (calls.List list_one.path) ∷ listed.has.steps) start (history prepared.after (way_of l.prepared.wire)) listed.mid to_ready
        (ask_runs (next_request l.prepared.caller.client).client (history prepared.after (way_of l.prepared.wire)) (calls.List list_one.path) (said.Names had) listed.mid listed.has)

    abbrev B : List Step
    B = (Takes (next_request l.prepared.caller.client).client ∷ []) ++ (lines_on.steps ++ second.steps)

    passes : RunsTo seen failures unarmed B listed.mid (history second.after (way_of two.mid.1))
    passes = join (Takes (next_request l.prepared.caller.client).client ∷ []) (lines_on.steps ++ second.steps) listed.mid (history listed.after (way_of l.listed.wire)) (history second.after (way_of two.mid.1)) listed.takes
        (join lines_on.steps second.steps (history listed.after (way_of l.listed.wire)) (history lines_on.after (way_of l.later.wire)) (history second.after (way_of two.mid.1)) lines_on.runs second.runs)

    abbrev S5 : List Step
    S5 = S4 ++ B

    to_later : RunsTo seen failures unarmed S5 start (history second.after (way_of two.mid.1))
    to_later = join S4 B start listed.mid (history second.after (way_of two.mid.1)) to_listed passes

    abbrev S6 : List Step
    S6 = S5 ++ (asks_call back.has.moment back.has.req calls.RollbackCommit ∷ back.has.steps)

    to_back : RunsTo seen failures unarmed S6 start back.mid
    to_back = join S5 (asks_call back.has.moment back.has.req calls.RollbackCommit ∷ back.has.steps) start (history second.after (way_of two.mid.1)) back.mid to_later
        (ask_runs (next_request two.mid.0).client (history second.after (way_of two.mid.1)) calls.RollbackCommit (said.Epoch next) back.mid back.has)

    abbrev S7 : List Step
    S7 = S6 ++ (Takes (next_request two.mid.0).client ∷ [])

    to_again : RunsTo seen failures unarmed S7 start (history back.after (way_of l.back.wire))
    to_again = join S6 (Takes (next_request two.mid.0).client ∷ []) start back.mid (history back.after (way_of l.back.wire)) to_back back.takes

    abbrev S8 : List Step
    S8 = S7 ++ (asks_call again.has.moment again.has.req (calls.List list_two.path) ∷ again.has.steps)

    to_last : RunsTo seen failures unarmed S8 start again.mid
    to_last = join S7 (asks_call again.has.moment again.has.req (calls.List list_two.path) ∷ again.has.steps) start (history back.after (way_of l.back.wire)) again.mid to_again
        (ask_runs (next_request l.back.caller.client).client (history back.after (way_of l.back.wire)) (calls.List list_two.path) (said.Names has) again.mid again.has)

    its : (client : ClientId) (old : History D) (call : Call) (answer : Answer) (new : History D) (h : HasAnswer seen failures unarmed client old call answer new) (steps : List Step) → RunsTo seen failures unarmed steps start new → HasAnswer seen failures unarmed the_client old call answer new
    its client old call answer new h steps runs = subst (λ k. HasAnswer seen failures unarmed k old call answer new) (only_at steps new runs client h.node h.there) h

    prepare_has : HasAnswer seen failures unarmed the_client (history first.after (way_of one.mid.1)) calls.PrepareCommit (said.Epoch epoch) prepared.mid
    prepare_has = its (next_request one.mid.0).client (history first.after (way_of one.mid.1)) calls.PrepareCommit (said.Epoch epoch) prepared.mid prepared.has S2 to_prepared

    rollback_has : HasAnswer seen failures unarmed the_client (history second.after (way_of two.mid.1)) calls.RollbackCommit (said.Epoch next) back.mid
    rollback_has = its (next_request two.mid.0).client (history second.after (way_of two.mid.1)) calls.RollbackCommit (said.Epoch next) back.mid back.has S6 to_back

    within_one : AllByRecursion IsStepWithin S1
    within_one = all_join IsStepWithin r.reached.steps first.steps r.within first.within

    within_B : AllByRecursion IsStepWithin B
    within_B = (tt, all_join IsStepWithin lines_on.steps second.steps lines_on.within second.within)

    within_five : AllByRecursion IsStepWithin S5
    within_five =
        all_join IsStepWithin S4 B
        (all_join IsStepWithin S3 (asks_call listed.has.moment listed.has.req (calls.List list_one.path) ∷ listed.has.steps)
        (all_join IsStepWithin S2 (Takes (next_request one.mid.0).client ∷ []) (all_join IsStepWithin S1 (asks_call prepared.has.moment prepared.has.req calls.PrepareCommit ∷ prepared.has.steps) within_one prepared.has.within) (tt, tt)) listed.has.within) within_B

    next_is : EpochsAreNumbers seen failures config 1 disks → next ≡ epoch + 1
    next_is numbers =
        l.follows (numbers the_client calls.PrepareCommit epoch l.new (omega arith) start (history first.after (way_of one.mid.1)) prepared.mid S1 r.reached.begins to_old within_one refl prepare_has)
        (numbers the_client calls.RollbackCommit next l.new (omega arith) start (history second.after (way_of two.mid.1)) back.mid S5 r.reached.begins to_later within_five refl rollback_has)

    twice : EpochsAreNumbers seen failures config 1 disks → ListsTwice seen failures config 1 disks the_client list_one.path epoch (said.Names had) (said.Names has)
    twice numbers = record {
      new = l.new;
      few = omega arith;
      begun = start;
      begins = r.reached.begins;
      first = S1;
      old = history first.after (way_of one.mid.1);
      runs = to_old;
      within = within_one;
      prepared = prepared.mid;
      prepares = prepare_has;
      only = only_at S2 prepared.mid to_prepared;
      way = record { steps = Takes (next_request one.mid.0).client ∷ []; end = history prepared.after (way_of l.prepared.wire); runs = prepared.takes; within = (tt, tt); looking = ((refl, tt), tt) };
      listed = listed.mid;
      lists = its (next_request l.prepared.caller.client).client (history prepared.after (way_of l.prepared.wire)) (calls.List list_one.path) (said.Names had) listed.mid listed.has S4 to_listed;
      between = B;
      later = history second.after (way_of two.mid.1);
      passes = passes;
      within_between = within_B;
      back = back.mid;
      commits = subst (λ k. HasAnswer seen failures unarmed the_client (history second.after (way_of two.mid.1)) calls.RollbackCommit (said.Epoch k) back.mid) (next_is numbers) rollback_has;
      only_then = only_at S6 back.mid to_back;
      way_then = record { steps = Takes (next_request two.mid.0).client ∷ []; end = history back.after (way_of l.back.wire); runs = back.takes; within = (tt, tt); looking = ((refl, tt), tt) };
      last = again.mid;
      again = subst (λ p. HasAnswer seen failures unarmed the_client (history back.after (way_of l.back.wire)) (calls.List p) (said.Names has) again.mid) same_path
          (its (next_request l.back.caller.client).client (history back.after (way_of l.back.wire)) (calls.List list_two.path) (said.Names has) again.mid again.has S8 to_last);
    }

    names_are : {a b : List ListedName} → said.Names a ≡ said.Names b → a ≡ b
    names_are is = cc

    pub the_same : EpochsAreNumbers seen failures config 1 disks → ListsComeBack seen failures config 1 disks → has ≡ had
    the_same numbers law = names_are (law the_client list_one.path epoch (said.Names had) (said.Names has) (twice numbers))

pub list_the_same : {D : Type 0} → ((seen : D → List ℕ) (failures : D → ℕ) (config : Config) (clients : ℕ) (disks : D × D) → EpochsAreNumbers seen failures config clients disks)
    → ((seen : D → List ℕ) (failures : D → ℕ) (config : Config) (clients : ℕ) (disks : D × D) → ListsComeBack seen failures config clients disks) → (seen : D → List ℕ) (failures : D → ℕ) (config : Config) (disks : D × D) → ListTheSame seen failures config disks
list_the_same numbers law seen failures config disks path epoch next had has l = the_same seen failures config disks path epoch next had has l (numbers seen failures config 1 disks) (law seen failures config 1 disks)
