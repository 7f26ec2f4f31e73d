-- Lines that list names, or are about servers and messages, are explained where the names stand; and they stand after them.
use Rattle.std.proofs.Common.{[], ap, inl, inr, refl, subst, sym, ◌++◌, ◌∷◌, ◌∙◌, ◌≡◌, ◌⊎◌, Bool, Err, List, MatchOption, None, Ok, Option, Result, Some, false, if◌then◌else◌, length, nat_le, true, ℕ}
use Rattle.std.proofs.lemmas.Bool.{false≢true}
use Rattle.gs_base.specs.Told.{IsNumber}
use Rattle.gs_base.specs.declared.config.Config.{Config}
use Rattle.gs_base.specs.declared.refusal.Refusal.{Refusal}
use Rattle.gs_base.specs.declared.refusal.Refusal.TheVariants as refusals
use Rattle.gs_base.specs.declared.numbers.Moment.{Moment}
use Rattle.gs_client.specs.Reading.{stat_call}
use Rattle.gs_client.specs.Replies.{looked, names_in, phase_in}
use Rattle.gs_client.specs.Sends.{next_request}
use Rattle.gs_client.specs.Trees.{and_then, list_call}
use Rattle.gs_client.specs.declared.client.Client.{Client}
use Rattle.gs_client.specs.declared.link.Reply.{Reply}
use Rattle.gs_client.specs.declared.link.Reply.TheVariants as replies
use Rattle.gs_client_dialogue.specs.Dialogues.{FollowsDialogue, Say, onward}
use Rattle.gs_laws_chunks.proofs.lemmas.desks.Ways.{joined}
use Rattle.gs_laws_chunks.proofs.lemmas.desks.Words.{IsSpoken, line_spoken}
use Rattle.gs_laws_chunks.specs.answers.Resting.{IsLooking}
use Rattle.gs_laws_chunks.specs.desks.Reached.{Covers, history}
use Rattle.gs_laws_looks.proofs.lemmas.carrying.Exchanged.{looks_are_carried}
use Rattle.gs_laws_looks.specs.carrying.Exchanged.{IsExchanged, Looks, Went}
use Rattle.gs_laws_moves.specs.answers.AtOnce.{OneSays, is_answered_at_once}
use Rattle.gs_laws_moves.specs.answers.Resting.{is_look}
use Rattle.gs_laws_world.specs.steady.Asking.{MayBeAsked, asks_at}
use Rattle.gs_laws_world.specs.steady.Saying.{IsStepWithin}
use Rattle.std.specs.FinMap as fin
use Rattle.gs_edit.specs.Mapped.{mapped_rows}
use Rattle.gs_edit.specs.View.{NamesView}
use Rattle.gs_master_spec.specs.Calls.{is_any_deep, told_phase}
use Rattle.gs_master_spec.specs.Durable.{is_rolling as is_rolled}
use Rattle.gs_master_spec.specs.Handling.{new_call}
use Rattle.gs_msg.specs.declared.answer.Answer.{Answer as Said}
use Rattle.gs_msg.specs.declared.answer.Answer.TheVariants as says
use Rattle.gs_msg.specs.declared.answer.Phase.{Phase}
use Rattle.gs_msg.specs.declared.answer.Status.TheVariants as statuses
use Rattle.gs_msg.specs.declared.call.Call.{Call}
use Rattle.gs_msg.specs.declared.call.Call.TheVariants as calls
use Rattle.gs_msg.specs.declared.event.Request.{Request as Asked}
use Rattle.gs_msg.specs.declared.event.Request.TheVariants as requests
use Rattle.gs_msg.specs.declared.lists.ListedName.{ListedName}
use Rattle.gs_path.specs.Path.{Path}
use Rattle.gs_path.specs.Rules.{parse_hidden}
use Rattle.gs_shell_calls.specs.Asked.{answered, at_phase, on, upgrade_line}
use Rattle.gs_shell_calls.specs.Texts.{answer_text}
use Rattle.gs_shell_calls.specs.declared.answer.Answer.{Answer}
use Rattle.gs_shell_calls.specs.declared.answer.Answer.TheVariants as answers
use Rattle.gs_shell_desk.specs.Answering.{AnswersText, IsText}
use Rattle.gs_shell_desk.specs.Lines.{Comes, NodesDo}
use Rattle.gs_shell_desk.specs.Ways.{way_of}
use Rattle.gs_shell_desk.specs.declared.desk.Desk.{Desk}
use Rattle.gs_shell_desk.specs.declared.wire.Wire.{Wire}
use Rattle.gs_shell_grammar.specs.Grammar.{Request, line_request}
use Rattle.gs_shell_grammar.specs.Grammar as lines
use Rattle.gs_shell_grammar.specs.declared.command.Restarted.TheVariants as restarted
use Rattle.gs_shell_grammar.specs.declared.command.Upgrade.TheVariants as upgrades
use Rattle.gs_shell_line.specs.Line.{content, longest_line}
use Rattle.gs_shell_script.specs.Run.{AnswersIfShort, AnswersLine, Runs, memory_text}
use Rattle.gs_tree.specs.Entry.{Dir, File}
use Rattle.gs_tree.specs.Find.{at as at_path}
use Rattle.gs_world.specs.Histories.{History}
use Rattle.gs_world.specs.Runs.{Comes as StepComes}
use Rattle.gs_world.specs.Sent.{Sent}
use Rattle.gs_laws_scripts.proofs.lemmas.explained.Asked.{dir_shown, empty_shown, list_shown, query_refused}
use Rattle.gs_laws_scripts.proofs.lemmas.explained.Directories.{directory_goes, directory_leads}
use Rattle.gs_laws_scripts.proofs.lemmas.explained.Empties.{empty_goes, empty_leads}
use Rattle.gs_laws_scripts.proofs.lemmas.explained.Listed.{is_calm, is_listed, is_told, list_is, list_off, listed_names, query_is, query_off, rolls_so, undisturbed_on}
use Rattle.gs_laws_scripts.proofs.lemmas.explained.Passing.{LooksOn, moment_behind, nodes_do}
use Rattle.gs_laws_scripts.proofs.lemmas.explained.Refused.{look_told, read_is_shallow}
use Rattle.gs_laws_scripts.proofs.lemmas.explained.Turns.{IsToldOf}
use Rattle.gs_laws_scripts.proofs.lemmas.lists.Lines.{Carries_at, all_join, next_small}
use Rattle.gs_laws_scripts.proofs.lemmas.reads.Clients.{still_mine}
use Rattle.gs_laws_scripts.specs.answers.Meeting.{IsClientOf}
use Rattle.gs_laws_scripts.specs.explained.Lines.{AsksOne, AsksTree, Explains, IsNoLook, Leads, OnPath, Stats}
use Rattle.gs_laws_scripts.specs.explained.Machine.{Machine, is_rolling}
use Rattle.gs_laws_scripts.specs.explained.Standing.{AreStillLines, IsStillLine, ShowsNames, Stands, StillLinesAreExplained, TellsDirectory, TellsEmpty, is_stat, is_still_line, the_client}
use Rattle.gs_laws_scripts.specs.plain.Machines as plainly

-- ---- a list as a dialogue

module _ {S : Type 0} (carries : S → Asked → Reply → S → Type 0) where
  -- Memory is wanting; or the path is none; or the list is asked, and its reply is told.
  data ListGoes (parsed : Result Path Refusal) (old : S) (result : Result Answer Refusal) (new : S) : Type 0 where
    Short : result ≡ Err refusals.Memory → new ≡ old → ListGoes parsed old result new
    NoPath : (refusal : Refusal) → parsed ≡ Err refusal → result ≡ Err refusal → new ≡ old → ListGoes parsed old result new
    IsAsked : (path : Path) (reply : Reply) → parsed ≡ Ok path → carries old (requests.Call (calls.List path)) reply new → result ≡ answered answers.Names (and_then names_in (looked reply)) → ListGoes parsed old result new

  list_asked : (path : Path) (reply : Reply) (old mid new : S) (result : Result Answer Refusal) (r : Result (List ListedName) Refusal) → and_then names_in (looked reply) ≡ r → carries old (requests.Call (calls.List path)) reply mid
      → FollowsDialogue carries (onward (λ x. Say (Ok (answers.Names x))) r) mid result new → ListGoes (Ok path) old result new
  list_asked path reply old mid new result (Ok names) said carried (is, same) = IsAsked path reply refl (subst (λ s. carries old (requests.Call (calls.List path)) reply s) (sym same) carried) (is ∙ ap (answered answers.Names) (sym said))
  list_asked path reply old mid new result (Err refusal) said carried (is, same) = IsAsked path reply refl (subst (λ s. carries old (requests.Call (calls.List path)) reply s) (sym same) carried) (is ∙ ap (answered answers.Names) (sym said))

  -- the phase is asked, and the reply is told
  record QueryGoes (old : S) (result : Result Answer Refusal) (new : S) : Type 0 where
    reply : Reply
    asks : carries old (requests.Call calls.Query) reply new
    is : result ≡ answered at_phase (and_then phase_in (looked reply))

  query_asked : (reply : Reply) (old mid new : S) (result : Result Answer Refusal) (r : Result (Phase × ℕ) Refusal) → and_then phase_in (looked reply) ≡ r → carries old (requests.Call calls.Query) reply mid
      → FollowsDialogue carries (onward (λ x. Say (Ok (at_phase x))) r) mid result new → QueryGoes old result new
  query_asked reply old mid new result (Ok told) said carried (is, same) = record { reply = reply; asks = subst (λ s. carries old (requests.Call calls.Query) reply s) (sym same) carried; is = is ∙ ap (answered at_phase) (sym said) }
  query_asked reply old mid new result (Err refusal) said carried (is, same) = record { reply = reply; asks = subst (λ s. carries old (requests.Call calls.Query) reply s) (sym same) carried; is = is ∙ ap (answered at_phase) (sym said) }

  query_goes : (old new : S) (result : Result Answer Refusal) → FollowsDialogue carries (upgrade_line upgrades.Query) old result new → QueryGoes old result new
  query_goes old new result (reply, mid, carried, rest) = query_asked reply old mid new result (and_then phase_in (looked reply)) refl carried rest

  list_goes : (parsed : Result Path Refusal) (old new : S) (result : Result Answer Refusal) → FollowsDialogue carries (on parsed list_call answers.Names) old result new → ListGoes parsed old result new
  list_goes (Ok path) old new result (inl (reply, mid, carried, rest)) = list_asked path reply old mid new result (and_then names_in (looked reply)) refl carried rest
  list_goes (Err refusal) old new result (inl (is, same)) = NoPath refusal refl is same
  list_goes parsed old new result (inr (is, same)) = Short is same

-- ---- a list that is carried

module _ {D : Type 0} (seen : D → List ℕ) (failures : D → ℕ) where
  abbrev at : Desk D → Client × Wire D
  at d = (d.caller.client, d.wire)

  went_on : (call : Call) → is_look call ≡ true → (old mid : History D) (reply : Reply) → Went seen failures the_client old (requests.Call call) reply mid → Looks seen failures the_client old mid
  went_on call look old mid (replies.Answer answer) r = record {
    steps = StepComes (asks_at r.moment r.req (requests.Call call)) ∷ r.behind.steps;
    runs = (r.asked, (Ok tt, r.happens), r.behind.runs);
    within = (r.asks, r.behind.within);
    looking = ((refl, (r.own, look)), r.behind.looking);
  }
  went_on call look old mid (replies.Given given) r = record {
    steps = StepComes (asks_at r.moment r.req (requests.Call call)) ∷ r.behind.steps;
    runs = (r.asked, (Ok tt, r.happens), r.behind.runs);
    within = (r.asks, r.behind.within);
    looking = ((refl, (r.own, look)), r.behind.looking);
  }
  went_on call look old mid (replies.Outcome outcome) looks = looks
  went_on call look old mid (replies.Refused refusal) looks = looks
  went_on call look old mid replies.Lost looks = looks

  pub looks_both : (old mid new : History D) → Looks seen failures the_client old mid → Looks seen failures the_client mid new → Looks seen failures the_client old new
  looks_both old mid new first second = record {
    steps = first.steps ++ second.steps;
    runs = joined seen failures true first.steps second.steps old mid new first.runs second.runs;
    within = all_join IsStepWithin first.steps second.steps first.within second.within;
    looking = all_join (IsLooking the_client) first.steps second.steps first.looking second.looking;
  }

  pub none_looked : (old new : History D) → new ≡ old → Looks seen failures the_client old new
  none_looked old new same = record { steps = []; runs = same; within = tt; looking = tt }

  -- the exchange, and what it comes to
  record IsLookCarried (sent : Sent) (old new : Client × Wire D) (call : Call) (reply : Reply) : Type 0 where
    after : Sent
    covers : Covers after (way_of new.1)
    moment : new.1.moment ≡ old.1.moment
    mid : History D
    went : Went seen failures the_client (history sent (way_of old.1)) (requests.Call call) reply mid
    taken : Looks seen failures the_client mid (history after (way_of new.1))

  look_carried : (config : Config) (sent : Sent) (old new : Client × Wire D) (call : Call) (reply : Reply) → is_look call ≡ true → MayBeAsked (requests.Call call) → IsClientOf config old.0 → Covers sent (way_of old.1) → IsNumber old.1.moment.0
      → Carries_at seen failures old (requests.Call call) reply new → IsLookCarried sent old new call reply
  look_carried config sent old new call reply look may ours covers small (inl (below, is, c)) =
      let e : IsExchanged seen failures the_client (way_of old.1) sent (requests.Call call) reply (way_of new.1) =
      subst (λ k. IsExchanged seen failures k (way_of old.1) sent (requests.Call call) reply (way_of new.1)) ours.0
      (looks_are_carried seen failures sent (way_of old.1) (way_of new.1) (next_request old.0) (requests.Call call) reply covers small (next_small old.0.last.number below, may) (refl, (refl, look)) c) in
      record { after = e.after; covers = e.covers; moment = e.moment; mid = e.mid; went = e.went; taken = e.taken }
  look_carried config sent old new call reply look may ours covers small (inr (last, is, same)) = record {
    after = sent;
    covers = subst (λ (s : Client × Wire D). Covers sent (way_of s.1)) (sym same) covers;
    moment = ap (λ (s : Client × Wire D). s.1.moment) same;
    mid = history sent (way_of old.1);
    went = subst (λ r. Went seen failures the_client (history sent (way_of old.1)) (requests.Call call) r (history sent (way_of old.1))) (sym is) (none_looked (history sent (way_of old.1)) (history sent (way_of old.1)) refl);
    taken = none_looked (history sent (way_of old.1)) (history sent (way_of new.1)) (ap (λ (s : Client × Wire D). history sent (way_of s.1)) same);
  }

  -- ---- a line

  module _ (config : Config) (size block : ℕ) (old new : Desk D) (m : Machine) (st : Stands seen config old m) where
    -- it is explained, and the desk stands for the machine to which it leads
    record Goes (request : Request) (text : List ℕ) : Type 0 where
      next : Machine
      answer : Result Answer Refusal
      leads : Leads size block request m answer next
      is : IsText answer text
      stands : Stands seen config new next

    pub stands_on : (after : Sent) → Covers after (way_of new.wire) → IsNumber new.wire.moment.0 → IsClientOf config new.caller.client → Looks seen failures the_client (history st.sent (way_of old.wire)) (history after (way_of new.wire)) → (next : Machine) → ShowsNames st.durable next → next.moment ≡ new.wire.moment.0 → Stands seen config new next
    stands_on after covers small ours looks next shows now = record {
      sent = after;
      covers = covers;
      moment = small;
      ours = ours;
      durable = st.durable;
      number = st.number;
      rests = undisturbed_on seen failures st.durable st.number looks.steps (history st.sent (way_of old.wire)) (history after (way_of new.wire)) looks.runs looks.within looks.looking st.rests;
      shows = shows;
      now = now;
    }

    -- a look-up leaves it
    pub look_stands : (call : Call) (reply : Reply) → is_look call ≡ true → MayBeAsked (requests.Call call) → Carries_at seen failures (at old) (requests.Call call) reply (at new) → Stands seen config new m
    look_stands call reply look may carried =
        let c = look_carried config st.sent (at old) (at new) call reply look may st.ours st.covers st.moment carried in
        stands_on c.after c.covers (subst (λ (moment : Moment). IsNumber moment.0) (sym c.moment) st.moment) (still_mine seen failures config (at old) (at new) (requests.Call call) reply st.ours carried)
        (looks_both (history st.sent (way_of old.wire)) c.mid (history c.after (way_of new.wire)) (went_on call look (history st.sent (way_of old.wire)) c.mid reply c.went) c.taken) m st.shows (st.now ∙ ap (λ (moment : Moment). moment.0) (sym c.moment))

    -- what it is told
    pub look_told_there : (call : Call) (reply : Reply) → is_look call ≡ true → is_answered_at_once call ≡ true → MayBeAsked (requests.Call call) → Carries_at seen failures (at old) (requests.Call call) reply (at new) → IsToldOf st.durable call (looked reply)
    look_told_there call reply look once may carried = look_told seen failures config st.durable st.number st.sent (at old) (at new) call reply look once may st.ours st.covers st.moment st.rests carried

    -- nothing happens
    pub stands_still : at new ≡ at old → Stands seen config new m
    stands_still same = stands_on st.sent (subst (λ (s : Client × Wire D). Covers st.sent (way_of s.1)) (sym same) st.covers) (subst (λ (s : Client × Wire D). IsNumber s.1.moment.0) (sym same) st.moment)
        (subst (λ (s : Client × Wire D). IsClientOf config s.0) (sym same) st.ours) (none_looked (history st.sent (way_of old.wire)) (history st.sent (way_of new.wire)) (ap (λ (s : Client × Wire D). history st.sent (way_of s.1)) same)) m st.shows (st.now ∙ ap (λ (s : Client × Wire D). s.1.moment.0) (sym same))

    abbrev Tree : Result Path Refusal → Result Answer Refusal → Type 0
    Tree parsed answer = AsksTree size (plainly.on parsed calls.List) m answer m

    -- memory is wanting for the text
    is_short : (answer : Result Answer Refusal) (text : List ℕ) → answer ≡ Err refusals.Memory → IsText answer text → text ≡ memory_text
    is_short answer text is (inl said) = said ∙ ap answer_text is
    is_short answer text is (inr short) = short

    short_text : (parsed : Result Path Refusal) (text : List ℕ) → text ≡ memory_text → (answer : Result Answer Refusal) × Tree parsed answer × IsText answer text
    short_text (Ok path) text short = (Err refusals.Memory, list_off size m path refusals.Memory (inl refl), inr short)
    short_text (Err refusal) text short = (Err refusal, (refl, refl), inr short)

    no_path : (parsed : Result Path Refusal) (refusal : Refusal) → parsed ≡ Err refusal → Tree parsed (Err refusal)
    no_path parsed refusal is = subst (λ r. Tree r (Err refusal)) (sym is) (refl, refl)

    on_path : (parsed : Result Path Refusal) (path : Path) (answer : Result Answer Refusal) → parsed ≡ Ok path → Tree (Ok path) answer → Tree parsed answer
    on_path parsed path answer is tree = subst (λ r. Tree r answer) (sym is) tree

    abbrev before : History D
    before = history st.sent (way_of old.wire)

    -- one that isn't answered
    list_refused : (path : Path) → is_any_deep (calls.List path) ≡ false → (refusal : Refusal) → IsToldOf st.durable (calls.List path) (Err refusal) → Tree (Ok path) (Err refusal)
    list_refused path deep refusal (inl (other, is, off)) = list_off size m path refusal (subst IsNoLook (sym (refusal_is is)) off)
      where
        refusal_is : {a b : Refusal} {A : Type 0} → ◌≡◌ {A = Result A Refusal} (Err a) (Err b) → a ≡ b
        refusal_is e = cc
    list_refused path deep refusal (inr j) =
        let stood = j.stands.1 in (
          Err refusal,
          m,
          (
            [],
            list_shown j.config j.state j.req j.moment m st.shows.text (st.shows.tree ∙ ap (λ (names : NamesView). mapped_rows st.shows.text (fin.entries names.tree)) (sym stood.names))
                (λ calm. ap is_rolling st.shows.phase ∙ rolls_so st.durable.phase ∙ ap is_rolled (sym stood.phase) ∙ calm) path (Err refusal) deep j.says,
          ),
          refl,
          refl,
        )

    -- A list is answered as the machine answers it, refusals too.
    list_told : (path : Path) → is_any_deep (calls.List path) ≡ false → (reply : Reply) → IsToldOf st.durable (calls.List path) (looked reply) → IsLookCarried st.sent (at old) (at new) (calls.List path) reply → Tree (Ok path) (answered answers.Names (and_then names_in (looked reply)))
    list_told path deep (replies.Answer answer) told c =
        let is = is_listed seen failures st.durable st.number before c.mid path answer st.rests c.went in
        let named = listed_names (fin.entries st.durable.names.tree) path (fin.get st.durable.names.tree path) answer is in
        subst (λ a. Tree (Ok path) (answered answers.Names (names_in a))) (sym named.1)
        (list_is size st.durable m path named.0 st.shows (is ∙ ap (λ a. Ok a) named.1) (is_calm seen failures st.durable st.number before c.mid path answer st.rests c.went) deep)
    list_told path deep (replies.Refused refusal) told c = list_refused path deep refusal told
    list_told path deep replies.Lost told c = list_refused path deep refusals.NoReplica told
    list_told path deep (replies.Given given) told c = list_refused path deep refusals.Stray told
    list_told path deep (replies.Outcome outcome) told c = list_refused path deep refusals.Stray told

    list_line : (p : List ℕ) (answer : Result Answer Refusal) (text : List ℕ) → IsText answer text → ListGoes (Carries_at seen failures) (parse_hidden p) (at old) answer (at new) → Goes (lines.Ls p) text
    list_line p answer text text_is (Short is same) =
        let said = short_text (parse_hidden p) text (is_short answer text is text_is) in record { next = m; answer = said.0; leads = said.1; is = said.2; stands = stands_still same }
    list_line p answer text text_is (NoPath refusal parsed is same) = record { next = m; answer = Err refusal; leads = no_path (parse_hidden p) refusal parsed; is = subst (λ a. IsText a text) is text_is; stands = stands_still same }
    list_line p answer text text_is (IsAsked path reply parsed carried is) =
        let may : MayBeAsked (requests.Call (calls.List path)) = record { named = tt; met = λ names. tt } in
        let c = look_carried config st.sent (at old) (at new) (calls.List path) reply refl may st.ours st.covers st.moment carried in
        record {
          next = m;
          answer = answered answers.Names (and_then names_in (looked reply));
          leads = on_path (parse_hidden p) path (answered answers.Names (and_then names_in (looked reply))) parsed (list_told path (read_is_shallow p path parsed) reply (look_told_there (calls.List path) reply refl refl may carried) c);
          is = subst (λ a. IsText a text) is text_is;
          stands = look_stands (calls.List path) reply refl may carried;
        }

    -- ---- the phase

    abbrev Query : Result Answer Refusal → Type 0
    Query answer = AsksOne size calls.Query m answer m

    -- one that isn't answered
    phase_refused : (refusal : Refusal) → IsToldOf st.durable calls.Query (Err refusal) → Query (Err refusal)
    phase_refused refusal (inl (other, is, off)) = query_off size m refusal (subst IsNoLook (sym (refusal_is is)) off)
      where
        refusal_is : {a b : Refusal} {A : Type 0} → ◌≡◌ {A = Result A Refusal} (Err a) (Err b) → a ≡ b
        refusal_is e = cc
    phase_refused refusal (inr j) = query_off size m refusal (inl (query_refused j.config j.state j.req j.moment refusal j.says))

    -- a query is answered so too
    query_told : (reply : Reply) → IsToldOf st.durable calls.Query (looked reply) → IsLookCarried st.sent (at old) (at new) calls.Query reply → Query (answered at_phase (and_then phase_in (looked reply)))
    query_told (replies.Answer answer) so c =
        subst (λ a. Query (answered at_phase (phase_in a))) (sym (is_told seen failures st.durable st.number before c.mid answer st.rests c.went)) (query_is size m (told_phase false st.durable.phase) st.durable.epoch (sym st.shows.phase) (sym st.shows.epoch))
    query_told (replies.Refused refusal) so c = phase_refused refusal so
    query_told replies.Lost so c = phase_refused refusals.NoReplica so
    query_told (replies.Given given) so c = phase_refused refusals.Stray so
    query_told (replies.Outcome outcome) so c = phase_refused refusals.Stray so

    query_line : (answer : Result Answer Refusal) (text : List ℕ) → IsText answer text → QueryGoes (Carries_at seen failures) (at old) answer (at new) → Goes (lines.RollingUpgrade upgrades.Query) text
    query_line answer text text_is q =
        let may : MayBeAsked (requests.Call calls.Query) = record { named = tt; met = λ names. tt } in
        let c = look_carried config st.sent (at old) (at new) calls.Query q.reply refl may st.ours st.covers st.moment q.asks in
        record {
          next = m;
          answer = answered at_phase (and_then phase_in (looked q.reply));
          leads = query_told q.reply (look_told_there calls.Query q.reply refl refl may q.asks) c;
          is = subst (λ a. IsText a text) q.is text_is;
          stands = look_stands calls.Query q.reply refl may q.asks;
        }

    -- ---- a directory

    -- the status of one is told by the names
    directory_told : (path : Path) (reply : Reply) → is_any_deep (calls.Status path) ≡ false → looked reply ≡ Ok (says.Status statuses.Directory) → IsToldOf st.durable (calls.Status path) (looked reply) → (is_rolling m.phase ≡ false) × (at_path m.plain.tree path ≡ Some Dir)
    directory_told path reply deep is (inl (refusal, refused, off)) = absurd (never (sym refused ∙ is))
      where
        never : ◌≡◌ {A = Result Said Refusal} (Err refusal) (Ok (says.Status statuses.Directory)) → ⊥
        never e = cc
    directory_told path reply deep is (inr j) =
        let stood = j.stands.1 in
        dir_shown j.config j.state j.req j.moment m st.shows.text (st.shows.tree ∙ ap (λ (names : NamesView). mapped_rows st.shows.text (fin.entries names.tree)) (sym stood.names))
        (λ calm. ap is_rolling st.shows.phase ∙ rolls_so st.durable.phase ∙ ap is_rolled (sym stood.phase) ∙ calm) path deep (subst (λ r. OneSays j.req r (new_call j.config j.state j.req j.moment (calls.Status path)).sent) is j.says)

    directory_line : (chunk : ℕ) (p : List ℕ) (answer : Result Answer Refusal) (text : List ℕ) → TellsDirectory text → IsText answer text → FollowsDialogue (Carries_at seen failures) (on (parse_hidden p) (stat_call chunk) answers.Stat) (at old) answer (at new) → Goes (lines.Stat p) text
    directory_line chunk p answer text dir text_is h =
        let goes = directory_goes (Carries_at seen failures) text dir chunk (parse_hidden p) (at old) (at new) answer h text_is in
        let d = goes.0 in
        let may : MayBeAsked (requests.Call (calls.Status d.path)) = record { named = tt; met = λ names. tt } in
        let shown = directory_told d.path d.reply (read_is_shallow p d.path d.parses) d.tells (look_told_there (calls.Status d.path) d.reply refl refl may d.asks) in
        record {
          next = m;
          answer = answer;
          leads = subst (λ a. OnPath size (parse_hidden p) (Stats size) m a m) (sym goes.1) (directory_leads size m (parse_hidden p) d.path d.parses shown.0 shown.1);
          is = text_is;
          stands = look_stands (calls.Status d.path) d.reply refl may d.asks;
        }

    -- ---- a file without chunks

    empty_told : (path : Path) (reply : Reply) → is_any_deep (calls.Status path) ≡ false → looked reply ≡ Ok (says.Status (statuses.File [])) → IsToldOf st.durable (calls.Status path) (looked reply) → (is_rolling m.phase ≡ false) × (at_path m.plain.tree path ≡ Some (File []))
    empty_told path reply deep is (inl (refusal, refused, off)) = absurd (never (sym refused ∙ is))
      where
        never : ◌≡◌ {A = Result Said Refusal} (Err refusal) (Ok (says.Status (statuses.File []))) → ⊥
        never e = cc
    empty_told path reply deep is (inr j) =
        let stood = j.stands.1 in
        empty_shown j.config j.state j.req j.moment m st.shows.text (st.shows.tree ∙ ap (λ (names : NamesView). mapped_rows st.shows.text (fin.entries names.tree)) (sym stood.names))
        (λ calm. ap is_rolling st.shows.phase ∙ rolls_so st.durable.phase ∙ ap is_rolled (sym stood.phase) ∙ calm) path deep (subst (λ r. OneSays j.req r (new_call j.config j.state j.req j.moment (calls.Status path)).sent) is j.says)

    empty_line : (chunk : ℕ) (p : List ℕ) (answer : Result Answer Refusal) (text : List ℕ) → TellsEmpty text → IsText answer text → FollowsDialogue (Carries_at seen failures) (on (parse_hidden p) (stat_call chunk) answers.Stat) (at old) answer (at new) → Goes (lines.Stat p) text
    empty_line chunk p answer text empty text_is h =
        let goes = empty_goes (Carries_at seen failures) text empty chunk (parse_hidden p) (at old) (at new) answer h text_is in
        let d = goes.0 in
        let may : MayBeAsked (requests.Call (calls.Status d.path)) = record { named = tt; met = λ names. tt } in
        let shown = empty_told d.path d.reply (read_is_shallow p d.path d.parses) d.tells (look_told_there (calls.Status d.path) d.reply refl refl may d.asks) in
        record {
          next = m;
          answer = answer;
          leads = subst (λ a. OnPath size (parse_hidden p) (Stats size) m a m) (sym goes.1) (empty_leads size m (parse_hidden p) d.path d.parses shown.0 shown.1);
          is = text_is;
          stands = look_stands (calls.Status d.path) d.reply refl may d.asks;
        }

    stat_line : (chunk : ℕ) (p : List ℕ) (answer : Result Answer Refusal) (text : List ℕ) → TellsDirectory text ⊎ TellsEmpty text → IsText answer text → FollowsDialogue (Carries_at seen failures) (on (parse_hidden p) (stat_call chunk) answers.Stat) (at old) answer (at new) → Goes (lines.Stat p) text
    stat_line chunk p answer text (inl dir) text_is h = directory_line chunk p answer text dir text_is h
    stat_line chunk p answer text (inr empty) text_is h = empty_line chunk p answer text empty text_is h

    -- ---- a line about servers and messages

    abbrev Did : Request → Result Answer Refusal → Type 0
    Did request answer = (new.caller.client ≡ old.caller.client) × NodesDo seen failures request (way_of old.wire) answer (way_of new.wire)

    -- the moment after such a line
    abbrev behind : Request → Moment
    behind request = moment_behind request old.wire.moment

    node_line : (request : Request) (answer : Result Answer Refusal) (text : List ℕ) (next : Machine) → is_still_line (Some request) ≡ true → IsSpoken request → IsText answer text → Leads size block request m answer next → ShowsNames st.durable next → IsNumber (behind request).0 → next.moment ≡ (behind request).0 → Did request answer → Goes request text
    node_line request answer text next is spoken text_is leads shows small now (same, did) =
        let l : LooksOn seen failures the_client (behind request) (way_of old.wire) (way_of new.wire) st.sent = nodes_do seen failures the_client request (way_of old.wire) answer (way_of new.wire) is spoken did st.sent st.covers st.moment in
        record {
          next = next;
          answer = answer;
          leads = leads;
          is = text_is;
          stands = stands_on l.after l.covers (subst (λ (moment : Moment). IsNumber moment.0) (sym l.moment) small) (subst (IsClientOf config) (sym same) st.ours) (record { steps = l.steps; runs = l.runs; within = l.within; looking = l.looking }) next shows
              (now ∙ ap (λ (moment : Moment). moment.0) (sym l.moment));
        }

    is_set : (moment : ℕ) (answer : Result Answer Refusal) → Did (lines.At moment) answer → answer ≡ Ok answers.Done
    is_set moment answer (same, (is, there)) = is

    shows_then : (moment : ℕ) → ShowsNames st.durable (record m { moment = moment })
    shows_then moment = record { text = st.shows.text; tree = st.shows.tree; hidden = st.shows.hidden; epoch = st.shows.epoch; phase = st.shows.phase }

    -- ---- any such line

    request_goes : (request : Request) (answer : Result Answer Refusal) (text : List ℕ) → is_still_line (Some request) ≡ true → IsSpoken request → (is_stat (Some request) ≡ true → TellsDirectory text ⊎ TellsEmpty text) → Comes seen failures request old answer new → IsText answer text → Goes request text
    unfolding Comes
    request_goes (lines.Ls p) answer text is spoken stat comes text_is = list_line p answer text text_is (list_goes (Carries_at seen failures) (parse_hidden p) (at old) (at new) answer comes)
    request_goes (lines.At moment) answer text is spoken stat comes text_is = node_line (lines.At moment) answer text (record m { moment = moment }) is spoken text_is (m, ([], refl), is_set moment answer comes, refl) (shows_then moment) spoken refl comes
    request_goes (lines.Hold kind) answer text is spoken stat comes text_is = node_line (lines.Hold kind) answer text m is spoken text_is ([], refl) st.shows st.moment st.now comes
    request_goes (lines.Beat server) answer text is spoken stat comes text_is = node_line (lines.Beat server) answer text m is spoken text_is ([], refl) st.shows st.moment st.now comes
    request_goes lines.Tick answer text is spoken stat comes text_is = node_line lines.Tick answer text m is spoken text_is ([], refl) st.shows st.moment st.now comes
    request_goes (lines.Restart (restarted.Server number)) answer text is spoken stat comes text_is = node_line (lines.Restart (restarted.Server number)) answer text m is spoken text_is ([], refl) st.shows st.moment st.now comes
    request_goes (lines.Restart restarted.Master) answer text is spoken stat comes text_is = absurd (false≢true is)
    request_goes (lines.Lose server handle) answer text is spoken stat comes text_is = node_line (lines.Lose server handle) answer text m is spoken text_is ([], refl) st.shows st.moment st.now comes
    request_goes (lines.Damage server handle index) answer text is spoken stat comes text_is = node_line (lines.Damage server handle index) answer text m is spoken text_is ([], refl) st.shows st.moment st.now comes
    request_goes (lines.Deliver number) answer text is spoken stat comes text_is = node_line (lines.Deliver number) answer text m is spoken text_is ([], refl) st.shows st.moment st.now comes
    request_goes (lines.Mkdir p) answer text is spoken stat comes text_is = absurd (false≢true is)
    request_goes (lines.Create p) answer text is spoken stat comes text_is = absurd (false≢true is)
    request_goes (lines.Stat p) answer text is spoken stat comes text_is = stat_line old.caller.client.chunk p answer text (stat refl) text_is comes
    request_goes (lines.Mv p q) answer text is spoken stat comes text_is = absurd (false≢true is)
    request_goes (lines.Rm p recursive) answer text is spoken stat comes text_is = absurd (false≢true is)
    request_goes (lines.Undelete p) answer text is spoken stat comes text_is = absurd (false≢true is)
    request_goes (lines.Snapshot p q) answer text is spoken stat comes text_is = absurd (false≢true is)
    request_goes (lines.Write p offset bytes) answer text is spoken stat comes text_is = absurd (false≢true is)
    request_goes (lines.Append p bytes) answer text is spoken stat comes text_is = absurd (false≢true is)
    request_goes (lines.Read p offset many) answer text is spoken stat comes text_is = absurd (false≢true is)
    request_goes (lines.Digest p chunk index) answer text is spoken stat comes text_is = absurd (false≢true is)
    request_goes lines.Scan answer text is spoken stat comes text_is = absurd (false≢true is)
    request_goes lines.Replicate answer text is spoken stat comes text_is = absurd (false≢true is)
    request_goes (lines.RollingUpgrade upgrades.Query) answer text is spoken stat comes text_is = query_line answer text text_is (query_goes (Carries_at seen failures) (at old) (at new) answer comes)
    request_goes (lines.RollingUpgrade upgrades.Prepare) answer text is spoken stat comes text_is = absurd (false≢true is)
    request_goes (lines.RollingUpgrade upgrades.Finalize) answer text is spoken stat comes text_is = absurd (false≢true is)
    request_goes (lines.RollingUpgrade upgrades.Rollback) answer text is spoken stat comes text_is = absurd (false≢true is)
    request_goes (lines.Step step) answer text is spoken stat comes text_is = absurd (false≢true is)

    -- ---- a line with its end

    abbrev LineGoes : List ℕ → List ℕ → Type 0
    LineGoes whole text = (next : Machine) × AnswersLine (Explains size block) m whole text next × Stands seen config new next

    abbrev Given : Option Request → List ℕ → Type 0
    Given o text = (is_still_line o ≡ true) × (is_stat o ≡ true → TellsDirectory text ⊎ TellsEmpty text)

    by_request : (line text : List ℕ) (o : Option Request) → line_request line ≡ o → Given o text
        → MatchOption o (IsText (Err refusals.BadLine) text × (new ≡ old)) (λ request. (answer : Result Answer Refusal) × Comes seen failures request old answer new × IsText answer text)
        → (next : Machine) × MatchOption o (IsText (Err refusals.BadLine) text × (next ≡ m)) (λ request. (answer : Result Answer Refusal) × Leads size block request m answer next × IsText answer text) × Stands seen config new next
    by_request line text None read given (bad, same) = (m, (bad, refl), stands_still (ap at same))
    by_request line text (Some request) read given (answer, comes, text_is) =
        let g = request_goes request answer text given.0 (line_spoken line request read) given.1 comes text_is in (g.next, (g.answer, g.leads, g.is), g.stands)

    abbrev Either : Bool → List ℕ → List ℕ → Type 0
    Either short line text = ((text ≡ memory_text) × (new ≡ old)) ⊎ ((next : Machine) × AnswersIfShort (Explains size block) short m line text next × Stands seen config new next)

    short_line : (line text : List ℕ) → Given (line_request line) text → AnswersText seen failures old line text new → Either true line text
    unfolding AnswersText
    short_line line text given (inl none) = inl none
    short_line line text given (inr came) = inr (by_request line text (line_request line) refl given came)

    whole_line : (line text : List ℕ) (short : Bool) → Given (if short then line_request line else None) text → AnswersIfShort (AnswersText seen failures) short old line text new → Either short line text
    whole_line line text true given a = short_line line text given a
    whole_line line text false given (bad, same) = inr (m, (bad, refl), stands_still (ap at same))

    pub line_goes : (whole text : List ℕ) → IsStillLine whole text → AnswersLine (AnswersText seen failures) old whole text new → LineGoes whole text
    line_goes whole text still (inl (short, same)) = (m, inl (short, refl), stands_still (ap at same))
    line_goes whole text still (inr a) = elim (whole_line (content whole) text (nat_le (length (content whole)) longest_line) still a) [
      | inl (short, same) ↦ (m, inl (short, refl), stands_still (ap at same))
      | inr (next, explains, stands) ↦ (next, inr explains, stands)
    ]

  -- ---- many of them

  pub lines_go : (config : Config) (size block : ℕ) (all texts : List (List ℕ)) (old new : Desk D) (m : Machine) → Stands seen config old m → AreStillLines all texts → Runs (AnswersText seen failures) old all texts new → (end : Machine) × Runs (Explains size block) m all texts end × Stands seen config new end
  lines_go config size block [] [] old new m st are same = (m, refl, subst (λ d. Stands seen config d m) (sym same) st)
  lines_go config size block (whole ∷ all) (text ∷ texts) old new m st are (mid, one, rest) =
      let first = line_goes config size block old mid m st whole text are.0 one in
      let more = lines_go config size block all texts mid new first.0 first.2 are.1 rest in (more.0, (first.0, first.1, more.1), more.2)
  lines_go config size block [] (text ∷ texts) old new m st are never = absurd never
  lines_go config size block (whole ∷ all) [] old new m st are never = absurd never

pub still_lines_are_explained : {D : Type 0} → StillLinesAreExplained D
still_lines_are_explained seen failures config size block old new all texts m st are runs = lines_go seen failures config size block all texts old new m st are runs
