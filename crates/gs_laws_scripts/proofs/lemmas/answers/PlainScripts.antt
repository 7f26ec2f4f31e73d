-- The lines of a script, one after the other, and a new store.
use Rattle.std.proofs.Common.{◌≡◌, ◌≢◌, ◌∙◌, ◌⊎◌, ℕ, Bool, true, false, List, [], ◌∷◌, if◌then◌else◌, Option, Some, None, MatchOption, Result, Err, refl, sym, ap, subst, inl, inr, length}
use Rattle.std.specs.List.{AllByRecursion}
use Rattle.std.specs.Prelude.{nat_le}
use Rattle.gs_base.specs.declared.numbers.ClientId.{ClientId}
use Rattle.gs_base.specs.declared.refusal.Refusal.{Refusal}
use Rattle.gs_base.specs.declared.refusal.Refusal.TheVariants as refusals
use Rattle.gs_shell_calls.specs.Asked.{asked_by}
use Rattle.gs_shell_calls.specs.declared.answer.Answer.{Answer}
use Rattle.gs_client.specs.Sends.{Sends as Asks}
use Rattle.gs_client.specs.Trees.{Call}
use Rattle.gs_client.specs.declared.client.Client.{Client}
use Rattle.gs_shell_desk.specs.Answering.{AnswersText, IsText}
use Rattle.gs_shell_desk.specs.Lines.{Comes, NodesDo, carried}
use Rattle.gs_shell_desk.specs.Ways.{Way, way_of}
use Rattle.gs_shell_desk.specs.declared.desk.Desk.{Desk}
use Rattle.gs_shell_desk.specs.declared.wire.Wire.{Wire}
use Rattle.gs_client_dialogue.specs.Dialogues.{Ask, FollowsDialogue, Grow, Say}
use Rattle.gs_shell_line.specs.Line.{content, longest_line}
use Rattle.gs_shell_grammar.specs.Grammar.{Request, line_request}
use Rattle.gs_shell_grammar.specs.Grammar as lines
use Rattle.gs_shell_grammar.specs.declared.command.Restarted.TheVariants as restarted
use Rattle.gs_msg.specs.declared.event.Request.{Request as Asked}
use Rattle.gs_laws_world.specs.lasting.Lasting.{failures_at}
use Rattle.gs_shell_script.specs.Run.{AnswersIfShort, AnswersLine, Runs, bad_line_text, memory_text}
use Rattle.gs_laws_scripts.specs.answers.Meeting.{IsCalm, RestartsMaster, plain_of}
use Rattle.gs_laws_scripts.proofs.lemmas.answers.PlainEnduring.{IsOurs, Lands, Endures, EnduresRestarts}
use Rattle.gs_laws_scripts.specs.answers.Plain.{Plain, PlainDesk}
use Rattle.gs_laws_scripts.specs.answers.Plain as plain
use Rattle.gs_laws_scripts.proofs.lemmas.answers.PlainLines.{GivesDesk, same_desk, still_mine, text_answers}
use Rattle.gs_laws_scripts.proofs.lemmas.answers.PlainSends.{was_enough}

-- of lines that are answered so one after the other, no disk of the master fails at one
abbrev pub AreSound : {D : Type 0} (seen : D → List ℕ) (failures : D → ℕ) (old : Desk D) (lines texts : List (List ℕ)) (new : Desk D) → Runs (AnswersText seen failures) old lines texts new → Type 0
AreSound seen failures old [] texts new runs = Unit {0}
AreSound seen failures old (line ∷ lines) [] new runs = Unit {0}
AreSound seen failures old (line ∷ lines) (text ∷ texts) new (mid, answers, rest) =
    (failures_at failures (way_of mid.wire).nodes.master ≡ failures_at failures (way_of old.wire).nodes.master) × AreSound seen failures mid lines texts new rest

module _ {D : Type 0} (seen : D → List ℕ) (failures : D → ℕ) (me : ClientId) (size : ℕ) (MayAsk : Asked → Type 0) (Good : Way D → Type 0) (e : Endures seen failures me size MayAsk Good) where
  -- ---- the client stays the same one

  call_mine : {A : Type 0} (call : Call A) (old new : Client × Wire D) (result : Result A Refusal) → IsOurs me size old.0 → FollowsDialogue (Asks (carried seen failures)) call old result new → IsOurs me size new.0
  call_mine (Say said) old new result mine (is, same) = (ap (λ (h : Client × Wire D). h.0.last.client) same ∙ mine.0, ap (λ (h : Client × Wire D). h.0.chunk) same ∙ mine.1)
  call_mine (Ask request more) old new result mine (reply, mid, sends, rest) =
      call_mine (more reply) mid new result (still_mine seen failures me size MayAsk Good e old mid request reply mine sends) rest
  call_mine (Grow rest) old new result mine (inl more) = call_mine rest old new result mine more
  call_mine (Grow rest) old new result mine (inr (memory, same)) = (ap (λ (h : Client × Wire D). h.0.last.client) same ∙ mine.0, ap (λ (h : Client × Wire D). h.0.chunk) same ∙ mine.1)

  line_mine : (o : Option (Call Answer)) (request : Request) (old new : Client × Wire D) (result : Result Answer Refusal) → IsOurs me size old.0
      → MatchOption o ((new.0 ≡ old.0) × NodesDo seen failures request (way_of old.1) result (way_of new.1)) (λ call. FollowsDialogue (Asks (carried seen failures)) call old result new) → IsOurs me size new.0
  line_mine None request old new result mine (client, does) = (ap (λ (c : Client). c.last.client) client ∙ mine.0, ap (λ (c : Client). c.chunk) client ∙ mine.1)
  line_mine (Some call) request old new result mine follows = call_mine call old new result mine follows

  comes_mine : (request : Request) (old : Desk D) (result : Result Answer Refusal) (new : Desk D) → IsOurs me size old.caller.client → Comes seen failures request old result new → IsOurs me size new.caller.client
  unfolding Comes
  comes_mine request old result new mine h =
      line_mine (asked_by old.caller.client.chunk request) request (old.caller.client, old.wire) (new.caller.client, new.wire) result mine h

  same_mine : (old new : Desk D) → IsOurs me size old.caller.client → new ≡ old → IsOurs me size new.caller.client
  same_mine old new mine same = (ap (λ (d : Desk D). d.caller.client.last.client) same ∙ mine.0, ap (λ (d : Desk D). d.caller.client.chunk) same ∙ mine.1)

  request_mine : (o : Option Request) (old : Desk D) (text : List ℕ) (new : Desk D) → IsOurs me size old.caller.client
      → MatchOption o (IsText (Err refusals.BadLine) text × (new ≡ old)) (λ request. (answer : Result Answer Refusal) × Comes seen failures request old answer new × IsText answer text)
      → IsOurs me size new.caller.client
  request_mine None old text new mine (said, same) = same_mine old new mine same
  request_mine (Some request) old text new mine (answer, h, said) = comes_mine request old answer new mine h

  text_mine : (line : List ℕ) (old : Desk D) (text : List ℕ) (new : Desk D) → IsOurs me size old.caller.client → AnswersText seen failures old line text new → IsOurs me size new.caller.client
  unfolding AnswersText
  text_mine line old text new mine (inl (memory, same)) = same_mine old new mine same
  text_mine line old text new mine (inr h) = request_mine (line_request line) old text new mine h

  short_mine : (c : Bool) (line : List ℕ) (old : Desk D) (text : List ℕ) (new : Desk D) → IsOurs me size old.caller.client → AnswersIfShort (AnswersText seen failures) c old line text new
      → IsOurs me size new.caller.client
  short_mine true line old text new mine h = text_mine line old text new mine h
  short_mine false line old text new mine (is, same) = same_mine old new mine same

  pub whole_mine : (whole : List ℕ) (old : Desk D) (text : List ℕ) (new : Desk D) → IsOurs me size old.caller.client → AnswersLine (AnswersText seen failures) old whole text new → IsOurs me size new.caller.client
  whole_mine whole old text new mine (inl (memory, same)) = same_mine old new mine same
  whole_mine whole old text new mine (inr h) = short_mine (nat_le (length (content whole)) longest_line) (content whole) old text new mine h

  pub lines_mine : (all texts : List (List ℕ)) (old new : Desk D) → Runs (AnswersText seen failures) old all texts new → IsOurs me size old.caller.client → IsOurs me size new.caller.client
  lines_mine [] [] old new same mine = same_mine old new mine same
  lines_mine [] (text ∷ texts) old new none mine = absurd none
  lines_mine (line ∷ others) [] old new none mine = absurd none
  lines_mine (line ∷ others) (text ∷ texts) old new (mid, h, rest) mine = lines_mine others texts mid new rest (whole_mine line old text mid mine h)

  -- ---- a line with its end

  abbrev GivesThere : {R : Type 0} → Desk D → R → Desk D → (PlainDesk → R × PlainDesk) → Type 0
  GivesThere old r new f = GivesDesk seen failures me size MayAsk Good e (old.caller.client, old.wire) r (new.caller.client, new.wire) f

  if_short : (c : Bool) (line : List ℕ) (old : Desk D) (text : List ℕ) (new : Desk D) → IsOurs me size old.caller.client → text ≢ memory_text
      → (line_request line ≡ Some (lines.Restart restarted.Master) → EnduresRestarts seen failures Good)
      → AnswersIfShort (AnswersText seen failures) c old line text new → GivesThere old text new (λ w. if c then plain.answers_as (line_request line) w else (bad_line_text, w))
  if_short true line old text new mine enough restarts h = text_answers seen failures me size MayAsk Good e line restarts old text new mine enough h
  if_short false line old text new mine enough restarts (is, same) = same_desk seen failures me size MayAsk Good e line restarts old new text bad_line_text is same

  whole_line : (whole : List ℕ) (old : Desk D) (text : List ℕ) (new : Desk D) → IsOurs me size old.caller.client → text ≢ memory_text → (RestartsMaster whole → EnduresRestarts seen failures Good)
      → AnswersLine (AnswersText seen failures) old whole text new → GivesThere old text new (plain.answers_line whole)
  whole_line whole old text new mine enough restarts (inl (memory, same)) = absurd (enough memory)
  whole_line whole old text new mine enough restarts (inr h) = if_short (nat_le (length (content whole)) longest_line) (content whole) old text new mine enough restarts h

  -- a desk that answers a line
  pub line_answered : (old new : Desk D) (whole text : List ℕ) (w : PlainDesk) → AnswersLine (AnswersText seen failures) old whole text new → text ≢ memory_text
      → IsCalm failures (way_of old.wire) (way_of new.wire) → IsOurs me size old.caller.client → (RestartsMaster whole → EnduresRestarts seen failures Good) → Lands Good old w
      → (text ≡ (plain.answers_line whole w).0) × Lands Good new (plain.answers_line whole w).1
  line_answered old new whole text w h enough calm mine restarts at =
      let there = at.plain in
      let path : ◌≡◌ {A = PlainDesk} (old.caller.client, plain_of there.master.state (way_of old.wire)) w = λ i. (at.client i, sym there.plain i) in
      let done = (whole_line whole old text new mine enough restarts h).same calm there.master there.stands at.good in
      subst (λ (x : PlainDesk). (text ≡ (plain.answers_line whole x).0) × Lands Good new (plain.answers_line whole x).1) path
      (done.result, record { client = done.client; plain = done.plain; good = done.good })

  -- ---- all lines

  -- of lines that are answered, whether memory was wanting isn't forgotten, and where it wasn't their answers are what the function says
  pub record GivesAll (all : List (List ℕ)) (old : Desk D) (texts : List (List ℕ)) (new : Desk D) : Type 0 where
    pub short : (way_of old.wire).is_short ≡ true → (way_of new.wire).is_short ≡ true
    pub same : (way_of new.wire).is_short ≡ false → (w : PlainDesk) → Lands Good old w
        → (texts ≡ (plain.answers_all all w).0) × Lands Good new (plain.answers_all all w).1

  abbrev MayRestart : List (List ℕ) → Type 0
  MayRestart all = AllByRecursion (λ line. ¬ RestartsMaster line) all ⊎ EnduresRestarts seen failures Good

  first_restarts : (line : List ℕ) (others : List (List ℕ)) → MayRestart (line ∷ others) → RestartsMaster line → EnduresRestarts seen failures Good
  first_restarts line others (inl none) restarts = absurd (none.0 restarts)
  first_restarts line others (inr may) restarts = may

  other_restarts : (line : List ℕ) (others : List (List ℕ)) → MayRestart (line ∷ others) → MayRestart others
  other_restarts line others (inl none) = inl none.1
  other_restarts line others (inr may) = inr may

  pub all_lines : (all texts : List (List ℕ)) (old new : Desk D) (runs : Runs (AnswersText seen failures) old all texts new) → IsOurs me size old.caller.client
      → AllByRecursion (λ text. text ≢ memory_text) texts → MayRestart all → AreSound seen failures old all texts new runs → GivesAll all old texts new
  all_lines [] [] old new same mine enough restarts sound = record {
    short = λ short. ap (λ (d : Desk D). (way_of d.wire).is_short) same ∙ short;
    same = λ whole w at. (refl, subst (λ d. Lands Good d w) (sym same) at);
  }
  all_lines [] (text ∷ texts) old new none mine enough restarts sound = absurd none
  all_lines (line ∷ others) [] old new none mine enough restarts sound = absurd none
  all_lines (line ∷ others) (text ∷ texts) old new (mid, h, rest) mine enough restarts sound =
      let one = whole_line line old text mid mine enough.0 (first_restarts line others restarts) h in
      let more = all_lines others texts mid new rest (whole_mine line old text mid mine h) enough.1 (other_restarts line others restarts) sound.1 in
      record {
        short = λ short. more.short (one.short short);
        same = λ whole w at.
            let q = plain.answers_line line w in
            let first = line_answered old mid line text w h enough.0 (record { enough = was_enough (way_of mid.wire) (way_of new.wire) more.short whole; sound = sound.0 }) mine (first_restarts line others restarts) at in
            let last = more.same whole q.1 first.1 in
            (λ i. first.0 i ∷ last.0 i, last.1);
      }
