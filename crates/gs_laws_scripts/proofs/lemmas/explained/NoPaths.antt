-- Lines about a path that is none ask for nothing: the machine tells why they are refused, and stays.
use Rattle.std.proofs.Common.{ap, inl, inr, not, refl, subst, sym, ◌∙◌, ◌≡◌, ◌⊎◌, ◌||◌, Bool, Err, List, MatchOption, None, Ok, Option, Result, Some, false, if◌then◌else◌, length, nat_le, true, ℕ}
use Rattle.std.specs.Prelude.{is_ok}
use Rattle.std.proofs.lemmas.Bool.{false≢true}
use Rattle.gs_base.specs.declared.config.Config.{Config}
use Rattle.gs_base.specs.declared.refusal.Refusal.{Refusal}
use Rattle.gs_base.specs.declared.refusal.Refusal.TheVariants as refusals
use Rattle.gs_client.specs.Reading.{stat_call}
use Rattle.gs_client.specs.Trees.{Call}
use Rattle.gs_client.specs.Trees as trees
use Rattle.gs_client.specs.declared.client.Client.{Client}
use Rattle.gs_client.specs.declared.link.Reply.{Reply}
use Rattle.gs_client_dialogue.specs.Dialogues.{FollowsDialogue}
use Rattle.gs_msg.specs.declared.call.Call.TheVariants as calls
use Rattle.gs_msg.specs.declared.event.Request.{Request as Asked}
use Rattle.gs_path.specs.Path.{Path}
use Rattle.gs_path.specs.Rules.{parse, parse_hidden}
use Rattle.gs_shell_calls.specs.Asked.{append_to, digest_of, done, given_bytes, given_digest, hidden, on, on_two, read_of, with_file, write_to}
use Rattle.gs_shell_calls.specs.Texts.{answer_text}
use Rattle.gs_shell_calls.specs.declared.answer.Answer.{Answer}
use Rattle.gs_shell_calls.specs.declared.answer.Answer.TheVariants as answers
use Rattle.gs_shell_desk.specs.Answering.{AnswersText, IsText}
use Rattle.gs_shell_desk.specs.Lines.{Comes}
use Rattle.gs_shell_desk.specs.declared.desk.Desk.{Desk}
use Rattle.gs_shell_desk.specs.declared.wire.Wire.{Wire}
use Rattle.gs_shell_grammar.specs.Grammar.{Request, line_request}
use Rattle.gs_shell_grammar.specs.Grammar as lines
use Rattle.gs_shell_line.specs.Line.{content, longest_line}
use Rattle.gs_shell_script.specs.Run.{AnswersIfShort, AnswersLine, memory_text}
use Rattle.gs_tree.specs.Entry.{Entry}
use Rattle.gs_laws_scripts.proofs.lemmas.explained.Still.{stands_still}
use Rattle.gs_laws_scripts.proofs.lemmas.lists.Lines.{Carries_at}
use Rattle.gs_laws_scripts.specs.explained.Changes.{names_no_path}
use Rattle.gs_laws_scripts.specs.explained.Lines.{Appends, AsksTree, Digests, Explains, Leads, OfFile, OnPath, Reads, Stats, Writes}
use Rattle.gs_laws_scripts.specs.explained.Machine.{Machine, Text}
use Rattle.gs_laws_scripts.specs.explained.Standing.{Stands}
use Rattle.gs_laws_scripts.specs.plain.Machines.{asked_in}
use Rattle.gs_laws_scripts.specs.plain.Machines as plainly

-- ---- a dialogue on a path that is none

-- it is refused for its path, or memory is wanting, and nothing is asked
record IsRefusedAtOnce {S : Type 0} (refusal : Refusal) (old : S) (result : Result Answer Refusal) (new : S) : Type 0 where
  is : (result ≡ Err refusal) ⊎ (result ≡ Err refusals.Memory)
  same : new ≡ old

-- why a path is none
record IsNone (parsed : Result Path Refusal) : Type 0 where
  refusal : Refusal
  is : parsed ≡ Err refusal

none_of : (parsed : Result Path Refusal) → not (is_ok parsed) ≡ true → IsNone parsed
none_of (Ok p) none = absurd (false≢true none)
none_of (Err refusal) none = record { refusal = refusal; is = refl }

module _ {S : Type 0} (carries : S → Asked → Reply → S → Type 0) where
  on_none : {A : Type 0} (parsed : Result Path Refusal) (refusal : Refusal) (call : Path → Call A) (shows : A → Answer) (old new : S) (result : Result Answer Refusal) → parsed ≡ Err refusal → FollowsDialogue carries (on parsed call shows) old result new → IsRefusedAtOnce refusal old result new
  on_none parsed refusal call shows old new result is h = by_dialogue (subst (λ r. FollowsDialogue carries (on r call shows) old result new) is h)
    where
      by_dialogue : FollowsDialogue carries (on (Err refusal) call shows) old result new → IsRefusedAtOnce refusal old result new
      by_dialogue (inl (came, same)) = record { is = inl came; same = same }
      by_dialogue (inr (came, same)) = record { is = inr came; same = same }

  -- one of two paths
  record IsNoneOfTwo (from to : Result Path Refusal) (old : S) (result : Result Answer Refusal) (new : S) : Type 0 where
    refusal : Refusal
    none : plainly.on_two from to calls.Snapshot ≡ Err refusal
    at_once : IsRefusedAtOnce refusal old result new

  two_none : (from to : Result Path Refusal) (old new : S) (result : Result Answer Refusal) → (not (is_ok from) || not (is_ok to)) ≡ true → FollowsDialogue carries (on_two from to trees.snapshot_call) old result new → IsNoneOfTwo from to old result new
  two_none (Err refusal) to old new result none (inl (came, same)) = record { refusal = refusal; none = refl; at_once = record { is = inl came; same = same } }
  two_none (Err refusal) to old new result none (inr (came, same)) = record { refusal = refusal; none = refl; at_once = record { is = inr came; same = same } }
  two_none (Ok p) to old new result none (inl rest) =
      let n = none_of to none in record { refusal = n.refusal; none = ap (λ r. plainly.on r (calls.Snapshot p)) n.is; at_once = on_none to n.refusal (trees.snapshot_call p) done old new result n.is rest }
  two_none (Ok p) to old new result none (inr (came, same)) =
      let n = none_of to none in record { refusal = n.refusal; none = ap (λ r. plainly.on r (calls.Snapshot p)) n.is; at_once = record { is = inr came; same = same } }

-- ---- a line

module _ {D : Type 0} (seen : D → List ℕ) (failures : D → ℕ) (config : Config) (size block : ℕ) (old new : Desk D) (m : Machine) (st : Stands seen config old m) where
  abbrev at : Desk D → Client × Wire D
  at d = (d.caller.client, d.wire)

  -- it is explained, and the desk stands for the machine as it was
  record Goes (request : Request) (text : List ℕ) : Type 0 where
    answer : Result Answer Refusal
    leads : Leads size block request m answer m
    is : IsText answer text
    stands : Stands seen config new m

  text_of : (refusal : Refusal) (text : List ℕ) (answer : Result Answer Refusal) → IsText answer text → (answer ≡ Err refusal) ⊎ (answer ≡ Err refusals.Memory) → IsText (Err refusal) text
  text_of refusal text answer is (inl same) = subst (λ a. IsText a text) same is
  text_of refusal text answer (inl said) (inr short) = inr (said ∙ ap answer_text short)
  text_of refusal text answer (inr memory) (inr short) = inr memory

  goes : (request : Request) (text : List ℕ) (refusal : Refusal) (answer : Result Answer Refusal) → IsText answer text → IsRefusedAtOnce refusal (at old) answer (at new) → Leads size block request m (Err refusal) m → Goes request text
  goes request text refusal answer is r leads = record { answer = Err refusal; leads = leads; is = text_of refusal text answer is r.is; stands = stands_still seen failures config size block old new m st r.same }

  abbrev Does_at : Type 1
  Does_at = Path → Option (Entry Text) → Machine → Result Answer Refusal → Machine → Type 0

  on_path : (Does : Does_at) (parsed : Result Path Refusal) (n : IsNone parsed) → OnPath size parsed Does m (Err n.refusal) m
  on_path Does parsed n = subst (λ r. OnPath size r Does m (Err n.refusal) m) (sym n.is) (refl, refl)

  -- what comes of a call on such a path
  at_once : {A : Type 0} (parsed : Result Path Refusal) (n : IsNone parsed) (call : Path → Call A) (shows : A → Answer) (answer : Result Answer Refusal) → FollowsDialogue (Carries_at seen failures) (on parsed call shows) (at old) answer (at new) → IsRefusedAtOnce n.refusal (at old) answer (at new)
  at_once parsed n call shows answer h = on_none (Carries_at seen failures) parsed n.refusal call shows (at old) (at new) answer n.is h

  request_goes : (request : Request) (answer : Result Answer Refusal) (text : List ℕ) → names_no_path (Some request) ≡ true → IsText answer text → Comes seen failures request old answer new → Goes request text
  unfolding Comes
  request_goes (lines.Stat p) answer text none is comes =
      let n = none_of (parse_hidden p) none in goes (lines.Stat p) text n.refusal answer is (at_once (parse_hidden p) n (stat_call old.caller.client.chunk) answers.Stat answer comes) (on_path (Stats size) (parse_hidden p) n)
  request_goes (lines.Read p offset many) answer text none is comes =
      let n = none_of (parse_hidden p) none in
      goes (lines.Read p offset many) text n.refusal answer is (at_once (parse_hidden p) n (with_file (read_of old.caller.client.chunk offset many)) given_bytes answer comes) (on_path (OfFile (Reads size offset many)) (parse_hidden p) n)
  request_goes (lines.Digest p chunk index) answer text none is comes =
      let n = none_of (parse_hidden p) none in
      goes (lines.Digest p chunk index) text n.refusal answer is (at_once (parse_hidden p) n (with_file (digest_of chunk index)) given_digest answer comes) (on_path (OfFile (Digests size block chunk index)) (parse_hidden p) n)
  request_goes (lines.Write p offset bytes) answer text none is comes =
      let n = none_of (parse p) none in
      goes (lines.Write p offset bytes) text n.refusal answer is (at_once (parse p) n (with_file (write_to old.caller.client.chunk offset bytes)) done answer comes) (on_path (OfFile (Writes size offset bytes)) (parse p) n)
  request_goes (lines.Append p bytes) answer text none is comes =
      let n = none_of (parse p) none in
      goes (lines.Append p bytes) text n.refusal answer is (at_once (parse p) n (with_file (append_to old.caller.client.chunk bytes)) answers.Number answer comes) (on_path (OfFile (Appends size bytes)) (parse p) n)
  request_goes (lines.Rm p recursive) answer text none is comes =
      let n = none_of (parse p) none in
      goes (lines.Rm p recursive) text n.refusal answer is (at_once (parse p) n (λ path. trees.delete_call path recursive) hidden answer comes)
      (subst (λ r. AsksTree size (plainly.on r (λ path. calls.Delete path recursive)) m (Err n.refusal) m) (sym n.is) (refl, refl))
  request_goes (lines.Snapshot p q) answer text none is comes =
      let t = two_none (Carries_at seen failures) (parse p) (parse q) (at old) (at new) answer none comes in goes (lines.Snapshot p q) text t.refusal answer is t.at_once (subst (λ c. AsksTree size c m (Err t.refusal) m) (sym t.none) (refl, refl))
  request_goes request answer text none is comes = absurd (false≢true none)

  -- ---- with its end

  abbrev LineGoes : List ℕ → List ℕ → Type 0
  LineGoes whole text = (next : Machine) × AnswersLine (Explains size block) m whole text next × Stands seen config new next

  abbrev Either : Bool → List ℕ → List ℕ → Type 0
  Either short line text = ((text ≡ memory_text) × (new ≡ old)) ⊎ ((next : Machine) × AnswersIfShort (Explains size block) short m line text next × Stands seen config new next)

  by_request : (line text : List ℕ) (o : Option Request) → names_no_path o ≡ true
      → MatchOption o (IsText (Err refusals.BadLine) text × (new ≡ old)) (λ request. (answer : Result Answer Refusal) × Comes seen failures request old answer new × IsText answer text)
      → (next : Machine) × MatchOption o (IsText (Err refusals.BadLine) text × (next ≡ m)) (λ request. (answer : Result Answer Refusal) × Leads size block request m answer next × IsText answer text) × Stands seen config new next
  by_request line text None none given = absurd (false≢true none)
  by_request line text (Some request) none (answer, comes, text_is) = (let g = request_goes request answer text none text_is comes in (m, (g.answer, g.leads, g.is), g.stands))

  short_line : (line text : List ℕ) → names_no_path (line_request line) ≡ true → AnswersText seen failures old line text new → Either true line text
  unfolding AnswersText
  short_line line text none (inl short) = inl short
  short_line line text none (inr came) = inr (by_request line text (line_request line) none came)

  whole_line : (line text : List ℕ) (short : Bool) → names_no_path (if short then line_request line else None) ≡ true → AnswersIfShort (AnswersText seen failures) short old line text new → Either short line text
  whole_line line text true none a = short_line line text none a
  whole_line line text false none a = absurd (false≢true none)

  nothing_done : new ≡ old → Stands seen config new m
  nothing_done same = stands_still seen failures config size block old new m st (ap at same)

  pub no_path_goes : (whole text : List ℕ) → names_no_path (asked_in whole) ≡ true → AnswersLine (AnswersText seen failures) old whole text new → LineGoes whole text
  no_path_goes whole text none (inl (short, same)) = (m, inl (short, refl), nothing_done same)
  no_path_goes whole text none (inr a) = elim (whole_line (content whole) text (nat_le (length (content whole)) longest_line) none a) [
    | inl (short, same) ↦ (m, inl (short, refl), nothing_done same)
    | inr (next, explains, stands) ↦ (next, inr explains, stands)
  ]
