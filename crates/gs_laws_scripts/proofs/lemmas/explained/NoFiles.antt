-- A line that works on a file where no file stands: it is explained at its first look, and the desk stands for the machine after it.
use Rattle.std.proofs.Common.{[], ap, inl, inr, refl, subst, sym, ◌&&◌, ◌==◌, ◌∙◌, ◌∷◌, ◌≡◌, ◌⊎◌, ◌||◌, Bool, Err, List, MatchOption, None, Ok, Option, Result, Some, false, if◌then◌else◌, length, nat_le, not, true, ℕ}
use Rattle.std.specs.List.{list_all, list_any}
use Rattle.gs_base.specs.declared.config.Config.{Config}
use Rattle.gs_base.specs.declared.refusal.Refusal.{Refusal}
use Rattle.gs_base.specs.declared.refusal.Refusal.TheVariants as refusals
use Rattle.gs_client.specs.Opened.{File as Opened}
use Rattle.gs_client.specs.Trees.{Call}
use Rattle.gs_client.specs.declared.client.Client.{Client}
use Rattle.gs_client.specs.declared.link.Reply.{Reply}
use Rattle.gs_client_dialogue.specs.Dialogues.{FollowsDialogue}
use Rattle.gs_master_spec.specs.Calls.{is_any_deep}
use Rattle.gs_msg.specs.declared.call.Call.TheVariants as calls
use Rattle.gs_msg.specs.declared.event.Request.{Request as Asked}
use Rattle.gs_path.specs.Element.{is_element, is_hidden}
use Rattle.gs_path.specs.Path.{Path}
use Rattle.gs_path.specs.Rules.{elements_of, is_within_depth, judged, parse, parse_hidden, without_hidden}
use Rattle.gs_shell_calls.specs.Asked.{append_to, digest_of, done, given_bytes, given_digest, on, read_of, with_file, write_to}
use Rattle.gs_shell_calls.specs.declared.answer.Answer.{Answer}
use Rattle.gs_shell_calls.specs.declared.answer.Answer.TheVariants as answers
use Rattle.gs_shell_desk.specs.Answering.{AnswersText, IsText}
use Rattle.gs_shell_desk.specs.Lines.{Comes}
use Rattle.gs_shell_desk.specs.declared.desk.Desk.{Desk}
use Rattle.gs_shell_desk.specs.declared.wire.Wire.{Wire}
use Rattle.gs_shell_grammar.specs.Grammar.{Request, line_request}
use Rattle.gs_shell_grammar.specs.Grammar as lines
use Rattle.gs_shell_line.specs.Line.{content, longest_line}
use Rattle.gs_shell_script.specs.Run.{AnswersIfShort, AnswersLine, memory_text}
use Rattle.gs_tree.specs.Entry.{File}
use Rattle.gs_tree.specs.Find.{at as at_path}
use Rattle.gs_laws_scripts.proofs.lemmas.explained.Following.{plain_splits}
use Rattle.gs_laws_scripts.proofs.lemmas.explained.LookLines.{asks, desk_at, holds_first, holds_last, text_of}
use Rattle.gs_laws_scripts.proofs.lemmas.explained.Refused.{read_is_shallow}
use Rattle.gs_laws_scripts.proofs.lemmas.explained.RefusedLooks.{ComesSo, file_comes, unaccepted_explained}
use Rattle.gs_laws_scripts.proofs.lemmas.explained.Still.{stands_still}
use Rattle.gs_laws_scripts.proofs.lemmas.lists.Lines.{Carries_at}
use Rattle.gs_laws_scripts.specs.explained.Lines.{Appends, Digests, Explains, IsNoLook, Leads, OfFile, OnPath, Reads, Writes}
use Rattle.gs_laws_scripts.specs.explained.Machine.{Machine, Text}
use Rattle.gs_laws_scripts.specs.explained.NoFiles.{FindsNoFile, IsNoFile, LinesWithoutAFile, NoFileAt}
use Rattle.gs_laws_scripts.specs.explained.Standing.{Stands}
use Rattle.gs_laws_scripts.specs.plain.Machines.{asked_in}

-- ---- paths that are written

-- none is deep
written_is_shallow : (text : List ℕ) (p : Path) → parse text ≡ Ok p → is_any_deep (calls.Status p) ≡ false
written_is_shallow [] p is = absurd (cc)
written_is_shallow (c ∷ rest) p is = by_slash (c == 47) is
  where
    read : Path
    read = elements_of rest

    same : {a b : Path} → ◌≡◌ {A = Result Path Refusal} (Ok a) (Ok b) → a ≡ b
    same h = cc

    shallow : is_within_depth p ≡ true → is_any_deep (calls.Status p) ≡ false
    shallow is = ap (λ b. not b || false) is

    by_tests : (within whole : Bool) → is_within_depth read ≡ within → without_hidden (if within && whole then Ok read else Err refusals.BadPath) ≡ Ok p → is_any_deep (calls.Status p) ≡ false
    by_tests true true within h = by_hidden (list_any is_hidden read) h
      where
        by_hidden : (b : Bool) → (if b then Err refusals.HiddenName else Ok read) ≡ Ok p → is_any_deep (calls.Status p) ≡ false
        by_hidden true h = absurd (cc)
        by_hidden false h = shallow (ap is_within_depth (sym (same h)) ∙ within)
    by_tests true false within h = absurd (cc)
    by_tests false whole within h = absurd (cc)

    by_slash : (b : Bool) → without_hidden (if b then judged is_element read else Err refusals.BadPath) ≡ Ok p → is_any_deep (calls.Status p) ≡ false
    by_slash true h = by_tests (is_within_depth read) (list_all is_element read) refl h
    by_slash false h = absurd (cc)

-- no file stands there
never_there : {Z : Type 0} (m : Machine) (p : Path) (texts : List Text) → IsNoFile (at_path m.plain.tree p) → at_path m.plain.tree p ≡ Some (File texts) → Z
never_there m p texts none found = absurd (subst IsNoFile found none)

module _ {D : Type 0} (seen : D → List ℕ) (failures : D → ℕ) (config : Config) (size block : ℕ) (old new : Desk D) (m : Machine) (st : Stands seen config old m) where
  abbrev at : Desk D → Client × Wire D
  at d = (d.caller.client, d.wire)

  abbrev carries : Client × Wire D → Asked → Reply → Client × Wire D → Type 0
  carries = Carries_at seen failures

  abbrev Holds : Client × Wire D → Type 0
  Holds s = Stands seen config (desk_at seen failures config size block old new m st s) m

  -- it is explained, and the desk stands for the machine as it was
  record Goes (request : Request) (text : List ℕ) : Type 0 where
    answer : Result Answer Refusal
    leads : Leads size block request m answer m
    is : IsText answer text
    stands : Stands seen config new m

  abbrev Works_on : Type 1
  Works_on = Path → List Text → Machine → Result Answer Refusal → Machine → Type 0

  abbrev Found : Works_on → Result Path Refusal → List ℕ → Type 0
  Found Works parsed text = (answer : Result Answer Refusal) × OnPath size parsed (OfFile Works) m answer m × IsText answer text × Stands seen config new m

  module _ (Works : Works_on) {A : Type 0} (call : Opened → Call A) (shows : A → Answer) (text : List ℕ) where
    abbrev Comes_at : Path → Type 0
    Comes_at p = ComesSo carries Holds m p (OfFile Works) ⊥ IsNoLook (λ refusal none. none) (with_file call p)

    comes_there : (p : Path) → is_any_deep (calls.Status p) ≡ false → IsNoFile (at_path m.plain.tree p) → Comes_at p
    comes_there p deep none = file_comes carries Holds m p (OfFile Works) ⊥ IsNoLook (λ refusal none. none) (asks seen failures config size block old new m st p deep) call (refl, refl) (refl, refl) (λ texts found chunks. never_there m p texts none found)

    worked_so : (parsed : Result Path Refusal) → ((p : Path) → parsed ≡ Ok p → is_any_deep (calls.Status p) ≡ false) → NoFileAt m parsed → (answer : Result Answer Refusal) → IsText answer text → FollowsDialogue carries (on parsed (with_file call) shows) (at old) answer (at new) → Found Works parsed text
    worked_so (Ok p) deep none answer is (inl h) =
        let s = plain_splits carries (with_file call p) shows (at old) (at new) answer h in
        let c = comes_there p (deep p refl) none (at old) (at new) s.0 (holds_first seen failures config size block old new m st) s.2 in
        let e = unaccepted_explained size m (Ok p) p refl (OfFile Works) carries Holds shows text s.0 c.1 (subst (λ a. IsText a text) s.1 is) in (e.0, e.1, e.2, holds_last seen failures config size block old new m st c.0)
    worked_so (Ok p) deep none answer is (inr (short, same)) =
        (Err refusals.Memory, ([], m, refl, inl (refusals.Memory, refl, inl refl, refl)), text_of seen failures config size block old new m st refusals.Memory text answer is (inr short), stands_still seen failures config size block old new m st same)
    worked_so (Err refusal) deep none answer is (inl (came, same)) = (Err refusal, (refl, refl), text_of seen failures config size block old new m st refusal text answer is (inl came), stands_still seen failures config size block old new m st same)
    worked_so (Err refusal) deep none answer is (inr (short, same)) = (Err refusal, (refl, refl), text_of seen failures config size block old new m st refusal text answer is (inr short), stands_still seen failures config size block old new m st same)

  request_goes : (request : Request) (answer : Result Answer Refusal) (text : List ℕ) → FindsNoFile m (Some request) → IsText answer text → Comes seen failures request old answer new → Goes request text
  unfolding Comes
  request_goes (lines.Read p offset many) answer text none is comes =
      let f = worked_so (Reads size offset many) (read_of old.caller.client.chunk offset many) given_bytes text (parse_hidden p) (λ path parses. read_is_shallow p path parses) none answer is comes in record { answer = f.0; leads = f.1; is = f.2; stands = f.3 }
  request_goes (lines.Digest p chunk index) answer text none is comes =
      let f = worked_so (Digests size block chunk index) (digest_of chunk index) given_digest text (parse_hidden p) (λ path parses. read_is_shallow p path parses) none answer is comes in record { answer = f.0; leads = f.1; is = f.2; stands = f.3 }
  request_goes (lines.Write p offset bytes) answer text none is comes =
      let f = worked_so (Writes size offset bytes) (write_to old.caller.client.chunk offset bytes) done text (parse p) (λ path parses. written_is_shallow p path parses) none answer is comes in record { answer = f.0; leads = f.1; is = f.2; stands = f.3 }
  request_goes (lines.Append p bytes) answer text none is comes =
      let f = worked_so (Appends size bytes) (append_to old.caller.client.chunk bytes) answers.Number text (parse p) (λ path parses. written_is_shallow p path parses) none answer is comes in record { answer = f.0; leads = f.1; is = f.2; stands = f.3 }
  request_goes request answer text none is comes = absurd none

  -- ---- with its end

  abbrev LineGoes : List ℕ → List ℕ → Type 0
  LineGoes whole text = AnswersLine (Explains size block) m whole text m × Stands seen config new m

  abbrev Either : Bool → List ℕ → List ℕ → Type 0
  Either short line text = ((text ≡ memory_text) × (new ≡ old)) ⊎ (AnswersIfShort (Explains size block) short m line text m × Stands seen config new m)

  by_request : (line text : List ℕ) (o : Option Request) → FindsNoFile m o → MatchOption o (IsText (Err refusals.BadLine) text × (new ≡ old)) (λ request. (answer : Result Answer Refusal) × Comes seen failures request old answer new × IsText answer text)
      → MatchOption o (IsText (Err refusals.BadLine) text × (◌≡◌ {A = Machine} m m)) (λ request. (answer : Result Answer Refusal) × Leads size block request m answer m × IsText answer text) × Stands seen config new m
  by_request line text None none given = absurd none
  by_request line text (Some request) none (answer, comes, text_is) = (let g = request_goes request answer text none text_is comes in ((g.answer, g.leads, g.is), g.stands))

  short_line : (line text : List ℕ) → FindsNoFile m (line_request line) → AnswersText seen failures old line text new → Either true line text
  unfolding AnswersText
  short_line line text none (inl short) = inl short
  short_line line text none (inr came) = inr (by_request line text (line_request line) none came)

  whole_line : (line text : List ℕ) (short : Bool) → FindsNoFile m (if short then line_request line else None) → AnswersIfShort (AnswersText seen failures) short old line text new → Either short line text
  whole_line line text true none a = short_line line text none a
  whole_line line text false none a = absurd none

  nothing_done : new ≡ old → Stands seen config new m
  nothing_done same = stands_still seen failures config size block old new m st (ap at same)

  line_goes : (whole text : List ℕ) → FindsNoFile m (asked_in whole) → AnswersLine (AnswersText seen failures) old whole text new → LineGoes whole text
  line_goes whole text none (inl (short, same)) = (inl (short, refl), nothing_done same)
  line_goes whole text none (inr a) = elim (whole_line (content whole) text (nat_le (length (content whole)) longest_line) none a) [
    | inl (short, same) ↦ (inl (short, refl), nothing_done same)
    | inr (explains, stands) ↦ (inr explains, stands)
  ]

pub lines_without_a_file : {D : Type 0} → LinesWithoutAFile D
lines_without_a_file seen failures config size block old new whole text m st none answers = line_goes seen failures config size block old new m st whole text none answers
