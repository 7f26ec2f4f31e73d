-- Lines that look at a path and are refused are explained where a desk stands for a machine, which it does after them too.
use Rattle.std.proofs.Common.{[], ap, inl, inr, refl, subst, sym, ◌∙◌, ◌∷◌, ◌≡◌, ◌⊎◌, Bool, Err, List, MatchOption, None, Ok, Option, Result, Some, false, if◌then◌else◌, length, nat_le, true, ℕ}
use Rattle.std.proofs.lemmas.Bool.{false≢true}
use Rattle.gs_base.specs.declared.config.Config.{Config}
use Rattle.gs_base.specs.declared.refusal.Refusal.{Refusal}
use Rattle.gs_base.specs.declared.refusal.Refusal.TheVariants as refusals
use Rattle.gs_client.specs.Looking.{count_in}
use Rattle.gs_client.specs.Reading.{stat_call, stat_of}
use Rattle.gs_client.specs.Replies.{looked}
use Rattle.gs_client.specs.Trees.{Call}
use Rattle.gs_client.specs.declared.client.Client.{Client}
use Rattle.gs_client.specs.declared.link.Reply.{Reply}
use Rattle.gs_client.specs.declared.reading.Stat.{Stat}
use Rattle.gs_client.specs.declared.reading.Stat.TheVariants as stats
use Rattle.gs_client_dialogue.specs.Dialogues.{FollowsDialogue}
use Rattle.gs_client_part.specs.Fetching.{fetch_of}
use Rattle.gs_client_part.specs.declared.located.Located.{Located}
use Rattle.gs_master_spec.specs.Calls.{is_any_deep}
use Rattle.gs_msg.specs.declared.answer.Answer.{Answer as Said}
use Rattle.gs_msg.specs.declared.answer.Status.TheVariants as statuses
use Rattle.gs_msg.specs.declared.call.Call.TheVariants as calls
use Rattle.gs_msg.specs.declared.chunk.Asked.{Asked as Wanted}
use Rattle.gs_msg.specs.declared.event.Request.{Request as Asked}
use Rattle.gs_msg.specs.declared.event.Request.TheVariants as requests
use Rattle.gs_path.specs.Path.{Path}
use Rattle.gs_path.specs.Rules.{parse_hidden}
use Rattle.gs_shell_calls.specs.Asked.{digest_of, given_bytes, given_digest, on, read_of, with_file}
use Rattle.gs_shell_calls.specs.Texts.{answer_text}
use Rattle.gs_shell_calls.specs.declared.answer.Answer.{Answer}
use Rattle.gs_shell_calls.specs.declared.answer.Answer.TheVariants as answers
use Rattle.gs_shell_desk.specs.Answering.{AnswersText, IsText}
use Rattle.gs_shell_desk.specs.Lines.{Comes}
use Rattle.gs_shell_desk.specs.declared.desk.Desk.{Desk}
use Rattle.gs_shell_desk.specs.declared.wire.Wire.{Wire}
use Rattle.gs_shell_grammar.specs.Grammar.{Request, line_request}
use Rattle.gs_shell_grammar.specs.Grammar as lines
use Rattle.gs_shell_line.specs.Line.{content, longest_line}
use Rattle.gs_shell_script.specs.Run.{AnswersIfShort, AnswersLine, memory_text}
use Rattle.gs_tree.specs.Entry.{Entry, File}
use Rattle.gs_tree.specs.Find.{at as at_path}
use Rattle.gs_laws_scripts.proofs.lemmas.explained.Asked.{TellsEntry}
use Rattle.gs_laws_scripts.proofs.lemmas.explained.Fetched.{SparesGiven, fetch_spares, fetch_stands, store_spares}
use Rattle.gs_laws_scripts.proofs.lemmas.explained.Following.{plain_splits}
use Rattle.gs_laws_scripts.proofs.lemmas.explained.Looked.{entry_there, look_there, may_status, places_told_there}
use Rattle.gs_laws_scripts.proofs.lemmas.explained.Refused.{read_is_shallow}
use Rattle.gs_laws_scripts.proofs.lemmas.explained.RefusedLooks.{ComesSo, IsOther, Opens, file_comes, no_look_spares, opens_go, refused_explained, spared_comes, stat_comes}
use Rattle.gs_laws_scripts.proofs.lemmas.explained.Spared.{Spares, digest_goes, file_goes, read_goes}
use Rattle.gs_laws_scripts.proofs.lemmas.explained.Still.{stands_still}
use Rattle.gs_laws_scripts.proofs.lemmas.lists.Lines.{Carries_at}
use Rattle.gs_laws_scripts.specs.explained.Changes.{TellsRefusal, is_look_line}
use Rattle.gs_laws_scripts.specs.explained.Lines.{Digests, Explains, Leads, OfFile, OnPath, Reads, Stats}
use Rattle.gs_laws_scripts.specs.explained.Looked.{TellsIndexOr}
use Rattle.gs_laws_scripts.specs.explained.Machine.{Machine, Text}
use Rattle.gs_laws_scripts.specs.explained.Standing.{Stands}
use Rattle.gs_laws_scripts.specs.lists.Scripts.{IsAccepted}
use Rattle.gs_laws_scripts.specs.plain.Machines.{asked_in}

-- ---- what is accepted

stat_accepts : (stat : Stat) → IsAccepted (answer_text (Ok (answers.Stat stat)))
stat_accepts stats.Directory = refl
stat_accepts (stats.File many chunks) = refl

bytes_accept : (bytes : List ℕ) → IsAccepted (answer_text (Ok (answers.Bytes bytes)))
bytes_accept [] = refl
bytes_accept (b ∷ bytes) = refl

digest_accepts : (digest : List ℕ) → IsAccepted (answer_text (Ok (answers.Digest digest)))
digest_accepts [] = refl
digest_accepts (b ∷ digest) = refl

-- where a chunk is isn't refused by the tree
index_spares : (m : Machine) (index : ℕ) (texts : List Text) (said : Result Said Refusal) → TellsIndexOr m index texts said → Spares said
index_spares m index texts (Ok said) tells = tt
index_spares m index texts (Err refusal) (inl unsure) = subst Spares (sym unsure) refl
index_spares m index texts (Err refusal) (inr (inl store)) = store_spares refusal store
index_spares m index texts (Err refusal) (inr (inr (range, past))) = subst (λ (e : Refusal). Spares {A = Said} (Err e)) (sym range) refl

module _ {D : Type 0} (seen : D → List ℕ) (failures : D → ℕ) (config : Config) (size block : ℕ) (old new : Desk D) (m : Machine) (st : Stands seen config old m) where
  abbrev at : Desk D → Client × Wire D
  at d = (d.caller.client, d.wire)

  -- the desk with another client and another wire
  abbrev pub desk_at : Client × Wire D → Desk D
  desk_at s = record old { caller = record old.caller { client = s.0 }; wire = s.1 }

  abbrev Holds : Client × Wire D → Type 0
  Holds s = Stands seen config (desk_at s) m

  pub holds_first : Holds (at old)
  holds_first = stands_still seen failures config size block old (desk_at (at old)) m st refl

  pub holds_last : Holds (at new) → Stands seen config new m
  holds_last holds = stands_still seen failures config size block (desk_at (at new)) new m holds refl

  -- ---- its requests

  module _ (p : Path) (deep : is_any_deep (calls.Status p) ≡ false) where
    pub asks : (before after : Client × Wire D) (reply : Reply) → Holds before → Carries_at seen failures before (requests.Call (calls.Status p)) reply after → Holds after × TellsEntry m p (looked reply)
    asks before after reply holds carried = (
      look_there seen failures config (desk_at before) (desk_at after) m holds (calls.Status p) reply refl (may_status seen failures config (desk_at before) (desk_at after) m holds p) carried,
      entry_there seen failures config (desk_at before) (desk_at after) m holds p reply deep carried,
    )

    finds : (texts : List Text) → at_path m.plain.tree p ≡ Some (File texts) → (index : ℕ) (before after : Client × Wire D) (reply : Reply) → Holds before → Carries_at seen failures before (requests.Call (calls.FindForReading p index)) reply after → Holds after × Spares (looked reply)
    finds texts found index before after reply holds carried =
        let told = places_told_there seen failures config (desk_at before) (desk_at after) m p index texts reply holds found deep carried in (told.1, index_spares m index texts (looked reply) told.0)

  fetches : (before after : Client × Wire D) (reply : Reply) (l : Located) (want : Wanted) (member : ℕ) → Holds before → Carries_at seen failures before (fetch_of l want member) reply after → Holds after × SparesGiven reply
  fetches before after reply l want member holds carried = (
    fetch_stands seen failures config (desk_at before) (desk_at after) m holds member l.handle l.view.stamp l.epoch want reply carried,
    fetch_spares seen failures config (desk_at before) (desk_at after) m holds member l.handle l.view.stamp l.epoch want reply carried,
  )

  abbrev carries : Client × Wire D → Asked → Reply → Client × Wire D → Type 0
  carries = Carries_at seen failures

  abbrev Comes_at : {A : Type 0} → Path → (Path → Option (Entry Text) → Machine → Result Answer Refusal → Machine → Type 0) → Call A → Type 0
  Comes_at p Does call = ComesSo carries Holds m p Does (Unit {0}) IsOther no_look_spares call

  stat_there : (chunk : ℕ) (p : Path) → is_any_deep (calls.Status p) ≡ false → Comes_at p (Stats size) (stat_call chunk p)
  stat_there chunk p deep =
      stat_comes carries Holds m p (Stats size) (Unit {0}) IsOther no_look_spares (asks p deep) chunk tt (refl, refl)
      (λ texts found chunks. spared_comes carries Holds m p (Stats size) (stat_of chunk p (statuses.File chunks)) (file_goes carries Holds fetches p (finds p deep texts found) chunk chunks))

  read_there : (chunk offset many : ℕ) (p : Path) → is_any_deep (calls.Status p) ≡ false → Comes_at p (OfFile (Reads size offset many)) (with_file (read_of chunk offset many) p)
  read_there chunk offset many p deep =
      let Does = OfFile (Reads size offset many) in
      file_comes carries Holds m p Does (Unit {0}) IsOther no_look_spares (asks p deep) (read_of chunk offset many) (refl, refl) (refl, refl)
      (λ texts found chunks. spared_comes carries Holds m p Does (Opens carries Holds m p Does (Unit {0}) IsOther no_look_spares (asks p deep) (read_of chunk offset many) (count_in chunks))
      (opens_go carries Holds m p Does (read_of chunk offset many) (λ count. read_goes carries Holds fetches p (finds p deep texts found) chunk count offset many) chunks))

  digest_there : (index part : ℕ) (p : Path) → is_any_deep (calls.Status p) ≡ false → Comes_at p (OfFile (Digests size block index part)) (with_file (digest_of index part) p)
  digest_there index part p deep =
      let Does = OfFile (Digests size block index part) in
      file_comes carries Holds m p Does (Unit {0}) IsOther no_look_spares (asks p deep) (digest_of index part) (refl, refl) (refl, refl)
      (λ texts found chunks. spared_comes carries Holds m p Does (Opens carries Holds m p Does (Unit {0}) IsOther no_look_spares (asks p deep) (digest_of index part) (count_in chunks))
      (opens_go carries Holds m p Does (digest_of index part) (λ count. digest_goes carries Holds fetches p (finds p deep texts found) count index part) chunks))

  -- ---- a line

  -- it is explained, and the desk stands for the machine as it was
  record Goes (request : Request) (text : List ℕ) : Type 0 where
    answer : Result Answer Refusal
    leads : Leads size block request m answer m
    is : IsText answer text
    stands : Stands seen config new m

  abbrev Does_at : Type 1
  Does_at = Path → Option (Entry Text) → Machine → Result Answer Refusal → Machine → Type 0

  abbrev Found : Does_at → Result Path Refusal → List ℕ → Type 0
  Found Does parsed text = (answer : Result Answer Refusal) × OnPath size parsed Does m answer m × IsText answer text × Stands seen config new m

  pub text_of : (refusal : Refusal) (text : List ℕ) (answer : Result Answer Refusal) → IsText answer text → (answer ≡ Err refusal) ⊎ (answer ≡ Err refusals.Memory) → IsText (Err refusal) text
  text_of refusal text answer is (inl same) = subst (λ a. IsText a text) same is
  text_of refusal text answer (inl said) (inr short) = inr (said ∙ ap answer_text short)
  text_of refusal text answer (inr memory) (inr short) = inr memory

  module _ (Does : Does_at) {A : Type 0} (call : Path → Call A) (shows : A → Answer) (accepts : (x : A) → IsAccepted (answer_text (Ok (shows x)))) (text : List ℕ) (refused : TellsRefusal text) where
    looked_so : (parsed : Result Path Refusal) → ((p : Path) → parsed ≡ Ok p → Comes_at p Does (call p)) → (answer : Result Answer Refusal) → IsText answer text → FollowsDialogue carries (on parsed call shows) (at old) answer (at new) → Found Does parsed text
    looked_so (Ok p) comes answer is (inl h) =
        let s = plain_splits carries (call p) shows (at old) (at new) answer h in
        let c = comes p refl (at old) (at new) s.0 holds_first s.2 in
        let e = refused_explained size m (Ok p) p refl Does carries Holds shows accepts text refused s.0 c.1 (subst (λ a. IsText a text) s.1 is) in (e.0, e.1, e.2, holds_last c.0)
    looked_so (Ok p) comes answer is (inr (short, same)) = (Err refusals.Memory, ([], m, refl, inl (refusals.Memory, refl, inl refl, refl)), text_of refusals.Memory text answer is (inr short), stands_still seen failures config size block old new m st same)
    looked_so (Err refusal) comes answer is (inl (came, same)) = (Err refusal, (refl, refl), text_of refusal text answer is (inl came), stands_still seen failures config size block old new m st same)
    looked_so (Err refusal) comes answer is (inr (short, same)) = (Err refusal, (refl, refl), text_of refusal text answer is (inr short), stands_still seen failures config size block old new m st same)

  request_goes : (request : Request) (answer : Result Answer Refusal) (text : List ℕ) → is_look_line (Some request) ≡ true → TellsRefusal text → IsText answer text → Comes seen failures request old answer new → Goes request text
  unfolding Comes
  request_goes (lines.Stat p) answer text look refused is comes =
      let chunk = old.caller.client.chunk in
      let f = looked_so (Stats size) (stat_call chunk) answers.Stat stat_accepts text refused (parse_hidden p) (λ path parses. stat_there chunk path (read_is_shallow p path parses)) answer is comes in record { answer = f.0; leads = f.1; is = f.2; stands = f.3 }
  request_goes (lines.Read p offset many) answer text look refused is comes =
      let chunk = old.caller.client.chunk in
      let f = looked_so (OfFile (Reads size offset many)) (with_file (read_of chunk offset many)) given_bytes (λ found. bytes_accept found.0) text refused (parse_hidden p) (λ path parses. read_there chunk offset many path (read_is_shallow p path parses)) answer is comes in
      record { answer = f.0; leads = f.1; is = f.2; stands = f.3 }
  request_goes (lines.Digest p index part) answer text look refused is comes =
      let f = looked_so (OfFile (Digests size block index part)) (with_file (digest_of index part)) given_digest (λ found. digest_accepts found.0) text refused (parse_hidden p) (λ path parses. digest_there index part path (read_is_shallow p path parses)) answer is comes in
      record { answer = f.0; leads = f.1; is = f.2; stands = f.3 }
  request_goes request answer text look refused is comes = absurd (false≢true look)

  -- ---- with its end

  abbrev LineGoes : List ℕ → List ℕ → Type 0
  LineGoes whole text = (next : Machine) × AnswersLine (Explains size block) m whole text next × Stands seen config new next

  abbrev Either : Bool → List ℕ → List ℕ → Type 0
  Either short line text = ((text ≡ memory_text) × (new ≡ old)) ⊎ ((next : Machine) × AnswersIfShort (Explains size block) short m line text next × Stands seen config new next)

  by_request : (line text : List ℕ) (o : Option Request) → is_look_line o ≡ true → TellsRefusal text
      → MatchOption o (IsText (Err refusals.BadLine) text × (new ≡ old)) (λ request. (answer : Result Answer Refusal) × Comes seen failures request old answer new × IsText answer text)
      → (next : Machine) × MatchOption o (IsText (Err refusals.BadLine) text × (next ≡ m)) (λ request. (answer : Result Answer Refusal) × Leads size block request m answer next × IsText answer text) × Stands seen config new next
  by_request line text None look refused given = absurd (false≢true look)
  by_request line text (Some request) look refused (answer, comes, text_is) = (let g = request_goes request answer text look refused text_is comes in (m, (g.answer, g.leads, g.is), g.stands))

  short_line : (line text : List ℕ) → is_look_line (line_request line) ≡ true → TellsRefusal text → AnswersText seen failures old line text new → Either true line text
  unfolding AnswersText
  short_line line text look refused (inl short) = inl short
  short_line line text look refused (inr came) = inr (by_request line text (line_request line) look refused came)

  whole_line : (line text : List ℕ) (short : Bool) → is_look_line (if short then line_request line else None) ≡ true → TellsRefusal text → AnswersIfShort (AnswersText seen failures) short old line text new → Either short line text
  whole_line line text true look refused a = short_line line text look refused a
  whole_line line text false look refused a = absurd (false≢true look)

  nothing_done : new ≡ old → Stands seen config new m
  nothing_done same = stands_still seen failures config size block old new m st (ap at same)

  pub look_line_goes : (whole text : List ℕ) → is_look_line (asked_in whole) ≡ true → TellsRefusal text → AnswersLine (AnswersText seen failures) old whole text new → LineGoes whole text
  look_line_goes whole text look refused (inl (short, same)) = (m, inl (short, refl), nothing_done same)
  look_line_goes whole text look refused (inr a) = elim (whole_line (content whole) text (nat_le (length (content whole)) longest_line) look refused a) [
    | inl (short, same) ↦ (m, inl (short, refl), nothing_done same)
    | inr (next, explains, stands) ↦ (next, inr explains, stands)
  ]
