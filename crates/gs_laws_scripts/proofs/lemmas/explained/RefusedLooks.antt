-- A look at a path that is refused: as a dialogue, and as the machine has it.
use Rattle.std.proofs.Common.{ap, inl, inr, refl, subst, sym, ◌*◌, ◌+◌, ◌-◌, ◌==◌, ◌∙◌, ◌≡◌, ◌⊎◌, ◌||◌, Bool, Err, List, None, Ok, Option, Result, Some, false, if◌then◌else◌, nat_le, true, ℕ}
use Rattle.std.specs.Fmt.{digits}
use Rattle.std.specs.Prelude.{[], get_or, length, take}
use Rattle.std.proofs.lemmas.Bool.{false≢true}
use Rattle.gs_base.specs.Refusals.{number_of, refusal_text}
use Rattle.gs_base.specs.declared.refusal.Refusal.{Refusal}
use Rattle.gs_base.specs.declared.refusal.Refusal.TheVariants as refusals
use Rattle.gs_client.specs.Files.{opened_with}
use Rattle.gs_client.specs.Opened.{File as Opened}
use Rattle.gs_client.specs.Reading.{stat_call, stat_of}
use Rattle.gs_client.specs.Looking.{count_in}
use Rattle.gs_client.specs.Replies.{chunks_in, looked, status_in}
use Rattle.gs_client.specs.Trees.{Call, and_then}
use Rattle.gs_client.specs.declared.link.Reply.{Reply}
use Rattle.gs_client_dialogue.specs.Dialogues.{FollowsDialogue, Say, onward, upon}
use Rattle.gs_client_part.specs.Writing.{most_chunks}
use Rattle.gs_laws_chunks.specs.answers.OfTree.{is_of_tree}
use Rattle.gs_msg.specs.declared.answer.Answer.{Answer as Said}
use Rattle.gs_msg.specs.declared.answer.Answer.TheVariants as says
use Rattle.gs_msg.specs.declared.answer.ChunkStatus.{ChunkStatus}
use Rattle.gs_msg.specs.declared.answer.Status.TheVariants as statuses
use Rattle.gs_msg.specs.declared.call.Call.TheVariants as calls
use Rattle.gs_msg.specs.declared.event.Request.{Request}
use Rattle.gs_msg.specs.declared.event.Request.TheVariants as requests
use Rattle.gs_path.specs.Path.{Path}
use Rattle.gs_shell_calls.specs.Asked.{answered, with_file}
use Rattle.gs_shell_calls.specs.Texts.{answer_text}
use Rattle.gs_shell_calls.specs.declared.answer.Answer.{Answer}
use Rattle.gs_shell_desk.specs.Answering.{IsText}
use Rattle.gs_tree.specs.Entry.{Dir, Entry, File}
use Rattle.gs_tree.specs.Find.{at}
use Rattle.gs_laws_scripts.proofs.lemmas.explained.Asked.{TellsEntry}
use Rattle.gs_laws_scripts.proofs.lemmas.explained.Fetched.{store_spares}
use Rattle.gs_laws_scripts.proofs.lemmas.explained.Spared.{Goes, Spares, say_goes}
use Rattle.gs_laws_scripts.proofs.lemmas.lists.Texts.{refused_never}
use Rattle.gs_laws_scripts.specs.explained.Changes.{TellsRefusal, may_refuse_look}
use Rattle.gs_laws_scripts.specs.explained.Lines.{IsNoLook, OnPath}
use Rattle.gs_laws_scripts.specs.explained.Machine.{Machine, Text, is_rolling}
use Rattle.gs_laws_scripts.specs.lists.Scripts.{IsAccepted}

-- ---- what the text of a refusal tells

-- one or two digits
abbrev number_in : List ℕ → ℕ
number_in text = if get_or text 9 0 == 32 then get_or text 8 0 - 48 else (get_or text 8 0 - 48) * 10 + (get_or text 9 0 - 48)

number_told : (refusal : Refusal) → number_in (refusal_text refusal) ≡ number_of refusal
unfolding digits
number_told refusals.BadPath = refl
number_told refusal = refl

same_number : (e f : Refusal) → refusal_text e ≡ refusal_text f → number_of e ≡ number_of f
same_number e f is = sym (number_told e) ∙ ap number_in is ∙ number_told f

is_unsure : (refusal : Refusal) → (number_of refusal == 29) ≡ true → refusal ≡ refusals.Unsure
is_unsure refusals.Unsure is = refl
is_unsure refusal is = absurd (false≢true is)

unless_first : (a b c : Bool) → a ≡ false → (a || (b || c)) ≡ true → (b ≡ true) ⊎ (c ≡ true)
unless_first true b c other is = absurd (false≢true (sym other))
unless_first false true c other is = inl refl
unless_first false false c other is = inr is

-- if the tree doesn't refuse so, then the store does, or nobody is sure
no_look : (refusal : Refusal) → is_of_tree refusal ≡ false → may_refuse_look (number_of refusal) ≡ true → IsNoLook refusal
no_look refusal other may = elim (unless_first (is_of_tree refusal) (number_of refusal == 29) _ other may) [
  | inl is ↦ inr (is_unsure refusal is)
  | inr store ↦ inl store
]

pub no_look_spares : (refusal : Refusal) → IsNoLook refusal → is_of_tree refusal ≡ false
no_look_spares refusal (inl store) = store_spares refusal store
no_look_spares refusal (inr unsure) = subst (λ e. is_of_tree e ≡ false) (sym unsure) refl

-- ---- what a dialogue comes to

module _ {S : Type 0} (carries : S → Request → Reply → S → Type 0) (Holds : S → Type 0) (m : Machine) (p : Path) (Does : Path → Option (Entry Text) → Machine → Result Answer Refusal → Machine → Type 0) (May : Type 0) (Such : Refusal → Type 0)
    (such : (refusal : Refusal) → IsNoLook refusal → Such refusal) where
  -- it may be accepted if this holds; a refusal is such, or it is what the line does by what the machine has there
  abbrev pub Ends : {A : Type 0} → Result A Refusal → Type 0
  Ends (Ok x) = May
  Ends (Err refusal) = Such refusal ⊎ ((is_rolling m.phase ≡ false) × Does p (at m.plain.tree p) m (Err refusal) m)

  -- what it comes to, and what holds after it
  abbrev pub ComesSo : {A : Type 0} → Call A → Type 0
  ComesSo {A} call = (old new : S) (r : Result A Refusal) → Holds old → FollowsDialogue carries call old r new → Holds new × Ends r

  said_comes : {A : Type 0} (said r : Result A Refusal) (mid new : S) → Ends said → Holds mid → (r ≡ said) × (new ≡ mid) → Holds new × Ends r
  said_comes said r mid new ends holds (is, same) = (subst Holds (sym same) holds, subst Ends (sym is) ends)

  module _ (asks : (old new : S) (reply : Reply) → Holds old → carries old (requests.Call (calls.Status p)) reply new → Holds new × TellsEntry m p (looked reply)) where
    -- where the tree has nothing the line is refused so
    missing : (refusal : Refusal) → Does p None m (Err refusals.NotFound) m → IsNoLook refusal ⊎ ((refusal ≡ refusals.NotFound) × (is_rolling m.phase ≡ false) × (at m.plain.tree p ≡ None))
        → Such refusal ⊎ ((is_rolling m.phase ≡ false) × Does p (at m.plain.tree p) m (Err refusal) m)
    missing refusal does (inl none) = inl (such refusal none)
    missing refusal does (inr (is, calm, found)) = inr (calm, subst (λ e. Does p (at m.plain.tree p) m (Err e) m) (sym is) (subst (λ entry. Does p entry m (Err refusals.NotFound) m) (sym found) does))

    -- memory is wanting
    short : Such refusals.Memory
    short = such refusals.Memory (inl refl)

    -- ---- a status

    pub stat_comes : (size : ℕ) → May → Does p None m (Err refusals.NotFound) m → ((texts : List Text) → at m.plain.tree p ≡ Some (File texts) → (chunks : List ChunkStatus) → ComesSo (stat_of size p (statuses.File chunks))) → ComesSo (stat_call size p)
    stat_comes size may does file old new r holds (inr (is, same)) = said_comes (Err refusals.Memory) r old new (inl short) holds (is, same)
    stat_comes size may does file old new r holds (inl (reply, mid, one, rest)) = (let a = asks old mid reply holds one in by_said (looked reply) a.1 a.0 rest)
      where
        by_said : (said : Result Said Refusal) → TellsEntry m p said → Holds mid → FollowsDialogue carries (onward (stat_of size p) (and_then status_in said)) mid r new → Holds new × Ends r
        by_said (Ok (says.Status statuses.Directory)) tells there rest = said_comes (Ok _) r mid new may there rest
        by_said (Ok (says.Status (statuses.File chunks))) (calm, texts, found) there rest = file texts found chunks mid new r there rest
        by_said (Ok said) tells there rest = absurd tells
        by_said (Err refusal) tells there rest = said_comes (Err refusal) r mid new (missing refusal does tells) there rest

    -- ---- a call on an open file

    module _ {A : Type 0} (call : Opened → Call A) where
      -- what comes after a file's status
      abbrev pub Opens : Result ℕ Refusal → Call A
      Opens counted = upon (upon (Say counted) (onward (λ chunks. Say (Ok (opened_with p chunks))))) (onward call)

      -- and after any
      abbrev AfterStatus : Result Said Refusal → Call A
      AfterStatus said = upon (upon (onward (λ status. upon (Say (chunks_in status)) (onward (λ chunks. Say (count_in chunks)))) (and_then status_in said)) (onward (λ chunks. Say (Ok (opened_with p chunks))))) (onward call)

      pub file_comes : Does p None m (Err refusals.NotFound) m → Does p (Some Dir) m (Err refusals.IsADirectory) m → ((texts : List Text) → at m.plain.tree p ≡ Some (File texts) → (chunks : List ChunkStatus) → ComesSo (Opens (count_in chunks))) → ComesSo (with_file call p)
      file_comes does is_dir file old new r holds (inr (is, same)) = said_comes (Err refusals.Memory) r old new (inl short) holds (is, same)
      file_comes does is_dir file old new r holds (inl (reply, mid, one, rest)) = (let a = asks old mid reply holds one in by_said (looked reply) a.1 a.0 rest)
        where
          by_said : (said : Result Said Refusal) → TellsEntry m p said → Holds mid → FollowsDialogue carries (AfterStatus said) mid r new → Holds new × Ends r
          by_said (Ok (says.Status statuses.Directory)) (calm, dir) there rest = said_comes (Err refusals.IsADirectory) r mid new (inr (calm, subst (λ entry. Does p entry m (Err refusals.IsADirectory) m) (sym dir) is_dir)) there rest
          by_said (Ok (says.Status (statuses.File chunks))) (calm, texts, found) there rest = file texts found chunks mid new r there rest
          by_said (Ok said) tells there rest = absurd tells
          by_said (Err refusal) tells there rest = said_comes (Err refusal) r mid new (missing refusal does tells) there rest

-- ---- where a file stands nothing is refused by the tree

abbrev pub IsOther : Refusal → Type 0
IsOther refusal = is_of_tree refusal ≡ false

module _ {S : Type 0} (carries : S → Request → Reply → S → Type 0) (Holds : S → Type 0) (m : Machine) (p : Path) (Does : Path → Option (Entry Text) → Machine → Result Answer Refusal → Machine → Type 0) where
  abbrev EndsSo : {A : Type 0} → Result A Refusal → Type 0
  EndsSo r = Ends carries Holds m p Does (Unit {0}) IsOther no_look_spares r

  spared_ends : {A : Type 0} (r : Result A Refusal) → Spares r → EndsSo r
  spared_ends (Ok x) spares = tt
  spared_ends (Err refusal) spares = inl spares

  pub spared_comes : {A : Type 0} (call : Call A) → Goes carries Holds call → ComesSo carries Holds m p Does (Unit {0}) IsOther no_look_spares call
  spared_comes call goes old new r holds h = (let g = goes old new r holds h in (g.0, spared_ends r g.1))

  module _ {A : Type 0} (call : Opened → Call A) (goes : (many : ℕ) → Goes carries Holds (call (opened_with p many))) where
    counted_go : (many : ℕ) (b : Bool) → Goes carries Holds (upon (upon (Say (if b then Ok many else Err refusals.Stray)) (onward (λ chunks. Say (Ok (opened_with p chunks))))) (onward call))
    counted_go many true = goes many
    counted_go many false = say_goes carries Holds (Err refusals.Stray) refl

    pub opens_go : (chunks : List ChunkStatus) → Goes carries Holds (upon (upon (Say (count_in chunks)) (onward (λ chunks. Say (Ok (opened_with p chunks))))) (onward call))
    opens_go chunks = counted_go (length chunks) (nat_le (length chunks) most_chunks)

-- ---- the machine

-- a line that is refused so is explained: the machine tells why, or the store refuses it, or nobody is sure
module _ (size : ℕ) (m : Machine) (parsed : Result Path Refusal) (p : Path) (parses : parsed ≡ Ok p) (Does : Path → Option (Entry Text) → Machine → Result Answer Refusal → Machine → Type 0) where
  abbrev Explained : List ℕ → Type 0
  Explained text = (answer : Result Answer Refusal) × OnPath size parsed Does m answer m × IsText answer text

  off : (refusal : Refusal) → IsNoLook refusal → OnPath size parsed Does m (Err refusal) m
  off refusal none = subst (λ r. OnPath size r Does m (Err refusal) m) (sym parses) ([], m, refl, inl (refusal, refl, none, refl))

  met : (refusal : Refusal) → is_rolling m.phase ≡ false → Does p (at m.plain.tree p) m (Err refusal) m → OnPath size parsed Does m (Err refusal) m
  met refusal calm does = subst (λ r. OnPath size r Does m (Err refusal) m) (sym parses) ([], m, refl, inr (calm, does))

  refused_so : (refusal : Refusal) → may_refuse_look (number_of refusal) ≡ true → IsOther refusal ⊎ ((is_rolling m.phase ≡ false) × Does p (at m.plain.tree p) m (Err refusal) m) → OnPath size parsed Does m (Err refusal) m
  refused_so refusal may (inl other) = off refusal (no_look refusal other may)
  refused_so refusal may (inr (calm, does)) = met refusal calm does

  module _ {A : Type 0} {S : Type 0} (carries : S → Request → Reply → S → Type 0) (Holds : S → Type 0) (shows : A → Answer) where
    pub refused_explained : ((x : A) → IsAccepted (answer_text (Ok (shows x)))) → (text : List ℕ) → TellsRefusal text → (r : Result A Refusal) → Ends carries Holds m p Does (Unit {0}) IsOther no_look_spares r → IsText (answered shows r) text → Explained text
    refused_explained accepts text (refusal, may, told) r ends (inr memory) = (Err refusals.Memory, off refusals.Memory (inl refl), inr memory)
    refused_explained accepts text (refusal, may, told) (Ok x) ends (inl said) = refused_never refusal text told (ap (λ (t : List ℕ). take 2 t) said ∙ accepts x)
    refused_explained accepts text (refusal, may, told) (Err other) ends (inl said) =
        (Err other, refused_so other (subst (λ n. may_refuse_look n ≡ true) (same_number refusal other (sym told ∙ said)) may) ends, inl said)

    -- and one that nothing accepts, whatever is told
    pub unaccepted_explained : (text : List ℕ) (r : Result A Refusal) → Ends carries Holds m p Does ⊥ IsNoLook (λ refusal none. none) r → IsText (answered shows r) text → Explained text
    unaccepted_explained text (Ok x) ends is = absurd ends
    unaccepted_explained text (Err refusal) (inl none) is = (Err refusal, off refusal none, is)
    unaccepted_explained text (Err refusal) (inr (calm, does)) is = (Err refusal, met refusal calm does, is)
