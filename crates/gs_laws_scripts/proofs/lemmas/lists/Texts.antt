-- What a text of an answer tells of it.
use Rattle.std.proofs.Common.{◌≡◌, ◌∙◌, ◌⊎◌, inl, inr, ◌++◌, ℕ, Bool, true, false, List, [], ◌∷◌, Result, Ok, Err, refl, sym, ap, arith, if◌then◌else◌}
use Rattle.std.specs.Prelude.{codes, decimal, get_or, take}
use Rattle.std.proofs.lemmas.Fmt.{decimal_injective}
use Rattle.gs_base.specs.Told.{IsNumber}
use Rattle.gs_base.specs.Refusals.{refusal_text}
use Rattle.gs_base.specs.declared.refusal.Refusal.{Refusal}
use Rattle.gs_base.specs.declared.refusal.Refusal.TheVariants as refusals
use Rattle.gs_client.specs.Replies.{changed, epoch_in, looked, names_in}
use Rattle.gs_client.specs.Trees.{and_then, list_call, prepare_abort_call, prepare_commit_call, rollback_commit_call}
use Rattle.gs_client.specs.declared.link.Reply.{Reply}
use Rattle.gs_client_dialogue.specs.Dialogues.{FollowsDialogue, Say, onward, upon}
use Rattle.gs_msg.specs.declared.event.Request.{Request}
use Rattle.gs_msg.specs.declared.lists.ListedName.{ListedName}
use Rattle.gs_path.specs.Path.{Path}
use Rattle.gs_path.specs.Rules.{parse_hidden}
use Rattle.gs_shell_calls.specs.Asked.{ends_so, is_unquiet, on, plain, prepare_line, rollback_line, unless_quiet}
use Rattle.gs_shell_calls.specs.Texts.{answer_text}
use Rattle.gs_shell_calls.specs.declared.answer.Answer.{Answer}
use Rattle.gs_shell_calls.specs.declared.answer.Answer.TheVariants as answers
use Rattle.gs_shell_desk.specs.Answering.{IsText}
use Rattle.gs_laws_scripts.specs.lists.Scripts.{IsAccepted}

refusal_first : (r : Refusal) → get_or (refusal_text r) 0 0 ≡ 114
refusal_first refusals.BadPath = refl
refusal_first refusals.HiddenName = refl
refusal_first refusals.NotFound = refl
refusal_first refusals.Exists = refl
refusal_first refusals.NotADirectory = refl
refusal_first refusals.IsADirectory = refl
refusal_first refusals.NotEmpty = refl
refusal_first refusals.IntoItself = refl
refusal_first refusals.IsRoot = refl
refusal_first refusals.Locked = refl
refusal_first refusals.Preparing = refl
refusal_first refusals.RollingBack = refl
refusal_first refusals.NotUpgrading = refl
refusal_first refusals.AlreadyUpgrading = refl
refusal_first (refusals.NotQuiet d) = refl
refusal_first (refusals.Unrestored d) = refl
refusal_first refusals.NoServer = refl
refusal_first (refusals.Epoch d) = refl
refusal_first refusals.Old = refl
refusal_first refusals.NotPrimary = refl
refusal_first refusals.LeaseOver = refl
refusal_first (refusals.Stamp d) = refl
refusal_first (refusals.Gap d) = refl
refusal_first refusals.NoData = refl
refusal_first refusals.Range = refl
refusal_first refusals.TooLong = refl
refusal_first (refusals.Damaged d) = refl
refusal_first refusals.NoReplica = refl
refusal_first refusals.Unsure = refl
refusal_first refusals.Full = refl
refusal_first refusals.Exhausted = refl
refusal_first refusals.Device = refl
refusal_first refusals.Memory = refl
refusal_first refusals.BadLine = refl
refusal_first refusals.Config = refl
refusal_first (refusals.Pending d) = refl
refusal_first refusals.Stray = refl
refusal_first refusals.NotHidden = refl

first_of_two : (text : List ℕ) → get_or (take 2 text) 0 0 ≡ get_or text 0 0
first_of_two [] = refl
first_of_two (x ∷ xs) = refl

-- a refusal isn't accepted
pub refused_never : {Z : Type 0} (r : Refusal) (text : List ℕ) → text ≡ refusal_text r → IsAccepted text → Z
refused_never r text is accepted = absurd (apart (sym (refusal_first r) ∙ ap (λ (t : List ℕ). get_or t 0 0) (sym is) ∙ sym (first_of_two text) ∙ ap (λ (t : List ℕ). get_or t 0 0) accepted))
  where
    apart : ◌≡◌ {A = ℕ} 114 111 → ⊥
    apart is = omega arith

-- ---- what lines come to

module _ {S : Type 0} (carries : S → Request → Reply → S → Type 0) where
  abbrev IsNumber_or : Result Answer Refusal → Type 0
  IsNumber_or result = ((k : ℕ) × (result ≡ Ok (answers.Number k))) ⊎ ((refusal : Refusal) × (result ≡ Err refusal))

  abbrev AreNames_or : Result Answer Refusal → Type 0
  AreNames_or result = ((names : List ListedName) × (result ≡ Ok (answers.Names names))) ⊎ ((refusal : Refusal) × (result ≡ Err refusal))

  unquiet_comes : (b : Bool) (refusal : Refusal) (old new : S) (result : Result Answer Refusal) → FollowsDialogue carries (if b then upon prepare_abort_call (ends_so (Err refusal)) else Say (Err refusal)) old result new → IsNumber_or result
  unquiet_comes true refusal old new result (reply, mid, carried, (is, same)) = inr (refusal, is)
  unquiet_comes false refusal old new result (is, same) = inr (refusal, is)

  commit_comes : (r : Result ℕ Refusal) (old new : S) (result : Result Answer Refusal) → FollowsDialogue carries (unless_quiet r) old result new → IsNumber_or result
  commit_comes (Ok k) old new result (is, same) = inl (k, is)
  commit_comes (Err refusal) old new result f = unquiet_comes (is_unquiet refusal) refusal old new result f

  begin_comes : (r : Result ℕ Refusal) (old new : S) (result : Result Answer Refusal) → FollowsDialogue carries (onward (λ _. upon prepare_commit_call unless_quiet) r) old result new → IsNumber_or result
  begin_comes (Ok k) old new result (reply, mid, carried, rest) = commit_comes (and_then epoch_in (changed reply)) mid new result rest
  begin_comes (Err refusal) old new result (is, same) = inr (refusal, is)

  pub prepare_comes : (old new : S) (result : Result Answer Refusal) → FollowsDialogue carries prepare_line old result new → IsNumber_or result
  prepare_comes old new result (reply, mid, carried, rest) = begin_comes (and_then epoch_in (changed reply)) mid new result rest

  rolled_comes : (r : Result ℕ Refusal) (old new : S) (result : Result Answer Refusal) → FollowsDialogue carries (onward (λ x. Say (Ok (answers.Number x))) r) old result new → IsNumber_or result
  rolled_comes (Ok k) old new result (is, same) = inl (k, is)
  rolled_comes (Err refusal) old new result (is, same) = inr (refusal, is)

  roll_comes : (r : Result ℕ Refusal) (old new : S) (result : Result Answer Refusal) → FollowsDialogue carries (onward (λ _. plain rollback_commit_call answers.Number) r) old result new → IsNumber_or result
  roll_comes (Ok k) old new result (reply, mid, carried, rest) = rolled_comes (and_then epoch_in (changed reply)) mid new result rest
  roll_comes (Err refusal) old new result (is, same) = inr (refusal, is)

  pub rollback_comes : (old new : S) (result : Result Answer Refusal) → FollowsDialogue carries rollback_line old result new → IsNumber_or result
  rollback_comes old new result (reply, mid, carried, rest) = roll_comes (and_then epoch_in (changed reply)) mid new result rest

  pub prepare_commit_comes : (old new : S) (result : Result Answer Refusal) → FollowsDialogue carries (plain prepare_commit_call answers.Number) old result new → IsNumber_or result
  prepare_commit_comes old new result (reply, mid, carried, rest) = rolled_comes (and_then epoch_in (changed reply)) mid new result rest

  pub rollback_commit_comes : (old new : S) (result : Result Answer Refusal) → FollowsDialogue carries (plain rollback_commit_call answers.Number) old result new → IsNumber_or result
  rollback_commit_comes old new result (reply, mid, carried, rest) = rolled_comes (and_then epoch_in (changed reply)) mid new result rest

  named_comes : (r : Result (List ListedName) Refusal) (old new : S) (result : Result Answer Refusal) → FollowsDialogue carries (onward (λ x. Say (Ok (answers.Names x))) r) old result new → AreNames_or result
  named_comes (Ok names) old new result (is, same) = inl (names, is)
  named_comes (Err refusal) old new result (is, same) = inr (refusal, is)

  parsed_comes : (r : Result Path Refusal) (old new : S) (result : Result Answer Refusal) → FollowsDialogue carries (onward (λ path. plain (list_call path) answers.Names) r) old result new → AreNames_or result
  parsed_comes (Ok path) old new result (reply, mid, carried, rest) = named_comes (and_then names_in (looked reply)) mid new result rest
  parsed_comes (Err refusal) old new result (is, same) = inr (refusal, is)

  pub list_comes : (p : List ℕ) (old new : S) (result : Result Answer Refusal) → FollowsDialogue carries (on (parse_hidden p) list_call answers.Names) old result new → AreNames_or result
  list_comes p old new result (inl goes) = parsed_comes (parse_hidden p) old new result goes
  list_comes p old new result (inr (is, same)) = inr (refusals.Memory, is)

-- ---- which answer it is

same_digits : (a b : ℕ) → codes "ok " ++ decimal a ≡ codes "ok " ++ decimal b → decimal a ≡ decimal b
same_digits a b is = tail is
  where
    tail : {x y : List ℕ} → codes "ok " ++ x ≡ codes "ok " ++ y → x ≡ y
    tail is = cc

-- numbers of 64 bits with the same digits are the same
pub same_numbers : (a b : ℕ) → IsNumber a → IsNumber b → decimal a ≡ decimal b → a ≡ b
same_numbers a b first second is = decimal_injective a b first second is

pub number_told : (result : Result Answer Refusal) (text : List ℕ) (epoch : ℕ) → ((k : ℕ) × (result ≡ Ok (answers.Number k))) ⊎ ((refusal : Refusal) × (result ≡ Err refusal)) → IsText result text → text ≡ codes "ok " ++ decimal epoch → (k : ℕ) × (result ≡ Ok (answers.Number k)) × (decimal k ≡ decimal epoch)
number_told result text epoch what (inr memory) is = refused_never refusals.Memory text memory (ap (take 2) is)
number_told result text epoch (inl (k, number)) (inl told) is = (k, number, same_digits k epoch (sym (ap answer_text number) ∙ sym told ∙ is))
number_told result text epoch (inr (refusal, refused)) (inl told) is = refused_never refusal text (told ∙ ap answer_text refused) (ap (take 2) is)

pub names_told : (result : Result Answer Refusal) (text : List ℕ) → ((names : List ListedName) × (result ≡ Ok (answers.Names names))) ⊎ ((refusal : Refusal) × (result ≡ Err refusal)) → IsText result text → IsAccepted text
    → (names : List ListedName) × (result ≡ Ok (answers.Names names)) × (text ≡ answer_text (Ok (answers.Names names)))
names_told result text what (inr memory) accepted = refused_never refusals.Memory text memory accepted
names_told result text (inl (names, is)) (inl told) accepted = (names, is, told ∙ ap answer_text is)
names_told result text (inr (refusal, refused)) (inl told) accepted = refused_never refusal text (told ∙ ap answer_text refused) accepted
