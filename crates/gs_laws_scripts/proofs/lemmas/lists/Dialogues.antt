-- Which calls are behind a line that is answered by an epoch, or by names.
use Rattle.std.proofs.Common.{◌≡◌, ◌∙◌, ◌⊎◌, inl, inr, ℕ, Bool, true, false, List, Result, Ok, Err, refl, sym, ap, subst, if◌then◌else◌}
use Rattle.gs_base.specs.declared.refusal.Refusal.{Refusal}
use Rattle.gs_base.specs.declared.refusal.Refusal.TheVariants as refusals
use Rattle.gs_client.specs.Replies.{changed, epoch_in, looked, names_in}
use Rattle.gs_client.specs.Trees.{and_then, list_call, prepare_abort_call, prepare_commit_call, rollback_commit_call}
use Rattle.gs_client.specs.declared.link.Reply.{Reply}
use Rattle.gs_client.specs.declared.link.Reply.TheVariants as replies
use Rattle.gs_client_dialogue.specs.Dialogues.{FollowsDialogue, Say, onward, upon}
use Rattle.gs_msg.specs.declared.answer.Answer.TheVariants as said
use Rattle.gs_msg.specs.declared.lists.ListedName.{ListedName}
use Rattle.gs_msg.specs.declared.call.Call.TheVariants as calls
use Rattle.gs_msg.specs.declared.event.Request.{Request}
use Rattle.gs_msg.specs.declared.event.Request.TheVariants as requests
use Rattle.gs_path.specs.Path.{Path}
use Rattle.gs_path.specs.Rules.{parse_hidden}
use Rattle.gs_shell_calls.specs.Asked.{ends_so, is_unquiet, on, plain, prepare_line, rollback_line, unless_quiet}
use Rattle.gs_shell_calls.specs.declared.answer.Answer.{Answer as LineAnswer}
use Rattle.gs_shell_calls.specs.declared.answer.Answer.TheVariants as answers

-- ---- replies

-- an epoch that is said is an answer
epoch_said : (reply : Reply) (epoch : ℕ) → and_then epoch_in (changed reply) ≡ Ok epoch → reply ≡ replies.Answer (said.Epoch epoch)
epoch_said (replies.Answer (said.Epoch other)) epoch is = ap (λ k. replies.Answer (said.Epoch k)) (number_is is)
  where
    number_is : {a b : ℕ} → ◌≡◌ {A = Result ℕ Refusal} (Ok a) (Ok b) → a ≡ b
    number_is is = cc
epoch_said (replies.Answer answer) epoch is = absurd cc
epoch_said (replies.Refused refusal) epoch is = absurd cc
epoch_said replies.Lost epoch is = absurd cc
epoch_said reply epoch is = absurd cc

names_said : (reply : Reply) (names : List ListedName) → and_then names_in (looked reply) ≡ Ok names → reply ≡ replies.Answer (said.Names names)
names_said (replies.Answer (said.Names other)) names is = ap (λ k. replies.Answer (said.Names k)) (names_are is)
  where
    names_are : {a b : List ListedName} → ◌≡◌ {A = Result (List ListedName) Refusal} (Ok a) (Ok b) → a ≡ b
    names_are is = cc
names_said (replies.Answer answer) names is = absurd cc
names_said (replies.Refused refusal) names is = absurd cc
names_said replies.Lost names is = absurd cc
names_said reply names is = absurd cc

never : {Z : Type 0} (refusal : Refusal) (answer : LineAnswer) → ◌≡◌ {A = Result LineAnswer Refusal} (Ok answer) (Err refusal) → Z
never refusal answer is = absurd cc

number_is : {a b : ℕ} → ◌≡◌ {A = Result LineAnswer Refusal} (Ok (answers.Number a)) (Ok (answers.Number b)) → a ≡ b
number_is is = cc

names_are : {a b : List ListedName} → ◌≡◌ {A = Result LineAnswer Refusal} (Ok (answers.Names a)) (Ok (answers.Names b)) → a ≡ b
names_are is = cc

module _ {S : Type 0} (carries : S → Request → Reply → S → Type 0) where
  -- a call is carried, whatever is replied, or none is; and then the commit, to this epoch
  pub record BeginsAndCommits (begin commit : Request) (old : S) (epoch : ℕ) (new : S) : Type 0 where
    pub mid : S
    pub begins : ((reply : Reply) × carries old begin reply mid) ⊎ (mid ≡ old)
    pub commits : carries mid commit (replies.Answer (said.Epoch epoch)) new

  -- ---- a prepare

  unquiet_by : (b : Bool) (refusal : Refusal) (old new : S) (epoch : ℕ) {Z : Type 0} → FollowsDialogue carries (if b then upon prepare_abort_call (ends_so (Err refusal)) else Say (Err refusal)) old (Ok (answers.Number epoch)) new → Z
  unquiet_by true refusal old new epoch (reply, mid, carried, (is, same)) = never refusal (answers.Number epoch) is
  unquiet_by false refusal old new epoch (is, same) = never refusal (answers.Number epoch) is

  prepare_committed : (old mid new : S) (reply : Reply) (epoch : ℕ) (r : Result ℕ Refusal) → and_then epoch_in (changed reply) ≡ r → carries old (requests.Call calls.PrepareCommit) reply mid → FollowsDialogue carries (unless_quiet r) mid (Ok (answers.Number epoch)) new
      → carries old (requests.Call calls.PrepareCommit) (replies.Answer (said.Epoch epoch)) new
  prepare_committed old mid new reply epoch (Ok other) says carried (is, same) =
      subst (λ s. carries old (requests.Call calls.PrepareCommit) (replies.Answer (said.Epoch epoch)) s) (sym same)
      (subst (λ r. carries old (requests.Call calls.PrepareCommit) r mid) (epoch_said reply epoch (says ∙ ap (λ k. Ok k) (sym (number_is is)))) carried)
  prepare_committed old mid new reply epoch (Err refusal) says carried f = unquiet_by (is_unquiet refusal) refusal mid new epoch f

  prepare_begun : (old mid new : S) (reply : Reply) (epoch : ℕ) (r : Result ℕ Refusal) → carries old (requests.Call calls.PrepareBegin) reply mid → FollowsDialogue carries (onward (λ _. upon prepare_commit_call unless_quiet) r) mid (Ok (answers.Number epoch)) new
      → BeginsAndCommits (requests.Call calls.PrepareBegin) (requests.Call calls.PrepareCommit) old epoch new
  prepare_begun old mid new reply epoch (Ok other) begun (second, next, carried, rest) = record { mid = mid; begins = inl (reply, begun); commits = prepare_committed mid next new second epoch (and_then epoch_in (changed second)) refl carried rest }
  prepare_begun old mid new reply epoch (Err refusal) begun (is, same) = never refusal (answers.Number epoch) is

  pub prepare_asks : (old new : S) (epoch : ℕ) → FollowsDialogue carries prepare_line old (Ok (answers.Number epoch)) new → BeginsAndCommits (requests.Call calls.PrepareBegin) (requests.Call calls.PrepareCommit) old epoch new
  prepare_asks old new epoch (reply, mid, carried, rest) = prepare_begun old mid new reply epoch (and_then epoch_in (changed reply)) carried rest

  -- ---- a rollback

  committed : (commit : Request) (old mid new : S) (reply : Reply) (epoch : ℕ) (r : Result ℕ Refusal) → and_then epoch_in (changed reply) ≡ r → carries old commit reply mid → FollowsDialogue carries (onward (λ x. Say (Ok (answers.Number x))) r) mid (Ok (answers.Number epoch)) new
      → carries old commit (replies.Answer (said.Epoch epoch)) new
  committed commit old mid new reply epoch (Ok other) says carried (is, same) =
      subst (λ s. carries old commit (replies.Answer (said.Epoch epoch)) s) (sym same) (subst (λ r. carries old commit r mid) (epoch_said reply epoch (says ∙ ap (λ k. Ok k) (sym (number_is is)))) carried)
  committed commit old mid new reply epoch (Err refusal) says carried (is, same) = never refusal (answers.Number epoch) is

  rollback_begun : (old mid new : S) (reply : Reply) (epoch : ℕ) (r : Result ℕ Refusal) → carries old (requests.Call calls.RollbackBegin) reply mid → FollowsDialogue carries (onward (λ _. plain rollback_commit_call answers.Number) r) mid (Ok (answers.Number epoch)) new
      → BeginsAndCommits (requests.Call calls.RollbackBegin) (requests.Call calls.RollbackCommit) old epoch new
  rollback_begun old mid new reply epoch (Ok other) begun (second, next, carried, rest) = record { mid = mid; begins = inl (reply, begun); commits = committed (requests.Call calls.RollbackCommit) mid next new second epoch (and_then epoch_in (changed second)) refl carried rest }
  rollback_begun old mid new reply epoch (Err refusal) begun (is, same) = never refusal (answers.Number epoch) is

  pub rollback_asks : (old new : S) (epoch : ℕ) → FollowsDialogue carries rollback_line old (Ok (answers.Number epoch)) new → BeginsAndCommits (requests.Call calls.RollbackBegin) (requests.Call calls.RollbackCommit) old epoch new
  rollback_asks old new epoch (reply, mid, carried, rest) = rollback_begun old mid new reply epoch (and_then epoch_in (changed reply)) carried rest

  -- ---- a commit by itself

  pub prepare_commit_asks : (old new : S) (epoch : ℕ) → FollowsDialogue carries (plain prepare_commit_call answers.Number) old (Ok (answers.Number epoch)) new → BeginsAndCommits (requests.Call calls.PrepareBegin) (requests.Call calls.PrepareCommit) old epoch new
  prepare_commit_asks old new epoch (reply, mid, carried, rest) = record { mid = old; begins = inr refl; commits = committed (requests.Call calls.PrepareCommit) old mid new reply epoch (and_then epoch_in (changed reply)) refl carried rest }

  pub rollback_commit_asks : (old new : S) (epoch : ℕ) → FollowsDialogue carries (plain rollback_commit_call answers.Number) old (Ok (answers.Number epoch)) new → BeginsAndCommits (requests.Call calls.RollbackBegin) (requests.Call calls.RollbackCommit) old epoch new
  rollback_commit_asks old new epoch (reply, mid, carried, rest) = record { mid = old; begins = inr refl; commits = committed (requests.Call calls.RollbackCommit) old mid new reply epoch (and_then epoch_in (changed reply)) refl carried rest }

  -- ---- a list

  pub record Lists (p : List ℕ) (old : S) (names : List ListedName) (new : S) : Type 0 where
    pub path : Path
    pub parsed : parse_hidden p ≡ Ok path
    pub asks : carries old (requests.Call (calls.List path)) (replies.Answer (said.Names names)) new

  listed : (old mid new : S) (path : Path) (reply : Reply) (names : List ListedName) (r : Result (List ListedName) Refusal) → and_then names_in (looked reply) ≡ r → carries old (requests.Call (calls.List path)) reply mid
      → FollowsDialogue carries (onward (λ x. Say (Ok (answers.Names x))) r) mid (Ok (answers.Names names)) new → carries old (requests.Call (calls.List path)) (replies.Answer (said.Names names)) new
  listed old mid new path reply names (Ok other) says carried (is, same) =
      subst (λ s. carries old (requests.Call (calls.List path)) (replies.Answer (said.Names names)) s) (sym same)
      (subst (λ r. carries old (requests.Call (calls.List path)) r mid) (names_said reply names (says ∙ ap (λ k. Ok k) (sym (names_are is)))) carried)
  listed old mid new path reply names (Err refusal) says carried (is, same) = never refusal (answers.Names names) is

  list_parsed : (p : List ℕ) (old new : S) (names : List ListedName) (r : Result Path Refusal) → parse_hidden p ≡ r → FollowsDialogue carries (onward (λ path. plain (list_call path) answers.Names) r) old (Ok (answers.Names names)) new → Lists p old names new
  list_parsed p old new names (Ok path) is (reply, mid, carried, rest) = record { path = path; parsed = is; asks = listed old mid new path reply names (and_then names_in (looked reply)) refl carried rest }
  list_parsed p old new names (Err refusal) is (says, same) = never refusal (answers.Names names) says

  pub list_asks : (p : List ℕ) (old new : S) (names : List ListedName) → FollowsDialogue carries (on (parse_hidden p) list_call answers.Names) old (Ok (answers.Names names)) new → Lists p old names new
  list_asks p old new names (inl goes) = list_parsed p old new names (parse_hidden p) refl goes
  list_asks p old new names (inr (is, same)) = never refusals.Memory (answers.Names names) is
