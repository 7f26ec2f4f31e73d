-- What was said already, read on.
use Rattle.std.proofs.Common.{◌≡◌, Result, Ok, Err, refl, subst}
use Rattle.gs_base.specs.declared.refusal.Refusal.{Refusal}
use Rattle.gs_client_dialogue.specs.Dialogues.{Say, Call, both, FollowsDialogue}

module _ {S Q R A B : Type 0} (carries : S → Q → R → S → Type 0) (said : Result A Refusal) (go : A → Call Q R B) where
  pub says_err : (s : S) (refusal : Refusal) → Err refusal ≡ said → FollowsDialogue carries (both (Say said) go) s (Err refusal) s
  says_err s refusal is = subst (λ (r : Result A Refusal). FollowsDialogue carries (both (Say r) go) s (Err refusal) s) is (refl, refl)

  pub says_ok : (old new : S) (x : A) (result : Result B Refusal) → Ok x ≡ said → FollowsDialogue carries (go x) old result new → FollowsDialogue carries (both (Say said) go) old result new
  says_ok old new x result is follows = subst (λ (r : Result A Refusal). FollowsDialogue carries (both (Say r) go) old result new) is follows
