-- Calls, one after another.
use Rattle.std.proofs.Common.{◌≡◌, ◌≢◌, Bool, true, false, cond, inl, inr, Result, Ok, Err, refl, sym, ap, subst}
use Rattle.gs_client_dialogue.specs.Dialogues.{Say, Ask, Grow, Call, upon, onward, both, FollowsDialogue, Leads}
use Rattle.gs_base.specs.declared.refusal.Refusal.{Refusal}
use Rattle.gs_base.specs.declared.refusal.Refusal.TheVariants.{Memory}

pub follows_said : {S Q R A : Type 0} (carries : S → Q → R → S → Type 0) (said : Result A Refusal) (s : S) → FollowsDialogue carries (Say said) s said s
follows_said carries said s = (refl, refl)

abbrev refused : (A : Type 0) → Refusal → Result A Refusal
refused A e = Err e

err_is : (A : Type 0) (e f : Refusal) → refused A e ≡ refused A f → e ≡ f
err_is A e f h = cc

-- the first call came to a refusal that ends both
pub follows_err : {S Q R A B : Type 0} (carries : S → Q → R → S → Type 0) (call : Call Q R A) (go : Result A Refusal → Call Q R B) (old mid : S) (refusal : Refusal)
    → go (Err refusal) ≡ Say (Err refusal) → FollowsDialogue carries call old (Err refusal) mid → FollowsDialogue carries (upon call go) old (Err refusal) mid
follows_err carries (Say said) go old mid refusal ends (is, same) =
    subst (λ r. FollowsDialogue carries (go r) old (Err refusal) mid) is (subst (λ d. FollowsDialogue carries d old (Err refusal) mid) (sym ends) (refl, same))
follows_err carries (Ask asked more) go old mid refusal ends (reply, next, carried, rest) =
    (reply, next, carried, follows_err carries (more reply) go next mid refusal ends rest)
follows_err {S} {Q} {R} {A} carries (Grow rest) go old mid refusal ends follows = elim follows [
  | inl h ↦ inl (follows_err carries rest go old mid refusal ends h)
  | inr (e, same) ↦ inr (ap (λ r. Err r) (err_is A refusal Memory e), same)
]

-- the first call came to a value, and the second went on from there
pub follows_upon : {S Q R A B : Type 0} (carries : S → Q → R → S → Type 0) (call : Call Q R A) (go : Result A Refusal → Call Q R B) (old mid new : S) (first : Result A Refusal) (result : Result B Refusal)
    → first ≢ Err Memory → FollowsDialogue carries call old first mid → FollowsDialogue carries (go first) mid result new → FollowsDialogue carries (upon call go) old result new
follows_upon carries (Say said) go old mid new first result not_short (is, same) after =
    subst (λ s. FollowsDialogue carries (go said) s result new) same (subst (λ r. FollowsDialogue carries (go r) mid result new) is after)
follows_upon carries (Ask asked more) go old mid new first result not_short (reply, next, carried, rest) after =
    (reply, next, carried, follows_upon carries (more reply) go next mid new first result not_short rest after)
follows_upon carries (Grow rest) go old mid new first result not_short follows after = elim follows [
  | inl h ↦ inl (follows_upon carries rest go old mid new first result not_short h after)
  | inr h ↦ absurd (not_short h.0)
]

pub follows_both : {S Q R A B : Type 0} (carries : S → Q → R → S → Type 0) (call : Call Q R A) (go : A → Call Q R B) (old mid new : S) (x : A) (result : Result B Refusal)
    → FollowsDialogue carries call old (Ok x) mid → FollowsDialogue carries (go x) mid result new → FollowsDialogue carries (both call go) old result new
follows_both carries call go old mid new x result = follows_upon carries call (onward go) old mid new (Ok x) result (λ e. cc)

pub follows_none : {S Q R A B : Type 0} (carries : S → Q → R → S → Type 0) (call : Call Q R A) (go : A → Call Q R B) (old mid : S) (refusal : Refusal)
    → FollowsDialogue carries call old (Err refusal) mid → FollowsDialogue carries (both call go) old (Err refusal) mid
follows_none carries call go old mid refusal = follows_err carries call (onward go) old mid refusal refl

-- one request, and what its answer says
pub follows_one : {S Q R A : Type 0} (carries : S → Q → R → S → Type 0) (asked : Q) (says : R → Result A Refusal) (old new : S) (reply : R) (result : Result A Refusal)
    → carries old asked reply new → result ≡ says reply → FollowsDialogue carries (Ask asked (λ reply. Say (says reply))) old result new
follows_one carries asked says old new reply result carried is = (reply, new, carried, (is, refl))

-- a loop: the next step came to a value, or to a refusal
pub leads_next : {S Q R A B : Type 0} (carries : S → Q → R → S → Type 0) (whole : Call Q R A) (step : Call Q R B) (rest : B → Call Q R A) (old now mid : S) (x : B)
    → Leads carries whole old (both step rest) now → FollowsDialogue carries step now (Ok x) mid → Leads carries whole old (rest x) mid
leads_next carries whole step rest old now mid x leads follows result new after =
    leads result new (follows_both carries step rest now mid new x result follows after)

pub leads_stop : {S Q R A B : Type 0} (carries : S → Q → R → S → Type 0) (whole : Call Q R A) (step : Call Q R B) (rest : B → Call Q R A) (old now mid : S) (refusal : Refusal)
    → Leads carries whole old (both step rest) now → FollowsDialogue carries step now (Err refusal) mid → FollowsDialogue carries whole old (Err refusal) mid
leads_stop carries whole step rest old now mid refusal leads follows =
    leads (Err refusal) mid (follows_none carries step rest now mid refusal follows)

-- a call that goes one of two ways
pub follows_then : {S Q R A : Type 0} (carries : S → Q → R → S → Type 0) (test : Bool) (this that : Call Q R A) (old new : S) (result : Result A Refusal)
    → test ≡ true → FollowsDialogue carries this old result new → FollowsDialogue carries (cond test this that) old result new
follows_then carries test this that old new result is = subst (λ b. FollowsDialogue carries (cond b this that) old result new) (sym is)

pub follows_else : {S Q R A : Type 0} (carries : S → Q → R → S → Type 0) (test : Bool) (this that : Call Q R A) (old new : S) (result : Result A Refusal)
    → test ≡ false → FollowsDialogue carries that old result new → FollowsDialogue carries (cond test this that) old result new
follows_else carries test this that old new result is = subst (λ b. FollowsDialogue carries (cond b this that) old result new) (sym is)

-- a call under another name of what it is made of
pub follows_named : {S Q R A X : Type 0} (carries : S → Q → R → S → Type 0) (call : X → Call Q R A) (x y : X) (old new : S) (result : Result A Refusal)
    → x ≡ y → FollowsDialogue carries (call x) old result new → FollowsDialogue carries (call y) old result new
follows_named carries call x y old new result is = subst (λ z. FollowsDialogue carries (call z) old result new) is
