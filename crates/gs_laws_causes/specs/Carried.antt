-- What carries the requests of a call, one after the other.
use Rattle.std.specs.Prelude.{◌≡◌, ◌++◌, ◌∷◌, [], Result, Err}
use Rattle.gs_base.specs.declared.refusal.Refusal.{Refusal}
use Rattle.gs_base.specs.declared.refusal.Refusal.TheVariants as refusals
use Rattle.gs_client_dialogue.specs.Dialogues.{FollowsDialogue}
use Rattle.gs_client_dialogue.specs.Heard.{Says}
use Rattle.gs_msg.specs.declared.event.Request.{Request}
use Rattle.gs_client.specs.declared.link.Reply.{Reply}
use Rattle.gs_client.specs.Trees.{Call}
use Rattle.gs_laws_causes.specs.Causes.{Exchanges, Why}

-- each is carried to its reply, from a state to another
abbrev pub Carried : {S : Type 0} → (S → Request → Reply → S → Type 0) → S → Exchanges → S → Type 0
Carried carries old [] new = new ≡ old
Carried {S} carries old (exchange ∷ rest) new = (mid : S) × carries old exchange.0 exchange.1 mid × Carried carries mid rest new

-- a way through a call to this result, as it was carried
pub record Went {S A : Type 0} (carries : S → Request → Reply → S → Type 0) (call : Call A) (old : S) (result : Result A Refusal) (new : S) : Type 0 where
  pub exchanges : Exchanges
  pub carried : Carried carries old exchanges new
  pub says : Says call exchanges result

-- A call that came to a refusal: which reply it is from, how that was carried, and what before and behind it.
pub record Explained {S A : Type 0} (carries : S → Request → Reply → S → Type 0) (call : Call A) (refusal : Refusal) (old new : S) : Type 0 where
  pub before : Exchanges
  pub asked : Request
  pub reply : Reply
  pub behind : Exchanges
  pub says : Says call (before ++ (asked, reply) ∷ behind) (Err refusal)
  pub why : Why refusal asked reply behind
  pub from : S
  pub to : S
  pub led : Carried carries old before from
  pub came : carries from asked reply to
  pub left : Carried carries to behind new

-- Each 28 and 29 of a call, whatever carries it so, has a cause in that call.
abbrev pub Explains : {S : Type 0} → (S → Request → Reply → S → Type 0) → (A : Type 0) → Call A → Type 0
Explains {S} carries A call = (old new : S)
    → (FollowsDialogue carries call old (Err refusals.NoReplica) new → Explained carries call refusals.NoReplica old new)
    × (FollowsDialogue carries call old (Err refusals.Unsure) new → Explained carries call refusals.Unsure old new)
