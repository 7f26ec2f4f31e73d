-- What carries the requests of a call, and the ways through it.
use Rattle.std.proofs.Common.{◌≡◌, ◌⊎◌, inl, inr, ◌++◌, [], ◌∷◌, Result, Err, refl, subst}
use Rattle.gs_base.specs.declared.numbers.ReqId.{ReqId}
use Rattle.gs_base.specs.declared.refusal.Refusal.{Refusal}
use Rattle.gs_base.specs.declared.refusal.Refusal.TheVariants as refusals
use Rattle.gs_client_dialogue.specs.Dialogues.{Ask, FollowsDialogue, Grow, Say}
use Rattle.gs_client_dialogue.specs.Heard.{Says}
use Rattle.gs_msg.specs.declared.event.Request.{Request}
use Rattle.gs_client.specs.declared.client.Client.{Client}
use Rattle.gs_client.specs.declared.link.Reply.{Reply}
use Rattle.gs_client.specs.declared.link.Reply.TheVariants as replies
use Rattle.gs_client.specs.Sends.{Sends, next_request}
use Rattle.gs_client.specs.Trees.{Call}
use Rattle.gs_laws_causes.specs.Carried.{Carried, Explained, Explains, Went}
use Rattle.gs_laws_causes.specs.Causes.{Exchanges, Why, WhyNoReplica, WhyUnsure}
use Rattle.gs_laws_causes.proofs.Ways.{Holds}

module _ {S : Type 0} (carries : S → Request → Reply → S → Type 0) where
  -- ---- a call is a way through it

  pub went : {A : Type 0} (call : Call A) (old : S) (result : Result A Refusal) (new : S) → FollowsDialogue carries call old result new → Went carries call old result new
  went (Say x) old result new (is, same) = record { exchanges = []; carried = same; says = (is, refl) }
  went (Ask asked more) old result new (reply, mid, one, rest) =
      let w = went (more reply) mid result new rest in
      record { exchanges = (asked, reply) ∷ w.exchanges; carried = (mid, one, w.carried); says = (reply, w.exchanges, refl, w.says) }
  went (Grow call) old result new h = elim h [
    | inl goes ↦ (let w = went call old result new goes in record { exchanges = w.exchanges; carried = w.carried; says = inl w.says })
    | inr lacks ↦ record { exchanges = []; carried = lacks.1; says = inr (lacks.0, refl) }
  ]

  none_carried : (exchanges : Exchanges) (old new : S) → exchanges ≡ [] → Carried carries old exchanges new → new ≡ old
  none_carried exchanges old new none h = subst (λ xs. Carried carries old xs new) none h

  pub follows : {A : Type 0} (call : Call A) (old : S) (result : Result A Refusal) (new : S) (exchanges : Exchanges) → Carried carries old exchanges new → Says call exchanges result
      → FollowsDialogue carries call old result new
  follows (Say x) old result new exchanges carried (is, none) = (is, none_carried exchanges old new none carried)
  follows (Ask asked more) old result new exchanges carried (reply, rest, is, says) =
      let h : Carried carries old ((asked, reply) ∷ rest) new = subst (λ xs. Carried carries old xs new) is carried in
      (reply, h.0, h.1, follows (more reply) h.0 result new rest h.2 says)
  follows (Grow call) old result new exchanges carried says = elim says [
    | inl goes ↦ inl (follows call old result new exchanges carried goes)
    | inr lacks ↦ inr (lacks.0, none_carried exchanges old new lacks.1 carried)
  ]

  -- ---- one of the exchanges

  record At (old : S) (before : Exchanges) (asked : Request) (reply : Reply) (behind : Exchanges) (new : S) : Type 0 where
    from : S
    to : S
    led : Carried carries old before from
    came : carries from asked reply to
    left : Carried carries to behind new

  at : (old : S) (before : Exchanges) (asked : Request) (reply : Reply) (behind : Exchanges) (new : S) → Carried carries old (before ++ (asked, reply) ∷ behind) new → At old before asked reply behind new
  at old [] asked reply behind new (mid, one, rest) = record { from = old; to = mid; led = refl; came = one; left = rest }
  at old (first ∷ before) asked reply behind new (mid, one, rest) =
      let a = at mid before asked reply behind new rest in record { from = a.from; to = a.to; led = (mid, one, a.led); came = a.came; left = a.left }

  -- ---- why

  explained : (e : Refusal) (either : (e ≡ refusals.NoReplica) ⊎ (e ≡ refusals.Unsure)) {A : Type 0} (call : Call A) (old new : S) → Holds e either call
      → FollowsDialogue carries call old (Err e) new → Explained carries call e old new
  explained e either call old new holds h =
      let w = went call old (Err e) new h in
      let c = holds.tells w.exchanges w.says in
      let a = at old c.before c.asked c.reply c.behind new (subst (λ xs. Carried carries old xs new) c.is w.carried) in
      record {
        before = c.before;
        asked = c.asked;
        reply = c.reply;
        behind = c.behind;
        says = subst (λ xs. Says call xs (Err e)) c.is w.says;
        why = c.why;
        from = a.from;
        to = a.to;
        led = a.led;
        came = a.came;
        left = a.left;
      }

  pub explains : {A : Type 0} (call : Call A) → ((e : Refusal) (either : (e ≡ refusals.NoReplica) ⊎ (e ≡ refusals.Unsure)) → Holds e either call) → Explains carries A call
  explains call holds old new = (
    explained refusals.NoReplica (inl refl) call old new (holds refusals.NoReplica (inl refl)),
    explained refusals.Unsure (inr refl) call old new (holds refusals.Unsure (inr refl)),
  )

-- ---- it came over the link

-- behind the last number of all nothing is asked, and what is said of that is neither refusal
pub came_over : {L : Type 0} (carries : L → ReqId → Request → Reply → L → Type 0) (refusal : Refusal) (old : Client × L) (asked : Request) (reply : Reply) (behind : Exchanges) (new : Client × L)
    → Why refusal asked reply behind → Sends carries old asked reply new → carries old.1 (next_request old.0) asked reply new.1
came_over carries refusal old asked reply behind new why sends = elim sends [
  | inl goes ↦ goes.2
  | inr none ↦ absurd (not_exhausted refusal asked reply behind why none.1)
]
  where
    not_exhausted : (refusal : Refusal) (asked : Request) (reply : Reply) (behind : Exchanges) → Why refusal asked reply behind → reply ≡ replies.Refused refusals.Exhausted → ⊥
    not_exhausted refusals.NoReplica asked reply behind (WhyNoReplica.Refused is last) h = cc
    not_exhausted refusals.NoReplica asked reply behind (WhyNoReplica.Unanswered looks is none) h = cc
    not_exhausted refusals.NoReplica asked reply behind (WhyNoReplica.NoMembers path l there are none) h = (let is = there.1 in cc)
    not_exhausted refusals.NoReplica asked reply behind (WhyNoReplica.PassedOver path l what first others there are none) h = (let is = there.1 in cc)
    not_exhausted refusals.Unsure asked reply behind (WhyUnsure.Refused is last) h = cc
    not_exhausted refusals.Unsure asked reply behind (WhyUnsure.NoMemory may is none) h = cc
    not_exhausted refusals.Unsure asked reply behind (WhyUnsure.NoDisk may is none) h = cc
    not_exhausted refusals.Unsure asked reply behind (WhyUnsure.Unanswered may is none) h = cc
    not_exhausted refusal asked reply behind why h = absurd why
