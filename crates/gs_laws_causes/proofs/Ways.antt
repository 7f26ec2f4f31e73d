-- Calls put together of others, and what their refusals are from.
use Rattle.std.proofs.Common.{◌≡◌, ◌∙◌, ◌⊎◌, inl, inr, ◌++◌, [], ◌∷◌, Bool, true, false, Result, Ok, Err, refl, sym, ap, subst, append_assoc, append-nil}
use Rattle.std.specs.Prelude.{if◌then◌else◌}
use Rattle.gs_base.specs.declared.refusal.Refusal.{Refusal}
use Rattle.gs_base.specs.declared.refusal.Refusal.TheVariants as refusals
use Rattle.gs_client_dialogue.specs.Dialogues.{Ask, Grow, Say, ask, both, onward, otherwise, upon}
use Rattle.gs_client_dialogue.specs.Heard.{Says}
use Rattle.gs_msg.specs.declared.event.Request.{Request}
use Rattle.gs_client.specs.declared.link.Reply.{Reply}
use Rattle.gs_client.specs.Trees.{Call}
use Rattle.gs_laws_causes.specs.Causes.{Exchanges, Why}

-- the reply that a refusal is from, and its place
pub record Caused (refusal : Refusal) (exchanges : Exchanges) : Type 0 where
  pub before : Exchanges
  pub asked : Request
  pub reply : Reply
  pub behind : Exchanges
  pub is : exchanges ≡ before ++ (asked, reply) ∷ behind
  pub why : Why refusal asked reply behind

-- ---- results

pub err_is : {A : Type 0} {e f : Refusal} → ◌≡◌ {A = Result A Refusal} (Err e) (Err f) → e ≡ f
err_is is = cc

pub never : {A Z : Type 0} {a : A} {e : Refusal} → ◌≡◌ {A = Result A Refusal} (Err e) (Ok a) → Z
never is = absurd (cc)

-- neither 28 nor 29
pub record IsOther (e : Refusal) : Type 0 where
  pub replica : e ≡ refusals.NoReplica → ⊥
  pub sure : e ≡ refusals.Unsure → ⊥

pub memory_other : IsOther refusals.Memory
memory_other = record { replica = λ h. cc; sure = λ h. cc }

pub stray_other : IsOther refusals.Stray
stray_other = record { replica = λ h. cc; sure = λ h. cc }

pub range_other : IsOther refusals.Range
range_other = record { replica = λ h. cc; sure = λ h. cc }

-- a result that is neither
pub record IsClear {A : Type 0} (r : Result A Refusal) : Type 0 where
  pub other : (e : Refusal) → Err e ≡ r → IsOther e

pub ok_clear : {A : Type 0} (x : A) → IsClear {A = A} (Ok x)
ok_clear x = record { other = λ e is. never is }

pub err_clear : {A : Type 0} (f : Refusal) → IsOther f → IsClear {A = A} (Err f)
err_clear f so = record { other = λ e is. subst IsOther (sym (err_is is)) so }

module _ (e : Refusal) (either : (e ≡ refusals.NoReplica) ⊎ (e ≡ refusals.Unsure)) where
  -- one of the two is no other refusal
  pub not_other : {Z : Type 0} → IsOther e → Z
  not_other so = elim either [ inl is ↦ absurd (so.replica is) | inr is ↦ absurd (so.sure is) ]

  pub clash : {A Z : Type 0} (f : Refusal) → IsOther f → ◌≡◌ {A = Result A Refusal} (Err e) (Err f) → Z
  clash f so is = not_other (subst IsOther (sym (err_is is)) so)

  -- where a call comes to it, the call was told so
  pub record Holds {A : Type 0} (call : Call A) : Type 0 where
    pub tells : (exchanges : Exchanges) → Says call exchanges (Err e) → Caused e exchanges

  -- ---- exchanges

  pub behind_others : (first second whole : Exchanges) → whole ≡ first ++ second → Caused e second → Caused e whole
  behind_others first second whole is c = record {
    before = first ++ c.before;
    asked = c.asked;
    reply = c.reply;
    behind = c.behind;
    is = is ∙ ap (λ xs. first ++ xs) c.is ∙ sym (append_assoc first c.before ((c.asked, c.reply) ∷ c.behind));
    why = c.why;
  }

  pub the_whole : (first second whole : Exchanges) → whole ≡ first ++ second → second ≡ [] → Caused e first → Caused e whole
  the_whole first second whole is none c = subst (λ xs. Caused e xs) (sym (is ∙ ap (λ xs. first ++ xs) none ∙ append-nil first)) c

  -- ---- calls

  pub upon_splits : {A B : Type 0} (call : Call A) (go : Result A Refusal → Call B) (exchanges : Exchanges) → Says (upon call go) exchanges (Err e)
      → (r : Result A Refusal) × (first : Exchanges) × (second : Exchanges) × (exchanges ≡ first ++ second) × Says call first r × Says (go r) second (Err e)
  upon_splits (Say r) go exchanges h = (r, [], exchanges, refl, (refl, refl), h)
  upon_splits (Ask asked more) go exchanges (reply, rest, is, says) =
      let s = upon_splits (more reply) go rest says in (s.0, (asked, reply) ∷ s.1, s.2, is ∙ ap (λ xs. (asked, reply) ∷ xs) s.3, (reply, s.1, refl, s.4), s.5)
  upon_splits (Grow call) go exchanges h = elim h [
    | inl goes ↦ (let s = upon_splits call go exchanges goes in (s.0, s.1, s.2, s.3, inl s.4, s.5))
    | inr lacks ↦ clash refusals.Memory memory_other lacks.0
  ]

module _ {e : Refusal} {either : (e ≡ refusals.NoReplica) ⊎ (e ≡ refusals.Unsure)} where
  pub said : {A : Type 0} {r : Result A Refusal} → IsClear r → Holds e either (Say r)
  said clear = record { tells = λ exchanges h. not_other e either (clear.other e h.0) }

  pub grown : {A : Type 0} {call : Call A} → Holds e either call → Holds e either (Grow call)
  grown {call = call} holds = record { tells = tells }
    where
      tells : (exchanges : Exchanges) → Says (Grow call) exchanges (Err e) → Caused e exchanges
      tells exchanges h = elim h [ inl goes ↦ holds.tells exchanges goes | inr lacks ↦ clash e either refusals.Memory memory_other lacks.0 ]

  -- a call behind another, by what both came to
  pub upon_has : {A B : Type 0} (call : Call A) (go : Result A Refusal → Call B)
      → ((r : Result A Refusal) (first second whole : Exchanges) → whole ≡ first ++ second → Says call first r → Says (go r) second (Err e) → Caused e whole)
      → Holds e either (upon call go)
  upon_has call go each = record { tells = λ exchanges h. (let s = upon_splits e either call go exchanges h in each s.0 s.1 s.2 exchanges s.3 s.4 s.5) }

  pub both_has : {A B : Type 0} {call : Call A} {go : A → Call B} → Holds e either call → ((x : A) → Holds e either (go x)) → Holds e either (both call go)
  both_has {A = A} {call = call} {go = go} one more = upon_has call (onward go) each
    where
      each : (r : Result A Refusal) (first second whole : Exchanges) → whole ≡ first ++ second → Says call first r → Says (onward go r) second (Err e) → Caused e whole
      each (Ok x) first second whole is says rest = behind_others e either first second whole is ((more x).tells second rest)
      each (Err f) first second whole is says rest =
          the_whole e either first second whole is rest.1 (one.tells first (subst (λ g. Says call first (Err g)) (sym (err_is rest.0)) says))

  -- where the first call is refused, by the other one alone
  pub otherwise_has : {A : Type 0} (call : Call A) {other : Refusal → Call A} → ((f : Refusal) → Holds e either (other f)) → Holds e either (upon call (otherwise other))
  otherwise_has {A = A} call {other = other} more = upon_has call (otherwise other) each
    where
      each : (r : Result A Refusal) (first second whole : Exchanges) → whole ≡ first ++ second → Says call first r → Says (otherwise other r) second (Err e) → Caused e whole
      each (Ok x) first second whole is says rest = never rest.0
      each (Err f) first second whole is says rest = behind_others e either first second whole is ((more f).tells second rest)

  -- by both, where the other one is taken after some refusals alone
  pub again_has : {A : Type 0} {call : Call A} (takes : Refusal → Bool) {other : Refusal → Call A} → Holds e either call → ((f : Refusal) → Holds e either (other f))
      → Holds e either (upon call (otherwise (λ f. if takes f then other f else Say (Err f))))
  again_has {A = A} {call = call} takes {other = other} one more = upon_has call (otherwise (λ f. if takes f then other f else Say (Err f))) each
    where
      by_test : (b : Bool) (f : Refusal) (first second whole : Exchanges) → whole ≡ first ++ second → Says call first (Err f)
          → Says (if b then other f else Say (Err f)) second (Err e) → Caused e whole
      by_test true f first second whole is says rest = behind_others e either first second whole is ((more f).tells second rest)
      by_test false f first second whole is says rest =
          the_whole e either first second whole is rest.1 (one.tells first (subst (λ g. Says call first (Err g)) (sym (err_is rest.0)) says))

      each : (r : Result A Refusal) (first second whole : Exchanges) → whole ≡ first ++ second → Says call first r
          → Says (otherwise (λ f. if takes f then other f else Say (Err f)) r) second (Err e) → Caused e whole
      each (Ok x) first second whole is says rest = never rest.0
      each (Err f) first second whole is says rest = by_test (takes f) f first second whole is says rest

  pub chosen_has : {A : Type 0} (b : Bool) {this that : Call A} → Holds e either this → Holds e either that → Holds e either (if b then this else that)
  chosen_has true one other = one
  chosen_has false one other = other

  -- one request
  pub one_has : {A : Type 0} (asked : Request) (says : Reply → Result A Refusal) → ((reply : Reply) → Err e ≡ says reply → Why e asked reply []) → Holds e either (ask asked says)
  one_has asked says why = record {
    tells = λ exchanges h. record {
      before = [];
      asked = asked;
      reply = h.0;
      behind = [];
      is = h.2 ∙ ap (λ xs. (asked, h.0) ∷ xs) h.3.1;
      why = why h.0 h.3.0;
    };
  }
