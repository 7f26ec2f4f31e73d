-- A call that makes several requests, as the requests that it makes after each answer.
use Rattle.std.specs.Prelude.{◌≡◌, ◌⊎◌, ◌+◌, ℕ, Result, Ok, Err, refl}
use Rattle.gs_base.specs.declared.refusal.Refusal.{Refusal}
use Rattle.gs_base.specs.declared.refusal.Refusal.TheVariants as refusals

-- The call is over with this value, or it asks and goes on by the answer, or it wants memory of its own here.
pub data Dialogue (Q R A : Type 0) : Type 0 where
  Say : A → Dialogue Q R A
  Ask : Q → (R → Dialogue Q R A) → Dialogue Q R A
  Grow : Dialogue Q R A → Dialogue Q R A

-- a call that may be refused
abbrev pub Call : Type 0 → Type 0 → Type 0 → Type 0
Call Q R A = Dialogue Q R (Result A Refusal)

-- the second call goes on from what the first came to
abbrev pub upon : {Q R A B : Type 0} → Dialogue Q R A → (A → Dialogue Q R B) → Dialogue Q R B
upon (Say x) go = go x
upon (Ask asked more) go = Ask asked (λ reply. upon (more reply) go)
upon (Grow rest) go = Grow (upon rest go)

-- the same, where a refusal of the first ends both
abbrev pub onward : {Q R A B : Type 0} → (A → Call Q R B) → Result A Refusal → Call Q R B
onward go (Ok x) = go x
onward go (Err refusal) = Say (Err refusal)

abbrev pub both : {Q R A B : Type 0} → Call Q R A → (A → Call Q R B) → Call Q R B
both call go = upon call (onward go)

-- one request, and what its answer says
abbrev pub ask : {Q R A : Type 0} → Q → (R → Result A Refusal) → Call Q R A
ask asked says = Ask asked (λ reply. Say (says reply))

-- where the first call is refused, the other one is taken
abbrev pub otherwise : {Q R A : Type 0} → (Refusal → Call Q R A) → Result A Refusal → Call Q R A
otherwise other (Ok x) = Say (Ok x)
otherwise other (Err refusal) = other refusal

-- The call is answered so, from a state to another: each request is carried to some answer, and the result is what is said in the
-- end. Where memory may be wanted, the call may stop, refused.
abbrev pub FollowsDialogue : {S Q R A : Type 0} → (S → Q → R → S → Type 0) → Call Q R A → S → Result A Refusal → S → Type 0
FollowsDialogue carries (Say said) old result new = (result ≡ said) × (new ≡ old)
FollowsDialogue {S} {Q} {R} carries (Ask asked more) old result new = (reply : R) × (mid : S) × carries old asked reply mid × FollowsDialogue carries (more reply) mid result new
FollowsDialogue carries (Grow rest) old result new = FollowsDialogue carries rest old result new ⊎ ((result ≡ Err refusals.Memory) × (new ≡ old))

-- what a call comes to where a function answers
abbrev pub run : {W Q R A : Type 0} → (W → Q → R × W) → Dialogue Q R A → W → A × W
run serve (Say said) world = (said, world)
run serve (Ask asked more) world = run serve (more (serve world asked).0) (serve world asked).1
run serve (Grow rest) world = run serve rest world

-- so far: whatever answers the rest answers the whole call
abbrev pub Leads : {S Q R A : Type 0} → (S → Q → R → S → Type 0) → Call Q R A → S → Call Q R A → S → Type 0
Leads {S} {Q} {R} {A} carries call old rest now = (result : Result A Refusal) (new : S) → FollowsDialogue carries rest now result new → FollowsDialogue carries call old result new

-- Worked: each request is answered by the number of those before it.
abbrev pub counted : ℕ → ℕ → ℕ × ℕ
counted world asked = (world, world + 1)

abbrev pub two_answers : Call ℕ ℕ ℕ
two_answers = both (ask 7 (λ reply. Ok reply)) (λ first. both (Grow (ask 8 (λ reply. Ok reply))) (λ second. Say (Ok (first + second))))

the_sum_of_two_answers : run counted two_answers 3 ≡ (Ok 7, 5)
the_sum_of_two_answers = refl

abbrev pub refused_at_once : Call ℕ ℕ ℕ
refused_at_once = both (ask {A = ℕ} 7 (λ reply. Err refusals.NotFound)) (λ first. two_answers)

nothing_is_asked_behind_a_refusal : run counted refused_at_once 3 ≡ (Err refusals.NotFound, 4)
nothing_is_asked_behind_a_refusal = refl

the_other_way_is_taken : run counted (upon refused_at_once (otherwise (λ refusal. two_answers))) 3 ≡ (Ok 9, 6)
the_other_way_is_taken = refl
