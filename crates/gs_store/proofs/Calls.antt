-- Calls of a replica that stands in a slot.
use Rattle.std.proofs.Common.{◌≡◌, ℕ, Bool, true, false, cond, length, List, Option, Some, None, sym, ap, subst, ◌∙◌, inl, inr, true≢false}
use Rattle.std.specs.Result.{IsErr, IsErrAnd}
use Rattle.std.specs.Prelude.{Result, Ok, Err, nat_lt, ◌⊎◌}
use Rattle.gs_base.specs.declared.numbers.Stamp.{Stamp}
use Rattle.gs_base.specs.declared.numbers.ReqId.{ReqId}
use Rattle.gs_base.specs.declared.refusal.Refusal.{Refusal}
use Rattle.gs_block.specs.Stored.{digests_of}
use Rattle.gs_base.specs.Calls.{Follows, MakesOf}
use Rattle.gs_replica.specs.declared.op.Op.{Op}
use Rattle.gs_replica.specs.Edits as edits
use Rattle.gs_replica.specs.Seals.{State, with_seal}
use Rattle.gs_replica.specs.Seals as replicas
use Rattle.gs_store.specs.Slots.{Live, Slot, with_live}
use Rattle.gs_replica.specs.Copies.{Image, SealedImage, image_of, of_image, and_then}
use Rattle.gs_base.specs.declared.refusal.Refusal.TheVariants as refusals
use Rattle.gs_base.specs.declared.refused.Refused.{Refused}
use Rattle.gs_store.specs.Moves.{carried_in, replicas_of}
use Rattle.gs_store.specs.Serving.{apply, apply_to}

abbrev pub standing_in : Slot → Option ℕ → State → Slot
standing_in s bad r = record { promise = s.promise; carried = s.carried; live = Some (record { replica = r; bad = bad }); trash = s.trash; taken = s.taken }

live_ok : (B C : Type 0) (b : B) (x : C) (m : Result State Refusal) (s : Slot) (bad : Option ℕ) (old new : State) (before : Slot) → Follows {B = B} m (Ok b) old new → Follows {B = C} (with_live s bad m) (Ok x) before (standing_in s bad new)
live_ok B C b x (Ok r) s bad old new before f = ap (standing_in s bad) f
live_ok B C b x (Err e) s bad old new before f = f

live_err : (B C : Type 0) (f : Refusal) (m : Result State Refusal) (s : Slot) (bad : Option ℕ) (old new : State) (before : Slot) → standing_in s bad old ≡ before → Follows {B = B} m (Err f) old new → Follows {B = C} (with_live s bad m) (Err f) before (standing_in s bad new)
live_err B C f (Ok r) s bad old new before is g = (g.0, ap (standing_in s bad) g.1 ∙ is)
live_err B C f (Err e) s bad old new before is g = (g.0, ap (standing_in s bad) g.1 ∙ is)

-- an edit that follows its definition on a live replica follows it on the slot
pub applied : (B C : Type 0) (b : B) (x : C) (stamp : Stamp) (number : ℕ) (req : ReqId) (op : Op) (bytes : List ℕ) (s : Slot) (l : Live) (new : State) → s.live ≡ Some l → Follows {B = B} (replicas.apply stamp number req op bytes l.replica) (Ok b) l.replica new →
    Follows {B = C} (apply stamp number req op bytes s) (Ok x) s (standing_in s l.bad new)
applied B C b x stamp number req op bytes s l new is f =
    subst (λ o. Follows {B = C} (apply_to stamp number req op bytes s o) (Ok x) s (standing_in s l.bad new)) (sym is) (live_ok B C b x (replicas.apply stamp number req op bytes l.replica) s l.bad l.replica new s f)

pub not_applied : (B C : Type 0) (e : Refusal) (stamp : Stamp) (number : ℕ) (req : ReqId) (op : Op) (bytes : List ℕ) (s : Slot) (l : Live) (new : State) → s.live ≡ Some l → Follows {B = B} (replicas.apply stamp number req op bytes l.replica) (Err e) l.replica new →
    Follows {B = C} (apply stamp number req op bytes s) (Err e) s (standing_in s l.bad new)
not_applied B C e stamp number req op bytes s l new is f =
    subst (λ o. Follows {B = C} (apply_to stamp number req op bytes s o) (Err e) s (standing_in s l.bad new)) (sym is)
    (live_err B C e (replicas.apply stamp number req op bytes l.replica) s l.bad l.replica new s (λ k. record { promise = s.promise; carried = s.carried; live = sym is k; trash = s.trash; taken = s.taken }) f)

unfoldable pub state_or : Result State Refusal → State → State
state_or (Ok r) old = r
state_or (Err e) old = old

-- what is made of an image stands as it says
image_case : (t : Bool) (block chunk : ℕ) (stamp : Stamp) (i : Image) (r : State) →
    with_seal None (edits.held_of stamp i.count i.done (cond t (Err refusals.Range) (Ok (record { block = block; chunk = chunk; bytes = i.bytes; digests = digests_of block i.bytes })))) ≡ Ok r → image_of r.held ≡ i
unfolding state_or
image_case true block chunk stamp i r is = absurd (cc)
image_case false block chunk stamp i r is = ap (λ m. image_of (state_or m r).held) (sym is)

made_ok : {A G : Type 0} (given : G) (m : Result A Refusal) (b : A) → MakesOf {A = A} {G = G} given m (Ok b) → m ≡ Ok b
made_ok given (Ok a) b is = ap (λ x. Ok x) (sym is)
made_ok given (Err e) b is = elim is [ ]

-- an image that became a replica is given back as it was
pub given_back : (block chunk : ℕ) (stamp : Stamp) (i : Image) (r : State) → MakesOf {A = State} i (of_image block chunk stamp i) (Ok r) → image_of r.held ≡ i
given_back block chunk stamp i r made = image_case (nat_lt chunk (length i.bytes)) block chunk stamp i r (made_ok i (of_image block chunk stamp i) r made)

-- what is refused was given back, for want of memory or as it is defined
pub kept : {A G : Type 0} (given : G) (m : Result A Refusal) (f : Refused G) → MakesOf {A = A} {G = G} given m (Err f) → f.given ≡ given
kept given (Ok a) f is = is.1
kept given (Err e) f is = is.1

why_case : (m : Result State Refusal) (n : Result (Option State) Refusal) (r : State) (sealed : Option SealedImage) (f : Refused (Option SealedImage)) (e : Refusal) → m ≡ Ok r → MakesOf {A = Option State} sealed n (Err f) → e ≡ f.refusal →
    (e ≡ refusals.Memory) ⊎ (and_then {B = State × Option State} m (λ r. and_then n (λ t. Ok (r, t))) ≡ Err e)
why_case (Ok a) (Ok t) r sealed f e made is same = inl (same ∙ is.0)
why_case (Ok a) (Err g) r sealed f e made is same = inr (ap (λ x. Err x) (sym (same ∙ is.0)))
why_case (Err g) n r sealed f e made is same = absurd (cc)

pub reason : (block chunk : ℕ) (stamp : Stamp) (i : Image) (sealed : Option SealedImage) (r : State) (f : Refused (Option SealedImage)) (e : Refusal) → MakesOf {A = State} i (of_image block chunk stamp i) (Ok r) →
    MakesOf {A = Option State} sealed (carried_in block chunk sealed) (Err f) → e ≡ f.refusal → (e ≡ refusals.Memory) ⊎ (replicas_of block chunk stamp i sealed ≡ Err e)
reason block chunk stamp i sealed r f e made is same = why_case (of_image block chunk stamp i) (carried_in block chunk sealed) r sealed f e (made_ok i (of_image block chunk stamp i) r made) is same

-- a refused call leaves what it was given
pub stays : (A B : Type 0) (m : Result A Refusal) (f : Refusal) (old new : A) → Follows {A = A} {B = B} m (Err f) old new → new ≡ old
stays A B (Ok a) f old new is = is.1
stays A B (Err e) f old new is = is.1

-- a refusal that goes on is the same
pub refused_so : (B : Type 0) (a : Result B Refusal) (e : Refusal) (m : Result Slot Refusal) (old new : Slot) → IsErr a → IsErrAnd a (λ f. f ≡ e) → Follows {B = B} m (Err e) old new → Follows {B = B} m a old new
refused_so B (Ok b) e m old new err is f = absurd (true≢false (sym err))
refused_so B (Err g) e m old new err is f = subst (λ (x : Refusal). Follows {B = B} m (Err x) old new) (sym is) f
