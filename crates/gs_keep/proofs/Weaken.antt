-- What holds of a result or an option, made weaker.
use Rattle.std.proofs.Common.{◌≡◌, Option, Some, None, IfSome, Result, Ok, Err, IfOk, OnOk, OnErr, IfErr, IsErrAnd, is_err, true, false, true≢false, subst, sym}

pub given_ok : {T E : Type 0} (r : Result T E) (P : Type 0) → P → OnOk r P
given_ok (Ok x) P p = p
given_ok (Err e) P p = tt

pub given_err : {T E : Type 0} (r : Result T E) (P : Type 0) → P → OnErr r P
given_err (Ok x) P p = tt
given_err (Err e) P p = p

pub on_ok : {T E : Type 0} (r : Result T E) (P Q : Type 0) → (P → Q) → OnOk r P → OnOk r Q
on_ok (Ok x) P Q f h = f h
on_ok (Err e) P Q f h = tt

pub on_err : {T E : Type 0} (r : Result T E) (P Q : Type 0) → (P → Q) → OnErr r P → OnErr r Q
on_err (Ok x) P Q f h = tt
on_err (Err e) P Q f h = f h

pub if_some : {A : Type 0} (o : Option A) (P Q : A → Type 0) → ((x : A) → P x → Q x) → IfSome o P → IfSome o Q
if_some None P Q f h = tt
if_some (Some x) P Q f h = f x h

pub if_some₂ : {A : Type 0} (o : Option A) (P Q R : A → Type 0) → ((x : A) → P x → Q x → R x) → IfSome o P → IfSome o Q → IfSome o R
if_some₂ None P Q R f h k = tt
if_some₂ (Some x) P Q R f h k = f x h k

-- an error that is x, as `?` hands it on
pub if_err : {T E : Type 0} (r : Result T E) (x : E) (P : E → Type 0) → IsErrAnd r (λ e. e ≡ x) → P x → IfErr r P
if_err (Ok t) x P h p = tt
if_err (Err e) x P h p = subst P (sym h) p

pub was_ok : {T E : Type 0} (r : Result T E) (P : Type 0) → is_err r ≡ false → OnOk r P → P
was_ok (Ok t) P ok h = h
was_ok (Err e) P ok h = absurd (true≢false ok)

pub was_err : {T E : Type 0} (r : Result T E) (P : Type 0) → is_err r ≡ true → OnErr r P → P
was_err (Ok t) P err h = absurd (true≢false (sym err))
was_err (Err e) P err h = h

-- what holds of two options, each by itself, makes what holds of both
pub if_some₃ : {A B : Type 0} (o : Option A) (p : Option B) (P : A → Type 0) (Q : B → Type 0) (R : A → B → Type 0) → ((x : A) (y : B) → P x → Q y → R x y)
    → IfSome o P → IfSome p Q → IfSome o (λ x. IfSome p (R x))
if_some₃ None p P Q R f h k = tt
if_some₃ (Some x) None P Q R f h k = tt
if_some₃ (Some x) (Some y) P Q R f h k = f x y h k

-- what holds of two options, each by itself, and a third thing that is known of the first
pub if_some₄ : {A B : Type 0} (o : Option A) (p : Option B) (K P : A → Type 0) (Q : B → Type 0) (R : A → B → Type 0) → ((x : A) (y : B) → K x → P x → Q y → R x y)
    → IfSome o K → IfSome o P → IfSome p Q → IfSome o (λ x. IfSome p (R x))
if_some₄ None p K P Q R f k h j = tt
if_some₄ (Some x) None K P Q R f k h j = tt
if_some₄ (Some x) (Some y) K P Q R f k h j = f x y k h j

-- options that are known, the other way round
pub turned : {A B : Type 0} (o : Option A) (p : Option B) (P : A → B → Type 0) → IfSome o (λ x. IfSome p (P x)) → IfSome p (λ y. IfSome o (λ x. P x y))
turned None None P h = tt
turned None (Some y) P h = tt
turned (Some x) None P h = tt
turned (Some x) (Some y) P h = h

-- what holds of an option's value and of a result, the other way round
pub swapped : {A T E : Type 0} (o : Option A) (r : Result T E) (P : A → T → Type 0) → IfSome o (λ x. IfOk r (P x)) → IfOk r (λ t. IfSome o (λ x. P x t))
swapped None (Ok t) P h = tt
swapped None (Err e) P h = tt
swapped (Some x) (Ok t) P h = h
swapped (Some x) (Err e) P h = tt

pub swapped_err : {A T E : Type 0} (o : Option A) (r : Result T E) (P : A → E → Type 0) → IfSome o (λ x. IfErr r (P x)) → IfErr r (λ e. IfSome o (λ x. P x e))
swapped_err None (Ok t) P h = tt
swapped_err None (Err e) P h = tt
swapped_err (Some x) (Ok t) P h = tt
swapped_err (Some x) (Err e) P h = h
