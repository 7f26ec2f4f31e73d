-- What the steps of the readers and the writers come to.
use Rattle.std.proofs.Common.{◌≡◌, ◌≤◌, ℕ, Bool, true, false, true≢false, List, [], ◌++◌, length, take, drop, eqb, ltb, Option, Some, None, Result, Ok, Err, refl, sym, ap, ◌∙◌, append_assoc, arith}
use Rattle.std.specs.Int.{w16}
use Rattle.std.specs.Str.{IsUtf8, is_utf8}
use Rattle.std.proofs.lemmas.Bool.{eqb-true, ltb-false}
use Rattle.std.proofs.lemmas.List.{append-nil, nil_from_length, length-take}
use Rattle.std.proofs.lemmas.Str.{IsUtf8-from_is_utf8, is_utf8-from_IsUtf8}
use Rattle.gs_fields.specs.declared.fault.Fault.{Fault}
use Rattle.gs_fields.specs.declared.fault.Fault.TheVariants as faults
use Rattle.gs_fields.specs.Laws.{IsBytes, Reads, unless_some}
use Rattle.gs_fields.specs.Reading.{Reader, number_at, bytes_at, text_at}
use Rattle.gs_fields.specs.Work.{Puts, Fails, Decodes}

-- one thing was written behind another
pub puts_two : (A B : Type 0) (a b old mid new : List ℕ) (r : Result (Unit {0}) Fault) → A × (mid ≡ old ++ a) → Puts B b mid new r → Puts (A × B) (a ++ b) old new r
puts_two A B a b old mid new (Ok x) first second = ((first.0, second.0), second.1 ∙ ap (λ (z : List ℕ). z ++ b) first.1 ∙ append_assoc old a b)
puts_two A B a b old mid new (Err faults.Memory) first second = tt
puts_two A B a b old mid new (Err faults.Form) first second = λ k. second k.1

-- what can be written is something else where it is the same
pub puts_as : (A B : Type 0) (a b old new : List ℕ) (r : Result (Unit {0}) Fault) → (A → B) → (B → A) → a ≡ b → Puts A a old new r → Puts B b old new r
puts_as A B a b old new (Ok x) f g e h = (f h.0, h.1 ∙ ap (λ (z : List ℕ). old ++ z) e)
puts_as A B a b old new (Err faults.Memory) f g e h = tt
puts_as A B a b old new (Err faults.Form) f g e h = λ k. h (g k)

pub text_read : (bytes : List ℕ) (n k : ℕ) (mid t rest : List ℕ) → number_at w16 bytes ≡ Some (n, mid) → k ≡ n → bytes_at k mid ≡ Some (t, rest) → IsUtf8 t → text_at bytes ≡ Some (t, rest)
unfolding text_at
text_read bytes n k mid t rest e same f u = rw e (rw (← same) (rw f (rw (is_utf8-from_IsUtf8 t u) refl)))

not_utf8 : (t : List ℕ) (b : Bool) → is_utf8 t ≡ b → ¬ IsUtf8 t → is_utf8 t ≡ false
not_utf8 t true e h = absurd (h (IsUtf8-from_is_utf8 t e))
not_utf8 t false e h = e

pub text_unread : (bytes : List ℕ) (n k : ℕ) (mid t rest : List ℕ) → number_at w16 bytes ≡ Some (n, mid) → k ≡ n → bytes_at k mid ≡ Some (t, rest) → ¬ IsUtf8 t → text_at bytes ≡ None
unfolding text_at
text_unread bytes n k mid t rest e same f u = rw e (rw (← same) (rw f (rw (not_utf8 t (is_utf8 t) refl u) refl)))

pub told_utf8 : (t : List ℕ) → IsUtf8 t → is_utf8 t ≡ true
told_utf8 t u = is_utf8-from_IsUtf8 t u

pub two_pieces : (old a b mid new : List ℕ) → mid ≡ old ++ a → new ≡ mid ++ b → new ≡ old ++ (a ++ b)
two_pieces old a b mid new e f = f ∙ ap (λ (z : List ℕ). z ++ b) e ∙ append_assoc old a b

-- what was read of all bytes is what they were written of
pub all_read : {X Y : Type 0} {Is : Y → Type 0} {write : Y → List ℕ} {reader : Reader Y} (view : X → Y) → Reads Is write reader → (bytes left : List ℕ) (x : X) → IsBytes bytes → reader bytes ≡ Some (view x, left) → left ≡ [] → Is (view x) × (write (view x) ≡ bytes)
all_read {write = write} view p bytes left x h e none =
    let t = p.takes bytes (view x) left h e in
    (t.is, sym (t.parts ∙ ap (λ (z : List ℕ). write (view x) ++ z) none ∙ append-nil (write (view x))))

again_all : {Y : Type 0} {Is : Y → Type 0} {write : Y → List ℕ} {reader : Reader Y} → Reads Is write reader → (bytes : List ℕ) (y : Y) → Is y → write y ≡ bytes → reader bytes ≡ Some (y, [])
again_all {write = write} {reader = reader} p bytes y is e = ap reader (sym e ∙ sym (append-nil (write y))) ∙ p.again y [] is

-- what isn't read wasn't written
pub unread : {X Y : Type 0} {Is : Y → Type 0} {write : Y → List ℕ} {reader : Reader Y} (view : X → Y) → Reads Is write reader → (bytes : List ℕ) (e : Fault) → Fails e (reader bytes) → Decodes {X = X} view Is write bytes (Err e)
unread view p bytes faults.Memory h = tt
unread view p bytes faults.Form h = λ y is e. let clash = sym (again_all p bytes y is e) ∙ h in absurd (cc)

abbrev left_of : {Y : Type 0} → List ℕ → Option (Y × List ℕ) → List ℕ
left_of left None = left
left_of left (Some x) = x.1

some_nil : {Y : Type 0} (x y : Y) (a b : List ℕ) → ◌≡◌ {A = Option (Y × List ℕ)} (Some (x, a)) (Some (y, b)) → a ≡ b
some_nil x y a b e = ap (left_of a) e

-- nor is what is read with bytes behind it
pub more_behind : {X Y : Type 0} {Is : Y → Type 0} {write : Y → List ℕ} {reader : Reader Y} (view : X → Y) → Reads Is write reader → (bytes left : List ℕ) (x : X) → reader bytes ≡ Some (view x, left) → ¬ (left ≡ []) → Decodes {X = X} view Is write bytes (Err faults.Form)
more_behind view p bytes left x e some = λ y is w. some (some_nil (view x) y left [] (sym e ∙ again_all p bytes y is w))

pub taken_length : (n : ℕ) (bytes b rest : List ℕ) → bytes_at n bytes ≡ Some (b, rest) → n ≡ length b
unfolding bytes_at
taken_length n bytes b rest e =
    let g = unless_some (ltb (length bytes) n) (take n bytes, drop n bytes) (b, rest) e in
    let long : n ≤ length bytes = ltb-false _ _ g.0 in
    let front : take n bytes ≡ b = ap (λ (p : List ℕ × List ℕ). p.0) g.1 in
    let many : length (take n bytes) ≡ length b = ap length front in
    omega (arith, length-take n bytes)

-- what is empty, and what isn't
pub is_nil : (xs : List ℕ) → eqb (length xs) 0 ≡ true → xs ≡ []
is_nil xs e = nil_from_length xs (eqb-true _ _ e)

pub is_not_nil : (xs : List ℕ) → eqb (length xs) 0 ≡ false → ¬ (xs ≡ [])
is_not_nil xs e none = true≢false (sym (ap (λ (z : List ℕ). eqb (length z) 0) none) ∙ e)
