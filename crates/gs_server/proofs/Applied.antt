-- An edit is applied, with the bytes that are found for it.
use Rattle.std.proofs.Common.{◌≡◌, ℕ, Bool, true, false, cond, List, [], Option, Some, None, refl, sym, ap, subst, ◌∙◌, length, arith}
use Rattle.std.proofs.lemmas.Bool.Decides.{nat_tests}
use Rattle.std.specs.Prelude.{Result, Ok, Err, ◌==◌, ◌≢◌}
use Rattle.gs_base.specs.declared.numbers.Stamp.{Stamp}
use Rattle.gs_base.specs.declared.numbers.ReqId.{ReqId}
use Rattle.gs_base.specs.declared.refusal.Refusal.{Refusal}
use Rattle.gs_base.specs.Calls.{Follows}
use Rattle.gs_msg.specs.declared.op.Op.{Op}
use Rattle.gs_msg.specs.declared.op.Op.TheVariants.{Write, Append, Pad}
use Rattle.gs_msg.specs.Ops.{in_replica, length_of}
use Rattle.gs_replica.specs.declared.op.Op.{Op as ReplicaOp}
use Rattle.gs_store.specs.Buffers.{pushed, without}
use Rattle.gs_store.specs.Stores.{Store, apply, used, apply_with, with_buffer}
use Rattle.gs_server.specs.Edits.{bytes_of, has_bytes}
use Rattle.gs_server.specs.inner.Applying.{leaving, applied_with}

abbrev Nothing : Type 0
Nothing = Unit {0}

-- nothing leaves the buffer
pub leaves_none : (req : ReqId) (m : Result Store Refusal) (b : Result Nothing Refusal) (old new : Store) → Follows m b old new → Follows (leaving req false m) b old new
leaves_none req (Ok t) (Ok x) old new f = f
leaves_none req (Ok t) (Err e) old new f = f
leaves_none req (Err e) (Ok x) old new f = f
leaves_none req (Err e) (Err g) old new f = f

-- what was used leaves it
pub leaves_used : (req : ReqId) (m : Result Store Refusal) (old mid new : Store) → Follows {B = Nothing} m (Ok tt) old mid → new ≡ with_buffer (without req mid.buffer) mid → Follows {B = Nothing} (leaving req true m) (Ok tt) old new
leaves_used req (Ok t) old mid new f is = is ∙ ap (λ (s : Store). with_buffer (without req s.buffer) s) f
leaves_used req (Err e) old mid new f is = f

pub leaves_refused : (req : ReqId) (left : Bool) (m : Result Store Refusal) (e : Refusal) (old new : Store) → Follows {B = Nothing} m (Err e) old new → Follows {B = Nothing} (leaving req left m) (Err e) old new
leaves_refused req left (Ok t) e old new f = f
leaves_refused req left (Err g) e old new f = f

of_used : (C D : Type 0) (req : ReqId) (left : Bool) (m : Result Store Refusal) (e : Refusal) (old new : Store) → Follows {B = C} (used req m) (Err e) old new → Follows {B = D} (leaving req left m) (Err e) old new
of_used C D req left (Ok t) e old new f = f
of_used C D req left (Err g) e old new f = f

of_used_ok : (C D : Type 0) (req : ReqId) (m : Result Store Refusal) (x : C) (y : D) (old new : Store) → Follows {B = C} (used req m) (Ok x) old new → Follows {B = D} (leaving req true m) (Ok y) old new
of_used_ok C D req (Ok t) x y old new f = f
of_used_ok C D req (Err g) x y old new f = f

-- the bytes that are found
pub is_found : (op : Op) (bytes : List ℕ) (carried there : Option (List ℕ)) → op ≢ Pad → (length bytes == length_of op) ≡ true → bytes_of op (Some bytes) there ≡ Some bytes
is_found (Write offset many) bytes carried there isnt is = ap (λ b. cond b (Some bytes) None) is
is_found (Append many) bytes carried there isnt is = ap (λ b. cond b (Some bytes) None) is
is_found Pad bytes carried there isnt is = elim (isnt refl) [ ]

pub is_pushed : (op : Op) (bytes : List ℕ) (there : Option (List ℕ)) → op ≢ Pad → there ≡ Some bytes → (length bytes == length_of op) ≡ true → bytes_of op None there ≡ Some bytes
is_pushed (Write offset many) bytes there isnt found is = ap (λ o. bytes_of (Write offset many) None o) found ∙ ap (λ b. cond b (Some bytes) None) is
is_pushed (Append many) bytes there isnt found is = ap (λ o. bytes_of (Append many) None o) found ∙ ap (λ b. cond b (Some bytes) None) is
is_pushed Pad bytes there isnt found is = elim (isnt refl) [ ]

pub with_bytes : (op : Op) → op ≢ Pad → has_bytes op ≡ true
with_bytes (Write offset many) isnt = refl
with_bytes (Append many) isnt = refl
with_bytes Pad isnt = elim (isnt refl) [ ]

not_pad : (op : Op) → op ≡ Pad → has_bytes op ≡ true → ⊥
not_pad op is has = subst (λ (x : Bool). cond x (Unit {0}) ⊥) (ap has_bytes is) (subst (λ (x : Bool). cond x (Unit {0}) ⊥) (sym has) tt)

same_number : (a b : ℕ) → a ≡ b → (a == b) ≡ true
same_number a b is = grind (arith, nat_tests)

pub pad_applied : (handle : ℕ) (stamp : Stamp) (number : ℕ) (req : ReqId) (op : Op) (made : ReplicaOp) (carried there : Option (List ℕ)) (b : Result Nothing Refusal) (old new : Store) → op ≡ Pad → made ≡ in_replica op →
    Follows (apply handle stamp number req made [] old) b old new → Follows (applied_with handle stamp number req op old (bytes_of op carried there)) b old new
pad_applied handle stamp number req (Write offset many) made carried there b old new is same f = elim (not_pad (Write offset many) is refl) [ ]
pad_applied handle stamp number req (Append many) made carried there b old new is same f = elim (not_pad (Append many) is refl) [ ]
pad_applied handle stamp number req Pad made carried there b old new is same f =
    leaves_none req (apply handle stamp number req (in_replica Pad) [] old) b old new (subst (λ m. Follows (apply handle stamp number req m [] old) b old new) same f)

found_applied : {D : Type 0} (handle : ℕ) (stamp : Stamp) (number : ℕ) (req : ReqId) (op : Op) (bytes : List ℕ) (o : Option (List ℕ)) (b : Result D Refusal) (old new : Store) → op ≢ Pad → o ≡ Some bytes →
    Follows (leaving req true (apply handle stamp number req (in_replica op) bytes old)) b old new → Follows (applied_with handle stamp number req op old o) b old new
found_applied handle stamp number req op bytes o b old new isnt is f =
    subst (λ x. Follows (applied_with handle stamp number req op old x) b old new) (sym is)
    (subst (λ x. Follows (leaving req x (apply handle stamp number req (in_replica op) bytes old)) b old new) (sym (with_bytes op isnt)) f)

pub carried_applied : (handle : ℕ) (stamp : Stamp) (number : ℕ) (req : ReqId) (op : Op) (made : ReplicaOp) (bytes given : List ℕ) (there : Option (List ℕ)) (old mid new : Store) → op ≢ Pad → length bytes ≡ length_of op → made ≡ in_replica op → given ≡ bytes →
    Follows {B = Nothing} (apply handle stamp number req made given old) (Ok tt) old mid → new ≡ with_buffer (without req mid.buffer) mid → Follows {B = Nothing} (applied_with handle stamp number req op old (bytes_of op (Some bytes) there)) (Ok tt) old new
carried_applied handle stamp number req op made bytes given there old mid new isnt long same alike f is =
    found_applied handle stamp number req op bytes (bytes_of op (Some bytes) there) (Ok tt) old new isnt (is_found op bytes None there isnt (same_number _ _ long))
    (leaves_used req (apply handle stamp number req (in_replica op) bytes old) old mid new
    (subst (λ m. Follows {B = Nothing} (apply handle stamp number req m bytes old) (Ok tt) old mid) same (subst (λ b. Follows {B = Nothing} (apply handle stamp number req made b old) (Ok tt) old mid) alike f)) is)

pub carried_refused : (handle : ℕ) (stamp : Stamp) (number : ℕ) (req : ReqId) (op : Op) (made : ReplicaOp) (bytes given : List ℕ) (there : Option (List ℕ)) (e : Refusal) (old new : Store) → op ≢ Pad → length bytes ≡ length_of op → made ≡ in_replica op → given ≡ bytes →
    Follows {B = Nothing} (apply handle stamp number req made given old) (Err e) old new → Follows {B = Nothing} (applied_with handle stamp number req op old (bytes_of op (Some bytes) there)) (Err e) old new
carried_refused handle stamp number req op made bytes given there e old new isnt long same alike f =
    found_applied handle stamp number req op bytes (bytes_of op (Some bytes) there) (Err e) old new isnt (is_found op bytes None there isnt (same_number _ _ long))
    (leaves_refused req true (apply handle stamp number req (in_replica op) bytes old) e old new
    (subst (λ m. Follows {B = Nothing} (apply handle stamp number req m bytes old) (Err e) old new) same (subst (λ b. Follows {B = Nothing} (apply handle stamp number req made b old) (Err e) old new) alike f)))

pub pushed_refused : (C D : Type 0) (handle : ℕ) (stamp : Stamp) (number : ℕ) (req : ReqId) (op : Op) (made : ReplicaOp) (bytes : List ℕ) (e : Refusal) (old new : Store) → op ≢ Pad → Some bytes ≡ pushed req old.buffer → length bytes ≡ length_of op → made ≡ in_replica op →
    Follows {B = C} (apply_with handle stamp number req made old (pushed req old.buffer)) (Err e) old new → Follows {B = D} (applied_with handle stamp number req op old (bytes_of op None (pushed req old.buffer))) (Err e) old new
pushed_refused C D handle stamp number req op made bytes e old new isnt there long same f =
    found_applied {D = D} handle stamp number req op bytes (bytes_of op None (pushed req old.buffer)) (Err e) old new isnt (is_pushed op bytes (pushed req old.buffer) isnt (sym there) (same_number _ _ long))
    (of_used C D req true (apply handle stamp number req (in_replica op) bytes old) e old new
    (subst (λ m. Follows {B = C} (used req (apply handle stamp number req m bytes old)) (Err e) old new) same
    (subst (λ o. Follows {B = C} (apply_with handle stamp number req made old o) (Err e) old new) (sym there) f)))

pub pushed_applied : (C D : Type 0) (handle : ℕ) (stamp : Stamp) (number : ℕ) (req : ReqId) (op : Op) (made : ReplicaOp) (bytes : List ℕ) (x : C) (y : D) (old new : Store) → op ≢ Pad → Some bytes ≡ pushed req old.buffer → length bytes ≡ length_of op → made ≡ in_replica op →
    Follows {B = C} (apply_with handle stamp number req made old (pushed req old.buffer)) (Ok x) old new → Follows {B = D} (applied_with handle stamp number req op old (bytes_of op None (pushed req old.buffer))) (Ok y) old new
pushed_applied C D handle stamp number req op made bytes x y old new isnt there long same f =
    found_applied {D = D} handle stamp number req op bytes (bytes_of op None (pushed req old.buffer)) (Ok y) old new isnt (is_pushed op bytes (pushed req old.buffer) isnt (sym there) (same_number _ _ long))
    (of_used_ok C D req (apply handle stamp number req (in_replica op) bytes old) x y old new
    (subst (λ m. Follows {B = C} (used req (apply handle stamp number req m bytes old)) (Ok x) old new) same
    (subst (λ o. Follows {B = C} (apply_with handle stamp number req made old o) (Ok x) old new) (sym there) f)))

-- and they are given
pub given_as_pushed : (op : Op) (bytes given : List ℕ) (there : Option (List ℕ)) → op ≢ Pad → Some bytes ≡ there → length bytes ≡ length_of op → there ≡ Some given → bytes_of op None there ≡ Some given
given_as_pushed op bytes given there isnt found long is = is_pushed op bytes there isnt (sym found) (same_number _ _ long) ∙ found ∙ is
