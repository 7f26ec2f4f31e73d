-- What the steps of the readers and the writers come to.
use Rattle.gs_master_record.specs.Plain.{Refused}
use Rattle.std.proofs.Common.{◌≢◌, ◌≡◌, ℕ, ◌^◌, ◌<◌, Bool, true, false, true≢false, List, [], ◌∷◌, ◌++◌, Option, Some, None, Result, Ok, Err, refl, sym, ap, subst, ◌∙◌, append_assoc}
use Rattle.std.specs.Bool.{IsTrue}
use Rattle.std.specs.Int.{w16}
use Rattle.std.specs.Str.{IsUtf8, is_utf8}
use Rattle.std.proofs.lemmas.Str.{IsUtf8-from_is_utf8, is_utf8-from_IsUtf8}
use Rattle.gs_base.specs.Members.{servers_where, has_bit, bits_of}
use Rattle.gs_base.specs.MemberLaws.{bits_of-servers_where, eqb_other}
use Rattle.gs_base.specs.Told.{Told, IsRefusal, detail_text}
use Rattle.gs_base.specs.declared.refusal.Refusal.{Refusal}
use Rattle.gs_base.specs.Refusals.{number_of}
use Rattle.gs_master_record.proofs.Laws.{some_is}
use Rattle.gs_master_record.proofs.Told.{told_is, told_back}
use Rattle.gs_master_record.specs.Encoding.{text, refusal}
use Rattle.gs_master_record.specs.Writable.{AreServers, IsText, IsWritable}
use Rattle.gs_master_record.specs.declared.fault.Fault.{Fault}
use Rattle.gs_master_record.specs.declared.fault.Fault.TheVariants as faults
use Rattle.gs_master_record.specs.inner.Reading.{◌>>=◌, byte_at, number_at, bytes_at, text_at, refusal_at, outcome_at}
use Rattle.gs_master_record.specs.inner.Told.{told}
use Rattle.gs_master_record.specs.inner.Work.{Puts}

-- one thing was written behind another
pub puts_two : (A B : Type 0) (a b old mid new : List ℕ) (r : Result (Unit {0}) Fault) → A × (mid ≡ old ++ a) → Puts B b mid new r → Puts (A × B) (a ++ b) old new r
puts_two A B a b old mid new (Ok x) first second = ((first.0, second.0), second.1 ∙ ap (λ (z : List ℕ). z ++ b) first.1 ∙ append_assoc old a b)
puts_two A B a b old mid new (Err faults.Memory) first second = tt
puts_two A B a b old mid new (Err faults.Form) first second = λ k. second k.1

-- what can be written is something else where it is the same
pub puts_as : (A B : Type 0) (a b old new : List ℕ) (r : Result (Unit {0}) Fault) → (A → B) → (B → A) → a ≡ b → Puts A a old new r → Puts B b old new r
puts_as A B a b old new (Ok x) f g e h = (f h.0, h.1 ∙ ap (λ (z : List ℕ). old ++ z) e)
puts_as A B a b old new (Err faults.Memory) f g e h = tt
puts_as A B a b old new (Err faults.Form) f g e h = λ k. h (g k)

pub text_read : (bytes : List ℕ) (n k : ℕ) (mid t rest : List ℕ) → number_at w16 bytes ≡ Some (n, mid) → k ≡ n → bytes_at k mid ≡ Some (t, rest) → IsUtf8 t → text_at bytes ≡ Some (t, rest)
unfolding text_at
text_read bytes n k mid t rest e same f u = rw e (rw (← same) (rw f (rw (is_utf8-from_IsUtf8 t u) refl)))

not_utf8 : (t : List ℕ) (b : Bool) → is_utf8 t ≡ b → ¬ IsUtf8 t → is_utf8 t ≡ false
not_utf8 t true e h = absurd (h (IsUtf8-from_is_utf8 t e))
not_utf8 t false e h = e

pub text_unread : (bytes : List ℕ) (n k : ℕ) (mid t rest : List ℕ) → number_at w16 bytes ≡ Some (n, mid) → k ≡ n → bytes_at k mid ≡ Some (t, rest) → ¬ IsUtf8 t → text_at bytes ≡ None
unfolding text_at
text_unread bytes n k mid t rest e same f u = rw e (rw (← same) (rw f (rw (not_utf8 t (is_utf8 t) refl u) refl)))

pub refusal_read : (bytes : List ℕ) (n : ℕ) (mid t rest : List ℕ) (o : Option Refusal) → byte_at bytes ≡ Some (n, mid) → text_at mid ≡ Some (t, rest) → Told n t o → refusal_at bytes ≡ (o >>= λ r. Some (r, rest))
unfolding refusal_at
refusal_read bytes n mid t rest o e f h = rw e (rw f (rw (told_is n t o h) refl))

-- the servers of a set are those whose bits are 1, or they are none of a set
pub are_servers : (servers : List ℕ) → AreServers servers → servers_where (has_bit (bits_of servers)) ≡ servers
are_servers servers is = ap (λ b. servers_where (has_bit b)) (ap bits_of is.2 ∙ bits_of-servers_where is.0 is.1) ∙ sym is.2

pub servers_are : (servers : List ℕ) (bits : ℕ) → bits ≡ bits_of servers → bits < 2 ^ 16 → servers_where (has_bit (bits_of servers)) ≡ servers → AreServers servers
servers_are servers bits same small e = (bits_of servers, rw (← same) small, sym e)

-- a refusal is told of by its number and its detail, or it can't be written
pub untold : (r : Refusal) (number : ℕ) (detail : List ℕ) → number ≡ number_of r → detail ≡ detail_text r → Told number detail None → ¬ IsWritable r
untold r number detail n d h is = h r is.0 (sym n, sym d)

pub other_told : (r s : Refusal) (number : ℕ) (detail : List ℕ) → number ≡ number_of r → detail ≡ detail_text r → Told number detail (Some s) → ¬ (s ≡ r) → ¬ IsWritable r
other_told r s number detail n d h other is = other (some_is s r (sym (told_is number detail (Some s) h) ∙ ap (λ x. told x detail) n ∙ ap (told (number_of r)) d ∙ told_back r is.0))

pub refusal_puts : (r s : Refusal) (number : ℕ) (detail old mid new : List ℕ) (res : Result (Unit {0}) Fault) → number ≡ number_of r → detail ≡ detail_text r → IsRefusal s → s ≡ r → mid ≡ old ++ number ∷ [] → Puts (IsText detail) (text detail) mid new res → Puts (IsWritable r) (refusal r) old new res
refusal_puts r s number detail old mid new res n d is same first h =
    puts_as (IsRefusal r × IsText (detail_text r)) (IsWritable r) ((number_of r ∷ []) ++ text (detail_text r)) (refusal r) old new res (λ k. k) (λ k. k) refl
    (puts_two (IsRefusal r) (IsText (detail_text r)) (number_of r ∷ []) (text (detail_text r)) old mid new res (subst IsRefusal same is, first ∙ ap (λ (k : ℕ). old ++ k ∷ []) n) (subst (λ (t : List ℕ). Puts (IsText t) (text t) mid new res) d h))

pub told_utf8 : (t : List ℕ) → IsUtf8 t → is_utf8 t ≡ true
told_utf8 t u = is_utf8-from_IsUtf8 t u

pub two_pieces : (old a b mid new : List ℕ) → mid ≡ old ++ a → new ≡ mid ++ b → new ≡ old ++ (a ++ b)
two_pieces old a b mid new e f = f ∙ ap (λ (z : List ℕ). z ++ b) e ∙ append_assoc old a b

pub not_true : (b : Bool) → b ≡ false → IsTrue b → ⊥
not_true b e h = absurd (true≢false (sym h ∙ e))

pub outcome_read : (bytes : List ℕ) (n : ℕ) (mid t rest : List ℕ) (o : Option Refusal) → byte_at bytes ≡ Some (n, mid) → text_at mid ≡ Some (t, rest) → n ≢ 0 → Told n t o → outcome_at bytes ≡ (o >>= λ r. Some (Refused r, rest))
unfolding outcome_at
outcome_read bytes n mid t rest None e f other h = rw e (rw f (rw (eqb_other n 0 other) (rw (told_is n t None h) refl)))
outcome_read bytes n mid t rest (Some r) e f other h = rw e (rw f (rw (eqb_other n 0 other) (rw (told_is n t (Some r) h) refl)))
