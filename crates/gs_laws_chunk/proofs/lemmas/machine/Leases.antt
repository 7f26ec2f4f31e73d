-- What a lease lets its holder say.
use Rattle.std.proofs.Common.{◌≡◌, ◌≢◌, ℕ, ◌+◌, ◌≤◌, ◌⊎◌, inl, inr, ⊎_elim, List, [], ◌∷◌, ◌++◌, Some, true, eqb, sym, ◌∙◌, arith}
use Rattle.std.specs.Prelude.{slice_get, nat_eq, max, not}
use Rattle.std.specs.List.{filter}
use Rattle.std.proofs.lemmas.Bool.{cases_Bool, cases_eq, cond_both, eqb-true, or_cases, or_left, or_right}
use Rattle.std.proofs.lemmas.List.Elements.{All-push, All-filter}
use Rattle.gs_laws_chunk.specs.machine.Machine.{Open, MemberLease, Known}
use Rattle.gs_laws_chunk.specs.machine.Events.{waits, IsCovered, told_by, opened, closed}
use Rattle.gs_laws_chunk.proofs.lemmas.machine.Known.{Covered, Reached, LeaseOk}

pub max_within : (a b n : ℕ) → a ≤ n → b ≤ n → max a b ≤ n
max_within a b n x y = omega arith

-- what each member has told, it has reached
pub covered : (k : Known) (me : ℕ) (l : MemberLease) → LeaseOk k me l → (place : ℕ) → IsCovered l place → Covered k l.stamp place
covered k me l ok place c = record {
  members = λ j m. let t = ok.told j m in let n = c j (sym (ok.members j) ∙ m) in record { promise = t.promise; low = (let y = t.low in omega arith) };
}

pub hears_ok : (k : Known) (me : ℕ) (l : MemberLease) → LeaseOk k me l → (from count : ℕ) → Reached k from l.stamp count → LeaseOk k me (told_by l from count)
hears_ok k me l ok from count r = record {
  within = ok.within;
  holder = ok.holder;
  members = ok.members;
  waiting = ok.waiting;
  told = λ j m. let t = ok.told j m in cond_both (eqb j from) (max (l.told j) count) (l.told j) (Reached k j l.stamp)
      (λ e. record { promise = t.promise; low = max_within (l.told j) count (k.reached j l.stamp) t.low (rw (eqb-true j from e) r.low) })
      (λ e. t);
}

pub opened_ok : (k : Known) (me : ℕ) (l : MemberLease) → LeaseOk k me l → (o : Open) → slice_get (k.list l.stamp) o.place ≡ Some o.edit → Reached k me l.stamp (o.place + 1) → LeaseOk k me (opened me l o.place o.edit)
opened_ok k me l ok o at r = hears_ok k me (record l { waiting = l.waiting ++ o ∷ [] }) (record {
  within = ok.within;
  holder = ok.holder;
  members = ok.members;
  told = ok.told;
  waiting = All-push (λ (o : Open). slice_get (k.list l.stamp) o.place ≡ Some o.edit) l.waiting o ok.waiting at;
}) me (o.place + 1) r

pub closed_ok : (k : Known) (me : ℕ) (l : MemberLease) → LeaseOk k me l → (place : ℕ) → LeaseOk k me (closed l place)
closed_ok k me l ok place = record {
  within = ok.within;
  holder = ok.holder;
  members = ok.members;
  told = ok.told;
  waiting = All-filter (λ (o : Open). not (nat_eq place o.place)) (λ (o : Open). slice_get (k.list l.stamp) o.place ≡ Some o.edit) l.waiting ok.waiting;
}

-- an edit at another place goes on waiting
pub waits_on : (place n : ℕ) (os : List Open) → n ≢ place → waits os n ≡ true → waits (filter (λ (o : Open). not (nat_eq place o.place)) os) n ≡ true
waits_on place n [] d e = absurd (cc)
waits_on place n (o ∷ os) d e = elim (cases_Bool (eqb place o.place)) [
  | inl t ↦ rw t (⊎_elim
      (λ (h : eqb n o.place ≡ true). let a = eqb-true place o.place t in let b = eqb-true n o.place h in absurd (d (omega arith)))
      (λ (h : waits os n ≡ true). waits_on place n os d h)
      (or_cases (eqb n o.place) (waits os n) e))
  | inr f ↦ rw f (⊎_elim
      (λ (h : eqb n o.place ≡ true). or_left (eqb n o.place) _ h)
      (λ (h : waits os n ≡ true). or_right (eqb n o.place) _ (waits_on place n os d h))
      (or_cases (eqb n o.place) (waits os n) e))
]

-- what the outbox lets go was told by each member
pub closed_waits : (k : Known) (me : ℕ) (l : MemberLease) → LeaseOk k me l → (place : ℕ) → IsCovered l place → (n : ℕ) → (waits l.waiting n ≡ true) ⊎ Covered k l.stamp n → (waits (closed l place).waiting n ≡ true) ⊎ Covered k l.stamp n
closed_waits k me l ok place c n h = ⊎_elim
    (λ (w : waits l.waiting n ≡ true). ⊎_elim
    (λ (e : n ≡ place). inr (rw e (covered k me l ok place c)))
    (λ (d : n ≢ place). inl (waits_on place n l.waiting d w))
    (cases_eq n place))
    (λ (x : Covered k l.stamp n). inr x) h
