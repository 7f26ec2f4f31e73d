-- Where lists of views come from.
use Rattle.std.proofs.Common.{◌≡◌, ℕ, zero, suc, ◌-◌, min, Bool, true, false, cond, List, [], take, refl, arith, rules, ◌∙◌}
use Rattle.std.specs.Prelude.{nat_eq}
use Rattle.std.proofs.lemmas.List.{places, same_lists}
use Rattle.gs_replica.specs.Stands.{Edit}
use Rattle.gs_laws_chunk.specs.machine.Stamps.{start_of}
use Rattle.gs_laws_chunk.specs.machine.Machine.{ChunkWorld}
use Rattle.gs_laws_chunk.specs.machine.Events.{Event, Raises, Rises, Promises, SendsCopy, TakesLease, Numbers, Forwards, Applies, Acknowledges, Hears, Closes, Answers, Spends, Drops, Loses, Damages, Learns, Names, Reports, Proposes, AsksFirst, Asks, AsksForCopy, GivesUp, Holds, Grants, Retires, SendsDrop, Prepares, Finalizes, BeginsRollback, TellsEpoch, Settles, CommitsRollback}
use Rattle.gs_laws_chunk.specs.machine.Lists.{ListsAreOld, MastersListsAreOld}

taken_twice : (n m : ℕ) (xs : List Edit) → take n (take m xs) ≡ take (min n m) xs
taken_twice n m xs = same_lists _ _ (search (rules, places)) (λ k d h. grind (arith, places))

nothing_of : (n : ℕ) (xs : List Edit) → (let none : List Edit = [] in take n none) ≡ take 0 xs
nothing_of zero xs = refl
nothing_of (suc n) xs = refl

-- a list that is set to the first edits of another
set_old : (w : ChunkWorld) (b : Bool) (old count stamp many : ℕ) → (o fewer : ℕ) × (take many (cond b (take count (w.known.list old)) (w.known.list stamp)) ≡ take fewer (w.known.list o))
set_old w true old count stamp many = (old, min many count, taken_twice many count (w.known.list old))
set_old w false old count stamp many = (stamp, many, refl)

set_same : (w : ChunkWorld) (b : Bool) (old stamp many : ℕ) → (o fewer : ℕ) × (take many (cond b (w.known.list old) (w.known.list stamp)) ≡ take fewer (w.known.list o))
set_same w true old stamp many = (old, many, refl)
set_same w false old stamp many = (stamp, many, refl)

set_none : (w : ChunkWorld) (b : Bool) (stamp many : ℕ) → (o fewer : ℕ) × (take many (cond b [] (w.known.list stamp)) ≡ take fewer (w.known.list o))
set_none w true stamp many = (stamp, 0, nothing_of many (w.known.list stamp))
set_none w false stamp many = (stamp, many, refl)

pub masters_lists_old : (w : ChunkWorld) (e : Event) → MastersListsAreOld w e
masters_lists_old w (Raises me stamp edits image) none = absurd (cc)
masters_lists_old w (Rises me stamp edits) none = absurd (cc)
masters_lists_old w (Promises me edits) none = absurd (cc)
masters_lists_old w (SendsCopy me stamp target edits image) none = absurd (cc)
masters_lists_old w (TakesLease me stamp members) none = absurd (cc)
masters_lists_old w (Numbers me lease edits edit) none = absurd (cc)
masters_lists_old w (Forwards me lease to place edit) none = absurd (cc)
masters_lists_old w (Applies me edits edit) none = absurd (cc)
masters_lists_old w (Acknowledges me edits) none = absurd (cc)
masters_lists_old w (Hears me lease from count) none = absurd (cc)
masters_lists_old w (Closes me lease place) none = absurd (cc)
masters_lists_old w (Answers me lease place edit) none = absurd (cc)
masters_lists_old w (Spends me) none = absurd (cc)
masters_lists_old w (Drops me) none = absurd (cc)
masters_lists_old w (Loses me) none = absurd (cc)
masters_lists_old w (Damages me) none = absurd (cc)
masters_lists_old w (Learns me end fails) none = absurd (cc)
masters_lists_old w (Names me edits) none = absurd (cc)
masters_lists_old w (Reports me) none = absurd (cc)
masters_lists_old w (Proposes stamp asked) none = λ stamp many. (stamp, many, refl)
masters_lists_old w (AsksFirst to false) none = λ stamp many. (stamp, many, refl)
masters_lists_old w (AsksFirst to true) none = λ stamp many. (stamp, many, refl)
masters_lists_old w (Asks to) none = λ stamp many. (stamp, many, refl)
masters_lists_old w (AsksForCopy source target with_image) none = λ stamp many. (stamp, many, refl)
masters_lists_old w GivesUp none = λ stamp many. (stamp, many, refl)
masters_lists_old w (Holds server) none = λ stamp many. (stamp, many, refl)
masters_lists_old w (Grants to) none = λ stamp many. (stamp, many, refl)
masters_lists_old w Retires none = λ stamp many. (stamp, many, refl)
masters_lists_old w (SendsDrop to promise) none = λ stamp many. (stamp, many, refl)
masters_lists_old w (Prepares whole) none = λ stamp many. (stamp, many, refl)
masters_lists_old w Finalizes none = λ stamp many. (stamp, many, refl)
masters_lists_old w BeginsRollback none = λ stamp many. (stamp, many, refl)
masters_lists_old w (TellsEpoch to epoch) none = λ stamp many. (stamp, many, refl)
masters_lists_old w (Settles members count holder) none = λ stamp many. set_old w (nat_eq stamp w.known.top) w.known.view count stamp many
masters_lists_old w (CommitsRollback members true) none = λ stamp many. set_same w (nat_eq stamp (start_of w.known.current)) (w.known.prepared (w.known.current - 1)) stamp many
masters_lists_old w (CommitsRollback members false) none = λ stamp many. set_none w (nat_eq stamp (start_of w.known.current)) stamp many

pub lists_same : (w : ChunkWorld) → ListsAreOld w w
lists_same w stamp many = (stamp, many, refl)

pub lists_then : (w mid last : ChunkWorld) → ListsAreOld w mid → ListsAreOld mid last → ListsAreOld w last
lists_then w mid last first then stamp many = let b = then stamp many in let a = first b.0 b.1 in (a.0, a.1, b.2 ∙ a.2)
