-- What is put stands in the node's list.
use Rattle.std.proofs.Common.{◌<◌, ◌≡◌, ℕ, zero, suc, ◌+◌, ⊎_elim, ◌⊎◌, inl, inr, List, [], ◌∷◌, ◌++◌, map, length, Some, Bool, true, false, refl, sym, ap, ◌∙◌, subst, arith}
use Rattle.std.specs.Prelude.{if◌then◌else◌, slice_get, slice_set}
use Rattle.std.proofs.lemmas.Option.{none-some, same_Some}
use Rattle.gs_base.specs.declared.numbers.Moment.{Moment}
use Rattle.gs_msg.specs.declared.message.Message.{Message}
use Rattle.gs_msg.specs.declared.node.NodeId.{NodeId}
use Rattle.gs_msg.specs.declared.sent.Sent.{Sent}
use Rattle.gs_cluster_channel.specs.Settled.{Putting, puts}
use Rattle.gs_cluster_history.specs.Histories.{Among, Listed, listed, listing}
use Rattle.gs_cluster_node.specs.Nodes.{AllListed, HaveSentNothing, IsListed, leads_of}
use Rattle.gs_cluster_node.specs.inner.Acting.{AllOwn, AreAt, PutOn, Routes}

pub get_left : {X : Type 0} (xs ys : List X) (k : ℕ) (v : X) → slice_get xs k ≡ Some v → slice_get (xs ++ ys) k ≡ Some v
get_left [] ys k v h = absurd (none-some v h)
get_left (x ∷ xs) ys zero v h = h
get_left (x ∷ xs) ys (suc k) v h = get_left xs ys k v h

get_right : {X : Type 0} (xs ys : List X) (k : ℕ) → slice_get (xs ++ ys) (length xs + k) ≡ slice_get ys k
get_right [] ys k = let e : 0 + k ≡ k = omega arith in ap (slice_get ys) e
get_right (x ∷ xs) ys k = let e : suc (length xs) + k ≡ suc (length xs + k) = omega arith in ap (slice_get (x ∷ xs ++ ys)) e ∙ get_right xs ys k

map_at : {X Y : Type 0} (f : X → Y) (xs : List X) (i : ℕ) (x : X) → slice_get xs i ≡ Some x → slice_get (map f xs) i ≡ Some (f x)
map_at f [] i x h = absurd (none-some x h)
map_at f (z ∷ xs) zero x h = ap (λ a. Some (f a)) (same_Some z x h)
map_at f (z ∷ xs) (suc i) x h = map_at f xs i x h

-- what stands at a place where another has been put
set_cases : {X : Type 0} (xs : List X) (at k : ℕ) (y z : X) → slice_get (slice_set xs at y) k ≡ Some z → (y ≡ z) ⊎ (slice_get xs k ≡ Some z)
set_cases [] at k y z h = absurd (none-some z h)
set_cases (x ∷ xs) zero zero y z h = inl (same_Some y z h)
set_cases (x ∷ xs) zero (suc k) y z h = inr h
set_cases (x ∷ xs) (suc at) zero y z h = inr h
set_cases (x ∷ xs) (suc at) (suc k) y z h = set_cases xs at k y z h

pub in_last : (xs : List Sent) (y x : Sent) → Among (xs ++ y ∷ []) x → Among xs x ⊎ (y ≡ x)
in_last [] y x (zero, h) = inr (same_Some y x h)
in_last [] y x (suc k, h) = absurd (none-some x h)
in_last (z ∷ xs) y x (zero, h) = inl (zero, h)
in_last (z ∷ xs) y x (suc k, h) = ⊎_elim (λ (r : Among xs x). inl (suc r.0, r.1)) (λ (r : y ≡ x). inr r) (in_last xs y x (k, h))

-- a list that only grows keeps what stands in it
pub still_listed : (me : NodeId) (sent more : List Listed) (ways : List Putting) → AllListed me sent ways → AllListed me (sent ++ more) ways
still_listed me sent more ways all w a x i =
    let l = all w a x i in
    record { sender = l.sender; receiver = l.receiver; at = get_left sent more x.place (listing x) l.at }

-- so do messages that a node keeps of its own
pub still_own : (me : NodeId) (sent more : List Listed) (xs : List Sent) → AllOwn me sent xs → AllOwn me (sent ++ more) xs
still_own me sent more xs own x a = let l = own x a in (l.0, get_left sent more x.place (listing x) l.1)

pub own_none : (me : NodeId) (sent : List Listed) (xs : List Sent) → xs ≡ [] → AllOwn me sent xs
own_none me sent xs e x a = let b = subst (λ l. Among l x) e a in absurd (none-some x b.1)

one_own : (me : NodeId) (sent : List Listed) (xs : List Sent) (y : Sent) → AllOwn me sent xs → y.from ≡ me → slice_get sent y.place ≡ Some (listing y) → AllOwn me sent (xs ++ y ∷ [])
one_own me sent xs y own from at x a = ⊎_elim
    (λ (r : Among xs x). own x r)
    (λ (e : y ≡ x). subst (λ (z : Sent). (z.from ≡ me) × (slice_get sent z.place ≡ Some (listing z))) e (from, at))
    (in_last xs y x a)

pub own_if : (me : NodeId) (sent : List Listed) (xs new : List Sent) (y : Sent) (done : Bool) → new ≡ (if done then xs ++ y ∷ [] else xs)
    → AllOwn me sent xs → (y.from ≡ me) × (slice_get sent y.place ≡ Some (listing y)) → AllOwn me sent new
own_if me sent xs new y true e own s = subst (AllOwn me sent) (sym e) (one_own me sent xs y own s.0 s.1)
own_if me sent xs new y false e own s = subst (AllOwn me sent) (sym e) own

-- the first of them, and those behind it
pub own_first : (me : NodeId) (sent : List Listed) (xs ys : List Sent) (y : Sent) → xs ≡ y ∷ ys → AllOwn me sent xs → (y.from ≡ me) × (slice_get sent y.place ≡ Some (listing y))
own_first me sent xs ys y e own = own y (subst (λ (l : List Sent). Among l y) (sym e) (0, refl))

pub own_behind : (me : NodeId) (sent : List Listed) (xs ys : List Sent) (y : Sent) → xs ≡ y ∷ ys → AllOwn me sent xs → AllOwn me sent ys
own_behind me sent xs ys y e own x a = own x (subst (λ (l : List Sent). Among l x) (sym e) (suc a.0, a.1))

one_before : (me : NodeId) (sent : List Listed) (ys : List Sent) (y : Sent) → AllOwn me sent ys → (y.from ≡ me) × (slice_get sent y.place ≡ Some (listing y)) → AllOwn me sent (y ∷ ys)
one_before me sent ys y own stands x (zero, h) = subst (λ (z : Sent). (z.from ≡ me) × (slice_get sent z.place ≡ Some (listing z))) (same_Some y x h) stands
one_before me sent ys y own stands x (suc k, h) = own x (k, h)

pub own_again : (me : NodeId) (sent : List Listed) (ys new : List Sent) (y : Sent) (done : Bool) → new ≡ (if done then y ∷ ys else ys)
    → AllOwn me sent ys → (y.from ≡ me) × (slice_get sent y.place ≡ Some (listing y)) → AllOwn me sent new
own_again me sent ys new y true e own stands = subst (AllOwn me sent) (sym e) (one_before me sent ys y own stands)
own_again me sent ys new y false e own stands = subst (AllOwn me sent) (sym e) own

-- what is said of whoever has sent a message is said of the node
pub routed_for : (me : NodeId) (sent : List Listed) (x : Sent) (old new : List Putting) → x.from ≡ me → Routes x.from sent old new → Routes me sent old new
routed_for me sent x old new mine r = subst (λ (n : NodeId). Routes n sent old new) mine r

pub leads_at : (ways : List Putting) (at : ℕ) (way : Putting) → slice_get ways at ≡ Some way → slice_get (leads_of ways) at ≡ Some way.to
leads_at ways at way h = map_at (λ (w : Putting). w.to) ways at way h

pub leads_within : (ways : List Putting) (at : ℕ) (to : NodeId) → slice_get (leads_of ways) at ≡ Some to → at < length ways
leads_within [] at to h = absurd (none-some to h)
leads_within (w ∷ ways) zero to h = omega arith
leads_within (w ∷ ways) (suc at) to h = let r = leads_within ways at to h in omega arith

-- a way that has put something leads where it led
leads_set : (ways : List Putting) (at : ℕ) (way : Putting) (to : NodeId) (put : List Sent) → slice_get ways at ≡ Some way → way.to ≡ to → leads_of (slice_set ways at (record { to = to; put = put })) ≡ leads_of ways
leads_set [] at way to put h e = refl
leads_set (w ∷ ways) zero way to put h e = ap (λ (n : NodeId). n ∷ leads_of ways) (sym e ∙ ap (λ (p : Putting). p.to) (sym (same_Some w way h)))
leads_set (w ∷ ways) (suc at) way to put h e = ap (λ (l : List NodeId). w.to ∷ l) (leads_set ways at way to put h e)

leads_put : (x : Sent) (ways : List Putting) (at : ℕ) (way : Putting) (done : Bool) → slice_get ways at ≡ Some way → leads_of (slice_set ways at (puts done x way)) ≡ leads_of ways
leads_put x ways at way true h = leads_set ways at way way.to (way.put ++ x ∷ []) h refl
leads_put x ways at way false h = leads_set ways at way way.to way.put h refl

pub none_listed : (me : NodeId) (sent : List Listed) (ways : List Putting) → HaveSentNothing ways → AllListed me sent ways
none_listed me sent ways none w a x (k, h) = absurd (none-some x (subst (λ l. slice_get l k ≡ Some x) (none w a) h))

one_way : (sent : List Listed) (x : Sent) (way : Putting) (done : Bool) → slice_get sent x.place ≡ Some (listing x) → way.to ≡ x.message.to
    → ((y : Sent) → Among way.put y → IsListed x.from way.to sent y) → (y : Sent) → Among (puts done x way).put y → IsListed x.from (puts done x way).to sent y
one_way sent x way true at to all y i = ⊎_elim (λ (a : Among way.put y). all y a)
    (λ (e : x ≡ y). subst (λ (z : Sent). IsListed x.from way.to sent z) e (record { sender = refl; receiver = sym to; at = at }))
    (in_last way.put x y i)
one_way sent x way false at to all y i = all y i

one_put : (sent : List Listed) (x : Sent) (old new : List Putting) → slice_get sent x.place ≡ Some (listing x) → AllListed x.from sent old → (new ≡ old) ⊎ PutOn x old new → AllListed x.from sent new
one_put sent x old new at all put = ⊎_elim
    (λ (s : new ≡ old). subst (AllListed x.from sent) (sym s) all)
    (λ (p : PutOn x old new). subst (AllListed x.from sent) (sym p.then) (λ w a y i. ⊎_elim
    (λ (s : puts p.done x p.way ≡ w).
    subst (λ (z : Putting). IsListed x.from z.to sent y) s (one_way sent x p.way p.done at p.to (λ z j. all p.way (p.at, p.there) z j) y (subst (λ (z : Putting). Among z.put y) (sym s) i)))
    (λ (o : slice_get old a.0 ≡ Some w). all w (a.0, o) y i)
    (set_cases old p.at a.0 (puts p.done x p.way) w a.1)))
    put

leads_on : (x : Sent) (old new : List Putting) → (new ≡ old) ⊎ PutOn x old new → leads_of new ≡ leads_of old
leads_on x old new put = ⊎_elim
    (λ (s : new ≡ old). ap leads_of s)
    (λ (p : PutOn x old new). ap leads_of p.then ∙ leads_put x old p.at p.way p.done p.there)
    put

pub one_routed : (sent : List Listed) (x : Sent) (old new : List Putting) → slice_get sent x.place ≡ Some (listing x) → AllListed x.from sent old → (new ≡ old) ⊎ PutOn x old new → Routes x.from sent old new
one_routed sent x old new at all put = (one_put sent x old new at all put, leads_on x old new put)

pub at_first : (sent : List Listed) (place clock : ℕ) (moment : Moment) (m : Message) (ms : List Message) → AreAt sent place clock moment (m ∷ ms) → slice_get sent place ≡ Some (listed clock moment m)
at_first sent place clock moment m ms are = let same : place + 0 ≡ place = omega arith in subst (λ k. slice_get sent k ≡ Some (listed clock moment m)) same (are 0 m refl)

pub at_others : (sent : List Listed) (place clock : ℕ) (moment : Moment) (m : Message) (ms : List Message) → AreAt sent place clock moment (m ∷ ms) → AreAt sent (place + 1) clock moment ms
at_others sent place clock moment m ms are k v h = let same : place + suc k ≡ place + 1 + k = omega arith in subst (λ j. slice_get sent j ≡ Some (listed clock moment v)) same (are (suc k) v h)

-- what is added at the end stands there
pub are_behind : (sent : List Listed) (place clock : ℕ) (moment : Moment) (ms : List Message) → place ≡ length sent → AreAt (sent ++ map (listed clock moment) ms) place clock moment ms
are_behind sent place clock moment ms same k m h =
    subst (λ n. slice_get (sent ++ map (listed clock moment) ms) (n + k) ≡ Some (listed clock moment m)) (sym same)
    (get_right sent (map (listed clock moment) ms) k ∙ map_at (listed clock moment) ms k m h)
