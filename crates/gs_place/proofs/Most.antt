-- The chunk that needs a replica most among those looked at so far.
use Rattle.std.proofs.Common.{◌≡◌, ℕ, ◌+◌, ◌<◌, ◌≤◌, Bool, true, false, cond, List, [], ◌∷◌, ◌++◌, Option, Some, None, refl, sym, ap, ◌∙◌, subst, ⊎_elim, ◌⊎◌, inl, inr, arith, length, take, take_all, get_or}
use Rattle.std.proofs.lemmas.List.{take_more}
use Rattle.std.proofs.lemmas.Bool.{false≢true}
use Rattle.std.proofs.lemmas.List.Elements.{Contains-push, Contains-push_cases, Contains-append_cases, Contains-append_left, Contains-append_right}
use Rattle.std.specs.Prelude.{◌&&◌, not, filter, find, Contains}
use Rattle.std.specs.List.{list_all}
use Rattle.std.specs.Option.{option_map}
use Rattle.gs_place.specs.declared.need.Need.{Need}
use Rattle.gs_place.specs.Order.{rank}
use Rattle.gs_place.specs.Needs.{shortfall, is_needy, needs_more, needier, IsMost, most_needed_of}
use Rattle.gs_place.specs.declared.need.Needed.{Needed}
use Rattle.gs_place.specs.Offered.{IsNeeded}
use Rattle.gs_place.proofs.Firsts.{precedes_itself, precedes_better_down, precedes_neither}

clash : (b : Bool) → b ≡ true → b ≡ false → ⊥
clash b t f = false≢true (sym f ∙ t)

more_itself : (replicas : ℕ) (n : Need) → needs_more replicas n n ≡ false
more_itself replicas n = precedes_itself (shortfall replicas n) (rank n.is_visible) n.handle

more_better : (replicas : ℕ) (u b s : Need) → needs_more replicas u b ≡ false → needs_more replicas s b ≡ true → needs_more replicas u s ≡ false
more_better replicas u b s least less =
    precedes_better_down (shortfall replicas u) (shortfall replicas b) (shortfall replicas s) (rank u.is_visible) (rank b.is_visible) (rank s.is_visible) u.handle b.handle s.handle least less

pub most_push : (replicas : ℕ) (needs : List Need) (n : Need) (most : Option Need) → IsMost replicas needs most → IsMost replicas (needs ++ n ∷ []) (needier replicas most n)
most_push replicas needs n None is = at (is_needy replicas n) refl
  where
    at : (b : Bool) → is_needy replicas n ≡ b → IsMost replicas (needs ++ n ∷ []) (cond b (Some n) None)
    at true needy = (
      Contains-push needs n,
      needy,
      λ o among is_o. ⊎_elim
          (λ old. absurd (clash (is_needy replicas o) is_o (is o old)))
          (λ same. ap (λ x. needs_more replicas x n) (sym same) ∙ more_itself replicas n)
          (Contains-push_cases needs n o among),
    )
    at false needy = λ o among. ⊎_elim (λ old. is o old) (λ same. ap (is_needy replicas) (sym same) ∙ needy) (Contains-push_cases needs n o among)
most_push replicas needs n (Some b) is = at (is_needy replicas n) (needs_more replicas n b) refl refl
  where
    at : (x y : Bool) → is_needy replicas n ≡ x → needs_more replicas n b ≡ y → IsMost replicas (needs ++ n ∷ []) (cond x (cond y (Some n) (Some b)) (Some b))
    at true true needy more = (
      Contains-push needs n,
      needy,
      λ o among is_o. ⊎_elim
          (λ old. more_better replicas o b n (is.2 o old is_o) more)
          (λ same. ap (λ x. needs_more replicas x n) (sym same) ∙ more_itself replicas n)
          (Contains-push_cases needs n o among),
    )
    at true false needy more = (
      Contains-append_left needs (n ∷ []) b is.0,
      is.1,
      λ o among is_o. ⊎_elim
          (λ old. is.2 o old is_o)
          (λ same. ap (λ x. needs_more replicas x b) (sym same) ∙ more)
          (Contains-push_cases needs n o among),
    )
    at false y needy more = (
      Contains-append_left needs (n ∷ []) b is.0,
      is.1,
      λ o among is_o. ⊎_elim
          (λ old. is.2 o old is_o)
          (λ same. absurd (clash (is_needy replicas n) (ap (is_needy replicas) same ∙ is_o) needy))
          (Contains-push_cases needs n o among),
    )

-- ---- a search among the elements that pass a test
cons_cases : {X : Type 0} (x : X) (xs : List X) (o : X) → Contains (x ∷ xs) o → (x ≡ o) ⊎ Contains xs o
cons_cases x xs o among = ⊎_elim
    (λ (one : Contains (x ∷ []) o). ⊎_elim (λ (none : Contains [] o). absurd (omega (arith, none.1))) (λ (same : x ≡ o). inl same) (Contains-push_cases [] x o one))
    (λ (rest : Contains xs o). inr rest)
    (Contains-append_cases (x ∷ []) xs o among)

in_head : {X : Type 0} (x : X) (xs : List X) → Contains (x ∷ xs) x
in_head x xs = Contains-append_left (x ∷ []) xs x (Contains-push [] x)

in_tail : {X : Type 0} (x : X) (xs : List X) (o : X) → Contains xs o → Contains (x ∷ xs) o
in_tail x xs o among = Contains-append_right (x ∷ []) xs o among

both : (a b : Bool) → (a && b) ≡ true → (a ≡ true) × (b ≡ true)
both true b h = (refl, h)
both false b h = absurd (false≢true h)

all_of : {X : Type 0} (p q : X → Bool) (xs : List X) → ((o : X) → Contains xs o → q o ≡ true → p o ≡ true) → list_all p (filter q xs) ≡ true
all_of p q [] each = refl
all_of p q (x ∷ xs) each = at (q x) refl (all_of p q xs (λ o among. each o (in_tail x xs o among)))
  where
    at : (b : Bool) → q x ≡ b → list_all p (filter q xs) ≡ true → list_all p (cond b (x ∷ filter q xs) (filter q xs)) ≡ true
    at true here rest = rw (each x (in_head x xs) here) rest
    at false here rest = rest

filtered_head : {X : Type 0} (p q : X → Bool) (x : X) (xs : List X) → list_all p (filter q (x ∷ xs)) ≡ true → q x ≡ true → p x ≡ true
filtered_head p q x xs all qx = (both (p x) (list_all p (filter q xs)) (sym (ap (λ b. list_all p (cond b (x ∷ filter q xs) (filter q xs))) qx) ∙ all)).0

filtered_tail : {X : Type 0} (p q : X → Bool) (x : X) (xs : List X) → list_all p (filter q (x ∷ xs)) ≡ true → list_all p (filter q xs) ≡ true
filtered_tail p q x xs all = at (q x) all
  where
    at : (b : Bool) → list_all p (cond b (x ∷ filter q xs) (filter q xs)) ≡ true → list_all p (filter q xs) ≡ true
    at true all = (both (p x) (list_all p (filter q xs)) all).1
    at false all = all

each_of : {X : Type 0} (p q : X → Bool) (xs : List X) → list_all p (filter q xs) ≡ true → (o : X) → Contains xs o → q o ≡ true → p o ≡ true
each_of p q [] all o among qo = absurd (omega (arith, among.1))
each_of p q (x ∷ xs) all o among qo = ⊎_elim
    (λ (same : x ≡ o). ap p (sym same) ∙ filtered_head p q x xs all (ap q same ∙ qo))
    (λ (rest : Contains xs o). each_of p q xs (filtered_tail p q x xs all) o rest qo)
    (cons_cases x xs o among)

find_none : {X : Type 0} (p q : X → Bool) (xs : List X) → ((o : X) → Contains xs o → q o ≡ false) → find p (filter q xs) ≡ None
find_none p q [] none = refl
find_none p q (x ∷ xs) none = rw (none x (in_head x xs)) (find_none p q xs (λ o among. none o (in_tail x xs o among)))

-- the first that passes both tests has the property of any that does
find_alike : {X Y : Type 0} (p q : X → Bool) (f : X → Y) (xs : List X) (b : X) → Contains xs b → q b ≡ true → p b ≡ true
    → ((o : X) → Contains xs o → q o ≡ true → p o ≡ true → f o ≡ f b) → option_map f (find p (filter q xs)) ≡ Some (f b)
find_alike p q f [] b among qb pb alike = absurd (omega (arith, among.1))
find_alike p q f (x ∷ xs) b among qb pb alike = ⊎_elim
    (λ (same : x ≡ b). rw (ap q same ∙ qb, ap p same ∙ pb) (ap (λ o. Some (f o)) same))
    (λ (rest : Contains xs b). at (q x) (p x) refl refl (find_alike p q f xs b rest qb pb (λ o h. alike o (in_tail x xs o h))))
    (cons_cases x xs b among)
  where
    at : (y z : Bool) → q x ≡ y → p x ≡ z → option_map f (find p (filter q xs)) ≡ Some (f b) → option_map f (find p (cond (q x) (x ∷ filter q xs) (filter q xs))) ≡ Some (f b)
    at true true qx px rest = rw (qx, px) (ap Some (alike x (in_head x xs) qx px))
    at true false qx px rest = rw (qx, px) rest
    at false z qx px rest = rw qx rest

before_not : (b : Bool) → not b ≡ true → b ≡ false
before_not true e = absurd (false≢true e)
before_not false e = refl

same_handle : (replicas : ℕ) (o b : Need) → needs_more replicas o b ≡ false → needs_more replicas b o ≡ false → o.handle ≡ b.handle
same_handle replicas o b h k = precedes_neither (shortfall replicas b) (shortfall replicas o) (rank o.is_visible) (rank b.is_visible) o.handle b.handle h k

pub most_is : (replicas : ℕ) (needs : List Need) (most : Option Need) → IsMost replicas needs most → option_map (λ n. n.handle) most ≡ most_needed_of replicas needs
most_is replicas needs None is = ap (option_map (λ n. n.handle)) (sym (find_none _ _ needs is))
most_is replicas needs (Some b) is =
    let least : Need → Need → Bool = λ n o. not (needs_more replicas o n) in
    sym (find_alike (λ n. list_all (least n) (filter (is_needy replicas) needs)) (is_needy replicas) (λ n. n.handle) needs b is.0 is.1
    (all_of (least b) (is_needy replicas) needs (λ o among needy. ap not (is.2 o among needy)))
    (λ o among needy first. same_handle replicas o b (is.2 o among needy) (before_not (needs_more replicas b o) (each_of (least o) (is_needy replicas) needs first b is.0 is.1))))

-- ---- as they are offered
pub needed_more : (replicas : ℕ) (needs : List Need) (n : Need) (old new : Needed) → new.replicas ≡ old.replicas → new.most ≡ needier old.replicas old.most n
    → IsNeeded replicas needs old → IsNeeded replicas (needs ++ n ∷ []) new
needed_more replicas needs n old new same is h = record {
  replicas_are = same ∙ h.replicas_are;
  most = subst (IsMost replicas (needs ++ n ∷ [])) (sym (is ∙ ap (λ r. needier r old.most n) h.replicas_are)) (most_push replicas needs n old.most h.most);
}

pub needed_item : (replicas : ℕ) (needs : List Need) (i : ℕ) (n : Need) (needed : Needed) → i < length needs → n ≡ get_or needs i n
    → IsNeeded replicas (take i needs ++ n ∷ []) needed → IsNeeded replicas (take (i + 1) needs) needed
needed_item replicas needs i n needed below item h =
    subst (λ ns. IsNeeded replicas ns needed) (ap (λ x. take i needs ++ x ∷ []) item ∙ sym (take_more needs i n below)) h

pub needed_all : (replicas : ℕ) (needs : List Need) (i : ℕ) (needed : Needed) → length needs ≤ i → IsNeeded replicas (take i needs) needed → IsNeeded replicas needs needed
needed_all replicas needs i needed done h = subst (λ ns. IsNeeded replicas ns needed) (take_all i needs done) h

pub most_at : (replicas : ℕ) (needs : List Need) (needed : Needed) (most : Option Need) → needed.most ≡ most → IsNeeded replicas needs needed → IsMost replicas needs most
most_at replicas needs needed most is h = subst (IsMost replicas needs) is h.most
