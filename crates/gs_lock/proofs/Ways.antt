-- Locks in the way of who reads what is above its paths.
use Rattle.std.proofs.Common.{◌≡◌, Bool, true, false, cond, List, [], ◌∷◌, ◌++◌, map, refl, sym, ap, ◌∙◌}
use Rattle.std.specs.Prelude.{◌&&◌, ◌||◌, not}
use Rattle.std.specs.List.{list_any}
use Rattle.std.specs.Borrow.{Bor}
use Rattle.std.specs.Cmp.{eq_by_cmp_equiv}
use Rattle.std.specs.Cmp.Lexicographic.{nat_list_cmp_total}
use Rattle.std.specs.FinMap as fin
use Rattle.std.specs.Ordering.{is_eq}
use Rattle.std.specs.declared.cmp.Ordering.{Ordering}
use Rattle.std.specs.declared.cmp.Ordering.TheVariants.{Less, Equal, Greater}
use Rattle.std.proofs.lemmas.Bool.{false≢true}
use Rattle.gs_base.specs.declared.numbers.ReqId.{ReqId}
use Rattle.gs_path.specs.Path.{Path, Name, path_cmp, name_cmp, same_name, begins}
use Rattle.gs_lock.specs.declared.lock.Lock.{Lock}
use Rattle.gs_lock.specs.Locks.{same_path, is_among, is_in_the_way, conflicts_with, is_conflict, stands_in_the_way, beginnings, all_beginnings}
use Rattle.gs_lock.specs.Operations.{same_op}
use Rattle.gs_lock.proofs.Conflicts.{any_same, and_any, eq_then}

any_map : {X Y : Type 0} (p : Y → Bool) (f : X → Y) (xs : List X) → list_any (λ x. p (f x)) xs ≡ list_any p (map f xs)
any_map p f [] = refl
any_map p f (x ∷ xs) = ap (λ b. p (f x) || b) (any_map p f xs)

abbrev pub Shown : List (Bor Path) → List Path
Shown paths = map (λ path. path.now) paths

-- of a lock that writes
pub written : (op : ReqId) (reads writes : List (Bor Path)) (l : Lock) (u : Bool) → same_op op l.op ≡ false → l.writes ≡ true
    → u ≡ (list_any (λ path. begins l.path path.now) reads || list_any (λ path. begins l.path path.now) writes) → u ≡ is_in_the_way op (Shown reads) (Shown writes) l
written op reads writes l u other w is =
    is ∙ ap (λ b. b || list_any (λ path. begins l.path path.now) writes) (any_map (begins l.path) (λ path. path.now) reads)
    ∙ ap (λ b. list_any (begins l.path) (Shown reads) || b) (any_map (begins l.path) (λ path. path.now) writes)
    ∙ sym (ap (λ s. not s && cond l.writes (list_any (begins l.path) (Shown reads) || list_any (begins l.path) (Shown writes)) (is_among (Shown writes) l.path)) other
    ∙ ap (λ w. cond w (list_any (begins l.path) (Shown reads) || list_any (begins l.path) (Shown writes)) (is_among (Shown writes) l.path)) w)

-- of a lock that reads
pub read : (op : ReqId) (reads writes : List (Bor Path)) (l : Lock) (u : Bool) → same_op op l.op ≡ false → l.writes ≡ false
    → u ≡ list_any (λ other. same_path other.now l.path) writes → u ≡ is_in_the_way op (Shown reads) (Shown writes) l
read op reads writes l u other w is =
    is ∙ any_map (λ p. same_path p l.path) (λ path. path.now) writes
    ∙ sym (ap (λ s. not s && cond l.writes (list_any (begins l.path) (Shown reads) || list_any (begins l.path) (Shown writes)) (is_among (Shown writes) l.path)) other
    ∙ ap (λ w. cond w (list_any (begins l.path) (Shown reads) || list_any (begins l.path) (Shown writes)) (is_among (Shown writes) l.path)) w)

pub first_so : (a b u : Bool) → u ≡ a → a ≡ true → u ≡ (a || b)
first_so true b u e h = e
first_so false b u e h = e ∙ h ∙ ap (λ x. x || b) (sym h)

pub second_so : (a b u : Bool) → u ≡ b → a ≡ false → u ≡ (a || b)
second_so true b u e h = e ∙ absurd (clash h)
  where
    clash : true ≡ false → ⊥
    clash h = cc
second_so false b u e h = e

-- ---- what is above a path
any_append : {X : Type 0} (p : X → Bool) (xs ys : List X) → list_any p (xs ++ ys) ≡ (list_any p xs || list_any p ys)
any_append p [] ys = refl
any_append p (x ∷ xs) ys = ap (λ b. p x || b) (any_append p xs ys) ∙ or_assoc (p x) (list_any p xs) (list_any p ys)
  where
    or_assoc : (a b c : Bool) → (a || (b || c)) ≡ ((a || b) || c)
    or_assoc true b c = refl
    or_assoc false b c = refl

name_sym : (m n : Name) → is_eq (name_cmp n m) ≡ same_name m n
name_sym m n = (eq_by_cmp_equiv nat_list_cmp_total).symm n m

among_beginnings : (p q : Path) → is_among (beginnings p) q ≡ begins q p
among_beginnings [] [] = refl
among_beginnings [] (m ∷ q) = refl
among_beginnings (n ∷ p) [] = refl
among_beginnings (n ∷ p) (m ∷ q) =
    sym (any_map (λ x. same_path x (m ∷ q)) (λ front. n ∷ front) (beginnings p))
    ∙ any_same (λ x. same_path (n ∷ x) (m ∷ q)) (λ x. is_eq (name_cmp n m) && same_path x q) (λ x. eq_then (name_cmp n m) (path_cmp x q)) (beginnings p)
    ∙ and_any (is_eq (name_cmp n m)) (λ x. same_path x q) (beginnings p)
    ∙ ap (λ b. is_eq (name_cmp n m) && b) (among_beginnings p q)
    ∙ ap (λ b. b && begins q p) (name_sym m n)

among_all : (ps : List Path) (q : Path) → is_among (all_beginnings ps) q ≡ list_any (begins q) ps
among_all [] q = refl
among_all (p ∷ ps) q =
    any_append (λ x. same_path x q) (beginnings p) (all_beginnings ps) ∙ ap (λ b. b || is_among (all_beginnings ps) q) (among_beginnings p q) ∙ ap (λ b. begins q p || b) (among_all ps q)

begins_itself : (p : Path) → begins p p ≡ true
begins_itself [] = refl
begins_itself (n ∷ p) = ap (λ b. b && begins p p) ((eq_by_cmp_equiv nat_list_cmp_total).refl n) ∙ begins_itself p

is_equal : (r : Ordering) → is_eq r ≡ true → r ≡ Equal
is_equal Less h = absurd (false≢true h)
is_equal Equal h = refl
is_equal Greater h = absurd (false≢true h)

same_begins : (p q : Path) → same_path q p ≡ true → begins p q ≡ true
same_begins p q h = ap (λ x. begins p x) (fin.slice_cmp-IsAntisymmetric (fin.slice_cmp-IsAntisymmetric fin.nat_cmp-IsAntisymmetric) q p (is_equal (path_cmp q p) h)) ∙ begins_itself p

or_true : (b : Bool) → (b || true) ≡ true
or_true true = refl
or_true false = refl

or_absorbs : (a b : Bool) → (b ≡ true → a ≡ true) → (a || b) ≡ a
or_absorbs true b h = refl
or_absorbs false true h = absurd (false≢true (h refl))
or_absorbs false false h = refl

among_begins : (ws : List Path) (p : Path) → is_among ws p ≡ true → list_any (begins p) ws ≡ true
among_begins [] p h = absurd (false≢true h)
among_begins (w ∷ ws) p h = at (same_path w p) refl h (λ k. among_begins ws p k)
  where
    at : (b : Bool) → same_path w p ≡ b → (b || is_among ws p) ≡ true → (is_among ws p ≡ true → list_any (begins p) ws ≡ true) → (begins p w || list_any (begins p) ws) ≡ true
    at true here h rest = ap (λ b. b || list_any (begins p) ws) (same_begins p w here)
    at false here h rest = ap (λ b. begins p w || b) (rest h) ∙ or_true (begins p w)

reads_all : (reads writes : List Path) (p : Path) → (is_among (all_beginnings (reads ++ writes)) p || is_among writes p) ≡ (list_any (begins p) reads || list_any (begins p) writes)
reads_all reads writes p =
    ap (λ b. b || is_among writes p) (among_all (reads ++ writes) p ∙ any_append (begins p) reads writes)
    ∙ or_absorbs (list_any (begins p) reads || list_any (begins p) writes) (is_among writes p) (λ h. ap (λ b. list_any (begins p) reads || b) (among_begins writes p h) ∙ or_true (list_any (begins p) reads))

pub way_conflicts : (locks : List Lock) (op : ReqId) (reads writes : List Path) → stands_in_the_way locks op reads writes ≡ is_conflict locks op (all_beginnings (reads ++ writes)) writes
way_conflicts locks op reads writes = any_same (is_in_the_way op reads writes) (conflicts_with op (all_beginnings (reads ++ writes)) writes)
    (λ l. ap (λ b. not (same_op op l.op) && cond l.writes b (is_among writes l.path)) (sym (reads_all reads writes l.path))) locks
