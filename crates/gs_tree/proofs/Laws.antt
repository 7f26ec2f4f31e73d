-- Laws of the edits: what the steps of a move come to, and that each edit is taken back.
use Rattle.std.proofs.Common.{ℕ, Bool, ◌≡◌, true, false, cond, ◌&&◌, [], ◌∷◌, ◌++◌, refl, append-nil, sym, ap, ◌∙◌}
use Rattle.std.specs.Prelude.{Option, None, is_some}
use Rattle.gs_path.specs.Path.{Path, same_name, begins}
use Rattle.gs_tree.specs.Entry.{Entry}
use Rattle.gs_tree.specs.Plain.{Plain, after, with_at, without, part_at, IsFree}
use Rattle.gs_tree.specs.Edits.{moved}
use Rattle.gs_tree.proofs.Rows.{names_equiv}
use Rattle.gs_tree.proofs.Splice.{begins_parts}

pub begins_append : (t r : Path) → begins t (t ++ r) ≡ true
begins_append [] r = refl
begins_append (x ∷ t) r = ap (λ b. b && begins t (t ++ r)) (names_equiv.refl x) ∙ begins_append t r

pub after_append : (t r : Path) → after t (t ++ r) ≡ r
after_append [] r = refl
after_append (x ∷ t) r = after_append t r

-- what is put at t is found there
pub with_at-append : (t : Path) (part whole : Plain ℕ) (r : Path) → with_at t part whole (t ++ r) ≡ part r
with_at-append t part whole r = ap (λ b. cond b (part (after t (t ++ r))) (whole (t ++ r))) (begins_append t r) ∙ ap part (after_append t r)

-- of two fronts of one path, one is a front of the other
pub begins_either : (t f r : Path) → begins t (f ++ r) ≡ true → begins f t ≡ false → begins t f ≡ true
begins_either [] f r h g = refl
begins_either (x ∷ t) [] r h g = cc
begins_either (x ∷ t) (y ∷ f) r h g =
    elim (same_name x y) as (λ b. same_name x y ≡ b → (b && begins t (f ++ r)) ≡ true → (b && begins t f) ≡ true) [
      | true ↦ λ b k. begins_either t f r k (ap (λ s. s && begins f t) (sym b ∙ names_equiv.symm x y) ∙ g)
      | false ↦ λ b k. cc
    ] refl h

pub free_at : (m : Plain ℕ) (p q : Path) → IsFree m p → begins p q ≡ true → m q ≡ None
free_at m p q free b = ap m (begins_parts p q b) ∙ free (after p q)

-- a move taken back
pub moved-moved : (m : Plain ℕ) (from to : Path) → IsFree m to → (q : Path) → moved to from (moved from to m) q ≡ m q
moved-moved m from to free q =
    elim (begins from q) as (λ b. begins from q ≡ b → cond b (moved from to m (to ++ after from q)) (without to (moved from to m) q) ≡ m q) [
      | true ↦ λ b. with_at-append to (part_at from m) (without from m) (after from q) ∙ ap m (sym (begins_parts from q b))
      | false ↦ λ b. elim (begins to q) as (λ d. begins to q ≡ d → cond d None (cond d (part_at from m (after to q)) (without from m q)) ≡ m q) [
        | true ↦ λ d. sym (free_at m to q free d)
        | false ↦ λ d. ap (λ s. cond s None (m q)) b
      ] refl
    ] refl

-- a free place stands above nothing that stands
pub not_above : (m : Plain ℕ) (from to : Path) → IsFree m to → is_some (m from) ≡ true → begins from to ≡ false → (r : Path) → begins to (from ++ r) ≡ false
not_above m from to free some apart r = elim (begins to (from ++ r)) as (λ b. begins to (from ++ r) ≡ b → b ≡ false) [
  | true ↦ λ b. let n : m from ≡ None = free_at m to from free (begins_either to from r b apart) in let k : false ≡ true = ap (λ (v : Option (Entry ℕ)). is_some v) (sym n) ∙ some in cc
  | false ↦ λ b. refl
] refl

-- nor does anything at or under it stand under what stands elsewhere
pub not_under : (m : Plain ℕ) (from to : Path) → IsFree m to → is_some (m from) ≡ true → begins from to ≡ false → (r : Path) → begins from (to ++ r) ≡ false
not_under m from to free some apart r = elim (begins from (to ++ r)) as (λ b. begins from (to ++ r) ≡ b → b ≡ false) [
  | true ↦ λ b. let n : begins to from ≡ false = ap (begins to) (sym (append-nil from)) ∙ not_above m from to free some apart [] in let k : begins from to ≡ true = begins_either from to r b n in cc
  | false ↦ λ b. refl
] refl

pub begins_more : (f p r : Path) → begins f p ≡ true → begins f (p ++ r) ≡ true
begins_more [] p r h = refl
begins_more (x ∷ f) [] r h = cc
begins_more (x ∷ f) (y ∷ p) r h = elim (same_name x y) as (λ b. (b && begins f p) ≡ true → (b && begins f (p ++ r)) ≡ true) [ true ↦ λ k. begins_more f p r k | false ↦ λ k. cc ] h

-- what stands elsewhere when something is put at t
pub elsewhere : (m part one : Plain ℕ) (t p r : Path) → ((q : Path) → one q ≡ with_at t part m q) → begins t (p ++ r) ≡ false → one p ≡ m p
elsewhere m part one t p r h apart =
    h p ∙ elim (begins t p) as (λ b. begins t p ≡ b → cond b (part (after t p)) (m p) ≡ m p) [
      | true ↦ λ b. let k : begins t (p ++ r) ≡ true = begins_more t p r b in absurd (cc)
      | false ↦ λ b. refl
    ] refl

pub there : (m part one : Plain ℕ) (t : Path) → ((q : Path) → one q ≡ with_at t part m q) → one t ≡ part []
there m part one t h = h t ∙ ap (with_at t part m) (sym (append-nil t)) ∙ with_at-append t part m []

-- what stood is put back in the place of what was put there
pub put_back : (m : Plain ℕ) (t : Path) (part node one two : Plain ℕ) → ((q : Path) → one q ≡ with_at t part m q) → ((q : Path) → m (t ++ q) ≡ node q) → ((q : Path) → two q ≡ with_at t node one q) → (q : Path) → two q ≡ m q
put_back m t part node one two h1 hn h2 q =
    h2 q ∙ elim (begins t q) as (λ b. begins t q ≡ b → cond b (node (after t q)) (one q) ≡ m q) [
      | true ↦ λ b. sym (hn (after t q)) ∙ ap m (sym (begins_parts t q b))
      | false ↦ λ b. h1 q ∙ ap (λ s. cond s (part (after t q)) (m q)) b
    ] refl

pub restored : (m : Plain ℕ) (t : Path) (part node one : Plain ℕ) → ((q : Path) → one q ≡ with_at t part m q) → ((q : Path) → m (t ++ q) ≡ node q) → with_at t node one ≡ m
restored m t part node one h1 hn = λ i q. put_back m t part node one (with_at t node one) h1 hn (λ p. refl) q i

pub with_same : (m one part node two : Plain ℕ) (t : Path) → ((q : Path) → part q ≡ node q) → ((q : Path) → one q ≡ m q) → ((q : Path) → two q ≡ with_at t part one q) → (q : Path) → two q ≡ with_at t node m q
with_same m one part node two t parts wholes h q =
    h q ∙ elim (begins t q) as (λ b. cond b (part (after t q)) (one q) ≡ cond b (node (after t q)) (m q)) [ true ↦ parts (after t q) | false ↦ wholes q ]

hidden_twice : (b : Bool) (u v : Option (Entry ℕ)) → cond b None v ≡ cond b None (cond b u v)
hidden_twice true u v = refl
hidden_twice false u v = refl

-- to put at a free place what is to stand at `from`, and to take out what stands there, is the move
pub landed : (m node two three : Plain ℕ) (from to : Path) → IsFree m to → is_some (m from) ≡ true → begins from to ≡ false → ((q : Path) → two q ≡ with_at to node m q) → ((q : Path) → three q ≡ without from two q)
    → IsFree (with_at from node m) to × ((q : Path) → three q ≡ moved from to (with_at from node m) q)
landed m node two three from to free some apart h2 h3 = (λ r. ap (λ b. cond b (node (after from (to ++ r))) (m (to ++ r))) (not_under m from to free some apart r) ∙ free r, same)
  where
    same : (q : Path) → three q ≡ moved from to (with_at from node m) q
    same q =
        h3 q ∙ elim (begins to q) as (λ b. begins to q ≡ b → cond (begins from q) None (two q) ≡ cond b (with_at from node m (from ++ after to q)) (without from (with_at from node m) q)) [
          | true ↦ λ b. ap (λ s. cond s None (two q)) (ap (begins from) (begins_parts to q b) ∙ not_under m from to free some apart (after to q))
              ∙ h2 q ∙ ap (λ s. cond s (node (after to q)) (m q)) b ∙ sym (with_at-append from node m (after to q))
          | false ↦ λ b. ap (cond (begins from q) None) (h2 q ∙ ap (λ s. cond s (node (after to q)) (m q)) b) ∙ hidden_twice (begins from q) (node (after from q)) (m q)
        ] refl
