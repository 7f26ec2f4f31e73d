-- Berths, their rows of ways, and the nodes that begin.
use Rattle.std.proofs.Common.{◌≡◌, ◌+◌, ◌-◌, ◌<◌, ℕ, zero, suc, List, [], ◌∷◌, ◌++◌, map, length, Some, ⊎_elim, ◌⊎◌, inl, inr, refl, sym, ap, ◌∙◌, subst, arith}
use Rattle.std.specs.Prelude.{slice_get}
use Rattle.std.proofs.lemmas.List.{append-nil, append_assoc, length-append, length-map, nil_from_length}
use Rattle.std.proofs.lemmas.Option.{none-some, same_Some}
use Rattle.gs_msg.specs.declared.message.Message.{Message}
use Rattle.gs_msg.specs.declared.node.NodeId.{NodeId}
use Rattle.gs_cluster_channel.specs.Named.{IsNamed}
use Rattle.gs_cluster_channel.specs.Names.{Name}
use Rattle.gs_cluster_channel.specs.Settled.{Hearing, Putting, less_one}
use Rattle.gs_msg.specs.declared.sent.Sent.{Sent}
use Rattle.gs_cluster_history.specs.declared.turn.Turn.{Turn}
use Rattle.gs_cluster_history.specs.Histories.{Among, Kept}
use Rattle.gs_cluster_history.specs.Logs.{first_sent}
use Rattle.gs_cluster_node.specs.Nodes.{HaveSentNothing, leads_of}
use Rattle.gs_cluster_threads.specs.Wired.{MayBegin, fresh, numbers_of}
use Rattle.gs_cluster_threads.specs.inner.Berths.{Fits, begun, berthed, way_into, with_parts}
use Rattle.gs_cluster_threads.specs.declared.wiring.Berth.{Berth}
use Rattle.gs_cluster_threads.specs.declared.wiring.Seed.{Seed}

-- ---- lists

behind : {X : Type 0} (x : X) (xs : List X) (y : X) → Among xs y → Among (x ∷ xs) y
behind x xs y a = (suc a.0, a.1)

-- one that stands in a mapped list comes of one in the list
among_map : {X Y : Type 0} (f : X → Y) (xs : List X) (y : Y) → Among (map f xs) y → (x : X) × Among xs x × (f x ≡ y)
among_map f [] y (k, h) = absurd (none-some y h)
among_map f (x ∷ xs) y (zero, h) = (x, (0, refl), same_Some (f x) y h)
among_map f (x ∷ xs) y (suc k, h) = let r = among_map f xs y (k, h) in (r.0, (suc r.1.0, r.1.1), r.2)

-- what holds of each that the mapped list comes of
all_map : {X Y : Type 0} (P : Y → Type 0) (f : X → Y) (xs : List X) → ((x : X) → Among xs x → P (f x)) → (y : Y) → Among (map f xs) y → P y
all_map P f xs h y a = let r = among_map f xs y a in subst P r.2 (h r.0 r.1)

map_map : {X Y Z : Type 0} (f : X → Y) (g : Y → Z) (h : X → Z) (xs : List X) → ((x : X) → g (f x) ≡ h x) → map g (map f xs) ≡ map h xs
map_map f g h [] e = refl
map_map f g h (x ∷ xs) e = ap (λ z. z ∷ map g (map f xs)) (e x) ∙ ap (λ zs. h x ∷ zs) (map_map f g h xs e)

-- a function that leaves each as it is
map_same : {X : Type 0} (f : X → X) (xs : List X) → ((x : X) → Among xs x → f x ≡ x) → map f xs ≡ xs
map_same f [] h = refl
map_same f (x ∷ xs) h = ap (λ z. z ∷ map f xs) (h x (0, refl)) ∙ ap (λ zs. x ∷ zs) (map_same f xs (λ y a. h y (behind x xs y a)))

-- the first of what is left
pub at_front : {X : Type 0} (xs rest : List X) (x : X) → xs ≡ x ∷ rest → Among xs x
at_front {X} xs rest x e = (0, ap (λ (l : List X). slice_get l 0) e)

-- all that was to do is done
pub all_done : {X Y : Type 0} (f : X → Y) (done : List Y) (rest all : List X) → length rest ≡ 0 → done ++ map f rest ≡ map f all → done ≡ map f all
all_done {X} {Y} f done rest all none e = sym (append-nil done) ∙ ap (λ (l : List X). done ++ map f l) (sym (nil_from_length rest none)) ∙ e

among_last : {X : Type 0} (xs : List X) (y x : X) → Among (xs ++ y ∷ []) x → Among xs x ⊎ (y ≡ x)
among_last [] y x (zero, h) = inr (same_Some y x h)
among_last [] y x (suc k, h) = absurd (none-some x h)
among_last (z ∷ xs) y x (zero, h) = inl (zero, h)
among_last (z ∷ xs) y x (suc k, h) = ⊎_elim (λ (r : Among xs x). inl (suc r.0, r.1)) (λ (r : y ≡ x). inr r) (among_last xs y x (k, h))

among_left : {X : Type 0} (xs ys : List X) (x : X) → Among xs x → Among (xs ++ ys) x
among_left [] ys x (k, h) = absurd (none-some x h)
among_left (z ∷ xs) ys x (zero, h) = (0, h)
among_left (z ∷ xs) ys x (suc k, h) = let r = among_left xs ys x (k, h) in (suc r.0, r.1)

among_at_last : {X : Type 0} (xs : List X) (x : X) → Among (xs ++ x ∷ []) x
among_at_last [] x = (0, refl)
among_at_last (z ∷ xs) x = let r = among_at_last xs x in (suc r.0, r.1)

-- ---- berths

abbrev pub berth_as : {N C : Type 0} → Hearing → C → Turn → Berth N C
berth_as ear core turn = record { ear = ear; core = core; turn = turn }

-- Of these seeds those that are left have no berths yet.
pub record Berthing {N C : Type 0} (names : NodeId → Name) (seeds rest : List (Seed C)) (done : List (Berth N C)) : Type 0 where
  pub whole : done ++ map (berthed 1024) rest ≡ map (berthed 1024) seeds
  pub named : (s : Seed C) → Among rest s → IsNamed names s.line.me s.line.pass

pub one_berthed : {N C : Type 0} (names : NodeId → Name) (seeds left rest : List (Seed C)) (s : Seed C) (done new : List (Berth N C)) (ear : Hearing) → Berthing names seeds left done → left ≡ s ∷ rest
    → ear ≡ record { me = s.line.me; parts = 1024; taken = [] } → new ≡ done ++ berth_as ear s.core s.turn ∷ [] → Berthing names seeds rest new
one_berthed {N} {C} names seeds left rest s done new ear b first here put =
    let stood = subst (λ (l : List (Seed C)). Berthing {N = N} names seeds l done) first b in
    record {
      whole = ap (λ (l : List (Berth N C)). l ++ map (berthed 1024) rest) (put ∙ ap (λ (h : Hearing). done ++ berth_as h s.core s.turn ∷ []) here)
          ∙ append_assoc done (berthed 1024 s ∷ []) (map (berthed 1024) rest) ∙ stood.whole;
      named = λ x a. stood.named x (behind s rest x a);
    }

-- ---- rows

-- Of these berths those that are left have yet to give a way.
pub record Rowing {N C : Type 0} (parts : ℕ) (all rest done : List (Berth N C)) (ways : List Putting) : Type 0 where
  pub berths : done ++ map (with_parts (parts - 1)) rest ≡ map (with_parts (parts - 1)) all
  pub row : ways ++ map way_into rest ≡ map way_into all
  pub each : (b : Berth N C) → Among rest b → b.ear.parts ≡ parts

pub none_rowed : {N C : Type 0} (parts : ℕ) (all rest done : List (Berth N C)) (ways : List Putting) → rest ≡ all → done ≡ [] → ways ≡ [] → ((b : Berth N C) → Among all b → b.ear.parts ≡ parts) → Rowing parts all rest done ways
none_rowed {N} {C} parts all rest done ways same none quiet each = record {
  berths = ap (λ (l : List (Berth N C)). l ++ map (with_parts (parts - 1)) rest) none ∙ ap (map (with_parts (parts - 1))) same;
  row = ap (λ (l : List Putting). l ++ map way_into rest) quiet ∙ ap (map way_into) same;
  each = λ b a. each b (subst (λ (l : List (Berth N C)). Among l b) same a);
}

pub one_rowed : {N C : Type 0} (parts : ℕ) (all left rest : List (Berth N C)) (b : Berth N C) (done new : List (Berth N C)) (ways more : List Putting) (ear : Hearing) (way : Putting) → Rowing parts all left done ways
    → left ≡ b ∷ rest → ear ≡ less_one b.ear → way ≡ record { to = b.ear.me; put = [] } → new ≡ done ++ berth_as ear b.core b.turn ∷ [] → more ≡ ways ++ way ∷ [] → Rowing parts all rest new more
one_rowed {N} {C} parts all left rest b done new ways more ear way r first cut led put also =
    let stood = subst (λ (l : List (Berth N C)). Rowing parts all l done ways) first r in
    let had : b.ear.parts ≡ parts = stood.each b (0, refl) in
    record {
      berths = ap (λ (l : List (Berth N C)). l ++ map (with_parts (parts - 1)) rest)
          (put ∙ ap (λ (h : Hearing). done ++ berth_as h b.core b.turn ∷ []) cut ∙ ap (λ (n : ℕ). done ++ with_parts (n - 1) b ∷ []) had)
          ∙ append_assoc done (with_parts (parts - 1) b ∷ []) (map (with_parts (parts - 1)) rest) ∙ stood.berths;
      row = ap (λ (l : List Putting). l ++ map way_into rest) (also ∙ ap (λ (w : Putting). ways ++ w ∷ []) led) ∙ append_assoc ways (way_into b ∷ []) (map way_into rest) ∙ stood.row;
      each = λ x a. stood.each x (behind b rest x a);
    }

-- So many rows have been cut off these berths.
pub record Cut {N C : Type 0} (first : List (Berth N C)) (many : ℕ) (now : List (Berth N C)) (rows : List (List Putting)) : Type 0 where
  pub berths : now ≡ map (with_parts (1024 - many)) first
  pub long : length rows ≡ many
  pub each : (w : List Putting) → Among rows w → w ≡ map way_into first

pub none_cut : {N C : Type 0} (first : List (Berth N C)) (rows : List (List Putting)) → rows ≡ [] → ((b : Berth N C) → Among first b → b.ear.parts ≡ 1024) → Cut first 0 first rows
none_cut first rows none all = record {
  berths = sym (map_same (with_parts 1024) first (λ b a. ap (λ (p : ℕ). with_parts p b) (sym (all b a))));
  long = ap length none;
  each = λ w a. let i = subst (λ (l : List (List Putting)). Among l w) none a in absurd (none-some w i.1);
}

pub cut_parts : {N C : Type 0} (first : List (Berth N C)) (many : ℕ) (now : List (Berth N C)) (rows : List (List Putting)) → Cut first many now rows → (b : Berth N C) → Among now b → b.ear.parts ≡ 1024 - many
cut_parts {N} {C} first many now rows c b a = all_map (λ (x : Berth N C). x.ear.parts ≡ 1024 - many) (with_parts (1024 - many)) first (λ x _. refl) b (subst (λ l. Among l b) c.berths a)

pub one_cut : {N C : Type 0} (first : List (Berth N C)) (many : ℕ) (now left : List (Berth N C)) (rows more : List (List Putting)) (row : List Putting) → Cut first many now rows
    → left ≡ map (with_parts (1024 - many - 1)) now → row ≡ map way_into now → more ≡ rows ++ row ∷ [] → Cut first (many + 1) left more
one_cut {N} {C} first many now left rows more row c e r put =
    let less : 1024 - many - 1 ≡ 1024 - (many + 1) = omega arith in
    let same : row ≡ map way_into first = r ∙ ap (map way_into) c.berths ∙ map_map (with_parts (1024 - many)) way_into way_into first (λ x. refl) in
    record {
      berths = e ∙ ap (map (with_parts (1024 - many - 1))) c.berths ∙ map_map (with_parts (1024 - many)) (with_parts (1024 - many - 1)) (with_parts (1024 - many - 1)) first (λ x. refl)
          ∙ ap (λ (p : ℕ). map (with_parts p) first) less;
      long = ap length put ∙ length-append rows (row ∷ []) ∙ ap (λ (n : ℕ). n + 1) c.long;
      each = λ w a. ⊎_elim (λ (i : Among rows w). c.each w i) (λ (i : row ≡ w). sym i ∙ same) (among_last rows row w (subst (λ (l : List (List Putting)). Among l w) put a));
    }

-- ---- nodes

abbrev pub kept_first : {C : Type 0} → NodeId → C → Turn → Kept C
kept_first me core turn = record { me = me; past = record { core = core; clock = 0; sent = first_sent turn }; entries = [] }

abbrev hearing_as : NodeId → ℕ → List Sent → Hearing
hearing_as me parts taken = record { me = me; parts = parts; taken = taken }

pub ear_is : (e : Hearing) (me : NodeId) → me ≡ e.me → e.taken ≡ [] → e ≡ record { me = me; parts = e.parts; taken = [] }
ear_is e me same nothing = ap (λ (t : List Sent). hearing_as e.me e.parts t) nothing ∙ ap (λ (n : NodeId). hearing_as n e.parts []) (sym same)

-- Of these berths those that are left are no nodes yet, and as many rows are left.
pub record Beginning {N C : Type 0} (Starts : NodeId → C → List Message → Type 0) (all : List NodeId) (first rest : List (Berth N C)) (rows : List (List Putting)) (nodes : List (Kept C)) : Type 0 where
  pub begin : nodes ++ map begun rest ≡ map begun first
  pub long : length rows ≡ length rest
  pub each : (w : List Putting) → Among rows w → (leads_of w ≡ all) × HaveSentNothing w
  pub fits : (b : Berth N C) → Among rest b → Fits Starts all b

pub none_begun : {N C : Type 0} (Starts : NodeId → C → List Message → Type 0) (all : List NodeId) (first rest : List (Berth N C)) (rows : List (List Putting)) (nodes : List (Kept C)) → rest ≡ first → nodes ≡ []
    → length rows ≡ length first → ((w : List Putting) → Among rows w → (leads_of w ≡ all) × HaveSentNothing w) → ((b : Berth N C) → Among first b → Fits Starts all b) → Beginning Starts all first rest rows nodes
none_begun {N} {C} Starts all first rest rows nodes same none long each fits = record {
  begin = ap (λ (l : List (Kept C)). l ++ map begun rest) none ∙ ap (map begun) same;
  long = long ∙ ap length (sym same);
  each = each;
  fits = λ b a. fits b (subst (λ (l : List (Berth N C)). Among l b) same a);
}

pub one_begun : {N C : Type 0} (Starts : NodeId → C → List Message → Type 0) (all : List NodeId) (first left rest : List (Berth N C)) (b : Berth N C) (rows fewer : List (List Putting)) (row : List Putting)
    (nodes new : List (Kept C)) (k : Kept C) (me : NodeId) → Beginning Starts all first left rows nodes → left ≡ b ∷ rest → rows ≡ fewer ++ row ∷ [] → k ≡ kept_first me b.core b.turn → me ≡ b.ear.me
    → new ≡ nodes ++ k ∷ [] → Beginning Starts all first rest fewer new
one_begun {N} {C} Starts all first left rest b rows fewer row nodes new k me g at less is named put =
    let stood = subst (λ (l : List (Berth N C)). Beginning Starts all first l rows nodes) at g in
    let same : k ≡ begun b = is ∙ ap (λ (n : NodeId). kept_first n b.core b.turn) named in
    record {
      begin = ap (λ (l : List (Kept C)). l ++ map begun rest) (put ∙ ap (λ (x : Kept C). nodes ++ x ∷ []) same) ∙ append_assoc nodes (begun b ∷ []) (map begun rest) ∙ stood.begin;
      long = (let h = stood.long in let i = ap length less ∙ length-append fewer (row ∷ []) in omega arith);
      each = λ w a. stood.each w (subst (λ (l : List (List Putting)). Among l w) (sym less) (among_left fewer (row ∷ []) w a));
      fits = λ x a. stood.fits x (behind b rest x a);
    }

pub row_taken : {N C : Type 0} (Starts : NodeId → C → List Message → Type 0) (all : List NodeId) (first rest : List (Berth N C)) (rows left : List (List Putting)) (row : List Putting) (nodes : List (Kept C))
    → Beginning Starts all first rest rows nodes → rows ≡ left ++ row ∷ [] → (leads_of row ≡ all) × HaveSentNothing row
row_taken Starts all first rest rows left row nodes g e = g.each row (subst (λ l. Among l row) (sym e) (among_at_last left row))

-- ---- all of it

leads_into : {N C : Type 0} (bs : List (Berth N C)) → leads_of (map way_into bs) ≡ map (λ (b : Berth N C). b.ear.me) bs
leads_into {N} {C} bs = map_map way_into (λ (w : Putting). w.to) (λ (b : Berth N C). b.ear.me) bs (λ x. refl)

pub leads_of_row : {N C : Type 0} (seeds : List (Seed C)) (bs : List (Berth N C)) (w : List Putting) → bs ≡ map (berthed 1024) seeds → w ≡ map way_into bs → leads_of w ≡ numbers_of seeds
leads_of_row {N} {C} seeds bs w e r =
    ap leads_of r ∙ leads_into bs ∙ ap (map (λ (b : Berth N C). b.ear.me)) e ∙ map_map (berthed 1024) (λ (b : Berth N C). b.ear.me) (λ (s : Seed C). s.line.me) seeds (λ x. refl)

pub silent_row : {N C : Type 0} (bs : List (Berth N C)) (w : List Putting) → w ≡ map way_into bs → HaveSentNothing w
silent_row bs w r = subst HaveSentNothing (sym r) (all_map (λ (p : Putting). p.put ≡ []) way_into bs (λ x _. refl))

map_at : {X Y : Type 0} (f : X → Y) (xs : List X) (x : X) → Among xs x → Among (map f xs) (f x)
map_at f [] x (k, h) = absurd (none-some x h)
map_at f (z ∷ xs) x (zero, h) = (0, ap (λ a. Some (f a)) (same_Some z x h))
map_at f (z ∷ xs) x (suc k, h) = let r = map_at f xs x (k, h) in (suc r.0, r.1)

pub as_many : {N C : Type 0} (all : List NodeId) (seeds : List (Seed C)) (bs : List (Berth N C)) → numbers_of seeds ≡ all → bs ≡ map (berthed 1024) seeds → length bs ≡ length all
as_many {N} {C} all seeds bs own e =
    ap length e ∙ length-map seeds (berthed 1024) ∙ sym (length-map seeds (λ (s : Seed C). s.line.me)) ∙ ap length own

pub all_named : {C : Type 0} (Starts : NodeId → C → List Message → Type 0) (names : NodeId → Name) (seeds : List (Seed C)) → ((s : Seed C) → Among seeds s → MayBegin Starts names s) → (s : Seed C) → Among seeds s → IsNamed names s.line.me s.line.pass
all_named Starts names seeds may s a = (may s a).named

pub whole_parts : {N C : Type 0} (seeds : List (Seed C)) (bs : List (Berth N C)) → bs ≡ map (berthed 1024) seeds → (b : Berth N C) → Among bs b → b.ear.parts ≡ 1024
whole_parts {N} {C} seeds bs e b a = all_map (λ (x : Berth N C). x.ear.parts ≡ 1024) (berthed 1024) seeds (λ x _. refl) b (subst (λ l. Among l b) e a)

pub all_fit : {N C : Type 0} (Starts : NodeId → C → List Message → Type 0) (names : NodeId → Name) (all : List NodeId) (seeds : List (Seed C)) (bs now : List (Berth N C)) (many : ℕ) → numbers_of seeds ≡ all
    → ((s : Seed C) → Among seeds s → MayBegin Starts names s) → bs ≡ map (berthed 1024) seeds → many ≡ length bs → now ≡ map (with_parts (1024 - many)) bs → length all < 1024
    → (b : Berth N C) → Among now b → Fits Starts all b
all_fit {N} {C} Starts names all seeds bs now many own may e long f few =
    let same = as_many all seeds bs own e in
    let whole : 1024 - many + length all ≡ 1024 = omega arith in
    let each : (s : Seed C) → Among seeds s → Fits Starts all (with_parts (1024 - many) (berthed {N = N} 1024 s)) = λ s a. record {
      starts = (may s a).starts;
      mine = subst (λ (l : List NodeId). Among l s.line.me) own (map_at (λ (x : Seed C). x.line.me) seeds s a);
      nothing = refl;
      whole = whole;
    } in
    λ b a. all_map (Fits Starts all) (λ (s : Seed C). with_parts (1024 - many) (berthed {N = N} 1024 s)) seeds each b
    (subst (λ (l : List (Berth N C)). Among l b)
    (f ∙ ap (map (with_parts (1024 - many))) e ∙ map_map (berthed 1024) (with_parts (1024 - many)) (λ (s : Seed C). with_parts (1024 - many) (berthed {N = N} 1024 s)) seeds (λ x. refl)) a)

pub begun_fresh : {N C : Type 0} (seeds : List (Seed C)) (bs now : List (Berth N C)) (parts : ℕ) → bs ≡ map (berthed 1024) seeds → now ≡ map (with_parts parts) bs → map begun now ≡ map fresh seeds
begun_fresh seeds bs now parts e f =
    ap (map begun) f ∙ map_map (with_parts parts) begun begun bs (λ x. refl) ∙ ap (map begun) e ∙ map_map (berthed 1024) begun fresh seeds (λ x. refl)
