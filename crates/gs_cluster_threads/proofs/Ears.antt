-- What nodes have when they are taken apart, and ears with all ways into their nodes.
use Rattle.std.proofs.Common.{◌≡◌, ℕ, zero, suc, ◌+◌, ⊎_elim, ◌⊎◌, inl, inr, List, [], ◌∷◌, ◌++◌, map, length, Some, refl, sym, ap, ◌∙◌, subst, arith, append-nil, append_assoc}
use Rattle.std.proofs.lemmas.List.{length_push, map_push, same_from_push}
use Rattle.std.proofs.lemmas.Option.{none-some, same_Some}
use Rattle.gs_msg.specs.declared.message.Message.{Message}
use Rattle.gs_msg.specs.declared.node.NodeId.{NodeId}
use Rattle.gs_msg.specs.declared.sent.Sent.{Sent}
use Rattle.gs_cluster_channel.specs.Settled.{AllGoTo, Hearing, PutBy, Putting}
use Rattle.gs_cluster_history.specs.declared.took.Took.{Took}
use Rattle.gs_cluster_history.specs.Histories.{Among, Kept, Upshot}
use Rattle.gs_cluster_node.specs.Nodes.{IsSound, leads_of}
use Rattle.gs_cluster_notes.specs.Notes.{Keeps}
use Rattle.gs_cluster_notes.specs.declared.notes.Notes.{Notes}
use Rattle.gs_cluster_threads.specs.declared.gathering.Member.{Member}
use Rattle.gs_cluster_threads.specs.Gathered.{AllTell, member_of}
use Rattle.gs_cluster_threads.specs.inner.Settling.{AreAll, AreApart, IsPutBy, Splits}

in_left : {X : Type 0} (xs ys : List X) (x : X) → Among xs x → Among (xs ++ ys) x
in_left [] ys x (k, h) = absurd (none-some x h)
in_left (y ∷ xs) ys x (zero, h) = (zero, h)
in_left (y ∷ xs) ys x (suc k, h) = let r = in_left xs ys x (k, h) in (suc r.0, r.1)

in_right : {X : Type 0} (xs ys : List X) (x : X) → Among ys x → Among (xs ++ ys) x
in_right [] ys x h = h
in_right (y ∷ xs) ys x h = let r = in_right xs ys x h in (suc r.0, r.1)

in_last : {X : Type 0} (xs : List X) (y x : X) → Among (xs ++ y ∷ []) x → Among xs x ⊎ (y ≡ x)
in_last [] y x (zero, h) = inr (same_Some y x h)
in_last [] y x (suc k, h) = absurd (none-some x h)
in_last (z ∷ xs) y x (zero, h) = inl (zero, h)
in_last (z ∷ xs) y x (suc k, h) = ⊎_elim (λ (r : Among xs x). inl (suc r.0, r.1)) (λ (r : y ≡ x). inr r) (in_last xs y x (k, h))

pub next_of : {X : Type 0} (all done rest : List X) (x : X) → done ++ x ∷ rest ≡ all → (done ++ x ∷ []) ++ rest ≡ all
next_of all done rest x e = append_assoc done (x ∷ []) rest ∙ e

-- ---- nodes are taken apart

-- the notes of one node more
tell_one : {C : Type 0} (ks : List (Kept C)) (notes : List Notes) (k : Kept C) (n : Notes) → AllTell ks notes → Keeps n k.entries k.past.sent → AllTell (ks ++ k ∷ []) (notes ++ n ∷ [])
tell_one [] [] k n a s = (s, tt)
tell_one [] (y ∷ notes) k n a s = absurd a
tell_one (x ∷ ks) [] k n a s = absurd a
tell_one (x ∷ ks) (y ∷ notes) k n a s = (a.0, tell_one ks notes k n a.1 s)

module _ {C : Type 0} (Does : Took → C → Upshot → C → Type 0) (Starts : NodeId → C → List Message → Type 0) (all : List NodeId) where
  apart_one : (ks : List (Kept C)) (rows : List (List Putting)) (ears : List Hearing) (k : Kept C) (r : List Putting) (e : Hearing)
      → AreApart Does Starts all ks rows ears → IsSound Does Starts all k r e → AreApart Does Starts all (ks ++ k ∷ []) (rows ++ r ∷ []) (ears ++ e ∷ [])
  apart_one [] [] [] k r e a s = (s, tt)
  apart_one [] [] (z ∷ ears) k r e a s = absurd a
  apart_one [] (y ∷ rows) ears k r e a s = absurd a
  apart_one (x ∷ ks) [] ears k r e a s = absurd a
  apart_one (x ∷ ks) (y ∷ rows) [] k r e a s = absurd a
  apart_one (x ∷ ks) (y ∷ rows) (z ∷ ears) k r e a s = (a.0, apart_one ks rows ears k r e a.1 s)

  -- The rest of the nodes are whole.
  pub record TakenApart (ks rest : List (Kept C)) (members : List (Member C)) (rows : List (List Putting)) (ears : List Hearing) (notes : List Notes) : Type 0 where
    pub done : List (Kept C)
    pub first : done ++ rest ≡ ks
    pub apart : AreApart Does Starts all done rows ears
    pub are : members ≡ map member_of done
    pub told : AllTell done notes

  pub none_apart : (ks rest : List (Kept C)) (members : List (Member C)) (rows : List (List Putting)) (ears : List Hearing) (notes : List Notes) → rest ≡ ks → members ≡ [] → rows ≡ [] → ears ≡ [] → notes ≡ []
      → TakenApart ks rest members rows ears notes
  none_apart ks rest members rows ears notes r m a e n = record {
    done = [];
    first = r;
    apart = subst (λ (l : List (List Putting)). AreApart Does Starts all [] l ears) (sym a) (subst (λ (l : List Hearing). AreApart Does Starts all [] [] l) (sym e) tt);
    are = m;
    told = subst (λ (l : List Notes). AllTell {C = C} [] l) (sym n) tt;
  }

  pub one_apart : (ks rest : List (Kept C)) (members new : List (Member C)) (rows more : List (List Putting)) (ears others : List Hearing) (notes noted : List Notes) (k : Kept C) (m : Member C) (r s : List Putting) (e : Hearing) (own : Notes)
      → TakenApart ks (k ∷ rest) members rows ears notes → IsSound Does Starts all k r e → m.me ≡ k.me → m.core ≡ k.past.core → s ≡ r → Keeps own k.entries k.past.sent
      → new ≡ members ++ m ∷ [] → more ≡ rows ++ s ∷ [] → others ≡ ears ++ e ∷ [] → noted ≡ notes ++ own ∷ [] → TakenApart ks rest new more others noted
  one_apart ks rest members new rows more ears others notes noted k m r s e own t sound me core row keeps n o p q = record {
    done = t.done ++ k ∷ [];
    first = next_of ks t.done rest k t.first;
    apart = subst (λ (l : List (List Putting)). AreApart Does Starts all (t.done ++ k ∷ []) l others) (sym (o ∙ ap (λ (x : List Putting). rows ++ x ∷ []) row))
        (subst (λ (l : List Hearing). AreApart Does Starts all (t.done ++ k ∷ []) (rows ++ r ∷ []) l) (sym p) (apart_one t.done rows ears k r e t.apart sound));
    are = n ∙ ap (λ (l : List (Member C)). l ++ m ∷ []) t.are ∙ ap (λ (z : Member C). map member_of t.done ++ z ∷ []) is ∙ sym (map_push member_of t.done k);
    told = subst (AllTell (t.done ++ k ∷ [])) (sym q) (tell_one t.done notes k own t.told keeps);
  }
    where
      is : m ≡ member_of k
      is = ap (λ (x : NodeId). record { me = x; core = m.core }) me ∙ ap (λ (x : C). record { me = k.me; core = x }) core

  pub all_apart : (ks : List (Kept C)) (members : List (Member C)) (rows : List (List Putting)) (ears : List Hearing) (notes : List Notes) → TakenApart ks [] members rows ears notes
      → AreApart Does Starts all ks rows ears × (members ≡ map member_of ks) × AllTell ks notes
  all_apart ks members rows ears notes t =
      let e : t.done ≡ ks = sym (append-nil t.done) ∙ t.first in (
        subst (λ (l : List (Kept C)). AreApart Does Starts all l rows ears) e t.apart,
        t.are ∙ ap (λ (l : List (Kept C)). map member_of l) e,
        subst (λ (l : List (Kept C)). AllTell l notes) e t.told,
      )

-- ---- each row loses its last way

split_one : (rows left : List (List Putting)) (column : List Putting) (r l : List Putting) (w : Putting) → Splits rows left column → r ≡ l ++ w ∷ [] → Splits (rows ++ r ∷ []) (left ++ l ∷ []) (column ++ w ∷ [])
split_one [] [] [] r l w s e = (e, tt)
split_one [] [] (c ∷ column) r l w s e = absurd s
split_one [] (b ∷ left) column r l w s e = absurd s
split_one (a ∷ rows) [] column r l w s e = absurd s
split_one (a ∷ rows) (b ∷ left) [] r l w s e = absurd s
split_one (a ∷ rows) (b ∷ left) (c ∷ column) r l w s e = (s.0, split_one rows left column r l w s.1 e)

-- The rest of the rows have their last ways.
pub record Splitting (rows rest left : List (List Putting)) (column : List Putting) : Type 0 where
  pub done : List (List Putting)
  pub first : done ++ rest ≡ rows
  pub splits : Splits done left column

pub none_split : (rows : List (List Putting)) → Splitting rows rows [] []
none_split rows = record { done = []; first = refl; splits = tt }

pub one_split : (rows rest left others : List (List Putting)) (column more : List Putting) (r l : List Putting) (w : Putting) → Splitting rows (r ∷ rest) left column → r ≡ l ++ w ∷ []
    → others ≡ left ++ l ∷ [] → more ≡ column ++ w ∷ [] → Splitting rows rest others more
one_split rows rest left others column more r l w s e o m = record {
  done = s.done ++ r ∷ [];
  first = next_of rows s.done rest r s.first;
  splits = subst (λ (x : List (List Putting)). Splits (s.done ++ r ∷ []) x more) (sym o)
      (subst (λ (x : List Putting). Splits (s.done ++ r ∷ []) (left ++ l ∷ []) x) (sym m) (split_one s.done left column r l w s.splits e));
}

pub all_split : (rows left : List (List Putting)) (column : List Putting) → Splitting rows [] left column → Splits rows left column
all_split rows left column s = subst (λ (l : List (List Putting)). Splits l left column) (sym (append-nil s.done) ∙ s.first) s.splits

pub row_of_rest : (rows rest left : List (List Putting)) (column : List Putting) (r : List Putting) → Splitting rows (r ∷ rest) left column → Among rows r
row_of_rest rows rest left column r s = subst (λ (l : List (List Putting)). Among l r) s.first (in_right s.done (r ∷ rest) r (0, refl))

-- ---- one ear is settled

left_long : (rows left : List (List Putting)) (column : List Putting) → Splits rows left column → length left ≡ length rows
left_long [] [] [] s = refl
left_long [] [] (c ∷ column) s = absurd s
left_long [] (b ∷ left) column s = absurd s
left_long (a ∷ rows) [] column s = absurd s
left_long (a ∷ rows) (b ∷ left) [] s = absurd s
left_long (a ∷ rows) (b ∷ left) (c ∷ column) s = ap suc (left_long rows left column s.1)

column_long : (rows left : List (List Putting)) (column : List Putting) → Splits rows left column → length column ≡ length rows
column_long [] [] [] s = refl
column_long [] [] (c ∷ column) s = absurd s
column_long [] (b ∷ left) column s = absurd s
column_long (a ∷ rows) [] column s = absurd s
column_long (a ∷ rows) (b ∷ left) [] s = absurd s
column_long (a ∷ rows) (b ∷ left) (c ∷ column) s = ap suc (column_long rows left column s.1)

abbrev RowOf : List (List Putting) → List Putting → Putting → Type 0
RowOf rows l w = Among rows (l ++ w ∷ [])

of_left : (rows left : List (List Putting)) (column l : List Putting) → Splits rows left column → Among left l → (w : Putting) × RowOf rows l w
of_left [] [] [] l s (k, h) = absurd (none-some l h)
of_left [] [] (c ∷ column) l s m = absurd s
of_left [] (b ∷ left) column l s m = absurd s
of_left (a ∷ rows) [] column l s m = absurd s
of_left (a ∷ rows) (b ∷ left) [] l s m = absurd s
of_left (a ∷ rows) (b ∷ left) (c ∷ column) l s (zero, h) = (c, (zero, ap Some (s.0 ∙ ap (λ (z : List Putting). z ++ c ∷ []) (same_Some b l h))))
of_left (a ∷ rows) (b ∷ left) (c ∷ column) l s (suc k, h) = let r = of_left rows left column l s.1 (k, h) in (r.0, (suc r.1.0, r.1.1))

of_column : (rows left : List (List Putting)) (column : List Putting) (w : Putting) → Splits rows left column → Among column w → (l : List Putting) × RowOf rows l w
of_column [] [] [] w s (k, h) = absurd (none-some w h)
of_column [] [] (c ∷ column) w s m = absurd s
of_column [] (b ∷ left) column w s m = absurd s
of_column (a ∷ rows) [] column w s m = absurd s
of_column (a ∷ rows) (b ∷ left) [] w s m = absurd s
of_column (a ∷ rows) (b ∷ left) (c ∷ column) w s (zero, h) = (b, (zero, ap Some (s.0 ∙ ap (λ (z : Putting). b ++ z ∷ []) (same_Some c w h))))
of_column (a ∷ rows) (b ∷ left) (c ∷ column) w s (suc k, h) = let r = of_column rows left column w s.1 (k, h) in (r.0, (suc r.1.0, r.1.1))

abbrev mes : List Hearing → List NodeId
mes ears = map (λ (e : Hearing). e.me) ears

-- a row's last way leads to the last ear's node, and the others to the others'
row_ends : (rows : List (List Putting)) (ears : List Hearing) (e : Hearing) (l : List Putting) (w : Putting) → AreAll (ears ++ e ∷ []) rows → RowOf rows l w → (leads_of l ≡ mes ears) × (w.to ≡ e.me)
row_ends rows ears e l w a m =
    same_from_push (leads_of l) (mes ears) w.to e.me (sym (map_push (λ (v : Putting). v.to) l w) ∙ a.leads (l ++ w ∷ []) m ∙ map_push (λ (v : Hearing). v.me) ears e)

-- the ears that are left, and what is left of the rows
pub all_left : (rows left : List (List Putting)) (column : List Putting) (ears : List Hearing) (e : Hearing) → AreAll (ears ++ e ∷ []) rows → Splits rows left column → AreAll ears left
all_left rows left column ears e a s = record {
  leads = λ l m. let r = of_left rows left column l s m in (row_ends rows ears e l r.0 a r.1).0;
  whole = λ x m. ap (λ (n : ℕ). x.parts + n) (left_long rows left column s) ∙ a.whole x (in_left ears (e ∷ []) x m);
}

pub all_go_there : (rows left : List (List Putting)) (column : List Putting) (ears : List Hearing) (e : Hearing) → AreAll (ears ++ e ∷ []) rows → Splits rows left column → AllGoTo e.me column
all_go_there rows left column ears e a s w m = let r = of_column rows left column w s m in (row_ends rows ears e r.0 w a r.1).1

pub none_is_empty : (rows : List (List Putting)) (ears : List Hearing) (e : Hearing) → AreAll (ears ++ e ∷ []) rows → (r : List Putting) → Among rows r → r ≡ [] → ⊥
none_is_empty rows ears e a r m is = no_more (mes ears) (sym (map_push (λ (v : Hearing). v.me) ears e) ∙ sym (a.leads r m) ∙ ap leads_of is)
  where
    no_more : (ns : List NodeId) → ns ++ e.me ∷ [] ≡ [] → ⊥
    no_more ns h = let l = ap length h in grind (arith, length_push ns e.me)

pub every_part : (rows left : List (List Putting)) (column : List Putting) (ears : List Hearing) (e : Hearing) → AreAll (ears ++ e ∷ []) rows → Splits rows left column → e.parts + length column ≡ 1024
every_part rows left column ears e a s = ap (λ (n : ℕ). e.parts + n) (column_long rows left column s) ∙ a.whole e (in_right ears (e ∷ []) e (0, refl))

-- These ears and ways are left of those, and the other ears are settled.
pub record Settling (ears₀ : List Hearing) (rows₀ : List (List Putting)) (ears : List Hearing) (rows : List (List Putting)) : Type 0 where
  pub all : AreAll ears rows
  pub within : (r : List Putting) → Among rows r → (w : Putting) → Among r w → (s : List Putting) × Among rows₀ s × Among s w
  pub each : (e : Hearing) → Among ears₀ e → Among ears e ⊎ IsPutBy rows₀ e

pub none_settled : (ears : List Hearing) (rows : List (List Putting)) → AreAll ears rows → Settling ears rows ears rows
none_settled ears rows a = record { all = a; within = λ r m w i. (r, m, i); each = λ e m. inl m }

pub one_settled : (ears₀ : List Hearing) (rows₀ : List (List Putting)) (ears : List Hearing) (rows left : List (List Putting)) (column : List Putting) (e : Hearing)
    → Settling ears₀ rows₀ (ears ++ e ∷ []) rows → Splits rows left column → ((x : Sent) → Among e.taken x → PutBy column x) → Settling ears₀ rows₀ ears left
one_settled ears₀ rows₀ ears rows left column e g s put = record {
  all = all_left rows left column ears e g.all s;
  within = λ l m w i. let r = of_left rows left column l s m in g.within (l ++ r.0 ∷ []) r.1 w (in_left l (r.0 ∷ []) w i);
  each = λ x m. ⊎_elim (λ (i : Among (ears ++ e ∷ []) x). ⊎_elim
      (λ (j : Among ears x). inl j)
      (λ (same : e ≡ x). inr (subst (IsPutBy rows₀) same is_put))
      (in_last ears e x i))
      (λ (p : IsPutBy rows₀ x). inr p)
      (g.each x m);
}
  where
    is_put : IsPutBy rows₀ e
    is_put x i =
        let p = put x i in
        let r = of_column rows left column p.0 s p.1 in
        let q = g.within (r.0 ++ p.0 ∷ []) r.1 p.0 (in_right r.0 (p.0 ∷ []) p.0 (0, refl)) in
        (q.0, q.1, p.0, q.2, (row_ends rows ears e r.0 p.0 g.all r.1).1, p.2)

pub all_settled : (ears₀ : List Hearing) (rows₀ rows : List (List Putting)) → Settling ears₀ rows₀ [] rows → (e : Hearing) → Among ears₀ e → IsPutBy rows₀ e
all_settled ears₀ rows₀ rows g e m = ⊎_elim (λ (i : Among [] e). absurd (none-some e i.1)) (λ (p : IsPutBy rows₀ e). p) (g.each e m)
