-- Histories of nodes match whose ears are settled.
use Rattle.std.proofs.Common.{◌≡◌, ℕ, zero, suc, ◌+◌, List, [], ◌∷◌, map, length, Some, refl, sym, ap, ◌∙◌, subst}
use Rattle.std.proofs.lemmas.List.{length-map}
use Rattle.std.proofs.lemmas.Option.{none-some, same_Some}
use Rattle.gs_msg.specs.declared.message.Message.{Message}
use Rattle.gs_msg.specs.declared.node.NodeId.{NodeId}
use Rattle.gs_msg.specs.declared.sent.Sent.{Sent}
use Rattle.gs_cluster_channel.specs.Settled.{Hearing, Putting}
use Rattle.gs_cluster_history.specs.declared.took.Took.{Took}
use Rattle.gs_cluster_history.specs.declared.took.Took.TheVariants.{Heard, Did}
use Rattle.gs_cluster_history.specs.Histories.{Among, Entry, Kept, Upshot, line_of}
use Rattle.gs_cluster_history.specs.Merging.{Matches, Stands, lines_of}
use Rattle.gs_cluster_node.specs.Nodes.{IsSound, heard_in, heard_of}
use Rattle.gs_cluster_notes.specs.declared.notes.Notes.{Notes}
use Rattle.gs_cluster_threads.specs.declared.gathering.Member.{Member}
use Rattle.gs_cluster_threads.specs.Gathered.{AllTell, IsWhole, member_of}
use Rattle.gs_cluster_threads.specs.inner.Placed.{InOrder}
use Rattle.gs_cluster_threads.specs.inner.Settling.{AreAll, AreApart, IsPutBy}

-- ---- what a history took was heard

heard_later : (t : Took) (rest : List Sent) (x : Sent) → Among rest x → Among (heard_in t rest) x
heard_later (Heard sent) rest x m = (suc m.0, m.1)
heard_later (Did event) rest x m = m

is_heard : (es : List Entry) (e : Entry) (x : Sent) → Among es e → e.took ≡ Heard x → Among (heard_of es) x
is_heard [] e x (k, h) t = absurd (none-some e h)
is_heard (f ∷ es) e x (zero, h) t =
    let same : f.took ≡ Heard x = ap (λ (z : Entry). z.took) (same_Some f e h) ∙ t in
    subst (λ (z : Took). Among (heard_in z (heard_of es)) x) (sym same) (0, refl)
is_heard (f ∷ es) e x (suc k, h) t = heard_later f.took (heard_of es) x (is_heard es e x (k, h) t)

line_among : {C : Type 0} (ks : List (Kept C)) (k : Kept C) → Among ks k → Among (lines_of ks) (line_of k)
line_among [] k (i, h) = absurd (none-some k h)
line_among {C} (x ∷ ks) k (zero, h) = (0, ap (λ (z : Kept C). Some (line_of z)) (same_Some x k h))
line_among (x ∷ ks) k (suc i, h) = let r = line_among ks k (i, h) in (suc r.0, r.1)

module _ {C : Type 0} (Does : Took → C → Upshot → C → Type 0) (Starts : NodeId → C → List Message → Type 0) (all : List NodeId) where
  -- ---- each node, each row and each ear is one of the three of a node

  of_node : (ks : List (Kept C)) (rows : List (List Putting)) (ears : List Hearing) (k : Kept C) → AreApart Does Starts all ks rows ears → Among ks k
      → (r : List Putting) × (e : Hearing) × Among ears e × IsSound Does Starts all k r e
  of_node [] rows ears k a (i, h) = absurd (none-some k h)
  of_node (x ∷ ks) [] ears k a m = absurd a
  of_node (x ∷ ks) (y ∷ rows) [] k a m = absurd a
  of_node (x ∷ ks) (y ∷ rows) (z ∷ ears) k a (zero, h) = (y, z, (0, refl), subst (λ (n : Kept C). IsSound Does Starts all n y z) (same_Some x k h) a.0)
  of_node (x ∷ ks) (y ∷ rows) (z ∷ ears) k a (suc i, h) = let r = of_node ks rows ears k a.1 (i, h) in (r.0, r.1, (suc r.2.0, r.2.1), r.3)

  of_row : (ks : List (Kept C)) (rows : List (List Putting)) (ears : List Hearing) (r : List Putting) → AreApart Does Starts all ks rows ears → Among rows r
      → (k : Kept C) × (e : Hearing) × Among ks k × IsSound Does Starts all k r e
  of_row ks [] ears r a (i, h) = absurd (none-some r h)
  of_row [] (y ∷ rows) ears r a m = absurd a
  of_row (x ∷ ks) (y ∷ rows) [] r a m = absurd a
  of_row (x ∷ ks) (y ∷ rows) (z ∷ ears) r a (zero, h) = (x, z, (0, refl), subst (λ (l : List Putting). IsSound Does Starts all x l z) (same_Some y r h) a.0)
  of_row (x ∷ ks) (y ∷ rows) (z ∷ ears) r a (suc i, h) = let s = of_row ks rows ears r a.1 (i, h) in (s.0, s.1, (suc s.2.0, s.2.1), s.3)

  of_ear : (ks : List (Kept C)) (rows : List (List Putting)) (ears : List Hearing) (e : Hearing) → AreApart Does Starts all ks rows ears → Among ears e
      → (k : Kept C) × (r : List Putting) × IsSound Does Starts all k r e
  of_ear ks rows [] e a (i, h) = absurd (none-some e h)
  of_ear [] [] (z ∷ ears) e a m = absurd a
  of_ear [] (y ∷ rows) (z ∷ ears) e a m = absurd a
  of_ear (x ∷ ks) [] (z ∷ ears) e a m = absurd a
  of_ear (x ∷ ks) (y ∷ rows) (z ∷ ears) e a (zero, h) = (x, y, subst (λ (w : Hearing). IsSound Does Starts all x y w) (same_Some z e h) a.0)
  of_ear (x ∷ ks) (y ∷ rows) (z ∷ ears) e a (suc i, h) = of_ear ks rows ears e a.1 (i, h)

  abbrev mes : List (Kept C) → List NodeId
  mes ks = map (λ (k : Kept C). k.me) ks

  same_mes : (ks : List (Kept C)) (rows : List (List Putting)) (ears : List Hearing) → AreApart Does Starts all ks rows ears → map (λ (e : Hearing). e.me) ears ≡ mes ks
  same_mes [] [] [] a = refl
  same_mes [] [] (z ∷ ears) a = absurd a
  same_mes [] (y ∷ rows) ears a = absurd a
  same_mes (x ∷ ks) [] ears a = absurd a
  same_mes (x ∷ ks) (y ∷ rows) [] a = absurd a
  same_mes (x ∷ ks) (y ∷ rows) (z ∷ ears) a = ap (λ (n : NodeId). n ∷ map (λ (e : Hearing). e.me) ears) a.0.me ∙ ap (λ (l : List NodeId). x.me ∷ l) (same_mes ks rows ears a.1)

  as_many : (ks : List (Kept C)) (rows : List (List Putting)) (ears : List Hearing) → AreApart Does Starts all ks rows ears → length rows ≡ length ks
  as_many [] [] [] a = refl
  as_many [] [] (z ∷ ears) a = absurd a
  as_many [] (y ∷ rows) ears a = absurd a
  as_many (x ∷ ks) [] ears a = absurd a
  as_many (x ∷ ks) (y ∷ rows) [] a = absurd a
  as_many (x ∷ ks) (y ∷ rows) (z ∷ ears) a = ap suc (as_many ks rows ears a.1)

  pub all_there : (ks : List (Kept C)) (rows : List (List Putting)) (ears : List Hearing) → mes ks ≡ all → AreApart Does Starts all ks rows ears → AreAll ears rows
  all_there ks rows ears numbers a =
      let long : length rows ≡ length all = as_many ks rows ears a ∙ sym (length-map ks (λ (k : Kept C). k.me)) ∙ ap (λ (l : List NodeId). length l) numbers in
      record {
        leads = λ r m. (of_row ks rows ears r a m).3.leads ∙ sym numbers ∙ sym (same_mes ks rows ears a);
        whole = λ e m. ap (λ (n : ℕ). e.parts + n) long ∙ (of_ear ks rows ears e a m).2.whole;
      }

  -- ---- they match

  module _ (ks : List (Kept C)) (rows : List (List Putting)) (ears : List Hearing) (a : AreApart Does Starts all ks rows ears) (put : (e : Hearing) → Among ears e → IsPutBy rows e) where
    it_stands : (k : Kept C) (x : Sent) → Among ks k → Among (heard_of k.entries) x → Stands (lines_of ks) k.me (Heard x)
    it_stands k x m i =
        let n = of_node ks rows ears k a m in
        let p = put n.1 n.2 x (subst (λ (l : List Sent). Among l x) (sym n.3.heard) i) in
        let q = of_row ks rows ears p.0 a p.1 in
        let l = q.3.put p.2 p.3 x p.5 in
        (l.receiver ∙ p.4 ∙ n.3.me, line_of q.0, line_among ks q.0 q.2, sym l.sender, l.at)

    each_stands : (k : Kept C) (e : Entry) (t : Took) → Among ks k → Among k.entries e → e.took ≡ t → Stands (lines_of ks) k.me t
    each_stands k e (Heard x) m i same = it_stands k x m (is_heard k.entries e x i same)
    each_stands k e (Did event) m i same = tt

    they_match : Matches ks
    they_match k m e i = each_stands k e e.took m i refl

  pub is_whole : (given ks : List (Kept C)) (members : List (Member C)) (notes : List Notes) (rows : List (List Putting)) (ears : List Hearing)
      → InOrder all given ks → AreApart Does Starts all ks rows ears → members ≡ map member_of ks → AllTell ks notes → ((e : Hearing) → Among ears e → IsPutBy rows e)
      → IsWhole Does Starts all given members notes
  is_whole given ks members notes rows ears order a are told put = record {
    nodes = ks;
    among = order.among;
    numbers = order.numbers;
    kept = λ k m. (of_node ks rows ears k a m).3.kept;
    match = they_match ks rows ears a put;
    are = are;
    told = told;
  }
