-- A run of the nodes of a cluster is a run of the store.
use Rattle.std.proofs.Common.{◌≡◌, ◌∙◌, ◌⊎◌, ◌++◌, ℕ, zero, suc, List, [], ◌∷◌, map, Some, refl, sym, ap, subst, inl, inr, ⊎_elim, arith, slice_get, slice_set}
use Rattle.std.proofs.lemmas.Option.{none-some, same_Some}
use Rattle.gs_msg.specs.Posts as posts
use Rattle.gs_msg.specs.declared.event.DiskId.{DiskId}
use Rattle.gs_msg.specs.declared.node.NodeId.{NodeId}
use Rattle.gs_msg.specs.declared.sent.Sent as envelopes
use Rattle.gs_nodes.specs.Nodes.{Nodes}
use Rattle.gs_nodes.specs.declared.place.MasterPlace.{MasterPlace}
use Rattle.gs_world.specs.Histories.{Happens, History}
use Rattle.gs_world.specs.Runs.{HappensAll}
use Rattle.gs_world.specs.Sent.{Sent, message_in, message_of, posts_of}
use Rattle.gs_cluster_history.specs.declared.took.Took.{Took}
use Rattle.gs_cluster_history.specs.declared.took.Took.TheVariants.{Heard, Did}
use Rattle.gs_cluster_history.specs.Histories.{Among, Line, Listed, MayTake, Past, Upshot, listing, moment_of, out_of, said_of}
use Rattle.gs_cluster_history.specs.Merging.{Comes, Place, RunsAll, Stands, event_of}
use Rattle.gs_cluster_core.specs.Roles.{DoesAs}
use Rattle.gs_cluster_core.specs.Stores.{AreIn, Differ, OthersStay, StandsIn, node_at, numbers, post_of}
use Rattle.gs_cluster_core.specs.declared.role.Role.{Role}
use Rattle.gs_cluster_core.proofs.Happening.{Occurs, acting_occurs, hearing_occurs}
use Rattle.gs_cluster_core.proofs.Placing.{Moves}
use Rattle.gs_cluster_core.proofs.Sending.{posts_added, sends}

-- ---- places of lists

pub map_at : {X Y : Type 0} (f : X → Y) (xs : List X) (i : ℕ) (x : X) → slice_get xs i ≡ Some x → slice_get (map f xs) i ≡ Some (f x)
map_at f [] i x h = absurd (none-some x h)
map_at f (z ∷ xs) zero x h = ap (λ a. Some (f a)) (same_Some z x h)
map_at f (z ∷ xs) (suc i) x h = map_at f xs i x h

map_same : {X Y : Type 0} (f : X → Y) (xs : List X) (i : ℕ) (x y : X) → slice_get xs i ≡ Some x → f y ≡ f x → map f (slice_set xs i y) ≡ map f xs
map_same f [] i x y h e = refl
map_same f (z ∷ xs) zero x y h e = ap (λ a. a ∷ map f xs) (e ∙ ap f (sym (same_Some z x h)))
map_same f (z ∷ xs) (suc i) x y h e = ap (λ l. f z ∷ l) (map_same f xs i x y h e)

-- it is what was put, or stands elsewhere
set_at : {X : Type 0} (xs : List X) (i k : ℕ) (x y z : X) → slice_get xs i ≡ Some x → slice_get (slice_set xs i y) k ≡ Some z → (y ≡ z) ⊎ ((i ≡ k → ⊥) × (slice_get xs k ≡ Some z))
set_at [] i k x y z h f = absurd (none-some x h)
set_at (w ∷ xs) zero zero x y z h f = inl (same_Some y z f)
set_at (w ∷ xs) zero (suc k) x y z h f = inr ((λ e. absurd (omega arith)), f)
set_at (w ∷ xs) (suc i) zero x y z h f = inr ((λ e. absurd (omega arith)), f)
set_at (w ∷ xs) (suc i) (suc k) x y z h f = ⊎_elim (λ is. inl is) (λ p. inr ((λ e. p.0 (omega (arith, e))), p.1)) (set_at xs i k x y z h f)

message_listed : (xs : List Listed) (place : ℕ) (s : envelopes.Sent) → slice_get xs place ≡ Some (listing s) → posts.message_of (slice_get (map post_of xs) place) ≡ Some s.message
message_listed xs place s h = ap posts.message_of (map_at post_of xs place (listing s) h)

same_moment : (took : Took) → (event_of took).moment ≡ moment_of took
same_moment (Heard s) = refl
same_moment (Did event) = refl

module _ {D : Type 0} (seen : D → List ℕ) (failures : D → ℕ) (armed : DiskId → ℕ → MasterPlace D → MasterPlace D) where
  -- what stands in a node's list stands among what was sent
  stands_sent : (lines : List (Line (Role D))) (h : History D) (s : envelopes.Sent) (l : Line (Role D)) → AreIn lines h → Among lines l → l.me ≡ s.from → slice_get l.past.sent s.place ≡ Some (listing s)
      → message_of h.sent (record { sender = s.from; place = s.place }) ≡ Some s.message
  stands_sent lines h s l are among from listed =
      ap (λ o. message_in o s.place) (ap (posts_of h.sent) (sym from) ∙ (are.all l among).sent) ∙ message_listed l.past.sent s.place s listed

  took_occurs : (lines : List (Line (Role D))) (h : History D) (took : Took) (me : NodeId) (clock : ℕ) (core : Role D) (o : Upshot) (after : Role D)
      → AreIn lines h → Stands lines me took → MayTake me clock took → node_at h.nodes me ≡ Some core → DoesAs seen failures took core o after
      → Occurs seen failures armed (event_of took).moment (event_of took).happening h me o after
  took_occurs lines h (Heard s) me clock core o after are (to, l, among, from, listed) may at does =
      hearing_occurs seen failures armed h me s core o after to (stands_sent lines h s l are among from listed) at does
  took_occurs lines h (Did event) me clock core o after are stands may at does = acting_occurs seen failures armed event.moment event.happening h me core o after may at does

  -- the one that went on, and the others
  goes_on : (old : List (Line (Role D))) (at : ℕ) (line : Line (Role D)) (after : Past (Role D)) (h : History D) (nodes : Nodes D) (sent : Sent) → Differ (numbers old) → AreIn old h
      → slice_get old at ≡ Some line → Moves h.nodes nodes line.me after.core → posts_of sent line.me ≡ Some (map post_of after.sent)
      → ((other : NodeId) → (line.me ≡ other → ⊥) → posts_of sent other ≡ posts_of h.sent other) → (l : Line (Role D)) → Among (slice_set old at (record { me = line.me; past = after })) l
      → StandsIn (record { nodes = nodes; sent = sent }) l
  goes_on old at line after h nodes sent differ are found moves here others l (k, is) =
      ⊎_elim
      (λ same. subst (λ (m : Line (Role D)). StandsIn (record { nodes = nodes; sent = sent }) m) same (record { node = moves.here; sent = here }))
      (λ elsewhere.
      let apart : line.me ≡ l.me → ⊥ = λ e. elsewhere.0 (differ at k line.me (map_at (λ (m : Line (Role D)). m.me) old at line found) (map_at (λ (m : Line (Role D)). m.me) old k l elsewhere.1 ∙ ap Some (sym e))) in
      let before = are.all l (k, elsewhere.1) in
      record { node = moves.others l.me apart ∙ before.node; sent = others l.me apart ∙ before.sent })
      (set_at old at k line (record { me = line.me; past = after }) l found is)

  -- one entry is an event of the store, and nodes that aren't among these stay
  record HasCome (p : Place) (old new : List (Line (Role D))) (h : History D) : Type 0 where
    after : History D
    happens : Happens seen failures armed (event_of p.entry.took) h (said_of p.entry.outcome) after
    are : AreIn new after
    others : OthersStay (numbers old) h after

  has_come : (p : Place) (old new : List (Line (Role D))) (h : History D) → Differ (numbers old) → Comes (DoesAs seen failures) p old new → AreIn old h → HasCome p old new h
  has_come p old new h differ comes are =
      let line = comes.line in
      let stands = are.all line (p.at, comes.at) in
      let occurs = took_occurs old h p.entry.took line.me p.entry.clock line.past.core p.entry.outcome comes.after.core are comes.known comes.takes.may stands.node comes.takes.does in
      let sent = sends seen failures armed (event_of p.entry.took).moment line.me p.entry.outcome (map post_of line.past.sent) h.sent stands.sent in
      let here : posts_of sent.0 line.me ≡ Some (map post_of comes.after.sent) =
      sent.1.here ∙ ap Some (ap (λ m. map post_of line.past.sent ++ map (posts.posted m) (out_of p.entry.outcome)) (same_moment p.entry.took)
      ∙ sym (posts_added line.past.sent p.entry.clock (moment_of p.entry.took) (out_of p.entry.outcome)) ∙ ap (map post_of) (sym comes.takes.sent)) in
      let among : Among (numbers old) line.me = (p.at, map_at (λ (m : Line (Role D)). m.me) old p.at line comes.at) in
      record {
        after = record { nodes = occurs.new; sent = sent.0 };
        happens = record { by = line.me; outcome = p.entry.outcome; at = occurs.at; tells = sent.1.tells };
        are = subst (λ (ls : List (Line (Role D))). AreIn ls (record { nodes = occurs.new; sent = sent.0 })) (sym comes.rest) (record {
          all = goes_on old p.at line comes.after h occurs.new sent.0 differ are comes.at occurs.moves here sent.1.others;
          none_lost = sent.1.lost ∙ are.none_lost;
        });
        others = record {
          config = occurs.moves.config;
          node = λ me apart. occurs.moves.others me (λ e. apart (subst (Among (numbers old)) e among));
          sent = λ me apart. sent.1.others me (λ e. apart (subst (Among (numbers old)) e among));
        };
      }

  pub comes_happens : (p : Place) (old new : List (Line (Role D))) (h : History D) → Differ (numbers old) → Comes (DoesAs seen failures) p old new → AreIn old h
      → (after : History D) × Happens seen failures armed (event_of p.entry.took) h (said_of p.entry.outcome) after × AreIn new after
  comes_happens p old new h differ comes are = let one = has_come p old new h differ comes are in (one.after, one.happens, one.are)

  numbers_stay : (p : Place) (old new : List (Line (Role D))) → Comes (DoesAs seen failures) p old new → numbers new ≡ numbers old
  numbers_stay p old new comes =
      ap numbers comes.rest ∙ map_same (λ (m : Line (Role D)). m.me) old p.at comes.line (record { me = comes.line.me; past = comes.after }) comes.at refl

  pub record HaveHappened (places : List Place) (old new : List (Line (Role D))) (h : History D) : Type 0 where
    pub end : History D
    pub happens : HappensAll seen failures armed (map (λ (p : Place). event_of p.entry.took) places) (map (λ (p : Place). said_of p.entry.outcome) places) h end
    pub are : AreIn new end
    pub others : OthersStay (numbers old) h end

  pub all_happen : (places : List Place) (old new : List (Line (Role D))) (h : History D) → Differ (numbers old) → RunsAll (DoesAs seen failures) places old new → AreIn old h → HaveHappened places old new h
  all_happen [] old new h differ same are =
      record { end = h; happens = (refl, refl); are = subst (λ (ls : List (Line (Role D))). AreIn ls h) (sym same) are; others = record { config = refl; node = λ me apart. refl; sent = λ me apart. refl } }
  all_happen (p ∷ ps) old new h differ (mid, comes, rest) are =
      let one = has_come p old mid h differ comes are in
      let stay = numbers_stay p old mid comes in
      let all = all_happen ps mid new one.after (subst Differ (sym stay) differ) rest one.are in
      record {
        end = all.end;
        happens = (said_of p.entry.outcome, map (λ (q : Place). said_of q.entry.outcome) ps, one.after, refl, one.happens, all.happens);
        are = all.are;
        others = record {
          config = all.others.config ∙ one.others.config;
          node = λ me apart. all.others.node me (λ a. apart (subst (λ ns. Among ns me) stay a)) ∙ one.others.node me apart;
          sent = λ me apart. all.others.sent me (λ a. apart (subst (λ ns. Among ns me) stay a)) ∙ one.others.sent me apart;
        };
      }
