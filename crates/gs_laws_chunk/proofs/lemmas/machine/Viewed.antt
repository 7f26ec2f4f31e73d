-- Lists are of views: any other has the edits of the birth, or none.
use Rattle.std.proofs.Common.{◌≡◌, ◌≢◌, ◌∙◌, ℕ, ◌<◌, ◌≤◌, ◌++◌, ◌⊎◌, inl, inr, ⊎_elim, Bool, true, false, cond, List, [], ◌∷◌, Some, refl, sym, ap, append-nil, arith}
use Rattle.std.specs.Prelude.{nat_eq}
use Rattle.std.proofs.lemmas.Bool.{cases_eq, eq-eqb, ne_eqb}
use Rattle.gs_replica.specs.Stands.{Edit}
use Rattle.gs_laws_chunk.specs.machine.Stamps.{start_of}
use Rattle.gs_laws_chunk.specs.machine.Machine.{ChunkWorld}
use Rattle.gs_laws_chunk.specs.machine.Events.{Event, Numbers, Settles, CommitsRollback, Raises, Rises, Promises, SendsCopy, TakesLease, Forwards, Applies, Acknowledges, Hears, Closes, Answers, Spends, Drops, Loses, Damages, Learns, Names, Reports, Proposes, AsksFirst, Asks, AsksForCopy, GivesUp, Holds, Grants, Retires, SendsDrop, Prepares, Finalizes, BeginsRollback, TellsEpoch, Can, happens, Leads, Rests, Goes}
use Rattle.gs_laws_chunk.specs.machine.Laws.{Birth, world_of}
use Rattle.gs_laws_chunk.specs.machine.Lists.{ListsAreOfViews}
use Rattle.gs_laws_chunk.proofs.lemmas.machine.Facts.{reached_world}
use Rattle.gs_laws_chunk.proofs.lemmas.machine.Worlds.{WorldOk}

-- nothing more is in any list
none_more : (t p : ℕ) (xs : List Edit) → cond (nat_eq t p) (xs ++ []) xs ≡ xs
none_more t p xs = by_case (nat_eq t p)
  where
    by_case : (b : Bool) → cond b (xs ++ []) xs ≡ xs
    by_case true = append-nil xs
    by_case false = refl

-- where no list changes, and each view that stood stands
same_then : (b : Birth) (u v : ChunkWorld) → ((t : ℕ) → v.known.list t ≡ u.known.list t) → ((t : ℕ) → v.known.stood t ≡ u.known.stood t) → v.known.born ≡ u.known.born → ListsAreOfViews b u → ListsAreOfViews b v
same_then b u v list stood born of t = ⊎_elim
    (λ (x : (u.known.stood t ≡ true) × (u.known.born < t)). inl (stood t ∙ x.0, (let y = x.1 in omega arith)))
    (λ (x : (u.known.list t ≡ b.origin) ⊎ (u.known.list t ≡ [])). inr (⊎_elim (λ y. inl (list t ∙ y)) (λ y. inr (list t ∙ y)) x))
    (of t)

module _ (b : Birth) (u : ChunkWorld) (ok : WorldOk u) (of : ListsAreOfViews b u) where
  -- a view that is settled lies behind the birth
  behind_birth : u.known.born ≤ u.known.view
  behind_birth = (ok.known).blank.0

  -- at one stamp, which stands then, behind the birth; the others as they were
  at_one : (v : ChunkWorld) (p : ℕ) → v.known.born ≡ u.known.born → (v.known.stood p ≡ true) → u.known.born < p → ((t : ℕ) → t ≢ p → (v.known.list t ≡ u.known.list t) × (v.known.stood t ≡ u.known.stood t)) → ListsAreOfViews b v
  at_one v p born stands late others t = ⊎_elim
      (λ (is : t ≡ p). inl (ap v.known.stood is ∙ stands, omega arith))
      (λ (other : t ≢ p). ⊎_elim
      (λ (x : (u.known.stood t ≡ true) × (u.known.born < t)). inl ((others t other).1 ∙ x.0, (let y = x.1 in omega arith)))
      (λ (x : (u.known.list t ≡ b.origin) ⊎ (u.known.list t ≡ [])). inr (⊎_elim (λ y. inl ((others t other).0 ∙ y)) (λ y. inr ((others t other).0 ∙ y)) x))
      (of t))
      (cases_eq t p)

  cond_other : {X : Type 0} (t p : ℕ) (x y : X) → t ≢ p → cond (nat_eq t p) x y ≡ y
  cond_other t p x y other = rw (ne_eqb t p other) refl

  cond_here : {X : Type 0} (p : ℕ) (x y : X) → cond (nat_eq p p) x y ≡ x
  cond_here p x y = rw (eq-eqb p p refl) refl

  event_views : (e : Event) → Can u e → ListsAreOfViews b (happens u e)
  event_views (Numbers me lease edits edit) can =
      let v = ok.views me in
      let held = v.lease lease can.0 in
      let at = (v.same lease can.0).0 in
      let within = held.within in
      let holder = ap u.known.holder (sym at) ∙ held.holder in
      let stands = (ok.known).peopled lease.stamp me within ((ok.known).held lease.stamp me within held.holder) in
      at_one (happens u (Numbers me lease edits edit)) (u.members me).promise refl (ap u.known.stood (sym at) ∙ stands)
      (late (u.members me).promise me holder (ap u.known.stood (sym at) ∙ stands))
      (λ t other. (cond_other t (u.members me).promise (u.known.list t ++ edit ∷ []) (u.known.list t) other, refl))
    where
      late : (t me : ℕ) → u.known.holder t ≡ Some me → u.known.stood t ≡ true → u.known.born < t
      late t me holder stands = ⊎_elim
          (λ (is : t ≡ u.known.born). absurd (let none = ap u.known.holder is ∙ (ok.known).blank.2 in (cc)))
          (λ (other : t ≢ u.known.born). let early = (ok.known).early t stands in omega arith)
          (cases_eq t u.known.born)
  event_views (Settles members count holder) can =
      let top = (ok.entry).top in
      let stamp = (ok.entry).stamp in
      let low = behind_birth in
      let up = can.0 in
      at_one (happens u (Settles members count holder)) u.known.top refl (cond_here u.known.top true (u.known.stood u.known.top)) (omega arith)
      (λ t other. (cond_other t u.known.top _ (u.known.list t) other, cond_other t u.known.top true (u.known.stood t) other))
  event_views (CommitsRollback members true) can =
      let rolling = (ok.entry).rolling can.0 in
      let next = ap start_of rolling.next in
      let below = rolling.below in
      let low = behind_birth in
      let top = (ok.known).viewtop in
      at_one (happens u (CommitsRollback members true)) (start_of u.known.current) refl (cond_here (start_of u.known.current) true (u.known.stood (start_of u.known.current))) (omega arith)
      (λ t other. (cond_other t (start_of u.known.current) _ (u.known.list t) other, cond_other t (start_of u.known.current) true (u.known.stood t) other))
  event_views (CommitsRollback members false) can = λ t. ⊎_elim
      (λ (is : t ≡ start_of u.known.current). inr (inr (rw is (cond_here (start_of u.known.current) [] (u.known.list (start_of u.known.current))))))
      (λ (other : t ≢ start_of u.known.current). ⊎_elim
      (λ (x : (u.known.stood t ≡ true) × (u.known.born < t)). inl (cond_other t (start_of u.known.current) false (u.known.stood t) other ∙ x.0, x.1))
      (λ (x : (u.known.list t ≡ b.origin) ⊎ (u.known.list t ≡ [])). let same = cond_other t (start_of u.known.current) [] (u.known.list t) other in inr (⊎_elim (λ y. inl (same ∙ y)) (λ y. inr (same ∙ y)) x))
      (of t))
      (cases_eq t (start_of u.known.current))
  event_views (Raises me stamp edits image) can = same_then b u (happens u (Raises me stamp edits image)) (λ t. none_more t _ (u.known.list t)) (λ t. refl) refl of
  event_views (Rises me stamp edits) can = same_then b u (happens u (Rises me stamp edits)) (λ t. none_more t _ (u.known.list t)) (λ t. refl) refl of
  event_views (Promises me edits) can = same_then b u (happens u (Promises me edits)) (λ t. none_more t _ (u.known.list t)) (λ t. refl) refl of
  event_views (SendsCopy me stamp target edits image) can = same_then b u (happens u (SendsCopy me stamp target edits image)) (λ t. none_more t _ (u.known.list t)) (λ t. refl) refl of
  event_views (TakesLease me stamp members) can = same_then b u (happens u (TakesLease me stamp members)) (λ t. none_more t _ (u.known.list t)) (λ t. refl) refl of
  event_views (Forwards me lease to place edit) can = same_then b u (happens u (Forwards me lease to place edit)) (λ t. none_more t _ (u.known.list t)) (λ t. refl) refl of
  event_views (Applies me edits edit) can = same_then b u (happens u (Applies me edits edit)) (λ t. none_more t _ (u.known.list t)) (λ t. refl) refl of
  event_views (Acknowledges me edits) can = same_then b u (happens u (Acknowledges me edits)) (λ t. none_more t _ (u.known.list t)) (λ t. refl) refl of
  event_views (Hears me lease from count) can = same_then b u (happens u (Hears me lease from count)) (λ t. none_more t _ (u.known.list t)) (λ t. refl) refl of
  event_views (Closes me lease place) can = same_then b u (happens u (Closes me lease place)) (λ t. none_more t _ (u.known.list t)) (λ t. refl) refl of
  event_views (Answers me lease place edit) can = same_then b u (happens u (Answers me lease place edit)) (λ t. none_more t _ (u.known.list t)) (λ t. refl) refl of
  event_views (Spends me) can = same_then b u (happens u (Spends me)) (λ t. none_more t _ (u.known.list t)) (λ t. refl) refl of
  event_views (Drops me) can = same_then b u (happens u (Drops me)) (λ t. none_more t _ (u.known.list t)) (λ t. refl) refl of
  event_views (Loses me) can = same_then b u (happens u (Loses me)) (λ t. none_more t _ (u.known.list t)) (λ t. refl) refl of
  event_views (Damages me) can = same_then b u (happens u (Damages me)) (λ t. none_more t _ (u.known.list t)) (λ t. refl) refl of
  event_views (Learns me end fails) can = same_then b u (happens u (Learns me end fails)) (λ t. none_more t _ (u.known.list t)) (λ t. refl) refl of
  event_views (Names me edits) can = same_then b u (happens u (Names me edits)) (λ t. none_more t _ (u.known.list t)) (λ t. refl) refl of
  event_views (Reports me) can = same_then b u (happens u (Reports me)) (λ t. none_more t _ (u.known.list t)) (λ t. refl) refl of
  event_views (Proposes stamp asked) can = same_then b u (happens u (Proposes stamp asked)) (λ t. refl) (λ t. refl) refl of
  event_views (AsksFirst to false) can = same_then b u (happens u (AsksFirst to false)) (λ t. refl) (λ t. refl) refl of
  event_views (AsksFirst to true) can = same_then b u (happens u (AsksFirst to true)) (λ t. refl) (λ t. refl) refl of
  event_views (Asks to) can = same_then b u (happens u (Asks to)) (λ t. refl) (λ t. refl) refl of
  event_views (AsksForCopy source target with_image) can = same_then b u (happens u (AsksForCopy source target with_image)) (λ t. refl) (λ t. refl) refl of
  event_views GivesUp can = same_then b u (happens u GivesUp) (λ t. refl) (λ t. refl) refl of
  event_views (Holds server) can = same_then b u (happens u (Holds server)) (λ t. refl) (λ t. refl) refl of
  event_views (Grants to) can = same_then b u (happens u (Grants to)) (λ t. refl) (λ t. refl) refl of
  event_views Retires can = same_then b u (happens u Retires) (λ t. refl) (λ t. refl) refl of
  event_views (SendsDrop to promise) can = same_then b u (happens u (SendsDrop to promise)) (λ t. refl) (λ t. refl) refl of
  event_views (Prepares whole) can = same_then b u (happens u (Prepares whole)) (λ t. refl) (λ t. refl) refl of
  event_views Finalizes can = same_then b u (happens u Finalizes) (λ t. refl) (λ t. refl) refl of
  event_views BeginsRollback can = same_then b u (happens u BeginsRollback) (λ t. refl) (λ t. refl) refl of
  event_views (TellsEpoch to epoch) can = same_then b u (happens u (TellsEpoch to epoch)) (λ t. refl) (λ t. refl) refl of

pub lists_of_views : (b : Birth) (w : ChunkWorld) → Leads (world_of b) w → ListsAreOfViews b w
lists_of_views b w Rests = λ t. inr (inl refl)
lists_of_views b w (Goes u e before can) = event_views b u (reached_world u (b, before)) (lists_of_views b u before) e can
