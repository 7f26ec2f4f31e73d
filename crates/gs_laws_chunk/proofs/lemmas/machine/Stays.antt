-- A settled edit stays along the links.
use Rattle.std.proofs.Common.{◌≡◌, ◌≢◌, ℕ, zero, suc, ◌+◌, ◌<◌, ◌≤◌, ◌⊎◌, inl, inr, ⊎_elim, List, [], length, take, Some, true, refl, sym, ap, ◌∙◌, subst, arith}
use Rattle.std.specs.Prelude.{slice_get}
use Rattle.std.proofs.lemmas.List.{take_all, take-take, take-append-le, length-take-le}
use Rattle.std.proofs.lemmas.Option.{slice_get_within}
use Rattle.std.proofs.lemmas.Bool.{cases_Bool, cases_eq, cases_lt, cases_order}
use Rattle.gs_base.specs.declared.epoch.EpochEnd.{EpochEnd}
use Rattle.gs_base.specs.declared.epoch.EpochEnd.TheVariants.{Prepare, Finalize, Rollback}
use Rattle.gs_replica.specs.Stands.{Edit}
use Rattle.gs_laws_chunk.specs.machine.Stamps.{epoch_of, start_of}
use Rattle.gs_laws_chunk.specs.machine.Machine.{Done, Known, ChunkWorld}
use Rattle.gs_laws_chunk.specs.machine.Events.{Leads}
use Rattle.gs_laws_chunk.specs.machine.Laws.{Birth, world_of, settled_count, settled, IsSettledIn, StandsStill, StaysUnlessUndone, AcknowledgedStays, SettledStays, Inherits, KnownInherits}
use Rattle.gs_laws_chunk.proofs.lemmas.machine.Lists.{at_front, take_at, take_from, take_within, there, some_same, nil_list}
use Rattle.gs_laws_chunk.proofs.lemmas.machine.Stamps.{epoch_of-start, start_of-most}
use Rattle.gs_laws_chunk.proofs.lemmas.machine.Known.{false_true, Reached, Settled, Undone, KnownOk, IsPrepared}
use Rattle.gs_laws_chunk.proofs.lemmas.machine.Turns.{two_ends}
use Rattle.gs_laws_chunk.proofs.lemmas.machine.Worlds.{WorldOk, said, born_world, leads_world, leads_later}
use Rattle.gs_laws_chunk.proofs.lemmas.machine.Facts as facts
use Rattle.gs_laws_chunk.proofs.lemmas.machine.Exact.{least_least, least_most}

is_rollback : (h : EpochEnd) → (h ≡ Rollback) ⊎ (h ≡ Rollback → ⊥)
is_rollback Rollback = inl refl
is_rollback Prepare = inr (λ e. (cc))
is_rollback Finalize = inr (λ e. (cc))

is_prepare : (h : EpochEnd) → (h ≡ Prepare) ⊎ (h ≡ Prepare → ⊥)
is_prepare Prepare = inl refl
is_prepare Rollback = inr (λ e. (cc))
is_prepare Finalize = inr (λ e. (cc))

-- settled in the view t as in the view a, with the same edits before it
pub record Along (k : Known) (a t place : ℕ) (edit : Edit) : Type 0 where
  pub settled : Settled k t place edit
  pub same : take (place + 1) (k.list t) ≡ take (place + 1) (k.list a)

module _ (k : Known) (known : KnownOk k) where
  -- the view after holds what its former one has settled
  step : (a t place : ℕ) (edit : Edit) → k.born < t → t ≤ k.view → k.stood t ≡ true → Along k a (k.prev t) place edit → Along k a t place edit
  step a t place edit z l st along =
      let s = along.settled in
      let link = known.links t z l st in
      let below : place < k.base t = elim link.covers [
        | inl z ↦ (let w = slice_get_within (k.list (k.prev t)) place edit s.stands in let e = z.1 in omega arith)
        | inr z ↦ (let r = s.members z.0 z.1 in let low = r.low in let u = z.3 in omega arith)
      ] in
      let first : take (place + 1) (k.list t) ≡ take (place + 1) (k.list (k.prev t)) = rw (link.list, take-append-le (place + 1) (take (k.base t) (k.list (k.prev t))) link.more (let e = length-take-le (k.base t) (k.list (k.prev t)) link.within in omega arith))
      (take-take (place + 1) (k.base t) (k.list (k.prev t)) (omega arith)) in
      record {
        same = first ∙ along.same;
        settled = record {
          within = l;
          stood = st;
          stands = rw link.list (at_front (take (k.base t) (k.list (k.prev t))) link.more place edit (take_at (k.list (k.prev t)) (k.base t) place edit below s.stands));
          members = λ j m. record { promise = known.members t j l m; low = (let f = known.floor t j l m in omega arith) };
        };
      }

  -- by induction along the links
  chain : (fuel t a place : ℕ) (edit : Edit) → t < fuel → t ≤ k.view → k.stood t ≡ true → a ≤ t → (Undone k a t → ⊥) → Settled k a place edit → Along k a t place edit
  chain zero t a place edit f l st le not s = absurd (omega arith)
  chain (suc fuel) t a place edit f l st le not s = ⊎_elim
      (λ (e : t ≡ a). rw e (record { settled = s; same = refl }))
      (λ (d : t ≢ a).
      let first = known.early a s.stood in
      let up : k.born < t = omega arith in
      let link = known.links t up l st in
      let earlier = link.earlier in
      let back : a ≤ k.prev t = ⊎_elim (λ (x : k.prev t < a). absurd (not (known.between t a l st s.stood x (omega arith)))) (λ (x : a ≤ k.prev t). x) (cases_lt (k.prev t) a) in
      step a t place edit up l st (chain fuel (k.prev t) a place edit (omega arith) (omega arith) link.stood back
      (λ u. not (record { e = u.e; within = u.within; is = u.is; how = u.how; accepted = (let x = u.accepted in omega arith); after = u.after; before = u.before })) s))
      (cases_eq t a)

  -- what is settled under a stamp is below the base of each view that was settled after it
  pub below_base : (t a place : ℕ) (edit : Edit) → t ≤ k.view → k.stood t ≡ true → a < t → (Undone k a t → ⊥) → Settled k a place edit → place < k.base t
  below_base t a place edit l st lt not s =
      let first = known.early a s.stood in
      let up : k.born < t = omega arith in
      let link = known.links t up l st in
      let earlier = link.earlier in
      let back : a ≤ k.prev t = ⊎_elim (λ (x : k.prev t < a). absurd (not (known.between t a l st s.stood x lt))) (λ (x : a ≤ k.prev t). x) (cases_lt (k.prev t) a) in
      let along = chain t (k.prev t) a place edit (omega arith) (omega arith) link.stood back
      (λ u. not (record { e = u.e; within = u.within; is = u.is; how = u.how; accepted = (let x = u.accepted in omega arith); after = u.after; before = u.before })) s in
      elim link.covers [
        | inl z ↦ (let w = slice_get_within (k.list (k.prev t)) place edit along.settled.stands in let e = z.1 in omega arith)
        | inr z ↦ (let r = along.settled.members z.0 z.1 in let low = r.low in let u = z.3 in omega arith)
      ]

  pub stays : (t a place : ℕ) (edit : Edit) → t ≤ k.view → k.stood t ≡ true → a ≤ t → (Undone k a t → ⊥) → Settled k a place edit → Along k a t place edit
  stays t a place edit l st le not s = chain (t + 1) t a place edit (omega arith) l st le not s

  -- one place in the list
  pub one_place : (t place other : ℕ) (a b : Edit) → slice_get (k.list t) place ≡ Some a → slice_get (k.list t) other ≡ Some b → b.req.client.0 ≡ a.req.client.0 → b.req.number ≡ a.req.number → other ≡ place
  one_place t place other a b pa pb client number =
      let rise = known.lists t in
      ⊎_elim (λ (e : place ≡ other). sym e)
      (λ (o : (place < other) ⊎ (other < place)). ⊎_elim
      (λ (l : place < other). absurd (let h = rise.rises place other a b pa pb (sym client) l in omega arith))
      (λ (l : other < place). absurd (let h = rise.rises other place b a pb pa client l in omega arith)) o)
      (cases_order place other)

  -- of two rollbacks, the later one goes back to no less than the earlier one gave
  later : (e f : ℕ) → e + 1 ≤ k.current → k.how (e + 1) ≡ Rollback → IsPrepared k f → e < f → start_of (e + 1) ≤ k.prepared f
  later e f within how p l = ⊎_elim
      (λ (z : start_of (e + 1) ≤ k.prepared f). z)
      (λ (z : f ≤ epoch_of (start_of (e + 1))). absurd (let s = epoch_of-start (e + 1) in let q : f ≡ e + 1 = omega arith in two_ends (k.how (e + 1)) (rw q at p.1) how))
      ((known.rolled (e + 1) within how).0 f p)

  module _ (e : ℕ) (within : e + 1 ≤ k.current) (is : IsPrepared k e) (how : k.how (e + 1) ≡ Rollback) where
    -- none undoes a prepared view
    pub kept : (t : ℕ) → k.prepared e < start_of (e + 1) → Undone k (k.prepared e) t → ⊥
    kept t low u =
        let before = u.before in let after = u.after in
        ⊎_elim (λ (x : u.e ≡ e). let y : k.prepared u.e ≡ k.prepared e = ap k.prepared x in omega arith)
        (λ (o : (u.e < e) ⊎ (e < u.e)). ⊎_elim
        (λ (l : u.e < e). let x = later u.e e u.within u.how is l in omega arith)
        (λ (l : e < u.e). let x = later e u.e within how u.is l in omega arith) o)
        (cases_order u.e e)

    -- an edit within the prepared list is settled in the prepared view
    pub at_prepare : (t place : ℕ) (edit : Edit) → k.prepared e < t → t < start_of (e + 1) → Settled k t place edit → place < length (k.list (k.prepared e)) → Along k t (k.prepared e) place edit
    at_prepare t place edit low high s inside =
        let before = known.before e is in
        let quiet = known.quiet (k.prepared e) before (known.prepared e is) in
        let stood = known.ready e is in
        let x = there (k.list (k.prepared e)) place inside in
        let members : (j : ℕ) → k.members (k.prepared e) j ≡ true → Reached k j (k.prepared e) (place + 1) = λ j m. record { promise = known.members (k.prepared e) j before m; low = (let f = known.floor (k.prepared e) j before m in omega arith) } in
        let old : Settled k (k.prepared e) place x.0 = record { within = before; stood = stood; stands = x.1; members = members } in
        let along = stays t (k.prepared e) place x.0 s.within s.stood (omega arith) (λ u. kept t (omega arith) u) old in
        let now = along.settled in
        let same : x.0 ≡ edit = some_same x.0 edit (sym now.stands ∙ s.stands) in
        record {
          same = sym along.same;
          settled = record { within = before; stood = stood; members = members; stands = x.1 ∙ ap Some same };
        }

  search_from : (a n : ℕ) → n ≤ k.current → Undone k a k.view ⊎ ((u : Undone k a k.view) → u.e < n → ⊥)
  search_from a zero l = inr (λ u x. omega arith)
  search_from a (suc n) l = let s : suc n ≡ n + 1 = omega arith in elim (search_from a n (omega arith)) [
    | inl u ↦ inl u
    | inr none ↦ elim (is_prepare (k.how n)) [
      | inr d ↦ inr (λ u x. elim (cases_eq u.e n) [ inl e ↦ d (ap k.how (sym e) ∙ u.is.1) | inr y ↦ none u (omega arith) ])
      | inl prep ↦ elim (cases_Bool (k.kept n)) [
        | inr d ↦ inr (λ u x. elim (cases_eq u.e n) [ inl e ↦ false_true (k.kept n) d (ap k.kept (sym e) ∙ u.is.2) | inr y ↦ none u (omega arith) ])
        | inl kept ↦ elim (is_rollback (k.how (n + 1))) [
          | inr d ↦ inr (λ u x. elim (cases_eq u.e n) [ inl e ↦ d (ap (λ (e : ℕ). k.how (e + 1)) (sym e) ∙ u.how) | inr y ↦ none u (omega arith) ])
          | inl h ↦ elim (cases_lt k.view (start_of (n + 1))) [
            | inl y ↦ inr (λ u x. elim (cases_eq u.e n) [ inl e ↦ (let z = u.accepted in let q = ap (λ (e : ℕ). start_of (e + 1)) e in omega arith) | inr y ↦ none u (omega arith) ])
            | inr v ↦ elim (cases_lt (k.prepared n) a) [
              | inr y ↦ inr (λ u x. elim (cases_eq u.e n) [ inl e ↦ (let z = u.after in let q = ap k.prepared e in omega arith) | inr y ↦ none u (omega arith) ])
              | inl p ↦ elim (cases_lt a (start_of (n + 1))) [
                | inr y ↦ inr (λ u x. elim (cases_eq u.e n) [ inl e ↦ (let z = u.before in let q = ap (λ (e : ℕ). start_of (e + 1)) e in omega arith) | inr y ↦ none u (omega arith) ])
                | inl q ↦ inl (record { e = n; within = omega arith; is = (omega arith, prep, kept); how = h; accepted = v; after = p; before = q })
              ]
            ]
          ]
        ]
      ]
    ]
  ]

  undone_or : (a : ℕ) → Undone k a k.view ⊎ (Undone k a k.view → ⊥)
  undone_or a = elim (search_from a k.current (omega arith)) [ inl u ↦ inl u | inr n ↦ inr (λ u. n u (let w = u.within in omega arith)) ]

  -- a view that a rollback undid is one of the epoch that the prepare began
  pub undone_in : (a t : ℕ) → a ≤ k.view → k.stood a ≡ true → (u : Undone k a t) → epoch_of a ≡ u.e
  undone_in a t l st u =
      let first = known.early (k.prepared u.e) (known.ready u.e u.is) in
      let after = u.after in
      let before = u.before in
      let low : u.e ≤ epoch_of a = ⊎_elim (λ (x : a ≤ k.prepared u.e). absurd (omega arith)) (λ (x : u.e ≤ epoch_of a). x) ((known.links a (omega arith) l st).legit u.e u.is) in
      ⊎_elim (λ (x : u.e < epoch_of a). absurd (let y = start_of-most (u.e + 1) a (omega arith) in omega arith)) (λ (x : epoch_of a ≤ u.e). omega arith) (cases_lt u.e (epoch_of a))

  -- a rollback undid the view, and the place lies past the prepared list
  pub record Lost (a place : ℕ) : Type 0 where
    pub undone : Undone k a k.view
    pub past : length (k.list (k.prepared undone.e)) ≤ place

  -- an edit that was settled under a view stands now, or a rollback undid it
  pub now_or_undone : k.stood k.view ≡ true → (a place : ℕ) (edit : Edit) → Settled k a place edit → Lost a place ⊎ Along k a k.view place edit
  now_or_undone standing a place edit s = elim (undone_or a) [
    | inl u ↦ elim (cases_lt place (length (k.list (k.prepared u.e)))) [
      | inr past ↦ inl (record { undone = u; past = past })
      | inl i ↦
          let p = at_prepare u.e u.within u.is u.how a place edit u.after u.before s i in
          let low : k.prepared u.e < start_of (u.e + 1) = (let x = u.after in let y = u.before in omega arith) in
          let q = stays k.view (k.prepared u.e) place edit (omega arith) standing (known.before u.e u.is) (λ v. kept u.e u.within u.is u.how k.view low v) p.settled in
          inr (record { settled = q.settled; same = q.same ∙ p.same })
    ]
    | inr n ↦ inr (stays k.view a place edit (omega arith) standing s.within n s)
  ]

is_settled : (w : ChunkWorld) → WorldOk w → (t place : ℕ) (edit : Edit) → Settled w.known t place edit → IsSettledIn w t place edit
is_settled w ok t place edit s = record {
  stands = s.stands;
  once = λ other e at client number. one_place w.known ok.known t place other edit e s.stands at client number;
  members = λ j m. let r = s.members j m in let l = r.low in omega arith;
}

none_member : (w : ChunkWorld) → WorldOk w → w.entry.view.members ≡ [] → length (w.known.list w.known.view) ≡ w.known.base w.known.view
none_member w ok none = (ok.known).quiet w.known.view (omega arith) (facts.bare_holder w ok none)

stands_still : (w : ChunkWorld) → WorldOk w → (t place : ℕ) (edit : Edit) → Along w.known t w.known.view place edit → StandsStill w t place edit
stands_still w ok t place edit along =
    let m = ok.entry in let s = along.settled in
    let within = slice_get_within (w.known.list w.known.view) place edit s.stands in
    let count : place + 1 ≤ settled_count w = least_least (λ server. w.known.reached server w.entry.view.stamp) w.entry.view.members w.entry.view.count (place + 1)
    (λ e. let n = none_member w ok e in let c = m.count in omega arith)
    (λ j h. rw m.stamp (let r = s.members j (m.members j ∙ h) in r.low)) in
    record {
      before = rw m.stamp along.same;
      standing = subst (λ t. IsSettledIn w t place edit) (sym m.stamp) (is_settled w ok w.known.view place edit s);
      counted = take_at (w.known.list w.entry.view.stamp) (settled_count w) place edit (omega arith) (rw m.stamp s.stands);
      holds = λ me edits h.
          let v = ok.views me in
          let x = facts.there w ok me edits h in
          let at : (w.members me).promise ≡ w.known.view = h.1 ∙ m.stamp in
          let r = s.members me (m.members me ∙ h.0) in
          let c = v.count edits h.2 in
          ((let low = r.low in let q = ap (w.known.reached me) at in omega arith), rw m.stamp (facts.begins_of (w.known.list w.known.view) edits x.1));
    }

stays_unless : (w : ChunkWorld) → WorldOk w → (t place : ℕ) (edit : Edit) → Settled w.known t place edit → StaysUnlessUndone w t place edit
stays_unless w ok t place edit s standing =
    let m = ok.entry in
    elim (now_or_undone w.known ok.known (subst (λ t. w.known.stood t ≡ true) m.stamp standing) t place edit s) [
      | inl l ↦ let u = l.undone in inl (record {
        e = u.e;
        is = undone_in w.known ok.known t w.known.view s.within s.stood u;
        prepare = m.how u.e ∙ u.is.1;
        known = u.is.2;
        rollback = m.how (u.e + 1) ∙ u.how;
        accepted = (let x = u.accepted in let y = m.stamp in omega arith);
        after = u.after;
        before = u.before;
        past = l.past;
      })
      | inr a ↦ inr (stands_still w ok t place edit a)
    ]

pub acknowledged_stays : (w : ChunkWorld) → WorldOk w → (last : ChunkWorld) → Leads w last → AcknowledgedStays w last
acknowledged_stays w ok last leads server stamp place edit told =
    let s = said w ok server (Done stamp place edit) told in
    (is_settled w ok stamp place edit s, stays_unless last (leads_world w last leads ok) stamp place edit ((leads_later w last leads ok).settled stamp place edit s))

-- what is settled in the settled view
pub settled_here : (w : ChunkWorld) → WorldOk w → w.entry.is_known ≡ true → (place : ℕ) (edit : Edit) → slice_get (settled w) place ≡ Some edit → Settled w.known w.entry.view.stamp place edit
settled_here w ok standing place edit at =
    let m = ok.entry in
    let lt = take_within (w.known.list w.entry.view.stamp) (settled_count w) place edit at in
    record {
      within = (let s = m.stamp in omega arith);
      stood = rw m.stamp ((ok.known).now (sym m.standing ∙ standing));
      stands = take_from (w.known.list w.entry.view.stamp) (settled_count w) place edit at;
      members = λ j h.
          let h' : w.known.members w.known.view j ≡ true = rw m.stamp at h in
          let l = least_most (λ server. w.known.reached server w.entry.view.stamp) w.entry.view.members w.entry.view.count j (sym (m.members j) ∙ h') in
          record { promise = (let p = (ok.known).members w.known.view j (omega arith) h' in let s = m.stamp in omega arith); low = omega arith };
    }

pub settled_stays : (w : ChunkWorld) → WorldOk w → (last : ChunkWorld) → Leads w last → SettledStays w last
settled_stays w ok last leads place edit standing at =
    let s = settled_here w ok standing place edit at in
    (is_settled w ok w.entry.view.stamp place edit s, stays_unless last (leads_world w last leads ok) w.entry.view.stamp place edit ((leads_later w last leads ok).settled w.entry.view.stamp place edit s))

-- what a chunk begins with is settled at its first stamp, which nothing undoes
first_settled : (w : ChunkWorld) → WorldOk w → (origin : List Edit) → w.known.list w.known.born ≡ origin → (n : ℕ) → n < length origin → (x : Edit) × (slice_get origin n ≡ Some x) × Settled w.known w.known.born n x
first_settled w ok origin same n lt =
    let known = ok.known in
    let x = there origin n lt in (
      x.0,
      x.1,
      record {
        within = known.blank.0;
        stood = known.blank.1;
        stands = ap (λ (xs : List Edit). slice_get xs n) same ∙ x.1;
        members = λ j m. absurd (false_true (w.known.members w.known.born j) (known.first j) m);
      },
    )

-- no rollback undoes what a chunk begins with
never_undone : (k : Known) → KnownOk k → (t : ℕ) → Undone k k.born t → ⊥
never_undone k known t u = let b = known.early (k.prepared u.e) (known.ready u.e u.is) in let a = u.after in omega arith

inherits_from : (w : ChunkWorld) → WorldOk w → w.entry.is_known ≡ true → (origin : List Edit) → w.known.list w.known.born ≡ origin → (n : ℕ) → length origin ≡ n → Inherits origin w
inherits_from w ok standing origin same zero len = record {
  list = rw len (sym (nil_list origin len));
  holds = λ me edits h. omega arith;
}
inherits_from w ok standing origin same (suc n) len =
    let m = ok.entry in
    let x = first_settled w ok origin same n (omega arith) in
    let along : Along w.known w.known.born w.known.view n x.0 = ⊎_elim
    (λ (l : Lost w.known ok.known w.known.born n). absurd (never_undone w.known ok.known w.known.view l.undone))
    (λ (a : Along w.known w.known.born w.known.view n x.0). a)
    (now_or_undone w.known ok.known ((ok.known).now (sym m.standing ∙ standing)) w.known.born n x.0 x.2) in
    let s = along.settled in
    let y : length origin ≡ n + 1 = omega arith in
    record {
      list = rw (m.stamp, y) (along.same ∙ ap (take (n + 1)) same ∙ take_all (n + 1) origin (omega arith));
      holds = λ me edits h.
          let at : (w.members me).promise ≡ w.known.view = h.1 ∙ m.stamp in
          let r = s.members me (m.members me ∙ h.0) in
          let c = (ok.views me).count edits h.2 in
          (let low = r.low in let q = ap (w.known.reached me) at in omega arith);
    }

pub known_inherits : (b : Birth) (w : ChunkWorld) → Leads (world_of b) w → KnownInherits b.origin w
known_inherits b w leads standing =
    let first = born_world b.epoch b.how b.origin (facts.rising_of b.origin b.numbered) in
    let later = leads_later (world_of b) w leads first in
    let f = later.fixed (start_of b.epoch) (omega arith) refl in
    inherits_from w (leads_world (world_of b) w leads first) standing b.origin (ap w.known.list later.born ∙ f.1) (length b.origin) refl
