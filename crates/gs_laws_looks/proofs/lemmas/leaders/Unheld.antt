-- A chunk's machine within one epoch, as long as nobody may number in any view that is settled.
use Rattle.std.proofs.Common.{◌≡◌, ◌∙◌, ◌+◌, ◌<◌, ◌≤◌, ◌⊎◌, inl, inr, ⊎_elim, ℕ, zero, suc, true, false, List, [], ◌∷◌, length, take, Some, None, refl, sym, ap, subst, arith, length-append}
use Rattle.std.specs.Prelude.{slice_get}
use Rattle.std.proofs.lemmas.Bool.{cases_eq, cases_lt, false≢true, ne_eqb}
use Rattle.gs_base.specs.declared.epoch.EpochEnd.TheVariants.{Rollback}
use Rattle.gs_replica.specs.Stands.{Edit}
use Rattle.gs_laws_chunk.proofs.lemmas.machine.Committed.{masters_stay_calm}
use Rattle.gs_laws_chunk.proofs.lemmas.machine.Exact.{quiet_is_settled}
use Rattle.gs_laws_chunk.proofs.lemmas.machine.Facts.{reached_world}
use Rattle.gs_laws_chunk.proofs.lemmas.machine.Known.{KnownOk, Later, false_from, false_true, unheld_bare}
use Rattle.gs_laws_chunk.proofs.lemmas.machine.Lists.{at_front, some_same}
use Rattle.gs_laws_chunk.proofs.lemmas.machine.Mastering.{masters_settle_once}
use Rattle.gs_laws_chunk.proofs.lemmas.machine.Stamps.{epoch_of-le, epoch_of-start}
use Rattle.gs_laws_chunk.proofs.lemmas.machine.Stays.{known_inherits, settled_stays}
use Rattle.gs_laws_chunk.proofs.lemmas.machine.Viewed.{lists_of_views}
use Rattle.gs_laws_chunk.proofs.lemmas.machine.Worlds.{WorldOk, leads_later, leads_then, leads_world}
use Rattle.gs_laws_chunk.specs.machine.Events.{Leads, Rests}
use Rattle.gs_laws_chunk.specs.machine.Laws.{IsLegalRead, IsReached, StandsStill, WasUndone, settled, world_of}
use Rattle.gs_laws_chunk.specs.machine.Machine.{ChunkWorld, Known}
use Rattle.gs_laws_chunk.specs.machine.Mastering.{AreOfMaster, RestoresList, SettlesList, SettlesOnce}
use Rattle.gs_laws_chunk.specs.machine.Stamps.{epoch_of, start_of}

-- In another world of the same epoch nothing is rolled back, and nobody may number in any view from the settled one of the first on.
pub record StaysUnheld (w v : ChunkWorld) : Type 0 where
  pub leads : Leads w v
  pub epoch : v.entry.epoch ≡ w.entry.epoch
  pub calm : v.entry.is_rolling ≡ false
  pub free : (t : ℕ) → w.known.view ≤ t → t ≤ v.known.view → v.known.holder t ≡ None

-- ---- lists

take_fewer : (n : ℕ) (xs : List Edit) → length (take n xs) ≤ length xs
take_fewer zero xs = omega arith
take_fewer (suc n) [] = omega arith
take_fewer (suc n) (x ∷ xs) = (let rest = take_fewer n xs in omega arith)

-- a list that has all of another at its places, and no more, is the other
just : (xs ys : List Edit) → ((n : ℕ) (e : Edit) → slice_get xs n ≡ Some e → slice_get ys n ≡ Some e) → length ys ≤ length xs → ys ≡ xs
just [] [] each few = refl
just [] (y ∷ ys) each few = absurd (omega arith)
just (x ∷ xs) [] each few = absurd (let first = each zero x refl in cc)
just (x ∷ xs) (y ∷ ys) each few = (let first = some_same y x (each zero x refl) in let rest = just xs ys (λ n e at. each (suc n) e at) (omega arith) in λ i. first i ∷ rest i)

-- ---- one step

-- in a view that was never settled nobody may number
unheld_unless : (k : Known) → KnownOk k → (t : ℕ) → t ≤ k.view → k.stood t ≡ false → k.holder t ≡ None
unheld_unless k known t within none = unheld_bare k known t within (λ j. false_from (k.members t j) (λ member. false_true (k.stood t) none (known.peopled t j within member)))

module _ (w u v : ChunkWorld) (reached : IsReached w) (s : StaysUnheld w u) (leads : Leads u v) where
  oku : WorldOk u
  oku = leads_world w u s.leads (reached_world w reached)

  okv : WorldOk v
  okv = leads_world u v leads oku

  later : Later u.known v.known
  later = leads_later u v leads oku

  -- what was free stays so
  free_still : (t : ℕ) → w.known.view ≤ t → t ≤ u.known.view → v.known.holder t ≡ None
  free_still t low high = later.holder t high ∙ s.free t low high

  -- nothing is settled
  same_view : v.known.view ≡ u.known.view → (t : ℕ) → w.known.view ≤ t → t ≤ v.known.view → v.known.holder t ≡ None
  same_view same t low high = free_still t low (omega arith)

  -- the master does nothing
  pub unheld_still : v.entry ≡ u.entry → StaysUnheld w v
  unheld_still same = record {
    leads = leads_then w u v s.leads leads;
    epoch = ap (λ e. e.epoch) same ∙ s.epoch;
    calm = ap (λ e. e.is_rolling) same ∙ s.calm;
    free = same_view (sym (okv.entry).stamp ∙ ap (λ e. e.view.stamp) same ∙ (oku.entry).stamp);
  }

  -- it does something within the epoch: it settles a view at most, in which nobody may number
  module _ (masters : AreOfMaster u v leads) (reached_u : IsReached u) (epoch : v.entry.epoch ≡ w.entry.epoch) (unled : u.known.view < v.known.view → v.known.holder v.known.view ≡ None) where
    settled_one : SettlesList u v → (t : ℕ) → w.known.view ≤ t → t ≤ v.known.view → v.known.holder t ≡ None
    settled_one k t low high = elim (cases_lt u.known.view t) [
      | inr within ↦ free_still t low within
      | inl above ↦ elim (cases_eq t u.known.top) [
        | inl is ↦ ap v.known.holder (is ∙ sym k.view) ∙ unled (let view = k.view in omega arith)
        | inr other ↦ unheld_unless v.known okv.known t high (k.stood t ∙ rw (ne_eqb t u.known.top other) ((oku.known).fresh t above).3)
      ]
    ]

    restored_none : {X : Type 0} → RestoresList u v → X
    restored_none r =
        let c = r.committed in
        let low = c.since in
        let high = c.within in
        let before = s.epoch in
        absurd (false≢true (sym s.calm ∙ c.was (omega arith)))

    free_then : SettlesOnce u v → (t : ℕ) → w.known.view ≤ t → t ≤ v.known.view → v.known.holder t ≡ None
    free_then (inl k) = same_view k.view
    free_then (inr (inl k)) = settled_one k
    free_then (inr (inr k)) = restored_none k

    pub unheld_then : StaysUnheld w v
    unheld_then = record {
      leads = leads_then w u v s.leads leads;
      epoch = epoch;
      calm = masters_stay_calm u v leads reached_u masters s.calm (epoch ∙ sym s.epoch);
      free = free_then (masters_settle_once u v leads reached_u masters);
    }

-- ---- over many

module _ (w : ChunkWorld) (reached : IsReached w) (known : w.entry.is_known ≡ true) (calm : w.entry.is_rolling ≡ false) (v : ChunkWorld) (s : StaysUnheld w v) where
  ok : WorldOk w
  ok = reached_world w reached

  okl : WorldOk v
  okl = leads_world w v s.leads ok

  behind : Later w.known v.known
  behind = leads_later w v s.leads ok

  free_first : w.known.holder w.known.view ≡ None
  free_first = sym (behind.holder w.known.view (omega arith)) ∙ s.free w.known.view (omega arith) behind.view

  -- no rollback of the epoch, or of one before, gives up the view
  never : (e : ℕ) → e + 1 ≤ v.known.current → v.known.how (e + 1) ≡ Rollback → w.known.view < start_of (e + 1) → ⊥
  never e within how before =
      let same : v.known.current ≡ w.known.current = sym (okl.entry).epoch ∙ s.epoch ∙ (ok.entry).epoch in
      let low : e + 1 ≤ w.known.current = omega arith in
      let done : start_of (e + 1) ≤ w.known.view = (ok.entry).done calm (e + 1) low (sym (behind.how (e + 1) low) ∙ how) in
      omega arith

  abbrev many : ℕ
  many = length (w.known.list w.known.view)

  -- the list of the view is as it was
  same_many : length (v.known.list w.known.view) ≡ many
  same_many = ap (λ (es : List Edit). length es) (behind.fixed w.known.view (omega arith) free_first).1

  origin_few : length reached.0.origin ≤ many
  origin_few =
      let inherits = known_inherits reached.0 w reached.1 known in
      let is = ap (λ (es : List Edit). length es) inherits.list in
      let fewer = take_fewer (length reached.0.origin) (w.known.list w.entry.view.stamp) in
      let at = ap (λ t. length (w.known.list t)) (ok.entry).stamp in
      omega arith

  -- no list has more edits that is of a view from that one on
  fewer : (fuel t : ℕ) → t < fuel → w.known.view ≤ t → t ≤ v.known.view → length (v.known.list t) ≤ many
  fewer zero t less low high = absurd (omega arith)
  fewer (suc fuel) t less low high = elim (cases_eq t w.known.view) [
    | inl is ↦ (let at = ap (λ n. length (v.known.list n)) is in let here = same_many in omega arith)
    | inr other ↦ ⊎_elim
        (λ (x : (v.known.stood t ≡ true) × (v.known.born < t)).
        let link = (okl.known).links t x.1 high x.0 in
        let earlier = link.earlier in
        let within = link.within in
        let all = (okl.known).quiet t high (s.free t low high) in
        let stood : v.known.stood w.known.view ≡ true = behind.stood w.known.view (omega arith) ∙ (ok.known).now (sym (ok.entry).standing ∙ known) in
        let since : w.known.view ≤ v.known.prev t = ⊎_elim
        (λ (below : v.known.prev t < w.known.view). absurd (let undone = (okl.known).between t w.known.view high x.0 stood below (omega arith) in never undone.e undone.within undone.how undone.before))
        (λ (low : w.known.view ≤ v.known.prev t). low)
        (cases_lt (v.known.prev t) w.known.view) in
        let before = fewer fuel (v.known.prev t) (omega arith) since (omega arith) in
        omega arith)
        (λ (x : (v.known.list t ≡ reached.0.origin) ⊎ (v.known.list t ≡ [])). ⊎_elim
        (λ (is : v.known.list t ≡ reached.0.origin). (let at = ap (λ (es : List Edit). length es) is in let few = origin_few in omega arith))
        (λ (is : v.known.list t ≡ []). (let at = ap (λ (es : List Edit). length es) is in omega arith)) x)
        (lists_of_views reached.0 v (leads_then (world_of reached.0) w v reached.1 s.leads) t)
  ]

  pub no_more : (t : ℕ) → w.known.view ≤ t → t ≤ v.known.view → length (v.known.list t) ≤ many
  no_more t low high = fewer (t + 1) t (omega arith) low high

  -- all that there was of the view is settled, then
  pub settled_first : settled w ≡ w.known.list w.entry.view.stamp
  settled_first = quiet_is_settled w ok ((ok.entry).holder ∙ free_first)

  -- and later, at the same places
  pub settled_on : v.known.stood v.entry.view.stamp ≡ true → (place : ℕ) (edit : Edit) → slice_get (settled w) place ≡ Some edit → slice_get (settled v) place ≡ Some edit
  settled_on stood place edit at = ⊎_elim
      (λ (x : WasUndone v w.entry.view.stamp place). absurd (gone x))
      (λ (x : StandsStill v w.entry.view.stamp place edit). x.counted)
      ((settled_stays w ok v s.leads place edit known at).1 stood)
    where
      gone : WasUndone v w.entry.view.stamp place → ⊥
      gone x =
          let accepted = x.accepted in
          let stamp = (okl.entry).stamp in
          let was = (ok.entry).stamp in
          let top = (okl.known).viewtop in
          let epoch = (okl.known).topepoch in
          let low : epoch_of (start_of (x.e + 1)) ≤ epoch_of v.known.top = epoch_of-le (start_of (x.e + 1)) v.known.top (omega arith) in
          let is = epoch_of-start (x.e + 1) in
          let before = x.before in
          never x.e (omega arith) (sym ((okl.entry).how (x.e + 1)) ∙ x.rollback) (omega arith)

-- What a reader is given that was told a view then is all that was settled at the beginning, and no more.
pub reads_stay : (w : ChunkWorld) → IsReached w → w.entry.is_known ≡ true → w.entry.is_rolling ≡ false → (mid last : ChunkWorld) → StaysUnheld w mid → mid.known.stood mid.entry.view.stamp ≡ true → StaysUnheld w last → (edits : List Edit) → IsLegalRead mid last edits → edits ≡ settled w
reads_stay w reached known calm mid last s stood t edits read =
    let oks = reached_world w reached in
    let okm = leads_world w mid s.leads oks in
    let okl = leads_world w last t.leads oks in
    let to_mid = leads_later w mid s.leads oks in
    let view = to_mid.view in
    let low = read.later in
    let high = read.within in
    let at_mid = (okm.entry).stamp in
    let at_last = (okl.entry).stamp in
    let few = no_more w reached known calm last t read.stamp (omega arith) (omega arith) in
    let whole = ap (λ (es : List Edit). length es) read.begins.1 in
    let long = length-append edits read.begins.0 in
    let first = ap (λ (es : List Edit). length es) (settled_first w reached known calm last t) in
    let here = ap (λ n. length (w.known.list n)) (oks.entry).stamp in
    just (settled w) edits
    (λ n e at. subst (λ (es : List Edit). slice_get es n ≡ Some e) (sym read.enough.1) (at_front (settled mid) read.enough.0 n e (settled_on w reached known calm mid s stood n e at)))
    (omega arith)

-- ---- one behind the other

-- nobody may number in the settled view, so it is so from there on
pub unheld_here : (w : ChunkWorld) → w.entry.is_rolling ≡ false → w.known.holder w.known.view ≡ None → StaysUnheld w w
unheld_here w calm free = record { leads = Rests; epoch = refl; calm = calm; free = λ t low high. (let same : t ≡ w.known.view = omega arith in ap w.known.holder same ∙ free) }

pub unheld_on : (w u v : ChunkWorld) → IsReached w → StaysUnheld w u → StaysUnheld u v → StaysUnheld w v
unheld_on w u v reached s t = record {
  leads = leads_then w u v s.leads t.leads;
  epoch = t.epoch ∙ s.epoch;
  calm = t.calm;
  free = free;
}
  where
    later : Later u.known v.known
    later = leads_later u v t.leads (leads_world w u s.leads (reached_world w reached))

    free : (n : ℕ) → w.known.view ≤ n → n ≤ v.known.view → v.known.holder n ≡ None
    free n low high = elim (cases_lt u.known.view n) [
      | inl above ↦ t.free n (omega arith) high
      | inr within ↦ later.holder n within ∙ s.free n low within
    ]

-- from another world that it comes to, too
pub unheld_from : (w u : ChunkWorld) → IsReached w → StaysUnheld w u → StaysUnheld u u
unheld_from w u reached s = unheld_here u s.calm (s.free u.known.view (leads_later w u s.leads (reached_world w reached)).view (omega arith))
