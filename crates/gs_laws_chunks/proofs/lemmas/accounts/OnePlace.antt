-- An edit that was asked for of a chunk stands at one place of its lists, behind the same edits.
use Rattle.gs_laws_lift.specs.stores.Left.{left_in}
use Rattle.std.proofs.Common.{◌≡◌, ◌∙◌, ◌+◌, ◌≤◌, inl, inr, ℕ, Bool, cond, true, List, take, None, Some, refl, sym, ap, subst, arith}
use Rattle.std.specs.Prelude.{◌==◌, slice_get}
use Rattle.std.proofs.lemmas.Bool.{cases_lt, true≢false}
use Rattle.std.proofs.lemmas.Bool.Decides.{nat_tests}
use Rattle.std.proofs.lemmas.List.{take-append-le}
use Rattle.std.proofs.lemmas.Option.{slice_get_within}
use Rattle.gs_base.specs.declared.numbers.ReqId.{ReqId}
use Rattle.gs_base.specs.declared.numbers.Stamp.{Stamp}
use Rattle.gs_laws_chunk.proofs.lemmas.machine.Facts.{reached_world}
use Rattle.gs_laws_chunk.proofs.lemmas.machine.Known.{KnownOk, Later}
use Rattle.gs_laws_chunk.proofs.lemmas.machine.Lists.{at_front, take_at, take_from}
use Rattle.gs_laws_chunk.proofs.lemmas.machine.Stays.{one_place}
use Rattle.gs_laws_chunk.proofs.lemmas.machine.Worlds.{WorldOk, leads_later, leads_world}
use Rattle.gs_laws_chunk.specs.machine.Machine.{ChunkWorld, Known}
use Rattle.gs_laws_chunk.specs.machine.Stamps.{stamp_at}
use Rattle.gs_laws_lift.proofs.lemmas.stores.Telling.{tells_first}
use Rattle.gs_laws_lift.specs.stores.Going.{AllSent}
use Rattle.gs_laws_lift.specs.stores.Numbered.{StandsFirst, asked_under, stamp_in}
use Rattle.gs_laws_lift.specs.stores.Showing.{IsAlive, Life}
use Rattle.gs_laws_lift.specs.stores.Telling.{EditsStandFirst}
use Rattle.gs_laws_parts.proofs.lemmas.server.Stamps.{stamp_number}
use Rattle.gs_laws_parts.specs.server.Requests.{Asked, IsOfOneEdit, bytes_in}
use Rattle.gs_replica.specs.Stands.{Edit}
use Rattle.gs_world.proofs.Reaching.{HaveSizes}
use Rattle.gs_world.specs.Histories.{History}
use Rattle.gs_world.specs.Sent.{Sent}
use Rattle.gs_laws_chunks.proofs.lemmas.accounts.Asked.{some_at}
use Rattle.gs_laws_chunks.proofs.lemmas.accounts.Edits.{AreNumbered}
use Rattle.gs_laws_chunks.proofs.lemmas.accounts.Runs.{blank_of, seen_next, seen_of}
use Rattle.gs_laws_chunks.proofs.lemmas.accounts.SeeingThrough.{each_sees_on_through}
use Rattle.gs_laws_chunks.specs.accounts.Accounts.{Account}
use Rattle.gs_laws_chunks.specs.accounts.Joined.{IsSeen, SeenOn}
use Rattle.gs_laws_chunks.specs.accounts.OnePlace.{EditsHaveOnePlace, IsAskedOf, StandsAt}
use Rattle.gs_laws_chunks.specs.accounts.Running.{Setup}
use Rattle.gs_laws_chunks.specs.accounts.SeenThrough.{SeesBothThrough}

-- ---- what was asked for

-- of this chunk, under one stamp
pub asked_of : (asked : ℕ → Asked) (sent : Sent) (chunk : ℕ) (req : ReqId) → AllSent (IsOfOneEdit asked) sent → (was : IsAskedOf sent chunk req) → asked_under asked chunk req ≡ Some was.stamp
asked_of asked sent chunk req one was =
    let e = (one (was.was).0 was.message (was.was).1).edits chunk req was.stamp was.op was.says in
    ap (stamp_in chunk) e.2 ∙ same_handle (chunk == chunk) was.stamp (grind (arith, nat_tests))
  where
    same_handle : (b : Bool) (s : Stamp) → b ≡ true → cond b (Some s) None ≡ Some s
    same_handle b s is = rw is refl

-- ---- where it stands in the lists of the machine

-- a view that stood was settled
settled_view : (k : Known) → KnownOk k → (t : ℕ) → k.stood t ≡ true → t ≤ k.view
settled_view k ok t stood = elim (cases_lt k.view t) [
  | inl late ↦ absurd (true≢false (sym stood ∙ (ok.fresh t late).3))
  | inr low ↦ low
]

-- so it stands at the place in the list of the stamp under which it was asked for, behind the same edits
pub record StandsThere (k : Known) (edits : List Edit) (place : ℕ) (edit : Edit) (under : Stamp) : Type 0 where
  pub number : ℕ
  pub is : under ≡ stamp_at number
  pub settled : number ≤ k.view
  pub at : slice_get (k.list number) place ≡ Some edit
  pub same : take (place + 1) (k.list number) ≡ take (place + 1) edits

module _ {D : Type 0} (x : Setup D) (bytes : ReqId → List ℕ) (asked : ℕ → Asked) (chunk : ℕ) (h : History D) (a : Account) (seen : IsSeen x bytes chunk h a) (told : EditsStandFirst x.seen x.config bytes asked seen.alive.world.known chunk) (ok : WorldOk seen.alive.world) where
  abbrev k : Known
  k = seen.alive.world.known

  stands_there : (stamp : Stamp) (place : ℕ) (edit : Edit) (under : Stamp) → slice_get (a.list chunk stamp) place ≡ Some edit → asked_under asked chunk edit.req ≡ Some under → StandsThere k (a.list chunk stamp) place edit under
  stands_there stamp place edit under at of_edit = elim (seen.agrees.others stamp) [
    | inl none ↦ absurd (some_at place edit (a.list chunk stamp) none at)
    | inr (t, at_t, late, stood, same) ↦
        let there : slice_get (k.list t) place ≡ Some edit = subst (λ xs. slice_get xs place ≡ Some edit) same at in
        let f : StandsFirst k t place under = told.first t place edit under there of_edit in
        record {
          number = f.number;
          is = f.is;
          settled = settled_view k ok.known f.number f.stood;
          at = take_from (k.list f.number) (place + 1) place edit (subst (λ xs. slice_get xs place ≡ Some edit) (sym f.same) (take_at (k.list t) (place + 1) place edit (omega arith) there));
          same = f.same ∙ ap (take (place + 1)) (sym same);
        }
  ]

-- ---- in two worlds

module _ {D : Type 0} (x : Setup D) (bytes : ReqId → List ℕ) (asked : ℕ → Asked) (chunk : ℕ) (now later : History D) (a b : Account) (first : IsSeen x bytes chunk now a) (last : IsSeen x bytes chunk later b) (on : SeenOn x bytes chunk now a later b first last)
    (told : EditsStandFirst x.seen x.config bytes asked first.alive.world.known chunk) (told_later : EditsStandFirst x.seen x.config bytes asked last.alive.world.known chunk) (req : ReqId) (under : Stamp) (asks : asked_under asked chunk req ≡ Some under) where
  abbrev w : ChunkWorld
  w = first.alive.world

  abbrev v : ChunkWorld
  v = last.alive.world

  ok : WorldOk w
  ok = reached_world w first.alive.reached

  okv : WorldOk v
  okv = leads_world w v on.leads ok

  on_known : Later w.known v.known
  on_known = leads_later w v on.leads ok

  one_there : (one other : Stamp) (place another : ℕ) → StandsAt (a.list chunk one) req place → StandsAt (b.list chunk other) req another → (another ≡ place) × (take (place + 1) (b.list chunk other) ≡ take (place + 1) (a.list chunk one))
  one_there one other place another here there =
      let p : StandsThere w.known (a.list chunk one) place here.edit under = stands_there x bytes asked chunk now a first told ok one place here.edit under here.stands (ap (asked_under asked chunk) here.is ∙ asks) in
      let q : StandsThere v.known (b.list chunk other) another there.edit under = stands_there x bytes asked chunk later b last told_later okv other another there.edit under there.stands (ap (asked_under asked chunk) there.is ∙ asks) in
      let number : q.number ≡ p.number = stamp_number q.number p.number (sym q.is ∙ p.is) in
      let more = on_known.list p.number p.settled in
      let at_p : slice_get (v.known.list p.number) place ≡ Some here.edit = subst (λ xs. slice_get xs place ≡ Some here.edit) (sym more.1) (at_front (w.known.list p.number) more.0 place here.edit p.at) in
      let at_q : slice_get (v.known.list p.number) another ≡ Some there.edit = subst (λ n. slice_get (v.known.list n) another ≡ Some there.edit) number q.at in
      let place_is : another ≡ place = one_place v.known okv.known p.number place another here.edit there.edit at_p at_q (ap (λ (r : ReqId). r.client.0) (there.is ∙ sym here.is)) (ap (λ (r : ReqId). r.number) (there.is ∙ sym here.is)) in
      let inside = slice_get_within (w.known.list p.number) place here.edit p.at in (
        place_is,
        subst (λ n. take (n + 1) (b.list chunk other) ≡ take (n + 1) (v.known.list q.number)) place_is (sym q.same) ∙ ap (λ n. take (place + 1) (v.known.list n)) number ∙ ap (take (place + 1)) more.1
            ∙ take-append-le (place + 1) (w.known.list p.number) more.0 (omega arith) ∙ p.same,
      )

module _ (sizes : HaveSizes) (law : AreNumbered) {D : Type 0} (x : Setup D) where
  pub edits_have_one_place : EditsHaveOnePlace x
  edits_have_one_place now later a b steps chunk req one other place another r runs was here there = by_life (sees.first.lives.life chunk) refl
    where
      sees : SeesBothThrough x now a later b
      sees = each_sees_on_through sizes law x now later a b steps r runs

      bytes : ReqId → List ℕ
      bytes = bytes_in sees.asked

      by_life : (life : Life x.seen x.config bytes chunk (left_in now)) → sees.first.lives.life chunk ≡ life → (another ≡ place) × (take (place + 1) (b.list chunk other) ≡ take (place + 1) (a.list chunk one))
      by_life (inl unborn) at = absurd (some_at place here.edit (a.list chunk one) ((blank_of x sees.asked (left_in now) a sees.first chunk unborn at).list one) here.stands)
      by_life (inr l) at =
          let first = seen_of x sees.asked (left_in now) a sees.first r.apart chunk l at in
          let there_is : sees.first.lives.life chunk ≡ inr first.0.alive = at ∙ ap (λ (z : IsAlive x.seen x.config bytes chunk (left_in now)). (let life : Life x.seen x.config bytes chunk (left_in now) = inr z in life)) (sym first.1) in
          let next = seen_next x sees.asked (left_in now) (left_in later) a b sees.first sees.last r.apart chunk (sees.on chunk) first.0 there_is in
          let under = asked_of sees.asked later.sent chunk req sees.last.tells.one was in
          one_there x bytes sees.asked chunk (left_in now) (left_in later) a b first.0 next.last next.on
          (tells_first x.seen x.config bytes sees.asked x.among (left_in now) sees.first.lives sees.first.tells chunk first.0.alive there_is)
          (tells_first x.seen x.config bytes sees.asked x.among (left_in later) sees.last.lives sees.last.tells chunk next.last.alive next.lives) req was.stamp under one other place another here there
