-- The edits of a client stand in a chunk in the order of its requests' numbers, so an edit overtakes those that were asked for before it.
use Rattle.gs_laws_lift.specs.stores.Left.{left_in}
use Rattle.std.proofs.Common.{◌≡◌, ◌∙◌, ◌⊎◌, ◌+◌, ◌<◌, inl, inr, ℕ, List, [], take, Option, None, Some, refl, sym, ap, subst, arith}
use Rattle.std.specs.Prelude.{slice_get}
use Rattle.std.proofs.lemmas.Bool.{cases_lt}
use Rattle.gs_lease.specs.declared.view.View.{View}
use Rattle.gs_base.specs.declared.numbers.ClientId.{ClientId}
use Rattle.gs_base.specs.declared.numbers.ReqId.{ReqId}
use Rattle.gs_base.specs.declared.numbers.Stamp.{Stamp}
use Rattle.gs_block.specs.Written.{TellsApart}
use Rattle.gs_laws_chunk.proofs.lemmas.machine.Facts.{reached_world}
use Rattle.gs_laws_chunk.proofs.lemmas.machine.Known.{Rising}
use Rattle.gs_laws_chunk.proofs.lemmas.machine.Lists.{some_same, take_at, take_from, take_within}
use Rattle.gs_laws_lift.specs.stores.Showing.{Life}
use Rattle.gs_laws_parts.specs.server.Requests.{Asked, bytes_in}
use Rattle.gs_replica.specs.Stands.{Edit}
use Rattle.gs_world.proofs.Reaching.{HaveSizes}
use Rattle.gs_world.specs.Histories.{History}
use Rattle.gs_laws_chunks.proofs.lemmas.accounts.Asked.{some_at}
use Rattle.gs_laws_chunks.proofs.lemmas.accounts.Edits.{AreNumbered}
use Rattle.gs_laws_chunks.proofs.lemmas.accounts.OnePlace.{edits_have_one_place}
use Rattle.gs_laws_chunks.proofs.lemmas.accounts.Runs.{blank_of, seen_of}
use Rattle.gs_laws_chunks.proofs.lemmas.accounts.SeeingThrough.{each_sees_on_through}
use Rattle.gs_laws_chunks.specs.accounts.Accounts.{Account, settled_count, settled_edits, settled_in, view_at}
use Rattle.gs_laws_chunks.specs.accounts.Joined.{IsSeen}
use Rattle.gs_laws_chunks.specs.accounts.OnePlace.{StandsAt}
use Rattle.gs_laws_chunks.specs.accounts.Overtaking.{EditsOvertake, EditsStandInOrder, SettledOvertake, StandInOrder}
use Rattle.gs_laws_chunks.specs.accounts.Running.{Setup}
use Rattle.gs_laws_chunks.specs.accounts.SeenThrough.{SeesBothThrough}
use Rattle.gs_laws_chunks.specs.accounts.Seeing.{Sees}

nothing_in_order : (edits : List Edit) → edits ≡ [] → StandInOrder edits
nothing_in_order edits none = record { rises = λ i j one other at_one at_other same below. absurd (some_at i one edits none at_one) }

-- as a list of the machine is
as_in : (edits known : List Edit) → edits ≡ known → Rising known → StandInOrder edits
as_in edits known is rising = record {
  rises = λ i j one other at_one at_other same below.
      rising.rises i j one other (subst (λ xs. slice_get xs i ≡ Some one) is at_one) (subst (λ xs. slice_get xs j ≡ Some other) is at_other) (ap (λ (c : ClientId). c.0) same) below;
}

module _ {D : Type 0} (x : Setup D) (asked : ℕ → Asked) (h : History D) (a : Account) (s : Sees x asked h a) (apart : TellsApart x.among) (chunk : ℕ) (stamp : Stamp) where
  seen_in_order : IsSeen x (bytes_in asked) chunk h a → StandInOrder (a.list chunk stamp)
  seen_in_order seen = elim (seen.agrees.others stamp) [
    | inl none ↦ nothing_in_order (a.list chunk stamp) none
    | inr (t, at_t, late, stood, same) ↦ as_in (a.list chunk stamp) (seen.alive.world.known.list t) same ((reached_world seen.alive.world seen.alive.reached).known.lists t)
  ]

  sees_in_order : StandInOrder (a.list chunk stamp)
  sees_in_order = by_life (s.lives.life chunk) refl
    where
      by_life : (life : Life x.seen x.config (bytes_in asked) chunk h) → s.lives.life chunk ≡ life → StandInOrder (a.list chunk stamp)
      by_life (inl unborn) at = nothing_in_order (a.list chunk stamp) ((blank_of x asked h a s chunk unborn at).list stamp)
      by_life (inr l) at = seen_in_order ((seen_of x asked h a s apart chunk l at).0)

-- what stands in front of another
in_front : (edits : List Edit) (req before : ReqId) (place at : ℕ) → StandInOrder edits → StandsAt edits req place → StandsAt edits before at → before.client ≡ req.client → before.number < req.number → at < place
in_front edits req before place at order here there same less = elim (cases_lt at place) [
  | inl below ↦ below
  | inr late ↦ elim (cases_lt place at) [
    | inl behind ↦
        let more = order.rises place at here.edit there.edit here.stands there.stands (ap (λ (r : ReqId). r.client) here.is ∙ sym same ∙ sym (ap (λ (r : ReqId). r.client) there.is)) behind in
        let one : here.edit.req.number ≡ req.number = ap (λ (r : ReqId). r.number) here.is in
        let other : there.edit.req.number ≡ before.number = ap (λ (r : ReqId). r.number) there.is in
        absurd (omega arith)
    | inr below ↦
        let is : at ≡ place = omega arith in
        let one : there.edit ≡ here.edit = some_same there.edit here.edit (sym there.stands ∙ ap (slice_get edits) is ∙ here.stands) in
        let number : before.number ≡ req.number = sym (ap (λ (r : ReqId). r.number) there.is) ∙ ap (λ (e : Edit). e.req.number) one ∙ ap (λ (r : ReqId). r.number) here.is in
        absurd (omega arith)
  ]
]

-- it stands in the other list too, if the beginnings are the same
in_both : (edits others : List Edit) (before : ReqId) (place at : ℕ) → take (place + 1) edits ≡ take (place + 1) others → at < place → StandsAt edits before at → StandsAt others before at
in_both edits others before place at same below there = record {
  edit = there.edit;
  stands = take_from others (place + 1) at there.edit (subst (λ xs. slice_get xs at ≡ Some there.edit) same (take_at edits (place + 1) at there.edit (omega arith) there.stands));
  is = there.is;
}

-- ---- what is settled

-- it is the beginning of a list
settled_as : (a : Account) (chunk : ℕ) → (settled_edits a chunk ≡ []) ⊎ ((stamp : Stamp) × (count : ℕ) × (settled_edits a chunk ≡ take count (a.list chunk stamp)))
settled_as a chunk = by_view (view_at a chunk) refl
  where
    by_view : (o : Option View) → view_at a chunk ≡ o → (settled_edits a chunk ≡ []) ⊎ ((stamp : Stamp) × (count : ℕ) × (settled_edits a chunk ≡ take count (a.list chunk stamp)))
    by_view None none = inl (ap (settled_in a chunk) none)
    by_view (Some view) told = inr (view.stamp, settled_count a chunk view, ap (settled_in a chunk) told)

not_in_nothing : (edits : List Edit) (req : ReqId) (place : ℕ) → edits ≡ [] → StandsAt edits req place → ⊥
not_in_nothing edits req place none stands = some_at place stands.edit edits none stands.stands

in_beginning : (some edits : List Edit) (count : ℕ) (req : ReqId) (place : ℕ) → some ≡ take count edits → StandsAt some req place → (place < count) × StandsAt edits req place
in_beginning some edits count req place is stands =
    let at : slice_get (take count edits) place ≡ Some stands.edit = subst (λ xs. slice_get xs place ≡ Some stands.edit) is stands.stands in
    (take_within edits count place stands.edit at, record { edit = stands.edit; stands = take_from edits count place stands.edit at; is = stands.is })

to_beginning : (some edits : List Edit) (count : ℕ) (req : ReqId) (place : ℕ) → some ≡ take count edits → place < count → StandsAt edits req place → StandsAt some req place
to_beginning some edits count req place is below stands = record {
  edit = stands.edit;
  stands = subst (λ xs. slice_get xs place ≡ Some stands.edit) (sym is) (take_at edits count place stands.edit below stands.stands);
  is = stands.is;
}

module _ (sizes : HaveSizes) (law : AreNumbered) {D : Type 0} (x : Setup D) where
  pub edits_stand_in_order : EditsStandInOrder x
  edits_stand_in_order now a chunk stamp r =
      let sees : SeesBothThrough x now a now a = each_sees_on_through sizes law x now now a a [] r (refl, refl) in
      sees_in_order x sees.asked (left_in now) a sees.first r.apart chunk stamp

  pub edits_overtake : EditsOvertake x
  edits_overtake now later a b steps chunk req before one other place another at r runs was here there is_before same less =
      let sees : SeesBothThrough x now a later b = each_sees_on_through sizes law x now later a b steps r runs in
      let order : StandInOrder (b.list chunk other) = sees_in_order x sees.asked (left_in later) b sees.last r.apart chunk other in
      let is = edits_have_one_place sizes law x now later a b steps chunk req one other place another r runs was here there in
      let low : at < another = in_front (b.list chunk other) req before another at order there is_before same less in
      let below : at < place = subst (λ n. at < n) is.0 low in
      (below, in_both (b.list chunk other) (a.list chunk one) before place at is.1 below is_before)

  pub settled_overtake : SettledOvertake x
  settled_overtake now later a b steps chunk req before place another at r runs was here there is_before same less = elim (settled_as a chunk) [
    | inl none ↦ absurd (not_in_nothing (settled_edits a chunk) req place none here)
    | inr (one, count, is) ↦ elim (settled_as b chunk) [
      | inl nothing ↦ absurd (not_in_nothing (settled_edits b chunk) req another nothing there)
      | inr (other, more, is_more) ↦
          let first = in_beginning (settled_edits a chunk) (a.list chunk one) count req place is here in
          let second = in_beginning (settled_edits b chunk) (b.list chunk other) more req another is_more there in
          let third = in_beginning (settled_edits b chunk) (b.list chunk other) more before at is_more is_before in
          let was_there = edits_overtake now later a b steps chunk req before one other place another at r runs was first.1 second.1 third.1 same less in
          let below : at < count = (let low = was_there.0 in let up = first.0 in omega arith) in
          to_beginning (settled_edits a chunk) (a.list chunk one) count before at is below was_there.1
    ]
  ]
