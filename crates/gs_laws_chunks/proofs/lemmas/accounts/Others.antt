-- An edit of another chunk stands in a chunk only where it was copied.
use Rattle.gs_laws_lift.specs.stores.Left.{left_in}
use Rattle.std.proofs.Common.{◌≡◌, ◌∙◌, inl, inr, ℕ, true, [], Option, None, Some, refl, sym, ap, subst}
use Rattle.std.specs.Prelude.{is_some, slice_get}
use Rattle.gs_base.specs.declared.numbers.ReqId.{ReqId}
use Rattle.gs_base.specs.declared.numbers.Stamp.{Stamp}
use Rattle.gs_block.specs.Written.{TellsApart}
use Rattle.gs_laws_chunk.specs.machine.Stamps.{stamp_at}
use Rattle.gs_laws_lift.proofs.lemmas.stores.Telling.{asks_one}
use Rattle.gs_laws_lift.specs.stores.Accounts.{edits_copied}
use Rattle.gs_laws_lift.specs.stores.Copying.{copied_from}
use Rattle.gs_laws_lift.specs.stores.Numbered.{asked_under}
use Rattle.gs_laws_lift.specs.stores.Showing.{IsAlive, Life}
use Rattle.gs_laws_lift.specs.stores.Telling.{NumberedIn, NumbersAsAsked}
use Rattle.gs_laws_parts.specs.server.Requests.{Asked, bytes_in}
use Rattle.gs_replica.specs.Stands.{Edit}
use Rattle.gs_world.proofs.Reaching.{HaveSizes}
use Rattle.gs_world.specs.Histories.{History}
use Rattle.gs_laws_chunks.proofs.lemmas.accounts.Asked.{some_at}
use Rattle.gs_laws_chunks.proofs.lemmas.accounts.Edits.{AreNumbered}
use Rattle.gs_laws_chunks.proofs.lemmas.accounts.OnePlace.{asked_of}
use Rattle.gs_laws_chunks.proofs.lemmas.accounts.Runs.{blank_of, seen_of}
use Rattle.gs_laws_chunks.proofs.lemmas.accounts.SeeingThrough.{each_sees_on_through}
use Rattle.gs_laws_chunks.specs.accounts.Accounts.{Account}
use Rattle.gs_laws_chunks.specs.accounts.Joined.{IsSeen}
use Rattle.gs_laws_chunks.specs.accounts.OnePlace.{IsAskedOf, StandsAt}
use Rattle.gs_laws_chunks.specs.accounts.Others.{OthersWereCopied, WasCopiedAt}
use Rattle.gs_laws_chunks.specs.accounts.Running.{Setup}
use Rattle.gs_laws_chunks.specs.accounts.SeenThrough.{SeesBothThrough}
use Rattle.gs_laws_chunks.specs.accounts.Seeing.{Sees}

module _ {D : Type 0} (x : Setup D) (asked : ℕ → Asked) (h : History D) (a : Account) (s : Sees x asked h a) (apart : TellsApart x.among) (chunk other : ℕ) (req : ReqId) (was : IsAskedOf h.sent other req) (another : other ≡ chunk → ⊥) where
  asks : is_some (asked_under asked other req) ≡ true
  asks = ap is_some (asked_of asked h.sent other req s.tells.one was)

  -- what stands among the edits with which a chunk was born was copied
  in_origin : (seen : IsSeen x (bytes_in asked) chunk h a) (place : ℕ) (edit : Edit) → edit.req ≡ req → slice_get seen.alive.reached.0.origin place ≡ Some edit → WasCopiedAt h a chunk req place
  in_origin seen place edit is at = by_copied (copied_from h.sent chunk) refl
    where
      origin_is : (o : Option (ℕ × Stamp)) → copied_from h.sent chunk ≡ o → seen.alive.reached.0.origin ≡ edits_copied a.list o
      origin_is o copied = sym seen.agrees.lists.origin ∙ ap (edits_copied a.list) copied

      by_copied : (o : Option (ℕ × Stamp)) → copied_from h.sent chunk ≡ o → WasCopiedAt h a chunk req place
      by_copied None none = absurd (some_at place edit seen.alive.reached.0.origin (origin_is None none) at)
      by_copied (Some (source, stamp)) copied = record { source = source; at = stamp; copied = copied; stands = record { edit = edit; stands = subst (λ xs. slice_get xs place ≡ Some edit) (origin_is (Some (source, stamp)) copied) at; is = is } }

  in_list : (seen : IsSeen x (bytes_in asked) chunk h a) → s.lives.life chunk ≡ inr seen.alive → (stamp : Stamp) (place : ℕ) → StandsAt (a.list chunk stamp) req place → WasCopiedAt h a chunk req place
  in_list seen is stamp place stands = elim (seen.agrees.others stamp) [
    | inl none ↦ absurd (some_at place stands.edit (a.list chunk stamp) none stands.stands)
    | inr (t, at_t, late, stood, same) ↦
        let n : NumbersAsAsked x.seen x.config (bytes_in asked) asked chunk h s.lives.life seen.alive = subst (NumberedIn x.seen x.config (bytes_in asked) asked chunk h s.lives.life) is (s.tells.numbered chunk) in
        elim (n.numbered t place stands.edit (subst (λ xs. slice_get xs place ≡ Some stands.edit) same stands.stands)) [
          | inl first ↦ in_origin seen place stands.edit stands.is first
          | inr numbered ↦ absurd (another (asks_one asked chunk other req (stamp_at numbered.stamp) (ap (asked_under asked chunk) (sym stands.is) ∙ numbered.asked) asks))
        ]
  ]

  were_copied : (stamp : Stamp) (place : ℕ) → StandsAt (a.list chunk stamp) req place → WasCopiedAt h a chunk req place
  were_copied stamp place stands = by_life (s.lives.life chunk) refl
    where
      by_life : (life : Life x.seen x.config (bytes_in asked) chunk h) → s.lives.life chunk ≡ life → WasCopiedAt h a chunk req place
      by_life (inl unborn) at = absurd (some_at place stands.edit (a.list chunk stamp) ((blank_of x asked h a s chunk unborn at).list stamp) stands.stands)
      by_life (inr l) at =
          let seen = seen_of x asked h a s apart chunk l at in
          in_list seen.0 (at ∙ ap (λ (z : IsAlive x.seen x.config (bytes_in asked) chunk h). (let life : Life x.seen x.config (bytes_in asked) chunk h = inr z in life)) (sym seen.1)) stamp place stands

module _ (sizes : HaveSizes) (law : AreNumbered) {D : Type 0} (x : Setup D) where
  pub others_were_copied : OthersWereCopied x
  others_were_copied now a chunk other req stamp place r was another stands =
      let sees : SeesBothThrough x now a now a = each_sees_on_through sizes law x now now a a [] r (refl, refl) in
      let copied = were_copied x sees.asked (left_in now) a sees.first r.apart chunk other req (record { message = was.message; stamp = was.stamp; op = was.op; was = was.was; says = was.says }) another stamp place stands in
      record { source = copied.source; at = copied.at; copied = copied.copied; stands = copied.stands }
