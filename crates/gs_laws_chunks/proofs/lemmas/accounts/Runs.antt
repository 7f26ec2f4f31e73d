-- What is seen of one chunk, from what is seen of all of them.
use Rattle.std.proofs.Common.{◌≡◌, ◌∙◌, ℕ, List, Some, true, refl, sym, ap, subst, inl, inr}
use Rattle.std.specs.Prelude.{is_some}
use Rattle.std.proofs.lemmas.Bool.{false≢true}
use Rattle.std.specs.FinMap as fin
use Rattle.gs_base.specs.declared.numbers.ReqId.{ReqId}
use Rattle.gs_base.specs.declared.numbers.Stamp.{Stamp}
use Rattle.gs_laws_chunks.specs.accounts.Accounts.{Account}
use Rattle.gs_laws_chunks.specs.accounts.Running.{Setup}
use Rattle.gs_block.specs.Written.{TellsApart}
use Rattle.gs_laws_master.specs.Promises.{IsKept}
use Rattle.gs_laws_lift.proofs.lemmas.stores.Among.{told_there}
use Rattle.gs_laws_lift.proofs.lemmas.stores.Durable.{durable_shown, has_durable, kept_there}
use Rattle.gs_laws_lift.proofs.lemmas.stores.Copying.{IsToldToCopy, copied_is_told}
use Rattle.gs_laws_lift.specs.stores.Copying.{copied_from}
use Rattle.gs_laws_lift.specs.stores.Doing.{HasDurable}
use Rattle.gs_laws_lift.specs.stores.Living.{CopiesTo, IsCopy, TextsOf}
use Rattle.gs_laws_lift.specs.stores.Showing.{IsAlive, Life}
use Rattle.gs_laws_lift.specs.stores.Unborn.{IsUnborn}
use Rattle.gs_laws_parts.specs.server.Requests.{Asked, bytes_in}
use Rattle.gs_msg.specs.declared.body.Body.{Body}
use Rattle.gs_msg.specs.declared.body.Body.TheVariants as bodies
use Rattle.gs_msg.specs.declared.node.NodeId.{NodeId}
use Rattle.gs_msg.specs.declared.node.NodeId.TheVariants as nodes
use Rattle.gs_world.specs.Histories.{History}
use Rattle.gs_master_spec.specs.Durable.{is_listed}
use Rattle.gs_laws_chunks.proofs.lemmas.accounts.Durables.{told_is_had}
use Rattle.gs_laws_chunks.specs.accounts.Agreeing.{IsBlank}
use Rattle.gs_laws_chunks.specs.accounts.Joined.{IsSeen, SeenOn}
use Rattle.gs_laws_chunks.specs.accounts.Joining.{AgreesAt}
use Rattle.gs_laws_chunks.specs.accounts.Seeing.{IntactAt, Sees, SeesOn}

-- ---- in one world

module _ {D : Type 0} (x : Setup D) (asked : ℕ → Asked) (h : History D) (a : Account) (s : Sees x asked h a) where
  abbrev bytes : ReqId → List ℕ
  bytes = bytes_in asked

  pub has_told : HasDurable x.seen h.nodes.master a.durable
  has_told =
      let d = has_durable x.seen h.nodes.master s.lives.lasts in
      subst (HasDurable x.seen h.nodes.master) (told_is_had x.seen h.nodes.master a.durable d.0 s.lives.lasts s.agrees.told d.1) d.1

  -- what the records tell is such as is kept
  pub keeps_told : IsKept a.durable
  keeps_told = kept_there x.seen h.nodes.master a.durable s.lives.lasts has_told

  -- a chunk that lives is seen
  pub seen_of : TellsApart x.among → (chunk : ℕ) (l : IsAlive x.seen x.config bytes chunk h) → s.lives.life chunk ≡ inr l → (seen : IsSeen x bytes chunk h a) × (seen.alive ≡ l)
  seen_of apart chunk l is = (
    record {
      alive = l;
      agrees = subst (AgreesAt x bytes a chunk h) is (s.agrees.agrees chunk);
      intact = subst (IntactAt x bytes a chunk h) is (s.intact chunk);
      keeps = s.lives.keeps;
      apart = told_there x.config bytes x.among chunk h l.world l.reached s.lives.keeps apart (subst (TextsOf x.seen x.config bytes x.among chunk h) is (s.lives.texts chunk)) (s.lives.held chunk);
      told = durable_shown x.seen chunk l.world h.nodes.master a.durable has_told l.shows.master;
    },
    refl,
  )

  -- of one that isn't born nothing is told
  pub blank_of : (chunk : ℕ) (unborn : IsUnborn x.seen chunk h) → s.lives.life chunk ≡ inl unborn → IsBlank a chunk
  blank_of chunk unborn is = subst (AgreesAt x bytes a chunk h) is (s.agrees.agrees chunk)

  -- so one lives of which a view is told,
  pub living_told : (chunk : ℕ) → is_some (fin.get a.durable.chunks chunk) ≡ true → (l : IsAlive x.seen x.config bytes chunk h) × (s.lives.life chunk ≡ inr l)
  living_told chunk some = by_life (s.lives.life chunk) refl
    where
      by_life : (life : Life x.seen x.config bytes chunk h) → s.lives.life chunk ≡ life → (l : IsAlive x.seen x.config bytes chunk h) × (s.lives.life chunk ≡ inr l)
      by_life (inl unborn) is = absurd (false≢true (sym (ap is_some (blank_of chunk unborn is).none) ∙ some))
      by_life (inr l) is = (l, is)

  -- and one that a file has
  pub living_listed : (chunk : ℕ) → is_listed a.durable chunk ≡ true → (l : IsAlive x.seen x.config bytes chunk h) × (s.lives.life chunk ≡ inr l)
  living_listed chunk listed = living_told chunk (keeps_told.settled chunk listed)

  -- and one that is a copy
  pub living_copied : (chunk source : ℕ) (at : Stamp) → copied_from h.sent chunk ≡ Some (source, at) → (l : IsAlive x.seen x.config bytes chunk h) × (s.lives.life chunk ≡ inr l)
  living_copied chunk source at copied = by_life (s.lives.life chunk) refl
    where
      told : IsToldToCopy h.sent source chunk at
      told = copied_is_told h.sent source chunk at copied

      is_copy : IsCopy x.seen x.config bytes source chunk h (s.lives.life source) (s.lives.life chunk) told.me at told.stamp
      is_copy = subst (λ (to : NodeId). CopiesTo x.seen x.config bytes h s.lives.life to (bodies.MakeCopy source at chunk told.stamp)) told.to
          (subst (λ (body : Body). CopiesTo x.seen x.config bytes h s.lives.life told.message.to body) told.is (s.lives.copies (record { sender = nodes.Master; place = told.there.0 }) told.message told.there.1))

      by_life : (life : Life x.seen x.config bytes chunk h) → s.lives.life chunk ≡ life → (l : IsAlive x.seen x.config bytes chunk h) × (s.lives.life chunk ≡ inr l)
      by_life (inl unborn) is = absurd (subst (λ (life : Life x.seen x.config bytes chunk h). IsCopy x.seen x.config bytes source chunk h (s.lives.life source) life told.me at told.stamp) is is_copy)
      by_life (inr l) is = (l, is)

-- ---- in two worlds

-- a chunk is seen in both, as it lives in the first
pub record BothSeen {D : Type 0} (x : Setup D) (bytes : ReqId → List ℕ) (chunk : ℕ) (now : History D) (a : Account) (later : History D) (b : Account) (l : IsAlive x.seen x.config bytes chunk now) : Type 0 where
  pub first : IsSeen x bytes chunk now a
  pub is_first : first.alive ≡ l
  pub last : IsSeen x bytes chunk later b
  pub on : SeenOn x bytes chunk now a later b first last

module _ {D : Type 0} (x : Setup D) (bytes : ReqId → List ℕ) (chunk : ℕ) (now later : History D) (a b : Account) where
  seen_on : (first : IsSeen x bytes chunk now a) (last : IsSeen x bytes chunk later b) → SeesOn x bytes chunk now a later b (inr first.alive) (inr last.alive) → SeenOn x bytes chunk now a later b first last
  seen_on first last on = record { same = on.0; leads = on.1; lists = on.2 }

-- and in the second, as it lives there
pub record NextSeen {D : Type 0} (x : Setup D) (bytes : ReqId → List ℕ) (chunk : ℕ) (now : History D) (a : Account) (later : History D) (b : Account) (first : IsSeen x bytes chunk now a) (life : Life x.seen x.config bytes chunk later) : Type 0 where
  pub last : IsSeen x bytes chunk later b
  pub lives : life ≡ inr last.alive
  pub on : SeenOn x bytes chunk now a later b first last

module _ {D : Type 0} (x : Setup D) (asked : ℕ → Asked) (now later : History D) (a b : Account) (s : Sees x asked now a) (t : Sees x asked later b) (apart : TellsApart x.among) (chunk : ℕ) (on : SeesOn x (bytes_in asked) chunk now a later b (s.lives.life chunk) (t.lives.life chunk)) where
  pub seen_next : (first : IsSeen x (bytes_in asked) chunk now a) → s.lives.life chunk ≡ inr first.alive → NextSeen x (bytes_in asked) chunk now a later b first (t.lives.life chunk)
  seen_next first is = by_last (t.lives.life chunk) refl (subst (λ life. SeesOn x (bytes_in asked) chunk now a later b life (t.lives.life chunk)) is on)
    where
      by_last : (life : Life x.seen x.config (bytes_in asked) chunk later) → t.lives.life chunk ≡ life → SeesOn x (bytes_in asked) chunk now a later b (inr first.alive) (t.lives.life chunk) → NextSeen x (bytes_in asked) chunk now a later b first (t.lives.life chunk)
      by_last (inl unborn) at on = absurd (subst (SeesOn x (bytes_in asked) chunk now a later b (inr first.alive)) at on)
      by_last (inr m) at on =
          let last = seen_of x asked later b t apart chunk m at in
          let there : t.lives.life chunk ≡ inr last.0.alive = at ∙ ap (λ (z : IsAlive x.seen x.config (bytes_in asked) chunk later). (let life : Life x.seen x.config (bytes_in asked) chunk later = inr z in life)) (sym last.1) in
          record { last = last.0; lives = there; on = seen_on x (bytes_in asked) chunk now later a b first last.0 (subst (SeesOn x (bytes_in asked) chunk now a later b (inr first.alive)) there on) }

  pub both_seen : (l : IsAlive x.seen x.config (bytes_in asked) chunk now) → s.lives.life chunk ≡ inr l → BothSeen x (bytes_in asked) chunk now a later b l
  both_seen l is =
      let first = seen_of x asked now a s apart chunk l is in
      let next = seen_next first.0 (is ∙ ap (λ (z : IsAlive x.seen x.config (bytes_in asked) chunk now). (let life : Life x.seen x.config (bytes_in asked) chunk now = inr z in life)) (sym first.1)) in
      record { first = first.0; is_first = first.1; last = next.last; on = next.on }
