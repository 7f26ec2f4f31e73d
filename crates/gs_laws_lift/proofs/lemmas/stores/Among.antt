-- The blocks of the texts of lists are among some that digests tell apart, where those of replicas are: so digests tell what servers keep from what it stands for.
use Rattle.std.proofs.Common.{◌≡◌, ◌∙◌, ◌⊎◌, ◌++◌, ◌<◌, ◌≤◌, ℕ, Bool, List, [], ◌∷◌, length, take, Option, Some, None, refl, sym, ap, subst, inl, inr, slice_get, arith, length-append}
use Rattle.std.proofs.lemmas.Bool.{cases_lt}
use Rattle.std.proofs.lemmas.List.{take_all, take-append-le}
use Rattle.gs_block.specs.Written.{HasBlocks, TellsApart}
use Rattle.gs_replica.specs.Seals.{Sealed}
use Rattle.gs_replica.specs.Stands.{Edit, SealToldFrom, replica_of}
use Rattle.gs_store.specs.Slots.{Live, Slot, sealed_of}
use Rattle.gs_store.specs.Standing.{LiveToldFrom}
use Rattle.gs_laws_chunk.specs.machine.Machine.{ChunkWorld}
use Rattle.gs_laws_chunk.specs.machine.Laws.{BeginsOne, IsReached}
use Rattle.gs_laws_chunk.proofs.lemmas.machine.Facts.{each_stands, reached_world}
use Rattle.gs_laws_parts.specs.server.Showing.{Setting}
use Rattle.gs_laws_parts.specs.server.Blocks.{GoesOn}
use Rattle.gs_laws_parts.specs.server.Moving.{IsToldApart}
use Rattle.gs_laws_parts.proofs.lemmas.server.Blocks.{blocks_among, told_among}
use Rattle.gs_base.specs.declared.config.Config.{Config}
use Rattle.gs_base.specs.declared.numbers.ReqId.{ReqId}
use Rattle.gs_laws_chunk.specs.machine.Lists.{ListsAreOld}
use Rattle.gs_world.specs.Histories.{History}
use Rattle.gs_server.specs.Runs.{slot_in}
use Rattle.gs_world.specs.Runs.{Step}
use Rattle.gs_laws_lift.specs.stores.Among.{AllAmong, SlotAmong, TextsAmong}
use Rattle.gs_laws_lift.specs.stores.Joint.{AtMaster, AtServer, Elsewhere, GoesBy}
use Rattle.gs_laws_lift.specs.stores.Showing.{AreToldApart, Keeps, setting}
use Rattle.gs_laws_lift.proofs.lemmas.stores.Machines.{old_itself}
use Rattle.gs_laws_lift.proofs.lemmas.stores.Serving.{set_found}
use Rattle.gs_laws_parts.proofs.lemmas.master.Leading.{masters_leave}
use Rattle.gs_server.specs.Servers.{Server}

take_front : (xs ys : List Edit) → take (length xs) (xs ++ ys) ≡ xs
take_front xs ys = take-append-le (length xs) xs ys (omega arith) ∙ take_all (length xs) xs (omega arith)

-- edits that begin a list of a view
begun_among : (among : List ℕ → Bool) (block size : ℕ) (w : ChunkWorld) (edits : List Edit) → TextsAmong among block size w → BeginsOne w edits → HasBlocks block among (replica_of size edits).bytes
begun_among among block size w edits all begins =
    let rest = begins.2 in
    subst (λ es. HasBlocks block among (replica_of size es).bytes) (ap (take (length edits)) rest.1 ∙ take_front edits rest.0) (all begins.0 (length edits))

live_told : (among : List ℕ → Bool) (block size : ℕ) (o : Option Live) (edits : List Edit) → TellsApart among → ((l : Live) → o ≡ Some l → HasBlocks block among l.replica.held.chunk.bytes) → HasBlocks block among (replica_of size edits).bytes → LiveToldFrom block size o edits
live_told among block size None edits apart held text = tt
live_told among block size (Some l) edits apart held text = told_among among block l.replica.held.chunk.bytes (replica_of size edits).bytes apart (held l refl) text

seal_told : (among : List ℕ → Bool) (block size : ℕ) (o : Option Sealed) (edits : List Edit) → TellsApart among → ((t : Sealed) → o ≡ Some t → HasBlocks block among t.undone.bytes) → HasBlocks block among (replica_of size edits).bytes → SealToldFrom block size o edits
seal_told among block size None edits apart held text = tt
seal_told among block size (Some t) edits apart held text = told_among among block t.undone.bytes (replica_of size edits).bytes apart (held t refl) text

-- what a server keeps is told from what it stands for
pub told_apart : (among : List ℕ → Bool) (block size : ℕ) (w : ChunkWorld) (me : ℕ) (s : Slot) → IsReached w → TellsApart among → TextsAmong among block size w → SlotAmong among block s → IsToldApart block size s (w.members me)
told_apart among block size w me s reached apart all held =
    let stands = each_stands w (reached_world w reached) in record {
      live = λ edits is. live_told among block size s.live edits apart held.live (begun_among among block size w edits all (stands.live me edits is));
      image = λ edits is. seal_told among block size (sealed_of s) edits apart held.seal (begun_among among block size w edits all (stands.image me edits is));
    }

-- a list that a replica has made longer
longer_among : (among : List ℕ → Bool) (c : Setting) (s : Slot) (old new : List Edit) (many : ℕ) → SlotAmong among c.block s → ((fewer : ℕ) → HasBlocks c.block among (replica_of c.size (take fewer old)).bytes) → GoesOn c s old new
    → HasBlocks c.block among (replica_of c.size (take many new)).bytes
longer_among among c s old new many held all (inl same) = subst (λ es. HasBlocks c.block among (replica_of c.size (take many es)).bytes) (sym same) (all many)
longer_among among c s old new many held all (inr takes) = by_many (cases_lt (length old) many)
  where
    old_whole : HasBlocks c.block among (replica_of c.size old).bytes
    old_whole = subst (λ es. HasBlocks c.block among (replica_of c.size es).bytes) (take_all (length old) old (omega arith)) (all (length old))

    new_whole : HasBlocks c.block among (replica_of c.size new).bytes
    new_whole = blocks_among among c.block (replica_of c.size new).bytes takes.holds.live.replica.held.chunk.bytes (replica_of c.size old).bytes takes.holds.blocks (held.live takes.holds.live takes.holds.held) old_whole

    by_many : (length old < many) ⊎ (many ≤ length old) → HasBlocks c.block among (replica_of c.size (take many new)).bytes
    by_many (inl more) =
        let long : length new ≤ many = subst (λ (es : List Edit). length es ≤ many) (sym takes.is) (omega (arith, length-append old (takes.edit ∷ []))) in
        subst (λ es. HasBlocks c.block among (replica_of c.size es).bytes) (sym (take_all many new long)) new_whole
    by_many (inr fewer) =
        subst (λ es. HasBlocks c.block among (replica_of c.size es).bytes) (sym (ap (take many) takes.is ∙ take-append-le many old (takes.edit ∷ []) fewer)) (all many)

pub lists_among : (among : List ℕ → Bool) (c : Setting) (s : Slot) (w v : ChunkWorld) → SlotAmong among c.block s → TextsAmong among c.block c.size w → ((t : ℕ) → GoesOn c s (w.known.list t) (v.known.list t)) → TextsAmong among c.block c.size v
lists_among among c s w v held all goes stamp many = longer_among among c s (w.known.list stamp) (v.known.list stamp) many held (all stamp) (goes stamp)

-- lists that begin as others do
pub old_among : (among : List ℕ → Bool) (block size : ℕ) (w v : ChunkWorld) → TextsAmong among block size w → ListsAreOld w v → TextsAmong among block size v
old_among among block size w v all old stamp many =
    let x = old stamp many in subst (λ es. HasBlocks block among (replica_of size es).bytes) (sym x.2) (all x.0 x.1)

-- Behind a step lists are made of old ones, or one server has taken an edit more.
pub lists_by : {D : Type 0} (seen : D → List ℕ) (config : Config) (bytes : ReqId → List ℕ) (born chunk : ℕ) (step : Step) (old new : History D) (w v : ChunkWorld) → GoesBy seen config bytes born chunk step old new w v
    → ListsAreOld w v ⊎ ((id : ℕ) × (s : Server) × (slice_get new.nodes.servers id ≡ Some s) × ((t : ℕ) → GoesOn (setting config bytes born) (slot_in chunk s) (w.known.list t) (v.known.list t)))
lists_by seen config bytes born chunk step old new w v (AtServer x) = inr (
  x.id,
  x.after,
  subst (λ xs. slice_get xs x.id ≡ Some x.after) (sym x.servers) (set_found old.nodes.servers x.id x.server x.after x.found),
  λ t. subst (λ (u : ChunkWorld). GoesOn (setting config bytes born) (slot_in chunk x.after) (w.known.list t) (u.known.list t)) (sym x.world) (x.steps.lists t),
)
lists_by seen config bytes born chunk step old new w v (AtMaster x) = inl (masters_leave w v x.leads x.masters).lists
lists_by seen config bytes born chunk step old new w v (Elsewhere same servers master by messages moment are posted) = inl (subst (λ u. ListsAreOld w u) (sym same) (old_itself w))

pub texts_then : {D : Type 0} (seen : D → List ℕ) (config : Config) (bytes : ReqId → List ℕ) (among : List ℕ → Bool) (born chunk : ℕ) (step : Step) (old new : History D) (w v : ChunkWorld) → GoesBy seen config bytes born chunk step old new w v
    → AllAmong among config.block chunk new.nodes.servers → TextsAmong among config.block config.chunk w → TextsAmong among config.block config.chunk v
texts_then seen config bytes among born chunk step old new w v by held all = elim (lists_by seen config bytes born chunk step old new w v by) [
  | inl same ↦ old_among among config.block config.chunk w v all same
  | inr taken ↦ lists_among among (setting config bytes born) (slot_in chunk taken.1) w v (held taken.0 taken.1 taken.2) all taken.3
]

-- of each server
pub told_there : {D : Type 0} (config : Config) (bytes : ReqId → List ℕ) (among : List ℕ → Bool) (chunk : ℕ) (old : History D) (w : ChunkWorld) → IsReached w → Keeps config bytes old → TellsApart among
    → TextsAmong among config.block config.chunk w → AllAmong among config.block chunk old.nodes.servers → AreToldApart chunk old w
told_there config bytes among chunk old w reached keeps apart all held id s found =
    let k = keeps.servers id s found in
    subst (λ n. IsToldApart n s.chunk (slot_in chunk s) (w.members id)) (sym k.block) (subst (λ n. IsToldApart config.block n (slot_in chunk s) (w.members id)) (sym k.size)
    (told_apart among config.block config.chunk w id (slot_in chunk s) reached apart all (held id s found)))
