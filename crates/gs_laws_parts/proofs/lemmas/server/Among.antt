-- Where each block that a server keeps is among some that digests tell apart, digests tell what it keeps from what that stands for.
use Rattle.std.proofs.Common.{◌≡◌, ℕ, ◌+◌, ◌<◌, ◌≤◌, ⊎_elim, Bool, List, [], ◌∷◌, take, length, Option, Some, None, refl, sym, ap, subst, ◌∙◌, arith, length-append, zero, suc, ◌*◌, true, drop}
use Rattle.std.proofs.lemmas.Bool.{cases_lt}
use Rattle.std.proofs.lemmas.List.{take_all, take-append-le}
use Rattle.gs_base.specs.declared.epoch.EpochEnd.{EpochEnd}
use Rattle.gs_block.specs.Stored.{block_at}
use Rattle.gs_block.specs.Written.{TellsApart, HasBlocks}
use Rattle.gs_replica.specs.Seals.{Sealed}
use Rattle.gs_replica.specs.Stands.{Edit, SealToldFrom, replica_of}
use Rattle.gs_msg.specs.declared.message.Message.{Message}
use Rattle.gs_store.specs.Slots.{Live, Slot, sealed_of}
use Rattle.gs_store.specs.Standing.{LiveToldFrom}
use Rattle.gs_server.specs.Servers.{Server}
use Rattle.gs_server.specs.Runs.{slot_in}
use Rattle.gs_laws_chunk.specs.machine.Machine.{ChunkWorld}
use Rattle.gs_laws_chunk.specs.machine.Events.{born}
use Rattle.gs_laws_chunk.specs.machine.Laws.{IsReached, BeginsOne}
use Rattle.gs_laws_chunk.specs.machine.Lists.{ListsAreOld}
use Rattle.gs_laws_chunk.proofs.lemmas.machine.Facts.{reached_world, each_stands}
use Rattle.gs_laws_parts.specs.server.Showing.{Setting}
use Rattle.gs_laws_parts.specs.server.Blocks.{TakesEdit}
use Rattle.gs_laws_parts.specs.server.Among.{KeepsAmong, ListsAmong}
use Rattle.gs_laws_parts.specs.server.Moving.{IsToldApart, IsSteps}
use Rattle.gs_laws_parts.specs.server.Causes.{Cause}
use Rattle.gs_laws_parts.proofs.lemmas.server.Blocks.{blocks_among, told_among}

module _ (among : List ℕ → Bool) (c : Setting) where
  -- of the first edits of a list
  abbrev FirstAmong : List Edit → ℕ → Type 0
  FirstAmong list many = HasBlocks c.block among (replica_of c.size (take many list)).bytes

  whole_among : (list : List Edit) → ((many : ℕ) → FirstAmong list many) → HasBlocks c.block among (replica_of c.size list).bytes
  whole_among list each = subst (λ xs. HasBlocks c.block among (replica_of c.size xs).bytes) (take_all (length list) list (omega arith)) (each (length list))

  -- of a list with one edit more
  longer_among : (old new : List Edit) (s : Slot) → ((many : ℕ) → FirstAmong old many) → ((l : Live) → s.live ≡ Some l → HasBlocks c.block among l.replica.held.chunk.bytes) → TakesEdit c s old new → (many : ℕ) → FirstAmong new many
  longer_among old new s each keeps takes many =
      let h = takes.holds in
      let all : HasBlocks c.block among (replica_of c.size new).bytes = blocks_among among c.block (replica_of c.size new).bytes h.live.replica.held.chunk.bytes (replica_of c.size old).bytes h.blocks (keeps h.live h.held) (whole_among old each) in
      let long : length new ≡ length old + 1 = ap length takes.is ∙ length-append old (takes.edit ∷ []) in
      ⊎_elim
      (λ (past : length old < many). subst (λ xs. HasBlocks c.block among (replica_of c.size xs).bytes) (sym (take_all many new (omega arith))) all)
      (λ (within : many ≤ length old). subst (λ xs. HasBlocks c.block among (replica_of c.size xs).bytes) (sym (ap (take many) takes.is ∙ take-append-le many old (takes.edit ∷ []) within)) (each many))
      (cases_lt (length old) many)

  pub steps_among : (cause : Cause) (chunk : ℕ) (w : ChunkWorld) (me : ℕ) (about : Option ℕ) (after : Server) (sent : List Message) → (steps : IsSteps cause c chunk w me about after sent) → ListsAmong among c w → KeepsAmong among c.block (slot_in chunk after) → ListsAmong among c steps.world
  steps_among cause chunk w me about after sent steps lists keeps stamp many =
      ⊎_elim
      (λ same. subst (λ xs. FirstAmong xs many) (sym same) (lists stamp many))
      (λ takes. longer_among (w.known.list stamp) (steps.world.known.list stamp) (slot_in chunk after) (lists stamp) keeps.live takes many)
      (steps.lists stamp)

  pub old_among : (w last : ChunkWorld) → ListsAreOld w last → ListsAmong among c w → ListsAmong among c last
  old_among w last old lists stamp many = let o = old stamp many in subst (λ xs. HasBlocks c.block among (replica_of c.size xs).bytes) (sym o.2) (lists o.0 o.1)

  -- what begins a list
  begins_among : (w : ChunkWorld) → ListsAmong among c w → (edits : List Edit) → BeginsOne w edits → HasBlocks c.block among (replica_of c.size edits).bytes
  begins_among w lists edits begins =
      let rest = begins.2 in
      let same : take (length edits) (w.known.list begins.0) ≡ edits = ap (take (length edits)) rest.1 ∙ take-append-le (length edits) edits rest.0 (omega arith) ∙ take_all (length edits) edits (omega arith) in
      subst (λ xs. HasBlocks c.block among (replica_of c.size xs).bytes) same (lists begins.0 (length edits))

  live_told : TellsApart among → (live : Option Live) (edits : List Edit) → ((l : Live) → live ≡ Some l → HasBlocks c.block among l.replica.held.chunk.bytes) → HasBlocks c.block among (replica_of c.size edits).bytes → LiveToldFrom c.block c.size live edits
  live_told tells None edits keeps list = tt
  live_told tells (Some l) edits keeps list = told_among among c.block l.replica.held.chunk.bytes (replica_of c.size edits).bytes tells (keeps l refl) list

  seal_told : TellsApart among → (sealed : Option Sealed) (edits : List Edit) → ((t : Sealed) → sealed ≡ Some t → HasBlocks c.block among t.undone.bytes) → HasBlocks c.block among (replica_of c.size edits).bytes → SealToldFrom c.block c.size sealed edits
  seal_told tells None edits keeps list = tt
  seal_told tells (Some t) edits keeps list = told_among among c.block t.undone.bytes (replica_of c.size edits).bytes tells (keeps t refl) list

  pub apart_among : (w : ChunkWorld) (me : ℕ) (s : Slot) → TellsApart among → IsReached w → ListsAmong among c w → KeepsAmong among c.block s → IsToldApart c.block c.size s (w.members me)
  apart_among w me s tells reached lists keeps =
      let each = each_stands w (reached_world w reached) in record {
        live = λ edits is. live_told tells s.live edits keeps.live (begins_among w lists edits (each.live me edits is));
        image = λ edits is. seal_told tells (sealed_of s) edits keeps.image (begins_among w lists edits (each.image me edits is));
      }

  -- ---- at a birth

  -- a copied chunk has the blocks of the old one's list
  pub copied_among : (epoch : ℕ) (how : ℕ → EpochEnd) (old : ChunkWorld) (stamp : ℕ) → ListsAmong among c old → ListsAmong among c (born epoch how (old.known.list stamp))
  copied_among epoch how old stamp lists other many = lists stamp many

  taken_none : (many : ℕ) → take many (let none : List ℕ = [] in none) ≡ []
  taken_none zero = refl
  taken_none (suc many) = refl

  dropped_none : (many : ℕ) → drop many (let none : List ℕ = [] in none) ≡ []
  dropped_none zero = refl
  dropped_none (suc many) = refl

  empty_block : (start : ℕ) → take c.block (drop start (let none : List ℕ = [] in none)) ≡ []
  empty_block start = ap (take c.block) (dropped_none start) ∙ taken_none c.block

  none_taken : (many : ℕ) → take many (let none : List Edit = [] in none) ≡ []
  none_taken zero = refl
  none_taken (suc many) = refl

  pub new_among : (epoch : ℕ) (how : ℕ → EpochEnd) → among [] ≡ true → ListsAmong among c (born epoch how [])
  unfolding replica_of
  new_among epoch how empty stamp many i = ap among (ap (λ (xs : List Edit). block_at c.block i (replica_of c.size xs).bytes) (none_taken many) ∙ empty_block (i * c.block)) ∙ empty
