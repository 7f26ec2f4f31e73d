-- Each live replica stands for a beginning of a list, in the world of its chunk's machine.
use Rattle.std.proofs.Common.{◌≡◌, ◌∙◌, ◌++◌, ◌⊎◌, append_assoc, inl, inr, ℕ, List, None, Option, Some, refl, sym, ap, subst, length}
use Rattle.std.specs.Prelude.{is_some}
use Rattle.std.proofs.lemmas.Bool.{cases_lt}
use Rattle.gs_base.specs.declared.numbers.ReqId.{ReqId}
use Rattle.gs_laws_chunks.specs.accounts.Accounts.{Account, text_of, view_at}
use Rattle.gs_base.specs.declared.numbers.Stamp.{Stamp}
use Rattle.gs_world.specs.Histories.{History}
use Rattle.gs_world.specs.Sent.{Sent}
use Rattle.gs_lease.specs.declared.view.View.{View}
use Rattle.gs_laws_lift.specs.stores.Copying.{copied_from}
use Rattle.gs_laws_chunks.specs.accounts.Running.{Setup}
use Rattle.gs_block.proofs.Standing.{behind_same, intact_same}
use Rattle.gs_block.specs.Stored.{Stored}
use Rattle.gs_block.specs.Written.{ToldApart, WasWritten}
use Rattle.gs_laws_chunk.specs.machine.Machine.{ChunkWorld}
use Rattle.gs_laws_chunk.specs.machine.Stamps.{stamp_at}
use Rattle.gs_laws_chunks.proofs.lemmas.accounts.Copying.{copied_origin, origin_begins}
use Rattle.gs_laws_chunks.proofs.lemmas.accounts.Viewing.{told_view}
use Rattle.gs_laws_chunks.specs.accounts.Joined.{IsSeen}
use Rattle.gs_laws_lift.proofs.lemmas.stores.Accounts.{replica_begins}
use Rattle.gs_laws_lift.specs.stores.Accounts.{BeginsList}
use Rattle.gs_laws_lift.specs.stores.Showing.{IsServer, setting}
use Rattle.gs_laws_parts.specs.server.Showing.{ShowsLive, ShowsPlace}
use Rattle.gs_replica.specs.Stands.{Edit, IsToldFrom, StandsFor}
use Rattle.gs_server.specs.Places.{Place}
use Rattle.gs_server.specs.Runs.{slot_in}
use Rattle.gs_server.specs.Servers.{place_of}
use Rattle.gs_store.specs.Standing.{LiveStandsFor, LiveToldFrom}
use Rattle.gs_laws_chunks.specs.accounts.Seen.{SeenReplicasStand, UnbornHaveNone}
use Rattle.gs_laws_chunks.specs.accounts.Standing.{HoldsWhereWhole, IsBeginningOf}

-- a block behind the last one is empty in both texts
pub holds_where_whole : (r : Stored) (text : List ℕ) → WasWritten r text → ToldApart r.block r.bytes text → HoldsWhereWhole r text
holds_where_whole r text w told i whole = elim (cases_lt i (length r.digests)) [
  | inl held ↦ intact_same r text i w told held whole
  | inr behind ↦ behind_same r text i w behind
]

-- ---- which list a replica's edits begin

-- edits begin a list of the chunk's own, or of the chunk of which it is a copy, of which no view is settled then
pub record BeginsOwn (a : Account) (sent : Sent) (chunk : ℕ) (edits : List Edit) : Type 0 where
  pub source : ℕ
  pub stamp : Stamp
  pub own : (source ≡ chunk) ⊎ ((copied_from sent chunk ≡ Some (source, stamp)) × (view_at a chunk ≡ None))
  pub behind : List Edit
  pub beginning : a.list source stamp ≡ edits ++ behind

pub begins_own : {D : Type 0} (x : Setup D) (bytes : ReqId → List ℕ) (chunk : ℕ) (now : History D) (a : Account) (edits : List Edit) → IsSeen x bytes chunk now a → BeginsList a.list (copied_from now.sent chunk) chunk edits → BeginsOwn a now.sent chunk edits
begins_own x bytes chunk now a edits seen begins = by_own begins.own
  where
    w : ChunkWorld
    w = seen.alive.world

    -- of the view that is settled, since what was copied begins its list
    by_view : copied_from now.sent chunk ≡ Some (begins.source, begins.stamp) → (o : Option View) → view_at a chunk ≡ o → BeginsOwn a now.sent chunk edits
    by_view copied None none = record { source = begins.source; stamp = begins.stamp; own = inr (copied, none); behind = begins.behind; beginning = begins.beginning }
    by_view copied (Some view) told =
        let v = told_view x bytes chunk now a seen view told in
        let more = origin_begins seen.alive.reached.0 w seen.alive.reached.1 v.stood in
        let origin : seen.alive.reached.0.origin ≡ edits ++ begins.behind = sym (copied_origin x bytes chunk begins.source begins.stamp now a seen copied) ∙ begins.beginning in
        record {
          source = chunk;
          stamp = stamp_at w.entry.view.stamp;
          own = inl refl;
          behind = begins.behind ++ more.0;
          beginning = v.list ∙ more.1 ∙ ap (λ (xs : List Edit). xs ++ more.0) origin ∙ append_assoc edits begins.behind more.0;
        }

    by_own : (begins.source ≡ chunk) ⊎ (copied_from now.sent chunk ≡ Some (begins.source, begins.stamp)) → BeginsOwn a now.sent chunk edits
    by_own (inl same) = record { source = begins.source; stamp = begins.stamp; own = inl same; behind = begins.behind; beginning = begins.beginning }
    by_own (inr copied) = by_view copied (view_at a chunk) refl

-- ---- what it stands for

pub seen_stands : {D : Type 0} (x : Setup D) (bytes : ReqId → List ℕ) → SeenReplicasStand x bytes
seen_stands x bytes now a id chunk s l seen at is = by_live (w.members id).live refl place.live
  where
    w : ChunkWorld
    w = seen.alive.world

    place : ShowsPlace (setting x.config bytes seen.alive.reached.0.epoch) w.known s.kept.epoch (place_of chunk s) (w.members id)
    place = seen.alive.shows.members id s at

    server : IsServer x.config id s
    server = seen.keeps.servers id s at

    by_live : (o : Option (List Edit)) → (w.members id).live ≡ o → ShowsLive (setting x.config bytes seen.alive.reached.0.epoch) (slot_in chunk s) o → IsBeginningOf x.config.chunk chunk a now.sent s l
    by_live None none gone = absurd (cc)
    by_live (Some edits) found there =
        let begins = begins_own x bytes chunk now a edits seen (replica_begins a.list (copied_from now.sent chunk) chunk seen.alive.reached.0 w id edits seen.alive.reached.1 seen.agrees.lists (place.promised (ap is_some found)).0 found) in
        let stands : StandsFor x.config.block x.config.chunk l.replica.held edits = subst (λ o. LiveStandsFor x.config.block x.config.chunk o edits) is there in
        let told : IsToldFrom s.block s.chunk l.replica.held edits = subst (λ o. LiveToldFrom s.block s.chunk o edits) is ((seen.apart id s at).live edits found) in
        record {
          source = begins.source;
          stamp = begins.stamp;
          own = begins.own;
          edits = edits;
          behind = begins.behind;
          beginning = begins.beginning;
          stands = subst (λ b. StandsFor b x.config.chunk l.replica.held edits) (sym server.block) stands;
          whole = holds_where_whole l.replica.held.chunk (text_of x.config.chunk edits) stands.bytes
              (subst (λ b. ToldApart b l.replica.held.chunk.bytes (text_of x.config.chunk edits)) (server.block ∙ sym stands.block) (subst (λ size. IsToldFrom s.block size l.replica.held edits) server.size told));
        }

pub unborn_none : {D : Type 0} (seen : D → List ℕ) → UnbornHaveNone seen
unborn_none seen now id chunk s unborn at = ap (λ (p : Place). p.slot.live) (unborn.servers id s at).0
