-- What servers hold of a chunk.
use Rattle.std.proofs.Common.{◌≡◌, ℕ, ◌≤◌, true, false, length, List, Some, None, refl, sym, ap, subst, ◌∙◌, arith}
use Rattle.std.specs.Prelude.{is_some}
use Rattle.gs_replica.specs.Stands.{Edit, replica_of}
use Rattle.gs_msg.specs.declared.body.Given.{Given}
use Rattle.gs_msg.specs.declared.chunk.Asked.{Asked}
use Rattle.gs_store.specs.Standing.{StandsIn}
use Rattle.gs_store.proofs.Standing.{count_stands}
use Rattle.gs_server.specs.Servers.{Server}
use Rattle.gs_server.specs.Runs.{slot_in}
use Rattle.gs_laws_chunk.specs.machine.Stamps.{stamp_at}
use Rattle.gs_laws_chunk.specs.machine.Machine.{ChunkWorld}
use Rattle.gs_laws_chunk.specs.machine.Events.{Leads}
use Rattle.gs_laws_chunk.specs.machine.Laws.{IsReached, is_member, IsLegalRead}
use Rattle.gs_laws_chunk.proofs.lemmas.machine.Facts.{reached_world, each_stands}
use Rattle.gs_laws_chunk.proofs.lemmas.machine.Worlds.{WorldOk}
use Rattle.gs_laws_chunk.proofs.lemmas.machine.Lasting.{quiet_stays}
use Rattle.gs_laws_chunk.proofs.lemmas.machine.Reading as reading
use Rattle.gs_laws_chunk.proofs.lemmas.machine.Reading.{reached_reads}
use Rattle.gs_laws_parts.specs.server.Showing.{Setting, ShowsMember}
use Rattle.gs_laws_parts.specs.server.Reading.{GivesOf, IsRead}
use Rattle.gs_laws_parts.specs.server.Holding.{HoldsFirst, IsUnder, HoldsAll}
use Rattle.gs_laws_parts.proofs.lemmas.server.Stamps.{stamp_number}
use Rattle.gs_laws_parts.proofs.lemmas.server.Promising.{lives}

-- such a view counts the whole list
quiet_count : (w : ChunkWorld) → WorldOk w → w.entry.view.holder ≡ None → length (w.known.list w.entry.view.stamp) ≡ w.entry.view.count
quiet_count w ok free =
    let m = ok.entry in
    ap (λ t. length (w.known.list t)) m.stamp ∙ (ok.known).quiet w.known.view (let l : w.known.view ≤ w.known.view = omega arith in l) (sym m.holder ∙ free) ∙ sym m.count

module _ (c : Setting) (chunk : ℕ) (w : ChunkWorld) (reached : IsReached w) where
  pub holds_first : (s : Server) → ShowsMember c chunk w s → is_some (slot_in chunk s).live ≡ true → HoldsFirst c chunk w s
  holds_first s shows live =
      let l = lives c (slot_in chunk s) (w.members s.me).live shows.live live in
      let first = (each_stands w (reached_world w reached)).live s.me l.0 l.1 in
      record { stamp = first.0; settled = first.1; edits = l.0; rest = first.2.0; begins = first.2.1; stands = l.2 }

  -- Of a chunk in whose settled view nobody may number: also in any later world, as long as the server is under that view's stamp.
  pub holds_all : (last : ChunkWorld) (s : Server) → Leads w last → w.entry.view.holder ≡ None → is_member w s.me ≡ true → ShowsMember c chunk last s → IsUnder chunk w s → HoldsAll c chunk w s
  holds_all last s leads free member shows under =
      let ok = reached_world w reached in
      let l = lives c (slot_in chunk s) (last.members s.me).live shows.live under.live in
      let promise : (last.members s.me).promise ≡ w.entry.view.stamp = stamp_number (last.members s.me).promise w.entry.view.stamp (sym shows.promise ∙ under.promise) in
      let whole : l.0 ≡ w.known.list w.entry.view.stamp = quiet_stays w ok last leads free s.me l.0 member promise l.1 in
      let stands = subst (StandsIn c.block c.size (slot_in chunk s)) whole l.2 in
      record {
        stands = stands;
        counts = count_stands c.block c.size (slot_in chunk s).live (w.known.list w.entry.view.stamp) stands ∙ ap Some (quiet_count w ok free);
      }

  pub legal_read : (last : ChunkWorld) (me : ℕ) (asked : Asked) (found : Given) → Leads w last → w.entry.is_known ≡ true → w.entry.is_rolling ≡ false → is_member w me ≡ true → IsRead c last me w.entry.epoch (stamp_at w.entry.view.stamp) asked found → (edits : List Edit) × IsLegalRead w last edits × GivesOf c (replica_of c.size edits).bytes asked found
  legal_read last me asked found leads known quiet member read =
      (read.edits, reading.reads_are_legal w (reached_world w reached) (reached_reads w reached) last leads known quiet me read.edits member read.within (read.reached w.entry.view.stamp refl) read.live, read.gives)
