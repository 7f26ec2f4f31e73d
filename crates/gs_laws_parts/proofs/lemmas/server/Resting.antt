-- What a server is taken to rest on is so in every world of the machine.
use Rattle.std.proofs.Common.{ℕ, ◌≤◌, List, Option, sym, ap, ◌∙◌, ◌≡◌, None, subst, arith}
use Rattle.gs_base.specs.declared.numbers.ReqId.{ReqId}
use Rattle.gs_base.specs.declared.numbers.Stamp.{Stamp}
use Rattle.gs_msg.specs.declared.body.Body.TheVariants as bodies
use Rattle.gs_store.specs.Standing.{StandsIn}
use Rattle.gs_replica.specs.Stands.{Edit}
use Rattle.gs_server.specs.Servers.{Server}
use Rattle.gs_server.specs.Runs.{slot_in}
use Rattle.gs_server.specs.Runs as servers
use Rattle.gs_laws_chunk.specs.machine.Stamps.{epoch_of}
use Rattle.gs_laws_chunk.specs.machine.Machine.{ChunkWorld, WasTold, Create, CopyIn}
use Rattle.gs_laws_chunk.specs.machine.Events.{Leads}
use Rattle.gs_laws_chunk.specs.machine.Laws.{Birth, world_of, IsReached}
use Rattle.gs_laws_chunk.proofs.lemmas.machine.Facts.{reached_world}
use Rattle.gs_laws_chunk.proofs.lemmas.machine.Lasting.{quiet_stays, agrees}
use Rattle.gs_laws_chunk.proofs.lemmas.machine.Resting.{leases_rest, epochs_told, born_first}
use Rattle.gs_laws_chunk.proofs.lemmas.machine.Worlds.{leads_later}
use Rattle.gs_laws_parts.specs.server.Answering.{IsLed}
use Rattle.gs_laws_parts.specs.server.Showing.{Setting, setting_of, ShowsMember, BuffersRight}
use Rattle.gs_laws_parts.specs.server.Moving.{IsToldApart, LeadsWhole, EpochsAreKnown, IsShown}
use Rattle.gs_laws_parts.specs.server.Telling.{BringsCopy}
use Rattle.gs_laws_parts.specs.server.Beside.{IsCopyOf}
use Rattle.gs_laws_parts.proofs.lemmas.server.Led.{led_on, led_view}
use Rattle.gs_laws_parts.proofs.lemmas.server.Stamps.{stamp_number}
use Rattle.gs_laws_parts.proofs.lemmas.server.Promising.{lives}

pub leads_whole : (w : ChunkWorld) → IsReached w → (me : ℕ) → LeadsWhole w me
leads_whole w reached me l edits held same live =
    let r = leases_rest w (reached_world w reached) me l held in
    let ok = reached_world w reached in
    let settled = r.settled in
    let stamp = (ok.entry).stamp in
    let within : l.stamp ≤ w.known.view = omega arith in (
      ap w.known.list (sym same) ∙ r.whole edits live,
      subst (λ t. t ≤ w.entry.view.stamp) same settled,
      λ last leads. subst (IsLed last.known) same (led_on w.known last.known (leads_later w last leads ok) l.stamp within (led_view w ok l.stamp me within r.holder)),
    )

pub epochs_known : (w : ChunkWorld) → IsReached w → EpochsAreKnown w
epochs_known w reached to epoch end told = let ok = reached_world w reached in let t = epochs_told w ok to epoch end told in ((let l = t.0 in let e = (agrees w ok).epoch in omega arith), t.1)

module _ (b : Birth) (w : ChunkWorld) (leads : Leads (world_of b) w) where
  pub created_late : (to t : ℕ) → WasTold w to (Create t) → b.epoch ≤ epoch_of t
  created_late to t told = ((born_first b w leads).created to t told).0

  pub brought_late : (to t : ℕ) (edits : List Edit) (image : Option (List Edit)) → WasTold w to (CopyIn t edits image) → b.epoch ≤ epoch_of t
  brought_late to t edits image told = ((born_first b w leads).brought to t edits image told).0

-- so a server is shown to be as the laws ask for where it is shown, and digests tell what it keeps
pub shown_in : (bytes : ReqId → List ℕ) (born chunk : ℕ) (w : ChunkWorld) (s : Server) → IsReached w → servers.IsReached s → ShowsMember (setting_of bytes born s) chunk w s → BuffersRight (setting_of bytes born s) s → IsToldApart s.block s.chunk (slot_in chunk s) (w.members s.me) → IsShown (setting_of bytes born s) chunk w s
shown_in bytes born chunk w s reached begun shows buffers apart = record { reached = begun; shows = shows; buffers = buffers; apart = apart; whole = leads_whole w reached s.me; known = epochs_known w reached }

-- ---- a copy under another handle

-- it brings the new chunk the list for which the old one's replica stands at the server
pub brings_copy : (b : Birth) (w : ChunkWorld) → Leads (world_of b) w → (c old_c : Setting) (chunk handle : ℕ) (s : Server) (at stamp : Stamp) (old now : ChunkWorld) → c.born ≡ b.epoch → old_c.block ≡ c.block → old_c.size ≡ c.size
    → ShowsMember old_c handle now s → IsCopyOf old now at stamp w s.me → BringsCopy c chunk w s (bodies.MakeCopy handle at chunk stamp)
brings_copy b w leads c old_c chunk handle s at stamp old now born block size shows copy same =
    let list = old.known.list old.entry.view.stamp in
    let late : c.born ≤ epoch_of copy.new_stamp = subst (λ n. n ≤ epoch_of copy.new_stamp) (sym born) (brought_late b w leads s.me copy.new_stamp list None copy.told) in (
      copy.new_stamp,
      list,
      copy.stamp_is,
      late,
      copy.told,
      λ promise live.
          let x = lives old_c (slot_in handle s) (now.members s.me).live shows.live live in
          let at_is : (now.members s.me).promise ≡ old.entry.view.stamp = stamp_number (now.members s.me).promise old.entry.view.stamp (sym shows.promise ∙ promise ∙ copy.at_is) in
          let whole : x.0 ≡ list = quiet_stays old (reached_world old copy.reached) now copy.leads copy.quiet s.me x.0 copy.member at_is x.1 in
          subst (λ n. StandsIn n c.size (slot_in handle s) list) block (subst (λ n. StandsIn old_c.block n (slot_in handle s) list) size (subst (StandsIn old_c.block old_c.size (slot_in handle s)) whole x.2)),
    )
