-- What a server gives of a chunk is of its member's live edits, in the world of the chunk's machine.
use Rattle.std.proofs.Common.{◌≡◌, ◌∙◌, ℕ, List, Some, ap, subst, slice_get}
use Rattle.std.specs.Prelude.{is_some}
use Rattle.std.specs.List.{AllByRecursion}
use Rattle.gs_laws_chunks.specs.accounts.Accounts.{Account, text_of}
use Rattle.gs_laws_chunks.specs.accounts.Running.{Setup}
use Rattle.gs_base.specs.declared.numbers.Moment.{Moment}
use Rattle.gs_base.specs.declared.numbers.ReqId.{ReqId}
use Rattle.gs_base.specs.declared.numbers.Stamp.{Stamp}
use Rattle.gs_laws_chunk.specs.machine.Machine.{ChunkWorld}
use Rattle.gs_laws_lift.proofs.lemmas.stores.Accounts.{replica_begins}
use Rattle.gs_laws_lift.proofs.lemmas.stores.Serving.{is_shown}
use Rattle.gs_laws_lift.specs.stores.Copying.{copied_from}
use Rattle.gs_laws_lift.specs.stores.Showing.{IsServer}
use Rattle.gs_laws_parts.proofs.lemmas.server.Reading.{fetch_read}
use Rattle.gs_laws_parts.proofs.lemmas.server.Ticks.{one_of_all}
use Rattle.gs_laws_parts.specs.server.Moving.{IsShown}
use Rattle.gs_laws_parts.specs.server.Reading.{GivesOf, IsRead, Reads, ReadsBody}
use Rattle.gs_laws_parts.specs.server.Showing.{Setting, setting_of}
use Rattle.gs_msg.specs.declared.body.Body.TheVariants as bodies
use Rattle.gs_msg.specs.declared.body.Given.{Given}
use Rattle.gs_msg.specs.declared.body.Given.TheVariants as givens
use Rattle.gs_msg.specs.declared.chunk.Asked.{Asked}
use Rattle.gs_msg.specs.declared.chunk.Asked.TheVariants as asks
use Rattle.gs_msg.specs.declared.chunk.Chunk.TheVariants as chunks
use Rattle.gs_msg.specs.declared.message.Message.{Message}
use Rattle.gs_msg.specs.declared.node.NodeId.{NodeId}
use Rattle.gs_world.specs.Histories.{History}
use Rattle.gs_server.specs.Servers.{Server}
use Rattle.gs_server.specs.Servers as servers
use Rattle.gs_laws_chunks.proofs.lemmas.accounts.Standing.{BeginsOwn, begins_own}
use Rattle.gs_laws_chunks.specs.accounts.Joined.{IsSeen}
use Rattle.gs_laws_chunks.specs.accounts.Reading.{GivesBytes, IsOfText, given_of}

-- ---- what was asked for

pub given_so : (c : Setting) (text : List ℕ) (asked : Asked) (given : Given) → GivesOf c text asked given → given ≡ given_of c.block text asked
given_so c text (asks.Bytes offset many) (givens.Bytes part) is = ap givens.Bytes is
given_so c text asks.Length (givens.Length many) is = ap givens.Length is
given_so c text (asks.Digest block) (givens.Digest found) is = ap givens.Digest is
given_so c text (asks.Bytes offset many) (givens.Length found) is = absurd is
given_so c text (asks.Bytes offset many) (givens.Digest found) is = absurd is
given_so c text asks.Length (givens.Bytes part) is = absurd is
given_so c text asks.Length (givens.Digest found) is = absurd is
given_so c text (asks.Digest block) (givens.Bytes part) is = absurd is
given_so c text (asks.Digest block) (givens.Length many) is = absurd is

-- ---- a fetch at a server

module _ {D : Type 0} (x : Setup D) (bytes : ReqId → List ℕ) (chunk : ℕ) (now : History D) (a : Account) (seen : IsSeen x bytes chunk now a) (id : ℕ) (s : Server) (at : slice_get now.nodes.servers id ≡ Some s)
    (from : NodeId) (req : ReqId) (stamp : Stamp) (epoch : ℕ) (asked : Asked) (moment : Moment) (given : Given) (gives : GivesBytes (servers.handle_body s from (bodies.About chunk (chunks.Fetch req stamp epoch asked)) moment).sent req given) where
  abbrev w : ChunkWorld
  w = seen.alive.world

  abbrev c : Setting
  c = setting_of bytes seen.alive.reached.0.epoch s

  shown : IsShown c chunk w s
  shown = is_shown x.seen x.config bytes seen.alive.reached.0.epoch chunk now w seen.alive.reached (record { members = seen.alive.shows.members; sent = seen.alive.shows.sent }) seen.keeps seen.apart id s at

  pub read_of_member : IsRead c w s.me epoch stamp asked given
  read_of_member =
      let sent : List Message = (servers.handle_body s from (bodies.About chunk (chunks.Fetch req stamp epoch asked)) moment).sent in
      let all : AllByRecursion (Reads c w s.me epoch stamp asked) sent = fetch_read bytes seen.alive.reached.0.epoch chunk w s shown from req stamp epoch asked moment in
      subst (ReadsBody c w s.me epoch stamp asked) gives.2 (one_of_all (Reads c w s.me epoch stamp asked) sent gives.0 all gives.1)

  server : IsServer x.config id s
  server = seen.keeps.servers id s at

  -- the member's live edits begin a list
  begins : BeginsOwn a now.sent chunk read_of_member.edits
  begins =
      let live = subst (λ me. (w.members me).live ≡ Some read_of_member.edits) server.me read_of_member.live in
      begins_own x bytes chunk now a read_of_member.edits seen
      (replica_begins a.list (copied_from now.sent chunk) chunk seen.alive.reached.0 w id read_of_member.edits seen.alive.reached.1 seen.agrees.lists ((seen.alive.shows.members id s at).promised (ap is_some live)).0 live)

  pub given_of_text : IsOfText x.config.block x.config.chunk a now.sent chunk asked given
  given_of_text = record {
    source = begins.source;
    stamp = begins.stamp;
    own = begins.own;
    edits = read_of_member.edits;
    behind = begins.behind;
    beginning = begins.beginning;
    gives = given_so c (text_of s.chunk read_of_member.edits) asked given read_of_member.gives ∙ (λ i. given_of (server.block i) (text_of (server.size i) read_of_member.edits) asked);
  }
