-- What a server refuses an edit, or a fetch, by: never by what the tree refuses by.
use Rattle.std.proofs.Common.{◌≡◌, ◌∙◌, ◌+◌, ℕ, Bool, true, false, cond, List, [], ◌∷◌, None, Option, Some, Result, Ok, Err, length, refl, sym, subst}
use Rattle.std.specs.Prelude.{◌==◌, min, nat_le, nat_lt, slice_index_or}
use Rattle.std.specs.Cmp.{IsTotalOrder, nat_cmp_total, on_total}
use Rattle.std.specs.FinMap as fin
use Rattle.std.specs.List.{AllByRecursion}
use Rattle.std.specs.Ordering.{eq_by_cmp}
use Rattle.gs_base.specs.Stamps.{is_before, is_same}
use Rattle.gs_base.specs.declared.epoch.EpochEnd.{EpochEnd}
use Rattle.gs_base.specs.declared.numbers.ClientId.{ClientId}
use Rattle.gs_base.specs.declared.numbers.Moment.{Moment}
use Rattle.gs_base.specs.declared.numbers.ReqId.{ReqId}
use Rattle.gs_base.specs.declared.numbers.Stamp.{Stamp}
use Rattle.gs_base.specs.declared.refusal.Refusal.{Refusal}
use Rattle.gs_base.specs.declared.refusal.Refusal.TheVariants as refusals
use Rattle.gs_block.specs.Edits as blocks
use Rattle.gs_block.specs.Stored.{Stored, is_intact}
use Rattle.gs_msg.specs.Ops.{in_replica}
use Rattle.gs_msg.specs.declared.body.Body.{Body}
use Rattle.gs_msg.specs.declared.body.Body.TheVariants as bodies
use Rattle.gs_msg.specs.declared.body.Given.{Given}
use Rattle.gs_msg.specs.declared.body.Given.TheVariants as givens
use Rattle.gs_msg.specs.declared.chunk.Asked.{Asked}
use Rattle.gs_msg.specs.declared.chunk.Asked.TheVariants as asks
use Rattle.gs_msg.specs.declared.chunk.Chunk.{Chunk}
use Rattle.gs_msg.specs.declared.chunk.Chunk.TheVariants as chunks
use Rattle.gs_msg.specs.declared.message.Message.{Message}
use Rattle.gs_msg.specs.declared.node.NodeId.{NodeId}
use Rattle.gs_msg.specs.declared.node.NodeId.TheVariants as nodes
use Rattle.gs_msg.specs.declared.op.Op.{Op}
use Rattle.gs_replica.specs.Edits as replica_edits
use Rattle.gs_replica.specs.Held.{Held}
use Rattle.gs_replica.specs.Seals as replicas
use Rattle.gs_replica.specs.Seals.{Sealed, State}
use Rattle.gs_replica.specs.declared.op.Done.{Done}
use Rattle.gs_replica.specs.declared.op.EditOutcome.TheVariants.{Padded}
use Rattle.gs_replica.specs.declared.op.Op.{Op as ReplicaOp}
use Rattle.gs_replica.specs.declared.op.Op.TheVariants as replica_ops
use Rattle.gs_server.specs.Edits.{acknowledges, bytes_of, bytes_or_none, declines, done, edit, forward, is_known_of_all, last_count, new_edit, numbers, numbers_as, numbers_if, numbers_or_passes, opened, refused_edit, refused_once, repeated, takes, takes_if, takes_next, unless_done, unless_holding, unless_kept, unless_next, unless_numbered, unless_over, unless_there}
use Rattle.gs_server.specs.Fetches.{fetch, given, gives, giving, refuses}
use Rattle.gs_server.specs.Places.{Here, Part, Place, damaged_block, or_else, other_epoch, sending, tells_bad}
use Rattle.gs_server.specs.Runs.{Damages, Event, Hears, Loses, Restarts, Ticks, behind, unless_refused}
use Rattle.gs_server.specs.Servers.{Server, client_cmp, handle_body, here_of, in_store, keep_refusal, learn, learned, leases_after, new, place_of, store_of, with_leases, with_store}
use Rattle.gs_server.specs.declared.turn.KeptRefusal.{KeptRefusal}
use Rattle.gs_server_lease.specs.Leases.{PrimaryLease, is_over, tell}
use Rattle.gs_server_lease.specs.Numbering.{is_passed, is_too_long, numbered_op}
use Rattle.gs_server_lease.specs.declared.lease.Open.{Open}
use Rattle.gs_store.specs.Serving.{apply, apply_to, digest_in, done_in, length_in, read_of, unless_reached}
use Rattle.gs_store.specs.Slots.{Live, Slot, bad_block, first_of, unless, unless_live, unless_promised, when, with_live}
use Rattle.gs_store.specs.Stores.{Store}
use Rattle.gs_store.specs.Stores as stores
use Rattle.gs_laws_chunks.specs.answers.OfTree.{KeepsSparing, SparesTree, is_of_tree}

-- ---- refusals that aren't of the tree

abbrev Spares : Refusal → Type 0
Spares refusal = is_of_tree refusal ≡ false

abbrev SparesOr : Option Refusal → Type 0
SparesOr None = Unit {0}
SparesOr (Some refusal) = Spares refusal

abbrev SparesResult : {A : Type 0} → Result A Refusal → Type 0
SparesResult (Ok x) = Unit {0}
SparesResult (Err refusal) = Spares refusal

when_spares : (test : Bool) (refusal : Refusal) → Spares refusal → SparesOr (when test refusal)
when_spares true refusal spares = spares
when_spares false refusal spares = tt

first_spares : (some : List (Option Refusal)) → AllByRecursion SparesOr some → SparesOr (first_of some)
first_spares [] all = tt
first_spares (None ∷ rest) all = first_spares rest all.1
first_spares (Some refusal ∷ rest) all = all.0

unless_spares : {A : Type 0} (o : Option Refusal) (r : Result A Refusal) → SparesOr o → SparesResult r → SparesResult (unless o r)
unless_spares None r refuses spares = spares
unless_spares (Some refusal) r refuses spares = refuses

-- ---- a replica

damaged_spares : {A : Type 0} (o : Option ℕ) (x : A) → SparesResult (blocks.unless_damaged o x)
damaged_spares None x = tt
damaged_spares (Some block) x = refl

either_spares : {A : Type 0} (test : Bool) (x y : Result A Refusal) → SparesResult x → SparesResult y → SparesResult (cond test x y)
either_spares true x y first second = first
either_spares false x y first second = second

edited_spares : (op : ReplicaOp) (bytes : List ℕ) (s : Stored) → SparesResult (replica_edits.edited op bytes s)
edited_spares (replica_ops.Write offset) bytes s =
    either_spares (blocks.is_outside s offset bytes) (Err _) (blocks.changed s _ _ _) refl (damaged_spares (blocks.damaged_between s _ _) (blocks.with_bytes s _ _ _))
edited_spares replica_ops.Append bytes s =
    either_spares (blocks.is_outside s (length s.bytes) bytes) (Err _) (blocks.changed s _ _ _) refl (damaged_spares (blocks.damaged_between s _ _) (blocks.with_bytes s _ _ _))
edited_spares replica_ops.Pad bytes s = either_spares (length s.bytes == s.chunk) (Ok s) (blocks.changed s _ _ _) tt (damaged_spares (blocks.damaged_between s _ _) (blocks.with_bytes s _ _ _))

judged_spares : (stamp : Stamp) (number : ℕ) (req : ReqId) (r : Held) → SparesOr (replica_edits.judged stamp number req r)
judged_spares stamp number req r = by_tests (is_same stamp r.promise) (number == (r.count + 1)) (replica_edits.is_old req.number (fin.get r.done req.client.0))
  where
    by_tests : (same next old : Bool) → SparesOr (cond same (cond next (cond old (Some refusals.Old) None) (Some (refusals.Gap r.count))) (Some (refusals.Stamp r.promise)))
    by_tests false next old = refl
    by_tests true false old = refl
    by_tests true true true = refl
    by_tests true true false = tt

with_edit_spares : (r : Held) (req : ReqId) (op : ReplicaOp) (m : Result Stored Refusal) → SparesResult m → SparesResult (replica_edits.with_edit r req op m)
with_edit_spares r req op (Ok s) spares = tt
with_edit_spares r req op (Err refusal) spares = spares

unless_refused_spares : (o : Option Refusal) (m : Result Held Refusal) → SparesOr o → SparesResult m → SparesResult (replica_edits.unless_refused o m)
unless_refused_spares None m refuses spares = spares
unless_refused_spares (Some refusal) m refuses spares = refuses

with_seal_spares : (sealed : Option Sealed) (m : Result Held Refusal) → SparesResult m → SparesResult (replicas.with_seal sealed m)
with_seal_spares sealed (Ok h) spares = tt
with_seal_spares sealed (Err refusal) spares = spares

with_live_spares : (s : Slot) (bad : Option ℕ) (m : Result State Refusal) → SparesResult m → SparesResult (with_live s bad m)
with_live_spares s bad (Ok r) spares = tt
with_live_spares s bad (Err refusal) spares = spares

module _ (stamp : Stamp) (number : ℕ) (req : ReqId) (op : ReplicaOp) (bytes : List ℕ) where
  held_spares : (r : Held) → SparesResult (replica_edits.apply stamp number req op bytes r)
  held_spares r = unless_refused_spares (replica_edits.judged stamp number req r) (replica_edits.with_edit r req op (replica_edits.edited op bytes r.chunk)) (judged_spares stamp number req r) (with_edit_spares r req op (replica_edits.edited op bytes r.chunk) (edited_spares op bytes r.chunk))

  apply_spares : (s : Slot) (live : Option Live) → SparesResult (apply_to stamp number req op bytes s live)
  apply_spares s None = refl
  apply_spares s (Some l) = with_live_spares s l.bad (replicas.apply stamp number req op bytes l.replica) (with_seal_spares _ (replica_edits.apply stamp number req op bytes l.replica.held) (held_spares l.replica.held))

-- ---- an edit

module _ (h : Here) (p : Place) (req : ReqId) where
  abbrev SparesKept : Option KeptRefusal → Type 0
  SparesKept None = Unit {0}
  SparesKept (Some kept) = Spares kept.refusal

  -- neither what it is met with nor what is kept of it
  abbrev PartSpares : Part → Type 0
  PartSpares part = SparesOr part.said × SparesKept part.kept

  refused_spares : (by : ReqId) (refusal : Refusal) → Spares refusal → PartSpares (refused_edit h p by refusal)
  refused_spares by refusal spares = (spares, spares)

  numbers_spares : (l : PrimaryLease) (count : ℕ) (o : Open) (m : Result Slot Refusal) → SparesResult m → PartSpares (numbers_if h p l count o m)
  numbers_spares l count o (Err refusal) spares = (spares, spares)
  numbers_spares l count o (Ok s) spares = by_last (count == last_count)
    where
      by_last : (b : Bool) → PartSpares (cond b (refused_edit h p o.req refusals.Exhausted) (numbers h s l (count + 1) o))
      by_last true = (refl, refl)
      by_last false = (tt, tt)

  passes_spares : (op : Op) (bytes : List ℕ) (live : Option Live) (lease : Option PrimaryLease) → PartSpares (numbers_or_passes h p req op bytes live lease)
  passes_spares op bytes None lease = (refl, refl)
  passes_spares op bytes (Some live) None = (refl, refl)
  passes_spares op bytes (Some live) (Some l) = by_passed (is_passed h.chunk (length live.replica.held.chunk.bytes) op)
    where
      by_passed : (b : Bool) → PartSpares (cond b (sending (done h req (Ok Padded) ∷ [])) (numbers_as h p live l (opened req (numbered_op h.chunk (length live.replica.held.chunk.bytes) op) bytes live)))
      by_passed true = (tt, tt)
      by_passed false =
          let o : Open = opened req (numbered_op h.chunk (length live.replica.held.chunk.bytes) op) bytes live in
          numbers_spares l live.replica.held.count o (apply l.grant.stamp (live.replica.held.count + 1) o.req (in_replica o.op) o.bytes p.slot)
          (apply_spares l.grant.stamp (live.replica.held.count + 1) o.req (in_replica o.op) o.bytes p.slot p.slot.live)

  live_spares : (live : Option Live) → SparesOr (unless_live live)
  live_spares None = refl
  live_spares (Some l) = tt

  holding_spares : (stamp : Stamp) (o : Option PrimaryLease) → SparesOr (unless_holding stamp p.slot o)
  holding_spares stamp None = refl
  holding_spares stamp (Some l) = when_spares _ (refusals.Stamp p.slot.promise) refl

  over_spares : (o : Option PrimaryLease) → SparesOr (unless_over h.moment o)
  over_spares None = tt
  over_spares (Some l) = when_spares (is_over h.moment l) refusals.LeaseOver refl

  there_spares : (bytes : Option (List ℕ)) → SparesOr (unless_there bytes)
  there_spares None = refl
  there_spares (Some bytes) = tt

  numbered_spares : (stamp : Stamp) (op : Op) → SparesOr (unless_numbered h p stamp op)
  numbered_spares stamp op =
      first_spares (unless_live p.slot.live ∷ unless_holding stamp p.slot p.lease ∷ unless_over h.moment p.lease ∷ unless_there (bytes_of op None h.pushed) ∷ when (is_too_long h.chunk op) refusals.TooLong ∷ [])
      (live_spares p.slot.live, (holding_spares stamp p.lease, (over_spares p.lease, (there_spares (bytes_of op None h.pushed), (when_spares (is_too_long h.chunk op) refusals.TooLong refl, tt)))))

  new_spares : (stamp : Stamp) (op : Op) → PartSpares (new_edit h p req stamp op)
  new_spares stamp op = by_unless (unless_numbered h p stamp op) (numbered_spares stamp op)
    where
      by_unless : (o : Option Refusal) → SparesOr o → PartSpares (or_else o (refused_edit h p req) (numbers_or_passes h p req op (bytes_or_none (bytes_of op None h.pushed)) p.slot.live p.lease))
      by_unless (Some refusal) spares = (spares, spares)
      by_unless None spares = passes_spares op (bytes_or_none (bytes_of op None h.pushed)) p.slot.live p.lease

  kept_spares : (part : Part) → PartSpares part → (o : Option KeptRefusal) → SparesKept o → PartSpares (unless_kept h req o part)
  kept_spares part spares None kept = spares
  kept_spares part spares (Some k) kept = by_number (nat_lt req.number k.number) (req.number == k.number)
    where
      by_number : (lower same : Bool) → PartSpares (cond lower (refused_once h req refusals.Old) (cond same (refused_once h req k.refusal) part))
      by_number true same = (refl, tt)
      by_number false true = (kept, tt)
      by_number false false = spares

  done_spares : (part : Part) → PartSpares part → (o : Option Done) → PartSpares (unless_done h p req o part)
  done_spares part spares None = spares
  done_spares part spares (Some last) = by_number (req.number == last.number) (nat_lt req.number last.number)
    where
      by_known : (b : Bool) → PartSpares (cond b (sending (done h req (Ok last.outcome) ∷ [])) (sending []))
      by_known true = (tt, tt)
      by_known false = (tt, tt)

      by_number : (same lower : Bool) → PartSpares (cond same (repeated h p req last.outcome) (cond lower (refused_once h req refusals.Old) part))
      by_number true lower = by_known (is_known_of_all req p.slot p.lease)
      by_number false true = (refl, tt)
      by_number false false = spares

  edit_spares : (stamp : Stamp) (op : Op) → SparesKept h.refused → PartSpares (edit h p req stamp op)
  edit_spares stamp op kept = done_spares (unless_kept h req h.refused (new_edit h p req stamp op)) (kept_spares (new_edit h p req stamp op) (new_spares stamp op) h.refused kept) (done_in p.slot.live req.client.0)

-- by what a server keeps
found_spares : (s : Server) (moment : Moment) (handle : ℕ) (req : ReqId) → KeepsSparing s → (o : Option KeptRefusal) → fin.get s.kept.refused req.client ≡ o → SparesKept (here_of s moment handle (Some req)) (place_of handle s) req o
found_spares s moment handle req keeps None is = tt
found_spares s moment handle req keeps (Some kept) is = keeps req.client kept is

part_spares : (s : Server) (moment : Moment) (handle : ℕ) (req : ReqId) (stamp : Stamp) (op : Op) → KeepsSparing s → PartSpares (here_of s moment handle (Some req)) (place_of handle s) req (edit (here_of s moment handle (Some req)) (place_of handle s) req stamp op)
part_spares s moment handle req stamp op keeps = edit_spares (here_of s moment handle (Some req)) (place_of handle s) req stamp op (found_spares s moment handle req keeps (fin.get s.kept.refused req.client) refl)

pub edit_said : (s : Server) (moment : Moment) (handle : ℕ) (req : ReqId) (stamp : Stamp) (op : Op) (refusal : Refusal) → KeepsSparing s → (edit (here_of s moment handle (Some req)) (place_of handle s) req stamp op).said ≡ Some refusal → Spares refusal
edit_said s moment handle req stamp op refusal keeps said = subst SparesOr said (part_spares s moment handle req stamp op keeps).0

-- ---- a fetch

module _ (h : Here) (p : Place) (req : ReqId) where
  abbrev AllSpare : List Message → Type 0
  AllSpare messages = AllByRecursion (λ (m : Message). SparesTree m.body) messages

  bad_spares : (o : Option ℕ) → AllSpare (tells_bad h p.slot o)
  bad_spares None = tt
  bad_spares (Some block) = (tt, tt)

  refuses_spares : (refusal : Refusal) → Spares refusal → AllSpare (refuses h p req refusal).sent
  refuses_spares refusal spares = (spares, bad_spares (damaged_block refusal))

  gives_spares : (m : Result Given Refusal) → SparesResult m → AllSpare (gives h p req m).sent
  gives_spares (Ok found) spares = (tt, tt)
  gives_spares (Err refusal) spares = refuses_spares refusal spares

giving_spares : {A : Type 0} (as_given : A → Given) (m : Result A Refusal) → SparesResult m → SparesResult (giving as_given m)
giving_spares as_given (Ok x) spares = tt
giving_spares as_given (Err refusal) spares = spares

bad_block_spares : (o : Option ℕ) → SparesOr (bad_block o)
bad_block_spares None = tt
bad_block_spares (Some block) = refl

blocks_read_spares : (s : Stored) (offset many : ℕ) → SparesResult (blocks.read s offset many)
blocks_read_spares s offset many =
    either_spares (nat_lt s.chunk (offset + many)) (Err _) (cond (nat_lt offset (min (offset + many) (length s.bytes))) (blocks.unless_damaged (blocks.damaged_between s offset (min (offset + many) (length s.bytes))) _) (Ok [])) refl
    (either_spares (nat_lt offset (min (offset + many) (length s.bytes))) (blocks.unless_damaged (blocks.damaged_between s offset (min (offset + many) (length s.bytes))) _) (Ok []) (damaged_spares (blocks.damaged_between s offset (min (offset + many) (length s.bytes))) _) tt)

blocks_digest_spares : (s : Stored) (block : ℕ) → SparesResult (blocks.digest s block)
blocks_digest_spares s block = by_tests (nat_lt block (length s.digests)) (is_intact s.block s.bytes s.digests block) (slice_index_or s.digests block [])
  where
    by_tests : (there intact : Bool) (found : List ℕ) → SparesResult (cond there (cond intact (Ok found) (Err (refusals.Damaged block))) (Err refusals.Range))
    by_tests true true found = tt
    by_tests true false found = refl
    by_tests false intact found = refl

module _ (stamp : Stamp) (s : Slot) where
  reached_spares : SparesOr (unless_reached stamp s)
  reached_spares = when_spares (is_before s.promise stamp) refusals.Old refl

  alive_spares : (live : Option Live) → SparesOr (unless_live live)
  alive_spares None = refl
  alive_spares (Some l) = tt

  read_spares : (offset many : ℕ) (live : Option Live) → SparesResult (read_of stamp offset many s live)
  read_spares offset many None = refl
  read_spares offset many (Some l) =
      unless_spares (first_of (unless_reached stamp s ∷ when (nat_lt l.replica.held.chunk.chunk (offset + many)) refusals.Range ∷ bad_block l.bad ∷ [])) (blocks.read l.replica.held.chunk offset many)
      (first_spares (unless_reached stamp s ∷ when (nat_lt l.replica.held.chunk.chunk (offset + many)) refusals.Range ∷ bad_block l.bad ∷ []) (reached_spares, (when_spares _ refusals.Range refl, (bad_block_spares l.bad, tt))))
      (blocks_read_spares l.replica.held.chunk offset many)

  serves_spares : {A : Type 0} (m : Result A Refusal) → SparesResult m → SparesResult (unless (first_of (unless_live s.live ∷ unless_reached stamp s ∷ [])) m)
  serves_spares m spares = unless_spares (first_of (unless_live s.live ∷ unless_reached stamp s ∷ [])) m (first_spares (unless_live s.live ∷ unless_reached stamp s ∷ []) (alive_spares s.live, (reached_spares, tt))) spares

  digest_spares : (block : ℕ) (live : Option Live) → SparesResult (digest_in block live)
  digest_spares block None = refl
  digest_spares block (Some l) = blocks_digest_spares l.replica.held.chunk block

  given_spares : (asked : Asked) → SparesResult (given stamp asked s)
  given_spares (asks.Bytes offset many) = giving_spares givens.Bytes (read_of stamp offset many s s.live) (read_spares offset many s.live)
  given_spares asks.Length = giving_spares givens.Length (unless (first_of (unless_live s.live ∷ unless_reached stamp s ∷ [])) (Ok (length_in s.live))) (serves_spares (Ok (length_in s.live)) tt)
  given_spares (asks.Digest block) = giving_spares givens.Digest (unless (first_of (unless_live s.live ∷ unless_reached stamp s ∷ [])) (digest_in block s.live)) (serves_spares (digest_in block s.live) (digest_spares block s.live))

pub fetch_spares : (h : Here) (p : Place) (req : ReqId) (stamp : Stamp) (epoch : ℕ) (asked : Asked) → AllByRecursion (λ (m : Message). SparesTree m.body) (fetch h p req stamp epoch asked).sent
fetch_spares h p req stamp epoch asked = by_epoch (other_epoch h epoch) (when_spares _ (refusals.Epoch h.epoch) refl)
  where
    by_epoch : (o : Option Refusal) → SparesOr o → AllByRecursion (λ (m : Message). SparesTree m.body) (or_else o (refuses h p req) (gives h p req (given stamp asked p.slot))).sent
    by_epoch (Some refusal) spares = refuses_spares h p req refusal spares
    by_epoch None spares = gives_spares h p req (given stamp asked p.slot) (given_spares stamp p.slot asked)

-- ---- a forward keeps no refusal

module _ (h : Here) (p : Place) (from : NodeId) (stamp : Stamp) (number : ℕ) (req : ReqId) (op : Op) where
  abbrev KeepsNone : Part → Type 0
  KeepsNone part = part.kept ≡ None

  taken_keeps : (r : Result Slot Refusal) → KeepsNone (takes_if h p from stamp number op r)
  taken_keeps (Ok s) = refl
  taken_keeps (Err refusal) = refl

  next_keeps : (bytes : Option (List ℕ)) (o : Option Refusal) → KeepsNone (or_else o (declines h p from stamp) (takes_if h p from stamp number op (apply stamp number req (in_replica op) (bytes_or_none bytes) p.slot)))
  next_keeps bytes (Some refusal) = refl
  next_keeps bytes None = taken_keeps (apply stamp number req (in_replica op) (bytes_or_none bytes) p.slot)

  takes_keeps : (bytes : Option (List ℕ)) (live : Option Live) → KeepsNone (takes h p from stamp number req op bytes live)
  takes_keeps bytes None = refl
  takes_keeps bytes (Some l) = by_count (nat_le number l.replica.held.count)
    where
      by_count : (b : Bool) → KeepsNone (cond b (acknowledges h from stamp l.replica.held.count) (takes_next h p from stamp number req op bytes l.replica.held.count))
      by_count true = refl
      by_count false = next_keeps bytes (unless_next l.replica.held.count number bytes)

  forward_keeps : (carried : Option (List ℕ)) → KeepsNone (forward h p from stamp number req op carried)
  forward_keeps carried = by_unless (first_of (unless_live p.slot.live ∷ unless_promised stamp p.slot ∷ []))
    where
      by_unless : (o : Option Refusal) → KeepsNone (or_else o (declines h p from stamp) (takes h p from stamp number req op (bytes_of op carried h.pushed) p.slot.live))
      by_unless (Some refusal) = refl
      by_unless None = takes_keeps (bytes_of op carried h.pushed) p.slot.live

-- ---- what is kept

abbrev Refusals : Type 0
Refusals = fin.FinMap client_cmp KeptRefusal

abbrev MapSpares : Refusals → Type 0
MapSpares m = (client : ClientId) (kept : KeptRefusal) → fin.get m client ≡ Some kept → Spares kept.refusal

client_total : IsTotalOrder client_cmp
client_total = on_total (λ (c : ClientId). c.0) nat_cmp_total

put_spares : (m : Refusals) (by : ClientId) (new : KeptRefusal) → Spares new.refusal → MapSpares m → MapSpares (fin.insert m by new)
put_spares m by new spares keeps client kept is = by_key (eq_by_cmp client_cmp client by) (sym (fin.get-insert client_total m by new client) ∙ is)
  where
    some_is : (a b : KeptRefusal) → Some a ≡ Some b → a ≡ b
    some_is a b same = cc

    by_key : (b : Bool) → cond b (Some new) (fin.get m client) ≡ Some kept → Spares kept.refusal
    by_key true same = subst (λ (k : KeptRefusal). Spares k.refusal) (some_is new kept same) spares
    by_key false same = keeps client kept same

kept_on : (h : Here) (p : Place) (req : ReqId) (o : Option KeptRefusal) (m : Refusals) → SparesKept h p req o → MapSpares m → MapSpares (keep_refusal (Some req) o m)
kept_on h p req None m spares keeps = keeps
kept_on h p req (Some kept) m spares keeps = put_spares m req.client kept spares keeps

chunk_keeps : (s : Server) (from : NodeId) (handle : ℕ) (said : Chunk) (moment : Moment) → KeepsSparing s → KeepsSparing (handle_body s from (bodies.About handle said) moment).after
chunk_keeps s from handle (chunks.Edit req stamp op) moment keeps =
    kept_on (here_of s moment handle (Some req)) (place_of handle s) req (edit (here_of s moment handle (Some req)) (place_of handle s) req stamp op).kept s.kept.refused (part_spares s moment handle req stamp op keeps).1 keeps
chunk_keeps s from handle (chunks.Forward stamp number req op bytes) moment keeps =
    subst (λ k. MapSpares (keep_refusal (Some req) k s.kept.refused)) (sym (forward_keeps (here_of s moment handle (Some req)) (place_of handle s) from stamp number req op bytes)) keeps
chunk_keeps s from handle (chunks.Create stamp) moment keeps = keeps
chunk_keeps s from handle (chunks.Advance stamp) moment keeps = keeps
chunk_keeps s from handle (chunks.Grant given) moment keeps = keeps
chunk_keeps s from handle (chunks.Renewed stamp end) moment keeps = keeps
chunk_keeps s from handle (chunks.Ack stamp count) moment keeps = keeps
chunk_keeps s from handle (chunks.Nack stamp refusal) moment keeps = keeps
chunk_keeps s from handle (chunks.Fetch q stamp epoch asked) moment keeps = keeps
chunk_keeps s from handle (chunks.CopyOut stamp target with_sealed) moment keeps = keeps
chunk_keeps s from handle (chunks.CopyIn stamp image sealed) moment keeps = keeps
chunk_keeps s from handle (chunks.Drop epoch promise) moment keeps = keeps
chunk_keeps s from handle (chunks.Promised stamp count carried) moment keeps = keeps
chunk_keeps s from handle (chunks.Unpromised stamp refusal) moment keeps = keeps
chunk_keeps s from handle (chunks.Renew stamp) moment keeps = keeps
chunk_keeps s from handle (chunks.Bad stamp) moment keeps = keeps

learn_same : (s : Server) (epoch : ℕ) (end : EpochEnd) → (learn s epoch end).after.kept.refused ≡ s.kept.refused
learn_same s epoch end = by_case (epoch == s.kept.epoch) (epoch == s.kept.epoch + 1)
  where
    by_case : (a b : Bool) → (cond a (learned s epoch end s) (cond b (learned s epoch end (with_leases (leases_after end s.dropped.leases) (with_store (stores.learned epoch end (store_of s)) s)))
        (record { after = s; sent = tell s.me nodes.Master (bodies.Behind s.kept.epoch) ∷ []; said = Some (refusals.Epoch s.kept.epoch) }))).after.kept.refused ≡ s.kept.refused
    by_case true b = refl
    by_case false true = refl
    by_case false false = refl

body_keeps : (s : Server) (from : NodeId) (body : Body) (moment : Moment) → KeepsSparing s → KeepsSparing (handle_body s from body moment).after
body_keeps s from (bodies.About handle said) moment keeps = chunk_keeps s from handle said moment keeps
body_keeps s from (bodies.Epoch epoch end) moment keeps = subst MapSpares (sym (learn_same s epoch end)) keeps
body_keeps s from (bodies.Push q bytes) moment keeps = keeps
body_keeps s from (bodies.MakeCopy handle at new_handle stamp) moment keeps = keeps
body_keeps s from (bodies.Call q call) moment keeps = keeps
body_keeps s from (bodies.Reply q result) moment keeps = keeps
body_keeps s from (bodies.Done q result) moment keeps = keeps
body_keeps s from (bodies.Bytes q result) moment keeps = keeps
body_keeps s from (bodies.Report epoch replicas) moment keeps = keeps
body_keeps s from (bodies.Learned epoch handles) moment keeps = keeps
body_keeps s from (bodies.Behind epoch) moment keeps = keeps

stored_keeps : (s : Server) (m : Result Store Refusal) → KeepsSparing s → KeepsSparing (unless_refused s (in_store s m))
stored_keeps s (Ok t) keeps = keeps
stored_keeps s (Err refusal) keeps = keeps

pub keeps_on : (e : Event) (s : Server) → KeepsSparing s → KeepsSparing (behind e s)
keeps_on (Hears message moment) s keeps = body_keeps s message.from message.body moment keeps
keeps_on (Ticks moment) s keeps = keeps
keeps_on Restarts s keeps = keeps
keeps_on (Loses handle) s keeps = stored_keeps s (stores.lose handle (store_of s)) keeps
keeps_on (Damages handle block) s keeps = stored_keeps s (stores.damage handle block (store_of s)) keeps

pub new_keeps : (me block chunk : ℕ) → KeepsSparing (new me block chunk)
new_keeps me block chunk client kept is = absurd (never (sym (fin.get-empty client_cmp client) ∙ is))
  where
    never : ◌≡◌ {A = Option KeptRefusal} None (Some kept) → ⊥
    never same = cc
