-- What a client reads is of the member's live edits; and what answers edits stays so.
use Rattle.std.proofs.Common.{◌≡◌, ℕ, ◌≤◌, ◌⊎◌, inl, inr, ⊎_elim, true, false, List, [], ◌∷◌, ◌++◌, length, Option, Some, None, refl, sym, ap, subst, ◌∙◌, append_assoc, arith}
use Rattle.std.specs.Prelude.{Result, Ok, Err, is_some, nat_lt, ◌+◌}
use Rattle.std.specs.List.{AllByRecursion}
use Rattle.gs_base.specs.declared.numbers.Moment.{Moment}
use Rattle.gs_base.specs.declared.numbers.ReqId.{ReqId}
use Rattle.gs_base.specs.declared.numbers.Stamp.{Stamp}
use Rattle.gs_msg.specs.declared.op.Op.{Op}
use Rattle.gs_base.specs.declared.refusal.Refusal.{Refusal}
use Rattle.gs_base.specs.declared.refusal.Refusal.TheVariants as refusals
use Rattle.gs_base.specs.Stamps.{is_before}
use Rattle.gs_block.specs.Edits as blocks
use Rattle.gs_replica.specs.Stands.{Edit, replica_of}
use Rattle.gs_replica.specs.declared.op.EditOutcome.{EditOutcome as Answer}
use Rattle.gs_msg.specs.declared.node.NodeId.{NodeId}
use Rattle.gs_msg.specs.declared.body.Given.{Given}
use Rattle.gs_msg.specs.declared.body.Given.TheVariants as givens
use Rattle.gs_msg.specs.declared.chunk.Asked.{Asked}
use Rattle.gs_msg.specs.declared.chunk.Asked.TheVariants as asks
use Rattle.gs_msg.specs.declared.chunk.Chunk.TheVariants as chunks
use Rattle.gs_store.specs.Slots.{Live, Slot, first_of, when, unless_live, bad_block}
use Rattle.gs_store.specs.Serving.{unless_reached, read_of, read, text_length, digest, length_in, digest_in}
use Rattle.gs_store.proofs.Standing.{read_stands, length_stands, digest_stands}
use Rattle.gs_server.specs.Places.{Here, damaged_block, tells_bad, or_else, other_epoch}
use Rattle.gs_store.specs.Standing.{StandsIn}
use Rattle.gs_server.specs.Fetches.{giving, given, gives, refuses}
use Rattle.gs_server.specs.Servers.{Server, place_of, here_of, handle_chunk}
use Rattle.gs_server.specs.Runs.{slot_in}
use Rattle.gs_server.proofs.Walks.{of_epoch}
use Rattle.gs_laws_chunk.specs.machine.Stamps.{stamp_at}
use Rattle.gs_laws_chunk.specs.machine.Machine.{ChunkWorld, WasTold, Done}
use Rattle.gs_laws_chunk.specs.machine.Events.{Leads}
use Rattle.gs_laws_chunk.specs.machine.Laws.{IsReached, IsSettledIn, StaysUnlessUndone}
use Rattle.gs_laws_chunk.proofs.lemmas.machine.Worlds.{leads_later, said}
use Rattle.gs_laws_chunk.proofs.lemmas.machine.Facts.{reached_world}
use Rattle.gs_laws_chunk.proofs.lemmas.machine.Lasting.{stays_known}
use Rattle.gs_laws_chunk.proofs.lemmas.machine.Stays.{acknowledged_stays}
use Rattle.gs_laws_parts.specs.server.Showing.{Setting, setting_of}
use Rattle.gs_laws_parts.specs.server.Answering.{IsAnswered, IsPassed}
use Rattle.gs_laws_parts.specs.server.Reading.{GivesOf, IsRead, Reads}
use Rattle.gs_laws_parts.specs.server.Moving.{IsShown}
use Rattle.gs_laws_parts.proofs.lemmas.server.Led.{led_on}
use Rattle.gs_laws_parts.proofs.lemmas.server.Stamps.{not_before}
use Rattle.gs_laws_parts.proofs.lemmas.server.Tests.{head_none, tail_none, not_met, live_there, unless_none}
use Rattle.gs_laws_parts.proofs.lemmas.server.Promising.{lives}
use Rattle.gs_laws_parts.proofs.lemmas.server.Leasing.{shown_late}

-- ---- reads

module _ (bytes : ReqId → List ℕ) (chunk_born chunk : ℕ) (w : ChunkWorld) (s : Server) (x : IsShown (setting_of bytes chunk_born s) chunk w s) where
  abbrev c : Setting
  c = setting_of bytes chunk_born s

  abbrev slot : Slot
  slot = slot_in chunk s

  -- of a live replica under a promise that is reached
  is_read : (stamp : Stamp) (epoch : ℕ) (asked : Asked) (found : Given) → epoch ≡ s.kept.epoch → is_some slot.live ≡ true → unless_reached stamp slot ≡ None → ((xs : List Edit) → (w.members s.me).live ≡ Some xs → StandsIn s.block s.chunk slot xs → GivesOf c (replica_of s.chunk xs).bytes asked found) → IsRead c w s.me epoch stamp asked found
  is_read stamp epoch asked found here live reached gives =
      let l = lives c slot (w.members s.me).live x.shows.live live in
      let before : is_before slot.promise stamp ≡ false = not_met (is_before slot.promise stamp) refusals.Old reached in record {
        edits = l.0;
        live = l.1;
        within = x.shows.epoch_is (shown_late c w.known s.kept.epoch (place_of chunk s) (w.members s.me) x.shows live) ∙ sym here;
        reached = λ t is. not_before (w.members s.me).promise t (subst (λ p. is_before p (stamp_at t) ≡ false) x.shows.promise (subst (λ q. is_before slot.promise q ≡ false) is before));
        gives = gives l.0 l.1 l.2;
      }

  read_live : (stamp : Stamp) (offset many : ℕ) (part : List ℕ) (live : Option Live) → read_of stamp offset many slot live ≡ Ok part → (is_some live ≡ true) × (unless_reached stamp slot ≡ None)
  read_live stamp offset many part None is = absurd (cc)
  read_live stamp offset many part (Some l) is =
      let rest = when (nat_lt l.replica.held.chunk.chunk (offset + many)) refusals.Range ∷ bad_block l.bad ∷ [] in
      (refl, head_none (unless_reached stamp slot) rest (unless_none (first_of (unless_reached stamp slot ∷ rest)) (blocks.read l.replica.held.chunk offset many) part is))

  both_tests : (stamp : Stamp) → first_of (unless_live slot.live ∷ unless_reached stamp slot ∷ []) ≡ None → (is_some slot.live ≡ true) × (unless_reached stamp slot ≡ None)
  both_tests stamp none = (
    live_there slot.live (head_none (unless_live slot.live) (unless_reached stamp slot ∷ []) none),
    head_none (unless_reached stamp slot) [] (tail_none (unless_live slot.live) (unless_reached stamp slot ∷ []) none),
  )

  bad_reads : (stamp : Stamp) (epoch : ℕ) (asked : Asked) (h : Here) (o : Option ℕ) → AllByRecursion (Reads c w s.me epoch stamp asked) (tells_bad h slot o)
  bad_reads stamp epoch asked h None = tt
  bad_reads stamp epoch asked h (Some block) = (tt, tt)

  gives_read : (req : ReqId) (stamp : Stamp) (epoch : ℕ) (asked : Asked) (h : Here) (r : Result Given Refusal) → ((found : Given) → r ≡ Ok found → IsRead c w s.me epoch stamp asked found) → AllByRecursion (Reads c w s.me epoch stamp asked) (gives h (place_of chunk s) req r).sent
  gives_read req stamp epoch asked h (Ok found) each = (each found refl, tt)
  gives_read req stamp epoch asked h (Err e) each = (tt, bad_reads stamp epoch asked h (damaged_block e))

  given_bytes : (r : Result (List ℕ) Refusal) (found : Given) → giving givens.Bytes r ≡ Ok found → (part : List ℕ) × (r ≡ Ok part) × (givens.Bytes part ≡ found)
  given_bytes (Ok part) found is = (part, refl, (cc))
  given_bytes (Err e) found is = absurd (cc)

  given_length : (r : Result ℕ Refusal) (found : Given) → giving givens.Length r ≡ Ok found → (many : ℕ) × (r ≡ Ok many) × (givens.Length many ≡ found)
  given_length (Ok many) found is = (many, refl, (cc))
  given_length (Err e) found is = absurd (cc)

  given_digest : (r : Result (List ℕ) Refusal) (found : Given) → giving givens.Digest r ≡ Ok found → (part : List ℕ) × (r ≡ Ok part) × (givens.Digest part ≡ found)
  given_digest (Ok part) found is = (part, refl, (cc))
  given_digest (Err e) found is = absurd (cc)

  given_read : (stamp : Stamp) (epoch : ℕ) (asked : Asked) → epoch ≡ s.kept.epoch → (found : Given) → given stamp asked slot ≡ Ok found → IsRead c w s.me epoch stamp asked found
  given_read stamp epoch (asks.Bytes offset many) here found is =
      let g = given_bytes (read stamp offset many slot) found is in
      let l = read_live stamp offset many g.0 slot.live g.1 in
      subst (IsRead c w s.me epoch stamp (asks.Bytes offset many)) g.2
      (is_read stamp epoch (asks.Bytes offset many) (givens.Bytes g.0) here l.0 l.1 (λ xs live stands. read_stands s.block s.chunk stamp offset many g.0 slot slot.live xs stands (x.apart.live xs live) g.1))
  given_read stamp epoch asks.Length here found is =
      let g = given_length (text_length stamp slot) found is in
      let tests = first_of (unless_live slot.live ∷ unless_reached stamp slot ∷ []) in
      let l = both_tests stamp (unless_none tests (Ok (length_in slot.live)) g.0 g.1) in
      subst (IsRead c w s.me epoch stamp asks.Length) g.2
      (is_read stamp epoch asks.Length (givens.Length g.0) here l.0 l.1 (λ xs live stands. length_stands s.block s.chunk g.0 tests slot.live xs stands g.1))
  given_read stamp epoch (asks.Digest block) here found is =
      let g = given_digest (digest stamp block slot) found is in
      let tests = first_of (unless_live slot.live ∷ unless_reached stamp slot ∷ []) in
      let l = both_tests stamp (unless_none tests (digest_in block slot.live) g.0 g.1) in
      subst (IsRead c w s.me epoch stamp (asks.Digest block)) g.2
      (is_read stamp epoch (asks.Digest block) (givens.Digest g.0) here l.0 l.1 (λ xs live stands. digest_stands s.block s.chunk block g.0 tests slot.live xs stands g.1))

  pub fetch_read : (from : NodeId) (req : ReqId) (stamp : Stamp) (epoch : ℕ) (asked : Asked) (moment : Moment) → AllByRecursion (Reads c w s.me epoch stamp asked) (handle_chunk s from chunk (chunks.Fetch req stamp epoch asked) moment).sent
  fetch_read from req stamp epoch asked moment = by_epoch (other_epoch (here_of s moment chunk (Some req)) epoch) refl
    where
      by_epoch : (o : Option Refusal) → other_epoch (here_of s moment chunk (Some req)) epoch ≡ o → AllByRecursion (Reads c w s.me epoch stamp asked) (or_else o (refuses (here_of s moment chunk (Some req)) (place_of chunk s) req) (gives (here_of s moment chunk (Some req)) (place_of chunk s) req (given stamp asked slot))).sent
      by_epoch (Some e) is = (tt, bad_reads stamp epoch asked (here_of s moment chunk (Some req)) (damaged_block e))
      by_epoch None is = gives_read req stamp epoch asked (here_of s moment chunk (Some req)) (given stamp asked slot) (λ found given_is. given_read stamp epoch asked (of_epoch (here_of s moment chunk (Some req)) epoch is) found given_is)

-- ---- answers

module _ (c : Setting) (w last : ChunkWorld) (reached : IsReached w) (leads : Leads w last) where
  -- a list of a view that was settled goes on
  list_on : (t : ℕ) → t ≤ w.entry.view.stamp → (more : List Edit) × (last.known.list t ≡ w.known.list t ++ more)
  list_on t within = (stays_known w (reached_world w reached) last leads).list t within

  done_within : (me t place : ℕ) (e : Edit) → WasTold w me (Done t place e) → t ≤ w.entry.view.stamp
  done_within me t place e told = let ok = reached_world w reached in let settled = said w ok me (Done t place e) told in let l = settled.within in let s = (ok.entry).stamp in omega arith

  pub answered_on : (me : ℕ) (req : ReqId) (outcome : Answer) → IsAnswered c w me req outcome → IsAnswered c last me req outcome
  answered_on me req outcome a =
      let more = list_on a.stamp (done_within me a.stamp (length a.before) a.edit a.told) in record {
        stamp = a.stamp;
        edit = a.edit;
        before = a.before;
        behind = a.behind ++ more.0;
        told = (stays_known w (reached_world w reached) last leads).sent me (Done a.stamp (length a.before) a.edit) a.told;
        req = a.req;
        stands = more.1 ∙ ap (λ ys. ys ++ more.0) a.stands ∙ append_assoc a.before (a.edit ∷ a.behind) more.0;
        is = a.is;
      }

  pub passed_on : (under : Stamp) (req : ReqId) (op : Op) (outcome : Answer) → IsPassed c w under req op outcome → IsPassed c last under req op outcome
  passed_on under req op outcome p =
      let more = list_on p.stamp p.settled in record {
        padded = p.padded;
        short = p.short;
        passed = p.passed;
        stamp = p.stamp;
        under_is = p.under_is;
        settled = (let l = p.settled in let v = (stays_known w (reached_world w reached) last leads).view in omega arith);
        before = p.before;
        behind = p.behind ++ more.0;
        stands = more.1 ∙ ap (λ ys. ys ++ more.0) p.stands ∙ append_assoc p.before p.behind more.0;
        full = p.full;
        fresh = p.fresh;
        led = (let ok = reached_world w reached in let l = p.settled in let s = (ok.entry).stamp in led_on w.known last.known (leads_later w last leads ok) p.stamp (omega arith) p.led);
      }

  pub answers_on : (me : ℕ) (under : Stamp) (req : ReqId) (op : Op) (outcome : Answer) → IsAnswered c w me req outcome ⊎ IsPassed c w under req op outcome → IsAnswered c last me req outcome ⊎ IsPassed c last under req op outcome
  answers_on me under req op outcome is = ⊎_elim (λ a. inl (answered_on me req outcome a)) (λ p. inr (passed_on under req op outcome p)) is

  pub answered_stays : (me : ℕ) (req : ReqId) (outcome : Answer) → (a : IsAnswered c w me req outcome) → IsSettledIn w a.stamp (length a.before) a.edit × StaysUnlessUndone last a.stamp (length a.before) a.edit
  answered_stays me req outcome a = acknowledged_stays w (reached_world w reached) last leads me a.stamp (length a.before) a.edit a.told
