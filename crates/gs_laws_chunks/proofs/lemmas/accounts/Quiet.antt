-- Each member of a quiet chunk is still, and takes no edit.
use Rattle.std.proofs.Common.{◌≡◌, ◌∙◌, ◌+◌, ℕ, Bool, true, false, cond, List, None, Option, Some, Result, Ok, Err, refl, sym, ap, subst, arith}
use Rattle.std.specs.Prelude.{◌==◌, is_some, slice_get}
use Rattle.gs_base.specs.Members.{is_member}
use Rattle.gs_block.specs.Written.{ToldApart}
use Rattle.gs_base.specs.Stamps.{is_same}
use Rattle.gs_base.specs.declared.epoch.EpochEnd.{EpochEnd}
use Rattle.gs_base.specs.declared.epoch.EpochEnd.TheVariants as ends
use Rattle.gs_base.specs.declared.numbers.Moment.{Moment}
use Rattle.gs_base.specs.declared.numbers.ReqId.{ReqId}
use Rattle.gs_base.specs.declared.refusal.Refusal.{Refusal}
use Rattle.gs_laws_chunks.specs.accounts.Accounts.{Account, settled_edits, settled_in, text_of, view_at}
use Rattle.gs_laws_chunks.specs.accounts.Running.{Setup}
use Rattle.gs_laws_chunk.proofs.lemmas.machine.Exact.{quiet_is_settled}
use Rattle.gs_laws_chunk.proofs.lemmas.machine.Facts.{quiet_is_still, reached_world}
use Rattle.gs_laws_chunk.proofs.lemmas.machine.Resting.{promises_rest}
use Rattle.gs_laws_chunk.specs.machine.Events.{Leads, Rests, is_of}
use Rattle.gs_laws_chunk.specs.machine.Laws as machine
use Rattle.gs_laws_chunk.specs.machine.Machine.{ChunkWorld}
use Rattle.gs_laws_chunk.specs.machine.Resting.{PromisesRest}
use Rattle.gs_laws_chunk.specs.machine.Stamps.{stamp_at}
use Rattle.gs_laws_parts.proofs.lemmas.master.Stamps.{of_member}
use Rattle.gs_laws_parts.specs.master.Showing.{ShowsSettled, primary_of}
use Rattle.gs_lease.specs.declared.view.View.{View}
use Rattle.gs_laws_lift.proofs.lemmas.stores.Serving.{is_shown, was_told}
use Rattle.gs_laws_lift.specs.stores.Showing.{ShowsNodes}
use Rattle.gs_laws_parts.proofs.lemmas.server.Holding.{holds_all}
use Rattle.gs_laws_parts.proofs.lemmas.server.Promising.{lives}
use Rattle.gs_laws_parts.proofs.lemmas.server.Renaming.{message_steps}
use Rattle.gs_laws_parts.proofs.lemmas.server.Stamps.{is_itself}
use Rattle.gs_laws_parts.specs.server.Holding.{HoldsAll}
use Rattle.gs_laws_parts.specs.server.Moving.{IsShown}
use Rattle.gs_laws_parts.specs.server.Showing.{Setting, ShowsMember, setting_of}
use Rattle.gs_laws_parts.specs.server.Telling.{BringsCopy}
use Rattle.gs_msg.specs.declared.body.Body.{Body}
use Rattle.gs_msg.specs.declared.body.Body.TheVariants as bodies
use Rattle.gs_msg.specs.declared.message.Message.{Message}
use Rattle.gs_msg.specs.declared.node.NodeId.TheVariants as nodes
use Rattle.gs_replica.specs.Held.{Held}
use Rattle.gs_replica.specs.Stands.{Edit, IsToldFrom, StandsFor}
use Rattle.gs_world.specs.Histories.{History}
use Rattle.gs_world.specs.Sent.{IsSent}
use Rattle.gs_server.proofs.Wholes.{each_whole}
use Rattle.gs_server.specs.Promises as promises
use Rattle.gs_server.specs.Promises.{Copying}
use Rattle.gs_server.specs.Places.{SlotBecomes, SlotChange, SlotMarked, SlotStays}
use Rattle.gs_server.specs.Runs.{BecomesBy, Event, Hears, behind, slot_in}
use Rattle.gs_server.specs.Servers.{Server}
use Rattle.gs_server.specs.Servers as servers
use Rattle.gs_laws_server.specs.servers.Calling.{call_by, copy_taken, end_call, first_call, heard_call, made_by}
use Rattle.gs_laws_server.specs.servers.Following.{edit_in}
use Rattle.gs_store.proofs.Laws.{of_ok}
use Rattle.gs_store.proofs.Standing.{next_edit}
use Rattle.gs_store.specs.Calls.{Applies, Call}
use Rattle.gs_store.specs.Moves.{copied_from}
use Rattle.gs_store.specs.Serving.{apply}
use Rattle.gs_store.specs.Slots.{Live, Slot, count_of}
use Rattle.gs_master_spec.specs.Applied.{view_in}
use Rattle.gs_store.specs.Standing.{IsNextEdit, LiveStandsFor, LiveToldFrom}
use Rattle.gs_store.specs.Whole.{LiveUnder}
use Rattle.gs_laws_chunks.proofs.lemmas.accounts.Standing.{holds_where_whole}
use Rattle.gs_laws_chunks.proofs.lemmas.accounts.Viewing.{told_view}
use Rattle.gs_laws_chunks.specs.accounts.Joined.{IsSeen}
use Rattle.gs_laws_chunks.specs.accounts.Seen.{SeenQuietIsStill}
use Rattle.gs_laws_chunks.specs.accounts.Standing.{HoldsWhereWhole, IsQuiet, IsStill}

-- ---- calls

-- what becomes of a slot is what one call makes
abbrev pub AreCalled : Type 0
AreCalled = (handle : ℕ) (e : Event) (s : Server) → BecomesBy s.block s.chunk (slot_in handle s) (call_by handle e s) (slot_in handle (behind e s))

-- One by which the replica takes an edit counts one more, under the same promise.
record CountsMore (s after : Slot) : Type 0 where
  pub before : ℕ
  pub counted : count_of s.live ≡ Some before
  pub counts : count_of after.live ≡ Some (before + 1)
  pub promise : after.promise ≡ s.promise

counts_more : (block size : ℕ) (s after : Slot) (e : Edit) (c : Option Call) → LiveUnder s.promise s.live → BecomesBy block size s c after → edit_in c ≡ Some e → CountsMore s after
counts_more block size s after e (Some (Applies stamp number req op bytes)) under becomes takes =
    let n : IsNextEdit stamp number req s after = of_ok (λ x. IsNextEdit stamp number req s x) (apply stamp number req op bytes s) after becomes (next_edit stamp number req op bytes s s.live refl under) in
    record { before = n.before; counted = n.counted; counts = n.counts ∙ ap (λ k. Some k) n.next; promise = n.promise }
counts_more block size s after e c under becomes takes = absurd (cc)

-- no copy and no epoch makes it take one
part_takes_none : (x : Bool) (change : SlotChange) (taken : Option Call) → edit_in taken ≡ None → edit_in (cond x (made_by change taken) None) ≡ None
part_takes_none false change taken none = refl
part_takes_none true SlotStays taken none = refl
part_takes_none true (SlotMarked block) taken none = refl
part_takes_none true (SlotBecomes s) taken none = none

first_takes_none : (first second : Option Call) → edit_in first ≡ None → edit_in second ≡ None → edit_in (first_call first second) ≡ None
first_takes_none None second one two = two
first_takes_none (Some c) second one two = one

epoch_takes_none : (x y : Bool) (epoch : ℕ) (end : EpochEnd) → edit_in (cond x None (cond y (Some (end_call epoch end)) None)) ≡ None
epoch_takes_none true y epoch end = refl
epoch_takes_none false false epoch end = refl
epoch_takes_none false true epoch ends.Prepare = refl
epoch_takes_none false true epoch ends.Finalize = refl
epoch_takes_none false true epoch ends.Rollback = refl

copied_is_none : (r : Result Held Refusal) → edit_in (copy_taken r) ≡ None
copied_is_none (Ok h) = refl
copied_is_none (Err refusal) = refl

counted_lives : (o : Option Live) (n : ℕ) → count_of o ≡ Some n → is_some o ≡ true
counted_lives None n is = absurd (cc)
counted_lives (Some l) n is = refl

some_count : (o : Option Live) (l : Live) (n : ℕ) → o ≡ Some l → count_of o ≡ Some n → l.replica.held.count ≡ n
some_count None l n is counts = absurd (cc)
some_count (Some x) l n is counts = (let same : x ≡ l = cc in let many : x.replica.held.count ≡ n = cc in sym (ap (λ (y : Live). y.replica.held.count) same) ∙ many)

some_same : (a b : ℕ) → Some a ≡ Some b → a ≡ b
some_same a b is = cc

-- ---- a member of a quiet chunk

module _ (law : AreCalled) {D : Type 0} (x : Setup D) (bytes : ReqId → List ℕ) (now : History D) (a : Account) (id chunk : ℕ) (view : View) (s : Server) (seen : IsSeen x bytes chunk now a) (quiet : IsQuiet a chunk view) (member : is_member view.members id ≡ true) (at : slice_get now.nodes.servers id ≡ Some s) where
  abbrev w : ChunkWorld
  w = seen.alive.world

  abbrev c : Setting
  c = setting_of bytes seen.alive.reached.0.epoch s

  nodes_shown : ShowsNodes x.config bytes seen.alive.reached.0.epoch chunk now w
  nodes_shown = record { members = seen.alive.shows.members; sent = seen.alive.shows.sent }

  shown : IsShown c chunk w s
  shown = is_shown x.seen x.config bytes seen.alive.reached.0.epoch chunk now w seen.alive.reached nodes_shown seen.keeps seen.apart id s at

  settled : ShowsSettled quiet.settled w.entry
  settled = seen.told.settled quiet.settled quiet.told

  free : w.entry.view.holder ≡ None
  free = settled.view.holder ∙ ap primary_of (ap (λ (v : View). v.term) quiet.is ∙ quiet.unled)

  -- it is a member of the settled view, which it has promised
  within : machine.is_member w s.me ≡ true
  within = ap (λ xs. is_of xs s.me) (settled.view.members ∙ ap (λ (v : View). v.members) quiet.is) ∙ of_member view.members s.me ∙ ap (is_member view.members) (seen.keeps.servers id s at).me ∙ member

  promised : (w.members s.me).promise ≡ w.entry.view.stamp
  promised =
      let rests : PromisesRest w = promises_rest w (reached_world w seen.alive.reached) in
      let least = rests.members s.me within in
      let most = rests.within (seen.told.rolling ∙ quiet.calm) s.me in
      let still = settled.still quiet.still in
      omega arith

  under : (slot_in chunk s).promise ≡ stamp_at w.entry.view.stamp
  under = shown.shows.promise ∙ ap stamp_at promised

  count_is : w.entry.view.count ≡ view.count
  count_is = settled.view.count ∙ ap (λ (v : View). v.count) quiet.is

  -- behind whatever comes, a server that keeps the promise and is live has the whole list, and as many edits
  holds_then : (v : ChunkWorld) (t : Server) → Leads w v → t.me ≡ s.me → ShowsMember c chunk v t → (slot_in chunk t).promise ≡ (slot_in chunk s).promise → is_some (slot_in chunk t).live ≡ true → HoldsAll c chunk w t
  holds_then v t leads me shows promise lives = holds_all c chunk w seen.alive.reached v t leads free (subst (λ n. machine.is_member w n ≡ true) (sym me) within) shows (record { promise = promise ∙ under; live = lives })

  counts_then : (v : ChunkWorld) (t : Server) → Leads w v → t.me ≡ s.me → ShowsMember c chunk v t → (slot_in chunk t).promise ≡ (slot_in chunk s).promise → is_some (slot_in chunk t).live ≡ true → count_of (slot_in chunk t).live ≡ Some view.count
  counts_then v t leads me shows promise lives = (holds_then v t leads me shows promise lives).counts ∙ ap (λ n. Some n) count_is

  view_told : view_at a chunk ≡ Some view
  view_told = ap view_in quiet.told ∙ ap (λ v. Some v) quiet.is

  -- the list of the settled view is all that is settled, since nobody may number in it
  settled_is : settled_edits a chunk ≡ w.known.list w.entry.view.stamp
  settled_is = ap (settled_in a chunk) view_told ∙ (told_view x bytes chunk now a seen view view_told).settled ∙ quiet_is_settled w (reached_world w seen.alive.reached) free

  stands : (l : Live) → (slot_in chunk s).live ≡ Some l → StandsFor s.block x.config.chunk l.replica.held (settled_edits a chunk)
  stands l is =
      let all = holds_then w s Rests refl shown.shows refl (ap is_some is) in
      let stands : StandsFor s.block s.chunk l.replica.held (w.known.list w.entry.view.stamp) = subst (λ o. LiveStandsFor s.block s.chunk o (w.known.list w.entry.view.stamp)) is all.stands in
      subst (StandsFor s.block x.config.chunk l.replica.held) (sym settled_is) (subst (λ size. StandsFor s.block size l.replica.held (w.known.list w.entry.view.stamp)) (seen.keeps.servers id s at).size stands)

  whole : (l : Live) → (slot_in chunk s).live ≡ Some l → HoldsWhereWhole l.replica.held.chunk (text_of x.config.chunk (settled_edits a chunk))
  whole l is =
      let lived = lives c (slot_in chunk s) (w.members s.me).live shown.shows.live (ap is_some is) in
      let all : lived.0 ≡ settled_edits a chunk = (quiet_is_still w (reached_world w seen.alive.reached) free s.me lived.0 (within, promised, lived.1)).whole ∙ sym settled_is in
      let told : IsToldFrom s.block s.chunk l.replica.held lived.0 = subst (λ o. LiveToldFrom s.block s.chunk o lived.0) is (shown.apart.live lived.0 lived.1) in
      let here : IsToldFrom s.block x.config.chunk l.replica.held (settled_edits a chunk) = subst (λ size. IsToldFrom s.block size l.replica.held (settled_edits a chunk)) (seen.keeps.servers id s at).size (subst (IsToldFrom s.block s.chunk l.replica.held) all told) in
      holds_where_whole l.replica.held.chunk (text_of x.config.chunk (settled_edits a chunk)) (stands l is).bytes
      (subst (λ b. ToldApart b l.replica.held.chunk.bytes (text_of x.config.chunk (settled_edits a chunk))) (sym (stands l is).block) here)

  still : IsStill x.config.chunk a chunk view s
  still = record {
    stamp = λ l is. subst (λ u. is_same (slot_in chunk s).promise u ≡ true) (under ∙ sym settled.view.stamp ∙ ap (λ (v : View). v.stamp) quiet.is) (is_itself (slot_in chunk s).promise);
    count = λ l is. some_count (slot_in chunk s).live l view.count is (counts_then w s Rests refl shown.shows refl (ap is_some is));
    stands = stands;
    whole = whole;
  }

  -- were an edit taken, the replica would have one more
  never_taken : (message : Message) (moment : Moment) (e : Edit) → IsSent message now.sent → message.to ≡ nodes.Server id → BringsCopy c chunk w s message.body → edit_in (call_by chunk (Hears message moment) s) ≡ Some e → ⊥
  never_taken message moment e was to brings takes =
      let steps = message_steps bytes seen.alive.reached.0.epoch chunk w s shown message moment (to ∙ ap nodes.Server (sym (seen.keeps.servers id s at).me)) (was_told x.seen x.config bytes seen.alive.reached.0.epoch chunk now w seen.alive.reached nodes_shown seen.keeps seen.apart id s at message was) brings in
      let after : Server = (servers.handle s message moment).after in
      let more : CountsMore (slot_in chunk s) (slot_in chunk after) = counts_more s.block s.chunk (slot_in chunk s) (slot_in chunk after) e (call_by chunk (Hears message moment) s) (each_whole chunk s shown.reached).keeps.live_is (law chunk (Hears message moment) s) takes in
      let first = counts_then w s Rests refl shown.shows refl (counted_lives (slot_in chunk s).live more.before more.counted) in
      let last = counts_then steps.world after steps.leads steps.same.0 steps.shows more.promise (counted_lives (slot_in chunk after).live (more.before + 1) more.counts) in
      let one = some_same more.before view.count (sym more.counted ∙ first) in
      let two = some_same (more.before + 1) view.count (sym more.counts ∙ last) in
      omega arith

  takes_none : (message : Message) (moment : Moment) → IsSent message now.sent → message.to ≡ nodes.Server id → edit_in (call_by chunk (Hears message moment) s) ≡ None
  takes_none message moment was to = by_body message.body refl
    where
      none_is : BringsCopy c chunk w s message.body → (o : Option Edit) → edit_in (call_by chunk (Hears message moment) s) ≡ o → o ≡ None
      none_is brings None is = refl
      none_is brings (Some e) is = absurd (never_taken message moment e was to brings is)

      by_body : (body : Body) → message.body ≡ body → edit_in (heard_call chunk s message.from body moment) ≡ None
      by_body (bodies.About handle said) is =
          ap (λ b. edit_in (heard_call chunk s message.from b moment)) (sym is) ∙ none_is (subst (BringsCopy c chunk w s) (sym is) tt) (edit_in (call_by chunk (Hears message moment) s)) refl
      by_body (bodies.MakeCopy old from new stamp) is =
          let h = servers.here_of s moment old None in
          let new_h = servers.here_of s moment new None in
          let copying : Copying = promises.make_copy h (servers.place_of old s) from new_h (servers.place_of new s) stamp in
          let taken : Option Call = copy_taken (copied_from from stamp (slot_in old s)) in
          first_takes_none (cond (chunk == new) (made_by copying.target.slot taken) None) (cond (chunk == old) (made_by copying.source None) None)
          (part_takes_none (chunk == new) copying.target.slot taken (copied_is_none (copied_from from stamp (slot_in old s))))
          (part_takes_none (chunk == old) copying.source None refl)
      by_body (bodies.Epoch epoch end) is = epoch_takes_none (epoch == s.kept.epoch) (epoch == s.kept.epoch + 1) epoch end
      by_body body is = refl

pub seen_still : AreCalled → {D : Type 0} (x : Setup D) (bytes : ReqId → List ℕ) → SeenQuietIsStill x bytes
seen_still law x bytes now a id chunk view s seen quiet member at = (still law x bytes now a id chunk view s seen quiet member at, λ message moment was to. takes_none law x bytes now a id chunk view s seen quiet member at message moment was to)
