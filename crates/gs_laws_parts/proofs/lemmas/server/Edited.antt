-- Each edit of a client that is told as done is answered in the machine.
use Rattle.std.proofs.Common.{◌≡◌, ◌≢◌, ℕ, zero, suc, ◌+◌, ◌≤◌, inr, Bool, true, false, cond, List, [], ◌∷◌, ◌++◌, length, Option, Some, None, refl, sym, ap, subst, ◌∙◌, arith, inl, not}
use Rattle.std.specs.Prelude.{Result, Ok, Err, nat_le, nat_lt, ◌==◌, ◌<◌, is_some, slice_get, ◌||◌}
use Rattle.std.specs.List.{AllByRecursion}
use Rattle.std.specs.FinMap as fin
use Rattle.std.proofs.lemmas.Bool.Decides.{nat_tests}
use Rattle.gs_base.specs.declared.numbers.Stamp.{Stamp}
use Rattle.gs_base.specs.Stamps.{is_same}
use Rattle.gs_base.specs.declared.numbers.ReqId.{ReqId}
use Rattle.gs_base.specs.declared.refusal.Refusal.{Refusal}
use Rattle.gs_base.specs.declared.refusal.Refusal.TheVariants as refusals
use Rattle.gs_replica.specs.declared.op.Done.{Done as Last}
use Rattle.gs_replica.specs.declared.op.EditOutcome.{EditOutcome as Answer}
use Rattle.gs_replica.specs.declared.op.EditOutcome.TheVariants.{Padded}
use Rattle.gs_replica.specs.Edits.{is_old}
use Rattle.gs_replica.specs.Stands.{Edit, StandsFor, replica_of}
use Rattle.gs_msg.specs.declared.body.Body.{Body}
use Rattle.gs_msg.specs.declared.body.Body.TheVariants as bodies
use Rattle.gs_msg.specs.declared.message.Message.{Message}
use Rattle.gs_msg.specs.declared.op.Op.{Op}
use Rattle.gs_msg.specs.declared.op.Op.TheVariants.{Write, Append, Pad}
use Rattle.gs_msg.specs.Ops.{in_replica}
use Rattle.gs_store.specs.Slots.{Live, Slot, first_of, when, unless_live}
use Rattle.gs_store.specs.Serving.{apply, done_in}
use Rattle.gs_store.specs.Standing.{LiveStandsFor, IsToldIn}
use Rattle.gs_store.proofs.Standing.{done_stands}
use Rattle.gs_server.specs.declared.turn.KeptRefusal.{KeptRefusal}
use Rattle.gs_server_lease.specs.Leases as primary
use Rattle.gs_server_lease.specs.Numbering.{numbered_op, is_passed, is_too_long}
use Rattle.gs_server.specs.Places.{Place, Here, sending}
use Rattle.gs_server.specs.Edits.{bytes_of, bytes_or_none, applied_bytes, done, refused_once, refused_edit, unless_there, unless_holding, unless_over, opened, numbers, numbers_if, numbers_as, numbers_or_passes, unless_numbered, new_edit, repeated, unless_kept, unless_done, edit, last_count}
use Rattle.gs_laws_chunk.specs.machine.Machine.{MemberLease, Member, ChunkWorld}
use Rattle.gs_laws_parts.specs.server.Showing.{Setting, setting_at, ShowsLeaseAt}
use Rattle.gs_laws_parts.specs.server.Moving.{IsHere, LeadsWhole, Answering, FollowsServer}
use Rattle.gs_laws_parts.proofs.lemmas.server.Tests.{head_none, tail_none, not_met}
use Rattle.gs_laws_parts.proofs.lemmas.server.Promising.{lives, nothing_happens, refused_outcome}
use Rattle.gs_laws_parts.proofs.lemmas.server.Stamps.{stamp_number, same_stamp}
use Rattle.gs_laws_parts.proofs.lemmas.server.Sending.{lease_there}
use Rattle.gs_laws_parts.specs.server.Answering.{AnswersEdit, AnswersBody, IsLed}
use Rattle.gs_laws_parts.specs.server.Causes.{Cause, Edits, Calm}
use Rattle.gs_server.specs.Places.{tells_bad, damaged_block, or_else, Part}
use Rattle.gs_laws_parts.proofs.lemmas.server.Numbering.{is_new, numbered}
use Rattle.gs_laws_parts.proofs.lemmas.server.Repeated.{both, repeat_answering}

-- ---- parts

or_answering : (cause : Cause) (bytes : ReqId → List ℕ) (born : ℕ) (w : ChunkWorld) (h : Here) (p : Place) (o : Option Refusal) (refuses : Refusal → Part) (part : Part) → ((e : Refusal) → Answering cause bytes born w h p (refuses e)) → (o ≡ None → Answering cause bytes born w h p part) → Answering cause bytes born w h p (or_else o refuses part)
or_answering cause bytes born w h p None refuses part each then = then refl
or_answering cause bytes born w h p (Some e) refuses part each then = each e

either_answering : (cause : Cause) (bytes : ReqId → List ℕ) (born : ℕ) (w : ChunkWorld) (h : Here) (p : Place) (b : Bool) (x y : Part) → (b ≡ true → Answering cause bytes born w h p x) → (b ≡ false → Answering cause bytes born w h p y) → Answering cause bytes born w h p (cond b x y)
either_answering cause bytes born w h p true x y first second = first refl
either_answering cause bytes born w h p false x y first second = second refl

there_so : (o : Option (List ℕ)) → unless_there o ≡ None → o ≡ Some (bytes_or_none o)
there_so None none = absurd (cc)
there_so (Some b) none = refl

-- none of a list that a request is above is of it
none_of : (req : ReqId) (xs : List Edit) → AllByRecursion (λ (o : Edit). o.req.client.0 ≡ req.client.0 → o.req.number < req.number) xs → (place : ℕ) (edit : Edit) → slice_get xs place ≡ Some edit → edit.req ≢ req
none_of req [] all place edit at same = absurd (cc)
none_of req (x ∷ xs) all zero edit at same =
    let is : x.req ≡ req = ap (λ (e : Edit). e.req) (some_same x edit at) ∙ same in
    let less = all.0 (ap (λ (r : ReqId). r.client.0) is) in
    let number = ap (λ (r : ReqId). r.number) is in
    absurd (omega arith)
  where
    some_same : (a b : Edit) → Some a ≡ Some b → a ≡ b
    some_same a b is = cc
none_of req (x ∷ xs) all (suc place) edit at same = none_of req xs all.1 place edit at same

module _ (bytes : ReqId → List ℕ) (born : ℕ) (w : ChunkWorld) (h : Here) (p : Place) where
  abbrev c : Setting
  c = setting_at bytes born h

  bad_answers : (v : ChunkWorld) (o : Option ℕ) → AllByRecursion (AnswersEdit Calm c v h.me) (tells_bad h p.slot o)
  bad_answers v None = tt
  bad_answers v (Some block) = (tt, tt)

  refuses_answering : IsHere bytes born w h p → (req : ReqId) (e : Refusal) → Answering Calm bytes born w h p (refused_edit h p req e)
  refuses_answering here req e = let f = refused_outcome bytes born w h p here.shows (done h req (Err e)) e tt in record { follows = f; answers = (tt, bad_answers f.moved.world (damaged_block e)) }

  refused_answering : IsHere bytes born w h p → (req : ReqId) (answer : Result Answer Refusal) → (e : Refusal) → answer ≡ Err e → Answering Calm bytes born w h p (refused_once h req e)
  refused_answering here req answer e is = record { follows = nothing_happens bytes born w h p here.shows (done h req (Err e) ∷ []) (tt, tt); answers = (tt, tt) }

  -- what numbers nothing
  calm_follows : (stamp : Stamp) (req : ReqId) (op : Op) {q : Place} (sent : List Message) → FollowsServer Calm c h.handle w h.me h.epoch q sent → FollowsServer (Edits stamp req op) c h.handle w h.me h.epoch q sent
  calm_follows stamp req op sent f = record {
    member = f.member;
    sends = f.sends;
    moved = f.moved;
    lists = f.lists;
    numbers = λ t. inl (f.numbers t);
    intact = λ spared. f.intact (inl refl);
    gains = f.gains;
    shows = f.shows;
    tells = f.tells;
  }

  calm_answers : (stamp : Stamp) (req : ReqId) (op : Op) (v : ChunkWorld) (sent : List Message) → AllByRecursion (AnswersEdit Calm c v h.me) sent → AllByRecursion (AnswersEdit (Edits stamp req op) c v h.me) sent
  calm_answers stamp req op v [] all = tt
  calm_answers stamp req op v (m ∷ sent) all = (by_body m.body all.0, calm_answers stamp req op v sent all.1)
    where
      by_body : (body : Body) → AnswersBody Calm c v h.me body → AnswersBody (Edits stamp req op) c v h.me body
      by_body (bodies.Done of (Ok outcome)) is = elim is [ inl a ↦ inl a | inr never ↦ absurd never ]
      by_body body is = tt

  calm : (stamp : Stamp) (req : ReqId) (op : Op) (part : Part) → Answering Calm bytes born w h p part → Answering (Edits stamp req op) bytes born w h p part
  unfolding calm_follows
  calm stamp req op part a = record { follows = calm_follows stamp req op part.sent a.follows; answers = calm_answers stamp req op a.follows.moved.world part.sent a.answers }

  passed_full : (op : Op) (stored : ℕ) → is_passed h.chunk stored op ≡ true → stored ≡ h.chunk
  passed_full (Write offset many) stored is = absurd (cc)
  passed_full (Append many) stored is = let full = (both (stored == h.chunk) (nat_lt h.chunk (stored + many)) is).0 in grind (arith, nat_tests)
  passed_full Pad stored is = absurd (cc)

  -- a record that a full chunk passes on
  passed_answering : IsHere bytes born w h p → LeadsWhole w h.me → (req : ReqId) (under : Stamp) (op : Op) (live : Live) (l : primary.PrimaryLease) → p.slot.live ≡ Some live → p.lease ≡ Some l → under ≡ l.grant.stamp → is_old req.number (done_in p.slot.live req.client.0) ≡ false → is_too_long h.chunk op ≡ false → is_passed h.chunk (length live.replica.held.chunk.bytes) op ≡ true
      → Answering (Edits under req op) bytes born w h p (sending (done h req (Ok Padded) ∷ []))
  passed_answering here whole req under op live l is held asked new short full =
      let m : Member = w.members h.me in
      let y = lives c p.slot m.live here.shows.live (ap is_some is) in
      let xs : List Edit = y.0 in
      let stands : StandsFor h.block h.chunk live.replica.held xs = subst (λ o. LiveStandsFor h.block h.chunk o xs) is y.2 in
      let q = lease_there c w.known.list l m.lease (subst (λ o. ShowsLeaseAt c w.known.list o m.lease) held here.shows.lease) in
      let ml : MemberLease = q.0 in
      let stamp : ml.stamp ≡ m.promise = stamp_number ml.stamp m.promise (sym q.2.stamp ∙ here.leased l held ∙ here.shows.promise) in
      let list : w.known.list ml.stamp ≡ xs = ap w.known.list stamp ∙ (whole ml xs q.1 stamp y.1).0 in
      let fresh : is_old req.number (fin.get (replica_of h.chunk xs).done req.client.0) ≡ false = ap (is_old req.number) (sym (done_stands h.block h.chunk req.client.0 p.slot.live xs y.2)) ∙ new in
      let f = calm_follows under req op (done h req (Ok Padded) ∷ []) (nothing_happens bytes born w h p here.shows (done h req (Ok Padded) ∷ []) (tt, tt)) in
      let more = f.moved.grows ml.stamp in
      let written = stands.bytes in
      record {
        follows = f;
        answers = (
          inr (
            refl,
            record {
              padded = refl;
              short = short;
              passed = ap (λ n. is_passed h.chunk n op) (sym (passed_full op (length live.replica.held.chunk.bytes) full)) ∙ full;
              stamp = ml.stamp;
              under_is = asked ∙ q.2.stamp;
              settled = subst (λ e. ml.stamp ≤ e.view.stamp) (sym f.moved.entry) (subst (λ t. t ≤ w.entry.view.stamp) (sym stamp) (whole ml xs q.1 stamp y.1).1);
              before = xs;
              behind = more.0;
              stands = more.1 ∙ ap (λ ys. ys ++ more.0) list;
              full = sym written.long ∙ passed_full op (length live.replica.held.chunk.bytes) full;
              fresh = none_of req xs (is_new h.chunk (record { req = req; op = in_replica op; bytes = [] }) xs fresh stands.taken);
              led = subst (IsLed f.moved.world.known) (sym stamp) ((whole ml xs q.1 stamp y.1).2 f.moved.world f.moved.leads);
            },
          ),
          tt,
        );
      }

  asked_is : (stamp : Stamp) (l : primary.PrimaryLease) → (not (is_same stamp l.grant.stamp) || not (is_same l.grant.stamp p.slot.promise)) ≡ false → stamp ≡ l.grant.stamp
  asked_is stamp l asked = same_stamp stamp l.grant.stamp (first_of_both (is_same stamp l.grant.stamp) (not (is_same l.grant.stamp p.slot.promise)) asked)
    where
      first_of_both : (a b : Bool) → (not a || b) ≡ false → a ≡ true
      first_of_both true b is = refl
      first_of_both false b is = absurd (cc)

  pub edit_answering : IsHere bytes born w h p → ((xs : List Edit) → (w.members h.me).live ≡ Some xs → IsToldIn h.block h.chunk p.slot xs) → LeadsWhole w h.me → (req : ReqId) (stamp : Stamp) (op : Op) → ((b : List ℕ) → h.pushed ≡ Some b → b ≡ bytes req) → Answering (Edits stamp req op) bytes born w h p (edit h p req stamp op)
  edit_answering here told whole req stamp op right = done_case (done_in p.slot.live req.client.0) refl (λ new. kept_case h.refused (new_case new))
    where
      found : Option (List ℕ)
      found = bytes_of op None h.pushed

      by_apply : (live : Live) (l : primary.PrimaryLease) → p.slot.live ≡ Some live → p.lease ≡ Some l → is_too_long h.chunk op ≡ false → is_passed h.chunk (length live.replica.held.chunk.bytes) op ≡ false → stamp ≡ l.grant.stamp → unless_there (bytes_of op None h.pushed) ≡ None → (r : Result Slot Refusal) → apply l.grant.stamp (live.replica.held.count + 1) req (in_replica (numbered_op h.chunk (length live.replica.held.chunk.bytes) op)) (applied_bytes (numbered_op h.chunk (length live.replica.held.chunk.bytes) op) (bytes_or_none (bytes_of op None h.pushed))) p.slot ≡ r
          → Answering (Edits stamp req op) bytes born w h p (numbers_if h p l live.replica.held.count (opened req (numbered_op h.chunk (length live.replica.held.chunk.bytes) op) (bytes_or_none (bytes_of op None h.pushed)) live) r)
      by_apply live l is held short fits asked there (Err e) applied = calm stamp req op (refused_edit h p req e) (refuses_answering here req e)
      by_apply live l is held short fits asked there (Ok s) applied =
          either_answering (Edits stamp req op) bytes born w h p (live.replica.held.count == last_count) (refused_edit h p req refusals.Exhausted) (numbers h s l (live.replica.held.count + 1) (opened req (numbered_op h.chunk (length live.replica.held.chunk.bytes) op) (bytes_or_none (bytes_of op None h.pushed)) live))
          (λ last. calm stamp req op (refused_edit h p req refusals.Exhausted) (refuses_answering here req refusals.Exhausted))
          (λ more. subst (λ t. Answering (Edits t req op) bytes born w h p (numbers h s l (live.replica.held.count + 1) (opened req (numbered_op h.chunk (length live.replica.held.chunk.bytes) op) (bytes_or_none (bytes_of op None h.pushed)) live))) (sym asked) (numbered bytes born w h p here told whole req op (bytes_or_none (bytes_of op None h.pushed)) right (there_so (bytes_of op None h.pushed) there) live l is held short fits s applied))

      by_place : is_old req.number (done_in p.slot.live req.client.0) ≡ false → is_too_long h.chunk op ≡ false → unless_there (bytes_of op None h.pushed) ≡ None → (live : Option Live) (lease : Option primary.PrimaryLease) → unless_holding stamp p.slot lease ≡ None → p.slot.live ≡ live → p.lease ≡ lease → Answering (Edits stamp req op) bytes born w h p (numbers_or_passes h p req op (bytes_or_none (bytes_of op None h.pushed)) live lease)
      by_place new short there None lease asked is held = calm stamp req op (refused_edit h p req refusals.NoReplica) (refuses_answering here req refusals.NoReplica)
      by_place new short there (Some live) None asked is held = calm stamp req op (refused_edit h p req refusals.NotPrimary) (refuses_answering here req refusals.NotPrimary)
      by_place new short there (Some live) (Some l) asked is held =
          either_answering (Edits stamp req op) bytes born w h p (is_passed h.chunk (length live.replica.held.chunk.bytes) op) (sending (done h req (Ok Padded) ∷ [])) (numbers_as h p live l (opened req (numbered_op h.chunk (length live.replica.held.chunk.bytes) op) (bytes_or_none (bytes_of op None h.pushed)) live))
          (λ full. passed_answering here whole req stamp op live l is held (asked_is stamp l (not_met (not (is_same stamp l.grant.stamp) || not (is_same l.grant.stamp p.slot.promise)) (refusals.Stamp p.slot.promise) asked)) new short full)
          (λ fits. by_apply live l is held short fits (asked_is stamp l (not_met (not (is_same stamp l.grant.stamp) || not (is_same l.grant.stamp p.slot.promise)) (refusals.Stamp p.slot.promise) asked)) there (apply l.grant.stamp (live.replica.held.count + 1) req (in_replica (numbered_op h.chunk (length live.replica.held.chunk.bytes) op)) (applied_bytes (numbered_op h.chunk (length live.replica.held.chunk.bytes) op) (bytes_or_none (bytes_of op None h.pushed))) p.slot) refl)

      long : List (Option Refusal)
      long = when (is_too_long h.chunk op) refusals.TooLong ∷ []

      bytes_from : unless_numbered h p stamp op ≡ None → first_of (unless_there (bytes_of op None h.pushed) ∷ long) ≡ None
      bytes_from none =
          tail_none (unless_over h.moment p.lease) (unless_there (bytes_of op None h.pushed) ∷ long) (tail_none (unless_holding stamp p.slot p.lease) (unless_over h.moment p.lease ∷ unless_there (bytes_of op None h.pushed) ∷ long)
          (tail_none (unless_live p.slot.live) (unless_holding stamp p.slot p.lease ∷ unless_over h.moment p.lease ∷ unless_there (bytes_of op None h.pushed) ∷ long) none))

      there_from : unless_numbered h p stamp op ≡ None → unless_there (bytes_of op None h.pushed) ≡ None
      there_from none = head_none (unless_there (bytes_of op None h.pushed)) long (bytes_from none)

      short_from : unless_numbered h p stamp op ≡ None → is_too_long h.chunk op ≡ false
      short_from none = not_met (is_too_long h.chunk op) refusals.TooLong (head_none (when (is_too_long h.chunk op) refusals.TooLong) [] (tail_none (unless_there (bytes_of op None h.pushed)) long (bytes_from none)))

      holding_from : unless_numbered h p stamp op ≡ None → unless_holding stamp p.slot p.lease ≡ None
      holding_from none =
          let rest = unless_over h.moment p.lease ∷ unless_there (bytes_of op None h.pushed) ∷ when (is_too_long h.chunk op) refusals.TooLong ∷ [] in
          head_none (unless_holding stamp p.slot p.lease) rest (tail_none (unless_live p.slot.live) (unless_holding stamp p.slot p.lease ∷ rest) none)

      new_case : is_old req.number (done_in p.slot.live req.client.0) ≡ false → Answering (Edits stamp req op) bytes born w h p (new_edit h p req stamp op)
      new_case new = or_answering (Edits stamp req op) bytes born w h p (unless_numbered h p stamp op) (refused_edit h p req) (numbers_or_passes h p req op (bytes_or_none (bytes_of op None h.pushed)) p.slot.live p.lease) (λ e. calm stamp req op (refused_edit h p req e) (refuses_answering here req e)) (λ none. by_place new (short_from none) (there_from none) p.slot.live p.lease (holding_from none) refl refl)

      kept_case : (kept : Option KeptRefusal) → Answering (Edits stamp req op) bytes born w h p (new_edit h p req stamp op) → Answering (Edits stamp req op) bytes born w h p (unless_kept h req kept (new_edit h p req stamp op))
      kept_case None new = new
      kept_case (Some kept) new =
          either_answering (Edits stamp req op) bytes born w h p (nat_lt req.number kept.number) (refused_once h req refusals.Old) (cond (req.number == kept.number) (refused_once h req kept.refusal) (new_edit h p req stamp op)) (λ old. calm stamp req op (refused_once h req refusals.Old) (refused_answering here req (Err refusals.Old) refusals.Old refl))
          (λ later. either_answering (Edits stamp req op) bytes born w h p (req.number == kept.number) (refused_once h req kept.refusal) (new_edit h p req stamp op) (λ same. calm stamp req op (refused_once h req kept.refusal) (refused_answering here req (Err kept.refusal) kept.refusal refl)) (λ other. new))

      eq_same : (a b : ℕ) → (a == b) ≡ true → a ≡ b
      eq_same a b is = grind (arith, nat_tests)

      not_old : (a b : ℕ) → (a == b) ≡ false → nat_lt a b ≡ false → nat_le a b ≡ false
      not_old a b other above = grind (arith, nat_tests)

      done_case : (last : Option Last) → done_in p.slot.live req.client.0 ≡ last → (is_old req.number (done_in p.slot.live req.client.0) ≡ false → Answering (Edits stamp req op) bytes born w h p (unless_kept h req h.refused (new_edit h p req stamp op))) → Answering (Edits stamp req op) bytes born w h p (unless_done h p req last (unless_kept h req h.refused (new_edit h p req stamp op)))
      done_case None got rest = rest (ap (is_old req.number) got)
      done_case (Some last) got rest =
          either_answering (Edits stamp req op) bytes born w h p (req.number == last.number) (repeated h p req last.outcome) (cond (nat_lt req.number last.number) (refused_once h req refusals.Old) (unless_kept h req h.refused (new_edit h p req stamp op)))
          (λ same. calm stamp req op (repeated h p req last.outcome) (repeat_answering bytes born w h p here whole req last got (eq_same req.number last.number same)))
          (λ other. either_answering (Edits stamp req op) bytes born w h p (nat_lt req.number last.number) (refused_once h req refusals.Old) (unless_kept h req h.refused (new_edit h p req stamp op)) (λ old. calm stamp req op (refused_once h req refusals.Old) (refused_answering here req (Err refusals.Old) refusals.Old refl)) (λ above. rest (ap (is_old req.number) got ∙ not_old req.number last.number other above)))
