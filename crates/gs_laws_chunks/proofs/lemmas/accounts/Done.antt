-- An edit that a client was told done was numbered once, or passed a full chunk; and it stays.
use Rattle.std.proofs.Common.{◌≡◌, ◌≢◌, ◌∙◌, ◌++◌, ◌+◌, ◌<◌, ◌≤◌, inl, inr, ℕ, Bool, cond, false, true, List, [], ◌∷◌, length, take, None, Option, Some, refl, sym, ap, subst, arith, append_assoc}
use Rattle.std.specs.Prelude.{◌==◌, is_some, slice_get}
use Rattle.std.specs.FinMap as fin
use Rattle.std.proofs.lemmas.Bool.{cases_lt, true≢false}
use Rattle.std.proofs.lemmas.Bool.Decides.{nat_tests}
use Rattle.std.proofs.lemmas.List.{take_all, take-take, take-append-le, length-append}
use Rattle.std.proofs.lemmas.Option.{slice_get_within}
use Rattle.gs_base.specs.Stamps.{is_before}
use Rattle.gs_base.specs.declared.epoch.EpochEnd.{EpochEnd}
use Rattle.gs_base.specs.declared.epoch.EpochEnd.TheVariants.{Prepare, Rollback}
use Rattle.gs_base.specs.declared.numbers.ReqId.{ReqId}
use Rattle.gs_base.specs.declared.numbers.Stamp.{Stamp}
use Rattle.gs_laws_chunks.specs.accounts.Accounts.{Account, settled_edits, settled_in, text_of, view_at}
use Rattle.gs_laws_chunks.specs.accounts.Running.{Setup}
use Rattle.gs_laws_chunk.proofs.lemmas.machine.Facts.{reached_world}
use Rattle.gs_laws_chunk.proofs.lemmas.machine.Known.{IsPrepared, Later, Settled}
use Rattle.gs_laws_chunk.proofs.lemmas.machine.Lists.{at_end, at_front, take_at, take_from, take_within, there}
use Rattle.gs_laws_chunk.proofs.lemmas.machine.Stamps.{epoch_of-le, epoch_of-start}
use Rattle.gs_laws_chunk.proofs.lemmas.machine.Stays.{one_place}
use Rattle.gs_laws_chunk.proofs.lemmas.machine.Worlds.{WorldOk, leads_later, leads_world, said}
use Rattle.gs_laws_chunk.specs.machine.Laws.{Birth, StandsStill, WasUndone, settled, settled_count}
use Rattle.gs_laws_chunk.specs.machine.Machine as machine
use Rattle.gs_laws_chunk.specs.machine.Machine.{ChunkWorld}
use Rattle.gs_laws_chunk.specs.machine.Owning.{AreOwn}
use Rattle.gs_laws_chunk.specs.machine.Stamps.{epoch_of, stamp_at, start_of}
use Rattle.gs_laws_master.specs.Promises.{IsKept}
use Rattle.gs_lease.specs.declared.view.View.{View}
use Rattle.gs_laws_lift.proofs.lemmas.stores.Numbered.{any_of}
use Rattle.gs_laws_lift.proofs.lemmas.stores.Passing.{passed_has_none}
use Rattle.gs_laws_lift.specs.stores.Numbered.{StandsFirst, any_stamp, asked_under, stamp_in}
use Rattle.gs_laws_lift.specs.stores.Answers.{HasPassed}
use Rattle.gs_laws_lift.specs.stores.Going.{AllSent}
use Rattle.gs_laws_lift.specs.stores.Owning.{IsAskedEdit, WasAskedFor}
use Rattle.gs_laws_lift.specs.stores.Saying.{PushRight}
use Rattle.gs_laws_lift.specs.stores.Showing.{setting}
use Rattle.gs_laws_lift.specs.stores.Telling.{EditsStandFirst}
use Rattle.gs_laws_lift.specs.stores.Waiting.{AsksFor}
use Rattle.gs_laws_parts.proofs.lemmas.server.Reading.{answered_stays, passed_on}
use Rattle.gs_laws_parts.proofs.lemmas.server.Stamps.{before_less, epoch_is, stamp_number}
use Rattle.gs_laws_parts.specs.server.Answering.{IsAnswered, IsPassed}
use Rattle.gs_laws_parts.specs.server.Requests.{Asked, IsOfOneEdit, named}
use Rattle.gs_laws_parts.specs.server.Showing.{Setting}
use Rattle.gs_server_lease.specs.Numbering.{is_passed, is_too_long}
use Rattle.gs_master_record.specs.declared.checkpoint.Phase.{Phase}
use Rattle.gs_replica.specs.Stands.{Edit, outcome_at}
use Rattle.gs_replica.specs.declared.op.EditOutcome.{EditOutcome}
use Rattle.gs_world.proofs.Sending.{sent_still}
use Rattle.gs_world.specs.Histories.{History}
use Rattle.gs_world.specs.Runs.{StaySent}
use Rattle.gs_master_spec.specs.Applied.{view_in}
use Rattle.gs_master_spec.specs.Durable.{Durable, Settled as SettledRow, is_listed}
use Rattle.gs_master_spec.specs.Whole.{are_ends}
use Rattle.gs_laws_chunks.proofs.lemmas.accounts.Asked.{is_asked, same_write}
use Rattle.gs_laws_chunks.proofs.lemmas.accounts.Surviving.{both_true}
use Rattle.gs_laws_chunks.proofs.lemmas.accounts.Viewing.{IsViewed, viewed}
use Rattle.gs_laws_chunks.specs.accounts.Acknowledged.{IsAskedHere, IsNumbered, IsSettledStill, PassedFull, is_undone}
use Rattle.gs_laws_chunks.specs.accounts.Joined.{IsSeen, SeenOn}
use Rattle.gs_laws_chunks.specs.accounts.SeenEdits.{SeenDonesStay, WerePushed}

-- ---- lists

at_middle : {X : Type 0} (xs : List X) (y : X) (ys : List X) → slice_get (xs ++ y ∷ ys) (length xs) ≡ Some y
at_middle xs y ys = subst (λ zs. slice_get zs (length xs) ≡ Some y) (append_assoc xs (y ∷ []) ys) (at_front (xs ++ y ∷ []) ys (length xs) y (at_end xs y))

front_of : {X : Type 0} (xs ys : List X) → take (length xs) (xs ++ ys) ≡ xs
front_of xs ys = take-append-le (length xs) xs ys (omega arith) ∙ take_all (length xs) xs (omega arith)

pub some_of : {X : Type 0} (o : Option X) → is_some o ≡ true → (x : X) × (o ≡ Some x)
some_of None is = absurd (cc)
some_of (Some x) is = (x, refl)

-- ---- what was asked for

-- a request asks for an edit of one chunk, under one stamp
asked_here : (chunk handle : ℕ) (under stamp : Stamp) → cond (chunk == handle) (Some under) None ≡ Some stamp → (handle ≡ chunk) × (under ≡ stamp)
asked_here chunk handle under stamp is = by_handle (chunk == handle) refl is
  where
    by_handle : (b : Bool) → (chunk == handle) ≡ b → cond b (Some under) None ≡ Some stamp → (handle ≡ chunk) × (under ≡ stamp)
    by_handle true here same = (grind (arith, nat_tests), cc)
    by_handle false apart none = absurd (cc)

-- ---- epochs

pub undone_is : (d : Durable) (s : Stamp) → slice_get d.ends s.epoch ≡ Some Rollback → is_undone d s ≡ true
undone_is d s is = rw is refl

pub ends_long : (past : List EpochEnd) (epoch : ℕ) (phase : Phase) → are_ends past epoch phase ≡ true → length past ≡ epoch
ends_long past epoch phase is = (let same = (both_true (length past == epoch) _ is).0 in grind (arith, nat_tests))

-- ---- what the machine has done

module _ {D : Type 0} (x : Setup D) (bytes : ReqId → List ℕ) (chunk : ℕ) (now : History D) (a : Account) (first : IsSeen x bytes chunk now a) (outcome : EditOutcome) where
  abbrev w : ChunkWorld
  w = first.alive.world

  abbrev c : Setting
  c = setting x.config bytes first.alive.reached.0.epoch

  ok : WorldOk w
  ok = reached_world w first.alive.reached

  -- a full chunk has passed it on
  module _ (asked : ℕ → Asked) (req : ReqId) (told : EditsStandFirst x.seen x.config bytes asked w.known chunk) (one : AllSent (IsOfOneEdit asked) now.sent) (has : HasPassed asked chunk now.sent c w req outcome) where
    none_stands : (under : Stamp) (place : ℕ) (edit : Edit) → slice_get (a.list chunk under) place ≡ Some edit → edit.req ≢ req
    none_stands under place edit stands = elim (first.agrees.others under) [
      | inl none ↦ absurd (let nothing : slice_get (a.list chunk under) place ≡ None = ap (λ xs. slice_get xs place) none in cc)
      | inr (u, at_u, late, stood, same) ↦ passed_has_none x.seen x.config bytes asked first.alive.reached.0.epoch chunk now.sent w req outcome told has u place edit (subst (λ xs. slice_get xs place ≡ Some edit) same stands)
    ]

    p : IsPassed c w has.under req has.op outcome
    p = has.passed

    -- the account has seen the view under which it was asked for, since a server might number in it
    list_under : a.list chunk has.under ≡ w.known.list p.stamp
    list_under = ap (a.list chunk) p.under_is ∙ elim (first.agrees.lists.own p.stamp p.led.stood p.led.late) [
      | inl same ↦ same
      | inr unseen ↦ absurd (let held = p.led.holder in let free = unseen.free in cc)
    ]

    passed : PassedFull x.config.chunk now.sent a chunk req outcome
    passed = record {
      padded = p.padded;
      stamp = has.under;
      was = (has.message, has.op, has.was, has.says);
      asked = λ message handle under op was says.
          let e = (one was.0 message was.1).edits handle req under op says in
          let same = same_write handle chunk e.0 has.members e.1 has.primary under has.under op has.op _ _ (sym e.2 ∙ has.asks) in
          (same.0, same.1, ap (is_too_long x.config.chunk) same.2 ∙ p.short, ap (is_passed x.config.chunk x.config.chunk) same.2 ∙ p.passed);
      count = length p.before;
      full = ap (λ xs. length (text_of x.config.chunk xs)) (ap (take (length p.before)) (list_under ∙ p.stands) ∙ front_of p.before p.behind) ∙ p.full;
      none = none_stands;
    }

  module _ (asked : ℕ → Asked) (me : ℕ) (req : ReqId) (told : EditsStandFirst x.seen x.config bytes asked w.known chunk) (right : AllSent (PushRight bytes) now.sent) (one : AllSent (IsOfOneEdit asked) now.sent) (heard : AreOwn (λ before edit. WasAskedFor now.sent edit) w.known) (pushed : WerePushed now.sent a chunk) (asks : AsksFor asked chunk req) (answer : IsAnswered c w me req outcome) where
    abbrev t : ℕ
    t = answer.stamp

    abbrev place : ℕ
    place = length answer.before

    abbrev edit : Edit
    edit = answer.edit

    at : slice_get (w.known.list t) place ≡ Some edit
    at = ap (λ xs. slice_get xs place) answer.stands ∙ at_middle answer.before edit answer.behind

    settled_there : Settled w.known t place edit
    settled_there = said w ok me (machine.Done t place edit) answer.told

    under : (s : Stamp) × (asked_under asked chunk req ≡ Some s)
    under = some_of (asked_under asked chunk req) asks

    of_edit : asked_under asked chunk edit.req ≡ Some under.0
    of_edit = ap (asked_under asked chunk) answer.req ∙ under.1

    f : StandsFirst w.known t place under.0
    f = told.first t place edit under.0 at of_edit

    abbrev number : ℕ
    number = f.number

    at_number : slice_get (w.known.list number) place ≡ Some edit
    at_number = take_from (w.known.list number) (place + 1) place edit (subst (λ xs. slice_get xs place ≡ Some edit) (sym f.same) (take_at (w.known.list t) (place + 1) place edit (omega arith) at))

    -- the view in which it was numbered is one that the account has seen
    list_is : a.list chunk (stamp_at number) ≡ w.known.list number
    list_is = elim (first.agrees.lists.own number f.stood f.late) [
      | inl same ↦ same
      | inr unseen ↦
          let lower = told.first unseen.lower place edit under.0 (subst (λ xs. slice_get xs place ≡ Some edit) (sym unseen.begins.1) (at_front (w.known.list number) unseen.begins.0 place edit at_number)) of_edit in
          let same : lower.number ≡ number = stamp_number lower.number number (sym lower.is ∙ f.is) in
          absurd (let within = lower.within in let below = unseen.below in omega arith)
    ]

    before_it : take place (w.known.list number) ≡ answer.before
    before_it =
        sym (take-take place (place + 1) (w.known.list number) (omega arith)) ∙ ap (take place) f.same ∙ take-take place (place + 1) (w.known.list t) (omega arith)
        ∙ ap (take place) answer.stands ∙ front_of answer.before (edit ∷ answer.behind)

    -- no list of a lower stamp has an edit of the request
    none_lower : (lower : Stamp) (other : ℕ) (another : Edit) → is_before lower (stamp_at number) ≡ true → slice_get (a.list chunk lower) other ≡ Some another → another.req ≢ req
    none_lower lower other another below stands is = elim (first.agrees.others lower) [
      | inl none ↦ absurd (let nothing : slice_get (a.list chunk lower) other ≡ None = ap (λ xs. slice_get xs other) none in cc)
      | inr (u, at_u, late, stood, same) ↦
          let less = before_less u number (subst (λ s. is_before s (stamp_at number) ≡ true) at_u below) in
          let within = told.earlier u late stood other another (subst (λ xs. slice_get xs other ≡ Some another) same stands) number
          (ap (λ r. any_stamp (named asked r)) is ∙ any_of chunk (named asked req) under.0 under.1 ∙ ap Some f.is) in
          absurd (omega arith)
    ]

    -- it is the one that was asked for
    own : IsAskedEdit bytes asked x.config.chunk (take place (a.list chunk (stamp_at number))) edit
    own = subst (λ xs. IsAskedEdit bytes asked x.config.chunk (take place xs) edit) (sym list_is) (told.own number place edit at_number)

    own_here : (own.handle ≡ chunk) × (own.stamp ≡ under.0)
    own_here = asked_here chunk own.handle own.stamp under.0 (ap (stamp_in chunk) (sym own.asks ∙ ap (named asked) answer.req) ∙ under.1)

    is_asked_here : IsAskedHere x.config.chunk now.sent chunk req (stamp_at number) (take place (a.list chunk (stamp_at number))) edit
    is_asked_here =
        subst (λ s. IsAskedHere x.config.chunk now.sent chunk req s (take place (a.list chunk (stamp_at number))) edit) (own_here.1 ∙ f.is)
        (subst (λ h. IsAskedHere x.config.chunk now.sent h req own.stamp (take place (a.list chunk (stamp_at number))) edit) own_here.0
        (subst (λ r. IsAskedHere x.config.chunk now.sent own.handle r own.stamp (take place (a.list chunk (stamp_at number))) edit) answer.req
        (is_asked bytes asked x.config.chunk now.sent right one (take place (a.list chunk (stamp_at number))) edit own (heard number place edit at_number) (pushed (stamp_at number) place edit (ap (λ xs. slice_get xs place) list_is ∙ at_number)))))

    numbered : IsNumbered x.config.chunk now.sent a chunk req outcome
    numbered = record {
      stamp = stamp_at number;
      place = place;
      once = record {
        edit = edit;
        stands = ap (λ xs. slice_get xs place) list_is ∙ at_number;
        is = answer.req;
        once = λ other another stands is. one_place w.known ok.known number place other edit another at_number (ap (λ xs. slice_get xs other) (sym list_is) ∙ stands) (ap (λ r. r.client.0) (is ∙ sym answer.req)) (ap (λ r. r.number) (is ∙ sym answer.req));
      };
      first = none_lower;
      asked = is_asked_here;
      answered = answer.is ∙ ap (λ xs. outcome_at edit.op (length (text_of x.config.chunk xs))) (sym (ap (take place) list_is ∙ before_it));
    }

    -- ---- later

    module _ (later : History D) (b : Account) (last : IsSeen x bytes chunk later b) (on : SeenOn x bytes chunk now a later b first last) (kept : IsKept b.durable) (listed : is_listed b.durable chunk ≡ true) where
      abbrev v : ChunkWorld
      v = last.alive.world

      okv : WorldOk v
      okv = leads_world w v on.leads ok

      on_known : Later w.known v.known
      on_known = leads_later w v on.leads ok

      row : (y : SettledRow) × (fin.get b.durable.chunks chunk ≡ Some y)
      row = some_of (fin.get b.durable.chunks chunk) (kept.settled chunk listed)

      abbrev view : View
      view = row.0.view

      view_is : view_at b chunk ≡ Some view
      view_is = ap view_in row.1

      is_viewed : IsViewed b chunk v view
      is_viewed = viewed x bytes chunk later b last view listed view_is

      settled_is : settled_edits b chunk ≡ settled v
      settled_is = ap (settled_in b chunk) view_is ∙ is_viewed.settled

      -- ---- the upgrade within which it was numbered was rolled back

      module _ (u : WasUndone v t place) where
        epoch_now : epoch_of t ≤ w.known.current
        epoch_now = (let s = settled_there in let within = s.within in let up = (ok.known).viewtop in let one = epoch_of-le t w.known.top (omega arith) in let two = (ok.known).topepoch in omega arith)

        how : (n : ℕ) → v.entry.how n ≡ v.known.how n
        how n = (okv.entry).how n

        prepared_w : IsPrepared w.known u.e
        prepared_w =
            let same = u.is in
            let here = epoch_now in
            (omega arith, sym (on_known.how u.e (omega arith)) ∙ sym (how u.e) ∙ u.prepare, sym (on_known.kept u.e (omega arith)) ∙ u.known)

        same_prepared : v.known.prepared u.e ≡ w.known.prepared u.e
        same_prepared = on_known.prepared u.e prepared_w.0

        -- it was numbered behind the prepare: else it would stand in the prepared list
        behind : w.known.prepared u.e < number
        behind = elim (cases_lt (w.known.prepared u.e) number) [
          | inl is ↦ is
          | inr low ↦
              let same = same_prepared in
              let after = u.after in
              let s = settled_there in
              let short : place < length (w.known.list (w.known.prepared u.e)) =
              subst (λ n. n ≤ w.known.current → w.known.how n ≡ Prepare → w.known.kept n ≡ true → number ≤ w.known.prepared n → w.known.prepared n < t → place < length (w.known.list (w.known.prepared n))) u.is
              (f.prepared s.within s.stood) prepared_w.0 prepared_w.1 prepared_w.2 low (omega arith) in
              let more = on_known.list (w.known.prepared u.e) ((ok.known).before u.e prepared_w) in
              let long : length (v.known.list (w.known.prepared u.e)) ≡ length (w.known.list (w.known.prepared u.e) ++ more.0) = ap length more.1 in
              let past : length (v.known.list (w.known.prepared u.e)) ≤ place = subst (λ n. length (v.known.list n) ≤ place) same u.past in
              absurd (omega (arith, length-append (w.known.list (w.known.prepared u.e)) more.0))
        ]

        epoch_is_so : epoch_of number ≡ u.e
        epoch_is_so =
            let s = settled_there in
            let within = s.within in
            let low = f.within in
            let link = (ok.known).links number f.late (omega arith) f.stood in
            let rises = epoch_of-le number t low in
            let same = u.is in
            let over = behind in
            elim (link.legit u.e prepared_w) [ inl never ↦ absurd (omega arith) | inr above ↦ omega arith ]

        within_epoch : u.e + 1 ≤ b.durable.epoch
        within_epoch =
            let accepted = u.accepted in
            let stamp = (okv.entry).stamp in
            let up = (okv.known).viewtop in
            let rises = epoch_of-le (start_of (u.e + 1)) v.known.top (omega arith) in
            let start = epoch_of-start (u.e + 1) in
            let top = (okv.known).topepoch in
            let same = (okv.entry).epoch in
            let told = last.told.epoch in
            omega arith

        undone : is_undone b.durable (stamp_at number) ≡ true
        undone =
            let long = ends_long b.durable.ends b.durable.epoch b.durable.phase kept.ends in
            let within = within_epoch in
            let end = there b.durable.ends u.e (omega arith) in
            let is : Rollback ≡ end.0 = sym u.rollback ∙ (last.told.how u.e end.0 end.1).1 in
            undone_is b.durable (stamp_at number) (ap (slice_get b.durable.ends) (epoch_is number ∙ epoch_is_so) ∙ end.1 ∙ ap Some (sym is))

      -- ---- or it is settled still

      module _ (still : StandsStill v t place edit) where
        within : place < settled_count v
        within = take_within (v.known.list v.entry.view.stamp) (settled_count v) place edit still.counted

        same_then : take (place + 1) (settled_edits b chunk) ≡ take (place + 1) (a.list chunk (stamp_at number))
        same_then =
            let s = settled_there in
            let more = on_known.list t s.within in
            let inside = slice_get_within (w.known.list t) place edit at in
            let low = within in
            ap (take (place + 1)) settled_is ∙ take-take (place + 1) (settled_count v) (v.known.list v.entry.view.stamp) (omega arith) ∙ still.before
            ∙ ap (take (place + 1)) more.1 ∙ take-append-le (place + 1) (w.known.list t) more.0 (omega arith) ∙ sym f.same ∙ ap (take (place + 1)) (sym list_is)

        one_there : (other : ℕ) (another : Edit) → slice_get (settled_edits b chunk) other ≡ Some another → another.req ≡ req → other ≡ place
        one_there other another stands is =
            one_place v.known okv.known v.entry.view.stamp place other edit another (take_from (v.known.list v.entry.view.stamp) (settled_count v) place edit still.counted)
            (take_from (v.known.list v.entry.view.stamp) (settled_count v) other another (ap (λ xs. slice_get xs other) (sym settled_is) ∙ stands)) (ap (λ r. r.client.0) (is ∙ sym answer.req)) (ap (λ r. r.number) (is ∙ sym answer.req))

        settled_still : IsSettledStill a b chunk req (stamp_at number) place
        settled_still = record { same = same_then; once = record { edit = edit; stands = ap (λ xs. slice_get xs place) settled_is ∙ still.counted; is = answer.req; once = one_there } }

      stays : is_undone b.durable (stamp_at number) ≡ false → IsSettledStill a b chunk req (stamp_at number) place
      stays spared = elim ((answered_stays c w v first.alive.reached on.leads me req outcome answer).1 is_viewed.stood) [
        | inl u ↦ absurd (true≢false (sym (undone u) ∙ spared))
        | inr still ↦ settled_still still
      ]

-- ---- what was passed, later

module _ {D : Type 0} (x : Setup D) (bytes : ReqId → List ℕ) (asked : ℕ → Asked) (chunk : ℕ) (req : ReqId) (outcome : EditOutcome) (now later : History D) (a b : Account)
    (first : IsSeen x bytes chunk now a) (last : IsSeen x bytes chunk later b) (on : SeenOn x bytes chunk now a later b first last) (stays : StaySent now.sent later.sent) where
  passed_still : HasPassed asked chunk now.sent (setting x.config bytes first.alive.reached.0.epoch) first.alive.world req outcome → HasPassed asked chunk later.sent (setting x.config bytes last.alive.reached.0.epoch) last.alive.world req outcome
  passed_still has = subst (λ epoch. HasPassed asked chunk later.sent (setting x.config bytes epoch) last.alive.world req outcome) (sym (ap (λ (z : Birth). z.epoch) on.same)) (record {
    members = has.members;
    primary = has.primary;
    under = has.under;
    op = has.op;
    bytes = has.bytes;
    asks = has.asks;
    message = has.message;
    was = sent_still has.message now.sent later.sent stays has.was;
    says = has.says;
    passed = passed_on (setting x.config bytes first.alive.reached.0.epoch) first.alive.world last.alive.world first.alive.reached on.leads has.under req has.op outcome has.passed;
  })

pub dones_stay : {D : Type 0} (x : Setup D) (bytes : ReqId → List ℕ) → SeenDonesStay x bytes
unfolding f numbered
dones_stay x bytes asked chunk me req outcome now later a b first last on stays_sent told told_later right one one_later heard pushed asks kept has = elim has [
  | inr has ↦ inl (passed x bytes chunk now a first outcome asked req told one has, passed x bytes chunk later b last outcome asked req told_later one_later (passed_still x bytes asked chunk req outcome now later a b first last on stays_sent has))
  | inl answer ↦ inr (numbered x bytes chunk now a first outcome asked me req told right one heard pushed asks answer, λ listed spared. stays x bytes chunk now a first outcome asked me req told right one heard pushed asks answer later b last on kept listed spared)
]
