-- What records and changes make of the replies that are kept.
use Rattle.std.proofs.Common.{◌≡◌, ◌⊎◌, inl, inr, ◌∙◌, ◌&&◌, ◌||◌, ◌==◌, ◌++◌, ℕ, zero, suc, Bool, true, false, not, cond, List, [], ◌∷◌, refl, ap, sym, subst, arith}
use Rattle.std.specs.Prelude.{is_some, nat_lt, option_and_then, option_map, position, slice_set, Option, Some, None, Result, Ok, Err, if◌then◌else◌, unwrap_or}
use Rattle.std.specs.Cmp.{Equal-is, IsTotalOrder, nat_cmp_total, on_total}
use Rattle.std.specs.FinMap as fin
use Rattle.std.specs.List.{AllByRecursion}
use Rattle.std.specs.Ordering.{eq_by_cmp, nat_cmp}
use Rattle.std.proofs.lemmas.Bool.{false≢true, and_parts}
use Rattle.std.proofs.lemmas.Bool.Decides.{nat_tests}
use Rattle.gs_base.specs.declared.numbers.ClientId.{ClientId}
use Rattle.gs_base.specs.declared.numbers.ReqId.{ReqId}
use Rattle.gs_base.specs.declared.refusal.Refusal.{Refusal}
use Rattle.gs_base.specs.declared.epoch.EpochEnd.TheVariants as ends
use Rattle.gs_edit.specs.View.{NamesView}
use Rattle.gs_lease.specs.declared.view.View.{View}
use Rattle.gs_lock.specs.Operations.{same_op}
use Rattle.gs_msg.specs.declared.answer.Answer.{Answer}
use Rattle.gs_master_record.specs.Plain.{AddChunk, Cow, Create, Edited, Finalize, Forget, Hide, Holder, Mkdirs, PlainCheckpoint, PlainEdit, PlainEntry, PlainReply, Prepare, Propose, Remove, Rename, RollbackBegin, RollbackCommit, Said, Settle, Snapshot, Unhide, Whole}
use Rattle.gs_master_record.specs.declared.checkpoint.Phase.TheVariants.{Ordinary, Rolling, Upgrade}
use Rattle.gs_master_record.specs.declared.entry.SettledView.{SettledView}
use Rattle.gs_master_record.specs.declared.entry.Answered.{Answered}
use Rattle.gs_master_spec.specs.Applied.{after_edit, after_undoing, applied, are_answers, are_at_rest, chunk_of_edit, held_by, if_fits, is_next_epoch, may_be_settled, may_edit, may_propose, proposed, replayed, rolled_back, view_for, with_answer, with_edit, with_epoch, with_reply, with_view, without_prepared}
use Rattle.gs_master_spec.specs.Durable.{Durable, is_ordinary, is_rolling, is_upgrade, prepared_view, with_prepared}
use Rattle.gs_master_spec.specs.Replies.{answer_to, client_cmp, is_later, told_result}
use Rattle.gs_master_spec.specs.Undoing.{all_undone, edited_names}
use Rattle.gs_master_spec.specs.Volatile.{Volatile, all_changed, changed, is_pending, waits_at, without_pending}
use Rattle.gs_master_spec.specs.Whole.{durable_with, if_it_can, is_whole, can_go_back, told_replies, whole_of}
use Rattle.gs_master_spec.specs.declared.change.Change.{Change}
use Rattle.gs_master_spec.specs.declared.change.Change.TheVariants as changes
use Rattle.gs_master_spec.specs.declared.pending.Pending.{Pending}
use Rattle.gs_master_spec.specs.declared.pending.Waiting.{Waiting}
use Rattle.gs_master_spec.specs.declared.reply.KeptReply.{KeptReply}
use Rattle.gs_laws_moves.specs.answers.Concerned.{IsAtRest, IsToldIn, Keeps, KeepsOn, KeptAreTold, OneTells, TellsOf, TellsReply, answered_by, tells_nobody}

pub client_total : IsTotalOrder client_cmp
client_total = on_total (λ (c : ClientId). c.0) nat_cmp_total

same_key : (q k : ℕ) → eq_by_cmp nat_cmp q k ≡ true → q ≡ k
same_key q k tied = fin.nat_cmp-IsAntisymmetric q k ((Equal-is (nat_cmp q k)).0 tied)

pub same_client : (a b : ClientId) → eq_by_cmp client_cmp a b ≡ true → a ≡ b
same_client a b h = (let e : a.0 ≡ b.0 = same_key a.0 b.0 h in (λ i. record { 0 = e i }))

pub some_is : {a b : KeptReply} → ◌≡◌ {A = Option KeptReply} (Some a) (Some b) → a ≡ b
some_is h = cc

durable_is : {a b : Durable} → ◌≡◌ {A = Option Durable} (Some a) (Some b) → a ≡ b
durable_is h = cc

pub fits_gives : (b : Bool) (n next : Durable) → if_fits b n ≡ Some next → n ≡ next
fits_gives true n next e = durable_is e
fits_gives false n next e = absurd (false≢true (ap is_some e))

pub same_calls : (a b : ReqId) → same_op a b ≡ true → a ≡ b
same_calls a b h =
    let parts = and_parts (a.client.0 == b.client.0) (a.number == b.number) h in
    let c = equal a.client.0 b.client.0 parts.0 in
    let n = equal a.number b.number parts.1 in
    (λ i. record { client = record { 0 = c i }; number = n i })
  where
    equal : (x y : ℕ) → (x == y) ≡ true → x ≡ y
    equal x y is = grind (arith, nat_tests)

pub itself : (a : ReqId) → same_op a a ≡ true
itself a = both (a.client.0 == a.client.0) (a.number == a.number) (equal a.client.0) (equal a.number)
  where
    equal : (x : ℕ) → (x == x) ≡ true
    equal x = grind (arith, nat_tests)

    both : (x y : Bool) → x ≡ true → y ≡ true → (x && y) ≡ true
    both true y first second = second
    both false y first second = absurd (false≢true first)

-- ---- what is at rest

pub rest : (d : Durable) → IsAtRest d d
rest d = record { names = refl; hidden = refl; phase = refl; epoch = refl; replies = refl }

pub rest_then : (d e f : Durable) → IsAtRest d e → IsAtRest e f → IsAtRest d f
rest_then d e f a b = record { names = b.names ∙ a.names; hidden = b.hidden ∙ a.hidden; phase = b.phase ∙ a.phase; epoch = b.epoch ∙ a.epoch; replies = b.replies ∙ a.replies }

rest_or : (b : Bool) (d n : Durable) → IsAtRest d n → IsAtRest d (unwrap_or (if_fits b n) d)
rest_or true d n is = is
rest_or false d n is = rest d

pub proposal_rests : (d : Durable) (chunk version : ℕ) → IsAtRest d (unwrap_or (applied d (Propose chunk version)) d)
unfolding applied
proposal_rests d chunk version = rest_or (may_propose d.phase d.next_handle d.next_version chunk version (fin.get d.chunks chunk)) d (proposed d chunk version) (record { names = refl; hidden = refl; phase = refl; epoch = refl; replies = refl })

pub settling_rests : (d : Durable) (v : SettledView) → IsAtRest d (unwrap_or (applied d (Settle v)) d)
unfolding applied
settling_rests d v = rest_or (may_be_settled d v) d (with_view d v) (record { names = refl; hidden = refl; phase = refl; epoch = refl; replies = refl })

pub holder_rests : (d : Durable) (chunk server : ℕ) → IsAtRest d (unwrap_or (applied d (Holder chunk server)) d)
unfolding applied
holder_rests d chunk server =
    rest_or (is_upgrade d.phase && (nat_lt server 16 && is_some (prepared_view d chunk))) d (record d { prepared = with_prepared d chunk (held_by server (prepared_view d chunk)) }) (record { names = refl; hidden = refl; phase = refl; epoch = refl; replies = refl })

-- ---- replies of some kind

module _ (P : ReqId → Type 0) where
  abbrev On : fin.FinMap client_cmp KeptReply → fin.FinMap client_cmp KeptReply → Type 0
  On old new = KeepsOn P old new

  pub on_still : (m n : fin.FinMap client_cmp KeptReply) → n ≡ m → On m n
  on_still m n is client reply has = inl (ap (λ x. fin.get x client) (sym is) ∙ has)

  pub on_then : (a b c : fin.FinMap client_cmp KeptReply) → On a b → On b c → On a c
  on_then a b c first second client reply has = by (second client reply has)
    where
      by : (fin.get b client ≡ Some reply) ⊎ P (answered_by client reply) → (fin.get a client ≡ Some reply) ⊎ P (answered_by client reply)
      by (inl kept) = first client reply kept
      by (inr is) = inr is

  pub inserted : (m : fin.FinMap client_cmp KeptReply) (to : ClientId) (reply : KeptReply) → P (answered_by to reply) → On m (fin.insert m to reply)
  inserted m to reply is client other has = by_key (eq_by_cmp client_cmp client to) refl (sym (fin.get-insert client_total m to reply client) ∙ has)
    where
      by_key : (b : Bool) → eq_by_cmp client_cmp client to ≡ b → cond b (Some reply) (fin.get m client) ≡ Some other → (fin.get m client ≡ Some other) ⊎ P (answered_by client other)
      by_key true same h = inr (subst (λ (r : KeptReply). P (answered_by client r)) (some_is h) (subst (λ (c : ClientId). P (answered_by c reply)) (sym (same_client client to same)) is))
      by_key false apart h = inl h

  replied : (m : fin.FinMap client_cmp KeptReply) (to : ReqId) (result : Result Answer Refusal) → P to → On m (with_reply m to result)
  replied m to result is = by_test (is_later (fin.get m to.client) to.number)
    where
      reply : KeptReply
      reply = record { number = to.number; result = result }

      by_test : (b : Bool) → On m (if b then fin.insert m to.client reply else m)
      by_test true = inserted m to.client reply is
      by_test false = on_still m m refl

  answered : (m : fin.FinMap client_cmp KeptReply) (to : ReqId) (answer : Option Answer) → P to → On m (with_answer m to answer)
  answered m to None is = on_still m m refl
  answered m to (Some answer) is = replied m to (Ok answer) is

  -- an edit of the master's own
  nobody : (m : fin.FinMap client_cmp KeptReply) (to : ReqId) (edit : PlainEdit) (view : Option View) (epoch : ℕ) → tells_nobody edit ≡ true → On m (with_answer m to (answer_to edit view epoch))
  nobody m to (Remove p) view epoch none = on_still m m refl
  nobody m to (Cow p index old new) view epoch none = on_still m m refl
  nobody m to (Forget chunks) view epoch none = on_still m m refl
  nobody m to (Mkdirs p) view epoch none = absurd (false≢true none)
  nobody m to (Create p) view epoch none = absurd (false≢true none)
  nobody m to (Rename from p) view epoch none = absurd (false≢true none)
  nobody m to (Hide p moment number) view epoch none = absurd (false≢true none)
  nobody m to (Unhide p) view epoch none = absurd (false≢true none)
  nobody m to (AddChunk p chunk) view epoch none = absurd (false≢true none)
  nobody m to (Snapshot from p) view epoch none = absurd (false≢true none)

  told_edit : (m : fin.FinMap client_cmp KeptReply) (by : ReqId) (edit : PlainEdit) (view : Option View) (epoch : ℕ) → (tells_nobody edit ≡ true) ⊎ P by → On m (with_answer m by (answer_to edit view epoch))
  told_edit m by edit view epoch (inl none) = nobody m by edit view epoch none
  told_edit m by edit view epoch (inr is) = answered m by (answer_to edit view epoch) is

  -- ---- a record but a checkpoint

  abbrev pub RecordSo : PlainEntry → Type 0
  RecordSo (Whole c) = ⊥
  RecordSo entry = TellsOf P entry

  abbrev pub AreRecords : List PlainEntry → Type 0
  AreRecords entries = AllByRecursion RecordSo entries

  same_replies : (d e : Durable) → e.replies ≡ d.replies → On d.replies e.replies
  same_replies d e is = on_still d.replies e.replies is

  given : (b : Bool) (d n e : Durable) → n.replies ≡ d.replies → if_fits b n ≡ Some e → On d.replies e.replies
  given b d n e still fit = same_replies d e (ap (λ (x : Durable). x.replies) (sym (fits_gives b n e fit)) ∙ still)

  edited_so : (d e : Durable) (by : ReqId) (edit : PlainEdit) (names : Result NamesView Refusal) → (tells_nobody edit ≡ true) ⊎ P by → after_edit d by edit names ≡ Some e → On d.replies e.replies
  edited_so d e by edit (Ok names) is fit =
      subst (On d.replies) (ap (λ (x : Durable). x.replies) (fits_gives (may_edit d edit) (with_edit d by edit names) e fit)) (told_edit d.replies by edit (view_for d (chunk_of_edit edit)) d.epoch is)
  edited_so d e by edit (Err refusal) is fit = absurd (false≢true (ap is_some fit))

  undone_so : (d e : Durable) (now : ℕ) (told : List Answered) (names : Option NamesView) → after_undoing d now told names ≡ Some e → On d.replies e.replies
  undone_so d e now told None fit = absurd (false≢true (ap is_some fit))
  undone_so d e now told (Some names) fit = given (is_rolling d.phase && ((now == d.epoch) && are_answers (prepared_view d) (fin.entries names.refs) told)) d (rolled_back d told names) e refl fit

  pub record_so : (d e : Durable) (entry : PlainEntry) → RecordSo entry → applied d entry ≡ Some e → On d.replies e.replies
  unfolding applied
  record_so d e (Edited by edit) is fit = edited_so d e by edit (edited_names edit d.names) is fit
  record_so d e (Said to refusal) is fit = subst (On d.replies) (ap (λ (x : Durable). x.replies) (durable_is fit)) (replied d.replies to (Err refusal) is)
  record_so d e (Propose q version) is fit = given (may_propose d.phase d.next_handle d.next_version q version (fin.get d.chunks q)) d (proposed d q version) e refl fit
  record_so d e (Settle v) is fit = given (may_be_settled d v) d (with_view d v) e refl fit
  record_so d e (Holder q server) is fit =
      given (is_upgrade d.phase && (nat_lt server 16 && is_some (prepared_view d q))) d (record d { prepared = with_prepared d q (held_by server (prepared_view d q)) }) e refl fit
  record_so d e (Prepare now moment chunks) is fit = given (is_ordinary d.phase && (is_next_epoch d.epoch now && are_at_rest d)) d (without_prepared (with_epoch d ends.Prepare Upgrade)) e refl fit
  record_so d e (Finalize now) is fit = given (is_upgrade d.phase && is_next_epoch d.epoch now) d (without_prepared (with_epoch d ends.Finalize Ordinary)) e refl fit
  record_so d e (RollbackBegin now) is fit = given (is_upgrade d.phase && is_next_epoch d.epoch now) d (with_epoch d ends.Rollback Rolling) e refl fit
  record_so d e (RollbackCommit now told) is fit = undone_so d e now told (all_undone d.inverses d.names) fit
  record_so d e (Whole c) is fit = absurd is

  -- one that is done, or passed over where it doesn't fit
  pub done_so : (d : Durable) (entry : PlainEntry) → RecordSo entry → On d.replies (unwrap_or (applied d entry) d).replies
  done_so d entry is = by_gives (applied d entry) refl
    where
      by_gives : (o : Option Durable) → applied d entry ≡ o → On d.replies (unwrap_or o d).replies
      by_gives None was = on_still d.replies d.replies refl
      by_gives (Some e) was = record_so d e entry is was

  -- ---- what waits, and is kept in memory

  abbrev pub AllIn : List Pending → Type 0
  AllIn ps = AllByRecursion (λ (p : Pending). P p.req) ps

  one_more : (ps : List Pending) (p : Pending) → AllIn ps → P p.req → AllIn (ps ++ p ∷ [])
  one_more [] p all is = (is, tt)
  one_more (q ∷ ps) p all is = (all.0, one_more ps p all.1 is)

  set_in : (ps : List Pending) (place : ℕ) (p : Pending) → AllIn ps → P p.req → AllIn (slice_set ps place p)
  set_in [] place p all is = tt
  set_in (q ∷ ps) zero p all is = (is, all.1)
  set_in (q ∷ ps) (suc place) p all is = (all.0, set_in ps place p all.1 is)

  waits_so : (ps : List Pending) (req : ReqId) (waiting : Waiting) (place : Option ℕ) → AllIn ps → P req → AllIn (waits_at ps req waiting place)
  waits_so ps req waiting None all is = all
  waits_so ps req waiting (Some place) all is = set_in ps place (record { req = req; waits = waiting }) all is

  fewer_in : (ps : List Pending) (req : ReqId) → AllIn ps → AllIn (without_pending ps req)
  fewer_in [] req all = tt
  fewer_in (p ∷ ps) req all = by_test (not (same_op req p.req)) (fewer_in ps req all.1)
    where
      by_test : (b : Bool) → AllIn (without_pending ps req) → AllIn (cond b (p ∷ without_pending ps req) (without_pending ps req))
      by_test true rest = (all.0, rest)
      by_test false rest = rest

  pub one_of : (ps : List Pending) (req : ReqId) → AllIn ps → is_pending ps req ≡ true → P req
  one_of [] req all there = absurd (false≢true there)
  one_of (p ∷ ps) req all there = by_test (same_op req p.req) refl there (one_of ps req all.1)
    where
      by_test : (b : Bool) → same_op req p.req ≡ b → (b || is_pending ps req) ≡ true → (is_pending ps req ≡ true → P req) → P req
      by_test true same some rest = subst P (sym (same_calls req p.req same)) all.0
      by_test false other some rest = rest some

  abbrev pub ChangeSo : Change → Type 0
  ChangeSo (changes.Begin p) = P p.req
  ChangeSo (changes.Wait req waiting) = P req
  ChangeSo (changes.Keep client reply) = P (answered_by client reply)
  ChangeSo change = Unit {0}

  abbrev pub AreChanges : List Change → Type 0
  AreChanges cs = AllByRecursion ChangeSo cs

  change_waits : (v : Volatile) (change : Change) → ChangeSo change → AllIn v.pending → AllIn (changed v change).pending
  change_waits v (changes.Begin p) is all = one_more v.pending p all is
  change_waits v (changes.Wait req waiting) is all = waits_so v.pending req waiting (position (λ (p : Pending). same_op p.req req) v.pending) all is
  change_waits v (changes.End req) is all = fewer_in v.pending req all
  change_waits v (changes.Keep client reply) is all = all
  change_waits v (changes.Ask q asking) is all = all
  change_waits v (changes.Settled q) is all = all
  change_waits v (changes.Enter q) is all = all
  change_waits v (changes.Place q) is all = all
  change_waits v (changes.Lose q) is all = all
  change_waits v (changes.Forget chunks) is all = all
  change_waits v (changes.Prepare is_preparing) is all = all
  change_waits v (changes.Restored server chunks) is all = all
  change_waits v changes.RolledBack is all = all

  pub changes_wait : (cs : List Change) (v : Volatile) → AreChanges cs → AllIn v.pending → AllIn (all_changed v cs).pending
  changes_wait [] v are all = all
  changes_wait (c ∷ cs) v are all = changes_wait cs (changed v c) are.1 (change_waits v c are.0 all)

  change_keeps : (v : Volatile) (change : Change) → ChangeSo change → On v.replies (changed v change).replies
  change_keeps v (changes.Keep client reply) is = inserted v.replies client reply is
  change_keeps v (changes.Begin p) is = on_still v.replies v.replies refl
  change_keeps v (changes.Wait req waiting) is = on_still v.replies v.replies refl
  change_keeps v (changes.End req) is = on_still v.replies v.replies refl
  change_keeps v (changes.Ask q asking) is = on_still v.replies v.replies refl
  change_keeps v (changes.Settled q) is = on_still v.replies v.replies refl
  change_keeps v (changes.Enter q) is = on_still v.replies v.replies refl
  change_keeps v (changes.Place q) is = on_still v.replies v.replies refl
  change_keeps v (changes.Lose q) is = on_still v.replies v.replies refl
  change_keeps v (changes.Forget chunks) is = on_still v.replies v.replies refl
  change_keeps v (changes.Prepare is_preparing) is = on_still v.replies v.replies refl
  change_keeps v (changes.Restored server chunks) is = on_still v.replies v.replies refl
  change_keeps v changes.RolledBack is = on_still v.replies v.replies refl

  pub changes_keep : (cs : List Change) (v : Volatile) → AreChanges cs → On v.replies (all_changed v cs).replies
  changes_keep [] v are = on_still v.replies v.replies refl
  changes_keep (c ∷ cs) v are = on_then v.replies (changed v c).replies (all_changed (changed v c) cs).replies (change_keeps v c are.0) (changes_keep cs (changed v c) are.1)

  -- ---- where there is no such request

  abbrev pub Nobody : Type 0
  Nobody = (req : ReqId) → P req → ⊥

  change_rests : (v : Volatile) (change : Change) → Nobody → ChangeSo change → (changed v change).replies ≡ v.replies
  change_rests v (changes.Keep client reply) none is = absurd (none (answered_by client reply) is)
  change_rests v (changes.Begin p) none is = refl
  change_rests v (changes.Wait req waiting) none is = refl
  change_rests v (changes.End req) none is = refl
  change_rests v (changes.Ask q asking) none is = refl
  change_rests v (changes.Settled q) none is = refl
  change_rests v (changes.Enter q) none is = refl
  change_rests v (changes.Place q) none is = refl
  change_rests v (changes.Lose q) none is = refl
  change_rests v (changes.Forget chunks) none is = refl
  change_rests v (changes.Prepare is_preparing) none is = refl
  change_rests v (changes.Restored server chunks) none is = refl
  change_rests v changes.RolledBack none is = refl

  pub changes_rest : (cs : List Change) (v : Volatile) → Nobody → AreChanges cs → (all_changed v cs).replies ≡ v.replies
  changes_rest [] v none are = refl
  changes_rest (c ∷ cs) v none are = changes_rest cs (changed v c) none are.1 ∙ change_rests v c none are.0

  -- ---- what a checkpoint tells

  entries_on : (rs : List (ClientId × KeptReply)) → AllByRecursion (λ (e : ClientId × KeptReply). P (answered_by e.0 e.1)) rs → On fin.empty (fin.from_entries rs)
  entries_on [] all = on_still fin.empty fin.empty refl
  entries_on (e ∷ rs) all = on_then fin.empty (fin.from_entries rs) (fin.insert (fin.from_entries rs) e.0 e.1) (entries_on rs all.1) (inserted (fin.from_entries rs) e.0 e.1 all.0)

  told_all : (replies : List PlainReply) (rs : List (ClientId × KeptReply)) → AllByRecursion (λ (r : PlainReply). P r.to) replies → told_replies replies ≡ Some rs → AllByRecursion (λ (e : ClientId × KeptReply). P (answered_by e.0 e.1)) rs
  told_all [] rs all is = subst (λ (xs : List (ClientId × KeptReply)). AllByRecursion (λ (e : ClientId × KeptReply). P (answered_by e.0 e.1)) xs) (list_is is) tt
    where
      list_is : {a b : List (ClientId × KeptReply)} → ◌≡◌ {A = Option (List (ClientId × KeptReply))} (Some a) (Some b) → a ≡ b
      list_is h = cc
  told_all (r ∷ replies) rs all is = by_result (told_result r.outcome) is (λ rest was. told_all replies rest all.1 was)
    where
      Told : List (ClientId × KeptReply) → Type 0
      Told xs = AllByRecursion (λ (e : ClientId × KeptReply). P (answered_by e.0 e.1)) xs

      list_is : {a b : List (ClientId × KeptReply)} → ◌≡◌ {A = Option (List (ClientId × KeptReply))} (Some a) (Some b) → a ≡ b
      list_is h = cc

      first : Result Answer Refusal → ClientId × KeptReply
      first result = (r.to.client, record { number = r.to.number; result = result })

      by_rest : (result : Result Answer Refusal) (o : Option (List (ClientId × KeptReply))) → told_replies replies ≡ o → option_map (λ (rest : List (ClientId × KeptReply)). first result ∷ rest) o ≡ Some rs
          → ((rest : List (ClientId × KeptReply)) → told_replies replies ≡ Some rest → Told rest) → Told rs
      by_rest result None was h more = absurd (false≢true (ap is_some h))
      by_rest result (Some rest) was h more = subst Told (list_is h) (all.0, more rest was)

      by_result : (o : Option (Result Answer Refusal)) → option_and_then (λ result. option_map (λ (rest : List (ClientId × KeptReply)). first result ∷ rest) (told_replies replies)) o ≡ Some rs
          → ((rest : List (ClientId × KeptReply)) → told_replies replies ≡ Some rest → Told rest) → Told rs
      by_result None h more = absurd (false≢true (ap is_some h))
      by_result (Some result) h more = by_rest result (told_replies replies) refl h more

  if_can : (d e : Durable) → if_it_can d ≡ Some e → d ≡ e
  if_can d e is = by_test (can_go_back d (all_undone d.inverses d.names)) is
    where
      by_test : (b : Bool) → (if b then Some d else None) ≡ Some e → d ≡ e
      by_test true h = durable_is h
      by_test false h = absurd (false≢true (ap is_some h))

  whole_on : (c : PlainCheckpoint) (e : Durable) → AllByRecursion (λ (r : PlainReply). P r.to) c.replies → whole_of c ≡ Some e → On fin.empty e.replies
  unfolding whole_of
  whole_on c e all is = by_test (is_whole c) is
    where
      by_told : (o : Option (List (ClientId × KeptReply))) → told_replies c.replies ≡ o → option_and_then if_it_can (option_map (durable_with c) o) ≡ Some e → On fin.empty e.replies
      by_told None was h = absurd (false≢true (ap is_some h))
      by_told (Some rs) was h = subst (On fin.empty) (ap (λ (x : Durable). x.replies) (if_can (durable_with c rs) e h)) (entries_on rs (told_all c.replies rs all was))

      by_test : (b : Bool) → (if b then option_and_then if_it_can (option_map (durable_with c) (told_replies c.replies)) else None) ≡ Some e → On fin.empty e.replies
      by_test true h = by_told (told_replies c.replies) refl h
      by_test false h = absurd (false≢true (ap is_some h))

  -- ---- by requests

  request_is : (req : ReqId) (reply : KeptReply) → reply.number ≡ req.number → P (answered_by req.client reply) → P req
  request_is req reply same is = subst P (λ i. record { client = req.client; number = same i }) is

  pub keeps_on : (old new : fin.FinMap client_cmp KeptReply) → On old new → (req : ReqId) → Keeps new req → Keeps old req ⊎ P req
  keeps_on old new on req k = by (on req.client k.reply k.has)
    where
      by : (fin.get old req.client ≡ Some k.reply) ⊎ P (answered_by req.client k.reply) → Keeps old req ⊎ P req
      by (inl has) = inl (record { reply = k.reply; has = has; number = k.number })
      by (inr is) = inr (request_is req k.reply k.number is)

  pub none_kept : (req : ReqId) → Keeps fin.empty req → ⊥
  none_kept req k = false≢true (ap is_some (sym (fin.get-empty client_cmp req.client) ∙ k.has))

-- ---- records

edited_tells : (by : ReqId) (edit : PlainEdit) → (tells_nobody edit ≡ true) ⊎ ((tells_nobody edit ≡ false) × (by ≡ by))
edited_tells by edit = by_test (tells_nobody edit) refl
  where
    by_test : (b : Bool) → tells_nobody edit ≡ b → (tells_nobody edit ≡ true) ⊎ ((tells_nobody edit ≡ false) × (by ≡ by))
    by_test true is = inl is
    by_test false is = inr (is, refl)

all_told : (Q : ReqId → Type 0) (replies : List PlainReply) → ((req : ReqId) → IsToldIn replies req → Q req) → AllByRecursion (λ (r : PlainReply). Q r.to) replies
all_told Q [] each = tt
all_told Q (r ∷ replies) each = (each r.to (inl refl), all_told Q replies (λ req told. each req (inr told)))

whole_tells : (d e : Durable) (c : PlainCheckpoint) → applied d (Whole c) ≡ Some e → (req : ReqId) → Keeps e.replies req → Keeps d.replies req ⊎ IsToldIn c.replies req
unfolding applied
whole_tells d e c fit req k = by (keeps_on (IsToldIn c.replies) fin.empty e.replies (whole_on (IsToldIn c.replies) c e (all_told (IsToldIn c.replies) c.replies (λ r told. told)) fit) req k)
  where
    by : Keeps fin.empty req ⊎ IsToldIn c.replies req → Keeps d.replies req ⊎ IsToldIn c.replies req
    by (inl k) = absurd (none_kept (λ r. ⊥) req k)
    by (inr told) = inr told

other_on : (d e : Durable) (entry : PlainEntry) → RecordSo (TellsReply entry) entry → applied d entry ≡ Some e → (req : ReqId) → Keeps e.replies req → Keeps d.replies req ⊎ TellsReply entry req
other_on d e entry is fit req k = keeps_on (TellsReply entry) d.replies e.replies (record_so (TellsReply entry) d e entry is fit) req k

one_on : (d e : Durable) (entry : PlainEntry) → applied d entry ≡ Some e → (req : ReqId) → Keeps e.replies req → Keeps d.replies req ⊎ TellsReply entry req
one_on d e (Whole c) fit req k = whole_tells d e c fit req k
one_on d e (Edited by edit) fit req k = other_on d e (Edited by edit) (edited_tells by edit) fit req k
one_on d e (Said to refusal) fit req k = other_on d e (Said to refusal) refl fit req k
one_on d e (Propose q version) fit req k = other_on d e (Propose q version) tt fit req k
one_on d e (Settle v) fit req k = other_on d e (Settle v) tt fit req k
one_on d e (Holder q server) fit req k = other_on d e (Holder q server) tt fit req k
one_on d e (Prepare now moment chunks) fit req k = other_on d e (Prepare now moment chunks) tt fit req k
one_on d e (Finalize now) fit req k = other_on d e (Finalize now) tt fit req k
one_on d e (RollbackBegin now) fit req k = other_on d e (RollbackBegin now) tt fit req k
one_on d e (RollbackCommit now told) fit req k = other_on d e (RollbackCommit now told) tt fit req k

pub kept_told : KeptAreTold
kept_told [] d e req fit k = inl (subst (λ (x : Durable). Keeps x.replies req) (sym (durable_is fit)) k)
kept_told (entry ∷ records) d e req fit k = by_first (applied d entry) refl fit (λ n h. kept_told records n e req h k)
  where
    or_before : (n : Durable) → applied d entry ≡ Some n → Keeps n.replies req ⊎ OneTells records req → Keeps d.replies req ⊎ (TellsReply entry req ⊎ OneTells records req)
    or_before n was (inr told) = inr (inr told)
    or_before n was (inl kept) = earlier (one_on d n entry was req kept)
      where
        earlier : Keeps d.replies req ⊎ TellsReply entry req → Keeps d.replies req ⊎ (TellsReply entry req ⊎ OneTells records req)
        earlier (inl kept) = inl kept
        earlier (inr tells) = inr (inl tells)

    by_first : (o : Option Durable) → applied d entry ≡ o → option_and_then (λ n. replayed n records) o ≡ Some e → ((n : Durable) → replayed n records ≡ Some e → Keeps n.replies req ⊎ OneTells records req) → Keeps d.replies req ⊎ (TellsReply entry req ⊎ OneTells records req)
    by_first None was h more = absurd (false≢true (ap is_some h))
    by_first (Some n) was h more = or_before n was (more n h)
