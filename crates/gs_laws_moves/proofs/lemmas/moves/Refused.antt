-- An event that refuses a request makes no edit for it, neither before nor behind the refusal.
use Rattle.std.proofs.Common.{◌≡◌, ◌⊎◌, inl, inr, ◌∙◌, arith, ◌&&◌, ◌||◌, ◌++◌, ◌+◌, ◌==◌, ℕ, Bool, true, false, not, cond, List, [], ◌∷◌, refl, ap, sym, subst}
use Rattle.std.specs.Prelude.{fold, nat_lt, is_some, option_and_then, Option, Some, None, Result, Ok, Err, if◌then◌else◌}
use Rattle.std.specs.Cmp.{tied_itself}
use Rattle.std.specs.FinMap as fin
use Rattle.std.specs.List.{list_any}
use Rattle.std.specs.Ordering.{eq_by_cmp, is_eq}
use Rattle.std.proofs.lemmas.Bool.Decides.{nat_tests}
use Rattle.std.proofs.lemmas.Bool.{false≢true, true≢false, and_parts}
use Rattle.gs_base.specs.Members.{count_from}
use Rattle.gs_base.specs.declared.config.Config.{Config}
use Rattle.gs_base.specs.declared.epoch.EpochEnd.{EpochEnd}
use Rattle.gs_base.specs.declared.epoch.EpochEnd.TheVariants as ends
use Rattle.gs_base.specs.declared.numbers.ReqId.{ReqId}
use Rattle.gs_base.specs.declared.refusal.Refusal.{Refusal}
use Rattle.gs_edit.specs.View.{NamesView}
use Rattle.gs_lease.specs.declared.view.Term.{Term}
use Rattle.gs_lease.specs.declared.view.View.{View}
use Rattle.gs_msg.specs.declared.answer.Answer.{Answer}
use Rattle.gs_msg.specs.declared.answer.Answer.TheVariants as answers
use Rattle.gs_msg.specs.declared.body.Body.{Body}
use Rattle.gs_msg.specs.declared.body.Body.TheVariants as bodies
use Rattle.gs_msg.specs.declared.chunk.Chunk.TheVariants as abouts
use Rattle.gs_msg.specs.declared.message.Message.{Message}
use Rattle.gs_msg.specs.declared.node.NodeId.TheVariants as nodes
use Rattle.gs_path.specs.Path.{Path}
use Rattle.gs_master_record.specs.Plain.{AddChunk, Cow, Create, Edited, Forget, Hide, Mkdirs, PlainEdit, PlainEntry, Remove, Rename, Said, Snapshot, Unhide}
use Rattle.gs_master_spec.specs.Applied.{after_edit, applied, chunk_of_edit, may_edit, replayed, view_for, view_in, with_answer, with_edit, with_reply}
use Rattle.gs_master_spec.specs.Beginning.{members_at, next_stamp}
use Rattle.gs_master_spec.specs.Chunks.{chunk_at}
use Rattle.gs_master_spec.specs.Durable.{Durable}
use Rattle.gs_master_spec.specs.Replies.{answer_to, client_cmp, is_later, later}
use Rattle.gs_master_spec.specs.Settling.{grant_of}
use Rattle.gs_master_spec.specs.State.{State, Turn, joined, end_changes, fits, is_kept, keeps_refusal, kept_in_memory, last_reply, about, post, reply_to, said_changes, said_records, to_each, with_record}
use Rattle.gs_master_spec.specs.Undoing.{edited_names}
use Rattle.gs_master_spec.specs.Upgrades.{tell_all}
use Rattle.gs_master_spec.specs.Volatile.{Volatile, all_changed, is_call, is_pending}
use Rattle.gs_master_spec.specs.declared.reply.KeptReply.{KeptReply}
use Rattle.gs_master_state.proofs.Tracking.{client_total}
use Rattle.gs_master_spec.specs.declared.change.Change.{Change}
use Rattle.gs_laws_master.proofs.lemmas.upgrades.Beginnings.{fits_gives}
use Rattle.gs_laws_master.proofs.lemmas.refusals.Refusing.{kept_answered}
use Rattle.gs_laws_master.proofs.lemmas.standing.Standing.{changed_more, now_answered, same_call, same_client, same_parts, same_self}
use Rattle.gs_laws_master.specs.Promises.{AllFit}
use Rattle.gs_laws_master.specs.Standing.{IsOver, turn_of, was_answered}
use Rattle.gs_laws_moves.proofs.lemmas.moves.Ended.{changes_leave, ended_pending, has_ended, said_leave}
use Rattle.gs_laws_moves.proofs.lemmas.moves.Made.{events_are_chains}
use Rattle.gs_laws_moves.proofs.lemmas.moves.Over.{called_other, changes_keep, chained_over, editor_tells, end_keeps, move_over, others_edit, replies_over, said_tells, same_in, tells, any_both}
use Rattle.gs_laws_moves.specs.moves.Guards.{AreSaidAgain, Heard, IsCalled, IsMade, IsRefusable, IsSaidAgain, WasReplied, hears_call, is_of_tree}
use Rattle.gs_laws_moves.specs.moves.Laws.{heard_in, met_in}
use Rattle.gs_laws_moves.specs.moves.Moves.{Alone, Chain, FromNow, Further, Move, Moves, Rests, Then, Begins, Makes, Copies, Hears, Sends, Settles, Edits, Extends, CopiesTree, Replaces, Scans, Refuses, Answers as AnswersCall, Waits, Restores, Says, Flags, Prepares, Finalizes, BeginsRollback, TellsRollback, CommitsRollback, Checkpoints, move_turn}
use Rattle.gs_laws_moves.specs.moves.Over.{IsRefusedBy, RefusedMakesNoEdit, is_refused_in, refuses}

-- ---- a request whose edit a record tells isn't refused by what records tell

-- the reply to a later request, or to this one, and it isn't a refusal
abbrev accepts : Result Answer Refusal → Bool
accepts (Ok answer) = true
accepts (Err refusal) = false

abbrev is_past : Option KeptReply → ℕ → Bool
is_past None number = false
is_past (Some reply) number = nat_lt number reply.number || ((reply.number == number) && accepts reply.result)

abbrev IsPast : ReqId → fin.FinMap client_cmp KeptReply → Type 0
IsPast req m = is_past (fin.get m req.client) req.number ≡ true

either : (a b : Bool) → (a || b) ≡ true → (a ≡ true) ⊎ (b ≡ true)
either true b h = inl refl
either false b h = inr h

or_first : (a b : Bool) → a ≡ true → (a || b) ≡ true
or_first true b h = refl
or_first false b h = absurd (false≢true h)

past_more : (o : Option KeptReply) (number more : ℕ) (result : Result Answer Refusal) → is_later o more ≡ true → is_past o number ≡ true → is_past (Some (record { number = more; result = result })) number ≡ true
past_more None number more result new past = absurd (false≢true past)
past_more (Some r) number more result new past = or_first (nat_lt number more) ((more == number) && accepts result) (by_past (either (nat_lt number r.number) ((r.number == number) && accepts r.result) past))
  where
    less : (a b c : ℕ) → nat_lt a b ≡ true → nat_lt b c ≡ true → nat_lt a c ≡ true
    less a b c h k = grind (arith, nat_tests)

    same_less : (a b c : ℕ) → (b == a) ≡ true → nat_lt b c ≡ true → nat_lt a c ≡ true
    same_less a b c h k = grind (arith, nat_tests)

    by_past : (nat_lt number r.number ≡ true) ⊎ (((r.number == number) && accepts r.result) ≡ true) → nat_lt number more ≡ true
    by_past (inl h) = less number r.number more h new
    by_past (inr h) = same_less number r.number more (and_parts (r.number == number) (accepts r.result) h).0 new

past_told : (req : ReqId) (m : fin.FinMap client_cmp KeptReply) (to : ReqId) (result : Result Answer Refusal) → IsPast req m → IsPast req (with_reply m to result)
past_told req m to result past = by_later (is_later (fin.get m to.client) to.number) refl
  where
    new : KeptReply
    new = record { number = to.number; result = result }

    by_key : (b : Bool) → eq_by_cmp client_cmp req.client to.client ≡ b → is_later (fin.get m to.client) to.number ≡ true → is_past (cond b (Some new) (fin.get m req.client)) req.number ≡ true
    by_key true same later = past_more (fin.get m req.client) req.number to.number result (ap (λ c. is_later (fin.get m c) to.number) (same_client req.client to.client same) ∙ later) past
    by_key false other later = past

    by_later : (b : Bool) → is_later (fin.get m to.client) to.number ≡ b → IsPast req (if b then fin.insert m to.client new else m)
    by_later true later = ap (λ o. is_past o req.number) (fin.get-insert client_total m to.client new req.client) ∙ by_key (eq_by_cmp client_cmp req.client to.client) refl later
    by_later false old = past

-- So it isn't the last reply of all, either.
past_last : (o v : Option KeptReply) (number : ℕ) (reply : KeptReply) → is_past o number ≡ true → later o v ≡ Some reply → (reply.number == number) ≡ true → accepts reply.result ≡ true
past_last None v number reply past is same = absurd (false≢true past)
past_last (Some r) None number reply past is same = own (either (nat_lt number r.number) ((r.number == number) && accepts r.result) past) (ap (λ (x : KeptReply). x.number == number) (reply_is is) ∙ same)
  where
    reply_is : {a b : KeptReply} → ◌≡◌ {A = Option KeptReply} (Some a) (Some b) → a ≡ b
    reply_is h = cc

    not_both : (a b : ℕ) → nat_lt a b ≡ true → (b == a) ≡ true → ⊥
    not_both a b h k = absurd (grind (arith, nat_tests))

    own : (nat_lt number r.number ≡ true) ⊎ (((r.number == number) && accepts r.result) ≡ true) → (r.number == number) ≡ true → accepts reply.result ≡ true
    own (inl h) k = absurd (not_both number r.number h k)
    own (inr h) k = sym (ap (λ (x : KeptReply). accepts x.result) (reply_is is)) ∙ (and_parts (r.number == number) (accepts r.result) h).1
past_last (Some r) (Some w) number reply past is same = by_less (nat_lt r.number w.number) refl is
  where
    reply_is : {a b : KeptReply} → ◌≡◌ {A = Option KeptReply} (Some a) (Some b) → a ≡ b
    reply_is h = cc

    not_both : (a b : ℕ) → nat_lt a b ≡ true → (b == a) ≡ true → ⊥
    not_both a b h k = absurd (grind (arith, nat_tests))

    less : (a b c : ℕ) → nat_lt a b ≡ true → nat_lt b c ≡ true → (c == a) ≡ true → ⊥
    less a b c h k e = absurd (grind (arith, nat_tests))

    same_less : (a b c : ℕ) → (b == a) ≡ true → nat_lt b c ≡ true → (c == a) ≡ true → ⊥
    same_less a b c h k e = absurd (grind (arith, nat_tests))

    own : (nat_lt number r.number ≡ true) ⊎ (((r.number == number) && accepts r.result) ≡ true) → r ≡ reply → accepts reply.result ≡ true
    own (inl h) is = absurd (not_both number r.number h (ap (λ (x : KeptReply). x.number == number) is ∙ same))
    own (inr h) is = sym (ap (λ (x : KeptReply). accepts x.result) is) ∙ (and_parts (r.number == number) (accepts r.result) h).1

    others : (nat_lt number r.number ≡ true) ⊎ (((r.number == number) && accepts r.result) ≡ true) → nat_lt r.number w.number ≡ true → w ≡ reply → ⊥
    others (inl h) more is = less number r.number w.number h more (ap (λ (x : KeptReply). x.number == number) is ∙ same)
    others (inr h) more is = same_less number r.number w.number (and_parts (r.number == number) (accepts r.result) h).0 more (ap (λ (x : KeptReply). x.number == number) is ∙ same)

    by_less : (b : Bool) → nat_lt r.number w.number ≡ b → (if b then Some w else Some r) ≡ Some reply → accepts reply.result ≡ true
    by_less true more h = absurd (others (either (nat_lt number r.number) ((r.number == number) && accepts r.result) past) more (reply_is h))
    by_less false less h = own (either (nat_lt number r.number) ((r.number == number) && accepts r.result) past) (reply_is h)

-- what is later than the last reply is later than those that records tell
later_told : (o v : Option KeptReply) (number : ℕ) → is_later (later o v) number ≡ true → is_later o number ≡ true
later_told None v number new = refl
later_told (Some r) None number new = new
later_told (Some r) (Some w) number new = by_less (nat_lt r.number w.number) refl new
  where
    less : (a b c : ℕ) → nat_lt a b ≡ true → nat_lt b c ≡ true → nat_lt a c ≡ true
    less a b c h k = grind (arith, nat_tests)

    by_less : (b : Bool) → nat_lt r.number w.number ≡ b → is_later (if b then Some w else Some r) number ≡ true → nat_lt r.number number ≡ true
    by_less true more h = less r.number w.number number more h
    by_less false other h = h

-- where the answer is told anew
now_past : (m : fin.FinMap client_cmp KeptReply) (req : ReqId) (answer : Answer) → is_later (fin.get m req.client) req.number ≡ true → IsPast req (with_reply m req (Ok answer))
now_past m req answer new =
    ap (λ b. is_past (fin.get (if b then fin.insert m req.client reply else m) req.client) req.number) new
    ∙ ap (λ o. is_past o req.number) (fin.get-insert client_total m req.client reply req.client ∙ ap (λ o. cond (is_eq o) (Some reply) (fin.get m req.client)) (tied_itself client_total req.client)) ∙ itself req.number
  where
    reply : KeptReply
    reply = record { number = req.number; result = Ok answer }

    itself : (n : ℕ) → (nat_lt n n || ((n == n) && true)) ≡ true
    itself n = grind (arith, nat_tests)

-- ---- messages that refuse nobody

abbrev RefusesNone : ReqId → List Message → Type 0
RefusesNone req messages = list_any (λ (m : Message). refuses req m.body) messages ≡ false

to_servers : (req : ReqId) (message : ℕ → Message) → ((server : ℕ) → refuses req (message server).body ≡ false) → (servers : List ℕ) → RefusesNone req (to_each servers message)
to_servers req message each [] = refl
to_servers req message each (server ∷ servers) = ap (λ b. b || list_any (λ (m : Message). refuses req m.body) (to_each servers message)) (each server) ∙ to_servers req message each servers

told_epoch : (req : ReqId) (config : Config) (now answered : ℕ) (end : EpochEnd) (by : ReqId) → RefusesNone req (tell_all config now end ++ reply_to by (Ok (answers.Epoch answered)) ∷ [])
told_epoch req config now answered end by =
    any_both (λ (m : Message). refuses req m.body) (tell_all config now end) (reply_to by (Ok (answers.Epoch answered)) ∷ []) (to_servers req (λ server. post (nodes.Server server) (bodies.Epoch now end)) (λ server. refl) (count_from 0 config.servers)) refl

grants_none : (req : ReqId) (chunk : ℕ) (view : View) (term : Option Term) → RefusesNone req (grant_of chunk view term)
grants_none req chunk view None = refl
grants_none req chunk view (Some term) = refl

-- a move that may refuse
abbrev speaks : Move → Bool
speaks (Refuses by refusal over) = true
speaks (Says messages) = true
speaks move = false

sends_none : (req : ReqId) (config : Config) (s : State) (move : Move) → speaks move ≡ false → RefusesNone req (move_turn config s move).sent
sends_none req config s (Begins q purpose call Alone) quiet = to_servers req (λ server. about q (abouts.Advance (next_stamp s.durable)) server) (λ server. refl) (members_at (chunk_at s q))
sends_none req config s (Begins q purpose call (FromNow by waiting)) quiet = to_servers req (λ server. about q (abouts.Advance (next_stamp s.durable)) server) (λ server. refl) (members_at (chunk_at s q))
sends_none req config s (Begins q purpose call (Further by waiting)) quiet = to_servers req (λ server. about q (abouts.Advance (next_stamp s.durable)) server) (λ server. refl) (members_at (chunk_at s q))
sends_none req config s (Makes targets by path) quiet = to_servers req (λ server. about s.durable.next_handle (abouts.Create (next_stamp s.durable)) server) (λ server. refl) targets
sends_none req config s (Copies old at mine Alone) quiet = to_servers req (λ server. post (nodes.Server server) (bodies.MakeCopy old at.stamp s.durable.next_handle (next_stamp s.durable))) (λ server. refl) at.members
sends_none req config s (Copies old at mine (FromNow by waiting)) quiet = to_servers req (λ server. post (nodes.Server server) (bodies.MakeCopy old at.stamp s.durable.next_handle (next_stamp s.durable))) (λ server. refl) at.members
sends_none req config s (Copies old at mine (Further by waiting)) quiet = to_servers req (λ server. post (nodes.Server server) (bodies.MakeCopy old at.stamp s.durable.next_handle (next_stamp s.durable))) (λ server. refl) at.members
sends_none req config s (Hears q asking) quiet = refl
sends_none req config s (Sends q asking source target) quiet = refl
sends_none req config s (Settles q asking carried at) quiet = grants_none req q at at.term
sends_none req config s (Edits by edit answer) quiet = refl
sends_none req config s (Extends by path new at) quiet = refl
sends_none req config s (CopiesTree by from to) quiet = refl
sends_none req config s (Replaces path index old new) quiet = refl
sends_none req config s (Scans removed forgotten) quiet = refl
sends_none req config s (Refuses by refusal over) quiet = absurd (true≢false quiet)
sends_none req config s (AnswersCall by answer true) quiet = refl
sends_none req config s (AnswersCall by answer false) quiet = refl
sends_none req config s (Waits by waiting) quiet = refl
sends_none req config s (Restores server chunks) quiet = refl
sends_none req config s (Says messages) quiet = absurd (true≢false quiet)
sends_none req config s (Flags by preparing now) quiet = refl
sends_none req config s (Prepares by moment) quiet = told_epoch req config (s.durable.epoch + 1) (s.durable.epoch + 1) ends.Prepare by
sends_none req config s (Finalizes by) quiet = told_epoch req config (s.durable.epoch + 1) (s.durable.epoch + 1) ends.Finalize by
sends_none req config s BeginsRollback quiet = refl
sends_none req config s (TellsRollback by now) quiet = told_epoch req config now now ends.Rollback by
sends_none req config s (CommitsRollback by names) quiet = refl
sends_none req config s Checkpoints quiet = refl

-- ---- a move that edits for the request, or refuses it, leaves it over

module _ (req : ReqId) (config : Config) (heard : Heard) where
  -- over by an edit: what records tell of it isn't a refusal, where it was called for at once
  abbrev IsMet : State → Type 0
  IsMet s = IsOver s.durable s.volatile req × (hears_call heard ≡ true → IsPast req s.durable.replies)

  abbrev Refusing : List Message → Type 0
  Refusing messages = list_any (λ (m : Message). refuses req m.body) messages ≡ true

  -- the replies behind an edit
  with_names : (s : State) (by : ReqId) (edit : PlainEdit) (names : Result NamesView Refusal) (e : Durable) → after_edit s.durable by edit names ≡ Some e → e.replies ≡ with_answer s.durable.replies by (answer_to edit (view_for s.durable (chunk_of_edit edit)) s.durable.epoch)
  with_names s by edit (Ok names) e fit = ap (λ (x : Durable). x.replies) (sym (fits_gives (may_edit s.durable edit) (with_edit s.durable by edit names) e fit).1)
  with_names s by edit (Err refusal) e fit = absurd (false≢true (ap is_some fit))

  edit_replies : (s : State) (by : ReqId) (edit : PlainEdit) (answer : Answer) (move : Move) → (move_turn config s move).records ≡ Edited by edit ∷ [] → AllFit s (move_turn config s move) → answer_to edit (view_for s.durable (chunk_of_edit edit)) s.durable.epoch ≡ Some answer
      → (move_turn config s move).after.durable.replies ≡ with_reply s.durable.replies by (Ok answer)
  unfolding applied
  edit_replies s by edit answer move is fit tells = with_names s by edit (edited_names edit s.durable.names) (move_turn config s move).after.durable (one (applied s.durable (Edited by edit)) (ap (replayed s.durable) (sym is) ∙ fit)) ∙ ap (with_answer s.durable.replies by) tells
    where
      one : (o : Option Durable) → option_and_then (λ d. replayed d []) o ≡ Some (move_turn config s move).after.durable → o ≡ Some (move_turn config s move).after.durable
      one None h = h
      one (Some d) h = h

  now_over : (s u : State) (answer : Answer) → u.durable.replies ≡ with_reply s.durable.replies req (Ok answer) → is_pending u.volatile.pending req ≡ false → IsOver u.durable u.volatile req
  now_over s u answer replies rests = record {
    answered = ap (λ m. not (is_later (later (fin.get m req.client) (fin.get u.volatile.replies req.client)) req.number)) replies ∙ now_answered s.durable u.volatile req (Ok answer);
    rests = rests;
  }

  -- each edit of a call is answered
  abbrev IsAnswered : State → PlainEdit → Type 0
  IsAnswered s edit = (answer : Answer) × (answer_to edit (view_for s.durable (chunk_of_edit edit)) s.durable.epoch ≡ Some answer)

  tree_answered : (s : State) (edit : PlainEdit) → is_of_tree edit ≡ true → IsAnswered s edit
  tree_answered s (Mkdirs p) is = (_, refl)
  tree_answered s (Create p) is = (_, refl)
  tree_answered s (Rename from to) is = (_, refl)
  tree_answered s (Hide p moment number) is = (_, refl)
  tree_answered s (Unhide p) is = (_, refl)
  tree_answered s (Snapshot from to) is = (_, refl)
  tree_answered s (Remove p) is = absurd (false≢true is)
  tree_answered s (AddChunk p chunk) is = absurd (false≢true is)
  tree_answered s (Cow p index old new) is = absurd (false≢true is)
  tree_answered s (Forget chunks) is = absurd (false≢true is)

  edits_met : (s : State) (edit : PlainEdit) (answer : Answer) → IsMade config heard s (Edits req edit answer) → IsMet (move_turn config s (Edits req edit answer)).after
  edits_met s edit answer made =
      let told = tree_answered s edit made.may.tree in
      let replies = edit_replies s req edit told.0 (Edits req edit answer) refl made.fits told.1 in
      (now_over s (move_turn config s (Edits req edit answer)).after told.0 replies made.may.free.new, λ hears. subst (IsPast req) (sym replies) (now_past s.durable.replies req told.0 (new made.may.called)))
    where
      new : IsCalled heard s req → is_later (fin.get s.durable.replies req.client) req.number ≡ true
      new (inl call) = later_told (fin.get s.durable.replies req.client) (fin.get s.volatile.replies req.client) req.number call.1
      new (inr waits) = absurd (true≢false (sym waits ∙ made.may.free.new))

  extends_met : (s : State) (path : Path) (new : ℕ) (at : View) → IsMade config heard s (Extends req path new at) → IsMet (move_turn config s (Extends req path new at)).after
  extends_met s path new at made =
      let answer = answers.Location new at s.durable.epoch in
      let told : answer_to (AddChunk path new) (view_for s.durable (Some new)) s.durable.epoch ≡ Some answer = ap (λ o. answer_to (AddChunk path new) (view_in o) s.durable.epoch) made.may.1.has in
      (now_over s (move_turn config s (Extends req path new at)).after answer (edit_replies s req (AddChunk path new) answer (Extends req path new at) refl made.fits told) (has_ended s.volatile.pending req), λ hears. absurd (true≢false (sym hears ∙ made.may.5)))

  tree_met : (s : State) (from to : Path) → IsMade config heard s (CopiesTree req from to) → IsMet (move_turn config s (CopiesTree req from to)).after
  tree_met s from to made =
      (now_over s (move_turn config s (CopiesTree req from to)).after answers.Nothing (edit_replies s req (Snapshot from to) answers.Nothing (CopiesTree req from to) refl made.fits refl) (has_ended s.volatile.pending req), λ hears. absurd (true≢false (sym hears ∙ made.may.3)))

  abbrev Telling : List PlainEntry → Type 0
  Telling records = list_any (tells req) records ≡ true

  edited_met : (s : State) (move : Move) → IsMade config heard s move → Telling (move_turn config s move).records → IsMet (move_turn config s move).after
  edited_met s (Edits by edit answer) made told = by_same (same_call req by) refl
    where
      by_same : (b : Bool) → same_call req by ≡ b → IsMet (move_turn config s (Edits by edit answer)).after
      by_same true is = subst (λ r. IsMade config heard s (Edits r edit answer) → IsMet (move_turn config s (Edits r edit answer)).after) (same_parts req by is) (edits_met s edit answer) made
      by_same false is = absurd (true≢false (sym told ∙ others_edit req by edit is))
  edited_met s (Extends by path new at) made told = by_same (same_call req by) refl
    where
      by_same : (b : Bool) → same_call req by ≡ b → IsMet (move_turn config s (Extends by path new at)).after
      by_same true is = subst (λ r. IsMade config heard s (Extends r path new at) → IsMet (move_turn config s (Extends r path new at)).after) (same_parts req by is) (extends_met s path new at) made
      by_same false is = absurd (true≢false (sym told ∙ others_edit req by (AddChunk path new) is))
  edited_met s (CopiesTree by from to) made told = by_same (same_call req by) refl
    where
      by_same : (b : Bool) → same_call req by ≡ b → IsMet (move_turn config s (CopiesTree by from to)).after
      by_same true is = subst (λ r. IsMade config heard s (CopiesTree r from to) → IsMet (move_turn config s (CopiesTree r from to)).after) (same_parts req by is) (tree_met s from to) made
      by_same false is = absurd (true≢false (sym told ∙ others_edit req by (Snapshot from to) is))
  edited_met s move made told = absurd (true≢false (sym told ∙ editor_tells req config heard s move (λ by is. absurd (false≢true (ap is_some is)))))

  -- ---- refusals

  -- a refusal that is kept is the last reply, where no later request was answered
  said_answered : (s : State) (refusal : Refusal) → is_kept refusal ≡ true →
      was_answered (fold with_record s (said_records (keeps_refusal s req refusal) s.log req refusal)).durable (all_changed s.volatile (said_changes (keeps_refusal s req refusal) s.log req refusal)) req ≡ true
  unfolding applied
  said_answered s refusal kept = by_tests (is_kept refusal) kept (is_later (last_reply s req.client) req.number) refl (fits s.log (Said req refusal ∷ []))
    where
      by_tests : (k : Bool) → k ≡ true → (new : Bool) → is_later (last_reply s req.client) req.number ≡ new → (room : Bool)
          → was_answered (fold with_record s (if (k && new) && room then Said req refusal ∷ [] else [])).durable (all_changed s.volatile (if (k && new) && not room then kept_in_memory req (Err refusal) ∷ [] else [])) req ≡ true
      by_tests false h new is room = absurd (false≢true h)
      by_tests true h true is true = now_answered s.durable s.volatile req (Err refusal)
      by_tests true h true is false = kept_answered s.durable s.volatile req (Err refusal)
      by_tests true h false is room = ap not is

  refused_over : (s : State) (refusal : Refusal) (over : Bool) → is_kept refusal ≡ true → IsRefusable heard s req over → IsOver (move_turn config s (Refuses req refusal over)).after.durable (move_turn config s (Refuses req refusal over)).after.volatile req
  refused_over s refusal over kept may = record { answered = answered_so over; rests = rests_so over may }
    where
      said : List Change
      said = said_changes (keeps_refusal s req refusal) s.log req refusal

      d : Durable
      d = (fold with_record s (said_records (keeps_refusal s req refusal) s.log req refusal)).durable

      answered_so : (b : Bool) → was_answered d (all_changed s.volatile (said ++ (if b then end_changes s req else []))) req ≡ true
      answered_so b =
          same_in d (all_changed s.volatile said) (all_changed s.volatile (said ++ (if b then end_changes s req else []))) (ap (λ (w : Volatile). w.replies) (changed_more said (if b then end_changes s req else []) s.volatile) ∙ changes_keep (if b then end_changes s req else []) (all_changed s.volatile said) (end_keeps s req b)) req
          (said_answered s refusal kept)

      rests_so : (b : Bool) → IsRefusable heard s req b → is_pending (all_changed s.volatile (said ++ (if b then end_changes s req else []))).pending req ≡ false
      rests_so true waits = ap (λ ps. is_pending ps req) (ended_pending s req refusal) ∙ has_ended s.volatile.pending req
      rests_so false new = ap (λ ps. is_pending ps req) (ap (λ (w : Volatile). w.pending) (changed_more said [] s.volatile) ∙ changes_leave said s.volatile (said_leave s req refusal)) ∙ new.1

  -- one of the messages refuses it; it was refused before, and doesn't wait
  again_refused : (s : State) (messages : List Message) → AreSaidAgain heard s messages → Refusing messages → (refusal : Refusal) × (WasReplied s req (Err refusal) × (is_pending s.volatile.pending req ≡ false) × (hears_call heard ≡ true))
  again_refused s [] all some = absurd (false≢true some)
  again_refused s (m ∷ messages) all some = by_either (either (refuses req m.body) (list_any (λ (x : Message). refuses req x.body) messages) some) (again_refused s messages all.1)
    where
      one : (body : Body) → IsSaidAgain heard s body → refuses req body ≡ true → (refusal : Refusal) × (WasReplied s req (Err refusal) × (is_pending s.volatile.pending req ≡ false) × (hears_call heard ≡ true))
      one (bodies.Reply by (Err refusal)) said h = (let parts = and_parts (is_call req (Some by)) (is_kept refusal) h in (refusal, by_said (subst (λ r. IsSaidAgain heard s (bodies.Reply r (Err refusal))) (sym (same_parts req by parts.0)) said) parts.1))
        where
          by_said : IsSaidAgain heard s (bodies.Reply req (Err refusal)) → is_kept refusal ≡ true → WasReplied s req (Err refusal) × (is_pending s.volatile.pending req ≡ false) × (hears_call heard ≡ true)
          by_said (inl unkept) kept = absurd (true≢false (sym kept ∙ unkept))
          by_said (inr was) kept = was
      one body said h = absurd (false≢true h)

      by_either : (refuses req m.body ≡ true) ⊎ Refusing messages → (Refusing messages → (refusal : Refusal) × (WasReplied s req (Err refusal) × (is_pending s.volatile.pending req ≡ false) × (hears_call heard ≡ true))) → (refusal : Refusal) × (WasReplied s req (Err refusal) × (is_pending s.volatile.pending req ≡ false) × (hears_call heard ≡ true))
      by_either (inl h) rest = one m.body all.0 h
      by_either (inr h) rest = rest h

  replied_over : (s : State) (result : Result Answer Refusal) → WasReplied s req result → is_pending s.volatile.pending req ≡ false → IsOver s.durable s.volatile req
  replied_over s result was rests = record { answered = ap (λ o. not (is_later o req.number)) was.has ∙ not_less was.reply.number req.number was.number; rests = rests }
    where
      not_less : (a b : ℕ) → (a == b) ≡ true → not (nat_lt a b) ≡ true
      not_less a b h = grind (arith, nat_tests)

  -- the refusal of a move is that of this request
  is_its : (by : ReqId) (refusal : Refusal) → ((same_call req by && is_kept refusal) || false) ≡ true → (req ≡ by) × (is_kept refusal ≡ true)
  is_its by refusal h = (let parts = and_parts (same_call req by) (is_kept refusal) (plain_or (same_call req by && is_kept refusal) h) in (same_parts req by parts.0, parts.1))
    where
      plain_or : (b : Bool) → (b || false) ≡ true → b ≡ true
      plain_or true h = refl
      plain_or false h = h

  refused_is : (s : State) (move : Move) → IsMade config heard s move → Refusing (move_turn config s move).sent → IsRefusedBy req (move_turn config s move)
  refused_is s (Refuses by refusal over) made some = (let its = is_its by refusal some in record {
    edits = said_tells req s by refusal;
    over = subst (λ r. IsRefusable heard s r over → IsOver (move_turn config s (Refuses r refusal over)).after.durable (move_turn config s (Refuses r refusal over)).after.volatile req) its.0 (refused_over s refusal over its.1) made.may;
  })
  refused_is s (Says messages) made some = (let was = again_refused s messages made.may.2 some in record { edits = refl; over = replied_over s (Err was.0) was.1.0 was.1.1 })
  refused_is s move made some = absurd (true≢false (sym some ∙ sends_none req config s move refl))

  -- none refuses what is over by an edit
  met_stays : (s : State) (move : Move) → IsMade config heard s move → IsMet s → IsMet (move_turn config s move).after
  met_stays s move made met = (move_over req config heard s move made met.0, λ hears. replies_over (IsPast req) (past_told req) config heard s move made (met.1 hears))

  none_refuses : (s : State) (move : Move) → IsMade config heard s move → IsMet s → Refusing (move_turn config s move).sent → ⊥
  none_refuses s (Refuses by refusal over) made met some = (let its = is_its by refusal some in not_again over (subst (λ r. IsRefusable heard s r over) (sym its.0) made.may))
    where
      not_again : (b : Bool) → IsRefusable heard s req b → ⊥
      not_again true waits = true≢false (sym waits ∙ met.0.rests)
      not_again false new = true≢false (sym (same_self req) ∙ called_other req heard s met.0 req new.0)
  none_refuses s (Says messages) made met some =
      let was = again_refused s messages made.may.2 some in
      let reply = was.1.0 in
      true≢false (sym (past_last (fin.get s.durable.replies req.client) (fin.get s.volatile.replies req.client) req.number reply.reply (met.1 was.1.2) reply.has reply.number) ∙ ap accepts reply.is)
  none_refuses s move made met some = absurd (true≢false (sym some ∙ sends_none req config s move refl))

  -- ---- over each chain

  record Goes (s : State) (t : Turn) : Type 0 where
    pub edited : Telling t.records → IsMet t.after
    pub stays : IsMet s → IsMet t.after
    pub refused : Refusing t.sent → IsRefusedBy req t
    pub never : IsMet s → Refusing t.sent → ⊥

  split : {A : Type 0} (p : A → Bool) (xs ys : List A) → list_any p (xs ++ ys) ≡ true → (list_any p xs ≡ true) ⊎ (list_any p ys ≡ true)
  split p [] ys h = inr h
  split p (x ∷ xs) ys h = by_head (p x) h (split p xs ys)
    where
      by_head : (b : Bool) → (b || list_any p (xs ++ ys)) ≡ true → (list_any p (xs ++ ys) ≡ true → (list_any p xs ≡ true) ⊎ (list_any p ys ≡ true)) → ((b || list_any p xs) ≡ true) ⊎ (list_any p ys ≡ true)
      by_head true h rest = inl refl
      by_head false h rest = rest h

  chain_goes : (s : State) (t : Turn) → Chain config (IsMade config heard) s t → Goes s t
  chain_goes s t (Rests u said) = record { edited = λ told. absurd (false≢true told); stays = λ met. met; refused = λ some. absurd (false≢true some); never = λ met some. false≢true some }
  chain_goes s t (Moves u move said made) =
      record { edited = edited_met u move made; stays = met_stays u move made; refused = λ some. (let r = refused_is u move made some in record { edits = r.edits; over = r.over }); never = none_refuses u move made }
  chain_goes s t (Then u first next a b) =
      let x = chain_goes u first a in
      let y = chain_goes first.after next b in record {
        edited = λ told. by_edit x y (split (tells req) first.records next.records told);
        stays = λ met. y.stays (x.stays met);
        refused = λ some. by_refusal x y (split (λ (m : Message). refuses req m.body) first.sent next.sent some);
        never = λ met some. by_never x y met (split (λ (m : Message). refuses req m.body) first.sent next.sent some);
      }
    where
      by_edit : Goes u first → Goes first.after next → Telling first.records ⊎ Telling next.records → IsMet next.after
      by_edit x y (inl h) = y.stays (x.edited h)
      by_edit x y (inr h) = y.edited h

      behind : Goes u first → Goes first.after next → Refusing next.sent → (b : Bool) → list_any (tells req) first.records ≡ b → IsRefusedBy req (joined first next)
      behind x y h true is = absurd (y.never (x.edited is) h)
      behind x y h false is = (let r = y.refused h in record { edits = any_both (tells req) first.records next.records is r.edits; over = r.over })

      by_refusal : Goes u first → Goes first.after next → Refusing first.sent ⊎ Refusing next.sent → IsRefusedBy req (joined first next)
      by_refusal x y (inl h) =
          let r = x.refused h in
          let k = chained_over req config heard first.after next b r.over in
          record { edits = any_both (tells req) first.records next.records r.edits k.edits; over = k.over }
      by_refusal x y (inr h) = behind x y h (list_any (tells req) first.records) refl

      by_never : Goes u first → Goes first.after next → IsMet u → Refusing first.sent ⊎ Refusing next.sent → ⊥
      by_never x y met (inl h) = x.never met h
      by_never x y met (inr h) = y.never (x.stays met) h

pub chained_refused : (req : ReqId) (config : Config) (heard : Heard) (s : State) (t : Turn) → Chain config (IsMade config heard) s t → is_refused_in req t ≡ true → IsRefusedBy req t
chained_refused req config heard s t chain some = (chain_goes req config heard s t chain).refused some

pub refused_makes_no_edit : RefusedMakesNoEdit
refused_makes_no_edit config s event req named firm some = chained_refused req config (heard_in event) (met_in s event) (turn_of config s event) (events_are_chains config s event named firm) some
