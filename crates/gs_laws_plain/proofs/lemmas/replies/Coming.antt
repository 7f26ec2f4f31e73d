-- A call of the tree that comes is answered plainly, or waits.
use Rattle.std.proofs.Common.{◌≡◌, ◌⊎◌, inl, inr, ◌∙◌, ◌&&◌, ◌==◌, ℕ, Bool, true, false, not, List, [], ◌∷◌, length, refl, ap, sym, subst, arith}
use Rattle.std.specs.Prelude.{filter_map, nat_lt, Option, Some, None, Result, Ok, Err, if◌then◌else◌}
use Rattle.std.specs.FinMap as fin
use Rattle.std.specs.List.{AllByRecursion, list_any}
use Rattle.std.proofs.lemmas.Bool.{false≢true}
use Rattle.std.proofs.lemmas.Bool.Decides.{nat_tests}
use Rattle.gs_base.specs.declared.config.Config.{Config}
use Rattle.gs_base.specs.declared.numbers.Moment.{Moment}
use Rattle.gs_base.specs.declared.numbers.ReqId.{ReqId}
use Rattle.gs_base.specs.declared.refusal.Refusal.{Refusal}
use Rattle.gs_base.specs.declared.refusal.Refusal.TheVariants as refusals
use Rattle.gs_edit.proofs.Payloads.{snapshot_rows-map}
use Rattle.gs_edit.specs.Edits.{edited}
use Rattle.gs_edit.specs.Mapped.{mapped_edit, mapped_rows}
use Rattle.gs_edit.specs.Names.{IsCounted}
use Rattle.gs_edit.specs.Plain.{snapshot_rows}
use Rattle.gs_edit.specs.declared.edit.Edit.TheVariants as edits
use Rattle.gs_lease.specs.declared.view.Purpose.{Purpose}
use Rattle.gs_lease.specs.declared.view.Purpose.TheVariants as purposes
use Rattle.gs_msg.specs.declared.answer.Answer.{Answer}
use Rattle.gs_msg.specs.declared.answer.Answer.TheVariants as answers
use Rattle.gs_msg.specs.declared.body.Body.{Body}
use Rattle.gs_msg.specs.declared.body.Body.TheVariants as bodies
use Rattle.gs_msg.specs.declared.call.Call.{Call}
use Rattle.gs_msg.specs.declared.call.Call.TheVariants as calls
use Rattle.gs_msg.specs.declared.chunk.Chunk.TheVariants as chunks
use Rattle.gs_msg.specs.declared.message.Message.{Message}
use Rattle.gs_path.specs.Path.{Path}
use Rattle.gs_tree.specs.Find.{Rows}
use Rattle.gs_laws_moves.proofs.lemmas.answers.Answering.{pick}
use Rattle.gs_laws_moves.proofs.lemmas.answers.Plans.{both_so}
use Rattle.gs_laws_plain.proofs.lemmas.commands.Answering.{calls_answer}
use Rattle.gs_laws_plain.specs.commands.Answering.{IsAtOnce}
use Rattle.gs_laws_plain.specs.commands.Answers.{answered, is_refused_by_store, plain_answer}
use Rattle.gs_laws_plain.specs.commands.Commands.{command_of}
use Rattle.gs_laws_plain.specs.commands.Doing.{DoesAsAnswered, NewCallsDoAsAnswered, done_by, is_of_tree}
use Rattle.gs_master_record.specs.Plain.{Said}
use Rattle.gs_master_spec.specs.Beginning.{all_begun, begun, has_versions, members_at, next_stamp}
use Rattle.gs_master_spec.specs.Calls.{is_always_taken, is_any_deep, is_any_hidden, is_locked, is_work}
use Rattle.gs_master_spec.specs.Chunks.{chunk_at}
use Rattle.gs_master_spec.specs.Durable.{is_rolling}
use Rattle.gs_master_spec.specs.Handling.{Numbered, New, Again, Older, call_turn, called_unless, new_call, numbered, replied_again, taken_as, waits_still}
use Rattle.gs_master_spec.specs.State.{State, Turn, about, and_then, first_of, fits, if_room, is_failed, is_unopened, keeps_refusal, last_reply, refused, reply_to, to_each, turned, unmoved}
use Rattle.gs_master_spec.specs.Undoing.{edited_names}
use Rattle.gs_master_spec.specs.Volatile.{is_pending}
use Rattle.gs_master_spec.specs.Working.{begin_pending, begins_snapshot, is_wanted_at, snapshot_if, unquiet}
use Rattle.gs_master_spec.specs.declared.pending.Waiting.TheVariants as waits
use Rattle.gs_master_spec.specs.declared.reply.KeptReply.{KeptReply}
use Rattle.gs_laws_plain.proofs.lemmas.replies.Owning.{calls_own, refused_own}
use Rattle.gs_laws_plain.specs.replies.Replies.{ComesPlainly, WasKept}
use Rattle.gs_laws_plain.specs.replies.Waited.{IsPlainBy, RepliesSo}

-- ---- calls that are answered at once

-- what the one reply of some messages says
abbrev said_in : Body → Result Answer Refusal
said_in (bodies.Reply req result) = result
said_in body = Err refusals.Memory

abbrev first_said : List Message → Result Answer Refusal
first_said [] = Err refusals.Memory
first_said (m ∷ messages) = said_in m.body

module _ (law : NewCallsDoAsAnswered) (config : Config) (s : State) (req : ReqId) (moment : Moment) (call : Call) where
  abbrev Comes : Turn → Result Answer Refusal → Type 0
  Comes t result = ComesPlainly s t moment req call result

  at_once : is_of_tree call ≡ true → IsAtOnce s call → (result : Result Answer Refusal) × ((new_call config s req moment call).sent ≡ reply_to req result ∷ []) × Comes (new_call config s req moment call) result
  at_once tree once = (does.result, does.sent, record { tree = tree; plainly = λ text plain has is. by text plain has is; does = does.does; own = calls_own config s req moment call tree once })
    where
      does : DoesAsAnswered req (done_by s moment call) (new_call config s req moment call)
      does = law config s req moment call tree once

      by : (text : ℕ → List ℕ) (plain : Result Answer Refusal) → IsCounted s.durable.names → plain_answer (mapped_rows text (fin.entries s.durable.names.tree)) moment.0 s.durable.next_hidden call ≡ Some plain → (is_refused_by_store does.result ≡ true) ⊎ (does.result ≡ plain)
      by text plain has is =
          let a = calls_answer config s req moment call text plain has once is in
          let same = ap first_said (sym a.sent ∙ does.sent) in subst (λ r. (is_refused_by_store r ≡ true) ⊎ (r ≡ plain)) same a.plainly

-- ---- a snapshot that isn't

module _ (config : Config) (s : State) (req : ReqId) (moment : Moment) (from to : Path) where
  abbrev its_call : Call
  its_call = calls.Snapshot from to

  -- each reply is its own, and so
  abbrev Each : Turn → Type 0
  Each t = AllByRecursion (λ (m : Message). RepliesSo (λ other result. (other ≡ req) × ComesPlainly s t moment req its_call result) m.body) t.sent

  abbrev IsPlainly : Result Answer Refusal → Type 0
  IsPlainly result = IsPlainBy s.durable.names moment.0 s.durable.next_hidden its_call result

  refused_each : (e : Refusal) → IsPlainly (Err e) → Each (refused s req e)
  refused_each e is = ((refl, record { tree = refl; plainly = is; does = by_test (keeps_refusal s req e && fits s.log (Said req e ∷ [])); own = refused_own s req e }), tt)
    where
      by_test : (b : Bool) → filter_map command_of (if b then Said req e ∷ [] else []) ≡ []
      by_test true = refl
      by_test false = refl

  of_store : (e : Refusal) → is_refused_by_store (Err e) ≡ true → Each (refused s req e)
  of_store e is = refused_each e (λ text plain has said. inl is)

  plain_is : {a b : Result Answer Refusal} → ◌≡◌ {A = Option (Result Answer Refusal)} (Some a) (Some b) → a ≡ b
  plain_is h = cc

  -- what the plain tree says to it
  abbrev its_own : (ℕ → List ℕ) → Result Answer Refusal
  its_own text = answered answers.Nothing (snapshot_rows (mapped_rows text (fin.entries s.durable.names.tree)) from to)

  -- the same by its paths
  abbrev tried : (ℕ → List ℕ) → Bool → Bool → Option (Result Answer Refusal)
  tried text deep hidden = Some (if deep then Err refusals.BadPath else if hidden then Err refusals.HiddenName else its_own text)

  deep_each : is_any_deep its_call ≡ true → Each (refused s req refusals.BadPath)
  deep_each deep = refused_each refusals.BadPath (λ text plain has said. inr (plain_is (sym (ap (λ b. tried text b (is_any_hidden its_call)) deep) ∙ said)))

  hidden_each : is_any_deep its_call ≡ false → is_any_hidden its_call ≡ true → Each (refused s req refusals.HiddenName)
  hidden_each shallow hidden = refused_each refusals.HiddenName (λ text plain has said. inr (plain_is (sym (ap (λ b. tried text b (is_any_hidden its_call)) shallow ∙ ap (tried text false) hidden) ∙ said)))

  -- messages of views that are begun
  no_reply : (t : Turn) (chunk : ℕ) (servers : List ℕ) → AllByRecursion (λ (m : Message). RepliesSo (λ other result. (other ≡ req) × ComesPlainly s t moment req its_call result) m.body) (to_each servers (about chunk (chunks.Advance (next_stamp s.durable))))
  no_reply t chunk [] = tt
  no_reply t chunk (server ∷ servers) = (tt, no_reply t chunk servers)

  begun_says : (t : Turn) (many : List ℕ) (purpose : Purpose) (u : State) → AllByRecursion (λ (m : Message). RepliesSo (λ other result. (other ≡ req) × ComesPlainly s t moment req its_call result) m.body) (all_begun u many purpose (Some req)).sent
  begun_says t [] purpose u = tt
  begun_says t (chunk ∷ many) purpose u = both_so _ (begun u chunk purpose (Some req)).sent (all_begun (begun u chunk purpose (Some req)).after many purpose (Some req)).sent (asked (members_at (chunk_at u chunk))) (begun_says t many purpose (begun u chunk purpose (Some req)).after)
    where
      asked : (servers : List ℕ) → AllByRecursion (λ (m : Message). RepliesSo (λ other result. (other ≡ req) × ComesPlainly s t moment req its_call result) m.body) (to_each servers (about chunk (chunks.Advance (next_stamp u.durable))))
      asked [] = tt
      asked (server ∷ servers) = (tt, asked servers)

  waiting_each : (chunk : ℕ) (many : List ℕ) → Each (begins_snapshot s req from to (chunk ∷ many))
  waiting_each chunk many =
      let wait = turned s (begin_pending req (waits.Snapshot from to)) in
      let begin : State → Turn = λ next. all_begun next (chunk ∷ many) purposes.Quiet (Some req) in
      let all = if_room s (and_then wait begin) (refused s req refusals.Full) in
      pick Each (list_any (is_wanted_at s) (chunk ∷ many)) (refused s req refusals.Locked) (if not (has_versions s.durable (length (chunk ∷ many))) then refused s req refusals.Exhausted else all)
      (of_store refusals.Locked refl)
      (pick Each (not (has_versions s.durable (length (chunk ∷ many)))) (refused s req refusals.Exhausted) all (of_store refusals.Exhausted refl)
      (pick Each (fits s.log (and_then wait begin).records) (and_then wait begin) (refused s req refusals.Full) (begun_says (and_then wait begin) (chunk ∷ many) purposes.Quiet wait.after) (of_store refusals.Full refl)))

  snapshot_each : (chunk : ℕ) (many : List ℕ) → unquiet s from ≡ chunk ∷ many → is_any_deep its_call ≡ false → is_any_hidden its_call ≡ false → (rows : Result (Rows ℕ) Refusal) → snapshot_rows (fin.entries s.durable.names.tree) from to ≡ rows → Each (snapshot_if s req from to rows)
  snapshot_each chunk many still shallow visible (Ok rows) is = subst (λ (xs : List ℕ). Each (begins_snapshot s req from to xs)) (sym still) (waiting_each chunk many)
  snapshot_each chunk many still shallow visible (Err e) is = refused_each e (λ text plain has said. inr (by text ∙ plain_is (sym (ap (λ b. tried text b (is_any_hidden its_call)) shallow ∙ ap (tried text false) visible) ∙ said)))
    where
      by : (text : ℕ → List ℕ) → Err e ≡ its_own text
      by text = sym (ap (answered answers.Nothing) (snapshot_rows-map text (fin.entries s.durable.names.tree) from to ∙ ap (mapped_edit text) is))

  unquiet_each : (chunk : ℕ) (many : List ℕ) → unquiet s from ≡ chunk ∷ many → Each (new_call config s req moment its_call)
  unfolding edited_names
  unquiet_each chunk many still = tested (is_failed s.fault) (is_rolling s.durable.phase && not (is_always_taken its_call)) (s.volatile.is_preparing && is_work its_call) (is_any_deep its_call) (is_locked s req its_call) (is_any_hidden its_call) refl refl
    where
      tested : (failed rolling preparing deep locked hidden : Bool) → is_any_deep its_call ≡ deep → is_any_hidden its_call ≡ hidden →
          Each (called_unless config s req moment its_call (first_of ((failed, refusals.Device) ∷ (rolling, refusals.RollingBack) ∷ (preparing, refusals.Preparing) ∷ (deep, refusals.BadPath) ∷ (locked, refusals.Locked) ∷ (hidden, refusals.HiddenName) ∷ [])))
      tested true rolling preparing deep locked hidden is seen = of_store refusals.Device refl
      tested false true preparing deep locked hidden is seen = of_store refusals.RollingBack refl
      tested false false true deep locked hidden is seen = of_store refusals.Preparing refl
      tested false false false true locked hidden is seen = deep_each is
      tested false false false false true hidden is seen = of_store refusals.Locked refl
      tested false false false false false true is seen = hidden_each is seen
      tested false false false false false false is seen = snapshot_each chunk many still is seen (edited (edits.Snapshot from to) (fin.entries s.durable.names.tree)) refl

-- ---- the reply that is kept

pub kept_is : (o : Option KeptReply) (number : ℕ) (result : Result Answer Refusal) → numbered o number ≡ Again result → (reply : KeptReply) × (o ≡ Some reply) × (reply.number ≡ number) × (reply.result ≡ result)
kept_is None number result is = absurd (cc)
kept_is (Some reply) number result is = by_same (reply.number == number) refl (nat_lt number reply.number) is
  where
    same_number : (a b : ℕ) → (a == b) ≡ true → a ≡ b
    same_number a b h = grind (arith, nat_tests)

    result_is : {a b : Result Answer Refusal} → Again a ≡ Again b → a ≡ b
    result_is h = cc

    by_same : (b : Bool) → (reply.number == number) ≡ b → (c : Bool) → (if b then Again reply.result else if c then Older else New) ≡ Again result → (kept : KeptReply) × (Some reply ≡ Some kept) × (kept.number ≡ number) × (kept.result ≡ result)
    by_same true same c h = (reply, refl, same_number reply.number number same, result_is h)
    by_same false apart true h = absurd (cc)
    by_same false apart false h = absurd (cc)

-- ---- all of them

module _ (law : NewCallsDoAsAnswered) (config : Config) (s : State) (req : ReqId) (moment : Moment) where
  abbrev AllPlain : Call → Turn → Type 0
  AllPlain call t = AllByRecursion (λ (m : Message). RepliesSo (λ other result. (other ≡ req) × ComesPlainly s t moment req call result) m.body) t.sent

  all_once : (call : Call) → is_of_tree call ≡ true → IsAtOnce s call → AllPlain call (new_call config s req moment call)
  all_once call tree once = (let one = at_once law config s req moment call tree once in subst (λ (ms : List Message). AllByRecursion (λ (m : Message). RepliesSo (λ other result. (other ≡ req) × ComesPlainly s (new_call config s req moment call) moment req call result) m.body) ms) (sym one.1) ((refl, one.2), tt))

  new_plain : (call : Call) → is_of_tree call ≡ true → AllPlain call (new_call config s req moment call)
  new_plain (calls.Snapshot from to) tree = by (unquiet s from) refl
    where
      by : (chunks : List ℕ) → unquiet s from ≡ chunks → AllPlain (calls.Snapshot from to) (new_call config s req moment (calls.Snapshot from to))
      by [] still = all_once (calls.Snapshot from to) tree still
      by (chunk ∷ many) still = unquiet_each config s req moment from to chunk many still
  new_plain (calls.Mkdirs p) tree = all_once (calls.Mkdirs p) tree tt
  new_plain (calls.Create p) tree = all_once (calls.Create p) tree tt
  new_plain (calls.Rename from to) tree = all_once (calls.Rename from to) tree tt
  new_plain (calls.Delete p recursive) tree = all_once (calls.Delete p recursive) tree tt
  new_plain (calls.Undelete p) tree = all_once (calls.Undelete p) tree tt
  new_plain (calls.List p) tree = all_once (calls.List p) tree tt
  new_plain call tree = absurd (false≢true tree)

  -- each reply of its turn: it comes, or it was kept
  abbrev pub Its : Call → Turn → Type 0
  Its call t = AllByRecursion (λ (m : Message). RepliesSo (λ other result. (other ≡ req) × (ComesPlainly s t moment req call result ⊎ WasKept s req result)) m.body) t.sent

  its_of : (call : Call) (t : Turn) → AllPlain call t → Its call t
  its_of call t all = each t.sent all
    where
      one : (body : Body) → RepliesSo (λ other result. (other ≡ req) × ComesPlainly s t moment req call result) body → RepliesSo (λ other result. (other ≡ req) × (ComesPlainly s t moment req call result ⊎ WasKept s req result)) body
      one (bodies.Reply other result) is = (is.0, inl is.1)
      one body is = tt

      each : (ms : List Message) → AllByRecursion (λ (m : Message). RepliesSo (λ other result. (other ≡ req) × ComesPlainly s t moment req call result) m.body) ms
          → AllByRecursion (λ (m : Message). RepliesSo (λ other result. (other ≡ req) × (ComesPlainly s t moment req call result ⊎ WasKept s req result)) m.body) ms
      each [] all = tt
      each (m ∷ ms) all = (one m.body all.0, each ms all.1)

  again_its : (call : Call) (e : Refusal) → is_of_tree call ≡ true → is_refused_by_store (Err e) ≡ true → Its call (replied_again s req (Err e))
  again_its call e tree is = ((refl, inl (record { tree = tree; plainly = λ text plain has said. inl is; does = refl; own = refl })), tt)

  taken_its : (call : Call) (how : Numbered) → numbered (last_reply s req.client) req.number ≡ how → is_of_tree call ≡ true → Its call (taken_as config s req moment call how)
  taken_its call New is tree = its_of call (new_call config s req moment call) (new_plain call tree)
  taken_its call (Again result) is tree = (let kept = kept_is (last_reply s req.client) req.number result is in ((refl, inr (record { reply = kept.0; has = kept.1; number = kept.2; is = kept.3 })), tt))
  taken_its call Older is tree = again_its call refusals.Old tree refl

  pub call_its : (call : Call) → is_of_tree call ≡ true → Its call (call_turn config s req moment call)
  call_its call tree =
      let taken = taken_as config s req moment call (numbered (last_reply s req.client) req.number) in
      let device = again_its call refusals.Device tree refl in
      pick (Its call) (is_unopened s.fault) (replied_again s req (Err refusals.Device)) (if is_pending s.volatile.pending req then waits_still s req else taken) device
      (pick (Its call) (is_pending s.volatile.pending req) (waits_still s req) taken (pick (Its call) (is_failed s.fault) (replied_again s req (Err refusals.Device)) (unmoved s) device tt)
      (taken_its call (numbered (last_reply s req.client) req.number) refl tree))
