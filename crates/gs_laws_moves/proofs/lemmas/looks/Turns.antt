-- No turn by which nothing is called gives a chunk of a file a primary, or proposes a view for a lease.
use Rattle.std.proofs.Common.{◌≡◌, ◌∙◌, ◌&&◌, ◌||◌, ◌==◌, ◌++◌, ℕ, Bool, true, false, cond, not, List, [], ◌∷◌, length, filter, refl, ap, sym, subst}
use Rattle.std.specs.Prelude.{flat_map, fold, nat_lt, option_and_then, Option, Some, None, Result, Ok, Err, if◌then◌else◌}
use Rattle.std.specs.Cmp.{nat_cmp_total}
use Rattle.std.specs.FinMap as fin
use Rattle.std.specs.List.{AllByRecursion}
use Rattle.std.specs.Ordering.{eq_by_cmp, nat_cmp}
use Rattle.std.proofs.lemmas.Bool.{false≢true}
use Rattle.gs_base.specs.Members.{is_member}
use Rattle.gs_base.specs.Stamps.{is_same}
use Rattle.gs_base.specs.declared.config.Config.{Config}
use Rattle.gs_base.specs.declared.numbers.Moment.{Moment}
use Rattle.gs_base.specs.declared.numbers.ReqId.{ReqId}
use Rattle.gs_base.specs.declared.numbers.Stamp.{Stamp}
use Rattle.gs_base.specs.declared.refusal.Refusal.{Refusal}
use Rattle.gs_base.specs.declared.refusal.Refusal.TheVariants as refusals
use Rattle.gs_lease.specs.Transitions.{end_of, is_for_lease, term_of}
use Rattle.gs_lease.specs.declared.view.Purpose.{Purpose}
use Rattle.gs_lease.specs.declared.view.Purpose.TheVariants as purposes
use Rattle.gs_lease.specs.declared.view.View.{View}
use Rattle.gs_msg.specs.declared.answer.Answer.{Answer}
use Rattle.gs_msg.specs.declared.answer.Answer.TheVariants as answers
use Rattle.gs_msg.specs.declared.body.Body.{Body}
use Rattle.gs_msg.specs.declared.body.Body.TheVariants as bodies
use Rattle.gs_msg.specs.declared.body.Reported.{Reported}
use Rattle.gs_msg.specs.declared.call.Call.{Call}
use Rattle.gs_msg.specs.declared.call.Call.TheVariants as calls
use Rattle.gs_msg.specs.declared.chunk.Chunk.{Chunk as Said_of_chunk}
use Rattle.gs_msg.specs.declared.chunk.Chunk.TheVariants as chunks
use Rattle.gs_msg.specs.declared.message.Message.{Message}
use Rattle.gs_msg.specs.declared.node.NodeId.{NodeId}
use Rattle.gs_msg.specs.declared.node.NodeId.TheVariants as nodes
use Rattle.gs_view.specs.Choice.{chosen}
use Rattle.gs_view.specs.Spoken.{with_no, with_yes}
use Rattle.gs_view.specs.declared.poll.Poll.{Poll}
use Rattle.gs_master_record.specs.Plain.{Said, Settle}
use Rattle.gs_master_spec.specs.Beginning.{all_begun, begin_at, begun, has_versions}
use Rattle.gs_master_spec.specs.Calls.{answered_with, found_chunk, listing, location, looked_up, refused_before, status, told_phase}
use Rattle.gs_master_spec.specs.Chunks.{Chunk, chunk_at, has_entry, heard_no, heard_yes, hears, holder_records, is_holder, is_target, may_begin, may_settle, settling, step_at_tick, step_of_no, step_of_yes, target_of, view_by, with_answers}
use Rattle.gs_master_spec.specs.Durable.{Settled, is_rolling, prepared_view}
use Rattle.gs_master_spec.specs.Handling.{Again, New, Numbered, Older, about_turn, call_turn, called_unless, checkpoint, from_client, from_node, granted, granted_at, handle, numbered, pressed, pressed_at, pressed_if, proposals, replied_again, server_turn, taken_as, tick, waits_still}
use Rattle.gs_master_spec.specs.Hearing.{ask_plan, drops, heard, is_leased_under, is_lost_at, is_with_sealed, learned, lost, made_quiet, next_epoch, promised_at, promised_for, reported, reported_now, send_plan, sends, stepped, unpromised_at, unpromised_for}
use Rattle.gs_master_spec.specs.Settling.{all_go_on, all_refused, concerned, is_copied_by, requests_of, settle_plan, settled_by, settled_if, settled_on}
use Rattle.gs_master_spec.specs.State.{Plan, State, Turn, about, all_ended_by, and_then, answered, fits, for_each, if_room, is_failed, is_unopened, keeps_refusal, kept_in_memory, last_reply, met_by, refusal_plan, refused, reply_to, said_changes, turned, unmoved}
use Rattle.gs_master_spec.specs.Replies.{is_later}
use Rattle.gs_master_spec.specs.Volatile.{Volatile, all_changed, changed, is_call, is_pending}
use Rattle.gs_master_spec.specs.declared.asking.Asking.{Asking}
use Rattle.gs_master_spec.specs.declared.asking.Step.{Step}
use Rattle.gs_master_spec.specs.declared.asking.Step.TheVariants as steps
use Rattle.gs_master_spec.specs.declared.change.Change.{Change}
use Rattle.gs_master_spec.specs.declared.change.Change.TheVariants as changes
use Rattle.gs_master_spec.specs.declared.pending.Pending.{Pending}
use Rattle.gs_laws_moves.proofs.lemmas.answers.Plans.{both_so}
use Rattle.gs_laws_moves.specs.answers.Resting.{is_look}
use Rattle.gs_laws_moves.proofs.lemmas.looks.Records.{AreSo, DurableSo, all_done, never, same_key}

asking_is : {a b : Asking} → ◌≡◌ {A = Option Asking} (Some a) (Some b) → a ≡ b
asking_is h = cc

chunk_is : {a b : Chunk} → ◌≡◌ {A = Option Chunk} (Some a) (Some b) → a ≡ b
chunk_is h = cc

view_is : {a b : View} → ◌≡◌ {A = Option View} (Some a) (Some b) → a ≡ b
view_is h = cc

-- a view has a primary only where it was proposed for a lease
term_none : (purpose : Purpose) (members : List ℕ) (moment : Moment) → is_for_lease purpose ≡ false → term_of purpose members moment ≡ None
term_none purposes.Quiet members moment is = refl
term_none purposes.Lease members moment is = absurd (false≢true (sym is))
term_none (purposes.Copy target) members moment is = refl

view_quiet : (c : Chunk) (asking : Asking) (by : Poll) (moment : Moment) (view : View) → is_for_lease asking.purpose ≡ false → view_by c asking by moment ≡ Some view → view.term ≡ None
view_quiet c asking by moment view is gives = by_choice (chosen by.counts) gives
  where
    by_test : (b : Bool) (choice : List ℕ × ℕ) → (if b then Some (record { stamp = asking.stamp; count = choice.1; members = choice.0; term = term_of asking.purpose choice.0 moment }) else None) ≡ Some view → view.term ≡ None
    by_test true choice h = sym (ap (λ (v : View). v.term) (view_is h)) ∙ term_none asking.purpose choice.0 moment is
    by_test false choice h = never h

    by_choice : (o : Option (List ℕ × ℕ)) → option_and_then (λ choice. if may_settle asking.asked choice.0 then Some (record { stamp = asking.stamp; count = choice.1; members = choice.0; term = term_of asking.purpose choice.0 moment }) else None) o ≡ Some view → view.term ≡ None
    by_choice None h = never h
    by_choice (Some choice) h = by_test (may_settle asking.asked choice.0) choice h

-- what an answer leaves of the purpose
yes_same : (asking : Asking) (server count : ℕ) → (heard_yes asking server count).purpose ≡ asking.purpose
yes_same asking server count = by_test (is_member asking.asked server)
  where
    by_test : (b : Bool) → (if b then with_answers asking (with_yes asking.answers server count) else asking).purpose ≡ asking.purpose
    by_test true = refl
    by_test false = refl

no_same : (asking : Asking) (server : ℕ) → (heard_no asking server).purpose ≡ asking.purpose
no_same asking server = by_test (is_member asking.asked server)
  where
    by_test : (b : Bool) → (if b then with_answers asking (with_no asking.answers server) else asking).purpose ≡ asking.purpose
    by_test true = refl
    by_test false = refl

-- a new call that a message brings looks
abbrev pub BringsLook : State → Body → Type 0
BringsLook s (bodies.Call req call) = numbered (last_reply s req.client) req.number ≡ New → is_look call ≡ true
BringsLook s body = Unit {0}

module _ (listed : ℕ → Bool) where
  -- ---- what is kept in memory

  abbrev AskingSo : ℕ → Asking → Type 0
  AskingSo chunk asking = listed chunk ≡ true → is_for_lease asking.purpose ≡ false

  pub record MemorySo (v : Volatile) : Type 0 where
    pub asked : (chunk : ℕ) (asking : Asking) → fin.get v.moving chunk ≡ Some asking → AskingSo chunk asking
    pub none : v.pending ≡ []

  abbrev ChangeSo : Change → Type 0
  ChangeSo (changes.Ask chunk asking) = AskingSo chunk asking
  ChangeSo (changes.Settled chunk) = Unit {0}
  ChangeSo (changes.Restored server many) = Unit {0}
  ChangeSo (changes.Keep client reply) = Unit {0}
  ChangeSo change = ⊥

  abbrev AreChanges : List Change → Type 0
  AreChanges cs = AllByRecursion ChangeSo cs

  removed_was : (m : fin.FinMap nat_cmp Asking) (chunk q : ℕ) (a : Asking) → fin.get (fin.remove m chunk) q ≡ Some a → fin.get m q ≡ Some a
  removed_was m chunk q a has = by_key (eq_by_cmp nat_cmp q chunk) (sym (fin.get-remove nat_cmp_total m chunk q) ∙ has)
    where
      by_key : (b : Bool) → cond b None (fin.get m q) ≡ Some a → fin.get m q ≡ Some a
      by_key true h = never h
      by_key false h = h

  pub all_removed_was : (many : List ℕ) (m : fin.FinMap nat_cmp Asking) (q : ℕ) (a : Asking) → fin.get (fold fin.remove m many) q ≡ Some a → fin.get m q ≡ Some a
  all_removed_was [] m q a has = has
  all_removed_was (chunk ∷ many) m q a has = removed_was m chunk q a (all_removed_was many (fin.remove m chunk) q a has)

  inserted_so : (m : fin.FinMap nat_cmp Asking) (chunk : ℕ) (asking : Asking) → ((q : ℕ) (a : Asking) → fin.get m q ≡ Some a → AskingSo q a) → AskingSo chunk asking → (q : ℕ) (a : Asking) → fin.get (fin.insert m chunk asking) q ≡ Some a → AskingSo q a
  inserted_so m chunk asking before is q a has known = by_key (eq_by_cmp nat_cmp q chunk) refl (sym (fin.get-insert nat_cmp_total m chunk asking q) ∙ has)
    where
      by_key : (b : Bool) → eq_by_cmp nat_cmp q chunk ≡ b → cond b (Some asking) (fin.get m q) ≡ Some a → is_for_lease a.purpose ≡ false
      by_key true same h = subst (λ (x : Asking). is_for_lease x.purpose ≡ false) (asking_is h) (is (ap listed (sym (same_key q chunk same)) ∙ known))
      by_key false apart h = before q a h known

  change_so : (v : Volatile) (change : Change) → ChangeSo change → MemorySo v → MemorySo (changed v change)
  change_so v (changes.Ask chunk asking) is so = record { asked = inserted_so v.moving chunk asking so.asked is; none = so.none }
  change_so v (changes.Settled chunk) is so = record { asked = λ q a has. so.asked q a (removed_was v.moving chunk q a has); none = so.none }
  change_so v (changes.Restored server many) is so = record { asked = so.asked; none = so.none }
  change_so v (changes.Keep client reply) is so = record { asked = so.asked; none = so.none }
  change_so v (changes.Enter chunk) is so = absurd is
  change_so v (changes.Place chunk) is so = absurd is
  change_so v (changes.Lose chunk) is so = absurd is
  change_so v (changes.Forget many) is so = absurd is
  change_so v (changes.Begin p) is so = absurd is
  change_so v (changes.Wait req waiting) is so = absurd is
  change_so v (changes.End req) is so = absurd is
  change_so v (changes.Prepare is_preparing) is so = absurd is
  change_so v changes.RolledBack is so = absurd is

  all_so : (cs : List Change) (v : Volatile) → AreChanges cs → MemorySo v → MemorySo (all_changed v cs)
  all_so [] v are so = so
  all_so (c ∷ cs) v are so = all_so cs (changed v c) are.1 (change_so v c are.0 so)

  -- ---- turns

  pub record So (s : State) : Type 0 where
    pub durable : DurableSo listed s.durable
    pub memory : MemorySo s.volatile

  pub record TurnSo (t : Turn) : Type 0 where
    pub records : AreSo listed t.records
    pub after : So t.after

  pub pick : (S : Turn → Type 0) (b : Bool) (t u : Turn) → S t → S u → S (if b then t else u)
  pick S true t u x y = x
  pick S false t u x y = y

  still : (s : State) (messages : List Message) (said : Option Refusal) → So s → TurnSo (record { after = s; records = []; sent = messages; said = said })
  still s messages said so = record { records = tt; after = so }

  pub nothing : (s : State) (said : Option Refusal) → So s → TurnSo (record { after = s; records = []; sent = []; said = said })
  nothing s said so = still s [] said so

  planned : (s : State) (plan : Plan) → So s → AreSo listed plan.records → AreChanges plan.changes → TurnSo (turned s plan)
  planned s plan so records cs = record { records = records; after = record { durable = all_done listed plan.records s records so.durable; memory = all_so plan.changes s.volatile cs so.memory } }

  pub then_so : (t : Turn) (f : State → Turn) → TurnSo t → TurnSo (f t.after) → TurnSo (and_then t f)
  then_so t f a b = record { records = both_so _ t.records (f t.after).records a.records b.records; after = b.after }

  -- ---- one chunk

  chunk_asks : (s : State) (chunk : ℕ) (c : Chunk) → So s → chunk_at s chunk ≡ Some c → (asking : Asking) → c.asking ≡ Some asking → AskingSo chunk asking
  unfolding chunk_at
  chunk_asks s chunk c so is asking asks = by_entry (has_entry s chunk) is
    where
      by_entry : (b : Bool) → (if b then Some (record { settled = fin.get s.durable.chunks chunk; asking = fin.get s.volatile.moving chunk }) else None) ≡ Some c → AskingSo chunk asking
      by_entry true h = so.memory.asked chunk asking (ap (λ (x : Chunk). x.asking) (chunk_is h) ∙ asks)
      by_entry false h = never h

  begun_so : (s : State) (chunk : ℕ) → So s → TurnSo (begun s chunk purposes.Quiet None)
  begun_so s chunk so = planned s (begin_at s chunk purposes.Quiet None) so (tt, tt) ((λ known. refl), tt)

  all_begun_so : (many : List ℕ) (s : State) → So s → TurnSo (all_begun s many purposes.Quiet None)
  all_begun_so [] s so = nothing s None so
  all_begun_so (chunk ∷ many) s so =
      let first = begun_so s chunk so in then_so (begun s chunk purposes.Quiet None) (λ next. all_begun next many purposes.Quiet None) first (all_begun_so many (begun s chunk purposes.Quiet None).after first.after)

  quiet_so : (many : List ℕ) (s : State) → So s → TurnSo (made_quiet many s)
  quiet_so many s so =
      let begin = all_begun s many purposes.Quiet None in
      pick TurnSo (has_versions s.durable (length many)) (if_room s begin (unmoved s)) (unmoved s) (pick TurnSo (fits s.log begin.records) begin (unmoved s) (all_begun_so many s so) (nothing s None so)) (nothing s None so)

  -- ---- no call waits

  none_concerned : (s : State) (chunk : ℕ) (call : Option ReqId) → So s → concerned s chunk call ≡ []
  none_concerned s chunk call so = ap (filter (λ (p : Pending). is_call p.req call || is_copied_by s chunk p.waits)) so.memory.none

  none_refused : (s : State) (chunk : ℕ) (call : Option ReqId) (refusal : Refusal) → So s → TurnSo (all_refused s chunk call refusal)
  none_refused s chunk call refusal so = subst (λ ps. TurnSo (all_ended_by s (requests_of ps) refusal)) (sym (none_concerned s chunk call so)) (nothing s None so)

  -- ---- settling

  settling_so : (holds : Bool) (chunk : ℕ) (target : Option ℕ) (view : View) → (listed chunk ≡ true → view.term ≡ None) → AreSo listed (holder_records holds chunk target ++ Settle (record { handle = chunk; view = view }) ∷ [])
  settling_so holds chunk None view is = (is, tt)
  settling_so true chunk (Some target) view is = (tt, (is, tt))
  settling_so false chunk (Some target) view is = (is, tt)

  settled_on_so : (s : State) (chunk : ℕ) (asking : Asking) (carried : Bool) (view : View) → (listed chunk ≡ true → view.term ≡ None) → So s → TurnSo (settled_on s chunk asking carried view)
  settled_on_so s chunk asking carried view is so =
      let records = settling s.durable.phase (prepared_view s.durable chunk) carried chunk asking view in
      let t = turned s (settle_plan records chunk view) in
      let first = planned s (settle_plan records chunk view) so (settling_so (is_holder s.durable.phase (prepared_view s.durable chunk) carried asking view) chunk (target_of asking.purpose) view is) (tt, tt) in
      pick TurnSo (fits s.log records) (and_then t (all_go_on view (concerned s chunk asking.call))) (all_refused s chunk asking.call refusals.Full)
      (then_so t (all_go_on view (concerned s chunk asking.call)) first (subst (λ ps. TurnSo (all_go_on view ps t.after)) (sym (none_concerned s chunk asking.call so)) (nothing t.after None first.after)))
      (none_refused s chunk asking.call refusals.Full so)

  settled_by_so : (s : State) (chunk : ℕ) (c : Chunk) (asking : Asking) (carried : Bool) (by : Poll) (moment : Moment) → AskingSo chunk asking → So s → TurnSo (settled_by s chunk c asking carried by moment)
  unfolding settled_by
  settled_by_so s chunk c asking carried by moment is so = by_view (view_by c asking by moment) refl
    where
      by_view : (o : Option View) → view_by c asking by moment ≡ o → TurnSo (settled_if s chunk asking carried o)
      by_view None gives = nothing s None so
      by_view (Some view) gives = settled_on_so s chunk asking carried view (λ known. view_quiet c asking by moment view (is known) gives) so

  -- ---- messages of servers

  stepped_so : (s : State) (chunk : ℕ) (c : Chunk) (asking : Asking) (carried : Bool) (moment : Moment) (step : Step) → AskingSo chunk asking → So s → TurnSo (stepped s chunk c asking carried moment step)
  stepped_so s chunk c asking carried moment steps.Wait is so = nothing s None so
  stepped_so s chunk c asking carried moment (steps.Send source target) is so = planned s (send_plan chunk asking source target (is_with_sealed s.durable.phase (prepared_view s.durable chunk) source)) so tt (is, tt)
  stepped_so s chunk c asking carried moment (steps.Settle by) is so = settled_by_so s chunk c asking carried by moment is so
  stepped_so s chunk c asking carried moment steps.Fail is so = none_refused s chunk asking.call refusals.NoReplica so

  heard_so : (s : State) (chunk : ℕ) (c : Chunk) (asking : Asking) (carried : Bool) (moment : Moment) (step : Step) → AskingSo chunk asking → So s → TurnSo (heard s chunk c asking carried moment step)
  heard_so s chunk c asking carried moment step is so =
      let first = planned s (ask_plan chunk asking) so tt (is, tt) in
      then_so (turned s (ask_plan chunk asking)) (λ next. stepped next chunk c asking carried moment step) first (stepped_so (turned s (ask_plan chunk asking)).after chunk c asking carried moment step is first.after)

  promised_for_so : (s : State) (server chunk : ℕ) (stamp : Stamp) (count : ℕ) (carried : Bool) (moment : Moment) (c : Chunk) (asking : Option Asking) → ((a : Asking) → asking ≡ Some a → AskingSo chunk a) → So s
      → TurnSo (promised_for s server chunk stamp count carried moment c asking)
  promised_for_so s server chunk stamp count carried moment c None is so = nothing s None so
  promised_for_so s server chunk stamp count carried moment c (Some asking) is so =
      pick TurnSo (hears asking stamp server) (heard s chunk c (heard_yes asking server count) (carried && is_target asking server) moment (step_of_yes asking server count)) (unmoved s)
      (heard_so s chunk c (heard_yes asking server count) (carried && is_target asking server) moment (step_of_yes asking server count) (λ known. ap is_for_lease (yes_same asking server count) ∙ is asking refl known) so) (nothing s None so)

  promised_at_so : (s : State) (server chunk : ℕ) (stamp : Stamp) (count : ℕ) (carried : Bool) (moment : Moment) (c : Option Chunk) → chunk_at s chunk ≡ c → So s → TurnSo (promised_at s server chunk stamp count carried moment c)
  promised_at_so s server chunk stamp count carried moment None was so = nothing s None so
  promised_at_so s server chunk stamp count carried moment (Some c) was so = promised_for_so s server chunk stamp count carried moment c c.asking (chunk_asks s chunk c so was) so

  unpromised_for_so : (s : State) (server chunk : ℕ) (stamp : Stamp) (moment : Moment) (c : Chunk) (asking : Option Asking) → ((a : Asking) → asking ≡ Some a → AskingSo chunk a) → So s → TurnSo (unpromised_for s server chunk stamp moment c asking)
  unpromised_for_so s server chunk stamp moment c None is so = nothing s None so
  unpromised_for_so s server chunk stamp moment c (Some asking) is so =
      pick TurnSo (hears asking stamp server) (heard s chunk c (heard_no asking server) false moment (step_of_no asking server)) (unmoved s)
      (heard_so s chunk c (heard_no asking server) false moment (step_of_no asking server) (λ known. ap is_for_lease (no_same asking server) ∙ is asking refl known) so) (nothing s None so)

  unpromised_at_so : (s : State) (server chunk : ℕ) (stamp : Stamp) (moment : Moment) (c : Option Chunk) → chunk_at s chunk ≡ c → So s → TurnSo (unpromised_at s server chunk stamp moment c)
  unpromised_at_so s server chunk stamp moment None was so = nothing s None so
  unpromised_at_so s server chunk stamp moment (Some c) was so = unpromised_for_so s server chunk stamp moment c c.asking (chunk_asks s chunk c so was) so

  reported_so : (s : State) (server epoch : ℕ) (replicas : List Reported) → So s → TurnSo (reported s server epoch replicas)
  reported_so s server epoch replicas so =
      let dropped = sends s (drops s server replicas) in
      pick TurnSo (nat_lt epoch s.durable.epoch) (sends s (next_epoch s.durable server epoch)) (if may_begin s.durable.phase && (epoch == s.durable.epoch) then reported_now s server replicas else unmoved s) (still s (next_epoch s.durable server epoch) None so)
      (pick TurnSo (may_begin s.durable.phase && (epoch == s.durable.epoch)) (reported_now s server replicas) (unmoved s)
      (then_so dropped (made_quiet (lost s server replicas)) (still s (drops s server replicas) None so) (quiet_so (lost s server replicas) s so)) (nothing s None so))

  learned_so : (s : State) (server epoch : ℕ) (handles : List ℕ) → So s → TurnSo (learned s server epoch handles)
  learned_so s server epoch handles so =
      let plan : Plan = record { records = []; changes = changes.Restored server handles ∷ []; sent = []; said = None } in
      pick TurnSo (nat_lt epoch s.durable.epoch) (sends s (next_epoch s.durable server epoch)) (if is_rolling s.durable.phase && (epoch == s.durable.epoch) then turned s plan else unmoved s) (still s (next_epoch s.durable server epoch) None so)
      (pick TurnSo (is_rolling s.durable.phase && (epoch == s.durable.epoch)) (turned s plan) (unmoved s) (planned s plan so tt (tt, tt)) (nothing s None so))

  about_so : (s : State) (server chunk : ℕ) (moment : Moment) (said : Said_of_chunk) → So s → TurnSo (about_turn s server chunk moment said)
  about_so s server chunk moment (chunks.Promised stamp count carried) so = promised_at_so s server chunk stamp count carried moment (chunk_at s chunk) refl so
  about_so s server chunk moment (chunks.Unpromised stamp refusal) so = unpromised_at_so s server chunk stamp moment (chunk_at s chunk) refl so
  about_so s server chunk moment (chunks.Renew stamp) so =
      pick TurnSo (is_leased_under stamp (chunk_at s chunk) && not s.volatile.is_preparing) (sends s (about chunk (chunks.Renewed stamp (end_of moment)) server ∷ [])) (unmoved s) (still s (about chunk (chunks.Renewed stamp (end_of moment)) server ∷ []) None so) (nothing s None so)
  about_so s server chunk moment (chunks.Bad stamp) so = pick TurnSo (may_begin s.durable.phase && is_lost_at server (chunk_at s chunk)) (made_quiet (chunk ∷ []) s) (unmoved s) (quiet_so (chunk ∷ []) s so) (nothing s None so)
  about_so s server chunk moment said so = nothing s (Some refusals.Stray) so

  server_so : (s : State) (server : ℕ) (moment : Moment) (said : Body) → So s → TurnSo (server_turn s server moment said)
  server_so s server moment (bodies.About chunk said) so = about_so s server chunk moment said so
  server_so s server moment (bodies.Report epoch replicas) so = reported_so s server epoch replicas so
  server_so s server moment (bodies.Learned epoch handles) so = learned_so s server epoch handles so
  server_so s server moment (bodies.Behind epoch) so = pick TurnSo (nat_lt epoch s.durable.epoch) (sends s (next_epoch s.durable server epoch)) (unmoved s) (still s (next_epoch s.durable server epoch) None so) (nothing s None so)
  server_so s server moment said so = nothing s (Some refusals.Stray) so

  -- ---- calls

  module _ (config : Config) (s : State) (req : ReqId) (moment : Moment) (call : Call) (so : So s) where
    said_so : (b : Bool) (refusal : Refusal) → AreSo listed (if b then Said req refusal ∷ [] else [])
    said_so true refusal = (tt, tt)
    said_so false refusal = tt

    kept_so : (b : Bool) (result : Result Answer Refusal) → AreChanges (if b then kept_in_memory req result ∷ [] else [])
    kept_so true result = (tt, tt)
    kept_so false result = tt

    refused_so : (refusal : Refusal) → TurnSo (refused s req refusal)
    refused_so refusal = planned s (refusal_plan s req refusal [] (Some refusal)) so (said_so (keeps_refusal s req refusal && fits s.log (Said req refusal ∷ [])) refusal)
        (both_so _ (said_changes (keeps_refusal s req refusal) s.log req refusal) [] (kept_so (keeps_refusal s req refusal && not (fits s.log (Said req refusal ∷ []))) (Err refusal)) tt)

    answered_so : (answer : Answer) → TurnSo (answered_with s req answer)
    answered_so answer = planned s (answered s req answer) so tt (kept_so (is_later (last_reply s req.client) req.number) (Ok answer))

    looked_so : (result : Result Answer Refusal) → TurnSo (looked_up s req result)
    looked_so (Ok answer) = answered_so answer
    looked_so (Err refusal) = refused_so refusal

    look_so : (call : Call) → is_look call ≡ true → (refusal : Option Refusal) → TurnSo (called_unless config s req moment call refusal)
    look_so call is (Some refusal) = refused_so refusal
    look_so (calls.List path) is None = looked_so (listing (fin.entries s.durable.names.tree) path (fin.get s.durable.names.tree path))
    look_so (calls.Status path) is None = looked_so (status s.durable (fin.get s.durable.names.tree path))
    look_so (calls.FindForReading path index) is None = looked_so (location s.durable (found_chunk (fin.get s.durable.names.tree path) index))
    look_so calls.Query is None = answered_so (answers.Phase (told_phase s.volatile.is_preparing s.durable.phase) s.durable.epoch)
    look_so call is None = absurd (false≢true is)

    again_so : (result : Result Answer Refusal) → TurnSo (replied_again s req result)
    again_so result = still s (reply_to req result ∷ []) _ so

    waiting_so : TurnSo (waits_still s req)
    waiting_so = pick TurnSo (is_failed s.fault) (replied_again s req (Err refusals.Device)) (unmoved s) (again_so (Err refusals.Device)) (nothing s None so)

    -- where it looks, or isn't new
    taken_so : (numbered (last_reply s req.client) req.number ≡ New → is_look call ≡ true) → (how : Numbered) → numbered (last_reply s req.client) req.number ≡ how → TurnSo (taken_as config s req moment call how)
    taken_so looks New is = look_so call (looks is) (refused_before s req call)
    taken_so looks (Again result) is = again_so result
    taken_so looks Older is = again_so (Err refusals.Old)

    pub call_so : (numbered (last_reply s req.client) req.number ≡ New → is_look call ≡ true) → TurnSo (call_turn config s req moment call)
    call_so looks =
        let taken = taken_as config s req moment call (numbered (last_reply s req.client) req.number) in
        pick TurnSo (is_unopened s.fault) (replied_again s req (Err refusals.Device)) (if is_pending s.volatile.pending req then waits_still s req else taken) (again_so (Err refusals.Device))
        (pick TurnSo (is_pending s.volatile.pending req) (waits_still s req) taken waiting_so (taken_so looks (numbered (last_reply s req.client) req.number) refl))

  -- ---- a message

  client_so : (config : Config) (s : State) (moment : Moment) (said : Body) → BringsLook s said → So s → TurnSo (from_client config s moment said)
  client_so config s moment (bodies.Call req call) looks so = call_so config s req moment call so looks
  client_so config s moment said looks so = nothing s (Some refusals.Stray) so

  node_so : (config : Config) (s : State) (moment : Moment) (said : Body) (from : NodeId) → BringsLook s said → So s → TurnSo (from_node config s moment said from)
  node_so config s moment said nodes.Master looks so = nothing s (Some refusals.Stray) so
  node_so config s moment said (nodes.Server server) looks so = pick TurnSo (is_failed s.fault) (met_by s refusals.Device) (server_turn s server moment said) (nothing s (Some refusals.Device) so) (server_so s server moment said so)
  node_so config s moment said (nodes.Client client) looks so = client_so config s moment said looks so

  pub message_so : (config : Config) (s : State) (message : Message) (moment : Moment) → BringsLook s message.body → So s → TurnSo (handle config s message moment)
  unfolding handle
  message_so config s message moment looks so = node_so config s moment message.body message.from looks so

  -- ---- a tick

  pressed_if_so : (s : State) (chunk : ℕ) (stamp : Stamp) (moment : Moment) (c : Chunk) (asking : Option Asking) → ((a : Asking) → asking ≡ Some a → AskingSo chunk a) → So s → TurnSo (pressed_if s chunk stamp moment c asking)
  pressed_if_so s chunk stamp moment c None is so = nothing s None so
  pressed_if_so s chunk stamp moment c (Some asking) is so =
      pick TurnSo (is_same asking.stamp stamp) (stepped s chunk c asking false moment (step_at_tick asking)) (unmoved s) (stepped_so s chunk c asking false moment (step_at_tick asking) (is asking refl) so) (nothing s None so)

  pressed_at_so : (s : State) (chunk : ℕ) (stamp : Stamp) (moment : Moment) (c : Option Chunk) → chunk_at s chunk ≡ c → So s → TurnSo (pressed_at s chunk stamp moment c)
  pressed_at_so s chunk stamp moment None was so = nothing s None so
  pressed_at_so s chunk stamp moment (Some c) was so = pressed_if_so s chunk stamp moment c c.asking (chunk_asks s chunk c so was) so

  all_pressed_so : (many : List (ℕ × Stamp)) (moment : Moment) (s : State) → So s → TurnSo (for_each s many (pressed moment))
  all_pressed_so [] moment s so = nothing s None so
  all_pressed_so (p ∷ many) moment s so =
      let first = pressed_at_so s p.0 p.1 moment (chunk_at s p.0) refl so in then_so (pressed moment p s) (λ next. for_each next many (pressed moment)) first (all_pressed_so many moment (pressed moment p s).after first.after)

  -- all steps of a tick, before a checkpoint
  pub steps_so : (s : State) (moment : Moment) → So s → TurnSo (and_then (for_each s (proposals s) (pressed moment)) granted)
  steps_so s moment so =
      let press = for_each s (proposals s) (pressed moment) in
      let first = all_pressed_so (proposals s) moment s so in then_so press granted first (still press.after (flat_map (λ chunk. granted_at chunk (chunk_at press.after chunk)) (fin.keys press.after.durable.chunks)) None first.after)
