-- What a client's call to commit a rollback is answered.
use Rattle.gs_laws_lift.specs.stores.Doing.{HasDurable}
use Rattle.gs_laws_moves.specs.moves.Epochs.{rolls_back}
use Rattle.gs_laws_chunks.proofs.lemmas.accounts.Cutting.{all_stand}
use Rattle.gs_laws_chunks.proofs.lemmas.accounts.Holding.{prepared_reached, reach_more, runs_of}
use Rattle.gs_laws_chunks.proofs.lemmas.accounts.Told.{reached_sound}
use Rattle.gs_laws_world.specs.lasting.Lasting.{Lasts, StandsFirm, failures_at}
use Rattle.gs_laws_lift.specs.stores.Left.{as_left}
use Rattle.std.proofs.Common.{arith, ◌≡◌, ◌∙◌, inl, inr, ◌⊎◌, ◌<◌, ◌&&◌, ℕ, Bool, true, false, List, [], ◌∷◌, Option, Some, None, Result, Ok, Err, refl, ap, subst, sym, ◌≤◌, length, suc, zero}
use Rattle.std.specs.Prelude.{is_some, if◌then◌else◌, take}
use Rattle.std.specs.FinMap as fin
use Rattle.std.proofs.lemmas.Bool.{false≢true, true≢false}
use Rattle.gs_base.specs.declared.config.Config.{Config}
use Rattle.gs_base.specs.declared.numbers.ClientId.{ClientId}
use Rattle.gs_base.specs.declared.numbers.Moment.{Moment}
use Rattle.gs_base.specs.declared.numbers.ReqId.{ReqId}
use Rattle.gs_base.specs.declared.refusal.Refusal.{Refusal}
use Rattle.gs_base.specs.declared.refusal.Refusal.TheVariants as refusals
use Rattle.gs_edit.specs.View.{NamesView}
use Rattle.gs_laws_master.proofs.lemmas.upgrades.Committing.{refuses_in_order, taken_unless_failed}
use Rattle.gs_laws_master.proofs.lemmas.refusals.Refusing.{refused_leaves_all}
use Rattle.gs_laws_master.specs.Promises.{AllFit, CommitsInOrder, IsFirstUnrestored, LeavesAll, commit_record, with_kept, with_said}
use Rattle.gs_master.specs.Masters.{MasterOf}
use Rattle.gs_laws_moves.proofs.lemmas.moves.Right.{one_fits}
use Rattle.gs_laws_moves.specs.moves.Guards.{Heard}
use Rattle.gs_master_record.specs.Plain.{RollbackCommit, Said, PlainEntry}
use Rattle.gs_master_spec.specs.Durable.{Durable, is_ordinary, is_rolling, prepared_view}
use Rattle.gs_master_spec.specs.Applied.{replayed}
use Rattle.gs_master_spec.specs.Handling.{New, call_turn, from_client, from_node, handle, numbered, replied_again, taken_as, waits_still}
use Rattle.gs_master_spec.specs.State.{Failed, Fault, Sound, State, Turn, Unopened, fits, is_failed, is_unopened, last_reply, refused, turned}
use Rattle.gs_master_spec.specs.Undoing.{all_undone}
use Rattle.gs_master_spec.specs.Upgrades.{accepted_plan, answers_for, commit_if, commit_on, rollback_commit, told_of, unrestored}
use Rattle.gs_master_spec.specs.Volatile.{is_pending}
use Rattle.gs_master_spec.specs.declared.change.Change.TheVariants as changes
use Rattle.gs_master_spec.specs.declared.pending.Pending.{Pending}
use Rattle.gs_laws_moves.proofs.lemmas.upgrades.Records.{turn_fits}
use Rattle.gs_laws_moves.specs.upgrades.Since.{IsSince}
use Rattle.gs_msg.specs.declared.body.Body.TheVariants as bodies
use Rattle.gs_msg.specs.declared.call.Call.TheVariants as calls
use Rattle.gs_msg.specs.declared.message.Message.{Message}
use Rattle.gs_msg.specs.declared.node.NodeId.TheVariants as nodes
use Rattle.gs_nodes.specs.Happenings.{met_by}
use Rattle.gs_nodes.specs.declared.place.MasterPlace.TheVariants.{Standing}
use Rattle.gs_refs.specs.Counts.{count_or_zero}
use Rattle.gs_world.proofs.Reaching.{HaveSizes}
use Rattle.gs_world.specs.Histories.{History}
use Rattle.gs_world.specs.Runs.{Step}
use Rattle.gs_laws_chunks.specs.accounts.Accounts.{Account}
use Rattle.gs_laws_chunks.specs.accounts.Running.{Moves, Setup}
use Rattle.gs_laws_chunks.specs.accounts.Upgrading.{IsUpgrading}
use Rattle.gs_laws_chunks.proofs.lemmas.accounts.Edits.{AreNumbered}
use Rattle.gs_laws_world.specs.steady.Steady.{StandsSteady}
use Rattle.gs_laws_chunks.proofs.lemmas.accounts.Became.{Became, BecameAll, Cuts, Loses, Whole, ByItself, ByMessage, IsHearing, Opened, Stays, Turns, Waits, became, closed_not, has_one}
use Rattle.gs_laws_chunks.proofs.lemmas.accounts.Counted.{named_restored}
use Rattle.gs_laws_chunks.proofs.lemmas.accounts.Going.{committed_ordinary}
use Rattle.gs_laws_chunks.proofs.lemmas.accounts.Leading.{has_at, steady_at}
use Rattle.gs_laws_chunks.proofs.lemmas.accounts.Telling.{NowSo, none_unnamed, now_so, same_master, told_has}
use Rattle.gs_laws_chunks.proofs.lemmas.accounts.Well.{left_failed, left_sound, step_well, well_steady}
use Rattle.gs_laws_chunks.specs.accounts.Accepting.{AsksToCommit, CommitsAreDecided, DisksHold, IsAsItWas, IsDecided, WasNamed, met_at, references_then, AllWereNamed, CommitsDoOneThing}

-- ---- the call comes to its own tests

not_unopened : (f : Fault) → is_failed f ≡ false → is_unopened f ≡ false
not_unopened Sound h = refl
not_unopened (Failed doubt) h = refl
not_unopened (Unopened doubt) h = absurd (true≢false h)

called : (config : Config) (s : State) (message : Message) (moment : Moment) (req : ReqId) (client : ClientId) → message.from ≡ nodes.Client client → message.body ≡ bodies.Call req calls.RollbackCommit → handle config s message moment ≡ call_turn config s req moment calls.RollbackCommit
unfolding handle
called config s message moment req client from body = ap (λ f. from_node config s moment message.body f) from ∙ ap (λ b. from_client config s moment b) body

-- a refused call leaves what is durable as it was, or its refusal is kept
left_as_was : (s : State) (req : ReqId) (refusal : Refusal) (t : Turn) → LeavesAll s req refusal t → IsAsItWas req refusal s.durable t.after.durable
left_as_was s req refusal t l = by_way l.left
  where
    by_way : ((t.after ≡ s) × (t.records ≡ [])) ⊎ (((t.after ≡ with_said s req refusal) × (t.records ≡ Said req refusal ∷ [])) ⊎ ((t.after ≡ with_kept s req refusal) × (t.records ≡ []))) → IsAsItWas req refusal s.durable t.after.durable
    by_way (inl (same, none)) = inl (ap (λ (z : State). z.durable) same)
    by_way (inr (inl (same, one))) = inr (ap (λ (z : State). z.durable) same)
    by_way (inr (inr (same, none))) = inl (ap (λ (z : State). z.durable) same)

judged : (config : Config) (s : State) (message : Message) (moment : Moment) (req : ReqId) (client : ClientId) → message.from ≡ nodes.Client client → message.body ≡ bodies.Call req calls.RollbackCommit → is_failed s.fault ≡ false
    → is_pending s.volatile.pending req ≡ false → numbered (last_reply s req.client) req.number ≡ New → handle config s message moment ≡ rollback_commit s req
unfolding handle
judged config s message moment req client from body sound none new =
    ap (λ f. from_node config s moment message.body f) from ∙ ap (λ b. from_client config s moment b) body
    ∙ ap (λ b. if b then replied_again s req (Err refusals.Device) else (if is_pending s.volatile.pending req then waits_still s req else taken_as config s req moment calls.RollbackCommit (numbered (last_reply s req.client) req.number))) (not_unopened s.fault sound)
    ∙ ap (λ b. if b then waits_still s req else taken_as config s req moment calls.RollbackCommit (numbered (last_reply s req.client) req.number)) none
    ∙ ap (taken_as config s req moment calls.RollbackCommit) new ∙ taken_unless_failed config s req moment ∙ ap (λ b. if b then refused s req refusals.Device else rollback_commit s req) sound

-- ---- what it says

abbrev SaysSo : Option Refusal → Type 0
SaysSo said = (said ≡ None) ⊎ ((chunk : ℕ) × (said ≡ Some (refusals.Unrestored chunk))) ⊎ (said ≡ Some refusals.Full)

names_is : {a b : NamesView} → ◌≡◌ {A = Option NamesView} (Some a) (Some b) → a ≡ b
names_is h = cc

commit_says : (s : State) (req : ReqId) (names : NamesView) → is_rolling s.durable.phase ≡ true → all_undone s.durable.inverses s.durable.names ≡ Some names → SaysSo (rollback_commit s req).said
commit_says s req names rolling back = subst (λ (t : Turn). SaysSo t.said) (sym is) (by_lacking (unrestored (prepared_view s.durable) (told_of s) (fin.entries names.refs)))
  where
    is : rollback_commit s req ≡ commit_if s req names (unrestored (prepared_view s.durable) (told_of s) (fin.entries names.refs))
    is = ap (λ b. if b then commit_on s req (all_undone s.durable.inverses s.durable.names) else refused s req refusals.NotUpgrading) rolling ∙ ap (commit_on s req) back

    done : Turn
    done = turned s (accepted_plan s req (RollbackCommit s.durable.epoch (answers_for (prepared_view s.durable) (told_of s) (fin.entries names.refs)) ∷ []) (changes.RolledBack ∷ []) [] s.durable.epoch)

    by_room : (b : Bool) → SaysSo (if b then done else refused s req refusals.Full).said
    by_room true = inl refl
    by_room false = inr (inr refl)

    by_lacking : (o : Option ℕ) → SaysSo (commit_if s req names o).said
    by_lacking (Some chunk) = inr (inl (chunk, refl))
    by_lacking None = by_room (fits s.log done.records)

abbrev LeavesSo : State → ReqId → Type 0
LeavesSo s req = (refusal : Refusal) → (rollback_commit s req).said ≡ Some refusal → LeavesAll s req refusal (rollback_commit s req)

ok_not : (e : Refusal) → ◌≡◌ {A = Result (Unit {0}) Refusal} (Ok tt) (Err e) → ⊥
ok_not e h = absurd (cc)

err_is : {a b : Refusal} → ◌≡◌ {A = Result (Unit {0}) Refusal} (Err a) (Err b) → a ≡ b
err_is h = cc

not_full : (chunk : ℕ) → refusals.Unrestored chunk ≡ refusals.Full → ⊥
not_full chunk h = absurd (cc)

not_memory : (chunk : ℕ) → refusals.Unrestored chunk ≡ refusals.Memory → ⊥
not_memory chunk h = absurd (cc)

message_is : {a b : Message} → ◌≡◌ {A = Option Message} (Some a) (Some b) → a ≡ b
message_is e = cc

both_true : (a b : Bool) → a ≡ true → b ≡ true → (a && b) ≡ true
both_true true b p q = q
both_true false b p q = absurd (false≢true p)

-- no disk fails, where none may, or none does
pub holds_at : HaveSizes → AreNumbered → {D : Type 0} (x : Setup D) (prepared now next : History D) (before after back : Account) (step : Step) (upgrade : IsUpgrading x prepared before now after) (moves : Moves x step now after next back) (asks : AsksToCommit x now step) → (x.fails ≡ true → DisksHold x now next step asks) → DisksHold x now next step asks
holds_at sizes law x prepared now next before after back step upgrade moves asks holds_if = by_setup x.fails refl
  where
    by_setup : (fails : Bool) → x.fails ≡ fails → DisksHold x now next step asks
    by_setup true may = holds_if may
    by_setup false quiet =
        let sound = reached_sound x quiet now after (reach_more x prepared now before after upgrade.steps (prepared_reached sizes law x prepared now before after upgrade) (runs_of x upgrade.steps prepared now before after upgrade.runs)) in
        let firm : StandsFirm x.seen asks.master = subst (Lasts x.seen) asks.there sound.lasts in record { sound = firm.sound; none = moves.steps.sound quiet }

-- where no disk of the master has failed, and it makes a whole step
decided_whole : HaveSizes → AreNumbered → {D : Type 0} (x : Setup D) (prepared now next : History D) (before after back : Account) (step : Step) (upgrade : IsUpgrading x prepared before now after) (moves : Moves x step now after next back) (asks : AsksToCommit x now step) → as_left now.nodes.master ≡ Standing asks.master
    → Became x.seen step now.sent (met_at x step now next moves.steps.goes) (as_left now.nodes.master) (as_left next.nodes.master) → IsDecided x prepared before now after upgrade asks.req (met_at x step now next moves.steps.goes) back
decided_whole sizes law {D} x prepared now next before after back step upgrade moves asks at_left whole = by_case whole
  where
    n : NowSo x prepared now before after upgrade
    n = now_so x prepared now before after upgrade

    m : MasterOf D
    m = asks.master

    steady : StandsSteady x.seen m
    steady = steady_at x (as_left now.nodes.master) m at_left (well_steady x now n.well)

    same : after.durable ≡ m.state.durable
    same = has_at x (as_left now.nodes.master) m after.durable at_left n.has

    since : IsSince before.durable m.state.durable
    since = subst (IsSince before.durable) same n.since

    rolling : is_rolling after.durable.phase ≡ true
    rolling = ap (λ (d : Durable). is_rolling d.phase) same ∙ asks.rolling

    -- while a rollback is going on no call waits
    none_waits : is_pending m.state.volatile.pending asks.req ≡ false
    none_waits = ap (λ (pending : List Pending). is_pending pending asks.req) (steady.steady.firm.rolling asks.rolling)

    order : CommitsInOrder m.state (rollback_commit m.state asks.req)
    order = refuses_in_order m.state asks.req

    -- it is refused, but for no chunk
    other : (refusal : Refusal) → met_at x step now next moves.steps.goes ≡ Err refusal → IsAsItWas asks.req refusal after.durable back.durable → ((chunk : ℕ) → refusals.Unrestored chunk ≡ refusal → ⊥) → (met_at x step now next moves.steps.goes ≡ Err refusals.Full) ⊎ (met_at x step now next moves.steps.goes ≡ Err refusals.Memory)
        → IsDecided x prepared before now after upgrade asks.req (met_at x step now next moves.steps.goes) back
    other refusal so kept none which = record {
      accepted = λ ok. absurd (ok_not refusal (sym ok ∙ so));
      refused = λ chunk e. absurd (none chunk (err_is (sym e ∙ so)));
      kept = λ other e. subst (λ r. IsAsItWas asks.req r after.durable back.durable) (err_is (sym so ∙ e)) kept;
      either = inr (inr which);
    }

    -- ---- it is refused for a chunk

    referred_so : (chunk : ℕ) → IsFirstUnrestored m.state chunk → 0 < references_then x before chunk
    referred_so chunk f = subst (λ (o : Option ℕ). 0 < count_or_zero o) (sym (ap (λ (names : NamesView). fin.get names.refs chunk) (names_is (sym since.back ∙ f.back)) ∙ f.found)) f.referred

    lower_so : (chunk : ℕ) → IsFirstUnrestored m.state chunk → (less : ℕ) → less < chunk → 0 < references_then x before less → WasNamed x prepared before now after upgrade less
    lower_so chunk f less lt more = by_count (fin.get before.durable.names.refs less) refl more
      where
        by_count : (o : Option ℕ) → fin.get before.durable.names.refs less ≡ o → 0 < count_or_zero o → WasNamed x prepared before now after upgrade less
        by_count None has few = absurd (omega arith)
        by_count (Some count) has few =
            let told = f.lower less count lt (ap (λ (names : NamesView). fin.get names.refs less) (names_is (sym f.back ∙ since.back)) ∙ has) few in n.named m at_left less told.0 (ap is_some has) told.1

    refused_for : (chunk : ℕ) → IsAsItWas asks.req (refusals.Unrestored chunk) after.durable back.durable → (rollback_commit m.state asks.req).said ≡ Some (refusals.Unrestored chunk) → met_at x step now next moves.steps.goes ≡ Err (refusals.Unrestored chunk) → IsDecided x prepared before now after upgrade asks.req (met_at x step now next moves.steps.goes) back
    refused_for chunk kept t so = record {
      accepted = λ ok. absurd (ok_not (refusals.Unrestored chunk) (sym ok ∙ so));
      refused = λ c e.
          (let f = (order.unrestored c).0 (t ∙ ap Some (err_is (sym so ∙ e))) in record {
            referred = referred_so c f;
            unnamed = λ named. f.lacks (named_restored sizes law x prepared now before after upgrade m c at_left same (well_steady x now n.well) n.since rolling named);
            lower = λ less lt more. lower_so c f less lt more;
          });
      kept = λ other e. subst (λ r. IsAsItWas asks.req r after.durable back.durable) (err_is (sym so ∙ e)) kept;
      either = inr (inl (chunk, so));
    }

    -- ---- it is accepted

    ordinary : AllFit m.state (rollback_commit m.state asks.req) → (rollback_commit m.state asks.req).said ≡ None → is_ordinary (rollback_commit m.state asks.req).after.durable.phase ≡ true
    ordinary fit none =
        let can = (order.done.0 none).0 in
        let t = rollback_commit m.state asks.req in
        committed_ordinary m.state.durable t.after.durable m.state.durable.epoch _ (one_fits m.state.durable t.after.durable (commit_record m.state can.names) (subst (λ records. replayed m.state.durable records ≡ Some t.after.durable) (order.records can none) fit))

    accepted_so : AllFit m.state (rollback_commit m.state asks.req) → (rollback_commit m.state asks.req).said ≡ None → met_at x step now next moves.steps.goes ≡ Ok tt → back.durable ≡ (rollback_commit m.state asks.req).after.durable
        → IsDecided x prepared before now after upgrade asks.req (met_at x step now next moves.steps.goes) back
    accepted_so fit none ok there =
        let rolled = both_true (is_rolling after.durable.phase) (is_ordinary back.durable.phase) rolling (ap (λ (d : Durable). is_ordinary d.phase) there ∙ ordinary fit none) in record {
          accepted = λ k. (none_unnamed x prepared now next before after back step upgrade moves rolled, rolled);
          refused = λ c e. absurd (ok_not (refusals.Unrestored c) (sym ok ∙ e));
          kept = λ refusal e. absurd (ok_not refusal (sym ok ∙ e));
          either = inl ok;
        }

    -- ---- what was said

    kept_so : (refusal : Refusal) → LeavesSo m.state asks.req → (rollback_commit m.state asks.req).said ≡ Some refusal → back.durable ≡ (rollback_commit m.state asks.req).after.durable → IsAsItWas asks.req refusal after.durable back.durable
    kept_so refusal leaves t there = subst (λ (d : Durable). IsAsItWas asks.req refusal d back.durable) (sym same) (subst (IsAsItWas asks.req refusal m.state.durable) (sym there) (left_as_was m.state asks.req refusal (rollback_commit m.state asks.req) (leaves refusal t)))

    by_said : AllFit m.state (rollback_commit m.state asks.req) → LeavesSo m.state asks.req → SaysSo (rollback_commit m.state asks.req).said → met_at x step now next moves.steps.goes ≡ met_by (rollback_commit m.state asks.req).said → back.durable ≡ (rollback_commit m.state asks.req).after.durable
        → IsDecided x prepared before now after upgrade asks.req (met_at x step now next moves.steps.goes) back
    by_said fit leaves (inl none) so there = accepted_so fit none (so ∙ ap met_by none) there
    by_said fit leaves (inr (inl (chunk, t))) so there = refused_for chunk (kept_so (refusals.Unrestored chunk) leaves t there) t (so ∙ ap met_by t)
    by_said fit leaves (inr (inr full)) so there = other refusals.Full (so ∙ ap met_by full) (kept_so refusals.Full leaves full there) not_full (inl (so ∙ ap met_by full))

    at_turn : (after_m : MasterOf D) (heard : Heard) (t : Turn) → (as_left next.nodes.master) ≡ Standing after_m → AllFit m.state t → after_m.state ≡ t.after → IsHearing step now.sent (met_at x step now next moves.steps.goes) m.config m.state heard t
        → IsDecided x prepared before now after upgrade asks.req (met_at x step now next moves.steps.goes) back
    at_turn after_m heard t to fit is (ByItself alone unheard left) = absurd (false≢true (ap is_some (sym unheard ∙ asks.heard)))
    at_turn after_m heard t to fit is (ByMessage message moment found hearing is_turn says) =
        let one = message_is (sym found ∙ asks.heard) in
        let judgement = judged m.config m.state asks.message moment asks.req asks.client asks.from asks.asks steady.firm.sound none_waits asks.new in
        let turn : t ≡ rollback_commit m.state asks.req = is_turn ∙ ap (λ it. handle m.config m.state it moment) one ∙ judgement in
        let call : call_turn m.config m.state asks.req moment calls.RollbackCommit ≡ rollback_commit m.state asks.req = sym (called m.config m.state asks.message moment asks.req asks.client asks.from asks.asks) ∙ judgement in
        let leaves : LeavesSo m.state asks.req = subst (λ (u : Turn). (refusal : Refusal) → u.said ≡ Some refusal → LeavesAll m.state asks.req refusal u) call (refused_leaves_all m.config m.state asks.req moment calls.RollbackCommit) in
        let there = has_at x (as_left next.nodes.master) after_m back.durable to (told_has x next back.durable (step_well x n.given step now next n.well moves.steps) moves.told) ∙ ap (λ (s : State). s.durable) is ∙ ap (λ (u : Turn). u.after.durable) turn in
        by_said (subst (AllFit m.state) turn fit) leaves (commit_says m.state asks.req before.durable.names asks.rolling since.back) (says ∙ ap (λ (u : Turn). met_by u.said) turn) there

    by_case : Became x.seen step now.sent (met_at x step now next moves.steps.goes) (as_left now.nodes.master) (as_left next.nodes.master) → IsDecided x prepared before now after upgrade asks.req (met_at x step now next moves.steps.goes) back
    by_case (Stays here after_m at to is low calm) =
        let memory = low asks.message asks.heard in
        let there : back.durable ≡ here.state.durable = has_at x (as_left next.nodes.master) after_m back.durable to (told_has x next back.durable (step_well x n.given step now next n.well moves.steps) moves.told) ∙ ap (λ (s : State). s.durable) is in
        let was : after.durable ≡ here.state.durable = has_at x (as_left now.nodes.master) here after.durable at n.has in
        other refusals.Memory memory (inl (there ∙ sym was)) not_memory (inr memory)
    by_case (Turns here after_m heard t at to turn written is hears calm) =
        let master = same_master (as_left now.nodes.master) here m at at_left in
        at_turn after_m heard t to (subst (λ (z : MasterOf D). AllFit z.state t) master (turn_fits here.config heard here.state t turn written)) is (subst (λ (z : MasterOf D). IsHearing step now.sent (met_at x step now next moves.steps.goes) z.config z.state heard t) master hears)
    by_case (Opened after_m d log had to is unheard again) = absurd (false≢true (ap is_some (sym unheard ∙ asks.heard)))
    by_case (Waits none f unheard) = absurd (false≢true (ap is_some (sym (unheard m at_left) ∙ asks.heard)))

pub decided : HaveSizes → AreNumbered → {D : Type 0} (x : Setup D) → CommitsAreDecided x
decided sizes law {D} x prepared now next before after back step upgrade moves asks holds_if = by_all (became x n.given step now next n.well moves.steps)
  where
    n : NowSo x prepared now before after upgrade
    n = now_so x prepared now before after upgrade

    holds : DisksHold x now next step asks
    holds = holds_at sizes law x prepared now next before after back step upgrade moves asks holds_if

    by_all : BecameAll x.seen step now.sent (met_at x step now next moves.steps.goes) (failures_at x.failures next.nodes.master ≡ failures_at x.failures now.nodes.master) (as_left now.nodes.master) (as_left next.nodes.master)
        → IsDecided x prepared before now after upgrade asks.req (met_at x step now next moves.steps.goes) back
    by_all (Whole b) = decided_whole sizes law x prepared now next before after back step upgrade moves asks (ap as_left asks.there ∙ left_sound x.seen asks.master holds.sound) b
    by_all (Loses here at none fails f) = absurd (fails holds.none)
    by_all (Cuts here heard t many f at none fails turn written low stand has handles) = absurd (fails holds.none)

-- ---- whatever fails

module _ (sizes : HaveSizes) (law : AreNumbered) {D : Type 0} (x : Setup D) (prepared now next : History D) (before after back : Account) (step : Step) (upgrade : IsUpgrading x prepared before now after) (moves : Moves x step now after next back) (asks : AsksToCommit x now step) where
  n : NowSo x prepared now before after upgrade
  n = now_so x prepared now before after upgrade

  abbrev m : MasterOf D
  m = asks.master

  behind : HasDurable x.seen (as_left next.nodes.master) back.durable
  behind = told_has x next back.durable (step_well x n.given step now next n.well moves.steps) moves.told

  abbrev One : Type 0
  One = ((refusal : Refusal) × IsAsItWas asks.req refusal after.durable back.durable) ⊎ ((rolls_back after.durable back.durable ≡ true) × AllWereNamed x prepared before now after upgrade)

  abbrev B : Type 0
  B = BecameAll x.seen step now.sent (met_at x step now next moves.steps.goes) (failures_at x.failures next.nodes.master ≡ failures_at x.failures now.nodes.master) (as_left now.nodes.master) (as_left next.nodes.master)

  what_becomes : B
  what_becomes = became x n.given step now next n.well moves.steps

  stays : back.durable ≡ after.durable → One
  stays same = inl (refusals.Device, inl same)

  of_decided : IsDecided x prepared before now after upgrade asks.req (met_at x step now next moves.steps.goes) back → One
  of_decided d = by_either d.either
    where
      by_either : (met_at x step now next moves.steps.goes ≡ Ok tt) ⊎ ((chunk : ℕ) × (met_at x step now next moves.steps.goes ≡ Err (refusals.Unrestored chunk))) ⊎ (met_at x step now next moves.steps.goes ≡ Err refusals.Full) ⊎ (met_at x step now next moves.steps.goes ≡ Err refusals.Memory) → One
      by_either (inl ok) = (let done = d.accepted ok in inr (done.1, done.0))
      by_either (inr (inl (chunk, refused))) = inl (refusals.Unrestored chunk, d.kept (refusals.Unrestored chunk) refused)
      by_either (inr (inr (inl full))) = inl (refusals.Full, d.kept refusals.Full full)
      by_either (inr (inr (inr memory))) = inl (refusals.Memory, d.kept refusals.Memory memory)

  -- ---- a disk had failed

  not_standing : is_failed m.state.fault ≡ true → (z : MasterOf D) → as_left now.nodes.master ≡ Standing z → ⊥
  not_standing failed z at = closed_not m.journal.first m.journal.second z (sym (ap as_left asks.there ∙ left_failed x.seen m failed) ∙ at)

  by_failed : ((z : MasterOf D) → as_left now.nodes.master ≡ Standing z → ⊥) → B → One
  by_failed none (Whole (Stays here after_m at to is low calm)) = absurd (none here at)
  by_failed none (Whole (Turns here after_m heard t at to turn written is hears calm)) = absurd (none here at)
  by_failed none (Whole (Opened after_m d log had to is unheard again)) = absurd (false≢true (ap is_some (sym unheard ∙ asks.heard)))
  by_failed none (Whole (Waits gone f unheard)) = stays (has_one x.seen (as_left next.nodes.master) back.durable after.durable behind (f after.durable n.has))
  by_failed none (Loses here at gone fails f) = absurd (none here at)
  by_failed none (Cuts here heard t many f at gone fails turn written low stand has handles) = absurd (none here at)

  -- ---- none had

  module _ (sound : is_failed m.state.fault ≡ false) where
    at_left : as_left now.nodes.master ≡ Standing m
    at_left = ap as_left asks.there ∙ left_sound x.seen m sound

    same : after.durable ≡ m.state.durable
    same = has_at x (as_left now.nodes.master) m after.durable at_left n.has

    steady : StandsSteady x.seen m
    steady = steady_at x (as_left now.nodes.master) m at_left (well_steady x now n.well)

    since : IsSince before.durable m.state.durable
    since = subst (IsSince before.durable) same n.since

    none_waits : is_pending m.state.volatile.pending asks.req ≡ false
    none_waits = ap (λ (pending : List Pending). is_pending pending asks.req) (steady.steady.firm.rolling asks.rolling)

    order : CommitsInOrder m.state (rollback_commit m.state asks.req)
    order = refuses_in_order m.state asks.req

    -- as many of its records stand
    part : (t : Turn) (many : ℕ) (f : Durable) → t ≡ rollback_commit m.state asks.req → many ≤ length t.records → replayed m.state.durable (take many t.records) ≡ Some f → (length t.records ≤ many → f ≡ t.after.durable) → f ≡ back.durable → AllFit m.state t → LeavesSo m.state asks.req → One
    part t many f is low stand whole told fit leaves = by_said (commit_says m.state asks.req before.durable.names asks.rolling since.back)
      where
        durable_is : {a b : Durable} → ◌≡◌ {A = Option Durable} (Some a) (Some b) → a ≡ b
        durable_is h = cc

        -- nothing stands, or all
        none_or_all : length t.records ≤ 1 → (f ≡ m.state.durable) ⊎ (f ≡ t.after.durable)
        none_or_all one = by_many many refl
          where
            by_many : (k : ℕ) → many ≡ k → (f ≡ m.state.durable) ⊎ (f ≡ t.after.durable)
            by_many zero is = inl (durable_is (sym stand ∙ ap (λ k. replayed m.state.durable (take k t.records)) is))
            by_many (suc k) is = inr (whole (omega arith))

        nothing : f ≡ m.state.durable → One
        nothing here = stays (sym told ∙ here ∙ sym same)

        short : (refusal : Refusal) → LeavesAll m.state asks.req refusal (rollback_commit m.state asks.req) → length t.records ≤ 1
        short refusal l = by_way l.left
          where
            count : (xs : List PlainEntry) → (rollback_commit m.state asks.req).records ≡ xs → length t.records ≡ length xs
            count xs at = ap (λ (u : Turn). length u.records) is ∙ ap (λ (ys : List PlainEntry). length ys) at

            by_way : (((rollback_commit m.state asks.req).after ≡ m.state) × ((rollback_commit m.state asks.req).records ≡ [])) ⊎ ((((rollback_commit m.state asks.req).after ≡ with_said m.state asks.req refusal) × ((rollback_commit m.state asks.req).records ≡ Said asks.req refusal ∷ [])) ⊎ (((rollback_commit m.state asks.req).after ≡ with_kept m.state asks.req refusal) × ((rollback_commit m.state asks.req).records ≡ []))) → length t.records ≤ 1
            by_way (inl (same, none)) = (let c = count [] none in omega arith)
            by_way (inr (inl (same, one))) = (let c = count (Said asks.req refusal ∷ []) one in omega arith)
            by_way (inr (inr (same, none))) = (let c = count [] none in omega arith)

        refused : (refusal : Refusal) → (rollback_commit m.state asks.req).said ≡ Some refusal → One
        refused refusal said =
            let l = leaves refusal said in
            elim (none_or_all (short refusal l)) [
              | inl none ↦ nothing none
              | inr all ↦ inl (refusal, subst (λ (d : Durable). IsAsItWas asks.req refusal d back.durable) (sym same) (subst (IsAsItWas asks.req refusal m.state.durable) (sym (ap (λ (u : Turn). u.after.durable) is) ∙ sym all ∙ told) (left_as_was m.state asks.req refusal (rollback_commit m.state asks.req) l)))
            ]

        by_said : SaysSo (rollback_commit m.state asks.req).said → One
        by_said (inl none) =
            let can = (order.done.0 none).0 in
            let records = order.records can none in
            let one : length t.records ≡ 1 = ap (λ (u : Turn). length u.records) is ∙ ap (λ (ys : List PlainEntry). length ys) records in
            let u = rollback_commit m.state asks.req in
            let fits_u : AllFit m.state u = subst (AllFit m.state) is fit in
            let over : is_ordinary u.after.durable.phase ≡ true = committed_ordinary m.state.durable u.after.durable m.state.durable.epoch _ (one_fits m.state.durable u.after.durable (commit_record m.state can.names) (subst (λ rs. replayed m.state.durable rs ≡ Some u.after.durable) records fits_u)) in
            elim (none_or_all (omega arith)) [
              | inl none ↦ nothing none
              | inr all ↦ (
                  let there : back.durable ≡ u.after.durable = sym told ∙ all ∙ ap (λ (u : Turn). u.after.durable) is in
                  let rolling : is_rolling after.durable.phase ≡ true = ap (λ (d : Durable). is_rolling d.phase) same ∙ asks.rolling in
                  let rolled = both_true (is_rolling after.durable.phase) (is_ordinary back.durable.phase) rolling (ap (λ (d : Durable). is_ordinary d.phase) there ∙ over) in inr (rolled, none_unnamed x prepared now next before after back step upgrade moves rolled)
                  )
            ]
        by_said (inr (inl (chunk, said))) = refused (refusals.Unrestored chunk) said
        by_said (inr (inr said)) = refused refusals.Full said

    by_sound : B → One
    by_sound (Whole b) = of_decided (decided_whole sizes law x prepared now next before after back step upgrade moves asks at_left b)
    by_sound (Loses here at gone fails f) = stays (has_one x.seen (as_left next.nodes.master) back.durable after.durable behind (f after.durable n.has))
    by_sound (Cuts here heard t many f at gone fails turn written low stand has handles) =
        let master = same_master (as_left now.nodes.master) here m at at_left in
        let there = handles asks.message asks.heard in
        let judgement = judged m.config m.state asks.message there.0 asks.req asks.client asks.from asks.asks steady.firm.sound none_waits asks.new in
        let is : t ≡ rollback_commit m.state asks.req = there.1 ∙ ap (λ (z : MasterOf D). handle z.config z.state asks.message there.0) master ∙ judgement in
        let call : call_turn m.config m.state asks.req there.0 calls.RollbackCommit ≡ rollback_commit m.state asks.req = sym (called m.config m.state asks.message there.0 asks.req asks.client asks.from asks.asks) ∙ judgement in
        let leaves : LeavesSo m.state asks.req = subst (λ (u : Turn). (refusal : Refusal) → u.said ≡ Some refusal → LeavesAll m.state asks.req refusal u) call (refused_leaves_all m.config m.state asks.req there.0 calls.RollbackCommit) in
        part t many f is low (subst (λ (z : MasterOf D). replayed z.state.durable (take many t.records) ≡ Some f) master stand) (λ all. all_stand here.config heard here.state t turn written many f all stand) (has_one x.seen (as_left next.nodes.master) f back.durable has behind)
        (subst (λ (z : MasterOf D). AllFit z.state t) master (turn_fits here.config heard here.state t turn written)) leaves

  by_fault : (b : Bool) → is_failed m.state.fault ≡ b → One
  by_fault true failed = by_failed (not_standing failed) what_becomes
  by_fault false sound = by_sound sound what_becomes

  one_thing : One
  one_thing = by_fault (is_failed m.state.fault) refl

pub does_one_thing : HaveSizes → AreNumbered → {D : Type 0} (x : Setup D) → CommitsDoOneThing x
does_one_thing sizes law x prepared now next before after back step upgrade moves asks = one_thing sizes law x prepared now next before after back step upgrade moves asks
