-- The records of an answer to a proposal fit what they meet: so those of every message do.
use Rattle.std.proofs.Common.{◌≡◌, ◌∙◌, ◌&&◌, ◌||◌, ◌==◌, ℕ, Bool, true, false, not, List, [], ◌∷◌, filter, refl, ap, subst, sym, arith}
use Rattle.std.specs.Prelude.{is_some, Option, Some, None, if◌then◌else◌}
use Rattle.std.specs.FinMap as fin
use Rattle.std.specs.List.{list_all}
use Rattle.std.proofs.lemmas.Bool.{false≢true, true≢false, and_parts}
use Rattle.std.proofs.lemmas.Bool.Decides.{nat_tests}
use Rattle.gs_base.specs.Members.{is_member}
use Rattle.gs_base.specs.Stamps.{is_same}
use Rattle.gs_base.specs.declared.config.Config.{Config}
use Rattle.gs_base.specs.declared.numbers.Moment.{Moment}
use Rattle.gs_base.specs.declared.numbers.ReqId.{ReqId}
use Rattle.gs_base.specs.declared.numbers.Stamp.{Stamp}
use Rattle.gs_base.specs.declared.refusal.Refusal.TheVariants as refusals
use Rattle.gs_tree.proofs.Levels.{both_true}
use Rattle.gs_lease.specs.declared.view.View.{View}
use Rattle.gs_msg.specs.declared.body.Body.{Body}
use Rattle.gs_msg.specs.declared.body.Body.TheVariants as bodies
use Rattle.gs_msg.specs.declared.chunk.Chunk.{Chunk as About}
use Rattle.gs_msg.specs.declared.chunk.Chunk.TheVariants as abouts
use Rattle.gs_msg.specs.declared.node.NodeId.{NodeId}
use Rattle.gs_msg.specs.declared.node.NodeId.TheVariants as nodes
use Rattle.gs_view.specs.declared.poll.Poll.{Poll}
use Rattle.gs_master_spec.specs.Applied.{is_visible}
use Rattle.gs_master_spec.specs.Chunks.{Chunk, chunk_at, has_entry, heard_no, heard_yes, hears, is_target, settling, step_of_no, step_at_tick, step_of_yes, view_by, with_answers}
use Rattle.gs_master_spec.specs.Durable.{Durable, is_rolling, prepared_view}
use Rattle.gs_master_spec.specs.Handling.{about_turn, from_node, handle, pressed, pressed_at, pressed_if, server_turn}
use Rattle.gs_master_spec.specs.Hearing.{ask_plan, heard, is_with_sealed, promised, promised_at, promised_for, send_plan, stepped, unpromised, unpromised_at, unpromised_for}
use Rattle.gs_master_state.specs.Sane.{IsSane, are_apart, is_waited_by, may_wait_for}
use Rattle.gs_master_spec.specs.Settling.{all_go_on, all_refused, concerned, is_copied_by, requests_of, settle_plan, settled_by, settled_if, settled_on}
use Rattle.gs_master_spec.specs.State.{State, turned, unmoved, met_by, and_then, fits}
use Rattle.gs_master_spec.specs.Volatile.{is_call, is_pending, paths_of}
use Rattle.gs_master_spec.specs.declared.asking.Asking.{Asking}
use Rattle.gs_master_spec.specs.declared.asking.Step.{Step}
use Rattle.gs_master_spec.specs.declared.asking.Step.TheVariants as steps
use Rattle.gs_master_spec.specs.declared.pending.Pending.{Pending}
use Rattle.gs_master_spec.specs.declared.pending.Waiting.{Waiting}
use Rattle.gs_master_spec.specs.declared.pending.Waiting.TheVariants as waits
use Rattle.gs_laws_master.specs.Promises.{AllFit, AllMessagesFit, CanGoOn, IsKept, StepsAtTicksFit}
use Rattle.gs_laws_master.proofs.lemmas.fitting.Accepted.{Goes, all_ended_goes, none_goes, same_goes, test_goes, then_goes}
use Rattle.gs_laws_master.proofs.lemmas.fitting.AcceptedForgets.{folded}
use Rattle.gs_laws_master.proofs.lemmas.fitting.AcceptedMessages.{about_goes, client_goes, server_goes, unless_failed_goes}
use Rattle.gs_laws_master.proofs.lemmas.fitting.AcceptedUpgrades.{filtered_all}
use Rattle.gs_laws_master.proofs.lemmas.fitting.GoingOn.{Ready, all_steps, may_go_on}
use Rattle.gs_laws_master.proofs.lemmas.fitting.SettlingFits.{CanSettle, settling_fits, view_made}

-- ---- the call for which a chunk moves waits for it

abbrev same_call : ReqId → ReqId → Bool
same_call a b = is_call a (Some b)

same_parts : (a b : ReqId) → same_call a b ≡ true → (a.client.0 ≡ b.client.0) × (a.number ≡ b.number)
same_parts a b h = let parts = and_parts (a.client.0 == b.client.0) (a.number == b.number) h in (equal a.client.0 b.client.0 parts.0, equal a.number b.number parts.1)
  where
    equal : (m n : ℕ) → (m == n) ≡ true → m ≡ n
    equal m n e = grind (arith, nat_tests)

same_both : (a b c : ReqId) → same_call a c ≡ true → same_call b c ≡ true → same_call a b ≡ true
same_both a b c h k =
    let one = same_parts a c h in
    let two = same_parts b c k in
    ap (λ m. m == b.client.0 && a.number == b.number) (one.0 ∙ sym two.0) ∙ ap (λ n. b.client.0 == b.client.0 && n == b.number) (one.1 ∙ sym two.1) ∙ itself b.client.0 b.number
  where
    itself : (m n : ℕ) → (m == m && n == n) ≡ true
    itself m n = both_true (m == m) (n == n) (self m) (self n)
      where
        self : (k : ℕ) → (k == k) ≡ true
        self k = grind (arith, nat_tests)

no_other : (req other : ReqId) (f : Waiting → Bool) (pending : List Pending) → same_call other req ≡ true → is_pending pending other ≡ false → is_waited_by (Some req) f pending ≡ false
no_other req other f [] same none = refl
no_other req other f (p ∷ pending) same none = by_call (same_call p.req req) refl (same_call other p.req) refl none (no_other req other f pending same)
  where
    by_call : (b : Bool) → same_call p.req req ≡ b → (c : Bool) → same_call other p.req ≡ c → (c || is_pending pending other) ≡ false → (is_pending pending other ≡ false → is_waited_by (Some req) f pending ≡ false) → ((b && f p.waits) || is_waited_by (Some req) f pending) ≡ false
    by_call b is true here h rest = absurd (true≢false h)
    by_call true is false here h rest = absurd (false≢true (sym here ∙ same_both other p.req req same is))
    by_call false is false here h rest = rest h

abbrev waits_so : Option ReqId → (Waiting → Bool) → Pending → Bool
waits_so call f p = not (is_call p.req call) || f p.waits

no_call : (f : Waiting → Bool) (pending : List Pending) → list_all (waits_so None f) pending ≡ true
no_call f [] = refl
no_call f (p ∷ pending) = no_call f pending

none_waited : (req : ReqId) (pending : List Pending) (f : Waiting → Bool) → is_waited_by (Some req) (λ w. true) pending ≡ false → list_all (waits_so (Some req) f) pending ≡ true
none_waited req [] f none = refl
none_waited req (p ∷ pending) f none = by_call (same_call p.req req) none (none_waited req pending f)
  where
    by_call : (b : Bool) → ((b && true) || is_waited_by (Some req) (λ w. true) pending) ≡ false → (is_waited_by (Some req) (λ w. true) pending ≡ false → list_all (waits_so (Some req) f) pending ≡ true) → ((not b || f p.waits) && list_all (waits_so (Some req) f) pending) ≡ true
    by_call true h rest = absurd (true≢false h)
    by_call false h rest = rest h

one_waits : (req : ReqId) (f : Waiting → Bool) (pending : List Pending) → are_apart pending ≡ true → is_waited_by (Some req) f pending ≡ true → list_all (waits_so (Some req) f) pending ≡ true
one_waits req f [] apart waited = refl
one_waits req f (p ∷ pending) apart waited = by_pending (is_pending pending p.req) refl apart (same_call p.req req) refl waited (one_waits req f pending)
  where
    by_place : (b : Bool) → f p.waits ≡ b → (b || false) ≡ true → f p.waits ≡ true
    by_place true is h = is
    by_place false is h = absurd (false≢true h)

    by_pending : (b : Bool) → is_pending pending p.req ≡ b → (if b then false else are_apart pending) ≡ true → (c : Bool) → same_call p.req req ≡ c → ((c && f p.waits) || is_waited_by (Some req) f pending) ≡ true
        → (are_apart pending ≡ true → is_waited_by (Some req) f pending ≡ true → list_all (waits_so (Some req) f) pending ≡ true) → ((not c || f p.waits) && list_all (waits_so (Some req) f) pending) ≡ true
    by_pending true is h c same w rest = absurd (false≢true h)
    by_pending false is h true same w rest =
        both_true (f p.waits) (list_all (waits_so (Some req) f) pending)
        (by_place (f p.waits) refl (ap (λ b. f p.waits || b) (sym (no_other req p.req f pending same is)) ∙ w))
        (none_waited req pending f (no_other req p.req (λ x. true) pending same is))
    by_pending false is h false same w rest = rest h w

waits_for_it : (s : State) (chunk : ℕ) (call : Option ReqId) → IsSane s → ((req : ReqId) → call ≡ Some req → is_waited_by call (may_wait_for chunk) s.volatile.pending ≡ true) → list_all (waits_so call (may_wait_for chunk)) s.volatile.pending ≡ true
waits_for_it s chunk None sane wanted = no_call (may_wait_for chunk) s.volatile.pending
waits_for_it s chunk (Some req) sane wanted = one_waits req (may_wait_for chunk) s.volatile.pending sane.apart (wanted req refl)

copies_so : (s : State) (chunk : ℕ) (w : Waiting) → is_copied_by s chunk w ≡ true → may_wait_for chunk w ≡ true
copies_so s chunk (waits.Extend path new) h = absurd (false≢true h)
copies_so s chunk (waits.Lease path index leased) h = absurd (false≢true h)
copies_so s chunk (waits.Quiet path index quiet) h = absurd (false≢true h)
copies_so s chunk (waits.Copy path index old new) h = absurd (false≢true h)
copies_so s chunk (waits.Snapshot from to) h = refl
copies_so s chunk (waits.Replicate copied target) h = absurd (false≢true h)

all_go_so : (s : State) (chunk : ℕ) (call : Option ReqId) (pending : List Pending) → list_all (waits_so call (may_wait_for chunk)) pending ≡ true → list_all (λ (p : Pending). list_all is_visible (paths_of p.waits)) pending ≡ true
    → list_all (λ (p : Pending). may_go_on chunk p.waits) (filter (λ (p : Pending). is_call p.req call || is_copied_by s chunk p.waits) pending) ≡ true
all_go_so s chunk call pending waited visible =
    filtered_all (λ (p : Pending). is_call p.req call || is_copied_by s chunk p.waits) (λ (p : Pending). may_go_on chunk p.waits) pending (each pending waited visible)
  where
    one : (p : Pending) (c k : Bool) → is_copied_by s chunk p.waits ≡ k → (not c || may_wait_for chunk p.waits) ≡ true → list_all is_visible (paths_of p.waits) ≡ true → (not (c || k) || may_go_on chunk p.waits) ≡ true
    one p true k is w v = both_true (list_all is_visible (paths_of p.waits)) (may_wait_for chunk p.waits) v w
    one p false true is w v = both_true (list_all is_visible (paths_of p.waits)) (may_wait_for chunk p.waits) v (copies_so s chunk p.waits is)
    one p false false is w v = refl

    each : (ps : List Pending) → list_all (waits_so call (may_wait_for chunk)) ps ≡ true → list_all (λ (p : Pending). list_all is_visible (paths_of p.waits)) ps ≡ true
        → list_all (λ (p : Pending). not (is_call p.req call || is_copied_by s chunk p.waits) || may_go_on chunk p.waits) ps ≡ true
    each [] w v = refl
    each (p ∷ ps) w v =
        let a = and_parts (waits_so call (may_wait_for chunk) p) (list_all (waits_so call (may_wait_for chunk)) ps) w in
        let b = and_parts (list_all is_visible (paths_of p.waits)) (list_all (λ (q : Pending). list_all is_visible (paths_of q.waits)) ps) v in
        both_true (not (is_call p.req call || is_copied_by s chunk p.waits) || may_go_on chunk p.waits) _ (one p (is_call p.req call) (is_copied_by s chunk p.waits) refl a.0 b.0) (each ps a.1 b.1)

-- ---- a chunk is settled, and its calls go on

record Waits (s : State) (chunk : ℕ) (asking : Asking) : Type 0 where
  can : CanSettle s.durable chunk asking.stamp
  calls : list_all (λ (p : Pending). may_go_on chunk p.waits) (concerned s chunk asking.call) ≡ true
  none : is_rolling s.durable.phase ≡ true → s.volatile.pending ≡ []

module _ (s : State) (chunk : ℕ) (asking : Asking) (w : Waits s chunk asking) where
  settled_goes : (c : Chunk) (by : Poll) (carried : Bool) (moment : Moment) (view : View) → view_by c asking by moment ≡ Some view → Goes ⊥ s (settled_on s chunk asking carried view)
  settled_goes c by carried moment view e =
      let records = settling s.durable.phase (prepared_view s.durable chunk) carried chunk asking view in
      let plan = settle_plan records chunk view in
      let set = settling_fits s.durable chunk asking view w.can (view_made c asking by moment view e) carried in
      let same = folded records s set.after set.is in
      test_goes ⊥ s (fits s.log records) (and_then (turned s plan) (all_go_on view (concerned s chunk asking.call))) (all_refused s chunk asking.call refusals.Full)
      (λ _. then_goes ⊥ s (turned s plan) (all_go_on view (concerned s chunk asking.call)) (record { fits = set.is ∙ ap Some (sym same); kept = λ t k. absurd t })
      (by_rolling view (turned s plan).after (is_rolling s.durable.phase) refl
      (λ still. record { rolling = ap (λ (d : Durable). is_rolling d.phase) same ∙ ap is_rolling set.phase ∙ still; known = ap (λ (d : Durable). is_some (fin.get d.chunks chunk)) same ∙ set.known })))
      (λ _. all_ended_goes ⊥ (requests_of (concerned s chunk asking.call)) refusals.Full s)
    where
      by_rolling : (view : View) (next : State) (b : Bool) → is_rolling s.durable.phase ≡ b → (is_rolling s.durable.phase ≡ false → Ready chunk next.durable) → Goes ⊥ next (all_go_on view (concerned s chunk asking.call) next)
      by_rolling view next true is ready =
          subst (λ (ps : List Pending). Goes ⊥ next (all_go_on view (filter (λ (p : Pending). is_call p.req asking.call || is_copied_by s chunk p.waits) ps) next)) (sym (w.none is)) (same_goes ⊥ next (unmoved next) refl refl)
      by_rolling view next false is ready = (all_steps chunk view (concerned s chunk asking.call) next w.calls (ready is)).goes

  if_goes : (c : Chunk) (by : Poll) (carried : Bool) (moment : Moment) (view : Option View) → view_by c asking by moment ≡ view → Goes ⊥ s (settled_if s chunk asking carried view)
  if_goes c by carried moment None e = same_goes ⊥ s (unmoved s) refl refl
  if_goes c by carried moment (Some view) e = settled_goes c by carried moment view e

  stepped_goes : (c : Chunk) (carried : Bool) (moment : Moment) (step : Step) → Goes ⊥ s (stepped s chunk c asking carried moment step)
  unfolding settled_by
  stepped_goes c carried moment steps.Wait = same_goes ⊥ s (unmoved s) refl refl
  stepped_goes c carried moment (steps.Send source target) = none_goes ⊥ s (send_plan chunk asking source target (is_with_sealed s.durable.phase (prepared_view s.durable chunk) source))
  stepped_goes c carried moment (steps.Settle by) = if_goes c by carried moment (view_by c asking by moment) refl
  stepped_goes c carried moment steps.Fail = all_ended_goes ⊥ (requests_of (concerned s chunk asking.call)) refusals.NoReplica s

-- ---- answers

module _ (s : State) (sane : IsSane s) (go : CanGoOn s) where
  asked_waits : (chunk : ℕ) (asking : Asking) → fin.get s.volatile.moving chunk ≡ Some asking → Waits s chunk asking
  asked_waits chunk asking has =
      let a = sane.asked chunk asking has in record {
        can = record { handle = a.handle; version = a.version; epoch = a.epoch; follows = a.follows; since = go.since chunk asking has };
        calls = all_go_so s chunk asking.call s.volatile.pending (waits_for_it s chunk asking.call sane a.wanted) go.visible;
        none = sane.rolling;
      }

  heard_goes : (chunk : ℕ) (c : Chunk) (asking : Asking) (b : Bool) (by : Poll) (carried : Bool) (moment : Moment) (step : Step) → Waits s chunk asking
      → Goes ⊥ s (heard s chunk c (if b then with_answers asking by else asking) carried moment step)
  heard_goes chunk c asking true by carried moment step w =
      let new = with_answers asking by in
      let plan = ask_plan chunk new in
      then_goes ⊥ s (turned s plan) (λ next. stepped next chunk c new carried moment step) (none_goes ⊥ s plan)
      (stepped_goes (turned s plan).after chunk new (record { can = w.can; calls = w.calls; none = w.none }) c carried moment step)
  heard_goes chunk c asking false by carried moment step w =
      let plan = ask_plan chunk asking in
      then_goes ⊥ s (turned s plan) (λ next. stepped next chunk c asking carried moment step) (none_goes ⊥ s plan)
      (stepped_goes (turned s plan).after chunk asking (record { can = w.can; calls = w.calls; none = w.none }) c carried moment step)

  yes_goes : (server chunk : ℕ) (stamp : Stamp) (count : ℕ) (carried : Bool) (moment : Moment) (c : Chunk) (asking : Option Asking) → fin.get s.volatile.moving chunk ≡ asking → Goes ⊥ s (promised_for s server chunk stamp count carried moment c asking)
  yes_goes server chunk stamp count carried moment c None has = same_goes ⊥ s (unmoved s) refl refl
  yes_goes server chunk stamp count carried moment c (Some asking) has =
      let turn = heard s chunk c (heard_yes asking server count) (carried && is_target asking server) moment (step_of_yes asking server count) in
      test_goes ⊥ s (hears asking stamp server) turn (unmoved s)
      (λ _. heard_goes chunk c asking (is_member asking.asked server) _ (carried && is_target asking server) moment (step_of_yes asking server count) (asked_waits chunk asking has)) (λ _. same_goes ⊥ s (unmoved s) refl refl)

  no_goes : (server chunk : ℕ) (stamp : Stamp) (moment : Moment) (c : Chunk) (asking : Option Asking) → fin.get s.volatile.moving chunk ≡ asking → Goes ⊥ s (unpromised_for s server chunk stamp moment c asking)
  no_goes server chunk stamp moment c None has = same_goes ⊥ s (unmoved s) refl refl
  no_goes server chunk stamp moment c (Some asking) has =
      let turn = heard s chunk c (heard_no asking server) false moment (step_of_no asking server) in
      test_goes ⊥ s (hears asking stamp server) turn (unmoved s)
      (λ _. heard_goes chunk c asking (is_member asking.asked server) _ false moment (step_of_no asking server) (asked_waits chunk asking has)) (λ _. same_goes ⊥ s (unmoved s) refl refl)

  promised_goes : (server chunk : ℕ) (stamp : Stamp) (count : ℕ) (carried : Bool) (moment : Moment) → Goes ⊥ s (promised s server chunk stamp count carried moment)
  unfolding chunk_at
  promised_goes server chunk stamp count carried moment = by_entry (has_entry s chunk)
    where
      by_entry : (b : Bool) → Goes ⊥ s (promised_at s server chunk stamp count carried moment (if b then Some (record { settled = fin.get s.durable.chunks chunk; asking = fin.get s.volatile.moving chunk }) else None))
      by_entry true = yes_goes server chunk stamp count carried moment (record { settled = fin.get s.durable.chunks chunk; asking = fin.get s.volatile.moving chunk }) (fin.get s.volatile.moving chunk) refl
      by_entry false = same_goes ⊥ s (unmoved s) refl refl

  unpromised_goes : (server chunk : ℕ) (stamp : Stamp) (moment : Moment) → Goes ⊥ s (unpromised s server chunk stamp moment)
  unfolding chunk_at
  unpromised_goes server chunk stamp moment = by_entry (has_entry s chunk)
    where
      by_entry : (b : Bool) → Goes ⊥ s (unpromised_at s server chunk stamp moment (if b then Some (record { settled = fin.get s.durable.chunks chunk; asking = fin.get s.volatile.moving chunk }) else None))
      by_entry true = no_goes server chunk stamp moment (record { settled = fin.get s.durable.chunks chunk; asking = fin.get s.volatile.moving chunk }) (fin.get s.volatile.moving chunk) refl
      by_entry false = same_goes ⊥ s (unmoved s) refl refl

  all_about_goes : (server chunk : ℕ) (moment : Moment) (said : About) → Goes ⊥ s (about_turn s server chunk moment said)
  all_about_goes server chunk moment (abouts.Promised stamp count carried) = promised_goes server chunk stamp count carried moment
  all_about_goes server chunk moment (abouts.Unpromised stamp refusal) = unpromised_goes server chunk stamp moment
  all_about_goes server chunk moment said = about_goes ⊥ s server chunk moment said refl

  all_server_goes : (server : ℕ) (moment : Moment) (said : Body) → Goes ⊥ s (server_turn s server moment said)
  all_server_goes server moment (bodies.About chunk said) = all_about_goes server chunk moment said
  all_server_goes server moment said = server_goes ⊥ s server moment said refl

  -- ---- a step of a tick

  pressed_on : (chunk : ℕ) (stamp : Stamp) (moment : Moment) (c : Chunk) (asking : Option Asking) → fin.get s.volatile.moving chunk ≡ asking → Goes ⊥ s (pressed_if s chunk stamp moment c asking)
  pressed_on chunk stamp moment c None has = same_goes ⊥ s (unmoved s) refl refl
  pressed_on chunk stamp moment c (Some asking) has =
      test_goes ⊥ s (is_same asking.stamp stamp) (stepped s chunk c asking false moment (step_at_tick asking)) (unmoved s)
      (λ _. stepped_goes s chunk asking (asked_waits chunk asking has) c false moment (step_at_tick asking)) (λ _. same_goes ⊥ s (unmoved s) refl refl)

  pressed_goes : (moment : Moment) (proposal : ℕ × Stamp) → Goes ⊥ s (pressed moment proposal s)
  unfolding chunk_at
  pressed_goes moment proposal = by_entry (has_entry s proposal.0)
    where
      by_entry : (b : Bool) → Goes ⊥ s (pressed_at s proposal.0 proposal.1 moment (if b then Some (record { settled = fin.get s.durable.chunks proposal.0; asking = fin.get s.volatile.moving proposal.0 }) else None))
      by_entry true = pressed_on proposal.0 proposal.1 moment (record { settled = fin.get s.durable.chunks proposal.0; asking = fin.get s.volatile.moving proposal.0 }) (fin.get s.volatile.moving proposal.0) refl
      by_entry false = same_goes ⊥ s (unmoved s) refl refl

pub steps_at_ticks_fit : StepsAtTicksFit
steps_at_ticks_fit s moment proposal sane go = (pressed_goes s sane go moment proposal).fits

-- ---- every message

node_fits : (config : Config) (s : State) (moment : Moment) (said : Body) (from : NodeId) → IsKept s.durable → IsSane s → CanGoOn s → AllFit s (from_node config s moment said from)
node_fits config s moment said nodes.Master k sane go = (same_goes ⊥ s (met_by s refusals.Stray) refl refl).fits
node_fits config s moment said (nodes.Server server) k sane go = (unless_failed_goes ⊥ s (server_turn s server moment said) (all_server_goes s sane go server moment said)).fits
node_fits config s moment said (nodes.Client client) k sane go = (client_goes config s moment said k sane).fits

pub all_messages_fit : AllMessagesFit
unfolding handle
all_messages_fit config s message moment k sane go = node_fits config s moment message.body message.from k sane go
