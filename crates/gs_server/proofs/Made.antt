-- Calls of one handle's slot, and what a server makes of them.
use Rattle.std.proofs.Common.{◌≡◌, ℕ, Bool, true, false, cond, not, [], ◌∷◌, Option, Some, None, refl, sym, ap, subst, ◌∙◌, arith, inl, inr}
use Rattle.std.proofs.lemmas.Grind.{common_steps}
use Rattle.std.specs.Prelude.{Result, Ok, Err}
use Rattle.std.specs.FinMap as fin
use Rattle.std.specs.FinMap.{nat_cmp-IsAntisymmetric}
use Rattle.std.specs.Ordering.{nat_cmp, eq_by_cmp}
use Rattle.std.specs.Cmp.{nat_cmp_total}
use Rattle.gs_base.specs.declared.numbers.Moment.{Moment}
use Rattle.gs_base.specs.declared.numbers.Stamp.{Stamp}
use Rattle.gs_base.specs.declared.numbers.ReqId.{ReqId}
use Rattle.gs_base.specs.declared.refusal.Refusal.{Refusal}
use Rattle.gs_base.specs.declared.refusal.Refusal.TheVariants as refusals
use Rattle.gs_base.specs.Calls.{Follows, FollowsOf, Does, Judges, Makes, Answers}
use Rattle.gs_base.specs.declared.refused.Refused.{Refused}
use Rattle.gs_store.specs.Slots.{Slot, first_of, when, count_of}
use Rattle.gs_store.specs.Stores.{Store, Performs, slot_of, with_slot, put_slot}
use Rattle.gs_server.specs.declared.turn.Turn.{Turn}
use Rattle.gs_msg.specs.declared.node.NodeId.TheVariants as nodes
use Rattle.gs_msg.specs.declared.body.Body.TheVariants as bodies
use Rattle.gs_msg.specs.declared.chunk.Chunk.TheVariants as chunks
use Rattle.gs_lease.specs.declared.held.Grant.{Grant}
use Rattle.gs_server_lease.specs.Leases.{tell, granted}
use Rattle.gs_server.specs.Holding.{takes}
use Rattle.gs_msg.specs.declared.body.Given.{Given}
use Rattle.gs_server.specs.Fetches.{refuses, gives, giving}
use Rattle.gs_server.specs.Places.{Part, or_else, promising, of_promise, count_or_none, unanswered, sending}
use Rattle.gs_server.specs.Promises.{promises, unpromised, promised, drops, or_copy, not_copied, copies}
use Rattle.gs_server.specs.Servers.{Server, Step, ServerSteps, step_of, store_of, with_store, with_leases, here_of, place_of, change_lease}
use Rattle.gs_server.specs.Servers.{copies as copy_step}
use Rattle.gs_server.specs.inner.Answering.{promised_by, not_copied_by}

pub slot_put : (handle : ℕ) (s : Slot) (t : Store) → slot_of handle (with_slot handle s t) ≡ s
slot_put handle s t = grind (arith, common_steps, fin.gets)

-- the forms of a call, as the widest of them
pub of_does : {A B : Type 0} (m : Result A Refusal) (b : Result B Refusal) (old new : A) → Does m b old new → Follows m b old new
of_does (Ok a) (Ok b) old new d = d
of_does (Err e) (Ok b) old new d = d
of_does (Ok a) (Err f) old new d = elim d [ ]
of_does (Err e) (Err f) old new d = (inl d.0, d.1)

pub of_performs : {A B : Type 0} (m : Result A Refusal) (b : Result B Refusal) (old new : A) → Performs m b old new → Follows m b old new
of_performs (Ok a) (Ok b) old new d = d
of_performs (Err e) (Ok b) old new d = d
of_performs (Ok a) (Err f) old new d = d
of_performs (Err e) (Err f) old new d = (inl d.0, d.1)

pub of_handed_ok : {A B G : Type 0} (given : G) (m : Result A Refusal) (b : B) (old new : A) → FollowsOf {B = B} given m (Ok b) old new → Follows {B = B} m (Ok b) old new
of_handed_ok given (Ok a) b old new d = d
of_handed_ok given (Err e) b old new d = d

pub of_handed_back : {A G : Type 0} (given : G) (m : Result A Refusal) (f : Refused G) (old new : A) → FollowsOf {B = Unit {0}} given m (Err f) old new → Follows {B = Unit {0}} m (Err f.refusal) old new
of_handed_back given (Ok a) f old new d = (d.0, d.2)
of_handed_back given (Err e) f old new d = (inl d.0, d.2)

-- the check of an epoch, as definitions and code make it
pub right_epoch : (test : Bool) (e : Refusal) (f : Refusal → Part) (part : Part) → Judges {B = Unit {0}} (cond test None (Some e)) (Ok tt) → or_else (when (not test) e) f part ≡ part
right_epoch true e f part c = refl
right_epoch false e f part c = elim c [ ]

pub wrong_epoch : (test : Bool) (e : Refusal) (f : Refusal → Part) (part : Part) (r : Refusal) → Judges {B = Unit {0}} (cond test None (Some e)) (Err r) → or_else (when (not test) e) f part ≡ f r
wrong_epoch true e f part r c = elim c [ ]
wrong_epoch false e f part r c = ap f (sym c)

-- what wants memory does whatever was asked
pub wants_memory : (step : Step) (result : Result Turn Refusal) (old new : Server) → result ≡ Err refusals.Memory → new ≡ old → ServerSteps step result old new
wants_memory step result old new is same = subst (λ r. ServerSteps step r old new) (sym is) (refl, same)

promised_step : (handle : ℕ) (stamp : Stamp) (moment : Moment) (old : Server) (s : Slot) →
    promised_by handle stamp (with_store (with_slot handle s (store_of old)) old) ≡ step_of handle None (promising s (place_of handle old) (promised (here_of old moment handle None) stamp s ∷ [])) old
promised_step handle stamp moment old s =
    ap (λ (x : Slot). record {
      after = with_leases (change_lease handle (of_promise x.promise (fin.get old.dropped.leases handle)) old.dropped.leases) (with_store (with_slot handle s (store_of old)) old);
      sent = tell old.me nodes.Master (bodies.About handle (chunks.Promised stamp (count_or_none (count_of x.live)) x.carried)) ∷ [];
      said = None;
    }) (slot_put handle s (store_of old))

-- A call that makes a promise is accepted: what the server does then is what the message comes to.
pub made_ok : (handle : ℕ) (stamp : Stamp) (moment : Moment) (old : Server) (test : Bool) (e : Refusal) (m : Result Slot Refusal) (new : Store) (after : Server) (turn : Turn) →
    Judges {B = Unit {0}} (cond test None (Some e)) (Ok tt) → Follows {B = Unit {0}} (put_slot handle (store_of old) m) (Ok tt) (store_of old) new →
    after ≡ (promised_by handle stamp (with_store new old)).after → turn.sent.items ≡ (promised_by handle stamp (with_store new old)).sent → turn.said ≡ None →
    ServerSteps (step_of handle None (or_else (when (not test) e) (unpromised (here_of old moment handle None) (place_of handle old) stamp) (promises (here_of old moment handle None) (place_of handle old) stamp m)) old) (Ok turn) old after
made_ok handle stamp moment old false e m new after turn checked follows is sent said = elim checked [ ]
made_ok handle stamp moment old true e (Err f) new after turn checked follows is sent said = elim follows [ ]
made_ok handle stamp moment old true e (Ok s) new after turn checked follows is sent said =
    let same : promised_by handle stamp (with_store new old) ≡ step_of handle None (promising s (place_of handle old) (promised (here_of old moment handle None) stamp s ∷ [])) old =
    ap (λ n. promised_by handle stamp (with_store n old)) follows ∙ promised_step handle stamp moment old s in
    (is ∙ ap (λ (x : Step). x.after) same, sent ∙ ap (λ (x : Step). x.sent) same, said)

-- it is refused
abbrev pub refused_step : ℕ → Stamp → Moment → Refusal → Server → Step
refused_step handle stamp moment f old = step_of handle None (unpromised (here_of old moment handle None) (place_of handle old) stamp f) old

refused_for : (handle : ℕ) (stamp : Stamp) (moment : Moment) (f g : Refusal) (result : Result Turn Refusal) (old mid after : Server) → f ≡ g → mid ≡ old → ServerSteps (refused_step handle stamp moment f mid) result mid after → ServerSteps (refused_step handle stamp moment g old) result old after
refused_for handle stamp moment f g result old mid after is same steps =
    subst (λ r. ServerSteps (refused_step handle stamp moment r old) result old after) is (subst (λ s. ServerSteps (refused_step handle stamp moment f s) result s after) same steps)

pub made_err : (handle : ℕ) (stamp : Stamp) (moment : Moment) (old : Server) (test : Bool) (e : Refusal) (m : Result Slot Refusal) (f : Refusal) (new : Store) (after : Server) (result : Result Turn Refusal) →
    Judges {B = Unit {0}} (cond test None (Some e)) (Ok tt) → Follows {B = Unit {0}} (put_slot handle (store_of old) m) (Err f) (store_of old) new →
    ServerSteps (refused_step handle stamp moment f (with_store new old)) result (with_store new old) after → (f ≡ refusals.Memory → result ≡ Err refusals.Memory) → (f ≡ refusals.Memory → after ≡ with_store new old) →
    ServerSteps (step_of handle None (or_else (when (not test) e) (unpromised (here_of old moment handle None) (place_of handle old) stamp) (promises (here_of old moment handle None) (place_of handle old) stamp m)) old) result old after
made_err handle stamp moment old false e m f new after result checked follows steps lacks stays = elim checked [ ]
made_err handle stamp moment old true e (Ok s) f new after result checked follows steps lacks stays =
    wants_memory _ result old after (lacks follows.0) (stays follows.0 ∙ ap (λ n. with_store n old) follows.1)
made_err handle stamp moment old true e (Err g) f new after result checked follows steps lacks stays =
    elim follows.0 [
      | inl is ↦ refused_for handle stamp moment f g result old (with_store new old) after is (ap (λ n. with_store n old) follows.1) steps
      | inr is ↦ wants_memory _ result old after (lacks is) (stays is ∙ ap (λ n. with_store n old) follows.1)
    ]

-- it is of another epoch
pub made_in_another_epoch : (handle : ℕ) (stamp : Stamp) (moment : Moment) (old : Server) (test : Bool) (e f : Refusal) (m : Result Slot Refusal) (after : Server) (result : Result Turn Refusal) →
    Judges {B = Unit {0}} (cond test None (Some e)) (Err f) → ServerSteps (refused_step handle stamp moment f old) result old after →
    ServerSteps (step_of handle None (or_else (when (not test) e) (unpromised (here_of old moment handle None) (place_of handle old) stamp) (promises (here_of old moment handle None) (place_of handle old) stamp m)) old) result old after
made_in_another_epoch handle stamp moment old true e f m after result checked steps = elim checked [ ]
made_in_another_epoch handle stamp moment old false e f m after result checked steps = subst (λ r. ServerSteps (refused_step handle stamp moment r old) result old after) checked steps

-- a replica is dropped, and its lease spent
abbrev pub dropped_after : ℕ → Store → Server → Server
dropped_after handle new old = with_leases (fin.remove old.dropped.leases handle) (with_store new old)

pub drop_ok : (handle : ℕ) (old : Server) (test : Bool) (e : Refusal) (m : Result Slot Refusal) (new : Store) (after : Server) (turn : Turn) →
    Judges {B = Unit {0}} (cond test None (Some e)) (Ok tt) → Follows {B = Unit {0}} (put_slot handle (store_of old) m) (Ok tt) (store_of old) new →
    after ≡ dropped_after handle new old → turn.sent.items ≡ [] → turn.said ≡ None →
    ServerSteps (step_of handle None (or_else (when (not test) e) unanswered (drops m)) old) (Ok turn) old after
drop_ok handle old false e m new after turn checked follows is sent said = elim checked [ ]
drop_ok handle old true e (Err f) new after turn checked follows is sent said = elim follows [ ]
drop_ok handle old true e (Ok s) new after turn checked follows is sent said = (is ∙ ap (λ n. dropped_after handle n old) follows, sent, said)

pub drop_err : (handle : ℕ) (old : Server) (test : Bool) (e : Refusal) (m : Result Slot Refusal) (f : Refusal) (new : Store) (after : Server) (turn : Turn) →
    Judges {B = Unit {0}} (cond test None (Some e)) (Ok tt) → Does {B = Unit {0}} (put_slot handle (store_of old) m) (Err f) (store_of old) new →
    after ≡ with_store new old → turn.sent.items ≡ [] → turn.said ≡ Some f →
    ServerSteps (step_of handle None (or_else (when (not test) e) unanswered (drops m)) old) (Ok turn) old after
drop_err handle old false e m f new after turn checked does is sent said = elim checked [ ]
drop_err handle old true e (Ok s) f new after turn checked does is sent said = elim does [ ]
drop_err handle old true e (Err g) f new after turn checked does is sent said = (is ∙ ap (λ n. with_store n old) does.1, sent, said ∙ ap (λ r. Some r) does.0)

shadowed : {X : Type 0} (b : Bool) (x : X) (y z : Option X) → y ≡ cond b None z → cond b (Some x) y ≡ cond b (Some x) z
shadowed true x y z is = refl
shadowed false x y z is = is

pub insert_removed : {X : Type 0} (m : fin.FinMap nat_cmp X) (key : ℕ) (x : X) → fin.insert (fin.remove m key) key x ≡ fin.insert m key x
insert_removed m key x = fin.same_map nat_cmp_total nat_cmp-IsAntisymmetric _ _ (λ q.
    fin.get-insert nat_cmp_total (fin.remove m key) key x q ∙ shadowed (eq_by_cmp nat_cmp q key) x (fin.get (fin.remove m key) q) (fin.get m q) (fin.get-remove nat_cmp_total m key q) ∙ sym (fin.get-insert nat_cmp_total m key x q))

abbrev value_or : {X : Type 0} → X → Option X → X
value_or x None = x
value_or x (Some y) = y

pub inside : {X : Type 0} (x y : X) → Some x ≡ Some y → x ≡ y
inside x y is = ap (value_or x) is

-- what a lease becomes that is taken out and put again
pub put_again : {X : Type 0} (f : X → X) (m removed new : fin.FinMap nat_cmp X) (key : ℕ) (lease next l : X) → Some lease ≡ fin.get m key → removed ≡ fin.remove m key → next ≡ f lease → new ≡ fin.insert removed key next →
    fin.get m key ≡ Some l → new ≡ fin.insert m key (f l)
put_again f m removed new key lease next l got taken is put held =
    put ∙ ap (λ r. fin.insert r key next) taken ∙ insert_removed m key next ∙ ap (fin.insert m key) (is ∙ ap f (inside lease l (got ∙ held)))

-- what is judged before anything is done
pub judged_none : (o : Option Refusal) → Judges {B = Unit {0}} o (Ok tt) → o ≡ None
judged_none None j = refl
judged_none (Some e) j = elim j [ ]

pub judged_some : (o : Option Refusal) (f : Refusal) → Judges {B = Unit {0}} o (Err f) → o ≡ Some f
judged_some None f j = elim j [ ]
judged_some (Some e) f j = ap (λ r. Some r) (sym j)

pub unanswered_step : (handle : ℕ) (old : Server) (o : Option Refusal) (part : Part) (f : Refusal) (turn : Turn) → o ≡ Some f → turn.sent.items ≡ [] → turn.said ≡ Some f → ServerSteps (step_of handle None (or_else o unanswered part) old) (Ok turn) old old
unanswered_step handle old o part f turn is sent said = subst (λ p. ServerSteps (step_of handle None (or_else p unanswered part) old) (Ok turn) old old) (sym is) (refl, sent, said)

-- and what is done then
pub passed_step : (handle : ℕ) (old new : Server) (o : Option Refusal) (refuses : Refusal → Part) (part : Part) (result : Result Turn Refusal) → o ≡ None → ServerSteps (step_of handle None part old) result old new → ServerSteps (step_of handle None (or_else o refuses part) old) result old new
passed_step handle old new o refuses part result is steps = subst (λ p. ServerSteps (step_of handle None (or_else p refuses part) old) result old new) (sym is) steps

-- a grant: the epoch, what the slot says of it, and whether the lease is held already
pub second_refusal : (test : Bool) (e : Refusal) (o : Option Refusal) (f : Refusal) → Judges {B = Unit {0}} (cond test None (Some e)) (Ok tt) → o ≡ Some f → first_of (when (not test) e ∷ o ∷ []) ≡ Some f
second_refusal true e o f checked is = ap (λ x. first_of (x ∷ [])) is
second_refusal false e o f checked is = elim checked [ ]

abbrev grant_part : Bool → Refusal → Option Refusal → Bool → Grant → Result Slot Refusal → Part
grant_part test e o held given m = or_else (first_of (when (not test) e ∷ o ∷ [])) unanswered (cond held (sending []) (takes given m))

not_held : (b : Bool) → b ≡ false → b ≡ true → ⊥
not_held b isnt is = subst (λ (x : Bool). cond x (Unit {0}) ⊥) isnt (subst (λ (x : Bool). cond x (Unit {0}) ⊥) (sym is) tt)

pub grant_ok : (handle : ℕ) (old : Server) (test : Bool) (e : Refusal) (o : Option Refusal) (held : Bool) (given : Grant) (m : Result Slot Refusal) (new : Store) (after : Server) (turn : Turn) →
    Judges {B = Unit {0}} (cond test None (Some e)) (Ok tt) → Judges {B = Unit {0}} o (Ok tt) → held ≡ false → Does {B = Unit {0}} (put_slot handle (store_of old) m) (Ok tt) (store_of old) new →
    after ≡ with_leases (fin.insert old.dropped.leases handle (granted given)) (with_store new old) → turn.sent.items ≡ [] → turn.said ≡ None →
    ServerSteps (step_of handle None (grant_part test e o held given m) old) (Ok turn) old after
grant_ok handle old false e o held given m new after turn checked judged isnt does is sent said = elim checked [ ]
grant_ok handle old true e (Some f) held given m new after turn checked judged isnt does is sent said = elim judged [ ]
grant_ok handle old true e None true given m new after turn checked judged isnt does is sent said = elim (not_held true isnt refl) [ ]
grant_ok handle old true e None false given (Err f) new after turn checked judged isnt does is sent said = elim does [ ]
grant_ok handle old true e None false given (Ok s) new after turn checked judged isnt does is sent said =
    (is ∙ ap (λ n. with_leases (fin.insert old.dropped.leases handle (granted given)) (with_store n old)) does, sent, said)

pub grant_err : (handle : ℕ) (old : Server) (test : Bool) (e : Refusal) (o : Option Refusal) (held : Bool) (given : Grant) (m : Result Slot Refusal) (f : Refusal) (new : Store) (after : Server) (turn : Turn) →
    Judges {B = Unit {0}} (cond test None (Some e)) (Ok tt) → Judges {B = Unit {0}} o (Ok tt) → held ≡ false → Does {B = Unit {0}} (put_slot handle (store_of old) m) (Err f) (store_of old) new →
    after ≡ with_store new old → turn.sent.items ≡ [] → turn.said ≡ Some f →
    ServerSteps (step_of handle None (grant_part test e o held given m) old) (Ok turn) old after
grant_err handle old false e o held given m f new after turn checked judged isnt does is sent said = elim checked [ ]
grant_err handle old true e (Some g) held given m f new after turn checked judged isnt does is sent said = elim judged [ ]
grant_err handle old true e None true given m f new after turn checked judged isnt does is sent said = elim (not_held true isnt refl) [ ]
grant_err handle old true e None false given (Ok s) f new after turn checked judged isnt does is sent said = elim does [ ]
grant_err handle old true e None false given (Err g) f new after turn checked judged isnt does is sent said =
    (is ∙ ap (λ n. with_store n old) does.1, sent, said ∙ ap (λ r. Some r) does.0)

-- a fetch that is refused, or for which there is no memory
pub fetch_err : (handle : ℕ) (req : ReqId) (moment : Moment) (old : Server) (test : Bool) (e : Refusal) (m : Result Given Refusal) (f : Refusal) (after : Server) (result : Result Turn Refusal) →
    Judges {B = Unit {0}} (cond test None (Some e)) (Ok tt) → Makes m (Err f) →
    ServerSteps (step_of handle None (refuses (here_of old moment handle None) (place_of handle old) req f) old) result old after → (f ≡ refusals.Memory → result ≡ Err refusals.Memory) → (f ≡ refusals.Memory → after ≡ old) →
    ServerSteps (step_of handle None (or_else (when (not test) e) (refuses (here_of old moment handle None) (place_of handle old) req) (gives (here_of old moment handle None) (place_of handle old) req m)) old) result old after
fetch_err handle req moment old false e m f after result checked makes steps lacks stays = elim checked [ ]
fetch_err handle req moment old true e (Ok g) f after result checked makes steps lacks stays = wants_memory _ result old after (lacks makes) (stays makes)
fetch_err handle req moment old true e (Err g) f after result checked makes steps lacks stays =
    subst (λ r. ServerSteps (step_of handle None (refuses (here_of old moment handle None) (place_of handle old) req r) old) result old after) makes steps

pub giving_err : {A B : Type 0} (f : A → Given) (view : B → A) (m : Result A Refusal) (r : Refusal) → Answers view m (Err r) → Makes (giving f m) (Err r)
giving_err f view (Ok a) r answers = elim answers [ ]
giving_err f view (Err e) r answers = answers

-- a copy is made under a new handle
abbrev pub copied_as : ℕ → ℕ → Stamp → Moment → Bool → Refusal → Result Slot Refusal → Server → Step
copied_as handle new_handle stamp moment test e m old =
    copy_step handle new_handle (or_copy (when (not test) e) (not_copied (here_of old moment handle None) (place_of handle old) (here_of old moment new_handle None) stamp)
    (copies (here_of old moment handle None) (place_of handle old) (here_of old moment new_handle None) (place_of new_handle old) stamp m)) old

pub copied_ok : (handle new_handle : ℕ) (stamp : Stamp) (moment : Moment) (old : Server) (test : Bool) (e : Refusal) (m : Result Slot Refusal) (new : Store) (after : Server) (turn : Turn) →
    Judges {B = Unit {0}} (cond test None (Some e)) (Ok tt) → Follows {B = Unit {0}} (put_slot new_handle (store_of old) m) (Ok tt) (store_of old) new →
    after ≡ (promised_by new_handle stamp (with_store new old)).after → turn.sent.items ≡ (promised_by new_handle stamp (with_store new old)).sent → turn.said ≡ None →
    ServerSteps (copied_as handle new_handle stamp moment test e m old) (Ok turn) old after
copied_ok handle new_handle stamp moment old false e m new after turn checked follows is sent said = elim checked [ ]
copied_ok handle new_handle stamp moment old true e (Err f) new after turn checked follows is sent said = elim follows [ ]
copied_ok handle new_handle stamp moment old true e (Ok s) new after turn checked follows is sent said =
    let same : promised_by new_handle stamp (with_store new old) ≡ step_of new_handle None (promising s (place_of new_handle old) (promised (here_of old moment new_handle None) stamp s ∷ [])) old =
    ap (λ n. promised_by new_handle stamp (with_store n old)) follows ∙ promised_step new_handle stamp moment old s in
    (is ∙ ap (λ (x : Step). x.after) same, sent ∙ ap (λ (x : Step). x.sent) same, said)

pub copied_err : (handle new_handle : ℕ) (stamp : Stamp) (moment : Moment) (old : Server) (test : Bool) (e : Refusal) (m : Result Slot Refusal) (f : Refusal) (new : Store) (after : Server) (result : Result Turn Refusal) →
    Judges {B = Unit {0}} (cond test None (Some e)) (Ok tt) → Follows {B = Unit {0}} (put_slot new_handle (store_of old) m) (Err f) (store_of old) new →
    ServerSteps (not_copied_by handle new_handle stamp f (with_store new old)) result (with_store new old) after → (f ≡ refusals.Memory → result ≡ Err refusals.Memory) → (f ≡ refusals.Memory → after ≡ with_store new old) →
    ServerSteps (copied_as handle new_handle stamp moment test e m old) result old after
copied_err handle new_handle stamp moment old false e m f new after result checked follows steps lacks stays = elim checked [ ]
copied_err handle new_handle stamp moment old true e (Ok s) f new after result checked follows steps lacks stays =
    wants_memory _ result old after (lacks follows.0) (stays follows.0 ∙ ap (λ n. with_store n old) follows.1)
copied_err handle new_handle stamp moment old true e (Err g) f new after result checked follows steps lacks stays =
    elim follows.0 [
      | inl is ↦ subst (λ r. ServerSteps (not_copied_by handle new_handle stamp r old) result old after) is (subst (λ s. ServerSteps (not_copied_by handle new_handle stamp f s) result s after) (ap (λ n. with_store n old) follows.1) steps)
      | inr is ↦ wants_memory _ result old after (lacks is) (stays is ∙ ap (λ n. with_store n old) follows.1)
    ]

pub copied_in_another_epoch : (handle new_handle : ℕ) (stamp : Stamp) (moment : Moment) (old : Server) (test : Bool) (e f : Refusal) (m : Result Slot Refusal) (after : Server) (result : Result Turn Refusal) →
    Judges {B = Unit {0}} (cond test None (Some e)) (Err f) → ServerSteps (not_copied_by handle new_handle stamp f old) result old after →
    ServerSteps (copied_as handle new_handle stamp moment test e m old) result old after
copied_in_another_epoch handle new_handle stamp moment old true e f m after result checked steps = elim checked [ ]
copied_in_another_epoch handle new_handle stamp moment old false e f m after result checked steps = subst (λ r. ServerSteps (not_copied_by handle new_handle stamp r old) result old after) checked steps
