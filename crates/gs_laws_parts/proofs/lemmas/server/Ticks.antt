-- Losses, damage and ticks of a server are steps of each chunk.
use Rattle.std.proofs.Common.{◌≡◌, ℕ, ⊎_elim, Bool, true, false, not, cond, List, [], ◌∷◌, Option, Some, None, refl, sym, ap, subst, ◌∙◌, arith}
use Rattle.std.specs.Prelude.{Result, Ok, Err, ◌==◌, Contains}
use Rattle.std.specs.List.{AllByRecursion}
use Rattle.std.specs.FinMap as fin
use Rattle.std.specs.Ordering.{nat_cmp}
use Rattle.std.proofs.lemmas.Bool.Decides.{nat_tests}
use Rattle.gs_base.specs.declared.numbers.Moment.{Moment}
use Rattle.gs_base.specs.declared.numbers.ReqId.{ReqId}
use Rattle.gs_base.specs.declared.refusal.Refusal.{Refusal}
use Rattle.gs_store.specs.Slots.{Slot, lose, damage}
use Rattle.gs_store.specs.Stores.{slot_of, with_slot, put_slot}
use Rattle.gs_store.specs.Calls as calls
use Rattle.gs_store.specs.Calls.{Call}
use Rattle.gs_store.proofs.StoreLaws.{own_slot, other_slot}
use Rattle.gs_server_lease.specs.declared.lease.Open.{Open as Waiting}
use Rattle.gs_server_lease.specs.Leases as primary
use Rattle.gs_server_lease.specs.Leases.{is_over, forward_of, reminds}
use Rattle.gs_server.specs.Lifts.{ticked, with_lease}
use Rattle.gs_server.specs.Servers.{Server, place_of, here_of, store_of, with_store, in_store, stands_at, tick}
use Rattle.gs_server.specs.Runs.{Loses, Damages, behind, unless_refused}
use Rattle.gs_laws_server.specs.servers.Calling.{if_done}
use Rattle.gs_laws_chunk.specs.machine.Machine.{ChunkWorld}
use Rattle.gs_laws_parts.specs.server.Showing.{Setting, setting_of}
use Rattle.gs_msg.specs.declared.message.Message.{Message}
use Rattle.gs_laws_parts.specs.server.Telling.{ServersTell}
use Rattle.gs_laws_parts.specs.server.Answering.{NoYes, IsByServer}
use Rattle.gs_laws_parts.specs.server.Moving.{FollowsServer, IsShown, IsSteps}
use Rattle.gs_laws_parts.specs.server.Causes.{Strikes, Calm, struck_by, cause_by}
use Rattle.gs_laws_parts.proofs.lemmas.server.Lists.{cons_cases, nil_contains, all_flat}
use Rattle.gs_laws_parts.proofs.lemmas.server.Entries.{found_each}
use Rattle.gs_laws_parts.proofs.lemmas.server.Quiet.{loses, damages, ticks}
use Rattle.gs_laws_parts.proofs.lemmas.server.Sending.{sends_again, reminds_tell}
use Rattle.gs_laws_parts.proofs.lemmas.server.Elsewhere.{elsewhere, reminds_sent, NoYeses, quiet_sent, none_in, ByServer, by_server}
use Rattle.gs_laws_parts.proofs.lemmas.server.Steps.{from_follows, passes}

pub one_of_all : {X : Type 0} (P : X → Type 0) (xs : List X) (x : X) → AllByRecursion P xs → Contains xs x → P x
one_of_all P [] x all there = nil_contains x there
one_of_all P (y ∷ xs) x all there = ⊎_elim (λ same. subst P same all.0) (λ more. one_of_all P xs x all.1 more) (cons_cases y xs x there)

pub eq_same : (a b : ℕ) → (a == b) ≡ true → b ≡ a
eq_same a b is = grind (arith, nat_tests)

pub apart_of : (a b : ℕ) → (a == b) ≡ false → b ≡ a → ⊥
apart_of a b is same = (let y : (a == b) ≡ true = grind (arith, nat_tests) in (cc))

module _ (bytes : ReqId → List ℕ) (born chunk : ℕ) (w : ChunkWorld) (s : Server) (x : IsShown (setting_of bytes born s) chunk w s) where
  abbrev c : Setting
  c = setting_of bytes born s

  -- a slot that is changed without a message
  slot_steps : (handle : ℕ) (call : Call) (t : Slot) → (handle ≡ chunk → FollowsServer Strikes c chunk w s.me s.kept.epoch (record { slot = t; lease = (place_of chunk s).lease }) []) → IsSteps (struck_by (cond (chunk == handle) (Some call) None)) c chunk w s.me None (with_store (with_slot handle t (store_of s)) s) []
  slot_steps handle call t follows = by_case (chunk == handle) refl
    where
      by_case : (b : Bool) → (chunk == handle) ≡ b → IsSteps (struck_by (cond b (Some call) None)) c chunk w s.me None (with_store (with_slot handle t (store_of s)) s) []
      by_case true is =
          let same : handle ≡ chunk = eq_same chunk handle is in
          let slot : slot_of chunk (with_slot handle t (store_of s)) ≡ t = subst (λ k. slot_of k (with_slot handle t (store_of s)) ≡ t) same (own_slot handle t (store_of s)) in
          from_follows c chunk w Strikes s.me s.kept.epoch (record { slot = t; lease = (place_of chunk s).lease }) [] None (with_store (with_slot handle t (store_of s)) s) (follows same) refl refl refl refl (λ i. record { slot = slot i; lease = (place_of chunk s).lease }) x.buffers tt
      by_case false is =
          let slot = other_slot handle chunk t (store_of s) is in
          passes c chunk w s (with_store (with_slot handle t (store_of s)) s) [] None x refl refl refl refl (λ i. record { slot = slot i; lease = (place_of chunk s).lease }) x.buffers tt (λ v. tt)

  -- a call that may be refused
  call_steps : (handle : ℕ) (call : Call) (r : Result Slot Refusal) → ((t : Slot) → r ≡ Ok t → handle ≡ chunk → FollowsServer Strikes c chunk w s.me s.kept.epoch (record { slot = t; lease = (place_of chunk s).lease }) [])
      → IsSteps (struck_by (cond (chunk == handle) (if_done call r) None)) c chunk w s.me None (unless_refused s (in_store s (put_slot handle (store_of s) r))) []
  call_steps handle call (Ok t) follows = slot_steps handle call t (follows t refl)
  call_steps handle call (Err e) follows = by_case (chunk == handle)
    where
      by_case : (b : Bool) → IsSteps (struck_by (cond b None None)) c chunk w s.me None s []
      by_case true = passes c chunk w s s [] None x refl refl refl refl refl x.buffers tt (λ v. tt)
      by_case false = passes c chunk w s s [] None x refl refl refl refl refl x.buffers tt (λ v. tt)

  pub lose_steps : (handle : ℕ) → IsSteps (cause_by chunk (Loses handle) s) c chunk w s.me None (behind (Loses handle) s) []
  lose_steps handle = call_steps handle calls.Loses (lose (slot_of handle (store_of s))) (λ t is same. loses c chunk w s.me s.kept.epoch (place_of chunk s) x.shows t (subst (λ k. lose (slot_of k (store_of s)) ≡ Ok t) same is))

  pub damage_steps : (handle block : ℕ) → IsSteps (cause_by chunk (Damages handle block) s) c chunk w s.me None (behind (Damages handle block) s) []
  damage_steps handle block =
      call_steps handle (calls.Damages block) (damage block (slot_of handle (store_of s))) (λ t is same. damages c chunk w s.me s.kept.epoch (place_of chunk s) x.shows block t (subst (λ k. damage block (slot_of k (store_of s)) ≡ Ok t) same is))

  -- ---- a tick

  module _ (moment : Moment) where
    tick_place : place_of chunk (tick s moment).after ≡ ticked moment (place_of chunk s)
    tick_place =
        let test = λ (handle : ℕ). stands_at moment (fin.get s.dropped.leases handle) in
        ap (λ l. with_lease l (place_of chunk s)) (fin.get-retain_keys s.dropped.leases test chunk (λ y e. ap test (sym (fin.nat_cmp-IsAntisymmetric chunk y e))))

    abbrev Forwarded : ChunkWorld → primary.PrimaryLease → Type 0
    Forwarded v l = (number : ℕ) (y : Waiting) → Contains l.outbox (number, y) → (to : ℕ) → Contains l.grant.members to → (carried : Option (List ℕ)) → ((b : List ℕ) → carried ≡ Some b → b ≡ y.bytes) → ServersTell c chunk v (forward_of s.me chunk l carried (number, y) to)

    entry_tells : (v : ChunkWorld) (e : ℕ × primary.PrimaryLease) → fin.get s.dropped.leases e.0 ≡ Some e.1 → ((l : primary.PrimaryLease) → (place_of chunk s).lease ≡ Some l → is_over moment l ≡ false → Forwarded v l) → AllByRecursion (ServersTell c chunk v) (cond (is_over moment e.1) [] (reminds s.me e.0 e.1))
    entry_tells v e got each = by_case (is_over moment e.1) refl
      where
        by_handle : (b : Bool) → (chunk == e.0) ≡ b → is_over moment e.1 ≡ false → AllByRecursion (ServersTell c chunk v) (reminds s.me e.0 e.1)
        by_handle true is stands =
            let same : e.0 ≡ chunk = eq_same chunk e.0 is in
            subst (λ k. AllByRecursion (ServersTell c chunk v) (reminds s.me k e.1)) (sym same) (reminds_tell bytes born w (here_of s moment chunk None) (place_of chunk s) v e.1 (each e.1 (subst (λ k. fin.get s.dropped.leases k ≡ Some e.1) same got) stands))
        by_handle false is stands = elsewhere c chunk v e.0 false (reminds s.me e.0 e.1) (apart_of chunk e.0 is) (reminds_sent (here_of s moment e.0 None) false e.1 e.1.outbox)

        by_case : (b : Bool) → is_over moment e.1 ≡ b → AllByRecursion (ServersTell c chunk v) (cond b [] (reminds s.me e.0 e.1))
        by_case true over = tt
        by_case false stands = by_handle (chunk == e.0) refl stands

    tick_tells : (v : ChunkWorld) → ((l : primary.PrimaryLease) → (place_of chunk s).lease ≡ Some l → is_over moment l ≡ false → Forwarded v l) → AllByRecursion (ServersTell c chunk v) (tick s moment).sent
    tick_tells v each =
        all_flat (ServersTell c chunk v) (λ (e : ℕ × primary.PrimaryLease). cond (is_over moment e.1) [] (reminds s.me e.0 e.1)) (fin.entries s.dropped.leases)
        (λ e there. entry_tells v e (fin.get-entries s.dropped.leases e.0 ∙ one_of_all (λ (y : ℕ × primary.PrimaryLease). fin.find nat_cmp y.0 (fin.entries s.dropped.leases) ≡ Some y.1) (fin.entries s.dropped.leases) e (found_each (fin.entries s.dropped.leases) (fin.entries_sorted s.dropped.leases)) there) each)

    tick_quiet : NoYeses (tick s moment).sent
    tick_quiet = all_flat (λ (m : Message). NoYes m.body) (λ (e : ℕ × primary.PrimaryLease). cond (is_over moment e.1) [] (reminds s.me e.0 e.1)) (fin.entries s.dropped.leases)
        (λ e there. by_case e (is_over moment e.1))
      where
        by_case : (e : ℕ × primary.PrimaryLease) (b : Bool) → NoYeses (cond b [] (reminds s.me e.0 e.1))
        by_case e true = tt
        by_case e false = quiet_sent e.0 (reminds s.me e.0 e.1) (reminds_sent (here_of s moment e.0 None) false e.1 e.1.outbox)

    tick_by : ByServer (tick s moment).sent
    tick_by = all_flat (λ (m : Message). IsByServer m.body) (λ (e : ℕ × primary.PrimaryLease). cond (is_over moment e.1) [] (reminds s.me e.0 e.1)) (fin.entries s.dropped.leases)
        (λ e there. by_case e (is_over moment e.1))
      where
        by_case : (e : ℕ × primary.PrimaryLease) (b : Bool) → ByServer (cond b [] (reminds s.me e.0 e.1))
        by_case e true = tt
        by_case e false = by_server false e.0 (reminds s.me e.0 e.1) (reminds_sent (here_of s moment e.0 None) false e.1 e.1.outbox)

    never_stands : (v : ChunkWorld) (o : Option primary.PrimaryLease) (l : primary.PrimaryLease) → stands_at moment o ≡ false → o ≡ Some l → is_over moment l ≡ false → Forwarded v l
    never_stands v None l none is stands = absurd (cc)
    never_stands v (Some k) l none is stands = absurd (let same : k ≡ l = cc in let y : not (is_over moment l) ≡ false = subst (λ (z : primary.PrimaryLease). not (is_over moment z) ≡ false) same none in let z : not (is_over moment l) ≡ true = ap not stands in (cc))

    there_lease : (o : Option primary.PrimaryLease) → stands_at moment o ≡ true → (l : primary.PrimaryLease) × (o ≡ Some l)
    there_lease None is = absurd (cc)
    there_lease (Some l) is = (l, refl)

    pub tick_steps : IsSteps Calm c chunk w s.me None (tick s moment).after (tick s moment).sent
    tick_steps = by_case (stands_at moment (place_of chunk s).lease) refl
      where
        by_case : (b : Bool) → stands_at moment (place_of chunk s).lease ≡ b → IsSteps Calm c chunk w s.me None (tick s moment).after (tick s moment).sent
        by_case false none =
            let f = ticks c chunk w s.me s.kept.epoch (place_of chunk s) x.shows moment none in
            let f2 : FollowsServer Calm c chunk w s.me s.kept.epoch (ticked moment (place_of chunk s)) (tick s moment).sent = record { member = f.member; sends = f.sends; moved = f.moved; lists = f.lists; numbers = f.numbers; intact = f.intact; gains = f.gains; shows = f.shows; tells = tick_tells f.moved.world (λ l is stands. never_stands f.moved.world (place_of chunk s).lease l none is stands) } in
            from_follows c chunk w Calm s.me s.kept.epoch (ticked moment (place_of chunk s)) (tick s moment).sent None (tick s moment).after f2 refl refl refl refl tick_place x.buffers (none_in Calm c chunk f.moved.world s.me (tick s moment).sent tick_by tick_quiet)
        by_case true stands =
            let l = there_lease (place_of chunk s).lease stands in
            let f = sends_again bytes born w (here_of s moment chunk None) (place_of chunk s) x.shows l.0 l.1 (tick s moment).sent (λ v each. tick_tells v (λ k is over. (let q : Some l.0 ≡ Some k = sym l.1 ∙ is in let same : l.0 ≡ k = cc in subst (Forwarded v) same each))) in
            let same : ticked moment (place_of chunk s) ≡ place_of chunk s = ap (λ b. with_lease (cond b (place_of chunk s).lease None) (place_of chunk s)) stands in
            from_follows c chunk w Calm s.me s.kept.epoch (place_of chunk s) (tick s moment).sent None (tick s moment).after f refl refl refl refl (tick_place ∙ same) x.buffers (none_in Calm c chunk f.moved.world s.me (tick s moment).sent tick_by tick_quiet)
