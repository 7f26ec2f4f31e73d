-- Of a chunk that isn't born a server keeps nothing, whatever happens, unless it hears of it.
use Rattle.std.proofs.Common.{◌≡◌, ℕ, ◌+◌, ◌≤◌, ⊎_elim, Bool, true, false, cond, List, [], ◌∷◌, Option, Some, None, refl, sym, ap, subst, ◌∙◌, arith}
use Rattle.std.specs.Prelude.{Result, Ok, Err, ◌==◌, ◌&&◌, Contains}
use Rattle.std.specs.List.{AllByRecursion}
use Rattle.std.specs.FinMap as fin
use Rattle.std.specs.Ordering.{nat_cmp}
use Rattle.std.proofs.lemmas.Bool.Decides.{nat_tests}
use Rattle.gs_base.specs.declared.numbers.Moment.{Moment}
use Rattle.gs_base.specs.declared.numbers.Stamp.{Stamp}
use Rattle.gs_base.specs.declared.refusal.Refusal.{Refusal}
use Rattle.gs_base.specs.declared.refusal.Refusal.TheVariants as refusals
use Rattle.gs_base.specs.declared.epoch.EpochEnd.{EpochEnd}
use Rattle.gs_base.specs.declared.epoch.EpochEnd.TheVariants.{Prepare, Finalize, Rollback}
use Rattle.gs_base.specs.Stamps.{is_same}
use Rattle.gs_msg.specs.declared.node.NodeId.{NodeId}
use Rattle.gs_msg.specs.declared.node.NodeId.TheVariants as nodes
use Rattle.gs_msg.specs.declared.message.Message.{Message}
use Rattle.gs_msg.specs.declared.body.Body.{Body}
use Rattle.gs_msg.specs.declared.body.Body.TheVariants as bodies
use Rattle.gs_msg.specs.declared.body.Reported.{Reported}
use Rattle.gs_msg.specs.declared.chunk.Chunk.{Chunk}
use Rattle.gs_store.specs.Moves as moves
use Rattle.gs_store.specs.Slots.{Slot, nothing, lose, damage}
use Rattle.gs_store.specs.Learning.{is_named, is_sound, start_of}
use Rattle.gs_store.specs.Stores.{Store, slot_of, with_slot, put_slot}
use Rattle.gs_store.specs.Stores as stores
use Rattle.gs_store.proofs.StoreLaws.{other_slot, slot_goes}
use Rattle.gs_server_lease.specs.Leases as primary
use Rattle.gs_server_lease.specs.Leases.{tell, is_over, reminds}
use Rattle.gs_server.specs.Places.{Place, Here, Part, LeaseStays, marked_by, damaged_block, tells_bad, empty_place, other_epoch, promising}
use Rattle.gs_server.specs.Promises.{promised, not_copied, copies, or_copy}
use Rattle.gs_server.specs.Lifts as lifts
use Rattle.gs_server.specs.Lifts.{ticked, with_lease}
use Rattle.gs_server.specs.Servers.{Server, place_of, here_of, request_in, store_of, with_store, with_leases, changed_by, about_chunk, leases_after, named_at, learned, learn, restart, in_store, beat, stands_at, tick}
use Rattle.gs_server.specs.Servers as servers
use Rattle.gs_server.specs.Runs.{Loses, Damages, behind, slot_in, unless_refused}
use Rattle.gs_laws_chunk.specs.machine.Machine.{Known, ChunkWorld}
use Rattle.gs_laws_chunk.specs.machine.Events.{born, no_member}
use Rattle.gs_replica.specs.Stands.{Edit}
use Rattle.gs_laws_parts.specs.server.Showing.{Setting, ShowsPlace, ShowsMember}
use Rattle.gs_laws_parts.specs.server.Messages.{TellsEpochTo, ReportsIt, NamesIt}
use Rattle.gs_laws_parts.specs.server.Telling.{ReportsAll, NamesAll, TellsBody, ServersTell}
use Rattle.gs_laws_parts.specs.server.Unborn.{KeepsNothing, SaysNothing, StaysUnborn, IsTimely}
use Rattle.gs_laws_parts.proofs.lemmas.server.Lists.{cons_cases, nil_contains, all_flat}
use Rattle.gs_laws_parts.proofs.lemmas.server.Entries.{found_each, names_all, reports_all}
use Rattle.gs_laws_parts.proofs.lemmas.server.Elsewhere.{IsOf, chunk_says, reminds_sent}
use Rattle.gs_laws_parts.proofs.lemmas.server.Steps.{other_place}

abbrev AllNothing : ℕ → List Message → Type 0
AllNothing chunk sent = AllByRecursion (λ (m : Message). SaysNothing chunk m.body) sent

-- what is about another chunk
other_body : (chunk handle : ℕ) (answers : Bool) (body : Body) → (handle ≡ chunk → ⊥) → IsOf answers handle body → SaysNothing chunk body
other_body chunk handle answers (bodies.About other said) apart is = λ same. elim (apart (sym is.0 ∙ same)) [ ]
other_body chunk handle answers (bodies.Push req bytes) apart is = tt
other_body chunk handle answers (bodies.Report epoch replicas) apart is = elim is [ ]
other_body chunk handle answers (bodies.Learned epoch handles) apart is = elim is [ ]
other_body chunk handle answers (bodies.Epoch epoch end) apart is = tt
other_body chunk handle answers (bodies.MakeCopy old at new stamp) apart is = elim is [ ]
other_body chunk handle answers (bodies.Call req call) apart is = tt
other_body chunk handle answers (bodies.Reply req result) apart is = tt
other_body chunk handle answers (bodies.Done req result) apart is = tt
other_body chunk handle answers (bodies.Bytes req result) apart is = tt
other_body chunk handle answers (bodies.Behind epoch) apart is = tt

other_sent : (chunk handle : ℕ) (answers : Bool) (sent : List Message) → (handle ≡ chunk → ⊥) → AllByRecursion (λ (m : Message). IsOf answers handle m.body) sent → AllNothing chunk sent
other_sent chunk handle answers [] apart all = tt
other_sent chunk handle answers (m ∷ sent) apart all = (other_body chunk handle answers m.body apart all.0, other_sent chunk handle answers sent apart all.1)

not_eq : (a b : ℕ) → (b ≡ a → ⊥) → (a == b) ≡ false
not_eq a b apart = by_case (a == b) refl
  where
    same_of : (a == b) ≡ true → b ≡ a
    same_of is = grind (arith, nat_tests)

    by_case : (t : Bool) → (a == b) ≡ t → t ≡ false
    by_case true is = elim (apart (same_of is)) [ ]
    by_case false is = refl

some_none : {X : Type 0} (o : Option X) (x : X) → o ≡ None → o ≡ Some x → ⊥
some_none o x none some = (cc)

one_of_all : {X : Type 0} (P : X → Type 0) (xs : List X) (x : X) → AllByRecursion P xs → Contains xs x → P x
one_of_all P [] x all there = nil_contains x there
one_of_all P (y ∷ xs) x all there = ⊎_elim (λ same. subst P same all.0) (λ more. one_of_all P xs x all.1 more) (cons_cases y xs x there)

gone_nothing : (end : EpochEnd) (epoch : ℕ) → lifts.gone_on end epoch empty_place ≡ empty_place
gone_nothing Prepare epoch = refl
gone_nothing Finalize epoch = refl
gone_nothing Rollback epoch = refl

ticks_nothing : (moment : Moment) → ticked moment empty_place ≡ empty_place
ticks_nothing moment = refl

never_named : (epoch : ℕ) → is_named epoch nothing ≡ true → ⊥
never_named epoch named = by_case (is_same nothing.promise (start_of epoch)) named
  where
    by_case : (b : Bool) → (b && is_sound nothing.live) ≡ true → ⊥
    by_case true is = (cc)
    by_case false is = (cc)

module _ (chunk : ℕ) (s : Server) (none : KeepsNothing chunk s) where
  slot_none : slot_in chunk s ≡ nothing
  slot_none = ap (λ (p : Place). p.slot) none

  lease_none : fin.get s.dropped.leases chunk ≡ None
  lease_none = ap (λ (p : Place). p.lease) none

  unborn : (after : Server) (sent : List Message) → place_of chunk after ≡ place_of chunk s → AllNothing chunk sent → StaysUnborn chunk after sent
  unborn after sent same says = record { keeps = same ∙ none; says = says }

  -- ---- messages

  about_other : (from : NodeId) (handle : ℕ) (said : Chunk) (moment : Moment) → (handle ≡ chunk → ⊥) → StaysUnborn chunk (servers.handle_chunk s from handle said moment).after (servers.handle_chunk s from handle said moment).sent
  about_other from handle said moment apart =
      let h : Here = here_of s moment handle (request_in said) in
      let part : Part = about_chunk h (place_of handle s) from said in
      unborn (changed_by handle (request_in said) part s) part.sent (other_place handle chunk (request_in said) part s (not_eq chunk handle apart)) (other_sent chunk handle true part.sent apart (chunk_says h true (place_of handle s) from said (λ may. refl)))

  -- a copy of another chunk under another handle
  copies_other : (handle new_handle : ℕ) (at stamp : Stamp) (moment : Moment) → (handle ≡ chunk → ⊥) → (new_handle ≡ chunk → ⊥) → StaysUnborn chunk (servers.make_copy s handle at new_handle stamp moment).after (servers.make_copy s handle at new_handle stamp moment).sent
  copies_other handle new_handle at stamp moment apart new_apart = by_epoch (other_epoch (here_of s moment handle None) stamp.epoch)
    where
      bad_says : (o : Option ℕ) → AllNothing chunk (tells_bad (here_of s moment handle None) (slot_in handle s) o)
      bad_says None = tt
      bad_says (Some block) = (apart, tt)

      refused_so : (e : Refusal) → StaysUnborn chunk (servers.copies handle new_handle (not_copied (here_of s moment handle None) (place_of handle s) (here_of s moment new_handle None) stamp e) s).after (servers.copies handle new_handle (not_copied (here_of s moment handle None) (place_of handle s) (here_of s moment new_handle None) stamp e) s).sent
      refused_so e = record {
        keeps = other_place handle chunk None (record { slot = marked_by (damaged_block e); lease = LeaseStays; kept = None; used = false; sent = []; said = None }) s (not_eq chunk handle apart) ∙ none;
        says = (new_apart, bad_says (damaged_block e));
      }

      by_made : (r : Result Slot Refusal)
          → StaysUnborn chunk (servers.copies handle new_handle (copies (here_of s moment handle None) (place_of handle s) (here_of s moment new_handle None) (place_of new_handle s) stamp r) s).after (servers.copies handle new_handle (copies (here_of s moment handle None) (place_of handle s) (here_of s moment new_handle None) (place_of new_handle s) stamp r) s).sent
      by_made (Ok t) = record {
        keeps = other_place new_handle chunk None (promising t (place_of new_handle s) (promised (here_of s moment new_handle None) stamp t ∷ [])) s (not_eq chunk new_handle new_apart) ∙ none;
        says = (new_apart, tt);
      }
      by_made (Err e) = refused_so e

      by_epoch : (o : Option Refusal)
          → StaysUnborn chunk (servers.copies handle new_handle (or_copy o (not_copied (here_of s moment handle None) (place_of handle s) (here_of s moment new_handle None) stamp) (copies (here_of s moment handle None) (place_of handle s) (here_of s moment new_handle None) (place_of new_handle s) stamp (moves.make_copy at stamp (slot_in handle s) (slot_in new_handle s)))) s).after
          (servers.copies handle new_handle (or_copy o (not_copied (here_of s moment handle None) (place_of handle s) (here_of s moment new_handle None) stamp) (copies (here_of s moment handle None) (place_of handle s) (here_of s moment new_handle None) (place_of new_handle s) stamp (moves.make_copy at stamp (slot_in handle s) (slot_in new_handle s)))) s).sent
      by_epoch (Some e) = refused_so e
      by_epoch None = by_made (moves.make_copy at stamp (slot_in handle s) (slot_in new_handle s))

  -- the end of an epoch
  names_nothing : (epoch : ℕ) (end : EpochEnd) (t : Store) → slot_of chunk t ≡ nothing → AllByRecursion (λ (handle : ℕ). handle ≡ chunk → ⊥) (named_at end epoch t)
  names_nothing epoch Prepare t is = tt
  names_nothing epoch Finalize t is = tt
  names_nothing epoch Rollback t is = names_all epoch t (λ handle. handle ≡ chunk → ⊥) (λ handle named same. never_named epoch (subst (λ x. is_named epoch x ≡ true) (ap (λ k. slot_of k t) same ∙ is) named))

  gone_lease : (end : EpochEnd) → fin.get (leases_after end s.dropped.leases) chunk ≡ lifts.lease_at end (fin.get s.dropped.leases chunk)
  gone_lease Prepare = refl
  gone_lease Finalize = refl
  gone_lease Rollback = fin.get-empty nat_cmp chunk

  learns_on : (epoch : ℕ) (end : EpochEnd) → place_of chunk (with_leases (leases_after end s.dropped.leases) (with_store (stores.learned epoch end (store_of s)) s)) ≡ empty_place
  learns_on epoch end =
      let slot = slot_goes epoch end (store_of s) chunk in
      let lease = gone_lease end in
      let place : place_of chunk (with_leases (leases_after end s.dropped.leases) (with_store (stores.learned epoch end (store_of s)) s)) ≡ lifts.gone_on end epoch (place_of chunk s) = (λ i. record { slot = slot i; lease = lease i }) in
      place ∙ ap (lifts.gone_on end epoch) none ∙ gone_nothing end epoch

  learned_so : (epoch : ℕ) (end : EpochEnd) (after : Server) → place_of chunk after ≡ empty_place → StaysUnborn chunk (learned s epoch end after).after (learned s epoch end after).sent
  learned_so epoch end after is = record { keeps = is; says = (names_nothing epoch end (store_of after) (ap (λ (p : Place). p.slot) is), tt) }

  learns_so : (epoch : ℕ) (end : EpochEnd) → StaysUnborn chunk (learn s epoch end).after (learn s epoch end).sent
  learns_so epoch end = by_case (epoch == s.kept.epoch) (epoch == s.kept.epoch + 1)
    where
      by_case : (a b : Bool) → (let st : servers.Step = cond a (learned s epoch end s) (cond b (learned s epoch end (with_leases (leases_after end s.dropped.leases) (with_store (stores.learned epoch end (store_of s)) s))) (record { after = s; sent = tell s.me nodes.Master (bodies.Behind s.kept.epoch) ∷ []; said = Some (refusals.Epoch s.kept.epoch) })) in StaysUnborn chunk st.after st.sent)
      by_case true b = learned_so epoch end s none
      by_case false true = learned_so epoch end (with_leases (leases_after end s.dropped.leases) (with_store (stores.learned epoch end (store_of s)) s)) (learns_on epoch end)
      by_case false false = unborn s (tell s.me nodes.Master (bodies.Behind s.kept.epoch) ∷ []) refl (tt, tt)

  stray_so : StaysUnborn chunk s []
  stray_so = unborn s [] refl tt

  pub body_unborn : (from : NodeId) (body : Body) (moment : Moment) → SaysNothing chunk body → StaysUnborn chunk (servers.handle_body s from body moment).after (servers.handle_body s from body moment).sent
  body_unborn from (bodies.About handle said) moment says = about_other from handle said moment says
  body_unborn from (bodies.Push req bytes) moment says = unborn (servers.push s req bytes).after [] refl tt
  body_unborn from (bodies.MakeCopy handle at new_handle stamp) moment says = copies_other handle new_handle at stamp moment says.0 says.1
  body_unborn from (bodies.Epoch epoch end) moment says = learns_so epoch end
  body_unborn from (bodies.Call req call) moment says = stray_so
  body_unborn from (bodies.Reply req result) moment says = stray_so
  body_unborn from (bodies.Done req result) moment says = stray_so
  body_unborn from (bodies.Bytes req result) moment says = stray_so
  body_unborn from (bodies.Report epoch replicas) moment says = stray_so
  body_unborn from (bodies.Learned epoch handles) moment says = stray_so
  body_unborn from (bodies.Behind epoch) moment says = stray_so

  -- ---- without a message

  pub restart_unborn : StaysUnborn chunk (restart s) []
  restart_unborn = let lease = fin.get-empty nat_cmp chunk in let slot = slot_none in record { keeps = (λ i. record { slot = slot i; lease = lease i }); says = tt }

  pub beat_unborn : StaysUnborn chunk s (beat s ∷ [])
  beat_unborn = unborn s (beat s ∷ []) refl (
    reports_all (store_of s) (λ (r : Reported). r.handle ≡ chunk → ⊥) (λ handle l is same. some_none (slot_of handle (store_of s)).live l (ap (λ k. (slot_of k (store_of s)).live) same ∙ ap (λ (x : Slot). x.live) slot_none) is),
    tt,
  )

  pub tick_unborn : (moment : Moment) → StaysUnborn chunk (tick s moment).after (tick s moment).sent
  tick_unborn moment =
      let test = λ (handle : ℕ). stands_at moment (fin.get s.dropped.leases handle) in
      let place : place_of chunk (tick s moment).after ≡ ticked moment (place_of chunk s) = ap (λ l. with_lease l (place_of chunk s)) (fin.get-retain_keys s.dropped.leases test chunk (λ y e. ap test (sym (fin.nat_cmp-IsAntisymmetric chunk y e)))) in record {
        keeps = place ∙ ap (ticked moment) none ∙ ticks_nothing moment;
        says =
            all_flat (λ (m : Message). SaysNothing chunk m.body) (λ (e : ℕ × primary.PrimaryLease). cond (is_over moment e.1) [] (reminds s.me e.0 e.1)) (fin.entries s.dropped.leases)
            (λ e there. each e (is_over moment e.1) (fin.get-entries s.dropped.leases e.0 ∙ one_of_all (λ (y : ℕ × primary.PrimaryLease). fin.find nat_cmp y.0 (fin.entries s.dropped.leases) ≡ Some y.1) (fin.entries s.dropped.leases) e (found_each (fin.entries s.dropped.leases) (fin.entries_sorted s.dropped.leases)) there));
      }
    where
      each : (e : ℕ × primary.PrimaryLease) (over : Bool) → fin.get s.dropped.leases e.0 ≡ Some e.1 → AllNothing chunk (cond over [] (reminds s.me e.0 e.1))
      each e true got = tt
      each e false got = other_sent chunk e.0 false (reminds s.me e.0 e.1) (λ same. some_none (fin.get s.dropped.leases e.0) e.1 (ap (fin.get s.dropped.leases) same ∙ lease_none) got) (reminds_sent (here_of s moment e.0 None) false e.1 e.1.outbox)

  -- a call that changes a slot, and is refused where there is none
  call_unborn : (handle : ℕ) (r : Result Slot Refusal) → ((t : Slot) → r ≡ Ok t → handle ≡ chunk → ⊥) → StaysUnborn chunk (unless_refused s (in_store s (put_slot handle (store_of s) r))) []
  call_unborn handle (Ok t) never =
      let slot = other_slot handle chunk t (store_of s) (not_eq chunk handle (never t refl)) in
      unborn (with_store (with_slot handle t (store_of s)) s) [] (λ i. record { slot = slot i; lease = fin.get s.dropped.leases chunk }) tt
  call_unborn handle (Err e) never = stray_so

  never_lost : (t : Slot) → lose nothing ≡ Ok t → ⊥
  never_lost t is = (cc)

  never_damaged : (block : ℕ) (t : Slot) → damage block nothing ≡ Ok t → ⊥
  never_damaged block t is = (cc)

  pub lose_unborn : (handle : ℕ) → StaysUnborn chunk (behind (Loses handle) s) []
  lose_unborn handle = call_unborn handle (lose (slot_of handle (store_of s))) (λ t is same. never_lost t (subst (λ x. lose x ≡ Ok t) (ap (λ k. slot_of k (store_of s)) same ∙ slot_none) is))

  pub damage_unborn : (handle block : ℕ) → StaysUnborn chunk (behind (Damages handle block) s) []
  damage_unborn handle block = call_unborn handle (damage block (slot_of handle (store_of s))) (λ t is same. never_damaged block t (subst (λ x. damage block x ≡ Ok t) (ap (λ k. slot_of k (store_of s)) same ∙ slot_none) is))

-- ---- at the birth

born_place : (c : Setting) (k : Known) (epoch : ℕ) → epoch ≤ c.born → ShowsPlace c k epoch empty_place (no_member c.born)
born_place c k epoch within = record {
  epoch_is = λ late. omega arith;
  early = λ early. (refl, refl);
  promise = refl;
  carried = refl;
  live = refl;
  image = refl;
  taken = refl;
  lease = tt;
  promised = λ none. absurd (cc);
  intact = λ none. absurd (cc);
}

pub born_shows : (c : Setting) (chunk : ℕ) (how : ℕ → EpochEnd) (origin : List Edit) (s : Server) → KeepsNothing chunk s → s.kept.epoch ≤ c.born → ShowsMember c chunk (born c.born how origin) s
born_shows c chunk how origin s none within =
    subst (λ p. ShowsPlace c (born c.born how origin).known s.kept.epoch p (no_member c.born)) (sym none) (born_place c (born c.born how origin).known s.kept.epoch within)

-- what says nothing of the chunk tells nothing in any world
module _ (c : Setting) (chunk : ℕ) (w : ChunkWorld) where
  reports_none : (from epoch : ℕ) (replicas : List Reported) → AllByRecursion (λ (r : Reported). r.handle ≡ chunk → ⊥) replicas → AllByRecursion (ReportsIt chunk w from epoch) replicas
  reports_none from epoch [] all = tt
  reports_none from epoch (r ∷ replicas) all = ((λ same. elim (all.0 same) [ ]), reports_none from epoch replicas all.1)

  names_none : (from epoch : ℕ) (handles : List ℕ) → AllByRecursion (λ (handle : ℕ). handle ≡ chunk → ⊥) handles → AllByRecursion (NamesIt chunk w from epoch) handles
  names_none from epoch [] all = tt
  names_none from epoch (handle ∷ handles) all = ((λ same. elim (all.0 same) [ ]), names_none from epoch handles all.1)

  all_reports : (from : NodeId) (epoch : ℕ) (replicas : List Reported) → AllByRecursion (λ (r : Reported). r.handle ≡ chunk → ⊥) replicas → ReportsAll chunk w from epoch replicas
  all_reports (nodes.Server from) epoch replicas all = reports_none from epoch replicas all
  all_reports nodes.Master epoch replicas all = tt
  all_reports (nodes.Client client) epoch replicas all = tt

  all_names : (from : NodeId) (epoch : ℕ) (handles : List ℕ) → AllByRecursion (λ (handle : ℕ). handle ≡ chunk → ⊥) handles → NamesAll chunk w from epoch handles
  all_names (nodes.Server from) epoch handles all = names_none from epoch handles all
  all_names nodes.Master epoch handles all = tt
  all_names (nodes.Client client) epoch handles all = tt

  epoch_told : (to : NodeId) (epoch : ℕ) (end : EpochEnd) → epoch ≤ c.born → TellsEpochTo c.born w to epoch end
  epoch_told (nodes.Server to) epoch end within = λ late. absurd (omega arith)
  epoch_told nodes.Master epoch end within = tt
  epoch_told (nodes.Client client) epoch end within = tt

  body_nothing : (from to : NodeId) (body : Body) → SaysNothing chunk body → IsTimely c body → TellsBody c chunk w from to body
  body_nothing from to (bodies.About handle said) says timely = λ same. elim (says same) [ ]
  body_nothing from to (bodies.Push req bytes) says timely = timely
  body_nothing from to (bodies.Report epoch replicas) says timely = all_reports from epoch replicas says
  body_nothing from to (bodies.Learned epoch handles) says timely = all_names from epoch handles says
  body_nothing from to (bodies.Epoch epoch end) says timely = epoch_told to epoch end timely
  body_nothing from to (bodies.MakeCopy handle at new_handle stamp) says timely = tt
  body_nothing from to (bodies.Call req call) says timely = tt
  body_nothing from to (bodies.Reply req result) says timely = tt
  body_nothing from to (bodies.Done req result) says timely = tt
  body_nothing from to (bodies.Bytes req result) says timely = tt
  body_nothing from to (bodies.Behind epoch) says timely = tt

  pub nothing_tells : (m : Message) → SaysNothing chunk m.body → IsTimely c m.body → ServersTell c chunk w m
  nothing_tells m says timely = body_nothing m.from m.to m.body says timely
