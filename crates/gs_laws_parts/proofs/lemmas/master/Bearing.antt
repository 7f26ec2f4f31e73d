-- A new chunk: its machine is born, a stamp is proposed, and the first servers are told.
use Rattle.std.proofs.Common.{◌≡◌, ℕ, zero, suc, ◌+◌, ◌-◌, ◌<◌, ◌≤◌, ◌⊎◌, inl, inr, Bool, true, false, not, ◌&&◌, ◌||◌, List, [], ◌∷◌, ◌++◌, length, Option, Some, None, refl, sym, ap, subst, ◌∙◌, arith}
use Rattle.std.specs.Prelude.{◌==◌, ◌/◌, ◌%◌, is_some, option_and_then, replicate, slice_get, unwrap_or, if◌then◌else◌}
use Rattle.std.specs.FinMap as fin
use Rattle.std.specs.List.{AllByRecursion}
use Rattle.std.proofs.lemmas.Bool.{eqb-true, false≢true, true≢false, and_parts}
use Rattle.std.proofs.lemmas.Bool.Decides.{nat_tests}
use Rattle.std.proofs.lemmas.List.Elements.{Contains-append_left}
use Rattle.std.proofs.lemmas.Option.{slice_get_within}
use Rattle.gs_base.specs.Members.{is_member}
use Rattle.gs_base.specs.Numbers.{last_number}
use Rattle.gs_base.specs.Told.{IsNumber}
use Rattle.gs_base.specs.declared.epoch.EpochEnd.{EpochEnd}
use Rattle.gs_base.specs.declared.epoch.EpochEnd.TheVariants as ends
use Rattle.gs_base.specs.declared.numbers.ReqId.{ReqId}
use Rattle.gs_base.specs.declared.numbers.Stamp.{Stamp}
use Rattle.gs_lease.specs.declared.view.Purpose.TheVariants as purposes
use Rattle.gs_msg.specs.declared.body.Body.TheVariants as bodies
use Rattle.gs_msg.specs.declared.chunk.Chunk.TheVariants as abouts
use Rattle.gs_msg.specs.declared.message.Message.{Message}
use Rattle.gs_msg.specs.declared.node.NodeId.TheVariants as nodes
use Rattle.gs_master_record.specs.Plain.{Propose}
use Rattle.gs_master_record.specs.declared.checkpoint.Phase.{Phase}
use Rattle.gs_master_record.specs.declared.checkpoint.Phase.TheVariants.{Ordinary, Upgrade, Rolling}
use Rattle.gs_replica.specs.Stands.{Edit}
use Rattle.gs_master_spec.specs.Applied.{applied, is_fresh, may_propose, proposed, with_proposal}
use Rattle.gs_master_spec.specs.Beginning.{next_stamp}
use Rattle.gs_master_spec.specs.Chunks.{asking_for, has_entry, is_any_in}
use Rattle.gs_master_spec.specs.Durable.{Durable, after_number, is_given, is_listed, is_rolling, is_upgrade, prepared_of, prepared_view, upgrade_epoch}
use Rattle.gs_master_spec.specs.State.{State, about, post, to_each}
use Rattle.gs_master_spec.specs.Volatile.{servers_or_none}
use Rattle.gs_master_spec.specs.Whole.{is_phase_behind}
use Rattle.gs_master_spec.specs.declared.asking.Asking.{Asking}
use Rattle.gs_master_spec.specs.declared.asking.Prepared.{Prepared}
use Rattle.gs_view.specs.Choice.{answer_of}
use Rattle.gs_view.specs.Spoken.{no_answers}
use Rattle.gs_laws_master.specs.Promises.{IsKept}
use Rattle.gs_laws_master.proofs.lemmas.upgrades.Beginnings.{fits_gives}
use Rattle.gs_laws_moves.proofs.lemmas.moves.Asked.{asking_is, got}
use Rattle.gs_laws_moves.proofs.lemmas.moves.Right.{one_fits}
use Rattle.gs_laws_moves.proofs.lemmas.moves.Upgrades.{ends_counted}
use Rattle.gs_laws_moves.specs.moves.Asked.{IsAskedFor, IsAskedSo}
use Rattle.gs_laws_moves.specs.moves.Moves.{Alone, Copies, FromNow, Further, Makes, move_turn}
use Rattle.gs_laws_chunk.specs.machine.Stamps.{epoch_of, radix, start_of, stamp_at}
use Rattle.gs_laws_chunk.specs.machine.Numbering.{IsBehind}
use Rattle.gs_laws_chunk.proofs.lemmas.machine.Numbering.{stays_behind}
use Rattle.gs_laws_chunk.specs.machine.Laws.{Birth, IsNumbered, world_of}
use Rattle.gs_laws_chunk.specs.machine.Mastering.{AreOfMaster}
use Rattle.gs_laws_chunk.specs.machine.Machine.{Entry, Message as Said, ChunkWorld, WasTold, CopyIn, Create}
use Rattle.gs_laws_chunk.specs.machine.Events.{AsksFirst, Can, Goes, Leads, Proposes, Rests, born, happens, sends}
use Rattle.gs_laws_parts.proofs.lemmas.master.Proposing.{fresh_some, given_now, its_epoch, its_version, number_of, still_number}
use Rattle.gs_laws_parts.proofs.lemmas.master.Sending.{IsLed, Stays, leads_on, masters_on, told_now}
use Rattle.gs_laws_parts.proofs.lemmas.master.Stamps.{number_at}
use Rattle.gs_laws_parts.specs.master.Births.{Anything, Brings, CopiesAreBirths, IsBorn, IsBornOn, MakesAreBirths, ProposalsAreBirths}
use Rattle.gs_laws_parts.specs.master.Showing.{IsPast, ShowsDurable, ShowsEntry}
use Rattle.gs_laws_parts.specs.master.Telling.{Says, Shows, MastersTell}

-- how each epoch began
how_by : List EpochEnd → ℕ → EpochEnd
how_by all m = unwrap_or (slice_get all (m - 1)) ends.Finalize

how_is : (all : List EpochEnd) (n : ℕ) (end : EpochEnd) → slice_get all n ≡ Some end → how_by all (n + 1) ≡ end
unfolding how_by
how_is all n end has = (let at : n + 1 - 1 ≡ n = omega arith in ap (λ i. unwrap_or (slice_get all i) ends.Finalize) at ∙ ap (λ o. unwrap_or o ends.Finalize) has)

begun_by : (o : Option EpochEnd) (phase : Phase) → is_upgrade phase ≡ true → is_phase_behind o phase ≡ true → unwrap_or o ends.Finalize ≡ ends.Prepare
begun_by o Ordinary up h = absurd (false≢true up)
begun_by o Rolling up h = absurd (false≢true up)
begun_by None Upgrade up h = absurd (false≢true h)
begun_by (Some ends.Prepare) Upgrade up h = refl
begun_by (Some ends.Finalize) Upgrade up h = absurd (false≢true h)
begun_by (Some ends.Rollback) Upgrade up h = absurd (false≢true h)

-- ---- what is durable

module _ (d next : Durable) (origin : List Edit) (numbered : IsNumbered origin) (kept : IsKept d) (counter : IsNumber d.next_version) (new : fin.get d.chunks d.next_handle ≡ None) (fit : applied d (Propose (d.next_handle) (d.next_version)) ≡ Some next) where
  abbrev chunk : ℕ
  chunk = d.next_handle

  abbrev birth : Birth
  birth = record { epoch = d.epoch; how = how_by d.ends; origin = origin; numbered = numbered }

  abbrev top : ℕ
  top = number_of d.epoch d.next_version

  abbrev begun : (ℕ → Bool) → ChunkWorld
  begun asked = happens (born d.epoch (how_by d.ends) origin) (Proposes top asked)

  may : (may_propose d.phase d.next_handle d.next_version chunk d.next_version (fin.get d.chunks chunk) ≡ true) × (proposed d chunk d.next_version ≡ next)
  unfolding applied
  may = fits_gives (may_propose d.phase d.next_handle d.next_version chunk d.next_version (fin.get d.chunks chunk)) (proposed d chunk d.next_version) next fit

  parts : (not (is_rolling d.phase) ≡ true) × (is_fresh d.next_version d.next_version ≡ true) × (is_fresh chunk chunk ≡ true)
  parts =
      let first = and_parts (not (is_rolling d.phase)) (is_fresh d.next_version d.next_version && (is_some (fin.get d.chunks chunk) || is_fresh d.next_handle chunk)) may.0 in
      let second = and_parts (is_fresh d.next_version d.next_version) (is_some (fin.get d.chunks chunk) || is_fresh d.next_handle chunk) first.1 in
      (first.0, second.0, ap (λ b. b || is_fresh chunk chunk) (sym (ap is_some new)) ∙ second.1)

  unrolled : is_rolling d.phase ≡ false
  unrolled = by_rolling (is_rolling d.phase) parts.0
    where
      by_rolling : (b : Bool) → not b ≡ true → b ≡ false
      by_rolling true h = absurd (false≢true h)
      by_rolling false h = refl

  ungiven : is_given d.next_handle chunk ≡ false
  ungiven = not_itself d.next_handle
    where
      not_itself : (n : ℕ) → is_given n n ≡ false
      not_itself n = grind (arith, nat_tests)

  unprepared : prepared_view d chunk ≡ None
  unprepared = by_kept (fin.get d.prepared chunk) refl
    where
      by_upgrade : (u : Option ℕ) → prepared_of u None None ≡ None
      by_upgrade None = refl
      by_upgrade (Some upgrade) = refl

      by_kept : (o : Option Prepared) → fin.get d.prepared chunk ≡ o → prepared_of (upgrade_epoch d.phase d.epoch) o (fin.get d.chunks chunk) ≡ None
      by_kept None is = ap (prepared_of (upgrade_epoch d.phase d.epoch) None) new ∙ by_upgrade (upgrade_epoch d.phase d.epoch)
      by_kept (Some p) is = absurd (false≢true (sym ungiven ∙ (kept.prepared chunk p is).0))

  counted : length d.ends ≡ d.epoch
  counted = ends_counted d kept

  upgrade_begun : is_upgrade d.phase ≡ true → how_by d.ends d.epoch ≡ ends.Prepare
  unfolding how_by
  upgrade_begun up =
      let first = and_parts (length d.ends == d.epoch) _ kept.ends in
      let second = and_parts _ (is_phase_behind (slice_get d.ends (length d.ends - 1)) d.phase) first.1 in
      begun_by (slice_get d.ends (d.epoch - 1)) d.phase up (ap (λ n. is_phase_behind (slice_get d.ends (n - 1)) d.phase) (sym counted) ∙ second.1)

  given : is_given (proposed d chunk d.next_version).next_handle chunk ≡ true
  given = ap (λ b. is_given (if b then after_number chunk else d.next_handle) chunk) parts.2 ∙ given_now chunk (fresh_some chunk parts.2)

  chunks_same : with_proposal d chunk (fin.get d.chunks chunk) ≡ d.chunks
  chunks_same = ap (with_proposal d chunk) new

  above_start : start_of d.epoch < top
  unfolding start_of
  above_start = (let some = fresh_some d.next_version parts.1 in omega arith)

  proposal_shows : (asked : ℕ → Bool) → ShowsDurable chunk (proposed d chunk d.next_version) (begun asked).entry
  proposal_shows asked = record {
    epoch = refl;
    how = λ n end is. (let less = slice_get_within d.ends n end is in let c = counted in (omega arith, how_is d.ends n end is));
    upgrade = upgrade_begun;
    rolling = sym unrolled;
    given = given;
    counter = still_number d.next_version counter;
    behind = (let a = above_start in omega arith);
    past = record {
      epoch = subst (λ n. n ≤ d.epoch) (sym (its_epoch d.epoch d.next_version counter)) (omega arith);
      given = inr (subst (λ n. is_given (after_number d.next_version) n ≡ true) (sym (its_version d.epoch d.next_version counter)) (given_now d.next_version (fresh_some d.next_version parts.1)));
    };
    settled = λ x has. absurd (false≢true (sym (ap is_some unsettled) ∙ ap is_some has));
    bare = λ known none. record { members = refl; holder = refl };
    listed = λ listed. refl;
    was = λ p is. absurd (false≢true (sym (ap is_some no_view) ∙ ap is_some is));
    prepared = λ p is. absurd (false≢true (sym (ap is_some no_view) ∙ ap is_some is));
    restores = λ names stands is there. absurd (false≢true (sym (ap is_some unprepared) ∙ kept.restored names chunk is stands there));
  }
    where
      unsettled : fin.get (proposed d chunk d.next_version).chunks chunk ≡ None
      unsettled = ap (λ m. fin.get m chunk) chunks_same ∙ new

      no_view : prepared_view (proposed d chunk d.next_version) chunk ≡ None
      no_view = ap (λ m. prepared_of (upgrade_epoch d.phase d.epoch) (fin.get d.prepared chunk) (fin.get m chunk)) chunks_same ∙ unprepared

  shows_next : (asked : ℕ → Bool) → ShowsDurable chunk next (begun asked).entry
  shows_next asked = subst (λ n. ShowsDurable chunk n (begun asked).entry) may.1 (proposal_shows asked)

  may_propose_it : (asked : ℕ → Bool) → Can (world_of birth) (Proposes top asked)
  unfolding start_of
  may_propose_it asked = (refl, refl, its_epoch d.epoch d.next_version counter, above_start, above_start)

  begun_leads : (asked : ℕ → Bool) → Leads (world_of birth) (begun asked)
  begun_leads asked = Goes (world_of birth) (Proposes top asked) Rests (may_propose_it asked)

  begun_masters : (asked : ℕ → Bool) → AreOfMaster (world_of birth) (begun asked) (begun_leads asked)
  unfolding begun_leads
  begun_masters asked = (tt, refl)

  -- what was given is below the stamp of the first view
  given_below : (n version : ℕ) → IsNumber version → 0 < version → n < radix → is_given (after_number version) n ≡ true → n ≤ version
  given_below n version number some small given = by_last (version == last_number) given refl
    where
      by_last : (b : Bool) → is_given (if b then 0 else version + 1) n ≡ true → (version == last_number) ≡ b → n ≤ version
      by_last true given is = grind (arith, nat_tests)
      by_last false given is = grind (arith, nat_tests)

  below_first : (n : ℕ) → IsPast next n → n ≤ top
  unfolding epoch_of
  below_first n past = by_way past.given
    where
      epoch : n / radix ≤ d.epoch
      epoch = subst (λ m. epoch_of n ≤ m) (ap (λ (x : Durable). x.epoch) (sym may.1)) past.epoch

      by_way : ((n % radix ≡ 0) ⊎ (is_given next.next_version (n % radix) ≡ true)) → n ≤ top
      by_way (inl none) = let e = epoch in omega arith
      by_way (inr has) =
          let small = given_below (n % radix) d.next_version counter (fresh_some d.next_version parts.1) (omega arith) (ap (λ m. is_given m (n % radix)) (ap (λ (x : Durable). x.next_version) may.1) ∙ has) in
          let e = epoch in omega arith

  fresh_begun : (asked : ℕ → Bool) (n : ℕ) → IsPast next n → IsBehind n (begun asked).known
  fresh_begun asked n past = record {
    stood = λ t late stood.
        let after : start_of d.epoch < t = late in
        let same : t ≡ start_of d.epoch = eqb-true t (start_of d.epoch) stood in absurd (omega arith);
    top = below_first n past;
  }

  pub born_on : IsBornOn chunk origin next
  born_on = record {
    birth = birth;
    begins = refl;
    now = sym (ap (λ (x : Durable). x.epoch) (sym may.1));
    world = begun (λ j. false);
    leads = begun_leads (λ j. false);
    masters = begun_masters (λ j. false);
    members = λ j. refl;
    shows = shows_next (λ j. false);
  }

pub proposals_are_births : ProposalsAreBirths
proposals_are_births d next origin numbered kept counter new fit = born_on d next origin numbered kept counter new fit

-- ---- what the first servers are told

abbrev first_told : Bool → ChunkWorld → Said
first_told false w = Create w.entry.top
first_told true w = CopyIn w.entry.top (w.known.list w.entry.view.stamp) None

record FirstSent (copy : Bool) (targets : List ℕ) (w : ChunkWorld) : Type 0 where
  world : ChunkWorld
  leads : Leads w world
  masters : AreOfMaster w world leads
  entry : world.entry ≡ w.entry
  members : world.members ≡ w.members
  stays : Stays w world
  told : AllByRecursion (λ j. WasTold world j (first_told copy w)) targets

all_first : (copy : Bool) (targets : List ℕ) (w : ChunkWorld) → w.entry.view.stamp < w.entry.top → w.entry.view.members ≡ [] → (copy ≡ false → w.known.list w.entry.view.stamp ≡ []) → FirstSent copy targets w
all_first copy [] w moving bare list = record { world = w; leads = Rests; masters = tt; entry = refl; members = refl; stays = λ x here. here; told = tt }
all_first copy (j ∷ targets) w moving bare list =
    let one = sends w j (first_told copy w) in
    let more = all_first copy targets one moving bare list in
    record {
      world = more.world;
      leads = leads_on w one more.world (leads_one copy refl).leads more.leads;
      masters = masters_on w one more.world (leads_one copy refl).leads more.leads (leads_one copy refl).masters more.masters;
      entry = more.entry;
      members = more.members;
      stays = λ x here. more.stays x (Contains-append_left w.sent (record { server = j; body = first_told copy w } ∷ []) x here);
      told = (more.stays (record { server = j; body = first_told copy w }) (told_now w j (first_told copy w)), subst (λ m. AllByRecursion (λ i. WasTold more.world i m) targets) (same copy) more.told);
    }
  where
    leads_one : (c : Bool) → copy ≡ c → IsLed w (sends w j (first_told copy w))
    leads_one false c = subst (λ x. IsLed w (sends w j (first_told x w))) (sym c) (record { leads = Goes w (AsksFirst j false) Rests (moving, bare, λ f. list c); masters = (tt, refl) })
    leads_one true c = subst (λ x. IsLed w (sends w j (first_told x w))) (sym c) (record { leads = Goes w (AsksFirst j true) Rests (moving, bare, λ f. absurd (true≢false f)); masters = (tt, refl) })

    same : (x : Bool) → first_told x (sends w j (first_told copy w)) ≡ first_told x w
    same false = refl
    same true = refl

-- ---- the state

none_replicated : (n i count : ℕ) → option_and_then (λ (a : Option ℕ). a) (slice_get (replicate n None) i) ≡ Some count → ⊥
none_replicated zero i count k = false≢true (ap is_some k)
none_replicated (suc n) zero count k = false≢true (ap is_some k)
none_replicated (suc n) (suc i) count k = none_replicated n i count k

nobody_answers : (server count : ℕ) → answer_of no_answers.counts server ≡ Some count → ⊥
nobody_answers server count e = none_replicated 16 server count e

pub entered : (xs : List ℕ) (q : ℕ) → is_member (xs ++ q ∷ []) q ≡ true
entered [] q = ap (λ b. b || false) (itself q)
  where
    itself : (n : ℕ) → (n == n) ≡ true
    itself n = grind (arith, nat_tests)
entered (x ∷ xs) q = either (x == q) (entered xs q)
  where
    either : (b : Bool) → is_member (xs ++ q ∷ []) q ≡ true → (b || is_member (xs ++ q ∷ []) q) ≡ true
    either true h = refl
    either false h = h

module _ (s u : State) (origin : List Edit) (numbered : IsNumbered origin) (kept : IsKept s.durable) (counter : IsNumber s.durable.next_version) (free : IsAskedSo Anything s s.durable.next_handle) (new : fin.get s.durable.chunks s.durable.next_handle ≡ None)
    (targets : List ℕ) (req : ReqId) (fit : applied s.durable (Propose (s.durable.next_handle) (s.durable.next_version)) ≡ Some u.durable) where
  abbrev it : ℕ
  it = s.durable.next_handle

  abbrev asking : Asking
  asking = asking_for (next_stamp s.durable) purposes.Quiet targets (Some req)

  -- it is new, and asked for
  record IsEntered : Type 0 where
    moving : u.volatile.moving ≡ fin.insert s.volatile.moving it asking
    unplaced : u.volatile.unplaced ≡ s.volatile.unplaced ++ it ∷ []
    restored : u.volatile.restored ≡ s.volatile.restored

  abbrev asked : ℕ → Bool
  asked j = is_any_in j (Some asking)

  abbrev first : ChunkWorld
  first = begun s.durable u.durable origin numbered kept counter new fit asked

  abbrev number : ℕ
  number = number_of s.durable.epoch s.durable.next_version

  stamp_is : next_stamp s.durable ≡ stamp_at number
  stamp_is = sym (number_at s.durable.epoch s.durable.next_version counter)

  moved : start_of s.durable.epoch < number
  moved = above_start s.durable u.durable origin numbered kept counter new fit

  unsettled : fin.get u.durable.chunks it ≡ None
  unsettled =
      ap (λ (x : Durable). fin.get x.chunks it) (sym (may s.durable u.durable origin numbered kept counter new fit).1) ∙ ap (λ m. fin.get m it) (chunks_same s.durable u.durable origin numbered kept counter new fit) ∙ new

  first_shows : (v : ChunkWorld) → v.entry ≡ first.entry → IsEntered → Shows it u v
  first_shows v same e = record {
    entry = subst (ShowsEntry it u) (sym same) (record {
      durable = shows_next s.durable u.durable origin numbered kept counter new fit asked;
      memory = record {
        known = sym known;
        asked = λ j. sym (ap (is_any_in j) has);
        asking = λ a is. (ap (λ (x : Asking). x.stamp) (asking_is (sym is ∙ has)) ∙ stamp_is, moved, refl);
        sought = λ entry none. ap is_some has;
      };
    });
    said = record {
      asked = λ a is. subst (IsAskedFor (Says it v) u it) (asking_is (sym has ∙ is)) (record {
        members = λ x settled. absurd (false≢true (sym (ap is_some unsettled) ∙ ap is_some settled));
        elsewhere = tt;
        answered = λ server count h. absurd (nobody_answers server count h);
        source = λ server h. absurd (false≢true (ap is_some h));
      });
      restored = λ server here. absurd (false≢true (sym (unrolled s.durable u.durable origin numbered kept counter new fit) ∙ (free.restored server (ap (λ m. is_member (servers_or_none (fin.get m it)) server) (sym e.restored) ∙ here)).rolling));
    };
  }
    where
      has : fin.get u.volatile.moving it ≡ Some asking
      has = ap (λ m. fin.get m it) e.moving ∙ got s.volatile.moving it asking

      or_right : (a b : Bool) → b ≡ true → (a || b) ≡ true
      or_right true b h = refl
      or_right false b h = h

      known : has_entry u it ≡ true
      known = or_right (is_listed u.durable it) (is_member u.volatile.unplaced it) (ap (λ xs. is_member xs it) e.unplaced ∙ entered s.volatile.unplaced it)

  -- the messages that make it
  creates_tell : (v : ChunkWorld) (js : List ℕ) → AllByRecursion (λ j. WasTold v j (Create number)) js → AllByRecursion (MastersTell s.durable.epoch it v) (to_each js (about it (abouts.Create (next_stamp s.durable)))) × AllByRecursion (Brings s.durable.epoch it origin v) (to_each js (about it (abouts.Create (next_stamp s.durable))))
  creates_tell v [] told = (tt, tt)
  creates_tell v (j ∷ js) told =
      let rest = creates_tell v js told.1 in
      ((λ same. (number, stamp_is, subst (λ n. s.durable.epoch ≤ n) (sym (its_epoch s.durable.epoch s.durable.next_version counter)) (omega arith), told.0), rest.0), (tt, rest.1))

  -- and those that copy it
  copies_tell : (v : ChunkWorld) (old : ℕ) (at : Stamp) (js : List ℕ) → AllByRecursion (λ j. WasTold v j (CopyIn number origin None)) js
      → let messages = to_each js (λ server. post (nodes.Server server) (bodies.MakeCopy old at it (next_stamp s.durable))) in AllByRecursion (MastersTell s.durable.epoch it v) messages × AllByRecursion (Brings s.durable.epoch it origin v) messages
  copies_tell v old at [] told = (tt, tt)
  copies_tell v old at (j ∷ js) told =
      let rest = copies_tell v old at js told.1 in
      ((tt, rest.0), (λ same. (number, stamp_is, subst (λ n. s.durable.epoch ≤ n) (sym (its_epoch s.durable.epoch s.durable.next_version counter)) (omega arith), told.0), rest.1))

  is_born : (copy : Bool) (messages : List Message) → (copy ≡ false → origin ≡ []) → IsEntered → ((v : ChunkWorld) → AllByRecursion (λ j. WasTold v j (first_told copy first)) targets → AllByRecursion (MastersTell s.durable.epoch it v) messages × AllByRecursion (Brings s.durable.epoch it origin v) messages)
      → IsBorn it origin u messages
  is_born copy messages list e tell = record {
    birth = birth s.durable u.durable origin numbered kept counter new fit;
    begins = refl;
    now = ap (λ (x : Durable). x.epoch) (may s.durable u.durable origin numbered kept counter new fit).1;
    world = sent.world;
    unled = ap (λ (x : Entry). x.view.holder) sent.entry;
    leads = leads_on (world_of (birth s.durable u.durable origin numbered kept counter new fit)) first sent.world (begun_leads s.durable u.durable origin numbered kept counter new fit asked) sent.leads;
    masters = masters_on (world_of (birth s.durable u.durable origin numbered kept counter new fit)) first sent.world (begun_leads s.durable u.durable origin numbered kept counter new fit asked) sent.leads (begun_masters s.durable u.durable origin numbered kept counter new fit asked) sent.masters;
    members = λ j. ap (λ ms. ms j) sent.members;
    shows = first_shows sent.world sent.entry e;
    fresh = λ n past. stays_behind first sent.world n (birth s.durable u.durable origin numbered kept counter new fit, begun_leads s.durable u.durable origin numbered kept counter new fit asked) sent.leads (fresh_begun s.durable u.durable origin numbered kept counter new fit asked n past);
    tells = (tell sent.world sent.told).0;
    brings = (tell sent.world sent.told).1;
  }
    where
      sent : FirstSent copy targets first
      sent = all_first copy targets first moved refl list

-- ---- the moves

no_edits : IsNumbered []
no_edits = record { rises = λ i j a b at. absurd (false≢true (ap is_some at)) }

pub makes_are_births : MakesAreBirths
makes_are_births config heard s targets req path counter free well =
    let u = (move_turn config s (Makes targets req path)).after in
    let fit = one_fits s.durable u.durable (Propose (s.durable.next_handle) (s.durable.next_version)) well.made.fits in
    is_born s u [] no_edits well.before counter free well.made.may.0 targets req fit false (move_turn config s (Makes targets req path)).sent (λ c. refl) (record { moving = refl; unplaced = refl; restored = refl })
    (λ v told. creates_tell s u [] no_edits well.before counter free well.made.may.0 targets req fit v targets told)

pub copies_are_births : CopiesAreBirths
copies_are_births config heard s old view req Alone origin numbered counter free well =
    let u = (move_turn config s (Copies old view req Alone)).after in
    let fit = one_fits s.durable u.durable (Propose (s.durable.next_handle) (s.durable.next_version)) well.made.fits in
    is_born s u origin numbered well.before counter free well.made.may.0.fresh view.members req fit true (move_turn config s (Copies old view req Alone)).sent (λ c. absurd (true≢false c)) (record { moving = refl; unplaced = refl; restored = refl })
    (λ v told. copies_tell s u origin numbered well.before counter free well.made.may.0.fresh view.members req fit v old view.stamp view.members told)
copies_are_births config heard s old view req (FromNow by waiting) origin numbered counter free well =
    let u = (move_turn config s (Copies old view req (FromNow by waiting))).after in
    let fit = one_fits s.durable u.durable (Propose (s.durable.next_handle) (s.durable.next_version)) well.made.fits in
    is_born s u origin numbered well.before counter free well.made.may.0.fresh view.members req fit true (move_turn config s (Copies old view req (FromNow by waiting))).sent (λ c. absurd (true≢false c)) (record { moving = refl; unplaced = refl; restored = refl })
    (λ v told. copies_tell s u origin numbered well.before counter free well.made.may.0.fresh view.members req fit v old view.stamp view.members told)
copies_are_births config heard s old view req (Further by waiting) origin numbered counter free well =
    let u = (move_turn config s (Copies old view req (Further by waiting))).after in
    let fit = one_fits s.durable u.durable (Propose (s.durable.next_handle) (s.durable.next_version)) well.made.fits in
    is_born s u origin numbered well.before counter free well.made.may.0.fresh view.members req fit true (move_turn config s (Copies old view req (Further by waiting))).sent (λ c. absurd (true≢false c)) (record { moving = refl; unplaced = refl; restored = refl })
    (λ v told. copies_tell s u origin numbered well.before counter free well.made.may.0.fresh view.members req fit v old view.stamp view.members told)
