-- A store that has begun new: no chunk is born.
use Rattle.std.proofs.Common.{if◌then◌else◌, ◌≡◌, ◌∙◌, ◌-◌, ◌==◌, ◌<◌, ◌≤◌, ℕ, zero, suc, Bool, true, false, List, [], ◌∷◌, length, replicate, Some, None, Ok, refl, sym, ap, subst, inl, inr, slice_get, arith, length-append}
use Rattle.std.specs.Prelude.{nat_lt, Contains}
use Rattle.std.specs.List.{AllByRecursion}
use Rattle.std.specs.FinMap as fin
use Rattle.std.specs.Ordering.{nat_cmp}
use Rattle.std.proofs.lemmas.Bool.{and_parts}
use Rattle.std.proofs.lemmas.Bool.Decides.{nat_tests}
use Rattle.gs_base.specs.declared.config.Config.{Config}
use Rattle.gs_base.specs.declared.numbers.ReqId.{ReqId}
use Rattle.gs_journal.specs.Records.{Text, fresh, standing}
use Rattle.gs_laws_master.specs.Promises.{IsKept}
use Rattle.gs_laws_master.specs.Standing.{AreCounters}
use Rattle.gs_laws_master.proofs.lemmas.standing.StandingRuns.{starts_firm}
use Rattle.gs_master.specs.Masters.{MasterOf}
use Rattle.gs_msg.specs.Posts.{message_at}
use Rattle.gs_msg.specs.declared.event.DiskId.{DiskId}
use Rattle.gs_msg.specs.declared.message.Message.{Message}
use Rattle.gs_msg.specs.declared.node.NodeId.{NodeId}
use Rattle.gs_msg.specs.declared.node.NodeId.TheVariants as ids
use Rattle.gs_msg.specs.declared.outbox.Post.{Post}
use Rattle.gs_server.specs.Servers.{Server}
use Rattle.gs_server.specs.Servers as servers
use Rattle.gs_master_spec.specs.Durable.{is_given, start}
use Rattle.gs_master_spec.specs.Handling.{restarted}
use Rattle.gs_master_spec.specs.State.{Log, State}
use Rattle.gs_store.specs.Stores.{or_nothing}
use Rattle.gs_nodes.specs.Happenings.{Opens}
use Rattle.gs_nodes.specs.Nodes.{Nodes, silent_servers}
use Rattle.gs_nodes.specs.declared.place.MasterPlace.{MasterPlace}
use Rattle.gs_nodes.specs.declared.place.MasterPlace.TheVariants.{Standing}
use Rattle.gs_world.specs.Histories.{Begins, History}
use Rattle.gs_laws_world.specs.lasting.Lasting.{IsToldIn, Lasts, OpensAs}
use Rattle.gs_laws_world.proofs.lemmas.lasting.Lasting.{begins_firm, opens_told}
use Rattle.gs_world.proofs.Reaching.{HaveSizes}
use Rattle.gs_world.specs.Sent.{message_in, none_sent, posts_of}
use Rattle.gs_laws_chunk.proofs.lemmas.machine.Lists.{at_push}
use Rattle.gs_laws_parts.specs.server.Unborn.{KeepsNothing}
use Rattle.gs_laws_parts.proofs.lemmas.server.Lists.{nil_contains}
use Rattle.gs_laws_parts.specs.master.Unborn as unborn
use Rattle.gs_laws_parts.proofs.lemmas.master.Unborn.{restarts_unborn}
use Rattle.gs_laws_parts.specs.server.Requests.{Asked}
use Rattle.gs_laws_lift.specs.stores.Telling.{AskedIn, NumberedIn, OwnIn}
use Rattle.gs_laws_lift.specs.stores.Going.{AllSent}
use Rattle.gs_laws_lift.specs.stores.Living.{CopiesTo, TextsOf}
use Rattle.gs_laws_lift.specs.stores.Showing.{IsServer, Keeps, Life}
use Rattle.gs_laws_lift.specs.stores.Unborn.{IsBefore, IsUnborn, IsUnknown}
use Rattle.gs_laws_lift.proofs.lemmas.stores.Posting.{posted_all}
use Rattle.gs_laws_lift.proofs.lemmas.stores.Reopening.{standing_is, started}

-- ---- servers that have heard nothing

silent_length : (config : Config) (many : ℕ) → length (silent_servers config many) ≡ many
silent_length config zero = refl
silent_length config (suc many) = let before = silent_length config many in omega (arith, length-append (silent_servers config many) (servers.new many config.block config.chunk ∷ []))

pub silent_at : (config : Config) (many id : ℕ) (s : Server) → slice_get (silent_servers config many) id ≡ Some s → s ≡ servers.new id config.block config.chunk
silent_at config zero id s found = absurd (cc)
silent_at config (suc many) id s found = elim (at_push (silent_servers config many) (servers.new many config.block config.chunk) id s found) [
  | inl before ↦ silent_at config many id s before
  | inr last ↦ sym last.1 ∙ ap (λ n. servers.new n config.block config.chunk) (sym (last.0 ∙ silent_length config many))
]

keeps_nothing : (chunk id block size : ℕ) → KeepsNothing chunk (servers.new id block size)
keeps_nothing chunk id block size =
    let slot = ap or_nothing (fin.get-empty nat_cmp chunk) in
    let lease = fin.get-empty nat_cmp chunk in
    λ i. record { slot = slot i; lease = lease i }

is_server : HaveSizes → (config : Config) (id : ℕ) → IsServer config id (servers.new id config.block config.chunk)
is_server sizes config id =
    let fit = sizes config.servers config.racks config.replicas config.block config.chunk config.valid in record {
      me = refl;
      block = refl;
      size = refl;
      reached = record { me = id; block = config.block; chunk = config.chunk; some_block = fit.0; block_fits = fit.1; chunk_fits = fit.2; events = []; is = refl };
    }

-- ---- nothing was sent

never_at : (place : ℕ) (m : Message) → message_at [] place ≡ Some m → ⊥
never_at zero m is = (cc)
never_at (suc place) m is = (cc)

abbrev none_yet : List Post
none_yet = []

never_in : (many id place : ℕ) (m : Message) → message_in (slice_get (replicate many none_yet) id) place ≡ Some m → ⊥
never_in zero zero place m is = (cc)
never_in zero (suc id) place m is = (cc)
never_in (suc many) zero place m is = never_at place m is
never_in (suc many) (suc id) place m is = never_in many id place m is

never_numbered : (nought : Bool) (many id place : ℕ) (m : Message) → message_in (if nought then None else slice_get (replicate many []) id) place ≡ Some m → ⊥
never_numbered true many id place m is = (cc)
never_numbered false many id place m is = never_in many id place m is

pub none_of : (P : Message → Type 0) (many clients : ℕ) → AllSent P (none_sent many clients)
none_of P many clients id m is = absurd (by_sender id.sender is)
  where
    by_sender : (by : NodeId) → message_in (posts_of (none_sent many clients) by) id.place ≡ Some m → ⊥
    by_sender ids.Master is = never_at id.place m is
    by_sender (ids.Server server) is = never_in many server id.place m is
    by_sender (ids.Client client) is = never_numbered (client.0 == 0) clients (client.0 - 1) id.place m is

-- ---- the master

pub not_given : (chunk : ℕ) → is_given 1 chunk ≡ false
not_given chunk = by_case (is_given 1 chunk) refl
  where
    by_case : (b : Bool) → is_given 1 chunk ≡ b → b ≡ false
    by_case false is = refl
    by_case true is =
        let parts = and_parts (nat_lt 0 chunk) (nat_lt chunk 1) is in
        let above = parts.0 in
        let below = parts.1 in
        let a : 0 < chunk = grind (arith, nat_tests) in
        let b : chunk < 1 = grind (arith, nat_tests) in
        absurd (omega arith)

no_log : Log
no_log = record { records = 0; size = 0; limit = 0; generation = 0 }

start_kept : IsKept start × AreCounters start
start_kept = let firm = starts_firm no_log in (firm.stands.kept, firm.stands.counters)

fresh_tells : IsToldIn fresh start
fresh_tells = record { entries = []; records = refl; are_entries = tt; replays = refl }

-- a new store's master stands with what it begins with
pub begins_told : {D : Type 0} (seen : D → List ℕ) (failures : D → ℕ) (armed : DiskId → ℕ → MasterPlace D → MasterPlace D) (config : Config) (clients : ℕ) (disks : D × D) (new : History D)
    → standing (seen disks.0) (seen disks.1) ≡ fresh → Begins seen failures armed config clients disks new → OpensAs seen start new.nodes.master
begins_told {D} seen failures armed config clients disks new none begun =
    subst (λ (n : Nodes D). OpensAs seen start n.master) (sym begun.nodes)
    (opens_told seen failures config disks.0 disks.1 start begun.turn begun.place start_kept.0 start_kept.1 (subst (λ (t : Text). IsToldIn t start) (sym none) fresh_tells) begun.opens)

-- it keeps nothing in memory
pub begins_restarted : {D : Type 0} (seen : D → List ℕ) (failures : D → ℕ) (armed : DiskId → ℕ → MasterPlace D → MasterPlace D) (config : Config) (clients : ℕ) (disks : D × D) (new : History D)
    → standing (seen disks.0) (seen disks.1) ≡ fresh → Begins seen failures armed config clients disks new → (log : Log) × (after : MasterOf D) × (new.nodes.master ≡ Standing after) × (after.state ≡ restarted start log)
begins_restarted {D} seen failures armed config clients disks new none begun = by_opening begun.opens
  where
    told : IsToldIn (standing (seen disks.0) (seen disks.1)) start
    told = subst (λ (t : Text). IsToldIn t start) (sym none) fresh_tells

    by_opening : (opens : Opens seen failures config disks (Ok begun.turn) begun.place) → (log : Log) × (after : MasterOf D) × (new.nodes.master ≡ Standing after) × (after.state ≡ restarted start log)
    by_opening (after, is, opened, said) =
        let found : OpensAs seen start begun.place = opens_told seen failures config disks.0 disks.1 start begun.turn begun.place start_kept.0 start_kept.1 told (after, is, opened, said) in
        let same = standing_is found.0 after (sym found.1 ∙ is) in
        let x = started seen failures config disks.0 disks.1 start after begun.turn.sent.items told (subst (λ (m : MasterOf D). m.state.durable ≡ start) same (ap (λ (s : State). s.durable) found.2)) opened in
        (x.log, after, ap (λ (n : Nodes D). n.master) begun.nodes ∙ is, x.state)

-- and it has said nothing then
pub begins_silent : {D : Type 0} (seen : D → List ℕ) (failures : D → ℕ) (armed : DiskId → ℕ → MasterPlace D → MasterPlace D) (config : Config) (clients : ℕ) (disks : D × D) (new : History D)
    → standing (seen disks.0) (seen disks.1) ≡ fresh → (begun : Begins seen failures armed config clients disks new) → begun.turn.sent.items ≡ []
begins_silent {D} seen failures armed config clients disks new none begun = by_opening begun.opens
  where
    told : IsToldIn (standing (seen disks.0) (seen disks.1)) start
    told = subst (λ (t : Text). IsToldIn t start) (sym none) fresh_tells

    by_opening : (opens : Opens seen failures config disks (Ok begun.turn) begun.place) → begun.turn.sent.items ≡ []
    by_opening (after, is, opened, said) =
        let found : OpensAs seen start begun.place = opens_told seen failures config disks.0 disks.1 start begun.turn begun.place start_kept.0 start_kept.1 told (after, is, opened, said) in
        let same = standing_is found.0 after (sym found.1 ∙ is) in
        let x = started seen failures config disks.0 disks.1 start after begun.turn.sent.items told (subst (λ (m : MasterOf D). m.state.durable ≡ start) same (ap (λ (s : State). s.durable) found.2)) opened in
        x.sends

module _ {D : Type 0} (seen : D → List ℕ) (failures : D → ℕ) (armed : DiskId → ℕ → MasterPlace D → MasterPlace D) (sizes : HaveSizes) (config : Config) (bytes : ReqId → List ℕ) (clients : ℕ) (disks : D × D) (new : History D)
    (none : standing (seen disks.0) (seen disks.1) ≡ fresh) (begun : Begins seen failures armed config clients disks new) where
  found_new : (id : ℕ) (s : Server) → slice_get new.nodes.servers id ≡ Some s → s ≡ servers.new id config.block config.chunk
  found_new id s found = silent_at config config.servers id s (subst (λ (n : Nodes D). slice_get n.servers id ≡ Some s) begun.nodes found)

  pub begins_kept : Keeps config bytes new
  begins_kept = record {
    servers = λ id s found. subst (IsServer config id) (sym (found_new id s found)) (is_server sizes config id);
    buffers = λ id s found req pushed there. nil_contains (pair req pushed) (subst (λ (x : Server). Contains x.dropped.buffer (req, pushed)) (found_new id s found) there);
  }
    where
      pair : ReqId → List ℕ → ReqId × List ℕ
      pair r b = (r, b)

  pub begins_lasting : Lasts seen new.nodes.master
  begins_lasting = begins_firm seen failures armed config clients disks new none begun

  pub begins_unborn : (chunk : ℕ) → IsUnborn seen chunk new
  begins_unborn chunk = by_opening begun.opens
    where
      told : IsToldIn (standing (seen disks.0) (seen disks.1)) start
      told = subst (λ (t : Text). IsToldIn t start) (sym none) fresh_tells

      by_opening : (opens : Opens seen failures config disks (Ok begun.turn) begun.place) → IsUnborn seen chunk new
      by_opening (after, is, opened, said) =
          let found : OpensAs seen start begun.place = opens_told seen failures config disks.0 disks.1 start begun.turn begun.place start_kept.0 start_kept.1 told (after, is, opened, said) in
          let same = standing_is found.0 after (sym found.1 ∙ is) in
          let x = started seen failures config disks.0 disks.1 start after begun.turn.sent.items told (subst (λ (m : MasterOf D). m.state.durable ≡ start) same (ap (λ (s : State). s.durable) found.2)) opened in
          record {
            epoch = 0;
            servers = λ id s at. (let y = found_new id s at in subst (λ (z : Server). KeepsNothing chunk z × (z.kept.epoch ≤ 0)) (sym y) (keeps_nothing chunk id config.block config.chunk, omega arith));
            master = subst (λ (n : Nodes D). IsUnknown seen chunk 0 n.master) (sym begun.nodes) (subst (IsUnknown seen chunk 0) (sym is)
                (subst (λ (u : State). unborn.IsUnborn chunk u × (0 ≤ u.durable.epoch)) (sym x.state) (restarts_unborn chunk start x.log start_kept.1.version (record { handle = start_kept.1.handle; given = λ number. not_given chunk; settled = fin.get-empty nat_cmp chunk; prepared = fin.get-empty nat_cmp chunk }), omega arith)));
            sent = posted_all (IsBefore chunk 0) (record { 0 = 0 }) ids.Master begun.turn.sent.items (none_sent config.servers clients) new.sent (inl begun.sent) (none_of (IsBefore chunk 0) config.servers clients)
                (subst (AllByRecursion (IsBefore chunk 0)) (sym x.sends) tt);
          }

  -- it has said nothing
  pub begins_none : (P : Message → Type 0) → AllSent P new.sent
  begins_none P = posted_all P (record { 0 = 0 }) ids.Master begun.turn.sent.items (none_sent config.servers clients) new.sent (inl begun.sent) (none_of P config.servers clients)
      (subst (AllByRecursion P) (sym (begins_silent seen failures armed config clients disks new none begun)) tt)

  pub begins_lives : (chunk : ℕ) → Life seen config bytes chunk new
  begins_lives chunk = inl (begins_unborn chunk)

  pub begins_texts : (among : List ℕ → Bool) (chunk : ℕ) → TextsOf seen config bytes among chunk new (begins_lives chunk)
  unfolding begins_lives
  begins_texts among chunk = tt

  pub begins_numbered : (asked : ℕ → Asked) (chunk : ℕ) → NumberedIn seen config bytes asked chunk new begins_lives (begins_lives chunk)
  unfolding begins_lives
  begins_numbered asked chunk = tt

  pub begins_own : (asked : ℕ → Asked) (chunk : ℕ) → OwnIn seen config bytes asked chunk new (begins_lives chunk)
  unfolding begins_lives
  begins_own asked chunk = tt

  pub begins_asked : (chunk : ℕ) → AskedIn seen config bytes chunk new (begins_lives chunk)
  unfolding begins_lives
  begins_asked chunk = tt

  pub begins_tells_no_copy : (life : (chunk : ℕ) → Life seen config bytes chunk new) → AllSent (λ (m : Message). CopiesTo seen config bytes new life m.to m.body) new.sent
  begins_tells_no_copy life = begins_none (λ (m : Message). CopiesTo seen config bytes new life m.to m.body)
