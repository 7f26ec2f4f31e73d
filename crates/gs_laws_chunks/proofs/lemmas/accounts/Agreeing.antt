-- An account agrees with the machine of a chunk behind a step at one server.
use Rattle.std.proofs.Common.{◌≡◌, ◌∙◌, ◌+◌, ◌<◌, ◌≤◌, ◌⊎◌, ◌&&◌, ◌++◌, ◌∷◌, [], length, length-append, ℕ, Bool, true, false, List, Option, Some, None, refl, sym, ap, subst, inl, inr, arith, slice_get, append_assoc}
use Rattle.std.specs.Prelude.{if◌then◌else◌, is_some, option_map}
use Rattle.std.proofs.lemmas.Bool.{cases_lt, true≢false}
use Rattle.gs_base.specs.declared.config.Config.{Config}
use Rattle.gs_base.specs.Stamps.{is_same}
use Rattle.gs_base.specs.declared.numbers.Moment.{Moment}
use Rattle.gs_base.specs.declared.numbers.ReqId.{ReqId}
use Rattle.gs_base.specs.declared.numbers.Stamp.{Stamp}
use Rattle.gs_laws_chunks.specs.accounts.Accounts.{Account, edits_in, view_at}
use Rattle.gs_laws_chunks.specs.accounts.Moving.{account_behind, edit_under, has_more, is_edit, list_behind, numbered, numbered_by, numbered_of, numbers, reached_behind, server_of}
use Rattle.gs_laws_moves.specs.moves.Epochs.{prepares}
use Rattle.gs_laws_chunk.specs.machine.Stamps.{stamp_at}
use Rattle.gs_laws_chunk.specs.machine.Machine.{Entry, Member, ChunkWorld}
use Rattle.gs_laws_chunk.specs.machine.Events.{Leads, Rests}
use Rattle.gs_base.specs.declared.epoch.EpochEnd.TheVariants.{Prepare}
use Rattle.gs_laws_chunk.specs.machine.Laws.{IsReached, IsUpgrading, prepared_list}
use Rattle.gs_laws_chunk.proofs.lemmas.machine.Facts.{reached_world}
use Rattle.gs_laws_chunk.proofs.lemmas.machine.Lasting.{agrees}
use Rattle.gs_laws_chunk.proofs.lemmas.machine.Numbering.{grown_late, grown_stood, grown_within}
use Rattle.gs_laws_chunk.proofs.lemmas.machine.Known.{Later}
use Rattle.gs_laws_chunk.proofs.lemmas.machine.Prepared.{prepared_rests}
use Rattle.gs_laws_chunk.proofs.lemmas.machine.Resting.{leases_rest}
use Rattle.gs_laws_chunk.proofs.lemmas.machine.Worlds.{WorldOk, leads_later, leads_world}
use Rattle.gs_laws_chunks.proofs.lemmas.accounts.Edits.{AreNumbered}
use Rattle.gs_laws_chunks.proofs.lemmas.accounts.Serving.{Meets, count_then, heard_then, reaches_more, unmoved}
use Rattle.gs_laws_chunks.proofs.lemmas.accounts.Mastering as mastering
use Rattle.gs_laws_chunks.proofs.lemmas.accounts.Mastering.{behind_it}
use Rattle.gs_laws_chunks.proofs.lemmas.accounts.Still.{counts_still, none_numbered}
use Rattle.gs_laws_chunks.specs.accounts.Agreeing.{Agrees, CopyShows, IsCopyShown, IsOfView, IsViewShown, ListsStayOn, MastersAgree, MastersKeepLists, OriginShows, ServersAgree, ServersKeepLists, StillAgree, StillKeepsLists}
use Rattle.gs_laws_chunks.proofs.lemmas.accounts.Copies.{by_servers_none, copies_now, copies_stay, of_clients_none}
use Rattle.gs_laws_parts.specs.master.Rows.{IsFirst, RowsGo}
use Rattle.gs_laws_lift.proofs.lemmas.stores.Posting.{posted_all}
use Rattle.gs_laws_lift.specs.stores.Going.{AllSent, Posts}
use Rattle.gs_laws_lift.specs.stores.Saying.{AreOfClient}
use Rattle.gs_msg.specs.declared.node.NodeId.TheVariants as nodes
use Rattle.gs_laws_parts.proofs.lemmas.master.Leading.{masters_leave}
use Rattle.gs_laws_parts.specs.master.Showing.{ShowsDurable}
use Rattle.gs_laws_lift.proofs.lemmas.stores.Machines.{reached_then}
use Rattle.gs_laws_lift.proofs.lemmas.stores.Serving as serving
use Rattle.gs_laws_lift.proofs.lemmas.stores.Serving.{set_found}
use Rattle.gs_laws_lift.specs.stores.Accounts.{CountsShow, IsUnseen}
use Rattle.gs_laws_lift.specs.stores.Going.{Beats, Damages, Hears, Loses, Restarts, ServerGoes, Ticks, cause_at}
use Rattle.gs_laws_lift.specs.stores.Going.{IsMet}
use Rattle.gs_laws_lift.specs.stores.Joint.{ByMaster, ByServer}
use Rattle.gs_laws_lift.specs.stores.Showing.{IsServer, Keeps, ShowsNodes, setting}
use Rattle.gs_laws_parts.proofs.lemmas.server.Stamps.{same_stamp}
use Rattle.gs_laws_parts.proofs.lemmas.server.Steps.{pushed_there}
use Rattle.gs_laws_parts.specs.server.Causes.{Numbers, struck_by}
use Rattle.gs_server.specs.Runs as at_server
use Rattle.gs_laws_server.specs.servers.Calling.{call_by}
use Rattle.gs_store.specs.Calls.{Call}
use Rattle.gs_laws_parts.specs.server.Showing.{Setting}
use Rattle.gs_msg.specs.declared.message.Message.{Message}
use Rattle.gs_replica.specs.Stands.{Edit}
use Rattle.gs_world.specs.Histories.{History}
use Rattle.gs_world.specs.Runs.{Step}
use Rattle.gs_server.specs.Runs.{slot_in}
use Rattle.gs_server.specs.Servers.{Server}
use Rattle.gs_master_record.specs.declared.checkpoint.Phase.{Phase}
use Rattle.gs_master_record.specs.declared.checkpoint.Phase.TheVariants.{Ordinary, Rolling, Upgrade}
use Rattle.gs_laws_server.specs.servers.Following.{edit_in, lengthened}
use Rattle.gs_master_spec.specs.Applied.{view_in}
use Rattle.gs_master_spec.specs.Durable.{Durable, Settled, is_ordinary, is_upgrade}
use Rattle.std.specs.FinMap as fin
use Rattle.gs_msg.specs.declared.node.NodeId.{NodeId}

-- an epoch that goes on isn't prepared
pub no_prepare : (d : Durable) (first other : List Edit) → (if prepares d d then first else other) ≡ other
no_prepare d first other = by_phase d.phase
  where
    by_phase : (p : Phase) → (if is_ordinary p && is_upgrade p then first else other) ≡ other
    by_phase Ordinary = refl
    by_phase Upgrade = refl
    by_phase Rolling = refl

-- a loss or damage numbers nothing
struck : (call : Option Call) (c : Setting) (m n : Member) (t : ℕ) (old new : List Edit) → Numbers (struck_by call) c m n t old new → new ≡ old
struck None c m n t old new same = same
struck (Some call) c m n t old new same = same

module _ {D : Type 0} (law : AreNumbered) (chunk : ℕ) (step : Step) (old new : History D) (c : Setting) (w v : ChunkWorld) (id : ℕ) (s after : Server) (messages : List Message) (found : slice_get old.nodes.servers id ≡ Some s) (got : slice_get new.nodes.servers id ≡ Some after) (k : (moment : Moment) → Meets c w v chunk id s after moment) where
  -- each list has the edit more that the account finds
  numbered_then : (goes : ServerGoes old.sent id s after messages) → IsMet step goes → (t : ℕ) → Numbers (cause_at chunk goes) c (w.members id) (v.members id) t (w.known.list t) (v.known.list t) → lengthened (w.known.list t) (edit_under (stamp_at t) (numbered step old new chunk)) ≡ v.known.list t
  numbered_then (Hears message moment was to is sends) (at, there, comes) t lists =
      ap (λ (x : Step). lengthened (w.known.list t) (edit_under (stamp_at t) (numbered x old new chunk))) comes
      ∙ ap (λ (o : Option Message). lengthened (w.known.list t) (edit_under (stamp_at t) (numbered_of o moment old new chunk))) there
      ∙ ap (λ (n : NodeId). lengthened (w.known.list t) (edit_under (stamp_at t) (numbered_by (server_of n) message moment old new chunk))) to
      ∙ ap (λ (o : Option Server). lengthened (w.known.list t) (edit_under (stamp_at t) (numbers chunk message moment o (slice_get new.nodes.servers id)))) found
      ∙ ap (λ (o : Option Server). lengthened (w.known.list t) (edit_under (stamp_at t) (numbers chunk message moment (Some s) o))) got
      ∙ heard_then law c w v chunk id s after message.from moment (k moment) t message.body is lists
  numbered_then (Ticks moment is sends) (at, comes) t same = ap (λ (x : Step). lengthened (w.known.list t) (edit_under (stamp_at t) (numbered x old new chunk))) comes ∙ sym same
  numbered_then (Beats is sends) (at, comes) t same = ap (λ (x : Step). lengthened (w.known.list t) (edit_under (stamp_at t) (numbered x old new chunk))) comes ∙ sym same
  numbered_then (Restarts is sends) (at, comes) t same = ap (λ (x : Step). lengthened (w.known.list t) (edit_under (stamp_at t) (numbered x old new chunk))) comes ∙ sym same
  numbered_then (Loses handle is sends) (at, comes) t lists = ap (λ (x : Step). lengthened (w.known.list t) (edit_under (stamp_at t) (numbered x old new chunk))) comes ∙ sym (struck (call_by chunk (at_server.Loses handle) s) c (w.members id) (v.members id) t (w.known.list t) (v.known.list t) lists)
  numbered_then (Damages handle block is sends) (at, comes) t lists = ap (λ (x : Step). lengthened (w.known.list t) (edit_under (stamp_at t) (numbered x old new chunk))) comes ∙ sym (struck (call_by chunk (at_server.Damages handle block) s) c (w.members id) (v.members id) t (w.known.list t) (v.known.list t) lists)

-- what is numbered is so under this stamp
abbrev IsUnder : Stamp → Option (Stamp × Edit) → Type 0
IsUnder stamp None = Unit {0}
IsUnder stamp (Some found) = found.0 ≡ stamp

numbers_under : (chunk : ℕ) (message : Message) (moment : Moment) (s after : Server) (stamp : Stamp) → (slot_in chunk s).promise ≡ stamp → IsUnder stamp (numbers chunk message moment (Some s) (Some after))
numbers_under chunk message moment s after stamp promise = by_parts (is_edit chunk message.body && has_more chunk s after) (edit_in (call_by chunk (at_server.Hears message moment) s))
  where
    by_parts : (b : Bool) (o : Option Edit) → IsUnder stamp (if b then option_map (λ (edit : Edit). ((slot_in chunk s).promise, edit)) o else None)
    by_parts false o = tt
    by_parts true None = tt
    by_parts true (Some e) = promise

module _ {D : Type 0} (chunk : ℕ) (step : Step) (old new : History D) (id : ℕ) (s after : Server) (messages : List Message) (found : slice_get old.nodes.servers id ≡ Some s) (got : slice_get new.nodes.servers id ≡ Some after) (stamp : Stamp) (promise : (slot_in chunk s).promise ≡ stamp) where
  none_under : numbered step old new chunk ≡ None → IsUnder stamp (numbered step old new chunk)
  none_under none = subst (IsUnder stamp) (sym none) tt

  numbered_under : (goes : ServerGoes old.sent id s after messages) → IsMet step goes → IsUnder stamp (numbered step old new chunk)
  numbered_under (Hears message moment was to is sends) (at, there, comes) = subst (IsUnder stamp)
      (sym (ap (λ (x : Step). numbered x old new chunk) comes
      ∙ ap (λ (o : Option Message). numbered_of o moment old new chunk) there
      ∙ ap (λ (n : NodeId). numbered_by (server_of n) message moment old new chunk) to
      ∙ ap (λ (o : Option Server). numbers chunk message moment o (slice_get new.nodes.servers id)) found
      ∙ ap (λ (o : Option Server). numbers chunk message moment (Some s) o) got))
      (numbers_under chunk message moment s after stamp promise)
  numbered_under (Ticks moment is sends) (at, comes) = none_under (ap (λ (x : Step). numbered x old new chunk) comes)
  numbered_under (Beats is sends) (at, comes) = none_under (ap (λ (x : Step). numbered x old new chunk) comes)
  numbered_under (Restarts is sends) (at, comes) = none_under (ap (λ (x : Step). numbered x old new chunk) comes)
  numbered_under (Loses handle is sends) (at, comes) = none_under (ap (λ (x : Step). numbered x old new chunk) comes)
  numbered_under (Damages handle block is sends) (at, comes) = none_under (ap (λ (x : Step). numbered x old new chunk) comes)

-- ---- what is known of a machine whose master did nothing

module _ (w v : ChunkWorld) (reached : IsReached w) (leads : Leads w v) (entry : v.entry ≡ w.entry) where
  ok : WorldOk w
  ok = reached_world w reached

  okv : WorldOk v
  okv = leads_world w v leads ok

  behind : Later w.known v.known
  behind = leads_later w v leads ok

  same_view : v.known.view ≡ w.known.view
  same_view = sym (okv.entry).stamp ∙ ap (λ e. e.view.stamp) entry ∙ (ok.entry).stamp

  -- the same views stood
  stood_same : (t : ℕ) → v.known.stood t ≡ w.known.stood t
  stood_same t = elim (cases_lt w.known.view t) [
    | inl above ↦ ((okv.known).fresh t (let same = same_view in omega arith)).3 ∙ sym ((ok.known).fresh t above).3
    | inr within ↦ behind.stood t within
  ]

  stood_within : (t : ℕ) → w.known.stood t ≡ true → t ≤ w.known.view
  stood_within t stood = elim (cases_lt w.known.view t) [
    | inl above ↦ absurd (true≢false (sym stood ∙ ((ok.known).fresh t above).3))
    | inr within ↦ within
  ]

-- ---- a step at a server

module _ {D : Type 0} (law : AreNumbered) (seen : D → List ℕ) (config : Config) (bytes : ReqId → List ℕ) (chunk : ℕ) (step : Step) (old new : History D) (a : Account) (w v : ChunkWorld) (reached : IsReached w)
    (keeps : Keeps config bytes old) (shown : ShowsNodes config bytes reached.0.epoch chunk old w) (shows : ShowsNodes config bytes reached.0.epoch chunk new v) (by : ByServer seen config bytes reached.0.epoch chunk step old new w v) (met : IsMet step by.goes) where
  abbrev c : Setting
  c = setting config bytes reached.0.epoch

  is_world : by.steps.world ≡ v
  is_world = sym by.world

  leads : Leads w v
  leads = subst (Leads w) is_world by.steps.leads

  entry : v.entry ≡ w.entry
  entry = ap (λ (x : ChunkWorld). x.entry) by.world ∙ by.steps.entry

  reached_v : IsReached v
  reached_v = reached_then w reached v leads

  got : slice_get new.nodes.servers by.id ≡ Some by.after
  got = subst (λ xs. slice_get xs by.id ≡ Some by.after) (sym by.servers) (set_found old.nodes.servers by.id by.server by.after by.found)

  server : IsServer config by.id by.server
  server = keeps.servers by.id by.server by.found

  meets : (moment : Moment) → Meets c w v chunk by.id by.server by.after moment
  meets moment = record {
    size = server.size;
    buffers = λ req b there. keeps.buffers by.id by.server by.found req b (pushed_there req by.server.dropped.buffer b there);
    shown = shown.members by.id by.server by.found;
    shows = shows.members by.id by.after got;
    rested = leases_rest w (reached_world w reached);
    rests = leases_rest v (reached_world v reached_v);
  }

  numbers_then : (t : ℕ) → Numbers (cause_at chunk by.goes) c (w.members by.id) (v.members by.id) t (w.known.list t) (v.known.list t)
  numbers_then t = subst (λ (x : ChunkWorld). Numbers (cause_at chunk by.goes) c (w.members by.id) (x.members by.id) t (w.known.list t) (x.known.list t)) is_world (by.steps.numbers t)

  -- the lists of views
  list_then : (t : ℕ) → a.list chunk (stamp_at t) ≡ w.known.list t → (account_behind step old a new a.durable).list chunk (stamp_at t) ≡ v.known.list t
  list_then t same =
      unmoved a new.sent a.durable (numbered step old new chunk) chunk (stamp_at t) (view_at a chunk) refl
      ∙ ap (λ (xs : List Edit). lengthened xs (edit_under (stamp_at t) (numbered step old new chunk))) same
      ∙ numbered_then law chunk step old new c w v by.id by.server by.after by.messages by.found got meets by.goes met t (numbers_then t)

  same : (t : ℕ) → w.known.stood t ≡ v.known.stood t
  same t = sym (stood_same w v reached leads entry t)

  grows : Later w.known v.known
  grows = behind w v reached leads entry

  -- what was unseen is so still
  unseen_then : (t : ℕ) → w.known.stood t ≡ true → IsUnseen w t → IsUnseen v t
  unseen_then t stood u =
      let within : t ≤ w.known.view = stood_within w v reached leads entry t stood in
      let below = u.below in
      let fixed = grows.fixed t within u.free in
      let more = grows.list u.lower (omega arith) in
      let rest = u.begins in record {
        gone = λ last. ap (λ e. e.is_known) entry ∙ u.gone (ap (λ e. e.view.stamp) (sym entry) ∙ last);
        free = fixed.0;
        lower = u.lower;
        below = below;
        last = λ s stands low. u.last s (same s ∙ stands) low;
        begins = (rest.0 ++ more.0, more.1 ∙ ap (λ (xs : List Edit). xs ++ more.0) rest.1 ∙ append_assoc (w.known.list t) rest.0 more.0 ∙ ap (λ (xs : List Edit). xs ++ (rest.0 ++ more.0)) (sym fixed.1));
      }

  own_then : (before : Agrees a old.sent chunk reached.0 w) → (t : ℕ) → v.known.stood t ≡ true → v.known.born < t → ((account_behind step old a new a.durable).list chunk (stamp_at t) ≡ v.known.list t) ⊎ IsUnseen v t
  own_then before t stood late =
      let stood_w : w.known.stood t ≡ true = same t ∙ stood in
      elim (before.lists.own t stood_w (let born = grows.born in omega arith)) [
        | inl is ↦ inl (list_then t is)
        | inr unseen ↦ inr (unseen_then t stood_w unseen)
      ]

  -- Under another stamp nothing is numbered: a server numbers under the one that it has promised, of a view that stood.
  others_then : (before : Agrees a old.sent chunk reached.0 w) → (s : Stamp) → IsOfView ((account_behind step old a new a.durable).list chunk) v s
  others_then before s = by_before (before.others s)
    where
      t : ℕ
      t = (w.members by.id).promise

      behind_it : (account_behind step old a new a.durable).list chunk s ≡ lengthened (a.list chunk s) (edit_under s (numbered step old new chunk))
      behind_it = unmoved a new.sent a.durable (numbered step old new chunk) chunk s (view_at a chunk) refl

      as_view : (u : ℕ) → s ≡ stamp_at u → w.known.born < u → w.known.stood u ≡ true → a.list chunk (stamp_at u) ≡ w.known.list u → IsOfView ((account_behind step old a new a.durable).list chunk) v s
      as_view u is late stood alike = inr (u, is, (let born = grows.born in omega arith), sym (same u) ∙ stood, ap ((account_behind step old a new a.durable).list chunk) is ∙ list_then u alike)

      by_same : (found : Stamp × Edit) → numbered step old new chunk ≡ Some found → found.0 ≡ stamp_at t → (b : Bool) → is_same found.0 s ≡ b → a.list chunk s ≡ [] → IsOfView ((account_behind step old a new a.durable).list chunk) v s
      by_same found is under false other none = inl (behind_it ∙ ap (λ xs. lengthened xs (edit_under s (numbered step old new chunk))) none ∙ ap (λ o. lengthened [] (edit_under s o)) is ∙ ap (λ b. lengthened [] (if b then Some found.1 else None)) other)
      by_same found is under true here none =
          let at : s ≡ stamp_at t = sym (same_stamp found.0 s here) ∙ under in
          let more : v.known.list t ≡ w.known.list t ++ found.1 ∷ [] =
          sym (numbered_then law chunk step old new c w v by.id by.server by.after by.messages by.found got meets by.goes met t (numbers_then t))
          ∙ ap (λ o. lengthened (w.known.list t) (edit_under (stamp_at t) o)) is ∙ ap (λ b. lengthened (w.known.list t) (if b then Some found.1 else None)) (ap (is_same found.0) (sym at) ∙ here) in
          let never : v.known.list t ≡ w.known.list t → ⊥ = λ alike. (let n : length (v.known.list t) ≡ length (w.known.list t) = ap length alike in let m : length (v.known.list t) ≡ length (w.known.list t ++ found.1 ∷ []) = ap length more in omega (arith, length-append (w.known.list t) (found.1 ∷ []))) in
          let stood = grown_stood w v reached leads entry t never in
          let late = grown_late w v reached leads entry t never in
          elim (before.lists.own t stood late) [
            | inl alike ↦ as_view t at late stood alike
            | inr unseen ↦ absurd (never (grows.fixed t (grown_within w v reached leads entry t never) unseen.free).1)
          ]

      by_found : (o : Option (Stamp × Edit)) → numbered step old new chunk ≡ o → IsUnder (stamp_at t) o → a.list chunk s ≡ [] → IsOfView ((account_behind step old a new a.durable).list chunk) v s
      by_found None is under none = inl (behind_it ∙ ap (λ xs. lengthened xs (edit_under s (numbered step old new chunk))) none ∙ ap (λ o. lengthened [] (edit_under s o)) is)
      by_found (Some found) is under none = by_same found is under (is_same found.0 s) refl none

      by_before : IsOfView (a.list chunk) w s → IsOfView ((account_behind step old a new a.durable).list chunk) v s
      by_before (inr (u, is, late, stood, alike)) = as_view u is late stood (ap (a.list chunk) (sym is) ∙ alike)
      by_before (inl none) =
          by_found (numbered step old new chunk) refl
          (numbered_under chunk step old new by.id by.server by.after by.messages by.found got (stamp_at t) (shown.members by.id by.server by.found).promise by.goes met) none

  -- the counts
  reached_of : (j t : ℕ) → (v.known.reached j t ≡ w.known.reached j t) ⊎ ((j ≡ by.id) × (t ≡ (v.members by.id).promise) × (is_some (v.members by.id).live ≡ true))
  reached_of j t = subst (λ (x : ChunkWorld). (x.known.reached j t ≡ w.known.reached j t) ⊎ ((j ≡ by.id) × (t ≡ (x.members by.id).promise) × (is_some (x.members by.id).live ≡ true))) is_world (by.steps.reached j t)

  counts_then : (before : Agrees a old.sent chunk reached.0 w) → CountsShow (account_behind step old a new a.durable).reached chunk v
  counts_then before j t = by_server (slice_get new.nodes.servers j) refl
    where
      by_server : (o : Option Server) → slice_get new.nodes.servers j ≡ o → reached_behind (a.reached chunk j (stamp_at t)) o chunk (stamp_at t) ≡ v.known.reached j t
      by_server None none = before.counts j t ∙ elim (reached_of j t) [
        | inl kept ↦ sym kept
        | inr (at, here, live) ↦ absurd (let there : slice_get new.nodes.servers j ≡ Some by.after = subst (λ i. slice_get new.nodes.servers i ≡ Some by.after) (sym at) got in (cc))
      ]
      by_server (Some x) there =
          ap (λ n. reached_behind n (Some x) chunk (stamp_at t)) (before.counts j t)
          ∙ count_then c w v chunk j t x (shows.members j x there) (agrees v (reached_world v reached_v)) (reaches_more w v reached leads j t)
          (elim (reached_of j t) [
            | inl kept ↦ inl kept
            | inr (at, here, live) ↦ inr (here ∙ ap (λ i. (v.members i).promise) (sym at), ap (λ i. is_some (v.members i).live) at ∙ live)
          ])

  -- the prepare
  before_then : (before : Agrees a old.sent chunk reached.0 w) → (e : ℕ) → IsUpgrading v e → v.entry.was_known ≡ true → (account_behind step old a new a.durable).before chunk ≡ prepared_list v
  before_then before e upgrading known =
      let upgrading_w : IsUpgrading w e = subst (λ (y : Entry). ((e ≡ y.epoch) × (y.how e ≡ Prepare)) ⊎ ((e + 1 ≡ y.epoch) × (y.is_rolling ≡ true))) entry upgrading in
      let known_w : w.entry.was_known ≡ true = ap (λ (y : Entry). y.was_known) (sym entry) ∙ known in
      let rests = prepared_rests w (reached_world w reached) e upgrading_w known_w in
      no_prepare a.durable (edits_in a chunk (view_at a chunk)) (a.before chunk) ∙ before.before e upgrading_w known_w
      ∙ sym (ap (λ (y : Entry). v.known.list y.prepared.stamp) entry ∙ (grows.fixed w.entry.prepared.stamp (let s = ((reached_world w reached).entry).stamp in let l = rests.within in omega arith) rests.free).1)

  -- the view that is told is shown still
  shown_then : (before : Agrees a old.sent chunk reached.0 w) → (x : Settled) → fin.get a.durable.chunks chunk ≡ Some x → IsViewShown ((account_behind step old a new a.durable).list chunk) v
  shown_then before x there =
      let was = before.shown x there in
      let view : v.known.view ≡ w.known.view = same_view w v reached leads entry in record {
        stood = ap v.known.stood view ∙ sym (same w.known.view) ∙ was.stood;
        same = subst (λ t. (account_behind step old a new a.durable).list chunk (stamp_at t) ≡ v.known.list t) (sym view) (list_then w.known.view was.same);
      }

  -- a chunk of which nothing is told was settled on no view still
  first_then : (before : Agrees a old.sent chunk reached.0 w) → IsFirst chunk a.durable v
  first_then before known none = same_view w v reached leads entry ∙ before.first (ap (λ (e : Entry). e.is_known) (sym entry) ∙ known) none ∙ sym grows.born

  -- what is told of copies is shown
  copy_then : (at : Stamp) → IsCopyShown (a.list chunk) w at → IsCopyShown ((account_behind step old a new a.durable).list chunk) v at
  copy_then at k =
      let fixed = grows.fixed k.t k.within k.free in record {
        t = k.t;
        is = k.is;
        within = (let low = k.within in let view = grows.view in omega arith);
        free = fixed.0;
        same = ap ((account_behind step old a new a.durable).list chunk) k.is ∙ list_then k.t (ap (a.list chunk) (sym k.is) ∙ k.same);
      }

  pub server_copied : (before : Agrees a old.sent chunk reached.0 w) → AllSent (λ (m : Message). CopyShows chunk ((account_behind step old a new a.durable).list chunk) v m.to m.body) new.sent
  server_copied before =
      let list = (account_behind step old a new a.durable).list chunk in
      posted_all (λ (m : Message). CopyShows chunk list v m.to m.body) by.moment (nodes.Server by.id) by.messages old.sent new.sent by.posted
      (copies_stay chunk list v (a.list chunk) w copy_then old.sent before.copied)
      (by_servers_none chunk list v by.messages (serving.by_server _ c chunk by.steps.world by.id _ by.messages by.steps.answers))

  pub server_agrees : Agrees a old.sent chunk reached.0 w → OriginShows (account_behind step old a new a.durable).list new.sent chunk reached.0 v → Agrees (account_behind step old a new a.durable) new.sent chunk reached.0 v
  server_agrees before origin = record {
    lists = record { own = own_then before; origin = origin };
    others = others_then before;
    counts = counts_then before;
    before = before_then before;
    late = λ x there. (let late = before.late x there in let born = grows.born in let view = same_view w v reached leads entry in omega arith);
    shown = shown_then before;
    first = first_then before;
    copied = server_copied before;
  }

pub servers_agree : {D : Type 0} → AreNumbered → (seen : D → List ℕ) (config : Config) (bytes : ReqId → List ℕ) → ServersAgree seen config bytes
servers_agree law seen config bytes chunk step old new a w v reached keeps shown shows by met before origin = server_agrees law seen config bytes chunk step old new a w v reached keeps shown shows by met before origin

pub servers_keep : {D : Type 0} → AreNumbered → (seen : D → List ℕ) (config : Config) (bytes : ReqId → List ℕ) → ServersKeepLists seen config bytes
servers_keep law seen config bytes chunk step old new a w v reached keeps shown shows by met t within same = list_then law seen config bytes chunk step old new a w v reached keeps shown shows by met t same

-- ---- elsewhere

still_list : {D : Type 0} (chunk : ℕ) (step : Step) (old new : History D) (a : Account) → new.nodes.servers ≡ old.nodes.servers → (s : Stamp) → (account_behind step old a new a.durable).list chunk s ≡ a.list chunk s
still_list chunk step old new a servers s = unmoved a new.sent a.durable (numbered step old new chunk) chunk s (view_at a chunk) refl ∙ ap (λ o. lengthened (a.list chunk s) (edit_under s o)) (none_numbered chunk old new servers step)

pub still_keeps : (D : Type 0) → StillKeepsLists D
still_keeps D chunk step old new a w servers t within same = still_list chunk step old new a servers (stamp_at t) ∙ same

pub still_copied : {D : Type 0} (chunk : ℕ) (step : Step) (old new : History D) (a : Account) (w : ChunkWorld) → new.nodes.servers ≡ old.nodes.servers → (by : NodeId) (messages : List Message) (moment : Moment) → AreOfClient messages → Posts moment by messages old.sent new.sent
    → AllSent (λ (m : Message). CopyShows chunk (a.list chunk) w m.to m.body) old.sent → AllSent (λ (m : Message). CopyShows chunk ((account_behind step old a new a.durable).list chunk) w m.to m.body) new.sent
still_copied chunk step old new a w servers by messages moment are posted copied =
    let list = (account_behind step old a new a.durable).list chunk in
    posted_all (λ (m : Message). CopyShows chunk list w m.to m.body) moment by messages old.sent new.sent posted
    (copies_stay chunk list w (a.list chunk) w (λ at k. record { t = k.t; is = k.is; within = k.within; free = k.free; same = still_list chunk step old new a servers at ∙ k.same }) old.sent copied)
    (of_clients_none chunk list w messages are)

pub still_agrees : (D : Type 0) (config : Config) (bytes : ReqId → List ℕ) → StillAgree D config bytes
still_agrees D config bytes chunk step old new a w reached servers by messages moment are posted shows before origin = record {
  lists = record {
    own = λ t stood late. elim (before.lists.own t stood late) [
      | inl same ↦ inl (still_list chunk step old new a servers (stamp_at t) ∙ same)
      | inr unseen ↦ inr unseen
    ];
    origin = origin;
  };
  others = λ s. subst (λ xs. (xs ≡ []) ⊎ ((t : ℕ) × (s ≡ stamp_at t) × (w.known.born < t) × (w.known.stood t ≡ true) × (xs ≡ w.known.list t))) (sym (still_list chunk step old new a servers s)) (before.others s);
  counts = counts_still config bytes chunk step old new a a.durable w w reached Rests shows refl before.counts;
  before = λ e upgrading known. no_prepare a.durable (edits_in a chunk (view_at a chunk)) (a.before chunk) ∙ before.before e upgrading known;
  late = before.late;
  shown = λ x there. (let was = before.shown x there in record { stood = was.stood; same = still_list chunk step old new a servers (stamp_at w.known.view) ∙ was.same });
  first = before.first;
  copied = still_copied chunk step old new a w servers by messages moment are posted before.copied;
}

-- ---- the master

module _ {D : Type 0} (seen : D → List ℕ) (config : Config) (bytes : ReqId → List ℕ) (chunk : ℕ) (step : Step) (old new : History D) (a : Account) (w v : ChunkWorld) (reached : IsReached w) (shows : ShowsNodes config bytes reached.0.epoch chunk new v)
    (by : ByMaster seen config bytes reached.0.epoch chunk step old new w v) (told : by.before ≡ a.durable) where
  shown_of : ShowsDurable chunk a.durable w.entry
  shown_of = subst (λ d. ShowsDurable chunk d w.entry) told by.shown

  rows_of : RowsGo chunk a.durable by.behind w v
  rows_of = subst (λ d. RowsGo chunk d by.behind w v) told by.rows

  list_of : (s : Stamp) → (account_behind step old a new by.behind).list chunk s ≡ behind_it a new.sent by.behind chunk s (fin.get by.behind.chunks chunk)
  list_of s = ap (λ o. list_behind a new.sent by.behind o chunk s (view_in (fin.get by.behind.chunks chunk))) (none_numbered chunk old new by.servers step)

  module _ (before : Agrees a old.sent chunk reached.0 w) (origin : OriginShows a.list new.sent chunk reached.0 v) where
    was_stamp : (x : Settled) → fin.get a.durable.chunks chunk ≡ Some x → x.view.stamp ≡ stamp_at w.entry.view.stamp
    was_stamp x there = (shown_of.settled x there).view.stamp

    master_own : (t : ℕ) → v.known.stood t ≡ true → v.known.born < t → ((account_behind step old a new by.behind).list chunk (stamp_at t) ≡ v.known.list t) ⊎ IsUnseen v t
    master_own t stood late = elim (mastering.own_then chunk new.sent a by.behind w v reached by.leads by.masters was_stamp shown_of.rolling by.shows rows_of before.lists.own before.late before.before before.first origin t stood late) [
      | inl same ↦ inl (list_of (stamp_at t) ∙ same)
      | inr unseen ↦ inr unseen
    ]

    master_others : (s : Stamp) → IsOfView ((account_behind step old a new by.behind).list chunk) v s
    master_others s = subst (λ xs. (xs ≡ []) ⊎ ((t : ℕ) × (s ≡ stamp_at t) × (v.known.born < t) × (v.known.stood t ≡ true) × (xs ≡ v.known.list t))) (sym (list_of s))
        (mastering.others_then chunk new.sent a by.behind w v reached by.leads by.masters was_stamp shown_of.rolling by.shows rows_of before.lists.own before.late before.before before.first origin s (before.others s))

    -- what is told of copies is shown
    as_account : (at : Stamp) → IsCopyShown (λ s. behind_it a new.sent by.behind chunk s (fin.get by.behind.chunks chunk)) v at → IsCopyShown ((account_behind step old a new by.behind).list chunk) v at
    as_account at k = record { t = k.t; is = k.is; within = k.within; free = k.free; same = list_of at ∙ k.same }

    pub master_copied : AllSent (λ (m : Message). CopyShows chunk ((account_behind step old a new by.behind).list chunk) v m.to m.body) new.sent
    master_copied =
        let list = (account_behind step old a new by.behind).list chunk in
        posted_all (λ (m : Message). CopyShows chunk list v m.to m.body) by.moment nodes.Master by.messages old.sent new.sent by.posted
        (copies_stay chunk list v (a.list chunk) w (λ at k. as_account at (mastering.copies_then chunk new.sent a by.behind w v reached by.leads by.masters was_stamp shown_of.rolling by.shows rows_of at k)) old.sent before.copied)
        (copies_now chunk list v by.behind w.known.view w.entry.is_known
        (λ at k. as_account at (mastering.copied_since chunk new.sent a by.behind w v reached by.leads by.masters was_stamp shown_of.rolling by.shows rows_of before.lists.own before.late before.before before.first origin at k)) by.messages by.copies)

    -- and so is the view that is told
    master_shown : (y : Settled) → fin.get by.behind.chunks chunk ≡ Some y → IsViewShown ((account_behind step old a new by.behind).list chunk) v
    master_shown y there =
        let is = mastering.shown_then chunk new.sent a by.behind w v reached by.leads by.masters was_stamp shown_of.rolling by.shows rows_of before.lists.own before.late before.before before.first origin before.shown y there in
        record { stood = is.stood; same = list_of (stamp_at v.known.view) ∙ is.same }

    pub master_agrees : OriginShows (account_behind step old a new by.behind).list new.sent chunk reached.0 v → Agrees (account_behind step old a new by.behind) new.sent chunk reached.0 v
    master_agrees origin_then = record {
      lists = record { own = master_own; origin = origin_then };
      others = master_others;
      counts = counts_still config bytes chunk step old new a by.behind w v reached by.leads shows (masters_leave w v by.leads by.masters).reached before.counts;
      before = mastering.before_then chunk new.sent a by.behind w v reached by.leads by.masters was_stamp shown_of.rolling by.shows rows_of before.lists.own before.late before.before before.first origin;
      late = mastering.late_then chunk new.sent a by.behind w v reached by.leads by.masters was_stamp shown_of.rolling by.shows rows_of before.lists.own before.late before.before before.first origin;
      shown = master_shown;
      first = rows_of.first before.first;
      copied = master_copied;
    }

pub masters_agree : {D : Type 0} (seen : D → List ℕ) (config : Config) (bytes : ReqId → List ℕ) → MastersAgree seen config bytes
masters_agree seen config bytes chunk step old new a w v reached shows by told before origin origin_then = master_agrees seen config bytes chunk step old new a w v reached shows by told before origin origin_then

pub masters_keep : {D : Type 0} (seen : D → List ℕ) (config : Config) (bytes : ReqId → List ℕ) → MastersKeepLists seen config bytes
masters_keep seen config bytes chunk step old new a w v reached shows by told t within same =
    let shown = shown_of seen config bytes chunk step old new a w v reached shows by told in
    list_of seen config bytes chunk step old new a w v reached shows by told (stamp_at t)
    ∙ mastering.lists_then chunk new.sent a by.behind w v reached by.leads by.masters (λ x there. (shown.settled x there).view.stamp) shown.rolling by.shows (rows_of seen config bytes chunk step old new a w v reached shows by told) t within same

-- from world to world
pub lists_stay_on : ListsStayOn
lists_stay_on chunk a b c u v w reached leads first second t within same = (let view = (leads_later u v leads (reached_world u reached)).view in second t (omega arith) (first t within same))
