-- An account and the machines of all chunks of a store go on agreeing.
use Rattle.std.proofs.Common.{◌≡◌, ◌∙◌, ℕ, false, List, [], Option, None, refl, sym, ap, subst, inl, inr}
use Rattle.std.specs.Prelude.{is_some}
use Rattle.std.proofs.lemmas.Bool.{false≢true}
use Rattle.std.specs.FinMap as fin
use Rattle.gs_base.specs.declared.numbers.ReqId.{ReqId}
use Rattle.gs_world.specs.Histories.{History}
use Rattle.gs_laws_world.specs.lasting.Lasting.{Lasts, OpensAs}
use Rattle.gs_world.specs.Runs.{Step}
use Rattle.gs_server.specs.Places.{Place}
use Rattle.gs_master_spec.specs.Durable.{Durable, is_given, is_rolling, start}
use Rattle.gs_master_spec.specs.State.{State}
use Rattle.gs_nodes.specs.declared.place.MasterPlace.{MasterPlace}
use Rattle.gs_nodes.specs.declared.place.MasterPlace.TheVariants.{Standing, Closed, Away}
use Rattle.gs_laws_chunk.specs.machine.Machine.{ChunkWorld}
use Rattle.gs_laws_chunk.specs.machine.Laws.{Birth, world_of}
use Rattle.gs_laws_lift.specs.stores.Doing.{HasDurable}
use Rattle.gs_laws_lift.specs.stores.Joint.{AtMaster, AtServer, Elsewhere, GoesBy}
use Rattle.gs_laws_lift.specs.stores.Living.{ComesAlive, GoesOn, StoreLives}
use Rattle.gs_laws_lift.specs.stores.Showing.{IsAlive, ShowsMaster, ShowsNodes, ShowsStore}
use Rattle.gs_laws_lift.specs.stores.Unborn.{IsUnborn, IsUnknown}
use Rattle.gs_laws_chunks.specs.accounts.Accounts.{Account}
use Rattle.gs_laws_chunks.specs.accounts.Moving.{account_behind}
use Rattle.gs_laws_chunks.specs.accounts.Running.{IsToldAt, Setup}
use Rattle.gs_laws_chunks.specs.accounts.Agreeing.{Agrees, CopiesNone, CopyShows, IsBlank, OriginShows}
use Rattle.gs_laws_chunks.specs.accounts.Joining.{AgreesAt, Life, StoreAgrees, StoresAgreeFirst, StoresAgreeOn}
use Rattle.gs_laws_chunks.specs.accounts.Running.{IsAccounted, accounted}
use Rattle.gs_laws_chunks.proofs.lemmas.accounts.Agreeing.{master_copied, masters_agree, server_copied, servers_agree, still_agrees, still_copied}
use Rattle.gs_laws_chunks.proofs.lemmas.accounts.Births.{birth_copied, births_agree}
use Rattle.gs_laws_chunks.proofs.lemmas.accounts.Origins.{CopiedAt, copied_same, origin_shows, unborn_copies_none}
use Rattle.gs_laws_parts.specs.master.Rows.{RowsGo}
use Rattle.gs_laws_lift.proofs.lemmas.stores.Beginning.{begins_told, not_given}
use Rattle.gs_laws_lift.specs.stores.Accounts.{edits_copied}
use Rattle.gs_laws_lift.specs.stores.Copying.{copied_from}
use Rattle.gs_laws_lift.specs.stores.Going.{AllSent, heard_in}
use Rattle.gs_msg.specs.declared.message.Message.{Message}
use Rattle.gs_laws_chunks.proofs.lemmas.accounts.Durables.{told_is_had}
use Rattle.gs_laws_chunks.proofs.lemmas.accounts.Edits.{AreNumbered}
use Rattle.gs_laws_chunks.proofs.lemmas.accounts.Still.{blank_stays}

-- what is told of a master that lasts is one thing
told_once : {D : Type 0} (seen : D → List ℕ) (place : MasterPlace D) (d e : Durable) → Lasts seen place → IsToldAt seen place d → IsToldAt seen place e → d ≡ e
told_once seen (Standing m) d e lasts first other = sym (told_is_had seen (Standing m) d m.state.durable lasts first refl) ∙ told_is_had seen (Standing m) e m.state.durable lasts other refl
told_once seen (Closed one two) d e lasts first other = sym (told_is_had seen (Closed one two) d lasts.durable lasts first lasts.told) ∙ told_is_had seen (Closed one two) e lasts.durable lasts other lasts.told
told_once seen Away d e lasts first other = absurd lasts

module _ {D : Type 0} (x : Setup D) (bytes : ReqId → List ℕ) where
  nodes_of : {born chunk : ℕ} {h : History D} {w : ChunkWorld} → ShowsStore x.seen x.config bytes born chunk h w → ShowsNodes x.config bytes born chunk h w
  nodes_of shows = record { members = shows.members; sent = shows.sent }

  -- of a chunk that the master doesn't know nothing is told
  unknown_none : (chunk epoch : ℕ) (place : MasterPlace D) (d : Durable) → Lasts x.seen place → IsToldAt x.seen place d → IsUnknown x.seen chunk epoch place → fin.get d.chunks chunk ≡ None
  unknown_none chunk epoch (Standing m) d lasts told unknown =
      let u = unknown.0 in
      subst (λ (e : Durable). fin.get e.chunks chunk ≡ None) (told_is_had x.seen (Standing m) d m.state.durable lasts told refl) u.ungiven.settled
  unknown_none chunk epoch (Closed one two) d lasts told unknown =
      subst (λ (e : Durable). fin.get e.chunks chunk ≡ None) (told_is_had x.seen (Closed one two) d unknown.durable lasts told unknown.told) unknown.ungiven.settled
  unknown_none chunk epoch Away d lasts told unknown = absurd unknown

  module _ (law : AreNumbered) (step : Step) (old new : History D) (a b : Account) (before : StoreLives x.seen x.config bytes x.among old) (behind : StoreLives x.seen x.config bytes x.among new)
      (moves : IsAccounted x step old a new b) (told : IsToldAt x.seen old.nodes.master a.durable) where
    -- the account behind the step
    abbrev B : Durable → Account
    B d = account_behind step old a new d

    is_account : b ≡ B b.durable
    is_account = moves.account

    -- the master is as it was, and tells the same
    same_told : new.nodes.master ≡ old.nodes.master → a.durable ≡ b.durable
    same_told master = told_once x.seen old.nodes.master a.durable b.durable before.lasts told (subst (λ place. IsToldAt x.seen place b.durable) master moves.told)

    same_account : new.nodes.master ≡ old.nodes.master → b ≡ B a.durable
    same_account master = is_account ∙ ap B (sym (same_told master))

    had_told : (d : Durable) → HasDurable x.seen old.nodes.master d → d ≡ a.durable
    had_told d had = told_is_had x.seen old.nodes.master a.durable d before.lasts told had

    has_told : (d : Durable) → HasDurable x.seen new.nodes.master d → b ≡ B d
    has_told d has = is_account ∙ ap B (sym (told_is_had x.seen new.nodes.master b.durable d behind.lasts moves.told has))

    module _ (chunk : ℕ) where
      -- what is told of copies of the chunk is shown behind the step
      abbrev Shows : Account → ChunkWorld → Type 0
      Shows c w = AllSent (λ (m : Message). CopyShows chunk (c.list chunk) w m.to m.body) new.sent

      module _ (l : IsAlive x.seen x.config bytes chunk old) (m : IsAlive x.seen x.config bytes chunk new) (same : m.reached.0 ≡ l.reached.0) (agrees : Agrees a old.sent chunk l.reached.0 l.world) where
        abbrev By : Type 0
        By = GoesBy x.seen x.config bytes l.reached.0.epoch chunk step old new l.world m.world

        -- what stands of the nodes is shown by a machine from the birth of before
        shown_there : ShowsNodes x.config bytes l.reached.0.epoch chunk new m.world
        shown_there = subst (λ (birth : Birth). ShowsNodes x.config bytes birth.epoch chunk new m.world) same (nodes_of m.shows)

        -- it is the copy that it was
        same_copy : By → copied_from new.sent chunk ≡ copied_from old.sent chunk
        same_copy by = copied_same x.seen x.config bytes l.reached.0.epoch chunk step old new l.world m.world by

        origin_kept : By → OriginShows a.list new.sent chunk l.reached.0 m.world
        origin_kept by = ap (edits_copied a.list) (same_copy by) ∙ agrees.lists.origin

        shows_by : By → Shows b m.world
        shows_by (AtServer by) =
            subst (λ (c : Account). Shows c m.world) (sym (same_account by.master))
            (server_copied law x.seen x.config bytes chunk step old new a l.world m.world l.reached before.keeps (nodes_of l.shows) shown_there by by.met agrees)
        shows_by (AtMaster by) =
            subst (λ (c : Account). Shows c m.world) (sym (has_told by.behind by.has))
            (master_copied x.seen x.config bytes chunk step old new a l.world m.world l.reached shown_there by (had_told by.before by.had) agrees (origin_kept (AtMaster by)))
        shows_by (Elsewhere still servers master by messages moment are posted) =
            subst (Shows b) (sym still)
            (subst (λ (c : Account). Shows c l.world) (sym (same_account master))
            (still_copied chunk step old new a l.world servers by messages moment are posted agrees.copied))

        by_what : By → OriginShows b.list new.sent chunk m.reached.0 m.world → Agrees b new.sent chunk m.reached.0 m.world
        by_what (AtServer by) then =
            subst (λ (birth : Birth). Agrees b new.sent chunk birth m.world) (sym same)
            (subst (λ (c : Account). Agrees c new.sent chunk l.reached.0 m.world) (sym (same_account by.master))
            (servers_agree law x.seen x.config bytes chunk step old new a l.world m.world l.reached before.keeps (nodes_of l.shows) shown_there by by.met agrees
            (subst (λ (c : Account). OriginShows c.list new.sent chunk l.reached.0 m.world) (same_account by.master) (subst (λ (birth : Birth). OriginShows b.list new.sent chunk birth m.world) same then))))
        by_what (AtMaster by) then =
            subst (λ (birth : Birth). Agrees b new.sent chunk birth m.world) (sym same)
            (subst (λ (c : Account). Agrees c new.sent chunk l.reached.0 m.world) (sym (has_told by.behind by.has))
            (masters_agree x.seen x.config bytes chunk step old new a l.world m.world l.reached shown_there by (had_told by.before by.had) agrees (origin_kept (AtMaster by))
            (subst (λ (c : Account). OriginShows c.list new.sent chunk l.reached.0 m.world) (has_told by.behind by.has) (subst (λ (birth : Birth). OriginShows b.list new.sent chunk birth m.world) same then))))
        by_what (Elsewhere still servers master by messages moment are posted) then =
            subst (λ (birth : Birth). Agrees b new.sent chunk birth m.world) (sym same)
            (subst (λ (w : ChunkWorld). Agrees b new.sent chunk l.reached.0 w) (sym still)
            (subst (λ (c : Account). Agrees c new.sent chunk l.reached.0 l.world) (sym (same_account master))
            (still_agrees D x.config bytes chunk step old new a l.world l.reached servers by messages moment are posted (subst (λ (w : ChunkWorld). ShowsNodes x.config bytes l.reached.0.epoch chunk new w) still shown_there) agrees
            (subst (λ (c : Account). OriginShows c.list new.sent chunk l.reached.0 l.world) (same_account master)
            (subst (λ (w : ChunkWorld). OriginShows b.list new.sent chunk l.reached.0 w) still (subst (λ (birth : Birth). OriginShows b.list new.sent chunk birth m.world) same then))))))

        -- one that is no copy was born with nothing
        bare_kept : By → copied_from new.sent chunk ≡ None → m.reached.0.origin ≡ []
        bare_kept by none = ap (λ (birth : Birth). birth.origin) same ∙ sym (origin_kept by) ∙ ap (edits_copied a.list) none

      -- ---- one that is born

      module _ (unborn : IsUnborn x.seen chunk old) (is : before.life chunk ≡ inl unborn) (m : IsAlive x.seen x.config bytes chunk new) (comes : ComesAlive x.seen x.config bytes chunk old new m) (blank : IsBlank a chunk) where
        none_copied : AllSent (λ (m : Message). CopiesNone chunk m.to m.body) old.sent
        none_copied = unborn_copies_none x.seen x.config bytes old before.life before.copies chunk unborn is

        calm_there : is_rolling a.durable.phase ≡ false
        calm_there = subst (λ (d : Durable). is_rolling d.phase ≡ false) (had_told comes.before comes.had) comes.calm

        rows_there : RowsGo chunk a.durable comes.behind (world_of m.reached.0) m.world
        rows_there = subst (λ (d : Durable). RowsGo chunk d comes.behind (world_of m.reached.0) m.world) (had_told comes.before comes.had) comes.rows

        shows_born : Shows b m.world
        shows_born =
            subst (λ (c : Account). Shows c m.world) (sym (has_told comes.behind comes.has))
            (birth_copied x.config bytes chunk step old new a comes.behind m.reached.0 m.world blank comes.servers comes.leads comes.masters (nodes_of m.shows) calm_there rows_there none_copied comes.messages comes.moment comes.posted comes.copies)

        born_there : OriginShows b.list new.sent chunk m.reached.0 m.world → Agrees b new.sent chunk m.reached.0 m.world
        born_there then =
            subst (λ (c : Account). Agrees c new.sent chunk m.reached.0 m.world) (sym (has_told comes.behind comes.has))
            (births_agree D x.config bytes chunk step old new a comes.behind m.reached.0 m.world blank comes.servers comes.leads comes.masters (nodes_of m.shows) comes.shows calm_there rows_there
            none_copied comes.messages comes.moment comes.posted comes.copies
            (subst (λ (c : Account). OriginShows c.list new.sent chunk m.reached.0 m.world) (has_told comes.behind comes.has) then))

        bare_born : copied_from new.sent chunk ≡ None → m.reached.0.origin ≡ []
        bare_born none = comes.bare (ap is_some none)

      blank_there : IsUnborn x.seen chunk new → IsBlank a chunk → IsBlank b chunk
      blank_there unborn blank =
          subst (λ (c : Account). IsBlank c chunk) (sym is_account)
          (blank_stays D chunk step old new a b.durable blank (λ id s found. ap (λ (p : Place). p.slot.live) (unborn.servers id s found).0) (unknown_none chunk unborn.epoch new.nodes.master b.durable behind.lasts moves.told unborn.master))

      -- ---- in either case

      module _ (heard : Option ℕ) where
        abbrev Goes : Life x bytes chunk old → Life x bytes chunk new → Type 0
        Goes l m = GoesOn x.seen x.config bytes chunk step heard old new l m

        one_shows : (l : Life x bytes chunk old) (m : Life x bytes chunk new) → before.life chunk ≡ l → Goes l m → AgreesAt x bytes a chunk old l → CopiedAt x.seen x.config bytes new behind.life behind.copies b.list chunk m
        one_shows l (inl m) is goes agrees = tt
        one_shows (inl l) (inr m) is goes agrees = shows_born l is m goes agrees
        one_shows (inr l) (inr m) is goes agrees = shows_by l m goes.same agrees goes.by

        one_bare : (l : Life x bytes chunk old) (m : IsAlive x.seen x.config bytes chunk new) → before.life chunk ≡ l → Goes l (inr m) → AgreesAt x bytes a chunk old l → copied_from new.sent chunk ≡ None → m.reached.0.origin ≡ []
        one_bare (inl l) m is goes agrees = bare_born l is m goes agrees
        one_bare (inr l) m is goes agrees = bare_kept l m goes.same agrees goes.by

        one_agrees : ((c : ℕ) → CopiedAt x.seen x.config bytes new behind.life behind.copies b.list c (behind.life c)) → (l : Life x bytes chunk old) (m : Life x bytes chunk new) → before.life chunk ≡ l → behind.life chunk ≡ m → Goes l m → AgreesAt x bytes a chunk old l → AgreesAt x bytes b chunk new m
        one_agrees copied (inl l) (inl m) is there goes agrees = blank_there m agrees
        one_agrees copied (inr l) (inl m) is there goes agrees = absurd goes
        one_agrees copied (inl l) (inr m) is there goes agrees =
            born_there l is m goes agrees (origin_shows x.seen x.config bytes new behind.life behind.copies b.list copied chunk m there (one_bare (inl l) m is goes agrees))
        one_agrees copied (inr l) (inr m) is there goes agrees =
            by_what l m goes.same agrees goes.by (origin_shows x.seen x.config bytes new behind.life behind.copies b.list copied chunk m there (one_bare (inr l) m is goes agrees))

  -- as all chunks go on
  pub stores_agree : AreNumbered → (step : Step) (heard : Option ℕ) (old new : History D) (a b : Account) (before : StoreLives x.seen x.config bytes x.among old) (behind : StoreLives x.seen x.config bytes x.among new)
      → ((chunk : ℕ) → GoesOn x.seen x.config bytes chunk step heard old new (before.life chunk) (behind.life chunk)) → IsAccounted x step old a new b → StoreAgrees x bytes old a before → StoreAgrees x bytes new b behind
  stores_agree law step heard old new a b before behind goes moves agrees = record {
    told = moves.told;
    agrees = λ chunk. one_agrees law step old new a b before behind moves agrees.told chunk heard
        (λ c. one_shows law step old new a b before behind moves agrees.told c heard (before.life c) (behind.life c) refl (goes c) (agrees.agrees c))
        (before.life chunk) (behind.life chunk) refl refl (goes chunk) (agrees.agrees chunk);
  }

  pub stores_agree_on : AreNumbered → StoresAgreeOn x bytes
  stores_agree_on law step old new a b lives goes moves agrees = stores_agree law step (heard_in x.seen x.failures x.armed goes.kind) old new a b lives goes.last goes.goes (accounted x step old a new b moves) agrees

  -- ---- a store that begins new

  -- a master that has given no handle shows no chunk
  none_shown : (chunk : ℕ) (place : MasterPlace D) (w : ChunkWorld) → OpensAs x.seen start place → ShowsMaster x.seen chunk place w → ⊥
  none_shown chunk place w (after, is, begins, firm) shows =
      let there : ShowsMaster x.seen chunk (Standing after) w = subst (λ p. ShowsMaster x.seen chunk p w) is shows in
      false≢true (sym (not_given chunk) ∙ ap (λ (s : State). is_given s.durable.next_handle chunk) (sym begins) ∙ there.entry.durable.given)

  pub stores_agree_first : StoresAgreeFirst x bytes
  stores_agree_first begun a lives new = record {
    told = new.told;
    agrees = λ chunk. by_life chunk (lives.life chunk);
  }
    where
      by_life : (chunk : ℕ) (l : Life x bytes chunk begun) → AgreesAt x bytes a chunk begun l
      by_life chunk (inl unborn) = record {
        list = λ stamp. ap (λ (c : Account). c.list chunk stamp) new.account;
        reached = λ server stamp. ap (λ (c : Account). c.reached chunk server stamp) new.account;
        none = unknown_none chunk unborn.epoch begun.nodes.master a.durable lives.lasts new.told unborn.master;
      }
      by_life chunk (inr alive) = absurd (none_shown chunk begun.nodes.master alive.world (begins_told x.seen x.failures x.armed x.config x.clients x.disks begun new.given.new new.begins) alive.shows.master)
