-- An account agrees with the machine of a chunk that the master has let be born.
use Rattle.std.proofs.Common.{◌≡◌, ◌∙◌, ◌<◌, ℕ, Bool, true, false, List, [], Option, Some, None, refl, sym, ap, inl, inr, arith}
use Rattle.std.specs.Prelude.{◌&&◌, is_some}
use Rattle.std.specs.FinMap as fin
use Rattle.std.proofs.lemmas.Bool.{eqb-true, false≢true}
use Rattle.gs_base.specs.declared.config.Config.{Config}
use Rattle.gs_base.specs.declared.numbers.Moment.{Moment}
use Rattle.gs_base.specs.declared.numbers.ReqId.{ReqId}
use Rattle.gs_base.specs.declared.numbers.Stamp.{Stamp}
use Rattle.gs_laws_chunks.specs.accounts.Accounts.{Account}
use Rattle.gs_laws_chunks.specs.accounts.Moving.{account_behind, list_behind}
use Rattle.gs_laws_chunk.specs.machine.Stamps.{stamp_at, start_of}
use Rattle.gs_laws_chunk.specs.machine.Machine.{ChunkWorld}
use Rattle.gs_laws_chunk.specs.machine.Events.{Leads, Rests}
use Rattle.gs_laws_chunk.specs.machine.Laws.{Birth, IsReached, world_of}
use Rattle.gs_laws_chunk.specs.machine.Mastering.{AreOfMaster, KeepsLists, SettlesOnce}
use Rattle.gs_laws_chunk.proofs.lemmas.machine.Facts.{reached_world}
use Rattle.gs_laws_chunk.proofs.lemmas.machine.Knowing.{masters_keep_prepared}
use Rattle.gs_laws_chunk.proofs.lemmas.machine.Known.{Later}
use Rattle.gs_laws_chunk.proofs.lemmas.machine.Mastering.{masters_settle_once}
use Rattle.gs_laws_chunk.proofs.lemmas.machine.Worlds.{leads_later}
use Rattle.gs_laws_chunks.proofs.lemmas.accounts.Copies.{copies_none, copies_now}
use Rattle.gs_laws_chunks.proofs.lemmas.accounts.Still.{counts_still, none_numbered}
use Rattle.gs_laws_chunks.specs.accounts.Agreeing.{Agrees, BirthsAgree, CopiesNone, CopyShows, IsBlank, OriginShows}
use Rattle.gs_laws_parts.proofs.lemmas.master.Leading.{masters_leave}
use Rattle.gs_laws_parts.specs.master.Rows.{AreCopiedSince, RowsGo}
use Rattle.gs_laws_lift.proofs.lemmas.stores.Posting.{posted_all}
use Rattle.gs_laws_lift.specs.stores.Going.{AllSent, Posts}
use Rattle.gs_laws_lift.specs.stores.Showing.{ShowsNodes}
use Rattle.gs_laws_moves.specs.moves.Epochs.{prepares, rolls_back}
use Rattle.gs_msg.specs.declared.message.Message.{Message}
use Rattle.gs_msg.specs.declared.node.NodeId.TheVariants as nodes
use Rattle.gs_world.specs.Histories.{History}
use Rattle.gs_world.specs.Runs.{Step}
use Rattle.gs_master_spec.specs.Applied.{view_in}
use Rattle.gs_master_spec.specs.Durable.{Durable, Settled, is_ordinary, is_rolling}

-- a rollback is committed only where something was rolled back
none_back : (d e : Durable) → is_rolling d.phase ≡ false → rolls_back d e ≡ true → ⊥
none_back d e calm back = false≢true (sym (ap (λ b. b && is_ordinary e.phase) calm) ∙ back)

module _ {D : Type 0} (config : Config) (bytes : ReqId → List ℕ) (chunk : ℕ) (step : Step) (old new : History D) (a : Account) (d : Durable) (b : Birth) (v : ChunkWorld) (blank : IsBlank a chunk) (servers : new.nodes.servers ≡ old.nodes.servers) (leads : Leads (world_of b) v) (masters : AreOfMaster (world_of b) v leads) (shows : ShowsNodes config bytes b.epoch chunk new v)
    (calm : is_rolling a.durable.phase ≡ false) (rows : RowsGo chunk a.durable d (world_of b) v) where
  abbrev reached : IsReached (world_of b)
  reached = (b, Rests)

  later : Later (world_of b).known v.known
  later = leads_later (world_of b) v leads (reached_world (world_of b) reached)

  -- no view is settled
  keeps : KeepsLists (world_of b) v
  keeps = by_once (masters_settle_once (world_of b) v leads reached masters)
    where
      by_once : SettlesOnce (world_of b) v → KeepsLists (world_of b) v
      by_once (inl k) = k
      by_once (inr (inl k)) = absurd (let moving = k.moving in omega arith)
      by_once (inr (inr r)) = absurd (none_back a.durable d calm (rows.back r.later).0)

  -- but for that of the birth none stood
  pub none_stood : (t : ℕ) → v.known.stood t ≡ true → v.known.born < t → ⊥
  none_stood t stood late = (let at : t ≡ start_of b.epoch = eqb-true t (start_of b.epoch) (ap (λ f. f t) (sym keeps.stood) ∙ stood) in let born : v.known.born ≡ start_of b.epoch = later.born in omega arith)

  -- and none is told
  none_told : fin.get d.chunks chunk ≡ None
  none_told = by_row (fin.get d.chunks chunk) refl
    where
      by_row : (o : Option Settled) → fin.get d.chunks chunk ≡ o → o ≡ None
      by_row None there = refl
      by_row (Some y) there = absurd (let up = rows.appears y blank.none there in let view = keeps.view in omega arith)

  list_born : (s : Stamp) → (account_behind step old a new d).list chunk s ≡ []
  list_born s =
      ap (λ o. list_behind a new.sent d o chunk s (view_in (fin.get d.chunks chunk))) (none_numbered chunk old new servers step)
      ∙ ap (λ o. list_behind a new.sent d None chunk s (view_in o)) none_told ∙ blank.list s

  -- it wasn't known at any prepare
  never_known : v.entry.was_known ≡ true → ⊥
  never_known was = by_prepare (prepares a.durable d) refl
    where
      by_prepare : (p : Bool) → prepares a.durable d ≡ p → ⊥
      by_prepare false is = false≢true (masters_keep_prepared (world_of b) v leads reached masters (rows.unprepared is) was).0
      by_prepare true is = false≢true (ap is_some (sym blank.none) ∙ (rows.prepared is was).0)

  pub birth_copied : AllSent (λ (m : Message). CopiesNone chunk m.to m.body) old.sent → (messages : List Message) (moment : Moment) → Posts moment nodes.Master messages old.sent new.sent → AreCopiedSince chunk d 0 true v messages
      → AllSent (λ (m : Message). CopyShows chunk ((account_behind step old a new d).list chunk) v m.to m.body) new.sent
  birth_copied none messages moment posted copies =
      let list = (account_behind step old a new d).list chunk in
      posted_all (λ (m : Message). CopyShows chunk list v m.to m.body) moment nodes.Master messages old.sent new.sent posted (copies_none chunk list v old.sent none)
      (copies_now chunk list v d 0 true (λ at k. absurd (none_stood k.t k.stood k.late)) messages copies)

  pub birth_agrees : AllSent (λ (m : Message). CopiesNone chunk m.to m.body) old.sent → (messages : List Message) (moment : Moment) → Posts moment nodes.Master messages old.sent new.sent → AreCopiedSince chunk d 0 true v messages
      → OriginShows (account_behind step old a new d).list new.sent chunk b v → Agrees (account_behind step old a new d) new.sent chunk b v
  birth_agrees none messages moment posted copies origin = record {
    lists = record { own = λ t stood late. absurd (none_stood t stood late); origin = origin };
    others = λ s. inl (list_born s);
    counts = counts_still config bytes chunk step old new a d (world_of b) v reached leads shows (masters_leave (world_of b) v leads masters).reached (λ j t. blank.reached j (stamp_at t));
    before = λ e upgrading was. absurd (never_known was);
    late = λ x there. absurd (let gone = none_told in cc);
    shown = λ x there. absurd (let gone = none_told in cc);
    first = λ known there. keeps.view ∙ sym later.born;
    copied = birth_copied none messages moment posted copies;
  }

pub births_agree : (D : Type 0) (config : Config) (bytes : ReqId → List ℕ) → BirthsAgree D config bytes
births_agree D config bytes chunk step old new a d b v blank servers leads masters shows shown calm rows none messages moment posted copies origin =
    birth_agrees config bytes chunk step old new a d b v blank servers leads masters shows calm rows none messages moment posted copies origin
