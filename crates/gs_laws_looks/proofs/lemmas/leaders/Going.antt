-- A chunk's machine over steps behind each of which nobody leads the chunk.
use Rattle.std.proofs.Common.{◌≡◌, ◌∙◌, inl, inr, ℕ, Bool, true, false, List, [], ◌∷◌, Option, Some, None, refl, sym, ap, subst}
use Rattle.std.specs.FinMap as fin
use Rattle.gs_base.specs.declared.numbers.ReqId.{ReqId}
use Rattle.gs_block.specs.Written.{TellsApart}
use Rattle.gs_laws_chunk.proofs.lemmas.machine.Facts.{reached_world}
use Rattle.gs_laws_chunk.proofs.lemmas.machine.Worlds.{WorldOk}
use Rattle.gs_laws_chunk.specs.machine.Events.{Leads}
use Rattle.gs_laws_chunk.specs.machine.Laws.{IsReached as IsReachedThere}
use Rattle.gs_laws_chunk.specs.machine.Machine.{ChunkWorld}
use Rattle.gs_laws_parts.specs.master.Showing.{primary_of}
use Rattle.gs_master_spec.specs.Applied.{view_in}
use Rattle.gs_master_spec.specs.Durable.{Settled}
use Rattle.gs_laws_parts.specs.server.Requests.{Asked, IsOfOneEdit, bytes_in}
use Rattle.gs_world.specs.Histories.{History}
use Rattle.gs_world.specs.Runs.{Step}
use Rattle.gs_laws_chunks.proofs.lemmas.accounts.Edits.{AreNumbered}
use Rattle.gs_laws_chunks.proofs.lemmas.accounts.Runs.{seen_of}
use Rattle.gs_laws_chunks.proofs.lemmas.accounts.SeeingThrough.{sees_step_through, through_stays}
use Rattle.gs_laws_chunks.proofs.lemmas.accounts.Viewing.{told_view}
use Rattle.gs_laws_chunks.proofs.lemmas.accounts.Well.{IsWell}
use Rattle.gs_laws_chunks.specs.accounts.Accounts.{Account, view_at}
use Rattle.gs_laws_chunks.specs.accounts.Joined.{IsSeen}
use Rattle.gs_laws_chunks.specs.accounts.Running.{IsGiven, Runs, Setup}
use Rattle.gs_laws_chunks.specs.accounts.Seeing.{Sees}
use Rattle.gs_laws_lift.proofs.lemmas.stores.Running.{before}
use Rattle.gs_laws_lift.specs.stores.Going.{AllSent, heard_in}
use Rattle.gs_laws_lift.specs.stores.Joint.{AtMaster, AtServer, Elsewhere, GoesBy}
use Rattle.gs_laws_lift.specs.stores.Left.{left_in}
use Rattle.gs_laws_lift.specs.stores.Living.{GoesOn, LivesOn}
use Rattle.gs_laws_lift.specs.stores.Saying.{PushRight}
use Rattle.gs_laws_lift.specs.stores.Showing.{IsAlive, Life}
use Rattle.gs_laws_looks.proofs.lemmas.leaders.Unheld.{StaysUnheld, unheld_still, unheld_then}
use Rattle.gs_laws_looks.specs.leaders.Unled.{IsUnledAt, RunsUnled}

-- ---- one chunk in one world

module _ {D : Type 0} (x : Setup D) (bytes : ReqId → List ℕ) (chunk : ℕ) (h : History D) (c : Account) (seen : IsSeen x bytes chunk h c) (unled : IsUnledAt c chunk) where
  abbrev v : ChunkWorld
  v = seen.alive.world

  okv : WorldOk v
  okv = reached_world v seen.alive.reached

  abbrev Free : Type 0
  Free = v.known.holder v.known.view ≡ None

  -- Nobody may number in the settled view: nobody leads one that is told, and a known chunk of which none is told was settled on none. Of one that is known no more it has to be said.
  pub free_now : (v.entry.is_known ≡ false → Free) → Free
  free_now faded = by_row (fin.get c.durable.chunks chunk) refl
    where
      by_known : (b : Bool) → v.entry.is_known ≡ b → fin.get c.durable.chunks chunk ≡ None → Free
      by_known false is none = faded is
      by_known true is none = sym (okv.entry).holder ∙ (seen.told.bare is none).holder

      by_row : (o : Option Settled) → fin.get c.durable.chunks chunk ≡ o → Free
      by_row None is = by_known v.entry.is_known refl is
      by_row (Some y) is =
          let told : view_at c chunk ≡ Some y.view = ap view_in is in
          sym (okv.entry).holder ∙ (told_view x bytes chunk h c seen y.view told).shows.holder ∙ ap primary_of (unled y.view told)

-- ---- at one step

module _ {D : Type 0} (x : Setup D) (bytes : ReqId → List ℕ) (chunk : ℕ) (step : Step) (old new : History D) (c : Account) (w : ChunkWorld) (reached : IsReachedThere w) (l : IsAlive x.seen x.config bytes chunk old) (s : StaysUnheld w l.world)
    (seen : IsSeen x bytes chunk new c) (unled : IsUnledAt c chunk) (epoch : c.durable.epoch ≡ w.entry.epoch) where
  abbrev m : ChunkWorld
  m = seen.alive.world

  step_unheld : Leads l.world m → GoesBy x.seen x.config bytes l.reached.0.epoch chunk step old new l.world m → StaysUnheld w m
  step_unheld leads (AtServer by) = unheld_still w l.world m reached s leads (ap (λ (y : ChunkWorld). y.entry) by.world ∙ by.steps.entry)
  step_unheld leads (AtMaster by) =
      unheld_then w l.world m reached s by.leads by.masters l.reached (seen.told.epoch ∙ epoch) (λ moved. free_now x bytes chunk new c seen unled (λ unknown. by.rows.fades unknown moved))
  step_unheld leads (Elsewhere still servers master node messages moment are posted) = unheld_still w l.world m reached s leads (ap (λ (y : ChunkWorld). y.entry) still)

-- ---- over many

module _ {D : Type 0} (x : Setup D) where
  pub bare : (chunk epoch : ℕ) (steps : List Step) (old new : History D) (a b : Account) → RunsUnled x chunk epoch steps old a new b → Runs x steps old a new b
  bare chunk epoch [] old new a b runs = runs
  bare chunk epoch (step ∷ steps) old new a b (mid, c, moves, unled, same, rest) = (mid, c, moves, bare chunk epoch steps mid new c b rest)

module _ {D : Type 0} (x : Setup D) (asked : ℕ → Asked) (given : IsGiven x) (law : AreNumbered) (apart : TellsApart x.among) (chunk epoch : ℕ) (w : ChunkWorld) (reached : IsReachedThere w) (now : w.entry.epoch ≡ epoch) where
  abbrev bytes : ReqId → List ℕ
  bytes = bytes_in asked

  abbrev Lives : History D → Type 0
  Lives h = Life x.seen x.config bytes chunk h

  -- All chunks are seen in a world, and this one lives there, with a machine in which nobody could number since.
  pub record SeesUnled (h : History D) (a : Account) : Type 0 where
    pub sees : Sees x asked (left_in h) a
    pub well : IsWell x h
    pub seen : IsSeen x bytes chunk (left_in h) a
    pub lives : sees.lives.life chunk ≡ inr seen.alive
    pub rests : StaysUnheld w seen.alive.world

  module _ (step : Step) (old mid : History D) (a c : Account) (s : SeesUnled old a) (sees : Sees x asked (left_in mid) c) (well : IsWell x mid) (unled : IsUnledAt c chunk) (same : c.durable.epoch ≡ epoch) (heard : Option ℕ) where
    abbrev Goes : Lives (left_in old) → Lives (left_in mid) → Type 0
    Goes l m = GoesOn x.seen x.config bytes chunk step heard (left_in old) (left_in mid) l m

    next_so : (life : Lives (left_in mid)) → sees.lives.life chunk ≡ life → Goes (inr s.seen.alive) life → SeesUnled mid c
    next_so (inl unborn) is goes = absurd goes
    next_so (inr m) is goes =
        let seen = seen_of x asked (left_in mid) c sees apart chunk m is in
        let on : LivesOn x.seen x.config bytes chunk step heard (left_in old) (left_in mid) s.seen.alive seen.0.alive =
        subst (λ (z : IsAlive x.seen x.config bytes chunk (left_in mid)). LivesOn x.seen x.config bytes chunk step heard (left_in old) (left_in mid) s.seen.alive z) (sym seen.1) goes in
        record {
          sees = sees;
          well = well;
          seen = seen.0;
          lives = is ∙ ap (λ (z : IsAlive x.seen x.config bytes chunk (left_in mid)). (let life : Lives (left_in mid) = inr z in life)) (sym seen.1);
          rests = step_unheld x bytes chunk step (left_in old) (left_in mid) c w reached s.seen.alive s.rests seen.0 unled (same ∙ sym now) on.leads on.by;
        }

    pub next : Goes (s.sees.lives.life chunk) (sees.lives.life chunk) → SeesUnled mid c
    next goes = next_so (sees.lives.life chunk) refl (subst (λ (life : Lives (left_in old)). Goes life (sees.lives.life chunk)) s.lives goes)

  pub sees_unled : (steps : List Step) (old new : History D) (a b : Account) → SeesUnled old a → RunsUnled x chunk epoch steps old a new b → AllSent (PushRight bytes) new.sent → AllSent (IsOfOneEdit asked) new.sent → SeesUnled new b
  sees_unled [] old new a b s runs right one = subst (λ (h : History D). SeesUnled h b) (sym runs.0) (subst (λ (d : Account). SeesUnled old d) (sym runs.1) s)
  sees_unled (step ∷ steps) old new a b s (mid, c, moves, unled, same, rest) right one =
      let stays = through_stays x given steps mid new c b (bare x chunk epoch steps mid new c b rest) in
      let goes = sees_step_through x asked given law apart step old mid a c s.sees s.well moves (before x.seen x.failures x.armed (PushRight bytes) mid.sent new.sent stays right) (before x.seen x.failures x.armed (IsOfOneEdit asked) mid.sent new.sent stays one) in
      let sees : Sees x asked (left_in mid) c = record { lives = goes.goes.last; tells = goes.tells; agrees = goes.agrees; intact = goes.intact } in
      sees_unled steps mid new c b (next step old mid a c s sees goes.well unled same (heard_in x.seen x.failures x.armed goes.goes.kind) (goes.goes.goes chunk)) rest right one
