-- An upgrade within a run, and what of its prepare survives.
use Rattle.std.specs.Prelude.{[], slice_get, ◌&&◌, ◌==◌, ◌||◌, ◌∷◌, ◌≡◌, Bool, List, None, Option, Some, false, refl, true, ℕ}
use Rattle.std.specs.List.{AllByRecursion}
use Rattle.gs_base.specs.Members.{is_member}
use Rattle.gs_base.specs.declared.numbers.ClientId.{ClientId}
use Rattle.gs_base.specs.declared.numbers.Moment.{Moment}
use Rattle.gs_laws_chunks.specs.accounts.Accounts.{Account, view_at}
use Rattle.gs_laws_chunks.specs.accounts.Moving.{call_in, event_at}
use Rattle.gs_laws_moves.specs.moves.Epochs.{prepares}
use Rattle.gs_laws_chunks.specs.accounts.Running.{IsReached, Moves, Runs, Setup}
use Rattle.gs_master_spec.specs.Chunks.{members_in}
use Rattle.gs_store.specs.Calls as calls
use Rattle.gs_store.specs.Calls.{Call}
use Rattle.gs_master_spec.specs.Durable.{is_listed, is_ordinary, prepared_view}
use Rattle.gs_master_spec.specs.declared.asking.Prepared.{Prepared}
use Rattle.gs_world.specs.Histories.{History}
use Rattle.gs_world.specs.Runs.{Step, Comes, Takes}
use Rattle.gs_msg.specs.declared.event.Happening.{Happening}
use Rattle.gs_msg.specs.declared.event.Happening.TheVariants as happenings

-- what a rollback can take from: a server that has the chunk by its view at the prepare, or was journalled as a holder since
abbrev pub is_holder : ℕ → Option Prepared → Bool
is_holder server None = false
is_holder server (Some prepared) = is_member prepared.holders server

-- Of a chunk that a file had at the prepare, or before: a view that is kept of any other, as one that was taken out before a restart, is one that the master has no more.
abbrev pub is_current : Account → Account → ℕ → ℕ → Bool
is_current before now chunk server = is_listed before.durable chunk && (is_member (members_in (view_at before chunk)) server || is_holder server (prepared_view now.durable chunk))

-- Such a server survives where nothing of what it had was lost or damaged since: since the prepare, when each block of its live replica had its digest,
-- or since the copy that brought the sealed image.
pub record Survives (before now : Account) (chunk server : ℕ) : Type 0 where
  pub current : is_current before now chunk server ≡ true
  pub intact : now.intact chunk server ≡ true

-- a loss or damage of what a server has of a chunk
abbrev pub is_harm : ℕ → ℕ → Step → Bool
is_harm chunk server (Comes event) = harms event.happening
  where
    harms : Happening → Bool
    harms (happenings.Lose id handle) = (id == server) && (handle == chunk)
    harms (happenings.Damage id handle block) = (id == server) && (handle == chunk)
    harms happening = false
is_harm chunk server (Takes client) = false

abbrev pub Spare : ℕ → ℕ → List Step → Type 0
Spare chunk server steps = AllByRecursion (λ step. is_harm chunk server step ≡ false) steps

-- a call by which a server drops what it has of a chunk
abbrev pub is_drop : Option Call → Bool
is_drop (Some (calls.Drops promise)) = true
is_drop call = false

-- a call by which a server loses, damages or drops what it has of a chunk
abbrev pub is_harm_or_drop : Option Call → Bool
is_harm_or_drop (Some calls.Loses) = true
is_harm_or_drop (Some (calls.Damages block)) = true
is_harm_or_drop (Some (calls.Drops promise)) = true
is_harm_or_drop call = false

module _ {D : Type 0} (x : Setup D) where
  -- in no step of a run the server loses, damages or drops what it has of the chunk: a loss, a damage or a drop that it refuses is none
  abbrev pub HarmsOrDropsNone : (chunk server : ℕ) (steps : List Step) (old : History D) (a : Account) (new : History D) (b : Account) → Runs x steps old a new b → Type 0
  HarmsOrDropsNone chunk server [] old a new b runs = Unit {0}
  HarmsOrDropsNone chunk server (step ∷ steps) old a new b (mid, c, moves, rest) =
      (is_harm_or_drop (call_in chunk (event_at step old.sent server) (slice_get old.nodes.servers server)) ≡ false) × HarmsOrDropsNone chunk server steps mid c new b rest

  -- in no step of a run does it do so: a drop that it refuses is none
  abbrev pub DropsNone : (chunk server : ℕ) (steps : List Step) (old : History D) (a : Account) (new : History D) (b : Account) → Runs x steps old a new b → Type 0
  DropsNone chunk server [] old a new b runs = Unit {0}
  DropsNone chunk server (step ∷ steps) old a new b (mid, c, moves, rest) =
      (is_drop (call_in chunk (event_at step old.sent server) (slice_get old.nodes.servers server)) ≡ false) × DropsNone chunk server steps mid c new b rest

  -- steps behind each of which an upgrade stands, or is being rolled back: none is finalized or rolled back
  abbrev pub RunsUpgraded : List Step → History D → Account → History D → Account → Type 0
  RunsUpgraded [] old a new b = (new ≡ old) × (b ≡ a)
  RunsUpgraded (step ∷ steps) old a new b =
      (mid : History D) × (c : Account) × Moves x step old a mid c × (is_ordinary c.durable.phase ≡ false) × RunsUpgraded steps mid c new b

  -- A prepare was accepted at the step that led to a world; and since then, up to another, no finalize was, nor was a rollback done.
  pub record IsUpgrading (prepared : History D) (before : Account) (now : History D) (after : Account) : Type 0 where
    pub old : History D
    pub first : Account
    pub reached : IsReached x old first
    pub step : Step
    pub moves : Moves x step old first prepared before
    pub accepted : prepares first.durable before.durable ≡ true
    pub steps : List Step
    pub runs : RunsUpgraded steps prepared before now after

-- ---- Worked
what_a_client_takes_harms_nothing : (client : ClientId) → is_harm 7 1 (Takes client) ≡ false
what_a_client_takes_harms_nothing client = refl

a_loss_of_another_chunk : (moment : Moment) → is_harm 7 1 (Comes (record { moment = moment; happening = happenings.Lose 1 8 })) ≡ false
a_loss_of_another_chunk moment = refl

its_own_loss : (moment : Moment) → is_harm 7 1 (Comes (record { moment = moment; happening = happenings.Lose 1 7 })) ≡ true
its_own_loss moment = refl
