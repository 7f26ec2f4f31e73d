-- One look of a caller for a message.
use Rattle.std.specs.Prelude.{◌≡◌, ◌⊎◌, ◌+◌, ◌<◌, ℕ, List, Result, Ok, Err}
use Rattle.gs_base.specs.declared.refusal.Refusal.{Refusal}
use Rattle.gs_base.specs.declared.refusal.Refusal.TheVariants as refusals
use Rattle.gs_msg.specs.declared.sent.Sent.{Sent}
use Rattle.gs_cluster_core.specs.Roles.{DoesAs}
use Rattle.gs_cluster_core.specs.declared.role.Role.{Role}
use Rattle.gs_cluster_history.specs.Histories.{Kept}
use Rattle.gs_cluster_history.specs.declared.took.Took.TheVariants.{Heard}
use Rattle.gs_cluster_node.specs.Nodes.{Stepped, last_clock}
use Rattle.gs_cluster.specs.declared.patience.Patience.{Patience}

-- so often it looks before what was asked goes out once more
abbrev pub most_looks : ℕ
most_looks = 7000

-- It begins to look anew. Where it asked in vain that is counted.
pub record AsksAgain (old new : Patience) : Type 0 where
  pub looks : new.looks ≡ 0
  pub vain : (new.vain ≡ old.vain) ⊎ (new.vain ≡ old.vain + 1)
  pub heard : new.heard ≡ old.heard

-- it has looked once more, and hasn't asked
pub record LooksOn (old new : Patience) : Type 0 where
  pub few : new.looks < most_looks
  pub looks : new.looks ≡ old.looks + 1
  pub vain : new.vain ≡ old.vain
  pub heard : new.heard ≡ old.heard

-- what it asks in vain is counted from here
pub record Begins (old new : Patience) : Type 0 where
  pub looks : new.looks ≡ 0
  pub vain : new.vain ≡ old.vain
  pub heard : new.heard ≡ old.vain

module _ {D : Type 0} (seen : D → List ℕ) (failures : D → ℕ) where
  -- a message is heard
  pub record Hears (old new : Kept (Role D)) : Type 0 where
    pub sent : Sent
    pub said : Result (Unit {0}) Refusal
    pub step : Stepped (DoesAs seen failures) old (Heard sent) said new

  -- It hears a message, and begins to look anew. Or it hears nothing; then it has looked once more, or with the last of so many looks asked once more.
  -- Or, with nothing heard, its clock is at its last value.
  abbrev pub Looks : Kept (Role D) → Patience → Result (Unit {0}) Refusal → Kept (Role D) → Patience → Type 0
  Looks old before (Ok x) new after =
      (Hears old new × Begins before after)
      ⊎ ((new ≡ old) × (LooksOn before after ⊎ ((before.looks + 1 ≡ most_looks) × AsksAgain before after)))
  Looks old before (Err refusal) new after = (refusal ≡ refusals.Exhausted) × (new ≡ old) × (old.past.clock ≡ last_clock) × (after ≡ before)
