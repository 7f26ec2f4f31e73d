-- What the making of a configuration answers.
use Rattle.std.specs.Prelude.{◌≡◌, ℕ, false, Result, Ok, Err}
use Rattle.gs_base.specs.Configs.{is_config}
use Rattle.gs_base.specs.declared.config.Config.{Config}
use Rattle.gs_base.specs.declared.refusal.Refusal.{Refusal}
use Rattle.gs_base.specs.declared.refusal.Refusal.TheVariants as refusals

-- the configuration of these sizes, and a refusal exactly where they are none
abbrev pub Configured : ℕ → ℕ → ℕ → ℕ → ℕ → Result Config Refusal → Type 0
Configured servers racks replicas block chunk (Ok c) =
    (c.servers ≡ servers) × (c.racks ≡ racks) × (c.replicas ≡ replicas) × (c.block ≡ block) × (c.chunk ≡ chunk)
Configured servers racks replicas block chunk (Err e) = (e ≡ refusals.Config) × (is_config servers racks replicas block chunk ≡ false)
