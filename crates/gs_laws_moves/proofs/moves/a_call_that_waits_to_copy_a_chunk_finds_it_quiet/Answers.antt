use Rattle.std.proofs.Common.{refl}
use Rattle.std.specs.Prelude.{None}
use Rattle.gs_base.specs.declared.config.Config.{Config}
use Rattle.gs_laws_moves.proofs.lemmas.moves.Going.{settled_finds}
use Rattle.gs_laws_moves.proofs.moves.a_call_that_waits_to_copy_a_chunk_finds_it_quiet.Goals as goal

-- what is found doesn't depend on it
some_config : Config
some_config = record { servers = 1; racks = 1; replicas = 1; block = 1; chunk = 1; valid = refl }

pub returns : goal.returns
returns c heard s chunk asking carried view may firm told =
    settled_finds some_config None refl s chunk asking (record { stands = firm.stands; rolling = λ _. firm.rolling }) may.has may.known may.by carried may.moment view told may.view_is
