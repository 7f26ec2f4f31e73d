-- Where each step is plain, so is each run.
use Rattle.std.proofs.Common.{◌∙◌, ◌++◌, [], ◌∷◌, refl, ap, sym}
use Rattle.std.specs.Prelude.{Ok}
use Rattle.gs_laws_plain.proofs.lemmas.commands.Leading.{then_many}
use Rattle.gs_laws_chunks.proofs.lemmas.accounts.Holding.{reach_more}
use Rattle.gs_laws_chunks.specs.accounts.Accounts.{Account}
use Rattle.gs_laws_chunks.specs.accounts.Running.{Setup}
use Rattle.gs_laws_runs.specs.plain.Plainly.{RunsArePlain, StepsArePlain}
use Rattle.gs_laws_runs.specs.plain.Views.{plain_view}

module _ {D : Type 0} (x : Setup D) where
  pub runs_plain : StepsArePlain x → RunsArePlain x
  runs_plain plain old new a b [] reached runs = record { commands = []; go = refl; leads = ap (λ (k : Account). Ok (plain_view x.config.chunk k)) (sym runs.1) }
  runs_plain plain old new a b (step ∷ steps) reached (mid, c, one, rest) =
      let first = plain old mid a c step reached one in
      let more = runs_plain plain mid new c b steps (reach_more x old mid a c (step ∷ []) reached (mid, c, one, (refl, refl))) rest in
      record {
        commands = first.commands ++ more.commands;
        go = (first, more.commands, refl, more.go);
        leads = then_many x.config.chunk first.commands more.commands (plain_view x.config.chunk a) (plain_view x.config.chunk c) first.leads ∙ more.leads;
      }
