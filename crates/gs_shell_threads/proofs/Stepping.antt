-- Lines that a caller answers by itself.
use Rattle.std.proofs.Common.{◌≡◌, ℕ, MatchOption, Result, Err, refl}
use Rattle.gs_base.specs.declared.refusal.Refusal.{Refusal}
use Rattle.gs_base.specs.declared.refusal.Refusal.TheVariants as refusals
use Rattle.gs_client.specs.Trees.{Call}
use Rattle.gs_cluster.specs.declared.caller.Caller.{Caller}
use Rattle.gs_shell_calls.specs.Asked.{asked_by}
use Rattle.gs_shell_calls.specs.declared.answer.Answer.{Answer}
use Rattle.gs_shell_grammar.specs.Grammar.{request_of}
use Rattle.gs_shell_grammar.specs.declared.command.Command.{Command}
use Rattle.gs_shell_grammar.specs.declared.command.Command.TheVariants as command
use Rattle.gs_shell_grammar.specs.declared.command.Upgrade.{Upgrade}
use Rattle.gs_shell_grammar.specs.declared.command.UpgradeStep.{UpgradeStep}
use Rattle.gs_shell_threads.specs.Asked.{asked_in_threads}
use Rattle.gs_shell_threads.specs.Lines.{Sets}

-- what isn't of another kind asks what it asks of any store, or is a line about nodes and messages, which is bad
pub asks_as_ever : {N D T : Type 0} (size : ℕ) (c : Command) (stays : Type 0) (some : Call Answer → Type 0) (old new : Caller N D T) (result : Result Answer Refusal)
    → ((n : ℕ) → c ≡ command.At n → ⊥)
    → ((u : Upgrade) → c ≡ command.Upgrade u → ⊥)
    → ((s : UpgradeStep) → c ≡ command.Step s → ⊥)
    → MatchOption (asked_by size (request_of c)) ((result ≡ Err refusals.BadLine) × stays × (new ≡ old)) some
    → MatchOption (asked_in_threads size (request_of c)) (stays × Sets (request_of c) old result new) some
asks_as_ever size (command.Mkdir p) stays some old new result moment upgrade step so = so
asks_as_ever size (command.Create p) stays some old new result moment upgrade step so = so
asks_as_ever size (command.Ls p) stays some old new result moment upgrade step so = so
asks_as_ever size (command.Stat p) stays some old new result moment upgrade step so = so
asks_as_ever size (command.Mv p q) stays some old new result moment upgrade step so = so
asks_as_ever size (command.Rm p r) stays some old new result moment upgrade step so = so
asks_as_ever size (command.Undelete p) stays some old new result moment upgrade step so = so
asks_as_ever size (command.Snapshot p q) stays some old new result moment upgrade step so = so
asks_as_ever size (command.Write p o b) stays some old new result moment upgrade step so = so
asks_as_ever size (command.Append p b) stays some old new result moment upgrade step so = so
asks_as_ever size (command.Read p o m) stays some old new result moment upgrade step so = so
asks_as_ever size (command.Digest p k b) stays some old new result moment upgrade step so = so
asks_as_ever size command.Scan stays some old new result moment upgrade step so = so
asks_as_ever size command.Replicate stays some old new result moment upgrade step so = so
asks_as_ever size (command.Upgrade u) stays some old new result moment upgrade step so = absurd (upgrade u refl)
asks_as_ever size (command.Step s) stays some old new result moment upgrade step so = absurd (step s refl)
asks_as_ever size (command.At n) stays some old new result moment upgrade step so = absurd (moment n refl)
asks_as_ever size (command.Beat n) stays some old new result moment upgrade step so = (so.1, (so.0, so.2))
asks_as_ever size command.Tick stays some old new result moment upgrade step so = (so.1, (so.0, so.2))
asks_as_ever size (command.Restart n) stays some old new result moment upgrade step so = (so.1, (so.0, so.2))
asks_as_ever size (command.Lose n h) stays some old new result moment upgrade step so = (so.1, (so.0, so.2))
asks_as_ever size (command.Damage n h b) stays some old new result moment upgrade step so = (so.1, (so.0, so.2))
asks_as_ever size (command.Hold k) stays some old new result moment upgrade step so = (so.1, (so.0, so.2))
asks_as_ever size (command.Deliver n) stays some old new result moment upgrade step so = (so.1, (so.0, so.2))
