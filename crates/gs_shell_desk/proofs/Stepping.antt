-- Lines that ask something of the store.
use Rattle.std.proofs.Common.{◌≡◌, ℕ, MatchOption, Option, refl}
use Rattle.gs_shell_calls.specs.Asked.{asked_by}
use Rattle.gs_shell_calls.specs.declared.answer.Answer.{Answer}
use Rattle.gs_client.specs.Trees.{Call}
use Rattle.gs_shell_grammar.specs.declared.command.Restarted.{Restarted}
use Rattle.gs_msg.specs.declared.kind.Kind.{Kind}
use Rattle.gs_shell_grammar.specs.Grammar.{request_of}
use Rattle.gs_shell_grammar.specs.declared.command.Command.{Command}
use Rattle.gs_shell_grammar.specs.declared.command.Command.TheVariants as command

-- what none of the lines is that are about nodes and messages asks something
pub asks_something : (size : ℕ) (c : Command) (none other : Type 0) (some : Call Answer → Type 0)
    → ((n : ℕ) → c ≡ command.Beat n → ⊥)
    → (c ≡ command.Tick → ⊥)
    → ((n : ℕ) → c ≡ command.At n → ⊥)
    → ((n : Restarted) → c ≡ command.Restart n → ⊥)
    → ((n : ℕ) (h : ℕ) → c ≡ command.Lose n h → ⊥)
    → ((n : ℕ) (h : ℕ) (b : ℕ) → c ≡ command.Damage n h b → ⊥)
    → ((k : Option Kind) → c ≡ command.Hold k → ⊥)
    → ((n : ℕ) → c ≡ command.Deliver n → ⊥)
    → MatchOption (asked_by size (request_of c)) none some → MatchOption (asked_by size (request_of c)) other some
asks_something size (command.Mkdir p) none other some beat tick moment restart lose damage hold deliver so = so
asks_something size (command.Create p) none other some beat tick moment restart lose damage hold deliver so = so
asks_something size (command.Ls p) none other some beat tick moment restart lose damage hold deliver so = so
asks_something size (command.Stat p) none other some beat tick moment restart lose damage hold deliver so = so
asks_something size (command.Mv p q) none other some beat tick moment restart lose damage hold deliver so = so
asks_something size (command.Rm p r) none other some beat tick moment restart lose damage hold deliver so = so
asks_something size (command.Undelete p) none other some beat tick moment restart lose damage hold deliver so = so
asks_something size (command.Snapshot p q) none other some beat tick moment restart lose damage hold deliver so = so
asks_something size (command.Write p o b) none other some beat tick moment restart lose damage hold deliver so = so
asks_something size (command.Append p b) none other some beat tick moment restart lose damage hold deliver so = so
asks_something size (command.Read p o m) none other some beat tick moment restart lose damage hold deliver so = so
asks_something size (command.Digest p k b) none other some beat tick moment restart lose damage hold deliver so = so
asks_something size command.Scan none other some beat tick moment restart lose damage hold deliver so = so
asks_something size command.Replicate none other some beat tick moment restart lose damage hold deliver so = so
asks_something size (command.Upgrade u) none other some beat tick moment restart lose damage hold deliver so = so
asks_something size (command.Step u) none other some beat tick moment restart lose damage hold deliver so = so
asks_something size (command.Beat n) none other some beat tick moment restart lose damage hold deliver so = absurd (beat n refl)
asks_something size command.Tick none other some beat tick moment restart lose damage hold deliver so = absurd (tick refl)
asks_something size (command.At n) none other some beat tick moment restart lose damage hold deliver so = absurd (moment n refl)
asks_something size (command.Restart n) none other some beat tick moment restart lose damage hold deliver so = absurd (restart n refl)
asks_something size (command.Lose n h) none other some beat tick moment restart lose damage hold deliver so = absurd (lose n h refl)
asks_something size (command.Damage n h b) none other some beat tick moment restart lose damage hold deliver so = absurd (damage n h b refl)
asks_something size (command.Hold k) none other some beat tick moment restart lose damage hold deliver so = absurd (hold k refl)
asks_something size (command.Deliver n) none other some beat tick moment restart lose damage hold deliver so = absurd (deliver n refl)
