-- What only looks leaves the machine, where nothing is owed but what is late.
use Rattle.std.proofs.Common.{inl, inr, ◌∙◌}
use Rattle.std.specs.Prelude.{◌≡◌, Err, List, None, Ok, Option, Result, Some, ℕ}
use Rattle.gs_base.specs.declared.refusal.Refusal.{Refusal}
use Rattle.gs_path.specs.Path.{Path}
use Rattle.gs_path.specs.Rules.{parse_hidden}
use Rattle.gs_shell_calls.specs.declared.answer.Answer.{Answer}
use Rattle.gs_shell_grammar.specs.Grammar as lines
use Rattle.gs_tree.specs.Entry.{Dir, Entry, File}
use Rattle.gs_tree.specs.Find.{at}
use Rattle.gs_laws_scripts.specs.explained.Lines.{Digests, Leads, OfFile, OnPath, Reads, Stats}
use Rattle.gs_laws_scripts.specs.explained.Machine.{Machine, Text}
use Rattle.gs_laws_scripts.proofs.lemmas.explained.Quiet.{IsStill, nothing_now}

-- what a line does that finds something at its path leaves the machine
abbrev Leaves : (Path → Option (Entry Text) → Machine → Result Answer Refusal → Machine → Type 0) → Type 0
Leaves Does = (p : Path) (found : Option (Entry Text)) (old new : Machine) (answer : Result Answer Refusal) → Does p found old answer new → new ≡ old

stats_leave : (size : ℕ) → Leaves (Stats size)
stats_leave size p None old new answer (e, same) = same
stats_leave size p (Some Dir) old new answer (e, same) = same
stats_leave size p (Some (File texts)) old new answer (picks, chunks, long, e, same) = same

reads_leave : (size offset many : ℕ) → Leaves (OfFile (Reads size offset many))
reads_leave size offset many p None old new answer (e, same) = same
reads_leave size offset many p (Some Dir) old new answer (e, same) = same
reads_leave size offset many p (Some (File texts)) old new answer (first, second, e, same) = same

digests_leave : (size block chunk index : ℕ) → Leaves (OfFile (Digests size block chunk index))
digests_leave size block chunk index p None old new answer (e, same) = same
digests_leave size block chunk index p (Some Dir) old new answer (e, same) = same
digests_leave size block chunk index p (Some (File texts)) old new answer (picks, e, same) = same

on_path : (Does : Path → Option (Entry Text) → Machine → Result Answer Refusal → Machine → Type 0) → Leaves Does → (size : ℕ) (path : Result Path Refusal) (old new : Machine) (answer : Result Answer Refusal) → IsStill old → OnPath size path Does old answer new → new ≡ old
on_path Does leaves size (Err refusal) old new answer still (e, same) = same
on_path Does leaves size (Ok p) old new answer still (payments, now, is, inl (refusal, e, store, same)) = same ∙ is ∙ nothing_now size payments old still
on_path Does leaves size (Ok p) old new answer still (payments, now, is, inr (free, does)) = leaves p (at now.plain.tree p) now new answer does ∙ is ∙ nothing_now size payments old still

-- `stat`, `read` and `digest` of any path, whatever they are answered
pub stat_leaves : (size block : ℕ) (path : List ℕ) (old new : Machine) (answer : Result Answer Refusal) → IsStill old → Leads size block (lines.Stat path) old answer new → new ≡ old
stat_leaves size block path old new answer still leads = on_path (Stats size) (stats_leave size) size (parse_hidden path) old new answer still leads

pub read_leaves : (size block : ℕ) (path : List ℕ) (offset many : ℕ) (old new : Machine) (answer : Result Answer Refusal) → IsStill old → Leads size block (lines.Read path offset many) old answer new → new ≡ old
read_leaves size block path offset many old new answer still leads = on_path (OfFile (Reads size offset many)) (reads_leave size offset many) size (parse_hidden path) old new answer still leads

pub digest_leaves : (size block : ℕ) (path : List ℕ) (chunk index : ℕ) (old new : Machine) (answer : Result Answer Refusal) → IsStill old → Leads size block (lines.Digest path chunk index) old answer new → new ≡ old
digest_leaves size block path chunk index old new answer still leads = on_path (OfFile (Digests size block chunk index)) (digests_leave size block chunk index) size (parse_hidden path) old new answer still leads
