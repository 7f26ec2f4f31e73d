-- Lines that look, are about nodes, or change the tree and tell what came of that are explained in a script, right after a prepare or a rollback that is accepted.
use Rattle.std.proofs.Common.{[], ap, inl, inr, subst, ◌++◌, ◌∷◌, ◌∙◌, ◌≡◌, ◌⊎◌, List, Option, Result, true, ℕ}
use Rattle.std.specs.Prelude.{codes, decimal}
use Rattle.gs_base.specs.declared.config.Config.{Config}
use Rattle.gs_journal.specs.Memory.{bytes_of, times_failed}
use Rattle.gs_journal.specs.Records.{fresh, standing}
use Rattle.gs_laws_chunks.proofs.lemmas.desks.Lines.{start_reaches}
use Rattle.gs_laws_chunks.specs.desks.Within.{IsReachedWithin}
use Rattle.gs_nodes.specs.NewDisks.{OverEmpty}
use Rattle.gs_shell.proofs.Answered.{answers}
use Rattle.gs_shell.specs.Answering.{Answers}
use Rattle.gs_shell.specs.Telling.{Tells}
use Rattle.gs_shell.specs.Watching.{both_watched, failures_of, seen_of}
use Rattle.gs_shell.specs.declared.trouble.Trouble.{Trouble}
use Rattle.gs_shell_desk.specs.Starting.{Starts}
use Rattle.gs_shell_desk.specs.declared.desk.Desk.{Desk}
use Rattle.gs_shell_grammar.specs.Grammar.{Request}
use Rattle.gs_shell_script.specs.Run.{lines_of}
use Rattle.gs_shell_script.specs.declared.RunFault.{RunFault}
use Rattle.gs_world.proofs.Reaching.{HaveSizes}
use Rattle.gs_laws_scripts.proofs.lemmas.explained.Committed.{commits_stand}
use Rattle.gs_laws_scripts.proofs.lemmas.explained.ChangeLines.{calm_lines_go}
use Rattle.gs_laws_scripts.proofs.lemmas.lists.Scripts.{Epoch_at, Line_answered, Lines_run, one_more, prepared, reached, rolled, split}
use Rattle.gs_laws_scripts.proofs.lemmas.reads.Clients.{lines_mine}
use Rattle.gs_laws_scripts.specs.answers.Meeting.{IsClientOf}
use Rattle.gs_laws_scripts.specs.explained.CalmCommits.{CalmAfterACommit, CalmLinesAfter, CalmUntilAReadFails, CalmUntilAWriteFails, HasCalmLines}
use Rattle.gs_laws_scripts.specs.explained.Commits.{AreExplainedFrom}
use Rattle.gs_laws_scripts.specs.explained.Standing.{phase_after}
use Rattle.gs_laws_scripts.specs.lists.Lines.{commits_prepare, commits_rollback}
use Rattle.gs_laws_scripts.specs.lists.Scripts.{AsksFor}
use Rattle.gs_laws_scripts.proofs.lemmas.lists.Listing.{empty_disks}

module _ (sizes : HaveSizes) {D : Type 0} (seen : D → List ℕ) (failures : D → ℕ) (config : Config) (disks : D × D) (size block : ℕ) (empty : standing (seen disks.0) (seen disks.1) ≡ fresh) where
  -- which answer a prepare or a rollback has
  epoch_at : (by : Request) → (commits_prepare by ≡ true) ⊎ (commits_rollback by ≡ true) → (line : List ℕ) (epoch : ℕ) (old new : Desk D) → AsksFor by line → Line_answered seen failures old line (codes "ok " ++ decimal epoch) new → Epoch_at seen failures by epoch old new
  epoch_at by (inl prepares) line epoch old new asks answered = prepared seen failures by prepares line epoch old new asks answered
  epoch_at by (inr rolls) line epoch old new asks answered = rolled seen failures by rolls line epoch old new asks answered

  module _ (all texts : List (List ℕ)) (q : HasCalmLines all texts) (ended : Desk D) where
    by_commit : (start mid : Desk D) → IsReachedWithin seen failures config disks start → IsClientOf config start.caller.client → Line_answered seen failures start q.commit (codes "ok " ++ decimal q.epoch) mid
        → Lines_run seen failures mid (q.calm ++ q.later) (q.texts_calm ++ q.texts_later) ended → AreExplainedFrom size block q.epoch (phase_after q.commits) q.calm q.texts_calm
    by_commit start mid there mine answered rest =
        let told = epoch_at q.by q.commits q.commit q.epoch start mid q.asks answered in
        let stands = commits_stand sizes seen failures config disks start mid q.by told.number empty there mine q.commits told.comes in
        let parts = split seen failures q.calm q.texts_calm q.later q.texts_later mid ended q.long_calm rest in
        let found = calm_lines_go seen failures config size block q.calm q.texts_calm mid parts.0 stands.0 stands.1 q.are parts.1 in (stands.0, ap decimal stands.2 ∙ told.digits, stands.3, found.0, found.1)

    by_first : (start : Desk D) → IsReachedWithin seen failures config disks start → IsClientOf config start.caller.client
        → Lines_run seen failures start (q.commit ∷ (q.calm ++ q.later)) ((codes "ok " ++ decimal q.epoch) ∷ (q.texts_calm ++ q.texts_later)) ended → AreExplainedFrom size block q.epoch (phase_after q.commits) q.calm q.texts_calm
    by_first start there mine (mid, answered, rest) = by_commit start mid there mine answered rest

    from_reached : (begun : Desk D) → IsReachedWithin seen failures config disks begun → IsClientOf config begun.caller.client → Lines_run seen failures begun all texts ended → AreExplainedFrom size block q.epoch (phase_after q.commits) q.calm q.texts_calm
    from_reached begun there mine runs =
        let lined = subst (λ ls. Lines_run seen failures begun ls texts ended) q.lines_are runs in
        let told = subst (λ ts. Lines_run seen failures begun (q.before ++ q.commit ∷ (q.calm ++ q.later)) ts ended) q.texts_are lined in
        let first = split seen failures q.before q.texts_before (q.commit ∷ (q.calm ++ q.later)) ((codes "ok " ++ decimal q.epoch) ∷ (q.texts_calm ++ q.texts_later)) begun ended q.long_before told in
        by_first first.0 (reached seen failures config disks q.before q.texts_before begun first.0 first.1 there) (lines_mine seen failures config q.before q.texts_before begun first.0 first.1 mine) first.2

  -- lines that are answered one after the other from a store's beginning on
  from_start : (begun ended : Desk D) → Starts seen failures config disks begun → (all texts : List (List ℕ)) → Lines_run seen failures begun all texts ended → CalmLinesAfter size block all texts
  from_start begun ended starts all texts runs q = from_reached all texts q ended begun (start_reaches seen failures config disks begun starts) (ap (λ c. c.last.client) starts.client, ap (λ c. c.chunk) starts.client) runs

module _ (sizes : HaveSizes) {D : Type 0} where
  pub calm_after_a_commit : CalmAfterACommit D
  calm_after_a_commit seen failures config disks input old new s empty = from_start sizes seen failures config disks config.chunk config.block empty s.begun s.ended s.starts (lines_of input) s.writes.texts s.writes.runs

  pub calm_until_a_read_fails : CalmUntilAReadFails D
  calm_until_a_read_fails seen failures config disks input left old new s empty = from_start sizes seen failures config disks config.chunk config.block empty s.begun s.ended s.starts s.fails.lines s.fails.written.texts s.fails.written.runs

  pub calm_until_a_write_fails : CalmUntilAWriteFails D
  calm_until_a_write_fails seen failures config disks input left old new s empty = (
    from_start sizes seen failures config disks config.chunk config.block empty s.begun s.fails.before s.starts s.fails.lines s.fails.written.texts s.fails.written.runs,
    from_start sizes seen failures config disks config.chunk config.block empty s.begun s.ended s.starts (s.fails.lines ++ s.fails.line ∷ []) (s.fails.written.texts ++ s.fails.text ∷ [])
        (one_more seen failures s.fails.lines s.fails.written.texts s.fails.line s.fails.text s.begun s.fails.before s.ended s.fails.written.runs s.fails.answers),
  )

-- ---- a run of the shell

pub run_calm_after_a_commit : HaveSizes → (config : Config) (trouble : Trouble) (r : Result (Unit {0}) RunFault) (before left old new : Option (List ℕ)) → OverEmpty (λ disks. Tells bytes_of times_failed config disks trouble r before left old new)
    → Answers (CalmLinesAfter config.chunk config.block) r before left old new
run_calm_after_a_commit sizes config trouble r before left old new (disks, empty, told) =
    answers bytes_of times_failed config disks trouble (CalmLinesAfter config.chunk config.block)
    (λ begun ended starts it input lines more texts parts runs.
    from_start sizes (seen_of bytes_of) (failures_of times_failed) config (both_watched disks) config.chunk config.block (empty_disks disks empty) begun ended starts lines texts runs)
    left old new r before told
