-- Looks come back. Between a prepare and the rollback to the next epoch the tree that was kept stays, and after either nothing is owed.
use Rattle.std.proofs.Common.{ap, arith, inl, inr, subst, sym, true≢false, ◌∙◌}
use Rattle.std.specs.Prelude.{[], ◌&&◌, ◌+◌, ◌++◌, ◌<◌, ◌^◌, ◌∷◌, ◌≡◌, ◌⊎◌, Bool, Err, List, None, Ok, Option, Result, Some, codes, decimal, false, if◌then◌else◌, length, map, not, refl, true, unwrap_or, ℕ}
use Rattle.std.specs.List.{AllByRecursion}
use Rattle.std.specs.Char.{encode_utf8}
use Rattle.std.specs.Fmt.{digits}
use Rattle.std.specs.Str.{chars, is_utf8}
use Rattle.hex.specs.Hex.{decode_pairs, encode_with}
use Rattle.gs_shell_grammar.specs.Grammar.{append_line, four_words, hold_line, number_line, one_word, read_line, three_words, two_words, upgrade_line, write_line}
use Rattle.gs_base.specs.declared.refusal.Refusal.{Refusal}
use Rattle.gs_base.specs.declared.refusal.Refusal.TheVariants as refusals
use Rattle.gs_edit.specs.Mapped.{mapped_rows}
use Rattle.gs_master_spec.specs.Calls.{is_always_taken, is_work}
use Rattle.gs_msg.specs.declared.answer.Answer.{Answer as Said}
use Rattle.gs_msg.specs.declared.answer.Answer.TheVariants as says
use Rattle.gs_msg.specs.declared.answer.Phase.{Phase}
use Rattle.gs_msg.specs.declared.answer.Phase.TheVariants as phases
use Rattle.gs_msg.specs.declared.call.Call.{Call}
use Rattle.gs_msg.specs.declared.call.Call.TheVariants as calls
use Rattle.gs_path.specs.Path.{Path}
use Rattle.gs_path.specs.Rules.{parse_hidden}
use Rattle.gs_shell_calls.specs.Asked.{answered}
use Rattle.gs_shell_calls.specs.Texts.{answer_text}
use Rattle.gs_shell_calls.specs.declared.answer.Answer.{Answer}
use Rattle.gs_shell_calls.specs.declared.answer.Answer.TheVariants as answers
use Rattle.gs_shell_desk.specs.Answering.{IsText}
use Rattle.gs_shell_grammar.specs.Grammar.{Request}
use Rattle.gs_shell_grammar.specs.Grammar as lines
use Rattle.gs_shell_grammar.specs.declared.command.Restarted.TheVariants as restarted
use Rattle.gs_shell_grammar.specs.declared.command.Upgrade.TheVariants as upgrades
use Rattle.gs_shell_grammar.specs.declared.command.UpgradeStep.TheVariants as steps
use Rattle.gs_laws_scripts.specs.plain.Machines.{asked_in, on}
use Rattle.gs_shell_script.specs.Run.{Runs}
use Rattle.gs_tree.specs.Entry.{Dir, Entry, File}
use Rattle.gs_tree.specs.Find.{Rows}
use Rattle.gs_tree.specs.Mapped.{mapped_entry}
use Rattle.gs_laws_scripts.specs.explained.Following.{AreAlike, IsPlain, LooksComeBack, LooksTwice, TextsAreAlike, is_look, is_prepare, is_rollback, passes_by}
use Rattle.gs_laws_scripts.specs.explained.Lines.{AsksNow, AsksOne, AsksTree, BeginsAnew, Digests, Explains, GivesUp, IsSaid, Leads, OfFile, Passes, Reads, Stats, anew, told}
use Rattle.gs_laws_scripts.specs.explained.Machine.{Machine, Text, begins_prepare, begins_rollback, called, commits_prepare, commits_rollback, finalizes, gives_up, is_preparing, is_rolling, new_machine, paid_now, prepared_machine, quiet, rolled_back, taken, tree_called, tree_said}
use Rattle.gs_laws_scripts.proofs.lemmas.explained.Alike.{IsSure, accepted_plain, alike_said, digests_alike, list_said, no_memory, on_path_alike, plain_sure, reads_alike, refused_never, same_digits, same_number, stats_alike, sure_now, sure_said, alike_to}
use Rattle.gs_laws_scripts.proofs.lemmas.explained.Keeping.{ComesTo, IsKept, asked_keeps, comes_to, payments_keep, runs_keep}
use Rattle.gs_laws_scripts.proofs.lemmas.explained.Looking.{digest_leaves, read_leaves, stat_leaves}
use Rattle.gs_laws_scripts.proofs.lemmas.explained.Quiet.{AreQuiet, IsQuietEntry, IsStill, RowsAreQuiet, nothing_now}

-- ---- what stands between a prepare and its rollback

-- The upgrade of this epoch; or the rollback from it is begun; or another epoch holds, in which no rollback to the next one is begun.
abbrev Between : ℕ → Rows Text → Machine → Type 0
Between epoch rows m =
    ((m.epoch ≡ epoch) × (m.phase ≡ phases.Upgrade) × (m.plain.kept ≡ Some rows))
    ⊎ (((m.epoch ≡ epoch + 1) × (m.phase ≡ phases.Rolling) × (m.plain.kept ≡ Some rows))
    ⊎ ((epoch < m.epoch) × (is_rolling m.phase ≡ true → epoch + 1 < m.epoch)))

module _ (epoch : ℕ) (rows : Rows Text) where
  begins_prepare_between : (phase : Phase) (m : Machine) → phase ≡ m.phase → Between epoch rows m → Between epoch rows (begins_prepare phase m).1
  begins_prepare_between phases.Ordinary m is (inl (at_epoch, at_phase, at_kept)) = absurd (cc)
  begins_prepare_between phases.Ordinary m is (inr (inl (at_epoch, at_phase, at_kept))) = absurd (cc)
  begins_prepare_between phases.Ordinary m is (inr (inr (less, rolls))) = inr (inr (less, λ r. absurd (true≢false (sym r))))
  begins_prepare_between phase m is h = h

  commits_prepare_between : (phase : Phase) (m : Machine) → phase ≡ m.phase → Between epoch rows m → Between epoch rows (commits_prepare phase m).1
  commits_prepare_between phases.Preparing m is (inl (at_epoch, at_phase, at_kept)) = absurd (cc)
  commits_prepare_between phases.Preparing m is (inr (inl (at_epoch, at_phase, at_kept))) = absurd (cc)
  commits_prepare_between phases.Preparing m is (inr (inr (less, rolls))) = inr (inr (omega arith, λ r. absurd (true≢false (sym r))))
  commits_prepare_between phase m is h = h

  gives_up_between : (phase : Phase) (m : Machine) → phase ≡ m.phase → Between epoch rows m → Between epoch rows (gives_up phase m).1
  gives_up_between phases.Preparing m is (inl (at_epoch, at_phase, at_kept)) = absurd (cc)
  gives_up_between phases.Preparing m is (inr (inl (at_epoch, at_phase, at_kept))) = absurd (cc)
  gives_up_between phases.Preparing m is (inr (inr (less, rolls))) = inr (inr (less, λ r. absurd (true≢false (sym r))))
  gives_up_between phase m is h = h

  finalizes_between : (phase : Phase) (m : Machine) → phase ≡ m.phase → Between epoch rows m → Between epoch rows (finalizes phase m).1
  finalizes_between phases.Upgrade m is (inl (at_epoch, at_phase, at_kept)) = inr (inr (omega arith, λ r. absurd (true≢false (sym r))))
  finalizes_between phases.Upgrade m is (inr (inl (at_epoch, at_phase, at_kept))) = absurd (cc)
  finalizes_between phases.Upgrade m is (inr (inr (less, rolls))) = inr (inr (omega arith, λ r. absurd (true≢false (sym r))))
  finalizes_between phase m is h = h

  begins_rollback_between : (phase : Phase) (m : Machine) → phase ≡ m.phase → Between epoch rows m → Between epoch rows (begins_rollback phase m).1
  begins_rollback_between phases.Upgrade m is (inl (at_epoch, at_phase, at_kept)) = inr (inl (ap (λ n. n + 1) at_epoch, refl, at_kept))
  begins_rollback_between phases.Upgrade m is (inr (inl (at_epoch, at_phase, at_kept))) = absurd (cc)
  begins_rollback_between phases.Upgrade m is (inr (inr (less, rolls))) = inr (inr (omega arith, λ r. omega arith))
  begins_rollback_between phase m is h = h

  commits_rollback_between : (phase : Phase) (m : Machine) → phase ≡ m.phase → Between epoch rows m → Between epoch rows (commits_rollback phase m).1
  commits_rollback_between phases.Rolling m is (inl (at_epoch, at_phase, at_kept)) = absurd (cc)
  commits_rollback_between phases.Rolling m is (inr (inl (at_epoch, at_phase, at_kept))) = inr (inr (omega arith, λ r. absurd (true≢false (sym r))))
  commits_rollback_between phases.Rolling m is (inr (inr (less, rolls))) = inr (inr (less, λ r. absurd (true≢false (sym r))))
  commits_rollback_between phase m is h = h

  tree_called_between : (call : Call) (said : Result Said Refusal) (m : Machine) → Between epoch rows m → Between epoch rows (tree_called call said m).1
  tree_called_between call (Ok said) m h = h
  tree_called_between call (Err refusal) m h = h

  taken_between : (call : Call) (m : Machine) → Between epoch rows m → Between epoch rows (taken call m).1
  taken_between calls.Query m h = h
  taken_between calls.PrepareBegin m h = begins_prepare_between m.phase m refl h
  taken_between calls.PrepareCommit m h = commits_prepare_between m.phase m refl h
  taken_between calls.PrepareAbort m h = gives_up_between m.phase m refl h
  taken_between calls.Finalize m h = finalizes_between m.phase m refl h
  taken_between calls.RollbackBegin m h = begins_rollback_between m.phase m refl h
  taken_between calls.RollbackCommit m h = commits_rollback_between m.phase m refl h
  taken_between calls.Scan m h = h
  taken_between call m h = tree_called_between call (tree_said call m) m h

  gate_between : (b c : Bool) (one another : Refusal) (m : Machine) (went : Result Said Refusal × Machine) → Between epoch rows m → Between epoch rows went.1 → Between epoch rows (if b then (Err one, m) else if c then (Err another, m) else went).1
  gate_between true c one another m went h goes = h
  gate_between false true one another m went h goes = h
  gate_between false false one another m went h goes = goes

  called_between : (call : Call) (m : Machine) → Between epoch rows m → Between epoch rows (called call m).1
  called_between call m h = gate_between (is_rolling m.phase && not (is_always_taken call)) (is_preparing m.phase && is_work call) refusals.RollingBack refusals.Preparing m (taken call m) h (taken_between call m h)

  anew_rolls : (phase : Phase) → is_rolling (if is_preparing phase then phases.Ordinary else phase) ≡ true → is_rolling phase ≡ true
  anew_rolls phases.Preparing r = absurd (true≢false (sym r))
  anew_rolls phase r = r

  anew_between : (m : Machine) → Between epoch rows m → Between epoch rows (anew m)
  anew_between m (inl (at_epoch, at_phase, at_kept)) = inl (at_epoch, ap (λ phase. if is_preparing phase then phases.Ordinary else phase) at_phase, at_kept)
  anew_between m (inr (inl (at_epoch, at_phase, at_kept))) = inr (inl (at_epoch, ap (λ phase. if is_preparing phase then phases.Ordinary else phase) at_phase, at_kept))
  anew_between m (inr (inr (less, rolls))) = inr (inr (less, λ r. rolls (anew_rolls m.phase r)))

  between_is_kept : IsKept (Between epoch rows)
  between_is_kept = record { calls = called_between; rows = λ all m h. h; lates = λ late m h. h; waits = λ waiting m h. h; moments = λ moment m h. h; anews = anew_between }

  -- a rollback that is committed in the next epoch puts back what was kept
  kept_is : (m : Machine) → Between epoch rows m → m.phase ≡ phases.Rolling → m.epoch ≡ epoch + 1 → m.plain.kept ≡ Some rows
  kept_is m (inl (at_epoch, at_phase, at_kept)) rolling is = absurd (cc)
  kept_is m (inr (inl (at_epoch, at_phase, at_kept))) rolling is = at_kept
  kept_is m (inr (inr (less, rolls))) rolling is = absurd (omega (arith, rolls (ap is_rolling rolling)))

-- ---- calm machines

-- this tree, where nothing is owed, no call waits and no upgrade is under way
pub record IsCalm (rows : Rows Text) (m : Machine) : Type 0 where
  pub tree : m.plain.tree ≡ rows
  pub waiting : m.waiting ≡ []
  pub rolling : is_rolling m.phase ≡ false
  pub preparing : is_preparing m.phase ≡ false

calm_still : (rows : Rows Text) (m : Machine) → RowsAreQuiet rows → IsCalm rows m → IsStill m
calm_still rows m quiet calm = record { quiet = subst RowsAreQuiet (sym calm.tree) quiet; waiting = calm.waiting }

listed_leaves : (p : Path) (said : Result Said Refusal) (m : Machine) → (tree_called (calls.List p) said m).1 ≡ m
listed_leaves p (Ok said) m = refl
listed_leaves p (Err refusal) m = refl

gate_leaves : (b c : Bool) (one another : Refusal) (m : Machine) (went : Result Said Refusal × Machine) → went.1 ≡ m → (if b then (Err one, m) else if c then (Err another, m) else went).1 ≡ m
gate_leaves true c one another m went same = refl
gate_leaves false true one another m went same = refl
gate_leaves false false one another m went same = same

list_leaves : (p : Path) (m : Machine) → (called (calls.List p) m).1 ≡ m
list_leaves p m = gate_leaves (is_rolling m.phase && true) (is_preparing m.phase && false) refusals.RollingBack refusals.Preparing m (taken (calls.List p) m) (listed_leaves p (tree_said (calls.List p) m) m)

list_now : (p : Path) (old new : Machine) (said : Result Said Refusal) → AsksNow (calls.List p) old said new → new ≡ old
list_now p old new said (inl (is, same)) = same ∙ list_leaves p old
list_now p old new said (inr (refusal, is, inl (store, same))) = same
list_now p old new said (inr (refusal, is, inr (unsure, same))) = same

ls_leaves : (size : ℕ) (path : Result Path Refusal) (old new : Machine) (answer : Result Answer Refusal) → IsStill old → AsksTree size (on path calls.List) old answer new → new ≡ old
ls_leaves size (Err refusal) old new answer still (is, same) = same
ls_leaves size (Ok p) old new answer still (said, mid, (payments, asks), is, same) = same ∙ list_now p (paid_now size payments old) mid said asks ∙ nothing_now size payments old still

query_now : (old new : Machine) (said : Result Said Refusal) → AsksNow calls.Query old said new → new ≡ old
query_now old new said (inl (is, same)) = same ∙ gate_leaves (is_rolling old.phase && false) (is_preparing old.phase && false) refusals.RollingBack refusals.Preparing old (taken calls.Query old) refl
query_now old new said (inr (refusal, is, inl (store, same))) = same
query_now old new said (inr (refusal, is, inr (unsure, same))) = same

anew_calm : (phase : Phase) → is_rolling phase ≡ false → is_preparing phase ≡ false → (is_rolling (if is_preparing phase then phases.Ordinary else phase) ≡ false) × (is_preparing (if is_preparing phase then phases.Ordinary else phase) ≡ false)
anew_calm phases.Preparing r q = (refl, refl)
anew_calm phase r q = (r, q)

module _ (size block : ℕ) (rows : Rows Text) (owes : RowsAreQuiet rows) where
  stays : (old new : Machine) → IsCalm rows old → new ≡ old → IsCalm rows new
  stays old new calm same = subst (IsCalm rows) (sym same) calm

  passed : (old new : Machine) → IsCalm rows old → Passes size old new → IsCalm rows new
  passed old new calm (payments, same) = stays old new calm (same ∙ nothing_now size payments old (calm_still rows old owes calm))

  begun_anew : (old : Machine) → IsCalm rows old → IsCalm rows (anew old)
  begun_anew old calm = record { tree = calm.tree; waiting = refl; rolling = (anew_calm old.phase calm.rolling calm.preparing).0; preparing = (anew_calm old.phase calm.rolling calm.preparing).1 }

  begins_anew : (old new : Machine) (answer : Result Answer Refusal) → IsCalm rows old → BeginsAnew old answer new → IsCalm rows new
  begins_anew old new (Ok answer) calm same = subst (IsCalm rows) (sym same) (begun_anew old calm)
  begins_anew old new (Err refusal) calm (inl same) = subst (IsCalm rows) (sym same) (begun_anew old calm)
  begins_anew old new (Err refusal) calm (inr (store, same)) = stays old new calm same

  -- what passes by leaves it so
  passes_calmly : (request : Request) (old new : Machine) (answer : Result Answer Refusal) → IsCalm rows old → passes_by (Some request) ≡ true → Leads size block request old answer new → IsCalm rows new
  passes_calmly (lines.At moment) old new answer calm by (now, passes, is, same) =
      let there = passed old now calm passes in
      subst (IsCalm rows) (sym same) (record { tree = there.tree; waiting = there.waiting; rolling = there.rolling; preparing = there.preparing })
  passes_calmly (lines.RollingUpgrade upgrades.Query) old new answer calm by (said, (payments, asks), is) = stays old new calm (query_now (paid_now size payments old) new said asks ∙ nothing_now size payments old (calm_still rows old owes calm))
  passes_calmly (lines.Ls p) old new answer calm by leads = stays old new calm (ls_leaves size (parse_hidden p) old new answer (calm_still rows old owes calm) leads)
  passes_calmly (lines.Stat p) old new answer calm by leads = stays old new calm (stat_leaves size block p old new answer (calm_still rows old owes calm) leads)
  passes_calmly (lines.Read p offset many) old new answer calm by leads = stays old new calm (read_leaves size block p offset many old new answer (calm_still rows old owes calm) leads)
  passes_calmly (lines.Digest p chunk index) old new answer calm by leads = stays old new calm (digest_leaves size block p chunk index old new answer (calm_still rows old owes calm) leads)
  passes_calmly lines.Replicate old new answer calm by passes = passed old new calm passes
  passes_calmly (lines.Beat server) old new answer calm by passes = passed old new calm passes
  passes_calmly lines.Tick old new answer calm by passes = passed old new calm passes
  passes_calmly (lines.Restart restarted.Master) old new answer calm by (now, passes, begins) = begins_anew now new answer (passed old now calm passes) begins
  passes_calmly (lines.Restart (restarted.Server server)) old new answer calm by passes = passed old new calm passes
  passes_calmly (lines.Lose server handle) old new answer calm by passes = passed old new calm passes
  passes_calmly (lines.Damage server handle index) old new answer calm by passes = passed old new calm passes
  passes_calmly (lines.Hold kind) old new answer calm by passes = passed old new calm passes
  passes_calmly request old new answer calm by leads = absurd (true≢false (sym by))

  comes_calmly : (asked : Option Request) (old new : Machine) (text : List ℕ) → IsCalm rows old → passes_by asked ≡ true → ComesTo size block asked old text new → IsCalm rows new
  comes_calmly None old new text calm by (is, same) = stays old new calm same
  comes_calmly (Some request) old new text calm by (inl (is, same)) = stays old new calm same
  comes_calmly (Some request) old new text calm by (inr (answer, leads, is)) = passes_calmly request old new answer calm by leads

  runs_calmly : (all texts : List (List ℕ)) (old new : Machine) → IsCalm rows old → AllByRecursion (λ line. passes_by (asked_in line) ≡ true) all → Runs (Explains size block) old all texts new → IsCalm rows new
  runs_calmly [] [] old new calm by same = stays old new calm same
  runs_calmly [] (text ∷ texts) old new calm by never = absurd never
  runs_calmly (line ∷ all) [] old new calm by never = absurd never
  runs_calmly (line ∷ all) (text ∷ texts) old new calm by (mid, answers, rest) =
      runs_calmly all texts mid new (comes_calmly (asked_in line) old mid text calm by.0 (comes_to size block old mid line text answers)) by.1 rest

  -- ---- two looks

  list_so : (p : Path) (old new : Machine) (said : Result Said Refusal) (payments : List _) → IsCalm rows old → IsSure said → AsksNow (calls.List p) (paid_now size payments old) said new → IsSaid (tree_said (calls.List p) (record old { plain = record { tree = rows; kept = None } })) said
  list_so p old new said payments calm sure asks =
      let same = nothing_now size payments old (calm_still rows old owes calm) in
      let at_old : IsSaid (called (calls.List p) old).0 said = subst (λ m. IsSaid (called (calls.List p) m).0 said) same (sure_now (calls.List p) (paid_now size payments old) new said sure asks).0 in
      let of_tree : IsSaid (tree_said (calls.List p) old) said = subst (λ found. IsSaid found said) (list_said p old calm.rolling calm.preparing) at_old in
      subst (λ all. IsSaid (tree_said (calls.List p) (record old { plain = record { tree = all; kept = None } })) said) calm.tree of_tree

  ls_alike : (path : Result Path Refusal) (old new first last : Machine) (one another : Result Answer Refusal) → IsCalm rows old → IsCalm rows first → IsSure one → IsSure another → AsksTree size (on path calls.List) old one new → AsksTree size (on path calls.List) first another last → AreAlike one another
  ls_alike (Err refusal) old new first last one another calm calms sure surely (e, same) (f, so) = alike_to (Err refusal) one another e f
  ls_alike (Ok p) old new first last one another calm calms sure surely (said, mid, (payments, asks), e, same) (other, between, (paid, asks_too), f, so) =
      alike_said (tree_said (calls.List p) (record old { plain = record { tree = rows; kept = None } })) said other one another
      (list_so p old mid said payments calm (sure_said one said e sure) asks) (list_so p first between other paid calms (sure_said another other f surely) asks_too) e f

  looks_alike : (request : Request) (old new first last : Machine) (one another : Result Answer Refusal) → is_look (Some request) ≡ true → IsCalm rows old → IsCalm rows first → IsSure one → IsSure another → Leads size block request old one new → Leads size block request first another last → AreAlike one another
  looks_alike (lines.Ls p) old new first last one another look calm calms sure surely leads lead = ls_alike (parse_hidden p) old new first last one another calm calms sure surely leads lead
  looks_alike (lines.Stat p) old new first last one another look calm calms sure surely leads lead =
      on_path_alike size (parse_hidden p) (Stats size) (stats_alike size) rows old new first last one another owes (calm_still rows old owes calm) (calm_still rows first owes calms) calm.tree calms.tree sure surely leads lead
  looks_alike (lines.Read p offset many) old new first last one another look calm calms sure surely leads lead =
      on_path_alike size (parse_hidden p) (OfFile (Reads size offset many)) (reads_alike size offset many) rows old new first last one another owes (calm_still rows old owes calm) (calm_still rows first owes calms) calm.tree calms.tree sure surely leads lead
  looks_alike (lines.Digest p chunk index) old new first last one another look calm calms sure surely leads lead =
      on_path_alike size (parse_hidden p) (OfFile (Digests size block chunk index)) (digests_alike size block chunk index) rows old new first last one another owes (calm_still rows old owes calm) (calm_still rows first owes calms) calm.tree calms.tree sure surely leads lead
  looks_alike request old new first last one another look calm calms sure surely leads lead = absurd (true≢false (sym look))

  texts_alike : (asked : Option Request) (old new first last : Machine) (had has : List ℕ) → is_look asked ≡ true → IsCalm rows old → IsCalm rows first → IsPlain had → IsPlain has → ComesTo size block asked old had new → ComesTo size block asked first has last → TextsAreAlike had has
  texts_alike None old new first last had has look calm calms was is came comes = absurd (true≢false (sym look))
  texts_alike (Some request) old new first last had has look calm calms was is (inl (memory, same)) comes = no_memory had was memory
  texts_alike (Some request) old new first last had has look calm calms was is (inr came) (inl (memory, same)) = no_memory has is memory
  texts_alike (Some request) old new first last had has look calm calms was is (inr (one, leads, inr memory)) comes = no_memory had was memory
  texts_alike (Some request) old new first last had has look calm calms was is (inr came) (inr (another, lead, inr memory)) = no_memory has is memory
  texts_alike (Some request) old new first last had has look calm calms was is (inr (one, leads, inl told_so)) (inr (another, lead, inl told_too)) =
      (one, another, told_so, told_too, looks_alike request old new first last one another look calm calms (plain_sure one had was told_so) (plain_sure another has is told_too) leads lead)

-- ---- after a prepare, and a rollback

pub quiet_entry : (entry : Entry Text) → IsQuietEntry (mapped_entry quiet entry)
quiet_entry Dir = tt
quiet_entry (File texts) = quiet_texts texts
  where
    quiet_texts : (texts : List Text) → AreQuiet (map quiet texts)
    quiet_texts [] = tt
    quiet_texts (text ∷ texts) = (refl, quiet_texts texts)

pub mapped_quiet : (rows : Rows Text) → RowsAreQuiet (mapped_rows quiet rows)
mapped_quiet [] = tt
mapped_quiet (row ∷ rows) = (quiet_entry row.1, mapped_quiet rows)

-- what a commit of a prepare, or of a rollback, comes to
prepare_commits : (phase : Phase) (m : Machine)
    → (◌≡◌ {A = Result Said Refusal × Machine} (if is_rolling phase && true then (Err refusals.RollingBack, m) else if is_preparing phase && false then (Err refusals.Preparing, m) else commits_prepare phase m) (Ok (says.Epoch (m.epoch + 1)), prepared_machine m))
    ⊎ ((refusal : Refusal) × ((if is_rolling phase && true then (Err refusals.RollingBack, m) else if is_preparing phase && false then (Err refusals.Preparing, m) else commits_prepare phase m).0 ≡ Err refusal))
prepare_commits phases.Preparing m = inl refl
prepare_commits phases.Upgrade m = inr (refusals.AlreadyUpgrading, refl)
prepare_commits phases.Rolling m = inr (refusals.RollingBack, refl)
prepare_commits phases.Ordinary m = inr (refusals.NotUpgrading, refl)

rollback_commits : (phase : Phase) (m : Machine)
    → ((phase ≡ phases.Rolling) × (◌≡◌ {A = Result Said Refusal × Machine} (if is_rolling phase && false then (Err refusals.RollingBack, m) else if is_preparing phase && false then (Err refusals.Preparing, m) else commits_rollback phase m) (Ok (says.Epoch m.epoch), rolled_back m)))
    ⊎ ((refusal : Refusal) × ((if is_rolling phase && false then (Err refusals.RollingBack, m) else if is_preparing phase && false then (Err refusals.Preparing, m) else commits_rollback phase m).0 ≡ Err refusal))
rollback_commits phases.Rolling m = inl (refl, refl)
rollback_commits phase m = inr (refusals.NotUpgrading, refl)

-- an answer is an epoch, and then this is the machine; or it is a refusal
abbrev IsEpochOr : (ℕ → Machine → Type 0) → Result Answer Refusal → Machine → Type 0
IsEpochOr Is answer new = ((n : ℕ) × (answer ≡ Ok (answers.Number n)) × Is n new) ⊎ ((refusal : Refusal) × (answer ≡ Err refusal))

abbrev IsPrepared : ℕ → Machine → Type 0
IsPrepared n new = (now : Machine) × (n ≡ now.epoch + 1) × (new ≡ prepared_machine now)

commit_prepares : (size : ℕ) (old new : Machine) (answer : Result Answer Refusal) → AsksOne size calls.PrepareCommit old answer new → IsEpochOr IsPrepared answer new
commit_prepares size old new answer (said, (payments, inr (refusal, is, rest)), e) = inr (refusal, e ∙ ap (answered told) is)
commit_prepares size old new answer (said, (payments, inl (is, same)), e) =
    let now = paid_now size payments old in
    elim (prepare_commits now.phase now) [
      | inl came ↦ inl (now.epoch + 1, e ∙ ap (answered told) (subst (λ found. IsSaid found said) (ap (λ x. x.0) came) is), (now, refl, same ∙ ap (λ x. x.1) came))
      | inr refused ↦ inr (refused.0, e ∙ ap (answered told) (subst (λ found. IsSaid found said) refused.1 is))
    ]

module _ (epoch : ℕ) (rows : Rows Text) where
  abbrev IsRolledBack : ℕ → Machine → Type 0
  IsRolledBack n new = (now : Machine) × (n ≡ now.epoch) × (now.phase ≡ phases.Rolling) × Between epoch rows now × (new ≡ rolled_back now)

  commit_rolls : (size : ℕ) (old new : Machine) (answer : Result Answer Refusal) → Between epoch rows old → AsksOne size calls.RollbackCommit old answer new → IsEpochOr IsRolledBack answer new
  commit_rolls size old new answer h (said, (payments, inr (refusal, is, rest)), e) = inr (refusal, e ∙ ap (answered told) is)
  commit_rolls size old new answer h (said, (payments, inl (is, same)), e) =
      let now = paid_now size payments old in
      elim (rollback_commits now.phase now) [
        | inl came ↦ inl (now.epoch, e ∙ ap (answered told) (subst (λ found. IsSaid found said) (ap (λ x. x.0) came.1) is), (now, refl, came.0, payments_keep (Between epoch rows) (between_is_kept epoch rows) size payments old h, same ∙ ap (λ x. x.1) came.1))
        | inr refused ↦ inr (refused.0, e ∙ ap (answered told) (subst (λ found. IsSaid found said) refused.1 is))
      ]

-- the text tells which epoch
told_epoch : (Is : ℕ → Machine → Type 0) (answer : Result Answer Refusal) (new : Machine) (epoch : ℕ) → epoch < 2 ^ 64 → IsEpochOr Is answer new → IsText answer (codes "ok " ++ decimal epoch) → Is epoch new
told_epoch Is answer new epoch small came (inr memory) = refused_never refusals.Memory (codes "ok " ++ decimal epoch) memory refl
told_epoch Is answer new epoch small (inr (refusal, e)) (inl is) = refused_never refusal (codes "ok " ++ decimal epoch) (is ∙ ap answer_text e) refl
told_epoch Is answer new epoch small (inl (n, e, so)) (inl is) = subst (λ k. Is k new) (same_number n epoch small (same_digits n epoch (sym (ap answer_text e) ∙ sym is))) so

gave_up : (size n : ℕ) (answer : Result Answer Refusal) (mid new : Machine) → answer ≡ Ok (answers.Number n) → GivesUp size answer mid new → new ≡ mid
gave_up size n answer mid new e gives = subst (λ x. GivesUp size x mid new) e gives

prepares : (size block epoch : ℕ) (asked : Option Request) (old new : Machine) → epoch < 2 ^ 64 → is_prepare asked ≡ true → ComesTo size block asked old (codes "ok " ++ decimal epoch) new → IsPrepared epoch new
prepares size block epoch (Some (lines.RollingUpgrade upgrades.Prepare)) old new small by (inl (memory, same)) = refused_never refusals.Memory (codes "ok " ++ decimal epoch) memory refl
prepares size block epoch (Some (lines.RollingUpgrade upgrades.Prepare)) old new small by (inr (answer, (mid, inl (refusal, asks, e), gives), is)) = told_epoch IsPrepared answer new epoch small (inr (refusal, e)) is
prepares size block epoch (Some (lines.RollingUpgrade upgrades.Prepare)) old new small by (inr (answer, (mid, inr (said, begun, asks, one), gives), is)) =
    told_epoch IsPrepared answer new epoch small (elim (commit_prepares size begun mid answer one) [
      | inl came ↦ inl (came.0, came.1, subst (IsPrepared came.0) (sym (gave_up size came.0 answer mid new came.1 gives)) came.2)
      | inr refused ↦ inr refused
    ]) is
prepares size block epoch (Some (lines.Step steps.PrepareCommit)) old new small by (inl (memory, same)) = refused_never refusals.Memory (codes "ok " ++ decimal epoch) memory refl
prepares size block epoch (Some (lines.Step steps.PrepareCommit)) old new small by (inr (answer, one, is)) = told_epoch IsPrepared answer new epoch small (commit_prepares size old new answer one) is
prepares size block epoch asked old new small by came = absurd (true≢false (sym by))

rolls_back : (size block epoch : ℕ) (rows : Rows Text) (asked : Option Request) (old new : Machine) → epoch + 1 < 2 ^ 64 → Between epoch rows old → is_rollback asked ≡ true → ComesTo size block asked old (codes "ok " ++ decimal (epoch + 1)) new → IsRolledBack epoch rows (epoch + 1) new
rolls_back size block epoch rows (Some (lines.RollingUpgrade upgrades.Rollback)) old new small h by (inl (memory, same)) = refused_never refusals.Memory (codes "ok " ++ decimal (epoch + 1)) memory refl
rolls_back size block epoch rows (Some (lines.RollingUpgrade upgrades.Rollback)) old new small h by (inr (answer, inl (refusal, asks, e), is)) = told_epoch (IsRolledBack epoch rows) answer new (epoch + 1) small (inr (refusal, e)) is
rolls_back size block epoch rows (Some (lines.RollingUpgrade upgrades.Rollback)) old new small h by (inr (answer, inr (said, begun, asks, one), is)) =
    told_epoch (IsRolledBack epoch rows) answer new (epoch + 1) small (commit_rolls epoch rows size begun new answer (asked_keeps (Between epoch rows) (between_is_kept epoch rows) size calls.RollbackBegin old begun (Ok said) h asks) one) is
rolls_back size block epoch rows (Some (lines.Step steps.RollbackCommit)) old new small h by (inl (memory, same)) = refused_never refusals.Memory (codes "ok " ++ decimal (epoch + 1)) memory refl
rolls_back size block epoch rows (Some (lines.Step steps.RollbackCommit)) old new small h by (inr (answer, one, is)) = told_epoch (IsRolledBack epoch rows) answer new (epoch + 1) small (commit_rolls epoch rows size old new answer h one) is
rolls_back size block epoch rows asked old new small h by came = absurd (true≢false (sym by))

-- ---- runs

-- a run of some lines, and of those after them
splits : {S : Type 0} (A : S → List ℕ → List ℕ → S → Type 0) (first rest texts more : List (List ℕ)) (old new : S) → length texts ≡ length first → Runs A old (first ++ rest) (texts ++ more) new → (mid : S) × Runs A old first texts mid × Runs A mid rest more new
splits A [] rest [] more old new long runs = (old, refl, runs)
splits A [] rest (text ∷ texts) more old new long runs = absurd (omega arith)
splits A (line ∷ first) rest [] more old new long runs = absurd (omega arith)
splits A (line ∷ first) rest (text ∷ texts) more old new long (mid, answers, runs) =
    let split = splits A first rest texts more mid new (omega arith) runs in
    (split.0, (mid, answers, split.1), split.2)

-- the machine after a prepare is calm, and so is that after its rollback
prepared_calm : (epoch : ℕ) (new : Machine) → IsPrepared epoch new → (rows : Rows Text) × RowsAreQuiet rows × IsCalm rows new × Between epoch rows new
prepared_calm epoch new (now, e, is) = (
  mapped_rows quiet now.plain.tree,
  mapped_quiet now.plain.tree,
  subst (IsCalm (mapped_rows quiet now.plain.tree)) (sym is) (record { tree = refl; waiting = refl; rolling = refl; preparing = refl }),
  subst (Between epoch (mapped_rows quiet now.plain.tree)) (sym is) (inl (sym e, refl, refl)),
)

rolled_calm : (epoch : ℕ) (rows : Rows Text) (new : Machine) → IsRolledBack epoch rows (epoch + 1) new → IsCalm rows new
rolled_calm epoch rows new (now, e, rolling, between, is) =
    subst (IsCalm rows) (sym is) (record { tree = ap (λ kept. unwrap_or kept now.plain.tree) (kept_is epoch rows now between rolling (sym e)); waiting = refl; rolling = refl; preparing = refl })

pub looks_come_back : LooksComeBack
looks_come_back size block all texts look epoch had has (end, runs) l =
    let whole = subst (λ t. Runs (Explains size block) new_machine (l.before ++ l.prepare ∷ (l.first ++ look ∷ (l.between ++ l.rollback ∷ (l.second ++ look ∷ l.after)))) t end) l.texts_are (subst (λ a. Runs (Explains size block) new_machine a texts end) l.lines_are runs) in
    let begun = splits (Explains size block) l.before (l.prepare ∷ (l.first ++ look ∷ (l.between ++ l.rollback ∷ (l.second ++ look ∷ l.after)))) l.texts_before ((codes "ok " ++ decimal epoch) ∷ (l.texts_first ++ had ∷ (l.texts_between ++ (codes "ok " ++ decimal (epoch + 1)) ∷ (l.texts_second ++ has ∷ l.texts_after)))) new_machine end l.long_before whole in
    let kept = begun.2 in
    let calm = prepared_calm epoch kept.0 (prepares size block epoch (asked_in l.prepare) begun.0 kept.0 (omega (arith, l.small)) l.prepares (comes_to size block begun.0 kept.0 l.prepare (codes "ok " ++ decimal epoch) kept.1)) in
    let once = splits (Explains size block) l.first (look ∷ (l.between ++ l.rollback ∷ (l.second ++ look ∷ l.after))) l.texts_first (had ∷ (l.texts_between ++ (codes "ok " ++ decimal (epoch + 1)) ∷ (l.texts_second ++ has ∷ l.texts_after))) kept.0 end l.long_first kept.2 in
    let looked = once.2 in
    let later = splits (Explains size block) l.between (l.rollback ∷ (l.second ++ look ∷ l.after)) l.texts_between ((codes "ok " ++ decimal (epoch + 1)) ∷ (l.texts_second ++ has ∷ l.texts_after)) looked.0 end l.long_between looked.2 in
    let back = later.2 in
    let twice = splits (Explains size block) l.second (look ∷ l.after) l.texts_second (has ∷ l.texts_after) back.0 end l.long_second back.2 in
    let again = twice.2 in
    let keeps = runs_keep (Between epoch calm.0) (between_is_kept epoch calm.0) size block in
    let at_look = keeps l.first l.texts_first kept.0 once.0 calm.3 once.1 in
    let behind_look = keeps (look ∷ []) (had ∷ []) once.0 looked.0 at_look (looked.0, looked.1, refl) in
    let at_rollback = keeps l.between l.texts_between looked.0 later.0 behind_look later.1 in
    let calmed = rolled_calm epoch calm.0 back.0 (rolls_back size block epoch calm.0 (asked_in l.rollback) later.0 back.0 l.small at_rollback l.rolls (comes_to size block later.0 back.0 l.rollback (codes "ok " ++ decimal (epoch + 1)) back.1)) in
    let calm_look = runs_calmly size block calm.0 calm.1 l.first l.texts_first kept.0 once.0 calm.2 l.passes once.1 in
    let calm_again = runs_calmly size block calm.0 calm.1 l.second l.texts_second back.0 twice.0 calmed l.passes_again twice.1 in
    texts_alike size block calm.0 calm.1 (asked_in look) once.0 looked.0 twice.0 again.0 had has l.looks calm_look calm_again l.was l.is
    (comes_to size block once.0 looked.0 look had looked.1) (comes_to size block twice.0 again.0 look has again.1)

-- ---- worked

-- a write between a prepare and its rollback, and what is read after either
abbrev a_look_back : List (List ℕ)
a_look_back =
    codes "create /f" ∷ codes "write /f 0 61" ∷ codes "rollingUpgrade prepare" ∷ codes "beat 0" ∷ codes "read /f 0 9" ∷ codes "write /f 0 7a" ∷ codes "rollingUpgrade rollback" ∷ codes "at 5" ∷ codes "read /f 0 9" ∷ []

abbrev a_look_back_answers : List (List ℕ)
a_look_back_answers =
    codes "ok" ∷ codes "ok" ∷ codes "ok 1" ∷ codes "ok 0" ∷ codes "ok 61" ∷ codes "ok" ∷ codes "ok 2" ∷ codes "ok" ∷ codes "ok 61" ∷ []

it_looks_twice : LooksTwice a_look_back a_look_back_answers (codes "read /f 0 9") 1 (codes "ok 61") (codes "ok 61")
unfolding one_word two_words three_words four_words append_line hold_line write_line read_line number_line upgrade_line decode_pairs encode_with is_utf8 chars encode_utf8 digits
it_looks_twice = record {
  before = codes "create /f" ∷ codes "write /f 0 61" ∷ [];
  between = codes "write /f 0 7a" ∷ [];
  prepare = codes "rollingUpgrade prepare";
  rollback = codes "rollingUpgrade rollback";
  first = codes "beat 0" ∷ [];
  second = codes "at 5" ∷ [];
  after = [];
  lines_are = refl;
  texts_before = codes "ok" ∷ codes "ok" ∷ [];
  texts_first = codes "ok 0" ∷ [];
  texts_between = codes "ok" ∷ [];
  texts_second = codes "ok" ∷ [];
  texts_after = [];
  texts_are = refl;
  long_before = refl;
  long_first = refl;
  long_between = refl;
  long_second = refl;
  small = omega arith;
  prepares = refl;
  passes = (refl, tt);
  looks = refl;
  rolls = refl;
  passes_again = (refl, tt);
  was = accepted_plain (codes "ok 61") refl;
  is = accepted_plain (codes "ok 61") refl;
}

-- numbers of more than 64 digits may have the digits of another, so they don't tell which epoch it is
two_epochs_of_one_text : decimal (10 ^ 64 + 10 ^ 63) ≡ decimal (10 ^ 63)
unfolding digits
two_epochs_of_one_text = refl
