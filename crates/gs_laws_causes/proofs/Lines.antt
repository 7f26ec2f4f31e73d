-- What a line asks.
use Rattle.std.proofs.Common.{◌≡◌, ◌⊎◌, ◌++◌, ◌==◌, ℕ, List, [], ◌∷◌, Bool, true, false, length, Result, Ok, Err, refl, sym, ap, subst}
use Rattle.std.specs.Prelude.{◌&&◌, IfSome, if◌then◌else◌, nat_le}
use Rattle.std.specs.List.{list_all, list_any}
use Rattle.gs_base.specs.declared.refusal.Refusal.{Refusal}
use Rattle.gs_base.specs.declared.refusal.Refusal.TheVariants as refusals
use Rattle.gs_path.specs.Element.{is_element, is_hidden, is_stored}
use Rattle.gs_path.specs.Path.{Name, Path}
use Rattle.gs_path.specs.Rules.{elements_of, judged, parse, parse_hidden, read_by, without_hidden}
use Rattle.gs_client_dialogue.specs.Dialogues.{Say, upon}
use Rattle.gs_client_dialogue.specs.Heard.{Says}
use Rattle.gs_msg.specs.declared.call.Call.TheVariants as calls
use Rattle.gs_msg.specs.declared.event.Request.{Request as Asked}
use Rattle.gs_client.specs.declared.link.Reply.{Reply}
use Rattle.gs_client.specs.Opened.{File}
use Rattle.gs_client.specs.Replies.{copied_in, deleted_in, epoch_in, names_in, nothing_in, path_in as path_of, phase_in, scanned_in}
use Rattle.gs_client.specs.Trees as trees
use Rattle.gs_client.specs.Trees.{Call}
use Rattle.gs_shell_grammar.specs.Grammar.{Request}
use Rattle.gs_shell_grammar.specs.Grammar as lines
use Rattle.gs_shell_grammar.specs.declared.command.Upgrade.{Upgrade}
use Rattle.gs_shell_grammar.specs.declared.command.Upgrade.TheVariants as upgrades
use Rattle.gs_shell_grammar.specs.declared.command.UpgradeStep.{UpgradeStep}
use Rattle.gs_shell_grammar.specs.declared.command.UpgradeStep.TheVariants as steps
use Rattle.gs_shell_calls.specs.Asked.{asked_by, at_phase, done, ends_so, given_bytes, given_digest, hidden, is_unquiet, on, on_two, plain, scanned, step_line, unless_quiet, upgrade_line, with_file}
use Rattle.gs_shell_calls.specs.declared.answer.Answer.{Answer}
use Rattle.gs_shell_calls.specs.declared.answer.Answer.TheVariants as answers
use Rattle.gs_laws_causes.specs.Carried.{Explains}
use Rattle.gs_laws_causes.specs.Causes.{Exchanges}
use Rattle.gs_laws_causes.proofs.Carrying.{explains}
use Rattle.gs_laws_causes.proofs.Ways.{Caused, Holds, IsClear, IsOther, behind_others, both_has, clash, err_clear, err_is, grown, never, ok_clear, said, the_whole, upon_has, upon_splits}
use Rattle.gs_laws_causes.proofs.Reading.{digest_has, open_has, read_has, stat_has}
use Rattle.gs_laws_causes.proofs.Replies.{change_has, look_has, reads_copied, reads_deleted, reads_epoch, reads_names, reads_nothing, reads_path, reads_phase, reads_scanned}
use Rattle.gs_laws_causes.proofs.Writing.{append_has, write_has}

-- ---- paths

bad_path : {A : Type 0} → IsClear {A = A} (Err refusals.BadPath)
bad_path = err_clear refusals.BadPath (record { replica = λ h. cc; sure = λ h. cc })

hidden_name : {A : Type 0} → IsClear {A = A} (Err refusals.HiddenName)
hidden_name = err_clear refusals.HiddenName (record { replica = λ h. cc; sure = λ h. cc })

judged_clear : (passes : Name → Bool) (p : Path) → IsClear (judged passes p)
judged_clear passes p = by_test (nat_le (length p) 64 && list_all passes p)
  where
    by_test : (b : Bool) → IsClear {A = Path} (if b then Ok p else Err refusals.BadPath)
    by_test true = ok_clear p
    by_test false = bad_path

read_clear : (passes : Name → Bool) (text : List ℕ) → IsClear (read_by passes text)
read_clear passes [] = bad_path
read_clear passes (c ∷ rest) = by_test (c == 47)
  where
    by_test : (b : Bool) → IsClear {A = Path} (if b then judged passes (elements_of rest) else Err refusals.BadPath)
    by_test true = judged_clear passes (elements_of rest)
    by_test false = bad_path

without_clear : (path : Result Path Refusal) → IsClear path → IsClear (without_hidden path)
without_clear (Ok p) clear = by_test (list_any is_hidden p)
  where
    by_test : (b : Bool) → IsClear {A = Path} (if b then Err refusals.HiddenName else Ok p)
    by_test true = hidden_name
    by_test false = ok_clear p
without_clear (Err e) clear = clear

parse_clear : (text : List ℕ) → IsClear (parse text)
parse_clear text = without_clear (read_by is_element text) (read_clear is_element text)

hidden_clear : (text : List ℕ) → IsClear (parse_hidden text)
hidden_clear text = read_clear is_stored text

-- ---- what isn't quiet

unquiet_other : (f : Refusal) → is_unquiet f ≡ true → IsOther f
unquiet_other f is = record { replica = λ h. (let not : is_unquiet f ≡ false = ap is_unquiet h in cc); sure = λ h. (let not : is_unquiet f ≡ false = ap is_unquiet h in cc) }

module _ (e : Refusal) (either : (e ≡ refusals.NoReplica) ⊎ (e ≡ refusals.Unsure)) where
  -- where a chunk isn't quiet that is the answer, whatever is said to what is asked then
  pub gives_up : {B : Type 0} (f : Refusal) (call : Call B) (go : Result B Refusal → Call Answer) (exchanges : Exchanges) → ((r : Result B Refusal) → go r ≡ Say (Err f)) → is_unquiet f ≡ true
      → Says (upon call go) exchanges (Err e) → Caused e exchanges
  gives_up f call go exchanges ends is h =
      let s = upon_splits e either call go exchanges h in
      let told : Says {A = Answer} (Say (Err f)) s.2 (Err e) = subst (λ c. Says c s.2 (Err e)) (ends s.0) s.5 in
      clash e either f (unquiet_other f is) told.0

module _ {e : Refusal} {either : (e ≡ refusals.NoReplica) ⊎ (e ≡ refusals.Unsure)} where
  pub plain_has : {A : Type 0} {call : Call A} (answer : A → Answer) → Holds e either call → Holds e either (plain call answer)
  plain_has answer has = both_has has (λ x. said (ok_clear _))

  on_has : {A : Type 0} {path : Result Path Refusal} {call : Path → Call A} (answer : A → Answer) → IsClear path → ((p : Path) → Holds e either (call p)) → Holds e either (on path call answer)
  on_has answer clear has = both_has (grown (said clear)) (λ p. plain_has answer (has p))

  two_has : {from to : Result Path Refusal} {call : Path → Path → Call (Unit {0})} → IsClear from → IsClear to → ((p q : Path) → Holds e either (call p q)) → Holds e either (on_two from to call)
  two_has clear other has = both_has (grown (said clear)) (λ p. on_has done other (has p))

  file_has : {A : Type 0} {call : File → Call A} → ((file : File) → Holds e either (call file)) → (path : Path) → Holds e either (with_file call path)
  file_has has path = both_has (open_has path) has

  -- ---- an upgrade

  commit_has : Holds e either (upon trees.prepare_commit_call unless_quiet)
  commit_has = upon_has trees.prepare_commit_call unless_quiet each
    where
      commits : Holds e either trees.prepare_commit_call
      commits = change_has calls.PrepareCommit epoch_in refl reads_epoch

      by_test : (b : Bool) (f : Refusal) → is_unquiet f ≡ b → (first second whole : Exchanges) → whole ≡ first ++ second → Says trees.prepare_commit_call first (Err f)
          → Says (if b then upon trees.prepare_abort_call (ends_so (Err f)) else Say (Err f)) second (Err e) → Caused e whole
      by_test true f so first second whole is says rest =
          behind_others e either first second whole is (gives_up e either f trees.prepare_abort_call (ends_so (Err f)) second (λ r. refl) so rest)
      by_test false f so first second whole is says rest =
          the_whole e either first second whole is rest.1 (commits.tells first (subst (λ g. Says trees.prepare_commit_call first (Err g)) (sym (err_is rest.0)) says))

      each : (r : Result ℕ Refusal) (first second whole : Exchanges) → whole ≡ first ++ second → Says trees.prepare_commit_call first r → Says (unless_quiet r) second (Err e) → Caused e whole
      each (Ok epoch) first second whole is says rest = never rest.0
      each (Err f) first second whole is says rest = by_test (is_unquiet f) f refl first second whole is says rest

  pub upgrade_has : (upgrade : Upgrade) → Holds e either (upgrade_line upgrade)
  upgrade_has upgrades.Query = plain_has at_phase (look_has calls.Query phase_in refl reads_phase)
  upgrade_has upgrades.Prepare = both_has (change_has calls.PrepareBegin epoch_in refl reads_epoch) (λ _. commit_has)
  upgrade_has upgrades.Finalize = plain_has answers.Number (change_has calls.Finalize epoch_in refl reads_epoch)
  upgrade_has upgrades.Rollback = both_has (change_has calls.RollbackBegin epoch_in refl reads_epoch) (λ _. plain_has answers.Number (change_has calls.RollbackCommit epoch_in refl reads_epoch))

  pub step_has : (step : UpgradeStep) → Holds e either (step_line step)
  step_has steps.PrepareBegin = plain_has answers.Number (change_has calls.PrepareBegin epoch_in refl reads_epoch)
  step_has steps.PrepareCommit = plain_has answers.Number (change_has calls.PrepareCommit epoch_in refl reads_epoch)
  step_has steps.RollbackBegin = plain_has answers.Number (change_has calls.RollbackBegin epoch_in refl reads_epoch)
  step_has steps.RollbackCommit = plain_has answers.Number (change_has calls.RollbackCommit epoch_in refl reads_epoch)

-- ---- a line

pub each_line : {S : Type 0} (carries : S → Asked → Reply → S → Type 0) (size : ℕ) (line : Request) → IfSome (asked_by size line) (Explains carries Answer)
each_line carries size (lines.Mkdir p) = explains carries _ (λ e either. on_has done (parse_clear p) (λ path. change_has (calls.Mkdirs path) nothing_in refl reads_nothing))
each_line carries size (lines.Create p) = explains carries _ (λ e either. on_has done (parse_clear p) (λ path. change_has (calls.Create path) nothing_in refl reads_nothing))
each_line carries size (lines.Ls p) = explains carries _ (λ e either. on_has answers.Names (hidden_clear p) (λ path. look_has (calls.List path) names_in refl reads_names))
each_line carries size (lines.Stat p) = explains carries _ (λ e either. on_has answers.Stat (hidden_clear p) (λ path. stat_has size path))
each_line carries size (lines.Mv p q) = explains carries _ (λ e either. two_has (parse_clear p) (parse_clear q) (λ from to. change_has (calls.Rename from to) nothing_in refl reads_nothing))
each_line carries size (lines.Rm p recursive) = explains carries _ (λ e either. on_has hidden (parse_clear p) (λ path. change_has (calls.Delete path recursive) deleted_in refl reads_deleted))
each_line carries size (lines.Undelete p) = explains carries _ (λ e either. on_has answers.Path (hidden_clear p) (λ path. change_has (calls.Undelete path) path_of refl reads_path))
each_line carries size (lines.Snapshot p q) = explains carries _ (λ e either. two_has (parse_clear p) (parse_clear q) (λ from to. change_has (calls.Snapshot from to) nothing_in refl reads_nothing))
each_line carries size (lines.Write p offset bytes) = explains carries _ (λ e either. on_has done (parse_clear p) (file_has (λ file. write_has size file.path file.opened offset bytes)))
each_line carries size (lines.Append p bytes) = explains carries _ (λ e either. on_has answers.Number (parse_clear p) (file_has (λ file. append_has size file.path file.opened bytes)))
each_line carries size (lines.Read p offset many) = explains carries _ (λ e either. on_has given_bytes (hidden_clear p) (file_has (λ file. read_has size file.path file.opened file.located offset many)))
each_line carries size (lines.Digest p chunk block) = explains carries _ (λ e either. on_has given_digest (hidden_clear p) (file_has (λ file. digest_has file.path file.opened file.located chunk block)))
each_line carries size lines.Scan = explains carries _ (λ e either. plain_has scanned (change_has calls.Scan scanned_in refl reads_scanned))
each_line carries size lines.Replicate = explains carries _ (λ e either. plain_has answers.Copied (change_has calls.Replicate copied_in refl reads_copied))
each_line carries size (lines.RollingUpgrade upgrade) = explains carries _ (λ e either. upgrade_has upgrade)
each_line carries size (lines.Step step) = explains carries _ (λ e either. step_has step)
each_line carries size line = tt
