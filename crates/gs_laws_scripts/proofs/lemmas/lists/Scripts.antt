-- What a script is answered to `ls` right behind a prepare, and right behind its rollback.
use Rattle.std.proofs.Common.{◌≡◌, ◌∙◌, ◌⊎◌, inl, inr, ◌++◌, ◌+◌, ℕ, suc, Bool, true, false, List, [], ◌∷◌, Option, Some, None, MatchOption, Result, Ok, Err, length, nat_le, refl, sym, ap, subst, arith}
use Rattle.std.proofs.lemmas.Bool.{false≢true}
use Rattle.std.specs.Prelude.{codes, decimal}
use Rattle.gs_base.specs.Told.{IsNumber}
use Rattle.gs_base.specs.declared.config.Config.{Config}
use Rattle.gs_base.specs.declared.refusal.Refusal.{Refusal}
use Rattle.gs_base.specs.declared.refusal.Refusal.TheVariants as refusals
use Rattle.gs_client.specs.Sends.{Sends as Asks}
use Rattle.gs_journal.specs.Records.{fresh, standing}
use Rattle.gs_msg.specs.declared.lists.ListedName.{ListedName}
use Rattle.gs_shell_calls.specs.Texts.{answer_text}
use Rattle.gs_shell_calls.specs.declared.answer.Answer.{Answer}
use Rattle.gs_shell_calls.specs.declared.answer.Answer.TheVariants as answers
use Rattle.gs_shell_desk.specs.Answering.{AnswersText, IsText}
use Rattle.gs_shell_desk.specs.Lines.{Comes, carried}
use Rattle.gs_shell_desk.specs.Starting.{Starts}
use Rattle.gs_shell_desk.specs.declared.desk.Desk.{Desk}
use Rattle.gs_shell_grammar.specs.Grammar.{Request, line_request}
use Rattle.gs_shell_grammar.specs.Grammar as lines
use Rattle.gs_shell_grammar.specs.declared.command.Upgrade.TheVariants as upgrades
use Rattle.gs_shell_grammar.specs.declared.command.UpgradeStep.TheVariants as steps
use Rattle.gs_shell_line.specs.Line.{content, longest_line}
use Rattle.gs_shell_script.specs.Run as script
use Rattle.gs_shell_script.specs.Run.{lines_of}
use Rattle.gs_laws_chunks.proofs.lemmas.desks.Lines.{line_reaches, start_reaches}
use Rattle.gs_laws_chunks.specs.desks.Within.{IsReachedWithin}
use Rattle.gs_laws_scripts.proofs.lemmas.lists.Texts.{list_comes, names_told, number_told, prepare_comes, prepare_commit_comes, refused_never, rollback_comes, rollback_commit_comes, same_numbers}
use Rattle.gs_laws_scripts.specs.lists.Lines.{ListTheSame, commits_prepare, commits_rollback}
use Rattle.gs_laws_scripts.specs.lists.Scripts.{AreListedTwice, AsksFor, IsAccepted, ListTheSameUntilAReadFails, ListTheSameUntilAWriteFails, ScriptsListTheSame}
use Rattle.gs_laws_scripts.specs.lists.Scripts as scripts

module _ {D : Type 0} (seen : D → List ℕ) (failures : D → ℕ) where
  abbrev pub Lines_run : Desk D → List (List ℕ) → List (List ℕ) → Desk D → Type 0
  Lines_run old all texts new = script.Runs (AnswersText seen failures) old all texts new

  abbrev pub Line_answered : Desk D → List ℕ → List ℕ → Desk D → Type 0
  Line_answered old line text new = script.AnswersLine (AnswersText seen failures) old line text new

  -- lines before some others
  pub split : (first : List (List ℕ)) (texts : List (List ℕ)) (rest more : List (List ℕ)) (old new : Desk D) → length texts ≡ length first → Lines_run old (first ++ rest) (texts ++ more) new → (mid : Desk D) × Lines_run old first texts mid × Lines_run mid rest more new
  split [] [] rest more old new long runs = (old, refl, runs)
  split (line ∷ first) (text ∷ texts) rest more old new long (mid, one, runs) = (let found = split first texts rest more mid new (shorter (length texts) (length first) long) runs in (found.0, (mid, one, found.1), found.2))
    where
      shorter : (m n : ℕ) → suc m ≡ suc n → m ≡ n
      shorter m n is = cc
  split [] (text ∷ texts) rest more old new long runs = absurd cc
  split (line ∷ first) [] rest more old new long runs = absurd cc

  -- one more line behind some others
  pub one_more : (all texts : List (List ℕ)) (line text : List ℕ) (old mid new : Desk D) → Lines_run old all texts mid → Line_answered mid line text new → Lines_run old (all ++ line ∷ []) (texts ++ text ∷ []) new
  one_more [] [] line text old mid new same a = (new, subst (λ d. Line_answered d line text new) same a, refl)
  one_more (first ∷ all) (said ∷ texts) line text old mid new (next, one, rest) a = (next, one, one_more all texts line text next mid new rest a)
  one_more [] (said ∷ texts) line text old mid new never a = absurd never
  one_more (first ∷ all) [] line text old mid new never a = absurd never

  -- ---- a line that is accepted

  pub record Came (request : Request) (text : List ℕ) (old new : Desk D) : Type 0 where
    pub answer : Result Answer Refusal
    pub comes : Comes seen failures request old answer new
    pub told : IsText answer text

  asked_came : (request : Request) (o : Option Request) → o ≡ Some request → (text : List ℕ) (old new : Desk D) → IsAccepted text
      → MatchOption o (IsText (Err refusals.BadLine) text × (new ≡ old)) (λ request. (answer : Result Answer Refusal) × Comes seen failures request old answer new × IsText answer text) → Came request text old new
  asked_came request None is text old new accepted a = absurd cc
  asked_came request (Some other) is text old new accepted (answer, comes, told) = record { answer = answer; comes = subst (λ r. Comes seen failures r old answer new) (request_is is) comes; told = told }
    where
      request_is : {a b : Request} → ◌≡◌ {A = Option Request} (Some a) (Some b) → a ≡ b
      request_is is = cc

  text_came : (request : Request) (line text : List ℕ) (old new : Desk D) → line_request line ≡ Some request → IsAccepted text → AnswersText seen failures old line text new → Came request text old new
  unfolding AnswersText
  text_came request line text old new asks accepted (inl (memory, same)) = refused_never refusals.Memory text memory accepted
  text_came request line text old new asks accepted (inr a) = asked_came request (line_request line) asks text old new accepted a

  short_came : (b : Bool) (request : Request) (line text : List ℕ) (old new : Desk D) → line_request line ≡ Some request → IsAccepted text → script.AnswersIfShort (AnswersText seen failures) b old line text new → Came request text old new
  short_came true request line text old new asks accepted a = text_came request line text old new asks accepted a
  short_came false request line text old new asks accepted (bad, same) = refused_never refusals.BadLine text bad accepted

  pub came : (request : Request) (line text : List ℕ) (old new : Desk D) → AsksFor request line → IsAccepted text → Line_answered old line text new → Came request text old new
  came request line text old new asks accepted (inl (memory, same)) = refused_never refusals.Memory text memory accepted
  came request line text old new asks accepted (inr a) = short_came (nat_le (length (content line)) longest_line) request (content line) text old new asks accepted a

  -- ---- which answer it is

  pub record Epoch_at (request : Request) (epoch : ℕ) (old new : Desk D) : Type 0 where
    pub number : ℕ
    pub comes : Comes seen failures request old (Ok (answers.Number number)) new
    pub digits : decimal number ≡ decimal epoch

  prepare_line_comes : (by : Request) → commits_prepare by ≡ true → (old new : Desk D) (result : Result Answer Refusal) → Comes seen failures by old result new → ((k : ℕ) × (result ≡ Ok (answers.Number k))) ⊎ ((refusal : Refusal) × (result ≡ Err refusal))
  unfolding Comes
  prepare_line_comes (lines.RollingUpgrade upgrades.Prepare) is old new result c = prepare_comes (Asks (carried seen failures)) (old.caller.client, old.wire) (new.caller.client, new.wire) result c
  prepare_line_comes (lines.Step steps.PrepareCommit) is old new result c = prepare_commit_comes (Asks (carried seen failures)) (old.caller.client, old.wire) (new.caller.client, new.wire) result c
  prepare_line_comes by is old new result c = absurd (false≢true is)

  rollback_line_comes : (by : Request) → commits_rollback by ≡ true → (old new : Desk D) (result : Result Answer Refusal) → Comes seen failures by old result new → ((k : ℕ) × (result ≡ Ok (answers.Number k))) ⊎ ((refusal : Refusal) × (result ≡ Err refusal))
  unfolding Comes
  rollback_line_comes (lines.RollingUpgrade upgrades.Rollback) is old new result c = rollback_comes (Asks (carried seen failures)) (old.caller.client, old.wire) (new.caller.client, new.wire) result c
  rollback_line_comes (lines.Step steps.RollbackCommit) is old new result c = rollback_commit_comes (Asks (carried seen failures)) (old.caller.client, old.wire) (new.caller.client, new.wire) result c
  rollback_line_comes by is old new result c = absurd (false≢true is)

  epoch_of : (by : Request) (line : List ℕ) (epoch : ℕ) (old new : Desk D) → ((result : Result Answer Refusal) → Comes seen failures by old result new → ((k : ℕ) × (result ≡ Ok (answers.Number k))) ⊎ ((refusal : Refusal) × (result ≡ Err refusal))) → AsksFor by line
      → Line_answered old line (codes "ok " ++ decimal epoch) new → Epoch_at by epoch old new
  epoch_of by line epoch old new comes asks a =
      let c = came by line (codes "ok " ++ decimal epoch) old new asks refl a in
      let found = number_told c.answer (codes "ok " ++ decimal epoch) epoch (comes c.answer c.comes) c.told refl in
      record { number = found.0; comes = subst (λ r. Comes seen failures by old r new) found.1 c.comes; digits = found.2 }

  pub prepared : (by : Request) → commits_prepare by ≡ true → (line : List ℕ) (epoch : ℕ) (old new : Desk D) → AsksFor by line → Line_answered old line (codes "ok " ++ decimal epoch) new → Epoch_at by epoch old new
  prepared by is line epoch old new asks a = epoch_of by line epoch old new (prepare_line_comes by is old new) asks a

  pub rolled : (by : Request) → commits_rollback by ≡ true → (line : List ℕ) (epoch : ℕ) (old new : Desk D) → AsksFor by line → Line_answered old line (codes "ok " ++ decimal epoch) new → Epoch_at by epoch old new
  rolled by is line epoch old new asks a = epoch_of by line epoch old new (rollback_line_comes by is old new) asks a

  record Listed (path text : List ℕ) (old new : Desk D) : Type 0 where
    names : List ListedName
    comes : Comes seen failures (lines.Ls path) old (Ok (answers.Names names)) new
    is : text ≡ answer_text (Ok (answers.Names names))

  listed : (path line text : List ℕ) (old new : Desk D) → AsksFor (lines.Ls path) line → IsAccepted text → Line_answered old line text new → Listed path text old new
  unfolding Comes
  listed path line text old new asks accepted a =
      let c = came (lines.Ls path) line text old new asks accepted a in
      let found = names_told c.answer text (list_comes (Asks (carried seen failures)) path (old.caller.client, old.wire) (new.caller.client, new.wire) c.answer c.comes) c.told accepted in
      record { names = found.0; comes = subst (λ r. Comes seen failures (lines.Ls path) old r new) found.1 c.comes; is = found.2 }

  -- ---- a script

  module _ (config : Config) (disks : D × D) where
    one_reached : (b : Bool) (old new : Desk D) (line text : List ℕ) → script.AnswersIfShort (AnswersText seen failures) b old line text new → IsReachedWithin seen failures config disks old → IsReachedWithin seen failures config disks new
    one_reached true old new line text a r = line_reaches seen failures config disks old new line text a r
    one_reached false old new line text (bad, same) r = subst (λ d. IsReachedWithin seen failures config disks d) (sym same) r

    line_reached : (old new : Desk D) (line text : List ℕ) → Line_answered old line text new → IsReachedWithin seen failures config disks old → IsReachedWithin seen failures config disks new
    line_reached old new line text (inl (memory, same)) r = subst (λ d. IsReachedWithin seen failures config disks d) (sym same) r
    line_reached old new line text (inr a) r = one_reached (nat_le (length (content line)) longest_line) old new (content line) text a r

    pub reached : (all texts : List (List ℕ)) (old new : Desk D) → Lines_run old all texts new → IsReachedWithin seen failures config disks old → IsReachedWithin seen failures config disks new
    reached [] [] old new same r = subst (λ d. IsReachedWithin seen failures config disks d) (sym same) r
    reached (line ∷ all) (text ∷ texts) old new (mid, one, rest) r = reached all texts mid new rest (line_reached old mid line text one r)
    reached [] (text ∷ texts) old new never r = absurd never
    reached (line ∷ all) [] old new never r = absurd never

    same_texts : ListTheSame seen failures config disks → standing (seen disks.0) (seen disks.1) ≡ fresh → (begun ended : Desk D) → IsReachedWithin seen failures config disks begun → (all texts : List (List ℕ)) (path : List ℕ) (epoch : ℕ) (had has : List ℕ)
        → (q : AreListedTwice all texts path epoch had has) → Lines_run begun all texts ended → has ≡ had
    same_texts law new begun ended r all texts path epoch had has q runs =
        let lined = subst (λ ls. Lines_run begun ls texts ended) q.lines_are runs in
        let told = subst (λ ts. Lines_run begun (q.before ++ q.prepare ∷ q.list ∷ (q.between ++ q.rollback ∷ q.again ∷ q.behind)) ts ended) q.texts_are lined in
        let first = split q.before q.texts_before (q.prepare ∷ q.list ∷ (q.between ++ q.rollback ∷ q.again ∷ q.behind)) ((codes "ok " ++ decimal epoch) ∷ had ∷ (q.texts_between ++ (codes "ok " ++ decimal (epoch + 1)) ∷ has ∷ q.texts_behind)) begun ended q.long_before told in
        by_first first.0 (reached q.before q.texts_before begun first.0 first.1 r) first.2
      where
        lower : (k : ℕ) → IsNumber (k + 1) → IsNumber k
        lower k small = omega arith

        by_second : (start mid listed_at later : Desk D) → IsReachedWithin seen failures config disks start → Line_answered start q.prepare (codes "ok " ++ decimal epoch) mid → Line_answered mid q.list had listed_at → Lines_run listed_at q.between q.texts_between later
            → Lines_run later (q.rollback ∷ q.again ∷ q.behind) ((codes "ok " ++ decimal (epoch + 1)) ∷ has ∷ q.texts_behind) ended → has ≡ had
        by_second start mid listed_at later reached_there a b lines_between (back, c, (last, e, rest)) =
            let one = listed path q.list had mid listed_at q.lists q.was b in
            let two = listed path q.again has back last q.repeats q.is e in
            let first = prepared q.prepare_by q.is_prepare q.prepare epoch start mid q.prepares a in
            let next = rolled q.roll_by q.is_rollback q.rollback (epoch + 1) later back q.rolls c in
            two.is
            ∙ ap (λ names. answer_text (Ok (answers.Names names)))
            (law path first.number next.number one.names two.names (record {
              new = new;
              follows = λ small high. same_numbers next.number (epoch + 1) high q.small next.digits ∙ ap (λ k. k + 1) (sym (same_numbers first.number epoch small (lower epoch q.small) first.digits));
              begun = start;
              reached = reached_there;
              prepare_by = q.prepare_by;
              is_prepare = q.is_prepare;
              prepared = mid;
              prepares = first.comes;
              listed = listed_at;
              lists = one.comes;
              between = q.between;
              texts = q.texts_between;
              later = later;
              passes = lines_between;
              back = back;
              roll_by = q.roll_by;
              is_rollback = q.is_rollback;
              rolls = next.comes;
              last = last;
              again = two.comes;
            }))
            ∙ sym one.is

        by_first : (start : Desk D) → IsReachedWithin seen failures config disks start
            → Lines_run start (q.prepare ∷ q.list ∷ (q.between ++ q.rollback ∷ q.again ∷ q.behind)) ((codes "ok " ++ decimal epoch) ∷ had ∷ (q.texts_between ++ (codes "ok " ++ decimal (epoch + 1)) ∷ has ∷ q.texts_behind)) ended → has ≡ had
        by_first start reached_there (mid, a, (listed_at, b, rest)) =
            let second = split q.between q.texts_between (q.rollback ∷ q.again ∷ q.behind) ((codes "ok " ++ decimal (epoch + 1)) ∷ has ∷ q.texts_behind) listed_at ended q.long_between rest in by_second start mid listed_at second.0 reached_there a b second.1 second.2

module _ {D : Type 0} (law : (seen : D → List ℕ) (failures : D → ℕ) (config : Config) (disks : D × D) → ListTheSame seen failures config disks) where
  -- lines that are answered one after the other from a store's beginning on
  pub from_start : (seen : D → List ℕ) (failures : D → ℕ) (config : Config) (disks : D × D) → standing (seen disks.0) (seen disks.1) ≡ fresh → (begun ended : Desk D) → Starts seen failures config disks begun → (all texts : List (List ℕ)) → Lines_run seen failures begun all texts ended
      → scripts.ListTheSame all texts
  from_start seen failures config disks standing_new begun ended starts all texts runs path epoch had has q =
      same_texts seen failures config disks (law seen failures config disks) standing_new begun ended (start_reaches seen failures config disks begun starts) all texts path epoch had has q runs

  pub scripts_list_the_same : ScriptsListTheSame D
  scripts_list_the_same seen failures config disks input old new s standing_new =
      from_start seen failures config disks standing_new s.begun s.ended s.starts (lines_of input) s.writes.texts s.writes.runs

  pub list_the_same_until_a_read_fails : ListTheSameUntilAReadFails D
  list_the_same_until_a_read_fails seen failures config disks input left old new s standing_new =
      from_start seen failures config disks standing_new s.begun s.ended s.starts s.fails.lines s.fails.written.texts s.fails.written.runs

  pub list_the_same_until_a_write_fails : ListTheSameUntilAWriteFails D
  list_the_same_until_a_write_fails seen failures config disks input left old new s standing_new = (
    from_start seen failures config disks standing_new s.begun s.fails.before s.starts s.fails.lines s.fails.written.texts s.fails.written.runs,
    from_start seen failures config disks standing_new s.begun s.ended s.starts (s.fails.lines ++ s.fails.line ∷ []) (s.fails.written.texts ++ s.fails.text ∷ [])
        (one_more seen failures s.fails.lines s.fails.written.texts s.fails.line s.fails.text s.begun s.fails.before s.ended s.fails.written.runs s.fails.answers),
  )
