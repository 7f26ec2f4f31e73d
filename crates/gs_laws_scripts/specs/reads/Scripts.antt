-- What a script reads of a file right behind a prepare, and right behind its rollback.
use Rattle.std.proofs.Common.{arith}
use Rattle.std.specs.Prelude.{[], ◌+◌, ◌++◌, ◌∷◌, ◌≡◌, Bool, List, Ok, Option, Some, codes, decimal, length, refl, take, true, ℕ}
use Rattle.std.specs.Char.{encode_utf8}
use Rattle.std.specs.Fmt.{digits}
use Rattle.std.specs.Io.KnownBytes.{Appends}
use Rattle.std.specs.Str.{chars, is_utf8}
use Rattle.gs_base.specs.Told.{IsNumber}
use Rattle.gs_base.specs.declared.config.Config.{Config}
use Rattle.gs_base.specs.declared.numbers.ClientId.{ClientId}
use Rattle.gs_block.specs.Written.{TellsApart}
use Rattle.gs_journal.specs.Records.{fresh, standing}
use Rattle.gs_path.specs.Path.{Path}
use Rattle.gs_path.specs.Rules.{parse_hidden}
use Rattle.gs_shell.specs.Serving.{Serves, StopsServing}
use Rattle.gs_shell_calls.specs.Texts.{answer_text}
use Rattle.gs_shell_desk.specs.Answering.{AnswersText}
use Rattle.gs_shell_desk.specs.Ways.{way_of}
use Rattle.gs_shell_desk.specs.declared.desk.Desk.{Desk}
use Rattle.gs_shell_grammar.specs.Grammar.{Request, four_words, read_line, two_words, upgrade_line}
use Rattle.gs_shell_grammar.specs.Grammar as lines
use Rattle.gs_shell_grammar.specs.declared.command.Upgrade.TheVariants as upgrades
use Rattle.gs_laws_scripts.specs.lists.Lines.{commits_prepare, commits_rollback}
use Rattle.gs_laws_scripts.specs.lists.Scripts.{AsksFor, IsAccepted}
use Rattle.gs_laws_scripts.specs.reads.Lines.{Asks, answer_of, Bytes, line_of, reading_of}
use Rattle.gs_shell_script.specs.Run.{AnswersLine, Runs, StopsWriting, WritesAnswers, lines_of}
use Rattle.gs_shell_script.specs.declared.RunFault.TheVariants as fault
use Rattle.gs_laws_looks.specs.reads.Read.{AreAmongThen, ReadsTwice}

-- Of the lines of a script, and of their answers: `rollingUpgrade prepare`, or `prepare-commit`, is answered by an epoch, and right behind it something is read of a file, and accepted. Behind any lines `rollingUpgrade rollback`, or `rollback-commit`, is answered by the next epoch, and
-- right behind it the same is read, and accepted.
pub record AreReadTwice (all texts : List (List ℕ)) (path : List ℕ) (asks : Asks) (epoch : ℕ) (had has : List ℕ) : Type 0 where
  pub before : List (List ℕ)
  pub prepare : List ℕ
  pub read : List ℕ
  pub between : List (List ℕ)
  pub rollback : List ℕ
  pub again : List ℕ
  pub behind : List (List ℕ)
  pub lines_are : all ≡ before ++ prepare ∷ read ∷ (between ++ rollback ∷ again ∷ behind)
  pub texts_before : List (List ℕ)
  pub texts_between : List (List ℕ)
  pub texts_behind : List (List ℕ)
  pub texts_are : texts ≡ texts_before ++ (codes "ok " ++ decimal epoch) ∷ had ∷ (texts_between ++ (codes "ok " ++ decimal (epoch + 1)) ∷ has ∷ texts_behind)
  pub small : IsNumber (epoch + 1)
  pub long_before : length texts_before ≡ length before
  pub long_between : length texts_between ≡ length between
  pub prepare_by : Request
  pub is_prepare : commits_prepare prepare_by ≡ true
  pub prepares : AsksFor prepare_by prepare
  pub reads : AsksFor (line_of path asks) read
  pub roll_by : Request
  pub is_rollback : commits_rollback roll_by ≡ true
  pub rolls : AsksFor roll_by rollback
  pub repeats : AsksFor (line_of path asks) again
  pub was : IsAccepted had
  pub is : IsAccepted has

module _ {D : Type 0} (seen : D → List ℕ) (failures : D → ℕ) (config : Config) (disks : D × D) where
  -- So it goes in a run of a store that has begun over these disks, by way of the desks to which these lines have led: at the path that they name, in that epoch, it reads twice what their texts tell, from what the commit of the prepare has left on, and again from what that of
  -- the rollback has left. And both texts are the same, if there is a run that goes so in which different blocks that servers have on the way have different digests.
  pub record TextsAreTheSameWhereToldApart (all texts : List (List ℕ)) (text : List ℕ) (asks : Asks) (epoch : ℕ) (had has : List ℕ) (q : AreReadTwice all texts text asks epoch had has) (begun ended : Desk D) : Type 0 where
    pub client : ClientId
    pub path : Path
    pub parsed : parse_hidden text ≡ Ok path
    pub first : List ℕ
    pub was : had ≡ answer_text (Ok (answer_of asks first))
    pub second : List ℕ
    pub is : has ≡ answer_text (Ok (answer_of asks second))
    pub prepared : Desk D
    pub to_prepared : Runs (AnswersText seen failures) begun (q.before ++ q.prepare ∷ []) (q.texts_before ++ (codes "ok " ++ decimal epoch) ∷ []) prepared
    pub read : Desk D
    pub to_read : AnswersLine (AnswersText seen failures) prepared q.read had read
    pub back : Desk D
    pub to_back : Runs (AnswersText seen failures) read (q.between ++ q.rollback ∷ []) (q.texts_between ++ (codes "ok " ++ decimal (epoch + 1)) ∷ []) back
    pub last : Desk D
    pub to_last : AnswersLine (AnswersText seen failures) back q.again has last
    pub rest : Runs (AnswersText seen failures) last q.behind q.texts_behind ended
    pub run : ReadsTwice seen failures config 1 disks client path (reading_of config.chunk asks) epoch first second
    pub begins_to_read : run.start.nodes ≡ (way_of prepared.wire).nodes
    pub has_read : run.end.nodes ≡ (way_of read.wire).nodes
    pub begins_again : run.start_then.nodes ≡ (way_of back.wire).nodes
    pub ends : run.last.nodes ≡ (way_of last.wire).nodes
    pub same : (r : ReadsTwice seen failures config 1 disks client path (reading_of config.chunk asks) epoch first second) (among : List ℕ → Bool) → among [] ≡ true → TellsApart among
        → AreAmongThen seen failures config 1 disks among client path (reading_of config.chunk asks) epoch first second r → has ≡ had

-- ---- what is to hold

-- Then it goes so.
abbrev pub ReadTheSameWhereToldApart : {D : Type 0} → (D → List ℕ) → (D → ℕ) → Config → D × D → List (List ℕ) → List (List ℕ) → Desk D → Desk D → Type 0
ReadTheSameWhereToldApart seen failures config disks all texts begun ended = (path : List ℕ) (asks : Asks) (epoch : ℕ) (had has : List ℕ) (q : AreReadTwice all texts path asks epoch had has) → TextsAreTheSameWhereToldApart seen failures config disks all texts path asks epoch had has q begun ended

-- So it is of every script over disks that said nothing: whatever lines come before, between and behind, lines that damage blocks among them, and whatever disks fail.
abbrev pub ScriptsReadTheSame : Type 0 → Type 0
ScriptsReadTheSame D = (seen : D → List ℕ) (failures : D → ℕ) (config : Config) (disks : D × D) (input : List ℕ) (old new : Option (List ℕ)) (s : Serves seen failures config disks input old new) → standing (seen disks.0) (seen disks.1) ≡ fresh
    → ReadTheSameWhereToldApart seen failures config disks (lines_of input) s.writes.texts s.begun s.ended

-- So it is where a read of the script fails, in those of its lines that were read and answered before.
abbrev pub ReadTheSameUntilAReadFails : Type 0 → Type 0
ReadTheSameUntilAReadFails D = (seen : D → List ℕ) (failures : D → ℕ) (config : Config) (disks : D × D) (input : List ℕ) (left old new : Option (List ℕ)) (s : StopsServing seen failures config disks fault.Read (Some input) left old new)
    → standing (seen disks.0) (seen disks.1) ≡ fresh → ReadTheSameWhereToldApart seen failures config disks s.fails.lines s.fails.written.texts s.begun s.ended

-- And where a write of an answer fails, in the lines whose answers were written before, and in these with the line of that answer, which is made though no more than a beginning of it is written.
abbrev pub ReadTheSameUntilAWriteFails : Type 0 → Type 0
ReadTheSameUntilAWriteFails D = (seen : D → List ℕ) (failures : D → ℕ) (config : Config) (disks : D × D) (input : List ℕ) (left old new : Option (List ℕ)) (s : StopsServing seen failures config disks fault.Write (Some input) left old new)
    → standing (seen disks.0) (seen disks.1) ≡ fresh → ReadTheSameWhereToldApart seen failures config disks s.fails.lines s.fails.written.texts s.begun s.fails.before
    × ReadTheSameWhereToldApart seen failures config disks (s.fails.lines ++ s.fails.line ∷ []) (s.fails.written.texts ++ s.fails.text ∷ []) s.begun s.ended

-- ---- examples: a script of four lines that is answered so

abbrev some_lines : List (List ℕ)
some_lines = (codes "rollingUpgrade prepare" ++ 10 ∷ []) ∷ (codes "read /f 0 4" ++ 10 ∷ []) ∷ (codes "rollingUpgrade rollback" ++ 10 ∷ []) ∷ (codes "read /f 0 4" ++ 10 ∷ []) ∷ []

abbrev some_texts : List ℕ → List ℕ → List (List ℕ)
some_texts had has = codes "ok 1" ∷ had ∷ codes "ok 2" ∷ has ∷ []

they_are_lines : lines_of (codes "rollingUpgrade prepare" ++ 10 ∷ codes "read /f 0 4" ++ 10 ∷ codes "rollingUpgrade rollback" ++ 10 ∷ codes "read /f 0 4" ++ 10 ∷ []) ≡ some_lines
they_are_lines = refl

-- so it is asked that both texts are the same
it_is_such_a_script : (had has : List ℕ) → IsAccepted had → IsAccepted has → AreReadTwice some_lines (some_texts had has) (codes "/f") (Bytes 0 4) 1 had has
unfolding two_words four_words read_line upgrade_line is_utf8 chars encode_utf8 digits
it_is_such_a_script had has was is = record {
  before = [];
  prepare = codes "rollingUpgrade prepare" ++ 10 ∷ [];
  read = codes "read /f 0 4" ++ 10 ∷ [];
  between = [];
  rollback = codes "rollingUpgrade rollback" ++ 10 ∷ [];
  again = codes "read /f 0 4" ++ 10 ∷ [];
  behind = [];
  lines_are = refl;
  texts_before = [];
  texts_between = [];
  texts_behind = [];
  texts_are = refl;
  small = omega arith;
  long_before = refl;
  long_between = refl;
  prepare_by = lines.RollingUpgrade upgrades.Prepare;
  is_prepare = refl;
  prepares = refl;
  reads = refl;
  roll_by = lines.RollingUpgrade upgrades.Rollback;
  is_rollback = refl;
  rolls = refl;
  repeats = refl;
  was = was;
  is = is;
}

-- a write may fail at the answer to a fifth line behind it: then these four were answered
a_write_fails_behind_it : {S : Type 0} (A : S → List ℕ → List ℕ → S → Type 0) (begun before ended : S) (old between new : Option (List ℕ)) (text : List ℕ) (count : ℕ) → WritesAnswers A begun some_lines old between before
    → AnswersLine A before (codes "ls /" ++ 10 ∷ []) text ended → Appends between new (take count (text ++ 10 ∷ []))
    → StopsWriting A begun (codes "rollingUpgrade prepare" ++ 10 ∷ codes "read /f 0 4" ++ 10 ∷ codes "rollingUpgrade rollback" ++ 10 ∷ codes "read /f 0 4" ++ 10 ∷ codes "ls /" ++ 10 ∷ codes "scan") (Some (codes "scan")) old new ended
a_write_fails_behind_it A begun before ended old between new text count written answers begins = record {
  lines = some_lines;
  line = codes "ls /" ++ 10 ∷ [];
  rest = codes "scan";
  parts = refl;
  left_is = refl;
  between = between;
  before = before;
  written = written;
  text = text;
  answers = answers;
  begun = (count, begins);
}
