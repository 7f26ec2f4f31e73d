-- What lines read of a file behind a prepare, and behind its rollback.
use Rattle.std.specs.Prelude.{[], ◌+◌, ◌≡◌, Bool, List, Ok, codes, refl, true, ℕ}
use Rattle.gs_base.specs.Told.{IsNumber}
use Rattle.gs_base.specs.declared.config.Config.{Config}
use Rattle.gs_base.specs.declared.numbers.ClientId.{ClientId}
use Rattle.gs_block.specs.Written.{TellsApart}
use Rattle.gs_journal.specs.Records.{fresh, standing}
use Rattle.gs_path.specs.Path.{Path}
use Rattle.gs_path.specs.Rules.{parse_hidden}
use Rattle.gs_shell_calls.specs.declared.answer.Answer.{Answer}
use Rattle.gs_shell_calls.specs.declared.answer.Answer.TheVariants as answers
use Rattle.gs_shell_desk.specs.Answering.{AnswersText}
use Rattle.gs_shell_desk.specs.Lines.{Comes}
use Rattle.gs_shell_desk.specs.Ways.{way_of}
use Rattle.gs_shell_desk.specs.declared.desk.Desk.{Desk}
use Rattle.gs_shell_grammar.specs.Grammar.{Request}
use Rattle.gs_shell_grammar.specs.Grammar as lines
use Rattle.gs_laws_scripts.specs.lists.Lines.{commits_prepare, commits_rollback}
use Rattle.gs_shell_script.specs.Run.{Runs}
use Rattle.gs_laws_scripts.specs.answers.Meeting.{IsClientOf}
use Rattle.gs_laws_chunks.specs.desks.Within.{IsReachedWithin}
use Rattle.gs_laws_looks.specs.reads.Read.{AreAmongThen, Reading, ReadsTwice}
use Rattle.gs_laws_looks.specs.reads.Read as readings

-- what a line reads of a file: so many bytes from an offset on, or the digest of a block of one of its chunks
pub data Asks : Type 0 where
  Bytes : (offset many : ℕ) → Asks
  Digest : (chunk block : ℕ) → Asks

abbrev pub line_of : List ℕ → Asks → Request
line_of path (Bytes offset many) = lines.Read path offset many
line_of path (Digest chunk block) = lines.Digest path chunk block

abbrev pub answer_of : Asks → List ℕ → Answer
answer_of (Bytes offset many) bytes = answers.Bytes bytes
answer_of (Digest chunk block) bytes = answers.Digest bytes

-- what a client reads for it, in chunks of a size
abbrev pub reading_of : ℕ → Asks → Reading
reading_of size (Bytes offset many) = readings.Bytes size offset many
reading_of size (Digest chunk block) = readings.Digest chunk block

module _ {D : Type 0} (seen : D → List ℕ) (failures : D → ℕ) (config : Config) (disks : D × D) where
  -- Behind some lines the desk of a store's one client is asked to commit a prepare, with its beginning or without, and answers an epoch; right behind that what is read of a file is answered. Then come any lines; then it is asked to commit a rollback, and answers the next epoch, as numbers of 64 bits; and right behind
  -- that the same line is answered again.
  pub record ReadTwice (path : List ℕ) (asks : Asks) (epoch next : ℕ) (had has : List ℕ) : Type 0 where
    pub new : standing (seen disks.0) (seen disks.1) ≡ fresh
    pub follows : IsNumber epoch → IsNumber next → next ≡ epoch + 1
    pub begun : Desk D
    pub reached : IsReachedWithin seen failures config disks begun
    pub client : IsClientOf config begun.caller.client
    pub prepared : Desk D
    pub prepare_by : Request
    pub is_prepare : commits_prepare prepare_by ≡ true
    pub prepares : Comes seen failures prepare_by begun (Ok (answers.Number epoch)) prepared
    pub read : Desk D
    pub reads : Comes seen failures (line_of path asks) prepared (Ok (answer_of asks had)) read
    pub between : List (List ℕ)
    pub texts : List (List ℕ)
    pub later : Desk D
    pub passes : Runs (AnswersText seen failures) read between texts later
    pub back : Desk D
    pub roll_by : Request
    pub is_rollback : commits_rollback roll_by ≡ true
    pub rolls : Comes seen failures roll_by later (Ok (answers.Number next)) back
    pub last : Desk D
    pub again : Comes seen failures (line_of path asks) back (Ok (answer_of asks has)) last

  -- So it goes in a run of a store that has begun over these disks, by way of these desks: at the path that the line names, in that epoch, it reads what was answered, from what the commit of the prepare has left on, and again from what that of the rollback has left. And both
  -- answers are the same, if there is a run that goes so in which different blocks that servers have on the way have different digests.
  pub record AreTheSameWhereToldApart (text : List ℕ) (asks : Asks) (epoch : ℕ) (had has : List ℕ) (prepared read back last : Desk D) : Type 0 where
    pub number : IsNumber epoch
    pub client : ClientId
    pub path : Path
    pub parsed : parse_hidden text ≡ Ok path
    pub run : ReadsTwice seen failures config 1 disks client path (reading_of config.chunk asks) epoch had has
    pub begins_to_read : run.start.nodes ≡ (way_of prepared.wire).nodes
    pub has_read : run.end.nodes ≡ (way_of read.wire).nodes
    pub begins_again : run.start_then.nodes ≡ (way_of back.wire).nodes
    pub ends : run.last.nodes ≡ (way_of last.wire).nodes
    pub same : (r : ReadsTwice seen failures config 1 disks client path (reading_of config.chunk asks) epoch had has) (among : List ℕ → Bool) → among [] ≡ true → TellsApart among
        → AreAmongThen seen failures config 1 disks among client path (reading_of config.chunk asks) epoch had has r → has ≡ had

  -- ---- what is to hold

  abbrev pub ReadTheSameWhereToldApart : Type 0
  ReadTheSameWhereToldApart = (path : List ℕ) (asks : Asks) (epoch next : ℕ) (had has : List ℕ) (r : ReadTwice path asks epoch next had has) → AreTheSameWhereToldApart path asks epoch had has r.prepared r.read r.back r.last

-- ---- Worked
a_line_reads : line_of (codes "/f") (Bytes 3 10) ≡ lines.Read (codes "/f") 3 10
a_line_reads = refl

a_client_reads_for_it : reading_of 64 (Bytes 3 10) ≡ readings.Bytes 64 3 10
a_client_reads_for_it = refl
