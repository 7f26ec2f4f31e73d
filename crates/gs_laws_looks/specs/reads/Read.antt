-- What a client reads of a file behind a prepare, and behind its rollback.
use Rattle.std.specs.Prelude.{[], ◌+◌, ◌<◌, ◌∷◌, ◌≡◌, Bool, List, Ok, Option, refl, true, ℕ}
use Rattle.std.proofs.Common.{◌^◌}
use Rattle.std.specs.List.{AllByRecursion}
use Rattle.gs_base.specs.declared.config.Config.{Config}
use Rattle.gs_base.specs.declared.numbers.ClientId.{ClientId}
use Rattle.gs_block.specs.Written.{TellsApart}
use Rattle.gs_client.specs.Reading.{digest_call, read_call}
use Rattle.gs_client.specs.Trees.{Call as AnyCall}
use Rattle.gs_client.specs.declared.link.Reply.{Reply}
use Rattle.gs_client.specs.declared.link.Reply.TheVariants as replies
use Rattle.gs_client_dialogue.specs.Heard.{Says}
use Rattle.gs_client_part.specs.declared.located.Located.{Located}
use Rattle.gs_laws_looks.specs.clients.Files.{on_opened}
use Rattle.gs_journal.specs.Records.{fresh, standing}
use Rattle.gs_msg.specs.declared.answer.Answer.{Answer}
use Rattle.gs_msg.specs.declared.answer.Answer.TheVariants as answers
use Rattle.gs_msg.specs.declared.call.Call.{Call}
use Rattle.gs_msg.specs.declared.call.Call.TheVariants as calls
use Rattle.gs_msg.specs.declared.event.Request.{Request}
use Rattle.gs_path.specs.Path.{Path}
use Rattle.gs_world.specs.Histories.{Begins, History}
use Rattle.gs_world.specs.Runs.{Comes, Goes, RunsTo, Step}
use Rattle.gs_laws_chunks.specs.answers.Behind.{HasAnswer, IsOnly, asks_call}
use Rattle.gs_laws_world.specs.steady.Asking.{asks_at}
use Rattle.gs_laws_looks.specs.carrying.Exchanged.{HasReply, Looks, Went}
use Rattle.gs_laws_chunks.specs.answers.Resting.{IsLooking}
use Rattle.gs_laws_chunks.specs.accounts.Running.{AreAmong}
use Rattle.gs_laws_chunks.specs.accounts.Among.{AreEver}
use Rattle.gs_laws_world.specs.steady.Unarmed.{unarmed}
use Rattle.gs_laws_world.specs.steady.Saying.{IsStepWithin}

-- what is read of a file: bytes from an offset on, by chunks of a size, or the digest of a block of one of its chunks
pub data Reading : Type 0 where
  Bytes : (size offset many : ℕ) → Reading
  Digest : (index block : ℕ) → Reading

-- the file is opened for it
abbrev pub reading_call : Path → Reading → AnyCall (List ℕ × Option Located)
reading_call path (Bytes size offset many) = on_opened path (λ file. read_call size file.path file.opened file.located offset many)
reading_call path (Digest index block) = on_opened path (λ file. digest_call file.path file.opened file.located index block)

module _ {D : Type 0} (seen : D → List ℕ) (failures : D → ℕ) where
  -- requests with their replies, one after the other, each in a store; between them the client only looks
  abbrev pub Exchanged : ClientId → List (Request × Reply) → History D → History D → Type 0
  Exchanged client [] old new = new ≡ old
  Exchanged client (pair ∷ pairs) old new =
      (mid : History D) × (next : History D) × Went seen failures client old pair.0 pair.1 mid × Looks seen failures client mid next × Exchanged client pairs next new

  -- a client opens a file in a store, and this is what it reads of it
  pub record Reads (client : ClientId) (path : Path) (reading : Reading) (bytes : List ℕ) (old new : History D) : Type 0 where
    pub pairs : List (Request × Reply)
    pub located : Option Located
    pub says : Says (reading_call path reading) pairs (Ok (bytes, located))
    pub exchanged : Exchanged client pairs old new

  -- ---- behind each step of it the blocks that servers have are among some

  abbrev pub AnswerAmong : (among : List ℕ → Bool) (client : ClientId) (old : History D) (call : Call) (answer : Answer) (new : History D) → HasAnswer seen failures unarmed client old call answer new → Type 0
  AnswerAmong among client old call answer new c = AreEver seen failures among (asks_call c.moment c.req call ∷ c.steps) old new (c.asked, (Ok tt, c.asks.happens), c.runs)

  abbrev pub ReplyAmong : (among : List ℕ → Bool) (client : ClientId) (old : History D) (request : Request) (reply : Reply) (new : History D) → HasReply seen failures client old request reply new → Type 0
  ReplyAmong among client old request reply new h = AreEver seen failures among (Comes (asks_at h.moment h.req request) ∷ h.behind.steps) old new (h.asked, (Ok tt, h.happens), h.behind.runs)

  abbrev pub LooksAmong : (among : List ℕ → Bool) (client : ClientId) (old new : History D) → Looks seen failures client old new → Type 0
  LooksAmong among client old new looks = AreEver seen failures among looks.steps old new looks.runs

  abbrev pub WentAmong : (among : List ℕ → Bool) (client : ClientId) (old : History D) (request : Request) (reply : Reply) (new : History D) → Went seen failures client old request reply new → Type 0
  WentAmong among client old request (replies.Answer answer) new went = ReplyAmong among client old request (replies.Answer answer) new went
  WentAmong among client old request (replies.Given given) new went = ReplyAmong among client old request (replies.Given given) new went
  WentAmong among client old request (replies.Outcome outcome) new went = LooksAmong among client old new went
  WentAmong among client old request (replies.Refused refusal) new went = LooksAmong among client old new went
  WentAmong among client old request replies.Lost new went = LooksAmong among client old new went

  abbrev pub ExchangedAmong : (among : List ℕ → Bool) (client : ClientId) (pairs : List (Request × Reply)) (old new : History D) → Exchanged client pairs old new → Type 0
  ExchangedAmong among client [] old new is = Unit {0}
  ExchangedAmong among client (pair ∷ pairs) old new (mid, next, went, looks, rest) = WentAmong among client old pair.0 pair.1 mid went × LooksAmong among client mid next looks × ExchangedAmong among client pairs next new rest

  module _ (config : Config) (clients : ℕ) (disks : D × D) where
    -- A store has begun over disks that said nothing. Behind some steps a client, the only one, has the answer to its commit of a prepare, by which an epoch begins, and reads of a file. Then there are any steps; and then it has the answer to its
    -- commit of a rollback, in the epoch next to that one, and reads the same of the file again. Neither between a commit and its answer, nor between that and the end of the reading, it asks anything of the master but look-ups, and there the
    -- master isn't started again.
    pub record ReadsTwice (client : ClientId) (path : Path) (reading : Reading) (epoch : ℕ) (had has : List ℕ) : Type 0 where
      pub new : standing (seen disks.0) (seen disks.1) ≡ fresh
      pub few : clients < 2 ^ 32
      pub begun : History D
      pub begins : Begins seen failures unarmed config clients disks begun
      pub first : List Step
      pub old : History D
      pub runs : RunsTo seen failures unarmed first begun old
      pub within : AllByRecursion IsStepWithin first
      pub prepared : History D
      pub prepares : HasAnswer seen failures unarmed client old calls.PrepareCommit (answers.Epoch epoch) prepared
      pub only : IsOnly client prepared
      pub start : History D
      pub way : Looks seen failures client prepared start
      pub end : History D
      pub reads : Reads client path reading had start end
      pub between : List Step
      pub later : History D
      pub passes : RunsTo seen failures unarmed between end later
      pub within_between : AllByRecursion IsStepWithin between
      pub back : History D
      pub commits : HasAnswer seen failures unarmed client later calls.RollbackCommit (answers.Epoch (epoch + 1)) back
      pub only_then : IsOnly client back
      pub start_then : History D
      pub way_then : Looks seen failures client back start_then
      pub last : History D
      pub again : Reads client path reading has start_then last

    -- behind each of its steps, from the beginning on, the blocks that servers have are among some
    pub record AreAmongThen (among : List ℕ → Bool) (client : ClientId) (path : Path) (reading : Reading) (epoch : ℕ) (had has : List ℕ) (r : ReadsTwice client path reading epoch had has) : Type 0 where
      pub first : AreEver seen failures among r.first r.begun r.old r.runs
      pub prepares : AnswerAmong among client r.old calls.PrepareCommit (answers.Epoch epoch) r.prepared r.prepares
      pub way : LooksAmong among client r.prepared r.start r.way
      pub reads : ExchangedAmong among client r.reads.pairs r.start r.end r.reads.exchanged
      pub between : AreEver seen failures among r.between r.end r.later r.passes
      pub commits : AnswerAmong among client r.later calls.RollbackCommit (answers.Epoch (epoch + 1)) r.back r.commits
      pub way_then : LooksAmong among client r.back r.start_then r.way_then
      pub again : ExchangedAmong among client r.again.pairs r.start_then r.last r.again.exchanged

    -- Then it reads the same, where different blocks that its servers have on the way have different digests: the rollback is of that prepare, whatever has come between, and whatever disks fail.
    abbrev pub ReadsComeBack : Type 0
    ReadsComeBack = (client : ClientId) (path : Path) (reading : Reading) (epoch : ℕ) (had has : List ℕ) (r : ReadsTwice client path reading epoch had has) (among : List ℕ → Bool) → among [] ≡ true → TellsApart among → AreAmongThen among client path reading epoch had has r → has ≡ had

-- ---- examples: where nothing is asked nothing is to be among them; and where one step comes while the client looks, just the blocks behind it

nothing_is_asked : {D : Type 0} (seen : D → List ℕ) (failures : D → ℕ) (among : List ℕ → Bool) (client : ClientId) (old : History D) → ExchangedAmong seen failures among client [] old old refl
nothing_is_asked seen failures among client old = tt

module _ {D : Type 0} (seen : D → List ℕ) (failures : D → ℕ) (among : List ℕ → Bool) (client : ClientId) (step : Step) (old new : History D) (goes : Goes seen failures unarmed step old new) (within : IsStepWithin step) (looking : IsLooking client step) where
  abbrev one_step : Looks seen failures client old new
  one_step = record { steps = step ∷ []; runs = (new, goes, refl); within = (within, tt); looking = (looking, tt) }

  behind_it_they_are : AreAmong among new.nodes → LooksAmong seen failures among client old new one_step
  behind_it_they_are here = (here, tt)

  they_are_behind_it : LooksAmong seen failures among client old new one_step → AreAmong among new.nodes
  they_are_behind_it all = all.0
