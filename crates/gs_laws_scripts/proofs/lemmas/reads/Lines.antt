-- What lines read of a file behind a prepare, and behind its rollback.
use Rattle.std.proofs.Common.{◌≡◌, ◌∙◌, ◌+◌, ℕ, true, List, [], ◌∷◌, Result, Ok, length, refl, sym, ap, subst, arith}
use Rattle.gs_base.specs.Told.{IsNumber}
use Rattle.gs_base.specs.declared.config.Config.{Config}
use Rattle.gs_base.specs.declared.numbers.Moment.{Moment}
use Rattle.gs_base.specs.declared.refusal.Refusal.{Refusal}
use Rattle.gs_client.specs.declared.client.Client.{Client}
use Rattle.gs_client.specs.declared.link.Reply.TheVariants as replies
use Rattle.gs_client_dialogue.specs.Heard.{Says}
use Rattle.gs_laws_looks.specs.clients.Located.{DigestersAskSo, ReadersAskSo}
use Rattle.gs_msg.specs.declared.answer.Answer.{Answer}
use Rattle.gs_msg.specs.declared.answer.Answer.TheVariants as said
use Rattle.gs_msg.specs.declared.call.Call.{Call}
use Rattle.gs_msg.specs.declared.call.Call.TheVariants as calls
use Rattle.gs_msg.specs.declared.event.Request.TheVariants as requests
use Rattle.gs_nodes.specs.Nodes.{Nodes}
use Rattle.gs_path.specs.Path.{Path}
use Rattle.gs_shell_desk.specs.Ways.{way_of}
use Rattle.gs_shell_desk.specs.declared.desk.Desk.{Desk}
use Rattle.gs_shell_desk.specs.declared.wire.Wire.{Wire}
use Rattle.gs_laws_scripts.proofs.lemmas.lists.Dialogues.{BeginsAndCommits}
use Rattle.gs_laws_scripts.proofs.lemmas.lists.Lines.{Carries_at, answered_on, begun_leads, lines_lead, only_one, prepares_asks, rolls_asks, the_client}
use Rattle.gs_world.proofs.Staying.{run_same}
use Rattle.gs_world.specs.Histories.{History}
use Rattle.gs_world.specs.Runs.{Takes}
use Rattle.gs_world.specs.Sent.{Sent}
use Rattle.gs_laws_chunks.specs.answers.Behind.{HasAnswer, IsOnly}
use Rattle.gs_laws_looks.specs.carrying.Carried.{IsCarried}
use Rattle.gs_laws_looks.specs.carrying.Exchanged.{Looks}
use Rattle.gs_laws_chunks.proofs.lemmas.desks.When.{StepsSo}
use Rattle.gs_laws_world.specs.steady.Asking.{MayBeAsked}
use Rattle.gs_laws_scripts.specs.answers.Meeting.{IsClientOf}
use Rattle.gs_laws_chunks.specs.desks.Reached.{Covers, history}
use Rattle.gs_laws_world.specs.steady.Unarmed.{unarmed}
use Rattle.gs_laws_chunks.specs.desks.Within.{IsReachedWithin}
use Rattle.gs_laws_looks.specs.lists.Listed.{EpochsAreNumbers}
use Rattle.gs_laws_looks.specs.reads.Read.{Reading, ReadsComeBack, ReadsTwice, reading_call}
use Rattle.gs_laws_scripts.proofs.lemmas.reads.Clients.{begun_mine, exchanges_mine, lines_mine, still_mine}
use Rattle.gs_laws_scripts.proofs.lemmas.reads.Dialogues.{LineReads, line_reads}
use Rattle.gs_laws_scripts.proofs.lemmas.reads.Exchanges.{ExchangesOn, exchanges_on, reader_asks}
use Rattle.gs_laws_scripts.proofs.lemmas.reads.Running.{Ran, answered_ran, exchanged_ran, looked_ran, then_ran}
use Rattle.gs_laws_scripts.specs.reads.Lines.{AreTheSameWhereToldApart, Asks, ReadTheSameWhereToldApart, ReadTwice, reading_of}

module _ {D : Type 0} (seen : D → List ℕ) (failures : D → ℕ) where
  abbrev at : Desk D → Client × Wire D
  at d = (d.caller.client, d.wire)

  -- a call of the client that is answered is carried
  carried_on : (config : Config) (sent : Sent) (old new : Client × Wire D) (call : Call) (answer : Answer) → IsClientOf config old.0 → Covers sent (way_of old.1) → IsNumber old.1.moment.0 → MayBeAsked (requests.Call call)
      → Carries_at seen failures old (requests.Call call) (replies.Answer answer) new → IsCarried seen failures the_client (way_of old.1) sent call answer (way_of new.1)
  carried_on config sent old new call answer mine covers small may carried =
      subst (λ k. IsCarried seen failures k (way_of old.1) sent call answer (way_of new.1)) mine.0 (answered_on seen failures sent old new call answer covers small may carried)

  small_then : (old new : Wire D) → new.moment ≡ old.moment → IsNumber old.moment.0 → IsNumber new.moment.0
  small_then old new same small = subst (λ (m : Moment). IsNumber m.0) (sym same) small

  -- then it takes the answer
  taken : (old new : Client × Wire D) (sent : Sent) (call : Call) (answer : Answer) (c : IsCarried seen failures the_client (way_of old.1) sent call answer (way_of new.1)) → Looks seen failures the_client c.mid (history c.after (way_of new.1))
  taken old new sent call answer c = record { steps = Takes the_client ∷ []; runs = c.takes; within = (tt, tt); looking = ((refl, tt), tt) }

  module _ (readers : (path : Path) → ReadersAskSo path) (digesters : (path : Path) → DigestersAskSo path) (config : Config) (disks : D × D) (text : List ℕ) (asks : Asks) (epoch next : ℕ) (had has : List ℕ) (r : ReadTwice seen failures config disks text asks epoch next had has) where
    abbrev reading : Reading
    reading = reading_of config.chunk asks

    -- a line reads this, and so a store goes
    line_reads_so : (old new : Desk D) (bytes : List ℕ) → IsClientOf config old.caller.client → LineReads seen failures text (reading_of old.caller.client.chunk asks) (at old) bytes (at new) → LineReads seen failures text reading (at old) bytes (at new)
    line_reads_so old new bytes mine reads = subst (λ size. LineReads seen failures text (reading_of size asks) (at old) bytes (at new)) mine.1 reads

    exchanges_so : (sent : Sent) (old new : Desk D) (bytes : List ℕ) (l : LineReads seen failures text reading (at old) bytes (at new)) → IsClientOf config old.caller.client → Covers sent (way_of old.wire) → IsNumber old.wire.moment.0 → ExchangesOn seen failures config l.path sent (at old) l.pairs (at new)
    exchanges_so sent old new bytes l mine covers small = exchanges_on seen failures config l.path [] l.pairs sent (at old) (at new) (reader_asks readers digesters l.path reading l.pairs bytes l.located l.says) mine covers small l.carried

    -- ---- a prepare, and what is read behind it

    reached : IsReachedWithin seen failures config disks r.begun
    reached = r.reached

    one : BeginsAndCommits (Carries_at seen failures) (requests.Call calls.PrepareBegin) (requests.Call calls.PrepareCommit) (at r.begun) epoch (at r.prepared)
    one = prepares_asks seen failures r.prepare_by r.is_prepare r.begun r.prepared epoch r.prepares

    first : StepsSo seen failures true (way_of r.begun.wire) (way_of one.mid.1) reached.sent
    first = begun_leads seen failures (at r.begun) one.mid (requests.Call calls.PrepareBegin) (record { named = tt; met = λ names. tt }) one.begins reached.sent reached.covers reached.moment

    mine_one : IsClientOf config one.mid.0
    mine_one = begun_mine seen failures config (at r.begun) one.mid (requests.Call calls.PrepareBegin) r.client one.begins

    prepared : IsCarried seen failures the_client (way_of one.mid.1) first.after calls.PrepareCommit (said.Epoch epoch) (way_of r.prepared.wire)
    prepared = carried_on config first.after one.mid (at r.prepared) calls.PrepareCommit (said.Epoch epoch) mine_one first.covers first.moment (record { named = tt; met = λ names. tt }) one.commits

    mine_prepared : IsClientOf config r.prepared.caller.client
    mine_prepared = still_mine seen failures config one.mid (at r.prepared) (requests.Call calls.PrepareCommit) (replies.Answer (said.Epoch epoch)) mine_one one.commits

    read_one : LineReads seen failures text reading (at r.prepared) had (at r.read)
    read_one = line_reads_so r.prepared r.read had mine_prepared (line_reads seen failures text asks r.prepared r.read had r.reads)

    exchanges_one : ExchangesOn seen failures config read_one.path prepared.after (at r.prepared) read_one.pairs (at r.read)
    exchanges_one = exchanges_so prepared.after r.prepared r.read had read_one mine_prepared prepared.covers (small_then one.mid.1 r.prepared.wire prepared.moment first.moment)

    mine_later : IsClientOf config r.later.caller.client
    mine_later = lines_mine seen failures config r.between r.texts r.read r.later r.passes (exchanges_mine seen failures config read_one.pairs (at r.prepared) (at r.read) mine_prepared read_one.carried)

    lines_on : StepsSo seen failures true (way_of r.read.wire) (way_of r.later.wire) exchanges_one.after
    lines_on = lines_lead seen failures r.between r.texts r.read r.later r.passes exchanges_one.after exchanges_one.covers exchanges_one.moment

    -- ---- a rollback, and what is read behind it

    two : BeginsAndCommits (Carries_at seen failures) (requests.Call calls.RollbackBegin) (requests.Call calls.RollbackCommit) (at r.later) next (at r.back)
    two = rolls_asks seen failures r.roll_by r.is_rollback r.later r.back next r.rolls

    second : StepsSo seen failures true (way_of r.later.wire) (way_of two.mid.1) lines_on.after
    second = begun_leads seen failures (at r.later) two.mid (requests.Call calls.RollbackBegin) (record { named = tt; met = λ names. tt }) two.begins lines_on.after lines_on.covers lines_on.moment

    mine_two : IsClientOf config two.mid.0
    mine_two = begun_mine seen failures config (at r.later) two.mid (requests.Call calls.RollbackBegin) mine_later two.begins

    back : IsCarried seen failures the_client (way_of two.mid.1) second.after calls.RollbackCommit (said.Epoch next) (way_of r.back.wire)
    back = carried_on config second.after two.mid (at r.back) calls.RollbackCommit (said.Epoch next) mine_two second.covers second.moment (record { named = tt; met = λ names. tt }) two.commits

    mine_back : IsClientOf config r.back.caller.client
    mine_back = still_mine seen failures config two.mid (at r.back) (requests.Call calls.RollbackCommit) (replies.Answer (said.Epoch next)) mine_two two.commits

    read_two : LineReads seen failures text reading (at r.back) has (at r.last)
    read_two = line_reads_so r.back r.last has mine_back (line_reads seen failures text asks r.back r.last has r.again)

    exchanges_two : ExchangesOn seen failures config read_two.path back.after (at r.back) read_two.pairs (at r.last)
    exchanges_two = exchanges_so back.after r.back r.last has read_two mine_back back.covers (small_then two.mid.1 r.back.wire back.moment second.moment)

    same_path : read_two.path ≡ read_one.path
    same_path = path_is (sym read_two.parsed ∙ read_one.parsed)
      where
        path_is : {a b : Path} → ◌≡◌ {A = Result Path Refusal} (Ok a) (Ok b) → a ≡ b
        path_is is = cc

    -- ---- the run of the store

    abbrev start : History D
    start = reached.reached.begun

    to_old : Ran seen failures start (history first.after (way_of one.mid.1))
    to_old = then_ran seen failures start (history reached.sent (way_of r.begun.wire)) (history first.after (way_of one.mid.1))
        (record { steps = reached.reached.steps; runs = reached.reached.runs; within = reached.within }) (record { steps = first.steps; runs = first.runs; within = first.within })

    to_prepared : Ran seen failures start prepared.mid
    to_prepared = then_ran seen failures start (history first.after (way_of one.mid.1)) prepared.mid to_old (answered_ran seen failures the_client (history first.after (way_of one.mid.1)) calls.PrepareCommit (said.Epoch epoch) prepared.mid prepared.has)

    way : Looks seen failures the_client prepared.mid (history prepared.after (way_of r.prepared.wire))
    way = taken one.mid (at r.prepared) first.after calls.PrepareCommit (said.Epoch epoch) prepared

    to_read : Ran seen failures start (history exchanges_one.after (way_of r.read.wire))
    to_read = then_ran seen failures start prepared.mid (history exchanges_one.after (way_of r.read.wire)) to_prepared
        (then_ran seen failures prepared.mid (history prepared.after (way_of r.prepared.wire)) (history exchanges_one.after (way_of r.read.wire)) (looked_ran seen failures the_client prepared.mid (history prepared.after (way_of r.prepared.wire)) way)
        (exchanged_ran seen failures the_client read_one.pairs (history prepared.after (way_of r.prepared.wire)) (history exchanges_one.after (way_of r.read.wire)) exchanges_one.exchanged))

    between : Ran seen failures (history exchanges_one.after (way_of r.read.wire)) (history second.after (way_of two.mid.1))
    between = then_ran seen failures (history exchanges_one.after (way_of r.read.wire)) (history lines_on.after (way_of r.later.wire)) (history second.after (way_of two.mid.1))
        (record { steps = lines_on.steps; runs = lines_on.runs; within = lines_on.within }) (record { steps = second.steps; runs = second.runs; within = second.within })

    to_later : Ran seen failures start (history second.after (way_of two.mid.1))
    to_later = then_ran seen failures start (history exchanges_one.after (way_of r.read.wire)) (history second.after (way_of two.mid.1)) to_read between

    to_back : Ran seen failures start back.mid
    to_back = then_ran seen failures start (history second.after (way_of two.mid.1)) back.mid to_later (answered_ran seen failures the_client (history second.after (way_of two.mid.1)) calls.RollbackCommit (said.Epoch next) back.mid back.has)

    -- behind any run from the beginning there is one client
    only_at : (world : History D) → Ran seen failures start world → IsOnly the_client world
    only_at world ran other n there = only_one world.nodes.clients ((run_same seen failures unarmed ran.steps start world ran.runs).clients ∙ ap (λ (k : Nodes D). length k.clients) reached.reached.begins.nodes) other n there

    epoch_small : EpochsAreNumbers seen failures config 1 disks → IsNumber epoch
    epoch_small numbers = numbers the_client calls.PrepareCommit epoch r.new (omega arith) start (history first.after (way_of one.mid.1)) prepared.mid to_old.steps reached.reached.begins to_old.runs to_old.within refl prepared.has

    next_is : EpochsAreNumbers seen failures config 1 disks → next ≡ epoch + 1
    next_is numbers =
        r.follows (epoch_small numbers)
        (numbers the_client calls.RollbackCommit next r.new (omega arith) start (history second.after (way_of two.mid.1)) back.mid to_later.steps reached.reached.begins to_later.runs to_later.within refl back.has)

    abbrev twice : EpochsAreNumbers seen failures config 1 disks → ReadsTwice seen failures config 1 disks the_client read_one.path reading epoch had has
    twice numbers = record {
      new = r.new;
      few = omega arith;
      begun = start;
      begins = reached.reached.begins;
      first = to_old.steps;
      old = history first.after (way_of one.mid.1);
      runs = to_old.runs;
      within = to_old.within;
      prepared = prepared.mid;
      prepares = prepared.has;
      only = only_at prepared.mid to_prepared;
      start = history prepared.after (way_of r.prepared.wire);
      way = way;
      end = history exchanges_one.after (way_of r.read.wire);
      reads = record { pairs = read_one.pairs; located = read_one.located; says = read_one.says; exchanged = exchanges_one.exchanged };
      between = between.steps;
      later = history second.after (way_of two.mid.1);
      passes = between.runs;
      within_between = between.within;
      back = back.mid;
      commits = subst (λ k. HasAnswer seen failures unarmed the_client (history second.after (way_of two.mid.1)) calls.RollbackCommit (said.Epoch k) back.mid) (next_is numbers) back.has;
      only_then = only_at back.mid to_back;
      start_then = history back.after (way_of r.back.wire);
      way_then = taken two.mid (at r.back) second.after calls.RollbackCommit (said.Epoch next) back;
      last = history exchanges_two.after (way_of r.last.wire);
      again = record {
        pairs = read_two.pairs;
        located = read_two.located;
        says = subst (λ (p : Path). Says (reading_call p reading) read_two.pairs (Ok (has, read_two.located))) same_path read_two.says;
        exchanged = exchanges_two.exchanged;
      };
    }

    pub are_the_same : EpochsAreNumbers seen failures config 1 disks → ReadsComeBack seen failures config 1 disks → AreTheSameWhereToldApart seen failures config disks text asks epoch had has r.prepared r.read r.back r.last
    are_the_same numbers law = record {
      number = epoch_small numbers;
      client = the_client;
      path = read_one.path;
      parsed = read_one.parsed;
      run = twice numbers;
      begins_to_read = refl;
      has_read = refl;
      begins_again = refl;
      ends = refl;
      same = λ run among none apart all. law the_client read_one.path reading epoch had has run among none apart all;
    }

pub read_the_same : {D : Type 0} → ((path : Path) → ReadersAskSo path) → ((path : Path) → DigestersAskSo path) → ((seen : D → List ℕ) (failures : D → ℕ) (config : Config) (clients : ℕ) (disks : D × D) → EpochsAreNumbers seen failures config clients disks)
    → ((seen : D → List ℕ) (failures : D → ℕ) (config : Config) (clients : ℕ) (disks : D × D) → ReadsComeBack seen failures config clients disks) → (seen : D → List ℕ) (failures : D → ℕ) (config : Config) (disks : D × D) → ReadTheSameWhereToldApart seen failures config disks
read_the_same readers digesters numbers law seen failures config disks path asks epoch next had has r = are_the_same seen failures readers digesters config disks path asks epoch next had has r (numbers seen failures config 1 disks) (law seen failures config 1 disks)
