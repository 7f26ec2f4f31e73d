-- That a store goes on from its image as from where it was closed.
use Rattle.std.proofs.Common.{◌≡◌, ◌≢◌, ◌∙◌, ◌+◌, ◌≤◌, ℕ, Bool, true, false, List, [], ◌∷◌, Option, Some, None, MatchOption, Result, Err, ap, arith, inl, inr, length, refl, subst, sym}
use Rattle.std.specs.List.{AllByRecursion}
use Rattle.std.specs.Prelude.{nat_le, option_map, unwrap_or}
use Rattle.std.proofs.lemmas.Bool.{false≢true}
use Rattle.gs_base.specs.declared.config.Config.{Config}
use Rattle.gs_base.specs.declared.refusal.Refusal.{Refusal}
use Rattle.gs_base.specs.declared.refusal.Refusal.TheVariants as refusals
use Rattle.gs_desk_image.specs.Desks.{AreAlike, bytes_in, closed, is_closed, without_master}
use Rattle.gs_journal.specs.Memory.{bytes_of, times_failed}
use Rattle.gs_journal.specs.Records.{fresh, standing}
use Rattle.gs_journal.specs.declared.memory.MemoryDisk.{MemoryDisk}
use Rattle.gs_laws_chunks.specs.desks.Reached.{Covers, history}
use Rattle.gs_laws_chunks.proofs.lemmas.desks.Failing.{run_rises}
use Rattle.gs_laws_chunks.proofs.lemmas.desks.Lines.{line_steps}
use Rattle.gs_laws_master.proofs.lemmas.rooms.RoomsOfTurns.{messages_counted, ticks_counted}
use Rattle.gs_laws_scripts.specs.answers.Meeting.{AllSteady, AllWritten, IsAskedByLine, IsMetWay, IsPlain, Reaches}
use Rattle.gs_laws_scripts.specs.answers.Plain.{Plain, PlainDesk, answers_all, begins}
use Rattle.gs_laws_scripts.proofs.lemmas.answers.PlainEnduring.{Endures}
use Rattle.gs_laws_scripts.proofs.lemmas.answers.PlainMeeting.{met_endures, met_restarts}
use Rattle.gs_laws_scripts.proofs.lemmas.answers.PlainRuns.{begun_reaches}
use Rattle.gs_laws_scripts.proofs.lemmas.answers.PlainScripts.{AreSound, all_lines, lines_mine}
use Rattle.gs_laws_scripts.proofs.lemmas.answers.PlainSteady.{all_steady}
use Rattle.gs_laws_scripts.proofs.lemmas.answers.PlainWritten.{all_written}
use Rattle.gs_laws_world.specs.lasting.Lasting.{failures_at}
use Rattle.gs_master.specs.Masters.{MasterOf}
use Rattle.gs_master.specs.declared.turn.Turn.{Turn as Told}
use Rattle.gs_nodes.specs.Happenings.{Reopens, disks_of}
use Rattle.gs_nodes.specs.Nodes.{with_master}
use Rattle.gs_nodes.specs.declared.place.MasterPlace.{MasterPlace}
use Rattle.gs_nodes.specs.declared.place.MasterPlace.TheVariants.{Standing, Closed, Away}
use Rattle.gs_shell_calls.specs.declared.answer.Answer.{Answer}
use Rattle.gs_shell_desk.specs.Answering.{AnswersText, IsText}
use Rattle.gs_shell_desk.specs.Lines.{Comes, MasterRestarts}
use Rattle.gs_shell_desk.specs.Ways.{Way, way_of, with_nodes}
use Rattle.gs_shell_desk.specs.declared.desk.Desk.{Desk}
use Rattle.gs_shell_grammar.specs.Grammar.{Request, line_request}
use Rattle.gs_shell_grammar.specs.Grammar as lines
use Rattle.gs_shell_grammar.specs.declared.command.Restarted.TheVariants as restarted
use Rattle.gs_shell_line.specs.Line.{content, longest_line}
use Rattle.gs_shell_script.specs.Run.{AnswersIfShort, AnswersLine, Runs, memory_text}
use Rattle.gs_world.specs.Sent.{Sent}
use Rattle.gs_laws_image.specs.Seen.{SeenDisk, bytes_seen, failures_seen, desk_seen, disks_seen, master_seen, place_seen, way_seen}
use Rattle.gs_laws_image.specs.Going.{AreSameButDisks, GoesOnAs, IsClosedOf, IsRestart, WentOn}
use Rattle.gs_laws_image.specs.Laws.{ClosedDesksGoOn, GoOnAlike, ImagesGoOn, ImagesGoOnAlike, LinesGoOn, NewStoresGoOn}
use Rattle.gs_laws_image.proofs.Worlds.{AreHere, reaches_seen, still_seen}
use Rattle.gs_laws_image.proofs.Asking.{begins_asked, lines_ask}
use Rattle.gs_laws_image.proofs.Lines.{lines_seen}

-- ---- numbers

equal_first : (a b c : ℕ) → a ≤ b → b ≤ c → c ≡ a → b ≡ a
equal_first a b c first second same = omega arith

one_after : (a b c : ℕ) → a ≤ b → b ≤ c → a ≤ c
one_after a b c first second = omega arith

none_below : (a : ℕ) → a ≤ 0 → 0 ≡ a
none_below a below = omega arith

in_order : (a b c : ℕ) → a + (b + c) ≡ (a + b) + c
in_order a b c = omega arith

counted_alike : (a b c : ℕ) → (b + c) + a ≡ (a + b) + c
counted_alike a b c = omega arith

-- ---- lines, at a desk to which lines have led

module _ {D : Type 0} (seen : D → List ℕ) (failures : D → ℕ) where
  abbrev failed : Desk D → ℕ
  failed desk = failures_at failures desk.wire.nodes.master

  -- a line lets no failures go, and all that is under way behind it was sent
  record Onward (old new : Desk D) : Type 0 where
    sent : Sent
    covers : Covers sent (way_of new.wire)
    rises : failed old ≤ failed new

  same_onward : (old new : Desk D) (sent : Sent) → Covers sent (way_of old.wire) → new ≡ old → Onward old new
  same_onward old new sent covers same =
      record { sent = sent; covers = subst (λ (d : Desk D). Covers sent (way_of d.wire)) (sym same) covers; rises = omega (arith, ap failed same) }

  short_onward : (b : Bool) (old : Desk D) (line text : List ℕ) (new : Desk D) (sent : Sent) → Covers sent (way_of old.wire) → AnswersIfShort (AnswersText seen failures) b old line text new → Onward old new
  short_onward true old line text new sent covers answers =
      let s = line_steps seen failures old new line text sent answers covers in
      record { sent = s.after; covers = s.covers; rises = run_rises seen failures s.steps (history sent (way_of old.wire)) (history s.after (way_of new.wire)) s.runs }
  short_onward false old line text new sent covers (bad, same) = same_onward old new sent covers same

  line_onward : (old : Desk D) (whole text : List ℕ) (new : Desk D) (sent : Sent) → Covers sent (way_of old.wire) → AnswersLine (AnswersText seen failures) old whole text new → Onward old new
  line_onward old whole text new sent covers (inl (memory, same)) = same_onward old new sent covers same
  line_onward old whole text new sent covers (inr short) = short_onward (nat_le (length (content whole)) longest_line) old (content whole) text new sent covers short

  lines_rise : (all texts : List (List ℕ)) (old new : Desk D) (sent : Sent) → Covers sent (way_of old.wire) → Runs (AnswersText seen failures) old all texts new → failed old ≤ failed new
  lines_rise [] [] old new sent covers same = omega (arith, ap failed same)
  lines_rise [] (text ∷ texts) old new sent covers never = absurd never
  lines_rise (line ∷ others) [] old new sent covers never = absurd never
  lines_rise (line ∷ others) (text ∷ texts) old new sent covers (mid, answers, rest) =
      let on = line_onward old line text mid sent covers answers in one_after (failed old) (failed mid) (failed new) on.rises (lines_rise others texts mid new on.sent on.covers rest)

  -- so where as many have failed in the end as at first, none has on the way
  are_sound : (all texts : List (List ℕ)) (old new : Desk D) (sent : Sent) → Covers sent (way_of old.wire) → (r : Runs (AnswersText seen failures) old all texts new) → failed new ≡ failed old
      → AreSound seen failures old all texts new r
  are_sound [] texts old new sent covers r same = tt
  are_sound (line ∷ others) [] old new sent covers r same = tt
  are_sound (line ∷ others) (text ∷ texts) old new sent covers (mid, answers, rest) same =
      let on = line_onward old line text mid sent covers answers in
      let still = equal_first (failed old) (failed mid) (failed new) on.rises (lines_rise others texts mid new on.sent on.covers rest) same in
      (still, are_sound others texts mid new on.sent on.covers rest (same ∙ sym still))

  module _ (config : Config) (disks : D × D) (first : seen disks.0 ≡ []) (second : seen disks.1 ≡ []) where
    none_told : standing (seen disks.0) (seen disks.1) ≡ fresh
    none_told = ap (λ (l : List ℕ). standing l (seen disks.1)) first ∙ ap (standing []) second

    steady : AllSteady seen failures config disks
    steady = all_steady seen failures config disks none_told

    written : AllWritten seen failures config disks
    written = all_written seen failures (record { messages = messages_counted; ticks = ticks_counted }) config disks steady first second

    runs_answered : (all texts : List (List ℕ)) (old new : Desk D) (w : PlainDesk) → Reaches seen failures config disks old w → Runs (AnswersText seen failures) old all texts new
        → new.wire.is_short ≡ false → AllByRecursion (λ text. text ≢ memory_text) texts → failed new ≡ failed old
        → (texts ≡ (answers_all all w).0) × Reaches seen failures config disks new (answers_all all w).1
    runs_answered all texts old new w r runs enough answered sound =
        let endures : Endures seen failures (record { 0 = 1 }) config.chunk (IsAskedByLine config.chunk) (λ way. IsMetWay seen failures config disks way) = met_endures seen failures config disks steady in
        let gives = all_lines seen failures (record { 0 = 1 }) config.chunk (IsAskedByLine config.chunk) (λ way. IsMetWay seen failures config disks way) endures all texts old new runs r.ours answered
        (inr (met_restarts seen failures config disks written)) (are_sound all texts old new r.met.sent r.met.covers runs sound) in
        let done = gives.same enough w (record { client = r.client; plain = r.plain; good = r.met }) in (
          done.0,
          record {
            client = done.1.client;
            ours = lines_mine seen failures (record { 0 = 1 }) config.chunk (IsAskedByLine config.chunk) (λ way. IsMetWay seen failures config disks way) endures all texts old new runs r.ours;
            plain = done.1.plain;
            met = done.1.good;
          },
        )

-- ---- a restart of a master whose disks were closed

module _ {D : Type 0} (seen : D → List ℕ) (failures : D → ℕ) where
  -- the disks are those of the master
  opens_alike : (config : Config) (old : MasterPlace D) (turn : Result Told Refusal) (new : MasterPlace D) → Reopens seen failures config (closed old) turn new → Reopens seen failures config old turn new
  opens_alike config (Standing m) turn new h = h
  opens_alike config (Closed first second) turn new h = h
  opens_alike config Away turn new h = h

  abbrev closed_way : Way D → Way D
  closed_way w = with_nodes (with_master (closed w.nodes.master) w.nodes) w

  way_restarts : (old : Way D) (result : Result (Unit {0}) Refusal) (new : Way D) → MasterRestarts seen failures (closed_way old) result new → MasterRestarts seen failures old result new
  way_restarts old result new r =
      record { place = r.place; turn = r.turn; mid = r.mid; opens = opens_alike old.nodes.config old.nodes.master r.turn r.place r.opens; ends = r.ends; delivers = r.delivers }

  module _ (d e : Desk D) (client : e.caller.client ≡ d.caller.client) (way : way_of e.wire ≡ closed_way (way_of d.wire)) where
    comes_alike : (result : Result Answer Refusal) (new : Desk D) → Comes seen failures (lines.Restart restarted.Master) e result new → Comes seen failures (lines.Restart restarted.Master) d result new
    unfolding Comes
    comes_alike result new (same, (said, h, is)) = (same ∙ client, (said, way_restarts (way_of d.wire) said (way_of new.wire) (subst (λ (w : Way D). MasterRestarts seen failures w said (way_of new.wire)) way h), is))

    request_alike : (o : Option Request) (text : List ℕ) (new : Desk D) → o ≡ Some (lines.Restart restarted.Master)
        → MatchOption o (IsText (Err refusals.BadLine) text × (new ≡ e)) (λ request. (answer : Result Answer Refusal) × Comes seen failures request e answer new × IsText answer text)
        → MatchOption o (IsText (Err refusals.BadLine) text × (new ≡ d)) (λ request. (answer : Result Answer Refusal) × Comes seen failures request d answer new × IsText answer text)
    request_alike None text new is h = absurd cc
    request_alike (Some request) text new is (answer, h, said) =
        let same : request ≡ lines.Restart restarted.Master = ap (λ (o : Option Request). unwrap_or o request) is in
        (answer, subst (λ (r : Request). Comes seen failures r e answer new → Comes seen failures r d answer new) (sym same) (comes_alike answer new) h, said)

    text_alike : (line text : List ℕ) (new : Desk D) → line_request line ≡ Some (lines.Restart restarted.Master) → text ≢ memory_text → AnswersText seen failures e line text new → AnswersText seen failures d line text new
    unfolding AnswersText
    text_alike line text new is enough (inl (memory, same)) = absurd (enough memory)
    text_alike line text new is enough (inr h) = inr (request_alike (line_request line) text new is h)

    short_alike : (b : Bool) (line text : List ℕ) (new : Desk D) → b ≡ true → (AnswersText seen failures e line text new → AnswersText seen failures d line text new)
        → AnswersIfShort (AnswersText seen failures) b e line text new → AnswersIfShort (AnswersText seen failures) b d line text new
    short_alike true line text new is goes h = goes h
    short_alike false line text new is goes h = absurd (false≢true is)

    restart_alike : (whole text : List ℕ) (new : Desk D) → IsRestart whole → text ≢ memory_text → AnswersLine (AnswersText seen failures) e whole text new → AnswersLine (AnswersText seen failures) d whole text new
    restart_alike whole text new is enough (inl (memory, same)) = absurd (enough memory)
    restart_alike whole text new is enough (inr h) =
        inr (short_alike (nat_le (length (content whole)) longest_line) (content whole) text new is.1 (text_alike (content whole) text new is.0 enough) h)

    first_alike : (whole : List ℕ) (all texts : List (List ℕ)) (new : Desk D) → IsRestart whole → AllByRecursion (λ text. text ≢ memory_text) texts → Runs (AnswersText seen failures) e (whole ∷ all) texts new
        → Runs (AnswersText seen failures) d (whole ∷ all) texts new
    first_alike whole all [] new is answered never = absurd never
    first_alike whole all (text ∷ texts) new is answered (mid, h, rest) = (mid, restart_alike whole text mid is answered.0 h, rest)

often_closed : {D : Type 0} (failures : D → ℕ) (p : MasterPlace D) → failures_at failures (closed p) ≡ failures_at failures p
often_closed failures (Standing m) = refl
often_closed failures (Closed first second) = refl
often_closed failures Away = refl

-- ---- what is seen, counted from higher numbers

abbrev disk_with : List ℕ → ℕ → SeenDisk
disk_with bytes count = record { bytes = bytes; failures = count }

module _ {D : Type 0} (seen : D → List ℕ) (failures : D → ℕ) where
  abbrev standing_with : MasterOf D → SeenDisk → SeenDisk → MasterPlace SeenDisk
  standing_with m first second = Standing (record {
    config = m.config;
    state = m.state;
    journal = record { text = m.journal.text; size = m.journal.size; limit = m.journal.limit; generation = m.journal.generation; is_failed = m.journal.is_failed; first = first; second = second };
  })

  place_twice : (more counts : ℕ × ℕ) (p : MasterPlace D) → place_seen bytes_seen failures_seen more (place_seen seen failures counts p) ≡ place_seen seen failures (more.0 + counts.0, more.1 + counts.1) p
  place_twice more counts (Standing m) =
      λ i. standing_with m (disk_with (seen m.journal.first) (in_order more.0 counts.0 (failures m.journal.first) i)) (disk_with (seen m.journal.second) (in_order more.1 counts.1 (failures m.journal.second) i))
  place_twice more counts (Closed first second) =
      λ i. Closed (disk_with (seen first) (in_order more.0 counts.0 (failures first) i)) (disk_with (seen second) (in_order more.1 counts.1 (failures second) i))
  place_twice more counts Away = refl

  abbrev desk_with : Desk D → MasterPlace SeenDisk → Desk SeenDisk
  desk_with d p = record {
    caller = d.caller;
    wire = record {
      alloc = d.wire.alloc;
      nodes = record { alloc = d.wire.nodes.alloc; config = d.wire.nodes.config; master = p; servers = d.wire.nodes.servers; clients = d.wire.nodes.clients };
      moment = d.wire.moment;
      queue = d.wire.queue;
      held_kind = d.wire.held_kind;
      held = d.wire.held;
      drops = d.wire.drops;
      is_short = d.wire.is_short;
      trace = d.wire.trace;
    };
  }

  desk_twice : (more counts : ℕ × ℕ) (d : Desk D) → desk_seen bytes_seen failures_seen more (desk_seen seen failures counts d) ≡ desk_seen seen failures (more.0 + counts.0, more.1 + counts.1) d
  desk_twice more counts d = ap (desk_with d) (place_twice more counts d.wire.nodes.master)

  counted_higher : (more : ℕ × ℕ) (config : Config) (d : Desk D) (w : PlainDesk) (g : GoesOnAs seen failures config d w)
      → Reaches bytes_seen failures_seen config (disks_seen bytes_seen failures_seen more g.disks) (desk_seen seen failures (more.0 + g.counts.0, more.1 + g.counts.1) d) w
  counted_higher more config d w g =
      subst (λ (s : Desk SeenDisk). Reaches bytes_seen failures_seen config (disks_seen bytes_seen failures_seen more g.disks) s w) (desk_twice more g.counts d)
      (reaches_seen bytes_seen failures_seen more config g.disks (desk_seen seen failures g.counts d) w g.reached)

  -- ---- where a master stands in what is seen, it stands

  abbrev master_or : MasterOf SeenDisk → MasterPlace SeenDisk → MasterOf SeenDisk
  master_or other (Standing m) = m
  master_or other (Closed first second) = other
  master_or other Away = other

  record StandsAs (counts : ℕ × ℕ) (p : MasterPlace D) (n : MasterOf SeenDisk) : Type 0 where
    master : MasterOf D
    stands : p ≡ Standing master
    same : master_seen seen failures counts master ≡ n

  stands_as : (counts : ℕ × ℕ) (p : MasterPlace D) (n : MasterOf SeenDisk) → place_seen seen failures counts p ≡ Standing n → StandsAs counts p n
  stands_as counts (Standing m) n is = record { master = m; stands = refl; same = ap (master_or n) is }
  stands_as counts (Closed first second) n is = absurd cc
  stands_as counts Away n is = absurd cc

  plain_unseen : (counts : ℕ × ℕ) (w : Way D) (p : Plain) → IsPlain (way_seen seen failures counts w) p → IsPlain w p
  plain_unseen counts w p is =
      let s = stands_as counts w.nodes.master is.master is.stands.place in
      let state = ap (λ (m : MasterOf SeenDisk). m.state) s.same in
      record {
        master = s.master;
        stands = record { place = s.stands; config = ap (λ (m : MasterOf SeenDisk). m.config) s.same ∙ is.stands.config };
        plain = is.plain ∙ (λ i. record {
          config = w.nodes.config;
          master = sym state i;
          servers = w.nodes.servers;
          clients = w.nodes.clients;
          moment = w.moment;
          queue = w.queue;
          kind = w.kind;
          held = w.held;
          drops = w.drops;
        });
      }

  stands_there : (config : Config) (d : Desk D) (w : PlainDesk) (g : GoesOnAs seen failures config d w) → StandsAs g.counts d.wire.nodes.master g.reached.plain.master
  stands_there config d w g = stands_as g.counts d.wire.nodes.master g.reached.plain.master g.reached.plain.stands.place

  -- ---- failures between two desks

  sound_seen : (counts : ℕ × ℕ) (old new : MasterPlace D) → AreHere old → failures_at failures new ≡ failures_at failures old
      → failures_at failures_seen (place_seen seen failures counts old) ≤ failures_at failures_seen (place_seen seen failures counts new)
      → failures_at failures_seen (place_seen seen failures counts new) ≡ failures_at failures_seen (place_seen seen failures counts old)
  sound_seen counts old (Standing m) was same rises = still_seen seen failures counts old (Standing m) was tt same
  sound_seen counts old (Closed first second) was same rises = still_seen seen failures counts old (Closed first second) was tt same
  sound_seen counts old Away was same rises = none_below (failures_at failures_seen (place_seen seen failures counts old)) rises

  -- ---- the laws

  lines_on : (config : Config) (all texts : List (List ℕ)) (old new : Desk D) (w : PlainDesk) → GoesOnAs seen failures config old w → Runs (AnswersText seen failures) old all texts new → WentOn failures old texts new
      → (texts ≡ (answers_all all w).0) × GoesOnAs seen failures config new (answers_all all w).1
  lines_on config all texts old new w g runs well =
      let before : Desk SeenDisk = desk_seen seen failures g.counts old in
      let after : Desk SeenDisk = desk_seen seen failures g.counts new in
      let there = lines_seen seen failures g.counts all texts old new runs in
      let rises = lines_rise bytes_seen failures_seen all texts before after g.reached.met.sent g.reached.met.covers there in
      let was : AreHere old.wire.nodes.master = subst (λ p. AreHere p) (sym (stands_there config old w g).stands) tt in
      let done = runs_answered bytes_seen failures_seen config g.disks g.empty.0 g.empty.1 all texts before after w g.reached there well.enough well.answered
      (sound_seen g.counts old.wire.nodes.master new.wire.nodes.master was well.sound rises) in
      (done.0, record { counts = g.counts; disks = g.disks; empty = g.empty; reached = done.1; asked = lines_ask all w g.asked })

pub new_stores_go_on : {D : Type 0} → NewStoresGoOn D
new_stores_go_on seen failures config disks desk first second starts = record {
  counts = (0, 0);
  disks = disks_seen seen failures (0, 0) disks;
  empty = (first, second);
  reached = reaches_seen seen failures (0, 0) config disks desk (begins config) (begun_reaches seen failures config disks desk first second starts);
  asked = begins_asked config;
}

pub lines_go_on : {D : Type 0} → LinesGoOn D
lines_go_on seen failures config all texts old new w g runs well = lines_on seen failures config all texts old new w g runs well

-- ---- two desks

same_but_disks : {D E : Type 0} (seen : D → List ℕ) (failures : D → ℕ) (other_seen : E → List ℕ) (other_failures : E → ℕ) (config : Config) (d : Desk D) (e : Desk E) (w : PlainDesk)
    → GoesOnAs seen failures config d w → GoesOnAs other_seen other_failures config e w → AreSameButDisks d e
same_but_disks seen failures other_seen other_failures config d e w one other = record {
  client = one.reached.client ∙ sym other.reached.client;
  store = w.1;
  one = plain_unseen seen failures one.counts (way_of d.wire) w.1 one.reached.plain;
  other = plain_unseen other_seen other_failures other.counts (way_of e.wire) w.1 other.reached.plain;
}

pub go_on_alike : {D E : Type 0} → GoOnAlike D E
go_on_alike seen failures other_seen other_failures config all texts others d new e other w one two runs well other_runs other_well =
    let first = lines_on seen failures config all texts d new w one runs well in
    let second = lines_on other_seen other_failures config all others e other w two other_runs other_well in
    (first.0 ∙ sym second.0, same_but_disks seen failures other_seen other_failures config new other (answers_all all w).1 first.1 second.1)

-- ---- images

record IsClosed {D : Type 0} (p : MasterPlace D) : Type 0 where
  first : D
  second : D
  is : p ≡ Closed first second

closed_there : {D : Type 0} (p : MasterPlace D) → is_closed p ≡ true → IsClosed p
closed_there (Standing m) is = absurd (false≢true is)
closed_there (Closed first second) is = record { first = first; second = second; is = refl }
closed_there Away is = absurd (false≢true is)

abbrev first_bytes : MasterPlace MemoryDisk → List ℕ
first_bytes p = bytes_in (option_map (λ disks. disks.0) (disks_of p))

abbrev second_bytes : MasterPlace MemoryDisk → List ℕ
second_bytes p = bytes_in (option_map (λ disks. disks.1) (disks_of p))

-- a way with its master's place, whatever stood there
abbrev way_with : {D E : Type 0} → MasterPlace E → Way D → Way E
way_with p w = record {
  nodes = record { config = w.nodes.config; master = p; servers = w.nodes.servers; clients = w.nodes.clients };
  moment = w.moment;
  queue = w.queue;
  kind = w.kind;
  held = w.held;
  drops = w.drops;
  is_short = w.is_short;
}

module _ (config : Config) (d c e : Desk MemoryDisk) (w : PlainDesk) (g : GoesOnAs bytes_of times_failed config d w) (closes : IsClosedOf d c) (alike : AreAlike c e) (waits : is_closed e.wire.nodes.master ≡ true) where
  stood : StandsAs bytes_of times_failed g.counts d.wire.nodes.master g.reached.plain.master
  stood = stands_there bytes_of times_failed config d w g

  abbrev m : MasterOf MemoryDisk
  m = stood.master

  place_e : IsClosed e.wire.nodes.master
  place_e = closed_there e.wire.nodes.master waits

  place_c : c.wire.nodes.master ≡ Closed m.journal.first m.journal.second
  place_c = ap (λ (x : Way MemoryDisk). x.nodes.master) closes.way ∙ ap closed stood.stands

  same_first : bytes_of place_e.first ≡ bytes_of m.journal.first
  same_first = sym (ap first_bytes place_e.is) ∙ sym alike.first ∙ ap first_bytes place_c

  same_second : bytes_of place_e.second ≡ bytes_of m.journal.second
  same_second = sym (ap second_bytes place_e.is) ∙ sym alike.second ∙ ap second_bytes place_c

  -- what the disks of each have failed is counted from what those of the other have
  abbrev more : ℕ × ℕ
  more = (times_failed place_e.first, times_failed place_e.second)

  abbrev of_d : ℕ × ℕ
  of_d = (more.0 + g.counts.0, more.1 + g.counts.1)

  abbrev of_e : ℕ × ℕ
  of_e = (g.counts.0 + times_failed m.journal.first, g.counts.1 + times_failed m.journal.second)

  abbrev seen_d : Desk SeenDisk
  seen_d = desk_seen bytes_of times_failed of_d d

  abbrev seen_e : Desk SeenDisk
  seen_e = desk_seen bytes_of times_failed of_e e

  reached : Reaches bytes_seen failures_seen config (disks_seen bytes_seen failures_seen more g.disks) seen_d w
  reached = counted_higher bytes_of times_failed more config d w g

  place_is : seen_e.wire.nodes.master ≡ closed seen_d.wire.nodes.master
  place_is =
      ap (place_seen bytes_of times_failed of_e) place_e.is
      ∙ (λ i. Closed (disk_with (same_first i) (counted_alike more.0 g.counts.0 (times_failed m.journal.first) i)) (disk_with (same_second i) (counted_alike more.1 g.counts.1 (times_failed m.journal.second) i)))
      ∙ sym (ap (λ (p : MasterPlace MemoryDisk). closed (place_seen bytes_of times_failed of_d p)) stood.stands)

  way_is : way_of seen_e.wire ≡ with_nodes (with_master (closed seen_d.wire.nodes.master) (way_of seen_d.wire).nodes) (way_of seen_d.wire)
  way_is = λ i. way_with (place_is i) ((sym alike.way ∙ ap without_master closes.way) i)

  client_is : seen_e.caller.client ≡ seen_d.caller.client
  client_is = sym alike.client ∙ closes.client

  image_on : (line : List ℕ) (all texts : List (List ℕ)) (new : Desk MemoryDisk) → IsRestart line → Runs (AnswersText bytes_of times_failed) e (line ∷ all) texts new → WentOn times_failed e texts new
      → (texts ≡ (answers_all (line ∷ all) w).0) × GoesOnAs bytes_of times_failed config new (answers_all (line ∷ all) w).1
  image_on line all texts new is runs well =
      let after : Desk SeenDisk = desk_seen bytes_of times_failed of_e new in
      let there = first_alike bytes_seen failures_seen seen_d seen_e client_is way_is line all texts after is well.answered (lines_seen bytes_of times_failed of_e (line ∷ all) texts e new runs) in
      let at_first = ap (failures_at failures_seen) place_is ∙ often_closed failures_seen seen_d.wire.nodes.master in
      let rises = lines_rise bytes_seen failures_seen (line ∷ all) texts seen_d after reached.met.sent reached.met.covers there in
      let was : AreHere e.wire.nodes.master = subst (λ p. AreHere p) (sym place_e.is) tt in
      let sound = sound_seen bytes_of times_failed of_e e.wire.nodes.master new.wire.nodes.master was well.sound (subst (λ (n : ℕ). n ≤ failures_at failures_seen after.wire.nodes.master) (sym at_first) rises) in
      let done = runs_answered bytes_seen failures_seen config (disks_seen bytes_seen failures_seen more g.disks) g.empty.0 g.empty.1 (line ∷ all) texts seen_d after w reached there well.enough well.answered (sound ∙ at_first) in
      (done.0, record { counts = of_e; disks = disks_seen bytes_seen failures_seen more g.disks; empty = g.empty; reached = done.1; asked = lines_ask (line ∷ all) w g.asked })

pub images_go_on : ImagesGoOn
images_go_on config line all texts d c e new w g closes alike waits is runs well = image_on config d c e w g closes alike waits line all texts new is runs well

closed_waits : (config : Config) (d c : Desk MemoryDisk) (w : PlainDesk) → GoesOnAs bytes_of times_failed config d w → IsClosedOf d c → is_closed c.wire.nodes.master ≡ true
closed_waits config d c w g closes =
    ap (λ (x : Way MemoryDisk). is_closed x.nodes.master) closes.way ∙ ap (λ (p : MasterPlace MemoryDisk). is_closed (closed p)) (stands_there bytes_of times_failed config d w g).stands

pub closed_go_on : ClosedDesksGoOn
closed_go_on config line all texts d c new w g closes is runs well =
    image_on config d c c w g closes (record { client = refl; way = refl; first = refl; second = refl }) (closed_waits config d c w g closes) line all texts new is runs well

pub images_go_on_alike : ImagesGoOnAlike
images_go_on_alike config line all texts others d new c e other w g closes alike waits is runs well other_runs other_well =
    let first = lines_on bytes_of times_failed config (line ∷ all) texts d new w g runs well in
    let second = image_on config d c e w g closes alike waits line all others other is other_runs other_well in
    (first.0 ∙ sym second.0, same_but_disks bytes_of times_failed bytes_of times_failed config new other (answers_all (line ∷ all) w).1 first.1 second.1)
