-- What a script over disks that said nothing answers is a function of its input.
use Rattle.std.proofs.Common.{◌≡◌, ◌≢◌, ◌∙◌, ◌≤◌, ℕ, Bool, true, false, List, [], ◌∷◌, Option, ap, arith, inl, inr, length, subst, sym}
use Rattle.std.specs.Prelude.{nat_le}
use Rattle.gs_base.specs.declared.config.Config.{Config}
use Rattle.gs_shell_desk.specs.Answering.{AnswersText}
use Rattle.gs_shell_desk.specs.Ways.{way_of}
use Rattle.gs_shell_desk.specs.declared.desk.Desk.{Desk}
use Rattle.gs_journal.specs.Records.{fresh, standing}
use Rattle.gs_shell_line.specs.Line.{content, longest_line}
use Rattle.gs_laws_world.specs.lasting.Lasting.{failures_at}
use Rattle.gs_world.specs.Sent.{Sent}
use Rattle.gs_shell_script.specs.Run.{AnswersIfShort, AnswersLine, Runs, lines_of, memory_text}
use Rattle.gs_shell.specs.Serving.{Serves}
use Rattle.gs_laws_master.proofs.lemmas.rooms.RoomsOfTurns.{messages_counted, ticks_counted}
use Rattle.gs_laws_scripts.specs.answers.Meeting.{AllSteady, AllWritten, IsCalm, Reaches, WentWell}
use Rattle.gs_laws_scripts.specs.answers.Plain.{PlainDesk, answers_line, answers_of, runs}
use Rattle.gs_laws_chunks.specs.desks.Reached.{Covers, history}
use Rattle.gs_laws_chunks.proofs.lemmas.desks.Failing.{begins_at, run_rises}
use Rattle.gs_laws_chunks.proofs.lemmas.desks.Lines.{line_steps, start_reaches}
use Rattle.gs_laws_scripts.proofs.lemmas.answers.PlainRuns.{line_runs, script_runs}
use Rattle.gs_laws_scripts.proofs.lemmas.answers.PlainScripts.{AreSound}
use Rattle.gs_laws_scripts.proofs.lemmas.answers.PlainSteady.{all_steady}
use Rattle.gs_laws_scripts.proofs.lemmas.answers.PlainWritten.{all_written}

equal_first : (a b c : ℕ) → a ≤ b → b ≤ c → c ≡ a → b ≡ a
equal_first a b c first second same = omega arith

from_start : (start begun end : ℕ) → start ≤ begun → begun ≤ end → end ≡ start → end ≡ begun
from_start start begun end first second same = omega arith

one_after : (a b c : ℕ) → a ≤ b → b ≤ c → a ≤ c
one_after a b c first second = omega arith

module _ {D : Type 0} (seen : D → List ℕ) (failures : D → ℕ) where
  -- how often the master's disks have failed
  abbrev failed : Desk D → ℕ
  failed desk = failures_at failures (way_of desk.wire).nodes.master

  -- ---- line by line

  -- a line lets no failures go, and all that is under way behind it was sent
  record Onward (old new : Desk D) : Type 0 where
    sent : Sent
    covers : Covers sent (way_of new.wire)
    rises : failed old ≤ failed new

  same_onward : (old new : Desk D) (sent : Sent) → Covers sent (way_of old.wire) → new ≡ old → Onward old new
  same_onward old new sent covers same =
      record { sent = sent; covers = subst (λ (d : Desk D). Covers sent (way_of d.wire)) (sym same) covers; rises = omega (arith, ap failed same) }

  short_onward : (b : Bool) (old : Desk D) (line text : List ℕ) (new : Desk D) (sent : Sent) → Covers sent (way_of old.wire) → AnswersIfShort (AnswersText seen failures) b old line text new → Onward old new
  short_onward true old line text new sent covers answers =
      let s = line_steps seen failures old new line text sent answers covers in
      record { sent = s.after; covers = s.covers; rises = run_rises seen failures s.steps (history sent (way_of old.wire)) (history s.after (way_of new.wire)) s.runs }
  short_onward false old line text new sent covers (bad, same) = same_onward old new sent covers same

  line_onward : (old : Desk D) (whole text : List ℕ) (new : Desk D) (sent : Sent) → Covers sent (way_of old.wire) → AnswersLine (AnswersText seen failures) old whole text new → Onward old new
  line_onward old whole text new sent covers (inl (memory, same)) = same_onward old new sent covers same
  line_onward old whole text new sent covers (inr short) = short_onward (nat_le (length (content whole)) longest_line) old (content whole) text new sent covers short

  lines_rise : (lines texts : List (List ℕ)) (old new : Desk D) (sent : Sent) → Covers sent (way_of old.wire) → Runs (AnswersText seen failures) old lines texts new → failed old ≤ failed new
  lines_rise [] [] old new sent covers same = omega (arith, ap failed same)
  lines_rise [] (text ∷ texts) old new sent covers never = absurd never
  lines_rise (line ∷ lines) [] old new sent covers never = absurd never
  lines_rise (line ∷ lines) (text ∷ texts) old new sent covers (mid, answers, rest) =
      let on = line_onward old line text mid sent covers answers in one_after (failed old) (failed mid) (failed new) on.rises (lines_rise lines texts mid new on.sent on.covers rest)

  -- so where as many have failed in the end as at the start, none has on the way
  are_sound : (lines texts : List (List ℕ)) (old new : Desk D) (sent : Sent) → Covers sent (way_of old.wire) → (r : Runs (AnswersText seen failures) old lines texts new) → failed new ≡ failed old
      → AreSound seen failures old lines texts new r
  are_sound [] texts old new sent covers r same = tt
  are_sound (line ∷ lines) [] old new sent covers r same = tt
  are_sound (line ∷ lines) (text ∷ texts) old new sent covers (mid, answers, rest) same =
      let on = line_onward old line text mid sent covers answers in
      let still = equal_first (failed old) (failed mid) (failed new) on.rises (lines_rise lines texts mid new on.sent on.covers rest) same in
      (still, are_sound lines texts mid new on.sent on.covers rest (same ∙ sym still))

  -- ---- a script

  module _ (config : Config) (disks : D × D) (first : seen disks.0 ≡ []) (second : seen disks.1 ≡ []) where
    none : standing (seen disks.0) (seen disks.1) ≡ fresh
    none = ap (λ (l : List ℕ). standing l (seen disks.1)) first ∙ ap (standing []) second

    steady : AllSteady seen failures config disks
    steady = all_steady seen failures config disks none

    written : AllWritten seen failures config disks
    written = all_written seen failures (record { messages = messages_counted; ticks = ticks_counted }) config disks steady first second

    pub line_is_answered : (old new : Desk D) (whole text : List ℕ) (w : PlainDesk) → AnswersLine (AnswersText seen failures) old whole text new → text ≢ memory_text
        → IsCalm failures (way_of old.wire) (way_of new.wire) → Reaches seen failures config disks old w → (text ≡ (answers_line whole w).0) × Reaches seen failures config disks new (answers_line whole w).1
    line_is_answered old new whole text w answers enough calm at = line_runs seen failures config disks old new whole text w steady answers enough calm (λ restarting. written) at

    pub script_is_answered : (input : List ℕ) (old new : Option (List ℕ)) (s : Serves seen failures config disks input old new) → WentWell seen failures disks s.writes.texts s.ended
        → (s.writes.texts ≡ answers_of config input) × Reaches seen failures config disks s.ended (runs config input).1
    script_is_answered input old new s well =
        let r = start_reaches seen failures config disks s.begun s.starts in
        let start = begins_at seen failures config 1 disks r.reached.begun r.reached.begins in
        let first_rises = run_rises seen failures r.reached.steps r.reached.begun (history r.sent (way_of s.begun.wire)) r.reached.runs in
        let then_rises = lines_rise (lines_of input) s.writes.texts s.begun s.ended r.sent r.covers s.writes.runs in
        let still = from_start (failures_at failures r.reached.begun.nodes.master) (failed s.begun) (failed s.ended) first_rises then_rises (well.sound ∙ sym start) in
        script_runs seen failures config disks input old new s first second steady written well.enough well.answered
        (are_sound (lines_of input) s.writes.texts s.begun s.ended r.sent r.covers s.writes.runs still)
