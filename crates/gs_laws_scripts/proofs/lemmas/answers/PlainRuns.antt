-- What a script answers is a function of its input.
use Rattle.std.proofs.Common.{◌≡◌, ◌≢◌, ◌∙◌, ℕ, false, List, [], Option, refl, sym, ap, subst, inr, arith}
use Rattle.std.specs.List.{AllByRecursion}
use Rattle.gs_base.specs.declared.config.Config.{Config}
use Rattle.gs_shell_desk.specs.Answering.{AnswersText}
use Rattle.gs_shell_desk.specs.Starting.{Starts, begun}
use Rattle.gs_shell_desk.specs.Ways.{Way, way_of}
use Rattle.gs_shell_desk.specs.declared.desk.Desk.{Desk}
use Rattle.gs_msg.specs.declared.message.Message.{Message}
use Rattle.gs_msg.specs.declared.node.NodeId.TheVariants as nodes
use Rattle.gs_world.specs.Sent.{IsPosted, Sent, none_sent}
use Rattle.gs_shell_script.specs.Run.{AnswersLine, lines_of, memory_text}
use Rattle.gs_shell.specs.Serving.{Serves}
use Rattle.gs_nodes.specs.Nodes.{new_nodes}
use Rattle.gs_laws_scripts.specs.answers.Meeting.{AllSteady, AllWritten, IsAskedByLine, IsCalm, IsClientOf, IsMetWay, Reaches, RestartsMaster}
use Rattle.gs_laws_scripts.specs.answers.Plain.{PlainDesk, answers_line, answers_of, begins, runs}
use Rattle.gs_laws_chunks.specs.desks.Reached.{Covers, history}
use Rattle.gs_laws_chunks.proofs.lemmas.desks.Lines.{many, silent_many}
use Rattle.gs_laws_scripts.proofs.lemmas.answers.PlainEnduring.{Lands}
use Rattle.gs_laws_scripts.proofs.lemmas.answers.PlainMeeting.{met_endures, met_restarts}
use Rattle.gs_laws_scripts.proofs.lemmas.answers.PlainScripts.{AreSound, all_lines, line_answered, lines_mine, whole_mine}
use Rattle.gs_laws_scripts.proofs.lemmas.answers.PlainStarts.{IsBegunSo, starts_plain}

module _ {D : Type 0} (seen : D → List ℕ) (failures : D → ℕ) (config : Config) (disks : D × D) where
  abbrev Met : Way D → Type 0
  Met w = IsMetWay seen failures config disks w

  reached : (desk : Desk D) (w : PlainDesk) → IsClientOf config desk.caller.client → Lands Met desk w → Reaches seen failures config disks desk w
  reached desk w ours l = record { client = l.client; ours = ours; plain = l.plain; met = l.good }

  landed : (desk : Desk D) (w : PlainDesk) → Reaches seen failures config disks desk w → Lands Met desk w
  landed desk w r = record { client = r.client; plain = r.plain; good = r.met }

  pub line_runs : (old new : Desk D) (whole text : List ℕ) (w : PlainDesk) → AllSteady seen failures config disks → AnswersLine (AnswersText seen failures) old whole text new → text ≢ memory_text
      → IsCalm failures (way_of old.wire) (way_of new.wire) → (RestartsMaster whole → AllWritten seen failures config disks)
      → Reaches seen failures config disks old w → (text ≡ (answers_line whole w).0) × Reaches seen failures config disks new (answers_line whole w).1
  line_runs old new whole text w steady answers enough calm restarts at =
      let done = line_answered seen failures (record { 0 = 1 }) config.chunk (IsAskedByLine config.chunk) Met (met_endures seen failures config disks steady) old new whole text w answers enough calm at.ours
      (λ restarting. met_restarts seen failures config disks (restarts restarting)) (landed old w at) in
      (done.0, reached new (answers_line whole w).1 (whole_mine seen failures (record { 0 = 1 }) config.chunk (IsAskedByLine config.chunk) Met (met_endures seen failures config disks steady) whole old text new at.ours answers) done.1)

  -- a desk that has begun is met
  begun_met : (desk : Desk D) (s : Starts seen failures config disks desk) → IsBegunSo seen failures config disks desk s → Met (way_of desk.wire)
  begun_met desk s b =
      let none : Sent = none_sent config.servers 1 in
      let first : Way D = begun (new_nodes config 1 s.place) in
      let covers : Covers none first = record { queue = tt; held = tt; servers = many config.servers [] ∙ sym (silent_many config config.servers); clients = refl; short = λ lost. absurd cc } in
      subst (λ (w : Way D). Met w) (sym b.still) (record {
        sent = none;
        covers = covers;
        met = record {
          begun = history none first;
          steps = [];
          begins = record { place = s.place; turn = s.turn; opens = s.opens; nodes = refl; sent = subst (λ (l : List Message). IsPosted (record { 0 = 0 }) nodes.Master l none none) (sym b.sends) (([], false), refl, refl) };
          runs = refl;
        };
        moment = omega arith;
      })

  pub begun_reaches : (desk : Desk D) → seen disks.0 ≡ [] → seen disks.1 ≡ [] → Starts seen failures config disks desk → Reaches seen failures config disks desk (begins config)
  begun_reaches desk first second s =
      let b = starts_plain seen failures config disks desk first second s in
      reached desk (begins config) (ap (λ c. c.last.client) s.client, ap (λ c. c.chunk) s.client) (record { client = s.client; plain = b.plain; good = begun_met desk s b })

  pub script_runs : (input : List ℕ) (old new : Option (List ℕ)) (s : Serves seen failures config disks input old new) → seen disks.0 ≡ [] → seen disks.1 ≡ [] → AllSteady seen failures config disks
      → AllWritten seen failures config disks → (way_of s.ended.wire).is_short ≡ false → AllByRecursion (λ text. text ≢ memory_text) s.writes.texts
      → AreSound seen failures s.begun (lines_of input) s.writes.texts s.ended s.writes.runs → (s.writes.texts ≡ answers_of config input) × Reaches seen failures config disks s.ended (runs config input).1
  script_runs input old new s first second steady written enough answered sound =
      let b = starts_plain seen failures config disks s.begun first second s.starts in
      let ours : IsClientOf config s.begun.caller.client = (ap (λ c. c.last.client) s.starts.client, ap (λ c. c.chunk) s.starts.client) in
      let endures = met_endures seen failures config disks steady in
      let all = all_lines seen failures (record { 0 = 1 }) config.chunk (IsAskedByLine config.chunk) Met endures (lines_of input) s.writes.texts s.begun s.ended s.writes.runs
      ours answered (inr (met_restarts seen failures config disks written)) sound in
      let done = all.same enough (begins config) (record { client = s.starts.client; plain = b.plain; good = begun_met s.begun s.starts b }) in
      (done.0, reached s.ended (runs config input).1 (lines_mine seen failures (record { 0 = 1 }) config.chunk (IsAskedByLine config.chunk) Met endures (lines_of input) s.writes.texts s.begun s.ended s.writes.runs ours) done.1)
