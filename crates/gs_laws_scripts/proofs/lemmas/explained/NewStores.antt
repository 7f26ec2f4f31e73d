-- A new store stands for the new machine; so what its first lines are answered is explained.
use Rattle.std.proofs.Common.{[], ap, arith, inl, inr, refl, subst, sym, ◌++◌, ◌<◌, ◌∷◌, ◌∙◌, ◌≡◌, List, None, Option, Result, Some, false, length, true, zero, suc, ℕ, ◌^◌}
use Rattle.std.specs.Prelude.{take}
use Rattle.std.specs.List.{AllByRecursion}
use Rattle.gs_base.specs.Told.{IsNumber}
use Rattle.gs_base.specs.declared.config.Config.{Config}
use Rattle.gs_base.specs.declared.numbers.Moment.{Moment}
use Rattle.gs_edit.specs.Mapped.{mapped_rows}
use Rattle.gs_journal.specs.Memory.{bytes_of, times_failed}
use Rattle.gs_journal.specs.Records.{fresh, standing}
use Rattle.gs_laws_chunks.proofs.lemmas.answers.Asked.{begins_asked}
use Rattle.gs_laws_chunks.proofs.lemmas.answers.Beginning.{begins_calm, begins_still}
use Rattle.gs_laws_chunks.proofs.lemmas.answers.OfTree.{begins_sparing}
use Rattle.gs_laws_chunks.proofs.lemmas.answers.Replied.{begins_replied}
use Rattle.gs_laws_chunks.proofs.lemmas.answers.Served.{begins_served}
use Rattle.gs_laws_chunks.proofs.lemmas.desks.Ending.{sent_moment}
use Rattle.gs_laws_chunks.proofs.lemmas.desks.Lines.{many, silent_many}
use Rattle.gs_laws_chunks.proofs.lemmas.desks.Sending.{sends}
use Rattle.gs_laws_chunks.specs.desks.Reached.{Covers, history}
use Rattle.gs_laws_world.proofs.lemmas.steady.Keeping.{begins_keeping}
use Rattle.gs_laws_world.proofs.lemmas.steady.Through.{begins_through}
use Rattle.gs_laws_world.specs.steady.Unarmed.{unarmed}
use Rattle.gs_master_spec.specs.Durable.{start}
use Rattle.gs_msg.specs.declared.node.NodeId.TheVariants as nodes
use Rattle.gs_nodes.specs.NewDisks.{OverEmpty}
use Rattle.gs_nodes.specs.Nodes.{Nodes, new_nodes}
use Rattle.gs_shell.proofs.Answered.{answers}
use Rattle.gs_shell.specs.Answering.{Answers}
use Rattle.gs_shell.specs.Telling.{Tells}
use Rattle.gs_shell.specs.Watching.{both_watched, failures_of, seen_of}
use Rattle.gs_shell.specs.declared.trouble.Trouble.{Trouble}
use Rattle.gs_shell_desk.specs.Answering.{AnswersText}
use Rattle.gs_shell_desk.specs.Starting.{Starts, begun}
use Rattle.gs_shell_desk.specs.Ways.{Way, way_of}
use Rattle.gs_shell_desk.specs.declared.desk.Desk.{Desk}
use Rattle.gs_shell_script.specs.Run.{Runs, lines_of}
use Rattle.gs_shell_script.specs.declared.RunFault.{RunFault}
use Rattle.gs_world.proofs.Reaching.{HaveSizes}
use Rattle.gs_world.specs.Histories.{Begins, History}
use Rattle.gs_world.specs.Sent.{Sent, none_sent}
use Rattle.gs_laws_scripts.proofs.lemmas.explained.ChangeLines.{calm_lines_go}
use Rattle.gs_laws_scripts.proofs.lemmas.explained.Listed.{undisturbed_on}
use Rattle.gs_laws_scripts.proofs.lemmas.explained.Passing.{LooksOn, delivers_on}
use Rattle.gs_laws_scripts.proofs.lemmas.lists.Listing.{empty_disks}
use Rattle.gs_laws_scripts.proofs.lemmas.lists.Scripts.{Lines_run, one_more}
use Rattle.gs_laws_scripts.proofs.lemmas.plain.Beginning.{rows_of_blank}
use Rattle.gs_laws_scripts.specs.explained.Lines.{AreExplained}
use Rattle.gs_laws_scripts.specs.explained.Machine.{new_machine, new_text}
use Rattle.gs_laws_scripts.specs.explained.NewStores.{BeginningsUntilAReadFails, BeginningsUntilAWriteFails, CalmBeginnings, CalmFromTheBeginning, NewDesksStand}
use Rattle.gs_laws_scripts.specs.explained.Standing.{IsUndisturbed, ShowsNames, Stands, the_client}

few : 1 < 2 ^ 32
few = omega arith

shows_nothing : ShowsNames start new_machine
shows_nothing = record { text = λ chunk. new_text; tree = sym (ap (mapped_rows (λ (chunk : ℕ). new_text)) rows_of_blank); hidden = inl refl; epoch = refl; phase = refl }

module _ (sizes : HaveSizes) {D : Type 0} (seen : D → List ℕ) (failures : D → ℕ) (config : Config) (disks : D × D) (empty : standing (seen disks.0) (seen disks.1) ≡ fresh) where
  begins_undisturbed : (new : History D) → Begins seen failures unarmed config 1 disks new → IsUndisturbed seen start 0 new
  begins_undisturbed new begins = record {
    still = begins_still seen failures unarmed config 1 disks new empty begins sizes the_client;
    asked = begins_asked sizes seen failures unarmed config 1 disks new empty begins;
    types = begins_keeping seen failures unarmed config 1 disks new few begins;
    lasts = begins_through seen failures unarmed config 1 disks new empty begins;
    served = begins_served sizes seen failures unarmed config 1 disks new empty begins;
    replied = begins_replied seen failures unarmed config 1 disks new begins;
    sparing = begins_sparing sizes seen failures unarmed config 1 disks new empty begins;
    calm = begins_calm seen failures unarmed config 1 disks new empty begins;
    one = ap (λ (k : Nodes D). length k.clients) begins.nodes;
  }

  -- what it sends at first is delivered with all that follows, and nothing is asked
  new_stands : (desk : Desk D) → Starts seen failures config disks desk → Stands seen config desk new_machine
  new_stands desk s =
      let none : Sent = none_sent config.servers 1 in
      let first : Way D = begun (new_nodes config 1 s.place) in
      let covers : Covers none first = record { queue = tt; held = tt; servers = many config.servers [] ∙ sym (silent_many config config.servers); clients = refl; short = λ lost. absurd cc } in
      let p = sends (record { 0 = 0 }) nodes.Master s.turn.sent.items none first s.mid (record { posts = []; is = refl }) covers s.sends in
      let moment : s.mid.moment ≡ (record { 0 = 0 }) = sent_moment s.turn.sent.items first s.mid s.sends in
      let small : IsNumber s.mid.moment.0 = subst (λ (m : Moment). IsNumber m.0) (sym moment) (omega arith) in
      let looks : LooksOn seen failures the_client s.mid.moment s.mid (way_of desk.wire) p.after = delivers_on seen failures the_client s.mid (way_of desk.wire) s.delivers p.after p.covers small in
      record {
        sent = looks.after;
        covers = looks.covers;
        moment = subst (λ (m : Moment). IsNumber m.0) (sym looks.moment) small;
        ours = (ap (λ c. c.last.client) s.client, ap (λ c. c.chunk) s.client);
        durable = start;
        number = 0;
        rests = undisturbed_on seen failures start 0 looks.steps (history p.after s.mid) (history looks.after (way_of desk.wire)) looks.runs looks.within looks.looking
            (begins_undisturbed (history p.after s.mid) (record { place = s.place; turn = s.turn; opens = s.opens; nodes = p.nodes; sent = p.posts }));
        shows = shows_nothing;
        now = ap (λ (m : Moment). m.0) (sym (looks.moment ∙ moment));
      }

  -- so many lines at the beginning of some that are answered
  beginning : (size : ℕ) (all texts : List (List ℕ)) (old new : Desk D) → Lines_run seen failures old all texts new → (mid : Desk D) × Lines_run seen failures old (take size all) (take size texts) mid
  beginning zero all texts old new runs = (old, refl)
  beginning (suc size) [] [] old new runs = (old, refl)
  beginning (suc size) (line ∷ all) (text ∷ texts) old new (mid, one, rest) = (let found = beginning size all texts mid new rest in (found.0, (mid, one, found.1)))
  beginning (suc size) [] (text ∷ texts) old new never = absurd never
  beginning (suc size) (line ∷ all) [] old new never = absurd never

  from_start : (size block : ℕ) (start_desk ended : Desk D) → Starts seen failures config disks start_desk → (all texts : List (List ℕ)) → Lines_run seen failures start_desk all texts ended → CalmBeginnings size block all texts
  from_start size block start_desk ended starts all texts runs count are =
      let first = beginning count all texts start_desk ended runs in
      let found = calm_lines_go seen failures config size block (take count all) (take count texts) start_desk first.0 new_machine (new_stands start_desk starts) are first.1 in (found.0, found.1)

module _ (sizes : HaveSizes) {D : Type 0} where
  pub new_desks_stand : NewDesksStand D
  new_desks_stand seen failures config disks new empty starts = new_stands sizes seen failures config disks empty new starts

  pub calm_from_the_beginning : CalmFromTheBeginning D
  calm_from_the_beginning seen failures config disks input old new s empty = from_start sizes seen failures config disks empty config.chunk config.block s.begun s.ended s.starts (lines_of input) s.writes.texts s.writes.runs

  pub beginnings_until_a_read_fails : BeginningsUntilAReadFails D
  beginnings_until_a_read_fails seen failures config disks input left old new s empty =
      from_start sizes seen failures config disks empty config.chunk config.block s.begun s.ended s.starts s.fails.lines s.fails.written.texts s.fails.written.runs

  pub beginnings_until_a_write_fails : BeginningsUntilAWriteFails D
  beginnings_until_a_write_fails seen failures config disks input left old new s empty = (
    from_start sizes seen failures config disks empty config.chunk config.block s.begun s.fails.before s.starts s.fails.lines s.fails.written.texts s.fails.written.runs,
    from_start sizes seen failures config disks empty config.chunk config.block s.begun s.ended s.starts (s.fails.lines ++ s.fails.line ∷ []) (s.fails.written.texts ++ s.fails.text ∷ [])
        (one_more seen failures s.fails.lines s.fails.written.texts s.fails.line s.fails.text s.begun s.fails.before s.ended s.fails.written.runs s.fails.answers),
  )

-- ---- a run of the shell

pub run_calm_beginnings : HaveSizes → (config : Config) (trouble : Trouble) (r : Result (Unit {0}) RunFault) (before left old new : Option (List ℕ)) → OverEmpty (λ disks. Tells bytes_of times_failed config disks trouble r before left old new)
    → Answers (CalmBeginnings config.chunk config.block) r before left old new
run_calm_beginnings sizes config trouble r before left old new (disks, empty, told) =
    answers bytes_of times_failed config disks trouble (CalmBeginnings config.chunk config.block)
    (λ begun ended starts it input lines more texts parts runs.
    from_start sizes (seen_of bytes_of) (failures_of times_failed) config (both_watched disks) (empty_disks disks empty) config.chunk config.block begun ended starts lines texts runs)
    left old new r before told
