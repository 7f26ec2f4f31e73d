-- A tick at which a checkpoint is due leaves that alone.
use Rattle.std.proofs.Common.{◌≡◌, ◌∙◌, ◌<◌, ◌&&◌, ℕ, true, false, not, List, None, is_none, Result, Ok, Err, ap, arith, inl, inr, subst, sym}
use Rattle.gs_base.specs.declared.refusal.Refusal.{Refusal}
use Rattle.gs_base.specs.declared.refusal.Refusal.TheVariants as refusals
use Rattle.gs_journal.specs.Journal.{checkpointed, failures_of_both}
use Rattle.gs_laws_master.specs.Written.{IsSteady}
use Rattle.gs_laws_world.proofs.lemmas.steady.Refusing.{tick_refused_for_memory}
use Rattle.gs_laws_world.specs.lasting.Lasting.{StandsFirm, failures_at}
use Rattle.gs_master.specs.Masters.{MasterOf}
use Rattle.gs_master.specs.Ticking.{AnswersAs, pressed_all, writes_one}
use Rattle.gs_master.specs.declared.turn.Turn.{Turn as Told}
use Rattle.gs_master_plan.specs.Renewable.{renewal_refusal}
use Rattle.gs_master_spec.specs.Handling.{checkpoint_body, due, tick}
use Rattle.gs_master_spec.specs.State.{State, Turn, is_failed}
use Rattle.gs_nodes.specs.Happenings.{MasterTicks}
use Rattle.gs_nodes.specs.Nodes.{Nodes, with_master}
use Rattle.gs_nodes.specs.declared.place.MasterPlace.{MasterPlace}
use Rattle.gs_nodes.specs.declared.place.MasterPlace.TheVariants.{Standing}
use Rattle.gs_shell_calls.specs.declared.answer.Answer.{Answer}
use Rattle.gs_shell_desk.specs.Lines.{NodesDo}
use Rattle.gs_shell_desk.specs.Ways.{MasterTicked, Way, with_nodes}
use Rattle.gs_shell_grammar.specs.Grammar as lines
use Rattle.gs_laws_scripts.proofs.lemmas.answers.PlainLines.{short_end}
use Rattle.gs_laws_scripts.proofs.lemmas.answers.PlainSends.{SaysEnough, end_enough, end_stays}
use Rattle.gs_laws_scripts.specs.answers.Meeting.{IsCalm, Stands}
use Rattle.gs_laws_scripts.specs.answers.Room.{IsAloneAt, IsCheckpointDue, MakesRoom}

more : (a b : ℕ) → a < b → b ≡ a → ⊥
more a b above same = omega arith

-- it is written then
is_written : (s : State) (steps : Turn) → is_failed s.fault ≡ false → due steps.after ≡ true → renewal_refusal steps.after ≡ None → writes_one s steps ≡ true
is_written s steps sound is_due unrefused = λ i. not (sound i) && (is_due i && is_none (unrefused i))

module _ {D : Type 0} (seen : D → List ℕ) (failures : D → ℕ) (old behind : Way D) (m : MasterOf D) (stands : Stands old m) (firm : StandsFirm seen m) (steady : IsSteady m.state) where
  -- the steps and the checkpoint
  abbrev steps : Turn
  steps = pressed_all m.state old.moment

  abbrev Alone : MasterOf D → Type 0
  Alone after = after.journal.text ≡ checkpointed (checkpoint_body steps.after.durable)

  by_whole : (told : Told) (after : MasterOf D) → failures_of_both failures after.journal ≡ failures_of_both failures m.journal → AnswersAs seen failures true (tick m.state old.moment) steps m told after → Alone after
  by_whole told after quiet (inl done) = done.text
  by_whole told after quiet (inr (at, cut)) = absurd (more (failures_of_both failures m.journal) (failures_of_both failures after.journal) cut.cause quiet)

  by_turn : (turn : Result Told Refusal) (place : MasterPlace D) → IsCheckpointDue m.state old.moment → SaysEnough turn → MasterTicks seen failures old.moment (Standing m) turn place
      → failures_at failures place ≡ failures_of_both failures m.journal → (turn ≡ Err refusals.Memory → ⊥) → (after : MasterOf D) × (place ≡ Standing after) × Alone after
  by_turn (Ok told) place d says (after, is, inl whole) quiet kept =
      (after, is, by_whole told after (sym (ap (failures_at failures) is) ∙ quiet) (subst (λ b. AnswersAs seen failures b (tick m.state old.moment) steps m told after) (is_written m.state steps d.sound d.is_due d.unrefused) whole))
  by_turn (Ok told) place d says (after, is, inr (sound, is_due, none, inl done)) quiet kept = absurd (says done.done.says)
  by_turn (Ok told) place d says (after, is, inr (sound, is_due, none, inr (at, cut))) quiet kept =
      absurd (more (failures_of_both failures m.journal) (failures_of_both failures after.journal) cut.cause (sym (ap (failures_at failures) is) ∙ quiet))
  by_turn (Err refusal) place d says ticks quiet kept = absurd (kept (ap (λ (f : Refusal). Err f) (tick_refused_for_memory seen failures old.moment m refusal place firm steady ticks)))

  -- right behind the master's tick
  pub leaves_alone : MasterTicked seen failures old behind → IsCheckpointDue m.state old.moment → IsCalm failures old behind → IsAloneAt m.state old.moment behind
  leaves_alone t d calm =
      let there = with_nodes (with_master t.place old.nodes) old in
      let kept = ap (λ (n : Nodes D). n.master) (end_stays t.turn there t.said behind t.ends).nodes in
      let quiet = sym (ap (failures_at failures) kept) ∙ calm.sound ∙ ap (failures_at failures) stands.place in
      let (after, is, alone) = by_turn t.turn t.place d (end_enough t.turn there t.said behind t.ends calm.enough) (subst (λ at. MasterTicks seen failures old.moment at t.turn t.place) stands.place t.ticks) quiet
      (λ memory. short_end t.turn there t.said behind memory t.ends calm.enough) in
      (after, kept ∙ is, alone)

pub makes_room : {D : Type 0} (seen : D → List ℕ) (failures : D → ℕ) (old new : Way D) (m : MasterOf D) (result : Result Answer Refusal) → Stands old m → StandsFirm seen m → IsSteady m.state
    → NodesDo seen failures lines.Tick old result new → MakesRoom seen failures old m result new
makes_room seen failures old new m result stands firm steady (is, (ticked, (behind, master, servers), delivers)) = record {
  answer = is;
  behind = behind;
  ticked = ticked;
  master = master;
  servers = servers;
  delivers = delivers;
  room = leaves_alone seen failures old behind m stands firm steady master;
}
