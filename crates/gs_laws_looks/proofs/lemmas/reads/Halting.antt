-- In a halted store nobody leads a chunk of a file, whatever views of it are settled.
use Rattle.std.proofs.Common.{◌≡◌, ◌∙◌, Bool, true, List, [], ◌∷◌, None, Option, Some, ℕ, refl, sym, ap, subst}
use Rattle.std.specs.Prelude.{is_some}
use Rattle.std.specs.FinMap as fin
use Rattle.std.specs.List.{AllByRecursion}
use Rattle.gs_base.specs.declared.config.Config.{Config}
use Rattle.gs_base.specs.declared.numbers.ClientId.{ClientId}
use Rattle.gs_edit.specs.View.{NamesView}
use Rattle.gs_lease.specs.declared.view.View.{View}
use Rattle.gs_master_spec.specs.Applied.{view_in}
use Rattle.gs_master_spec.specs.Durable.{Durable, Settled, is_listed}
use Rattle.gs_world.specs.Histories.{History}
use Rattle.gs_world.specs.Runs.{Step}
use Rattle.gs_laws_chunks.specs.answers.Resting.{IsLooking}
use Rattle.gs_laws_chunks.specs.accounts.Accounts.{Account}
use Rattle.gs_laws_chunks.specs.accounts.Running.{IsToldAt, Moves, Runs, Setup}
use Rattle.gs_laws_world.specs.steady.Unarmed.{unarmed}
use Rattle.gs_laws_looks.specs.halts.Unled.{IsHalted, StaysHalted}
use Rattle.gs_laws_looks.specs.leaders.Unled.{IsUnledAt, RunsUnled}
use Rattle.gs_laws_looks.proofs.lemmas.reads.Stepping.{told_tells, x}

module _ {D : Type 0} (seen : D → List ℕ) (failures : D → ℕ) (stays : StaysHalted seen failures unarmed) (config : Config) (clients : ℕ) (disks : D × D) (among : List ℕ → Bool) where
  abbrev pub y : Setup D
  y = x seen failures config clients disks among

  module _ (d : Durable) (client : ClientId) (number : ℕ) where
    -- a step
    step_halted : (step : Step) (old new : History D) (a b : Account) → Moves y step old a new b → IsLooking client step → IsHalted seen d client number old → IsHalted seen d client number new
    step_halted step old new a b moves looking h = stays d client number (step ∷ []) old new (new, moves.steps.goes, refl) (moves.steps.within, tt) (looking, tt) h

    -- what is told there
    pub told_epoch : (h : History D) (a : Account) → IsToldAt seen h.nodes.master a.durable → IsHalted seen d client number h → a.durable.epoch ≡ d.epoch
    told_epoch h a told halted = (halted.named a.durable (told_tells seen failures h.nodes.master a.durable halted.lasts told)).epoch

    view_is : {v w : View} → ◌≡◌ {A = Option View} (Some v) (Some w) → v ≡ w
    view_is e = cc

    row_unled : (o : Option Settled) (view : View) → view_in o ≡ Some view → ((settled : Settled) → o ≡ Some settled → settled.view.term ≡ None) → view.term ≡ None
    row_unled None view told are = absurd cc
    row_unled (Some settled) view told are = ap (λ (v : View). v.term) (sym (view_is told)) ∙ are settled refl

    pub unled_there : (h : History D) (a : Account) → IsToldAt seen h.nodes.master a.durable → IsHalted seen d client number h → (chunk : ℕ) → is_listed d chunk ≡ true → IsUnledAt a chunk
    unled_there h a told halted chunk listed view is =
        let tells = told_tells seen failures h.nodes.master a.durable halted.lasts told in
        let known : is_listed a.durable chunk ≡ true = ap (λ (n : NamesView). is_some (fin.get n.refs chunk)) (halted.named a.durable tells).names ∙ listed in
        row_unled (fin.get a.durable.chunks chunk) view is (λ settled row. halted.quiet.told a.durable tells chunk settled known row)

    pub unled_on : (steps : List Step) (old new : History D) (a b : Account) → Runs y steps old a new b → AllByRecursion (IsLooking client) steps → IsHalted seen d client number old → ((chunk : ℕ) → is_listed d chunk ≡ true → RunsUnled y chunk d.epoch steps old a new b) × IsHalted seen d client number new
    unled_on [] old new a b runs looking h = ((λ chunk listed. runs), subst (λ (k : History D). IsHalted seen d client number k) (sym runs.0) h)
    unled_on (step ∷ steps) old new a b (mid, c, moves, rest) looking h =
        let there = step_halted step old mid a c moves looking.0 h in
        let more = unled_on steps mid new c b rest looking.1 there in
        ((λ chunk listed. (mid, c, moves, unled_there mid c moves.told there chunk listed, told_epoch mid c moves.told there, more.0 chunk listed)), more.1)
