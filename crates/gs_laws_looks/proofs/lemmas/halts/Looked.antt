-- What a client that only looks is told of files.
use Rattle.std.proofs.Common.{◌≡◌, ◌∙◌, ℕ, true, List, ◌∷◌, Option, Some, None, Result, Ok, refl, sym, ap, subst}
use Rattle.std.specs.FinMap as fin
use Rattle.std.specs.List.{AllByRecursion}
use Rattle.std.proofs.lemmas.Bool.{and_parts, false≢true}
use Rattle.gs_base.specs.declared.numbers.ClientId.{ClientId}
use Rattle.gs_base.specs.declared.numbers.ReqId.{ReqId}
use Rattle.gs_base.specs.declared.refusal.Refusal.{Refusal}
use Rattle.gs_edit.specs.View.{NamesView}
use Rattle.gs_lease.specs.declared.view.View.{View}
use Rattle.gs_laws_master.proofs.lemmas.standing.StandingCalls.{found_placed}
use Rattle.gs_laws_master.specs.Standing.{IsFirm}
use Rattle.gs_laws_moves.proofs.lemmas.looks.Looks.{locations_answered, locations_tell, statuses_answered, statuses_tell}
use Rattle.gs_laws_moves.specs.looks.Looked.{IsLookedUp, Locates}
use Rattle.gs_laws_moves.specs.looks.Unled.{IsUnled}
use Rattle.gs_master_spec.specs.Applied.{view_in}
use Rattle.gs_master_spec.specs.Calls.{found_chunk, location, status}
use Rattle.gs_master_spec.specs.Durable.{Durable, Settled, is_listed, is_rolling}
use Rattle.gs_laws_moves.specs.answers.AtOnce.{is_answered_at_once}
use Rattle.gs_laws_moves.specs.answers.Resting.{is_look}
use Rattle.gs_msg.specs.declared.answer.Answer.{Answer}
use Rattle.gs_msg.specs.declared.answer.Answer.TheVariants as answers
use Rattle.gs_msg.specs.declared.call.Call.{Call}
use Rattle.gs_msg.specs.declared.call.Call.TheVariants as calls
use Rattle.gs_msg.specs.declared.event.DiskId.{DiskId}
use Rattle.gs_msg.specs.declared.event.Event.{Event}
use Rattle.gs_nodes.specs.Happenings.{client_in}
use Rattle.gs_nodes.specs.declared.place.MasterPlace.{MasterPlace}
use Rattle.gs_path.specs.Path.{Path}
use Rattle.gs_world.specs.Histories.{Happens, History}
use Rattle.gs_world.specs.Runs.{Comes, Step}
use Rattle.gs_laws_chunks.specs.answers.Answered.{AnswersNow, GoesBy, Passes, WasAnswered}
use Rattle.gs_laws_chunks.specs.answers.Behind.{HasAnswer, asks_call}
use Rattle.gs_laws_chunks.specs.answers.Resting.{IsLooking, IsStill, StandsStill, StandsStillAt}
use Rattle.gs_laws_chunks.proofs.lemmas.answers.Answered.{answers_are_made}
use Rattle.gs_laws_chunks.proofs.lemmas.answers.Behind.{MadeThere, all_front, all_spare, made_there}
use Rattle.gs_laws_world.specs.steady.Saying.{IsStepWithin}
use Rattle.gs_laws_world.specs.steady.Through.{LastsThrough}
use Rattle.gs_laws_looks.specs.halts.Looked.{AnswersAreByNames, IsPlaceOf, IsStatusOf, LooksAreByNames, LooksBy, LooksHalted, is_file_look}
use Rattle.gs_laws_looks.specs.halts.Unled.{IsHalted, IsUnledAt, StaysQuiet}
use Rattle.gs_laws_looks.proofs.lemmas.halts.Named.{firm_at}
use Rattle.gs_laws_looks.proofs.lemmas.halts.Unled.{run_halted}

file_look : (call : Call) → is_file_look call ≡ true → is_look call ≡ true
file_look (calls.Status path) is = refl
file_look (calls.FindForReading path index) is = refl
file_look call is = absurd (false≢true is)

file_at_once : (call : Call) → is_file_look call ≡ true → is_answered_at_once call ≡ true
file_at_once (calls.Status path) is = refl
file_at_once (calls.FindForReading path index) is = refl
file_at_once call is = absurd (false≢true is)

-- the view that a settled chunk is on
view_of_settled : (o : Option Settled) (view : View) → view_in o ≡ Some view → (x : Settled) × (o ≡ Some x) × (x.view ≡ view)
view_of_settled None view is = absurd (none is)
  where
    none : {v : View} → ◌≡◌ {A = Option View} None (Some v) → ⊥
    none is = cc
view_of_settled (Some x) view is = (x, refl, same is)
  where
    same : {a b : View} → ◌≡◌ {A = Option View} (Some a) (Some b) → a ≡ b
    same is = cc

module _ {D : Type 0} (seen : D → List ℕ) (failures : D → ℕ) (armed : DiskId → ℕ → MasterPlace D → MasterPlace D) where
  module _ (d : Durable) (client : ClientId) (number : ℕ) (now next : History D) (event : Event) (said : Result (Unit {0}) Refusal) (h : Happens seen failures armed event now said next) (req : ReqId) (lasts : LastsThrough seen now.nodes.master) (f : IsStill d client number now)
      (quiet : StaysQuiet seen now) where
    -- ---- the status of a path

    module _ (path : Path) (answer : Answer) (a : AnswersNow now event h.outcome req (calls.Status path) answer) where
      its_there : MadeThere seen failures armed now event.moment a.master req (calls.Status path) answer next.nodes
      its_there = made_there seen failures armed now event said next h req (calls.Status path) answer a

      its_still : StandsStill d client number a.master.state
      its_still = subst (StandsStillAt d client number) a.stands f.master

      looked : IsLookedUp a.master.state (status a.master.state.durable (fin.get a.master.state.durable.names.tree path)) answer
      looked = statuses_answered a.master.config a.master.state req event.moment path answer its_there.says

      status_by : IsStatusOf d now.nodes.master path answer
      status_by = record {
        by = record {
          durable = a.master.state.durable;
          stands = record { master = a.master; stands = a.stands; sound = looked.sound; keeps = refl };
          names = its_still.names;
          epoch = its_still.epoch;
          rolling = sym (ap is_rolling its_still.phase) ∙ looked.rolling;
        };
        gives = ap (λ (n : NamesView). status a.master.state.durable (fin.get n.tree path)) (sym its_still.names) ∙ looked.is;
        file = λ chunks tells. ap (λ (n : NamesView). fin.get n.tree path) (sym its_still.names) ∙ statuses_tell a.master.state.durable path chunks (looked.is ∙ ap (λ (x : Answer). Ok x) tells);
      }

    -- ---- where a chunk of a file is

    module _ (path : Path) (index : ℕ) (answer : Answer) (a : AnswersNow now event h.outcome req (calls.FindForReading path index) answer) where
      place_there : MadeThere seen failures armed now event.moment a.master req (calls.FindForReading path index) answer next.nodes
      place_there = made_there seen failures armed now event said next h req (calls.FindForReading path index) answer a

      place_still : StandsStill d client number a.master.state
      place_still = subst (StandsStillAt d client number) a.stands f.master

      place_looked : IsLookedUp a.master.state (location a.master.state.durable (found_chunk (fin.get a.master.state.durable.names.tree path) index)) answer
      place_looked = locations_answered a.master.config a.master.state req event.moment path index answer place_there.says

      locates : Locates a.master.state.durable path index answer
      locates = locations_tell a.master.state.durable path index answer place_looked.is

      firm : IsFirm a.master.state
      firm = firm_at seen a.master (subst (LastsThrough seen) a.stands lasts) place_looked.sound

      its_listed : is_listed a.master.state.durable locates.chunk ≡ true
      its_listed = (and_parts (is_listed a.master.state.durable locates.chunk) _ (found_placed a.master.state.durable path index locates.chunk firm.stands.kept locates.found)).0

      its_unled : IsUnled a.master.state
      its_unled = subst IsUnledAt a.stands quiet.master

      its_quiet : locates.view.term ≡ None
      its_quiet =
          let x = view_of_settled (fin.get a.master.state.durable.chunks locates.chunk) locates.view locates.settled in
          sym (ap (λ (v : View). v.term) x.2) ∙ its_unled.views locates.chunk x.0 its_listed x.1

      place_by : IsPlaceOf d now.nodes.master path index answer
      place_by = record {
        by = record {
          durable = a.master.state.durable;
          stands = record { master = a.master; stands = a.stands; sound = place_looked.sound; keeps = refl };
          names = place_still.names;
          epoch = place_still.epoch;
          rolling = sym (ap is_rolling place_still.phase) ∙ place_looked.rolling;
        };
        locates = locates;
        file = ap (λ (n : NamesView). fin.get n.tree path) (sym place_still.names) ∙ locates.file;
        says = locates.says ∙ ap (λ e. answers.Location locates.chunk locates.view e) place_still.epoch;
        listed = its_listed;
        quiet = its_quiet;
      }

    pub looks_by : (call : Call) (answer : Answer) → is_file_look call ≡ true → AnswersNow now event h.outcome req call answer → LooksBy d now.nodes.master call answer
    looks_by (calls.Status path) answer is a = status_by path answer a
    looks_by (calls.FindForReading path index) answer is a = place_by path index answer a
    looks_by call answer is a = absurd (false≢true is)

  -- ---- a client that has the answer

  module _ (d : Durable) (client : ClientId) (number : ℕ) (start new : History D) (call : Call) (answer : Answer) (look : is_file_look call ≡ true) (h : IsHalted seen d client number start) (l : HasAnswer seen failures armed client start call answer new) where
    was : (made : WasAnswered seen failures armed l.steps l.asked new l.req call answer) × GoesBy seen failures armed (λ h. Passes seen failures armed h l.steps l.asked new l.runs) l.steps l.asked new l.req call answer made
    was = answers_are_made seen failures armed start l.asked new l.moment l.req call l.steps l.node answer h.asked l.asks (file_at_once call look) l.runs (all_spare client l.steps l.looking) (subst (λ k. client_in new.nodes.clients k ≡ Some l.node) (sym l.own) l.there) l.last l.reply

    made : WasAnswered seen failures armed l.steps l.asked new l.req call answer
    made = was.0

    goes_by : GoesBy seen failures armed (λ h. Passes seen failures armed h l.steps l.asked new l.runs) l.steps l.asked new l.req call answer made
    unfolding made
    goes_by = was.1

    abbrev ask : Step
    ask = asks_call l.moment l.req call

    asks_look : IsLooking client ask
    asks_look = (refl, (l.own, file_look call look))

    before_look : AllByRecursion (IsLooking client) made.before
    before_look = all_front (IsLooking client) made.before (Comes made.event ∷ made.after) (subst (AllByRecursion (IsLooking client)) made.parts l.looking)

    before_within : AllByRecursion IsStepWithin made.before
    before_within = all_front IsStepWithin made.before (Comes made.event ∷ made.after) (subst (AllByRecursion IsStepWithin) made.parts l.within.1)

    met : IsHalted seen d client number made.now
    met = run_halted seen failures d client number armed (ask ∷ made.before) start made.now (l.asked, (Ok tt, l.asks.happens), made.first) (l.within.0, before_within) (asks_look, before_look) h

    pub looks_halted : LooksHalted seen failures armed d client number start call answer new l
    looks_halted = record {
      made = made;
      on_the_way = goes_by;
      met = met;
      looks = looks_by d client number made.now made.next made.event made.said made.happens l.req met.lasts met.still met.quiet call answer look made.answers;
      halted = run_halted seen failures d client number armed (ask ∷ l.steps) start new (l.asked, (Ok tt, l.asks.happens), l.runs) l.within (asks_look, l.looking) h;
    }

pub looks_are_by_names : {D : Type 0} (seen : D → List ℕ) (failures : D → ℕ) (armed : DiskId → ℕ → MasterPlace D → MasterPlace D) → LooksAreByNames seen failures armed
looks_are_by_names seen failures armed d client number now next event said h req call answer look lasts f quiet a = looks_by seen failures armed d client number now next event said h req lasts f quiet call answer look a

pub answers_are_by_names : {D : Type 0} (seen : D → List ℕ) (failures : D → ℕ) (armed : DiskId → ℕ → MasterPlace D → MasterPlace D) → AnswersAreByNames seen failures armed
answers_are_by_names seen failures armed d client number start new call answer look h l = looks_halted seen failures armed d client number start new call answer look h l
