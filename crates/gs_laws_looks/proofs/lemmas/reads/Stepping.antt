-- Steps with their accounts, where all that servers have on the way is among some blocks.
use Rattle.std.proofs.Common.{◌≡◌, inl, inr, ◌++◌, Bool, true, false, List, [], ◌∷◌, Ok, ℕ, refl, sym, subst}
use Rattle.std.specs.Prelude.{MatchBool}
use Rattle.std.specs.List.{AllByRecursion}
use Rattle.std.proofs.lemmas.Bool.{false≢true}
use Rattle.gs_base.specs.declared.config.Config.{Config}
use Rattle.gs_base.specs.declared.numbers.ClientId.{ClientId}
use Rattle.gs_base.specs.declared.numbers.ReqId.{ReqId}
use Rattle.gs_client.specs.declared.link.Reply.{Reply}
use Rattle.gs_client.specs.declared.link.Reply.TheVariants as replies
use Rattle.gs_master.specs.Journaled.{text_seen}
use Rattle.gs_master_spec.specs.Durable.{Durable}
use Rattle.gs_master_spec.specs.State.{is_failed}
use Rattle.gs_msg.specs.declared.answer.Answer.{Answer}
use Rattle.gs_msg.specs.declared.call.Call.{Call}
use Rattle.gs_msg.specs.declared.event.Request.{Request}
use Rattle.gs_nodes.specs.declared.place.MasterPlace.{MasterPlace}
use Rattle.gs_nodes.specs.declared.place.MasterPlace.TheVariants.{Standing, Closed, Away}
use Rattle.gs_world.specs.Histories.{History}
use Rattle.gs_laws_world.specs.lasting.Lasting.{IsToldIn}
use Rattle.gs_world.specs.Runs.{Comes, Goes, RunsTo, Step}
use Rattle.gs_laws_chunks.specs.answers.Answered.{GoesBy, Passes, WasAnswered}
use Rattle.gs_laws_chunks.specs.answers.Behind.{StandsOn}
use Rattle.gs_laws_world.specs.steady.Asking.{asks_at}
use Rattle.gs_laws_looks.specs.carrying.Exchanged.{Went}
use Rattle.gs_laws_chunks.proofs.lemmas.accounts.Through.{told_there}
use Rattle.gs_laws_chunks.proofs.lemmas.accounts.Well.{IsWell, step_well}
use Rattle.gs_laws_chunks.specs.accounts.Accounts.{Account}
use Rattle.gs_laws_chunks.specs.accounts.Moving.{account_behind}
use Rattle.gs_laws_chunks.specs.accounts.Among.{AreEver}
use Rattle.gs_laws_chunks.specs.accounts.Running.{AreAmong, IsArmed, IsGiven, IsToldAt, Runs, RunsBare, Setup, StepsWithin}
use Rattle.gs_laws_world.proofs.lemmas.steady.Through.{sound_tells}
use Rattle.gs_laws_world.specs.steady.Unarmed.{unarmed}
use Rattle.gs_laws_world.specs.steady.Saying.{IsStepWithin}
use Rattle.gs_laws_world.specs.steady.Through.{LastsThrough, TellsAt}
use Rattle.gs_laws_looks.specs.reads.Read.{Exchanged, ExchangedAmong, WentAmong}

-- a store over these disks in which no failure is arranged, and disks may fail by themselves
abbrev pub store_of : {D : Type 0} → (D → List ℕ) → (D → ℕ) → Config → ℕ → D × D → (List ℕ → Bool) → Setup D
store_of seen failures config clients disks among = record { seen = seen; failures = failures; armed = unarmed; config = config; clients = clients; disks = disks; among = among; fails = true }

pub all_join : {A : Type 0} (S : A → Type 0) (xs ys : List A) → AllByRecursion S xs → AllByRecursion S ys → AllByRecursion S (xs ++ ys)
all_join S [] ys first second = second
all_join S (x ∷ xs) ys first second = (first.0, all_join S xs ys first.1 second)

pub all_front : {A : Type 0} (S : A → Type 0) (xs ys : List A) → AllByRecursion S (xs ++ ys) → AllByRecursion S xs
all_front S [] ys all = tt
all_front S (x ∷ xs) ys all = (all.0, all_front S xs ys all.1)

pub all_back : {A : Type 0} (S : A → Type 0) (xs ys : List A) → AllByRecursion S (xs ++ ys) → AllByRecursion S ys
all_back S [] ys all = all
all_back S (x ∷ xs) ys all = all_back S xs ys all.1

module _ {D : Type 0} (seen : D → List ℕ) (failures : D → ℕ) where
  pub run_join : (first second : List Step) (old mid new : History D) → RunsTo seen failures unarmed first old mid → RunsTo seen failures unarmed second mid new → RunsTo seen failures unarmed (first ++ second) old new
  run_join [] second old mid new is runs = subst (λ (h : History D). RunsTo seen failures unarmed second h new) is runs
  run_join (step ∷ first) second old mid new (h, goes, rest) runs = (h, goes, run_join first second h mid new rest runs)

  -- ---- the steps of what a client says in a store

  abbrev pub steps_of : (client : ClientId) (old : History D) (request : Request) (reply : Reply) (new : History D) → Went seen failures client old request reply new → List Step
  steps_of client old request (replies.Answer answer) new went = Comes (asks_at went.moment went.req request) ∷ went.behind.steps
  steps_of client old request (replies.Given given) new went = Comes (asks_at went.moment went.req request) ∷ went.behind.steps
  steps_of client old request (replies.Outcome outcome) new went = went.steps
  steps_of client old request (replies.Refused refusal) new went = went.steps
  steps_of client old request replies.Lost new went = went.steps

  abbrev pub steps_in : (client : ClientId) (pairs : List (Request × Reply)) (old new : History D) → Exchanged seen failures client pairs old new → List Step
  steps_in client [] old new is = []
  steps_in client (pair ∷ pairs) old new (mid, next, went, looks, rest) = steps_of client old pair.0 pair.1 mid went ++ (looks.steps ++ steps_in client pairs next new rest)

  -- they are a run of it
  pub runs_of : (client : ClientId) (h : History D) (request : Request) (reply : Reply) (mid : History D) (went : Went seen failures client h request reply mid) → RunsTo seen failures unarmed (steps_of client h request reply mid went) h mid
  runs_of client h request (replies.Answer answer) mid r = (r.asked, (Ok tt, r.happens), r.behind.runs)
  runs_of client h request (replies.Given part) mid r = (r.asked, (Ok tt, r.happens), r.behind.runs)
  runs_of client h request (replies.Outcome outcome) mid went = went.runs
  runs_of client h request (replies.Refused refusal) mid went = went.runs
  runs_of client h request replies.Lost mid went = went.runs

  pub runs_in : (client : ClientId) (pairs : List (Request × Reply)) (old new : History D) (e : Exchanged seen failures client pairs old new) → RunsTo seen failures unarmed (steps_in client pairs old new e) old new
  runs_in client [] old new e = e
  runs_in client (pair ∷ pairs) old new (mid, next, went, looks, rest) =
      run_join (steps_of client old pair.0 pair.1 mid went) (looks.steps ++ steps_in client pairs next new rest) old mid new (runs_of client old pair.0 pair.1 mid went)
      (run_join looks.steps (steps_in client pairs next new rest) mid next new looks.runs (runs_in client pairs next new rest))

  within_of : (client : ClientId) (h : History D) (request : Request) (reply : Reply) (mid : History D) (went : Went seen failures client h request reply mid) → AllByRecursion IsStepWithin (steps_of client h request reply mid went)
  within_of client h request (replies.Answer answer) mid r = (r.asks, r.behind.within)
  within_of client h request (replies.Given part) mid r = (r.asks, r.behind.within)
  within_of client h request (replies.Outcome outcome) mid went = went.within
  within_of client h request (replies.Refused refusal) mid went = went.within
  within_of client h request replies.Lost mid went = went.within

  pub within_in : (client : ClientId) (pairs : List (Request × Reply)) (old new : History D) (e : Exchanged seen failures client pairs old new) → AllByRecursion IsStepWithin (steps_in client pairs old new e)
  within_in client [] old new e = tt
  within_in client (pair ∷ pairs) old new (mid, next, went, looks, rest) =
      all_join IsStepWithin (steps_of client old pair.0 pair.1 mid went) (looks.steps ++ steps_in client pairs next new rest) (within_of client old pair.0 pair.1 mid went)
      (all_join IsStepWithin looks.steps (steps_in client pairs next new rest) looks.within (within_in client pairs next new rest))

  -- what is so behind each step of a run is so of each world that it passes, and the other way round
  pub ever_each : (among : List ℕ → Bool) (steps : List Step) (old new : History D) (runs : RunsTo seen failures unarmed steps old new) → AreEver seen failures among steps old new runs → (h : History D) → Passes seen failures unarmed h steps old new runs → AreAmong among h.nodes
  ever_each among [] old new runs all h there = absurd there
  ever_each among (step ∷ steps) old new (mid, goes, rest) all h (inl here) = subst (λ (k : History D). AreAmong among k.nodes) (sym here) all.0
  ever_each among (step ∷ steps) old new (mid, goes, rest) all h (inr there) = ever_each among steps mid new rest all.1 h there

  pub each_ever : (among : List ℕ → Bool) (steps : List Step) (old new : History D) (runs : RunsTo seen failures unarmed steps old new) → ((h : History D) → Passes seen failures unarmed h steps old new runs → AreAmong among h.nodes) → AreEver seen failures among steps old new runs
  each_ever among [] old new runs each = tt
  each_ever among (step ∷ steps) old new (mid, goes, rest) each = (each mid (inl refl), each_ever among steps mid new rest (λ h there. each h (inr there)))

  -- so it is on the way to an answer's event, behind that, and from then on
  module _ (among : List ℕ → Bool) (steps : List Step) (old new : History D) (runs : RunsTo seen failures unarmed steps old new) (all : AreEver seen failures among steps old new runs) (req : ReqId) (call : Call) (answer : Answer) (made : WasAnswered seen failures unarmed steps old new req call answer)
      (by : GoesBy seen failures unarmed (λ h. Passes seen failures unarmed h steps old new runs) steps old new req call answer made) where
    pub ever_before : AreEver seen failures among made.before old made.now made.first
    ever_before = each_ever among made.before old made.now made.first (λ h there. ever_each among steps old new runs all h (by.first h there))

    pub among_behind : AreAmong among made.next.nodes
    among_behind = ever_each among steps old new runs all made.next by.next

    pub ever_after : AreEver seen failures among made.after made.next new made.rest
    ever_after = each_ever among made.after made.next new made.rest (λ h there. ever_each among steps old new runs all h (by.rest h there))

  pub still : (place : MasterPlace D) → IsArmed seen place place
  still (Standing m) = (m.journal, refl, record { first = refl; second = refl; others = refl })
  still (Closed first second) = (first, second, refl, refl, refl)
  still Away = refl

  -- what is told is what the disks tell
  pub told_tells : (place : MasterPlace D) (d : Durable) → LastsThrough seen place → IsToldAt seen place d → TellsAt seen place d
  told_tells (Standing m) d lasts told = by_fault (is_failed m.state.fault) refl told
    where
      by_fault : (b : Bool) → is_failed m.state.fault ≡ b → MatchBool b (IsToldIn (text_seen seen m.journal) d) (d ≡ m.state.durable) → IsToldIn (text_seen seen m.journal) d
      by_fault true failed told = told
      by_fault false sound told = subst (λ (e : Durable). IsToldIn (text_seen seen m.journal) e) (sym told) (sound_tells seen failures m sound lasts)
  told_tells (Closed first second) d lasts told = told
  told_tells Away d lasts told = told

  pub told_stands : (place : MasterPlace D) (d : Durable) → StandsOn place d → IsToldAt seen place d
  told_stands place d s = subst (λ (p : MasterPlace D). IsToldAt seen p d) (sym s.stands) (subst (λ b. MatchBool b (IsToldIn (text_seen seen s.master.journal) d) (d ≡ s.master.state.durable)) (sym s.sound) (sym s.keeps))

  module _ (config : Config) (clients : ℕ) (disks : D × D) (among : List ℕ → Bool) where
    abbrev pub x : Setup D
    x = store_of seen failures config clients disks among

    pub step_so : (step : Step) (old new : History D) → Goes seen failures unarmed step old new → IsStepWithin step → AreAmong among new.nodes → StepsWithin x step old new
    step_so step old new goes within blocks = record { goes = goes; within = within; among = blocks; sound = λ never. absurd (false≢true (sym never)) }

    pub bare_so : (steps : List Step) (old new : History D) (runs : RunsTo seen failures unarmed steps old new) → AllByRecursion IsStepWithin steps → AreEver seen failures among steps old new runs → RunsBare x steps old new
    bare_so [] old new is within all = is
    bare_so (step ∷ steps) old new (mid, goes, rest) within all = (mid, step_so step old mid goes within.0 all.0, bare_so steps mid new rest within.1 all.1)

    pub bare_join : (first second : List Step) (old mid new : History D) → RunsBare x first old mid → RunsBare x second mid new → RunsBare x (first ++ second) old new
    bare_join [] second old mid new is runs = subst (λ (h : History D). RunsBare x second h new) is runs
    bare_join (step ∷ first) second old mid new (h, one, rest) runs = (h, one, bare_join first second h mid new rest runs)

    -- of what a client says in a store
    bare_of : (client : ClientId) (h : History D) (request : Request) (reply : Reply) (mid : History D) (went : Went seen failures client h request reply mid) → WentAmong seen failures among client h request reply mid went → RunsBare x (steps_of client h request reply mid went) h mid
    bare_of client h request (replies.Answer answer) mid r all = bare_so (Comes (asks_at r.moment r.req request) ∷ r.behind.steps) h mid (r.asked, (Ok tt, r.happens), r.behind.runs) (r.asks, r.behind.within) all
    bare_of client h request (replies.Given part) mid r all = bare_so (Comes (asks_at r.moment r.req request) ∷ r.behind.steps) h mid (r.asked, (Ok tt, r.happens), r.behind.runs) (r.asks, r.behind.within) all
    bare_of client h request (replies.Outcome outcome) mid went all = bare_so went.steps h mid went.runs went.within all
    bare_of client h request (replies.Refused refusal) mid went all = bare_so went.steps h mid went.runs went.within all
    bare_of client h request replies.Lost mid went all = bare_so went.steps h mid went.runs went.within all

    pub bare_in : (client : ClientId) (pairs : List (Request × Reply)) (old new : History D) (e : Exchanged seen failures client pairs old new) → ExchangedAmong seen failures among client pairs old new e → RunsBare x (steps_in client pairs old new e) old new
    bare_in client [] old new e all = e
    bare_in client (pair ∷ pairs) old new (mid, next, went, looks, rest) all =
        bare_join (steps_of client old pair.0 pair.1 mid went) (looks.steps ++ steps_in client pairs next new rest) old mid new (bare_of client old pair.0 pair.1 mid went all.0)
        (bare_join looks.steps (steps_in client pairs next new rest) mid next new (bare_so looks.steps mid next looks.runs looks.within all.1) (bare_in client pairs next new rest all.2))

    module _ (given : IsGiven x) where
      -- an account goes along
      pub accounts_on : (steps : List Step) (old new : History D) (a : Account) → RunsBare x steps old new → IsWell x old → (b : Account) × Runs x steps old a new b × IsWell x new
      accounts_on [] old new a is well = (a, (is, refl), subst (IsWell x) (sym is) well)
      accounts_on (step ∷ steps) old new a (mid, one, rest) well =
          let there = step_well x given step old mid well one in
          let told = told_there seen mid.nodes.master there.steady in
          let c = account_behind step old a mid told.0 in
          let more = accounts_on steps mid new c rest there in
          (more.0, (mid, c, record { steps = one; told = told.1; account = refl }, more.1), more.2)
