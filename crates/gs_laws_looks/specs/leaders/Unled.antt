-- What is read of a chunk that nobody leads, whatever views of it are settled meanwhile.
use Rattle.std.specs.Prelude.{[], ◌∷◌, ◌≡◌, List, None, Ok, Result, Some, false, refl, true, ℕ}
use Rattle.std.specs.FinMap as fin
use Rattle.gs_base.specs.declared.numbers.ReqId.{ReqId}
use Rattle.gs_base.specs.declared.refusal.Refusal.{Refusal}
use Rattle.gs_lease.specs.declared.view.Term.{Term}
use Rattle.gs_lease.specs.declared.view.View.{View}
use Rattle.gs_master_spec.specs.Calls.{found_chunk}
use Rattle.gs_master_spec.specs.Durable.{is_listed, is_rolling}
use Rattle.gs_msg.specs.declared.body.Given.{Given}
use Rattle.gs_msg.specs.declared.chunk.Asked.{Asked}
use Rattle.gs_msg.specs.declared.event.Event.{Event}
use Rattle.gs_path.specs.Path.{Path}
use Rattle.gs_world.specs.Histories.{Happens, History}
use Rattle.gs_world.specs.Runs.{Step}
use Rattle.gs_laws_chunks.specs.accounts.Accounts.{Account, settled_edits, text_of, view_at}
use Rattle.gs_laws_chunks.specs.accounts.Back.{HasRolledBack}
use Rattle.gs_laws_chunks.specs.accounts.Reading.{GivesBytes, IsFetch, IsLookedUp, given_of, sent_at}
use Rattle.gs_laws_chunks.specs.accounts.Running.{IsReached, Moves, Setup}

-- nobody leads the chunk's settled view, by what the records tell
abbrev pub IsUnledAt : Account → ℕ → Type 0
IsUnledAt a chunk = (view : View) → view_at a chunk ≡ Some view → view.term ≡ None

module _ {D : Type 0} (x : Setup D) where
  -- Steps with their accounts, behind each of which nobody leads the chunk, and the epoch is this one. Views of the chunk may be settled at them.
  abbrev pub RunsUnled : ℕ → ℕ → List Step → History D → Account → History D → Account → Type 0
  RunsUnled chunk epoch [] old a new b = (new ≡ old) × (b ≡ a)
  RunsUnled chunk epoch (step ∷ steps) old a new b = (mid : History D) × (c : Account) × Moves x step old a mid c × IsUnledAt c chunk × (c.durable.epoch ≡ epoch) × RunsUnled chunk epoch steps mid c new b

  -- Behind such steps from a world the chunk is looked up, and behind more of them a member of the view that was told is asked as that look-up tells, and gives this.
  pub record ReadsUnled (h : History D) (a : Account) (chunk : ℕ) (asked : Asked) (given : Given) : Type 0 where
    pub first : List Step
    pub looked : History D
    pub c : Account
    pub before : RunsUnled chunk a.durable.epoch first h a looked c
    pub view : View
    pub epoch : ℕ
    pub is : IsLookedUp c chunk view epoch
    pub rest : List Step
    pub now : History D
    pub b : Account
    pub behind : RunsUnled chunk a.durable.epoch rest looked c now b
    pub event : Event
    pub said : Result (Unit {0}) Refusal
    pub next : History D
    pub happens : Happens x.seen x.failures x.armed event now said next
    pub req : ReqId
    pub fetch : IsFetch now.sent event chunk view epoch req asked
    pub gives : GivesBytes (sent_at happens.outcome) req given

  -- Where a file has the chunk in that world, or had it, nobody leads it and nothing is rolled back, that is the part that was asked for of the text that was settled there.
  abbrev pub ReadsAreOfUnled : Type 0
  ReadsAreOfUnled = (h : History D) (a : Account) (chunk : ℕ) (asked : Asked) (given : Given) → IsReached x h a → is_listed a.durable chunk ≡ true → is_rolling a.durable.phase ≡ false → IsUnledAt a chunk → ReadsUnled h a chunk asked given →
      given ≡ given_of x.config.block (text_of x.config.chunk (settled_edits a chunk)) asked

  -- So it is right behind a prepare, and right behind its rollback. So what is read so of a place of a file behind the rollback is what was read so behind the prepare.
  abbrev pub UnledReadsGoBack : Type 0
  UnledReadsGoBack = (prepared now back : History D) (before after last : Account) (p : Path) (index one other : ℕ) (asked : Asked) (had has : Given) → HasRolledBack x prepared before now after back last →
      found_chunk (fin.get before.durable.names.tree p) index ≡ Ok one → found_chunk (fin.get last.durable.names.tree p) index ≡ Ok other → ReadsUnled prepared before one asked had → ReadsUnled back last other asked has → has ≡ had

-- ---- Worked: nobody leads a chunk of which no view is told, and one that is led is none of those; no step leaves all as it is
no_view_is_led : (a : Account) (chunk : ℕ) → view_at a chunk ≡ None → IsUnledAt a chunk
no_view_is_led a chunk none view is = absurd (cc)

a_view_with_a_term_is_led : (a : Account) (chunk : ℕ) (view : View) (term : Term) → view_at a chunk ≡ Some view → view.term ≡ Some term → IsUnledAt a chunk → ⊥
a_view_with_a_term_is_led a chunk view term told led unled = (let none = unled view told in cc)

no_step : {D : Type 0} (x : Setup D) (chunk : ℕ) (h : History D) (a : Account) → RunsUnled x chunk a.durable.epoch [] h a h a
no_step x chunk h a = (refl, refl)
