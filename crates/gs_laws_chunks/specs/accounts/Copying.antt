-- What a copy has of the chunk of which it is one.
use Rattle.std.specs.Prelude.{[], ◌∷◌, ◌≡◌, ◌⊎◌, List, None, Some, length, refl, take, ℕ}
use Rattle.gs_base.specs.declared.numbers.Stamp.{Stamp}
use Rattle.gs_laws_chunks.specs.accounts.Accounts.{Account, settled_edits, view_at}
use Rattle.gs_laws_chunks.specs.accounts.Running.{IsReached, Moves, Runs, Setup}
use Rattle.gs_lease.specs.declared.view.View.{View}
use Rattle.gs_laws_lift.specs.stores.Copying.{copied_from}
use Rattle.gs_replica.specs.Stands.{Edit}
use Rattle.gs_world.specs.Histories.{History}
use Rattle.gs_world.specs.Runs.{Step}

-- some edits begin with all of these
abbrev pub BeginWith : List Edit → List Edit → Type 0
BeginWith edits first = take (length first) edits ≡ first

module _ {D : Type 0} (x : Setup D) where
  -- A chunk that is a copy, once a view of it is settled, has settled all edits that its source has under the stamp that was copied, and they stand first. So it is in each later world of the run,
  -- of the edits that the source had under that stamp in any world in which the chunk was a copy: also before a view of it was settled.
  abbrev pub CopiesInherit : Type 0
  CopiesInherit = (now later : History D) (a b : Account) (steps : List Step) (chunk source : ℕ) (at : Stamp) (view : View) → IsReached x now a → copied_from now.sent chunk ≡ Some (source, at) → Runs x steps now a later b → view_at b chunk ≡ Some view →
      BeginWith (settled_edits b chunk) (a.list source at)

  -- The step of the run at which the chunk became a copy. Right before it, or right behind it, the records told this as the settled view of the source, under the stamp that was copied, and
  -- nobody might number in it.
  pub record WasCopied (now : History D) (a : Account) (chunk source : ℕ) (at : Stamp) : Type 0 where
    pub old : History D
    pub before : Account
    pub step : Step
    pub asked : History D
    pub behind : Account
    pub steps : List Step
    pub reached : IsReached x old before
    pub moves : Moves x step old before asked behind
    pub runs : Runs x steps asked behind now a
    pub none : copied_from old.sent chunk ≡ None
    pub some : copied_from asked.sent chunk ≡ Some (source, at)
    pub view : View
    pub told : (view_at before source ≡ Some view) ⊎ (view_at behind source ≡ Some view)
    pub under : view.stamp ≡ at
    pub unled : view.term ≡ None

  -- So it was of each copy. What the source has under the stamp that was copied is all that it had where it was copied: no edit of it was numbered since.
  abbrev pub CopiesAreOfViews : Type 0
  CopiesAreOfViews = (now : History D) (a : Account) (chunk source : ℕ) (at : Stamp) → IsReached x now a → copied_from now.sent chunk ≡ Some (source, at) →
      (was : WasCopied now a chunk source at) × (a.list source at ≡ was.behind.list source at)

-- ---- Worked
two_edits_begin_with_the_first : (one other : Edit) → BeginWith (one ∷ other ∷ []) (one ∷ [])
two_edits_begin_with_the_first one other = refl

no_edits_begin_with_one : (one : Edit) → BeginWith [] (one ∷ []) → ⊥
no_edits_begin_with_one one is = cc
