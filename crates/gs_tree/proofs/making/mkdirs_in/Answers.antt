use Rattle.std.proofs.Common.{◌≡◌, subst, ℕ}
use Rattle.std.specs.Prelude.{Option, Some, Result, Ok}
use Rattle.gs_base.specs.declared.refusal.Refusal.{Refusal}
use Rattle.gs_path.specs.Path.{Path}
use Rattle.gs_tree.specs.Entry.{Dir}
use Rattle.gs_tree.specs.Plain.{Plain}
use Rattle.gs_tree.specs.Find.{at}
use Rattle.gs_tree.specs.Edits.{mkdirs}
use Rattle.gs_tree.specs.Follows.{FollowsPlain}
use Rattle.gs_tree.specs.inner.Steps.{MakesLeaf}
use Rattle.gs_tree.specs.declared.inverse.TreeInverse.{TreeInverse}
use Rattle.gs_tree.proofs.Makes.{mkdirs_missing}
use Rattle.gs_tree.proofs.making.mkdirs_in.Goals as goal

-- a directory was made where nothing stood
made_follows : (m left : Plain ℕ) (path : Path) (made : Option TreeInverse) (i : TreeInverse) → made ≡ Some i → MakesLeaf m path Dir (Ok made) left → FollowsPlain (mkdirs m path) (Ok i) m left
made_follows m left path made i is h =
    let some : MakesLeaf m path Dir (Ok (Some i)) left = subst (λ o. MakesLeaf m path Dir (Ok o) left) is h in
    subst (λ (r : Result (Plain ℕ) Refusal). FollowsPlain r (Ok i) m left) (mkdirs_missing m path some.0) some.1

pub returns-in-Some-clause-edit : goal.returns-in-Some-clause-edit
returns-in-Some-clause-edit c = made_follows (at c.args.root.now) (at c.make.new.root) c.args.path.now c.in_ok-made.made c.in-Some.inverse c.in-Some.is c.in_ok-made.ensures
