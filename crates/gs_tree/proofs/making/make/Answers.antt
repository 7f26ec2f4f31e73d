use Rattle.std.proofs.Common.{◌≡◌, ◌≢◌, ◌-◌, ℕ, zero, suc, cond, refl, sym, subst, ap, length}
use Rattle.std.specs.Prelude.{None, Result, Ok, Err}
use Rattle.gs_base.specs.declared.refusal.Refusal.{Refusal}
use Rattle.gs_base.specs.declared.refusal.Refusal.TheVariants.{NotADirectory}
use Rattle.gs_path.specs.Path.{Path}
use Rattle.gs_tree.specs.Entry.{Entry}
use Rattle.gs_tree.specs.Plain.{Plain}
use Rattle.gs_tree.specs.Find.{at}
use Rattle.gs_tree.specs.Edits.{with_entry, with_dirs}
use Rattle.gs_tree.specs.Follows.{FollowsPlain}
use Rattle.gs_tree.specs.Inverses.{TakesBack}
use Rattle.gs_tree.specs.inner.Steps.{IsSown, Sown}
use Rattle.gs_tree.specs.inner.Sort.{entry_of_leaf}
use Rattle.gs_tree.specs.declared.inverse.TreeInverse.{TreeInverse}
use Rattle.gs_tree.specs.declared.inverse.TreeInverse.TheVariants.{Made}
use Rattle.gs_tree.proofs.Makes.{takes_made}
use Rattle.gs_tree.proofs.making.make.Goals as goal

-- where some path was made nothing stood
some_sown : (m left : Plain ℕ) (path : Path) (e : Entry ℕ) (made : ℕ) → made ≢ 0 → Sown m path e (Ok made) left → (m path ≡ None) × IsSown m path e made left
some_sown m left path e zero some h = absurd (some refl)
some_sown m left path e (suc made) some h = h

pub returns : goal.returns
returns c =
    let m = at c.args.root.now in
    let left = at c.sow.new.self in
    let path = c.args.path.now in
    let e = entry_of_leaf c.args.leaf in
    let parts = some_sown m left path e c.in_ok-made.made c.if-made-eq0.false (subst (λ (p : Path). Sown m p e (Ok c.in_ok-made.made) left) c.elements.ensures c.in_ok-made.ensures) in
    let open_above = ap (λ b. cond b (Err NotADirectory) (Ok (with_entry path e (with_dirs path m)))) parts.1.no_file in (
      parts.0,
      subst (λ (r : Result (Plain ℕ) Refusal). FollowsPlain {I = TreeInverse} r (Ok (Made c.in_ok-copy.copy (length c.elements-2.result.now - c.in_ok-made.made))) m left) (sym open_above) parts.1.tree,
      subst (λ (p : Path). TakesBack (Made p (length c.elements-2.result.now - c.in_ok-made.made)) m left) (sym c.in_ok-copy.ensures)
          (takes_made m left path c.args.leaf (length c.elements-2.result.now) c.in_ok-made.made (ap length c.elements-2.ensures) parts.1),
      tt,
      tt,
    )
