use Rattle.std.proofs.Common.{◌-◌, ◌++◌, length, take, drop, sym, ap, subst, ◌∙◌, arith, take-take, length-take}
use Rattle.std.proofs.Math.Seq.{take-add}
use Rattle.std.specs.Io.KnownBytes.{Appends}
use Rattle.std.proofs.KnownBytes.{Appends-trans, Appends-kept}
use Rattle.gs_shell_script.proofs.write_out.Goals as goal
use Rattle.gs_shell_script.proofs.write_out.Goals.{in-Ok, in-Err}

pub loop-preserved : goal.loop-preserved
loop-preserved g c =
    let done = c.loop.written in
    let xs = c.args.bytes.now in
    let before = c.loop.invariant in
    let most = length-take (length xs - done) (drop done xs) in
    elim c.match-write.branch [
      | in-Ok w ↦
          let n = w.in-Ok.count in
          let fits = w.in-Ok.ensures.bound in
          let joined = ap (λ l. take done xs ++ l) (take-take n (length xs - done) (drop done xs) (omega arith)) ∙ sym (take-add done n xs) in
          rw w.written-is (omega arith, subst (Appends _ _) joined (Appends-trans _ _ _ _ _ before.1 w.in-Ok.ensures.bytes))
      | in-Err w ↦ rw w.written-is (before.0, Appends-kept _ _ _ _ before.1 w.in-Err.ensures.bytes)
    ]
