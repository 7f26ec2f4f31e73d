use Rattle.std.proofs.Common.{◌-◌, ◌++◌, length, take, drop, sym, ap, subst, ◌∙◌, arith, take-take, length-take}
use Rattle.std.proofs.Math.Seq.{take-add}
use Rattle.std.specs.Io.KnownBytes.{Appends}
use Rattle.std.proofs.KnownBytes.{Appends-trans}
use Rattle.gs_keep.proofs.sending.Answers.write_out.Goals as goal

pub loop-self-preserved : goal.loop-self-preserved
loop-self-preserved g c =
    let done = c.loop-self.written in
    let xs = c.args.bytes.now in
    let before = c.loop-self.invariant in
    let n = c.in-Ok.count in
    let most = length-take (length xs - done) (drop done xs) in
    let fits = c.in-Ok.ensures.bound in
    let joined = ap (λ l. take done xs ++ l) (take-take n (length xs - done) (drop done xs) (omega arith)) ∙ sym (take-add done n xs) in
    (omega arith, subst (Appends _ _) joined (Appends-trans _ _ _ _ _ before.1 c.in-Ok.ensures.ok))
