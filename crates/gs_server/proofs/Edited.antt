-- An edit that was heard before.
use Rattle.std.proofs.Common.{◌≡◌, ℕ, true, false, cond, Option, Some, None, sym, subst, arith}
use Rattle.std.proofs.lemmas.Bool.Decides.{nat_tests}
use Rattle.std.specs.Prelude.{Result, nat_lt, ◌==◌}
use Rattle.gs_base.specs.declared.numbers.ReqId.{ReqId}
use Rattle.gs_base.specs.declared.refusal.Refusal.{Refusal}
use Rattle.gs_base.specs.declared.refusal.Refusal.TheVariants as refusals
use Rattle.gs_server.specs.declared.turn.KeptRefusal.{KeptRefusal}
use Rattle.gs_server.specs.declared.turn.Turn.{Turn}
use Rattle.gs_server.specs.Servers.{Server, ServerSteps}
use Rattle.gs_server.specs.inner.Answering.{refused_once_by}
use Rattle.gs_server.specs.inner.Again.{again_as_refused, StepsAgain}

not_below : (a b : ℕ) → a ≡ b → nat_lt a b ≡ false
not_below a b is = grind (arith, nat_tests)

same_number : (a b : ℕ) → a ≡ b → (a == b) ≡ true
same_number a b is = grind (arith, nat_tests)

pub same_as_refused : (req : ReqId) (s : Server) (kept : KeptRefusal) (o : Option KeptRefusal) (result : Result Turn Refusal) → Some kept ≡ o → req.number ≡ kept.number → ServerSteps (refused_once_by req kept.refusal s) result s s → StepsAgain (again_as_refused req s o) (Some result) s
same_as_refused req s kept o result is same steps =
    subst (λ x. StepsAgain (again_as_refused req s x) (Some result) s) is
    (subst (λ b. StepsAgain (cond b (Some (refused_once_by req refusals.Old s)) (cond (req.number == kept.number) (Some (refused_once_by req kept.refusal s)) None)) (Some result) s) (sym (not_below _ _ same))
    (subst (λ b. StepsAgain (cond b (Some (refused_once_by req kept.refusal s)) None) (Some result) s) (sym (same_number _ _ same)) steps))
