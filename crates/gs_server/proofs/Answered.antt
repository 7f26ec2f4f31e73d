-- An edit that was heard before, and one that wasn't.
use Rattle.std.proofs.Common.{◌≡◌, ℕ, Bool, true, false, cond, [], ◌∷◌, Option, Some, None, refl, sym, subst}
use Rattle.std.specs.Prelude.{Result, Ok, nat_lt, ◌==◌}
use Rattle.gs_base.specs.declared.numbers.Moment.{Moment}
use Rattle.gs_base.specs.declared.numbers.ReqId.{ReqId}
use Rattle.gs_base.specs.declared.refusal.Refusal.{Refusal}
use Rattle.gs_base.specs.declared.refusal.Refusal.TheVariants as refusals
use Rattle.gs_replica.specs.declared.op.EditOutcome.{EditOutcome}
use Rattle.gs_replica.specs.declared.op.Done.{Done}
use Rattle.gs_server.specs.declared.turn.KeptRefusal.{KeptRefusal}
use Rattle.gs_server.specs.declared.turn.Turn.{Turn}
use Rattle.gs_server.specs.Places.{Part, sending}
use Rattle.gs_server.specs.Edits.{done, refused_once, repeated, is_known_of_all, unless_kept, unless_done}
use Rattle.gs_server.specs.Servers.{Server, Step, ServerSteps, step_of, here_of, place_of}
use Rattle.gs_server.specs.inner.Answering.{refused_once_by, repeated_by}
use Rattle.gs_server.specs.inner.Again.{again, again_as_refused, StepsAgain}

module _ (handle : ℕ) (req : ReqId) (moment : Moment) (s : Server) where
  abbrev steps_of : Part → Step
  steps_of part = step_of handle (Some req) part s

  once_step : (e : Refusal) → refused_once_by req e s ≡ steps_of (refused_once (here_of s moment handle (Some req)) req e)
  once_step e = refl

  repeat_step : (outcome : EditOutcome) (known : Bool) → repeated_by req outcome known s ≡ steps_of (cond known (sending (done (here_of s moment handle (Some req)) req (Ok outcome) ∷ [])) (sending []))
  repeat_step outcome true = refl
  repeat_step outcome false = refl

  -- one test after the other
  met : (test : Bool) (x : Step) (y : Option Step) (p q : Part) (result : Result Turn Refusal) → x ≡ steps_of p → (StepsAgain y (Some result) s → ServerSteps (steps_of q) result s s) →
      StepsAgain (cond test (Some x) y) (Some result) s → ServerSteps (steps_of (cond test p q)) result s s
  met true x y p q result is rest steps = subst (λ step. ServerSteps step result s s) is steps
  met false x y p q result is rest steps = rest steps

  kept_met : (kept : Option KeptRefusal) (part : Part) (result : Result Turn Refusal) → StepsAgain (again_as_refused req s kept) (Some result) s → ServerSteps (steps_of (unless_kept (here_of s moment handle (Some req)) req kept part)) result s s
  kept_met None part result steps = elim steps [ ]
  kept_met (Some kept) part result steps =
      let h = here_of s moment handle (Some req) in
      met (nat_lt req.number kept.number) _ (cond (req.number == kept.number) (Some (refused_once_by req kept.refusal s)) None) _ _ result (once_step refusals.Old)
      (met (req.number == kept.number) _ None (refused_once h req kept.refusal) part result (once_step kept.refusal) (λ never. elim never [ ])) steps

  done_met : (kept : Option KeptRefusal) (last : Option Done) (part : Part) (result : Result Turn Refusal) → StepsAgain (again req (is_known_of_all req (place_of handle s).slot (place_of handle s).lease) s kept last) (Some result) s →
      ServerSteps (steps_of (unless_done (here_of s moment handle (Some req)) (place_of handle s) req last (unless_kept (here_of s moment handle (Some req)) req kept part))) result s s
  done_met kept None part result steps = kept_met kept part result steps
  done_met kept (Some last) part result steps =
      let h = here_of s moment handle (Some req) in
      let known = is_known_of_all req (place_of handle s).slot (place_of handle s).lease in
      met (req.number == last.number) _ (cond (nat_lt req.number last.number) (Some (refused_once_by req refusals.Old s)) (again_as_refused req s kept)) (repeated h (place_of handle s) req last.outcome) _ result (repeat_step last.outcome known)
      (met (nat_lt req.number last.number) _ (again_as_refused req s kept) (refused_once h req refusals.Old) (unless_kept h req kept part) result (once_step refusals.Old) (kept_met kept part result)) steps

  -- none is met
  unmet : (test : Bool) (x : Step) (y : Option Step) (p q r : Part) → (StepsAgain y None s → q ≡ r) → StepsAgain (cond test (Some x) y) None s → cond test p q ≡ r
  unmet true x y p q r rest steps = elim steps [ ]
  unmet false x y p q r rest steps = rest steps

  kept_unmet : (kept : Option KeptRefusal) (part : Part) → StepsAgain (again_as_refused req s kept) None s → unless_kept (here_of s moment handle (Some req)) req kept part ≡ part
  kept_unmet None part steps = refl
  kept_unmet (Some kept) part steps =
      let h = here_of s moment handle (Some req) in
      unmet (nat_lt req.number kept.number) (refused_once_by req refusals.Old s) (cond (req.number == kept.number) (Some (refused_once_by req kept.refusal s)) None) (refused_once h req refusals.Old) (cond (req.number == kept.number) (refused_once h req kept.refusal) part) part
      (unmet (req.number == kept.number) (refused_once_by req kept.refusal s) None (refused_once h req kept.refusal) part part (λ _. refl)) steps

  done_unmet : (known : Bool) (kept : Option KeptRefusal) (last : Option Done) (part : Part) → StepsAgain (again req known s kept last) None s →
      unless_done (here_of s moment handle (Some req)) (place_of handle s) req last (unless_kept (here_of s moment handle (Some req)) req kept part) ≡ part
  done_unmet known kept None part steps = kept_unmet kept part steps
  done_unmet known kept (Some last) part steps =
      let h = here_of s moment handle (Some req) in
      unmet (req.number == last.number) (repeated_by req last.outcome known s) (cond (nat_lt req.number last.number) (Some (refused_once_by req refusals.Old s)) (again_as_refused req s kept))
      (repeated h (place_of handle s) req last.outcome) (cond (nat_lt req.number last.number) (refused_once h req refusals.Old) (unless_kept h req kept part)) part
      (unmet (nat_lt req.number last.number) (refused_once_by req refusals.Old s) (again_as_refused req s kept) (refused_once h req refusals.Old) (unless_kept h req kept part) part (kept_unmet kept part)) steps

pub heard_before : (handle : ℕ) (req : ReqId) (moment : Moment) (s : Server) (kept : Option KeptRefusal) (last : Option Done) (part : Part) (result : Result Turn Refusal) →
    StepsAgain (again req (is_known_of_all req (place_of handle s).slot (place_of handle s).lease) s kept last) (Some result) s →
    ServerSteps (step_of handle (Some req) (unless_done (here_of s moment handle (Some req)) (place_of handle s) req last (unless_kept (here_of s moment handle (Some req)) req kept part)) s) result s s
heard_before handle req moment s kept last part result steps = done_met handle req moment s kept last part result steps

pub not_heard : (handle : ℕ) (req : ReqId) (moment : Moment) (s : Server) (known : Bool) (kept : Option KeptRefusal) (last : Option Done) (part : Part) (result : Result Turn Refusal) (after : Server) →
    StepsAgain (again req known s kept last) None s → ServerSteps (step_of handle (Some req) part s) result s after →
    ServerSteps (step_of handle (Some req) (unless_done (here_of s moment handle (Some req)) (place_of handle s) req last (unless_kept (here_of s moment handle (Some req)) req kept part)) s) result s after
not_heard handle req moment s known kept last part result after steps does =
    subst (λ p. ServerSteps (step_of handle (Some req) p s) result s after) (sym (done_unmet handle req moment s known kept last part steps)) does
