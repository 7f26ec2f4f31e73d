use Rattle.std.proofs.Common.{◌≡◌, refl, inl, inr, ◌∙◌, ap, subst, rules}
use Rattle.std.specs.Prelude.{Option, Some, None, Result, Ok, Err, IfSome, OnOk}
use Rattle.gs_journal_disk.specs.Disk.{LeavesPairs}
use Rattle.gs_journal.specs.Records.{standing}
use Rattle.gs_journal.specs.Journal.{State, IsOldOrNew, IsStillOrNext, MakesCheckpoint, checkpointed}
use Rattle.gs_journal.specs.Drafts.{Drafted, draft_refusal}
use Rattle.gs_journal.proofs.Views.{unmoved, still_there}
use Rattle.gs_journal.proofs.Drafting.{draft_unrefused, if_err_as}
use Rattle.gs_journal.proofs.journal.Journal.checkpoint.Goals as goal

-- a refusal that was told is answered
err_judged : {T E S : Type 0} (U : Type 0) (told : Option E) (r : Result T E) (x : E) (s : S) → IfSome told (λ e. r ≡ Err e) → r ≡ Err x → IfSome told (λ e. (◌≡◌ {A = Result U E} (Err x) (Err e)) × (s ≡ s))
err_judged U None r x s judged is = tt
err_judged U (Some e) r x s judged is = (cc (judged, is), refl)

-- where something was made, no refusal was told
ok_judged : {T E : Type 0} (told : Option E) (r : Result T E) (x : T) (Q : E → Type 0) → IfSome told (λ e. r ≡ Err e) → r ≡ Ok x → IfSome told Q
ok_judged None r x Q judged is = tt
ok_judged (Some e) r x Q judged is = absurd (cc (judged, is))

pub returns-in_err-draft-clause-judged : goal.returns-in_err-draft-clause-judged
returns-in_err-draft-clause-judged g c =
    let e : c.from_residual.result ≡ Err c.in_err-draft.field-0.0 = search rules in
    let is : c.draft.result ≡ Err c.in_err-draft.field-0.0 = search rules in
    rw e (err_judged _ _ _ _ _ c.draft.ensures.judged is)

pub returns-in_err-draft-clause-stands : goal.returns-in_err-draft-clause-stands
returns-in_err-draft-clause-stands g c =
    let e : c.from_residual.result ≡ Err c.in_err-draft.field-0.0 = search rules in
    rw e tt

pub returns-in_err-draft-clause-failed : goal.returns-in_err-draft-clause-failed
returns-in_err-draft-clause-failed g c =
    let e : c.from_residual.result ≡ Err c.in_err-draft.field-0.0 = search rules in
    rw e (λ none. inr (c.in_err-draft.ensures.refused none, refl))

pub returns-in_err-draft-clause-either : goal.returns-in_err-draft-clause-either
returns-in_err-draft-clause-either g c = inl refl

pub returns-in_err-draft-clause-counting : goal.returns-in_err-draft-clause-counting
returns-in_err-draft-clause-counting g c = refl

pub returns-in_err-draft-clause-any_moment : goal.returns-in_err-draft-clause-any_moment
returns-in_err-draft-clause-any_moment g c is_open =
    let d = g.D.Disk in let j = c.self.inside in
    unmoved d.seen d.may_leave d.moment d.left_since j.disks j.limit j.is_failed c.args.self.now (λ t a b. IsOldOrNew t (checkpointed c.args.body.now) (standing a b)) c.self.view_is
    (c.self.invariant (ap (λ (v : State _). v.is_failed) c.self.view_is ∙ is_open)) g.met.D.Disk.only_now (inl refl)

pub returns-clause-failed : goal.returns-clause-failed
returns-clause-failed g c =
    let is = c.in_ok-draft.ensures.made in
    if_err_as _ _ c.write_draft.result (λ e closes none. inl (closes (ap (draft_refusal c.args.self.now) is ∙ draft_unrefused c.args.self.now c.args.body.now none))) c.write_draft.ensures.failed

pub returns-clause-any_moment : goal.returns-clause-any_moment
returns-clause-any_moment g c is_open =
    let d = g.D.Disk in
    subst (λ (t : Drafted). LeavesPairs d.moment d.left_since c.args.self.now.first c.args.self.now.second c.write_draft.new.self.first c.write_draft.new.self.second (λ a b. IsOldOrNew c.args.self.now.text (checkpointed t.body) (standing a b)))
    c.in_ok-draft.ensures.made (c.write_draft.ensures.any_moment is_open)

pub returns-in_err-draft-clause-next : goal.returns-in_err-draft-clause-next
returns-in_err-draft-clause-next g c is_open =
    let d = g.D.Disk in let j = c.self.inside in
    still_there d.seen d.may_leave d.moment d.left_since j.disks j.limit j.is_failed c.args.self.now (checkpointed c.args.body.now) c.self.view_is
    (c.self.invariant (ap (λ (v : State _). v.is_failed) c.self.view_is ∙ is_open)) g.met.D.Disk.only_now

pub returns-clause-next : goal.returns-clause-next
returns-clause-next g c is_open =
    let d = g.D.Disk in
    subst (λ (t : Drafted). LeavesPairs d.moment d.left_since c.args.self.now.first c.args.self.now.second c.write_draft.new.self.first c.write_draft.new.self.second (IsStillOrNext c.args.self.now.text c.args.self.now.generation (checkpointed t.body)))
    c.in_ok-draft.ensures.made (c.write_draft.ensures.next is_open)

pub returns-clause-judged : goal.returns-clause-judged
returns-clause-judged g c =
    let is : c.draft.result ≡ Ok c.in_ok-draft.draft = search rules in
    ok_judged _ _ _ _ c.draft.ensures.judged is

pub returns-clause-made : goal.returns-clause-made
returns-clause-made g c = subst (λ (t : Drafted). OnOk c.write_draft.result (MakesCheckpoint c.args.self.now t.body c.write_draft.new.self)) c.in_ok-draft.ensures.made c.write_draft.ensures.made

pub returns-clause-stands : goal.returns-clause-stands
returns-clause-stands g c = c.write_draft.ensures.stands

pub returns-clause-quiet : goal.returns-clause-quiet
returns-clause-quiet g c = c.write_draft.ensures.quiet

pub returns-clause-either : goal.returns-clause-either
returns-clause-either g c =
    subst (λ (t : Drafted). IsOldOrNew c.args.self.now.text (checkpointed t.body) c.write_draft.new.self.text) c.in_ok-draft.ensures.made c.write_draft.ensures.either

pub returns-clause-counting : goal.returns-clause-counting
returns-clause-counting g c = c.write_draft.ensures.counting
