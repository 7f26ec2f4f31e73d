use Rattle.std.proofs.Common.{◌≡◌, Some, [], sym, subst, ap, ◌∙◌, append-nil, arith, drop, drop_of_length-le, length, take}
use Rattle.std.proofs.Math.Seq.{take-length}
use Rattle.gs_keep_log.specs.Log.{Held, whole}
use Rattle.gs_keep_log.specs.Memory.{held}
use Rattle.gs_keep.specs.Keeping.{ReadsLog}
use Rattle.gs_keep_tests.proofs.crashes.kept_on.Goals as goal

pub keep_on-requires-clause-logged : goal.keep_on-requires-clause-logged
keep_on-requires-clause-logged c =
    let logged = c.args.logged.now in
    let n = length logged in
    let bytes = c.in_ok-from_slice.field-0.items in
    let same : take n (whole (held c.new-log.result)) ≡ logged =
    ap (λ (h : Held). take n (whole h)) c.new-log.ensures.held ∙ ap (take n) (append-nil bytes) ∙ ap (take n) c.in_ok-from_slice.ensures.items ∙ take-length logged in
    subst (ReadsLog [] n (Some (held c.new-log.result))) (sym c.new-lines.ensures.remaining) same

pub keep_on-requires-clause-rest : goal.keep_on-requires-clause-rest
keep_on-requires-clause-rest c =
    let logged = c.args.logged.now in
    let n = length logged in
    let bytes = c.in_ok-from_slice.field-0.items in
    let same : drop n (whole (held c.new-log.result)) ≡ [] =
    ap (λ (h : Held). drop n (whole h)) c.new-log.ensures.held ∙ ap (drop n) (append-nil bytes) ∙ ap (drop n) c.in_ok-from_slice.ensures.items ∙ drop_of_length-le logged (omega arith) in
    same
