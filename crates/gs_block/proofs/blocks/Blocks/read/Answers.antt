use Rattle.std.proofs.Common.{◌≡◌, ◌+◌, ◌-◌, ◌≤◌, ◌<◌, ℕ, List, length, take, drop, subst, sym, ap, ◌∙◌, min, arith, Bor}
use Rattle.std.specs.Prelude.{Some, None, Ok, Err}
use Rattle.gs_base.specs.declared.refusal.Refusal.TheVariants.{Damaged}
use Rattle.gs_block.specs.Stored.{Stored}
use Rattle.gs_block.specs.Edits.{damaged_between, read}
use Rattle.gs_base.specs.Calls.{Answers}
use Rattle.gs_block.proofs.Following.{read_refused, read_given, asked_part}
use Rattle.gs_block.proofs.blocks.Blocks.read.Goals as goal

pub returns-in-Some : goal.returns-in-Some
returns-in-Some c =
    let offset = c.args.offset in
    let many = c.args.many in
    let block = c.self.inside.block in
    let bytes = c.self.inside.bytes.items in
    let digests = c.self.inside.digests.items in
    let s : Stored = record { block = block; chunk = c.self.inside.chunk; bytes = bytes; digests = digests } in
    let end = min (offset + many) (length bytes) in
    let chunk_fits = c.self.invariant.chunk_fits in
    let sum = c.saturating_add.ensures in
    let low = c.if-saturating_add-self.false in
    let inside : offset + many ≤ s.chunk = omega arith in
    let end_is : c.min-end.result ≡ end = c.min-end.ensures ∙ ap (min (offset + many)) (c.len.ensures ∙ c.self.inside.bytes.ok.0) in
    let some : offset < end = subst (λ n. offset < n) end_is c.if-end-start.false in
    let f : damaged_between s offset end ≡ Some c.in-Some.block =
    ap (λ n. damaged_between s offset n) (sym end_is) ∙ ap (λ (t : Stored). damaged_between t offset c.min-end.result) c.self.view_is ∙ sym c.damaged_between.ensures ∙ c.in-Some.is in
    subst (λ (t : Stored). Answers {A = List ℕ} {B = Bor (List ℕ)} (λ part. part.now) (read t offset many) (Err (Damaged c.in-Some.block))) c.self.view_is
    (read_refused (Bor (List ℕ)) (λ part. part.now) s offset many c.in-Some.block inside some f)

pub returns-in-None : goal.returns-in-None
returns-in-None c =
    let offset = c.args.offset in
    let many = c.args.many in
    let block = c.self.inside.block in
    let bytes = c.self.inside.bytes.items in
    let digests = c.self.inside.digests.items in
    let s : Stored = record { block = block; chunk = c.self.inside.chunk; bytes = bytes; digests = digests } in
    let end = min (offset + many) (length bytes) in
    let chunk_fits = c.self.invariant.chunk_fits in
    let sum = c.saturating_add.ensures in
    let low = c.if-saturating_add-self.false in
    let inside : offset + many ≤ s.chunk = omega arith in
    let end_is : c.min-end.result ≡ end = c.min-end.ensures ∙ ap (min (offset + many)) (c.len.ensures ∙ c.self.inside.bytes.ok.0) in
    let some : offset < end = subst (λ n. offset < n) end_is c.if-end-start.false in
    let f : damaged_between s offset end ≡ None =
    ap (λ n. damaged_between s offset n) (sym end_is) ∙ ap (λ (t : Stored). damaged_between t offset c.min-end.result) c.self.view_is ∙ sym c.damaged_between.ensures ∙ c.in-None.is in
    subst (λ (t : Stored). Answers {A = List ℕ} {B = Bor (List ℕ)} (λ part. part.now) (read t offset many) (Ok c.part_of.result)) c.self.view_is
    (read_given (Bor (List ℕ)) (λ part. part.now) s offset many c.part_of.result inside some f
    (c.part_of.ensures ∙ ap (λ n. take (n - offset) (drop offset c.deref-in-None.result.now)) end_is ∙ ap (λ (xs : List ℕ). take (end - offset) (drop offset xs)) c.deref-in-None.ensures.value ∙ asked_part offset many bytes some))
