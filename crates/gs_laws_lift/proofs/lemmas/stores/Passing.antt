-- A full chunk that is passed has no edit of the request.
use Rattle.std.proofs.Common.{◌≡◌, ◌∙◌, ◌+◌, ◌-◌, ◌<◌, ◌≤◌, ◌++◌, inl, inr, ℕ, zero, suc, true, cond, List, [], ◌∷◌, length, take, None, Option, Some, sym, ap, subst, slice_get, arith}
use Rattle.std.specs.Prelude.{◌==◌, replicate}
use Rattle.std.proofs.lemmas.Bool.{cases_lt, true≢false}
use Rattle.std.proofs.lemmas.Bool.Decides.{nat_tests}
use Rattle.std.proofs.lemmas.List.{length-append}
use Rattle.std.proofs.Math.Seq.{take-append-add}
use Rattle.gs_base.specs.declared.config.Config.{Config}
use Rattle.gs_base.specs.declared.numbers.ReqId.{ReqId}
use Rattle.gs_base.specs.declared.numbers.Stamp.{Stamp}
use Rattle.gs_block.proofs.Writing.{length-written}
use Rattle.gs_replica.specs.Copies.{Image}
use Rattle.gs_replica.specs.declared.op.Op.{Op as Applied}
use Rattle.gs_replica.specs.declared.op.Op.TheVariants.{Append, Pad, Write}
use Rattle.gs_replica.specs.Stands.{Edit, after, edited_bytes, replica_of, with_edit}
use Rattle.gs_replica.proofs.Requests.{more_edits}
use Rattle.gs_msg.specs.declared.event.Request.{Request}
use Rattle.gs_msg.specs.declared.event.Request.TheVariants as requests
use Rattle.gs_msg.specs.declared.op.Op.{Op}
use Rattle.gs_server_lease.specs.Numbering.{is_passed}
use Rattle.gs_laws_chunk.proofs.lemmas.machine.Lists.{take_at, take_from}
use Rattle.gs_laws_parts.specs.server.Answering.{IsPassed}
use Rattle.gs_laws_parts.specs.server.Requests.{Asked, named}
use Rattle.gs_laws_parts.proofs.lemmas.server.Stamps.{stamp_number}
use Rattle.gs_laws_lift.specs.stores.Numbered.{StandsFirst, asked_under, stamp_in}
use Rattle.gs_laws_lift.specs.stores.Owning.{IsAskedEdit}
use Rattle.gs_laws_lift.specs.stores.Passing.{PassedHasNone}
use Rattle.gs_laws_lift.specs.stores.Showing.{setting}

-- ---- no edit makes a text shorter

edited_longer : (size : ℕ) (op : Applied) (piece bytes : List ℕ) → length bytes ≤ length (edited_bytes size op piece bytes)
edited_longer size (Write offset) piece bytes = let long = length-written offset piece bytes in omega arith
edited_longer size Append piece bytes = let long = length-append bytes piece in omega arith
edited_longer size Pad piece bytes = let long = length-append bytes (replicate (size - length bytes) 0) in omega arith

after_longer : (size : ℕ) (i : Image) (edits : List Edit) → length i.bytes ≤ length (after size i edits).bytes
after_longer size i [] = omega arith
after_longer size i (e ∷ edits) = let first = edited_longer size e.op e.bytes i.bytes in let rest = after_longer size (with_edit size i e) edits in omega arith

more_longer : (size : ℕ) (xs ys : List Edit) → length (replica_of size xs).bytes ≤ length (replica_of size (xs ++ ys)).bytes
more_longer size xs ys = subst (λ (i : Image). length (replica_of size xs).bytes ≤ length i.bytes) (sym (more_edits size xs ys)) (after_longer size (replica_of size xs) ys)

-- ---- lists

-- what stands behind a beginning has it before it
begins_before : (xs before behind : List Edit) (place : ℕ) → xs ≡ before ++ behind → length before ≤ place → take place xs ≡ before ++ take (place - length before) behind
begins_before xs before behind place is past =
    let whole : place ≡ length before + (place - length before) = omega arith in
    ap (take place) is ∙ ap (λ n. take n (before ++ behind)) whole ∙ take-append-add before behind (place - length before)

-- what stands within it stands in it
within_before : (xs before behind : List Edit) (place : ℕ) (edit : Edit) → xs ≡ before ++ behind → place < length before → slice_get xs place ≡ Some edit → slice_get before place ≡ Some edit
within_before xs before behind place edit is within at = in_first before behind place edit within (subst (λ ys. slice_get ys place ≡ Some edit) is at)
  where
    in_first : (ys zs : List Edit) (n : ℕ) (e : Edit) → n < length ys → slice_get (ys ++ zs) n ≡ Some e → slice_get ys n ≡ Some e
    in_first [] zs n e less at = absurd (omega arith)
    in_first (y ∷ ys) zs zero e less at = at
    in_first (y ∷ ys) zs (suc n) e less at = in_first ys zs n e (omega arith) at

-- ---- requests

same_op : (a b : Option Request) (handle other : ℕ) (members more : List ℕ) (primary second : ℕ) (stamp under : Stamp) (op asks : Op) (bytes also : List ℕ) → a ≡ Some (requests.Write handle members primary stamp op bytes) → b ≡ Some (requests.Write other more second under asks also) → a ≡ b → op ≡ asks
same_op a b handle other members more primary second stamp under op asks bytes also first then same = cc

same_number : (n : ℕ) → (n == n) ≡ true
same_number n = grind (arith, nat_tests)

module _ {D : Type 0} (seen : D → List ℕ) (config : Config) (bytes : ReqId → List ℕ) (asked : ℕ → Asked) where
  pub passed_has_none : PassedHasNone seen config bytes asked
  passed_has_none born chunk sent w req outcome told has t place edit at is = elim (cases_lt place (length p.before)) [
    | inl within ↦ p.fresh place edit (within_before (w.known.list p.stamp) p.before p.behind place edit p.stands within at_stamp) is
    | inr behind ↦ true≢false (sym p.passed ∙ ap (λ n. is_passed config.chunk n has.op) (sym (full behind)) ∙ ap (is_passed config.chunk (length (replica_of config.chunk (take place (w.known.list p.stamp))).bytes)) (sym op_is) ∙ own.numbered.fits)
  ]
    where
      p : IsPassed (setting config bytes born) w has.under req has.op outcome
      p = has.passed

      under : asked_under asked chunk edit.req ≡ Some has.under
      under = ap (asked_under asked chunk) is ∙ ap (stamp_in chunk) has.asks ∙ ap (λ b. cond b (Some has.under) None) (same_number chunk)

      f : StandsFirst w.known t place has.under
      f = told.first t place edit has.under at under

      number : f.number ≡ p.stamp
      number = stamp_number f.number p.stamp (sym f.is ∙ p.under_is)

      at_stamp : slice_get (w.known.list p.stamp) place ≡ Some edit
      at_stamp = subst (λ n. slice_get (w.known.list n) place ≡ Some edit) number
          (take_from (w.known.list f.number) (place + 1) place edit (subst (λ xs. slice_get xs place ≡ Some edit) (sym f.same) (take_at (w.known.list t) (place + 1) place edit (omega arith) at)))

      own : IsAskedEdit bytes asked config.chunk (take place (w.known.list p.stamp)) edit
      own = told.own p.stamp place edit at_stamp

      op_is : own.op ≡ has.op
      op_is = same_op (named asked edit.req) (named asked req) own.handle chunk own.members has.members own.primary has.primary own.stamp has.under own.op has.op _ has.bytes own.asks has.asks (ap (named asked) is)

      full : length p.before ≤ place → length (replica_of config.chunk (take place (w.known.list p.stamp))).bytes ≡ config.chunk
      full behind =
          let begins = begins_before (w.known.list p.stamp) p.before p.behind place p.stands behind in
          let more : length (replica_of config.chunk p.before).bytes ≤ length (replica_of config.chunk (take place (w.known.list p.stamp))).bytes =
          subst (λ xs. length (replica_of config.chunk p.before).bytes ≤ length (replica_of config.chunk xs).bytes) (sym begins) (more_longer config.chunk p.before (take (place - length p.before) p.behind)) in
          let filled = p.full in
          let within = own.within in
          omega arith
