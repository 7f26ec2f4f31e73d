-- What the proposals of several views take of the journal.
use Rattle.std.proofs.Common.{◌≡◌, ◌∙◌, ℕ, ◌+◌, ◌*◌, Bool, true, false, List, [], ◌∷◌, length, Option, None, refl, ap, arith}
use Rattle.std.proofs.lemmas.List.Sums.{sum_by-cons}
use Rattle.std.specs.Prelude.{nat_le, if◌then◌else◌}
use Rattle.gs_base.specs.declared.numbers.ReqId.{ReqId}
use Rattle.gs_lease.specs.declared.view.Purpose.{Purpose}
use Rattle.gs_lease.specs.declared.view.Purpose.TheVariants as purposes
use Rattle.gs_master_record.specs.Plain.{Propose}
use Rattle.gs_master_spec.specs.Beginning.{all_begun, begun, has_versions}
use Rattle.gs_master_spec.specs.Hearing.{made_quiet}
use Rattle.gs_master_spec.specs.State.{State, Turn, fits, size_of, size_of_all, unmoved}

proposal_size : (chunk version : ℕ) → size_of (Propose chunk version) ≡ 22
proposal_size chunk version = refl

-- each takes as much, whatever stands
pub proposals_size : (s : State) (many : List ℕ) (purpose : Purpose) (call : Option ReqId) → size_of_all (all_begun s many purpose call).records ≡ length many * 22
proposals_size s [] purpose call = refl
proposals_size s (chunk ∷ chunks) purpose call =
    let next = (begun s chunk purpose call).after in
    let more = proposals_size next chunks purpose call in
    let first = sum_by-cons size_of (Propose chunk s.durable.next_version) (all_begun next chunks purpose call).records in
    first ∙ ap (λ n. 22 + n) more ∙ (let e : 22 + length chunks * 22 ≡ length (chunk ∷ chunks) * 22 = omega arith in e)

pub proposals_fit : (s : State) (many : List ℕ) (purpose : Purpose) (call : Option ReqId) → fits s.log (all_begun s many purpose call).records ≡ nat_le (s.log.size + length many * 22) s.log.limit
proposals_fit s many purpose call = ap (λ n. nat_le (s.log.size + n) s.log.limit) (proposals_size s many purpose call)

both_true : (a b : Bool) (t other : Turn) → a ≡ true → b ≡ true → (if a then (if b then t else other) else other) ≡ t
both_true a b t other h k = ap (λ x. if x then (if b then t else other) else other) h ∙ ap (λ x. if x then t else other) k

one_false : (a b : Bool) (t other : Turn) → b ≡ false → (if a then (if b then t else other) else other) ≡ other
one_false true b t other k = ap (λ x. if x then t else other) k
one_false false b t other k = refl

-- where versions are left, and room
pub quiet_with_room : (s : State) (many : List ℕ) → has_versions s.durable (length many) ≡ true → nat_le (s.log.size + length many * 22) s.log.limit ≡ true → made_quiet many s ≡ all_begun s many purposes.Quiet None
quiet_with_room s many left room = both_true (has_versions s.durable (length many)) (fits s.log (all_begun s many purposes.Quiet None).records) (all_begun s many purposes.Quiet None) (unmoved s) left (proposals_fit s many purposes.Quiet None ∙ room)

pub quiet_without_room : (s : State) (many : List ℕ) → nat_le (s.log.size + length many * 22) s.log.limit ≡ false → made_quiet many s ≡ unmoved s
quiet_without_room s many room = one_false (has_versions s.durable (length many)) (fits s.log (all_begun s many purposes.Quiet None).records) (all_begun s many purposes.Quiet None) (unmoved s) (proposals_fit s many purposes.Quiet None ∙ room)
