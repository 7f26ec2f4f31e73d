-- The numbers of a client's requests.
use Rattle.std.specs.Prelude.{◌≡◌, ◌<◌, ◌+◌, Result, Ok, Err}
use Rattle.gs_base.specs.Numbers.{last_number}
use Rattle.gs_base.specs.declared.numbers.ReqId.{ReqId}
use Rattle.gs_base.specs.declared.refusal.Refusal.{Refusal}
use Rattle.gs_base.specs.declared.refusal.Refusal.TheVariants as refusals

-- the request of the same client under the next number
abbrev pub after : ReqId → ReqId
after last = record last { number = last.number + 1 }

-- The next number is taken and is the last one then; behind the last number of all there is none.
abbrev pub Takes : ReqId → Result ReqId Refusal → ReqId → Type 0
Takes old (Ok req) new = (old.number < last_number) × (req ≡ after old) × (new ≡ after old)
Takes old (Err refusal) new = (old.number ≡ last_number) × (refusal ≡ refusals.Exhausted) × (new ≡ old)
