use Rattle.std.proofs.Common.{◌≡◌, ℕ, ◌++◌, subst}
use Rattle.gs_base.specs.Told.{IsNumber}
use Rattle.gs_fields.specs.Encoding.{number}
use Rattle.gs_fields.proofs.Steps.{puts_two}
use Rattle.gs_store_image.specs.Encoding.{taken_back}
use Rattle.gs_store_image.specs.Writable.{IsTakenBack}
use Rattle.gs_store_image.proofs.seal.put_seal_counted.Goals as goal

pub returns : goal.returns
returns c =
    let s = c.args.seal.now in
    puts_two (IsNumber s.count) (IsTakenBack s) (number s.count) (taken_back s) c.args.out.now.items c.put.new.out.items c.put_taken_back.new.out.items c.put_taken_back.result
    (subst (λ (n : ℕ). IsNumber n × (c.put.new.out.items ≡ c.args.out.now.items ++ number n)) c.count.ensures c.in_ok-put.ensures) c.put_taken_back.ensures
