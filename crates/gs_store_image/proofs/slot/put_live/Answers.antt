use Rattle.std.proofs.Common.{◌≡◌, ℕ, ◌++◌, Option, subst}
use Rattle.gs_base.specs.Told.{IsNumber}
use Rattle.gs_fields.specs.Encoding.{number, option}
use Rattle.gs_fields.specs.Work.{Puts}
use Rattle.gs_fields.specs.Writable.{IsOption}
use Rattle.gs_fields.proofs.Steps.{puts_two}
use Rattle.gs_replica.specs.Seals.{State}
use Rattle.gs_store_image.specs.Encoding.{replica}
use Rattle.gs_store_image.specs.Writable.{IsTold}
use Rattle.gs_store_image.proofs.slot.put_live.Goals as goal

pub returns : goal.returns
returns c =
    let l = c.args.live.now in
    puts_two (IsTold l.replica) (IsOption IsNumber l.bad) (replica l.replica) (option number l.bad) c.args.out.now.items c.put_replica.new.out.items c.put_bad.new.out.items c.put_bad.result
    (subst (λ (r : State). IsTold r × (c.put_replica.new.out.items ≡ c.args.out.now.items ++ replica r)) c.replica.ensures c.in_ok-put_replica.ensures)
    (subst (λ (b : Option ℕ). Puts (IsOption IsNumber b) (option number b) c.put_replica.new.out.items c.put_bad.new.out.items c.put_bad.result) c.bad.ensures c.put_bad.ensures)
