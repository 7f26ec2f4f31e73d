use Rattle.std.proofs.Common.{Option, subst}
use Rattle.gs_base.specs.declared.numbers.Stamp.{Stamp}
use Rattle.gs_fields.specs.Encoding.{option, stamp}
use Rattle.gs_fields.specs.Work.{Puts}
use Rattle.gs_fields.specs.Writable.{IsOption, IsStamp}
use Rattle.gs_fields.proofs.Steps.{puts_two}
use Rattle.gs_store_image.specs.Encoding.{replica}
use Rattle.gs_store_image.specs.Writable.{IsTold}
use Rattle.gs_store_image.proofs.slot.put_slot_rest.Goals as goal

pub returns : goal.returns
returns c =
    let s = c.args.slot.now in
    puts_two (IsOption IsTold s.trash) (IsOption IsStamp s.taken) (option replica s.trash) (option stamp s.taken) c.args.out.now.items c.put_trash_of.new.out.items c.put_taken.new.out.items c.put_taken.result
    c.in_ok-put_trash_of.ensures
    (subst (λ (t : Option Stamp). Puts (IsOption IsStamp t) (option stamp t) c.put_trash_of.new.out.items c.put_taken.new.out.items c.put_taken.result) c.taken.ensures c.put_taken.ensures)
