use Rattle.std.proofs.Common.{◌++◌, ◌^◌, ◌<◌}
use Rattle.byteorder.specs.Endian.{big_bytes}
use Rattle.gs_master_record.proofs.Codes.{puts_two}
use Rattle.gs_master_record.specs.Encoding.{number, path}
use Rattle.gs_master_record.specs.Writable.{IsHandle, IsPath}
use Rattle.gs_master_record.proofs.edits.put_fields.Goals as goal

pub returns-in_ok-put-in-Cow-3 : goal.returns-in_ok-put-in-Cow-3
returns-in_ok-put-in-Cow-3 c =
    let p = c.in-Cow.path in let index = c.in-Ok.index in let old = c.in-Cow.old in let new = c.in-Cow.new in let r = c.put-in-Cow-4.result in let out = c.put-in-Cow-4.new.out.items in
    rw (c.in-Cow.is, ← c.in-Ok.ensures.1)
    (puts_two (IsPath p) ((index < 2 ^ 32) × (IsHandle old × IsHandle new)) (path p) (big_bytes 4 index ++ (number old ++ number new)) _ _ out r c.in_ok-put-in-Cow.ensures
    (puts_two (index < 2 ^ 32) (IsHandle old × IsHandle new) (big_bytes 4 index) (number old ++ number new) _ _ out r c.in_ok-put-in-Cow-2.ensures
    (puts_two (IsHandle old) (IsHandle new) (number old) (number new) _ _ out r c.in_ok-put-in-Cow-3.ensures c.put-in-Cow-4.ensures)))
