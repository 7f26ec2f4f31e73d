use Rattle.std.proofs.Common.{◌++◌, ◌^◌, ◌<◌, subst}
use Rattle.byteorder.specs.Endian.{big_bytes}
use Rattle.gs_base.specs.Told.{IsNumber}
use Rattle.gs_master_record.proofs.Codes.{puts_two}
use Rattle.gs_master_record.specs.Encoding.{number, request, edit, refusal, list, answered}
use Rattle.gs_master_record.specs.Plain.{plain_edit}
use Rattle.gs_master_record.specs.Writable.{IsHandle, IsRequest, IsEdit, IsWritable, AreItems, IsAnswered}
use Rattle.gs_master_record.specs.inner.Work.{Puts}
use Rattle.gs_master_record.proofs.encode.put_fields.Goals as goal

pub returns-in_ok-put-in-Edit : goal.returns-in_ok-put-in-Edit
returns-in_ok-put-in-Edit c =
    rw c.in-Edit.is (puts_two (IsRequest c.in-Edit.by) (IsEdit (plain_edit c.in-Edit.edit)) (request c.in-Edit.by) (edit (plain_edit c.in-Edit.edit)) _ _ _ c.put-in-Edit.result c.in_ok-put-in-Edit.ensures c.put-in-Edit.ensures)

pub returns-in_ok-put-in-Said : goal.returns-in_ok-put-in-Said
returns-in_ok-put-in-Said c =
    rw c.in-Said.is (puts_two (IsRequest c.in-Said.to) (IsWritable c.in-Said.refusal) (request c.in-Said.to) (refusal c.in-Said.refusal) _ _ _ c.put-in-Said-2.result c.in_ok-put-in-Said.ensures c.put-in-Said-2.ensures)

pub returns-in_ok-put-in-Propose : goal.returns-in_ok-put-in-Propose
returns-in_ok-put-in-Propose c =
    rw c.in-Propose.is (puts_two (IsHandle c.in-Propose.handle) (IsNumber c.in-Propose.version) (number c.in-Propose.handle) (number c.in-Propose.version) _ _ _ c.put-in-Propose-2.result c.in_ok-put-in-Propose.ensures c.put-in-Propose-2.ensures)

pub returns-in_ok-put-in-Prepare-2 : goal.returns-in_ok-put-in-Prepare-2
returns-in_ok-put-in-Prepare-2 c =
    let moment = c.in-Prepare.moment.0 in let chunks = c.in-Prepare.chunks in
    rw c.in-Prepare.is
    (puts_two (IsNumber c.in-Prepare.epoch) (IsNumber moment × (chunks < 2 ^ 32)) (number c.in-Prepare.epoch) (number moment ++ big_bytes 4 chunks) _ _ _ c.put-in-Prepare-3.result c.in_ok-put-in-Prepare.ensures
    (puts_two (IsNumber moment) (chunks < 2 ^ 32) (number moment) (big_bytes 4 chunks) _ _ _ c.put-in-Prepare-3.result c.in_ok-put-in-Prepare-2.ensures c.put-in-Prepare-3.ensures))

pub returns-in_ok-put-in-RollbackCommit : goal.returns-in_ok-put-in-RollbackCommit
returns-in_ok-put-in-RollbackCommit c =
    rw c.in-RollbackCommit.is (puts_two (IsNumber c.in-RollbackCommit.epoch) (AreItems IsAnswered c.in-RollbackCommit.answered.items) (number c.in-RollbackCommit.epoch) (list answered c.in-RollbackCommit.answered.items) _ _ _ c.put_answered.result c.in_ok-put-in-RollbackCommit.ensures
    (subst (λ xs. Puts (AreItems IsAnswered xs) (list answered xs) c.put-in-RollbackCommit.new.out.items c.put_answered.new.out.items c.put_answered.result) c.deref.ensures.value c.put_answered.ensures))
