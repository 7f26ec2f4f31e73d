-- All calls of a client.
use Rattle.std.proofs.Common.{refl}
use Rattle.gs_msg.specs.declared.call.Call.TheVariants as calls
use Rattle.gs_msg.specs.declared.event.Request.{Request}
use Rattle.gs_client.specs.declared.link.Reply.{Reply}
use Rattle.gs_client.specs.Replies.{copied_in, deleted_in, epoch_in, names_in, nothing_in, path_in, phase_in, scanned_in, status_in}
use Rattle.gs_client.specs.Trees.{Call}
use Rattle.gs_laws_causes.specs.Calls.{OfEachCall}
use Rattle.gs_laws_causes.specs.Carried.{Explains}
use Rattle.gs_laws_causes.proofs.Carrying.{explains}
use Rattle.gs_laws_causes.proofs.Reading.{digest_has, open_has, read_has, stat_has}
use Rattle.gs_laws_causes.proofs.Replies.{change_has, look_has, reads_copied, reads_deleted, reads_epoch, reads_names, reads_nothing, reads_path, reads_phase, reads_scanned, reads_status}
use Rattle.gs_laws_causes.proofs.Writing.{append_has, write_has}

pub each_call : {S : Type 0} (carries : S → Request → Reply → S → Type 0) → OfEachCall (Explains carries)
each_call carries = record {
  mkdirs = λ path. explains carries _ (λ e either. change_has (calls.Mkdirs path) nothing_in refl reads_nothing);
  create = λ path. explains carries _ (λ e either. change_has (calls.Create path) nothing_in refl reads_nothing);
  rename = λ from to. explains carries _ (λ e either. change_has (calls.Rename from to) nothing_in refl reads_nothing);
  delete = λ path recursive. explains carries _ (λ e either. change_has (calls.Delete path recursive) deleted_in refl reads_deleted);
  undelete = λ path. explains carries _ (λ e either. change_has (calls.Undelete path) path_in refl reads_path);
  snapshot = λ from to. explains carries _ (λ e either. change_has (calls.Snapshot from to) nothing_in refl reads_nothing);
  list = λ path. explains carries _ (λ e either. look_has (calls.List path) names_in refl reads_names);
  status = λ path. explains carries _ (λ e either. look_has (calls.Status path) status_in refl reads_status);
  scan = explains carries _ (λ e either. change_has calls.Scan scanned_in refl reads_scanned);
  replicate = explains carries _ (λ e either. change_has calls.Replicate copied_in refl reads_copied);
  query = explains carries _ (λ e either. look_has calls.Query phase_in refl reads_phase);
  prepare_begin = explains carries _ (λ e either. change_has calls.PrepareBegin epoch_in refl reads_epoch);
  prepare_commit = explains carries _ (λ e either. change_has calls.PrepareCommit epoch_in refl reads_epoch);
  prepare_abort = explains carries _ (λ e either. change_has calls.PrepareAbort epoch_in refl reads_epoch);
  finalize = explains carries _ (λ e either. change_has calls.Finalize epoch_in refl reads_epoch);
  rollback_begin = explains carries _ (λ e either. change_has calls.RollbackBegin epoch_in refl reads_epoch);
  rollback_commit = explains carries _ (λ e either. change_has calls.RollbackCommit epoch_in refl reads_epoch);
  open_file = λ path. explains carries _ (λ e either. open_has path);
  stat = λ size path. explains carries _ (λ e either. stat_has size path);
  read = λ size path opened located offset many. explains carries _ (λ e either. read_has size path opened located offset many);
  digest = λ path opened located index block. explains carries _ (λ e either. digest_has path opened located index block);
  write = λ size path opened offset bytes. explains carries _ (λ e either. write_has size path opened offset bytes);
  append = λ size path opened bytes. explains carries _ (λ e either. append_has size path opened bytes);
}

-- what follows of any call does of each of them
pub each_follows : (P Q : (A : Type 0) → Call A → Type 0) → ((A : Type 0) (call : Call A) → P A call → Q A call) → OfEachCall P → OfEachCall Q
each_follows P Q follows each = record {
  mkdirs = λ path. follows _ _ (each.mkdirs path);
  create = λ path. follows _ _ (each.create path);
  rename = λ from to. follows _ _ (each.rename from to);
  delete = λ path recursive. follows _ _ (each.delete path recursive);
  undelete = λ path. follows _ _ (each.undelete path);
  snapshot = λ from to. follows _ _ (each.snapshot from to);
  list = λ path. follows _ _ (each.list path);
  status = λ path. follows _ _ (each.status path);
  scan = follows _ _ each.scan;
  replicate = follows _ _ each.replicate;
  query = follows _ _ each.query;
  prepare_begin = follows _ _ each.prepare_begin;
  prepare_commit = follows _ _ each.prepare_commit;
  prepare_abort = follows _ _ each.prepare_abort;
  finalize = follows _ _ each.finalize;
  rollback_begin = follows _ _ each.rollback_begin;
  rollback_commit = follows _ _ each.rollback_commit;
  open_file = λ path. follows _ _ (each.open_file path);
  stat = λ size path. follows _ _ (each.stat size path);
  read = λ size path opened located offset many. follows _ _ (each.read size path opened located offset many);
  digest = λ path opened located index block. follows _ _ (each.digest path opened located index block);
  write = λ size path opened offset bytes. follows _ _ (each.write size path opened offset bytes);
  append = λ size path opened bytes. follows _ _ (each.append size path opened bytes);
}
