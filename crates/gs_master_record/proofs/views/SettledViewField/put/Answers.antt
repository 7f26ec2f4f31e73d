use Rattle.std.proofs.Common.{◌++◌}
use Rattle.gs_base.specs.Told.{IsNumber}
use Rattle.gs_master_record.proofs.Codes.{puts_two}
use Rattle.gs_master_record.specs.Encoding.{number, members, term}
use Rattle.gs_master_record.specs.Writable.{IsHandle, AreServers, IsTerm}
use Rattle.gs_master_record.proofs.views.SettledViewField.put.Goals as goal

pub returns : goal.returns
returns c =
    let v = c.args.self.now.view in let r = c.put-6.result in let new = c.put-6.new.out.items in
    puts_two (IsHandle c.args.self.now.handle) _ (number c.args.self.now.handle) (number v.stamp.epoch ++ (number v.stamp.version ++ (number v.count ++ (members v.members ++ term v.term)))) _ _ new r c.in_ok-put.ensures
    (puts_two (IsNumber v.stamp.epoch) _ (number v.stamp.epoch) (number v.stamp.version ++ (number v.count ++ (members v.members ++ term v.term))) _ _ new r c.in_ok-put-2.ensures
    (puts_two (IsNumber v.stamp.version) _ (number v.stamp.version) (number v.count ++ (members v.members ++ term v.term)) _ _ new r c.in_ok-put-3.ensures
    (puts_two (IsNumber v.count) _ (number v.count) (members v.members ++ term v.term) _ _ new r c.in_ok-put-4.ensures
    (puts_two (AreServers v.members) (IsTerm v.term) (members v.members) (term v.term) _ _ new r c.in_ok-put-5.ensures c.put-6.ensures))))
