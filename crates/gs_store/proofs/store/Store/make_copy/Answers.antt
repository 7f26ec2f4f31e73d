use Rattle.std.proofs.Common.{refl}
use Rattle.gs_store.specs.Stores.{slot_of}
use Rattle.gs_store.proofs.Copied.{made_already, made_of, wanted_for}
use Rattle.gs_store.proofs.store.Store.make_copy.Goals as goal

pub returns-in-Ok-None-clause-edit : goal.returns-in-Ok-None-clause-edit
returns-in-Ok-None-clause-edit c = made_already c.args.at c.args.stamp c.args.self.now c.args.handle c.args.new_handle _ _ refl refl (rw c.in-Ok-None.field-0-is at c.in-Ok-None.ensures.prepares)

pub returns-clause-edit : goal.returns-clause-edit
returns-clause-edit c =
    made_of c.args.at c.args.stamp c.args.self.now c.args.handle c.args.new_handle _ _ refl refl c.in-Ok-Some.copy _ _ _ (rw c.in-Ok-Some.field-0-is at c.in-Ok-Some.ensures.prepares) c.put_copy.ensures

pub returns-clause-lacking : goal.returns-clause-lacking
returns-clause-lacking c =
    wanted_for c.args.at c.args.stamp c.args.self.now c.args.new_handle (slot_of c.args.handle c.args.self.now) (slot_of c.args.new_handle c.args.self.now) c.in-Ok-Some.copy c.put_copy.result refl
    (rw c.in-Ok-Some.field-0-is at c.in-Ok-Some.ensures.made)
