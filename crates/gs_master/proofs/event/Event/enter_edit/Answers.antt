use Rattle.std.proofs.Common.{◌≢◌, inl, inr, ap, refl, subst, sym}
use Rattle.gs_base.specs.declared.refusal.Refusal.TheVariants as refusals
use Rattle.gs_master_record.specs.Plain.{Edited, plain_edit}
use Rattle.gs_master_record.specs.declared.entry.Entry.{Entry}
use Rattle.gs_master.specs.inner.Events.{CantEnter, EntersEdit, IsAsBefore, WhyNot}
use Rattle.gs_master.specs.declared.event.Event.{Event}
use Rattle.gs_master.proofs.Leading.{Enter, entered_keeps, is_entered, unmade_keeps}
use Rattle.gs_master.proofs.event.Event.enter_edit.Goals as goal

-- ---- it isn't entered

handed : (c : goal.After-handed_back) → c.in-Err.why ≢ refusals.Memory → CantEnter (Edited c.args.by (plain_edit c.args.edit)) c.args.self.now → IsAsBefore c.args.self.now c.make.new.self →
    EntersEdit c.args.by c.args.edit c.args.self.now c.handed_back.result c.make.new.self
handed c differs cant same =
    subst (λ r. EntersEdit c.args.by c.args.edit c.args.self.now r c.make.new.self) (sym (c.handed_back.ensures.edit c.args.by c.args.edit differs refl)) (refl, cant, same)

by_why : (c : goal.After-handed_back) → WhyNot (Edited c.args.by (plain_edit c.args.edit)) c.args.self.now c.in-Err.why → IsAsBefore c.args.self.now c.make.new.self →
    EntersEdit c.args.by c.args.edit c.args.self.now c.handed_back.result c.make.new.self
by_why c (inl memory) same = subst (λ r. EntersEdit c.args.by c.args.edit c.args.self.now r c.make.new.self) (sym (c.handed_back.ensures.memory memory)) refl
by_why c (inr (inl (full, none))) same = handed c (λ memory. absurd (cc (full, memory))) (inl none) same
by_why c (inr (inr (bad, unfit))) same = handed c (λ memory. absurd (cc (bad, memory))) (inr unfit) same

pub returns-in-Err-clause-entered : goal.returns-in-Err-clause-entered
returns-in-Err-clause-entered c =
    let told = c.make.ensures in
    let why = c.in-Err.ensures.made in
    by_why c why.0 (record { durable = why.1.1; entries = told.lists.0; log = ap (λ (e : Event). e.log) told.others })

pub returns-in-Err-clause-back : goal.returns-in-Err-clause-back
returns-in-Err-clause-back c =
    let told = c.make.ensures in
    let why = c.in-Err.ensures.made in
    unmade_keeps c.args.self.now c.make.new.self told.others why.1.0 why.1.1 told.lists.0 told.lists.1 told.back told.leases

-- ---- it is

step : (c : goal.After-keep) → Enter c.args.self.now c.make.new.self c.keep.new.self (Entry.Edit c.args.by c.args.edit) c.in-Ok.bytes
step c =
    let kept = c.keep.ensures in
    let lists = c.make.ensures.lists in record {
      made = c.in-Ok.ensures.made;
      second = c.make.ensures.others;
      entries = lists.0;
      written = lists.1;
      third = kept.others;
      more = kept.entries;
      behind = kept.written;
      log = kept.log;
    }

pub returns-clause-entered : goal.returns-clause-entered
returns-clause-entered c = is_entered c.args.self.now c.make.new.self c.keep.new.self (Entry.Edit c.args.by c.args.edit) c.in-Ok.bytes (step c)

pub returns-clause-back : goal.returns-clause-back
returns-clause-back c = entered_keeps c.args.self.now c.make.new.self c.keep.new.self (Entry.Edit c.args.by c.args.edit) c.in-Ok.bytes (step c) c.make.ensures.back c.make.ensures.leases
