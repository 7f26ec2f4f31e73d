use Rattle.std.proofs.Common.{◌≡◌, ◌∙◌, ◌+◌, ap, inl, inr, refl, subst}
use Rattle.std.specs.Prelude.{Ok}
use Rattle.gs_journal.specs.Records.{Text, generation_standing, standing}
use Rattle.gs_master_spec.specs.Handling.{recover}
use Rattle.gs_master.specs.Crashing.{IsStillOrAnew}
use Rattle.gs_master.specs.Recovering.{TellsDurable, log_in}
use Rattle.gs_master.specs.Starting.{left_in}
use Rattle.gs_master.proofs.Crashes.{handed_back, might_tell, of_same, stands_left}
use Rattle.gs_master.proofs.Reopened.{closed_why, generation_anew, generation_left, left_of, opened_held, seen_of, untold_why}
use Rattle.gs_master.proofs.master.Master.open.Goals as goal

pub returns-in-Err-clause-refused : goal.returns-in-Err-clause-refused
returns-in-Err-clause-refused g c =
    let d = g.D.Disk in
    closed_why d.seen d.failures c.args.config c.args.limit c.args.first c.args.second c.in-Err.unopened c.in-Err.ensures.refused c.in-Err.ensures.told

pub invariant_of-master : goal.invariant_of-master
invariant_of-master g c =
    let d = g.D.Disk in
    let recovered = c.in-Ok-recover.ensures.recovered in (
      record {
        begun = record {
          undos = recovered.begun.undos;
          entries = recovered.begun.entries;
          written = recovered.begun.written;
          memory = recovered.begun.memory;
          said = recovered.begun.said;
        };
        sent = (λ i. (c.replace-sent.ensures.after i).items) ∙ c.new.ensures.items;
        counted = recovered.ready.counted;
      },
      opened_held d.seen d.may_leave d.failures c.args.config c.in-Ok.journal c.recover.new.journal c.in-Ok-recover.event recovered,
    )

pub returns-in-Ok-recover-clause-opened : goal.returns-in-Ok-recover-clause-opened
returns-in-Ok-recover-clause-opened g c =
    let text = c.in-Ok.ensures.text in
    let recovered = c.in-Ok-recover.ensures.recovered in
    let d = g.D.Disk in
    let k = c.recover.new.journal in
    let kept = left_of d.seen d.may_leave d.failures c.in-Ok.journal.text.0 recovered.durable c.in-Ok.journal k recovered.journal in
    let log = log_in c.in-Ok.journal in record {
      entries = recovered.entries;
      durable = recovered.durable;
      tells = subst (λ t. TellsDurable t recovered.entries recovered.durable) text recovered.tells;
      log = log;
      turn = recovered.turn;
      recovers = subst (λ (t : Text). recover c.args.config t.0 recovered.entries log ≡ Ok recovered.turn) text recovered.recovers;
      state = recovered.after;
      sends = (λ i. (c.replace-sent.ensures.value i).items) ∙ recovered.sent;
      config = refl;
      limit = c.in-Ok.ensures.limit;
      journal = seen_of d.seen d.may_leave d.failures c.in-Ok.journal.text.0 recovered.durable c.in-Ok.journal k recovered.journal;
      known = recovered.log;
      generation = λ two. generation_left d.seen d.may_leave d.failures c.in-Ok.journal.text.0 recovered.durable c.in-Ok.journal k recovered.journal ((λ i. (text i).0) ∙ two) ∙ c.in-Ok.ensures.generation;
      anew = λ one. generation_anew d.seen d.may_leave d.failures c.in-Ok.journal.text.0 recovered.durable c.in-Ok.journal k recovered.journal ((λ i. (text i).0) ∙ one) ∙ ap (λ n. n + 1) c.in-Ok.ensures.generation;
      left = subst (λ (t : Text). k.text ≡ left_in t.0 t recovered.durable) text kept.0;
      quiet = kept.1 ∙ c.in-Ok.ensures.quiet;
    }

pub returns-in-Err-recover-clause-refused : goal.returns-in-Err-recover-clause-refused
returns-in-Err-recover-clause-refused g c =
    let d = g.D.Disk in
    untold_why d.seen d.failures c.args.config c.args.limit c.args.first c.args.second
    (record { refusal = c.in-Err-recover.refusal; first = c.into_disks-first.result.0; second = c.into_disks-first.result.1 }) c.in-Ok.journal c.recover.new.journal
    c.in-Ok.ensures.limit c.in-Ok.ensures.generation c.in-Ok.ensures.text c.in-Ok.ensures.quiet c.into_disks-first.ensures.disks.0 c.into_disks-first.ensures.disks.1 c.into_disks-first.ensures.text c.in-Err-recover.ensures.recovered

-- ---- a crash

pub returns-in-Err-clause-any_moment_refused : goal.returns-in-Err-clause-any_moment_refused
returns-in-Err-clause-any_moment_refused g c = inl c.in-Err.ensures.any_moment_refused

pub returns-in-Err-clause-lasts : goal.returns-in-Err-clause-lasts
returns-in-Err-clause-lasts g c = λ a b l r. (standing a b, c.in-Err.ensures.lasts a b l r, inl refl)

pub returns-in-Ok-recover-clause-any_moment : goal.returns-in-Ok-recover-clause-any_moment
returns-in-Ok-recover-clause-any_moment g c =
    let d = g.D.Disk in
    let j = c.in-Ok.journal in
    let k = c.recover.new.journal in
    let text = standing (d.seen c.args.first) (d.seen c.args.second) in
    let generation = generation_standing (d.seen c.args.first) (d.seen c.args.second) in
    let survives = of_same d.moment d.left_since j.text text j.generation generation j.first j.second k.first k.second c.in-Ok.ensures.text c.in-Ok.ensures.generation c.recover.ensures.crash in
    record { first = j.first; second = j.second; opening = c.in-Ok.ensures.any_moment; recovery = survives }

pub returns-in-Ok-recover-clause-stands : goal.returns-in-Ok-recover-clause-stands
returns-in-Ok-recover-clause-stands g c =
    let d = g.D.Disk in
    let recovered = c.in-Ok-recover.ensures.recovered in
    stands_left d.seen d.may_leave d.failures c.in-Ok.journal.text.0 recovered.durable c.in-Ok.journal c.recover.new.journal recovered.journal

pub returns-in-Err-recover-clause-any_moment_refused : goal.returns-in-Err-recover-clause-any_moment_refused
returns-in-Err-recover-clause-any_moment_refused g c =
    let d = g.D.Disk in
    let j = c.in-Ok.journal in
    let k = c.recover.new.journal in
    let text = standing (d.seen c.args.first) (d.seen c.args.second) in
    let generation = generation_standing (d.seen c.args.first) (d.seen c.args.second) in
    let survives = of_same d.moment d.left_since j.text text j.generation generation j.first j.second k.first k.second c.in-Ok.ensures.text c.in-Ok.ensures.generation c.recover.ensures.crash in
    let u = c.into_disks-first.result in
    let back = handed_back d.moment d.left_since j.first j.second k.first k.second u.0 u.1 (IsStillOrAnew text generation) c.into_disks-first.ensures.disks.0 c.into_disks-first.ensures.disks.1 survives in
    inr (record { first = j.first; second = j.second; opening = c.in-Ok.ensures.any_moment; recovery = back })

pub returns-in-Err-recover-clause-lasts : goal.returns-in-Err-recover-clause-lasts
returns-in-Err-recover-clause-lasts g c =
    let d = g.D.Disk in
    let j = c.in-Ok.journal in
    let k = c.recover.new.journal in
    let text = standing (d.seen c.args.first) (d.seen c.args.second) in
    let generation = generation_standing (d.seen c.args.first) (d.seen c.args.second) in
    let survives = of_same d.moment d.left_since j.text text j.generation generation j.first j.second k.first k.second c.in-Ok.ensures.text c.in-Ok.ensures.generation c.recover.ensures.crash in
    let u = c.into_disks-first.result in
    let back = handed_back d.moment d.left_since j.first j.second k.first k.second u.0 u.1 (IsStillOrAnew text generation) c.into_disks-first.ensures.disks.0 c.into_disks-first.ensures.disks.1 survives in
    might_tell d.moment d.left_since d.seen d.may_leave g.met.D.Disk.shows g.met.D.Disk.counts_now c.args.first c.args.second j.first j.second u.0 u.1 generation back
