use Rattle.std.proofs.Common.{◌≡◌, ◌<◌, ◌∙◌, ◌∷◌, [], ap, arith, inl, inr, length, length-append, map, subst, sym}
use Rattle.std.proofs.lemmas.List.{length-map}
use Rattle.gs_journal.specs.Journal.{IsOldOrNew, checkpointed}
use Rattle.gs_journal.specs.Records.{standing}
use Rattle.gs_journal.specs.declared.version.Version.TheVariants.{Two}
use Rattle.gs_master_record.specs.Plain.{Whole, plain}
use Rattle.gs_master_record.specs.Writable.{IsEntry}
use Rattle.gs_master.specs.Journaled.{Breaks, Gains, IsReadyFor, stood_before}
use Rattle.gs_master_state.specs.inner.Plans.{log_of}
use Rattle.gs_master_state.specs.inner.Recorded.{durable_of}
use Rattle.gs_master_spec.specs.Whole.{checkpoint_of}
use Rattle.gs_master.proofs.Appending.{none_there, seen_behind}
use Rattle.gs_master.proofs.Crashes.{leaves_anew}
use Rattle.gs_master.proofs.Leading.{ready}
use Rattle.gs_master.proofs.Renewals.{Stood, breaks_last, cut_before, log_renewed, renews}
use Rattle.gs_master.proofs.event.Event.end_renewed.Goals as goal

pub returns-then-many-len-clause-ended : goal.returns-then-many-len-clause-ended
returns-then-many-len-clause-ended g c = λ before has.
    let d = g.D.Disk in
    let old = c.args.journal.now in
    let new = c.append_all-many.new.journal in
    let e = c.args.self.now in
    let es = map plain e.entries.items in
    let whole = Whole (checkpoint_of (durable_of e.recorded)) in
    let many = c.append_all-many.result in
    let is = c.cut.ensures.cut before has in
    let within : many < length es = subst (λ n. many < n) (sym (length-map e.entries.items plain)) is.within in
    let more = length-append es (whole ∷ []) in
    let few = c.if-many-len.true in
    let len = c.len.ensures in
    let same = ap length c.deref.ensures.value in
    let below : many < length c.deref.result.now = omega arith in
    inr (
      many,
      (
        record {
          over = is.over;
          within = omega (arith, more, within);
          after = is.after ∙ cut_before (stood_before before (log_of c.args.first) e) es whole many within;
          sends = is.sends;
          says = is.says;
        },
        λ log. inl (
          subst (λ (records : _). many < length records) c.deref.ensures.value below,
          subst (λ records. Breaks d.seen d.failures old records many new) c.deref.ensures.value
              (c.append_all-many.ensures.cut (subst (IsReadyFor old) (sym c.deref.ensures.value) (ready before (log_of c.args.first) e old has log)) below),
        ),
        subst (IsEntry Two) c.requires.renewal.entry c.requires.renewal.is_entry,
      ),
    )

pub returns-in-Ok-clause-ended : goal.returns-in-Ok-clause-ended
returns-in-Ok-clause-ended g c = λ before has. inl (
  c.accept_checkpoint.ensures.renewed,
  λ log.
      let d = g.D.Disk in
      let old = c.args.journal.now in
      let mid = c.append_all-many.new.journal in
      let e = c.args.self.now in
      let few = c.append_all-many.ensures.many in
      let all = c.if-many-len.false in
      let len = c.len.ensures in
      let same = ap length c.deref.ensures.value in
      let whole : c.append_all-many.result ≡ length c.deref.result.now = omega arith in
      let gains = subst (λ records. Gains d.seen d.may_leave d.failures old records mid) c.deref.ensures.value
      (c.append_all-many.ensures.all (subst (IsReadyFor old) (sym c.deref.ensures.value) (ready before (log_of c.args.first) e old has log)) whole) in
      let stood : Stood d.seen d.may_leave d.failures before (log_of c.args.first) e old mid c.args.renewal = record { has = has; log = log; gains = gains; renewal = c.requires.renewal; behind = c.requires.generation } in
      let renewed = renews before (log_of c.args.first) e old mid c.args.renewal stood c.write_draft.new.self c.in-Ok.ensures.made c.in-Ok.ensures.stands c.in-Ok.ensures.quiet in
      (renewed, log_renewed before (log_of c.args.first) e old mid c.args.renewal stood c.write_draft.new.self _ (ap log_of c.accept_checkpoint.ensures.log) renewed),
)

pub returns-in-Err-clause-ended : goal.returns-in-Err-clause-ended
returns-in-Err-clause-ended g c = λ before has.
    let d = g.D.Disk in
    let old = c.args.journal.now in
    let mid = c.append_all-many.new.journal in
    let e = c.args.self.now in
    inr (
      length e.entries.items,
      (
        c.doubt_checkpoint.ensures.cut before (log_of c.args.first) has,
        λ log.
            let few = c.append_all-many.ensures.many in
            let all = c.if-many-len.false in
            let len = c.len.ensures in
            let same = ap length c.deref.ensures.value in
            let whole : c.append_all-many.result ≡ length c.deref.result.now = omega arith in
            let gains = subst (λ records. Gains d.seen d.may_leave d.failures old records mid) c.deref.ensures.value
            (c.append_all-many.ensures.all (subst (IsReadyFor old) (sym c.deref.ensures.value) (ready before (log_of c.args.first) e old has log)) whole) in
            let stood : Stood d.seen d.may_leave d.failures before (log_of c.args.first) e old mid c.args.renewal = record { has = has; log = log; gains = gains; renewal = c.requires.renewal; behind = c.requires.generation } in
            inr (
              sym (ap length has.written ∙ length-map (map plain e.entries.items) _ ∙ length-map e.entries.items plain),
              breaks_last before (log_of c.args.first) e old mid c.args.renewal stood c.write_draft.new.self c.in-Err.field-0 c.in-Err.ensures.failed c.write_draft.ensures.either
                  (seen_behind d.seen d.may_leave d.moment d.left_since mid c.write_draft.new.self (λ a b. IsOldOrNew mid.text (checkpointed c.args.renewal.draft.body) (standing a b)) g.met.D.Disk.shows g.met.D.Disk.counts_now
                  (c.write_draft.ensures.any_moment gains.is_open)),
            ),
        subst (IsEntry Two) c.requires.renewal.entry c.requires.renewal.is_entry,
      ),
    )

pub returns-then-many-len-clause-crash : goal.returns-then-many-len-clause-crash
returns-then-many-len-clause-crash g c = λ none is_open.
    let many = c.append_all-many.result in
    let few = c.if-many-len.true in
    let len = c.len.ensures in
    let same = ap length c.deref.ensures.value in
    let below : many < length c.deref.result.now = omega arith in
    absurd (none_there c.deref.result.now many (c.deref.ensures.value ∙ none) below)

pub returns-in-Ok-clause-crash : goal.returns-in-Ok-clause-crash
returns-in-Ok-clause-crash g c = λ none is_open.
    let d = g.D.Disk in
    leaves_anew d.moment d.left_since d.seen (durable_of c.args.self.now.recorded) c.args.renewal.draft.body c.args.journal.now c.append_all-many.new.journal c.write_draft.new.self c.requires.renewal.body
    (c.append_all-many.ensures.none (c.deref.ensures.value ∙ none)) is_open c.write_draft.ensures.next c.write_draft.ensures.counting

pub returns-in-Err-clause-crash : goal.returns-in-Err-clause-crash
returns-in-Err-clause-crash g c = λ none is_open.
    let d = g.D.Disk in
    leaves_anew d.moment d.left_since d.seen (durable_of c.args.self.now.recorded) c.args.renewal.draft.body c.args.journal.now c.append_all-many.new.journal c.write_draft.new.self c.requires.renewal.body
    (c.append_all-many.ensures.none (c.deref.ensures.value ∙ none)) is_open c.write_draft.ensures.next c.write_draft.ensures.counting
