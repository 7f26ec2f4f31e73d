use Rattle.std.proofs.Common.{◌+◌, inl, inr, drop, map}
use Rattle.gs_master_record.specs.Plain.{plain}
use Rattle.gs_master_state.proofs.Behind.{next_item}
use Rattle.gs_master_guard.proofs.ReadSoFar.{unreadable}
use Rattle.gs_master_guard.proofs.reading.read_entries.Goals as goal

pub returns-in-Err : goal.returns-in-Err
returns-in-Err c =
    let records = c.args.records.now in
    let i = c.loop-record.record-index in
    let r = c.record-item.result in
    elim c.in-Err.ensures.refused [
      | inl memory ↦ inl memory
      | inr unfit ↦ inr (
        unfit.0,
        unreadable c.args.version records (map plain c.loop-record.entries.items) (drop i records) (drop (i + 1) records) r (next_item records i r c.loop-record-test.true c.record-item.is) c.loop-record.invariant unfit.1,
      )
    ]
