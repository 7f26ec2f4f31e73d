use Rattle.std.proofs.Common.{◌≡◌, ◌∷◌, ◌+◌, ◌∙◌, arith, ap, drop, map}
use Rattle.std.specs.Prelude.{is_some}
use Rattle.gs_master_record.specs.Plain.{plain}
use Rattle.gs_master_spec.specs.State.{size_of, size_of_all}
use Rattle.gs_master_state.proofs.Behind.{counted_on, next_item, none_from, none_left, sizes_from, whole_left}
use Rattle.gs_master_state.proofs.log.Log.fits.Goals as goal

pub behind_entry-requires : goal.behind_entry-requires
behind_entry-requires c =
    let records = c.args.records.now in
    let i = c.loop-entry.entry-index in
    let x = c.entry-item.result in
    (none_from x (drop (i + 1) records) (drop i records) (next_item records i x c.loop-entry-test.true c.entry-item.is) c.loop-entry.invariant.none).0

pub loop-entry-preserved : goal.loop-entry-preserved
loop-entry-preserved c =
    let records = c.args.records.now in
    let i = c.loop-entry.entry-index in
    let x = c.entry-item.result in
    let next : drop i records ≡ x ∷ drop (i + 1) records = next_item records i x c.loop-entry-test.true c.entry-item.is in
    let sizes = sizes_from x (drop (i + 1) records) (drop i records) next in
    let within = c.loop-entry.invariant.within in
    record {
      room = counted_on c.args.self.limit (c.args.self.size + size_of_all (map plain records)) c.loop-entry.room c.in_ok-room.room (size_of_all (map plain (drop (i + 1) records)))
          (size_of_all (map plain (drop i records))) (size_of (plain x)) (omega arith) sizes c.loop-entry.invariant.room c.in_ok-room.ensures;
      within = omega arith;
      none = (none_from x (drop (i + 1) records) (drop i records) next c.loop-entry.invariant.none).1;
    }

pub returns : goal.returns
returns c =
    let records = c.args.records.now in
    let left = size_of_all (map plain (drop c.loop-entry.entry-index records)) in
    c.is_some.ensures ∙ ap is_some c.loop-entry.invariant.room
    ∙ whole_left c.args.self.limit c.args.self.size (size_of_all (map plain records)) left (none_left records c.loop-entry.entry-index c.loop-entry-test.false)
