use Rattle.std.proofs.Common.{◌≡◌, ◌+◌, ◌-◌, ◌<◌, length, arith, rules}
use Rattle.gs_master_state.proofs.Takings.{back_all, back_refused}
use Rattle.gs_master_state.proofs.recorded.Recorded.names_back.Goals as goal

pub returns-in-Err : goal.returns-in-Err
returns-in-Err c =
    let inverses = c.args.self.now.inverses.items in
    let left = c.loop-left.left in
    let some = c.loop-left-test.true in
    let bound = c.loop-left.invariant.bound in
    let here : left - 1 < length inverses = omega arith in
    let one : left ≡ (left - 1) + 1 = omega arith in
    back_refused inverses left (left - 1) c.index.result.now c.args.self.now.names.names c.loop-left.names c.take_back.new.names c.in-Err.refusal here one (search rules) c.loop-left.invariant.back c.in-Err.ensures

pub returns : goal.returns
returns c =
    let inverses = c.args.self.now.inverses.items in
    let left = c.loop-left.left in
    let none : left ≡ 0 = omega arith in
    back_all inverses left c.args.self.now.names.names c.loop-left.names none c.loop-left.invariant.back
