use Rattle.std.proofs.Common.{rules, refl, sym, arith}
use Rattle.std.specs.Ordering.{nat_cmp}
use Rattle.gs_base_table.specs.Slots.{live}
use Rattle.gs_master_plan.specs.inner.Planning.{state_of}
use Rattle.gs_master_plan.proofs.Healing.{found_is_needed, group_of, none_more, none_needed}
use Rattle.gs_master_plan.proofs.standing.Standing.most_by_members.Goals as goal

pub returns-in-Some-first_in_use : goal.returns-in-Some-first_in_use
returns-in-Some-first_in_use c =
    let s = state_of c.args.self.now in
    let set = live nat_cmp c.in-Some.chunks.now in
    found_is_needed s c.args.config.now.replicas c.loop-members.members set c.in-Some-first_in_use.chunk (search rules) (record {
      some = c.loop-members.invariant.from;
      group = group_of s c.args.self.now.recorded.now c.loop-members.members set c.loop-members.invariant.from refl c.in-Some.ensures;
      none = c.loop-members.invariant.none;
      is = sym c.in-Some-first_in_use.ensures;
    })

pub loop-members-preserved : goal.loop-members-preserved
loop-members-preserved c =
    let s = state_of c.args.self.now in
    let set = live nat_cmp c.in-Some.chunks.now in
    record {
      from = omega arith;
      none = none_more s c.loop-members.members set (group_of s c.args.self.now.recorded.now c.loop-members.members set c.loop-members.invariant.from refl c.in-Some.ensures) (sym c.in_default-first_in_use.ensures) c.loop-members.invariant.none;
    }

pub returns : goal.returns
returns c = none_needed (state_of c.args.self.now) c.args.config.now.replicas c.loop-members.members (search rules) c.loop-members.invariant.none
