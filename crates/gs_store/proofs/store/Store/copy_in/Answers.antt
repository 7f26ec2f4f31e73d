use Rattle.std.proofs.Common.{◌≡◌, true, Ok, sym, subst}
use Rattle.std.specs.Result.{IfErr}
use Rattle.gs_base.specs.Stamps.{is_before}
use Rattle.gs_base.specs.declared.refusal.Refusal.TheVariants.{Memory}
use Rattle.gs_base.specs.Calls.{FollowsOf}
use Rattle.gs_store.specs.Moves as moves
use Rattle.gs_store.proofs.Places.{within_reach}
use Rattle.gs_store.proofs.Changes.{follows_of_at, absent, known, unknown, get_place}
use Rattle.gs_store.proofs.store.Store.copy_in.Goals as goal

pub index_mut-requires : goal.index_mut-requires
index_mut-requires c = within_reach c.self.inside.slots _ c.args.handle c.in-Some.place.now c.self.invariant (sym c.in-Some.ensures.value)

pub copy_in_first-requires : goal.copy_in_first-requires
copy_in_first-requires c = absent _ _ _ _ c.self.inside.slots _ c.args.self.now c.self.view_is c.self.invariant c.args.handle c.in_default.ensures.value

pub returns-clause-edit : goal.returns-clause-edit
returns-clause-edit c =
    follows_of_at _ _ _ _ c.self.inside.slots _ c.args.self.now c.self.view_is c.self.invariant c.args.handle c.in-Some.place.now c.in-Some.ensures.value
    _ c.index_mut.ensures.value (moves.copy_in c.args.self.now.block c.args.self.now.chunk c.args.stamp c.args.given.image c.args.given.sealed) (Unit {0}) (Ok tt) _ _ c.args.given c.copy_in.result
    (subst (λ s. FollowsOf {B = Unit {0}} c.args.given (moves.copy_in s.block s.chunk c.args.stamp c.args.given.image c.args.given.sealed c.index_mut.result.now) c.copy_in.result c.index_mut.result.now c.copy_in.new.self) c.self.view_is c.copy_in.ensures.edit)

pub returns-clause-lacking : goal.returns-clause-lacking
returns-clause-lacking c =
    let is = known c.args.self.now c.args.handle _ (get_place _ _ _ _ c.self.inside.slots _ c.args.self.now c.self.view_is c.self.invariant c.args.handle c.in-Some.place.now c.in-Some.ensures.value _ c.index_mut.ensures.value) in
    subst (λ s. IfErr c.copy_in.result (λ r. r.refusal ≡ Memory → is_before s.promise c.args.stamp ≡ true)) (sym is) c.copy_in.ensures.lacking

pub returns-in_default-clause-lacking : goal.returns-in_default-clause-lacking
returns-in_default-clause-lacking c =
    let none = absent _ _ _ _ c.self.inside.slots _ c.args.self.now c.self.view_is c.self.invariant c.args.handle c.in_default.ensures.value in
    subst (λ s. IfErr c.copy_in_first.result (λ r. r.refusal ≡ Memory → is_before s.promise c.args.stamp ≡ true)) (sym (unknown c.args.self.now c.args.handle none)) c.copy_in_first.ensures.lacking
