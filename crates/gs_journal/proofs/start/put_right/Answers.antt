use Rattle.std.proofs.Common.{inl, subst, sym, ◌∙◌}
use Rattle.gs_journal.specs.inner.Places.{FindsPlace}
use Rattle.gs_journal_disk.proofs.Moments.{weaker}
use Rattle.gs_journal.proofs.Standing.{generation_counts, generation_none}
use Rattle.gs_journal.proofs.Opening.{untouched_first, untouched_second, first_place, second_place, made_ready, second_ready, first_ready, like_first, like_second, first_told, second_told}
use Rattle.gs_journal.proofs.start.put_right.Goals as goal

pub returns-in_err-place-clause-left_second : goal.returns-in_err-place-clause-left_second
returns-in_err-place-clause-left_second g c =
    let d = g.D.Disk in untouched_second d.seen d.may_leave d.moment d.left_since c.args.second.now c.requires.durable_second (g.met.D.Disk.only_now c.args.second.now)

pub returns-in_default-clause-left_second : goal.returns-in_default-clause-left_second
returns-in_default-clause-left_second g c =
    let d = g.D.Disk in untouched_second d.seen d.may_leave d.moment d.left_since c.args.second.now c.requires.durable_second (g.met.D.Disk.only_now c.args.second.now)

pub returns-in_default-clause-ready : goal.returns-in_default-clause-ready
returns-in_default-clause-ready g c =
    let d = g.D.Disk in
    let found = subst (λ o. FindsPlace o (d.seen c.args.first.now) (d.seen c.args.second.now)) c.in_default.is c.requires.place in
    (made_ready c.in_ok-place.place (d.seen c.args.first.now) (d.seen c.args.second.now) _ c.in_ok-place.ensures.place found.0 found.1 c.in_ok-place.ensures.seen).0

pub returns-in_err-repair-clause-left_first : goal.returns-in_err-repair-clause-left_first
returns-in_err-repair-clause-left_first g c =
    let d = g.D.Disk in untouched_first d.seen d.may_leave d.moment d.left_since c.args.first.now c.requires.durable_first (g.met.D.Disk.only_now c.args.first.now) (d.seen c.args.second.now)

pub returns-in_err-repair-clause-left_second : goal.returns-in_err-repair-clause-left_second
returns-in_err-repair-clause-left_second g c =
    weaker g.D.Disk.moment g.D.Disk.left_since _ _ _ _ c.repair.ensures.any_moment (λ x same. like_second _ x same)

pub returns-then-place-clause-left_first : goal.returns-then-place-clause-left_first
returns-then-place-clause-left_first g c =
    let d = g.D.Disk in untouched_first d.seen d.may_leave d.moment d.left_since c.args.first.now c.requires.durable_first (g.met.D.Disk.only_now c.args.first.now) (d.seen c.args.second.now)

pub returns-then-place-clause-left_second : goal.returns-then-place-clause-left_second
returns-then-place-clause-left_second g c =
    weaker g.D.Disk.moment g.D.Disk.left_since _ _ _ _ c.repair.ensures.any_moment (λ x same. like_second _ x same)

pub returns-then-place-clause-ready : goal.returns-then-place-clause-ready
returns-then-place-clause-ready g c =
    let d = g.D.Disk in
    let found = subst (λ o. FindsPlace o (d.seen c.args.first.now) (d.seen c.args.second.now)) c.in-Some.is c.requires.place in
    (second_ready c.in-Some.place (d.seen c.args.first.now) (d.seen c.args.second.now) _ c.if-place.true found.0 found.1 c.in_ok-repair.ensures.rest c.in_ok-repair.ensures.same).0

pub returns-then-place-clause-same : goal.returns-then-place-clause-same
returns-then-place-clause-same g c =
    let d = g.D.Disk in (like_second (d.seen c.args.second.now) _ c.in_ok-repair.ensures.same (d.seen c.args.first.now)).0

pub returns-in_err-repair-2-clause-left_first : goal.returns-in_err-repair-2-clause-left_first
returns-in_err-repair-2-clause-left_first g c =
    weaker g.D.Disk.moment g.D.Disk.left_since _ _ _ _ c.repair-2.ensures.any_moment (λ x same d. inl (like_first _ x same d))

pub returns-in_err-repair-2-clause-left_second : goal.returns-in_err-repair-2-clause-left_second
returns-in_err-repair-2-clause-left_second g c =
    let d = g.D.Disk in untouched_second d.seen d.may_leave d.moment d.left_since c.args.second.now c.requires.durable_second (g.met.D.Disk.only_now c.args.second.now)

pub returns-clause-left_first : goal.returns-clause-left_first
returns-clause-left_first g c =
    weaker g.D.Disk.moment g.D.Disk.left_since _ _ _ _ c.repair-2.ensures.any_moment (λ x same d. inl (like_first _ x same d))

pub returns-clause-left_second : goal.returns-clause-left_second
returns-clause-left_second g c =
    let d = g.D.Disk in untouched_second d.seen d.may_leave d.moment d.left_since c.args.second.now c.requires.durable_second (g.met.D.Disk.only_now c.args.second.now)

pub returns-clause-ready : goal.returns-clause-ready
returns-clause-ready g c =
    let d = g.D.Disk in
    let found = subst (λ o. FindsPlace o (d.seen c.args.first.now) (d.seen c.args.second.now)) c.in-Some.is c.requires.place in
    (first_ready c.in-Some.place (d.seen c.args.first.now) (d.seen c.args.second.now) _ c.if-place.false found.0 found.1 c.in_ok-repair-2.ensures.rest c.in_ok-repair-2.ensures.same).0

pub returns-clause-same : goal.returns-clause-same
returns-clause-same g c =
    let d = g.D.Disk in (like_first (d.seen c.args.first.now) _ c.in_ok-repair-2.ensures.same (d.seen c.args.second.now)).0

pub make_first-requires-clause-unbegun : goal.make_first-requires-clause-unbegun
make_first-requires-clause-unbegun g c =
    let d = g.D.Disk in
    let found = subst (λ o. FindsPlace o (d.seen c.args.first.now) (d.seen c.args.second.now)) c.in_default.is c.requires.place in
    found.1

pub returns-in_err-place-clause-left_first : goal.returns-in_err-place-clause-left_first
returns-in_err-place-clause-left_first g c =
    let d = g.D.Disk in
    let found = subst (λ o. FindsPlace o (d.seen c.args.first.now) (d.seen c.args.second.now)) c.in_default.is c.requires.place in
    c.make_first.ensures.any_moment (d.seen c.args.second.now) found.0

pub returns-in_default-clause-left_first : goal.returns-in_default-clause-left_first
returns-in_default-clause-left_first g c =
    let d = g.D.Disk in
    let found = subst (λ o. FindsPlace o (d.seen c.args.first.now) (d.seen c.args.second.now)) c.in_default.is c.requires.place in
    c.make_first.ensures.any_moment (d.seen c.args.second.now) found.0

pub returns-in_default-clause-same : goal.returns-in_default-clause-same
returns-in_default-clause-same g c =
    let d = g.D.Disk in
    let found = subst (λ o. FindsPlace o (d.seen c.args.first.now) (d.seen c.args.second.now)) c.in_default.is c.requires.place in
    (made_ready c.in_ok-place.place (d.seen c.args.first.now) (d.seen c.args.second.now) _ c.in_ok-place.ensures.place found.0 found.1 c.in_ok-place.ensures.seen).1

pub repair-requires-clause-end : goal.repair-requires-clause-end
repair-requires-clause-end g c =
    let d = g.D.Disk in
    let found = subst (λ o. FindsPlace o (d.seen c.args.first.now) (d.seen c.args.second.now)) c.in-Some.is c.requires.place in
    (second_place c.in-Some.place (d.seen c.args.first.now) (d.seen c.args.second.now) c.if-place.true found.1).end

pub repair-requires-clause-gate : goal.repair-requires-clause-gate
repair-requires-clause-gate g c =
    let d = g.D.Disk in
    let found = subst (λ o. FindsPlace o (d.seen c.args.first.now) (d.seen c.args.second.now)) c.in-Some.is c.requires.place in
    (second_place c.in-Some.place (d.seen c.args.first.now) (d.seen c.args.second.now) c.if-place.true found.1).gate

pub repair-requires-clause-fits : goal.repair-requires-clause-fits
repair-requires-clause-fits g c =
    let d = g.D.Disk in
    let found = subst (λ o. FindsPlace o (d.seen c.args.first.now) (d.seen c.args.second.now)) c.in-Some.is c.requires.place in
    (second_place c.in-Some.place (d.seen c.args.first.now) (d.seen c.args.second.now) c.if-place.true found.1).fits

pub repair-requires-2-clause-end : goal.repair-requires-2-clause-end
repair-requires-2-clause-end g c =
    let d = g.D.Disk in
    let found = subst (λ o. FindsPlace o (d.seen c.args.first.now) (d.seen c.args.second.now)) c.in-Some.is c.requires.place in
    (first_place c.in-Some.place (d.seen c.args.first.now) (d.seen c.args.second.now) c.if-place.false found.1).end

pub repair-requires-2-clause-gate : goal.repair-requires-2-clause-gate
repair-requires-2-clause-gate g c =
    let d = g.D.Disk in
    let found = subst (λ o. FindsPlace o (d.seen c.args.first.now) (d.seen c.args.second.now)) c.in-Some.is c.requires.place in
    (first_place c.in-Some.place (d.seen c.args.first.now) (d.seen c.args.second.now) c.if-place.false found.1).gate

pub repair-requires-2-clause-fits : goal.repair-requires-2-clause-fits
repair-requires-2-clause-fits g c =
    let d = g.D.Disk in
    let found = subst (λ o. FindsPlace o (d.seen c.args.first.now) (d.seen c.args.second.now)) c.in-Some.is c.requires.place in
    (first_place c.in-Some.place (d.seen c.args.first.now) (d.seen c.args.second.now) c.if-place.false found.1).fits

pub returns-in_default-clause-generation : goal.returns-in_default-clause-generation
returns-in_default-clause-generation g c =
    let d = g.D.Disk in
    let found = subst (λ o. FindsPlace o (d.seen c.args.first.now) (d.seen c.args.second.now)) c.in_default.is c.requires.place in
    c.in_ok-place.ensures.place.2 ∙ sym (generation_none (d.seen c.args.first.now) (d.seen c.args.second.now) found.0 found.1)

pub returns-then-place-clause-generation : goal.returns-then-place-clause-generation
returns-then-place-clause-generation g c =
    let d = g.D.Disk in
    let found = subst (λ o. FindsPlace o (d.seen c.args.first.now) (d.seen c.args.second.now)) c.in-Some.is c.requires.place in
    found.1.generation ∙ sym (generation_counts (d.seen c.args.first.now) (d.seen c.args.second.now) c.in-Some.place.is_second found.0 found.1.begun)

pub returns-clause-generation : goal.returns-clause-generation
returns-clause-generation g c =
    let d = g.D.Disk in
    let found = subst (λ o. FindsPlace o (d.seen c.args.first.now) (d.seen c.args.second.now)) c.in-Some.is c.requires.place in
    found.1.generation ∙ sym (generation_counts (d.seen c.args.first.now) (d.seen c.args.second.now) c.in-Some.place.is_second found.0 found.1.begun)

pub returns-in_err-place-clause-same : goal.returns-in_err-place-clause-same
returns-in_err-place-clause-same g c =
    let d = g.D.Disk in
    let found = subst (λ o. FindsPlace o (d.seen c.args.first.now) (d.seen c.args.second.now)) c.in_default.is c.requires.place in
    (first_told d.seen d.may_leave d.moment d.left_since g.met.D.Disk.shows g.met.D.Disk.counts_now c.args.first.now _ (d.seen c.args.second.now) (c.make_first.ensures.any_moment (d.seen c.args.second.now) found.0)).0

pub returns-in_err-repair-clause-same : goal.returns-in_err-repair-clause-same
returns-in_err-repair-clause-same g c =
    let d = g.D.Disk in
    (second_told d.seen d.may_leave d.moment d.left_since g.met.D.Disk.shows g.met.D.Disk.counts_now c.args.second.now _ (d.seen c.args.first.now)
    (weaker d.moment d.left_since _ _ _ _ c.repair.ensures.any_moment (λ x same. like_second _ x same))).0

pub returns-in_err-repair-2-clause-same : goal.returns-in_err-repair-2-clause-same
returns-in_err-repair-2-clause-same g c =
    let d = g.D.Disk in
    (first_told d.seen d.may_leave d.moment d.left_since g.met.D.Disk.shows g.met.D.Disk.counts_now c.args.first.now _ (d.seen c.args.second.now)
    (weaker d.moment d.left_since _ _ _ _ c.repair-2.ensures.any_moment (λ x same d. inl (like_first _ x same d)))).0

pub returns-in_err-place-clause-kept : goal.returns-in_err-place-clause-kept
returns-in_err-place-clause-kept g c =
    let d = g.D.Disk in
    let found = subst (λ o. FindsPlace o (d.seen c.args.first.now) (d.seen c.args.second.now)) c.in_default.is c.requires.place in
    (first_told d.seen d.may_leave d.moment d.left_since g.met.D.Disk.shows g.met.D.Disk.counts_now c.args.first.now _ (d.seen c.args.second.now) (c.make_first.ensures.any_moment (d.seen c.args.second.now) found.0)).1

pub returns-in_default-clause-kept : goal.returns-in_default-clause-kept
returns-in_default-clause-kept g c =
    let d = g.D.Disk in
    let found = subst (λ o. FindsPlace o (d.seen c.args.first.now) (d.seen c.args.second.now)) c.in_default.is c.requires.place in
    (first_told d.seen d.may_leave d.moment d.left_since g.met.D.Disk.shows g.met.D.Disk.counts_now c.args.first.now _ (d.seen c.args.second.now) (c.make_first.ensures.any_moment (d.seen c.args.second.now) found.0)).1

pub returns-in_err-repair-clause-kept : goal.returns-in_err-repair-clause-kept
returns-in_err-repair-clause-kept g c =
    let d = g.D.Disk in
    (second_told d.seen d.may_leave d.moment d.left_since g.met.D.Disk.shows g.met.D.Disk.counts_now c.args.second.now _ (d.seen c.args.first.now)
    (weaker d.moment d.left_since _ _ _ _ c.repair.ensures.any_moment (λ x same. like_second _ x same))).1

pub returns-then-place-clause-kept : goal.returns-then-place-clause-kept
returns-then-place-clause-kept g c =
    let d = g.D.Disk in
    (second_told d.seen d.may_leave d.moment d.left_since g.met.D.Disk.shows g.met.D.Disk.counts_now c.args.second.now _ (d.seen c.args.first.now)
    (weaker d.moment d.left_since _ _ _ _ c.repair.ensures.any_moment (λ x same. like_second _ x same))).1

pub returns-in_err-repair-2-clause-kept : goal.returns-in_err-repair-2-clause-kept
returns-in_err-repair-2-clause-kept g c =
    let d = g.D.Disk in
    (first_told d.seen d.may_leave d.moment d.left_since g.met.D.Disk.shows g.met.D.Disk.counts_now c.args.first.now _ (d.seen c.args.second.now)
    (weaker d.moment d.left_since _ _ _ _ c.repair-2.ensures.any_moment (λ x same d. inl (like_first _ x same d)))).1

pub returns-clause-kept : goal.returns-clause-kept
returns-clause-kept g c =
    let d = g.D.Disk in
    (first_told d.seen d.may_leave d.moment d.left_since g.met.D.Disk.shows g.met.D.Disk.counts_now c.args.first.now _ (d.seen c.args.second.now)
    (weaker d.moment d.left_since _ _ _ _ c.repair-2.ensures.any_moment (λ x same d. inl (like_first _ x same d)))).1
