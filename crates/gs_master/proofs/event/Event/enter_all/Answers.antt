use Rattle.std.proofs.Common.{◌≡◌, ◌∙◌, ◌∷◌, ap, arith, length, false, map, rules, refl, subst, sym}
use Rattle.std.proofs.lemmas.List.{nil_from_length}
use Rattle.std.specs.Prelude.{Err, Ok, vec_len}
use Rattle.std.specs.List.{list_any}
use Rattle.gs_master_record.specs.Plain.{plain}
use Rattle.gs_master_state.specs.inner.TakingBack.{comes_alone}
use Rattle.gs_master.specs.inner.Turns.{AreEntered, EntersAll, WhyNotAll}
use Rattle.gs_master.proofs.Entered.{alone_first, enters_behind, enters_none, goes_back_here, goes_back_on, stepped_back, why_not_first}
use Rattle.gs_master.proofs.event.Event.enter_all.Goals as goal

pub loop-entry-init : goal.loop-entry-init
loop-entry-init c =
    let same = c.into_iter-entry-iterator.ensures.into_iter_gives.0 in
    record {
      rest = λ result new all. subst (λ items. EntersAll (map plain items) c.args.self.now result new) same all;
      long = (let whole : length c.args.records.items ≡ vec_len c.args.records = search rules in ap length same ∙ whole ∙ sym c.into_iter-entry-iterator.ensures.into_iter_gives.1);
      alone = subst (λ items. list_any comes_alone (map plain items) ≡ false) (sym same) c.requires.alone;
      given = c.requires.given;
      back = goes_back_here c.args.self.now c.requires.ready;
      memory = refl;
      sent = refl;
      said = refl;
    }

pub loop-entry-preserved : goal.loop-entry-preserved
loop-entry-preserved c =
    let old = c.loop-entry.self in
    let mid = c.enter.new.self in
    let x = c.in-Some.entry in
    let rest = c.next.new.self.rest.items in
    let same = c.in-Some.ensures.steps.0 in
    let inv = c.loop-entry.invariant in
    let others = c.enter.ensures.others in
    record {
      rest = λ result new more. inv.rest result new (subst (λ items. EntersAll (map plain items) old result new) (sym same)
          (enters_behind (plain x) (map plain rest) old mid new result c.in_ok-enter.ensures.entered more));
      long = (let long = inv.long in let first = ap length same in let less = c.in-Some.ensures.steps.1 in omega arith);
      alone = (alone_first (plain x) (map plain rest) (subst (λ items. list_any comes_alone (map plain items) ≡ false) same inv.alone)).1;
      given = search rules;
      back = goes_back_on c.args.self.now old mid inv.back (stepped_back old mid c.enter.ensures.back c.enter.ensures.room c.enter.ensures.counted others.3 others.1);
      memory = others.0 ∙ inv.memory;
      sent = others.1 ∙ inv.sent;
      said = others.2 ∙ inv.said;
    }

pub enter-requires-clause-alone : goal.enter-requires-clause-alone
enter-requires-clause-alone c =
    (alone_first (plain c.in-Some.entry) (map plain c.next.new.self.rest.items) (subst (λ items. list_any comes_alone (map plain items) ≡ false) c.in-Some.ensures.steps.0 c.loop-entry.invariant.alone)).0

pub returns-in_err-enter-clause-entered : goal.returns-in_err-enter-clause-entered
returns-in_err-enter-clause-entered c =
    let old = c.loop-entry.self in
    let new = c.enter.new.self in
    let x = c.in-Some.entry in
    let rest = c.next.new.self.rest.items in
    let e = c.in_err-enter.field-0.0 in
    let why : WhyNotAll (plain x ∷ map plain rest) old e = why_not_first (plain x) (map plain rest) old e c.in_err-enter.ensures.entered in
    let all : WhyNotAll (map plain c.args.records.items) c.args.self.now e = c.loop-entry.invariant.rest (Err e) new (subst (λ items. WhyNotAll (map plain items) old e) (sym c.in-Some.ensures.steps.0) why) in
    search (rules, all)

pub returns-in_err-enter-clause-back : goal.returns-in_err-enter-clause-back
returns-in_err-enter-clause-back c =
    let others = c.enter.ensures.others in
    goes_back_on c.args.self.now c.loop-entry.self c.enter.new.self c.loop-entry.invariant.back
    (stepped_back c.loop-entry.self c.enter.new.self c.enter.ensures.back c.enter.ensures.room c.enter.ensures.counted others.3 others.1)

pub returns-clause-entered : goal.returns-clause-entered
returns-clause-entered c =
    let none = nil_from_length c.loop-entry.entry-iterator.rest.items (c.loop-entry.invariant.long ∙ c.in-None.ensures.steps.0) in
    c.loop-entry.invariant.rest (Ok tt) c.loop-entry.self (subst (λ items. AreEntered (map plain items) c.loop-entry.self c.loop-entry.self) (sym none) (enters_none c.loop-entry.self))
