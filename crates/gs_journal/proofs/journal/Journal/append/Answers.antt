use Rattle.std.proofs.Common.{rules, inl, refl, sym, ◌∙◌, ap, arith, ◌+◌, ◌≤◌}
use Rattle.gs_journal.specs.Records.{standing}
use Rattle.gs_journal.specs.Journal.{State, IsWithOrWithout, record_size, with_record}
use Rattle.gs_journal.proofs.Views.{stands, moved, unmoved, comes_about, append_none, unjudged, room_fits, on_ok}
use Rattle.gs_journal.proofs.journal.Journal.append.Goals as goal

pub returns-then-not-fits-clause-any_moment : goal.returns-then-not-fits-clause-any_moment
returns-then-not-fits-clause-any_moment g c is_open =
    let d = g.D.Disk in let j = c.self.inside in
    unmoved d.seen d.may_leave d.moment d.left_since j.disks j.limit j.is_failed c.args.self.now (λ t a b. IsWithOrWithout t c.args.entry.now (standing a b)) c.self.view_is (c.self.invariant c.if-self.false) g.met.D.Disk.only_now (inl refl)

pub returns-clause-judged : goal.returns-clause-judged
returns-clause-judged g c =
    unjudged c.args.self.now c.args.entry.now _ (append_none c.args.self.now c.args.entry.now (sym (ap (λ (v : State _). v.is_failed) c.self.view_is) ∙ c.if-self.false) (room_fits c.args.self.now c.args.entry.now c.room.result c.bytes.result.now c.bytes.ensures.written c.room.ensures (sym c.fits.ensures ∙ c.if-not-fits.false)))

pub returns-clause-stands : goal.returns-clause-stands
returns-clause-stands g c =
    let d = g.D.Disk in let j = c.self.inside in stands d.seen d.may_leave c.put-added.new.self j.limit _ (search rules) (on_ok _ c.put-added.result _ c.in_ok-added.was c.put-added.ensures.settled)

pub returns-clause-any_moment : goal.returns-clause-any_moment
returns-clause-any_moment g c is_open =
    let d = g.D.Disk in let j = c.self.inside in
    moved d.seen d.may_leave d.moment d.left_since j.disks j.limit j.is_failed c.args.self.now (λ t a b. IsWithOrWithout t c.args.entry.now (standing a b)) _ _ c.self.view_is c.put-added.ensures.any_moment

pub returns-in_err-added-clause-judged : goal.returns-in_err-added-clause-judged
returns-in_err-added-clause-judged g c =
    unjudged c.args.self.now c.args.entry.now _ (append_none c.args.self.now c.args.entry.now (sym (ap (λ (v : State _). v.is_failed) c.self.view_is) ∙ c.if-self.false) (room_fits c.args.self.now c.args.entry.now c.room.result c.bytes.result.now c.bytes.ensures.written c.room.ensures (sym c.fits.ensures ∙ c.if-not-fits.false)))

pub returns-in_err-added-clause-either : goal.returns-in_err-added-clause-either
returns-in_err-added-clause-either g c =
    let d = g.D.Disk in let j = c.self.inside in
    comes_about d.seen d.may_leave d.moment d.left_since _ _ _ _ _ g.met.D.Disk.shows g.met.D.Disk.counts_now
    (moved d.seen d.may_leave d.moment d.left_since j.disks j.limit j.is_failed c.args.self.now (λ t a b. IsWithOrWithout t c.args.entry.now (standing a b)) _ _ c.self.view_is c.put-added.ensures.any_moment)

pub returns-clause-added : goal.returns-clause-added
returns-clause-added g c =
    let d = g.D.Disk in
    let fits : c.args.self.now.size + record_size c.args.entry.now ≤ c.args.self.now.limit =
    room_fits c.args.self.now c.args.entry.now c.room.result c.bytes.result.now c.bytes.ensures.written c.room.ensures (sym c.fits.ensures ∙ c.if-not-fits.false) in
    let size = ap (λ (v : State _). v.size) c.self.view_is in
    let limit = ap (λ (v : State _). v.limit) c.self.view_is in
    let end = on_ok _ c.put-added.result _ c.in_ok-added.was c.put-added.ensures.end in
    record {
      text = on_ok _ c.put-added.result _ c.in_ok-added.was c.put-added.ensures.added ∙ ap (λ (v : State _). with_record v.text c.args.entry.now) c.self.view_is;
      size = omega (arith, end, size);
      fits = omega (arith, end, size, limit, fits);
      limit = limit;
      generation = c.put-added.ensures.generation ∙ ap (λ (v : State _). v.generation) c.self.view_is;
    }
