use Rattle.std.proofs.Common.{◌∙◌, ap, inr, map, refl, rules, subst, sym}
use Rattle.gs_master_record.specs.Plain.{plain_edit, plain_inverse}
use Rattle.gs_base_table.specs.Slots.{live}
use Rattle.gs_master_spec.specs.Durable.{Durable}
use Rattle.gs_master_state.specs.inner.Recorded.{KeepsRooms, durable_of, inverses_and}
use Rattle.gs_master_spec.specs.Replies.{client_cmp}
use Rattle.gs_master_state.specs.inner.TakingBack.{AreItemsBefore, AreNamesBefore, HasPlaceBack, places_before}
use Rattle.gs_master_state.specs.declared.recorded.Recorded.{Recorded}
use Rattle.gs_master_state.proofs.Before.{edit_before, room_for_chunks_stays}
use Rattle.gs_master_state.proofs.Edits.{edit_refused, edited_gives, may_not, names_after, names_left}
use Rattle.gs_master_state.proofs.recorded.Recorded.enter_edit.Goals as goal

pub returns-then-not-branch-clause-applied : goal.returns-then-not-branch-clause-applied
returns-then-not-branch-clause-applied c = (inr (may_not (durable_of c.args.self.now) c.args.by (plain_edit c.args.edit.now) (search rules), refl), refl)

pub returns-in-Err-clause-applied : goal.returns-in-Err-clause-applied
returns-in-Err-clause-applied c = edit_refused (durable_of c.args.self.now) c.args.by c.args.edit.now c.in-Err.refusal c.unfit.result c.enter_names.new.names.names c.unfit.ensures c.in-Err.ensures.edit

pub returns-clause-applied : goal.returns-clause-applied
returns-clause-applied c =
    let left = durable_of c.enter_forgotten_each.new.self in
    let answered : Durable = record left { next_hidden = c.next_behind-self.result; replies = live client_cmp c.enter_answer-reply.new.replies } in
    edited_gives (durable_of c.args.self.now) left answered (record answered { inverses = map plain_inverse c.enter_inverse-keeps_inverse.new.inverses.items })
    c.args.by c.args.edit.now c.enter_names.new.names.names c.next_behind-self.result c.in_ok-answer.answer c.args.inverse.now
    (search rules) (names_after c.args.edit.now c.args.self.now.names.names c.enter_names.new.names.names c.in-Ok.ensures.edit)
    c.next_behind-self.ensures (search rules) c.requires.back (search rules)
    (λ i. record left { next_hidden = c.next_behind-self.result; replies = c.enter_answer-reply.ensures.value i })
    (λ i. record answered { inverses = (c.enter_inverse-keeps_inverse.ensures.value ∙ ap (inverses_and left.inverses) c.take.ensures.value) i })

pub returns-clause-back : goal.returns-clause-back
returns-clause-back c =
    let left = c.enter_forgotten_each.new.self in
    let now : Recorded = record left { next_hidden = c.next_behind-self.result; replies = c.enter_answer-reply.new.replies; inverses = c.enter_inverse-keeps_inverse.new.inverses } in
    let forgotten = c.enter_forgotten_each.new.before.items in
    let replied : KeepsRooms left now = record { leases = record { keeps = λ key room. room }; replies = c.enter_answer-reply.ensures.keeps; prepared = record { keeps = λ key room. room }; places = refl } in
    let same_names = ap (λ (d : Durable). d.names) c.enter_forgotten_each.ensures.value ∙ names_left (durable_of (record c.args.self.now { names = c.enter_names.new.names })) c.forgotten_by-chunks.result.now in
    record {
      value = record {
        names = subst (AreNamesBefore c.in-Ok.before c.args.self.now.names.names) (sym same_names) c.in-Ok.ensures.back;
        inverses = subst (λ v. AreItemsBefore c.enter_inverse-keeps_inverse.result (map plain_inverse v.items) (map plain_inverse c.enter_inverse-keeps_inverse.new.inverses.items)) c.enter_forgotten_each.ensures.inverses c.enter_inverse-keeps_inverse.ensures.back;
        rest = edit_before (durable_of c.args.self.now) (durable_of left) c.enter_names.new.names.names forgotten c.next_behind-self.result (live client_cmp c.enter_answer-reply.new.replies)
            (map plain_inverse c.enter_inverse-keeps_inverse.new.inverses.items) c.enter_answer-reply.result c.enter_forgotten_each.ensures.back
            (ap (live client_cmp) (sym c.enter_forgotten_each.ensures.replies) ∙ c.enter_answer-reply.ensures.back);
      };
      leases = c.enter_forgotten_each.ensures.leases;
      room = (
        c.enter_answer-reply.ensures.room,
        room_for_chunks_stays left now forgotten c.enter_forgotten_each.ensures.room replied,
        subst (λ o. HasPlaceBack o c.in-Ok.before) (sym c.enter_forgotten_each.ensures.keeps.places) c.in-Ok.ensures.places.1,
      );
      keeps = record {
        leases = c.enter_forgotten_each.ensures.keeps.leases;
        replies = record { keeps = λ key room. c.enter_answer-reply.ensures.keeps.keeps key (c.enter_forgotten_each.ensures.keeps.replies.keeps key room) };
        prepared = c.enter_forgotten_each.ensures.keeps.prepared;
        places = ap (places_before c.in-Ok.before) c.enter_forgotten_each.ensures.keeps.places ∙ sym c.in-Ok.ensures.places.0;
      };
    }
