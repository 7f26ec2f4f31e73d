use Rattle.std.proofs.Common.{◌≡◌, false, None, [], ◌∷◌, refl}
use Rattle.std.specs.Prelude.{Ok, Err, is_some, cond}
use Rattle.gs_base.specs.declared.refusal.Refusal.TheVariants as refusals
use Rattle.gs_base.specs.Stamps.{is_before}
use Rattle.gs_replica.specs.Edits.{fresh}
use Rattle.gs_replica.specs.Seals.{roll_back_to}
use Rattle.gs_store.specs.Slots.{create, advance, drop_replica, take_lease, lose, lost, risen, removed, taking, first_of, when, unless_live, if_bad, unless_promised, check_grant, is_taken, sealed_of}
use Rattle.gs_store_seal.specs.Rollback.{later}
use Rattle.gs_store.specs.Learning.{start_of}
use Rattle.gs_store.specs.Moves.{take_copy}
use Rattle.gs_store.proofs.Laws.{of_ok, of_cond, of_unless, of_raised, not_both, not_before_itself, rolled_rises, not_old}
use Rattle.gs_store.proofs.Running.{run_rises}
use Rattle.gs_store.proofs.promises.promises_never_fall.Goals as goal

pub returns-clause-create : goal.returns-clause-create
returns-clause-create c block chunk stamp s s2 is =
    of_ok (λ x. is_before x.promise s.promise ≡ false) (create block chunk stamp s) s2 is
    (of_raised (λ x. is_before x.promise s.promise ≡ false) stamp false (record { held = fresh block chunk stamp; sealed = None }) s (not_before_itself s.promise) (not_both s.promise stamp))

pub returns-clause-take_copy : goal.returns-clause-take_copy
returns-clause-take_copy c h s s2 is =
    of_ok (λ x. is_before x.promise s.promise ≡ false) (take_copy h s) s2 is
    (of_raised (λ x. is_before x.promise s.promise ≡ false) h.promise false (record { held = h; sealed = None }) s (not_before_itself s.promise) (not_both s.promise h.promise))

pub returns-clause-advance : goal.returns-clause-advance
returns-clause-advance c stamp s s2 is =
    of_ok (λ x. is_before x.promise s.promise ≡ false) (advance stamp s) s2 is
    (of_unless (λ x. is_before x.promise s.promise ≡ false) (first_of (unless_live s.live ∷ if_bad s.live ∷ when (is_before stamp s.promise) refusals.Old ∷ [])) (risen stamp s)
    (not_old (unless_live s.live) (if_bad s.live) (is_before stamp s.promise) refusals.Old))

pub returns-clause-drop_replica : goal.returns-clause-drop_replica
returns-clause-drop_replica c promise s s2 is =
    of_ok (λ x. x.promise ≡ s.promise) (drop_replica promise s) s2 is
    (of_unless (λ x. x.promise ≡ s.promise) (first_of (unless_promised promise s ∷ unless_live s.live ∷ [])) (removed s) (λ _. refl))

pub returns-clause-lose : goal.returns-clause-lose
returns-clause-lose c s s2 is =
    of_ok (λ x. x.promise ≡ s.promise) (lose s) s2 is
    (of_cond (λ x. x.promise ≡ s.promise) (is_some s.live) (Ok (lost s)) (cond (is_some s.trash) (Ok (lost s)) (Err refusals.NoReplica)) (λ _. refl)
    (λ _. of_cond (λ x. x.promise ≡ s.promise) (is_some s.trash) (Ok (lost s)) (Err refusals.NoReplica) (λ _. refl) (λ _. tt)))

pub returns-clause-take_lease : goal.returns-clause-take_lease
returns-clause-take_lease c stamp s s2 is =
    of_ok (λ x. x.promise ≡ s.promise) (take_lease stamp s) s2 is
    (of_unless (λ x. x.promise ≡ s.promise) (first_of (check_grant stamp s ∷ when (is_taken stamp s.taken) refusals.Old ∷ [])) (taking stamp s) (λ _. refl))

pub returns-clause-rolled_back : goal.returns-clause-rolled_back
returns-clause-rolled_back c epoch s = rolled_rises (roll_back_to (later s.promise (start_of epoch)) (sealed_of s)) epoch s

pub returns-clause-run : goal.returns-clause-run
returns-clause-run c block chunk s end calls leads = run_rises block chunk s end calls leads
