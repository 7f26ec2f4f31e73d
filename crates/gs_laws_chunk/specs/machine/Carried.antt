-- Worked: a chunk of two replicas that is written and prepared; one server loses its replica; a third is sent a copy with the sealed image; the
-- chunk is written again; the other server loses its replica too; and the third gives back what stood at the prepare.
use Rattle.std.specs.Prelude.{◌≡◌, ℕ, ◌+◌, Bool, true, false, ◌||◌, nat_eq, List, [], ◌∷◌, ◌++◌, Some, None, refl}
use Rattle.gs_base.specs.declared.epoch.EpochEnd.TheVariants.{Prepare, Finalize, Rollback}
use Rattle.gs_replica.specs.Stands.{Edit}
use Rattle.gs_laws_chunk.specs.machine.Stamps.{epoch_of, start_of}
use Rattle.gs_laws_chunk.specs.machine.Machine.{MemberLease, ChunkWorld}
use Rattle.gs_laws_chunk.specs.machine.Events.{Event, Raises, Rises, SendsCopy, TakesLease, Numbers, Forwards, Applies, Acknowledges, Hears, Answers, Loses, Learns, Names, Proposes, AsksFirst, Asks, AsksForCopy, Holds, Settles, Grants, Prepares, BeginsRollback, CommitsRollback, TellsEpoch, new_lease, opened, told_by, run, born}
use Rattle.gs_laws_chunk.specs.machine.Laws.{settled}
use Rattle.gs_laws_chunk.specs.machine.Worked.{edit, upgraded}

-- the first two servers, and all three
abbrev pub two : List ℕ
two = 0 ∷ 1 ∷ []

abbrev pub are_two : ℕ → Bool
are_two j = nat_eq j 0 || nat_eq j 1

abbrev pub are_three : ℕ → Bool
are_three j = nat_eq j 0 || (nat_eq j 1 || nat_eq j 2)

-- those of the view that is settled with the copy
abbrev pub others : List ℕ
others = 0 ∷ 2 ∷ []

abbrev pub at_first : ChunkWorld
at_first = born 0 (λ _. Finalize) []

-- a lease under which an edit of these waits at a place, and with what a member has told of it
abbrev pub waiting : ℕ → List ℕ → ℕ → Edit → MemberLease
waiting stamp members place e = opened 0 (new_lease stamp members) place e

abbrev pub heard : ℕ → List ℕ → ℕ → Edit → ℕ → MemberLease
heard stamp members place e from = told_by (waiting stamp members place e) from (place + 1)

-- settled on both under version 1; the first numbers an edit and forwards it, and it is done once the second has told that it has it
abbrev pub writes_once : List Event
writes_once = Proposes 1 are_two ∷ AsksFirst 0 false ∷ AsksFirst 1 false ∷ Raises 0 1 [] None ∷ Raises 1 1 [] None ∷ Settles two 0 (Some 0) ∷ Grants 0 ∷ TakesLease 0 1 two ∷ Numbers 0 (new_lease 1 two) [] (edit 1)
    ∷ Forwards 0 (waiting 1 two 0 (edit 1)) 1 0 (edit 1) ∷ Applies 1 [] (edit 1) ∷ Acknowledges 1 (edit 1 ∷ []) ∷ Hears 0 (waiting 1 two 0 (edit 1)) 1 1 ∷ Answers 0 (heard 1 two 0 (edit 1) 1) 0 (edit 1) ∷ []

-- settled under version 2 without a lease; prepared; the first server learns it, and the second loses its replica
abbrev pub prepares_it : List Event
prepares_it = Proposes 2 are_two ∷ Asks 0 ∷ Asks 1 ∷ Rises 0 2 (edit 1 ∷ []) ∷ Rises 1 2 (edit 1 ∷ []) ∷ Settles two 1 None ∷ Prepares are_two ∷ TellsEpoch 0 1 ∷ Learns 0 Prepare false ∷ Loses 1 ∷ []

-- the third is sent a copy with the image that the first has sealed, and stands in the next view
abbrev pub carries_it : List Event
carries_it = Proposes upgraded are_three ∷ Asks 0 ∷ Rises 0 upgraded (edit 1 ∷ []) ∷ TellsEpoch 2 1 ∷ Learns 2 Prepare false ∷ AsksForCopy 0 2 true ∷ SendsCopy 0 upgraded 2 (edit 1 ∷ []) (Some (edit 1 ∷ []))
    ∷ Raises 2 upgraded (edit 1 ∷ []) (Some (edit 1 ∷ [])) ∷ Holds 2 ∷ Settles others 1 (Some 0) ∷ []

-- written again, and then the first loses its replica
abbrev pub writes_again : List Event
writes_again = Grants 0 ∷ TakesLease 0 upgraded others ∷ Numbers 0 (new_lease upgraded others) (edit 1 ∷ []) (edit 2) ∷ Forwards 0 (waiting upgraded others 1 (edit 2)) 2 1 (edit 2) ∷ Applies 2 (edit 1 ∷ []) (edit 2)
    ∷ Acknowledges 2 (edit 1 ∷ edit 2 ∷ []) ∷ Hears 0 (waiting upgraded others 1 (edit 2)) 2 2 ∷ Answers 0 (heard upgraded others 1 (edit 2) 2) 1 (edit 2) ∷ Loses 0 ∷ []

abbrev pub rolls_back : List Event
rolls_back = BeginsRollback ∷ TellsEpoch 2 2 ∷ Learns 2 Rollback false ∷ Names 2 (edit 1 ∷ []) ∷ CommitsRollback (2 ∷ []) true ∷ []

abbrev pub whole_run : List Event
whole_run = writes_once ++ prepares_it ++ carries_it ++ writes_again ++ rolls_back

abbrev pub written : ChunkWorld
written = run at_first writes_once

abbrev pub prepared : ChunkWorld
prepared = run written prepares_it

abbrev pub carried : ChunkWorld
carried = run prepared carries_it

abbrev pub written_again : ChunkWorld
written_again = run carried writes_again

abbrev pub rolled_back : ChunkWorld
rolled_back = run written_again rolls_back

one_edit_is_settled : settled written ≡ edit 1 ∷ []
unfolding epoch_of start_of
one_edit_is_settled = refl

the_first_has_sealed_it : (prepared.members 0).image ≡ Some (edit 1 ∷ [])
unfolding epoch_of start_of
the_first_has_sealed_it = refl

the_second_has_nothing : (prepared.members 1).live ≡ None
unfolding epoch_of start_of
the_second_has_nothing = refl

the_third_has_it_sealed : (carried.members 2).image ≡ Some (edit 1 ∷ [])
unfolding epoch_of start_of
the_third_has_it_sealed = refl

then_two_are_settled : settled written_again ≡ edit 1 ∷ edit 2 ∷ []
unfolding epoch_of start_of
then_two_are_settled = refl

and_one_again : settled rolled_back ≡ edit 1 ∷ []
unfolding epoch_of start_of
and_one_again = refl

the_third_has_it_live : (rolled_back.members 2).live ≡ Some (edit 1 ∷ [])
unfolding epoch_of start_of
the_third_has_it_live = refl

under_the_first_stamp_of_the_rollback : (rolled_back.members 2).promise ≡ start_of 2
unfolding epoch_of start_of
under_the_first_stamp_of_the_rollback = refl
