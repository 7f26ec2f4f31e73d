-- Worked: a chunk of one replica that is written, prepared, written again, and rolled back.
use Rattle.std.specs.Prelude.{◌≡◌, ℕ, Bool, true, false, nat_eq, List, [], ◌∷◌, ◌++◌, Some, None, refl}
use Rattle.gs_base.specs.declared.numbers.ClientId.{ClientId}
use Rattle.gs_base.specs.declared.epoch.EpochEnd.TheVariants.{Prepare, Finalize, Rollback}
use Rattle.gs_replica.specs.declared.op.Op.TheVariants.{Append}
use Rattle.gs_replica.specs.Stands.{Edit}
use Rattle.gs_laws_chunk.specs.machine.Stamps.{epoch_of, start_of}
use Rattle.gs_laws_chunk.specs.machine.Machine.{ChunkWorld}
use Rattle.gs_laws_chunk.specs.machine.Events.{Event, Raises, Rises, TakesLease, Numbers, Answers, Learns, Names, Proposes, AsksFirst, Asks, Settles, Grants, Prepares, BeginsRollback, CommitsRollback, TellsEpoch, new_lease, opened, run, born}
use Rattle.gs_laws_chunk.specs.machine.Laws.{settled}

abbrev pub client : ClientId
client = record { 0 = 7 }

abbrev pub edit : ℕ → Edit
edit number = record { req = record { client = client; number = number }; op = Append; bytes = number ∷ [] }

abbrev pub server : List ℕ
server = 0 ∷ []

abbrev pub only : ℕ → Bool
only j = nat_eq j 0

-- in epoch 0, with no edits
abbrev pub at_first : ChunkWorld
at_first = born 0 (λ _. Finalize) []

-- settled under version 1 with a lease; one edit is numbered, and done at once, since there is one member
abbrev pub writes_once : List Event
writes_once = Proposes 1 only ∷ AsksFirst 0 false ∷ Raises 0 1 [] None ∷ Settles server 0 (Some 0) ∷ Grants 0 ∷ TakesLease 0 1 server ∷ Numbers 0 (new_lease 1 server) [] (edit 1)
    ∷ Answers 0 (opened 0 (new_lease 1 server) 0 (edit 1)) 0 (edit 1) ∷ []

-- settled under version 2 without a lease; prepared; the server learns it
abbrev pub prepares_it : List Event
prepares_it = Proposes 2 only ∷ Asks 0 ∷ Rises 0 2 (edit 1 ∷ []) ∷ Settles server 1 None ∷ Prepares only ∷ TellsEpoch 0 1 ∷ Learns 0 Prepare false ∷ []

-- the first stamp of the upgrade, its epoch 1 and version 3
abbrev pub upgraded : ℕ
upgraded = 18446744073709551619

abbrev pub writes_again : List Event
writes_again = Proposes upgraded only ∷ Asks 0 ∷ Rises 0 upgraded (edit 1 ∷ []) ∷ Settles server 1 (Some 0) ∷ Grants 0 ∷ TakesLease 0 upgraded server ∷ Numbers 0 (new_lease upgraded server) (edit 1 ∷ []) (edit 2)
    ∷ Answers 0 (opened 0 (new_lease upgraded server) 1 (edit 2)) 1 (edit 2) ∷ []

abbrev pub rolls_back : List Event
rolls_back = BeginsRollback ∷ TellsEpoch 0 2 ∷ Learns 0 Rollback false ∷ Names 0 (edit 1 ∷ []) ∷ CommitsRollback server true ∷ []

abbrev pub whole_run : List Event
whole_run = writes_once ++ prepares_it ++ writes_again ++ rolls_back

abbrev pub written : ChunkWorld
written = run at_first writes_once

abbrev pub prepared : ChunkWorld
prepared = run written prepares_it

abbrev pub written_again : ChunkWorld
written_again = run prepared writes_again

abbrev pub rolled_back : ChunkWorld
rolled_back = run written_again rolls_back

one_edit_is_settled : settled written ≡ edit 1 ∷ []
unfolding epoch_of start_of
one_edit_is_settled = refl

what_was_sealed : (prepared.members 0).image ≡ Some (edit 1 ∷ [])
unfolding epoch_of start_of
what_was_sealed = refl

then_two_are : settled written_again ≡ edit 1 ∷ edit 2 ∷ []
unfolding epoch_of start_of
then_two_are = refl

and_one_again : settled rolled_back ≡ edit 1 ∷ []
unfolding epoch_of start_of
and_one_again = refl

the_replica_too : (rolled_back.members 0).live ≡ Some (edit 1 ∷ [])
unfolding epoch_of start_of
the_replica_too = refl

under_the_first_stamp : (rolled_back.members 0).promise ≡ start_of 2
unfolding epoch_of start_of
under_the_first_stamp = refl
