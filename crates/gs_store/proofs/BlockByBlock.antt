-- Blocks of a slot's live replica that hold what its list gives of them.
use Rattle.std.proofs.Common.{◌≡◌, ◌≢◌, ℕ, ◌<◌, true, List, [], ◌∷◌, ◌++◌, length, Option, Some, None, refl, subst}
use Rattle.std.specs.Prelude.{Ok}
use Rattle.gs_base.specs.declared.numbers.Stamp.{Stamp}
use Rattle.gs_base.specs.declared.numbers.ReqId.{ReqId}
use Rattle.gs_block.specs.Edits as blocks
use Rattle.gs_block.specs.Kept.{Others}
use Rattle.gs_block.specs.Stored.{is_intact}
use Rattle.gs_block.proofs.Others.{damage_others}
use Rattle.gs_replica.specs.declared.op.Op.{Op}
use Rattle.gs_replica.specs.Edits.{fresh}
use Rattle.gs_replica.specs.Whole.{IsWhole}
use Rattle.gs_replica.specs.Seals.{State}
use Rattle.gs_replica.specs.Seals as replicas
use Rattle.gs_replica.specs.Stands.{Edit, HoldsBlock, replica_of}
use Rattle.gs_replica.proofs.Blocks.{apply_holds}
use Rattle.gs_replica.proofs.BlockByBlock as replica
use Rattle.gs_replica.proofs.Listing.{seal_ok}
use Rattle.gs_store.specs.Slots.{Live, Slot, damage_of, live_under, marked_live}
use Rattle.gs_store.specs.Serving.{apply_to}
use Rattle.gs_store.specs.Standing.{LiveStandsFor, LiveHoldsBlock, LiveToldFrom, LiveUndamaged, LiveOthers, TrashOthers}
use Rattle.gs_store.specs.Whole.{LiveWhole, TrashWhole}
use Rattle.gs_store.proofs.Laws.{Holds}
use Rattle.gs_store.proofs.Standing.{of_live, of_trash}

pub fresh_holds : (size limit k : ℕ) (stamp : Stamp) → HoldsBlock size limit (fresh size limit stamp) [] k
unfolding replica_of
fresh_holds size limit k stamp = refl

pub edit_holds : (size limit k : ℕ) (stamp : Stamp) (number : ℕ) (req : ReqId) (op : Op) (bytes : List ℕ) (s : Slot) (live : Option Live) (xs : List Edit) → LiveStandsFor size limit live xs → LiveHoldsBlock size limit live xs k
    → Holds (λ x. LiveHoldsBlock size limit x.live (xs ++ (record { req = req; op = op; bytes = bytes }) ∷ []) k) (apply_to stamp number req op bytes s live)
edit_holds size limit k stamp number req op bytes s None xs stands holds = tt
edit_holds size limit k stamp number req op bytes s (Some l) xs stands holds =
    of_live (λ x. LiveHoldsBlock size limit x.live (xs ++ (record { req = req; op = op; bytes = bytes }) ∷ []) k) s l.bad (replicas.apply stamp number req op bytes l.replica)
    (λ r e. apply_holds size limit k l.replica r xs stamp number req op bytes stands holds e)

pub risen_holds : (size limit k : ℕ) (stamp : Stamp) (live : Option Live) (xs : List Edit) → LiveHoldsBlock size limit live xs k → LiveHoldsBlock size limit (live_under stamp live) xs k
risen_holds size limit k stamp None xs holds = holds
risen_holds size limit k stamp (Some l) xs holds = holds

pub damage_holds : (size limit k index : ℕ) (s : Slot) (live : Option Live) (trash : Option State) (xs : List Edit) → k ≢ index → LiveStandsFor size limit live xs → LiveHoldsBlock size limit live xs k
    → Holds (λ x. LiveHoldsBlock size limit x.live xs k) (damage_of index s live trash)
damage_holds size limit k index s None trash xs other stands holds = elim stands [ ]
damage_holds size limit k index s (Some l) trash xs other stands holds =
    of_live (λ x. LiveHoldsBlock size limit x.live xs k) s l.bad (replicas.damage index l.replica)
    (λ r e. replica.damage_holds size limit k index l.replica.held r.held xs other stands holds (seal_ok _ _ r e).0)

pub mark_holds : (size limit k index : ℕ) (live : Option Live) (xs : List Edit) → LiveHoldsBlock size limit live xs k → LiveHoldsBlock size limit (marked_live index live) xs k
mark_holds size limit k index None xs holds = holds
mark_holds size limit k index (Some l) xs holds = holds

pub holds_intact : (size limit k : ℕ) (l : Live) (live : Option Live) (xs : List Edit) → live ≡ Some l → LiveStandsFor size limit live xs → LiveHoldsBlock size limit live xs k → k < length l.replica.held.chunk.digests
    → is_intact size l.replica.held.chunk.bytes l.replica.held.chunk.digests k ≡ true
holds_intact size limit k l live xs is stands holds below =
    replica.holds_intact size limit k l.replica.held xs (subst (λ o. LiveStandsFor size limit o xs) is stands) below (subst (λ o. LiveHoldsBlock size limit o xs k) is holds)

pub undamaged_holds : (size limit k : ℕ) (live : Option Live) (xs : List Edit) → LiveStandsFor size limit live xs → LiveToldFrom size limit live xs → LiveUndamaged live → LiveHoldsBlock size limit live xs k
undamaged_holds size limit k None xs stands told none = stands
undamaged_holds size limit k (Some l) xs stands told none = replica.undamaged_holds size limit k l.replica.held xs stands told none

-- ---- what damage leaves

struck_others : (index : ℕ) (r q : State) → IsWhole r → replicas.damage index r ≡ Ok q → Others index r.held.chunk q.held.chunk
struck_others index r q whole is =
    let stored = whole.stands in
    damage_others r.held.chunk q.held.chunk index stored.some_block (replica.chunk_left r.held q.held (blocks.damage r.held.chunk index) (seal_ok _ _ q is).0)

pub damage_leaves : (index : ℕ) (s : Slot) (live : Option Live) (trash : Option State) → s.live ≡ live → s.trash ≡ trash → LiveWhole live → TrashWhole trash
    → Holds (λ x. LiveOthers index live x.live × TrashOthers index live trash x.trash) (damage_of index s live trash)
damage_leaves index s None None live_is trash_is live_whole trash_whole = tt
damage_leaves index s None (Some r) live_is trash_is live_whole trash_whole =
    of_trash (λ x. LiveOthers index None x.live × TrashOthers index None (Some r) x.trash) s (replicas.damage index r) (λ q e. (live_is, struck_others index r q trash_whole e))
damage_leaves index s (Some l) trash live_is trash_is live_whole trash_whole =
    of_live (λ x. LiveOthers index (Some l) x.live × TrashOthers index (Some l) trash x.trash) s l.bad (replicas.damage index l.replica) (λ q e. ((struck_others index l.replica q live_whole e, refl), trash_is))
