-- What stood in a table before something was put there, and that putting it back gives the table of before.
use Rattle.std.proofs.Common.{◌≡◌, ◌⊎◌, inl, inr, ◌∙◌, ℕ, Bool, true, false, cond, List, [], ◌∷◌, ◌++◌, map, refl, ap, subst, sym}
use Rattle.std.proofs.lemmas.Bool.{false≢true}
use Rattle.std.specs.Prelude.{Option, Some, None, option_and_then, is_some, unwrap_or, Result, Ok, Err, IfErr}
use Rattle.std.specs.Option.{option_flatten}
use Rattle.std.specs.declared.cmp.Ordering.{Ordering}
use Rattle.std.specs.declared.cmp.Ordering.TheVariants.{Less, Equal, Greater}
use Rattle.std.specs.Cmp.{IsTotalOrder, nat_cmp_total, on_total}
use Rattle.std.specs.Ordering.{nat_cmp, eq_by_cmp, is_eq}
use Rattle.std.specs.FinMap as fin
use Rattle.gs_base.specs.declared.numbers.ClientId.{ClientId}
use Rattle.gs_base.specs.declared.refusal.Refusal.{Refusal}
use Rattle.gs_base.specs.declared.refusal.Refusal.TheVariants.{BadLine, Memory}
use Rattle.gs_edit.specs.Names.{FitsTree, Undoes, counts_after, takes_memory}
use Rattle.gs_edit.specs.View.{NamesView, names_of}
use Rattle.gs_edit.specs.declared.edit.Inverse.{Inverse}
use Rattle.gs_lease.specs.Transitions.{restored}
use Rattle.gs_lease.specs.declared.lease.Lease.{Lease}
use Rattle.gs_lease.specs.declared.view.Term.{Term}
use Rattle.gs_lease.specs.declared.view.View.{View}
use Rattle.gs_base.specs.declared.numbers.Stamp.{Stamp}
use Rattle.gs_lease_table.specs.Settlings.{MayTellSettled, tells_settled}
use Rattle.gs_path.specs.Path.{path_total}
use Rattle.gs_master_record.specs.Plain.{PlainEntry, PlainInverse, plain_inverse}
use Rattle.gs_base.specs.declared.epoch.EpochEnd.{EpochEnd}
use Rattle.gs_master_record.specs.declared.checkpoint.Phase.{Phase}
use Rattle.gs_base_table.specs.Slots.{live, set_live, HasRoom, KeepsRoom}
use Rattle.gs_base_table.proofs.Lives.{get-live}
use Rattle.gs_base_table.specs.Keys.{client_exact}
use Rattle.gs_master_spec.specs.Applied.{view_in, with_epoch}
use Rattle.gs_master_spec.specs.Durable.{Durable, kept_before, prepared_view, with_prepared}
use Rattle.gs_master_state.specs.inner.Recorded.{Applies, KeepsRooms, chunks_of, settled_by}
use Rattle.gs_master_spec.specs.Replies.{client_cmp}
use Rattle.gs_master_state.specs.inner.TakingBack.{AreNamesBefore, Enters, HasPlaceBack, IsEditBefore, LeaseAt, TakeBack, TakesBack, RoomAt, RoomBack, RoomForAll, RoomForChunk, RoomForChunks, RoomForReply, all_leases_before, all_rooms_before, leases_before, places_before, rooms_before, with_chunk_before, with_chunks_before, with_leases_before, with_moved_before, with_proposed_before, with_reply_before, with_settled_before}
use Rattle.gs_master_spec.specs.declared.asking.Prepared.{Prepared}
use Rattle.gs_master_state.specs.declared.recorded.Recorded.{Recorded}
use Rattle.gs_master_spec.specs.declared.reply.KeptReply.{KeptReply}
use Rattle.gs_master_state.specs.declared.undo.ChunkBefore.{ChunkBefore}
use Rattle.gs_master_state.specs.declared.undo.EditBefore.{EditBefore}
use Rattle.gs_master_state.specs.declared.undo.KeptBefore.{KeptBefore}
use Rattle.gs_master_state.specs.declared.undo.NamesBefore.TheVariants.{Undone}
use Rattle.gs_master_state.specs.declared.undo.ReplyBefore.{ReplyBefore}
use Rattle.gs_master_state.specs.declared.undo.Undo.{Undo}
use Rattle.gs_master_state.specs.declared.undo.Undo.TheVariants as undos
use Rattle.gs_master_state.proofs.Recording.{get_chunks}

is_equal : (r : Ordering) → is_eq r ≡ true → r ≡ Equal
is_equal Less h = absurd (false≢true h)
is_equal Equal h = refl
is_equal Greater h = absurd (false≢true h)

module _ {K V : Type 0} {R : K → K → Ordering} (o : IsTotalOrder R) (same : fin.IsAntisymmetric R) where
  pub get_set_live : (k : K) (w : Option V) (m : fin.FinMap R V) (q : K) → fin.get (set_live k w m) q ≡ cond (eq_by_cmp R q k) w (fin.get m q)
  get_set_live k (Some v) m q = fin.get-insert o m k v q
  get_set_live k None m q = fin.get-remove o m k q

  -- what stood at the one key that changed is put back
  pub set_back : (m n : fin.FinMap R V) (k : K) → ((q : K) → eq_by_cmp R q k ≡ false → fin.get n q ≡ fin.get m q) → set_live k (fin.get m k) n ≡ m
  set_back m n k others = fin.same_map o same _ _ (λ q. get_set_live k (fin.get m k) n q ∙ at q (eq_by_cmp R q k) refl)
    where
      at : (q : K) (b : Bool) → eq_by_cmp R q k ≡ b → cond b (fin.get m k) (fin.get n q) ≡ fin.get m q
      at q true tied = ap (fin.get m) (sym (same q k (is_equal (R q k) tied)))
      at q false apart = others q apart

  other_kept : (b : Bool) (x y : Option V) → b ≡ false → cond b x y ≡ y
  other_kept true x y apart = absurd (false≢true (sym apart))
  other_kept false x y apart = refl

  pub put_undone : (m : fin.FinMap R V) (k : K) (v : V) → set_live k (fin.get m k) (fin.insert m k v) ≡ m
  put_undone m k v = set_back m (fin.insert m k v) k (λ q apart. fin.get-insert o m k v q ∙ other_kept (eq_by_cmp R q k) (Some v) (fin.get m q) apart)

  pub remove_undone : (m : fin.FinMap R V) (k : K) → set_live k (fin.get m k) (fin.remove m k) ≡ m
  remove_undone m k = set_back m (fin.remove m k) k (λ q apart. fin.get-remove o m k q ∙ other_kept (eq_by_cmp R q k) None (fin.get m q) apart)

  pub nothing_undone : (m : fin.FinMap R V) (k : K) → set_live k (fin.get m k) m ≡ m
  nothing_undone m k = set_back m m k (λ q apart. refl)

  -- what an exchange answers is put back
  pub exchanged : (m n : fin.FinMap R V) (k : K) (v : V) (before : Option V) → before ≡ fin.get m k → n ≡ fin.insert m k v → m ≡ set_live k before n
  exchanged m n k v before is put = sym (ap (λ w. set_live k w n) is ∙ ap (set_live k (fin.get m k)) put ∙ put_undone m k v)

  pub taken_out : (m n : fin.FinMap R V) (k : K) (before : Option V) → before ≡ fin.get m k → n ≡ fin.remove m k → m ≡ set_live k before n
  taken_out m n k before is took = sym (ap (λ w. set_live k w n) is ∙ ap (set_live k (fin.get m k)) took ∙ remove_undone m k)

-- ---- room

pub room_at : {K V : Type 0} (R : K → K → Ordering) (slots : List (K × Option V)) (k : K) (before : Option V) → HasRoom R slots k → RoomAt R slots k before
room_at R slots k None room = tt
room_at R slots k (Some v) room = room

pub room_at_stays : {K V : Type 0} (R : K → K → Ordering) (slots more : List (K × Option V)) (k : K) (before : Option V) → RoomAt R slots k before → KeepsRoom R slots more → RoomAt R more k before
room_at_stays R slots more k None room keeps = tt
room_at_stays R slots more k (Some v) room keeps = keeps.keeps k room

held_room : {V : Type 0} (slot : Option (Option V)) (v : V) → Some v ≡ option_flatten slot → is_some slot ≡ true
held_room None v is = absurd (false≢true (sym (ap is_some is)))
held_room (Some w) v is = refl

-- what stood at a key had room
pub room_where_stood : {K V : Type 0} {R : K → K → Ordering} (o : IsTotalOrder R) (slots : List (K × Option V)) (k : K) (before : Option V) → before ≡ fin.get (live R slots) k → RoomAt R slots k before
room_where_stood o slots k None is = tt
room_where_stood {R = R} o slots k (Some v) is = record { slot = held_room (fin.find R k slots) v (is ∙ get-live o slots k) }

-- ---- leases that stood

pub lease_at : (slots : List (ℕ × Option Lease)) (k : ℕ) (before : Option Lease) → HasRoom nat_cmp slots k → MayTellSettled before → LeaseAt slots k before
lease_at slots k None room tells = tt
lease_at slots k (Some lease) room tells = (room, tells)

pub lease_at_stays : (slots more : List (ℕ × Option Lease)) (k : ℕ) (before : Option Lease) → LeaseAt slots k before → KeepsRoom nat_cmp slots more → LeaseAt more k before
lease_at_stays slots more k None room keeps = tt
lease_at_stays slots more k (Some lease) room keeps = (keeps.keeps k room.0, room.1)

pub lease_where_stood : (slots : List (ℕ × Option Lease)) (k : ℕ) (before : Option Lease) → before ≡ fin.get (live nat_cmp slots) k → MayTellSettled before → LeaseAt slots k before
lease_where_stood slots k None is tells = tt
lease_where_stood slots k (Some lease) is tells = (room_where_stood nat_cmp_total slots k (Some lease) is, tells)

pub restored_tells : (view : View) (stamp : Option Stamp) → tells_settled (restored view stamp) ≡ true
restored_tells view (Some stamp) = refl
restored_tells view None = by_term view.stamp view.count view.members view.term
  where
    by_term : (stamp : Stamp) (count : ℕ) (members : List ℕ) (term : Option Term) → tells_settled (restored (record { stamp = stamp; count = count; members = members; term = term }) None) ≡ true
    by_term stamp count members None = refl
    by_term stamp count members (Some term) = refl

room_for_reply_stays : (slots more : List (ClientId × Option KeptReply)) (before : Option ReplyBefore) → RoomForReply slots before → KeepsRoom client_cmp slots more → RoomForReply more before
room_for_reply_stays slots more None room keeps = tt
room_for_reply_stays slots more (Some before) room keeps = room_at_stays client_cmp slots more before.client before.reply room keeps

pub room_for_chunk_stays : (r s : Recorded) (before : ChunkBefore) → RoomForChunk r before → KeepsRooms r s → RoomForChunk s before
room_for_chunk_stays r s before room keeps =
    (lease_at_stays r.leases s.leases before.chunk before.lease room.0 keeps.leases, room_at_stays nat_cmp r.prepared s.prepared before.chunk before.prepared room.1 keeps.prepared)

pub room_for_chunks_stays : (r s : Recorded) (chunks : List ChunkBefore) → RoomForChunks r chunks → KeepsRooms r s → RoomForChunks s chunks
room_for_chunks_stays r s [] room keeps = tt
room_for_chunks_stays r s (before ∷ more) room keeps = (room_for_chunk_stays r s before room.0 keeps, room_for_chunks_stays r s more room.1 keeps)

-- what taking a record back wants is still there once others were entered or taken back
pub room_back_stays : (r s : Recorded) (undo : Undo) → RoomBack r undo → KeepsRooms r s → RoomBack s undo
room_back_stays r s (undos.Said reply) room keeps = room_for_reply_stays r.replies s.replies reply room keeps.replies
room_back_stays r s (undos.Propose p) room keeps = lease_at_stays r.leases s.leases p.chunk p.lease room keeps.leases
room_back_stays r s (undos.Settle chunk) room keeps = room_for_chunk_stays r s chunk room keeps
room_back_stays r s (undos.Holder chunk prepared) room keeps = room_at_stays nat_cmp r.prepared s.prepared chunk prepared room keeps.prepared
room_back_stays r s (undos.RollbackBegin epoch) room keeps = tt
room_back_stays r s (undos.Edit e) room keeps = (room_for_reply_stays r.replies s.replies e.reply room.0 keeps.replies, room_for_chunks_stays r s e.forgotten.items room.1 keeps, subst (λ o. HasPlaceBack o e.names) (sym keeps.places) room.2)
room_back_stays r s (undos.Epoch e) room keeps = tt
room_back_stays r s (undos.RollbackCommit b) room keeps = tt

same_slots : {K V : Type 0} {R : K → K → Ordering} (slots : List (K × Option V)) → KeepsRoom R slots slots
same_slots slots = record { keeps = λ key room. room }

-- and so are the tables that are put back
keeps_before : (r s : Recorded) (undo : Undo) → KeepsRooms r s → KeepsRooms (rooms_before undo r) (rooms_before undo s)
keeps_before r s (undos.Said reply) keeps = keeps
keeps_before r s (undos.Propose p) keeps = keeps
keeps_before r s (undos.Settle chunk) keeps = keeps
keeps_before r s (undos.Holder chunk prepared) keeps = keeps
keeps_before r s (undos.RollbackBegin epoch) keeps = keeps
keeps_before r s (undos.Edit e) keeps = record { leases = keeps.leases; replies = keeps.replies; prepared = keeps.prepared; places = ap (places_before e.names) keeps.places }
keeps_before r s (undos.Epoch e) keeps = record { leases = keeps.leases; replies = keeps.replies; prepared = same_slots e.kept.prepared; places = keeps.places }
keeps_before r s (undos.RollbackCommit b) keeps = record { leases = same_slots b.leases; replies = keeps.replies; prepared = same_slots b.kept.prepared; places = refl }

pub all_keep_before : (r s : Recorded) (all : List Undo) → KeepsRooms r s → KeepsRooms (all_rooms_before all r) (all_rooms_before all s)
all_keep_before r s [] keeps = keeps
all_keep_before r s (undo ∷ more) keeps = keeps_before (all_rooms_before more r) (all_rooms_before more s) undo (all_keep_before r s more keeps)

pub room_for_all_stays : (r s : Recorded) (all : List Undo) → RoomForAll r all → KeepsRooms r s → RoomForAll s all
room_for_all_stays r s [] room keeps = tt
room_for_all_stays r s (undo ∷ more) room keeps =
    (room_back_stays (all_rooms_before more r) (all_rooms_before more s) undo room.0 (all_keep_before r s more keeps), room_for_all_stays r s more room.1 keeps)

pub none_to_remove : (m : fin.FinMap nat_cmp Lease) (k : ℕ) → fin.get m k ≡ None → fin.remove m k ≡ m
none_to_remove m k none = ap (λ w. set_live k w m) (sym none) ∙ nothing_undone nat_cmp_total fin.nat_cmp-IsAntisymmetric m k

-- ---- chunks

either_lease : (b : Bool) (lease rest : Option Lease) → cond b (option_and_then settled_by lease) (option_and_then settled_by rest) ≡ option_and_then settled_by (cond b lease rest)
either_lease true lease rest = refl
either_lease false lease rest = refl

-- a lease is put or taken out
pub chunks_set : (leases : fin.FinMap nat_cmp Lease) (k : ℕ) (lease : Option Lease) → chunks_of (set_live k lease leases) ≡ with_settled_before k lease (chunks_of leases)
chunks_set leases k lease = fin.same_map nat_cmp_total fin.nat_cmp-IsAntisymmetric _ _ (λ q.
    get_chunks (set_live k lease leases) q
    ∙ ap (option_and_then settled_by) (get_set_live nat_cmp_total fin.nat_cmp-IsAntisymmetric k lease leases q)
    ∙ sym (either_lease (eq_by_cmp nat_cmp q k) lease (fin.get leases q))
    ∙ ap (cond (eq_by_cmp nat_cmp q k) (option_and_then settled_by lease)) (sym (get_chunks leases q))
    ∙ sym (get_set_live nat_cmp_total fin.nat_cmp-IsAntisymmetric k (option_and_then settled_by lease) (chunks_of leases) q))

-- so the settled chunks go back where the leases do
pub chunks_back : (m n : fin.FinMap nat_cmp Lease) (k : ℕ) (before : Option Lease) → m ≡ set_live k before n → chunks_of m ≡ with_settled_before k before (chunks_of n)
chunks_back m n k before is = ap chunks_of is ∙ chunks_set n k before

-- where leases go back, and so do chunks
pub moved_back : (leases : fin.FinMap nat_cmp Lease) (k : ℕ) (before : Option Lease) → chunks_of (with_moved_before k before leases) ≡ with_proposed_before k before (chunks_of leases)
moved_back leases k None = refl
moved_back leases k (Some lease) = chunks_set leases k (Some lease)

no_lease_no_view : (m : fin.FinMap nat_cmp Lease) (k : ℕ) (view : View) → None ≡ fin.get m k → Some view ≡ view_in (fin.get (chunks_of m) k) → ⊥
no_lease_no_view m k view none has = false≢true (sym (ap is_some (has ∙ ap view_in (get_chunks m k ∙ ap (option_and_then settled_by) (sym none)))))

-- a settled chunk that moves has a lease
pub lease_before : (m n : fin.FinMap nat_cmp Lease) (k : ℕ) (lease : Lease) (before : Option Lease) (view : View) → before ≡ fin.get m k → n ≡ fin.insert m k lease → Some view ≡ view_in (fin.get (chunks_of m) k)
    → m ≡ with_moved_before k before n
lease_before m n k lease None view is put has = absurd (no_lease_no_view m k view is has)
lease_before m n k lease (Some old) view is put has = exchanged nat_cmp_total fin.nat_cmp-IsAntisymmetric m n k lease (Some old) is put

-- ---- a chunk and its prepared view

kept_or_not : (d : Durable) (k : ℕ) (view : Option Prepared) → set_live k (fin.get d.prepared k) (with_prepared d k view) ≡ d.prepared
kept_or_not d k None = nothing_undone nat_cmp_total fin.nat_cmp-IsAntisymmetric d.prepared k
kept_or_not d k (Some view) = put_undone nat_cmp_total fin.nat_cmp-IsAntisymmetric d.prepared k view

-- what was kept is taken out again
pub kept_undone : (d : Durable) (k : ℕ) (before : Option Prepared) → before ≡ fin.get d.prepared k → d.prepared ≡ set_live k before (kept_before d k)
kept_undone d k before is = sym (ap (λ w. set_live k w (kept_before d k)) is ∙ kept_or_not d k (prepared_view d k))

pub chunk_undone : (d mid : Durable) (m n : fin.FinMap nat_cmp Lease) (k : ℕ) (lease : Option Lease) (prepared : Option Prepared) → mid ≡ record d { prepared = kept_before d k } → d.chunks ≡ chunks_of m
    → m ≡ set_live k lease n → prepared ≡ fin.get d.prepared k → d ≡ with_chunk_before (record { chunk = k; lease = lease; prepared = prepared }) (record mid { chunks = chunks_of n })
chunk_undone d mid m n k lease prepared kept all back is = λ i. record (sym kept i) {
  chunks = (all ∙ chunks_back m n k lease back) i;
  prepared = (kept_undone d k prepared is ∙ ap (λ (x : Durable). set_live k prepared x.prepared) (sym kept)) i;
}

-- ---- rooms

pub same_room : {V : Type 0} (a b c : List (ℕ × Option V)) → a ≡ b → KeepsRoom nat_cmp a c → KeepsRoom nat_cmp b c
same_room a b c is keeps = subst (λ x. KeepsRoom nat_cmp x c) is keeps

pub same_replies_room : (a b : List (ClientId × Option KeptReply)) → b ≡ a → KeepsRoom client_cmp a b
same_replies_room a b is = record { keeps = λ key room. subst (λ x. HasRoom client_cmp x key) (sym is) room }

pub both_keep : (a b c : Recorded) → KeepsRooms a b → KeepsRooms b c → KeepsRooms a c
both_keep a b c first then = record {
  leases = record { keeps = λ key room. then.leases.keeps key (first.leases.keeps key room) };
  replies = record { keeps = λ key room. then.replies.keeps key (first.replies.keeps key room) };
  prepared = record { keeps = λ key room. then.prepared.keeps key (first.prepared.keeps key room) };
  places = then.places ∙ first.places;
}

-- ---- replies

pub reply_back : (m n : fin.FinMap client_cmp KeptReply) (k : ClientId) (v : KeptReply) (before : Option KeptReply) → before ≡ fin.get m k → n ≡ fin.insert m k v → m ≡ set_live k before n
reply_back m n k v before is put = exchanged (on_total (λ (c : ClientId). c.0) nat_cmp_total) client_exact m n k v before is put

-- ---- several chunks

pub one_chunk_more : (chunks : List ChunkBefore) (before : ChunkBefore) (d : Durable) → with_chunks_before (chunks ++ before ∷ []) d ≡ with_chunks_before chunks (with_chunk_before before d)
one_chunk_more [] before d = refl
one_chunk_more (first ∷ more) before d = ap (with_chunk_before first) (one_chunk_more more before d)

pub one_lease_more : (chunks : List ChunkBefore) (before : ChunkBefore) (leases : fin.FinMap nat_cmp Lease) → with_leases_before (chunks ++ before ∷ []) leases ≡ with_leases_before chunks (set_live before.chunk before.lease leases)
one_lease_more [] before leases = refl
one_lease_more (first ∷ more) before leases = ap (set_live first.chunk first.lease) (one_lease_more more before leases)

pub room_for_more : (r : Recorded) (chunks : List ChunkBefore) (before : ChunkBefore) → RoomForChunks r chunks → RoomForChunk r before → RoomForChunks r (chunks ++ before ∷ [])
room_for_more r [] before room here = (here, tt)
room_for_more r (first ∷ more) before room here = (room.0, room_for_more r more before room.1 here)

pub room_for_last : (r : Recorded) (chunks : List ChunkBefore) (before : ChunkBefore) → RoomForChunks r (chunks ++ before ∷ []) → RoomForChunks r chunks × RoomForChunk r before
room_for_last r [] before room = (tt, room.0)
room_for_last r (first ∷ more) before room = let rest = room_for_last r more before room.1 in ((room.0, rest.0), rest.1)

-- ---- names

-- names that what was made of them is undone in
pub names_back : (inverse : Inverse) (stood old new : NamesView) (result : Result (Unit {0}) Refusal) → Undoes inverse old result new → IfErr result (λ e. takes_memory inverse ≡ false → e ≡ BadLine)
    → AreNamesBefore (Undone inverse) stood old → new ≡ stood
names_back inverse stood old new (Ok done) undoes memory back = λ i. names_of (tree i) (refs i)
  where
    tree : new.tree ≡ stood.tree
    tree = fin.same_map path_total (fin.slice_cmp-IsAntisymmetric (fin.slice_cmp-IsAntisymmetric fin.nat_cmp-IsAntisymmetric)) _ _ (λ q. undoes.1 q ∙ back.0.tree q)

    refs : new.refs ≡ stood.refs
    refs = ap (λ o. unwrap_or o stood.refs) (sym undoes.2 ∙ back.0.refs)
names_back inverse stood old new (Err e) undoes memory back = by_refusal undoes.0
  where
    by_refusal : (e ≡ Memory) ⊎ ((e ≡ BadLine) × (FitsTree inverse old → is_some (counts_after inverse old) ≡ true → ⊥)) → new ≡ stood
    by_refusal (inl wants) = let free = memory back.1 in absurd (cc)
    by_refusal (inr bad) = absurd (bad.1 back.0.fits (ap is_some back.0.refs))

-- ---- an edit

-- of chunks the names have no part
names_beside : (chunks : List ChunkBefore) (d : Durable) (names : NamesView) → with_chunks_before chunks (record d { names = names }) ≡ record (with_chunks_before chunks d) { names = names }
names_beside [] d names = refl
names_beside (before ∷ more) d names = ap (with_chunk_before before) (names_beside more d names)

pub edit_back : (e : EditBefore) (before d r : Durable) (names : NamesView) (replies : fin.FinMap client_cmp KeptReply) (inverses : List PlainInverse) → IsEditBefore e before d
    → r ≡ with_chunks_before e.forgotten.items (record d { names = names }) → names ≡ before.names → replies ≡ with_reply_before e.reply d.replies → inverses ≡ before.inverses
    → record r { next_hidden = e.next_hidden; replies = replies; inverses = inverses } ≡ before
edit_back e before d r names replies inverses is chunks named replied left =
    (λ i. record ((chunks ∙ names_beside e.forgotten.items d names) i) { next_hidden = e.next_hidden; replies = replied i; inverses = left i })
    ∙ (λ i. record (with_chunks_before e.forgotten.items d) { names = named i; next_hidden = e.next_hidden; replies = with_reply_before e.reply d.replies; inverses = before.inverses })
    ∙ sym is.rest

-- of chunks nor what else an edit changes
rest_beside : (chunks : List ChunkBefore) (d : Durable) (hidden : ℕ) (replies : fin.FinMap client_cmp KeptReply) (inverses : List PlainInverse) →
    with_chunks_before chunks (record d { next_hidden = hidden; replies = replies; inverses = inverses }) ≡ record (with_chunks_before chunks d) { next_hidden = hidden; replies = replies; inverses = inverses }
rest_beside [] d hidden replies inverses = refl
rest_beside (before ∷ more) d hidden replies inverses = ap (with_chunk_before before) (rest_beside more d hidden replies inverses)

pub edit_before : (d r : Durable) (names : NamesView) (forgotten : List ChunkBefore) (hidden : ℕ) (replies : fin.FinMap client_cmp KeptReply) (inverses : List PlainInverse) (reply : Option ReplyBefore) →
    record d { names = names } ≡ with_chunks_before forgotten r → d.replies ≡ with_reply_before reply replies →
    d ≡ record (with_chunks_before forgotten (record r { next_hidden = hidden; replies = replies; inverses = inverses })) {
      names = d.names;
      next_hidden = d.next_hidden;
      replies = with_reply_before reply replies;
      inverses = d.inverses;
    }
edit_before d r names forgotten hidden replies inverses reply chunks replied =
    (λ i. record (chunks i) { names = d.names; next_hidden = d.next_hidden; replies = replied i; inverses = d.inverses })
    ∙ (λ i. record (sym (rest_beside forgotten r hidden replies inverses) i) { names = d.names; next_hidden = d.next_hidden; replies = with_reply_before reply replies; inverses = d.inverses })

-- ---- an epoch

-- where memory is never wanted
pub enters : {X : Type 0} (entry : PlainEntry) (result : Result X Refusal) (old new : Durable) → Applies entry result old new → Enters entry result old new
enters entry (Ok done) old new is = is
enters entry (Err refusal) old new is = (inr (is.0, is.1), is.2)

pub same_rooms : {K V : Type 0} {R : K → K → Ordering} (a b : List (K × Option V)) → b ≡ a → KeepsRoom R a b
same_rooms {R = R} a b is = record { keeps = λ key room. subst (λ x. HasRoom R x key) (sym is) room }

-- an epoch ends, and what was kept since prepare is given up
pub epoch_back : (d mid : Durable) (end : EpochEnd) (phase : Phase) (kept : KeptBefore) (inverses : List PlainInverse) (prepared : fin.FinMap nat_cmp Prepared) → mid ≡ with_epoch d end phase →
    map plain_inverse kept.inverses.items ≡ mid.inverses → live nat_cmp kept.prepared ≡ mid.prepared →
    TakesBack (undos.Epoch (record { epoch = d.epoch; phase = d.phase; kept = kept })) d (record mid { inverses = inverses; prepared = prepared })
epoch_back d mid end phase kept inverses prepared is left views = (
  (end, ap (λ (x : Durable). x.ends) is),
  (λ i. record (sym is i) { epoch = d.epoch; phase = d.phase; ends = d.ends })
      ∙ (λ i. record mid { inverses = sym left i; prepared = sym views i; epoch = d.epoch; phase = d.phase; ends = d.ends }),
)

-- ---- several records

pub but_last_back : (undos : List Undo) (last : Undo) (before after : Durable) → TakeBack (undos ++ last ∷ []) before after → (between : Durable) × (TakeBack undos before between × TakesBack last between after)
but_last_back [] last before after back = (before, (refl, subst (TakesBack last before) back.1.1 back.1.0))
but_last_back (undo ∷ more) last before after back = let rest = but_last_back more last back.0 after back.1.1 in (rest.0, ((back.0, (back.1.0, rest.1.0)), rest.1.1))

pub one_more_back : (undos : List Undo) (last : Undo) (before between after : Durable) → TakeBack undos before between → TakesBack last between after → TakeBack (undos ++ last ∷ []) before after
one_more_back [] last before between after back one = (after, (subst (λ d. TakesBack last d after) (sym back) one, refl))
one_more_back (undo ∷ more) last before between after back one = (back.0, (back.1.0, one_more_back more last back.0 between after back.1.1 one))

pub all_rooms_but_last : (r : Recorded) (undos : List Undo) (last : Undo) → all_rooms_before (undos ++ last ∷ []) r ≡ all_rooms_before undos (rooms_before last r)
all_rooms_but_last r [] last = refl
all_rooms_but_last r (undo ∷ more) last = ap (rooms_before undo) (all_rooms_but_last r more last)

pub room_but_last : (r : Recorded) (undos : List Undo) (last : Undo) → RoomForAll r (undos ++ last ∷ []) → RoomForAll (rooms_before last r) undos × RoomBack r last
room_but_last r [] last room = (tt, room.0)
room_but_last r (undo ∷ more) last room =
    let rest = room_but_last r more last room.1 in ((subst (λ rooms. RoomBack rooms undo) (all_rooms_but_last r more last) room.0, rest.0), rest.1)

pub room_for_one_more : (r : Recorded) (undos : List Undo) (last : Undo) → RoomForAll (rooms_before last r) undos → RoomBack r last → RoomForAll r (undos ++ last ∷ [])
room_for_one_more r [] last room here = (here, tt)
room_for_one_more r (undo ∷ more) last room here =
    (subst (λ rooms. RoomBack rooms undo) (sym (all_rooms_but_last r more last)) room.0, room_for_one_more r more last room.1 here)

pub all_leases_but_last : (undos : List Undo) (last : Undo) (leases : fin.FinMap nat_cmp Lease) → all_leases_before (undos ++ last ∷ []) leases ≡ all_leases_before undos (leases_before last leases)
all_leases_but_last [] last leases = refl
all_leases_but_last (undo ∷ more) last leases = ap (leases_before undo) (all_leases_but_last more last leases)
