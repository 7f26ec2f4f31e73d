-- What a slot's live replica stands for.
use Rattle.std.proofs.Common.{◌≡◌, ℕ, ◌+◌, ◌*◌, ◌<◌, ◌≤◌, Bool, true, false, cond, List, [], ◌∷◌, ◌++◌, length, take, drop, Option, Some, None, refl, sym, ap, subst, ◌∙◌, arith}
use Rattle.std.specs.Prelude.{Result, Ok, Err, nat_lt, nat_le, ◌==◌, slice_index_or}
use Rattle.std.specs.FinMap as fin
use Rattle.std.specs.Ordering.{nat_cmp}
use Rattle.std.proofs.lemmas.Bool.Decides.{nat_tests}
use Rattle.std.proofs.lemmas.Grind.{common_steps}
use Rattle.std.proofs.lemmas.List.FromFn.{get_or-map-range_with_len, length-map-range_with_len}
use Rattle.gs_base.specs.declared.numbers.Stamp.{Stamp}
use Rattle.gs_base.specs.declared.numbers.ReqId.{ReqId}
use Rattle.gs_base.specs.Stamps.{is_same}
use Rattle.gs_base.specs.declared.refusal.Refusal.{Refusal}
use Rattle.gs_base.specs.declared.refusal.Refusal.TheVariants as refusals
use Rattle.gs_block.specs.Stored.{Stored, count_of, digest_at, is_intact}
use Rattle.gs_block.specs.Edits as blocks
use Rattle.gs_block.proofs.Telling.{read_told, blocks_told}
use Rattle.gs_replica.specs.declared.op.Op.{Op}
use Rattle.gs_replica.specs.declared.op.Done.{Done}
use Rattle.gs_replica.specs.Held.{Held}
use Rattle.gs_replica.specs.Edits as edits
use Rattle.gs_replica.specs.Seals.{State}
use Rattle.gs_replica.specs.Seals as replicas
use Rattle.gs_replica.specs.Stands.{Edit, StandsFor, IsToldFrom, replica_of}
use Rattle.gs_replica.proofs.Own.{own, own_told, sized, alike_stands}
use Rattle.gs_replica.proofs.Standing.{fresh_stands}
use Rattle.gs_replica.proofs.Listing.{apply_stands, seal_ok, judged_ok}
use Rattle.gs_replica.proofs.Keeping.{damage_stands, under_promise}
use Rattle.gs_store.specs.Slots.{Live, Slot, when, unless, first_of, bad_block, with_live, with_trash, damage_of, live_under, marked_live}
use Rattle.gs_store.specs.Slots.{count_of as live_count}
use Rattle.gs_store.specs.Whole.{LiveUnder}
use Rattle.gs_store.specs.Serving.{apply_to, read_of, unless_reached, digest_in, length_in, done_in}
use Rattle.gs_store.specs.Standing.{LiveStandsFor, LiveToldFrom, IsNextEdit}
use Rattle.gs_store.proofs.Calls.{standing_in}
use Rattle.gs_store.proofs.Laws.{Holds}

-- a call of the live replica, or of what stands in the trash
pub of_live : (P : Slot → Type 0) (s : Slot) (bad : Option ℕ) (m : Result State Refusal) → ((r : State) → m ≡ Ok r → P (standing_in s bad r)) → Holds P (with_live s bad m)
of_live P s bad (Ok r) each = each r refl
of_live P s bad (Err e) each = tt

abbrev pub trashed_in : Slot → State → Slot
trashed_in s r = record { promise = s.promise; carried = s.carried; live = s.live; trash = Some r; taken = s.taken }

pub of_trash : (P : Slot → Type 0) (s : Slot) (m : Result State Refusal) → ((r : State) → m ≡ Ok r → P (trashed_in s r)) → Holds P (with_trash s m)
of_trash P s (Ok r) each = each r refl
of_trash P s (Err e) each = tt

pub fresh_in : (block chunk : ℕ) (stamp : Stamp) → 1 ≤ block → block ≤ 65536 → chunk ≤ 67108864 → StandsFor block chunk (edits.fresh block chunk stamp) []
fresh_in block chunk stamp some block_fits chunk_fits = sized block chunk _ _ (fresh_stands block chunk stamp some block_fits chunk_fits) refl refl

pub edit_stands : (size limit : ℕ) (stamp : Stamp) (number : ℕ) (req : ReqId) (op : Op) (bytes : List ℕ) (s : Slot) (live : Option Live) (xs : List Edit) → LiveStandsFor size limit live xs → LiveToldFrom size limit live xs →
    Holds (λ x. LiveStandsFor size limit x.live (xs ++ (record { req = req; op = op; bytes = bytes }) ∷ [])) (apply_to stamp number req op bytes s live)
edit_stands size limit stamp number req op bytes s None xs stands told = tt
edit_stands size limit stamp number req op bytes s (Some l) xs stands told =
    of_live (λ x. LiveStandsFor size limit x.live (xs ++ (record { req = req; op = op; bytes = bytes }) ∷ [])) s l.bad (replicas.apply stamp number req op bytes l.replica)
    (λ r e.
    let h = l.replica.held in
    let a = apply_stands stamp number req op bytes h r.held xs (own size limit h xs stands) (own_told size limit h xs stands told) (seal_ok _ _ r e).0 in
    alike_stands size limit h r.held xs _ stands a.0 a.1)

pub risen_stands : (size limit : ℕ) (stamp : Stamp) (live : Option Live) (xs : List Edit) → LiveStandsFor size limit live xs → LiveStandsFor size limit (live_under stamp live) xs
risen_stands size limit stamp None xs stands = stands
risen_stands size limit stamp (Some l) xs stands = sized size limit _ xs (under_promise l.replica.held stamp xs (own size limit l.replica.held xs stands)) stands.block stands.chunk

pub damage_kept : (size limit index : ℕ) (s : Slot) (live : Option Live) (trash : Option State) (xs : List Edit) → s.live ≡ live → LiveStandsFor size limit live xs → Holds (λ x. LiveStandsFor size limit x.live xs) (damage_of index s live trash)
damage_kept size limit index s None trash xs is stands = elim stands [ ]
damage_kept size limit index s (Some l) trash xs is stands =
    of_live (λ x. LiveStandsFor size limit x.live xs) s l.bad (replicas.damage index l.replica)
    (λ r e.
    let h = l.replica.held in
    let a = damage_stands index h r.held xs (own size limit h xs stands) (seal_ok _ _ r e).0 in
    alike_stands size limit h r.held xs xs stands a.0 a.1)

pub mark_stands : (size limit index : ℕ) (live : Option Live) (xs : List Edit) → LiveStandsFor size limit live xs → LiveStandsFor size limit (marked_live index live) xs
mark_stands size limit index None xs stands = stands
mark_stands size limit index (Some l) xs stands = stands

-- what is not refused was answered
pub unless_ok : {A : Type 0} (o : Option Refusal) (m : Result A Refusal) (a : A) → unless o m ≡ Ok a → m ≡ Ok a
unless_ok None m a e = e
unless_ok (Some f) m a e = absurd (cc)

pub read_stands : (size limit : ℕ) (stamp : Stamp) (offset many : ℕ) (part : List ℕ) (s : Slot) (live : Option Live) (xs : List Edit) → LiveStandsFor size limit live xs → LiveToldFrom size limit live xs →
    read_of stamp offset many s live ≡ Ok part → part ≡ take many (drop offset (replica_of limit xs).bytes)
read_stands size limit stamp offset many part s None xs stands told e = elim stands [ ]
read_stands size limit stamp offset many part s (Some l) xs stands told e =
    read_told size l.replica.held.chunk (replica_of limit xs).bytes part offset many stands.block stands.bytes told
    (unless_ok (first_of (unless_reached stamp s ∷ when (nat_lt l.replica.held.chunk.chunk (offset + many)) refusals.Range ∷ bad_block l.bad ∷ [])) (blocks.read l.replica.held.chunk offset many) part e)

pub intact_stands : (size limit index : ℕ) (l : Live) (xs : List Edit) → StandsFor size limit l.replica.held xs → IsToldFrom size limit l.replica.held xs → index < length l.replica.held.chunk.digests →
    is_intact size l.replica.held.chunk.bytes l.replica.held.chunk.digests index ≡ true → take size (drop (index * size) l.replica.held.chunk.bytes) ≡ take size (drop (index * size) (replica_of limit xs).bytes)
intact_stands size limit index l xs stands told below intact = blocks_told size l.replica.held.chunk (replica_of limit xs).bytes index stands.block stands.bytes told below intact

ok_or : {A : Type 0} → Result A Refusal → A → A
ok_or (Ok a) b = a
ok_or (Err e) b = b

pub same_ok : {A : Type 0} (a b : A) → (let m : Result A Refusal = Ok a in m) ≡ Ok b → b ≡ a
unfolding ok_or
same_ok a b e = sym (ap (λ m. ok_or m a) e)

pub length_stands : (size limit many : ℕ) (o : Option Refusal) (live : Option Live) (xs : List Edit) → LiveStandsFor size limit live xs → unless o (Ok (length_in live)) ≡ Ok many → many ≡ length (replica_of limit xs).bytes
length_stands size limit many o None xs stands e = elim stands [ ]
length_stands size limit many o (Some l) xs stands e = let w = stands.bytes in same_ok _ many (unless_ok o (Ok (length l.replica.held.chunk.bytes)) many e) ∙ w.long

digest_case : (t u : Bool) (block : ℕ) (found stored : List ℕ) → cond t (cond u (Ok stored) (Err (refusals.Damaged block))) (Err refusals.Range) ≡ Ok found → (t ≡ true) × (found ≡ stored)
digest_case true true block found stored e = (refl, same_ok stored found e)
digest_case true false block found stored e = absurd (cc)
digest_case false u block found stored e = absurd (cc)

below_true : (m n : ℕ) → nat_lt m n ≡ true → m < n
below_true m n h = grind (arith, nat_tests)

pub digest_stands : (size limit index : ℕ) (found : List ℕ) (o : Option Refusal) (live : Option Live) (xs : List Edit) → LiveStandsFor size limit live xs → unless o (digest_in index live) ≡ Ok found → found ≡ digest_at size (replica_of limit xs).bytes index
digest_stands size limit index found o None xs stands e = elim stands [ ]
digest_stands size limit index found o (Some l) xs stands e =
    let s = l.replica.held.chunk in
    let ys = (replica_of limit xs).bytes in
    let w = stands.bytes in
    let found_is = digest_case (nat_lt index (length s.digests)) (is_intact s.block s.bytes s.digests index) index found (slice_index_or s.digests index []) (unless_ok o (blocks.digest s index) found e) in
    let below : index < length s.digests = below_true index (length s.digests) found_is.0 in
    let many : length s.digests ≡ count_of s.block (length ys) = ap length w.digests ∙ length-map-range_with_len (digest_at s.block ys) 0 (count_of s.block (length ys)) in
    found_is.1
    ∙ ap (λ (ds : List (List ℕ)). slice_index_or ds index []) w.digests
    ∙ get_or-map-range_with_len (digest_at s.block ys) 0 (count_of s.block (length ys)) index index [] (subst (λ n. index < n) many below) (omega arith)
    ∙ ap (λ b. digest_at b ys index) stands.block

pub done_stands : (size limit client : ℕ) (live : Option Live) (xs : List Edit) → LiveStandsFor size limit live xs → done_in live client ≡ fin.get (replica_of limit xs).done client
done_stands size limit client None xs stands = elim stands [ ]
done_stands size limit client (Some l) xs stands = ap (λ (d : fin.FinMap nat_cmp Done). fin.get d client) stands.done

pub count_stands : (size limit : ℕ) (live : Option Live) (xs : List Edit) → LiveStandsFor size limit live xs → live_count live ≡ Some (length xs)
count_stands size limit None xs stands = elim stands [ ]
count_stands size limit (Some l) xs stands = ap (λ n. Some n) stands.count

-- an accepted edit
abbrev EditGives : ReqId → Op → Held → Held → Type 0
EditGives req op h h2 = (h2.count ≡ h.count + 1) × (fin.get h2.done req.client.0 ≡ Some (edits.done_by req.number op h.chunk)) × (h2.promise ≡ h.promise)

edit_gives : (req : ReqId) (op : Op) (h h2 : Held) (m : Result Stored Refusal) → edits.with_edit h req op m ≡ Ok h2 → EditGives req op h h2
edit_gives req op h h2 (Err g) e = absurd (cc)
edit_gives req op h h2 (Ok c) e =
    let now : Held = record { chunk = c; count = h.count + 1; done = fin.insert h.done req.client.0 (edits.done_by req.number op h.chunk); promise = h.promise } in
    subst (λ (x : Held). EditGives req op h x) (sym (same_ok now h2 e)) (refl, (let got : fin.get now.done req.client.0 ≡ Some (edits.done_by req.number op h.chunk) = grind (arith, common_steps, fin.gets) in got), refl)

equal_is : (m n : ℕ) → (m == n) ≡ true → m ≡ n
equal_is m n h = grind (arith, nat_tests)

at_most_itself : (n : ℕ) → nat_le n n ≡ true
at_most_itself n = grind (arith, nat_tests)

pub next_edit : (stamp : Stamp) (number : ℕ) (req : ReqId) (op : Op) (bytes : List ℕ) (s : Slot) (live : Option Live) → s.live ≡ live → LiveUnder s.promise live → Holds (λ x. IsNextEdit stamp number req s x) (apply_to stamp number req op bytes s live)
next_edit stamp number req op bytes s None is under = tt
next_edit stamp number req op bytes s (Some l) is under =
    of_live (λ x. IsNextEdit stamp number req s x) s l.bad (replicas.apply stamp number req op bytes l.replica)
    (λ r e.
    let h = l.replica.held in
    let client = req.client.0 in
    let j = judged_ok (is_same stamp h.promise) (number == (h.count + 1)) (edits.is_old req.number (fin.get h.done client)) (refusals.Gap h.count) (refusals.Stamp h.promise) (edits.with_edit h req op (edits.edited op bytes h.chunk)) r.held (seal_ok _ _ r e).0 in
    let g = edit_gives req op h r.held (edits.edited op bytes h.chunk) j.3 in
    let is_next : number ≡ h.count + 1 = equal_is number (h.count + 1) j.1 in
    record {
      promised = subst (λ (p : Stamp). is_same stamp p ≡ true) under j.0;
      before = h.count;
      next = is_next;
      counted = ap live_count is;
      counts = ap (λ n. Some n) (g.0 ∙ sym is_next);
      fresh = subst (λ o. edits.is_old req.number (done_in o client) ≡ false) (sym is) j.2;
      taken = ap (edits.is_old req.number) g.1 ∙ at_most_itself req.number;
      promise = refl;
    })
