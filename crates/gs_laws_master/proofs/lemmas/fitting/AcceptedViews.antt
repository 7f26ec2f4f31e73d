-- The records of a call that begins views fit what they meet, and keep what stands.
use Rattle.std.proofs.Common.{◌≡◌, ◌∙◌, ◌<◌, ◌&&◌, ◌||◌, ℕ, zero, suc, Bool, true, false, not, cond, List, [], ◌∷◌, length, map, filter, refl, ap, subst, sym, arith}
use Rattle.std.specs.Prelude.{is_some, slice_get, unwrap_or, Option, Some, None, Result, Ok, Err}
use Rattle.std.specs.declared.cmp.Ordering.{Ordering}
use Rattle.std.specs.declared.cmp.Ordering.TheVariants.{Less, Equal, Greater}
use Rattle.std.specs.FinMap as fin
use Rattle.std.specs.FinMap.Entries.{by_order}
use Rattle.std.specs.List.{list_all}
use Rattle.std.specs.Ordering.{eq_by_cmp, nat_cmp}
use Rattle.std.proofs.lemmas.Bool.{false≢true, and_parts}
use Rattle.std.proofs.lemmas.List.Folds.{list_all-append}
use Rattle.gs_base.specs.declared.numbers.ReqId.{ReqId}
use Rattle.gs_base.specs.declared.refusal.Refusal.{Refusal}
use Rattle.gs_base.specs.declared.refusal.Refusal.TheVariants as refusals
use Rattle.gs_path.specs.Path.{Path, path_cmp}
use Rattle.gs_refs.specs.Counts.{count_or_zero}
use Rattle.gs_tree.specs.Chunks.{all_chunks}
use Rattle.gs_tree.specs.Edits.{chunks_in}
use Rattle.gs_tree.specs.Entry.{Entry, Dir, File}
use Rattle.gs_tree.specs.Find.{Rows, at}
use Rattle.gs_tree.proofs.Levels.{both_true}
use Rattle.gs_lease.specs.declared.view.Purpose.{Purpose}
use Rattle.gs_master_record.specs.Plain.{Propose}
use Rattle.gs_master_spec.specs.Applied.{applied, if_fits, is_fresh, proposed}
use Rattle.gs_master_spec.specs.Beginning.{all_begun, begin_at, begun, has_handle, has_versions, waits_from_now}
use Rattle.gs_master_spec.specs.Calls.{found_chunk}
use Rattle.gs_master_spec.specs.Durable.{Durable, is_rolling}
use Rattle.gs_master_spec.specs.State.{State, Plan, turned, unmoved, if_room, refused}
use Rattle.gs_master_spec.specs.Working.{ascending, begins, begins_new, put_handles}
use Rattle.gs_master_spec.specs.declared.pending.Waiting.{Waiting}
use Rattle.gs_laws_master.specs.Promises.{IsKept}
use Rattle.gs_laws_master.proofs.lemmas.fitting.Accepted.{Goes, one_goes, refused_goes, room_goes, same_goes, test_goes, then_goes}
use Rattle.gs_laws_master.proofs.lemmas.versions.Fresh.{left_after, next_is_fresh, not_false}
use Rattle.gs_laws_master.proofs.lemmas.keeping.KeptRecords.{propose_kept, proposed_some}
use Rattle.gs_laws_master.proofs.lemmas.names.Planted.{each_chunk}

-- ---- what holds of each of a list

pub passes_all : {A : Type 0} (f test : A → Bool) (xs : List A) → list_all f xs ≡ true → list_all f (filter test xs) ≡ true
passes_all f test [] all = refl
passes_all f test (x ∷ xs) all = let parts = and_parts (f x) (list_all f xs) all in by_test (test x) parts.0 (passes_all f test xs parts.1)
  where
    by_test : (b : Bool) → f x ≡ true → list_all f (filter test xs) ≡ true → list_all f (cond b (x ∷ filter test xs) (filter test xs)) ≡ true
    by_test true here rest = both_true (f x) (list_all f (filter test xs)) here rest
    by_test false here rest = rest

pub filter_holds : {A : Type 0} (f test : A → Bool) (xs : List A) → ((x : A) → test x ≡ true → f x ≡ true) → list_all f (filter test xs) ≡ true
filter_holds f test [] all = refl
filter_holds f test (x ∷ xs) all = by_test (test x) refl (filter_holds f test xs all)
  where
    by_test : (b : Bool) → test x ≡ b → list_all f (filter test xs) ≡ true → list_all f (cond b (x ∷ filter test xs) (filter test xs)) ≡ true
    by_test true is rest = both_true (f x) (list_all f (filter test xs)) (all x is) rest
    by_test false is rest = rest

all_at : {A : Type 0} (f : A → Bool) (xs : List A) (i : ℕ) (x : A) → list_all f xs ≡ true → slice_get xs i ≡ Some x → f x ≡ true
all_at f [] i x all e = absurd (false≢true (ap is_some e))
all_at f (y ∷ ys) zero x all e = ap (λ o. f (unwrap_or o y)) (sym e) ∙ (and_parts (f y) (list_all f ys) all).0
all_at f (y ∷ ys) (suc i) x all e = all_at f ys i x (and_parts (f y) (list_all f ys) all).1 e

-- the chunks of some rows, and of one
pub fewer_rows : (f : ℕ → Bool) (test : Path × Entry ℕ → Bool) (rows : Rows ℕ) → list_all f (all_chunks rows) ≡ true → list_all f (all_chunks (filter test rows)) ≡ true
fewer_rows f test [] all = refl
fewer_rows f test (r ∷ rows) all =
    let parts = and_parts (list_all f (chunks_in (Some r.1))) (list_all f (all_chunks rows)) (sym (list_all-append f (chunks_in (Some r.1)) (all_chunks rows)) ∙ all) in
    by_test (test r) parts.0 (fewer_rows f test rows parts.1)
  where
    by_test : (b : Bool) → list_all f (chunks_in (Some r.1)) ≡ true → list_all f (all_chunks (filter test rows)) ≡ true → list_all f (all_chunks (cond b (r ∷ filter test rows) (filter test rows))) ≡ true
    by_test true here rest = list_all-append f (chunks_in (Some r.1)) (all_chunks (filter test rows)) ∙ both_true (list_all f (chunks_in (Some r.1))) (list_all f (all_chunks (filter test rows))) here rest
    by_test false here rest = rest

pub one_row : (f : ℕ → Bool) (rows : Rows ℕ) (p : Path) → list_all f (all_chunks rows) ≡ true → list_all f (chunks_in (at rows p)) ≡ true
one_row f [] p all = refl
one_row f (r ∷ rows) p all =
    let parts = and_parts (list_all f (chunks_in (Some r.1))) (list_all f (all_chunks rows)) (sym (list_all-append f (chunks_in (Some r.1)) (all_chunks rows)) ∙ all) in
    by_key (eq_by_cmp path_cmp p r.0) parts.0 (one_row f rows p parts.1)
  where
    by_key : (b : Bool) → list_all f (chunks_in (Some r.1)) ≡ true → list_all f (chunks_in (at rows p)) ≡ true → list_all f (chunks_in (cond b (Some r.1) (at rows p))) ≡ true
    by_key true here rest = here
    by_key false here rest = rest

put_all : (f : ℕ → Bool) (k : ℕ) (es : List (ℕ × Bool)) → f k ≡ true → list_all f (map (λ e. e.0) es) ≡ true → list_all f (map (λ e. e.0) (fin.put nat_cmp k true es)) ≡ true
put_all f k [] here all = both_true (f k) true here refl
put_all f k (e ∷ es) here all = let parts = and_parts (f e.0) (list_all f (map (λ x. x.0) es)) all in by_place (nat_cmp k e.0) parts.0 parts.1 (put_all f k es here parts.1)
  where
    by_place : (o : Ordering) → f e.0 ≡ true → list_all f (map (λ x. x.0) es) ≡ true → list_all f (map (λ x. x.0) (fin.put nat_cmp k true es)) ≡ true
        → list_all f (map (λ x. x.0) (by_order o ((k, true) ∷ e ∷ es) ((e.0, true) ∷ es) (e ∷ fin.put nat_cmp k true es))) ≡ true
    by_place Less one rest later = both_true (f k) (f e.0 && list_all f (map (λ x. x.0) es)) here (both_true (f e.0) (list_all f (map (λ x. x.0) es)) one rest)
    by_place Equal one rest later = both_true (f e.0) (list_all f (map (λ x. x.0) es)) one rest
    by_place Greater one rest later = both_true (f e.0) (list_all f (map (λ x. x.0) (fin.put nat_cmp k true es))) one later

pub ascending_all : (f : ℕ → Bool) (xs : List ℕ) → list_all f xs ≡ true → list_all f (ascending xs) ≡ true
ascending_all f [] all = refl
ascending_all f (x ∷ xs) all = let parts = and_parts (f x) (list_all f xs) all in put_all f x (put_handles xs) parts.0 (ascending_all f xs parts.1)

-- ---- chunks of files are settled

abbrev pub is_settled : Durable → ℕ → Bool
is_settled d chunk = is_some (fin.get d.chunks chunk)

pub counts_some : (o : Option ℕ) → 0 < count_or_zero o → is_some o ≡ true
counts_some None some = absurd (omega arith)
counts_some (Some n) some = refl

pub all_settled : (d : Durable) → IsKept d → list_all (is_settled d) (all_chunks (fin.entries d.names.tree)) ≡ true
all_settled d k =
    each_chunk (is_settled d) (all_chunks (fin.entries d.names.tree))
    (λ h some. k.settled h (counts_some (fin.get d.names.refs h) (subst (λ n. 0 < n) (sym (k.names.counted h)) some)))

ok_chunk : Result ℕ Refusal → Option ℕ
ok_chunk (Ok chunk) = Some chunk
ok_chunk (Err refusal) = None

pub found_so : (f : ℕ → Bool) (entry : Option (Entry ℕ)) (index chunk : ℕ) → list_all f (chunks_in entry) ≡ true → found_chunk entry index ≡ Ok chunk → f chunk ≡ true
unfolding ok_chunk
found_so f None index chunk all e = absurd (false≢true (ap (λ r. is_some (ok_chunk r)) e))
found_so f (Some Dir) index chunk all e = absurd (false≢true (ap (λ r. is_some (ok_chunk r)) e))
found_so f (Some (File chunks)) index chunk all e = by_place (slice_get chunks index) refl
  where
    by_place : (o : Option ℕ) → slice_get chunks index ≡ o → f chunk ≡ true
    by_place None is = absurd (false≢true (ap (λ r. is_some (ok_chunk r)) (rw is at e)))
    by_place (Some c) is = all_at f chunks index chunk all (is ∙ ap ok_chunk (rw is at e))

pub found_settled : (d : Durable) (path : Path) (index chunk : ℕ) → IsKept d → found_chunk (fin.get d.names.tree path) index ≡ Ok chunk → is_settled d chunk ≡ true
found_settled d path index chunk k e =
    found_so (is_settled d) (at (fin.entries d.names.tree) path) index chunk (one_row (is_settled d) (fin.entries d.names.tree) path (all_settled d k)) (ap (λ o. found_chunk o index) (sym (fin.get-entries d.names.tree path)) ∙ e)

-- ---- proposals

pub proposes : (d : Durable) (chunk many : ℕ) → is_rolling d.phase ≡ false → has_versions d (suc many) ≡ true → (is_settled d chunk || is_fresh d.next_handle chunk) ≡ true → applied d (Propose chunk d.next_version) ≡ Some (proposed d chunk d.next_version)
unfolding applied
proposes d chunk many rolling left known =
    ap (λ b. if_fits b (proposed d chunk d.next_version))
    (both_true (not (is_rolling d.phase)) (is_fresh d.next_version d.next_version && (is_settled d chunk || is_fresh d.next_handle chunk)) (ap not rolling)
    (both_true (is_fresh d.next_version d.next_version) (is_settled d chunk || is_fresh d.next_handle chunk) (next_is_fresh d.next_version (suc many) (omega arith) left) known))

pub or_left : (a b : Bool) → a ≡ true → (a || b) ≡ true
or_left true b h = refl
or_left false b h = absurd (false≢true h)

pub or_right : (a b : Bool) → b ≡ true → (a || b) ≡ true
or_right true b h = refl
or_right false b h = h

module _ (T : Type 0) where
  propose_goes : (s : State) (chunk many : ℕ) (plan : Plan) → is_rolling s.durable.phase ≡ false → has_versions s.durable (suc many) ≡ true → (is_settled s.durable chunk || is_fresh s.durable.next_handle chunk) ≡ true
      → Goes T s (turned s (record plan { records = Propose chunk s.durable.next_version ∷ [] }))
  propose_goes s chunk many plan rolling left known =
      let fit = proposes s.durable chunk many rolling left known in
      one_goes T s (Propose chunk s.durable.next_version) plan (proposed s.durable chunk s.durable.next_version) fit
      (λ t k. propose_kept s.durable (proposed s.durable chunk s.durable.next_version) chunk s.durable.next_version k fit)

  pub begins_goes : (s : State) (req : ReqId) (chunk : ℕ) (plan : Plan) (waiting : Waiting) → is_rolling s.durable.phase ≡ false → (is_settled s.durable chunk || is_fresh s.durable.next_handle chunk) ≡ true
      → Goes T s (begins s req (record plan { records = Propose chunk s.durable.next_version ∷ [] }) waiting)
  begins_goes s req chunk plan waiting rolling known =
      let waits = waits_from_now (record plan { records = Propose chunk s.durable.next_version ∷ [] }) req waiting in
      test_goes T s (not (has_versions s.durable 1)) (refused s req refusals.Exhausted) (if_room s (turned s waits) (refused s req refusals.Full))
      (λ _. refused_goes T s req refusals.Exhausted)
      (λ left. room_goes T s req (turned s waits) (propose_goes s chunk zero waits rolling (not_false (has_versions s.durable 1) left) known))

  pub begins_new_goes : (s : State) (req : ReqId) (plan : Plan) (waiting : Waiting) → is_rolling s.durable.phase ≡ false
      → Goes T s (begins_new s req (record plan { records = Propose s.durable.next_handle s.durable.next_version ∷ [] }) waiting)
  begins_new_goes s req plan waiting rolling =
      let new = record plan { records = Propose s.durable.next_handle s.durable.next_version ∷ [] } in
      test_goes T s (not (has_handle s.durable)) (refused s req refusals.Exhausted) (begins s req new waiting) (λ _. refused_goes T s req refusals.Exhausted)
      (λ left. begins_goes s req s.durable.next_handle plan waiting rolling
      (or_right (is_settled s.durable s.durable.next_handle) (is_fresh s.durable.next_handle s.durable.next_handle) (next_is_fresh s.durable.next_handle 1 (omega arith) (not_false (has_handle s.durable) left))))

  pub all_begun_goes : (many : List ℕ) (purpose : Purpose) (call : Option ReqId) (s : State) → is_rolling s.durable.phase ≡ false → has_versions s.durable (length many) ≡ true → list_all (is_settled s.durable) many ≡ true
      → Goes T s (all_begun s many purpose call)
  all_begun_goes [] purpose call s rolling left known = same_goes T s (unmoved s) refl refl
  all_begun_goes (chunk ∷ many) purpose call s rolling left known =
      let parts = and_parts (is_settled s.durable chunk) (list_all (is_settled s.durable) many) known in
      let here = or_left (is_settled s.durable chunk) (is_fresh s.durable.next_handle chunk) parts.0 in
      let fit = proposes s.durable chunk (length many) rolling left here in
      then_goes T s (begun s chunk purpose call) (λ next. all_begun next many purpose call) (propose_goes s chunk (length many) (begin_at s chunk purpose call) rolling left here)
      (all_begun_goes many purpose call (begun s chunk purpose call).after
      (ap (λ o. is_rolling (unwrap_or o s.durable).phase) fit ∙ rolling) (left_after s chunk (length many) left)
      (ap (λ o. list_all (is_settled (unwrap_or o s.durable)) many) fit ∙ ap (λ (f : ℕ → Bool). list_all f many) (λ i c. proposed_some s.durable chunk c (fin.get s.durable.chunks chunk) refl i) ∙ parts.1))
