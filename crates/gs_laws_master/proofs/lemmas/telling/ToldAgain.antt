-- The checkpoint of what stands tells it.
use Rattle.std.proofs.Common.{◌≡◌, ◌⊎◌, inl, inr, ◌∙◌, ◌<◌, ◌==◌, ◌&&◌, ◌||◌, ℕ, Bool, true, false, cond, List, [], ◌∷◌, filter, map, refl, sym, ap, arith}
use Rattle.std.specs.Prelude.{Option, Some, None, is_some, option_map, option_and_then, nat_le, if◌then◌else◌}
use Rattle.std.specs.List.{AllByRecursion, list_all, list_any}
use Rattle.std.specs.Cmp.{nat_cmp_total}
use Rattle.std.specs.FinMap as fin
use Rattle.std.specs.FinMap.Entries.{find-where_key}
use Rattle.std.specs.Ordering.{eq_by_cmp, nat_cmp}
use Rattle.std.specs.declared.cmp.Ordering.TheVariants.{Equal}
use Rattle.std.proofs.lemmas.Bool.{false≢true, and_parts, le-leb}
use Rattle.std.proofs.lemmas.Bool.Decides.{nat_tests}
use Rattle.std.proofs.lemmas.List.Folds.{list_all-map}
use Rattle.gs_base.specs.declared.numbers.ClientId.{ClientId}
use Rattle.gs_edit.specs.Scan.{is_without_slashes}
use Rattle.gs_edit.specs.View.{NamesView, names_of}
use Rattle.gs_edit.proofs.Applied.{same_tree}
use Rattle.gs_lease.specs.declared.view.View.{View}
use Rattle.gs_path.specs.Path.{path_total}
use Rattle.gs_master_record.specs.declared.checkpoint.PreparedView.{PreparedView}
use Rattle.gs_master_record.specs.declared.checkpoint.Reference.{Reference}
use Rattle.gs_master_record.specs.declared.checkpoint.SettledEntry.{SettledEntry}
use Rattle.gs_refs.specs.Counts.{count_or_zero, occurrences}
use Rattle.gs_refs.proofs.CountLemmas.{from_entries-entries}
use Rattle.gs_tree.specs.Build.{below_root, rooted_rows}
use Rattle.gs_tree.specs.Chunks.{all_chunks}
use Rattle.gs_tree.specs.Find.{Rows, at}
use Rattle.gs_tree.proofs.Levels.{both_true}
use Rattle.gs_edit.proofs.Tables.{seen}
use Rattle.gs_master_spec.specs.Durable.{Durable, Settled, has_its_primary, is_given, is_listed, is_ordinary, prepared_of, prepared_view, upgrade_epoch}
use Rattle.gs_master_spec.specs.Handling.{tidied}
use Rattle.gs_laws_master.specs.Promises.{AreKept, IsGivenView, IsKept, IsStillThere, TellsAll}
use Rattle.gs_master_spec.specs.Replies.{client_cmp}
use Rattle.gs_master_spec.specs.Undoing.{rows_of_nodes}
use Rattle.gs_master_order.specs.Order.{by_text}
use Rattle.gs_master_spec.specs.Whole.{are_all_prepared, are_counts, are_hidden_once, are_prepared, are_settled, can_go_back, checkpoint_of, durable_with, has_upgrade, if_it_can, is_empty, is_prepared_before, is_view_given, is_whole, prepared_entry, reference_of, reply_of, settled_of, told_replies, whole_of}
use Rattle.gs_master_spec.specs.declared.asking.Prepared.{Prepared}
use Rattle.gs_master_spec.specs.declared.reply.KeptReply.{KeptReply}
use Rattle.gs_laws_master.proofs.lemmas.keeping.KeptReplies.{IsAnswer}
use Rattle.gs_laws_master.proofs.lemmas.keeping.KeptViews.{same_key}
use Rattle.gs_laws_master.proofs.lemmas.upgrades.LedBack.{root_first}
use Rattle.gs_laws_master.proofs.lemmas.names.Planted.{each_chunk}
use Rattle.gs_laws_master.proofs.lemmas.spelling.Retold.{IsBelow, chunks_again, each_entry, each_found, rooted_told, tree_told}
use Rattle.gs_master_state.proofs.Tracking.{client_total}

same_number : (m n : ℕ) → m ≡ n → (m == n) ≡ true
same_number m n e = grind (arith, nat_tests)

-- ---- names

abbrev rows_of : NamesView → Rows ℕ
rows_of names = below_root (fin.entries names.tree)

abbrev told_rows : NamesView → Rows ℕ
told_rows names = rows_of_nodes (by_text (rows_of names))

whole_rows : (names : NamesView) → AreKept names → rooted_rows (rows_of names) ≡ fin.entries names.tree
whole_rows names k = root_first (fin.entries names.tree) (fin.entries_sorted names.tree) (ap (λ m. m []) (sym (seen names.tree)) ∙ k.root)

below : (names : NamesView) → AreKept names → IsBelow (rows_of names)
below names k = record {
  tree = k.tree;
  plain = (and_parts (is_without_slashes []) (list_all (λ r. is_without_slashes r.0) (rows_of names)) (ap (λ (rows : Rows ℕ). list_all (λ r. is_without_slashes r.0) rows) (whole_rows names k) ∙ k.plain)).1;
}

tree_again : (names : NamesView) → AreKept names → fin.from_entries (rooted_rows (told_rows names)) ≡ names.tree
tree_again names k = same_tree (fin.from_entries (rooted_rows (told_rows names))) names.tree
    (λ q. fin.get-from_entries path_total (rooted_rows (told_rows names)) q ∙ rooted_told (rows_of names) q (below names k) ∙ ap (λ (rows : Rows ℕ). at rows q) (whole_rows names k) ∙ sym (fin.get-entries names.tree q))

references_again : (es : List (ℕ × ℕ)) → map (λ (r : Reference). (r.handle, r.count)) (map reference_of es) ≡ es
references_again [] = refl
references_again (e ∷ es) = ap (λ rest. e ∷ rest) (references_again es)

count_is : (names : NamesView) (h : ℕ) → AreKept names → count_or_zero (fin.get names.refs h) ≡ occurrences h (all_chunks (told_rows names))
count_is names h k = k.counted h ∙ ap (λ (rows : Rows ℕ). occurrences h (all_chunks rows)) (sym (whole_rows names k)) ∙ sym (chunks_again h (rows_of names) (below names k))

any_reference : (h : ℕ) (es : List (ℕ × ℕ)) → is_some (fin.find nat_cmp h es) ≡ true → list_any (λ (r : Reference). r.handle == h) (map reference_of es) ≡ true
any_reference h [] some = absurd (false≢true some)
any_reference h (e ∷ es) some = each (any_reference h es) (eq_by_cmp nat_cmp h e.0) refl some
  where
    later : (a b : Bool) → b ≡ true → (a || b) ≡ true
    later true b g = refl
    later false b g = g

    each : (is_some (fin.find nat_cmp h es) ≡ true → list_any (λ (r : Reference). r.handle == h) (map reference_of es) ≡ true) → (b : Bool) → eq_by_cmp nat_cmp h e.0 ≡ b → is_some (cond b (Some e.1) (fin.find nat_cmp h es)) ≡ true
        → ((e.0 == h) || list_any (λ (r : Reference). r.handle == h) (map reference_of es)) ≡ true
    each rest true is g = ap (λ b. b || list_any (λ (r : Reference). r.handle == h) (map reference_of es)) (same_number e.0 h (sym (same_key h e.0 is)))
    each rest false is g = later (e.0 == h) (list_any (λ (r : Reference). r.handle == h) (map reference_of es)) (rest g)

counts_told : (names : NamesView) → AreKept names → are_counts (all_chunks (told_rows names)) (map reference_of (fin.entries names.refs)) ≡ true
counts_told names k =
    let chunks = all_chunks (told_rows names) in
    both_true (list_all (λ (r : Reference). occurrences r.handle chunks == r.count) (map reference_of (fin.entries names.refs))) _
    (list_all-map (λ (r : Reference). occurrences r.handle chunks == r.count) reference_of (fin.entries names.refs)
    ∙ each_found nat_cmp nat_cmp_total fin.nat_cmp-IsAntisymmetric (λ e. occurrences e.0 chunks == e.1) (fin.entries names.refs) (fin.entries_sorted names.refs)
    (λ h v found. same_number (occurrences h chunks) v (sym (count_is names h k) ∙ ap count_or_zero (fin.get-entries names.refs h ∙ found))))
    (each_chunk (λ chunk. list_any (λ (r : Reference). r.handle == chunk) (map reference_of (fin.entries names.refs))) chunks (λ h some. counted h (fin.get names.refs h) refl (let is = count_is names h k in omega arith)))
  where
    counted : (h : ℕ) (v : Option ℕ) → fin.get names.refs h ≡ v → 0 < count_or_zero v → list_any (λ (r : Reference). r.handle == h) (map reference_of (fin.entries names.refs)) ≡ true
    counted h None is some = absurd (omega arith)
    counted h (Some n) is some = any_reference h (fin.entries names.refs) (ap is_some (sym (fin.get-entries names.refs h) ∙ is))

-- ---- chunks

abbrev listed_chunks : Durable → List (ℕ × Settled)
listed_chunks d = filter (λ e. is_listed d e.0) (fin.entries d.chunks)

any_settled : (d : Durable) (q : ℕ) (es : List (ℕ × Settled)) → is_listed d q ≡ true → is_some (fin.find nat_cmp q es) ≡ true → list_any (λ (s : SettledEntry). s.settled.handle == q) (map settled_of (filter (λ e. is_listed d e.0) es)) ≡ true
any_settled d q [] listed some = absurd (false≢true some)
any_settled d q (e ∷ es) listed some = each (any_settled d q es listed) (eq_by_cmp nat_cmp q e.0) refl some (is_listed d e.0) refl
  where
    rest : List SettledEntry
    rest = map settled_of (filter (λ x. is_listed d x.0) es)

    later : (a b : Bool) → b ≡ true → (a || b) ≡ true
    later true b g = refl
    later false b g = g

    each : (is_some (fin.find nat_cmp q es) ≡ true → list_any (λ (s : SettledEntry). s.settled.handle == q) rest ≡ true) → (b : Bool) → eq_by_cmp nat_cmp q e.0 ≡ b → is_some (cond b (Some e.1) (fin.find nat_cmp q es)) ≡ true → (l : Bool) → is_listed d e.0 ≡ l
        → list_any (λ (s : SettledEntry). s.settled.handle == q) (map settled_of (cond l (e ∷ filter (λ x. is_listed d x.0) es) (filter (λ x. is_listed d x.0) es))) ≡ true
    each more true is g true here = ap (λ b. b || list_any (λ (s : SettledEntry). s.settled.handle == q) rest) (same_number e.0 q (sym (same_key q e.0 is)))
    each more true is g false here = absurd (false≢true (sym here ∙ ap (is_listed d) (sym (same_key q e.0 is)) ∙ listed))
    each more false is g true here = later (e.0 == q) (list_any (λ (s : SettledEntry). s.settled.handle == q) rest) (more g)
    each more false is g false here = more g

settled_told : (d : Durable) → IsKept d → are_settled (map reference_of (fin.entries d.names.refs)) (map settled_of (listed_chunks d)) ≡ true
settled_told d k =
    list_all-map (λ (r : Reference). list_any (λ (s : SettledEntry). s.settled.handle == r.handle) (map settled_of (listed_chunks d))) reference_of (fin.entries d.names.refs)
    ∙ each_found nat_cmp nat_cmp_total fin.nat_cmp-IsAntisymmetric (λ e. list_any (λ (s : SettledEntry). s.settled.handle == e.0) (map settled_of (listed_chunks d))) (fin.entries d.names.refs) (fin.entries_sorted d.names.refs)
    (λ q v found.
    let listed : is_listed d q ≡ true = ap is_some (fin.get-entries d.names.refs q ∙ found) in any_settled d q (fin.entries d.chunks) listed (ap is_some (sym (fin.get-entries d.chunks q)) ∙ k.settled q listed))

view_passes : (d : Durable) (chunk : ℕ) (view : View) → is_given d.next_handle chunk ≡ true → IsGivenView d view → is_view_given (checkpoint_of d) chunk view ≡ true
unfolding checkpoint_of
view_passes d chunk view given v =
    both_true (is_given d.next_handle chunk) _ given
    (both_true ((view.stamp.version == 0) || is_given d.next_version view.stamp.version) _ (either v.version) (both_true (nat_le view.stamp.epoch d.epoch) (has_its_primary view) (le-leb view.stamp.epoch d.epoch v.epoch) v.primary))
  where
    later : (a b : Bool) → b ≡ true → (a || b) ≡ true
    later true b g = refl
    later false b g = g

    either : (view.stamp.version ≡ 0) ⊎ (is_given d.next_version view.stamp.version ≡ true) → ((view.stamp.version == 0) || is_given d.next_version view.stamp.version) ≡ true
    either (inl none) = ap (λ b. b || is_given d.next_version view.stamp.version) (same_number view.stamp.version 0 none)
    either (inr is) = later (view.stamp.version == 0) (is_given d.next_version view.stamp.version) is

all_filter : {A : Type 0} (f p : A → Bool) (xs : List A) → list_all f xs ≡ true → list_all f (filter p xs) ≡ true
all_filter f p [] h = refl
all_filter f p (x ∷ xs) h = each (p x) (and_parts (f x) (list_all f xs) h) (all_filter f p xs)
  where
    each : (b : Bool) → (f x ≡ true) × (list_all f xs ≡ true) → (list_all f xs ≡ true → list_all f (filter p xs) ≡ true) → list_all f (cond b (x ∷ filter p xs) (filter p xs)) ≡ true
    each true parts rest = both_true (f x) (list_all f (filter p xs)) parts.0 (rest parts.1)
    each false parts rest = rest parts.1

views_told : (d : Durable) → IsKept d → list_all (λ (s : SettledEntry). is_view_given (checkpoint_of d) s.settled.handle s.settled.view) (map settled_of (listed_chunks d)) ≡ true
views_told d k =
    list_all-map (λ (s : SettledEntry). is_view_given (checkpoint_of d) s.settled.handle s.settled.view) settled_of (listed_chunks d)
    ∙ all_filter (λ (e : ℕ × Settled). is_view_given (checkpoint_of d) e.0 e.1.view) (λ e. is_listed d e.0) (fin.entries d.chunks)
    (each_found nat_cmp nat_cmp_total fin.nat_cmp-IsAntisymmetric (λ e. is_view_given (checkpoint_of d) e.0 e.1.view) (fin.entries d.chunks) (fin.entries_sorted d.chunks)
    (λ q s found. let has = fin.get-entries d.chunks q ∙ found in view_passes d q s.view (k.handles q (ap is_some has)) (k.views q s has)))

prepared_told : (d : Durable) → IsKept d → are_prepared (checkpoint_of d) ≡ true
unfolding checkpoint_of
prepared_told d k =
    list_all-map (λ (v : PreparedView). is_view_given (checkpoint_of d) v.settled.handle v.settled.view && is_prepared_before (upgrade_epoch d.phase d.epoch) v.settled.view) prepared_entry (fin.entries d.prepared)
    ∙ each_found nat_cmp nat_cmp_total fin.nat_cmp-IsAntisymmetric (λ e. is_view_given (checkpoint_of d) e.0 e.1.view && is_prepared_before (upgrade_epoch d.phase d.epoch) e.1.view) (fin.entries d.prepared) (fin.entries_sorted d.prepared)
    (λ q p found. let has = k.prepared q p (fin.get-entries d.prepared q ∙ found) in both_true (is_view_given (checkpoint_of d) q p.view) _ (view_passes d q p.view has.0 has.1) has.2)

upgrade_told : (d : Durable) → IsKept d → has_upgrade (checkpoint_of d) ≡ true
unfolding checkpoint_of
upgrade_told d k = each (upgrade_epoch d.phase d.epoch) refl
  where
    each : (u : Option ℕ) → upgrade_epoch d.phase d.epoch ≡ u → (is_some u || is_empty d.inverses) ≡ true
    each None is = ap is_empty (k.ordinary is).0
    each (Some up) is = refl

-- ---- the checkpoint is one

whole_told : (d : Durable) → IsKept d → is_whole (checkpoint_of d) ≡ true
unfolding checkpoint_of
whole_told d k =
    both_true _ _ (tree_told (rows_of d.names) (below d.names k.names)) (both_true _ _ (counts_told d.names k.names)
    (both_true _ _ (settled_told d k) (both_true _ _ (views_told d k) (both_true _ _ k.ends (both_true _ _ (prepared_told d k) (upgrade_told d k))))))

replies_are : (es : List (ClientId × KeptReply)) → AllByRecursion (λ (e : ClientId × KeptReply). IsAnswer e.1.result) es → told_replies (map reply_of es) ≡ Some es
replies_are [] all = refl
replies_are (e ∷ es) all =
    ap (option_and_then (λ result. option_map (λ rest. (e.0, record { number = e.1.number; result = result }) ∷ rest) (told_replies (map reply_of es)))) all.0
    ∙ ap (option_map (λ rest. e ∷ rest)) (replies_are es all.1)

pub clients_exact : (x y : ClientId) → client_cmp x y ≡ Equal → x ≡ y
clients_exact x y e = let same : x.0 ≡ y.0 = fin.nat_cmp-IsAntisymmetric x.0 y.0 e in λ i. record { 0 = same i }

replies_told : (d : Durable) → IsKept d → told_replies (map reply_of (fin.entries d.replies)) ≡ Some (fin.entries d.replies)
replies_told d k =
    replies_are (fin.entries d.replies) (each_entry client_cmp client_total clients_exact (λ client reply. IsAnswer reply.result) (fin.entries d.replies) (fin.entries_sorted d.replies) (λ client reply found. k.replies client reply (fin.get-entries d.replies client ∙ found)))

-- ---- what it tells

chunks_map : (es : List (ℕ × Settled)) → map (λ (s : SettledEntry). (s.settled.handle, record { view = s.settled.view; is_moving = s.is_moving })) (map settled_of es) ≡ es
chunks_map [] = refl
chunks_map (e ∷ es) = ap (λ rest. e ∷ rest) (chunks_map es)

prepared_map : (es : List (ℕ × Prepared)) → map (λ (v : PreparedView). (v.settled.handle, record { view = v.settled.view; holders = v.holders })) (map prepared_entry es) ≡ es
prepared_map [] = refl
prepared_map (e ∷ es) = ap (λ rest. e ∷ rest) (prepared_map es)

entries_back : {X : Type 0} (m : fin.FinMap nat_cmp X) → fin.from_entries (fin.entries m) ≡ m
entries_back m = fin.same_map nat_cmp_total fin.nat_cmp-IsAntisymmetric (fin.from_entries (fin.entries m)) m (λ q. fin.get-from_entries nat_cmp_total (fin.entries m) q ∙ sym (fin.get-entries m q))

replies_back : (m : fin.FinMap client_cmp KeptReply) → fin.from_entries (fin.entries m) ≡ m
replies_back m = fin.same_map client_total clients_exact (fin.from_entries (fin.entries m)) m (λ q. fin.get-from_entries client_total (fin.entries m) q ∙ sym (fin.get-entries m q))

pub get_tidied : (d : Durable) (q : ℕ) → fin.get (tidied d).chunks q ≡ cond (is_listed d q) (fin.get d.chunks q) None
get_tidied d q = fin.get-retain_keys d.chunks (is_listed d) q (λ x tied. ap (is_listed d) (sym (fin.nat_cmp-IsAntisymmetric q x tied)))

chunks_back : (d : Durable) → fin.from_entries (listed_chunks d) ≡ (tidied d).chunks
chunks_back d = fin.same_map nat_cmp_total fin.nat_cmp-IsAntisymmetric (fin.from_entries (listed_chunks d)) (tidied d).chunks (λ q.
    fin.get-from_entries nat_cmp_total (listed_chunks d) q ∙ find-where_key nat_cmp (is_listed d) q (λ x tied. ap (is_listed d) (sym (fin.nat_cmp-IsAntisymmetric q x tied))) (fin.entries d.chunks)
    ∙ ap (λ v. cond (is_listed d q) v None) (sym (fin.get-entries d.chunks q)) ∙ sym (get_tidied d q))

durable_told : (d : Durable) → IsKept d → durable_with (checkpoint_of d) (fin.entries d.replies) ≡ tidied d
unfolding checkpoint_of
durable_told d k = λ i. record (tidied d) {
  names = names_of (tree_again d.names k.names i) ((ap fin.from_entries (references_again (fin.entries d.names.refs)) ∙ from_entries-entries d.names.refs) i);
  chunks = (ap fin.from_entries (chunks_map (listed_chunks d)) ∙ chunks_back d) i;
  replies = replies_back d.replies i;
  prepared = (ap fin.from_entries (prepared_map (fin.entries d.prepared)) ∙ entries_back d.prepared) i;
}

-- ---- it can go back

pub still_prepared : (d : Durable) (q : ℕ) → is_some (prepared_view d q) ≡ true → IsStillThere d q → is_some (prepared_view (tidied d) q) ≡ true
still_prepared d q some (inl listed) = ap (λ v. is_some (prepared_of (upgrade_epoch d.phase d.epoch) (fin.get d.prepared q) v)) (get_tidied d q ∙ ap (λ b. cond b (fin.get d.chunks q) None) listed) ∙ some
still_prepared d q some (inr kept) = each (upgrade_epoch d.phase d.epoch) (fin.get d.prepared q) kept some
  where
    each : (u : Option ℕ) (o : Option Prepared) → is_some o ≡ true → is_some (prepared_of u o (fin.get d.chunks q)) ≡ true → is_some (prepared_of u o (fin.get (tidied d).chunks q)) ≡ true
    each None o h g = absurd (false≢true g)
    each (Some up) None h g = absurd (false≢true h)
    each (Some up) (Some p) h g = refl

goes_back : (d : Durable) → IsKept d → if_it_can (tidied d) ≡ Some (tidied d)
goes_back d k =
    let names = k.back.0 in
    ap (λ b. if b then Some (tidied d) else None) (ap (can_go_back (tidied d)) k.back.1
    ∙ both_true (are_hidden_once (fin.entries d.names.tree)) _ k.names.hidden (both_true (are_hidden_once (fin.entries names.tree)) _ k.back.2.hidden (by_phase (is_ordinary d.phase) refl)))
  where
    by_phase : (b : Bool) → is_ordinary d.phase ≡ b → (b || are_all_prepared (prepared_view (tidied d)) (fin.entries (k.back.0).refs)) ≡ true
    by_phase true is = refl
    by_phase false is =
        each_found nat_cmp nat_cmp_total fin.nat_cmp-IsAntisymmetric (λ e. is_some (prepared_view (tidied d) e.0)) (fin.entries (k.back.0).refs) (fin.entries_sorted (k.back.0).refs)
        (λ q v found.
        let listed : is_some (fin.get (k.back.0).refs q) ≡ true = ap is_some (fin.get-entries (k.back.0).refs q ∙ found) in
        still_prepared d q (k.restored k.back.0 q k.back.1 is listed) (k.still k.back.0 q k.back.1 is listed))

replies_of : (d : Durable) → IsKept d → told_replies (checkpoint_of d).replies ≡ Some (fin.entries d.replies)
unfolding checkpoint_of
replies_of d k = replies_told d k

pub tells_all : TellsAll
unfolding whole_of
tells_all d k =
    ap (λ b. if b then option_and_then if_it_can (option_map (durable_with (checkpoint_of d)) (told_replies (checkpoint_of d).replies)) else None) (whole_told d k)
    ∙ ap (λ r. option_and_then if_it_can (option_map (durable_with (checkpoint_of d)) r)) (replies_of d k)
    ∙ ap if_it_can (durable_told d k) ∙ goes_back d k
