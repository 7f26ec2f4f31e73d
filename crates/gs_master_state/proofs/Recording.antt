-- What a table of leases tells of its chunks.
use Rattle.std.proofs.Common.{◌≡◌, ◌⊎◌, inl, inr, ◌∙◌, ◌<◌, ◌≤◌, ◌==◌, ◌+◌, suc, add-one, drop, drop-cons, get_or, length, ℕ, Bool, true, false, cond, List, [], ◌∷◌, ◌&&◌, ◌||◌, not, map, filter, refl, ap, subst, sym, arith}
use Rattle.std.specs.Prelude.{Option, Some, None, filter_map, option_map, option_and_then, is_some, unwrap_or}
use Rattle.std.proofs.lemmas.Bool.{false≢true}
use Rattle.std.proofs.lemmas.List.{drop_all}
use Rattle.std.specs.List.{list_all}
use Rattle.std.specs.List.Sorted.{IsStrictlySortedBy}
use Rattle.std.specs.Cmp.{nat_cmp_total}
use Rattle.std.specs.Ordering.{nat_cmp, eq_by_cmp}
use Rattle.std.specs.FinMap as fin
use Rattle.gs_base.specs.declared.numbers.Stamp.{Stamp}
use Rattle.gs_base.specs.declared.refusal.Refusal.{Refusal}
use Rattle.gs_base.specs.declared.refusal.Refusal.TheVariants.{BadLine, Memory}
use Rattle.gs_lease.specs.Transitions.{restored}
use Rattle.gs_lease.specs.declared.lease.Lease.{Lease}
use Rattle.gs_lease.specs.declared.view.Term.{Term}
use Rattle.gs_lease.specs.declared.view.View.{View}
use Rattle.gs_base_table.proofs.Lives.{entries-live}
use Rattle.gs_base_table.specs.Slots.{live, live_entries, set_live}
use Rattle.gs_master_record.specs.Plain.{RollbackCommit, Settle}
use Rattle.gs_master_record.specs.declared.checkpoint.Phase.{Phase}
use Rattle.gs_master_record.specs.declared.checkpoint.Phase.TheVariants.{Ordinary, Rolling, Upgrade}
use Rattle.gs_edit.specs.View.{NamesView}
use Rattle.gs_master_spec.specs.Undoing.{all_undone}
use Rattle.gs_master_record.specs.declared.entry.Answered.{Answered}
use Rattle.gs_master_record.specs.declared.entry.SettledView.{SettledView}
use Rattle.gs_master_spec.specs.Applied.{after_undoing, applied, are_answers, are_at_rest, is_at_rest, if_fits, may_be_settled, may_restore, restored_chunk, rolled_back, without_prepared, restored_view, view_in, with_proposal}
use Rattle.gs_master_spec.specs.Durable.{Durable, Settled, is_listed, is_rolling, kept_before, prepared_view}
use Rattle.gs_master_state.specs.inner.Recorded.{answers_for_one, chunks_of, durable_of, restored_chunks, rests, settled_by}
use Rattle.gs_master_spec.specs.declared.asking.Prepared.{Prepared}
use Rattle.gs_master_state.specs.declared.recorded.Recorded.{Recorded}

get_set : (k : ℕ) (settled : Option Settled) (m : fin.FinMap nat_cmp Settled) (q : ℕ) → fin.get (set_live k settled m) q ≡ cond (eq_by_cmp nat_cmp q k) settled (fin.get m q)
get_set k (Some s) m q = fin.get-insert nat_cmp_total m k s q
get_set k None m q = fin.get-remove nat_cmp_total m k q

either_lease : (b : Bool) (lease : Lease) (rest : Option Lease) → cond b (settled_by lease) (option_and_then settled_by rest) ≡ option_and_then settled_by (cond b (Some lease) rest)
either_lease true lease rest = refl
either_lease false lease rest = refl

get_live : (es : List (ℕ × Lease)) (q : ℕ) → fin.get (live nat_cmp (map (λ e. (e.0, settled_by e.1)) es)) q ≡ option_and_then settled_by (fin.find nat_cmp q es)
unfolding live
get_live [] q = fin.get-empty nat_cmp q
get_live (e ∷ es) q =
    get_set e.0 (settled_by e.1) (live nat_cmp (map (λ e. (e.0, settled_by e.1)) es)) q
    ∙ ap (cond (eq_by_cmp nat_cmp q e.0) (settled_by e.1)) (get_live es q)
    ∙ either_lease (eq_by_cmp nat_cmp q e.0) e.1 (fin.find nat_cmp q es)

-- a chunk is settled as its lease says
pub get_chunks : (leases : fin.FinMap nat_cmp Lease) (q : ℕ) → fin.get (chunks_of leases) q ≡ option_and_then settled_by (fin.get leases q)
unfolding chunks_of
get_chunks leases q = get_live (fin.entries leases) q ∙ ap (option_and_then settled_by) (sym (fin.get-entries leases q))

pub chunks_empty : chunks_of fin.empty ≡ fin.empty
chunks_empty = fin.same_map nat_cmp_total fin.nat_cmp-IsAntisymmetric _ _ (λ q.
    get_chunks fin.empty q ∙ ap (option_and_then settled_by) (fin.get-empty nat_cmp q) ∙ sym (fin.get-empty nat_cmp q))

-- a lease that tells a settled view
pub chunks_put : (leases : fin.FinMap nat_cmp Lease) (k : ℕ) (lease : Lease) (s : Settled) → settled_by lease ≡ Some s → chunks_of (fin.insert leases k lease) ≡ fin.insert (chunks_of leases) k s
chunks_put leases k lease s is = fin.same_map nat_cmp_total fin.nat_cmp-IsAntisymmetric _ _ (λ q.
    get_chunks (fin.insert leases k lease) q
    ∙ ap (option_and_then settled_by) (fin.get-insert nat_cmp_total leases k lease q)
    ∙ sym (either_lease (eq_by_cmp nat_cmp q k) lease (fin.get leases q))
    ∙ ap (λ o. cond (eq_by_cmp nat_cmp q k) o (option_and_then settled_by (fin.get leases q))) is
    ∙ ap (cond (eq_by_cmp nat_cmp q k) (Some s)) (sym (get_chunks leases q))
    ∙ sym (fin.get-insert nat_cmp_total (chunks_of leases) k s q))

either_none : (b : Bool) (rest : Option Lease) → cond b None (option_and_then settled_by rest) ≡ option_and_then settled_by (cond b None rest)
either_none true rest = refl
either_none false rest = refl

pub chunks_remove : (leases : fin.FinMap nat_cmp Lease) (k : ℕ) → chunks_of (fin.remove leases k) ≡ fin.remove (chunks_of leases) k
chunks_remove leases k = fin.same_map nat_cmp_total fin.nat_cmp-IsAntisymmetric _ _ (λ q.
    get_chunks (fin.remove leases k) q
    ∙ ap (option_and_then settled_by) (fin.get-remove nat_cmp_total leases k q)
    ∙ sym (either_none (eq_by_cmp nat_cmp q k) (fin.get leases q))
    ∙ ap (cond (eq_by_cmp nat_cmp q k) None) (sym (get_chunks leases q))
    ∙ sym (fin.get-remove nat_cmp_total (chunks_of leases) k q))

-- ---- what a record makes of the table

view_is : (view : View) (settled : Option Settled) → Some view ≡ view_in settled → (s : Settled) × (settled ≡ Some s) × (s.view ≡ view)
view_is view None is = absurd (false≢true (sym (ap is_some is)))
view_is view (Some s) is = (s, refl, ap (λ o. unwrap_or o view) (sym is))

moved_on : (d : Durable) (leases : fin.FinMap nat_cmp Lease) (k : ℕ) (view : View) (stamp : Stamp) (s : Settled) → d.chunks ≡ chunks_of leases → s.view ≡ view →
    chunks_of (fin.insert leases k (restored view (Some stamp))) ≡ with_proposal d k (Some s)
moved_on d leases k view stamp s all is =
    chunks_put leases k (restored view (Some stamp)) (record { view = view; is_moving = true }) refl
    ∙ ap (λ m. fin.insert m k (record { view = view; is_moving = true })) (sym all)
    ∙ ap (λ v. fin.insert d.chunks k (record { view = v; is_moving = true })) (sym is)

-- a settled chunk moves
pub proposal_put : (d : Durable) (leases : fin.FinMap nat_cmp Lease) (k : ℕ) (view : View) (stamp : Stamp) (settled : Option Settled) → d.chunks ≡ chunks_of leases → Some view ≡ view_in settled →
    chunks_of (fin.insert leases k (restored view (Some stamp))) ≡ with_proposal d k settled
proposal_put d leases k view stamp settled all is =
    let has = view_is view settled is in
    moved_on d leases k view stamp has.0 all has.2 ∙ ap (with_proposal d k) (sym has.1)

told_again : (stamp : Stamp) (count : ℕ) (members : List ℕ) (term : Option Term) →
    settled_by (restored (record { stamp = stamp; count = count; members = members; term = term }) None) ≡ Some (record { view = record { stamp = stamp; count = count; members = members; term = term }; is_moving = false })
told_again stamp count members None = refl
told_again stamp count members (Some term) = refl

-- a chunk is settled
pub settling_put : (leases : fin.FinMap nat_cmp Lease) (k : ℕ) (view : View) → chunks_of (fin.insert leases k (restored view None)) ≡ fin.insert (chunks_of leases) k (record { view = view; is_moving = false })
settling_put leases k view = chunks_put leases k (restored view None) (record { view = view; is_moving = false }) (told_again view.stamp view.count view.members view.term)

pub with_others : (d e : Durable) (m n : fin.FinMap nat_cmp Settled) → d ≡ e → m ≡ n → record d { chunks = m } ≡ record e { chunks = n }
with_others d e m n p q = λ i. record (p i) { chunks = q i }

pub marked : (r : Recorded) (slots : List (ℕ × Option Lease)) (k : ℕ) (lease : Lease) (view : View) (stamp : Stamp) →
    live nat_cmp slots ≡ fin.insert (live nat_cmp r.leases) k lease → lease ≡ restored view (Some stamp) → Some view ≡ view_in (fin.get (durable_of r).chunks k) →
    record (durable_of r) { chunks = chunks_of (live nat_cmp slots) } ≡ record (durable_of r) { chunks = with_proposal (durable_of r) k (fin.get (durable_of r).chunks k) }
marked r slots k lease view stamp put is has =
    ap (λ m. record (durable_of r) { chunks = m })
    (ap chunks_of put ∙ ap (λ l. chunks_of (fin.insert (live nat_cmp r.leases) k l)) is ∙ proposal_put (durable_of r) (live nat_cmp r.leases) k view stamp (fin.get (durable_of r).chunks k) refl has)

pub settled_gives : (old mid : Recorded) (slots : List (ℕ × Option Lease)) (v : SettledView) (lease : Lease) → may_be_settled (durable_of old) v ≡ true →
    durable_of mid ≡ record (durable_of old) { prepared = kept_before (durable_of old) v.handle } → mid.leases ≡ old.leases →
    live nat_cmp slots ≡ fin.insert (live nat_cmp mid.leases) v.handle lease → lease ≡ restored v.view None →
    applied (durable_of old) (Settle v) ≡ Some (record (durable_of mid) { chunks = chunks_of (live nat_cmp slots) })
unfolding applied
settled_gives old mid slots v lease may kept same put is =
    let chunks = ap chunks_of (put ∙ ap (λ l. fin.insert (live nat_cmp l) v.handle lease) same ∙ ap (fin.insert (live nat_cmp old.leases) v.handle) is) ∙ settling_put (live nat_cmp old.leases) v.handle v.view in
    rw may (ap Some (with_others _ _ _ _ (sym kept) (sym chunks)))

-- ---- chunks at rest

abbrev pub told_entry : ℕ × Lease → ℕ × Option Settled
told_entry e = (e.0, settled_by e.1)

same_keys : (es : List (ℕ × Lease)) → map (λ (e : ℕ × Option Settled). e.0) (map told_entry es) ≡ map (λ (e : ℕ × Lease). e.0) es
same_keys [] = refl
same_keys (e ∷ es) = ap (λ keys. e.0 ∷ keys) (same_keys es)

-- the settled chunks in their order
pub entries_chunks : (leases : fin.FinMap nat_cmp Lease) → IsStrictlySortedBy nat_cmp (map (λ (e : ℕ × Lease). e.0) (fin.entries leases)) → fin.entries (chunks_of leases) ≡ live_entries (map told_entry (fin.entries leases))
unfolding chunks_of
entries_chunks leases rising =
    entries-live nat_cmp_total fin.nat_cmp-IsAntisymmetric (map told_entry (fin.entries leases)) (subst (IsStrictlySortedBy nat_cmp) (sym (same_keys (fin.entries leases))) rising)

one_rests : (listed : ℕ → Bool) (k : ℕ) (settled : Option Settled) (rest : List (ℕ × Option Settled)) →
    (not (listed k) || rests settled) && list_all (λ e. is_at_rest e.1) (filter (λ e. listed e.0) (live_entries rest))
    ≡ list_all (λ e. is_at_rest e.1) (filter (λ e. listed e.0) (live_entries ((k, settled) ∷ rest)))
one_rests listed k None rest = by_case (listed k)
  where
    by_case : (l : Bool) → (not l || true) && list_all (λ e. is_at_rest e.1) (filter (λ e. listed e.0) (live_entries rest)) ≡ list_all (λ e. is_at_rest e.1) (filter (λ e. listed e.0) (live_entries rest))
    by_case true = refl
    by_case false = refl
one_rests listed k (Some s) rest = by_case (listed k)
  where
    by_case : (l : Bool) → (not l || is_at_rest s) && list_all (λ e. is_at_rest e.1) (filter (λ e. listed e.0) (live_entries rest))
        ≡ list_all (λ (e : ℕ × Settled). is_at_rest e.1) (cond l ((k, s) ∷ filter (λ e. listed e.0) (live_entries rest)) (filter (λ e. listed e.0) (live_entries rest)))
    by_case true = refl
    by_case false = refl

all_rest : (listed : ℕ → Bool) (es : List (ℕ × Lease)) → list_all (λ e. not (listed e.0) || rests (settled_by e.1)) es ≡ list_all (λ e. is_at_rest e.1) (filter (λ e. listed e.0) (live_entries (map told_entry es)))
all_rest listed [] = refl
all_rest listed (e ∷ es) = ap (λ b. (not (listed e.0) || rests (settled_by e.1)) && b) (all_rest listed es) ∙ one_rests listed e.0 (settled_by e.1) (map told_entry es)

abbrev pub all_rest_in : Recorded → List (ℕ × Lease) → Bool
all_rest_in r es = list_all (λ (e : ℕ × Lease). not (is_listed (durable_of r) e.0) || rests (settled_by e.1)) es

pub goes_on : (listed rest all : Bool) → listed && not rest ≡ false → (not listed || rest) && all ≡ all
goes_on true true all h = refl
goes_on true false all h = absurd (false≢true (sym h))
goes_on false rest all h = refl

pub ends_there : (listed rest all : Bool) → listed && not rest ≡ true → (not listed || rest) && all ≡ false
ends_there true true all h = absurd (false≢true h)
ends_there true false all h = refl
ends_there false rest all h = absurd (false≢true h)

-- each listed chunk is at rest where each lease is that of one, or of one that isn't listed
pub at_rest_by : (r : Recorded) → IsStrictlySortedBy nat_cmp (map (λ (e : ℕ × Lease). e.0) (fin.entries (live nat_cmp r.leases))) →
    list_all (λ (e : ℕ × Lease). not (is_listed (durable_of r) e.0) || rests (settled_by e.1)) (fin.entries (live nat_cmp r.leases)) ≡ are_at_rest (durable_of r)
at_rest_by r rising =
    all_rest (is_listed (durable_of r)) (fin.entries (live nat_cmp r.leases))
    ∙ ap (λ es. list_all (λ (e : ℕ × Settled). is_at_rest e.1) (filter (λ e. is_listed (durable_of r) e.0) es)) (sym (entries_chunks (live nat_cmp r.leases) rising))

pub at_rest_is : (r : Recorded) (es : List (ℕ × Lease)) → es ≡ fin.entries (live nat_cmp r.leases) → IsStrictlySortedBy nat_cmp (map (λ (e : ℕ × Lease). e.0) es) → (b : Bool) → all_rest_in r es ≡ b → b ≡ are_at_rest (durable_of r)
at_rest_is r es is rising b h = sym h ∙ ap (all_rest_in r) is ∙ at_rest_by r (subst (λ es. IsStrictlySortedBy nat_cmp (map (λ (e : ℕ × Lease). e.0) es)) is rising)

-- ---- chunks as they stood at prepare

drop_here : (xs : List Answered) (i : ℕ) (x : Answered) → i < length xs → x ≡ get_or xs i x → drop i xs ≡ x ∷ drop (i + 1) xs
drop_here xs i x h at = rw (add-one, drop-cons xs i x h) (ap (λ y. y ∷ drop (suc i) xs) (sym at))

without_one : (f : Answered → Option (ℕ × Settled)) (x : Answered) (xs : List Answered) → f x ≡ None → filter_map f (x ∷ xs) ≡ filter_map f xs
without_one f x xs is = rw is refl

with_one : (f : Answered → Option (ℕ × Settled)) (x : Answered) (xs : List Answered) (y : ℕ × Settled) → f x ≡ Some y → filter_map f (x ∷ xs) ≡ y ∷ filter_map f xs
with_one f x xs y is = rw is refl

abbrev restored_entry : Durable → Answered → Prepared → ℕ × Settled
restored_entry d x prepared = (x.handle, restored_view d.epoch prepared x.members)

-- of a chunk without a prepared view nothing is restored
pub nothing_restored : (d : Durable) (xs : List Answered) (i : ℕ) (x : Answered) (m : fin.FinMap nat_cmp Settled) → i < length xs → x ≡ get_or xs i x → prepared_view d x.handle ≡ None →
    m ≡ restored_chunks d (drop (i + 1) xs) → m ≡ restored_chunks d (drop i xs)
nothing_restored d xs i x m h at none is =
    is ∙ sym (ap (restored_chunks d) (drop_here xs i x h at) ∙ ap fin.from_entries (without_one (restored_chunk d) x (drop (i + 1) xs) (ap (option_map (restored_entry d x)) none)))

pub one_restored : (d : Durable) (xs : List Answered) (i : ℕ) (x : Answered) (p : Prepared) (leases more : fin.FinMap nat_cmp Lease) (lease : Lease) (view : View) → i < length xs → x ≡ get_or xs i x → Some p ≡ prepared_view d x.handle →
    more ≡ fin.insert leases x.handle lease → lease ≡ restored view None → view ≡ (restored_view d.epoch p x.members).view →
    chunks_of leases ≡ restored_chunks d (drop (i + 1) xs) → chunks_of more ≡ restored_chunks d (drop i xs)
one_restored d xs i x p leases more lease view h at has put is same all =
    let rest = drop (i + 1) xs in
    ap chunks_of put ∙ ap (λ l. chunks_of (fin.insert leases x.handle l)) (is ∙ ap (λ v. restored v None) same)
    ∙ settling_put leases x.handle (restored_view d.epoch p x.members).view
    ∙ ap (λ m. fin.insert m x.handle (restored_view d.epoch p x.members)) all
    ∙ sym (ap (restored_chunks d) (drop_here xs i x h at) ∙ ap fin.from_entries (with_one (restored_chunk d) x rest (restored_entry d x p) (ap (option_map (restored_entry d x)) (sym has))))

pub none_restored : (d : Durable) (xs : List Answered) (i : ℕ) (leases : fin.FinMap nat_cmp Lease) → i ≡ length xs → leases ≡ fin.empty → chunks_of leases ≡ restored_chunks d (drop i xs)
none_restored d xs i leases is no_lease = ap chunks_of no_lease ∙ chunks_empty ∙ ap (restored_chunks d) (sym (drop_all i xs (omega arith)))

-- ---- answers for each listed chunk

abbrev Places : Type 0
Places = ℕ → Option Prepared

and_assoc : (a b c : Bool) → a && (b && c) ≡ (a && b) && c
and_assoc true b c = refl
and_assoc false b c = refl

and_false : (a b : Bool) → a && (b && false) ≡ false
and_false true true = refl
and_false true false = refl
and_false false b = refl

drop_listed : (xs : List (ℕ × ℕ)) (i : ℕ) (x : ℕ × ℕ) → i < length xs → x ≡ get_or xs i x → drop i xs ≡ x ∷ drop (i + 1) xs
drop_listed xs i x h at = rw (add-one, drop-cons xs i x h) (ap (λ y. y ∷ drop (suc i) xs) (sym at))

pub answers_step : (prepared : Places) (listed : List (ℕ × ℕ)) (answers : List Answered) (i : ℕ) (e : ℕ × ℕ) (x : Answered) → i < length listed → i < length answers → e ≡ get_or listed i e → x ≡ get_or answers i x →
    are_answers prepared (drop i listed) (drop i answers) ≡ answers_for_one prepared e x && are_answers prepared (drop (i + 1) listed) (drop (i + 1) answers)
answers_step prepared listed answers i e x h k at_e at_x =
    ap (λ es. are_answers prepared es (drop i answers)) (drop_listed listed i e h at_e) ∙ ap (are_answers prepared (e ∷ drop (i + 1) listed)) (drop_here answers i x k at_x)
    ∙ and_assoc (x.handle == e.0) (may_restore (prepared e.0) e.1 x.members) (are_answers prepared (drop (i + 1) listed) (drop (i + 1) answers))

pub answers_end : (prepared : Places) (listed : List (ℕ × ℕ)) (answers : List Answered) (i : ℕ) → length listed ≤ i → length answers ≤ i → are_answers prepared (drop i listed) (drop i answers) ≡ true
answers_end prepared listed answers i h k =
    ap (λ es. are_answers prepared es (drop i answers)) (drop_all i listed h) ∙ ap (are_answers prepared []) (drop_all i answers k)

pub answers_unequal : (prepared : Places) (listed : List (ℕ × ℕ)) (answers : List Answered) → (length listed ≡ length answers → ⊥) → are_answers prepared listed answers ≡ false
answers_unequal prepared [] [] apart = absurd (apart refl)
answers_unequal prepared [] (x ∷ answers) apart = refl
answers_unequal prepared (e ∷ listed) [] apart = refl
answers_unequal prepared (e ∷ listed) (x ∷ answers) apart =
    ap (λ b. (x.handle == e.0) && (may_restore (prepared e.0) e.1 x.members && b)) (answers_unequal prepared listed answers (λ same. apart (ap suc same)))
    ∙ and_false (x.handle == e.0) (may_restore (prepared e.0) e.1 x.members)

-- ---- a rollback is done

pub rollback_gives : (d e : Durable) (epoch : ℕ) (answers : List Answered) (names : NamesView) (listed : List (ℕ × ℕ)) (chunks : fin.FinMap nat_cmp Settled) →
    is_rolling d.phase ≡ true → (epoch == d.epoch) ≡ true → are_answers (prepared_view d) listed answers ≡ true → listed ≡ fin.entries names.refs → all_undone d.inverses d.names ≡ Some names →
    e ≡ without_prepared d → chunks ≡ restored_chunks d answers → applied d (RollbackCommit epoch answers) ≡ Some (record e { names = names; chunks = chunks; phase = Ordinary })
unfolding applied
rollback_gives d e epoch answers names listed chunks rolling now all is back given restored =
    let fits : (is_rolling d.phase && ((epoch == d.epoch) && are_answers (prepared_view d) (fin.entries names.refs) answers)) ≡ true =
    (λ i. rolling i && (now i && are_answers (prepared_view d) (sym is i) answers)) ∙ all in
    ap (after_undoing d epoch answers) back ∙ ap (λ b. if_fits b (rolled_back d answers names)) fits
    ∙ ap Some (λ i. record (sym given i) { names = names; chunks = sym restored i; phase = Ordinary })

pub no_rollback : (d : Durable) (epoch : ℕ) (answers : List Answered) (names : NamesView) (listed : List (ℕ × ℕ)) → listed ≡ fin.entries names.refs → all_undone d.inverses d.names ≡ Some names →
    (is_rolling d.phase && ((epoch == d.epoch) && are_answers (prepared_view d) listed answers)) ≡ false → applied d (RollbackCommit epoch answers) ≡ None
unfolding applied
no_rollback d epoch answers names listed is back fits =
    ap (after_undoing d epoch answers) back ∙ ap (λ b. if_fits b (rolled_back d answers names)) (ap (λ es. is_rolling d.phase && ((epoch == d.epoch) && are_answers (prepared_view d) es answers)) (sym is) ∙ fits)

pub not_begun : (rolling now all : Bool) → rolling && now ≡ false → rolling && (now && all) ≡ false
not_begun true true all h = absurd (false≢true (sym h))
not_begun true false all h = refl
not_begun false now all h = refl

pub not_answered : (rolling now all : Bool) → all ≡ false → rolling && (now && all) ≡ false
not_answered true true all h = h
not_answered true false all h = refl
not_answered false now all h = refl

-- a rollback that isn't begun isn't done, whatever its names would be
pub commit_too_soon : (d : Durable) (epoch : ℕ) (answers : List Answered) → is_rolling d.phase && (epoch == d.epoch) ≡ false → applied d (RollbackCommit epoch answers) ≡ None
unfolding applied
commit_too_soon d epoch answers is = by_names (all_undone d.inverses d.names)
  where
    by_names : (names : Option NamesView) → after_undoing d epoch answers names ≡ None
    by_names None = refl
    by_names (Some names) =
        ap (λ b. if_fits b (rolled_back d answers names)) (not_begun (is_rolling d.phase) (epoch == d.epoch) (are_answers (prepared_view d) (fin.entries names.refs) answers) is)

pub commit_refused : (d : Durable) (epoch : ℕ) (answers : List Answered) (e : Refusal) → (e ≡ Memory) ⊎ ((e ≡ BadLine) × (all_undone d.inverses d.names ≡ None)) →
    (e ≡ Memory) ⊎ ((applied d (RollbackCommit epoch answers) ≡ None) × (e ≡ BadLine))
unfolding applied
commit_refused d epoch answers e (inl memory) = inl memory
commit_refused d epoch answers e (inr bad) = inr (ap (after_undoing d epoch answers) bad.1, bad.0)

pub rolls : (phase : Phase) → is_rolling phase ≡ true → phase ≡ Rolling
rolls Ordinary is = absurd (false≢true is)
rolls Upgrade is = absurd (false≢true is)
rolls Rolling is = refl
