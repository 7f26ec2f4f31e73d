-- What is read of a checkpoint's lists.
use Rattle.std.proofs.Common.{◌≡◌, ◌∙◌, ◌<◌, ◌≤◌, ◌+◌, suc, add-one, drop, drop-cons, get_or, length, ℕ, Bool, true, false, ◌==◌, ◌||◌, ◌&&◌, cond, List, [], ◌∷◌, refl, ap, sym, eq-eqb, arith}
use Rattle.std.specs.Prelude.{Option, Some, None, is_some}
use Rattle.std.specs.List.{list_any}
use Rattle.std.specs.Cmp.{eq_by_cmp_equiv, nat_cmp_total}
use Rattle.std.proofs.lemmas.Bool.{false≢true}
use Rattle.std.proofs.lemmas.Bool.Decides.{nat_tests}
use Rattle.std.specs.FinMap as fin
use Rattle.std.specs.Ordering.{eq_by_cmp, nat_cmp}
use Rattle.std.proofs.lemmas.List.{drop_all}
use Rattle.gs_lease.specs.declared.lease.Lease.{Lease}
use Rattle.gs_lease.specs.declared.view.Term.{Term}
use Rattle.gs_base.specs.declared.numbers.Stamp.{Stamp}
use Rattle.gs_edit.proofs.References.{same-is}
use Rattle.gs_tree.proofs.Levels.{never}
use Rattle.gs_master_record.specs.declared.checkpoint.Reference.{Reference}
use Rattle.gs_master_record.specs.declared.checkpoint.PreparedView.{PreparedView}
use Rattle.gs_master_record.specs.declared.checkpoint.SettledEntry.{SettledEntry}
use Rattle.gs_master_spec.specs.Whole.{are_settled}
use Rattle.gs_master_state.specs.Checkpoints.{have_views, lease_of, told_chunks, told_prepared}
use Rattle.gs_master_spec.specs.Durable.{Settled}
use Rattle.gs_master_state.specs.inner.Recorded.{chunks_of, settled_by}
use Rattle.gs_master_spec.specs.declared.asking.Prepared.{Prepared}
use Rattle.gs_master_state.proofs.Recording.{chunks_empty, chunks_put}

drop_here : {A : Type 0} (xs : List A) (i : ℕ) (x : A) → i < length xs → x ≡ get_or xs i x → drop i xs ≡ x ∷ drop (i + 1) xs
drop_here xs i x h at = rw (add-one, drop-cons xs i x h) (ap (λ y. y ∷ drop (suc i) xs) (sym at))

settled_told : (handle : ℕ) (stamp : Stamp) (count : ℕ) (members : List ℕ) (term : Option Term) (is_moving : Bool) →
    settled_by (lease_of (record { settled = record { handle = handle; view = record { stamp = stamp; count = count; members = members; term = term } }; is_moving = is_moving }))
    ≡ Some (record { view = record { stamp = stamp; count = count; members = members; term = term }; is_moving = is_moving })
settled_told handle stamp count members term true = refl
settled_told handle stamp count members None false = refl
settled_told handle stamp count members (Some term) false = refl

pub leases_none : (entries : List SettledEntry) (left : ℕ) (leases : fin.FinMap nat_cmp Lease) → length entries ≤ left → leases ≡ fin.empty → chunks_of leases ≡ told_chunks (drop left entries)
leases_none entries left leases h is = ap chunks_of is ∙ chunks_empty ∙ ap told_chunks (sym (drop_all left entries h))

pub leases_more : (entries : List SettledEntry) (before left : ℕ) (x : SettledEntry) (leases more : fin.FinMap nat_cmp Lease) (lease : Lease) → left < length entries → before ≡ left + 1 → x ≡ get_or entries left x → lease ≡ lease_of x → more ≡ fin.insert leases x.settled.handle lease
    → chunks_of leases ≡ told_chunks (drop before entries) → chunks_of more ≡ told_chunks (drop left entries)
leases_more entries before left x leases more lease h one at is put rest =
    let view = x.settled.view in
    ap chunks_of put ∙ ap (λ l. chunks_of (fin.insert leases x.settled.handle l)) is
    ∙ chunks_put leases x.settled.handle (lease_of x) (record { view = view; is_moving = x.is_moving }) (settled_told x.settled.handle view.stamp view.count view.members view.term x.is_moving)
    ∙ ap (λ m. fin.insert m x.settled.handle (record { view = view; is_moving = x.is_moving })) (rest ∙ ap (λ n. told_chunks (drop n entries)) one)
    ∙ sym (ap told_chunks (drop_here entries left x h at))

pub prepared_none : (entries : List PreparedView) (left : ℕ) (views : fin.FinMap nat_cmp Prepared) → length entries ≤ left → views ≡ fin.empty → views ≡ told_prepared (drop left entries)
prepared_none entries left views h is = is ∙ ap told_prepared (sym (drop_all left entries h))

pub prepared_more : (entries : List PreparedView) (before left : ℕ) (x : PreparedView) (views more : fin.FinMap nat_cmp Prepared) → left < length entries → before ≡ left + 1 → x ≡ get_or entries left x
    → more ≡ fin.insert views x.settled.handle (record { view = x.settled.view; holders = x.holders }) → views ≡ told_prepared (drop before entries) → more ≡ told_prepared (drop left entries)
prepared_more entries before left x views more h one at put rest =
    put ∙ ap (λ m. fin.insert m x.settled.handle (record { view = x.settled.view; holders = x.holders })) (rest ∙ ap (λ n. told_prepared (drop n entries)) one)
    ∙ sym (ap told_prepared (drop_here entries left x h at))

-- ---- settled chunks

abbrev same : ℕ → ℕ → Bool
same a b = eq_by_cmp nat_cmp a b

both_some : (handle q : ℕ) (s : Settled) (rest : Option Settled) (b : Bool) → same q handle ≡ b → is_some (cond b (Some s) rest) ≡ (handle == q) || is_some rest
both_some handle q s rest true is = sym (ap (λ t. t || is_some rest) (eq-eqb handle q (sym (same-is q handle is))))
both_some handle q s rest false is =
    sym (ap (λ t. t || is_some rest) (never (handle == q) (λ e. let one : handle ≡ q = grind (arith, nat_tests) in false≢true (sym is ∙ ap (same q) one ∙ (eq_by_cmp_equiv nat_cmp_total).refl q))))

told_some : (settled : List SettledEntry) (q : ℕ) → is_some (fin.get (told_chunks settled) q) ≡ list_any (λ (s : SettledEntry). s.settled.handle == q) settled
told_some [] q = ap is_some (fin.get-empty nat_cmp q)
told_some (s ∷ settled) q =
    ap is_some (fin.get-insert nat_cmp_total (told_chunks settled) s.settled.handle (record { view = s.settled.view; is_moving = s.is_moving }) q)
    ∙ both_some s.settled.handle q (record { view = s.settled.view; is_moving = s.is_moving }) (fin.get (told_chunks settled) q) (same q s.settled.handle) refl
    ∙ ap (λ b. (s.settled.handle == q) || b) (told_some settled q)

-- the counted chunks are settled where the chunks that are told have them
pub views_settled : (settled : List SettledEntry) (references : List Reference) → have_views (told_chunks settled) references ≡ are_settled references settled
views_settled settled [] = refl
views_settled settled (r ∷ references) = λ i. told_some settled r.handle i && views_settled settled references i
