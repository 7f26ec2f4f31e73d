-- Placement counts the chunks that the master knows.
use Rattle.std.proofs.Common.{◌≡◌, ◌∙◌, ◌||◌, ℕ, Bool, true, false, not, cond, List, [], ◌∷◌, filter, map, refl, ap, sym}
use Rattle.std.specs.Prelude.{is_some}
use Rattle.std.specs.Cmp.{nat_cmp_total}
use Rattle.std.specs.FinMap as fin
use Rattle.std.specs.List.{AllByRecursion}
use Rattle.std.specs.Ordering.{nat_cmp}
use Rattle.std.proofs.lemmas.Bool.{false≢true, true≢false}
use Rattle.gs_base.specs.Members.{is_member}
use Rattle.gs_master_spec.specs.Beginning.{is_counted}
use Rattle.gs_master_spec.specs.Chunks.{has_entry}
use Rattle.gs_master_spec.specs.Durable.{Settled, is_listed}
use Rattle.gs_laws_master.specs.Counting.{CountsKnown, CountsViews, NewOrOut}
use Rattle.gs_laws_master.proofs.lemmas.spelling.Retold.{each_entry}

-- one that is listed, new or out, and never both of these
either_one : (l u o : Bool) → (l || (u || o)) ≡ true → (o ≡ true → u ≡ false) → l ≡ false → u ≡ not o
either_one true u o known apart out = absurd (true≢false out)
either_one false true true known apart out = absurd (true≢false (apart refl))
either_one false true false known apart out = refl
either_one false false true known apart out = refl
either_one false false false known apart out = absurd (false≢true known)

pub new_or_out : NewOrOut
new_or_out s chunk f some unlisted =
    either_one (is_listed s.durable chunk) (is_member s.volatile.unplaced chunk) (is_member s.volatile.taken_out chunk) (f.stands.counted chunk some) (λ here. (f.stands.out chunk here).1) unlisted

same_count : (l u o : Bool) → (l ≡ false → u ≡ not o) → (l || not o) ≡ (l || u)
same_count true u o same = refl
same_count false u o same = sym (same refl)

pub counts_known : CountsKnown
counts_known s chunk f some = same_count (is_listed s.durable chunk) (is_member s.volatile.unplaced chunk) (is_member s.volatile.taken_out chunk) (new_or_out s chunk f some)

filter_alike : {A : Type 0} (f g : A → Bool) (xs : List A) → AllByRecursion (λ x. f x ≡ g x) xs → filter f xs ≡ filter g xs
filter_alike f g [] same = refl
filter_alike f g (x ∷ xs) same = λ i. cond (same.0 i) (x ∷ filter_alike f g xs same.1 i) (filter_alike f g xs same.1 i)

pub counts_views : CountsViews
counts_views s f = ap (map (λ (e : ℕ × Settled). e.1.view)) (filter_alike (λ e. is_counted s e.0) (λ e. has_entry s e.0) (fin.entries s.durable.chunks)
    (each_entry nat_cmp nat_cmp_total fin.nat_cmp-IsAntisymmetric (λ chunk settled. is_counted s chunk ≡ has_entry s chunk) (fin.entries s.durable.chunks) (fin.entries_sorted s.durable.chunks)
    (λ chunk settled found. counts_known s chunk f (ap is_some (fin.get-entries s.durable.chunks chunk) ∙ ap is_some found))))
