-- What a lease more or less does to the counts of servers.
use Rattle.std.proofs.Common.{◌≡◌, ◌+◌, ◌<◌, ◌≤◌, ◌^◌, ℕ, suc, Bool, true, false, cond, List, [], ◌∷◌, length, Option, Some, None, refl, ap, sym, subst, ◌∙◌, arith}
use Rattle.std.specs.Prelude.{slice_index, if◌then◌else◌, nat_lt, ◌||◌}
use Rattle.std.specs.List.{list_any}
use Rattle.std.specs.declared.cmp.Ordering.{Ordering}
use Rattle.std.specs.declared.cmp.Ordering.TheVariants.{Less, Equal, Greater}
use Rattle.std.specs.Ordering.{nat_cmp, eq_by_cmp, is_eq}
use Rattle.std.specs.Cmp.{eq_by_cmp_equiv}
use Rattle.std.specs.FinMap as fin
use Rattle.std.proofs.lemmas.Bool.{false≢true}
use Rattle.std.proofs.lemmas.Cmp.{nat_cmp_total}
use Rattle.gs_base.specs.Members.{is_member}
use Rattle.gs_lease.specs.declared.lease.Lease.{Lease}
use Rattle.gs_lease_table.specs.Settlings.{EachTellsSettled, MayTellSettled, tells_settled}
use Rattle.gs_lease_table.specs.declared.tally.Brief.{Brief}
use Rattle.gs_lease_table.specs.declared.tally.Tally.{Tally}
use Rattle.gs_lease_table.specs.Tallies.{Adds, CanCount, Exchanges, HasCounted, IsTallyOf, brief_of, briefs_of, counts_leased, counts_on, has_primary, one_on, one_primary, replicas, settled_members, tally}

abbrev Leases : Type 0
Leases = fin.FinMap nat_cmp Lease

moved : (a b x y : ℕ) → y ≡ b + x → a + y ≡ b + (a + x)
moved a b x y is = omega arith

-- a lease that is put at a new chunk
tally_put : (weight : Lease → ℕ) (chunk : ℕ) (lease : Lease) (es : List (ℕ × Lease)) → fin.find nat_cmp chunk es ≡ None →
    tally weight (fin.put nat_cmp chunk lease es) ≡ weight lease + tally weight es
tally_put weight chunk lease [] none = refl
tally_put weight chunk lease (e ∷ es) none = by_place (tally_put weight chunk lease es) (nat_cmp chunk e.0) refl
  where
    found : (r : Ordering) → nat_cmp chunk e.0 ≡ r → cond (is_eq r) (Some e.1) (fin.find nat_cmp chunk es) ≡ None
    found r is = sym (ap (λ r. cond (is_eq r) (Some e.1) (fin.find nat_cmp chunk es)) is) ∙ none

    by_place : (fin.find nat_cmp chunk es ≡ None → tally weight (fin.put nat_cmp chunk lease es) ≡ weight lease + tally weight es) → (r : Ordering) → nat_cmp chunk e.0 ≡ r → tally weight (fin.put nat_cmp chunk lease (e ∷ es)) ≡ weight lease + tally weight (e ∷ es)
    by_place behind Less is = rw is refl
    by_place behind Equal is = let none : Some e.1 ≡ None = found Equal is in absurd (cc)
    by_place behind Greater is = rw is (moved (weight e.1) (weight lease) _ _ (behind (found Greater is)))

tally_insert : (weight : Lease → ℕ) (chunk : ℕ) (lease : Lease) (m : Leases) → fin.get m chunk ≡ None →
    tally weight (fin.entries (fin.insert m chunk lease)) ≡ weight lease + tally weight (fin.entries m)
tally_insert weight chunk lease m none =
    ap (tally weight) (fin.entries-insert nat_cmp_total m chunk lease) ∙ tally_put weight chunk lease (fin.entries m) (sym (fin.get-entries m chunk) ∙ none)

is_equal : (r : Ordering) → is_eq r ≡ true → r ≡ Equal
is_equal Less h = absurd (false≢true h)
is_equal Equal h = refl
is_equal Greater h = absurd (false≢true h)

pub same_chunk : (q chunk : ℕ) → eq_by_cmp nat_cmp q chunk ≡ true → q ≡ chunk
same_chunk q chunk is = fin.nat_cmp-IsAntisymmetric q chunk (is_equal (nat_cmp q chunk) is)

pub none_removed : (m : Leases) (chunk : ℕ) → fin.get (fin.remove m chunk) chunk ≡ None
none_removed m chunk = fin.get-remove nat_cmp_total m chunk chunk ∙ ap (λ b. cond b None (fin.get m chunk)) ((eq_by_cmp_equiv nat_cmp_total).refl chunk)

shadowed : {A : Type 0} (b : Bool) (x y z : A) → cond b x (cond b y z) ≡ cond b x z
shadowed true x y z = refl
shadowed false x y z = refl

pub insert_removed : (m : Leases) (chunk : ℕ) (lease : Lease) → fin.insert (fin.remove m chunk) chunk lease ≡ fin.insert m chunk lease
insert_removed m chunk lease = fin.same_map nat_cmp_total fin.nat_cmp-IsAntisymmetric _ _ (λ q.
    fin.get-insert nat_cmp_total (fin.remove m chunk) chunk lease q ∙ ap (cond (eq_by_cmp nat_cmp q chunk) (Some lease)) (fin.get-remove nat_cmp_total m chunk q)
    ∙ shadowed (eq_by_cmp nat_cmp q chunk) (Some lease) None (fin.get m q) ∙ sym (fin.get-insert nat_cmp_total m chunk lease q))

insert_found : (m : Leases) (chunk : ℕ) (lease : Lease) → fin.get m chunk ≡ Some lease → fin.insert m chunk lease ≡ m
insert_found m chunk lease found = fin.same_map nat_cmp_total fin.nat_cmp-IsAntisymmetric _ _ (λ q. fin.get-insert nat_cmp_total m chunk lease q ∙ there q (eq_by_cmp nat_cmp q chunk) refl)
  where
    there : (q : ℕ) (b : Bool) → eq_by_cmp nat_cmp q chunk ≡ b → cond b (Some lease) (fin.get m q) ≡ fin.get m q
    there q true is = sym found ∙ ap (fin.get m) (sym (same_chunk q chunk is))
    there q false is = refl

pub remove_absent : (m : Leases) (chunk : ℕ) → fin.get m chunk ≡ None → fin.remove m chunk ≡ m
remove_absent m chunk none = fin.same_map nat_cmp_total fin.nat_cmp-IsAntisymmetric _ _ (λ q. fin.get-remove nat_cmp_total m chunk q ∙ there q (eq_by_cmp nat_cmp q chunk) refl)
  where
    there : (q : ℕ) (b : Bool) → eq_by_cmp nat_cmp q chunk ≡ b → cond b None (fin.get m q) ≡ fin.get m q
    there q true is = sym none ∙ ap (fin.get m) (sym (same_chunk q chunk is))
    there q false is = refl

-- a lease that stands is counted
tally_found : (weight : Lease → ℕ) (chunk : ℕ) (lease : Lease) (m : Leases) → fin.get m chunk ≡ Some lease →
    tally weight (fin.entries m) ≡ weight lease + tally weight (fin.entries (fin.remove m chunk))
tally_found weight chunk lease m found =
    ap (λ n. tally weight (fin.entries n)) (sym (insert_removed m chunk lease ∙ insert_found m chunk lease found))
    ∙ tally_insert weight chunk lease (fin.remove m chunk) (none_removed m chunk)

-- ---- a table begins

no_length : {A : Type 0} (xs : List A) → length xs ≡ 0 → xs ≡ []
no_length [] e = refl
no_length (x ∷ xs) e = absurd (omega arith)

pub none_counted : (m : Leases) (weight : Lease → ℕ) → m ≡ fin.empty → tally weight (fin.entries m) ≡ 0
none_counted m weight is = ap (λ n. tally weight (fin.entries n)) is ∙ ap (tally weight) (no_length (fin.entries fin.empty) (sym (fin.len-entries fin.empty) ∙ fin.len-empty nat_cmp Lease))

-- ---- leases come and go

pub same_tally : (m n : Leases) (t : Tally) → n ≡ m → IsTallyOf (fin.entries m) t → IsTallyOf (fin.entries n) t
same_tally m n t is are = subst (λ m. IsTallyOf (fin.entries m) t) (sym is) are

pub still_tally : (m n : Leases) (t : Tally) (chunk : ℕ) → None ≡ fin.get m chunk → n ≡ fin.remove m chunk → IsTallyOf (fin.entries m) t → IsTallyOf (fin.entries n) t
still_tally m n t chunk none is = same_tally m n t (is ∙ remove_absent m chunk (sym none))

fewer : (c n a b : ℕ) → c ≡ n → n ≡ a + b → a ≤ c
fewer c n a b counted is = omega arith

counted_before : (m : Leases) (t : Tally) (chunk : ℕ) (before : Option Lease) → before ≡ fin.get m chunk → IsTallyOf (fin.entries m) t → HasCounted (briefs_of before) t
counted_before m t chunk None found are = record { replicas = λ server low. omega arith; primaries = omega arith }
counted_before m t chunk (Some lease) found are = record {
  replicas = λ server low. fewer (slice_index t.replicas server) _ (one_on server lease) (replicas server (fin.entries (fin.remove m chunk))) (are.replicas.each server low) (tally_found (one_on server) chunk lease m (sym found));
  primaries = fewer t.primaries _ (one_primary lease) (tally one_primary (fin.entries (fin.remove m chunk))) are.primaries (tally_found one_primary chunk lease m (sym found));
}

pub has_counted : (m : Leases) (t : Tally) (chunk : ℕ) (before : Option Lease) (brief : Option Brief) → brief ≡ briefs_of before → before ≡ fin.get m chunk → IsTallyOf (fin.entries m) t → HasCounted brief t
has_counted m t chunk before brief told found are = subst (λ b. HasCounted b t) (sym told) (counted_before m t chunk before found are)

pub some_brief : (brief : Brief) (lease : Lease) → brief ≡ brief_of lease → Some brief ≡ briefs_of (Some lease)
some_brief brief lease is = ap Some is

rest : (new old n a b : ℕ) → old ≡ new + a → old ≡ n → n ≡ a + b → new ≡ b
rest new old n a b less counted is = omega arith

one_less : (m n : Leases) (old new : Tally) (chunk : ℕ) (lease : Lease) → Some lease ≡ fin.get m chunk → n ≡ fin.remove m chunk → Adds (Some (brief_of lease)) new old → IsTallyOf (fin.entries m) old → IsTallyOf (fin.entries n) new
one_less m n old new chunk lease found is less are = record {
  replicas = record {
    each = λ server low.
        rest (slice_index new.replicas server) (slice_index old.replicas server) _ (one_on server lease) _ (less.replicas server low) (are.replicas.each server low) (tally_found (one_on server) chunk lease m (sym found))
        ∙ ap (λ m. replicas server (fin.entries m)) (sym is);
  };
  primaries = rest new.primaries old.primaries _ (one_primary lease) _ less.primaries are.primaries (tally_found one_primary chunk lease m (sym found)) ∙ ap (λ m. tally one_primary (fin.entries m)) (sym is);
}

pub without_one : (m n : Leases) (old new : Tally) (chunk : ℕ) (lease : Lease) (brief : Brief) → brief ≡ brief_of lease → Some lease ≡ fin.get m chunk → n ≡ fin.remove m chunk → Adds (Some brief) new old → IsTallyOf (fin.entries m) old → IsTallyOf (fin.entries n) new
without_one m n old new chunk lease brief told found is less = one_less m n old new chunk lease found is (subst (λ b. Adds (Some b) new old) told less)

-- what a lease that is perhaps there weighs
abbrev weighs : (Lease → ℕ) → Option Lease → ℕ
weighs weight None = 0
weighs weight (Some lease) = weight lease

in_its_place : (n m rest a b : ℕ) → n ≡ a + rest → m ≡ b + rest → n + b ≡ m + a
in_its_place n m rest a b with_it before = omega arith

alone : (n m a : ℕ) → n ≡ a + m → n + 0 ≡ m + a
alone n m a with_it = omega arith

tally_exchanged : (weight : Lease → ℕ) (chunk : ℕ) (lease : Lease) (m : Leases) (before : Option Lease) → before ≡ fin.get m chunk →
    tally weight (fin.entries (fin.insert m chunk lease)) + weighs weight before ≡ tally weight (fin.entries m) + weight lease
tally_exchanged weight chunk lease m None found = alone _ _ (weight lease) (tally_insert weight chunk lease m (sym found))
tally_exchanged weight chunk lease m (Some old) found =
    in_its_place _ _ (tally weight (fin.entries (fin.remove m chunk))) (weight lease) (weight old)
    (ap (λ n. tally weight (fin.entries n)) (sym (insert_removed m chunk lease)) ∙ tally_insert weight chunk lease (fin.remove m chunk) (none_removed m chunk))
    (tally_found weight chunk old m (sym found))

on_server : (server : ℕ) (before : Option Lease) → counts_on server (briefs_of before) ≡ weighs (one_on server) before
on_server server None = refl
on_server server (Some lease) = refl

leased : (before : Option Lease) → counts_leased (briefs_of before) ≡ weighs one_primary before
leased None = refl
leased (Some lease) = refl

told_anew : (new old b a w n m : ℕ) → new + b ≡ old + a → b ≡ w → n + w ≡ m + a → old ≡ m → new ≡ n
told_anew new old b a w n m exchanges is anew counted = omega arith

in_place : (m n : Leases) (old new : Tally) (chunk : ℕ) (before : Option Lease) (lease : Lease) → before ≡ fin.get m chunk → n ≡ fin.insert m chunk lease →
    Exchanges (briefs_of before) (Some (brief_of lease)) old new → IsTallyOf (fin.entries m) old → IsTallyOf (fin.entries n) new
in_place m n old new chunk before lease found is exchanges are = record {
  replicas = record {
    each = λ server low.
        told_anew (slice_index new.replicas server) (slice_index old.replicas server) _ (one_on server lease) _ _ _ (exchanges.replicas server low) (on_server server before) (tally_exchanged (one_on server) chunk lease m before found) (are.replicas.each server low)
        ∙ ap (λ m. replicas server (fin.entries m)) (sym is);
  };
  primaries =
      told_anew new.primaries old.primaries _ (one_primary lease) _ _ _ exchanges.primaries (leased before) (tally_exchanged one_primary chunk lease m before found) are.primaries
      ∙ ap (λ m. tally one_primary (fin.entries m)) (sym is);
}

pub exchanged_one : (m n : Leases) (old new : Tally) (chunk : ℕ) (before : Option Lease) (lease : Lease) (was : Option Brief) (brief : Brief) → was ≡ briefs_of before → brief ≡ brief_of lease → before ≡ fin.get m chunk → n ≡ fin.insert m chunk lease →
    Exchanges was (Some brief) old new → IsTallyOf (fin.entries m) old → IsTallyOf (fin.entries n) new
exchanged_one m n old new chunk before lease was brief stood told found is exchanges =
    in_place m n old new chunk before lease found is (subst (λ w. Exchanges w (Some (brief_of lease)) old new) stood (subst (λ b. Exchanges was (Some b) old new) told exchanges))

one_at_most : (b : Bool) (n k : ℕ) → n ≤ k → (if b then 1 else 0) + n ≤ suc k
one_at_most true n k h = omega arith
one_at_most false n k h = omega arith

replicas_few : (server : ℕ) (es : List (ℕ × Lease)) → replicas server es ≤ length es
replicas_few server [] = omega arith
replicas_few server (e ∷ es) = one_at_most (is_member (settled_members e.1) server) (replicas server es) (length es) (replicas_few server es)

primaries_few : (es : List (ℕ × Lease)) → tally one_primary es ≤ length es
primaries_few [] = omega arith
primaries_few (e ∷ es) = one_at_most (has_primary e.1) (tally one_primary es) (length es) (primaries_few es)

small : (c n l b : ℕ) → c ≡ n → n ≤ l → l < b → c < b
small c n l b counted few fits = omega arith

pub can_count : (es : List (ℕ × Lease)) (t : Tally) → length es < 2 ^ 63 → IsTallyOf es t → CanCount t
can_count es t fits are = record {
  replicas = λ server low. small (slice_index t.replicas server) (replicas server es) (length es) (2 ^ 63) (are.replicas.each server low) (replicas_few server es) fits;
  primaries = small t.primaries (tally one_primary es) (length es) (2 ^ 63) are.primaries (primaries_few es) fits;
}

-- ---- whether there is a primary

one_or_more : (b : Bool) (n : ℕ) → nat_lt 0 ((if b then 1 else 0) + n) ≡ (b || nat_lt 0 n)
one_or_more true n = grind arith
one_or_more false n = grind arith

any_primary : (es : List (ℕ × Lease)) → nat_lt 0 (tally one_primary es) ≡ list_any (λ (e : ℕ × Lease). has_primary e.1) es
any_primary [] = refl
any_primary (e ∷ es) = one_or_more (has_primary e.1) (tally one_primary es) ∙ ap (λ b. has_primary e.1 || b) (any_primary es)

pub has_any : (es : List (ℕ × Lease)) (t : Tally) → IsTallyOf es t → nat_lt 0 t.primaries ≡ list_any (λ (e : ℕ × Lease). has_primary e.1) es
has_any es t are = ap (nat_lt 0) are.primaries ∙ any_primary es

-- ---- each tells a settled view

either_tells : (b : Bool) (x y : Option Lease) → MayTellSettled x → MayTellSettled y → MayTellSettled (cond b x y)
either_tells true x y here there = here
either_tells false x y here there = there

one_tells : (x : Option Lease) (lease : Lease) → MayTellSettled x → x ≡ Some lease → tells_settled lease ≡ true
one_tells x lease tells is = subst MayTellSettled is tells

pub at_one : (m : Leases) (chunk : ℕ) → EachTellsSettled m → MayTellSettled (fin.get m chunk)
at_one m chunk all = by_lease (fin.get m chunk) refl
  where
    by_lease : (x : Option Lease) → fin.get m chunk ≡ x → MayTellSettled x
    by_lease None is = tt
    by_lease (Some lease) is = all.each chunk lease is

pub no_lease_tells : (m : Leases) → m ≡ fin.empty → EachTellsSettled m
no_lease_tells m is = record {
  each = λ chunk lease found. one_tells None lease tt (sym (fin.get-empty nat_cmp chunk) ∙ ap (λ n. fin.get n chunk) (sym is) ∙ found);
}

pub fewer_tell : (m n : Leases) (chunk : ℕ) → n ≡ fin.remove m chunk → EachTellsSettled m → EachTellsSettled n
fewer_tell m n chunk is all = record {
  each = λ q lease found.
      one_tells _ lease (either_tells (eq_by_cmp nat_cmp q chunk) None (fin.get m q) tt (at_one m q all)) (sym (ap (λ l. fin.get l q) is ∙ fin.get-remove nat_cmp_total m chunk q) ∙ found);
}

pub one_more_tells : (m n : Leases) (chunk : ℕ) (put : Lease) → n ≡ fin.insert m chunk put → tells_settled put ≡ true → EachTellsSettled m → EachTellsSettled n
one_more_tells m n chunk put is tells all = record {
  each = λ q lease found.
      one_tells _ lease (either_tells (eq_by_cmp nat_cmp q chunk) (Some put) (fin.get m q) tells (at_one m q all)) (sym (ap (λ l. fin.get l q) is ∙ fin.get-insert nat_cmp_total m chunk put q) ∙ found);
}

pub same_tell : (m n : Leases) → n ≡ m → EachTellsSettled m → EachTellsSettled n
same_tell m n is all = subst EachTellsSettled (sym is) all

pub the_taken_tells : (m : Leases) (chunk : ℕ) (before : Option Lease) → before ≡ fin.get m chunk → EachTellsSettled m → MayTellSettled before
the_taken_tells m chunk before is all = subst MayTellSettled (sym is) (at_one m chunk all)
