-- What a lease more or less does to the groups.
use Rattle.std.proofs.Common.{inl, inr, ◌≡◌, ◌<◌, ◌+◌, ◌-◌, ℕ, Bool, true, false, cond, List, [], length, Option, Some, None, refl, ap, sym, subst, ◌∙◌, arith}
use Rattle.std.specs.Prelude.{◌==◌, is_some, nat_lt, IfSome}
use Rattle.std.specs.Ordering.{nat_cmp, eq_by_cmp}
use Rattle.std.specs.FinMap as fin
use Rattle.std.proofs.lemmas.Cmp.{nat_cmp_total}
use Rattle.gs_base.specs.Members.{is_member}
use Rattle.gs_lease.specs.declared.lease.Lease.{Lease}
use Rattle.gs_lease_table.proofs.Changed.{remove_absent, same_chunk}
use Rattle.gs_lease_table.specs.Groups.{AreEmpty, AreGroupsOf, AreThose, Exchanges, belongs, changed, chunks_at, is_in, passes}
use Rattle.gs_lease_table.specs.declared.tally.Brief.{Brief}
use Rattle.gs_lease_table.specs.Tallies.{brief_of, briefs_of, has_primary, settled_members}

abbrev Leases : Type 0
Leases = fin.FinMap nat_cmp Lease

abbrev Chunks : Type 0
Chunks = fin.FinMap nat_cmp Bool

-- ---- one group

into : (chunk : ℕ) (chunks : Chunks) (q : ℕ) (e : Bool) → eq_by_cmp nat_cmp q chunk ≡ e → (was : Bool) → was ≡ is_some (fin.get chunks chunk) → was ≡ true → is_some (fin.get chunks q) ≡ cond e true (is_some (fin.get chunks q))
into chunk chunks q true same was is has = ap (λ k. is_some (fin.get chunks k)) (same_chunk q chunk same) ∙ sym is ∙ has
into chunk chunks q false same was is has = refl

out_of : (chunk : ℕ) (chunks : Chunks) (q : ℕ) (e : Bool) → eq_by_cmp nat_cmp q chunk ≡ e → (was : Bool) → was ≡ is_some (fin.get chunks chunk) → was ≡ false → is_some (fin.get chunks q) ≡ cond e false (is_some (fin.get chunks q))
out_of chunk chunks q true same was is has = ap (λ k. is_some (fin.get chunks k)) (same_chunk q chunk same) ∙ sym is ∙ has
out_of chunk chunks q false same was is has = refl

is_some_of : (e : Bool) (x y : Option Bool) → is_some (cond e x y) ≡ cond e (is_some x) (is_some y)
is_some_of true x y = refl
is_some_of false x y = refl

-- the chunk is in the group if it is to be, and the others are as they were
changed_at : (chunk : ℕ) (chunks : Chunks) (was is : Bool) → was ≡ is_some (fin.get chunks chunk) → (q : ℕ) → is_some (fin.get (changed was is chunk chunks) q) ≡ cond (eq_by_cmp nat_cmp q chunk) is (is_some (fin.get chunks q))
changed_at chunk chunks true true had q = into chunk chunks q (eq_by_cmp nat_cmp q chunk) refl true had refl
changed_at chunk chunks false true had q = ap is_some (fin.get-insert nat_cmp_total chunks chunk true q) ∙ is_some_of (eq_by_cmp nat_cmp q chunk) (Some true) (fin.get chunks q)
changed_at chunk chunks true false had q = ap is_some (fin.get-remove nat_cmp_total chunks chunk q) ∙ is_some_of (eq_by_cmp nat_cmp q chunk) None (fin.get chunks q)
changed_at chunk chunks false false had q = out_of chunk chunks q (eq_by_cmp nat_cmp q chunk) refl false had refl

passes_of : (test : Lease → Bool) (e : Bool) (x y : Option Lease) (b : Bool) → b ≡ passes test y → cond e (passes test x) b ≡ passes test (cond e x y)
passes_of test true x y b is = refl
passes_of test false x y b is = is

in_by_brief : (group : ℕ) (x : Option Lease) → is_in group (briefs_of x) ≡ passes (belongs group) x
in_by_brief group None = refl
in_by_brief group (Some lease) = refl

-- a table that has another lease at a chunk
abbrev Puts : ℕ → Option Lease → Leases → Leases → Type 0
Puts chunk after m n = (q : ℕ) → fin.get n q ≡ cond (eq_by_cmp nat_cmp q chunk) after (fin.get m q)

one_group : (m n : Leases) (chunk : ℕ) (before after : Option Lease) (group : ℕ) (chunks : Chunks) → before ≡ fin.get m chunk → Puts chunk after m n → AreThose (belongs group) m chunks →
    AreThose (belongs group) n (changed (is_in group (briefs_of before)) (is_in group (briefs_of after)) chunk chunks)
one_group m n chunk before after group chunks found puts are = record {
  each = λ q.
      changed_at chunk chunks (is_in group (briefs_of before)) (is_in group (briefs_of after)) (in_by_brief group before ∙ ap (passes (belongs group)) found ∙ sym (are.each chunk)) q
      ∙ ap (λ b. cond (eq_by_cmp nat_cmp q chunk) b (is_some (fin.get chunks q))) (in_by_brief group after)
      ∙ passes_of (belongs group) (eq_by_cmp nat_cmp q chunk) after (fin.get m q) _ (are.each q)
      ∙ ap (passes (belongs group)) (sym (puts q));
}

-- ---- all groups

within : (a b group : ℕ) → a ≡ b → group < a → group < b
within a b group is low = omega arith

none_within : (sets : List (List (ℕ × Option Bool))) (group : ℕ) → sets ≡ [] → group < length sets → ⊥
none_within sets group is low = let e : length sets ≡ 0 = ap length is in omega arith

exchanged : (m n : Leases) (chunk : ℕ) (before after : Option Lease) (old new : List (List (ℕ × Option Bool))) → before ≡ fin.get m chunk → Puts chunk after m n →
    Exchanges chunk (briefs_of before) (briefs_of after) old new → AreGroupsOf m old → AreGroupsOf n new
exchanged m n chunk before after old new found puts (inl changes) are = record {
  each = λ group low.
      let kept = within (length new) (length old) group changes.size low in
      subst (AreThose (belongs group) n) (sym (changes.each group kept)) (one_group m n chunk before after group (chunks_at old group) found puts (are.each group kept));
}
exchanged m n chunk before after old new found puts (inr empty) are = record { each = λ group low. absurd (none_within new group empty low) }

told : (chunk : ℕ) (a b x y : Option Brief) (old new : List (List (ℕ × Option Bool))) → a ≡ x → b ≡ y → Exchanges chunk a b old new → Exchanges chunk x y old new
told chunk a b x y old new left right exchanges = subst (λ z. Exchanges chunk x z old new) right (subst (λ z. Exchanges chunk z b old new) left exchanges)

pub put_in : (m n : Leases) (chunk : ℕ) (before : Option Lease) (lease : Lease) (was : Option Brief) (brief : Brief) (old new : List (List (ℕ × Option Bool))) → was ≡ briefs_of before → brief ≡ brief_of lease → before ≡ fin.get m chunk → n ≡ fin.insert m chunk lease →
    Exchanges chunk was (Some brief) old new → AreGroupsOf m old → AreGroupsOf n new
put_in m n chunk before lease was brief old new stood is found put exchanges =
    exchanged m n chunk before (Some lease) old new found (λ q. ap (λ l. fin.get l q) put ∙ fin.get-insert nat_cmp_total m chunk lease q)
    (told chunk was (Some brief) _ _ old new stood (ap Some is) exchanges)

pub taken : (m n : Leases) (chunk : ℕ) (lease : Lease) (brief : Brief) (old new : List (List (ℕ × Option Bool))) → brief ≡ brief_of lease → Some lease ≡ fin.get m chunk → n ≡ fin.remove m chunk →
    Exchanges chunk (Some brief) None old new → AreGroupsOf m old → AreGroupsOf n new
taken m n chunk lease brief old new is found gone exchanges =
    exchanged m n chunk (Some lease) None old new found (λ q. ap (λ l. fin.get l q) gone ∙ fin.get-remove nat_cmp_total m chunk q)
    (told chunk (Some brief) None _ None old new (ap Some is) refl exchanges)

pub same_groups : (m n : Leases) (sets : List (List (ℕ × Option Bool))) → n ≡ m → AreGroupsOf m sets → AreGroupsOf n sets
same_groups m n sets is are = subst (λ l. AreGroupsOf l sets) (sym is) are

pub still_grouped : (m n : Leases) (sets : List (List (ℕ × Option Bool))) (chunk : ℕ) → None ≡ fin.get m chunk → n ≡ fin.remove m chunk → AreGroupsOf m sets → AreGroupsOf n sets
still_grouped m n sets chunk none is = same_groups m n sets (is ∙ remove_absent m chunk (sym none))

pub none_grouped : (m : Leases) (sets : List (List (ℕ × Option Bool))) → m ≡ fin.empty → AreEmpty sets → AreGroupsOf m sets
none_grouped m sets is empty = record {
  each = λ group low. record {
    each = λ chunk.
        ap (λ s. is_some (fin.get s chunk)) (empty.each group low) ∙ ap is_some (fin.get-empty nat_cmp chunk)
        ∙ sym (ap (passes (belongs group)) (ap (λ l. fin.get l chunk) is ∙ fin.get-empty nat_cmp chunk));
  };
}

-- ---- which group is which

on_a_server : (group : ℕ) (lease : Lease) → group < 16 → belongs group lease ≡ is_member (settled_members lease) group
on_a_server group lease low = let b : nat_lt group 16 ≡ true = grind arith in rw b refl

as_many : (many : ℕ) (lease : Lease) → belongs (17 + many) lease ≡ (length (settled_members lease) == many)
as_many many lease =
    let past : nat_lt (17 + many) 16 ≡ false = grind arith in
    let other : (17 + many == 16) ≡ false = grind arith in
    let rest : 17 + many - 17 ≡ many = omega arith in
    rw past (rw other (rw rest refl))

told_by : (test other : Lease → Bool) (x : Option Lease) → ((lease : Lease) → test lease ≡ other lease) → passes test x ≡ passes other x
told_by test other None same = refl
told_by test other (Some lease) same = same lease

those_by : (test other : Lease → Bool) (m : Leases) (chunks : Chunks) → ((lease : Lease) → test lease ≡ other lease) → AreThose test m chunks → AreThose other m chunks
those_by test other m chunks same are = record { each = λ q. are.each q ∙ told_by test other (fin.get m q) same }

pub servers_group : (server : ℕ) (m : Leases) (chunks : Chunks) → server < 16 → AreThose (belongs server) m chunks → AreThose (λ lease. is_member (settled_members lease) server) m chunks
servers_group server m chunks low = those_by (belongs server) _ m chunks (λ lease. on_a_server server lease low)

pub primaries_group : (m : Leases) (chunks : Chunks) → AreThose (belongs 16) m chunks → AreThose has_primary m chunks
primaries_group m chunks = those_by (belongs 16) has_primary m chunks (λ lease. refl)

pub members_group : (many : ℕ) (m : Leases) (chunks : Chunks) → AreThose (belongs (17 + many)) m chunks → AreThose (λ lease. length (settled_members lease) == many) m chunks
members_group many m chunks = those_by (belongs (17 + many)) _ m chunks (as_many many)

pub if_some : {A : Type 0} {P Q : A → Type 0} (x : Option A) → ((a : A) → P a → Q a) → IfSome x P → IfSome x Q
if_some None more h = tt
if_some (Some a) more h = more a h
