-- What the bits of a number say of the groups of a chunk.
use Rattle.std.proofs.Common.{◌≡◌, ◌≢◌, ◌<◌, ◌≤◌, ◌+◌, ◌-◌, ◌*◌, ◌^◌, ◌/◌, ◌%◌, ℕ, Bool, true, false, List, Option, Some, None, refl, ap, sym, ◌∙◌, ⊎_elim, arith, eqb, length}
use Rattle.std.proofs.lemmas.Bool.{cases_eq, cases_lt}
use Rattle.std.proofs.lemmas.Bool.Decides.{nat_tests}
use Rattle.std.proofs.lemmas.Nat.Bits.{bit_at-zero, bit_at_above, bit_at_set_same, bit_at_set_other, shr_and_one}
use Rattle.std.specs.Prelude.{bit_and, bit_or, ◌==◌, ◌&&◌, ◌||◌, nat_lt}
use Rattle.std.specs.Int.{bit_at, w64}
use Rattle.gs_base.specs.Members.{has_bit, is_member, servers_where}
use Rattle.gs_base.specs.MemberLaws.{is_member-servers_where}
use Rattle.gs_lease_table.specs.declared.tally.Brief.{Brief}
use Rattle.gs_lease_table.specs.Groups.{AreBitsOf, Changes, ChangesBits, Enters, belongs_by, changed, chunks_at, is_in}

-- ---- one bit more

here : (x n : ℕ) (b : Bool) → x ≡ 1 → eqb x 1 ≡ (eqb n n || b)
here x n b e = grind (arith, nat_tests)

other : (x y i n : ℕ) → i ≢ n → x ≡ y → eqb x 1 ≡ (eqb i n || eqb y 1)
other x y i n differ e = grind (arith, nat_tests)

entered : (n k : ℕ) → k < 64 → Enters k true n (bit_or n (1 * 2 ^ k % 2 ^ 64))
entered n k within i = ⊎_elim
    (λ (same : i ≡ k). rw same (here _ k (has_bit n k) (bit_at_set_same w64 n k within)))
    (λ (differ : i ≢ k). other _ _ i k differ (bit_at_set_other w64 n k within i differ))
    (cases_eq i k)

pub entered_if : (n k : ℕ) (is : Bool) → is ≡ true → k < 64 → Enters k is n (bit_or n (1 * 2 ^ k % 2 ^ 64))
entered_if n k is set within i = entered n k within i ∙ ap (λ b. (b && (i == k)) || has_bit n i) (sym set)

-- ---- the bits of a chunk

alone : (l s : Bool) → (false || ((l && false) || s)) ≡ s
alone true s = refl
alone false s = refl

primary : (l : Bool) → (false || ((l && true) || false)) ≡ l
primary true = refl
primary false = refl

last : (a l : Bool) → (a || ((l && false) || false)) ≡ a
last true true = refl
last true false = refl
last false true = refl
last false false = refl

-- what a bit says, by where its group is
parts : (group many : ℕ) (members : List ℕ) (l s a b : Bool) → group < 34 → a ≡ (group == 17 + many) → b ≡ (group == 16) → (group < 16 → s ≡ is_member members group) → (16 ≤ group → s ≡ false) →
    (a || ((l && b) || s)) ≡ belongs_by group (record { members = members; many = many; is_leased = l })
parts group many members l s a b within last_is first_is low high = ⊎_elim
    (λ (below : group < 16).
    let lt : nat_lt group 16 ≡ true = grind arith in
    let none : a ≡ false = last_is ∙ grind arith in
    let never : b ≡ false = first_is ∙ grind arith in
    rw (none, never, lt) (alone l s ∙ low below))
    (λ (above : 16 ≤ group). ⊎_elim
    (λ (same : group ≡ 16).
    let none : a ≡ false = last_is ∙ grind arith in
    let is : b ≡ true = first_is ∙ grind arith in
    rw (none, is, high above, same) (primary l))
    (λ (differ : group ≢ 16).
    let lt : nat_lt group 16 ≡ false = grind arith in
    let never : (group == 16) ≡ false = grind arith in
    let far : (group == 17 + many) ≡ (many == group - 17) = grind (arith, nat_tests) in
    rw (first_is ∙ never, high above, lt, never) (last a l ∙ last_is ∙ far))
    (cases_eq group 16))
    (cases_lt group 16)

server_bit : (bits group : ℕ) (members : List ℕ) → servers_where (has_bit bits) ≡ members → group < 16 → has_bit bits group ≡ is_member members group
server_bit bits group members view low = sym (is_member-servers_where (has_bit bits) group low) ∙ ap (λ m. is_member m group) view

no_bit : (bits group : ℕ) → bits < 2 ^ 16 → 16 ≤ group → has_bit bits group ≡ false
no_bit bits group fits above = ap (λ n. eqb n 1) (bit_at_above bits 16 group fits above)

pub all_parts : (brief : Brief) (bits groups new : ℕ) → bits < 2 ^ 16 → servers_where (has_bit bits) ≡ brief.members → Enters 16 brief.is_leased bits groups → Enters (17 + brief.many) true groups new → AreBitsOf (Some brief) new
all_parts brief bits groups new fits view first whole = record {
  each = λ group within.
      whole group ∙ ap (λ x. (group == 17 + brief.many) || x) (first group)
      ∙ parts group brief.many brief.members brief.is_leased (has_bit bits group) (group == 17 + brief.many) (group == 16) within refl refl (server_bit bits group brief.members view) (no_bit bits group fits);
}

-- more members than there are servers are in no group
pub some_parts : (brief : Brief) (bits groups : ℕ) → bits < 2 ^ 16 → servers_where (has_bit bits) ≡ brief.members → Enters 16 brief.is_leased bits groups → 16 < brief.many → AreBitsOf (Some brief) groups
some_parts brief bits groups fits view first many = record {
  each = λ group within.
      let none : false ≡ (group == 17 + brief.many) = grind arith in
      first group
      ∙ parts group brief.many brief.members brief.is_leased (has_bit bits group) false (group == 16) within none refl (server_bit bits group brief.members view) (no_bit bits group fits);
}

pub no_parts : AreBitsOf None 0
no_parts = record { each = λ group within. ap (λ n. eqb n 1) (bit_at-zero group) }

-- ---- sets that were changed by bits

pub told_changes : (chunk was is : ℕ) (before after : Option Brief) (old new : List (List (ℕ × Option Bool))) → length old ≡ 34 → AreBitsOf before was → AreBitsOf after is → ChangesBits chunk was is old new → Changes chunk before after old new
told_changes chunk was is before after old new size had has changes = record {
  size = changes.size;
  each = λ group low.
      let within : group < 34 = omega arith in
      changes.each group low ∙ ap (λ b. changed b (has_bit is group) chunk (chunks_at old group)) (had.each group within) ∙ ap (λ b. changed (is_in group before) b chunk (chunks_at old group)) (has.each group within);
}
