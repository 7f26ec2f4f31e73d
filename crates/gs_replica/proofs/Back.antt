-- An edit of a replica that is taken back.
use Rattle.std.proofs.Common.{◌≡◌, ℕ, ◌+◌, ◌-◌, ◌<◌, cond, Bool, true, Option, Some, None, refl, sym, ap, ◌∙◌, ⊎_elim, arith}
use Rattle.std.specs.Prelude.{Ok, Err, is_some, nat_lt, ◌==◌, ◌&&◌}
use Rattle.std.proofs.lemmas.Bool.{cases_eq}
use Rattle.std.proofs.lemmas.Bool.Decides.{nat_tests}
use Rattle.std.proofs.lemmas.Grind.{common_steps}
use Rattle.std.specs.Cmp.{nat_cmp_total}
use Rattle.std.specs.FinMap as fin
use Rattle.std.specs.Ordering.{nat_cmp}
use Rattle.gs_base.specs.declared.refusal.Refusal.TheVariants as refusals
use Rattle.gs_block.specs.Stored.{Stored}
use Rattle.gs_block.specs.Inverses as inverses
use Rattle.gs_replica.specs.declared.op.Done.{Done}
use Rattle.gs_replica.specs.declared.live.ReplicaInverse.{ReplicaInverse}
use Rattle.gs_replica.specs.Held.{Held}
use Rattle.gs_replica.specs.Undo.{entry_before, without_edit, undo}

back_entry : {V : Type 0} (m : fin.FinMap nat_cmp V) (k : ℕ) (d b : V) → fin.get m k ≡ Some b → fin.insert (fin.insert m k d) k b ≡ m
back_entry m k d b e = fin.same_map nat_cmp_total fin.nat_cmp-IsAntisymmetric _ _ (λ q. ⊎_elim
    (λ (s : q ≡ k). grind (arith, common_steps, fin.gets))
    (λ (n : q ≡ k → ⊥). grind (arith, common_steps, fin.gets))
    (cases_eq q k))

pub back_none : {V : Type 0} (m : fin.FinMap nat_cmp V) (k : ℕ) (d : V) → fin.get m k ≡ None → fin.remove (fin.insert m k d) k ≡ m
back_none m k d e = fin.same_map nat_cmp_total fin.nat_cmp-IsAntisymmetric _ _ (λ q. ⊎_elim
    (λ (s : q ≡ k). grind (arith, common_steps, fin.gets))
    (λ (n : q ≡ k → ⊥). grind (arith, common_steps, fin.gets))
    (cases_eq q k))

pub back_done : (m : fin.FinMap nat_cmp Done) (k : ℕ) (d : Done) (before : Option Done) → before ≡ fin.get m k → entry_before (fin.insert m k d) k before ≡ m
back_done m k d None e = back_none m k d (sym e)
back_done m k d (Some b) e = back_entry m k d b (sym e)

stands : {V : Type 0} (m : fin.FinMap nat_cmp V) (k : ℕ) (d : V) → is_some (fin.get (fin.insert m k d) k) ≡ true
stands m k d = grind (arith, common_steps, fin.gets)

three : (a b c : Bool) → a ≡ true → b ≡ true → c ≡ true → (a && (b && c)) ≡ true
three a b c ha hb hc = rw (ha, hb, hc) refl

same_count : (n : ℕ) → (n == n) ≡ true
same_count n = grind (arith, nat_tests)

some_count : (n : ℕ) → 0 < n → nat_lt 0 n ≡ true
some_count n h = grind (arith, nat_tests)

-- an edit with its inverse leads back
pub leads_back : (old : Held) (new : Stored) (i : ReplicaInverse) (d : Done) → i.count ≡ old.count + 1 → i.before ≡ fin.get old.done i.client.0 → inverses.undo i.blocks new ≡ Ok old.chunk →
    undo i (record { chunk = new; count = i.count; done = fin.insert old.done i.client.0 d; promise = old.promise }) ≡ Ok old
leads_back old new i d count before back =
    let now : Held = record { chunk = new; count = i.count; done = fin.insert old.done i.client.0 d; promise = old.promise } in
    let test : ((now.count == i.count) && (nat_lt 0 now.count && is_some (fin.get now.done i.client.0))) ≡ true =
    three (now.count == i.count) (nat_lt 0 now.count) (is_some (fin.get now.done i.client.0)) (same_count i.count) (some_count i.count (omega arith)) (stands old.done i.client.0 d) in
    let less : i.count - 1 ≡ old.count = omega arith in
    let entry = back_done old.done i.client.0 d i.before before in
    let same : (let r : Held = record { chunk = old.chunk; count = i.count - 1; done = entry_before (fin.insert old.done i.client.0 d) i.client.0 i.before; promise = old.promise } in r) ≡ old =
    λ k. record { chunk = old.chunk; count = less k; done = entry k; promise = old.promise } in
    ap (λ b. cond b (without_edit now i (inverses.undo i.blocks new)) (Err refusals.BadLine)) test
    ∙ ap (without_edit now i) back
    ∙ ap (λ (r : Held). Ok r) same
