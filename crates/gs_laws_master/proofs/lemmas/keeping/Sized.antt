-- Counts of references that can be told stay so, and which chunks are listed.
use Rattle.std.proofs.Common.{◌≡◌, ◌∙◌, ◌≤◌, ◌+◌, ◌-◌, ◌==◌, ℕ, Bool, true, false, cond, List, [], ◌∷◌, nat_lt, refl, sym, ap, subst, arith}
use Rattle.std.specs.Prelude.{Option, Some, None, Result, Ok, Err, is_some, if◌then◌else◌}
use Rattle.std.specs.Cmp.{Equal-is, nat_cmp_total}
use Rattle.std.specs.FinMap as fin
use Rattle.std.specs.Ordering.{eq_by_cmp, nat_cmp}
use Rattle.std.proofs.lemmas.Bool.{false≢true, ltb-true}
use Rattle.gs_base.specs.declared.refusal.Refusal.{Refusal}
use Rattle.gs_base.specs.declared.refusal.Refusal.TheVariants.{BadLine, Exhausted}
use Rattle.gs_refs.specs.Counts.{Counts, and_then, last_count, lowered, lowered_each, lowered_from, raised_each, raised_listed, raised_listed_from, without_each}
use Rattle.gs_edit.proofs.References.{get-without}
use Rattle.gs_laws_master.proofs.lemmas.names.EditsBack.{FitCounts}

some_is : {a b : ℕ} → ◌≡◌ {A = Option ℕ} (Some a) (Some b) → a ≡ b
some_is k = cc

pub fit_insert : (m : Counts) (k v : ℕ) → FitCounts m → v ≤ last_count → FitCounts (fin.insert m k v)
fit_insert m k v fit low chunk count e = by_key (eq_by_cmp nat_cmp chunk k) (sym (fin.get-insert nat_cmp_total m k v chunk) ∙ e)
  where
    by_key : (b : Bool) → cond b (Some v) (fin.get m chunk) ≡ Some count → count ≤ last_count
    by_key true h = subst (λ n. n ≤ last_count) (some_is h) low
    by_key false h = fit chunk count h

-- counts that can be told, of the same chunks
pub record KeepsChunks (m n : Counts) : Type 0 where
  pub fits : FitCounts m → FitCounts n
  pub listed : (chunk : ℕ) → is_some (fin.get n chunk) ≡ is_some (fin.get m chunk)

same_chunks : (m : Counts) → KeepsChunks m m
same_chunks m = record { fits = λ h. h; listed = λ chunk. refl }

chunks_both : (m n o : Counts) → KeepsChunks m n → KeepsChunks n o → KeepsChunks m o
chunks_both m n o a b = record { fits = λ h. b.fits (a.fits h); listed = λ chunk. b.listed chunk ∙ a.listed chunk }

put_listed : (m : Counts) (k v : ℕ) → is_some (fin.get m k) ≡ true → (FitCounts m → v ≤ last_count) → KeepsChunks m (fin.insert m k v)
put_listed m k v some low = record { fits = λ h. fit_insert m k v h (low h); listed = λ chunk. ap is_some (fin.get-insert nat_cmp_total m k v chunk) ∙ by_key chunk (eq_by_cmp nat_cmp chunk k) refl }
  where
    by_key : (chunk : ℕ) (b : Bool) → eq_by_cmp nat_cmp chunk k ≡ b → is_some (cond b (Some v) (fin.get m chunk)) ≡ is_some (fin.get m chunk)
    by_key chunk true is = sym some ∙ ap (λ c. is_some (fin.get m c)) (sym (same_key chunk k is))
      where
        same_key : (q k : ℕ) → eq_by_cmp nat_cmp q k ≡ true → q ≡ k
        same_key q k tied = fin.nat_cmp-IsAntisymmetric q k ((Equal-is (nat_cmp q k)).0 tied)
    by_key chunk false is = refl

ok_is : {a b : Counts} → ◌≡◌ {A = Result Counts Refusal} (Ok a) (Ok b) → a ≡ b
ok_is k = cc

one_raised : (m n : Counts) (k : ℕ) → raised_listed m k ≡ Ok n → KeepsChunks m n
one_raised m n k e = by_value (fin.get m k) refl e
  where
    by_value : (v : Option ℕ) → fin.get m k ≡ v → raised_listed_from m k v ≡ Ok n → KeepsChunks m n
    by_value None is h = absurd (let g = h in cc)
    by_value (Some c) is h = by_room (nat_lt c last_count) refl h
      where
        by_room : (b : Bool) → nat_lt c last_count ≡ b → (if b then Ok (fin.insert m k (c + 1)) else Err Exhausted) ≡ Ok n → KeepsChunks m n
        by_room true low g = subst (KeepsChunks m) (ok_is g) (put_listed m k (c + 1) (ap is_some is) (λ fit. let l = ltb-true c last_count low in omega arith))
        by_room false low g = absurd (let f = g in cc)

one_lowered : (m n : Counts) (k : ℕ) → lowered m k ≡ Ok n → KeepsChunks m n
one_lowered m n k e = by_value (fin.get m k) refl e
  where
    by_value : (v : Option ℕ) → fin.get m k ≡ v → lowered_from m k v ≡ Ok n → KeepsChunks m n
    by_value None is h = absurd (let g = h in cc)
    by_value (Some c) is h = by_zero (c == 0) h
      where
        by_zero : (b : Bool) → (if b then Err BadLine else Ok (fin.insert m k (c - 1))) ≡ Ok n → KeepsChunks m n
        by_zero true g = absurd (let f = g in cc)
        by_zero false g = subst (KeepsChunks m) (ok_is g) (put_listed m k (c - 1) (ap is_some is) (λ fit. let l = fit k c is in omega arith))

pub all_raised : (hs : List ℕ) (m n : Counts) → raised_each m hs ≡ Ok n → KeepsChunks m n
all_raised [] m n e = subst (KeepsChunks m) (ok_is e) (same_chunks m)
all_raised (h ∷ hs) m n e = each (raised_listed m h) refl (λ o. all_raised hs o n) e
  where
    each : (r : Result Counts Refusal) → raised_listed m h ≡ r → ((o : Counts) → raised_each o hs ≡ Ok n → KeepsChunks o n) → and_then r (λ o. raised_each o hs) ≡ Ok n → KeepsChunks m n
    each (Ok o) is rest g = chunks_both m o n (one_raised m o h is) (rest o g)
    each (Err f) is rest g = absurd (let k = g in cc)

pub all_lowered : (hs : List ℕ) (m n : Counts) → lowered_each m hs ≡ Ok n → KeepsChunks m n
all_lowered [] m n e = subst (KeepsChunks m) (ok_is e) (same_chunks m)
all_lowered (h ∷ hs) m n e = each (lowered m h) refl (λ o. all_lowered hs o n) e
  where
    each : (r : Result Counts Refusal) → lowered m h ≡ r → ((o : Counts) → lowered_each o hs ≡ Ok n → KeepsChunks o n) → and_then r (λ o. lowered_each o hs) ≡ Ok n → KeepsChunks m n
    each (Ok o) is rest g = chunks_both m o n (one_lowered m o h is) (rest o g)
    each (Err f) is rest g = absurd (let k = g in cc)

pub fit_without : (m : Counts) (hs : List ℕ) → FitCounts m → FitCounts (without_each m hs)
fit_without m hs fit chunk count e = by_key _ (sym (get-without hs m chunk) ∙ e)
  where
    by_key : (b : Bool) → cond b None (fin.get m chunk) ≡ Some count → count ≤ last_count
    by_key true h = absurd (false≢true (ap is_some h))
    by_key false h = fit chunk count h
