-- How a run of device calls goes on.
use Rattle.std.proofs.Common.{inl, inr, ⊎_elim, ℕ, List, sym, subst, arith}
use Rattle.gs_journal_disk.proofs.Steps.{from_known}
use Rattle.gs_journal_disk.specs.Disk.{Elapses, Only, OutcomesFollow}
use Rattle.gs_journal_disk.specs.Stage.{LeavesOnly}

module _ {D : Type 0} (moment : D → ℕ) (left_since : D → ℕ → List ℕ → Type 0) where
  -- before the first call
  pub started : (old : D) (P : List ℕ → Type 0) → ((c : List ℕ) → left_since old (moment old) c → P c) → LeavesOnly moment left_since old old P
  started old P here = record { later = omega arith; each = here; before = λ t c le left. inl left }

  -- one call more, after which a crash leaves what has P
  pub goes_on : (old mid new : D) (P may_leave : List ℕ → Type 0) → LeavesOnly moment left_since old mid P → Elapses (moment mid) (moment new) (left_since mid) (left_since new) may_leave
      → ((c : List ℕ) → may_leave c → P c) → LeavesOnly moment left_since old new P
  goes_on old mid new P may_leave so_far time here = record {
    later = omega (arith, so_far.later, time.later);
    each = λ c left. ⊎_elim (so_far.each c) (here c) (time.nothing_else (moment old) c so_far.later left);
    before = λ t c le left. ⊎_elim (so_far.before t c le) (λ now. inr (here c now)) (time.nothing_else t c (omega (arith, le, so_far.later)) left);
  }

  -- one call alone
  pub one_call : (old new : D) (P may_leave : List ℕ → Type 0) → ((c : List ℕ) → left_since old (moment old) c → P c)
      → Elapses (moment old) (moment new) (left_since old) (left_since new) may_leave → ((c : List ℕ) → may_leave c → P c) → LeavesOnly moment left_since old new P
  one_call old new P may_leave start time here = goes_on old old new P may_leave (started old P start) time here

  -- two runs
  pub both : (old mid new : D) (P Q R : List ℕ → Type 0) → LeavesOnly moment left_since old mid P → LeavesOnly moment left_since mid new Q
      → ((c : List ℕ) → P c → R c) → ((c : List ℕ) → Q c → R c) → LeavesOnly moment left_since old new R
  both old mid new P Q R one two p q = record {
    later = omega (arith, one.later, two.later);
    each = λ c left. ⊎_elim (λ was. p c (one.each c was)) (q c) (two.before (moment old) c one.later left);
    before = λ t c le left. ⊎_elim (λ was. ⊎_elim (λ earlier. inl earlier) (λ now. inr (p c now)) (one.before t c le was)) (λ now. inr (q c now)) (two.before t c (omega (arith, le, one.later)) left);
  }

  -- a run that leaves less
  pub weaker : (old new : D) (P R : List ℕ → Type 0) → LeavesOnly moment left_since old new P → ((c : List ℕ) → P c → R c) → LeavesOnly moment left_since old new R
  weaker old new P R one p = record {
    later = one.later;
    each = λ c left. p c (one.each c left);
    before = λ t c le left. ⊎_elim (λ was. inl was) (λ now. inr (p c now)) (one.before t c le left);
  }

module _ {D : Type 0} (seen : D → List ℕ) (may_leave : D → List ℕ → Type 0) (moment : D → ℕ) (left_since : D → ℕ → List ℕ → Type 0) where
  -- what a disk that isn't touched is left as
  abbrev pub Stays : D → Type 0
  Stays d = (c : List ℕ) → left_since d (moment d) c → may_leave d c

  -- a call that adds nothing to what a crash may leave
  pub nothing_more : (old new : D) → Stays old → Elapses (moment old) (moment new) (left_since old) (left_since new) (may_leave new)
      → ((c : List ℕ) → may_leave new c → may_leave old c) → LeavesOnly moment left_since old new (may_leave old)
  nothing_more old new now time fewer = one_call moment left_since old new (may_leave old) (may_leave new) now time fewer

  -- a step from known bytes
  pub stepped : (step : List ℕ → List ℕ → Type 0) (old new : D) → ((c : List ℕ) → step c c) → Only (seen old) (may_leave old) → Stays old
      → Elapses (moment old) (moment new) (left_since old) (left_since new) (may_leave new) → OutcomesFollow step (may_leave old) (may_leave new) → LeavesOnly moment left_since old new (step (seen old))
  stepped step old new stays only now time follows =
      one_call moment left_since old new (step (seen old)) (may_leave new) (λ c left. subst (step (seen old)) (sym (only c (now c left))) (stays (seen old))) time
      (from_known step (seen old) (may_leave old) (may_leave new) only follows)

  -- and the wait behind it
  pub stepped_through : (step : List ℕ → List ℕ → Type 0) (old mid new : D) → ((c : List ℕ) → step c c) → Only (seen old) (may_leave old) → Stays old
      → Elapses (moment old) (moment mid) (left_since old) (left_since mid) (may_leave mid) → OutcomesFollow step (may_leave old) (may_leave mid)
      → Elapses (moment mid) (moment new) (left_since mid) (left_since new) (may_leave new) → ((c : List ℕ) → may_leave new c → may_leave mid c) → LeavesOnly moment left_since old new (step (seen old))
  stepped_through step old mid new stays only now time follows waited fewer =
      goes_on moment left_since old mid new (step (seen old)) (may_leave new) (stepped step old mid stays only now time follows) waited
      (λ c left. from_known step (seen old) (may_leave old) (may_leave mid) only follows c (fewer c left))
