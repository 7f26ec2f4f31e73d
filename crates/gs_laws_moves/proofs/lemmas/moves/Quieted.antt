-- Where a prepare is committed, each chunk that the master knows is quiet.
use Rattle.std.proofs.Common.{◌≡◌, arith, ◌∙◌, ◌==◌, ◌&&◌, ◌||◌, ◌++◌, ℕ, Bool, true, false, not, cond, List, [], ◌∷◌, refl, ap, sym}
use Rattle.std.specs.Prelude.{is_some, map, Option, Some, None}
use Rattle.std.specs.FinMap as fin
use Rattle.std.specs.Ordering.{eq_by_cmp, nat_cmp}
use Rattle.std.proofs.lemmas.Bool.{false≢true}
use Rattle.std.proofs.lemmas.Bool.Decides.{nat_tests}
use Rattle.gs_base.specs.Members.{is_member}
use Rattle.gs_master_spec.specs.Chunks.{chunk_at, has_entry}
use Rattle.gs_master_spec.specs.Durable.{Settled}
use Rattle.gs_master_spec.specs.Settling.{is_quiet_at}
use Rattle.gs_master_spec.specs.Working.{put_handles}
use Rattle.gs_master_spec.specs.declared.asking.Asking.{Asking}
use Rattle.gs_laws_master.proofs.lemmas.fitting.AcceptedUpgrades.{none_passes}
use Rattle.gs_laws_master.proofs.lemmas.keeping.KeptViews.{same_key}
use Rattle.gs_laws_moves.proofs.lemmas.moves.Calls.{put_found}
use Rattle.gs_laws_moves.specs.moves.Moved.{PreparesQuiet}

itself : (n : ℕ) → (n == n) ≡ true
itself n = grind (arith, nat_tests)

second : (a b : Bool) → b ≡ true → (a || b) ≡ true
second true b e = refl
second false b e = e

keyed : {A : Type 0} (es : List (ℕ × A)) (k : ℕ) → is_some (fin.find nat_cmp k es) ≡ true → is_member (map (λ e. e.0) es) k ≡ true
keyed [] k some = absurd (false≢true some)
keyed (e ∷ es) k some = by_key (eq_by_cmp nat_cmp k e.0) refl some (keyed es k)
  where
    by_key : (b : Bool) → eq_by_cmp nat_cmp k e.0 ≡ b → is_some (cond b (Some e.1) (fin.find nat_cmp k es)) ≡ true → (is_some (fin.find nat_cmp k es) ≡ true → is_member (map (λ x. x.0) es) k ≡ true) → ((e.0 == k) || is_member (map (λ x. x.0) es) k) ≡ true
    by_key true same h rest = ap (λ b. b || is_member (map (λ x. x.0) es) k) (ap (λ x. x == k) (sym (same_key k e.0 same)) ∙ itself k)
    by_key false other h rest = second (e.0 == k) (is_member (map (λ x. x.0) es) k) (rest h)

among_first : (xs ys : List ℕ) (k : ℕ) → is_member xs k ≡ true → is_member (xs ++ ys) k ≡ true
among_first [] ys k here = absurd (false≢true here)
among_first (x ∷ xs) ys k here = by_head (x == k) here (among_first xs ys k)
  where
    by_head : (b : Bool) → (b || is_member xs k) ≡ true → (is_member xs k ≡ true → is_member (xs ++ ys) k ≡ true) → (b || is_member (xs ++ ys) k) ≡ true
    by_head true h rest = refl
    by_head false h rest = rest h

among_second : (xs ys : List ℕ) (k : ℕ) → is_member ys k ≡ true → is_member (xs ++ ys) k ≡ true
among_second [] ys k here = here
among_second (x ∷ xs) ys k here = second (x == k) (is_member (xs ++ ys) k) (among_second xs ys k here)

pub prepares_quiet : PreparesQuiet
unfolding chunk_at
prepares_quiet s chunk may known = by_both (fin.get s.durable.chunks chunk) refl (fin.get s.volatile.moving chunk) refl
  where
    keys : List ℕ
    keys = fin.keys s.durable.chunks ++ fin.keys s.volatile.moving

    quiet_of : (b q : Bool) → b ≡ true → (b && not q) ≡ false → q ≡ true
    quiet_of true true e h = refl
    quiet_of true false e h = absurd (false≢true (sym h))
    quiet_of false q e h = absurd (false≢true e)

    among_keys : is_member keys chunk ≡ true → is_quiet_at s chunk ≡ true
    among_keys here = quiet_of (has_entry s chunk) (is_quiet_at s chunk) known (none_passes (λ c. has_entry s c && not (is_quiet_at s c)) (put_handles keys) chunk may.quiet (put_found keys chunk here))

    by_both : (o : Option Settled) → fin.get s.durable.chunks chunk ≡ o → (a : Option Asking) → fin.get s.volatile.moving chunk ≡ a → is_quiet_at s chunk ≡ true
    by_both (Some x) is a asks = among_keys (among_first (fin.keys s.durable.chunks) (fin.keys s.volatile.moving) chunk (keyed (fin.entries s.durable.chunks) chunk (ap is_some (sym (fin.get-entries s.durable.chunks chunk) ∙ is))))
    by_both None is (Some a) asks = among_keys (among_second (fin.keys s.durable.chunks) (fin.keys s.volatile.moving) chunk (keyed (fin.entries s.volatile.moving) chunk (ap is_some (sym (fin.get-entries s.volatile.moving chunk) ∙ asks))))
    by_both None is None asks = rw (known, is, asks) refl
