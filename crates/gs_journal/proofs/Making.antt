-- What a crash leaves while a disk is made anew.
use Rattle.std.proofs.Common.{◌≡◌, ◌≢◌, inl, inr, ⊎_elim, ℕ, ◌<◌, false, List, [], ◌∷◌, length, drop, get_or, sym, ◌∙◌, ap, arith}
use Rattle.std.proofs.lemmas.Bool.{cases_eq}
use Rattle.std.proofs.lemmas.Bool.Decides.{nat_tests}
use Rattle.gs_journal_disk.specs.Stage.{IsClosing, IsOpening}
use Rattle.gs_journal.specs.Records.{is_begun}
use Rattle.gs_journal.specs.inner.Rest.{IsUnmade, IsMaking}
use Rattle.gs_journal.proofs.Crash.{torn_front, torn_byte}

short_unbegun : (c : List ℕ) → length c < 13 → is_begun c ≡ false
short_unbegun c short = grind (arith, nat_tests)

closed_unbegun : (gate : ℕ) (rest : List ℕ) → gate ≢ 1 → is_begun (gate ∷ rest) ≡ false
closed_unbegun gate rest shut = grind (arith, nat_tests)

pub while_closing : (old c : List ℕ) → IsClosing 0 old c → IsUnmade old c
while_closing old c (inl cut) = inr (length c, sym cut.front)
while_closing old c (inr torn) = inl (short_unbegun c (omega (arith, torn.no_longer)))

pub while_opening : (text old c : List ℕ) → IsOpening 0 text (0 ∷ []) c → IsMaking text old c
while_opening text old c (inl torn) =
    let is : c ≡ 0 ∷ drop 1 c = torn_front 1 (length text) (0 ∷ []) c (omega arith) torn in
    inl (inl (ap is_begun is ∙ closed_unbegun 0 (drop 1 c) (omega arith)))
while_opening text old c (inr torn) =
    let x = get_or c 0 0 in
    let is : c ≡ x ∷ text = torn_byte 0 (0 ∷ text) c (omega arith) torn in
    ⊎_elim (λ (is_open : x ≡ 1). inr (is ∙ ap (λ (g : ℕ). g ∷ text) is_open)) (λ (shut : x ≢ 1). inl (inl (ap is_begun is ∙ closed_unbegun x text shut))) (cases_eq x 1)
