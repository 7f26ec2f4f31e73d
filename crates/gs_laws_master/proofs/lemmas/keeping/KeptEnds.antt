-- One more epoch that ends.
use Rattle.std.proofs.Common.{◌≡◌, ◌∙◌, ◌+◌, ◌-◌, ◌==◌, ◌&&◌, ◌++◌, ℕ, Bool, true, false, List, [], ◌∷◌, length, length-append, refl, sym, ap, arith}
use Rattle.std.specs.Prelude.{Option, Some, None, slice_get}
use Rattle.std.proofs.lemmas.Bool.{false≢true, and_parts}
use Rattle.std.proofs.lemmas.Bool.Decides.{nat_tests}
use Rattle.std.proofs.lemmas.List.{get_or_push}
use Rattle.std.proofs.lemmas.Option.{slice_get_read}
use Rattle.gs_base.specs.declared.epoch.EpochEnd.{EpochEnd}
use Rattle.gs_base.specs.declared.epoch.EpochEnd.TheVariants as ends
use Rattle.gs_master_record.specs.declared.checkpoint.Phase.{Phase}
use Rattle.gs_master_record.specs.declared.checkpoint.Phase.TheVariants.{Ordinary, Upgrade, Rolling}
use Rattle.gs_tree.proofs.Levels.{both_true}
use Rattle.gs_master_spec.specs.Durable.{is_ordinary, is_rolling}
use Rattle.gs_master_spec.specs.Whole.{alternate, are_ends, is_phase_behind}

-- whether the epoch behind these ends is an ordinary one
abbrev behind : EpochEnd → Bool
behind ends.Prepare = false
behind ends.Finalize = true
behind ends.Rollback = true

abbrev state : Bool → List EpochEnd → Bool
state ordinary [] = ordinary
state ordinary (e ∷ past) = state (behind e) past

abbrev pub may_end : Bool → EpochEnd → Bool
may_end true ends.Prepare = true
may_end true ends.Finalize = false
may_end true ends.Rollback = false
may_end false ends.Prepare = false
may_end false ends.Finalize = true
may_end false ends.Rollback = true

one_more : (ordinary : Bool) (past : List EpochEnd) (e : EpochEnd) → alternate ordinary past ≡ true → may_end (state ordinary past) e ≡ true → alternate ordinary (past ++ e ∷ []) ≡ true
one_more true [] ends.Prepare h may = refl
one_more true [] ends.Finalize h may = may
one_more true [] ends.Rollback h may = may
one_more false [] ends.Prepare h may = may
one_more false [] ends.Finalize h may = refl
one_more false [] ends.Rollback h may = refl
one_more true (ends.Prepare ∷ past) e h may = one_more false past e h may
one_more true (ends.Finalize ∷ past) e h may = absurd (false≢true h)
one_more true (ends.Rollback ∷ past) e h may = absurd (false≢true h)
one_more false (ends.Prepare ∷ past) e h may = absurd (false≢true h)
one_more false (ends.Finalize ∷ past) e h may = one_more true past e h may
one_more false (ends.Rollback ∷ past) e h may = one_more true past e h may

state_last : (ordinary : Bool) (past : List EpochEnd) (e : EpochEnd) → state ordinary (past ++ e ∷ []) ≡ behind e
state_last ordinary [] e = refl
state_last ordinary (f ∷ past) e = state_last (behind f) past e

last_end : (past : List EpochEnd) (e : EpochEnd) → slice_get (past ++ e ∷ []) (length (past ++ e ∷ []) - 1) ≡ Some e
last_end past e =
    let len = length-append past (e ∷ []) in
    slice_get_read (past ++ e ∷ []) (length (past ++ e ∷ [])) (length (past ++ e ∷ []) - 1) e refl (omega arith) (sym (get_or_push past e e (length (past ++ e ∷ []) - 1) (omega arith)))

-- none yet, or some before a last one
data Lasts (past : List EpochEnd) : Type 0 where
  NoneYet : past ≡ [] → Lasts past
  Behind : (first : List EpochEnd) (e : EpochEnd) → past ≡ first ++ e ∷ [] → Lasts past

lasts : (past : List EpochEnd) → Lasts past
lasts [] = NoneYet refl
lasts (e ∷ past) = more (lasts past)
  where
    more : Lasts past → Lasts (e ∷ past)
    more (NoneYet is) = Behind [] e (ap (λ l. e ∷ l) is)
    more (Behind first f is) = Behind (e ∷ first) f (ap (λ l. e ∷ l) is)

-- the last end says whether the epoch is ordinary
phase_state : (past : List EpochEnd) (phase : Phase) → is_rolling phase ≡ false → is_phase_behind (slice_get past (length past - 1)) phase ≡ true → state true past ≡ is_ordinary phase
phase_state past phase stands h = each (lasts past)
  where
    at_last : (e : EpochEnd) (q : Phase) → is_rolling q ≡ false → is_phase_behind (Some e) q ≡ true → behind e ≡ is_ordinary q
    at_last ends.Prepare Ordinary n k = absurd (false≢true k)
    at_last ends.Prepare Upgrade n k = refl
    at_last ends.Prepare Rolling n k = absurd (false≢true k)
    at_last ends.Finalize q n k = sym k
    at_last ends.Rollback Ordinary n k = refl
    at_last ends.Rollback Upgrade n k = absurd (false≢true k)
    at_last ends.Rollback Rolling n k = absurd (false≢true (sym n))

    each : Lasts past → state true past ≡ is_ordinary phase
    each (NoneYet is) = ap (state true) is ∙ sym (ap (λ l. is_phase_behind (slice_get l (length l - 1)) phase) (sym is) ∙ h)
    each (Behind first e is) = ap (state true) is ∙ state_last true first e ∙ at_last e phase stands (ap (λ o. is_phase_behind o phase) (sym (last_end first e)) ∙ ap (λ l. is_phase_behind (slice_get l (length l - 1)) phase) (sym is) ∙ h)

pub ends_more : (past : List EpochEnd) (epoch : ℕ) (phase next : Phase) (e : EpochEnd) → are_ends past epoch phase ≡ true → is_rolling phase ≡ false → may_end (is_ordinary phase) e ≡ true → is_phase_behind (Some e) next ≡ true
    → are_ends (past ++ e ∷ []) (epoch + 1) next ≡ true
ends_more past epoch phase next e h stands may fits =
    let one = and_parts (length past == epoch) (alternate true past && is_phase_behind (slice_get past (length past - 1)) phase) h in
    let two = and_parts (alternate true past) (is_phase_behind (slice_get past (length past - 1)) phase) one.1 in
    let many : (length (past ++ e ∷ []) == epoch + 1) ≡ true = (let l = length-append past (e ∷ []) in let k = one.0 in grind (arith, nat_tests)) in
    both_true (length (past ++ e ∷ []) == epoch + 1) (alternate true (past ++ e ∷ []) && is_phase_behind (slice_get (past ++ e ∷ []) (length (past ++ e ∷ []) - 1)) next) many
    (both_true (alternate true (past ++ e ∷ [])) (is_phase_behind (slice_get (past ++ e ∷ []) (length (past ++ e ∷ []) - 1)) next)
    (one_more true past e two.0 (ap (λ b. may_end b e) (phase_state past phase stands two.1) ∙ may)) (ap (λ o. is_phase_behind o next) (last_end past e) ∙ fits))

pub ends_rolled : (past : List EpochEnd) (epoch : ℕ) → are_ends past epoch Rolling ≡ true → are_ends past epoch Ordinary ≡ true
ends_rolled past epoch h =
    let one = and_parts (length past == epoch) (alternate true past && is_phase_behind (slice_get past (length past - 1)) Rolling) h in
    let two = and_parts (alternate true past) (is_phase_behind (slice_get past (length past - 1)) Rolling) one.1 in
    both_true (length past == epoch) (alternate true past && is_phase_behind (slice_get past (length past - 1)) Ordinary) one.0
    (both_true (alternate true past) (is_phase_behind (slice_get past (length past - 1)) Ordinary) two.0 (each (slice_get past (length past - 1)) two.1))
  where
    each : (o : Option EpochEnd) → is_phase_behind o Rolling ≡ true → is_phase_behind o Ordinary ≡ true
    each None k = absurd (false≢true k)
    each (Some ends.Prepare) k = absurd (false≢true k)
    each (Some ends.Finalize) k = absurd (false≢true k)
    each (Some ends.Rollback) k = refl
