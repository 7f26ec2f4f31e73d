-- The length of a file.
use Rattle.std.proofs.Common.{false, min, nat_le, nat_lt, ◌<◌, ◌≡◌, ◌≢◌, ◌≤◌, ◌+◌, ◌-◌, ◌*◌, ℕ, suc, Option, Some, Result, Ok, Err, refl, subst, arith}
use Rattle.std.proofs.Math.Nat.{mul-le-mul_left}
use Rattle.std.proofs.lemmas.Bool.Decides.{nat_tests}
use Rattle.gs_base.specs.declared.refusal.Refusal.{Refusal}
use Rattle.gs_base.specs.declared.refusal.Refusal.TheVariants as refusals
use Rattle.gs_path.specs.Path.{Path}
use Rattle.gs_client_dialogue.specs.Dialogues.{Say, both, FollowsDialogue}
use Rattle.gs_client_dialogue.proofs.Talks.{follows_both, follows_none, follows_named, follows_then, follows_else}
use Rattle.gs_msg.specs.declared.body.Given.{Given}
use Rattle.gs_msg.specs.declared.chunk.Asked.TheVariants as asks
use Rattle.gs_msg.specs.declared.event.Request.{Request}
use Rattle.gs_client.specs.declared.link.Reply.{Reply}
use Rattle.gs_client_part.specs.declared.located.Located.{Located}
use Rattle.gs_client.specs.Replies.{length_in}
use Rattle.gs_client.specs.Trees.{and_then}
use Rattle.gs_client.specs.Looking.{fetch_call}
use Rattle.gs_client.specs.Reading.{within, length_call, end_call}

ended : {S : Type 0} (carries : S → Request → Reply → S → Type 0) (size : ℕ) (go : ℕ → ℕ × Option Located) (r : Result ℕ Refusal) (refusal : Refusal) (s : S)
    → Err refusal ≡ and_then (within size) r → FollowsDialogue carries (both (Say r) (λ many. both (Say (within size many)) (λ many. Say (Ok (go many))))) s (Err refusal) s
ended carries size go (Ok many) refusal s is = subst (λ (r : Result ℕ Refusal). FollowsDialogue carries (both (Say r) (λ many. Say (Ok (go many)))) s (Err refusal) s) is (refl, refl)
ended carries size go (Err e) refusal s is = (cc, refl)

told : {S : Type 0} (carries : S → Request → Reply → S → Type 0) (size : ℕ) (go : ℕ → ℕ × Option Located) (r : Result ℕ Refusal) (many : ℕ) (s : S)
    → Ok many ≡ and_then (within size) r → FollowsDialogue carries (both (Say r) (λ many. both (Say (within size many)) (λ many. Say (Ok (go many))))) s (Ok (go many)) s
told carries size go (Ok n) many s is = subst (λ (r : Result ℕ Refusal). FollowsDialogue carries (both (Say r) (λ many. Say (Ok (go many)))) s (Ok (go many)) s) is (refl, refl)
told carries size go (Err e) many s is = absurd cc

module _ {S : Type 0} (carries : S → Request → Reply → S → Type 0) (size : ℕ) (path : Path) (known : Option Located) (chunks : ℕ) (some : chunks ≢ 0) (old new : S) where
  named : suc (chunks - 1) ≡ chunks
  named = omega arith

  pub length_none : (refusal : Refusal) → FollowsDialogue carries (fetch_call path known (chunks - 1) asks.Length) old (Err refusal) new
      → FollowsDialogue carries (length_call size path known chunks) old (Err refusal) new
  length_none refusal follows =
      follows_named carries (length_call size path known) (suc (chunks - 1)) chunks old new (Err refusal) named
      (follows_none carries (fetch_call path known (chunks - 1) asks.Length) _ old new refusal follows)

  pub length_ends : (given : Given) (located : Located) (refusal : Refusal) → FollowsDialogue carries (fetch_call path known (chunks - 1) asks.Length) old (Ok (given, located)) new
      → Err refusal ≡ and_then (within size) (length_in given) → FollowsDialogue carries (length_call size path known chunks) old (Err refusal) new
  length_ends given located refusal follows is =
      follows_named carries (length_call size path known) (suc (chunks - 1)) chunks old new (Err refusal) named
      (follows_both carries (fetch_call path known (chunks - 1) asks.Length) _ old new new (given, located) (Err refusal) follows
      (ended carries size (λ many. ((chunks - 1) * size + many, Some located)) (length_in given) refusal new is))

  pub length_told : (given : Given) (located : Located) (many : ℕ) → FollowsDialogue carries (fetch_call path known (chunks - 1) asks.Length) old (Ok (given, located)) new
      → Ok many ≡ and_then (within size) (length_in given) → FollowsDialogue carries (length_call size path known chunks) old (Ok ((chunks - 1) * size + many, Some located)) new
  length_told given located many follows is =
      follows_named carries (length_call size path known) (suc (chunks - 1)) chunks old new (Ok ((chunks - 1) * size + many, Some located)) named
      (follows_both carries (fetch_call path known (chunks - 1) asks.Length) _ old new new (given, located) (Ok ((chunks - 1) * size + many, Some located)) follows
      (told carries size (λ many. ((chunks - 1) * size + many, Some located)) (length_in given) many new is))

pub length_fits : (chunks size many : ℕ) → chunks ≢ 0 → chunks ≤ 4096 → many ≤ size → (chunks - 1) * size + many ≤ 4096 * size
length_fits chunks size many some few within =
    let h : size * (chunks - 1 + 1) ≤ size * 4096 = mul-le-mul_left size (omega arith) in
    omega (arith, h)

-- sums of which the greatest number stands in the place of those above it
pub not_full : (sum full end : ℕ) → end ≡ min sum 18446744073709551615 → full < end → nat_le sum full ≡ false
not_full sum full end is past = grind (arith, nat_tests)

pub least : (sum end length size : ℕ) → end ≡ min sum 18446744073709551615 → length ≤ 4096 * size → size ≤ 67108864 → min end length ≡ min sum length
least sum end length size is few bounded = omega arith

module _ {S : Type 0} (carries : S → Request → Reply → S → Type 0) (size : ℕ) (path : Path) (known : Option Located) (chunks offset many : ℕ)
    (not_in_full : nat_le (offset + many) ((chunks - 1) * size) ≡ false) (old new : S) where
  pub end_none : (refusal : Refusal) → FollowsDialogue carries (length_call size path known chunks) old (Err refusal) new
      → FollowsDialogue carries (end_call size path known chunks offset many) old (Err refusal) new
  end_none refusal follows =
      follows_else carries (nat_le (offset + many) ((chunks - 1) * size)) _ _ old new (Err refusal) not_in_full
      (follows_none carries (length_call size path known chunks) _ old new refusal follows)

  pub end_past : (length : ℕ) (located : Option Located) → FollowsDialogue carries (length_call size path known chunks) old (Ok (length, located)) new → length < offset
      → FollowsDialogue carries (end_call size path known chunks offset many) old (Err refusals.Range) new
  end_past length located follows past =
      follows_else carries (nat_le (offset + many) ((chunks - 1) * size)) _ _ old new (Err refusals.Range) not_in_full
      (follows_both carries (length_call size path known chunks) _ old new new (length, located) (Err refusals.Range) follows
      (follows_then carries (nat_lt length offset) _ _ new new (Err refusals.Range) (grind (arith, nat_tests)) (refl, refl)))

  pub end_told : (length : ℕ) (located : Option Located) → FollowsDialogue carries (length_call size path known chunks) old (Ok (length, located)) new → offset ≤ length
      → FollowsDialogue carries (end_call size path known chunks offset many) old (Ok (min (offset + many) length, located)) new
  end_told length located follows within =
      follows_else carries (nat_le (offset + many) ((chunks - 1) * size)) _ _ old new (Ok (min (offset + many) length, located)) not_in_full
      (follows_both carries (length_call size path known chunks) _ old new new (length, located) (Ok (min (offset + many) length, located)) follows
      (follows_else carries (nat_lt length offset) _ _ new new (Ok (min (offset + many) length, located)) (grind (arith, nat_tests)) (refl, refl)))
