-- Over a link that keeps a history, a call adds a way through its dialogue.
use Rattle.std.proofs.Common.{◌≡◌, ◌∷◌, ◌++◌, List, [], Result, refl, sym, ap, ◌∙◌, append_assoc, append-nil, inl, inr}
use Rattle.gs_client_dialogue.specs.Dialogues.{Say, Ask, Grow, Call, FollowsDialogue}
use Rattle.gs_client_dialogue.specs.Heard.{Says}
use Rattle.gs_base.specs.declared.refusal.Refusal.{Refusal}

module _ {S Q R : Type 0} (carries : S → Q → R → S → Type 0) (said : S → List (Q × R))
    (adds : (old : S) (asked : Q) (reply : R) (new : S) → carries old asked reply new → said new ≡ said old ++ (asked, reply) ∷ []) where
  pub heard : {A : Type 0} (call : Call Q R A) (old : S) (result : Result A Refusal) (new : S) → FollowsDialogue carries call old result new
      → (pairs : List (Q × R)) × (said new ≡ said old ++ pairs) × Says call pairs result
  heard (Say x) old result new (is, same) = ([], ap said same ∙ sym (append-nil (said old)), (is, refl))
  heard (Ask asked more) old result new (reply, mid, carried, rest) =
      let (pairs, after, says) = heard (more reply) mid result new rest in (
        (asked, reply) ∷ pairs,
        after ∙ (ap (λ l. l ++ pairs) (adds old asked reply mid carried) ∙ append_assoc (said old) ((asked, reply) ∷ []) pairs),
        (reply, pairs, refl, says),
      )
  heard (Grow call) old result new follows = elim follows [
    | inl h ↦ let (pairs, after, says) = heard call old result new h in (pairs, after, inl says)
    | inr (e, same) ↦ ([], ap said same ∙ sym (append-nil (said old)), inr (e, refl))
  ]
