-- Calls over a link that answers by a function.
use Rattle.std.proofs.Common.{◌≡◌, ◌≢◌, Result, Err, inl, inr, ap, subst, ◌∙◌}
use Rattle.gs_client_dialogue.specs.Dialogues.{Say, Ask, Grow, Call, FollowsDialogue, run}
use Rattle.gs_base.specs.declared.refusal.Refusal.{Refusal}
use Rattle.gs_base.specs.declared.refusal.Refusal.TheVariants.{Memory}

-- Where each request is answered by the function up to a good end, the whole call is the function's run.
pub follows_run : {S W Q R A : Type 0} (carries : S → Q → R → S → Type 0) (serve : W → Q → R × W) (view : S → W) (Good : S → Type 0)
    → ((old : S) (asked : Q) (reply : R) (new : S) → carries old asked reply new → Good new → Good old × ((reply, view new) ≡ serve (view old) asked))
    → (call : Call Q R A) (old : S) (result : Result A Refusal) (new : S)
    → FollowsDialogue carries call old result new → Good new → result ≢ Err Memory → Good old × ((result, view new) ≡ run serve call (view old))
follows_run carries serve view Good exact (Say said) old result new (is, same) good not_short = (subst Good same good, λ i. (is i, view (same i)))
follows_run carries serve view Good exact (Ask asked more) old result new (reply, mid, carried, rest) good not_short =
    let after = follows_run carries serve view Good exact (more reply) mid result new rest good not_short in
    let first = exact old asked reply mid carried after.0 in
    (first.0, after.1 ∙ ap (λ p. run serve (more p.0) p.1) first.1)
follows_run carries serve view Good exact (Grow rest) old result new follows good not_short = elim follows [
  | inl h ↦ follows_run carries serve view Good exact rest old result new h good not_short
  | inr h ↦ absurd (not_short h.0)
]
