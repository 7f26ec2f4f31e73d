-- Over a link that answers by a function, a client's requests are answered by it.
use Rattle.std.proofs.Common.{◌≡◌, ◌<◌, ℕ, Bool, true, false, cond, eqb, sym, ap, ◌∙◌, subst, arith, inl, inr}
use Rattle.std.proofs.lemmas.Bool.Decides.{nat_tests}
use Rattle.gs_base.specs.declared.numbers.ReqId.{ReqId}
use Rattle.gs_msg.specs.declared.event.Request.{Request}
use Rattle.gs_client.specs.declared.client.Client.{Client}
use Rattle.gs_client.specs.declared.link.Reply.{Reply}
use Rattle.gs_client.specs.Sends.{Sends, next_request}
use Rattle.gs_client.specs.Edits.{Edits, counted}
use Rattle.gs_client.specs.Serves.{served, served_edits}

is_first : {X : Type 0} (b : Bool) (x y z : X) → b ≡ true → x ≡ y → x ≡ cond b y z
is_first b x y z h e = subst (λ t. x ≡ cond t y z) (sym h) e

is_second : {X : Type 0} (b : Bool) (x y z : X) → b ≡ false → x ≡ z → x ≡ cond b y z
is_second b x y z h e = subst (λ t. x ≡ cond t y z) (sym h) e

not_last : (n : ℕ) → n < 18446744073709551615 → eqb n 18446744073709551615 ≡ false
not_last n h = grind (arith, nat_tests)

is_last : (n : ℕ) → n ≡ 18446744073709551615 → eqb n 18446744073709551615 ≡ true
is_last n h = grind (arith, nat_tests)

module _ {L W : Type 0} (carries : L → ReqId → Request → Reply → L → Type 0) (serve : W → ReqId → Request → Reply × W) (view : L → W)
    (exact : (old : L) (req : ReqId) (request : Request) (reply : Reply) (new : L) → carries old req request reply new → (reply, view new) ≡ serve (view old) req request) where
  pub sends_exact : (old : Client × L) (request : Request) (reply : Reply) (new : Client × L) → Sends carries old request reply new
      → (reply, (new.0, view new.1)) ≡ served serve (old.0, view old.1) request
  sends_exact old request reply new sends = elim sends [
    | inl (more, next, carried) ↦
        let answer = exact old.1 (next_request old.0) request reply new.1 carried in
        is_second (eqb old.0.last.number 18446744073709551615) _ _ _ (not_last old.0.last.number more) (λ i. ((answer i).0, (next i, (answer i).1)))
    | inr (last, refused, same) ↦
        is_first (eqb old.0.last.number 18446744073709551615) _ _ _ (is_last old.0.last.number last) (λ i. (refused i, ((same i).0, view (same i).1)))
  ]

  pub edits_exact : (old : Client × ℕ × L) (request : Request) (reply : Reply) (new : Client × ℕ × L) → Edits carries old request reply new
      → (reply, (new.0, new.1, view new.2)) ≡ served_edits serve (old.0, old.1, view old.2) request
  edits_exact old request reply new (sends, count) =
      let sent = sends_exact (old.0, old.2) request reply (new.0, new.2) sends in
      let edits : new.1 ≡ counted request (served serve (old.0, view old.2) request).0 old.1 = count ∙ ap (λ r. counted request r old.1) (λ i. (sent i).0) in
      λ i. ((sent i).0, ((sent i).1.0, edits i, (sent i).1.1))
