-- How a client's requests go out.
use Rattle.std.specs.Prelude.{◌≡◌, ◌⊎◌, ◌<◌, ◌+◌, ℕ, refl}
use Rattle.std.proofs.Common.{inr}
use Rattle.gs_base.specs.declared.numbers.ReqId.{ReqId}
use Rattle.gs_base.specs.declared.refusal.Refusal.TheVariants as refusals
use Rattle.gs_msg.specs.declared.event.Request.{Request}
use Rattle.gs_client.specs.declared.client.Client.{Client}
use Rattle.gs_client.specs.declared.link.Reply.{Reply}
use Rattle.gs_client.specs.declared.link.Reply.TheVariants as replies

abbrev pub last_number : ℕ
last_number = 18446744073709551615

abbrev pub next_request : Client → ReqId
next_request client = record client.last { number = client.last.number + 1 }

-- Each request goes to the link under the number after the last one. After the last number of all there is none: nothing goes out,
-- and that is the reply.
abbrev pub Sends : {L : Type 0} → (L → ReqId → Request → Reply → L → Type 0) → Client × L → Request → Reply → Client × L → Type 0
Sends carries old request reply new =
    ((old.0.last.number < last_number) × (new.0 ≡ record old.0 { last = next_request old.0 }) × carries old.1 (next_request old.0) request reply new.1)
    ⊎ ((old.0.last.number ≡ last_number) × (reply ≡ replies.Refused refusals.Exhausted) × (new ≡ old))

-- client 7 of a store with chunks of 16 bytes, behind so many requests
abbrev pub client_after : ℕ → Client
client_after number = record { last = record { client = record { 0 = 7 }; number = number }; chunk = 16 }

nothing_goes_out_after_the_last_number : {L : Type 0} (carries : L → ReqId → Request → Reply → L → Type 0) (link : L) (request : Request)
    → Sends carries (client_after last_number, link) request (replies.Refused refusals.Exhausted) (client_after last_number, link)
nothing_goes_out_after_the_last_number carries link request = inr (refl, refl, refl)
