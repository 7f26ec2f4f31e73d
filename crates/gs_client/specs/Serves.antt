-- A client whose requests a function of a world answers.
use Rattle.std.specs.Prelude.{◌≡◌, ◌+◌, ◌==◌, ℕ, if◌then◌else◌, refl}
use Rattle.gs_base.specs.declared.numbers.ReqId.{ReqId}
use Rattle.gs_base.specs.declared.refusal.Refusal.TheVariants as refusals
use Rattle.gs_msg.specs.declared.event.Request.{Request}
use Rattle.gs_client.specs.declared.client.Client.{Client}
use Rattle.gs_client.specs.declared.link.Reply.{Reply}
use Rattle.gs_client.specs.declared.link.Reply.TheVariants as replies
use Rattle.gs_client.specs.Edits.{counted}
use Rattle.gs_client.specs.Sends.{last_number, next_request, client_after}

-- what comes of a client's next request, and the client and the world then
abbrev pub served : {W : Type 0} → (W → ReqId → Request → Reply × W) → Client × W → Request → Reply × (Client × W)
served serve s request =
    if s.0.last.number == last_number then (replies.Refused refusals.Exhausted, s)
    else ((serve s.1 (next_request s.0) request).0, (record s.0 { last = next_request s.0 }, (serve s.1 (next_request s.0) request).1))

-- the same for a file that is open for writing, with how many of its edits are acknowledged
abbrev pub served_edits : {W : Type 0} → (W → ReqId → Request → Reply × W) → Client × ℕ × W → Request → Reply × (Client × ℕ × W)
served_edits serve s request =
    let next = served serve (s.0, s.2) request in (next.0, (next.1.0, counted request next.0 s.1, next.1.1))

-- Worked: a world that adds up the numbers of the requests that it loses.
abbrev pub losing : ℕ → ReqId → Request → Reply × ℕ
losing world req request = (replies.Lost, world + req.number)

a_request_under_the_next_number : (request : Request) → served losing (client_after 3, 10) request ≡ (replies.Lost, (client_after 4, 14))
a_request_under_the_next_number request = refl

no_request_after_the_last_number : (request : Request) → served losing (client_after last_number, 10) request ≡ (replies.Refused refusals.Exhausted, (client_after last_number, 10))
no_request_after_the_last_number request = refl
