-- Under which locations a client reads a file: those that it was told in that very call.
use Rattle.std.proofs.Common.{arith}
use Rattle.std.specs.Prelude.{[], ◌++◌, ◌∷◌, ◌≡◌, Contains, List, None, Option, Result, refl, true, ℕ}
use Rattle.gs_base.specs.Members.{is_member}
use Rattle.gs_base.specs.declared.numbers.Stamp.{Stamp}
use Rattle.gs_base.specs.declared.refusal.Refusal.{Refusal}
use Rattle.gs_client.specs.Reading.{digest_call, read_call}
use Rattle.gs_client.specs.declared.link.Reply.{Reply}
use Rattle.gs_client.specs.declared.link.Reply.TheVariants as replies
use Rattle.gs_client_dialogue.specs.Heard.{Says}
use Rattle.gs_client_part.specs.declared.located.Located.{Located}
use Rattle.gs_lease.specs.declared.view.View.{View}
use Rattle.gs_msg.specs.declared.answer.Answer.TheVariants as answers
use Rattle.gs_msg.specs.declared.call.Call.TheVariants as calls
use Rattle.gs_msg.specs.declared.chunk.Asked.TheVariants as asks
use Rattle.gs_msg.specs.declared.event.Request.{Request}
use Rattle.gs_msg.specs.declared.event.Request.TheVariants as requests
use Rattle.gs_path.specs.Path.{Path}
use Rattle.gs_laws_looks.specs.clients.Files.{on_opened}

-- a location was told: a chunk's place in the file was looked up, and this is what came back
abbrev pub WasTold : Path → List (Request × Reply) → Located → Type 0
WasTold path before l = Contains before (requests.Call (calls.FindForReading path l.index), replies.Answer (answers.Location l.handle l.view l.epoch))

-- a server is asked under a location that was told before, as a member of its view
pub record IsUnder (path : Path) (before : List (Request × Reply)) (to handle : ℕ) (stamp : Stamp) (epoch : ℕ) : Type 0 where
  pub location : Located
  pub told : WasTold path before location
  pub member : is_member location.view.members to ≡ true
  pub chunk : handle ≡ location.handle
  pub under : stamp ≡ location.view.stamp
  pub within : epoch ≡ location.epoch

-- what a reader of a file asks: what stands at its path, where a chunk of it is, and, under a location that was told, for a part of a chunk
abbrev pub MayAsk : Path → List (Request × Reply) → Request → Type 0
MayAsk path before (requests.Call (calls.Status p)) = p ≡ path
MayAsk path before (requests.Call (calls.FindForReading p index)) = p ≡ path
MayAsk path before (requests.Fetch to handle stamp epoch asked) = IsUnder path before to handle stamp epoch
MayAsk path before request = ⊥

-- each of these is asked so, behind those before it
abbrev pub AskSo : Path → List (Request × Reply) → List (Request × Reply) → Type 0
AskSo path before [] = Unit {0}
AskSo path before (pair ∷ pairs) = MayAsk path before pair.0 × AskSo path (before ++ pair ∷ []) pairs

-- ---- what is to hold

-- So each request of a read is, whatever is answered,
abbrev pub ReadersAskSo : Path → Type 0
ReadersAskSo path = (size offset many : ℕ) (pairs : List (Request × Reply)) (result : Result (List ℕ × Option Located) Refusal) →
    Says (on_opened path (λ file. read_call size file.path file.opened file.located offset many)) pairs result → AskSo path [] pairs

-- and each of a digest.
abbrev pub DigestersAskSo : Path → Type 0
DigestersAskSo path = (index block : ℕ) (pairs : List (Request × Reply)) (result : Result (List ℕ × Option Located) Refusal) →
    Says (on_opened path (λ file. digest_call file.path file.opened file.located index block)) pairs result → AskSo path [] pairs

-- ---- Worked: a chunk is found at servers 0 and 1, and the second of them is asked

abbrev a_view : View
a_view = record { stamp = record { epoch = 0; version = 3 }; count = 0; members = 0 ∷ 1 ∷ []; term = None }

abbrev a_location : Located
a_location = record { index = 0; handle = 7; view = a_view; epoch = 0 }

abbrev found : Path → Request × Reply
found path = (requests.Call (calls.FindForReading path 0), replies.Answer (answers.Location 7 a_view 0))

it_may_be_asked : (path : Path) → MayAsk path (found path ∷ []) (requests.Fetch 1 7 (record { epoch = 0; version = 3 }) 0 asks.Length)
it_may_be_asked path = record { location = a_location; told = (0, omega arith, refl); member = refl; chunk = refl; under = refl; within = refl }

nothing_else_is_asked : (path other : Path) → MayAsk path [] (requests.Call (calls.Mkdirs other)) → ⊥
nothing_else_is_asked path other may = may
