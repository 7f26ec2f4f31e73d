-- A server of a number, and what it does.
use Rattle.std.proofs.lemmas.Bool.Decides.{nat_tests}
use Rattle.std.proofs.Common.{◌≡◌, ◌∙◌, ◌-◌, ◌==◌, ◌<◌, ◌≤◌, ℕ, false, if◌then◌else◌, Option, Some, None, MatchOption, Result, Ok, Err, ap, arith, length, refl, slice_get, slice_index_or, slice_set, subst, sym, Vec}
use Rattle.std.proofs.lemmas.Option.{slice_get_past, slice_get_read}
use Rattle.gs_base.specs.declared.refusal.Refusal.{Refusal}
use Rattle.gs_base.specs.declared.refusal.Refusal.TheVariants as refusals
use Rattle.std.specs.declared.alloc.Global.{Global}
use Rattle.gs_master.specs.declared.turn.Turn.{Turn}
use Rattle.gs_msg.specs.declared.message.Message.{Message}
use Rattle.gs_server.specs.Servers.{Server, Step, ServerSteps}
use Rattle.gs_server.specs.declared.turn.Turn as servers
use Rattle.gs_base.specs.declared.numbers.ClientId.{ClientId}
use Rattle.gs_client.specs.Nodes.{Node}
use Rattle.gs_nodes.specs.Happenings.{AtClient, AtServer, ServerDoes, client_in}
use Rattle.gs_nodes.specs.Nodes.{Nodes, with_clients, with_servers}

pub chosen : {A : Type 0} (found : Option A) (x : A) (none : Type 0) (some : A → Type 0) → found ≡ Some x → some x → MatchOption found none some
chosen found x none some is so = subst (λ o. MatchOption o none some) (sym is) so

pub passed : {A : Type 0} (found : Option A) (none : Type 0) (some : A → Type 0) → found ≡ None → none → MatchOption found none some
passed found none some is so = subst (λ o. MatchOption o none some) (sym is) so

module _ {A D : Type 0} (id : ℕ) (does : Server → Result A Refusal → Server → Type 0) (old : Nodes D) (place : ℕ) (same : place ≡ id) where
  -- there is such a server
  pub somebody : (s after : Server) (result : Result A Refusal) → place < length old.servers → s ≡ slice_index_or old.servers place s → does s result after
      → AtServer id does old result (with_servers (slice_set old.servers place after) old)
  somebody s after result inside is done =
      subst (λ n. AtServer n does old result (with_servers (slice_set old.servers place after) old)) same
      (chosen (slice_get old.servers place) s _ _ (slice_get_read old.servers (length old.servers) place s refl inside is) (after, refl, done))

  -- there is none
  pub nobody : length old.servers ≤ place → AtServer id does old (Err refusals.Range) old
  nobody past = subst (λ n. AtServer n does old (Err refusals.Range) old) same (passed (slice_get old.servers place) _ _ (slice_get_past old.servers place past) (refl, refl))

no_nought : (n : ℕ) → (n ≡ 0 → ⊥) → (n == 0) ≡ false
no_nought n some = grind (arith, nat_tests, some)

module _ {A D : Type 0} (id : ClientId) (none : A) (does : Node → A → Node → Type 0) (old : Nodes D) (numbered : id.0 ≡ 0 → ⊥) where
  counted : client_in old.clients id ≡ slice_get old.clients (id.0 - 1)
  counted = ap (λ b. if b then None else slice_get old.clients (id.0 - 1)) (no_nought id.0 numbered)

  -- there is such a client
  pub client_there : (n after : Node) (result : A) → id.0 - 1 < length old.clients → n ≡ slice_index_or old.clients (id.0 - 1) n → does n result after
      → AtClient id none does old result (with_clients (slice_set old.clients (id.0 - 1) after) old)
  client_there n after result inside is done =
      chosen (client_in old.clients id) n _ _ (counted ∙ slice_get_read old.clients (length old.clients) (id.0 - 1) n refl inside is) (after, refl, done)

  -- there is none
  pub client_missing : length old.clients ≤ id.0 - 1 → AtClient id none does old none old
  client_missing past = passed (client_in old.clients id) _ _ (counted ∙ slice_get_past old.clients (id.0 - 1) past) (refl, refl)

-- what a server's turn is told as
pub turned : (step : Step) (old after : Server) (turn : servers.Turn) (told : Turn) → ServerSteps step (Ok turn) old after → told.sent ≡ turn.sent → told.said ≡ turn.said → ServerDoes step old (Ok told) after
turned step old after turn told did sent said = (did.0, ap (λ (v : Vec Message Global). v.items) sent ∙ did.1, said ∙ did.2)
