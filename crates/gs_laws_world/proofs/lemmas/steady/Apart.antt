-- What happens at a server or a client leaves the master.
use Rattle.std.proofs.Common.{◌≡◌, ◌-◌, ℕ, Option, Some, None, MatchOption, Result, Err, ap, slice_get, slice_set}
use Rattle.gs_base.specs.declared.numbers.ClientId.{ClientId}
use Rattle.gs_base.specs.declared.refusal.Refusal.{Refusal}
use Rattle.gs_base.specs.declared.refusal.Refusal.TheVariants as refusals
use Rattle.gs_client.specs.Nodes.{Node}
use Rattle.gs_server.specs.Servers.{Server}
use Rattle.gs_nodes.specs.Happenings.{AtClient, AtServer, client_in}
use Rattle.gs_nodes.specs.Nodes.{Nodes, with_clients, with_servers}

module _ {D : Type 0} where
  server_leaves : {A : Type 0} (found : Option Server) (id : ℕ) (does : Server → Result A Refusal → Server → Type 0) (old : Nodes D) (result : Result A Refusal) (new : Nodes D)
      → MatchOption found ((new ≡ old) × (result ≡ Err refusals.Range)) (λ s. (after : Server) × (new ≡ with_servers (slice_set old.servers id after) old) × does s result after) → new.master ≡ old.master
  server_leaves None id does old result new (is, refused) = ap (λ (n : Nodes D). n.master) is
  server_leaves (Some s) id does old result new (after, is, done) = ap (λ (n : Nodes D). n.master) is

  pub at_server : {A : Type 0} (id : ℕ) (does : Server → Result A Refusal → Server → Type 0) (old : Nodes D) (result : Result A Refusal) (new : Nodes D) → AtServer id does old result new → new.master ≡ old.master
  at_server id does old result new at = server_leaves (slice_get old.servers id) id does old result new at

  client_leaves : {A : Type 0} (found : Option Node) (id : ClientId) (none : A) (does : Node → A → Node → Type 0) (old : Nodes D) (result : A) (new : Nodes D)
      → MatchOption found ((new ≡ old) × (result ≡ none)) (λ n. (after : Node) × (new ≡ with_clients (slice_set old.clients (id.0 - 1) after) old) × does n result after) → new.master ≡ old.master
  client_leaves None id none does old result new (is, refused) = ap (λ (n : Nodes D). n.master) is
  client_leaves (Some n) id none does old result new (after, is, done) = ap (λ (n : Nodes D). n.master) is

  pub at_client : {A : Type 0} (id : ClientId) (none : A) (does : Node → A → Node → Type 0) (old : Nodes D) (result : A) (new : Nodes D) → AtClient id none does old result new → new.master ≡ old.master
  at_client id none does old result new at = client_leaves (client_in old.clients id) id none does old result new at
