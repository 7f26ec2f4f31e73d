use Rattle.std.proofs.Common.{◌≡◌, ◌∙◌, ap, subst, rules, List, not, Bool}
use Rattle.std.specs.Prelude.{filter, ℕ}
use Rattle.std.specs.List.{list_all}
use Rattle.indexmap.proofs.CallerLemmas.{filter-RetainsPairs}
use Rattle.gs_server_lease.specs.declared.lease.Open.{Open}
use Rattle.gs_server_lease.specs.Leases.{PrimaryLease, lacks, settled, with_told}
use Rattle.gs_server_lease.proofs.lease.PrimaryLease.settle.Goals as goal

abbrev waits_in : List ℕ → List ℕ → (ℕ × Open) → Bool
waits_in told members edit = not (list_all (λ server. not (lacks told edit.0 server)) members)

pub returns : goal.returns
returns c =
    let told : List ℕ = c.args.told in
    let kept : c.retain.new.self.entries ≡ filter (waits_in told c.members-members.result) c.self.inside.outbox.entries =
    filter-RetainsPairs _ (waits_in told c.members-members.result) _ (λ k v b w g call. search rules) _ _ c.retain.ensures.filtered in
    let is : c.retain.new.self.entries ≡ filter (waits_in told c.self.inside.held.members) c.self.inside.outbox.entries =
    kept ∙ ap (λ (members : List ℕ). filter (waits_in told members) c.self.inside.outbox.entries) c.members-members.ensures in
    subst (λ (l : PrimaryLease). record { grant = c.self.inside.held; told = told; outbox = c.retain.new.self.entries } ≡ settled (with_told told l)) c.self.view_is
    (λ i. record { grant = c.self.inside.held; told = told; outbox = is i })
