-- An edit is numbered under a lease.
use Rattle.std.proofs.Common.{◌≡◌, ℕ, Bool, true, false, cond, List, sym, ap, ◌∙◌}
use Rattle.gs_lease.specs.declared.held.Grant.{Grant}
use Rattle.indexmap.specs.IndexMap.{insert_entry}
use Rattle.std.specs.Prelude.{◌==◌}
use Rattle.gs_server_lease.specs.declared.lease.Open.{Open}
use Rattle.gs_server_lease.specs.Leases.{PrimaryLease, heard, with_told, is_acknowledged, waits_for, opens_edit}

abbrev lease_of : Grant → List ℕ → List (ℕ × Open) → PrimaryLease
lease_of grant told outbox = record { grant = grant; told = told; outbox = outbox }

known : (me number : ℕ) (edit : Open) (l : PrimaryLease) (told : List ℕ) (test : Bool) → told ≡ heard me number l.told → is_acknowledged (with_told told l) number ≡ test →
    cond test (with_told told l) (waits_for number edit (with_told told l)) ≡ opens_edit me number edit l
known me number edit l told test is tested =
    ap (λ b. cond b (with_told told l) (waits_for number edit (with_told told l))) (sym tested)
    ∙ ap (λ t. cond (is_acknowledged (with_told t l) number) (with_told t l) (waits_for number edit (with_told t l))) is

pub known_of_all : (me number : ℕ) (edit : Open) (l : PrimaryLease) (told : List ℕ) → told ≡ heard me number l.told → is_acknowledged (with_told told l) number ≡ true → with_told told l ≡ opens_edit me number edit l
known_of_all me number edit l told is tested = known me number edit l told true is tested

pub waiting_for_some : (me number : ℕ) (edit : Open) (l : PrimaryLease) (told : List ℕ) (outbox : List (ℕ × Open)) → told ≡ heard me number l.told → is_acknowledged (with_told told l) number ≡ false → outbox ≡ insert_entry (λ a b. a == b) l.outbox number edit →
    lease_of l.grant told outbox ≡ opens_edit me number edit l
waiting_for_some me number edit l told outbox is tested put = ap (lease_of l.grant told) put ∙ known me number edit l told false is tested
