-- What is done at one server, and to one message.
use Rattle.std.proofs.lemmas.Bool.Decides.{nat_tests}
use Rattle.std.proofs.Common.{◌≡◌, ◌⊎◌, ◌==◌, ◌≤◌, ℕ, Bool, true, false, List, Option, Some, None, MatchOption, Result, Ok, Err, refl, sym, subst, arith, inl, inr, slice_get}
use Rattle.gs_base.specs.declared.refusal.Refusal.{Refusal}
use Rattle.gs_base.specs.declared.refusal.Refusal.TheVariants as refusals
use Rattle.gs_server.specs.Servers.{Server}
use Rattle.gs_nodes.specs.Happenings.{AtServer}
use Rattle.gs_nodes.specs.Nodes.{Nodes}
use Rattle.gs_shell_desk.specs.Lines.{AtOne, Either, ForServer, OfHandle, is_server}
use Rattle.gs_shell_desk.specs.Ways.{Way, with_nodes}

-- there is a server of this number
pub for_one : {A D : Type 0} (number : ℕ) (does : Result A Refusal → Way D → Type 0) (old : Way D) (result : Result A Refusal) (new : Way D)
    → is_server number old ≡ true → does result new → ForServer number does old result new
for_one number does old result new is done = subst (λ b. Either b (does result new) ((result ≡ Err refusals.Range) × (new ≡ old))) (sym is) done

-- what it does, and nothing else
pub at_one : {D : Type 0} (number id : ℕ) (does : Server → Result (Unit {0}) Refusal → Server → Type 0) (old : Way D) (nodes : Nodes D) (result : Result (Unit {0}) Refusal)
    → (id ≡ number) × (is_server number old ≡ true) → AtServer id does old.nodes result nodes → ForServer number (AtOne number does old) old result (with_nodes nodes old)
at_one number id does old nodes result is done =
    for_one number (AtOne number does old) old result (with_nodes nodes old) is.1 (nodes, subst (λ n. AtServer n does old.nodes result nodes) is.0 done, refl)

no_nought : (handle : ℕ) → 1 ≤ handle → (handle == 0) ≡ false
no_nought handle above = grind (arith, nat_tests, above)

-- the same, of a handle that a chunk may have
pub at_one_of : {D : Type 0} (number id handle h : ℕ) (does : ℕ → Server → Result (Unit {0}) Refusal → Server → Type 0) (old : Way D) (nodes : Nodes D) (result : Result (Unit {0}) Refusal)
    → (id ≡ number) × (is_server number old ≡ true) → h ≡ handle → 1 ≤ handle → AtServer id (does h) old.nodes result nodes
    → ForServer number (OfHandle handle (AtOne number (does handle) old) old) old result (with_nodes nodes old)
at_one_of {D} number id handle h does old nodes result is same above done =
    for_one number (OfHandle handle one old) old result (with_nodes nodes old) is.1
    (subst (λ b. Either b ((result ≡ Err refusals.NoReplica) × (with_nodes nodes old ≡ old)) (one result (with_nodes nodes old))) (sym (no_nought handle above))
    (nodes, subst (λ n. AtServer n (does handle) old.nodes result nodes) is.0 (subst (λ x. AtServer id (does x) old.nodes result nodes) same done), refl)) where
      one : Result (Unit {0}) Refusal → Way D → Type 0
      one = AtOne number (does handle) old

abbrev said : {B : Type 0} → B → Result B Refusal
said x = Ok x

-- what was found, and told without a refusal
pub told : {A B : Type 0} (found : Option A) (tells : A → B) (x : B) (none : Type 0) (some : A → Type 0)
    → MatchOption found (said x ≡ Err refusals.Range) (λ a. (said x ≡ Ok (tells a)) ⊎ (said x ≡ Err refusals.Memory))
    → ((a : A) → x ≡ tells a → some a) → MatchOption found none some
told None tells x none some so goes = absurd cc
told (Some a) tells x none some so goes = elim so [
  | inl is ↦ goes a cc
  | inr is ↦ absurd cc
]

-- the same, of what stands at a place
pub told_at : {A B : Type 0} (items : List A) (id number : ℕ) (tells : A → B) (x : B) (none : Type 0) (some : A → Type 0) → id ≡ number
    → MatchOption (slice_get items id) (said x ≡ Err refusals.Range) (λ a. (said x ≡ Ok (tells a)) ⊎ (said x ≡ Err refusals.Memory))
    → ((a : A) → x ≡ tells a → some a) → MatchOption (slice_get items number) none some
told_at items id number tells x none some is so goes =
    told (slice_get items number) tells x none some
    (subst (λ n. MatchOption (slice_get items n) (said x ≡ Err refusals.Range) (λ a. (said x ≡ Ok (tells a)) ⊎ (said x ≡ Err refusals.Memory))) is so) goes
