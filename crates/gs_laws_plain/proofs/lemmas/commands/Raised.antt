-- What a snapshot copies has references: so they can be raised, but where one is the last.
use Rattle.std.proofs.Common.{◌≡◌, ◌∙◌, ◌+◌, ◌≤◌, ◌&&◌, not, ℕ, Bool, true, false, cond, List, [], ◌∷◌, nat_lt, refl, sym, ap, arith}
use Rattle.std.specs.Prelude.{is_some, Option, Some, None, Result, Ok, Err, if◌then◌else◌}
use Rattle.std.specs.FinMap as fin
use Rattle.std.specs.List.{AllByRecursion, list_any}
use Rattle.std.specs.Ordering.{eq_by_cmp, is_eq, nat_cmp}
use Rattle.std.specs.Cmp.{nat_cmp_total, tied_itself}
use Rattle.std.proofs.lemmas.Bool.{false≢true}
use Rattle.gs_base.specs.Refusals.{number_of}
use Rattle.gs_base.specs.declared.refusal.Refusal.{Refusal}
use Rattle.gs_base.specs.declared.refusal.Refusal.TheVariants as refusals
use Rattle.gs_edit.proofs.Sweeping.{split_chunks}
use Rattle.gs_edit.specs.Names.{IsCounted}
use Rattle.gs_edit.specs.View.{NamesView}
use Rattle.gs_laws_plain.specs.commands.Answers.{is_of_store}
use Rattle.gs_path.specs.Element.{is_hidden}
use Rattle.gs_path.specs.Path.{Path, begins}
use Rattle.gs_refs.specs.Counts.{Counts, and_then, count_or_zero, last_count, occurrences, raised_each, raised_listed_from}
use Rattle.gs_tree.specs.Chunks.{visible_chunks_under}
use Rattle.gs_tree.specs.Plain.{after}

-- ---- each of them is listed

abbrev IsListed : Counts → ℕ → Type 0
IsListed refs chunk = is_some (fin.get refs chunk) ≡ true

counts_itself : (chunk : ℕ) (chunks : List ℕ) → occurrences chunk (chunk ∷ chunks) ≡ 1 + occurrences chunk chunks
counts_itself chunk chunks = ap (λ b. cond b 1 0 + occurrences chunk chunks) (ap is_eq (tied_itself nat_cmp_total chunk))

no_fewer : (chunk other : ℕ) (chunks : List ℕ) → occurrences chunk chunks ≤ occurrences chunk (other ∷ chunks)
no_fewer chunk other chunks = by_test (eq_by_cmp nat_cmp chunk other)
  where
    by_test : (b : Bool) → occurrences chunk chunks ≤ cond b 1 0 + occurrences chunk chunks
    by_test true = omega arith
    by_test false = omega arith

all_listed : (refs : Counts) (chunks : List ℕ) → ((chunk : ℕ) → 1 ≤ occurrences chunk chunks → IsListed refs chunk) → AllByRecursion (IsListed refs) chunks
all_listed refs [] each = tt
all_listed refs (chunk ∷ chunks) each =
    (each chunk (let one = counts_itself chunk chunks in omega arith), all_listed refs chunks (λ other some. each other (let more = no_fewer other chunk chunks in omega arith)))

counted_listed : (o : Option ℕ) → 1 ≤ count_or_zero o → is_some o ≡ true
counted_listed None some = absurd (omega arith)
counted_listed (Some n) some = refl

source_listed : (names : NamesView) (from : Path) → IsCounted names → AllByRecursion (IsListed names.refs) (visible_chunks_under from (fin.entries names.tree))
source_listed names from counted =
    all_listed names.refs (visible_chunks_under from (fin.entries names.tree))
    (λ chunk some. counted_listed (fin.get names.refs chunk) (let all = counted chunk in let both = split_chunks chunk (λ p. begins from p && not (list_any is_hidden (after from p))) (fin.entries names.tree) in omega arith))

-- ---- so what stands against them is the last count

refusal_is : {e f : Refusal} → ◌≡◌ {A = Result Counts Refusal} (Err e) (Err f) → e ≡ f
refusal_is h = cc

stays_listed : (refs : Counts) (chunk count : ℕ) (chunks : List ℕ) → AllByRecursion (IsListed refs) chunks → AllByRecursion (IsListed (fin.insert refs chunk count)) chunks
stays_listed refs chunk count [] all = tt
stays_listed refs chunk count (other ∷ chunks) all = (ap is_some (fin.get-insert nat_cmp_total refs chunk count other) ∙ by_key (eq_by_cmp nat_cmp other chunk) all.0, stays_listed refs chunk count chunks all.1)
  where
    by_key : (b : Bool) → is_some (fin.get refs other) ≡ true → is_some (cond b (Some count) (fin.get refs other)) ≡ true
    by_key true some = refl
    by_key false some = some

pub raised_or_last : (refs : Counts) (chunks : List ℕ) (e : Refusal) → AllByRecursion (IsListed refs) chunks → raised_each refs chunks ≡ Err e → is_of_store (number_of e) ≡ true
raised_or_last refs [] e all h = absurd (cc)
raised_or_last refs (chunk ∷ chunks) e all h = by_count (fin.get refs chunk) all.0 (λ count. raised_or_last (fin.insert refs chunk count) chunks e (stays_listed refs chunk count chunks all.1)) h
  where
    by_test : (n : ℕ) (b : Bool) → (raised_each (fin.insert refs chunk (n + 1)) chunks ≡ Err e → is_of_store (number_of e) ≡ true) → and_then (if b then Ok (fin.insert refs chunk (n + 1)) else Err refusals.Exhausted) (λ m. raised_each m chunks) ≡ Err e → is_of_store (number_of e) ≡ true
    by_test n true rest h = rest h
    by_test n false rest h = ap (λ f. is_of_store (number_of f)) (sym (refusal_is h))

    by_count : (o : Option ℕ) → is_some o ≡ true → ((count : ℕ) → raised_each (fin.insert refs chunk count) chunks ≡ Err e → is_of_store (number_of e) ≡ true) → and_then (raised_listed_from refs chunk o) (λ m. raised_each m chunks) ≡ Err e
        → is_of_store (number_of e) ≡ true
    by_count None some rest h = absurd (false≢true some)
    by_count (Some n) some rest h = by_test n (nat_lt n last_count) (rest (n + 1)) h

pub source_refused : (names : NamesView) (from : Path) (e : Refusal) → IsCounted names → raised_each names.refs (visible_chunks_under from (fin.entries names.tree)) ≡ Err e → is_of_store (number_of e) ≡ true
source_refused names from e counted h = raised_or_last names.refs (visible_chunks_under from (fin.entries names.tree)) e (source_listed names from counted) h
