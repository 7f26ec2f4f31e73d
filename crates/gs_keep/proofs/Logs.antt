-- What a log holds, from one call to the next.
use Rattle.std.proofs.Common.{◌≡◌, ◌<◌, ◌≤◌, ◌++◌, ◌∷◌, ℕ, List, [], length, take, drop, Option, Some, None, refl, sym, ap, subst, ◌∙◌, arith, append_assoc, append-nil, length-append, length-take, length-drop}
use Rattle.gs_keep_log.specs.Log.{Held, LogDoes, LogDoesPart, MayLeave, appended, partly_appended, partly_shortened, settled, synced, whole}
use Rattle.gs_keep_mark.specs.Ledgers.{IsLedger, is_full}
use Rattle.gs_keep_mark.specs.Marks.{Entry, Totals, mark_of, passed, text_of, totals_behind, with_batch}
use Rattle.gs_keep_mark.specs.Started.{AreBatches, IsBatch, IsPlain}
use Rattle.gs_keep_mark.specs.declared.Ledger.{Ledger}
use Rattle.gs_keep.specs.Keeping.{LeavesAll, LeavesFront}
use Rattle.gs_keep.specs.Lines.{joined, kept_behind}
use Rattle.gs_keep.specs.Serving.{Keeps, LeavesAtMost, RestsAt, SealFails, Seals, at_rest}
use Rattle.gs_keep.specs.declared.fault.KeepFault.TheVariants as fault
use Rattle.gs_keep.proofs.Batches.{text_with}

-- what is known of the mark that a ledger gives
abbrev pub Marks : Ledger → List ℕ → Type 0
Marks ledger mark = (t : Totals) → IsLedger ledger t → mark ≡ mark_of t

pub seals : (ledger ledger' : Ledger) (old mid new : Option Held) (bytes grown mark : List ℕ) → Marks ledger mark → grown ≡ bytes ++ mark → LogDoes (appended grown) old mid → LogDoes synced mid new
    → ((t : Totals) → IsLedger ledger t → mark ≡ mark_of t → IsLedger ledger' (passed t)) → is_full ledger' ≡ is_full ledger → Seals ledger ledger' old new bytes
seals ledger ledger' old mid new bytes grown mark marks put_is put sync pass full = (full, λ t told. (pass t told (marks t told), rests t told))
  where
    rests : (t : Totals) → IsLedger ledger t → (front : List ℕ) → front ++ bytes ≡ t.text → RestsAt old front → RestsAt new (passed t).text
    rests t told front meets is =
        let done : new ≡ Some (at_rest (front ++ grown)) = subst (λ (o : Option Held). LogDoes synced o new) (subst (λ (o : Option Held). LogDoes (appended grown) o mid) is put) sync in
        done ∙ ap (λ (l : List ℕ). Some (at_rest l))
        (ap (λ (l : List ℕ). front ++ l) put_is ∙ sym (append_assoc front bytes mark) ∙ ap (λ (l : List ℕ). l ++ mark) meets ∙ ap (λ (l : List ℕ). t.text ++ l) (marks t told))

pub append_fails : (ledger : Ledger) (old new : Option Held) (bytes grown mark : List ℕ) → Marks ledger mark → grown ≡ bytes ++ mark → LogDoesPart (partly_appended grown) old new
    → SealFails fault.Log ledger old new bytes
append_fails ledger old new bytes grown mark marks put_is part t told front is =
    let (n, done) = subst (λ (o : Option Held). LogDoesPart (partly_appended grown) o new) is part in
    let long : length grown ≡ length (bytes ++ mark_of t) = ap length (put_is ∙ ap (λ (l : List ℕ). bytes ++ l) (marks t told)) in
    let leaves : (c : List ℕ) → MayLeave (partly_appended grown n (at_rest front)) c → (x : List ℕ) × (length x ≤ length (bytes ++ mark_of t)) × (c ≡ front ++ x) =
    λ c left. let (x, few, e) = left in (x, omega (arith, few, long, length-take n grown), e) in
    subst (LeavesAtMost front (bytes ++ mark_of t)) (sym done) leaves

pub sync_fails : (ledger : Ledger) (old mid new : Option Held) (bytes grown mark : List ℕ) → Marks ledger mark → grown ≡ bytes ++ mark → LogDoes (appended grown) old mid → LogDoesPart settled mid new
    → SealFails fault.Log ledger old new bytes
sync_fails ledger old mid new bytes grown mark marks put_is put part t told front is =
    let (n, done) = subst (λ (o : Option Held). LogDoesPart settled o new) (subst (λ (o : Option Held). LogDoes (appended grown) o mid) is put) part in
    let long : length grown ≡ length (bytes ++ mark_of t) = ap length (put_is ∙ ap (λ (l : List ℕ). bytes ++ l) (marks t told)) in
    let leaves : (c : List ℕ) → MayLeave (settled n (appended grown (at_rest front))) c → (x : List ℕ) × (length x ≤ length (bytes ++ mark_of t)) × (c ≡ front ++ x) =
    λ c left.
    let (x, few, e) = left in (
      take n grown ++ x,
      omega (arith, few, long, length-take n grown, length-drop n grown, length-append (take n grown) x),
      e ∙ append_assoc front (take n grown) x,
    ) in
    subst (LeavesAtMost front (bytes ++ mark_of t)) (sym done) leaves

pub cut_fails : (len : ℕ) (old new : Option Held) → LogDoesPart (partly_shortened len) old new → LeavesFront len old new
cut_fails len None new part = tt
cut_fails len (Some h) new (n, done) =
    let front = take len h.durable in
    let back = drop (length front) (whole h) in
    let leaves : (c : List ℕ) → MayLeave (partly_shortened len n h) c → (x : List ℕ) × (length x ≤ length (whole h)) × (c ≡ front ++ x) =
    λ c left. let (x, few, e) = left in (x, omega (arith, few, length-take n back, length-drop (length front) (whole h)), e) in
    subst (LeavesAtMost front (whole h)) (sym done) leaves

-- what is at rest is left
pub rest_leaves : (log : Option Held) (text : List ℕ) → RestsAt log text → LeavesAll text log
rest_leaves log text is = subst (LeavesAll text) (sym is) (λ c left. (left.0, left.2))

pub most_leaves : (log : Option Held) (front most : List ℕ) → LeavesAtMost front most log → LeavesAll front log
most_leaves None front most left = tt
most_leaves (Some h) front most left = λ c may. let (x, few, e) = left c may in (x, e)

-- what is left behind more is left behind less
pub leaves_less : (log : Option Held) (front more : List ℕ) → LeavesAll (front ++ more) log → LeavesAll front log
leaves_less None front more left = tt
leaves_less (Some h) front more left = λ c may. let (x, e) = left c may in (more ++ x, e ∙ append_assoc front more x)

-- ---- a batch

-- what stands in the log of a batch: itself, if it has lines
abbrev pub alone : List Entry → List (List Entry)
alone [] = []
alone (e ∷ batch) = (e ∷ batch) ∷ []

pub alone_joined : (batch : List Entry) → batch ≡ joined (alone batch)
alone_joined [] = refl
alone_joined (e ∷ batch) = sym (append-nil (e ∷ batch))

pub alone_plain : (batch : List Entry) → IsBatch batch → AreBatches (alone batch)
alone_plain [] plain = tt
alone_plain (e ∷ batch) plain = (plain, tt)

pub alone_behind : (t : Totals) (batch : List Entry) → kept_behind t batch ≡ totals_behind t (alone batch)
alone_behind t [] = refl
alone_behind t (e ∷ batch) = refl

plain_long : (line more : List ℕ) → IsPlain line → 0 < length (line ++ more)
plain_long line more p = omega (arith, length-append line more, ap length p.ended, length-append p.body (10 ∷ []))

some_seals : (ledger ledger' : Ledger) (log log' : Option Held) (bytes : List ℕ) → 0 < length bytes → Keeps ledger ledger' log log' bytes → Seals ledger ledger' log log' bytes
some_seals ledger ledger' log log' [] some kept = absurd (omega (arith, some))
some_seals ledger ledger' log log' (x ∷ xs) some kept = kept

pub keeps_batch : (t : Totals) (batch : List Entry) (ledger ledger' : Ledger) (log log' : Option Held) (bytes : List ℕ) → IsBatch batch → bytes ≡ text_of batch → IsLedger ledger (with_batch t batch)
    → Keeps ledger ledger' log log' bytes → IsLedger ledger' (kept_behind t batch) × (RestsAt log t.text → RestsAt log' (kept_behind t batch).text)
keeps_batch t [] ledger ledger' log log' bytes plain is told kept =
    let (same, log_same) = subst (Keeps ledger ledger' log log') is kept in
    (subst (λ (l : Ledger). IsLedger l t) (sym same) told, λ rests. log_same ∙ rests)
keeps_batch t (e ∷ batch) ledger ledger' log log' bytes plain is told kept =
    let all : List Entry = e ∷ batch in
    let some : 0 < length bytes = omega (arith, ap length is, plain_long e.line (text_of batch) plain.0) in
    let (told', rests) = (some_seals ledger ledger' log log' bytes some kept).1 (with_batch t all) told in
    (told', rests t.text (ap (λ (l : List ℕ). t.text ++ l) is ∙ sym (text_with t all)))

pub keeps_full : (ledger ledger' : Ledger) (log log' : Option Held) (bytes : List ℕ) → Keeps ledger ledger' log log' bytes → is_full ledger' ≡ is_full ledger
keeps_full ledger ledger' log log' [] kept = ap is_full kept.0
keeps_full ledger ledger' log log' (x ∷ xs) kept = kept.0

pub breaks_batch : (t : Totals) (batch : List Entry) (ledger : Ledger) (log log' : Option Held) (bytes : List ℕ) → bytes ≡ text_of batch → IsLedger ledger (with_batch t batch)
    → SealFails fault.Log ledger log log' bytes → RestsAt log t.text → LeavesAtMost t.text (text_of batch ++ mark_of (with_batch t batch)) log'
breaks_batch t batch ledger log log' bytes is told fails rests =
    subst (λ (l : List ℕ). LeavesAtMost t.text (l ++ mark_of (with_batch t batch)) log') is (fails (with_batch t batch) told t.text rests)
