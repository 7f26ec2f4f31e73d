-- Bytes are written to a file one part after another.
use Rattle.std.proofs.Common.{◌≡◌, ◌≤◌, ◌+◌, ◌-◌, ◌++◌, List, ℕ, Option, Some, None, length, take, drop, sym, ap, subst, ◌∙◌, append_assoc, append-nil, take-take, take_all}
use Rattle.std.proofs.Math.Seq.{take-add}
use Rattle.gs_keep_log.specs.Log.{LogDoes, Held, appended, partly_appended}

-- the first bytes are written
abbrev pub Wrote : List ℕ → ℕ → Option Held → Option Held → Type 0
Wrote bytes count old new = LogDoes (partly_appended bytes count) old new

pub wrote_none : (bytes : List ℕ) (o : Option Held) → Wrote bytes 0 o o
wrote_none bytes None = tt
wrote_none bytes (Some h) = ap (λ (l : List ℕ). Some (record { durable = h.durable; pending = l })) (sym (append-nil h.pending))

pub wrote_more : (bytes : List ℕ) (done count : ℕ) (old mid new : Option Held) → count ≤ length bytes - done → Wrote bytes done old mid
    → LogDoes (partly_appended (take (length bytes - done) (drop done bytes)) count) mid new → Wrote bytes (done + count) old new
wrote_more bytes done count None mid new fits one two = tt
wrote_more bytes done count (Some h) mid new fits one two =
    let rest = drop done bytes in
    let parts : (h.pending ++ take done bytes) ++ take count (take (length bytes - done) rest) ≡ h.pending ++ take (done + count) bytes =
    ap (λ (l : List ℕ). (h.pending ++ take done bytes) ++ l) (take-take count (length bytes - done) rest fits) ∙ append_assoc h.pending (take done bytes) (take count rest)
    ∙ ap (λ (l : List ℕ). h.pending ++ l) (sym (take-add done count bytes)) in
    subst (λ (o : Option Held). LogDoes (partly_appended (take (length bytes - done) rest) count) o new) one two ∙ ap (λ (l : List ℕ). Some (record { durable = h.durable; pending = l })) parts

pub wrote_same : (bytes : List ℕ) (done : ℕ) (old mid new : Option Held) → Wrote bytes done old mid → new ≡ mid → Wrote bytes done old new
wrote_same bytes done None mid new one same = tt
wrote_same bytes done (Some h) mid new one same = same ∙ one

pub wrote_all : (bytes : List ℕ) (done : ℕ) (old new : Option Held) → length bytes ≤ done → Wrote bytes done old new → LogDoes (appended bytes) old new
wrote_all bytes done None new all one = tt
wrote_all bytes done (Some h) new all one = one ∙ ap (λ (l : List ℕ). Some (record { durable = h.durable; pending = h.pending ++ l })) (take_all done bytes all)
