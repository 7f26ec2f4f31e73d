-- What is settled of a chunk over many events of its machine.
use Rattle.std.proofs.Common.{◌≡◌, ◌∙◌, ◌⊎◌, inl, inr, ◌<◌, ◌≤◌, ◌++◌, ℕ, Bool, true, false, cond, List, [], length, take, append-nil, append_assoc, None, refl, sym, ap, subst, arith}
use Rattle.std.specs.Prelude.{nat_eq}
use Rattle.std.proofs.lemmas.Bool.Decides.{nat_tests}
use Rattle.std.proofs.lemmas.List.{length-take}
use Rattle.gs_laws_chunk.proofs.lemmas.machine.Exact.{quiet_is_settled}
use Rattle.gs_laws_chunk.proofs.lemmas.machine.Facts.{reached_world}
use Rattle.gs_laws_chunk.proofs.lemmas.machine.Lasting.{agrees}
use Rattle.gs_laws_chunk.proofs.lemmas.machine.Mastering.{masters_settle_once}
use Rattle.gs_laws_chunk.proofs.lemmas.machine.Settled.{settles_on}
use Rattle.gs_laws_chunk.proofs.lemmas.machine.Worlds.{WorldOk, happens_world, leads_later, leads_world}
use Rattle.gs_laws_chunk.specs.machine.Events.{CommitsRollback, Can, Event, Goes, Leads, Rests, happens}
use Rattle.gs_laws_chunk.specs.machine.Laws.{BeginsList, IsReached, settled, settled_count}
use Rattle.gs_laws_chunk.specs.machine.Machine.{ChunkWorld}
use Rattle.gs_laws_chunk.specs.machine.Mastering.{AreOfMaster, SettlesOnce}
use Rattle.gs_laws_chunk.specs.machine.Stamps.{start_of}
use Rattle.gs_replica.specs.Stands.{Edit}

-- ---- it only grows, but where a rollback is committed

begins_same : (xs : List Edit) → BeginsList xs xs
begins_same xs = ([], sym (append-nil xs))

begins_then : (xs ys zs : List Edit) → BeginsList ys xs → BeginsList zs ys → BeginsList zs xs
begins_then xs ys zs (more, one) (rest, other) = (more ++ rest, other ∙ ap (λ (es : List Edit). es ++ rest) one ∙ append_assoc xs more rest)

-- a commit leaves a view that is later than all that were proposed
committed_view : (u : ChunkWorld) (members : List ℕ) (keeps : Bool) → (happens u (CommitsRollback members keeps)).known.view ≡ start_of u.known.current
committed_view u members true = refl
committed_view u members false = refl

beyond : (u : ChunkWorld) → WorldOk u → (members : List ℕ) (keeps : Bool) → Can u (CommitsRollback members keeps) → u.known.top < (happens u (CommitsRollback members keeps)).known.view
beyond u ok members keeps can =
    let rolling = (ok.entry).rolling can.0 in
    subst (λ n. u.known.top < n) (sym (committed_view u members keeps ∙ ap start_of rolling.next)) rolling.below

-- More is settled behind what was, or a rollback was committed.
abbrev pub GrowsOver : ChunkWorld → ChunkWorld → Type 0
GrowsOver w v = BeginsList (settled v) (settled w) ⊎ (w.known.top < v.known.view)

one_over : (w u : ChunkWorld) → Leads w u → WorldOk w → WorldOk u → (e : Event) → Can u e → GrowsOver w u → GrowsOver w (happens u e)
one_over w u before ok oku (CommitsRollback members keeps) can over = inr (let a = (leads_later w u before ok).top in let b = beyond u oku members keeps can in omega arith)
one_over w u before ok oku e can (inl more) = inl (begins_then (settled w) (settled u) (settled (happens u e)) more (settles_on u oku e can))
one_over w u before ok oku e can (inr later) = inr (let a = ((happens_world u oku e can).grows).view in omega arith)

pub grows_over : (w v : ChunkWorld) → Leads w v → WorldOk w → GrowsOver w v
grows_over w v (Rests) ok = inl (begins_same (settled w))
grows_over w v (Goes u e before can) ok = one_over w u before ok (leads_world w u before ok) e can (grows_over w u before ok)

-- ---- where nobody may number

-- what is settled is no longer than the list of the view
settled_short : (v : ChunkWorld) → length (settled v) ≤ length (v.known.list v.entry.view.stamp)
settled_short v = let l = length-take (settled_count v) (v.known.list v.entry.view.stamp) in omega arith

shorter : (w v : ChunkWorld) → WorldOk w → WorldOk v → w.entry.view.holder ≡ None → length (v.known.list v.known.view) ≤ length (w.known.list w.known.view) → length (settled v) ≤ length (settled w)
shorter w v ok okv free short =
    let whole = ap (λ (es : List Edit). length es) (quiet_is_settled w ok free) in
    let here = settled_short v in
    let first = ap (λ t. length (w.known.list t)) (agrees w ok).view in
    let last = ap (λ t. length (v.known.list t)) (agrees v okv).view in
    omega arith

-- while the view is the same
pub none_more_still : (w v : ChunkWorld) → Leads w v → WorldOk w → w.entry.view.holder ≡ None → v.known.view ≡ w.known.view → length (settled v) ≤ length (settled w)
none_more_still w v leads ok free same =
    let none : w.known.holder w.known.view ≡ None = ap w.known.holder (agrees w ok).view ∙ (agrees w ok).holder ∙ free in
    let list = ((leads_later w v leads ok).fixed w.known.view (omega arith) none).1 in
    let short : length (v.known.list v.known.view) ≡ length (w.known.list w.known.view) = ap (λ t. length (v.known.list t)) same ∙ ap (λ (es : List Edit). length es) list in
    shorter w v ok (leads_world w v leads ok) free (omega arith)

-- and over events of the master alone
pub none_more : (w v : ChunkWorld) (leads : Leads w v) → IsReached w → AreOfMaster w v leads → w.entry.view.holder ≡ None → (w.known.top < v.known.view → ⊥) → length (settled v) ≤ length (settled w)
none_more w v leads reached masters free still = by_once (masters_settle_once w v leads reached masters)
  where
    ok : WorldOk w
    ok = reached_world w reached

    okv : WorldOk v
    okv = leads_world w v leads ok

    itself : (n : ℕ) → nat_eq n n ≡ true
    itself n = grind (arith, nat_tests)

    by_once : SettlesOnce w v → length (settled v) ≤ length (settled w)
    by_once (inl k) = none_more_still w v leads ok free k.view
    by_once (inr (inl k)) =
        let list : v.known.list v.known.view ≡ take (v.known.base w.known.top) (w.known.list w.known.view) =
        ap v.known.list k.view ∙ k.list w.known.top ∙ ap (λ b. cond b (take (v.known.base w.known.top) (w.known.list w.known.view)) (w.known.list w.known.top)) (itself w.known.top) in
        let many = ap (λ (es : List Edit). length es) list in
        let cut = length-take (v.known.base w.known.top) (w.known.list w.known.view) in
        shorter w v ok okv free (omega arith)
    by_once (inr (inr k)) = absurd (still k.later)
