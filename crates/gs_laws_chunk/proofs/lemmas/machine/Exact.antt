-- What was settled at a prepare is settled behind its rollback.
use Rattle.std.proofs.Common.{◌≡◌, ℕ, ◌+◌, ◌-◌, ◌≤◌, ⊎_elim, List, [], ◌∷◌, length, None, Bool, true, eqb, refl, sym, ap, ◌∙◌, arith}
use Rattle.std.specs.Prelude.{min}
use Rattle.std.proofs.lemmas.List.{take_all}
use Rattle.std.proofs.lemmas.Bool.{eqb-true, eq-eqb, or_cases, or_left, or_right}
use Rattle.gs_laws_chunk.specs.machine.Machine.{ChunkWorld}
use Rattle.gs_laws_chunk.specs.machine.Events.{Prepares, CommitsRollback, is_of, Can, happens, prepares, prepared_known, Leads}
use Rattle.gs_laws_chunk.specs.machine.Laws.{least_of, settled_count, QuietIsSettled, GivesBackExactly}
use Rattle.gs_laws_chunk.proofs.lemmas.machine.Worlds.{WorldOk, happens_world, leads_world, leads_later, committing, prepared_then}
use Rattle.gs_laws_chunk.proofs.lemmas.machine.Facts.{gives_back}

least_min : (a b n : ℕ) → n ≤ a → n ≤ b → n ≤ min a b
least_min a b n x y = omega arith

pub min_first : (a b : ℕ) → min a b ≤ a
min_first a b = omega arith

min_second : (a b n : ℕ) → b ≤ n → min a b ≤ n
min_second a b n x = omega arith

pub least_least : (count : ℕ → ℕ) (xs : List ℕ) (none n : ℕ) → (xs ≡ [] → n ≤ none) → ((j : ℕ) → is_of xs j ≡ true → n ≤ count j) → n ≤ least_of count xs none
least_least count [] none n l h = l refl
least_least count (s ∷ []) none n l h = h s (or_left (eqb s s) _ (eq-eqb s s refl))
least_least count (s ∷ t ∷ xs) none n l h = least_min (count s) (least_of count (t ∷ xs) none) n (h s (or_left (eqb s s) _ (eq-eqb s s refl))) (least_least count (t ∷ xs) none n (λ e. absurd (cc)) (λ j m. h j (or_right (eqb j s) _ m)))

pub least_most : (count : ℕ → ℕ) (xs : List ℕ) (none j : ℕ) → is_of xs j ≡ true → least_of count xs none ≤ count j
least_most count [] none j m = absurd (cc)
least_most count (s ∷ []) none j m = ⊎_elim
    (λ (e : eqb j s ≡ true). rw (eqb-true j s e) (omega arith))
    (λ (r : is_of [] j ≡ true). absurd (cc))
    (or_cases (eqb j s) (is_of [] j) m)
least_most count (s ∷ t ∷ xs) none j m = ⊎_elim
    (λ (e : eqb j s ≡ true). rw (eqb-true j s e) (min_first (count s) (least_of count (t ∷ xs) none)))
    (λ (r : is_of (t ∷ xs) j ≡ true). min_second (count s) (least_of count (t ∷ xs) none) (count j) (least_most count (t ∷ xs) none j r))
    (or_cases (eqb j s) (is_of (t ∷ xs) j) m)

-- at least the edits with which the view was settled
pub settled_base : (w : ChunkWorld) → WorldOk w → w.known.base w.known.view ≤ settled_count w
settled_base w ok =
    let m = ok.entry in
    least_least (λ server. w.known.reached server w.entry.view.stamp) w.entry.view.members w.entry.view.count (w.known.base w.known.view) (λ e. let c = m.count in omega arith)
    (λ j h. rw m.stamp ((ok.known).floor w.known.view j (omega arith) (m.members j ∙ h)))

pub quiet_is_settled : (w : ChunkWorld) → WorldOk w → QuietIsSettled w
quiet_is_settled w ok free =
    let m = ok.entry in
    let none : w.known.holder w.known.view ≡ None = sym m.holder ∙ free in
    let q = (ok.known).quiet w.known.view (omega arith) none in
    let b = settled_base w ok in
    let l = ap (λ t. length (w.known.list t)) m.stamp in
    take_all (settled_count w) (w.known.list w.entry.view.stamp) (omega arith)

pub gives_back_exactly : (w : ChunkWorld) → WorldOk w → (whole : ℕ → Bool) → Can w (Prepares whole) → (last : ChunkWorld) → Leads (happens w (Prepares whole)) last → (members : List ℕ) → GivesBackExactly w whole last members
gives_back_exactly w ok whole can last leads members next commits =
    let mid = happens_world w ok (Prepares whole) can in
    let okl = leads_world (prepares w whole) last leads mid.ok in
    let later = leads_later (prepares w whole) last leads mid.ok in
    let m = ok.entry in let ml = okl.entry in
    let r = commits.0 in
    let x = commits.1 refl in
    let c = committing last okl r in
    let p = prepared_then last okl r x.0 in
    let e : last.known.current - 1 ≡ w.known.current + 1 = (let a = m.epoch in let b = ml.epoch in omega arith) in
    let kept : last.known.kept (w.known.current + 1) ≡ (prepared_known w.known).kept (w.known.current + 1) = later.kept (w.known.current + 1) (omega arith) in
    let new : (prepared_known w.known).kept (w.known.current + 1) ≡ w.known.is_known = rw (eq-eqb (w.known.current + 1) (w.known.current + 1) refl) refl in
    let known : w.known.is_known ≡ true = sym new ∙ sym kept ∙ ap last.known.kept (sym e) ∙ p.2 in
    let quiet = can.1 (m.standing ∙ known) in
    let stamp : last.entry.prepared.stamp ≡ w.known.view = (ml.prepared (last.known.current - 1) c.is p).stamp ∙ ap last.known.prepared e ∙ later.prepared (w.known.current + 1) (omega arith) ∙ rw (eq-eqb (w.known.current + 1) (w.known.current + 1) refl) refl in
    let fixed = later.fixed w.known.view (omega arith) (sym m.holder ∙ quiet.1) in
    quiet_is_settled (happens last (CommitsRollback members true)) (happens_world last okl (CommitsRollback members true) commits).ok refl
    ∙ (gives_back last okl members commits).list
    ∙ ap last.known.list stamp ∙ fixed.1 ∙ ap w.known.list (sym m.stamp)
    ∙ sym (quiet_is_settled w ok quiet.1)
