-- How settled edits move by one event.
use Rattle.std.proofs.Common.{◌≡◌, ◌≢◌, ℕ, zero, suc, ◌≤◌, inl, inr, List, [], ◌∷◌, ◌++◌, length, take, Option, true, false, eqb, refl, sym, ap, ◌∙◌, subst, arith, append-nil}
use Rattle.std.proofs.lemmas.List.{take_all, length-take}
use Rattle.std.proofs.lemmas.Bool.{eq-eqb, or_left}
use Rattle.gs_replica.specs.Stands.{Edit}
use Rattle.gs_laws_chunk.specs.machine.Machine.{View, Known, ChunkWorld}
use Rattle.gs_laws_chunk.specs.machine.Events.{Event, AsksFirst, Settles, CommitsRollback, is_of, Can, happens}
use Rattle.gs_laws_chunk.specs.machine.Laws.{BeginsList, least_of, settled_count, settled, SettlesOn}
use Rattle.gs_laws_chunk.proofs.lemmas.machine.Known.{Grows}
use Rattle.gs_laws_chunk.proofs.lemmas.machine.Settle.{AnswerOk}
use Rattle.gs_laws_chunk.proofs.lemmas.machine.Worlds.{WorldOk, Moved, moving, bare_now, answer_of, happens_world}
use Rattle.gs_laws_chunk.proofs.lemmas.machine.Facts.{gives_back, bare_holder}
use Rattle.gs_laws_chunk.proofs.lemmas.machine.Exact.{least_least, least_most, min_first, quiet_is_settled}

begins_take : (n m : ℕ) (xs more : List Edit) → n ≤ m → BeginsList (take m (xs ++ more)) (take n xs)
begins_take zero m xs more l = (take m (xs ++ more), refl)
begins_take (suc n) m [] more l = (take m more, refl)
begins_take (suc n) zero (x ∷ xs) more l = absurd (omega arith)
begins_take (suc n) (suc m) (x ∷ xs) more l = let h = begins_take n m xs more (omega arith) in (h.0, ap (λ (ys : List Edit). x ∷ ys) h.1)

begins_less : (n m : ℕ) (xs : List Edit) → n ≤ m → BeginsList (take m xs) (take n xs)
begins_less n m xs l = subst (λ (ys : List Edit). BeginsList (take m ys) (take n xs)) (append-nil xs) (begins_take n m xs [] l)

least_rises : (count more : ℕ → ℕ) (xs : List ℕ) (none : ℕ) → ((j : ℕ) → is_of xs j ≡ true → count j ≤ more j) → least_of count xs none ≤ least_of more xs none
least_rises count more xs none h = least_least more xs none (least_of count xs none) (λ e. rw e (omega arith))
    (λ j m. let a = h j m in let b = least_most count xs none j m in omega arith)

settled_in : Known → View → List Edit
settled_in k v = take (least_of (λ server. k.reached server v.stamp) v.members v.count) (k.list v.stamp)

-- more is known, and the settled view is the same
goes_on : (w : ChunkWorld) → WorldOk w → (b : Known) → Grows w.known b → BeginsList (settled_in b w.entry.view) (settled w)
unfolding settled_in
goes_on w ok b g =
    let m = ok.entry in
    let v = w.entry.view in
    let within : v.stamp ≤ w.known.view = (let s = m.stamp in omega arith) in
    let l = g.list v.stamp within in
    let rises = least_rises (λ server. w.known.reached server v.stamp) (λ server. b.reached server v.stamp) v.members v.count
    (λ j h. g.more j v.stamp ((ok.known).members v.stamp j within (rw m.stamp (m.members j ∙ h)))) in
    subst (λ (xs : List Edit). BeginsList (take (least_of (λ server. b.reached server v.stamp) v.members v.count) xs) (settled w)) (sym l.1)
    (begins_take (settled_count w) (least_of (λ server. b.reached server v.stamp) v.members v.count) (w.known.list v.stamp) l.0 rises)

same_view : (w w' : ChunkWorld) → WorldOk w → Moved w w' → w'.entry.view ≡ w.entry.view → BeginsList (settled w') (settled w)
unfolding settled_in
same_view w w' ok m e = subst (λ (v : View). BeginsList (settled_in w'.known v) (settled w)) (sym e) (goes_on w ok w'.known m.grows)

least_none : (count : ℕ → ℕ) (xs : List ℕ) (none : ℕ) → xs ≡ [] → least_of count xs none ≡ none
least_none count xs none e = rw e refl

first_of : (ms : List ℕ) → ms ≢ [] → (x : ℕ) × (is_of ms x ≡ true)
first_of [] n = absurd (n refl)
first_of (x ∷ xs) n = (x, or_left (eqb x x) _ (eq-eqb x x refl))

module _ (w : ChunkWorld) (ok : WorldOk w) (ms : List ℕ) (count : ℕ) (holder : Option ℕ) (can : Can w (Settles ms count holder)) where
  abbrev next : ChunkWorld
  next = happens w (Settles ms count holder)

  answer : (j : ℕ) → is_of ms j ≡ true → AnswerOk w.known j count
  answer j h = let x = can.2 j h in answer_of w ok j count x.1.0 (moving w ok can.0) x.1.1

  list_then : next.known.list next.entry.view.stamp ≡ take count (w.known.list w.entry.view.stamp)
  list_then = let m = ok.entry in rw (m.top, m.stamp, eq-eqb w.known.top w.known.top refl) refl

  fewer : settled_count w ≤ count
  fewer = let m = ok.entry in elim can.3 [
    | inl none ↦
        let f = first_of ms can.1 in
        let a = (answer f.0 f.1).whole (bare_now w ok none) in
        let q = (ok.known).quiet w.known.view (omega arith) (bare_holder w ok none) in
        let c = m.count in
        let l = least_none (λ server. w.known.reached server w.entry.view.stamp) w.entry.view.members w.entry.view.count none in omega arith
    | inr x ↦
        let a = answer_of w ok x.0 x.1 x.2 (moving w ok can.0) x.4 in
        let o = a.own (m.members x.0 ∙ x.3) in
        let l = least_most (λ server. w.known.reached server w.entry.view.stamp) w.entry.view.members w.entry.view.count x.0 x.3 in
        let s = ap (w.known.reached x.0) m.stamp in
        let c = x.5 in omega arith
  ]

  all : count ≤ settled_count next
  all = let m = ok.entry in least_least (λ server. next.known.reached server next.entry.view.stamp) ms count count (λ e. omega arith)
      (λ j h. let c = (answer j h).count in let t = ap (w.known.reached j) m.top in omega arith)

  -- a view that is settled has all that was settled
  settles_view : BeginsList (settled next) (settled w)
  settles_view =
      let within : length (take count (w.known.list w.entry.view.stamp)) ≤ settled_count next = (let t = length-take count (w.known.list w.entry.view.stamp) in let a = all in let u = min_first count (length (w.known.list w.entry.view.stamp)) in omega arith) in
      subst (λ (xs : List Edit). BeginsList xs (settled w)) (sym (ap (take (settled_count next)) list_then ∙ take_all (settled_count next) (take count (w.known.list w.entry.view.stamp)) within))
      (begins_less (settled_count w) count (w.known.list w.entry.view.stamp) fewer)

pub settles_on : (w : ChunkWorld) → WorldOk w → (e : Event) → Can w e → SettlesOn w e
settles_on w ok (CommitsRollback members true) can = quiet_is_settled (happens w (CommitsRollback members true)) (happens_world w ok (CommitsRollback members true) can).ok refl ∙ (gives_back w ok members can).list
settles_on w ok (CommitsRollback members false) can = tt
settles_on w ok (Settles ms count holder) can = settles_view w ok ms count holder can
settles_on w ok (AsksFirst to true) can = same_view w (happens w (AsksFirst to true)) ok (happens_world w ok (AsksFirst to true) can) refl
settles_on w ok (AsksFirst to false) can = same_view w (happens w (AsksFirst to false)) ok (happens_world w ok (AsksFirst to false) can) refl
settles_on w ok e can = same_view w (happens w e) ok (happens_world w ok e can) refl
