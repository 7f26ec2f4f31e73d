-- Each edit of a list stands in that of the view in which it was numbered, at the same place.
use Rattle.std.proofs.Common.{◌≡◌, ℕ, zero, suc, ◌+◌, ◌-◌, ◌<◌, ◌≤◌, ◌⊎◌, inl, inr, ⊎_elim, List, [], ◌∷◌, ◌++◌, length, take, Option, Some, None, Bool, true, false, cond, refl, sym, ap, ◌∙◌, subst, arith, append-nil, length-append}
use Rattle.std.specs.Prelude.{nat_eq, slice_get}
use Rattle.std.proofs.lemmas.List.{take-append-le}
use Rattle.std.proofs.lemmas.Option.{slice_get_within}
use Rattle.std.proofs.lemmas.Bool.{cases_lt, cases_eq, eqb-true}
use Rattle.std.proofs.lemmas.Bool.Decides.{nat_tests}
use Rattle.gs_base.specs.declared.epoch.EpochEnd.TheVariants.{Prepare}
use Rattle.gs_base.specs.declared.numbers.ReqId.{ReqId}
use Rattle.gs_base.specs.declared.numbers.Stamp.{Stamp}
use Rattle.gs_replica.specs.Stands.{Edit}
use Rattle.gs_laws_chunk.specs.machine.Stamps.{epoch_of, stamp_at, start_of}
use Rattle.gs_laws_chunk.specs.machine.Machine.{Entry, Known, ChunkWorld}
use Rattle.gs_laws_chunk.specs.machine.Events.{Event, Raises, Rises, Promises, SendsCopy, TakesLease, Numbers, Forwards, Applies, Acknowledges, Hears, Closes, Answers, Spends, Drops, Loses, Damages, Learns, Names, Reports, Proposes, AsksFirst, Asks, AsksForCopy, GivesUp, Holds, Settles, Grants, Retires, SendsDrop, Prepares, Finalizes, BeginsRollback, CommitsRollback, TellsEpoch, Can, happens, learned, Leads, Rests, Goes}
use Rattle.gs_laws_chunk.specs.machine.Acting.{actor}
use Rattle.gs_laws_chunk.specs.machine.Laws.{Birth, IsReached}
use Rattle.gs_laws_chunk.specs.machine.Mastering.{AreOfMaster}
use Rattle.gs_laws_chunk.specs.machine.Numbering.{AreNumbered, BornNumbered, IsBehind, IsNumberedAt, MastersNumber, NumbersAsked, ServersNumber, StandsBetween, StandsPrepared, StaysBehind, WasGivenUp}
use Rattle.gs_laws_chunk.proofs.lemmas.machine.Facts.{reached_world}
use Rattle.gs_laws_chunk.proofs.lemmas.machine.Known.{IsPrepared, Later, false_true, later_of}
use Rattle.gs_laws_chunk.proofs.lemmas.machine.Knowing.{asked_known}
use Rattle.gs_laws_chunk.proofs.lemmas.machine.Stamps.{epoch_of-le, epoch_of-start}
use Rattle.gs_laws_chunk.proofs.lemmas.machine.Turns.{two_ends}
use Rattle.gs_laws_chunk.proofs.lemmas.machine.Lists.{at_push, take_at, take_from, take_within}
use Rattle.gs_laws_chunk.proofs.lemmas.machine.Worlds.{WorldOk, committing, happens_world, leads_later, leads_world, moving, prepared_then}

-- ---- what an event makes of lists and views

-- No view is settled. The lists of stamps behind the settled one stay, and where the master acts all of them.
record Still (e : Event) (u v : ChunkWorld) : Type 0 where
  born : v.known.born ≡ u.known.born
  view : v.known.view ≡ u.known.view
  top : u.known.top ≤ v.known.top
  stood : (t : ℕ) → v.known.stood t ≡ u.known.stood t
  above : (t : ℕ) → u.known.view < t → v.known.list t ≡ u.known.list t
  master : actor e ≡ None → (t : ℕ) → v.known.list t ≡ u.known.list t

-- A view is settled, behind all that were. Its list is of the first edits of one that was settled before, and all other lists stay.
record Settled (u v : ChunkWorld) : Type 0 where
  stamp : ℕ
  edits : List Edit
  stands : Bool
  above : u.known.view < stamp
  later : u.known.top ≤ stamp
  born : v.known.born ≡ u.known.born
  view : v.known.view ≡ stamp
  top : v.known.top ≡ stamp
  stood : (t : ℕ) → v.known.stood t ≡ cond (nat_eq t stamp) stands (u.known.stood t)
  list : (t : ℕ) → v.known.list t ≡ cond (nat_eq t stamp) edits (u.known.list t)
  from : (place : ℕ) (edit : Edit) → slice_get edits place ≡ Some edit → (old : ℕ) × (old ≤ u.known.view) × (take (place + 1) edits ≡ take (place + 1) (u.known.list old)) × ((lower : ℕ) → StandsPrepared u.known lower old place → StandsPrepared v.known lower stamp place) × ((lower : ℕ) → StandsBetween u.known lower old place → StandsBetween v.known lower stamp place)

abbrev Changes : Event → ChunkWorld → ChunkWorld → Type 0
Changes e u v = Still e u v ⊎ Settled u v

-- no edit is added
none_more : (b : Bool) (xs : List Edit) → cond b (xs ++ []) xs ≡ xs
none_more true xs = append-nil xs
none_more false xs = refl

apart : (t n : ℕ) → n < t → nat_eq t n ≡ false
apart t n l = grind (arith, nat_tests)

below : (t n : ℕ) → t < n → nat_eq t n ≡ false
below t n l = grind (arith, nat_tests)

take_fewer : {X : Type 0} (n m : ℕ) (xs : List X) → n ≤ m → take n (take m xs) ≡ take n xs
take_fewer zero m xs l = refl
take_fewer (suc n) zero xs l = absurd (omega arith)
take_fewer (suc n) (suc m) [] l = refl
take_fewer (suc n) (suc m) (x ∷ xs) l = ap (λ ys. x ∷ ys) (take_fewer n m xs (omega arith))

module _ (u : ChunkWorld) (ok : WorldOk u) where
  -- a server acts, and numbers nothing
  quiet : (e : Event) (v : ChunkWorld) → (actor e ≡ None → ⊥) → v.known.born ≡ u.known.born → v.known.view ≡ u.known.view → v.known.top ≡ u.known.top → ((t : ℕ) → v.known.stood t ≡ u.known.stood t) → ((t : ℕ) → v.known.list t ≡ u.known.list t) → Changes e u v
  quiet e v some born view top stood list = inl (record { born = born; view = view; top = omega arith; stood = stood; above = λ t l. list t; master = λ none. absurd (some none) })

  -- the master acts, and settles nothing
  calm : (e : Event) (v : ChunkWorld) → v.known.born ≡ u.known.born → v.known.view ≡ u.known.view → u.known.top ≤ v.known.top → ((t : ℕ) → v.known.stood t ≡ u.known.stood t) → ((t : ℕ) → v.known.list t ≡ u.known.list t) → Changes e u v
  calm e v born view top stood list = inl (record { born = born; view = view; top = top; stood = stood; above = λ t l. list t; master = λ none. list })

  -- What stands in the list of the former view, and behind it: the upgrade of the epoch may have begun with the former view, or before it.
  settles_prepared : (members : List ℕ) (count : ℕ) (holder : Option ℕ) → Can u (Settles members count holder) → (place : ℕ) (edit : Edit) → slice_get (u.known.list u.known.view) place ≡ Some edit → (lower : ℕ) → StandsPrepared u.known lower u.known.view place
      → StandsPrepared (happens u (Settles members count holder)).known lower u.known.top place
  settles_prepared members count holder can place edit at lower first within stood now how kept over under =
      let e : ℕ = epoch_of u.known.top in
      let is : IsPrepared u.known e = (now, how, kept) in
      let p : ℕ = u.known.prepared e in
      let low = (ok.known).before e is in
      let up = moving u ok can.0 in
      let same : (happens u (Settles members count holder)).known.list p ≡ u.known.list p = ap (λ b. cond b (take count (u.known.list u.known.view)) (u.known.list p)) (below p u.known.top (omega arith)) in
      subst (λ xs. place < length xs) (sym same) (elim (cases_eq p u.known.view) [
        | inl here ↦ subst (λ t. place < length (u.known.list t)) (sym here) (slice_get_within (u.known.list u.known.view) place edit at)
        | inr other ↦
            let known = asked_known u ok members can.1 (λ j x. (can.2 j x).0) in
            let stands : u.known.stood u.known.view ≡ true = (ok.known).now (sym (ok.entry).standing ∙ known) in
            let early = (ok.known).early p ((ok.known).ready e is) in
            let link = (ok.known).links u.known.view (omega arith) (omega arith) stands in
            let rises = epoch_of-le u.known.view u.known.top (omega arith) in
            let epoch : epoch_of u.known.view ≡ e = elim (link.legit e is) [ inl under_it ↦ absurd (omega arith) | inr above ↦ omega arith ] in
            subst (λ n. n ≤ u.known.current → u.known.how n ≡ Prepare → u.known.kept n ≡ true → lower ≤ u.known.prepared n → u.known.prepared n < u.known.view → place < length (u.known.list (u.known.prepared n))) epoch
            (first (omega arith) stands) now how kept over (omega arith)
      ])

  settles_between : (members : List ℕ) (count : ℕ) (holder : Option ℕ) → Can u (Settles members count holder) → (place : ℕ) (edit : Edit) → slice_get (u.known.list u.known.view) place ≡ Some edit → (lower : ℕ) → StandsBetween u.known lower u.known.view place
      → StandsBetween (happens u (Settles members count holder)).known lower u.known.top place
  settles_between members count holder can place edit at lower first within stood x low under stood_x spared =
      let up = moving u ok can.0 in
      let same : (happens u (Settles members count holder)).known.list x ≡ u.known.list x = ap (λ b. cond b (take count (u.known.list u.known.view)) (u.known.list x)) (below x u.known.top under) in
      let was : u.known.stood x ≡ true = sym (ap (λ b. cond b true (u.known.stood x)) (below x u.known.top under)) ∙ stood_x in
      subst (λ xs. place < length xs) (sym same) (elim (cases_eq x u.known.view) [
        | inl here ↦ subst (λ t. place < length (u.known.list t)) (sym here) (slice_get_within (u.known.list u.known.view) place edit at)
        | inr other ↦ elim (cases_lt u.known.view x) [
          | inl over ↦ absurd (false_true (u.known.stood x) ((ok.known).fresh x over).3 was)
          | inr under_it ↦
              let known = asked_known u ok members can.1 (λ j y. (can.2 j y).0) in
              let stands : u.known.stood u.known.view ≡ true = (ok.known).now (sym (ok.entry).standing ∙ known) in
              first (omega arith) stands x low (omega arith) was (λ g. spared (record { e = g.e; within = g.within; prepare = g.prepare; kept = g.kept; how = g.how; accepted = (let h = g.accepted in omega arith); after = g.after; before = g.before }))
        ]
      ])

  -- What stands in the prepared list, and behind a rollback: each view that was settled since the prepare is given up.
  rolls_between : (members : List ℕ) → Can u (CommitsRollback members true) → (place : ℕ) (edit : Edit) → slice_get (u.known.list (u.known.prepared (u.known.current - 1))) place ≡ Some edit → (lower : ℕ) → StandsBetween u.known lower (u.known.prepared (u.known.current - 1)) place
      → StandsBetween (happens u (CommitsRollback members true)).known lower (start_of u.known.current) place
  rolls_between members can place edit at lower first within stood x low under stood_x spared =
      let c = committing u ok can.0 in
      let up = (ok.known).viewtop in
      let least = c.below in
      let e : ℕ = u.known.current - 1 in
      let p : ℕ = u.known.prepared e in
      let is : IsPrepared u.known e = prepared_then u ok can.0 (can.1 refl).0 in
      let early = (ok.known).before e is in
      let next : e + 1 ≡ u.known.current = c.same in
      let start : start_of (e + 1) ≡ start_of u.known.current = ap start_of next in
      let same : (happens u (CommitsRollback members true)).known.list x ≡ u.known.list x = ap (λ b. cond b (u.known.list p) (u.known.list x)) (below x (start_of u.known.current) under) in
      let was : u.known.stood x ≡ true = sym (ap (λ b. cond b true (u.known.stood x)) (below x (start_of u.known.current) under)) ∙ stood_x in
      subst (λ xs. place < length xs) (sym same) (elim (cases_eq x p) [
        | inl here ↦ subst (λ t. place < length (u.known.list t)) (sym here) (slice_get_within (u.known.list p) place edit at)
        | inr other ↦ elim (cases_lt p x) [
          | inl over ↦ absurd (spared (record { e = e; within = omega arith; prepare = is.1; kept = is.2; how = ap u.known.how next ∙ c.how; accepted = omega arith; after = over; before = omega arith }))
          | inr under_it ↦ first early ((ok.known).ready e is) x low (omega arith) was (λ g. spared (record { e = g.e; within = g.within; prepare = g.prepare; kept = g.kept; how = g.how; accepted = (let h = g.accepted in omega arith); after = g.after; before = g.before }))
        ]
      ])

  changes : (e : Event) → Can u e → Changes e u (happens u e)
  changes (Raises me stamp edits image) can = quiet _ _ (λ none. absurd (cc)) refl refl refl (λ t. refl) (λ t. none_more (nat_eq t stamp) (u.known.list t))
  changes (Rises me stamp edits) can = quiet _ _ (λ none. absurd (cc)) refl refl refl (λ t. refl) (λ t. none_more (nat_eq t stamp) (u.known.list t))
  changes (Promises me edits) can = quiet _ _ (λ none. absurd (cc)) refl refl refl (λ t. refl) (λ t. none_more (nat_eq t (u.members me).promise) (u.known.list t))
  changes (SendsCopy me stamp target edits image) can = quiet _ _ (λ none. absurd (cc)) refl refl refl (λ t. refl) (λ t. none_more (nat_eq t (u.members me).promise) (u.known.list t))
  changes (TakesLease me stamp members) can = quiet _ _ (λ none. absurd (cc)) refl refl refl (λ t. refl) (λ t. none_more (nat_eq t (u.members me).promise) (u.known.list t))
  changes (Numbers me lease edits edit) can =
      let v = ok.views me in
      let held = v.lease lease can.0 in
      let same = v.same lease can.0 in
      let within : (u.members me).promise ≤ u.known.view = (let a = held.within in let b = same.0 in omega arith) in
      inl (record {
        born = refl;
        view = refl;
        top = omega arith;
        stood = λ t. refl;
        above = λ t l. ap (λ b. cond b (u.known.list t ++ edit ∷ []) (u.known.list t)) (apart t (u.members me).promise (omega arith));
        master = λ none. absurd (cc);
      })
  changes (Forwards me lease to place edit) can = quiet _ _ (λ none. absurd (cc)) refl refl refl (λ t. refl) (λ t. none_more (nat_eq t (u.members me).promise) (u.known.list t))
  changes (Applies me edits edit) can = quiet _ _ (λ none. absurd (cc)) refl refl refl (λ t. refl) (λ t. none_more (nat_eq t (u.members me).promise) (u.known.list t))
  changes (Acknowledges me edits) can = quiet _ _ (λ none. absurd (cc)) refl refl refl (λ t. refl) (λ t. none_more (nat_eq t (u.members me).promise) (u.known.list t))
  changes (Hears me lease from count) can = quiet _ _ (λ none. absurd (cc)) refl refl refl (λ t. refl) (λ t. none_more (nat_eq t (u.members me).promise) (u.known.list t))
  changes (Closes me lease place) can = quiet _ _ (λ none. absurd (cc)) refl refl refl (λ t. refl) (λ t. none_more (nat_eq t (u.members me).promise) (u.known.list t))
  changes (Answers me lease place edit) can = quiet _ _ (λ none. absurd (cc)) refl refl refl (λ t. refl) (λ t. none_more (nat_eq t (u.members me).promise) (u.known.list t))
  changes (Spends me) can = quiet _ _ (λ none. absurd (cc)) refl refl refl (λ t. refl) (λ t. none_more (nat_eq t (u.members me).promise) (u.known.list t))
  changes (Drops me) can = quiet _ _ (λ none. absurd (cc)) refl refl refl (λ t. refl) (λ t. none_more (nat_eq t (u.members me).promise) (u.known.list t))
  changes (Loses me) can = quiet _ _ (λ none. absurd (cc)) refl refl refl (λ t. refl) (λ t. none_more (nat_eq t (u.members me).promise) (u.known.list t))
  changes (Damages me) can = quiet _ _ (λ none. absurd (cc)) refl refl refl (λ t. refl) (λ t. none_more (nat_eq t (u.members me).promise) (u.known.list t))
  changes (Learns me end fails) can = quiet _ _ (λ none. absurd (cc)) refl refl refl (λ t. refl) (λ t. none_more (nat_eq t (learned (u.members me) ((u.members me).epoch + 1) end fails).promise) (u.known.list t))
  changes (Names me edits) can = quiet _ _ (λ none. absurd (cc)) refl refl refl (λ t. refl) (λ t. none_more (nat_eq t (u.members me).promise) (u.known.list t))
  changes (Reports me) can = quiet _ _ (λ none. absurd (cc)) refl refl refl (λ t. refl) (λ t. none_more (nat_eq t (u.members me).promise) (u.known.list t))
  changes (Proposes stamp asked) can = calm _ _ refl refl ((happens_world u ok (Proposes stamp asked) can).grows.top) (λ t. refl) (λ t. refl)
  changes (AsksFirst to false) can = calm _ _ refl refl (omega arith) (λ t. refl) (λ t. refl)
  changes (AsksFirst to true) can = calm _ _ refl refl (omega arith) (λ t. refl) (λ t. refl)
  changes (Asks to) can = calm _ _ refl refl (omega arith) (λ t. refl) (λ t. refl)
  changes (AsksForCopy source target with_image) can = calm _ _ refl refl (omega arith) (λ t. refl) (λ t. refl)
  changes GivesUp can = calm _ _ refl refl (omega arith) (λ t. refl) (λ t. refl)
  changes (Holds server) can = calm _ _ refl refl (omega arith) (λ t. refl) (λ t. refl)
  changes (Grants to) can = calm _ _ refl refl (omega arith) (λ t. refl) (λ t. refl)
  changes Retires can = calm _ _ refl refl (omega arith) (λ t. refl) (λ t. refl)
  changes (SendsDrop to promise) can = calm _ _ refl refl (omega arith) (λ t. refl) (λ t. refl)
  changes (Prepares whole) can = calm _ _ refl refl (omega arith) (λ t. refl) (λ t. refl)
  changes Finalizes can = calm _ _ refl refl (omega arith) (λ t. refl) (λ t. refl)
  changes BeginsRollback can = calm _ _ refl refl (omega arith) (λ t. refl) (λ t. refl)
  changes (TellsEpoch to epoch) can = calm _ _ refl refl (omega arith) (λ t. refl) (λ t. refl)
  changes (Settles members count holder) can = inr (record {
    stamp = u.known.top;
    edits = take count (u.known.list u.known.view);
    stands = true;
    above = moving u ok can.0;
    later = omega arith;
    born = refl;
    view = refl;
    top = refl;
    stood = λ t. refl;
    list = λ t. refl;
    from = λ place edit at. (let l = take_within (u.known.list u.known.view) count place edit at in (u.known.view, omega arith, take_fewer (place + 1) count (u.known.list u.known.view) (omega arith), settles_prepared members count holder can place edit (take_from (u.known.list u.known.view) count place edit at), settles_between members count holder can place edit (take_from (u.known.list u.known.view) count place edit at)));
  })
  changes (CommitsRollback members true) can =
      let c = committing u ok can.0 in
      let up = (ok.known).viewtop in
      let low = c.below in inr (record {
        stamp = start_of u.known.current;
        edits = u.known.list (u.known.prepared (u.known.current - 1));
        stands = true;
        above = omega arith;
        later = omega arith;
        born = refl;
        view = refl;
        top = refl;
        stood = λ t. refl;
        list = λ t. refl;
        from = λ place edit at. (u.known.prepared (u.known.current - 1), (ok.known).before (u.known.current - 1) (prepared_then u ok can.0 (can.1 refl).0), refl, λ lower first within stood now how kept over under. absurd (two_ends (u.known.how u.known.current) (ap u.known.how (sym (epoch_of-start u.known.current)) ∙ how) c.how), rolls_between members can place edit at);
      })
  changes (CommitsRollback members false) can =
      let c = committing u ok can.0 in
      let up = (ok.known).viewtop in
      let low = c.below in inr (record {
        stamp = start_of u.known.current;
        edits = [];
        stands = false;
        above = omega arith;
        later = omega arith;
        born = refl;
        view = refl;
        top = refl;
        stood = λ t. refl;
        list = λ t. refl;
        from = λ place edit at. absurd (cc);
      })

-- ---- lists of stamps behind the settled one

event_above : (u : ChunkWorld) (e : Event) → WorldOk u → Can u e → (t : ℕ) → (happens u e).known.view < t → (u.known.view < t) × ((happens u e).known.list t ≡ u.known.list t)
event_above u e ok can t l = by_changes (changes u ok e can)
  where
    by_changes : Changes e u (happens u e) → (u.known.view < t) × ((happens u e).known.list t ≡ u.known.list t)
    by_changes (inl s) = (let same = s.view in let first : u.known.view < t = omega arith in (first, s.above t first))
    by_changes (inr s) =
        let up = s.above in
        let same = s.view in
        (omega arith, s.list t ∙ ap (λ b. cond b s.edits (u.known.list t)) (apart t s.stamp (omega arith)))

list_above : (w v : ChunkWorld) → Leads w v → WorldOk w → (t : ℕ) → v.known.view < t → v.known.list t ≡ w.known.list t
list_above w v Rests ok t l = refl
list_above w v (Goes u e before can) ok t l = let x = event_above u e (leads_world w u before ok) can t l in x.1 ∙ list_above w u before ok t x.0

-- A list that grows where the master does nothing is of a view that was settled, behind the birth: one in which a server may number.
module _ (w v : ChunkWorld) (reached : IsReached w) (leads : Leads w v) (entry : v.entry ≡ w.entry) (t : ℕ) (never : v.known.list t ≡ w.known.list t → ⊥) where
  grown_ok : WorldOk w
  grown_ok = reached_world w reached

  grown_then : WorldOk v
  grown_then = leads_world w v leads grown_ok

  grown_later : Later w.known v.known
  grown_later = leads_later w v leads grown_ok

  grown_view : v.known.view ≡ w.known.view
  grown_view = sym (grown_then.entry).stamp ∙ ap (λ (n : Entry). n.view.stamp) entry ∙ (grown_ok.entry).stamp

  pub grown_within : t ≤ w.known.view
  grown_within = ⊎_elim (λ (above : v.known.view < t). absurd (never (list_above w v leads grown_ok t above))) (λ low. (let s = grown_view in omega arith)) (cases_lt v.known.view t)

  grown_held : (o : Option ℕ) → w.known.holder t ≡ o → (j : ℕ) × (w.known.members t j ≡ true)
  grown_held None none = absurd (never (grown_later.fixed t grown_within none).1)
  grown_held (Some j) held = (j, (grown_ok.known).held t j grown_within held)

  pub grown_stood : w.known.stood t ≡ true
  grown_stood = (let m = grown_held (w.known.holder t) refl in (grown_ok.known).peopled t m.0 grown_within m.1)

  pub grown_late : w.known.born < t
  grown_late =
      let m = grown_held (w.known.holder t) refl in
      let low = (grown_ok.known).early t grown_stood in
      ⊎_elim (λ (same : t ≡ w.known.born). absurd (false_true (w.known.members w.known.born m.0) ((grown_ok.known).first m.0) (subst (λ x. w.known.members x m.0 ≡ true) same m.1))) (λ differs. omega arith) (cases_eq t w.known.born)

-- ---- where an edit was numbered

-- what stood at the prepare of an upgrade stands so where more is known, and no upgrade has begun but behind the settled view
prepared_on : (a b : Known) → Later a b → ((e : ℕ) → IsPrepared a e → a.prepared e ≤ a.view) → ((e : ℕ) → a.current < e → IsPrepared b e → a.view ≤ b.prepared e) → (lower t place : ℕ) → t ≤ a.view → StandsPrepared a lower t place → StandsPrepared b lower t place
prepared_on a b later before anew lower t place low first within stood now how kept over under = elim (cases_lt a.current (epoch_of t)) [
  | inl above ↦ absurd (let p = anew (epoch_of t) above (now, how, kept) in omega arith)
  | inr past ↦
      let same = later.prepared (epoch_of t) past in
      let is : IsPrepared a (epoch_of t) = (past, sym (later.how (epoch_of t) past) ∙ how, sym (later.kept (epoch_of t) past) ∙ kept) in
      let was = first low (sym (later.stood t low) ∙ stood) is.0 is.1 is.2 (omega arith) (omega arith) in
      let more = later.list (a.prepared (epoch_of t)) (before (epoch_of t) is) in
      let long : length (b.list (a.prepared (epoch_of t))) ≡ length (a.list (a.prepared (epoch_of t)) ++ more.0) = ap length more.1 in
      subst (λ p. place < length (b.list p)) (sym same) (omega (arith, length-append (a.list (a.prepared (epoch_of t))) more.0))
]

given_up_on : (a b : Known) → Later a b → (x t : ℕ) → WasGivenUp a x t → WasGivenUp b x t
given_up_on a b later x t g =
    let within = g.within in
    let current = later.current in
    let prepared = later.prepared g.e (omega arith) in
    let after = g.after in
    record { e = g.e; within = omega arith; prepare = later.how g.e (omega arith) ∙ g.prepare; kept = later.kept g.e (omega arith) ∙ g.kept; how = later.how (g.e + 1) g.within ∙ g.how; accepted = g.accepted; after = omega arith; before = g.before }

between_on : (a b : Known) → Later a b → (lower t place : ℕ) → t ≤ a.view → StandsBetween a lower t place → StandsBetween b lower t place
between_on a b later lower t place low first within stood x least less stood_x spared =
    let was = first low (sym (later.stood t low) ∙ stood) x least less (sym (later.stood x (omega arith)) ∙ stood_x) (λ g. spared (given_up_on a b later x t g)) in
    let more = later.list x (omega arith) in
    let long : length (b.list x) ≡ length (a.list x ++ more.0) = ap length more.1 in
    omega (arith, length-append (a.list x) more.0)

module _ (under : ReqId → Option Stamp) where
  pub born_numbered : (b : Birth) → BornNumbered under b
  born_numbered b t place edit at = inl at

  -- the lists of settled views have more, and a list has the same first edits as one had
  module _ (a b : Known) (born : b.born ≡ a.born) (view : a.view ≤ b.view) (stood : (t : ℕ) → t ≤ a.view → b.stood t ≡ a.stood t) (grown : (t : ℕ) → t ≤ a.view → (more : List Edit) × (b.list t ≡ a.list t ++ more)) where
    moved : (t t2 place : ℕ) (edit : Edit) → (n : IsNumberedAt under a t place edit) → StandsPrepared b n.stamp t2 place → StandsBetween b n.stamp t2 place → t ≤ t2 → slice_get (a.list t) place ≡ Some edit → take (place + 1) (b.list t2) ≡ take (place + 1) (a.list t) → IsNumberedAt under b t2 place edit
    moved t t2 place edit n prepared between more at first =
        let g = grown n.stamp n.settled in
        let there : slice_get (a.list n.stamp) place ≡ Some edit = take_from (a.list n.stamp) (place + 1) place edit (subst (λ xs. slice_get xs place ≡ Some edit) (sym n.same) (take_at (a.list t) (place + 1) place edit (omega arith) at)) in
        let within : place < length (a.list n.stamp) = slice_get_within (a.list n.stamp) place edit there in record {
          stamp = n.stamp;
          within = (let w = n.within in omega arith);
          settled = (let s = n.settled in omega arith);
          stood = stood n.stamp n.settled ∙ n.stood;
          late = (let l = n.late in omega arith);
          asked = n.asked;
          same = ap (take (place + 1)) g.1 ∙ take-append-le (place + 1) (a.list n.stamp) g.0 (omega arith) ∙ n.same ∙ sym first;
          prepared = prepared;
          between = between;
        }

  -- ---- the master

  module _ (origin : List Edit) (e : Event) (u v : ChunkWorld) (ok : WorldOk u) (later : Later u.known v.known) (anew : (e : ℕ) → u.known.current < e → IsPrepared v.known e → u.known.view ≤ v.known.prepared e) (numbered : AreNumbered under origin u.known) where
    still_numbered : actor e ≡ None → Still e u v → AreNumbered under origin v.known
    still_numbered none s t place edit at =
        let same = s.master none t in
        let was : slice_get (u.known.list t) place ≡ Some edit = subst (λ xs. slice_get xs place ≡ Some edit) same at in
        ⊎_elim (λ first. inl first)
        (λ (n : IsNumberedAt under u.known t place edit). inr (moved u.known v.known s.born (let x = s.view in omega arith) (λ x l. s.stood x) (λ x l. ([], s.master none x ∙ sym (append-nil (u.known.list x)))) t t place edit n
        (λ within. prepared_on u.known v.known later (ok.known).before anew n.stamp t place (let x = s.view in omega arith) n.prepared within) (λ within. between_on u.known v.known later n.stamp t place (let x = s.view in omega arith) n.between within) (omega arith) was (ap (take (place + 1)) same)))
        (numbered t place edit was)

    settled_numbered : Settled u v → AreNumbered under origin v.known
    settled_numbered s t place edit at = by_stamp (nat_eq t s.stamp) refl
      where
        old_list : (x : ℕ) → x ≤ u.known.view → v.known.list x ≡ u.known.list x
        old_list x l = (let up = s.above in s.list x ∙ ap (λ b. cond b s.edits (u.known.list x)) (below x s.stamp (omega arith)))

        old_stood : (x : ℕ) → x ≤ u.known.view → v.known.stood x ≡ u.known.stood x
        old_stood x l = (let up = s.above in s.stood x ∙ ap (λ b. cond b s.stands (u.known.stood x)) (below x s.stamp (omega arith)))

        from_old : (t1 : ℕ) → t1 ≤ t → slice_get (u.known.list t1) place ≡ Some edit → take (place + 1) (v.known.list t) ≡ take (place + 1) (u.known.list t1) → ((lower : ℕ) → StandsPrepared u.known lower t1 place → StandsPrepared v.known lower t place) → ((lower : ℕ) → StandsBetween u.known lower t1 place → StandsBetween v.known lower t place) → (slice_get origin place ≡ Some edit) ⊎ IsNumberedAt under v.known t place edit
        from_old t1 l was first prepared between =
            ⊎_elim (λ born. inl born)
            (λ (n : IsNumberedAt under u.known t1 place edit). inr (moved u.known v.known s.born (let x = s.view in let y = s.above in omega arith) old_stood (λ x l. ([], old_list x l ∙ sym (append-nil (u.known.list x)))) t1 t place edit n (prepared n.stamp n.prepared) (between n.stamp n.between) l was first))
            (numbered t1 place edit was)

        by_stamp : (b : Bool) → nat_eq t s.stamp ≡ b → (slice_get origin place ≡ Some edit) ⊎ IsNumberedAt under v.known t place edit
        by_stamp true is =
            let new : v.known.list t ≡ s.edits = s.list t ∙ ap (λ b. cond b s.edits (u.known.list t)) is in
            let f = s.from place edit (subst (λ xs. slice_get xs place ≡ Some edit) new at) in
            let here : t ≡ s.stamp = eqb-true t s.stamp is in
            let first : take (place + 1) (v.known.list t) ≡ take (place + 1) (u.known.list f.0) = ap (take (place + 1)) new ∙ f.2 in
            let was : slice_get (u.known.list f.0) place ≡ Some edit = take_from (u.known.list f.0) (place + 1) place edit (subst (λ xs. slice_get xs place ≡ Some edit) first (take_at (v.known.list t) (place + 1) place edit (omega arith) at)) in
            let up = s.above in
            let low = f.1 in
            from_old f.0 (omega arith) was first (λ lower p. subst (λ n. StandsPrepared v.known lower n place) (sym here) (f.3 lower p)) (λ lower p. subst (λ n. StandsBetween v.known lower n place) (sym here) (f.4 lower p))
        by_stamp false is =
            let same : v.known.list t ≡ u.known.list t = s.list t ∙ ap (λ b. cond b s.edits (u.known.list t)) is in
            from_old t (omega arith) (subst (λ xs. slice_get xs place ≡ Some edit) same at) (ap (take (place + 1)) same) (λ lower p within stood. elim (cases_lt u.known.view t) [
              | inl above ↦ absurd (false_true (u.known.stood t) ((ok.known).fresh t above).3 (sym (ap (λ b. cond b s.stands (u.known.stood t)) is) ∙ sym (s.stood t) ∙ stood))
              | inr low ↦ prepared_on u.known v.known later (ok.known).before anew lower t place low p within stood
            ]) (λ lower p within stood. elim (cases_lt u.known.view t) [
              | inl above ↦ absurd (false_true (u.known.stood t) ((ok.known).fresh t above).3 (sym (ap (λ b. cond b s.stands (u.known.stood t)) is) ∙ sym (s.stood t) ∙ stood))
              | inr low ↦ between_on u.known v.known later lower t place low p within stood
            ])

  masters_number : (origin : List Edit) (w v : ChunkWorld) → WorldOk w → (leads : Leads w v) → AreOfMaster w v leads → AreNumbered under origin w.known → AreNumbered under origin v.known
  masters_number origin w v ok Rests of numbered = numbered
  masters_number origin w v ok (Goes u e before can) of numbered =
      let first = masters_number origin w u ok before of.0 numbered in
      let now = leads_world w u before ok in
      let grows = (happens_world u now e can).grows in
      let anew : (n : ℕ) → u.known.current < n → IsPrepared (happens u e).known n → u.known.view ≤ (happens u e).known.prepared n = λ n over is. (let p = (grows.preparing n over is).0 in omega arith) in
      let later = later_of u.known (happens u e).known grows in
      ⊎_elim (λ s. still_numbered origin e u (happens u e) now later anew first of.1 s) (λ s. settled_numbered origin e u (happens u e) now later anew first s) (changes u now e can)

  pub masters_numbered : (origin : List Edit) (w v : ChunkWorld) → MastersNumber under origin w v
  masters_numbered origin w v reached leads of numbered = masters_number origin w v (reached_world w reached) leads of numbered

  -- ---- a server

  pub servers_numbered : (origin : List Edit) (w v : ChunkWorld) → ServersNumber under origin w v
  servers_numbered origin w v reached leads entry asked numbered t place edit at = by_list (asked t)
    where
      ok : WorldOk w
      ok = reached_world w reached

      ok_then : WorldOk v
      ok_then = leads_world w v leads ok

      later : Later w.known v.known
      later = leads_later w v leads ok

      same_view : v.known.view ≡ w.known.view
      same_view = sym (ok_then.entry).stamp ∙ ap (λ (n : Entry). n.view.stamp) entry ∙ (ok.entry).stamp

      same_current : v.known.current ≡ w.known.current
      same_current = sym (ok_then.entry).epoch ∙ ap (λ (n : Entry). n.epoch) entry ∙ (ok.entry).epoch

      from_old : slice_get (w.known.list t) place ≡ Some edit → take (place + 1) (v.known.list t) ≡ take (place + 1) (w.known.list t) → (slice_get origin place ≡ Some edit) ⊎ IsNumberedAt under v.known t place edit
      from_old was first =
          ⊎_elim (λ born. inl born)
          (λ (n : IsNumberedAt under w.known t place edit). inr (moved w.known v.known later.born later.view later.stood later.list t t place edit n
          (λ within. prepared_on w.known v.known later (ok.known).before (λ e over is. absurd (let now = is.0 in let same = same_current in omega arith)) n.stamp t place (let s = same_view in omega arith) n.prepared within) (λ within. between_on w.known v.known later n.stamp t place (let s = same_view in omega arith) n.between within) (omega arith) was first))
          (numbered t place edit was)

      -- a list that grows is of a view that was settled, in which a server may number
      grows : (new : Edit) → v.known.list t ≡ w.known.list t ++ new ∷ [] → v.known.list t ≡ w.known.list t → ⊥
      grows new is same = (let n : length (v.known.list t) ≡ length (w.known.list t) = ap length same in let m : length (v.known.list t) ≡ length (w.known.list t ++ new ∷ []) = ap length is in omega (arith, length-append (w.known.list t) (new ∷ [])))

      by_list : NumbersAsked under t (w.known.list t) (v.known.list t) → (slice_get origin place ≡ Some edit) ⊎ IsNumberedAt under v.known t place edit
      by_list (inl same) = from_old (subst (λ xs. slice_get xs place ≡ Some edit) same at) (ap (take (place + 1)) same)
      by_list (inr (new, is, was_asked)) = ⊎_elim
          (λ (old : slice_get (w.known.list t) place ≡ Some edit).
          let l = slice_get_within (w.known.list t) place edit old in
          from_old old (ap (take (place + 1)) is ∙ take-append-le (place + 1) (w.known.list t) (new ∷ []) (omega arith)))
          (λ last. inr (record {
            stamp = t;
            within = omega arith;
            settled = (let l = grown_within w v reached leads entry t (grows new is) in let s = same_view in omega arith);
            stood = later.stood t (grown_within w v reached leads entry t (grows new is)) ∙ grown_stood w v reached leads entry t (grows new is);
            late = (let l = grown_late w v reached leads entry t (grows new is) in let s = later.born in omega arith);
            asked = subst (λ (e : Edit). under e.req ≡ Some (stamp_at t)) last.1 was_asked;
            same = refl;
            prepared = λ within stood now how kept over under. absurd (omega arith);
            between = λ within stood x low under stood_x spared. absurd (omega arith);
          }))
          (at_push (w.known.list t) new place edit (subst (λ xs. slice_get xs place ≡ Some edit) is at))

-- ---- a bound below all stamps of views

event_behind : (u : ChunkWorld) (e : Event) (bound : ℕ) → WorldOk u → Can u e → IsBehind bound u.known → IsBehind bound (happens u e).known
event_behind u e bound ok can first = by_changes (changes u ok e can)
  where
    by_stamp : (s : Settled u (happens u e)) (t : ℕ) → (happens u e).known.born < t → (happens u e).known.stood t ≡ true → (b : Bool) → nat_eq t s.stamp ≡ b → bound ≤ t
    by_stamp s t late is true here = (let x : t ≡ s.stamp = eqb-true t s.stamp here in let a = first.top in let c = s.later in omega arith)
    by_stamp s t late is false other = first.stood t (let x = s.born in omega arith) (sym (ap (λ b. cond b s.stands (u.known.stood t)) other) ∙ sym (s.stood t) ∙ is)

    by_changes : Changes e u (happens u e) → IsBehind bound (happens u e).known
    by_changes (inl s) = record {
      stood = λ t late is. first.stood t (let x = s.born in omega arith) (sym (s.stood t) ∙ is);
      top = (let a = first.top in let b = s.top in omega arith);
    }
    by_changes (inr s) = record {
      stood = λ t late is. by_stamp s t late is (nat_eq t s.stamp) refl;
      top = (let a = first.top in let b = s.top in let c = s.later in omega arith);
    }

behind : (w v : ChunkWorld) (bound : ℕ) → WorldOk w → Leads w v → IsBehind bound w.known → IsBehind bound v.known
behind w v bound ok Rests b = b
behind w v bound ok (Goes u e before can) b = event_behind u e bound (leads_world w u before ok) can (behind w u bound ok before b)

pub stays_behind : (w v : ChunkWorld) → StaysBehind w v
stays_behind w v bound reached leads b = behind w v bound (reached_world w reached) leads b
