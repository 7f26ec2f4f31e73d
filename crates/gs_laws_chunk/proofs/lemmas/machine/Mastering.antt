-- A run of events of the master alone settles one view at most.
use Rattle.std.proofs.Common.{◌≡◌, ◌≢◌, ℕ, ◌+◌, ◌-◌, ◌<◌, ◌≤◌, ◌⊎◌, inl, inr, List, [], ◌∷◌, Option, None, Bool, true, false, cond, ◌||◌, refl, sym, ap, ◌∙◌, subst, arith}
use Rattle.std.specs.Prelude.{nat_eq, is_some, take, Contains}
use Rattle.std.proofs.lemmas.Bool.{false≢true, true≢false}
use Rattle.std.proofs.lemmas.Bool.Decides.{nat_tests}
use Rattle.std.proofs.lemmas.List.Elements.{Contains-append_cases, Contains-push_cases}
use Rattle.gs_laws_chunk.specs.machine.Stamps.{start_of}
use Rattle.gs_laws_chunk.specs.machine.Machine.{Message, Create, Advance, Promised, Grant, CopyOut, CopyIn, Drop, Epoch, Sent, ChunkWorld, WasTold}
use Rattle.gs_laws_chunk.specs.machine.Events.{Event, Proposes, AsksFirst, Asks, AsksForCopy, GivesUp, Holds, Settles, Grants, Retires, SendsDrop, Prepares, Finalizes, BeginsRollback, CommitsRollback, TellsEpoch, is_of, Can, happens, one, sends, Leads, Rests, Goes}
use Rattle.gs_laws_chunk.specs.machine.Acting.{actor}
use Rattle.gs_laws_chunk.specs.machine.Mastering.{AreOfMaster, IsCommittedSince, KeepsLists, MastersSettleOnce, RestoresList, SettlesList, SettlesOnce}
use Rattle.gs_laws_chunk.proofs.lemmas.machine.Committed.{stays_calm}
use Rattle.gs_laws_chunk.proofs.lemmas.machine.Entries.{Rolling}
use Rattle.gs_laws_chunk.proofs.lemmas.machine.Facts.{reached_world}
use Rattle.gs_laws_chunk.proofs.lemmas.machine.Known.{IsPrepared, Later}
use Rattle.gs_laws_chunk.proofs.lemmas.machine.Worlds.{Moved, WorldOk, happens_world, leads_later, said}

-- ---- nobody promises

abbrev is_promised : Message → Bool
is_promised (Promised stamp count carried) = true
is_promised m = false

module _ (u : ChunkWorld) (server : ℕ) (m : Message) (other : is_promised m ≡ false) where
  told_before : (j t n : ℕ) (c : Bool) → WasTold (sends u server m) j (Promised t n c) → WasTold u j (Promised t n c)
  told_before j t n c told = by_place (Contains-append_cases u.sent (one server m) (record { server = j; body = Promised t n c }) told)
    where
      X : Type 0
      X = WasTold u j (Promised t n c)

      mine : Sent
      mine = record { server = server; body = m }

      theirs : Sent
      theirs = record { server = j; body = Promised t n c }

      by_one : Contains {X = Sent} [] (record { server = j; body = Promised t n c }) ⊎ (mine ≡ theirs) → X
      by_one (inl none) = absurd (let l : none.0 < 0 = none.1 in omega arith)
      by_one (inr is) = absurd (false≢true (sym other ∙ ap (λ (s : Sent). is_promised s.body) is))

      by_place : WasTold u j (Promised t n c) ⊎ Contains (one server m) (record { server = j; body = Promised t n c }) → X
      by_place (inl old) = old
      by_place (inr new) = by_one (Contains-push_cases [] (record { server = server; body = m }) (record { server = j; body = Promised t n c }) new)

-- what is promised behind an event of the master was promised before it
abbrev ToldBefore : ChunkWorld → ChunkWorld → Type 0
ToldBefore w v = (j t n : ℕ) (c : Bool) → WasTold v j (Promised t n c) → WasTold w j (Promised t n c)

told_so : (u : ChunkWorld) (e : Event) → actor e ≡ None → ToldBefore u (happens u e)
told_so u (Proposes stamp asked) none = λ j t n c told. told
told_so u (AsksFirst to false) none = told_before u to (Create (u.entry.top)) refl
told_so u (AsksFirst to true) none = told_before u to (CopyIn (u.entry.top) (u.known.list u.entry.view.stamp) None) refl
told_so u (Asks to) none = told_before u to (Advance (u.entry.top)) refl
told_so u (AsksForCopy source target with_image) none = told_before u source (CopyOut (u.entry.top) target with_image) refl
told_so u GivesUp none = λ j t n c told. told
told_so u (Holds server) none = λ j t n c told. told
told_so u (Settles members count holder) none = λ j t n c told. told
told_so u (Grants to) none = told_before u to (Grant (u.entry.view.stamp) (u.entry.view.members)) refl
told_so u Retires none = λ j t n c told. told
told_so u (SendsDrop to promise) none = told_before u to (Drop (u.entry.epoch) promise) refl
told_so u (Prepares whole) none = λ j t n c told. told
told_so u Finalizes none = λ j t n c told. told
told_so u BeginsRollback none = λ j t n c told. told
told_so u (CommitsRollback members true) none = λ j t n c told. told
told_so u (CommitsRollback members false) none = λ j t n c told. told
told_so u (TellsEpoch to epoch) none = told_before u to (Epoch epoch (u.entry.how epoch)) refl
told_so u e none = absurd (false≢true (sym (ap is_some none)))

-- ---- one view

itself : (n : ℕ) → nat_eq n n ≡ true
itself n = grind (arith, nat_tests)

-- nothing is settled at the last event
record Still (u v : ChunkWorld) : Type 0 where
  view : v.known.view ≡ u.known.view
  list : v.known.list ≡ u.known.list
  stood : v.known.stood ≡ u.known.stood
  base : v.known.base ≡ u.known.base
  current : u.known.current ≤ v.known.current
  over : v.known.current ≡ u.known.current → u.entry.is_rolling ≡ false → v.entry.is_rolling ≡ false

module _ (w u v : ChunkWorld) (ok : WorldOk u) (m : Moved u v) (s : Still u v) where
  kept_so : KeepsLists w u → KeepsLists w v
  kept_so k = record { view = s.view ∙ k.view; list = s.list ∙ k.list; stood = s.stood ∙ k.stood }

  settled_so : SettlesList w u → SettlesList w v
  settled_so k = record {
    moving = k.moving;
    fresh = k.fresh;
    view = s.view ∙ k.view;
    list = λ t. ap (λ f. f t) s.list ∙ k.list t ∙ ap (λ f. cond (nat_eq t w.known.top) (take (f w.known.top) (w.known.list w.known.view)) (w.known.list t)) (sym s.base);
    stood = λ t. ap (λ f. f t) s.stood ∙ k.stood t;
  }

  committed_so : IsCommittedSince w u → IsCommittedSince w v
  committed_so k = record {
    e = k.e;
    since = k.since;
    within = (let a = k.within in omega arith);
    how = ((m.ok).entry).how k.e ∙ (m.grows).how k.e (let a = k.within in let b = (ok.entry).epoch in omega arith) ∙ sym ((ok.entry).how k.e) ∙ k.how;
    was = k.was;
    done = λ at. s.over (let a = k.within in let b = (ok.entry).epoch in let c = ((m.ok).entry).epoch in omega arith) (k.done (let a = k.within in omega arith));
  }
    where
      rises : u.entry.epoch ≤ v.entry.epoch
      rises = (let a = (ok.entry).epoch in let b = ((m.ok).entry).epoch in let c = s.current in omega arith)

  restored_so : w.known.current ≤ u.known.current → RestoresList w u → RestoresList w v
  restored_so later k = record {
    later = subst (λ n. w.known.top < n) (sym s.view) k.later;
    committed = committed_so k.committed;
    over = λ same. s.over (same ∙ sym (within same)) (k.over (within same));
    exact = λ same. (let old = k.exact (within same) in record {
      view = s.view ∙ old.view;
      others = λ t other new. (ap (λ f. f t) s.list ∙ (old.others t other new).0, ap (λ f. f t) s.stood ∙ (old.others t other new).1);
      here = here_so old.here;
    });
  }
    where
      within : v.known.current ≡ w.known.current → u.known.current ≡ w.known.current
      within same = (let a = s.current in omega arith)

      start : ℕ
      start = start_of w.known.current

      here_so : ((u.known.list start ≡ w.known.list (w.known.prepared (w.known.current - 1))) × (u.known.stood start ≡ true) × (w.entry.was_known ≡ true)) ⊎ ((u.known.list start ≡ []) × (u.known.stood start ≡ false))
          → ((v.known.list start ≡ w.known.list (w.known.prepared (w.known.current - 1))) × (v.known.stood start ≡ true) × (w.entry.was_known ≡ true)) ⊎ ((v.known.list start ≡ []) × (v.known.stood start ≡ false))
      here_so (inl both) = inl (ap (λ f. f start) s.list ∙ both.0, ap (λ f. f start) s.stood ∙ both.1, both.2)
      here_so (inr both) = inr (ap (λ f. f start) s.list ∙ both.0, ap (λ f. f start) s.stood ∙ both.1)

  still_so : w.known.current ≤ u.known.current → SettlesOnce w u → SettlesOnce w v
  still_so later (inl k) = inl (kept_so k)
  still_so later (inr (inl k)) = inr (inl (settled_so k))
  still_so later (inr (inr k)) = inr (inr (restored_so later k))

-- a run as it is shown so far
record Run (w u : ChunkWorld) : Type 0 where
  ok : WorldOk u
  later : Later w.known u.known
  told : ToldBefore w u
  calm : w.entry.is_rolling ≡ false → u.entry.epoch ≡ w.entry.epoch → u.entry.is_rolling ≡ false
  once : SettlesOnce w u

module _ (w u : ChunkWorld) (ok : WorldOk w) (r : Run w u) where
  -- a view is settled
  settles_so : (members : List ℕ) (count : ℕ) (holder : Option ℕ) → Can u (Settles members count holder) → SettlesOnce w (happens u (Settles members count holder))
  settles_so members count holder can = by_once r.once
    where
      some_one : (ms : List ℕ) → ms ≢ [] → (j : ℕ) × (is_of ms j ≡ true)
      some_one [] none = absurd (none refl)
      some_one (x ∷ ms) none = (x, ap (λ b. b || is_of ms x) (itself x))

      who : (j : ℕ) × (is_of members j ≡ true)
      who = some_one members can.1

      promised : (c : Bool) × WasTold u who.0 (Promised (u.entry.top) count c)
      promised = (can.2 who.0 who.1).1

      low : u.entry.top ≤ w.known.top
      low = (said w ok who.0 (Promised (u.entry.top) count promised.0) (r.told who.0 u.entry.top count promised.0 promised.1)).1

      same : u.known.top ≡ w.known.top
      same = (let a = (r.ok.entry).top in let b = r.later.top in let l = low in omega arith)

      moving : u.known.view < w.known.top
      moving = (let a = (r.ok.entry).top in let b = (r.ok.entry).stamp in let l = can.0 in let t = same in omega arith)

      by_once : SettlesOnce w u → SettlesOnce w (happens u (Settles members count holder))
      by_once (inl k) = inr (inl (record {
        moving = (let a = k.view in let l = moving in omega arith);
        fresh = ((ok.entry).stamped (let a = k.view in let l = moving in omega arith)).fresh;
        view = same;
        list = λ t. ap (λ n. cond (nat_eq t n) (take count (u.known.list u.known.view)) (u.known.list t)) same
            ∙ ap (λ n. cond (nat_eq t w.known.top) (take n (u.known.list u.known.view)) (u.known.list t)) (sym (based t))
            ∙ (λ i. cond (nat_eq t w.known.top) (take (after.known.base w.known.top) (k.list i (k.view i))) (k.list i t));
        stood = λ t. ap (λ n. cond (nat_eq t n) true (u.known.stood t)) same ∙ ap (λ f. cond (nat_eq t w.known.top) true (f t)) k.stood;
      }))
        where
          after : ChunkWorld
          after = happens u (Settles members count holder)

          based : (t : ℕ) → after.known.base w.known.top ≡ count
          based t = ap (λ b. cond b count (u.known.base w.known.top)) (ap (nat_eq w.known.top) same ∙ itself w.known.top)
      by_once (inr (inl k)) = absurd (let a = k.view in let l = moving in omega arith)
      by_once (inr (inr k)) = absurd (let a = k.later in let l = moving in omega arith)

  -- a rollback is committed
  commits_so : (members : List ℕ) (keeps : Bool) → Can u (CommitsRollback members keeps) → SettlesOnce w (happens u (CommitsRollback members keeps))
  commits_so members keeps can = by_keeps keeps refl
    where
      rolling : Rolling u.known
      rolling = (r.ok.entry).rolling can.0

      above : w.known.top < start_of u.known.current
      above = (let a = rolling.below in let b = r.later.top in subst (λ n. w.known.top < start_of n) (sym rolling.next) (omega arith))

      differs : (a b : ℕ) → a ≢ b → nat_eq a b ≡ false
      differs a b h = grind (arith, nat_tests)

      -- what was before the commit
      before_list : SettlesOnce w u → u.known.current ≡ w.known.current → (t : ℕ) → (t ≢ w.known.top) ⊎ (w.known.view ≡ w.known.top) → (u.known.list t ≡ w.known.list t) × (u.known.stood t ≡ w.known.stood t)
      before_list (inl k) at t other = (ap (λ f. f t) k.list, ap (λ f. f t) k.stood)
      before_list (inr (inl k)) at t (inr still) = absurd (let m = k.moving in omega arith)
      before_list (inr (inl k)) at t (inl other) = (k.list t ∙ ap (λ b. cond b (take (u.known.base w.known.top) (w.known.list w.known.view)) (w.known.list t)) (differs t w.known.top other), k.stood t ∙ ap (λ b. cond b true (w.known.stood t)) (differs t w.known.top other))
      before_list (inr (inr k)) at t other = absurd (true≢false (sym can.0 ∙ k.over at))

      -- the prepared list is as it was
      prepared_so : keeps ≡ true → u.known.current ≡ w.known.current → SettlesOnce w u → u.known.list (u.known.prepared (w.known.current - 1)) ≡ w.known.list (w.known.prepared (w.known.current - 1))
      prepared_so keep at once = by_once once
        where
          e : ℕ
          e = rolling.e

          now : w.known.current ≡ e + 1
          now = sym at ∙ rolling.next

          is : e ≡ w.known.current - 1
          is = (let n = now in omega arith)

          within : e ≤ w.known.current
          within = (let n = now in omega arith)

          prepared : IsPrepared w.known e
          prepared = (within, sym (r.later.how e within) ∙ rolling.was, sym (r.later.kept e within) ∙ sym ((r.ok.entry).was_known e (inr (sym rolling.next, can.0))) ∙ (can.1 keep).0)

          low : w.known.prepared e ≤ w.known.view
          low = (ok.known).before e prepared

          same : u.known.prepared (w.known.current - 1) ≡ w.known.prepared (w.known.current - 1)
          same = r.later.prepared (w.known.current - 1) (let n = now in omega arith)

          by_once : SettlesOnce w u → u.known.list (u.known.prepared (w.known.current - 1)) ≡ w.known.list (w.known.prepared (w.known.current - 1))
          by_once (inl k) = (λ i. k.list i (same i))
          by_once (inr (inl k)) =
              ap u.known.list same ∙ k.list (w.known.prepared (w.known.current - 1))
              ∙ ap (λ b. cond b (take (u.known.base w.known.top) (w.known.list w.known.view)) (w.known.list (w.known.prepared (w.known.current - 1))))
              (differs (w.known.prepared (w.known.current - 1)) w.known.top (λ x. let l = subst (λ n. w.known.prepared n ≤ w.known.view) is low in let m = k.moving in omega arith))
          by_once (inr (inr k)) = absurd (true≢false (sym can.0 ∙ k.over at))

      -- it was known at the prepare
      knew : keeps ≡ true → u.known.current ≡ w.known.current → w.entry.was_known ≡ true
      knew keep at = by_rolling w.entry.is_rolling refl
        where
          low : w.known.view ≤ w.known.top
          low = (ok.known).viewtop

          by_rolling : (b : Bool) → w.entry.is_rolling ≡ b → w.entry.was_known ≡ true
          by_rolling false calm =
              let done = (ok.entry).done calm w.known.current (omega arith) (sym (r.later.how w.known.current (omega arith)) ∙ ap u.known.how (sym at ∙ rolling.next) ∙ rolling.how) in
              let below : w.known.top < start_of (rolling.e + 1) = (let a = rolling.below in let b = r.later.top in omega arith) in
              let start : start_of w.known.current ≡ start_of (rolling.e + 1) = ap start_of (sym at ∙ rolling.next) in
              absurd (omega arith)
          by_rolling true rolls =
              (ok.entry).was_known rolling.e (inr (sym rolling.next ∙ at, rolls)) ∙ sym (r.later.kept rolling.e (let n = sym at ∙ rolling.next in omega arith)) ∙ sym ((r.ok.entry).was_known rolling.e (inr (sym rolling.next, can.0))) ∙ (can.1 keep).0

      committed : (v : ChunkWorld) → v.entry.epoch ≡ u.entry.epoch → v.entry.how ≡ u.entry.how → v.entry.is_rolling ≡ false → IsCommittedSince w v
      committed v at same over = record {
        e = u.entry.epoch;
        since = (let a = (ok.entry).epoch in let b = (r.ok.entry).epoch in let c = r.later.current in omega arith);
        within = omega arith;
        how = ap (λ h. h u.entry.epoch) same ∙ (r.ok.entry).how u.entry.epoch ∙ ap u.known.how ((r.ok.entry).epoch ∙ rolling.next) ∙ rolling.how;
        was = λ first. by_rolling first w.entry.is_rolling refl;
        done = λ last. over;
      }
        where
          by_rolling : u.entry.epoch ≡ w.entry.epoch → (b : Bool) → w.entry.is_rolling ≡ b → w.entry.is_rolling ≡ true
          by_rolling first true rolls = rolls
          by_rolling first false still = absurd (true≢false (sym can.0 ∙ r.calm still first))

      apart : (t : ℕ) → u.known.current ≡ w.known.current → t ≢ start_of w.known.current → nat_eq t (start_of u.known.current) ≡ false
      apart t at new = differs t (start_of u.known.current) (λ x. new (x ∙ ap start_of at))

      by_keeps : (b : Bool) → keeps ≡ b → SettlesOnce w (happens u (CommitsRollback members b))
      by_keeps true is = inr (inr (record {
        later = above;
        committed = committed (happens u (CommitsRollback members true)) refl refl refl;
        over = λ at. refl;
        exact = λ at. record {
          view = ap start_of at;
          others = λ t other new. (
            ap (λ b. cond b (u.known.list (u.known.prepared (u.known.current - 1))) (u.known.list t)) (apart t at new) ∙ (before_list r.once at t other).0,
            ap (λ b. cond b true (u.known.stood t)) (apart t at new) ∙ (before_list r.once at t other).1,
          );
          here = inl (
            subst (λ n. after.known.list (start_of n) ≡ u.known.list (u.known.prepared (n - 1))) at (ap (λ b. cond b (u.known.list (u.known.prepared (u.known.current - 1))) (u.known.list (start_of u.known.current))) (itself (start_of u.known.current))) ∙ prepared_so is at r.once,
            subst (λ n. after.known.stood (start_of n) ≡ true) at (ap (λ b. cond b true (u.known.stood (start_of u.known.current))) (itself (start_of u.known.current))),
            knew is at,
          );
        };
      }))
        where
          after : ChunkWorld
          after = happens u (CommitsRollback members true)
      by_keeps false is = inr (inr (record {
        later = above;
        committed = committed (happens u (CommitsRollback members false)) refl refl refl;
        over = λ at. refl;
        exact = λ at. record {
          view = ap start_of at;
          others = λ t other new. (
            ap (λ b. cond b [] (u.known.list t)) (apart t at new) ∙ (before_list r.once at t other).0,
            ap (λ b. cond b false (u.known.stood t)) (apart t at new) ∙ (before_list r.once at t other).1,
          );
          here = inr (
            subst (λ n. after.known.list (start_of n) ≡ []) at (ap (λ b. cond b [] (u.known.list (start_of u.known.current))) (itself (start_of u.known.current))),
            subst (λ n. after.known.stood (start_of n) ≡ false) at (ap (λ b. cond b false (u.known.stood (start_of u.known.current))) (itself (start_of u.known.current))),
          );
        };
      }))
        where
          after : ChunkWorld
          after = happens u (CommitsRollback members false)

step_so : (w u : ChunkWorld) (e : Event) → WorldOk w → Run w u → Moved u (happens u e) → Can u e → actor e ≡ None → SettlesOnce w (happens u e)
step_so w u (Settles members count holder) ok r moved can none = settles_so w u ok r members count holder can
step_so w u (CommitsRollback members keeps) ok r moved can none = commits_so w u ok r members keeps can
step_so w u (Proposes stamp asked) ok r moved can none = still_so w u (happens u (Proposes stamp asked)) r.ok moved (record { view = refl; list = refl; stood = refl; base = refl; current = omega arith; over = λ same still. still }) r.later.current r.once
step_so w u (AsksFirst to false) ok r moved can none = still_so w u (happens u (AsksFirst to false)) r.ok moved (record { view = refl; list = refl; stood = refl; base = refl; current = omega arith; over = λ same still. still }) r.later.current r.once
step_so w u (AsksFirst to true) ok r moved can none = still_so w u (happens u (AsksFirst to true)) r.ok moved (record { view = refl; list = refl; stood = refl; base = refl; current = omega arith; over = λ same still. still }) r.later.current r.once
step_so w u (Asks to) ok r moved can none = still_so w u (happens u (Asks to)) r.ok moved (record { view = refl; list = refl; stood = refl; base = refl; current = omega arith; over = λ same still. still }) r.later.current r.once
step_so w u (AsksForCopy source target with_image) ok r moved can none = still_so w u (happens u (AsksForCopy source target with_image)) r.ok moved (record { view = refl; list = refl; stood = refl; base = refl; current = omega arith; over = λ same still. still }) r.later.current r.once
step_so w u GivesUp ok r moved can none = still_so w u (happens u GivesUp) r.ok moved (record { view = refl; list = refl; stood = refl; base = refl; current = omega arith; over = λ same still. still }) r.later.current r.once
step_so w u (Holds server) ok r moved can none = still_so w u (happens u (Holds server)) r.ok moved (record { view = refl; list = refl; stood = refl; base = refl; current = omega arith; over = λ same still. still }) r.later.current r.once
step_so w u (Grants to) ok r moved can none = still_so w u (happens u (Grants to)) r.ok moved (record { view = refl; list = refl; stood = refl; base = refl; current = omega arith; over = λ same still. still }) r.later.current r.once
step_so w u Retires ok r moved can none = still_so w u (happens u Retires) r.ok moved (record { view = refl; list = refl; stood = refl; base = refl; current = omega arith; over = λ same still. still }) r.later.current r.once
step_so w u (SendsDrop to promise) ok r moved can none = still_so w u (happens u (SendsDrop to promise)) r.ok moved (record { view = refl; list = refl; stood = refl; base = refl; current = omega arith; over = λ same still. still }) r.later.current r.once
step_so w u (Prepares whole) ok r moved can none = still_so w u (happens u (Prepares whole)) r.ok moved (record { view = refl; list = refl; stood = refl; base = refl; current = omega arith; over = λ same still. still }) r.later.current r.once
step_so w u Finalizes ok r moved can none = still_so w u (happens u Finalizes) r.ok moved (record { view = refl; list = refl; stood = refl; base = refl; current = omega arith; over = λ same still. still }) r.later.current r.once
step_so w u BeginsRollback ok r moved can none = still_so w u (happens u BeginsRollback) r.ok moved (record { view = refl; list = refl; stood = refl; base = refl; current = omega arith; over = λ same still. absurd (let a = same in omega arith) }) r.later.current r.once
step_so w u (TellsEpoch to epoch) ok r moved can none = still_so w u (happens u (TellsEpoch to epoch)) r.ok moved (record { view = refl; list = refl; stood = refl; base = refl; current = omega arith; over = λ same still. still }) r.later.current r.once
step_so w u e ok r moved can none = absurd (false≢true (sym (ap is_some none)))

run_of : (w v : ChunkWorld) (leads : Leads w v) → WorldOk w → AreOfMaster w v leads → Run w v
run_of w v Rests ok masters = record { ok = ok; later = leads_later w w Rests ok; told = λ j t n c told. told; calm = λ calm same. calm; once = inl (record { view = refl; list = refl; stood = refl }) }
run_of w v (Goes u e before can) ok masters =
    let r = run_of w u before ok masters.0 in
    let moved = happens_world u r.ok e can in
    record {
      ok = moved.ok;
      later = leads_later w (happens u e) (Goes u e before can) ok;
      told = λ j t n c told. r.told j t n c (told_so u e masters.1 j t n c told);
      calm = stays_calm w (happens u e) (Goes u e before can) ok masters;
      once = step_so w u e ok r moved can masters.1;
    }

pub masters_settle_once : MastersSettleOnce
masters_settle_once w v leads reached masters = (run_of w v leads (reached_world w reached) masters).once
