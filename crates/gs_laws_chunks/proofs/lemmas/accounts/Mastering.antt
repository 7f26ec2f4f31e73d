-- An account agrees with the machine of a chunk behind what the master does.
use Rattle.std.proofs.Common.{◌≡◌, ◌≢◌, ◌∙◌, ◌+◌, ◌-◌, ◌<◌, ◌≤◌, ◌⊎◌, ◌&&◌, ◌++◌, ℕ, Bool, true, false, cond, not, List, [], take, drop, Option, Some, None, refl, sym, ap, subst, inl, inr, arith}
use Rattle.std.specs.Prelude.{if◌then◌else◌, is_some}
use Rattle.std.specs.FinMap as fin
use Rattle.std.proofs.lemmas.Bool.{cases_eq, cases_lt, eq-eqb, ne_eqb, true≢false}
use Rattle.std.proofs.lemmas.Bool.Decides.{nat_tests}
use Rattle.std.proofs.lemmas.List.{take-append-drop}
use Rattle.gs_base.specs.Stamps.{is_same}
use Rattle.gs_base.specs.declared.numbers.Stamp.{Stamp}
use Rattle.gs_laws_chunks.specs.accounts.Accounts.{Account, edits_in, view_at}
use Rattle.gs_laws_chunks.specs.accounts.Moving.{begun, continued, edits_of, is_under, list_behind}
use Rattle.gs_laws_lift.specs.stores.Copying.{copied_from}
use Rattle.gs_laws_moves.specs.moves.Epochs.{prepares, rolls_back}
use Rattle.gs_laws_chunk.specs.machine.Stamps.{stamp_at, start_of}
use Rattle.gs_laws_chunk.specs.machine.Machine.{ChunkWorld}
use Rattle.gs_laws_chunk.specs.machine.Events.{Leads, Rests}
use Rattle.gs_laws_chunk.specs.machine.Laws.{Agrees as AgreesKnown, IsReached, IsUpgrading, prepared_list, world_of}
use Rattle.gs_laws_chunk.specs.machine.Mastering.{AreOfMaster, IsRestored, KeepsLists, RestoresList, SettlesList, SettlesOnce}
use Rattle.gs_laws_chunk.proofs.lemmas.machine.Facts.{reached_world}
use Rattle.gs_laws_chunk.proofs.lemmas.machine.Knowing.{masters_forget, masters_keep_prepared, masters_people}
use Rattle.gs_laws_chunk.proofs.lemmas.machine.Known.{IsPrepared, Later}
use Rattle.gs_laws_chunk.proofs.lemmas.machine.Lasting.{agrees}
use Rattle.gs_laws_chunk.proofs.lemmas.machine.Prepared.{prepared_rests}
use Rattle.gs_laws_chunk.proofs.lemmas.machine.Mastering.{masters_settle_once}
use Rattle.gs_laws_chunk.proofs.lemmas.machine.Worlds.{WorldOk, leads_later, leads_world}
use Rattle.gs_laws_chunks.specs.accounts.Agreeing.{IsCopyShown, IsOfView, IsViewShown, OriginShows}
use Rattle.gs_laws_parts.specs.master.Rows.{IsCopiedSince, IsFirst, RowsGo}
use Rattle.gs_laws_chunks.proofs.lemmas.accounts.Upgraded.{upgraded_before}
use Rattle.gs_laws_parts.specs.master.Showing.{ShowsDurable}
use Rattle.gs_laws_lift.specs.stores.Accounts.{IsUnseen, edits_copied}
use Rattle.gs_laws_parts.proofs.lemmas.server.Stamps.{same_stamp, stamp_number}
use Rattle.gs_replica.specs.Stands.{Edit}
use Rattle.gs_world.specs.Sent.{Sent}
use Rattle.gs_master_spec.specs.Applied.{view_in}
use Rattle.gs_master_record.specs.declared.checkpoint.Phase.{Phase}
use Rattle.gs_master_record.specs.declared.checkpoint.Phase.TheVariants.{Ordinary, Rolling, Upgrade}
use Rattle.gs_master_spec.specs.Durable.{Durable, Settled, is_listed, is_ordinary, is_rolling}

same_itself : (p q : Stamp) → p ≡ q → is_same p q ≡ true
same_itself p q is = rw is (let same : is_same q q ≡ true = grind (arith, nat_tests) in same)

other_stamp : (p q : Stamp) (t u : ℕ) → p ≡ stamp_at t → q ≡ stamp_at u → t ≢ u → is_same p q ≡ false
other_stamp p q t u first second apart = by_case (is_same p q) refl
  where
    by_case : (b : Bool) → is_same p q ≡ b → b ≡ false
    by_case true same = absurd (apart (stamp_number t u (sym first ∙ same_stamp p q same ∙ second)))
    by_case false other = refl

-- ---- the list that an account has of a view, where no edit is numbered

module _ (a : Account) (sent : Sent) (e : Durable) (chunk : ℕ) (s : Stamp) where
  abbrev pub behind_it : Option Settled → List Edit
  behind_it o = list_behind a sent e None chunk s (view_in o)

  -- no view of this stamp is told anew
  pub same_list : (o : Option Settled) → ((y : Settled) → o ≡ Some y → is_same y.view.stamp s ≡ true → is_under s (view_at a chunk) ≡ true) → behind_it o ≡ a.list chunk s
  same_list None none = refl
  same_list (Some y) none = by_case (is_same y.view.stamp s) refl
    where
      by_case : (b : Bool) → is_same y.view.stamp s ≡ b → (if b && not (is_under s (view_at a chunk)) then begun a sent e chunk y.view else a.list chunk s) ≡ a.list chunk s
      by_case false other = refl
      by_case true same = rw (none y refl same) refl

  -- one is
  pub new_list : (y : Settled) → is_same y.view.stamp s ≡ true → is_under s (view_at a chunk) ≡ false → behind_it (Some y) ≡ begun a sent e chunk y.view
  new_list y same none = rw (same, none) refl

copied_same : (a : Account) (o : Option (ℕ × Stamp)) → edits_of a o ≡ edits_copied a.list o
copied_same a None = refl
copied_same a (Some source) = refl

-- ---- what is known of a machine whose master did something

-- a view that stood, behind which another was given back, was settled or isn't the one that was proposed
settled_or_passed : (chunk : ℕ) (d e : Durable) (w v : ChunkWorld) → RowsGo chunk d e w v → RestoresList w v → (t : ℕ) → v.known.stood t ≡ true → (t ≢ w.known.top) ⊎ (w.known.view ≡ w.known.top)
settled_or_passed chunk d e w v rows r t stood = elim (rows.back r.later).2 [
  | inl still ↦ inr still
  | inr never ↦ inl (λ is. true≢false (sym stood ∙ ap v.known.stood is ∙ never))
]

-- what stood then, but for a view that was settled now, stood before
pub stood_before : (chunk : ℕ) (d e : Durable) (w v : ChunkWorld) → IsReached w → (leads : Leads w v) → AreOfMaster w v leads → RowsGo chunk d e w v → (t : ℕ) → v.known.stood t ≡ true → t ≢ v.known.view → w.known.stood t ≡ true
stood_before chunk d e w v reached leads masters rows t stood other = by_once (masters_settle_once w v leads reached masters)
  where
    by_once : SettlesOnce w v → w.known.stood t ≡ true
    by_once (inl k) = ap (λ f. f t) (sym k.stood) ∙ stood
    by_once (inr (inl k)) = sym (k.stood t ∙ ap (λ b. cond b true (w.known.stood t)) (ne_eqb t w.known.top (λ is. other (is ∙ sym k.view)))) ∙ stood
    by_once (inr (inr r)) =
        let so = r.exact (rows.back r.later).1 in
        sym (so.others t (settled_or_passed chunk d e w v rows r t stood) (λ is. other (is ∙ sym so.view))).1 ∙ stood

module _ (chunk : ℕ) (sent : Sent) (a : Account) (e : Durable) (w v : ChunkWorld) (reached : IsReached w) (leads : Leads w v) (masters : AreOfMaster w v leads) (was_stamp : (x : Settled) → fin.get a.durable.chunks chunk ≡ Some x → x.view.stamp ≡ stamp_at w.entry.view.stamp) (was_rolling : w.entry.is_rolling ≡ is_rolling a.durable.phase) (shows : ShowsDurable chunk e v.entry) (rows : RowsGo chunk a.durable e w v) where
  ok : WorldOk w
  ok = reached_world w reached

  okv : WorldOk v
  okv = leads_world w v leads ok

  later : Later w.known v.known
  later = leads_later w v leads ok

  known_w : AgreesKnown w
  known_w = agrees w ok

  known_v : AgreesKnown v
  known_v = agrees v okv

  -- the views that are told, as the machine has them
  old_stamp : (x : Settled) → fin.get a.durable.chunks chunk ≡ Some x → x.view.stamp ≡ stamp_at w.known.view
  old_stamp x there = was_stamp x there ∙ ap stamp_at (sym known_w.view)

  new_stamp : (y : Settled) → fin.get e.chunks chunk ≡ Some y → y.view.stamp ≡ stamp_at v.known.view
  new_stamp y there = (shows.settled y there).view.stamp ∙ ap stamp_at (sym known_v.view)

  abbrev told : ℕ → List Edit
  told t = behind_it a sent e chunk (stamp_at t) (fin.get e.chunks chunk)

  -- under another stamp than that of the view nothing is told anew
  other_told : (t : ℕ) → t ≢ v.known.view → told t ≡ a.list chunk (stamp_at t)
  other_told t other = same_list a sent e chunk (stamp_at t) (fin.get e.chunks chunk) (λ y there same. absurd (true≢false (sym same ∙ other_stamp y.view.stamp (stamp_at t) v.known.view t (new_stamp y there) refl (λ is. other (sym is)))))

  -- a view that was told before is told no more
  still_told : (t : ℕ) → v.known.view ≡ w.known.view → told t ≡ a.list chunk (stamp_at t)
  still_told t still = same_list a sent e chunk (stamp_at t) (fin.get e.chunks chunk) (λ y there same. by_old y there same (fin.get a.durable.chunks chunk) refl)
    where
      by_old : (y : Settled) → fin.get e.chunks chunk ≡ Some y → is_same y.view.stamp (stamp_at t) ≡ true → (o : Option Settled) → fin.get a.durable.chunks chunk ≡ o → is_under (stamp_at t) (view_in o) ≡ true
      by_old y there same None none = absurd (let up = rows.appears y none there in omega arith)
      by_old y there same (Some x) was = same_itself x.view.stamp (stamp_at t) (old_stamp x was ∙ ap stamp_at (sym still) ∙ sym (new_stamp y there) ∙ same_stamp y.view.stamp (stamp_at t) same)

  not_under : (t : ℕ) → t ≢ w.known.view → is_under (stamp_at t) (view_at a chunk) ≡ false
  not_under t other = by_old (fin.get a.durable.chunks chunk) refl
    where
      by_old : (o : Option Settled) → fin.get a.durable.chunks chunk ≡ o → is_under (stamp_at t) (view_in o) ≡ false
      by_old None none = refl
      by_old (Some x) was = other_stamp x.view.stamp (stamp_at t) w.known.view t (old_stamp x was) refl (λ is. other (sym is))

  -- the view is told anew
  anew : (y : Settled) → fin.get e.chunks chunk ≡ Some y → v.known.view ≢ w.known.view → told v.known.view ≡ begun a sent e chunk y.view
  anew y there other =
      ap (behind_it a sent e chunk (stamp_at v.known.view)) there
      ∙ new_list a sent e chunk (stamp_at v.known.view) y (same_itself y.view.stamp (stamp_at v.known.view) (new_stamp y there)) (not_under v.known.view other)

  -- a view that begins a lower one, and of which nothing is told
  gone_then : w.entry.is_known ≡ false → v.known.view ≡ w.known.view ⊎ (v.known.view ≤ w.known.top) → (v.entry.is_known ≡ false) × KeepsLists w v
  gone_then unknown low = elim (masters_forget w v leads reached masters unknown) [
    | inl still ↦ still
    | inr over ↦ elim low [
      | inl same ↦ absurd (let top = (ok.known).viewtop in omega arith)
      | inr within ↦ absurd (omega arith)
    ]
  ]

  stood_within : (t : ℕ) → w.known.stood t ≡ true → t ≤ w.known.view
  stood_within t stood = elim (cases_lt w.known.view t) [
    | inl above ↦ absurd (true≢false (sym stood ∙ ((ok.known).fresh t above).3))
    | inr within ↦ within
  ]

  -- a view that isn't above the settled one isn't one that was proposed and not settled
  passed : (t : ℕ) → t ≤ w.known.view → (t ≢ w.known.top) ⊎ (w.known.view ≡ w.known.top)
  passed t within = elim (cases_eq t w.known.top) [
    | inl here ↦ inr (let top = (ok.known).viewtop in omega arith)
    | inr other ↦ inl other
  ]

  -- What is told of a view that isn't above the settled one as the machine has it is told so still.
  pub lists_then : (t : ℕ) → t ≤ w.known.view → a.list chunk (stamp_at t) ≡ w.known.list t → told t ≡ v.known.list t
  lists_then t within same = by_once (masters_settle_once w v leads reached masters)
    where
      by_once : SettlesOnce w v → told t ≡ v.known.list t
      by_once (inl k) = still_told t k.view ∙ same ∙ ap (λ f. f t) (sym k.list)
      by_once (inr (inl k)) =
          let moving = k.moving in
          other_told t (λ is. absurd (let view = k.view in omega arith)) ∙ same
          ∙ sym (k.list t ∙ ap (λ b. cond b (take (v.known.base w.known.top) (w.known.list w.known.view)) (w.known.list t)) (ne_eqb t w.known.top (λ is. absurd (omega arith))))
      by_once (inr (inr r)) =
          let over = r.later in
          let top = (ok.known).viewtop in
          let back = rows.back over in
          let so : IsRestored w v = r.exact back.1 in
          other_told t (λ is. absurd (omega arith)) ∙ same ∙ sym (so.others t (passed t within) (λ is. absurd (let view = so.view in omega arith))).0

  abbrev told_under : Stamp → List Edit
  told_under s = behind_it a sent e chunk s (fin.get e.chunks chunk)

  -- What is shown of a copy is shown so still.
  pub copies_then : (at : Stamp) → IsCopyShown (a.list chunk) w at → IsCopyShown told_under v at
  copies_then at k =
      let fixed = later.fixed k.t k.within k.free in record {
        t = k.t;
        is = k.is;
        within = (let low = k.within in let view = later.view in omega arith);
        free = fixed.0;
        same = ap told_under k.is ∙ lists_then k.t k.within (ap (a.list chunk) (sym k.is) ∙ k.same);
      }

  module _ (own : (t : ℕ) → w.known.stood t ≡ true → w.known.born < t → (a.list chunk (stamp_at t) ≡ w.known.list t) ⊎ IsUnseen w t) (late : (x : Settled) → fin.get a.durable.chunks chunk ≡ Some x → w.known.born < w.known.view)
      (before : (e : ℕ) → IsUpgrading w e → w.entry.was_known ≡ true → a.before chunk ≡ prepared_list w) (first : IsFirst chunk a.durable w) (origin : OriginShows a.list sent chunk reached.0 v) where
    abbrev Then : ℕ → Type 0
    Then t = (told t ≡ v.known.list t) ⊎ IsUnseen v t

    -- what is unseen stays so
    unseen_then : (t : ℕ) → t ≤ w.known.view → (u : IsUnseen w t) → (v.entry.view.stamp ≡ t → v.entry.is_known ≡ false) → v.known.list t ≡ w.known.list t → v.known.list u.lower ≡ w.known.list u.lower → IsUnseen v t
    unseen_then t within u gone same lower = record {
      gone = gone;
      free = (later.fixed t within u.free).0;
      lower = u.lower;
      below = u.below;
      last = λ s stands low. u.last s (sym (later.stood s (omega arith)) ∙ stands) low;
      begins = (u.begins.0, lower ∙ u.begins.1 ∙ ap (λ xs. xs ++ u.begins.0) (sym same));
    }

    -- no view is settled
    keeps_then : KeepsLists w v → (t : ℕ) → v.known.stood t ≡ true → v.known.born < t → Then t
    keeps_then k t stood behind =
        let stood_w : w.known.stood t ≡ true = ap (λ f. f t) (sym k.stood) ∙ stood in
        elim (own t stood_w (let born = later.born in omega arith)) [
          | inl same ↦ inl (still_told t k.view ∙ same ∙ ap (λ f. f t) (sym k.list))
          | inr unseen ↦ inr (unseen_then t (stood_within t stood_w) unseen (λ last. (gone_then (unseen.gone (known_view ∙ sym k.view ∙ known_v.view ∙ last)) (inl k.view)).0) (ap (λ f. f t) k.list) (ap (λ f. f unseen.lower) k.list))
        ]
      where
        known_view : w.entry.view.stamp ≡ w.known.view
        known_view = sym known_w.view

    -- one is settled
    settled_known : SettlesList w v → w.entry.is_known ≡ true
    settled_known k = by_known w.entry.is_known refl
      where
        by_known : (b : Bool) → w.entry.is_known ≡ b → b ≡ true
        by_known true is = refl
        by_known false unknown = absurd (let still = (gone_then unknown (inr (let view = k.view in omega arith))).1.view in let view = k.view in let moving = k.moving in omega arith)

    -- no rollback is committed then
    none_back : SettlesList w v → rolls_back a.durable e ≡ false
    none_back k = by_rolling (rolls_back a.durable e) refl
      where
        by_rolling : (b : Bool) → rolls_back a.durable e ≡ b → b ≡ false
        by_rolling false is = refl
        by_rolling true is = absurd (never (was_rolling ∙ (parts (is_rolling a.durable.phase) (is_ordinary e.phase) is).0) (shows.rolling ∙ not_rolling e.phase (parts (is_rolling a.durable.phase) (is_ordinary e.phase) is).1))
          where
            parts : (x y : Bool) → (x && y) ≡ true → (x ≡ true) × (y ≡ true)
            parts true true both = (refl, refl)
            parts true false both = absurd (cc)
            parts false y both = absurd (cc)

            not_rolling : (p : Phase) → is_ordinary p ≡ true → is_rolling p ≡ false
            not_rolling Ordinary is = refl
            not_rolling Upgrade is = absurd (cc)
            not_rolling Rolling is = absurd (cc)

            never : w.entry.is_rolling ≡ true → v.entry.is_rolling ≡ false → ⊥
            never rolls calm =
                let r = (ok.entry).rolling rolls in
                let done = (okv.entry).done calm w.known.current later.current (later.how w.known.current (omega arith) ∙ ap w.known.how r.next ∙ r.how) in
                let start : start_of w.known.current ≡ start_of (r.e + 1) = ap start_of r.next in
                let below = r.below in
                let view = k.view in
                omega arith

    -- what the list begins with that follows is that of the machine
    former : SettlesList w v → (o : Option Settled) → fin.get a.durable.chunks chunk ≡ o → continued a sent chunk (view_in o) ≡ w.known.list w.known.view
    former k None none =
        let at_birth : w.known.view ≡ w.known.born = first (settled_known k) none in
        let birth = leads_later (world_of reached.0) w reached.1 (reached_world (world_of reached.0) (reached.0, Rests)) in
        let list : w.known.list (start_of reached.0.epoch) ≡ reached.0.origin = (birth.fixed (start_of reached.0.epoch) (omega arith) refl).1 in
        copied_same a (copied_from sent chunk) ∙ origin ∙ sym (ap w.known.list (at_birth ∙ birth.born) ∙ list)
    former k (Some x) was =
        ap (a.list chunk) (old_stamp x was) ∙ elim (own w.known.view (ap w.known.stood known_w.view ∙ known_w.stood (settled_known k)) (late x was)) [
          | inl same ↦ same
          | inr unseen ↦ absurd (true≢false (sym (settled_known k) ∙ unseen.gone (sym known_w.view)))
        ]

    settled_list : SettlesList w v → v.known.list v.known.view ≡ take (v.known.base v.known.view) (w.known.list w.known.view)
    settled_list k = ap v.known.list k.view ∙ k.list w.known.top ∙ ap (λ b. cond b (take (v.known.base w.known.top) (w.known.list w.known.view)) (w.known.list w.known.top)) (eq-eqb w.known.top w.known.top refl) ∙ ap (λ t. take (v.known.base t) (w.known.list w.known.view)) (sym k.view)

    -- the one that is settled is told with its list
    settles_told : (k : SettlesList w v) (y : Settled) → fin.get e.chunks chunk ≡ Some y → told v.known.view ≡ v.known.list v.known.view
    settles_told k y there =
        anew y there (λ is. let view = k.view in let moving = k.moving in omega arith)
        ∙ ap (λ b. if b then a.before chunk else take y.view.count (continued a sent chunk (view_at a chunk))) (none_back k)
        ∙ ap (take y.view.count) (former k (fin.get a.durable.chunks chunk) refl)
        ∙ ap (λ n. take n (w.known.list w.known.view)) (sym (shows.settled y there).view.count ∙ sym known_v.count ∙ ap v.known.base (sym known_v.view))
        ∙ sym (settled_list k)

    settles_then : SettlesList w v → (t : ℕ) → v.known.stood t ≡ true → v.known.born < t → Then t
    settles_then k t stood behind = elim (cases_eq t w.known.top) [
      | inr other ↦ elim (own t (stood_w other) (let born = later.born in omega arith)) [
        | inl same ↦ inl (other_told t (λ is. other (is ∙ k.view)) ∙ same ∙ sym (list_other t other))
        | inr unseen ↦ inr (unseen_then t (stood_within t (stood_w other)) unseen (λ last. absurd (other (sym last ∙ sym known_v.view ∙ k.view))) (list_other t other) (list_other unseen.lower (λ is. let below = unseen.below in let within = stood_within t (stood_w other) in let moving = k.moving in omega arith)))
      ]
      | inl here ↦ subst Then (k.view ∙ sym here) (at_top (fin.get e.chunks chunk) refl)
    ]
      where
        stood_other : (n : ℕ) → n ≢ w.known.top → v.known.stood n ≡ w.known.stood n
        stood_other n other = k.stood n ∙ ap (λ b. cond b true (w.known.stood n)) (ne_eqb n w.known.top other)

        stood_w : t ≢ w.known.top → w.known.stood t ≡ true
        stood_w other = sym (stood_other t other) ∙ stood

        list_other : (n : ℕ) → n ≢ w.known.top → v.known.list n ≡ w.known.list n
        list_other n other = k.list n ∙ ap (λ b. cond b (take (v.known.base w.known.top) (w.known.list w.known.view)) (w.known.list n)) (ne_eqb n w.known.top other)

        at_top : (o : Option Settled) → fin.get e.chunks chunk ≡ o → Then v.known.view
        at_top (Some y) there = inl (settles_told k y there)
        at_top None none = inr (record {
          gone = λ last. by_known v.entry.is_known refl;
          free = rows.fades (by_known v.entry.is_known refl) (let view = k.view in let moving = k.moving in omega arith);
          lower = w.known.view;
          below = (let view = k.view in let moving = k.moving in omega arith);
          last = λ s stands low. stood_within s (sym (stood_other s (λ is. absurd (let view = k.view in omega arith))) ∙ stands);
          begins = (drop (v.known.base v.known.view) (w.known.list w.known.view), same_lower ∙ sym (ap (λ xs. xs ++ drop (v.known.base v.known.view) (w.known.list w.known.view)) (settled_list k) ∙ take-append-drop (v.known.base v.known.view) (w.known.list w.known.view)));
        })
          where
            same_lower : v.known.list w.known.view ≡ w.known.list w.known.view
            same_lower = list_other w.known.view (λ is. let moving = k.moving in omega arith)

            by_known : (b : Bool) → v.entry.is_known ≡ b → b ≡ false
            by_known false is = refl
            by_known true is = elim (masters_people w v leads reached masters) [
              | inl same ↦ absurd (let one = ap (λ x. x.stamp) same in let a = known_w.view in let b = known_v.view in let view = k.view in let moving = k.moving in omega arith)
              | inr (inl some) ↦ absurd (some (shows.bare is none).members)
              | inr (inr over) ↦ absurd (let view = k.view in omega arith)
            ]

    -- a rollback is committed
    restored : RestoresList w v → IsRestored w v
    restored r = r.exact (rows.back r.later).1

    -- the view that it gives back is told with its list
    restores_told : (r : RestoresList w v) → v.known.stood v.known.view ≡ true → told v.known.view ≡ v.known.list v.known.view
    restores_told r stands = by_here (restored r).here
      where
        back : (rolls_back a.durable e ≡ true) × (v.known.current ≡ w.known.current) × ((w.known.view ≡ w.known.top) ⊎ (v.known.stood w.known.top ≡ false))
        back = rows.back r.later

        rolls : w.entry.is_rolling ≡ true
        rolls = was_rolling ∙ former_of (is_rolling a.durable.phase) (is_ordinary e.phase) back.0
          where
            former_of : (x y : Bool) → (x && y) ≡ true → x ≡ true
            former_of true y both = refl
            former_of false y both = absurd (cc)

        prepared_is : w.entry.was_known ≡ true → a.before chunk ≡ w.known.list (w.known.prepared (w.known.current - 1))
        prepared_is was =
            let roll = (ok.entry).rolling rolls in
            let next = roll.next in
            let current : (roll.e + 1 ≡ w.known.current) × (w.entry.is_rolling ≡ true) = (sym next, rolls) in
            let prepared : IsPrepared w.known roll.e = (omega arith, roll.was, sym ((ok.entry).was_known roll.e (inr current)) ∙ was) in
            let at : roll.e ≡ w.known.current - 1 = omega arith in
            before roll.e (inr (sym next ∙ known_w.epoch, rolls)) was ∙ ap w.known.list (((ok.entry).prepared roll.e (inr current) prepared).stamp ∙ ap w.known.prepared at)

        by_row : v.known.list (start_of w.known.current) ≡ w.known.list (w.known.prepared (w.known.current - 1)) → w.entry.was_known ≡ true → (o : Option Settled) → fin.get e.chunks chunk ≡ o → is_some o ≡ true → told v.known.view ≡ v.known.list v.known.view
        by_row list was None none there = absurd (cc)
        by_row list was (Some y) at there =
            anew y at (λ is. let over = r.later in let top = (ok.known).viewtop in omega arith)
            ∙ ap (λ b. if b then a.before chunk else take y.view.count (continued a sent chunk (view_at a chunk))) back.0
            ∙ prepared_is was ∙ sym list ∙ ap v.known.list (sym (restored r).view)

        by_here : ((v.known.list (start_of w.known.current) ≡ w.known.list (w.known.prepared (w.known.current - 1))) × (v.known.stood (start_of w.known.current) ≡ true) × (w.entry.was_known ≡ true)) ⊎ ((v.known.list (start_of w.known.current) ≡ []) × (v.known.stood (start_of w.known.current) ≡ false))
            → told v.known.view ≡ v.known.list v.known.view
        by_here (inr none) = absurd (true≢false (sym stands ∙ ap v.known.stood (restored r).view ∙ none.1))
        by_here (inl some) = by_row some.0 some.2 (fin.get e.chunks chunk) refl (rows.given r.later stands)

    restores_then : RestoresList w v → (t : ℕ) → v.known.stood t ≡ true → v.known.born < t → Then t
    restores_then r t stood behind = elim (cases_eq t (start_of w.known.current)) [
      | inr other ↦ elim (own t (before_it other) (let born = later.born in omega arith)) [
        | inl same ↦ inl (other_told t (λ is. other (is ∙ so.view)) ∙ same ∙ sym (so.others t (settled_or_passed chunk a.durable e w v rows r t stood) other).0)
        | inr unseen ↦ inr (unseen_then t (within other) unseen (λ last. absurd (other (sym last ∙ sym known_v.view ∙ so.view))) (so.others t (settled_or_passed chunk a.durable e w v rows r t stood) other).0
            (so.others unseen.lower (inl (λ is. let below = unseen.below in let low = within other in let top = (ok.known).viewtop in omega arith))
            (λ is. let below = unseen.below in let low = within other in let view = so.view in let over = r.later in let top = (ok.known).viewtop in omega arith)).0)
      ]
      | inl here ↦ subst Then (so.view ∙ sym here) (inl (restores_told r (ap v.known.stood (so.view ∙ sym here) ∙ stood)))
    ]
      where
        so : IsRestored w v
        so = restored r

        before_it : t ≢ start_of w.known.current → w.known.stood t ≡ true
        before_it other = stood_before chunk a.durable e w v reached leads masters rows t stood (λ is. other (is ∙ so.view))

        within : t ≢ start_of w.known.current → t ≤ w.known.view
        within other = stood_within t (before_it other)

    pub own_then : (t : ℕ) → v.known.stood t ≡ true → v.known.born < t → Then t
    own_then t stood behind = by_once (masters_settle_once w v leads reached masters)
      where
        by_once : SettlesOnce w v → Then t
        by_once (inl k) = keeps_then k t stood behind
        by_once (inr (inl k)) = settles_then k t stood behind
        by_once (inr (inr r)) = restores_then r t stood behind

    -- ---- copies

    -- of a chunk that a file has the settled view is told
    told_last : is_listed e chunk ≡ true → v.known.stood v.known.view ≡ true → v.known.born < v.known.view → told v.known.view ≡ v.known.list v.known.view
    told_last listed stood late = elim (own_then v.known.view stood late) [
      | inl same ↦ same
      | inr unseen ↦ absurd (true≢false (sym (shows.listed listed) ∙ unseen.gone (sym known_v.view)))
    ]

    -- and so is the one that was settled before
    told_before : w.entry.is_known ≡ true → w.known.stood w.known.view ≡ true → w.known.born < w.known.view → told w.known.view ≡ v.known.list w.known.view
    told_before known stood late = elim (own w.known.view stood late) [
      | inl same ↦ lists_then w.known.view (omega arith) same
      | inr unseen ↦ absurd (true≢false (sym known ∙ unseen.gone (sym known_w.view)))
    ]

    -- What is copied now is the list of one of the two.
    pub copied_since : (at : Stamp) → IsCopiedSince chunk e w.known.view w.entry.is_known v at → IsCopyShown told_under v at
    copied_since at k = record { t = k.t; is = k.is; within = k.within; free = k.free; same = ap told_under k.is ∙ by_place (cases_eq k.t v.known.view) }
      where
        by_place : (k.t ≡ v.known.view) ⊎ (k.t ≢ v.known.view) → told k.t ≡ v.known.list k.t
        by_place (inl here) = subst (λ t. told t ≡ v.known.list t) (sym here) (told_last k.listed (ap v.known.stood (sym here) ∙ k.stood) (let late = k.late in omega arith))
        by_place (inr other) =
            let stood = stood_before chunk a.durable e w v reached leads masters rows k.t k.stood other in
            let here : k.t ≡ w.known.view = (let since = k.since in let within = stood_within k.t stood in omega arith) in
            subst (λ t. told t ≡ v.known.list t) (sym here) (told_before k.known (ap w.known.stood (sym here) ∙ stood) (let late = k.late in let born = later.born in omega arith))

    -- ---- under other stamps nothing is told

    same_view : (y : Settled) (s : Stamp) → fin.get e.chunks chunk ≡ Some y → is_same y.view.stamp s ≡ true → stamp_at v.known.view ≡ s
    same_view y s there same = sym (new_stamp y there) ∙ same_stamp y.view.stamp s same

    -- nothing was told under a stamp
    none_then : (s : Stamp) → a.list chunk s ≡ [] → IsOfView told_under v s
    none_then s none = by_row (fin.get e.chunks chunk) refl
      where
        Told : List Edit → Type 0
        Told xs = (xs ≡ []) ⊎ ((t : ℕ) × (s ≡ stamp_at t) × (v.known.born < t) × (v.known.stood t ≡ true) × (xs ≡ v.known.list t))

        view_told : (y : Settled) → fin.get e.chunks chunk ≡ Some y → is_same y.view.stamp s ≡ true → v.known.born < v.known.view → v.known.stood v.known.view ≡ true → told v.known.view ≡ v.known.list v.known.view → Told (behind_it a sent e chunk s (Some y))
        view_told y there same late stood is =
            inr (v.known.view, sym (same_view y s there same), late, stood, ap (behind_it a sent e chunk s) (sym there) ∙ ap (λ u. behind_it a sent e chunk u (fin.get e.chunks chunk)) (sym (same_view y s there same)) ∙ is)

        by_once : (y : Settled) → fin.get e.chunks chunk ≡ Some y → is_same y.view.stamp s ≡ true → SettlesOnce w v → Told (behind_it a sent e chunk s (Some y))
        by_once y there same (inl k) = inl (ap (behind_it a sent e chunk s) (sym there) ∙ ap (λ u. behind_it a sent e chunk u (fin.get e.chunks chunk)) (sym (same_view y s there same)) ∙ still_told v.known.view k.view ∙ ap (a.list chunk) (same_view y s there same) ∙ none)
        by_once y there same (inr (inl k)) =
            view_told y there same (let low = (ok.known).blank.0 in let born = later.born in let view = k.view in let moving = k.moving in omega arith)
            (ap v.known.stood k.view ∙ k.stood w.known.top ∙ ap (λ b. cond b true (w.known.stood w.known.top)) (eq-eqb w.known.top w.known.top refl)) (settles_told k y there)
        by_once y there same (inr (inr r)) =
            let stands = rows.returned r.later (ap is_some there) in
            view_told y there same (let low = (ok.known).blank.0 in let born = later.born in let over = r.later in let top = (ok.known).viewtop in omega arith) stands (restores_told r stands)

        by_stamp : (y : Settled) → fin.get e.chunks chunk ≡ Some y → (b : Bool) → is_same y.view.stamp s ≡ b → Told (behind_it a sent e chunk s (Some y))
        by_stamp y there true same = by_once y there same (masters_settle_once w v leads reached masters)
        by_stamp y there false other = inl (same_list a sent e chunk s (Some y) (λ z at same. absurd (true≢false (sym same ∙ ap (λ (q : Settled). is_same q.view.stamp s) (let x : z ≡ y = cc in x) ∙ other))) ∙ none)

        by_row : (o : Option Settled) → fin.get e.chunks chunk ≡ o → Told (behind_it a sent e chunk s o)
        by_row None there = inl none
        by_row (Some y) there = by_stamp y there (is_same y.view.stamp s) refl

    pub others_then : (s : Stamp) → IsOfView (a.list chunk) w s → IsOfView told_under v s
    others_then s (inl none) = none_then s none
    others_then s (inr (t, is, late, stood, same)) =
        let within = stood_within t stood in
        inr (t, is, (let born = later.born in omega arith), later.stood t within ∙ stood, ap (λ u. behind_it a sent e chunk u (fin.get e.chunks chunk)) is ∙ lists_then t within (ap (a.list chunk) (sym is) ∙ same))

    pub late_then : (y : Settled) → fin.get e.chunks chunk ≡ Some y → v.known.born < v.known.view
    late_then y there = by_old (fin.get a.durable.chunks chunk) refl
      where
        by_old : (o : Option Settled) → fin.get a.durable.chunks chunk ≡ o → v.known.born < v.known.view
        by_old None none = let up = rows.appears y none there in let low = (ok.known).blank.0 in let born = later.born in omega arith
        by_old (Some x) was = let low = late x was in let view = later.view in let born = later.born in omega arith

    -- The view that is told is shown.
    pub shown_then : ((x : Settled) → fin.get a.durable.chunks chunk ≡ Some x → IsViewShown (a.list chunk) w) → (y : Settled) → fin.get e.chunks chunk ≡ Some y → IsViewShown told_under v
    shown_then shown y there = by_once (masters_settle_once w v leads reached masters)
      where
        by_old : KeepsLists w v → (o : Option Settled) → fin.get a.durable.chunks chunk ≡ o → IsViewShown told_under v
        by_old k None none = absurd (let up = rows.appears y none there in let view = k.view in omega arith)
        by_old k (Some x) was =
            let was_shown = shown x was in record {
              stood = ap v.known.stood k.view ∙ ap (λ f. f w.known.view) k.stood ∙ was_shown.stood;
              same = subst (λ t. told t ≡ v.known.list t) (sym k.view) (still_told w.known.view k.view ∙ was_shown.same ∙ ap (λ f. f w.known.view) (sym k.list));
            }

        by_once : SettlesOnce w v → IsViewShown told_under v
        by_once (inl k) = by_old k (fin.get a.durable.chunks chunk) refl
        by_once (inr (inl k)) = record {
          stood = ap v.known.stood k.view ∙ k.stood w.known.top ∙ ap (λ b. cond b true (w.known.stood w.known.top)) (eq-eqb w.known.top w.known.top refl);
          same = settles_told k y there;
        }
        by_once (inr (inr r)) = (let stands = rows.returned r.later (ap is_some there) in record { stood = stands; same = restores_told r stands })

    -- ---- the prepare

    pub before_then : (x : ℕ) → IsUpgrading v x → v.entry.was_known ≡ true → (if prepares a.durable e then edits_in a chunk (view_at a chunk) else a.before chunk) ≡ prepared_list v
    before_then x upgrading was = by_prepare (prepares a.durable e) refl
      where
        by_prepare : (b : Bool) → prepares a.durable e ≡ b → (if b then edits_in a chunk (view_at a chunk) else a.before chunk) ≡ prepared_list v
        by_prepare false none =
            let kept = masters_keep_prepared w v leads reached masters (rows.unprepared none) was in
            let upgrade = upgraded_before w v reached leads (rows.unprepared none) x upgrading in
            let rests = prepared_rests w ok x upgrade kept.0 in
            before x upgrade kept.0 ∙ sym (ap v.known.list kept.1 ∙ (later.fixed w.entry.prepared.stamp (let within = rests.within in let view = known_w.view in omega arith) rests.free).1)
        by_prepare true is =
            let so = rows.prepared is was in
            by_row (fin.get a.durable.chunks chunk) refl so.0 so.1 ∙ sym (ap v.known.list so.2 ∙ same_there so.3 (masters_settle_once w v leads reached masters))
          where
            same_there : v.known.view ≡ w.known.view → SettlesOnce w v → v.known.list w.known.view ≡ w.known.list w.known.view
            same_there still (inl k) = ap (λ f. f w.known.view) k.list
            same_there still (inr (inl k)) = absurd (let view = k.view in let moving = k.moving in omega arith)
            same_there still (inr (inr r)) = absurd (let over = r.later in let top = (ok.known).viewtop in omega arith)

            by_row : (o : Option Settled) → fin.get a.durable.chunks chunk ≡ o → is_some o ≡ true → w.entry.is_known ≡ true → edits_in a chunk (view_in o) ≡ w.known.list w.known.view
            by_row None none there known = absurd (cc)
            by_row (Some y) at there known = ap (a.list chunk) (old_stamp y at) ∙ elim (own w.known.view (ap w.known.stood known_w.view ∙ known_w.stood known) (late y at)) [
              | inl same ↦ same
              | inr unseen ↦ absurd (true≢false (sym known ∙ unseen.gone (sym known_w.view)))
            ]
