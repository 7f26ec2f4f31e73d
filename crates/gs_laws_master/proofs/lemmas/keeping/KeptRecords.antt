-- Each record but a checkpoint keeps what stands.
use Rattle.std.proofs.Common.{◌≡◌, inr, ◌∙◌, ◌≤◌, ◌&&◌, ◌||◌, ℕ, Bool, true, false, cond, not, [], nat_lt, refl, sym, ap, subst, arith, inl}
use Rattle.std.specs.Prelude.{Option, Some, None, is_some, option_map, nat_le, Err}
use Rattle.std.specs.Cmp.{nat_cmp_total}
use Rattle.std.specs.FinMap as fin
use Rattle.std.specs.Ordering.{eq_by_cmp, nat_cmp}
use Rattle.std.proofs.lemmas.Bool.{false≢true, and_parts, leb-true}
use Rattle.gs_base.specs.Told.{IsNumber}
use Rattle.gs_base.specs.declared.numbers.ReqId.{ReqId}
use Rattle.gs_base.specs.declared.refusal.Refusal.{Refusal}
use Rattle.gs_edit.specs.View.{NamesView}
use Rattle.gs_journal.specs.declared.version.Version.TheVariants.{Two}
use Rattle.gs_master_record.specs.Plain.{PlainEntry, Said, Propose, Settle, Holder}
use Rattle.gs_master_record.specs.Writable.{IsEntry}
use Rattle.gs_master_record.specs.declared.checkpoint.Phase.{Phase}
use Rattle.gs_master_record.specs.declared.checkpoint.Phase.TheVariants.{Ordinary, Upgrade, Rolling}
use Rattle.gs_master_record.specs.declared.entry.SettledView.{SettledView}
use Rattle.gs_master_spec.specs.Applied.{applied, follows_view, held_by, is_fresh, is_since, is_sound, may_be_settled, may_propose, proposed, with_proposal, with_reply, with_view}
use Rattle.gs_master_spec.specs.Durable.{Durable, Settled, has_its_primary, is_given, is_listed, is_ordinary, is_rolling, is_upgrade, prepared_view, upgrade_epoch, with_prepared}
use Rattle.gs_laws_master.specs.Promises.{AreKept, IsGivenView, IsKept, IsStillThere, IsToldView, goes_on_within}
use Rattle.gs_master_spec.specs.Replies.{client_cmp}
use Rattle.gs_master_spec.specs.Undoing.{all_undone}
use Rattle.gs_master_spec.specs.Whole.{are_ends, is_empty}
use Rattle.gs_master_spec.specs.declared.asking.Prepared.{Prepared}
use Rattle.gs_master_spec.specs.declared.reply.KeptReply.{KeptReply}
use Rattle.gs_laws_master.proofs.lemmas.upgrades.Beginnings.{fits_gives}
use Rattle.gs_laws_master.proofs.lemmas.keeping.Counters.{given_behind, given_raised}
use Rattle.gs_laws_master.proofs.lemmas.keeping.Kept.{keeps_views}
use Rattle.gs_laws_master.proofs.lemmas.keeping.KeptReplies.{AreTold, replied}
use Rattle.gs_laws_master.proofs.lemmas.keeping.KeptViews.{Chunked, IsPreparedOf, Onward, chunked_moves, chunked_of, kept_grows, kept_stays, none_kept, prepared_given, same_key, same_on, view_stays}
use Rattle.gs_laws_master.proofs.lemmas.upgrades.LedBack.{leads_back}

-- ---- records that go on within an upgrade

same_some : {A B : Type 0} (f : A → B) (o : Option A) → is_some (option_map f o) ≡ is_some o
same_some f None = refl
same_some f (Some x) = refl

ordinary_none : (phase : Phase) (epoch : ℕ) → upgrade_epoch phase epoch ≡ None → is_ordinary phase ≡ true
ordinary_none Ordinary epoch e = refl
ordinary_none Upgrade epoch e = absurd (false≢true (sym (ap is_some e)))
ordinary_none Rolling epoch e = absurd (false≢true (sym (ap is_some e)))

pub none_ordinary : (phase : Phase) (epoch : ℕ) → is_ordinary phase ≡ true → upgrade_epoch phase epoch ≡ None
none_ordinary Ordinary epoch e = refl
none_ordinary Upgrade epoch e = absurd (false≢true e)
none_ordinary Rolling epoch e = absurd (false≢true e)

abbrev LeadsTo : Durable → Type 0
LeadsTo d = (names : NamesView) × (all_undone d.inverses d.names ≡ Some names) × AreKept names

led : (entry : PlainEntry) (d next : Durable) → IsKept d → goes_on_within entry ≡ true → applied d entry ≡ Some next → AreKept next.names → (is_ordinary d.phase ≡ true → next.inverses ≡ []) → LeadsTo next
led entry d next k within e names none = each (is_ordinary d.phase) refl
  where
    each : (b : Bool) → is_ordinary d.phase ≡ b → LeadsTo next
    each true is = (next.names, ap (λ i. all_undone i next.names) (none is), names)
    each false is = (k.back.0, leads_back entry d next k is within e ∙ k.back.1, k.back.2)

-- what such a record leaves, part by part
pub record Parts (d next : Durable) : Type 0 where
  pub names : AreKept next.names
  pub settled : (chunk : ℕ) → is_listed next chunk ≡ true → is_some (fin.get next.chunks chunk) ≡ true
  pub chunked : Chunked next
  pub now : IsNumber next.epoch
  pub ends : are_ends next.ends next.epoch next.phase ≡ true
  pub none : is_ordinary d.phase ≡ true → next.inverses ≡ []
  pub phase : is_ordinary next.phase ≡ is_ordinary d.phase
  pub still : (chunk : ℕ) → is_some (prepared_view d chunk) ≡ true → IsStillThere d chunk → IsStillThere next chunk
  pub replies : AreTold next.replies

pub within_kept : (entry : PlainEntry) (d next : Durable) → IsKept d → goes_on_within entry ≡ true → applied d entry ≡ Some next → Parts d next → IsKept next
within_kept entry d next k within e p = record {
  names = p.names;
  settled = p.settled;
  handles = p.chunked.handles;
  views = p.chunked.views;
  now = p.now;
  ends = p.ends;
  ordinary = λ u. (p.none (sym p.phase ∙ ordinary_none next.phase next.epoch u), p.chunked.none u);
  prepared = λ chunk v is. (let h = p.chunked.prepared chunk v is in (h.handle, h.view, h.before));
  back = led entry d next k within e p.names p.none;
  restored = λ names chunk undone stands some.
      (let before : is_ordinary d.phase ≡ false = sym p.phase ∙ stands in
      let was = k.restored names chunk (sym (leads_back entry d next k before within e) ∙ undone) before some in
      sym (same_some (λ (v : Prepared). v.view) (prepared_view next chunk)) ∙ ap is_some (keeps_views entry d next before within e chunk) ∙ same_some (λ (v : Prepared). v.view) (prepared_view d chunk) ∙ was);
  still = λ names chunk undone stands some.
      (let before : is_ordinary d.phase ≡ false = sym p.phase ∙ stands in
      let was = sym (leads_back entry d next k before within e) ∙ undone in p.still chunk (k.restored names chunk was before some) (k.still names chunk was before some));
  replies = p.replies;
}

pub no_inverses : (d : Durable) → IsKept d → is_ordinary d.phase ≡ true → d.inverses ≡ []
no_inverses d k is = (k.ordinary (none_ordinary d.phase d.epoch is)).0

-- the parts that a record leaves, where it changes chunks, prepared views, counters and replies alone
parts_of : (d : Durable) (chunks : fin.FinMap nat_cmp Settled) (prepared : fin.FinMap nat_cmp Prepared) (replies : fin.FinMap client_cmp KeptReply) (handle version : ℕ) → IsKept d
    → ((chunk : ℕ) → is_listed d chunk ≡ true → is_some (fin.get chunks chunk) ≡ true) → Chunked (record d { chunks = chunks; prepared = prepared; replies = replies; next_handle = handle; next_version = version }) → AreTold replies
    → ((chunk : ℕ) → is_some (fin.get d.prepared chunk) ≡ true → is_some (fin.get prepared chunk) ≡ true) → Parts d (record d { chunks = chunks; prepared = prepared; replies = replies; next_handle = handle; next_version = version })
parts_of d chunks prepared replies handle version k settled chunked told grows = record {
  names = k.names;
  settled = settled;
  chunked = chunked;
  now = k.now;
  ends = k.ends;
  none = no_inverses d k;
  phase = refl;
  still = λ chunk view there. each chunk there;
  replies = told;
}
  where
    each : (chunk : ℕ) → IsStillThere d chunk → IsStillThere (record d { chunks = chunks; prepared = prepared; replies = replies; next_handle = handle; next_version = version }) chunk
    each chunk (inl listed) = inl listed
    each chunk (inr kept) = inr (grows chunk kept)

pub as_next : {n next : Durable} → n ≡ next → (P : Durable → Type 0) → P n → P next
as_next is P p = subst P is p

-- ---- a refusal

pub said_kept : (d next : Durable) (to : ReqId) (refusal : Refusal) → IsKept d → applied d (Said to refusal) ≡ Some next → IsKept next
unfolding applied
said_kept d next to refusal k e =
    let n = record d { replies = with_reply d.replies to (Err refusal) } in
    let is = (fits_gives true n next e).1 in
    let on = same_on d n refl refl refl refl in
    within_kept (Said to refusal) d next k refl e (as_next is (Parts d)
    (parts_of d d.chunks d.prepared n.replies d.next_handle d.next_version k k.settled
    (chunked_moves d n (chunked_of d k) on refl (λ chunk. refl) (λ chunk s has. (s, (has, refl)))) (replied d.replies to (Err refusal) k.replies refl) (λ chunk kept. kept)))

-- ---- views

pub proposed_some : (d : Durable) (chunk q : ℕ) (o : Option Settled) → fin.get d.chunks chunk ≡ o → is_some (fin.get (with_proposal d chunk o) q) ≡ is_some (fin.get d.chunks q)
proposed_some d chunk q None has = refl
proposed_some d chunk q (Some s) has = ap is_some (fin.get-insert nat_cmp_total d.chunks chunk (record s { is_moving = true }) q) ∙ by_key (eq_by_cmp nat_cmp q chunk) refl
  where
    by_key : (b : Bool) → eq_by_cmp nat_cmp q chunk ≡ b → is_some (cond b (Some (record s { is_moving = true })) (fin.get d.chunks q)) ≡ is_some (fin.get d.chunks q)
    by_key true is = sym (ap is_some (ap (fin.get d.chunks) (same_key q chunk is) ∙ has))
    by_key false is = refl

-- a settled chunk whose view stays
abbrev Viewed : Durable → ℕ → Settled → Type 0
Viewed d q s = (t : Settled) × ((fin.get d.chunks q ≡ Some t) × (s.view ≡ t.view))

pub settled_is : {a b : Settled} → ◌≡◌ {A = Option Settled} (Some a) (Some b) → a ≡ b
settled_is h = cc

proposed_view : (d : Durable) (chunk q : ℕ) (o : Option Settled) (s : Settled) → fin.get d.chunks chunk ≡ o → fin.get (with_proposal d chunk o) q ≡ Some s → Viewed d q s
proposed_view d chunk q None s has e = (s, (e, refl))
proposed_view d chunk q (Some t) s has e = by_key (eq_by_cmp nat_cmp q chunk) refl (sym (fin.get-insert nat_cmp_total d.chunks chunk (record t { is_moving = true }) q) ∙ e)
  where
    by_key : (b : Bool) → eq_by_cmp nat_cmp q chunk ≡ b → cond b (Some (record t { is_moving = true })) (fin.get d.chunks q) ≡ Some s → Viewed d q s
    by_key true is h = (t, (ap (fin.get d.chunks) (same_key q chunk is) ∙ has, ap (λ (x : Settled). x.view) (sym (settled_is h))))
    by_key false is h = (s, (h, refl))

pub propose_kept : (d next : Durable) (chunk version : ℕ) → IsKept d → applied d (Propose chunk version) ≡ Some next → IsKept next
unfolding applied
propose_kept d next chunk version k e =
    let n = proposed d chunk version in
    let is = fits_gives (may_propose d.phase d.next_handle d.next_version chunk version (fin.get d.chunks chunk)) n next e in
    let rest = is_some (fin.get d.chunks chunk) || is_fresh d.next_handle chunk in
    let fresh = (and_parts (is_fresh d.next_version version) rest (and_parts (not (is_rolling d.phase)) (is_fresh d.next_version version && rest) is.0).1).0 in
    let on : Onward d n = record { handles = λ v g. given_raised d.next_handle chunk v g; versions = λ v g. given_behind d.next_version version v fresh g; epoch = omega arith; upgrade = refl } in
    within_kept (Propose chunk version) d next k refl e (as_next is.1 (Parts d)
    (parts_of d n.chunks d.prepared d.replies n.next_handle n.next_version k (λ q listed. proposed_some d chunk q (fin.get d.chunks chunk) refl ∙ k.settled q listed)
    (chunked_moves d n (chunked_of d k) on refl (λ q. proposed_some d chunk q (fin.get d.chunks chunk) refl) (λ q s has. proposed_view d chunk q (fin.get d.chunks chunk) s refl has)) k.replies (λ q kept. kept)))

-- what was asked before a view is settled
record MaySettle (d : Durable) (v : SettledView) : Type 0 where
  handle : is_given d.next_handle v.handle ≡ true
  version : is_given d.next_version v.view.stamp.version ≡ true
  epoch : v.view.stamp.epoch ≤ d.epoch
  primary : has_its_primary v.view ≡ true

may_settle_so : (d : Durable) (v : SettledView) → may_be_settled d v ≡ true → MaySettle d v
may_settle_so d v may =
    let u = upgrade_epoch d.phase d.epoch in
    let settled = fin.get d.chunks v.handle in
    let since = follows_view settled v.view.stamp && is_since u settled v.view.stamp in
    let sound = is_sound v.view && since in
    let epoch = nat_le v.view.stamp.epoch d.epoch && sound in
    let version = is_given d.next_version v.view.stamp.version && epoch in
    let one = and_parts (is_given d.next_handle v.handle) version may in
    let two = and_parts (is_given d.next_version v.view.stamp.version) epoch one.1 in
    let three = and_parts (nat_le v.view.stamp.epoch d.epoch) sound two.1 in
    let four = and_parts (is_sound v.view) since three.1 in
    record { handle = one.0; version = two.0; epoch = leb-true v.view.stamp.epoch d.epoch three.0; primary = (and_parts (not (is_empty v.view.members)) (has_its_primary v.view) four.0).1 }

-- it is enough that the view can be told
pub settle_kept_told : (d next : Durable) (v : SettledView) → IsToldView v.view → IsKept d → applied d (Settle v) ≡ Some next → IsKept next
unfolding applied
settle_kept_told d next v written k e =
    let n = with_view d v in
    let is = fits_gives (may_be_settled d v) n next e in
    let may = may_settle_so d v is.0 in
    let on = same_on d n refl refl refl refl in
    let c = chunked_of d k in
    within_kept (Settle v) d next k refl e (as_next is.1 (Parts d) (parts_of d n.chunks n.prepared d.replies d.next_handle d.next_version k
    (λ q listed. ap is_some (fin.get-insert nat_cmp_total d.chunks v.handle new q) ∙ settled_some q (eq_by_cmp nat_cmp q v.handle) (k.settled q listed))
    (record {
      handles = λ q some. handle_of q may (eq_by_cmp nat_cmp q v.handle) refl (sym (ap is_some (fin.get-insert nat_cmp_total d.chunks v.handle new q)) ∙ some);
      views = λ q s has. view_of q s may (eq_by_cmp nat_cmp q v.handle) (sym (fin.get-insert nat_cmp_total d.chunks v.handle new q) ∙ has);
      prepared = kept_stays d n v.handle (prepared_view d v.handle) c on (λ p has. prepared_given d c v.handle p has);
      none = λ u. none_kept d v.handle c u;
    }) k.replies (λ q kept. kept_grows d v.handle q (prepared_view d v.handle) kept)))
  where
    new : Settled
    new = record { view = v.view; is_moving = false }

    settled_some : (q : ℕ) (b : Bool) → is_some (fin.get d.chunks q) ≡ true → is_some (cond b (Some new) (fin.get d.chunks q)) ≡ true
    settled_some q true h = refl
    settled_some q false h = h

    handle_of : (q : ℕ) → MaySettle d v → (b : Bool) → eq_by_cmp nat_cmp q v.handle ≡ b → is_some (cond b (Some new) (fin.get d.chunks q)) ≡ true → is_given d.next_handle q ≡ true
    handle_of q may true is h = ap (is_given d.next_handle) (same_key q v.handle is) ∙ may.handle
    handle_of q may false is h = k.handles q h

    view_of : (q : ℕ) (s : Settled) → MaySettle d v → (b : Bool) → cond b (Some new) (fin.get d.chunks q) ≡ Some s → IsGivenView (with_view d v) s.view
    view_of q s may true h = subst (λ (x : Settled). IsGivenView (with_view d v) x.view) (settled_is h) (record { epoch = may.epoch; version = inr may.version; primary = may.primary; told = written })
    view_of q s may false h = view_stays d (with_view d v) s.view (λ x g. g) (omega arith) (k.views q s h)

pub settle_kept : (d next : Durable) (v : SettledView) → IsEntry Two (Settle v) → IsKept d → applied d (Settle v) ≡ Some next → IsKept next
settle_kept d next v written k e = settle_kept_told d next v written.0.1 k e

-- ---- holders

pub holder_kept : (d next : Durable) (chunk server : ℕ) → IsKept d → applied d (Holder chunk server) ≡ Some next → IsKept next
unfolding applied
holder_kept d next chunk server k e =
    let held = held_by server (prepared_view d chunk) in
    let n = record d { prepared = with_prepared d chunk held } in
    let is = fits_gives (is_upgrade d.phase && (nat_lt server 16 && is_some (prepared_view d chunk))) n next e in
    let on = same_on d n refl refl refl refl in
    let c = chunked_of d k in
    within_kept (Holder chunk server) d next k refl e (as_next is.1 (Parts d) (parts_of d d.chunks n.prepared d.replies d.next_handle d.next_version k k.settled
    (record {
      handles = k.handles;
      views = λ q s has. view_stays d n s.view (λ x g. g) (omega arith) (k.views q s has);
      prepared = kept_stays d n chunk held c on (λ p has. held_of (prepared_view d chunk) p has (λ o was. prepared_given d c chunk o was));
      none = λ u. absurd (not_upgrade d.phase (and_parts (is_upgrade d.phase) (nat_lt server 16 && is_some (prepared_view d chunk)) is.0).0 u);
    }) k.replies (λ q kept. kept_grows d chunk q held kept)))
  where
    not_upgrade : (phase : Phase) → is_upgrade phase ≡ true → upgrade_epoch phase d.epoch ≡ None → ⊥
    not_upgrade Ordinary h u = false≢true h
    not_upgrade Upgrade h u = false≢true (sym (ap is_some u))
    not_upgrade Rolling h u = false≢true h

    prepared_is : {a b : Prepared} → ◌≡◌ {A = Option Prepared} (Some a) (Some b) → a ≡ b
    prepared_is h = cc

    held_of : (o : Option Prepared) (p : Prepared) → held_by server o ≡ Some p → ((v : Prepared) → o ≡ Some v → IsPreparedOf d chunk v) → IsPreparedOf d chunk p
    held_of None p h was = absurd (false≢true (ap is_some h))
    held_of (Some v) p h was = let w = was v refl in subst (IsPreparedOf d chunk) (prepared_is h) (record { handle = w.handle; view = w.view; before = w.before })
