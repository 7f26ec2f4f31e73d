-- What stays of a prepare while the upgrade stands, and what a checkpoint tells of the counters.
use Rattle.std.proofs.Common.{◌≡◌, ◌∙◌, ◌+◌, ◌&&◌, ◌==◌, ℕ, Bool, true, false, cond, List, [], ◌∷◌, refl, ap, subst, sym, arith}
use Rattle.std.specs.Prelude.{nat_lt, nat_le, Option, Some, None, is_some, option_map, option_and_then, Result, Ok, Err, if◌then◌else◌}
use Rattle.std.specs.FinMap as fin
use Rattle.std.specs.Cmp.{nat_cmp_total, tied_itself}
use Rattle.std.specs.Ordering.{nat_cmp, eq_by_cmp, is_eq}
use Rattle.std.specs.declared.cmp.Ordering.{Ordering}
use Rattle.std.specs.declared.cmp.Ordering.TheVariants.{Less, Equal, Greater}
use Rattle.std.proofs.lemmas.Bool.{false≢true, and_parts}
use Rattle.std.proofs.lemmas.Bool.Decides.{nat_tests}
use Rattle.gs_base.specs.Stamps.{is_before}
use Rattle.gs_base.specs.declared.epoch.EpochEnd.TheVariants as ends
use Rattle.gs_base.specs.declared.numbers.ClientId.{ClientId}
use Rattle.gs_base.specs.declared.numbers.ReqId.{ReqId}
use Rattle.gs_base.specs.declared.refusal.Refusal.{Refusal}
use Rattle.gs_edit.specs.View.{NamesView}
use Rattle.gs_lease.specs.declared.view.View.{View}
use Rattle.gs_master_record.specs.Plain.{PlainCheckpoint, PlainEdit, PlainEntry, Edited, Said, Propose, Settle, Prepare, Finalize, RollbackBegin, RollbackCommit, Whole, Holder}
use Rattle.gs_master_record.specs.declared.checkpoint.Phase.{Phase}
use Rattle.gs_master_record.specs.declared.checkpoint.Phase.TheVariants.{Ordinary, Upgrade, Rolling}
use Rattle.gs_master_record.specs.declared.entry.SettledView.{SettledView}
use Rattle.gs_master_spec.specs.Applied.{after_edit, applied, follows_view, forgotten_by, held_by, is_next_epoch, is_since, is_sound, may_be_settled, may_edit, may_propose, proposed, with_edit, with_epoch, with_proposal, with_view, without_chunks}
use Rattle.gs_master_spec.specs.Durable.{Durable, Settled, if_before, is_given, is_ordinary, is_upgrade, kept_before, prepared_of, prepared_view, upgrade_epoch, with_prepared}
use Rattle.gs_laws_master.specs.Promises.{KeepsPrepared, TellsCounters, goes_on_within, prepared_behind}
use Rattle.gs_master_spec.specs.Undoing.{edited_names, all_undone}
use Rattle.gs_master_spec.specs.Whole.{can_go_back, checkpoint_of, durable_with, if_it_can, is_whole, told_replies, whole_of}
use Rattle.gs_master_spec.specs.declared.asking.Prepared.{Prepared}
use Rattle.gs_master_spec.specs.declared.reply.KeptReply.{KeptReply}
use Rattle.gs_laws_master.proofs.lemmas.upgrades.Beginnings.{fits_gives}

-- ---- one chunk changes

or_kept : Option Prepared → Option Prepared → Option Prepared
or_kept None kept = kept
or_kept (Some view) kept = Some view

is_equal : (r : Ordering) → is_eq r ≡ true → r ≡ Equal
is_equal Less h = absurd (false≢true h)
is_equal Equal h = refl
is_equal Greater h = absurd (false≢true h)

same_key : (q k : ℕ) → eq_by_cmp nat_cmp q k ≡ true → q ≡ k
same_key q k tied = fin.nat_cmp-IsAntisymmetric q k (is_equal (nat_cmp q k) tied)

get_same : (m : fin.FinMap nat_cmp Prepared) (k q : ℕ) (b : Bool) → eq_by_cmp nat_cmp q k ≡ b → fin.get m q ≡ cond b (fin.get m k) (fin.get m q)
get_same m k q true is = ap (fin.get m) (same_key q k is)
get_same m k q false is = refl

get_kept : (d : Durable) (k : ℕ) (o : Option Prepared) (q : ℕ) → fin.get (with_prepared d k o) q ≡ cond (eq_by_cmp nat_cmp q k) (or_kept o (fin.get d.prepared k)) (fin.get d.prepared q)
unfolding or_kept
get_kept d k None q = get_same d.prepared k q (eq_by_cmp nat_cmp q k) refl
get_kept d k (Some view) q = fin.get-insert nat_cmp_total d.prepared k view q

-- no view of before comes where there was none
abbrev NoneComes : Option ℕ → Option Prepared → Option Settled → Option Settled → Type 0
NoneComes u kept settled next = (upgrade : ℕ) → u ≡ Some upgrade → prepared_of u kept settled ≡ None → if_before upgrade next ≡ None

at_key : (u : Option ℕ) (kept : Option Prepared) (settled next : Option Settled) → NoneComes u kept settled next → prepared_of u (or_kept (prepared_of u kept settled) kept) next ≡ prepared_of u kept settled
unfolding or_kept
at_key None kept settled next none = refl
at_key (Some upgrade) (Some view) settled next none = refl
at_key (Some upgrade) None settled next none = by_view (if_before upgrade settled) refl
  where
    by_view : (o : Option Prepared) → if_before upgrade settled ≡ o → prepared_of (Some upgrade) (or_kept o None) next ≡ o
    by_view None is = none upgrade refl is
    by_view (Some view) is = refl

each_key : (d : Durable) (k q : ℕ) (next : Option Settled) (b : Bool) → eq_by_cmp nat_cmp q k ≡ b → NoneComes (upgrade_epoch d.phase d.epoch) (fin.get d.prepared k) (fin.get d.chunks k) next →
    prepared_of (upgrade_epoch d.phase d.epoch) (cond b (or_kept (prepared_view d k) (fin.get d.prepared k)) (fin.get d.prepared q)) (cond b next (fin.get d.chunks q)) ≡ prepared_view d q
each_key d k q next true is none =
    at_key (upgrade_epoch d.phase d.epoch) (fin.get d.prepared k) (fin.get d.chunks k) next none ∙ ap (prepared_view d) (sym (same_key q k is))
each_key d k q next false is none = refl

-- a chunk changes once its prepared view is kept
kept_view : (d : Durable) (k : ℕ) (chunks : fin.FinMap nat_cmp Settled) (next : Option Settled) → ((q : ℕ) → fin.get chunks q ≡ cond (eq_by_cmp nat_cmp q k) next (fin.get d.chunks q)) →
    NoneComes (upgrade_epoch d.phase d.epoch) (fin.get d.prepared k) (fin.get d.chunks k) next → (q : ℕ) → prepared_view (record d { chunks = chunks; prepared = kept_before d k }) q ≡ prepared_view d q
kept_view d k chunks next is none q =
    (λ i. prepared_of (upgrade_epoch d.phase d.epoch) (get_kept d k (prepared_view d k) q i) (is q i)) ∙ each_key d k q next (eq_by_cmp nat_cmp q k) refl none

-- ---- chunks are forgotten

pub forgets_one : (d : Durable) (k q : ℕ) → prepared_view (record d { chunks = fin.remove d.chunks k; prepared = kept_before d k }) q ≡ prepared_view d q
forgets_one d k q = kept_view d k (fin.remove d.chunks k) None (λ x. fin.get-remove nat_cmp_total d.chunks k x) (λ upgrade is none. refl) q

forgets_all : (d : Durable) (chunks : List ℕ) (q : ℕ) → prepared_view (without_chunks d chunks) q ≡ prepared_view d q
forgets_all d [] q = refl
forgets_all d (k ∷ chunks) q = forgets_all (record d { chunks = fin.remove d.chunks k; prepared = kept_before d k }) chunks q ∙ forgets_one d k q

edited_keeps : (d next : Durable) (by : ReqId) (edit : PlainEdit) (names : Result NamesView Refusal) → after_edit d by edit names ≡ Some next → (q : ℕ) → prepared_view next q ≡ prepared_view d q
edited_keeps d next by edit (Ok names) e q =
    ap (λ (x : Durable). prepared_view x q) (sym (fits_gives (may_edit d edit) (with_edit d by edit names) next e).1) ∙ forgets_all d (forgotten_by edit) q
edited_keeps d next by edit (Err refusal) e q = absurd (false≢true (ap is_some e))

-- ---- views are proposed and settled

moves_on : (u : Option ℕ) (kept : Option Prepared) (s : Settled) → prepared_of u kept (Some (record s { is_moving = true })) ≡ prepared_of u kept (Some s)
moves_on None kept s = refl
moves_on (Some upgrade) None s = refl
moves_on (Some upgrade) (Some view) s = refl

proposed_at : (d : Durable) (k q : ℕ) (s : Settled) (b : Bool) → eq_by_cmp nat_cmp q k ≡ b → fin.get d.chunks k ≡ Some s →
    prepared_of (upgrade_epoch d.phase d.epoch) (fin.get d.prepared q) (cond b (Some (record s { is_moving = true })) (fin.get d.chunks q)) ≡ prepared_view d q
proposed_at d k q s true is has = moves_on (upgrade_epoch d.phase d.epoch) (fin.get d.prepared q) s ∙ ap (prepared_of (upgrade_epoch d.phase d.epoch) (fin.get d.prepared q)) (sym (ap (fin.get d.chunks) (same_key q k is) ∙ has))
proposed_at d k q s false is has = refl

proposed_keeps : (d : Durable) (k q : ℕ) (settled : Option Settled) → fin.get d.chunks k ≡ settled → prepared_of (upgrade_epoch d.phase d.epoch) (fin.get d.prepared q) (fin.get (with_proposal d k settled) q) ≡ prepared_view d q
proposed_keeps d k q None has = refl
proposed_keeps d k q (Some s) has =
    ap (prepared_of (upgrade_epoch d.phase d.epoch) (fin.get d.prepared q)) (fin.get-insert nat_cmp_total d.chunks k (record s { is_moving = true }) q) ∙ proposed_at d k q s (eq_by_cmp nat_cmp q k) refl has

abbrev before_if : Bool → View → Option Prepared
before_if b view = if b then Some (record { view = view; holders = [] }) else None

not_before : (upgrade : ℕ) (s : Settled) → nat_lt s.view.stamp.epoch upgrade ≡ false → if_before upgrade (Some s) ≡ None
not_before upgrade s is = rw is refl

still_not : (upgrade : ℕ) (view : View) (settled : Option Settled) → follows_view settled view.stamp ≡ true → is_since (Some upgrade) settled view.stamp ≡ true → if_before upgrade settled ≡ None →
    if_before upgrade (Some (record { view = view; is_moving = false })) ≡ None
still_not upgrade view None follows since none = let later : nat_lt view.stamp.epoch upgrade ≡ false = grind (arith, nat_tests) in not_before upgrade (record { view = view; is_moving = false }) later
still_not upgrade view (Some s) follows since none = by_epoch (nat_lt s.view.stamp.epoch upgrade) refl none
  where
    by_epoch : (b : Bool) → nat_lt s.view.stamp.epoch upgrade ≡ b → before_if b s.view ≡ None → if_before upgrade (Some (record { view = view; is_moving = false })) ≡ None
    by_epoch true is e = absurd (false≢true (sym (ap is_some e)))
    by_epoch false is e =
        let before = (and_parts s.is_moving (is_before s.view.stamp view.stamp) follows).1 in
        let later : nat_lt view.stamp.epoch upgrade ≡ false = grind (arith, nat_tests) in
        not_before upgrade (record { view = view; is_moving = false }) later

none_comes : (u : Option ℕ) (kept : Option Prepared) (settled : Option Settled) (view : View) → follows_view settled view.stamp ≡ true → is_since u settled view.stamp ≡ true →
    NoneComes u kept settled (Some (record { view = view; is_moving = false }))
none_comes None kept settled view follows since upgrade is none = absurd (false≢true (ap is_some is))
none_comes (Some up) (Some view') settled view follows since upgrade is none = absurd (false≢true (sym (ap is_some none)))
none_comes (Some up) None settled view follows since upgrade is none =
    let same : up ≡ upgrade = (let e = is in cc) in subst (λ n. if_before n (Some (record { view = view; is_moving = false })) ≡ None) same (still_not up view settled follows since none)

settled_keeps : (d : Durable) (v : SettledView) (q : ℕ) → may_be_settled d v ≡ true → prepared_view (with_view d v) q ≡ prepared_view d q
settled_keeps d v q may =
    let u = upgrade_epoch d.phase d.epoch in
    let settled = fin.get d.chunks v.handle in
    let since = follows_view settled v.view.stamp && is_since u settled v.view.stamp in
    let sound = is_sound v.view && since in
    let epoch = nat_le v.view.stamp.epoch d.epoch && sound in
    let version = is_given d.next_version v.view.stamp.version && epoch in
    let parts = and_parts (follows_view settled v.view.stamp) (is_since u settled v.view.stamp) (and_parts (is_sound v.view) since (and_parts (nat_le v.view.stamp.epoch d.epoch) sound (and_parts (is_given d.next_version v.view.stamp.version) epoch (and_parts (is_given d.next_handle v.handle) version may).1).1).1).1 in
    kept_view d v.handle (fin.insert d.chunks v.handle (record { view = v.view; is_moving = false })) (Some (record { view = v.view; is_moving = false }))
    (λ x. fin.get-insert nat_cmp_total d.chunks v.handle (record { view = v.view; is_moving = false }) x)
    (none_comes u (fin.get d.prepared v.handle) settled v.view parts.0 parts.1) q

-- ---- the rollback, and holders

goes_on : (phase : Phase) (epoch : ℕ) → is_upgrade phase ≡ true → upgrade_epoch Rolling (epoch + 1) ≡ upgrade_epoch phase epoch
goes_on Ordinary epoch is = absurd (false≢true is)
goes_on Upgrade epoch is = ap Some (omega arith)
goes_on Rolling epoch is = absurd (false≢true is)

abbrev view_in_it : Option Prepared → Option View
view_in_it prepared = option_map (λ (p : Prepared). p.view) prepared

held_at : (server : ℕ) (u : Option ℕ) (kept : Option Prepared) (settled : Option Settled) → prepared_of u (or_kept (held_by server (prepared_of u kept settled)) kept) settled ≡ held_by server (prepared_of u kept settled)
unfolding or_kept
held_at server None kept settled = refl
held_at server (Some upgrade) (Some view) settled = refl
held_at server (Some upgrade) None settled = by_view (if_before upgrade settled) refl
  where
    by_view : (o : Option Prepared) → if_before upgrade settled ≡ o → prepared_of (Some upgrade) (or_kept (held_by server o) None) settled ≡ held_by server o
    by_view None is = is
    by_view (Some view) is = refl

-- numbers are tied where they are equal
pub is_tied : (q k : ℕ) → eq_by_cmp nat_cmp q k ≡ (k == q)
is_tied q k = each (eq_by_cmp nat_cmp q k) refl (k == q) refl
  where
    itself : eq_by_cmp nat_cmp q q ≡ true
    itself = ap is_eq (tied_itself nat_cmp_total q)

    each : (a : Bool) → eq_by_cmp nat_cmp q k ≡ a → (b : Bool) → (k == q) ≡ b → a ≡ b
    each true tied true same = refl
    each false tied false same = refl
    each true tied false same = absurd (let key = same_key q k tied in grind (arith, nat_tests))
    each false tied true same = let key : k ≡ q = grind (arith, nat_tests) in sym tied ∙ ap (eq_by_cmp nat_cmp q) key ∙ itself

held_key : (d : Durable) (server k q : ℕ) (b : Bool) → eq_by_cmp nat_cmp q k ≡ b →
    prepared_of (upgrade_epoch d.phase d.epoch) (cond b (or_kept (held_by server (prepared_view d k)) (fin.get d.prepared k)) (fin.get d.prepared q)) (fin.get d.chunks q) ≡ (if b then held_by server (prepared_view d q) else prepared_view d q)
held_key d server k q true is =
    ap (λ x. prepared_of (upgrade_epoch d.phase d.epoch) (or_kept (held_by server (prepared_view d k)) (fin.get d.prepared k)) (fin.get d.chunks x)) (same_key q k is)
    ∙ held_at server (upgrade_epoch d.phase d.epoch) (fin.get d.prepared k) (fin.get d.chunks k) ∙ ap (λ x. held_by server (prepared_view d x)) (sym (same_key q k is))
held_key d server k q false is = refl

held_keeps : (d : Durable) (server k q : ℕ) → prepared_view (record d { prepared = with_prepared d k (held_by server (prepared_view d k)) }) q ≡ prepared_behind (Holder k server) q (prepared_view d q)
held_keeps d server k q =
    ap (λ kept. prepared_of (upgrade_epoch d.phase d.epoch) kept (fin.get d.chunks q)) (get_kept d k (held_by server (prepared_view d k)) q) ∙ held_key d server k q (eq_by_cmp nat_cmp q k) refl
    ∙ ap (λ b. if b then held_by server (prepared_view d q) else prepared_view d q) (is_tied q k)

-- ---- all records

after : (d n next : Durable) (q : ℕ) (o : Option Prepared) → n ≡ next → prepared_view n q ≡ o → prepared_view next q ≡ o
after d n next q o is kept = subst (λ (x : Durable). prepared_view x q ≡ o) is kept

pub keeps_prepared : (entry : PlainEntry) → KeepsPrepared entry
unfolding applied
keeps_prepared (Edited by edit) d next stands within e q = edited_keeps d next by edit (edited_names edit d.names) e q
keeps_prepared (Said to refusal) d next stands within e q = after d _ next q (prepared_view d q) (fits_gives true _ next e).1 refl
keeps_prepared (Propose chunk version) d next stands within e q =
    after d (proposed d chunk version) next q (prepared_view d q) (fits_gives (may_propose d.phase d.next_handle d.next_version chunk version (fin.get d.chunks chunk)) (proposed d chunk version) next e).1
    (proposed_keeps d chunk q (fin.get d.chunks chunk) refl)
keeps_prepared (Settle v) d next stands within e q =
    let is = fits_gives (may_be_settled d v) (with_view d v) next e in after d (with_view d v) next q (prepared_view d q) is.1 (settled_keeps d v q is.0)
keeps_prepared (Prepare epoch moment chunks) d next stands within e q = absurd (false≢true within)
keeps_prepared (Finalize epoch) d next stands within e q = absurd (false≢true within)
keeps_prepared (RollbackBegin epoch) d next stands within e q =
    let is = fits_gives (is_upgrade d.phase && is_next_epoch d.epoch epoch) (with_epoch d ends.Rollback Rolling) next e in
    after d (with_epoch d ends.Rollback Rolling) next q (prepared_view d q) is.1
    (ap (λ u. prepared_of u (fin.get d.prepared q) (fin.get d.chunks q)) (goes_on d.phase d.epoch (and_parts (is_upgrade d.phase) (is_next_epoch d.epoch epoch) is.0).0))
keeps_prepared (RollbackCommit epoch answers) d next stands within e q = absurd (false≢true within)
keeps_prepared (Whole c) d next stands within e q = absurd (false≢true within)
keeps_prepared (Holder chunk server) d next stands within e q =
    after d (record d { prepared = with_prepared d chunk (held_by server (prepared_view d chunk)) }) next q (prepared_behind (Holder chunk server) q (prepared_view d q))
    (fits_gives (is_upgrade d.phase && (nat_lt server 16 && is_some (prepared_view d chunk))) (record d { prepared = with_prepared d chunk (held_by server (prepared_view d chunk)) }) next e).1
    (held_keeps d server chunk q)

abbrev pub view_at_prepare : Durable → ℕ → Option View
view_at_prepare d chunk = view_in_it (prepared_view d chunk)

-- a holder more leaves the view
same_view : (entry : PlainEntry) (q : ℕ) (o : Option Prepared) → view_in_it (prepared_behind entry q o) ≡ view_in_it o
same_view (Edited by edit) q o = refl
same_view (Said to refusal) q o = refl
same_view (Propose chunk version) q o = refl
same_view (Settle v) q o = refl
same_view (Prepare epoch moment chunks) q o = refl
same_view (Finalize epoch) q o = refl
same_view (RollbackBegin epoch) q o = refl
same_view (RollbackCommit epoch answers) q o = refl
same_view (Whole c) q o = refl
same_view (Holder chunk server) q o = each (chunk == q) o
  where
    each : (b : Bool) (x : Option Prepared) → view_in_it (if b then held_by server x else x) ≡ view_in_it x
    each true None = refl
    each true (Some p) = refl
    each false x = refl

pub keeps_views : (entry : PlainEntry) (d next : Durable) → is_ordinary d.phase ≡ false → goes_on_within entry ≡ true → applied d entry ≡ Some next → (q : ℕ) → view_at_prepare next q ≡ view_at_prepare d q
keeps_views entry d next stands within e q = ap view_in_it (keeps_prepared entry d next stands within e q) ∙ same_view entry q (prepared_view d q)

-- ---- a checkpoint

told_by : (c : PlainCheckpoint) (next : Durable) (b : Bool) (replies : Option (List (ClientId × KeptReply))) →
    (if b then option_and_then if_it_can (option_map (durable_with c) replies) else None) ≡ Some next →
    (next.next_handle ≡ c.next_handle) × (next.next_version ≡ c.next_version) × (next.next_hidden ≡ c.next_hidden) × (next.epoch ≡ c.epoch)
told_by c next true (Some replies) e =
    let d = durable_with c replies in
    let is = (fits_gives (can_go_back d (all_undone d.inverses d.names)) d next e).1 in
    subst (λ (x : Durable). (x.next_handle ≡ c.next_handle) × (x.next_version ≡ c.next_version) × (x.next_hidden ≡ c.next_hidden) × (x.epoch ≡ c.epoch)) is (refl, refl, refl, refl)
told_by c next true None e = absurd (false≢true (ap is_some e))
told_by c next false replies e = absurd (false≢true (ap is_some e))

pub tells_counters : TellsCounters
unfolding applied whole_of checkpoint_of
tells_counters d next e =
    let c = checkpoint_of d in
    let is = told_by c next (is_whole c) (told_replies c.replies) e in
    record { handle = is.0; version = is.1; hidden = is.2; epoch = is.3 }
