-- What records leave of settled views where no chunk of a file has a primary.
use Rattle.std.proofs.Common.{◌≡◌, ◌∙◌, ℕ, zero, suc, Bool, true, false, cond, List, [], ◌∷◌, map, refl, ap, sym, subst}
use Rattle.std.specs.Prelude.{fold, is_some, option_and_then, option_map, take, unwrap_or, Option, Some, None, if◌then◌else◌}
use Rattle.std.specs.Cmp.{nat_cmp_total}
use Rattle.std.specs.FinMap as fin
use Rattle.std.specs.List.{AllByRecursion}
use Rattle.std.specs.Ordering.{eq_by_cmp, nat_cmp}
use Rattle.std.specs.Cmp.{Equal-is}
use Rattle.std.proofs.lemmas.Bool.{false≢true}
use Rattle.gs_base.specs.declared.numbers.ClientId.{ClientId}
use Rattle.gs_master_record.specs.Plain.{Edited, Finalize, Holder, PlainCheckpoint, PlainEntry, Prepare, Propose, RollbackBegin, RollbackCommit, Said, Settle, Whole}
use Rattle.gs_master_record.specs.declared.checkpoint.Reference.{Reference}
use Rattle.gs_master_record.specs.declared.checkpoint.SettledEntry.{SettledEntry}
use Rattle.gs_master_record.specs.declared.entry.SettledView.{SettledView}
use Rattle.gs_master_spec.specs.Applied.{applied, may_be_settled, may_propose, proposed, replayed, with_proposal, with_view}
use Rattle.gs_master_spec.specs.Durable.{Durable, Settled, is_listed}
use Rattle.gs_master_spec.specs.State.{State, with_record}
use Rattle.gs_master_spec.specs.Undoing.{all_undone}
use Rattle.gs_master_spec.specs.Whole.{can_go_back, durable_with, if_it_can, is_whole, told_replies, whole_of}
use Rattle.gs_master_spec.specs.declared.reply.KeptReply.{KeptReply}
use Rattle.gs_laws_moves.proofs.lemmas.answers.Kept.{fits_gives}
use Rattle.gs_laws_moves.specs.looks.Unled.{AreUnled}

pub same_key : (q k : ℕ) → eq_by_cmp nat_cmp q k ≡ true → q ≡ k
same_key q k tied = fin.nat_cmp-IsAntisymmetric q k ((Equal-is (nat_cmp q k)).0 tied)

pub settled_is : {a b : Settled} → ◌≡◌ {A = Option Settled} (Some a) (Some b) → a ≡ b
settled_is h = cc

pub durable_is : {a b : Durable} → ◌≡◌ {A = Option Durable} (Some a) (Some b) → a ≡ b
durable_is h = cc

pub never : {A Z : Type 0} {x : A} → ◌≡◌ {A = Option A} None (Some x) → Z
never h = absurd (false≢true (ap is_some h))

module _ (listed : ℕ → Bool) where
  -- no chunk of a file has a primary, and none stands in one that didn't
  pub record DurableSo (d : Durable) : Type 0 where
    pub views : AreUnled d
    pub fewer : (chunk : ℕ) → is_listed d chunk ≡ true → listed chunk ≡ true

  abbrev pub IsQuietEntry : SettledEntry → Type 0
  IsQuietEntry x = x.settled.view.term ≡ None

  abbrev pub IsListedThere : Reference → Type 0
  IsListedThere r = listed r.handle ≡ true

  -- a record settles such a chunk on no view with a primary
  abbrev pub RecordSo : PlainEntry → Type 0
  RecordSo (Settle v) = listed v.handle ≡ true → v.view.term ≡ None
  RecordSo (Propose chunk version) = Unit {0}
  RecordSo (Holder chunk server) = Unit {0}
  RecordSo (Said to refusal) = Unit {0}
  RecordSo (Whole c) = AllByRecursion IsQuietEntry c.settled × AllByRecursion IsListedThere c.references
  RecordSo entry = ⊥

  abbrev pub AreSo : List PlainEntry → Type 0
  AreSo entries = AllByRecursion RecordSo entries

  -- ---- one record

  proposed_so : (d : Durable) (chunk : ℕ) → AreUnled d → (o : Option Settled) → fin.get d.chunks chunk ≡ o → (q : ℕ) (x : Settled) → is_listed d q ≡ true → fin.get (with_proposal d chunk o) q ≡ Some x → x.view.term ≡ None
  proposed_so d chunk are None was q x known has = are q x known has
  proposed_so d chunk are (Some s) was q x known has = by_key (eq_by_cmp nat_cmp q chunk) refl (sym (fin.get-insert nat_cmp_total d.chunks chunk (record s { is_moving = true }) q) ∙ has)
    where
      by_key : (b : Bool) → eq_by_cmp nat_cmp q chunk ≡ b → cond b (Some (record s { is_moving = true })) (fin.get d.chunks q) ≡ Some x → x.view.term ≡ None
      by_key true same h = subst (λ (y : Settled). y.view.term ≡ None) (settled_is h) (are q s known (ap (fin.get d.chunks) (same_key q chunk same) ∙ was))
      by_key false apart h = are q x known h

  settled_so : (d : Durable) (v : SettledView) → DurableSo d → (listed v.handle ≡ true → v.view.term ≡ None) → (q : ℕ) (x : Settled) → is_listed d q ≡ true → fin.get (with_view d v).chunks q ≡ Some x → x.view.term ≡ None
  settled_so d v so is q x known has = by_key (eq_by_cmp nat_cmp q v.handle) refl (sym (fin.get-insert nat_cmp_total d.chunks v.handle (record { view = v.view; is_moving = false }) q) ∙ has)
    where
      by_key : (b : Bool) → eq_by_cmp nat_cmp q v.handle ≡ b → cond b (Some (record { view = v.view; is_moving = false })) (fin.get d.chunks q) ≡ Some x → x.view.term ≡ None
      by_key true same h = subst (λ (y : Settled). y.view.term ≡ None) (settled_is h) (is (ap listed (sym (same_key q v.handle same)) ∙ so.fewer q known))
      by_key false apart h = so.views q x known h

  -- ---- a checkpoint

  entries_quiet : (es : List SettledEntry) → AllByRecursion IsQuietEntry es → (q : ℕ) (x : Settled)
      → fin.get (fin.from_entries {R = nat_cmp} (map (λ (s : SettledEntry). (s.settled.handle, record { view = s.settled.view; is_moving = s.is_moving })) es)) q ≡ Some x → x.view.term ≡ None
  entries_quiet [] all q x has = never (sym (fin.get-empty nat_cmp q) ∙ has)
  entries_quiet (e ∷ es) all q x has = by_key (eq_by_cmp nat_cmp q e.settled.handle) (sym (fin.get-insert nat_cmp_total rest e.settled.handle now q) ∙ has) (entries_quiet es all.1 q x)
    where
      rest : fin.FinMap nat_cmp Settled
      rest = fin.from_entries (map (λ (s : SettledEntry). (s.settled.handle, record { view = s.settled.view; is_moving = s.is_moving })) es)

      now : Settled
      now = record { view = e.settled.view; is_moving = e.is_moving }

      by_key : (b : Bool) → cond b (Some now) (fin.get rest q) ≡ Some x → (fin.get rest q ≡ Some x → x.view.term ≡ None) → x.view.term ≡ None
      by_key true h others = subst (λ (y : Settled). y.view.term ≡ None) (settled_is h) all.0
      by_key false h others = others h

  references_so : (rs : List Reference) → AllByRecursion IsListedThere rs → (q : ℕ) → is_some (fin.get (fin.from_entries {R = nat_cmp} (map (λ (r : Reference). (r.handle, r.count)) rs)) q) ≡ true → listed q ≡ true
  references_so [] all q has = absurd (false≢true (sym (ap is_some (fin.get-empty nat_cmp q)) ∙ has))
  references_so (r ∷ rs) all q has = by_key (eq_by_cmp nat_cmp q r.handle) refl (sym (ap is_some (fin.get-insert nat_cmp_total rest r.handle r.count q)) ∙ has) (references_so rs all.1 q)
    where
      rest : fin.FinMap nat_cmp ℕ
      rest = fin.from_entries (map (λ (s : Reference). (s.handle, s.count)) rs)

      by_key : (b : Bool) → eq_by_cmp nat_cmp q r.handle ≡ b → is_some (cond b (Some r.count) (fin.get rest q)) ≡ true → (is_some (fin.get rest q) ≡ true → listed q ≡ true) → listed q ≡ true
      by_key true same h others = ap listed (same_key q r.handle same) ∙ all.0
      by_key false apart h others = others h

  if_can : (d e : Durable) → if_it_can d ≡ Some e → d ≡ e
  if_can d e is = by_test (can_go_back d (all_undone d.inverses d.names)) is
    where
      by_test : (b : Bool) → (if b then Some d else None) ≡ Some e → d ≡ e
      by_test true h = durable_is h
      by_test false h = never h

  whole_so : (c : PlainCheckpoint) (e : Durable) → RecordSo (Whole c) → whole_of c ≡ Some e → DurableSo e
  unfolding whole_of
  whole_so c e so is = by_test (is_whole c) is
    where
      told_so : (rs : List (ClientId × KeptReply)) → DurableSo (durable_with c rs)
      told_so rs = record { views = λ q x known has. entries_quiet c.settled so.0 q x has; fewer = λ q known. references_so c.references so.1 q known }

      by_told : (o : Option (List (ClientId × KeptReply))) → option_and_then if_it_can (option_map (durable_with c) o) ≡ Some e → DurableSo e
      by_told None h = never h
      by_told (Some rs) h = subst DurableSo (if_can (durable_with c rs) e h) (told_so rs)

      by_test : (b : Bool) → (if b then option_and_then if_it_can (option_map (durable_with c) (told_replies c.replies)) else None) ≡ Some e → DurableSo e
      by_test true h = by_told (told_replies c.replies) h
      by_test false h = never h

  -- ---- records

  applied_so : (d e : Durable) (entry : PlainEntry) → RecordSo entry → DurableSo d → applied d entry ≡ Some e → DurableSo e
  unfolding applied
  applied_so d e (Settle v) is so fit = subst DurableSo (fits_gives (may_be_settled d v) (with_view d v) e fit) (record { views = settled_so d v so is; fewer = so.fewer })
  applied_so d e (Propose chunk version) is so fit =
      subst DurableSo (fits_gives (may_propose d.phase d.next_handle d.next_version chunk version (fin.get d.chunks chunk)) (proposed d chunk version) e fit)
      (record { views = proposed_so d chunk so.views (fin.get d.chunks chunk) refl; fewer = so.fewer })
  applied_so d e (Holder chunk server) is so fit = subst DurableSo (fits_gives _ _ e fit) (record { views = so.views; fewer = so.fewer })
  applied_so d e (Said to refusal) is so fit = subst DurableSo (durable_is fit) (record { views = so.views; fewer = so.fewer })
  applied_so d e (Whole c) is so fit = whole_so c e is fit
  applied_so d e (Edited by edit) is so fit = absurd is
  applied_so d e (Prepare epoch moment many) is so fit = absurd is
  applied_so d e (Finalize epoch) is so fit = absurd is
  applied_so d e (RollbackBegin epoch) is so fit = absurd is
  applied_so d e (RollbackCommit epoch told) is so fit = absurd is

  pub replayed_so : (xs : List PlainEntry) (d e : Durable) → AreSo xs → DurableSo d → replayed d xs ≡ Some e → DurableSo e
  replayed_so [] d e are so fit = subst DurableSo (durable_is fit) so
  replayed_so (x ∷ xs) d e are so fit = by_first (applied d x) refl fit (λ n. replayed_so xs n e are.1)
    where
      by_first : (o : Option Durable) → applied d x ≡ o → option_and_then (λ n. replayed n xs) o ≡ Some e → ((n : Durable) → DurableSo n → replayed n xs ≡ Some e → DurableSo e) → DurableSo e
      by_first None was h further = never h
      by_first (Some n) was h further = further n (applied_so d n x are.0 so was) h

  done_so : (d : Durable) (entry : PlainEntry) → RecordSo entry → DurableSo d → DurableSo (unwrap_or (applied d entry) d)
  done_so d entry is so = by_gives (applied d entry) refl
    where
      by_gives : (o : Option Durable) → applied d entry ≡ o → DurableSo (unwrap_or o d)
      by_gives None was = so
      by_gives (Some e) was = applied_so d e entry is so was

  pub all_done : (xs : List PlainEntry) (s : State) → AreSo xs → DurableSo s.durable → DurableSo (fold with_record s xs).durable
  all_done [] s are so = so
  all_done (x ∷ xs) s are so = all_done xs (with_record s x) are.1 (done_so s.durable x are.0 so)

  pub some_so : (many : ℕ) (xs : List PlainEntry) → AreSo xs → AreSo (take many xs)
  some_so zero xs are = tt
  some_so (suc many) [] are = tt
  some_so (suc many) (x ∷ xs) are = (are.0, some_so many xs are.1)
