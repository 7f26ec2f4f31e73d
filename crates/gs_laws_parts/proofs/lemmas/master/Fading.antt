-- Where what is kept of the chunk only goes, the master's part is led on by events that forget it or ask nobody any more.
use Rattle.std.proofs.Common.{◌≡◌, ℕ, ◌≤◌, ◌⊎◌, Bool, true, false, cond, ◌||◌, List, [], ◌∷◌, Option, Some, None, refl, sym, ap, subst, ◌∙◌}
use Rattle.std.specs.Prelude.{◌%◌, is_some, option_and_then, slice_get, Result, Ok, Err}
use Rattle.std.specs.FinMap as fin
use Rattle.std.specs.List.{AllByRecursion, list_all}
use Rattle.std.proofs.lemmas.Bool.{false≢true, and_parts}
use Rattle.gs_base.specs.Members.{is_member}
use Rattle.gs_base.specs.Told.{IsNumber}
use Rattle.gs_base.specs.declared.numbers.ReqId.{ReqId}
use Rattle.gs_base.specs.declared.refusal.Refusal.{Refusal}
use Rattle.gs_edit.proofs.References.{among}
use Rattle.gs_edit.specs.View.{NamesView}
use Rattle.gs_master_record.specs.Plain.{PlainEdit, PlainEntry, Edited, Said, Propose, Settle, Prepare, Finalize, RollbackBegin, RollbackCommit, Whole, Holder}
use Rattle.gs_master_record.specs.declared.checkpoint.Phase.{Phase}
use Rattle.gs_master_record.specs.declared.checkpoint.Phase.TheVariants.{Ordinary, Upgrade, Rolling}
use Rattle.gs_master_spec.specs.Applied.{after_edit, applied, forgotten_by, may_edit, replayed, with_edit, with_reply, without_chunks}
use Rattle.gs_master_spec.specs.Chunks.{has_entry, is_any_in}
use Rattle.gs_master_spec.specs.Durable.{Durable, Settled, is_given, is_listed, is_ordinary, is_rolling, is_upgrade, prepared_of, prepared_view, upgrade_epoch}
use Rattle.gs_master_spec.specs.Handling.{tidied}
use Rattle.gs_master_spec.specs.State.{State}
use Rattle.gs_master_spec.specs.Undoing.{all_undone, edited_names}
use Rattle.gs_master_spec.specs.declared.asking.Asking.{Asking}
use Rattle.gs_master_spec.specs.declared.asking.Prepared.{Prepared}
use Rattle.gs_laws_master.specs.Promises.{IsKept, goes_on_within, prepared_behind}
use Rattle.gs_laws_master.proofs.lemmas.upgrades.Beginnings.{fits_gives}
use Rattle.gs_laws_master.proofs.lemmas.keeping.Kept.{keeps_prepared}
use Rattle.gs_laws_master.proofs.lemmas.keeping.KeptEdits.{forgets_only, get_left}
use Rattle.gs_laws_master.proofs.lemmas.upgrades.LedBack.{leads_back}
use Rattle.gs_laws_master.proofs.lemmas.telling.ToldAgain.{get_tidied}
use Rattle.gs_laws_moves.proofs.lemmas.moves.Leaving.{AskedFrom}
use Rattle.gs_laws_chunk.specs.machine.Stamps.{epoch_of, radix}
use Rattle.gs_laws_chunk.specs.machine.Machine.{Entry, ChunkWorld}
use Rattle.gs_laws_chunk.specs.machine.Events.{GivesUp, Goes, Rests, Retires, given_up, nobody, retired}
use Rattle.gs_laws_parts.specs.master.Laws.{Reaches}
use Rattle.gs_laws_parts.specs.master.Showing.{IsPast, ShowsDurable, ShowsEntry}

-- ---- what is durable

-- What is settled of the chunk goes or stays, and so does its prepared view; what takes edits back leads to the same names.
pub record FadesDurable (chunk : ℕ) (d next : Durable) : Type 0 where
  pub epoch : next.epoch ≡ d.epoch
  pub ends : next.ends ≡ d.ends
  pub phase : next.phase ≡ d.phase
  pub handles : next.next_handle ≡ d.next_handle
  pub versions : next.next_version ≡ d.next_version
  pub settled : (x : Settled) → fin.get next.chunks chunk ≡ Some x → fin.get d.chunks chunk ≡ Some x
  pub prepared : (p : Prepared) → prepared_view next chunk ≡ Some p → prepared_view d chunk ≡ Some p
  pub undone : (names : NamesView) → is_ordinary d.phase ≡ false → all_undone next.inverses next.names ≡ Some names → all_undone d.inverses d.names ≡ Some names

pub fades_itself : (chunk : ℕ) (d : Durable) → FadesDurable chunk d d
fades_itself chunk d = record { epoch = refl; ends = refl; phase = refl; handles = refl; versions = refl; settled = λ x h. h; prepared = λ p h. h; undone = λ names o h. h }

pub fades_then : (chunk : ℕ) (a b c : Durable) → FadesDurable chunk a b → FadesDurable chunk b c → FadesDurable chunk a c
fades_then chunk a b c f g = record {
  epoch = g.epoch ∙ f.epoch;
  ends = g.ends ∙ f.ends;
  phase = g.phase ∙ f.phase;
  handles = g.handles ∙ f.handles;
  versions = g.versions ∙ f.versions;
  settled = λ x h. f.settled x (g.settled x h);
  prepared = λ p h. f.prepared p (g.prepared p h);
  undone = λ names o h. f.undone names o (g.undone names (ap is_ordinary f.phase ∙ o) h);
}

none_at : (phase : Phase) (epoch : ℕ) → is_ordinary phase ≡ true → upgrade_epoch phase epoch ≡ None
none_at Ordinary epoch e = refl
none_at Upgrade epoch e = absurd (false≢true e)
none_at Rolling epoch e = absurd (false≢true e)

-- without an upgrade there are no prepared views
pub bare_view : (chunk : ℕ) (d : Durable) → is_ordinary d.phase ≡ true → prepared_view d chunk ≡ None
bare_view chunk d is = ap (λ u. prepared_of u (fin.get d.prepared chunk) (fin.get d.chunks chunk)) (none_at d.phase d.epoch is)

-- a record that goes on within an upgrade, and takes no holder, leaves the prepared view
pub prepared_stays : (chunk : ℕ) (d next : Durable) (entry : PlainEntry) → goes_on_within entry ≡ true → ((o : Option Prepared) → prepared_behind entry chunk o ≡ o) → applied d entry ≡ Some next → next.phase ≡ d.phase → prepared_view next chunk ≡ prepared_view d chunk
prepared_stays chunk d next entry within same fit phase = by_phase (is_ordinary d.phase) refl
  where
    by_phase : (b : Bool) → is_ordinary d.phase ≡ b → prepared_view next chunk ≡ prepared_view d chunk
    by_phase true is = bare_view chunk next (ap is_ordinary phase ∙ is) ∙ sym (bare_view chunk d is)
    by_phase false is = keeps_prepared entry d next is within fit chunk ∙ same (prepared_view d chunk)

module _ (chunk : ℕ) where
  -- a record of an edit, or of a refusal
  abbrev pub fades : PlainEntry → Bool
  fades (Edited by edit) = true
  fades (Said to refusal) = true
  fades (Propose q version) = false
  fades (Settle v) = false
  fades (Prepare epoch moment many) = false
  fades (Finalize epoch) = false
  fades (RollbackBegin epoch) = false
  fades (RollbackCommit epoch answers) = false
  fades (Whole c) = false
  fades (Holder q server) = false

  record Fields (d next : Durable) : Type 0 where
    epoch : next.epoch ≡ d.epoch
    ends : next.ends ≡ d.ends
    phase : next.phase ≡ d.phase
    handles : next.next_handle ≡ d.next_handle
    versions : next.next_version ≡ d.next_version
    settled : (x : Settled) → fin.get next.chunks chunk ≡ Some x → fin.get d.chunks chunk ≡ Some x

  fields_fade : (d next : Durable) (entry : PlainEntry) → IsKept d → goes_on_within entry ≡ true → ((o : Option Prepared) → prepared_behind entry chunk o ≡ o) → applied d entry ≡ Some next → Fields d next → FadesDurable chunk d next
  fields_fade d next entry kept within same fit f = record {
    epoch = f.epoch;
    ends = f.ends;
    phase = f.phase;
    handles = f.handles;
    versions = f.versions;
    settled = f.settled;
    prepared = λ p is. sym (prepared_stays chunk d next entry within same fit f.phase) ∙ is;
    undone = λ names stands is. sym (leads_back entry d next kept stands within fit) ∙ is;
  }

  edit_fields : (d : Durable) (by : ReqId) (edit : PlainEdit) (names : NamesView) → Fields d (with_edit d by edit names)
  edit_fields d by edit names = record {
    epoch = ap (λ (x : Durable). x.epoch) only;
    ends = ap (λ (x : Durable). x.ends) only;
    phase = ap (λ (x : Durable). x.phase) only;
    handles = ap (λ (x : Durable). x.next_handle) only;
    versions = ap (λ (x : Durable). x.next_version) only;
    settled = λ x has. by_left (among chunk (forgotten_by edit)) x (sym (get_left d (forgotten_by edit) chunk) ∙ has);
  }
    where
      only : without_chunks d (forgotten_by edit) ≡ record d { chunks = (without_chunks d (forgotten_by edit)).chunks; prepared = (without_chunks d (forgotten_by edit)).prepared }
      only = forgets_only d (forgotten_by edit)

      by_left : (b : Bool) (x : Settled) → cond b None (fin.get d.chunks chunk) ≡ Some x → fin.get d.chunks chunk ≡ Some x
      by_left true x h = absurd (false≢true (ap is_some h))
      by_left false x h = h

  edited_fields : (d next : Durable) (by : ReqId) (edit : PlainEdit) (names : Result NamesView Refusal) → after_edit d by edit names ≡ Some next → Fields d next
  edited_fields d next by edit (Ok names) fit = subst (Fields d) (fits_gives (may_edit d edit) (with_edit d by edit names) next fit).1 (edit_fields d by edit names)
  edited_fields d next by edit (Err refusal) fit = absurd (false≢true (ap is_some fit))

  said_fields : (d next : Durable) (to : ReqId) (refusal : Refusal) → record d { replies = with_reply d.replies to (Err refusal) } ≡ next → Fields d next
  said_fields d next to refusal is = subst (Fields d) is (record { epoch = refl; ends = refl; phase = refl; handles = refl; versions = refl; settled = λ x h. h })

  pub record_fades : (d next : Durable) (entry : PlainEntry) → fades entry ≡ true → IsKept d → applied d entry ≡ Some next → FadesDurable chunk d next
  unfolding applied
  record_fades d next (Edited by edit) plain kept fit = fields_fade d next (Edited by edit) kept refl (λ o. refl) fit (edited_fields d next by edit (edited_names edit d.names) fit)
  record_fades d next (Said to refusal) plain kept fit =
      fields_fade d next (Said to refusal) kept refl (λ o. refl) fit (said_fields d next to refusal (fits_gives true (record d { replies = with_reply d.replies to (Err refusal) }) next fit).1)
  record_fades d next entry plain kept fit = absurd (false≢true plain)

  durable_is : {a b : Durable} → ◌≡◌ {A = Option Durable} (Some a) (Some b) → a ≡ b
  durable_is k = cc

  -- it leaves what stands
  abbrev pub Keeps : PlainEntry → Type 0
  Keeps entry = (d next : Durable) → IsKept d → applied d entry ≡ Some next → IsKept next

  -- what such records leave stands, and so does each state between them
  pub records_fade : (entries : List PlainEntry) (d next : Durable) → list_all fades entries ≡ true → AllByRecursion Keeps entries → IsKept d → replayed d entries ≡ Some next → FadesDurable chunk d next × IsKept next
  records_fade [] d next plain keep kept fit = (subst (FadesDurable chunk d) (durable_is fit) (fades_itself chunk d), subst IsKept (durable_is fit) kept)
  records_fade (entry ∷ entries) d next plain keep kept fit =
      let parts = and_parts (fades entry) (list_all fades entries) plain in
      by_first (applied d entry) refl fit (λ n is rest.
      let more = records_fade entries n next parts.1 keep.1 (keep.0 d n kept is) rest in
      (fades_then chunk d n next (record_fades d n entry parts.0 kept is) more.0, more.1))
    where
      by_first : (o : Option Durable) → applied d entry ≡ o → option_and_then (λ n. replayed n entries) o ≡ Some next → ((n : Durable) → applied d entry ≡ Some n → replayed n entries ≡ Some next → FadesDurable chunk d next × IsKept next) → FadesDurable chunk d next × IsKept next
      by_first None is h rest = absurd (false≢true (ap is_some h))
      by_first (Some n) is h rest = rest n is h

  -- a checkpoint leaves chunks out that stand in no file and never did
  pub tidied_fades : (d : Durable) → FadesDurable chunk d (tidied d)
  tidied_fades d = record {
    epoch = refl;
    ends = refl;
    phase = refl;
    handles = refl;
    versions = refl;
    settled = λ x has. by_listed (is_listed d chunk) x (sym (get_tidied d chunk) ∙ has);
    prepared = λ p is. each (upgrade_epoch d.phase d.epoch) (fin.get d.prepared chunk) (is_listed d chunk) p (sym (ap (prepared_of (upgrade_epoch d.phase d.epoch) (fin.get d.prepared chunk)) (get_tidied d chunk)) ∙ is);
    undone = λ names stands is. is;
  }
    where
      by_listed : (b : Bool) (x : Settled) → cond b (fin.get d.chunks chunk) None ≡ Some x → fin.get d.chunks chunk ≡ Some x
      by_listed true x h = h
      by_listed false x h = absurd (false≢true (ap is_some h))

      each : (u : Option ℕ) (kept : Option Prepared) (b : Bool) (p : Prepared) → prepared_of u kept (cond b (fin.get d.chunks chunk) None) ≡ Some p → prepared_of u kept (fin.get d.chunks chunk) ≡ Some p
      each None kept b p h = absurd (false≢true (ap is_some h))
      each (Some upgrade) (Some kept) b p h = h
      each (Some upgrade) None true p h = h
      each (Some upgrade) None false p h = absurd (false≢true (ap is_some h))

-- ---- and is shown

same_past : (d next : Durable) (top : ℕ) → next.epoch ≡ d.epoch → next.next_version ≡ d.next_version → IsPast d top → IsPast next top
same_past d next top epoch version p = record { epoch = subst (λ n. epoch_of top ≤ n) (sym epoch) p.epoch; given = subst (λ v. (top % radix ≡ 0) ⊎ (is_given v (top % radix) ≡ true)) (sym version) p.given }

-- Of a chunk that is still known what is settled has stayed.
pub fades_shows : (chunk : ℕ) (d next : Durable) (e : Entry) (known : Bool) (asked : ℕ → Bool) → FadesDurable chunk d next → (known ≡ true → (e.is_known ≡ true) × (fin.get next.chunks chunk ≡ fin.get d.chunks chunk)) → (is_listed next chunk ≡ true → known ≡ true)
    → ShowsDurable chunk d e → ShowsDurable chunk next (record e { asked = asked; is_known = known })
fades_shows chunk d next e known asked f still listed k = record {
  epoch = k.epoch ∙ sym f.epoch;
  how = λ n end is. k.how n end (sym (ap (λ xs. slice_get xs n) f.ends) ∙ is);
  upgrade = λ is. k.upgrade (sym (ap is_upgrade f.phase) ∙ is);
  rolling = k.rolling ∙ sym (ap is_rolling f.phase);
  given = subst (λ n. is_given n chunk ≡ true) (sym f.handles) k.given;
  counter = subst IsNumber (sym f.versions) k.counter;
  behind = k.behind;
  past = same_past d next e.top f.epoch f.versions k.past;
  settled = λ x has. (let s = k.settled x (f.settled x has) in record { view = s.view; moving = s.moving; still = s.still });
  bare = λ is none. (let so = still is in k.bare so.0 (sym so.1 ∙ none));
  listed = listed;
  was = λ p is so. k.was p (f.prepared p is) (still so).0;
  prepared = λ p is was. (let s = k.prepared p (f.prepared p is) was in record { view = s.view; holders = s.holders });
  restores = λ names phase is there. (let stands = sym (ap is_ordinary f.phase) ∙ phase in k.restores names stands (f.undone names stands is) there);
}

-- ---- what is in memory

-- An entry that is gone stays gone, and of one that stays what is settled stays. What is asked was asked before, of a chunk that is known still;
-- and a chunk that is known and isn't settled is asked for.
pub record FadesMemory (chunk : ℕ) (s u : State) : Type 0 where
  pub gone : has_entry u chunk ≡ true → has_entry s chunk ≡ true
  pub kept : has_entry u chunk ≡ true → fin.get u.durable.chunks chunk ≡ fin.get s.durable.chunks chunk
  pub asked : AskedFrom chunk s.volatile.moving u.volatile.moving
  pub known : is_some (fin.get u.volatile.moving chunk) ≡ true → has_entry u chunk ≡ true
  pub sought : has_entry u chunk ≡ true → fin.get u.durable.chunks chunk ≡ None → is_some (fin.get u.volatile.moving chunk) ≡ true

pub or_left : (a b : Bool) → a ≡ true → (a || b) ≡ true
or_left true b h = refl
or_left false b h = absurd (false≢true h)

-- Then it is led there by nothing, by giving up who is asked, or by forgetting the chunk.
pub fades_reaches : (chunk : ℕ) (s u : State) (w : ChunkWorld) → FadesDurable chunk s.durable u.durable → FadesMemory chunk s u → ShowsEntry chunk s w.entry → Reaches chunk w u
fades_reaches chunk s u w f m k = by_entry (has_entry u chunk) refl
  where
    listed : is_listed u.durable chunk ≡ true → has_entry u chunk ≡ true
    listed is = or_left (is_listed u.durable chunk) (is_member u.volatile.unplaced chunk) is

    known : has_entry u chunk ≡ true → w.entry.is_known ≡ true
    known is = k.memory.known ∙ m.gone is

    durable : (b : Bool) → has_entry u chunk ≡ b → (asked : ℕ → Bool) → ShowsDurable chunk u.durable (record (w.entry) { asked = asked; is_known = b })
    durable b is asked = fades_shows chunk s.durable u.durable w.entry b asked f (λ so. (known (is ∙ so), m.kept (is ∙ so))) (λ there. sym is ∙ listed there) k.durable

    gives_up : has_entry u chunk ≡ true → fin.get u.volatile.moving chunk ≡ None → Reaches chunk w u
    gives_up is none = record {
      world = given_up w;
      leads = Goes w GivesUp Rests tt;
      masters = (tt, refl);
      members = refl;
      epoch = refl;
      view = refl;
      known = record { born = refl; view = refl; top = refl; current = refl; stood = refl; came = λ known. known };
      sent = refl;
      shows = record {
        durable = subst (λ b. ShowsDurable chunk u.durable (record (w.entry) { asked = nobody; is_known = b })) (sym (known is)) (durable true is nobody);
        memory = record {
          known = known is ∙ sym is;
          asked = λ j. sym (ap (is_any_in j) none);
          asking = λ a has. absurd (false≢true (sym (ap is_some none) ∙ ap is_some has));
          sought = m.sought;
        };
      };
    }

    asks_on : has_entry u chunk ≡ true → (b : Asking) → fin.get u.volatile.moving chunk ≡ Some b → Reaches chunk w u
    asks_on is b has =
        let was = m.asked b has in
        let same : (j : ℕ) → is_any_in j (Some b) ≡ is_any_in j (Some was.0) = λ j. ap (λ x. is_any_in j (Some x)) was.2 in
        record {
          world = w;
          leads = Rests;
          masters = tt;
          members = refl;
          epoch = refl;
          view = refl;
          known = record { born = refl; view = refl; top = refl; current = refl; stood = refl; came = λ known. known };
          sent = refl;
          shows = record {
            durable = subst (λ b. ShowsDurable chunk u.durable (record (w.entry) { asked = w.entry.asked; is_known = b })) (sym (known is)) (durable true is w.entry.asked);
            memory = record {
              known = known is ∙ sym is;
              asked = λ j. k.memory.asked j ∙ ap (is_any_in j) was.1 ∙ sym (same j) ∙ sym (ap (is_any_in j) has);
              asking = λ c got. (let old = k.memory.asking was.0 was.1 in (ap (λ (x : Asking). x.stamp) (asking_is (sym got ∙ has) ∙ was.2) ∙ old.0, old.1, known is));
              sought = m.sought;
            };
          };
        }
      where
        asking_is : {x y : Asking} → ◌≡◌ {A = Option Asking} (Some x) (Some y) → x ≡ y
        asking_is h = cc

    retires : has_entry u chunk ≡ false → Reaches chunk w u
    retires is = record {
      world = retired w;
      leads = Goes w Retires Rests tt;
      masters = (tt, refl);
      members = refl;
      epoch = refl;
      view = refl;
      known = record { born = refl; view = refl; top = refl; current = refl; stood = refl; came = λ known. absurd (false≢true known) };
      sent = refl;
      shows = record {
        durable = durable false is nobody;
        memory = record {
          known = sym is;
          asked = λ j. sym (none_asked j (fin.get u.volatile.moving chunk) refl);
          asking = λ a has. absurd (false≢true (sym is ∙ m.known (ap is_some has)));
          sought = λ entry none. absurd (false≢true (sym is ∙ entry));
        };
      };
    }
      where
        none_asked : (j : ℕ) (o : Option Asking) → fin.get u.volatile.moving chunk ≡ o → is_any_in j (fin.get u.volatile.moving chunk) ≡ false
        none_asked j None has = ap (is_any_in j) has
        none_asked j (Some a) has = absurd (false≢true (sym is ∙ m.known (ap is_some has)))

    by_asked : has_entry u chunk ≡ true → (o : Option Asking) → fin.get u.volatile.moving chunk ≡ o → Reaches chunk w u
    by_asked is None none = gives_up is none
    by_asked is (Some b) has = asks_on is b has

    by_entry : (b : Bool) → has_entry u chunk ≡ b → Reaches chunk w u
    by_entry true is = by_asked is (fin.get u.volatile.moving chunk) refl
    by_entry false is = retires is
