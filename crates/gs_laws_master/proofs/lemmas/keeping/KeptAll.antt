-- Records lead from what stands to what stands.
use Rattle.std.proofs.Common.{◌≡◌, ◌∙◌, ◌≤◌, Bool, true, false, List, [], ◌∷◌, length, refl, sym, ap, subst, arith, cond, ℕ}
use Rattle.std.specs.Prelude.{Option, Some, None, is_some, option_and_then}
use Rattle.std.specs.List.{AllByRecursion, list_all}
use Rattle.std.specs.FinMap as fin
use Rattle.std.specs.Ordering.{nat_cmp}
use Rattle.std.proofs.lemmas.Bool.{false≢true}
use Rattle.gs_edit.specs.Names.{blank}
use Rattle.gs_edit.specs.Table.{root_rows}
use Rattle.gs_edit.proofs.Occurring.{blank_counted}
use Rattle.gs_journal.specs.declared.version.Version.TheVariants.{Two}
use Rattle.gs_path.specs.Path.{Name, Path, path_total}
use Rattle.gs_master_record.specs.Plain.{PlainCheckpoint, PlainEntry, Edited, Said, Propose, Settle, Prepare, Finalize, RollbackBegin, RollbackCommit, Whole, Holder}
use Rattle.gs_master_record.specs.Writable.{IsEntry}
use Rattle.gs_tree.specs.Find.{at, most_elements}
use Rattle.gs_master_spec.specs.Applied.{applied, is_whole_entry, replayed}
use Rattle.gs_master_spec.specs.Durable.{Durable, Settled, is_listed, start}
use Rattle.gs_master_spec.specs.Handling.{tidied}
use Rattle.gs_master_spec.specs.Whole.{checkpoint_of, whole_of}
use Rattle.gs_laws_master.specs.Promises.{AreKept, IsKept, IsOfKept, IsToldAgain, KeepsAll, LeadsToKept}
use Rattle.gs_master_spec.specs.Replies.{client_cmp}
use Rattle.gs_laws_master.proofs.lemmas.keeping.KeptEdits.{edit_kept}
use Rattle.gs_laws_master.proofs.lemmas.keeping.KeptEpochs.{begin_kept, commit_kept, finalize_kept, prepare_kept}
use Rattle.gs_laws_master.proofs.lemmas.keeping.KeptNames.{kept_by}
use Rattle.gs_laws_master.proofs.lemmas.keeping.KeptRecords.{holder_kept, propose_kept, said_kept, settle_kept}
use Rattle.gs_laws_master.proofs.lemmas.keeping.KeptViews.{view_stays}
use Rattle.gs_laws_master.proofs.lemmas.telling.ToldAgain.{get_tidied, still_prepared, tells_all}
use Rattle.gs_laws_master.proofs.lemmas.names.Parents.{grown_by}
use Rattle.gs_laws_master.proofs.lemmas.spelling.Spelled.{is_once, is_plain}

pub keeps_all : (entry : PlainEntry) → is_whole_entry entry ≡ false → KeepsAll entry
keeps_all (Edited by edit) not_whole d next written k e = edit_kept d next by edit written k e
keeps_all (Said to refusal) not_whole d next written k e = said_kept d next to refusal k e
keeps_all (Propose chunk version) not_whole d next written k e = propose_kept d next chunk version k e
keeps_all (Settle v) not_whole d next written k e = settle_kept d next v written k e
keeps_all (Prepare epoch moment chunks) not_whole d next written k e = prepare_kept d next epoch moment chunks k e
keeps_all (Finalize epoch) not_whole d next written k e = finalize_kept d next epoch k e
keeps_all (RollbackBegin epoch) not_whole d next written k e = begin_kept d next epoch k e
keeps_all (RollbackCommit epoch answers) not_whole d next written k e = commit_kept d next epoch answers written k e
keeps_all (Whole c) not_whole d next written k e = absurd (false≢true (sym not_whole))
keeps_all (Holder chunk server) not_whole d next written k e = holder_kept d next chunk server k e

-- ---- a new store

blank_at : (q : Path) → fin.get blank.tree q ≡ at root_rows q
blank_at q = fin.get-from_entries path_total root_rows q

none_some : {A : Type 0} {P : Type 0} (o : Option A) → o ≡ None → is_some o ≡ true → P
none_some o none some = absurd (false≢true (sym (ap is_some none) ∙ some))

pub only_root : (x : Name) (p : Path) {P : Type 0} → is_some (fin.get blank.tree (x ∷ p)) ≡ true → P
only_root x p some = none_some (fin.get blank.tree (x ∷ p)) (blank_at (x ∷ p)) some

at_root : (P : Path → Type 0) → P [] → (q : Path) → is_some (fin.get blank.tree q) ≡ true → P q
at_root P root [] some = root
at_root P root (x ∷ p) some = only_root x p some

blank_kept : AreKept blank
blank_kept = kept_by blank (record {
  grown = grown_by (fin.get blank.tree) (blank_at []) (λ x p some. only_root x p some);
  within = at_root (λ q. length q ≤ most_elements) (omega arith);
  plain = at_root (λ q. list_all is_plain q ≡ true) refl;
  once = at_root (λ q. list_all is_once q ≡ true) refl;
  counted = blank_counted;
  counts = λ chunk count is. absurd (false≢true (sym (ap is_some (fin.get-empty nat_cmp chunk)) ∙ ap is_some is));
})

pub start_kept : IsKept start
start_kept = record {
  names = blank_kept;
  settled = λ chunk listed. none_some (fin.get start.names.refs chunk) (fin.get-empty nat_cmp chunk) listed;
  handles = λ chunk some. none_some (fin.get start.chunks chunk) (fin.get-empty nat_cmp chunk) some;
  views = λ chunk s is. none_some (fin.get start.chunks chunk) (fin.get-empty nat_cmp chunk) (ap is_some is);
  now = omega arith;
  ends = refl;
  ordinary = λ u. (refl, λ chunk. fin.get-empty nat_cmp chunk);
  prepared = λ chunk p is. none_some (fin.get start.prepared chunk) (fin.get-empty nat_cmp chunk) (ap is_some is);
  back = (blank, refl, blank_kept);
  restored = λ names chunk undone stands some. absurd (false≢true (sym stands));
  still = λ names chunk undone stands some. absurd (false≢true (sym stands));
  replies = λ client reply is. none_some (fin.get start.replies client) (fin.get-empty client_cmp client) (ap is_some is);
}

-- ---- a checkpoint of what stood

pub tidied_kept : (d : Durable) → IsKept d → IsKept (tidied d)
tidied_kept d k = record {
  names = k.names;
  settled = λ q listed. ap is_some (get_tidied d q ∙ ap (λ b. cond b (fin.get d.chunks q) None) listed) ∙ k.settled q listed;
  handles = λ q some. k.handles q (was_some q (is_listed d q) (sym (ap is_some (get_tidied d q)) ∙ some));
  views = λ q s has. view_stays d (tidied d) s.view (λ x g. g) (omega arith) (k.views q s (was q s (is_listed d q) (sym (get_tidied d q) ∙ has)));
  now = k.now;
  ends = k.ends;
  ordinary = k.ordinary;
  prepared = λ q p has. (let h = k.prepared q p has in (h.0, view_stays d (tidied d) p.view (λ x g. g) (omega arith) h.1, h.2));
  back = k.back;
  restored = λ names q undone stands some. still_prepared d q (k.restored names q undone stands some) (k.still names q undone stands some);
  still = k.still;
  replies = k.replies;
}
  where
    was_some : (q : ℕ) (b : Bool) → is_some (cond b (fin.get d.chunks q) None) ≡ true → is_some (fin.get d.chunks q) ≡ true
    was_some q true h = h
    was_some q false h = absurd (false≢true h)

    was : (q : ℕ) (s : Settled) (b : Bool) → cond b (fin.get d.chunks q) None ≡ Some s → fin.get d.chunks q ≡ Some s
    was q s true h = h
    was q s false h = absurd (false≢true (ap is_some h))

durable_is : {a b : Durable} → ◌≡◌ {A = Option Durable} (Some a) (Some b) → a ≡ b
durable_is h = cc

told_kept : (c : PlainCheckpoint) (d next : Durable) → IsKept d → c ≡ checkpoint_of d → whole_of c ≡ Some next → IsKept next
told_kept c d next k is e = subst IsKept (durable_is (sym (ap whole_of is ∙ tells_all d k) ∙ e)) (tidied_kept d k)

keeps_any : (entry : PlainEntry) → IsOfKept entry → KeepsAll entry
unfolding applied
keeps_any (Edited by edit) own d next written k e = edit_kept d next by edit written k e
keeps_any (Said to refusal) own d next written k e = said_kept d next to refusal k e
keeps_any (Propose chunk version) own d next written k e = propose_kept d next chunk version k e
keeps_any (Settle v) own d next written k e = settle_kept d next v written k e
keeps_any (Prepare epoch moment chunks) own d next written k e = prepare_kept d next epoch moment chunks k e
keeps_any (Finalize epoch) own d next written k e = finalize_kept d next epoch k e
keeps_any (RollbackBegin epoch) own d next written k e = begin_kept d next epoch k e
keeps_any (RollbackCommit epoch answers) own d next written k e = commit_kept d next epoch answers written k e
keeps_any (Whole c) own d next written k e = told_kept c own.0 next own.1.0 own.1.1 e
keeps_any (Holder chunk server) own d next written k e = holder_kept d next chunk server k e

-- ---- many records

replay_kept : (entries : List PlainEntry) (d next : Durable) → IsKept d → AllByRecursion IsOfKept entries → AllByRecursion (IsEntry Two) entries → replayed d entries ≡ Some next → IsKept next
replay_kept [] d next k own written e = subst IsKept (durable_is e) k
replay_kept (entry ∷ entries) d next k own written e =
    each (applied d entry) refl (λ n is rest. replay_kept entries n next (keeps_any entry own.0 d n written.0 k is) own.1 written.1 rest) e
  where
    each : (o : Option Durable) → applied d entry ≡ o → ((n : Durable) → applied d entry ≡ Some n → replayed n entries ≡ Some next → IsKept next) → option_and_then (λ n. replayed n entries) o ≡ Some next → IsKept next
    each None is all h = absurd (false≢true (ap is_some h))
    each (Some n) is all h = all n is h

pub leads_to_kept : LeadsToKept
leads_to_kept entries d own written e = replay_kept entries start d start_kept own written e

pub told_again : IsToldAgain
told_again entries d own written e = tells_all d (leads_to_kept entries d own written e)
