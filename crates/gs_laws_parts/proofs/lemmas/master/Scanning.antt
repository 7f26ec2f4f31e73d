-- A scan that is cut within its records: the master that is started again on those that stand is reached.
use Rattle.std.proofs.Common.{◌≡◌, ℕ, zero, suc, inl, inr, Bool, true, false, cond, ◌&&◌, ◌||◌, List, [], ◌∷◌, Option, Some, None, refl, sym, ap, subst, ◌∙◌}
use Rattle.std.specs.Prelude.{is_some, map, option_and_then, take, Result, Ok, Err}
use Rattle.std.specs.FinMap as fin
use Rattle.std.specs.List.{AllByRecursion, list_all}
use Rattle.std.specs.Ordering.{nat_cmp}
use Rattle.std.proofs.lemmas.Bool.{false≢true, and_parts}
use Rattle.gs_base.specs.declared.numbers.ReqId.{ReqId}
use Rattle.gs_base.specs.declared.refusal.Refusal.{Refusal}
use Rattle.gs_edit.proofs.References.{among}
use Rattle.gs_edit.specs.View.{NamesView}
use Rattle.gs_path.specs.Path.{Path}
use Rattle.gs_master_record.specs.Plain.{PlainEdit, PlainEntry, Remove, Forget, Edited}
use Rattle.gs_master_spec.specs.Applied.{after_edit, applied, chunk_of_edit, forgotten_by, may_edit, replayed, with_edit}
use Rattle.gs_master_spec.specs.Chunks.{has_entry}
use Rattle.gs_master_spec.specs.Durable.{Durable, is_listed}
use Rattle.gs_master_spec.specs.Handling.{restarted}
use Rattle.gs_master_spec.specs.Settling.{own_request}
use Rattle.gs_master_spec.specs.State.{State, Log}
use Rattle.gs_master_spec.specs.Undoing.{edited_names}
use Rattle.gs_master_spec.specs.Working.{scan_edits}
use Rattle.gs_laws_master.specs.Promises.{IsKept}
use Rattle.gs_laws_master.proofs.lemmas.upgrades.Beginnings.{fits_gives}
use Rattle.gs_laws_master.proofs.lemmas.keeping.KeptEdits.{WasListed, get_left, listed_before}
use Rattle.gs_laws_chunk.specs.machine.Machine.{ChunkWorld}
use Rattle.gs_laws_parts.proofs.lemmas.master.Ending.{scan_keeps}
use Rattle.gs_laws_moves.proofs.lemmas.moves.GivenNames.{names_given}
use Rattle.gs_laws_parts.proofs.lemmas.master.Fading.{Keeps, fades, fades_reaches, or_left, records_fade}
use Rattle.gs_laws_parts.specs.master.Laws.{Reaches, ScansCutReach}
use Rattle.gs_laws_parts.specs.master.Showing.{ShowsEntry}

module _ (chunk : ℕ) where
  -- a record of an edit that takes something out
  abbrev takes : PlainEntry → Bool
  takes (Edited by edit) = takes_out edit
    where
      takes_out : PlainEdit → Bool
      takes_out (Remove p) = true
      takes_out (Forget chunks) = true
      takes_out edit = false
  takes entry = false

  -- what is listed afterwards was, and what is settled of it stays
  abbrev Before : Durable → Durable → Type 0
  Before d next = is_listed next chunk ≡ true → (is_listed d chunk ≡ true) × (fin.get next.chunks chunk ≡ fin.get d.chunks chunk)

  edit_before : (d next : Durable) (by : ReqId) (edit : PlainEdit) → (chunk_of_edit edit ≡ None) → applied d (Edited by edit) ≡ Some next → Before d next
  unfolding applied
  edit_before d next by edit none fit listed = by_was (listed_before edit d.names next.names chunk (names_given d next by edit fit) listed)
    where
      same : among chunk (forgotten_by edit) ≡ false → (names : Result NamesView Refusal) → after_edit d by edit names ≡ Some next → fin.get next.chunks chunk ≡ fin.get d.chunks chunk
      same out (Ok names) h =
          ap (λ (x : Durable). fin.get x.chunks chunk) (sym (fits_gives (may_edit d edit) (with_edit d by edit names) next h).1) ∙ get_left d (forgotten_by edit) chunk ∙ ap (λ b. cond b None (fin.get d.chunks chunk)) out
      same out (Err refusal) h = absurd (false≢true (ap is_some h))

      by_was : WasListed edit d.names.refs chunk → (is_listed d chunk ≡ true) × (fin.get next.chunks chunk ≡ fin.get d.chunks chunk)
      by_was (inl new) = absurd (false≢true (sym (ap is_some none) ∙ ap is_some new))
      by_was (inr was) = (was.0, same was.1 (edited_names edit d.names) fit)

  record_before : (d next : Durable) (entry : PlainEntry) → takes entry ≡ true → applied d entry ≡ Some next → Before d next
  record_before d next (Edited by (Remove p)) out fit = edit_before d next by (Remove p) refl fit
  record_before d next (Edited by (Forget chunks)) out fit = edit_before d next by (Forget chunks) refl fit
  record_before d next (Edited by edit) out fit = absurd (false≢true out)
  record_before d next entry out fit = absurd (false≢true out)

  durable_is : {a b : Durable} → ◌≡◌ {A = Option Durable} (Some a) (Some b) → a ≡ b
  durable_is k = cc

  records_before : (entries : List PlainEntry) (d next : Durable) → list_all takes entries ≡ true → replayed d entries ≡ Some next → Before d next
  records_before [] d next out fit listed = subst (Before d) (durable_is fit) (λ was. (was, refl)) listed
  records_before (entry ∷ entries) d next out fit listed =
      let parts = and_parts (takes entry) (list_all takes entries) out in
      by_first (applied d entry) refl fit (λ n is rest. let later = records_before entries n next parts.1 rest listed in let first = record_before d n entry parts.0 is later.0 in (first.0, later.1 ∙ first.1))
    where
      by_first : (o : Option Durable) → applied d entry ≡ o → option_and_then (λ n. replayed n entries) o ≡ Some next → ((n : Durable) → applied d entry ≡ Some n → replayed n entries ≡ Some next → (is_listed d chunk ≡ true) × (fin.get next.chunks chunk ≡ fin.get d.chunks chunk))
          → (is_listed d chunk ≡ true) × (fin.get next.chunks chunk ≡ fin.get d.chunks chunk)
      by_first None is h rest = absurd (false≢true (ap is_some h))
      by_first (Some n) is h rest = rest n is h

  -- the first ones of a scan
  all_taken : (f : PlainEntry → Bool) (many : ℕ) (xs : List PlainEntry) → list_all f xs ≡ true → list_all f (take many xs) ≡ true
  all_taken f zero xs all = refl
  all_taken f (suc many) [] all = refl
  all_taken f (suc many) (x ∷ xs) all = (let parts = and_parts (f x) (list_all f xs) all in ap (λ b. b && list_all f (take many xs)) parts.0 ∙ all_taken f many xs parts.1)

  each_taken : (P : PlainEntry → Type 0) (many : ℕ) (xs : List PlainEntry) → AllByRecursion P xs → AllByRecursion P (take many xs)
  each_taken P zero xs all = tt
  each_taken P (suc many) [] all = tt
  each_taken P (suc many) (x ∷ xs) all = (all.0, each_taken P many xs all.1)

  scan_takes : (removed : List Path) (forgotten : List ℕ) → list_all takes (map (Edited own_request) (scan_edits removed forgotten)) ≡ true
  scan_takes [] [] = refl
  scan_takes [] (c ∷ forgotten) = refl
  scan_takes (path ∷ removed) forgotten = scan_takes removed forgotten

  takes_fades : (entry : PlainEntry) → takes entry ≡ true → fades chunk entry ≡ true
  takes_fades (Edited by edit) h = refl
  takes_fades entry h = absurd (false≢true h)

  all_fade : (entries : List PlainEntry) → list_all takes entries ≡ true → list_all (fades chunk) entries ≡ true
  all_fade [] h = refl
  all_fade (entry ∷ entries) h = (let parts = and_parts (takes entry) (list_all takes entries) h in ap (λ b. b && list_all (fades chunk) entries) (takes_fades entry parts.0) ∙ all_fade entries parts.1)

  -- the master starts again on records that take something out
  taken_reaches : (s : State) (w : ChunkWorld) (entries : List PlainEntry) (d : Durable) (log : Log) → list_all takes entries ≡ true → AllByRecursion (Keeps chunk) entries → IsKept s.durable → replayed s.durable entries ≡ Some d → ShowsEntry chunk s w.entry → Reaches chunk w (restarted d log)
  taken_reaches s w entries d log out keep kept fit k =
      let durable = records_fade chunk entries s.durable d (all_fade entries out) keep kept fit in
      fades_reaches chunk s u w durable.0 (record {
        gone = λ entry. or_left (is_listed s.durable chunk) _ (before entry).0;
        kept = λ entry. (before entry).1;
        asked = λ b has. absurd (false≢true (sym (ap is_some none_asked) ∙ ap is_some has));
        known = λ some. absurd (false≢true (sym (ap is_some none_asked) ∙ some));
        sought = λ entry none. absurd (false≢true (sym (ap is_some none) ∙ durable.1.settled chunk (first (is_listed d chunk) entry)));
      }) k
    where
      u : State
      u = restarted d log

      none_asked : fin.get u.volatile.moving chunk ≡ None
      none_asked = fin.get-empty nat_cmp chunk

      first : (b : Bool) → (b || false) ≡ true → b ≡ true
      first true h = refl
      first false h = absurd (false≢true h)

      before : has_entry u chunk ≡ true → (is_listed s.durable chunk ≡ true) × (fin.get d.chunks chunk ≡ fin.get s.durable.chunks chunk)
      before entry = records_before entries s.durable d out fit (first (is_listed d chunk) entry)

pub scans_cut_reach : ScansCutReach
scans_cut_reach chunk config s removed forgotten many d log w kept fit k =
    let entries = map (Edited own_request) (scan_edits removed forgotten) in
    taken_reaches chunk s w (take many entries) d log (all_taken chunk (takes chunk) many entries (scan_takes chunk removed forgotten)) (each_taken chunk (Keeps chunk) many entries (scan_keeps chunk removed forgotten)) kept fit k
