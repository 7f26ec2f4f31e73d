-- Behind a part of a scan no chunk has more places than it had.
use Rattle.std.proofs.Common.{◌≡◌, arith, ◌∙◌, ◌==◌, ◌&&◌, ◌-◌, ℕ, zero, suc, Bool, true, false, cond, List, [], ◌∷◌, refl, ap, sym, subst}
use Rattle.std.specs.Prelude.{is_some, map, nat_lt, option_and_then, take, Option, Some, None, Result, Ok, Err, if◌then◌else◌}
use Rattle.std.specs.Cmp.{nat_cmp_total}
use Rattle.std.specs.FinMap as fin
use Rattle.std.specs.List.{AllByRecursion, list_all}
use Rattle.std.specs.Ordering.{eq_by_cmp, nat_cmp}
use Rattle.std.proofs.lemmas.Bool.{false≢true}
use Rattle.std.proofs.lemmas.Bool.Decides.{nat_tests}
use Rattle.gs_base.specs.declared.refusal.Refusal.{Refusal}
use Rattle.gs_base.specs.declared.refusal.Refusal.TheVariants.{BadLine}
use Rattle.gs_edit.proofs.References.{among, get-without}
use Rattle.gs_edit.specs.View.{NamesView}
use Rattle.gs_edit.specs.declared.edit.Edit.TheVariants as edits
use Rattle.gs_path.specs.Path.{Path}
use Rattle.gs_refs.specs.Counts.{Counts, and_then, ascends, count_or_zero, is_at_zero, lowered, lowered_each, lowered_from, taken_each, without_each}
use Rattle.gs_tree.specs.Chunks.{chunks_under}
use Rattle.gs_laws_moves.proofs.lemmas.moves.GivenNames.{names_given}
use Rattle.gs_laws_master.proofs.lemmas.names.EditsBack.{admitted, with_parts}
use Rattle.gs_laws_master.proofs.lemmas.keeping.KeptViews.{same_key}
use Rattle.gs_laws_master.proofs.lemmas.names.Undone.{was_named}
use Rattle.gs_master_record.specs.Plain.{Edited, Forget, PlainEdit, Remove}
use Rattle.gs_master_spec.specs.Applied.{applied, replayed}
use Rattle.gs_master_spec.specs.Calls.{is_shared}
use Rattle.gs_master_spec.specs.Durable.{Durable}
use Rattle.gs_master_spec.specs.Settling.{own_request}
use Rattle.gs_master_spec.specs.Undoing.{edited_names}
use Rattle.gs_master_spec.specs.Working.{scan_edits}

counts_is : {a b : Counts} → ◌≡◌ {A = Result Counts Refusal} (Ok a) (Ok b) → a ≡ b
counts_is h = cc

-- what a scan edits
abbrev pub OfScan : PlainEdit → Type 0
OfScan (Remove p) = Unit {0}
OfScan (Forget chunks) = Unit {0}
OfScan edit = ⊥

pub of_scan : (removed : List Path) (forgotten : List ℕ) → AllByRecursion OfScan (scan_edits removed forgotten)
of_scan [] [] = tt
of_scan [] (chunk ∷ chunks) = (tt, tt)
of_scan (path ∷ paths) forgotten = (tt, of_scan paths forgotten)

module _ (chunk : ℕ) where
  abbrev several : Counts → Bool
  several m = nat_lt 1 (count_or_zero (fin.get m chunk))

  -- who has two afterwards had two before
  abbrev SharedFrom : Counts → Counts → Type 0
  SharedFrom m n = several n ≡ true → several m ≡ true

  -- one less
  less_shared : (c : ℕ) → nat_lt 1 (c - 1) ≡ true → nat_lt 1 c ≡ true
  less_shared c h = grind (arith, nat_tests)

  put_shared : (m : Counts) (k v : ℕ) → (chunk ≡ k → nat_lt 1 v ≡ true → several m ≡ true) → SharedFrom m (fin.insert m k v)
  put_shared m k v here more = by_key (eq_by_cmp nat_cmp chunk k) refl (ap (λ o. nat_lt 1 (count_or_zero o)) (sym (fin.get-insert nat_cmp_total m k v chunk)) ∙ more)
    where
      by_key : (b : Bool) → eq_by_cmp nat_cmp chunk k ≡ b → nat_lt 1 (count_or_zero (cond b (Some v) (fin.get m chunk))) ≡ true → several m ≡ true
      by_key true same h = here (same_key chunk k same) h
      by_key false other h = h

  one_lowered : (m n : Counts) (k : ℕ) → lowered m k ≡ Ok n → SharedFrom m n
  one_lowered m n k e = by_value (fin.get m k) refl e
    where
      by_value : (v : Option ℕ) → fin.get m k ≡ v → lowered_from m k v ≡ Ok n → SharedFrom m n
      by_value None is h = absurd (let g = h in cc)
      by_value (Some c) is h = by_zero (c == 0) h
        where
          by_zero : (b : Bool) → (if b then Err BadLine else Ok (fin.insert m k (c - 1))) ≡ Ok n → SharedFrom m n
          by_zero true g = absurd (let f = g in cc)
          by_zero false g = subst (SharedFrom m) (counts_is g) (put_shared m k (c - 1) (λ same more. ap (λ o. nat_lt 1 (count_or_zero o)) (ap (fin.get m) same ∙ is) ∙ less_shared c more))

  all_lowered : (hs : List ℕ) (m n : Counts) → lowered_each m hs ≡ Ok n → SharedFrom m n
  all_lowered [] m n e = λ more. ap several (counts_is e) ∙ more
  all_lowered (h ∷ hs) m n e = each (lowered m h) refl (λ o. all_lowered hs o n) e
    where
      each : (r : Result Counts Refusal) → lowered m h ≡ r → ((o : Counts) → lowered_each o hs ≡ Ok n → SharedFrom o n) → and_then r (λ o. lowered_each o hs) ≡ Ok n → SharedFrom m n
      each (Ok o) is rest g = λ more. one_lowered m o h is (rest o g more)
      each (Err f) is rest g = absurd (let k = g in cc)

  taken_shared : (chunks : List ℕ) (m n : Counts) → taken_each m chunks ≡ Ok n → SharedFrom m n
  taken_shared chunks m n e = by_test (ascends chunks && list_all (λ h. is_at_zero (fin.get m h)) chunks) e
    where
      left : (b : Bool) → nat_lt 1 (count_or_zero (cond b None (fin.get m chunk))) ≡ true → several m ≡ true
      left true h = absurd (false≢true h)
      left false h = h

      by_test : (b : Bool) → cond b (Ok (without_each m chunks)) (Err BadLine) ≡ Ok n → SharedFrom m n
      by_test false k = absurd (let h = k in cc)
      by_test true k = λ more. left (among chunk chunks) (ap (λ o. nat_lt 1 (count_or_zero o)) (sym (get-without chunks m chunk)) ∙ ap several (counts_is k) ∙ more)

  edit_shared : (edit : PlainEdit) (old new : NamesView) → OfScan edit → edited_names edit old ≡ Ok new → is_shared new chunk ≡ true → is_shared old chunk ≡ true
  edit_shared (Remove p) old new of e more =
      let n = was_named (Remove p) old new e in
      all_lowered (chunks_under p (fin.entries old.tree)) old.refs n.refs (admitted (edits.Remove p) (fin.entries old.tree) old.refs (n.rows, n.refs) n.made).counts (ap (λ (x : NamesView). several x.refs) n.is ∙ more)
  edit_shared (Forget chunks) old new of e more =
      let n = was_named (Forget chunks) old new e in
      taken_shared chunks old.refs n.refs (with_parts (Ok (fin.entries old.tree)) (taken_each old.refs chunks) (n.rows, n.refs) n.made).1 (ap (λ (x : NamesView). several x.refs) n.is ∙ more)
  edit_shared edit old new of e more = absurd of

  pub scan_shared : (edits : List PlainEdit) (many : ℕ) (d e : Durable) → AllByRecursion OfScan edits → replayed d (take many (map (Edited own_request) edits)) ≡ Some e → is_shared e.names chunk ≡ true → is_shared d.names chunk ≡ true
  scan_shared edits zero d e of is more = ap (λ (x : Durable). is_shared x.names chunk) (let same : d ≡ e = cc in same) ∙ more
  scan_shared [] (suc many) d e of is more = ap (λ (x : Durable). is_shared x.names chunk) (let same : d ≡ e = cc in same) ∙ more
  scan_shared (edit ∷ edits) (suc many) d e of is more = by_first (applied d (Edited own_request edit)) refl is (λ n h. scan_shared edits many n e of.1 h more)
    where
      by_first : (o : Option Durable) → applied d (Edited own_request edit) ≡ o → option_and_then (λ n. replayed n (take many (map (Edited own_request) edits))) o ≡ Some e
          → ((n : Durable) → replayed n (take many (map (Edited own_request) edits)) ≡ Some e → is_shared n.names chunk ≡ true) → is_shared d.names chunk ≡ true
      by_first None was h rest = absurd (false≢true (ap is_some h))
      by_first (Some n) was h rest = edit_shared edit d.names n.names of.0 (names_given d n own_request edit was) (rest n h)
