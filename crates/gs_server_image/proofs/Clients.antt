-- What is kept of clients is read as it is written: clients that rise are the entries of their map.
use Rattle.std.proofs.Common.{◌≡◌, ℕ, ◌++◌, Bool, true, List, [], ◌∷◌, map, Some, refl, sym, ap, subst, ◌∙◌}
use Rattle.std.specs.Prelude.{T, ◌&&◌}
use Rattle.std.proofs.lemmas.Cmp.{on_total}
use Rattle.std.specs.Cmp.{IsTotalOrder, nat_cmp_total}
use Rattle.std.specs.FinMap as fin
use Rattle.std.specs.FinMap.Entries.{below_all, is_sorted, same_entries}
use Rattle.std.specs.Ordering.{nat_cmp, is_lt}
use Rattle.gs_base.specs.declared.numbers.ClientId.{ClientId}
use Rattle.gs_base_table.specs.Keys.{client_exact}
use Rattle.gs_fields.specs.Laws.{Reads, reads_both, reads_made, reads_long_list, n32, if_some}
use Rattle.gs_fields.specs.Writable.{AreLongItems}
use Rattle.gs_server.specs.declared.turn.KeptRefusal.{KeptRefusal}
use Rattle.gs_server.specs.Servers.{client_cmp}
use Rattle.gs_server_image.specs.Encoding.{Refused, by_number, entries, refused}
use Rattle.gs_server_image.specs.Laws.{reads_kept}
use Rattle.gs_server_image.specs.Reading.{of_client, map_of, refused_of, refused_at}
use Rattle.gs_server_image.specs.Writable.{IsEntry, AreRefused}
use Rattle.gs_store_image.specs.Reading.{rises}
use Rattle.gs_store_image.proofs.Tables.{sorted_rising, rising_sorted}

abbrev Numbered : Type 0
Numbered = List (ℕ × KeptRefusal)

abbrev Clients : Type 0
Clients = List (ClientId × KeptRefusal)

client_total : IsTotalOrder client_cmp
client_total = on_total (λ (c : ClientId). c.0) nat_cmp_total

-- ---- clients are told apart by their numbers

numbered : (es : Numbered) → map by_number (map of_client es) ≡ es
numbered [] = refl
numbered (e ∷ es) = ap (λ (z : Numbered). e ∷ z) (numbered es)

of_numbers : (es : Clients) → map of_client (map by_number es) ≡ es
of_numbers [] = refl
of_numbers (e ∷ es) = ap (λ (z : Clients). e ∷ z) (of_numbers es)

below_numbers : (c : ClientId) (es : Clients) → below_all nat_cmp c.0 (map by_number es) ≡ below_all client_cmp c es
below_numbers c [] = refl
below_numbers c (e ∷ es) = ap (λ b. is_lt (nat_cmp c.0 e.0.0) && b) (below_numbers c es)

sorted_numbers : (es : Clients) → is_sorted nat_cmp (map by_number es) ≡ is_sorted client_cmp es
sorted_numbers [] = refl
sorted_numbers (e ∷ es) = ap (λ b. b && is_sorted nat_cmp (map by_number es)) (below_numbers e.0 es) ∙ ap (λ b. below_all client_cmp e.0 es && b) (sorted_numbers es)

pub entries_rise : (m : Refused) → rises (entries m) ≡ true
entries_rise m = rising_sorted (entries m) (subst T (sym (sorted_numbers (fin.entries m))) (fin.entries_sorted m))

pub map_again : (m : Refused) → map_of (entries m) ≡ m
map_again m =
    ap (λ (es : Clients). fin.from_entries {R = client_cmp} es) (of_numbers (fin.entries m))
    ∙ fin.same_map client_total client_exact _ _ (λ q. fin.get-from_entries client_total (fin.entries m) q ∙ sym (fin.get-entries m q))

clients_sorted : (es : Numbered) → rises es ≡ true → T (is_sorted client_cmp (map of_client es))
clients_sorted es h =
    let same : is_sorted nat_cmp es ≡ is_sorted client_cmp (map of_client es) = ap (λ (z : Numbered). is_sorted nat_cmp z) (sym (numbered es)) ∙ sorted_numbers (map of_client es) in
    subst T same (sorted_rising es h)

pub listed : (es : Numbered) → rises es ≡ true → entries (map_of es) ≡ es
listed es h =
    let cs : Clients = map of_client es in
    let same : fin.entries (fin.from_entries {R = client_cmp} cs) ≡ cs =
    same_entries client_cmp client_total client_exact (fin.entries (fin.from_entries {R = client_cmp} cs)) cs (fin.entries_sorted (fin.from_entries {R = client_cmp} cs)) (clients_sorted es h)
    (λ q. sym (fin.get-entries (fin.from_entries {R = client_cmp} cs) q) ∙ fin.get-from_entries client_total cs q) in
    ap (λ (z : Clients). map by_number z) same ∙ numbered es

pub reads_refused : Reads AreRefused refused refused_at
unfolding refused_at
reads_refused = reads_made {fields = entries} (reads_long_list (reads_both n32 reads_kept)) (record { back = back; forth = forth }) where
  back : (m : Refused) → AreRefused m → AreLongItems IsEntry (entries m) × (refused_of (entries m) ≡ Some m)
  back m is = (is, rw (entries_rise m) (ap Some (map_again m)))

  forth : (es : Numbered) (m : Refused) → AreLongItems IsEntry es → refused_of es ≡ Some m → (entries m ≡ es) × AreRefused m
  forth es m is e =
      let k = if_some (rises es) (map_of es) m e in
      let same : entries m ≡ es = ap (λ (n : Refused). entries n) (sym k.1) ∙ listed es k.0 in
      (same, subst (λ (z : Numbered). AreLongItems IsEntry z) (sym same) is)

-- ---- a map as a loop makes it

-- a map with the entries of a list, the last of them first
abbrev pub onto : Numbered → Refused → Refused
onto [] m = m
onto (e ∷ es) m = fin.insert (onto es m) (record { 0 = e.0 }) e.1

pub onto_last : (es : Numbered) (e : ℕ × KeptRefusal) (m : Refused) → onto (es ++ e ∷ []) m ≡ onto es (fin.insert m (record { 0 = e.0 }) e.1)
onto_last [] e m = refl
onto_last (f ∷ es) e m = ap (λ (n : Refused). fin.insert n (record { 0 = f.0 }) f.1) (onto_last es e m)

pub onto_empty : (es : Numbered) → onto es fin.empty ≡ map_of es
onto_empty [] = refl
onto_empty (e ∷ es) = ap (λ (n : Refused). fin.insert n (record { 0 = e.0 }) e.1) (onto_empty es)
