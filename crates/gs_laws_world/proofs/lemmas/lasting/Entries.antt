-- Records that can be read again are those of their entries alone.
use Rattle.std.proofs.Common.{◌≡◌, List, [], ◌∷◌, drop, get_or, map, refl, ap}
use Rattle.std.specs.List.{AllByRecursion}
use Rattle.gs_journal.specs.Records.{Entry as Record}
use Rattle.gs_journal.specs.declared.version.Version.{Version}
use Rattle.gs_master_record.proofs.Whole.{one_entry}
use Rattle.gs_master_record.specs.Encoding.{encoded}
use Rattle.gs_master_record.specs.Plain.{PlainEntry}
use Rattle.gs_master_record.specs.Writable.{IsEntry}

first_same : (x y : Record) (xs ys : List Record) → x ∷ xs ≡ y ∷ ys → x ≡ y
first_same x y xs ys same = ap (λ (l : List Record). get_or l 0 x) same

rest_same : (x y : Record) (xs ys : List Record) → x ∷ xs ≡ y ∷ ys → xs ≡ ys
rest_same x y xs ys same = ap (λ (l : List Record). drop 1 l) same

-- records that can be read again are those of these entries alone, in either version
pub same_entries : (v : Version) (xs ys : List PlainEntry) → AllByRecursion (IsEntry v) xs → AllByRecursion (IsEntry v) ys → map (encoded v) xs ≡ map (encoded v) ys → xs ≡ ys
same_entries v [] [] p q same = refl
same_entries v [] (y ∷ ys) p q same = absurd (cc)
same_entries v (x ∷ xs) [] p q same = absurd (cc)
same_entries v (x ∷ xs) (y ∷ ys) p q same =
    let one = one_entry v x y p.0 q.0 (first_same (encoded v x) (encoded v y) (map (encoded v) xs) (map (encoded v) ys) same) in
    let others = same_entries v xs ys p.1 q.1 (rest_same (encoded v x) (encoded v y) (map (encoded v) xs) (map (encoded v) ys) same) in
    λ i. one i ∷ others i
