-- The records of a journal, read one after the other.
use Rattle.std.proofs.Common.{◌≡◌, ◌∙◌, List, [], ◌∷◌, ◌++◌, map, drop, get_or, ap, subst, sym}
use Rattle.std.specs.List.{AllByRecursion}
use Rattle.std.proofs.lemmas.List.{append-nil, append_assoc, map-append}
use Rattle.gs_journal.specs.Records.{Entry as Record}
use Rattle.gs_journal.specs.declared.version.Version.{Version}
use Rattle.gs_master_record.specs.Encoding.{encoded}
use Rattle.gs_master_record.specs.Plain.{PlainEntry, plain}
use Rattle.gs_master_record.specs.Writable.{IsEntry}
use Rattle.gs_master_record.specs.declared.entry.Entry.{Entry}
use Rattle.gs_master_guard.specs.Reading.{AreRecordsOf}

-- the records that were read are those of the entries so far, and the others are left
pub record ReadSoFar (version : Version) (records : List Record) (entries : List PlainEntry) (left : List Record) : Type 0 where
  pub written : records ≡ map (encoded version) entries ++ left
  pub are_entries : AllByRecursion (IsEntry version) entries

all_and : {A : Type 0} (P : A → Type 0) (xs : List A) (x : A) → AllByRecursion P xs → P x → AllByRecursion P (xs ++ x ∷ [])
all_and P [] x all one = (one, tt)
all_and P (y ∷ ys) x all one = (all.0, all_and P ys x all.1 one)

module _ (version : Version) (records : List Record) where
  pub one_more_read : (items next : List Entry) (e : Entry) (r : Record) (left rest : List Record) → left ≡ r ∷ rest → next ≡ items ++ e ∷ [] → IsEntry version (plain e) → encoded version (plain e) ≡ r →
      ReadSoFar version records (map plain items) left → ReadSoFar version records (map plain next) rest
  one_more_read items next e r left rest is grown entry same so = record {
    written =
        so.written ∙ ap (λ l. map (encoded version) (map plain items) ++ l) (is ∙ ap (λ x. x ∷ rest) (sym same)) ∙ sym (append_assoc (map (encoded version) (map plain items)) (encoded version (plain e) ∷ []) rest)
        ∙ ap (λ l. l ++ rest) (sym (map-append (encoded version) (map plain items) (plain e ∷ []))) ∙ ap (λ l. map (encoded version) l ++ rest) (sym longer);
    are_entries = subst (AllByRecursion (IsEntry version)) (sym longer) (all_and (IsEntry version) (map plain items) (plain e) so.are_entries entry);
  }
    where
      longer : map plain next ≡ map plain items ++ plain e ∷ []
      longer = ap (map plain) grown ∙ map-append plain items (e ∷ [])

  pub all_read : (entries : List PlainEntry) (left : List Record) → left ≡ [] → ReadSoFar version records entries left → AreRecordsOf version records entries
  all_read entries left none so = record { written = so.written ∙ ap (λ l. map (encoded version) entries ++ l) none ∙ append-nil (map (encoded version) entries); are_entries = so.are_entries }

first_record : (a b : Record) (xs ys : List Record) → a ∷ xs ≡ b ∷ ys → a ≡ b
first_record a b xs ys same = ap (λ l. get_or l 0 a) same

others : (a b : Record) (xs ys : List Record) → a ∷ xs ≡ b ∷ ys → xs ≡ ys
others a b xs ys same = ap (drop 1) same

unread : (version : Version) (before rest : List Record) (r : Record) → ((x : PlainEntry) → IsEntry version x → ¬ (encoded version x ≡ r)) → (entries : List PlainEntry) →
    before ++ r ∷ rest ≡ map (encoded version) entries → AllByRecursion (IsEntry version) entries → ⊥
unread version [] rest r none [] same are = cc
unread version [] rest r none (x ∷ xs) same are = none x are.0 (sym (first_record r (encoded version x) rest (map (encoded version) xs) same))
unread version (b ∷ bs) rest r none [] same are = cc
unread version (b ∷ bs) rest r none (x ∷ xs) same are = unread version bs rest r none xs (others b (encoded version x) (bs ++ r ∷ rest) (map (encoded version) xs) same) are.1

-- one of them is the record of no entry
pub unreadable : (version : Version) (records : List Record) (done : List PlainEntry) (left rest : List Record) (r : Record) → left ≡ r ∷ rest → ReadSoFar version records done left →
    ((x : PlainEntry) → IsEntry version x → ¬ (encoded version x ≡ r)) → (entries : List PlainEntry) → ¬ AreRecordsOf version records entries
unreadable version records done left rest r is so none entries are =
    unread version (map (encoded version) done) rest r none entries (ap (λ l. map (encoded version) done ++ l) (sym is) ∙ sym so.written ∙ are.written) are.are_entries
