-- What is left of the journal's room behind one thing and another.
use Rattle.std.proofs.Common.{◌≡◌, ◌+◌, ◌-◌, ◌*◌, ◌<◌, ◌≤◌, ℕ, suc, ◌||◌, Bool, true, false, get_or, drop, List, [], ◌∷◌, ◌++◌, length, length-append, refl, ap, sym, ◌∙◌, arith}
use Rattle.std.proofs.Math.Seq.{drop-cons}
use Rattle.std.proofs.lemmas.List.{drop_all}
use Rattle.std.proofs.lemmas.List.Sums.{sum_by-cons}
use Rattle.std.specs.Prelude.{Option, Some, None, Result, Ok, Err, IfOk, if◌then◌else◌, is_some, nat_le, map}
use Rattle.std.proofs.lemmas.Bool.{false≢true}
use Rattle.std.specs.List.{flat_map, list_any}
use Rattle.byteorder.specs.Endian.{big_bytes}
use Rattle.gs_base.specs.Told.{detail_text}
use Rattle.gs_base.specs.declared.numbers.ReqId.{ReqId}
use Rattle.gs_base.specs.declared.refusal.Refusal.{Refusal}
use Rattle.gs_path.specs.Path.{Path, path_text}
use Rattle.gs_master_record.specs.Encoding.{answered, edit, list, number, path, refusal, request}
use Rattle.gs_master_record.specs.Plain.{plain, PlainEdit, Hide, AddChunk, Cow, Forget, Edited, Said, RollbackCommit}
use Rattle.gs_master_record.specs.declared.entry.Answered.{Answered}
use Rattle.gs_master_record.specs.declared.entry.Entry.{Entry}
use Rattle.gs_master_spec.specs.Applied.{is_whole_entry}
use Rattle.gs_master_state.specs.inner.Room.{IsBehind, room_left}
use Rattle.gs_master_spec.specs.State.{size_of, size_of_all}

pub two_behind : (room left : Option ℕ) (last : Option ℕ) (a b n : ℕ) → IsBehind room a left → IsBehind left b last → n ≡ a + b → IsBehind room n last
two_behind room left last a b n first second is limit size whole = second limit (size + a) (first limit size whole) ∙ ap (room_left limit) (omega (arith, is))

pub so_behind : {E : Type 0} (room left : Option ℕ) (result : Result (Option ℕ) E) (a b n : ℕ) → IsBehind room a left → IfOk result (IsBehind left b) → n ≡ a + b → IfOk result (IsBehind room n)
so_behind room left (Ok last) a b n first second is = two_behind room left last a b n first second is
so_behind room left (Err e) a b n first second is = tt

-- items of so many bytes each
pub items_long : {A : Type 0} (f : A → List ℕ) (n : ℕ) → ((x : A) → length (f x) ≡ n) → (xs : List A) → length (flat_map f xs) ≡ length xs * n
items_long f n each [] = omega arith
items_long f n each (x ∷ xs) = omega (arith, length-append (f x) (flat_map f xs), each x, items_long f n each xs)

-- ---- edits

pub path_long : (p : Path) → length (path p) ≡ 2 + length (path_text p)
path_long p = omega arith

with_path : (p : Path) (more : List ℕ) → length (path p ++ more) ≡ length (path p) + length more
with_path p more = length-append (path p) more

pub one_long : (tag : ℕ) (p : Path) → length (tag ∷ path p) ≡ 1 + length (path p)
one_long tag p = omega arith

pub hide_long : (p : Path) (moment n : ℕ) → length (edit (Hide p moment n)) ≡ 17 + length (path p)
hide_long p moment n = omega (arith, with_path p (number moment ++ number n))

pub add_long : (p : Path) (chunk : ℕ) → length (edit (AddChunk p chunk)) ≡ 9 + length (path p)
add_long p chunk = omega (arith, with_path p (number chunk))

pub cow_long : (p : Path) (index old new : ℕ) → length (edit (Cow p index old new)) ≡ 21 + length (path p)
cow_long p index old new = omega (arith, with_path p (big_bytes 4 index ++ (number old ++ number new)))

pub two_long : (p q : Path) → length (path p ++ path q) + 1 ≡ (1 + length (path p)) + length (path q)
two_long p q = omega (arith, with_path p (path q))

pub tagged_long : (tag : ℕ) (p q : Path) → length (tag ∷ path p ++ path q) ≡ length (path p ++ path q) + 1
tagged_long tag p q = omega arith

pub forget_long : (chunks : List ℕ) → length (edit (Forget chunks)) ≡ 5 + length chunks * 8
forget_long chunks = omega (arith, length-append (big_bytes 4 (length chunks)) (flat_map number chunks), items_long number 8 (λ x. refl) chunks)

-- ---- records

pub edit_long : (by : ReqId) (e : PlainEdit) → size_of (Edited by e) ≡ 18 + length (edit e)
edit_long by e = omega (arith, length-append (request by) (edit e))

pub said_long : (to : ReqId) (r : Refusal) → size_of (Said to r) ≡ 21 + length (detail_text r)
said_long to r = omega (arith, length-append (request to) (refusal r))

pub commit_long : (epoch : ℕ) (answers : List Answered) → size_of (RollbackCommit epoch answers) ≡ 18 + length answers * 10
commit_long epoch answers = omega (arith, length-append (number epoch) (list answered answers), length-append (big_bytes 4 (length answers)) (flat_map answered answers), items_long answered 10 (λ a. refl) answers)

-- ---- one record after the other

one_more : (i : ℕ) → suc i ≡ i + 1
one_more i = omega arith

pub next_item : {A : Type 0} (xs : List A) (i : ℕ) (x : A) → i < length xs → x ≡ get_or xs i x → drop i xs ≡ x ∷ drop (i + 1) xs
next_item xs i x h at = drop-cons xs i x h ∙ ap (λ y. y ∷ drop (suc i) xs) (sym at) ∙ ap (λ n. x ∷ drop n xs) (one_more i)

pub sizes_from : (x : Entry) (xs all : List Entry) → all ≡ x ∷ xs → size_of_all (map plain all) ≡ size_of (plain x) + size_of_all (map plain xs)
sizes_from x xs all is = ap (λ all. size_of_all (map plain all)) is ∙ sum_by-cons size_of (plain x) (map plain xs)

pub none_from : (x : Entry) (xs all : List Entry) → all ≡ x ∷ xs → list_any is_whole_entry (map plain all) ≡ false → (is_whole_entry (plain x) ≡ false) × (list_any is_whole_entry (map plain xs) ≡ false)
none_from x xs all is none = neither (is_whole_entry (plain x)) (list_any is_whole_entry (map plain xs)) (ap (λ all. list_any is_whole_entry (map plain all)) (sym is) ∙ none)
  where
    neither : (a b : Bool) → (a || b) ≡ false → (a ≡ false) × (b ≡ false)
    neither true b h = absurd (false≢true (sym h))
    neither false b h = (refl, h)

pub counted_on : (limit total : ℕ) (room left : Option ℕ) (n m bytes : ℕ) → m ≤ total → m ≡ bytes + n → room ≡ room_left limit (total - m) → IsBehind room bytes left → left ≡ room_left limit (total - n)
counted_on limit total room left n m bytes within is at behind = behind limit (total - m) at ∙ ap (room_left limit) (omega (arith, within, is))

pub some_left : (limit size : ℕ) → is_some (room_left limit size) ≡ nat_le size limit
some_left limit size = at (nat_le size limit)
  where
    at : (b : Bool) → is_some (if b then Some (limit - size) else None) ≡ b
    at true = refl
    at false = refl

pub none_left : (all : List Entry) (i : ℕ) → length all ≤ i → size_of_all (map plain (drop i all)) ≡ 0
none_left all i past = ap (λ rest. size_of_all (map plain rest)) (drop_all i all past)

pub whole_left : (limit size total left : ℕ) → left ≡ 0 → is_some (room_left limit (size + total - left)) ≡ nat_le (size + total) limit
whole_left limit size total left none = some_left limit (size + total - left) ∙ ap (λ n. nat_le n limit) (omega (arith, none))
