-- Each kept reply can be told by a checkpoint.
use Rattle.std.proofs.Common.{◌≡◌, ◌∙◌, ◌≤◌, ◌<◌, ◌^◌, ◌==◌, ◌&&◌, ◌||◌, ◌++◌, ℕ, Bool, true, false, cond, not, List, [], ◌∷◌, length, map, nat_lt, append-nil, append_assoc, refl, sym, ap, subst, arith}
use Rattle.std.specs.Prelude.{Option, Some, None, option_map, Result, Ok, Err, bytes_eq, nat_le, if◌then◌else◌}
use Rattle.std.specs.Fmt.{decimal}
use Rattle.std.specs.List.{list_all, onto_first, slice_split}
use Rattle.std.specs.Str.{all_ascii_digits}
use Rattle.std.specs.Str.Parse.{digits_value}
use Rattle.std.specs.FinMap as fin
use Rattle.std.specs.Ordering.{eq_by_cmp}
use Rattle.std.proofs.lemmas.Bool.{false≢true, and_parts, lt-ltb}
use Rattle.std.proofs.lemmas.Bool.Decides.{nat_tests}
use Rattle.std.proofs.lemmas.Fmt.{digits_decimal, digits_value-decimal}
use Rattle.std.proofs.lemmas.Str.Parse.{tells_all_ascii_digits}
use Rattle.gs_base.specs.declared.numbers.ClientId.{ClientId}
use Rattle.gs_base.specs.declared.numbers.ReqId.{ReqId}
use Rattle.gs_base.specs.declared.refusal.Refusal.{Refusal}
use Rattle.gs_base.specs.declared.refusal.Refusal.TheVariants.{BadPath}
use Rattle.gs_edit.specs.Scan.{is_without_slashes}
use Rattle.gs_msg.specs.declared.answer.Answer.{Answer}
use Rattle.gs_msg.specs.declared.answer.Answer.TheVariants as answers
use Rattle.gs_path.specs.Element.{is_stored}
use Rattle.gs_path.specs.Path.{Name, Path, behind_slashes}
use Rattle.gs_path.specs.Rules.{judged, parse_hidden}
use Rattle.gs_path.proofs.ElementLemmas.{digits}
use Rattle.gs_master_record.specs.Extended.{end_of, primary_of, settled_numbers, spaced}
use Rattle.gs_master_record.specs.Writable.{AreServers, IsHandle, IsTerm}
use Rattle.gs_master_record.specs.declared.entry.SettledView.{SettledView}
use Rattle.gs_base.specs.Members.{bits_of, has_bit, servers_where}
use Rattle.gs_base.specs.MemberLaws.{bits_of-servers_where}
use Rattle.gs_base.specs.Told.{IsNumber}
use Rattle.gs_lease.specs.declared.view.Term.{Term}
use Rattle.gs_lease.specs.declared.view.View.{View}
use Rattle.gs_laws_master.specs.Promises.{IsToldView}
use Rattle.gs_tree.specs.Build.{is_short}
use Rattle.gs_tree.proofs.Levels.{both_true}
use Rattle.gs_master_spec.specs.Applied.{with_reply}
use Rattle.gs_master_spec.specs.Replies.{are_location, client_cmp, if_text, is_later, numbers_in, outcome_of, told_answer, told_location, told_numbers, told_path, told_result, told_term}
use Rattle.gs_master_spec.specs.declared.reply.KeptReply.{KeptReply}
use Rattle.gs_laws_master.proofs.lemmas.spelling.Spelled.{is_plain}
use Rattle.gs_master_state.proofs.Tracking.{client_total}

abbrev pub IsAnswer : Result Answer Refusal → Type 0
IsAnswer result = told_result (outcome_of result) ≡ Some result

abbrev pub AreTold : fin.FinMap client_cmp KeptReply → Type 0
AreTold replies = (client : ClientId) (reply : KeptReply) → fin.get replies client ≡ Some reply → IsAnswer reply.result

pub replied : (replies : fin.FinMap client_cmp KeptReply) (to : ReqId) (result : Result Answer Refusal) → AreTold replies → IsAnswer result → AreTold (with_reply replies to result)
replied replies to result all own client reply e = later (is_later (fin.get replies to.client) to.number) e
  where
    reply_is : {a b : KeptReply} → ◌≡◌ {A = Option KeptReply} (Some a) (Some b) → a ≡ b
    reply_is h = cc

    new : KeptReply
    new = record { number = to.number; result = result }

    by_key : (b : Bool) → cond b (Some new) (fin.get replies client) ≡ Some reply → IsAnswer reply.result
    by_key true h = subst (λ (r : KeptReply). IsAnswer r.result) (reply_is h) own
    by_key false h = all client reply h

    later : (b : Bool) → fin.get (if b then fin.insert replies to.client new else replies) client ≡ Some reply → IsAnswer reply.result
    later true h = by_key (eq_by_cmp client_cmp client to.client) (sym (fin.get-insert client_total replies to.client new client) ∙ h)
    later false h = all client reply h

-- ---- a path is told and read again

-- what no part holds is where a text is cut
abbrev holds_no : ℕ → List ℕ → Bool
holds_no c xs = list_all (λ b. not (b == c)) xs

cut_at : (c : ℕ) (xs rest : List ℕ) → holds_no c xs ≡ true → slice_split (λ b. b == c) (xs ++ c ∷ rest) ≡ xs ∷ slice_split (λ b. b == c) rest
cut_at c [] rest h = ap (λ t. cond t ([] ∷ slice_split (λ b. b == c) rest) (onto_first c (slice_split (λ b. b == c) rest))) own
  where
    own : (c == c) ≡ true
    own = grind (arith, nat_tests)
cut_at c (x ∷ xs) rest h =
    let parts = and_parts (not (x == c)) (holds_no c xs) h in
    ap (λ t. cond t ([] ∷ slice_split (λ b. b == c) (xs ++ c ∷ rest)) (onto_first x (slice_split (λ b. b == c) (xs ++ c ∷ rest)))) (not_true (x == c) parts.0) ∙ ap (onto_first x) (cut_at c xs rest parts.1)
  where
    not_true : (b : Bool) → not b ≡ true → b ≡ false
    not_true true e = absurd (false≢true e)
    not_true false e = refl

cut_none : (c : ℕ) (xs : List ℕ) → holds_no c xs ≡ true → slice_split (λ b. b == c) xs ≡ xs ∷ []
cut_none c [] h = refl
cut_none c (x ∷ xs) h =
    let parts = and_parts (not (x == c)) (holds_no c xs) h in
    ap (λ t. cond t ([] ∷ slice_split (λ b. b == c) xs) (onto_first x (slice_split (λ b. b == c) xs))) (not_true (x == c) parts.0) ∙ ap (onto_first x) (cut_none c xs parts.1)
  where
    not_true : (b : Bool) → not b ≡ true → b ≡ false
    not_true true e = absurd (false≢true e)
    not_true false e = refl

pub split_text : (x : Name) (p : Path) → is_without_slashes (x ∷ p) ≡ true → slice_split (λ b. b == 47) (x ++ behind_slashes p) ≡ x ∷ p
split_text x [] h = ap (slice_split (λ b. b == 47)) (append-nil x) ∙ cut_none 47 x (and_parts (is_plain x) (is_without_slashes []) h).0
split_text x (y ∷ p) h = let parts = and_parts (is_plain x) (is_without_slashes (y ∷ p)) h in cut_at 47 x (y ++ behind_slashes p) parts.0 ∙ ap (λ q. x ∷ q) (split_text y p parts.1)

pub judged_is : (p q : Path) → q ≡ p → is_short p ≡ true → list_all is_stored p ≡ true → judged is_stored q ≡ Ok p
judged_is p q is short stored = ap (judged is_stored) is ∙ ap (λ b. if b then Ok p else Err BadPath) (both_true (nat_le (length p) 64) (list_all is_stored p) short stored)

pub path_told : (p : Path) → is_without_slashes p ≡ true → is_short p ≡ true → list_all is_stored p ≡ true → IsAnswer (Ok (answers.Path p))
path_told [] plain short stored = refl
path_told ([] ∷ p) plain short stored = absurd (false≢true stored)
path_told ((c ∷ x) ∷ p) plain short stored =
    ap (λ r. option_map (λ answer. Ok answer) (told_path r)) (judged_is ((c ∷ x) ∷ p) (slice_split (λ b. b == 47) ((c ∷ x) ++ behind_slashes p)) (split_text (c ∷ x) p plain) short stored)

-- ---- the place of a chunk is told and read again

digits_no : (c : ℕ) (ds : List ℕ) → ((d : ℕ) → 48 ≤ d → d ≤ 57 → not (d == c) ≡ true) → all_ascii_digits ds ≡ true → holds_no c ds ≡ true
digits_no c [] other h = refl
digits_no c (d ∷ ds) other h = let parts = tells_all_ascii_digits.parts d ds h in both_true (not (d == c)) (holds_no c ds) (let k = parts.0 in other d (omega arith) (omega arith)) (digits_no c ds other parts.1)

no_space : (n : ℕ) → n < 2 ^ 64 → holds_no 32 (decimal n) ≡ true
no_space n h = digits_no 32 (decimal n) (λ d low high. grind (arith, nat_tests)) (digits_decimal digits n h)

-- each number and the last
abbrev Small : List ℕ → Type 0
Small [] = Unit {0}
Small (n ∷ ns) = (n < 2 ^ 64) × Small ns

numbers_again : (ns : List ℕ) (last : ℕ) → Small ns → last < 2 ^ 64 → numbers_in (spaced ns ++ decimal last) ≡ ns ++ last ∷ []
numbers_again [] last small low = ap (map (digits_value 10)) (cut_none 32 (decimal last) (no_space last low)) ∙ ap (λ n. n ∷ []) (digits_value-decimal digits last low)
numbers_again (n ∷ ns) last small low =
    ap (λ t. map (digits_value 10) (slice_split (λ c. c == 32) t)) (append_assoc (decimal n ++ 32 ∷ []) (spaced ns) (decimal last) ∙ append_assoc (decimal n) (32 ∷ []) (spaced ns ++ decimal last))
    ∙ ap (map (digits_value 10)) (cut_at 32 (decimal n) (spaced ns ++ decimal last) (no_space n small.0))
    ∙ (λ i. digits_value-decimal digits n small.0 i ∷ numbers_again ns last small.1 low i)

-- a text that begins with a digit tells numbers
by_first : (ds more : List ℕ) → all_ascii_digits ds ≡ true → (ds ≡ [] → ⊥) → told_answer (ds ++ more) ≡ told_numbers (ds ++ more) (numbers_in (ds ++ more))
by_first [] more h some = absurd (some refl)
by_first (d ∷ ds) more h some =
    let parts = tells_all_ascii_digits.parts d ds h in
    let other : (d == 47) ≡ false = (let k = parts.0 in grind (arith, nat_tests)) in
    ap (λ b. if b then told_path (parse_hidden (d ∷ (ds ++ more))) else told_numbers (d ∷ (ds ++ more)) (numbers_in (d ∷ (ds ++ more)))) other

same_bytes : (xs : List ℕ) → bytes_eq xs xs ≡ true
same_bytes [] = refl
same_bytes (x ∷ xs) = both_true (x == x) (bytes_eq xs xs) (grind (arith, nat_tests)) (same_bytes xs)

pub bits_are : (members : List ℕ) → AreServers members → (bits_of members < 2 ^ 16) × (servers_where (has_bit (bits_of members)) ≡ members)
bits_are members (bits, low, is) =
    let same : bits_of members ≡ bits = ap bits_of is ∙ bits_of-servers_where bits low in
    (subst (λ n. n < 2 ^ 16) (sym same) low, ap (λ b. servers_where (has_bit b)) same ∙ sym is)

term_is : (term : Option Term) → IsTerm term → told_term (primary_of term) (end_of term) ≡ term
term_is None h = refl
term_is (Some t) h =
    let low = h.0 in
    let other : (t.primary == 255) ≡ false = grind (arith, nat_tests) in ap (λ b. if b then None else Some (record { primary = t.primary; end = record { 0 = t.end.0 } })) other

pub primary_low : (term : Option Term) → IsTerm term → primary_of term < 2 ^ 64
primary_low None h = omega arith
primary_low (Some t) h = let low = h.0 in omega arith

pub end_low : (term : Option Term) → IsTerm term → end_of term < 2 ^ 64
end_low None h = omega arith
end_low (Some t) h = h.1

primary_passes : (term : Option Term) → IsTerm term → (nat_lt (primary_of term) 16 || (primary_of term == 255)) ≡ true
primary_passes None h = refl
primary_passes (Some t) h = ap (λ b. b || (t.primary == 255)) (lt-ltb t.primary 16 h.0)

small_all : (ns : List ℕ) → Small ns → list_all (λ n. nat_lt n (2 ^ 64)) ns ≡ true
small_all [] h = refl
small_all (n ∷ ns) h = both_true (nat_lt n (2 ^ 64)) (list_all (λ m. nat_lt m (2 ^ 64)) ns) (lt-ltb n (2 ^ 64) h.0) (small_all ns h.1)

pub location_told : (chunk : ℕ) (view : View) (epoch : ℕ) → IsHandle chunk → IsToldView view → IsNumber epoch → IsAnswer (Ok (answers.Location chunk view epoch))
location_told chunk view epoch handle told now =
    let v : SettledView = record { handle = chunk; view = view } in
    let text = spaced (settled_numbers v) ++ decimal epoch in
    let numbers = settled_numbers v ++ epoch ∷ [] in
    let rest = view.stamp.epoch ∷ view.stamp.version ∷ view.count ∷ bits_of view.members ∷ primary_of view.term ∷ end_of view.term ∷ [] in
    let more = 32 ∷ (spaced rest ++ decimal epoch) in
    let bits = bits_are view.members told.1.1.1.0 in
    let bits_low = bits.0 in
    let term = told.1.1.1.1 in
    let primary = primary_low view.term term in
    let small : Small (settled_numbers v) = (handle.1, (told.0, (told.1.0, (told.1.1.0, (lower (bits_of view.members) bits_low, (primary, (end_low view.term term, tt))))))) in
    let all : Small numbers = (handle.1, (told.0, (told.1.0, (told.1.1.0, (lower (bits_of view.members) bits_low, (primary, (end_low view.term term, (now, tt)))))))) in
    let cut : text ≡ decimal chunk ++ more = append_assoc (decimal chunk ++ 32 ∷ []) (spaced rest) (decimal epoch) ∙ append_assoc (decimal chunk) (32 ∷ []) (spaced rest ++ decimal epoch) in
    let first : told_answer text ≡ told_numbers text (numbers_in text) =
    ap told_answer cut ∙ by_first (decimal chunk) more (digits_decimal digits chunk handle.1) (some_digits chunk handle) ∙ sym (ap (λ t. told_numbers t (numbers_in t)) cut) in
    let passes : (are_location numbers && list_all (λ n. nat_lt n (2 ^ 64)) numbers) ≡ true =
    both_true (are_location numbers) (list_all (λ n. nat_lt n (2 ^ 64)) numbers)
    (both_true (nat_lt 0 chunk) (nat_lt (bits_of view.members) (2 ^ 16) && (nat_lt (primary_of view.term) 16 || (primary_of view.term == 255))) (lt-ltb 0 chunk handle.0)
    (both_true (nat_lt (bits_of view.members) (2 ^ 16)) (nat_lt (primary_of view.term) 16 || (primary_of view.term == 255)) (lt-ltb (bits_of view.members) (2 ^ 16) bits_low) (primary_passes view.term term)))
    (small_all numbers all) in
    let second : told_numbers text numbers ≡ if_text text (told_location numbers) = ap (λ b. if b then if_text text (told_location numbers) else None) passes in
    let place : told_location numbers ≡ Some (answers.Location chunk view epoch) =
    (λ i. Some (answers.Location chunk (record { stamp = view.stamp; count = view.count; members = bits.1 i; term = term_is view.term term i }) epoch)) in
    let own : if_text text (Some (answers.Location chunk view epoch)) ≡ Some (answers.Location chunk view epoch) = ap (λ b. if b then Some (answers.Location chunk view epoch) else None) (same_bytes text) in
    ap (option_map (λ answer. Ok answer)) (first ∙ ap (told_numbers text) (numbers_again (settled_numbers v) epoch small now) ∙ second ∙ ap (if_text text) place ∙ own)
  where
    lower : (n : ℕ) → n < 2 ^ 16 → n < 2 ^ 64
    lower n h = omega arith

    some_digits : (n : ℕ) → IsHandle n → decimal n ≡ [] → ⊥
    some_digits n h none = let value = digits_value-decimal digits n h.1 in let zero_value : digits_value 10 (decimal n) ≡ 0 = ap (digits_value 10) none in let one = h.0 in absurd (omega arith)
