-- The number that digits write.
use Rattle.std.proofs.Common.{◌≡◌, ◌∙◌, ◌+◌, ◌*◌, ◌<◌, ◌≤◌, ◌^◌, ◌&&◌, zero, suc, add-one, drop, drop-cons, get_or, length, ℕ, Bool, true, false, cond, List, [], ◌∷◌, map, refl, ap, sym, arith}
use Rattle.std.specs.List.{list_all}
use Rattle.std.specs.Prelude.{Option, Some, None, Result, option_and_then, option_map}
use Rattle.std.proofs.lemmas.Bool.{lt-ltb, le-ltb}
use Rattle.std.proofs.lemmas.List.{drop_all}
use Rattle.std.specs.Char.{digit_value}
use Rattle.std.specs.Str.Parse.{digits_value_after}
use Rattle.gs_base.specs.declared.refusal.Refusal.{Refusal}
use Rattle.gs_msg.specs.declared.answer.Answer.{Answer}
use Rattle.gs_base.specs.declared.numbers.ClientId.{ClientId}
use Rattle.gs_master_record.specs.Plain.{PlainReply, plain_outcome, plain_reply}
use Rattle.gs_master_record.specs.declared.checkpoint.Reply.{Reply}
use Rattle.gs_master_spec.specs.declared.reply.KeptReply.{KeptReply}
use Rattle.gs_master_spec.specs.Replies.{are_location, if_text, told_location, told_numbers, told_result}
use Rattle.gs_master_state.specs.inner.ToldNumbers.{all_held, held, is_held, place_in}
use Rattle.gs_master_spec.specs.Whole.{told_replies}

value_grows : (cs : List ℕ) (n : ℕ) → n ≤ digits_value_after 10 n cs
value_grows [] n = omega arith
value_grows (c ∷ cs) n = let more = value_grows cs (n * 10 + digit_value c) in omega arith

value_next : (cs : List ℕ) (i n : ℕ) → i < length cs → digits_value_after 10 n (drop i cs) ≡ digits_value_after 10 (n * 10 + digit_value (get_or cs i 0)) (drop (i + 1) cs)
value_next cs i n h = rw (add-one, drop-cons cs i 0 h) refl

not_held : (value : ℕ) → 2 ^ 64 ≤ value → None ≡ held value
not_held value above = ap (λ b. cond b (Some value) None) (sym (le-ltb value (2 ^ 64) above))

-- it grows with each digit more
pub too_many : (cs : List ℕ) (i n value : ℕ) → i < length cs → digits_value_after 10 n (drop i cs) ≡ value → (n * 10 + digit_value (get_or cs i 0) < 2 ^ 64 → ⊥) → None ≡ held value
too_many cs i n value h is above =
    let grown = value_grows (drop (i + 1) cs) (n * 10 + digit_value (get_or cs i 0)) in
    let same = value_next cs i n h in
    not_held value (omega arith)

pub all_read : (cs : List ℕ) (i n value : ℕ) → length cs ≤ i → n < 2 ^ 64 → digits_value_after 10 n (drop i cs) ≡ value → Some n ≡ held value
all_read cs i n value h below is =
    let end : n ≡ value = sym (ap (digits_value_after 10 n) (drop_all i cs h)) ∙ is in
    ap (λ b. cond b (Some n) None) (sym (lt-ltb n (2 ^ 64) below)) ∙ ap held end

-- ---- where a chunk is, by its numbers

held_same : (all numbers : List ℕ) (h : Bool) → Some numbers ≡ cond h (Some all) None → (h ≡ true) × (numbers ≡ all)
held_same all numbers true is = (refl, cc)
held_same all numbers false is = absurd (cc)

placed : (text all : List ℕ) (answer : Answer) (a : Bool) → Some answer ≡ cond a (told_location all) None → (cond (a && true) (if_text text (told_location all)) None) ≡ if_text text (Some answer)
placed text all answer true is = ap (if_text text) (sym is)
placed text all answer false is = absurd (cc)

not_placed : (text all : List ℕ) (a : Bool) → None ≡ cond a (told_location all) None → None ≡ cond (a && true) (if_text text (told_location all)) None
not_placed text all true is = ap (if_text text) is
not_placed text all false is = refl

pub told_here : (text all numbers : List ℕ) (answer : Answer) → Some numbers ≡ all_held all → Some answer ≡ place_in numbers → told_numbers text all ≡ if_text text (Some answer)
told_here text all numbers answer held is =
    let same = held_same all numbers (list_all is_held all) held in
    ap (λ b. cond (are_location all && b) (if_text text (told_location all)) None) same.0 ∙ placed text all answer (are_location all) (is ∙ ap place_in same.1)

pub not_told_here : (text all numbers : List ℕ) → Some numbers ≡ all_held all → None ≡ place_in numbers → None ≡ told_numbers text all
not_told_here text all numbers held is =
    let same = held_same all numbers (list_all is_held all) held in
    not_placed text all (are_location all) (is ∙ ap place_in same.1) ∙ ap (λ b. cond (are_location all && b) (if_text text (told_location all)) None) (sym same.0)

-- ---- replies

-- the replies with one before them
abbrev with_reply : PlainReply → Option (List (ClientId × KeptReply)) → Result Answer Refusal → Option (List (ClientId × KeptReply))
with_reply r rest result = option_map (λ rest. (r.to.client, record { number = r.to.number; result = result }) ∷ rest) rest

none_behind : (o : Option (Result Answer Refusal)) (r : PlainReply) → option_and_then (with_reply r None) o ≡ None
none_behind None r = refl
none_behind (Some result) r = refl

-- where one tells nothing, all tell nothing
pub none_told : (replies : List Reply) (i : ℕ) (x : Reply) → i < length replies → x ≡ get_or replies i x → told_result (plain_outcome x.outcome) ≡ None → told_replies (map plain_reply replies) ≡ None
none_told [] i x h at none = absurd (omega arith)
none_told (r ∷ replies) zero x h at none = ap (option_and_then (with_reply (plain_reply r) (told_replies (map plain_reply replies)))) (ap (λ (y : Reply). told_result (plain_outcome y.outcome)) (sym at) ∙ none)
none_told (r ∷ replies) (suc i) x h at none =
    ap (λ rest. option_and_then (with_reply (plain_reply r) rest) (told_result (plain_reply r).outcome)) (none_told replies i x (omega arith) at none) ∙ none_behind (told_result (plain_reply r).outcome) (plain_reply r)
