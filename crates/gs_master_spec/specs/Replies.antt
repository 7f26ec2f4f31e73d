-- Kept replies: what a record tells of the reply to its request, and the text of such a reply in a checkpoint.
use Rattle.std.specs.Prelude.{◌≡◌, ◌&&◌, ◌||◌, ◌==◌, ◌^◌, ℕ, Bool, true, false, nat_lt, List, [], ◌∷◌, map, codes, bytes_eq, Option, Some, None, option_map, Result, Ok, Err, if◌then◌else◌, refl}
use Rattle.std.specs.declared.cmp.Ordering.{Ordering}
use Rattle.std.specs.Fmt.{digits}
use Rattle.std.specs.List.{slice_split, list_all}
use Rattle.std.specs.Ordering.{on, nat_cmp}
use Rattle.std.specs.Str.Parse.{digits_value}
use Rattle.gs_base.specs.Members.{servers_where, has_bit, bits_of}
use Rattle.gs_base.specs.declared.numbers.ClientId.{ClientId}
use Rattle.gs_base.specs.declared.refusal.Refusal.{Refusal}
use Rattle.gs_path.specs.Path.{Path, path_text}
use Rattle.gs_path.specs.Rules.{parse_hidden}
use Rattle.gs_lease.specs.declared.view.Term.{Term}
use Rattle.gs_lease.specs.declared.view.View.{View}
use Rattle.gs_tree.specs.Edits.{hidden_path, old_name}
use Rattle.gs_edit.specs.Plain.{unhide_target}
use Rattle.gs_msg.specs.declared.answer.Answer.{Answer}
use Rattle.gs_msg.specs.declared.answer.Answer.TheVariants as answers
use Rattle.gs_master_record.specs.Extended.{extended_text}
use Rattle.gs_master_record.specs.Plain.{PlainEdit, Mkdirs, Create, Rename, Hide, Unhide, Remove, AddChunk, Cow, Snapshot, Forget, PlainOutcome, Accepted, Refused}
use Rattle.gs_master_spec.specs.declared.reply.KeptReply.{KeptReply}

-- clients by their numbers
abbrev pub client_cmp : ClientId → ClientId → Ordering
client_cmp = on (λ (c : ClientId). c.0) nat_cmp

-- The answer to an accepted edit, where its record tells it. That of an extend has the view with which the chunk was
-- settled, and the epoch. The master's own edits answer nobody.
abbrev pub answer_to : PlainEdit → Option View → ℕ → Option Answer
answer_to (Mkdirs p) view epoch = Some answers.Nothing
answer_to (Create p) view epoch = Some answers.Nothing
answer_to (Rename from to) view epoch = Some answers.Nothing
answer_to (Hide p moment number) view epoch = Some (answers.Path (hidden_path p moment number))
answer_to (Unhide p) view epoch = Some (answers.Path (unhide_target p (old_name p)))
answer_to (Remove p) view epoch = None
answer_to (AddChunk p chunk) view epoch = option_map (λ v. answers.Location chunk v epoch) view
answer_to (Cow p index old new) view epoch = None
answer_to (Snapshot from to) view epoch = Some answers.Nothing
answer_to (Forget chunks) view epoch = None

-- ---- in a checkpoint

-- the text of an answer that a record tells
abbrev pub answer_text : Answer → List ℕ
answer_text (answers.Path p) = path_text p
answer_text (answers.Location chunk view epoch) = extended_text (record { settled = record { handle = chunk; view = view }; epoch = epoch })
answer_text answer = []

abbrev pub outcome_of : Result Answer Refusal → PlainOutcome
outcome_of (Ok answer) = Accepted (answer_text answer)
outcome_of (Err refusal) = Refused refusal

abbrev pub told_path : Result Path Refusal → Option Answer
told_path (Ok p) = Some (answers.Path p)
told_path (Err refusal) = None

-- 255 and 0 where there is no primary
abbrev pub told_term : ℕ → ℕ → Option Term
told_term primary end = if primary == 255 then None else Some (record { primary = primary; end = record { 0 = end } })

abbrev pub told_location : List ℕ → Option Answer
told_location (chunk ∷ epoch ∷ version ∷ count ∷ members ∷ primary ∷ end ∷ now ∷ []) =
    Some (answers.Location chunk (record { stamp = record { epoch = epoch; version = version }; count = count; members = servers_where (has_bit members); term = told_term primary end }) now)
told_location numbers = None

-- each number is one that its type holds: a chunk isn't 0, members are 16 bits, and a primary is a server or 255
abbrev pub are_location : List ℕ → Bool
are_location (chunk ∷ epoch ∷ version ∷ count ∷ members ∷ primary ∷ rest) =
    nat_lt 0 chunk && (nat_lt members (2 ^ 16) && (nat_lt primary 16 || (primary == 255)))
are_location numbers = false

abbrev pub numbers_in : List ℕ → List ℕ
numbers_in text = map (digits_value 10) (slice_split (λ c. c == 32) text)

-- an answer, if this is its text
abbrev pub if_text : List ℕ → Option Answer → Option Answer
if_text text None = None
if_text text (Some answer) = if bytes_eq (answer_text answer) text then Some answer else None

abbrev pub told_numbers : List ℕ → List ℕ → Option Answer
told_numbers text numbers =
    if are_location numbers && list_all (λ n. nat_lt n (2 ^ 64)) numbers then if_text text (told_location numbers) else None

-- the answer of a text: nothing, a path, or where a chunk is
abbrev pub told_answer : List ℕ → Option Answer
told_answer [] = Some answers.Nothing
told_answer (c ∷ text) = if c == 47 then told_path (parse_hidden (c ∷ text)) else told_numbers (c ∷ text) (numbers_in (c ∷ text))

abbrev pub told_result : PlainOutcome → Option (Result Answer Refusal)
told_result (Accepted text) = option_map (λ answer. Ok answer) (told_answer text)
told_result (Refused refusal) = Some (Err refusal)

-- ---- of two replies to a client the one of the later request

abbrev pub later : Option KeptReply → Option KeptReply → Option KeptReply
later None other = other
later (Some reply) None = Some reply
later (Some reply) (Some other) = if nat_lt reply.number other.number then Some other else Some reply

-- whether a request is later than the one that was answered last
abbrev pub is_later : Option KeptReply → ℕ → Bool
is_later None number = true
is_later (Some reply) number = nat_lt reply.number number

-- chunk 2 under 0.4 without an edit on servers 0 and 1, with server 0 as its primary up to 60
abbrev a_view : View
a_view = record { stamp = record { epoch = 0; version = 4 }; count = 0; members = 0 ∷ 1 ∷ []; term = Some (record { primary = 0; end = record { 0 = 60 } }) }

a_place : answer_text (answers.Location 2 a_view 0) ≡ codes "2 0 4 0 3 0 60 0"
unfolding bits_of digits
a_place = refl

a_place_told : told_answer (codes "2 0 4 0 3 0 60 0") ≡ Some (answers.Location 2 a_view 0)
unfolding bits_of servers_where digits
a_place_told = refl

a_number_too_many : told_answer (codes "2 0 4 0 3 0 60 0 1") ≡ None
a_number_too_many = refl

a_zero_in_front : told_answer (codes "02 0 4 0 3 0 60 0") ≡ None
unfolding bits_of servers_where digits
a_zero_in_front = refl

a_path_told : told_answer (codes "/a") ≡ Some (answers.Path (codes "a" ∷ []))
a_path_told = refl

nothing_told : told_answer [] ≡ Some answers.Nothing
nothing_told = refl
