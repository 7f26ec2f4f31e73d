-- Replies as they are read from their texts.
use Rattle.std.specs.Prelude.{◌≡◌, ◌⊎◌, ◌||◌, ◌==◌, ◌^◌, ℕ, Bool, nat_lt, List, Option, Some, None, option_map, Result, Ok, Err, if◌then◌else◌, refl}
use Rattle.std.specs.List.{list_all}
use Rattle.std.specs.FinMap as fin
use Rattle.gs_lease.specs.declared.view.Term.{Term}
use Rattle.gs_msg.specs.declared.answer.Answer.{Answer}
use Rattle.gs_base.specs.declared.refusal.Refusal.{Refusal}
use Rattle.gs_base.specs.declared.refusal.Refusal.TheVariants as refusals
use Rattle.gs_master_record.specs.Plain.{PlainCheckpoint, PlainReply}
use Rattle.gs_master_state.specs.inner.Recorded.{durable_of}
use Rattle.gs_master_state.specs.declared.recorded.Recorded.{Recorded}
use Rattle.gs_master_spec.specs.Replies.{are_location, client_cmp, told_location, told_term}
use Rattle.gs_master_spec.specs.Whole.{told_replies, whole_of}
use Rattle.gs_master_spec.specs.declared.reply.KeptReply.{KeptReply}

-- a number that eight bytes hold
abbrev pub is_held : ℕ → Bool
is_held number = nat_lt number (2 ^ 64)

abbrev pub held : ℕ → Option ℕ
held number = if is_held number then Some number else None

abbrev pub all_held : List ℕ → Option (List ℕ)
all_held numbers = if list_all is_held numbers then Some numbers else None

-- a primary is a server, or 255 where there is none
abbrev pub is_primary : ℕ → Bool
is_primary primary = nat_lt primary 16 || (primary == 255)

abbrev pub told_primary : ℕ → ℕ → Option (Option Term)
told_primary primary end = if is_primary primary then Some (told_term primary end) else None

-- where a chunk is, if the types hold these numbers
abbrev pub place_in : List ℕ → Option Answer
place_in numbers = if are_location numbers then told_location numbers else None

-- the replies that are told, as a table holds them
abbrev pub told_table : List PlainReply → Option (fin.FinMap client_cmp KeptReply)
told_table replies = option_map fin.from_entries (told_replies replies)

-- what is recorded is what the whole checkpoint tells, exactly where it tells it, memory aside
abbrev pub ReadsWhole : PlainCheckpoint → Result Recorded Refusal → Type 0
ReadsWhole c (Ok r) = whole_of c ≡ Some (durable_of r)
ReadsWhole c (Err e) = (e ≡ refusals.Memory) ⊎ ((e ≡ refusals.BadLine) × (whole_of c ≡ None))

one_too_large : held 18446744073709551616 ≡ None
one_too_large = refl

no_server : told_primary 16 0 ≡ None
no_server = refl
