-- What a whole checkpoint tells is what is read with its replies.
use Rattle.std.proofs.Common.{◌≡◌, ◌∙◌, inl, inr, List, ap, refl}
use Rattle.std.specs.FinMap as fin
use Rattle.std.specs.Prelude.{Option, Some, None, Result, Ok, Err, option_map}
use Rattle.gs_base.specs.declared.numbers.ClientId.{ClientId}
use Rattle.gs_base.specs.declared.refusal.Refusal.{Refusal}
use Rattle.gs_master_record.specs.Plain.{PlainCheckpoint}
use Rattle.gs_master_state.specs.Checkpoints.{Reads, read_with}
use Rattle.gs_master_spec.specs.Replies.{client_cmp}
use Rattle.gs_master_state.specs.inner.ToldNumbers.{ReadsWhole, told_table}
use Rattle.gs_master_spec.specs.Whole.{told_replies, whole_of}
use Rattle.gs_master_state.specs.declared.recorded.Recorded.{Recorded}
use Rattle.gs_master_spec.specs.declared.reply.KeptReply.{KeptReply}
use Rattle.gs_master_state.proofs.Opened.{with_replies, without_replies}

abbrev Replies : Type 0
Replies = List (ClientId × KeptReply)

read_so : (c : PlainCheckpoint) (table : fin.FinMap client_cmp KeptReply) (told : Option Replies) → told_replies c.replies ≡ told → Some table ≡ option_map fin.from_entries told → whole_of c ≡ read_with c table
read_so c table None told is = absurd (cc)
read_so c table (Some replies) told is = with_replies c replies told ∙ ap (read_with c) (let same : fin.from_entries replies ≡ table = cc in same)

pub whole_read : (c : PlainCheckpoint) (table : fin.FinMap client_cmp KeptReply) (r : Result Recorded Refusal) → Some table ≡ told_table c.replies → Reads c table r → ReadsWhole c r
whole_read c table (Ok r) is reads = read_so c table (told_replies c.replies) refl is ∙ reads
whole_read c table (Err e) is (inl memory) = inl memory
whole_read c table (Err e) is (inr (bad, none)) = inr (bad, read_so c table (told_replies c.replies) refl is ∙ none)

tells_nothing : (c : PlainCheckpoint) (told : Option Replies) → told_replies c.replies ≡ told → None ≡ option_map {U = fin.FinMap client_cmp KeptReply} fin.from_entries told → whole_of c ≡ None
tells_nothing c None told is = without_replies c told
tells_nothing c (Some replies) told is = absurd (cc)

pub nothing_read : (c : PlainCheckpoint) → None ≡ told_table c.replies → whole_of c ≡ None
nothing_read c is = tells_nothing c (told_replies c.replies) refl is
