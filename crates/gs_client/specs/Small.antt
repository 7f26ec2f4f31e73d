-- Worked calls, on chunks of 16 bytes or of 4: what is asked, and what comes of it.
use Rattle.std.specs.Prelude.{◌≡◌, ◌++◌, ℕ, List, [], ◌∷◌, Some, None, Ok, Err, codes, length, refl}
use Rattle.gs_base.specs.declared.refusal.Refusal.TheVariants as refusals
use Rattle.gs_base.specs.declared.numbers.Stamp.{Stamp}
use Rattle.gs_path.specs.Path.{Path}
use Rattle.gs_lease.specs.declared.view.View.{View}
use Rattle.gs_replica.specs.declared.op.EditOutcome.TheVariants as outcomes
use Rattle.gs_client_dialogue.specs.Dialogues.{run}
use Rattle.gs_msg.specs.declared.answer.Answer.TheVariants as answers
use Rattle.gs_msg.specs.declared.answer.Status.TheVariants as statuses
use Rattle.gs_msg.specs.declared.body.Given.TheVariants as givens
use Rattle.gs_msg.specs.declared.call.Call.TheVariants as calls
use Rattle.gs_msg.specs.declared.chunk.Asked.TheVariants as asks
use Rattle.gs_msg.specs.declared.op.Op.TheVariants as ops
use Rattle.gs_msg.specs.declared.event.Request.{Request}
use Rattle.gs_msg.specs.declared.event.Request.TheVariants as requests
use Rattle.gs_client.specs.declared.link.Reply.{Reply}
use Rattle.gs_client.specs.declared.link.Reply.TheVariants as replies
use Rattle.gs_client_part.specs.declared.located.Located.{Located}
use Rattle.gs_client.specs.declared.reading.Stat.TheVariants as stats
use Rattle.gs_client.specs.Looking.{chunks_call}
use Rattle.gs_client.specs.Files.{open_call, opened_with}
use Rattle.gs_client.specs.Reading.{read_call, digest_call, stat_call}
use Rattle.gs_client.specs.Writing.{write_call, append_call}

-- the replies that are still to come, and the requests that were made
abbrev pub Talk : Type 0
Talk = List Reply × List Request

abbrev pub next : Talk → Request → Reply × Talk
next ([], asked) request = (replies.Lost, ([], asked ++ request ∷ []))
next (reply ∷ rest, asked) request = (reply, (rest, asked ++ request ∷ []))

abbrev pub replied : List Reply → Talk
replied some = (some, [])

abbrev pub f : Path
f = codes "f" ∷ []

abbrev pub stamp : ℕ → Stamp
stamp version = record { epoch = 0; version = version }

-- chunk 1 on two servers, of which the first numbers edits
abbrev pub leased : ℕ → View
leased version = record { stamp = stamp version; count = 0; members = 0 ∷ 1 ∷ []; term = Some (record { primary = 0; end = record { 0 = 60 } }) }

abbrev pub at : ℕ → ℕ → Reply
at handle version = replies.Answer (answers.Location handle (leased version) 0)

abbrev pub located : ℕ → ℕ → ℕ → Located
located index handle version = record { index = index; handle = handle; view = leased version; epoch = 0 }

abbrev pub write : ℕ → ℕ → ℕ → List ℕ → Request
write handle version offset bytes = requests.Write handle (0 ∷ 1 ∷ []) 0 (stamp version) (ops.Write offset (length bytes)) bytes

abbrev pub append : ℕ → ℕ → List ℕ → Request
append handle version bytes = requests.Write handle (0 ∷ 1 ∷ []) 0 (stamp version) (ops.Append 1) bytes

abbrev pub written : Reply
written = replies.Outcome outcomes.Written

-- two bytes over the end of a chunk, into a file without one
chunks_are_added_before_the_first_part : run next (write_call 16 f (Some 0) 15 (97 ∷ 98 ∷ [])) (replied (at 1 1 ∷ at 2 2 ∷ at 1 3 ∷ written ∷ at 2 4 ∷ written ∷ []))
    ≡ (
      Ok tt,
      (
        [],
        requests.Call (calls.Extend f 0) ∷ requests.Call (calls.Extend f 1)
            ∷ requests.Call (calls.FindForWriting f 0 None) ∷ write 1 3 15 (97 ∷ [])
            ∷ requests.Call (calls.FindForWriting f 1 None) ∷ write 2 4 0 (98 ∷ []) ∷ [],
      ),
    )
chunks_are_added_before_the_first_part = refl

-- seven bytes over three chunks of 4, from the last byte of the first of them on
a_write_has_a_middle_part : run next (write_call 4 f (Some 4) 7 (97 ∷ 98 ∷ 99 ∷ 100 ∷ 101 ∷ 102 ∷ 103 ∷ [])) (replied (at 1 3 ∷ written ∷ at 2 4 ∷ written ∷ at 3 5 ∷ written ∷ []))
    ≡ (
      Ok tt,
      (
        [],
        requests.Call (calls.FindForWriting f 1 None) ∷ write 1 3 3 (97 ∷ [])
            ∷ requests.Call (calls.FindForWriting f 2 None) ∷ write 2 4 0 (98 ∷ 99 ∷ 100 ∷ 101 ∷ [])
            ∷ requests.Call (calls.FindForWriting f 3 None) ∷ write 3 5 0 (102 ∷ 103 ∷ []) ∷ [],
      ),
    )
a_write_has_a_middle_part = refl

-- a primary without its lease: the next look-up avoids that stamp
an_edit_is_tried_once_more : run next (write_call 16 f (Some 1) 0 (97 ∷ [])) (replied (at 1 3 ∷ replies.Refused refusals.NotPrimary ∷ at 1 4 ∷ replies.Refused refusals.NotPrimary ∷ []))
    ≡ (
      Err refusals.NotPrimary,
      (
        [],
        requests.Call (calls.FindForWriting f 0 None) ∷ write 1 3 0 (97 ∷ [])
            ∷ requests.Call (calls.FindForWriting f 0 (Some (stamp 3))) ∷ write 1 4 0 (97 ∷ []) ∷ [],
      ),
    )
an_edit_is_tried_once_more = refl

-- the bytes were gone: the location is as good as before
bytes_are_sent_once_more : run next (write_call 16 f (Some 1) 0 (97 ∷ [])) (replied (at 1 3 ∷ replies.Refused refusals.NoData ∷ at 1 3 ∷ written ∷ []))
    ≡ (
      Ok tt,
      (
        [],
        requests.Call (calls.FindForWriting f 0 None) ∷ write 1 3 0 (97 ∷ [])
            ∷ requests.Call (calls.FindForWriting f 0 None) ∷ write 1 3 0 (97 ∷ []) ∷ [],
      ),
    )
bytes_are_sent_once_more = refl

other_refusals_end_it : run next (write_call 16 f (Some 1) 0 (97 ∷ [])) (replied (at 1 3 ∷ replies.Refused (refusals.Damaged 0) ∷ []))
    ≡ (Err (refusals.Damaged 0), ([], requests.Call (calls.FindForWriting f 0 None) ∷ write 1 3 0 (97 ∷ []) ∷ []))
other_refusals_end_it = refl

a_write_is_not_answered_as_padded : run next (write_call 16 f (Some 1) 0 (97 ∷ [])) (replied (at 1 3 ∷ replies.Outcome outcomes.Padded ∷ []))
    ≡ (Err refusals.Stray, ([], requests.Call (calls.FindForWriting f 0 None) ∷ write 1 3 0 (97 ∷ []) ∷ []))
a_write_is_not_answered_as_padded = refl

an_edit_that_nobody_answers : run next (write_call 16 f (Some 1) 0 (97 ∷ [])) (replied (at 1 3 ∷ [])) ≡ (Err refusals.Unsure, ([], requests.Call (calls.FindForWriting f 0 None) ∷ write 1 3 0 (97 ∷ []) ∷ []))
an_edit_that_nobody_answers = refl

past_the_last_chunk : run next (write_call 16 f (Some 0) 65536 (97 ∷ [])) (replied []) ≡ (Err refusals.Range, ([], []))
past_the_last_chunk = refl

-- the last chunk is filled up, and the record goes to the one behind it
a_record_goes_on : run next (append_call 16 f (Some 1) (97 ∷ [])) (replied (at 1 3 ∷ replies.Outcome outcomes.Padded ∷ at 2 4 ∷ at 2 5 ∷ replies.Outcome (outcomes.Appended 0) ∷ []))
    ≡ (
      Ok 16,
      (
        [],
        requests.Call (calls.FindForWriting f 0 None) ∷ append 1 3 (97 ∷ [])
            ∷ requests.Call (calls.Extend f 1) ∷ requests.Call (calls.FindForWriting f 1 None) ∷ append 2 5 (97 ∷ []) ∷ [],
      ),
    )
a_record_goes_on = refl

-- the length of the last chunk, and then its bytes from the same location; the first member doesn't answer
a_file_is_read_to_its_end : run next (read_call 16 f (Some 1) None 1 9) (replied (at 1 3 ∷ replies.Lost ∷ replies.Given (givens.Length 3) ∷ replies.Given (givens.Bytes (98 ∷ 99 ∷ [])) ∷ []))
    ≡ (
      Ok (98 ∷ 99 ∷ [], Some (located 0 1 3)),
      (
        [],
        requests.Call (calls.FindForReading f 0)
            ∷ requests.Fetch 0 1 (stamp 3) 0 asks.Length ∷ requests.Fetch 1 1 (stamp 3) 0 asks.Length ∷ requests.Fetch 0 1 (stamp 3) 0 (asks.Bytes 1 2) ∷ [],
      ),
    )
a_file_is_read_to_its_end = refl

-- in chunks that are full no length is asked for, and behind what is stored stand zeros
zeros_stand_behind : run next (read_call 16 f (Some 2) None 12 4) (replied (at 1 3 ∷ replies.Given (givens.Bytes (97 ∷ [])) ∷ []))
    ≡ (Ok (97 ∷ 0 ∷ 0 ∷ 0 ∷ [], Some (located 0 1 3)), ([], requests.Call (calls.FindForReading f 0) ∷ requests.Fetch 0 1 (stamp 3) 0 (asks.Bytes 12 4) ∷ []))
zeros_stand_behind = refl

-- seven bytes of three chunks of 4: the middle one stores one byte, and the last one's length is asked for first
a_read_has_a_middle_piece : run next (read_call 4 f (Some 4) None 7 7)
    (replied (at 3 5 ∷ replies.Given (givens.Length 3) ∷ at 1 3 ∷ replies.Given (givens.Bytes (97 ∷ [])) ∷ at 2 4 ∷ replies.Given (givens.Bytes (98 ∷ [])) ∷ at 3 5 ∷ replies.Given (givens.Bytes (99 ∷ 100 ∷ [])) ∷ []))
    ≡ (
      Ok (97 ∷ 98 ∷ 0 ∷ 0 ∷ 0 ∷ 99 ∷ 100 ∷ [], Some (located 3 3 5)),
      (
        [],
        requests.Call (calls.FindForReading f 3) ∷ requests.Fetch 0 3 (stamp 5) 0 asks.Length
            ∷ requests.Call (calls.FindForReading f 1) ∷ requests.Fetch 0 1 (stamp 3) 0 (asks.Bytes 3 1)
            ∷ requests.Call (calls.FindForReading f 2) ∷ requests.Fetch 0 2 (stamp 4) 0 (asks.Bytes 0 4)
            ∷ requests.Call (calls.FindForReading f 3) ∷ requests.Fetch 0 3 (stamp 5) 0 (asks.Bytes 0 2) ∷ [],
      ),
    )
a_read_has_a_middle_piece = refl

no_more_than_was_asked : run next (read_call 16 f (Some 2) None 12 1) (replied (at 1 3 ∷ replies.Given (givens.Bytes (97 ∷ 98 ∷ [])) ∷ []))
    ≡ (Err refusals.Stray, ([], requests.Call (calls.FindForReading f 0) ∷ requests.Fetch 0 1 (stamp 3) 0 (asks.Bytes 12 1) ∷ []))
no_more_than_was_asked = refl

behind_the_end : run next (read_call 16 f (Some 0) None 1 1) (replied []) ≡ (Err refusals.Range, ([], []))
behind_the_end = refl

at_the_end : run next (read_call 16 f (Some 0) None 0 9) (replied []) ≡ (Ok ([], None), ([], []))
at_the_end = refl

-- a remembered location is given up where all its members refuse
a_location_is_looked_up_anew : run next (digest_call f (Some 1) (Some (located 0 1 3)) 0 0) (replied (replies.Refused refusals.NoReplica ∷ replies.Refused refusals.NoReplica ∷ at 1 4 ∷ replies.Refused refusals.Range ∷ replies.Refused refusals.Old ∷ []))
    ≡ (
      Err refusals.Old,
      (
        [],
        requests.Fetch 0 1 (stamp 3) 0 (asks.Digest 0) ∷ requests.Fetch 1 1 (stamp 3) 0 (asks.Digest 0)
            ∷ requests.Call (calls.FindForReading f 0) ∷ requests.Fetch 0 1 (stamp 4) 0 (asks.Digest 0) ∷ requests.Fetch 1 1 (stamp 4) 0 (asks.Digest 0) ∷ [],
      ),
    )
a_location_is_looked_up_anew = refl

a_directory : run next (stat_call 16 f) (replied (replies.Answer (answers.Status statuses.Directory) ∷ [])) ≡ (Ok stats.Directory, ([], requests.Call (calls.Status f) ∷ []))
a_directory = refl

no_file_in_a_directory : run next (chunks_call f) (replied (replies.Answer (answers.Status statuses.Directory) ∷ [])) ≡ (Err refusals.IsADirectory, ([], requests.Call (calls.Status f) ∷ []))
no_file_in_a_directory = refl

a_file_is_opened : run next (open_call f) (replied (replies.Answer (answers.Status (statuses.File [])) ∷ [])) ≡ (Ok (opened_with f 0), ([], requests.Call (calls.Status f) ∷ []))
a_file_is_opened = refl
