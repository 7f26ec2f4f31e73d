-- The text of what a line came to.
use Rattle.std.specs.Prelude.{◌≡◌, ◌++◌, ℕ, true, false, List, [], ◌∷◌, Option, Some, None, Result, Ok, Err, codes, decimal, flat_map, refl}
use Rattle.std.specs.Fmt.{digits}
use Rattle.hex.specs.Hex.{encode_lower, encode_with}
use Rattle.gs_base.specs.Refusals.{refusal_text}
use Rattle.gs_base.specs.declared.refusal.Refusal.{Refusal}
use Rattle.gs_base.specs.declared.refusal.Refusal.TheVariants as refusals
use Rattle.gs_client.specs.declared.reading.Stat.{Stat}
use Rattle.gs_client.specs.declared.reading.Stat.TheVariants as stats
use Rattle.gs_msg.specs.Texts.{chunk_status_text, name_text, phase_text}
use Rattle.gs_msg.specs.declared.answer.ChunkStatus.{ChunkStatus}
use Rattle.gs_msg.specs.declared.answer.Copied.{Copied}
use Rattle.gs_msg.specs.declared.answer.Phase.TheVariants as phases
use Rattle.gs_msg.specs.declared.lists.ListedName.{ListedName}
use Rattle.gs_path.specs.Path.{path_text}
use Rattle.gs_shell_calls.specs.declared.answer.Answer.{Answer}
use Rattle.gs_shell_calls.specs.declared.answer.Answer.TheVariants as answers

-- each item behind a space
abbrev pub behind_spaces : {A : Type 0} → (A → List ℕ) → List A → List ℕ
behind_spaces text items = flat_map (λ x. codes " " ++ text x) items

-- a directory's name has a slash behind it
abbrev pub names_text : List ListedName → List ℕ
names_text names = behind_spaces name_text names

-- of each chunk its handle, how often it is referenced, and its members, with slashes between them
abbrev pub chunks_text : List ChunkStatus → List ℕ
chunks_text chunks = behind_spaces chunk_status_text chunks

abbrev pub stat_text : Stat → List ℕ
stat_text stats.Directory = codes "ok dir"
stat_text (stats.File length chunks) = codes "ok file " ++ (decimal length ++ chunks_text chunks)

-- in hex, in lower case
abbrev pub bytes_text : List ℕ → List ℕ
bytes_text [] = codes "ok"
bytes_text (b ∷ bs) = codes "ok " ++ encode_lower (b ∷ bs)

-- the chunk, and the server that has a copy now
abbrev pub copied_text : Option Copied → List ℕ
copied_text None = codes "ok none"
copied_text (Some copied) = codes "ok " ++ (decimal copied.handle ++ (codes " " ++ decimal copied.server))

abbrev pub accepted_text : Answer → List ℕ
accepted_text answers.Done = codes "ok"
accepted_text (answers.Names names) = codes "ok" ++ names_text names
accepted_text (answers.Stat stat) = stat_text stat
accepted_text (answers.Path path) = codes "ok " ++ path_text path
accepted_text answers.Missing = codes "ok false"
accepted_text (answers.Number n) = codes "ok " ++ decimal n
accepted_text (answers.Bytes bytes) = bytes_text bytes
accepted_text (answers.Digest digest) = bytes_text digest
accepted_text (answers.Scanned removed forgotten) = codes "ok " ++ (decimal removed ++ (codes " " ++ decimal forgotten))
accepted_text (answers.Copied copied) = copied_text copied
accepted_text (answers.Phase phase epoch) = codes "ok " ++ (phase_text phase ++ (codes " " ++ decimal epoch))

-- what was accepted, or the line of the refusal
abbrev pub answer_text : Result Answer Refusal → List ℕ
answer_text (Ok answer) = accepted_text answer
answer_text (Err refusal) = refusal_text refusal

-- a scan that removed one path and forgot two chunks
a_scan : answer_text (Ok (answers.Scanned 1 2)) ≡ codes "ok 1 2"
unfolding digits
a_scan = refl

-- a directory `a` and a file `b`
two_names : answer_text (Ok (answers.Names (record { name = codes "a"; is_directory = true } ∷ record { name = codes "b"; is_directory = false } ∷ []))) ≡ codes "ok a/ b"
two_names = refl

no_names : answer_text (Ok (answers.Names [])) ≡ codes "ok"
no_names = refl

-- a file of 10 bytes in two chunks, the second of which has no member
a_file :
    answer_text (Ok (answers.Stat (stats.File 10 (record { handle = 3; references = 1; members = 0 ∷ 2 ∷ [] } ∷ record { handle = 12; references = 2; members = [] } ∷ []))))
    ≡ codes "ok file 10 3/1/0,2 12/2/-"
unfolding digits
a_file = refl

an_empty_file : answer_text (Ok (answers.Stat (stats.File 0 []))) ≡ codes "ok file 0"
unfolding digits
an_empty_file = refl

a_directory : answer_text (Ok (answers.Stat stats.Directory)) ≡ codes "ok dir"
a_directory = refl

some_bytes : answer_text (Ok (answers.Bytes (0 ∷ 171 ∷ []))) ≡ codes "ok 00ab"
unfolding encode_with
some_bytes = refl

no_bytes : answer_text (Ok (answers.Bytes [])) ≡ codes "ok"
no_bytes = refl

a_path : answer_text (Ok (answers.Path (codes "a" ∷ codes "b" ∷ []))) ≡ codes "ok /a/b"
a_path = refl

nothing_deleted : answer_text (Ok answers.Missing) ≡ codes "ok false"
nothing_deleted = refl

a_copy : answer_text (Ok (answers.Copied (Some (record { handle = 7; server = 2 })))) ≡ codes "ok 7 2"
unfolding digits
a_copy = refl

no_copy : answer_text (Ok (answers.Copied None)) ≡ codes "ok none"
no_copy = refl

an_upgrade : answer_text (Ok (answers.Phase phases.Upgrade 3)) ≡ codes "ok upgrade 3"
unfolding digits
an_upgrade = refl

a_refusal : answer_text (Err (refusals.NotQuiet 5)) ≡ codes "refused 15 NotQuiet 5"
unfolding digits
a_refusal = refl
