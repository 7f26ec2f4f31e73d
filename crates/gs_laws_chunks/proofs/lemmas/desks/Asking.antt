-- That all which a line's dialogue may ask is named, and within its types.
use Rattle.std.proofs.Common.{◌≡◌, ◌+◌, ◌-◌, ◌*◌, ◌/◌, ◌<◌, ◌≤◌, ◌==◌, ◌||◌, ℕ, zero, suc, Bool, true, false, List, [], ◌∷◌, length, Option, Some, None, MatchOption, Result, Ok, Err, if◌then◌else◌, refl, sym, subst, arith, nat_le, nat_lt}
use Rattle.std.proofs.Math.Nat.{div-lt_iff_lt-mul, div-mul-le_self}
use Rattle.std.proofs.lemmas.Nat.{le-div}
use Rattle.std.proofs.lemmas.Bool.Decides.{nat_tests}
use Rattle.gs_base.specs.declared.numbers.Stamp.{Stamp}
use Rattle.gs_base.specs.declared.refusal.Refusal.{Refusal}
use Rattle.gs_base.specs.declared.refusal.Refusal.TheVariants as refusals
use Rattle.gs_shell_calls.specs.Asked.{append_to, asked_by, digest_of, done, ends_so, given_bytes, given_digest, hidden, is_unquiet, on, on_two, path_in, plain, read_of, step_line, unless_quiet, upgrade_line, with_file, write_to}
use Rattle.gs_shell_calls.specs.declared.answer.Answer.{Answer}
use Rattle.gs_shell_calls.specs.declared.answer.Answer.TheVariants as answers
use Rattle.gs_client.specs.Files.{open_call}
use Rattle.gs_client_part.specs.Writing.{most_chunks}
use Rattle.gs_client.specs.Looking.{anew_call, chunks_call, count_in, fetch_call, find_call, known_call, members_call, round_call}
use Rattle.gs_client.specs.Opened.{File}
use Rattle.gs_client_part.specs.Reading.{piece_end, span}
use Rattle.gs_client.specs.Reading.{digest_call, end_call, length_call, piece_call, pieces_call, read_call, stat_call, stat_of, stored_call, within}
use Rattle.gs_client.specs.Replies.{bytes_in, chunks_in, digest_in, given, is_stale, length_in, status_in}
use Rattle.gs_client.specs.Trees as trees
use Rattle.gs_client.specs.Trees.{Call}
use Rattle.gs_client_part.specs.Writing.{chunks_to, is_out, part_bytes, part_count}
use Rattle.gs_client.specs.Writing.{again_call, append_call, append_from, avoided, edit_call, extend_call, extends_call, landed, part_call, part_op, parts_call, send_call, write_call, write_part_call, writing_call}
use Rattle.gs_client_part.specs.declared.located.Located.{Located}
use Rattle.gs_client_dialogue.specs.Dialogues.{Ask, Dialogue, Grow, Say, both, onward, otherwise, upon}
use Rattle.gs_laws_master.specs.Written.{IsIndex}
use Rattle.gs_lease.specs.declared.view.Term.{Term}
use Rattle.gs_shell_grammar.specs.Grammar.{Request as Line, line_request}
use Rattle.gs_shell_grammar.specs.Grammar as lines
use Rattle.gs_shell_grammar.specs.declared.command.Upgrade.{Upgrade}
use Rattle.gs_shell_grammar.specs.declared.command.Upgrade.TheVariants as upgrades
use Rattle.gs_shell_grammar.specs.declared.command.UpgradeStep.{UpgradeStep}
use Rattle.gs_shell_grammar.specs.declared.command.UpgradeStep.TheVariants as steps
use Rattle.gs_msg.specs.declared.answer.Status.{Status}
use Rattle.gs_msg.specs.declared.answer.Status.TheVariants as statuses
use Rattle.gs_msg.specs.declared.answer.ChunkStatus.{ChunkStatus}
use Rattle.gs_msg.specs.declared.call.Call.TheVariants as calls
use Rattle.gs_msg.specs.declared.chunk.Asked.{Asked}
use Rattle.gs_msg.specs.declared.chunk.Asked.TheVariants as asks
use Rattle.gs_msg.specs.declared.op.Op.{Op}
use Rattle.gs_msg.specs.declared.op.Op.TheVariants as ops
use Rattle.gs_path.specs.Path.{Path}
use Rattle.gs_path.specs.Rules.{parse, parse_hidden}
use Rattle.gs_master_record.specs.Writable.{IsPath}
use Rattle.gs_replica.specs.declared.op.EditOutcome.{EditOutcome}
use Rattle.gs_replica.specs.declared.op.EditOutcome.TheVariants as outcomes
use Rattle.gs_laws_world.specs.steady.Asking.{AllAsked, Asks, MayBeAsked}
use Rattle.gs_laws_chunks.proofs.lemmas.desks.Words.{IsSpoken, line_spoken, stored_path, visible_path}

-- ---- dialogues

asks_upon : {Q R A B : Type 0} (May : Q → Type 0) (Ends : A → Type 0) (Last : B → Type 0) (call : Dialogue Q R A) (go : A → Dialogue Q R B) → Asks May Ends call → ((x : A) → Ends x → Asks May Last (go x)) → Asks May Last (upon call go)
asks_upon May Ends Last (Say x) go asked rest = rest x asked
asks_upon May Ends Last (Ask one more) go asked rest = (asked.0, λ reply. asks_upon May Ends Last (more reply) go (asked.1 reply) rest)
asks_upon May Ends Last (Grow call) go asked rest = asks_upon May Ends Last call go asked rest

-- whatever it comes to
abbrev Any : {A : Type 0} → A → Type 0
Any x = Unit {0}

abbrev Well : {A : Type 0} → Call A → Type 0
Well call = AllAsked MayBeAsked call

asks_both : {A B : Type 0} (Ends : Result A Refusal → Type 0) (Last : Result B Refusal → Type 0) (call : Call A) (go : A → Call B) → ((e : Refusal) → Last (Err e)) → Asks MayBeAsked Ends call → ((x : A) → Ends (Ok x) → Asks MayBeAsked Last (go x))
    → Asks MayBeAsked Last (both call go)
asks_both {A} {B} Ends Last call go refused asked rest = asks_upon MayBeAsked Ends Last call (onward go) asked on_from
  where
    on_from : (r : Result A Refusal) → Ends r → Asks MayBeAsked Last (onward go r)
    on_from (Ok x) e = rest x e
    on_from (Err e) x = refused e

well_both : {A B : Type 0} (call : Call A) (go : A → Call B) → Well call → ((x : A) → Well (go x)) → Well (both call go)
well_both call go asked rest = asks_both Any Any call go (λ e. tt) asked (λ x e. rest x)

-- where a value is said, what follows
well_say : {A B : Type 0} (said : Result A Refusal) (go : A → Call B) → ((x : A) → Well (go x)) → Well (both (Say said) go)
well_say said go rest = well_both (Say said) go tt rest

well_otherwise : {A : Type 0} (other : Refusal → Call A) → ((e : Refusal) → Well (other e)) → (r : Result A Refusal) → Well (otherwise other r)
well_otherwise other rest (Ok x) = tt
well_otherwise other rest (Err e) = rest e

well_upon_otherwise : {A : Type 0} (call : Call A) (other : Refusal → Call A) → Well call → ((e : Refusal) → Well (other e)) → Well (upon call (otherwise other))
well_upon_otherwise call other asked rest = asks_upon MayBeAsked Any Any call (otherwise other) asked (λ r u. well_otherwise other rest r)

either : {A : Type 0} (b : Bool) (x y : Call A) → Well x → Well y → Well (if b then x else y)
either true x y h k = h
either false x y h k = k

-- ---- how many chunks a file has

-- no more than a file may have
abbrev Few : Result ℕ Refusal → Type 0
Few (Ok many) = many ≤ most_chunks
Few (Err e) = Unit {0}

abbrev FewKnown : Option ℕ → Type 0
FewKnown None = Unit {0}
FewKnown (Some many) = many ≤ most_chunks

count_few : (chunks : List ChunkStatus) → Few (count_in chunks)
count_few chunks = by_test (nat_le (length chunks) most_chunks) refl
  where
    so : (n : ℕ) → nat_le n most_chunks ≡ true → n ≤ most_chunks
    so n e = grind (arith, nat_tests)

    by_test : (b : Bool) → nat_le (length chunks) most_chunks ≡ b → Few (if b then Ok (length chunks) else Err refusals.Stray)
    by_test true is = so (length chunks) is
    by_test false is = tt

abbrev status_asked : Path → Call Status
status_asked path = Grow (trees.look (calls.Status path) status_in)

status_well : (path : Path) → Well (status_asked path)
status_well path = (record { named = tt; met = λ names. tt }, λ reply. tt)

chunks_few : (path : Path) → Asks MayBeAsked Few (chunks_call path)
chunks_few path =
    asks_both Any Few (status_asked path) (λ status. both (Say (chunks_in status)) (λ chunks. Say (count_in chunks))) (λ e. tt) (status_well path)
    (λ status u. asks_both Any Few (Say (chunks_in status)) (λ chunks. Say (count_in chunks)) (λ e. tt) tt (λ chunks v. count_few chunks))

known_few : (path : Path) (opened : Option ℕ) → FewKnown opened → Asks MayBeAsked Few (known_call path opened)
known_few path None few = chunks_few path
known_few path (Some many) few = few

-- ---- reading

found_well : (path : Path) (index : ℕ) → Well (find_call path index)
found_well path index = (record { named = tt; met = λ names. tt }, λ reply. tt)

members_well : (l : Located) (asked : Asked) (members : List ℕ) (last : Refusal) → Well (members_call l asked members last)
members_well l asked [] last = tt
members_well l asked (member ∷ members) last = (tt, λ reply. well_otherwise (members_call l asked members) (λ e. members_well l asked members e) (given last reply))

round_well : (l : Located) (asked : Asked) → Well (round_call l asked)
round_well l asked = well_both (members_call l asked l.view.members refusals.NoReplica) _ (members_well l asked l.view.members refusals.NoReplica) (λ g. tt)

anew_well : (path : Path) (index : ℕ) (asked : Asked) → Well (anew_call path index asked)
anew_well path index asked = well_both (find_call path index) (λ l. round_call l asked) (found_well path index) (λ l. round_well l asked)

fetch_well : (path : Path) (known : Option Located) (index : ℕ) (asked : Asked) → Well (fetch_call path known index asked)
fetch_well path None index asked = anew_well path index asked
fetch_well path (Some l) index asked =
    either (l.index == index) (upon (round_call l asked) (otherwise (λ refusal. anew_call path index asked))) (anew_call path index asked)
    (well_upon_otherwise (round_call l asked) (λ refusal. anew_call path index asked) (round_well l asked) (λ e. anew_well path index asked)) (anew_well path index asked)

length_well : (size : ℕ) (path : Path) (known : Option Located) (many : ℕ) → Well (length_call size path known many)
length_well size path known zero = tt
length_well size path known (suc last) =
    well_both (fetch_call path known last asks.Length) _ (fetch_well path known last asks.Length) (λ f.
    well_say (length_in f.0) _ (λ many. well_say (within size many) _ (λ m. tt)))

end_well : (size : ℕ) (path : Path) (known : Option Located) (chunks offset many : ℕ) → Well (end_call size path known chunks offset many)
end_well size path known chunks offset many =
    either (nat_le (offset + many) ((chunks - 1) * size)) _ _ tt
    (well_both (length_call size path known chunks) _ (length_well size path known chunks) (λ l. either (nat_lt l.0 offset) _ _ tt tt))

stored_well : (path : Path) (known : Option Located) (index : ℕ) (asked : Asked) → Well (stored_call path known index asked)
stored_well path known index asked = well_both (fetch_call path known index asked) _ (fetch_well path known index asked) (λ f. well_say (bytes_in asked f.0) _ (λ bytes. tt))

piece_well : (path : Path) (known : Option Located) (chunks index start many : ℕ) → Well (piece_call path known chunks index start many)
piece_well path known chunks index start many = well_both (stored_call path known index (asks.Bytes start many)) _ (stored_well path known index (asks.Bytes start many)) (λ s. tt)

pieces_well : (size : ℕ) (path : Path) (chunks end : ℕ) (known : Option Located) (index start many : ℕ) (read : List ℕ) → Well (pieces_call size path chunks end known index start many read)
pieces_well size path chunks end known index start zero read = tt
pieces_well size path chunks end known index start (suc many) read =
    well_both (piece_call path known chunks index start (piece_end size end index - start)) _ (piece_well path known chunks index start (piece_end size end index - start))
    (λ p. pieces_well size path chunks end (Some p.1) (index + 1) 0 many _)

known_well : (path : Path) (opened : Option ℕ) → Well (known_call path opened)
known_well path None = well_both (status_asked path) _ (status_well path) (λ status. well_say (chunks_in status) _ (λ chunks. tt))
known_well path (Some many) = tt

read_well : (size : ℕ) (path : Path) (opened : Option ℕ) (known : Option Located) (offset many : ℕ) → Well (read_call size path opened known offset many)
read_well size path opened known offset many =
    well_both (known_call path opened) _ (known_well path opened) (λ chunks.
    well_both (end_call size path known chunks offset many) _ (end_well size path known chunks offset many) (λ e.
    pieces_well size path chunks e.0 e.1 _ _ (span size offset e.0) []))

digest_well : (path : Path) (opened : Option ℕ) (known : Option Located) (index block : ℕ) → Well (digest_call path opened known index block)
digest_well path opened known index block =
    well_both (known_call path opened) _ (known_well path opened) (λ chunks.
    well_both (fetch_call path known index (asks.Digest block)) _ (fetch_well path known index (asks.Digest block)) (λ f. well_say (digest_in f.0) _ (λ digest. tt)))

stat_of_well : (size : ℕ) (path : Path) (status : Status) → Well (stat_of size path status)
stat_of_well size path statuses.Directory = tt
stat_of_well size path (statuses.File chunks) = well_say (count_in chunks) _ (λ count. well_both (length_call size path None count) _ (length_well size path None count) (λ l. tt))

stat_well : (size : ℕ) (path : Path) → Well (stat_call size path)
stat_well size path = well_both (status_asked path) (stat_of size path) (status_well path) (λ status. stat_of_well size path status)

-- ---- writing

module _ (path : Path) (is : IsPath path) where
  writing_well : (index : ℕ) (refused : Option Stamp) → IsIndex index → Well (writing_call path index refused)
  writing_well index refused low = (record { named = is; met = λ names chunk found. low }, λ reply. tt)

  send_well : (l : Located) (term : Option Term) (op : Op) (bytes : List ℕ) → Well (send_call l term op bytes)
  send_well l None op bytes = tt
  send_well l (Some term) op bytes = (tt, λ reply. tt)

  edit_well : (l : Located) (op : Op) (bytes : List ℕ) → Well (edit_call l op bytes)
  edit_well l op bytes = send_well l l.view.term op bytes

  again_well : (index : ℕ) (stamp : Stamp) (op : Op) (bytes : List ℕ) (refusal : Refusal) → IsIndex index → Well (again_call path index stamp op bytes refusal)
  again_well index stamp op bytes refusal low =
      either (is_stale refusal) _ _ (well_both (writing_call path index (avoided refusal stamp)) _ (writing_well index (avoided refusal stamp) low) (λ l. edit_well l op bytes)) tt

  part_well : (index : ℕ) (op : Op) (bytes : List ℕ) → IsIndex index → Well (part_call path index op bytes)
  part_well index op bytes low =
      well_both (writing_call path index None) _ (writing_well index None low) (λ l.
      well_upon_otherwise (edit_call l op bytes) (again_call path index l.view.stamp op bytes) (edit_well l op bytes) (λ e. again_well index l.view.stamp op bytes e low))

  write_part_well : (index : ℕ) (op : Op) (bytes : List ℕ) → IsIndex index → Well (write_part_call path index op bytes)
  write_part_well index op bytes low = well_both (part_call path index op bytes) _ (part_well index op bytes low) (λ outcome. tt)

  extend_well : (index : ℕ) → Well (extend_call path index)
  extend_well index = (record { named = is; met = λ names. tt }, λ reply. tt)

  extends_well : (index many : ℕ) → Well (extends_call path index many)
  extends_well index zero = tt
  extends_well index (suc many) = well_both (extend_call path index) _ (extend_well index) (λ l. extends_well (index + 1) many)

  -- a place below the last that a file may have
  low_at : (first i many : ℕ) → first + i + suc many ≤ most_chunks → IsIndex (first + i)
  low_at first i many few = omega arith

  later : (first i many : ℕ) → first + i + suc many ≤ most_chunks → first + (i + 1) + many ≤ most_chunks
  later first i many few = omega arith

  parts_well : (size offset : ℕ) (bytes : List ℕ) (i many : ℕ) → offset / size + i + many ≤ most_chunks → Well (parts_call size path offset bytes i many)
  parts_well size offset bytes i zero few = tt
  parts_well size offset bytes i (suc many) few =
      well_both (write_part_call path (offset / size + i) (part_op size offset bytes i) (part_bytes size offset bytes i)) _
      (write_part_well (offset / size + i) (part_op size offset bytes i) (part_bytes size offset bytes i) (low_at (offset / size) i many few))
      (λ done. parts_well size offset bytes (i + 1) many (later (offset / size) i many few))

  -- a write that isn't out ends in a file's chunks
  not_out : (size offset long : ℕ) → ((long == 0) || nat_lt (most_chunks * size) (offset + long)) ≡ false → (0 < long) × (offset + long ≤ most_chunks * size)
  not_out size offset long none = (grind (arith, nat_tests), grind (arith, nat_tests))

  some_size : (size offset long : ℕ) → 0 < long → offset + long ≤ most_chunks * size → 0 < size
  some_size zero offset long some few = absurd (omega arith)
  some_size (suc size) offset long some few = omega arith

  last_below : (size offset long : ℕ) → 0 < long → offset + long ≤ most_chunks * size → (offset + long - 1) / size < most_chunks
  last_below size offset long some few = (div-lt_iff_lt-mul (some_size size offset long some few)).1 (omega arith)

  first_before : (size offset long : ℕ) → 0 < size → 0 < long → offset / size ≤ (offset + long - 1) / size
  first_before size offset long more some = let whole = div-mul-le_self offset size in le-div (offset / size) (offset + long - 1) size more (below (offset / size * size) whole)
    where
      below : (m : ℕ) → m ≤ offset → m ≤ offset + long - 1
      below m h = omega arith

  counted : (first last : ℕ) → first ≤ last → last < most_chunks → first + 0 + (last + 1 - first) ≤ most_chunks
  counted first last before below = omega arith

  write_well : (size : ℕ) (opened : Option ℕ) (offset : ℕ) (bytes : List ℕ) → Well (write_call size path opened offset bytes)
  write_well size opened offset bytes = well_both (known_call path opened) _ (known_well path opened) (λ chunks. by_out chunks (is_out size offset bytes) refl)
    where
      by_out : (chunks : ℕ) (b : Bool) → is_out size offset bytes ≡ b → Well (if b then Say (Err refusals.Range) else both (extends_call path chunks (chunks_to size offset bytes - chunks)) (λ u. parts_call size path offset bytes 0 (part_count size offset bytes)))
      by_out chunks true out = tt
      by_out chunks false within =
          let both_are = not_out size offset (length bytes) within in
          well_both (extends_call path chunks (chunks_to size offset bytes - chunks)) _ (extends_well chunks (chunks_to size offset bytes - chunks)) (λ u.
          parts_well size offset bytes 0 (part_count size offset bytes)
          (counted (offset / size) ((offset + length bytes - 1) / size) (first_before size offset (length bytes) (some_size size offset (length bytes) both_are.0 both_are.1) both_are.0) (last_below size offset (length bytes) both_are.0 both_are.1)))

  landed_well : (size index : ℕ) (next : Call ℕ) → Well next → (outcome : EditOutcome) → Well (landed size index next outcome)
  landed_well size index next asked (outcomes.Appended offset) = tt
  landed_well size index next asked outcomes.Padded = asked
  landed_well size index next asked outcomes.Written = tt

  low_last : (index more : ℕ) → index + more < most_chunks → IsIndex index
  low_last index more few = omega arith

  one_further : (index more : ℕ) → index + suc more < most_chunks → index + 1 + more < most_chunks
  one_further index more few = omega arith

  append_from_well : (size : ℕ) (bytes : List ℕ) (index more : ℕ) → index + more < most_chunks → Well (append_from size path bytes index more)
  append_from_well size bytes index zero few =
      well_both (part_call path index (ops.Append (length bytes)) bytes) _ (part_well index (ops.Append (length bytes)) bytes (low_last index zero few)) (λ outcome. landed_well size index (Say (Err refusals.Range)) tt outcome)
  append_from_well size bytes index (suc more) few =
      well_both (part_call path index (ops.Append (length bytes)) bytes) _ (part_well index (ops.Append (length bytes)) bytes (low_last index (suc more) few)) (λ outcome.
      landed_well size index (both (extend_call path (index + 1)) (λ l. append_from size path bytes (index + 1) more))
      (well_both (extend_call path (index + 1)) _ (extend_well (index + 1)) (λ l. append_from_well size bytes (index + 1) more (one_further index more few))) outcome)

  at_last : (chunks : ℕ) → chunks ≤ most_chunks → chunks - 1 + (most_chunks - 1 - (chunks - 1)) < most_chunks
  at_last chunks few = omega arith

  append_well : (size : ℕ) (opened : Option ℕ) (bytes : List ℕ) → FewKnown opened → Well (append_call size path opened bytes)
  append_well size opened bytes few = asks_both Few Any (known_call path opened) _ (λ e. tt) (known_few path opened few) (λ chunks some.
      either (length bytes == 0) _ _ tt
      (well_both (extends_call path 0 (1 - chunks)) _ (extends_well 0 (1 - chunks)) (λ u. append_from_well size bytes (chunks - 1) (most_chunks - 1 - (chunks - 1)) (at_last chunks some))))

-- ---- open files

-- a file that was just opened has few chunks
record IsOpened (path : Path) (file : File) : Type 0 where
  same : file.path ≡ path
  few : FewKnown file.opened

abbrev IsFile : Path → Result File Refusal → Type 0
IsFile path (Ok file) = IsOpened path file
IsFile path (Err e) = Unit {0}

open_well : (path : Path) → Asks MayBeAsked (IsFile path) (open_call path)
open_well path = asks_both Few (IsFile path) (chunks_call path) _ (λ e. tt) (chunks_few path) (λ chunks few. record { same = refl; few = few })

file_well : {A : Type 0} (call : File → Call A) (path : Path) → ((file : File) → IsOpened path file → Well (call file)) → Well (with_file call path)
file_well call path rest = asks_both (IsFile path) Any (open_call path) call (λ e. tt) (open_well path) rest

-- ---- lines

on_well : {A : Type 0} (path : Result Path Refusal) (call : Path → Call A) (answer : A → Answer) → ((p : Path) → path ≡ Ok p → Well (call p)) → Well (on path call answer)
on_well path call answer rest =
    asks_both (λ r. path ≡ r) Any (path_in path) (λ p. plain (call p) answer) (λ e. tt) refl (λ p is. well_both (call p) (λ x. Say (Ok (answer x))) (rest p is) (λ x. tt))

on_two_well : (from to : Result Path Refusal) (call : Path → Path → Call (Unit {0})) → ((p q : Path) → from ≡ Ok p → to ≡ Ok q → Well (call p q)) → Well (on_two from to call)
on_two_well from to call rest =
    asks_both (λ r. from ≡ r) Any (path_in from) (λ p. on to (call p) done) (λ e. tt) refl (λ p is. on_well to (call p) done (λ q also. rest p q is also))

-- a call that names nothing
plain_well : {A : Type 0} (call : Call A) (answer : A → Answer) → Well call → Well (plain call answer)
plain_well call answer asked = well_both call (λ x. Say (Ok (answer x))) asked (λ x. tt)

unless_well : (came : Result ℕ Refusal) → Well (unless_quiet came)
unless_well (Ok epoch) = tt
unless_well (Err refusal) =
    either (is_unquiet refusal) (upon trees.prepare_abort_call (ends_so (Err refusal))) (Say (Err refusal))
    (asks_upon MayBeAsked Any Any trees.prepare_abort_call (ends_so (Err refusal)) (record { named = tt; met = λ names. tt }, λ reply. tt) (λ came u. tt)) tt

upgrade_well : (upgrade : Upgrade) → Well (upgrade_line upgrade)
upgrade_well upgrades.Query = plain_well trees.query_call _ (record { named = tt; met = λ names. tt }, λ reply. tt)
upgrade_well upgrades.Prepare =
    well_both trees.prepare_begin_call _ (record { named = tt; met = λ names. tt }, λ reply. tt) (λ x.
    asks_upon MayBeAsked Any Any trees.prepare_commit_call unless_quiet (record { named = tt; met = λ names. tt }, λ reply. tt) (λ came u. unless_well came))
upgrade_well upgrades.Finalize = plain_well trees.finalize_call _ (record { named = tt; met = λ names. tt }, λ reply. tt)
upgrade_well upgrades.Rollback =
    well_both trees.rollback_begin_call _ (record { named = tt; met = λ names. tt }, λ reply. tt) (λ x. plain_well trees.rollback_commit_call _ (record { named = tt; met = λ names. tt }, λ reply. tt))

step_well : (step : UpgradeStep) → Well (step_line step)
step_well steps.PrepareBegin = plain_well trees.prepare_begin_call _ (record { named = tt; met = λ names. tt }, λ reply. tt)
step_well steps.PrepareCommit = plain_well trees.prepare_commit_call _ (record { named = tt; met = λ names. tt }, λ reply. tt)
step_well steps.RollbackBegin = plain_well trees.rollback_begin_call _ (record { named = tt; met = λ names. tt }, λ reply. tt)
step_well steps.RollbackCommit = plain_well trees.rollback_commit_call _ (record { named = tt; met = λ names. tt }, λ reply. tt)

-- what it asks, if it asks something
abbrev pub WellIf : Option (Call Answer) → Type 0
WellIf asked = MatchOption asked (Unit {0}) Well

request_well : (size : ℕ) (request : Line) → IsSpoken request → WellIf (asked_by size request)
request_well size (lines.Mkdir p) spoken = on_well (parse p) trees.mkdirs_call done (λ path is. (record { named = visible_path p path spoken is; met = λ names. tt }, λ reply. tt))
request_well size (lines.Create p) spoken = on_well (parse p) trees.create_call done (λ path is. (record { named = visible_path p path spoken is; met = λ names. tt }, λ reply. tt))
request_well size (lines.Ls p) spoken = on_well (parse_hidden p) trees.list_call answers.Names (λ path is. (record { named = tt; met = λ names. tt }, λ reply. tt))
request_well size (lines.Stat p) spoken = on_well (parse_hidden p) (stat_call size) answers.Stat (λ path is. stat_well size path)
request_well size (lines.Mv p q) spoken =
    on_two_well (parse p) (parse q) trees.rename_call (λ from to is also. (record { named = (visible_path p from spoken.0 is, visible_path q to spoken.1 also); met = λ names. tt }, λ reply. tt))
request_well size (lines.Rm p recursive) spoken =
    on_well (parse p) (λ path. trees.delete_call path recursive) hidden (λ path is. (record { named = visible_path p path spoken is; met = λ names. tt }, λ reply. tt))
request_well size (lines.Undelete p) spoken =
    on_well (parse_hidden p) trees.undelete_call answers.Path (λ path is. (record { named = stored_path p path spoken is; met = λ names. tt }, λ reply. tt))
request_well size (lines.Snapshot p q) spoken =
    on_two_well (parse p) (parse q) trees.snapshot_call (λ from to is also. (record { named = (visible_path p from spoken.0 is, visible_path q to spoken.1 also); met = λ names. tt }, λ reply. tt))
request_well size (lines.Write p offset bytes) spoken =
    on_well (parse p) (with_file (write_to size offset bytes)) done (λ path is.
    file_well (write_to size offset bytes) path (λ file opened. write_well file.path (subst IsPath (sym opened.same) (visible_path p path spoken is)) size file.opened offset bytes))
request_well size (lines.Append p bytes) spoken =
    on_well (parse p) (with_file (append_to size bytes)) answers.Number (λ path is.
    file_well (append_to size bytes) path (λ file opened. append_well file.path (subst IsPath (sym opened.same) (visible_path p path spoken is)) size file.opened bytes opened.few))
request_well size (lines.Read p offset many) spoken =
    on_well (parse_hidden p) (with_file (read_of size offset many)) given_bytes (λ path is.
    file_well (read_of size offset many) path (λ file opened. read_well size file.path file.opened file.located offset many))
request_well size (lines.Digest p chunk block) spoken =
    on_well (parse_hidden p) (with_file (digest_of chunk block)) given_digest (λ path is.
    file_well (digest_of chunk block) path (λ file opened. digest_well file.path file.opened file.located chunk block))
request_well size lines.Scan spoken = plain_well trees.scan_call _ (record { named = tt; met = λ names. tt }, λ reply. tt)
request_well size lines.Replicate spoken = plain_well trees.replicate_call _ (record { named = tt; met = λ names. tt }, λ reply. tt)
request_well size (lines.RollingUpgrade upgrade) spoken = upgrade_well upgrade
request_well size (lines.Step step) spoken = step_well step
request_well size (lines.Beat server) spoken = tt
request_well size lines.Tick spoken = tt
request_well size (lines.At moment) spoken = tt
request_well size (lines.Restart node) spoken = tt
request_well size (lines.Lose server handle) spoken = tt
request_well size (lines.Damage server handle block) spoken = tt
request_well size (lines.Hold kind) spoken = tt
request_well size (lines.Deliver number) spoken = tt

pub line_well : (size : ℕ) (line : List ℕ) (request : Line) → line_request line ≡ Some request → WellIf (asked_by size request)
line_well size line request is = request_well size request (line_spoken line request is)

pub line_asks : (size : ℕ) (line : List ℕ) (request : Line) (call : Call Answer) → line_request line ≡ Some request → asked_by size request ≡ Some call → AllAsked MayBeAsked call
line_asks size line request call is asks = subst WellIf asks (line_well size line request is)
