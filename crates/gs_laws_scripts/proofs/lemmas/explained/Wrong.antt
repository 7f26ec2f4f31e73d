-- Wrong answers, which nothing explains.
use Rattle.std.proofs.Common.{ap, inl, inr, subst, sym, true≢false, ◌∙◌}
use Rattle.std.specs.Prelude.{[], ◌+◌, ◌==◌, ◌∷◌, ◌≡◌, ◌⊎◌, Err, List, MatchBool, Ok, Option, Result, Some, codes, false, length, map, refl, replicate, suc, zero, ℕ}
use Rattle.std.specs.Char.{encode_utf8}
use Rattle.std.specs.Fmt.{digits}
use Rattle.std.specs.Str.{chars, is_utf8}
use Rattle.gs_base.specs.declared.refusal.Refusal.{Refusal}
use Rattle.gs_base.specs.declared.refusal.Refusal.TheVariants as refusals
use Rattle.gs_block.specs.Chunk.{written}
use Rattle.gs_client.specs.declared.reading.Stat.TheVariants as stats
use Rattle.gs_laws_plain.specs.commands.Commands.{joined}
use Rattle.gs_msg.specs.declared.answer.ChunkStatus.{ChunkStatus}
use Rattle.gs_msg.specs.declared.answer.Phase.TheVariants as phases
use Rattle.gs_msg.specs.declared.answer.Answer.{Answer as Said}
use Rattle.gs_msg.specs.declared.call.Call.{Call}
use Rattle.gs_msg.specs.declared.call.Call.TheVariants as calls
use Rattle.gs_msg.specs.declared.lists.ListedName.{ListedName}
use Rattle.gs_path.specs.Element.{twenty_digits}
use Rattle.gs_path.specs.Path.{Path}
use Rattle.gs_shell_calls.specs.Asked.{answered}
use Rattle.gs_shell_calls.specs.declared.answer.Answer.{Answer}
use Rattle.gs_shell_calls.specs.declared.answer.Answer.TheVariants as answers
use Rattle.gs_shell_grammar.specs.Grammar as lines
use Rattle.gs_shell_grammar.specs.declared.command.UpgradeStep.TheVariants as steps
use Rattle.gs_tree.specs.Entry.{Dir, Entry, File}
use Rattle.gs_tree.specs.Find.{at}
use Rattle.gs_laws_scripts.specs.explained.Lines.{Adds, Appends, Asks, AsksNow, DoesEach, Edits, IsPutOff, Lands, LandsOr, Leads, MayBe, OfFile, OnPath, Part, Reads, Stats, Writes, overtaken, done, is_too_long, read_in, seen, told, LandsOrPasses, IsSeenFull}
use Rattle.gs_laws_scripts.specs.explained.Machine.{Machine, Payment, Text, called, new_machine, paid, paid_each, paid_now, with_rows, text_at}
use Rattle.gs_laws_scripts.specs.explained.Machine as machines
use Rattle.gs_laws_scripts.proofs.lemmas.explained.Quiet.{AreQuiet, IsStill, nothing_each, nothing_now, nothing_settles, rows_now, seen_is, never_seen_full, nothing_owed}

-- ---- what an accepted line has done, where nothing was owed

on_path : (Does : Path → Option (Entry Text) → Machine → Result Answer Refusal → Machine → Type 0) (size : ℕ) (p : Path) (old new : Machine) (x : Answer) → IsStill old → OnPath size (Ok p) Does old (Ok x) new → Does p (at old.plain.tree p) old (Ok x) new
on_path Does size p old new x still (payments, now, is, inl (refusal, e, store, same)) = absurd (cc)
on_path Does size p old new x still (payments, now, is, inr (free, does)) = subst (λ m. Does p (at m.plain.tree p) m (Ok x) new) (is ∙ nothing_now size payments old still) does

asks_now : (size : ℕ) (call : Call) (old new : Machine) (said : Result Said Refusal) → IsStill old → Asks size call old said new → AsksNow call old said new
asks_now size call old new said still (payments, asks) = subst (λ m. AsksNow call m said new) (nothing_now size payments old still) asks

does_one : (size : ℕ) (part : Part) (old new : Machine) → IsStill old → DoesEach size (part ∷ []) old (Ok answers.Done) new → new ≡ done size part old
does_one size part old new still (payments, now, is, inl (refusal, e, rest)) = absurd (cc)
does_one size part old new still (payments, now, is, inr (free, (e, same))) = same ∙ ap (done size part) (is ∙ nothing_now size payments old still)

reads_so : (size offset many : ℕ) (p : Path) (texts : List Text) (old new : Machine) (bytes : List ℕ) → AreQuiet texts → Reads size offset many p texts old (Ok (answers.Bytes bytes)) new
    → Ok (answers.Bytes bytes) ≡ answered answers.Bytes (read_in offset many (joined size (map (λ text. text.bytes) texts)) (joined size (map (λ text. text.bytes) texts)))
reads_so size offset many p texts old new bytes quiet (first, second, e, same) =
    e ∙ ap (λ all. answered answers.Bytes (read_in offset many (joined size all) (seen size second texts))) (seen_is size first texts quiet)
    ∙ ap (λ all. answered answers.Bytes (read_in offset many (joined size (map (λ text. text.bytes) texts)) (joined size all))) (seen_is size second texts quiet)

-- the first byte that is answered, and 0 where there is none
abbrev first_byte : Result Answer Refusal → ℕ
first_byte (Ok (answers.Bytes (byte ∷ bytes))) = byte
first_byte answer = 0

-- ---- files /a and /b, of one chunk each: `a` stands in the first

abbrev text : List ℕ → Text
text bytes = record { bytes = bytes; owed = [] }

abbrev pub two_files : Machine
two_files = with_rows (([], Dir) ∷ (codes "a" ∷ [], File (text (codes "a") ∷ [])) ∷ (codes "b" ∷ [], File (text [] ∷ [])) ∷ []) new_machine

two_files_are_still : IsStill two_files
two_files_are_still = record { quiet = (tt, ((refl, tt), ((refl, tt), tt))); waiting = refl }

abbrev b_written : Machine
b_written = done 16 (Edits (codes "b" ∷ []) 0 (machines.Write 0 (codes "b"))) two_files

b_written_is_still : IsStill b_written
unfolding written
b_written_is_still = record { quiet = (tt, ((refl, tt), ((refl, tt), tt))); waiting = refl }

a_write_leads_there : (new : Machine) → Leads 16 4 (lines.Write (codes "/b") 0 (codes "b")) two_files (Ok answers.Done) new → new ≡ b_written
unfolding is_utf8 chars encode_utf8
a_write_leads_there new leads = does_one 16 (Edits (codes "b" ∷ []) 0 (machines.Write 0 (codes "b"))) two_files new two_files_are_still (on_path (OfFile (Writes 16 0 (codes "b"))) 16 (codes "b" ∷ []) two_files new answers.Done two_files_are_still leads)

-- a write that lands in another file
pub no_write_lands_in_another_file : (mid new : Machine) → Leads 16 4 (lines.Write (codes "/b") 0 (codes "b")) two_files (Ok answers.Done) mid → Leads 16 4 (lines.Read (codes "/a") 0 1) mid (Ok (answers.Bytes (codes "b"))) new → ⊥
unfolding is_utf8 chars encode_utf8 written
no_write_lands_in_another_file mid new writes reads =
    let at_a = subst (λ m. Leads 16 4 (lines.Read (codes "/a") 0 1) m (Ok (answers.Bytes (codes "b"))) new) (a_write_leads_there mid writes) reads in
    let same = ap first_byte (reads_so 16 0 1 (codes "a" ∷ []) (text (codes "a") ∷ []) b_written new (codes "b") (refl, tt) (on_path (OfFile (Reads 16 0 1)) 16 (codes "a" ∷ []) b_written new (answers.Bytes (codes "b")) b_written_is_still at_a)) in
    true≢false (ap (λ byte. byte == 98) same)

-- a read that misses a write that was accepted
pub no_read_misses_a_write : (mid new : Machine) → Leads 16 4 (lines.Write (codes "/b") 0 (codes "b")) two_files (Ok answers.Done) mid → Leads 16 4 (lines.Read (codes "/b") 0 1) mid (Ok (answers.Bytes [])) new → ⊥
unfolding is_utf8 chars encode_utf8 written
no_read_misses_a_write mid new writes reads =
    let at_b = subst (λ m. Leads 16 4 (lines.Read (codes "/b") 0 1) m (Ok (answers.Bytes [])) new) (a_write_leads_there mid writes) reads in
    let same = ap first_byte (reads_so 16 0 1 (codes "b" ∷ []) (text (codes "b") ∷ []) b_written new [] (refl, tt) (on_path (OfFile (Reads 16 0 1)) 16 (codes "b" ∷ []) b_written new (answers.Bytes []) b_written_is_still at_b)) in
    true≢false (ap (λ byte. byte == 0) same)

-- ---- a file /f of two chunks, the first of them full

abbrev full_and_one : Machine
full_and_one = with_rows (([], Dir) ∷ (codes "f" ∷ [], File (text (replicate 16 0) ∷ text (codes "a") ∷ [])) ∷ []) new_machine

full_and_one_is_still : IsStill full_and_one
full_and_one_is_still = record { quiet = (tt, ((refl, (refl, tt)), tt)); waiting = refl }

abbrev number_in : Result Answer Refusal → ℕ
number_in (Ok (answers.Number n)) = n
number_in answer = 0

if_short : (size : ℕ) (p : Path) (bytes : List ℕ) (index : ℕ) (GoesOn : Machine → Type 0) (grown new : Machine) (n : ℕ) → (IsSeenFull size (text_at p index grown) → ⊥) → IsPutOff (MayBe (Edits p index (machines.Append bytes)) grown) grown (Ok (answers.Number n)) new ⊎ LandsOrPasses size p bytes index GoesOn grown (Ok (answers.Number n)) new
    → LandsOr size p bytes index GoesOn grown (Ok (answers.Number n)) new
if_short size p bytes index GoesOn grown new n none (inl (refusal, e, rest)) = absurd (cc)
if_short size p bytes index GoesOn grown new n none (inr (inl lands)) = lands
if_short size p bytes index GoesOn grown new n none (inr (inr (full, on))) = absurd (none full)

lands : (size : ℕ) (p : Path) (bytes : List ℕ) (more index : ℕ) (old new : Machine) (n : ℕ) → IsStill old → IsStill (done size (Adds p index) old) → is_too_long size bytes ≡ false → Lands size p bytes (suc more) index old (Ok (answers.Number n)) new
    → LandsOr size p bytes index (λ next. Lands size p bytes more (index + 1) next (Ok (answers.Number n)) new) (done size (Adds p index) old) (Ok (answers.Number n)) new
lands size p bytes more index old new n still grown_still short (payments, now, is, inl (refusal, e, rest)) = absurd (cc)
lands size p bytes more index old new n still grown_still short (payments, now, is, inr (free, behind, grown, grows, choice)) =
    let added = done size (Adds p index) old in
    let same : grown ≡ added = (grows ∙ ap (λ m. paid_now size behind (done size (Adds p index) m)) (is ∙ nothing_now size payments old still) ∙ nothing_now size behind (done size (Adds p index) old) grown_still) in
    let none : IsSeenFull size (text_at p index grown) → ⊥ = subst (λ m. IsSeenFull size (text_at p index m) → ⊥) (sym same) (never_seen_full size (text_at p index added) (nothing_owed p index added grown_still.quiet)) in
    subst (λ m. LandsOr size p bytes index (λ next. Lands size p bytes more (index + 1) next (Ok (answers.Number n)) new) m (Ok (answers.Number n)) new) same
    (if_short size p bytes index (λ next. Lands size p bytes more (index + 1) next (Ok (answers.Number n)) new) grown new n none
    (subst (λ b. MatchBool b (((Ok (answers.Number n) ≡ Err refusals.TooLong) × (new ≡ grown)) ⊎ IsPutOff (λ made. made ≡ grown) grown (Ok (answers.Number n)) new)
    (IsPutOff (MayBe (Edits p index (machines.Append bytes)) grown) grown (Ok (answers.Number n)) new ⊎ LandsOrPasses size p bytes index (λ next. Lands size p bytes more (index + 1) next (Ok (answers.Number n)) new) grown (Ok (answers.Number n)) new)) short choice))

-- an append that is answered the offset in its chunk
pub no_append_tells_its_offset_in_a_chunk : (new : Machine) → Leads 16 4 (lines.Append (codes "/f") (codes "b")) full_and_one (Ok (answers.Number 1)) new → ⊥
unfolding is_utf8 chars encode_utf8
no_append_tells_its_offset_in_a_chunk new leads =
    let landed = lands 16 (codes "f" ∷ []) (codes "b") 4094 1 full_and_one new 1 full_and_one_is_still full_and_one_is_still refl (on_path (OfFile (Appends 16 (codes "b"))) 16 (codes "f" ∷ []) full_and_one new (answers.Number 1) full_and_one_is_still leads) in
    true≢false (ap (λ answer. number_in answer == 1) landed.0)

abbrev size_in : Result Answer Refusal → ℕ
size_in (Ok (answers.Stat (stats.File size chunks))) = size
size_in answer = 0

stats_so : (new : Machine) (chunks : List ChunkStatus) → Stats 16 (codes "f" ∷ []) (at full_and_one.plain.tree (codes "f" ∷ [])) full_and_one (Ok (answers.Stat (stats.File 0 chunks))) new → ⊥
stats_so new chunks (picks, others, long, e, same) =
    true≢false (ap (λ answer. size_in answer == 0) (e ∙ ap (λ all. Ok (answers.Stat (stats.File (length (joined 16 all)) others))) (seen_is 16 picks (text (replicate 16 0) ∷ text (codes "a") ∷ []) (refl, (refl, tt)))))

-- a size of 0 where there are bytes
pub no_size_is_told_as_none : (new : Machine) (chunks : List ChunkStatus) → Leads 16 4 (lines.Stat (codes "/f")) full_and_one (Ok (answers.Stat (stats.File 0 chunks))) new → ⊥
unfolding is_utf8 chars encode_utf8
no_size_is_told_as_none new chunks leads = stats_so new chunks (on_path (Stats 16) 16 (codes "f" ∷ []) full_and_one new (answers.Stat (stats.File 0 chunks)) full_and_one_is_still leads)

-- ---- a rollback is begun: /f was `a`, is `b`, and an edit is owed to it

abbrev rolling : Machine
rolling = record {
  plain = record { tree = ([], Dir) ∷ (codes "f" ∷ [], File (record { bytes = codes "b"; owed = machines.Write 0 (codes "c") ∷ [] } ∷ [])) ∷ []; kept = Some (([], Dir) ∷ (codes "f" ∷ [], File (text (codes "a") ∷ [])) ∷ []) };
  late = [];
  waiting = [];
  phase = phases.Rolling;
  epoch = 2;
  next_hidden = 1;
  moment = 0;
}

abbrev back : Machine
back = (called calls.RollbackCommit rolling).1

back_is_still : IsStill back
back_is_still = record { quiet = (tt, ((refl, tt), tt)); waiting = refl }

a_commit_leads_back : (new : Machine) → Leads 16 4 (lines.Step steps.RollbackCommit) rolling (Ok (answers.Number 2)) new → new ≡ back
a_commit_leads_back new (said, (payments, inl (is, same)), e) =
    let changed = rows_now 16 payments rolling refl in same ∙ ap (λ m. (called calls.RollbackCommit m).1) changed.is
a_commit_leads_back new (said, (payments, inr (refusal, put, rest)), e) = let no : Ok (answers.Number 2) ≡ Err refusal = e ∙ ap (answered told) put in absurd (cc)

-- an edit that was taken back and comes again
pub no_edit_comes_back : (mid new : Machine) (byte : ℕ) → Leads 16 4 (lines.Step steps.RollbackCommit) rolling (Ok (answers.Number 2)) mid → Leads 16 4 (lines.Read (codes "/f") 0 1) mid (Ok (answers.Bytes (byte ∷ []))) new → byte ≡ 97
unfolding is_utf8 chars encode_utf8
no_edit_comes_back mid new byte commits reads =
    let at_f = subst (λ m. Leads 16 4 (lines.Read (codes "/f") 0 1) m (Ok (answers.Bytes (byte ∷ []))) new) (a_commit_leads_back mid commits) reads in
    ap first_byte (reads_so 16 0 1 (codes "f" ∷ []) (text (codes "a") ∷ []) back new (byte ∷ []) (refl, tt) (on_path (OfFile (Reads 16 0 1)) 16 (codes "f" ∷ []) back new (answers.Bytes (byte ∷ [])) back_is_still at_f))

-- ---- a call is late: /x was to be made

abbrev x_is_late : Machine
x_is_late = record new_machine { late = calls.Create (codes "x" ∷ []) ∷ [] }

abbrev x_is_made : Machine
x_is_made = paid 16 (machines.Comes 0) x_is_late

x_is_late_and_still : IsStill x_is_late
x_is_late_and_still = record { quiet = (tt, tt); waiting = refl }

x_is_made_and_still : IsStill x_is_made
x_is_made_and_still = record { quiet = (tt, (tt, tt)); waiting = refl }

it_comes_or_not : (payments : List Payment) → (paid_each 16 payments x_is_late ≡ x_is_late) ⊎ (paid_each 16 payments x_is_late ≡ x_is_made)
it_comes_or_not [] = inl refl
it_comes_or_not (machines.Settles p index k ∷ payments) =
    subst (λ m. (paid_each 16 payments m ≡ x_is_late) ⊎ (paid_each 16 payments m ≡ x_is_made)) (sym (nothing_settles 16 p index k x_is_late (tt, tt))) (it_comes_or_not payments)
it_comes_or_not (machines.Ends k ∷ payments) = it_comes_or_not payments
it_comes_or_not (machines.Comes zero ∷ payments) = inr (nothing_each 16 payments x_is_made x_is_made_and_still refl)
it_comes_or_not (machines.Comes (suc k) ∷ payments) = it_comes_or_not payments
it_comes_or_not (machines.Waits zero ∷ payments) = it_comes_or_not payments
it_comes_or_not (machines.Waits (suc k) ∷ payments) = it_comes_or_not payments
it_comes_or_not (machines.Sweeps p ∷ payments) = it_comes_or_not payments

abbrev x_is_removed : Machine
x_is_removed = record (called (calls.Delete (codes "x" ∷ []) false) x_is_made).1 { late = [] }

abbrev removes : Call
removes = calls.Delete (codes "x" ∷ []) false

x_is_removed_and_still : IsStill x_is_removed
unfolding twenty_digits digits
x_is_removed_and_still = record { quiet = (tt, (tt, tt)); waiting = refl }

nothing_is_removed : (hidden : Path) (said : Result Said Refusal) (mid : Machine) → AsksNow removes x_is_late said mid → Ok (answers.Path hidden) ≡ answered told said → ⊥
nothing_is_removed hidden said mid (inl (is, same)) e = let no : Ok (answers.Path hidden) ≡ Ok answers.Missing = e ∙ ap (answered told) is in absurd (cc)
nothing_is_removed hidden said mid (inr (refusal, put, rest)) e = let no : Ok (answers.Path hidden) ≡ Err refusal = e ∙ ap (answered told) put in absurd (cc)

it_is_removed : (hidden : Path) (said : Result Said Refusal) (mid : Machine) → AsksNow removes x_is_made said mid → Ok (answers.Path hidden) ≡ answered told said → overtaken removes (said, mid) ≡ x_is_removed
it_is_removed hidden said mid (inl (is, same)) e = ap (λ s. overtaken removes (s, mid)) is ∙ ap {A = Machine} (λ m. record m { late = [] }) same
it_is_removed hidden said mid (inr (refusal, put, rest)) e = let no : Ok (answers.Path hidden) ≡ Err refusal = e ∙ ap (answered told) put in absurd (cc)

it_was_made : (hidden : Path) (one new : Machine) → (one ≡ x_is_late) ⊎ (one ≡ x_is_made) → Leads 16 4 (lines.Rm (codes "/x") false) one (Ok (answers.Path hidden)) new → new ≡ x_is_removed
unfolding is_utf8 chars encode_utf8
it_was_made hidden one new (inl late) (said, mid, asks, e, over) =
    absurd (nothing_is_removed hidden said mid (asks_now 16 removes x_is_late mid said x_is_late_and_still (subst (λ m. Asks 16 removes m said mid) late asks)) e)
it_was_made hidden one new (inr made) (said, mid, asks, e, over) =
    over ∙ it_is_removed hidden said mid (asks_now 16 removes x_is_made mid said x_is_made_and_still (subst (λ m. Asks 16 removes m said mid) made asks)) e

nothing_is_listed : (names : List ListedName) (said : Result Said Refusal) (mid : Machine) → AsksNow (calls.List (codes "x" ∷ [])) x_is_removed said mid → Ok (answers.Names names) ≡ answered told said → ⊥
unfolding twenty_digits digits
nothing_is_listed names said mid (inl (is, same)) e = let no : Ok (answers.Names names) ≡ Err refusals.NotFound = e ∙ ap (answered told) is in absurd (cc)
nothing_is_listed names said mid (inr (refusal, put, rest)) e = let no : Ok (answers.Names names) ≡ Err refusal = e ∙ ap (answered told) put in absurd (cc)

-- a late call that comes twice: it was made when a message was delivered, was deleted, and would be there again
pub no_call_comes_twice : (one two three four : Machine) (answer again : Result Answer Refusal) (hidden : Path) (names : List ListedName) → Leads 16 4 (lines.Deliver 1) x_is_late answer one → Leads 16 4 (lines.Rm (codes "/x") false) one (Ok (answers.Path hidden)) two
    → Leads 16 4 (lines.Deliver 1) two again three → Leads 16 4 (lines.Ls (codes "/x")) three (Ok (answers.Names names)) four → ⊥
unfolding is_utf8 chars encode_utf8
no_call_comes_twice one two three four answer again hidden names (payments, came) removed (more, comes) (said, mid, asks, e, over) =
    let where_one : (one ≡ x_is_late) ⊎ (one ≡ x_is_made) = subst (λ m. (m ≡ x_is_late) ⊎ (m ≡ x_is_made)) (sym came) (it_comes_or_not payments) in
    let there : three ≡ x_is_removed = comes ∙ ap (paid_each 16 more) (it_was_made hidden one two where_one removed) ∙ nothing_each 16 more x_is_removed x_is_removed_and_still refl in
    nothing_is_listed names said mid (asks_now 16 (calls.List (codes "x" ∷ [])) x_is_removed mid said x_is_removed_and_still (subst (λ m. Asks 16 (calls.List (codes "x" ∷ [])) m said mid) there asks)) e
