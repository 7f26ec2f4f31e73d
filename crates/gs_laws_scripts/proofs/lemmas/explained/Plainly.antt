-- Where no answer is put off nothing is ever owed, and the answers are a function of the lines.
use Rattle.std.proofs.Common.{ap, inl, inr, subst, sym, ◌∙◌}
use Rattle.std.specs.Prelude.{[], ◌&&◌, ◌*◌, ◌+◌, ◌-◌, ◌==◌, ◌∷◌, ◌≡◌, ◌⊎◌, Bool, Err, List, MatchBool, None, Ok, Option, Result, Some, codes, false, filter, if◌then◌else◌, length, map, nat_lt, not, refl, suc, true, unwrap_or, zero, ℕ}
use Rattle.std.specs.List.{AllByRecursion}
use Rattle.std.specs.Result.{result_unwrap_or}
use Rattle.gs_base.specs.declared.refusal.Refusal.{Refusal}
use Rattle.gs_base.specs.declared.refusal.Refusal.TheVariants as refusals
use Rattle.gs_client_part.specs.Writing.{is_out, most_chunks}
use Rattle.gs_edit.specs.Mapped.{mapped_edit, mapped_rows}
use Rattle.gs_edit.specs.Plain.{add_chunk_rows, create_rows, hide_rows, mkdirs_rows, rename_rows, set_chunk_rows, snapshot_rows, unhide_rows}
use Rattle.gs_edit.specs.Scan.{is_gone}
use Rattle.gs_edit.proofs.Payloads.{add_chunk_rows-map, create_rows-map, hide_rows-map, mkdirs_rows-map, rename_rows-map, set_chunk_rows-map, snapshot_rows-map, unhide_rows-map}
use Rattle.gs_master_spec.specs.Calls.{is_always_taken, is_work}
use Rattle.gs_msg.specs.declared.answer.Answer.{Answer as Said}
use Rattle.gs_msg.specs.declared.answer.Answer.TheVariants as says
use Rattle.gs_msg.specs.declared.answer.Phase.{Phase}
use Rattle.gs_msg.specs.declared.answer.Phase.TheVariants as phases
use Rattle.gs_msg.specs.declared.call.Call.{Call}
use Rattle.gs_msg.specs.declared.call.Call.TheVariants as calls
use Rattle.gs_path.specs.Path.{Path}
use Rattle.gs_path.specs.Rules.{parse, parse_hidden}
use Rattle.gs_shell_calls.specs.declared.answer.Answer.{Answer}
use Rattle.gs_shell_calls.specs.declared.answer.Answer.TheVariants as answers
use Rattle.gs_shell_grammar.specs.Grammar.{Request}
use Rattle.gs_shell_grammar.specs.Grammar as lines
use Rattle.gs_shell_grammar.specs.declared.command.Restarted.TheVariants as restarted
use Rattle.gs_shell_grammar.specs.declared.command.Upgrade.{Upgrade}
use Rattle.gs_shell_grammar.specs.declared.command.Upgrade.TheVariants as upgrades
use Rattle.gs_laws_scripts.specs.plain.Machines.{asked_in, on, on_two}
use Rattle.gs_shell_script.specs.Run.{Runs}
use Rattle.gs_tree.specs.Edits.{chunks_in}
use Rattle.gs_tree.specs.Entry.{Dir, Entry, File}
use Rattle.gs_tree.specs.Find.{Rows, at}
use Rattle.gs_tree.specs.Mapped.{mapped_entry}
use Rattle.gs_laws_scripts.specs.explained.Following.{AnsweredAlike, AreAlike, IsPlain, PlainAnswersAreAFunction, TextsAreAlike, is_of_nodes}
use Rattle.gs_laws_scripts.specs.explained.Rows.{a_long_write, a_long_write_answers, a_long_write_is_explained}
use Rattle.gs_laws_scripts.specs.explained.Lines.{Adds, AreExplained, Appends, Asks, AsksBoth, AsksOne, AsksTree, BeginsAnew, Digests, DoesEach, Edits, Explains, GivesUp, IsPutOff, IsSaid, Lands, LandsOr, Leads, MayBe, OfFile, OnPath, Part, Passes, Reads, Stats, Upgrades, Writes, anew, overtaken, done, is_too_long, parts_of, step_of, LandsOrPasses, IsSeenFull}
use Rattle.gs_laws_scripts.specs.explained.Machine.{Edit, Machine, Payment, Text, at_place, begins_prepare, begins_rollback, called, commits_prepare, commits_rollback, finalizes, fits, gives_up, is_copied, is_preparing, is_remembered, is_rolling, new_machine, new_text, overtaking, paid_now, passes, quiet, quiet_under, taken, text_at, tree_after, tree_called, tree_said, with_chunk, with_edit}
use Rattle.gs_laws_scripts.specs.explained.Machine as machines
use Rattle.gs_laws_scripts.proofs.lemmas.explained.Alike.{IsSure, accepted_plain, alike_said, alike_to, digests_alike, no_memory, plain_sure, reads_alike, stats_alike, sure_looks, sure_never_off, sure_now, sure_said}
use Rattle.gs_laws_scripts.proofs.lemmas.explained.Back.{mapped_quiet, quiet_entry}
use Rattle.gs_laws_scripts.proofs.lemmas.explained.Keeping.{ComesTo, comes_to}
use Rattle.gs_laws_scripts.proofs.lemmas.explained.Quiet.{AreQuiet, IsQuietEntry, IsQuietFound, IsStill, RowsAreQuiet, nothing_each, nothing_now, nothing_owed, quiet_found, never_seen_full}

-- ---- edits of trees to which nothing is owed

quiet_text : (text : Text) → text.owed ≡ [] → quiet text ≡ text
quiet_text text none = ap (λ owed. record text { owed = owed }) (sym none)

quiet_texts : (texts : List Text) → AreQuiet texts → map quiet texts ≡ texts
quiet_texts [] owes = refl
quiet_texts (text ∷ texts) owes = ap (λ one. one ∷ map quiet texts) (quiet_text text owes.0) ∙ ap (λ all. text ∷ all) (quiet_texts texts owes.1)

quiet_in : (entry : Entry Text) → IsQuietEntry entry → mapped_entry quiet entry ≡ entry
quiet_in Dir owes = refl
quiet_in (File texts) owes = ap (λ all. File all) (quiet_texts texts owes)

quiet_rows : (rows : Rows Text) → RowsAreQuiet rows → mapped_rows quiet rows ≡ rows
quiet_rows [] owes = refl
quiet_rows (row ∷ rows) owes = ap (λ entry. (row.0, entry) ∷ mapped_rows quiet rows) (quiet_in row.1 owes.0) ∙ ap (λ all. row ∷ all) (quiet_rows rows owes.1)

abbrev IsQuietResult : Result (Rows Text) Refusal → Type 0
IsQuietResult (Ok rows) = RowsAreQuiet rows
IsQuietResult (Err refusal) = Unit {0}

quiet_result : (result : Result (Rows Text) Refusal) → IsQuietResult (mapped_edit quiet result)
quiet_result (Ok rows) = mapped_quiet rows
quiet_result (Err refusal) = tt

-- an edit that follows a map over texts
quiet_edit : (edit : Rows Text → Result (Rows Text) Refusal) (rows : Rows Text) → RowsAreQuiet rows → edit (mapped_rows quiet rows) ≡ mapped_edit quiet (edit rows) → IsQuietResult (edit rows)
quiet_edit edit rows owes follows = subst IsQuietResult (sym (ap edit (sym (quiet_rows rows owes)) ∙ follows)) (quiet_result (edit rows))

quiet_or : (result : Result (Rows Text) Refusal) (rows : Rows Text) → IsQuietResult result → RowsAreQuiet rows → RowsAreQuiet (result_unwrap_or result rows)
quiet_or (Ok all) rows made owes = made
quiet_or (Err refusal) rows made owes = owes

under_quiet : (from : Path) (rows : Rows Text) → RowsAreQuiet rows → RowsAreQuiet (quiet_under from rows)
under_quiet from [] owes = tt
under_quiet from (row ∷ rows) owes = (elim (is_copied from row.0) as (λ b. IsQuietEntry (if b then mapped_entry quiet row.1 else row.1)) [ true ↦ quiet_entry row.1 | false ↦ owes.0 ], under_quiet from rows owes.1)

filter_quiet : (keeps : Path × Entry Text → Bool) (rows : Rows Text) → RowsAreQuiet rows → RowsAreQuiet (filter keeps rows)
filter_quiet keeps [] owes = tt
filter_quiet keeps (row ∷ rows) owes = elim (keeps row) as (λ b. RowsAreQuiet (if b then row ∷ filter keeps rows else filter keeps rows)) [ true ↦ (owes.0, filter_quiet keeps rows owes.1) | false ↦ filter_quiet keeps rows owes.1 ]

chunk_quiet : (p : Path) (index : ℕ) (rows : Rows Text) → RowsAreQuiet rows → IsQuietResult (with_chunk p index rows)
chunk_quiet p index rows owes =
    elim ((index == length (chunks_in (at rows p))) && nat_lt index most_chunks) as (λ b. IsQuietResult (if b then add_chunk_rows rows p new_text else Ok rows)) [
      | true ↦ quiet_edit (λ all. add_chunk_rows all p new_text) rows owes (add_chunk_rows-map quiet rows p new_text)
      | false ↦ owes
    ]

set_quiet : (p : Path) (index : ℕ) (text : Text) (rows : Rows Text) → text.owed ≡ [] → RowsAreQuiet rows → IsQuietResult (set_chunk_rows rows p index text)
set_quiet p index text rows none owes =
    quiet_edit (λ all. set_chunk_rows all p index text) rows owes (ap (λ one. set_chunk_rows (mapped_rows quiet rows) p index one) (sym (quiet_text text none)) ∙ set_chunk_rows-map quiet rows p index text)

behind_quiet : (call : Call) (m : Machine) → RowsAreQuiet m.plain.tree → IsQuietResult (tree_after call m)
behind_quiet (calls.Mkdirs p) m owes = quiet_edit (λ rows. mkdirs_rows rows p) m.plain.tree owes (mkdirs_rows-map quiet m.plain.tree p)
behind_quiet (calls.Create p) m owes = quiet_edit (λ rows. create_rows rows p) m.plain.tree owes (create_rows-map quiet m.plain.tree p)
behind_quiet (calls.Rename from to) m owes = quiet_edit (λ rows. rename_rows rows from to) m.plain.tree owes (rename_rows-map quiet m.plain.tree from to)
behind_quiet (calls.Delete p recursive) m owes = quiet_edit (λ rows. hide_rows rows p m.moment m.next_hidden) m.plain.tree owes (hide_rows-map quiet m.plain.tree p m.moment m.next_hidden)
behind_quiet (calls.Undelete p) m owes = quiet_edit (λ rows. unhide_rows rows p) m.plain.tree owes (unhide_rows-map quiet m.plain.tree p)
behind_quiet (calls.Snapshot from to) m owes = quiet_edit (λ rows. snapshot_rows rows from to) (quiet_under from m.plain.tree) (under_quiet from m.plain.tree owes) (snapshot_rows-map quiet (quiet_under from m.plain.tree) from to)
behind_quiet (calls.Extend p index) m owes = chunk_quiet p index m.plain.tree owes
behind_quiet call m owes = owes

-- ---- machines to which nothing is owed

abbrev IsQuietKept : Option (Rows Text) → Type 0
IsQuietKept None = Unit {0}
IsQuietKept (Some rows) = RowsAreQuiet rows

-- nothing is owed to its tree, nor to the kept one; nothing is late, and no call waits
record IsAsleep (m : Machine) : Type 0 where
  pub tree : RowsAreQuiet m.plain.tree
  pub kept : IsQuietKept m.plain.kept
  pub late : m.late ≡ []
  pub waiting : m.waiting ≡ []

still : (m : Machine) → IsAsleep m → IsStill m
still m asleep = record { quiet = asleep.tree; waiting = asleep.waiting }

tree_called_asleep : (call : Call) (said : Result Said Refusal) (m : Machine) → IsAsleep m → IsAsleep (tree_called call said m).1
tree_called_asleep call (Ok said) m asleep = record { tree = quiet_or (tree_after call m) m.plain.tree (behind_quiet call m asleep.tree) asleep.tree; kept = asleep.kept; late = asleep.late; waiting = asleep.waiting }
tree_called_asleep call (Err refusal) m asleep = asleep

begins_prepare_asleep : (phase : Phase) (m : Machine) → IsAsleep m → IsAsleep (begins_prepare phase m).1
begins_prepare_asleep phases.Ordinary m asleep = record { tree = asleep.tree; kept = asleep.kept; late = asleep.late; waiting = asleep.waiting }
begins_prepare_asleep phase m asleep = asleep

commits_prepare_asleep : (phase : Phase) (m : Machine) → IsAsleep m → IsAsleep (commits_prepare phase m).1
commits_prepare_asleep phases.Preparing m asleep = record { tree = mapped_quiet m.plain.tree; kept = mapped_quiet m.plain.tree; late = asleep.late; waiting = refl }
commits_prepare_asleep phase m asleep = asleep

gives_up_asleep : (phase : Phase) (m : Machine) → IsAsleep m → IsAsleep (gives_up phase m).1
gives_up_asleep phases.Preparing m asleep = record { tree = asleep.tree; kept = asleep.kept; late = asleep.late; waiting = asleep.waiting }
gives_up_asleep phase m asleep = asleep

finalizes_asleep : (phase : Phase) (m : Machine) → IsAsleep m → IsAsleep (finalizes phase m).1
finalizes_asleep phases.Upgrade m asleep = record { tree = asleep.tree; kept = tt; late = asleep.late; waiting = asleep.waiting }
finalizes_asleep phase m asleep = asleep

begins_rollback_asleep : (phase : Phase) (m : Machine) → IsAsleep m → IsAsleep (begins_rollback phase m).1
begins_rollback_asleep phases.Upgrade m asleep = record { tree = asleep.tree; kept = asleep.kept; late = asleep.late; waiting = asleep.waiting }
begins_rollback_asleep phase m asleep = asleep

kept_or : (kept : Option (Rows Text)) (rows : Rows Text) → IsQuietKept kept → RowsAreQuiet rows → RowsAreQuiet (unwrap_or kept rows)
kept_or None rows owes all = all
kept_or (Some kept) rows owes all = owes

commits_rollback_asleep : (phase : Phase) (m : Machine) → IsAsleep m → IsAsleep (commits_rollback phase m).1
commits_rollback_asleep phases.Rolling m asleep = record { tree = kept_or m.plain.kept m.plain.tree asleep.kept asleep.tree; kept = tt; late = asleep.late; waiting = refl }
commits_rollback_asleep phase m asleep = asleep

taken_asleep : (call : Call) (m : Machine) → IsAsleep m → IsAsleep (taken call m).1
taken_asleep calls.Query m asleep = asleep
taken_asleep calls.PrepareBegin m asleep = begins_prepare_asleep m.phase m asleep
taken_asleep calls.PrepareCommit m asleep = commits_prepare_asleep m.phase m asleep
taken_asleep calls.PrepareAbort m asleep = gives_up_asleep m.phase m asleep
taken_asleep calls.Finalize m asleep = finalizes_asleep m.phase m asleep
taken_asleep calls.RollbackBegin m asleep = begins_rollback_asleep m.phase m asleep
taken_asleep calls.RollbackCommit m asleep = commits_rollback_asleep m.phase m asleep
taken_asleep calls.Scan m asleep = record { tree = filter_quiet (λ r. not (is_gone m.moment (at m.plain.tree) r.0)) m.plain.tree asleep.tree; kept = asleep.kept; late = asleep.late; waiting = asleep.waiting }
taken_asleep call m asleep = tree_called_asleep call (tree_said call m) m asleep

gate_asleep : (b c : Bool) (one another : Refusal) (m : Machine) (went : Result Said Refusal × Machine) → IsAsleep m → IsAsleep went.1 → IsAsleep (if b then (Err one, m) else if c then (Err another, m) else went).1
gate_asleep true c one another m went asleep goes = asleep
gate_asleep false true one another m went asleep goes = asleep
gate_asleep false false one another m went asleep goes = goes

called_asleep : (call : Call) (m : Machine) → IsAsleep m → IsAsleep (called call m).1
called_asleep call m asleep = gate_asleep (is_rolling m.phase && not (is_always_taken call)) (is_preparing m.phase && is_work call) refusals.RollingBack refusals.Preparing m (taken call m) asleep (taken_asleep call m asleep)

edit_owes : (size : ℕ) (edit : Edit) (text : Text) → text.owed ≡ [] → (with_edit size edit [] text).owed ≡ []
edit_owes size edit text none = elim (passes size edit text.bytes) as (λ b. (if b then text else record { bytes = machines.edited size edit text.bytes; owed = [] }).owed ≡ []) [ true ↦ none | false ↦ refl ]

done_asleep : (size : ℕ) (part : Part) (m : Machine) → IsAsleep m → IsAsleep (done size part m)
done_asleep size (Adds p index) m asleep = called_asleep (calls.Extend p index) m asleep
done_asleep size (Edits p index edit) m asleep =
    let text = with_edit size edit [] (text_at p index m) in
    record { tree = quiet_or (set_chunk_rows m.plain.tree p index text) m.plain.tree (set_quiet p index text m.plain.tree (edit_owes size edit (text_at p index m) (nothing_owed p index m asleep.tree)) asleep.tree) asleep.tree; kept = asleep.kept; late = asleep.late; waiting = asleep.waiting }

overtaking_asleep : (call : Call) (said : Result Said Refusal) (m : Machine) → IsAsleep m → IsAsleep (overtaking call [] (said, m))
overtaking_asleep call (Ok says.Absent) m asleep = asleep
overtaking_asleep call (Ok said) m asleep =
    elim (is_remembered call) as (λ b. IsAsleep (if b then record m { late = [] } else m)) [ true ↦ record { tree = asleep.tree; kept = asleep.kept; late = refl; waiting = asleep.waiting } | false ↦ asleep ]
overtaking_asleep call (Err refusal) m asleep = asleep

behind_asleep : (call : Call) (said : Result Said Refusal) (m : Machine) → IsAsleep m → IsAsleep (overtaken call (said, m))
behind_asleep (calls.List p) said m asleep = asleep
behind_asleep call said m asleep = overtaking_asleep call said m asleep

-- ---- two answers from one machine

-- they are alike, and lead to the same machine, to which nothing is owed
abbrev Agree : Result Answer Refusal → Result Answer Refusal → Machine → Machine → Type 0
Agree one another new last = AreAlike one another × (new ≡ last) × IsAsleep new

agree_at : (answer one another : Result Answer Refusal) (m new last : Machine) → IsAsleep m → one ≡ answer → another ≡ answer → new ≡ m → last ≡ m → Agree one another new last
agree_at answer one another m new last asleep e f same so = (alike_to answer one another e f, same ∙ sym so, subst IsAsleep (sym same) asleep)

two_ways : {A B C D X : Type 0} (b : Bool) → (A → C → X) → (B → D → X) → MatchBool b A B → MatchBool b C D → X
two_ways true f g x y = f x y
two_ways false f g x y = g x y

asks_so : (size : ℕ) (call : Call) (old new : Machine) (said : Result Said Refusal) → IsAsleep old → IsSure said → Asks size call old said new → IsSaid (called call old).0 said × (new ≡ (called call old).1)
asks_so size call old new said asleep sure (payments, asks) =
    subst (λ m. IsSaid (called call m).0 said × (new ≡ (called call m).1)) (nothing_now size payments old (still old asleep)) (sure_now call (paid_now size payments old) new said sure asks)

ask_one : (size : ℕ) (call : Call) (old new last : Machine) (one another : Result Answer Refusal) → IsAsleep old → IsSure one → IsSure another → AsksOne size call old one new → AsksOne size call old another last → Agree one another new last
ask_one size call old new last one another asleep sure surely (said, asks, e) (other, ask, f) =
    let so = asks_so size call old new said asleep (sure_said one said e sure) asks in
    let too = asks_so size call old last other asleep (sure_said another other f surely) ask in
    (alike_said (called call old).0 said other one another so.0 too.0 e f, so.1 ∙ sym too.1, subst IsAsleep (sym so.1) (called_asleep call old asleep))

overtaken_alike : (call : Call) (plain said other : Result Said Refusal) (m : Machine) → IsSaid plain said → IsSaid plain other → overtaking call [] (said, m) ≡ overtaking call [] (other, m)
overtaken_alike call (Ok (says.Scanned removed any)) said other m (forgotten, is) (others, so) = ap (λ x. overtaking call [] (x, m)) is ∙ sym (ap (λ x. overtaking call [] (x, m)) so)
overtaken_alike call plain said other m is so = ap (λ x. overtaking call [] (x, m)) (is ∙ sym so)

behind_alike : (call : Call) (plain said other : Result Said Refusal) (m : Machine) → IsSaid plain said → IsSaid plain other → overtaken call (said, m) ≡ overtaken call (other, m)
behind_alike (calls.List p) plain said other m is so = refl
behind_alike call plain said other m is so = overtaken_alike call plain said other m is so

ask_tree : (size : ℕ) (call : Result Call Refusal) (old new last : Machine) (one another : Result Answer Refusal) → IsAsleep old → IsSure one → IsSure another → AsksTree size call old one new → AsksTree size call old another last → Agree one another new last
ask_tree size (Err refusal) old new last one another asleep sure surely (e, same) (f, so) = agree_at (Err refusal) one another old new last asleep e f same so
ask_tree size (Ok call) old new last one another asleep sure surely (said, mid, asks, e, same) (other, between, ask, f, sames) =
    let so = asks_so size call old mid said asleep (sure_said one said e sure) asks in
    let too = asks_so size call old between other asleep (sure_said another other f surely) ask in (
      alike_said (called call old).0 said other one another so.0 too.0 e f,
      same ∙ ap (λ m. overtaken call (said, m)) (so.1 ∙ sym too.1) ∙ behind_alike call (called call old).0 said other between so.0 too.0 ∙ sym sames,
      subst IsAsleep (sym same) (behind_asleep call said mid (subst IsAsleep (sym so.1) (called_asleep call old asleep))),
    )

never_both : {X : Type 0} (plain : Result Said Refusal) (refusal : Refusal) (said : Said) → IsSaid plain (Err refusal) → IsSaid plain (Ok said) → X
never_both (Ok (says.Scanned removed any)) refusal said (forgotten, is) so = absurd (cc)
never_both plain refusal said is so = absurd (cc)

ok_sure : (said : Said) → IsSure {A = Said} (Ok said)
ok_sure said = λ refusal e. absurd (cc)

err_sure : (answer : Result Answer Refusal) (refusal : Refusal) → answer ≡ Err refusal → IsSure answer → IsSure {A = Said} (Err refusal)
err_sure answer refusal is sure = sure_said answer (Err refusal) is sure

ask_both : (size : ℕ) (begin commit : Call) (old new last : Machine) (one another : Result Answer Refusal) → IsAsleep old → IsSure one → IsSure another → AsksBoth size begin commit old one new → AsksBoth size begin commit old another last → Agree one another new last
ask_both size begin commit old new last one another asleep sure surely (inl (refusal, asks, e)) (inl (refused, ask, f)) =
    ask_one size begin old new last one another asleep sure surely (Err refusal, asks, e) (Err refused, ask, f)
ask_both size begin commit old new last one another asleep sure surely (inl (refusal, asks, e)) (inr (said, begun, ask, commits)) =
    never_both (called begin old).0 refusal said (asks_so size begin old new (Err refusal) asleep (err_sure one refusal e sure) asks).0 (asks_so size begin old begun (Ok said) asleep (ok_sure said) ask).0
ask_both size begin commit old new last one another asleep sure surely (inr (said, begun, ask, commits)) (inl (refusal, asks, e)) =
    never_both (called begin old).0 refusal said (asks_so size begin old last (Err refusal) asleep (err_sure another refusal e surely) asks).0 (asks_so size begin old begun (Ok said) asleep (ok_sure said) ask).0
ask_both size begin commit old new last one another asleep sure surely (inr (said, begun, asks, commits)) (inr (other, began, ask, commit_too)) =
    let is = (asks_so size begin old begun (Ok said) asleep (ok_sure said) asks).1 in
    let so = (asks_so size begin old began (Ok other) asleep (ok_sure other) ask).1 in
    ask_one size commit begun new last one another (subst IsAsleep (sym is) (called_asleep begin old asleep)) sure surely commits (subst (λ m. AsksOne size commit m another last) (so ∙ sym is) commit_too)

gives_same : (size : ℕ) (answer : Result Answer Refusal) (mid new : Machine) → IsSure answer → GivesUp size answer mid new → new ≡ mid
gives_same size (Ok answer) mid new sure same = same
gives_same size (Err (refusals.NotQuiet handle)) mid new sure gives = absurd ((sure (refusals.NotQuiet handle) refl).0 refl)
gives_same size (Err refusal) mid new sure same = same

upgrade_so : (size : ℕ) (upgrade : Upgrade) (old new last : Machine) (one another : Result Answer Refusal) → IsAsleep old → IsSure one → IsSure another → Upgrades size upgrade old one new → Upgrades size upgrade old another last → Agree one another new last
upgrade_so size upgrades.Query old new last one another asleep sure surely asks ask = ask_one size calls.Query old new last one another asleep sure surely asks ask
upgrade_so size upgrades.Prepare old new last one another asleep sure surely (mid, both, gives) (between, two, give) =
    let agree = ask_both size calls.PrepareBegin calls.PrepareCommit old mid between one another asleep sure surely both two in
    let is = gives_same size one mid new sure gives in
    (agree.0, is ∙ agree.1 ∙ sym (gives_same size another between last surely give), subst IsAsleep (sym is) agree.2)
upgrade_so size upgrades.Finalize old new last one another asleep sure surely asks ask = ask_one size calls.Finalize old new last one another asleep sure surely asks ask
upgrade_so size upgrades.Rollback old new last one another asleep sure surely both two = ask_both size calls.RollbackBegin calls.RollbackCommit old new last one another asleep sure surely both two

-- ---- two lines of a file

abbrev DoesSo : (Path → Option (Entry Text) → Machine → Result Answer Refusal → Machine → Type 0) → Type 0
DoesSo Does = (p : Path) (found : Option (Entry Text)) (old new last : Machine) (one another : Result Answer Refusal) → IsAsleep old → IsQuietFound found → IsSure one → IsSure another → Does p found old one new → Does p found old another last → Agree one another new last

on_path_so : (size : ℕ) (path : Result Path Refusal) (Does : Path → Option (Entry Text) → Machine → Result Answer Refusal → Machine → Type 0) → DoesSo Does → (old new last : Machine) (one another : Result Answer Refusal)
    → IsAsleep old → IsSure one → IsSure another → OnPath size path Does old one new → OnPath size path Does old another last → Agree one another new last
on_path_so size (Err refusal) Does so old new last one another asleep sure surely (e, same) (f, sames) = agree_at (Err refusal) one another old new last asleep e f same sames
on_path_so size (Ok p) Does so old new last one another asleep sure surely (payments, now, is, inl (refusal, e, off, same)) other = sure_looks one refusal sure e off
on_path_so size (Ok p) Does so old new last one another asleep sure surely (payments, now, is, inr (free, does)) (paid, at_it, is_at, inl (refusal, e, off, same)) = sure_looks another refusal surely e off
on_path_so size (Ok p) Does so old new last one another asleep sure surely (payments, now, is, inr (free, does)) (paid, at_it, is_at, inr (frees, did)) =
    so p (at old.plain.tree p) old new last one another asleep (quiet_found p old.plain.tree asleep.tree) sure surely
    (subst (λ m. Does p (at m.plain.tree p) m one new) (is ∙ nothing_now size payments old (still old asleep)) does)
    (subst (λ m. Does p (at m.plain.tree p) m another last) (is_at ∙ nothing_now size paid old (still old asleep)) did)

stats_so : (size : ℕ) → DoesSo (Stats size)
stats_so size p None old new last one another asleep owes sure surely (e, same) (f, so) = agree_at (Err refusals.NotFound) one another old new last asleep e f same so
stats_so size p (Some Dir) old new last one another asleep owes sure surely (e, same) (f, so) = agree_at one one another old new last asleep refl (f ∙ sym e) same so
stats_so size p (Some (File texts)) old new last one another asleep owes sure surely (picks, chunks, long, e, same) (others, more, longs, f, so) =
    (stats_alike size p (Some (File texts)) old new old last one another owes sure surely (picks, chunks, long, e, same) (others, more, longs, f, so), same ∙ sym so, subst IsAsleep (sym same) asleep)

reads_so : (size offset many : ℕ) → DoesSo (OfFile (Reads size offset many))
reads_so size offset many p None old new last one another asleep owes sure surely (e, same) (f, so) = agree_at (Err refusals.NotFound) one another old new last asleep e f same so
reads_so size offset many p (Some Dir) old new last one another asleep owes sure surely (e, same) (f, so) = agree_at (Err refusals.IsADirectory) one another old new last asleep e f same so
reads_so size offset many p (Some (File texts)) old new last one another asleep owes sure surely (first, second, e, same) (third, fourth, f, so) =
    (reads_alike size offset many p (Some (File texts)) old new old last one another owes sure surely (first, second, e, same) (third, fourth, f, so), same ∙ sym so, subst IsAsleep (sym same) asleep)

digests_so : (size block chunk index : ℕ) → DoesSo (OfFile (Digests size block chunk index))
digests_so size block chunk index p None old new last one another asleep owes sure surely (e, same) (f, so) = agree_at (Err refusals.NotFound) one another old new last asleep e f same so
digests_so size block chunk index p (Some Dir) old new last one another asleep owes sure surely (e, same) (f, so) = agree_at (Err refusals.IsADirectory) one another old new last asleep e f same so
digests_so size block chunk index p (Some (File texts)) old new last one another asleep owes sure surely (picks, e, same) (others, f, so) =
    (digests_alike size block chunk index p (Some (File texts)) old new old last one another owes sure surely (picks, e, same) (others, f, so), same ∙ sym so, subst IsAsleep (sym same) asleep)

abbrev done_each : ℕ → List Part → Machine → Machine
done_each size [] m = m
done_each size (part ∷ parts) m = done_each size parts (done size part m)

done_each_asleep : (size : ℕ) (parts : List Part) (m : Machine) → IsAsleep m → IsAsleep (done_each size parts m)
done_each_asleep size [] m asleep = asleep
done_each_asleep size (part ∷ parts) m asleep = done_each_asleep size parts (done size part m) (done_asleep size part m asleep)

does_each_so : (size : ℕ) (parts : List Part) (old new : Machine) (answer : Result Answer Refusal) → IsAsleep old → IsSure answer → DoesEach size parts old answer new → (answer ≡ Ok answers.Done) × (new ≡ done_each size parts old)
does_each_so size [] old new answer asleep sure does = does
does_each_so size (part ∷ parts) old new answer asleep sure (payments, now, is, inl off) = sure_never_off (MayBe part now) now new answer sure off
does_each_so size (part ∷ parts) old new answer asleep sure (payments, now, is, inr (free, rest)) =
    does_each_so size parts (done size part old) new answer (done_asleep size part old asleep) sure (subst (λ m. DoesEach size parts (done size part m) answer new) (is ∙ nothing_now size payments old (still old asleep)) rest)

writes_so : (size offset : ℕ) (bytes : List ℕ) → DoesSo (OfFile (Writes size offset bytes))
writes_so size offset bytes p None old new last one another asleep owes sure surely (e, same) (f, so) = agree_at (Err refusals.NotFound) one another old new last asleep e f same so
writes_so size offset bytes p (Some Dir) old new last one another asleep owes sure surely (e, same) (f, so) = agree_at (Err refusals.IsADirectory) one another old new last asleep e f same so
writes_so size offset bytes p (Some (File texts)) old new last one another asleep owes sure surely writes wrote =
    let parts = parts_of size p (length texts) offset bytes in
    two_ways {A = (one ≡ Err refusals.Range) × (new ≡ old)} {B = DoesEach size parts old one new} {C = (another ≡ Err refusals.Range) × (last ≡ old)} {D = DoesEach size parts old another last} (is_out size offset bytes)
    (λ out too. agree_at (Err refusals.Range) one another old new last asleep out.0 too.0 out.1 too.1)
    (λ each did.
    let so = does_each_so size parts old new one asleep sure each in
    let too = does_each_so size parts old last another asleep surely did in
    agree_at (Ok answers.Done) one another (done_each size parts old) new last (done_each_asleep size parts old asleep) so.0 too.0 so.1 too.1)
    writes wrote

-- where a record lands, when it isn't put off
abbrev LandsSurely : ℕ → Path → List ℕ → ℕ → ℕ → Machine → Result Answer Refusal → Machine → Type 0
LandsSurely size p bytes more index grown answer new =
    MatchBool (is_too_long size bytes) ((answer ≡ Err refusals.TooLong) × (new ≡ grown)) (LandsOr size p bytes index (λ n. Lands size p bytes more (index + 1) n answer new) grown answer new)

long_or : (size : ℕ) (p : Path) (bytes : List ℕ) (more index : ℕ) (grown new : Machine) (answer : Result Answer Refusal) (b : Bool) → IsSure answer → (IsSeenFull size (text_at p index grown) → ⊥)
    → MatchBool b (((answer ≡ Err refusals.TooLong) × (new ≡ grown)) ⊎ IsPutOff (λ n. n ≡ grown) grown answer new)
    (IsPutOff (MayBe (Edits p index (machines.Append bytes)) grown) grown answer new ⊎ LandsOrPasses size p bytes index (λ n. Lands size p bytes more (index + 1) n answer new) grown answer new)
    → MatchBool b ((answer ≡ Err refusals.TooLong) × (new ≡ grown)) (LandsOr size p bytes index (λ n. Lands size p bytes more (index + 1) n answer new) grown answer new)
long_or size p bytes more index grown new answer true sure none (inl refused) = refused
long_or size p bytes more index grown new answer true sure none (inr off) = sure_never_off (λ n. n ≡ grown) grown new answer sure off
long_or size p bytes more index grown new answer false sure none (inl off) = sure_never_off (MayBe (Edits p index (machines.Append bytes)) grown) grown new answer sure off
long_or size p bytes more index grown new answer false sure none (inr (inl lands)) = lands
long_or size p bytes more index grown new answer false sure none (inr (inr (full, on))) = absurd (none full)

landing : (size : ℕ) (p : Path) (bytes : List ℕ) (more index : ℕ) (old new : Machine) (answer : Result Answer Refusal) → IsAsleep old → IsSure answer → Lands size p bytes (suc more) index old answer new → LandsSurely size p bytes more index (done size (Adds p index) old) answer new
landing size p bytes more index old new answer asleep sure (payments, now, is, inl off) = sure_never_off (MayBe (Adds p index) now) now new answer sure off
landing size p bytes more index old new answer asleep sure (payments, now, is, inr (free, paying, grown, grows, choice)) =
    let added = done size (Adds p index) old in
    let added_asleep = done_asleep size (Adds p index) old asleep in
    let same : grown ≡ added = (grows ∙ ap (λ m. paid_now size paying (done size (Adds p index) m)) (is ∙ nothing_now size payments old (still old asleep)) ∙ nothing_now size paying added (still added (done_asleep size (Adds p index) old asleep))) in
    let none : IsSeenFull size (text_at p index grown) → ⊥ = subst (λ m. IsSeenFull size (text_at p index m) → ⊥) (sym same) (never_seen_full size (text_at p index added) (nothing_owed p index added added_asleep.tree)) in
    subst (λ m. LandsSurely size p bytes more index m answer new) same (long_or size p bytes more index grown new answer (is_too_long size bytes) sure none choice)

lands_so : (size : ℕ) (p : Path) (bytes : List ℕ) (more index : ℕ) (old new last : Machine) (one another : Result Answer Refusal) → IsAsleep old → IsSure one → IsSure another → Lands size p bytes more index old one new → Lands size p bytes more index old another last → Agree one another new last
lands_so size p bytes zero index old new last one another asleep sure surely (e, same) (f, so) = agree_at (Err refusals.Range) one another old new last asleep e f same so
lands_so size p bytes (suc more) index old new last one another asleep sure surely lands land =
    let grown = done size (Adds p index) old in
    let grown_asleep = done_asleep size (Adds p index) old asleep in
    let behind_it = done size (Edits p index (machines.Append bytes)) grown in
    let behind_asleep = done_asleep size (Edits p index (machines.Append bytes)) grown grown_asleep in
    let number : Result Answer Refusal = Ok (answers.Number (index * size + length (text_at p index grown).bytes)) in
    two_ways {A = (one ≡ Err refusals.TooLong) × (new ≡ grown)} {B = LandsOr size p bytes index (λ n. Lands size p bytes more (index + 1) n one new) grown one new}
    {C = (another ≡ Err refusals.TooLong) × (last ≡ grown)} {D = LandsOr size p bytes index (λ n. Lands size p bytes more (index + 1) n another last) grown another last} (is_too_long size bytes)
    (λ long too. agree_at (Err refusals.TooLong) one another grown new last grown_asleep long.0 too.0 long.1 too.1)
    (λ fitting fits_too.
    two_ways {A = (one ≡ number) × (new ≡ behind_it)} {B = Lands size p bytes more (index + 1) behind_it one new} {C = (another ≡ number) × (last ≡ behind_it)} {D = Lands size p bytes more (index + 1) behind_it another last} (fits size bytes (text_at p index grown).bytes)
    (λ landed too. agree_at number one another behind_it new last behind_asleep landed.0 too.0 landed.1 too.1)
    (λ on on_too. lands_so size p bytes more (index + 1) behind_it new last one another behind_asleep sure surely on on_too)
    fitting fits_too)
    (landing size p bytes more index old new one asleep sure lands) (landing size p bytes more index old last another asleep surely land)

appends_so : (size : ℕ) (bytes : List ℕ) → DoesSo (OfFile (Appends size bytes))
appends_so size bytes p None old new last one another asleep owes sure surely (e, same) (f, so) = agree_at (Err refusals.NotFound) one another old new last asleep e f same so
appends_so size bytes p (Some Dir) old new last one another asleep owes sure surely (e, same) (f, so) = agree_at (Err refusals.IsADirectory) one another old new last asleep e f same so
appends_so size bytes p (Some (File texts)) old new last one another asleep owes sure surely lands land =
    let more = most_chunks - (length texts - 1) in
    let index = length texts - 1 in
    two_ways {A = (one ≡ Err refusals.Range) × (new ≡ old)} {B = Lands size p bytes more index old one new} {C = (another ≡ Err refusals.Range) × (last ≡ old)} {D = Lands size p bytes more index old another last} (length bytes == 0)
    (λ out too. agree_at (Err refusals.Range) one another old new last asleep out.0 too.0 out.1 too.1)
    (λ landed too. lands_so size p bytes more index old new last one another asleep sure surely landed too)
    lands land

-- ---- two lines

abbrev LeadsSo : Request → Result Answer Refusal → Result Answer Refusal → Machine → Machine → Type 0
LeadsSo request one another new last = ((is_of_nodes (Some request) ≡ true) ⊎ AreAlike one another) × (new ≡ last) × IsAsleep new

agreed : (request : Request) (one another : Result Answer Refusal) (new last : Machine) → Agree one another new last → LeadsSo request one another new last
agreed request one another new last (alike, same, asleep) = (inr alike, same, asleep)

passed : (size : ℕ) (old new : Machine) → IsAsleep old → Passes size old new → new ≡ old
passed size old new asleep (payments, same) = same ∙ nothing_now size payments old (still old asleep)

of_nodes : (request : Request) (one another : Result Answer Refusal) (m new last : Machine) → is_of_nodes (Some request) ≡ true → IsAsleep m → new ≡ m → last ≡ m → LeadsSo request one another new last
of_nodes request one another m new last nodes asleep same so = (inl nodes, same ∙ sym so, subst IsAsleep (sym same) asleep)

begins_so : (old new : Machine) (answer : Result Answer Refusal) → IsSure answer → BeginsAnew old answer new → new ≡ anew old
begins_so old new (Ok answer) sure same = same
begins_so old new (Err refusal) sure (inl same) = same
begins_so old new (Err refusal) sure (inr (store, same)) = absurd ((sure refusal refl).0 store)

leads_so : (size block : ℕ) (request : Request) (old new last : Machine) (one another : Result Answer Refusal) → IsAsleep old → IsSure one → IsSure another → Leads size block request old one new → Leads size block request old another last → LeadsSo request one another new last
leads_so size block (lines.Mkdir p) old new last one another asleep sure surely leads lead = agreed (lines.Mkdir p) one another new last (ask_tree size (on (parse p) calls.Mkdirs) old new last one another asleep sure surely leads lead)
leads_so size block (lines.Create p) old new last one another asleep sure surely leads lead = agreed (lines.Create p) one another new last (ask_tree size (on (parse p) calls.Create) old new last one another asleep sure surely leads lead)
leads_so size block (lines.Ls p) old new last one another asleep sure surely leads lead = agreed (lines.Ls p) one another new last (ask_tree size (on (parse_hidden p) calls.List) old new last one another asleep sure surely leads lead)
leads_so size block (lines.Mv p q) old new last one another asleep sure surely leads lead = agreed (lines.Mv p q) one another new last (ask_tree size (on_two (parse p) (parse q) calls.Rename) old new last one another asleep sure surely leads lead)
leads_so size block (lines.Rm p recursive) old new last one another asleep sure surely leads lead = agreed (lines.Rm p recursive) one another new last (ask_tree size (on (parse p) (λ path. calls.Delete path recursive)) old new last one another asleep sure surely leads lead)
leads_so size block (lines.Undelete p) old new last one another asleep sure surely leads lead = agreed (lines.Undelete p) one another new last (ask_tree size (on (parse_hidden p) calls.Undelete) old new last one another asleep sure surely leads lead)
leads_so size block (lines.Snapshot p q) old new last one another asleep sure surely leads lead = agreed (lines.Snapshot p q) one another new last (ask_tree size (on_two (parse p) (parse q) calls.Snapshot) old new last one another asleep sure surely leads lead)
leads_so size block (lines.Stat p) old new last one another asleep sure surely leads lead = agreed (lines.Stat p) one another new last (on_path_so size (parse_hidden p) (Stats size) (stats_so size) old new last one another asleep sure surely leads lead)
leads_so size block (lines.Read p offset many) old new last one another asleep sure surely leads lead =
    agreed (lines.Read p offset many) one another new last (on_path_so size (parse_hidden p) (OfFile (Reads size offset many)) (reads_so size offset many) old new last one another asleep sure surely leads lead)
leads_so size block (lines.Digest p chunk index) old new last one another asleep sure surely leads lead =
    agreed (lines.Digest p chunk index) one another new last (on_path_so size (parse_hidden p) (OfFile (Digests size block chunk index)) (digests_so size block chunk index) old new last one another asleep sure surely leads lead)
leads_so size block (lines.Write p offset bytes) old new last one another asleep sure surely leads lead =
    agreed (lines.Write p offset bytes) one another new last (on_path_so size (parse p) (OfFile (Writes size offset bytes)) (writes_so size offset bytes) old new last one another asleep sure surely leads lead)
leads_so size block (lines.Append p bytes) old new last one another asleep sure surely leads lead =
    agreed (lines.Append p bytes) one another new last (on_path_so size (parse p) (OfFile (Appends size bytes)) (appends_so size bytes) old new last one another asleep sure surely leads lead)
leads_so size block lines.Scan old new last one another asleep sure surely leads lead = agreed lines.Scan one another new last (ask_one size calls.Scan old new last one another asleep sure surely leads lead)
leads_so size block (lines.RollingUpgrade upgrade) old new last one another asleep sure surely leads lead = agreed (lines.RollingUpgrade upgrade) one another new last (upgrade_so size upgrade old new last one another asleep sure surely leads lead)
leads_so size block (lines.Step step) old new last one another asleep sure surely leads lead = agreed (lines.Step step) one another new last (ask_one size (step_of step) old new last one another asleep sure surely leads lead)
leads_so size block (lines.At moment) old new last one another asleep sure surely (now, passes, e, same) (at_it, pass, f, so) =
    agreed (lines.At moment) one another new last (agree_at (Ok answers.Done) one another (record old { moment = moment }) new last (record { tree = asleep.tree; kept = asleep.kept; late = asleep.late; waiting = asleep.waiting }) e f
    (same ∙ ap (λ (m : Machine). record m { moment = moment }) (passed size old now asleep passes)) (so ∙ ap (λ (m : Machine). record m { moment = moment }) (passed size old at_it asleep pass)))
leads_so size block (lines.Restart restarted.Master) old new last one another asleep sure surely (now, passes, begins) (at_it, pass, began) =
    of_nodes (lines.Restart restarted.Master) one another (anew old) new last refl (record { tree = asleep.tree; kept = asleep.kept; late = asleep.late; waiting = refl })
    (begins_so now new one sure begins ∙ ap anew (passed size old now asleep passes)) (begins_so at_it last another surely began ∙ ap anew (passed size old at_it asleep pass))
leads_so size block (lines.Deliver number) old new last one another asleep sure surely (payments, same) (paid, so) =
    of_nodes (lines.Deliver number) one another old new last refl asleep (same ∙ nothing_each size payments old (still old asleep) asleep.late) (so ∙ nothing_each size paid old (still old asleep) asleep.late)
leads_so size block request old new last one another asleep sure surely leads lead = of_nodes request one another old new last refl asleep (passed size old new asleep leads) (passed size old last asleep lead)

-- ---- two texts, and two runs

abbrev ComesSo : Option Request → List ℕ → List ℕ → Machine → Machine → Type 0
ComesSo asked text other new last = ((is_of_nodes asked ≡ true) ⊎ TextsAreAlike text other) × (new ≡ last) × IsAsleep new

comes_so : (size block : ℕ) (asked : Option Request) (old new last : Machine) (text other : List ℕ) → IsAsleep old → IsPlain text → IsPlain other → ComesTo size block asked old text new → ComesTo size block asked old other last → ComesSo asked text other new last
comes_so size block None old new last text other asleep plain plains (inl is, same) (inl so, sames) = (inr (Err refusals.BadLine, Err refusals.BadLine, is, so, refl), same ∙ sym sames, subst IsAsleep (sym same) asleep)
comes_so size block None old new last text other asleep plain plains (inl is, same) (inr memory, sames) = no_memory other plains memory
comes_so size block None old new last text other asleep plain plains (inr memory, same) came = no_memory text plain memory
comes_so size block (Some request) old new last text other asleep plain plains (inl (memory, same)) came = no_memory text plain memory
comes_so size block (Some request) old new last text other asleep plain plains (inr comes) (inl (memory, same)) = no_memory other plains memory
comes_so size block (Some request) old new last text other asleep plain plains (inr (one, leads, inr memory)) (inr came) = no_memory text plain memory
comes_so size block (Some request) old new last text other asleep plain plains (inr comes) (inr (another, lead, inr memory)) = no_memory other plains memory
comes_so size block (Some request) old new last text other asleep plain plains (inr (one, leads, inl is)) (inr (another, lead, inl so)) =
    let agree = leads_so size block request old new last one another asleep (plain_sure one text plain is) (plain_sure another other plains so) leads lead in
    (elim agree.0 [ inl nodes ↦ inl nodes | inr alike ↦ inr (one, another, is, so, alike) ], agree.1, agree.2)

runs_so : (size block : ℕ) (all texts others : List (List ℕ)) (old new last : Machine) → IsAsleep old → AllByRecursion IsPlain texts → AllByRecursion IsPlain others → Runs (Explains size block) old all texts new → Runs (Explains size block) old all others last → AnsweredAlike all texts others
runs_so size block [] texts others old new last asleep plain plains runs ran = tt
runs_so size block (line ∷ all) [] others old new last asleep plain plains never ran = absurd never
runs_so size block (line ∷ all) (text ∷ texts) [] old new last asleep plain plains runs never = absurd never
runs_so size block (line ∷ all) (text ∷ texts) (other ∷ others) old new last asleep plain plains (mid, answers, rest) (between, answered_too, more) =
    let agree = comes_so size block (asked_in line) old mid between text other asleep plain.0 plains.0 (comes_to size block old mid line text answers) (comes_to size block old between line other answered_too) in
    (agree.0, runs_so size block all texts others mid new last agree.2 plain.1 plains.1 rest (subst (λ m. Runs (Explains size block) m all others last) (sym agree.1) more))

pub plain_answers_are_a_function : PlainAnswersAreAFunction
plain_answers_are_a_function size block all texts others (end, runs) (last, ran) plain plains =
    runs_so size block all texts others new_machine end last (record { tree = (tt, tt); kept = tt; late = refl; waiting = refl }) plain plains runs ran

-- ---- worked

-- plain answers to a write past the end of a file, over two chunks
they_are_plain : AllByRecursion IsPlain a_long_write_answers
they_are_plain = (accepted_plain (codes "ok") refl, (accepted_plain (codes "ok") refl, (accepted_plain (codes "ok 0000000000000000000000000000616263") refl, (accepted_plain (codes "ok file 17 1/1/0,1,2 2/1/0,1,2") refl, tt))))

-- whatever other plain answers there are, they are like these
nothing_else_is_answered : (others : List (List ℕ)) → AreExplained 16 4 a_long_write others → AllByRecursion IsPlain others → AnsweredAlike a_long_write a_long_write_answers others
nothing_else_is_answered others explained plains = plain_answers_are_a_function 16 4 a_long_write a_long_write_answers others a_long_write_is_explained explained they_are_plain plains
