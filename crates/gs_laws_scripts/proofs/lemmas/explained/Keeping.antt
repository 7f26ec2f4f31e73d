-- What each call keeps, each line keeps.
use Rattle.std.proofs.Common.{inl, inr, subst, sym}
use Rattle.std.specs.Prelude.{◌==◌, [], ◌+◌, ◌++◌, ◌-◌, ◌∷◌, ◌≡◌, ◌⊎◌, Bool, Err, List, MatchBool, MatchOption, None, Ok, Option, Result, Some, drop, false, filter, if◌then◌else◌, length, nat_le, remove, suc, true, zero, ℕ}
use Rattle.std.specs.List.{list_any}
use Rattle.std.specs.Result.{result_unwrap_or}
use Rattle.gs_base.specs.declared.refusal.Refusal.{Refusal}
use Rattle.gs_base.specs.declared.refusal.Refusal.TheVariants as refusals
use Rattle.gs_client_part.specs.Writing.{is_out, most_chunks}
use Rattle.gs_edit.specs.Plain.{remove_rows}
use Rattle.gs_edit.specs.Scan.{is_removed}
use Rattle.gs_msg.specs.declared.answer.Answer.{Answer as Said}
use Rattle.gs_msg.specs.declared.answer.Answer.TheVariants as says
use Rattle.gs_msg.specs.declared.call.Call.{Call}
use Rattle.gs_msg.specs.declared.call.Call.TheVariants as calls
use Rattle.gs_path.specs.Path.{Path}
use Rattle.gs_path.specs.Rules.{parse, parse_hidden}
use Rattle.gs_shell_calls.specs.Asked.{is_unquiet}
use Rattle.gs_shell_calls.specs.declared.answer.Answer.{Answer}
use Rattle.gs_shell_calls.specs.declared.answer.Answer.TheVariants as answers
use Rattle.gs_shell_desk.specs.Answering.{IsText}
use Rattle.gs_shell_grammar.specs.Grammar.{Request, line_request}
use Rattle.gs_shell_grammar.specs.Grammar as lines
use Rattle.gs_shell_grammar.specs.declared.command.Restarted.TheVariants as restarted
use Rattle.gs_shell_grammar.specs.declared.command.Upgrade.{Upgrade}
use Rattle.gs_shell_grammar.specs.declared.command.Upgrade.TheVariants as upgrades
use Rattle.gs_shell_line.specs.Line.{content, longest_line}
use Rattle.gs_laws_scripts.specs.plain.Machines.{asked_in, call_of}
use Rattle.gs_shell_script.specs.Run.{AnswersIfShort, AnswersLine, Runs, memory_text}
use Rattle.gs_tree.specs.Entry.{Dir, Entry, File}
use Rattle.gs_tree.specs.Find.{Rows, at}
use Rattle.gs_laws_scripts.specs.explained.Lines.{Adds, Appends, Asks, AsksBoth, AsksNow, AsksOne, AsksTree, BeginsAnew, Digests, DoesEach, Edits, Explains, GivesUp, IsPutOff, Lands, LandsOr, Leads, LeadsBy, MayBe, MayBeDone, OfFile, OnPath, Part, Passes, Reads, Stats, Upgrades, Writes, anew, overtaken, done, is_too_long, parts_of, step_of, swept_each, LandsOrPasses}
use Rattle.gs_laws_scripts.specs.explained.Machine.{Comes, Edit, Ends, Machine, Payment, Settles, Sweeps, Text, Waits, at_place, called, comes, ends, fits, is_remembered, is_scan, is_undelivered, may_wait, overtaking, paid, paid_each, paid_now, settles, swept, text_at, waits, with_rows}
use Rattle.gs_laws_scripts.specs.explained.Machine as machines

-- ---- lines by what they ask for

-- what a line may be answered, by what it asks for
abbrev pub ComesTo : (size block : ℕ) → Option Request → Machine → List ℕ → Machine → Type 0
ComesTo size block None old text new = IsText (Err refusals.BadLine) text × (new ≡ old)
ComesTo size block (Some request) old text new = ((text ≡ memory_text) × (new ≡ old)) ⊎ ((answer : Result Answer Refusal) × Leads size block request old answer new × IsText answer text)

forgets : (size block : ℕ) (asked : Option Request) (old new : Machine) (text : List ℕ) → text ≡ memory_text → new ≡ old → ComesTo size block asked old text new
forgets size block None old new text is same = (inr is, same)
forgets size block (Some request) old new text is same = inl (is, same)

explained_as : (size block : ℕ) (asked : Option Request) (old new : Machine) (text : List ℕ)
    → MatchOption asked (IsText (Err refusals.BadLine) text × (new ≡ old)) (λ request. (answer : Result Answer Refusal) × Leads size block request old answer new × IsText answer text) → ComesTo size block asked old text new
explained_as size block None old new text explains = explains
explained_as size block (Some request) old new text explains = inr explains

if_short : (size block : ℕ) (short : Bool) (old new : Machine) (line text : List ℕ) → AnswersIfShort (Explains size block) short old line text new → ComesTo size block (if short then line_request line else None) old text new
if_short size block true old new line text explains = explained_as size block (line_request line) old new text explains
if_short size block false old new line text (is, same) = (inl is, same)

pub comes_to : (size block : ℕ) (old new : Machine) (whole text : List ℕ) → AnswersLine (Explains size block) old whole text new → ComesTo size block (asked_in whole) old text new
comes_to size block old new whole text (inl (is, same)) = forgets size block (asked_in whole) old new text is same
comes_to size block old new whole text (inr answers) = if_short size block (nat_le (length (content whole)) longest_line) old new (content whole) text answers

-- ---- what is kept

pub record IsKept (P : Machine → Type 0) : Type 0 where
  pub calls : (call : Call) (m : Machine) → P m → P (called call m).1
  pub rows : (rows : Rows Text) (m : Machine) → P m → P (with_rows rows m)
  pub lates : (late : List Call) (m : Machine) → P m → P (record m { late = late })
  pub waits : (waiting : List Call) (m : Machine) → P m → P (record m { waiting = waiting })
  pub moments : (moment : ℕ) (m : Machine) → P m → P (record m { moment = moment })
  pub anews : (m : Machine) → P m → P (anew m)

pub either_way : {A B X : Type 0} (b : Bool) → (A → X) → (B → X) → MatchBool b A B → X
either_way true f g h = f h
either_way false f g h = g h

module _ (P : Machine → Type 0) (kept : IsKept P) where
  place_keeps : (p : Path) (index : ℕ) (make : Text → Text) (m : Machine) → P m → P (at_place p index make m)
  place_keeps p index make m h = kept.rows (at_place p index make m).plain.tree m h

  overtaking_keeps : (call : Call) (late : List Call) (said : Result Said Refusal) (m : Machine) → P m → P (overtaking call late (said, m))
  overtaking_keeps call late (Ok says.Absent) m h = h
  overtaking_keeps call late (Ok said) m h = elim (is_remembered call) as (λ b. P (if b then record m { late = late } else m)) [ true ↦ kept.lates late m h | false ↦ h ]
  overtaking_keeps call late (Err refusal) m h = h

  settles_keep : (size : ℕ) (edit : Option Edit) (p : Path) (index k : ℕ) (m : Machine) → P m → P (settles size edit p index k m)
  settles_keep size None p index k m h = h
  settles_keep size (Some edit) p index k m h = kept.rows (settles size (Some edit) p index k m).plain.tree m h

  ends_keep : (call : Option Call) (k : ℕ) (m : Machine) → P m → P (ends call k m)
  ends_keep None k m h = h
  ends_keep (Some call) k m h = kept.calls call (record m { waiting = remove m.waiting k }) (kept.waits (remove m.waiting k) m h)

  comes_keep : (call : Option Call) (k : ℕ) (m : Machine) → P m → P (comes call k m)
  comes_keep None k m h = h
  comes_keep (Some call) k m h = overtaking_keeps call (drop (suc k) m.late) (called call m).0 (called call m).1 (kept.calls call m h)

  waits_keep : (call : Option Call) (k : ℕ) (m : Machine) → P m → P (waits call k m)
  waits_keep None k m h = h
  waits_keep (Some call) k m h =
      elim (may_wait call) as (λ b. P (if b then record m { late = remove m.late k; waiting = m.waiting ++ call ∷ [] } else m)) [
        | true ↦ kept.waits (m.waiting ++ call ∷ []) (record m { late = remove m.late k }) (kept.lates (remove m.late k) m h)
        | false ↦ h
      ]

  swept_keeps : (p : Path) (m : Machine) → P m → P (swept p m)
  swept_keeps p m h = elim (is_removed m.moment (at m.plain.tree) p) as (λ b. P (if b then with_rows (result_unwrap_or (remove_rows m.plain.tree p) m.plain.tree) m else m)) [ true ↦ kept.rows (result_unwrap_or (remove_rows m.plain.tree p) m.plain.tree) m h | false ↦ h ]

  paid_keeps : (size : ℕ) (payment : Payment) (m : Machine) → P m → P (paid size payment m)
  paid_keeps size (Settles p index k) m h = settles_keep size _ p index k m h
  paid_keeps size (Ends k) m h = ends_keep _ k m h
  paid_keeps size (Comes k) m h = comes_keep _ k m h
  paid_keeps size (Waits k) m h = waits_keep _ k m h
  paid_keeps size (Sweeps p) m h = elim (list_any is_scan m.late) as (λ b. P (if b then swept p m else m)) [ true ↦ swept_keeps p m h | false ↦ h ]

  each_keeps : (size : ℕ) (payments : List Payment) (m : Machine) → P m → P (paid_each size payments m)
  each_keeps size [] m h = h
  each_keeps size (payment ∷ payments) m h = each_keeps size payments (paid size payment m) (paid_keeps size payment m h)

  now_keeps : (size : ℕ) (payments : List Payment) (m : Machine) → P m → P (paid_now size payments m)
  now_keeps size payments m h = each_keeps size (filter is_undelivered payments) m h

  put_off_keeps : {A : Type 0} (MayBeSo : Machine → Type 0) → ((n : Machine) → MayBeSo n → P n) → (old new : Machine) (result : Result A Refusal) → P old → IsPutOff MayBeSo old result new → P new
  put_off_keeps MayBeSo may old new result h (refusal, is, inl (store, same)) = subst P (sym same) h
  put_off_keeps MayBeSo may old new result h (refusal, is, inr (unsure, so)) = may new so

  swept_each_keeps : (paths : List Path) (m : Machine) → P m → P (swept_each paths m)
  swept_each_keeps [] m h = h
  swept_each_keeps (p ∷ paths) m h = swept_each_keeps paths (swept p m) (swept_keeps p m h)

  done_or_late : (call : Call) (old new : Machine) → P old → (new ≡ record old { late = old.late ++ call ∷ [] }) ⊎ ((new ≡ overtaking call [] (called call old)) ⊎ ((may_wait call ≡ true) × (new ≡ record old { waiting = old.waiting ++ call ∷ [] }))) → P new
  done_or_late call old new h (inl same) = subst P (sym same) (kept.lates (old.late ++ call ∷ []) old h)
  done_or_late call old new h (inr (inl same)) = subst P (sym same) (overtaking_keeps call [] (called call old).0 (called call old).1 (kept.calls call old h))
  done_or_late call old new h (inr (inr (may, same))) = subst P (sym same) (kept.waits (old.waiting ++ call ∷ []) old h)

  may_be_done_keeps : (call : Call) (old new : Machine) → P old → MayBeDone call old new → P new
  may_be_done_keeps (calls.List p) old new h same = subst P (sym same) h
  may_be_done_keeps calls.Query old new h same = subst P (sym same) h
  may_be_done_keeps calls.Scan old new h (inl same) = subst P (sym same) (kept.lates (old.late ++ calls.Scan ∷ []) old h)
  may_be_done_keeps calls.Scan old new h (inr (inl same)) = subst P (sym same) (kept.calls calls.Scan old h)
  may_be_done_keeps calls.Scan old new h (inr (inr (paths, same))) = subst P (sym same) (swept_each_keeps paths old h)
  may_be_done_keeps call old new h may = done_or_late call old new h may

  asks_now_keeps : (call : Call) (old new : Machine) (said : Result Said Refusal) → P old → AsksNow call old said new → P new
  asks_now_keeps call old new said h (inl (is, same)) = subst P (sym same) (kept.calls call old h)
  asks_now_keeps call old new said h (inr off) = put_off_keeps (MayBeDone call old) (λ n may. may_be_done_keeps call old n h may) old new said h off

  asks_keep : (size : ℕ) (call : Call) (old new : Machine) (said : Result Said Refusal) → P old → Asks size call old said new → P new
  asks_keep size call old new said h (payments, asks) = asks_now_keeps call (paid_now size payments old) new said (now_keeps size payments old h) asks

  asks_one_keeps : (size : ℕ) (call : Call) (old new : Machine) (answer : Result Answer Refusal) → P old → AsksOne size call old answer new → P new
  asks_one_keeps size call old new answer h (said, asks, is) = asks_keep size call old new said h asks

  behind_keeps : (call : Call) (said : Result Said Refusal) (m : Machine) → P m → P (overtaken call (said, m))
  behind_keeps (calls.List p) said m h = h
  behind_keeps call said m h = overtaking_keeps call [] said m h

  asks_tree_keeps : (size : ℕ) (call : Result Call Refusal) (old new : Machine) (answer : Result Answer Refusal) → P old → AsksTree size call old answer new → P new
  asks_tree_keeps size (Err refusal) old new answer h (is, same) = subst P (sym same) h
  asks_tree_keeps size (Ok call) old new answer h (said, mid, asks, is, same) = subst P (sym same) (behind_keeps call said mid (asks_keep size call old mid said h asks))

  asks_both_keeps : (size : ℕ) (begin commit : Call) (old new : Machine) (answer : Result Answer Refusal) → P old → AsksBoth size begin commit old answer new → P new
  asks_both_keeps size begin commit old new answer h (inl (refusal, asks, is)) = asks_keep size begin old new (Err refusal) h asks
  asks_both_keeps size begin commit old new answer h (inr (said, begun, asks, one)) = asks_one_keeps size commit begun new answer (asks_keep size begin old begun (Ok said) h asks) one

  gives_up_keeps : (size : ℕ) (old new : Machine) (answer : Result Answer Refusal) → P old → GivesUp size answer old new → P new
  gives_up_keeps size old new (Ok answer) h same = subst P (sym same) h
  gives_up_keeps size old new (Err refusal) h gives =
      either_way {A = (said : Result Said Refusal) × Asks size calls.PrepareAbort old said new} {B = new ≡ old} (is_unquiet refusal) (λ asked. asks_keep size calls.PrepareAbort old new asked.0 h asked.1) (λ same. subst P (sym same) h) gives

  upgrades_keep : (size : ℕ) (upgrade : Upgrade) (old new : Machine) (answer : Result Answer Refusal) → P old → Upgrades size upgrade old answer new → P new
  upgrades_keep size upgrades.Query old new answer h asks = asks_one_keeps size calls.Query old new answer h asks
  upgrades_keep size upgrades.Prepare old new answer h (mid, both, gives) = gives_up_keeps size mid new answer (asks_both_keeps size calls.PrepareBegin calls.PrepareCommit old mid answer h both) gives
  upgrades_keep size upgrades.Finalize old new answer h asks = asks_one_keeps size calls.Finalize old new answer h asks
  upgrades_keep size upgrades.Rollback old new answer h both = asks_both_keeps size calls.RollbackBegin calls.RollbackCommit old new answer h both

  -- what is done with what is found keeps it
  abbrev Keeps : (Path → Option (Entry Text) → Machine → Result Answer Refusal → Machine → Type 0) → Type 0
  Keeps Does = (p : Path) (found : Option (Entry Text)) (old new : Machine) (answer : Result Answer Refusal) → P old → Does p found old answer new → P new

  on_path_keeps : (size : ℕ) (path : Result Path Refusal) (Does : Path → Option (Entry Text) → Machine → Result Answer Refusal → Machine → Type 0) → Keeps Does → (old new : Machine) (answer : Result Answer Refusal) → P old → OnPath size path Does old answer new → P new
  on_path_keeps size (Err refusal) Does keeps old new answer h (is, same) = subst P (sym same) h
  on_path_keeps size (Ok p) Does keeps old new answer h (payments, now, is, inl (refusal, e, store, same)) = subst P (sym same) (subst P (sym is) (now_keeps size payments old h))
  on_path_keeps size (Ok p) Does keeps old new answer h (payments, now, is, inr (free, does)) = keeps p (at now.plain.tree p) now new answer (subst P (sym is) (now_keeps size payments old h)) does

  stats_keep : (size : ℕ) → Keeps (Stats size)
  stats_keep size p None old new answer h (e, same) = subst P (sym same) h
  stats_keep size p (Some Dir) old new answer h (e, same) = subst P (sym same) h
  stats_keep size p (Some (File texts)) old new answer h (picks, chunks, long, e, same) = subst P (sym same) h

  reads_keep : (size offset many : ℕ) → Keeps (OfFile (Reads size offset many))
  reads_keep size offset many p None old new answer h (e, same) = subst P (sym same) h
  reads_keep size offset many p (Some Dir) old new answer h (e, same) = subst P (sym same) h
  reads_keep size offset many p (Some (File texts)) old new answer h (first, second, e, same) = subst P (sym same) h

  digests_keep : (size block chunk index : ℕ) → Keeps (OfFile (Digests size block chunk index))
  digests_keep size block chunk index p None old new answer h (e, same) = subst P (sym same) h
  digests_keep size block chunk index p (Some Dir) old new answer h (e, same) = subst P (sym same) h
  digests_keep size block chunk index p (Some (File texts)) old new answer h (picks, e, same) = subst P (sym same) h

  done_keeps : (size : ℕ) (part : Part) (m : Machine) → P m → P (done size part m)
  done_keeps size (Adds p index) m h = kept.calls (calls.Extend p index) m h
  done_keeps size (Edits p index edit) m h = kept.rows (done size (Edits p index edit) m).plain.tree m h

  may_be_keeps : (part : Part) (old new : Machine) → P old → MayBe part old new → P new
  may_be_keeps (Adds p index) old new h may = may_be_done_keeps (calls.Extend p index) old new h may
  may_be_keeps (Edits p index edit) old new h same = subst P (sym same) (place_keeps p index (λ text. record text { owed = text.owed ++ edit ∷ [] }) old h)

  does_each_keeps : (size : ℕ) (parts : List Part) (old new : Machine) (answer : Result Answer Refusal) → P old → DoesEach size parts old answer new → P new
  does_each_keeps size [] old new answer h (e, same) = subst P (sym same) h
  does_each_keeps size (part ∷ parts) old new answer h (payments, now, is, inl off) =
      let at_now = subst P (sym is) (now_keeps size payments old h) in
      put_off_keeps (MayBe part now) (λ n may. may_be_keeps part now n at_now may) now new answer at_now off
  does_each_keeps size (part ∷ parts) old new answer h (payments, now, is, inr (free, rest)) =
      does_each_keeps size parts (done size part now) new answer (done_keeps size part now (subst P (sym is) (now_keeps size payments old h))) rest

  writes_keep : (size offset : ℕ) (bytes : List ℕ) → Keeps (OfFile (Writes size offset bytes))
  writes_keep size offset bytes p None old new answer h (e, same) = subst P (sym same) h
  writes_keep size offset bytes p (Some Dir) old new answer h (e, same) = subst P (sym same) h
  writes_keep size offset bytes p (Some (File texts)) old new answer h writes =
      either_way {A = (answer ≡ Err refusals.Range) × (new ≡ old)} {B = DoesEach size (parts_of size p (length texts) offset bytes) old answer new} (is_out size offset bytes) (λ out. subst P (sym out.1) h)
      (λ each. does_each_keeps size (parts_of size p (length texts) offset bytes) old new answer h each) writes

  lands_or_keeps : (size : ℕ) (p : Path) (bytes : List ℕ) (index : ℕ) (GoesOn : Machine → Type 0) (old new : Machine) (answer : Result Answer Refusal)
      → (P (done size (Edits p index (machines.Append bytes)) old) → GoesOn (done size (Edits p index (machines.Append bytes)) old) → P new) → P old → LandsOr size p bytes index GoesOn old answer new → P new
  lands_or_keeps size p bytes index GoesOn old new answer goes h lands =
      let behind_it = done_keeps size (Edits p index (machines.Append bytes)) old h in
      either_way {A = (answer ≡ Ok (answers.Number _)) × (new ≡ done size (Edits p index (machines.Append bytes)) old)} {B = GoesOn (done size (Edits p index (machines.Append bytes)) old)} (fits size bytes (text_at p index old).bytes)
      (λ landed. subst P (sym landed.1) behind_it) (goes behind_it) lands

  lands_keep : (size : ℕ) (p : Path) (bytes : List ℕ) (more index : ℕ) (old new : Machine) (answer : Result Answer Refusal) → P old → Lands size p bytes more index old answer new → P new
  lands_keep size p bytes zero index old new answer h (e, same) = subst P (sym same) h
  lands_keep size p bytes (suc more) index old new answer h (payments, now, is, inl off) =
      let at_now = subst P (sym is) (now_keeps size payments old h) in
      put_off_keeps (MayBe (Adds p index) now) (λ n may. may_be_keeps (Adds p index) now n at_now may) now new answer at_now off
  lands_keep size p bytes (suc more) index old new answer h (payments, now, is, inr (free, paying, grown, grows, choice)) =
      let at_grown = subst P (sym grows) (now_keeps size paying (done size (Adds p index) now) (done_keeps size (Adds p index) now (subst P (sym is) (now_keeps size payments old h)))) in
      either_way {A = ((answer ≡ Err refusals.TooLong) × (new ≡ grown)) ⊎ IsPutOff (λ n. n ≡ grown) grown answer new}
      {B = IsPutOff (MayBe (Edits p index (machines.Append bytes)) grown) grown answer new ⊎ LandsOrPasses size p bytes index (λ n. Lands size p bytes more (index + 1) n answer new) grown answer new} (is_too_long size bytes)
      (λ long. elim long [ inl refused ↦ subst P (sym refused.1) at_grown | inr off ↦ put_off_keeps (λ n. n ≡ grown) (λ n same. subst P (sym same) at_grown) grown new answer at_grown off ])
      (λ fitting. elim fitting [
        | inl off ↦ put_off_keeps (MayBe (Edits p index (machines.Append bytes)) grown) (λ n may. may_be_keeps (Edits p index (machines.Append bytes)) grown n at_grown may) grown new answer at_grown off
        | inr (inr (full, on)) ↦ lands_keep size p bytes more (index + 1) grown new answer at_grown on
        | inr (inl lands) ↦ lands_or_keeps size p bytes index (λ n. Lands size p bytes more (index + 1) n answer new) grown new answer (λ at_it on. lands_keep size p bytes more (index + 1) (done size (Edits p index (machines.Append bytes)) grown) new answer at_it on) at_grown lands
      ])
      choice

  appends_keep : (size : ℕ) (bytes : List ℕ) → Keeps (OfFile (Appends size bytes))
  appends_keep size bytes p None old new answer h (e, same) = subst P (sym same) h
  appends_keep size bytes p (Some Dir) old new answer h (e, same) = subst P (sym same) h
  appends_keep size bytes p (Some (File texts)) old new answer h lands =
      either_way {A = (answer ≡ Err refusals.Range) × (new ≡ old)} {B = Lands size p bytes (most_chunks - (length texts - 1)) (length texts - 1) old answer new} (length bytes == 0) (λ out. subst P (sym out.1) h)
      (λ landing. lands_keep size p bytes (most_chunks - (length texts - 1)) (length texts - 1) old new answer h landing) lands

  passes_keep : (size : ℕ) (old new : Machine) → P old → Passes size old new → P new
  passes_keep size old new h (payments, same) = subst P (sym same) (now_keeps size payments old h)

  begins_anew_keeps : (old new : Machine) (answer : Result Answer Refusal) → P old → BeginsAnew old answer new → P new
  begins_anew_keeps old new (Ok answer) h same = subst P (sym same) (kept.anews old h)
  begins_anew_keeps old new (Err refusal) h (inl same) = subst P (sym same) (kept.anews old h)
  begins_anew_keeps old new (Err refusal) h (inr (store, same)) = subst P (sym same) h

  leads_by_keeps : (size block : ℕ) (call : Option (Result Call Refusal)) (request : Request) (old new : Machine) (answer : Result Answer Refusal) → P old → LeadsBy size block call request old answer new → P new
  leads_by_keeps size block (Some call) request old new answer h leads = asks_tree_keeps size call old new answer h leads
  leads_by_keeps size block None (lines.Stat p) old new answer h leads = on_path_keeps size (parse_hidden p) (Stats size) (stats_keep size) old new answer h leads
  leads_by_keeps size block None (lines.Read p offset many) old new answer h leads = on_path_keeps size (parse_hidden p) (OfFile (Reads size offset many)) (reads_keep size offset many) old new answer h leads
  leads_by_keeps size block None (lines.Digest p chunk index) old new answer h leads = on_path_keeps size (parse_hidden p) (OfFile (Digests size block chunk index)) (digests_keep size block chunk index) old new answer h leads
  leads_by_keeps size block None (lines.Write p offset bytes) old new answer h leads = on_path_keeps size (parse p) (OfFile (Writes size offset bytes)) (writes_keep size offset bytes) old new answer h leads
  leads_by_keeps size block None (lines.Append p bytes) old new answer h leads = on_path_keeps size (parse p) (OfFile (Appends size bytes)) (appends_keep size bytes) old new answer h leads
  leads_by_keeps size block None lines.Scan old new answer h leads = asks_one_keeps size calls.Scan old new answer h leads
  leads_by_keeps size block None (lines.RollingUpgrade upgrade) old new answer h leads = upgrades_keep size upgrade old new answer h leads
  leads_by_keeps size block None (lines.Step step) old new answer h leads = asks_one_keeps size (step_of step) old new answer h leads
  leads_by_keeps size block None (lines.At moment) old new answer h (now, passes, is, same) = subst P (sym same) (kept.moments moment now (passes_keep size old now h passes))
  leads_by_keeps size block None (lines.Restart restarted.Master) old new answer h (now, passes, begins) = begins_anew_keeps now new answer (passes_keep size old now h passes) begins
  leads_by_keeps size block None (lines.Deliver number) old new answer h (payments, same) = subst P (sym same) (each_keeps size payments old h)
  leads_by_keeps size block None request old new answer h passes = passes_keep size old new h passes

  comes_to_keeps : (size block : ℕ) (asked : Option Request) (old new : Machine) (text : List ℕ) → P old → ComesTo size block asked old text new → P new
  comes_to_keeps size block None old new text h (is, same) = subst P (sym same) h
  comes_to_keeps size block (Some request) old new text h (inl (is, same)) = subst P (sym same) h
  comes_to_keeps size block (Some request) old new text h (inr (answer, leads, is)) = leads_by_keeps size block (call_of request) request old new answer h leads

  pub runs_keep : (size block : ℕ) (all texts : List (List ℕ)) (old new : Machine) → P old → Runs (Explains size block) old all texts new → P new
  runs_keep size block [] [] old new h same = subst P (sym same) h
  runs_keep size block [] (text ∷ texts) old new h never = absurd never
  runs_keep size block (line ∷ all) [] old new h never = absurd never
  runs_keep size block (line ∷ all) (text ∷ texts) old new h (mid, answers, rest) = runs_keep size block all texts mid new (comes_to_keeps size block (asked_in line) old mid text h (comes_to size block old mid line text answers)) rest

  -- what is asked of the master keeps it
  pub asked_keeps : (size : ℕ) (call : Call) (old new : Machine) (said : Result Said Refusal) → P old → Asks size call old said new → P new
  asked_keeps size call old new said h asks = asks_keep size call old new said h asks

  pub payments_keep : (size : ℕ) (payments : List Payment) (m : Machine) → P m → P (paid_now size payments m)
  payments_keep size payments m h = now_keeps size payments m h
