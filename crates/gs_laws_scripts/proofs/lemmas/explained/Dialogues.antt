-- What the client's lines of files come to: each opens its file, and goes on as the relation says.
use Rattle.std.proofs.Common.{arith, ap, inl, inr, subst, sym, ◌∙◌}
use Rattle.std.proofs.lemmas.Bool.Decides.{nat_tests}
use Rattle.std.specs.Prelude.{[], ◌*◌, ◌++◌, ◌+◌, ◌-◌, ◌==◌, ◌≡◌, ◌≤◌, ◌⊎◌, Bool, Err, List, MatchBool, None, Ok, Option, Result, Some, false, if◌then◌else◌, length, nat_le, nat_lt, refl, suc, true, zero, ℕ}
use Rattle.gs_base.specs.declared.refusal.Refusal.{Refusal}
use Rattle.gs_base.specs.declared.refusal.Refusal.TheVariants as refusals
use Rattle.gs_client.specs.Files.{open_call, opened_with}
use Rattle.gs_client.specs.Looking.{count_in}
use Rattle.gs_client.specs.Opened.{File as Opened}
use Rattle.gs_client.specs.Replies.{chunks_in as chunks_of, looked, status_in}
use Rattle.gs_client.specs.Trees.{Call, and_then}
use Rattle.gs_client.specs.Writing.{append_call, append_from, extend_call, extends_call, landed, part_call}
use Rattle.gs_client.specs.declared.link.Reply.{Reply}
use Rattle.gs_client_dialogue.specs.Dialogues.{FollowsDialogue, Say, both, onward, upon}
use Rattle.gs_client_part.specs.Writing.{most_chunks}
use Rattle.gs_client_part.specs.declared.located.Located.{Located}
use Rattle.gs_msg.specs.declared.answer.Answer.{Answer as Said}
use Rattle.gs_msg.specs.declared.answer.Answer.TheVariants as says
use Rattle.gs_msg.specs.declared.answer.ChunkStatus.{ChunkStatus}
use Rattle.gs_msg.specs.declared.answer.Status.{Status}
use Rattle.gs_msg.specs.declared.answer.Status.TheVariants as statuses
use Rattle.gs_msg.specs.declared.event.Request.{Request}
use Rattle.gs_msg.specs.declared.op.Op.TheVariants as ops
use Rattle.gs_path.specs.Path.{Path}
use Rattle.gs_path.specs.Rules.{parse}
use Rattle.gs_replica.specs.declared.op.EditOutcome.{EditOutcome}
use Rattle.gs_replica.specs.declared.op.EditOutcome.TheVariants as outcomes
use Rattle.gs_shell_calls.specs.Asked as asked
use Rattle.gs_shell_calls.specs.declared.answer.Answer.{Answer}
use Rattle.gs_shell_calls.specs.declared.answer.Answer.TheVariants as answers
use Rattle.gs_tree.specs.Entry.{Dir, Entry, File}
use Rattle.gs_tree.specs.Find.{at}
use Rattle.gs_laws_scripts.specs.explained.Lines.{Adds, Appends, Edits, IsNoLook, IsOfStore, IsPutOff, Lands, MayBe, OfFile, OnPath, Writes, done, is_too_long, LandsOrPasses}
use Rattle.gs_laws_scripts.specs.explained.Machine.{Machine, Payment, Text, fits, is_preparing, is_rolling, paid_now, text_at}
use Rattle.gs_laws_scripts.specs.explained.Machine as machines
use Rattle.gs_laws_scripts.specs.explained.Told.{AppendsAreExplained, IsLeft, Pays, TellsEdited, TellsStatus, WritesAreExplained}
use Rattle.gs_laws_scripts.proofs.lemmas.explained.Following.{Follows, PartIs, Step, both_splits, extend_is, is_append, is_there, paid_both, part_is, plain_splits, says_follow, write_does}

-- ---- a file is opened

pub no_more : (m n : ℕ) → m ≤ n → nat_le m n ≡ true
no_more m n below = grind (arith, nat_tests)

abbrev pub NoFile : Refusal → Option (Entry Text) → Type 0
NoFile e None = e ≡ refusals.NotFound
NoFile e (Some Dir) = e ≡ refusals.IsADirectory
NoFile e (Some (File texts)) = ⊥

-- what an opened file is of what stands
abbrev pub IsOpened : Path → Machine → Result Opened Refusal → Type 0
IsOpened p now (Ok file) = (is_rolling now.phase ≡ false) × (texts : List Text) × (at now.plain.tree p ≡ Some (File texts)) × (length texts ≤ most_chunks) × (file ≡ opened_with p (length texts))
IsOpened p now (Err e) = IsNoLook e ⊎ ((is_rolling now.phase ≡ false) × NoFile e (at now.plain.tree p))

module _ (carries : Machine → Request → Reply → Machine → Type 0) (p : Path) where
  abbrev pub on_chunks : List ChunkStatus → Call ℕ
  on_chunks chunks = Say (count_in chunks)

  abbrev pub on_status : Status → Call ℕ
  on_status status = both (Say (chunks_of status)) on_chunks

  abbrev pub on_count : ℕ → Call Opened
  on_count chunks = Say (Ok (opened_with p chunks))

  pub in_status : (now : Machine) (said : Result Said Refusal) → TellsStatus now p said → (m : Machine) (r : Result Opened Refusal) (mid : Machine) → FollowsDialogue carries (upon (onward on_status (and_then status_in said)) (onward on_count)) m r mid → IsOpened p now r × (mid ≡ m)
  in_status now (Ok (says.Status statuses.Directory)) (free, dir) m r mid h = (subst (IsOpened p now) (sym h.0) (inr (free, subst (NoFile refusals.IsADirectory) (sym dir) refl)), h.1)
  in_status now (Ok (says.Status (statuses.File chunks))) (free, texts, is, long, most) m r mid h =
      let some : nat_le (length chunks) most_chunks ≡ true = no_more (length chunks) most_chunks (subst (λ n. n ≤ most_chunks) (sym long) most) in
      let goes = subst (λ b. FollowsDialogue carries (onward on_count (if b then Ok (length chunks) else Err refusals.Stray)) m r mid) some h in
      (subst (IsOpened p now) (sym goes.0) (free, texts, is, most, ap (opened_with p) long), goes.1)
  in_status now (Ok said) tells m r mid h = absurd tells
  in_status now (Err e) (inl store) m r mid h = (subst (IsOpened p now) (sym h.0) (inl store), h.1)
  in_status now (Err e) (inr (none, free, is)) m r mid h = (subst (IsOpened p now) (sym h.0) (inr (free, subst (NoFile e) (sym is) none)), h.1)

module _ (size : ℕ) (places : ℕ → Path × ℕ) where
  abbrev Opens : Path → Machine → Result Opened Refusal → Machine → Type 0
  Opens p old r mid = (payments : List Payment) × (now : Machine) × (now ≡ paid_now size payments old) × (mid ≡ now) × IsOpened p now r

  opens : (p : Path) (old : Machine) (r : Result Opened Refusal) (mid : Machine) → Follows size places (open_call p) old r mid → Opens p old r mid
  opens p old r mid (inl (reply, m, (payments, (tells, same)), rest)) =
      let s = in_status (Pays size places) p (paid_now size payments old) (looked reply) tells m r mid rest in (payments, paid_now size payments old, refl, s.1 ∙ same, s.0)
  opens p old r mid (inr refused) = ([], old, refl, refused.1, subst (IsOpened p old) (sym refused.0) (inl (inl refl)))

  pub no_file : (Does : Path → List Text → Machine → Result Answer Refusal → Machine → Type 0) (p : Path) (now : Machine) (answer : Result Answer Refusal) (new : Machine) (e : Refusal) → answer ≡ Err e → new ≡ now → (found : Option (Entry Text)) → NoFile e found → OfFile Does p found now answer new
  no_file Does p now answer new e is same None none = (is ∙ ap (λ x. Err x) none, same)
  no_file Does p now answer new e is same (Some Dir) dir = (is ∙ ap (λ x. Err x) dir, same)
  no_file Does p now answer new e is same (Some (File texts)) wrong = absurd wrong

  -- a line of a file
  file_line : {A : Type 0} (p : Path) (call : Opened → Call A) (answer : A → Answer) (Does : Path → List Text → Machine → Result Answer Refusal → Machine → Type 0)
      → ((texts : List Text) (now : Machine) (r : Result A Refusal) (new : Machine) → length texts ≤ most_chunks → Follows size places (call (opened_with p (length texts))) now r new → Does p texts now (asked.answered answer r) new)
      → (old : Machine) (y : Result Answer Refusal) (new : Machine) → Follows size places (asked.on (Ok p) (asked.with_file call) answer) old y new → OnPath size (Ok p) (OfFile Does) old y new
  file_line {A} p call answer Does does old y new (inr refused) = ([], old, refl, inl (refusals.Memory, refused.0, inl refl, refused.1))
  file_line {A} p call answer Does does old y new (inl goes) =
      let s = plain_splits (Pays size places) (both (open_call p) call) answer old new y goes in
      let o = both_splits (Pays size places) (open_call p) call old new s.0 s.2 in
      by_open s.0 s.1 o.0 o.1 (opens p old o.0 o.1 o.2) o.3
    where
      by_open : (r : Result A Refusal) → y ≡ asked.answered answer r → (x : Result Opened Refusal) (mid : Machine) → Opens p old x mid → Follows size places (onward call x) mid r new → OnPath size (Ok p) (OfFile Does) old y new
      by_open r is (Ok file) mid (payments, now, paid, same, (free, texts, found, most, opened)) rest =
          let here = subst (λ f. Follows size places (call f) now r new) opened (subst (λ m. Follows size places (call file) m r new) same rest) in
          (payments, now, paid, inr (free, subst (λ entry. OfFile Does p entry now y new) (sym found) (subst (λ a. Does p texts now a new) (sym is) (does texts now r new most here))))
      by_open r is (Err e) mid (payments, now, paid, same, inl store) rest = (payments, now, paid, inl (e, is ∙ ap (asked.answered answer) rest.0, store, rest.1 ∙ same))
      by_open r is (Err e) mid (payments, now, paid, same, inr (free, none)) rest = (payments, now, paid, inr (free, no_file Does p now y new e (is ∙ ap (asked.answered answer) rest.0) (rest.1 ∙ same) (at now.plain.tree p) none))

  -- ---- a record

  below_size : (text many : ℕ) → nat_le (text + many) size ≡ true → (many == 0) ≡ false → nat_lt text size ≡ true
  below_size text many fit some = grind (arith, nat_tests)

  module _ (p : Path) (bytes : List ℕ) (some : (length bytes == 0) ≡ false) where
    abbrev told : Result ℕ Refusal → Result Answer Refusal
    told r = asked.answered answers.Number r

    abbrev OverIs : Machine → Result Answer Refusal → Machine → Type 0
    OverIs grown answer new = ((answer ≡ Err refusals.TooLong) × (new ≡ grown)) ⊎ IsPutOff (λ made. made ≡ grown) grown answer new

    abbrev ShortIs : ℕ → ℕ → Machine → Result Answer Refusal → Machine → Type 0
    ShortIs more index grown answer new = IsPutOff (MayBe (Edits p index (machines.Append bytes)) grown) grown answer new ⊎ LandsOrPasses size p bytes index (λ next. Lands size p bytes more (index + 1) next answer new) grown answer new

    -- where the chunk is there
    abbrev LandsAt : ℕ → ℕ → Machine → Result Answer Refusal → Machine → Type 0
    LandsAt more index grown answer new = MatchBool (is_too_long size bytes) (OverIs grown answer new) (ShortIs more index grown answer new)

    abbrev Rests : ℕ → ℕ → Machine → Result Answer Refusal → Machine → Type 0
    Rests more index m answer new = (behind : List Payment) × (grown : Machine) × (grown ≡ paid_now size behind m) × LandsAt more index grown answer new

    refused_at : (more index : ℕ) (grown : Machine) (answer : Result Answer Refusal) (new : Machine) (e : Refusal) → answer ≡ Err e → IsOfStore e → new ≡ grown → LandsAt more index grown answer new
    refused_at more index grown answer new e is store same = by_test (is_too_long size bytes)
      where
        by_test : (b : Bool) → MatchBool b (OverIs grown answer new) (ShortIs more index grown answer new)
        by_test true = inr (e, is, inl (store, same))
        by_test false = inl (e, is, inl (store, same))

    left_at : (more index : ℕ) (grown mid new : Machine) (answer : Result Answer Refusal) (e : Refusal) → answer ≡ Err e → new ≡ mid → TellsEdited size grown p index (machines.Append bytes) (Err e) mid → LandsAt more index grown answer new
    left_at more index grown mid new answer e is same tells = by_test (is_too_long size bytes) tells
      where
        by_test : (b : Bool) → MatchBool b (((e ≡ refusals.TooLong) × (mid ≡ grown)) ⊎ IsLeft (λ made. made ≡ grown) grown e mid) (IsLeft (MayBe (Edits p index (machines.Append bytes)) grown) grown e mid) → MatchBool b (OverIs grown answer new) (ShortIs more index grown answer new)
        by_test true (inl (long, kept)) = inl (is ∙ ap (λ x. Err x) long, same ∙ kept)
        by_test true (inr left) = inr (e, is, subst (λ m. IsLeft (λ made. made ≡ grown) grown e m) (sym same) left)
        by_test false left = inl (e, is, subst (λ m. IsLeft (MayBe (Edits p index (machines.Append bytes)) grown) grown e m) (sym same) left)

    short_at : (more index : ℕ) (grown : Machine) (answer : Result Answer Refusal) (new : Machine) → is_too_long size bytes ≡ false → ShortIs more index grown answer new → LandsAt more index grown answer new
    short_at more index grown answer new short is = subst (λ b. MatchBool b (OverIs grown answer new) (ShortIs more index grown answer new)) (sym short) is

    tried_lands : (more index : ℕ) (next : Call ℕ) (grown mid : Machine) (x : Result EditOutcome Refusal) (r : Result ℕ Refusal) (new : Machine) → TellsEdited size grown p index (machines.Append bytes) x mid → Follows size places (onward (landed size index next) x) mid r new
        → ((m : Machine) → Follows size places next m r new → Lands size p bytes more (index + 1) m (told r) new) → LandsAt more index grown (told r) new
    tried_lands more index next grown mid (Err e) r new tells rest goes = left_at more index grown mid new (told r) e (ap told rest.0) rest.1 tells
    tried_lands more index next grown mid (Ok (outcomes.Appended offset)) r new (free, inl ((short, fit, place), same)) rest goes =
        let text : List ℕ = (text_at p index grown).bytes in
        let below : nat_lt offset size ≡ true = subst (λ n. nat_lt n size ≡ true) (sym place) (below_size (length text) (length bytes) fit some) in
        let is : r ≡ Ok (index * size + length text) = rest.0 ∙ ap (λ b. if b then Ok (index * size + offset) else Err refusals.Stray) below ∙ ap (λ n. Ok (index * size + n)) place in
        short_at more index grown (told r) new short (inr (inl (subst
        (λ b. MatchBool b ((told r ≡ Ok (answers.Number (index * size + length text))) × (new ≡ done size (Edits p index (machines.Append bytes)) grown)) (Lands size p bytes more (index + 1) (done size (Edits p index (machines.Append bytes)) grown) (told r) new))
        (sym fit) (ap told is, rest.1 ∙ same))))
    tried_lands more index next grown mid (Ok outcomes.Padded) r new (free, inl ((short, full), same)) rest goes =
        let text : List ℕ = (text_at p index grown).bytes in
        short_at more index grown (told r) new short (inr (inl (subst
        (λ b. MatchBool b ((told r ≡ Ok (answers.Number (index * size + length text))) × (new ≡ done size (Edits p index (machines.Append bytes)) grown)) (Lands size p bytes more (index + 1) (done size (Edits p index (machines.Append bytes)) grown) (told r) new))
        (sym full) (goes (done size (Edits p index (machines.Append bytes)) grown) (subst (λ m. Follows size places next m r new) same rest)))))
    tried_lands more index next grown mid (Ok outcomes.Written) r new (free, inl (wrong, same)) rest goes = absurd wrong
    tried_lands more index next grown mid (Ok outcomes.Written) r new (free, inr (wrong, same)) rest goes = absurd wrong
    tried_lands more index next grown mid (Ok (outcomes.Appended offset)) r new (free, inr (wrong, same)) rest goes = absurd wrong
    tried_lands more index next grown mid (Ok outcomes.Padded) r new (free, inr ((short, full), same)) rest goes =
        short_at more index grown (told r) new short (inr (inr (full, goes grown (subst (λ m. Follows size places next m r new) same rest))))

    -- after an addition,
    rests_of : (more index : ℕ) (next : Call ℕ) (old mid : Machine) (x : Result EditOutcome Refusal) (r : Result ℕ Refusal) (new : Machine) → PartIs size places p index (machines.Append bytes) old x mid → Follows size places (onward (landed size index next) x) mid r new
        → ((m : Machine) → Follows size places next m r new → Lands size p bytes more (index + 1) m (told r) new) → Rests more index old (told r) new
    rests_of more index next old mid x r new (payments, now, is, inl (e, refused, store, same)) rest goes =
        let last = subst (λ y. Follows size places (onward (landed size index next) y) mid r new) refused rest in
        (payments, now, is, refused_at more index now (told r) new e (ap told last.0) store (last.1 ∙ same))
    rests_of more index next old mid x r new (payments, now, is, inr (free, there, (behind, grown, second, tells))) rest goes =
        (payments ++ behind, grown, paid_both size payments behind old now grown is second, tried_lands more index next grown mid x r new tells rest goes)

    -- and where none is asked for
    lands_of : (more index : ℕ) (next : Call ℕ) (old mid : Machine) (x : Result EditOutcome Refusal) (r : Result ℕ Refusal) (new : Machine) → PartIs size places p index (machines.Append bytes) old x mid → Follows size places (onward (landed size index next) x) mid r new
        → ((m : Machine) → Follows size places next m r new → Lands size p bytes more (index + 1) m (told r) new) → Lands size p bytes (suc more) index old (told r) new
    lands_of more index next old mid x r new (payments, now, is, inl (e, refused, store, same)) rest goes =
        let last = subst (λ y. Follows size places (onward (landed size index next) y) mid r new) refused rest in
        (payments, now, is, inl (e, ap told last.0, inl (store, last.1 ∙ same)))
    lands_of more index next old mid x r new (payments, now, is, inr (free, there, (behind, grown, second, tells))) rest goes =
        (payments, now, is, inr (free, behind, grown, second ∙ ap (paid_now size behind) (sym (is_there size p index now there)), tried_lands more index next grown mid x r new tells rest goes))

    -- what comes where a chunk was filled up
    abbrev next_of : ℕ → ℕ → Call ℕ
    next_of index zero = Say (Err refusals.Range)
    next_of index (suc more) = both (extend_call p (index + 1)) (λ l. append_from size p bytes (index + 1) more)

    append_splits : (index more : ℕ) (old : Machine) (r : Result ℕ Refusal) (new : Machine) → Follows size places (append_from size p bytes index more) old r new
        → (x : Result EditOutcome Refusal) × (mid : Machine) × PartIs size places p index (machines.Append bytes) old x mid × Follows size places (onward (landed size index (next_of index more)) x) mid r new
    append_splits index zero old r new h =
        let s = both_splits (Pays size places) (part_call p index (ops.Append (length bytes)) bytes) (landed size index (next_of index zero)) old new r h in
        (s.0, s.1, part_is size places p index (ops.Append (length bytes)) bytes (machines.Append bytes) (is_append size places (length bytes) bytes) old s.0 s.1 s.2, s.3)
    append_splits index (suc more) old r new h =
        let s = both_splits (Pays size places) (part_call p index (ops.Append (length bytes)) bytes) (landed size index (next_of index (suc more))) old new r h in
        (s.0, s.1, part_is size places p index (ops.Append (length bytes)) bytes (machines.Append bytes) (is_append size places (length bytes) bytes) old s.0 s.1 s.2, s.3)

    added_lands : (more index : ℕ) (old mid : Machine) (x : Result Located Refusal) (r : Result ℕ Refusal) (new : Machine) → Step size places {A = Located} (Adds p index) old x mid → Follows size places (onward (λ l. append_from size p bytes index more) x) mid r new
        → ((m : Machine) → Follows size places (append_from size p bytes index more) m r new → Rests more index m (told r) new) → Lands size p bytes (suc more) index old (told r) new
    added_lands more index old mid (Ok l) r new (payments, now, is, (free, same)) rest goes =
        let s : Rests more index (done size (Adds p index) now) (told r) new = subst (λ m. Rests more index m (told r) new) same (goes mid rest) in
        (payments, now, is, inr (free, s.0, s.1, s.2, s.3))
    added_lands more index old mid (Err e) r new (payments, now, is, left) rest goes =
        (payments, now, is, inl (e, ap told rest.0, subst (λ m. IsLeft (MayBe (Adds p index) now) now e m) (sym rest.1) left))

    next_lands : (more index : ℕ) (m : Machine) (r : Result ℕ Refusal) (new : Machine) → Follows size places (next_of index more) m r new → Lands size p bytes more (index + 1) m (told r) new
    next_lands zero index m r new h = (ap told h.0, h.1)
    next_lands (suc more) index m r new h =
        let s = both_splits (Pays size places) (extend_call p (index + 1)) (λ l. append_from size p bytes (index + 1) more) m new r h in
        added_lands more (index + 1) m s.1 s.0 r new (extend_is size places p (index + 1) m s.0 s.1 s.2) s.3
        (λ n goes. let a = append_splits (index + 1) more n r new goes in rests_of more (index + 1) (next_of (index + 1) more) n a.1 a.0 r new a.2 a.3 (λ k last. next_lands more (index + 1) k r new last))

    rests : (more index : ℕ) (old : Machine) (r : Result ℕ Refusal) (new : Machine) → Follows size places (append_from size p bytes index more) old r new → Rests more index old (told r) new
    rests more index old r new h = (let a = append_splits index more old r new h in rests_of more index (next_of index more) old a.1 a.0 r new a.2 a.3 (λ k last. next_lands more index k r new last))

    lands : (more index : ℕ) (old : Machine) (r : Result ℕ Refusal) (new : Machine) → Follows size places (append_from size p bytes index more) old r new → Lands size p bytes (suc more) index old (told r) new
    lands more index old r new h = (let a = append_splits index more old r new h in lands_of more index (next_of index more) old a.1 a.0 r new a.2 a.3 (λ k last. next_lands more index k r new last))

    -- of a file without a chunk
    first_lands : (more : ℕ) (old : Machine) (r : Result ℕ Refusal) (new : Machine) → Follows size places (both (extends_call p 0 1) (λ u. append_from size p bytes 0 more)) old r new → Lands size p bytes (suc more) 0 old (told r) new
    first_lands more old r new h =
        let s = both_splits (Pays size places) (extends_call p 0 1) (λ u. append_from size p bytes 0 more) old new r h in
        let t = both_splits (Pays size places) (extend_call p 0) (λ l. extends_call p (0 + 1) 0) old s.1 s.0 s.2 in
        added_lands more 0 old t.1 t.0 r new (extend_is size places p 0 old t.0 t.1 t.2) (by_added t.0 t.1 s.0 s.1 t.3 s.3) (λ m goes. rests more 0 m r new goes)
      where
        by_added : (x : Result Located Refusal) (m : Machine) (y : Result (Unit {0}) Refusal) (mid : Machine) → Follows size places (onward (λ l. extends_call p (0 + 1) 0) x) m y mid → Follows size places (onward (λ u. append_from size p bytes 0 more) y) mid r new
            → Follows size places (onward (λ l. append_from size p bytes 0 more) x) m r new
        by_added (Ok l) m y mid one rest = subst (λ n. Follows size places (append_from size p bytes 0 more) n r new) one.1 (subst (λ z. Follows size places (onward (λ u. append_from size p bytes 0 more) z) mid r new) one.0 rest)
        by_added (Err e) m y mid one rest = (let last = subst (λ z. Follows size places (onward (λ u. append_from size p bytes 0 more) z) mid r new) one.0 rest in (last.0, last.1 ∙ one.1))

    by_count : (chunks : ℕ) → chunks ≤ most_chunks → (old : Machine) (r : Result ℕ Refusal) (new : Machine)
        → Follows size places (both (extends_call p 0 (1 - chunks)) (λ u. append_from size p bytes (chunks - 1) (most_chunks - 1 - (chunks - 1)))) old r new → Lands size p bytes (most_chunks - (chunks - 1)) (chunks - 1) old (told r) new
    by_count zero most old r new h = first_lands 4095 old r new h
    by_count (suc last) most old r new h =
        let none : 1 - suc last ≡ 0 = omega arith in
        let count : most_chunks - (suc last - 1) ≡ suc (most_chunks - 1 - (suc last - 1)) = omega arith in
        let goes = subst (λ c. Follows size places (both (extends_call p 0 c) (λ u. append_from size p bytes (suc last - 1) (most_chunks - 1 - (suc last - 1)))) old r new) none h in
        subst (λ c. Lands size p bytes c (suc last - 1) old (told r) new) (sym count) (lands (most_chunks - 1 - (suc last - 1)) (suc last - 1) old r new goes)

  append_does : (p : Path) (bytes : List ℕ) (chunks : ℕ) → chunks ≤ most_chunks → (old : Machine) (r : Result ℕ Refusal) (new : Machine) → Follows size places (append_call size p (Some chunks) bytes) old r new
      → MatchBool (length bytes == 0) ((asked.answered answers.Number r ≡ Err refusals.Range) × (new ≡ old)) (Lands size p bytes (most_chunks - (chunks - 1)) (chunks - 1) old (asked.answered answers.Number r) new)
  append_does p bytes chunks most old r new h = by_test (length bytes == 0) (λ is. is) h
    where
      by_test : (b : Bool) → (b ≡ false → (length bytes == 0) ≡ false) → Follows size places (if b then Say (Err refusals.Range) else both (extends_call p 0 (1 - chunks)) (λ u. append_from size p bytes (chunks - 1) (most_chunks - 1 - (chunks - 1)))) old r new
          → MatchBool b ((asked.answered answers.Number r ≡ Err refusals.Range) × (new ≡ old)) (Lands size p bytes (most_chunks - (chunks - 1)) (chunks - 1) old (asked.answered answers.Number r) new)
      by_test true some h = (ap (asked.answered answers.Number) h.0, h.1)
      by_test false some h = by_count p bytes (some refl) chunks most old r new h

-- ---- whole lines

pub writes_are_explained : WritesAreExplained
writes_are_explained size block places path offset bytes pairs answer old new says each = by_path (parse path) (says_follow (Pays size places) (asked.on (parse path) (asked.with_file (asked.write_to size offset bytes)) asked.done) pairs answer old new says each)
  where
    by_path : (path : Result Path Refusal) → Follows size places (asked.on path (asked.with_file (asked.write_to size offset bytes)) asked.done) old answer new → OnPath size path (OfFile (Writes size offset bytes)) old answer new ⊎ ((answer ≡ Err refusals.Memory) × (new ≡ old))
    by_path (Ok p) h = inl (file_line size places p (asked.write_to size offset bytes) asked.done (Writes size offset bytes) (λ texts now r last most goes. write_does size places p (length texts) offset bytes now r last goes) old answer new h)
    by_path (Err e) h = h

pub appends_are_explained : AppendsAreExplained
appends_are_explained size block places path bytes pairs answer old new says each = by_path (parse path) (says_follow (Pays size places) (asked.on (parse path) (asked.with_file (asked.append_to size bytes)) answers.Number) pairs answer old new says each)
  where
    by_path : (path : Result Path Refusal) → Follows size places (asked.on path (asked.with_file (asked.append_to size bytes)) answers.Number) old answer new → OnPath size path (OfFile (Appends size bytes)) old answer new ⊎ ((answer ≡ Err refusals.Memory) × (new ≡ old))
    by_path (Ok p) h = inl (file_line size places p (asked.append_to size bytes) answers.Number (Appends size bytes) (λ texts now r last most goes. append_does size places p bytes (length texts) most now r last goes) old answer new h)
    by_path (Err e) h = h
