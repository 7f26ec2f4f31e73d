-- What a dialogue comes to from machine to machine: how it splits, what is paid, and how a part of a write goes.
use Rattle.std.proofs.Common.{arith, ap, inl, inr, subst, sym, ◌∙◌}
use Rattle.std.proofs.lemmas.Bool.Decides.{nat_tests}
use Rattle.std.specs.Prelude.{[], ◌&&◌, ◌++◌, ◌+◌, ◌-◌, ◌/◌, ◌<◌, ◌==◌, ◌∷◌, ◌≡◌, ◌≢◌, ◌⊎◌, Bool, Err, List, MatchBool, None, Ok, Option, Result, Some, false, if◌then◌else◌, length, map, nat_lt, not, refl, suc, true, zero, ℕ}
use Rattle.std.specs.List.{range_with_len}
use Rattle.std.specs.Result.{result_unwrap_or}
use Rattle.gs_base.specs.declared.numbers.Stamp.{Stamp}
use Rattle.gs_base.specs.declared.refusal.Refusal.{Refusal}
use Rattle.gs_base.specs.declared.refusal.Refusal.TheVariants as refusals
use Rattle.gs_client.specs.Replies.{changed, edited, is_stale, located_in, looked}
use Rattle.gs_client.specs.Trees.{Call, and_then, change, look}
use Rattle.gs_client.specs.Writing.{again_call, avoided, edit_call, extend_call, extends_call, part_call, part_op, parts_call, send_call, write_call, write_part_call, writing_call}
use Rattle.gs_client.specs.Writing as writing
use Rattle.gs_client.specs.declared.link.Reply.{Reply}
use Rattle.gs_client_dialogue.specs.Dialogues.{Ask, FollowsDialogue, Grow, Say, both, onward, otherwise, upon}
use Rattle.gs_client_dialogue.specs.Heard.{Says}
use Rattle.gs_client_part.specs.Writing.{chunks_to, is_out, most_chunks, part_bytes, part_count, part_start}
use Rattle.gs_client_part.specs.declared.located.Located.{Located}
use Rattle.gs_edit.specs.Machine.{with_tree}
use Rattle.gs_edit.specs.Plain.{add_chunk_rows}
use Rattle.gs_lease.specs.declared.view.Term.{Term}
use Rattle.gs_master_spec.specs.Calls.{is_always_taken, is_work}
use Rattle.gs_msg.specs.declared.answer.Answer.{Answer as Said}
use Rattle.gs_msg.specs.declared.answer.Answer.TheVariants as says
use Rattle.gs_msg.specs.declared.call.Call.TheVariants as calls
use Rattle.gs_msg.specs.declared.event.Request.{Request}
use Rattle.gs_msg.specs.declared.event.Request.TheVariants as requests
use Rattle.gs_msg.specs.declared.op.Op.{Op}
use Rattle.gs_msg.specs.declared.op.Op.TheVariants as ops
use Rattle.gs_path.specs.Path.{Path}
use Rattle.gs_replica.specs.declared.op.EditOutcome.{EditOutcome}
use Rattle.gs_replica.specs.declared.op.EditOutcome.TheVariants as outcomes
use Rattle.gs_shell_calls.specs.Asked as asked
use Rattle.gs_shell_calls.specs.declared.answer.Answer.{Answer}
use Rattle.gs_tree.specs.Edits.{chunks_in}
use Rattle.gs_tree.specs.Find.{at}
use Rattle.gs_laws_scripts.specs.explained.Lines.{Adds, DoesEach, Edits, IsOfStore, MayBe, Part, done, parts_of}
use Rattle.gs_laws_scripts.specs.explained.Machine.{Comes, Ends, Machine, Payment, Settles, Sweeps, Waits, is_preparing, is_rolling, new_text, paid, paid_now, taken, with_chunk}
use Rattle.gs_laws_scripts.specs.explained.Machine as machines
use Rattle.gs_laws_scripts.specs.explained.Told.{Each, IsLeft, Pays, Tells, TellsAdded, TellsEdited, TellsPrimary, is_over}

-- ---- dialogues

module _ (carries : Machine → Request → Reply → Machine → Type 0) where
  pub says_follow : {A : Type 0} (call : Call A) (pairs : List (Request × Reply)) (result : Result A Refusal) (old new : Machine) → Says call pairs result → Each carries old pairs new → FollowsDialogue carries call old result new
  says_follow (Say said) pairs result old new (is, none) each = (is, subst (λ ps. Each carries old ps new) none each)
  says_follow (Ask request more) pairs result old new (reply, rest, is, says) each =
      let e = subst (λ ps. Each carries old ps new) is each in (reply, e.0, e.1, says_follow (more reply) rest result e.0 new says e.2)
  says_follow (Grow call) pairs result old new h each = elim h [
    | inl goes ↦ inl (says_follow call pairs result old new goes each)
    | inr refused ↦ inr (refused.0, subst (λ ps. Each carries old ps new) refused.1 each)
  ]

module _ {S : Type 0} (carries : S → Request → Reply → S → Type 0) where
  pub both_splits : {A B : Type 0} (call : Call A) (go : A → Call B) (old new : S) (y : Result B Refusal) → FollowsDialogue carries (both call go) old y new
      → (r : Result A Refusal) × (mid : S) × FollowsDialogue carries call old r mid × FollowsDialogue carries (onward go r) mid y new
  both_splits (Say r) go old new y h = (r, old, (refl, refl), h)
  both_splits (Ask request more) go old new y (reply, mid, one, rest) = (let s = both_splits (more reply) go mid new y rest in (s.0, s.1, (reply, mid, one, s.2), s.3))
  both_splits (Grow call) go old new y h = elim h [
    | inl goes ↦ (let s = both_splits call go old new y goes in (s.0, s.1, inl s.2, s.3))
    | inr refused ↦ (Err refusals.Memory, old, inr (refl, refl), (refused.0, refused.1))
  ]

  -- a call, and its answer
  pub plain_splits : {A : Type 0} (call : Call A) (answer : A → Answer) (old new : S) (y : Result Answer Refusal) → FollowsDialogue carries (asked.plain call answer) old y new
      → (r : Result A Refusal) × (y ≡ asked.answered answer r) × FollowsDialogue carries call old r new
  plain_splits {A} call answer old new y h = (let s = both_splits call (λ x. Say (Ok (answer x))) old new y h in by_result s.0 s.1 s.2 s.3)
    where
      by_result : (r : Result A Refusal) (mid : S) → FollowsDialogue carries call old r mid → FollowsDialogue carries (onward (λ x. Say (Ok (answer x))) r) mid y new → (r : Result A Refusal) × (y ≡ asked.answered answer r) × FollowsDialogue carries call old r new
      by_result (Ok x) mid first (is, same) = (Ok x, is, subst (λ m. FollowsDialogue carries call old (Ok x) m) (sym same) first)
      by_result (Err e) mid first (is, same) = (Err e, is, subst (λ m. FollowsDialogue carries call old (Err e) m) (sym same) first)

-- ---- what is paid

pub paid_twice : (size : ℕ) (some more : List Payment) (m : Machine) → paid_now size (some ++ more) m ≡ paid_now size more (paid_now size some m)
paid_twice size [] more m = refl
paid_twice size (Settles p index k ∷ some) more m = paid_twice size some more (paid size (Settles p index k) m)
paid_twice size (Ends k ∷ some) more m = paid_twice size some more (paid size (Ends k) m)
paid_twice size (Comes k ∷ some) more m = paid_twice size some more m
paid_twice size (Waits k ∷ some) more m = paid_twice size some more m
paid_twice size (Sweeps p ∷ some) more m = paid_twice size some more m

pub paid_both : (size : ℕ) (some more : List Payment) (old now behind : Machine) → now ≡ paid_now size some old → behind ≡ paid_now size more now → behind ≡ paid_now size (some ++ more) old
paid_both size some more old now behind first second = second ∙ ap (paid_now size more) first ∙ sym (paid_twice size some more old)

-- ---- a chunk that is there isn't added

not_last : (index many : ℕ) → index < many → (index == many) ≡ false
not_last index many below = grind (arith, nat_tests)

pub is_there : (size : ℕ) (p : Path) (index : ℕ) (m : Machine) → index < length (chunks_in (at m.plain.tree p)) → done size (Adds p index) m ≡ m
is_there size p index m below = by_phase (is_rolling m.phase && not (is_always_taken (calls.Extend p index))) (is_preparing m.phase && is_work (calls.Extend p index))
  where
    nothing : (b : Bool) → b ≡ false → ◌≡◌ {A = Machine} (record m { plain = with_tree m.plain (result_unwrap_or (if b && nat_lt index most_chunks then add_chunk_rows m.plain.tree p new_text else Ok m.plain.tree) m.plain.tree) }) m
    nothing b is = ap (λ c. record m { plain = with_tree m.plain (result_unwrap_or (if c && nat_lt index most_chunks then add_chunk_rows m.plain.tree p new_text else Ok m.plain.tree) m.plain.tree) }) is

    by_phase : (rolling preparing : Bool) → (if rolling then (Err refusals.RollingBack, m) else if preparing then (Err refusals.Preparing, m) else taken (calls.Extend p index) m).1 ≡ m
    by_phase true preparing = refl
    by_phase false true = refl
    by_phase false false = nothing (index == length (chunks_in (at m.plain.tree p))) (not_last index (length (chunks_in (at m.plain.tree p))) below)

-- ---- an edit

refused_so : (size : ℕ) (now : Machine) (p : Path) (index : ℕ) (edit : machines.Edit) (e : Refusal) → IsOfStore e → TellsEdited size now p index edit (Err e) now
refused_so size now p index edit e store = by_test (is_over size edit)
  where
    by_test : (b : Bool) → MatchBool b (((e ≡ refusals.TooLong) × (now ≡ now)) ⊎ IsLeft (λ made. made ≡ now) now e now) (IsLeft (MayBe (Edits p index edit) now) now e now)
    by_test true = inr (inl (store, refl))
    by_test false = inl (store, refl)

-- one that is tried once more did nothing
stale_is_nothing : (size : ℕ) (now : Machine) (p : Path) (index : ℕ) (edit : machines.Edit) (e : Refusal) (new : Machine) → is_stale e ≡ true → TellsEdited size now p index edit (Err e) new → new ≡ now
stale_is_nothing size now p index edit e new stale tells = by_test (is_over size edit) tells
  where
    left : (May : Machine → Type 0) → IsLeft May now e new → new ≡ now
    left May (inl (store, same)) = same
    left May (inr (unsure, may)) = (let wrong : false ≡ true = subst (λ x. is_stale x ≡ true) unsure stale in absurd (cc))

    by_test : (b : Bool) → MatchBool b (((e ≡ refusals.TooLong) × (new ≡ now)) ⊎ IsLeft (λ made. made ≡ now) now e new) (IsLeft (MayBe (Edits p index edit) now) now e new) → new ≡ now
    by_test true (inl (long, same)) = same
    by_test true (inr rest) = left (λ made. made ≡ now) rest
    by_test false rest = left (MayBe (Edits p index edit) now) rest

-- ---- a part

module _ (size : ℕ) (places : ℕ → Path × ℕ) where
  abbrev pub Follows : {A : Type 0} → Call A → Machine → Result A Refusal → Machine → Type 0
  Follows call old result new = FollowsDialogue (Pays size places) call old result new

  -- where a chunk is that is to be written
  abbrev IsFound : Path → ℕ → Machine → Result Located Refusal → Type 0
  IsFound p index now (Ok l) = (places l.handle ≡ (p, index)) × (l.view.term ≢ None) × (is_preparing now.phase ≡ false) × (index < length (chunks_in (at now.plain.tree p)))
  IsFound p index now (Err e) = IsOfStore e

  abbrev Finds : Path → ℕ → Machine → Result Located Refusal → Machine → Type 0
  Finds p index old r mid = (payments : List Payment) × (now : Machine) × (now ≡ paid_now size payments old) × (mid ≡ now) × IsFound p index now r

  found_in : (p : Path) (index : ℕ) (now : Machine) (said : Result Said Refusal) → TellsPrimary size places now p index said → IsFound p index now (and_then (located_in index) said)
  found_in p index now (Ok (says.Location handle view epoch)) tells = tells
  found_in p index now (Ok said) tells = absurd tells
  found_in p index now (Err e) tells = tells

  finds : (p : Path) (index : ℕ) (avoids : Option Stamp) (old mid : Machine) (r : Result Located Refusal) → Follows (writing_call p index avoids) old r mid → Finds p index old r mid
  finds p index avoids old mid r h = elim h [
    | inl goes ↦ asks_so goes
    | inr refused ↦ ([], old, refl, refused.1, subst (IsFound p index old) (sym refused.0) refl)
  ]
    where
      asks_so : Follows (look (calls.FindForWriting p index avoids) (located_in index)) old r mid → Finds p index old r mid
      asks_so (reply, m, (payments, (tells, same)), (is, last)) =
          (payments, paid_now size payments old, refl, last ∙ same, subst (IsFound p index (paid_now size payments old)) (sym is) (found_in p index (paid_now size payments old) (looked reply) tells))

  -- which edit a request asks for
  abbrev IsOp : Op → List ℕ → machines.Edit → Type 0
  IsOp op bytes edit = (now new : Machine) (handle : ℕ) (members : List ℕ) (primary : ℕ) (stamp : Stamp) (reply : Reply)
      → Tells size places now (requests.Write handle members primary stamp op bytes) reply new → TellsEdited size now (places handle).0 (places handle).1 edit (edited reply) new

  pub is_write : (offset many : ℕ) (bytes : List ℕ) → IsOp (ops.Write offset many) bytes (machines.Write offset bytes)
  is_write offset many bytes now new handle members primary stamp reply tells = tells

  pub is_append : (many : ℕ) (bytes : List ℕ) → IsOp (ops.Append many) bytes (machines.Append bytes)
  is_append many bytes now new handle members primary stamp reply tells = tells

  -- an edit is tried
  abbrev pub Tried : Path → ℕ → machines.Edit → Machine → Result EditOutcome Refusal → Machine → Type 0
  Tried p index edit old r new = (payments : List Payment) × (now : Machine) × (now ≡ paid_now size payments old) × TellsEdited size now p index edit r new

  -- A part is refused before it is tried, and nothing is done; or it is tried, at a chunk that is there, while no prepare is under way.
  abbrev pub PartIs : Path → ℕ → machines.Edit → Machine → Result EditOutcome Refusal → Machine → Type 0
  PartIs p index edit old r new = (payments : List Payment) × (now : Machine) × (now ≡ paid_now size payments old)
      × (((refusal : Refusal) × (r ≡ Err refusal) × IsOfStore refusal × (new ≡ now)) ⊎ ((is_preparing now.phase ≡ false) × (index < length (chunks_in (at now.plain.tree p))) × Tried p index edit now r new))

  part_behind : (p : Path) (index : ℕ) (edit : machines.Edit) (payments : List Payment) (old now : Machine) (r : Result EditOutcome Refusal) (new : Machine) → now ≡ paid_now size payments old → PartIs p index edit now r new → PartIs p index edit old r new
  part_behind p index edit payments old now r new first (more, behind, second, rest) = (payments ++ more, behind, paid_both size payments more old now behind first second, rest)

  module _ (p : Path) (index : ℕ) (op : Op) (bytes : List ℕ) (edit : machines.Edit) (is_op : IsOp op bytes edit) where
    told : (l : Located) (term : Term) → places l.handle ≡ (p, index) → (now mid : Machine) (reply : Reply) → Tells size places now (requests.Write l.handle l.view.members term.primary l.view.stamp op bytes) reply mid → TellsEdited size now p index edit (edited reply) mid
    told l term place now mid reply tells =
        subst (λ (here : Path × ℕ). TellsEdited size now here.0 here.1 edit (edited reply) mid) place (is_op now mid l.handle l.view.members term.primary l.view.stamp reply tells)

    no_memory : (old : Machine) (r : Result EditOutcome Refusal) (new : Machine) → r ≡ Err refusals.Memory → new ≡ old → Tried p index edit old r new
    no_memory old r new is same =
        ([], old, refl, subst (λ x. TellsEdited size old p index edit x new) (sym is) (subst (λ m. TellsEdited size old p index edit (Err refusals.Memory) m) (sym same) (refused_so size old p index edit refusals.Memory refl)))

    sends : (l : Located) (term : Option Term) → places l.handle ≡ (p, index) → term ≢ None → (old : Machine) (r : Result EditOutcome Refusal) (new : Machine) → Follows (send_call l term op bytes) old r new → Tried p index edit old r new
    sends l None place some old r new h = absurd (some refl)
    sends l (Some term) place some old r new (inl (reply, mid, (payments, tells), (is, same))) = (
      payments,
      paid_now size payments old,
      refl,
      subst (λ x. TellsEdited size (paid_now size payments old) p index edit x new) (sym is)
          (subst (λ m. TellsEdited size (paid_now size payments old) p index edit (edited reply) m) (sym same) (told l term place (paid_now size payments old) mid reply tells)),
    )
    sends l (Some term) place some old r new (inr refused) = no_memory old r new refused.0 refused.1

    -- and what comes after it
    sends_then : (l : Located) (term : Option Term) → places l.handle ≡ (p, index) → term ≢ None → (go : Result EditOutcome Refusal → Call EditOutcome) (old : Machine) (r : Result EditOutcome Refusal) (new : Machine) → Follows (upon (send_call l term op bytes) go) old r new
        → Tried p index edit old r new ⊎ ((first : Result EditOutcome Refusal) × (mid : Machine) × Tried p index edit old first mid × Follows (go first) mid r new)
    sends_then l None place some go old r new h = absurd (some refl)
    sends_then l (Some term) place some go old r new (inl (reply, mid, (payments, tells), rest)) =
        inr (edited reply, mid, (payments, paid_now size payments old, refl, told l term place (paid_now size payments old) mid reply tells), rest)
    sends_then l (Some term) place some go old r new (inr refused) = inl (no_memory old r new refused.0 refused.1)

    -- one try
    once : (avoids : Option Stamp) (old : Machine) (r : Result EditOutcome Refusal) (new : Machine) → Follows (both (writing_call p index avoids) (λ l. edit_call l op bytes)) old r new → PartIs p index edit old r new
    once avoids old r new h = (let s = both_splits (Pays size places) (writing_call p index avoids) (λ l. edit_call l op bytes) old new r h in by_result s.0 s.1 (finds p index avoids old s.1 s.0 s.2) s.3)
      where
        by_result : (x : Result Located Refusal) (mid : Machine) → Finds p index old x mid → Follows (onward (λ l. edit_call l op bytes) x) mid r new → PartIs p index edit old r new
        by_result (Ok l) mid (payments, now, is, same, found) rest = (payments, now, is, inr (found.2, found.3, sends l l.view.term found.0 found.1 now r new (subst (λ m. Follows (edit_call l op bytes) m r new) same rest)))
        by_result (Err e) mid (payments, now, is, same, store) rest = (payments, now, is, inl (e, rest.0, store, rest.1 ∙ same))

    -- two, the second where the first did nothing
    again : (stamp : Stamp) (e : Refusal) (old mid : Machine) (r : Result EditOutcome Refusal) (new : Machine) → is_preparing old.phase ≡ false → index < length (chunks_in (at old.plain.tree p)) → Tried p index edit old (Err e) mid
        → Follows (again_call p index stamp op bytes e) mid r new → PartIs p index edit old r new
    again stamp e old mid r new free there tried h = by_test (is_stale e) (λ is. is) h
      where
        by_test : (b : Bool) → (b ≡ true → is_stale e ≡ true) → Follows (if b then both (writing_call p index (avoided e stamp)) (λ l. edit_call l op bytes) else Say (Err e)) mid r new → PartIs p index edit old r new
        by_test true stale rest =
            let nothing : mid ≡ tried.1 = stale_is_nothing size tried.1 p index edit e mid (stale refl) tried.3 in
            part_behind p index edit tried.0 old mid r new (nothing ∙ tried.2) (once (avoided e stamp) mid r new rest)
        by_test false stale rest = ([], old, refl, inr (free, there, (tried.0, tried.1, tried.2, subst (λ x. TellsEdited size tried.1 p index edit x new) (sym rest.0) (subst (λ m. TellsEdited size tried.1 p index edit (Err e) m) (sym rest.1) tried.3))))

    pub part_is : (old : Machine) (r : Result EditOutcome Refusal) (new : Machine) → Follows (part_call p index op bytes) old r new → PartIs p index edit old r new
    part_is old r new h = (let s = both_splits (Pays size places) (writing_call p index None) tries old new r h in by_result s.0 s.1 (finds p index None old s.1 s.0 s.2) s.3)
      where
        tries : Located → Call EditOutcome
        tries l = upon (edit_call l op bytes) (otherwise (again_call p index l.view.stamp op bytes))

        by_first : (l : Located) (old mid : Machine) → is_preparing old.phase ≡ false → index < length (chunks_in (at old.plain.tree p)) → (first : Result EditOutcome Refusal) → Tried p index edit old first mid
            → Follows (otherwise (again_call p index l.view.stamp op bytes) first) mid r new → PartIs p index edit old r new
        by_first l old mid free there (Ok outcome) tried rest = ([], old, refl, inr (free, there, (tried.0, tried.1, tried.2, subst (λ x. TellsEdited size tried.1 p index edit x new) (sym rest.0) (subst (λ m. TellsEdited size tried.1 p index edit (Ok outcome) m) (sym rest.1) tried.3))))
        by_first l old mid free there (Err e) tried rest = again l.view.stamp e old mid r new free there tried rest

        by_tries : (l : Located) (old : Machine) → is_preparing old.phase ≡ false → index < length (chunks_in (at old.plain.tree p))
            → Tried p index edit old r new ⊎ ((first : Result EditOutcome Refusal) × (mid : Machine) × Tried p index edit old first mid × Follows (otherwise (again_call p index l.view.stamp op bytes) first) mid r new) → PartIs p index edit old r new
        by_tries l old free there (inl tried) = ([], old, refl, inr (free, there, tried))
        by_tries l old free there (inr (first, mid, tried, rest)) = by_first l old mid free there first tried rest

        by_result : (x : Result Located Refusal) (mid : Machine) → Finds p index old x mid → Follows (onward tries x) mid r new → PartIs p index edit old r new
        by_result (Ok l) mid (payments, now, is, same, found) rest =
            part_behind p index edit payments old now r new is (by_tries l now found.2 found.3 (sends_then l l.view.term found.0 found.1 (otherwise (again_call p index l.view.stamp op bytes)) now r new (subst (λ m. Follows (tries l) m r new) same rest)))
        by_result (Err e) mid (payments, now, is, same, store) rest = (payments, now, is, inl (e, rest.0, store, rest.1 ∙ same))

  -- ---- parts, one after the other

  -- one of them is done, or put off
  abbrev StepIs : {A : Type 0} → Part → Machine → Result A Refusal → Machine → Type 0
  StepIs part now (Ok x) mid = (is_preparing now.phase ≡ false) × (mid ≡ done size part now)
  StepIs part now (Err e) mid = IsLeft (MayBe part now) now e mid

  abbrev pub Step : {A : Type 0} → Part → Machine → Result A Refusal → Machine → Type 0
  Step part old r mid = (payments : List Payment) × (now : Machine) × (now ≡ paid_now size payments old) × StepIs part now r mid

  -- what comes after it, if it is done
  abbrev Then : {A : Type 0} → Result A Refusal → Machine → List Part → Result Answer Refusal → Machine → Type 0
  Then (Ok x) mid parts answer new = DoesEach size parts mid answer new
  Then (Err e) mid parts answer new = (answer ≡ Err e) × (new ≡ mid)

  does : {A : Type 0} (part : Part) (parts : List Part) (old : Machine) (r : Result A Refusal) (mid : Machine) (answer : Result Answer Refusal) (new : Machine) → Step part old r mid → Then r mid parts answer new → DoesEach size (part ∷ parts) old answer new
  does part parts old (Ok x) mid answer new (payments, now, is, (free, same)) rest = (payments, now, is, inr (free, subst (λ m. DoesEach size parts m answer new) same rest))
  does part parts old (Err e) mid answer new (payments, now, is, left) rest = (payments, now, is, inl (e, rest.0, subst (λ m. IsLeft (MayBe part now) now e m) (sym rest.1) left))

  -- a chunk is added
  added_in : (p : Path) (index : ℕ) (now mid : Machine) (said : Result Said Refusal) → TellsAdded size now p index said mid → StepIs {A = Located} (Adds p index) now (and_then (located_in index) said) mid
  added_in p index now mid (Ok (says.Location handle view epoch)) tells = tells
  added_in p index now mid (Ok said) tells = absurd tells
  added_in p index now mid (Err e) tells = tells

  pub extend_is : (p : Path) (index : ℕ) (old : Machine) (r : Result Located Refusal) (mid : Machine) → Follows (extend_call p index) old r mid → Step {A = Located} (Adds p index) old r mid
  extend_is p index old r mid h = elim h [
    | inl goes ↦ asks_so goes
    | inr refused ↦ ([], old, refl, subst (λ x. StepIs {A = Located} (Adds p index) old x mid) (sym refused.0) (inl (refl, refused.1)))
  ]
    where
      asks_so : Follows (change (calls.Extend p index) (located_in index)) old r mid → Step {A = Located} (Adds p index) old r mid
      asks_so (reply, m, (payments, tells), (is, last)) = (
        payments,
        paid_now size payments old,
        refl,
        subst (λ x. StepIs {A = Located} (Adds p index) (paid_now size payments old) x mid) (sym is)
            (subst (λ n. StepIs {A = Located} (Adds p index) (paid_now size payments old) (and_then (located_in index) (changed reply)) n) (sym last) (added_in p index (paid_now size payments old) m (changed reply) tells)),
      )

  extends_do : (p : Path) (index count : ℕ) (old : Machine) (r : Result (Unit {0}) Refusal) (mid : Machine) → Follows (extends_call p index count) old r mid → (rest : List Part) (answer : Result Answer Refusal) (new : Machine) → Then r mid rest answer new
      → DoesEach size (map (λ i. Adds p i) (range_with_len index count) ++ rest) old answer new
  extends_do p index zero old r mid h rest answer new goes = subst (λ m. DoesEach size rest m answer new) h.1 (subst (λ x. Then x mid rest answer new) h.0 goes)
  extends_do p index (suc count) old r mid h rest answer new goes =
      let s = both_splits (Pays size places) (extend_call p index) (λ l. extends_call p (index + 1) count) old mid r h in
      does (Adds p index) (map (λ i. Adds p i) (range_with_len (index + 1) count) ++ rest) old s.0 s.1 answer new (extend_is p index old s.0 s.1 s.2) (by_result s.0 s.1 s.3 (λ more. extends_do p (index + 1) count s.1 r mid more rest answer new goes))
    where
      by_result : (x : Result Located Refusal) (m : Machine) → Follows (onward (λ l. extends_call p (index + 1) count) x) m r mid
          → (Follows (extends_call p (index + 1) count) m r mid → DoesEach size (map (λ i. Adds p i) (range_with_len (index + 1) count) ++ rest) m answer new) → Then x m (map (λ i. Adds p i) (range_with_len (index + 1) count) ++ rest) answer new
      by_result (Ok l) m more next = next more
      by_result (Err e) m more next = (let last = subst (λ x. Then x mid rest answer new) more.0 goes in (last.0, last.1 ∙ more.1))

  -- a text is written
  write_is : (p : Path) (index offset many : ℕ) (bytes : List ℕ) (old : Machine) (r : Result (Unit {0}) Refusal) (mid : Machine) → Follows (write_part_call p index (ops.Write offset many) bytes) old r mid → Step (Edits p index (machines.Write offset bytes)) old r mid
  write_is p index offset many bytes old r mid h =
      let s = both_splits (Pays size places) (part_call p index (ops.Write offset many) bytes) (λ outcome. Say (writing.written outcome)) old mid r h in
      by_part s.0 s.1 (part_is p index (ops.Write offset many) bytes (machines.Write offset bytes) (is_write offset many bytes) old s.0 s.1 s.2) s.3
    where
      edit : machines.Edit
      edit = machines.Write offset bytes

      by_result : (x : Result EditOutcome Refusal) (m now : Machine) → TellsEdited size now p index (machines.Write offset bytes) x m → Follows (onward (λ outcome. Say (writing.written outcome)) x) m r mid → StepIs (Edits p index (machines.Write offset bytes)) now r mid
      by_result (Ok outcomes.Written) m now (free, inr (wrong, same)) rest = absurd wrong
      by_result (Ok outcomes.Written) m now (free, inl (outcome, same)) rest = subst (λ y. StepIs (Edits p index (machines.Write offset bytes)) now y mid) (sym rest.0) (free, rest.1 ∙ same)
      by_result (Ok (outcomes.Appended at)) m now (free, inl (wrong, same)) rest = absurd wrong
      by_result (Ok (outcomes.Appended at)) m now (free, inr (wrong, same)) rest = absurd wrong
      by_result (Ok outcomes.Padded) m now (free, inl (wrong, same)) rest = absurd wrong
      by_result (Ok outcomes.Padded) m now (free, inr (wrong, same)) rest = absurd wrong
      by_result (Err e) m now left rest = subst (λ y. StepIs (Edits p index (machines.Write offset bytes)) now y mid) (sym rest.0) (subst (λ n. IsLeft (MayBe (Edits p index (machines.Write offset bytes)) now) now e n) (sym rest.1) left)

      by_part : (x : Result EditOutcome Refusal) (m : Machine) → PartIs p index (machines.Write offset bytes) old x m → Follows (onward (λ outcome. Say (writing.written outcome)) x) m r mid → Step (Edits p index (machines.Write offset bytes)) old r mid
      by_part x m (payments, now, is, inl (e, refused, store, same)) rest =
          let last = subst (λ y. Follows (onward (λ outcome. Say (writing.written outcome)) y) m r mid) refused rest in
          (payments, now, is, subst (λ y. StepIs (Edits p index (machines.Write offset bytes)) now y mid) (sym last.0) (inl (store, last.1 ∙ same)))
      by_part x m (payments, now, is, inr (free, there, (more, behind, second, tells))) rest = (payments ++ more, behind, paid_both size payments more old now behind is second, by_result x m behind tells rest)

  abbrev part_of : Path → ℕ → List ℕ → ℕ → Part
  part_of p offset bytes i = Edits p (offset / size + i) (machines.Write (part_start size offset i) (part_bytes size offset bytes i))

  parts_do : (p : Path) (offset : ℕ) (bytes : List ℕ) (i count : ℕ) (old : Machine) (r : Result (Unit {0}) Refusal) (new : Machine) → Follows (parts_call size p offset bytes i count) old r new
      → DoesEach size (map (part_of p offset bytes) (range_with_len i count)) old (asked.answered asked.done r) new
  parts_do p offset bytes i zero old r new h = (ap (asked.answered asked.done) h.0, h.1)
  parts_do p offset bytes i (suc count) old r new h =
      let s = both_splits (Pays size places) (write_part_call p (offset / size + i) (part_op size offset bytes i) (part_bytes size offset bytes i)) (λ done. parts_call size p offset bytes (i + 1) count) old new r h in
      does (part_of p offset bytes i) (map (part_of p offset bytes) (range_with_len (i + 1) count)) old s.0 s.1 (asked.answered asked.done r) new
      (write_is p (offset / size + i) (part_start size offset i) (length (part_bytes size offset bytes i)) (part_bytes size offset bytes i) old s.0 s.1 s.2) (by_result s.0 s.1 s.3 (λ more. parts_do p offset bytes (i + 1) count s.1 r new more))
    where
      by_result : (x : Result (Unit {0}) Refusal) (m : Machine) → Follows (onward (λ done. parts_call size p offset bytes (i + 1) count) x) m r new → (Follows (parts_call size p offset bytes (i + 1) count) m r new → DoesEach size (map (part_of p offset bytes) (range_with_len (i + 1) count)) m (asked.answered asked.done r) new)
          → Then x m (map (part_of p offset bytes) (range_with_len (i + 1) count)) (asked.answered asked.done r) new
      by_result (Ok u) m more next = next more
      by_result (Err e) m more next = (ap (asked.answered asked.done) more.0, more.1)

  pub write_does : (p : Path) (chunks offset : ℕ) (bytes : List ℕ) (old : Machine) (r : Result (Unit {0}) Refusal) (new : Machine) → Follows (write_call size p (Some chunks) offset bytes) old r new
      → MatchBool (is_out size offset bytes) ((asked.answered asked.done r ≡ Err refusals.Range) × (new ≡ old)) (DoesEach size (parts_of size p chunks offset bytes) old (asked.answered asked.done r) new)
  write_does p chunks offset bytes old r new h = by_test (is_out size offset bytes) h
    where
      goes : Call (Unit {0})
      goes = both (extends_call p chunks (chunks_to size offset bytes - chunks)) (λ u. parts_call size p offset bytes 0 (part_count size offset bytes))

      by_extends : (x : Result (Unit {0}) Refusal) (m : Machine) → Follows (onward (λ u. parts_call size p offset bytes 0 (part_count size offset bytes)) x) m r new
          → Then x m (map (part_of p offset bytes) (range_with_len 0 (part_count size offset bytes))) (asked.answered asked.done r) new
      by_extends (Ok u) m more = parts_do p offset bytes 0 (part_count size offset bytes) m r new more
      by_extends (Err e) m more = (ap (asked.answered asked.done) more.0, more.1)

      by_test : (b : Bool) → Follows (if b then Say (Err refusals.Range) else both (extends_call p chunks (chunks_to size offset bytes - chunks)) (λ u. parts_call size p offset bytes 0 (part_count size offset bytes))) old r new
          → MatchBool b ((asked.answered asked.done r ≡ Err refusals.Range) × (new ≡ old)) (DoesEach size (parts_of size p chunks offset bytes) old (asked.answered asked.done r) new)
      by_test true h = (ap (asked.answered asked.done) h.0, h.1)
      by_test false h =
          let s = both_splits (Pays size places) (extends_call p chunks (chunks_to size offset bytes - chunks)) (λ u. parts_call size p offset bytes 0 (part_count size offset bytes)) old new r h in
          extends_do p chunks (chunks_to size offset bytes - chunks) old s.0 s.1 s.2 (map (part_of p offset bytes) (range_with_len 0 (part_count size offset bytes))) (asked.answered asked.done r) new (by_extends s.0 s.1 s.3)
