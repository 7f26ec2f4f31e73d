-- What a script reads of a file right behind a prepare, and right behind its rollback.
use Rattle.std.proofs.Common.{◌≡◌, ◌∙◌, ◌⊎◌, inl, inr, ◌++◌, ◌+◌, ℕ, List, [], ◌∷◌, Result, Ok, Err, refl, sym, ap, subst, arith}
use Rattle.std.specs.Prelude.{codes, decimal}
use Rattle.gs_base.specs.Told.{IsNumber}
use Rattle.gs_base.specs.declared.config.Config.{Config}
use Rattle.gs_base.specs.declared.refusal.Refusal.{Refusal}
use Rattle.gs_base.specs.declared.refusal.Refusal.TheVariants as refusals
use Rattle.gs_client.specs.Trees.{Call}
use Rattle.gs_client.specs.declared.link.Reply.{Reply}
use Rattle.gs_client_dialogue.specs.Dialogues.{Ask, FollowsDialogue, Grow, Say}
use Rattle.gs_journal.specs.Records.{fresh, standing}
use Rattle.gs_msg.specs.declared.event.Request.{Request}
use Rattle.gs_path.specs.Path.{Path}
use Rattle.gs_path.specs.Rules.{parse_hidden}
use Rattle.gs_shell_calls.specs.Asked.{digest_of, given_bytes, given_digest, on, plain, read_of, with_file}
use Rattle.gs_shell_calls.specs.Texts.{answer_text}
use Rattle.gs_shell_calls.specs.declared.answer.Answer.{Answer}
use Rattle.gs_shell_desk.specs.Answering.{IsText}
use Rattle.gs_shell_desk.specs.Lines.{Comes}
use Rattle.gs_shell_desk.specs.Starting.{Starts}
use Rattle.gs_shell_desk.specs.declared.desk.Desk.{Desk}
use Rattle.gs_laws_scripts.proofs.lemmas.lists.Lines.{Carries_at}
use Rattle.gs_laws_scripts.proofs.lemmas.lists.Scripts.{Line_answered, Lines_run, came, one_more, prepared, reached, rolled, split}
use Rattle.gs_laws_scripts.proofs.lemmas.lists.Texts.{refused_never, same_numbers}
use Rattle.gs_laws_scripts.specs.lists.Scripts.{AsksFor, IsAccepted}
use Rattle.gs_shell_script.specs.Run.{lines_of}
use Rattle.gs_laws_chunks.proofs.lemmas.desks.Lines.{start_reaches}
use Rattle.gs_laws_scripts.specs.answers.Meeting.{IsClientOf}
use Rattle.gs_laws_chunks.specs.desks.Within.{IsReachedWithin}
use Rattle.gs_laws_scripts.proofs.lemmas.reads.Clients.{lines_mine}
use Rattle.gs_laws_scripts.specs.reads.Lines.{AreTheSameWhereToldApart, Asks, Bytes, Digest, ReadTheSameWhereToldApart, answer_of, line_of}
use Rattle.gs_laws_scripts.specs.reads.Scripts.{AreReadTwice, ReadTheSameUntilAReadFails, ReadTheSameUntilAWriteFails, ScriptsReadTheSame, TextsAreTheSameWhereToldApart}
use Rattle.gs_laws_scripts.specs.reads.Scripts as scripts

-- ---- what lines come to

module _ {S : Type 0} (carries : S → Request → Reply → S → Type 0) where
  -- an answer that is given so, or a refusal
  abbrev Gives_or : {A : Type 0} → (A → Answer) → Result Answer Refusal → Type 0
  Gives_or {A} give result = ((x : A) × (result ≡ Ok (give x))) ⊎ ((refusal : Refusal) × (result ≡ Err refusal))

  plain_comes : {A : Type 0} (call : Call A) (give : A → Answer) (old new : S) (result : Result Answer Refusal) → FollowsDialogue carries (plain call give) old result new → Gives_or give result
  plain_comes (Say (Ok x)) give old new result (is, same) = inl (x, is)
  plain_comes (Say (Err refusal)) give old new result (is, same) = inr (refusal, is)
  plain_comes (Ask asked more) give old new result (reply, mid, carried, rest) = plain_comes (more reply) give mid new result rest
  plain_comes (Grow call) give old new result (inl goes) = plain_comes call give old new result goes
  plain_comes (Grow call) give old new result (inr (is, same)) = inr (refusals.Memory, is)

  on_comes : {A : Type 0} (parsed : Result Path Refusal) (call : Path → Call A) (give : A → Answer) (old new : S) (result : Result Answer Refusal) → FollowsDialogue carries (on parsed call give) old result new → Gives_or give result
  on_comes (Ok path) call give old new result (inl goes) = plain_comes (call path) give old new result goes
  on_comes (Err refusal) call give old new result (inl (is, same)) = inr (refusal, is)
  on_comes parsed call give old new result (inr (is, same)) = inr (refusals.Memory, is)

-- ---- a line that is accepted

module _ {D : Type 0} (seen : D → List ℕ) (failures : D → ℕ) where
  abbrev IsRead_or : Asks → Result Answer Refusal → Type 0
  IsRead_or asks result = ((bytes : List ℕ) × (result ≡ Ok (answer_of asks bytes))) ⊎ ((refusal : Refusal) × (result ≡ Err refusal))

  read_comes : (text : List ℕ) (asks : Asks) (old new : Desk D) (result : Result Answer Refusal) → Comes seen failures (line_of text asks) old result new → IsRead_or asks result
  unfolding Comes
  read_comes text (Bytes offset many) old new result comes =
      elim (on_comes (Carries_at seen failures) (parse_hidden text) (with_file (read_of old.caller.client.chunk offset many)) given_bytes (old.caller.client, old.wire) (new.caller.client, new.wire) result comes) [
        | inl found ↦ inl (found.0.0, found.1)
        | inr refused ↦ inr refused
      ]
  read_comes text (Digest chunk block) old new result comes =
      elim (on_comes (Carries_at seen failures) (parse_hidden text) (with_file (digest_of chunk block)) given_digest (old.caller.client, old.wire) (new.caller.client, new.wire) result comes) [
        | inl found ↦ inl (found.0.0, found.1)
        | inr refused ↦ inr refused
      ]

  -- lines one after the other
  lines_join : (first texts second more : List (List ℕ)) (old mid new : Desk D) → Lines_run seen failures old first texts mid → Lines_run seen failures mid second more new → Lines_run seen failures old (first ++ second) (texts ++ more) new
  lines_join [] [] second more old mid new same runs = subst (λ d. Lines_run seen failures d second more new) same runs
  lines_join (line ∷ first) (text ∷ texts) second more old mid new (next, one, rest) runs = (next, one, lines_join first texts second more next mid new rest runs)
  lines_join [] (text ∷ texts) second more old mid new never runs = absurd never
  lines_join (line ∷ first) [] second more old mid new never runs = absurd never

  -- what was read, as its text tells it
  record WasRead (path : List ℕ) (asks : Asks) (text : List ℕ) (old new : Desk D) : Type 0 where
    bytes : List ℕ
    comes : Comes seen failures (line_of path asks) old (Ok (answer_of asks bytes)) new
    is : text ≡ answer_text (Ok (answer_of asks bytes))

  read_told : (path : List ℕ) (asks : Asks) (text : List ℕ) (old new : Desk D) (result : Result Answer Refusal) → Comes seen failures (line_of path asks) old result new → IsRead_or asks result → IsText result text → IsAccepted text → WasRead path asks text old new
  read_told path asks text old new result comes what (inr memory) accepted = refused_never refusals.Memory text memory accepted
  read_told path asks text old new result comes (inl (bytes, is)) (inl told) accepted = record { bytes = bytes; comes = subst (λ r. Comes seen failures (line_of path asks) old r new) is comes; is = told ∙ ap answer_text is }
  read_told path asks text old new result comes (inr (refusal, refused)) (inl told) accepted = refused_never refusal text (told ∙ ap answer_text refused) accepted

  was_read : (path : List ℕ) (asks : Asks) (line text : List ℕ) (old new : Desk D) → AsksFor (line_of path asks) line → IsAccepted text → Line_answered seen failures old line text new → WasRead path asks text old new
  was_read path asks line text old new asked accepted answered =
      let c = came seen failures (line_of path asks) line text old new asked accepted answered in
      read_told path asks text old new c.answer c.comes (read_comes path asks old new c.answer c.comes) c.told accepted

  -- ---- a script

  module _ (config : Config) (disks : D × D) (law : ReadTheSameWhereToldApart seen failures config disks) (new : standing (seen disks.0) (seen disks.1) ≡ fresh) (ended : Desk D) (all texts : List (List ℕ)) (path : List ℕ) (asks : Asks) (epoch : ℕ) (had has : List ℕ)
      (q : AreReadTwice all texts path asks epoch had has) where
    lower : (k : ℕ) → IsNumber (k + 1) → IsNumber k
    lower k small = omega arith

    -- both texts tell what was read
    texts_so : (start_of start mid read_at later back last : Desk D) (one two : List ℕ) → Lines_run seen failures start_of q.before q.texts_before start → Line_answered seen failures start q.prepare (codes "ok " ++ decimal epoch) mid → Line_answered seen failures mid q.read had read_at
        → Lines_run seen failures read_at q.between q.texts_between later → Line_answered seen failures later q.rollback (codes "ok " ++ decimal (epoch + 1)) back → Line_answered seen failures back q.again has last → Lines_run seen failures last q.behind q.texts_behind ended
        → had ≡ answer_text (Ok (answer_of asks one)) → has ≡ answer_text (Ok (answer_of asks two)) → AreTheSameWhereToldApart seen failures config disks path asks epoch one two mid read_at back last
        → TextsAreTheSameWhereToldApart seen failures config disks all texts path asks epoch had has q start_of ended
    texts_so start_of start mid read_at later back last one two led prepares reads between rolls again rest was is a = record {
      client = a.client;
      path = a.path;
      parsed = a.parsed;
      first = one;
      was = was;
      second = two;
      is = is;
      prepared = mid;
      to_prepared = lines_join q.before q.texts_before (q.prepare ∷ []) ((codes "ok " ++ decimal epoch) ∷ []) start_of start mid led (mid, prepares, refl);
      read = read_at;
      to_read = reads;
      back = back;
      to_back = lines_join q.between q.texts_between (q.rollback ∷ []) ((codes "ok " ++ decimal (epoch + 1)) ∷ []) read_at later back between (back, rolls, refl);
      last = last;
      to_last = again;
      rest = rest;
      run = a.run;
      begins_to_read = a.begins_to_read;
      has_read = a.has_read;
      begins_again = a.begins_again;
      ends = a.ends;
      same = λ run among none apart blocks. is ∙ ap (λ (bytes : List ℕ). answer_text (Ok (answer_of asks bytes))) (a.same run among none apart blocks) ∙ sym was;
    }

    by_second : (start_of start mid read_at later : Desk D) → Lines_run seen failures start_of q.before q.texts_before start → IsReachedWithin seen failures config disks start → IsClientOf config start.caller.client → Line_answered seen failures start q.prepare (codes "ok " ++ decimal epoch) mid
        → Line_answered seen failures mid q.read had read_at → Lines_run seen failures read_at q.between q.texts_between later → Lines_run seen failures later (q.rollback ∷ q.again ∷ q.behind) ((codes "ok " ++ decimal (epoch + 1)) ∷ has ∷ q.texts_behind) ended
        → TextsAreTheSameWhereToldApart seen failures config disks all texts path asks epoch had has q start_of ended
    by_second start_of start mid read_at later led reached_there mine a b lines_between (back, c, (last, e, rest)) =
        let one = was_read path asks q.read had mid read_at q.reads q.was b in
        let two = was_read path asks q.again has back last q.repeats q.is e in
        let first = prepared seen failures q.prepare_by q.is_prepare q.prepare epoch start mid q.prepares a in
        let next = rolled seen failures q.roll_by q.is_rollback q.rollback (epoch + 1) later back q.rolls c in
        let found = law path asks first.number next.number one.bytes two.bytes (record {
          new = new;
          follows = λ small high. same_numbers next.number (epoch + 1) high q.small next.digits ∙ ap (λ k. k + 1) (sym (same_numbers first.number epoch small (lower epoch q.small) first.digits));
          begun = start;
          reached = reached_there;
          client = mine;
          prepare_by = q.prepare_by;
          is_prepare = q.is_prepare;
          prepared = mid;
          prepares = first.comes;
          read = read_at;
          reads = one.comes;
          between = q.between;
          texts = q.texts_between;
          later = later;
          passes = lines_between;
          back = back;
          roll_by = q.roll_by;
          is_rollback = q.is_rollback;
          rolls = next.comes;
          last = last;
          again = two.comes;
        }) in
        texts_so start_of start mid read_at later back last one.bytes two.bytes led a b lines_between c e rest one.is two.is
        (subst (λ k. AreTheSameWhereToldApart seen failures config disks path asks k one.bytes two.bytes mid read_at back last) (same_numbers first.number epoch found.number (lower epoch q.small) first.digits) found)

    by_first : (start_of start : Desk D) → Lines_run seen failures start_of q.before q.texts_before start → IsReachedWithin seen failures config disks start → IsClientOf config start.caller.client
        → Lines_run seen failures start (q.prepare ∷ q.read ∷ (q.between ++ q.rollback ∷ q.again ∷ q.behind)) ((codes "ok " ++ decimal epoch) ∷ had ∷ (q.texts_between ++ (codes "ok " ++ decimal (epoch + 1)) ∷ has ∷ q.texts_behind)) ended
        → TextsAreTheSameWhereToldApart seen failures config disks all texts path asks epoch had has q start_of ended
    by_first start_of start led reached_there mine (mid, a, (read_at, b, rest)) =
        let second = split seen failures q.between q.texts_between (q.rollback ∷ q.again ∷ q.behind) ((codes "ok " ++ decimal (epoch + 1)) ∷ has ∷ q.texts_behind) read_at ended q.long_between rest in
        by_second start_of start mid read_at second.0 led reached_there mine a b second.1 second.2

    same_texts : (begun : Desk D) → IsReachedWithin seen failures config disks begun → IsClientOf config begun.caller.client → Lines_run seen failures begun all texts ended → TextsAreTheSameWhereToldApart seen failures config disks all texts path asks epoch had has q begun ended
    same_texts begun reached_there mine runs =
        let lined = subst (λ ls. Lines_run seen failures begun ls texts ended) q.lines_are runs in
        let told = subst (λ ts. Lines_run seen failures begun (q.before ++ q.prepare ∷ q.read ∷ (q.between ++ q.rollback ∷ q.again ∷ q.behind)) ts ended) q.texts_are lined in
        let first = split seen failures q.before q.texts_before (q.prepare ∷ q.read ∷ (q.between ++ q.rollback ∷ q.again ∷ q.behind)) ((codes "ok " ++ decimal epoch) ∷ had ∷ (q.texts_between ++ (codes "ok " ++ decimal (epoch + 1)) ∷ has ∷ q.texts_behind)) begun ended q.long_before told in
        by_first begun first.0 first.1 (reached seen failures config disks q.before q.texts_before begun first.0 first.1 reached_there) (lines_mine seen failures config q.before q.texts_before begun first.0 first.1 mine) first.2

module _ {D : Type 0} (law : (seen : D → List ℕ) (failures : D → ℕ) (config : Config) (disks : D × D) → ReadTheSameWhereToldApart seen failures config disks) where
  -- lines that are answered one after the other from a store's beginning on
  from_start : (seen : D → List ℕ) (failures : D → ℕ) (config : Config) (disks : D × D) → standing (seen disks.0) (seen disks.1) ≡ fresh → (begun ended : Desk D) → Starts seen failures config disks begun → (all texts : List (List ℕ)) → Lines_run seen failures begun all texts ended
      → scripts.ReadTheSameWhereToldApart seen failures config disks all texts begun ended
  from_start seen failures config disks standing_new begun ended starts all texts runs path asks epoch had has q =
      same_texts seen failures config disks (law seen failures config disks) standing_new ended all texts path asks epoch had has q begun (start_reaches seen failures config disks begun starts) (ap (λ c. c.last.client) starts.client, ap (λ c. c.chunk) starts.client) runs

  pub scripts_read_the_same : ScriptsReadTheSame D
  scripts_read_the_same seen failures config disks input old new s standing_new =
      from_start seen failures config disks standing_new s.begun s.ended s.starts (lines_of input) s.writes.texts s.writes.runs

  pub read_the_same_until_a_read_fails : ReadTheSameUntilAReadFails D
  read_the_same_until_a_read_fails seen failures config disks input left old new s standing_new =
      from_start seen failures config disks standing_new s.begun s.ended s.starts s.fails.lines s.fails.written.texts s.fails.written.runs

  pub read_the_same_until_a_write_fails : ReadTheSameUntilAWriteFails D
  read_the_same_until_a_write_fails seen failures config disks input left old new s standing_new = (
    from_start seen failures config disks standing_new s.begun s.fails.before s.starts s.fails.lines s.fails.written.texts s.fails.written.runs,
    from_start seen failures config disks standing_new s.begun s.ended s.starts (s.fails.lines ++ s.fails.line ∷ []) (s.fails.written.texts ++ s.fails.text ∷ [])
        (one_more seen failures s.fails.lines s.fails.written.texts s.fails.line s.fails.text s.begun s.fails.before s.ended s.fails.written.runs s.fails.answers),
  )
