-- Under which locations a client reads a file.
use Rattle.std.proofs.Common.{◌≡◌, ◌∙◌, ◌⊎◌, inl, inr, ◌++◌, ◌+◌, ◌-◌, ◌*◌, ◌/◌, ◌%◌, ◌==◌, ◌||◌, zero, suc, ℕ, Bool, true, false, List, [], ◌∷◌, min, Option, Some, None, Result, Ok, Err, refl, sym, ap, subst, arith}
use Rattle.std.specs.Prelude.{Contains, if◌then◌else◌, nat_le, nat_lt}
use Rattle.std.proofs.lemmas.Bool.Decides.{nat_tests}
use Rattle.std.proofs.lemmas.List.Elements.{Contains-append_left, Contains-push}
use Rattle.gs_base.specs.Members.{is_member}
use Rattle.gs_base.specs.declared.refusal.Refusal.{Refusal}
use Rattle.gs_base.specs.declared.refusal.Refusal.TheVariants as refusals
use Rattle.gs_client.specs.Files.{open_call, opened_with}
use Rattle.gs_client.specs.Looking.{anew_call, chunks_call, count_in, fetch_call, find_call, known_call, members_call, round_call}
use Rattle.gs_client.specs.Opened.{File}
use Rattle.gs_client.specs.Reading.{digest_call, end_call, length_call, piece_bytes, piece_call, pieces_call, read_call, stored_call, within}
use Rattle.gs_client.specs.Replies.{bytes_in, chunks_in, digest_in, given as given_by, length_in, located_in, looked, status_in}
use Rattle.gs_client.specs.Trees.{Call, and_then, look}
use Rattle.gs_client.specs.declared.link.Reply.{Reply}
use Rattle.gs_client.specs.declared.link.Reply.TheVariants as replies
use Rattle.gs_client_dialogue.specs.Dialogues.{Ask, Grow, Say, both, onward, otherwise, upon}
use Rattle.gs_client_dialogue.specs.Heard.{Says}
use Rattle.gs_client_part.specs.Reading.{piece_end, span}
use Rattle.gs_client_part.specs.declared.located.Located.{Located}
use Rattle.gs_msg.specs.declared.answer.Answer.{Answer}
use Rattle.gs_msg.specs.declared.answer.Answer.TheVariants as answers
use Rattle.gs_msg.specs.declared.answer.Status.{Status}
use Rattle.gs_msg.specs.declared.body.Given.{Given}
use Rattle.gs_msg.specs.declared.call.Call.TheVariants as calls
use Rattle.gs_msg.specs.declared.chunk.Asked.{Asked}
use Rattle.gs_msg.specs.declared.chunk.Asked.TheVariants as asks
use Rattle.gs_msg.specs.declared.event.Request.{Request}
use Rattle.gs_msg.specs.declared.event.Request.TheVariants as requests
use Rattle.gs_path.specs.Path.{Path}
use Rattle.gs_laws_looks.specs.clients.Files.{on_opened}
use Rattle.gs_laws_looks.specs.clients.Located.{AskSo, DigestersAskSo, MayAsk, ReadersAskSo, WasTold}

abbrev Pairs : Type 0
Pairs = List (Request × Reply)

ok_is : {A : Type 0} {a b : A} → ◌≡◌ {A = Result A Refusal} (Ok a) (Ok b) → a ≡ b
ok_is is = cc

never : {A Z : Type 0} {a : A} {e : Refusal} → ◌≡◌ {A = Result A Refusal} (Err e) (Ok a) → Z
never is = absurd (cc)

module _ (path : Path) where
  -- Whatever is answered, each request of a call may be asked, behind what was said before it; and what it comes to is this of what was said last.
  abbrev Goes : {A : Type 0} → Pairs → Call A → (Pairs → Result A Refusal → Type 0) → Type 0
  Goes before (Say result) P = P before result
  Goes before (Ask asked more) P = MayAsk path before asked × ((reply : Reply) → Goes (before ++ (asked, reply) ∷ []) (more reply) P)
  Goes before (Grow call) P = Goes before call P

  -- what is so where the call is not refused
  abbrev Where : {A : Type 0} → (Pairs → A → Type 0) → Pairs → Result A Refusal → Type 0
  Where {A} P before result = (x : A) → result ≡ Ok x → P before x

  weaker : {A : Type 0} (call : Call A) (before : Pairs) (P Q : Pairs → Result A Refusal → Type 0) → ((now : Pairs) (result : Result A Refusal) → P now result → Q now result) → Goes before call P → Goes before call Q
  weaker (Say result) before P Q to goes = to before result goes
  weaker (Ask asked more) before P Q to goes = (goes.0, λ reply. weaker (more reply) (before ++ (asked, reply) ∷ []) P Q to (goes.1 reply))
  weaker (Grow call) before P Q to goes = weaker call before P Q to goes

  upon_goes : {A B : Type 0} (call : Call A) (go : Result A Refusal → Call B) (before : Pairs) (P : Pairs → Result B Refusal → Type 0) → Goes before call (λ now result. Goes now (go result) P) → Goes before (upon call go) P
  upon_goes (Say result) go before P goes = goes
  upon_goes (Ask asked more) go before P goes = (goes.0, λ reply. upon_goes (more reply) go (before ++ (asked, reply) ∷ []) P (goes.1 reply))
  upon_goes (Grow call) go before P goes = upon_goes call go before P goes

  -- the second call goes on where the first isn't refused
  both_goes : {A B : Type 0} (call : Call A) (go : A → Call B) (before : Pairs) (Q : Pairs → A → Type 0) (P : Pairs → B → Type 0) → Goes before call (Where Q) → ((now : Pairs) (x : A) → Q now x → Goes now (go x) (Where P)) → Goes before (both call go) (Where P)
  both_goes {A} {B} call go before Q P first next = upon_goes call (onward go) before (Where P) (weaker call before (Where Q) (λ now result. Goes now (onward go result) (Where P)) by_result first)
    where
      by_result : (now : Pairs) (result : Result A Refusal) → Where Q now result → Goes now (onward go result) (Where P)
      by_result now (Ok x) is = next now x (is x refl)
      by_result now (Err e) is = λ y same. never same

  says_so : {A : Type 0} (call : Call A) (before pairs : Pairs) (P : Pairs → Result A Refusal → Type 0) (result : Result A Refusal) → Goes before call P → Says call pairs result → AskSo path before pairs
  says_so (Say said) before pairs P result goes says = subst (AskSo path before) (sym says.1) tt
  says_so (Ask asked more) before pairs P result goes (reply, rest, is, says) = subst (AskSo path before) (sym is) (goes.0, says_so (more reply) (before ++ (asked, reply) ∷ []) rest P result (goes.1 reply) says)
  says_so (Grow call) before pairs P result goes says = elim says [
    | inl more ↦ says_so call before pairs P result goes more
    | inr none ↦ subst (AskSo path before) (sym none.1) tt
  ]

  -- ---- what was told

  told_on : (before : Pairs) (pair : Request × Reply) (l : Located) → WasTold path before l → WasTold path (before ++ pair ∷ []) l
  told_on before pair l told = Contains-append_left before (pair ∷ []) _ told

  -- what is remembered of a chunk's place
  abbrev IsKnown : Pairs → Option Located → Type 0
  IsKnown before None = Unit {0}
  IsKnown before (Some l) = WasTold path before l

  -- ---- where a chunk is

  abbrev found_behind : Pairs → ℕ → Reply → Pairs
  found_behind before index reply = before ++ (requests.Call (calls.FindForReading path index), reply) ∷ []

  find_goes : (index : ℕ) (before : Pairs) → Goes before (find_call path index) (Where (λ now l. WasTold path now l))
  find_goes index before = (refl, by_reply)
    where
      by_answer : (answer : Answer) (l : Located) → located_in index answer ≡ Ok l → WasTold path (found_behind before index (replies.Answer answer)) l
      by_answer (answers.Location handle view epoch) l is = subst (WasTold path (found_behind before index (replies.Answer (answers.Location handle view epoch)))) (ok_is is) (Contains-push before (requests.Call (calls.FindForReading path index), replies.Answer (answers.Location handle view epoch)))
      by_answer answers.Nothing l is = never is
      by_answer (answers.Path p) l is = never is
      by_answer answers.Absent l is = never is
      by_answer (answers.Names names) l is = never is
      by_answer (answers.Status status) l is = never is
      by_answer (answers.Scanned removed forgotten) l is = never is
      by_answer (answers.Copied copied) l is = never is
      by_answer (answers.Epoch epoch) l is = never is
      by_answer (answers.Phase phase epoch) l is = never is

      by_reply : (reply : Reply) (l : Located) → and_then (located_in index) (looked reply) ≡ Ok l → WasTold path (found_behind before index reply) l
      by_reply (replies.Answer answer) l is = by_answer answer l is
      by_reply (replies.Outcome outcome) l is = never is
      by_reply (replies.Given given) l is = never is
      by_reply (replies.Refused refusal) l is = never is
      by_reply replies.Lost l is = never is

  -- ---- what its members give

  abbrev given_behind : Pairs → Located → Asked → ℕ → Reply → Pairs
  given_behind before l asked member reply = before ++ (requests.Fetch member l.handle l.view.stamp l.epoch asked, reply) ∷ []

  either : (m : ℕ) (members : List ℕ) → is_member (m ∷ members) m ≡ true
  either m members = rw (same m) refl
    where
      same : (n : ℕ) → (n == n) ≡ true
      same n = grind (arith, nat_tests)

  later : (m other : ℕ) (members : List ℕ) → is_member members other ≡ true → is_member (m ∷ members) other ≡ true
  later m other members is = by_test (m == other)
    where
      by_test : (b : Bool) → (b || is_member members other) ≡ true
      by_test true = refl
      by_test false = is

  members_go : (l : Located) (asked : Asked) (members : List ℕ) (last : Refusal) (before : Pairs) → ((m : ℕ) → is_member members m ≡ true → is_member l.view.members m ≡ true) → WasTold path before l → Goes before (members_call l asked members last) (Where (λ now g. WasTold path now l))
  members_go l asked [] last before all told = λ g is. never is
  members_go l asked (member ∷ members) last before all told = (
    record { location = l; told = told; member = all member (either member members); chunk = refl; under = refl; within = refl },
    λ reply. by_given reply (given_by last reply) (λ e. members_go l asked members e (given_behind before l asked member reply) (λ m is. all m (later member m members is)) (told_on before (requests.Fetch member l.handle l.view.stamp l.epoch asked, reply) l told)),
  )
    where
      by_given : (reply : Reply) (r : Result Given Refusal) → ((e : Refusal) → Goes (given_behind before l asked member reply) (members_call l asked members e) (Where (λ now g. WasTold path now l))) → Goes (given_behind before l asked member reply) (otherwise (members_call l asked members) r) (Where (λ now g. WasTold path now l))
      by_given reply (Ok g) more = λ x is. told_on before (requests.Fetch member l.handle l.view.stamp l.epoch asked, reply) l told
      by_given reply (Err e) more = more e

  abbrev Found : Pairs → Given × Located → Type 0
  Found now found = WasTold path now found.1

  round_goes : (l : Located) (asked : Asked) (before : Pairs) → WasTold path before l → Goes before (round_call l asked) (Where Found)
  round_goes l asked before told =
      both_goes (members_call l asked l.view.members refusals.NoReplica) (λ g. Say (Ok (g, l))) before (λ now g. WasTold path now l) Found (members_go l asked l.view.members refusals.NoReplica before (λ m is. is) told)
      (λ now g there. λ x is. subst (Found now) (ok_is is) there)

  anew_goes : (index : ℕ) (asked : Asked) (before : Pairs) → Goes before (anew_call path index asked) (Where Found)
  anew_goes index asked before = both_goes (find_call path index) (λ l. round_call l asked) before (λ now l. WasTold path now l) Found (find_goes index before) (λ now l told. round_goes l asked now told)

  fetch_goes : (known : Option Located) (index : ℕ) (asked : Asked) (before : Pairs) → IsKnown before known → Goes before (fetch_call path known index asked) (Where Found)
  fetch_goes None index asked before there = anew_goes index asked before
  fetch_goes (Some l) index asked before there = by_test (l.index == index)
    where
      by_round : (now : Pairs) (r : Result (Given × Located) Refusal) → Where Found now r → Goes now (otherwise (λ refusal. anew_call path index asked) r) (Where Found)
      by_round now (Ok found) is = is
      by_round now (Err e) is = anew_goes index asked now

      by_test : (b : Bool) → Goes before (if b then upon (round_call l asked) (otherwise (λ refusal. anew_call path index asked)) else anew_call path index asked) (Where Found)
      by_test true = upon_goes (round_call l asked) (otherwise (λ refusal. anew_call path index asked)) before (Where Found) (weaker (round_call l asked) before (Where Found) (λ now r. Goes now (otherwise (λ refusal. anew_call path index asked) r) (Where Found)) by_round (round_goes l asked before there))
      by_test false = anew_goes index asked before

  -- ---- a read

  said : {A B : Type 0} (r : Result A Refusal) (go : A → Call B) (before : Pairs) (P : Pairs → B → Type 0) → ((x : A) → Goes before (go x) (Where P)) → Goes before (both (Say r) go) (Where P)
  said r go before P next = both_goes (Say r) go before (λ now x. now ≡ before) P (λ x is. refl) (λ now x same. subst (λ (b : Pairs). Goes b (go x) (Where P)) (sym same) (next x))

  abbrev Remembers : {A : Type 0} → Pairs → A × Option Located → Type 0
  Remembers now found = IsKnown now found.1

  length_goes : (size : ℕ) (known : Option Located) (count : ℕ) (before : Pairs) → IsKnown before known → Goes before (length_call size path known count) (Where (Remembers {A = ℕ}))
  length_goes size known zero before there = λ x is. subst (Remembers {A = ℕ} before) (ok_is is) there
  length_goes size known (suc last) before there =
      both_goes (fetch_call path known last asks.Length) (λ f. both (Say (length_in f.0)) (λ many. both (Say (within size many)) (λ many. Say (Ok (last * size + many, Some f.1))))) before Found (Remembers {A = ℕ}) (fetch_goes known last asks.Length before there)
      (λ now f told. said (length_in f.0) (λ many. both (Say (within size many)) (λ many. Say (Ok (last * size + many, Some f.1)))) now (Remembers {A = ℕ}) (λ many. said (within size many) (λ many. Say (Ok (last * size + many, Some f.1))) now (Remembers {A = ℕ}) (λ many. λ x is. subst (Remembers {A = ℕ} now) (ok_is is) told)))

  end_goes : (size : ℕ) (known : Option Located) (count offset many : ℕ) (before : Pairs) → IsKnown before known → Goes before (end_call size path known count offset many) (Where (Remembers {A = ℕ}))
  end_goes size known count offset many before there = by_test (nat_le (offset + many) ((count - 1) * size))
    where
      ended : ℕ × Option Located → Call (ℕ × Option Located)
      ended l = if nat_lt l.0 offset then Say (Err refusals.Range) else Say (Ok (min (offset + many) l.0, l.1))

      by_length : (now : Pairs) (l : ℕ × Option Located) (b : Bool) → IsKnown now l.1 → Goes now (if b then Say (Err refusals.Range) else Say (Ok (min (offset + many) l.0, l.1))) (Where (Remembers {A = ℕ}))
      by_length now l true known = λ x is. never is
      by_length now l false known = λ x is. subst (Remembers {A = ℕ} now) (ok_is is) known

      by_test : (b : Bool) → Goes before (if b then Say (Ok (offset + many, known)) else both (length_call size path known count) ended) (Where (Remembers {A = ℕ}))
      by_test true = λ x is. subst (Remembers {A = ℕ} before) (ok_is is) there
      by_test false = both_goes (length_call size path known count) ended before (Remembers {A = ℕ}) (Remembers {A = ℕ}) (length_goes size known count before there) (λ now l known. by_length now l (nat_lt l.0 offset) known)

  abbrev Holds : Pairs → List ℕ × Located → Type 0
  Holds now found = WasTold path now found.1

  stored_goes : (known : Option Located) (index : ℕ) (asked : Asked) (before : Pairs) → IsKnown before known → Goes before (stored_call path known index asked) (Where Holds)
  stored_goes known index asked before there =
      both_goes (fetch_call path known index asked) (λ f. both (Say (bytes_in asked f.0)) (λ bytes. Say (Ok (bytes, f.1)))) before Found Holds (fetch_goes known index asked before there)
      (λ now f told. said (bytes_in asked f.0) (λ bytes. Say (Ok (bytes, f.1))) now Holds (λ bytes. λ x is. subst (Holds now) (ok_is is) told))

  piece_goes : (known : Option Located) (count index start many : ℕ) (before : Pairs) → IsKnown before known → Goes before (piece_call path known count index start many) (Where Holds)
  piece_goes known count index start many before there =
      both_goes (stored_call path known index (asks.Bytes start many)) (λ s. Say (Ok (piece_bytes count index many s.0, s.1))) before Holds Holds (stored_goes known index (asks.Bytes start many) before there)
      (λ now s told. λ x is. subst (Holds now) (ok_is is) told)

  pieces_go : (size count end : ℕ) (known : Option Located) (index start more : ℕ) (read : List ℕ) (before : Pairs) → IsKnown before known → Goes before (pieces_call size path count end known index start more read) (Where (λ now found. Unit {0}))
  pieces_go size count end known index start zero read before there = λ x is. tt
  pieces_go size count end known index start (suc more) read before there =
      both_goes (piece_call path known count index start (piece_end size end index - start)) (λ p. Grow (pieces_call size path count end (Some p.1) (index + 1) 0 more (read ++ p.0))) before Holds (λ now found. Unit {0}) (piece_goes known count index start (piece_end size end index - start) before there)
      (λ now p told. pieces_go size count end (Some p.1) (index + 1) 0 more (read ++ p.0) now told)

  -- ---- how many chunks there are

  chunks_go : (before : Pairs) → Goes before (chunks_call path) (Where (λ now n. Unit {0}))
  chunks_go before =
      both_goes (Grow (look (calls.Status path) status_in)) (λ status. both (Say (chunks_in status)) (λ chunks. Say (count_in chunks))) before (λ now status. Unit {0}) (λ now n. Unit {0}) (refl, λ reply x is. tt)
      (λ now status _. said (chunks_in status) (λ chunks. Say (count_in chunks)) now (λ now n. Unit {0}) (λ chunks. λ x is. tt))

  abbrev IsOpened : File → Type 0
  IsOpened file = (chunks : ℕ) × (file ≡ opened_with path chunks)

  opened_goes : {A : Type 0} (call : File → Call A) → ((chunks : ℕ) (now : Pairs) → Goes now (call (opened_with path chunks)) (Where (λ last x. Unit {0}))) → Goes [] (on_opened path call) (Where (λ last x. Unit {0}))
  opened_goes call goes =
      both_goes (open_call path) call [] (λ now file. IsOpened file) (λ last x. Unit {0})
      (both_goes (chunks_call path) (λ chunks. Say (Ok (opened_with path chunks))) [] (λ now n. Unit {0}) (λ now file. IsOpened file) (chunks_go []) (λ now chunks _. λ x is. (chunks, sym (ok_is is))))
      (λ now file is. subst (λ (f : File). Goes now (call f) (Where (λ last x. Unit {0}))) (sym is.1) (goes is.0 now))

  known_goes : (chunks : ℕ) {A : Type 0} (go : ℕ → Call A) (before : Pairs) → ((n : ℕ) → Goes before (go n) (Where (λ last x. Unit {0}))) → Goes before (both (known_call path (Some chunks)) go) (Where (λ last x. Unit {0}))
  known_goes chunks go before next = said (Ok chunks) go before (λ last x. Unit {0}) next

  read_goes : (size offset many chunks : ℕ) (now : Pairs) → Goes now (read_call size path (Some chunks) None offset many) (Where (λ last x. Unit {0}))
  read_goes size offset many chunks now =
      known_goes chunks (λ n. both (end_call size path None n offset many) (λ e. pieces_call size path n e.0 e.1 (offset / size) (offset % size) (span size offset e.0) [])) now
      (λ n. both_goes (end_call size path None n offset many) (λ e. pieces_call size path n e.0 e.1 (offset / size) (offset % size) (span size offset e.0) []) now (Remembers {A = ℕ}) (λ last x. Unit {0}) (end_goes size None n offset many now tt)
      (λ last e told. pieces_go size n e.0 e.1 (offset / size) (offset % size) (span size offset e.0) [] last told))

  digest_goes : (index block chunks : ℕ) (now : Pairs) → Goes now (digest_call path (Some chunks) None index block) (Where (λ last x. Unit {0}))
  digest_goes index block chunks now =
      known_goes chunks (λ n. both (fetch_call path None index (asks.Digest block)) (λ f. both (Say (digest_in f.0)) (λ digest. Say (Ok (digest, Some f.1))))) now
      (λ n. both_goes (fetch_call path None index (asks.Digest block)) (λ f. both (Say (digest_in f.0)) (λ digest. Say (Ok (digest, Some f.1)))) now Found (λ last x. Unit {0}) (fetch_goes None index (asks.Digest block) now tt)
      (λ last f told. said (digest_in f.0) (λ digest. Say (Ok (digest, Some f.1))) last (λ last x. Unit {0}) (λ digest. λ x is. tt)))

pub readers_ask_so : (path : Path) → ReadersAskSo path
readers_ask_so path size offset many pairs result says =
    let call : File → Call (List ℕ × Option Located) = λ file. read_call size file.path file.opened file.located offset many in
    says_so path (on_opened path call) [] pairs (Where path (λ last x. Unit {0})) result (opened_goes path call (λ chunks now. read_goes path size offset many chunks now)) says

pub digesters_ask_so : (path : Path) → DigestersAskSo path
digesters_ask_so path index block pairs result says =
    let call : File → Call (List ℕ × Option Located) = λ file. digest_call file.path file.opened file.located index block in
    says_so path (on_opened path call) [] pairs (Where path (λ last x. Unit {0})) result (opened_goes path call (λ chunks now. digest_goes path index block chunks now)) says
