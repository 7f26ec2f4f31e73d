-- What a dialogue of a read comes to, request by request.
use Rattle.std.proofs.Common.{◌≡◌, ◌∙◌, ◌⊎◌, inl, inr, ◌++◌, ◌+◌, ◌-◌, ◌*◌, ◌/◌, ◌%◌, ◌==◌, zero, suc, ℕ, Bool, true, false, List, [], ◌∷◌, length, map, min, Option, Some, None, Result, Ok, Err, refl, sym, ap, subst, append_assoc, append-nil, arith}
use Rattle.std.specs.Prelude.{drop, if◌then◌else◌, nat_le, nat_lt, slice_get, take}
use Rattle.std.proofs.lemmas.Bool.Decides.{nat_tests}
use Rattle.gs_base.specs.declared.refusal.Refusal.{Refusal}
use Rattle.gs_base.specs.declared.refusal.Refusal.TheVariants as refusals
use Rattle.gs_block.specs.Stored.{digest_at}
use Rattle.gs_client.specs.Files.{open_call, opened_with}
use Rattle.gs_client.specs.Looking.{anew_call, chunks_call, count_in, fetch_call, find_call, known_call, members_call, round_call}
use Rattle.gs_client.specs.Opened.{File}
use Rattle.gs_client.specs.Reading.{digest_call, end_call, length_call, piece_bytes, piece_call, pieces_call, read_call, stored_call, within}
use Rattle.gs_client.specs.Replies.{as_many, bytes_in, chunks_in, digest_in, given as given_by, length_in, located_in, looked, status_in}
use Rattle.gs_client.specs.Trees.{Call, and_then, look}
use Rattle.gs_client.specs.declared.link.Reply.{Reply}
use Rattle.gs_client.specs.declared.link.Reply.TheVariants as replies
use Rattle.gs_client_dialogue.specs.Dialogues.{Ask, FollowsDialogue, Grow, Say, both, onward, otherwise, upon}
use Rattle.gs_client_dialogue.specs.Heard.{Says}
use Rattle.gs_client_part.specs.Reading.{piece_end, span}
use Rattle.gs_client_part.specs.Writing.{most_chunks}
use Rattle.gs_client_part.specs.declared.located.Located.{Located}
use Rattle.gs_msg.specs.declared.answer.Answer.{Answer}
use Rattle.gs_msg.specs.declared.answer.Answer.TheVariants as answers
use Rattle.gs_msg.specs.declared.answer.ChunkStatus.{ChunkStatus}
use Rattle.gs_msg.specs.declared.answer.Status.{Status}
use Rattle.gs_msg.specs.declared.answer.Status.TheVariants as statuses
use Rattle.gs_msg.specs.declared.body.Given.{Given}
use Rattle.gs_msg.specs.declared.call.Call.TheVariants as calls
use Rattle.gs_msg.specs.declared.chunk.Asked.{Asked}
use Rattle.gs_msg.specs.declared.chunk.Asked.TheVariants as asks
use Rattle.gs_msg.specs.declared.event.Request.{Request}
use Rattle.gs_msg.specs.declared.event.Request.TheVariants as requests
use Rattle.gs_laws_looks.specs.clients.Files.{AreOf, DigestsWhatStands, IsOf, ReadsWhatStands, Stands, TellsChunks, TellsPlace, end_of, length_of, part_of, pieces_of, read_of, text_at, text_in}

-- ---- results

ok_is : {A : Type 0} {a b : A} → ◌≡◌ {A = Result A Refusal} (Ok a) (Ok b) → a ≡ b
ok_is is = cc

never : {A Z : Type 0} {a : A} {e : Refusal} → ◌≡◌ {A = Result A Refusal} (Ok a) (Err e) → Z
never is = absurd (cc)

length_mapped : {A B : Type 0} (g : A → B) (xs : List A) → length (map g xs) ≡ length xs
length_mapped g [] = refl
length_mapped g (x ∷ xs) = ap suc (length_mapped g xs)

-- ---- a call behind another

module _ {S : Type 0} (carries : S → Request → Reply → S → Type 0) where
  abbrev Follows : {A : Type 0} → Call A → S → Result A Refusal → S → Type 0
  Follows call old result new = FollowsDialogue carries call old result new

  upon_splits : {A B : Type 0} (call : Call A) (go : Result A Refusal → Call B) (old new : S) (y : B) → Follows (upon call go) old (Ok y) new → (r : Result A Refusal) × (mid : S) × Follows call old r mid × Follows (go r) mid (Ok y) new
  upon_splits (Say r) go old new y h = (r, old, (refl, refl), h)
  upon_splits (Ask asked more) go old new y (reply, mid, one, rest) = (let s = upon_splits (more reply) go mid new y rest in (s.0, s.1, (reply, mid, one, s.2), s.3))
  upon_splits (Grow call) go old new y h = elim h [
    | inl goes ↦ (let s = upon_splits call go old new y goes in (s.0, s.1, inl s.2, s.3))
    | inr refused ↦ never refused.0
  ]

  -- where neither is refused, so of both
  both_splits : {A B : Type 0} (call : Call A) (go : A → Call B) (old new : S) (y : B) → Follows (both call go) old (Ok y) new → (x : A) × (mid : S) × Follows call old (Ok x) mid × Follows (go x) mid (Ok y) new
  both_splits {A} {B} call go old new y h = (let s = upon_splits call (onward go) old new y h in by_result s.0 s.1 s.2 s.3)
    where
      by_result : (r : Result A Refusal) (mid : S) → Follows call old r mid → Follows (onward go r) mid (Ok y) new → (x : A) × (mid : S) × Follows call old (Ok x) mid × Follows (go x) mid (Ok y) new
      by_result (Ok x) mid first rest = (x, mid, first, rest)
      by_result (Err e) mid first rest = never rest.0

  grown : {A : Type 0} (call : Call A) (old new : S) (y : A) → Follows (Grow call) old (Ok y) new → Follows call old (Ok y) new
  grown call old new y h = elim h [ inl goes ↦ goes | inr refused ↦ never refused.0 ]

  chosen : {A : Type 0} (this that : Call A) (b : Bool) (old new : S) (y : A) → Follows (if b then this else that) old (Ok y) new → ((b ≡ true) × Follows this old (Ok y) new) ⊎ ((b ≡ false) × Follows that old (Ok y) new)
  chosen this that true old new y h = inl (refl, h)
  chosen this that false old new y h = inr (refl, h)

  -- ---- where each answer is of what stands

  module _ (f : Stands) (tells : (old new : S) (request : Request) (reply : Reply) → carries old request reply new → IsOf f request reply) where
    -- what is remembered of a chunk's place
    abbrev IsThere : Located → Type 0
    IsThere l = slice_get f.chunks l.index ≡ Some l.handle

    abbrev IsKnown : Option Located → Type 0
    IsKnown None = Unit {0}
    IsKnown (Some l) = IsThere l

    text_there : (l : Located) → IsThere l → f.text l.handle ≡ text_at f l.index
    text_there l there = sym (ap (λ o. text_in o f.text) there)

    -- ---- how many chunks there are

    counted : (cs : List ChunkStatus) (n : ℕ) → Ok n ≡ count_in cs → n ≡ length cs
    counted cs n is = by_test (nat_le (length cs) most_chunks) is
      where
        by_test : (b : Bool) → ◌≡◌ {A = Result ℕ Refusal} (Ok n) (if b then Ok (length cs) else Err refusals.Stray) → n ≡ length cs
        by_test true is = ok_is is
        by_test false is = never is

    of_status : (status : Status) (cs : List ChunkStatus) → TellsChunks f (answers.Status status) → Ok cs ≡ chunks_in status → map (λ (c : ChunkStatus). c.handle) cs ≡ f.chunks
    of_status statuses.Directory cs told is = never is
    of_status (statuses.File chunks) cs told is = ap (λ (xs : List ChunkStatus). map (λ (c : ChunkStatus). c.handle) xs) (ok_is is) ∙ told

    status_told : (answer : Answer) (status : Status) → TellsChunks f answer → Ok status ≡ status_in answer → TellsChunks f (answers.Status status)
    status_told (answers.Status other) status told is = subst (λ s. TellsChunks f (answers.Status s)) (sym (ok_is is)) told
    status_told answers.Nothing status told is = never is
    status_told (answers.Path p) status told is = never is
    status_told answers.Absent status told is = never is
    status_told (answers.Names names) status told is = never is
    status_told (answers.Location handle view epoch) status told is = never is
    status_told (answers.Scanned removed forgotten) status told is = never is
    status_told (answers.Copied copied) status told is = never is
    status_told (answers.Epoch epoch) status told is = never is
    status_told (answers.Phase phase epoch) status told is = never is

    asked_status : (old new : S) (status : Status) → Follows (look (calls.Status f.path) status_in) old (Ok status) new → TellsChunks f (answers.Status status)
    asked_status old new status (reply, mid, one, said) = by_reply reply (tells old mid (requests.Call (calls.Status f.path)) reply one) said.0
      where
        by_reply : (reply : Reply) → IsOf f (requests.Call (calls.Status f.path)) reply → Ok status ≡ and_then status_in (looked reply) → TellsChunks f (answers.Status status)
        by_reply (replies.Answer answer) told is = status_told answer status (told refl) is
        by_reply (replies.Outcome outcome) told is = never is
        by_reply (replies.Given given) told is = never is
        by_reply (replies.Refused refusal) told is = never is
        by_reply replies.Lost told is = never is

    chunks_are : (old new : S) (n : ℕ) → Follows (chunks_call f.path) old (Ok n) new → n ≡ length f.chunks
    chunks_are old new n h =
        let first = both_splits (Grow (look (calls.Status f.path) status_in)) (λ status. both (Say (chunks_in status)) (λ chunks. Say (count_in chunks))) old new n h in
        let told = asked_status old first.1 first.0 (grown (look (calls.Status f.path) status_in) old first.1 first.0 first.2) in
        let next = both_splits (Say (chunks_in first.0)) (λ chunks. Say (count_in chunks)) first.1 new n first.3 in
        let handles = of_status first.0 next.0 told next.2.0 in
        counted next.0 n next.3.0 ∙ sym (length_mapped (λ (c : ChunkStatus). c.handle) next.0) ∙ ap (λ (xs : List ℕ). length xs) handles

    -- ---- where a chunk is

    place_told : (index : ℕ) (answer : Answer) (l : Located) → TellsPlace f index answer → Ok l ≡ located_in index answer → IsThere l × (l.index ≡ index)
    place_told index (answers.Location handle view epoch) l told is =
        let same : l ≡ record { index = index; handle = handle; view = view; epoch = epoch } = ok_is is in
        (subst (λ (k : Located). IsThere k) (sym same) told, ap (λ (k : Located). k.index) same)
    place_told index answers.Nothing l told is = never is
    place_told index (answers.Path p) l told is = never is
    place_told index answers.Absent l told is = never is
    place_told index (answers.Names names) l told is = never is
    place_told index (answers.Status status) l told is = never is
    place_told index (answers.Scanned removed forgotten) l told is = never is
    place_told index (answers.Copied copied) l told is = never is
    place_told index (answers.Epoch epoch) l told is = never is
    place_told index (answers.Phase phase epoch) l told is = never is

    found_there : (index : ℕ) (old new : S) (l : Located) → Follows (find_call f.path index) old (Ok l) new → IsThere l × (l.index ≡ index)
    found_there index old new l h = by_asked (grown (look (calls.FindForReading f.path index) (located_in index)) old new l h)
      where
        by_reply : (reply : Reply) → IsOf f (requests.Call (calls.FindForReading f.path index)) reply → Ok l ≡ and_then (located_in index) (looked reply) → IsThere l × (l.index ≡ index)
        by_reply (replies.Answer answer) told is = place_told index answer l (told refl) is
        by_reply (replies.Outcome outcome) told is = never is
        by_reply (replies.Given given) told is = never is
        by_reply (replies.Refused refusal) told is = never is
        by_reply replies.Lost told is = never is

        by_asked : Follows (look (calls.FindForReading f.path index) (located_in index)) old (Ok l) new → IsThere l × (l.index ≡ index)
        by_asked (reply, mid, one, said) = by_reply reply (tells old mid (requests.Call (calls.FindForReading f.path index)) reply one) said.0

    -- ---- what its members give

    members_give : (l : Located) (asked : Asked) (members : List ℕ) (last : Refusal) (old new : S) (g : Given) → Follows (members_call l asked members last) old (Ok g) new → g ≡ part_of f.block (f.text l.handle) asked
    members_give l asked [] last old new g h = never h.0
    members_give l asked (member ∷ members) last old new g (reply, mid, one, rest) = by_reply reply (tells old mid (requests.Fetch member l.handle l.view.stamp l.epoch asked) reply one) rest (λ next goes. members_give l asked members next mid new g goes)
      where
        by_reply : (reply : Reply) → IsOf f (requests.Fetch member l.handle l.view.stamp l.epoch asked) reply → Follows (otherwise (members_call l asked members) (given_by last reply)) mid (Ok g) new
            → ((next : Refusal) → Follows (members_call l asked members next) mid (Ok g) new → g ≡ part_of f.block (f.text l.handle) asked) → g ≡ part_of f.block (f.text l.handle) asked
        by_reply (replies.Given other) told rest more = ok_is rest.0 ∙ told
        by_reply (replies.Answer answer) told rest more = more refusals.Stray rest
        by_reply (replies.Outcome outcome) told rest more = more refusals.Stray rest
        by_reply (replies.Refused refusal) told rest more = more refusal rest
        by_reply replies.Lost told rest more = more last rest

    -- a part of the chunk at a place, and where it is
    abbrev IsGiven : Asked → ℕ → Given × Located → Type 0
    IsGiven asked index found = (found.0 ≡ part_of f.block (text_at f index) asked) × IsThere found.1

    round_gives : (l : Located) (asked : Asked) (index : ℕ) (old new : S) (found : Given × Located) → IsThere l → l.index ≡ index → Follows (round_call l asked) old (Ok found) new → IsGiven asked index found
    round_gives l asked index old new found there at h =
        let s = both_splits (members_call l asked l.view.members refusals.NoReplica) (λ g. Say (Ok (g, l))) old new found h in
        let same : found ≡ (s.0, l) = ok_is s.3.0 in
        let given = members_give l asked l.view.members refusals.NoReplica old s.1 s.0 s.2 in
        (ap (λ (p : Given × Located). p.0) same ∙ given ∙ ap (λ (t : List ℕ). part_of f.block t asked) (text_there l there ∙ ap (text_at f) at), subst (λ (k : Located). IsThere k) (sym (ap (λ (p : Given × Located). p.1) same)) there)

    anew_gives : (index : ℕ) (asked : Asked) (old new : S) (found : Given × Located) → Follows (anew_call f.path index asked) old (Ok found) new → IsGiven asked index found
    anew_gives index asked old new found h =
        let s = both_splits (find_call f.path index) (λ l. round_call l asked) old new found h in
        let there = found_there index old s.1 s.0 s.2 in
        round_gives s.0 asked index s.1 new found there.0 there.1 s.3

    same_index : (m n : ℕ) → (m == n) ≡ true → m ≡ n
    same_index m n is = grind (arith, nat_tests)

    fetch_gives : (known : Option Located) (index : ℕ) (asked : Asked) (old new : S) (found : Given × Located) → IsKnown known → Follows (fetch_call f.path known index asked) old (Ok found) new → IsGiven asked index found
    fetch_gives None index asked old new found there h = anew_gives index asked old new found h
    fetch_gives (Some l) index asked old new found there h = elim (chosen (upon (round_call l asked) (otherwise (λ refusal. anew_call f.path index asked))) (anew_call f.path index asked) (l.index == index) old new found h) [
      | inl (at, first) ↦ (let s = upon_splits (round_call l asked) (otherwise (λ refusal. anew_call f.path index asked)) old new found first in by_round (same_index l.index index at) s.0 s.1 s.2 s.3)
      | inr (other, anew) ↦ anew_gives index asked old new found anew
    ]
      where
        by_round : l.index ≡ index → (r : Result (Given × Located) Refusal) (mid : S) → Follows (round_call l asked) old r mid → Follows (otherwise (λ refusal. anew_call f.path index asked) r) mid (Ok found) new → IsGiven asked index found
        by_round at (Ok other) mid first rest = subst (IsGiven asked index) (sym (ok_is rest.0)) (round_gives l asked index old mid other there at first)
        by_round at (Err e) mid first rest = anew_gives index asked mid new found rest

    -- ---- a read

    within_is : (size many n : ℕ) → Ok n ≡ within size many → n ≡ many
    within_is size many n is = by_test (nat_le many size) is
      where
        by_test : (b : Bool) → ◌≡◌ {A = Result ℕ Refusal} (Ok n) (if b then Ok many else Err refusals.Stray) → n ≡ many
        by_test true is = ok_is is
        by_test false is = never is

    -- a number, and what is remembered
    abbrev IsCounted : ℕ → ℕ × Option Located → Type 0
    IsCounted n found = (found.0 ≡ n) × IsKnown found.1

    length_is : (size : ℕ) (known : Option Located) (count : ℕ) (old new : S) (found : ℕ × Option Located) → IsKnown known → Follows (length_call size f.path known count) old (Ok found) new → IsCounted (length_of size (text_at f) count) found
    length_is size known zero old new found there h = (let same = ok_is h.0 in (ap (λ (p : ℕ × Option Located). p.0) same, subst IsKnown (sym (ap (λ (p : ℕ × Option Located). p.1) same)) there))
    length_is size known (suc last) old new found there h =
        let a = both_splits (fetch_call f.path known last asks.Length) (λ g. both (Say (length_in g.0)) (λ many. both (Say (within size many)) (λ many. Say (Ok (last * size + many, Some g.1))))) old new found h in
        let given = fetch_gives known last asks.Length old a.1 a.0 there a.2 in
        let b = both_splits (Say (length_in a.0.0)) (λ many. both (Say (within size many)) (λ many. Say (Ok (last * size + many, Some a.0.1)))) a.1 new found a.3 in
        let c = both_splits (Say (within size b.0)) (λ many. Say (Ok (last * size + many, Some a.0.1))) b.1 new found b.3 in
        let same : found ≡ (last * size + c.0, Some a.0.1) = ok_is c.3.0 in
        let long : b.0 ≡ length (text_at f last) = ok_is {b = length (text_at f last)} (b.2.0 ∙ ap length_in given.0) in
        let kept : c.0 ≡ b.0 = within_is size b.0 c.0 c.2.0 in
        (ap (λ (p : ℕ × Option Located). p.0) same ∙ ap (λ n. last * size + n) (kept ∙ long), subst IsKnown (sym (ap (λ (p : ℕ × Option Located). p.1) same)) given.1)

    end_is : (size : ℕ) (known : Option Located) (count offset many : ℕ) (old new : S) (found : ℕ × Option Located) → IsKnown known → Follows (end_call size f.path known count offset many) old (Ok found) new → IsCounted (end_of size (text_at f) count offset many) found
    end_is size known count offset many old new found there h = elim (chosen (Say (Ok (offset + many, known))) behind (nat_le (offset + many) ((count - 1) * size)) old new found h) [
      | inl (full, is) ↦ (let same = ok_is is.0 in (ap (λ (p : ℕ × Option Located). p.0) same ∙ sym (ap (λ b. if b then offset + many else min (offset + many) (length_of size (text_at f) count)) full), subst IsKnown (sym (ap (λ (p : ℕ × Option Located). p.1) same)) there))
      | inr (past, goes) ↦ (let r = by_length goes in (r.0 ∙ sym (ap (λ b. if b then offset + many else min (offset + many) (length_of size (text_at f) count)) past), r.1))
    ]
      where
        behind : Call (ℕ × Option Located)
        behind = both (length_call size f.path known count) (λ l. if nat_lt l.0 offset then Say (Err refusals.Range) else Say (Ok (min (offset + many) l.0, l.1)))

        by_length : Follows behind old (Ok found) new → IsCounted (min (offset + many) (length_of size (text_at f) count)) found
        by_length goes =
            let s = both_splits (length_call size f.path known count) (λ l. if nat_lt l.0 offset then Say (Err refusals.Range) else Say (Ok (min (offset + many) l.0, l.1))) old new found goes in
            let l = length_is size known count old s.1 s.0 there s.2 in
            elim (chosen (Say (Err refusals.Range)) (Say (Ok (min (offset + many) s.0.0, s.0.1))) (nat_lt s.0.0 offset) s.1 new found s.3) [
              | inl (short, is) ↦ never is.0
              | inr (long, is) ↦ (let same = ok_is is.0 in (ap (λ (p : ℕ × Option Located). p.0) same ∙ ap (min (offset + many)) l.0, subst IsKnown (sym (ap (λ (p : ℕ × Option Located). p.1) same)) l.1))
            ]

    many_bytes : (many : ℕ) (bytes xs : List ℕ) → Ok xs ≡ as_many many bytes → xs ≡ bytes
    many_bytes many bytes xs is = by_test (nat_le (length bytes) many) is
      where
        by_test : (b : Bool) → ◌≡◌ {A = Result (List ℕ) Refusal} (Ok xs) (if b then Ok bytes else Err refusals.Stray) → xs ≡ bytes
        by_test true is = ok_is is
        by_test false is = never is

    -- bytes of a chunk, and where it is
    abbrev IsPart : List ℕ → List ℕ × Located → Type 0
    IsPart bytes found = (found.0 ≡ bytes) × IsThere found.1

    stored_is : (known : Option Located) (index start many : ℕ) (old new : S) (found : List ℕ × Located) → IsKnown known → Follows (stored_call f.path known index (asks.Bytes start many)) old (Ok found) new → IsPart (take many (drop start (text_at f index))) found
    stored_is known index start many old new found there h =
        let a = both_splits (fetch_call f.path known index (asks.Bytes start many)) (λ g. both (Say (bytes_in (asks.Bytes start many) g.0)) (λ bytes. Say (Ok (bytes, g.1)))) old new found h in
        let given = fetch_gives known index (asks.Bytes start many) old a.1 a.0 there a.2 in
        let b = both_splits (Say (bytes_in (asks.Bytes start many) a.0.0)) (λ bytes. Say (Ok (bytes, a.0.1))) a.1 new found a.3 in
        let same : found ≡ (b.0, a.0.1) = ok_is b.3.0 in
        let bytes : b.0 ≡ take many (drop start (text_at f index)) = many_bytes many (take many (drop start (text_at f index))) b.0 (b.2.0 ∙ ap (bytes_in (asks.Bytes start many)) given.0) in
        (ap (λ (p : List ℕ × Located). p.0) same ∙ bytes, subst (λ (k : Located). IsThere k) (sym (ap (λ (p : List ℕ × Located). p.1) same)) given.1)

    piece_is : (known : Option Located) (count index start many : ℕ) (old new : S) (found : List ℕ × Located) → IsKnown known → Follows (piece_call f.path known count index start many) old (Ok found) new
        → IsPart (piece_bytes count index many (take many (drop start (text_at f index)))) found
    piece_is known count index start many old new found there h =
        let s = both_splits (stored_call f.path known index (asks.Bytes start many)) (λ x. Say (Ok (piece_bytes count index many x.0, x.1))) old new found h in
        let part = stored_is known index start many old s.1 s.0 there s.2 in
        let same : found ≡ (piece_bytes count index many s.0.0, s.0.1) = ok_is s.3.0 in
        (ap (λ (p : List ℕ × Located). p.0) same ∙ ap (piece_bytes count index many) part.0, subst (λ (k : Located). IsThere k) (sym (ap (λ (p : List ℕ × Located). p.1) same)) part.1)

    pieces_are : (size count end : ℕ) (known : Option Located) (index start more : ℕ) (read : List ℕ) (old new : S) (found : List ℕ × Option Located) → IsKnown known → Follows (pieces_call size f.path count end known index start more read) old (Ok found) new
        → found.0 ≡ read ++ pieces_of size (text_at f) count end index start more
    pieces_are size count end known index start zero read old new found there h = ap (λ (p : List ℕ × Option Located). p.0) (ok_is h.0) ∙ sym (append-nil read)
    pieces_are size count end known index start (suc more) read old new found there h =
        let s = both_splits (piece_call f.path known count index start (piece_end size end index - start)) (λ p. Grow (pieces_call size f.path count end (Some p.1) (index + 1) 0 more (read ++ p.0))) old new found h in
        let piece = piece_is known count index start (piece_end size end index - start) old s.1 s.0 there s.2 in
        let rest = grown (pieces_call size f.path count end (Some s.0.1) (index + 1) 0 more (read ++ s.0.0)) s.1 new found s.3 in
        let behind : List ℕ = pieces_of size (text_at f) count end (index + 1) 0 more in
        pieces_are size count end (Some s.0.1) (index + 1) 0 more (read ++ s.0.0) s.1 new found piece.1 rest ∙ append_assoc read s.0.0 behind ∙ ap (λ (xs : List ℕ). read ++ (xs ++ behind)) piece.0

    opened : {A : Type 0} (call : File → Call A) (old new : S) (y : A) → Follows (both (open_call f.path) call) old (Ok y) new → (mid : S) × Follows (call (opened_with f.path (length f.chunks))) mid (Ok y) new
    opened call old new y h =
        let a = both_splits (open_call f.path) call old new y h in
        let b = both_splits (chunks_call f.path) (λ chunks. Say (Ok (opened_with f.path chunks))) old a.1 a.0 a.2 in
        let file : a.0 ≡ opened_with f.path (length f.chunks) = ok_is b.3.0 ∙ ap (opened_with f.path) (chunks_are old b.1 b.0 b.2) in
        (a.1, subst (λ (x : File). Follows (call x) a.1 (Ok y) new) file a.3)

    read_is : (size offset many : ℕ) (old new : S) (found : List ℕ × Option Located) → Follows (read_call size f.path (Some (length f.chunks)) None offset many) old (Ok found) new → found.0 ≡ read_of size (text_at f) (length f.chunks) offset many
    read_is size offset many old new found h =
        let count : ℕ = length f.chunks in
        let a = both_splits (known_call f.path (Some count)) (λ chunks. both (end_call size f.path None chunks offset many) (λ e. pieces_call size f.path chunks e.0 e.1 (offset / size) (offset % size) (span size offset e.0) [])) old new found h in
        let same : a.0 ≡ count = ok_is a.2.0 in
        let rest = subst (λ n. Follows (both (end_call size f.path None n offset many) (λ e. pieces_call size f.path n e.0 e.1 (offset / size) (offset % size) (span size offset e.0) [])) a.1 (Ok found) new) same a.3 in
        let b = both_splits (end_call size f.path None count offset many) (λ e. pieces_call size f.path count e.0 e.1 (offset / size) (offset % size) (span size offset e.0) []) a.1 new found rest in
        let end = end_is size None count offset many a.1 b.1 b.0 tt b.2 in
        pieces_are size count b.0.0 b.0.1 (offset / size) (offset % size) (span size offset b.0.0) [] b.1 new found end.1 b.3
        ∙ ap (λ n. pieces_of size (text_at f) count n (offset / size) (offset % size) (span size offset n)) end.0

    digest_is : (index block : ℕ) (old new : S) (found : List ℕ × Option Located) → Follows (digest_call f.path (Some (length f.chunks)) None index block) old (Ok found) new → found.0 ≡ digest_at f.block (text_at f index) block
    digest_is index block old new found h =
        let a = both_splits (known_call f.path (Some (length f.chunks))) (λ chunks. both (fetch_call f.path None index (asks.Digest block)) (λ g. both (Say (digest_in g.0)) (λ digest. Say (Ok (digest, Some g.1))))) old new found h in
        let b = both_splits (fetch_call f.path None index (asks.Digest block)) (λ g. both (Say (digest_in g.0)) (λ digest. Say (Ok (digest, Some g.1)))) a.1 new found a.3 in
        let given = fetch_gives None index (asks.Digest block) a.1 b.1 b.0 tt b.2 in
        let c = both_splits (Say (digest_in b.0.0)) (λ digest. Say (Ok (digest, Some b.0.1))) b.1 new found b.3 in
        ap (λ (p : List ℕ × Option Located). p.0) (ok_is c.3.0) ∙ ok_is (c.2.0 ∙ ap digest_in given.0)

-- ---- by the requests and answers alone

-- what is still to be asked and answered
record Left (f : Stands) : Type 0 where
  pairs : List (Request × Reply)
  all : AreOf f pairs

abbrev hands : (f : Stands) → Left f → Request → Reply → Left f → Type 0
hands f old request reply new = old.pairs ≡ (request, reply) ∷ new.pairs

hands_of : (f : Stands) (old new : Left f) (request : Request) (reply : Reply) → hands f old request reply new → IsOf f request reply
hands_of f old new request reply is = (subst (λ (ps : List (Request × Reply)). AreOf f ps) is old.all).0

left : (f : Stands) (pairs : List (Request × Reply)) → AreOf f pairs → Left f
left f pairs all = record { pairs = pairs; all = all }

-- a way through a call is followed
followed : (f : Stands) {A : Type 0} (call : Call A) (pairs : List (Request × Reply)) (all : AreOf f pairs) (result : Result A Refusal) → Says call pairs result → (new : Left f) × FollowsDialogue (hands f) call (left f pairs all) result new
unfolding left
followed f (Say said) pairs all result h = (left f pairs all, (h.0, refl))
followed f (Ask asked more) pairs all result (reply, rest, is, says) =
    let behind : AreOf f rest = (subst (λ (ps : List (Request × Reply)). AreOf f ps) is all).1 in
    let s = followed f (more reply) rest behind result says in (s.0, (reply, left f rest behind, is, s.1))
followed f (Grow call) pairs all result h = elim h [
  | inl goes ↦ (let s = followed f call pairs all result goes in (s.0, inl s.1))
  | inr refused ↦ (left f pairs all, inr (refused.0, refl))
]

pub reads_what_stands : (f : Stands) → ReadsWhatStands f
reads_what_stands f size offset many pairs bytes located all h =
    let call : File → Call (List ℕ × Option Located) = λ file. read_call size file.path file.opened file.located offset many in
    let s = followed f (both (open_call f.path) call) pairs all (Ok (bytes, located)) h in
    let o = opened (hands f) f (hands_of f) call (left f pairs all) s.0 (bytes, located) s.1 in read_is (hands f) f (hands_of f) size offset many o.0 s.0 (bytes, located) o.1

pub digests_what_stands : (f : Stands) → DigestsWhatStands f
digests_what_stands f index block pairs digest located all h =
    let call : File → Call (List ℕ × Option Located) = λ file. digest_call file.path file.opened file.located index block in
    let s = followed f (both (open_call f.path) call) pairs all (Ok (digest, located)) h in
    let o = opened (hands f) f (hands_of f) call (left f pairs all) s.0 (digest, located) s.1 in digest_is (hands f) f (hands_of f) index block o.0 s.0 (digest, located) o.1
