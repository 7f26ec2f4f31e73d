-- What the client's `stat` comes to: how many bytes a file has is known by the length of its last chunk.
use Rattle.std.proofs.Common.{arith, ap, inl, inr, subst, sym, ◌∙◌}
use Rattle.std.proofs.lemmas.Bool.Decides.{nat_tests}
use Rattle.std.proofs.lemmas.List.{length-append, length-replicate}
use Rattle.std.specs.Prelude.{Bool, Err, List, None, Ok, Option, Result, Some, [], false, if◌then◌else◌, length, refl, replicate, slice_get, suc, true, unwrap_or, zero, ℕ, ◌*◌, ◌++◌, ◌+◌, ◌-◌, ◌==◌, ◌∷◌, ◌≡◌, ◌≤◌, ◌⊎◌}
use Rattle.gs_base.specs.declared.refusal.Refusal.{Refusal}
use Rattle.gs_base.specs.declared.refusal.Refusal.TheVariants as refusals
use Rattle.gs_block.specs.Chunk.{padded}
use Rattle.gs_client.specs.Looking.{anew_call, fetch_call, find_call, members_call, round_call}
use Rattle.gs_client.specs.Reading.{length_call, stat_call, stat_of, within}
use Rattle.gs_client.specs.Replies.{given, length_in, located_in, looked, status_in}
use Rattle.gs_client.specs.Trees.{Call, and_then}
use Rattle.gs_client.specs.declared.link.Reply.{Reply}
use Rattle.gs_client.specs.declared.link.Reply.TheVariants as replies
use Rattle.gs_client.specs.declared.reading.Stat.{Stat}
use Rattle.gs_client.specs.declared.reading.Stat.TheVariants as stats
use Rattle.gs_client_dialogue.specs.Dialogues.{FollowsDialogue, Say, both, onward, otherwise, upon}
use Rattle.gs_client_part.specs.Writing.{most_chunks}
use Rattle.gs_client_part.specs.declared.located.Located.{Located}
use Rattle.gs_laws_plain.specs.commands.Commands.{joined}
use Rattle.gs_msg.specs.declared.answer.Answer.{Answer as Said}
use Rattle.gs_msg.specs.declared.answer.Answer.TheVariants as says
use Rattle.gs_msg.specs.declared.answer.ChunkStatus.{ChunkStatus}
use Rattle.gs_msg.specs.declared.answer.Status.TheVariants as statuses
use Rattle.gs_msg.specs.declared.body.Given.{Given}
use Rattle.gs_msg.specs.declared.body.Given.TheVariants as givens
use Rattle.gs_msg.specs.declared.chunk.Asked.{Asked}
use Rattle.gs_msg.specs.declared.chunk.Asked.TheVariants as asks
use Rattle.gs_path.specs.Path.{Path}
use Rattle.gs_path.specs.Rules.{parse_hidden}
use Rattle.gs_shell_calls.specs.Asked as asked
use Rattle.gs_shell_calls.specs.declared.answer.Answer.TheVariants as answers
use Rattle.gs_tree.specs.Edits.{chunks_in}
use Rattle.gs_tree.specs.Entry.{Entry, File}
use Rattle.gs_tree.specs.Find.{at}
use Rattle.gs_laws_scripts.specs.explained.Lines.{IsNoLook, IsOfStore, OnPath, Stats, seen, seen_each}
use Rattle.gs_laws_scripts.specs.explained.Machine.{Machine, Text, is_rolling, new_text, settled_each, text_at}
use Rattle.gs_laws_scripts.specs.explained.Told.{AreWithin, IsGiven, IsPartOf, StatsAreExplained, Tells, TellsPart, TellsPlace, TellsStatus}
use Rattle.gs_laws_scripts.proofs.lemmas.explained.Dialogues.{no_more}
use Rattle.gs_laws_scripts.proofs.lemmas.explained.Following.{both_splits, plain_splits, says_follow}

-- ---- how many bytes a file has

-- some edits are seen in the text at a place, and none before it
abbrev pub seen_at : List ℕ → ℕ → List (List ℕ)
seen_at pick zero = pick ∷ []
seen_at pick (suc k) = [] ∷ seen_at pick k

pub padded_is : (size : ℕ) (bytes : List ℕ) → length bytes ≤ size → length (padded size bytes) ≡ size
padded_is size bytes fit = omega (arith, length-append bytes (replicate (size - length bytes) 0), length-replicate {A = ℕ} (size - length bytes) 0)

pub joined_one : (size : ℕ) (bytes : List ℕ) (all : List (List ℕ)) (n : ℕ) → length all ≡ suc n → joined size (bytes ∷ all) ≡ padded size bytes ++ joined size all
joined_one size bytes [] n many = absurd (omega arith)
joined_one size bytes (next ∷ all) n many = refl

pub seen_many : (size : ℕ) (picks : List (List ℕ)) (texts : List Text) → length (seen_each size picks texts) ≡ length texts
seen_many size picks [] = refl
seen_many size [] (text ∷ texts) = ap suc (seen_many size [] texts)
seen_many size (pick ∷ picks) (text ∷ texts) = ap suc (seen_many size picks texts)

pub none_left : (texts : List Text) → length texts ≡ 0 → texts ≡ []
none_left [] none = refl
none_left (text ∷ texts) none = absurd (omega arith)

pub length_seen : (size : ℕ) (pick : List ℕ) (k : ℕ) (texts : List Text) → length texts ≡ suc k → AreWithin size texts → length (seen size (seen_at pick k) texts) ≡ k * size + length (settled_each size pick (unwrap_or (slice_get texts k) new_text)).bytes
length_seen size pick zero [] many fit = absurd (omega arith)
length_seen size pick zero (text ∷ texts) many fit =
    let none : length texts ≡ 0 = omega arith in
    let one : List Text → ℕ = λ (rest : List Text). length (joined size (seen_each size (pick ∷ []) (text ∷ rest))) in
    ap one (none_left texts none) ∙ zero_more (length (settled_each size pick text).bytes)
  where
    zero_more : (n : ℕ) → n ≡ zero * size + n
    zero_more n = omega arith
length_seen size pick (suc k) [] many fit = absurd (omega arith)
length_seen size pick (suc k) (text ∷ texts) many fit =
    let rest : length texts ≡ suc k = omega arith in
    let behind = length_seen size pick k texts rest fit.1 in
    let all : List (List ℕ) = seen_each size (seen_at pick k) texts in
    ap length (joined_one size text.bytes all k (seen_many size (seen_at pick k) texts ∙ rest)) ∙ length-append (padded size text.bytes) (joined size all) ∙ ap (λ n. n + length (joined size all)) (padded_is size text.bytes fit.0)
    ∙ ap (λ n. size + n) behind ∙ once_more k size (length (settled_each size pick (unwrap_or (slice_get texts k) new_text)).bytes)
  where
    once_more : (k size n : ℕ) → size + (k * size + n) ≡ suc k * size + n
    once_more k size n = grind arith

-- ---- the dialogue

module _ (size : ℕ) (places : ℕ → Path × ℕ) where
  abbrev pub Looks : {A : Type 0} → Call A → Machine → Result A Refusal → Machine → Type 0
  Looks call old result new = FollowsDialogue (Tells size places) call old result new

  abbrev IsReply : Text → Asked → Result Given Refusal → Type 0
  IsReply text asked (Ok g) = IsGiven size text asked g
  IsReply text asked (Err e) = IsOfStore e

  members_give : (l : Located) (asked : Asked) (p : Path) (index : ℕ) → places l.handle ≡ (p, index) → (members : List ℕ) (last : Refusal) → IsOfStore last → (now : Machine) (r : Result Given Refusal) (new : Machine) → Looks (members_call l asked members last) now r new
      → IsReply (text_at p index now) asked r × (new ≡ now)
  members_give l asked p index place [] last store now r new h = (subst (IsReply (text_at p index now) asked) (sym h.0) store, h.1)
  members_give l asked p index place (member ∷ members) last store now r new (reply, mid, (tells, same), rest) =
      by_reply reply (subst (λ (here : Path × ℕ). TellsPart size (text_at here.0 here.1 now) asked reply) place tells) (subst (λ m. Looks (otherwise (members_call l asked members) (given last reply)) m r new) same rest)
      (λ e of goes. members_give l asked p index place members e of now r new goes)
    where
      by_reply : (reply : Reply) → TellsPart size (text_at p index now) asked reply → Looks (otherwise (members_call l asked members) (given last reply)) now r new
          → ((e : Refusal) → IsOfStore e → Looks (members_call l asked members e) now r new → IsReply (text_at p index now) asked r × (new ≡ now)) → IsReply (text_at p index now) asked r × (new ≡ now)
      by_reply (replies.Given g) tells h more = (subst (IsReply (text_at p index now) asked) (sym h.0) tells, h.1)
      by_reply (replies.Answer answer) tells h more = absurd tells
      by_reply (replies.Outcome outcome) tells h more = absurd tells
      by_reply (replies.Refused e) tells h more = more e tells h
      by_reply replies.Lost tells h more = more last store h

  -- where a chunk is
  abbrev pub IsThere : Path → Located → Type 0
  IsThere p l = places l.handle ≡ (p, l.index)

  abbrev pub IsKnown : Path → Option Located → Type 0
  IsKnown p None = Unit {0}
  IsKnown p (Some l) = IsThere p l

  abbrev IsPlaced : Path → ℕ → Result Located Refusal → Type 0
  IsPlaced p index (Ok l) = (places l.handle ≡ (p, index)) × (l.index ≡ index)
  IsPlaced p index (Err e) = IsNoLook e

  placed_in : (now : Machine) (p : Path) (index : ℕ) (said : Result Said Refusal) → TellsPlace size places now p index said → IsPlaced p index (and_then (located_in index) said)
  placed_in now p index (Ok (says.Location handle view epoch)) tells = (tells, refl)
  placed_in now p index (Ok said) tells = absurd tells
  placed_in now p index (Err e) tells = tells

  finds : (p : Path) (index : ℕ) (now : Machine) (r : Result Located Refusal) (new : Machine) → Looks (find_call p index) now r new → IsPlaced p index r × (new ≡ now)
  finds p index now r new (inl (reply, mid, (tells, same), (is, last))) = (subst (IsPlaced p index) (sym is) (placed_in now p index (looked reply) tells), last ∙ same)
  finds p index now r new (inr refused) = (subst (IsPlaced p index) (sym refused.0) (inl refl), refused.1)

  abbrev pub IsFetched : Path → Text → Asked → Result (Given × Located) Refusal → Type 0
  IsFetched p text asked (Ok f) = IsGiven size text asked f.0 × IsThere p f.1
  IsFetched p text asked (Err e) = IsNoLook e

  rounds : (l : Located) (asked : Asked) (p : Path) (index : ℕ) → places l.handle ≡ (p, index) → l.index ≡ index → (now : Machine) (r : Result (Given × Located) Refusal) (new : Machine) → Looks (round_call l asked) now r new → IsFetched p (text_at p index now) asked r × (new ≡ now)
  rounds l asked p index place here now r new h =
      let s = both_splits (Tells size places) (members_call l asked l.view.members refusals.NoReplica) (λ g. Say (Ok (g, l))) now new r h in
      by_given s.0 s.1 (members_give l asked p index place l.view.members refusals.NoReplica refl now s.0 s.1 s.2) s.3
    where
      by_given : (x : Result Given Refusal) (mid : Machine) → IsReply (text_at p index now) asked x × (mid ≡ now) → Looks (onward (λ g. Say (Ok (g, l))) x) mid r new → IsFetched p (text_at p index now) asked r × (new ≡ now)
      by_given (Ok g) mid (is, same) rest = (subst (IsFetched p (text_at p index now) asked) (sym rest.0) (is, subst (λ n. places l.handle ≡ (p, n)) (sym here) place), rest.1 ∙ same)
      by_given (Err e) mid (store, same) rest = (subst (IsFetched p (text_at p index now) asked) (sym rest.0) (inl store), rest.1 ∙ same)

  anew : (p : Path) (index : ℕ) (asked : Asked) (now : Machine) (r : Result (Given × Located) Refusal) (new : Machine) → Looks (anew_call p index asked) now r new → IsFetched p (text_at p index now) asked r × (new ≡ now)
  anew p index asked now r new h =
      let s = both_splits (Tells size places) (find_call p index) (λ l. round_call l asked) now new r h in
      by_place s.0 s.1 (finds p index now s.0 s.1 s.2) s.3
    where
      by_place : (x : Result Located Refusal) (mid : Machine) → IsPlaced p index x × (mid ≡ now) → Looks (onward (λ l. round_call l asked) x) mid r new → IsFetched p (text_at p index now) asked r × (new ≡ now)
      by_place (Ok l) mid ((place, here), same) rest = rounds l asked p index place here now r new (subst (λ m. Looks (round_call l asked) m r new) same rest)
      by_place (Err e) mid (store, same) rest = (subst (IsFetched p (text_at p index now) asked) (sym rest.0) store, rest.1 ∙ same)

  -- where none of its members answers, another call is taken
  rounds_or : (l : Located) (asked : Asked) (p : Path) (index : ℕ) → places l.handle ≡ (p, index) → l.index ≡ index → (other : Call (Given × Located)) (members : List ℕ) (last : Refusal) (now : Machine) (r : Result (Given × Located) Refusal) (new : Machine)
      → Looks (upon (both (members_call l asked members last) (λ g. Say (Ok (g, l)))) (otherwise (λ e. other))) now r new → (Looks other now r new → IsFetched p (text_at p index now) asked r × (new ≡ now)) → IsFetched p (text_at p index now) asked r × (new ≡ now)
  rounds_or l asked p index place here other [] last now r new h goes = goes h
  rounds_or l asked p index place here other (member ∷ members) last now r new (reply, mid, (tells, same), rest) goes =
      by_reply reply (subst (λ (at : Path × ℕ). TellsPart size (text_at at.0 at.1 now) asked reply) place tells)
      (subst (λ m. Looks (upon (upon (otherwise (members_call l asked members) (given last reply)) (onward (λ g. Say (Ok (g, l))))) (otherwise (λ e. other))) m r new) same rest)
      (λ e more. rounds_or l asked p index place here other members e now r new more goes)
    where
      by_reply : (reply : Reply) → TellsPart size (text_at p index now) asked reply → Looks (upon (upon (otherwise (members_call l asked members) (given last reply)) (onward (λ g. Say (Ok (g, l))))) (otherwise (λ e. other))) now r new
          → ((e : Refusal) → Looks (upon (both (members_call l asked members e) (λ g. Say (Ok (g, l)))) (otherwise (λ e. other))) now r new → IsFetched p (text_at p index now) asked r × (new ≡ now)) → IsFetched p (text_at p index now) asked r × (new ≡ now)
      by_reply (replies.Given g) tells h more = (subst (IsFetched p (text_at p index now) asked) (sym h.0) (tells, subst (λ n. places l.handle ≡ (p, n)) (sym here) place), h.1)
      by_reply (replies.Answer answer) tells h more = absurd tells
      by_reply (replies.Outcome outcome) tells h more = absurd tells
      by_reply (replies.Refused e) tells h more = more e h
      by_reply replies.Lost tells h more = more last h

  same_index : (m n : ℕ) → (m == n) ≡ true → m ≡ n
  same_index m n is = grind (arith, nat_tests)

  pub fetches : (p : Path) (known : Option Located) (index : ℕ) (asked : Asked) → IsKnown p known → (now : Machine) (r : Result (Given × Located) Refusal) (new : Machine) → Looks (fetch_call p known index asked) now r new → IsFetched p (text_at p index now) asked r × (new ≡ now)
  fetches p None index asked there now r new h = anew p index asked now r new h
  fetches p (Some l) index asked there now r new h = by_test (l.index == index) (λ is. is) h
    where
      by_test : (b : Bool) → (b ≡ true → (l.index == index) ≡ true) → Looks (if b then upon (round_call l asked) (otherwise (λ refusal. anew_call p index asked)) else anew_call p index asked) now r new → IsFetched p (text_at p index now) asked r × (new ≡ now)
      by_test true is h =
          let here : l.index ≡ index = same_index l.index index (is refl) in
          rounds_or l asked p index (subst (λ n. places l.handle ≡ (p, n)) here there) here (anew_call p index asked) l.view.members refusals.NoReplica now r new h (λ goes. anew p index asked now r new goes)
      by_test false is h = anew p index asked now r new h

  its_length : (text : List ℕ) (g : Given) → IsPartOf text asks.Length g → g ≡ givens.Length (length text)
  its_length text (givens.Length many) is = ap (λ n. givens.Length n) is
  its_length text (givens.Bytes bytes) is = absurd is
  its_length text (givens.Digest digest) is = absurd is

  -- how many bytes so many chunks have
  abbrev pub IsMany : Path → ℕ → Machine → ℕ → Type 0
  IsMany p zero now many = many ≡ 0
  IsMany p (suc last) now many = (pick : List ℕ) × (length (settled_each size pick (text_at p last now)).bytes ≤ size) × (many ≡ last * size + length (settled_each size pick (text_at p last now)).bytes)

  abbrev pub IsLong : Path → ℕ → Machine → Result (ℕ × Option Located) Refusal → Type 0
  IsLong p count now (Ok l) = IsMany p count now l.0 × IsKnown p l.1
  IsLong p count now (Err e) = IsNoLook e

  pub length_is : (p : Path) (count : ℕ) (now : Machine) (r : Result (ℕ × Option Located) Refusal) (new : Machine) → Looks (length_call size p None count) now r new → IsLong p count now r × (new ≡ now)
  length_is p zero now r new h = (subst (IsLong p zero now) (sym h.0) (refl, tt), h.1)
  length_is p (suc last) now r new h =
      let s = both_splits (Tells size places) (fetch_call p None last asks.Length) (λ f. both (Say (length_in f.0)) (λ many. both (Say (within size many)) (λ many. Say (Ok (last * size + many, Some f.1))))) now new r h in
      by_fetched s.0 s.1 (fetches p None last asks.Length tt now s.0 s.1 s.2) s.3
    where
      says_so : Located → Given → Call (ℕ × Option Located)
      says_so l g = both (Say (length_in g)) (λ many. both (Say (within size many)) (λ many. Say (Ok (last * size + many, Some l))))

      by_fetched : (x : Result (Given × Located) Refusal) (mid : Machine) → IsFetched p (text_at p last now) asks.Length x × (mid ≡ now) → Looks (onward (λ f. both (Say (length_in f.0)) (λ many. both (Say (within size many)) (λ many. Say (Ok (last * size + many, Some f.1))))) x) mid r new
          → IsLong p (suc last) now r × (new ≡ now)
      by_fetched (Err e) mid (store, same) rest = (subst (IsLong p (suc last) now) (sym rest.0) store, rest.1 ∙ same)
      by_fetched (Ok f) mid (((pick, fit, part), there), same) rest =
          let text : List ℕ = (settled_each size pick (text_at p last now)).bytes in
          let given : Looks (says_so f.1 (givens.Length (length text))) mid r new = subst (λ g. Looks (says_so f.1 g) mid r new) (its_length text f.0 part) rest in
          let goes = subst (λ b. Looks (onward (λ many. Say (Ok (last * size + many, Some f.1))) (if b then Ok (length text) else Err refusals.Stray)) mid r new) (no_more (length text) size fit) given in
          (subst (IsLong p (suc last) now) (sym goes.0) ((pick, fit, refl), there), goes.1 ∙ same)

  -- so many a file is seen to have
  pub seen_many_bytes : (p : Path) (now : Machine) (texts : List Text) → at now.plain.tree p ≡ Some (File texts) → AreWithin size texts → (count many : ℕ) → length texts ≡ count → IsMany p count now many → (picks : List (List ℕ)) × (many ≡ length (seen size picks texts))
  seen_many_bytes p now texts found fit zero many count is = ([], is ∙ ap (λ (all : List Text). length (seen size [] all)) (sym (none_left texts count)))
  seen_many_bytes p now texts found fit (suc last) many count (pick, short, is) =
      (seen_at pick last, is ∙ ap (λ (entry : Option (Entry Text)). last * size + length (settled_each size pick (unwrap_or (slice_get (chunks_in entry) last) new_text)).bytes) found ∙ sym (length_seen size pick last texts count fit))

  status_does : (p : Path) (old : Machine) → AreWithin size (chunks_in (at old.plain.tree p)) → (r : Result Stat Refusal) (new : Machine) → Looks (stat_call size p) old r new → OnPath size (Ok p) (Stats size) old (asked.answered answers.Stat r) new
  status_does p old fit r new (inr refused) = ([], old, refl, inl (refusals.Memory, ap (asked.answered answers.Stat) refused.0, inl refl, refused.1))
  status_does p old fit r new (inl (reply, m, (tells, same), rest)) = by_status (looked reply) tells (subst (λ n. Looks (onward (stat_of size p) (and_then status_in (looked reply))) n r new) same rest)
    where
      by_length : (texts : List Text) (chunks : List ChunkStatus) → is_rolling old.phase ≡ false → at old.plain.tree p ≡ Some (File texts) → length chunks ≡ length texts → (x : Result (ℕ × Option Located) Refusal) (mid : Machine) → IsLong p (length chunks) old x × (mid ≡ old)
          → Looks (onward (λ l. Say (Ok (stats.File l.0 chunks))) x) mid r new → OnPath size (Ok p) (Stats size) old (asked.answered answers.Stat r) new
      by_length texts chunks free found long (Err e) mid (store, same) rest = ([], old, refl, inl (e, ap (asked.answered answers.Stat) rest.0, store, rest.1 ∙ same))
      by_length texts chunks free found long (Ok l) mid ((many, there), same) rest =
          let s = seen_many_bytes p old texts found (subst (λ (entry : Option (Entry Text)). AreWithin size (chunks_in entry)) found fit) (length chunks) l.0 (sym long) many in (
            [],
            old,
            refl,
            inr (
              free,
              subst (λ entry. Stats size p entry old (asked.answered answers.Stat r) new) (sym found)
                  (s.0, chunks, long, ap (asked.answered answers.Stat) rest.0 ∙ ap (λ n. Ok (answers.Stat (stats.File n chunks))) s.1, rest.1 ∙ same),
            ),
          )

      by_status : (said : Result Said Refusal) → TellsStatus old p said → Looks (onward (stat_of size p) (and_then status_in said)) old r new → OnPath size (Ok p) (Stats size) old (asked.answered answers.Stat r) new
      by_status (Ok (says.Status statuses.Directory)) (free, dir) h =
          ([], old, refl, inr (free, subst (λ entry. Stats size p entry old (asked.answered answers.Stat r) new) (sym dir) (ap (asked.answered answers.Stat) h.0, h.1)))
      by_status (Ok (says.Status (statuses.File chunks))) (free, texts, found, long, most) h =
          let some = no_more (length chunks) most_chunks (subst (λ n. n ≤ most_chunks) (sym long) most) in
          let goes = subst (λ b. Looks (onward (λ count. both (length_call size p None count) (λ l. Say (Ok (stats.File l.0 chunks)))) (if b then Ok (length chunks) else Err refusals.Stray)) old r new) some h in
          let s = both_splits (Tells size places) (length_call size p None (length chunks)) (λ l. Say (Ok (stats.File l.0 chunks))) old new r goes in
          by_length texts chunks free found long s.0 s.1 (length_is p (length chunks) old s.0 s.1 s.2) s.3
      by_status (Ok said) tells h = absurd tells
      by_status (Err e) (inl store) h = ([], old, refl, inl (e, ap (asked.answered answers.Stat) h.0, store, h.1))
      by_status (Err e) (inr (none, free, is)) h =
          ([], old, refl, inr (free, subst (λ entry. Stats size p entry old (asked.answered answers.Stat r) new) (sym is) (ap (asked.answered answers.Stat) h.0 ∙ ap (λ x. Err x) none, h.1)))

pub stats_are_explained : StatsAreExplained
stats_are_explained size block places path pairs answer old new fit says each = by_path (parse_hidden path) (says_follow (Tells size places) (asked.on (parse_hidden path) (stat_call size) answers.Stat) pairs answer old new says each)
  where
    by_path : (path : Result Path Refusal) → Looks size places (asked.on path (stat_call size) answers.Stat) old answer new → OnPath size path (Stats size) old answer new ⊎ ((answer ≡ Err refusals.Memory) × (new ≡ old))
    by_path (Ok p) (inr refused) = inr refused
    by_path (Ok p) (inl h) =
        let s = plain_splits (Tells size places) (stat_call size p) answers.Stat old new answer h in
        inl (subst (λ a. OnPath size (Ok p) (Stats size) old a new) (sym s.1) (status_does size places p old (fit p) s.0 new s.2))
    by_path (Err e) h = h
