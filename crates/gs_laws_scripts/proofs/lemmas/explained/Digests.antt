-- What the client's `digest` comes to.
use Rattle.std.proofs.Common.{arith, ap, inl, inr, subst, sym, ◌∙◌}
use Rattle.std.proofs.lemmas.Bool.Decides.{nat_tests}
use Rattle.std.proofs.lemmas.Option.{slice_get_past}
use Rattle.std.specs.Prelude.{Err, List, None, Ok, Option, Result, Some, [], false, if◌then◌else◌, length, refl, slice_get, suc, true, unwrap_or, zero, ℕ, ◌<◌, ◌==◌, ◌∷◌, ◌≡◌, ◌≤◌, ◌⊎◌}
use Rattle.gs_base.specs.declared.refusal.Refusal.{Refusal}
use Rattle.gs_base.specs.declared.refusal.Refusal.TheVariants as refusals
use Rattle.gs_block.specs.Stored.{block_at, digest_at}
use Rattle.gs_client.specs.Files.{open_call}
use Rattle.gs_client.specs.Looking.{fetch_call, find_call, members_call, round_call}
use Rattle.gs_client.specs.Opened.{File as Opened}
use Rattle.gs_client.specs.Reading.{digest_call}
use Rattle.gs_client.specs.Replies.{given, located_in, looked}
use Rattle.gs_client.specs.Replies as client
use Rattle.gs_client.specs.Trees.{Call, and_then}
use Rattle.gs_client.specs.declared.link.Reply.{Reply}
use Rattle.gs_client.specs.declared.link.Reply.TheVariants as replies
use Rattle.gs_client_dialogue.specs.Dialogues.{FollowsDialogue, Say, both, onward, otherwise}
use Rattle.gs_client_part.specs.declared.located.Located.{Located}
use Rattle.gs_msg.specs.declared.answer.Answer.{Answer as Said}
use Rattle.gs_msg.specs.declared.answer.Answer.TheVariants as says
use Rattle.gs_msg.specs.declared.body.Given.{Given}
use Rattle.gs_msg.specs.declared.body.Given.TheVariants as givens
use Rattle.gs_msg.specs.declared.chunk.Asked.TheVariants as asks
use Rattle.gs_path.specs.Path.{Path}
use Rattle.gs_path.specs.Rules.{parse_hidden}
use Rattle.gs_shell_calls.specs.Asked as asked
use Rattle.gs_shell_calls.specs.declared.answer.Answer.{Answer}
use Rattle.gs_shell_calls.specs.declared.answer.Answer.TheVariants as answers
use Rattle.gs_tree.specs.Edits.{chunks_in}
use Rattle.gs_tree.specs.Entry.{Entry, File}
use Rattle.gs_tree.specs.Find.{at}
use Rattle.gs_laws_scripts.specs.explained.Digested.{DigestsAreExplained, TellsBlock, TellsChunk, TellsDigest, seen_block}
use Rattle.gs_laws_scripts.specs.explained.Lines.{Digests, IsNoLook, IsOfStore, OfFile, OnPath, digest_in, seen_each}
use Rattle.gs_laws_scripts.specs.explained.Machine.{Machine, Text, new_text, settled_each, text_at}
use Rattle.gs_laws_scripts.proofs.lemmas.explained.Dialogues.{IsOpened, in_status, no_file}
use Rattle.gs_laws_scripts.proofs.lemmas.explained.Following.{both_splits, plain_splits, says_follow}
use Rattle.gs_laws_scripts.proofs.lemmas.explained.Statuses.{seen_at, seen_many}

-- ---- what is seen of a text at a place

seen_there : (size : ℕ) (pick : List ℕ) (k : ℕ) (texts : List Text) → k < length texts → slice_get (seen_each size (seen_at pick k) texts) k ≡ Some (settled_each size pick (unwrap_or (slice_get texts k) new_text)).bytes
seen_there size pick k [] less = absurd (omega arith)
seen_there size pick zero (text ∷ texts) less = refl
seen_there size pick (suc k) (text ∷ texts) less = seen_there size pick k texts (omega arith)

none_there : (size : ℕ) (k : ℕ) (texts : List Text) → length texts ≤ k → slice_get (seen_each size [] texts) k ≡ None
none_there size k texts past = (let many = seen_many size [] texts in slice_get_past (seen_each size [] texts) k (omega arith))

digest_some : (block index : ℕ) (bytes : List ℕ) → 0 < length (block_at block index bytes) → digest_in block index (Some bytes) ≡ Ok (digest_at block bytes index)
digest_some block index bytes some = ap (λ b. if b then Err refusals.Range else Ok (digest_at block bytes index)) (not_nought (length (block_at block index bytes)) some)
  where
    not_nought : (n : ℕ) → 0 < n → (n == 0) ≡ false
    not_nought n some = grind (arith, nat_tests)

digest_none : (block index : ℕ) (bytes : List ℕ) → length (block_at block index bytes) ≡ 0 → digest_in block index (Some bytes) ≡ Err refusals.Range
digest_none block index bytes none = ap (λ b. if b then Err refusals.Range else Ok (digest_at block bytes index)) (is_nought (length (block_at block index bytes)) none)
  where
    is_nought : (n : ℕ) → n ≡ 0 → (n == 0) ≡ true
    is_nought n none = grind (arith, nat_tests)

-- ---- the dialogue

module _ (size block : ℕ) (places : ℕ → Path × ℕ) where
  abbrev Looks : {A : Type 0} → Call A → Machine → Result A Refusal → Machine → Type 0
  Looks call old result new = FollowsDialogue (TellsDigest size block places) call old result new

  -- a refusal of the store, or that the text has no such block
  abbrev IsLast : Text → ℕ → Refusal → Type 0
  IsLast text index e = IsOfStore e ⊎ ((e ≡ refusals.Range) × (pick : List ℕ) × (length (seen_block size block text index pick) ≡ 0))

  abbrev IsGiven : Text → ℕ → Given → Type 0
  IsGiven text index g = (pick : List ℕ) × (0 < length (seen_block size block text index pick)) × (g ≡ givens.Digest (digest_at block (settled_each size pick text).bytes index))

  abbrev IsReply : Text → ℕ → Result Given Refusal → Type 0
  IsReply text index (Ok g) = IsGiven text index g
  IsReply text index (Err e) = IsLast text index e

  given_is : (text : Text) (index : ℕ) (g : Given) → TellsBlock size block text index (replies.Given g) → IsGiven text index g
  given_is text index (givens.Digest digest) (pick, some, is) = (pick, some, ap (λ (d : List ℕ). givens.Digest d) is)
  given_is text index (givens.Bytes bytes) tells = absurd tells
  given_is text index (givens.Length many) tells = absurd tells

  members_give : (l : Located) (index : ℕ) (p : Path) (chunk : ℕ) → places l.handle ≡ (p, chunk) → (members : List ℕ) (last : Refusal) (now : Machine) → IsLast (text_at p chunk now) index last → (r : Result Given Refusal) (new : Machine)
      → Looks (members_call l (asks.Digest index) members last) now r new → IsReply (text_at p chunk now) index r × (new ≡ now)
  members_give l index p chunk place [] last now so r new h = (subst (IsReply (text_at p chunk now) index) (sym h.0) so, h.1)
  members_give l index p chunk place (member ∷ members) last now so r new (reply, mid, (tells, same), rest) =
      by_reply reply (subst (λ (here : Path × ℕ). TellsBlock size block (text_at here.0 here.1 now) index reply) place tells) (subst (λ m. Looks (otherwise (members_call l (asks.Digest index) members) (given last reply)) m r new) same rest)
      (λ e of goes. members_give l index p chunk place members e now of r new goes)
    where
      by_reply : (reply : Reply) → TellsBlock size block (text_at p chunk now) index reply → Looks (otherwise (members_call l (asks.Digest index) members) (given last reply)) now r new
          → ((e : Refusal) → IsLast (text_at p chunk now) index e → Looks (members_call l (asks.Digest index) members e) now r new → IsReply (text_at p chunk now) index r × (new ≡ now)) → IsReply (text_at p chunk now) index r × (new ≡ now)
      by_reply (replies.Given g) tells h more = (subst (IsReply (text_at p chunk now) index) (sym h.0) (given_is (text_at p chunk now) index g tells), h.1)
      by_reply (replies.Answer answer) tells h more = absurd tells
      by_reply (replies.Outcome outcome) tells h more = absurd tells
      by_reply (replies.Refused e) tells h more = more e tells h
      by_reply replies.Lost tells h more = more last so h

  -- what is asked for is found, or there is no such chunk, or no such block
  abbrev IsMissing : Machine → Path → ℕ → ℕ → Refusal → Type 0
  IsMissing now p chunk index e =
      IsNoLook e ⊎ ((e ≡ refusals.Range) × ((length (chunks_in (at now.plain.tree p)) ≤ chunk) ⊎ ((chunk < length (chunks_in (at now.plain.tree p))) × (pick : List ℕ) × (length (seen_block size block (text_at p chunk now) index pick) ≡ 0))))

  abbrev IsFetched : Machine → Path → ℕ → ℕ → Result (Given × Located) Refusal → Type 0
  IsFetched now p chunk index (Ok f) = (chunk < length (chunks_in (at now.plain.tree p))) × IsGiven (text_at p chunk now) index f.0
  IsFetched now p chunk index (Err e) = IsMissing now p chunk index e

  abbrev IsPlaced : Machine → Path → ℕ → Result Located Refusal → Type 0
  IsPlaced now p chunk (Ok l) = (places l.handle ≡ (p, chunk)) × (chunk < length (chunks_in (at now.plain.tree p)))
  IsPlaced now p chunk (Err e) = IsNoLook e ⊎ ((e ≡ refusals.Range) × (length (chunks_in (at now.plain.tree p)) ≤ chunk))

  placed_in : (now : Machine) (p : Path) (chunk : ℕ) (said : Result Said Refusal) → TellsChunk size block places now p chunk said → IsPlaced now p chunk (and_then (located_in chunk) said)
  placed_in now p chunk (Ok (says.Location handle view epoch)) tells = tells
  placed_in now p chunk (Ok said) tells = absurd tells
  placed_in now p chunk (Err e) tells = tells

  finds : (p : Path) (chunk : ℕ) (now : Machine) (r : Result Located Refusal) (new : Machine) → Looks (find_call p chunk) now r new → IsPlaced now p chunk r × (new ≡ now)
  finds p chunk now r new (inl (reply, mid, (tells, same), (is, last))) = (subst (IsPlaced now p chunk) (sym is) (placed_in now p chunk (looked reply) tells), last ∙ same)
  finds p chunk now r new (inr refused) = (subst (IsPlaced now p chunk) (sym refused.0) (inl (inl refl)), refused.1)

  rounds : (l : Located) (index : ℕ) (p : Path) (chunk : ℕ) (now : Machine) → places l.handle ≡ (p, chunk) → chunk < length (chunks_in (at now.plain.tree p)) → (r : Result (Given × Located) Refusal) (new : Machine)
      → Looks (round_call l (asks.Digest index)) now r new → IsFetched now p chunk index r × (new ≡ now)
  rounds l index p chunk now place below r new h =
      let s = both_splits (TellsDigest size block places) (members_call l (asks.Digest index) l.view.members refusals.NoReplica) (λ g. Say (Ok (g, l))) now new r h in
      by_given s.0 s.1 (members_give l index p chunk place l.view.members refusals.NoReplica now (inl refl) s.0 s.1 s.2) s.3
    where
      missing : (e : Refusal) → IsLast (text_at p chunk now) index e → IsMissing now p chunk index e
      missing e (inl store) = inl (inl store)
      missing e (inr (range, pick, none)) = inr (range, inr (below, pick, none))

      by_given : (x : Result Given Refusal) (mid : Machine) → IsReply (text_at p chunk now) index x × (mid ≡ now) → Looks (onward (λ g. Say (Ok (g, l))) x) mid r new → IsFetched now p chunk index r × (new ≡ now)
      by_given (Ok g) mid (is, same) rest = (subst (IsFetched now p chunk index) (sym rest.0) (below, is), rest.1 ∙ same)
      by_given (Err e) mid (last, same) rest = (subst (IsFetched now p chunk index) (sym rest.0) (missing e last), rest.1 ∙ same)

  fetches : (p : Path) (chunk index : ℕ) (now : Machine) (r : Result (Given × Located) Refusal) (new : Machine) → Looks (fetch_call p None chunk (asks.Digest index)) now r new → IsFetched now p chunk index r × (new ≡ now)
  fetches p chunk index now r new h =
      let s = both_splits (TellsDigest size block places) (find_call p chunk) (λ l. round_call l (asks.Digest index)) now new r h in
      by_place s.0 s.1 (finds p chunk now s.0 s.1 s.2) s.3
    where
      missing : (e : Refusal) → IsNoLook e ⊎ ((e ≡ refusals.Range) × (length (chunks_in (at now.plain.tree p)) ≤ chunk)) → IsMissing now p chunk index e
      missing e (inl store) = inl store
      missing e (inr (range, past)) = inr (range, inl past)

      by_place : (x : Result Located Refusal) (mid : Machine) → IsPlaced now p chunk x × (mid ≡ now) → Looks (onward (λ l. round_call l (asks.Digest index)) x) mid r new → IsFetched now p chunk index r × (new ≡ now)
      by_place (Ok l) mid ((place, below), same) rest = rounds l index p chunk now place below r new (subst (λ m. Looks (round_call l (asks.Digest index)) m r new) same rest)
      by_place (Err e) mid (none, same) rest = (subst (IsFetched now p chunk index) (sym rest.0) (missing e none), rest.1 ∙ same)

  -- ---- the digest of a block of a file that is open

  module _ (p : Path) (now : Machine) (texts : List Text) (found : at now.plain.tree p ≡ Some (File texts)) (chunk index : ℕ) where
    abbrev IsDigested : Result Answer Refusal → Machine → Type 0
    IsDigested y new = ((refusal : Refusal) × (y ≡ Err refusal) × IsNoLook refusal × (new ≡ now)) ⊎ Digests size block chunk index p texts now y new

    its_text : text_at p chunk now ≡ unwrap_or (slice_get texts chunk) new_text
    its_text = ap (λ (entry : Option (Entry Text)). unwrap_or (slice_get (chunks_in entry) chunk) new_text) found

    many : length (chunks_in (at now.plain.tree p)) ≡ length texts
    many = ap (λ (entry : Option (Entry Text)). length (chunks_in entry)) found

    -- what is seen at the place
    seen_so : (pick : List ℕ) → chunk < length (chunks_in (at now.plain.tree p)) → slice_get (seen_each size (seen_at pick chunk) texts) chunk ≡ Some (settled_each size pick (text_at p chunk now)).bytes
    seen_so pick below = (let long = many in seen_there size pick chunk texts (omega arith) ∙ ap (λ (t : Text). Some (settled_each size pick t).bytes) (sym its_text))

    missing : (e : Refusal) → IsMissing now p chunk index e → (y : Result Answer Refusal) → y ≡ Err e → (new : Machine) → new ≡ now → IsDigested y new
    missing e (inl store) y is new same = inl (e, is, store, same)
    missing e (inr (range, inl past)) y is new same =
        let long = many in
        inr ([], is ∙ ap (λ x. Err x) range ∙ ap (λ (o : Option (List ℕ)). asked.answered answers.Digest (digest_in block index o)) (sym (none_there size chunk texts (omega arith))), same)
    missing e (inr (range, inr (below, pick, none))) y is new same =
        inr (
          seen_at pick chunk,
          is ∙ ap (λ x. Err x) range ∙ ap (asked.answered answers.Digest) (sym (digest_none block index (settled_each size pick (text_at p chunk now)).bytes none))
              ∙ ap (λ (o : Option (List ℕ)). asked.answered answers.Digest (digest_in block index o)) (sym (seen_so pick below)),
          same,
        )

    digest_does : (r : Result (List ℕ × Option Located) Refusal) (new : Machine) → Looks (digest_call p (Some (length texts)) None chunk index) now r new → IsDigested (asked.answered asked.given_digest r) new
    digest_does r new h =
        let s = both_splits (TellsDigest size block places) (fetch_call p None chunk (asks.Digest index)) (λ f. both (Say (client.digest_in f.0)) (λ digest. Say (Ok (digest, Some f.1)))) now new r h in
        by_fetched s.0 s.1 (fetches p chunk index now s.0 s.1 s.2) s.3
      where
        says_so : Located → Given → Call (List ℕ × Option Located)
        says_so l g = both (Say (client.digest_in g)) (λ digest. Say (Ok (digest, Some l)))

        by_fetched : (x : Result (Given × Located) Refusal) (mid : Machine) → IsFetched now p chunk index x × (mid ≡ now) → Looks (onward (λ f. both (Say (client.digest_in f.0)) (λ digest. Say (Ok (digest, Some f.1)))) x) mid r new → IsDigested (asked.answered asked.given_digest r) new
        by_fetched (Err e) mid (none, same) rest = missing e none (asked.answered asked.given_digest r) (ap (asked.answered asked.given_digest) rest.0) new (rest.1 ∙ same)
        by_fetched (Ok f) mid ((below, (pick, some, is)), same) rest =
            let digest : List ℕ = digest_at block (settled_each size pick (text_at p chunk now)).bytes index in
            let goes : Looks (says_so f.1 (givens.Digest digest)) mid r new = subst (λ g. Looks (says_so f.1 g) mid r new) is rest in
            inr (
              seen_at pick chunk,
              ap (asked.answered asked.given_digest) goes.0 ∙ ap (asked.answered answers.Digest) (sym (digest_some block index (settled_each size pick (text_at p chunk now)).bytes some))
                  ∙ ap (λ (o : Option (List ℕ)). asked.answered answers.Digest (digest_in block index o)) (sym (seen_so pick below)),
              goes.1 ∙ same,
            )

  -- ---- the line

  module _ (chunk index : ℕ) where
    opens_now : (p : Path) (old : Machine) (r : Result Opened Refusal) (mid : Machine) → Looks (open_call p) old r mid → IsOpened p old r × (mid ≡ old)
    opens_now p old r mid (inl (reply, m, (tells, same), rest)) = (let s = in_status (TellsDigest size block places) p old (looked reply) tells m r mid rest in (s.0, s.1 ∙ same))
    opens_now p old r mid (inr refused) = (subst (IsOpened p old) (sym refused.0) (inl (inl refl)), refused.1)

    digest_line : (p : Path) (old : Machine) (y : Result Answer Refusal) (new : Machine) → Looks (asked.on (Ok p) (asked.with_file (asked.digest_of chunk index)) asked.given_digest) old y new → OnPath size (Ok p) (OfFile (Digests size block chunk index)) old y new
    digest_line p old y new (inr refused) = ([], old, refl, inl (refusals.Memory, refused.0, inl refl, refused.1))
    digest_line p old y new (inl goes) =
        let s = plain_splits (TellsDigest size block places) (both (open_call p) (asked.digest_of chunk index)) asked.given_digest old new y goes in
        let o = both_splits (TellsDigest size block places) (open_call p) (asked.digest_of chunk index) old new s.0 s.2 in
        by_open s.0 s.1 o.0 o.1 (opens_now p old o.0 o.1 o.2) o.3
      where
        by_open : (r : Result (List ℕ × Option Located) Refusal) → y ≡ asked.answered asked.given_digest r → (x : Result Opened Refusal) (mid : Machine) → IsOpened p old x × (mid ≡ old) → Looks (onward (asked.digest_of chunk index) x) mid r new → OnPath size (Ok p) (OfFile (Digests size block chunk index)) old y new
        by_open r is (Ok file) mid ((free, texts, found, most, opened), same) rest =
            let here = subst (λ f. Looks (asked.digest_of chunk index f) old r new) opened (subst (λ m. Looks (asked.digest_of chunk index file) m r new) same rest) in
            elim (digest_does p old texts found chunk index r new here) [
              | inl (e, refused, store, kept) ↦ ([], old, refl, inl (e, is ∙ refused, store, kept))
              | inr digests ↦ ([], old, refl, inr (free, subst (λ entry. OfFile (Digests size block chunk index) p entry old y new) (sym found) (subst (λ a. Digests size block chunk index p texts old a new) (sym is) digests)))
            ]
        by_open r is (Err e) mid (inl store, same) rest = ([], old, refl, inl (e, is ∙ ap (asked.answered asked.given_digest) rest.0, store, rest.1 ∙ same))
        by_open r is (Err e) mid (inr (free, none), same) rest =
            ([], old, refl, inr (free, no_file size places (Digests size block chunk index) p old y new e (is ∙ ap (asked.answered asked.given_digest) rest.0) (rest.1 ∙ same) (at old.plain.tree p) none))

pub digests_are_explained : DigestsAreExplained
digests_are_explained size block places path chunk index pairs answer old new says each =
    by_path (parse_hidden path) (says_follow (TellsDigest size block places) (asked.on (parse_hidden path) (asked.with_file (asked.digest_of chunk index)) asked.given_digest) pairs answer old new says each)
  where
    by_path : (path : Result Path Refusal) → FollowsDialogue (TellsDigest size block places) (asked.on path (asked.with_file (asked.digest_of chunk index)) asked.given_digest) old answer new → OnPath size path (OfFile (Digests size block chunk index)) old answer new ⊎ ((answer ≡ Err refusals.Memory) × (new ≡ old))
    by_path (Ok p) h = inl (digest_line size block places chunk index p old answer new h)
    by_path (Err e) h = h
