-- What the client's `read` comes to, piece by piece, and where it ends.
use Rattle.std.proofs.Common.{append-nil, append_assoc, arith, ap, inl, inr, subst, sym, ◌∙◌}
use Rattle.std.proofs.lemmas.Bool.Decides.{nat_tests}
use Rattle.std.proofs.lemmas.List.{length-take}
use Rattle.std.specs.Prelude.{[], ◌*◌, ◌++◌, ◌+◌, ◌-◌, ◌<◌, ◌==◌, ◌∷◌, ◌≡◌, ◌≤◌, Err, List, Ok, Option, Result, Some, drop, false, if◌then◌else◌, length, min, refl, slice_get, suc, take, true, unwrap_or, zero, ℕ}
use Rattle.gs_base.specs.declared.refusal.Refusal.{Refusal}
use Rattle.gs_base.specs.declared.refusal.Refusal.TheVariants as refusals
use Rattle.gs_client.specs.Looking.{fetch_call}
use Rattle.gs_client.specs.Reading.{piece_bytes, piece_call, pieces_call, stored_call}
use Rattle.gs_client.specs.Replies.{bytes_in}
use Rattle.gs_client.specs.Trees.{Call}
use Rattle.gs_client_dialogue.specs.Dialogues.{Grow, Say, both, onward}
use Rattle.gs_client_part.specs.Reading.{filled, piece_end}
use Rattle.gs_client_part.specs.declared.located.Located.{Located}
use Rattle.gs_laws_plain.specs.commands.Commands.{joined}
use Rattle.gs_msg.specs.declared.body.Given.{Given}
use Rattle.gs_msg.specs.declared.body.Given.TheVariants as givens
use Rattle.gs_msg.specs.declared.chunk.Asked.TheVariants as asks
use Rattle.gs_path.specs.Path.{Path}
use Rattle.gs_laws_scripts.specs.explained.Lines.{IsNoLook, seen_each}
use Rattle.gs_laws_scripts.specs.explained.Machine.{Machine, Text, new_text, settled_each, text_at}
use Rattle.gs_laws_scripts.specs.explained.Told.{IsPartOf, Tells}
use Rattle.gs_laws_scripts.proofs.lemmas.explained.Dialogues.{no_more}
use Rattle.gs_laws_scripts.proofs.lemmas.explained.Following.{both_splits}
use Rattle.gs_laws_scripts.proofs.lemmas.explained.Pieces.{piece_on}
use Rattle.gs_laws_scripts.proofs.lemmas.explained.Statuses.{IsFetched, IsKnown, IsThere, Looks, fetches, joined_one, seen_many}

short_take : (many : ℕ) (xs : List ℕ) → length (take many xs) ≤ many
short_take many xs = omega (arith, length-take many xs)

module _ (size : ℕ) (places : ℕ → Path × ℕ) (p : Path) (now : Machine) where
  -- bytes of a text as it is seen, and where it is
  abbrev IsPiece : Text → (List ℕ → List ℕ) → Result (List ℕ × Located) Refusal → Type 0
  IsPiece text made (Ok f) = ((pick : List ℕ) × (length (settled_each size pick text).bytes ≤ size) × (f.0 ≡ made (settled_each size pick text).bytes)) × IsThere size places p f.1
  IsPiece text made (Err e) = IsNoLook e

  its_bytes : (start many : ℕ) (text : List ℕ) (g : Given) → IsPartOf text (asks.Bytes start many) g → g ≡ givens.Bytes (take many (drop start text))
  its_bytes start many text (givens.Bytes bytes) is = ap (λ xs. givens.Bytes xs) is
  its_bytes start many text (givens.Length length) is = absurd is
  its_bytes start many text (givens.Digest digest) is = absurd is

  stored : (known : Option Located) (index start many : ℕ) → IsKnown size places p known → (r : Result (List ℕ × Located) Refusal) (new : Machine) → Looks size places (stored_call p known index (asks.Bytes start many)) now r new
      → IsPiece (text_at p index now) (λ text. take many (drop start text)) r × (new ≡ now)
  stored known index start many there r new h =
      let s = both_splits (Tells size places) (fetch_call p known index (asks.Bytes start many)) (λ f. both (Say (bytes_in (asks.Bytes start many) f.0)) (λ bytes. Say (Ok (bytes, f.1)))) now new r h in
      by_fetched s.0 s.1 (fetches size places p known index (asks.Bytes start many) there now s.0 s.1 s.2) s.3
    where
      says_so : Located → Given → Call (List ℕ × Located)
      says_so l g = both (Say (bytes_in (asks.Bytes start many) g)) (λ bytes. Say (Ok (bytes, l)))

      by_fetched : (x : Result (Given × Located) Refusal) (mid : Machine) → IsFetched size places p (text_at p index now) (asks.Bytes start many) x × (mid ≡ now)
          → Looks size places (onward (λ f. both (Say (bytes_in (asks.Bytes start many) f.0)) (λ bytes. Say (Ok (bytes, f.1)))) x) mid r new → IsPiece (text_at p index now) (λ text. take many (drop start text)) r × (new ≡ now)
      by_fetched (Err e) mid (store, same) rest = (subst (IsPiece (text_at p index now) (λ text. take many (drop start text))) (sym rest.0) store, rest.1 ∙ same)
      by_fetched (Ok f) mid (((pick, fit, part), place), same) rest =
          let text : List ℕ = (settled_each size pick (text_at p index now)).bytes in
          let given : Looks size places (says_so f.1 (givens.Bytes (take many (drop start text)))) mid r new = subst (λ g. Looks size places (says_so f.1 g) mid r new) (its_bytes start many text f.0 part) rest in
          let goes = subst (λ b. Looks size places (onward (λ bytes. Say (Ok (bytes, f.1))) (if b then Ok (take many (drop start text)) else Err refusals.Stray)) mid r new) (no_more (length (take many (drop start text))) many (short_take many (drop start text))) given in
          (subst (IsPiece (text_at p index now) (λ t. take many (drop start t))) (sym goes.0) ((pick, fit, refl), place), goes.1 ∙ same)

  piece : (known : Option Located) (count index start many : ℕ) → IsKnown size places p known → (r : Result (List ℕ × Located) Refusal) (new : Machine) → Looks size places (piece_call p known count index start many) now r new
      → IsPiece (text_at p index now) (λ text. piece_bytes count index many (take many (drop start text))) r × (new ≡ now)
  piece known count index start many there r new h =
      let s = both_splits (Tells size places) (stored_call p known index (asks.Bytes start many)) (λ x. Say (Ok (piece_bytes count index many x.0, x.1))) now new r h in
      by_stored s.0 s.1 (stored known index start many there s.0 s.1 s.2) s.3
    where
      by_stored : (x : Result (List ℕ × Located) Refusal) (mid : Machine) → IsPiece (text_at p index now) (λ text. take many (drop start text)) x × (mid ≡ now) → Looks size places (onward (λ y. Say (Ok (piece_bytes count index many y.0, y.1))) x) mid r new
          → IsPiece (text_at p index now) (λ text. piece_bytes count index many (take many (drop start text))) r × (new ≡ now)
      by_stored (Err e) mid (store, same) rest = (subst (IsPiece (text_at p index now) (λ text. piece_bytes count index many (take many (drop start text)))) (sym rest.0) store, rest.1 ∙ same)
      by_stored (Ok f) mid (((pick, fit, is), place), same) rest =
          (subst (IsPiece (text_at p index now) (λ text. piece_bytes count index many (take many (drop start text)))) (sym rest.0) ((pick, fit, ap (piece_bytes count index many) is), place), rest.1 ∙ same)

  -- ---- so many pieces

  -- these are the texts from a place on
  abbrev pub AreFrom : ℕ → List Text → Type 0
  AreFrom index texts = (i : ℕ) → i < length texts → text_at p (index + i) now ≡ unwrap_or (slice_get texts i) new_text

  -- as many are asked for as there are up to an end
  abbrev pub AreEnough : ℕ → ℕ → ℕ → ℕ → Type 0
  AreEnough end index start zero = end ≤ index * size + start
  AreEnough end index start (suc count) = end ≤ (index + suc count) * size

  abbrev pub IsReadOf : List ℕ → ℕ → ℕ → List Text → Result (List ℕ × Option Located) Refusal → Type 0
  IsReadOf read long start texts (Ok f) = (picks : List (List ℕ)) × (f.0 ≡ read ++ take (long - start) (drop start (joined size (seen_each size picks texts))))
  IsReadOf read long start texts (Err e) = IsNoLook e

  index_test : (m n : ℕ) → m ≡ n → (m == n) ≡ true
  index_test m n is = grind (arith, nat_tests)

  not_index : (m n : ℕ) → m < n → (m == n) ≡ false
  not_index m n below = grind (arith, nat_tests)

  -- of the last text, and of one before it
  one_piece : (n end index start : ℕ) (read bytes s : List ℕ) (texts : List Text) (picks : List (List ℕ)) → length s ≤ size → start ≤ size → n ≡ index + suc (length texts) → (length texts ≡ 0 → end ≤ (index + 1) * size)
      → bytes ≡ piece_bytes n index (piece_end size end index - start) (take (piece_end size end index - start) (drop start s))
      → (read ++ bytes) ++ take (end - (index + 1) * size - 0) (drop 0 (joined size (seen_each size picks texts))) ≡ read ++ take (end - index * size - start) (drop start (joined size (s ∷ seen_each size picks texts)))
  one_piece n end index start read bytes s [] picks fit within count last is =
      let here : index + 1 ≡ n = omega arith in
      let short : end ≤ (index + 1) * size = last refl in
      let none : end - (index + 1) * size - 0 ≡ 0 = omega arith in
      let long : min size (end - index * size) - start ≡ end - index * size - start = omega arith in
      let whole : bytes ≡ take (end - index * size - start) (drop start s) =
      is ∙ ap (λ b. if b then take (min size (end - index * size) - start) (drop start s) else filled (min size (end - index * size) - start) (take (min size (end - index * size) - start) (drop start s))) (index_test (index + 1) n here) ∙ ap (λ k. take k (drop start s)) long in
      ap (λ k. (read ++ bytes) ++ take k []) none ∙ append-nil (read ++ bytes) ∙ ap (λ xs. read ++ xs) whole
  one_piece n end index start read bytes s (next ∷ texts) picks fit within count last is =
      let here : index + 1 < n = omega arith in
      let all : List (List ℕ) = seen_each size picks (next ∷ texts) in
      let more : end - (index + 1) * size - 0 ≡ end - index * size - size = omega arith in
      let k : ℕ = min size (end - index * size) - start in
      let piece : bytes ≡ filled k (take k (drop start s)) = is ∙ ap (λ b. if b then take k (drop start s) else filled k (take k (drop start s))) (not_index (index + 1) n here) in
      append_assoc read bytes (take (end - (index + 1) * size - 0) (joined size all))
      ∙ ap (λ xs. read ++ xs) (ap (λ xs. xs ++ take (end - (index + 1) * size - 0) (joined size all)) piece ∙ ap (λ j. filled k (take k (drop start s)) ++ take j (joined size all)) more ∙ piece_on size s (joined size all) start (end - index * size) fit within
      ∙ ap (λ xs. take (end - index * size - start) (drop start xs)) (sym (joined_one size s all (length texts) (seen_many size picks (next ∷ texts)))))

  pub pieces : (texts : List Text) (n end index start count : ℕ) (known : Option Located) (read : List ℕ) → n ≡ index + length texts → count ≤ length texts → start ≤ size → AreFrom index texts → AreEnough end index start count → IsKnown size places p known
      → (r : Result (List ℕ × Option Located) Refusal) (new : Machine) → Looks size places (pieces_call size p n end known index start count read) now r new → IsReadOf read (end - index * size) start texts r × (new ≡ now)
  pieces texts n end index start zero known read many fits within from enough there r new h =
      let none : end - index * size - start ≡ 0 = omega arith in
      (subst (IsReadOf read (end - index * size) start texts) (sym h.0) ([], sym (ap (λ k. read ++ take k (drop start (joined size (seen_each size [] texts)))) none ∙ append-nil read)), h.1)
  pieces [] n end index start (suc count) known read many fits within from enough there r new h = absurd (omega arith)
  pieces (text ∷ texts) n end index start (suc count) known read many fits within from enough there r new h =
      let s = both_splits (Tells size places) (piece_call p known n index start (piece_end size end index - start)) (λ x. Grow (pieces_call size p n end (Some x.1) (index + 1) 0 count (read ++ x.0))) now new r h in
      let below : n ≡ (index + 1) + length texts = omega arith in
      let fewer : count ≤ length texts = omega arith in
      let behind : AreFrom (index + 1) texts = λ i less. (let same : index + 1 + i ≡ index + suc i = omega arith in let here : suc i < suc (length texts) = omega arith in ap (λ j. text_at p j now) same ∙ from (suc i) here) in
      by_piece s.0 s.1 (piece known n index start (piece_end size end index - start) there s.0 s.1 s.2) s.3 (λ l read place goes. pieces texts n end (index + 1) 0 count (Some l) read below fewer (omega arith) behind (rest_enough count enough) place r new goes)
    where
      rest_enough : (c : ℕ) → end ≤ (index + suc c) * size → AreEnough end (index + 1) 0 c
      rest_enough zero enough = omega arith
      rest_enough (suc c) enough = (let same : index + suc (suc c) ≡ index + 1 + suc c = omega arith in subst (λ k. end ≤ k * size) same enough)

      first : text_at p index now ≡ text
      first = (let same : index ≡ index + 0 = omega arith in ap (λ j. text_at p j now) same ∙ from 0 (omega arith))

      last_enough : length texts ≡ 0 → end ≤ (index + 1) * size
      last_enough none = (let same : index + suc count ≡ index + 1 = omega arith in subst (λ k. end ≤ k * size) same enough)

      by_piece : (x : Result (List ℕ × Located) Refusal) (mid : Machine) → IsPiece (text_at p index now) (λ t. piece_bytes n index (piece_end size end index - start) (take (piece_end size end index - start) (drop start t))) x × (mid ≡ now)
          → Looks size places (onward (λ x. Grow (pieces_call size p n end (Some x.1) (index + 1) 0 count (read ++ x.0))) x) mid r new
          → ((l : Located) (read : List ℕ) → IsThere size places p l → Looks size places (pieces_call size p n end (Some l) (index + 1) 0 count read) now r new → IsReadOf read (end - (index + 1) * size) 0 texts r × (new ≡ now))
          → IsReadOf read (end - index * size) start (text ∷ texts) r × (new ≡ now)
      by_piece (Err e) mid (store, same) rest next = (subst (IsReadOf read (end - index * size) start (text ∷ texts)) (sym rest.0) store, rest.1 ∙ same)
      by_piece (Ok f) mid (made, same) (inr refused) next = (subst (IsReadOf read (end - index * size) start (text ∷ texts)) (sym refused.0) (inl refl), refused.1 ∙ same)
      by_piece (Ok f) mid (((pick, fit, is), place), same) (inl goes) next =
          let t = next f.1 (read ++ f.0) place (subst (λ m. Looks size places (pieces_call size p n end (Some f.1) (index + 1) 0 count (read ++ f.0)) m r new) same goes) in
          (by_result r t.0, t.1)
        where
          seen_so : Text → List ℕ
          seen_so t = (settled_each size pick t).bytes

          by_result : (y : Result (List ℕ × Option Located) Refusal) → IsReadOf (read ++ f.0) (end - (index + 1) * size) 0 texts y → IsReadOf read (end - index * size) start (text ∷ texts) y
          by_result (Err e) store = store
          by_result (Ok g) (picks, whole) = (
            pick ∷ picks,
            whole ∙ one_piece n end index start read f.0 (settled_each size pick text).bytes texts picks (subst (λ t. length (settled_each size pick t).bytes ≤ size) first fit) within many last_enough
                (is ∙ ap (λ t. piece_bytes n index (piece_end size end index - start) (take (piece_end size end index - start) (drop start (settled_each size pick t).bytes))) first),
          )
