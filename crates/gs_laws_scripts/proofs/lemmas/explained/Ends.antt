-- Where the client's `read` ends, and the whole line.
use Rattle.std.proofs.Common.{arith, ap, inl, inr, subst, sym, ◌∙◌}
use Rattle.std.proofs.lemmas.Bool.Decides.{nat_tests}
use Rattle.std.proofs.lemmas.List.{length-drop}
use Rattle.std.proofs.Math.Nat.{mul-le-mul_left}
use Rattle.std.specs.Prelude.{[], ◌%◌, ◌*◌, ◌+◌, ◌-◌, ◌/◌, ◌<◌, ◌≡◌, ◌≤◌, ◌⊎◌, Bool, Err, List, None, Ok, Option, Result, Some, drop, false, if◌then◌else◌, length, min, nat_le, nat_lt, refl, slice_get, suc, take, true, unwrap_or, zero, ℕ}
use Rattle.gs_base.specs.declared.refusal.Refusal.{Refusal}
use Rattle.gs_base.specs.declared.refusal.Refusal.TheVariants as refusals
use Rattle.gs_client.specs.Files.{open_call}
use Rattle.gs_client.specs.Opened.{File as Opened}
use Rattle.gs_client.specs.Reading.{end_call, length_call, pieces_call, read_call}
use Rattle.gs_client.specs.Replies.{looked}
use Rattle.gs_client_dialogue.specs.Dialogues.{Say, both, onward}
use Rattle.gs_client_part.specs.Reading.{span}
use Rattle.gs_client_part.specs.declared.located.Located.{Located}
use Rattle.gs_path.specs.Path.{Path}
use Rattle.gs_path.specs.Rules.{parse_hidden}
use Rattle.gs_shell_calls.specs.Asked as asked
use Rattle.gs_shell_calls.specs.declared.answer.Answer.{Answer}
use Rattle.gs_shell_calls.specs.declared.answer.Answer.TheVariants as answers
use Rattle.gs_tree.specs.Edits.{chunks_in}
use Rattle.gs_tree.specs.Entry.{Entry, File}
use Rattle.gs_tree.specs.Find.{at}
use Rattle.gs_laws_scripts.specs.explained.Lines.{IsNoLook, OfFile, OnPath, Reads, read_in, seen}
use Rattle.gs_laws_scripts.specs.explained.Machine.{Machine, Text, new_text}
use Rattle.gs_laws_scripts.specs.explained.Told.{AreWithin, ReadsAreExplained, Tells}
use Rattle.gs_laws_scripts.proofs.lemmas.explained.Dialogues.{IsOpened, in_status, no_file}
use Rattle.gs_laws_scripts.proofs.lemmas.explained.Following.{both_splits, plain_splits, says_follow}
use Rattle.gs_laws_scripts.proofs.lemmas.explained.Pieces.{at_drop, one_below, skipped, skips}
use Rattle.gs_laws_scripts.proofs.lemmas.explained.Readings.{AreEnough, AreFrom, IsReadOf, pieces}
use Rattle.gs_laws_scripts.proofs.lemmas.explained.Statuses.{IsKnown, IsLong, IsMany, Looks, length_is, length_seen, seen_at, seen_many_bytes}

-- ---- numbers

le_is : (m n : ℕ) → nat_le m n ≡ true → m ≤ n
le_is m n is = grind (arith, nat_tests)

lt_is : (m n : ℕ) → nat_lt m n ≡ true → m < n
lt_is m n is = grind (arith, nat_tests)

not_lt : (m n : ℕ) → nat_lt m n ≡ false → n ≤ m
not_lt m n is = grind (arith, nat_tests)

no_lt : (m n : ℕ) → n ≤ m → nat_lt m n ≡ false
no_lt m n below = grind (arith, nat_tests)

place_of : (size offset : ℕ) → 0 < size → offset ≡ (offset / size) * size + offset % size
place_of size offset some = omega arith

place_within : (size offset : ℕ) → 0 < size → offset % size ≤ size
place_within size offset some = omega arith

index_below : (size offset end n : ℕ) → 0 < size → offset < end → end ≤ n * size → offset / size < n
index_below size offset end n some past within = elim (one_below n (offset / size)) [
  | inl over ↦ (let wrong : size * n ≤ size * (offset / size) = mul-le-mul_left size over in absurd (omega arith))
  | inr below ↦ by_case (offset / size) (λ is. (let wrong : size * n ≤ size * (offset / size) = mul-le-mul_left size (let e : n ≤ offset / size = omega arith in e) in absurd (omega arith))) below
]
  where
    by_case : (i : ℕ) → (i ≡ n → ⊥) → i ≤ n → i < n
    by_case i other below = omega arith

-- the last piece lies in the file
last_below : (size end n : ℕ) → 0 < size → 0 < end → end ≤ n * size → (end - 1) / size + 1 ≤ n
last_below size end n some past within = elim (one_below n ((end - 1) / size)) [
  | inl over ↦ (let wrong : size * n ≤ size * ((end - 1) / size) = mul-le-mul_left size over in absurd (omega arith))
  | inr below ↦ by_case ((end - 1) / size) (λ is. (let wrong : size * n ≤ size * ((end - 1) / size) = mul-le-mul_left size (let e : n ≤ (end - 1) / size = omega arith in e) in absurd (omega arith))) below
]
  where
    by_case : (i : ℕ) → (i ≡ n → ⊥) → i ≤ n → i + 1 ≤ n
    by_case i other below = omega arith

all_of_it : (size end i : ℕ) → 0 < size → 0 < end → end ≤ (i + ((end - 1) / size + 1 - i)) * size
all_of_it size end i some past =
    let q : ℕ = (end - 1) / size in
    let fits : end ≤ size * (q + 1) = omega arith in
    let more : size * (q + 1) ≤ size * (i + (q + 1 - i)) = mul-le-mul_left size (let e : q + 1 ≤ i + (q + 1 - i) = omega arith in e) in
    omega arith

module _ (size : ℕ) (places : ℕ → Path × ℕ) (p : Path) (now : Machine) (texts : List Text) (found : at now.plain.tree p ≡ Some (File texts)) (fit : AreWithin size texts) (offset many : ℕ) where
  -- where it ends, as the file is seen then
  abbrev IsEnd : Result (ℕ × Option Located) Refusal → Type 0
  IsEnd (Ok e) = (first : List (List ℕ)) × (nat_lt (length (seen size first texts)) offset ≡ false) × (e.0 ≡ min (offset + many) (length (seen size first texts))) × (e.0 ≤ length texts * size) × IsKnown size places p e.1
  IsEnd (Err e) = IsNoLook e ⊎ ((e ≡ refusals.Range) × (first : List (List ℕ)) × (nat_lt (length (seen size first texts)) offset ≡ true))

  unseen : (n : ℕ) → length texts ≡ n → (first : List (List ℕ)) × ((n - 1) * size ≤ length (seen size first texts)) × ((n - 1) * size ≤ n * size)
  unseen zero count = ([], omega arith, omega arith)
  unseen (suc last) count = (seen_at [] last, (let long = length_seen size [] last texts count fit in below last (length (seen size (seen_at [] last) texts)) _ long), more last)
    where
      below : (last long rest : ℕ) → long ≡ last * size + rest → (suc last - 1) * size ≤ long
      below last long rest is = (let same : suc last - 1 ≡ last = omega arith in subst (λ k. k * size ≤ long) (sym same) (omega arith))

      more : (last : ℕ) → (suc last - 1) * size ≤ suc last * size
      more last = (let same : suc last - 1 ≡ last = omega arith in subst (λ k. k * size ≤ suc last * size) (sym same) (omega arith))

  many_within : (n bytes : ℕ) → IsMany size places p n now bytes → bytes ≤ n * size
  many_within zero bytes is = omega arith
  many_within (suc last) bytes (pick, short, is) = omega arith

  end_is : (r : Result (ℕ × Option Located) Refusal) (new : Machine) → Looks size places (end_call size p None (length texts) offset many) now r new → IsEnd r × (new ≡ now)
  end_is r new h = by_test (nat_le (offset + many) ((length texts - 1) * size)) (λ is. is) h
    where
      by_short : (l : ℕ × Option Located) (first : List (List ℕ)) → l.0 ≡ length (seen size first texts) → l.0 ≤ length texts * size → IsKnown size places p l.1 → (mid : Machine) → mid ≡ now → (b : Bool) → (b ≡ nat_lt l.0 offset)
          → Looks size places (if b then Say (Err refusals.Range) else Say (Ok (min (offset + many) l.0, l.1))) mid r new → IsEnd r × (new ≡ now)
      by_short l first is within there mid same true test rest = (subst IsEnd (sym rest.0) (inr (refl, first, sym (test ∙ ap (λ n. nat_lt n offset) is))), rest.1 ∙ same)
      by_short l first is within there mid same false test rest =
          (subst IsEnd (sym rest.0) (first, sym (test ∙ ap (λ n. nat_lt n offset) is), ap (min (offset + many)) is, (let low : min (offset + many) l.0 ≤ length texts * size = omega arith in low), there), rest.1 ∙ same)

      by_length : (x : Result (ℕ × Option Located) Refusal) (mid : Machine) → IsLong size places p (length texts) now x × (mid ≡ now)
          → Looks size places (onward (λ l. if nat_lt l.0 offset then Say (Err refusals.Range) else Say (Ok (min (offset + many) l.0, l.1))) x) mid r new → IsEnd r × (new ≡ now)
      by_length (Err e) mid (store, same) rest = (subst IsEnd (sym rest.0) (inl store), rest.1 ∙ same)
      by_length (Ok l) mid ((is, there), same) rest =
          let s = seen_many_bytes size places p now texts found fit (length texts) l.0 refl is in
          by_short l s.0 s.1 (many_within (length texts) l.0 is) there mid same (nat_lt l.0 offset) refl rest

      by_test : (b : Bool) → (b ≡ true → nat_le (offset + many) ((length texts - 1) * size) ≡ true)
          → Looks size places (if b then Say (Ok (offset + many, None)) else both (length_call size p None (length texts)) (λ l. if nat_lt l.0 offset then Say (Err refusals.Range) else Say (Ok (min (offset + many) l.0, l.1)))) now r new → IsEnd r × (new ≡ now)
      by_test true is h =
          let below : offset + many ≤ (length texts - 1) * size = le_is (offset + many) ((length texts - 1) * size) (is refl) in
          let u = unseen (length texts) refl in
          let long : offset + many ≤ length (seen size u.0 texts) = omega (arith, u.1) in
          (subst IsEnd (sym h.0) (u.0, no_lt (length (seen size u.0 texts)) offset (omega arith), (let low : offset + many ≡ min (offset + many) (length (seen size u.0 texts)) = omega arith in low), omega (arith, u.2), tt), h.1)
      by_test false is h =
          let s = both_splits (Tells size places) (length_call size p None (length texts)) (λ l. if nat_lt l.0 offset then Say (Err refusals.Range) else Say (Ok (min (offset + many) l.0, l.1))) now new r h in
          by_length s.0 s.1 (length_is size places p (length texts) now s.0 s.1 s.2) s.3

  -- ---- the bytes

  -- the store refuses, or it is read
  abbrev IsRead : Result Answer Refusal → Machine → Type 0
  IsRead y new = ((refusal : Refusal) × (y ≡ Err refusal) × IsNoLook refusal × (new ≡ now)) ⊎ Reads size offset many p texts now y new

  module _ (some : 0 < size) where
    from_there : AreFrom size places p now (offset / size) (drop (offset / size) texts)
    from_there i below = ap (λ (entry : Option (Entry Text)). unwrap_or (slice_get (chunks_in entry) (offset / size + i)) new_text) found ∙ ap (λ (o : Option Text). unwrap_or o new_text) (sym (at_drop texts (offset / size) i))

    enough : (end count : ℕ) → offset < end → end ≤ (offset / size + count) * size → AreEnough size places p now end (offset / size) (offset % size) count
    enough end zero past within = omega arith
    enough end (suc count) past within = within

    whole : (end : ℕ) (first picks : List (List ℕ)) → offset / size < length texts → end ≡ min (offset + many) (length (seen size first texts)) → nat_lt (length (seen size first texts)) offset ≡ false
        → Ok (take (end - (offset / size) * size - offset % size) (drop (offset % size) (seen size picks (drop (offset / size) texts)))) ≡ read_in offset many (seen size first texts) (seen size (skips (offset / size) picks) texts)
    whole end first picks below is long =
        let i : ℕ = offset / size in
        let k : ℕ = offset % size in
        let place : offset ≡ i * size + k = place_of size offset some in
        let many_is : end - i * size - k ≡ min (offset + many) (length (seen size first texts)) - offset = omega arith in
        let bytes : drop k (seen size picks (drop i texts)) ≡ drop offset (seen size (skips i picks) texts) = sym (skipped size i k picks texts below fit) ∙ ap (λ n. drop n (seen size (skips i picks) texts)) (sym place) in
        ap (λ n. Ok (take n (drop k (seen size picks (drop i texts))))) many_is ∙ ap (λ (xs : List ℕ). Ok (take (min (offset + many) (length (seen size first texts)) - offset) xs)) bytes
        ∙ ap (λ b. if b then Err refusals.Range else Ok (take (min (offset + many) (length (seen size first texts)) - offset) (drop offset (seen size (skips i picks) texts)))) (sym long)

    read_does : (r : Result (List ℕ × Option Located) Refusal) (new : Machine) → Looks size places (read_call size p (Some (length texts)) None offset many) now r new → IsRead (asked.answered asked.given_bytes r) new
    read_does r new h =
        let s = both_splits (Tells size places) (end_call size p None (length texts) offset many) (λ e. pieces_call size p (length texts) e.0 e.1 (offset / size) (offset % size) (span size offset e.0) []) now new r h in
        by_end s.0 s.1 (end_is s.0 s.1 s.2) s.3
      where
        by_pieces : (end : ℕ) (first : List (List ℕ)) → offset / size < length texts → end ≡ min (offset + many) (length (seen size first texts)) → nat_lt (length (seen size first texts)) offset ≡ false → (x : Result (List ℕ × Option Located) Refusal)
            → IsReadOf size places p now [] (end - (offset / size) * size) (offset % size) (drop (offset / size) texts) x → new ≡ now → IsRead (asked.answered asked.given_bytes x) new
        by_pieces end first below is long (Err e) store same = inl (e, refl, store, same)
        by_pieces end first below is long (Ok f) (picks, bytes) same =
            inr (first, skips (offset / size) picks, ap (λ xs. Ok (answers.Bytes xs)) bytes ∙ ap (asked.answered answers.Bytes) (whole end first picks below is long), same)

        by_span : (end : ℕ) (known : Option Located) (first : List (List ℕ)) → nat_lt (length (seen size first texts)) offset ≡ false → end ≡ min (offset + many) (length (seen size first texts)) → end ≤ length texts * size → IsKnown size places p known → (mid : Machine) → mid ≡ now
            → (b : Bool) → (b ≡ nat_lt offset end) → Looks size places (pieces_call size p (length texts) end known (offset / size) (offset % size) (if b then (end - 1) / size + 1 - offset / size else 0) []) mid r new → IsRead (asked.answered asked.given_bytes r) new
        by_span end known first long is within there mid same true test rest =
            let past : offset < end = lt_is offset end (sym test) in
            let below : offset / size < length texts = index_below size offset end (length texts) some past within in
            let last : (end - 1) / size + 1 ≤ length texts = last_below size end (length texts) some (omega arith) within in
            let left : length (drop (offset / size) texts) ≡ length texts - offset / size = length-drop (offset / size) texts in
            let s = pieces size places p now (drop (offset / size) texts) (length texts) end (offset / size) (offset % size) ((end - 1) / size + 1 - offset / size) known [] (omega arith) (omega arith) (place_within size offset some) from_there
            (enough end ((end - 1) / size + 1 - offset / size) past (all_of_it size end (offset / size) some (omega arith))) there r new (subst (λ m. Looks size places (pieces_call size p (length texts) end known (offset / size) (offset % size) ((end - 1) / size + 1 - offset / size) []) m r new) same rest) in
            by_pieces end first below is long r s.0 s.1
        by_span end known first long is within there mid same false test rest =
            let short : end ≤ offset = not_lt offset end (sym test) in
            let none : 0 ≡ min (offset + many) (length (seen size first texts)) - offset = omega arith in
            inr (
              first,
              first,
              ap (asked.answered asked.given_bytes) rest.0 ∙ ap (λ n. Ok (answers.Bytes (take n (drop offset (seen size first texts))))) none
                  ∙ ap (asked.answered answers.Bytes) (ap (λ b. if b then Err refusals.Range else Ok (take (min (offset + many) (length (seen size first texts)) - offset) (drop offset (seen size first texts)))) (sym long)),
              rest.1 ∙ same,
            )

        by_end : (x : Result (ℕ × Option Located) Refusal) (mid : Machine) → IsEnd x × (mid ≡ now) → Looks size places (onward (λ e. pieces_call size p (length texts) e.0 e.1 (offset / size) (offset % size) (span size offset e.0) []) x) mid r new → IsRead (asked.answered asked.given_bytes r) new
        by_end (Err e) mid (inl store, same) rest = inl (e, ap (asked.answered asked.given_bytes) rest.0, store, rest.1 ∙ same)
        by_end (Err e) mid (inr (range, first, short), same) rest =
            inr (
              first,
              first,
              ap (asked.answered asked.given_bytes) rest.0 ∙ ap (λ x. Err x) range
                  ∙ ap (asked.answered answers.Bytes) (ap (λ b. if b then Err refusals.Range else Ok (take (min (offset + many) (length (seen size first texts)) - offset) (drop offset (seen size first texts)))) (sym short)),
              rest.1 ∙ same,
            )
        by_end (Ok e) mid ((first, long, is, within, there), same) rest = by_span e.0 e.1 first long is within there mid same (nat_lt offset e.0) refl rest

-- ---- the line

module _ (size : ℕ) (places : ℕ → Path × ℕ) (some : 0 < size) (offset many : ℕ) where
  opens_now : (p : Path) (old : Machine) (r : Result Opened Refusal) (mid : Machine) → Looks size places (open_call p) old r mid → IsOpened p old r × (mid ≡ old)
  opens_now p old r mid (inl (reply, m, (tells, same), rest)) = (let s = in_status (Tells size places) p old (looked reply) tells m r mid rest in (s.0, s.1 ∙ same))
  opens_now p old r mid (inr refused) = (subst (IsOpened p old) (sym refused.0) (inl (inl refl)), refused.1)

  read_line : (p : Path) (old : Machine) → AreWithin size (chunks_in (at old.plain.tree p)) → (y : Result Answer Refusal) (new : Machine) → Looks size places (asked.on (Ok p) (asked.with_file (asked.read_of size offset many)) asked.given_bytes) old y new → OnPath size (Ok p) (OfFile (Reads size offset many)) old y new
  read_line p old fit y new (inr refused) = ([], old, refl, inl (refusals.Memory, refused.0, inl refl, refused.1))
  read_line p old fit y new (inl goes) =
      let s = plain_splits (Tells size places) (both (open_call p) (asked.read_of size offset many)) asked.given_bytes old new y goes in
      let o = both_splits (Tells size places) (open_call p) (asked.read_of size offset many) old new s.0 s.2 in
      by_open s.0 s.1 o.0 o.1 (opens_now p old o.0 o.1 o.2) o.3
    where
      by_open : (r : Result (List ℕ × Option Located) Refusal) → y ≡ asked.answered asked.given_bytes r → (x : Result Opened Refusal) (mid : Machine) → IsOpened p old x × (mid ≡ old) → Looks size places (onward (asked.read_of size offset many) x) mid r new → OnPath size (Ok p) (OfFile (Reads size offset many)) old y new
      by_open r is (Ok file) mid ((free, texts, found, most, opened), same) rest =
          let here = subst (λ f. Looks size places (asked.read_of size offset many f) old r new) opened (subst (λ m. Looks size places (asked.read_of size offset many file) m r new) same rest) in
          elim (read_does size places p old texts found (subst (λ (entry : Option (Entry Text)). AreWithin size (chunks_in entry)) found fit) offset many some r new here) [
            | inl (e, refused, store, kept) ↦ ([], old, refl, inl (e, is ∙ refused, store, kept))
            | inr reads ↦ ([], old, refl, inr (free, subst (λ entry. OfFile (Reads size offset many) p entry old y new) (sym found) (subst (λ a. Reads size offset many p texts old a new) (sym is) reads)))
          ]
      by_open r is (Err e) mid (inl store, same) rest = ([], old, refl, inl (e, is ∙ ap (asked.answered asked.given_bytes) rest.0, store, rest.1 ∙ same))
      by_open r is (Err e) mid (inr (free, none), same) rest = ([], old, refl, inr (free, no_file size places (Reads size offset many) p old y new e (is ∙ ap (asked.answered asked.given_bytes) rest.0) (rest.1 ∙ same) (at old.plain.tree p) none))

pub reads_are_explained : ReadsAreExplained
reads_are_explained size block places path offset many pairs answer old new some fit says each = by_path (parse_hidden path) (says_follow (Tells size places) (asked.on (parse_hidden path) (asked.with_file (asked.read_of size offset many)) asked.given_bytes) pairs answer old new says each)
  where
    by_path : (path : Result Path Refusal) → Looks size places (asked.on path (asked.with_file (asked.read_of size offset many)) asked.given_bytes) old answer new → OnPath size path (OfFile (Reads size offset many)) old answer new ⊎ ((answer ≡ Err refusals.Memory) × (new ≡ old))
    by_path (Ok p) h = inl (read_line size places some offset many p old (fit p) answer new h)
    by_path (Err e) h = h
