-- What a crash leaves of a disk at rest.
use Rattle.std.proofs.Common.{◌≡◌, ◌≢◌, ◌⊎◌, inl, inr, ⊎_elim, ℕ, ◌+◌, ◌-◌, ◌^◌, ◌<◌, ◌≤◌, List, [], ◌∷◌, ◌++◌, length, take, drop, get_or, sym, ◌∙◌, ap, subst, arith, append_assoc, length-append, length-drop, take-append-drop}
use Rattle.std.proofs.Math.Seq.{take-add}
use Rattle.std.proofs.lemmas.Bool.{cases_eq}
use Rattle.std.proofs.lemmas.List.{append-nil, drop_at, take_all, take_more, drop_more, length-take-le, take-append-le}
use Rattle.gs_journal_disk.specs.Disk.{Torn, Cut}
use Rattle.gs_journal_disk.specs.Stage.{IsClosing, IsOpening}
use Rattle.gs_journal.specs.Records.{Entry, frame, entry_of, records_behind, records_of, header_length}
use Rattle.gs_journal.specs.inner.Rest.{IsComplete, IsAtRest, Continues, IsBeforeOrAfter}
use Rattle.gs_journal.specs.inner.Frames.{IsEnd}
use Rattle.gs_journal.proofs.Frames.{IsFrame, frame_is, records_frame, closed, one_byte, front_of_end}
use Rattle.gs_journal.proofs.Complete.{complete_next, ends_there, at_rest_parts, at_rest_records, at_rest}

-- what a torn write leaves in front of it, where it begins within the bytes
pub torn_front : (at n : ℕ) (old c : List ℕ) → at ≤ length old → Torn at n old c → c ≡ take at old ++ drop at c
torn_front at n old c within torn =
    let front : take at c ≡ take at old = ap (λ (k : ℕ). take k c) (sym (length-take-le at old within)) ∙ torn.before in
    sym (take-append-drop at c) ∙ ap (λ (l : List ℕ). l ++ drop at c) front

-- a torn byte
pub torn_byte : (at : ℕ) (old c : List ℕ) → at < length old → Torn at 1 old c → c ≡ take at old ++ get_or c at 0 ∷ drop (at + 1) old
torn_byte at old c within torn =
    torn_front at 1 old c (omega (arith, within)) torn
    ∙ ap (λ (l : List ℕ). take at old ++ l) (drop_more c at 0 (omega (arith, within, torn.no_shorter)) ∙ ap (λ (l : List ℕ). get_or c at 0 ∷ l) torn.after)

-- bytes behind a front that is a header and records
pub continues_front : (end : ℕ) (old rest : List ℕ) → end ≤ length old → IsComplete (take end old) → (rs : List Entry) → records_behind 0 rest ≡ rs → Continues old (records_of (take end old) ++ rs) (take end old ++ rest)
continues_front end old rest within front rs reads = record {
  same_header = same_header end old rest within front.header;
  has = front.goes_on rest ∙ ap (λ (l : List Entry). records_of (take end old) ++ l) reads;
}
  where
    same_header : (end : ℕ) (old rest : List ℕ) → end ≤ length old → header_length ≤ length (take end old) → take header_length (take end old ++ rest) ≡ take header_length old
    same_header end old rest within long =
        take-append-le header_length (take end old) rest long ∙ sym (take-append-le header_length (take end old) (drop end old) long) ∙ ap (λ (l : List ℕ). take header_length l) (take-append-drop end old)

module _ (end : ℕ) (old : List ℕ) (rest : IsAtRest end old) where
  front : List ℕ
  front = take end old

  -- the bytes that a record's gate closes
  pub behind_gate : (n : ℕ) (c : List ℕ) → Torn (end + 1) n old c → Continues old (records_of old) c
  behind_gate n c torn =
      let all : take (end + 1) old ≡ old = take_all (end + 1) old (omega (arith, rest.length)) in
      let is : c ≡ old ++ drop (end + 1) c = torn_front (end + 1) n old c (omega (arith, rest.length)) torn ∙ ap (λ (l : List ℕ). l ++ drop (end + 1) c) all in
      let parts : c ≡ take end old ++ get_or old end 1 ∷ drop (end + 1) c =
      is ∙ ap (λ (l : List ℕ). l ++ drop (end + 1) c) (at_rest_parts end old rest) ∙ append_assoc (take end old) (get_or old end 1 ∷ []) (drop (end + 1) c) in
      let same : records_of (take end old) ++ [] ≡ records_of old = append-nil (records_of (take end old)) ∙ sym (at_rest_records end old rest) in
      subst (λ (rs : List Entry). Continues old rs c) same
      (subst (Continues old (records_of (take end old) ++ [])) (sym parts)
      (continues_front end old (get_or old end 1 ∷ drop (end + 1) c) (omega (arith, rest.length)) rest.complete [] (closed (get_or old end 1) (drop (end + 1) c) rest.closed)))

  -- the gate of a record that stands whole behind it
  pub at_gate : (bytes c : List ℕ) → IsFrame bytes → Torn end 1 (old ++ (bytes ++ 0 ∷ [])) c → Continues old (records_of old) c ⊎ Continues old (records_of old ++ entry_of bytes ∷ []) c
  at_gate bytes c is torn =
      let x = get_or c end 0 in
      let all = bytes ++ 0 ∷ [] in
      let same : records_of (take end old) ≡ records_of old = sym (at_rest_records end old rest) in
      let parts : c ≡ take end old ++ x ∷ all =
      torn_byte end (old ++ all) c (omega (arith, rest.length, length-append old all)) torn
      ∙ ap (λ (l : List ℕ). l ++ x ∷ drop (end + 1) (old ++ all)) (take-append-le end old all (omega (arith, rest.length)))
      ∙ ap (λ (l : List ℕ). take end old ++ x ∷ l) (drop_at old all (end + 1) rest.length) in
      let goes_on = continues_front end old (x ∷ all) (omega (arith, rest.length)) rest.complete in
      ⊎_elim
      (λ (is_open : x ≡ 1).
      let read : records_behind 0 (x ∷ all) ≡ entry_of bytes ∷ [] = ap (λ (g : ℕ). records_behind 0 (g ∷ all)) is_open ∙ records_frame bytes (0 ∷ []) is ∙ ap (λ (rs : List Entry). entry_of bytes ∷ rs) (closed 0 [] (omega arith)) in
      inr (subst (λ (rs : List Entry). Continues old (rs ++ entry_of bytes ∷ []) c) same (subst (Continues old (records_of (take end old) ++ entry_of bytes ∷ [])) (sym parts) (goes_on (entry_of bytes ∷ []) read))))
      (λ (shut : x ≢ 1).
      inl (subst (λ (rs : List Entry). Continues old rs c) (append-nil (records_of (take end old)) ∙ same) (subst (Continues old (records_of (take end old) ++ [])) (sym parts) (goes_on [] (closed x all shut)))))
      (cases_eq x 1)

  -- the record and its open gate
  pub added : (bytes new : List ℕ) → IsFrame bytes → new ≡ take end old ++ 1 ∷ (bytes ++ 0 ∷ []) → IsAtRest (end + (1 + length bytes)) new × Continues old (records_of old ++ entry_of bytes ∷ []) new
  added bytes new is parts =
      let long : length (take end old) ≡ end = length-take-le end old (omega (arith, rest.length)) in
      let next = complete_next (take end old) bytes rest.complete is in
      let ended = at_rest (take end old ++ 1 ∷ bytes) 0 next.0 (omega arith) in
      let size : length (take end old ++ 1 ∷ bytes) ≡ end + (1 + length bytes) = omega (arith, long, length-append (take end old) (1 ∷ bytes)) in
      let regrouped : (take end old ++ 1 ∷ bytes) ++ 0 ∷ [] ≡ new = append_assoc (take end old) (1 ∷ bytes) (0 ∷ []) ∙ sym parts in
      let read : records_behind 0 (1 ∷ bytes ++ 0 ∷ []) ≡ entry_of bytes ∷ [] = records_frame bytes (0 ∷ []) is ∙ ap (λ (rs : List Entry). entry_of bytes ∷ rs) (closed 0 [] (omega arith)) in
      let same : records_of (take end old) ≡ records_of old = sym (at_rest_records end old rest) in (
        subst (λ (l : List ℕ). IsAtRest (end + (1 + length bytes)) l) regrouped (subst (λ (k : ℕ). IsAtRest k ((take end old ++ 1 ∷ bytes) ++ 0 ∷ [])) size ended.0),
        subst (λ (rs : List Entry). Continues old (rs ++ entry_of bytes ∷ []) new) same
            (subst (Continues old (records_of (take end old) ++ entry_of bytes ∷ [])) (sym parts) (continues_front end old (1 ∷ bytes ++ 0 ∷ []) (omega (arith, rest.length)) rest.complete (entry_of bytes ∷ []) read)),
      )

  module _ (r : Entry) (fits : length r.1 < 2 ^ 32) (text : List ℕ) (is : text ≡ frame r ++ 0 ∷ []) where
    -- a record that is written and then opened
    pub appended : (new : List ℕ) → new ≡ take end old ++ 1 ∷ text → IsAtRest (end + (1 + length (frame r))) new × Continues old (records_of old ++ r ∷ []) new
    appended new parts =
        let framed = frame_is r fits in
        let both = added (frame r) new framed.0 (parts ∙ ap (λ (l : List ℕ). take end old ++ 1 ∷ l) is) in
        (both.0, subst (λ (e : Entry). Continues old (records_of old ++ e ∷ []) new) framed.1 both.1)

    -- a crash in between
    pub append_leaves : (c : List ℕ) → IsOpening end text old c → IsBeforeOrAfter old r c
    append_leaves c (inl torn) = inl (behind_gate (length text) c torn)
    append_leaves c (inr torn) =
        let framed = frame_is r fits in
        let either = at_gate (frame r) c framed.0 (subst (λ (l : List ℕ). Torn end 1 (old ++ l) c) is torn) in
        subst (λ (e : Entry). IsBeforeOrAfter old e c) framed.1 either

-- an end that is put right
module _ (end : ℕ) (old : List ℕ) (is : IsEnd end old) where
  same_end : records_of (take end old) ≡ records_of old
  same_end = sym (ap records_of (sym (take-append-drop end old)) ∙ ends_there (take end old) (drop end old) is.complete is.no_more)

  nothing_behind : (rest c : List ℕ) → records_behind 0 rest ≡ [] → c ≡ take end old ++ rest → Continues old (records_of old) c
  nothing_behind rest c none parts =
      subst (λ (rs : List Entry). Continues old rs c) (append-nil (records_of (take end old)) ∙ same_end)
      (subst (Continues old (records_of (take end old) ++ [])) (sym parts) (continues_front end old rest is.within is.complete [] none))

  -- a cut at the end or behind it
  pub cut_continues : (len : ℕ) (c : List ℕ) → end ≤ len → len ≤ length old → Cut len old c → Continues old (records_of old) c
  cut_continues len c from within cut =
      let m = length c - end in
      let long : length c ≡ end + m = omega (arith, from, cut.no_shorter, length-take-le len old within) in
      nothing_behind (take m (drop end old)) c (front_of_end m (drop end old) is.no_more) (sym cut.front ∙ ap (λ (k : ℕ). take k old) long ∙ take-add end m old)

  -- a torn gate behind the records
  pub gate_continues : (c : List ℕ) → Torn end 1 (take end old) c → Continues old (records_of old) c
  gate_continues c torn =
      let long : length (take end old) ≡ end = length-take-le end old is.within in
      let same : take end (take end old) ≡ take end old = take_all end (take end old) (omega (arith, long)) in
      nothing_behind (drop end c) c (one_byte (drop end c) (omega (arith, torn.no_longer, long, length-drop end c)))
      (torn_front end 1 (take end old) c (omega (arith, long)) torn ∙ ap (λ (l : List ℕ). l ++ drop end c) same)

  -- the records and a closed gate
  pub repaired : (gate : ℕ) (new : List ℕ) → gate ≢ 1 → new ≡ take end old ++ gate ∷ [] → IsAtRest end new × Continues old (records_of old) new
  repaired gate new shut parts =
      let long : length (take end old) ≡ end = length-take-le end old is.within in
      let ended = at_rest (take end old) gate is.complete shut in (
        subst (IsAtRest end) (sym parts) (subst (λ (k : ℕ). IsAtRest k (take end old ++ gate ∷ [])) long ended.0),
        nothing_behind (gate ∷ []) new (closed gate [] shut) parts,
      )

  pub kept_gate : end < length old → take (end + 1) old ≡ take end old ++ get_or old end 1 ∷ []
  kept_gate within = take_more old end 1 within

  pub closing_continues : (c : List ℕ) → IsClosing end old c → Continues old (records_of old) c
  closing_continues c (inl cut) = cut_continues end c (omega arith) is.within cut
  closing_continues c (inr torn) = gate_continues c torn
