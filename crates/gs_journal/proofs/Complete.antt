-- Bytes that are a header and whole records.
use Rattle.std.proofs.Common.{◌≡◌, ◌≢◌, ℕ, ◌+◌, List, [], ◌∷◌, ◌++◌, length, take, drop, get_or, refl, sym, ◌∙◌, ap, subst, arith, append_assoc, length-append, take-append-drop, length-drop}
use Rattle.std.specs.Prelude.{sum_by}
use Rattle.std.proofs.lemmas.List.{append-nil, take_at, drop_at, drop_all, drop_more, get_or_at, length-take-le}
use Rattle.std.proofs.lemmas.List.Sums.{sum_by-append, sum_by-cons}
use Rattle.gs_journal.specs.Records.{Entry, body_length, entry_of, records_behind, records_of, header_length, text_of}
use Rattle.gs_journal.specs.Journal.{record_size, text_size}
use Rattle.gs_journal.specs.inner.Rest.{IsComplete, IsAtRest}
use Rattle.gs_journal.proofs.Frames.{records_behind_drop, IsFrame, records_frame, closed}

-- how many bytes the records take, where there is one more
one_more : (rs : List Entry) (r : Entry) → sum_by record_size (rs ++ r ∷ []) ≡ sum_by record_size rs + record_size r
one_more rs r = omega (arith, sum_by-append record_size rs (r ∷ []), sum_by-cons record_size r [])

-- a front of which the size is known, and a part that is one record more
longer : (front part : List ℕ) (r : Entry) → IsComplete front → length part ≡ record_size r → records_of (front ++ part) ≡ records_of front ++ r ∷ []
    → length (front ++ part) ≡ header_length + sum_by record_size (records_of (front ++ part))
longer front part r so_far size here =
    let sums : sum_by record_size (records_of (front ++ part)) ≡ sum_by record_size (records_of front) + record_size r = ap (sum_by record_size) here ∙ one_more (records_of front) r in
    omega (arith, so_far.size, size, sums, length-append front part)

-- a header alone
pub complete_header : (bytes : List ℕ) → length bytes ≡ header_length → IsComplete bytes × (records_of bytes ≡ [])
complete_header bytes size =
    let none : records_of bytes ≡ [] = records_behind_drop 13 bytes ∙ ap (records_behind 0) (ap (λ (l : List ℕ). drop 13 l) (sym (append-nil bytes)) ∙ drop_at bytes [] 13 size) in (
      record {
        header = omega (arith, size);
        size = size ∙ ap (λ (rs : List Entry). header_length + sum_by record_size rs) (sym none);
        goes_on = λ rest. records_behind_drop 13 (bytes ++ rest) ∙ ap (records_behind 0) (drop_at bytes rest 13 size) ∙ ap (λ (rs : List Entry). rs ++ records_behind 0 rest) (sym none);
      },
      none,
    )

-- how many bytes a record takes that stands behind a gate
frame_size : (bytes : List ℕ) → IsFrame bytes → length (1 ∷ bytes) ≡ record_size (entry_of bytes)
frame_size bytes is = omega (arith, is.size, length-drop 5 bytes, length-take-le (body_length bytes) (drop 5 bytes) (omega (arith, is.size, length-drop 5 bytes)))

-- one record more
pub complete_next : (front bytes : List ℕ) → IsComplete front → IsFrame bytes → IsComplete (front ++ 1 ∷ bytes) × (records_of (front ++ 1 ∷ bytes) ≡ records_of front ++ entry_of bytes ∷ [])
complete_next front bytes so_far is =
    let all : (rest : List ℕ) → records_of ((front ++ 1 ∷ bytes) ++ rest) ≡ records_of front ++ entry_of bytes ∷ records_behind 0 rest =
    λ rest. ap records_of (append_assoc front (1 ∷ bytes) rest) ∙ so_far.goes_on (1 ∷ bytes ++ rest) ∙ ap (λ (rs : List Entry). records_of front ++ rs) (records_frame bytes rest is) in
    let here : records_of (front ++ 1 ∷ bytes) ≡ records_of front ++ entry_of bytes ∷ [] = ap records_of (sym (append-nil (front ++ 1 ∷ bytes))) ∙ all [] in (
      record {
        header = omega (arith, so_far.header, length-append front (1 ∷ bytes));
        size = longer front (1 ∷ bytes) (entry_of bytes) so_far (frame_size bytes is) here;
        goes_on = λ rest. all rest ∙ sym (append_assoc (records_of front) (entry_of bytes ∷ []) (records_behind 0 rest)) ∙ ap (λ (rs : List Entry). rs ++ records_behind 0 rest) (sym here);
      },
      here,
    )

-- what stands behind whole records counts for nothing
pub ends_there : (front rest : List ℕ) → IsComplete front → records_behind 0 rest ≡ [] → records_of (front ++ rest) ≡ records_of front
ends_there front rest so_far none = so_far.goes_on rest ∙ ap (λ (rs : List Entry). records_of front ++ rs) none ∙ append-nil (records_of front)

-- bytes at rest, in two parts
pub at_rest_parts : (end : ℕ) (bytes : List ℕ) → IsAtRest end bytes → bytes ≡ take end bytes ++ get_or bytes end 1 ∷ []
at_rest_parts end bytes rest =
    sym (take-append-drop end bytes)
    ∙ ap (λ (l : List ℕ). take end bytes ++ l) (drop_more bytes end 1 (omega (arith, rest.length)) ∙ ap (λ (l : List ℕ). get_or bytes end 1 ∷ l) (drop_all (end + 1) bytes (omega (arith, rest.length))))

pub at_rest_records : (end : ℕ) (bytes : List ℕ) → IsAtRest end bytes → records_of bytes ≡ records_of (take end bytes)
at_rest_records end bytes rest = ap records_of (at_rest_parts end bytes rest) ∙ ends_there (take end bytes) (get_or bytes end 1 ∷ []) rest.complete (closed (get_or bytes end 1) [] rest.closed)

-- how many bytes are at rest
pub at_rest_size : (end : ℕ) (bytes : List ℕ) → IsAtRest end bytes → end + 1 ≡ text_size (text_of bytes)
at_rest_size end bytes rest =
    omega (arith, rest.complete.size, length-take-le end bytes (omega (arith, rest.length)), ap (sum_by record_size) (at_rest_records end bytes rest))

-- a complete front and a closed gate
pub at_rest : (front : List ℕ) (gate : ℕ) → IsComplete front → gate ≢ 1 → IsAtRest (length front) (front ++ gate ∷ []) × (records_of (front ++ gate ∷ []) ≡ records_of front)
at_rest front gate so_far shut = (
  record {
    length = length-append front (gate ∷ []);
    closed = λ is. shut (sym (get_or_at front gate [] 1 (length front) refl) ∙ is);
    complete = subst IsComplete (sym (take_at front (gate ∷ []) (length front) refl)) so_far;
  },
  ends_there front (gate ∷ []) so_far (closed gate [] shut),
)

-- any bytes that are read as one record more
pub complete_more : (front part : List ℕ) (r : Entry) → IsComplete front → length part ≡ record_size r → ((more : List ℕ) → records_behind 0 (part ++ more) ≡ r ∷ records_behind 0 more) → IsComplete (front ++ part)
complete_more front part r so_far size reads =
    let all : (rest : List ℕ) → records_of ((front ++ part) ++ rest) ≡ records_of front ++ r ∷ records_behind 0 rest =
    λ rest. ap records_of (append_assoc front part rest) ∙ so_far.goes_on (part ++ rest) ∙ ap (λ (rs : List Entry). records_of front ++ rs) (reads rest) in
    let here : records_of (front ++ part) ≡ records_of front ++ r ∷ [] = ap records_of (sym (append-nil (front ++ part))) ∙ all [] in record {
      header = omega (arith, so_far.header, length-append front part);
      size = longer front part r so_far size here;
      goes_on = λ rest. all rest ∙ sym (append_assoc (records_of front) (r ∷ []) (records_behind 0 rest)) ∙ ap (λ (rs : List Entry). rs ++ records_behind 0 rest) (sym here);
    }
