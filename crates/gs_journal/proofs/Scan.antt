-- How the records of a disk are gone over.
use Rattle.std.proofs.Common.{append_assoc, ◌<◌, ◌≡◌, ℕ, suc, ◌+◌, ◌-◌, ◌≤◌, Bool, true, false, List, [], ◌∷◌, ◌++◌, length, take, drop, slice_index, sym, ◌∙◌, ap, subst, arith, length-drop, take-append-drop}
use Rattle.std.proofs.lemmas.List.{length-take-le, drop-drop}
use Rattle.std.proofs.Math.Seq.{take-add}
use Rattle.std.specs.Prelude.{◌&&◌, ◌==◌}
use Rattle.std.proofs.lemmas.Bool.Decides.{nat_tests}
use Rattle.gs_journal.specs.Records.{Entry, body_length, entry_of, records_behind, records_of, header_length}
use Rattle.gs_journal.specs.Bodies.{is_of_form}
use Rattle.gs_journal.specs.Forms.{are_of_form}
use Rattle.gs_journal.specs.inner.Frames.{IsFound, IsEnd}
use Rattle.gs_journal.specs.inner.Rest.{IsComplete}
use Rattle.gs_journal.specs.declared.frame.Found.{Found}
use Rattle.gs_journal.specs.declared.version.Version.{Version}
use Rattle.gs_journal.proofs.Frames.{records_behind_drop, records_frame, whole_front}
use Rattle.gs_journal.proofs.Complete.{complete_header, complete_more}

-- a gate that is found open
pub open_is_one : (gate : ℕ) → (gate == 1) ≡ true → gate ≡ 1
open_is_one gate is = grind (arith, nat_tests)

-- the record that stands behind an open gate
pub found_here : (found : Found) (gate n : ℕ) (behind bytes : List ℕ) → bytes ≡ gate ∷ behind → gate ≡ 1 → n ≡ body_length behind → 5 + n ≤ length behind
    → found.kind ≡ slice_index behind 4 → found.body.now ≡ take n (drop 5 behind) → found.rest.now ≡ drop (5 + n) behind → IsFound found bytes
found_here found gate n behind bytes is is_open says whole kind body rest =
    let front = whole_front behind (omega (arith, says, whole)) in
    let long : length found.body.now ≡ n = ap length body ∙ length-take-le n (drop 5 behind) (omega (arith, whole, length-drop 5 behind)) in
    let size : 6 + length found.body.now ≡ suc (5 + body_length behind) = omega (arith, long, says) in
    let same : entry_of behind ≡ (found.kind, found.body.now) = λ i. (sym kind i, (ap (λ (k : ℕ). take k (drop 5 behind)) (sym says) ∙ sym body) i) in record {
      within = omega (arith, long, whole, ap length is);
      rest = rest ∙ ap (λ (k : ℕ). drop (5 + k) behind) says ∙ ap (λ (l : List ℕ). drop (suc (5 + body_length behind)) l) (sym is) ∙ ap (λ (k : ℕ). drop k bytes) (sym size);
      goes_on = λ more.
          ap (λ (k : ℕ). records_behind 0 (take k bytes ++ more)) size
          ∙ ap (λ (l : List ℕ). records_behind 0 (take (suc (5 + body_length behind)) l ++ more)) (is ∙ ap (λ (g : ℕ). g ∷ behind) is_open)
          ∙ records_frame (take (5 + body_length behind) behind) more front.0
          ∙ ap (λ (r : Entry). r ∷ records_behind 0 more) (front.1 ∙ same);
    }

-- what is kept while the records are gone over
pub record Scans (version : Version) (bytes : List ℕ) (is_first : Bool) (end : ℕ) (rest : List ℕ) : Type 0 where
  pub within : end ≤ length bytes
  pub behind : rest ≡ drop end bytes
  pub complete : IsComplete (take end bytes)
  pub form : are_of_form version is_first (records_behind 0 rest) ≡ are_of_form version true (records_of bytes)

pub scan_starts : (version : Version) (bytes rest : List ℕ) → header_length ≤ length bytes → rest ≡ drop 13 bytes → Scans version bytes true 13 rest
scan_starts version bytes rest long is = record {
  within = long;
  behind = is;
  complete = (complete_header (take 13 bytes) (length-take-le 13 bytes long)).0;
  form = ap (are_of_form version true) (ap (records_behind 0) is ∙ sym (records_behind_drop 13 bytes));
}

-- the record at the front, and those behind it
pub first_found : (found : Found) (bytes : List ℕ) → IsFound found bytes → records_behind 0 bytes ≡ (found.kind, found.body.now) ∷ records_behind 0 found.rest.now
first_found found bytes is =
    let k = 6 + length found.body.now in
    ap (records_behind 0) (sym (take-append-drop k bytes)) ∙ is.goes_on (drop k bytes) ∙ ap (λ (l : List ℕ). (found.kind, found.body.now) ∷ records_behind 0 l) (sym is.rest)

and_true : (b c : Bool) → b ≡ true → (b && c) ≡ c
and_true b c is = ap (λ (x : Bool). x && c) is

and_false : (b c : Bool) → b ≡ false → (b && c) ≡ false
and_false b c is = ap (λ (x : Bool). x && c) is

pub scan_goes_on : (version : Version) (bytes : List ℕ) (is_first : Bool) (end : ℕ) (rest : List ℕ) (found : Found) → Scans version bytes is_first end rest → IsFound found rest
    → is_of_form version is_first (found.kind, found.body.now) ≡ true → Scans version bytes false (end + (6 + length found.body.now)) found.rest.now
scan_goes_on version bytes is_first end rest found s is form =
    let k = 6 + length found.body.now in
    let size : k ≤ length bytes - end = omega (arith, is.within, ap length s.behind, length-drop end bytes) in
    let part : take (end + k) bytes ≡ take end bytes ++ take k rest = take-add end k bytes ∙ ap (λ (l : List ℕ). take end bytes ++ take k l) (sym s.behind) in record {
      within = omega (arith, size, s.within);
      behind = is.rest ∙ ap (λ (l : List ℕ). drop k l) s.behind ∙ drop-drop k end bytes;
      complete = subst IsComplete (sym part) (complete_more (take end bytes) (take k rest) (found.kind, found.body.now) s.complete (length-take-le k rest is.within) is.goes_on);
      form = sym (and_true _ (are_of_form version false (records_behind 0 found.rest.now)) form) ∙ sym (ap (are_of_form version is_first) (first_found found rest is)) ∙ s.form;
    }

pub scan_refuses : (version : Version) (bytes : List ℕ) (is_first : Bool) (end : ℕ) (rest : List ℕ) (found : Found) → Scans version bytes is_first end rest → IsFound found rest
    → is_of_form version is_first (found.kind, found.body.now) ≡ false → are_of_form version true (records_of bytes) ≡ false
scan_refuses version bytes is_first end rest found s is form =
    sym s.form ∙ ap (are_of_form version is_first) (first_found found rest is) ∙ and_false _ (are_of_form version false (records_behind 0 found.rest.now)) form

pub scan_ends : (version : Version) (bytes : List ℕ) (is_first : Bool) (end : ℕ) (rest : List ℕ) → Scans version bytes is_first end rest → records_behind 0 rest ≡ []
    → IsEnd end bytes × (are_of_form version true (records_of bytes) ≡ true)
scan_ends version bytes is_first end rest s none = (
  record { within = s.within; complete = s.complete; no_more = ap (records_behind 0) (sym s.behind) ∙ none },
  sym s.form ∙ ap (are_of_form version is_first) none,
)

-- the measure of going over them
pub shorter : (found : Found) (rest : List ℕ) → IsFound found rest → length found.rest.now < length rest
shorter found rest is = omega (arith, is.within, ap length is.rest, length-drop (6 + length found.body.now) rest)

-- what is kept while the records are read
pub reading_starts : (bytes rest : List ℕ) (read : List Entry) → read ≡ [] → rest ≡ drop 13 bytes → read ++ records_behind 0 rest ≡ records_of bytes
reading_starts bytes rest read none is = ap (λ (rs : List Entry). rs ++ records_behind 0 rest) none ∙ ap (records_behind 0) is ∙ sym (records_behind_drop 13 bytes)

pub reading_goes_on : (bytes rest : List ℕ) (read more : List Entry) (found : Found) (r : Entry) → IsFound found rest → r ≡ (found.kind, found.body.now) → more ≡ read ++ r ∷ []
    → read ++ records_behind 0 rest ≡ records_of bytes → more ++ records_behind 0 found.rest.now ≡ records_of bytes
reading_goes_on bytes rest read more found r at is pushed so_far =
    ap (λ (rs : List Entry). rs ++ records_behind 0 found.rest.now) pushed
    ∙ append_assoc read (r ∷ []) (records_behind 0 found.rest.now)
    ∙ ap (λ (e : Entry). read ++ e ∷ records_behind 0 found.rest.now) is
    ∙ ap (λ (rs : List Entry). read ++ rs) (sym (first_found found rest at))
    ∙ so_far
