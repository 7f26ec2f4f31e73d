-- What a start runs of a log that a crash has left.
use Rattle.std.proofs.Common.{◌≡◌, ◌<◌, ◌+◌, ◌++◌, ◌∷◌, ◌⊎◌, ⊎_elim, [], ℕ, List, Bool, true, Option, Some, None, length, map, refl, sym, ap, subst, ◌∙◌, arith, append_assoc, inl, inr}
use Rattle.std.proofs.lemmas.List.{append_cancel_left}
use Rattle.std.specs.List.{AllByRecursion}
use Rattle.gs_keep_mark.specs.Marks.{Entry, Totals, behind, mark_of, marked, text_of, told_by, with_batch}
use Rattle.gs_keep_mark.specs.Started.{Alike, AllAlike, AreAmong, AreBatches, IsOneOf, NoMark, StartRunsWhatWasAnswered, TellsApart, answers_of, one_or_none}
use Rattle.gs_keep_mark.proofs.Lines.{batch_same, has_mark, lines_same, mark_tells}
use Rattle.gs_keep_mark.proofs.Texts.{answers_with, count_with, text_at_least, text_grows, text_passed, text_with, totals_same}

all_map : {X : Type 0} (P Q : X → Type 0) (xs : List X) → ((x : X) → P x → Q x) → AllByRecursion P xs → AllByRecursion Q xs
all_map P Q [] f all = tt
all_map P Q (x ∷ xs) f all = (f x all.0, all_map P Q xs f all.1)

-- one of some
abbrev IsIn : Totals → List Totals → Type 0
IsIn v [] = ⊥
IsIn v (u ∷ us) = (v ≡ u) ⊎ IsIn v us

-- a mark that is one of some is that of one for which all holds
find : (P : Totals → Type 0) (mark : List ℕ) (all : List Totals) → IsOneOf mark all → AllByRecursion P all → (v : Totals) × (mark ≡ mark_of v) × P v
find P mark [] one holds = absurd one
find P mark (u ∷ more) one holds = ⊎_elim (λ same. (u, same, holds.0)) (λ other. find P mark more other holds.1) one

module _ (among : List ℕ → Bool) (apart : TellsApart among) (waiting : Option (List Entry)) (waits : AreBatches (one_or_none waiting)) (all : List Totals) where
  abbrev Among : Totals → Type 0
  Among u = (among u.text ≡ true) × (among u.answers ≡ true)

  -- where a mark that was written stands: before what a start has run so far, or among what is to come
  abbrev Stands : Totals → List (List Entry) → Totals → Type 0
  Stands t answered v = Among v × ((length v.text < length t.text) ⊎ IsIn v (told_by t (answered ++ one_or_none waiting)))

  -- marks that are the same tell of the same
  same_told : (u v : Totals) → Among u → Among v → mark_of u ≡ mark_of v → (u.text ≡ v.text) × (u.answers ≡ v.answers)
  same_told u v one other same =
      let (texts, answers) = mark_tells u v same in
      (apart u.text v.text one.0 other.0 texts, apart u.answers v.answers one.1 other.1 answers)

  -- batches with the same lines, behind the same totals, and marks that tell of the same
  same_batch : (t : Totals) (one other : List Entry) → map (λ (e : Entry). e.line) one ≡ map (λ (e : Entry). e.line) other → (with_batch t one).answers ≡ (with_batch t other).answers → Alike one other
  same_batch t one other lines told =
      record { lines = lines; answers = append_cancel_left t.answers (answers_of one) (answers_of other) (sym (answers_with t one) ∙ told ∙ answers_with t other) }

  -- no mark behind the batch that waited was written
  none_behind : (t : Totals) (batch next : List Entry) (w : List Entry) → waiting ≡ Some w → (with_batch t batch).text ≡ (with_batch t w).text
      → Among (with_batch (behind t batch) next) → (v : Totals) × (mark_of (with_batch (behind t batch) next) ≡ mark_of v) × Stands t [] v → ⊥
  none_behind t batch next w is same known (v, mark, stands) =
      let u = with_batch (behind t batch) next in
      let (others, place) = stands in
      let (texts, answers) = same_told u v known others mark in
      let grown = text_grows t batch in
      let passed = text_passed t batch in
      let most = text_at_least (behind t batch) next in
      ⊎_elim (λ short. omega (arith, ap length texts, short, grown, most))
      (λ later. last (subst (λ (o : Option (List Entry)). IsIn v (told_by t (one_or_none o))) is later) texts passed most) place
    where
      last : (v ≡ with_batch t w) ⊎ ⊥ → (with_batch (behind t batch) next).text ≡ v.text → length (with_batch t batch).text < length (behind t batch).text
          → length (behind t batch).text < length (with_batch (behind t batch) next).text + 1 → ⊥
      last (inl e) texts passed most = omega (arith, ap length (texts ∙ ap (λ (x : Totals). x.text) e ∙ sym same), passed, most)
      last (inr no_more) texts passed most = no_more

  -- all that was answered is run: then comes at most what waited
  behind_all : (t : Totals) (ran : List (List Entry)) → AreBatches ran → AreAmong among t ran → AllByRecursion (λ u. IsOneOf (mark_of u) all) (told_by t ran) → AllByRecursion (Stands t []) all
      → AllAlike ran [] ⊎ AllAlike ran (one_or_none waiting)
  behind_all t [] batches known marks places = inl tt
  behind_all t (batch ∷ more) batches known marks places =
      let u = with_batch t batch in
      let (v, mark, stands) = find (Stands t []) (mark_of u) all marks.0 places in
      let (others, place) = stands in
      let (texts, answers) = same_told u v known.0 others mark in
      ⊎_elim (λ short. absurd (omega (arith, ap length texts, short, text_at_least t batch))) (λ later. inr (at waiting refl v texts answers later)) place
    where
      at : (o : Option (List Entry)) → waiting ≡ o → (v : Totals) → (with_batch t batch).text ≡ v.text → (with_batch t batch).answers ≡ v.answers → IsIn v (told_by t (one_or_none waiting))
          → AllAlike (batch ∷ more) (one_or_none waiting)
      at None is v texts answers later = absurd (subst (λ (o : Option (List Entry)). IsIn v (told_by t (one_or_none o))) is later)
      at (Some w) is v texts answers later =
          subst (λ (o : Option (List Entry)). AllAlike (batch ∷ more) (one_or_none o)) (sym is)
          (found w is v texts answers (subst (λ (o : Option (List Entry)). IsIn v (told_by t (one_or_none o))) is later))
        where
          found : (w : List Entry) → waiting ≡ Some w → (v : Totals) → (with_batch t batch).text ≡ v.text → (with_batch t batch).answers ≡ v.answers → (v ≡ with_batch t w) ⊎ ⊥
              → AllAlike (batch ∷ more) (w ∷ [])
          found w is v texts answers (inr no_more) = absurd no_more
          found w is v texts answers (inl e) =
              let same : (with_batch t batch).text ≡ (with_batch t w).text = texts ∙ ap (λ (x : Totals). x.text) e in
              let told : (with_batch t batch).answers ≡ (with_batch t w).answers = answers ∙ ap (λ (x : Totals). x.answers) e in
              let one = subst (λ (o : Option (List Entry)). AreBatches (one_or_none o)) is waits in
              let text = append_cancel_left t.text (text_of batch) (text_of w) (sym (text_with t batch) ∙ same ∙ text_with t w) in
              (same_batch t batch w (lines_same batch w batches.0 one.0 text) told, rest more batches.1 known.1 marks.1 same)
            where
              rest : (more : List (List Entry)) → AreBatches more → AreAmong among (behind t batch) more → AllByRecursion (λ u. IsOneOf (mark_of u) all) (told_by (behind t batch) more)
                  → (with_batch t batch).text ≡ (with_batch t w).text → AllAlike more []
              rest [] batches known marks same = tt
              rest (next ∷ more) batches known marks same =
                  absurd (none_behind t batch next w is same known.0 (find (Stands t []) (mark_of (with_batch (behind t batch) next)) all marks.0 places))

  moved_on : (t : Totals) (batch : List Entry) (answered : List (List Entry)) (v : Totals) → Stands t (batch ∷ answered) v → Stands (behind t batch) answered v
  moved_on t batch answered v (known, place) =
      let grown = text_grows t batch in
      let passed = text_passed t batch in (
        known,
        ⊎_elim (λ short. inl (omega (arith, short, grown)))
            (λ later. ⊎_elim (λ here. inl (omega (arith, ap (λ (x : Totals). length x.text) here, passed))) (λ behind. inr behind) later) place,
      )

  assoc_three : (a b c d : List ℕ) → (a ++ (b ++ c)) ++ d ≡ a ++ (b ++ (c ++ d))
  assoc_three a b c d = append_assoc a (b ++ c) d ∙ ap (λ (l : List ℕ). a ++ l) (append_assoc b c d)

  pub runs_all : (t : Totals) (answered ran : List (List Entry)) (left rest : List ℕ) → AreBatches answered → AreBatches ran → AreAmong among t (answered ++ one_or_none waiting)
      → AreAmong among t ran → AllByRecursion (λ u. IsOneOf (mark_of u) all) (told_by t ran) → AllByRecursion (Stands t answered) all
      → marked t answered ++ left ≡ marked t ran ++ rest → NoMark rest → AllAlike ran answered ⊎ AllAlike ran (answered ++ one_or_none waiting)
  runs_all t [] ran left rest answers batches known known' marks places same none = behind_all t ran batches known' marks places
  runs_all t (batch ∷ answered) [] left rest answers batches known known' marks places same none =
      let back = marked (behind t batch) answered in
      absurd (has_mark (with_batch t batch) batch (back ++ left) answers.0
      (subst NoMark (sym same ∙ assoc_three (text_of batch) (mark_of (with_batch t batch)) back left) none))
  runs_all t (batch ∷ answered) (one ∷ ran) left rest answers batches known known' marks places same none =
      let a = with_batch t batch in
      let b = with_batch t one in
      let (lines, mark, back) = batch_same a b batch one (marked (behind t batch) answered ++ left) (marked (behind t one) ran ++ rest) answers.0 batches.0
      (sym (assoc_three (text_of batch) (mark_of a) (marked (behind t batch) answered) left) ∙ same ∙ assoc_three (text_of one) (mark_of b) (marked (behind t one) ran) rest) in
      let (texts, told) = same_told a b known.0 known'.0 mark in
      let totals : a ≡ b = totals_same a b (count_with t t batch one refl lines) texts told in
      let all_behind : behind t one ≡ behind t batch = ap (λ (u : Totals). record { count = u.count; text = u.text ++ mark_of u; answers = u.answers }) (sym totals) in
      let (known'', marks'', same'') = subst (λ (u : Totals). AllByRecursion Among (told_by u ran) × AllByRecursion (λ u. IsOneOf (mark_of u) all) (told_by u ran)
      × (marked (behind t batch) answered ++ left ≡ marked u ran ++ rest)) all_behind (known'.1, marks.1, back) in
      let alike : Alike one batch = same_batch t one batch (sym lines) (sym told) in
      ⊎_elim (λ h. inl (alike, h)) (λ h. inr (alike, h))
      (runs_all (behind t batch) answered ran left rest answers.1 batches.1 known.1 known'' marks'' (all_map _ _ all (moved_on t batch answered) places) same'' none)

-- each of some is one of them
each_is_in : (P : Totals → Type 0) (all : List Totals) → AllByRecursion P all → AllByRecursion (λ v. P v × IsIn v all) all
each_is_in P [] holds = tt
each_is_in P (u ∷ more) holds = ((holds.0, inl refl), all_map _ _ more (λ v h. (h.0, inr h.1)) (each_is_in P more holds.1))

pub starts : StartRunsWhatWasAnswered
starts among t answered ran waiting left rest apart answers waits batches known known' marks same none =
    let all = told_by t (answered ++ one_or_none waiting) in
    runs_all among apart waiting waits all t answered ran left rest answers batches known known' marks
    (all_map _ _ all (λ v h. (h.0, inr h.1)) (each_is_in (λ u. (among u.text ≡ true) × (among u.answers ≡ true)) all known)) same none
