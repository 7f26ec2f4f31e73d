-- What is left by a call that fails is of the form that is read again.
use Rattle.std.proofs.Common.{◌≡◌, inl, inr, ◌∙◌, ◌++◌, Bool, true, false, List, [], ◌∷◌, refl, ap}
use Rattle.std.specs.Prelude.{◌&&◌}
use Rattle.std.specs.Cmp.Derive.{both_true}
use Rattle.gs_journal.specs.Records.{Entry, Text}
use Rattle.gs_journal.specs.Bodies.{is_of_form}
use Rattle.gs_journal.specs.Forms.{are_of_form, is_empty, is_next, is_text}
use Rattle.gs_journal.specs.Journal.{IsOldOrNew, IsWithOrWithout, checkpointed}
use Rattle.gs_journal.specs.declared.version.Version.{Version}
use Rattle.gs_journal.specs.declared.version.Version.TheVariants.{Two}

front : (b c : Bool) → (b && c) ≡ true → b ≡ true
front true c both = refl
front false c both = both

back : (b c : Bool) → (b && c) ≡ true → c ≡ true
back true c both = both
back false c both = absurd (cc both)

one_behind : (version : Version) (rs : List Entry) (r : Entry) → are_of_form version false rs ≡ true → is_of_form version false r ≡ true → are_of_form version false (rs ++ r ∷ []) ≡ true
one_behind version [] r are is = both_true is refl
one_behind version (x ∷ xs) r are is =
    both_true (front (is_of_form version false x) (are_of_form version false xs) are) (one_behind version xs r (back (is_of_form version false x) (are_of_form version false xs) are) is)

one_more : (version : Version) (rs : List Entry) (r : Entry) → are_of_form version true rs ≡ true → is_of_form version (is_empty rs) r ≡ true → are_of_form version true (rs ++ r ∷ []) ≡ true
one_more version [] r are is = both_true is refl
one_more version (x ∷ xs) r are is =
    both_true (front (is_of_form version true x) (are_of_form version false xs) are) (one_behind version xs r (back (is_of_form version true x) (are_of_form version false xs) are) is)

pub with_or_without : (old : Text) (r : Entry) (left : Text) → is_text old ≡ true → is_next old r ≡ true → IsWithOrWithout old r left → is_text left ≡ true
with_or_without old r left are is (inl same) = ap is_text same ∙ are
with_or_without old r left are is (inr more) = ap is_text more ∙ one_more old.0 old.1 r are is

pub old_or_new : (old : Text) (body : List _) (left : Text) → is_text old ≡ true → is_of_form Two true (9, body) ≡ true → IsOldOrNew old (checkpointed body) left → is_text left ≡ true
old_or_new old body left are is (inl same) = ap is_text same ∙ are
old_or_new old body left are is (inr new) = ap is_text new ∙ both_true is refl
