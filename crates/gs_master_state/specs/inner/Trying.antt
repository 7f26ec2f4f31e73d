-- Why an edit is refused, if it is.
use Rattle.std.specs.Prelude.{◌≡◌, Bool, true, false, Option, Some, None, Result, Ok, Err, if◌then◌else◌, refl}
use Rattle.gs_base.specs.declared.refusal.Refusal.{Refusal}
use Rattle.gs_base.specs.declared.refusal.Refusal.TheVariants as refusals

abbrev pub refusal_of : {A : Type 0} → Result A Refusal → Option Refusal
refusal_of (Ok done) = None
refusal_of (Err refusal) = Some refusal

-- the counts of references refuse an edit so, and the tree refuses no snapshot so
abbrev pub is_of_counts : Refusal → Bool
is_of_counts refusals.Exhausted = true
is_of_counts refusals.BadLine = true
is_of_counts refusal = false

-- why the tree refuses a snapshot, by why the names do
abbrev pub of_tree : Option Refusal → Option Refusal
of_tree None = None
of_tree (Some refusal) = if is_of_counts refusal then None else Some refusal

none_where_it_is_made : refusal_of {A = Unit {0}} (Ok tt) ≡ None
none_where_it_is_made = refl

the_one_of_the_edit : refusal_of {A = Unit {0}} (Err refusals.NotFound) ≡ Some refusals.NotFound
the_one_of_the_edit = refl

one_of_the_tree : of_tree (Some refusals.NotFound) ≡ Some refusals.NotFound
one_of_the_tree = refl

none_of_the_tree : of_tree (Some refusals.Exhausted) ≡ None
none_of_the_tree = refl
