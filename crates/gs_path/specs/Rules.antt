-- Which path a text is.
use Rattle.std.specs.Prelude.{◌≡◌, ◌++◌, ◌&&◌, ◌==◌, ◌∷◌, [], ℕ, List, Bool, Result, Ok, Err, ◌⊎◌, codes, length, replicate, nat_le, if◌then◌else◌, refl}
use Rattle.std.specs.List.{list_all, list_any, slice_split, flat_map}
use Rattle.gs_base.specs.declared.refusal.Refusal.{Refusal}
use Rattle.gs_base.specs.declared.refusal.Refusal.TheVariants.{BadPath, HiddenName, Memory}
use Rattle.gs_path.specs.Path.{Name, Path}
use Rattle.gs_path.specs.Element.{is_element, is_hidden, is_stored}

-- the parts between slashes of what stands behind the first slash
abbrev pub elements_of : List ℕ → Path
elements_of [] = []
elements_of (c ∷ rest) = slice_split (λ b. b == 47) (c ∷ rest)

-- a path has at most so many elements
abbrev pub is_within_depth : Path → Bool
is_within_depth p = nat_le (length p) 64

-- these elements, if there are at most 64 and each passes
abbrev pub judged : (Name → Bool) → Path → Result Path Refusal
judged passes p = if is_within_depth p && list_all passes p then Ok p else Err BadPath

-- the path of a text that begins with a slash
abbrev pub read_by : (Name → Bool) → List ℕ → Result Path Refusal
read_by passes [] = Err BadPath
read_by passes (c ∷ rest) = if c == 47 then judged passes (elements_of rest) else Err BadPath

-- no element may begin as hidden ones do
abbrev pub without_hidden : Result Path Refusal → Result Path Refusal
without_hidden (Ok p) = if list_any is_hidden p then Err HiddenName else Ok p
without_hidden (Err e) = Err e

abbrev pub parse : List ℕ → Result Path Refusal
parse text = without_hidden (read_by is_element text)

-- the same, with elements of the hidden form
abbrev pub parse_hidden : List ℕ → Result Path Refusal
parse_hidden text = read_by is_stored text

-- what a reader answers: what is expected, and Memory alone in its place
abbrev pub ReadsAs : {A : Type 0} → Result A Refusal → Result A Refusal → Type 0
ReadsAs expected (Ok x) = expected ≡ Ok x
ReadsAs expected (Err e) = (expected ≡ Err e) ⊎ (e ≡ Memory)

two : parse (codes "/a/b") ≡ Ok (codes "a" ∷ codes "b" ∷ [])
two = refl

root : parse (codes "/") ≡ Ok []
root = refl

nothing : parse [] ≡ Err BadPath
nothing = refl

no_slash : parse (codes "a/b") ≡ Err BadPath
no_slash = refl

empty_elements : parse (codes "//") ≡ Err BadPath
empty_elements = refl

slash_at_the_end : parse (codes "/a/") ≡ Err BadPath
slash_at_the_end = refl

this_directory : parse (codes "/.") ≡ Err BadPath
this_directory = refl

colon : parse (codes "/x:y") ≡ Err BadPath
colon = refl

hidden : parse (codes "/.deleted.x") ≡ Err HiddenName
hidden = refl

bad_before_hidden : parse (codes "/.deleted.x/..") ≡ Err BadPath
bad_before_hidden = refl

not_of_the_form : parse_hidden (codes "/.deleted.x") ≡ Err BadPath
not_of_the_form = refl

of_the_form : parse_hidden (codes "/a/.deleted.00000000000000000000.00000000000000000001.f") ≡ Ok (codes "a" ∷ codes ".deleted.00000000000000000000.00000000000000000001.f" ∷ [])
of_the_form = refl

-- of 200 bytes, so too long when it is hidden
long_name : Name
long_name = replicate 200 97

long_hidden : parse (codes "/.deleted.00000000000000000000.00000000000000000001." ++ long_name) ≡ Err BadPath
unfolding long_name
long_hidden = refl

long_hidden_element : parse_hidden (codes "/.deleted.00000000000000000000.00000000000000000001." ++ long_name) ≡ Ok ((codes ".deleted.00000000000000000000.00000000000000000001." ++ long_name) ∷ [])
unfolding long_name
long_hidden_element = refl

deepest : parse (flat_map (λ x. codes "/" ++ x) (replicate 64 (codes "a"))) ≡ Ok (replicate 64 (codes "a"))
deepest = refl

too_deep : parse (flat_map (λ x. codes "/" ++ x) (replicate 65 (codes "a"))) ≡ Err BadPath
too_deep = refl
