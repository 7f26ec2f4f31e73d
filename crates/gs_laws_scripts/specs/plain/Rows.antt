-- Worked: a script of the tree with an upgrade that is rolled back, line by line.
use Rattle.std.specs.Prelude.{[], ◌∷◌, ◌≡◌, List, codes, refl, ℕ}
use Rattle.std.specs.Char.{encode_utf8}
use Rattle.std.specs.Fmt.{digits}
use Rattle.std.specs.Str.{chars, is_utf8}
use Rattle.gs_path.specs.Element.{twenty_digits}
use Rattle.gs_shell_grammar.specs.Grammar.{number_line, one_word, three_words, two_words, upgrade_line}
use Rattle.gs_laws_scripts.specs.plain.Machines.{machine_answers, new_machine}

abbrev script : List (List ℕ)
script =
    codes "mkdir /photos/2024"
    ∷ codes "create /photos/2024/beach"
    ∷ codes "create /notes"
    ∷ codes "rollingUpgrade prepare"
    ∷ codes "mv /notes /photos"
    ∷ codes "at 7"
    ∷ codes "rm -r /photos/2024"
    ∷ codes "ls /photos"
    ∷ codes "ls /photos/2024"
    ∷ codes "rollingUpgrade query"
    ∷ codes "rollingUpgrade rollback"
    ∷ codes "ls /"
    ∷ codes "snapshot /photos /copies"
    ∷ codes "rm -r /photos"
    ∷ codes "ls /copies/2024"
    ∷ []

abbrev answers : List (List ℕ)
answers =
    codes "ok"
    ∷ codes "ok"
    ∷ codes "ok"
    ∷ codes "ok 1"
    ∷ codes "ok"
    ∷ codes "ok"
    ∷ codes "ok /photos/.deleted.00000000000000000007.00000000000000000001.2024"
    ∷ codes "ok notes"
    ∷ codes "refused 3 NotFound"
    ∷ codes "ok upgrade 1"
    ∷ codes "ok 2"
    ∷ codes "ok notes photos/"
    ∷ codes "ok"
    ∷ codes "ok /.deleted.00000000000000000007.00000000000000000002.photos"
    ∷ codes "ok beach"
    ∷ []

they_are_answered_so : machine_answers script new_machine ≡ answers
unfolding two_words three_words upgrade_line number_line is_utf8 chars encode_utf8 digits twenty_digits
they_are_answered_so = refl

-- ---- an upgrade of an empty store

an_empty_upgrade : machine_answers (codes "rollingUpgrade query" ∷ codes "rollingUpgrade prepare" ∷ codes "rollingUpgrade rollback" ∷ codes "rollingUpgrade query" ∷ []) new_machine ≡ codes "ok ordinary 0" ∷ codes "ok 1" ∷ codes "ok 2" ∷ codes "ok ordinary 2" ∷ []
unfolding two_words three_words upgrade_line number_line is_utf8 chars encode_utf8 digits twenty_digits
an_empty_upgrade = refl

-- ---- a directory is moved and deleted, and comes back with what it holds

abbrev moved : List (List ℕ)
moved =
    codes "mkdir /a/b"
    ∷ codes "create /a/f"
    ∷ codes "rollingUpgrade prepare"
    ∷ codes "mv /a /c"
    ∷ codes "rm -r /c"
    ∷ codes "ls /"
    ∷ codes "rollingUpgrade rollback"
    ∷ codes "ls /a"
    ∷ []

abbrev moved_answers : List (List ℕ)
moved_answers =
    codes "ok"
    ∷ codes "ok"
    ∷ codes "ok 1"
    ∷ codes "ok"
    ∷ codes "ok /.deleted.00000000000000000000.00000000000000000001.c"
    ∷ codes "ok"
    ∷ codes "ok 2"
    ∷ codes "ok b/ f"
    ∷ []

it_comes_back : machine_answers moved new_machine ≡ moved_answers
unfolding two_words three_words upgrade_line number_line is_utf8 chars encode_utf8 digits twenty_digits
it_comes_back = refl

-- ---- what is refused

abbrev refused : List (List ℕ)
refused = codes "mkdir /a/b" ∷ codes "create /a" ∷ codes "mv /a /a/b/c" ∷ codes "rollingUpgrade finalize" ∷ codes "rm /x" ∷ codes "rm /a" ∷ codes "undelete /x" ∷ codes "frob" ∷ []

abbrev refusals : List (List ℕ)
refusals = codes "ok" ∷ codes "refused 4 Exists" ∷ codes "refused 8 IntoItself" ∷ codes "refused 13 NotUpgrading" ∷ codes "ok false" ∷ codes "refused 7 NotEmpty" ∷ codes "refused 38 NotHidden" ∷ codes "refused 34 BadLine" ∷ []

they_are_refused_so : machine_answers refused new_machine ≡ refusals
unfolding one_word two_words three_words upgrade_line number_line is_utf8 chars encode_utf8 digits twenty_digits
they_are_refused_so = refl
