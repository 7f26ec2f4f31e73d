-- What the words of a line are: texts in UTF-8, so that the paths that are read from them can be told, and numbers of 64 bits.
use Rattle.std.proofs.Common.{◌≡◌, ◌∙◌, ◌+◌, ◌*◌, ◌^◌, ◌<◌, ◌≤◌, ◌==◌, ◌&&◌, ◌||◌, ◌++◌, ℕ, zero, suc, Bool, true, false, not, List, [], ◌∷◌, length, take, drop, refl, sym, ap, subst, arith, length-append, length-drop, length-take}
use Rattle.std.specs.Prelude.{Option, Some, None, MatchOption, Result, Ok, Err, codes, is_some, bytes_eq, nat_le, nat_lt, if◌then◌else◌}
use Rattle.std.specs.List.{join_with_byte, list_all, list_any, position_or_len, slice_split}
use Rattle.std.specs.Str.{IsAscii, IsUtf8, all_ascii_digits, is_utf8}
use Rattle.std.specs.Str.Parse.{digits_value}
use Rattle.std.proofs.Math.ListN.{get_or}
use Rattle.std.proofs.Math.Seq.{drop-append-add, get_or-append_seam, take-append_seam}
use Rattle.std.proofs.lemmas.Bool.{false≢true, and_parts, leb-true}
use Rattle.std.proofs.lemmas.Bool.Decides.{nat_tests}
use Rattle.std.proofs.lemmas.List.Splits.{join_with_byte-slice_split}
use Rattle.std.proofs.lemmas.Str.{IsCharBoundary-after_ascii, IsCharBoundary-at_seam, IsUtf8-append, IsUtf8-drop, IsUtf8-from_ascii, IsUtf8-from_is_utf8, IsUtf8-take, is_utf8-from_IsUtf8}
use Rattle.gs_base.specs.Told.{IsNumber}
use Rattle.gs_base.specs.declared.refusal.Refusal.{Refusal}
use Rattle.gs_base.specs.declared.refusal.Refusal.TheVariants as refusals
use Rattle.gs_laws_master.proofs.lemmas.spelling.Spelled.{read_path}
use Rattle.gs_shell_grammar.specs.Grammar.{Request, Text, ◌>>=◌, append_line, damage_line, digest_line, form_request, four_words, hold_line, is_word, line_request, lose_line, number_line, number_request, one_word, read_line, restart_line, three_words, two_words, upgrade_line, words_request, write_line}
use Rattle.gs_shell_grammar.specs.Grammar as lines
use Rattle.gs_shell_grammar.specs.Operands.{bytes_of, number_of}
use Rattle.gs_shell_grammar.specs.declared.command.Restarted.TheVariants.{Master, Server}
use Rattle.gs_shell_grammar.specs.declared.command.Upgrade.TheVariants.{Query, Prepare, Finalize, Rollback}
use Rattle.gs_shell_grammar.specs.declared.command.UpgradeStep.TheVariants.{PrepareBegin, PrepareCommit, RollbackBegin, RollbackCommit}
use Rattle.gs_msg.specs.Kinds.{named}
use Rattle.gs_path.proofs.PathLemmas.{path_text-read_by}
use Rattle.gs_path.specs.Element.{after_point, before_point, hidden_mark, hidden_parts, is_element, is_hidden, is_stored, parts_behind, parts_of}
use Rattle.gs_path.specs.Element as elements
use Rattle.gs_path.specs.Path.{Name, Path, behind_slashes, path_text}
use Rattle.gs_path.specs.Rules.{elements_of, judged, parse, parse_hidden, read_by, without_hidden}
use Rattle.gs_master_record.specs.Writable.{IsPath}

both_true : (a b : Bool) → a ≡ true → b ≡ true → (a && b) ≡ true
both_true true b h k = k
both_true false b h k = absurd (false≢true h)

-- ---- the parts of a text in UTF-8 between bytes of ASCII

space_utf8 : IsUtf8 (32 ∷ [])
space_utf8 = IsUtf8-from_ascii (32 ∷ []) ascii
  where
    ascii : IsAscii (32 ∷ [])
    ascii zero = omega arith
    ascii (suc i) = omega arith

-- what stands behind such a byte
utf8_rest : (xs : List ℕ) (c : ℕ) (ys : List ℕ) → c < 128 → IsUtf8 (xs ++ c ∷ ys) → IsUtf8 ys
utf8_rest xs c ys low u =
    let bs = xs ++ c ∷ ys in
    let here : length xs < length bs = omega (arith, length-append xs (c ∷ ys)) in
    let ascii : get_or bs (length xs) 0 < 128 = subst (λ n. n < 128) (sym (get_or-append_seam xs c ys 0)) low in
    subst IsUtf8 (drop-append-add xs (c ∷ ys) 1) (IsUtf8-drop bs (length xs + 1) u (IsCharBoundary-after_ascii bs (length xs) u here ascii))

-- and what stands before a space
utf8_first : (xs ys : List ℕ) → IsUtf8 (xs ++ 32 ∷ ys) → IsUtf8 xs
utf8_first xs ys u =
    let tail = IsUtf8-append (32 ∷ []) ys space_utf8 (utf8_rest xs 32 ys (omega arith) u) in
    subst IsUtf8 (take-append_seam xs (32 ∷ ys)) (IsUtf8-take (xs ++ 32 ∷ ys) (length xs) u (IsCharBoundary-at_seam (xs ++ 32 ∷ ys) xs (32 ∷ ys) refl tail))

joined_utf8 : (words : List (List ℕ)) → IsUtf8 (join_with_byte 32 words) → list_all is_utf8 words ≡ true
joined_utf8 [] u = refl
joined_utf8 (x ∷ []) u = both_true (is_utf8 x) true (is_utf8-from_IsUtf8 x u) refl
joined_utf8 (x ∷ y ∷ words) u =
    both_true (is_utf8 x) (list_all is_utf8 (y ∷ words)) (is_utf8-from_IsUtf8 x (utf8_first x (join_with_byte 32 (y ∷ words)) u)) (joined_utf8 (y ∷ words) (utf8_rest x 32 (join_with_byte 32 (y ∷ words)) (omega arith) u))

-- so are the words of a line
words_utf8 : (line : List ℕ) → is_utf8 line ≡ true → list_all is_utf8 (slice_split (λ b. b == 32) line) ≡ true
words_utf8 line u = joined_utf8 (slice_split (λ b. b == 32) line) (subst IsUtf8 (sym (join_with_byte-slice_split 32 line)) (IsUtf8-from_is_utf8 line u))

-- ---- how long an element is

cut_long : (n : ℕ) (xs : List ℕ) → length xs ≤ length (take n xs) + 1 + length (drop (n + 1) xs)
cut_long n xs = omega (arith, length-take n xs, length-drop (n + 1) xs)

point_long : (text : List ℕ) → length text ≤ length (before_point text) + 1 + length (after_point text)
point_long text = cut_long (position_or_len (λ b. b == 46) text) text

element_long : (x : Name) → is_element x ≡ true → length x ≤ 200
element_long x h = let more = (and_parts (nat_lt 0 (length x)) _ h).1 in leb-true (length x) 200 (and_parts (nat_le (length x) 200) _ more).0

number_long : (text : List ℕ) (n : ℕ) → elements.number_of text ≡ Some n → length text ≡ 20
number_long text n is = by_length (length text == 20) refl is
  where
    so : (m : ℕ) → (m == 20) ≡ true → m ≡ 20
    so m e = grind (arith, nat_tests)

    by_length : (b : Bool) → (length text == 20) ≡ b → (if b && (all_ascii_digits text && nat_lt (digits_value 10 text) (2 ^ 64)) then Some (digits_value 10 text) else None) ≡ Some n → length text ≡ 20
    by_length true e h = so (length text) e
    by_length false e h = absurd (false≢true (ap is_some h))

parts_long : (text : List ℕ) → is_some (parts_behind text) ≡ true → length text ≤ 242
parts_long text some = by_first (elements.number_of (before_point text)) refl (elements.number_of (before_point (after_point text))) refl some
  where
    by_old : (m k : ℕ) → elements.number_of (before_point text) ≡ Some m → elements.number_of (before_point (after_point text)) ≡ Some k → (b : Bool) → is_element (after_point (after_point text)) ≡ b →
        is_some {T = ℕ × ℕ × Name} (if b then Some (m, k, after_point (after_point text)) else None) ≡ true → length text ≤ 242
    by_old m k first second true is h =
        let a = number_long (before_point text) m first in
        let b = number_long (before_point (after_point text)) k second in
        let c = element_long (after_point (after_point text)) is in omega (arith, point_long text, point_long (after_point text))
    by_old m k first second false is h = absurd (false≢true h)

    by_first : (a : Option ℕ) → elements.number_of (before_point text) ≡ a → (b : Option ℕ) → elements.number_of (before_point (after_point text)) ≡ b → is_some (parts_of a b (after_point (after_point text))) ≡ true → length text ≤ 242
    by_first None first b second h = absurd (false≢true h)
    by_first (Some m) first None second h = absurd (false≢true h)
    by_first (Some m) first (Some k) second h = by_old m k first second (is_element (after_point (after_point text))) refl h

stored_long : (x : Name) → is_stored x ≡ true → length x ≤ 251
stored_long x stored = by_mark (is_hidden x) refl stored
  where
    by_mark : (b : Bool) → is_hidden x ≡ b → (if b then is_some (if b then parts_behind (drop (length hidden_mark) x) else None) else is_element x) ≡ true → length x ≤ 251
    by_mark true is h = let few = parts_long (drop (length hidden_mark) x) h in omega (arith, length-drop (length hidden_mark) x)
    by_mark false is h = let few = element_long x h in omega arith

behind_long : (p : Path) → list_all is_stored p ≡ true → length (behind_slashes p) ≤ 252 * length p
behind_long [] all = omega arith
behind_long (x ∷ p) all =
    let parts = and_parts (is_stored x) (list_all is_stored p) all in
    let own = stored_long x parts.0 in
    let rest = behind_long p parts.1 in omega (arith, length-append x (behind_slashes p))

text_long : (p : Path) → list_all is_stored p ≡ true → length p ≤ 64 → length (path_text p) < 2 ^ 16
text_long [] all few = omega arith
text_long (x ∷ p) all few = let long = behind_long (x ∷ p) all in omega arith

-- ---- a path that is read from a word can be told

pub stored_path : (text : List ℕ) (p : Path) → is_utf8 text ≡ true → parse_hidden text ≡ Ok p → IsPath p
stored_path text p utf8 is =
    let same : path_text p ≡ text = path_text-read_by is_stored text p is in
    let again : parse_hidden (path_text p) ≡ Ok p = ap parse_hidden same ∙ is in
    let read = read_path p again in ((text_long p read.stored (leb-true (length p) 64 read.short), ap is_utf8 same ∙ utf8), again)

-- an element that isn't hidden
seen_stored : (x : Name) → is_element x ≡ true → is_hidden x ≡ false → is_stored x ≡ true
seen_stored x element seen = ap (λ b. if b then is_some (hidden_parts x) else is_element x) seen ∙ element

all_stored : (p : Path) → list_all is_element p ≡ true → list_any is_hidden p ≡ false → list_all is_stored p ≡ true
all_stored [] elements seen = refl
all_stored (x ∷ p) elements seen =
    let parts = and_parts (is_element x) (list_all is_element p) elements in by_hidden parts.0 (λ none. all_stored p parts.1 none) (is_hidden x) refl seen
  where
    by_hidden : is_element x ≡ true → (list_any is_hidden p ≡ false → list_all is_stored p ≡ true) → (b : Bool) → is_hidden x ≡ b → (b || list_any is_hidden p) ≡ false → list_all is_stored (x ∷ p) ≡ true
    by_hidden element rest true is h = absurd (false≢true (sym h))
    by_hidden element rest false is h = both_true (is_stored x) (list_all is_stored p) (seen_stored x element is) (rest h)

ok_is : {p q : Path} → ◌≡◌ {A = Result Path Refusal} (Ok p) (Ok q) → p ≡ q
ok_is h = cc

err_never : (e : Refusal) (p : Path) → ◌≡◌ {A = Result Path Refusal} (Err e) (Ok p) → ⊥
err_never e p h = cc

judged_stored : (ps p : Path) → judged is_element ps ≡ Ok p → list_any is_hidden p ≡ false → judged is_stored ps ≡ Ok p
judged_stored ps p is seen = by_tests (nat_le (length ps) 64) refl (list_all is_element ps) refl is
  where
    by_tests : (b : Bool) → nat_le (length ps) 64 ≡ b → (c : Bool) → list_all is_element ps ≡ c → (if b && c then Ok ps else Err refusals.BadPath) ≡ Ok p → judged is_stored ps ≡ Ok p
    by_tests true few true elements h =
        ap (λ b. if b then Ok ps else Err refusals.BadPath) (both_true (nat_le (length ps) 64) (list_all is_stored ps) few (all_stored ps elements (ap (list_any is_hidden) (ok_is h) ∙ seen))) ∙ h
    by_tests true few false elements h = absurd (err_never refusals.BadPath p h)
    by_tests false few c elements h = absurd (err_never refusals.BadPath p h)

read_stored : (text : List ℕ) (p : Path) → read_by is_element text ≡ Ok p → list_any is_hidden p ≡ false → parse_hidden text ≡ Ok p
read_stored [] p is seen = is
read_stored (c ∷ rest) p is seen = by_slash (c == 47) is
  where
    by_slash : (b : Bool) → (if b then judged is_element (elements_of rest) else Err refusals.BadPath) ≡ Ok p → (if b then judged is_stored (elements_of rest) else Err refusals.BadPath) ≡ Ok p
    by_slash true h = judged_stored (elements_of rest) p h seen
    by_slash false h = h

pub visible_path : (text : List ℕ) (p : Path) → is_utf8 text ≡ true → parse text ≡ Ok p → IsPath p
visible_path text p utf8 is = by_read (read_by is_element text) refl is
  where
    by_read : (r : Result Path Refusal) → read_by is_element text ≡ r → without_hidden r ≡ Ok p → IsPath p
    by_read (Err e) read h = absurd (err_never e p h)
    by_read (Ok q) read h = by_hidden (list_any is_hidden q) refl h
      where
        by_hidden : (b : Bool) → list_any is_hidden q ≡ b → (if b then Err refusals.HiddenName else Ok q) ≡ Ok p → IsPath p
        by_hidden true some k = absurd (err_never refusals.HiddenName p k)
        by_hidden false none k = subst IsPath (ok_is k) (stored_path text q utf8 (read_stored text q read none))

-- ---- what a line asks for

-- the texts of paths that a request names for an edit are in UTF-8, and a moment has 64 bits
abbrev pub IsSpoken : Request → Type 0
IsSpoken (lines.Mkdir p) = is_utf8 p ≡ true
IsSpoken (lines.Create p) = is_utf8 p ≡ true
IsSpoken (lines.Mv p q) = (is_utf8 p ≡ true) × (is_utf8 q ≡ true)
IsSpoken (lines.Rm p recursive) = is_utf8 p ≡ true
IsSpoken (lines.Undelete p) = is_utf8 p ≡ true
IsSpoken (lines.Snapshot p q) = (is_utf8 p ≡ true) × (is_utf8 q ≡ true)
IsSpoken (lines.Write p offset bytes) = is_utf8 p ≡ true
IsSpoken (lines.Append p bytes) = is_utf8 p ≡ true
IsSpoken (lines.At moment) = IsNumber moment
IsSpoken request = Unit {0}

-- so is what words ask for, if they do
abbrev AreSpoken : Option Request → Type 0
AreSpoken asked = MatchOption asked (Unit {0}) IsSpoken

pick : (b : Bool) (x y : Option Request) → AreSpoken x → AreSpoken y → AreSpoken (if b then x else y)
pick true x y h k = h
pick false x y h k = k

-- the first of some tests that passes says which, else it is the last
abbrev Rows : Type 0
Rows = List (Bool × Option Request)

abbrev picked : Rows → Option Request → Option Request
picked [] last = last
picked (row ∷ rows) last = if row.0 then row.1 else picked rows last

abbrev RowsSpoken : Rows → Type 0
RowsSpoken [] = Unit {0}
RowsSpoken (row ∷ rows) = AreSpoken row.1 × RowsSpoken rows

all_spoken : (rows : Rows) (last : Option Request) → RowsSpoken rows → AreSpoken last → AreSpoken (picked rows last)
all_spoken [] last each h = h
all_spoken (row ∷ rows) last each h = pick row.0 row.1 (picked rows last) each.0 (all_spoken rows last each.1 h)

follows : {A : Type 0} (o : Option A) (f : A → Option Request) → ((x : A) → o ≡ Some x → AreSpoken (f x)) → AreSpoken (o >>= f)
follows None f h = tt
follows (Some x) f h = h x refl

number_small : (word : List ℕ) (n : ℕ) → number_of word ≡ Some n → IsNumber n
number_small word n is = by_tests (not (length word == 0) && (all_ascii_digits word && nat_lt (digits_value 10 word) (2 ^ 64))) refl is
  where
    some_is : {a b : ℕ} → ◌≡◌ {A = Option ℕ} (Some a) (Some b) → a ≡ b
    some_is h = cc

    below : (v : ℕ) → nat_lt v (2 ^ 64) ≡ true → v < 2 ^ 64
    below v h = grind (arith, nat_tests)

    by_tests : (b : Bool) → (not (length word == 0) && (all_ascii_digits word && nat_lt (digits_value 10 word) (2 ^ 64))) ≡ b → (if b then Some (digits_value 10 word) else None) ≡ Some n → IsNumber n
    by_tests true passed h =
        let small = (and_parts (all_ascii_digits word) _ (and_parts (not (length word == 0)) _ passed).1).1 in subst IsNumber (some_is h) (below (digits_value 10 word) small)
    by_tests false passed h = absurd (false≢true (ap is_some h))

one_spoken : (name : Text) → AreSpoken (one_word name)
unfolding one_word
one_spoken name = all_spoken
    ((bytes_eq name (codes "scan"), Some lines.Scan) ∷ (bytes_eq name (codes "replicate"), Some lines.Replicate) ∷ (bytes_eq name (codes "tick"), Some lines.Tick) ∷ (bytes_eq name (codes "prepare-begin"), Some (lines.Step PrepareBegin)) ∷ (bytes_eq name (codes "prepare-commit"), Some (lines.Step PrepareCommit)) ∷ (bytes_eq name (codes "rollback-begin"), Some (lines.Step RollbackBegin)) ∷ (bytes_eq name (codes "rollback-commit"), Some (lines.Step RollbackCommit)) ∷ []) None
    (tt, (tt, (tt, (tt, (tt, (tt, (tt, tt))))))) tt

upgrade_spoken : (word : Text) → AreSpoken (upgrade_line word)
unfolding upgrade_line
upgrade_spoken word = all_spoken
    ((bytes_eq word (codes "query"), Some (lines.RollingUpgrade Query)) ∷ (bytes_eq word (codes "prepare"), Some (lines.RollingUpgrade Prepare)) ∷ (bytes_eq word (codes "finalize"), Some (lines.RollingUpgrade Finalize)) ∷ (bytes_eq word (codes "rollback"), Some (lines.RollingUpgrade Rollback)) ∷ []) None
    (tt, (tt, (tt, (tt, tt)))) tt

restart_spoken : (node : Text) → AreSpoken (restart_line node)
unfolding restart_line
restart_spoken node =
    pick (bytes_eq node (codes "master")) (Some (lines.Restart Master)) (number_of node >>= (λ server. Some (lines.Restart (Server server)))) tt
    (follows (number_of node) (λ server. Some (lines.Restart (Server server))) (λ server is. tt))

number_asked : (name : Text) (number : ℕ) → IsNumber number → AreSpoken (number_request name number)
number_asked name number small = all_spoken
    ((bytes_eq name (codes "beat"), Some (lines.Beat number)) ∷ (bytes_eq name (codes "at"), Some (lines.At number)) ∷ (bytes_eq name (codes "deliver"), Some (lines.Deliver number)) ∷ []) None
    (tt, (small, (tt, tt))) tt

number_spoken : (name word : Text) → AreSpoken (number_line name word)
unfolding number_line
number_spoken name word = follows (number_of word) (number_request name) (λ number is. number_asked name number (number_small word number is))

two_spoken : (name a : Text) → is_utf8 a ≡ true → AreSpoken (two_words name a)
unfolding two_words
two_spoken name a u = all_spoken
    ((bytes_eq name (codes "mkdir"), Some (lines.Mkdir a)) ∷ (bytes_eq name (codes "create"), Some (lines.Create a)) ∷ (bytes_eq name (codes "ls"), Some (lines.Ls a)) ∷ (bytes_eq name (codes "stat"), Some (lines.Stat a)) ∷ (bytes_eq name (codes "rm"), Some (lines.Rm a false)) ∷ (bytes_eq name (codes "undelete"), Some (lines.Undelete a)) ∷ (bytes_eq name (codes "rollingUpgrade"), upgrade_line a) ∷ (bytes_eq name (codes "restart"), restart_line a) ∷ (bytes_eq name (codes "hold"), (if bytes_eq a (codes "off") then Some (lines.Hold None) else None)) ∷ []) (number_line name a)
    (u, (u, (tt, (tt, (u, (u, (upgrade_spoken a, (restart_spoken a, (pick (bytes_eq a (codes "off")) (Some (lines.Hold None)) None tt tt, tt))))))))) (number_spoken name a)

append_spoken : (path hex : Text) → is_utf8 path ≡ true → AreSpoken (append_line path hex)
unfolding append_line
append_spoken path hex u = follows (bytes_of hex) (λ bytes. Some (lines.Append path bytes)) (λ bytes is. u)

lose_spoken : (server handle : Text) → AreSpoken (lose_line server handle)
unfolding lose_line
lose_spoken server handle =
    follows (number_of server) (λ s. number_of handle >>= (λ h. Some (lines.Lose s h))) (λ s is. follows (number_of handle) (λ h. Some (lines.Lose s h)) (λ h there. tt))

hold_spoken : (word : Text) → AreSpoken (hold_line word)
unfolding hold_line
hold_spoken word = follows (named word) (λ kind. Some (lines.Hold (Some kind))) (λ kind is. tt)

three_spoken : (name a b : Text) → is_utf8 a ≡ true → is_utf8 b ≡ true → AreSpoken (three_words name a b)
unfolding three_words
three_spoken name a b u v = all_spoken
    ((bytes_eq name (codes "mv"), Some (lines.Mv a b)) ∷ (bytes_eq name (codes "snapshot"), Some (lines.Snapshot a b)) ∷ (bytes_eq name (codes "append"), append_line a b) ∷ (bytes_eq name (codes "lose"), lose_line a b) ∷ (bytes_eq name (codes "rm"), (if bytes_eq a (codes "-r") then Some (lines.Rm b true) else None)) ∷ (bytes_eq name (codes "hold"), (if bytes_eq a (codes "on") then hold_line b else None)) ∷ []) None
    ((u, v), ((u, v), (append_spoken a b u, (lose_spoken a b, (pick (bytes_eq a (codes "-r")) (Some (lines.Rm b true)) None v tt, (pick (bytes_eq a (codes "on")) (hold_line b) None (hold_spoken b) tt, tt)))))) tt

write_spoken : (path offset hex : Text) → is_utf8 path ≡ true → AreSpoken (write_line path offset hex)
unfolding write_line
write_spoken path offset hex u =
    follows (number_of offset) (λ at. bytes_of hex >>= (λ bytes. Some (lines.Write path at bytes))) (λ at is. follows (bytes_of hex) (λ bytes. Some (lines.Write path at bytes)) (λ bytes there. u))

read_spoken : (path offset many : Text) → AreSpoken (read_line path offset many)
unfolding read_line
read_spoken path offset many =
    follows (number_of offset) (λ from. number_of many >>= (λ count. Some (lines.Read path from count))) (λ from is. follows (number_of many) (λ count. Some (lines.Read path from count)) (λ count there. tt))

digest_spoken : (path chunk block : Text) → AreSpoken (digest_line path chunk block)
unfolding digest_line
digest_spoken path chunk block =
    follows (number_of chunk) (λ c. number_of block >>= (λ b. Some (lines.Digest path c b))) (λ c is. follows (number_of block) (λ b. Some (lines.Digest path c b)) (λ b there. tt))

damage_spoken : (server handle block : Text) → AreSpoken (damage_line server handle block)
unfolding damage_line
damage_spoken server handle block =
    follows (number_of server) (λ s. number_of handle >>= (λ h. number_of block >>= (λ b. Some (lines.Damage s h b)))) (λ s is.
    follows (number_of handle) (λ h. number_of block >>= (λ b. Some (lines.Damage s h b))) (λ h there. follows (number_of block) (λ b. Some (lines.Damage s h b)) (λ b too. tt)))

four_spoken : (name a b c : Text) → is_utf8 a ≡ true → AreSpoken (four_words name a b c)
unfolding four_words
four_spoken name a b c u = all_spoken
    ((bytes_eq name (codes "write"), write_line a b c) ∷ (bytes_eq name (codes "read"), read_line a b c) ∷ (bytes_eq name (codes "digest"), digest_line a b c) ∷ (bytes_eq name (codes "damage"), damage_line a b c) ∷ []) None
    (write_spoken a b c u, (read_spoken a b c, (digest_spoken a b c, (damage_spoken a b c, tt)))) tt

form_spoken : (words : List Text) → list_all is_utf8 words ≡ true → AreSpoken (form_request words)
form_spoken [] all = tt
form_spoken (name ∷ []) all = one_spoken name
form_spoken (name ∷ a ∷ []) all = two_spoken name a (and_parts (is_utf8 a) true (and_parts (is_utf8 name) _ all).1).0
form_spoken (name ∷ a ∷ b ∷ []) all =
    let rest = and_parts (is_utf8 a) _ (and_parts (is_utf8 name) _ all).1 in three_spoken name a b rest.0 (and_parts (is_utf8 b) true rest.1).0
form_spoken (name ∷ a ∷ b ∷ c ∷ []) all = four_spoken name a b c (and_parts (is_utf8 a) _ (and_parts (is_utf8 name) _ all).1).0
form_spoken (name ∷ a ∷ b ∷ c ∷ d ∷ words) all = tt

words_spoken : (words : List Text) → list_all is_utf8 words ≡ true → AreSpoken (words_request words)
words_spoken words all = pick (list_all is_word words) (form_request words) None (form_spoken words all) tt

line_speaks : (line : List ℕ) → AreSpoken (line_request line)
line_speaks line = by_text (is_utf8 line) refl
  where
    by_text : (b : Bool) → is_utf8 line ≡ b → AreSpoken (if b then words_request (slice_split (λ b. b == 32) line) else None)
    by_text true utf8 = words_spoken (slice_split (λ b. b == 32) line) (words_utf8 line utf8)
    by_text false utf8 = tt

pub line_spoken : (line : List ℕ) (request : Request) → line_request line ≡ Some request → IsSpoken request
line_spoken line request is = subst AreSpoken is (line_speaks line)
