-- Answers that are sure: two that are explained where nothing is owed are alike.
use Rattle.std.proofs.Common.{ap, inl, inr, subst, sym, true≢false, ◌∙◌, arith, ltb-true, ltb-false, ne_eqb}
use Rattle.std.proofs.Math.Nat.{pow-suc}
use Rattle.std.proofs.lemmas.Fmt.{decimal_is_IsNumeral_wide, length-decimal-le}
use Rattle.std.specs.Fmt.{digit_glyph, digits, digits_onto}
use Rattle.std.specs.Str.Parse.{digits_value}
use Rattle.std.specs.Prelude.{[], ◌%◌, ◌&&◌, ◌+◌, ◌++◌, ◌/◌, ◌<◌, ◌^◌, ◌≤◌, ◌∷◌, ◌≡◌, ◌≢◌, Bool, Err, List, None, Ok, Option, Result, Some, codes, decimal, false, get_or, if◌then◌else◌, length, map, nat_lt, refl, slice_get, suc, take, true, zero, ℕ}
use Rattle.gs_base.specs.Refusals.{refusal_text}
use Rattle.gs_base.specs.declared.refusal.Refusal.{Refusal}
use Rattle.gs_base.specs.declared.refusal.Refusal.TheVariants as refusals
use Rattle.gs_client.specs.declared.reading.Stat.TheVariants as stats
use Rattle.gs_laws_plain.specs.commands.Commands.{joined}
use Rattle.gs_msg.specs.declared.answer.Answer.{Answer as Said}
use Rattle.gs_msg.specs.declared.answer.Answer.TheVariants as says
use Rattle.gs_msg.specs.declared.call.Call.{Call}
use Rattle.gs_msg.specs.declared.call.Call.TheVariants as calls
use Rattle.gs_path.specs.Path.{Path}
use Rattle.gs_shell_calls.specs.Asked.{answered}
use Rattle.gs_shell_calls.specs.Texts.{answer_text}
use Rattle.gs_shell_calls.specs.declared.answer.Answer.{Answer}
use Rattle.gs_shell_calls.specs.declared.answer.Answer.TheVariants as answers
use Rattle.gs_tree.specs.Entry.{Dir, Entry, File}
use Rattle.gs_tree.specs.Find.{Rows, at}
use Rattle.gs_laws_scripts.specs.explained.Following.{AreAlike, IsPlain}
use Rattle.gs_laws_scripts.specs.explained.Lines.{AsksNow, Digests, IsNoLook, IsOfStore, IsPutOff, IsSaid, MayBeDone, OfFile, OnPath, Reads, Stats, digest_in, read_in, seen, told}
use Rattle.gs_laws_scripts.specs.explained.Machine.{Machine, Text, called, is_preparing, is_rolling, taken, tree_called, tree_said}
use Rattle.gs_laws_scripts.proofs.lemmas.explained.Quiet.{AreQuiet, IsQuietFound, IsStill, RowsAreQuiet, nothing_now, quiet_found, seen_is}

-- ---- texts

refusal_first : (r : Refusal) → get_or (refusal_text r) 0 0 ≡ 114
refusal_first refusals.BadPath = refl
refusal_first r = refl

first_of_two : (text : List ℕ) → get_or (take 2 text) 0 0 ≡ get_or text 0 0
first_of_two [] = refl
first_of_two (x ∷ xs) = refl

-- an answer that isn't a refusal
abbrev pub IsAccepted : List ℕ → Type 0
IsAccepted text = take 2 text ≡ codes "ok"

-- a refusal isn't accepted
pub refused_never : {X : Type 0} (r : Refusal) (text : List ℕ) → text ≡ refusal_text r → IsAccepted text → X
refused_never r text is accepted = absurd (apart (sym (refusal_first r) ∙ ap (λ (t : List ℕ). get_or t 0 0) (sym is) ∙ sym (first_of_two text) ∙ ap (λ (t : List ℕ). get_or t 0 0) accepted))
  where
    apart : ◌≡◌ {A = ℕ} 114 111 → ⊥
    apart is = omega arith

pub same_digits : (a b : ℕ) → codes "ok " ++ decimal a ≡ codes "ok " ++ decimal b → decimal a ≡ decimal b
same_digits a b is = tail is
  where
    tail : {x y : List ℕ} → codes "ok " ++ x ≡ codes "ok " ++ y → x ≡ y
    tail is = cc

ten_some : (k : ℕ) → 0 < 10 ^ k
ten_some zero = omega arith
ten_some (suc k) = omega (arith, ten_some k, pow-suc 10 k)

-- of a long number no more than so many digits are told
long_digits : (k n : ℕ) (acc : List ℕ) → 10 ^ k ≤ n → length (digits_onto k 10 false n acc) ≡ k + length acc
long_digits zero n acc big = omega arith
long_digits (suc k) n acc big =
    let rest : 10 ^ k ≤ n / 10 = omega (arith, pow-suc 10 k) in
    let some : (n / 10 ≡ 0) → ⊥ = λ (e : n / 10 ≡ 0). omega (arith, ten_some k) in
    let step : length (digits_onto (suc k) 10 false n acc) ≡ length (digits_onto k 10 false (n / 10) (digit_glyph false (n % 10) ∷ acc)) =
    ap (λ b. length (if b then digit_glyph false (n % 10) ∷ acc else digits_onto k 10 false (n / 10) (digit_glyph false (n % 10) ∷ acc))) (ne_eqb (n / 10) 0 some) in
    omega (arith, step, long_digits k (n / 10) (digit_glyph false (n % 10) ∷ acc) rest)

long_decimal : (n : ℕ) → 10 ^ 64 ≤ n → length (decimal n) ≡ 64
unfolding digits
long_decimal n big = omega (arith, long_digits 64 n [] big)

decided : (b : Bool) (n m : ℕ) → nat_lt n (10 ^ 64) ≡ b → m < 2 ^ 64 → decimal n ≡ decimal m → n ≡ m
decided true n m is small same = sym (decimal_is_IsNumeral_wide n (omega (arith, ltb-true))).1 ∙ ap (digits_value 10) same ∙ (decimal_is_IsNumeral_wide m (omega arith)).1
decided false n m is small same = absurd (omega (arith, long_decimal n (omega (arith, ltb-false)), ap (λ (t : List ℕ). length t) same, length-decimal-le 20 m (omega arith) (omega arith) small))

-- a number of 64 bits is told by its digits, whatever other number has them
pub same_number : (n m : ℕ) → m < 2 ^ 64 → decimal n ≡ decimal m → n ≡ m
same_number n m small same = decided (nat_lt n (10 ^ 64)) n m refl small same

-- ---- answers that aren't put off

abbrev pub IsSure : {A : Type 0} → Result A Refusal → Type 0
IsSure result = (refusal : Refusal) → result ≡ Err refusal → (IsOfStore refusal → ⊥) × (refusal ≢ refusals.Unsure)

pub sure_never_off : {A X : Type 0} (MayBe : Machine → Type 0) (old new : Machine) (result : Result A Refusal) → IsSure result → IsPutOff MayBe old result new → X
sure_never_off MayBe old new result sure (refusal, is, inl (store, same)) = absurd ((sure refusal is).0 store)
sure_never_off MayBe old new result sure (refusal, is, inr (unsure, may)) = absurd ((sure refusal is).1 unsure)

-- nor is it refused to look
pub sure_looks : {A X : Type 0} (result : Result A Refusal) (refusal : Refusal) → IsSure result → result ≡ Err refusal → IsNoLook refusal → X
sure_looks result refusal sure is (inl store) = absurd ((sure refusal is).0 store)
sure_looks result refusal sure is (inr unsure) = absurd ((sure refusal is).1 unsure)

pub sure_said : (answer : Result Answer Refusal) (said : Result Said Refusal) → answer ≡ answered told said → IsSure answer → IsSure said
sure_said answer said is sure = λ refusal e. sure refusal (is ∙ ap (answered told) e)

pub plain_sure : (answer : Result Answer Refusal) (text : List ℕ) → IsPlain text → text ≡ answer_text answer → IsSure answer
plain_sure answer text plain is = λ refusal e. plain refusal (is ∙ ap answer_text e)

-- what is accepted is plain
pub accepted_plain : (text : List ℕ) → IsAccepted text → IsPlain text
accepted_plain text accepted = λ refusal is. refused_never refusal text is accepted

-- want of memory isn't plain
pub no_memory : {X : Type 0} (text : List ℕ) → IsPlain text → text ≡ answer_text (Err refusals.Memory) → X
no_memory text plain is = absurd ((plain refusals.Memory is).0 refl)

pub sure_now : (call : Call) (old new : Machine) (said : Result Said Refusal) → IsSure said → AsksNow call old said new → IsSaid (called call old).0 said × (new ≡ (called call old).1)
sure_now call old new said sure (inl is) = is
sure_now call old new said sure (inr off) = sure_never_off (MayBeDone call old) old new said sure off

-- ---- answers that are alike

pub alike : (answer : Result Answer Refusal) → AreAlike answer answer
alike (Ok (answers.Stat (stats.File size chunks))) = (refl, refl)
alike (Ok (answers.Scanned removed forgotten)) = refl
alike answer = refl

pub alike_to : (answer one another : Result Answer Refusal) → one ≡ answer → another ≡ answer → AreAlike one another
alike_to answer one another is so = subst (λ x. AreAlike one x) (sym so) (subst (λ x. AreAlike x answer) (sym is) (alike answer))

pub alike_said : (plain said other : Result Said Refusal) (one another : Result Answer Refusal) → IsSaid plain said → IsSaid plain other → one ≡ answered told said → another ≡ answered told other → AreAlike one another
alike_said (Ok (says.Scanned removed any)) said other one another (forgotten, is) (others, so) e f =
    subst (λ x. AreAlike x another) (sym (e ∙ ap (answered told) is)) (subst (λ x. AreAlike (Ok (answers.Scanned removed forgotten)) x) (sym (f ∙ ap (answered told) so)) refl)
alike_said plain said other one another is so e f = alike_to (answered told plain) one another (e ∙ ap (answered told) is) (f ∙ ap (answered told) so)

-- ---- what is seen

-- what is found quiet is answered alike
abbrev pub AnswersAlike : (Path → Option (Entry Text) → Machine → Result Answer Refusal → Machine → Type 0) → Type 0
AnswersAlike Does = (p : Path) (found : Option (Entry Text)) (old new first last : Machine) (one another : Result Answer Refusal) → IsQuietFound found → IsSure one → IsSure another → Does p found old one new → Does p found first another last → AreAlike one another

abbrev bytes_of : List Text → List (List ℕ)
bytes_of texts = map (λ text. text.bytes) texts

pub stats_alike : (size : ℕ) → AnswersAlike (Stats size)
stats_alike size p None old new first last one another quiet sure surely (e, same) (f, so) = alike_to (Err refusals.NotFound) one another e f
stats_alike size p (Some Dir) old new first last one another quiet sure surely (e, same) (f, so) = alike_to (Ok (answers.Stat stats.Directory)) one another e f
stats_alike size p (Some (File texts)) old new first last one another quiet sure surely (picks, chunks, long, e, same) (others, more, longs, f, so) =
    subst (λ x. AreAlike x another) (sym e) (subst (λ x. AreAlike (Ok (answers.Stat (stats.File (length (seen size picks texts)) chunks))) x) (sym f)
    (ap (λ all. length (joined size all)) (seen_is size picks texts quiet ∙ sym (seen_is size others texts quiet)), long ∙ sym longs))

read_so : (size offset many : ℕ) (texts : List Text) (first second : List (List ℕ)) (answer : Result Answer Refusal) → AreQuiet texts → answer ≡ answered answers.Bytes (read_in offset many (seen size first texts) (seen size second texts))
    → answer ≡ answered answers.Bytes (read_in offset many (joined size (bytes_of texts)) (joined size (bytes_of texts)))
read_so size offset many texts first second answer quiet e =
    e ∙ ap (λ all. answered answers.Bytes (read_in offset many (joined size all) (seen size second texts))) (seen_is size first texts quiet)
    ∙ ap (λ all. answered answers.Bytes (read_in offset many (joined size (bytes_of texts)) (joined size all))) (seen_is size second texts quiet)

pub reads_alike : (size offset many : ℕ) → AnswersAlike (OfFile (Reads size offset many))
reads_alike size offset many p None old new first last one another quiet sure surely (e, same) (f, so) = alike_to (Err refusals.NotFound) one another e f
reads_alike size offset many p (Some Dir) old new first last one another quiet sure surely (e, same) (f, so) = alike_to (Err refusals.IsADirectory) one another e f
reads_alike size offset many p (Some (File texts)) old new first last one another quiet sure surely (picks, second, e, same) (others, third, f, so) =
    alike_to (answered answers.Bytes (read_in offset many (joined size (bytes_of texts)) (joined size (bytes_of texts)))) one another (read_so size offset many texts picks second one quiet e) (read_so size offset many texts others third another quiet f)

pub digests_alike : (size block chunk index : ℕ) → AnswersAlike (OfFile (Digests size block chunk index))
digests_alike size block chunk index p None old new first last one another quiet sure surely (e, same) (f, so) = alike_to (Err refusals.NotFound) one another e f
digests_alike size block chunk index p (Some Dir) old new first last one another quiet sure surely (e, same) (f, so) = alike_to (Err refusals.IsADirectory) one another e f
digests_alike size block chunk index p (Some (File texts)) old new first last one another quiet sure surely (picks, e, same) (others, f, so) =
    alike_to (answered answers.Digest (digest_in block index (slice_get (bytes_of texts) chunk))) one another
    (e ∙ ap (λ all. answered answers.Digest (digest_in block index (slice_get all chunk))) (seen_is size picks texts quiet))
    (f ∙ ap (λ all. answered answers.Digest (digest_in block index (slice_get all chunk))) (seen_is size others texts quiet))

-- the same tree, to which nothing is owed, is looked at
pub on_path_alike : (size : ℕ) (path : Result Path Refusal) (Does : Path → Option (Entry Text) → Machine → Result Answer Refusal → Machine → Type 0) → AnswersAlike Does → (rows : Rows Text) (old new first last : Machine) (one another : Result Answer Refusal)
    → RowsAreQuiet rows → IsStill old → IsStill first → old.plain.tree ≡ rows → first.plain.tree ≡ rows → IsSure one → IsSure another → OnPath size path Does old one new → OnPath size path Does first another last → AreAlike one another
on_path_alike size (Err refusal) Does does rows old new first last one another quiet still stills is so sure surely (e, same) (f, sames) = alike_to (Err refusal) one another e f
on_path_alike size (Ok p) Does does rows old new first last one another quiet still stills is so sure surely (payments, now, is_now, inl (refusal, e, off, same)) other = sure_looks one refusal sure e off
on_path_alike size (Ok p) Does does rows old new first last one another quiet still stills is so sure surely (payments, now, is_now, inr (free, looked)) (paid, at_it, is_at, inl (refusal, e, off, same)) = sure_looks another refusal surely e off
on_path_alike size (Ok p) Does does rows old new first last one another quiet still stills is so sure surely (payments, now, is_now, inr (free, looked)) (paid, at_it, is_at, inr (frees, look)) =
    let tree_now : now.plain.tree ≡ rows = ap (λ m. m.plain.tree) (is_now ∙ nothing_now size payments old still) ∙ is in
    let tree_then : at_it.plain.tree ≡ rows = ap (λ m. m.plain.tree) (is_at ∙ nothing_now size paid first stills) ∙ so in
    does p (at rows p) now new at_it last one another (quiet_found p rows quiet) sure surely (subst (λ all. Does p (at all p) now one new) tree_now looked) (subst (λ all. Does p (at all p) at_it another last) tree_then look)

-- ---- what is listed

gated : (rolling preparing b c : Bool) (x y z : Result Said Refusal × Machine) → rolling ≡ false → preparing ≡ false → ◌≡◌ {A = Result Said Refusal × Machine} (if rolling && b then x else if preparing && c then y else z) z
gated false false b c x y z r q = refl
gated true preparing b c x y z r q = absurd (true≢false r)
gated false true b c x y z r q = absurd (true≢false q)

said_of_tree : (call : Call) (said : Result Said Refusal) (m : Machine) → (tree_called call said m).0 ≡ said
said_of_tree call (Ok said) m = refl
said_of_tree call (Err refusal) m = refl

pub list_said : (p : Path) (m : Machine) → is_rolling m.phase ≡ false → is_preparing m.phase ≡ false → (called (calls.List p) m).0 ≡ tree_said (calls.List p) m
list_said p m r q = ap (λ x. x.0) (gated (is_rolling m.phase) (is_preparing m.phase) true false (Err refusals.RollingBack, m) (Err refusals.Preparing, m) (taken (calls.List p) m) r q) ∙ said_of_tree (calls.List p) (tree_said (calls.List p) m) m
