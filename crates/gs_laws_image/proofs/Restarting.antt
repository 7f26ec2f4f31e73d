-- Lines that restart each server leave nothing for a restart to drop.
use Rattle.std.proofs.Common.{◌≡◌, ◌∙◌, ◌⊎◌, ◌+◌, ◌<◌, ◌≤◌, ℕ, zero, suc, Bool, true, false, List, [], ◌∷◌, if◌then◌else◌, Option, Some, None, Ok, Err, ap, arith, inl, inr, length, refl, slice_get, slice_set, subst, sym}
use Rattle.std.specs.Prelude.{min, nat_lt}
use Rattle.std.proofs.lemmas.Bool.Decides.{nat_tests}
use Rattle.std.proofs.lemmas.List.{length-set}
use Rattle.gs_base.specs.declared.refusal.Refusal.TheVariants as refusals
use Rattle.gs_laws_lift.proofs.lemmas.stores.Serving.{set_cases}
use Rattle.gs_laws_scripts.specs.answers.Plain.{Plain, PlainDesk}
use Rattle.gs_laws_scripts.specs.answers.Plain as plain
use Rattle.gs_laws_scripts.proofs.lemmas.plain.Serving.{few_servers}
use Rattle.gs_server.specs.Servers.{Server, restart}
use Rattle.gs_shell_grammar.specs.Grammar.{Request, line_request}
use Rattle.gs_shell_grammar.specs.Grammar as lines
use Rattle.gs_shell_grammar.specs.declared.command.Restarted.TheVariants as restarted
use Rattle.gs_shell_line.specs.Line.{content}
use Rattle.gs_shell_script.specs.Run.{bad_line_text}
use Rattle.gs_laws_image.specs.Going.{AreRestarts, RestartsServer}
use Rattle.gs_laws_image.specs.Laws.{RestartsDropAll}
use Rattle.gs_laws_image.specs.Slots.{AreRestarted}
use Rattle.gs_laws_image.proofs.Going.{lines_go_on}
use Rattle.gs_laws_image.proofs.Stored.{as_many}

-- so many of the first servers are as a restart leaves them
abbrev First : ℕ → List Server → Type 0
First many ss = (j : ℕ) (s : Server) → j < many → slice_get ss j ≡ Some s → restart s ≡ s

before_or : (j i : ℕ) → j < i + 1 → (j < i) ⊎ (j ≡ i)
before_or j i below = by_test (nat_lt j i) refl
  where
    by_test : (b : Bool) → nat_lt j i ≡ b → (j < i) ⊎ (j ≡ i)
    by_test true is = inl (grind (arith, nat_tests))
    by_test false is = inr (grind (arith, nat_tests))

below_length : (xs : List Server) (i : ℕ) (x : Server) → slice_get xs i ≡ Some x → i < length xs
below_length [] i x is = absurd cc
below_length (y ∷ xs) zero x is = omega arith
below_length (y ∷ xs) (suc i) x is = (let below = below_length xs i x is in omega arith)

next_first : (i : ℕ) (ss : List Server) → First i ss → ((s : Server) → slice_get ss i ≡ Some s → restart s ≡ s) → First (i + 1) ss
next_first i ss first here j s below at = elim (before_or j i below) [
  | inl before ↦ first j s before at
  | inr is ↦ here s (subst (λ n. slice_get ss n ≡ Some s) is at)
]

set_first : (i : ℕ) (ss : List Server) (s : Server) → First i ss → First (i + 1) (slice_set ss i (restart s))
set_first i ss s first j x below at = elim (set_cases ss i j (restart s) x at) [
  | inl here ↦ ap restart here.1 ∙ sym here.1
  | inr there ↦ elim (before_or j i below) [
    | inl before ↦ first j x before there.1
    | inr is ↦ absurd (there.0 is)
  ]
]

-- ---- one line

abbrev servers_in : PlainDesk → List Server
servers_in w = w.1.servers

abbrev restarted_found : Option Server → ℕ → Plain → List Server
restarted_found o i p = (plain.befalls_found o i (λ s. Ok (restart s)) p).1.servers

found_first : (o : Option Server) (i : ℕ) (p : Plain) → slice_get p.servers i ≡ o → First i p.servers → First (i + 1) (restarted_found o i p)
found_first None i p is first = next_first i p.servers first (λ s at. absurd cc)
found_first (Some s) i p is first = set_first i p.servers s first

found_length : (o : Option Server) (i : ℕ) (p : Plain) → length (restarted_found o i p) ≡ length p.servers
found_length None i p = refl
found_length (Some s) i p = length-set p.servers i (restart s)

record Restarts (i : ℕ) (old new : List Server) : Type 0 where
  first : First i old → First (i + 1) new
  many : length new ≡ length old

not_there : (many i : ℕ) → many ≤ 16 → nat_lt i (min many 16) ≡ false → i < many → ⊥
not_there many i few is below = grind (arith, nat_tests)

if_server : (b : Bool) (i : ℕ) (p : Plain) → length p.servers ≤ 16 → nat_lt i (min (length p.servers) 16) ≡ b
    → Restarts i p.servers (if b then plain.befalls i (λ s. Ok (restart s)) p else (Err refusals.Range, p)).1.servers
if_server true i p few is = record { first = found_first (slice_get p.servers i) i p refl; many = found_length (slice_get p.servers i) i p }
if_server false i p few is = record {
  first = λ first. next_first i p.servers first (λ s at. absurd (not_there (length p.servers) i few is (below_length p.servers i s at)));
  many = refl;
}

line_is : (i : ℕ) (line : List ℕ) (w : PlainDesk) → RestartsServer i line → (plain.answers_line line w).1 ≡ (plain.comes (lines.Restart (restarted.Server i)) w).1
line_is i line w restarts =
    ap (λ b. (if b then plain.answers_as (line_request (content line)) w else (bad_line_text, w)).1) restarts.1 ∙ ap (λ (o : Option Request). (plain.answers_as o w).1) restarts.0

one_line : (i : ℕ) (line : List ℕ) (w : PlainDesk) → RestartsServer i line → length (servers_in w) ≤ 16 → Restarts i (servers_in w) (servers_in (plain.answers_line line w).1)
one_line i line w restarts few = subst (λ (x : PlainDesk). Restarts i (servers_in w) (servers_in x)) (sym (line_is i line w restarts)) (if_server (nat_lt i (min (length (servers_in w)) 16)) i w.1 few refl)

-- ---- all lines

counted : (i n : ℕ) → (i + 1) + n ≡ i + suc n
counted i n = omega arith

none_more : (i : ℕ) → i ≡ i + 0
none_more i = omega arith

all_first : (all : List (List ℕ)) (i : ℕ) (w : PlainDesk) → AreRestarts i all → length (servers_in w) ≤ 16 → First i (servers_in w) → First (i + length all) (servers_in (plain.answers_all all w).1)
all_first [] i w restarts few first = subst (λ n. First n (servers_in w)) (none_more i) first
all_first (line ∷ more) i w restarts few first =
    let next = (plain.answers_line line w).1 in
    let one = one_line i line w restarts.0 few in
    subst (λ n. First n (servers_in (plain.answers_all more next).1)) (counted i (length more))
    (all_first more (i + 1) next restarts.1 (subst (λ n. n ≤ 16) (sym one.many) few) (one.first first))

all_length : (all : List (List ℕ)) (i : ℕ) (w : PlainDesk) → AreRestarts i all → length (servers_in w) ≤ 16 → length (servers_in (plain.answers_all all w).1) ≡ length (servers_in w)
all_length [] i w restarts few = refl
all_length (line ∷ more) i w restarts few =
    let one = one_line i line w restarts.0 few in
    all_length more (i + 1) (plain.answers_line line w).1 restarts.1 (subst (λ n. n ≤ 16) (sym one.many) few) ∙ one.many

each_restarted : (ss : List Server) → ((j : ℕ) (s : Server) → slice_get ss j ≡ Some s → restart s ≡ s) → AreRestarted ss
each_restarted [] each = tt
each_restarted (s ∷ ss) each = (each 0 s refl, each_restarted ss (λ j x at. each (suc j) x at))

low : (j many most : ℕ) → j < many → many ≤ most → j < 0 + most
low j many most below most_is = omega arith

pub restarts_drop : {D : Type 0} → RestartsDropAll D
restarts_drop seen failures config all texts old new w g runs well restarts enough =
    let done = lines_go_on seen failures config all texts old new w g runs well in
    let ss = servers_in (plain.answers_all all w).1 in
    let same : new.wire.nodes.servers.items ≡ ss = ap (λ (p : Plain). p.servers) (sym done.1.reached.plain.plain) in
    let at_first : old.wire.nodes.servers.items ≡ servers_in w = ap (λ (p : Plain). p.servers) (sym g.reached.plain.plain) in
    let many : length (servers_in w) ≡ config.servers = ap (λ xs. length xs) (sym at_first) ∙ as_many seen failures config old w g in
    let few : length (servers_in w) ≤ 16 = subst (λ n. n ≤ 16) (sym many) (few_servers config) in
    let first = all_first all 0 w restarts few (λ j s below at. absurd (omega arith)) in
    let length_is : length ss ≡ config.servers = all_length all 0 w restarts few ∙ many in
    subst AreRestarted (sym same) (each_restarted ss (λ j s at. first j s (low j (length ss) (length all) (below_length ss j s at) (subst (λ n. n ≤ length all) (sym length_is) enough)) at))
