use Rattle.std.proofs.Common.{refl, inr, Result, Ok, Err, OnErr, Option, Some, None, IfSome, OnSome, List, ℕ, ◌≡◌, ◌≢◌, ◌++◌, [], sym, subst, ◌∙◌, arith, rules, true≢false}
use Rattle.std.proofs.lemmas.List.Elements.{All-nil, All-append}
use Rattle.std.specs.Io.BufRead.{take_through, drop_through, DropsThrough}
use Rattle.std.specs.Io.KnownBytes.{Consumes}
use Rattle.std.proofs.KnownBytes.{Consumes-nil, Consumes-trans}
use Rattle.std.proofs.BufReadLemmas.{Consumes_through}
use Rattle.gs_shell_line.specs.Line.{HasLineEnd, Holds}
use Rattle.gs_shell_line.proofs.taken.take_line.Goals as goal

if_some_weaken : {A : Type 0} (o : Option A) (P Q : A → Type 0) → ((x : A) → P x → Q x) → IfSome o P → IfSome o Q
if_some_weaken None P Q f h = tt
if_some_weaken (Some x) P Q f h = f x h

on_err : {T E : Type 0} (r : Result T E) (P : Type 0) → P → OnErr r P
on_err (Ok x) P h = tt
on_err (Err e) P h = h

ends_behind : (old mid new : Option (List ℕ)) (done : List ℕ) (P : Type 0) → Consumes old mid done → DropsThrough old new 10
    → OnSome mid (P → IfSome new HasLineEnd) → IfSome old (λ xs. P → HasLineEnd (drop_through 10 xs))
ends_behind None mid new done P read rest ends = tt
ends_behind (Some xs) None new done P read rest ends = absurd read
ends_behind (Some xs) (Some ys) new done P read rest ends = λ p. subst (λ (o : Option (List ℕ)). IfSome o HasLineEnd) rest (ends p)

pub loop-reads-init : goal.loop-reads-init
loop-reads-init g c = (refl, ([], All-nil (λ x. x ≢ 10), Consumes-nil _, (search rules, omega arith)))

pub loop-reads-preserved : goal.loop-reads-preserved
loop-reads-preserved g c =
    let (done, none, read, held) = c.loop-reads.invariant.1 in
    let (part, takes, held') = c.in_ok-part.ensures.ok in
    (c.in_ok-part.ensures.made.1 ∙ c.loop-reads.invariant.0, (done ++ part, All-append (λ x. x ≢ 10) done part none (takes.within (λ e. true≢false (sym e ∙ c.if-part.false))), Consumes-trans _ _ _ _ _ read takes.read, held' done held))

-- a part that was lost, behind the bytes of the line that were read
pub returns-in_err-part-clause-err : goal.returns-in_err-part-clause-err
returns-in_err-part-clause-err g c =
    let (done, none, read, held) = c.loop-reads.invariant.1 in
    let (part, read', none') = c.in_err-part.ensures.err in
    on_err c.from_residual.result _ (done ++ part, Consumes-trans _ _ _ _ _ read read', All-append (λ x. x ≢ 10) done part none none')

pub returns-then-part-clause-line : goal.returns-then-part-clause-line
returns-then-part-clause-line g c =
    let (done, none, read, held) = c.loop-reads.invariant.1 in
    let (part, takes, held') = c.in_ok-part.ensures.ok in
    let all = Consumes_through 10 _ _ _ done part read none takes.read takes.stops (takes.ends c.if-part.true) (takes.last c.if-part.true) in
    if_some_weaken (g.B.Read.remaining c.args.reader.now) (λ xs. done ++ part ≡ take_through 10 xs) (λ xs. Holds c.in_ok-part.part.taken (take_through 10 xs))
    (λ xs e. subst (Holds c.in_ok-part.part.taken) e (held' done held)) all.0

pub returns-then-part-clause-rest : goal.returns-then-part-clause-rest
returns-then-part-clause-rest g c =
    let (done, none, read, held) = c.loop-reads.invariant.1 in
    let (part, takes, held') = c.in_ok-part.ensures.ok in
    let all = Consumes_through 10 _ _ _ done part read none takes.read takes.stops (takes.ends c.if-part.true) (takes.last c.if-part.true) in all.1

pub returns-then-part-clause-at_hand : goal.returns-then-part-clause-at_hand
returns-then-part-clause-at_hand g c =
    let (done, none, read, held) = c.loop-reads.invariant.1 in
    let (part, takes, held') = c.in_ok-part.ensures.ok in
    let all = Consumes_through 10 _ _ _ done part read none takes.read takes.stops (takes.ends c.if-part.true) (takes.last c.if-part.true) in
    ends_behind _ _ _ done _ read all.1 c.in_ok-part.ensures.at_hand

pub returns-clause-ended : goal.returns-clause-ended
returns-clause-ended g c = inr (omega arith)
