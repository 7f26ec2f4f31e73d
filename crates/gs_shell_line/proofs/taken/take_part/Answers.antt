use Rattle.std.proofs.Common.{◌≡◌, ◌≢◌, ◌-◌, ◌++◌, ◌==◌, ◌||◌, ℕ, List, [], All, Option, None, Some, IfSome, OnSome, length, take, drop, sym, ap, subst, ◌∙◌, rules, arith, eq-eqb, eqb-true, true≢false, get_or, get_or-take, length-take-le, append_assoc, append-nil, take_all, length-drop, take-append-drop}
use Rattle.std.proofs.lemmas.List.{append_cancel_left}
use Rattle.std.proofs.lemmas.List.Elements.{All-nil, All-more}
use Rattle.std.proofs.lemmas.List.Folds.{list_any-append}
use Rattle.std.specs.List.{list_any}
use Rattle.std.specs.Io.{StartsWith}
use Rattle.std.specs.Io.BufRead.{FillKeeps}
use Rattle.std.specs.Io.KnownBytes.{Consumes}
use Rattle.std.proofs.KnownBytes.{Consumes-nil, Consumes-kept}
use Rattle.std.proofs.BufReadLemmas.{Consumes_shown, zero_unless_positive}
use Rattle.std.proofs.Transfers.{StopsAt-take}
use Rattle.gs_shell_line.specs.Line.{HasLineEnd, Holds}
use Rattle.gs_shell_line.proofs.taken.take_part.Goals.{then-end-eq0, else-end-eq0}
use Rattle.gs_shell_line.proofs.taken.take_part.Goals as goal

-- what is shown behind the part that is taken stands in the rest
ends_in_rest : (xs rest shown : List ℕ) (n : ℕ) → StartsWith xs shown → xs ≡ take n shown ++ rest → HasLineEnd (drop n shown) → HasLineEnd rest
ends_in_rest xs rest shown n front parts end =
    let left = take n shown in
    let right = drop n shown in
    let behind = drop (length shown) xs in
    let whole : xs ≡ left ++ (right ++ behind) =
    sym (take-append-drop (length shown) xs) ∙ ap (λ l. l ++ behind) (front ∙ sym (take-append-drop n shown)) ∙ append_assoc left right behind in
    ap (list_any (λ x. x == 10)) (append_cancel_left left rest (right ++ behind) (sym parts ∙ whole))
    ∙ list_any-append (λ x. x == 10) right behind ∙ ap (λ b. b || list_any (λ x. x == 10) behind) end

ends_behind : (old new : Option (List ℕ)) (shown : List ℕ) (n : ℕ) → IfSome old (λ xs. StartsWith xs shown) → Consumes old new (take n shown)
    → HasLineEnd (drop n shown) → OnSome old (IfSome new HasLineEnd)
ends_behind None new shown n front parts end = tt
ends_behind (Some xs) None shown n front parts end = tt
ends_behind (Some xs) (Some rest) shown n front parts end = ends_in_rest xs rest shown n front parts end

on_some : (o : Option (List ℕ)) (P Q : Type 0) → (Q → OnSome o P) → OnSome o (Q → P)
on_some None P Q h = tt
on_some (Some xs) P Q h = h

-- an interrupted read took nothing
pub returns-then-eq-clause-ok : goal.returns-then-eq-clause-ok
returns-then-eq-clause-ok g c = (
  [],
  record {
    read = Consumes-kept _ _ _ [] (Consumes-nil _) c.fill_buf.follows.holds-at-none.0;
    stops = All-nil (λ x. x ≢ 10);
    within = λ _. All-nil (λ x. x ≢ 10);
    ends = λ done. absurd (true≢false (sym done));
    last = λ done. absurd (true≢false (sym done));
  },
  λ done h. subst (Holds c.args.taken) (sym (append-nil done)) h,
)

pub returns-else-eq-clause-err : goal.returns-else-eq-clause-err
returns-else-eq-clause-err g c = ([], Consumes-kept _ _ _ [] (Consumes-nil _) c.fill_buf.follows.holds-at-none.0, All-nil (λ x. x ≢ 10))

pub returns-clause-ok : goal.returns-clause-ok
returns-clause-ok g c =
    let shown = c.in-Ok.available.now in
    let end = c.len_through-end in
    let long = length-take-le end.result shown end.ensures.bound in
    let rested = c.fill_buf.follows.lender-at-none in
    let filled = subst (FillKeeps _ (g.B.Read.remaining rested) (g.B.BufRead.consumable_len rested)) c.in-Ok.is c.fill_buf.follows.holds-at-none in
    let moved = Consumes_shown _ _ _ _ shown end.result end.ensures.bound c.in-Ok.ensures.front c.in-Ok.ensures.end filled.0 filled.1 c.consume.ensures.bytes in (
      take end.result shown,
      record {
        read = moved.0;
        stops = StopsAt-take _ _ _ end.ensures.bound end.ensures.before;
        within = λ more. elim c.if-end-eq0.branch [
          | then-end-eq0 w ↦ absurd (more (search rules))
          | else-end-eq0 w ↦ subst (λ k. All (λ x. x ≢ 10) (take k shown)) (omega (arith, w.if-end-eq0.false))
              (All-more (λ x. x ≢ 10) _ (end.result - 1) 0 (omega (arith, w.if-end-eq0.false, end.ensures.bound)) end.ensures.before (λ e. more (w.is_done-is ∙ eq-eqb _ _ e)))
        ];
        ends = λ done some. elim c.if-end-eq0.branch [
          | then-end-eq0 w ↦ absurd (omega (arith, w.if-end-eq0.true))
          | else-end-eq0 w ↦ ap (λ n. get_or (take end.result shown) (n - 1) 0) long
              ∙ get_or-take end.result shown (end.result - 1) 0 (omega arith) ∙ eqb-true _ _ (sym w.is_done-is ∙ done)
        ];
        last = λ _ none. moved.1 (zero_unless_positive _ _ end.ensures.some (sym long ∙ none));
      },
      c.with_part-taken.ensures,
    )

pub returns-clause-at_hand : goal.returns-clause-at_hand
returns-clause-at_hand g c =
    let shown = c.in-Ok.available.now in
    let end = c.len_through-end in
    let rested = c.fill_buf.follows.lender-at-none in
    let filled = subst (FillKeeps _ (g.B.Read.remaining rested) (g.B.BufRead.consumable_len rested)) c.in-Ok.is c.fill_buf.follows.holds-at-none in
    let moved = Consumes_shown _ _ _ _ shown end.result end.ensures.bound c.in-Ok.ensures.front c.in-Ok.ensures.end filled.0 filled.1 c.consume.ensures.bytes in
    let behind = take_all (length shown - end.result) (drop end.result shown) (omega (arith, length-drop end.result shown)) in
    on_some _ _ _ (λ has. ends_behind _ _ shown end.result c.in-Ok.ensures.front moved.0
    (ap (list_any (λ x. x == 10)) (sym behind) ∙ sym c.has_line_end-is_next_at_hand.ensures ∙ has))
