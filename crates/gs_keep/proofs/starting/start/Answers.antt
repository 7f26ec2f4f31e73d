use Rattle.std.proofs.Common.{◌≡◌, ◌∙◌, ℕ, List, Option, Some, IfSome, length, take, drop, sym, ap, subst, rules}
use Rattle.gs_keep.specs.Starting.{Stands}
use Rattle.gs_keep.proofs.Standings.{breaks, needs_lines, started}
use Rattle.gs_keep.proofs.Weaken.{if_some}
use Rattle.gs_keep.proofs.starting.start.Goals as goal

-- what a reader gives of what stands in a log behind its first line
gives_from : (src now left reader : Option (List ℕ)) (from n : ℕ) (head : List ℕ) → now ≡ src → IfSome now (λ text. reader ≡ Some (drop from (take n text))) → left ≡ reader → from ≡ length head
    → IfSome src (λ text. left ≡ Some (drop (length head) (take n text)))
gives_from src now left reader from n head same part left_is from_is =
    if_some src _ _ (λ text is. left_is ∙ is ∙ ap (λ (k : ℕ). Some (drop k (take n text))) from_is) (subst (λ (q : Option (List ℕ)). IfSome q (λ text. reader ≡ Some (drop from (take n text)))) same part)

pub keep_on-requires-clause-logged : goal.keep_on-requires-clause-logged
keep_on-requires-clause-logged g c =
    let found = c.in-Ok.found in
    let head = c.deref.result.now in
    let src = g.S.Source.bytes c.args.source.now in
    let left = g.S.Reader.Read.remaining c.new-logged.result.reader in
    let same : head ≡ found.head.items = search rules in
    let from_is : c.len.result ≡ length head = search rules in
    let stood = subst (λ (l : List ℕ). IfSome src (λ text. Stands text found.measure found.is_second l found.extent found.tail.items)) (sym same) c.in-Ok.ensures.stands in
    let gives = gives_from src (g.S.Source.bytes c.found_in.new.source) left (g.S.Reader.Read.remaining c.in-Ok-part.part) c.len.result found.extent.whole head c.found_in.ensures.same c.in-Ok-part.ensures.part c.new-logged.ensures.remaining from_is in
    needs_lines src found.measure found.is_second head found.extent found.tail.items stood (g.L.Log.holds c.args.log.now) left c.requires.same gives

pub returns-in-Ok-keep_on-clause-ok : goal.returns-in-Ok-keep_on-clause-ok
returns-in-Ok-keep_on-clause-ok g c =
    let found = c.in-Ok.found in
    let head = c.deref.result.now in
    let src = g.S.Source.bytes c.args.source.now in
    let left = g.S.Reader.Read.remaining c.new-logged.result.reader in
    let same : head ≡ found.head.items = search rules in
    let from_is : c.len.result ≡ length head = search rules in
    let stood = subst (λ (l : List ℕ). IfSome src (λ text. Stands text found.measure found.is_second l found.extent found.tail.items)) (sym same) c.in-Ok.ensures.stands in
    let begins = subst (λ (l : List ℕ). g.H.Making.Begins c.args.making.now l found.is_second found.before found.machine) (sym same) c.in-Ok.ensures.begins in
    let gives = gives_from src (g.S.Source.bytes c.found_in.new.source) left (g.S.Reader.Read.remaining c.in-Ok-part.part) c.len.result found.extent.whole head c.found_in.ensures.same c.in-Ok-part.ensures.part c.new-logged.ensures.remaining from_is in
    started src found.measure found.is_second head found.extent found.tail.items stood g.H.Machine.Answering.Answers g.H.Machine.Keeping.is_kept g.H.Machine.Keeping.is_turned_away g.H.Machine.Keeping.own (g.H.Making.Begins c.args.making.now) found.before found.machine begins
    (g.L.Log.holds c.args.log.now) (g.L.Log.holds c.keep_on.new.log) left (g.R.Read.remaining c.args.reader.now.reader) (g.W.Write.contents c.args.writer.now.writer) (g.W.Write.contents c.keep_on.new.writer.writer)
    (g.A.Rest.bytes c.keep_on.new.rest) (g.A.Rest.is_alone c.keep_on.new.rest) c.in-Ok-keep_on.ledger c.keep_on.new.machine c.requires.same gives (c.keep_on.ensures.same ∙ c.hold.ensures) c.in-Ok-keep_on.ensures.aside c.in-Ok-keep_on.ensures.ok

pub returns-in-Err-keep_on-clause-err : goal.returns-in-Err-keep_on-clause-err
returns-in-Err-keep_on-clause-err g c =
    let found = c.in-Ok.found in
    let head = c.deref.result.now in
    let src = g.S.Source.bytes c.args.source.now in
    let left = g.S.Reader.Read.remaining c.new-logged.result.reader in
    let same : head ≡ found.head.items = search rules in
    let from_is : c.len.result ≡ length head = search rules in
    let stood = subst (λ (l : List ℕ). IfSome src (λ text. Stands text found.measure found.is_second l found.extent found.tail.items)) (sym same) c.in-Ok.ensures.stands in
    let begins = subst (λ (l : List ℕ). g.H.Making.Begins c.args.making.now l found.is_second found.before found.machine) (sym same) c.in-Ok.ensures.begins in
    let gives = gives_from src (g.S.Source.bytes c.found_in.new.source) left (g.S.Reader.Read.remaining c.in-Ok-part.part) c.len.result found.extent.whole head c.found_in.ensures.same c.in-Ok-part.ensures.part c.new-logged.ensures.remaining from_is in
    breaks src found.measure found.is_second head found.extent found.tail.items stood g.H.Machine.Answering.Answers g.H.Machine.Keeping.is_kept g.H.Machine.Keeping.is_turned_away g.H.Machine.Keeping.own (g.H.Making.Begins c.args.making.now) found.before found.machine begins
    c.in-Err-keep_on.fault (g.L.Log.holds c.args.log.now) (g.L.Log.holds c.keep_on.new.log) left (g.R.Read.remaining c.args.reader.now.reader) (g.R.Read.remaining c.keep_on.new.reader.reader) (g.W.Write.contents c.args.writer.now.writer) (g.W.Write.contents c.keep_on.new.writer.writer)
    (g.A.Rest.bytes c.keep_on.new.rest) (g.A.Rest.is_alone c.keep_on.new.rest) c.keep_on.new.machine c.requires.same gives (c.keep_on.ensures.same ∙ c.hold.ensures) c.in-Err-keep_on.ensures.aside c.in-Err-keep_on.ensures.err
