use Rattle.std.proofs.Common.{◌≡◌, ◌∙◌, ℕ, List, Option, None, Some, Ok, IfSome, length, take, drop, subst, rules}
use Rattle.gs_keep_measure.specs.Extent.{Extends}
use Rattle.gs_keep_measure.specs.Measure.{Measures}
use Rattle.gs_keep_measure.specs.Tail.{tail_fault}
use Rattle.gs_keep.specs.Starting.{IsHead}
use Rattle.gs_keep.proofs.Standings.{refuses_tail, stands}
use Rattle.gs_keep.proofs.standing.found_in.Goals as goal

pub returns-in-Some-clause-refuses : goal.returns-in-Some-clause-refuses
returns-in-Some-clause-refuses g c =
    let n = c.in-Ok.len in
    let opened = c.in-Ok-opened.opened in
    let head = opened.head.items in
    let extent = c.in-Ok-extent_of.extent in
    let tail = c.in-Ok-tail_of.tail.items in
    let one = c.len.ensures.same in
    let two = c.opened.ensures.same ∙ one in
    let found : tail_fault opened.made.is_second opened.measure head tail ≡ Some c.in-Some.fault = search rules in
    let extends : Extends (Ok extent) opened.made.is_second opened.measure (length head) n = search rules in
    refuses_tail (g.H.Making.Begins c.args.making.now) (g.H.Making.Refuses c.args.making.now) c.in-Some.fault (g.S.Source.bytes c.args.source.now) n opened.measure opened.made.is_second head opened.made.before opened.made.machine extent tail
    c.in-Ok.ensures.len
    (subst (λ (q : Option (List ℕ)). IfSome q (λ text. Measures (take n text) opened.measure)) one c.in-Ok-opened.ensures.measure)
    (subst (λ (q : Option (List ℕ)). IfSome q (λ text. IsHead (take n text) head)) one c.in-Ok-opened.ensures.head)
    c.in-Ok-opened.ensures.begins extends
    (subst (λ (q : Option (List ℕ)). IfSome q (λ text. tail ≡ drop extent.whole (take n text))) two c.in-Ok-tail_of.ensures.tail) found

pub returns-clause-stands : goal.returns-clause-stands
returns-clause-stands g c =
    let n = c.in-Ok.len in
    let opened = c.in-Ok-opened.opened in
    let head = opened.head.items in
    let extent = c.in-Ok-extent_of.extent in
    let tail = c.in-Ok-tail_of.tail.items in
    let one = c.len.ensures.same in
    let two = c.opened.ensures.same ∙ one in
    let left : tail_fault opened.made.is_second opened.measure head tail ≡ None = search rules in
    let extends : Extends (Ok extent) opened.made.is_second opened.measure (length head) n = search rules in
    stands (g.S.Source.bytes c.args.source.now) n opened.measure opened.made.is_second head extent tail
    c.in-Ok.ensures.len
    (subst (λ (q : Option (List ℕ)). IfSome q (λ text. Measures (take n text) opened.measure)) one c.in-Ok-opened.ensures.measure)
    (subst (λ (q : Option (List ℕ)). IfSome q (λ text. IsHead (take n text) head)) one c.in-Ok-opened.ensures.head)
    extends
    (subst (λ (q : Option (List ℕ)). IfSome q (λ text. tail ≡ drop extent.whole (take n text))) two c.in-Ok-tail_of.ensures.tail) left
