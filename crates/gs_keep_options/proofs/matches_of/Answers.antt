use Rattle.std.proofs.Common.{◌≡◌, true, [], map, subst, ◌∙◌, string_bytes, inl, inr}
use Rattle.clap.specs.Words.{App, HasMatchesOf, kind_of}
use Rattle.clap.specs.Faults.{fault_of, is_simple_and_free}
use Rattle.clap.specs.Kinds.{HasKind, IsAmong}
use Rattle.gs_keep_options.proofs.Telling.{free, simple}
use Rattle.gs_keep_options.proofs.matches_of.Goals as goal

pub returns-in-Ok : goal.returns-in-Ok
returns-in-Ok c =
    let words = map string_bytes c.args.words.now in
    let is = c.in_ok-command.ensures in (
      subst (λ (a : App). is_simple_and_free a ≡ true → fault_of a words ≡ []) is c.in-Ok.ensures.kinds free,
      (subst (λ (a : App). HasMatchesOf a words c.in-Ok.matches) is c.in-Ok.ensures.matches simple).0,
    )

pub returns : goal.returns
returns c =
    let words = map string_bytes c.args.words.now in
    let kinds = subst (λ (a : App). is_simple_and_free a ≡ true → HasKind (fault_of a words) c.in-Err.error) c.in_ok-command.ensures c.in-Err.ensures.kinds free in
    λ none. elim kinds [
      | inl memory ↦ c.in_default.not-OutOfMemory (c.kind.ensures ∙ memory)
      | inr among ↦ let bad = subst (IsAmong (kind_of c.in-Err.error)) none among in absurd bad
    ]
