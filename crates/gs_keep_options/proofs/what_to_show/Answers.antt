use Rattle.std.proofs.Common.{◌≡◌, true, [], map, subst, sym, ◌∙◌, string_bytes}
use Rattle.clap.specs.Words.{App, kind_of}
use Rattle.clap.specs.Faults.{fault_of, is_simple_and_free}
use Rattle.clap.specs.Kinds.{HasKind}
use Rattle.clap.specs.declared.error.kind.ErrorKind.TheVariants as kind
use Rattle.gs_keep_options.specs.Words.{app}
use Rattle.gs_keep_options.proofs.Telling.{free, help_is_other, is_among, none_alone, not_alone, version_is_other}
use Rattle.gs_keep_options.proofs.what_to_show.Goals as goal

pub returns-in-Ok : goal.returns-in-Ok
returns-in-Ok c =
    let words = map string_bytes c.args.words.now in
    let none = subst (λ (a : App). is_simple_and_free a ≡ true → fault_of a words ≡ []) c.in_ok-command.ensures c.in-Ok.ensures.kinds free in
    (none_alone (fault_of app words) kind.DisplayHelp none, none_alone (fault_of app words) kind.DisplayVersion none)

pub returns-in-DisplayHelp : goal.returns-in-DisplayHelp
returns-in-DisplayHelp c =
    let words = map string_bytes c.args.words.now in
    let kinds = subst (λ (a : App). is_simple_and_free a ≡ true → HasKind (fault_of a words) c.in-Err.error) c.in_ok-command.ensures c.in-Err.ensures.kinds free in
    is_among (kind_of c.in-Err.error) kind.DisplayHelp (fault_of app words) (sym c.kind.ensures ∙ c.in-DisplayHelp.is) help_is_other kinds

pub returns-in-DisplayVersion : goal.returns-in-DisplayVersion
returns-in-DisplayVersion c =
    let words = map string_bytes c.args.words.now in
    let kinds = subst (λ (a : App). is_simple_and_free a ≡ true → HasKind (fault_of a words) c.in-Err.error) c.in_ok-command.ensures c.in-Err.ensures.kinds free in
    is_among (kind_of c.in-Err.error) kind.DisplayVersion (fault_of app words) (sym c.kind.ensures ∙ c.in-DisplayVersion.is) version_is_other kinds

pub returns : goal.returns
returns c =
    let words = map string_bytes c.args.words.now in
    let kinds = subst (λ (a : App). is_simple_and_free a ≡ true → HasKind (fault_of a words) c.in-Err.error) c.in_ok-command.ensures c.in-Err.ensures.kinds free in
    let one = not_alone (kind_of c.in-Err.error) in (
      one kind.DisplayHelp (fault_of app words) (λ is. c.in_default.not-OutOfMemory (c.kind.ensures ∙ is)) (λ is. c.in_default.not-DisplayHelp (c.kind.ensures ∙ is)) kinds,
      one kind.DisplayVersion (fault_of app words) (λ is. c.in_default.not-OutOfMemory (c.kind.ensures ∙ is)) (λ is. c.in_default.not-DisplayVersion (c.kind.ensures ∙ is)) kinds,
    )
