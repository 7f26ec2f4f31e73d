use Rattle.std.proofs.Common.{◌∙◌, ap}
use Rattle.std.specs.Prelude.{IfOk, Result, Ok, Err, codes}
use Rattle.clap.specs.Words.{App, with_rule}
use Rattle.clap.specs.declared.builder.ArgAction.TheVariants.{SetTrue}
use Rattle.gs_shell_options.specs.Options.{named_rule}
use Rattle.gs_keep_options.specs.Words.{looking_app}
use Rattle.gs_keep_options.proofs.looking_command.Goals as goal

if_ok_also : {T E : Type 0} (r : Result T E) (P Q : T → Type 0) → ((x : T) → P x → Q x) → IfOk r P → IfOk r Q
if_ok_also (Ok x) P Q more has = more x has
if_ok_also (Err e) P Q more has = tt

pub returns : goal.returns
unfolding looking_app
returns c =
    if_ok_also c.with_flag-4.result _ _
    (λ made is. is ∙ ap (λ (a : App). with_rule a (named_rule (codes "try") SetTrue)) (c.in_ok-command-4.ensures
    ∙ ap (λ (a : App). with_rule a (named_rule (codes "names") SetTrue)) (c.in_ok-command-3.ensures
    ∙ ap (λ (a : App). with_rule a (named_rule (codes "read-only") SetTrue)) (c.in_ok-command-2.ensures
    ∙ ap (λ (a : App). with_rule a (named_rule (codes "check") SetTrue)) c.in_ok-command.ensures))))
    c.with_flag-4.ensures
