use Rattle.std.proofs.Common.{◌∙◌, sym}
use Rattle.gs_laws_scripts.proofs.lemmas.answers.PlainAnswers.{line_is_answered, script_is_answered}
use Rattle.gs_laws_scripts.proofs.lemmas.answers.PlainRuns.{begun_reaches}
use Rattle.gs_laws_scripts.proofs.answers.a_script_answers_its_input.Goals as goal

pub returns-clause-begins : goal.returns-clause-begins
returns-clause-begins g c seen failures config disks desk first second starts = begun_reaches seen failures config disks desk first second starts

pub returns-clause-line : goal.returns-clause-line
returns-clause-line g c seen failures config disks old new whole text w first second answers enough calm at =
    line_is_answered seen failures config disks first second old new whole text w answers enough calm at

pub returns-clause-script : goal.returns-clause-script
returns-clause-script g c seen failures config disks input old new s well =
    script_is_answered seen failures config disks well.empty.0 well.empty.1 input old new s well

pub returns-clause-twice : goal.returns-clause-twice
returns-clause-twice g c seen failures config disks others input old new before after s t one other =
    (script_is_answered seen failures config disks one.empty.0 one.empty.1 input old new s one).0
    ∙ sym (script_is_answered seen failures config others other.empty.0 other.empty.1 input before after t other).0
