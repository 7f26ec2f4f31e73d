use Rattle.std.proofs.Common.{inl, lit<}
use Rattle.std.proofs.lemmas.Str.Pattern.{strip_prefix_char}
use Rattle.gs_path.proofs.PathLemmas.{read_by-other}
use Rattle.gs_path.proofs.path.read.Goals as goal

pub returns-in_default : goal.returns-in_default
returns-in_default c =
    let h = strip_prefix_char 47 c.args.text.now c.strip_prefix.result c.strip_prefix.ensures.cases (lit< tt) in
    inl (read_by-other _ c.args.text.now (rw c.in_default.is at h))
