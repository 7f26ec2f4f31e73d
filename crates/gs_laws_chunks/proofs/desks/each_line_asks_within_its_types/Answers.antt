use Rattle.gs_laws_chunks.proofs.lemmas.desks.Asking.{line_asks}
use Rattle.gs_laws_chunks.proofs.lemmas.desks.Words.{line_spoken}
use Rattle.gs_laws_chunks.proofs.desks.each_line_asks_within_its_types.Goals as goal
use Rattle.gs_shell_grammar.specs.Grammar.{At}

pub returns-clause-asked : goal.returns-clause-asked
returns-clause-asked c size line request call read is = line_asks size line request call read is

pub returns-clause-moments : goal.returns-clause-moments
returns-clause-moments c line moment read = line_spoken line (At moment) read
