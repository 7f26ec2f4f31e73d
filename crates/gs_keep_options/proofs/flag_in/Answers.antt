use Rattle.std.proofs.Common.{false, codes, ◌∙◌, ap}
use Rattle.std.specs.Option.{option_map_or}
use Rattle.std.specs.Prelude.{bytes_eq, Option, Bool}
use Rattle.clap.specs.Words.{Text, found_of}
use Rattle.clap.proofs.WalkLemmas.{first_value-rows}
use Rattle.gs_keep_options.proofs.flag_in.Goals as goal

abbrev is_set : Option Text → Bool
is_set o = option_map_or (λ t. bytes_eq t (codes "true")) o false

pub returns-in-Some : goal.returns-in-Some
returns-in-Some c = c.eq.ensures ∙ ap is_set (c.in-Some.ensures ∙ first_value-rows (found_of c.args.matches.now) c.args.id.now)

pub returns-in-None : goal.returns-in-None
returns-in-None c = ap is_set (c.in-None.ensures ∙ first_value-rows (found_of c.args.matches.now) c.args.id.now)
