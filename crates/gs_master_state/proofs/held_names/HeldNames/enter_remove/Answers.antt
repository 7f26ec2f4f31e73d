use Rattle.std.proofs.Common.{◌≡◌, false, ap}
use Rattle.std.specs.List.{list_any}
use Rattle.gs_path.specs.Path.{begins}
use Rattle.gs_master_state.proofs.held_names.HeldNames.enter_remove.Goals as goal

pub returns-then-not-is_apart-clause-copies : goal.returns-then-not-is_apart-clause-copies
returns-then-not-is_apart-clause-copies c = λ none. absurd (let apart : list_any (begins c.args.path.now) c.args.self.now.places ≡ false = ap (list_any (begins c.args.path.now)) none in cc)
