use Rattle.std.proofs.Common.{◌≡◌, rules, ap, sym, ◌+◌, ◌∙◌, length}
use Rattle.std.specs.Prelude.{string_bytes}
use Rattle.gs_master_state.proofs.Behind.{path_long, two_behind}
use Rattle.gs_master_state.proofs.log.behind_path.Goals as goal

pub returns : goal.returns
returns c =
    let long : length (string_bytes c.in_ok-text.text) ≡ c.len.result = search rules in
    two_behind c.args.room c.behind.result c.behind-2.result 2 _ _ c.behind.ensures c.behind-2.ensures (path_long c.args.place.now ∙ ap (λ text. 2 + length text) (sym c.in_ok-text.ensures) ∙ ap (λ n. 2 + n) long)
