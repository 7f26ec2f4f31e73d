use Rattle.std.proofs.Common.{◌≡◌, map, string_bytes, sym, ap, ◌∙◌, List, [], Option, Some, None, cond, codes}
use Rattle.std.specs.Option.{option_map}
use Rattle.clap.specs.Walk.{is_empty}
use Rattle.clap.specs.Words.{Kinds, Row, Text, found_of, matches_of, rows_of}
use Rattle.clap.specs.Faults.{fault_of}
use Rattle.clap.proofs.WalkLemmas.{first_value-rows}
use Rattle.gs_shell_options.specs.Options.{flag_in}
use Rattle.gs_keep_options.specs.Words.{Asks, app, mode_in, rows_asked, sizes_in}
use Rattle.gs_keep_options.proofs.read_words.Goals as goal

asked : (fault : Kinds) (rows rows' : List Row) → fault ≡ [] → rows ≡ rows' → cond (is_empty fault) (rows_asked rows') None ≡ rows_asked rows
asked fault rows rows' none same = ap (λ (f : Kinds). cond (is_empty f) (rows_asked rows') None) none ∙ ap rows_asked (sym same)

abbrev made : List Row → Option Text → Option Asks
made rows path = option_map (λ p. record { path = p; sizes = sizes_in rows; is_existing = flag_in (codes "existing") rows; mode = mode_in rows }) path

pub returns-in_default : goal.returns-in_default
returns-in_default c =
    let words = map string_bytes c.args.words.now in
    let found = found_of c.in_ok-matches.matches in
    let rows = rows_of found in
    let is = c.in_ok-matches.ensures in
    asked (fault_of app words) rows (matches_of app words) is.0 is.1 ∙ ap (made rows) (sym (c.in_default.ensures ∙ first_value-rows found (codes "FILE")))

pub returns : goal.returns
returns c =
    let words = map string_bytes c.args.words.now in
    let found = found_of c.in_ok-matches.matches in
    let rows = rows_of found in
    let is = c.in_ok-matches.ensures in
    asked (fault_of app words) rows (matches_of app words) is.0 is.1 ∙ ap (made rows) (sym (c.in-Some.ensures ∙ first_value-rows found (codes "FILE")))
    ∙ ap (λ (p : Text). Some (record { path = p; sizes = sizes_in rows; is_existing = flag_in (codes "existing") rows; mode = mode_in rows })) (sym c.in_ok-from_str.ensures.ok)
    ∙ ap (λ s. Some (record { path = string_bytes c.in_ok-from_str.field-0; sizes = s; is_existing = flag_in (codes "existing") rows; mode = mode_in rows })) (sym c.sizes_in.ensures)
    ∙ ap (λ e. Some (record { path = string_bytes c.in_ok-from_str.field-0; sizes = c.sizes_in.result; is_existing = e; mode = mode_in rows })) (sym c.flag_in.ensures)
    ∙ ap (λ m. Some (record { path = string_bytes c.in_ok-from_str.field-0; sizes = c.sizes_in.result; is_existing = c.flag_in.result; mode = m })) (sym c.mode_in.ensures)
