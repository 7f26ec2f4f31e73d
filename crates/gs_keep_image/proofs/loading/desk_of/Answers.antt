use Rattle.std.proofs.Common.{◌≡◌, ◌≢◌, ◌∙◌, List, ℕ, Bor, rules, sym, ap}
use Rattle.gs_image.specs.Refused.{pointed}
use Rattle.gs_keep_image.proofs.Told.{are_sizes, is_long, is_other, is_told}
use Rattle.gs_parts_image.specs.Reading.{store_in}
use Rattle.gs_keep_image.proofs.loading.desk_of.Goals as goal

pub last_of-requires : goal.last_of-requires
last_of-requires c = is_long c.args.bytes.now (pointed c.in-Ok.parts.items) c.in-Ok.ensures.read.1

pub returns-then-ne : goal.returns-then-ne
returns-then-ne c =
    let differs : c.last_of.result ≢ c.args.sum.now = search rules in
    is_other c.args.sum.now c.args.bytes.now c.last_of.result (pointed c.in-Ok.parts.items) c.in-Ok.ensures.read.0 c.in-Ok.ensures.read.1 c.last_of.ensures differs

pub returns : goal.returns
returns c =
    let same : c.last_of.result ≡ c.args.sum.now = search rules in
    is_told c.args.config.now c.args.sum.now c.args.bytes.now c.last_of.result c.in-Ok-desk_of.desk (pointed c.in-Ok.parts.items) c.in-Ok.ensures.read.0 c.in-Ok.ensures.read.1 c.last_of.ensures same
    (ap (λ (ps : List (Bor (List ℕ))). store_in (pointed ps)) (sym c.deref.ensures.value) ∙ c.in-Ok-desk_of.ensures.0) c.in-Ok-desk_of.ensures.1 (are_sizes c.in-Ok-desk_of.desk.wire.nodes.config c.args.config.now (sym c.ne-2.ensures ∙ c.if-ne-2.false))
