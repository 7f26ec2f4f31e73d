use Rattle.std.proofs.Common.{rules, arith, ◌∙◌, ap, List, ℕ}
use Rattle.std.proofs.lemmas.List.{take_rest}
use Rattle.byteorder.specs.Endian.{big_number}
use Rattle.gs_image.proofs.Finding.{front_found}
use Rattle.gs_image.proofs.reading.front_of.Goals as goal

pub returns : goal.returns
returns c =
    front_found c.args.bytes.now _ c.read_u64.result (λ i. omega (arith, c.type_inv.bytes i)) (omega (arith, c.if-bytes-lt27.false)) (search rules) (search rules)
    (c.read_u64.ensures ∙ ap (λ (l : List ℕ). big_number 8 l) (take_rest c.args.bytes.now 19)) (take_rest c.args.bytes.now 27)
