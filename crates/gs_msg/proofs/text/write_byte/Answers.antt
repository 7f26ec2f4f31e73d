use Rattle.std.proofs.Common.{rules, [], ◌^◌, ◌-◌, false, arith}
use Rattle.std.proofs.Output.{has_written_of_eq}
use Rattle.std.specs.Fmt.{HasWritten, digits, padded_integral, format_spec}
use Rattle.gs_msg.proofs.HexTexts.{two_digits}
use Rattle.gs_msg.proofs.text.write_byte.Goals as goal

pub returns : goal.returns
returns g c = λ plain ok.
    let wrote : HasWritten g.W.Write.write_str_gives c.args.f.now (padded_integral (format_spec 32 0 4 2 (2 ^ 64 - 1)) false [] (digits 16 false c.args.byte)) c.write.new.self = search rules in
    has_written_of_eq _ _ _ _ _ (two_digits c.args.byte (omega arith)) wrote
