use Rattle.std.proofs.Common.{arith, ◌≡◌, ℕ, List, length, ◌^◌, ◌<◌, ◌∙◌, ap, ◌++◌}
use Rattle.byteorder.specs.Endian.{big_bytes}
use Rattle.gs_path.specs.Path.{path_text}
use Rattle.gs_master_record.proofs.Codes.{told_utf8, two_pieces}
use Rattle.gs_master_record.proofs.ids.PathField.put.Goals as goal

pub returns : goal.returns
returns c =
    let t = path_text c.args.self.now in
    let old = c.args.out.now.items in
    let short : length t < 2 ^ 16 = omega (arith, c.text_len-len.ensures, c.if-len-gt65535.false) in
    let same : c.text_len-len.result ≡ length t = omega (arith, c.text_len-len.ensures, c.if-len-gt65535.false) in (
      ((short, told_utf8 t c.in_ok-put_text.ensures.utf8), c.is_readable.ensures.0 c.if-not-is_readable.false),
      two_pieces old c.to_be_bytes.result t c.extend_from_slice.new.self.items c.put_text.new.out.items c.in_ok-extend_from_slice.ensures.items c.in_ok-put_text.ensures.text
          ∙ ap (λ (a : List ℕ). old ++ (a ++ t)) (c.to_be_bytes.ensures ∙ ap (λ (n : ℕ). big_bytes 2 n) same),
    )
