use Rattle.std.proofs.Common.{arith, ◌∙◌, ◌++◌, ap}
use Rattle.gs_fields.proofs.Steps.{told_utf8, two_pieces}
use Rattle.gs_fields.proofs.blobs.put_text.Goals as goal

pub returns : goal.returns
returns c = (
  (omega arith, told_utf8 _ c.utf8.content),
  two_pieces c.args.out.now.items c.to_be_bytes.result c.args.content.now c.extend_from_slice.new.self.items c.extend_from_slice-2.new.self.items
      c.in_ok-extend_from_slice.ensures.items (c.in_ok-extend_from_slice-2.ensures.items ∙ ap (λ t. c.extend_from_slice.new.self.items ++ t) c.as_bytes.ensures.value)
      ∙ ap (λ a. c.args.out.now.items ++ (a ++ c.args.content.now)) c.to_be_bytes.ensures,
)
