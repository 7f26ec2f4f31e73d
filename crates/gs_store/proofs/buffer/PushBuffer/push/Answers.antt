use Rattle.std.proofs.Common.{ap, ◌∙◌}
use Rattle.gs_store.specs.Buffers.{push}
use Rattle.gs_store.specs.inner.Cached.{bytes_of}
use Rattle.gs_store.proofs.Buffered.{seen_push}
use Rattle.gs_store.proofs.buffer.PushBuffer.push.Goals as goal

pub returns : goal.returns
returns c =
    seen_push c.args.req c.args.bytes c.reserve.new.self.items c.take_out.new.pushes.items c.truncate.new.self.items c.push_front_reserved.new.self.items
    c.take_out.ensures.without c.truncate.ensures.items c.push_front_reserved.ensures.items
    ∙ ap (λ l. push c.args.req c.args.bytes.items (bytes_of l)) c.reserve.ensures.items ∙ ap (push c.args.req c.args.bytes.items) c.self.view_is
