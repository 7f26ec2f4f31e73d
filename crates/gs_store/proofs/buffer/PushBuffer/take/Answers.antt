use Rattle.std.proofs.Common.{sym, ap, ◌∙◌}
use Rattle.std.specs.Prelude.{option_map}
use Rattle.gs_store.specs.Buffers.{pushed, same_request, without}
use Rattle.gs_store.specs.inner.Cached.{bytes_of}
use Rattle.gs_store.proofs.Buffered.{seen_pushed, seen_without}
use Rattle.gs_store.proofs.buffer.PushBuffer.take.Goals as goal

pub returns-clause-taken : goal.returns-clause-taken
returns-clause-taken c = ap (option_map (λ b. b.items)) c.take_out.ensures.taken ∙ sym (seen_pushed (same_request c.args.req) c.self.inside.pushes.items) ∙ ap (pushed c.args.req) c.self.view_is

pub returns-clause-without : goal.returns-clause-without
returns-clause-without c = ap bytes_of c.take_out.ensures.without ∙ seen_without (same_request c.args.req) c.self.inside.pushes.items ∙ ap (without c.args.req) c.self.view_is
