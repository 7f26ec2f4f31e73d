use Rattle.std.proofs.Common.{Some, sym, ap, ◌∙◌}
use Rattle.std.specs.Prelude.{option_map}
use Rattle.std.specs.Option.{option_copied}
use Rattle.gs_store.specs.Buffers.{pushed, same_request}
use Rattle.gs_store.proofs.Buffered.{seen_pushed, found, not_found}
use Rattle.gs_store.proofs.buffer.PushBuffer.get.Goals as goal

pub returns-in_err-place : goal.returns-in_err-place
returns-in_err-place c =
    ap option_copied c.from_residual.ensures ∙ ap (option_map (λ b. b.items)) (sym (not_found (same_request c.args.req) c.self.inside.pushes.items c.in_err-place.ensures).0)
    ∙ sym (seen_pushed (same_request c.args.req) c.self.inside.pushes.items) ∙ ap (pushed c.args.req) c.self.view_is

pub returns-in-Some : goal.returns-in-Some
returns-in-Some c =
    ap (λ x. Some x) c.as_slice.ensures.value ∙ ap (λ e. Some e.1.items) c.in-Some.ensures.lookup
    ∙ ap (option_map (λ b. b.items)) (sym (found (same_request c.args.req) c.self.inside.pushes.items c.in_ok-place.place c.in-Some.push.now c.in_ok-place.ensures).0)
    ∙ sym (seen_pushed (same_request c.args.req) c.self.inside.pushes.items) ∙ ap (pushed c.args.req) c.self.view_is
