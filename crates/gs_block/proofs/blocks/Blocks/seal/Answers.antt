use Rattle.std.proofs.Common.{◌≡◌, length, replicate, map, ap, ◌∙◌}
use Rattle.std.specs.Prelude.{None, is_some}
use Rattle.gs_block.specs.Stored.{Stored}
use Rattle.gs_block.specs.Images.{Images, begun, undone}
use Rattle.gs_block.proofs.Undoing.{begun_undone, begun_touched}
use Rattle.gs_block.proofs.blocks.Blocks.seal.Goals as goal

pub returns-clause-undone : goal.returns-clause-undone
returns-clause-undone c =
    let s : Stored = c.args.self.now in
    let digests : c.in_ok-digests.digests.items ≡ s.digests = c.in_ok-digests.ensures.items ∙ c.deref.ensures.value ∙ ap (λ (t : Stored). t.digests) c.self.view_is in
    let many : c.len.result ≡ length s.digests = c.len.ensures ∙ c.in_ok-digests.digests.ok.0 ∙ ap length digests in
    let long : c.len-2.result ≡ length s.bytes = c.len-2.ensures ∙ c.self.inside.bytes.ok.0 ∙ ap (λ (t : Stored). length t.bytes) c.self.view_is in
    let is : (let i : Images = record { long = c.len-2.result; digests = c.in_ok-digests.digests.items; blocks = c.in_ok-blocks.blocks.items } in i) ≡ begun s =
    λ k. record { long = long k; digests = digests k; blocks = (c.in_ok-blocks.ensures ∙ ap (λ n. replicate n None) many) k } in
    ap (λ (i : Images). undone i s) is ∙ begun_undone s

pub returns-clause-touched : goal.returns-clause-touched
returns-clause-touched c =
    let s : Stored = c.args.self.now in
    let digests : c.in_ok-digests.digests.items ≡ s.digests = c.in_ok-digests.ensures.items ∙ c.deref.ensures.value ∙ ap (λ (t : Stored). t.digests) c.self.view_is in
    let many : c.len.result ≡ length s.digests = c.len.ensures ∙ c.in_ok-digests.digests.ok.0 ∙ ap length digests in
    ap (map is_some) (c.in_ok-blocks.ensures ∙ ap (λ n. replicate n None) many) ∙ begun_touched (length s.digests)
