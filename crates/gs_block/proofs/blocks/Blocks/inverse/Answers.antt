use Rattle.std.proofs.Common.{◌≡◌, ◌-◌, ◌/◌, ℕ, List, length, take, drop, subst, ap, ◌∙◌, max}
use Rattle.gs_block.specs.Stored.{Stored, count_of}
use Rattle.gs_block.specs.Inverses.{Inverse, inverse_of}
use Rattle.gs_block.proofs.blocks.Blocks.inverse.Goals as goal

pub returns : goal.returns
unfolding inverse_of
returns c =
    let at = c.args.at in
    let end = c.args.end in
    let block = c.self.inside.block in
    let held : c.len-held.result ≡ length c.self.inside.bytes.items = c.len-held.ensures ∙ c.self.inside.bytes.ok.0 in
    let long : c.max.result ≡ max (length c.self.inside.bytes.items) end = c.max.ensures ∙ ap (λ n. max n end) held in
    let bytes : c.in_ok-bytes.bytes.items ≡ take (end - at) (drop at c.self.inside.bytes.items) = c.in_ok-bytes.ensures ∙ ap (λ (xs : List ℕ). take (end - at) (drop at xs)) c.deref.ensures.value in
    let digests : c.in_ok-digests.digests.items ≡ take (count_of block end - at / block) (drop (at / block) c.self.inside.digests.items) =
    c.in_ok-digests.ensures ∙ ap (λ (xs : List (List ℕ)). take (c.count_of-last.result - at / block) (drop (at / block) xs)) c.deref-2.ensures.value ∙ ap (λ n. take (n - at / block) (drop (at / block) c.self.inside.digests.items)) c.count_of-last.ensures in
    let own : Inverse = record { at = at; old_length = c.len-held.result; new_length = c.max.result; bytes = c.in_ok-bytes.bytes.items; digests = c.in_ok-digests.digests.items } in
    subst (λ (s : Stored). own ≡ inverse_of s at end) c.self.view_is
    (λ i. record { at = at; old_length = held i; new_length = long i; bytes = bytes i; digests = digests i })
