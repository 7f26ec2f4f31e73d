use Rattle.std.proofs.Common.{◌≡◌, ◌≤◌, ◌+◌, ◌-◌, ◌*◌, ◌/◌, ◌%◌, ◌++◌, length, take, drop, replicate, arith, ap, sym, subst, ◌∙◌, min}
use Rattle.std.proofs.lemmas.List.{take_at}
use Rattle.sha2.specs.Hashers.{Holds256}
use Rattle.gs_block.specs.Chunk.{written}
use Rattle.gs_block.specs.Stored.{count_of, digests_from}
use Rattle.gs_block.specs.Inverses.{replaced}
use Rattle.gs_block.proofs.Writing.{written_by_parts, take-written, each_written, anew_room}
use Rattle.gs_block.proofs.Verified.{head_same}
use Rattle.gs_block.proofs.Counts.{first_counted}
use Rattle.gs_block.proofs.parts.write_anew.Goals as goal

pub digest_anew-requires-clause-each : goal.digest_anew-requires-clause-each
digest_anew-requires-clause-each c =
    let size = c.args.size in
    let offset = c.args.offset in
    let piece = c.args.piece.now in
    let old = c.args.bytes.now.items in
    let ds = c.args.digests.now.items in
    let is : c.put_over.new.items.items ≡ written offset piece old = c.put_over.ensures ∙ ap (λ xs. replaced xs offset piece) c.in_ok-grow.ensures.bytes ∙ written_by_parts offset piece old in
    let room : c.deref_mut.result.now ≡ ds ++ replicate (count_of size (offset + length piece) - length ds) (replicate 32 0) = c.deref_mut.ensures.value ∙ c.in_ok-grow.ensures.digests ∙ ap (λ n. ds ++ replicate (n - length ds) (replicate 32 0)) c.count_of.ensures in
    ap length room
    ∙ each_written size offset piece old ds (replicate 32 0) c.requires.some c.requires.each
    ∙ ap (λ xs. count_of size (length xs)) (sym (c.deref.ensures.value ∙ is))

pub digest_anew-requires-clause-hasher : goal.digest_anew-requires-clause-hasher
digest_anew-requires-clause-hasher c =
    let size = c.args.size in
    let offset = c.args.offset in
    let piece = c.args.piece.now in
    let old = c.args.bytes.now.items in
    let at = min offset (length old) in
    let is : c.put_over.new.items.items ≡ written offset piece old = c.put_over.ensures ∙ ap (λ xs. replaced xs offset piece) c.in_ok-grow.ensures.bytes ∙ written_by_parts offset piece old in
    let same : take at old ≡ take at c.deref.result.now = take-written offset piece old ∙ ap (take at) (sym (c.deref.ensures.value ∙ is)) in
    subst (λ a. Holds256 c.args.hasher (take (a % size) (drop (a / size * size) c.deref.result.now))) (sym (c.min-at.ensures ∙ ap (min offset) (c.len.ensures ∙ c.args.bytes.now.ok.0)))
    (subst (λ held. Holds256 c.args.hasher held) (head_same size old c.deref.result.now at same) c.requires.hasher)

pub returns-clause-bytes : goal.returns-clause-bytes
returns-clause-bytes c = c.put_over.ensures ∙ ap (λ xs. replaced xs c.args.offset c.args.piece.now) c.in_ok-grow.ensures.bytes ∙ written_by_parts c.args.offset c.args.piece.now c.args.bytes.now.items

pub returns-clause-digests : goal.returns-clause-digests
returns-clause-digests c =
    let size = c.args.size in
    let offset = c.args.offset in
    let piece = c.args.piece.now in
    let old = c.args.bytes.now.items in
    let ds = c.args.digests.now.items in
    let at = min offset (length old) in
    let last = count_of size (offset + length piece) in
    let new = written offset piece old in
    let is : c.put_over.new.items.items ≡ new = c.put_over.ensures ∙ ap (λ xs. replaced xs offset piece) c.in_ok-grow.ensures.bytes ∙ written_by_parts offset piece old in
    let room : c.deref_mut.result.now ≡ ds ++ replicate (last - length ds) (replicate 32 0) = c.deref_mut.ensures.value ∙ c.in_ok-grow.ensures.digests ∙ ap (λ n. ds ++ replicate (n - length ds) (replicate 32 0)) c.count_of.ensures in
    let long : length c.digest_anew.new.digests ≡ c.grow.new.digests.len = c.digest_anew.auto.digests ∙ c.deref_mut.ensures.len in
    let low = first_counted size at (length old) c.requires.some (omega arith) in
    let each = c.requires.each in
    take_at c.digest_anew.new.digests (drop (length c.digest_anew.new.digests) c.grow.new.digests.items) c.grow.new.digests.len long
    ∙ c.digest_anew.ensures
    ∙ ap (λ a. take (a / size) c.deref_mut.result.now ++ (digests_from size c.deref.result.now (a / size) (last - a / size) ++ drop last c.deref_mut.result.now)) (c.min-at.ensures ∙ ap (min offset) (c.len.ensures ∙ c.args.bytes.now.ok.0))
    ∙ ap (λ xs. take (at / size) c.deref_mut.result.now ++ (digests_from size xs (at / size) (last - at / size) ++ drop last c.deref_mut.result.now)) (c.deref.ensures.value ∙ is)
    ∙ anew_room ds c.deref_mut.result.now (replicate 32 0) (digests_from size new (at / size) (last - at / size)) (at / size) last (let l : at / size ≤ length ds = omega arith in l) room

pub returns-clause-each : goal.returns-clause-each
returns-clause-each c =
    let size = c.args.size in
    let offset = c.args.offset in
    let piece = c.args.piece.now in
    let old = c.args.bytes.now.items in
    let ds = c.args.digests.now.items in
    let is : c.put_over.new.items.items ≡ written offset piece old = c.put_over.ensures ∙ ap (λ xs. replaced xs offset piece) c.in_ok-grow.ensures.bytes ∙ written_by_parts offset piece old in
    let room : c.deref_mut.result.now ≡ ds ++ replicate (count_of size (offset + length piece) - length ds) (replicate 32 0) = c.deref_mut.ensures.value ∙ c.in_ok-grow.ensures.digests ∙ ap (λ n. ds ++ replicate (n - length ds) (replicate 32 0)) c.count_of.ensures in
    let long : length c.digest_anew.new.digests ≡ c.grow.new.digests.len = c.digest_anew.auto.digests ∙ c.deref_mut.ensures.len in
    ap length (take_at c.digest_anew.new.digests (drop (length c.digest_anew.new.digests) c.grow.new.digests.items) c.grow.new.digests.len long)
    ∙ c.digest_anew.auto.digests
    ∙ ap length room
    ∙ each_written size offset piece old ds (replicate 32 0) c.requires.some c.requires.each
    ∙ ap (λ xs. count_of size (length xs)) (sym is)
