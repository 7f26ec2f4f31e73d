use Rattle.std.proofs.Common.{◌≡◌, ◌≤◌, ◌+◌, ◌-◌, ◌/◌, length, subst, sym, ap, ◌∙◌, min, arith}
use Rattle.std.specs.Prelude.{Some, None}
use Rattle.gs_block.specs.Chunk.{written}
use Rattle.gs_block.specs.Stored.{Stored, IsStored, first_damaged, count_of}
use Rattle.gs_block.specs.Edits.{damaged_between}
use Rattle.gs_block.specs.Inverses.{inverse_of}
use Rattle.gs_block.specs.declared.inverse.BlockInverse.{BlockInverse}
use Rattle.gs_block.proofs.Following.{refused, accepted, stays_stored, new_is}
use Rattle.gs_block.proofs.Kept.{write_back, write_keeps, write_outside}
use Rattle.gs_block.proofs.Writing.{length-written}
use Rattle.gs_block.proofs.blocks.Blocks.put.Goals as goal

pub returns-in-Some-clause-edit : goal.returns-in-Some-clause-edit
unfolding damaged_between
returns-in-Some-clause-edit c =
    let end = c.args.offset + length c.args.piece.now in
    let bytes = c.self.inside.bytes.items in
    let digests = c.self.inside.digests.items in
    let block = c.self.inside.block in
    let at_is : c.min-at.result ≡ min c.args.offset (length bytes) = c.min-at.ensures ∙ ap (min c.args.offset) (c.len.ensures ∙ c.self.inside.bytes.ok.0) in
    let found = rw (c.deref-2.ensures.value, c.deref-3.ensures.value) at c.first_damaged_between.ensures in
    let f : first_damaged block bytes digests (min c.args.offset (length bytes) / block) (min (count_of block end) (length digests) - min c.args.offset (length bytes) / block) ≡ Some c.in-Some.index =
    ap (λ a. first_damaged block bytes digests (a / block) (min (count_of block end) (length digests) - a / block)) (sym at_is) ∙ sym found ∙ c.in-Some.is in
    let h : damaged_between c.args.self.now (min c.args.offset (length c.args.self.now.bytes)) end ≡ Some c.in-Some.index =
    subst (λ (s : Stored). damaged_between s (min c.args.offset (length s.bytes)) end ≡ Some c.in-Some.index) c.self.view_is f in
    refused BlockInverse c.args.self.now (min c.args.offset (length c.args.self.now.bytes)) end (written c.args.offset c.args.piece.now c.args.self.now.bytes) c.in-Some.index h

pub invariant_of-self-2 : goal.invariant_of-self-2
invariant_of-self-2 c =
    let long = length-written c.args.offset c.args.piece.now c.self.inside.bytes.items in
    let fits : c.args.offset + length c.args.piece.now ≤ c.self.inside.chunk = rw (← c.self.view_is) at c.requires in
    let is = ap length c.in_ok-write_anew.ensures.bytes in
    let old = c.self.invariant.bytes_fit in
    stays_stored c.self.inside.block c.self.inside.chunk c.self.inside.bytes.items c.write_anew.new.bytes.items c.self.inside.digests.items c.write_anew.new.digests.items c.self.invariant
    (let l : length c.write_anew.new.bytes.items ≤ c.self.inside.chunk = omega arith in l)
    c.write_anew.ensures.each

pub returns-clause-edit : goal.returns-clause-edit
unfolding damaged_between
returns-clause-edit c =
    let end = c.args.offset + length c.args.piece.now in
    let bytes = c.self.inside.bytes.items in
    let digests = c.self.inside.digests.items in
    let block = c.self.inside.block in
    let at_is : c.min-at.result ≡ min c.args.offset (length bytes) = c.min-at.ensures ∙ ap (min c.args.offset) (c.len.ensures ∙ c.self.inside.bytes.ok.0) in
    let found = rw (c.deref-2.ensures.value, c.deref-3.ensures.value) at c.first_damaged_between.ensures in
    let f : first_damaged block bytes digests (min c.args.offset (length bytes) / block) (min (count_of block end) (length digests) - min c.args.offset (length bytes) / block) ≡ None =
    ap (λ a. first_damaged block bytes digests (a / block) (min (count_of block end) (length digests) - a / block)) (sym at_is) ∙ sym found ∙ c.in-None.is in
    let none : damaged_between c.args.self.now (min c.args.offset (length c.args.self.now.bytes)) end ≡ None =
    subst (λ (s : Stored). damaged_between s (min c.args.offset (length s.bytes)) end ≡ None) c.self.view_is f in
    let inside : Stored = record { block = block; chunk = c.self.inside.chunk; bytes = bytes; digests = digests } in
    accepted BlockInverse c.args.self.now _ (min c.args.offset (length c.args.self.now.bytes)) end (written c.args.offset c.args.piece.now c.args.self.now.bytes) c.in_ok-inverse.inverse none
    (new_is c.args.offset c.args.piece.now inside c.args.self.now c.write_anew.new.bytes.items c.write_anew.new.digests.items c.self.view_is c.in_ok-write_anew.ensures.bytes c.in_ok-write_anew.ensures.digests)

pub returns-clause-undo : goal.returns-clause-undo
returns-clause-undo c =
    let inside : Stored = record { block = c.self.inside.block; chunk = c.self.inside.chunk; bytes = c.self.inside.bytes.items; digests = c.self.inside.digests.items } in
    write_back c.args.self.now _ _ c.args.offset c.args.piece.now (subst IsStored c.self.view_is c.self.invariant)
    (c.in_ok-inverse.ensures ∙ ap (λ a. inverse_of c.args.self.now a (c.args.offset + length c.args.piece.now))
    (c.min-at.ensures ∙ ap (min c.args.offset) (c.len.ensures ∙ c.self.inside.bytes.ok.0) ∙ ap (λ (s : Stored). min c.args.offset (length s.bytes)) c.self.view_is))
    (new_is c.args.offset c.args.piece.now inside c.args.self.now c.write_anew.new.bytes.items c.write_anew.new.digests.items c.self.view_is c.in_ok-write_anew.ensures.bytes c.in_ok-write_anew.ensures.digests)

pub returns-clause-intact : goal.returns-clause-intact
returns-clause-intact c =
    let inside : Stored = record { block = c.self.inside.block; chunk = c.self.inside.chunk; bytes = c.self.inside.bytes.items; digests = c.self.inside.digests.items } in
    write_keeps BlockInverse c.in_ok-inverse.inverse c.args.self.now _ c.args.offset c.args.piece.now (subst IsStored c.self.view_is c.self.invariant)
    (new_is c.args.offset c.args.piece.now inside c.args.self.now c.write_anew.new.bytes.items c.write_anew.new.digests.items c.self.view_is c.in_ok-write_anew.ensures.bytes c.in_ok-write_anew.ensures.digests)

pub returns-clause-outside : goal.returns-clause-outside
returns-clause-outside c =
    let inside : Stored = record { block = c.self.inside.block; chunk = c.self.inside.chunk; bytes = c.self.inside.bytes.items; digests = c.self.inside.digests.items } in
    write_outside c.args.self.now _ c.args.offset c.args.piece.now
    (new_is c.args.offset c.args.piece.now inside c.args.self.now c.write_anew.new.bytes.items c.write_anew.new.digests.items c.self.view_is c.in_ok-write_anew.ensures.bytes c.in_ok-write_anew.ensures.digests)
