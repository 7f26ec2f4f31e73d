use Rattle.gs_block.proofs.Edited.{write_edited, append_edited, pad_edited, damage_edited}
use Rattle.gs_block.proofs.Standing.{nothing_written}
use Rattle.gs_block.proofs.promises.chunks_were_written.Goals as goal

pub returns-clause-new : goal.returns-clause-new
returns-clause-new c block chunk some block_fits chunk_fits = nothing_written block chunk some block_fits chunk_fits

pub returns-clause-write : goal.returns-clause-write
returns-clause-write c s s2 bytes piece offset w told e = let d = write_edited s s2 offset piece bytes w told e in d.bytes

pub returns-clause-append : goal.returns-clause-append
returns-clause-append c s s2 bytes piece w told e = let d = append_edited s s2 piece bytes w told e in d.bytes

pub returns-clause-pad : goal.returns-clause-pad
returns-clause-pad c s s2 bytes w told e = let d = pad_edited s s2 bytes w told e in d.bytes

pub returns-clause-damage : goal.returns-clause-damage
returns-clause-damage c s s2 bytes index w e = let d = damage_edited s s2 index bytes w e in d.bytes
