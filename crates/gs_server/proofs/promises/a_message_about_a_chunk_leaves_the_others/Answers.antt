use Rattle.std.proofs.Common.{None}
use Rattle.gs_server.specs.Promises as promises
use Rattle.gs_server.specs.Servers.{about_chunk, here_of, place_of, request_in}
use Rattle.gs_server.proofs.Others.{rest_stays, copy_leaves}
use Rattle.gs_server.proofs.promises.a_message_about_a_chunk_leaves_the_others.Goals as goal

pub returns-clause-chunk : goal.returns-clause-chunk
returns-clause-chunk c = λ s from handle chunk moment. rest_stays handle (request_in chunk) (about_chunk (here_of s moment handle (request_in chunk)) (place_of handle s) from chunk) s

pub returns-clause-copy : goal.returns-clause-copy
returns-clause-copy c = λ s handle new_handle at stamp moment.
    copy_leaves handle new_handle (promises.make_copy (here_of s moment handle None) (place_of handle s) at (here_of s moment new_handle None) (place_of new_handle s) stamp) s
