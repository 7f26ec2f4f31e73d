use Rattle.gs_server.specs.Servers.{about_chunk, here_of, place_of, request_in}
use Rattle.gs_server.proofs.Happening.{own_place}
use Rattle.gs_laws_server.proofs.servers.a_message_about_a_chunk_makes_what_it_says.Goals as goal

pub returns : goal.returns
returns c = λ s from handle chunk moment. own_place handle (request_in chunk) (about_chunk (here_of s moment handle (request_in chunk)) (place_of handle s) from chunk) s
