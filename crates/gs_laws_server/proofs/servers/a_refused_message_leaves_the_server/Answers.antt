use Rattle.gs_laws_server.proofs.lemmas.servers.Refusing.{body_left}
use Rattle.gs_laws_server.proofs.servers.a_refused_message_leaves_the_server.Goals as goal

pub returns : goal.returns
returns c = λ s message moment refusal said.
    body_left c.a_refused_message_leaves_the_chunk.ensures.chunk c.a_refused_message_leaves_the_chunk.ensures.copy s message.from message.body moment refusal said
