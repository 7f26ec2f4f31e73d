use Rattle.gs_laws_parts.proofs.lemmas.server.Servers.{server_shown, stepped_servers, led_servers, reached_behind, marked_whole, marked_live}
use Rattle.gs_laws_parts.proofs.server.servers_are_members_throughout.Goals as goal

pub returns-clause-shown : goal.returns-clause-shown
returns-clause-shown c = λ setting chunk w id s reached is apart. server_shown setting chunk w id s reached is apart

pub returns-clause-steps : goal.returns-clause-steps
returns-clause-steps c = λ setting chunk w servers cause id s after about sent reached are is steps began. stepped_servers setting chunk w reached servers are cause id s after about sent is steps began

pub returns-clause-led : goal.returns-clause-led
returns-clause-led c = λ setting chunk w last servers whole reached are leads leaves. led_servers setting chunk w reached servers are last whole leads leaves

pub returns-clause-begun : goal.returns-clause-begun
returns-clause-begun c = λ e s is. reached_behind e s is

pub returns-clause-whole : goal.returns-clause-whole
returns-clause-whole c = λ setting chunk w servers id s are there whole. marked_whole setting chunk w servers are id s there whole

pub returns-clause-live : goal.returns-clause-live
returns-clause-live c = λ setting chunk w servers id are whole. marked_live setting chunk w servers are id whole
