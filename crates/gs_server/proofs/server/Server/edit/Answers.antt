use Rattle.std.proofs.Common.{Some}
use Rattle.std.specs.FinMap as fin
use Rattle.gs_base.specs.declared.numbers.ReqId.{ReqId}
use Rattle.gs_store.specs.Serving.{done_in}
use Rattle.gs_server.specs.Edits.{new_edit, is_known_of_all}
use Rattle.gs_server.specs.Servers.{Server, here_of, place_of}
use Rattle.gs_server.proofs.Answered.{heard_before, not_heard}
use Rattle.gs_server.proofs.server.Server.edit.Goals as goal

pub returns-in-Some : goal.returns-in-Some
returns-in-Some c =
    let old : Server = c.args.self.now in
    let req : ReqId = c.args.req in
    heard_before c.args.handle req c.args.moment old (fin.get old.kept.refused req.client) (done_in (place_of c.args.handle old).slot.live req.client.0)
    (new_edit (here_of old c.args.moment c.args.handle (Some req)) (place_of c.args.handle old) req c.args.stamp c.args.op) c.in-Some.answered c.in-Some.ensures

pub returns : goal.returns
returns c =
    let old : Server = c.args.self.now in
    let req : ReqId = c.args.req in
    not_heard c.args.handle req c.args.moment old (is_known_of_all req (place_of c.args.handle old).slot (place_of c.args.handle old).lease) (fin.get old.kept.refused req.client) (done_in (place_of c.args.handle old).slot.live req.client.0)
    (new_edit (here_of old c.args.moment c.args.handle (Some req)) (place_of c.args.handle old) req c.args.stamp c.args.op) c.new_edit.result c.new_edit.new.self c.in_default.ensures c.new_edit.ensures
