use Rattle.std.proofs.Common.{Ok, refl}
use Rattle.gs_nodes.specs.Nodes.{nodes_of}
use Rattle.gs_nodes.proofs.Delivered.{to_client, to_master, to_server}
use Rattle.gs_nodes.proofs.nodes.Nodes.deliver.Goals as goal

pub returns-in-Master : goal.returns-in-Master
returns-in-Master g c =
    to_master g.D.Disk.seen g.D.Disk.failures c.args.message c.args.moment c.receiver.result c.receiver.ensures (nodes_of c.args.self.now) c.hear.result c.hear.new.self c.in-Master.is c.hear.ensures

pub returns-in-Server : goal.returns-in-Server
returns-in-Server g c =
    to_server g.D.Disk.seen g.D.Disk.failures c.args.message c.args.moment c.receiver.result c.receiver.ensures (nodes_of c.args.self.now) c.in-Server.server c.at_server.result (nodes_of c.at_server.new.self)
    c.in-Server.is c.at_server.ensures

pub returns-in-Client : goal.returns-in-Client
returns-in-Client g c =
    to_client g.D.Disk.seen g.D.Disk.failures c.args.message c.args.moment c.receiver.result c.receiver.ensures (nodes_of c.args.self.now) c.in-Client.client c.at_client-said.result
    (Ok (record { sent = c.new.result; said = c.at_client-said.result })) (nodes_of c.at_client-said.new.self) c.in-Client.is c.at_client-said.ensures (c.new.ensures.items, refl)
