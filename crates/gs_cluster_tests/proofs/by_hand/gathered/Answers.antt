use Rattle.gs_cluster.proofs.Numbers.{few_nodes}
use Rattle.gs_cluster.proofs.Seeding.{may_begin}
use Rattle.gs_journal.specs.Memory.{bytes_of, times_failed}
use Rattle.gs_cluster_tests.proofs.by_hand.gathered.Goals as goal

pub wire-requires-clause-few : goal.wire-requires-clause-few
wire-requires-clause-few g c = few_nodes g.N.Plan.setting c.requires.new.few

pub wire-requires-clause-begin : goal.wire-requires-clause-begin
wire-requires-clause-begin g c = may_begin bytes_of times_failed g.N.Plan.setting c.args.opened.seeds.items c.requires.new.all c.requires.new.starts g.N.Naming.names c.requires.names
