-- The name of a channel.
use Rattle.atomic_table.specs.Seated.{TableId}
use Rattle.atomic_table.specs.declared.badge.Badge.{Badge}
use Rattle.crossbeam_channel.specs.declared.flavors.array.Key.{Key}
use Rattle.crossbeam_channel.specs.Claims.{Pass}
use Rattle.gs_msg.specs.declared.sent.Sent.{Sent}
use Rattle.gs_cluster_channel.specs.declared.hand.Hand.{Hand}

pub record Name : Type 0 where
  pub table : TableId
  pub key : Badge (Key Sent)

abbrev pub name_of : Pass Sent Hand → Name
name_of p = record { table = p.table_id; key = p.me.0.of }
