use Rattle.std.proofs.Common.{List, refl, sym, ap, ◌∙◌, subst}
use Rattle.gs_cluster_channel.specs.Settled.{Hearing}
use Rattle.gs_cluster_history.specs.Histories.{Entry, Leads}
use Rattle.gs_cluster_node.specs.Nodes.{heard_of}
use Rattle.gs_cluster_node.proofs.Stepping.{past_as}
use Rattle.gs_cluster_node.proofs.node.Node.new.Goals as goal

pub invariant_of-result : goal.invariant_of-result
invariant_of-result g c =
    let begun = past_as c.args.core 0 c.first_diary-diary.result.log.sent in (
      record {
        kept = record {
          begun = begun;
          begins = record { first = c.args.turn.sent.items; starts = c.requires.starts; clock = refl; sent = c.first_diary-diary.ensures.sent };
          leads = subst (λ (es : List Entry). Leads g.C.Core.Does c.args.me begun es begun) (sym c.first_diary-diary.ensures.entries) refl;
        };
        mine = c.requires.mine;
        leads = c.first_diary-diary.ensures.routes.1 ∙ c.requires.leads;
        put = c.first_diary-diary.ensures.routes.0;
        me = ap (λ (e : Hearing). e.me) c.requires.ear;
        heard = ap (λ (e : Hearing). e.taken) c.requires.ear ∙ ap heard_of (sym c.first_diary-diary.ensures.entries);
        whole = c.requires.whole;
      },
      c.first_diary-diary.ensures.agrees,
    )
