-- Codes of what histories hold, by which proofs keep it.
use Rattle.std.specs.Prelude.{ℕ, List, refl}
use Rattle.std.specs.Coded.{Coded, code_by, coded×, coded_ℕ, coded_list, coded_option, coded_result}
use Rattle.gs_base.specs.declared.numbers.Moment.{Moment}
use Rattle.gs_base.specs.contracts.numbers.Moment as moment_code
use Rattle.gs_base.specs.contracts.refusal.Refusal as refusal_code
use Rattle.gs_msg.specs.declared.message.Message.{Message}
use Rattle.gs_msg.specs.contracts.message.Message as message_code
use Rattle.gs_msg.specs.contracts.node.NodeId as node_code
use Rattle.gs_msg.specs.declared.node.NodeId.{NodeId}
use Rattle.gs_cluster_history.specs.declared.took.Took.{Took}
use Rattle.gs_cluster_history.specs.contracts.took.Took as took_code
use Rattle.gs_cluster_history.specs.Histories.{Entry, Kept, Listed, Past, Upshot}

abbrev pub coded_upshot : Coded Upshot
coded_upshot = coded_result (coded× (coded_list message_code.the_row.coded) (coded_option refusal_code.the_row.coded)) refusal_code.the_row.coded

abbrev pub coded_entry : Coded Entry
coded_entry =
    code_by (ℕ × (Took × Upshot)) (coded× coded_ℕ (coded× took_code.the_row.coded coded_upshot))
    (λ e. (e.clock, (e.took, e.outcome))) (λ p. record { clock = p.0; took = p.1.0; outcome = p.1.1 }) (λ _. refl)

abbrev pub coded_listed : Coded Listed
coded_listed =
    code_by (ℕ × (Moment × Message)) (coded× coded_ℕ (coded× moment_code.the_row.coded message_code.the_row.coded))
    (λ l. (l.clock, (l.moment, l.message))) (λ p. record { clock = p.0; moment = p.1.0; message = p.1.1 }) (λ _. refl)

abbrev pub coded_past : {C : Type 0} → Coded C → Coded (Past C)
coded_past {C} core =
    code_by (C × (ℕ × List Listed)) (coded× core (coded× coded_ℕ (coded_list coded_listed)))
    (λ p. (p.core, (p.clock, p.sent))) (λ t. record { core = t.0; clock = t.1.0; sent = t.1.1 }) (λ _. refl)

-- of a node whose kind has a code
abbrev pub coded_kept : {C : Type 0} → Coded C → Coded (Kept C)
coded_kept {C} core =
    code_by (NodeId × (Past C × List Entry)) (coded× node_code.the_row.coded (coded× (coded_past core) (coded_list coded_entry)))
    (λ k. (k.me, (k.past, k.entries))) (λ t. record { me = t.0; past = t.1.0; entries = t.1.1 }) (λ _. refl)
