use Rattle.std.proofs.Common.{◌≡◌, ◌++◌, List, [], refl, sym, ap, ◌∙◌, subst, map}
use Rattle.gs_msg.specs.declared.message.Message.{Message}
use Rattle.gs_cluster_history.specs.Histories.{Entry, Listed, listed}
use Rattle.gs_cluster_history.specs.Logs.{first_sent}
use Rattle.gs_cluster_notes.specs.Notes.{Keeps}
use Rattle.gs_cluster_node.specs.inner.Acting.{AreAt}
use Rattle.gs_cluster_node.proofs.Listing.{are_behind, none_listed, own_none}
use Rattle.gs_cluster_node.proofs.Stepping.{first_count}
use Rattle.gs_cluster_node.proofs.node.first_diary.Goals as goal

pub put_all-requires-clause-listed : goal.put_all-requires-clause-listed
put_all-requires-clause-listed g c =
    let same : c.first-log.result.sent ≡ first_sent c.args.turn = c.first-log.ensures.1 ∙ ap (λ (l : List Listed). l ++ first_sent c.args.turn) c.new.ensures.1 in
    λ below. subst (λ (s : List Listed). AreAt s 0 0 (record { 0 = 0 }) c.args.turn.sent.items) (sym same) (are_behind [] 0 0 (record { 0 = 0 }) c.args.turn.sent.items refl)

pub put_all-requires-clause-all : goal.put_all-requires-clause-all
put_all-requires-clause-all g c = none_listed c.args.me.now c.first-log.result.sent c.args.ways.now.items c.requires.silent

pub put_all-requires-clause-own : goal.put_all-requires-clause-own
put_all-requires-clause-own g c = own_none c.args.me.now c.first-log.result.sent _ c.new-waiting.ensures.items

pub returns-clause-sent : goal.returns-clause-sent
returns-clause-sent g c = c.first-log.ensures.1 ∙ ap (λ (l : List Listed). l ++ first_sent c.args.turn) c.new.ensures.1

pub returns-clause-agrees : goal.returns-clause-agrees
returns-clause-agrees g c =
    let same : c.first-log.result.sent ≡ first_sent c.args.turn = c.first-log.ensures.1 ∙ ap (λ (l : List Listed). l ++ first_sent c.args.turn) c.new.ensures.1 in
    let none : c.first-log.result.entries ≡ [] = c.first-log.ensures.0 ∙ c.new.ensures.0 in
    record {
      counts = λ below. first_count c.args.turn.sent.items c.first-log.result.sent c.len-count.result (c.len-count.ensures ∙ c.args.turn.sent.ok.0) same;
      waits = c.put_all.ensures.own;
      own = own_none c.args.me.now c.first-log.result.sent _ c.new-2.ensures.items;
      keeps = subst (λ (es : List Entry). Keeps c.first-notes.result es c.first-log.result.sent) (sym none) (subst (λ (ls : List Listed). Keeps c.first-notes.result [] ls) (sym same) (subst (λ (ms : List Message). Keeps c.first-notes.result [] (map (listed 0 (record { 0 = 0 })) ms)) c.deref.ensures.value c.first-notes.ensures));
    }
