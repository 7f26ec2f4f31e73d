use Rattle.std.proofs.Common.{◌≡◌, ℕ, List, [], ◌∷◌, ◌++◌, map, ap, sym, ◌∙◌}
use Rattle.std.proofs.lemmas.List.{map_push}
use Rattle.std.specs.FinMap as fin
use Rattle.gs_base_table.specs.Slots.{live}
use Rattle.gs_server.specs.Servers.{client_cmp}
use Rattle.gs_server.specs.declared.turn.KeptRefusal.{KeptRefusal}
use Rattle.gs_server_image.specs.Encoding.{Refused}
use Rattle.gs_server_image.specs.declared.kept.KeptField.{KeptField}
use Rattle.gs_server_image.proofs.Clients.{onto, onto_last, onto_empty}
use Rattle.gs_server_image.proofs.refused.table_of.Goals as goal

abbrev seen : ℕ × KeptField → ℕ × KeptRefusal
seen e = (e.0, e.1.kept)

pub loop-client-init : goal.loop-client-init
loop-client-init c = rw c.new-table.ensures (onto_empty (map seen c.args.entries.items))

pub loop-client-preserved : goal.loop-client-preserved
loop-client-preserved c =
    let rest = c.pop.new.self.items in
    let before = live client_cmp c.loop-client.table in
    let step : live client_cmp c.put.new.self ≡ fin.insert before (record { 0 = c.in-Some.client }) c.in-Some.field.kept =
    c.put.ensures.put ∙ ap (λ (m : Refused). fin.insert m (record { 0 = c.in-Some.client }) c.in-Some.field.kept) c.reserve.ensures.same in
    let taken : c.loop-client.left.items ≡ rest ++ (c.in-Some.client, c.in-Some.field) ∷ [] = cc (c.in-Some.ensures.items) in
    ap (λ (m : Refused). onto (map seen rest) m) step ∙ sym (onto_last (map seen rest) (seen (c.in-Some.client, c.in-Some.field)) before)
    ∙ ap (λ (es : List (ℕ × KeptRefusal)). onto es before) (sym (map_push seen rest (c.in-Some.client, c.in-Some.field)))
    ∙ ap (λ (es : List (ℕ × KeptField)). onto (map seen es) before) (sym taken) ∙ c.loop-client.invariant
