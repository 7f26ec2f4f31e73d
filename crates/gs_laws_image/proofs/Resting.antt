-- A desk that goes on rests once its disks are closed, if it waits for nothing; and what is read of its image is alike.
use Rattle.std.proofs.Common.{◌≡◌, ◌∙◌, ◌&&◌, ℕ, true, false, List, [], ◌∷◌, map, Option, Some, None, is_none, ap, refl, sym}
use Rattle.std.proofs.lemmas.Bool.{and_parts, false≢true}
use Rattle.gs_base.specs.declared.config.Config.{Config}
use Rattle.gs_base.specs.declared.numbers.ClientId.{ClientId}
use Rattle.gs_client.specs.Nodes.{Node, resting}
use Rattle.gs_client.specs.declared.client.Client.{Client}
use Rattle.gs_desk_image.specs.Desks.{Rests, asks_nothing, is_closed, is_nil, is_resting}
use Rattle.gs_desk_image.specs.Desks as images
use Rattle.gs_laws_scripts.specs.answers.Meeting.{Reaches, RunsSo}
use Rattle.gs_laws_scripts.specs.answers.Plain.{Plain, PlainDesk}
use Rattle.gs_laws_chunks.specs.desks.Reached.{history}
use Rattle.gs_laws_world.specs.steady.Unarmed.{unarmed}
use Rattle.gs_nodes.specs.Nodes.{Nodes}
use Rattle.gs_shell_desk.specs.Ways.{Way, way_of}
use Rattle.gs_shell_desk.specs.declared.desk.Desk.{Desk}
use Rattle.gs_world.specs.Histories.{History}
use Rattle.gs_world.specs.Runs.{RunsTo, Step}
use Rattle.gs_world.proofs.Staying.{run_same}
use Rattle.gs_laws_image.specs.Seen.{bytes_seen, failures_seen, desk_seen}
use Rattle.gs_laws_image.specs.Going.{GoesOnAs, IsClosedOf, asked_of}

-- ---- the sizes stay

pub run_to : {D : Type 0} (seen : D → List ℕ) (failures : D → ℕ) (config : Config) (disks : D × D) (steps : List Step) (old new : History D) → RunsSo seen failures config disks steps old new
    → RunsTo seen failures unarmed steps old new
run_to seen failures config disks [] old new same = same
run_to seen failures config disks (step ∷ steps) old new (mid, goes, so, still, stands, rest) = (mid, goes, run_to seen failures config disks steps mid new rest)

pub config_is : {D : Type 0} (seen : D → List ℕ) (failures : D → ℕ) (config : Config) (disks : D × D) (desk : Desk D) (w : PlainDesk) → Reaches seen failures config disks desk w → desk.wire.nodes.config ≡ config
config_is {D} seen failures config disks desk w r =
    let met = r.met.met in
    (run_same seen failures unarmed met.steps met.begun (history r.met.sent (way_of desk.wire)) (run_to seen failures config disks met.steps met.begun (history r.met.sent (way_of desk.wire)) met.runs)).config
    ∙ ap (λ (n : Nodes D). n.config) met.begins.nodes

-- ---- a client that waits for nothing

none_is : {A : Type 0} (o : Option A) → is_none o ≡ true → o ≡ None
none_is None e = refl
none_is (Some x) e = absurd (cc)

-- the node of a client that waits for nothing, and has heard nothing, is told by what it has asked
node_is : (n : Node) (id : ClientId) (last : ℕ) → asked_of n ≡ (id, last) → n.waiting ≡ None → n.reply ≡ None → n ≡ resting id last
node_is n id last asked waits heard = λ i. record { id = (asked i).0; last = (asked i).1; waiting = waits i; reply = heard i }

one_rests : (ns : List Node) (id : ClientId) (last : ℕ) → asks_nothing ns ≡ true → map asked_of ns ≡ (id, last) ∷ [] → ns ≡ resting id last ∷ []
one_rests [] id last quiet asked = absurd cc
one_rests (n ∷ []) id last quiet asked =
    let both = and_parts (is_none n.waiting) (is_none n.reply) quiet in
    let first : asked_of n ≡ (id, last) = cc in
    ap (λ (m : Node). m ∷ []) (node_is n id last first (none_is n.waiting both.0) (none_is n.reply both.1))
one_rests (n ∷ m ∷ ns) id last quiet asked = absurd (false≢true quiet)

quiet_in : {D : Type 0} (c : Desk D) → is_resting c ≡ true → asks_nothing c.wire.nodes.clients.items ≡ true
quiet_in c rests =
    let a = and_parts (is_closed c.wire.nodes.master) (is_nil c.wire.queue.items && (is_none c.wire.held_kind && (is_nil c.wire.held.items && asks_nothing c.wire.nodes.clients.items))) rests in
    let b = and_parts (is_nil c.wire.queue.items) (is_none c.wire.held_kind && (is_nil c.wire.held.items && asks_nothing c.wire.nodes.clients.items)) a.1 in
    let e = and_parts (is_none c.wire.held_kind) (is_nil c.wire.held.items && asks_nothing c.wire.nodes.clients.items) b.1 in
    (and_parts (is_nil c.wire.held.items) (asks_nothing c.wire.nodes.clients.items) e.1).1

pub closed_rests : {D : Type 0} (seen : D → List ℕ) (failures : D → ℕ) (config : Config) (d c : Desk D) (w : PlainDesk) → GoesOnAs seen failures config d w → IsClosedOf d c → is_resting c ≡ true → Rests c
closed_rests {D} seen failures config d c w g closes rests = record { rests = rests; node = node; asks = asks }
  where
    sizes : d.wire.nodes.config ≡ config
    sizes = config_is bytes_seen failures_seen config g.disks (desk_seen seen failures g.counts d) w g.reached

    client : c.caller.client ≡ w.0
    client = closes.client ∙ g.reached.client

    nodes : c.wire.nodes.clients.items ≡ w.1.clients
    nodes = ap (λ (x : Way D). x.nodes.clients) closes.way ∙ ap (λ (p : Plain). p.clients) (sym g.reached.plain.plain)

    node : c.wire.nodes.clients.items ≡ resting images.one c.caller.client.last.number ∷ []
    node =
        one_rests c.wire.nodes.clients.items images.one c.caller.client.last.number (quiet_in c rests)
        (ap (λ (ns : List Node). map asked_of ns) nodes ∙ g.asked.1 ∙ (λ i. (images.one, (sym client i).last.number) ∷ []))

    asks : c.caller.client ≡ record { last = record { client = images.one; number = c.caller.client.last.number }; chunk = c.wire.nodes.config.chunk }
    asks = λ i. record {
      last = record { client = (ap (λ (x : Client). x.last.client) closes.client ∙ g.reached.ours.0) i; number = c.caller.client.last.number };
      chunk = (ap (λ (x : Client). x.chunk) closes.client ∙ g.reached.ours.1 ∙ ap (λ (z : Config). z.chunk) (sym sizes) ∙ ap (λ (x : Way D). x.nodes.config.chunk) (sym closes.way)) i;
    }
