-- What an image tells of a desk that rests is all that is seen of it.
use Rattle.std.proofs.Common.{◌≡◌, ℕ, ◌&&◌, Bool, true, eqb, List, [], ◌∷◌, length, Option, Some, None, is_none, refl, sym, ap, subst, ◌∙◌}
use Rattle.std.proofs.Props.{props}
use Rattle.std.proofs.lemmas.Bool.{and_parts, eqb-true}
use Rattle.std.proofs.lemmas.List.{nil_from_length}
use Rattle.gs_base.specs.Configs.{is_config}
use Rattle.gs_base.specs.declared.config.Config.{Config}
use Rattle.gs_client.specs.Nodes.{Node, resting}
use Rattle.gs_desk_image.specs.Desks.{AreAlike, Rests, asks_nothing, is_closed, is_nil, one, store_of}
use Rattle.gs_journal.specs.declared.memory.MemoryDisk.{MemoryDisk}
use Rattle.gs_keep_head.specs.Head.{Sizes, AreSizes, sizes_of}
use Rattle.gs_msg.specs.declared.kind.Kind.{Kind}
use Rattle.gs_msg.specs.declared.message.Message.{Message}
use Rattle.gs_nodes.specs.declared.place.MasterPlace.TheVariants.{Away}
use Rattle.gs_parts_image.specs.Stores.{Store}
use Rattle.gs_server.specs.Servers.{Server}
use Rattle.gs_shell_desk.specs.declared.desk.Desk.{Desk}

-- ---- a configuration is told by its sizes

valid_prop : (b : Bool) → IsProp (b ≡ true)
valid_prop b = hlevel props

abbrev config_with : (s : Sizes) → AreSizes s → Config
config_with s v = record { servers = s.servers; racks = s.racks; replicas = s.replicas; block = s.block; chunk = s.chunk; valid = v }

pub same_config : (c d : Config) → sizes_of c ≡ sizes_of d → c ≡ d
same_config c d h =
    subst (λ (s : Sizes). (v : AreSizes s) → c ≡ config_with s v) h
    (λ v. ap (config_with (sizes_of c)) (valid_prop (is_config c.servers c.racks c.replicas c.block c.chunk) c.valid v)) d.valid

-- ---- what rests

nothing_in : {A : Type 0} (xs : List A) → is_nil xs ≡ true → xs ≡ []
nothing_in xs e = nil_from_length xs (eqb-true _ _ e)

none_is : {A : Type 0} (o : Option A) → is_none o ≡ true → o ≡ None
none_is None e = refl
none_is (Some x) e = absurd (cc)

record Empty (d : Desk MemoryDisk) : Type 0 where
  queue : d.wire.queue.items ≡ []
  kind : d.wire.held_kind ≡ None
  held : d.wire.held.items ≡ []

empty : (d : Desk MemoryDisk) → Rests d → Empty d
empty d r =
    let a = and_parts (is_closed d.wire.nodes.master) (is_nil d.wire.queue.items && (is_none d.wire.held_kind && (is_nil d.wire.held.items && asks_nothing d.wire.nodes.clients.items))) r.rests in
    let b = and_parts (is_nil d.wire.queue.items) (is_none d.wire.held_kind && (is_nil d.wire.held.items && asks_nothing d.wire.nodes.clients.items)) a.1 in
    let c = and_parts (is_none d.wire.held_kind) (is_nil d.wire.held.items && asks_nothing d.wire.nodes.clients.items) b.1 in
    let e = and_parts (is_nil d.wire.held.items) (asks_nothing d.wire.nodes.clients.items) c.1 in
    record { queue = nothing_in d.wire.queue.items b.0; kind = none_is d.wire.held_kind c.0; held = nothing_in d.wire.held.items e.0 }

pub alike : (d e : Desk MemoryDisk) → Rests d → Rests e → store_of d ≡ store_of e → AreAlike d e
alike d e p q same =
    let a = empty d p in
    let b = empty e q in
    let config : d.wire.nodes.config ≡ e.wire.nodes.config = same_config d.wire.nodes.config e.wire.nodes.config (ap (λ (s : Store). s.head.sizes) same) in
    let last : d.caller.client.last.number ≡ e.caller.client.last.number = ap (λ (s : Store). s.head.last) same in
    let clients : d.wire.nodes.clients.items ≡ e.wire.nodes.clients.items = p.node ∙ ap (λ (n : ℕ). resting one n ∷ []) last ∙ sym q.node in
    let queue : d.wire.queue.items ≡ e.wire.queue.items = a.queue ∙ sym b.queue in
    let kind : d.wire.held_kind ≡ e.wire.held_kind = a.kind ∙ sym b.kind in
    let held : d.wire.held.items ≡ e.wire.held.items = a.held ∙ sym b.held in
    record {
      client = p.asks ∙ (λ i. record { last = record { client = one; number = last i }; chunk = (config i).chunk }) ∙ sym q.asks;
      way = λ i. record {
        nodes = record { config = config i; master = Away; servers = (same i).servers; clients = clients i };
        moment = record { 0 = (same i).head.moment };
        queue = queue i;
        kind = kind i;
        held = held i;
        drops = (same i).head.drops;
        is_short = (same i).head.is_short;
      };
      first = ap (λ (s : Store). s.first) same;
      second = ap (λ (s : Store). s.second) same;
    }
