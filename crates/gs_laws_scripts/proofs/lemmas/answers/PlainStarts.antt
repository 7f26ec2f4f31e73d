-- A new store, and a whole script.
use Rattle.std.proofs.Common.{◌≡◌, ◌∙◌, ℕ, zero, suc, List, [], ◌∷◌, map, Result, Ok, refl, sym, ap, subst}
use Rattle.std.specs.List.{AllByRecursion}
use Rattle.gs_base.specs.declared.config.Config.{Config}
use Rattle.gs_base.specs.declared.refusal.Refusal.{Refusal}
use Rattle.gs_shell_desk.specs.Starting.{Starts, begun}
use Rattle.gs_shell_desk.specs.Ways.{DeliversAll, SendsAll, Way, WithFirst, IsDelivered, last_count, way_of, with_queue}
use Rattle.gs_shell_desk.specs.declared.desk.Desk.{Desk}
use Rattle.gs_journal.specs.Journal.{text_size}
use Rattle.gs_journal.specs.Records.{Text, generation_standing, standing}
use Rattle.gs_journal.specs.declared.version.Version.TheVariants.{Two}
use Rattle.gs_laws_master.proofs.lemmas.standing.StandingRuns.{starts_firm}
use Rattle.gs_master.specs.Masters.{MasterOf}
use Rattle.gs_master.specs.Starting.{left_in}
use Rattle.gs_master.specs.declared.turn.Turn.{Turn as Told}
use Rattle.gs_msg.specs.declared.message.Message.{Message}
use Rattle.gs_master_record.specs.Encoding.{encoded}
use Rattle.gs_master_record.specs.Plain.{PlainEntry}
use Rattle.gs_master_record.specs.Writable.{IsEntry}
use Rattle.gs_laws_world.specs.lasting.Lasting.{IsToldIn}
use Rattle.gs_master_spec.specs.Applied.{records_behind}
use Rattle.gs_master_spec.specs.Durable.{start}
use Rattle.gs_master_spec.specs.Handling.{restarted}
use Rattle.gs_nodes.specs.Happenings.{Opens}
use Rattle.gs_nodes.specs.Nodes.{new_nodes}
use Rattle.gs_nodes.specs.declared.place.MasterPlace.{MasterPlace}
use Rattle.gs_nodes.specs.declared.place.MasterPlace.TheVariants.{Standing}
use Rattle.gs_laws_scripts.specs.answers.Meeting.{IsPlain, plain_of}
use Rattle.gs_laws_scripts.specs.answers.Plain.{Plain, delivers}
use Rattle.gs_laws_scripts.specs.answers.Plain as plain
use Rattle.gs_laws_scripts.proofs.lemmas.answers.PlainReopens.{opened_sends, opened_state}

-- a text of no records is that of no entries
no_entries : (entries : List PlainEntry) → ◌≡◌ {A = Text} (Two, []) (Two, map (encoded Two) entries) → records_behind entries ≡ 0
no_entries [] same = refl
no_entries (entry ∷ entries) same = let none = ap (λ (t : Text). t.1) same in absurd cc

-- where nothing is under way nothing is delivered
nothing_plain : (queue : List Message) (p : Plain) (some : Message → List Message → Plain) → queue ≡ [] → plain.with_first queue p some ≡ p
nothing_plain [] p some none = refl
nothing_plain (message ∷ queue) p some none = absurd cc

none_plain : (many : ℕ) (p : Plain) → p.queue ≡ [] → delivers many p ≡ p
unfolding delivers
none_plain zero p none = refl
none_plain (suc many) p none = nothing_plain p.queue p (λ message queue. delivers many (plain.delivered message (record p { queue = queue })).1) none

module _ {D : Type 0} (seen : D → List ℕ) (failures : D → ℕ) where
  nothing_delivered : (many : ℕ) (queue : List Message) (old new : Way D) → queue ≡ []
      → WithFirst queue (new ≡ old) (λ message rest. (said : Result (Unit {0}) Refusal) × (mid : Way D) × IsDelivered seen failures message (with_queue rest old) said mid × DeliversAll seen failures many mid new) → new ≡ old
  nothing_delivered many [] old new none same = same
  nothing_delivered many (message ∷ queue) old new none d = absurd cc

  none_delivered : (many : ℕ) (old new : Way D) → old.queue ≡ [] → DeliversAll seen failures many old new → new ≡ old
  unfolding DeliversAll
  none_delivered zero old new none same = same
  none_delivered (suc many) old new none d = nothing_delivered many old.queue old new none d

  -- the master of a new store
  pub record IsNewMaster (config : Config) (place : MasterPlace D) (turn : Told) : Type 0 where
    pub master : MasterOf D
    pub stands : place ≡ Standing master
    pub configured : master.config ≡ config
    pub state : master.state ≡ restarted start plain.new_log
    pub sends : turn.sent.items ≡ []
    pub text : master.journal.text ≡ (Two, [])
    pub generation : master.journal.generation ≡ 1

  pub new_master : (config : Config) (disks : D × D) (place : MasterPlace D) (turn : Told) → seen disks.0 ≡ [] → seen disks.1 ≡ [] → Opens seen failures config disks (Ok turn) place → IsNewMaster config place turn
  new_master config disks place turn first second (after, is, opening, said) =
      let blank : standing (seen disks.0) (seen disks.1) ≡ (Two, []) = λ i. standing (first i) (second i) in
      let told : IsToldIn (standing (seen disks.0) (seen disks.1)) start = record { entries = []; records = blank; are_entries = tt; replays = refl } in
      let counted : (entries : List PlainEntry) → AllByRecursion (IsEntry Two) entries → standing (seen disks.0) (seen disks.1) ≡ (Two, map (encoded Two) entries) → records_behind entries ≡ plain.new_log.records = λ entries are same. no_entries entries (sym blank ∙ same) in
      let size : text_size (standing (seen disks.0) (seen disks.1)) ≡ plain.new_log.size = ap text_size blank in
      let generation : generation_standing (seen disks.0) (seen disks.1) ≡ plain.new_log.generation = λ i. generation_standing (first i) (second i) in
      let firm = starts_firm plain.new_log in
      record {
        master = after;
        stands = is;
        configured = opening.config;
        text = opening.left ∙ ap (λ (x : Text). left_in x.0 x opening.durable) blank;
        generation = opening.generation (ap (λ (x : Text). x.0) blank) ∙ generation;
        state = opened_state seen failures config disks.0 disks.1 start plain.new_log after turn told counted size refl generation firm.stands.kept firm.stands.counters opening said;
        sends = opened_sends seen failures config disks.0 disks.1 start plain.new_log after turn told counted size refl generation firm.stands.kept firm.stands.counters opening said;
      }

  -- a new store: what it is without its disks, and that nothing is under way
  pub record IsBegunSo (config : Config) (disks : D × D) (desk : Desk D) (s : Starts seen failures config disks desk) : Type 0 where
    pub plain : IsPlain (way_of desk.wire) (plain.begins config).1
    pub still : way_of desk.wire ≡ begun (new_nodes config 1 s.place)
    pub sends : s.turn.sent.items ≡ []

  pub starts_plain : (config : Config) (disks : D × D) (desk : Desk D) → seen disks.0 ≡ [] → seen disks.1 ≡ [] → (s : Starts seen failures config disks desk) → IsBegunSo config disks desk s
  starts_plain config disks desk first second s =
      let n = new_master config disks s.place s.turn first second s.opens in
      let w = begun (new_nodes config 1 s.place) in
      let sent : SendsAll [] w s.mid = subst (λ (l : List Message). SendsAll l w s.mid) n.sends s.sends in
      let still : way_of desk.wire ≡ w = none_delivered last_count s.mid (way_of desk.wire) (ap (λ (x : Way D). x.queue) sent) s.delivers ∙ sent in
      let there : IsPlain w (record (plain.new_plain config) { master = restarted start plain.new_log }) = record {
        master = n.master;
        stands = record { place = n.stands; config = n.configured };
        plain = λ i. plain_of (sym n.state i) w;
      } in
      let same = none_plain last_count (record (plain.new_plain config) { master = restarted start plain.new_log }) refl in
      record { plain = subst (λ (x : Way D). IsPlain x (plain.begins config).1) (sym still) (subst (λ (p : Plain). IsPlain w p) (sym same) there); still = still; sends = n.sends }
