-- How a store goes on: as a store without disks to which the same lines have led.
use Rattle.std.specs.Prelude.{◌≡◌, ◌≢◌, ◌+◌, ◌++◌, ◌∷◌, ℕ, true, false, List, [], length, map, nat_le, codes, Ok, Some, Vec, refl}
use Rattle.std.specs.Char.{encode_utf8}
use Rattle.std.specs.List.{AllByRecursion}
use Rattle.std.specs.Str.{chars, is_utf8}
use Rattle.std.specs.declared.alloc.Global.{Global}
use Rattle.gs_base.specs.declared.config.Config.{Config}
use Rattle.gs_base.specs.declared.numbers.ClientId.{ClientId}
use Rattle.gs_client.specs.Nodes.{Node}
use Rattle.gs_desk_image.specs.Desks.{IsDeskOf, IsImageOf, closed}
use Rattle.gs_journal.specs.declared.memory.MemoryDisk.{MemoryDisk}
use Rattle.gs_laws_scripts.specs.answers.Meeting.{Reaches, RestartsMaster, IsPlain}
use Rattle.gs_laws_scripts.specs.answers.Plain.{Plain, PlainDesk}
use Rattle.gs_laws_world.specs.lasting.Lasting.{failures_at}
use Rattle.gs_nodes.specs.Nodes.{with_master}
use Rattle.gs_parts_image.specs.Reading.{store_in}
use Rattle.gs_parts_image.specs.Work.{bytes_of as parts_of}
use Rattle.gs_shell_desk.specs.Ways.{way_of, with_nodes}
use Rattle.gs_shell_desk.specs.declared.desk.Desk.{Desk}
use Rattle.gs_shell_grammar.specs.Grammar.{line_request, restart_line, two_words}
use Rattle.gs_shell_grammar.specs.Grammar as lines
use Rattle.gs_shell_grammar.specs.declared.command.Restarted.TheVariants as restarted
use Rattle.gs_shell_line.specs.Line.{content, longest_line}
use Rattle.gs_shell_script.specs.Run.{memory_text}
use Rattle.gs_laws_image.specs.Seen.{SeenDisk, bytes_seen, failures_seen, desk_seen}

abbrev pub one : ClientId
one = record { 0 = 1 }

-- whose node it is, and the number under which that has asked last
abbrev pub asked_of : Node → ClientId × ℕ
asked_of n = (n.id, n.last)

-- a store has one client, and its node has asked under the number that the client used last
abbrev pub HasAskedAs : PlainDesk → Type 0
HasAskedAs w = (w.0.last.client ≡ one) × (map asked_of w.1.clients ≡ (one, w.0.last.number) ∷ [])

-- A desk goes on as this store without disks. As it is seen, events have led to it from a new store of this configuration, in which what is
-- asked is what lines may ask, and no disk failed. Its own disks may have been read from an image.
pub record GoesOnAs {D : Type 0} (seen : D → List ℕ) (failures : D → ℕ) (config : Config) (desk : Desk D) (w : PlainDesk) : Type 0 where
  pub counts : ℕ × ℕ
  pub disks : SeenDisk × SeenDisk
  pub empty : (disks.0.bytes ≡ []) × (disks.1.bytes ≡ [])
  pub reached : Reaches bytes_seen failures_seen config disks (desk_seen seen failures counts desk) w
  pub asked : HasAskedAs w

-- Memory wasn't wanting for lines that led from one desk to another: that has noted no want of it, and no line is answered by one. No disk of
-- the master has failed on the way.
pub record WentOn {D : Type 0} (failures : D → ℕ) (old : Desk D) (texts : List (List ℕ)) (new : Desk D) : Type 0 where
  pub enough : new.wire.is_short ≡ false
  pub answered : AllByRecursion (λ text. text ≢ memory_text) texts
  pub sound : failures_at failures new.wire.nodes.master ≡ failures_at failures old.wire.nodes.master

-- it is this desk, with the disks of its master closed
pub record IsClosedOf {D : Type 0} (d c : Desk D) : Type 0 where
  pub client : c.caller.client ≡ d.caller.client
  pub way : way_of c.wire ≡ with_nodes (with_master (closed d.wire.nodes.master) (way_of d.wire).nodes) (way_of d.wire)

-- The disks of a desk's master were closed, the parts of its image were written, and another desk was read of these.
pub record IsReadOfImage (d e : Desk MemoryDisk) : Type 0 where
  pub closed : Desk MemoryDisk
  pub closes : IsClosedOf d closed
  pub parts : Vec (Vec ℕ Global) Global
  pub written : IsImageOf closed (Ok parts)
  pub read : IsDeskOf (store_in (parts_of parts.items)) (Ok e)

-- a line, with its end, that restarts the master
abbrev pub IsRestart : List ℕ → Type 0
IsRestart line = RestartsMaster line × (nat_le (length (content line)) longest_line ≡ true)

-- one that restarts the server of this number
abbrev pub RestartsServer : ℕ → List ℕ → Type 0
RestartsServer number line = (line_request (content line) ≡ Some (lines.Restart (restarted.Server number))) × (nat_le (length (content line)) longest_line ≡ true)

-- lines that restart servers, ascending from this one
abbrev pub AreRestarts : ℕ → List (List ℕ) → Type 0
AreRestarts number [] = Unit {0}
AreRestarts number (line ∷ more) = RestartsServer number line × AreRestarts (number + 1) more

-- Two desks have the same client, and the same store but for the disks: the same servers and clients, a master that knows the same, and the same
-- on the way.
pub record AreSameButDisks {D E : Type 0} (d : Desk D) (e : Desk E) : Type 0 where
  pub client : d.caller.client ≡ e.caller.client
  pub store : Plain
  pub one : IsPlain (way_of d.wire) store
  pub other : IsPlain (way_of e.wire) store

-- ---- examples

abbrev pub restart_master : List ℕ
restart_master = codes "restart master" ++ 10 ∷ []

it_restarts_the_master : IsRestart restart_master
unfolding two_words restart_line is_utf8 chars encode_utf8
it_restarts_the_master = (refl, refl)

two_servers_are_restarted : AreRestarts 0 ((codes "restart 0" ++ 10 ∷ []) ∷ (codes "restart 1" ++ 10 ∷ []) ∷ [])
unfolding two_words restart_line is_utf8 chars encode_utf8
two_servers_are_restarted = ((refl, refl), ((refl, refl), tt))
