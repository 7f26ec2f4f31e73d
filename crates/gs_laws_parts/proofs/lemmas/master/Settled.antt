-- A chunk that is settled stays so over moves of which none is alone.
use Rattle.std.proofs.Common.{◌≡◌, ◌∙◌, ◌==◌, ◌||◌, ℕ, Bool, true, false, Some, refl, sym, ap, subst, arith}
use Rattle.std.specs.Prelude.{option_map, Option, None, if◌then◌else◌}
use Rattle.std.specs.FinMap as fin
use Rattle.gs_base.specs.Members.{is_member}
use Rattle.gs_base.specs.declared.config.Config.{Config}
use Rattle.gs_lease.specs.declared.view.View.{View}
use Rattle.gs_master_spec.specs.Applied.{view_in}
use Rattle.gs_master_spec.specs.Chunks.{has_entry}
use Rattle.gs_master_spec.specs.Durable.{Settled, is_listed}
use Rattle.gs_master_spec.specs.State.{State, Turn}
use Rattle.gs_master_spec.specs.declared.asking.Asking.{Asking}
use Rattle.gs_laws_moves.proofs.lemmas.moves.Epochs.{within_stays}
use Rattle.gs_laws_moves.proofs.lemmas.moves.Moved.{each_moved_so}
use Rattle.gs_laws_moves.proofs.lemmas.moves.Phases.{same_commits_none}
use Rattle.gs_laws_moves.proofs.lemmas.moves.Rows.{listed_stay}
use Rattle.gs_laws_moves.proofs.lemmas.moves.Settling.{answered_so}
use Rattle.gs_laws_moves.specs.moves.Asked.{WasHeard}
use Rattle.gs_laws_moves.specs.moves.Epochs.{IsSameEpoch, Stays, is_alone}
use Rattle.gs_laws_moves.specs.moves.Guards.{Heard, IsMade, settled_chunk}
use Rattle.gs_laws_moves.specs.moves.Laws.{IsMadeWell}
use Rattle.gs_laws_moves.specs.moves.Moved.{proposed_now, settled_after}
use Rattle.gs_laws_moves.specs.moves.Moves.{Begins, Chain, Move, Moves, Rests, Settles, Then, move_turn}
use Rattle.gs_laws_chunk.proofs.lemmas.machine.Facts.{reached_world}
use Rattle.gs_laws_chunk.proofs.lemmas.machine.Lasting.{agrees}
use Rattle.gs_laws_chunk.proofs.lemmas.machine.Worlds.{leads_then}
use Rattle.gs_laws_chunk.specs.machine.Events.{Leads, Rests as Stands_still}
use Rattle.gs_laws_chunk.specs.machine.Laws.{IsReached, world_of}
use Rattle.gs_laws_chunk.specs.machine.Machine.{ChunkWorld}
use Rattle.gs_laws_chunk.specs.machine.Mastering.{AreOfMaster}
use Rattle.gs_laws_parts.proofs.lemmas.master.Calm.{beside_commits, each_made}
use Rattle.gs_laws_parts.proofs.lemmas.master.Chaining.{lives_on}
use Rattle.gs_laws_parts.proofs.lemmas.master.Every.{moves_follow}
use Rattle.gs_laws_parts.proofs.lemmas.master.Rowing.{never_above, none_committed, rest_stays}
use Rattle.gs_laws_parts.proofs.lemmas.master.Sending.{heard_more, leads_on, masters_on}
use Rattle.gs_laws_parts.proofs.lemmas.master.Settling.{row_settled}
use Rattle.gs_laws_parts.proofs.lemmas.master.Stamps.{same_number, stamp_number}
use Rattle.gs_laws_parts.specs.master.Chains.{AreLive}
use Rattle.gs_laws_parts.specs.master.Locating.{SettledStay}
use Rattle.gs_laws_parts.specs.master.Telling.{FollowsMaster, Says, Shows}

proposed_same : (o : Option Settled) → view_in (option_map proposed_now o) ≡ view_in o
proposed_same None = refl
proposed_same (Some x) = refl

-- what a move leaves of the view, where none was settled in the machine
module _ (chunk : ℕ) (config : Config) (heard : Heard) (u : State) (v n : ChunkWorld) (view : View) (shown : Shows chunk u v) (said : WasHeard (Says chunk v) heard) (at_v : IsReached v) (at_n : IsReached n) (same : n.known.view ≡ v.known.view)
    (row : view_in (fin.get u.durable.chunks chunk) ≡ Some view) where
  -- what is settled is under the stamp that was asked for, which is a later one
  never_settles : (asking : Asking) (carried : Bool) (new : View) → IsMade config heard u (Settles chunk asking carried new) → Shows chunk (move_turn config u (Settles chunk asking carried new)).after n → ⊥
  never_settles asking carried new made shows =
      let asked = shown.entry.memory.asking asking made.may.has in
      let by = answered_so (Says chunk v) heard said u chunk asking (shown.said.asked asking made.may.has) (settled_chunk u chunk) made.may.by made.may.moment new made.may.made made.may.view_is in
      let is = (shows.entry.durable.settled (record { view = new; is_moving = false }) (row_settled config heard u chunk asking carried new made)).view.stamp in
      let number : n.entry.view.stamp ≡ v.entry.top = stamp_number n.entry.view.stamp v.entry.top (sym is ∙ by.stamp ∙ asked.0) in
      let here = (agrees v (reached_world v at_v)).view in
      let there = (agrees n (reached_world n at_n)).view in
      let later = asked.1 in
      absurd (omega arith)

  row_stays : (move : Move) → IsMade config heard u move → Shows chunk (move_turn config u move).after n → fin.get (move_turn config u move).after.durable.chunks chunk ≡ settled_after u move chunk → view_in (fin.get (move_turn config u move).after.durable.chunks chunk) ≡ Some view
  row_stays (Begins q purpose call beside) made shows is = ap view_in is ∙ by_key (q == chunk) ∙ row
    where
      by_key : (b : Bool) → view_in (if b then option_map proposed_now (fin.get u.durable.chunks chunk) else fin.get u.durable.chunks chunk) ≡ view_in (fin.get u.durable.chunks chunk)
      by_key true = proposed_same (fin.get u.durable.chunks chunk)
      by_key false = refl
  row_stays (Settles q asking carried new) made shows is = ap view_in is ∙ by_key (q == chunk) refl
    where
      by_key : (b : Bool) → (q == chunk) ≡ b → view_in (if b then Some (record { view = new; is_moving = false }) else fin.get u.durable.chunks chunk) ≡ Some view
      by_key true here =
          absurd (subst (λ h. IsMade config heard u (Settles h asking carried new) → Shows chunk (move_turn config u (Settles h asking carried new)).after n → ⊥) (sym (same_number q chunk here)) (never_settles asking carried new) made shows)
      by_key false other = row
  row_stays move made shows is = ap view_in is ∙ row

module _ (chunk : ℕ) (whole : ℕ → Bool) (config : Config) (heard : Heard) (s : State) (w : ChunkWorld) (view : View) (reached : IsReached w) (shown : Shows chunk s w) (still : w.entry.top ≡ w.entry.view.stamp) where
  -- so it is of a state that is come to, and of its world
  record StandsBy (u : State) (v : ChunkWorld) : Type 0 where
    pub leads : Leads w v
    pub masters : AreOfMaster w v leads
    pub live : AreLive whole v
    pub shows : Shows chunk u v
    pub said : WasHeard (Says chunk v) heard
    pub same : IsSameEpoch s.durable u.durable
    pub listed : is_listed u.durable chunk ≡ true
    pub row : view_in (fin.get u.durable.chunks chunk) ≡ Some view

  on : (v : ChunkWorld) → Leads w v → IsReached v
  on v leads = (reached.0, leads_then (world_of reached.0) w v reached.1 leads)

  -- no view is settled
  unsettled : (u : State) (v : ChunkWorld) (leads : Leads w v) → AreOfMaster w v leads → Shows chunk u v → IsSameEpoch s.durable u.durable → v.known.view ≡ w.known.view
  unsettled u v leads masters shows same =
      rest_stays w v leads masters reached still (never_above w v leads masters reached (none_committed chunk s u w v leads masters reached shown shows (Stays same.0 same.1) (same_commits_none s.durable u.durable same.1)))

  module _ (u : State) (move : Move) (well : IsMadeWell config heard u move) (beside : is_alone move ≡ false) (v : ChunkWorld) (k : StandsBy u v) where
    abbrev behind : State
    behind = (move_turn config u move).after

    one : Chain config (λ x m. IsMadeWell config heard x m × (is_alone m ≡ false)) u (move_turn config u move)
    one = Moves u move (move_turn config u move).said (well, beside)

    follows : FollowsMaster 0 chunk whole v behind (move_turn config u move).sent
    follows = moves_follow 0 chunk whole config heard u move v k.live k.shows k.said well

    leads_there : Leads w follows.world
    leads_there = leads_on w v follows.world k.leads follows.leads

    masters_there : AreOfMaster w follows.world leads_there
    unfolding leads_there
    masters_there = masters_on w v follows.world k.leads follows.leads k.masters follows.masters

    same_there : IsSameEpoch s.durable behind.durable
    same_there = (let stay = within_stays config heard u (move_turn config u move) (each_made config heard u (move_turn config u move) one) in (stay.0 ∙ k.same.0, stay.1 ∙ k.same.1))

    listed_there : is_listed behind.durable chunk ≡ true
    listed_there = listed_stay config heard u (move_turn config u move) chunk (each_made config heard u (move_turn config u move) one) k.listed

    entry_there : has_entry behind chunk ≡ true
    entry_there = ap (λ b. b || is_member behind.volatile.unplaced chunk) listed_there

    row_is : fin.get behind.durable.chunks chunk ≡ settled_after u move chunk
    row_is = (each_moved_so config heard u move chunk well.made).settled (beside_commits move beside) entry_there

    row_there : view_in (fin.get behind.durable.chunks chunk) ≡ Some view
    row_there = row_stays chunk config heard u v follows.world view k.shows k.said (on v k.leads) (on follows.world leads_there) (unsettled behind follows.world leads_there masters_there follows.shows same_there ∙ sym (unsettled u v k.leads k.masters k.shows k.same)) k.row move well.made follows.shows row_is

    there : (n : ChunkWorld) × StandsBy behind n
    there = (
      follows.world,
      record {
        leads = leads_there;
        masters = masters_there;
        live = lives_on 0 chunk whole v behind (move_turn config u move).sent follows k.live;
        shows = follows.shows;
        said = heard_more chunk v follows.world follows.stays heard k.said;
        same = same_there;
        listed = listed_there;
        row = row_there;
      },
    )

  stands_on : (u : State) (t : Turn) → Chain config (λ x m. IsMadeWell config heard x m × (is_alone m ≡ false)) u t → (v : ChunkWorld) → StandsBy u v → (n : ChunkWorld) × StandsBy t.after n
  stands_on u t (Rests x said) v k = (v, k)
  stands_on u t (Moves x move said held) v k = there x move held.0 held.1 v k
  stands_on u t (Then x first next a b) v k = (let n = stands_on x first a v k in stands_on first.after next b n.0 n.1)

pub settled_stay : SettledStay
settled_stay chunk whole config heard s t w view reached live shown was settled listed chain =
    let last = stands_on chunk whole config heard s w view reached shown ((shown.entry.durable.settled (record { view = view; is_moving = false }) settled.has).still refl) s t chain w
    (record { leads = Stands_still; masters = tt; live = live; shows = shown; said = was; same = (refl, refl); listed = listed; row = ap view_in settled.has }) in
    (last.1.listed, last.1.row)
