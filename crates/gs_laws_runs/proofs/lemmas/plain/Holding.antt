-- Calls hold the places that they copy in each world of a run.
use Rattle.std.proofs.Common.{List, refl, sym, subst}
use Rattle.gs_laws_lift.proofs.lemmas.copies.Held.{none_held, turn_held}
use Rattle.gs_laws_lift.specs.copies.Held.{AreHeld}
use Rattle.gs_master_spec.specs.Durable.{start}
use Rattle.gs_master_spec.specs.Handling.{restarted}
use Rattle.gs_msg.specs.declared.message.Message.{Message}
use Rattle.gs_nodes.specs.declared.place.MasterPlace.{MasterPlace}
use Rattle.gs_nodes.specs.declared.place.MasterPlace.TheVariants.{Away, Closed, Standing}
use Rattle.gs_laws_world.proofs.lemmas.lasting.Lasting.{begins_firm}
use Rattle.gs_world.specs.Histories.{History}
use Rattle.gs_laws_world.specs.lasting.Lasting.{Lasts, OpensAs}
use Rattle.gs_world.specs.Sent.{Sent}
use Rattle.gs_laws_chunks.specs.accounts.Accounts.{Account}
use Rattle.gs_laws_chunks.specs.accounts.Running.{IsArmed, IsGiven, IsReached, Setup}
use Rattle.gs_laws_lift.proofs.lemmas.stores.Beginning.{begins_told}
use Rattle.gs_laws_lift.specs.stores.Doing.{Arms, MasterDoes, Moves as MovesAt, Refuses, Starts, Waits}
use Rattle.gs_laws_runs.proofs.lemmas.plain.Unleased.{left_over}
use Rattle.gs_laws_chunks.proofs.lemmas.accounts.Well.{armed_left, begins_well, left_so}
use Rattle.gs_laws_lift.specs.stores.Left.{Arranges, Cuts, Does, Keeps, MasterDoesAll, as_left}
use Rattle.gs_laws_runs.specs.plain.Fresh.{PlacesAreHeld}

module _ {D : Type 0} (x : Setup D) where
  abbrev IsHeldAt : MasterPlace D → Type 0
  IsHeldAt (Standing m) = AreHeld m.state
  IsHeldAt place = Unit {0}

  armed_held : (place other : MasterPlace D) → IsArmed x.seen place other → IsHeldAt place → IsHeldAt other
  armed_held (Standing m) other (j, to, alike) k = subst IsHeldAt (sym to) k
  armed_held (Closed first second) other (one, two, to, same, alike) k = subst IsHeldAt (sym to) tt
  armed_held Away other to k = subst IsHeldAt (sym to) tt

  held_does : (sent : Sent) (old new : MasterPlace D) (messages : List Message) → Lasts x.seen old → MasterDoes x.seen (λ disk call place. place) sent old new messages → IsHeldAt old → IsHeldAt new
  held_does sent old new messages lasts (MovesAt m after heard t at to was turn state sends) k =
      subst IsHeldAt (sym to) (subst AreHeld (sym state) (turn_held m.config heard m.state t turn (subst (Lasts x.seen) at lasts).firm.rolling (subst IsHeldAt at k)))
  held_does sent old new messages lasts (Starts config d log after t has kept counters to turn state sends) k =
      subst IsHeldAt (sym to) (subst AreHeld (sym state) (turn_held config _ (restarted d log) t turn (λ rolling. refl) (none_held (restarted d log) refl)))
  held_does sent old new messages lasts (Waits d first second has kept counters to told sends) k = subst IsHeldAt (sym to) tt
  held_does sent old new messages lasts (Refuses caller same sends) k = subst IsHeldAt (sym same) k
  held_does sent old new messages lasts (Arms disk call is sends) k = subst IsHeldAt (sym is) k

  -- whatever disks of it fail
  held_left : IsGiven x → (sent : Sent) (old new : MasterPlace D) (messages : List Message) → Lasts x.seen (as_left old) → MasterDoesAll x.seen x.armed sent old new messages → IsHeldAt (as_left old) → IsHeldAt (as_left new)
  held_left given sent old new messages lasts (Does sound does) k = held_does sent (as_left old) (as_left new) messages lasts does k
  held_left given sent old new messages lasts (Cuts m after heard caller t place many said d first second at there was turn cut least within stand to kept counters told) k = subst IsHeldAt (sym to) tt
  held_left given sent old new messages lasts (Keeps m after heard caller at there failed still same was answers) k = subst IsHeldAt (sym same) k
  held_left given sent old new messages lasts (Arranges disk call is none) k =
      subst (λ p. IsHeldAt (as_left p)) (sym is) (armed_held (as_left old) (as_left (x.armed disk call old)) (armed_left x.seen old (x.armed disk call old) (given.armed disk call old)) k)

  held_first : (place : MasterPlace D) → OpensAs x.seen start place → IsHeldAt place
  held_first place (after, is, state, firm) = subst IsHeldAt (sym is) (subst AreHeld (sym state) (none_held (restarted start after.state.log) refl))

  held_there : (now : History D) (a : Account) → IsReached x now a → IsHeldAt (as_left now.nodes.master)
  held_there now a r =
      let given = r.begins.given in
      left_over x IsHeldAt given (held_left given) r.steps r.begun now r.first a r.runs (begins_well x given r.begun r.begins.begins)
      (subst IsHeldAt (sym (left_so x.seen r.begun.nodes.master (begins_firm x.seen x.failures x.armed x.config x.clients x.disks r.begun given.new r.begins.begins)))
      (held_first r.begun.nodes.master (begins_told x.seen x.failures x.armed x.config x.clients x.disks r.begun given.new r.begins.begins)))

  pub places_held : PlacesAreHeld x
  places_held now a m r at = subst IsHeldAt at (held_there now a r)
