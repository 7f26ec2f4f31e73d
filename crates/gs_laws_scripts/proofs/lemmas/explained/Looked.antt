-- What a client's look-ups of files are told where a desk stands for a machine.
use Rattle.std.proofs.Common.{ap, inl, inr, refl, subst, sym, ◌∙◌, ◌≡◌, Err, List, Some, false, true, ℕ}
use Rattle.std.specs.FinMap as fin
use Rattle.gs_base.specs.declared.config.Config.{Config}
use Rattle.gs_base.specs.declared.refusal.Refusal.{Refusal}
use Rattle.gs_client.specs.Replies.{looked}
use Rattle.gs_client.specs.declared.link.Reply.{Reply}
use Rattle.gs_edit.specs.Mapped.{mapped_rows}
use Rattle.gs_edit.specs.View.{NamesView}
use Rattle.gs_laws_chunks.specs.answers.Resting.{StandsStill}
use Rattle.gs_laws_moves.specs.answers.Resting.{is_look}
use Rattle.gs_laws_world.specs.steady.Asking.{MayBeAsked}
use Rattle.gs_master_spec.specs.Calls.{is_any_deep}
use Rattle.gs_master_spec.specs.Durable.{is_rolling as is_rolled}
use Rattle.gs_master_spec.specs.State.{State}
use Rattle.gs_msg.specs.declared.call.Call.{Call}
use Rattle.gs_msg.specs.declared.call.Call.TheVariants as calls
use Rattle.gs_msg.specs.declared.event.Request.TheVariants as requests
use Rattle.gs_path.specs.Path.{Path}
use Rattle.gs_shell_desk.specs.declared.desk.Desk.{Desk}
use Rattle.gs_tree.specs.Entry.{File}
use Rattle.gs_tree.specs.Find.{at}
use Rattle.gs_laws_scripts.proofs.lemmas.explained.Asked.{TellsEntry, entry_shown, place_shown, status_shown}
use Rattle.gs_laws_scripts.proofs.lemmas.explained.Listed.{rolls_so}
use Rattle.gs_laws_scripts.proofs.lemmas.explained.Still.{look_stands, look_told_there}
use Rattle.gs_laws_scripts.proofs.lemmas.explained.Turns.{IsToldOf}
use Rattle.gs_laws_scripts.specs.explained.Asking.{AreShort}
use Rattle.gs_laws_scripts.specs.explained.Lines.{IsNoLook}
use Rattle.gs_laws_scripts.specs.explained.Looked.{LooksUp, PlacesAreToldThere, StatusesAreToldThere, TellsIndexOr}
use Rattle.gs_laws_scripts.specs.explained.Machine.{Machine, Text, is_rolling}
use Rattle.gs_laws_scripts.specs.explained.Standing.{Stands, the_client}
use Rattle.gs_laws_scripts.specs.explained.Told.{TellsStatus}

module _ {D : Type 0} (seen : D → List ℕ) (failures : D → ℕ) (config : Config) (old new : Desk D) (m : Machine) (st : Stands seen config old m) where
  -- what the machine shows of a master that stands on the names
  module _ (number : ℕ) (s : State) (stood : StandsStill st.durable the_client number s) where
    tree_so : m.plain.tree ≡ mapped_rows st.shows.text (fin.entries s.durable.names.tree)
    tree_so = st.shows.tree ∙ ap (λ (names : NamesView). mapped_rows st.shows.text (fin.entries names.tree)) (sym stood.names)

    calm_so : is_rolled s.durable.phase ≡ false → is_rolling m.phase ≡ false
    calm_so calm = ap is_rolling st.shows.phase ∙ rolls_so st.durable.phase ∙ ap is_rolled (sym stood.phase) ∙ calm

    epoch_so : m.epoch ≡ s.durable.epoch
    epoch_so = st.shows.epoch ∙ sym stood.epoch

  pub may_status : (p : Path) → MayBeAsked (requests.Call (calls.Status p))
  may_status p = record { named = tt; met = λ names. tt }

  may_find : (p : Path) (index : ℕ) → MayBeAsked (requests.Call (calls.FindForReading p index))
  may_find p index = record { named = tt; met = λ names. tt }

  pub entry_there : (p : Path) (reply : Reply) → is_any_deep (calls.Status p) ≡ false → LooksUp seen failures old (calls.Status p) reply new → TellsEntry m p (looked reply)
  entry_there p reply deep carried = by_told (look_told_there seen failures config 0 0 old new m st (calls.Status p) reply refl refl (may_status p) carried)
    where
      by_told : IsToldOf st.durable (calls.Status p) (looked reply) → TellsEntry m p (looked reply)
      by_told (inl (refusal, is, off)) = subst (TellsEntry m p) (sym is) (inl off)
      by_told (inr j) = entry_shown j.config j.state j.req j.moment m st.shows.text (tree_so j.stands.0 j.state j.stands.1) (calm_so j.stands.0 j.state j.stands.1) p (looked reply) deep j.says

  pub status_there : (p : Path) (reply : Reply) → AreShort m → is_any_deep (calls.Status p) ≡ false → LooksUp seen failures old (calls.Status p) reply new → TellsStatus m p (looked reply)
  status_there p reply short deep carried = by_told (look_told_there seen failures config 0 0 old new m st (calls.Status p) reply refl refl (may_status p) carried)
    where
      by_told : IsToldOf st.durable (calls.Status p) (looked reply) → TellsStatus m p (looked reply)
      by_told (inl (refusal, is, off)) = subst (TellsStatus m p) (sym is) (inl off)
      by_told (inr j) = status_shown j.config j.state j.req j.moment m st.shows.text (tree_so j.stands.0 j.state j.stands.1) (calm_so j.stands.0 j.state j.stands.1) p (looked reply) short deep j.says

  place_there : (p : Path) (index : ℕ) (texts : List Text) (reply : Reply) → at m.plain.tree p ≡ Some (File texts) → is_any_deep (calls.FindForReading p index) ≡ false → LooksUp seen failures old (calls.FindForReading p index) reply new → TellsIndexOr m index texts (looked reply)
  place_there p index texts reply file deep carried = by_told (look_told_there seen failures config 0 0 old new m st (calls.FindForReading p index) reply refl refl (may_find p index) carried)
    where
      by_off : (refusal : Refusal) → IsNoLook refusal → TellsIndexOr m index texts (Err refusal)
      by_off refusal (inl store) = inr (inl store)
      by_off refusal (inr unsure) = inl (ap (λ (e : Refusal). Err e) unsure)

      by_told : IsToldOf st.durable (calls.FindForReading p index) (looked reply) → TellsIndexOr m index texts (looked reply)
      by_told (inl (refusal, is, off)) = subst (TellsIndexOr m index texts) (sym is) (by_off refusal off)
      by_told (inr j) =
          inr (place_shown j.config j.state j.req j.moment m st.shows.text (tree_so j.stands.0 j.state j.stands.1) (calm_so j.stands.0 j.state j.stands.1) (epoch_so j.stands.0 j.state j.stands.1) p index texts (looked reply) file deep j.says)

  pub look_there : (call : Call) (reply : Reply) → is_look call ≡ true → MayBeAsked (requests.Call call) → LooksUp seen failures old call reply new → Stands seen config new m
  look_there call reply look may carried = look_stands seen failures config 0 0 old new m st call reply look may carried

pub statuses_told_there : {D : Type 0} → StatusesAreToldThere D
statuses_told_there seen failures config old new m p reply st short deep carried =
    (status_there seen failures config old new m st p reply short deep carried, look_there seen failures config old new m st (calls.Status p) reply refl (may_status seen failures config old new m st p) carried)

pub places_told_there : {D : Type 0} → PlacesAreToldThere D
places_told_there seen failures config old new m p index texts reply st file deep carried =
    (place_there seen failures config old new m st p index texts reply file deep carried, look_there seen failures config old new m st (calls.FindForReading p index) reply refl (may_find seen failures config old new m st p index) carried)
