-- Where each move is some events of the machine, so is a chain of them.
use Rattle.std.proofs.Common.{◌≡◌, ℕ, inl, inr, Bool, true, List, [], ◌∷◌, ◌++◌, refl, ap, ◌∙◌}
use Rattle.std.specs.Prelude.{is_some}
use Rattle.std.specs.List.{AllByRecursion}
use Rattle.gs_base.specs.declared.config.Config.{Config}
use Rattle.gs_msg.specs.declared.message.Message.{Message}
use Rattle.gs_master_spec.specs.State.{State, Turn}
use Rattle.gs_laws_moves.specs.moves.Asked.{WasHeard}
use Rattle.gs_laws_moves.specs.moves.Guards.{Heard}
use Rattle.gs_laws_moves.specs.moves.Moves.{Chain, Rests, Moves, Then, Move, move_turn}
use Rattle.gs_laws_chunk.specs.machine.Machine.{Member, ChunkWorld}
use Rattle.gs_laws_chunk.specs.machine.Events.{Rests as Stands_still, marked}
use Rattle.gs_laws_parts.specs.master.Chains.{AreLive}
use Rattle.gs_laws_parts.specs.master.Telling.{FollowsMaster, IsSameMember, Says, Shows, MastersTell}
use Rattle.gs_laws_parts.proofs.lemmas.master.Marking.{marks_both, same_epoch}
use Rattle.gs_laws_parts.proofs.lemmas.master.Sending.{heard_more, leads_on, masters_on, tells_more}

same_twice : (m n o : Member) (b : Bool) → IsSameMember m b n → IsSameMember n b o → IsSameMember m b o
same_twice m n o b (inl e) (inl f) = inl (f ∙ e)
same_twice m n o b (inl e) (inr f) = inr (f ∙ ap (λ x. marked x b) e)
same_twice m n o b (inr e) (inl f) = inr (f ∙ e)
same_twice m n o b (inr e) (inr f) = inr (f ∙ ap (λ x. marked x b) e)

same_live : (m n : Member) (b : Bool) → IsSameMember m b n → is_some m.live ≡ true → is_some n.live ≡ true
same_live m n b (inl e) live = ap (λ (x : Member). is_some x.live) e ∙ live
same_live m n b (inr e) live = ap (λ (x : Member). is_some x.live) e ∙ live

all_both : (P : Message → Type 0) (xs ys : List Message) → AllByRecursion P xs → AllByRecursion P ys → AllByRecursion P (xs ++ ys)
all_both P [] ys a b = b
all_both P (x ∷ xs) ys a b = (a.0, all_both P xs ys a.1 b)

-- ---- one and another

pub lives_on : (born chunk : ℕ) (whole : ℕ → Bool) (w : ChunkWorld) (u : State) (messages : List Message) (f : FollowsMaster born chunk whole w u messages) → AreLive whole w → AreLive whole f.world
lives_on born chunk whole w u messages f live j is = same_live (w.members j) (f.world.members j) (whole j) (f.members j) (live j is)

pub both_follow : (born chunk : ℕ) (whole : ℕ → Bool) (w : ChunkWorld) (u v : State) (first next : List Message) (f : FollowsMaster born chunk whole w u first) → FollowsMaster born chunk whole f.world v next → FollowsMaster born chunk whole w v (first ++ next)
both_follow born chunk whole w u v first next f g = record {
  world = g.world;
  leads = leads_on w f.world g.world f.leads g.leads;
  masters = masters_on w f.world g.world f.leads g.leads f.masters g.masters;
  members = λ j. same_twice (w.members j) (f.world.members j) (g.world.members j) (whole j) (f.members j) (g.members j);
  marks = marks_both whole w f.world g.world g.leads f.members g.members f.marks g.marks;
  stays = λ x there. g.stays x (f.stays x there);
  shows = g.shows;
  tells = all_both (MastersTell born chunk g.world) first next (tells_more chunk f.world g.world g.stays born first f.tells) g.tells;
}

module _ (born chunk : ℕ) (whole : ℕ → Bool) (config : Config) (heard : Heard) (P : State → Move → Type 0) where
  abbrev pub EachFollows : Type 0
  EachFollows = (s : State) (move : Move) (w : ChunkWorld) → P s move → Shows chunk s w → WasHeard (Says chunk w) heard → AreLive whole w → FollowsMaster born chunk whole w (move_turn config s move).after (move_turn config s move).sent

  pub chain_follows : EachFollows → (s : State) (t : Turn) (w : ChunkWorld) → Chain config P s t → Shows chunk s w → WasHeard (Says chunk w) heard → AreLive whole w → FollowsMaster born chunk whole w t.after t.sent
  chain_follows each s t w (Rests u said) k was live = record { world = w; leads = Stands_still; masters = tt; members = λ j. inl refl; marks = same_epoch whole w w refl; stays = λ x there. there; shows = k; tells = tt }
  chain_follows each s t w (Moves u move said held) k was live = each u move w held k was live
  chain_follows each s t w (Then u first next a b) k was live =
      let f = chain_follows each u first w a k was live in
      both_follow born chunk whole w first.after next.after first.sent next.sent f (chain_follows each first.after next f.world b f.shows (heard_more chunk w f.world f.stays heard was) (lives_on born chunk whole w first.after first.sent f live))
