-- What a look-up tells is so behind its turn.
use Rattle.std.proofs.Common.{◌≡◌, ◌∙◌, ◌&&◌, ◌||◌, ◌++◌, ℕ, Bool, true, false, List, [], ◌∷◌, Some, None, Option, refl, sym, ap, subst, inl, inr}
use Rattle.std.specs.Prelude.{is_some, Ok}
use Rattle.std.specs.FinMap as fin
use Rattle.std.specs.List.{AllByRecursion}
use Rattle.std.proofs.lemmas.Bool.{false≢true, true≢false}
use Rattle.gs_base.specs.declared.config.Config.{Config}
use Rattle.gs_base.specs.declared.numbers.ReqId.{ReqId}
use Rattle.gs_base.specs.Members.{is_member}
use Rattle.gs_lease.specs.declared.view.View.{View}
use Rattle.gs_msg.specs.declared.answer.Answer.TheVariants as answers
use Rattle.gs_msg.specs.declared.body.Body.{Body}
use Rattle.gs_msg.specs.declared.body.Body.TheVariants as bodies
use Rattle.gs_msg.specs.declared.message.Message.{Message}
use Rattle.gs_path.specs.Path.{Path}
use Rattle.gs_master_spec.specs.Durable.{Durable, is_rolling}
use Rattle.gs_master_spec.specs.State.{State, Turn}
use Rattle.gs_master_spec.specs.declared.asking.Asking.{Asking}
use Rattle.gs_laws_moves.proofs.lemmas.moves.Epochs.{within_stays}
use Rattle.gs_laws_moves.proofs.lemmas.moves.Fitting.{mapped}
use Rattle.gs_laws_moves.proofs.lemmas.moves.Locations.{chain_keeps, chain_sends, located_are_right}
use Rattle.gs_laws_moves.proofs.lemmas.moves.Moved.{each_moved_so}
use Rattle.gs_laws_moves.specs.moves.Epochs.{ByItself, Closes, IsSameEpoch, Within, closes, is_alone, is_followed}
use Rattle.gs_laws_moves.specs.moves.Guards.{Heard, IsMade, IsSettledOn, is_location}
use Rattle.gs_laws_moves.specs.moves.Laws.{IsMadeWell}
use Rattle.gs_laws_moves.specs.moves.Locations.{IsToldOnlyIf, KeepsLocation, Locates, WasLocated}
use Rattle.gs_laws_moves.specs.moves.Moved.{IsMovedSo, proposes}
use Rattle.gs_laws_moves.specs.moves.Moves.{Answers as AnswersCall, Chain, Extends, Move, Moves, move_turn}
use Rattle.gs_laws_parts.proofs.lemmas.master.Carrying.{all_append}
use Rattle.gs_laws_parts.proofs.lemmas.master.Calm.{each_closing, each_made}
use Rattle.gs_laws_parts.proofs.lemmas.master.Families.{families_go, family_hears, family_marks, move_family}
use Rattle.gs_laws_parts.proofs.lemmas.master.Settled.{settled_stay}
use Rattle.gs_laws_parts.specs.master.Families.{Alive, Family, FamilyGoes, HeardOf, Life, MarksOf, Unborn}
use Rattle.gs_laws_parts.specs.master.Locating.{IsLookedUpIn, IsToldSo, KeptAreLookedUp, MovesLocate, SentAreLookedUp}

-- ---- behind the move

-- as what is durable tells
looked_in : (config : Config) (heard : Heard) (s : State) (move : Move) (caller : ReqId) (chunk : ℕ) (view : View) (epoch : ℕ) → IsMade config heard s move → Locates s move caller chunk view epoch → IsLookedUpIn (move_turn config s move).after.durable chunk view epoch
looked_in config heard s move caller chunk view epoch made locates = (let is = located_are_right config heard s move caller chunk view epoch made locates in record { listed = is.listed; settled = is.settled; now = sym is.now; calm = is.calm })

still_unasked : (s u : State) (move : Move) (chunk : ℕ) → IsMovedSo s u move chunk → proposes s move chunk ≡ false → fin.get s.volatile.moving chunk ≡ None → fin.get u.volatile.moving chunk ≡ None
still_unasked s u move chunk moved none was = by_asking (fin.get u.volatile.moving chunk) refl
  where
    by_asking : (o : Option Asking) → fin.get u.volatile.moving chunk ≡ o → o ≡ None
    by_asking None is = refl
    by_asking (Some new) is = absurd (elim (moved.stamped new is) [
      | inl old ↦ false≢true (ap is_some (sym was ∙ old.1))
      | inr proposed ↦ false≢true (sym none ∙ proposed.0)
    ])

-- and no other view is proposed, where the move isn't alone
module _ (config : Config) (heard : Heard) (s : State) where
  by_answer : (req : ReqId) (chunk : ℕ) (view : View) (epoch : ℕ) → IsMade config heard s (AnswersCall req (answers.Location chunk view epoch) true) → IsSettledOn (move_turn config s (AnswersCall req (answers.Location chunk view epoch) true)).after chunk view
  by_answer req chunk view epoch made =
      let move = AnswersCall req (answers.Location chunk view epoch) true in
      record { has = made.may.1.has; unasked = still_unasked s (move_turn config s move).after move chunk (each_moved_so config heard s move chunk made) refl made.may.1.unasked }

  by_extend : (req : ReqId) (path : Path) (chunk : ℕ) (view : View) → IsMade config heard s (Extends req path chunk view) → IsSettledOn (move_turn config s (Extends req path chunk view)).after chunk view
  by_extend req path chunk view made =
      let move = Extends req path chunk view in
      let u = (move_turn config s move).after in
      let moved = each_moved_so config heard s move chunk made in
      let listed = (located_are_right config heard s move req chunk view s.durable.epoch made (refl, refl, refl, refl)).listed in
      record { has = moved.settled refl (ap (λ b. b || is_member u.volatile.unplaced chunk) listed) ∙ made.may.1.has; unasked = still_unasked s u move chunk moved refl made.may.1.unasked }

  settled_by : (move : Move) (caller : ReqId) (chunk : ℕ) (view : View) (epoch : ℕ) → IsMade config heard s move → is_alone move ≡ false → Locates s move caller chunk view epoch → IsSettledOn (move_turn config s move).after chunk view
  settled_by (AnswersCall req answer true) caller chunk view epoch made beside is =
      subst (λ a. IsMade config heard s (AnswersCall req a true) → IsSettledOn (move_turn config s (AnswersCall req a true)).after chunk view) (sym is.0) (by_answer req chunk view epoch) made
  settled_by (AnswersCall req answer false) caller chunk view epoch made beside is = absurd (true≢false (sym (ap (λ a. is_location a && true) is.0) ∙ beside))
  settled_by (Extends req path c v) caller chunk view epoch made beside same = subst (λ n. IsSettledOn (move_turn config s (Extends req path c v)).after n view) same.0 (subst (IsSettledOn (move_turn config s (Extends req path c v)).after c) same.1 (by_extend req path c v made))
  settled_by move caller chunk view epoch made beside none = absurd none

-- ---- behind those that follow

located_on : (chunk : ℕ) (whole : ℕ → Bool) (config : Config) (heard : Heard) (s : State) (life : Life chunk s) → HeardOf chunk s heard life → MarksOf chunk s whole life → (t : Turn) (view : View) (epoch : ℕ) → IsSettledOn s chunk view → IsLookedUpIn s.durable chunk view epoch
    → Chain config (λ u m. IsMadeWell config heard u m × (is_alone m ≡ false)) s t → IsLookedUpIn t.after.durable chunk view epoch
located_on chunk whole config heard s (Unborn k) hears marks t view epoch settled looked chain = absurd (false≢true (ap is_some (sym k.ungiven.settled ∙ settled.has)))
located_on chunk whole config heard s (Alive a) hears marks t view epoch settled looked chain =
    let stays = settled_stay chunk whole config heard s t a.world view a.reached marks a.shows hears settled looked.listed chain in
    let same : IsSameEpoch s.durable t.after.durable = within_stays config heard s t (each_made config heard s t chain) in
    record { listed = stays.0; settled = stays.1; now = same.0 ∙ looked.now; calm = ap is_rolling same.1 ∙ looked.calm }

pub moves_locate : MovesLocate
moves_locate whole config heard s family hears marks move t caller chunk view epoch well beside locates chain =
    let none : ℕ → Bool = λ other. false in
    let f = (move_family none whole config heard s family hears marks move well).goes in
    let u = (move_turn config s move).after in
    let sent = (move_turn config s move).sent in
    located_on chunk (whole chunk) config heard u (f.last chunk) (family_hears none whole s u sent family f heard hears chunk) (family_marks none whole s u sent family f marks chunk) t view epoch (settled_by config heard s move caller chunk view epoch well.made beside locates)
    (looked_in config heard s move caller chunk view epoch well.made locates) chain

-- ---- what is told of replies

pub told_further : (P Q : ReqId → ℕ → View → ℕ → Type 0) → ((caller : ReqId) (chunk : ℕ) (view : View) (epoch : ℕ) → P caller chunk view epoch → Q caller chunk view epoch) → (body : Body) → IsToldOnlyIf P body → IsToldOnlyIf Q body
told_further P Q more (bodies.Reply req (Ok (answers.Location chunk view epoch))) was = more req chunk view epoch was
told_further P Q more body was = tt

pub all_further : (P Q : ReqId → ℕ → View → ℕ → Type 0) → ((caller : ReqId) (chunk : ℕ) (view : View) (epoch : ℕ) → P caller chunk view epoch → Q caller chunk view epoch) → (messages : List Message) → AllByRecursion (λ (m : Message). IsToldOnlyIf P m.body) messages → AllByRecursion (λ (m : Message). IsToldOnlyIf Q m.body) messages
all_further P Q more [] all = tt
all_further P Q more (m ∷ messages) all = (told_further P Q more m.body all.0, all_further P Q more messages all.1)

-- ---- a move by itself

module _ (config : Config) (heard : Heard) (s : State) (move : Move) (made : IsMade config heard s move) (d : Durable) (looks : (caller : ReqId) (chunk : ℕ) (view : View) (epoch : ℕ) → Locates s move caller chunk view epoch → IsLookedUpIn d chunk view epoch) where
  -- just this one
  abbrev Just : State → Move → Type 0
  Just u m = IsMade config heard u m × (u ≡ s) × (m ≡ move)

  abbrev one : Turn
  one = move_turn config s move

  chain : Chain config Just s one
  chain = Moves s move one.said (made, refl, refl)

  by_one : (caller : ReqId) (chunk : ℕ) (view : View) (epoch : ℕ) → WasLocated config Just s one caller chunk view epoch → IsToldSo s d caller chunk view epoch
  by_one caller chunk view epoch (inl k) = inl k
  by_one caller chunk view epoch (inr w) = inr (looks caller chunk view epoch (subst (λ u. Locates u move caller chunk view epoch) w.holds.1 (subst (λ m. Locates w.before.after m caller chunk view epoch) w.holds.2 w.locates)))

  one_keeps : (caller : ReqId) (chunk : ℕ) (view : View) (epoch : ℕ) → KeepsLocation one.after caller chunk view epoch → IsToldSo s d caller chunk view epoch
  one_keeps caller chunk view epoch k = by_one caller chunk view epoch (chain_keeps config heard Just (λ u m just. just.0) s one caller chunk view epoch chain k)

  one_sends : AllByRecursion (λ (m : Message). IsToldOnlyIf (IsToldSo s d) m.body) one.sent
  one_sends = all_further (WasLocated config Just s one) (IsToldSo s d) by_one one.sent (chain_sends config heard Just (λ u m just. just.0) s one chain)

-- one behind which calls end answers none
followed_looks : (s : State) (move : Move) → is_followed move ≡ true → (caller : ReqId) (chunk : ℕ) (view : View) (epoch : ℕ) → Locates s move caller chunk view epoch → ⊥
followed_looks s (AnswersCall req answer over) is caller chunk view epoch locates = false≢true is
followed_looks s (Extends req path c v) is caller chunk view epoch locates = false≢true is
followed_looks s move is caller chunk view epoch none = none

-- ---- moves of which none is alone

module _ (whole : ℕ → ℕ → Bool) (config : Config) (heard : Heard) where
  abbrev Calm : State → Move → Type 0
  Calm u m = IsMadeWell config heard u m × (is_alone m ≡ false)

  calm_made : (u : State) (m : Move) → Calm u m → IsMade config heard u m
  calm_made u m calm = calm.0.made

  module _ (s : State) (family : Family s) (hears : (chunk : ℕ) → HeardOf chunk s heard (family chunk)) (marks : (chunk : ℕ) → MarksOf chunk s (whole chunk) (family chunk)) (t : Turn) (chain : Chain config Calm s t) where
    within_looks : (caller : ReqId) (chunk : ℕ) (view : View) (epoch : ℕ) → WasLocated config Calm s t caller chunk view epoch → IsToldSo s t.after.durable caller chunk view epoch
    within_looks caller chunk view epoch (inl k) = inl k
    within_looks caller chunk view epoch (inr w) =
        let none : ℕ → Bool = λ other. false in
        let u = w.before.after in
        let f = families_go none whole config heard s w.before family hears marks (mapped config Calm (IsMadeWell config heard) (λ u m calm. calm.0) s w.before w.first) in
        inr (subst (λ (x : State). IsLookedUpIn x.durable chunk view epoch) (sym w.last)
        (moves_locate whole config heard u f.last (family_hears none whole s u w.before.sent family f heard hears) (family_marks none whole s u w.before.sent family f marks) w.move w.next caller chunk view epoch w.holds.0 w.holds.1 w.locates w.rest))

    within_keeps : (caller : ReqId) (chunk : ℕ) (view : View) (epoch : ℕ) → KeepsLocation t.after caller chunk view epoch → IsToldSo s t.after.durable caller chunk view epoch
    within_keeps caller chunk view epoch k = within_looks caller chunk view epoch (chain_keeps config heard Calm calm_made s t caller chunk view epoch chain k)

    within_sends : AllByRecursion (λ (m : Message). IsToldOnlyIf (IsToldSo s t.after.durable) m.body) t.sent
    within_sends = all_further (WasLocated config Calm s t) (IsToldSo s t.after.durable) within_looks t.sent (chain_sends config heard Calm calm_made s t chain)

-- ---- a turn

module _ (whole : ℕ → ℕ → Bool) (config : Config) (heard : Heard) (s : State) (family : Family s) (hears : (chunk : ℕ) → HeardOf chunk s heard (family chunk)) (marks : (chunk : ℕ) → MarksOf chunk s (whole chunk) (family chunk)) where
  -- calls end behind a move
  module _ (move : Move) (well : IsMadeWell config heard s move) (is : is_followed move ≡ true) (next : Turn) (closing : Chain config (λ u m. IsMadeWell config heard u m × (closes m ≡ true)) (move_turn config s move).after next) where
    abbrev behind : State
    behind = (move_turn config s move).after

    abbrev none : ℕ → Bool
    none other = false

    goes : FamilyGoes none whole s behind (move_turn config s move).sent family
    goes = (move_family none whole config heard s family hears marks move well).goes

    abbrev there : (chunk : ℕ) → HeardOf chunk behind heard (goes.last chunk)
    there = family_hears none whole s behind (move_turn config s move).sent family goes heard hears

    abbrev marked : (chunk : ℕ) → MarksOf chunk behind (whole chunk) (goes.last chunk)
    marked = family_marks none whole s behind (move_turn config s move).sent family goes marks

    calm : Chain config (λ u m. IsMadeWell config heard u m × (is_alone m ≡ false)) behind next
    calm = each_closing config heard behind next closing

    first_looks : (caller : ReqId) (chunk : ℕ) (view : View) (epoch : ℕ) → Locates s move caller chunk view epoch → IsLookedUpIn next.after.durable chunk view epoch
    first_looks caller chunk view epoch locates = absurd (followed_looks s move is caller chunk view epoch locates)

    then_looks : (caller : ReqId) (chunk : ℕ) (view : View) (epoch : ℕ) → IsToldSo behind next.after.durable caller chunk view epoch → IsToldSo s next.after.durable caller chunk view epoch
    then_looks caller chunk view epoch (inl k) = one_keeps config heard s move well.made next.after.durable first_looks caller chunk view epoch k
    then_looks caller chunk view epoch (inr looked) = inr looked

    closed_keeps : (caller : ReqId) (chunk : ℕ) (view : View) (epoch : ℕ) → KeepsLocation next.after caller chunk view epoch → IsToldSo s next.after.durable caller chunk view epoch
    closed_keeps caller chunk view epoch k = then_looks caller chunk view epoch (within_keeps whole config heard behind goes.last there marked next calm caller chunk view epoch k)

    closed_sends : AllByRecursion (λ (m : Message). IsToldOnlyIf (IsToldSo s next.after.durable) m.body) ((move_turn config s move).sent ++ next.sent)
    closed_sends =
        all_append (λ (m : Message). IsToldOnlyIf (IsToldSo s next.after.durable) m.body) (move_turn config s move).sent next.sent (one_sends config heard s move well.made next.after.durable first_looks)
        (all_further (IsToldSo behind next.after.durable) (IsToldSo s next.after.durable) then_looks next.sent (within_sends whole config heard behind goes.last there marked next calm))

pub kept_are_looked_up : KeptAreLookedUp
kept_are_looked_up whole config heard s t family hears marks (Within u v chain) caller chunk view epoch k = within_keeps whole config heard s family hears marks t chain caller chunk view epoch k
kept_are_looked_up whole config heard s t family hears marks (ByItself u move said well alone) caller chunk view epoch k =
    one_keeps config heard s move well.made (move_turn config s move).after.durable (λ c q v e. looked_in config heard s move c q v e well.made) caller chunk view epoch k
kept_are_looked_up whole config heard s t family hears marks (Closes u move said next well is closing) caller chunk view epoch k = closed_keeps whole config heard s family hears marks move well is next closing caller chunk view epoch k

pub sent_are_looked_up : SentAreLookedUp
sent_are_looked_up whole config heard s t family hears marks (Within u v chain) = within_sends whole config heard s family hears marks t chain
sent_are_looked_up whole config heard s t family hears marks (ByItself u move said well alone) = one_sends config heard s move well.made (move_turn config s move).after.durable (λ c q v e. looked_in config heard s move c q v e well.made)
sent_are_looked_up whole config heard s t family hears marks (Closes u move said next well is closing) = closed_sends whole config heard s family hears marks move well is next closing
