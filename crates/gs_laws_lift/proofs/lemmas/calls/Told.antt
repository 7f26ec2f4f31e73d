-- Where it is told that a chunk is, the chunk stands at the place that the call named.
use Rattle.std.proofs.Common.{arith, ◌≡◌, ◌⊎◌, inl, inr, ◌==◌, ℕ, Bool, true, false, List, [], ◌∷◌, refl, subst}
use Rattle.std.specs.Prelude.{Ok, Some, take}
use Rattle.std.specs.List.{AllByRecursion}
use Rattle.std.proofs.lemmas.Bool.{and_parts, false≢true}
use Rattle.std.proofs.lemmas.Bool.Decides.{nat_tests}
use Rattle.gs_base.specs.declared.config.Config.{Config}
use Rattle.gs_base.specs.declared.numbers.ReqId.{ReqId}
use Rattle.gs_edit.proofs.Tables.{same_path-is}
use Rattle.gs_edit.specs.View.{NamesView}
use Rattle.gs_lease.specs.declared.view.View.{View}
use Rattle.gs_msg.specs.declared.answer.Answer.{Answer}
use Rattle.gs_msg.specs.declared.answer.Answer.TheVariants as answers
use Rattle.gs_msg.specs.declared.body.Body.{Body}
use Rattle.gs_msg.specs.declared.body.Body.TheVariants as bodies
use Rattle.gs_msg.specs.declared.call.Call.{Call}
use Rattle.gs_msg.specs.declared.call.Call.TheVariants as calls
use Rattle.gs_msg.specs.declared.message.Message.{Message}
use Rattle.gs_path.specs.Path.{Path}
use Rattle.gs_tree.specs.Edits.{same_path}
use Rattle.gs_laws_moves.proofs.lemmas.moves.GivenNames.{names_given}
use Rattle.gs_master_record.specs.Plain.{AddChunk, Edited}
use Rattle.gs_master_spec.specs.Applied.{replayed}
use Rattle.gs_master_spec.specs.Durable.{Durable}
use Rattle.gs_master_spec.specs.State.{State, Turn}
use Rattle.gs_master_spec.specs.declared.pending.Waiting.{Waiting}
use Rattle.gs_master_spec.specs.declared.pending.Waiting.TheVariants as waits
use Rattle.gs_laws_moves.proofs.lemmas.moves.Fitting.{mapped}
use Rattle.gs_laws_moves.proofs.lemmas.moves.Locations.{chain_keeps, chain_sends, chain_tells, located_are_right}
use Rattle.gs_laws_moves.proofs.lemmas.moves.Right.{one_fits}
use Rattle.gs_laws_moves.specs.moves.Epochs.{ByItself, Closes, EndsOnce, Within}
use Rattle.gs_laws_moves.specs.moves.ForCalls.{HasChunks, IsAnswerFor, IsLed, IsLookedUpFor, IsMadeWellFor, IsPlaceOf, StandsAt, waits_at_end, waits_for_lease}
use Rattle.gs_laws_moves.specs.moves.Guards.{Heard, IsWaiting}
use Rattle.gs_laws_moves.specs.moves.Locations.{IsLocatedWithin, IsToldIn, IsToldOnlyIf, KeepsLocation, Locates, WasLocated}
use Rattle.gs_laws_moves.specs.moves.Moved.{is_commit}
use Rattle.gs_laws_moves.specs.moves.Moves.{Answers as AnswersCall, Chain, CommitsRollback, Extends, Move, Moves, Then, move_turn}
use Rattle.gs_laws_lift.proofs.lemmas.copies.Held.{closing_commit, followed_commit, within_commit}
use Rattle.gs_laws_lift.proofs.lemmas.copies.Locked.{one_so}
use Rattle.gs_laws_lift.proofs.lemmas.calls.Files.{added_stands}
use Rattle.gs_laws_lift.proofs.lemmas.calls.Waits.{Usual, chain_asked, is_ending}
use Rattle.gs_laws_lift.specs.calls.Told.{IsAtPlaceOf, IsLedFor, IsToldFor, KeptAreFor, PartsTellFor, SentAreFor, WasToldFor}
use Rattle.gs_laws_lift.specs.calls.Waits.{AreAskedFor, HearsOneOf, WaitsFor, WaitsForEnd, WasCalled}

-- ---- who waits so

same_number : (a b : ℕ) → (a == b) ≡ true → a ≡ b
same_number a b h = grind (arith, nat_tests)

is_leasing : (path : Path) (index chunk : ℕ) (w : Waiting) → waits_for_lease path index chunk w ≡ true → w ≡ waits.Lease path index chunk
is_leasing path index chunk (waits.Lease p i c) is =
    let one = and_parts (same_path p path) _ is in
    let two = and_parts (i == index) (c == chunk) one.1 in
    λ j. waits.Lease (same_path-is p path one.0 j) (same_number i index two.0 j) (same_number c chunk two.1 j)
is_leasing path index chunk w is = absurd (false≢true is)

-- ---- lists

all_further : (P Q : ReqId → ℕ → View → ℕ → Type 0) → ((req : ReqId) (chunk : ℕ) (view : View) (epoch : ℕ) → P req chunk view epoch → Q req chunk view epoch) → (messages : List Message) → AllByRecursion (λ (m : Message). IsToldOnlyIf P m.body) messages → AllByRecursion (λ (m : Message). IsToldOnlyIf Q m.body) messages
all_further P Q more [] all = tt
all_further P Q more (m ∷ messages) all = (further m.body all.0, all_further P Q more messages all.1)
  where
    further : (body : Body) → IsToldOnlyIf P body → IsToldOnlyIf Q body
    further (bodies.Reply req (Ok (answers.Location chunk view epoch))) was = more req chunk view epoch was
    further body was = tt

-- ---- a move that tells so

-- a chunk that was looked up stands at the place
place_of : (names : NamesView) (chunk : ℕ) (view : View) (call : Call) → IsPlaceOf names chunk view call → IsAtPlaceOf names chunk call
place_of names chunk view (calls.FindForReading path index) is = is
place_of names chunk view (calls.FindForWriting path index stamp) is = is.0
place_of names chunk view (calls.Extend path index) is = is
place_of names chunk view call is = absurd is

module _ (all : List (ReqId × Call)) (config : Config) (heard : Heard) (hears : HearsOneOf all heard) where
  abbrev PlaceFor : NamesView → Move → ReqId → ℕ → View → Type 0
  PlaceFor names move req chunk view = (call : Call) × WasCalled all req call × IsAtPlaceOf names chunk call × IsLedFor call view

  led_of : (names : NamesView) (req : ReqId) (answer : Answer) (chunk : ℕ) (view : View) (call : Call) → IsPlaceOf names chunk view call → IsLedFor call view
  led_of names req answer chunk view (calls.FindForWriting path index stamp) is = is.1
  led_of names req answer chunk view call is = tt

  looked_for : (s : State) (req : ReqId) (answer : Answer) (chunk : ℕ) (view : View) → IsLookedUpFor heard s req chunk view → PlaceFor s.durable.names (AnswersCall req answer false) req chunk view
  looked_for s req answer chunk view for = (for.0, hears for.1.heard_so.0 req for.0 for.1.heard_so.1, place_of s.durable.names chunk view for.0 for.2, led_of s.durable.names req answer chunk view for.0 for.2)

  leased_for : (s : State) (req : ReqId) (answer : Answer) (chunk : ℕ) (view : View) → AreAskedFor all s → (path : Path) (index : ℕ) → IsWaiting s req (waits_for_lease path index chunk) → IsLed view → PlaceFor s.durable.names (AnswersCall req answer true) req chunk view
  leased_for s req answer chunk view k path index for led =
      let e = one_so req (waits_for_lease path index chunk) s.volatile.pending for in
      let had = subst (WaitsFor all s.durable.names e.0.req) (is_leasing path index chunk e.0.waits e.3) (k.calls e.0 e.1) in
      (calls.FindForWriting path index had.1.0, subst (λ r. WasCalled all r (calls.FindForWriting path index had.1.0)) e.2 had.1.1, had.2, led)

  answer_for : (s : State) (req : ReqId) (answer : Answer) (over : Bool) (chunk : ℕ) (view : View) (epoch : ℕ) → AreAskedFor all s → IsAnswerFor heard s req answer over → answer ≡ answers.Location chunk view epoch → PlaceFor (move_turn config s (AnswersCall req answer over)).after.durable.names (AnswersCall req answer over) req chunk view
  answer_for s req answer false chunk view epoch k for is = looked_for s req answer chunk view (subst (λ a. IsAnswerFor heard s req a false) is for)
  answer_for s req answer true chunk view epoch k for is = (let so = subst (λ a. IsAnswerFor heard s req a true) is for in leased_for s req answer chunk view k so.0 so.1 so.2 so.3)

  pub added_for : (s : State) (req : ReqId) (path : Path) (new : ℕ) (at : View) → IsMadeWellFor config heard s (Extends req path new at) → AreAskedFor all s → (index : ℕ) × WasCalled all req (calls.Extend path index) × HasChunks s.durable.names path index × StandsAt (move_turn config s (Extends req path new at)).after.durable.names path index new
  added_for s req path new at well k =
      let u = (move_turn config s (Extends req path new at)).after in
      let e = one_so req (waits_at_end path new) s.volatile.pending well.1 in
      let had = subst (WaitsFor all s.durable.names e.0.req) (is_ending path new e.0.waits e.3) (k.calls e.0 e.1) in
      let end : WaitsForEnd all s.durable.names e.0.req path = had.1 in
      let names = names_given s.durable u.durable req (AddChunk path new) (one_fits s.durable u.durable (Edited req (AddChunk path new)) well.0.made.fits) in
      (end.0, subst (λ r. WasCalled all r (calls.Extend path end.0)) e.2 end.1, end.2, added_stands path new s.durable.names u.durable.names end.0 names end.2)

  place_for : (s : State) (move : Move) → IsMadeWellFor config heard s move → AreAskedFor all s → (req : ReqId) (chunk : ℕ) (view : View) (epoch : ℕ) → Locates s move req chunk view epoch → PlaceFor (move_turn config s move).after.durable.names move req chunk view
  place_for s (AnswersCall caller answer over) well k req chunk view epoch is = subst (λ r. PlaceFor (move_turn config s (AnswersCall caller answer over)).after.durable.names (AnswersCall caller answer over) r chunk view) is.1 (answer_for s caller answer over chunk view epoch k well.1 is.0)
  place_for s (Extends caller path new at) well k req chunk view epoch is =
      let one = added_for s caller path new at well k in
      subst (λ r. PlaceFor (move_turn config s (Extends caller path new at)).after.durable.names (Extends caller path new at) r chunk view) is.3
      (subst (λ c. PlaceFor (move_turn config s (Extends caller path new at)).after.durable.names (Extends caller path new at) caller c view) is.0 (calls.Extend path one.0, one.1, one.3, tt))
  place_for s move well k req chunk view epoch is = absurd is

  -- ---- a chain

  told_for : (s : State) (t : Turn) (req : ReqId) (chunk : ℕ) (view : View) (epoch : ℕ) → AreAskedFor all s → IsLocatedWithin config (Usual all config heard hears) s t req chunk view epoch → IsToldFor all config heard s t req chunk view epoch
  told_for s t req chunk view epoch k w =
      let place = place_for w.before.after w.move w.holds.0 (chain_asked all config heard hears s w.before w.first k) req chunk view epoch w.locates in
      record {
        within = record { before = w.before; first = weaker s w.before w.first; move = w.move; holds = w.holds.0; locates = w.locates; next = w.next; rest = weaker (move_turn config w.before.after w.move).after w.next w.rest; last = w.last; records = w.records };
        call = place.0;
        was = place.1;
        here = place.2;
        led = place.3;
        located = located_are_right config heard w.before.after w.move req chunk view epoch w.holds.0.0.made w.locates;
      }
    where
      weaker : (u : State) (v : Turn) → Chain config (Usual all config heard hears) u v → Chain config (IsMadeWellFor config heard) u v
      weaker = mapped config (Usual all config heard hears) (IsMadeWellFor config heard) (λ z move made. made.0)

  was_told : (s : State) (t : Turn) → AreAskedFor all s → (req : ReqId) (chunk : ℕ) (view : View) (epoch : ℕ) → WasLocated config (Usual all config heard hears) s t req chunk view epoch → WasToldFor all config heard s t req chunk view epoch
  was_told s t k req chunk view epoch (inl before) = inl before
  was_told s t k req chunk view epoch (inr w) = inr (told_for s t req chunk view epoch k w)

  -- ---- a turn: a chain of usual moves, or the commit of a rollback, which tells of no chunk

  abbrev Commits : State → Move → Type 0
  Commits u move = IsMadeWellFor config heard u move × (is_commit move ≡ true)

  pub usual_or_commit : (s : State) (t : Turn) → EndsOnce config (IsMadeWellFor config heard) s t → Chain config (Usual all config heard hears) s t ⊎ Chain config Commits s t
  usual_or_commit s t (Within u v chain) = inl (mapped config _ _ (λ z move made. (made.0, within_commit config heard move made.1)) u v chain)
  usual_or_commit s t (ByItself u move said made alone) = by_test (is_commit move) refl
    where
      by_test : (b : Bool) → is_commit move ≡ b → Chain config (Usual all config heard hears) u (record (move_turn config u move) { said = said }) ⊎ Chain config Commits u (record (move_turn config u move) { said = said })
      by_test true is = inr (Moves u move said (made, is))
      by_test false is = inl (Moves u move said (made, is))
  usual_or_commit s t (Closes u move said next made followed chain) =
      inl (Then u (record (move_turn config u move) { said = said }) next (Moves u move said (made, followed_commit config heard move followed)) (mapped config _ _ (λ z m one. (one.0, closing_commit config heard m one.1)) (move_turn config u move).after next chain))

  commit_nowhere : (s : State) (move : Move) (req : ReqId) (chunk : ℕ) (view : View) (epoch : ℕ) → is_commit move ≡ true → Locates s move req chunk view epoch → ⊥
  commit_nowhere s (CommitsRollback caller names) req chunk view epoch is at = at
  commit_nowhere s move req chunk view epoch is at = absurd (false≢true is)

  was_kept : (s : State) (t : Turn) (req : ReqId) (chunk : ℕ) (view : View) (epoch : ℕ) → WasLocated config Commits s t req chunk view epoch → WasToldFor all config heard s t req chunk view epoch
  was_kept s t req chunk view epoch (inl before) = inl before
  was_kept s t req chunk view epoch (inr w) = absurd (commit_nowhere w.before.after w.move req chunk view epoch w.holds.1 w.locates)

  turn_sends : (s : State) (t : Turn) → EndsOnce config (IsMadeWellFor config heard) s t → AreAskedFor all s → AllByRecursion (λ (m : Message). IsToldOnlyIf (WasToldFor all config heard s t) m.body) t.sent
  turn_sends s t turn k = by_chain (usual_or_commit s t turn)
    where
      by_chain : Chain config (Usual all config heard hears) s t ⊎ Chain config Commits s t → AllByRecursion (λ (m : Message). IsToldOnlyIf (WasToldFor all config heard s t) m.body) t.sent
      by_chain (inl chain) =
          all_further (WasLocated config (Usual all config heard hears) s t) (WasToldFor all config heard s t) (was_told s t k) t.sent (chain_sends config heard (Usual all config heard hears) (λ u move made. made.0.0.made) s t chain)
      by_chain (inr chain) =
          all_further (WasLocated config Commits s t) (WasToldFor all config heard s t) (was_kept s t) t.sent (chain_sends config heard Commits (λ u move made. made.0.0.made) s t chain)

  turn_keeps : (s : State) (t : Turn) (req : ReqId) (chunk : ℕ) (view : View) (epoch : ℕ) → EndsOnce config (IsMadeWellFor config heard) s t → AreAskedFor all s → KeepsLocation t.after req chunk view epoch → WasToldFor all config heard s t req chunk view epoch
  turn_keeps s t req chunk view epoch turn k kept = by_chain (usual_or_commit s t turn)
    where
      by_chain : Chain config (Usual all config heard hears) s t ⊎ Chain config Commits s t → WasToldFor all config heard s t req chunk view epoch
      by_chain (inl chain) = was_told s t k req chunk view epoch (chain_keeps config heard (Usual all config heard hears) (λ u move made. made.0.0.made) s t req chunk view epoch chain kept)
      by_chain (inr chain) = was_kept s t req chunk view epoch (chain_keeps config heard Commits (λ u move made. made.0.0.made) s t req chunk view epoch chain kept)

  turn_tells : (s : State) (t : Turn) (many : ℕ) (d : Durable) (req : ReqId) (chunk : ℕ) (view : View) (epoch : ℕ) → EndsOnce config (IsMadeWellFor config heard) s t → AreAskedFor all s → replayed s.durable (take many t.records) ≡ Some d → IsToldIn d.replies req chunk view epoch → WasToldFor all config heard s t req chunk view epoch
  turn_tells s t many d req chunk view epoch turn k fit kept = by_chain (usual_or_commit s t turn)
    where
      by_chain : Chain config (Usual all config heard hears) s t ⊎ Chain config Commits s t → WasToldFor all config heard s t req chunk view epoch
      by_chain (inl chain) = was_told s t k req chunk view epoch (chain_tells config heard (Usual all config heard hears) (λ u move made. made.0.0.made) s t req chunk view epoch many d chain fit kept)
      by_chain (inr chain) = was_kept s t req chunk view epoch (chain_tells config heard Commits (λ u move made. made.0.0.made) s t req chunk view epoch many d chain fit kept)

pub sent_are_for : SentAreFor
sent_are_for all config heard s t turn hears k = turn_sends all config heard hears s t turn k

pub kept_are_for : KeptAreFor
kept_are_for all config heard s t req chunk view epoch turn hears k kept = turn_keeps all config heard hears s t req chunk view epoch turn k kept

pub parts_tell_for : PartsTellFor
parts_tell_for all config heard s t many d req chunk view epoch turn hears k fit kept = turn_tells all config heard hears s t many d req chunk view epoch turn k fit kept
