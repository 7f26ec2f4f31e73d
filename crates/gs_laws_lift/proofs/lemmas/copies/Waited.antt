-- Who waits for a copy behind a turn has waited for it, or the copy is new; and a copy that has come to its place stays there while a call waits for it.
use Rattle.std.proofs.Common.{◌≡◌, ◌∙◌, ◌⊎◌, ◌&&◌, inl, inr, ℕ, Bool, true, false, [], refl, sym, ap, subst}
use Rattle.std.specs.Prelude.{Option, Some, None}
use Rattle.std.proofs.lemmas.Bool.{false≢true}
use Rattle.gs_base.specs.declared.config.Config.{Config}
use Rattle.gs_path.specs.Path.{Path}
use Rattle.gs_tree.specs.Edits.{same_path}
use Rattle.gs_edit.proofs.Tables.{same_path-is}
use Rattle.gs_laws_parts.proofs.lemmas.master.Calm.{each_closing, each_made}
use Rattle.gs_laws_plain.specs.commands.Places.{Place}
use Rattle.gs_master_record.specs.declared.checkpoint.Phase.{Phase}
use Rattle.gs_master_spec.specs.Applied.{is_visible}
use Rattle.gs_master_spec.specs.Durable.{is_given, is_ordinary, is_rolling}
use Rattle.gs_master_spec.specs.State.{State, Turn}
use Rattle.gs_master_spec.specs.declared.pending.Pending.{Pending}
use Rattle.gs_master_spec.specs.declared.pending.Waiting.{Waiting}
use Rattle.gs_master_spec.specs.declared.pending.Waiting.TheVariants as waits
use Rattle.gs_laws_moves.proofs.lemmas.moves.Epochs.{within_stays}
use Rattle.gs_laws_moves.proofs.lemmas.moves.Fitting.{mapped}
use Rattle.gs_laws_moves.proofs.lemmas.moves.Free.{cow_here}
use Rattle.gs_laws_moves.proofs.lemmas.moves.Phases.{commits_by, same_commits_none}
use Rattle.gs_laws_moves.specs.moves.Epochs.{ByItself, Closes, EndsOnce, Within, closes, is_alone, is_followed, rolls_back}
use Rattle.gs_laws_moves.specs.moves.Guards.{Heard}
use Rattle.gs_laws_moves.specs.moves.Laws.{IsMadeWell}
use Rattle.gs_laws_moves.specs.moves.Moved.{is_commit}
use Rattle.gs_laws_moves.specs.moves.Moves.{Chain, Move, Moves, Rests, Then, Replaces, Scans, BeginsRollback, move_turn}
use Rattle.gs_laws_lift.proofs.lemmas.copies.Held.{all_at, chain_held, closing_commit, each_in, elsewhere, followed_commit, is_replacing, its_call, names_are, none_waits, slots, within_commit}
use Rattle.gs_laws_lift.proofs.lemmas.copies.Told.{AndGiven, chain_given, chain_new}
use Rattle.gs_laws_lift.specs.copies.Held.{AreHeld, HoldsPlace, IsIn, place_path, slot}
use Rattle.gs_laws_lift.specs.copies.Told.{AllNew, MakeSo, OfNew}

-- a call waits so
abbrev pub WaitsIn : State → Waiting → Type 0
WaitsIn s waiting = (p : Pending) × IsIn p s.volatile.pending × (p.waits ≡ waiting)

-- for a copy of the chunk at a place
abbrev pub for_copy : Place → ℕ → Waiting
for_copy place new = waits.Copy place.path place.index place.chunk new

abbrev pub there : State → Place → Option ℕ
there s place = slot s.durable.names place.path place.index

-- one has waited for it, or its handle isn't given yet
abbrev pub Waited : State → Option Place → ℕ → Type 0
Waited s None new = Unit {0}
Waited s (Some place) new = (is_given s.durable.next_handle new ≡ false) ⊎ WaitsIn s (for_copy place new)

abbrev pub AndWaited : (Option Place → ℕ → Type 0) → State → Option Place → ℕ → Type 0
AndWaited N s place new = N place new × Waited s place new

pub all_waited : (N : Option Place → ℕ → Type 0) (s : State) → AllNew N s → AllNew (AndWaited N s) s
all_waited N s k = record { waiting = each_in (λ p. OfNew (AndGiven s N) p.waits) (λ p. OfNew (AndGiven s (AndWaited N s)) p.waits) s.volatile.pending (λ p here n. by_waits p here p.waits refl n) k.waiting; fresh = λ place new out. (k.fresh place new out, by_place place new out) }
  where
    by_place : (place : Option Place) (new : ℕ) → is_given s.durable.next_handle new ≡ false → Waited s place new
    by_place None new out = tt
    by_place (Some place) new out = inl out

    by_waits : (p : Pending) → IsIn p s.volatile.pending → (w : Waiting) → p.waits ≡ w → OfNew (AndGiven s N) w → OfNew (AndGiven s (AndWaited N s)) w
    by_waits p here (waits.Extend path new) is n = (n.0, (n.1, tt))
    by_waits p here (waits.Copy path index old new) is n = (n.0, (n.1, inr (p, here, is)))
    by_waits p here (waits.Lease path index chunk) is n = tt
    by_waits p here (waits.Quiet path index chunk) is n = tt
    by_waits p here (waits.Snapshot from to) is n = tt
    by_waits p here (waits.Replicate chunk target) is n = tt

module _ (config : Config) (heard : Heard) (N : Option Place → ℕ → Type 0) (place : Place) (new : ℕ) where
  abbrev Such : State → Turn → Option Place → ℕ → Type 0
  Such s t other chunk = (is_given t.after.durable.next_handle chunk ≡ true) × (AndWaited N s other chunk × MakeSo other chunk t.sent)

  pub chain_waited : (s : State) (t : Turn) → Chain config (IsMadeWell config heard) s t → AllNew N s → is_given s.durable.next_handle new ≡ true → WaitsIn t.after (for_copy place new) → WaitsIn s (for_copy place new)
  chain_waited s t chain k given (p, here, is) = elim (subst (OfNew (Such s t)) is (all_at (λ q. OfNew (Such s t) q.waits) t.after.volatile.pending p (chain_new config heard (AndWaited N s) s t chain (all_waited N s k)).waiting here)).1.0.1 [
    | inl out ↦ absurd (false≢true (sym out ∙ given))
    | inr waited ↦ waited
  ]

-- ---- a copy that has come to its place

module _ (config : Config) (heard : Heard) (place : Place) (new : ℕ) where
  come_move : (s : State) (move : Move) → IsMadeWell config heard s move → is_commit move ≡ false → AreHeld s → WaitsIn s (for_copy place new) → there s place ≡ Some new → there (move_turn config s move).after place ≡ Some new
  come_move s move made other k (p, here, is) come = by_test (is_replacing move) refl
    where
      visible : is_visible place.path ≡ true
      visible = (subst (HoldsPlace s) is (all_at (λ q. HoldsPlace s q.waits) s.volatile.pending p k.places here)).0

      by_copies : (path : Path) (index old made : ℕ) → waits.Copy path index old made ≡ for_copy place new → (u : State) → slot u.durable.names path index ≡ Some made → there u place ≡ Some new
      by_copies path index old made h u at = (let one : path ≡ place.path = cc in let two : index ≡ place.index = cc in let three : made ≡ new = cc in subst (λ z. slot u.durable.names z place.index ≡ Some new) one (subst (λ n. slot u.durable.names path n ≡ Some new) two (at ∙ ap Some three)))

      replaces : (path : Path) (index old made : ℕ) → IsMadeWell config heard s (Replaces path index old made) → there (move_turn config s (Replaces path index old made)).after place ≡ Some new
      replaces path index old made one = by_path (same_path path place.path) refl
        where
          u : State
          u = (move_turn config s (Replaces path index old made)).after

          by_path : (b : Bool) → same_path path place.path ≡ b → there u place ≡ Some new
          by_path true same =
              by_copies path index old made (sym (its_call config heard s k path index old made one p here place.path (ap place_path is) (same_path-is path place.path same)) ∙ is) u
              (cow_here path index old made s.durable.names u.durable.names (names_are config heard s k path index old made one p here))
          by_path false apart = elsewhere config heard s k path index old made one p here place.path place.index new apart come

      by_move : (m : Move) → IsMadeWell config heard s m → is_replacing m ≡ true → there (move_turn config s m).after place ≡ Some new
      by_move (Replaces path index old made) one replacing = replaces path index old made one
      by_move m one replacing = absurd (false≢true replacing)

      by_test : (b : Bool) → is_replacing move ≡ b → there (move_turn config s move).after place ≡ Some new
      by_test true replacing = by_move move made replacing
      by_test false leaves = slots config heard s k move made other leaves p here place.path place.index new (ap place_path is) visible come

  abbrev GoesOn : State → Move → Type 0
  GoesOn u move = IsMadeWell config heard u move × (is_commit move ≡ false)

  well : (s : State) (t : Turn) → Chain config GoesOn s t → Chain config (IsMadeWell config heard) s t
  well = mapped config GoesOn (IsMadeWell config heard) (λ u move both. both.0)

  chain_come : (N : Option Place → ℕ → Type 0) (s : State) (t : Turn) → Chain config GoesOn s t → AreHeld s → AllNew N s → is_given s.durable.next_handle new ≡ true → WaitsIn t.after (for_copy place new) → there s place ≡ Some new → there t.after place ≡ Some new
  chain_come N s t (Rests u said) held k given waits_so come = come
  chain_come N s t (Moves u move said both) held k given waits_so come =
      come_move u move both.0 both.1 held (chain_waited config heard N place new u (record (move_turn config u move) { said = said }) (Moves u move said both.0) k given waits_so) come
  chain_come N s t (Then u first next a b) held k given waits_so come =
      let mid = chain_new config heard N u first (well u first a) k in
      let then = chain_given config heard new u first (well u first a) given in
      let between = chain_waited config heard (λ other chunk. N other chunk × MakeSo other chunk first.sent) place new first.after next (well first.after next b) mid then waits_so in
      chain_come (λ other chunk. N other chunk × MakeSo other chunk first.sent) first.after next b (chain_held config heard u first a held) mid then waits_so (chain_come N u first a held k given between come)

  -- ---- a turn, where none waits while a rollback goes on

  -- It waited before the turn, and the copy stays where it has come; and where one waits behind it no rollback was committed.
  pub record HasWaited (s : State) (t : Turn) : Type 0 where
    pub waited : WaitsIn s (for_copy place new)
    pub stays : there s place ≡ Some new → there t.after place ≡ Some new

  abbrev IsCalm : State → Type 0
  IsCalm s = is_rolling s.durable.phase ≡ true → s.volatile.pending ≡ []

  nobody_waits : (s : State) → s.volatile.pending ≡ [] → WaitsIn s (for_copy place new) → ⊥
  nobody_waits s none (p, here, is) = subst (IsIn p) none here

  within_goes : (u : State) (move : Move) → IsMadeWell config heard u move × (is_alone move ≡ false) → GoesOn u move
  within_goes u move both = (both.0, within_commit config heard move both.1)

  closing_goes : (u : State) (move : Move) → IsMadeWell config heard u move × (closes move ≡ true) → GoesOn u move
  closing_goes u move both = (both.0, closing_commit config heard move both.1)

  over_chain : (N : Option Place → ℕ → Type 0) (s : State) (t : Turn) → Chain config GoesOn s t → AreHeld s → AllNew N s → is_given s.durable.next_handle new ≡ true → WaitsIn t.after (for_copy place new) → HasWaited s t
  over_chain N s t chain held k given waits_so = record { waited = chain_waited config heard N place new s t (well s t chain) k given waits_so; stays = chain_come N s t chain held k given waits_so }

  pub turn_waited : (N : Option Place → ℕ → Type 0) (s : State) (t : Turn) → EndsOnce config (IsMadeWell config heard) s t → IsCalm s → AreHeld s → AllNew N s → is_given s.durable.next_handle new ≡ true → WaitsIn t.after (for_copy place new) → HasWaited s t
  turn_waited N s t (Within u v chain) calm held k given waits_so = over_chain N u v (mapped config (λ z m. IsMadeWell config heard z m × (is_alone m ≡ false)) GoesOn within_goes u v chain) held k given waits_so
  turn_waited N s t (ByItself u move said made alone) calm held k given waits_so = by_test (is_commit move) refl
    where
      by_test : (b : Bool) → is_commit move ≡ b → HasWaited u (record (move_turn config u move) { said = said })
      by_test true is = absurd (nobody_waits (move_turn config u move).after (none_waits config heard u move made is calm) waits_so)
      by_test false is = over_chain N u (record (move_turn config u move) { said = said }) (Moves u move said (made, is)) held k given waits_so
  turn_waited N s t (Closes u move said next made followed chain) calm held k given waits_so =
      over_chain N u t
      (Then u (record (move_turn config u move) { said = said }) next (Moves u move said (made, followed_commit config heard move followed)) (mapped config (λ z m. IsMadeWell config heard z m × (closes m ≡ true)) GoesOn closing_goes (move_turn config u move).after next chain)) held k given waits_so

  followed_alone : (move : Move) → is_followed move ≡ true → is_alone move ≡ true
  followed_alone (Scans removed forgotten) is = refl
  followed_alone BeginsRollback is = refl
  followed_alone move is = absurd (false≢true is)

  pub turn_goes_on : (s : State) (t : Turn) → EndsOnce config (IsMadeWell config heard) s t → IsCalm s → WaitsIn t.after (for_copy place new) → rolls_back s.durable t.after.durable ≡ false
  turn_goes_on s t (Within u v chain) calm waits_so = same_commits_none u.durable v.after.durable (within_stays config heard u v (each_made config heard u v chain)).1
  turn_goes_on s t (ByItself u move said made alone) calm waits_so = by_test (is_commit move) refl
    where
      by_test : (b : Bool) → is_commit move ≡ b → rolls_back u.durable (move_turn config u move).after.durable ≡ false
      by_test true is = absurd (nobody_waits (move_turn config u move).after (none_waits config heard u move made is calm) waits_so)
      by_test false is = commits_by config heard u move made.made alone ∙ is
  turn_goes_on s t (Closes u move said next made followed chain) calm waits_so =
      let same = within_stays config heard (move_turn config u move).after next (each_made config heard (move_turn config u move).after next (each_closing config heard (move_turn config u move).after next chain)) in
      ap (λ (p : Phase). is_rolling u.durable.phase && is_ordinary p) same.1 ∙ commits_by config heard u move made.made (followed_alone move followed) ∙ followed_commit config heard move followed
