-- An answer is heard, or the source of a copy told: the same is asked, under the same stamp.
use Rattle.std.proofs.Common.{◌≡◌, ℕ, inl, inr, Bool, true, false, not, cond, ◌&&◌, ◌||◌, Option, Some, refl, sym, ap, subst, ◌∙◌}
use Rattle.std.specs.Prelude.{◌==◌, is_some, if◌then◌else◌}
use Rattle.std.specs.Cmp.{nat_cmp_total, tied_itself}
use Rattle.std.specs.FinMap as fin
use Rattle.std.specs.Ordering.{is_eq}
use Rattle.gs_base.specs.Members.{is_member}
use Rattle.gs_base.specs.declared.config.Config.{Config}
use Rattle.gs_master_spec.specs.Chunks.{heard_no, heard_yes, is_any_in, is_target, target_of, with_answers}
use Rattle.gs_view.specs.Choice.{is_count}
use Rattle.gs_view.specs.Spoken.{with_no, with_yes}
use Rattle.gs_master_spec.specs.State.{State}
use Rattle.gs_master_spec.specs.Volatile.{changed}
use Rattle.gs_master_spec.specs.declared.asking.Asking.{Asking}
use Rattle.gs_master_spec.specs.declared.change.Change.TheVariants as changes
use Rattle.gs_laws_chunk.specs.machine.Machine.{Entry, ChunkWorld}
use Rattle.gs_master_spec.specs.Durable.{prepared_view}
use Rattle.gs_master_spec.specs.Hearing.{ask_plan, is_with_sealed, send_plan}
use Rattle.gs_laws_moves.specs.moves.Asked.{WasHeard}
use Rattle.gs_laws_moves.specs.moves.Guards.{ComesOf, Heard, IsMade}
use Rattle.gs_laws_moves.specs.moves.Moves.{Hears, Move, Sends, move_turn}
use Rattle.gs_laws_parts.proofs.lemmas.master.Moving.{unrecorded, unseen}
use Rattle.gs_laws_parts.proofs.lemmas.master.Stamps.{same_number}
use Rattle.gs_laws_parts.specs.master.Showing.{ShowsEntry}
use Rattle.gs_laws_parts.specs.master.Single.{FollowsAs, IsUnmoved}
use Rattle.gs_laws_parts.specs.master.Telling.{Says, Shows}

-- the same servers are asked under the same stamp
pub record IsSameAsking (a b : Asking) : Type 0 where
  pub stamp : b.stamp ≡ a.stamp
  pub purpose : b.purpose ≡ a.purpose
  pub asked : b.asked ≡ a.asked

pub asked_again : (chunk : ℕ) (s : State) (e : Entry) (a b : Asking) → fin.get s.volatile.moving chunk ≡ Some a → IsSameAsking a b → ShowsEntry chunk s e → ShowsEntry chunk (record s { volatile = changed s.volatile (changes.Ask chunk b) }) e
asked_again chunk s e a b has same k = record {
  durable = k.durable;
  memory = record {
    known = k.memory.known;
    asked = λ j. k.memory.asked j ∙ ap (is_any_in j) has ∙ sym (same_in j) ∙ sym (ap (is_any_in j) got);
    asking = λ c is. (let old = k.memory.asking a has in (ap (λ (x : Asking). x.stamp) (sym (asking_is (sym got ∙ is))) ∙ same.stamp ∙ old.0, old.1, old.2));
    sought = λ entry none. ap is_some got;
  };
}
  where
    asking_is : {x y : Asking} → ◌≡◌ {A = Option Asking} (Some x) (Some y) → x ≡ y
    asking_is h = cc

    got : fin.get (fin.insert s.volatile.moving chunk b) chunk ≡ Some b
    got = fin.get-insert nat_cmp_total s.volatile.moving chunk b chunk ∙ ap (λ o. cond (is_eq o) (Some b) (fin.get s.volatile.moving chunk)) (tied_itself nat_cmp_total chunk)

    same_in : (j : ℕ) → is_any_in j (Some b) ≡ is_any_in j (Some a)
    same_in j = ap (λ xs. is_member xs j || is_target b j) same.asked ∙ ap (λ p. is_member a.asked j || is_count j (target_of p)) same.purpose

pub yes_same : (a : Asking) (server count : ℕ) → IsSameAsking a (heard_yes a server count)
yes_same a server count = by_member (is_member a.asked server)
  where
    by_member : (t : Bool) → IsSameAsking a (if t then with_answers a (with_yes a.answers server count) else a)
    by_member true = record { stamp = refl; purpose = refl; asked = refl }
    by_member false = record { stamp = refl; purpose = refl; asked = refl }

pub no_same : (a : Asking) (server : ℕ) → IsSameAsking a (heard_no a server)
no_same a server = by_member (is_member a.asked server)
  where
    by_member : (t : Bool) → IsSameAsking a (if t then with_answers a (with_no a.answers server) else a)
    by_member true = record { stamp = refl; purpose = refl; asked = refl }
    by_member false = record { stamp = refl; purpose = refl; asked = refl }

module _ (born chunk : ℕ) (whole : ℕ → Bool) (config : Config) (heard : Heard) (s : State) (w : ChunkWorld) (k : Shows chunk s w) (was : WasHeard (Says chunk w) heard) where
  abbrev Goes : Move → Type 0
  Goes move = FollowsAs born chunk whole w (move_turn config s move).after (move_turn config s move).sent (IsUnmoved w)

  comes_same : (old new : Asking) → ComesOf heard chunk old new → IsSameAsking old new
  comes_same old new (inl an) = subst (IsSameAsking old) (sym an.4) (yes_same old an.0 an.1)
  comes_same old new (inr no_answer) = subst (IsSameAsking old) (sym no_answer.2) (no_same old no_answer.0)

  hears_here : (new : Asking) → IsMade config heard s (Hears chunk new) → Goes (Hears chunk new)
  hears_here new made = unseen born chunk whole config heard s w k was (Hears chunk new) made refl (asked_again chunk s w.entry made.may.old new made.may.has (comes_same made.may.old new made.may.comes) k.entry)

  pub hears_follows : (q : ℕ) (new : Asking) → IsMade config heard s (Hears q new) → Goes (Hears q new)
  hears_follows q new made = by_key (q == chunk) refl
    where
      by_key : (b : Bool) → (q == chunk) ≡ b → Goes (Hears q new)
      by_key true same = subst (λ h. IsMade config heard s (Hears h new) → Goes (Hears h new)) (sym (same_number q chunk same)) (hears_here new) made
      by_key false other = unrecorded born chunk whole config heard s w k was (Hears q new) (ask_plan q new) refl refl made refl (ap (λ b. not b && true) other)

  sends_here : (asking : Asking) (source target : ℕ) → IsMade config heard s (Sends chunk asking source target) → Goes (Sends chunk asking source target)
  sends_here asking source target made =
      unseen born chunk whole config heard s w k was (Sends chunk asking source target) made refl
      (asked_again chunk s w.entry asking (record asking { source = Some source }) made.may.has (record { stamp = refl; purpose = refl; asked = refl }) k.entry)

  pub sends_follows : (q : ℕ) (asking : Asking) (source target : ℕ) → IsMade config heard s (Sends q asking source target) → Goes (Sends q asking source target)
  sends_follows q asking source target made = by_key (q == chunk) refl
    where
      by_key : (b : Bool) → (q == chunk) ≡ b → Goes (Sends q asking source target)
      by_key true same = subst (λ h. IsMade config heard s (Sends h asking source target) → Goes (Sends h asking source target)) (sym (same_number q chunk same)) (sends_here asking source target) made
      by_key false other =
          unrecorded born chunk whole config heard s w k was (Sends q asking source target) (send_plan q asking source target (is_with_sealed s.durable.phase (prepared_view s.durable q) source)) refl refl made refl (ap (λ b. not b && true) other)
