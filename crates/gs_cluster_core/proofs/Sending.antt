-- What a node sends, among all that was sent.
use Rattle.std.proofs.Common.{◌≡◌, ◌∙◌, ◌++◌, ◌-◌, ◌==◌, ℕ, zero, suc, Bool, true, false, List, [], ◌∷◌, map, if◌then◌else◌, Option, Some, None, MatchOption, Ok, Err, refl, sym, ap, subst, inl, arith, append-nil, append_assoc, slice_get, slice_set}
use Rattle.std.proofs.lemmas.Bool.Decides.{nat_tests}
use Rattle.std.proofs.lemmas.Option.{none-some}
use Rattle.gs_base.specs.declared.numbers.Moment.{Moment}
use Rattle.gs_base.specs.declared.refusal.Refusal.{Refusal}
use Rattle.gs_msg.specs.Posts.{posted}
use Rattle.gs_msg.specs.declared.event.DiskId.{DiskId}
use Rattle.gs_msg.specs.declared.message.Message.{Message}
use Rattle.gs_msg.specs.declared.node.NodeId.{NodeId}
use Rattle.gs_msg.specs.declared.node.NodeId.TheVariants as ids
use Rattle.gs_msg.specs.declared.outbox.Post.{Post}
use Rattle.gs_nodes.specs.Happenings.{met_by as met_at_node}
use Rattle.gs_nodes.specs.declared.place.MasterPlace.{MasterPlace}
use Rattle.gs_world.specs.Histories.{Tells}
use Rattle.gs_world.specs.Sent.{Appends, IsPosted, Sent, posts_of, with_line}
use Rattle.gs_cluster_history.specs.Histories.{Listed, Upshot, listed, met_by, out_of, said_of}
use Rattle.gs_cluster_core.specs.Stores.{post_of}

-- ---- places of lists

pub chosen : {A : Type 0} (found : Option A) (x : A) (none : Type 0) (some : A → Type 0) → found ≡ Some x → some x → MatchOption found none some
chosen found x none some is so = subst (λ o. MatchOption o none some) (sym is) so

pub get_set_here : {X : Type 0} (xs : List X) (i : ℕ) (x y : X) → slice_get xs i ≡ Some x → slice_get (slice_set xs i y) i ≡ Some y
get_set_here [] i x y h = absurd (none-some x h)
get_set_here (z ∷ xs) zero x y h = refl
get_set_here (z ∷ xs) (suc i) x y h = get_set_here xs i x y h

pub get_set_else : {X : Type 0} (xs : List X) (i j : ℕ) (y : X) → (i ≡ j → ⊥) → slice_get (slice_set xs i y) j ≡ slice_get xs j
get_set_else [] i j y d = refl
get_set_else (z ∷ xs) zero zero y d = absurd (d refl)
get_set_else (z ∷ xs) zero (suc j) y d = refl
get_set_else (z ∷ xs) (suc i) zero y d = refl
get_set_else (z ∷ xs) (suc i) (suc j) y d = get_set_else xs i j y (λ e. d (ap suc e))

-- of lists whose elements are counted from 1
pub counted_here : {X : Type 0} (b : Bool) (xs : List X) (i : ℕ) (x y : X) → (if b then None else slice_get xs i) ≡ Some x → (if b then None else slice_get (slice_set xs i y) i) ≡ Some y
counted_here true xs i x y h = absurd (none-some x h)
counted_here false xs i x y h = get_set_here xs i x y h

pub no_nought : {X : Type 0} (n : ℕ) (o : Option X) (x : X) → (if n == 0 then None else o) ≡ Some x → n ≡ 0 → ⊥
no_nought zero o x h = λ e. none-some x h
no_nought (suc n) o x h = λ e. absurd (omega arith)

pub nonzero : (n : ℕ) → (n ≡ 0 → ⊥) → (n == 0) ≡ false
nonzero n some = grind (arith, nat_tests, some)

pub counted_else : {X : Type 0} (xs : List X) (m n : ℕ) (y : X) → (m ≡ 0 → ⊥) → (m ≡ n → ⊥) → (if n == 0 then None else slice_get (slice_set xs (m - 1) y) (n - 1)) ≡ (if n == 0 then None else slice_get xs (n - 1))
counted_else xs m zero y some differ = refl
counted_else xs zero (suc n) y some differ = absurd (some refl)
counted_else xs (suc m) (suc n) y some differ = ap (λ o. if suc n == 0 then None else o) (get_set_else xs (suc m - 1) (suc n - 1) y (λ e. differ (omega (arith, e))))

-- ---- what one has sent

pub posts_here : (s : Sent) (by : NodeId) (posts after : List Post) (lost : Bool) → posts_of s by ≡ Some posts → posts_of (with_line by (after, lost) s) by ≡ Some after
posts_here s ids.Master posts after lost h = refl
posts_here s (ids.Server id) posts after lost h = get_set_here s.servers id posts after h
posts_here s (ids.Client id) posts after lost h = counted_here (id.0 == 0) s.clients (id.0 - 1) posts after h

pub posts_else : (s : Sent) (by other : NodeId) (posts after : List Post) (lost : Bool) → posts_of s by ≡ Some posts → (by ≡ other → ⊥) → posts_of (with_line by (after, lost) s) other ≡ posts_of s other
posts_else s ids.Master ids.Master posts after lost h differ = absurd (differ refl)
posts_else s ids.Master (ids.Server j) posts after lost h differ = refl
posts_else s ids.Master (ids.Client j) posts after lost h differ = refl
posts_else s (ids.Server i) ids.Master posts after lost h differ = refl
posts_else s (ids.Server i) (ids.Server j) posts after lost h differ = get_set_else s.servers i j after (λ e. differ (ap ids.Server e))
posts_else s (ids.Server i) (ids.Client j) posts after lost h differ = refl
posts_else s (ids.Client i) ids.Master posts after lost h differ = refl
posts_else s (ids.Client i) (ids.Server j) posts after lost h differ = refl
posts_else s (ids.Client i) (ids.Client j) posts after lost h differ =
    counted_else s.clients i.0 j.0 after (no_nought i.0 (slice_get s.clients (i.0 - 1)) posts h) (λ e. differ (ap (λ (n : ℕ). ids.Client (record { 0 = n })) e))

lost_as_told : (s : Sent) (by : NodeId) (after : List Post) (lost : Bool) → (with_line by (after, lost) s).has_lost ≡ lost
lost_as_told s ids.Master after lost = refl
lost_as_told s (ids.Server id) after lost = refl
lost_as_told s (ids.Client id) after lost = refl

appends_all : (moment : Moment) (messages : List Message) (posts : List Post) (lost : Bool) → Appends moment messages (posts, lost) (posts ++ map (posted moment) messages, lost)
appends_all moment [] posts lost = ap (λ (ps : List Post). (ps, lost)) (append-nil posts)
appends_all moment (m ∷ ms) posts lost = (
  (posts ++ posted moment m ∷ [], lost),
  inl refl,
  subst (λ (ps : List Post). Appends moment ms (posts ++ posted moment m ∷ [], lost) (ps, lost)) (append_assoc posts (posted moment m ∷ []) (map (posted moment) ms)) (appends_all moment ms (posts ++ posted moment m ∷ []) lost),
)

pub is_posted : (moment : Moment) (by : NodeId) (messages : List Message) (s : Sent) (posts : List Post) → posts_of s by ≡ Some posts → IsPosted moment by messages s (with_line by (posts ++ map (posted moment) messages, s.has_lost) s)
is_posted moment by messages s posts h = chosen (posts_of s by) posts _ _ h ((posts ++ map (posted moment) messages, s.has_lost), appends_all moment messages posts s.has_lost, refl)

pub posts_added : (xs : List Listed) (clock : ℕ) (moment : Moment) (out : List Message) → map post_of (xs ++ map (listed clock moment) out) ≡ map post_of xs ++ map (posted moment) out
posts_added [] clock moment [] = refl
posts_added [] clock moment (m ∷ out) = ap (λ (ps : List Post). posted moment m ∷ ps) (posts_added [] clock moment out)
posts_added (x ∷ xs) clock moment out = ap (λ (ps : List Post). post_of x ∷ ps) (posts_added xs clock moment out)

met : (said : Option Refusal) → met_by said ≡ met_at_node said
met None = refl
met (Some e) = refl

module _ {D : Type 0} (seen : D → List ℕ) (failures : D → ℕ) (armed : DiskId → ℕ → MasterPlace D → MasterPlace D) where
  -- what it sends stands behind what it has sent, and the others have sent what they had
  pub record Sends (moment : Moment) (by : NodeId) (outcome : Upshot) (posts : List Post) (old new : Sent) : Type 0 where
    pub tells : Tells seen failures armed moment by outcome old (said_of outcome) new
    pub here : posts_of new by ≡ Some (posts ++ map (posted moment) (out_of outcome))
    pub others : (other : NodeId) → (by ≡ other → ⊥) → posts_of new other ≡ posts_of old other
    pub lost : new.has_lost ≡ old.has_lost

  pub sends : (moment : Moment) (by : NodeId) (outcome : Upshot) (posts : List Post) (s : Sent) → posts_of s by ≡ Some posts → (new : Sent) × Sends moment by outcome posts s new
  sends moment by (Ok (messages, said)) posts s h =
      let after = posts ++ map (posted moment) messages in (
        with_line by (after, s.has_lost) s,
        record {
          tells = (is_posted moment by messages s posts h, met said);
          here = posts_here s by posts after s.has_lost h;
          others = λ other differ. posts_else s by other posts after s.has_lost h differ;
          lost = lost_as_told s by after s.has_lost;
        },
      )
  sends moment by (Err e) posts s h = (s, record { tells = (refl, refl); here = h ∙ ap Some (sym (append-nil posts)); others = λ other differ. refl; lost = refl })
