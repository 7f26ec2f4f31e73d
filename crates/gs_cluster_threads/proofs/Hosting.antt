-- What comes back of threads.
use Rattle.std.proofs.Common.{◌≡◌, ℕ, zero, suc, ◌+◌, ◌≤◌, List, [], ◌∷◌, ◌++◌, Result, Ok, Err, length, sym, subst, arith}
use Rattle.std.proofs.lemmas.Option.{none-some}
use Rattle.gs_base.specs.declared.refusal.Refusal.{Refusal}
use Rattle.gs_base.specs.declared.refusal.Refusal.TheVariants as refusals
use Rattle.gs_msg.specs.declared.message.Message.{Message}
use Rattle.gs_msg.specs.declared.node.NodeId.{NodeId}
use Rattle.gs_cluster_history.specs.declared.took.Took.{Took}
use Rattle.gs_cluster_history.specs.Histories.{Among, Kept, Upshot}
use Rattle.gs_cluster_threads.specs.Gathered.{EndsAs, Gathers, IsWhole}
use Rattle.gs_cluster_threads.specs.declared.gathering.Gathered.{Gathered}

-- The callers' nodes are among these, and there is room for those of the threads that are left.
pub record Ending {C : Type 0} (callers : List (Kept C)) (threads : ℕ) (nodes : List (Kept C)) (many left place : ℕ) : Type 0 where
  pub among : (k : Kept C) → Among callers k → Among nodes k
  pub all : many + left ≡ length callers + threads
  pub room : many + left ≤ place

among_left : {X : Type 0} (xs ys : List X) (x : X) → Among xs x → Among (xs ++ ys) x
among_left [] ys x (k, h) = absurd (none-some x h)
among_left (z ∷ xs) ys x (zero, h) = (0, h)
among_left (z ∷ xs) ys x (suc k, h) = let r = among_left xs ys x (k, h) in (suc r.0, r.1)

pub none_ended : {C : Type 0} (callers : List (Kept C)) (threads : ℕ) (nodes : List (Kept C)) (many left place : ℕ) → nodes ≡ callers → many ≡ length callers → left ≡ threads → many + left ≤ place
    → Ending callers threads nodes many left place
none_ended {C} callers threads nodes many left place same long all room = record {
  among = λ k a. subst (λ (l : List (Kept C)). Among l k) (sym same) a;
  all = omega arith;
  room = room;
}

pub one_ended : {C : Type 0} (callers : List (Kept C)) (threads : ℕ) (nodes new : List (Kept C)) (k : Kept C) (many more left less place room : ℕ) → Ending callers threads nodes many left place
    → new ≡ nodes ++ k ∷ [] → more ≡ many + 1 → less + 1 ≡ left → room ≡ place → Ending callers threads new more less room
one_ended {C} callers threads nodes new k many more left less place room e put longer fewer same = record {
  among = λ x a. subst (λ (l : List (Kept C)). Among l x) (sym put) (among_left nodes (k ∷ []) x (e.among x a));
  all = (let h = e.all in omega arith);
  room = (let h = e.room in omega arith);
}

-- What isn't well isn't for the same reason elsewhere, where there are as many as there have to be only if there are here.
pub refused_alike : {A B : Type 0} (Well : A → Type 0) (Fine : B → Type 0) (many all few whole : ℕ) (refusal : Refusal) → EndsAs Well many all (Err refusal) → (few ≡ whole → many ≡ all) → EndsAs Fine few whole (Err refusal)
refused_alike Well Fine many all few whole refusals.Memory said same = tt
refused_alike Well Fine many all few whole refusals.Stray said same = λ e. said (same e)
refused_alike Well Fine many all few whole refusal said same = absurd said

-- with none left, what all nodes come to is what the threads and the callers do
pub ends_so : {C : Type 0} (Does : Took → C → Upshot → C → Type 0) (Starts : NodeId → C → List Message → Type 0) (all : List NodeId) (callers nodes : List (Kept C)) (threads asked many left place : ℕ)
    → Ending callers threads nodes many left place → left ≡ 0 → asked ≡ length callers → (result : Result (Gathered C) Refusal) → Gathers Does Starts all many nodes result → Gathers Does Starts all (threads + asked) callers result
ends_so Does Starts all callers nodes threads asked many left place e none long (Ok gathered) (same, w) = (
  (let h = e.all in let c : ℕ = length callers in omega arith),
  record { nodes = w.nodes; among = λ k a. w.among k (e.among k a); numbers = w.numbers; kept = w.kept; match = w.match; are = w.are; told = w.told },
)
ends_so {C} Does Starts all callers nodes threads asked many left place e none long (Err refusal) said =
    refused_alike (λ (g : Gathered C). IsWhole Does Starts all nodes g.members.items g.notes.items) (λ (g : Gathered C). IsWhole Does Starts all callers g.members.items g.notes.items) many (length all) (threads + asked) (length all) refusal said
    (λ same. let h = e.all in let c : ℕ = length callers in omega arith)
