-- What a pass has that has got those of ways.
use Rattle.std.proofs.Common.{◌≡◌, suc, ◌+◌, ⊎_elim, List, [], ◌∷◌, length, refl, subst, arith}
use Rattle.gs_msg.specs.declared.sent.Sent.{Sent}
use Rattle.gs_cluster_history.specs.Histories.{Among}
use Rattle.gs_cluster_channel.specs.Carried.{joined}
use Rattle.gs_cluster_channel.specs.declared.hand.Hand.{Hand}
use Rattle.gs_cluster_channel.specs.Settled.{PutBy, Putting}
use Rattle.gs_cluster_channel.proofs.Moves.{in_either, in_left, in_none}

-- Of these ways those that are left aren't in it yet. What it has put they have put, and all that was taken at first is taken.
pub record Pooled (all left : List Putting) (first v : Hand) : Type 0 where
  pub parts : v.parts + length left ≡ 1024
  pub put : (x : Sent) → Among v.put x → PutBy all x
  pub taken : (x : Sent) → Among first.taken x → Among v.taken x
  pub rest : (w : Putting) → Among left w → Among all w

pub none_pooled : (all : List Putting) (v : Hand) → v.parts + length all ≡ 1024 → v.put ≡ [] → Pooled all all v v
none_pooled all v parts quiet = record { parts = parts; put = λ x i. absurd (in_none x (subst (λ l. Among l x) quiet i)); taken = λ x i. i; rest = λ w a. a }

pub one_pooled : (all rest : List Putting) (w : Putting) (first v u : Hand) → u.parts ≡ 1 → u.put ≡ w.put → Pooled all (w ∷ rest) first v → Pooled all rest first (joined v u)
one_pooled all rest w first v u one same p = record {
  parts = (let h = p.parts in omega arith);
  put = λ x i. ⊎_elim (λ (a : Among v.put x). p.put x a) (λ (a : Among u.put x). (w, p.rest w (0, refl), subst (λ l. Among l x) same a)) (in_either v.put u.put x i);
  taken = λ x i. in_left v.taken u.taken x (p.taken x i);
  rest = λ z a. p.rest z (suc a.0, a.1);
}
