-- Servers as loops read and write them.
use Rattle.std.proofs.Common.{◌≡◌, ℕ, suc, ◌+◌, ◌<◌, ◌≤◌, ◌++◌, Bool, true, false, cond, eqb, List, [], ◌∷◌, length, get_or, map, drop, Option, Some, None, Ok, Err, IfSome, refl, sym, ap, subst, ◌∙◌, append_assoc, arith}
use Rattle.std.proofs.Math.Seq.{drop-cons}
use Rattle.std.specs.Borrow.{Bor}
use Rattle.gs_parts_image.specs.Work.{pointed}
use Rattle.std.proofs.lemmas.List.{append-nil, length-map}
use Rattle.std.specs.List.{AllByRecursion}
use Rattle.gs_fields.specs.Reading.{◌>>=◌, whole}
use Rattle.gs_fields.specs.Work.{Fails, Unput}
use Rattle.gs_fields.specs.declared.fault.Fault.{Fault}
use Rattle.gs_fields.specs.declared.fault.Fault.TheVariants as faults
use Rattle.gs_fields.proofs.Loops.{cut_at, cut_end}
use Rattle.gs_parts_image.specs.Reading.{servers_in}
use Rattle.gs_server.specs.Servers.{Server}
use Rattle.gs_server_image.specs.Encoding.{server}
use Rattle.gs_server_image.specs.Reading.{server_at}
use Rattle.gs_server_image.specs.Writable.{IsServerTold}

-- ---- all of some bytes

pub is_whole : {A : Type 0} (o : Option (A × List ℕ)) (x : A) (rest : List ℕ) → o ≡ Some (x, rest) → eqb (length rest) 0 ≡ true → whole o ≡ Some x
is_whole o x rest h e = ap whole h ∙ ap (λ (b : Bool). cond b (Some x) None) e

pub is_not_whole : {A : Type 0} (o : Option (A × List ℕ)) (x : A) (rest : List ℕ) → o ≡ Some (x, rest) → eqb (length rest) 0 ≡ false → whole o ≡ None
is_not_whole o x rest h e = ap whole h ∙ ap (λ (b : Bool). cond b (Some x) None) e

pub whole_fails : {A : Type 0} (e : Fault) (o : Option (A × List ℕ)) → Fails e o → Fails e (whole o)
whole_fails faults.Memory o h = tt
whole_fails faults.Form o h = ap whole h

pub found_number : (o : Option ℕ) (s n : ℕ) → IfSome o (λ x. x ≡ n) → o ≡ Some s → s ≡ n
found_number None s n is e = absurd (cc)
found_number (Some x) s n is e = let same : x ≡ s = cc in sym same ∙ is

-- ---- reading

-- the servers before, and those that are read
abbrev pub with_front : List Server → Option (List Server) → Option (List Server)
with_front front read = read >>= λ ss. Some (front ++ ss)

regroup : (front : List Server) (s : Server) (read : Option (List Server)) → with_front front (read >>= λ ss. Some (s ∷ ss)) ≡ with_front (front ++ s ∷ []) read
regroup front s (Some ss) = ap (λ (z : List Server). Some z) (sym (append_assoc front (s ∷ []) ss))
regroup front s None = refl

pub begins : (read : Option (List Server)) → with_front [] read ≡ read
begins (Some ss) = refl
begins None = refl

abbrev pub Parts : Type 0
Parts = List (List ℕ)

pub goes_on : (block chunk n : ℕ) (front : List Server) (left : Parts) (p : List ℕ) (rest : Parts) (s : Server) (total : Option (List Server)) → left ≡ p ∷ rest → whole (server_at n block chunk p) ≡ Some s
    → with_front front (servers_in block chunk n left) ≡ total → with_front (front ++ s ∷ []) (servers_in block chunk (n + 1) rest) ≡ total
goes_on block chunk n front left p rest s total cut h so_far =
    let more = servers_in block chunk (n + 1) rest in
    sym (regroup front s more) ∙ sym (ap (λ (o : Option Server). with_front front (o >>= λ t. more >>= λ ss. Some (t ∷ ss))) h) ∙ sym (ap (λ (z : Parts). with_front front (servers_in block chunk n z)) cut) ∙ so_far

pub ends : (block chunk n : ℕ) (front : List Server) (left : Parts) (p : List ℕ) (rest : Parts) (e : Fault) (total : Option (List Server)) → left ≡ p ∷ rest → Fails e (whole (server_at n block chunk p))
    → with_front front (servers_in block chunk n left) ≡ total → Fails e total
ends block chunk n front left p rest faults.Memory total cut h so_far = tt
ends block chunk n front left p rest faults.Form total cut h so_far =
    let more = servers_in block chunk (n + 1) rest in
    sym so_far ∙ ap (λ (z : Parts). with_front front (servers_in block chunk n z)) cut ∙ ap (λ (o : Option Server). with_front front (o >>= λ t. more >>= λ ss. Some (t ∷ ss))) h

pub is_done : (block chunk n : ℕ) (front : List Server) (left : Parts) (total : Option (List Server)) → left ≡ [] → with_front front (servers_in block chunk n left) ≡ total → total ≡ Some front
is_done block chunk n front left total none so_far =
    sym so_far ∙ ap (λ (z : Parts). with_front front (servers_in block chunk n z)) none ∙ ap (λ (z : List Server). Some z) (append-nil front)

-- the bytes of the next part
pub cut : (parts : List (Bor (List ℕ))) (i : ℕ) (x : Bor (List ℕ)) → i < length parts → pointed (drop i parts) ≡ (get_or parts i x).now ∷ pointed (drop (i + 1) parts)
cut parts i x lt =
    let k : suc i ≡ i + 1 = omega arith in
    ap (λ (z : List (Bor (List ℕ))). pointed z) (drop-cons parts i x lt) ∙ ap (λ (n : ℕ). (get_or parts i x).now ∷ pointed (drop n parts)) k

-- ---- writing

-- what is still to be written: it can be where the whole can, and what stands there goes on to the whole
pub record Left (whole left : List Server) (start out : Parts) : Type 0 where
  pub enough : AllByRecursion IsServerTold left → AllByRecursion IsServerTold whole
  pub needed : AllByRecursion IsServerTold whole → AllByRecursion IsServerTold left
  pub parts : out ++ map server left ≡ start ++ map server whole

pub all_left : (whole : List Server) (start : Parts) → Left whole whole start start
all_left whole start = record { enough = λ h. h; needed = λ h. h; parts = refl }

pub one_less : (whole left : List Server) (s : Server) (rest : List Server) (start out new : Parts) → left ≡ s ∷ rest → IsServerTold s × (new ≡ out ++ server s ∷ []) → Left whole left start out → Left whole rest start new
one_less whole left s rest start out new e put l =
    let m : Left whole (s ∷ rest) start out = subst (λ (z : List Server). Left whole z start out) e l in
    record {
      enough = λ h. m.enough (put.0, h);
      needed = λ h. (m.needed h).1;
      parts = ap (λ (z : Parts). z ++ map server rest) put.1 ∙ append_assoc out (server s ∷ []) (map server rest) ∙ m.parts;
    }

pub not_put : (whole left : List Server) (s : Server) (rest : List Server) (start out : Parts) (e : Fault) → left ≡ s ∷ rest → Unput (IsServerTold s) e → Left whole left start out → Unput (AllByRecursion IsServerTold whole) e
not_put whole left s rest start out faults.Memory e h l = tt
not_put whole left s rest start out faults.Form e h l = λ k. h ((subst (λ (z : List Server). Left whole z start out) e l).needed k).0

pub none_left : (whole left : List Server) (start out : Parts) → left ≡ [] → Left whole left start out → AllByRecursion IsServerTold whole × (out ≡ start ++ map server whole)
none_left whole left start out e l =
    let m : Left whole [] start out = subst (λ (z : List Server). Left whole z start out) e l in
    (m.enough tt, sym (append-nil out) ∙ m.parts)
