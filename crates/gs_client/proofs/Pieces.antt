-- What is read of chunks, one after another.
use Rattle.std.proofs.Common.{◌≡◌, ◌≤◌, ◌<◌, ◌+◌, ◌-◌, ◌*◌, ◌/◌, ◌++◌, ℕ, suc, List, Bool, true, false, cond, nat_lt, Option, Some, Result, Ok, Err, inl, inr, refl, sym, subst, arith}
use Rattle.std.proofs.Math.Nat.{mul-le-mul_left, mul-div-le}
use Rattle.gs_base.specs.declared.refusal.Refusal.{Refusal}
use Rattle.gs_base.specs.declared.refusal.Refusal.TheVariants as refusals
use Rattle.gs_path.specs.Path.{Path}
use Rattle.gs_client_dialogue.specs.Dialogues.{Grow, both, FollowsDialogue, Leads}
use Rattle.gs_client_dialogue.proofs.Talks.{follows_both, follows_none, leads_next, leads_stop}
use Rattle.gs_msg.specs.declared.chunk.Asked.TheVariants as asks
use Rattle.gs_msg.specs.declared.event.Request.{Request}
use Rattle.gs_client.specs.declared.link.Reply.{Reply}
use Rattle.gs_client_part.specs.declared.located.Located.{Located}
use Rattle.gs_client.specs.Trees.{Call}
use Rattle.gs_client_part.specs.Reading.{piece_end, span}
use Rattle.gs_client.specs.Reading.{stored_call, piece_bytes, piece_call, pieces_call}

below_end : (size end : ℕ) → 1 ≤ size → end ≤ 4096 * size → (end - 1) / size < 4096
below_end size end some few =
    let h : 4096 ≤ (end - 1) / size → size * 4096 ≤ size * ((end - 1) / size) = λ p. mul-le-mul_left size p in
    grind (arith, h, mul-div-le (end - 1) size)

spanned : (lt : Bool) (first last i : ℕ) → last < 4096 → i < cond lt (last + 1 - first) 0 → first + i < 4096
spanned true first last i few below = omega arith
spanned false first last i few below = absurd (omega arith)

-- a chunk that lies in what is read
pub in_bounds : (size offset end i : ℕ) → 1 ≤ size → end ≤ 4096 * size → i < span size offset end → offset / size + i < 4096
in_bounds size offset end i some few below = spanned (nat_lt offset end) (offset / size) ((end - 1) / size) i (below_end size end some few) below

-- a part under the name of its length
pub stored_named : {S : Type 0} (carries : S → Request → Reply → S → Type 0) (path : Path) (known : Option Located) (index start many many' : ℕ) (old new : S) (result : Result (List ℕ × Located) Refusal)
    → many ≡ many' → FollowsDialogue carries (stored_call path known index (asks.Bytes start many)) old result new
    → FollowsDialogue carries (stored_call path known index (asks.Bytes start many')) old result new
stored_named carries path known index start many many' old new result is follows =
    subst (λ (n : ℕ). FollowsDialogue carries (stored_call path known index (asks.Bytes start n)) old result new) is follows

module _ {S : Type 0} (carries : S → Request → Reply → S → Type 0) (size : ℕ) (path : Path) (chunks end : ℕ) (whole : Call (List ℕ × Option Located)) (old now mid : S)
    (known : Option Located) (first start i count : ℕ) (read : List ℕ) (more : i < count)
    (leads : Leads carries whole old (pieces_call size path chunks end known (first + i) start (count - i) read) now) where
  abbrev pub many : ℕ
  many = piece_end size end (first + i) - start

  abbrev pub rest : List ℕ × Located → Call (List ℕ × Option Located)
  rest p = Grow (pieces_call size path chunks end (Some p.1) (first + i + 1) 0 (count - (i + 1)) (read ++ p.0))

  next : Leads carries whole old (both (piece_call path known chunks (first + i) start (piece_end size end (first + i) - start)) rest) now
  next = let e : count - i ≡ suc (count - (i + 1)) = omega arith in
      subst (λ (k : ℕ). Leads carries whole old (pieces_call size path chunks end known (first + i) start k read) now) e leads

  -- its bytes were refused
  pub piece_refused : (refusal : Refusal) → FollowsDialogue carries (stored_call path known (first + i) (asks.Bytes start many)) now (Err refusal) mid → FollowsDialogue carries whole old (Err refusal) mid
  piece_refused refusal follows =
      leads_stop carries whole (piece_call path known chunks (first + i) start many) rest old now mid refusal next
      (follows_none carries (stored_call path known (first + i) (asks.Bytes start many)) _ now mid refusal follows)

  got : (bytes : List ℕ) (located : Located) → FollowsDialogue carries (stored_call path known (first + i) (asks.Bytes start many)) now (Ok (bytes, located)) mid
      → Leads carries whole old (rest (piece_bytes chunks (first + i) many bytes, located)) mid
  got bytes located follows =
      leads_next carries whole (piece_call path known chunks (first + i) start many) rest old now mid (piece_bytes chunks (first + i) many bytes, located) next
      (follows_both carries (stored_call path known (first + i) (asks.Bytes start many)) _ now mid mid (bytes, located) (Ok (piece_bytes chunks (first + i) many bytes, located)) follows (refl, refl))

  -- there was no memory for them
  pub piece_unheld : (bytes : List ℕ) (located : Located) → FollowsDialogue carries (stored_call path known (first + i) (asks.Bytes start many)) now (Ok (bytes, located)) mid
      → FollowsDialogue carries whole old (Err refusals.Memory) mid
  piece_unheld bytes located follows = got bytes located follows (Err refusals.Memory) mid (inr (refl, refl))

  -- they were added
  pub piece_added : (bytes : List ℕ) (located : Located) (longer : List ℕ) → FollowsDialogue carries (stored_call path known (first + i) (asks.Bytes start many)) now (Ok (bytes, located)) mid
      → longer ≡ read ++ piece_bytes chunks (first + i) many bytes
      → Leads carries whole old (pieces_call size path chunks end (Some located) (first + (i + 1)) 0 (count - (i + 1)) longer) mid
  piece_added bytes located longer follows added result new after =
      let e : first + i + 1 ≡ first + (i + 1) = omega arith in
      got bytes located follows result new (inl
      (subst (λ (n : ℕ). FollowsDialogue carries (pieces_call size path chunks end (Some located) n 0 (count - (i + 1)) (read ++ piece_bytes chunks (first + i) many bytes)) mid result new) (sym e)
      (subst (λ (l : List ℕ). FollowsDialogue carries (pieces_call size path chunks end (Some located) (first + (i + 1)) 0 (count - (i + 1)) l) mid result new) added after)))

pub pieces_begin : {S : Type 0} (carries : S → Request → Reply → S → Type 0) (size : ℕ) (path : Path) (chunks end : ℕ) (known : Option Located) (first start count : ℕ) (read items : List ℕ) (s : S)
    → items ≡ read → Leads carries (pieces_call size path chunks end known first start count read) s (pieces_call size path chunks end known (first + 0) start (count - 0) items) s
pieces_begin carries size path chunks end known first start count read items s is result new follows =
    let no_more : first + 0 ≡ first = omega arith in
    let no_less : count - 0 ≡ count = omega arith in
    subst (λ (n : ℕ). FollowsDialogue carries (pieces_call size path chunks end known n start count read) s result new) no_more
    (subst (λ (n : ℕ). FollowsDialogue carries (pieces_call size path chunks end known (first + 0) start n read) s result new) no_less
    (subst (λ (l : List ℕ). FollowsDialogue carries (pieces_call size path chunks end known (first + 0) start (count - 0) l) s result new) is follows))
