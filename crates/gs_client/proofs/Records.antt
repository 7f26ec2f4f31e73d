-- A record that goes to a chunk, or to one behind it.
use Rattle.std.proofs.Common.{◌≡◌, ◌<◌, ◌+◌, ◌-◌, ℕ, zero, suc, List, length, Result, Ok, Err, refl, sym, subst, arith}
use Rattle.gs_base.specs.declared.refusal.Refusal.{Refusal}
use Rattle.gs_base.specs.declared.refusal.Refusal.TheVariants as refusals
use Rattle.gs_path.specs.Path.{Path}
use Rattle.gs_replica.specs.declared.op.EditOutcome.{EditOutcome}
use Rattle.gs_replica.specs.declared.op.EditOutcome.TheVariants as outcomes
use Rattle.gs_client_dialogue.specs.Dialogues.{Say, FollowsDialogue, Leads, both}
use Rattle.gs_client_dialogue.proofs.Talks.{leads_next, leads_stop}
use Rattle.gs_msg.specs.declared.op.Op.TheVariants as ops
use Rattle.gs_msg.specs.declared.event.Request.{Request}
use Rattle.gs_client.specs.declared.link.Reply.{Reply}
use Rattle.gs_client_part.specs.declared.located.Located.{Located}
use Rattle.gs_client.specs.Trees.{Call}
use Rattle.gs_client_part.specs.Writing.{placed}
use Rattle.gs_client.specs.Writing.{part_call, extend_call, landed, append_from}

-- what is left where the chunk was filled up
abbrev pub onward_from : ℕ → Path → List ℕ → ℕ → ℕ → Call ℕ
onward_from size path bytes index zero = Say (Err refusals.Range)
onward_from size path bytes index (suc more) = both (extend_call path (index + 1)) (λ l. append_from size path bytes (index + 1) more)

unrolled : (size : ℕ) (path : Path) (bytes : List ℕ) (index more : ℕ)
    → append_from size path bytes index more ≡ both (part_call path index (ops.Append (length bytes)) bytes) (landed size index (onward_from size path bytes index more))
unrolled size path bytes index zero = refl
unrolled size path bytes index (suc more) = refl

module _ {S : Type 0} (carries : S → Request → Reply → S → Type 0) (size : ℕ) (path : Path) (bytes : List ℕ) (whole : Call ℕ) (old now mid : S) (index : ℕ)
    (leads : Leads carries whole old (append_from size path bytes index (4095 - index)) now) where
  next : Leads carries whole old (both (part_call path index (ops.Append (length bytes)) bytes) (landed size index (onward_from size path bytes index (4095 - index)))) now
  next = subst (λ (d : Call ℕ). Leads carries whole old d now) (unrolled size path bytes index (4095 - index)) leads

  pub record_refused : (refusal : Refusal) → FollowsDialogue carries (part_call path index (ops.Append (length bytes)) bytes) now (Err refusal) mid → FollowsDialogue carries whole old (Err refusal) mid
  record_refused refusal follows = leads_stop carries whole (part_call path index (ops.Append (length bytes)) bytes) _ old now mid refusal next follows

  came : (outcome : EditOutcome) → FollowsDialogue carries (part_call path index (ops.Append (length bytes)) bytes) now (Ok outcome) mid
      → Leads carries whole old (landed size index (onward_from size path bytes index (4095 - index)) outcome) mid
  came outcome follows =
      leads_next carries whole (part_call path index (ops.Append (length bytes)) bytes) (landed size index (onward_from size path bytes index (4095 - index))) old now mid outcome next follows

  pub record_placed : (offset : ℕ) (result : Result ℕ Refusal) → FollowsDialogue carries (part_call path index (ops.Append (length bytes)) bytes) now (Ok (outcomes.Appended offset)) mid
      → result ≡ placed size index offset → FollowsDialogue carries whole old result mid
  record_placed offset result follows is = came (outcomes.Appended offset) follows result mid (is, refl)

  pub record_stray : FollowsDialogue carries (part_call path index (ops.Append (length bytes)) bytes) now (Ok outcomes.Written) mid → FollowsDialogue carries whole old (Err refusals.Stray) mid
  record_stray follows = came outcomes.Written follows (Err refusals.Stray) mid (refl, refl)

  pub record_full : FollowsDialogue carries (part_call path index (ops.Append (length bytes)) bytes) now (Ok outcomes.Padded) mid → index + 1 ≡ 4096 → FollowsDialogue carries whole old (Err refusals.Range) mid
  record_full follows last =
      let e : 4095 - index ≡ 0 = omega arith in
      came outcomes.Padded follows (Err refusals.Range) mid (subst (λ (n : ℕ). FollowsDialogue carries (onward_from size path bytes index n) mid (Err refusals.Range) mid) (sym e) (refl, refl))

  goes_on : FollowsDialogue carries (part_call path index (ops.Append (length bytes)) bytes) now (Ok outcomes.Padded) mid → index + 1 < 4096
      → Leads carries whole old (both (extend_call path (index + 1)) (λ l. append_from size path bytes (index + 1) (4095 - (index + 1)))) mid
  goes_on follows below =
      let e : 4095 - index ≡ suc (4095 - (index + 1)) = omega arith in
      subst (λ (n : ℕ). Leads carries whole old (onward_from size path bytes index n) mid) e (came outcomes.Padded follows)

  pub record_unextended : (end : S) (refusal : Refusal) → FollowsDialogue carries (part_call path index (ops.Append (length bytes)) bytes) now (Ok outcomes.Padded) mid → index + 1 < 4096
      → FollowsDialogue carries (extend_call path (index + 1)) mid (Err refusal) end → FollowsDialogue carries whole old (Err refusal) end
  record_unextended end refusal follows below extended =
      leads_stop carries whole (extend_call path (index + 1)) _ old mid end refusal (goes_on follows below) extended

  pub record_goes : (end : S) (l : Located) → FollowsDialogue carries (part_call path index (ops.Append (length bytes)) bytes) now (Ok outcomes.Padded) mid → index + 1 < 4096
      → FollowsDialogue carries (extend_call path (index + 1)) mid (Ok l) end → Leads carries whole old (append_from size path bytes (index + 1) (4095 - (index + 1))) end
  record_goes end l follows below extended =
      leads_next carries whole (extend_call path (index + 1)) (λ l. append_from size path bytes (index + 1) (4095 - (index + 1))) old mid end l (goes_on follows below) extended
