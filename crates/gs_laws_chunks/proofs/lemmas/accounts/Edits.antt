-- Which edit a server numbers at a message, as it is in the list of the machine.
use Rattle.std.proofs.Common.{◌≡◌, ◌∙◌, ◌+◌, ◌++◌, ℕ, Bool, true, false, cond, List, [], ◌∷◌, length, Option, Some, None, refl, sym, ap, subst, arith, length-append}
use Rattle.std.specs.Prelude.{◌==◌}
use Rattle.gs_base.specs.declared.numbers.ReqId.{ReqId}
use Rattle.gs_base.specs.declared.numbers.Stamp.{Stamp}
use Rattle.gs_replica.specs.Stands.{Edit, StandsFor, replica_of}
use Rattle.gs_msg.specs.declared.op.Op.{Op}
use Rattle.gs_msg.specs.declared.op.Op.TheVariants.{Write, Append, Pad}
use Rattle.gs_msg.specs.Ops.{in_replica}
use Rattle.gs_store.specs.Slots.{Live, Slot, count_of, mark_bad, marked_live}
use Rattle.gs_store.specs.Standing.{LiveStandsFor}
use Rattle.gs_server_lease.specs.Leases as primary
use Rattle.gs_server_lease.specs.Leases.{is_acknowledged, opens_edit}
use Rattle.gs_server_lease.specs.Numbering.{numbered_op}
use Rattle.gs_server_lease.specs.declared.lease.Open.{Open as Waiting}
use Rattle.gs_server.specs.Edits.{as_many, bytes_of, bytes_or_none, edit, has_bytes}
use Rattle.gs_server.specs.Places.{Here, Place, SlotBecomes, SlotChange, SlotMarked, SlotStays, count_or_none, lease_after, slot_after}
use Rattle.gs_laws_server.specs.servers.Calling.{made_by, numbered_call}
use Rattle.gs_laws_server.specs.servers.Editing.{IsNumberedBy, numbered_edit}
use Rattle.gs_laws_server.specs.servers.Following.{edit_in}
use Rattle.gs_laws_parts.specs.server.Showing.{Says, Setting, ShowsLive}

-- ---- counts

-- of a replica that is shown
pub counted : (c : Setting) (s : Slot) (edits : List Edit) (o : Option (List Edit)) → o ≡ Some edits → ShowsLive c s o → count_or_none (count_of s.live) ≡ length edits
counted c s edits o is shows = of_live s.live (subst (ShowsLive c s) is shows)
  where
    of_live : (l : Option Live) → LiveStandsFor c.block c.size l edits → count_or_none (count_of l) ≡ length edits
    of_live None stands = absurd stands
    of_live (Some l) stands = stands.count

marked_counts : (block : ℕ) (l : Option Live) → count_of (marked_live block l) ≡ count_of l
marked_counts block None = refl
marked_counts block (Some l) = refl

-- ---- the bytes of an edit

bytes_in_op : (size stored : ℕ) (op : Op) → has_bytes (numbered_op size stored op) ≡ true → has_bytes op ≡ true
bytes_in_op size stored (Write offset many) has = refl
bytes_in_op size stored (Append many) has = refl
bytes_in_op size stored Pad has = has

as_many_is : (many : ℕ) (o : Option (List ℕ)) (b : List ℕ) → as_many many o ≡ Some b → o ≡ Some b
as_many_is many None b is = absurd (cc)
as_many_is many (Some x) b is = by_case (length x == many) is
  where
    by_case : (t : Bool) → cond t (Some x) None ≡ Some b → Some x ≡ Some b
    by_case true e = e
    by_case false e = absurd (cc)

-- where it has some they were pushed
pub were_pushed : (op : Op) (pushed : Option (List ℕ)) (b : List ℕ) → has_bytes op ≡ true → bytes_of op None pushed ≡ Some b → pushed ≡ Some b
were_pushed (Write offset many) pushed b has is = as_many_is many pushed b is
were_pushed (Append many) pushed b has is = as_many_is many pushed b is
were_pushed Pad pushed b has is = absurd (cc)

-- ---- the lease

same_grant : (me number : ℕ) (waiting : Waiting) (l : primary.PrimaryLease) → (opens_edit me number waiting l).grant ≡ l.grant
same_grant me number waiting l = by_case (is_acknowledged (primary.hears me number l) number)
  where
    by_case : (b : Bool) → (cond b (primary.hears me number l) (primary.waits_for number waiting (primary.hears me number l))).grant ≡ l.grant
    by_case true = refl
    by_case false = refl

-- ---- an edit that is heard

-- what makes the slot another one is numbered
abbrev pub AreNumbered : Type 0
AreNumbered = (h : Here) (p : Place) (req : ReqId) (stamp : Stamp) (op : Op) (s : Slot) → (edit h p req stamp op).slot ≡ SlotBecomes s → IsNumberedBy h p req stamp op (edit h p req stamp op) s

module _ (law : AreNumbered) (c : Setting) (h : Here) (p : Place) (req : ReqId) (asked : Stamp) (op : Op) (same_size : h.chunk ≡ c.size) (right : (b : List ℕ) → h.pushed ≡ Some b → b ≡ c.bytes req) where
  abbrev change : SlotChange
  change = (edit h p req asked op).slot

  abbrev numbered : Option Edit
  numbered = edit_in (made_by change (numbered_call h req asked op p.slot.live))

  -- as the machine has it
  is_edit_of : (old : List Edit) (e : Edit) (s : Slot) → IsNumberedBy h p req asked op (edit h p req asked op) s → ShowsLive c p.slot (Some old) → Says c req (numbered_op c.size (length (replica_of c.size old).bytes) op) e
      → edit_in (numbered_call h req asked op p.slot.live) ≡ Some e
  is_edit_of old e s n shows says =
      let stands : StandsFor c.block c.size n.live.replica.held old = subst (λ o. LiveStandsFor c.block c.size o old) n.lives shows in
      let written = stands.bytes in
      let op_is : numbered_op h.chunk (length n.live.replica.held.chunk.bytes) op ≡ numbered_op c.size (length (replica_of c.size old).bytes) op =
      ap (λ k. numbered_op k (length n.live.replica.held.chunk.bytes) op) same_size ∙ ap (λ k. numbered_op c.size k op) written.long in
      let all = bytes_or_none (bytes_of op None h.pushed) in
      ap (λ o. edit_in (numbered_call h req asked op o)) n.lives
      ∙ ap (λ (e : Edit). Some e) (λ i. record {
        req = sym says.req i;
        op = (ap in_replica op_is ∙ sym says.op) i;
        bytes = (ap (λ o. cond (has_bytes o) all []) op_is ∙ bytes_are (numbered_op c.size (length (replica_of c.size old).bytes) op) (bytes_in_op c.size (length (replica_of c.size old).bytes) op) ∙ sym says.bytes) i;
      })
    where
      bytes_are : (said : Op) → (has_bytes said ≡ true → has_bytes op ≡ true) → cond (has_bytes said) (bytes_or_none (bytes_of op None h.pushed)) [] ≡ cond (has_bytes said) (c.bytes req) []
      bytes_are said has = by_case (has_bytes said) has
        where
          by_case : (b : Bool) → (b ≡ true → has_bytes op ≡ true) → cond b (bytes_or_none (bytes_of op None h.pushed)) [] ≡ cond b (c.bytes req) []
          by_case true has = ap bytes_or_none n.there ∙ right n.bytes (were_pushed op h.pushed n.bytes (has refl) n.there)
          by_case false has = refl

  -- Where a list of the machine has the edit more, the nodes have it.
  pub nodes_number : (old : List Edit) (e : Edit) → ShowsLive c p.slot (Some old) → ShowsLive c (slot_after p.slot change) (Some (old ++ e ∷ [])) → Says c req (numbered_op c.size (length (replica_of c.size old).bytes) op) e → numbered ≡ Some e
  nodes_number old e before behind says = by_change change refl behind
    where
      longer : (a b : ℕ) → a ≡ length old → b ≡ length (old ++ e ∷ []) → b ≡ a → {Z : Type 0} → Z
      longer a b first second same = absurd (let more = length-append old (e ∷ []) in omega arith)

      by_change : (x : SlotChange) → change ≡ x → ShowsLive c (slot_after p.slot x) (Some (old ++ e ∷ [])) → edit_in (made_by x (numbered_call h req asked op p.slot.live)) ≡ Some e
      by_change SlotStays is shows =
          longer (count_or_none (count_of p.slot.live)) (count_or_none (count_of p.slot.live)) (counted c p.slot old (Some old) refl before) (counted c p.slot (old ++ e ∷ []) (Some (old ++ e ∷ [])) refl shows) refl
      by_change (SlotMarked block) is shows =
          longer (count_or_none (count_of p.slot.live)) (count_or_none (count_of (mark_bad block p.slot).live)) (counted c p.slot old (Some old) refl before) (counted c (mark_bad block p.slot) (old ++ e ∷ []) (Some (old ++ e ∷ [])) refl shows) (ap count_or_none (marked_counts block p.slot.live))
      by_change (SlotBecomes s) is shows = is_edit_of old e s (law h p req asked op s is) before says

  -- Where the nodes have one, it is numbered under a lease that is held, and is held then.
  pub record IsLed : Type 0 where
    pub live : Live
    pub lives : p.slot.live ≡ Some live
    pub lease : primary.PrimaryLease
    pub held : p.lease ≡ Some lease
    pub last : primary.PrimaryLease
    pub holds : lease_after p.lease (edit h p req asked op).lease ≡ Some last
    pub same : last.grant ≡ lease.grant

  pub number_led : (e : Edit) → numbered ≡ Some e → IsLed
  number_led e is = by_change change refl is
    where
      by_change : (x : SlotChange) → change ≡ x → edit_in (made_by x (numbered_call h req asked op p.slot.live)) ≡ Some e → IsLed
      by_change SlotStays at none = absurd (cc)
      by_change (SlotMarked block) at none = absurd (cc)
      by_change (SlotBecomes s) at some =
          let n = law h p req asked op s at in record {
            live = n.live;
            lives = n.lives;
            lease = n.lease;
            held = n.held;
            last = opens_edit h.me (n.live.replica.held.count + 1) (numbered_edit h req op n.bytes n.live) n.lease;
            holds = ap (lease_after p.lease) n.waits;
            same = same_grant h.me (n.live.replica.held.count + 1) (numbered_edit h req op n.bytes n.live) n.lease;
          }
