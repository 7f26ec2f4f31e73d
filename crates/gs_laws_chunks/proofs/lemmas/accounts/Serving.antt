-- What the lists and counts of an account are behind a step at one server.
use Rattle.std.proofs.Common.{◌≡◌, ◌∙◌, ◌++◌, ◌<◌, ◌≤◌, ◌⊎◌, ◌&&◌, ℕ, Bool, true, false, cond, not, List, [], ◌∷◌, length, max, Option, Some, None, refl, sym, ap, subst, inl, inr, arith, length-append}
use Rattle.std.specs.Prelude.{◌==◌, if◌then◌else◌, is_some, nat_lt, option_map}
use Rattle.std.proofs.lemmas.Bool.{cases_lt, false≢true}
use Rattle.std.proofs.lemmas.Bool.Decides.{nat_tests}
use Rattle.gs_base.specs.Stamps.{is_same}
use Rattle.gs_base.specs.declared.numbers.Moment.{Moment}
use Rattle.gs_base.specs.declared.numbers.ReqId.{ReqId}
use Rattle.gs_base.specs.declared.numbers.Stamp.{Stamp}
use Rattle.gs_laws_chunks.specs.accounts.Accounts.{Account, view_at}
use Rattle.gs_laws_chunks.specs.accounts.Moving.{edit_under, has_more, is_edit, list_behind, reached_behind}
use Rattle.gs_laws_chunk.specs.machine.Stamps.{stamp_at}
use Rattle.gs_laws_chunk.specs.machine.Machine.{Member, ChunkWorld}
use Rattle.gs_laws_chunk.specs.machine.Events.{Leads}
use Rattle.gs_laws_chunk.specs.machine.Laws.{Agrees, IsReached}
use Rattle.gs_laws_chunk.proofs.lemmas.machine.Facts.{reached_world}
use Rattle.gs_laws_chunk.proofs.lemmas.machine.Lasting.{stays_known}
use Rattle.gs_laws_chunk.proofs.lemmas.machine.Reached.{reached_within}
use Rattle.gs_laws_chunk.specs.machine.Resting.{LeasesRest}
use Rattle.gs_lease.specs.declared.held.Grant.{Grant}
use Rattle.gs_lease.specs.declared.view.View.{View}
use Rattle.gs_laws_parts.specs.server.Causes.{Calm, Cause, Edits, Numbers, NumbersEdit, cause_in, cause_of}
use Rattle.gs_laws_parts.specs.server.Showing.{Setting, ShowsLeaseAt, ShowsLive, ShowsPlace}
use Rattle.gs_laws_parts.proofs.lemmas.server.Promising.{lives}
use Rattle.gs_laws_parts.proofs.lemmas.server.Sending.{lease_there}
use Rattle.gs_laws_parts.proofs.lemmas.server.Stamps.{same_stamp, stamp_number}
use Rattle.gs_msg.specs.declared.body.Body.{Body}
use Rattle.gs_msg.specs.declared.body.Body.TheVariants as bodies
use Rattle.gs_msg.specs.declared.chunk.Chunk.{Chunk}
use Rattle.gs_msg.specs.declared.chunk.Chunk.TheVariants as chunks
use Rattle.gs_msg.specs.declared.node.NodeId.{NodeId}
use Rattle.gs_msg.specs.declared.op.Op.{Op}
use Rattle.gs_replica.specs.Stands.{Edit}
use Rattle.gs_world.specs.Sent.{Sent}
use Rattle.gs_server.proofs.Happening.{own_place}
use Rattle.gs_server.specs.Edits.{edit}
use Rattle.gs_server.specs.Places as places
use Rattle.gs_server.specs.Places.{Here, Part, Place, count_or_none}
use Rattle.gs_server.specs.Runs.{slot_in}
use Rattle.gs_server.specs.Servers.{Server, handle_body, here_of, place_of}
use Rattle.gs_laws_server.specs.servers.Calling.{call_at, heard_call, made_by, numbered_call}
use Rattle.gs_laws_server.specs.servers.Following.{edit_in, lengthened}
use Rattle.gs_master_spec.specs.Durable.{Durable}
use Rattle.gs_store.specs.Slots.{count_of}
use Rattle.gs_laws_chunks.proofs.lemmas.accounts.Edits.{AreNumbered, counted, nodes_number, number_led}

-- ---- where no view is settled anew

pub unmoved : (a : Account) (sent : Sent) (d : Durable) (found : Option (Stamp × Edit)) (chunk : ℕ) (s : Stamp) (o : Option View) → view_at a chunk ≡ o → list_behind a sent d found chunk s o ≡ lengthened (a.list chunk s) (edit_under s found)
unmoved a sent d found chunk s None is = refl
unmoved a sent d found chunk s (Some view) is = rw is (never_both (is_same view.stamp s) _ _)
  where
    never_both : (b : Bool) (x y : List Edit) → (if b && not b then x else y) ≡ y
    never_both true x y = refl
    never_both false x y = refl

never_less : (a b : ℕ) → nat_lt a b ≡ true → b ≤ a → ⊥
never_less a b less over = grind (arith, nat_tests)

under_same : (t : ℕ) (p : Stamp) (e : Edit) → p ≡ stamp_at t → edit_under (stamp_at t) (Some (p, e)) ≡ Some e
under_same t p e is = rw is (let same : is_same (stamp_at t) (stamp_at t) ≡ true = grind (arith, nat_tests) in rw same refl)

-- ---- a message

-- what is known of a server at which one comes
pub record Meets (c : Setting) (w v : ChunkWorld) (chunk me : ℕ) (s after : Server) (moment : Moment) : Type 0 where
  pub size : s.chunk ≡ c.size
  pub buffers : (req : ReqId) (b : List ℕ) → (here_of s moment chunk (Some req)).pushed ≡ Some b → b ≡ c.bytes req
  pub shown : ShowsPlace c w.known s.kept.epoch (place_of chunk s) (w.members me)
  pub shows : ShowsPlace c v.known after.kept.epoch (place_of chunk after) (v.members me)
  pub rested : LeasesRest w
  pub rests : LeasesRest v

same_chunk : (n : ℕ) → (n == n) ≡ true
same_chunk n = grind (arith, nat_tests)

same_as : (a b : ℕ) → (a == b) ≡ true → b ≡ a
same_as a b is = grind (arith, nat_tests)

-- the edit that the account has, of what is heard
abbrev pub found_in : ℕ → Server → Server → NodeId → Moment → Body → Option (Stamp × Edit)
found_in chunk s after from moment body =
    if is_edit chunk body && has_more chunk s after then option_map (λ (edit : Edit). ((slot_in chunk s).promise, edit)) (edit_in (heard_call chunk s from body moment)) else None

module _ (law : AreNumbered) (c : Setting) (w v : ChunkWorld) (chunk me : ℕ) (s after : Server) (from : NodeId) (moment : Moment) (k : Meets c w v chunk me s after moment) (req : ReqId) (asked : Stamp) (op : Op) where
  abbrev h : Here
  h = here_of s moment chunk (Some req)

  abbrev p : Place
  p = place_of chunk s

  abbrev part : Part
  part = edit h p req asked op

  abbrev m : Member
  m = w.members me

  abbrev n : Member
  n = v.members me

  -- the edit that the nodes have
  abbrev called : Option Edit
  called = edit_in (made_by part.slot (numbered_call h req asked op p.slot.live))

  abbrev with_more : Bool → Option Edit → Option (Stamp × Edit)
  with_more more e = if more then option_map (λ (edit : Edit). (p.slot.promise, edit)) e else None

  -- none is numbered where no list has one more
  none_more : (t : ℕ) → place_of chunk after ≡ places.after p part → v.known.list t ≡ w.known.list t → (more : Bool) → has_more chunk s after ≡ more → (e : Option Edit) → called ≡ e → lengthened (w.known.list t) (edit_under (stamp_at t) (with_more more e)) ≡ v.known.list t
  none_more t place same false counts e is = sym same
  none_more t place same true counts None is = sym same
  none_more t place same true counts (Some e) is = by_stamp (is_same p.slot.promise (stamp_at t)) refl
    where
      never : is_same p.slot.promise (stamp_at t) ≡ true → ⊥
      never at =
          let led = number_led law c h p req asked op k.size (k.buffers req) e is in
          let old = lives c p.slot m.live k.shown.live (ap is_some led.lives) in
          let first = lease_there c w.known.list led.lease m.lease (subst (λ o. ShowsLeaseAt c w.known.list o m.lease) led.held k.shown.lease) in
          let last = lease_there c v.known.list led.last n.lease (subst (λ o. ShowsLeaseAt c v.known.list o n.lease) (ap (λ (q : Place). q.lease) place ∙ led.holds) k.shows.lease) in
          let a = k.rested me first.0 first.1 in
          let b = k.rests me last.0 last.1 in
          let here : t ≡ m.promise = stamp_number t m.promise (sym (same_stamp p.slot.promise (stamp_at t) at) ∙ k.shown.promise) in
          let first_is : first.0.stamp ≡ t = a.promise ∙ sym here in
          let last_is : last.0.stamp ≡ t = stamp_number last.0.stamp first.0.stamp (sym last.2.stamp ∙ ap (λ (g : Grant). g.stamp) led.same ∙ first.2.stamp) ∙ first_is in
          by_live n.live refl (sym (ap w.known.list first_is) ∙ a.whole old.0 old.1) (λ edits live. sym (ap v.known.list last_is) ∙ b.whole edits live) (counted c p.slot old.0 m.live old.1 k.shown.live)
        where
          by_live : {old : List Edit} → (o : Option (List Edit)) → n.live ≡ o → w.known.list t ≡ old → ((edits : List Edit) → n.live ≡ Some edits → v.known.list t ≡ edits) → count_or_none (count_of p.slot.live) ≡ length old → ⊥
          by_live None live was will before =
              let gone : (slot_in chunk after).live ≡ None = subst (ShowsLive c (slot_in chunk after)) live k.shows.live in
              let none : count_or_none (count_of (slot_in chunk after).live) ≡ 0 = ap (λ l. count_or_none (count_of l)) gone in
              never_less (count_or_none (count_of p.slot.live)) (count_or_none (count_of (slot_in chunk after).live)) counts (omega arith)
          by_live {old} (Some edits) live was will before =
              let behind : count_or_none (count_of (slot_in chunk after).live) ≡ length edits = counted c (slot_in chunk after) edits n.live live k.shows.live in
              let long : length edits ≡ length old = ap length (sym (will edits live) ∙ same ∙ was) in
              never_less (count_or_none (count_of p.slot.live)) (count_or_none (count_of (slot_in chunk after).live)) counts (omega arith)

      by_stamp : (b : Bool) → is_same p.slot.promise (stamp_at t) ≡ b → lengthened (w.known.list t) (if b then Some e else None) ≡ v.known.list t
      by_stamp false at = sym same
      by_stamp true at = absurd (never at)

  -- the one that a list has more is numbered
  one_more : (t : ℕ) → place_of chunk after ≡ places.after p part → NumbersEdit c m n asked req op t (w.known.list t) (v.known.list t) → lengthened (w.known.list t) (edit_under (stamp_at t) (with_more (has_more chunk s after) called)) ≡ v.known.list t
  one_more t place e =
      let before : ShowsLive c p.slot (Some (w.known.list t)) = subst (ShowsLive c p.slot) e.had k.shown.live in
      let later : ShowsLive c (slot_in chunk after) (Some (w.known.list t ++ e.edit ∷ [])) = subst (ShowsLive c (slot_in chunk after)) (e.has ∙ ap (λ (xs : List Edit). Some xs) e.is) k.shows.live in
      let is : called ≡ Some e.edit = nodes_number law c h p req asked op k.size (k.buffers req) (w.known.list t) e.edit before (subst (λ (q : Place). ShowsLive c q.slot (Some (w.known.list t ++ e.edit ∷ []))) place later) e.says in
      let more : has_more chunk s after ≡ true = less (count_or_none (count_of p.slot.live)) (count_or_none (count_of (slot_in chunk after).live)) (counted c p.slot (w.known.list t) (Some (w.known.list t)) refl before) (counted c (slot_in chunk after) (w.known.list t ++ e.edit ∷ []) (Some (w.known.list t ++ e.edit ∷ [])) refl later) in
      let here : p.slot.promise ≡ stamp_at t = k.shown.promise ∙ ap stamp_at (sym e.under) in
      ap (λ (o : Option (Stamp × Edit)). lengthened (w.known.list t) (edit_under (stamp_at t) o)) (λ i. with_more (more i) (is i)) ∙ ap (lengthened (w.known.list t)) (under_same t p.slot.promise e.edit here) ∙ sym e.is
    where
      less : (a b : ℕ) → a ≡ length (w.known.list t) → b ≡ length (w.known.list t ++ e.edit ∷ []) → nat_lt a b ≡ true
      less a b first second = let more = length-append (w.known.list t) (e.edit ∷ []) in let lower : a < b = omega arith in grind (arith, nat_tests)

  pub edit_then : (t : ℕ) → place_of chunk after ≡ places.after p part → Numbers (Edits asked req op) c m n t (w.known.list t) (v.known.list t)
      → lengthened (w.known.list t) (edit_under (stamp_at t) (found_in chunk s after from moment (bodies.About chunk (chunks.Edit req asked op)))) ≡ v.known.list t
  edit_then t place lists =
      ap (λ (b : Bool). lengthened (w.known.list t) (edit_under (stamp_at t) (if b && has_more chunk s after then option_map (λ (edit : Edit). (p.slot.promise, edit)) (edit_in (cond b (call_at h p from (chunks.Edit req asked op)) None)) else None))) (same_chunk chunk)
      ∙ elim lists [
        | inl same ↦ none_more t place same (has_more chunk s after) refl called refl
        | inr e ↦ one_more t place e
      ]

-- whatever is heard
module _ (law : AreNumbered) (c : Setting) (w v : ChunkWorld) (chunk me : ℕ) (s after : Server) (from : NodeId) (moment : Moment) (k : Meets c w v chunk me s after moment) (t : ℕ) where
  abbrev Then : Body → Type 0
  Then body = lengthened (w.known.list t) (edit_under (stamp_at t) (found_in chunk s after from moment body)) ≡ v.known.list t

  abbrev Lists : Cause → Type 0
  Lists cause = Numbers cause c (w.members me) (v.members me) t (w.known.list t) (v.known.list t)

  calm : (b : Bool) → Lists (cond b Calm Calm) → v.known.list t ≡ w.known.list t
  calm true same = same
  calm false same = same

  said_then : (handle : ℕ) (said : Chunk) → after ≡ (handle_body s from (bodies.About handle said) moment).after → Lists (cond (chunk == handle) (cause_of said) Calm) → Then (bodies.About handle said)
  said_then handle (chunks.Edit req asked op) is lists = by_handle (chunk == handle) refl lists
    where
      by_handle : (b : Bool) → (chunk == handle) ≡ b → Lists (cond b (Edits asked req op) Calm) → Then (bodies.About handle (chunks.Edit req asked op))
      by_handle false other same = rw other (sym same)
      by_handle true here lists =
          let same : handle ≡ chunk = same_as chunk handle here in
          subst (λ x. Then (bodies.About x (chunks.Edit req asked op))) (sym same)
          (edit_then law c w v chunk me s after from moment k req asked op t
          (ap (place_of chunk) (is ∙ ap (λ x. (handle_body s from (bodies.About x (chunks.Edit req asked op)) moment).after) same) ∙ own_place chunk (Some req) (edit (here_of s moment chunk (Some req)) (place_of chunk s) req asked op) s) lists)
  said_then handle said is lists = sym (calm (chunk == handle) lists)

  pub heard_then : (body : Body) → after ≡ (handle_body s from body moment).after → Lists (cause_in chunk body) → Then body
  heard_then (bodies.About handle said) is lists = said_then handle said is lists
  heard_then body is lists = sym lists

-- ---- counts

max_left : (n : ℕ) → max n 0 ≡ n
max_left n = omega arith

max_right : (a b : ℕ) → a ≤ b → max a b ≡ b
max_right a b less = omega arith

-- What a server has reached goes on with what it has under its promise.
pub count_then : (c : Setting) (w v : ChunkWorld) (chunk j t : ℕ) (s : Server) → ShowsPlace c v.known s.kept.epoch (place_of chunk s) (v.members j) → Agrees v → w.known.reached j t ≤ v.known.reached j t
    → (v.known.reached j t ≡ w.known.reached j t) ⊎ ((t ≡ (v.members j).promise) × (is_some (v.members j).live ≡ true)) → reached_behind (w.known.reached j t) (Some s) chunk (stamp_at t) ≡ v.known.reached j t
count_then c w v chunk j t s shows agrees more kept = by_stamp (is_same (slot_in chunk s).promise (stamp_at t)) refl
  where
    n : Member
    n = v.members j

    by_live : t ≡ n.promise → (o : Option (List Edit)) → n.live ≡ o → max (w.known.reached j t) (count_or_none (count_of (slot_in chunk s).live)) ≡ v.known.reached j t
    by_live here None live =
        let gone : (slot_in chunk s).live ≡ None = subst (ShowsLive c (slot_in chunk s)) live shows.live in
        ap (λ l. max (w.known.reached j t) (count_or_none (count_of l))) gone ∙ max_left (w.known.reached j t) ∙ elim kept [
          | inl same ↦ sym same
          | inr (at, some) ↦ absurd (false≢true (sym (ap is_some live) ∙ some))
        ]
    by_live here (Some edits) live =
        let count : count_or_none (count_of (slot_in chunk s).live) ≡ length edits = counted c (slot_in chunk s) edits n.live live shows.live in
        let reached : v.known.reached j t ≡ length edits = ap (v.known.reached j) here ∙ agrees.reached j edits live in
        max_right (w.known.reached j t) (count_or_none (count_of (slot_in chunk s).live)) (omega arith) ∙ count ∙ sym reached

    by_stamp : (b : Bool) → is_same (slot_in chunk s).promise (stamp_at t) ≡ b → (if b then max (w.known.reached j t) (count_or_none (count_of (slot_in chunk s).live)) else w.known.reached j t) ≡ v.known.reached j t
    by_stamp true at = by_live (stamp_number t n.promise (sym (same_stamp (slot_in chunk s).promise (stamp_at t) at) ∙ shows.promise)) n.live refl
    by_stamp false other = elim kept [
      | inl same ↦ sym same
      | inr (at, some) ↦ absurd (false≢true (sym other ∙ self (stamp_at t) (slot_in chunk s).promise (shows.promise ∙ ap stamp_at (sym at))))
    ]
      where
        self : (p q : Stamp) → q ≡ p → is_same q p ≡ true
        self p q is = rw is (let same : is_same p p ≡ true = grind (arith, nat_tests) in same)

-- it reaches no less than before
pub reaches_more : (w v : ChunkWorld) → IsReached w → Leads w v → (j t : ℕ) → w.known.reached j t ≤ v.known.reached j t
reaches_more w v reached leads j t = elim (cases_lt (w.members j).promise t) [
  | inl above ↦ (let none = reached_within w reached j t above in omega arith)
  | inr within ↦ (stays_known w (reached_world w reached) v leads).reached j t within
]
