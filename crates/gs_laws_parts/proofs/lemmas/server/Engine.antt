-- The machine goes on by the events of one server.
use Rattle.std.proofs.Common.{◌≡◌, ℕ, ◌++◌, ◌<◌, ◌⊎◌, inl, inr, ⊎_elim, Bool, true, false, cond, List, [], ◌∷◌, refl, sym, ap, subst, ◌∙◌, append-nil, append_assoc, arith, Option, Some, None}
use Rattle.std.specs.Prelude.{nat_eq, Contains, ◌&&◌, ◌||◌, is_some}
use Rattle.std.proofs.lemmas.Bool.{eq-eqb, eqb-true}
use Rattle.std.proofs.lemmas.List.Elements.{Contains-append_left, Contains-append_right, Contains-append_cases}
use Rattle.gs_replica.specs.Stands.{Edit}
use Rattle.gs_laws_chunk.specs.machine.Machine.{Member, Message, Sent, ChunkWorld, WasTold}
use Rattle.gs_laws_chunk.specs.machine.Stamps.{epoch_of}
use Rattle.gs_laws_chunk.specs.machine.Events.{Event, Can, happens, Step, steps, quiet, one, Leads, Rests, Goes, count_or}
use Rattle.std.specs.List.{AllByRecursion}
use Rattle.gs_msg.specs.declared.message.Message.{Message as Told}
use Rattle.gs_server.specs.Places.{Place}
use Rattle.gs_laws_parts.specs.server.Showing.{Setting, ShowsPlace}
use Rattle.gs_laws_parts.specs.server.Telling.{ServersTell}
use Rattle.gs_laws_parts.specs.server.Moving.{Moved, MadeIntact, FollowsServer}
use Rattle.gs_laws_parts.specs.server.Causes.{Calm}

pub none_contains : {X Z : Type 0} (x : X) → Contains [] x → Z
none_contains x there = absurd (let l : there.0 < 0 = there.1 in omega arith)

pub first_contains : {X : Type 0} (x : X) (xs : List X) → Contains (x ∷ xs) x
first_contains x xs = (0, omega arith, refl)

pub leads_on : (a b d : ChunkWorld) → Leads a b → Leads b d → Leads a d
leads_on a b d first Rests = first
leads_on a b d first (Goes w e then can) = Goes w e (leads_on a b w first then) can

grown : (b : Bool) (xs more : List Edit) → (m : List Edit) × (cond b (xs ++ more) xs ≡ xs ++ m)
grown true xs more = (more, refl)
grown false xs more = ([], sym (append-nil xs))

pub own : {X : Type 0} (b : Bool) (x y : X) → b ≡ true → cond b x y ≡ x
own true x y is = refl
own false x y is = absurd (cc)

pub other : {X : Type 0} (b : Bool) (x y : X) → b ≡ false → cond b x y ≡ y
other false x y is = refl
other true x y is = absurd (cc)

-- the count that a member has reached under its promise is that of its live replica
both : (a b : Bool) → (a && b) ≡ true → (a ≡ true) × (b ≡ true)
both true true is = (refl, refl)
both true false is = absurd (cc)
both false b is = absurd (cc)

reached_at : (j me t promise : ℕ) (b : Bool) → (nat_eq j me && nat_eq t promise) ≡ b → (old : ℕ) (live : Option (List Edit)) → (cond b (count_or old live) old ≡ old) ⊎ ((j ≡ me) × (t ≡ promise) × (is_some live ≡ true))
reached_at j me t promise false is old live = inl refl
reached_at j me t promise true is old None = inl refl
reached_at j me t promise true is old (Some edits) = let x = both (nat_eq j me) (nat_eq t promise) is in inr (eqb-true j me x.0, eqb-true t promise x.1, refl)

-- what is carried behind a step was so before, or is carried by the member
pub carries_at : (e j me promise : ℕ) (old carried : Bool) → (old || (nat_eq j me && (nat_eq e promise && carried))) ≡ true → (old ≡ true) ⊎ ((j ≡ me) × (e ≡ promise) × (carried ≡ true))
carries_at e j me promise true carried is = inl refl
carries_at e j me promise false carried is =
    let x = both (nat_eq j me) (nat_eq e promise && carried) is in
    let y = both (nat_eq e promise) carried x.1 in
    inr (eqb-true j me x.0, eqb-true e promise y.0, y.1)

pub moves : (w : ChunkWorld) (e : Event) (me : ℕ) (st : Step) → Can w e → happens w e ≡ steps w me st → Moved w me st.member st.sends
moves w e me st can is = record {
  world = steps w me st;
  leads = subst (Leads w) is (Goes w e Rests can);
  is = own (nat_eq me me) st.member (w.members me) (eq-eqb me me refl);
  others = λ j differs. other (nat_eq j me) st.member (w.members j) differs;
  entry = refl;
  current = refl;
  how = refl;
  grows = λ t. grown (nat_eq t st.member.promise) (w.known.list t) st.edits;
  reached = λ j t. reached_at j me t st.member.promise (nat_eq j me && nat_eq t st.member.promise) refl (w.known.reached j t) st.member.live;
  carries = λ e j is. carries_at e j me (epoch_of st.member.promise) (w.known.carries e j) st.member.carried is;
  stays = λ x there. Contains-append_left w.sent st.sends x there;
  says = λ x there. Contains-append_right w.sent st.sends x there;
}

pub rests : (w : ChunkWorld) (me : ℕ) → Moved w me (w.members me) []
rests w me = record {
  world = w;
  leads = Rests;
  is = refl;
  others = λ j differs. refl;
  entry = refl;
  current = refl;
  how = refl;
  grows = λ t. ([], sym (append-nil (w.known.list t)));
  reached = λ j t. inl refl;
  carries = λ e j is. inl is;
  stays = λ x there. there;
  says = λ x there. none_contains x there;
}

unfoldable pub and_then : (w : ChunkWorld) (me : ℕ) (m n : Member) (xs ys : List Sent) → (first : Moved w me m xs) → Moved first.world me n ys → (m.promise ≡ n.promise) × (m.live ≡ n.live) × (m.carried ≡ n.carried) → Moved w me n (xs ++ ys)
and_then w me m n xs ys first then same = record {
  world = then.world;
  leads = leads_on w first.world then.world first.leads then.leads;
  is = then.is;
  others = λ j differs. then.others j differs ∙ first.others j differs;
  entry = then.entry ∙ first.entry;
  current = then.current ∙ first.current;
  how = then.how ∙ first.how;
  grows = λ t. let a = first.grows t in let b = then.grows t in (a.0 ++ b.0, b.1 ∙ ap (λ l. l ++ b.0) a.1 ∙ append_assoc (w.known.list t) a.0 b.0);
  reached = λ j t. ⊎_elim
      (λ kept. ⊎_elim
      (λ before. inl (kept ∙ before))
      (λ (x : (j ≡ me) × (t ≡ m.promise) × (is_some m.live ≡ true)). inr (x.0, x.1 ∙ same.0, ap is_some (sym same.1) ∙ x.2))
      (first.reached j t))
      (λ x. inr x)
      (then.reached j t);
  carries = λ e j is. ⊎_elim
      (λ kept. ⊎_elim
      (λ before. inl before)
      (λ (x : (j ≡ me) × (e ≡ epoch_of m.promise) × (m.carried ≡ true)). inr (x.0, x.1 ∙ ap epoch_of same.0, sym same.2 ∙ x.2))
      (first.carries e j kept))
      (λ x. inr x)
      (then.carries e j is);
  stays = λ x there. then.stays x (first.stays x there);
  says = λ x there. ⊎_elim (λ y. then.stays x (first.says x y)) (λ y. then.says x y) (Contains-append_cases xs ys x there);
}

-- what one message is told by
pub said_one : (w : ChunkWorld) (me server : ℕ) (m : Member) (body : Message) → (moved : Moved w me m (one server body)) → WasTold moved.world server body
said_one w me server m body moved = moved.says (record { server = server; body = body }) (first_contains (record { server = server; body = body }) [])

left : (b : Bool) (xs : List Edit) → cond b (xs ++ []) xs ≡ xs
left true xs = append-nil xs
left false xs = refl

pub moves_leave : (w : ChunkWorld) (e : Event) (me : ℕ) (m : Member) (sends : List Sent) (can : Can w e) (is : happens w e ≡ steps w me (quiet m sends)) (t : ℕ) → (moves w e me (quiet m sends) can is).world.known.list t ≡ w.known.list t
unfolding moves
moves_leave w e me m sends can is t = left (nat_eq t m.promise) (w.known.list t)

-- events that number nothing leave the lists
pub record Stays (w : ChunkWorld) (me : ℕ) (m : Member) (sends : List Sent) : Type 0 where
  pub moved : Moved w me m sends
  pub list : (t : ℕ) → moved.world.known.list t ≡ w.known.list t

pub moves_so : (w : ChunkWorld) (e : Event) (me : ℕ) (m : Member) (sends : List Sent) → Can w e → happens w e ≡ steps w me (quiet m sends) → Stays w me m sends
moves_so w e me m sends can is = record { moved = moves w e me (quiet m sends) can is; list = moves_leave w e me m sends can is }

pub then_list : (w : ChunkWorld) (me : ℕ) (m n : Member) (xs ys : List Sent) → (first : Moved w me m xs) → (then : Moved first.world me n ys) → (same : (m.promise ≡ n.promise) × (m.live ≡ n.live) × (m.carried ≡ n.carried)) → (t : ℕ) → (and_then w me m n xs ys first then same).world.known.list t ≡ then.world.known.list t
unfolding and_then
then_list w me m n xs ys first then same t = refl

pub stays_then : (w : ChunkWorld) (me : ℕ) (m n : Member) (xs ys : List Sent) → (first : Stays w me m xs) → Stays first.moved.world me n ys → (m.promise ≡ n.promise) × (m.live ≡ n.live) × (m.carried ≡ n.carried) → Stays w me n (xs ++ ys)
stays_then w me m n xs ys first then same = record { moved = and_then w me m n xs ys first.moved then.moved same; list = λ t. then_list w me m n xs ys first.moved then.moved same t ∙ then.list t ∙ first.list t }

-- an edit that is numbered stands in the list of the promise
grows_at : (t p : ℕ) (b : Bool) → nat_eq t p ≡ b → (xs more : List Edit) → (cond b (xs ++ more) xs ≡ xs) ⊎ ((cond b (xs ++ more) xs ≡ xs ++ more) × (t ≡ p))
grows_at t p true is xs more = inr (refl, eqb-true t p is)
grows_at t p false is xs more = inl refl

pub moves_at : (w : ChunkWorld) (e : Event) (me : ℕ) (st : Step) (can : Can w e) (is : happens w e ≡ steps w me st) (t : ℕ)
    → ((moves w e me st can is).world.known.list t ≡ w.known.list t) ⊎ (((moves w e me st can is).world.known.list t ≡ w.known.list t ++ st.edits) × (t ≡ st.member.promise))
unfolding moves
moves_at w e me st can is t = grows_at t st.member.promise (nat_eq t st.member.promise) refl (w.known.list t) st.edits

-- where the promise stays, nothing is to be made intact
pub same_promise : (m n : Member) → n.promise ≡ m.promise → MadeIntact m n
same_promise m n same = record { brought = λ up. absurd (omega arith); rolled = λ next up. absurd (omega arith) }

-- nothing happens in the machine, and what is sent says nothing to it
pub stays_put : (c : Setting) (chunk : ℕ) (w : ChunkWorld) (me epoch : ℕ) (p : Place) (sent : List Told) → ShowsPlace c w.known epoch p (w.members me) → AllByRecursion (ServersTell c chunk w) sent → FollowsServer Calm c chunk w me epoch p sent
unfolding rests
stays_put c chunk w me epoch p sent shows tells = record { member = w.members me; sends = []; moved = rests w me; lists = λ t. inl refl; numbers = λ t. refl; intact = λ spared whole. whole; gains = same_promise (w.members me) (w.members me) refl; shows = shows; tells = tells }

-- the list of the promise has the edits that are numbered
pub moves_list : (w : ChunkWorld) (e : Event) (me : ℕ) (st : Step) (can : Can w e) (is : happens w e ≡ steps w me st) → (moves w e me st can is).world.known.list st.member.promise ≡ w.known.list st.member.promise ++ st.edits
unfolding moves
moves_list w e me st can is = own (nat_eq st.member.promise st.member.promise) (w.known.list st.member.promise ++ st.edits) (w.known.list st.member.promise) (eq-eqb st.member.promise st.member.promise refl)

pub rests_so : (w : ChunkWorld) (me : ℕ) (m : Member) → w.members me ≡ m → Stays w me m []
unfolding rests
rests_so w me m is = subst (λ n. Stays w me n []) is (record { moved = rests w me; list = λ t. refl })
