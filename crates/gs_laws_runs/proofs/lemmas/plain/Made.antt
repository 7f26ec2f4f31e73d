-- An edit that was told done is made at one step of a run.
use Rattle.std.proofs.Common.{◌≡◌, ◌∙◌, ◌++◌, ◌+◌, ◌-◌, ◌<◌, ◌≤◌, ◌⊎◌, inl, inr, ℕ, zero, suc, false, true, List, [], ◌∷◌, drop, length, map, take, None, Option, Some, Ok, Err, refl, sym, ap, subst, arith}
use Rattle.std.specs.Prelude.{filter_map, option_map, slice_get, unwrap_or}
use Rattle.std.specs.FinMap as fin
use Rattle.std.proofs.lemmas.Bool.{cases_lt}
use Rattle.std.proofs.lemmas.List.{map-append, take-take}
use Rattle.std.proofs.lemmas.Option.{slice_get-map, slice_get_within}
use Rattle.gs_base.specs.declared.numbers.ReqId.{ReqId}
use Rattle.gs_base.specs.declared.numbers.Stamp.{Stamp}
use Rattle.gs_edit.proofs.Tables.{seen}
use Rattle.gs_laws_chunk.proofs.lemmas.machine.Lists.{take_at, take_from, take_within}
use Rattle.gs_client.specs.declared.link.Reply.TheVariants as replies
use Rattle.gs_laws_chunks.proofs.lemmas.accounts.Asked.{edits_were_asked}
use Rattle.gs_laws_chunks.proofs.lemmas.accounts.Edits.{AreNumbered}
use Rattle.gs_laws_chunks.proofs.lemmas.accounts.Holding.{done_stays, reach_more}
use Rattle.gs_laws_chunks.proofs.lemmas.accounts.OnePlace.{edits_have_one_place}
use Rattle.gs_laws_chunks.proofs.lemmas.accounts.Pushed.{same_or_other}
use Rattle.gs_laws_chunks.proofs.lemmas.accounts.Runs.{keeps_told}
use Rattle.gs_laws_chunks.proofs.lemmas.accounts.SeeingThrough.{each_is_seen_through}
use Rattle.gs_laws_chunks.proofs.lemmas.answers.Replied.{begins_replied, run_replied}
use Rattle.gs_laws_chunks.proofs.lemmas.calls.Fresh.{unasked_yet}
use Rattle.gs_laws_chunks.proofs.lemmas.calls.Reached.{reached_runs}
use Rattle.gs_laws_chunks.specs.answers.Replied.{SaysReply}
use Rattle.gs_laws_chunks.specs.accounts.Accounts.{Account, settled_edits, settled_in, text_of, view_at}
use Rattle.gs_laws_chunks.specs.accounts.Acknowledged.{IsAskedHere, IsNumbered}
use Rattle.gs_laws_chunks.specs.accounts.OnePlace.{IsAskedOf, IsUnasked, StandsAt}
use Rattle.gs_laws_chunks.specs.accounts.Running.{IsReached, Moves, Runs, Setup}
use Rattle.gs_laws_lift.proofs.lemmas.copies.Counted.{is_listed_there}
use Rattle.gs_laws_lift.specs.stores.Left.{left_in}
use Rattle.gs_laws_master.specs.Promises.{IsKept}
use Rattle.gs_laws_moves.specs.moves.Epochs.{rolls_back}
use Rattle.gs_laws_plain.proofs.lemmas.commands.Rows.{at_mapped}
use Rattle.gs_laws_plain.specs.commands.Commands.{edit_at, text_at}
use Rattle.gs_laws_plain.specs.commands.Places.{op_of}
use Rattle.gs_lease.specs.declared.view.View.{View}
use Rattle.gs_master_spec.specs.Durable.{is_listed}
use Rattle.gs_msg.specs.declared.body.Body.{Body}
use Rattle.gs_msg.specs.declared.body.Body.TheVariants as bodies
use Rattle.gs_path.specs.Path.{Path}
use Rattle.gs_replica.specs.Stands.{Edit, outcome_at}
use Rattle.gs_replica.specs.declared.op.EditOutcome.{EditOutcome}
use Rattle.gs_tree.specs.Edits.{chunks_in}
use Rattle.gs_tree.specs.Entry.{Dir, Entry, File}
use Rattle.gs_tree.specs.Find.{at}
use Rattle.gs_tree.specs.Mapped.{mapped_at}
use Rattle.gs_world.proofs.Reaching.{HaveSizes}
use Rattle.gs_world.specs.Histories.{History}
use Rattle.gs_world.specs.Runs.{Step}
use Rattle.gs_laws_runs.specs.plain.Done.{DoneAreMade, HasStep, IsCommandAt, IsMadeAt, IsSettledOf, ToldAreMade}
use Rattle.gs_laws_runs.specs.plain.Plainly.{IsPlainStep, StepsArePlain}
use Rattle.gs_laws_runs.specs.plain.Settling.{newly_settled, settled_at}
use Rattle.gs_laws_runs.specs.plain.Views.{chunk_at, plain_view, texts_of}

-- ---- lists

-- a list has an edit of a request, or it has none
found : (edits : List Edit) (req : ReqId) → ((place : ℕ) × StandsAt edits req place) ⊎ ((place : ℕ) → StandsAt edits req place → ⊥)
found [] req = inr (λ place here. none_at place here.edit here.stands)
  where
    none_at : (place : ℕ) (edit : Edit) → ◌≡◌ {A = Option Edit} (slice_get [] place) (Some edit) → ⊥
    none_at place edit is = absurd (cc)
found (e ∷ edits) req = elim (same_or_other e.req req) [
  | inl is ↦ inl (0, record { edit = e; stands = refl; is = is })
  | inr other ↦ elim (found edits req) [
    | inl (place, here) ↦ inl (suc place, record { edit = here.edit; stands = here.stands; is = here.is })
    | inr none ↦ inr (in_neither other none)
  ]
]
  where
    first_is : (edit : Edit) → Some e ≡ Some edit → e ≡ edit
    first_is edit is = cc

    in_neither : (e.req ≡ req → ⊥) → ((place : ℕ) → StandsAt edits req place → ⊥) → (place : ℕ) → StandsAt (e ∷ edits) req place → ⊥
    in_neither other none zero here = other (ap (λ (x : Edit). x.req) (first_is here.edit here.stands) ∙ here.is)
    in_neither other none (suc place) here = none place (record { edit = here.edit; stands = here.stands; is = here.is })

-- what stands at a place parts the list
parted : {X : Type 0} (xs : List X) (k : ℕ) (x : X) → slice_get xs k ≡ Some x → xs ≡ take k xs ++ x ∷ drop (suc k) xs
parted [] k x here = absurd (let w = slice_get_within [] k x here in omega arith)
parted (y ∷ xs) zero x here = ap (λ z. z ∷ xs) (same y x here)
  where
    same : {X : Type 0} (a b : X) → Some a ≡ Some b → a ≡ b
    same a b is = cc
parted (y ∷ xs) (suc k) x here = ap (λ zs. y ∷ zs) (parted xs k x here)

none_less : (k : ℕ) → k ≡ k - 0
none_less k = omega arith

one_less : (k n : ℕ) → k - n ≡ suc k - suc n
one_less k n = omega arith

-- at a place behind the first ones
at_behind : {X : Type 0} (xs ys : List X) (k : ℕ) → length xs ≤ k → slice_get (xs ++ ys) k ≡ slice_get ys (k - length xs)
at_behind [] ys k l = ap (slice_get ys) (none_less k)
at_behind (x ∷ xs) ys zero l = absurd (omega arith)
at_behind (x ∷ xs) ys (suc k) l = at_behind xs ys k (omega arith) ∙ ap (slice_get ys) (one_less k (length xs))

take_behind : {X : Type 0} (xs ys : List X) (k : ℕ) → length xs ≤ k → take k (xs ++ ys) ≡ xs ++ take (k - length xs) ys
take_behind [] ys k l = ap (λ n. take n ys) (none_less k)
take_behind (x ∷ xs) ys zero l = absurd (omega arith)
take_behind (x ∷ xs) ys (suc k) l = ap (λ zs. x ∷ zs) (take_behind xs ys k (omega arith) ∙ ap (λ n. xs ++ take n ys) (one_less k (length xs)))

-- ---- steps

module _ {D : Type 0} (x : Setup D) (P : Account → Type 0) (decide : (a : Account) → P a ⊎ (P a → ⊥)) where
  abbrev Found : (steps : List Step) (old new : History D) (a b : Account) → Type 0
  Found steps old new a b = (s : HasStep x steps old a new b) × (P s.c → ⊥) × P s.d

  later : (step : Step) (steps : List Step) (old mid new : History D) (a c b : Account) → Moves x step old a mid c → Found steps mid new c b → Found (step ∷ steps) old new a b
  later step steps old mid new a c b moves (s, before, after) = (
    record {
      before = step ∷ s.before;
      mid = s.mid;
      c = s.c;
      step = s.step;
      next = s.next;
      d = s.d;
      after = s.after;
      is = ap (λ zs. step ∷ zs) s.is;
      first = (mid, c, moves, s.first);
      moves = s.moves;
      rest = s.rest;
    },
    before,
    after,
  )

  -- what doesn't hold at first, and holds in the end, comes to hold at a step
  pub first_step : (steps : List Step) (old new : History D) (a b : Account) → Runs x steps old a new b → (P a → ⊥) → P b → Found steps old new a b
  first_step [] old new a b runs before after = absurd (before (subst P runs.1 after))
  first_step (step ∷ steps) old new a b (mid, c, moves, rest) before after = elim (decide c) [
    | inl holds ↦ (record { before = []; mid = old; c = a; step = step; next = mid; d = c; after = steps; is = refl; first = (refl, refl); moves = moves; rest = rest }, before, holds)
    | inr never ↦ later step steps old mid new a c b moves (first_step steps mid new c b rest never after)
  ]

-- ---- what is settled

settled_or_not : (chunk : ℕ) (req : ReqId) (a : Account) → IsSettledOf a chunk req ⊎ (IsSettledOf a chunk req → ⊥)
settled_or_not chunk req a = by_listed (is_listed a.durable chunk) refl
  where
    by_listed : (b : _) → is_listed a.durable chunk ≡ b → IsSettledOf a chunk req ⊎ (IsSettledOf a chunk req → ⊥)
    by_listed false out = inr (λ s. let is = s.listed in absurd (cc))
    by_listed true listed = elim (found (settled_edits a chunk) req) [
      | inl (place, here) ↦ inl (record { listed = listed; place = place; stands = here })
      | inr none ↦ inr (λ s. none s.place s.stands)
    ]

-- what is settled stands in the list of the last view, behind the same edits
pub record IsOfList (a : Account) (chunk : ℕ) (req : ReqId) (place : ℕ) : Type 0 where
  pub stamp : Stamp
  pub stands : StandsAt (a.list chunk stamp) req place
  pub same : take (place + 1) (settled_edits a chunk) ≡ take (place + 1) (a.list chunk stamp)

of_list : (a : Account) (chunk : ℕ) (req : ReqId) (place : ℕ) → StandsAt (settled_edits a chunk) req place → IsOfList a chunk req place
of_list a chunk req place here = by_view (view_at a chunk) refl
  where
    none_at : (edit : Edit) → ◌≡◌ {A = Option Edit} (slice_get [] place) (Some edit) → ⊥
    none_at edit is = absurd (cc)

    by_view : (o : Option View) → view_at a chunk ≡ o → IsOfList a chunk req place
    by_view None is = absurd (none_at here.edit (subst (λ o. slice_get (settled_in a chunk o) place ≡ Some here.edit) is here.stands))
    by_view (Some view) is =
        let there : slice_get (settled_in a chunk (Some view)) place ≡ Some here.edit = subst (λ o. slice_get (settled_in a chunk o) place ≡ Some here.edit) is here.stands in
        let within = take_within (a.list chunk view.stamp) _ place here.edit there in
        record {
          stamp = view.stamp;
          stands = record { edit = here.edit; stands = take_from (a.list chunk view.stamp) _ place here.edit there; is = here.is };
          same = ap (λ o. take (place + 1) (settled_in a chunk o)) is ∙ take-take (place + 1) _ (a.list chunk view.stamp) (omega arith);
        }

-- ---- the text at a place

text_there : (f : ℕ → List ℕ) (o : Option (Entry ℕ)) (index chunk : ℕ) → slice_get (chunks_in o) index ≡ Some chunk → unwrap_or (slice_get (chunks_in (mapped_at f o)) index) [] ≡ f chunk
text_there f None index chunk here = absurd (let w = slice_get_within [] index chunk here in omega arith)
text_there f (Some Dir) index chunk here = absurd (let w = slice_get_within [] index chunk here in omega arith)
text_there f (Some (File chunks)) index chunk here = ap (λ o. unwrap_or o []) (slice_get-map f chunks index ∙ ap (option_map f) here)

text_of_place : (size : ℕ) (a : Account) (p : Path) (index chunk : ℕ) → chunk_at a p index ≡ Some chunk → text_at (plain_view size a).tree p index ≡ text_of size (settled_edits a chunk)
text_of_place size a p index chunk here =
    let rows = fin.entries a.durable.names.tree in
    ap (λ o. unwrap_or (slice_get (chunks_in o) index) []) (at_mapped (texts_of size a).now rows p)
    ∙ text_there (texts_of size a).now (at rows p) index chunk (ap (λ m. slice_get (chunks_in (m p)) index) (sym (seen a.durable.names.tree)) ∙ here)

-- ---- a step at which it comes to be settled

module _ {D : Type 0} (x : Setup D) (steps : List Step) (old new : History D) (a b : Account) (s : HasStep x steps old a new b) (plain : IsPlainStep x.config.chunk s.step s.mid s.next s.c s.d) (chunk : ℕ) (req : ReqId) (never : IsSettledOf s.c chunk req → ⊥) (then : IsSettledOf s.d chunk req) where
  abbrev was : List Edit
  was = settled_edits s.c chunk

  abbrev newly : List Edit
  newly = newly_settled s.c s.d chunk

  abbrev edit : Edit
  edit = then.stands.edit

  abbrev place : ℕ
  place = then.place

  module _ (p : Path) (index : ℕ) (goes_on : rolls_back s.c.durable s.d.durable ≡ false) (here : chunk_at s.c p index ≡ Some chunk) (listed : is_listed s.c.durable chunk ≡ true) where
    all : was ++ newly ≡ settled_edits s.d chunk
    all = plain.grows chunk goes_on then.listed

    at_all : slice_get (was ++ newly) place ≡ Some edit
    at_all = ap (λ xs. slice_get xs place) all ∙ then.stands.stands

    long : length was ≤ place
    long = elim (cases_lt place (length was)) [
      | inl inside ↦ absurd (never (record { listed = listed; place = place; stands = record { edit = edit; stands = inside_is was newly place edit inside at_all; is = then.stands.is } }))
      | inr low ↦ low
    ]
      where
        inside_is : (xs ys : List Edit) (k : ℕ) (e : Edit) → k < length xs → slice_get (xs ++ ys) k ≡ Some e → slice_get xs k ≡ Some e
        inside_is [] ys k e less is = absurd (omega arith)
        inside_is (y ∷ xs) ys zero e less is = is
        inside_is (y ∷ xs) ys (suc k) e less is = inside_is xs ys k e (omega arith) is

    abbrev behind : ℕ
    behind = place - length was

    at_newly : slice_get newly behind ≡ Some edit
    at_newly = sym (at_behind was newly place long) ∙ at_all

    commands : filter_map (edit_at p index) plain.commands ≡ map op_of (take behind newly) ++ op_of edit ∷ map op_of (drop (suc behind) newly)
    commands = plain.edits p index ∙ ap (λ o. map op_of (settled_at s.c s.d o)) here ∙ ap (map op_of) (parted newly behind edit at_newly) ∙ map-append op_of (take behind newly) (edit ∷ drop (suc behind) newly)

    is_command : IsCommandAt x s chunk (take place (settled_edits s.d chunk)) edit p index
    is_command = record {
      plain = plain;
      more = take behind newly;
      later = drop (suc behind) newly;
      text = text_of_place x.config.chunk s.c p index chunk here;
      behind = ap (take place) (sym all) ∙ take_behind was newly place long;
      settles = parted newly behind edit at_newly;
      commands = commands;
    }

-- ---- a run

kept_of : HaveSizes → AreNumbered → {D : Type 0} (x : Setup D) (now : History D) (a : Account) → IsReached x now a → IsKept a.durable
kept_of sizes law x now a r = (let sees = each_is_seen_through sizes law x now a r in keeps_told x sees.0 (left_in now) a sees.2)

module _ (sizes : HaveSizes) (law : AreNumbered) {D : Type 0} (x : Setup D) (plain : StepsArePlain x) where
  -- what nobody asked for isn't settled
  unasked_open : (old : History D) (a : Account) (req : ReqId) (chunk : ℕ) → IsReached x old a → IsUnasked old.sent req → IsSettledOf a chunk req → ⊥
  unasked_open old a req chunk r unasked is =
      let of = of_list a chunk req is.place is.stands in
      let asked = edits_were_asked sizes law x old a chunk of.stamp is.place of.stands.edit r of.stands.stands in
      let was = asked.2.was in
      unasked asked.0 (subst (IsAskedOf old.sent asked.0) of.stands.is (record { message = was.0; stamp = asked.1; op = was.1; was = was.2; says = was.3 }))

  module _ (old new : History D) (a b : Account) (steps : List Step) (req : ReqId) (outcome : EditOutcome) (r : IsReached x old a) (runs : Runs x steps old a new b) (chunk : ℕ) (numbered : IsNumbered x.config.chunk new.sent b chunk req outcome)
      (s : HasStep x steps old a new b) (never : IsSettledOf s.c chunk req → ⊥) (then : IsSettledOf s.d chunk req) where
    mid_reached : IsReached x s.mid s.c
    mid_reached = reach_more x old s.mid a s.c s.before r s.first

    next_reached : IsReached x s.next s.d
    next_reached = reach_more x s.mid s.next s.c s.d (s.step ∷ []) mid_reached (s.next, s.d, s.moves, (refl, refl))

    abbrev its_place : ℕ
    its_place = then.place

    abbrev its_edit : Edit
    its_edit = then.stands.edit

    of : IsOfList s.d chunk req its_place
    of = of_list s.d chunk req its_place then.stands

    asked_of : IsAskedOf new.sent chunk req
    asked_of = (let was = numbered.asked.was in record { message = was.0; stamp = numbered.stamp; op = was.1; was = was.2; says = was.3 })

    -- it stands there as it was numbered
    alike : (numbered.place ≡ its_place) × (take (its_place + 1) (b.list chunk numbered.stamp) ≡ take (its_place + 1) (s.d.list chunk of.stamp))
    alike = edits_have_one_place sizes law x s.next new s.d b s.after chunk req of.stamp numbered.stamp its_place numbered.place next_reached s.rest asked_of of.stands (record { edit = numbered.once.edit; stands = numbered.once.stands; is = numbered.once.is })

    all_alike : take (its_place + 1) (settled_edits s.d chunk) ≡ take (its_place + 1) (b.list chunk numbered.stamp)
    all_alike = of.same ∙ sym alike.1

    earlier : take its_place (settled_edits s.d chunk) ≡ take numbered.place (b.list chunk numbered.stamp)
    earlier =
        sym (take-take its_place (its_place + 1) (settled_edits s.d chunk) (omega arith)) ∙ ap (take its_place) all_alike ∙ take-take its_place (its_place + 1) (b.list chunk numbered.stamp) (omega arith)
        ∙ ap (λ n. take n (b.list chunk numbered.stamp)) (sym alike.0)

    same_edit : its_edit ≡ numbered.once.edit
    same_edit = one_is its_edit numbered.once.edit (sym at_list ∙ ap (λ n. slice_get (b.list chunk numbered.stamp) n) (sym alike.0) ∙ numbered.once.stands)
      where
        one_is : (e f : Edit) → Some e ≡ Some f → e ≡ f
        one_is e f is = cc

        at_list : slice_get (b.list chunk numbered.stamp) its_place ≡ Some its_edit
        at_list =
            take_from (b.list chunk numbered.stamp) (its_place + 1) its_place its_edit (subst (λ xs. slice_get xs its_place ≡ Some its_edit) all_alike (take_at (settled_edits s.d chunk) (its_place + 1) its_place its_edit (omega arith) then.stands.stands))

    is_made : IsMadeAt x s chunk req outcome
    is_made = record {
      not_before = never;
      listed = then.listed;
      earlier = take its_place (settled_edits s.d chunk);
      edit = its_edit;
      later = drop (suc its_place) (settled_edits s.d chunk);
      settled = parted (settled_edits s.d chunk) its_place its_edit then.stands.stands;
      stamp = numbered.stamp;
      asked = subst (λ xs. IsAskedHere x.config.chunk new.sent chunk req numbered.stamp xs its_edit) (sym earlier) (subst (λ e. IsAskedHere x.config.chunk new.sent chunk req numbered.stamp (take numbered.place (b.list chunk numbered.stamp)) e) (sym same_edit) numbered.asked);
      is = then.stands.is;
      answered = numbered.answered ∙ ap (λ (e : Edit). outcome_at e.op (length (text_of x.config.chunk (take numbered.place (b.list chunk numbered.stamp))))) (sym same_edit) ∙ ap (λ xs. outcome_at its_edit.op (length (text_of x.config.chunk xs))) (sym earlier);
      made = λ p index goes_on here.
          is_command x steps old new a b s (plain s.mid s.next s.c s.d s.step mid_reached s.moves) chunk req never then p index goes_on here
          (is_listed_there s.c.durable.names (kept_of sizes law x s.mid s.c mid_reached).names chunk p index here);
    }

  pub dones_are_made : DoneAreMade x
  dones_are_made old new a b steps req outcome r runs unasked done =
      let reached = reach_more x old new a b steps r runs in
      let stays = done_stays sizes law x new new b b [] req outcome reached (refl, refl) done in (
        stays.0,
        elim stays.1 [
          | inl passed ↦ inl passed.0
          | inr (numbered, still) ↦ inr (
            numbered,
            λ listed spared.
                let now = still listed spared in
                let settled : IsSettledOf b stays.0 req = record { listed = listed; place = numbered.place; stands = record { edit = now.once.edit; stands = now.once.stands; is = now.once.is } } in
                let found = first_step x (λ c. IsSettledOf c stays.0 req) (settled_or_not stays.0 req) steps old new a b runs (unasked_open old a req stays.0 r unasked) settled in
                (found.0, is_made old new a b steps req outcome r runs stays.0 numbered found.0 found.1 found.2),
          )
        ],
      )

  -- ---- what a client has

  pub told_are_made : ToldAreMade x
  told_are_made old new a b steps client before after number outcome r runs there fresh found last has =
      let req : ReqId = record { client = client; number = number } in
      let reached = reach_more x old new a b steps r runs in
      let h = reached_runs x new b reached in
      let replied = run_replied x.seen x.failures x.armed h.steps h.begun new h.runs (begins_replied x.seen x.failures x.armed h.config h.clients h.disks h.begun h.begins) in
      let was = replied.replied client after (replies.Outcome outcome) found has in
      let done = said_done was.message.body req outcome (subst (λ n. SaysReply (record { client = client; number = n }) (replies.Outcome outcome) was.message.body) last was.says) in
      dones_are_made old new a b steps req outcome r runs (unasked_yet sizes law x old a req before r there fresh) (was.message, was.was, done)
    where
      same_outcome : (one other : EditOutcome) → replies.Outcome one ≡ replies.Outcome other → other ≡ one
      same_outcome one other is = cc

      said_done : (body : Body) (req : ReqId) (outcome : EditOutcome) → SaysReply req (replies.Outcome outcome) body → body ≡ bodies.Done req (Ok outcome)
      said_done (bodies.Done other (Ok told)) req outcome (same, is) = ap (λ r. bodies.Done r (Ok told)) same ∙ ap (λ o. bodies.Done req (Ok o)) (same_outcome outcome told is)
      said_done (bodies.Done other (Err e)) req outcome (same, is) = absurd (cc)
      said_done (bodies.Reply other (Ok answer)) req outcome (same, is) = absurd (cc)
      said_done (bodies.Reply other (Err e)) req outcome (same, is) = absurd (cc)
      said_done (bodies.Bytes other (Ok given)) req outcome (same, is) = absurd (cc)
      said_done (bodies.Bytes other (Err e)) req outcome (same, is) = absurd (cc)
      said_done (bodies.About handle said) req outcome says = absurd says
      said_done (bodies.Call other call) req outcome says = absurd says
      said_done (bodies.Push other bytes) req outcome says = absurd says
      said_done (bodies.MakeCopy handle stamp new_handle new_stamp) req outcome says = absurd says
      said_done (bodies.Report epoch items) req outcome says = absurd says
      said_done (bodies.Epoch epoch end) req outcome says = absurd says
      said_done (bodies.Learned epoch handles) req outcome says = absurd says
      said_done (bodies.Behind epoch) req outcome says = absurd says
