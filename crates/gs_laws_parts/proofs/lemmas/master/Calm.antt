-- All chunks together over moves of which none is alone, and over one that is.
use Rattle.std.proofs.Common.{◌≡◌, ◌∙◌, ◌==◌, ◌&&◌, not, ◌||◌, ◌++◌, ◌<◌, ◌≤◌, ℕ, Bool, true, false, List, [], ◌∷◌, None, refl, sym, ap, subst, arith}
use Rattle.std.specs.Prelude.{is_some, nat_lt}
use Rattle.std.specs.FinMap as fin
use Rattle.std.specs.List.{AllByRecursion}
use Rattle.std.proofs.lemmas.Bool.{false≢true, true≢false}
use Rattle.std.proofs.lemmas.Bool.Decides.{nat_tests}
use Rattle.gs_base.specs.Members.{is_member}
use Rattle.gs_base.specs.declared.config.Config.{Config}
use Rattle.gs_base.specs.declared.numbers.ReqId.{ReqId}
use Rattle.gs_base.specs.declared.numbers.Stamp.{Stamp}
use Rattle.gs_lease.specs.declared.view.View.{View}
use Rattle.gs_msg.specs.declared.body.Body.{Body}
use Rattle.gs_msg.specs.declared.body.Body.TheVariants as bodies
use Rattle.gs_msg.specs.declared.message.Message.{Message}
use Rattle.gs_msg.specs.declared.node.NodeId.TheVariants as nodes
use Rattle.gs_master_spec.specs.Beginning.{next_stamp}
use Rattle.gs_master_spec.specs.Durable.{Durable, is_listed}
use Rattle.gs_master_spec.specs.State.{State, Turn, post, to_each}
use Rattle.gs_master_spec.specs.declared.asking.Asking.{Asking}
use Rattle.gs_laws_moves.proofs.lemmas.moves.Fitting.{mapped}
use Rattle.gs_laws_moves.proofs.lemmas.moves.Rows.{copies_are_listed, listed_stay, new_are_unled, rows_go_over}
use Rattle.gs_laws_moves.specs.moves.Epochs.{closes, is_alone}
use Rattle.gs_laws_moves.specs.moves.Guards.{Heard, IsMade, MayCopy, is_location}
use Rattle.gs_laws_moves.specs.moves.Laws.{IsMadeWell}
use Rattle.gs_laws_moves.specs.moves.Moves.{Alone, Answers, Beside, Chain, CommitsRollback, Copies, FromNow, Further, Move, Moves, Refuses, Rests as Rests_it, Settles, TellsRollback, Then, move_turn}
use Rattle.gs_laws_moves.specs.moves.Moved.{is_commit}
use Rattle.gs_laws_moves.specs.moves.Rows.{CopiesListed, RowGoes}
use Rattle.gs_laws_chunk.proofs.lemmas.machine.Committed.{members_stood}
use Rattle.gs_laws_chunk.proofs.lemmas.machine.Facts.{reached_world}
use Rattle.gs_laws_chunk.proofs.lemmas.machine.Lasting.{agrees}
use Rattle.gs_laws_chunk.proofs.lemmas.machine.Worlds.{leads_later, leads_then}
use Rattle.gs_laws_chunk.specs.machine.Events.{Leads}
use Rattle.gs_laws_chunk.specs.machine.Laws.{Birth, IsReached, world_of}
use Rattle.gs_laws_chunk.specs.machine.Machine.{ChunkWorld}
use Rattle.gs_laws_chunk.specs.machine.Machine as machine
use Rattle.gs_laws_parts.proofs.lemmas.master.Carrying.{all_append}
use Rattle.gs_laws_parts.proofs.lemmas.master.Families.{CopiesNothing, LeftBy, at_is, families_both, family_hears, family_marks, family_still, fixed_on, is_copying, is_fixed, move_family, no_copies, nothing_so}
use Rattle.gs_laws_parts.proofs.lemmas.master.Settling.{row_settled}
use Rattle.gs_laws_parts.proofs.lemmas.master.Stamps.{same_number}
use Rattle.gs_laws_parts.specs.master.Families.{Alive, Family, FamilyGoes, Goes, HeardOf, IsAlive, Life, MarksOf, Unborn}
use Rattle.gs_laws_parts.specs.master.Rows.{AreCopiedSince, CopiesSince, IsCopiedSince}
use Rattle.gs_laws_parts.specs.master.Showing.{primary_of}
use Rattle.gs_laws_parts.specs.master.Single.{AsOf, IsUnmoved}
use Rattle.gs_laws_parts.specs.master.Unborn.{IsUnborn, SaysNothing, SaysNothingIn}

-- ---- moves of which none is alone

-- Nobody may number in a view that was settled since, of a chunk that no file has; and copies of the chunk are asked for under views that stood at the beginning, or were settled since.
pub record CalmGoes (chunk : ℕ) (e : Durable) (messages : List Message) (low : ℕ) (w v : ChunkWorld) : Type 0 where
  pub unled : w.known.view < v.known.view → is_listed e chunk ≡ false → v.entry.view.holder ≡ None
  pub copies : AreCopiedSince chunk e low w.entry.is_known v messages

-- so it is of a chunk that lives, and of one that is born
abbrev pub CalmIn : (chunk : ℕ) (s u : State) (messages : List Message) → Life chunk s → Life chunk u → Type 0
CalmIn chunk s u messages (Alive a) (Alive b) = CalmGoes chunk u.durable messages a.world.known.view a.world b.world
CalmIn chunk s u messages (Unborn k) (Alive b) = CalmGoes chunk u.durable messages 0 (world_of b.reached.0) b.world
CalmIn chunk s u messages life (Unborn k) = Unit {0}

pub record CalmFamily (keeps : ℕ → Bool) (whole : ℕ → ℕ → Bool) (s u : State) (messages : List Message) (family : Family s) : Type 0 where
  pub goes : FamilyGoes keeps whole s u messages family
  pub calm : (chunk : ℕ) → CalmIn chunk s u messages (family chunk) (goes.last chunk)

-- So it is over each chain of such moves,
abbrev pub FamiliesCalm : Type 0
FamiliesCalm = (keeps : ℕ → Bool) (whole : ℕ → ℕ → Bool) (config : Config) (heard : Heard) (s : State) (t : Turn) (family : Family s) → ((chunk : ℕ) → HeardOf chunk s heard (family chunk)) → ((chunk : ℕ) → MarksOf chunk s (whole chunk) (family chunk))
    → Chain config (λ u move. IsMadeWell config heard u move × (is_alone move ≡ false)) s t → CalmFamily keeps whole s t.after t.sent family

-- as those are by which calls end.
abbrev pub FamiliesClose : Type 0
FamiliesClose = (keeps : ℕ → Bool) (whole : ℕ → ℕ → Bool) (config : Config) (heard : Heard) (s : State) (t : Turn) (family : Family s) → ((chunk : ℕ) → HeardOf chunk s heard (family chunk)) → ((chunk : ℕ) → MarksOf chunk s (whole chunk) (family chunk))
    → Chain config (λ u move. IsMadeWell config heard u move × (closes move ≡ true)) s t → CalmFamily keeps whole s t.after t.sent family

-- ---- one that is alone

-- It bears no chunk and copies none, and of each that lives it makes what such a move makes of its view.
abbrev pub AloneIn : (chunk : ℕ) → Move → (s u : State) (messages : List Message) → Life chunk s → Life chunk u → Type 0
AloneIn chunk move s u messages (Alive a) (Alive b) = AsOf chunk move u a.world b.world × AreCopiedSince chunk u.durable a.world.known.view a.world.entry.is_known b.world messages
AloneIn chunk move s u messages (Unborn k) (Alive b) = ⊥
AloneIn chunk move s u messages life (Unborn k) = Unit {0}

pub record AloneFamily (keeps : ℕ → Bool) (whole : ℕ → ℕ → Bool) (move : Move) (s u : State) (messages : List Message) (family : Family s) : Type 0 where
  pub goes : FamilyGoes keeps whole s u messages family
  pub alone : (chunk : ℕ) → AloneIn chunk move s u messages (family chunk) (goes.last chunk)

abbrev pub FamiliesAlone : Type 0
FamiliesAlone = (keeps : ℕ → Bool) (whole : ℕ → ℕ → Bool) (config : Config) (heard : Heard) (s : State) (move : Move) (family : Family s) → ((chunk : ℕ) → HeardOf chunk s heard (family chunk)) → ((chunk : ℕ) → MarksOf chunk s (whole chunk) (family chunk))
    → IsMadeWell config heard s move → is_alone move ≡ true → AloneFamily keeps whole move s (move_turn config s move).after (move_turn config s move).sent family

-- ---- copies, over one move

-- a turn of one move
abbrev turn_of_one : Config → State → Move → Turn
turn_of_one config s move = record (move_turn config s move) { said = None }

one_move : (config : Config) (heard : Heard) (s : State) (move : Move) → IsMadeWell config heard s move → is_alone move ≡ false → Chain config (λ u m. IsMade config heard u m × (is_alone m ≡ false)) s (turn_of_one config s move)
one_move config heard s move well beside = Moves s move None (well.made, beside)

-- what copies nothing copies it from nowhere
none_since : (chunk : ℕ) (e : Durable) (low : ℕ) (was : Bool) (w : ChunkWorld) (m : Message) → CopiesNothing m.body → CopiesSince chunk e low was w m.body
none_since chunk e low was w m none = by_body m.body none
  where
    by_body : (body : Body) → CopiesNothing body → CopiesSince chunk e low was w body
    by_body (bodies.MakeCopy old at new stamp) none = absurd none
    by_body body none = tt

module _ (config : Config) (heard : Heard) (s : State) (old : ℕ) (view : View) (req : ReqId) (beside : Beside) (well : IsMadeWell config heard s (Copies old view req beside)) where
  abbrev turn : Turn
  turn = move_turn config s (Copies old view req beside)

  abbrev copy_for : ℕ → Message
  copy_for server = post (nodes.Server server) (bodies.MakeCopy old view.stamp (s.durable.next_handle) (next_stamp s.durable))

  sent_is : turn.sent ≡ to_each view.members copy_for
  sent_is = by_beside beside
    where
      by_beside : (b : Beside) → (move_turn config s (Copies old view req b)).sent ≡ to_each view.members copy_for
      by_beside Alone = refl
      by_beside (FromNow by waiting) = refl
      by_beside (Further by waiting) = refl

  -- the view of the old chunk stood, and nobody may number in it
  copied_since : (chunk : ℕ) (a : IsAlive chunk s) (b : IsAlive chunk turn.after) → Leads a.world b.world → (me : ℕ) → is_member view.members me ≡ true → is_listed turn.after.durable old ≡ true → old ≡ chunk → IsCopiedSince chunk turn.after.durable a.world.known.view a.world.entry.is_known b.world view.stamp
  copied_since chunk a b leads me on listed same =
      let may : MayCopy s chunk view = subst (λ c. MayCopy s c view) same well.made.may.0 in
      let t = a.world.entry.view.stamp in
      let fixed = fixed_on a.world b.world t me _ a.reached leads (is_fixed chunk s a view may me on) in
      let peopled = members_stood b.world t me b.reached fixed.member in
      record {
        t = t;
        known = a.shows.entry.memory.known ∙ may.known;
        is = at_is chunk s a view may;
        since = (let same_view = (agrees a.world (reached_world a.world a.reached)).view in omega arith);
        within = fixed.within;
        free = fixed.free;
        stood = peopled.0;
        late = peopled.1;
        listed = subst (λ c. is_listed turn.after.durable c ≡ true) same listed;
      }

  each_since : (chunk : ℕ) (a : IsAlive chunk s) (b : IsAlive chunk turn.after) → Leads a.world b.world → (js : List ℕ) → ((j : ℕ) → is_member js j ≡ true → is_member view.members j ≡ true) → AllByRecursion (λ (m : Message). CopiesListed turn.after.durable m.body) (to_each js copy_for)
      → AreCopiedSince chunk turn.after.durable a.world.known.view a.world.entry.is_known b.world (to_each js copy_for)
  each_since chunk a b leads [] within listed = tt
  each_since chunk a b leads (j ∷ js) within listed = (
    copied_since chunk a b leads j (within j (first (j == j) (itself j))) listed.0,
    each_since chunk a b leads js (λ x here. within x (second (j == x) (is_member js x) here)) listed.1,
  )
    where
      itself : (n : ℕ) → (n == n) ≡ true
      itself n = grind (arith, nat_tests)

      first : (b : Bool) → b ≡ true → (b || is_member js j) ≡ true
      first true h = refl
      first false h = absurd (false≢true h)

      second : (b c : Bool) → c ≡ true → (b || c) ≡ true
      second true c h = refl
      second false c h = h

  all_since : (chunk : ℕ) (a : IsAlive chunk s) (b : IsAlive chunk turn.after) → Leads a.world b.world → AreCopiedSince chunk turn.after.durable a.world.known.view a.world.entry.is_known b.world turn.sent
  all_since chunk a b leads =
      subst (AreCopiedSince chunk turn.after.durable a.world.known.view a.world.entry.is_known b.world) (sym sent_is)
      (each_since chunk a b leads view.members (λ j here. here) (subst (AllByRecursion (λ (m : Message). CopiesListed turn.after.durable m.body)) sent_is (copies_are_listed config heard s (turn_of_one config s (Copies old view req beside)) (one_move config heard s (Copies old view req beside) well refl))))

  -- of one that isn't born nothing is copied
  none_of : (chunk : ℕ) (k : IsUnborn chunk s) (e : Durable) (low : ℕ) (was : Bool) (w : ChunkWorld) → AreCopiedSince chunk e low was w turn.sent
  none_of chunk k e low was w = subst (AreCopiedSince chunk e low was w) (sym sent_is) (each view.members)
    where
      other : old ≡ chunk → ⊥
      other same = false≢true (sym (ap is_some k.ungiven.settled) ∙ ap (λ c. is_some (fin.get s.durable.chunks c)) (sym same) ∙ ap is_some well.made.may.0.settled.has)

      each : (js : List ℕ) → AreCopiedSince chunk e low was w (to_each js copy_for)
      each [] = tt
      each (j ∷ js) = (λ same. absurd (other same), each js)

module _ (config : Config) (heard : Heard) (s : State) (move : Move) (well : IsMadeWell config heard s move) where
  abbrev after : State
  after = (move_turn config s move).after

  abbrev sent : List Message
  sent = (move_turn config s move).sent

  -- so it is over each move
  plain_since : is_copying move ≡ false → (chunk : ℕ) (e : Durable) (low : ℕ) (was : Bool) (w : ChunkWorld) → AreCopiedSince chunk e low was w sent
  plain_since plain chunk e low was w = nothing_so (λ (m : Message). CopiesSince chunk e low was w m.body) (none_since chunk e low was w) sent (no_copies config heard s move well plain)

  move_since : (chunk : ℕ) (a : IsAlive chunk s) (b : IsAlive chunk after) → Leads a.world b.world → AreCopiedSince chunk after.durable a.world.known.view a.world.entry.is_known b.world sent
  move_since chunk a b leads = by_copying (is_copying move) refl
    where
      copying : (m : Move) → is_copying m ≡ true → IsMadeWell config heard s m → (b : IsAlive chunk (move_turn config s m).after) → Leads a.world b.world → AreCopiedSince chunk (move_turn config s m).after.durable a.world.known.view a.world.entry.is_known b.world (move_turn config s m).sent
      copying (Copies old view req beside) is w b leads = all_since config heard s old view req beside w chunk a b leads
      copying m is w b leads = absurd (false≢true is)

      by_copying : (c : Bool) → is_copying move ≡ c → AreCopiedSince chunk after.durable a.world.known.view a.world.entry.is_known b.world sent
      by_copying true is = copying move is well b leads
      by_copying false is = plain_since is chunk after.durable a.world.known.view a.world.entry.is_known b.world

  born_since : (chunk : ℕ) (k : IsUnborn chunk s) (e : Durable) (low : ℕ) (was : Bool) (w : ChunkWorld) → AreCopiedSince chunk e low was w sent
  born_since chunk k e low was w = by_copying (is_copying move) refl
    where
      copying : (m : Move) → is_copying m ≡ true → IsMadeWell config heard s m → AreCopiedSince chunk e low was w (move_turn config s m).sent
      copying (Copies old view req beside) is made = none_of config heard s old view req beside made chunk k e low was w
      copying m is made = absurd (false≢true is)

      by_copying : (c : Bool) → is_copying move ≡ c → AreCopiedSince chunk e low was w sent
      by_copying true is = copying move is well
      by_copying false is = plain_since is chunk e low was w

-- ---- views, over one move

-- a chunk that no file has had none
unlisted_before : (config : Config) (heard : Heard) (s : State) (t : Turn) (chunk : ℕ) → Chain config (λ u move. IsMade config heard u move × (is_alone move ≡ false)) s t → is_listed t.after.durable chunk ≡ false → is_listed s.durable chunk ≡ false
unlisted_before config heard s t chunk chain out = by_listed (is_listed s.durable chunk) refl
  where
    by_listed : (b : Bool) → is_listed s.durable chunk ≡ b → b ≡ false
    by_listed true is = absurd (true≢false (sym (listed_stay config heard s t chunk chain is) ∙ out))
    by_listed false is = refl

module _ (config : Config) (heard : Heard) (s : State) (chunk : ℕ) (a : IsAlive chunk s) where
  pub unmoved_unled : (v : ChunkWorld) → IsReached v → IsUnmoved a.world v → a.world.known.view < v.known.view → v.entry.view.holder ≡ None
  unmoved_unled v reached same later =
      let one = (agrees a.world (reached_world a.world a.reached)).view in
      let two = (agrees v (reached_world v reached)).view in
      let view : v.entry.view.stamp ≡ a.world.entry.view.stamp = ap (λ (x : machine.View). x.stamp) same in
      absurd (omega arith)

  settles_unled : (asking : Asking) (carried : Bool) (view : View) → IsMadeWell config heard s (Settles chunk asking carried view) → (b : IsAlive chunk (move_turn config s (Settles chunk asking carried view)).after)
      → is_listed (move_turn config s (Settles chunk asking carried view)).after.durable chunk ≡ false → b.world.entry.view.holder ≡ None
  settles_unled asking carried view well b out =
      (b.shows.entry.durable.settled (record { view = view; is_moving = false }) (row_settled config heard s chunk asking carried view well.made)).view.holder
      ∙ ap primary_of (new_are_unled config heard s chunk asking carried view well.made (unlisted_before config heard s (turn_of_one config s (Settles chunk asking carried view)) chunk (one_move config heard s (Settles chunk asking carried view) well refl) out))

  move_unled : (move : Move) → IsMadeWell config heard s move → is_alone move ≡ false → (b : IsAlive chunk (move_turn config s move).after) → AsOf chunk move (move_turn config s move).after a.world b.world
      → a.world.known.view < b.world.known.view → is_listed (move_turn config s move).after.durable chunk ≡ false → b.world.entry.view.holder ≡ None
  move_unled (Settles q asking carried view) well beside b left later out = by_key (q == chunk) refl
    where
      by_key : (c : Bool) → (q == chunk) ≡ c → b.world.entry.view.holder ≡ None
      by_key true same =
          subst (λ h. IsMadeWell config heard s (Settles h asking carried view) → (b : IsAlive chunk (move_turn config s (Settles h asking carried view)).after) → is_listed (move_turn config s (Settles h asking carried view)).after.durable chunk ≡ false → b.world.entry.view.holder ≡ None)
          (sym (same_number q chunk same)) (settles_unled asking carried view) well b out
      by_key false other = unmoved_unled b.world b.reached (left other) later
  move_unled (CommitsRollback req names) well beside b left later out = absurd (true≢false beside)
  move_unled move well beside b left later out = unmoved_unled b.world b.reached left later

-- ---- one move

move_calm : (config : Config) (heard : Heard) (s : State) (move : Move) (well : IsMadeWell config heard s move) → is_alone move ≡ false → (chunk : ℕ) (whole : ℕ → Bool) (life : Life chunk s) (last : Life chunk (move_turn config s move).after)
    → Goes chunk whole s (move_turn config s move).after (move_turn config s move).sent life last → LeftBy chunk move s (move_turn config s move).after life last → CalmIn chunk s (move_turn config s move).after (move_turn config s move).sent life last
move_calm config heard s move well beside chunk whole (Alive a) (Alive b) goes left = record { unled = move_unled config heard s chunk a move well beside b left; copies = move_since config heard s move well chunk a b goes.leads }
move_calm config heard s move well beside chunk whole (Unborn k) (Alive b) goes left = record { unled = λ later out. left.0; copies = born_since config heard s move well chunk k (move_turn config s move).after.durable 0 true b.world }
move_calm config heard s move well beside chunk whole life (Unborn k) goes left = tt

-- ---- one part behind the other

-- what was copied is so still
since_on : (chunk : ℕ) (d e : Durable) (low : ℕ) (was : Bool) (m v : ChunkWorld) → IsReached m → Leads m v → (is_listed d chunk ≡ true → is_listed e chunk ≡ true) → (at : Stamp) → IsCopiedSince chunk d low was m at → IsCopiedSince chunk e low was v at
since_on chunk d e low was m v reached leads listed at c =
    let later = leads_later m v leads (reached_world m reached) in
    record {
      t = c.t;
      known = c.known;
      is = c.is;
      since = c.since;
      within = (let up = later.view in let in_it = c.within in omega arith);
      free = (later.fixed c.t c.within c.free).0;
      stood = later.stood c.t c.within ∙ c.stood;
      late = subst (λ n. n < c.t) (sym later.born) c.late;
      listed = listed c.listed;
    }

-- and it was copied since an earlier view, if it was known then
since_low : (chunk : ℕ) (e : Durable) (low high : ℕ) (was is_known : Bool) (v : ChunkWorld) → low ≤ high → (is_known ≡ true → was ≡ true) → (at : Stamp) → IsCopiedSince chunk e high is_known v at → IsCopiedSince chunk e low was v at
since_low chunk e low high was is_known v up came at c = record { t = c.t; known = came c.known; is = c.is; since = (let least = c.since in omega arith); within = c.within; free = c.free; stood = c.stood; late = c.late; listed = c.listed }

all_so : (chunk : ℕ) (d e : Durable) (low high : ℕ) (was is_known : Bool) (m v : ChunkWorld) → ((at : Stamp) → IsCopiedSince chunk d high is_known m at → IsCopiedSince chunk e low was v at) → (messages : List Message) → AreCopiedSince chunk d high is_known m messages
    → AreCopiedSince chunk e low was v messages
all_so chunk d e low high was is_known m v so [] all = tt
all_so chunk d e low high was is_known m v so (x ∷ messages) all = (by_body x.body all.0, all_so chunk d e low high was is_known m v so messages all.1)
  where
    by_body : (body : Body) → CopiesSince chunk d high is_known m body → CopiesSince chunk e low was v body
    by_body (bodies.MakeCopy old at new stamp) c = λ same. so at (c same)
    by_body body c = tt

calm_then : (chunk : ℕ) (d e : Durable) (first next : List Message) (low : ℕ) (w m v : ChunkWorld) → IsReached m → Leads m v → low ≤ m.known.view → (m.entry.is_known ≡ true → w.entry.is_known ≡ true) → (is_listed d chunk ≡ true → is_listed e chunk ≡ true) → CalmGoes chunk d first low w m → CalmGoes chunk e next m.known.view m v → CalmGoes chunk e (first ++ next) low w v
calm_then chunk d e first next low w m v reached leads least came listed f g = record {
  unled = λ later out. by_test (nat_lt m.known.view v.known.view) refl later out;
  copies = all_append (λ (x : Message). CopiesSince chunk e low w.entry.is_known v x.body) first next
      (all_so chunk d e low low w.entry.is_known w.entry.is_known m v (since_on chunk d e low w.entry.is_known m v reached leads listed) first f.copies)
      (all_so chunk e e low m.known.view w.entry.is_known m.entry.is_known v v (since_low chunk e low m.known.view w.entry.is_known m.entry.is_known v least came) next g.copies);
}
  where
    went : IsReached v
    went = (reached.0, leads_then (world_of reached.0) m v reached.1 leads)

    unlisted : is_listed e chunk ≡ false → is_listed d chunk ≡ false
    unlisted out = by_listed (is_listed d chunk) refl
      where
        by_listed : (b : Bool) → is_listed d chunk ≡ b → b ≡ false
        by_listed true is = absurd (true≢false (sym (listed is) ∙ out))
        by_listed false is = refl

    -- the view of the middle stands
    stays : v.known.view ≡ m.known.view → m.entry.view.holder ≡ None → v.entry.view.holder ≡ None
    stays same none =
        let one = agrees m (reached_world m reached) in
        let two = agrees v (reached_world v went) in
        let view : v.entry.view.stamp ≡ m.entry.view.stamp = sym two.view ∙ same ∙ one.view in
        let within : m.entry.view.stamp ≤ m.known.view = (let x = one.view in omega arith) in
        sym two.holder ∙ ap v.known.holder view ∙ (leads_later m v leads (reached_world m reached)).holder m.entry.view.stamp within ∙ one.holder ∙ none

    by_test : (b : Bool) → nat_lt m.known.view v.known.view ≡ b → w.known.view < v.known.view → is_listed e chunk ≡ false → v.entry.view.holder ≡ None
    by_test true less later out = g.unled (grind (arith, nat_tests)) out
    by_test false least later out =
        let up = (leads_later m v leads (reached_world m reached)).view in
        let same : v.known.view ≡ m.known.view = grind (arith, nat_tests) in
        stays same (f.unled (omega arith) (unlisted out))

-- of one that isn't born nothing is copied
silent_since : (chunk epoch : ℕ) (e : Durable) (low : ℕ) (was : Bool) (w : ChunkWorld) (messages : List Message) → AllByRecursion (SaysNothing chunk epoch) messages → AreCopiedSince chunk e low was w messages
silent_since chunk epoch e low was w [] all = tt
silent_since chunk epoch e low was w (m ∷ messages) all = (by_body m.body all.0, silent_since chunk epoch e low was w messages all.1)
  where
    by_body : (body : Body) → SaysNothingIn chunk epoch body → CopiesSince chunk e low was w body
    by_body (bodies.MakeCopy old at new stamp) says = λ same. absurd (says.0 same)
    by_body body says = tt

pub calm_both : (chunk : ℕ) (whole : ℕ → Bool) (s u v : State) (first next : List Message) (l : Life chunk s) (m : Life chunk u) (n : Life chunk v) → RowGoes s u chunk → (is_listed u.durable chunk ≡ true → is_listed v.durable chunk ≡ true)
    → Goes chunk whole s u first l m → Goes chunk whole u v next m n → CalmIn chunk s u first l m → CalmIn chunk u v next m n → CalmIn chunk s v (first ++ next) l n
calm_both chunk whole s u v first next (Alive a) (Alive b) (Alive c) row listed f g one two =
    calm_then chunk u.durable v.durable first next a.world.known.view a.world b.world c.world b.reached g.leads (leads_later a.world b.world f.leads (reached_world a.world a.reached)).view
    (λ known. a.shows.entry.memory.known ∙ row.gone a.shows.entry.durable.given (sym b.shows.entry.memory.known ∙ known)) listed one two
calm_both chunk whole s u v first next (Unborn k) (Alive b) (Alive c) row listed f g one two =
    subst (λ (x : Birth). CalmGoes chunk v.durable (first ++ next) 0 (world_of x) c.world) (sym g.same) (calm_then chunk u.durable v.durable first next 0 (world_of b.reached.0) b.world c.world b.reached g.leads (omega arith) (λ known. refl) listed one two)
calm_both chunk whole s u v first next (Unborn k) (Unborn m) (Alive c) row listed f g one two = record {
  unled = two.unled;
  copies = all_append (λ (x : Message). CopiesSince chunk v.durable 0 true c.world x.body) first next (silent_since chunk u.durable.epoch v.durable 0 true c.world first f.says) two.copies;
}
calm_both chunk whole s u v first next (Alive a) (Unborn m) n row listed f g one two = absurd f
calm_both chunk whole s u v first next l m (Unborn n) row listed f g one two = tt

still_calm : (chunk : ℕ) (s : State) (l : Life chunk s) → CalmIn chunk s s [] l l
still_calm chunk s (Unborn k) = tt
still_calm chunk s (Alive a) = record { unled = λ later out. absurd (omega arith); copies = tt }

-- ---- all of them

-- what holds of moves that are made well
pub each_made : (config : Config) (heard : Heard) (s : State) (t : Turn) → Chain config (λ u move. IsMadeWell config heard u move × (is_alone move ≡ false)) s t → Chain config (λ u move. IsMade config heard u move × (is_alone move ≡ false)) s t
each_made config heard s t chain = mapped config (λ u move. IsMadeWell config heard u move × (is_alone move ≡ false)) (λ u move. IsMade config heard u move × (is_alone move ≡ false)) (λ u move held. (held.0.made, held.1)) s t chain

pub beside_commits : (move : Move) → is_alone move ≡ false → is_commit move ≡ false
beside_commits (CommitsRollback req names) beside = absurd (true≢false beside)
beside_commits move beside = refl

-- and none of them commits a rollback
pub none_commits : (config : Config) (heard : Heard) (s : State) (t : Turn) → Chain config (λ u move. IsMadeWell config heard u move × (is_alone move ≡ false)) s t → Chain config (λ u move. IsMade config heard u move × (is_commit move ≡ false)) s t
none_commits config heard s t chain =
    mapped config (λ u move. IsMadeWell config heard u move × (is_alone move ≡ false)) (λ u move. IsMade config heard u move × (is_commit move ≡ false)) (λ u move held. (held.0.made, beside_commits move held.1)) s t chain

pub families_calm : FamiliesCalm
unfolding family_still families_both
families_calm keeps whole config heard s t family hears marks (Rests_it u said) = record { goes = family_still keeps whole u family; calm = λ chunk. still_calm chunk u (family chunk) }
families_calm keeps whole config heard s t family hears marks (Moves u move said held) =
    let m = move_family keeps whole config heard u family hears marks move held.0 in
    record { goes = m.goes; calm = λ chunk. move_calm config heard u move held.0 held.1 chunk (whole chunk) (family chunk) (m.goes.last chunk) (m.goes.goes chunk) (m.leaves chunk) }
families_calm keeps whole config heard s t family hears marks (Then u first next a b) =
    let f = families_calm keeps whole config heard u first family hears marks a in
    let g = families_calm keeps whole config heard first.after next f.goes.last (family_hears keeps whole u first.after first.sent family f.goes heard hears) (family_marks keeps whole u first.after first.sent family f.goes marks) b in
    record {
      goes = families_both keeps whole u first.after next.after first.sent next.sent family marks f.goes g.goes;
      calm = λ chunk. calm_both chunk (whole chunk) u first.after next.after first.sent next.sent (family chunk) (f.goes.last chunk) (g.goes.last chunk) (rows_go_over config heard u first chunk (none_commits config heard u first a)) (listed_stay config heard first.after next chunk (each_made config heard first.after next b)) (f.goes.goes chunk) (g.goes.goes chunk) (f.calm chunk) (g.calm chunk);
    }

-- moves that close are not alone
pub closing_beside : (move : Move) → closes move ≡ true → is_alone move ≡ false
closing_beside (Refuses req refusal over) is = refl
closing_beside (Answers req answer over) is = apart (is_location answer) over is
  where
    apart : (a b : Bool) → (b || not a) ≡ true → (a && not b) ≡ false
    apart true true e = refl
    apart true false e = absurd (false≢true e)
    apart false b e = refl
closing_beside (TellsRollback req epoch) is = refl
closing_beside move is = absurd (false≢true is)

pub each_closing : (config : Config) (heard : Heard) (s : State) (t : Turn) → Chain config (λ u move. IsMadeWell config heard u move × (closes move ≡ true)) s t → Chain config (λ u move. IsMadeWell config heard u move × (is_alone move ≡ false)) s t
each_closing config heard s t chain =
    mapped config (λ u move. IsMadeWell config heard u move × (closes move ≡ true)) (λ u move. IsMadeWell config heard u move × (is_alone move ≡ false)) (λ u move held. (held.0, closing_beside move held.1)) s t chain

pub families_close : FamiliesClose
families_close keeps whole config heard s t family hears marks chain = families_calm keeps whole config heard s t family hears marks (each_closing config heard s t chain)

-- ---- one that is alone

alone_plain : (move : Move) → is_alone move ≡ true → is_copying move ≡ false
alone_plain (Copies old view req beside) alone = absurd (false≢true alone)
alone_plain move alone = refl

move_alone : (config : Config) (heard : Heard) (s : State) (move : Move) (well : IsMadeWell config heard s move) → is_alone move ≡ true → (chunk : ℕ) (life : Life chunk s) (last : Life chunk (move_turn config s move).after)
    → LeftBy chunk move s (move_turn config s move).after life last → AloneIn chunk move s (move_turn config s move).after (move_turn config s move).sent life last
move_alone config heard s move well alone chunk (Alive a) (Alive b) left = (left, plain_since config heard s move well (alone_plain move alone) chunk (move_turn config s move).after.durable a.world.known.view a.world.entry.is_known b.world)
move_alone config heard s move well alone chunk (Unborn k) (Alive b) left = absurd (true≢false (sym alone ∙ left.1))
move_alone config heard s move well alone chunk life (Unborn k) left = tt

pub families_alone : FamiliesAlone
families_alone keeps whole config heard s move family hears marks well alone =
    let m = move_family keeps whole config heard s family hears marks move well in
    record { goes = m.goes; alone = λ chunk. move_alone config heard s move well alone chunk (family chunk) (m.goes.last chunk) (m.leaves chunk) }
