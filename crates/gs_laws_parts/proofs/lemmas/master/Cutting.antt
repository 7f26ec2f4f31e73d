-- A chain that is cut at a record: what is durable then is shown where some events of the master's part lead, and so is the master that is
-- started again on it.
use Rattle.std.proofs.Common.{◌≡◌, ℕ, zero, suc, ◌<◌, ◌⊎◌, inl, inr, Bool, true, false, ◌&&◌, List, [], ◌∷◌, ◌++◌, length, Option, Some, None, refl, sym, ap, subst, ◌∙◌, arith}
use Rattle.std.specs.Prelude.{◌==◌, Contains, is_some, take, if◌then◌else◌}
use Rattle.std.specs.FinMap as fin
use Rattle.std.proofs.lemmas.Bool.{false≢true}
use Rattle.gs_base.specs.declared.config.Config.{Config}
use Rattle.gs_base.specs.declared.numbers.ReqId.{ReqId}
use Rattle.gs_base.specs.declared.refusal.Refusal.{Refusal}
use Rattle.gs_edit.specs.View.{NamesView}
use Rattle.gs_lease.specs.declared.view.View.{View}
use Rattle.gs_msg.specs.declared.message.Message.{Message}
use Rattle.gs_master_record.specs.Plain.{PlainEntry, Said, Settle}
use Rattle.gs_master_spec.specs.Applied.{replayed}
use Rattle.gs_master_spec.specs.Chunks.{holder_records, is_holder, target_of}
use Rattle.gs_master_spec.specs.Durable.{Durable, prepared_view}
use Rattle.gs_master_spec.specs.Handling.{restarted}
use Rattle.gs_master_spec.specs.State.{Log, State, Turn, fits, keeps_refusal, said_records}
use Rattle.gs_master_spec.specs.declared.asking.Asking.{Asking}
use Rattle.gs_laws_master.specs.Promises.{IsKept}
use Rattle.gs_laws_moves.proofs.lemmas.moves.Asked.{starts_so}
use Rattle.gs_laws_moves.proofs.lemmas.moves.Fitting.{chain_leaves, split}
use Rattle.gs_laws_moves.specs.moves.Asked.{WasHeard}
use Rattle.gs_laws_moves.specs.moves.Guards.{Heard, IsMade, May}
use Rattle.gs_laws_moves.specs.moves.Laws.{IsCutAt}
use Rattle.gs_laws_moves.specs.moves.Moves.{Alone, FromNow, Further, Answers as AnswersCall, Begins, Copies, Move, Refuses, Scans, Settles, move_turn}
use Rattle.gs_laws_chunk.specs.machine.Machine.{ChunkWorld}
use Rattle.gs_laws_chunk.specs.machine.Events.{Leads, Rests}
use Rattle.gs_laws_parts.specs.master.Chains.{AreLive}
use Rattle.gs_laws_parts.specs.master.Laws.{StaysKnownSo, Reaches}
use Rattle.gs_laws_parts.specs.master.Showing.{ShowsDurable}
use Rattle.gs_laws_chunk.specs.machine.Mastering.{AreOfMaster}
use Rattle.gs_laws_parts.specs.master.Telling.{FollowsMaster, IsSameMember, Says, Shows}
use Rattle.gs_laws_parts.proofs.lemmas.master.Chaining.{EachFollows, chain_follows}
use Rattle.gs_laws_parts.proofs.lemmas.master.Leaving.{leaves_durable}
use Rattle.gs_laws_parts.proofs.lemmas.master.Restarting.{restarts_reach}
use Rattle.gs_laws_parts.proofs.lemmas.master.Sending.{heard_more, leads_on, masters_on}
use Rattle.gs_laws_parts.proofs.lemmas.master.Marking.{marks_on_still}
use Rattle.gs_laws_parts.proofs.lemmas.master.Settling.{held_world, holds_here, holds_names, may_hold, other_holds}
use Rattle.gs_laws_parts.proofs.lemmas.master.Stamps.{same_number}

durable_is : {a b : Durable} → ◌≡◌ {A = Option Durable} (Some a) (Some b) → a ≡ b
durable_is k = cc

-- events of the master's part alone, that send nothing and leave the view, lead to where what is durable is shown
pub record ReachesDurable (chunk : ℕ) (w : ChunkWorld) (d : Durable) : Type 0 where
  pub world : ChunkWorld
  pub leads : Leads w world
  pub masters : AreOfMaster w world leads
  pub members : world.members ≡ w.members
  pub epoch : world.entry.epoch ≡ w.entry.epoch
  pub view : world.entry.view ≡ w.entry.view
  pub known : StaysKnownSo w world
  pub sent : world.sent ≡ w.sent
  pub shows : ShowsDurable chunk d world.entry

-- ---- a part of the records of one move

is_short : List PlainEntry → Bool
is_short [] = true
is_short (x ∷ []) = true
is_short (x ∷ y ∷ xs) = false

none_taken : (xs : List PlainEntry) (many : ℕ) → is_short xs ≡ true → many < length xs → take many xs ≡ []
unfolding is_short
none_taken [] many short within = absurd (omega arith)
none_taken (x ∷ []) zero short within = refl
none_taken (x ∷ []) (suc many) short within = absurd (omega arith)
none_taken (x ∷ y ∷ xs) many short within = absurd (false≢true short)

said_short : (s : State) (req : ReqId) (refusal : Refusal) → is_short (said_records (keeps_refusal s req refusal) s.log req refusal) ≡ true
unfolding is_short
said_short s req refusal = by_test (keeps_refusal s req refusal && fits s.log (Said req refusal ∷ []))
  where
    by_test : (b : Bool) → is_short (if b then Said req refusal ∷ [] else []) ≡ true
    by_test true = refl
    by_test false = refl

-- of a view that is settled nothing, or who took the image
some_taken : (b : Bool) (q : ℕ) (target : Option ℕ) (view : View) (many : ℕ) → many < length (holder_records b q target ++ Settle (record { handle = q; view = view }) ∷ [])
    → (take many (holder_records b q target ++ Settle (record { handle = q; view = view }) ∷ []) ≡ []) ⊎ (take many (holder_records b q target ++ Settle (record { handle = q; view = view }) ∷ []) ≡ holder_records b q target)
some_taken b q None view zero within = inl refl
some_taken b q None view (suc many) within = absurd (omega arith)
some_taken false q (Some server) view zero within = inl refl
some_taken false q (Some server) view (suc many) within = absurd (omega arith)
some_taken true q (Some server) view zero within = inl refl
some_taken true q (Some server) view (suc zero) within = inr refl
some_taken true q (Some server) view (suc (suc many)) within = absurd (omega arith)

abbrev pub has_many : Move → Bool
has_many (Settles q asking carried view) = true
has_many (Scans removed forgotten) = true
has_many move = false

short_records : (config : Config) (s : State) (move : Move) → has_many move ≡ false → is_short (move_turn config s move).records ≡ true
unfolding is_short
short_records config s (Begins q purpose call Alone) few = refl
short_records config s (Begins q purpose call (FromNow req waiting)) few = refl
short_records config s (Begins q purpose call (Further req waiting)) few = refl
short_records config s (Copies old view req Alone) few = refl
short_records config s (Copies old view req (FromNow by waiting)) few = refl
short_records config s (Copies old view req (Further by waiting)) few = refl
short_records config s (Refuses req refusal over) few = said_short s req refusal
short_records config s (AnswersCall req answer true) few = refl
short_records config s (AnswersCall req answer false) few = refl
short_records config s (Settles q asking carried view) few = absurd (false≢true (sym few))
short_records config s (Scans removed forgotten) few = absurd (false≢true (sym few))
short_records config s move few = refl

-- nothing was recorded of it
pub still_reached : (chunk : ℕ) (s : State) (w : ChunkWorld) (d : Durable) → Shows chunk s w → replayed s.durable [] ≡ Some d → ReachesDurable chunk w d
still_reached chunk s w d k fit = record { world = w; leads = Rests; masters = tt; members = refl; epoch = refl; view = refl; known = record { born = refl; view = refl; top = refl; current = refl; stood = refl; came = λ known. known }; sent = refl; shows = subst (λ x. ShowsDurable chunk x w.entry) (durable_is fit) k.entry.durable }

module _ (born chunk : ℕ) (whole : ℕ → Bool) (config : Config) (heard : Heard) (s : State) (w : ChunkWorld) (k : Shows chunk s w) (was : WasHeard (Says chunk w) heard) where
  pub settles_cut : (q : ℕ) (asking : Asking) (carried : Bool) (view : View) (many : ℕ) (d : Durable) → IsMade config heard s (Settles q asking carried view) → many < length (move_turn config s (Settles q asking carried view)).records
      → replayed s.durable (take many (move_turn config s (Settles q asking carried view)).records) ≡ Some d → ReachesDurable chunk w d
  settles_cut q asking carried view many d made within fit = by_taken (some_taken holds q (target_of asking.purpose) view many within)
    where
      holds : Bool
      holds = is_holder s.durable.phase (prepared_view s.durable q) carried asking view

      all : List PlainEntry
      all = (move_turn config s (Settles q asking carried view)).records

      other : (q == chunk) ≡ false → replayed s.durable (holder_records holds q (target_of asking.purpose)) ≡ Some d → ReachesDurable chunk w d
      other is part = record {
        world = w;
        leads = Rests;
        masters = tt;
        members = refl;
        epoch = refl;
        view = refl;
        known = record { born = refl; view = refl; top = refl; current = refl; stood = refl; came = λ known. known };
        sent = refl;
        shows = leaves_durable chunk s.durable d w.entry (other_holds chunk s.durable d q holds (target_of asking.purpose) is part)
            (λ listed. k.entry.durable.listed (sym (ap (λ (x : NamesView). is_some (fin.get x.refs chunk)) (holds_names s.durable d q holds (target_of asking.purpose) part)) ∙ listed)) k.entry.durable;
      }

      here : (asking : Asking) (carried : Bool) (view : View) → IsMade config heard s (Settles chunk asking carried view)
          → replayed s.durable (holder_records (is_holder s.durable.phase (prepared_view s.durable chunk) carried asking view) chunk (target_of asking.purpose)) ≡ Some d → ReachesDurable chunk w d
      here asking carried view made part =
          let held = holds_here chunk w s.durable d (is_holder s.durable.phase (prepared_view s.durable chunk) carried asking view) (target_of asking.purpose) (may_hold born chunk whole config heard s w k was asking carried view made) part k.entry.durable in
          record { world = held_world w held.holders; leads = held.leads; masters = held.masters; members = refl; epoch = refl; view = refl; known = record { born = refl; view = refl; top = refl; current = refl; stood = refl; came = λ known. known }; sent = refl; shows = held.shows }

      by_key : (b : Bool) → (q == chunk) ≡ b → replayed s.durable (holder_records holds q (target_of asking.purpose)) ≡ Some d → ReachesDurable chunk w d
      by_key false is part = other is part
      by_key true is part =
          subst (λ h. IsMade config heard s (Settles h asking carried view) → replayed s.durable (holder_records (is_holder s.durable.phase (prepared_view s.durable h) carried asking view) h (target_of asking.purpose)) ≡ Some d → ReachesDurable chunk w d)
          (sym (same_number q chunk is)) (here asking carried view) made part

      by_taken : (take many all ≡ []) ⊎ (take many all ≡ holder_records holds q (target_of asking.purpose)) → ReachesDurable chunk w d
      by_taken (inl none) = still_reached chunk s w d k (ap (replayed s.durable) (sym none) ∙ fit)
      by_taken (inr part) = by_key (q == chunk) refl (ap (replayed s.durable) (sym part) ∙ fit)

  -- but for a scan
  pub part_reached : (move : Move) (many : ℕ) (d : Durable) → has_many move ≡ false → many < length (move_turn config s move).records → replayed s.durable (take many (move_turn config s move).records) ≡ Some d → ReachesDurable chunk w d
  part_reached move many d few within fit = still_reached chunk s w d k (ap (replayed s.durable) (sym (none_taken (move_turn config s move).records many (short_records config s move few) within)) ∙ fit)

-- ---- a chain that is cut

known_both : (w m v : ChunkWorld) → StaysKnownSo w m → StaysKnownSo m v → StaysKnownSo w v
known_both w m v f g = record { born = g.born ∙ f.born; view = g.view ∙ f.view; top = g.top ∙ f.top; current = g.current ∙ f.current; stood = g.stood ∙ f.stood; came = λ known. f.came (g.came known) }

-- the master is started again on it
pub started_again : (chunk : ℕ) (w : ChunkWorld) (d : Durable) (log : Log) → IsKept d → ReachesDurable chunk w d → Reaches chunk w (restarted d log)
started_again chunk w d log kept r =
    let last = restarts_reach chunk d log r.world kept r.shows in
    record { world = last.world; leads = leads_on w r.world last.world r.leads last.leads; masters = masters_on w r.world last.world r.leads last.leads r.masters last.masters; members = last.members ∙ r.members; epoch = last.epoch ∙ r.epoch; view = last.view ∙ r.view; known = known_both w r.world last.world r.known last.known; sent = last.sent ∙ r.sent; shows = last.shows }

-- behind what some events lead to
pub again : (born chunk : ℕ) (whole : ℕ → Bool) (w : ChunkWorld) (u : State) (messages : List Message) (f : FollowsMaster born chunk whole w u messages) (d : Durable) (log : Log) → Reaches chunk f.world (restarted d log) → FollowsMaster born chunk whole w (restarted d log) []
again born chunk whole w u messages f d log last = record {
  world = last.world;
  leads = leads_on w f.world last.world f.leads last.leads;
  masters = masters_on w f.world last.world f.leads last.leads f.masters last.masters;
  members = λ j. subst (λ ms. IsSameMember (w.members j) (whole j) (ms j)) (sym last.members) (f.members j);
  marks = marks_on_still whole w f.world last.world last.leads last.epoch last.members f.marks;
  stays = λ x there. subst (λ xs. Contains xs x) (sym last.sent) (f.stays x there);
  shows = record { entry = last.shows; said = starts_so (Says chunk last.world) d log chunk };
  tells = tt;
}

module _ (born chunk : ℕ) (whole : ℕ → Bool) (config : Config) (heard : Heard) (P : State → Move → Type 0) where
  abbrev pub EachReached : Type 0
  EachReached = (s : State) (move : Move) (many : ℕ) (d : Durable) (log : Log) (w : ChunkWorld) → P s move → Shows chunk s w → WasHeard (Says chunk w) heard → many < length (move_turn config s move).records → IsKept d
      → replayed s.durable (take many (move_turn config s move).records) ≡ Some d → Reaches chunk w (restarted d log)

  -- behind a part of a chain
  pub cut_follows : EachFollows born chunk whole config heard P → EachReached → ((s : State) (move : Move) → P s move → May config heard s move) → (s : State) (t : Turn) (place : ℕ) (d : Durable) (log : Log) (w : ChunkWorld) → IsCutAt config P s t place
      → replayed s.durable (take place t.records) ≡ Some d → IsKept d → Shows chunk s w → WasHeard (Says chunk w) heard → AreLive whole w → FollowsMaster born chunk whole w (restarted d log) []
  cut_follows each reach may s t place d log w c fit kept k was live =
      let records = (move_turn config c.before.after c.move).records in
      let f = chain_follows born chunk whole config heard P each s c.before w c.chain k was live in
      let parts = split c.before.records (take c.many records) s.durable d (ap (replayed s.durable) (sym c.stand) ∙ fit) in
      let left = chain_leaves config heard P may s c.before parts.mid c.chain parts.first in
      again born chunk whole w c.before.after c.before.sent f d log
      (reach c.before.after c.move c.many d log f.world c.holds f.shows (heard_more chunk w f.world f.stays heard was) c.within kept (subst (λ m. replayed m (take c.many records) ≡ Some d) (sym left) parts.then))
