-- Who has told of a chunk in memory has told of it since the master was started last.
use Rattle.gs_laws_chunks.specs.accounts.Back.{GivesNamesTold}
use Rattle.gs_laws_lift.specs.stores.Left.{as_left}
use Rattle.std.proofs.Common.{◌≡◌, ◌∙◌, inl, inr, ◌⊎◌, ◌<◌, ◌&&◌, ◌==◌, ◌||◌, ℕ, Bool, true, false, List, [], ◌∷◌, Option, Some, None, Ok, refl, ap, subst, sym, arith, nat_lt}
use Rattle.std.specs.Prelude.{is_some, option_map, unwrap_or, if◌then◌else◌}
use Rattle.std.specs.FinMap as fin
use Rattle.std.proofs.lemmas.Bool.{false≢true, and_parts}
use Rattle.gs_base.specs.Members.{is_member}
use Rattle.gs_base.specs.declared.config.Config.{Config}
use Rattle.gs_base.specs.declared.numbers.Moment.{Moment}
use Rattle.gs_base.specs.declared.refusal.Refusal.TheVariants as refusals
use Rattle.gs_journal.specs.Records.{standing}
use Rattle.gs_laws_master.proofs.lemmas.keeping.KeptAll.{start_kept}
use Rattle.gs_laws_master.specs.Promises.{HasTold}
use Rattle.gs_laws_master.specs.Standing.{AreCounters}
use Rattle.gs_master.specs.Masters.{MasterOf}
use Rattle.gs_master.specs.declared.turn.Turn.{Turn as Told}
use Rattle.gs_laws_moves.proofs.lemmas.moves.Asked.{chain_so, more_so, starts_so}
use Rattle.gs_laws_moves.proofs.lemmas.moves.Fitting.{once_chain}
use Rattle.gs_laws_moves.specs.moves.Asked.{HasNamed, IsAskedSo}
use Rattle.gs_laws_moves.specs.moves.Guards.{Heard, IsMade}
use Rattle.gs_laws_moves.specs.moves.Laws.{said_from}
use Rattle.gs_master_record.specs.declared.checkpoint.Phase.{Phase}
use Rattle.gs_master_record.specs.declared.checkpoint.Phase.TheVariants.{Ordinary, Upgrade, Rolling}
use Rattle.gs_master_spec.specs.Chunks.{members_in}
use Rattle.gs_master_spec.specs.Durable.{Durable, is_listed, is_ordinary, is_rolling, is_upgrade, prepared_view, start}
use Rattle.gs_master_spec.specs.Handling.{from_node, handle, restarted}
use Rattle.gs_master_spec.specs.Hearing.{learned, next_epoch, sends}
use Rattle.gs_master_spec.specs.State.{State, Turn, is_failed, met_by, turned, unmoved}
use Rattle.gs_master_spec.specs.declared.asking.Prepared.{Prepared}
use Rattle.gs_master_spec.specs.declared.change.Change.TheVariants as changes
use Rattle.gs_laws_moves.specs.moves.Epochs.{rolls_back}
use Rattle.gs_laws_moves.specs.upgrades.Since.{AreGiven, AreRestored, IsSince}
use Rattle.gs_msg.specs.declared.body.Body.{Body}
use Rattle.gs_msg.specs.declared.body.Body.TheVariants as bodies
use Rattle.gs_msg.specs.declared.message.Message.{Message}
use Rattle.gs_msg.specs.declared.node.NodeId.{NodeId}
use Rattle.gs_msg.specs.declared.node.NodeId.TheVariants as nodes
use Rattle.gs_nodes.specs.Happenings.{Opens, met_by as met}
use Rattle.gs_nodes.specs.Nodes.{Nodes}
use Rattle.gs_nodes.specs.declared.place.MasterPlace.{MasterPlace}
use Rattle.gs_nodes.specs.declared.place.MasterPlace.TheVariants.{Standing}
use Rattle.gs_refs.specs.Counts.{count_or_zero}
use Rattle.gs_laws_world.proofs.lemmas.lasting.Lasting.{opens_told}
use Rattle.gs_world.specs.Histories.{Begins, History}
use Rattle.gs_laws_world.specs.lasting.Lasting.{IsToldIn}
use Rattle.gs_world.specs.Runs.{Goes, Step}
use Rattle.gs_laws_chunks.specs.accounts.Accounts.{Account, view_at}
use Rattle.gs_laws_chunks.specs.accounts.Running.{IsGiven, IsToldAt, Moves, Runs, Setup, StepsWithin}
use Rattle.gs_laws_chunks.proofs.lemmas.accounts.Durables.{told_is_had}
use Rattle.gs_laws_chunks.specs.accounts.Upgrading.{IsUpgrading, RunsUpgraded, is_current, is_holder}
use Rattle.gs_laws_world.specs.steady.Steady.{LastsSteady}
use Rattle.gs_laws_lift.proofs.lemmas.stores.Durable.{has_durable}
use Rattle.gs_laws_lift.proofs.lemmas.stores.Reopening.{standing_is}
use Rattle.gs_laws_lift.specs.stores.Doing.{HasDurable}
use Rattle.gs_laws_chunks.proofs.lemmas.accounts.Became.{Became, BecameAll, ByItself, Cuts, Loses, Whole, ByMessage, IsHearing, Opened, Stays, Turns, Waits, became, has_one, opened_state}
use Rattle.gs_laws_chunks.proofs.lemmas.accounts.Leading.{PlaceLeads, StandsSo, begins, has_at, leads_all, steady_at, upgrade_stands}
use Rattle.gs_laws_chunks.proofs.lemmas.accounts.Well.{IsWell, begins_well, step_well, stands_left, told_left, well_lasts, well_steady}
use Rattle.gs_laws_chunks.specs.accounts.Accepting.{AllWereNamed, HasTaken, IsGivenTo, MembersHaveNamed, NamesChunk, NoneGoesBackUnnamed, NoRestart, TakesSuch, WasNamed, met_at, restarts_master}
use Rattle.gs_laws_chunks.specs.accounts.Hearing.{heard_by_master}

-- ---- what servers have told

abbrev Nothing : ℕ → ℕ → List ℕ → Type 0
Nothing server epoch handles = ⊥

-- of what they have said this alone is of account
abbrev Only : (ℕ → ℕ → List ℕ → Type 0) → ℕ → Body → Type 0
Only P server (bodies.Learned epoch handles) = P server epoch handles
Only P server body = Unit {0}

only_more : (P Q : ℕ → ℕ → List ℕ → Type 0) → ((server epoch : ℕ) (handles : List ℕ) → P server epoch handles → Q server epoch handles) → (server : ℕ) (body : Body) → Only P server body → Only Q server body
only_more P Q f server (bodies.Learned epoch handles) p = f server epoch handles p
only_more P Q f server body p = tt

abbrev Says : ℕ → ℕ → List ℕ → Message → Type 0
Says server epoch handles message = (message.from ≡ nodes.Server server) × (message.body ≡ bodies.Learned epoch handles)

-- what is in memory at a place was told so
abbrev AskedAt : {D : Type 0} → (ℕ → ℕ → List ℕ → Type 0) → MasterPlace D → Type 0
AskedAt {D} P place = (m : MasterOf D) → place ≡ Standing m → (chunk : ℕ) → IsAskedSo (Only P) m.state chunk

asked_more : {D : Type 0} (P Q : ℕ → ℕ → List ℕ → Type 0) → ((server epoch : ℕ) (handles : List ℕ) → P server epoch handles → Q server epoch handles) → (place : MasterPlace D) → AskedAt P place → AskedAt Q place
asked_more P Q f place asked m at chunk = more_so (Only P) (Only Q) (only_more P Q f) m.state chunk (asked m at chunk)

pub same_master : {D : Type 0} (place : MasterPlace D) (a b : MasterOf D) → place ≡ Standing a → place ≡ Standing b → a ≡ b
same_master place a b p q = standing_is a b (sym p ∙ q)

-- ---- what a server tells is met with no refusal

learned_said : (s : State) (server epoch : ℕ) (handles : List ℕ) → (learned s server epoch handles).said ≡ None
learned_said s server epoch handles = by_tests (nat_lt epoch s.durable.epoch) (is_rolling s.durable.phase && (epoch == s.durable.epoch))
  where
    by_tests : (a b : Bool) → (if a then sends s (next_epoch s.durable server epoch) else if b then turned s (record { records = []; changes = changes.Restored server handles ∷ []; sent = []; said = None }) else unmoved s).said ≡ None
    by_tests true b = refl
    by_tests false true = refl
    by_tests false false = refl

handled_said : (config : Config) (s : State) (message : Message) (moment : Moment) (server epoch : ℕ) (handles : List ℕ) → is_failed s.fault ≡ false → message.from ≡ nodes.Server server → message.body ≡ bodies.Learned epoch handles → (handle config s message moment).said ≡ None
unfolding handle
handled_said config s message moment server epoch handles sound from body =
    ap (λ f. (from_node config s moment message.body f).said) from ∙ ap (λ b. (from_node config s moment b (nodes.Server server)).said) body
    ∙ ap (λ b. (if b then met_by s refusals.Device else learned s server epoch handles).said) sound ∙ learned_said s server epoch handles

pair_first : (a b : ℕ) (x y : Body) → ◌≡◌ {A = Option (ℕ × Body)} (Some (a, x)) (Some (b, y)) → a ≡ b
pair_first a b x y e = ap (λ (o : Option (ℕ × Body)). (unwrap_or o (a, x)).0) e

pair_second : (a b : ℕ) (x y : Body) → ◌≡◌ {A = Option (ℕ × Body)} (Some (a, x)) (Some (b, y)) → x ≡ y
pair_second a b x y e = ap (λ (o : Option (ℕ × Body)). (unwrap_or o (a, x)).1) e

-- ---- one step

module _ {D : Type 0} (x : Setup D) where
  abbrev Next : (step : Step) (old new : History D) → Goes x.seen x.failures x.armed step old new → (ℕ → ℕ → List ℕ → Type 0) → ℕ → ℕ → List ℕ → Type 0
  Next step old new goes P server epoch handles = (P server epoch handles × (restarts_master step ≡ false)) ⊎ TakesSuch x (Says server epoch handles) step old new goes

  asks_on : (P : ℕ → ℕ → List ℕ → Type 0) (step : Step) (old new : History D) (goes : Goes x.seen x.failures x.armed step old new) → LastsSteady x.seen (as_left old.nodes.master) → Became x.seen step old.sent (met_at x step old new goes) (as_left old.nodes.master) (as_left new.nodes.master)
      → AskedAt P (as_left old.nodes.master) → AskedAt (Next step old new goes P) (as_left new.nodes.master)
  asks_on P step old new goes h b asked = by_case b
    where
      lift : restarts_master step ≡ false → (m : MasterOf D) → (as_left old.nodes.master) ≡ Standing m → (chunk : ℕ) → IsAskedSo (Only (Next step old new goes P)) m.state chunk
      lift calm m at chunk = more_so (Only P) (Only (Next step old new goes P)) (only_more P (Next step old new goes P) (λ server epoch handles p. inl (p, calm))) m.state chunk (asked m at chunk)

      put : (after other : MasterOf D) → (as_left new.nodes.master) ≡ Standing after → (as_left new.nodes.master) ≡ Standing other → (s : State) (chunk : ℕ) → after.state ≡ s → IsAskedSo (Only (Next step old new goes P)) s chunk → IsAskedSo (Only (Next step old new goes P)) other.state chunk
      put after other to also s chunk is k =
          subst (λ (z : MasterOf D). IsAskedSo (Only (Next step old new goes P)) z.state chunk) (same_master (as_left new.nodes.master) after other to also) (subst (λ (z : State). IsAskedSo (Only (Next step old new goes P)) z chunk) (sym is) k)

      heard_so : (m : MasterOf D) (message : Message) (moment : Moment) → (as_left old.nodes.master) ≡ Standing m → heard_by_master step old.sent ≡ Some message → met_at x step old new goes ≡ met (handle m.config m.state message moment).said
          → (from : NodeId) → message.from ≡ from → (server : ℕ) (body : Body) → said_from from message.body ≡ Some (server, body) → Only (Next step old new goes P) server body
      heard_so m message moment at found says nodes.Master from server body e = absurd (false≢true (ap is_some e))
      heard_so m message moment at found says (nodes.Client id) from server body e = by_body message.body e
        where
          by_body : (b : Body) → said_from (nodes.Client id) b ≡ Some (server, body) → Only (Next step old new goes P) server body
          by_body (bodies.Call req call) same = subst (Only (Next step old new goes P) server) (pair_second id.0 server (bodies.Call req call) body same) tt
          by_body other same = absurd (false≢true (ap is_some same))
      heard_so m message moment at found says (nodes.Server id) from server body e = by_body body (from ∙ ap (λ n. nodes.Server n) (pair_first id server message.body body e)) (pair_second id server message.body body e)
        where
          by_body : (said : Body) → message.from ≡ nodes.Server server → message.body ≡ said → Only (Next step old new goes P) server said
          by_body (bodies.Learned epoch handles) whence is =
              inr (message, found, (whence, is), says ∙ ap met (handled_said m.config m.state message moment server epoch handles (steady_at x (as_left old.nodes.master) m at h).firm.sound whence is))
          by_body other whence is = tt

      was : (m : MasterOf D) (heard : Heard) (t : Turn) → (as_left old.nodes.master) ≡ Standing m → IsHearing step old.sent (met_at x step old new goes) m.config m.state heard t → (server : ℕ) (body : Body) → heard ≡ Some (server, body) → Only (Next step old new goes P) server body
      was m heard t at (ByItself none unheard left) server body e = absurd (false≢true (ap is_some (sym none ∙ e)))
      was m heard t at (ByMessage message moment found is same says) server body e = heard_so m message moment at found (says ∙ ap (λ (u : Turn). met u.said) same) message.from refl server body (sym is ∙ e)

      by_case : Became x.seen step old.sent (met_at x step old new goes) (as_left old.nodes.master) (as_left new.nodes.master) → AskedAt (Next step old new goes P) (as_left new.nodes.master)
      by_case (Stays m after at to is refused calm) other also chunk = put after other to also m.state chunk is (lift calm m at chunk)
      by_case (Turns m after heard t at to turn written is hears calm) other also chunk =
          put after other to also t.after chunk is
          (chain_so (Only (Next step old new goes P)) chunk m.config heard (λ server body e. was m heard t at hears server body e) m.state t (once_chain m.config (IsMade m.config heard) m.state t turn) (lift calm m at chunk))
      by_case (Opened after d log has to is none again) other also chunk = put after other to also (restarted d log) chunk is (starts_so (Only (Next step old new goes P)) d log chunk)
      by_case (Waits none f unheard) other also chunk = absurd (none other also)

  asks_on_all : {Holds : Type 0} (P : ℕ → ℕ → List ℕ → Type 0) (step : Step) (old new : History D) (goes : Goes x.seen x.failures x.armed step old new) → LastsSteady x.seen (as_left old.nodes.master) → BecameAll x.seen step old.sent (met_at x step old new goes) Holds (as_left old.nodes.master) (as_left new.nodes.master)
      → AskedAt P (as_left old.nodes.master) → AskedAt (Next step old new goes P) (as_left new.nodes.master)
  asks_on_all P step old new goes h (Whole b) asked = asks_on P step old new goes h b asked
  asks_on_all P step old new goes h (Loses m at none fails f) asked = λ other also chunk. absurd (none other also)
  asks_on_all P step old new goes h (Cuts m heard t many f at none fails turn written low stand has handles) asked = λ other also chunk. absurd (none other also)

  -- ---- one step after the other

  -- what the records tell is what the master has
  pub told_has : (h : History D) (d : Durable) → IsWell x h → IsToldAt x.seen h.nodes.master d → HasDurable x.seen (as_left h.nodes.master) d
  told_has h d well told =
      let had = has_durable x.seen (as_left h.nodes.master) (well_lasts x h well) in subst (HasDurable x.seen (as_left h.nodes.master)) (told_is_had x.seen (as_left h.nodes.master) d had.0 (well_lasts x h well) (told_left x.seen h.nodes.master d told) had.1) had.1

module _ {D : Type 0} (x : Setup D) (given : IsGiven x) where
  -- what was prepared stands on
  pub stands_next : (prepared : Durable) (step : Step) (old mid : History D) (a c : Account) → Moves x step old a mid c → is_ordinary c.durable.phase ≡ false → StandsSo x prepared old → StandsSo x prepared mid
  stands_next prepared step old mid a c moves going s =
      let well = step_well x given step old mid s.well moves.steps in
      let had = has_durable x.seen (as_left old.nodes.master) (well_lasts x old s.well) in
      let now = told_has x mid c.durable well moves.told in record {
        well = well;
        since = λ e has. subst (IsSince prepared) (has_one x.seen (as_left mid.nodes.master) c.durable e now has) ((leads_all x step old.sent (met_at x step old mid moves.steps.goes) (as_left old.nodes.master) (as_left mid.nodes.master) prepared had.0 c.durable (became x given step old mid s.well moves.steps) had.1 now (s.since had.0 had.1)).since going);
      }

  told_since : (P : ℕ → ℕ → List ℕ → Type 0) (prepared : Durable) (steps : List Step) (old : History D) (a : Account) (new : History D) (b : Account) (runs : RunsUpgraded x steps old a new b) → StandsSo x prepared old → AskedAt P (as_left old.nodes.master)
      → StandsSo x prepared new × AskedAt (λ server epoch handles. (P server epoch handles × NoRestart steps) ⊎ HasTaken x (Says server epoch handles) steps old a new b runs) (as_left new.nodes.master)
  told_since P prepared [] old a new b (is, same) s asked = (
    subst (StandsSo x prepared) (sym is) s,
    subst (λ (k : History D). AskedAt (λ server epoch handles. (P server epoch handles × Unit {0}) ⊎ ⊥) (as_left k.nodes.master)) (sym is) (asked_more P (λ server epoch handles. (P server epoch handles × Unit {0}) ⊎ ⊥) (λ server epoch handles p. inl (p, tt)) (as_left old.nodes.master) asked),
  )
  told_since P prepared (step ∷ steps) old a new b (mid, c, moves, going, rest) s asked =
      let goes = moves.steps.goes in
      let last = told_since (Next x step old mid goes P) prepared steps mid c new b rest (stands_next prepared step old mid a c moves going s) (asks_on_all x P step old mid goes (well_steady x old s.well) (became x given step old mid s.well moves.steps) asked) in (
        last.0,
        asked_more (λ server epoch handles. (Next x step old mid goes P server epoch handles × NoRestart steps) ⊎ HasTaken x (Says server epoch handles) steps mid c new b rest)
            (λ server epoch handles. (P server epoch handles × NoRestart (step ∷ steps)) ⊎ HasTaken x (Says server epoch handles) (step ∷ steps) old a new b (mid, c, moves, going, rest)) (λ server epoch handles p. joined server epoch handles p) (as_left new.nodes.master) last.1,
      )
    where
      joined : (server epoch : ℕ) (handles : List ℕ) → (Next x step old mid moves.steps.goes P server epoch handles × NoRestart steps) ⊎ HasTaken x (Says server epoch handles) steps mid c new b rest
          → (P server epoch handles × NoRestart (step ∷ steps)) ⊎ ((TakesSuch x (Says server epoch handles) step old mid moves.steps.goes × NoRestart steps) ⊎ HasTaken x (Says server epoch handles) steps mid c new b rest)
      joined server epoch handles (inl (inl (p, calm), others)) = inl (p, (calm, others))
      joined server epoch handles (inl (inr taken, others)) = inr (inl (taken, others))
      joined server epoch handles (inr later) = inr (inr later)

  -- ---- up to the prepare

  abbrev Anything : ℕ → ℕ → List ℕ → Type 0
  Anything server epoch handles = Unit {0}

  pub record AsksSo (h : History D) : Type 0 where
    pub well : IsWell x h
    pub asked : AskedAt Anything (as_left h.nodes.master)

  step_asks : (step : Step) (old new : History D) → StepsWithin x step old new → AsksSo old → AsksSo new
  step_asks step old new one s = record {
    well = step_well x given step old new s.well one;
    asked = asked_more (Next x step old new one.goes Anything) Anything (λ server epoch handles p. tt) (as_left new.nodes.master) (asks_on_all x Anything step old new one.goes (well_steady x old s.well) (became x given step old new s.well one) s.asked);
  }

  runs_ask : (steps : List Step) (old : History D) (a : Account) (new : History D) (b : Account) → Runs x steps old a new b → AsksSo old → AsksSo new
  runs_ask [] old a new b (is, same) s = subst AsksSo (sym is) s
  runs_ask (step ∷ steps) old a new b (mid, c, moves, rest) s = runs_ask steps mid c new b rest (step_asks step old mid moves.steps s)

  begins_ask : (begun : History D) → Begins x.seen x.failures x.armed x.config x.clients x.disks begun → AsksSo begun
  begins_ask begun b = record { well = begins_well x given begun b; asked = λ m at chunk. by_opens b.place b.turn b.opens m (sym (ap (λ (n : Nodes D). n.master) b.nodes) ∙ stands_left x.seen begun.nodes.master m at) chunk }
    where
      counters : AreCounters start
      counters = record { handle = omega arith; version = omega arith; hidden = omega arith }

      told : IsToldIn (standing (x.seen x.disks.0) (x.seen x.disks.1)) start
      told = subst (λ t. IsToldIn t start) (sym given.new) (record { entries = []; records = refl; are_entries = tt; replays = refl })

      by_opens : (place : MasterPlace D) (turn : Told) → Opens x.seen x.failures x.config x.disks (Ok turn) place → (m : MasterOf D) → place ≡ Standing m → (chunk : ℕ) → IsAskedSo (Only Anything) m.state chunk
      by_opens place turn opens m at chunk =
          let o = opened_state x x.config x.disks.0 x.disks.1 start turn place told (opens_told x.seen x.failures x.config x.disks.0 x.disks.1 start turn place start_kept counters told opens) opens in
          subst (λ (z : MasterOf D). IsAskedSo (Only Anything) z.state chunk) (same_master place o.0 m o.1 at) (subst (λ (z : State). IsAskedSo (Only Anything) z chunk) (sym o.2.1) (starts_so (Only Anything) start o.2.0 chunk))

  -- while no rollback is begun nobody has told of anything
  nobody_told : (P : ℕ → ℕ → List ℕ → Type 0) (s : State) (chunk : ℕ) → is_rolling s.durable.phase ≡ false → IsAskedSo (Only Anything) s chunk → IsAskedSo (Only P) s chunk
  nobody_told P s chunk calm k = record {
    asked = λ b has. (let old = k.asked b has in record {
      members = old.members;
      elsewhere = old.elsewhere;
      answered = λ server count e. (let w = old.answered server count e in record { on = w.on; carried = w.carried; said = tt });
      source = old.source;
    });
    restored = λ j here. absurd (false≢true (sym calm ∙ (k.restored j here).rolling));
  }

  -- ---- a message in other words

  has_more : (Such Other : Message → Type 0) → ((message : Message) → Such message → Other message) → (steps : List Step) (old : History D) (a : Account) (new : History D) (b : Account) (runs : RunsUpgraded x steps old a new b) → HasTaken x Such steps old a new b runs → HasTaken x Other steps old a new b runs
  has_more Such Other f [] old a new b runs h = absurd h
  has_more Such Other f (step ∷ steps) old a new b (mid, c, moves, going, rest) (inl ((message, found, such, met_so), others)) = inl ((message, found, f message such, met_so), others)
  has_more Such Other f (step ∷ steps) old a new b (mid, c, moves, going, rest) (inr later) = inr (has_more Such Other f steps mid c new b rest later)

  -- what is told at the end
  runs_told : (steps : List Step) (old : History D) (a : Account) (new : History D) (b : Account) → Runs x steps old a new b → IsToldAt x.seen old.nodes.master a.durable → IsToldAt x.seen new.nodes.master b.durable
  runs_told [] old a new b (is, same) told = subst (λ (k : History D). IsToldAt x.seen k.nodes.master b.durable) (sym is) (subst (λ (k : Account). IsToldAt x.seen old.nodes.master k.durable) (sym same) told)
  runs_told (step ∷ steps) old a new b (mid, c, moves, rest) told = runs_told steps mid c new b rest moves.told

  upgraded_told : (steps : List Step) (old : History D) (a : Account) (new : History D) (b : Account) → RunsUpgraded x steps old a new b → IsToldAt x.seen old.nodes.master a.durable → IsToldAt x.seen new.nodes.master b.durable
  upgraded_told [] old a new b (is, same) told = subst (λ (k : History D). IsToldAt x.seen k.nodes.master b.durable) (sym is) (subst (λ (k : Account). IsToldAt x.seen old.nodes.master k.durable) (sym same) told)
  upgraded_told (step ∷ steps) old a new b (mid, c, moves, going, rest) told = upgraded_told steps mid c new b rest moves.told

upgrade_calm : (phase : Phase) → is_upgrade phase ≡ true → is_rolling phase ≡ false
upgrade_calm Ordinary h = refl
upgrade_calm Upgrade h = refl
upgrade_calm Rolling h = absurd (false≢true h)

-- who had it then, or holds it since, is current
current : (before after : Account) (chunk server : ℕ) (p : Prepared) → is_listed before.durable chunk ≡ true → prepared_view after.durable chunk ≡ Some p → Some p.view ≡ view_at before chunk → (is_member p.view.members server || is_member p.holders server) ≡ true → is_current before after chunk server ≡ true
current before after chunk server p listed kept view has =
    ap (λ b. b && (is_member (members_in (view_at before chunk)) server || is_holder server (prepared_view after.durable chunk))) listed ∙ ap (λ v. is_member (members_in v) server || is_holder server (prepared_view after.durable chunk)) (sym view)
    ∙ ap (λ o. is_member p.view.members server || is_holder server o) kept ∙ has

-- ---- behind a prepare, and while its upgrade stands or is rolled back

-- What was prepared stands, and nobody has told of anything yet.
pub record BeginsSo {D : Type 0} (x : Setup D) (prepared now : History D) (before after : Account) (upgrade : IsUpgrading x prepared before now after) : Type 0 where
  pub given : IsGiven x
  pub stands : StandsSo x before.durable prepared
  pub told : AskedAt Nothing (as_left prepared.nodes.master)
  pub has : HasDurable x.seen (as_left prepared.nodes.master) before.durable

pub begins_so : {D : Type 0} (x : Setup D) (prepared now : History D) (before after : Account) (upgrade : IsUpgrading x prepared before now after) → BeginsSo x prepared now before after upgrade
begins_so {D = D} x prepared now before after upgrade = record { given = given; stands = stands; told = nothing_told; has = has_before }
  where
    given : IsGiven x
    given = upgrade.reached.begins.given

    old_asks : AsksSo x given upgrade.old
    old_asks = runs_ask x given upgrade.reached.steps upgrade.reached.begun upgrade.reached.first upgrade.old upgrade.first upgrade.reached.runs (begins_ask x given upgrade.reached.begun upgrade.reached.begins.begins)

    first_asks : AsksSo x given prepared
    first_asks = step_asks x given upgrade.step upgrade.old prepared upgrade.moves.steps old_asks

    phases : (is_ordinary upgrade.first.durable.phase ≡ true) × (is_upgrade before.durable.phase ≡ true)
    phases = and_parts (is_ordinary upgrade.first.durable.phase) (is_upgrade before.durable.phase) upgrade.accepted

    has_before : HasDurable x.seen (as_left prepared.nodes.master) before.durable
    has_before = told_has x prepared before.durable first_asks.well upgrade.moves.told

    old_has : HasDurable x.seen (as_left upgrade.old.nodes.master) upgrade.first.durable
    old_has = told_has x upgrade.old upgrade.first.durable old_asks.well (runs_told x given upgrade.reached.steps upgrade.reached.begun upgrade.reached.first upgrade.old upgrade.first upgrade.reached.runs upgrade.reached.begins.told)

    begun : IsSince before.durable before.durable
    begun =
        begins x upgrade.step upgrade.old.sent (met_at x upgrade.step upgrade.old prepared upgrade.moves.steps.goes) (as_left upgrade.old.nodes.master) (as_left prepared.nodes.master) upgrade.first.durable before.durable (well_steady x upgrade.old old_asks.well)
        (became x given upgrade.step upgrade.old prepared old_asks.well upgrade.moves.steps) old_has has_before phases.0 (upgrade_stands before.durable.phase phases.1)

    stands : StandsSo x before.durable prepared
    stands = record { well = first_asks.well; since = λ e has. subst (IsSince before.durable) (has_one x.seen (as_left prepared.nodes.master) before.durable e has_before has) begun }

    nothing_told : AskedAt Nothing (as_left prepared.nodes.master)
    nothing_told m at chunk = nobody_told x given Nothing m.state chunk (sym (ap (λ (d : Durable). is_rolling d.phase) (has_at x (as_left prepared.nodes.master) m before.durable at has_before)) ∙ upgrade_calm before.durable.phase phases.1) (first_asks.asked m at chunk)

-- this server has the chunk by its view at the prepare, or is a holder of it, and has named it
abbrev NamedBy : {D : Type 0} (x : Setup D) (prepared now : History D) (before after : Account) (upgrade : IsUpgrading x prepared before now after) (chunk server : ℕ) → Type 0
NamedBy x prepared now before after upgrade chunk server =
    (is_current before after chunk server ≡ true) × HasTaken x (NamesChunk after.durable.epoch chunk server) upgrade.steps prepared before now after upgrade.runs

-- And later what was prepared stands, and who has told in memory has named the chunk.
pub record NowSo {D : Type 0} (x : Setup D) (prepared now : History D) (before after : Account) (upgrade : IsUpgrading x prepared before now after) : Type 0 where
  pub given : IsGiven x
  pub well : IsWell x now
  pub has : HasDurable x.seen (as_left now.nodes.master) after.durable
  pub since : IsSince before.durable after.durable
  pub named_by : (m : MasterOf D) → (as_left now.nodes.master) ≡ Standing m → (chunk server : ℕ) → is_listed before.durable chunk ≡ true → HasTold m.state chunk server → NamedBy x prepared now before after upgrade chunk server
  pub named : (m : MasterOf D) → (as_left now.nodes.master) ≡ Standing m → (chunk server : ℕ) → is_listed before.durable chunk ≡ true → HasTold m.state chunk server → WasNamed x prepared before now after upgrade chunk

pub now_so : {D : Type 0} (x : Setup D) (prepared now : History D) (before after : Account) (upgrade : IsUpgrading x prepared before now after) → NowSo x prepared now before after upgrade
now_so {D = D} x prepared now before after upgrade = record { given = b.given; well = last.0.well; has = has_after; since = since; named_by = named_by; named = λ m at chunk server listed t. (let k = named_by m at chunk server listed t in (server, k.0, k.1)) }
  where
    b : BeginsSo x prepared now before after upgrade
    b = begins_so x prepared now before after upgrade

    last : StandsSo x before.durable now × AskedAt (λ server epoch handles. (Nothing server epoch handles × NoRestart upgrade.steps) ⊎ HasTaken x (Says server epoch handles) upgrade.steps prepared before now after upgrade.runs) (as_left now.nodes.master)
    last = told_since x b.given Nothing before.durable upgrade.steps prepared before now after upgrade.runs b.stands b.told

    has_after : HasDurable x.seen (as_left now.nodes.master) after.durable
    has_after = told_has x now after.durable last.0.well (upgraded_told x b.given upgrade.steps prepared before now after upgrade.runs upgrade.moves.told)

    since : IsSince before.durable after.durable
    since = last.0.since after.durable has_after

    named_by : (m : MasterOf D) → (as_left now.nodes.master) ≡ Standing m → (chunk server : ℕ) → is_listed before.durable chunk ≡ true → HasTold m.state chunk server → NamedBy x prepared now before after upgrade chunk server
    named_by m at chunk server listed t = by_said n.said
      where
        n : HasNamed (Only (λ server epoch handles. (Nothing server epoch handles × NoRestart upgrade.steps) ⊎ HasTaken x (Says server epoch handles) upgrade.steps prepared before now after upgrade.runs)) m.state chunk server
        n = (last.1 m at chunk).restored server t.told

        same : after.durable ≡ m.state.durable
        same = has_at x (as_left now.nodes.master) m after.durable at has_after

        kept : prepared_view after.durable chunk ≡ Some t.prepared
        kept = ap (λ (d : Durable). prepared_view d chunk) same ∙ t.kept

        view : Some t.prepared.view ≡ view_at before chunk
        view = sym (ap (option_map (λ (p : Prepared). p.view)) kept) ∙ since.views chunk listed

        by_said : (Nothing server m.state.durable.epoch n.handles × NoRestart upgrade.steps) ⊎ HasTaken x (Says server m.state.durable.epoch n.handles) upgrade.steps prepared before now after upgrade.runs → NamedBy x prepared now before after upgrade chunk server
        by_said (inl (none, others)) = absurd none
        by_said (inr taken) = (
          current before after chunk server t.prepared listed kept view t.has_it,
          has_more x b.given (Says server m.state.durable.epoch n.handles) (NamesChunk after.durable.epoch chunk server)
              (λ message s. record { handles = n.handles; from = s.0; says = s.1 ∙ ap (λ (d : Durable). bodies.Learned (d.epoch) n.handles) (sym same); named = n.named }) upgrade.steps prepared before now after upgrade.runs taken,
        )

-- ---- a rollback that is done

-- and how a step leads on from there
lead_next : {D : Type 0} (x : Setup D) (prepared now next : History D) (before after back : Account) (step : Step) (upgrade : IsUpgrading x prepared before now after) → Moves x step now after next back → PlaceLeads (as_left now.nodes.master) before.durable after.durable back.durable
lead_next {D = D} x prepared now next before after back step upgrade moves =
    leads_all x step now.sent (met_at x step now next moves.steps.goes) (as_left now.nodes.master) (as_left next.nodes.master) before.durable after.durable back.durable (became x n.given step now next n.well moves.steps) n.has
    (told_has x next back.durable (step_well x n.given step now next n.well moves.steps) moves.told) n.since
  where
    n : NowSo x prepared now before after upgrade
    n = now_so x prepared now before after upgrade

-- where a rollback is done, the names are those of the prepare
pub names_back : {D : Type 0} (x : Setup D) (prepared now next : History D) (before after back : Account) (step : Step) (upgrade : IsUpgrading x prepared before now after) → Moves x step now after next back → rolls_back after.durable back.durable ≡ true
    → back.durable.names ≡ before.durable.names
names_back x prepared now next before after back step upgrade moves rolled =
    let ends = and_parts (is_rolling after.durable.phase) (is_ordinary back.durable.phase) rolled in (lead_next x prepared now next before after back step upgrade moves).names ends.0 ends.1

pub gives_names_told : {D : Type 0} (x : Setup D) → GivesNamesTold x
gives_names_told x prepared now back before after last r = names_back x prepared now back before after last r.step r.upgrade r.moves r.accepted

pub none_unnamed : {D : Type 0} (x : Setup D) → NoneGoesBackUnnamed x
none_unnamed {D = D} x prepared now next before after back step upgrade moves rolled = all_named
  where
    n : NowSo x prepared now before after upgrade
    n = now_so x prepared now before after upgrade

    lead : PlaceLeads (as_left now.nodes.master) before.durable after.durable back.durable
    lead = lead_next x prepared now next before after back step upgrade moves

    ends : (is_rolling after.durable.phase ≡ true) × (is_ordinary back.durable.phase ≡ true)
    ends = and_parts (is_rolling after.durable.phase) (is_ordinary back.durable.phase) rolled

    all_named : AllWereNamed x prepared before now after upgrade
    all_named chunk more = by_place (lead.restored ends.0 ends.1)
      where
        by_place : (m : MasterOf D) × ((as_left now.nodes.master) ≡ Standing m) × AreRestored m.state before.durable × AreGiven m.state before.durable back.durable → WasNamed x prepared before now after upgrade chunk
        by_place (m, at, restored, given) = by_count (fin.get before.durable.names.refs chunk) refl more
          where
            by_count : (o : Option ℕ) → fin.get before.durable.names.refs chunk ≡ o → 0 < count_or_zero o → WasNamed x prepared before now after upgrade chunk
            by_count None has few = absurd (omega arith)
            by_count (Some count) has few = (let r = restored chunk count has few in n.named m at chunk r.0 (ap is_some has) r.1)

-- and each member behind it is a server that has named the chunk
pub members_have_named : {D : Type 0} (x : Setup D) → MembersHaveNamed x
members_have_named {D = D} x prepared now next before after back step upgrade moves rolled chunk more = by_place ((lead_next x prepared now next before after back step upgrade moves).restored ends.0 ends.1)
  where
    n : NowSo x prepared now before after upgrade
    n = now_so x prepared now before after upgrade

    ends : (is_rolling after.durable.phase ≡ true) × (is_ordinary back.durable.phase ≡ true)
    ends = and_parts (is_rolling after.durable.phase) (is_ordinary back.durable.phase) rolled

    by_place : (m : MasterOf D) × ((as_left now.nodes.master) ≡ Standing m) × AreRestored m.state before.durable × AreGiven m.state before.durable back.durable → IsGivenTo x prepared before now after upgrade back chunk
    by_place (m, at, restored, given) = by_count (fin.get before.durable.names.refs chunk) refl more
      where
        by_count : (o : Option ℕ) → fin.get before.durable.names.refs chunk ≡ o → 0 < count_or_zero o → IsGivenTo x prepared before now after upgrade back chunk
        by_count None has few = absurd (omega arith)
        by_count (Some count) has few =
            let r = restored chunk count has few in
            let g = given chunk count has in record {
              settled = g.settled;
              told = g.here;
              still = g.still;
              unled = g.unled;
              first = g.stamp ∙ ap (λ (d : Durable). record { epoch = d.epoch; version = 0 }) (sym (has_at x (as_left now.nodes.master) m after.durable at n.has));
              some = (r.0, (g.members r.0).1 r.1);
              named = λ server among. n.named_by m at chunk server (ap is_some has) ((g.members server).0 among);
            }
