-- What clients have asked and were told goes on with the machines of a store's chunks.
use Rattle.std.proofs.Common.{◌≡◌, ◌∙◌, ◌⊎◌, ⊎_elim, ◌≤◌, ℕ, Bool, true, false, List, [], ◌∷◌, Option, Some, None, refl, sym, ap, subst, inl, inr, slice_get, arith}
use Rattle.std.specs.Prelude.{◌==◌, is_some}
use Rattle.std.proofs.lemmas.Bool.{false≢true}
use Rattle.std.proofs.lemmas.Bool.Decides.{nat_tests}
use Rattle.gs_base.specs.declared.config.Config.{Config}
use Rattle.gs_base.specs.declared.numbers.ReqId.{ReqId}
use Rattle.gs_base.specs.declared.numbers.Stamp.{Stamp}
use Rattle.gs_msg.specs.declared.event.DiskId.{DiskId}
use Rattle.gs_replica.specs.Stands.{Edit}
use Rattle.gs_nodes.specs.declared.place.MasterPlace.{MasterPlace}
use Rattle.gs_world.specs.Histories.{History}
use Rattle.gs_world.specs.Runs.{StaySent, Step}
use Rattle.gs_world.proofs.Reaching.{HaveSizes}
use Rattle.gs_laws_chunk.specs.machine.Stamps.{stamp_at}
use Rattle.gs_laws_chunk.specs.machine.Machine.{ChunkWorld}
use Rattle.gs_laws_chunk.specs.machine.Laws.{Birth}
use Rattle.gs_laws_chunk.specs.machine.Numbering.{AreNumbered, IsNumberedAt}
use Rattle.gs_laws_chunk.specs.machine.Owning.{AreOwn, IsOwnList}
use Rattle.gs_laws_chunk.proofs.lemmas.machine.Facts.{reached_world}
use Rattle.gs_laws_chunk.proofs.lemmas.machine.Lasting.{agrees}
use Rattle.gs_laws_chunk.proofs.lemmas.machine.Lists.{take_from}
use Rattle.gs_laws_chunk.proofs.lemmas.machine.Numbering.{stays_behind}
use Rattle.gs_laws_chunk.proofs.lemmas.machine.Owning.{beginnings_own}
use Rattle.gs_laws_parts.specs.server.Requests.{Asked, IsOfOneEdit, named}
use Rattle.gs_laws_parts.proofs.lemmas.server.Stamps.{stamp_number}
use Rattle.gs_laws_parts.specs.master.Showing.{IsPast}
use Rattle.gs_laws_lift.specs.stores.Going.{AllSent, heard_in}
use Rattle.gs_laws_lift.specs.stores.Living.{BeginsOld, BornFrom, ComesAlive, GoesOn}
use Rattle.gs_laws_lift.specs.stores.Numbered.{AskedElsewhere, AskedWithin, any_stamp, asked_under}
use Rattle.gs_laws_lift.specs.stores.Owning.{IsAskedEdit, WasAskedFor}
use Rattle.gs_laws_lift.specs.stores.Saying.{PushRight}
use Rattle.gs_laws_lift.specs.stores.Showing.{IsAlive, Life}
use Rattle.gs_laws_lift.specs.stores.Telling.{AskedIn, IsLiving, NumberedIn, NumbersAsAsked, OwnIn, StoreTellsOn, StoresTellFirst, StoresTellOn, StoresTellRun, TellsFirst}
use Rattle.gs_laws_lift.specs.stores.Waiting.{AsksFor}
use Rattle.gs_laws_lift.proofs.lemmas.stores.Answered.{answers_begin, answers_go_on}
use Rattle.gs_laws_lift.proofs.lemmas.stores.Beginning.{begins_asked, begins_kept, begins_lasting, begins_lives, begins_numbered, begins_own, begins_tells_no_copy, begins_texts}
use Rattle.gs_laws_lift.proofs.lemmas.stores.Durable.{durable_shown}
use Rattle.gs_laws_lift.proofs.lemmas.stores.Numbered.{any_of, newborns_numbered, none_earlier, numbered_first, numbering_goes_on, one_chunk}
use Rattle.gs_laws_lift.proofs.lemmas.stores.Owning.{asking_goes_on, newborns_asked, newborns_own, owning_goes_on}
use Rattle.gs_laws_lift.proofs.lemmas.stores.Running.{before, held_first, leads_more, leads_still, sound_stays}
use Rattle.gs_laws_lift.proofs.lemmas.stores.Stepping.{stores_go_on}
use Rattle.gs_laws_lift.proofs.lemmas.stores.Waiting.{waits_go_on}

some_same : {X : Type 0} {x y : X} → Some x ≡ Some y → x ≡ y
some_same is = cc

-- a request asks for an edit of one chunk
pub asks_one : (asked : ℕ → Asked) (chunk other : ℕ) (req : ReqId) (stamp : Stamp) → asked_under asked chunk req ≡ Some stamp → AsksFor asked other req → other ≡ chunk
asks_one asked chunk other req stamp is asks = by_test (other == chunk) refl
  where
    by_test : (b : Bool) → (other == chunk) ≡ b → other ≡ chunk
    by_test true same = grind (arith, nat_tests)
    by_test false apart = absurd (false≢true (sym (ap is_some (one_chunk chunk other (named asked req) stamp (λ same. grind (arith, nat_tests)) is)) ∙ asks))

-- the stamp under which it asks is one
asked_number : (asked : ℕ → Asked) (chunk : ℕ) (req : ReqId) (number stamp : ℕ) → asked_under asked chunk req ≡ Some (stamp_at stamp) → any_stamp (named asked req) ≡ Some (stamp_at number) → number ≡ stamp
asked_number asked chunk req number stamp is any = stamp_number number stamp (some_same (sym any ∙ any_of chunk (named asked req) (stamp_at stamp) is))

module _ {D : Type 0} (seen : D → List ℕ) (config : Config) (bytes : ReqId → List ℕ) (asked : ℕ → Asked) where
  -- one that lives lives on
  living_on : (chunk : ℕ) (step : Step) (about : Option ℕ) (old new : History D) (l : Life seen config bytes chunk old) (m : Life seen config bytes chunk new) → GoesOn seen config bytes chunk step about old new l m → IsLiving seen config bytes chunk old l → IsLiving seen config bytes chunk new m
  living_on chunk step about old new (inl unborn) m goes living = absurd living
  living_on chunk step about old new (inr a) (inl unborn) goes living = absurd goes
  living_on chunk step about old new (inr a) (inr b) goes living = tt

  -- the edits of any list of one that lives were asked for of chunks that live, under stamps that were given
  module _ (chunk : ℕ) (h : History D) (life : (other : ℕ) → Life seen config bytes other h) (a : IsAlive seen config bytes chunk h) (is : life chunk ≡ inr a) (n : NumbersAsAsked seen config bytes asked chunk h life a) where
    here : IsLiving seen config bytes chunk h (life chunk)
    here = subst (IsLiving seen config bytes chunk h) (sym is) tt

    list_asks : (t place : ℕ) (edit : Edit) (other : ℕ) → slice_get (a.world.known.list t) place ≡ Some edit → AsksFor asked other edit.req → IsLiving seen config bytes other h (life other)
    list_asks t place edit other at asks = ⊎_elim
        (λ first. (n.others place edit other first asks).1)
        (λ (x : IsNumberedAt (asked_under asked chunk) a.world.known t place edit). subst (λ q. IsLiving seen config bytes q h (life q)) (sym (asks_one asked chunk other edit.req (stamp_at x.stamp) x.asked asks)) here)
        (n.numbered t place edit at)

    list_within : (t : ℕ) → AskedWithin asked a.world.known.top (a.world.known.list t)
    list_within t place edit at number any = ⊎_elim
        (λ first. let l = n.within place edit first number any in let b = n.behind in let c = b.top in omega arith)
        (λ (x : IsNumberedAt (asked_under asked chunk) a.world.known t place edit).
        let same = asked_number asked chunk edit.req number x.stamp x.asked any in
        let l = x.settled in
        let top : a.world.known.view ≤ a.world.known.top = (reached_world a.world a.reached).known.viewtop in omega arith)
        (n.numbered t place edit at)

  module _ (step : Step) (about : Option ℕ) (old new : History D) (before : (other : ℕ) → Life seen config bytes other old) (behind : (other : ℕ) → Life seen config bytes other new)
      (goes : (other : ℕ) → GoesOn seen config bytes other step about old new (before other) (behind other)) (one : AllSent (IsOfOneEdit asked) old.sent) (all : (other : ℕ) → NumberedIn seen config bytes asked other old before (before other)) where
    living_then : (other : ℕ) → IsLiving seen config bytes other old (before other) → IsLiving seen config bytes other new (behind other)
    living_then other living = living_on other step about old new (before other) (behind other) (goes other) living

    -- it is born
    born_numbered : (chunk : ℕ) (b : IsAlive seen config bytes chunk new) → (IsLiving seen config bytes chunk old (before chunk) → ⊥) → ComesAlive seen config bytes chunk old new b → (b.reached.0.origin ≡ []) ⊎ BeginsOld seen config bytes old before b.reached.0.origin
        → NumbersAsAsked seen config bytes asked chunk new behind b
    born_numbered chunk b unborn comes (inl none) = record {
      numbered = newborns_numbered seen config bytes asked chunk old new b comes;
      others = λ place edit other at asks. absurd (nothing_at place edit (subst (λ es. slice_get es place ≡ Some edit) none at));
      bound = 0;
      within = λ place edit at number any. absurd (nothing_at place edit (subst (λ es. slice_get es place ≡ Some edit) none at));
      behind = record { stood = λ t late stood. omega arith; top = omega arith };
    }
      where
        nothing_at : (place : ℕ) (edit : Edit) → ◌≡◌ {A = Option Edit} (slice_get [] place) (Some edit) → ⊥
        nothing_at place edit at = absurd (cc)
    born_numbered chunk b unborn comes (inr o) = record {
      numbered = newborns_numbered seen config bytes asked chunk old new b comes;
      others = λ place edit other at asks.
          let living = list_asks o.chunk old before o.alive o.is n o.stamp place edit other (in_list place edit at) asks in
          ((λ same. unborn (subst (λ q. IsLiving seen config bytes q old (before q)) same living)), living_then other living);
      bound = w.known.top;
      within = λ place edit at number any. list_within o.chunk old before o.alive o.is n o.stamp place edit (in_list place edit at) number any;
      behind = comes.fresh w.known.top past;
    }
      where
        w : ChunkWorld
        w = o.alive.world

        n : NumbersAsAsked seen config bytes asked o.chunk old before o.alive
        n = subst (NumberedIn seen config bytes asked o.chunk old before) o.is (all o.chunk)

        in_list : (place : ℕ) (edit : Edit) → slice_get b.reached.0.origin place ≡ Some edit → slice_get (w.known.list o.stamp) place ≡ Some edit
        in_list place edit at = take_from (w.known.list o.stamp) o.many place edit (subst (λ es. slice_get es place ≡ Some edit) o.begins at)

        past : IsPast comes.before w.known.top
        past =
            let shown = durable_shown seen o.chunk w old.nodes.master comes.before comes.had o.alive.shows.master in
            subst (IsPast comes.before) (sym (agrees w (reached_world w o.alive.reached)).top) shown.past

    pub numbered_on : (chunk : ℕ) (l : Life seen config bytes chunk old) (m : Life seen config bytes chunk new) → before chunk ≡ l → GoesOn seen config bytes chunk step about old new l m → BornFrom seen config bytes chunk old new before l m
        → NumberedIn seen config bytes asked chunk old before l → NumberedIn seen config bytes asked chunk new behind m
    numbered_on chunk l (inl unborn) is goes_so from numbered = tt
    numbered_on chunk (inl unborn) (inr b) is goes_so from numbered = born_numbered chunk b (λ living. subst (IsLiving seen config bytes chunk old) is living) goes_so from
    numbered_on chunk (inr a) (inr b) is goes_so from n =
        let same : a.reached.0.origin ≡ b.reached.0.origin = ap (λ (x : Birth). x.origin) (sym goes_so.same) in
        record {
          numbered = subst (λ es. AreNumbered (asked_under asked chunk) es b.world.known) same (numbering_goes_on seen config bytes asked a.reached.0.epoch chunk step old new a.reached.0.origin a.world b.world a.reached one goes_so.by n.numbered);
          others = λ place edit other at asks. (let x = n.others place edit other (subst (λ es. slice_get es place ≡ Some edit) (sym same) at) asks in (x.0, living_then other x.1));
          bound = n.bound;
          within = subst (AskedWithin asked n.bound) same n.within;
          behind = stays_behind a.world b.world n.bound a.reached goes_so.leads n.behind;
        }

  -- ---- each edit is the one that was asked for

  module _ (step : Step) (about : Option ℕ) (old new : History D) (before : (other : ℕ) → Life seen config bytes other old) (one : AllSent (IsOfOneEdit asked) old.sent) where
    -- what holds of each edit of chunks that live holds of each with which another is born
    module _ (Own : List Edit → Edit → Type 0) (all : (other : ℕ) (a : IsAlive seen config bytes other old) → before other ≡ inr a → AreOwn Own a.world.known) where
      nothing_at : (place : ℕ) (edit : Edit) → ◌≡◌ {A = Option Edit} (slice_get [] place) (Some edit) → ⊥
      nothing_at place edit at = absurd (cc)

      origin_own : (edits : List Edit) → (edits ≡ []) ⊎ BeginsOld seen config bytes old before edits → IsOwnList Own edits
      origin_own edits (inl none) = subst (IsOwnList Own) (sym none) (λ place edit at. absurd (nothing_at place edit at))
      origin_own edits (inr o) = subst (IsOwnList Own) (sym o.begins) (beginnings_own Own o.many (o.alive.world.known.list o.stamp) (all o.chunk o.alive o.is o.stamp))

    pub own_on : ((other : ℕ) → OwnIn seen config bytes asked other old (before other)) → (chunk : ℕ) (l : Life seen config bytes chunk old) (m : Life seen config bytes chunk new) → GoesOn seen config bytes chunk step about old new l m
        → BornFrom seen config bytes chunk old new before l m → OwnIn seen config bytes asked chunk old l → OwnIn seen config bytes asked chunk new m
    own_on all chunk l (inl unborn) goes from own = tt
    own_on all chunk (inl unborn) (inr b) comes from own =
        newborns_own seen config bytes asked chunk old new b comes
        (origin_own (IsAskedEdit bytes asked config.chunk) (λ other a is. subst (OwnIn seen config bytes asked other old) is (all other)) b.reached.0.origin from)
    own_on all chunk (inr a) (inr b) goes from own = owning_goes_on seen config bytes asked a.reached.0.epoch chunk step old new a.world b.world one goes.by own

    pub asked_on : ((other : ℕ) → AskedIn seen config bytes other old (before other)) → (chunk : ℕ) (l : Life seen config bytes chunk old) (m : Life seen config bytes chunk new) → GoesOn seen config bytes chunk step about old new l m
        → BornFrom seen config bytes chunk old new before l m → AskedIn seen config bytes chunk old l → AskedIn seen config bytes chunk new m
    asked_on all chunk l (inl unborn) goes from own = tt
    asked_on all chunk (inl unborn) (inr b) comes from own =
        newborns_asked seen config bytes chunk old new b comes
        (origin_own (λ before edit. WasAskedFor old.sent edit) (λ other a is. subst (AskedIn seen config bytes other old) is (all other)) b.reached.0.origin from)
    asked_on all chunk (inr a) (inr b) goes from own = asking_goes_on seen config bytes asked a.reached.0.epoch chunk step old new a.world b.world one goes.by own

  pub tells_first : (among : List ℕ → Bool) → TellsFirst seen config bytes asked among
  tells_first among h lives tells chunk a is = record {
    first = λ t place edit stamp at under. numbered_first asked chunk a.reached.0.origin a.world.known n.numbered elsewhere t place edit stamp at under;
    earlier = λ t late stood. none_earlier asked chunk n.bound a.reached.0.origin a.world.known n.numbered n.behind n.within t late stood;
    own = subst (OwnIn seen config bytes asked chunk h) is (tells.own chunk);
  }
    where
      n : NumbersAsAsked seen config bytes asked chunk h lives.life a
      n = subst (NumberedIn seen config bytes asked chunk h lives.life) is (tells.numbered chunk)

      elsewhere : AskedElsewhere asked chunk a.reached.0.origin
      elsewhere place edit at = by_option (asked_under asked chunk edit.req) refl
        where
          by_option : (o : Option Stamp) → asked_under asked chunk edit.req ≡ o → o ≡ None
          by_option None none = refl
          by_option (Some stamp) some = absurd ((n.others place edit chunk at (ap is_some some)).0 refl)

module _ {D : Type 0} (seen : D → List ℕ) (failures : D → ℕ) (armed : DiskId → ℕ → MasterPlace D → MasterPlace D) (config : Config) (bytes : ReqId → List ℕ) (among : List ℕ → Bool) (asked : ℕ → Asked) where
  pub stores_tell_on : StoresTellOn seen failures armed config bytes among asked
  stores_tell_on step old new lives goes same one tells = record {
    one = one;
    waits = waits_go_on seen failures armed asked step old new goes.kind tells.one tells.waits;
    dones = answers_go_on seen failures armed config bytes asked step old new goes.kind tells.one tells.waits lives.lasts same lives.life (goes.last).life goes.goes tells.dones;
    numbered = λ chunk.
        numbered_on seen config bytes asked step (heard_in seen failures armed goes.kind) old new lives.life (goes.last).life goes.goes tells.one tells.numbered chunk (lives.life chunk) ((goes.last).life chunk) refl (goes.goes chunk) (goes.from chunk) (tells.numbered chunk);
    own = λ chunk. own_on seen config bytes asked step (heard_in seen failures armed goes.kind) old new lives.life tells.one tells.own chunk (lives.life chunk) ((goes.last).life chunk) (goes.goes chunk) (goes.from chunk) (tells.own chunk);
    asked_for = λ chunk. asked_on seen config bytes asked step (heard_in seen failures armed goes.kind) old new lives.life tells.one tells.asked_for chunk (lives.life chunk) ((goes.last).life chunk) (goes.goes chunk) (goes.from chunk) (tells.asked_for chunk);
  }

  pub stores_tell_run : StoresTellRun seen failures armed config bytes among asked
  stores_tell_run arming lasting unknown apart empty [] old new lives same held right one tells =
      subst (λ h. StoreTellsOn seen failures armed config bytes among asked old h lives) (sym same) (record { leads = record { last = lives; leads = λ chunk. leads_still seen config bytes chunk old (lives.life chunk) }; tells = tells })
  stores_tell_run arming lasting unknown apart empty (step ∷ steps) old new lives (mid, goes, named, quiet, rest) held right one tells =
      let stays : StaySent mid.sent new.sent = sound_stays seen failures armed steps mid new rest in
      let first =
      stores_go_on seen failures armed config bytes among arming lasting unknown apart empty step old mid lives goes named quiet (λ chunk. held_first seen failures armed config bytes among chunk steps mid new rest (held chunk).1)
      (before seen failures armed (PushRight bytes) mid.sent new.sent stays right) in
      let more =
      stores_tell_run arming lasting unknown apart empty steps mid new first.last rest (λ chunk. (held chunk).1) right one
      (stores_tell_on step old mid lives first quiet (before seen failures armed (IsOfOneEdit asked) mid.sent new.sent stays one) tells) in
      record {
        leads = record {
          last = (more.leads).last;
          leads = λ chunk. leads_more seen config bytes chunk step (heard_in seen failures armed first.kind) old mid new (lives.life chunk) ((first.last).life chunk) (((more.leads).last).life chunk) (first.goes chunk) ((more.leads).leads chunk);
        };
        tells = more.tells;
      }

  -- ---- from the beginning

  pub stores_tell_first : HaveSizes → StoresTellFirst seen failures armed config bytes among asked
  stores_tell_first sizes clients disks begun none begins held right one =
      let answers = answers_begin seen failures armed config bytes asked clients disks begun none begins in (
        record {
          keeps = begins_kept seen failures armed sizes config bytes clients disks begun none begins;
          lasts = begins_lasting seen failures armed sizes config bytes clients disks begun none begins;
          pushes = right;
          held = held;
          life = first;
          copies = begins_tells_no_copy seen failures armed sizes config bytes clients disks begun none begins first;
          texts = begins_texts seen failures armed sizes config bytes clients disks begun none begins among;
        },
        record {
          one = one;
          waits = answers.0;
          dones = answers.1 first;
          numbered = begins_numbered seen failures armed sizes config bytes clients disks begun none begins asked;
          own = begins_own seen failures armed sizes config bytes clients disks begun none begins asked;
          asked_for = begins_asked seen failures armed sizes config bytes clients disks begun none begins;
        },
      )
    where
      first : (chunk : ℕ) → Life seen config bytes chunk begun
      first = begins_lives seen failures armed sizes config bytes clients disks begun none begins
