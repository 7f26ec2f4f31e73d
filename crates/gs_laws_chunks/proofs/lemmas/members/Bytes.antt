-- What a rollback leaves, by the nodes alone, from what is said with accounts.
use Rattle.std.proofs.Common.{◌≡◌, ◌∙◌, ◌<◌, ◌⊎◌, inl, inr, ℕ, true, false, List, [], ◌∷◌, None, Option, Some, refl, sym, ap, subst, arith}
use Rattle.std.specs.Prelude.{is_some}
use Rattle.std.proofs.lemmas.Bool.{false≢true}
use Rattle.std.specs.FinMap as fin
use Rattle.gs_base.specs.Members.{is_member}
use Rattle.gs_block.specs.Written.{TellsApart}
use Rattle.gs_laws_moves.specs.moves.Epochs.{prepares, rolls_back}
use Rattle.gs_master_record.specs.declared.checkpoint.Phase.{Phase}
use Rattle.gs_master_record.specs.declared.checkpoint.Phase.TheVariants.{Ordinary, Rolling, Upgrade}
use Rattle.gs_master_spec.specs.Applied.{view_in}
use Rattle.gs_master_spec.specs.Durable.{Durable, is_listed, is_ordinary, is_rolling, is_upgrade}
use Rattle.gs_msg.specs.declared.message.Message.{Message}
use Rattle.gs_msg.specs.declared.message.MsgId.{MsgId}
use Rattle.gs_refs.specs.Counts.{count_or_zero}
use Rattle.gs_replica.specs.Stands.{Edit}
use Rattle.gs_base.specs.declared.numbers.Stamp.{Stamp}
use Rattle.gs_base.specs.Stamps.{is_before}
use Rattle.gs_server.specs.Runs.{slot_in}
use Rattle.gs_store.specs.Learning.{start_of}
use Rattle.gs_laws_parts.specs.server.Requests.{bytes_in}
use Rattle.gs_nodes.specs.declared.place.MasterPlace.{MasterPlace}
use Rattle.gs_world.proofs.Reaching.{HaveSizes}
use Rattle.gs_world.specs.Histories.{History}
use Rattle.gs_world.specs.Runs.{Step}
use Rattle.gs_laws_chunks.proofs.lemmas.accounts.Accounted.{has_told, runs_told, told_kept}
use Rattle.gs_laws_chunks.proofs.lemmas.accounts.Bytes.{free_prepared, settled_there, text_there}
use Rattle.gs_laws_chunks.proofs.lemmas.accounts.Edits.{AreNumbered}
use Rattle.gs_laws_chunks.proofs.lemmas.accounts.Holding.{runs_of, seen_since, sees_there}
use Rattle.gs_laws_chunks.proofs.lemmas.accounts.Leading.{StandsSo, keeps_has, next_so, stands_prepared, within_so}
use Rattle.gs_laws_chunks.proofs.lemmas.accounts.Once.{told_at_once}
use Rattle.gs_laws_chunks.proofs.lemmas.accounts.Through.{have_accounts, told_there}
use Rattle.gs_laws_chunks.proofs.lemmas.accounts.Well.{IsWell, bare_well, begins_well, step_well, well_lasts}
use Rattle.gs_laws_chunks.specs.accounts.Accepting.{HasTaken, MembersHaveNamed, NamesChunk, TakesSuch}
use Rattle.gs_laws_chunks.specs.accounts.Accounts.{Account, settled_edits, text_of}
use Rattle.gs_laws_chunks.specs.accounts.Back.{GoesBackBy, RunsWithinBy, HasBytes, HasRolledBack, IsMemberAt, MasterKeeps, RunsWithin}
use Rattle.gs_laws_chunks.specs.accounts.Joined.{SeenSince}
use Rattle.gs_laws_chunks.specs.accounts.Moving.{account_behind}
use Rattle.gs_laws_chunks.specs.accounts.Running.{IsGiven, IsNew, IsToldAt, Moves, Runs, RunsBare, Setup, StepsWithin}
use Rattle.gs_laws_chunks.specs.accounts.SeenThrough.{SeesBothThrough}
use Rattle.gs_laws_chunks.specs.accounts.Upgrading.{IsUpgrading, RunsUpgraded, HarmsOrDropsNone}
use Rattle.gs_laws_chunks.proofs.lemmas.members.Left.{rollback_leaves_members}
use Rattle.gs_laws_chunks.specs.members.Bytes.{HasNamedBy, HasSaidBy, HasTakenBy, KeepsBytesSince, LeavesBytes, RollbackLeavesBytes, RollbackLeavesTold, SaysWith, HarmsOrDropsNoneBare, HarmsOrDropsNoneBetween}
use Rattle.gs_laws_chunks.specs.members.Leaving.{HasLive, HasSaid, KeepsSince, LeavesMembers, HarmsOrDropsNoneWithin}
use Rattle.gs_laws_lift.proofs.lemmas.stores.Durable.{has_durable}
use Rattle.gs_laws_lift.specs.stores.Left.{as_left, left_in}

referred_listed : (o : Option ℕ) → 0 < count_or_zero o → is_some o ≡ true
referred_listed None some = absurd (omega arith)
referred_listed (Some n) some = refl

upgrade_calm : (phase : Phase) → is_upgrade phase ≡ true → is_rolling phase ≡ false
upgrade_calm Ordinary is = refl
upgrade_calm Upgrade is = refl
upgrade_calm Rolling is = absurd (false≢true is)

-- ---- what is said with accounts, and its bytes

module _ {D : Type 0} (x : Setup D) where
  -- this holds from there
  abbrev Says : (new : History D) (b : Account) → ((steps : List Step) (mid : History D) (c : Account) → RunsUpgraded x steps mid c new b → Type 0) → (chunk server : ℕ) (bytes : List ℕ) (place : MsgId) (message : Message) (steps : List Step) (old : History D) (a : Account) → RunsUpgraded x steps old a new b → Type 0
  Says new b From chunk server bytes place message [] old a runs = ⊥
  Says new b From chunk server bytes place message (step ∷ steps) old a (mid, c, moves, going, rest) =
      (SaysWith chunk server bytes place message old mid × HasTaken x (λ (m : Message). m ≡ message) steps mid c new b rest × From steps mid c rest) ⊎ Says new b From chunk server bytes place message steps mid c rest

  bytes_of : (chunk server : ℕ) (promise : Stamp) (edits : List Edit) (h : History D) → HasLive x chunk server promise edits h → HasBytes h server chunk (text_of x.config.chunk edits)
  bytes_of chunk server promise edits h l = record { s = l.s; there = l.there; live = l.has.live; lives = l.has.lives; whole = l.has.text.whole; is = l.has.text.bytes }

  module _ (prepared now back : History D) (before after last : Account) (r : HasRolledBack x prepared before now after back last) (chunk server : ℕ) (place : MsgId) (message : Message) where
    abbrev Since : (steps : List Step) (mid : History D) (c : Account) → RunsUpgraded x steps mid c now after → Type 0
    Since steps mid c rest = KeepsSince x prepared now back before after last r chunk server place message steps mid c rest

    says_of : (steps : List Step) (old : History D) (a : Account) (rest : RunsUpgraded x steps old a now after) → HasSaid x prepared now back before after last r chunk server place message steps old a rest
        → Says now after Since chunk server (text_of x.config.chunk (settled_edits before chunk)) place message steps old a rest
    says_of [] old a rest said = absurd said
    says_of (step ∷ steps) old a (mid, c, moves, going, rest) (inl (says, taken, way, since)) = inl (record { new = says.new; sent = says.sent; has = bytes_of chunk server _ (settled_edits before chunk) mid says.live }, taken, since)
    says_of (step ∷ steps) old a (mid, c, moves, going, rest) (inr later) = inr (says_of steps mid c rest later)

abbrev next_moves : {D : Type 0} (x : Setup D) (step : Step) (old new : History D) (a : Account) (d : Durable) → StepsWithin x step old new → IsToldAt x.seen new.nodes.master d → Moves x step old a new (account_behind step old a new d)
next_moves x step old new a d one told = record { steps = one; told = told; account = refl }

-- ---- steps have accounts, and what is said in these is said by the nodes

module _ {D : Type 0} (x : Setup D) (Keeps : MasterPlace D → Durable → Type 0) where
  -- from each world on the way
  abbrev Carries : (new : History D) (b : Account) (chunk server : ℕ) → ((steps : List Step) (mid : History D) (c : Account) → RunsUpgraded x steps mid c new b → Type 0) → ((steps : List Step) (mid : History D) → RunsWithinBy x Keeps steps mid new → Type 0) → Type 0
  Carries new b chunk server From To = (steps : List Step) (mid : History D) (c : Account) (within : RunsWithinBy x Keeps steps mid new) (rest : RunsUpgraded x steps mid c new b) →
      (HarmsOrDropsNoneBetween x Keeps chunk server steps mid new within → HarmsOrDropsNoneWithin x chunk server steps mid c new b rest) → From steps mid c rest → To steps mid within

  record IsAlike (steps : List Step) (old : History D) (a : Account) (new : History D) (within : RunsWithinBy x Keeps steps old new) : Type 1 where
    b : Account
    runs : RunsUpgraded x steps old a new b
    taken : (message : Message) → HasTaken x (λ (m : Message). m ≡ message) steps old a new b runs → HasTakenBy x Keeps (λ (m : Message). m ≡ message) steps old new within
    spared : (chunk server : ℕ) → HarmsOrDropsNoneBetween x Keeps chunk server steps old new within → HarmsOrDropsNoneWithin x chunk server steps old a new b runs
    said : (From : (steps : List Step) (mid : History D) (c : Account) → RunsUpgraded x steps mid c new b → Type 0) (To : (steps : List Step) (mid : History D) → RunsWithinBy x Keeps steps mid new → Type 0) (chunk server : ℕ) (bytes : List ℕ) (place : MsgId) (message : Message)
        → Carries new b chunk server From To → Says x new b From chunk server bytes place message steps old a runs → HasSaidBy x Keeps new To chunk server bytes place message steps old within

  module _ (step : Step) (steps : List Step) (old mid new : History D) (a c : Account) (one : StepsWithin x step old mid) (going : (d : Durable) → Keeps mid.nodes.master d → is_ordinary d.phase ≡ false) (on : RunsWithinBy x Keeps steps mid new)
      (moves : Moves x step old a mid c) (same : moves.steps ≡ one) (stands : is_ordinary c.durable.phase ≡ false) (rest : IsAlike steps mid c new on) where
    taken_on : (message : Message) → HasTaken x (λ (m : Message). m ≡ message) (step ∷ steps) old a new rest.b (mid, c, moves, stands, rest.runs) → HasTakenBy x Keeps (λ (m : Message). m ≡ message) (step ∷ steps) old new (mid, one, going, on)
    taken_on message (inl (takes, others)) = inl (subst (λ (z : StepsWithin x step old mid). TakesSuch x (λ (m : Message). m ≡ message) step old mid z.goes) same takes, others)
    taken_on message (inr later) = inr (rest.taken message later)

    said_on : (From : (steps : List Step) (mid : History D) (c : Account) → RunsUpgraded x steps mid c new rest.b → Type 0) (To : (steps : List Step) (mid : History D) → RunsWithinBy x Keeps steps mid new → Type 0) (chunk server : ℕ) (bytes : List ℕ) (place : MsgId) (message : Message)
        → Carries new rest.b chunk server From To → Says x new rest.b From chunk server bytes place message (step ∷ steps) old a (mid, c, moves, stands, rest.runs) → HasSaidBy x Keeps new To chunk server bytes place message (step ∷ steps) old (mid, one, going, on)
    said_on From To chunk server bytes place message carries (inl (says, taken, holds)) = inl (says, rest.taken message taken, carries steps mid c on rest.runs (rest.spared chunk server) holds)
    said_on From To chunk server bytes place message carries (inr later) = inr (rest.said From To chunk server bytes place message carries later)

    alike_on : IsAlike (step ∷ steps) old a new (mid, one, going, on)
    alike_on = record { b = rest.b; runs = (mid, c, moves, stands, rest.runs); taken = taken_on; spared = λ chunk server none. (none.0, rest.spared chunk server none.1); said = said_on }

  -- and those after the commit
  record HasPath (chunk server : ℕ) (steps : List Step) (old : History D) (a : Account) (new : History D) (bare : RunsBare x steps old new) : Type 0 where
    b : Account
    path : Runs x steps old a new b
    spared : HarmsOrDropsNoneBare x Keeps chunk server steps old new bare → HarmsOrDropsNone x chunk server steps old a new b path

  module _ (given : IsGiven x) where
    has_path : (chunk server : ℕ) (steps : List Step) (old new : History D) (a : Account) (bare : RunsBare x steps old new) → IsWell x old → HasPath chunk server steps old a new bare
    has_path chunk server [] old new a is well = record { b = a; path = (is, refl); spared = λ none. tt }
    has_path chunk server (step ∷ steps) old new a (mid, one, rest) well =
        let there = step_well x given step old mid well one in
        let tells = told_there x.seen mid.nodes.master there.steady in
        let more = has_path chunk server steps mid new (account_behind step old a mid tells.0) rest there in
        record { b = more.b; path = (mid, account_behind step old a mid tells.0, next_moves x step old mid a tells.0 one tells.1, more.path); spared = λ none. (none.0, more.spared none.1) }

module _ {D : Type 0} (x : Setup D) (given : IsGiven x) where
  alike : (prepared : Durable) (steps : List Step) (old new : History D) (a : Account) (within : RunsWithin x steps old new) (last : Durable) → MasterKeeps new.nodes.master last → StandsSo x prepared old → IsAlike x MasterKeeps steps old a new within
  alike prepared [] old new a is last keeps s =
      record { b = a; runs = (is, refl); taken = λ message taken. taken; spared = λ chunk server none. tt; said = λ From To chunk server bytes place message carries said. said }
  alike prepared (step ∷ steps) old new a (mid, one, going, on) last keeps s =
      let there = next_so x given prepared step old mid one going steps new last on keeps s in
      let has = has_durable x.seen (as_left mid.nodes.master) (well_lasts x mid there.well) in
      alike_on x MasterKeeps step steps old mid new a (account_behind step old a mid has.0) one going on (next_moves x step old mid a has.0 one (has_told x mid.nodes.master has.0 has.1)) refl (there.since has.0 has.1).stands
      (alike prepared steps mid new (account_behind step old a mid has.0) on last keeps there)

  told_alike : (steps : List Step) (old new : History D) (a : Account) (within : RunsWithinBy x (IsToldAt x.seen) steps old new) → IsWell x old → IsAlike x (IsToldAt x.seen) steps old a new within
  told_alike [] old new a is well =
      record { b = a; runs = (is, refl); taken = λ message taken. taken; spared = λ chunk server none. tt; said = λ From To chunk server bytes place message carries said. said }
  told_alike (step ∷ steps) old new a (mid, one, going, rest) well =
      let there = step_well x given step old mid well one in
      let told = told_there x.seen mid.nodes.master there.steady in
      alike_on x (IsToldAt x.seen) step steps old mid new a (account_behind step old a mid told.0) one going rest (next_moves x step old mid a told.0 one told.1) refl (going told.0 told.1)
      (told_alike steps mid new (account_behind step old a mid told.0) rest there)

  told_well : (steps : List Step) (old new : History D) → RunsWithinBy x (IsToldAt x.seen) steps old new → IsWell x old → IsWell x new
  told_well [] old new is well = subst (IsWell x) (sym is) well
  told_well (step ∷ steps) old new (mid, one, going, rest) well = told_well steps mid new rest (step_well x given step old mid well one)

-- ---- a store that goes back

-- what is had by either of what is kept and what is told
record IsSaid {D : Type 0} (x : Setup D) (Keeps : MasterPlace D → Durable → Type 0) (prepared back : History D) (before last : Durable) (goes : GoesBackBy x Keeps prepared back before last) : Type 1 where
  was : (d : Durable) → IsToldAt x.seen goes.old.nodes.master d → goes.ordinary ≡ d
  keeps_told : IsToldAt x.seen prepared.nodes.master before
  on : (a : Account) → IsAlike x Keeps goes.between prepared a goes.now goes.rest
  rolls : (d : Durable) → IsToldAt x.seen goes.now.nodes.master d → goes.rolling ≡ d
  now_well : IsWell x goes.now
  ended_told : IsToldAt x.seen back.nodes.master last

module _ (sizes : HaveSizes) (law : AreNumbered) {D : Type 0} (x : Setup D) (Keeps : MasterPlace D → Durable → Type 0) (members : MembersHaveNamed x) (prepared back : History D) (before last : Durable) (chunk : ℕ) (apart : TellsApart x.among) (goes : GoesBackBy x Keeps prepared back before last) (is : IsSaid x Keeps prepared back before last goes) (referred : 0 < count_or_zero (fin.get before.names.refs chunk)) where
  given : IsGiven x
  given = goes.given

  accounts : (b : Account) × (c : Account) × IsNew x goes.begun b × Runs x goes.first goes.begun b goes.old c
  accounts = have_accounts x goes.begun goes.old goes.first given goes.begins goes.runs

  abbrev a : Account
  a = accounts.1

  new : IsNew x goes.begun accounts.0
  new = accounts.2

  runs : Runs x goes.first goes.begun accounts.0 goes.old a
  runs = accounts.3

  was : goes.ordinary ≡ a.durable
  was = is.was a.durable (runs_told x goes.first goes.begun goes.old accounts.0 a new.told runs)

  abbrev first : Account
  first = account_behind goes.step goes.old a prepared before

  moves : Moves x goes.step goes.old a prepared first
  moves = next_moves x goes.step goes.old prepared a before goes.steps is.keeps_told

  on : IsAlike x Keeps goes.between prepared first goes.now goes.rest
  on = is.on first

  rolling : goes.rolling ≡ on.b.durable
  rolling = is.rolls on.b.durable (runs_told x goes.between prepared goes.now first on.b moves.told (runs_of x goes.between prepared goes.now first on.b on.runs))

  abbrev behind : Account
  behind = account_behind goes.commit goes.now on.b back last

  abbrev upgrade : IsUpgrading x prepared first goes.now on.b
  upgrade = record {
    old = goes.old;
    first = a;
    reached = record { apart = apart; begun = goes.begun; first = accounts.0; steps = goes.first; begins = new; runs = runs };
    step = goes.step;
    moves = moves;
    accepted = ap (λ d. prepares d before) (sym was) ∙ goes.accepted;
    steps = goes.between;
    runs = on.runs;
  }

  abbrev rolled : HasRolledBack x prepared first goes.now on.b back behind
  rolled = record {
    upgrade = upgrade;
    step = goes.commit;
    moves = next_moves x goes.commit goes.now back on.b last goes.commits is.ended_told;
    accepted = ap (λ d. rolls_back d last) (sym rolling) ∙ goes.done;
  }

  left : LeavesMembers x prepared goes.now back first on.b behind rolled chunk
  left = rollback_leaves_members sizes law x members prepared goes.now back first on.b behind rolled chunk referred

  abbrev text : List ℕ
  text = text_of x.config.chunk (settled_edits first chunk)

  back_well : IsWell x back
  back_well = step_well x given goes.commit goes.now back is.now_well goes.commits

  module _ (server : ℕ) (place : MsgId) (message : Message) where
    -- what it keeps with accounts it keeps by the nodes
    keeps : Carries x Keeps goes.now on.b chunk server (Since x prepared goes.now back first on.b behind rolled chunk server place message) (KeepsBytesSince x Keeps prepared back before last goes chunk server text)
    keeps steps mid c within rest spared since later more s runs between bare there below =
        let way = has_path x Keeps given chunk server more back later behind runs back_well in
        let lives = since later way.b more s way.path (spared between) (bare.0, way.spared bare.1) there (subst (λ (d : Durable). is_before (start_of d.epoch) (slot_in chunk s).promise ≡ false) rolling below) in
        record { s = s; there = there; live = lives.live; lives = lives.lives; whole = lives.text.whole; is = lives.text.bytes }

  each : (server : ℕ) → is_member left.given.settled.view.members server ≡ true → HasNamedBy x Keeps prepared back before last goes chunk server text
  each server member =
      let named = left.each server member in
      record {
        place = named.place;
        message = named.message;
        names = subst (λ (d : Durable). NamesChunk d.epoch chunk server named.message) (sym rolling) named.names;
        said = on.said (Since x prepared goes.now back first on.b behind rolled chunk server named.place named.message) (KeepsBytesSince x Keeps prepared back before last goes chunk server text) chunk server text named.place named.message
            (keeps server named.place named.message) (says_of x prepared goes.now back first on.b behind rolled chunk server named.place named.message goes.between prepared first on.runs named.said);
      }

  -- what a member had right after the prepare

  listed : is_listed before chunk ≡ true
  listed = referred_listed (fin.get before.names.refs chunk) referred

  abbrev sees : SeesBothThrough x prepared first goes.now on.b
  sees = sees_there sizes law x prepared goes.now first on.b upgrade

  since : SeenSince x (bytes_in sees.asked) chunk (left_in prepared) first (left_in goes.now) on.b
  since = seen_since sizes law x prepared goes.now first on.b upgrade chunk listed

  free : since.first.alive.world.entry.view.holder ≡ None
  free = free_prepared x (bytes_in sees.asked) chunk (left_in prepared) first (left_in goes.now) on.b since listed

  those : (id : ℕ) (had : List ℕ) → IsMemberAt before chunk id → HasBytes prepared id chunk had → had ≡ text
  those id had member h =
      sym h.is
      ∙ text_there x (bytes_in sees.asked) chunk (left_in prepared) first since.first (upgrade_calm before.phase since.begun) free id member.settled.view h.s h.live (ap view_in member.told) member.among h.there h.lives h.whole
      ∙ sym (ap (text_of x.config.chunk) (settled_there x (bytes_in sees.asked) chunk (left_in prepared) first since.first free member.settled.view (ap view_in member.told)))

  leaves_bytes : LeavesBytes x Keeps prepared back before last goes chunk
  leaves_bytes = record { settled = left.given.settled; told = left.given.told; some = left.given.some; bytes = text; each = each; those = those }

-- ---- by what is kept, and by what is told

old_well : {D : Type 0} (x : Setup D) (Keeps : MasterPlace D → Durable → Type 0) (prepared back : History D) (before last : Durable) (goes : GoesBackBy x Keeps prepared back before last) → IsWell x goes.old
old_well x Keeps prepared back before last goes = bare_well x goes.given goes.first goes.begun goes.old goes.runs (begins_well x goes.given goes.begun goes.begins)

by_kept : {D : Type 0} (x : Setup D) (prepared back : History D) (before last : Durable) (goes : GoesBackBy x MasterKeeps prepared back before last) → IsSaid x MasterKeeps prepared back before last goes
by_kept x prepared back before last goes =
    let begun = stands_prepared x prepared back before last goes in
    let well = (within_so x goes.given before goes.between prepared goes.now goes.rolling goes.rest goes.rolls begun).well in
    record {
      was = λ d told. told_kept x goes.old d goes.ordinary (old_well x MasterKeeps prepared back before last goes) told goes.stood;
      keeps_told = has_told x prepared.nodes.master before (keeps_has x prepared.nodes.master before goes.keeps);
      on = λ a. alike x goes.given before goes.between prepared goes.now a goes.rest goes.rolling goes.rolls begun;
      rolls = λ d told. told_kept x goes.now d goes.rolling well told goes.rolls;
      now_well = well;
      ended_told = has_told x back.nodes.master last (keeps_has x back.nodes.master last goes.ended);
    }

by_told : {D : Type 0} (x : Setup D) (prepared back : History D) (before last : Durable) (goes : GoesBackBy x (IsToldAt x.seen) prepared back before last) → IsSaid x (IsToldAt x.seen) prepared back before last goes
by_told x prepared back before last goes =
    let well = step_well x goes.given goes.step goes.old prepared (old_well x (IsToldAt x.seen) prepared back before last goes) goes.steps in
    record {
      was = λ d told. told_at_once x.seen goes.old.nodes.master goes.ordinary d goes.stood told;
      keeps_told = goes.keeps;
      on = λ a. told_alike x goes.given goes.between prepared goes.now a goes.rest well;
      rolls = λ d told. told_at_once x.seen goes.now.nodes.master goes.rolling d goes.rolls told;
      now_well = told_well x goes.given goes.between prepared goes.now goes.rest well;
      ended_told = goes.ended;
    }

pub rollback_leaves_bytes : HaveSizes → AreNumbered → {D : Type 0} (x : Setup D) → MembersHaveNamed x → RollbackLeavesBytes x
rollback_leaves_bytes sizes law x members prepared back before last chunk apart goes referred = leaves_bytes sizes law x MasterKeeps members prepared back before last chunk apart goes (by_kept x prepared back before last goes) referred

pub rollback_leaves_told : HaveSizes → AreNumbered → {D : Type 0} (x : Setup D) → MembersHaveNamed x → RollbackLeavesTold x
rollback_leaves_told sizes law x members prepared back before last chunk apart goes referred = leaves_bytes sizes law x (IsToldAt x.seen) members prepared back before last chunk apart goes (by_told x prepared back before last goes) referred
