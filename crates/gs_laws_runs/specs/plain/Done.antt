-- An edit that a client was told done is a command of the plain machine, at one step of the run.
use Rattle.std.specs.Prelude.{[], ◌<◌, ◌++◌, ◌∷◌, ◌≡◌, ◌⊎◌, List, Option, Some, false, filter_map, length, map, slice_get, true, ℕ}
use Rattle.gs_base.specs.declared.numbers.ClientId.{ClientId}
use Rattle.gs_base.specs.declared.numbers.ReqId.{ReqId}
use Rattle.gs_base.specs.declared.numbers.Stamp.{Stamp}
use Rattle.gs_client.specs.Nodes.{Node}
use Rattle.gs_client.specs.declared.link.Reply.TheVariants as replies
use Rattle.gs_laws_chunks.specs.accounts.Accounts.{Account, settled_edits, text_of}
use Rattle.gs_laws_chunks.specs.accounts.Acknowledged.{IsAskedHere, IsNumbered, PassedFull, WasDone, is_undone}
use Rattle.gs_laws_chunks.specs.accounts.OnePlace.{IsUnasked, StandsAt}
use Rattle.gs_laws_chunks.specs.accounts.Running.{IsReached, Moves, Runs, Setup}
use Rattle.gs_laws_moves.specs.moves.Epochs.{rolls_back}
use Rattle.gs_laws_plain.specs.commands.Commands.{edit_at, text_at}
use Rattle.gs_laws_plain.specs.commands.Places.{op_of}
use Rattle.gs_laws_runs.specs.plain.Plainly.{IsPlainStep}
use Rattle.gs_laws_runs.specs.plain.Settling.{newly_settled}
use Rattle.gs_laws_runs.specs.plain.Views.{chunk_at, plain_view}
use Rattle.gs_master_spec.specs.Durable.{is_listed}
use Rattle.gs_nodes.specs.Happenings.{client_in}
use Rattle.gs_path.specs.Path.{Path}
use Rattle.gs_replica.specs.Stands.{Edit, outcome_at}
use Rattle.gs_replica.specs.declared.op.EditOutcome.{EditOutcome}
use Rattle.gs_world.specs.Histories.{History}
use Rattle.gs_world.specs.Runs.{Step}

-- a file has the chunk, or had it, and an edit of the request is settled of it
pub record IsSettledOf (a : Account) (chunk : ℕ) (req : ReqId) : Type 0 where
  pub listed : is_listed a.durable chunk ≡ true
  pub place : ℕ
  pub stands : StandsAt (settled_edits a chunk) req place

-- ---- the step

module _ {D : Type 0} (x : Setup D) where
  -- One step of a run, with what comes before it and after it.
  pub record HasStep (steps : List Step) (old : History D) (a : Account) (new : History D) (b : Account) : Type 0 where
    pub before : List Step
    pub mid : History D
    pub c : Account
    pub step : Step
    pub next : History D
    pub d : Account
    pub after : List Step
    pub is : steps ≡ before ++ step ∷ after
    pub first : Runs x before old a mid c
    pub moves : Moves x step mid c next d
    pub rest : Runs x after next d new b

  -- The edit is a command of the step, at the place where the chunk stood before it. The text there was that of what was settled. These edits change it before, and those after.
  pub record IsCommandAt {steps : List Step} {old new : History D} {a b : Account} (s : HasStep steps old a new b) (chunk : ℕ) (earlier : List Edit) (edit : Edit) (p : Path) (index : ℕ) : Type 0 where
    pub plain : IsPlainStep x.config.chunk s.step s.mid s.next s.c s.d
    pub more : List Edit
    pub later : List Edit
    pub text : text_at (plain_view x.config.chunk s.c).tree p index ≡ text_of x.config.chunk (settled_edits s.c chunk)
    pub behind : earlier ≡ settled_edits s.c chunk ++ more
    pub settles : newly_settled s.c s.d chunk ≡ more ++ edit ∷ later
    pub commands : filter_map (edit_at p index) plain.commands ≡ map op_of more ++ op_of edit ∷ map op_of later

  -- At the step an edit of the request is settled of the chunk, which wasn't before. It is the one that was asked for, behind the edits before it, and its client is told what it comes to there.
  -- Wherever the chunk stood before the step, it is a command there, unless a rollback is committed at the step.
  pub record IsMadeAt {steps : List Step} {old new : History D} {a b : Account} (s : HasStep steps old a new b) (chunk : ℕ) (req : ReqId) (outcome : EditOutcome) : Type 0 where
    pub not_before : IsSettledOf s.c chunk req → ⊥
    pub listed : is_listed s.d.durable chunk ≡ true
    pub earlier : List Edit
    pub edit : Edit
    pub later : List Edit
    pub settled : settled_edits s.d chunk ≡ earlier ++ edit ∷ later
    pub stamp : Stamp
    pub asked : IsAskedHere x.config.chunk new.sent chunk req stamp earlier edit
    pub is : edit.req ≡ req
    pub answered : outcome ≡ outcome_at edit.op (length (text_of x.config.chunk earlier))
    pub made : (p : Path) (index : ℕ) → rolls_back s.c.durable s.d.durable ≡ false → chunk_at s.c p index ≡ Some chunk → IsCommandAt s chunk earlier edit p index

  -- ---- what is to hold

  -- A record passed a chunk that is full, and no list of that chunk has an edit of it. Or the edit was numbered, in a chunk; and if a file has that still, and the upgrade in which it was numbered wasn't rolled back, the edit is made at one step of this very run.
  abbrev pub IsMadeSince : (steps : List Step) (old : History D) (a : Account) (new : History D) (b : Account) (req : ReqId) (outcome : EditOutcome) → Type 0
  IsMadeSince steps old a new b req outcome =
      (chunk : ℕ) × (PassedFull x.config.chunk new.sent b chunk req outcome
      ⊎ ((numbered : IsNumbered x.config.chunk new.sent b chunk req outcome)
      × (is_listed b.durable chunk ≡ true → is_undone b.durable numbered.stamp ≡ false → (s : HasStep steps old a new b) × IsMadeAt s chunk req outcome)))

  -- So it is of a run at whose beginning nobody had asked for an edit of a request, and at whose end its client was told done.
  abbrev pub DoneAreMade : Type 0
  DoneAreMade = (old new : History D) (a b : Account) (steps : List Step) (req : ReqId) (outcome : EditOutcome) → IsReached x old a → Runs x steps old a new b → IsUnasked old.sent req → WasDone new.sent req outcome → IsMadeSince steps old a new b req outcome

  -- And so it is where a client hasn't used a number at the beginning, has used it last at the end, and has what an edit came to as its reply.
  abbrev pub ToldAreMade : Type 0
  ToldAreMade = (old new : History D) (a b : Account) (steps : List Step) (client : ClientId) (before after : Node) (number : ℕ) (outcome : EditOutcome) → IsReached x old a → Runs x steps old a new b →
      client_in old.nodes.clients client ≡ Some before → before.last < number → client_in new.nodes.clients client ≡ Some after → after.last ≡ number → after.reply ≡ Some (replies.Outcome outcome) → IsMadeSince steps old a new b (record { client = client; number = number }) outcome

-- ---- Worked
of_nothing_no_edit : (req : ReqId) (place : ℕ) → StandsAt [] req place → ⊥
of_nothing_no_edit req place here = none_at (here.stands)
  where
    none_at : ◌≡◌ {A = Option Edit} (slice_get [] place) (Some here.edit) → ⊥
    none_at is = absurd (cc)
