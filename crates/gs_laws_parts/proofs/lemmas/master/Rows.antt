-- All chunks together over a turn that ends one epoch at most, with their rows.
use Rattle.std.proofs.Common.{◌≡◌, ◌∙◌, ◌&&◌, ◌<◌, ◌≤◌, ◌++◌, ℕ, Bool, true, false, List, [], Option, None, refl, sym, ap, arith}
use Rattle.std.proofs.lemmas.Bool.{false≢true, true≢false}
use Rattle.gs_base.specs.declared.config.Config.{Config}
use Rattle.gs_base.specs.declared.refusal.Refusal.{Refusal}
use Rattle.gs_msg.specs.declared.message.Message.{Message}
use Rattle.gs_master_spec.specs.Durable.{is_listed, is_ordinary, is_rolling, is_upgrade}
use Rattle.gs_master_spec.specs.State.{State, Turn, joined}
use Rattle.gs_laws_moves.proofs.lemmas.moves.Epochs.{epochs_go, within_stays}
use Rattle.gs_laws_moves.proofs.lemmas.moves.Phases.{commits_by, followed_none, prepares_by, same_commits_none, same_prepares_none}
use Rattle.gs_laws_moves.proofs.lemmas.moves.Rows.{listed_stay, rows_go_over}
use Rattle.gs_laws_moves.specs.moves.Epochs.{ByItself, Closes, EpochGoes, IsSameEpoch, Within, closes, is_alone, is_followed, prepares, rolls_back}
use Rattle.gs_laws_moves.specs.moves.Guards.{Heard, MayPrepare}
use Rattle.gs_laws_moves.specs.moves.Laws.{IsMadeWell}
use Rattle.gs_laws_moves.specs.moves.Moved.{is_commit}
use Rattle.gs_laws_moves.specs.moves.Moves.{BeginsRollback, Chain, CommitsRollback, Move, Moves, Scans, Settles, Then, move_turn}
use Rattle.gs_laws_moves.specs.moves.Rows.{RowGoes}
use Rattle.gs_laws_chunk.proofs.lemmas.machine.Facts.{reached_world}
use Rattle.gs_laws_chunk.proofs.lemmas.machine.Lasting.{agrees}
use Rattle.gs_laws_chunk.specs.machine.Laws.{IsReached, world_of}
use Rattle.gs_laws_chunk.specs.machine.Machine.{ChunkWorld}
use Rattle.gs_master_spec.specs.Volatile.{changed}
use Rattle.gs_master_spec.specs.declared.change.Change.TheVariants as changes
use Rattle.gs_msg.specs.declared.answer.Answer.TheVariants as answers
use Rattle.gs_laws_parts.proofs.lemmas.master.Ending.{answer_both}
use Rattle.gs_laws_parts.proofs.lemmas.master.Calm.{AloneIn, CalmGoes, CalmIn, calm_both, each_closing, each_made, families_alone, families_calm, families_close, none_commits, unmoved_unled}
use Rattle.gs_laws_parts.proofs.lemmas.master.Families.{families_both, family_hears, family_marks}
use Rattle.gs_laws_parts.proofs.lemmas.master.Rowing.{rows_back, rows_born, rows_go}
use Rattle.gs_laws_parts.specs.master.Families.{Alive, Family, Goes, HeardOf, Life, MarksOf, Unborn, birth_of}
use Rattle.gs_laws_parts.specs.master.Rows.{FamiliesGoByRows, FamilyRows, RowsIn}
use Rattle.gs_laws_parts.specs.master.Single.{AsOf, IsUnmoved}
use Rattle.gs_laws_parts.specs.master.Telling.{Shows}

-- ---- one chunk

-- nobody may number in a view that was settled of one that is forgotten
unled_fades : (chunk : ℕ) (u : State) (messages : List Message) (low : ℕ) (w v : ChunkWorld) → IsReached v → Shows chunk u v → CalmGoes chunk u.durable messages low w v → v.entry.is_known ≡ false → w.known.view < v.known.view → v.known.holder v.known.view ≡ None
unled_fades chunk u messages low w v reached shows calm unknown later =
    let known = agrees v (reached_world v reached) in ap v.known.holder known.view ∙ known.holder ∙ calm.unled later (by_listed (is_listed u.durable chunk) refl)
  where
    by_listed : (b : Bool) → is_listed u.durable chunk ≡ b → b ≡ false
    by_listed true is = absurd (false≢true (sym unknown ∙ shows.entry.durable.listed is))
    by_listed false is = refl

-- one that is born is born in the last epoch, and none began by a prepare
abbrev IsLate : (chunk : ℕ) (s u : State) → Life chunk s → Life chunk u → Type 0
IsLate chunk s u (Unborn k) (Alive b) = (u.durable.epoch ≤ birth_of b) × (prepares s.durable u.durable ≡ false)
IsLate chunk s u life last = Unit {0}

-- over a turn that commits no rollback
rows_in : (chunk : ℕ) (whole : ℕ → Bool) (s u : State) (messages : List Message) (l : Life chunk s) (n : Life chunk u) → EpochGoes s.durable u.durable → rolls_back s.durable u.durable ≡ false → (prepares s.durable u.durable ≡ true → MayPrepare s) → RowGoes s u chunk
    → IsLate chunk s u l n → Goes chunk whole s u messages l n → CalmIn chunk s u messages l n → RowsIn chunk s u messages l n
rows_in chunk whole s u messages (Alive a) (Alive b) epochs none may row late goes calm = (
  rows_go chunk s u a.world b.world goes.leads goes.masters a.reached a.shows b.shows epochs none row (unled_fades chunk u messages a.world.known.view a.world b.world b.reached b.shows calm) may,
  calm.copies,
)
rows_in chunk whole s u messages (Unborn k) (Alive b) epochs none may row late goes calm =
    let born = rows_born chunk s.durable u b.reached.0 b.world goes.leads goes.masters b.shows k.ungiven late.0 epochs none late.1 row.row (unled_fades chunk u messages 0 (world_of b.reached.0) b.world b.reached b.shows calm) in (born.0, born.1, calm.copies)
rows_in chunk whole s u messages life (Unborn k) epochs none may row late goes calm = tt

-- one that is born while the epoch stays
late_within : (chunk : ℕ) (whole : ℕ → Bool) (s u : State) (messages : List Message) (l : Life chunk s) (n : Life chunk u) → IsSameEpoch s.durable u.durable → Goes chunk whole s u messages l n → IsLate chunk s u l n
late_within chunk whole s u messages (Unborn k) (Alive b) same goes = ((let later = goes.later in let epoch = same.0 in omega arith), same_prepares_none s.durable u.durable same.1)
late_within chunk whole s u messages (Alive a) n same goes = tt
late_within chunk whole s u messages (Unborn k) (Unborn n) same goes = tt

-- ---- a move that is alone

unmoved_of : (chunk : ℕ) (move : Move) (u : State) (w v : ChunkWorld) → is_alone move ≡ true → is_commit move ≡ false → AsOf chunk move u w v → IsUnmoved w v
unmoved_of chunk (Settles q asking carried view) u w v alone other left = absurd (false≢true alone)
unmoved_of chunk (CommitsRollback req names) u w v alone other left = absurd (true≢false other)
unmoved_of chunk move u w v alone other left = left

module _ (config : Config) (heard : Heard) (s : State) (move : Move) (well : IsMadeWell config heard s move) (alone : is_alone move ≡ true) where
  abbrev after : State
  after = (move_turn config s move).after

  -- settles no view, but for a commit
  calm_alone : (chunk : ℕ) (messages : List Message) (l : Life chunk s) (n : Life chunk after) → is_commit move ≡ false → AloneIn chunk move s after messages l n → CalmIn chunk s after messages l n
  calm_alone chunk messages (Alive a) (Alive b) other left = record { unled = λ later out. unmoved_unled config heard s chunk a b.world b.reached (unmoved_of chunk move after a.world b.world alone other left.0) later; copies = left.1 }
  calm_alone chunk messages (Unborn k) (Alive b) other left = absurd left
  calm_alone chunk messages life (Unborn k) other left = tt

  -- bears none
  late_alone : (chunk : ℕ) (messages : List Message) (l : Life chunk s) (n : Life chunk after) → AloneIn chunk move s after messages l n → IsLate chunk s after l n
  late_alone chunk messages (Unborn k) (Alive b) left = absurd left
  late_alone chunk messages (Alive a) n left = tt
  late_alone chunk messages (Unborn k) (Unborn n) left = tt

-- a commit by itself
rows_committed : (chunk : ℕ) (whole : ℕ → Bool) (config : Config) (s : State) (move : Move) (u : State) (messages : List Message) (l : Life chunk s) (n : Life chunk u) → EpochGoes s.durable u.durable → rolls_back s.durable u.durable ≡ true → u.volatile.unplaced ≡ [] → is_commit move ≡ true
    → Goes chunk whole s u messages l n → AloneIn chunk move s u messages l n → RowsIn chunk s u messages l n
rows_committed chunk whole config s (CommitsRollback req names) u messages (Alive a) (Alive b) epochs back bare is goes left = (rows_back chunk s u a.world b.world goes.leads goes.masters a.reached a.shows b.shows epochs back bare left.0, left.1)
rows_committed chunk whole config s move u messages (Alive a) (Alive b) epochs back bare is goes left = absurd (false≢true is)
rows_committed chunk whole config s move u messages (Unborn k) (Alive b) epochs back bare is goes left = absurd left
rows_committed chunk whole config s move u messages life (Unborn k) epochs back bare is goes left = tt

-- behind which no chunk waits for its place
bare_commit : (config : Config) (s : State) (move : Move) → is_commit move ≡ true → (move_turn config s move).after.volatile.unplaced ≡ []
bare_commit config s (CommitsRollback req names) is = (answer_both 0 s (changed s.volatile changes.RolledBack) req (answers.Epoch s.durable.epoch)).1
bare_commit config s move is = absurd (false≢true is)

-- ---- all of them

module _ (keeps : ℕ → Bool) (whole : ℕ → ℕ → Bool) (config : Config) (heard : Heard) (s : State) (family : Family s) (hears : (chunk : ℕ) → HeardOf chunk s heard (family chunk)) (marks : (chunk : ℕ) → MarksOf chunk s (whole chunk) (family chunk)) where
  rows_within : (t : Turn) → Chain config (λ u move. IsMadeWell config heard u move × (is_alone move ≡ false)) s t → FamilyRows keeps whole s t.after t.sent family
  rows_within t chain =
      let f = families_calm keeps whole config heard s t family hears marks chain in
      let same = within_stays config heard s t (each_made config heard s t chain) in
      record {
        goes = f.goes;
        rows = λ chunk. rows_in chunk (whole chunk) s t.after t.sent (family chunk) (f.goes.last chunk) (epochs_go config heard s t (Within s t chain)) (same_commits_none s.durable t.after.durable same.1) (λ here. absurd (true≢false (sym here ∙ same_prepares_none s.durable t.after.durable same.1)))
            (rows_go_over config heard s t chunk (none_commits config heard s t chain)) (late_within chunk (whole chunk) s t.after t.sent (family chunk) (f.goes.last chunk) same (f.goes.goes chunk)) (f.goes.goes chunk) (f.calm chunk);
      }

  module _ (move : Move) (well : IsMadeWell config heard s move) where
    abbrev one : Option Refusal → Turn
    one said = record (move_turn config s move) { said = said }

    abbrev behind : State
    behind = (move_turn config s move).after

    abbrev sent : List Message
    sent = (move_turn config s move).sent

    rows_alone : is_alone move ≡ true → FamilyRows keeps whole s behind sent family
    rows_alone alone = by_commit (is_commit move) refl
      where
        by_commit : (b : Bool) → is_commit move ≡ b → FamilyRows keeps whole s behind sent family
        by_commit true is =
            let f = families_alone keeps whole config heard s move family hears marks well alone in
            record {
              goes = f.goes;
              rows = λ chunk. rows_committed chunk (whole chunk) config s move behind sent (family chunk) (f.goes.last chunk) (epochs_go config heard s (one None) (ByItself s move None well alone)) (commits_by config heard s move well.made alone ∙ is) (bare_commit config s move is) is (f.goes.goes chunk) (f.alone chunk);
            }
        by_commit false other =
            let f = families_alone keeps whole config heard s move family hears marks well alone in
            record {
              goes = f.goes;
              rows = λ chunk. rows_in chunk (whole chunk) s behind sent (family chunk) (f.goes.last chunk) (epochs_go config heard s (one None) (ByItself s move None well alone)) (commits_by config heard s move well.made alone ∙ other) (prepares_by config heard s move well.made alone)
                  (rows_go_over config heard s (one None) chunk (Moves s move None (well.made, other))) (late_alone config heard s move well alone chunk sent (family chunk) (f.goes.last chunk) (f.alone chunk)) (f.goes.goes chunk)
                  (calm_alone config heard s move well alone chunk sent (family chunk) (f.goes.last chunk) other (f.alone chunk));
            }

    -- ---- with moves behind it by which calls end

    module _ (is : is_followed move ≡ true) (said : Option Refusal) (next : Turn) (chain : Chain config (λ u m. IsMadeWell config heard u m × (closes m ≡ true)) behind next) where
      alone : is_alone move ≡ true
      alone = by_move move is
        where
          by_move : (m : Move) → is_followed m ≡ true → is_alone m ≡ true
          by_move (Scans removed forgotten) is = refl
          by_move BeginsRollback is = refl
          by_move m is = absurd (false≢true is)

      other : is_commit move ≡ false
      other = by_move move is
        where
          by_move : (m : Move) → is_followed m ≡ true → is_commit m ≡ false
          by_move (CommitsRollback req names) is = absurd (false≢true is)
          by_move m is = refl

      calm_chain : Chain config (λ u m. IsMadeWell config heard u m × (is_alone m ≡ false)) behind next
      calm_chain = each_closing config heard behind next chain

      same : IsSameEpoch behind.durable next.after.durable
      same = within_stays config heard behind next (each_made config heard behind next calm_chain)

      prepares_none : prepares s.durable next.after.durable ≡ false
      prepares_none = ap (λ p. is_ordinary s.durable.phase && is_upgrade p) same.1 ∙ followed_none config heard s move well.made is

      commits_none : rolls_back s.durable next.after.durable ≡ false
      commits_none = ap (λ p. is_rolling s.durable.phase && is_ordinary p) same.1 ∙ commits_by config heard s move well.made alone ∙ other

      row_over : (chunk : ℕ) → RowGoes s next.after chunk
      row_over chunk = rows_go_over config heard s (joined (one said) next) chunk (Then s (one said) next (Moves s move said (well.made, other)) (none_commits config heard behind next calm_chain))

      -- only the moves behind may bear one
      late_then : (chunk : ℕ) (l : Life chunk s) (m : Life chunk behind) (n : Life chunk next.after) → AloneIn chunk move s behind sent l m → Goes chunk (whole chunk) behind next.after next.sent m n → IsLate chunk s next.after l n
      late_then chunk (Unborn k) (Unborn m) (Alive b) left goes = ((let later = goes.later in let epoch = same.0 in omega arith), prepares_none)
      late_then chunk (Unborn k) (Alive a) (Alive b) left goes = absurd left
      late_then chunk (Unborn k) m (Unborn n) left goes = tt
      late_then chunk (Alive a) m n left goes = tt

      rows_closed : FamilyRows keeps whole s next.after (sent ++ next.sent) family
      unfolding families_both
      rows_closed =
          let f = families_alone keeps whole config heard s move family hears marks well alone in
          let g = families_close keeps whole config heard behind next f.goes.last (family_hears keeps whole s behind sent family f.goes heard hears) (family_marks keeps whole s behind sent family f.goes marks) chain in
          let both = families_both keeps whole s behind next.after sent next.sent family marks f.goes g.goes in
          record {
            goes = both;
            rows = λ chunk. rows_in chunk (whole chunk) s next.after (sent ++ next.sent) (family chunk) (g.goes.last chunk) (epochs_go config heard s (joined (one said) next) (Closes s move said next well is chain)) commits_none (λ here. absurd (true≢false (sym here ∙ prepares_none)))
                (row_over chunk) (late_then chunk (family chunk) (f.goes.last chunk) (g.goes.last chunk) (f.alone chunk) (g.goes.goes chunk)) (both.goes chunk)
                (calm_both chunk (whole chunk) s behind next.after sent next.sent (family chunk) (f.goes.last chunk) (g.goes.last chunk) (rows_go_over config heard s (one said) chunk (Moves s move said (well.made, other)))
                (listed_stay config heard behind next chunk (each_made config heard behind next calm_chain)) (f.goes.goes chunk) (g.goes.goes chunk) (calm_alone config heard s move well alone chunk sent (family chunk) (f.goes.last chunk) other (f.alone chunk)) (g.calm chunk));
          }

pub families_go_by_rows : FamiliesGoByRows
families_go_by_rows keeps whole config heard s t family hears marks (Within u v chain) = rows_within keeps whole config heard u family hears marks v chain
families_go_by_rows keeps whole config heard s t family hears marks (ByItself u move said well alone) = rows_alone keeps whole config heard u family hears marks move well alone
families_go_by_rows keeps whole config heard s t family hears marks (Closes u move said next well is chain) = rows_closed keeps whole config heard u family hears marks move well is said next chain
