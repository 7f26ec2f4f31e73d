-- Of a master's state: why a call is refused before its own tests, why an upgrade isn't begun or prepared, and the plans of its ends.
use Rattle.std.specs.Prelude.{◌+◌, ◌∷◌, [], ℕ, Bool, false, List, not, Option}
use Rattle.std.specs.FinMap as fin
use Rattle.gs_base.specs.declared.config.Config.{Config}
use Rattle.gs_base.specs.declared.epoch.EpochEnd.TheVariants as ends
use Rattle.gs_base.specs.declared.numbers.Moment.{Moment}
use Rattle.gs_base.specs.declared.numbers.ReqId.{ReqId}
use Rattle.gs_base.specs.declared.refusal.Refusal.{Refusal}
use Rattle.gs_edit.specs.View.{NamesView}
use Rattle.gs_lease.specs.declared.view.View.{View}
use Rattle.gs_msg.specs.declared.call.Call.{Call}
use Rattle.gs_master_record.specs.Plain as entries
use Rattle.gs_master_spec.specs.Beginning.{has_versions}
use Rattle.gs_master_spec.specs.Calls.{ordered}
use Rattle.gs_master_spec.specs.Chunks.{settling}
use Rattle.gs_master_spec.specs.Durable.{is_rolling, prepared_view}
use Rattle.gs_master_spec.specs.Settling.{settle_plan}
use Rattle.gs_master_spec.specs.State.{Plan, State, first_of, is_failed}
use Rattle.gs_master_spec.specs.Upgrades.{accepted_plan, answers_for, begin_tests, chunk_count, commit_tests, is_last_epoch, tell_all, told_of}
use Rattle.gs_master_spec.specs.declared.asking.Asking.{Asking}
use Rattle.gs_master_spec.specs.declared.change.Change.TheVariants as changes

-- where it is told whether a lock of another call is in its way
abbrev pub refusal_where : State → Bool → Call → Option Refusal
refusal_where s locked call = first_of (ordered (is_failed s.fault) (is_rolling s.durable.phase) s.volatile.is_preparing locked call)

-- where so many chunks are to be made quiet
abbrev pub refusal_to_begin : State → ℕ → Option Refusal
refusal_to_begin s unquiet = first_of (begin_tests s.durable.phase s.volatile.is_preparing s.volatile.pending (not (has_versions s.durable unquiet)))

-- where these chunks aren't quiet
abbrev pub refusal_to_prepare : State → List ℕ → Option Refusal
refusal_to_prepare s unquiet = first_of (commit_tests s.durable.phase s.volatile.is_preparing unquiet (is_last_epoch s.durable))

abbrev pub prepared_so : Config → State → ReqId → Moment → Plan
prepared_so config s req moment =
    let epoch = s.durable.epoch + 1 in
    accepted_plan s req (entries.Prepare epoch moment.0 (chunk_count s) ∷ []) (changes.Prepare false ∷ []) (tell_all config epoch ends.Prepare) epoch

abbrev pub finalized_so : Config → State → ReqId → Plan
finalized_so config s req =
    let epoch = s.durable.epoch + 1 in
    accepted_plan s req (entries.Finalize epoch ∷ []) [] (tell_all config epoch ends.Finalize) epoch

-- these are the names of the prepare
abbrev pub rolled_back_so : State → ReqId → NamesView → Plan
rolled_back_so s req names =
    accepted_plan s req (entries.RollbackCommit s.durable.epoch (answers_for (prepared_view s.durable) (told_of s) (fin.entries names.refs)) ∷ []) (changes.RolledBack ∷ []) [] s.durable.epoch

-- a view of a chunk is settled for what was asked
abbrev pub settled_so : State → ℕ → Asking → Bool → View → Plan
settled_so s chunk asking carried view = settle_plan (settling s.durable.phase (prepared_view s.durable chunk) carried chunk asking view) chunk view
