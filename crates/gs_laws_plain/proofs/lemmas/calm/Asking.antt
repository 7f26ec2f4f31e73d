-- What the calls of an upgrade meet where no chunk is settled: nothing is unquiet, and the phase is told by whether a copy is kept.
use Rattle.std.proofs.Common.{arith, ◌≡◌, ◌∙◌, ◌++◌, ◌&&◌, ℕ, Bool, false, not, List, [], ◌∷◌, length, map, refl, sym, ap, subst}
use Rattle.std.specs.Prelude.{Option, Some, None, Ok, filter}
use Rattle.std.specs.FinMap as fin
use Rattle.std.specs.Ordering.{nat_cmp}
use Rattle.gs_base.specs.Told.{IsNumber}
use Rattle.gs_base.specs.declared.config.Config.{Config}
use Rattle.gs_base.specs.declared.numbers.Moment.{Moment}
use Rattle.gs_base.specs.declared.numbers.ReqId.{ReqId}
use Rattle.gs_base.specs.declared.refusal.Refusal.{Refusal}
use Rattle.gs_edit.specs.Machine.{Plain}
use Rattle.gs_edit.specs.View.{NamesView}
use Rattle.gs_msg.specs.declared.answer.Answer.{Answer}
use Rattle.gs_msg.specs.declared.answer.Answer.TheVariants as answers
use Rattle.gs_msg.specs.declared.call.Call.{Call}
use Rattle.gs_msg.specs.declared.call.Call.TheVariants as calls
use Rattle.gs_laws_master.specs.Standing.{FitsAndStands, IsNamedCall}
use Rattle.gs_laws_plain.specs.commands.Commands.{Texts}
use Rattle.gs_laws_plain.specs.commands.Records.{kept_in}
use Rattle.gs_master_record.specs.declared.checkpoint.Phase.{Phase}
use Rattle.gs_master_record.specs.declared.checkpoint.Phase.TheVariants.{Ordinary, Upgrade, Rolling}
use Rattle.gs_master_spec.specs.Calls.{is_always_taken, is_any_deep, is_any_hidden, is_work, told_phase}
use Rattle.gs_master_spec.specs.Chunks.{has_entry}
use Rattle.gs_master_spec.specs.Durable.{Settled, is_rolling}
use Rattle.gs_master_spec.specs.Handling.{call_turn, called, called_unless}
use Rattle.gs_master_spec.specs.Settling.{is_quiet_at}
use Rattle.gs_master_spec.specs.State.{State, Turn}
use Rattle.gs_master_spec.specs.Undoing.{all_undone}
use Rattle.gs_master_spec.specs.Upgrades.{all_unquiet}
use Rattle.gs_master_spec.specs.Working.{ascending}
use Rattle.gs_master_spec.specs.declared.asking.Asking.{Asking}
use Rattle.gs_laws_plain.proofs.lemmas.calm.Answered.{is_new}
use Rattle.gs_laws_plain.proofs.lemmas.calm.Going.{answered_went}
use Rattle.gs_laws_plain.proofs.lemmas.calm.Trees.{call_fits, is_new_call, refused_so, tests_left}
use Rattle.gs_laws_plain.specs.calm.Calm.{Asked, IsStill, QueriesGo, WentTo, bare, phase_of}

-- ---- nothing is unquiet

no_length : {A : Type 0} (xs : List A) → length xs ≡ 0 → xs ≡ []
no_length [] h = refl
no_length (x ∷ xs) h = absurd (omega arith)

pub no_entries : {X : Type 0} (m : fin.FinMap nat_cmp X) → m ≡ fin.empty → fin.entries m ≡ []
no_entries {X} m is = no_length (fin.entries m) (sym (fin.len-entries m) ∙ ap (λ (n : fin.FinMap nat_cmp X). fin.len n) is ∙ fin.len-empty nat_cmp X)

pub all_quiet : (s : State) → IsStill s → all_unquiet s ≡ []
all_quiet s still =
    ap (λ (es : List (ℕ × Settled)). filter (λ chunk. has_entry s chunk && not (is_quiet_at s chunk)) (ascending (map (λ e. e.0) es ++ fin.keys s.volatile.moving))) (no_entries s.durable.chunks still.chunks)
    ∙ ap (λ (es : List (ℕ × Asking)). filter (λ chunk. has_entry s chunk && not (is_quiet_at s chunk)) (ascending (map (λ e. e.0) es))) (no_entries s.volatile.moving still.moving)

-- ---- a call comes to its own tests

module _ (preparing rolling : Bool) (config : Config) (s : State) (req : ReqId) (moment : Moment) (m : Plain (List ℕ)) (now next : ℕ) (asked : Asked preparing rolling s req m now next) where
  pub comes_to_tests : (call : Call) → (rolling && not (is_always_taken call)) ≡ false → (preparing && is_work call) ≡ false → is_any_deep call ≡ false → is_any_hidden call ≡ false → call_turn config s req moment call ≡ called config s req moment call
  comes_to_tests call unrolled unprepared shallow seen =
      is_new_call config s req moment call asked.still (is_new s req.client asked.last req.number asked.answered asked.above)
      ∙ ap (λ (o : Option Refusal). called_unless config s req moment call o)
      (refused_so s req call asked.still
      ∙ ap (λ (b : Bool). tests_left (b && not (is_always_taken call)) (s.volatile.is_preparing && is_work call) (is_any_deep call) (is_any_hidden call)) asked.rolled
      ∙ ap (λ (b : Bool). tests_left b (s.volatile.is_preparing && is_work call) (is_any_deep call) (is_any_hidden call)) unrolled
      ∙ ap (λ (b : Bool). tests_left false (b && is_work call) (is_any_deep call) (is_any_hidden call)) asked.begun
      ∙ ap (λ (b : Bool). tests_left false b (is_any_deep call) (is_any_hidden call)) unprepared
      ∙ ap (λ (b : Bool). tests_left false false b (is_any_hidden call)) shallow
      ∙ ap (λ (b : Bool). tests_left false false false b) seen)

  pub fits_so : (call : Call) → IsNamedCall call → IsNumber moment.0 → call_turn config s req moment call ≡ called config s req moment call → FitsAndStands s (called config s req moment call)
  fits_so call named number is = subst (FitsAndStands s) is (call_fits config s req moment call asked.still named number)

  -- ---- the phase

  has_back : (names : NamesView) × (all_undone s.durable.inverses s.durable.names ≡ Some names)
  has_back = (asked.still.firm.stands.kept.back.0, asked.still.firm.stands.kept.back.1)

  -- the copy that is kept, by the phase
  pub kept_is : kept_in bare.before s.durable.phase (all_undone s.durable.inverses s.durable.names) ≡ m.kept
  kept_is = ap (λ (p : Plain (List ℕ)). p.kept) asked.shows.plain

  pub is_upgrade_where_kept : (kept : Texts) → rolling ≡ false → m.kept ≡ Some kept → s.durable.phase ≡ Upgrade
  is_upgrade_where_kept kept none is = each s.durable.phase (all_undone s.durable.inverses s.durable.names) (asked.rolled ∙ none) (kept_is ∙ is)
    where
      each : (phase : Phase) (u : Option NamesView) → is_rolling phase ≡ false → kept_in bare.before phase u ≡ Some kept → phase ≡ Upgrade
      each Ordinary u r k = absurd (cc)
      each Upgrade u r k = refl
      each Rolling u r k = absurd (cc)

  pub is_ordinary_where_none : rolling ≡ false → m.kept ≡ None → s.durable.phase ≡ Ordinary
  is_ordinary_where_none none is = each s.durable.phase (all_undone s.durable.inverses s.durable.names) has_back.1 (asked.rolled ∙ none) (kept_is ∙ is)
    where
      each : (phase : Phase) (u : Option NamesView) → u ≡ Some has_back.0 → is_rolling phase ≡ false → kept_in bare.before phase u ≡ None → phase ≡ Ordinary
      each Ordinary u b r k = refl
      each Upgrade None b r k = absurd (cc)
      each Upgrade (Some n) b r k = absurd (cc)
      each Rolling u b r k = absurd (cc)

  pub told_so : rolling ≡ false → told_phase false s.durable.phase ≡ phase_of m.kept
  told_so none = each s.durable.phase (all_undone s.durable.inverses s.durable.names) has_back.1 (asked.rolled ∙ none) ∙ ap phase_of kept_is
    where
      each : (phase : Phase) (u : Option NamesView) → u ≡ Some has_back.0 → is_rolling phase ≡ false → told_phase false phase ≡ phase_of (kept_in bare.before phase u)
      each Ordinary u b r = refl
      each Upgrade None b r = absurd (cc)
      each Upgrade (Some n) b r = refl
      each Rolling u b r = absurd (cc)

pub queries_go : QueriesGo
queries_go config s req moment m now next asked number =
    let is = comes_to_tests false false config s req moment m now next asked calls.Query refl refl refl refl in
    let so = fits_so false false config s req moment m now next asked calls.Query tt number is in
    let told = told_so false false config s req moment m now next asked refl in
    subst (λ (t : Turn). WentTo false false req t [] (Ok (answers.Phase (phase_of m.kept) now)) m now next) (sym is)
    (subst (λ (a : Answer). WentTo false false req (called config s req moment calls.Query) [] (Ok a) m now next)
    (ap (λ (b : Bool). answers.Phase (told_phase b s.durable.phase) s.durable.epoch) asked.begun ∙ ap (λ (p : _). answers.Phase p s.durable.epoch) told ∙ ap (λ (n : ℕ). answers.Phase (phase_of m.kept) n) asked.shows.epoch)
    (answered_went false false s req _ m now next asked so))
