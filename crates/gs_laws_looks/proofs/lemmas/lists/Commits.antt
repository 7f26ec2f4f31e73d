-- What a commit does that is answered by an epoch.
use Rattle.std.proofs.Common.{◌≡◌, ◌∙◌, inl, inr, ◌&&◌, ◌++◌, ◌+◌, ◌==◌, ℕ, Bool, true, false, List, [], ◌∷◌, refl, ap, sym, subst}
use Rattle.std.specs.Prelude.{is_some, option_and_then, Option, Some, None, Ok, Err, if◌then◌else◌}
use Rattle.std.specs.FinMap as fin
use Rattle.std.proofs.lemmas.Bool.{false≢true, and_parts}
use Rattle.gs_base.specs.Members.{count_from}
use Rattle.gs_base.specs.declared.config.Config.{Config}
use Rattle.gs_base.specs.declared.epoch.EpochEnd.{EpochEnd}
use Rattle.gs_base.specs.declared.epoch.EpochEnd.TheVariants as ends
use Rattle.gs_base.specs.declared.numbers.Moment.{Moment}
use Rattle.gs_base.specs.declared.numbers.ReqId.{ReqId}
use Rattle.gs_base.specs.declared.refusal.Refusal.{Refusal}
use Rattle.gs_base.specs.declared.refusal.Refusal.TheVariants as refusals
use Rattle.gs_edit.specs.View.{NamesView}
use Rattle.gs_msg.specs.declared.answer.Answer.{Answer}
use Rattle.gs_msg.specs.declared.answer.Answer.TheVariants as answers
use Rattle.gs_msg.specs.declared.body.Body.TheVariants as bodies
use Rattle.gs_msg.specs.declared.call.Call.TheVariants as calls
use Rattle.gs_msg.specs.declared.node.NodeId.TheVariants as nodes
use Rattle.gs_laws_moves.specs.answers.AtOnce.{OneSays}
use Rattle.gs_laws_master.proofs.lemmas.upgrades.Beginnings.{fits_gives}
use Rattle.gs_laws_moves.specs.moves.Epochs.{prepares, rolls_back}
use Rattle.gs_master_record.specs.Plain.{PlainEntry, Prepare, RollbackCommit}
use Rattle.gs_master_record.specs.declared.checkpoint.Phase.TheVariants.{Upgrade}
use Rattle.gs_master_record.specs.declared.entry.Answered.{Answered}
use Rattle.gs_master_spec.specs.Applied.{after_undoing, applied, are_answers, are_at_rest, rolled_back, is_next_epoch, replayed, with_epoch, without_prepared}
use Rattle.gs_master_spec.specs.Durable.{Durable, is_ordinary, is_rolling, prepared_view}
use Rattle.gs_master_spec.specs.Handling.{called_unless}
use Rattle.gs_master_spec.specs.State.{State, Turn, first_of, fits, post, refused, reply_to, to_each, turned}
use Rattle.gs_master_spec.specs.Undoing.{all_undone}
use Rattle.gs_master_spec.specs.Upgrades.{accepted_plan, all_unquiet, answers_for, chunk_count, commit_if, commit_on, commit_tests, is_last_epoch, tell_all, told_of, unless, unrestored}
use Rattle.gs_master_spec.specs.declared.change.Change.TheVariants as changes

no_answer : {T : Type 0} (req : ReqId) (refusal : Refusal) (answer : Answer) → OneSays req (Ok answer) (reply_to req (Err refusal) ∷ []) → T
no_answer req refusal answer (inl is) = absurd (other_result is)
  where
    other_result : bodies.Reply req (Err refusal) ≡ bodies.Reply req (Ok answer) → ⊥
    other_result is = cc
no_answer req refusal answer (inr none) = absurd none

answer_said : (req : ReqId) (given answer : Answer) → OneSays req (Ok answer) (reply_to req (Ok given) ∷ []) → given ≡ answer
answer_said req given answer (inl is) = same is
  where
    same : bodies.Reply req (Ok given) ≡ bodies.Reply req (Ok answer) → given ≡ answer
    same is = cc
answer_said req given answer (inr none) = absurd none

-- servers are told of the epoch first
answer_behind : (req : ReqId) (given answer : Answer) (epoch : ℕ) (end : EpochEnd) (servers : List ℕ) → OneSays req (Ok answer) (to_each servers (λ server. post (nodes.Server server) (bodies.Epoch epoch end)) ++ reply_to req (Ok given) ∷ []) → given ≡ answer
answer_behind req given answer epoch end [] says = answer_said req given answer says
answer_behind req given answer epoch end (server ∷ servers) (inl is) = absurd (never is)
  where
    never : bodies.Epoch epoch end ≡ bodies.Reply req (Ok answer) → ⊥
    never is = cc
answer_behind req given answer epoch end (server ∷ servers) (inr says) = answer_behind req given answer epoch end servers says

epoch_is : {a b : ℕ} → answers.Epoch a ≡ answers.Epoch b → a ≡ b
epoch_is is = cc

durable_is : {a b : Durable} → ◌≡◌ {A = Option Durable} (Some a) (Some b) → a ≡ b
durable_is h = cc

-- one record that fits
one_fits : (d e : Durable) (entry : PlainEntry) → replayed d (entry ∷ []) ≡ Some e → applied d entry ≡ Some e
one_fits d e entry fit = by_fit (applied d entry) fit
  where
    by_fit : (o : Option Durable) → option_and_then (λ (n : Durable). replayed n []) o ≡ Some e → o ≡ Some e
    by_fit None fit = absurd (false≢true (ap is_some fit))
    by_fit (Some n) fit = fit

commit_ordinary : (d e : Durable) (epoch : ℕ) (answers : List Answered) (names : Option NamesView) → after_undoing d epoch answers names ≡ Some e → is_ordinary e.phase ≡ true
commit_ordinary d e epoch answers None fit = absurd (false≢true (ap is_some fit))
commit_ordinary d e epoch answers (Some names) fit =
    ap (λ (z : Durable). is_ordinary z.phase) (sym (fits_gives (is_rolling d.phase && ((epoch == d.epoch) && are_answers (prepared_view d) (fin.entries names.refs) answers)) (rolled_back d answers names) e fit).1)

-- behind it no upgrade stands
committed_ordinary : (d e : Durable) (epoch : ℕ) (answers : List Answered) → applied d (RollbackCommit epoch answers) ≡ Some e → is_ordinary e.phase ≡ true
unfolding applied
committed_ordinary d e epoch answers fit = commit_ordinary d e epoch answers (all_undone d.inverses d.names) fit

prepared_so : (d e : Durable) (epoch moment chunks : ℕ) → applied d (Prepare epoch moment chunks) ≡ Some e → (prepares d e ≡ true) × (e.epoch ≡ d.epoch + 1)
unfolding applied
prepared_so d e epoch moment chunks fit =
    let gives = fits_gives (is_ordinary d.phase && (is_next_epoch d.epoch epoch && are_at_rest d)) (without_prepared (with_epoch d ends.Prepare Upgrade)) e fit in
    let is = sym gives.1 in
    let ordinary : is_ordinary d.phase ≡ true = (and_parts (is_ordinary d.phase) (is_next_epoch d.epoch epoch && are_at_rest d) gives.0).0 in
    (subst (λ (z : Durable). prepares d z ≡ true) gives.1 (ap (λ b. b && true) ordinary), ap (λ (x : Durable). x.epoch) is)

-- what becomes of a prepare, and of a rollback
pub record IsPrepared (d e : Durable) (number : ℕ) : Type 0 where
  pub accepted : prepares d e ≡ true
  pub begins : e.epoch ≡ number

pub record IsRolledBack (d e : Durable) (number : ℕ) : Type 0 where
  pub rolls : rolls_back d e ≡ true
  pub within : d.epoch ≡ number

module _ (config : Config) (s : State) (req : ReqId) (moment : Moment) (epoch : ℕ) where
  abbrev Fits : Turn → Type 0
  Fits t = replayed s.durable t.records ≡ Some t.after.durable

  abbrev Says : Turn → Type 0
  Says t = OneSays req (Ok (answers.Epoch epoch)) t.sent

  abbrev PreparedBy : Turn → Type 0
  PreparedBy t = Says t → Fits t → IsPrepared s.durable t.after.durable epoch

  abbrev RolledBy : Turn → Type 0
  RolledBy t = Says t → Fits t → IsRolledBack s.durable t.after.durable epoch

  pick : (S : Turn → Type 0) (b : Bool) (t u : Turn) → S t → S u → S (if b then t else u)
  pick S true t u x y = x
  pick S false t u x y = y

  abbrev prepare_turn : Turn
  prepare_turn = turned s (accepted_plan s req (Prepare (s.durable.epoch + 1) moment.0 (chunk_count s) ∷ []) (changes.Prepare false ∷ []) (tell_all config (s.durable.epoch + 1) ends.Prepare) (s.durable.epoch + 1))

  prepare_made : PreparedBy prepare_turn
  prepare_made says fit =
      let so = prepared_so s.durable prepare_turn.after.durable (s.durable.epoch + 1) moment.0 (chunk_count s) (one_fits s.durable prepare_turn.after.durable (Prepare (s.durable.epoch + 1) moment.0 (chunk_count s)) fit) in
      record { accepted = so.0; begins = so.1 ∙ epoch_is (answer_behind req (answers.Epoch (s.durable.epoch + 1)) (answers.Epoch epoch) (s.durable.epoch + 1) ends.Prepare (count_from 0 config.servers) says) }

  prepare_unless : (o : Option Refusal) → PreparedBy (unless o s req prepare_turn)
  prepare_unless None = pick PreparedBy (fits s.log prepare_turn.records) prepare_turn (refused s req refusals.Full) prepare_made (λ says fit. no_answer req refusals.Full (answers.Epoch epoch) says)
  prepare_unless (Some refusal) = λ says fit. no_answer req refusal (answers.Epoch epoch) says

  pub prepare_so : (o : Option Refusal) → PreparedBy (called_unless config s req moment calls.PrepareCommit o)
  prepare_so None = prepare_unless (first_of (commit_tests s.durable.phase s.volatile.is_preparing (all_unquiet s) (is_last_epoch s.durable)))
  prepare_so (Some refusal) = λ says fit. no_answer req refusal (answers.Epoch epoch) says

  abbrev told : NamesView → List Answered
  told names = answers_for (prepared_view s.durable) (told_of s) (fin.entries names.refs)

  abbrev commit_turn : NamesView → Turn
  commit_turn names = turned s (accepted_plan s req (RollbackCommit s.durable.epoch (told names) ∷ []) (changes.RolledBack ∷ []) [] s.durable.epoch)

  commit_made : is_rolling s.durable.phase ≡ true → (names : NamesView) → RolledBy (commit_turn names)
  commit_made rolling names says fit =
      let e = (commit_turn names).after.durable in
      let ordinary = committed_ordinary s.durable e s.durable.epoch (told names) (one_fits s.durable e (RollbackCommit s.durable.epoch (told names)) fit) in
      record { rolls = both (is_rolling s.durable.phase) (is_ordinary e.phase) rolling ordinary; within = epoch_is (answer_said req (answers.Epoch s.durable.epoch) (answers.Epoch epoch) says) }
    where
      both : (a b : Bool) → a ≡ true → b ≡ true → (a && b) ≡ true
      both true b first second = second
      both false b first second = absurd (false≢true first)

  commit_lacking : is_rolling s.durable.phase ≡ true → (names : NamesView) (lacking : Option ℕ) → RolledBy (commit_if s req names lacking)
  commit_lacking rolling names (Some chunk) = λ says fit. no_answer req (refusals.Unrestored chunk) (answers.Epoch epoch) says
  commit_lacking rolling names None = pick RolledBy (fits s.log (commit_turn names).records) (commit_turn names) (refused s req refusals.Full) (commit_made rolling names) (λ says fit. no_answer req refusals.Full (answers.Epoch epoch) says)

  commit_names : is_rolling s.durable.phase ≡ true → (names : Option NamesView) → RolledBy (commit_on s req names)
  commit_names rolling None = λ says fit. no_answer req refusals.BadLine (answers.Epoch epoch) says
  commit_names rolling (Some names) = commit_lacking rolling names (unrestored (prepared_view s.durable) (told_of s) (fin.entries names.refs))

  pub commit_so : (o : Option Refusal) → RolledBy (called_unless config s req moment calls.RollbackCommit o)
  commit_so None = by_phase (is_rolling s.durable.phase) refl
    where
      by_phase : (b : Bool) → is_rolling s.durable.phase ≡ b → RolledBy (if b then commit_on s req (all_undone s.durable.inverses s.durable.names) else refused s req refusals.NotUpgrading)
      by_phase true rolling = commit_names rolling (all_undone s.durable.inverses s.durable.names)
      by_phase false rolling = λ says fit. no_answer req refusals.NotUpgrading (answers.Epoch epoch) says
  commit_so (Some refusal) = λ says fit. no_answer req refusal (answers.Epoch epoch) says
