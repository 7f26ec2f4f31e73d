-- A restart of the master, where its disks are opened.
use Rattle.std.proofs.Common.{◌≡◌, ◌∙◌, ◌<◌, ℕ, List, Result, Ok, sym, ap, subst, arith}
use Rattle.std.specs.Prelude.{is_some}
use Rattle.std.specs.FinMap as fin
use Rattle.std.specs.Ordering.{nat_cmp}
use Rattle.std.proofs.lemmas.Bool.{false≢true}
use Rattle.gs_base.specs.Members.{is_member}
use Rattle.gs_base.specs.declared.config.Config.{Config}
use Rattle.gs_base.specs.declared.refusal.Refusal.{Refusal}
use Rattle.gs_journal.specs.Records.{Text, standing}
use Rattle.gs_journal.specs.declared.version.Version.TheVariants.{Two}
use Rattle.gs_master.specs.Masters.{MasterOf}
use Rattle.gs_master.specs.Starting.{IsOpened}
use Rattle.gs_msg.specs.declared.body.Body.{Body}
use Rattle.gs_msg.specs.declared.message.Message.{Message}
use Rattle.gs_master_spec.specs.Applied.{records_behind}
use Rattle.gs_master_spec.specs.Durable.{Durable}
use Rattle.gs_master_spec.specs.Handling.{recover, recovered_from, reopened, restarted}
use Rattle.gs_master_spec.specs.State.{Log, State, Turn, and_then, unmoved}
use Rattle.gs_master_spec.specs.Volatile.{servers_or_none}
use Rattle.gs_nodes.specs.Happenings.{limit}
use Rattle.gs_nodes.specs.declared.place.MasterPlace.{MasterPlace}
use Rattle.gs_nodes.specs.declared.place.MasterPlace.TheVariants.{Standing}
use Rattle.gs_laws_world.specs.lasting.Lasting.{IsToldIn}
use Rattle.gs_laws_moves.specs.moves.Asked.{IsAskedSo}

-- ---- what is opened

pub none_asked : (Was : ℕ → Body → Type 0) (d : Durable) (log : Log) (chunk : ℕ) → IsAskedSo Was (restarted d log) chunk
none_asked Was d log chunk = record {
  asked = λ b has. absurd (false≢true (sym (ap is_some (fin.get-empty nat_cmp chunk)) ∙ ap is_some has));
  restored = λ j here. absurd (false≢true (sym (ap (λ o. is_member (servers_or_none o) j) (fin.get-empty nat_cmp chunk)) ∙ here));
}

-- a master that is started on this, and says what it says then
pub record IsStarted {D : Type 0} (config : Config) (d : Durable) (m : MasterOf D) (sent : List Message) : Type 0 where
  pub log : Log
  pub state : m.state ≡ restarted d log
  pub sends : sent ≡ (reopened config (restarted d log)).sent

ok_is : (x y : Turn) → ◌≡◌ {A = Result Turn Refusal} (Ok x) (Ok y) → x ≡ y
ok_is x y h = cc

pub started : {D : Type 0} (seen : D → List ℕ) (failures : D → ℕ) (config : Config) (first second : D) (d : Durable) (m : MasterOf D) (sent : List Message) → IsToldIn (standing (seen first) (seen second)) d → m.state.durable ≡ d
    → IsOpened seen failures config first second (standing (seen first) (seen second)) limit m sent → IsStarted config d m sent
unfolding recover
started seen failures config first second d m sent told durable is =
    subst (λ (x : Durable). IsStarted config x m sent) (sym (ap (λ (s : State). s.durable) state) ∙ durable) (record { log = log; state = state; sends = is.sends ∙ ap (λ (t : Turn). t.sent) (sym turn) })
  where
    log : Log
    log = record (is.log) { records = records_behind is.entries }

    recovers : recover config Two is.entries is.log ≡ Ok is.turn
    recovers = subst (λ v. recover config v is.entries is.log ≡ Ok is.turn) (ap (λ (t : Text). t.0) told.records) is.recovers

    turn : and_then (unmoved (restarted is.durable log)) (reopened config) ≡ is.turn
    turn = ok_is (and_then (unmoved (restarted is.durable log)) (reopened config)) is.turn (ap (recovered_from config Two log) (sym is.tells.replays) ∙ recovers)

    state : m.state ≡ restarted is.durable log
    state = is.state ∙ ap (λ (t : Turn). t.after) (sym turn)

pub standing_is : {D : Type 0} (a b : MasterOf D) → ◌≡◌ {A = MasterPlace D} (Standing a) (Standing b) → a ≡ b
standing_is a b same = cc

pub never : (n m : ℕ) → n < m → m ≡ n → ⊥
never n m more same = omega arith
