-- The records of each message but an answer to a proposal fit what they meet, and keep what stands; and so does a checkpoint.
use Rattle.std.proofs.Common.{◌≡◌, ◌&&◌, ◌==◌, ℕ, Bool, true, false, not, List, [], ◌∷◌, length, refl, ap}
use Rattle.std.specs.Prelude.{nat_lt, is_some, option_and_then, Option, Some, None, if◌then◌else◌}
use Rattle.std.specs.FinMap as fin
use Rattle.std.specs.List.{list_all}
use Rattle.std.proofs.lemmas.Bool.{false≢true, true≢false, and_parts}
use Rattle.gs_base.specs.declared.config.Config.{Config}
use Rattle.gs_base.specs.declared.numbers.Moment.{Moment}
use Rattle.gs_base.specs.declared.numbers.Stamp.{Stamp}
use Rattle.gs_base.specs.declared.refusal.Refusal.{Refusal}
use Rattle.gs_base.specs.declared.refusal.Refusal.TheVariants as refusals
use Rattle.gs_tree.proofs.Levels.{both_true}
use Rattle.gs_lease.specs.declared.view.Purpose.TheVariants as purposes
use Rattle.gs_msg.specs.declared.body.Body.{Body}
use Rattle.gs_msg.specs.declared.body.Body.TheVariants as bodies
use Rattle.gs_msg.specs.declared.chunk.Chunk.{Chunk as About}
use Rattle.gs_msg.specs.declared.chunk.Chunk.TheVariants as abouts
use Rattle.gs_msg.specs.declared.node.NodeId.{NodeId}
use Rattle.gs_msg.specs.declared.node.NodeId.TheVariants as nodes
use Rattle.gs_master_spec.specs.Applied.{applied}
use Rattle.gs_master_spec.specs.Beginning.{all_begun, has_versions}
use Rattle.gs_master_spec.specs.Chunks.{chunk_at, has_entry, may_begin}
use Rattle.gs_master_spec.specs.Durable.{Durable, Settled, is_rolling}
use Rattle.gs_master_spec.specs.Handling.{about_turn, checkpoint, checkpoint_body, checkpoint_tests, from_client, from_node, handle, server_turn, unless_failed, written_unless}
use Rattle.gs_master_spec.specs.Hearing.{behind, damaged, drops, is_leased_under, is_lost_at, is_told_sound, learned, lost, made_quiet, next_epoch, renewed, reported, reported_now, sends}
use Rattle.gs_master_state.specs.Sane.{IsSane}
use Rattle.gs_master_spec.specs.State.{State, Plan, Turn, turned, unmoved, met_by, fits, if_room, first_of, is_failed}
use Rattle.gs_master_spec.specs.declared.change.Change.TheVariants as changes
use Rattle.gs_laws_master.specs.Promises.{CheckpointFits, FitsAndKeeps, IsKept, IsToldBody, MessagesFit, MessagesKeep, is_answer, is_answer_of}
use Rattle.gs_laws_master.proofs.lemmas.fitting.Accepted.{Goes, none_goes, same_goes, test_goes, then_goes}
use Rattle.gs_laws_master.proofs.lemmas.fitting.AcceptedCalls.{call_goes}
use Rattle.gs_laws_master.proofs.lemmas.fitting.AcceptedViews.{all_begun_goes, filter_holds, is_settled}
use Rattle.gs_laws_master.proofs.lemmas.keeping.KeptAll.{tidied_kept}
use Rattle.gs_laws_master.proofs.lemmas.telling.ToldAgain.{tells_all}

-- ---- messages of servers

-- a chunk that is lost at a member is settled
lost_settled : (s : State) (server chunk : ℕ) → is_lost_at server (chunk_at s chunk) ≡ true → is_settled s.durable chunk ≡ true
unfolding chunk_at
lost_settled s server chunk h = by_entry (has_entry s chunk) refl (fin.get s.durable.chunks chunk) refl
  where
    by_entry : (b : Bool) → has_entry s chunk ≡ b → (o : Option Settled) → fin.get s.durable.chunks chunk ≡ o → is_settled s.durable chunk ≡ true
    by_entry b entry (Some settled) is = ap is_some is
    by_entry true entry None is = absurd (false≢true (rw (entry, is) at h))
    by_entry false entry None is = absurd (false≢true (rw entry at h))

not_rolling : (b : Bool) → not b ≡ true → b ≡ false
not_rolling true h = absurd (false≢true h)
not_rolling false h = refl

module _ (T : Type 0) where
  sent_goes : (s : State) (t : Turn) → t.after.durable ≡ s.durable → t.records ≡ [] → Goes T s t
  sent_goes s t a b = same_goes T s t a b

  still_goes : (s : State) → Goes T s (unmoved s)
  still_goes s = same_goes T s (unmoved s) refl refl

  quiet_goes : (many : List ℕ) (s : State) → is_rolling s.durable.phase ≡ false → list_all (is_settled s.durable) many ≡ true → Goes T s (made_quiet many s)
  quiet_goes many s rolling known =
      let all = all_begun s many purposes.Quiet None in
      test_goes T s (has_versions s.durable (length many)) (if_room s all (unmoved s)) (unmoved s)
      (λ left. test_goes T s (fits s.log all.records) all (unmoved s) (λ _. all_begun_goes T many purposes.Quiet None s rolling left known) (λ _. still_goes s)) (λ _. still_goes s)

  damaged_goes : (s : State) (server chunk : ℕ) → Goes T s (damaged s server chunk)
  damaged_goes s server chunk =
      test_goes T s (may_begin s.durable.phase && is_lost_at server (chunk_at s chunk)) (made_quiet (chunk ∷ []) s) (unmoved s)
      (λ h. let parts = and_parts (may_begin s.durable.phase) (is_lost_at server (chunk_at s chunk)) h in
      quiet_goes (chunk ∷ []) s (not_rolling (is_rolling s.durable.phase) parts.0) (both_true (is_settled s.durable chunk) true (lost_settled s server chunk parts.1) refl))
      (λ _. still_goes s)

  renewed_goes : (s : State) (server chunk : ℕ) (stamp : Stamp) (moment : Moment) → Goes T s (renewed s server chunk stamp moment)
  renewed_goes s server chunk stamp moment =
      test_goes T s (is_leased_under stamp (chunk_at s chunk) && not s.volatile.is_preparing) _ (unmoved s) (λ _. same_goes T s _ refl refl) (λ _. still_goes s)

  pub about_goes : (s : State) (server chunk : ℕ) (moment : Moment) (said : About) → is_answer_of said ≡ false → Goes T s (about_turn s server chunk moment said)
  about_goes s server chunk moment (abouts.Promised stamp count carried) other = absurd (true≢false other)
  about_goes s server chunk moment (abouts.Unpromised stamp refusal) other = absurd (true≢false other)
  about_goes s server chunk moment (abouts.Renew stamp) other = renewed_goes s server chunk stamp moment
  about_goes s server chunk moment (abouts.Bad stamp) other = damaged_goes s server chunk
  about_goes s server chunk moment said other = same_goes T s (met_by s refusals.Stray) refl refl

  behind_goes : (s : State) (server epoch : ℕ) → Goes T s (behind s server epoch)
  behind_goes s server epoch =
      let told = sends s (next_epoch s.durable server epoch) in
      test_goes T s (nat_lt epoch s.durable.epoch) told (unmoved s) (λ _. same_goes T s told refl refl) (λ _. still_goes s)

  learned_goes : (s : State) (server epoch : ℕ) (handles : List ℕ) → Goes T s (learned s server epoch handles)
  learned_goes s server epoch handles =
      let told = sends s (next_epoch s.durable server epoch) in
      let plan : Plan = record { records = []; changes = changes.Restored server handles ∷ []; sent = []; said = None } in
      test_goes T s (nat_lt epoch s.durable.epoch) told (if is_rolling s.durable.phase && (epoch == s.durable.epoch) then turned s plan else unmoved s) (λ _. same_goes T s told refl refl)
      (λ _. test_goes T s (is_rolling s.durable.phase && (epoch == s.durable.epoch)) (turned s plan) (unmoved s) (λ _. none_goes T s plan) (λ _. still_goes s))

  reported_goes : (s : State) (server epoch : ℕ) (replicas : _) → Goes T s (reported s server epoch replicas)
  reported_goes s server epoch replicas =
      let told = sends s (next_epoch s.durable server epoch) in
      let dropped = sends s (drops s server replicas) in
      let quiet = made_quiet (lost s server replicas) in
      test_goes T s (nat_lt epoch s.durable.epoch) told (if may_begin s.durable.phase && (epoch == s.durable.epoch) then reported_now s server replicas else unmoved s) (λ _. same_goes T s told refl refl)
      (λ _. test_goes T s (may_begin s.durable.phase && (epoch == s.durable.epoch)) (reported_now s server replicas) (unmoved s)
      (λ h. then_goes T s dropped quiet (same_goes T s dropped refl refl)
      (quiet_goes (lost s server replicas) s (not_rolling (is_rolling s.durable.phase) (and_parts (may_begin s.durable.phase) (epoch == s.durable.epoch) h).0)
      (filter_holds (is_settled s.durable) (λ chunk. is_lost_at server (chunk_at s chunk) && not (is_told_sound replicas chunk)) (fin.keys s.durable.chunks)
      (λ chunk both. lost_settled s server chunk (and_parts (is_lost_at server (chunk_at s chunk)) (not (is_told_sound replicas chunk)) both).0))))
      (λ _. still_goes s))

  pub server_goes : (s : State) (server : ℕ) (moment : Moment) (said : Body) → is_answer said ≡ false → Goes T s (server_turn s server moment said)
  server_goes s server moment (bodies.About chunk said) other = about_goes s server chunk moment said other
  server_goes s server moment (bodies.Report epoch replicas) other = reported_goes s server epoch replicas
  server_goes s server moment (bodies.Learned epoch handles) other = learned_goes s server epoch handles
  server_goes s server moment (bodies.Behind epoch) other = behind_goes s server epoch
  server_goes s server moment said other = same_goes T s (met_by s refusals.Stray) refl refl

  pub unless_failed_goes : (s : State) (t : Turn) → Goes T s t → Goes T s (unless_failed s t)
  unless_failed_goes s t g = test_goes T s (is_failed s.fault) (met_by s refusals.Device) t (λ _. same_goes T s (met_by s refusals.Device) refl refl) (λ _. g)

-- ---- messages of clients, and all

pub client_goes : (config : Config) (s : State) (moment : Moment) (said : Body) → IsKept s.durable → IsSane s → Goes (IsToldBody s.durable moment said) s (from_client config s moment said)
client_goes config s moment (bodies.Call req call) k sane = call_goes config s req moment call k sane
client_goes config s moment said k sane = same_goes (IsToldBody s.durable moment said) s (met_by s refusals.Stray) refl refl

node_goes : (config : Config) (s : State) (moment : Moment) (said : Body) (from : NodeId) → is_answer said ≡ false → IsKept s.durable → IsSane s → Goes (IsToldBody s.durable moment said) s (from_node config s moment said from)
node_goes config s moment said nodes.Master other k sane = same_goes (IsToldBody s.durable moment said) s (met_by s refusals.Stray) refl refl
node_goes config s moment said (nodes.Server server) other k sane =
    let T = IsToldBody s.durable moment said in unless_failed_goes T s (server_turn s server moment said) (server_goes T s server moment said other)
node_goes config s moment said (nodes.Client client) other k sane = client_goes config s moment said k sane

pub messages_fit : MessagesFit
unfolding handle
messages_fit config s message moment other k sane = (node_goes config s moment message.body message.from other k sane).fits

pub messages_keep : MessagesKeep
unfolding handle
messages_keep config s message moment other k sane told = (node_goes config s moment message.body message.from other k sane).kept told k

-- ---- a checkpoint

pub written_fits : (s : State) (refusal : Option Refusal) → IsKept s.durable → FitsAndKeeps s (written_unless s refusal)
unfolding applied
written_fits s None k = record { fits = ap (λ o. option_and_then (λ (n : Durable). Some n) o) (tells_all s.durable k); kept = λ kept. tidied_kept s.durable kept }
written_fits s (Some refusal) k = record { fits = refl; kept = λ kept. kept }

pub checkpoint_fits : CheckpointFits
unfolding checkpoint
checkpoint_fits s k = written_fits s (first_of (checkpoint_tests (is_failed s.fault) s.volatile.is_preparing s.log (checkpoint_body s.durable))) k
