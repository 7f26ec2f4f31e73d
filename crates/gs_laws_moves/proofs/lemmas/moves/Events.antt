-- Each event of a firm master is a chain of moves.
use Rattle.std.proofs.Common.{◌≡◌, arith, ◌∙◌, ◌==◌, ◌&&◌, ◌||◌, ◌+◌, ◌-◌, ◌++◌, ℕ, Bool, true, false, not, cond, List, [], ◌∷◌, filter, length, refl, ap, sym, subst}
use Rattle.std.specs.Prelude.{flat_map, map, nat_lt, is_some, slice_get, Contains, Option, Some, None, if◌then◌else◌}
use Rattle.std.specs.List.{list_all}
use Rattle.std.specs.FinMap as fin
use Rattle.std.proofs.lemmas.Bool.{false≢true, and_parts}
use Rattle.std.proofs.lemmas.Bool.Decides.{nat_tests}
use Rattle.std.proofs.lemmas.List.Elements.{Contains-append_left, Contains-append_right, Contains-push}
use Rattle.gs_base.specs.Members.{count_from}
use Rattle.gs_base.specs.Stamps.{is_same}
use Rattle.gs_base.specs.declared.config.Config.{Config}
use Rattle.gs_base.specs.declared.epoch.EpochEnd.{EpochEnd}
use Rattle.gs_base.specs.declared.epoch.EpochEnd.TheVariants as ends
use Rattle.gs_base.specs.declared.numbers.ClientId.{ClientId}
use Rattle.gs_base.specs.declared.numbers.Moment.{Moment}
use Rattle.gs_base.specs.declared.numbers.Stamp.{Stamp}
use Rattle.gs_base.specs.declared.refusal.Refusal.{Refusal}
use Rattle.gs_base.specs.declared.refusal.Refusal.TheVariants as refusals
use Rattle.gs_journal.specs.Journal.{checkpoint_size, last_generation}
use Rattle.gs_lease.specs.Transitions.{end_of}
use Rattle.gs_lease.specs.declared.view.Purpose.TheVariants as purposes
use Rattle.gs_lease.specs.declared.view.Term.{Term}
use Rattle.gs_lease.specs.declared.view.View.{View}
use Rattle.gs_msg.specs.declared.body.Body.{Body}
use Rattle.gs_msg.specs.declared.body.Body.TheVariants as bodies
use Rattle.gs_msg.specs.declared.body.Reported.{Reported}
use Rattle.gs_msg.specs.declared.chunk.Chunk.{Chunk as About}
use Rattle.gs_msg.specs.declared.chunk.Chunk.TheVariants as abouts
use Rattle.gs_msg.specs.declared.message.Message.{Message}
use Rattle.gs_msg.specs.declared.node.NodeId.{NodeId}
use Rattle.gs_msg.specs.declared.node.NodeId.TheVariants as nodes
use Rattle.gs_master_record.specs.declared.checkpoint.Phase.{Phase}
use Rattle.gs_master_record.specs.declared.checkpoint.Phase.TheVariants.{Ordinary, Upgrade, Rolling}
use Rattle.gs_master_spec.specs.Beginning.{all_begun, has_versions}
use Rattle.gs_master_spec.specs.Chunks.{Chunk, chunk_at, has_entry, is_leased, may_begin, view_of}
use Rattle.gs_master_spec.specs.Durable.{Settled, is_rolling}
use Rattle.gs_master_spec.specs.Handling.{about_turn, checkpoint, checkpoint_body, checkpoint_tests, due, from_client, from_node, granted, granted_at, granted_view, handle, pressed, pressed_at, proposals, reopened, restarted, server_turn, tick, told_again, written_if_due, written_unless}
use Rattle.gs_master_spec.specs.Hearing.{drops, end_told, is_leased_under, is_lost_at, is_stray, is_told_sound, learned, lost, made_quiet, next_epoch, promised_at, reported, reported_now, sends, unpromised_at}
use Rattle.gs_master_spec.specs.Settling.{grant_of, grants}
use Rattle.gs_master_spec.specs.State.{State, turned, unmoved, met_by, and_then, fits, for_each, if_room, about, first_of, is_failed, post, to_each}
use Rattle.gs_master_spec.specs.Upgrades.{tell_all}
use Rattle.gs_master_spec.specs.Whole.{alternate, is_phase_behind}
use Rattle.gs_master_spec.specs.declared.change.Change.TheVariants as changes
use Rattle.gs_laws_master.specs.Promises.{IsKept}
use Rattle.gs_laws_master.specs.Standing.{Event, Comes, Ticks, Renews, Restarts, IsFirm, IsNamed, IsNamedAbout, IsNamedBody, turn_of}
use Rattle.gs_laws_master.proofs.lemmas.fitting.AcceptedUpgrades.{first_test}
use Rattle.gs_laws_master.proofs.lemmas.fitting.AcceptedViews.{filter_holds}
use Rattle.gs_laws_master.proofs.lemmas.standing.StandingAnswers.{pressed_good}
use Rattle.gs_laws_master.proofs.lemmas.standing.StandingCheckpoints.{written_good}
use Rattle.gs_laws_master.proofs.lemmas.standing.StandingTurns.{Holds}
use Rattle.gs_laws_moves.proofs.lemmas.moves.Calls.{nothing_at}
use Rattle.gs_laws_moves.proofs.lemmas.moves.Chains.{Chained, Turned, all_begun_chain, rests, test_chain, then_chain, within}
use Rattle.gs_laws_moves.proofs.lemmas.moves.Going.{no_chain, press_chain, yes_chain}
use Rattle.gs_laws_moves.proofs.lemmas.moves.Upgrades.{call_chain, ends_counted}
use Rattle.gs_laws_moves.specs.moves.Guards.{AreRight, AreSaidAgain, IsSaidAgain, ask_nobody, asks_nobody, Heard, HasEnded, IsLeasedUnder, IsSettledOn, May}
use Rattle.gs_laws_moves.specs.moves.Laws.{heard_in, met_in, said_from}
use Rattle.gs_laws_moves.specs.moves.Moves.{Moves, Rests, Checkpoints, Restores, Says}

pub same_stamp : (a b : Stamp) → is_same a b ≡ true → a ≡ b
same_stamp a b e =
    let parts = and_parts (a.epoch == b.epoch) (a.version == b.version) e in
    let p = number a.epoch b.epoch parts.0 in
    let q = number a.version b.version parts.1 in λ i. record { epoch = p i; version = q i }
  where
    number : (m n : ℕ) → (m == n) ≡ true → m ≡ n
    number m n h = grind (arith, nat_tests)

-- ---- messages that change nothing

pub both_right : (came : Heard) (s : State) (xs ys : List Message) → AreRight came s xs → AreRight came s ys → AreRight came s (xs ++ ys)
both_right came s [] ys a b = b
both_right came s (x ∷ xs) ys a b = (a.0, both_right came s xs ys a.1 b)

next_right : (came : Heard) (s : State) (server epoch : ℕ) → AreRight came s (next_epoch s.durable server epoch)
next_right came s server epoch = by_end (slice_get s.durable.ends epoch) refl
  where
    by_end : (o : Option EpochEnd) → slice_get s.durable.ends epoch ≡ o → AreRight came s (end_told server epoch o)
    by_end None is = tt
    by_end (Some end) is = (record { before = epoch; next = refl; ended = is }, tt)

pub all_told : (came : Heard) (s : State) (epoch : ℕ) (end : EpochEnd) → HasEnded s epoch end → (servers : List ℕ) → AreRight came s (to_each servers (λ server. post (nodes.Server server) (bodies.Epoch epoch end)))
all_told came s epoch end ended [] = tt
all_told came s epoch end ended (server ∷ servers) = (ended, all_told came s epoch end ended servers)

-- what a chunk has that is leased
leased_parts : (moving asked term : Bool) → (not (asked || moving) && term) ≡ true → (asked ≡ false) × ((moving ≡ false) × (term ≡ true))
leased_parts moving true term e = absurd (false≢true e)
leased_parts true false term e = absurd (false≢true e)
leased_parts false false true e = (refl, (refl, refl))
leased_parts false false false e = absurd (false≢true e)

module _ (s : State) (chunk : ℕ) where
  c : Option Settled → Chunk
  c settled = record { settled = settled; asking = fin.get s.volatile.moving chunk }

  settled_so : (x : Settled) → fin.get s.durable.chunks chunk ≡ Some x → is_leased (record { settled = Some x; asking = fin.get s.volatile.moving chunk }) ≡ true → IsSettledOn s chunk x.view
  settled_so x is leased =
      let parts = leased_parts x.is_moving (is_some (fin.get s.volatile.moving chunk)) (is_some x.view.term) leased in
      record { has = is ∙ ap (λ b. Some (record { view = x.view; is_moving = b })) parts.1.0; unasked = nothing_at (fin.get s.volatile.moving chunk) parts.0 }

  pub grant_right : (came : Heard) (view : View) → has_entry s chunk ≡ true → IsSettledOn s chunk view → (term : Option Term) → view.term ≡ term → AreRight came s (grant_of chunk view term)
  grant_right came view known settled None is = tt
  grant_right came view known settled (Some term) is = (record { view = view; primary = term.primary; known = known; settled = settled; under = refl; members = refl; term = is; is = refl }, tt)

  granted_right : (came : Heard) → AreRight came s (granted_at chunk (chunk_at s chunk))
  unfolding chunk_at
  granted_right came = by_entry (has_entry s chunk) refl
    where
      by_leased : (b : Bool) (x : Settled) → has_entry s chunk ≡ true → fin.get s.durable.chunks chunk ≡ Some x → is_leased (record { settled = Some x; asking = fin.get s.volatile.moving chunk }) ≡ b → AreRight came s (if b then grants chunk x.view else [])
      by_leased true x known is leased = grant_right came x.view known (settled_so x is leased) x.view.term refl
      by_leased false x known is leased = tt

      by_none : (b : Bool) → AreRight came s (if b then granted_view chunk None else [])
      by_none true = tt
      by_none false = tt

      by_settled : (o : Option Settled) → has_entry s chunk ≡ true → fin.get s.durable.chunks chunk ≡ o → AreRight came s (granted_at chunk (Some (record { settled = o; asking = fin.get s.volatile.moving chunk })))
      by_settled None known is = by_none (is_leased (record { settled = None; asking = fin.get s.volatile.moving chunk }))
      by_settled (Some x) known is = by_leased (is_leased (record { settled = Some x; asking = fin.get s.volatile.moving chunk })) x known is refl

      by_entry : (b : Bool) → has_entry s chunk ≡ b → AreRight came s (granted_at chunk (if b then Some (record { settled = fin.get s.durable.chunks chunk; asking = fin.get s.volatile.moving chunk }) else None))
      by_entry true known = by_settled (fin.get s.durable.chunks chunk) known refl
      by_entry false known = tt

  leased_right : (stamp : Stamp) → is_leased_under stamp (chunk_at s chunk) ≡ true → IsLeasedUnder s chunk stamp
  unfolding chunk_at
  leased_right stamp = by_entry (has_entry s chunk) refl
    where
      some_term : (o : Option Term) → is_some o ≡ true → (t : Term) × (o ≡ Some t)
      some_term None e = absurd (false≢true e)
      some_term (Some t) e = (t, refl)

      by_settled : (o : Option Settled) → fin.get s.durable.chunks chunk ≡ o → has_entry s chunk ≡ true → is_leased_under stamp (Some (record { settled = o; asking = fin.get s.volatile.moving chunk })) ≡ true → IsLeasedUnder s chunk stamp
      by_settled None is known e = absurd (false≢true (sym (no_second (is_leased (record { settled = None; asking = fin.get s.volatile.moving chunk }))) ∙ e))
        where
          no_second : (b : Bool) → (b && false) ≡ false
          no_second true = refl
          no_second false = refl
      by_settled (Some x) is known e =
          let both = and_parts (is_leased (record { settled = Some x; asking = fin.get s.volatile.moving chunk })) (is_same x.view.stamp stamp) e in
          let parts = leased_parts x.is_moving (is_some (fin.get s.volatile.moving chunk)) (is_some x.view.term) both.0 in
          let term = some_term x.view.term parts.1.1 in
          record { view = x.view; term = term.0; known = known; settled = settled_so x is both.0; under = same_stamp x.view.stamp stamp both.1; leased = term.1 }

      by_entry : (b : Bool) → has_entry s chunk ≡ b → is_leased_under stamp (if b then Some (record { settled = fin.get s.durable.chunks chunk; asking = fin.get s.volatile.moving chunk }) else None) ≡ true → IsLeasedUnder s chunk stamp
      by_entry true known e = by_settled (fin.get s.durable.chunks chunk) refl known e
      by_entry false known e = absurd (false≢true e)

all_granted : (came : Heard) (s : State) (keys : List ℕ) → AreRight came s (flat_map (λ chunk. granted_at chunk (chunk_at s chunk)) keys)
all_granted came s [] = tt
all_granted came s (chunk ∷ keys) = both_right came s (granted_at chunk (chunk_at s chunk)) (flat_map (λ x. granted_at x (chunk_at s x)) keys) (granted_right s chunk came) (all_granted came s keys)

-- ---- messages that ask nobody

ask_both : (xs ys : List Message) → ask_nobody xs ≡ true → ask_nobody ys ≡ true → ask_nobody (xs ++ ys) ≡ true
ask_both [] ys a b = b
ask_both (x ∷ xs) ys a b = (let parts = and_parts (asks_nobody x.body) (ask_nobody xs) a in ap (λ t. t && ask_nobody (xs ++ ys)) parts.0 ∙ ask_both xs ys parts.1 b)

next_asks : (server : ℕ) (end : Option EpochEnd) (epoch : ℕ) → ask_nobody (end_told server epoch end) ≡ true
next_asks server None epoch = refl
next_asks server (Some end) epoch = refl

told_ask : (servers : List ℕ) (epoch : ℕ) (end : EpochEnd) → ask_nobody (to_each servers (λ server. post (nodes.Server server) (bodies.Epoch epoch end))) ≡ true
told_ask [] epoch end = refl
told_ask (server ∷ servers) epoch end = told_ask servers epoch end

all_drops_ask : (epoch server : ℕ) (xs : List Reported) → ask_nobody (map (λ (r : Reported). about r.handle (abouts.Drop epoch r.promise) server) xs) ≡ true
all_drops_ask epoch server [] = refl
all_drops_ask epoch server (r ∷ xs) = all_drops_ask epoch server xs

drops_ask : (s : State) (server : ℕ) (replicas : List Reported) → ask_nobody (drops s server replicas) ≡ true
drops_ask s server replicas = all_drops_ask s.durable.epoch server (filter (λ (r : Reported). is_stray (chunk_at s r.handle) server) replicas)

grant_asks : (chunk : ℕ) (c : Option Chunk) → ask_nobody (granted_at chunk c) ≡ true
grant_asks chunk None = refl
grant_asks chunk (Some c) = by_test (is_leased c) (view_of c)
  where
    by_term : (view : View) (term : Option Term) → ask_nobody (grant_of chunk view term) ≡ true
    by_term view None = refl
    by_term view (Some term) = refl

    by_view : (view : Option View) → ask_nobody (granted_view chunk view) ≡ true
    by_view None = refl
    by_view (Some view) = by_term view view.term

    by_test : (b : Bool) (view : Option View) → ask_nobody (if b then granted_view chunk view else []) ≡ true
    by_test true view = by_view view
    by_test false view = refl

grants_ask : (c : ℕ → Option Chunk) (keys : List ℕ) → ask_nobody (flat_map (λ chunk. granted_at chunk (c chunk)) keys) ≡ true
grants_ask c [] = refl
grants_ask c (chunk ∷ keys) = ask_both (granted_at chunk (c chunk)) (flat_map (λ x. granted_at x (c x)) keys) (grant_asks chunk (c chunk)) (grants_ask c keys)

-- ---- messages that are no replies

each_said : {A : Type 0} (came : Heard) (s : State) (message : A → Message) → ((x : A) → IsSaidAgain came s (message x).body) → (xs : List A) → AreSaidAgain came s (map message xs)
each_said came s message no_reply [] = tt
each_said came s message no_reply (x ∷ xs) = (no_reply x, each_said came s message no_reply xs)

next_said : (came : Heard) (s : State) (server epoch : ℕ) (end : Option EpochEnd) → AreSaidAgain came s (end_told server epoch end)
next_said came s server epoch None = tt
next_said came s server epoch (Some end) = (tt, tt)

both_said : (came : Heard) (s : State) (xs ys : List Message) → AreSaidAgain came s xs → AreSaidAgain came s ys → AreSaidAgain came s (xs ++ ys)
both_said came s [] ys a b = b
both_said came s (x ∷ xs) ys a b = (a.0, both_said came s xs ys a.1 b)

grant_said : (came : Heard) (s : State) (chunk : ℕ) (c : Option Chunk) → AreSaidAgain came s (granted_at chunk c)
grant_said came s chunk None = tt
grant_said came s chunk (Some c) = by_test (is_leased c) (view_of c)
  where
    by_term : (view : View) (term : Option Term) → AreSaidAgain came s (grant_of chunk view term)
    by_term view None = tt
    by_term view (Some term) = (tt, tt)

    by_view : (view : Option View) → AreSaidAgain came s (granted_view chunk view)
    by_view None = tt
    by_view (Some view) = by_term view view.term

    by_test : (b : Bool) (view : Option View) → AreSaidAgain came s (if b then granted_view chunk view else [])
    by_test true view = by_view view
    by_test false view = tt

grants_said : (came : Heard) (s : State) (c : ℕ → Option Chunk) (keys : List ℕ) → AreSaidAgain came s (flat_map (λ chunk. granted_at chunk (c chunk)) keys)
grants_said came s c [] = tt
grants_said came s c (chunk ∷ keys) = both_said came s (granted_at chunk (c chunk)) (flat_map (λ x. granted_at x (c x)) keys) (grant_said came s chunk (c chunk)) (grants_said came s c keys)

-- ---- reports

same_number : (m n : ℕ) → (m == n) ≡ true → m ≡ n
same_number m n h = grind (arith, nat_tests)

strays_right : (s : State) (server : ℕ) (replicas : List Reported) → is_rolling s.durable.phase ≡ false → (xs : List Reported) → ((r : Reported) → Contains xs r → Contains replicas r)
    → AreRight (Some (server, bodies.Report (s.durable.epoch) replicas)) s (map (λ (r : Reported). about r.handle (abouts.Drop s.durable.epoch r.promise) server) (filter (λ (r : Reported). is_stray (chunk_at s r.handle) server) xs))
strays_right s server replicas rolling [] within = tt
strays_right s server replicas rolling (r ∷ xs) within =
    by_test (is_stray (chunk_at s r.handle) server) refl (within r (Contains-append_left (r ∷ []) xs r (Contains-push [] r))) (strays_right s server replicas rolling xs (λ x here. within x (Contains-append_right (r ∷ []) xs x here)))
  where
    came : Heard
    came = Some (server, bodies.Report (s.durable.epoch) replicas)

    rest : List Reported
    rest = filter (λ (q : Reported). is_stray (chunk_at s q.handle) server) xs

    by_test : (b : Bool) → is_stray (chunk_at s r.handle) server ≡ b → Contains replicas r → AreRight came s (map (λ (q : Reported). about q.handle (abouts.Drop s.durable.epoch q.promise) server) rest)
        → AreRight came s (map (λ (q : Reported). about q.handle (abouts.Drop s.durable.epoch q.promise) server) (cond b (r ∷ rest) rest))
    by_test true stray here others = (record { server = server; replicas = replicas; is_bad = r.is_bad; is = refl; said = refl; told = here; now = refl; rolling = rolling; stray = stray }, others)
    by_test false stray here others = others

lost_known : (s : State) (server chunk : ℕ) → is_lost_at server (chunk_at s chunk) ≡ true → has_entry s chunk ≡ true
unfolding chunk_at
lost_known s server chunk = by_entry (has_entry s chunk) refl
  where
    by_entry : (b : Bool) → has_entry s chunk ≡ b → is_lost_at server (if b then Some (record { settled = fin.get s.durable.chunks chunk; asking = fin.get s.volatile.moving chunk }) else None) ≡ true → has_entry s chunk ≡ true
    by_entry true known e = known
    by_entry false known e = absurd (false≢true e)

-- nothing is begun while it is rolled back
still_so : (phase : Phase) (b : Bool) → (may_begin phase && b) ≡ true → (is_rolling phase ≡ false) × (b ≡ true)
still_so Ordinary b e = (refl, e)
still_so Upgrade b e = (refl, e)
still_so Rolling b e = absurd (false≢true e)

-- while it is rolled back, the last epoch ended by that
past_so : (past : List EpochEnd) → slice_get past (length past - 1) ≡ Some ends.Rollback → (before : ℕ) × ((length past ≡ before + 1) × (slice_get past before ≡ Some ends.Rollback))
past_so [] e = absurd (false≢true (ap is_some e))
past_so (x ∷ past) e = (let same : length (x ∷ past) - 1 ≡ length past = omega arith in (length past, (omega arith, subst (λ n. slice_get (x ∷ past) n ≡ Some ends.Rollback) same e)))

last_is : (o : Option EpochEnd) (phase : Phase) → is_rolling phase ≡ true → is_phase_behind o phase ≡ true → o ≡ Some ends.Rollback
last_is o Ordinary rolling e = absurd (false≢true rolling)
last_is o Upgrade rolling e = absurd (false≢true rolling)
last_is None Rolling rolling e = absurd (false≢true e)
last_is (Some ends.Prepare) Rolling rolling e = absurd (false≢true e)
last_is (Some ends.Finalize) Rolling rolling e = absurd (false≢true e)
last_is (Some ends.Rollback) Rolling rolling e = refl

rolled_end : (s : State) → IsKept s.durable → is_rolling s.durable.phase ≡ true → HasEnded s s.durable.epoch ends.Rollback
rolled_end s k rolling =
    let d = s.durable in
    let parts = and_parts (length d.ends == d.epoch) (alternate true d.ends && is_phase_behind (slice_get d.ends (length d.ends - 1)) d.phase) k.ends in
    let past = and_parts (alternate true d.ends) (is_phase_behind (slice_get d.ends (length d.ends - 1)) d.phase) parts.1 in
    let so = past_so d.ends (last_is (slice_get d.ends (length d.ends - 1)) d.phase rolling past.1) in
    record { before = so.0; next = sym (ends_counted d k) ∙ so.1.0; ended = so.1.1 }

module _ (config : Config) where
  -- ---- messages of servers

  quiet_chain : (came : Heard) (many : List ℕ) (s : State) → list_all (has_entry s) many ≡ true → Chained config came s (made_quiet many s)
  quiet_chain came many s all =
      let begin = all_begun s many purposes.Quiet None in
      test_chain config came s (has_versions s.durable (length many)) (if_room s begin (unmoved s)) (unmoved s)
      (λ _. test_chain config came s (fits s.log begin.records) begin (unmoved s) (λ _. all_begun_chain config came many None s all) (λ _. rests config came s)) (λ _. rests config came s)

  next_chain : (came : Heard) (s : State) (server epoch : ℕ) → Chained config came s (sends s (next_epoch s.durable server epoch))
  next_chain came s server epoch = Moves s (Says (next_epoch s.durable server epoch)) None ((next_right came s server epoch, next_asks server (slice_get s.durable.ends epoch) epoch, next_said came s server epoch (slice_get s.durable.ends epoch)), tt)

  reported_chain : (s : State) (server epoch : ℕ) (replicas : List Reported) → Chained config (Some (server, bodies.Report epoch replicas)) s (reported s server epoch replicas)
  reported_chain s server epoch replicas =
      let came : Heard = Some (server, bodies.Report epoch replicas) in
      test_chain config came s (nat_lt epoch s.durable.epoch) (sends s (next_epoch s.durable server epoch)) (if may_begin s.durable.phase && (epoch == s.durable.epoch) then reported_now s server replicas else unmoved s) (λ _. next_chain came s server epoch)
      (λ _. test_chain config came s (may_begin s.durable.phase && (epoch == s.durable.epoch)) (reported_now s server replicas) (unmoved s) (λ both. now (still_so s.durable.phase (epoch == s.durable.epoch) both)) (λ _. rests config came s))
    where
      now : (is_rolling s.durable.phase ≡ false) × ((epoch == s.durable.epoch) ≡ true) → Chained config (Some (server, bodies.Report epoch replicas)) s (reported_now s server replicas)
      now both =
          let came : Heard = Some (server, bodies.Report epoch replicas) in
          let dropped = sends s (drops s server replicas) in
          let right = subst (λ e. AreRight (Some (server, bodies.Report e replicas)) s (drops s server replicas)) (sym (same_number epoch s.durable.epoch both.1)) (strays_right s server replicas both.0 replicas (λ r here. here)) in
          then_chain config came s dropped (made_quiet (lost s server replicas)) (Moves s (Says (drops s server replicas)) None ((right, drops_ask s server replicas, each_said came s (λ (r : Reported). about r.handle (abouts.Drop s.durable.epoch r.promise) server) (λ r. tt) (filter (λ (r : Reported). is_stray (chunk_at s r.handle) server) replicas)), tt))
          (quiet_chain came (lost s server replicas) s
          (filter_holds (has_entry s) (λ chunk. is_lost_at server (chunk_at s chunk) && not (is_told_sound replicas chunk)) (fin.keys s.durable.chunks)
          (λ chunk k. lost_known s server chunk (and_parts (is_lost_at server (chunk_at s chunk)) (not (is_told_sound replicas chunk)) k).0)))

  learned_chain : (s : State) (server epoch : ℕ) (handles : List ℕ) → Chained config (Some (server, bodies.Learned epoch handles)) s (learned s server epoch handles)
  learned_chain s server epoch handles =
      let came : Heard = Some (server, bodies.Learned epoch handles) in
      let t = turned s (record { records = []; changes = changes.Restored server handles ∷ []; sent = []; said = None }) in
      test_chain config came s (nat_lt epoch s.durable.epoch) (sends s (next_epoch s.durable server epoch)) (if is_rolling s.durable.phase && (epoch == s.durable.epoch) then t else unmoved s) (λ _. next_chain came s server epoch)
      (λ _. test_chain config came s (is_rolling s.durable.phase && (epoch == s.durable.epoch)) t (unmoved s)
      (λ both. let parts = and_parts (is_rolling s.durable.phase) (epoch == s.durable.epoch) both in
      Moves s (Restores server handles) None (record { said = ap (λ e. Some (server, bodies.Learned e handles)) (same_number epoch s.durable.epoch parts.1); rolling = parts.0 }, tt))
      (λ _. rests config came s))

  module _ (s : State) (h : Holds true s) where
    about_chain : (server chunk : ℕ) (moment : Moment) (said : About) → IsNamedAbout said → Chained config (Some (server, bodies.About chunk said)) s (about_turn s server chunk moment said)
    unfolding chunk_at
    about_chain server chunk moment (abouts.Promised stamp count carried) low = by_entry (has_entry s chunk) refl
      where
        by_entry : (b : Bool) → has_entry s chunk ≡ b
            → Chained config (Some (server, bodies.About chunk (abouts.Promised stamp count carried))) s (promised_at s server chunk stamp count carried moment (if b then Some (record { settled = fin.get s.durable.chunks chunk; asking = fin.get s.volatile.moving chunk }) else None))
        by_entry true known = yes_chain config (Some (server, bodies.About chunk (abouts.Promised stamp count carried))) refl s h chunk known server stamp count carried moment (fin.get s.volatile.moving chunk) low refl refl (fin.get s.volatile.moving chunk)
        by_entry false known = rests config _ s
    about_chain server chunk moment (abouts.Unpromised stamp refusal) low = by_entry (has_entry s chunk) refl
      where
        by_entry : (b : Bool) → has_entry s chunk ≡ b
            → Chained config (Some (server, bodies.About chunk (abouts.Unpromised stamp refusal))) s (unpromised_at s server chunk stamp moment (if b then Some (record { settled = fin.get s.durable.chunks chunk; asking = fin.get s.volatile.moving chunk }) else None))
        by_entry true known = no_chain config (Some (server, bodies.About chunk (abouts.Unpromised stamp refusal))) refl s h chunk known server stamp refusal moment (fin.get s.volatile.moving chunk) refl refl (fin.get s.volatile.moving chunk)
        by_entry false known = rests config _ s
    about_chain server chunk moment (abouts.Renew stamp) low =
        let came : Heard = Some (server, bodies.About chunk (abouts.Renew stamp)) in
        let leased = is_leased_under stamp (chunk_at s chunk) in
        let message = about chunk (abouts.Renewed stamp (end_of moment)) server in
        test_chain config came s (leased && not s.volatile.is_preparing) (sends s (message ∷ [])) (unmoved s)
        (λ both. Moves s (Says (message ∷ [])) None (((leased_right s chunk stamp (and_parts leased (not s.volatile.is_preparing) both).0, tt), refl, (tt, tt)), tt)) (λ _. rests config came s)
    about_chain server chunk moment (abouts.Bad stamp) low =
        let came : Heard = Some (server, bodies.About chunk (abouts.Bad stamp)) in
        test_chain config came s (may_begin s.durable.phase && is_lost_at server (chunk_at s chunk)) (made_quiet (chunk ∷ []) s) (unmoved s)
        (λ both. quiet_chain came (chunk ∷ []) s (ap (λ b. b && true) (lost_known s server chunk (still_so s.durable.phase (is_lost_at server (chunk_at s chunk)) both).1))) (λ _. rests config came s)
    about_chain server chunk moment said low = Rests s (Some refusals.Stray)

    server_chain : (server : ℕ) (moment : Moment) (said : Body) → IsNamedBody said → Chained config (Some (server, said)) s (server_turn s server moment said)
    server_chain server moment (bodies.About chunk said) named = about_chain server chunk moment said named
    server_chain server moment (bodies.Report epoch replicas) named = reported_chain s server epoch replicas
    server_chain server moment (bodies.Learned epoch handles) named = learned_chain s server epoch handles
    server_chain server moment (bodies.Behind epoch) named =
        let came : Heard = Some (server, bodies.Behind epoch) in
        test_chain config came s (nat_lt epoch s.durable.epoch) (sends s (next_epoch s.durable server epoch)) (unmoved s) (λ _. next_chain came s server epoch) (λ _. rests config came s)
    server_chain server moment said named = Rests s (Some refusals.Stray)

    client_chain : (moment : Moment) (client : ClientId) (said : Body) → Turned config (said_from (nodes.Client client) said) s (from_client config s moment said)
    client_chain moment client (bodies.Call req call) = call_chain config (Some (client.0, bodies.Call req call)) s req moment call (client.0, refl) h
    client_chain moment client said = within config None (Rests s (Some refusals.Stray))

    node_chain : (moment : Moment) (said : Body) (from : NodeId) → IsNamedBody said → Turned config (said_from from said) s (from_node config s moment said from)
    node_chain moment said nodes.Master named = within config None (Rests s (Some refusals.Stray))
    node_chain moment said (nodes.Server server) named =
        within config (Some (server, said)) (test_chain config (Some (server, said)) s (is_failed s.fault) (met_by s refusals.Device) (server_turn s server moment said) (λ _. Rests s (Some refusals.Device)) (λ _. server_chain server moment said named))
    node_chain moment said (nodes.Client client) named = client_chain moment client said

    message_chain : (message : Message) (moment : Moment) → IsNamedBody message.body → Turned config (said_from message.from message.body) s (handle config s message moment)
    unfolding handle
    message_chain message moment named = node_chain moment message.body message.from named

  -- ---- a tick, and a checkpoint

  pressed_chain : (moment : Moment) (proposal : ℕ × Stamp) (s : State) → Holds true s → Chained config None s (pressed moment proposal s)
  unfolding chunk_at
  pressed_chain moment proposal s h = by_entry (has_entry s proposal.0) refl
    where
      by_entry : (b : Bool) → has_entry s proposal.0 ≡ b → Chained config None s (pressed_at s proposal.0 proposal.1 moment (if b then Some (record { settled = fin.get s.durable.chunks proposal.0; asking = fin.get s.volatile.moving proposal.0 }) else None))
      by_entry true known = press_chain config None refl s h proposal.0 known proposal.1 moment (fin.get s.volatile.moving proposal.0) refl (fin.get s.volatile.moving proposal.0)
      by_entry false known = rests config None s

  all_pressed : (moment : Moment) (many : List (ℕ × Stamp)) (s : State) → Holds true s → Chained config None s (for_each s many (pressed moment))
  all_pressed moment [] s h = rests config None s
  all_pressed moment (proposal ∷ many) s h =
      let t = pressed moment proposal s in then_chain config None s t (λ next. for_each next many (pressed moment)) (pressed_chain moment proposal s h) (all_pressed moment many t.after (pressed_good s h moment proposal).holds)

  all_held : (moment : Moment) (many : List (ℕ × Stamp)) (s : State) → Holds true s → Holds true (for_each s many (pressed moment)).after
  all_held moment [] s h = h
  all_held moment (proposal ∷ many) s h = let t = pressed moment proposal s in all_held moment many t.after (pressed_good s h moment proposal).holds

  written_chain : (s : State) (refusal : Option Refusal) → (refusal ≡ None → May config None s Checkpoints) → Chained config None s (written_unless s refusal)
  written_chain s None may = Moves s Checkpoints None (may refl, tt)
  written_chain s (Some refusal) may = Rests s (Some refusal)

  may_write : (s : State) → Holds true s → first_of (checkpoint_tests (is_failed s.fault) s.volatile.is_preparing s.log (checkpoint_body s.durable)) ≡ None → May config None s Checkpoints
  may_write s h passed =
      let last = (s.log.generation == last_generation, refusals.Exhausted) ∷ (nat_lt s.log.limit (checkpoint_size (checkpoint_body s.durable)), refusals.Full) ∷ [] in
      let one = first_test (is_failed s.fault) refusals.Device ((s.volatile.is_preparing, refusals.Preparing) ∷ last) passed in
      let two = first_test s.volatile.is_preparing refusals.Preparing last one.1 in
      record { sound = one.0; quiet = two.0; fits = (written_good s None h).fits }

  checkpoint_chain : (s : State) → Holds true s → Chained config None s (checkpoint s)
  unfolding checkpoint
  checkpoint_chain s h = written_chain s (first_of (checkpoint_tests (is_failed s.fault) s.volatile.is_preparing s.log (checkpoint_body s.durable))) (may_write s h)

  -- what is said of it is left out at a tick
  quietly_written : (s : State) (refusal : Option Refusal) → (refusal ≡ None → May config None s Checkpoints) → Chained config None s (record (written_unless s refusal) { said = None })
  quietly_written s None may = Moves s Checkpoints None (may refl, tt)
  quietly_written s (Some refusal) may = Rests s None

  due_chain : (s : State) → Holds true s → Chained config None s (written_if_due s)
  unfolding checkpoint
  due_chain s h =
      test_chain config None s (due s) (record (checkpoint s) { said = None }) (unmoved s) (λ _. quietly_written s (first_of (checkpoint_tests (is_failed s.fault) s.volatile.is_preparing s.log (checkpoint_body s.durable))) (may_write s h)) (λ _. rests config None s)

  tick_chain : (s : State) (moment : Moment) → Holds true s → Chained config None s (tick s moment)
  unfolding tick
  tick_chain s moment h =
      let all = for_each s (proposals s) (pressed moment) in
      test_chain config None s (is_failed s.fault) (met_by s refusals.Device) (and_then (and_then all granted) written_if_due) (λ _. Rests s (Some refusals.Device))
      (λ _. then_chain config None s (and_then all granted) written_if_due
      (then_chain config None s all granted (all_pressed moment (proposals s) s h) (Moves all.after (Says _) None ((all_granted None all.after (fin.keys all.after.durable.chunks), grants_ask (chunk_at all.after) (fin.keys all.after.durable.chunks), grants_said None all.after (chunk_at all.after) (fin.keys all.after.durable.chunks)), tt)))
      (due_chain (and_then all granted).after (all_held moment (proposals s) s h)))

  -- what a tick does before it writes a checkpoint
  steps_chain : (s : State) (moment : Moment) → Holds true s → Chained config None s (and_then (for_each s (proposals s) (pressed moment)) granted)
  steps_chain s moment h =
      let all = for_each s (proposals s) (pressed moment) in
      then_chain config None s all granted (all_pressed moment (proposals s) s h) (Moves all.after (Says _) None ((all_granted None all.after (fin.keys all.after.durable.chunks), grants_ask (chunk_at all.after) (fin.keys all.after.durable.chunks), grants_said None all.after (chunk_at all.after) (fin.keys all.after.durable.chunks)), tt))

  -- ---- a restart

  reopened_chain : (s : State) → IsKept s.durable → Chained config None s (reopened config s)
  reopened_chain s k = Moves s (Says (told_again config s.durable)) None ((by_phase (is_rolling s.durable.phase) refl, by_test (is_rolling s.durable.phase), said_so (is_rolling s.durable.phase)), tt)
    where
      by_phase : (b : Bool) → is_rolling s.durable.phase ≡ b → AreRight None s (if b then tell_all config s.durable.epoch ends.Rollback else [])
      by_phase true rolling = all_told None s s.durable.epoch ends.Rollback (rolled_end s k rolling) (count_from 0 config.servers)
      by_phase false rolling = tt

      by_test : (b : Bool) → ask_nobody (if b then tell_all config s.durable.epoch ends.Rollback else []) ≡ true
      by_test true = told_ask (count_from 0 config.servers) s.durable.epoch ends.Rollback
      by_test false = refl

      said_so : (b : Bool) → AreSaidAgain None s (if b then tell_all config s.durable.epoch ends.Rollback else [])
      said_so true = each_said None s (λ server. post (nodes.Server server) (bodies.Epoch s.durable.epoch ends.Rollback)) (λ server. tt) (count_from 0 config.servers)
      said_so false = tt

  -- ---- every event

  event_chain : (s : State) (event : Event) → IsNamed event → Holds true s → Turned config (heard_in event) (met_in s event) (turn_of config s event)
  event_chain s (Comes message moment) named h = message_chain s h message moment named.0
  event_chain s (Ticks moment) named h = within config None (tick_chain s moment h)
  event_chain s Renews named h = within config None (checkpoint_chain s h)
  event_chain s Restarts named h = within config None (reopened_chain (restarted s.durable s.log) h.stands.kept)

pub events_chain : (config : Config) (s : State) (event : Event) → IsNamed event → IsFirm s → Turned config (heard_in event) (met_in s event) (turn_of config s event)
events_chain config s event named firm = event_chain config s event named (record { stands = firm.stands; rolling = λ c r. firm.rolling r })

pub ticks_turned : (config : Config) (s : State) (moment : Moment) → IsFirm s → Turned config None s (and_then (for_each s (proposals s) (pressed moment)) granted)
ticks_turned config s moment firm = within config None (steps_chain config s moment (record { stands = firm.stands; rolling = λ c r. firm.rolling r }))
