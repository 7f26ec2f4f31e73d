-- A run of the shell over the one caller of a store that was started for it.
use Rattle.std.proofs.Common.{◌≡◌, ◌∙◌, ◌++◌, ◌∷◌, ℕ, suc, List, [], All, Option, Some, None, IfErr, IfSome, OnOk, Result, Ok, Err, map, length, length-append, refl, ap, subst, sym, inl, inr, arith}
use Rattle.std.proofs.lemmas.List.{length-map}
use Rattle.std.proofs.lemmas.List.Elements.{All-pop}
use Rattle.gs_base.specs.declared.config.Config.{Config}
use Rattle.gs_base.specs.declared.refusal.Refusal.{Refusal}
use Rattle.gs_base.specs.declared.refusal.Refusal.TheVariants as refusals
use Rattle.gs_cluster.specs.Calling.{fresh_clients}
use Rattle.gs_cluster.specs.Finished.{Finished, HasRun}
use Rattle.gs_cluster.specs.Opened.{WhyNotOpened}
use Rattle.gs_cluster.specs.declared.caller.Caller.{Caller}
use Rattle.gs_cluster_core.specs.declared.role.Role.{Role}
use Rattle.gs_cluster_history.specs.Histories.{Kept}
use Rattle.gs_cluster_history.specs.Setting.{Setting}
use Rattle.gs_journal.specs.Memory.{bytes_of, times_failed}
use Rattle.gs_journal.specs.declared.journal.Unopened.{Unopened}
use Rattle.gs_journal.specs.declared.memory.MemoryDisk.{MemoryDisk}
use Rattle.gs_nodes.specs.NewDisks.{AreEmpty, OverEmpty}
use Rattle.gs_nodes.specs.declared.nodes.Nodes.{Nodes}
use Rattle.gs_shell_calls.specs.declared.caller.Caller.{Caller as Asker}
use Rattle.gs_shell_script.specs.Run.{RunFails, Writes}
use Rattle.gs_shell_script.specs.declared.RunFault.{RunFault}
use Rattle.gs_shell_script.specs.declared.RunFault.TheVariants as fault
use Rattle.gs_shell_threads.specs.Answering.{AnswersText}
use Rattle.gs_shell_threads.specs.Serving.{Asks, AsksInARun, Ends, ServeFails, Serves, WhyNoStore}
use Rattle.gs_shell_threads.specs.declared.desk.Desk.{Desk}

-- what is said of an input that is known, where a run ends well
weaker : {A E B : Type 0} {P Q : B → Type 0} (r : Result A E) (o : Option B) → ((x : B) → P x → Q x) → OnOk r (IfSome o P) → OnOk r (IfSome o Q)
weaker (Ok a) (Some x) so known = so x known
weaker (Ok a) None so known = tt
weaker (Err e) o so known = tt

-- nothing stands before the last of one
none_before : {A B : Type 0} (f : A → B) (left : List A) (x : A) (y : B) → map f (left ++ x ∷ []) ≡ y ∷ [] → left ≡ []
none_before f [] x y is = refl
none_before f (z ∷ left) x y is =
    let n : suc (length (map f (left ++ x ∷ []))) ≡ 1 = ap length is in
    absurd (omega (arith, length-map (left ++ x ∷ []) f, length-append left (x ∷ [])))

-- where all callers were handed back, memory is wanting to end a store, and nothing else
memory_wants : {D : Type 0} (seen : D → List ℕ) (failures : D → ℕ) (setting : Setting) (given : List (Kept (Role D))) (refusal : Refusal)
    → length given ≡ setting.clients → Finished seen failures setting given (Err refusal) → refusal ≡ refusals.Memory
memory_wants seen failures setting given refusals.Memory all said = refl
memory_wants seen failures setting given refusals.Stray all said = absurd (said all)
memory_wants seen failures setting given refusal all said = absurd said

module _ {N D T : Type 0} (seen : D → List ℕ) (failures : D → ℕ) (setting : Setting) (started left callers : List (Caller N D T)) (link : Caller N D T) (ended : Desk N D T) (asker : Asker) (config : Config)
    (popped : started ≡ left ++ link ∷ []) (fresh : map (λ (c : Caller N D T). c.node) started ≡ fresh_clients setting.clients) (moments : All (λ (c : Caller N D T). c.moment ≡ record { 0 = 0 }) started)
    (one : setting.clients ≡ 1) (same : config ≡ setting.config) (client : asker.client ≡ record { last = record { client = record { 0 = 1 }; number = 0 }; chunk = config.chunk })
    (handed : callers ≡ left ++ ended.link ∷ []) where
  abbrev nodes_of : List (Caller N D T) → List (Kept (Role D))
  nodes_of cs = map (λ (c : Caller N D T). c.node) cs

  abbrev begun : Desk N D T
  begun = record { caller = asker; link = link }

  here : nodes_of (left ++ link ∷ []) ≡ fresh_clients 1
  here = subst (λ n. nodes_of (left ++ link ∷ []) ≡ fresh_clients n) one (subst (λ s. nodes_of s ≡ fresh_clients setting.clients) popped fresh)

  none : left ≡ []
  none = none_before (λ (c : Caller N D T). c.node) left link _ here

  asks : (Written : Desk N D T → Desk N D T → Type 0) → Written begun ended → Asks N T seen failures setting Written ended
  asks Written written = record {
    begun = begun;
    client = subst (λ (s : Config). asker.client ≡ record { last = record { client = record { 0 = 1 }; number = 0 }; chunk = s.chunk }) same client;
    node = subst (λ l. nodes_of (l ++ link ∷ []) ≡ fresh_clients 1) none here;
    moment = (All-pop (λ (c : Caller N D T). c.moment ≡ record { 0 = 0 }) started left (Some link) popped moments).1;
    written = written;
  }

  in_a_run : (nodes : Nodes D) → HasRun seen failures setting (nodes_of callers) nodes → (Written : Desk N D T → Desk N D T → Type 0) → Written begun ended → AsksInARun N T seen failures setting Written
  in_a_run nodes run Written written = record {
    ended = ended;
    asks = asks Written written;
    nodes = nodes;
    run = subst (λ l. HasRun seen failures setting (nodes_of (l ++ ended.link ∷ [])) nodes) none (subst (λ s. HasRun seen failures setting (nodes_of s) nodes) handed run);
  }

  -- the store is ended
  pub serves : (nodes : Nodes D) → HasRun seen failures setting (nodes_of callers) nodes → (r : Result (Unit {0}) RunFault) (before old new : Option (List ℕ))
      → OnOk r (IfSome before (λ input. Writes (AnswersText seen failures) begun input old new ended)) → OnOk r (IfSome before (λ input. Serves N T seen failures setting input old new))
  serves nodes run r before old new =
      weaker r before (λ input written. in_a_run nodes run (λ (b : Desk N D T) (e : Desk N D T). Writes (AnswersText seen failures) b input old new e) written)

  stops : (Why : Refusal → Type 0) (nodes : Nodes D) → HasRun seen failures setting (nodes_of callers) nodes → (e : RunFault) (before unread old new : Option (List ℕ))
      → RunFails (AnswersText seen failures) e begun before unread old new ended → ServeFails N T seen failures setting Why e before unread old new
  stops Why nodes run fault.Read before unread old new fails = in_a_run nodes run (Ends N T seen failures setting (Err fault.Read) before unread old new) fails
  stops Why nodes run fault.Write before unread old new fails = in_a_run nodes run (Ends N T seen failures setting (Err fault.Write) before unread old new) fails
  stops Why nodes run (fault.Refused refusal) before unread old new fails = absurd fails

  pub breaks_off : (Why : Refusal → Type 0) (nodes : Nodes D) → HasRun seen failures setting (nodes_of callers) nodes → (r : Result (Unit {0}) RunFault) (before unread old new : Option (List ℕ))
      → IfErr r (λ e. RunFails (AnswersText seen failures) e begun before unread old new ended) → IfErr r (λ e. ServeFails N T seen failures setting Why e before unread old new)
  breaks_off Why nodes run (Ok x) before unread old new fails = tt
  breaks_off Why nodes run (Err e) before unread old new fails = stops Why nodes run e before unread old new fails

  -- ---- the store can't be ended

  ran : (r : Result (Unit {0}) RunFault) (before unread old new : Option (List ℕ)) → OnOk r (IfSome before (λ input. Writes (AnswersText seen failures) begun input old new ended))
      → IfErr r (λ e. RunFails (AnswersText seen failures) e begun before unread old new ended) → Ends N T seen failures setting r before unread old new begun ended
  ran (Ok x) before unread old new ok err = ok
  ran (Err e) before unread old new ok err = err

  all_handed : length (nodes_of callers) ≡ setting.clients
  all_handed = ap (λ (l : List (Caller N D T)). length (nodes_of l)) handed ∙ ap (λ (l : List (Caller N D T)). length (nodes_of (l ++ ended.link ∷ []))) none ∙ sym one

  pub not_ended : (Why : Refusal → Type 0) (refusal : Refusal) → Finished seen failures setting (nodes_of callers) (Err refusal) → (r : Result (Unit {0}) RunFault) (before unread old new : Option (List ℕ))
      → OnOk r (IfSome before (λ input. Writes (AnswersText seen failures) begun input old new ended)) → IfErr r (λ e. RunFails (AnswersText seen failures) e begun before unread old new ended)
      → ServeFails N T seen failures setting Why (fault.Refused refusal) before unread old new
  not_ended Why refusal said r before unread old new ok err = inr (record {
    end = r;
    ended = ended;
    asks = asks (Ends N T seen failures setting r before unread old new) (ran r before unread old new ok err);
    refused = memory_wants seen failures setting (nodes_of callers) refusal all_handed said;
  })

-- ---- no store is begun

-- one client is neither none nor too many
pub no_store : {D : Type 0} (seen : D → List ℕ) (failures : D → ℕ) (config : Config) (disks : D × D) (u : Unopened D) → WhyNotOpened seen failures config 1 disks u → WhyNoStore seen failures config disks u.refusal
no_store seen failures config disks u (inl (is, inl none, first, second)) = absurd (omega (arith, none))
no_store seen failures config disks u (inl (is, inr many, first, second)) = absurd (omega (arith, many))
no_store seen failures config disks u (inr (some, few, why)) = (u, refl, why)

-- memory is wanting to begin one over these disks
by_memory : {D : Type 0} (seen : D → List ℕ) (failures : D → ℕ) (config : Config) (disks : D × D) (refusal : Refusal) → refusal ≡ refusals.Memory → WhyNoStore seen failures config disks refusal
by_memory seen failures config disks refusal is = (record { refusal = refusal; first = disks.0; second = disks.1 }, refl, inl (is, refl, refl))

begins_over : (N T : Type 0) {D : Type 0} (seen : D → List ℕ) (failures : D → ℕ) (setting : Setting) (disks : D × D) (e : RunFault) (before unread old new : Option (List ℕ))
    → ServeFails N T seen failures setting (λ refusal. refusal ≡ refusals.Memory) e before unread old new → ServeFails N T seen failures setting (WhyNoStore seen failures setting.config disks) e before unread old new
begins_over N T seen failures setting disks fault.Read before unread old new fails = fails
begins_over N T seen failures setting disks fault.Write before unread old new fails = fails
begins_over N T seen failures setting disks (fault.Refused refusal) before unread old new (inl not) = inl (record { why = by_memory seen failures setting.config disks refusal not.why; unread = not.unread; unwritten = not.unwritten })
begins_over N T seen failures setting disks (fault.Refused refusal) before unread old new (inr not) = inr not

-- over disks in memory with nothing on them
pub fails_over : (N T : Type 0) (setting : Setting) (disks : MemoryDisk × MemoryDisk) → AreEmpty disks → (r : Result (Unit {0}) RunFault) (before unread old new : Option (List ℕ))
    → IfErr r (λ e. ServeFails N T bytes_of times_failed setting (λ refusal. refusal ≡ refusals.Memory) e before unread old new)
    → IfErr r (λ e. OverEmpty (λ d. ServeFails N T bytes_of times_failed setting (WhyNoStore bytes_of times_failed setting.config d) e before unread old new))
fails_over N T setting disks empty (Ok x) before unread old new fails = tt
fails_over N T setting disks empty (Err e) before unread old new fails = (disks, empty, begins_over N T bytes_of times_failed setting disks e before unread old new fails)
