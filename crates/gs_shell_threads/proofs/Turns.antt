-- Calls that are made again.
use Rattle.std.proofs.Common.{◌≡◌, ◌≢◌, ◌+◌, ◌-◌, ◌<◌, ◌≤◌, ◌⊎◌, ℕ, zero, suc, Bool, true, false, if◌then◌else◌, Result, Err, refl, sym, ap, subst, inl, inr, ⊎_elim, arith}
use Rattle.gs_base.specs.declared.refusal.Refusal.{Refusal}
use Rattle.gs_base.specs.declared.refusal.Refusal.TheVariants as refusals
use Rattle.gs_client.specs.Trees as trees
use Rattle.gs_client.specs.Trees.{Call}
use Rattle.gs_client.specs.declared.link.Reply.{Reply}
use Rattle.gs_client_dialogue.proofs.Talks.{follows_then, follows_else, follows_upon}
use Rattle.gs_client_dialogue.specs.Dialogues.{Say, Ask, Grow, FollowsDialogue, upon}
use Rattle.gs_msg.specs.declared.event.Request.{Request}
use Rattle.gs_shell_calls.specs.Asked.{ends_so, step_line}
use Rattle.gs_shell_calls.specs.declared.answer.Answer.{Answer}
use Rattle.gs_shell_grammar.specs.declared.command.UpgradeStep.{UpgradeStep}
use Rattle.gs_shell_grammar.specs.declared.command.UpgradeStep.TheVariants as steps
use Rattle.gs_shell_threads.specs.Asked.{gives_up, is_for_now, is_refused_unquiet, more_turns, step_in_threads, until}

-- memory isn't what can wait
waits_not : (came : Result Answer Refusal) → is_for_now came ≡ true → came ≢ Err refusals.Memory
waits_not came is memory = let h : is_for_now (Err refusals.Memory) ≡ true = subst (λ r. is_for_now r ≡ true) memory is in absurd cc

unquiet_not : (came : Result Answer Refusal) → is_refused_unquiet came ≡ true → came ≢ Err refusals.Memory
unquiet_not came is memory = let h : is_refused_unquiet (Err refusals.Memory) ≡ true = subst (λ r. is_refused_unquiet r ≡ true) memory is in absurd cc

-- what is asked behind an answer, where so many calls are left
unfoldable pub behind : ℕ → Call Answer → Result Answer Refusal → Call Answer
behind zero call came = Say came
behind (suc more) call came = if is_for_now came then until more call else Say came

module _ {S : Type 0} (carries : S → Request → Reply → S → Type 0) where
  -- the first call ends both
  pub follows_ends : (call : Call Answer) (go : Result Answer Refusal → Call Answer) (old mid : S) (came : Result Answer Refusal)
      → go came ≡ Say came → FollowsDialogue carries call old came mid → FollowsDialogue carries (upon call go) old came mid
  follows_ends (Say said) go old mid came ends (is, same) =
      subst (λ r. FollowsDialogue carries (go r) old came mid) is (subst (λ d. FollowsDialogue carries d old came mid) (sym ends) (refl, same))
  follows_ends (Ask asked more) go old mid came ends (reply, next, carried, rest) = (reply, next, carried, follows_ends (more reply) go next mid came ends rest)
  follows_ends (Grow rest) go old mid came ends follows = elim follows [
    | inl h ↦ inl (follows_ends rest go old mid came ends h)
    | inr h ↦ inr h
  ]

  -- whatever is said is what it came to
  said_so : (whole : Call Answer) (old mid new : S) (came result : Result Answer Refusal)
      → result ≡ came → new ≡ mid → FollowsDialogue carries whole old came mid → FollowsDialogue carries whole old result new
  said_so whole old mid new came result is same first =
      subst (λ s. FollowsDialogue carries whole old result s) (sym same) (subst (λ r. FollowsDialogue carries whole old r mid) (sym is) first)

  abbrev again : ℕ → Call Answer → Result Answer Refusal → Call Answer
  again more call came = if is_for_now came then until more call else Say came

  -- so far: whatever the rest comes to is what the whole comes to
  abbrev pub LeadsOn : Call Answer → S → ℕ → Call Answer → Result Answer Refusal → S → Type 0
  LeadsOn whole old left call came now = (result : Result Answer Refusal) (new : S) → FollowsDialogue carries (behind left call came) now result new → FollowsDialogue carries whole old result new

  -- it is asked once
  goes_on : (more : ℕ) (call : Call Answer) (old mid new : S) (came result : Result Answer Refusal) (waits : Bool) → is_for_now came ≡ waits
      → FollowsDialogue carries call old came mid → FollowsDialogue carries (if waits then until more call else Say came) mid result new
      → FollowsDialogue carries (upon call (again more call)) old result new
  goes_on more call old mid new came result true is first rest =
      follows_upon carries call (again more call) old mid new came result (waits_not came is) first
      (follows_then carries (is_for_now came) (until more call) (Say came) mid new result is rest)
  goes_on more call old mid new came result false is first (same, stays) =
      said_so (upon call (again more call)) old mid new came result same stays
      (follows_ends call (again more call) old mid came (ap (λ (b : Bool). if b then until more call else Say came) is) first)

  pub one_asked : (left : ℕ) (call : Call Answer) (old mid : S) (came : Result Answer Refusal) → FollowsDialogue carries call old came mid → LeadsOn (until left call) old left call came mid
  unfolding until behind
  one_asked zero call old mid came first result new (is, same) = said_so call old mid new came result is same first
  one_asked (suc more) call old mid came first result new rest = goes_on more call old mid new came result (is_for_now came) refl first rest

  -- it is asked once more
  more_asked : (whole call : Call Answer) (old now mid : S) (more : ℕ) (came next : Result Answer Refusal) → is_for_now came ≡ true
      → LeadsOn whole old (suc more) call came now → FollowsDialogue carries call now next mid → LeadsOn whole old more call next mid
  unfolding behind
  more_asked whole call old now mid more came next is leads asked result new rest =
      leads result new (follows_then carries (is_for_now came) (until more call) (Say came) now new result is (one_asked more call now mid next asked result new rest))

  pub turns : (whole call : Call Answer) (old now mid : S) (total counter : ℕ) (came next : Result Answer Refusal) → counter < total → is_for_now came ≡ true
      → LeadsOn whole old (total - counter) call came now → FollowsDialogue carries call now next mid → LeadsOn whole old (total - (counter + 1)) call next mid
  turns whole call old now mid total counter came next below is leads asked =
      more_asked whole call old now mid (total - (counter + 1)) came next is (subst (λ n. LeadsOn whole old n call came now) (one_less total counter below) leads) asked where
        one_less : (total counter : ℕ) → counter < total → total - counter ≡ suc (total - (counter + 1))
        one_less total counter below = omega arith

  -- it needn't be asked again
  pub stops : (whole call : Call Answer) (old now : S) (left : ℕ) (came : Result Answer Refusal) → is_for_now came ≡ false
      → LeadsOn whole old left call came now → FollowsDialogue carries whole old came now
  unfolding behind
  stops whole call old now zero came is leads = leads came now (refl, refl)
  stops whole call old now (suc more) came is leads = leads came now (follows_else carries (is_for_now came) (until more call) (Say came) now now came is (refl, refl))

  -- it isn't asked again
  over : (whole call : Call Answer) (old now : S) (came : Result Answer Refusal) → LeadsOn whole old 0 call came now → FollowsDialogue carries whole old came now
  unfolding behind
  over whole call old now came leads = leads came now (refl, refl)

  pub ends : (whole call : Call Answer) (old now : S) (total counter : ℕ) (came : Result Answer Refusal) → total ≤ counter
      → LeadsOn whole old (total - counter) call came now → FollowsDialogue carries whole old came now
  ends whole call old now total counter came above leads =
      over whole call old now came (subst (λ n. LeadsOn whole old n call came now) (none_left total counter above) leads) where
        none_left : (total counter : ℕ) → total ≤ counter → total - counter ≡ 0
        none_left total counter above = omega arith

  -- a prepare whose commit came to something: it is given up where a chunk isn't quiet
  pub gives_it_up : (call : Call Answer) (old mid new : S) (came : Result Answer Refusal) (aborted : Result ℕ Refusal) → is_refused_unquiet came ≡ true
      → FollowsDialogue carries call old came mid → FollowsDialogue carries trees.prepare_abort_call mid aborted new → FollowsDialogue carries (upon call gives_up) old came new
  gives_it_up call old mid new came aborted is first (reply, next, carried, (said, same)) =
      follows_upon carries call gives_up old mid new came came (unquiet_not came is) first
      (follows_then carries (is_refused_unquiet came) (upon trees.prepare_abort_call (ends_so came)) (Say came) mid new came is (reply, next, carried, (refl, same)))

  pub keeps_it : (call : Call Answer) (old mid : S) (came : Result Answer Refusal) → is_refused_unquiet came ≡ false
      → FollowsDialogue carries call old came mid → FollowsDialogue carries (upon call gives_up) old came mid
  keeps_it call old mid came is first =
      follows_ends call gives_up old mid came (ap (λ (b : Bool). if b then upon trees.prepare_abort_call (ends_so came) else Say came) is) first

  -- a commit that is asked for by itself
  abbrev Commits : (old new : S) (came : Result Answer Refusal) → UpgradeStep → Type 0
  Commits old new came step = FollowsDialogue carries (until more_turns (step_line step)) old came new → FollowsDialogue carries (step_in_threads step) old came new

  pub commits : (step : UpgradeStep) (old new : S) (came : Result Answer Refusal) → (step ≡ steps.PrepareCommit) ⊎ (step ≡ steps.RollbackCommit) → Commits old new came step
  commits step old new came = ⊎_elim (λ is. subst (Commits old new came) (sym is) (λ follows. follows)) (λ is. subst (Commits old new came) (sym is) (λ follows. follows))
