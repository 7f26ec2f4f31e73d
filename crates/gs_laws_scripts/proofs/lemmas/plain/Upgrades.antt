-- A line of an upgrade, at a store that stands as a plain machine does.
use Rattle.std.proofs.Common.{◌≡◌, ◌⊎◌, inl, inr, ◌∙◌, ◌+◌, ℕ, true, false, [], refl, sym, ap, subst}
use Rattle.std.specs.Prelude.{Result, Ok, Err, Option, Some, None}
use Rattle.gs_base.specs.declared.config.Config.{Config}
use Rattle.gs_base.specs.declared.epoch.EpochEnd.TheVariants as ends
use Rattle.gs_base.specs.declared.refusal.Refusal.{Refusal}
use Rattle.gs_base.specs.declared.refusal.Refusal.TheVariants as refusals
use Rattle.gs_client.specs.Replies.{changed, epoch_in, phase_in}
use Rattle.gs_client.specs.Trees.{and_then}
use Rattle.gs_client.specs.Trees as trees
use Rattle.gs_client.specs.declared.link.Reply.{Reply}
use Rattle.gs_client.specs.declared.link.Reply.TheVariants as replies
use Rattle.gs_client_dialogue.specs.Dialogues.{onward, run, upon}
use Rattle.gs_edit.specs.Machine.{finalized, prepared, restored}
use Rattle.gs_laws_plain.proofs.lemmas.calm.Asking.{queries_go}
use Rattle.gs_laws_plain.proofs.lemmas.calm.Preparing.{finalizes_go, prepares_begin, prepares_commit}
use Rattle.gs_laws_plain.proofs.lemmas.calm.Returning.{rollbacks_begin, rollbacks_commit}
use Rattle.gs_laws_plain.specs.calm.Calm.{WasShort, WentTo, phase_of}
use Rattle.gs_laws_plain.specs.commands.Commands.{Texts}
use Rattle.gs_master_spec.specs.Handling.{call_turn}
use Rattle.gs_master_spec.specs.Upgrades.{tell_all}
use Rattle.gs_msg.specs.declared.answer.Answer.TheVariants as says
use Rattle.gs_msg.specs.declared.call.Call.{Call as Called}
use Rattle.gs_msg.specs.declared.call.Call.TheVariants as calls
use Rattle.gs_msg.specs.declared.event.Request.TheVariants as requests
use Rattle.gs_shell_calls.specs.Asked.{at_phase, plain, unless_quiet, upgrade_line}
use Rattle.gs_shell_calls.specs.declared.answer.Answer.{Answer}
use Rattle.gs_shell_calls.specs.declared.answer.Answer.TheVariants as answers
use Rattle.gs_shell_grammar.specs.declared.command.Upgrade.TheVariants as upgrades
use Rattle.gs_laws_scripts.specs.answers.Plain.{PlainDesk, serves}
use Rattle.gs_laws_scripts.proofs.lemmas.plain.Asking.{FallsShort, IsAnswered, StandsAt, answers as is_answered, asked_at, falls, tells}
use Rattle.gs_laws_scripts.proofs.lemmas.plain.Delivering.{request}
use Rattle.gs_laws_scripts.proofs.lemmas.plain.Lines.{GoesAlike, LineGoes, SaysShort, ShortLine, Standing, run_change, run_look, says_looked, says_of, short_line}
use Rattle.gs_laws_scripts.specs.plain.Machines.{Machine, goes_on, upgraded}

-- what is read of a reply that answers an epoch
abbrev epoch_of : Reply → Result ℕ Refusal
epoch_of reply = and_then epoch_in (changed reply)

short_epoch : (e : Refusal) → (e ≡ refusals.Full) ⊎ (e ≡ refusals.Exhausted) → epoch_of (replies.Refused e) ≡ Err e
short_epoch e (inl h) = ap (λ (x : Refusal). epoch_of (replies.Refused x)) h ∙ ap (λ (x : Refusal). Err x) (sym h)
short_epoch e (inr h) = ap (λ (x : Refusal). epoch_of (replies.Refused x)) h ∙ ap (λ (x : Refusal). Err x) (sym h)

number_short : SaysShort (says_of epoch_in answers.Number)
number_short = record { full = refl; exhausted = refl }

module _ (config : Config) (m : Machine) (w : PlainDesk) (st : Standing config m w) where
  -- ---- a query

  query_by : (kept : Option Texts) → m.plain.kept ≡ kept → FallsShort w calls.Query ⊎ IsAnswered false false config w calls.Query (Ok (says.Phase (phase_of m.plain.kept) m.epoch)) m.plain m.epoch m.next_hidden (record { 0 = m.moment })
      → LineGoes config (says_looked phase_in at_phase (serves w (requests.Call calls.Query)).0, (serves w (requests.Call calls.Query)).1) (upgraded upgrades.Query m kept)
  query_by kept is (inl f) = inl (short_line (says_looked phase_in at_phase) w calls.Query (record { full = refl; exhausted = refl }) f)
  query_by None is (inr a) = inr (record {
    same = ap (λ (x : Reply × PlainDesk). says_looked phase_in at_phase x.0) a.is ∙ ap (λ (k : Option Texts). Ok (answers.Phase (phase_of k) m.epoch)) is;
    stands = record { at = subst (λ (x : Reply × PlainDesk). StandsAt false false config m.plain m.epoch m.next_hidden (record { 0 = m.moment }) x.1) (sym a.is) a.stands; moment = st.moment };
  })
  query_by (Some kept) is (inr a) = inr (record {
    same = ap (λ (x : Reply × PlainDesk). says_looked phase_in at_phase x.0) a.is ∙ ap (λ (k : Option Texts). Ok (answers.Phase (phase_of k) m.epoch)) is;
    stands = record { at = subst (λ (x : Reply × PlainDesk). StandsAt false false config m.plain m.epoch m.next_hidden (record { 0 = m.moment }) x.1) (sym a.is) a.stands; moment = st.moment };
  })

  pub query_goes : LineGoes config (run serves (upgrade_line upgrades.Query) w) (upgraded upgrades.Query m m.plain.kept)
  query_goes =
      subst (λ (x : Result Answer Refusal × PlainDesk). LineGoes config x (upgraded upgrades.Query m m.plain.kept)) (sym (run_look calls.Query phase_in at_phase w))
      (query_by m.plain.kept refl (is_answered false false config m.plain m.epoch m.next_hidden (record { 0 = m.moment }) w st.at false false calls.Query (Ok (says.Phase (phase_of m.plain.kept) m.epoch)) m.plain m.next_hidden
      (queries_go config st.at.s (request (st.at.last + 1)) (record { 0 = m.moment }) m.plain m.epoch m.next_hidden (asked_at false false config m.plain m.epoch m.next_hidden (record { 0 = m.moment }) w st.at) st.moment)))

  -- ---- one call that is refused

  refused_line : (c : Called) (e : Refusal) → epoch_of (replies.Refused e) ≡ Err e → IsAnswered false false config w c (Err e) m.plain m.epoch m.next_hidden (record { 0 = m.moment }) → (desk : Result Answer Refusal × PlainDesk)
      → desk ≡ (Err e, (serves w (requests.Call c)).1) → LineGoes config desk (Err e, m)
  refused_line c e says a desk is = subst (λ (x : Result Answer Refusal × PlainDesk). LineGoes config x (Err e, m)) (sym is) (inr (record {
    same = refl;
    stands = record { at = subst (λ (x : Reply × PlainDesk). StandsAt false false config m.plain m.epoch m.next_hidden (record { 0 = m.moment }) x.1) (sym a.is) a.stands; moment = st.moment };
  }))

  -- ---- a finalize

  final_by : (kept : Option Texts) → m.plain.kept ≡ kept → LineGoes config (says_of epoch_in answers.Number (serves w (requests.Call calls.Finalize)).0, (serves w (requests.Call calls.Finalize)).1) (upgraded upgrades.Finalize m kept)
  final_by None is = each (is_answered false false config m.plain m.epoch m.next_hidden (record { 0 = m.moment }) w st.at false false calls.Finalize (Err refusals.NotUpgrading) m.plain m.next_hidden
      ((finalizes_go config st.at.s (request (st.at.last + 1)) (record { 0 = m.moment }) m.plain m.epoch m.next_hidden (asked_at false false config m.plain m.epoch m.next_hidden (record { 0 = m.moment }) w st.at) st.moment).0 is))
    where
      each : FallsShort w calls.Finalize ⊎ IsAnswered false false config w calls.Finalize (Err refusals.NotUpgrading) m.plain m.epoch m.next_hidden (record { 0 = m.moment })
          → LineGoes config (says_of epoch_in answers.Number (serves w (requests.Call calls.Finalize)).0, (serves w (requests.Call calls.Finalize)).1) (Err refusals.NotUpgrading, m)
      each (inl f) = inl (short_line (says_of epoch_in answers.Number) w calls.Finalize number_short f)
      each (inr a) = refused_line calls.Finalize refusals.NotUpgrading refl a _ (ap (λ (x : Reply × PlainDesk). (says_of epoch_in answers.Number x.0, (serves w (requests.Call calls.Finalize)).1)) a.is)
  final_by (Some kept) is = turn ((finalizes_go config st.at.s (request (st.at.last + 1)) (record { 0 = m.moment }) m.plain m.epoch m.next_hidden (asked_at false false config m.plain m.epoch m.next_hidden (record { 0 = m.moment }) w st.at) st.moment).1 kept is)
    where
      each : FallsShort w calls.Finalize ⊎ IsAnswered false false config w calls.Finalize (Ok (says.Epoch (m.epoch + 1))) (finalized m.plain) (m.epoch + 1) m.next_hidden (record { 0 = m.moment })
          → LineGoes config (says_of epoch_in answers.Number (serves w (requests.Call calls.Finalize)).0, (serves w (requests.Call calls.Finalize)).1) (goes_on m (finalized m.plain))
      each (inl f) = inl (short_line (says_of epoch_in answers.Number) w calls.Finalize number_short f)
      each (inr a) = inr (record {
        same = ap (λ (x : Reply × PlainDesk). says_of epoch_in answers.Number x.0) a.is;
        stands = record { at = subst (λ (x : Reply × PlainDesk). StandsAt false false config (finalized m.plain) (m.epoch + 1) m.next_hidden (record { 0 = m.moment }) x.1) (sym a.is) a.stands; moment = st.moment };
      })

      turn : WasShort (request (st.at.last + 1)) (call_turn config st.at.s (request (st.at.last + 1)) (record { 0 = m.moment }) calls.Finalize)
          ⊎ WentTo false false (request (st.at.last + 1)) (call_turn config st.at.s (request (st.at.last + 1)) (record { 0 = m.moment }) calls.Finalize) (tell_all config (m.epoch + 1) ends.Finalize) (Ok (says.Epoch (m.epoch + 1))) (finalized m.plain) (m.epoch + 1) m.next_hidden
          → LineGoes config (says_of epoch_in answers.Number (serves w (requests.Call calls.Finalize)).0, (serves w (requests.Call calls.Finalize)).1) (goes_on m (finalized m.plain))
      turn (inl short) = each (inl (falls false false config m.plain m.epoch m.next_hidden (record { 0 = m.moment }) w st.at calls.Finalize short))
      turn (inr went) = each (tells false false config m.plain m.epoch m.next_hidden (record { 0 = m.moment }) w st.at false false calls.Finalize (Ok (says.Epoch (m.epoch + 1))) (finalized m.plain) m.next_hidden ends.Finalize went)

  pub finalize_goes : LineGoes config (run serves (upgrade_line upgrades.Finalize) w) (upgraded upgrades.Finalize m m.plain.kept)
  finalize_goes = subst (λ (x : Result Answer Refusal × PlainDesk). LineGoes config x (upgraded upgrades.Finalize m m.plain.kept)) (sym (run_change calls.Finalize epoch_in answers.Number w)) (final_by m.plain.kept refl)

  -- ---- a prepare

  -- the second request, behind the first
  abbrev commit_from : Result ℕ Refusal × PlainDesk → Result Answer Refusal × PlainDesk
  commit_from first = run serves (onward (λ _. upon trees.prepare_commit_call unless_quiet) first.0) first.1

  abbrev then_quiet : Reply × PlainDesk → Result Answer Refusal × PlainDesk
  then_quiet second = run serves (unless_quiet (epoch_of second.0)) second.1

  short_quiet : (e : Refusal) (v : PlainDesk) → (e ≡ refusals.Full) ⊎ (e ≡ refusals.Exhausted) → ShortLine (then_quiet (replies.Refused e, v)).0
  short_quiet e v (inl h) = record { refusal = e; short = inl h; is = ap (λ (x : Refusal). (then_quiet (replies.Refused x, v)).0) h ∙ ap (λ (x : Refusal). Err x) (sym h) }
  short_quiet e v (inr h) = record { refusal = e; short = inr h; is = ap (λ (x : Refusal). (then_quiet (replies.Refused x, v)).0) h ∙ ap (λ (x : Refusal). Err x) (sym h) }

  commits_in : (v : PlainDesk) → StandsAt true false config m.plain m.epoch m.next_hidden (record { 0 = m.moment }) v → LineGoes config (then_quiet (serves v (requests.Call calls.PrepareCommit))) (goes_on m (prepared m.plain))
  commits_in v at = turn (prepares_commit config at.s (request (at.last + 1)) (record { 0 = m.moment }) m.plain m.epoch m.next_hidden (asked_at true false config m.plain m.epoch m.next_hidden (record { 0 = m.moment }) v at) st.moment)
    where
      each : FallsShort v calls.PrepareCommit ⊎ IsAnswered false false config v calls.PrepareCommit (Ok (says.Epoch (m.epoch + 1))) (prepared m.plain) (m.epoch + 1) m.next_hidden (record { 0 = m.moment }) → LineGoes config (then_quiet (serves v (requests.Call calls.PrepareCommit))) (goes_on m (prepared m.plain))
      each (inl f) = inl (subst (λ (x : Reply × PlainDesk). ShortLine (then_quiet x).0) (sym f.is) (short_quiet f.refusal f.after f.short))
      each (inr a) = inr (subst (λ (x : Reply × PlainDesk). GoesAlike config (then_quiet x) (goes_on m (prepared m.plain))) (sym a.is) (record { same = refl; stands = record { at = a.stands; moment = st.moment } }))

      turn : WasShort (request (at.last + 1)) (call_turn config at.s (request (at.last + 1)) (record { 0 = m.moment }) calls.PrepareCommit)
          ⊎ WentTo false false (request (at.last + 1)) (call_turn config at.s (request (at.last + 1)) (record { 0 = m.moment }) calls.PrepareCommit) (tell_all config (m.epoch + 1) ends.Prepare) (Ok (says.Epoch (m.epoch + 1))) (prepared m.plain) (m.epoch + 1) m.next_hidden
          → LineGoes config (then_quiet (serves v (requests.Call calls.PrepareCommit))) (goes_on m (prepared m.plain))
      turn (inl short) = each (inl (falls true false config m.plain m.epoch m.next_hidden (record { 0 = m.moment }) v at calls.PrepareCommit short))
      turn (inr went) = each (tells true false config m.plain m.epoch m.next_hidden (record { 0 = m.moment }) v at false false calls.PrepareCommit (Ok (says.Epoch (m.epoch + 1))) (prepared m.plain) m.next_hidden ends.Prepare went)

  short_first : (e : Refusal) (v : PlainDesk) → (e ≡ refusals.Full) ⊎ (e ≡ refusals.Exhausted) → ShortLine (commit_from (epoch_of (replies.Refused e), v)).0
  short_first e v h = record { refusal = e; short = h; is = ap (λ (r : Result ℕ Refusal). (commit_from (r, v)).0) (short_epoch e h) }

  prepare_by : (kept : Option Texts) → m.plain.kept ≡ kept → LineGoes config (commit_from (epoch_of (serves w (requests.Call calls.PrepareBegin)).0, (serves w (requests.Call calls.PrepareBegin)).1)) (upgraded upgrades.Prepare m kept)
  prepare_by None is = turn ((prepares_begin config st.at.s (request (st.at.last + 1)) (record { 0 = m.moment }) m.plain m.epoch m.next_hidden (asked_at false false config m.plain m.epoch m.next_hidden (record { 0 = m.moment }) w st.at) st.moment).0 is)
    where
      each : FallsShort w calls.PrepareBegin ⊎ IsAnswered true false config w calls.PrepareBegin (Ok (says.Epoch m.epoch)) m.plain m.epoch m.next_hidden (record { 0 = m.moment })
          → LineGoes config (commit_from (epoch_of (serves w (requests.Call calls.PrepareBegin)).0, (serves w (requests.Call calls.PrepareBegin)).1)) (goes_on m (prepared m.plain))
      each (inl f) = inl (subst (λ (x : Reply × PlainDesk). ShortLine (commit_from (epoch_of x.0, x.1)).0) (sym f.is) (short_first f.refusal f.after f.short))
      each (inr a) = subst (λ (x : Reply × PlainDesk). LineGoes config (commit_from (epoch_of x.0, x.1)) (goes_on m (prepared m.plain))) (sym a.is) (commits_in a.after a.stands)

      turn : WasShort (request (st.at.last + 1)) (call_turn config st.at.s (request (st.at.last + 1)) (record { 0 = m.moment }) calls.PrepareBegin)
          ⊎ WentTo true false (request (st.at.last + 1)) (call_turn config st.at.s (request (st.at.last + 1)) (record { 0 = m.moment }) calls.PrepareBegin) [] (Ok (says.Epoch m.epoch)) m.plain m.epoch m.next_hidden
          → LineGoes config (commit_from (epoch_of (serves w (requests.Call calls.PrepareBegin)).0, (serves w (requests.Call calls.PrepareBegin)).1)) (goes_on m (prepared m.plain))
      turn (inl short) = each (inl (falls false false config m.plain m.epoch m.next_hidden (record { 0 = m.moment }) w st.at calls.PrepareBegin short))
      turn (inr went) = each (is_answered false false config m.plain m.epoch m.next_hidden (record { 0 = m.moment }) w st.at true false calls.PrepareBegin (Ok (says.Epoch m.epoch)) m.plain m.next_hidden went)
  prepare_by (Some kept) is = each (is_answered false false config m.plain m.epoch m.next_hidden (record { 0 = m.moment }) w st.at false false calls.PrepareBegin (Err refusals.AlreadyUpgrading) m.plain m.next_hidden
      ((prepares_begin config st.at.s (request (st.at.last + 1)) (record { 0 = m.moment }) m.plain m.epoch m.next_hidden (asked_at false false config m.plain m.epoch m.next_hidden (record { 0 = m.moment }) w st.at) st.moment).1 kept is))
    where
      each : FallsShort w calls.PrepareBegin ⊎ IsAnswered false false config w calls.PrepareBegin (Err refusals.AlreadyUpgrading) m.plain m.epoch m.next_hidden (record { 0 = m.moment })
          → LineGoes config (commit_from (epoch_of (serves w (requests.Call calls.PrepareBegin)).0, (serves w (requests.Call calls.PrepareBegin)).1)) (Err refusals.AlreadyUpgrading, m)
      each (inl f) = inl (subst (λ (x : Reply × PlainDesk). ShortLine (commit_from (epoch_of x.0, x.1)).0) (sym f.is) (short_first f.refusal f.after f.short))
      each (inr a) = refused_line calls.PrepareBegin refusals.AlreadyUpgrading refl a _ (ap (λ (x : Reply × PlainDesk). commit_from (epoch_of x.0, (serves w (requests.Call calls.PrepareBegin)).1)) a.is)

  pub prepare_goes : LineGoes config (run serves (upgrade_line upgrades.Prepare) w) (upgraded upgrades.Prepare m m.plain.kept)
  prepare_goes = prepare_by m.plain.kept refl

  -- ---- a rollback

  abbrev return_from : Result ℕ Refusal × PlainDesk → Result Answer Refusal × PlainDesk
  return_from first = run serves (onward (λ _. plain trees.rollback_commit_call answers.Number) first.0) first.1

  short_return : (e : Refusal) (v : PlainDesk) → (e ≡ refusals.Full) ⊎ (e ≡ refusals.Exhausted) → ShortLine (return_from (epoch_of (replies.Refused e), v)).0
  short_return e v h = record { refusal = e; short = h; is = ap (λ (r : Result ℕ Refusal). (return_from (r, v)).0) (short_epoch e h) }

  returns_in : (kept : Texts) (v : PlainDesk) → m.plain.kept ≡ Some kept → StandsAt false true config m.plain (m.epoch + 1) m.next_hidden (record { 0 = m.moment }) v
      → LineGoes config (run serves (plain trees.rollback_commit_call answers.Number) v) (goes_on m (restored m.plain kept))
  returns_in kept v is at = subst (λ (x : Result Answer Refusal × PlainDesk). LineGoes config x (goes_on m (restored m.plain kept))) (sym (run_change calls.RollbackCommit epoch_in answers.Number v))
      (turn (rollbacks_commit config at.s (request (at.last + 1)) (record { 0 = m.moment }) m.plain (m.epoch + 1) m.next_hidden kept (asked_at false true config m.plain (m.epoch + 1) m.next_hidden (record { 0 = m.moment }) v at) st.moment is))
    where
      each : FallsShort v calls.RollbackCommit ⊎ IsAnswered false false config v calls.RollbackCommit (Ok (says.Epoch (m.epoch + 1))) (restored m.plain kept) (m.epoch + 1) m.next_hidden (record { 0 = m.moment })
          → LineGoes config (says_of epoch_in answers.Number (serves v (requests.Call calls.RollbackCommit)).0, (serves v (requests.Call calls.RollbackCommit)).1) (goes_on m (restored m.plain kept))
      each (inl f) = inl (short_line (says_of epoch_in answers.Number) v calls.RollbackCommit number_short f)
      each (inr a) = inr (record {
        same = ap (λ (x : Reply × PlainDesk). says_of epoch_in answers.Number x.0) a.is;
        stands = record { at = subst (λ (x : Reply × PlainDesk). StandsAt false false config (restored m.plain kept) (m.epoch + 1) m.next_hidden (record { 0 = m.moment }) x.1) (sym a.is) a.stands; moment = st.moment };
      })

      turn : WasShort (request (at.last + 1)) (call_turn config at.s (request (at.last + 1)) (record { 0 = m.moment }) calls.RollbackCommit)
          ⊎ WentTo false false (request (at.last + 1)) (call_turn config at.s (request (at.last + 1)) (record { 0 = m.moment }) calls.RollbackCommit) [] (Ok (says.Epoch (m.epoch + 1))) (restored m.plain kept) (m.epoch + 1) m.next_hidden
          → LineGoes config (says_of epoch_in answers.Number (serves v (requests.Call calls.RollbackCommit)).0, (serves v (requests.Call calls.RollbackCommit)).1) (goes_on m (restored m.plain kept))
      turn (inl short) = each (inl (falls false true config m.plain (m.epoch + 1) m.next_hidden (record { 0 = m.moment }) v at calls.RollbackCommit short))
      turn (inr went) = each (is_answered false true config m.plain (m.epoch + 1) m.next_hidden (record { 0 = m.moment }) v at false false calls.RollbackCommit (Ok (says.Epoch (m.epoch + 1))) (restored m.plain kept) m.next_hidden went)

  rollback_by : (kept : Option Texts) → m.plain.kept ≡ kept → LineGoes config (return_from (epoch_of (serves w (requests.Call calls.RollbackBegin)).0, (serves w (requests.Call calls.RollbackBegin)).1)) (upgraded upgrades.Rollback m kept)
  rollback_by None is = each (is_answered false false config m.plain m.epoch m.next_hidden (record { 0 = m.moment }) w st.at false false calls.RollbackBegin (Err refusals.NotUpgrading) m.plain m.next_hidden
      ((rollbacks_begin config st.at.s (request (st.at.last + 1)) (record { 0 = m.moment }) m.plain m.epoch m.next_hidden (asked_at false false config m.plain m.epoch m.next_hidden (record { 0 = m.moment }) w st.at) st.moment).0 is))
    where
      each : FallsShort w calls.RollbackBegin ⊎ IsAnswered false false config w calls.RollbackBegin (Err refusals.NotUpgrading) m.plain m.epoch m.next_hidden (record { 0 = m.moment })
          → LineGoes config (return_from (epoch_of (serves w (requests.Call calls.RollbackBegin)).0, (serves w (requests.Call calls.RollbackBegin)).1)) (Err refusals.NotUpgrading, m)
      each (inl f) = inl (subst (λ (x : Reply × PlainDesk). ShortLine (return_from (epoch_of x.0, x.1)).0) (sym f.is) (short_return f.refusal f.after f.short))
      each (inr a) = refused_line calls.RollbackBegin refusals.NotUpgrading refl a _ (ap (λ (x : Reply × PlainDesk). return_from (epoch_of x.0, (serves w (requests.Call calls.RollbackBegin)).1)) a.is)
  rollback_by (Some kept) is = turn ((rollbacks_begin config st.at.s (request (st.at.last + 1)) (record { 0 = m.moment }) m.plain m.epoch m.next_hidden (asked_at false false config m.plain m.epoch m.next_hidden (record { 0 = m.moment }) w st.at) st.moment).1 kept is)
    where
      each : FallsShort w calls.RollbackBegin ⊎ IsAnswered false true config w calls.RollbackBegin (Ok (says.Epoch (m.epoch + 1))) m.plain (m.epoch + 1) m.next_hidden (record { 0 = m.moment })
          → LineGoes config (return_from (epoch_of (serves w (requests.Call calls.RollbackBegin)).0, (serves w (requests.Call calls.RollbackBegin)).1)) (goes_on m (restored m.plain kept))
      each (inl f) = inl (subst (λ (x : Reply × PlainDesk). ShortLine (return_from (epoch_of x.0, x.1)).0) (sym f.is) (short_return f.refusal f.after f.short))
      each (inr a) = subst (λ (x : Reply × PlainDesk). LineGoes config (return_from (epoch_of x.0, x.1)) (goes_on m (restored m.plain kept))) (sym a.is) (returns_in kept a.after is a.stands)

      turn : WasShort (request (st.at.last + 1)) (call_turn config st.at.s (request (st.at.last + 1)) (record { 0 = m.moment }) calls.RollbackBegin)
          ⊎ WentTo false true (request (st.at.last + 1)) (call_turn config st.at.s (request (st.at.last + 1)) (record { 0 = m.moment }) calls.RollbackBegin) (tell_all config (m.epoch + 1) ends.Rollback) (Ok (says.Epoch (m.epoch + 1))) m.plain (m.epoch + 1) m.next_hidden
          → LineGoes config (return_from (epoch_of (serves w (requests.Call calls.RollbackBegin)).0, (serves w (requests.Call calls.RollbackBegin)).1)) (goes_on m (restored m.plain kept))
      turn (inl short) = each (inl (falls false false config m.plain m.epoch m.next_hidden (record { 0 = m.moment }) w st.at calls.RollbackBegin short))
      turn (inr went) = each (tells false false config m.plain m.epoch m.next_hidden (record { 0 = m.moment }) w st.at false true calls.RollbackBegin (Ok (says.Epoch (m.epoch + 1))) m.plain m.next_hidden ends.Rollback went)

  pub rollback_goes : LineGoes config (run serves (upgrade_line upgrades.Rollback) w) (upgraded upgrades.Rollback m m.plain.kept)
  rollback_goes = rollback_by m.plain.kept refl
