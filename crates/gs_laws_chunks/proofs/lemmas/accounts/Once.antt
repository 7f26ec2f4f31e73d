-- What the records tell is one, so a run has one account.
use Rattle.std.proofs.Common.{◌≡◌, ◌∙◌, Bool, true, false, List, [], ◌∷◌, map, drop, get_or, ℕ, refl, ap, sym}
use Rattle.std.specs.Prelude.{MatchBool, Option, Some}
use Rattle.std.specs.List.{AllByRecursion}
use Rattle.gs_journal.specs.Records.{Entry as Record, Text, standing}
use Rattle.gs_journal.specs.declared.version.Version.TheVariants.{Two}
use Rattle.gs_master.specs.Journaled.{text_seen}
use Rattle.gs_laws_chunks.specs.accounts.Accounts.{first_account}
use Rattle.gs_laws_chunks.specs.accounts.Moving.{account_behind}
use Rattle.gs_laws_chunks.specs.accounts.Running.{FirstIsOne, IsToldAt, NextIsOne, Setup}
use Rattle.gs_master_record.proofs.Whole.{one_entry}
use Rattle.gs_master_record.specs.Encoding.{encoded}
use Rattle.gs_master_record.specs.Plain.{PlainEntry}
use Rattle.gs_master_record.specs.Writable.{IsEntry}
use Rattle.gs_laws_world.specs.lasting.Lasting.{IsToldIn}
use Rattle.gs_master_spec.specs.Applied.{replayed}
use Rattle.gs_master_spec.specs.Durable.{Durable, start}
use Rattle.gs_master_spec.specs.State.{is_failed}
use Rattle.gs_nodes.specs.declared.place.MasterPlace.{MasterPlace}
use Rattle.gs_nodes.specs.declared.place.MasterPlace.TheVariants.{Standing, Closed, Away}

-- records that can be read again are those of these entries alone
same_entries : (xs ys : List PlainEntry) → AllByRecursion (IsEntry Two) xs → AllByRecursion (IsEntry Two) ys → map (encoded Two) xs ≡ map (encoded Two) ys → xs ≡ ys
same_entries [] [] p q same = refl
same_entries [] (y ∷ ys) p q same = absurd (cc)
same_entries (x ∷ xs) [] p q same = absurd (cc)
same_entries (x ∷ xs) (y ∷ ys) p q same =
    let one = one_entry Two x y p.0 q.0 (ap (λ (l : List Record). get_or l 0 (encoded Two x)) same) in
    let others = same_entries xs ys p.1 q.1 (ap (λ (l : List Record). drop 1 l) same) in
    λ i. one i ∷ others i

durable_is : {a b : Durable} → ◌≡◌ {A = Option Durable} (Some a) (Some b) → a ≡ b
durable_is h = cc

pub told_once : (text : Text) (d e : Durable) → IsToldIn text d → IsToldIn text e → d ≡ e
told_once text d e a b =
    let same = same_entries a.entries b.entries a.are_entries b.are_entries (ap (λ (t : Text). t.1) (sym a.records ∙ b.records)) in
    durable_is (sym a.replays ∙ ap (replayed start) same ∙ b.replays)

pub told_at_once : {D : Type 0} (seen : D → List ℕ) (place : MasterPlace D) (d e : Durable) → IsToldAt seen place d → IsToldAt seen place e → d ≡ e
told_at_once seen (Standing m) d e a b = each (is_failed m.state.fault) a b
  where
    each : (failed : Bool) → MatchBool failed (IsToldIn (text_seen seen m.journal) d) (d ≡ m.state.durable) → MatchBool failed (IsToldIn (text_seen seen m.journal) e) (e ≡ m.state.durable) → d ≡ e
    each true p q = told_once (text_seen seen m.journal) d e p q
    each false p q = p ∙ sym q
told_at_once seen (Closed first second) d e a b = told_once (standing (seen first) (seen second)) d e a b
told_at_once seen Away d e a b = absurd a

pub first_is_one : {D : Type 0} (x : Setup D) → FirstIsOne x
first_is_one x begun a b p q = p.account ∙ ap first_account (told_at_once x.seen begun.nodes.master a.durable b.durable p.told q.told) ∙ sym q.account

pub next_is_one : {D : Type 0} (x : Setup D) → NextIsOne x
next_is_one x old new a b c step p q =
    p.account ∙ ap (account_behind step old a new) (told_at_once x.seen new.nodes.master b.durable c.durable p.told q.told) ∙ sym q.account
