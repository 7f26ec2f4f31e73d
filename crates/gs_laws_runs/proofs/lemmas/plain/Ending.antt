-- Steps within an epoch, and those at which an upgrade begins or ends.
use Rattle.std.proofs.Common.{◌≡◌, ◌∙◌, ◌&&◌, ◌++◌, true, List, [], ◌∷◌, refl, ap, sym, ℕ}
use Rattle.std.specs.Prelude.{◌==◌, Option, Some, option_and_then}
use Rattle.std.specs.FinMap as fin
use Rattle.std.specs.List.{list_all}
use Rattle.std.proofs.lemmas.Bool.{false≢true, and_parts}
use Rattle.gs_base.specs.declared.epoch.EpochEnd.TheVariants as ends
use Rattle.gs_edit.specs.View.{NamesView}
use Rattle.gs_laws_master.proofs.lemmas.upgrades.Beginnings.{fits_gives}
use Rattle.gs_laws_plain.proofs.lemmas.commands.Placed.{same_rows}
use Rattle.gs_laws_plain.proofs.lemmas.commands.Places.{all_weaker}
use Rattle.gs_laws_plain.specs.commands.Commands.{Texts}
use Rattle.gs_laws_plain.specs.commands.Places.{Place, places_in}
use Rattle.gs_laws_plain.specs.commands.Records.{Telling, kept_in, texts_behind, texts_behind_all}
use Rattle.gs_master_record.specs.Plain.{PlainEntry, Finalize, Prepare, RollbackCommit}
use Rattle.gs_master_record.specs.Plain as entries
use Rattle.gs_master_record.specs.declared.checkpoint.Phase.{Phase}
use Rattle.gs_master_record.specs.declared.checkpoint.Phase.TheVariants.{Ordinary, Upgrade}
use Rattle.gs_master_record.specs.declared.entry.Answered.{Answered}
use Rattle.gs_master_spec.specs.Applied.{after_undoing, applied, are_answers, are_at_rest, is_next_epoch, replayed, rolled_back, with_epoch, without_prepared}
use Rattle.gs_master_spec.specs.Durable.{Durable, is_ordinary, is_rolling, is_upgrade, prepared_view}
use Rattle.gs_master_spec.specs.Undoing.{all_undone}
use Rattle.gs_replica.specs.Stands.{Edit}
use Rattle.gs_laws_chunks.specs.accounts.Accounts.{settled_edits, text_of}
use Rattle.gs_laws_runs.proofs.lemmas.plain.Stepping.{steps_of_accounts}
use Rattle.gs_laws_runs.specs.plain.Settling.{newly_settled}
use Rattle.gs_laws_runs.specs.plain.Stepping.{CommitsLead, FinalizesLead, GrowingStepsLead, PreparesLead, is_within, texts_between}
use Rattle.gs_laws_runs.specs.plain.Views.{texts_of}

-- ---- within an epoch

-- such a record changes no text of before
pub texts_stay : (entry : PlainEntry) (t : Telling) → is_within entry ≡ true → texts_behind entry t ≡ t
texts_stay (entries.Edited by edit) t h = refl
texts_stay (entries.Said to refusal) t h = refl
texts_stay (entries.Propose chunk version) t h = refl
texts_stay (entries.Settle v) t h = refl
texts_stay (entries.Prepare epoch moment chunks) t h = absurd (false≢true h)
texts_stay (entries.Finalize epoch) t h = refl
texts_stay (entries.RollbackBegin epoch) t h = refl
texts_stay (entries.RollbackCommit epoch answers) t h = absurd (false≢true h)
texts_stay (entries.Whole c) t h = refl
texts_stay (entries.Holder chunk server) t h = refl

all_texts_stay : (records : List PlainEntry) (t : Telling) → list_all is_within records ≡ true → texts_behind_all records t ≡ t
all_texts_stay [] t h = refl
all_texts_stay (entry ∷ records) t h =
    let both = and_parts (is_within entry) (list_all is_within records) h in
    ap (texts_behind_all records) (texts_stay entry t both.0) ∙ all_texts_stay records t both.1

pub growing_lead : GrowingStepsLead
growing_lead size a b records g = steps_of_accounts size a b records (record {
  stands = g.stands;
  alone = g.alone;
  written = g.written;
  keep = g.keep;
  replays = g.replays;
  texts = all_weaker (λ (place : Place). settled_edits a place.chunk ++ newly_settled a b place.chunk ≡ settled_edits b place.chunk)
      (λ (place : Place). (texts_behind_all records (texts_between size a b)).now place.chunk ≡ text_of size (settled_edits b place.chunk)) (places_in (fin.entries b.durable.names.tree))
      (λ place is. ap (λ (t : Telling). t.now place.chunk) stay ∙ ap (text_of size) is) g.grows;
  kept = ap (λ (t : Telling). kept_in t.before b.durable.phase (all_undone b.durable.inverses b.durable.names)) stay
      ∙ ap (λ (of : ℕ → List Edit). kept_in (λ chunk. text_of size (of chunk)) b.durable.phase (all_undone b.durable.inverses b.durable.names)) (sym g.before);
})
  where
    stay : texts_behind_all records (texts_between size a b) ≡ texts_between size a b
    stay = all_texts_stay records (texts_between size a b) g.within

-- ---- one record

alone_replays : (d next : Durable) (entry : PlainEntry) → applied d entry ≡ Some next → replayed d (entry ∷ []) ≡ Some next
alone_replays d next entry is = ap (option_and_then (λ n. replayed n [])) is

-- none is kept of any texts
none_kept : (before after : ℕ → List ℕ) (phase : Phase) (names : Option NamesView) → phase ≡ Ordinary → kept_in before phase names ≡ kept_in after phase names
none_kept before after phase names is = ap (λ p. kept_in before p names) is ∙ sym (ap (λ p. kept_in after p names) is)

finalized_is : (d next : Durable) (epoch : ℕ) → applied d (Finalize epoch) ≡ Some next → next.phase ≡ Ordinary
unfolding applied
finalized_is d next epoch is = sym (ap (λ (x : Durable). x.phase) (fits_gives (is_upgrade d.phase && is_next_epoch d.epoch epoch) (without_prepared (with_epoch d ends.Finalize Ordinary)) next is).1)

pub committed_is : (d next : Durable) (epoch : ℕ) (answers : List Answered) (names : NamesView) → all_undone d.inverses d.names ≡ Some names → applied d (RollbackCommit epoch answers) ≡ Some next → next.phase ≡ Ordinary
unfolding applied
committed_is d next epoch answers names back is =
    sym (ap (λ (x : Durable). x.phase) (fits_gives (is_rolling d.phase && ((epoch == d.epoch) && are_answers (prepared_view d) (fin.entries names.refs) answers)) (rolled_back d answers names) next (ap (after_undoing d epoch answers) (sym back) ∙ is)).1)

pub committed_names : (d next : Durable) (epoch : ℕ) (answers : List Answered) (names : NamesView) → all_undone d.inverses d.names ≡ Some names → applied d (RollbackCommit epoch answers) ≡ Some next → next.names ≡ names
unfolding applied
committed_names d next epoch answers names back is =
    sym (ap (λ (x : Durable). x.names) (fits_gives (is_rolling d.phase && ((epoch == d.epoch) && are_answers (prepared_view d) (fin.entries names.refs) answers)) (rolled_back d answers names) next (ap (after_undoing d epoch answers) (sym back) ∙ is)).1)

pub prepared_is : (before : ℕ → List ℕ) (d next : Durable) (epoch moment chunks : ℕ) → applied d (Prepare epoch moment chunks) ≡ Some next → kept_in before next.phase (all_undone next.inverses next.names) ≡ kept_in before Upgrade (Some d.names)
unfolding applied
prepared_is before d next epoch moment chunks is =
    sym (ap (λ (x : Durable). kept_in before x.phase (all_undone x.inverses x.names)) (fits_gives (is_ordinary d.phase && (is_next_epoch d.epoch epoch && are_at_rest d)) (without_prepared (with_epoch d ends.Prepare Upgrade)) next is).1)

pub finalizes_lead : FinalizesLead
finalizes_lead size a b epoch e grow = steps_of_accounts size a b (Finalize epoch ∷ []) (record {
  stands = e.stands;
  alone = e.alone;
  written = (e.written, tt);
  keep = (tt, tt, λ mid is. tt);
  replays = alone_replays a.durable b.durable (Finalize epoch) e.applies;
  texts = all_weaker (λ (place : Place). settled_edits a place.chunk ++ newly_settled a b place.chunk ≡ settled_edits b place.chunk)
      (λ (place : Place). text_of size (settled_edits a place.chunk ++ newly_settled a b place.chunk) ≡ text_of size (settled_edits b place.chunk)) (places_in (fin.entries b.durable.names.tree)) (λ place is. ap (text_of size) is) grow;
  kept = none_kept (texts_of size a).before (texts_of size b).before b.durable.phase (all_undone b.durable.inverses b.durable.names) (finalized_is a.durable b.durable epoch e.applies);
})

pub commits_lead : CommitsLead
commits_lead size a b epoch answers e texts = steps_of_accounts size a b (RollbackCommit epoch answers ∷ []) (record {
  stands = e.stands;
  alone = e.alone;
  written = (e.written, tt);
  keep = (tt, tt, λ mid is. tt);
  replays = alone_replays a.durable b.durable (RollbackCommit epoch answers) e.applies;
  texts = texts;
  kept = none_kept (texts_of size a).before (texts_of size b).before b.durable.phase (all_undone b.durable.inverses b.durable.names) (committed_is a.durable b.durable epoch answers e.stands.back.0 e.stands.back.1 e.applies);
})

pub prepares_lead : PreparesLead
prepares_lead size a b epoch moment chunks e grow alike = steps_of_accounts size a b (Prepare epoch moment chunks ∷ []) (record {
  stands = e.stands;
  alone = e.alone;
  written = (e.written, tt);
  keep = (tt, tt, λ mid is. tt);
  replays = alone_replays a.durable b.durable (Prepare epoch moment chunks) e.applies;
  texts = all_weaker (λ (place : Place). settled_edits a place.chunk ++ newly_settled a b place.chunk ≡ settled_edits b place.chunk)
      (λ (place : Place). text_of size (settled_edits a place.chunk ++ newly_settled a b place.chunk) ≡ text_of size (settled_edits b place.chunk)) (places_in (fin.entries b.durable.names.tree)) (λ place is. ap (text_of size) is) grow;
  kept = prepared_is (texts_between size a b).now a.durable b.durable epoch moment chunks e.applies
      ∙ ap (λ (rs : Texts). Some rs) (same_rows (texts_between size a b).now (texts_of size b).before (fin.entries a.durable.names.tree) alike)
      ∙ sym (prepared_is (texts_of size b).before a.durable b.durable epoch moment chunks e.applies);
})
