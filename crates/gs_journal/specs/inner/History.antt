-- What a disk has held, the last first, and how often it has failed.
use Rattle.std.specs.Prelude.{ℕ, suc, List, [], ◌∷◌}
use Rattle.gs_journal.specs.declared.history.History.{History, fold-History}
use Rattle.gs_journal.specs.declared.history.History.TheOpen.{History-F}

abbrev pub contents_step : History-F (List (List ℕ)) → List (List ℕ)
contents_step History-F.Start = []
contents_step (History-F.Held bytes before) = bytes.value.items ∷ before.value
contents_step (History-F.Failed before) = before.value

abbrev pub contents : History → List (List ℕ)
contents = fold-History (List (List ℕ)) contents_step

abbrev pub failures_step : History-F ℕ → ℕ
failures_step History-F.Start = 0
failures_step (History-F.Held bytes before) = before.value
failures_step (History-F.Failed before) = suc before.value

abbrev pub failures_of : History → ℕ
failures_of = fold-History ℕ failures_step
