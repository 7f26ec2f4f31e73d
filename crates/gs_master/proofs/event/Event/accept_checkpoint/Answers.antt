use Rattle.std.proofs.Common.{◌∙◌, ap, refl, subst}
use Rattle.std.specs.Prelude.{fold}
use Rattle.std.specs.FinMap as fin
use Rattle.gs_journal.specs.declared.version.Version.TheVariants.{Two}
use Rattle.gs_master_record.specs.Writable.{IsEntry}
use Rattle.gs_master_spec.specs.Durable.{Durable}
use Rattle.gs_master_state.specs.inner.Recorded.{durable_of}
use Rattle.gs_master.proofs.Renewals.{renewed_gives}
use Rattle.gs_master.proofs.event.Event.accept_checkpoint.Goals as goal

pub returns-clause-renewed : goal.returns-clause-renewed
returns-clause-renewed c =
    let m = c.accept_new.ensures in
    record {
      over = record {
        undos = c.let_all_go.ensures.none;
        entries = c.clear.ensures.items;
        written = c.clear-2.ensures.items;
        memory = λ i. record (c.accept_new.new.self) { before = m.before i; keeps_calls = m.calls i; asked = m.asked i };
      };
      after = renewed_gives c.args.self.now c.args.renewal (durable_of c.tidy.new.self) c.accept_new.new.self.now c.deref.result.now c.deref-2.result.now c.requires
          (c.tidy.ensures.value ∙ ap (λ (d : Durable). record d { chunks = fold fin.remove d.chunks c.deref.result.now }) c.let_all_go.ensures.value) c.deref.ensures.value m.now c.deref-2.ensures.value;
      is_entry = subst (IsEntry Two) c.requires.entry c.requires.is_entry;
      sends = refl;
      says = refl;
    }
