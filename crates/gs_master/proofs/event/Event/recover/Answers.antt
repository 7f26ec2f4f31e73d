use Rattle.std.proofs.Common.{◌∙◌, ap, inl, inr, map, refl, subst, sym}
use Rattle.gs_master_spec.specs.State.{State}
use Rattle.gs_master_record.specs.Plain.{plain}
use Rattle.gs_master_state.specs.inner.Recorded.{durable_of}
use Rattle.gs_master.specs.Recovering.{WhyNotRecovered}
use Rattle.gs_master.proofs.Crashes.{read_and_written, still_read}
use Rattle.gs_master.proofs.Recoveries.{IsRead, not_opened, not_rested, not_told, opened, read_of, stays_open, version_is}
use Rattle.gs_master.proofs.event.Event.recover.Goals as goal

pub returns-in-Err-rested-clause-recovered : goal.returns-in-Err-rested-clause-recovered
returns-in-Err-rested-clause-recovered g c =
    let d = g.D.Disk in
    let old = c.args.journal.now in
    let mid = c.records.new.self in
    let version = version_is old.is_failed c.in-Ok.version old.text.0 c.requires.stands.is_open c.in-Ok.ensures in
    let is : IsRead d.seen d.may_leave d.failures old mid = record { stays = c.in-Ok-records.ensures.stays; stands = c.in-Ok-records.ensures.stands; quiet = c.in-Ok-records.ensures.quiet } in
    let are = read_of old.text c.in-Ok.version c.deref.result.now c.in-Ok-read_entries.entries.items c.deref-2.result.now version (c.deref.ensures.value ∙ c.in-Ok-records.ensures.records) c.deref-2.ensures.value c.in-Ok-read_entries.ensures in
    elim c.in-Err-rested.ensures [
      | inl memory ↦ inl (stays_open d.seen d.may_leave d.failures c.args.config.now old mid is, inl memory)
      | inr unfit ↦ subst (WhyNotRecovered d.failures c.args.config.now old mid) (sym unfit.0) (not_rested d.seen d.may_leave d.failures c.args.config.now old mid is (map plain c.deref-2.result.now) are unfit.1)
    ]

pub returns-in-Err-read_entries-clause-recovered : goal.returns-in-Err-read_entries-clause-recovered
returns-in-Err-read_entries-clause-recovered g c =
    let d = g.D.Disk in
    let old = c.args.journal.now in
    let mid = c.records.new.self in
    let version = version_is old.is_failed c.in-Ok.version old.text.0 c.requires.stands.is_open c.in-Ok.ensures in
    let is : IsRead d.seen d.may_leave d.failures old mid = record { stays = c.in-Ok-records.ensures.stays; stands = c.in-Ok-records.ensures.stands; quiet = c.in-Ok-records.ensures.quiet } in
    let open_still = stays_open d.seen d.may_leave d.failures c.args.config.now old mid is in
    elim c.in-Err-read_entries.ensures [
      | inl memory ↦ inl (open_still, inl memory)
      | inr unread ↦ inl (
        open_still,
        inr (inl (
          unread.0,
          not_told d.seen d.may_leave d.failures c.args.config.now old mid is c.in-Ok.version version c.deref.result.now (c.deref.ensures.value ∙ c.in-Ok-records.ensures.records) unread.1,
        )),
      )
    ]

pub returns-in-Ok-update-clause-recovered : goal.returns-in-Ok-update-clause-recovered
returns-in-Ok-update-clause-recovered g c =
    let d = g.D.Disk in
    let old = c.args.journal.now in
    let mid = c.records.new.self in
    let version = version_is old.is_failed c.in-Ok.version old.text.0 c.requires.stands.is_open c.in-Ok.ensures in
    let is : IsRead d.seen d.may_leave d.failures old mid = record { stays = c.in-Ok-records.ensures.stays; stands = c.in-Ok-records.ensures.stands; quiet = c.in-Ok-records.ensures.quiet } in
    let are = read_of old.text c.in-Ok.version c.deref.result.now c.in-Ok-read_entries.entries.items c.deref-2.result.now version (c.deref.ensures.value ∙ c.in-Ok-records.ensures.records) c.deref-2.ensures.value c.in-Ok-read_entries.ensures in
    opened d.seen d.may_leave d.failures c.args.config.now old mid is (map plain c.deref-2.result.now) are c.in-Ok-rested.event c.update.new.self c.update.new.journal c.in-Ok-rested.ensures
    c.in-Ok.version version c.in-Ok-update.ensures.updated (record (c.update.new.self) { sent = c.in-Ok-told_again.sent }) refl c.in-Ok-told_again.ensures

pub returns-clause-recovered : goal.returns-clause-recovered
returns-clause-recovered g c =
    let d = g.D.Disk in
    let old = c.args.journal.now in
    let mid = c.records.new.self in
    let version = version_is old.is_failed c.in-Ok.version old.text.0 c.requires.stands.is_open c.in-Ok.ensures in
    let is : IsRead d.seen d.may_leave d.failures old mid = record { stays = c.in-Ok-records.ensures.stays; stands = c.in-Ok-records.ensures.stands; quiet = c.in-Ok-records.ensures.quiet } in
    let are = read_of old.text c.in-Ok.version c.deref.result.now c.in-Ok-read_entries.entries.items c.deref-2.result.now version (c.deref.ensures.value ∙ c.in-Ok-records.ensures.records) c.deref-2.ensures.value c.in-Ok-read_entries.ensures in
    not_opened d.seen d.may_leave d.failures c.args.config.now old mid is (map plain c.deref-2.result.now) are c.in-Ok-rested.event c.update.new.self c.update.new.journal c.in-Ok-rested.ensures
    c.in-Ok.version version c.in-Err-update.refusal c.in-Err-update.ensures.updated

pub returns-in-Err-clause-crash : goal.returns-in-Err-clause-crash
returns-in-Err-clause-crash g c =
    let d = g.D.Disk in
    let old = c.args.journal.now in
    let mid = c.records.new.self in
    let whole = c.records.ensures.whole c.requires.stands.is_open in
    still_read d.moment d.left_since d.seen d.may_leave old mid c.requires.stands (c.records.ensures.any_moment c.requires.stands.is_open) whole

pub returns-in-Err-read_entries-clause-crash : goal.returns-in-Err-read_entries-clause-crash
returns-in-Err-read_entries-clause-crash g c =
    let d = g.D.Disk in
    let old = c.args.journal.now in
    let mid = c.records.new.self in
    let whole = c.records.ensures.whole c.requires.stands.is_open in
    still_read d.moment d.left_since d.seen d.may_leave old mid c.requires.stands (c.records.ensures.any_moment c.requires.stands.is_open) whole

pub returns-in-Err-rested-clause-crash : goal.returns-in-Err-rested-clause-crash
returns-in-Err-rested-clause-crash g c =
    let d = g.D.Disk in
    let old = c.args.journal.now in
    let mid = c.records.new.self in
    let whole = c.records.ensures.whole c.requires.stands.is_open in
    still_read d.moment d.left_since d.seen d.may_leave old mid c.requires.stands (c.records.ensures.any_moment c.requires.stands.is_open) whole

pub returns-in_default-told_again-clause-crash : goal.returns-in_default-told_again-clause-crash
returns-in_default-told_again-clause-crash g c =
    let d = g.D.Disk in
    let old = c.args.journal.now in
    let mid = c.records.new.self in
    let whole = c.records.ensures.whole c.requires.stands.is_open in
    still_read d.moment d.left_since d.seen d.may_leave old mid c.requires.stands (c.records.ensures.any_moment c.requires.stands.is_open) whole

pub returns-in-Ok-update-clause-crash : goal.returns-in-Ok-update-clause-crash
returns-in-Ok-update-clause-crash g c =
    let d = g.D.Disk in
    let old = c.args.journal.now in
    let mid = c.records.new.self in
    let whole = c.records.ensures.whole c.requires.stands.is_open in
    let reading = still_read d.moment d.left_since d.seen d.may_leave old mid c.requires.stands (c.records.ensures.any_moment c.requires.stands.is_open) whole in
    let version = version_is old.is_failed c.in-Ok.version old.text.0 c.requires.stands.is_open c.in-Ok.ensures in
    let are = read_of old.text c.in-Ok.version c.deref.result.now c.in-Ok-read_entries.entries.items c.deref-2.result.now version (c.deref.ensures.value ∙ c.in-Ok-records.ensures.records) c.deref-2.ensures.value c.in-Ok-read_entries.ensures in
    let rest = c.in-Ok-rested.ensures in
    read_and_written d.moment d.left_since d.seen c.a_checkpoint_behind_a_reading_is_whole.ensures old mid c.update.new.journal reading whole c.records.ensures.other (map plain c.deref-2.result.now) rest.durable (durable_of c.in-Ok-rested.event.recorded) c.in-Ok.version
    c.in-Ok-records.ensures.stays.text c.in-Ok-records.ensures.stays.generation (record { records = are; replays = rest.replays }) (ap (λ (s : State). s.durable) rest.state) version c.update.ensures.crash

pub returns-clause-crash : goal.returns-clause-crash
returns-clause-crash g c =
    let d = g.D.Disk in
    let old = c.args.journal.now in
    let mid = c.records.new.self in
    let whole = c.records.ensures.whole c.requires.stands.is_open in
    let reading = still_read d.moment d.left_since d.seen d.may_leave old mid c.requires.stands (c.records.ensures.any_moment c.requires.stands.is_open) whole in
    let version = version_is old.is_failed c.in-Ok.version old.text.0 c.requires.stands.is_open c.in-Ok.ensures in
    let are = read_of old.text c.in-Ok.version c.deref.result.now c.in-Ok-read_entries.entries.items c.deref-2.result.now version (c.deref.ensures.value ∙ c.in-Ok-records.ensures.records) c.deref-2.ensures.value c.in-Ok-read_entries.ensures in
    let rest = c.in-Ok-rested.ensures in
    read_and_written d.moment d.left_since d.seen c.a_checkpoint_behind_a_reading_is_whole.ensures old mid c.update.new.journal reading whole c.records.ensures.other (map plain c.deref-2.result.now) rest.durable (durable_of c.in-Ok-rested.event.recorded) c.in-Ok.version
    c.in-Ok-records.ensures.stays.text c.in-Ok-records.ensures.stays.generation (record { records = are; replays = rest.replays }) (ap (λ (s : State). s.durable) rest.state) version c.update.ensures.crash
