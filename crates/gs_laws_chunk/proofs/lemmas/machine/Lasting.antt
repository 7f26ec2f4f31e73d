-- What is known agrees with the nodes, and stays.
use Rattle.std.proofs.Common.{◌≡◌, ◌≤◌, length, true, false, sym, ap, ◌∙◌, subst, arith}
use Rattle.std.specs.Prelude.{Contains}
use Rattle.std.proofs.lemmas.List.{take_all}
use Rattle.std.proofs.lemmas.List.Elements.{Contains-append_left}
use Rattle.gs_laws_chunk.specs.machine.Machine.{Sent, ChunkWorld}
use Rattle.gs_laws_chunk.specs.machine.Events.{Event, Raises, Rises, Promises, SendsCopy, TakesLease, Numbers, Forwards, Applies, Acknowledges, Hears, Closes, Answers, Spends, Drops, Loses, Damages, Learns, Names, Reports, Proposes, AsksFirst, Asks, AsksForCopy, GivesUp, Holds, Settles, Grants, Retires, SendsDrop, Prepares, Finalizes, BeginsRollback, CommitsRollback, TellsEpoch, happens, Leads, Rests, Goes}
use Rattle.gs_laws_chunk.specs.machine.Laws.{QuietStays, Agrees, StaysKnown}
use Rattle.gs_laws_chunk.proofs.lemmas.machine.Worlds.{WorldOk, leads_world, leads_later}

stays_sent : (w : ChunkWorld) (e : Event) (x : Sent) → Contains w.sent x → Contains (happens w e).sent x
stays_sent w (Raises me stamp edits image) x h = Contains-append_left w.sent _ x h
stays_sent w (Rises me stamp edits) x h = Contains-append_left w.sent _ x h
stays_sent w (Promises me edits) x h = Contains-append_left w.sent _ x h
stays_sent w (SendsCopy me stamp target edits image) x h = Contains-append_left w.sent _ x h
stays_sent w (TakesLease me stamp members) x h = Contains-append_left w.sent _ x h
stays_sent w (Numbers me lease edits edit) x h = Contains-append_left w.sent _ x h
stays_sent w (Forwards me lease to place edit) x h = Contains-append_left w.sent _ x h
stays_sent w (Applies me edits edit) x h = Contains-append_left w.sent _ x h
stays_sent w (Acknowledges me edits) x h = Contains-append_left w.sent _ x h
stays_sent w (Hears me lease from count) x h = Contains-append_left w.sent _ x h
stays_sent w (Closes me lease place) x h = Contains-append_left w.sent _ x h
stays_sent w (Answers me lease place edit) x h = Contains-append_left w.sent _ x h
stays_sent w (Spends me) x h = Contains-append_left w.sent _ x h
stays_sent w (Drops me) x h = Contains-append_left w.sent _ x h
stays_sent w (Loses me) x h = Contains-append_left w.sent _ x h
stays_sent w (Damages me) x h = Contains-append_left w.sent _ x h
stays_sent w (Learns me end fails) x h = Contains-append_left w.sent _ x h
stays_sent w (Names me edits) x h = Contains-append_left w.sent _ x h
stays_sent w (Reports me) x h = Contains-append_left w.sent _ x h
stays_sent w (Proposes stamp asked) x h = h
stays_sent w (AsksFirst to false) x h = Contains-append_left w.sent _ x h
stays_sent w (AsksFirst to true) x h = Contains-append_left w.sent _ x h
stays_sent w (Asks to) x h = Contains-append_left w.sent _ x h
stays_sent w (AsksForCopy source target with_image) x h = Contains-append_left w.sent _ x h
stays_sent w GivesUp x h = h
stays_sent w (Holds server) x h = h
stays_sent w (Settles members count holder) x h = h
stays_sent w (Grants to) x h = Contains-append_left w.sent _ x h
stays_sent w Retires x h = h
stays_sent w (SendsDrop to promise) x h = Contains-append_left w.sent _ x h
stays_sent w (Prepares whole) x h = h
stays_sent w Finalizes x h = h
stays_sent w BeginsRollback x h = h
stays_sent w (CommitsRollback members false) x h = h
stays_sent w (CommitsRollback members true) x h = h
stays_sent w (TellsEpoch to epoch) x h = Contains-append_left w.sent _ x h

pub sent_stays : (w last : ChunkWorld) → Leads w last → (x : Sent) → Contains w.sent x → Contains last.sent x
sent_stays w last (Rests) x h = h
sent_stays w last (Goes v e before can) x h = stays_sent v e x (sent_stays w v before x h)

pub agrees : (w : ChunkWorld) → WorldOk w → Agrees w
agrees w ok = let m = ok.entry in record {
  stood = λ known. rw m.stamp ((ok.known).now (sym m.standing ∙ known));
  view = sym m.stamp;
  top = sym m.top;
  epoch = sym m.epoch;
  how = λ e. sym (m.how e);
  members = λ j. ap (λ t. w.known.members t j) m.stamp ∙ m.members j;
  holder = ap w.known.holder m.stamp ∙ sym m.holder;
  count = ap w.known.base m.stamp ∙ sym m.count;
  promises = λ j. (ok.views j).promise;
  epochs = λ j. (ok.views j).epoch;
  reached = λ j edits is. (ok.views j).count edits is;
}

module _ (w : ChunkWorld) (ok : WorldOk w) (last : ChunkWorld) (leads : Leads w last) where
  pub stays_known : StaysKnown w last
  stays_known =
      let okl = leads_world w last leads ok in
      let later = leads_later w last leads ok in
      let m = ok.entry in let ml = okl.entry in
      let s = m.stamp in let e = m.epoch in record {
        view = (let v = later.view in let t = ml.stamp in omega arith);
        top = (let v = later.top in let t = ml.top in let u = m.top in omega arith);
        epoch = (let v = later.current in let t = ml.epoch in omega arith);
        how = λ x l. ml.how x ∙ later.how x (omega arith) ∙ sym (m.how x);
        prepared = λ x l. (later.prepared x (omega arith), later.kept x (omega arith));
        list = λ t l. later.list t (omega arith);
        quiet = λ t l n. (later.fixed t (omega arith) n).1;
        members = λ t j l. later.members t j (omega arith);
        holder = λ t l. later.holder t (omega arith);
        promises = λ j. let p = (ok.views j).promise in let q = (okl.views j).promise in let r = later.promise j in omega arith;
        epochs = λ j. let p = (ok.views j).epoch in let q = (okl.views j).epoch in let r = later.epoch j in omega arith;
        reached = λ j t l. later.more j t (let p = (ok.views j).promise in omega arith);
        sent = λ server body h. sent_stays w last leads _ h;
      }

  pub quiet_stays : QuietStays w last
  quiet_stays free me edits of at is =
      let okl = leads_world w last leads ok in
      let later = leads_later w last leads ok in
      let m = ok.entry in
      let S = w.entry.view.stamp in
      let within : S ≤ w.known.view = (let s = m.stamp in omega arith) in
      let there : S ≤ last.known.view = (let v = later.view in omega arith) in
      let f = later.fixed S within (ap w.known.holder m.stamp ∙ sym m.holder ∙ free) in
      let member : last.known.members S me ≡ true = f.2 me ∙ ap (λ t. w.known.members t me) m.stamp ∙ m.members me ∙ of in
      let q = (okl.known).quiet S there f.0 in
      let x = (okl.views me).member (omega arith) (subst (λ p. last.known.members p me ≡ true) (sym at) member) edits is in
      let b = x.0 in let c = ap last.known.base at in let d = x.1.within in let e = ap (λ t. length (last.known.list t)) at in
      x.1.stands ∙ take_all (length edits) (last.known.list (last.members me).promise) (omega arith) ∙ ap last.known.list at ∙ f.1
