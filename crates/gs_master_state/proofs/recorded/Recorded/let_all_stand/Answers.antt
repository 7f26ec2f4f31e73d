use Rattle.std.proofs.Common.{◌∙◌, append-nil, subst, sym}
use Rattle.gs_master_state.specs.inner.Recorded.{durable_of}
use Rattle.gs_master_state.specs.inner.Released.{ReleasesEach, all_forgotten, chunks_in, forgotten_in}
use Rattle.gs_master_state.specs.inner.TakingBack.{Leads}
use Rattle.gs_master_state.specs.declared.recorded.Recorded.{Recorded}
use Rattle.gs_master_state.proofs.Led.{leads_but_last}
use Rattle.gs_master_state.proofs.Releasing.{released_with}
use Rattle.gs_master_state.proofs.recorded.Recorded.let_all_stand.Goals as goal
use Rattle.gs_master_state.proofs.recorded.Recorded.let_all_stand.Goals.{in-Some, in_default}

pub let_last_go-requires : goal.let_last_go-requires
let_last_go-requires c =
    let last = leads_but_last c.requires.0 c.pop.new.self.items c.in-Some.undo c.requires.1.0 (durable_of c.args.self.now)
    (subst (λ all. Leads c.requires.0 all c.requires.1.0 (durable_of c.args.self.now)) c.in-Some.ensures.items c.requires.1.1) in
    (last.0, last.1.1)

pub returns-clause-room : goal.returns-clause-room
returns-clause-room c =
    let old = c.args.self.now.leases in
    let mid = c.match-pop.self.leases in
    let new = c.let_all_go.new.self.leases in
    let rest = c.pop.new.self.items in
    let all = c.args.undos.now.items in
    elim c.match-pop.branch [
      | in-Some w ↦
          released_with old mid new rest all w.in-Some.undo w.in-Some.ensures.items c.let_all_go.ensures.leases
          (subst (λ (r : Recorded). ReleasesEach old r.leases (chunks_in (forgotten_in w.in-Some.undo))) (sym w.self-is) w.let_last_go.ensures.room) c.let_all_go.ensures.room
      | in_default w ↦
          subst (λ (r : Recorded). ReleasesEach r.leases new (all_forgotten all)) w.self-is (subst (λ xs. ReleasesEach mid new (all_forgotten xs)) (sym (w.in_default.ensures.items ∙ append-nil rest)) c.let_all_go.ensures.room)
    ]
