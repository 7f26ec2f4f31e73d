-- A chunk that was made nowhere, and is told to be a copy of none, is at no server in any world of a run.
use Rattle.std.proofs.Common.{◌≡◌, ◌∙◌, inl, inr, ℕ, true, List, [], ◌∷◌, Option, Some, None, refl, ap, sym, subst, slice_get}
use Rattle.std.specs.Prelude.{is_some}
use Rattle.std.specs.List.{AllByRecursion}
use Rattle.std.proofs.lemmas.Bool.{false≢true}
use Rattle.gs_base.specs.declared.numbers.Moment.{Moment}
use Rattle.gs_base.specs.declared.numbers.Stamp.{Stamp}
use Rattle.gs_laws_lift.specs.copies.Made.{MakesNone}
use Rattle.gs_msg.specs.declared.body.Body.{Body}
use Rattle.gs_msg.specs.declared.body.Body.TheVariants as bodies
use Rattle.gs_msg.specs.declared.chunk.Chunk.{Chunk}
use Rattle.gs_msg.specs.declared.chunk.Chunk.TheVariants as chunks
use Rattle.gs_msg.specs.declared.message.Message.{Message}
use Rattle.gs_msg.specs.declared.node.NodeId.{NodeId}
use Rattle.gs_msg.specs.declared.node.NodeId.TheVariants as nodes
use Rattle.gs_nodes.specs.declared.place.MasterPlace.{MasterPlace}
use Rattle.gs_server.specs.Servers.{Server}
use Rattle.gs_laws_parts.specs.server.Unborn.{KeepsNothing}
use Rattle.gs_world.proofs.Reaching.{HaveSizes}
use Rattle.gs_world.specs.Histories.{History}
use Rattle.gs_laws_world.specs.lasting.Lasting.{Lasts}
use Rattle.gs_world.specs.Runs.{StaySent, Step}
use Rattle.gs_world.specs.Sent.{Sent}
use Rattle.gs_laws_chunks.proofs.lemmas.accounts.Edits.{AreNumbered}
use Rattle.gs_laws_chunks.proofs.lemmas.accounts.Holding.{reach_more}
use Rattle.gs_laws_chunks.proofs.lemmas.accounts.SeeingThrough.{each_is_seen_through, reached_through}
use Rattle.gs_laws_chunks.proofs.lemmas.accounts.Told.{named}
use Rattle.gs_laws_chunks.specs.accounts.Accounts.{Account}
use Rattle.gs_laws_chunks.specs.accounts.Running.{IsReached, Moves, Runs, Setup}
use Rattle.gs_laws_lift.proofs.lemmas.stores.Beginning.{begins_none, begins_unborn}
use Rattle.gs_laws_lift.proofs.lemmas.stores.Copying.{copied_is_told, copied_there}
use Rattle.gs_laws_lift.proofs.lemmas.stores.DoingAll.{masters_do_all}
use Rattle.gs_laws_lift.proofs.lemmas.stores.Placing.{kind_of}
use Rattle.gs_laws_lift.proofs.lemmas.stores.Posting.{HasSaid, posted_all, posted_there, posts_stay}
use Rattle.gs_laws_lift.proofs.lemmas.stores.Running.{before}
use Rattle.gs_laws_lift.proofs.lemmas.stores.Serving.{set_cases}
use Rattle.gs_laws_lift.proofs.lemmas.stores.TellingAll.{does_all_say}
use Rattle.gs_laws_lift.specs.stores.Copying.{copied_from, is_copied}
use Rattle.gs_laws_lift.specs.stores.Going.{AllSent, Elsewhere, Kind, MasterGoes, OfMaster, OfServer, Posts}
use Rattle.gs_laws_lift.specs.stores.Left.{MasterDoesAll, as_left}
use Rattle.gs_laws_lift.specs.stores.Saying.{AreOfClient, AreOfMaster, IsOfClient, IsOfClientAbout, IsOfMaster, IsOfMasterAbout}
use Rattle.gs_laws_runs.proofs.lemmas.plain.Nowhere.{BringNone, BringsNone, BringsNoneAbout, goes_nowhere}
use Rattle.gs_laws_runs.specs.plain.Told.{IsMadeNowhere}

-- ---- what was told stays

pub copied_on : (old new : Sent) (chunk : ℕ) → StaySent old new → is_copied old chunk ≡ true → is_copied new chunk ≡ true
copied_on old new chunk stay copied = by_copied (copied_from old chunk) refl copied
  where
    by_copied : (o : Option (ℕ × Stamp)) → copied_from old chunk ≡ o → is_some o ≡ true → is_copied new chunk ≡ true
    by_copied None is some = absurd (false≢true some)
    by_copied (Some source) is some =
        let told = copied_is_told old source.0 chunk source.1 is in
        copied_there new told.message told.me source.0 chunk source.1 told.stamp (told.there.0, stay (record { sender = nodes.Master; place = told.there.0 }) told.message told.there.1) told.to told.is

pub uncopied_before : (old new : Sent) (chunk : ℕ) → StaySent old new → copied_from new chunk ≡ None → copied_from old chunk ≡ None
uncopied_before old new chunk stay none = by_copied (copied_from old chunk) refl
  where
    by_copied : (o : Option (ℕ × Stamp)) → copied_from old chunk ≡ o → o ≡ None
    by_copied None is = refl
    by_copied (Some source) is = absurd (false≢true (sym (ap is_some none) ∙ copied_on old new chunk stay (ap is_some is)))

-- ---- what brings the chunk to no server

abbrev pub BringsTo : ℕ → NodeId → Body → Type 0
BringsTo chunk (nodes.Server id) body = BringsNone chunk body
BringsTo chunk to body = Unit {0}

abbrev SaidSo : ℕ → Message → Type 0
SaidSo chunk m = BringsTo chunk m.to m.body

to_any : (chunk : ℕ) (to : NodeId) (body : Body) → BringsNone chunk body → BringsTo chunk to body
to_any chunk (nodes.Server id) body none = none
to_any chunk nodes.Master body none = tt
to_any chunk (nodes.Client id) body none = tt

all_to_any : (chunk : ℕ) (messages : List Message) → BringNone chunk messages → AllByRecursion (SaidSo chunk) messages
all_to_any chunk [] none = tt
all_to_any chunk (m ∷ messages) none = (to_any chunk m.to m.body none.0, all_to_any chunk messages none.1)

-- nothing that a client says
of_client : (chunk : ℕ) (messages : List Message) → AreOfClient messages → BringNone chunk messages
of_client chunk [] are = tt
of_client chunk (m ∷ messages) are = (by_body m.body are.0, of_client chunk messages are.1)
  where
    by_said : (said : Chunk) → IsOfClientAbout said → BringsNoneAbout said
    by_said (chunks.Create stamp) is = absurd is
    by_said (chunks.CopyIn stamp image sealed) is = absurd is
    by_said said is = tt

    by_body : (body : Body) → IsOfClient body → BringsNone chunk body
    by_body (bodies.About handle said) is = λ same. by_said said is
    by_body (bodies.MakeCopy old at new stamp) is = absurd is
    by_body body is = tt

-- nor what the master says, of one that it makes nowhere, and that is told to be no copy
of_master : (chunk : ℕ) (new : Sent) → IsMadeNowhere new chunk → copied_from new chunk ≡ None → (m : Message) → IsOfMaster m.body → HasSaid new m → SaidSo chunk m
of_master chunk new made none m is there = by_to m.to m.body refl refl is
  where
    by_said : (handle : ℕ) (said : Chunk) → m.body ≡ bodies.About handle said → IsOfMasterAbout said → handle ≡ chunk → BringsNoneAbout said
    by_said handle (chunks.Create stamp) body is same = absurd (subst (MakesNone chunk) body (made (record { sender = nodes.Master; place = there.0 }) m there.1) same)
    by_said handle (chunks.CopyIn stamp image sealed) body is same = absurd is
    by_said handle said body is same = tt

    by_body : (id : ℕ) (body : Body) → m.to ≡ nodes.Server id → m.body ≡ body → IsOfMaster body → BringsNone chunk body
    by_body id (bodies.About handle said) to body is = by_said handle said body is
    by_body id (bodies.MakeCopy old at other stamp) to body is = λ same.
        absurd (false≢true (sym (ap is_some none) ∙ copied_there new m id old chunk at stamp there to (body ∙ ap (λ n. bodies.MakeCopy old at n stamp) same)))
    by_body id said to body is = tt

    by_to : (to : NodeId) (body : Body) → m.to ≡ to → m.body ≡ body → IsOfMaster body → BringsTo chunk to body
    by_to (nodes.Server id) body to same is = by_body id body to same is
    by_to nodes.Master body to same is = tt
    by_to (nodes.Client id) body to same is = tt

all_of_master : (chunk : ℕ) (new : Sent) → IsMadeNowhere new chunk → copied_from new chunk ≡ None → (messages : List Message) → AreOfMaster messages → AllByRecursion (λ (m : Message). HasSaid new m → SaidSo chunk m) messages
all_of_master chunk new made none [] are = tt
all_of_master chunk new made none (m ∷ messages) are = (of_master chunk new made none m are.0, all_of_master chunk new made none messages are.1)

-- ---- over a run

module _ (sizes : HaveSizes) (law : AreNumbered) {D : Type 0} (x : Setup D) where
  -- what is left of the master lasts
  pub left_lasts : (now : History D) (a : Account) → IsReached x now a → Lasts x.seen (as_left now.nodes.master)
  left_lasts now a r = ((each_is_seen_through sizes law x now a r).2).lives.lasts

  pub kind_there : (step : Step) (old new : History D) (a b : Account) → IsReached x old a → Moves x step old a new b → Kind x.seen x.failures x.armed step old new
  kind_there step old new a b r moves = kind_of x.seen x.failures x.armed step old new moves.steps.goes (named x step old moves.steps.within (reached_through x old a r).types)

  pub does_there : (step : Step) (old new : History D) (a b : Account) (place : MasterPlace D) (messages : List Message) → IsReached x old a → Moves x step old a new b → new.nodes.master ≡ place
      → MasterGoes x.seen x.failures x.armed old.nodes.config old.sent old.nodes.master place messages → MasterDoesAll x.seen x.armed old.sent old.nodes.master place messages
  does_there step old new a b place messages r moves master goes =
      let behind = left_lasts new b (reach_more x old new a b (step ∷ []) r (new, b, moves, (refl, refl))) in
      masters_do_all x.seen x.failures x.armed old.nodes.config old.sent old.nodes.master place messages (left_lasts old a r) (subst (λ p. Lasts x.seen (as_left p)) master behind) goes

  module _ (chunk : ℕ) where
    -- servers keep nothing of it, and nothing was sent to one that brings it there
    pub record IsAbsent (h : History D) : Type 0 where
      pub servers : (id : ℕ) (s : Server) → slice_get h.nodes.servers id ≡ Some s → KeepsNothing chunk s
      pub brings : AllSent (SaidSo chunk) h.sent

    abbrev pub IsUnbrought : History D → Type 0
    IsUnbrought h = IsMadeNowhere h.sent chunk → copied_from h.sent chunk ≡ None → IsAbsent h

    absent_on : (step : Step) (old new : History D) (a b : Account) → IsReached x old a → Moves x step old a new b → IsUnbrought old → IsUnbrought new
    absent_on step old new a b r moves k made none = by_kind (kind_there step old new a b r moves)
      where
        was : (moment : Moment) (by : NodeId) (messages : List Message) → Posts moment by messages old.sent new.sent → IsAbsent old
        was moment by messages posted =
            let stay = posts_stay moment by messages old.sent new.sent posted in
            k (before x.seen x.failures x.armed (λ (m : Message). MakesNone chunk m.body) old.sent new.sent stay made) (uncopied_before old.sent new.sent chunk stay none)

        by_kind : Kind x.seen x.failures x.armed step old new → IsAbsent new
        by_kind (OfServer id s after messages moment found goes met servers master posted) =
            let w = was moment (nodes.Server id) messages posted in
            let g = goes_nowhere chunk id old.sent s after messages (w.servers id s found) (λ message sent to. subst (λ t. BringsTo chunk t message.body) to (w.brings sent.0 message sent.1)) goes in
            record {
              servers = λ j y at. elim (set_cases old.nodes.servers id j after y (subst (λ ss. slice_get ss j ≡ Some y) servers at)) [
                | inl here ↦ subst (KeepsNothing chunk) (sym here.1) g.keeps
                | inr there ↦ w.servers j y there.1
              ];
              brings = posted_all (SaidSo chunk) moment (nodes.Server id) messages old.sent new.sent posted w.brings (all_to_any chunk messages g.says);
            }
        by_kind (OfMaster place messages moment goes servers master posted) =
            let w = was moment nodes.Master messages posted in
            let are = does_all_say x.seen x.armed old.sent old.nodes.master place messages (does_there step old new a b place messages r moves master goes) in
            record {
              servers = λ j y at. w.servers j y (subst (λ ss. slice_get ss j ≡ Some y) servers at);
              brings = posted_there (SaidSo chunk) moment messages old.sent new.sent posted w.brings (all_of_master chunk new.sent made none messages are);
            }
        by_kind (Elsewhere by messages moment are servers master posted) =
            let w = was moment by messages posted in
            record {
              servers = λ j y at. w.servers j y (subst (λ ss. slice_get ss j ≡ Some y) servers at);
              brings = posted_all (SaidSo chunk) moment by messages old.sent new.sent posted w.brings (all_to_any chunk messages (of_client chunk messages are));
            }

    absent_over : (steps : List Step) (old new : History D) (a b : Account) → IsReached x old a → Runs x steps old a new b → IsUnbrought old → IsUnbrought new
    absent_over [] old new a b r runs k = subst IsUnbrought (sym runs.0) k
    absent_over (step ∷ steps) old new a b r (mid, c, moves, rest) k =
        absent_over steps mid new c b (reach_more x old mid a c (step ∷ []) r (mid, c, moves, (refl, refl))) rest (absent_on step old mid a c r moves k)

    pub absent_there : (now : History D) (a : Account) → IsReached x now a → IsUnbrought now
    absent_there now a r =
        absent_over r.steps r.begun now r.first a (record { apart = r.apart; begun = r.begun; first = r.first; steps = []; begins = r.begins; runs = (refl, refl) }) r.runs (λ made none. record {
          servers = λ id s found. ((begins_unborn x.seen x.failures x.armed sizes x.config (λ req. []) x.clients x.disks r.begun r.begins.given.new r.begins.begins chunk).servers id s found).0;
          brings = begins_none x.seen x.failures x.armed sizes x.config (λ req. []) x.clients x.disks r.begun r.begins.given.new r.begins.begins (SaidSo chunk);
        })
