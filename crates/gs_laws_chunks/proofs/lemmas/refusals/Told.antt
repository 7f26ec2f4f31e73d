-- Who was told that its edit is refused, and not as older than another one, has none that is numbered later.
use Rattle.std.proofs.Common.{◌≡◌, ◌≢◌, ◌∙◌, inl, ℕ, List, [], ◌∷◌, Some, Ok, Err, sym, ap, subst, slice_get, slice_set}
use Rattle.std.specs.List.{AllByRecursion}
use Rattle.gs_base.specs.declared.numbers.Moment.{Moment}
use Rattle.gs_base.specs.declared.numbers.ReqId.{ReqId}
use Rattle.gs_base.specs.declared.refusal.Refusal.{Refusal}
use Rattle.gs_base.specs.declared.refusal.Refusal.TheVariants as refusals
use Rattle.gs_msg.specs.declared.body.Body.{Body}
use Rattle.gs_msg.specs.declared.body.Body.TheVariants as bodies
use Rattle.gs_msg.specs.declared.chunk.Chunk.TheVariants as chunks
use Rattle.gs_msg.specs.declared.message.Message.{Message}
use Rattle.gs_msg.specs.declared.node.NodeId.TheVariants as nodes
use Rattle.gs_server.specs.Runs as at_server
use Rattle.gs_server.specs.Servers.{Server}
use Rattle.gs_laws_server.specs.refusals.Refused.{IsOver, IsRefusedAt, Only, OverAreNotNumbered, OverStay, QuietTicks, RefusedAreNeverNumbered, RefusedAreOver, TellsOwn, TellsRefusals}
use Rattle.gs_world.proofs.Sending.{step_stays}
use Rattle.gs_world.specs.Histories.{Begins, History}
use Rattle.gs_world.specs.Runs.{StaySent, Step}
use Rattle.gs_world.specs.Sent.{IsSent, none_sent}
use Rattle.gs_laws_chunks.proofs.lemmas.accounts.MasterSays.{master_says}
use Rattle.gs_laws_chunks.proofs.lemmas.accounts.Told.{named}
use Rattle.gs_laws_chunks.proofs.lemmas.accounts.Well.{IsWell, begins_well, step_well}
use Rattle.gs_laws_chunks.specs.accounts.Accounts.{Account}
use Rattle.gs_laws_chunks.specs.accounts.Reached.{EachIsARunThrough}
use Rattle.gs_laws_chunks.specs.accounts.Running.{IsGiven, IsReached, Runs, Setup, StepsWithin}
use Rattle.gs_laws_lift.proofs.lemmas.stores.Beginning.{begins_silent, none_of}
use Rattle.gs_laws_lift.proofs.lemmas.stores.Placing.{kind_of}
use Rattle.gs_laws_lift.proofs.lemmas.stores.Posting.{posted_all}
use Rattle.gs_laws_lift.proofs.lemmas.stores.Serving.{set_found}
use Rattle.gs_laws_lift.specs.stores.Going.{AllSent, Beats, Damages, Elsewhere, Hears, Kind, Loses, OfMaster, OfServer, Restarts, ServerGoes, Ticks}
use Rattle.gs_laws_lift.specs.stores.Saying.{AreOfClient, AreOfMaster, IsOfClient, IsOfMaster}
use Rattle.gs_laws_chunks.proofs.lemmas.refusals.Refused.{IsBarred, after_barred, barred_on, first_nowhere, runs_nowhere}
use Rattle.gs_laws_chunks.specs.refusals.Refused.{ToldAreNumberedNowhere, ToldStandNowhere, WasTold}

-- somebody is barred from a request
record IsBarredSomewhere {D : Type 0} (h : History D) (req : ReqId) : Type 0 where
  server : ℕ
  barred : IsBarred h server req

-- each refusal that was told, but of an older edit, has barred its server
abbrev Bars : {D : Type 0} → History D → ReqId → Refusal → Type 0
Bars h req refusal = refusal ≢ refusals.Old → IsBarredSomewhere h req

abbrev AllBar : {D : Type 0} → History D → Type 0
AllBar h = AllSent (λ (m : Message). Only (Bars h) m.body) h.sent

-- ---- what tells of no refusal

map_only : (P Q : ReqId → Refusal → Type 0) → ((req : ReqId) (refusal : Refusal) → P req refusal → Q req refusal) → (body : Body) → Only P body → Only Q body
map_only P Q leads (bodies.Done req (Err refusal)) told = leads req refusal told
map_only P Q leads (bodies.Done req (Ok outcome)) told = tt
map_only P Q leads (bodies.About handle said) told = tt
map_only P Q leads (bodies.Push req bytes) told = tt
map_only P Q leads (bodies.MakeCopy old at new stamp) told = tt
map_only P Q leads (bodies.Epoch epoch end) told = tt
map_only P Q leads (bodies.Call req call) told = tt
map_only P Q leads (bodies.Reply req result) told = tt
map_only P Q leads (bodies.Bytes req result) told = tt
map_only P Q leads (bodies.Report epoch replicas) told = tt
map_only P Q leads (bodies.Learned epoch handles) told = tt
map_only P Q leads (bodies.Behind epoch) told = tt

map_all : (P Q : ReqId → Refusal → Type 0) → ((req : ReqId) (refusal : Refusal) → P req refusal → Q req refusal) → (messages : List Message) → AllByRecursion (λ (m : Message). Only P m.body) messages → AllByRecursion (λ (m : Message). Only Q m.body) messages
map_all P Q leads [] all = tt
map_all P Q leads (m ∷ messages) all = (map_only P Q leads m.body all.0, map_all P Q leads messages all.1)

module _ (Q : ReqId → Refusal → Type 0) where
  master_only : (body : Body) → IsOfMaster body → Only Q body
  master_only (bodies.Done req result) of = absurd of
  master_only (bodies.About handle said) of = tt
  master_only (bodies.Push req bytes) of = tt
  master_only (bodies.MakeCopy old at new stamp) of = tt
  master_only (bodies.Epoch epoch end) of = tt
  master_only (bodies.Call req call) of = tt
  master_only (bodies.Reply req result) of = tt
  master_only (bodies.Bytes req result) of = tt
  master_only (bodies.Report epoch replicas) of = tt
  master_only (bodies.Learned epoch handles) of = tt
  master_only (bodies.Behind epoch) of = tt

  of_master : (messages : List Message) → AreOfMaster messages → AllByRecursion (λ (m : Message). Only Q m.body) messages
  of_master [] of = tt
  of_master (m ∷ messages) of = (master_only m.body of.0, of_master messages of.1)

  client_only : (body : Body) → IsOfClient body → Only Q body
  client_only (bodies.Done req result) of = absurd of
  client_only (bodies.About handle said) of = tt
  client_only (bodies.Push req bytes) of = tt
  client_only (bodies.MakeCopy old at new stamp) of = tt
  client_only (bodies.Epoch epoch end) of = tt
  client_only (bodies.Call req call) of = tt
  client_only (bodies.Reply req result) of = tt
  client_only (bodies.Bytes req result) of = tt
  client_only (bodies.Report epoch replicas) of = tt
  client_only (bodies.Learned epoch handles) of = tt
  client_only (bodies.Behind epoch) of = tt

  of_client : (messages : List Message) → AreOfClient messages → AllByRecursion (λ (m : Message). Only Q m.body) messages
  of_client [] of = tt
  of_client (m ∷ messages) of = (client_only m.body of.0, of_client messages of.1)

-- ---- a step

heard_is : (m n : Message) (a b : Moment) → at_server.Hears m a ≡ at_server.Hears n b → m ≡ n
heard_is m n a b is = cc

module _ {D : Type 0} (x : Setup D) (over : RefusedAreOver) (stay : OverStay) (unnumbered : OverAreNotNumbered) (never : RefusedAreNeverNumbered) (each : EachIsARunThrough x) (tells : TellsRefusals) (quiet : QuietTicks) where
  module _ (step : Step) (old new : History D) (well : IsWell x old) (still : IsWell x new) (one : StepsWithin x step old new) where
    stays : StaySent old.sent new.sent
    stays = step_stays x.seen x.failures x.armed step old new one.goes

    goes_on : (req : ReqId) → IsBarredSomewhere old req → IsBarredSomewhere new req
    goes_on req b = record { server = b.server; barred = barred_on x over stay unnumbered never each req step old new well one b.server b.barred }

    module _ (id : ℕ) (s after : Server) (found : slice_get old.nodes.servers id ≡ Some s) (servers : new.nodes.servers ≡ slice_set old.nodes.servers id after) where
      bars_here : (message : Message) (moment : Moment) → IsSent message old.sent → message.to ≡ nodes.Server id → after ≡ at_server.behind (at_server.Hears message moment) s → (req : ReqId) (refusal : Refusal) → TellsOwn s message moment req refusal → Bars new req refusal
      bars_here message moment was to is req refusal told other =
          let refused : IsRefusedAt (at_server.Hears message moment) s req = record { hears = told.hears; refusal = refusal; said = told.said; other = other } in
          let k = told.hears in
          let same = heard_is message (record { from = k.from; to = k.to; body = bodies.About k.handle (chunks.Edit req k.stamp k.op) }) moment k.moment k.is in record {
            server = id;
            barred = record {
              s = after;
              there = ap (λ xs. slice_get xs id) servers ∙ set_found old.nodes.servers id s after found;
              over = subst (IsOver req) (sym is) (over (at_server.Hears message moment) s req refused);
              asks = message;
              was_sent = (was.0, stays was.0 message was.1);
              to = to;
              handle = k.handle;
              stamp = k.stamp;
              op = k.op;
              body = ap (λ (m : Message). m.body) same;
            };
          }

      at_server_bars : (messages : List Message) → ServerGoes old.sent id s after messages → AllByRecursion (λ (m : Message). Only (Bars new) m.body) messages
      at_server_bars messages (Hears message moment was to is sends) =
          subst (AllByRecursion (λ (m : Message). Only (Bars new) m.body)) (sym sends) (map_all (TellsOwn s message moment) (Bars new) (bars_here message moment was to is) _ (tells s message moment))
      at_server_bars messages (Ticks moment is sends) = subst (AllByRecursion (λ (m : Message). Only (Bars new) m.body)) (sym sends) (map_all (λ req refusal. ⊥) (Bars new) (λ req refusal none. absurd none) _ (quiet s moment))
      at_server_bars messages (Beats is sends) = subst (AllByRecursion (λ (m : Message). Only (Bars new) m.body)) (sym sends) (tt, tt)
      at_server_bars messages (Restarts is sends) = subst (AllByRecursion (λ (m : Message). Only (Bars new) m.body)) (sym sends) tt
      at_server_bars messages (Loses handle is sends) = subst (AllByRecursion (λ (m : Message). Only (Bars new) m.body)) (sym sends) tt
      at_server_bars messages (Damages handle block is sends) = subst (AllByRecursion (λ (m : Message). Only (Bars new) m.body)) (sym sends) tt

    module _ (bar : AllBar old) where
      old_bars : AllSent (λ (m : Message). Only (Bars new) m.body) old.sent
      old_bars at m there = map_only (Bars old) (Bars new) (λ req refusal before other. goes_on req (before other)) m.body (bar at m there)

      by_kind : Kind x.seen x.failures x.armed step old new → AllBar new
      by_kind (OfServer id s after messages moment found goes met servers master posted) =
          posted_all (λ (m : Message). Only (Bars new) m.body) moment (nodes.Server id) messages old.sent new.sent posted old_bars (at_server_bars id s after found servers messages goes)
      by_kind (OfMaster place messages moment goes servers master posted) =
          posted_all (λ (m : Message). Only (Bars new) m.body) moment nodes.Master messages old.sent new.sent posted old_bars (of_master (Bars new) messages (master_says x old new place messages well still master goes))
      by_kind (Elsewhere by messages moment are servers master posted) = posted_all (λ (m : Message). Only (Bars new) m.body) moment by messages old.sent new.sent posted old_bars (of_client (Bars new) messages are)

      bar_on : AllBar new
      bar_on = by_kind (kind_of x.seen x.failures x.armed step old new one.goes (named x step old one.within well.types))

  -- ---- over runs

  all_bar : IsGiven x → (steps : List Step) (old : History D) (a : Account) (new : History D) (b : Account) → Runs x steps old a new b → IsWell x old → AllBar old → AllBar new
  all_bar given [] old a new b (is, same) well bar = subst AllBar (sym is) bar
  all_bar given (step ∷ steps) old a new b (mid, c, moves, rest) well bar =
      let still = step_well x given step old mid well moves.steps in
      all_bar given steps mid c new b rest still (bar_on step old mid well still moves.steps bar)

  first_bar : IsGiven x → (begun : History D) → Begins x.seen x.failures x.armed x.config x.clients x.disks begun → AllBar begun
  first_bar given begun begins = posted_all (λ (m : Message). Only (Bars begun) m.body) (record { 0 = 0 }) nodes.Master begins.turn.sent.items (none_sent x.config.servers x.clients) begun.sent (inl begins.sent)
      (none_of (λ (m : Message). Only (Bars begun) m.body) x.config.servers x.clients)
      (subst (AllByRecursion (λ (m : Message). Only (Bars begun) m.body)) (sym (begins_silent x.seen x.failures x.armed x.config x.clients x.disks begun given.new begins)) tt)

  reached_bar : (now : History D) (a : Account) → IsReached x now a → AllBar now
  reached_bar now a r = (let given = r.begins.given in all_bar given r.steps r.begun r.first now a r.runs (begins_well x given r.begun r.begins.begins) (first_bar given r.begun r.begins.begins))

  barred_where : (now : History D) (a : Account) (req : ReqId) → IsReached x now a → WasTold now.sent req → IsBarredSomewhere now req
  barred_where now a req r t = subst (Only (Bars now)) t.says (reached_bar now a r t.is_sent.0 t.message t.is_sent.1) t.other

  pub told_are_numbered_nowhere : ToldAreNumberedNowhere x
  told_are_numbered_nowhere now later a b steps req r t runs = (let bar = barred_where now a req r t in after_barred x over stay unnumbered never each req steps now a later b r runs bar.server bar.barred)

  pub told_stand_nowhere : ToldStandNowhere x
  told_stand_nowhere now later a b steps req r none t runs =
      let here = runs_nowhere x over stay unnumbered never each req r.steps r.begun r.first now a r.runs none (first_nowhere x over stay unnumbered never each req r.first r.begins.account) in
      runs_nowhere x over stay unnumbered never each req steps now a later b runs (told_are_numbered_nowhere now later a b steps req r t runs) here
