-- What is looked up behind a prepare, and behind its rollback, while what was looked up there stands still.
use Rattle.std.specs.Prelude.{◌≡◌, Contains, List, None, Ok, Result, Some, ℕ}
use Rattle.std.specs.FinMap as fin
use Rattle.gs_base.specs.declared.numbers.ClientId.{ClientId}
use Rattle.gs_base.specs.declared.numbers.ReqId.{ReqId}
use Rattle.gs_base.specs.declared.refusal.Refusal.{Refusal}
use Rattle.gs_lease.specs.declared.view.View.{View}
use Rattle.gs_master.specs.Masters.{MasterOf}
use Rattle.gs_master_spec.specs.Calls.{found_chunk, listing}
use Rattle.gs_master_spec.specs.Handling.{New, numbered}
use Rattle.gs_master_spec.specs.State.{last_reply}
use Rattle.gs_msg.specs.declared.answer.Answer.{Answer}
use Rattle.gs_msg.specs.declared.body.Body.TheVariants as bodies
use Rattle.gs_msg.specs.declared.body.Given.{Given}
use Rattle.gs_msg.specs.declared.call.Call.TheVariants as calls
use Rattle.gs_msg.specs.declared.chunk.Asked.{Asked}
use Rattle.gs_msg.specs.declared.event.Event.{Event}
use Rattle.gs_msg.specs.declared.event.Happening.TheVariants as happenings
use Rattle.gs_msg.specs.declared.message.Message.{Message}
use Rattle.gs_msg.specs.declared.message.MsgId.{MsgId}
use Rattle.gs_msg.specs.declared.node.NodeId.TheVariants as nodes
use Rattle.gs_nodes.specs.declared.place.MasterPlace.TheVariants.{Standing}
use Rattle.gs_path.specs.Path.{Path}
use Rattle.gs_world.specs.Histories.{Happens, History, Upshot}
use Rattle.gs_world.specs.Runs.{Step}
use Rattle.gs_world.specs.Sent.{message_of}
use Rattle.gs_laws_chunks.specs.accounts.Accounts.{Account, settled_edits, text_of, view_at}
use Rattle.gs_laws_chunks.specs.accounts.Back.{HasRolledBack}
use Rattle.gs_laws_chunks.specs.accounts.Reading.{GivesBytes, IsFetch, IsLookedUp, given_of, sent_at}
use Rattle.gs_laws_chunks.specs.accounts.Running.{IsReached, Runs, Setup}

-- ---- lists

-- A message comes to the master by which a client calls to list a path. The call is new to it: it keeps no reply to this one, or to a later one of the client. And it answers so.
pub record AnswersList {D : Type 0} (now : History D) (event : Event) (outcome : Upshot) (p : Path) (answer : Answer) : Type 0 where
  pub id : MsgId
  pub message : Message
  pub client : ClientId
  pub req : ReqId
  pub comes : event.happening ≡ happenings.Deliver id
  pub was : message_of now.sent id ≡ Some message
  pub to : message.to ≡ nodes.Master
  pub from : message.from ≡ nodes.Client client
  pub asks : message.body ≡ bodies.Call req (calls.List p)
  pub new : (m : MasterOf D) → now.nodes.master ≡ Standing m → numbered (last_reply m.state req.client) req.number ≡ New
  pub reply : Message
  pub sent : Contains (sent_at outcome) reply
  pub says : reply.body ≡ bodies.Reply req (Ok answer)

module _ {D : Type 0} (x : Setup D) where
  -- So it is at some event behind a world, in which the names are still those of that world.
  pub record ListsStill (h : History D) (a : Account) (p : Path) (answer : Answer) : Type 0 where
    pub steps : List Step
    pub now : History D
    pub b : Account
    pub runs : Runs x steps h a now b
    pub still : b.durable.names ≡ a.durable.names
    pub event : Event
    pub said : Result (Unit {0}) Refusal
    pub next : History D
    pub happens : Happens x.seen x.failures x.armed event now said next
    pub answers : AnswersList now event happens.outcome p answer

  -- Then the list is that of the names there;
  abbrev pub ListsAreOfNames : Type 0
  ListsAreOfNames = (h : History D) (a : Account) (p : Path) (answer : Answer) → IsReached x h a → ListsStill h a p answer → listing (fin.entries a.durable.names.tree) p (fin.get a.durable.names.tree p) ≡ Ok answer

  -- and behind a rollback it is what it was behind the prepare.
  abbrev pub ListsGoBack : Type 0
  ListsGoBack = (prepared now back : History D) (before after last : Account) (p : Path) (had has : Answer) → HasRolledBack x prepared before now after back last → ListsStill prepared before p had → ListsStill back last p has → has ≡ had

  -- ---- reads

  -- A chunk stands at a place of a file in a world, and this is the view by which a look-up of it would be answered there. At some event behind that world, in which it is still the chunk's settled view, a member of it
  -- is asked as that look-up tells, and gives this.
  pub record ReadsStill (h : History D) (a : Account) (p : Path) (index : ℕ) (asked : Asked) (given : Given) : Type 0 where
    pub chunk : ℕ
    pub found : found_chunk (fin.get a.durable.names.tree p) index ≡ Ok chunk
    pub view : View
    pub epoch : ℕ
    pub looked : IsLookedUp a chunk view epoch
    pub steps : List Step
    pub now : History D
    pub b : Account
    pub runs : Runs x steps h a now b
    pub still : view_at b chunk ≡ Some view
    pub event : Event
    pub said : Result (Unit {0}) Refusal
    pub next : History D
    pub happens : Happens x.seen x.failures x.armed event now said next
    pub req : ReqId
    pub fetch : IsFetch now.sent event chunk view epoch req asked
    pub gives : GivesBytes (sent_at happens.outcome) req given

  -- Where nobody leads the view, that is the part that was asked for of the text that was settled there.
  abbrev pub ReadsAreOfSettled : Type 0
  ReadsAreOfSettled = (h : History D) (a : Account) (p : Path) (index : ℕ) (asked : Asked) (given : Given) → IsReached x h a → (r : ReadsStill h a p index asked given) → r.view.term ≡ None → given ≡ given_of x.config.block (text_of x.config.chunk (settled_edits a r.chunk)) asked

  -- Nobody leads a view right behind a prepare, or right behind its rollback. So what is read behind the rollback is what was read behind the prepare.
  abbrev pub ReadsGoBack : Type 0
  ReadsGoBack = (prepared now back : History D) (before after last : Account) (p : Path) (index : ℕ) (asked : Asked) (had has : Given) → HasRolledBack x prepared before now after back last →
      ReadsStill prepared before p index asked had → ReadsStill back last p index asked has → has ≡ had
