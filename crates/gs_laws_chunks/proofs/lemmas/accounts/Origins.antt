-- With what a copy was born: with the list that is told to be copied, of the machine of the other chunk; and that is what the account has.
use Rattle.std.proofs.Common.{◌≡◌, ◌∙◌, ℕ, List, [], Option, Some, None, refl, sym, ap, subst, inl, inr}
use Rattle.std.specs.List.{AllByRecursion}
use Rattle.gs_base.specs.declared.config.Config.{Config}
use Rattle.gs_base.specs.declared.numbers.ReqId.{ReqId}
use Rattle.gs_base.specs.declared.numbers.Stamp.{Stamp}
use Rattle.gs_laws_chunk.specs.machine.Machine.{ChunkWorld}
use Rattle.gs_laws_chunks.proofs.lemmas.accounts.Copies.{all_then}
use Rattle.gs_laws_chunks.specs.accounts.Agreeing.{CopiesNone, CopyShows, IsCopyShown}
use Rattle.gs_laws_parts.specs.master.Families.{IsCopiedTo}
use Rattle.gs_laws_lift.proofs.lemmas.stores.Copying.{IsToldToCopy, copied_beside, copied_is_told}
use Rattle.gs_laws_lift.proofs.lemmas.stores.Serving.{by_server}
use Rattle.gs_laws_lift.specs.stores.Accounts.{Lists, edits_copied}
use Rattle.gs_laws_lift.specs.stores.Copying.{MakesOther, copied_from}
use Rattle.gs_laws_lift.specs.stores.Going.{AllSent}
use Rattle.gs_laws_lift.specs.stores.Joint.{AtMaster, AtServer, Elsewhere, GoesBy}
use Rattle.gs_laws_lift.specs.stores.Living.{CopiesTo, IsCopy}
use Rattle.gs_laws_lift.specs.stores.Saying.{AreOfClient, IsOfClient}
use Rattle.gs_laws_lift.specs.stores.Showing.{IsAlive, Life, setting}
use Rattle.gs_laws_lift.specs.stores.Unborn.{IsUnborn}
use Rattle.gs_laws_parts.proofs.lemmas.server.Stamps.{stamp_number}
use Rattle.gs_laws_parts.specs.server.Answering.{IsByServer}
use Rattle.gs_msg.specs.declared.body.Body.{Body}
use Rattle.gs_msg.specs.declared.body.Body.TheVariants as bodies
use Rattle.gs_msg.specs.declared.message.Message.{Message}
use Rattle.gs_msg.specs.declared.node.NodeId.{NodeId}
use Rattle.gs_msg.specs.declared.node.NodeId.TheVariants as nodes
use Rattle.gs_world.specs.Histories.{History}
use Rattle.gs_world.specs.Runs.{Step}

-- ---- who tells of no copy

pub by_servers_others : (chunk : ℕ) (messages : List Message) → AllByRecursion (λ (m : Message). IsByServer m.body) messages → AllByRecursion (λ (m : Message). MakesOther chunk m.body) messages
by_servers_others chunk = all_then IsByServer (λ to body. MakesOther chunk body) by_body
  where
    by_body : (to : NodeId) (body : Body) → IsByServer body → MakesOther chunk body
    by_body to (bodies.MakeCopy old at new stamp) is = absurd is
    by_body to body is = tt

pub of_clients_others : (chunk : ℕ) (messages : List Message) → AreOfClient messages → AllByRecursion (λ (m : Message). MakesOther chunk m.body) messages
of_clients_others chunk = all_then IsOfClient (λ to body. MakesOther chunk body) by_body
  where
    by_body : (to : NodeId) (body : Body) → IsOfClient body → MakesOther chunk body
    by_body to (bodies.MakeCopy old at new stamp) is = absurd is
    by_body to body is = tt

-- a chunk that lives is the copy that it was
pub copied_same : {D : Type 0} (seen : D → List ℕ) (config : Config) (bytes : ReqId → List ℕ) (born chunk : ℕ) (step : Step) (old new : History D) (w v : ChunkWorld) → GoesBy seen config bytes born chunk step old new w v → copied_from new.sent chunk ≡ copied_from old.sent chunk
copied_same seen config bytes born chunk step old new w v (AtServer by) =
    copied_beside chunk by.moment (nodes.Server by.id) by.messages old.sent new.sent by.posted
    (by_servers_others chunk by.messages (by_server _ (setting config bytes born) chunk by.steps.world by.id _ by.messages by.steps.answers))
copied_same seen config bytes born chunk step old new w v (AtMaster by) = copied_beside chunk by.moment nodes.Master by.messages old.sent new.sent by.posted by.others
copied_same seen config bytes born chunk step old new w v (Elsewhere still servers master by messages moment are posted) = copied_beside chunk moment by messages old.sent new.sent posted (of_clients_others chunk messages are)

-- ---- the chunks of a store

module _ {D : Type 0} (seen : D → List ℕ) (config : Config) (bytes : ReqId → List ℕ) (h : History D) (life : (chunk : ℕ) → Life seen config bytes chunk h) (copies : AllSent (λ (m : Message). CopiesTo seen config bytes h life m.to m.body) h.sent) where
  -- of a chunk that isn't born no copy is told
  pub unborn_copies_none : (chunk : ℕ) (unborn : IsUnborn seen chunk h) → life chunk ≡ inl unborn → AllSent (λ (m : Message). CopiesNone chunk m.to m.body) h.sent
  unborn_copies_none chunk unborn is id message stands = by_body message.to message.body (copies id message stands)
    where
      by_life : (other me : ℕ) (at stamp : Stamp) (x : Life seen config bytes chunk h) (y : Life seen config bytes other h) → x ≡ inl unborn → IsCopy seen config bytes chunk other h x y me at stamp → ⊥
      by_life other me at stamp (inl u) (inl v) same k = k
      by_life other me at stamp (inl u) (inr v) same k = k
      by_life other me at stamp (inr u) y same k = absurd (cc)

      by_body : (to : NodeId) (body : Body) → CopiesTo seen config bytes h life to body → CopiesNone chunk to body
      by_body (nodes.Server me) (bodies.MakeCopy old at new stamp) k = λ same.
          by_life new me at stamp (life chunk) (life new) is (subst (λ c. IsCopy seen config bytes c new h (life c) (life new) me at stamp) same k)
      by_body (nodes.Server me) body k = tt
      by_body to body k = tt

  -- what is told of copies of a chunk that lives is shown
  abbrev pub CopiedAt : Lists → (chunk : ℕ) → Life seen config bytes chunk h → Type 0
  CopiedAt list chunk (inl unborn) = Unit {0}
  CopiedAt list chunk (inr alive) = AllSent (λ (m : Message). CopyShows chunk (list chunk) alive.world m.to m.body) h.sent

  -- Where that is so of each chunk, one that lives was born with what the account has of what it is a copy of, or with nothing.
  pub origin_shows : (list : Lists) → ((chunk : ℕ) → CopiedAt list chunk (life chunk)) → (chunk : ℕ) (alive : IsAlive seen config bytes chunk h) → life chunk ≡ inr alive → (copied_from h.sent chunk ≡ None → alive.reached.0.origin ≡ [])
      → edits_copied list (copied_from h.sent chunk) ≡ alive.reached.0.origin
  origin_shows list copied chunk alive is bare = by_source (copied_from h.sent chunk) refl
    where
      -- the list that was copied is that of the account
      same_list : (old me : ℕ) (w : ChunkWorld) (at stamp : Stamp) → IsCopiedTo w alive.world alive.reached.0 me at stamp → IsCopyShown (list old) w at → list old at ≡ alive.reached.0.origin
      same_list old me w at stamp k s = s.same ∙ ap w.known.list (stamp_number s.t k.before (sym s.is ∙ k.from)) ∙ k.fixed.list ∙ sym k.origin

      shown_told : (old : ℕ) (at : Stamp) (told : IsToldToCopy h.sent old chunk at) (w : ChunkWorld) → CopyShows old (list old) w told.message.to told.message.body → IsCopyShown (list old) w at
      shown_told old at told w shown = subst (λ (to : NodeId). CopyShows old (list old) w to (bodies.MakeCopy old at chunk told.stamp)) told.to (subst (λ (body : Body). CopyShows old (list old) w told.message.to body) told.is shown) refl

      copy_told : (old : ℕ) (at : Stamp) (told : IsToldToCopy h.sent old chunk at) → CopiesTo seen config bytes h life told.message.to told.message.body → IsCopy seen config bytes old chunk h (life old) (life chunk) told.me at told.stamp
      copy_told old at told k = subst (λ (to : NodeId). CopiesTo seen config bytes h life to (bodies.MakeCopy old at chunk told.stamp)) told.to (subst (λ (body : Body). CopiesTo seen config bytes h life told.message.to body) told.is k)

      by_life : (old : ℕ) (at : Stamp) (told : IsToldToCopy h.sent old chunk at) (x : Life seen config bytes old h) → CopiedAt list old x → IsCopy seen config bytes old chunk h x (inr alive) told.me at told.stamp → list old at ≡ alive.reached.0.origin
      by_life old at told (inl unborn) shown k = absurd k
      by_life old at told (inr o) shown k = same_list old told.me o.world at told.stamp k
          (shown_told old at told o.world (shown (record { sender = nodes.Master; place = told.there.0 }) told.message told.there.1))

      by_source : (o : Option (ℕ × Stamp)) → copied_from h.sent chunk ≡ o → edits_copied list o ≡ alive.reached.0.origin
      by_source None none = sym (bare none)
      by_source (Some source) some =
          let told : IsToldToCopy h.sent source.0 chunk source.1 = copied_is_told h.sent source.0 chunk source.1 some in
          by_life source.0 source.1 told (life source.0) (copied source.0)
          (subst (λ (y : Life seen config bytes chunk h). IsCopy seen config bytes source.0 chunk h (life source.0) y told.me source.1 told.stamp) is
          (copy_told source.0 source.1 told (copies (record { sender = nodes.Master; place = told.there.0 }) told.message told.there.1)))
