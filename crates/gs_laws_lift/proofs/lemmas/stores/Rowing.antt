-- The rows of a chunk where the master does nothing, and where it is started again first.
use Rattle.std.proofs.Common.{◌≡◌, ◌∙◌, ◌<◌, ◌⊎◌, ◌&&◌, ℕ, Bool, true, false, List, [], ◌∷◌, refl, sym, ap, subst, inl, inr, arith}
use Rattle.std.specs.Prelude.{is_some}
use Rattle.std.proofs.lemmas.Bool.{false≢true}
use Rattle.gs_laws_chunk.specs.machine.Laws.{IsReached}
use Rattle.gs_laws_chunk.specs.machine.Machine.{ChunkWorld}
use Rattle.gs_laws_chunk.proofs.lemmas.machine.Facts.{reached_world}
use Rattle.gs_laws_parts.specs.master.Laws.{StaysKnownSo}
use Rattle.gs_laws_parts.specs.master.Rows.{AreCopiedSince, CopiesSince, RowsGo}
use Rattle.gs_msg.specs.declared.body.Body.{Body}
use Rattle.gs_msg.specs.declared.body.Body.TheVariants as bodies
use Rattle.gs_msg.specs.declared.message.Message.{Message}
use Rattle.gs_laws_moves.specs.moves.Epochs.{Stays, prepares}
use Rattle.gs_master_record.specs.declared.checkpoint.Phase.{Phase}
use Rattle.gs_master_record.specs.declared.checkpoint.Phase.TheVariants.{Ordinary, Rolling, Upgrade}
use Rattle.gs_master_spec.specs.Durable.{Durable, is_ordinary, is_upgrade}

-- an epoch that goes on isn't prepared
none_prepared : (d : Durable) → prepares d d ≡ true → ⊥
none_prepared d is = by_phase d.phase is
  where
    by_phase : (p : Phase) → (is_ordinary p && is_upgrade p) ≡ true → ⊥
    by_phase Ordinary is = absurd (false≢true is)
    by_phase Upgrade is = absurd (false≢true is)
    by_phase Rolling is = absurd (false≢true is)

-- nothing happens
pub rows_still : (chunk : ℕ) (d e : Durable) (w : ChunkWorld) → IsReached w → e ≡ d → RowsGo chunk d e w w
rows_still chunk d e w reached same = subst (λ (x : Durable). RowsGo chunk d x w w) (sym same) (record {
  epochs = Stays refl refl;
  appears = λ y none there. absurd (false≢true (sym (ap is_some none) ∙ ap is_some there));
  first = λ first. first;
  fades = λ gone later. absurd (omega arith);
  back = λ later. absurd (none later);
  given = λ later. absurd (none later);
  returned = λ later. absurd (none later);
  listed = λ later. absurd (none later);
  unprepared = λ none epoch before within prepared. absurd (omega arith);
  prepared = λ is. absurd (none_prepared d is);
})
  where
    none : w.known.top < w.known.view → ⊥
    none later = let within = ((reached_world w reached).known).viewtop in omega arith

-- it is started again, and then it goes on
pub rows_readied : (chunk : ℕ) (d e : Durable) (w c v : ChunkWorld) → StaysKnownSo w c → c.entry.epoch ≡ w.entry.epoch → RowsGo chunk d e c v → RowsGo chunk d e w v
rows_readied chunk d e w c v k epoch rows = record {
  epochs = rows.epochs;
  appears = λ y none there. (let up = rows.appears y none there in let view = k.view in omega arith);
  first = λ first. rows.first (λ known none. k.view ∙ first (k.came known) none ∙ sym k.born);
  fades = λ gone later. rows.fades gone (let view = k.view in omega arith);
  back = λ later. (let b = rows.back (above later) in (b.0, b.1 ∙ k.current, by_top b.2));
  given = λ later. rows.given (above later);
  returned = λ later. rows.returned (above later);
  listed = λ later. rows.listed (above later);
  unprepared = λ none x before within prepared. rows.unprepared none x (let same = epoch in omega arith) within prepared;
  prepared = λ is was. (let p = rows.prepared is was in (p.0, k.came p.1, p.2 ∙ k.view, p.3 ∙ k.view));
}
  where
    above : w.known.top < v.known.view → c.known.top < v.known.view
    above later = let top = k.top in omega arith

    by_top : (c.known.view ≡ c.known.top) ⊎ (v.known.stood c.known.top ≡ false) → (w.known.view ≡ w.known.top) ⊎ (v.known.stood w.known.top ≡ false)
    by_top (inl same) = inl (sym k.view ∙ same ∙ k.top)
    by_top (inr none) = inr (ap v.known.stood (sym k.top) ∙ none)

pub copies_readied : (chunk : ℕ) (d : Durable) (low : ℕ) (now before : Bool) (v : ChunkWorld) → (now ≡ true → before ≡ true) → (ms : List Message) → AreCopiedSince chunk d low now v ms → AreCopiedSince chunk d low before v ms
copies_readied chunk d low now before v came [] all = tt
copies_readied chunk d low now before v came (m ∷ ms) all = (by_body m.body all.0, copies_readied chunk d low now before v came ms all.1)
  where
    by_body : (body : Body) → CopiesSince chunk d low now v body → CopiesSince chunk d low before v body
    by_body (bodies.MakeCopy old at new stamp) k = λ same. (let c = k same in record { t = c.t; known = came c.known; is = c.is; since = c.since; within = c.within; free = c.free; stood = c.stood; late = c.late; listed = c.listed })
    by_body body k = tt
