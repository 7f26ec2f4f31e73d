use Rattle.std.proofs.Common.{◌≡◌, ◌+◌, ◌≤◌, Some, length, min, sym, ap, subst, ◌∙◌, arith, true, rules}
use Rattle.std.specs.Prelude.{Ok, Err, cond, ◌&&◌}
use Rattle.gs_block.specs.Stored.{Stored, IsStored}
use Rattle.gs_block.specs.Images.{missing, touched, covers}
use Rattle.gs_block.specs.Inverses as inverses
use Rattle.gs_block.specs.Kept.{Outside}
use Rattle.gs_base.specs.declared.numbers.ClientId.{ClientId}
use Rattle.gs_replica.specs.declared.live.ReplicaInverse.{ReplicaInverse}
use Rattle.gs_replica.specs.declared.seal.Seal.{Seal}
use Rattle.gs_replica.specs.Held.{Held}
use Rattle.gs_replica.specs.Edits.{start_of, end_of, done_by}
use Rattle.gs_replica.specs.Edits as edits
use Rattle.gs_replica.specs.Seals.{Sealed, touch_seal}
use Rattle.std.specs.FinMap as fin
use Rattle.gs_replica.specs.First.{First, keep_first, done_before, fits}
use Rattle.gs_replica.specs.Inside.{HasSealed}
use Rattle.gs_replica.proofs.Firsts.{kept_over, has_kept, fits_kept, back_kept}
use Rattle.gs_replica.specs.View.{seen, state_of, Belongs}
use Rattle.gs_replica.proofs.Sealing.{state, once_judged, follows_ok, follows_err, undo_back, long_undone, missing_same, can, both, refuses}
use Rattle.gs_replica.proofs.seal.apply_sealed.Goals as goal

-- the first entries after a refusal
taken_back : (c : goal.After-drop-missing-inside-in-Err-1) → c.take_back.new.self ≡ c.args.seal.now.first
taken_back c =
    let client = c.args.req.client.0 in
    let before = c.done.result in
    c.take_back.ensures
    ∙ ap (λ f. cond c.in_ok-is_first.is_first (fin.remove f client) f) c.in_ok-is_first.ensures.ok
    ∙ back_kept c.args.seal.now.first client before c.in_ok-is_first.is_first c.in_ok-is_first.ensures.is_first

pub returns-in-Err-clause-edit : goal.returns-in-Err-clause-edit
returns-in-Err-clause-edit c =
    let old : Held = c.args.live.now in
    let seal : Seal = c.args.seal.now in
    let after : Seal = record { stamp = seal.stamp; count = seal.count; images = seal.images; first = c.take_back.new.self } in
    follows_err ReplicaInverse c.in-Err.refusal (edits.apply c.args.stamp c.args.number c.args.req c.args.op c.args.bytes.now old) (Some (touch_seal c.args.req c.args.op c.args.bytes.now old (seen old seal)))
    old c.take.new.self (state_of old seal) (state_of c.take.new.self after) (once_judged ReplicaInverse c.args.stamp c.args.number c.args.req c.args.op c.args.bytes.now (Err c.in-Err.refusal) old c.take.new.self c.in_ok-foresee.ensures.accepted c.in-Err.ensures.edit)
    (ap (λ (h : Held). state_of h after) c.in-Err.ensures.refused ∙ ap (λ (f : First). state_of old (let s : Seal = record { stamp = seal.stamp; count = seal.count; images = seal.images; first = f } in s)) (taken_back c))

pub returns-in-Err-clause-belongs : goal.returns-in-Err-clause-belongs
returns-in-Err-clause-belongs c =
    let seal : Seal = c.args.seal.now in
    subst (λ (h : Held). Belongs h (let s : Seal = record { stamp = seal.stamp; count = seal.count; images = seal.images; first = c.take_back.new.self } in s)) (sym c.in-Err.ensures.refused)
    (subst (λ (f : First). Belongs c.args.live.now (let s : Seal = record { stamp = seal.stamp; count = seal.count; images = seal.images; first = f } in s)) (sym (taken_back c)) c.requires.belongs)

-- the first entries after an edit
kept : (c : goal.After-keep-in-Ok) → c.keep.new.self ≡ keep_first c.args.req.client.0 (fin.get c.args.live.now.done c.args.req.client.0) c.args.seal.now.first
kept c = c.in_ok-is_first.ensures.ok ∙ ap (λ b. keep_first c.args.req.client.0 b c.args.seal.now.first) c.done.ensures

requests : (c : goal.After-keep-in-Ok) → done_before c.keep.new.self c.take.new.self.done ≡ done_before c.args.seal.now.first c.args.live.now.done
requests c =
    let client = c.args.req.client.0 in
    let old : Held = c.args.live.now in
    let first : First = c.args.seal.now.first in
    ap (λ f. done_before f c.take.new.self.done) (kept c)
    ∙ ap (done_before (keep_first client (fin.get old.done client) first)) c.in-Ok.ensures.done
    ∙ kept_over first old.done client (done_by c.args.req.number c.args.op old.chunk)

pub returns-in-Ok-clause-edit : goal.returns-in-Ok-clause-edit
returns-in-Ok-clause-edit c =
    let op = c.args.op in
    let bytes = c.args.bytes.now in
    let old : Held = c.args.live.now in
    let new : Held = c.take.new.self in
    let seal : Seal = c.args.seal.now in
    let start = start_of op old.chunk in
    let end = end_of op bytes old.chunk in
    let first = c.requires.belongs.first in
    let long = seal.images.long in
    let same = c.blocks-2.ensures in
    let within = first.within in
    let stored : IsStored old.chunk = subst IsStored same c.span-start.ensures.stored in
    let bytes_fit = stored.bytes_fit in
    let chunk_fits = stored.chunk_fits in
    let low : start ≤ length old.chunk.bytes = subst (λ (s : Stored). start_of op s ≤ length s.bytes) same c.span-start.ensures.within in
    let order : start ≤ end = subst (λ (s : Stored). start_of op s ≤ end_of op bytes s) same c.span-start.ensures.order in
    let limit : min c.span-start.result.1 long ≡ min end long = c.span-start.ensures.end long (omega arith) ∙ ap (λ (s : Stored). min (end_of op bytes s) long) same in
    let miss : c.in_ok-missing.missing ≡ missing seal.images old.chunk start end =
    c.in_ok-missing.ensures.missing
    ∙ ap (λ (s : Stored). missing seal.images s c.span-start.result.0 c.span-start.result.1) c.blocks-3.ensures
    ∙ ap (λ n. missing seal.images old.chunk n c.span-start.result.1) (c.span-start.ensures.start ∙ ap (start_of op) same)
    ∙ missing_same seal.images old.chunk start c.span-start.result.1 end limit in
    let out : Outside start end old.chunk new.chunk = c.in-Ok.ensures.outside in
    let after : Seal = record { stamp = seal.stamp; count = seal.count; images = c.keep-in-Ok.new.self; first = c.keep.new.self } in
    let t = touch_seal c.args.req op bytes old (seen old seal) in
    let is : seen new after ≡ t = λ k. record {
      undone = c.keep-in-Ok.ensures.undone old.chunk new.chunk start end first miss out k;
      count = seal.count;
      done = requests c k;
      stamp = seal.stamp;
      touched = c.keep-in-Ok.ensures.touched old.chunk start end first miss k;
      first = kept c k;
    } in
    follows_ok ReplicaInverse c.in-Ok.inverse (edits.apply c.args.stamp c.args.number c.args.req op bytes old) (Some t) old new (state_of old seal) (state_of new after) (once_judged ReplicaInverse c.args.stamp c.args.number c.args.req c.args.op c.args.bytes.now (Ok c.in-Ok.inverse) c.args.live.now c.take.new.self c.in_ok-foresee.ensures.accepted c.in-Ok.ensures.edit)
    (ap (λ (x : Sealed). state new (Some x)) is)

pub returns-in-Ok-clause-undo : goal.returns-in-Ok-clause-undo
returns-in-Ok-clause-undo c =
    let op = c.args.op in
    let bytes = c.args.bytes.now in
    let old : Held = c.args.live.now in
    let new : Held = c.take.new.self in
    let seal : Seal = c.args.seal.now in
    let start = start_of op old.chunk in
    let end = end_of op bytes old.chunk in
    let first = c.requires.belongs.first in
    let later = c.requires.belongs.later in
    let long = seal.images.long in
    let same = c.blocks-2.ensures in
    let within = first.within in
    let stored : IsStored old.chunk = subst IsStored same c.span-start.ensures.stored in
    let bytes_fit = stored.bytes_fit in
    let chunk_fits = stored.chunk_fits in
    let low : start ≤ length old.chunk.bytes = subst (λ (s : Stored). start_of op s ≤ length s.bytes) same c.span-start.ensures.within in
    let order : start ≤ end = subst (λ (s : Stored). start_of op s ≤ end_of op bytes s) same c.span-start.ensures.order in
    let limit : min c.span-start.result.1 long ≡ min end long = c.span-start.ensures.end long (omega arith) ∙ ap (λ (s : Stored). min (end_of op bytes s) long) same in
    let miss : c.in_ok-missing.missing ≡ missing seal.images old.chunk start end =
    c.in_ok-missing.ensures.missing
    ∙ ap (λ (s : Stored). missing seal.images s c.span-start.result.0 c.span-start.result.1) c.blocks-3.ensures
    ∙ ap (λ n. missing seal.images old.chunk n c.span-start.result.1) (c.span-start.ensures.start ∙ ap (start_of op) same)
    ∙ missing_same seal.images old.chunk start c.span-start.result.1 end limit in
    let out : Outside start end old.chunk new.chunk = c.in-Ok.ensures.outside in
    let after : Seal = record { stamp = seal.stamp; count = seal.count; images = c.keep-in-Ok.new.self; first = c.keep.new.self } in
    let inverse : ReplicaInverse = c.in-Ok.inverse in
    let span : inverse.blocks ≡ inverses.inverse_of old.chunk start end = c.in-Ok.ensures.span in
    let back : inverses.undo (inverses.inverse_of old.chunk start end) new.chunk ≡ Ok old.chunk = ap (λ i. inverses.undo i new.chunk) (sym span) ∙ c.in-Ok.ensures.back in
    let count : new.count ≡ old.count + 1 = c.in-Ok.ensures.count in
    let covered : covers (length (seen new after).undone.bytes) (touched after.images) inverse.blocks new.chunk ≡ true =
    ap (λ n. covers n (touched after.images) inverse.blocks new.chunk) (long_undone after.images new.chunk)
    ∙ ap (λ i. covers after.images.long (touched after.images) i new.chunk) span
    ∙ c.keep-in-Ok.ensures.covers old.chunk new.chunk start end first miss out low order back in
    let client = c.args.req.client.0 in
    let fit : fits (fin.get after.first inverse.client.0) inverse.before ≡ true =
    ap (λ (f : First). fits (fin.get f inverse.client.0) inverse.before) (kept c)
    ∙ ap (λ (x : ClientId). fits (fin.get (keep_first client (fin.get old.done client) seal.first) x.0) inverse.before) c.in-Ok.ensures.client
    ∙ ap (fits (fin.get (keep_first client (fin.get old.done client) seal.first) client)) c.in-Ok.ensures.before
    ∙ fits_kept seal.first old.done client c.requires.belongs.has in
    undo_back inverse old new (seen new after)
    (can new.count seal.count (fits (fin.get after.first inverse.client.0) inverse.before && covers (length (seen new after).undone.bytes) (touched after.images) inverse.blocks new.chunk) (λ (e : new.count ≡ seal.count). omega arith)
    (both (fits (fin.get after.first inverse.client.0) inverse.before) (covers (length (seen new after).undone.bytes) (touched after.images) inverse.blocks new.chunk) fit covered))
    c.in-Ok.ensures.undo

pub returns-in-Ok-clause-belongs : goal.returns-in-Ok-clause-belongs
returns-in-Ok-clause-belongs c =
    let op = c.args.op in
    let bytes = c.args.bytes.now in
    let old : Held = c.args.live.now in
    let new : Held = c.take.new.self in
    let seal : Seal = c.args.seal.now in
    let start = start_of op old.chunk in
    let end = end_of op bytes old.chunk in
    let first = c.requires.belongs.first in
    let long = seal.images.long in
    let same = c.blocks-2.ensures in
    let within = first.within in
    let stored : IsStored old.chunk = subst IsStored same c.span-start.ensures.stored in
    let bytes_fit = stored.bytes_fit in
    let chunk_fits = stored.chunk_fits in
    let low : start ≤ length old.chunk.bytes = subst (λ (s : Stored). start_of op s ≤ length s.bytes) same c.span-start.ensures.within in
    let order : start ≤ end = subst (λ (s : Stored). start_of op s ≤ end_of op bytes s) same c.span-start.ensures.order in
    let limit : min c.span-start.result.1 long ≡ min end long = c.span-start.ensures.end long (omega arith) ∙ ap (λ (s : Stored). min (end_of op bytes s) long) same in
    let miss : c.in_ok-missing.missing ≡ missing seal.images old.chunk start end =
    c.in_ok-missing.ensures.missing
    ∙ ap (λ (s : Stored). missing seal.images s c.span-start.result.0 c.span-start.result.1) c.blocks-3.ensures
    ∙ ap (λ n. missing seal.images old.chunk n c.span-start.result.1) (c.span-start.ensures.start ∙ ap (start_of op) same)
    ∙ missing_same seal.images old.chunk start c.span-start.result.1 end limit in
    let out : Outside start end old.chunk new.chunk = c.in-Ok.ensures.outside in
    let client = c.args.req.client.0 in
    let later = c.requires.belongs.later in
    let count : new.count ≡ old.count + 1 = c.in-Ok.ensures.count in
    record {
      first = c.keep-in-Ok.ensures.first old.chunk new.chunk start end first miss out;
      later = omega arith;
      has = subst (λ (f : First). HasSealed f new.done) (sym (kept c)) (subst (HasSealed (keep_first client (fin.get old.done client) seal.first)) (sym c.in-Ok.ensures.done) (has_kept seal.first old.done client (done_by c.args.req.number op old.chunk) c.requires.belongs.has));
    }

pub returns-in_err-foresee-clause-judged : goal.returns-in_err-foresee-clause-judged
returns-in_err-foresee-clause-judged c = refuses _ _ _ _ c.in_err-foresee.ensures.told (search rules)
