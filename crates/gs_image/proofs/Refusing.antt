-- Bytes that are refused are no image.
use Rattle.std.proofs.Common.{◌≡◌, ◌<◌, ◌^◌, ◌++◌, ◌∷◌, [], ℕ, List, length, take, drop, refl, sym, ap, subst, ◌∙◌, arith, append_assoc, length-append, Result, Ok, Err, Bor, inl, inr}
use Rattle.std.specs.Prelude.{◌⊎◌, IfErr}
use Rattle.std.specs.Global.{Vec}
use Rattle.std.specs.List.{flat_map}
use Rattle.std.proofs.lemmas.List.{take_all}
use Rattle.sha2.specs.Sha256.{sha256}
use Rattle.sha2.proofs.Facts256.{length-sha256}
use Rattle.gs_image.specs.Images.{AreShort, body, front, part_written, written}
use Rattle.gs_image.specs.Refused.{EndsInDigest, EndsInPart, HasBytesBehind, HasOtherDigest, HasWrongEnd, HasWrongPart, IsNoImage, IsOtherDigest, Reads, pointed}
use Rattle.gs_image.specs.Promises.{ImagesTellParts, RefusedBytesAreNoImage, WhatWasWrittenIsRead}
use Rattle.gs_image.specs.declared.fault.ImageFault.{ImageFault}
use Rattle.gs_image.specs.declared.fault.ImageFault.TheVariants as fault
use Rattle.gs_image.proofs.Parts.{bodies_same, digest_told, front_same, goes_on, length_told, part_long, part_told}

-- a written part isn't wrong
not_ended : (part rest : List ℕ) → length part < 2 ^ 64 → EndsInPart (part_written part ++ rest) → ⊥
not_ended part rest short ends = omega (arith, ends, part_long part rest, length_told part rest short)

not_other : (part rest : List ℕ) → length part < 2 ^ 64 → HasOtherDigest (part_written part ++ rest) → ⊥
not_other part rest short other = other.1 (digest_told part rest short ∙ ap sha256 (sym (part_told part rest short)))

first_wrong : (Wrong : List ℕ → Type 0) → ((part rest : List ℕ) → length part < 2 ^ 64 → Wrong (part_written part ++ rest) → ⊥)
    → (more : List (List ℕ)) (rest y : List ℕ) → 0 < length more → AreShort more → rest ≡ flat_map part_written more ++ y → Wrong rest → ⊥
first_wrong Wrong right [] rest y some short is wrong = omega (arith, some)
first_wrong Wrong right (p ∷ more) rest y some short is wrong =
    right p (flat_map part_written more ++ y) short.0 (subst Wrong (is ∙ append_assoc (part_written p) (flat_map part_written more) y) wrong)

wrong_part : (Wrong : List ℕ → Type 0) → ((part rest : List ℕ) → length part < 2 ^ 64 → Wrong (part_written part ++ rest) → ⊥)
    → (i : ℕ) (bytes : List ℕ) → HasWrongPart i Wrong bytes → IsNoImage bytes
wrong_part Wrong right i bytes h qs are is =
    let f = flat_map part_written in
    let end = sha256 (body qs) in
    let w = h.wrong in
    let (many, behind) = front_same h.count (length qs) h.rest (f qs ++ end) h.fits are.0 (sym h.stand ∙ is ∙ append_assoc (front (length qs)) (f qs) end) in
    let few : length w.parts < length qs = omega (arith, w.before, w.within, many) in
    let g = goes_on w.parts qs w.rest end w.short are.1 (omega (arith, few)) (sym w.stand ∙ behind) in
    first_wrong Wrong right g.more w.rest end (omega (arith, few, ap length g.is, length-append w.parts g.more)) g.short g.behind w.wrong

wrong_end : (Wrong : List ℕ → List ℕ → Type 0) → ((before : List ℕ) → Wrong before (sha256 before) → ⊥) → (bytes : List ℕ) → HasWrongEnd Wrong bytes → IsNoImage bytes
wrong_end Wrong right bytes h qs are is =
    let (same, rest) = bodies_same h.parts qs h.rest (sha256 (body qs)) h.are are (sym h.stand ∙ is) in
    right (body h.parts) (subst (Wrong (body h.parts)) (rest ∙ ap (λ (l : List (List ℕ)). sha256 (body l)) (sym same)) h.wrong)

short_front : (bytes : List ℕ) → length bytes < 27 → IsNoImage bytes
short_front bytes short qs are is =
    omega (arith, short, ap length is, length-append (body qs) (sha256 (body qs)), length-append (front (length qs)) (flat_map part_written qs))

pub no_image : RefusedBytesAreNoImage
no_image fault.Memory bytes other refused = absurd (other refl)
no_image fault.ShortFront bytes other refused = short_front bytes refused
no_image fault.Magic bytes other refused = λ qs are is. refused (ap (λ (l : List ℕ). take 17 l) is)
no_image fault.Version bytes other refused = λ qs are is. refused.1 (ap (λ (l : List ℕ). take 2 (drop 17 l)) is)
no_image (fault.PartLength i) bytes other refused = wrong_part EndsInPart not_ended i bytes refused
no_image (fault.PartDigest i) bytes other refused = wrong_part HasOtherDigest not_other i bytes refused
no_image fault.ShortEnd bytes other refused = wrong_end EndsInDigest (λ before ends. omega (arith, ends, length-sha256 before)) bytes refused
no_image fault.Digest bytes other refused = wrong_end IsOtherDigest (λ before h. h.1 (take_all 32 (sha256 before) (omega (arith, length-sha256 before)))) bytes refused
no_image fault.Behind bytes other refused = wrong_end HasBytesBehind (λ before h. omega (arith, h.1, length-sha256 before)) bytes refused

pub tell_parts : ImagesTellParts
tell_parts ps qs are are' same = (bodies_same ps qs (sha256 (body ps)) (sha256 (body qs)) are are' same).0

pub is_read : WhatWasWrittenIsRead
is_read (Ok read) parts are reads = sym (tell_parts parts (pointed read.items) are reads.0 reads.1)
is_read (Err fault.Memory) parts are reads = refl
is_read (Err fault.ShortFront) parts are reads = absurd (no_image fault.ShortFront (written parts) (λ e. cc) reads parts are refl)
is_read (Err fault.Magic) parts are reads = absurd (no_image fault.Magic (written parts) (λ e. cc) reads parts are refl)
is_read (Err fault.Version) parts are reads = absurd (no_image fault.Version (written parts) (λ e. cc) reads parts are refl)
is_read (Err (fault.PartLength i)) parts are reads = absurd (no_image (fault.PartLength i) (written parts) (λ e. cc) reads parts are refl)
is_read (Err (fault.PartDigest i)) parts are reads = absurd (no_image (fault.PartDigest i) (written parts) (λ e. cc) reads parts are refl)
is_read (Err fault.ShortEnd) parts are reads = absurd (no_image fault.ShortEnd (written parts) (λ e. cc) reads parts are refl)
is_read (Err fault.Digest) parts are reads = absurd (no_image fault.Digest (written parts) (λ e. cc) reads parts are refl)
is_read (Err fault.Behind) parts are reads = absurd (no_image fault.Behind (written parts) (λ e. cc) reads parts are refl)

-- where bytes aren't read, they are no image or memory ran out
pub refused : (result : Result (Vec (Bor (List ℕ))) ImageFault) (bytes : List ℕ) → Reads result bytes → IfErr result (λ f. (f ≡ fault.Memory) ⊎ IsNoImage bytes)
refused (Ok read) bytes reads = tt
refused (Err fault.Memory) bytes reads = inl refl
refused (Err fault.ShortFront) bytes reads = inr (no_image fault.ShortFront bytes (λ e. cc) reads)
refused (Err fault.Magic) bytes reads = inr (no_image fault.Magic bytes (λ e. cc) reads)
refused (Err fault.Version) bytes reads = inr (no_image fault.Version bytes (λ e. cc) reads)
refused (Err (fault.PartLength i)) bytes reads = inr (no_image (fault.PartLength i) bytes (λ e. cc) reads)
refused (Err (fault.PartDigest i)) bytes reads = inr (no_image (fault.PartDigest i) bytes (λ e. cc) reads)
refused (Err fault.ShortEnd) bytes reads = inr (no_image fault.ShortEnd bytes (λ e. cc) reads)
refused (Err fault.Digest) bytes reads = inr (no_image fault.Digest bytes (λ e. cc) reads)
refused (Err fault.Behind) bytes reads = inr (no_image fault.Behind bytes (λ e. cc) reads)
