-- A refusal is found by its number and its detail.
use Rattle.std.proofs.Common.{◌≡◌, ℕ, List, Option, Some, refl}
use Rattle.gs_base.specs.Told.{Told}
use Rattle.gs_base.specs.declared.refusal.Refusal.{Refusal}
use Rattle.gs_fields.specs.Reading.{◌>>=◌, byte_at, text_at}
use Rattle.gs_master_record.proofs.Told.{told_is}
use Rattle.gs_server_image.specs.Reading.{refusal_at}

pub refusal_read : (bytes : List ℕ) (n : ℕ) (mid t rest : List ℕ) (o : Option Refusal) → byte_at bytes ≡ Some (n, mid) → text_at mid ≡ Some (t, rest) → Told n t o → refusal_at bytes ≡ (o >>= λ r. Some (r, rest))
unfolding refusal_at
refusal_read bytes n mid t rest o e f h = rw e (rw f (rw (told_is n t o h) refl))
