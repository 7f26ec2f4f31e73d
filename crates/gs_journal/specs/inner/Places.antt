-- What is found of two disks that are opened.
use Rattle.std.specs.Prelude.{◌≡◌, ◌≢◌, ◌⊎◌, ◌+◌, ◌<◌, ◌^◌, ℕ, true, false, if◌then◌else◌, Option, Some, None, Result, Ok, Err, List, length, get_or}
use Rattle.gs_base.specs.declared.refusal.Refusal.{Refusal}
use Rattle.gs_base.specs.declared.refusal.Refusal.TheVariants.{Device, Memory}
use Rattle.gs_journal.specs.Records.{header_length, is_begun, version_of, generation_of, generation_standing, second_counts, standing, text_of}
use Rattle.gs_journal.specs.Forms.{is_text}
use Rattle.gs_journal.specs.inner.Frames.{IsEnd}
use Rattle.gs_journal.specs.inner.Rest.{IsAtRest}
use Rattle.gs_journal.specs.declared.place.Place.{Place}
use Rattle.gs_journal.specs.declared.version.Version.TheVariants.{Two}

-- the place is that of a disk that may count, whose records are of their form
pub record IsPlace (p : Place) (bytes : List ℕ) : Type 0 where
  pub begun : is_begun bytes ≡ true
  pub end : IsEnd p.end bytes
  pub version : p.version ≡ version_of bytes
  pub generation : p.generation ≡ generation_of bytes
  pub gate : p.has_gate ≡ true → (p.end < length bytes) × (get_or bytes p.end 1 ≢ 1)
  pub fits : p.has_gate ≡ true → p.end + 1 < 2 ^ 64
  pub form : is_text (text_of bytes) ≡ true

abbrev pub FindsPlace : Option Place → List ℕ → List ℕ → Type 0
FindsPlace None first second = (second_counts first second ≡ false) × (is_begun first ≡ false)
FindsPlace (Some p) first second = (second_counts first second ≡ p.is_second) × IsPlace p (if p.is_second then second else first)

-- the place on the first disk of a new journal
abbrev pub IsFresh : Place → Type 0
IsFresh p = (p.is_second ≡ false) × (p.version ≡ Two) × (p.generation ≡ 1) × (p.end ≡ header_length)

-- the place is that of the disk that counts, which is at rest
pub record IsReady (p : Place) (first second : List ℕ) : Type 0 where
  pub counts : second_counts first second ≡ p.is_second
  pub begun : is_begun (if p.is_second then second else first) ≡ true
  pub rest : IsAtRest p.end (if p.is_second then second else first)
  pub version : p.version ≡ version_of (if p.is_second then second else first)
  pub generation : p.generation ≡ generation_of (if p.is_second then second else first)

-- a read refuses where its disk fails, or for want of memory
abbrev pub ReadRefuses : {T : Type 0} → ℕ → ℕ → Result T Refusal → Type 0
ReadRefuses before now (Ok x) = now ≡ before
ReadRefuses before now (Err e) = ((e ≡ Device) × (before < now)) ⊎ ((e ≡ Memory) × (now ≡ before))

-- two disks say what two others do, in the same generation
abbrev pub SayTheSame : List ℕ → List ℕ → List ℕ → List ℕ → Type 0
SayTheSame a b c d = (standing a b ≡ standing c d) × (generation_standing a b ≡ generation_standing c d)

-- what a crash may leave of the first disk while it is put right, beside any second
abbrev pub IsLikeFirst : List ℕ → List ℕ → List ℕ → Type 0
IsLikeFirst first second c = (d : List ℕ) → SayTheSame c d first d ⊎ SayTheSame c d first second

-- what a crash may leave of the second
abbrev pub IsLikeSecond : List ℕ → List ℕ → Type 0
IsLikeSecond second c = (d : List ℕ) → SayTheSame d c d second
