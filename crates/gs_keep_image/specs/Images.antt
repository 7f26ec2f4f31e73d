-- The image of a desk as the bytes of a file, and what is read of them.
use Rattle.std.specs.Prelude.{◌≡◌, ◌≢◌, ◌&&◌, ◌-◌, ℕ, Bool, true, is_none, List, length, drop, Option, Some, None, Result, Ok, Err}
use Rattle.sha2.specs.Sha256.{sha256}
use Rattle.gs_base.specs.declared.config.Config.{Config}
use Rattle.gs_desk_image.specs.Desks as desks
use Rattle.gs_desk_image.specs.Desks.{HasImage, Rests, image_of, is_nil, store_of}
use Rattle.gs_fields.specs.Work.{Unput}
use Rattle.gs_fields.specs.declared.fault.Fault.{Fault}
use Rattle.gs_image.specs.Images.{AreParts, body, written}
use Rattle.gs_image.specs.Refused.{Refuses}
use Rattle.gs_image.specs.declared.fault.ImageFault.TheVariants as frame
use Rattle.gs_journal.specs.declared.memory.MemoryDisk.{MemoryDisk}
use Rattle.gs_keep_head.specs.Head.{sizes_of}
use Rattle.gs_keep_image.specs.declared.fault.LoadFault.{LoadFault}
use Rattle.gs_keep_image.specs.declared.fault.LoadFault.TheVariants as fault
use Rattle.gs_keep_image.specs.declared.taking.Image.{Image}
use Rattle.gs_client.specs.Nodes.{Node}
use Rattle.gs_parts_image.specs.Reading.{store_in}
use Rattle.gs_parts_image.specs.Stores.{Store}
use Rattle.gs_shell_desk.specs.declared.desk.Desk.{Desk}

-- ---- taken

-- the digest of an image of some parts, by which a log names it
abbrev pub digest_of : List (List ℕ) → List ℕ
digest_of parts = sha256 (body parts)

-- its bytes end with it
abbrev pub last_of : List ℕ → List ℕ
last_of bytes = drop (length bytes - 32) bytes

abbrev pub asks_nothing : List Node → Bool
asks_nothing = desks.asks_nothing

-- it rests, but for its master
abbrev pub may_rest : {D : Type 0} → Desk D → Bool
may_rest d = is_nil d.wire.queue.items && (is_none d.wire.held_kind && (is_nil d.wire.held.items && asks_nothing d.wire.nodes.clients.items))

pub record IsImageOf (d : Desk MemoryDisk) (image : Image) : Type 0 where
  pub has : HasImage d
  pub are : AreParts (image_of d)
  pub bytes : image.bytes.items ≡ written (image_of d)
  pub sum : image.sum ≡ digest_of (image_of d)

abbrev pub MakesImage : Desk MemoryDisk → Result Image Fault → Type 0
MakesImage d (Ok image) = IsImageOf d image
MakesImage d (Err e) = Unput (HasImage d) e

-- ---- read

-- bytes are an image of some parts, of which this holds
pub record IsImageWith (Holds : List (List ℕ) → Type 0) (bytes : List ℕ) : Type 0 where
  pub parts : List (List ℕ)
  pub are : AreParts parts
  pub stand : bytes ≡ written parts
  pub holds : Holds parts

-- those of a desk that rests, with the digest and the sizes of a log
pub record Tells (config : Config) (sum : List ℕ) (d : Desk MemoryDisk) (parts : List (List ℕ)) : Type 0 where
  pub names : sum ≡ digest_of parts
  pub read : store_in parts ≡ Some (store_of d)
  pub sizes : d.wire.nodes.config ≡ config
  pub rests : Rests d

abbrev pub HasOtherDigest : List ℕ → List (List ℕ) → Type 0
HasOtherDigest sum parts = sum ≢ digest_of parts

abbrev pub TellsNothing : List (List ℕ) → Type 0
TellsNothing parts = store_in parts ≡ None

abbrev pub HasOtherSizes : Config → List (List ℕ) → Type 0
HasOtherSizes config parts = (s : Store) → store_in parts ≡ Some s → s.head.sizes ≢ sizes_of config

-- what is read of bytes by a log of these sizes that names this digest
abbrev pub Loads : Config → List ℕ → List ℕ → Result (Desk MemoryDisk) LoadFault → Type 0
Loads config sum bytes (Ok d) = IsImageWith (Tells config sum d) bytes
Loads config sum bytes (Err fault.Memory) = Unit {0}
Loads config sum bytes (Err (fault.Frame f)) = (f ≢ frame.Memory) × Refuses f bytes
Loads config sum bytes (Err fault.Other) = IsImageWith (HasOtherDigest sum) bytes
Loads config sum bytes (Err fault.Form) = IsImageWith TellsNothing bytes
Loads config sum bytes (Err fault.Sizes) = IsImageWith (HasOtherSizes config) bytes
