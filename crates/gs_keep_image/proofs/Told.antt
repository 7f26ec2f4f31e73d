-- The image of a desk by the parts that were written, and a desk by the parts that were read.
use Rattle.std.proofs.Common.{◌≡◌, ◌≢◌, ◌≤◌, ◌∙◌, ◌&&◌, ℕ, Bool, true, false, not, eqb, List, length, Option, Some, None, Vec, Global, refl, sym, ap, subst}
use Rattle.std.proofs.lemmas.Bool.{and_parts, eqb-true}
use Rattle.gs_base.specs.declared.config.Config.{Config}
use Rattle.gs_desk_image.proofs.Alike.{same_config}
use Rattle.gs_desk_image.specs.Desks.{HasImage, Rests, image_of, store_of}
use Rattle.gs_image.specs.Images.{AreParts, written}
use Rattle.gs_journal.specs.declared.memory.MemoryDisk.{MemoryDisk}
use Rattle.gs_keep_head.specs.Head.{sizes_of}
use Rattle.gs_keep_image.proofs.Ends.{last_written, long}
use Rattle.gs_keep_image.specs.Images.{HasOtherDigest, HasOtherSizes, IsImageOf, IsImageWith, Tells, TellsNothing, digest_of, last_of}
use Rattle.gs_keep_image.specs.declared.taking.Image.{Image}
use Rattle.gs_parts_image.specs.Reading.{store_in}
use Rattle.gs_parts_image.specs.Stores.{Store}
use Rattle.gs_parts_image.specs.Work.{bytes_of}
use Rattle.gs_shell_desk.specs.declared.desk.Desk.{Desk}

pub is_image : (d : Desk MemoryDisk) (made : List (Vec ℕ Global)) (image : Image) → HasImage d → bytes_of made ≡ image_of d → AreParts (bytes_of made)
    → image.bytes.items ≡ written (bytes_of made) → image.sum ≡ last_of image.bytes.items → IsImageOf d image
is_image d made image has same are bytes sum =
    let whole : image.bytes.items ≡ written (image_of d) = bytes ∙ ap written same in
    record { has = has; are = subst AreParts same are; bytes = whole; sum = sum ∙ ap last_of whole ∙ last_written (image_of d) }

pub is_long : (bytes : List ℕ) (parts : List (List ℕ)) → bytes ≡ written parts → 32 ≤ length bytes
is_long bytes parts stand = subst (λ (bs : List ℕ). 32 ≤ length bs) (sym stand) (long parts)

pub ends : (bytes : List ℕ) (parts : List (List ℕ)) → bytes ≡ written parts → last_of bytes ≡ digest_of parts
ends bytes parts stand = ap last_of stand ∙ last_written parts

pub is_other : (sum bytes last : List ℕ) (parts : List (List ℕ)) → AreParts parts → bytes ≡ written parts → last ≡ last_of bytes → last ≢ sum → IsImageWith (HasOtherDigest sum) bytes
is_other sum bytes last parts are stand is differs =
    record { parts = parts; are = are; stand = stand; holds = λ same. differs (is ∙ ends bytes parts stand ∙ sym same) }

pub is_none : (bytes : List ℕ) (parts : List (List ℕ)) → AreParts parts → bytes ≡ written parts → store_in parts ≡ None → IsImageWith TellsNothing bytes
is_none bytes parts are stand none = record { parts = parts; are = are; stand = stand; holds = none }

one_store : (a b : Store) → Some a ≡ Some b → a ≡ b
one_store a b same = cc

pub has_other_sizes : (config : Config) (d : Desk MemoryDisk) (bytes : List ℕ) (parts : List (List ℕ)) → AreParts parts → bytes ≡ written parts → store_in parts ≡ Some (store_of d)
    → d.wire.nodes.config ≢ config → IsImageWith (HasOtherSizes config) bytes
has_other_sizes config d bytes parts are stand is differs = record {
  parts = parts;
  are = are;
  stand = stand;
  holds = λ s read same. differs (same_config d.wire.nodes.config config (ap (λ (t : Store). t.head.sizes) (one_store (store_of d) s (sym is ∙ read)) ∙ same));
}

not_not : (b : Bool) → not b ≡ false → b ≡ true
not_not true e = refl
not_not false e = absurd (cc)

-- what isn't found to differ is the same
pub are_sizes : (c d : Config) → not (eqb c.servers d.servers && (eqb c.racks d.racks && (eqb c.replicas d.replicas && (eqb c.block d.block && eqb c.chunk d.chunk)))) ≡ false → c ≡ d
are_sizes c d e =
    let a = and_parts (eqb c.servers d.servers) (eqb c.racks d.racks && (eqb c.replicas d.replicas && (eqb c.block d.block && eqb c.chunk d.chunk))) (not_not _ e) in
    let b = and_parts (eqb c.racks d.racks) (eqb c.replicas d.replicas && (eqb c.block d.block && eqb c.chunk d.chunk)) a.1 in
    let f = and_parts (eqb c.replicas d.replicas) (eqb c.block d.block && eqb c.chunk d.chunk) b.1 in
    let g = and_parts (eqb c.block d.block) (eqb c.chunk d.chunk) f.1 in
    let servers = eqb-true c.servers d.servers a.0 in
    let racks = eqb-true c.racks d.racks b.0 in
    let replicas = eqb-true c.replicas d.replicas f.0 in
    let block = eqb-true c.block d.block g.0 in
    let chunk = eqb-true c.chunk d.chunk g.1 in
    same_config c d (λ i. record { servers = servers i; racks = racks i; replicas = replicas i; chunk = chunk i; block = block i })

pub is_told : (config : Config) (sum bytes last : List ℕ) (d : Desk MemoryDisk) (parts : List (List ℕ)) → AreParts parts → bytes ≡ written parts → last ≡ last_of bytes → last ≡ sum
    → store_in parts ≡ Some (store_of d) → Rests d → d.wire.nodes.config ≡ config → IsImageWith (Tells config sum d) bytes
is_told config sum bytes last d parts are stand is same read rests sizes = record {
  parts = parts;
  are = are;
  stand = stand;
  holds = record { names = sym same ∙ is ∙ ends bytes parts stand; read = read; sizes = sizes; rests = rests };
}
