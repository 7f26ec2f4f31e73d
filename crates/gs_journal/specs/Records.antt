-- The bytes of a disk: a header, records, and a closed gate. Numbers are big-endian.
use Rattle.std.specs.Prelude.{◌≡◌, ◌&&◌, ◌||◌, ◌==◌, ℕ, zero, suc, ◌+◌, Bool, true, nat_le, if◌then◌else◌, List, [], ◌∷◌, ◌++◌, length, take, drop, slice_index, codes, refl}
use Rattle.byteorder.specs.Endian.{big_bytes, big_number}
use Rattle.gs_journal.specs.declared.version.Version.{Version}
use Rattle.gs_journal.specs.declared.version.Version.TheVariants.{One, Two}

-- a record: its kind and its body
abbrev pub Entry : Type 0
Entry = ℕ × List ℕ

-- what stands behind a record's gate: the body's length in four bytes, the kind, the body
abbrev pub frame : Entry → List ℕ
frame r = big_bytes 4 (length r.1) ++ r.0 ∷ r.1

-- a record as it stands: its gate is open, which is 1
abbrev pub opened : Entry → List ℕ
opened r = 1 ∷ frame r

-- a prepare of epoch 1 at moment 0 with no chunks
opened-prepare : opened (5, big_bytes 8 1 ++ big_bytes 8 0 ++ big_bytes 4 0) ≡
    1 ∷ 0 ∷ 0 ∷ 0 ∷ 20 ∷ 5 ∷ 0 ∷ 0 ∷ 0 ∷ 0 ∷ 0 ∷ 0 ∷ 0 ∷ 1 ∷ 0 ∷ 0 ∷ 0 ∷ 0 ∷ 0 ∷ 0 ∷ 0 ∷ 0 ∷ 0 ∷ 0 ∷ 0 ∷ 0 ∷ []
opened-prepare = refl

-- mkdirs of /a by client 1 under number 1
opened-mkdirs : opened (1, big_bytes 4 1 ++ big_bytes 8 1 ++ 1 ∷ big_bytes 2 2 ++ codes "/a") ≡
    1 ∷ 0 ∷ 0 ∷ 0 ∷ 17 ∷ 1 ∷ 0 ∷ 0 ∷ 0 ∷ 1 ∷ 0 ∷ 0 ∷ 0 ∷ 0 ∷ 0 ∷ 0 ∷ 0 ∷ 1 ∷ 1 ∷ 0 ∷ 2 ∷ 47 ∷ 97 ∷ []
opened-mkdirs = refl

-- server 0 holds a sealed image of chunk 2
opened-holder : opened (10, big_bytes 8 2 ++ 0 ∷ []) ≡ 1 ∷ 0 ∷ 0 ∷ 0 ∷ 9 ∷ 10 ∷ 0 ∷ 0 ∷ 0 ∷ 0 ∷ 0 ∷ 0 ∷ 0 ∷ 2 ∷ 0 ∷ []
opened-holder = refl

-- the length that stands at the front of what is behind a gate
abbrev pub body_length : List ℕ → ℕ
body_length bytes = big_number 4 bytes

-- behind a gate stand a length, a kind and so many bytes
abbrev pub is_whole : List ℕ → Bool
is_whole bytes = nat_le (5 + body_length bytes) (length bytes)

-- the record that stands behind a gate
abbrev pub entry_of : List ℕ → Entry
entry_of bytes = (slice_index bytes 4, take (body_length bytes) (drop 5 bytes))

-- The records from behind some bytes that are passed over: up to the first gate that isn't open, or to a record that
-- isn't whole.
abbrev pub records_behind : ℕ → List ℕ → List Entry
records_behind skip [] = []
records_behind (suc skip) (byte ∷ bytes) = records_behind skip bytes
records_behind zero (gate ∷ bytes) = if (gate == 1) && is_whole bytes then entry_of bytes ∷ records_behind (5 + body_length bytes) bytes else []

-- A header: an open gate, a mark of four bytes, a generation of eight.
abbrev pub header_length : ℕ
header_length = 13

abbrev pub has_mark : List ℕ → Bool
has_mark bytes =
    (slice_index bytes 1 == 71) && ((slice_index bytes 2 == 83) && ((slice_index bytes 3 == 74)
    && ((slice_index bytes 4 == 49) || (slice_index bytes 4 == 50))))

-- the bytes are those of a disk that may count
abbrev pub is_begun : List ℕ → Bool
is_begun bytes = nat_le header_length (length bytes) && ((slice_index bytes 0 == 1) && has_mark bytes)

abbrev pub version_of : List ℕ → Version
version_of bytes = if slice_index bytes 4 == 49 then One else Two

abbrev pub generation_of : List ℕ → ℕ
generation_of bytes = big_number 8 (drop 5 bytes)

abbrev pub records_of : List ℕ → List Entry
records_of bytes = records_behind header_length bytes

-- what a journal says: its version and its records
abbrev pub Text : Type 0
Text = Version × List Entry

abbrev pub text_of : List ℕ → Text
text_of bytes = (version_of bytes, records_of bytes)

-- a new journal
abbrev pub fresh : Text
fresh = (Two, [])

-- The second of two disks counts: its header is whole, and the first's isn't or has a lower generation.
abbrev pub second_counts : List ℕ → List ℕ → Bool
second_counts first second = is_begun second && (if is_begun first then nat_le (suc (generation_of first)) (generation_of second) else true)

-- what two disks say: what the one that counts does, and nothing where none does
abbrev pub standing : List ℕ → List ℕ → Text
standing first second =
    if second_counts first second then text_of second else (if is_begun first then text_of first else fresh)

-- the generation of the disk that counts; a new journal is of the first one
abbrev pub generation_standing : List ℕ → List ℕ → ℕ
generation_standing first second =
    if second_counts first second then generation_of second else (if is_begun first then generation_of first else 1)

-- a header as it is made
abbrev pub mark : Version → List ℕ
mark One = codes "GSJ1"
mark Two = codes "GSJ2"

abbrev pub header : Version → ℕ → List ℕ
header version generation = 1 ∷ mark version ++ big_bytes 8 generation

-- a disk of generation 7 with two records, and a third behind a closed gate
abbrev two_records : List ℕ
two_records = header Two 7 ++ opened (6, big_bytes 8 2) ++ opened (7, big_bytes 8 3) ++ 0 ∷ frame (6, big_bytes 8 9)

records_of-two_records : records_of two_records ≡ (6, big_bytes 8 2) ∷ (7, big_bytes 8 3) ∷ []
records_of-two_records = refl

-- the second record has lost its last byte
records_of-cut : records_of (take 40 two_records) ≡ (6, big_bytes 8 2) ∷ []
records_of-cut = refl

standing-second : standing (header Two 6 ++ 0 ∷ []) two_records ≡ text_of two_records
standing-second = refl

standing-first : standing two_records (header Two 6 ++ opened (6, []) ++ 0 ∷ []) ≡ text_of two_records
standing-first = refl

-- a header whose gate is closed doesn't count
standing-closed : standing (header One 1 ++ 0 ∷ []) (0 ∷ drop 1 two_records) ≡ (One, [])
standing-closed = refl

standing-none : standing [] (take 12 two_records) ≡ fresh
standing-none = refl

generation_standing-second : generation_standing (header Two 6 ++ 0 ∷ []) two_records ≡ 7
generation_standing-second = refl

generation_standing-none : generation_standing [] (take 12 two_records) ≡ 1
generation_standing-none = refl
