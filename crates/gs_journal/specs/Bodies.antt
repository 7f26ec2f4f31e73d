-- The form of each kind's body.
use Rattle.std.specs.Prelude.{◌≡◌, ◌&&◌, ◌||◌, ◌==◌, ℕ, Bool, true, false, nat_le, if◌then◌else◌, Some, None, List, [], ◌∷◌, ◌++◌, codes, refl}
use Rattle.byteorder.specs.Endian.{big_bytes}
use Rattle.gs_journal.specs.Records.{opened}
use Rattle.gs_journal.specs.Reading.{Part, ◌>>=◌, skip, byte, text, two_texts, text_and, items, list, is_end}
use Rattle.gs_journal.specs.declared.version.Version.{Version}
use Rattle.gs_journal.specs.declared.version.Version.TheVariants.{One, Two}

-- a server's number, or 255 for none
abbrev pub is_primary : ℕ → Bool
is_primary b = nat_le b 15 || (b == 255)

abbrev pub is_server : ℕ → Bool
is_server b = nat_le b 15

abbrev pub is_refusal : ℕ → Bool
is_refusal b = nat_le 1 b && nat_le b 38

-- of a kept reply, 0 where the call was accepted
abbrev pub is_outcome : ℕ → Bool
is_outcome b = nat_le b 38

abbrev pub is_flag : ℕ → Bool
is_flag b = nat_le b 1

-- 0 ordinary, 2 upgrade, 3 rolling back
abbrev pub is_phase : ℕ → Bool
is_phase b = (b == 0) || ((b == 2) || (b == 3))

-- 1 prepare, 2 finalize, 3 rollback
abbrev pub is_end_of_epoch : ℕ → Bool
is_end_of_epoch b = nat_le 1 b && nat_le b 3

-- The fields of an edit behind its tag: mkdirs, create, rename, hide, unhide, remove, add a chunk, copy on write, snapshot,
-- forget. A path is a text; a moment, a number, a handle have eight bytes, an index four.
abbrev pub edit_fields : ℕ → Part
edit_fields tag bytes =
    if (tag == 1) || (tag == 2) then text bytes else
    if tag == 3 then two_texts bytes else
    if tag == 4 then text_and 16 bytes else
    if (tag == 5) || (tag == 6) then text bytes else
    if tag == 7 then text_and 8 bytes else
    if tag == 8 then text_and 20 bytes else
    if tag == 9 then two_texts bytes else
    if tag == 10 then items 8 bytes else None

abbrev pub edit : Part
edit [] = None
edit (tag ∷ bytes) = edit_fields tag bytes

-- a settled view: handle, epoch, version, count, members in 2 bytes, primary, end of the lease
abbrev pub settled : Part
settled bytes = skip 34 bytes >>= byte is_primary >>= skip 8

-- an entry of a checkpoint's tree: its path, and 0 for a directory or 1 and the handles of a file
abbrev pub tree_node : Part
tree_node [] = None
tree_node (sort ∷ bytes) = if sort == 0 then Some bytes else if sort == 1 then items 8 bytes else None

abbrev pub tree_entry : Part
tree_entry bytes = text bytes >>= tree_node

-- a settled view, and whether its chunk is moving
abbrev pub settled_entry : Part
settled_entry bytes = settled bytes >>= byte is_flag

-- client, number, outcome, text of the answer or of the refusal's detail
abbrev pub reply : Part
reply bytes = skip 12 bytes >>= byte is_outcome >>= text

-- a prepared view, from version 2 on with its holders in 2 bytes
abbrev pub prepared_view : Version → Part
prepared_view One bytes = settled bytes
prepared_view Two bytes = settled bytes >>= skip 2

-- the fields of an inverse behind its edit's tag
abbrev pub inverse_fields : ℕ → Part
inverse_fields tag bytes =
    if (tag == 1) || (tag == 2) then list text bytes else
    if (tag == 3) || ((tag == 4) || (tag == 5)) then two_texts bytes else
    if tag == 6 then list tree_entry bytes else
    if tag == 7 then text bytes else
    if tag == 8 then text_and 12 bytes else
    if tag == 9 then text bytes else
    if tag == 10 then items 8 bytes else None

abbrev pub inverse : Part
inverse [] = None
inverse (tag ∷ bytes) = inverse_fields tag bytes

-- next handle, next version, next hidden number, epoch, phase; how past epochs ended, the tree, the references, the
-- settled views, the kept replies, the prepared views, the inverses
abbrev pub checkpoint_lists : Version → Part
checkpoint_lists version bytes =
    list tree_entry bytes >>= items 12 >>= list settled_entry >>= list reply >>= list (prepared_view version) >>= list inverse

abbrev pub checkpoint : Version → Part
checkpoint version bytes = skip 32 bytes >>= byte is_phase >>= list (byte is_end_of_epoch) >>= checkpoint_lists version

-- The body of a record: 1 edit, 2 said, 3 propose, 4 settle, 5 prepare, 6 finalize, 7 rollback begun, 8 rollback done,
-- 9 checkpoint, 10 holder. A checkpoint is the first record of its disk, and a holder stands from version 2 on.
abbrev pub edit_body : Part
edit_body bytes = skip 12 bytes >>= edit

abbrev pub said_body : Part
said_body bytes = skip 12 bytes >>= byte is_refusal >>= text

abbrev pub rollback_body : Part
rollback_body bytes = skip 8 bytes >>= items 10

abbrev pub holder_body : Part
holder_body bytes = skip 8 bytes >>= byte is_server

abbrev pub holder : Version → Part
holder One bytes = None
holder Two bytes = holder_body bytes

abbrev pub body : Version → Bool → ℕ → Part
body version is_first kind bytes =
    if kind == 1 then edit_body bytes else
    if kind == 2 then said_body bytes else
    if kind == 3 then skip 16 bytes else
    if kind == 4 then settled bytes else
    if kind == 5 then skip 20 bytes else
    if (kind == 6) || (kind == 7) then skip 8 bytes else
    if kind == 8 then rollback_body bytes else
    if kind == 9 then (if is_first then checkpoint version bytes else None) else
    if kind == 10 then holder version bytes else None

-- nothing stands behind the body
abbrev pub is_of_form : Version → Bool → ℕ × List ℕ → Bool
is_of_form version is_first r = is_end (body version is_first r.0 r.1)

is_of_form-prepare : is_of_form Two false (5, big_bytes 8 1 ++ big_bytes 8 0 ++ big_bytes 4 0) ≡ true
is_of_form-prepare = refl

is_of_form-mkdirs : is_of_form One true (1, big_bytes 4 1 ++ big_bytes 8 1 ++ 1 ∷ big_bytes 2 2 ++ codes "/a") ≡ true
is_of_form-mkdirs = refl

-- the path is shorter than its length says
is_of_form-short_path : is_of_form One true (1, big_bytes 4 1 ++ big_bytes 8 1 ++ 1 ∷ big_bytes 2 3 ++ codes "/a") ≡ false
is_of_form-short_path = refl

-- the path is longer
is_of_form-long_path : is_of_form One true (1, big_bytes 4 1 ++ big_bytes 8 1 ++ 1 ∷ big_bytes 2 1 ++ codes "/a") ≡ false
is_of_form-long_path = refl

is_of_form-holder : is_of_form Two false (10, big_bytes 8 2 ++ 0 ∷ []) ≡ true
is_of_form-holder = refl

is_of_form-holder_before : is_of_form One false (10, big_bytes 8 2 ++ 0 ∷ []) ≡ false
is_of_form-holder_before = refl

is_of_form-holder_above : is_of_form Two false (10, big_bytes 8 2 ++ 16 ∷ []) ≡ false
is_of_form-holder_above = refl

-- the checkpoint of a new store: the counters begin at 1, all else is 0 or empty
abbrev pub empty_checkpoint : List ℕ
empty_checkpoint = big_bytes 8 1 ++ big_bytes 8 1 ++ big_bytes 8 1 ++ big_bytes 8 0 ++ 0 ∷ big_bytes 4 0 ++ big_bytes 4 0
    ++ big_bytes 4 0 ++ big_bytes 4 0 ++ big_bytes 4 0 ++ big_bytes 4 0 ++ big_bytes 4 0

is_of_form-empty_checkpoint : is_of_form Two true (9, empty_checkpoint) ≡ true
is_of_form-empty_checkpoint = refl

-- as a record it has 67 bytes
opened-empty_checkpoint : opened (9, empty_checkpoint) ≡
    1 ∷ 0 ∷ 0 ∷ 0 ∷ 61 ∷ 9
    ∷ 0 ∷ 0 ∷ 0 ∷ 0 ∷ 0 ∷ 0 ∷ 0 ∷ 1 ∷ 0 ∷ 0 ∷ 0 ∷ 0 ∷ 0 ∷ 0 ∷ 0 ∷ 1 ∷ 0 ∷ 0 ∷ 0 ∷ 0 ∷ 0 ∷ 0 ∷ 0 ∷ 1
    ∷ 0 ∷ 0 ∷ 0 ∷ 0 ∷ 0 ∷ 0 ∷ 0 ∷ 0 ∷ 0 ∷ 0 ∷ 0 ∷ 0 ∷ 0 ∷ 0 ∷ 0 ∷ 0 ∷ 0 ∷ 0 ∷ 0 ∷ 0 ∷ 0 ∷ 0 ∷ 0 ∷ 0 ∷ 0 ∷ 0 ∷ 0 ∷ 0 ∷ 0 ∷ 0 ∷ 0 ∷ 0
    ∷ 0 ∷ 0 ∷ 0 ∷ 0 ∷ 0 ∷ []
opened-empty_checkpoint = refl

is_of_form-late_checkpoint : is_of_form Two false (9, empty_checkpoint) ≡ false
is_of_form-late_checkpoint = refl

is_of_form-unknown : is_of_form Two true (11, []) ≡ false
is_of_form-unknown = refl
