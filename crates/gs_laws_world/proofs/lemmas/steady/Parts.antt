-- What the journal tells where a part of a turn's records stands behind what stood.
use Rattle.std.proofs.Common.{◌≡◌, ◌∙◌, inl, inr, ◌+◌, ◌<◌, ◌≤◌, ◌^◌, ◌++◌, ℕ, zero, suc, true, List, [], ◌∷◌, map, length, Some, refl, ap, subst, sym, arith}
use Rattle.std.specs.Prelude.{nat_le, option_and_then, sum_by, take}
use Rattle.std.specs.List.{AllByRecursion}
use Rattle.std.proofs.lemmas.Bool.Decides.{nat_tests}
use Rattle.std.proofs.lemmas.List.{length-append, map-append, take-append-le, take_all}
use Rattle.std.proofs.lemmas.List.Sums.{sum_by-append, sum_by-cons, sum_by-take-le}
use Rattle.gs_journal.specs.Journal.{checkpoint_size, checkpointed, record_size, text_size}
use Rattle.gs_journal.specs.Records.{header_length, Text}
use Rattle.gs_journal.specs.declared.version.Version.TheVariants.{Two}
use Rattle.gs_master.proofs.Composing.{all_joined, replayed_both}
use Rattle.gs_master.proofs.Turning.{replayed_behind}
use Rattle.gs_master.specs.Masters.{LeavesText}
use Rattle.gs_laws_master.specs.Rooms.{HasRoom}
use Rattle.gs_laws_master.specs.Written.{IsSteady}
use Rattle.gs_master_record.specs.Encoding.{encoded}
use Rattle.gs_master_record.specs.Plain.{PlainCheckpoint, PlainEntry, Whole}
use Rattle.gs_master_record.specs.Writable.{IsEntry}
use Rattle.gs_master_spec.specs.Applied.{applied, replayed}
use Rattle.gs_master_spec.specs.Durable.{Durable, start}
use Rattle.gs_master_spec.specs.Handling.{checkpoint_body, restarted}
use Rattle.gs_master_spec.specs.State.{Log, State, Turn, size_of, size_of_all}
use Rattle.gs_master_spec.specs.Whole.{checkpoint_of}
use Rattle.gs_nodes.specs.Happenings.{limit}
use Rattle.gs_laws_world.specs.lasting.Lasting.{IsToldIn}
use Rattle.gs_laws_world.specs.steady.Steady.{TellsSteady}

-- ---- sizes

sized : (xs : List PlainEntry) → sum_by record_size (map (encoded Two) xs) ≡ size_of_all xs
sized [] = refl
sized (x ∷ xs) = sum_by-cons record_size (encoded Two x) (map (encoded Two) xs) ∙ ap (λ n. size_of x + n) (sized xs) ∙ sym (sum_by-cons size_of x xs)

one_more : (a b c many : ℕ) → c ≡ a + b → b ≡ many → header_length + c + 1 ≡ header_length + a + 1 + many
one_more a b c many is same = omega arith

text_grown : (text new : Text) (xs : List PlainEntry) → new ≡ (text.0, text.1 ++ map (encoded Two) xs) → text_size new ≡ text_size text + size_of_all xs
text_grown text new xs is =
    ap text_size is
    ∙ one_more (sum_by record_size text.1) (sum_by record_size (map (encoded Two) xs)) (sum_by record_size (text.1 ++ map (encoded Two) xs)) (size_of_all xs) (sum_by-append record_size text.1 (map (encoded Two) xs)) (sized xs)

-- records that have room take a log no further than its limit
room_by : (size most many : ℕ) → nat_le (size + many) most ≡ true → size + many ≤ most
room_by size most many fit = grind (arith, nat_tests)

none_more : (size most : ℕ) → size ≤ most → size + 0 ≤ most
none_more size most room = omega arith

pub has_room : (s : State) (t : Turn) → s.log.size ≤ s.log.limit → HasRoom s t → s.log.size + size_of_all t.records ≤ s.log.limit
has_room s t room (inl none) = subst (λ es. s.log.size + size_of_all es ≤ s.log.limit) (sym none) (none_more s.log.size s.log.limit room)
has_room s t room (inr fit) = room_by s.log.size s.log.limit (size_of_all t.records) fit

-- ---- records

all_taken : (P : PlainEntry → Type 0) (many : ℕ) (xs : List PlainEntry) → AllByRecursion P xs → AllByRecursion P (take many xs)
all_taken P zero xs all = tt
all_taken P (suc many) [] all = tt
all_taken P (suc many) (x ∷ xs) all = (all.0, all_taken P many xs all.1)

-- they are told behind what was told
pub tells_more : (text new : Text) (d e : Durable) (xs : List PlainEntry) → IsToldIn text d → AllByRecursion (IsEntry Two) xs → replayed d xs ≡ Some e → new ≡ (text.0, text.1 ++ map (encoded Two) xs) → IsToldIn new e
tells_more text new d e xs told are fit is = record {
  entries = told.entries ++ xs;
  records = is ∙ (λ i. ((told.records i).0, (told.records i).1 ++ map (encoded Two) xs)) ∙ (λ i. (Two, sym (map-append (encoded Two) told.entries xs) i));
  are_entries = all_joined (IsEntry Two) told.entries xs told.are_entries are;
  replays = replayed_behind start d e told.entries xs told.replays fit;
}

-- what a checkpoint tells doesn't depend on what it meets
whole_alike : (d e : Durable) (c : PlainCheckpoint) → replayed d (Whole c ∷ []) ≡ replayed e (Whole c ∷ [])
unfolding applied
whole_alike d e c = refl

-- it is told alone
pub tells_anew : (new : Text) (d last : Durable) (xs : List PlainEntry) (next : Durable) → IsEntry Two (Whole (checkpoint_of next)) → replayed d xs ≡ Some next → replayed d (xs ++ Whole (checkpoint_of next) ∷ []) ≡ Some last → new ≡ checkpointed (checkpoint_body next)
    → IsToldIn new last
tells_anew new d last xs next is_entry fit all is = record {
  entries = Whole (checkpoint_of next) ∷ [];
  records = is;
  are_entries = (is_entry, tt);
  replays = whole_alike start next (checkpoint_of next) ∙ sym (replayed_both d xs (Whole (checkpoint_of next) ∷ []) ∙ ap (option_and_then (λ mid. replayed mid (Whole (checkpoint_of next) ∷ []))) fit) ∙ all;
}

-- ---- a part

-- Of some records so many stand behind what was durable, and this text tells what they lead to, on which a restarted master is steady.
pub record IsPart (d : Durable) (records : List PlainEntry) (text : Text) : Type 0 where
  pub many : ℕ
  pub within : many ≤ length records
  pub durable : Durable
  pub stand : replayed d (take many records) ≡ Some durable
  pub told : IsToldIn text durable
  pub steady : TellsSteady text

-- what each number of them leads to
pub record AtEach (d : Durable) (records : List PlainEntry) : Type 0 where
  pub made : (many : ℕ) → (e : Durable) × (replayed d (take many records) ≡ Some e)
  pub steady : (many : ℕ) (e : Durable) (log : Log) → replayed d (take many records) ≡ Some e → log.size ≤ log.limit → log.limit < 2 ^ 32 → IsSteady (restarted e log)

still_within : (whole part size most : ℕ) → size ≡ whole + part → whole + part ≤ most → size ≤ most
still_within whole part size most is room = omega arith

less : (whole part all most : ℕ) → part ≤ all → whole + all ≤ most → whole + part ≤ most
less whole part all most some room = omega arith

not_above : (place all : ℕ) → place < all → place ≤ all
not_above place all below = omega arith

next_one : (place all : ℕ) → place < all → place + 1 ≤ all
next_one place all below = omega arith

module _ (text new : Text) (d : Durable) (records : List PlainEntry) (told : IsToldIn text d) (are : AllByRecursion (IsEntry Two) records) (room : text_size text + size_of_all records ≤ limit) (each : AtEach d records) where
  pub part_told : (many : ℕ) → many ≤ length records → new ≡ (text.0, text.1 ++ map (encoded Two) (take many records)) → IsPart d records new
  part_told many within is =
      let e = each.made many in
      let there = tells_more text new d e.0 (take many records) told (all_taken (IsEntry Two) many records are) e.1 is in
      record {
        many = many;
        within = within;
        durable = e.0;
        stand = e.1;
        told = there;
        steady = record {
          durable = e.0;
          told = there;
          steady = λ log fit small. each.steady many e.0 log e.1 fit small;
          within = still_within (text_size text) (size_of_all (take many records)) (text_size new) limit (text_grown text new (take many records) is)
              (less (text_size text) (size_of_all (take many records)) (size_of_all records) limit (sum_by-take-le size_of records many) room);
        };
      }

  -- where a disk failed at one of them
  pub part_left : (place : ℕ) → place < length records → LeavesText records place text new → IsPart d records new
  part_left place below (inl is) = part_told place (not_above place (length records) below) is
  part_left place below (inr is) = part_told (place + 1) (next_one place (length records) below) is

  -- at none of them
  pub part_all : new ≡ (text.0, text.1 ++ map (encoded Two) records) → IsPart d records new
  part_all is = part_told (length records) (omega arith) (is ∙ (λ i. (text.0, text.1 ++ map (encoded Two) (sym (take_all (length records) records (omega arith)) i))))

-- a part of the first ones is one of all
pub part_of_more : (d : Durable) (records more all : List PlainEntry) (text : Text) → all ≡ records ++ more → IsPart d records text → IsPart d all text
part_of_more d records more all text is part = record {
  many = part.many;
  within = subst (λ es. part.many ≤ length es) (sym is) (longer part.many (length records) (length more) (length (records ++ more)) (length-append records more) part.within);
  durable = part.durable;
  stand = ap (λ es. replayed d (take part.many es)) is ∙ ap (replayed d) (take-append-le part.many records more part.within) ∙ part.stand;
  told = part.told;
  steady = part.steady;
}
  where
    longer : (many first rest both : ℕ) → both ≡ first + rest → many ≤ first → many ≤ both
    longer many first rest both same within = omega arith

-- the size of a checkpoint that stands alone
checkpoint_sized : (body : List ℕ) → text_size (checkpointed body) ≡ checkpoint_size body
checkpoint_sized body = one_alone (record_size (9, body)) (sum_by record_size ((9, body) ∷ [])) (sum_by-cons record_size (9, body) [])
  where
    one_alone : (one all : ℕ) → all ≡ one + sum_by record_size [] → header_length + all + 1 ≡ header_length + one + 1
    one_alone one all is = omega arith

-- where they end with a checkpoint, and that stands alone
pub part_anew : (d last next : Durable) (records all : List PlainEntry) (new : Text) → all ≡ records ++ Whole (checkpoint_of next) ∷ [] → IsEntry Two (Whole (checkpoint_of next)) → replayed d records ≡ Some next → replayed d all ≡ Some last → AtEach d all
    → checkpoint_size (checkpoint_body next) ≤ limit → new ≡ checkpointed (checkpoint_body next) → IsPart d all new
part_anew d last next records all new is is_entry fit whole each room anew =
    let told = tells_anew new d last records next is_entry fit (ap (replayed d) (sym is) ∙ whole) anew in
    let taken : replayed d (take (length all) all) ≡ Some last = ap (replayed d) (take_all (length all) all (omega arith)) ∙ whole in
    record {
      many = length all;
      within = omega arith;
      durable = last;
      stand = taken;
      told = told;
      steady = record { durable = last; told = told; steady = λ log here small. each.steady (length all) last log taken here small; within = subst (λ n. n ≤ limit) (sym (ap text_size anew ∙ checkpoint_sized (checkpoint_body next))) room };
    }
