-- What the functions of a reading find.
use Rattle.std.proofs.Common.{◌≡◌, ◌<◌, ◌≤◌, ◌+◌, ◌-◌, ◌^◌, ◌++◌, ◌∷◌, [], ℕ, List, length, take, drop, refl, sym, ap, subst, ◌∙◌, arith, append_assoc, length-append, length-drop, Err, Bor}
use Rattle.std.specs.List.{flat_map, AllByRecursion}
use Rattle.std.proofs.lemmas.List.{drop-drop, flat_map_more, length-take-le, map_push, take-append-drop}
use Rattle.byteorder.specs.Endian.{big_number}
use Rattle.sha2.specs.Sha256.{sha256}
use Rattle.gs_image.specs.Images.{AreParts, AreShort, body, front, magic, number, part_written, version, written}
use Rattle.gs_image.specs.Refused.{EndsInPart, HasOtherDigest, IsWrongAt, Refuses, pointed}
use Rattle.gs_image.specs.inner.Found.{FindsEnd, FindsFront, FindsPart, FindsParts}
use Rattle.gs_image.specs.declared.fault.ImageFault.{ImageFault}
use Rattle.gs_image.specs.declared.fault.ImageFault.TheVariants as fault
use Rattle.gs_image.proofs.Numbers.{IsBytes, bytes_drop, number_fits, number_read}

-- ---- the front

pub front_found : (bytes rest : List ℕ) (count : ℕ) → IsBytes bytes → 27 ≤ length bytes → take 17 bytes ≡ magic → take 2 (drop 17 bytes) ≡ version → count ≡ big_number 8 (drop 19 bytes)
    → rest ≡ drop 27 bytes → bytes ≡ front count ++ rest
front_found bytes rest count h long is_magic is_version told behind =
    let n = big_number 8 (drop 19 bytes) in
    let same : number n ≡ take 8 (drop 19 bytes) = number_read (drop 19 bytes) (bytes_drop 19 bytes h) (omega (arith, long, length-drop 19 bytes)) in
    let last : drop 19 bytes ≡ number n ++ drop 27 bytes =
    sym (take-append-drop 8 (drop 19 bytes)) ∙ ap (λ (l : List ℕ). l ++ drop 8 (drop 19 bytes)) (sym same) ∙ ap (λ (l : List ℕ). number n ++ l) (drop-drop 8 19 bytes) in
    let middle : drop 17 bytes ≡ version ++ drop 19 bytes =
    sym (take-append-drop 2 (drop 17 bytes)) ∙ ap (λ (l : List ℕ). l ++ drop 2 (drop 17 bytes)) is_version ∙ ap (λ (l : List ℕ). version ++ l) (drop-drop 2 17 bytes) in
    sym (take-append-drop 17 bytes)
    ∙ ap (λ (l : List ℕ). l ++ drop 17 bytes) is_magic
    ∙ ap (λ (l : List ℕ). magic ++ l) (middle ∙ ap (λ (l : List ℕ). version ++ l) last)
    ∙ ap (λ (k : ℕ). front k ++ drop 27 bytes) (sym told)
    ∙ ap (λ (l : List ℕ). front count ++ l) (sym behind)

-- ---- a part

pub part_found : (bytes part rest : List ℕ) (n : ℕ) → IsBytes bytes → n ≡ big_number 8 bytes → 40 + n ≤ length bytes → part ≡ take n (drop 8 bytes) → take 32 (drop (8 + n) bytes) ≡ sha256 part
    → rest ≡ drop (40 + n) bytes → (length part < 2 ^ 64) × (bytes ≡ part_written part ++ rest)
part_found bytes part rest n h told long is has behind =
    let size : length part ≡ n = ap length is ∙ length-take-le n (drop 8 bytes) (omega (arith, long, length-drop 8 bytes)) in
    let fits : n < 2 ^ 64 = omega (arith, told, number_fits bytes h) in
    let first : take 8 bytes ≡ number (length part) = sym (number_read bytes h (omega (arith, long))) ∙ ap number (sym told ∙ sym size) in
    let sum : 8 + n + 32 ≡ 40 + n = omega arith in
    let last : drop (8 + n) bytes ≡ sha256 part ++ rest =
    sym (take-append-drop 32 (drop (8 + n) bytes)) ∙ ap (λ (l : List ℕ). l ++ drop 32 (drop (8 + n) bytes)) has
    ∙ ap (λ (l : List ℕ). sha256 part ++ l) (drop-drop 32 (8 + n) bytes ∙ ap (λ (k : ℕ). drop k bytes) sum ∙ sym behind) in
    let middle : drop 8 bytes ≡ part ++ drop (8 + n) bytes =
    sym (take-append-drop n (drop 8 bytes)) ∙ ap (λ (l : List ℕ). l ++ drop n (drop 8 bytes)) (sym is) ∙ ap (λ (l : List ℕ). part ++ l) (drop-drop n 8 bytes) in (
      omega (arith, size, fits),
      sym (take-append-drop 8 bytes)
          ∙ ap (λ (l : List ℕ). l ++ drop 8 bytes) first
          ∙ ap (λ (l : List ℕ). number (length part) ++ l) (middle ∙ ap (λ (l : List ℕ). part ++ l) last ∙ sym (append_assoc part (sha256 part) rest)),
    )

-- ---- parts

-- so many parts have been found, and what stands behind them
pub record Standing (parts : List (Bor (List ℕ))) (i : ℕ) (rest bytes : List ℕ) : Type 0 where
  pub many : length (pointed parts) ≡ i
  pub short : AreShort (pointed parts)
  pub stand : bytes ≡ flat_map part_written (pointed parts) ++ rest

pub all_push : (P : List ℕ → Type 0) (xs : List (List ℕ)) (x : List ℕ) → AllByRecursion P xs → P x → AllByRecursion P (xs ++ x ∷ [])
all_push P [] x all is = (is, tt)
all_push P (y ∷ xs) x all is = (all.0, all_push P xs x all.1 is)

pub none_found : (bytes : List ℕ) → Standing [] 0 bytes bytes
none_found bytes = record { many = refl; short = tt; stand = refl }

pub one_found : (parts more : List (Bor (List ℕ))) (part : Bor (List ℕ)) (i : ℕ) (rest behind bytes : List ℕ) → Standing parts i rest bytes → (length part.now < 2 ^ 64) × (rest ≡ part_written part.now ++ behind)
    → more ≡ parts ++ part ∷ [] → Standing more (i + 1) behind bytes
one_found parts more part i rest behind bytes s found is =
    let now : pointed more ≡ pointed parts ++ part.now ∷ [] = ap pointed is ∙ map_push _ parts part in
    record {
      many = omega (arith, ap length now, s.many, length-append (pointed parts) (part.now ∷ []));
      short = subst AreShort (sym now) (all_push (λ p. length p < 2 ^ 64) (pointed parts) part.now s.short found.0);
      stand =
          s.stand
          ∙ ap (λ (l : List ℕ). flat_map part_written (pointed parts) ++ l) found.1
          ∙ sym (append_assoc (flat_map part_written (pointed parts)) (part_written part.now) behind)
          ∙ ap (λ (l : List ℕ). l ++ behind) (flat_map_more part_written [] (pointed parts) part.now)
          ∙ ap (λ (l : List (List ℕ)). flat_map part_written l ++ behind) (sym now);
    }

wrong_at : (Wrong : List ℕ → Type 0) (parts : List (Bor (List ℕ))) (i k count : ℕ) (rest bytes : List ℕ) → Standing parts i rest bytes → i < count → (k ≡ i) × Wrong rest → IsWrongAt k count Wrong bytes
wrong_at Wrong parts i k count rest bytes s less (same, wrong) =
    record { parts = pointed parts; rest = rest; before = s.many ∙ sym same; within = omega (arith, same, less); short = s.short; stand = s.stand; wrong = wrong }

pub part_refused : (f : ImageFault) (parts : List (Bor (List ℕ))) (i count : ℕ) (rest bytes : List ℕ) → Standing parts i rest bytes → i < count → FindsPart i (Err f) rest → FindsParts count (Err f) bytes
part_refused fault.Memory parts i count rest bytes s less h = tt
part_refused fault.ShortFront parts i count rest bytes s less h = h
part_refused fault.Magic parts i count rest bytes s less h = h
part_refused fault.Version parts i count rest bytes s less h = h
part_refused (fault.PartLength k) parts i count rest bytes s less h = wrong_at EndsInPart parts i k count rest bytes s less h
part_refused (fault.PartDigest k) parts i count rest bytes s less h = wrong_at HasOtherDigest parts i k count rest bytes s less h
part_refused fault.ShortEnd parts i count rest bytes s less h = h
part_refused fault.Digest parts i count rest bytes s less h = h
part_refused fault.Behind parts i count rest bytes s less h = h

-- ---- the whole

pub front_refused : (f : ImageFault) (bytes : List ℕ) → FindsFront (Err f) bytes → Refuses f bytes
front_refused fault.Memory bytes h = tt
front_refused fault.ShortFront bytes h = h
front_refused fault.Magic bytes h = h
front_refused fault.Version bytes h = h
front_refused (fault.PartLength k) bytes h = absurd h
front_refused (fault.PartDigest k) bytes h = absurd h
front_refused fault.ShortEnd bytes h = absurd h
front_refused fault.Digest bytes h = absurd h
front_refused fault.Behind bytes h = absurd h

pub parts_refused : (f : ImageFault) (count : ℕ) (rest bytes : List ℕ) → count < 2 ^ 64 → bytes ≡ front count ++ rest → FindsParts count (Err f) rest → Refuses f bytes
parts_refused fault.Memory count rest bytes fits stand h = tt
parts_refused fault.ShortFront count rest bytes fits stand h = absurd h
parts_refused fault.Magic count rest bytes fits stand h = absurd h
parts_refused fault.Version count rest bytes fits stand h = absurd h
parts_refused (fault.PartLength k) count rest bytes fits stand h = record { count = count; rest = rest; fits = fits; stand = stand; wrong = h }
parts_refused (fault.PartDigest k) count rest bytes fits stand h = record { count = count; rest = rest; fits = fits; stand = stand; wrong = h }
parts_refused fault.ShortEnd count rest bytes fits stand h = absurd h
parts_refused fault.Digest count rest bytes fits stand h = absurd h
parts_refused fault.Behind count rest bytes fits stand h = absurd h

-- all parts were found
pub record Found (parts : List (List ℕ)) (before rest bytes : List ℕ) : Type 0 where
  pub are : AreParts parts
  pub stand : bytes ≡ body parts ++ rest
  pub same : before ≡ body parts

pub all_found : (parts : List (Bor (List ℕ))) (count : ℕ) (behind rest bytes before : List ℕ) → count < 2 ^ 64 → bytes ≡ front count ++ behind
    → (length (pointed parts) ≡ count) × AreShort (pointed parts) × (behind ≡ flat_map part_written (pointed parts) ++ rest)
    → before ≡ take (length bytes - length rest) bytes → Found (pointed parts) before rest bytes
all_found parts count behind rest bytes before fits stand (many, short, is) cut =
    let whole : bytes ≡ body (pointed parts) ++ rest =
    stand
    ∙ ap (λ (l : List ℕ). front count ++ l) is
    ∙ sym (append_assoc (front count) (flat_map part_written (pointed parts)) rest)
    ∙ ap (λ (k : ℕ). (front k ++ flat_map part_written (pointed parts)) ++ rest) (sym many) in
    let long : length bytes - length rest ≡ length (body (pointed parts)) = omega (arith, ap length whole, length-append (body (pointed parts)) rest) in
    record {
      are = (omega (arith, many, fits), short);
      stand = whole;
      same = cut ∙ ap (λ (l : List ℕ). take (length bytes - length rest) l) whole ∙ ap (λ (k : ℕ). take k (body (pointed parts) ++ rest)) long ∙ take_body (body (pointed parts)) rest;
    }
  where
    take_body : (xs ys : List ℕ) → take (length xs) (xs ++ ys) ≡ xs
    take_body [] ys = refl
    take_body (x ∷ xs) ys = ap (λ (l : List ℕ). x ∷ l) (take_body xs ys)

pub end_refused : (f : ImageFault) (parts : List (List ℕ)) (before rest bytes : List ℕ) → Found parts before rest bytes → FindsEnd (Err f) before rest → Refuses f bytes
end_refused fault.Memory parts before rest bytes s h = tt
end_refused fault.ShortFront parts before rest bytes s h = absurd h
end_refused fault.Magic parts before rest bytes s h = absurd h
end_refused fault.Version parts before rest bytes s h = absurd h
end_refused (fault.PartLength k) parts before rest bytes s h = absurd h
end_refused (fault.PartDigest k) parts before rest bytes s h = absurd h
end_refused fault.ShortEnd parts before rest bytes s h = record { parts = parts; rest = rest; are = s.are; stand = s.stand; wrong = h }
end_refused fault.Digest parts before rest bytes s h =
    record { parts = parts; rest = rest; are = s.are; stand = s.stand; wrong = (h.0, λ e. h.1 (e ∙ ap sha256 (sym s.same))) }
end_refused fault.Behind parts before rest bytes s h =
    record { parts = parts; rest = rest; are = s.are; stand = s.stand; wrong = (h.0 ∙ ap sha256 s.same, h.1) }

pub whole_found : (parts : List (List ℕ)) (before rest bytes : List ℕ) → Found parts before rest bytes → rest ≡ sha256 before → AreParts parts × (bytes ≡ written parts)
whole_found parts before rest bytes s end = (s.are, s.stand ∙ ap (λ (l : List ℕ). body parts ++ l) (end ∙ ap sha256 s.same))
