-- What is read is what was written, and what was written is read again: for a reader made of others.
use Rattle.std.proofs.Common.{◌≡◌, ℕ, zero, suc, ◌+◌, ◌^◌, ◌<◌, ◌≤◌, Bool, true, false, cond, eqb, ltb, List, [], ◌∷◌, ◌++◌, length, get_or, take, drop, Option, Some, None, refl, sym, ap, subst, ◌∙◌, append_assoc, arith, inl, inr}
use Rattle.std.specs.Prelude.{⊤}
use Rattle.std.specs.Int.{Width, w16, w32, w64, byte_len, from_be_bytes, to_be_bytes}
use Rattle.std.specs.List.{flat_map, AllByRecursion}
use Rattle.std.specs.Str.{is_utf8}
use Rattle.std.proofs.lemmas.Bool.{cases_lt, ltb-false, le-ltb, eqb-true}
use Rattle.std.proofs.lemmas.List.{take_at, drop_at, take-append-drop, length-append, length-take, get_or-drop, get_or-take, get_or_past}
use Rattle.std.proofs.lemmas.Nat.{be_bytes_2, be_bytes_4, be_bytes_8, from_be_bytes-to_be_bytes_2, from_be_bytes-to_be_bytes_4, from_be_bytes-to_be_bytes_8}
use Rattle.gs_base.specs.Told.{IsNumber}
use Rattle.gs_base.specs.declared.numbers.Stamp.{Stamp}
use Rattle.gs_fields.specs.Encoding.{number, text, long_bytes, list, long_list, flag_number, flag, option, stamp}
use Rattle.gs_fields.specs.Writable.{IsText, AreLongBytes, AreItems, AreLongItems, IsOption, IsStamp}
use Rattle.gs_fields.specs.Reading.{◌>>=◌, Reader, both, made, times, byte_at, number_at, bytes_at, text_at, long_bytes_at, list_at, long_list_at, flag_of, flag_at, some_of, option_at, stamp_of, stamp_at}

abbrev pub IsBytes : List ℕ → Type 0
IsBytes bytes = (i : ℕ) → get_or bytes i 0 < 256

IsBytes-drop : (n : ℕ) (bytes : List ℕ) → IsBytes bytes → IsBytes (drop n bytes)
IsBytes-drop n bytes h i = rw get_or-drop (h (n + i))

IsBytes-take : (n : ℕ) (bytes : List ℕ) → IsBytes bytes → IsBytes (take n bytes)
IsBytes-take n bytes h i =
    elim (cases_lt i n) [
      | inl lt ↦ rw (get_or-take n bytes i 0 lt) (h i)
      | inr le ↦ rw (get_or_past (take n bytes) i 0 (omega (arith, length-take n bytes))) (omega arith)
    ]

pub IsBytes-rest : (b : ℕ) (bytes : List ℕ) → IsBytes (b ∷ bytes) → IsBytes bytes
IsBytes-rest b bytes h i = h (suc i)

-- the value of a step that gave one
pub bind_some : {A B : Type 0} (r : Option A) (f : A → Option B) (y : B) → (r >>= f) ≡ Some y → (x : A) × (r ≡ Some x) × (f x ≡ Some y)
bind_some (Some x) f y e = (x, refl, e)
bind_some None f y e = absurd cc

-- tests that a value passed
pub unless_some : {A : Type 0} (b : Bool) (x y : A) → cond b None (Some x) ≡ Some y → (b ≡ false) × (x ≡ y)
unless_some true x y e = absurd cc
unless_some false x y e = (refl, cc)

pub if_some : {A : Type 0} (b : Bool) (x y : A) → cond b (Some x) None ≡ Some y → (b ≡ true) × (x ≡ y)
if_some true x y e = (refl, cc)
if_some false x y e = absurd cc

pub some_is : {A : Type 0} (x y : A) → Some x ≡ Some y → x ≡ y
some_is x y e = cc

-- what a reader took from the front of some bytes
pub record Takes {A : Type 0} (Is : A → Type 0) (write : A → List ℕ) (bytes : List ℕ) (x : A) (rest : List ℕ) : Type 0 where
  pub parts : bytes ≡ write x ++ rest
  pub left : IsBytes rest
  pub is : Is x

-- a reader reads what is written so
pub record Reads {A : Type 0} (Is : A → Type 0) (write : A → List ℕ) (read : Reader A) : Type 0 where
  pub again : (x : A) (rest : List ℕ) → Is x → read (write x ++ rest) ≡ Some (x, rest)
  pub takes : (bytes : List ℕ) (x : A) (rest : List ℕ) → IsBytes bytes → read bytes ≡ Some (x, rest) → Takes Is write bytes x rest

-- ---- made of others

abbrev pub Both : {A B : Type 0} → (A → Type 0) → (B → Type 0) → A × B → Type 0
Both First Second x = First x.0 × Second x.1

abbrev pub write_both : {A B : Type 0} → (A → List ℕ) → (B → List ℕ) → A × B → List ℕ
write_both first second x = first x.0 ++ second x.1

pub reads_both : {A B : Type 0} {IsA : A → Type 0} {IsB : B → Type 0} {a : A → List ℕ} {b : B → List ℕ} {first : Reader A} {second : Reader B} → Reads IsA a first → Reads IsB b second → Reads (Both IsA IsB) (write_both a b) (both first second)
reads_both {A = A} {B = B} {IsA = IsA} {IsB = IsB} {a = a} {b = b} {first = first} {second = second} p q = record { again = again; takes = takes } where
  again : (x : A × B) (rest : List ℕ) → Both IsA IsB x → both first second (write_both a b x ++ rest) ≡ Some (x, rest)
  again x rest is =
      ap (both first second) (append_assoc (a x.0) (b x.1) rest)
      ∙ rw (p.again x.0 (b x.1 ++ rest) is.0) (rw (q.again x.1 rest is.1) refl)

  takes : (bytes : List ℕ) (x : A × B) (rest : List ℕ) → IsBytes bytes → both first second bytes ≡ Some (x, rest) → Takes (Both IsA IsB) (write_both a b) bytes x rest
  takes bytes x rest h e =
      let s = bind_some (first bytes) (λ x. second x.1 >>= λ y. Some ((x.0, y.0), y.1)) (x, rest) e in
      let t = bind_some (second s.0.1) (λ y. Some ((s.0.0, y.0), y.1)) (x, rest) s.2 in
      let one = p.takes bytes s.0.0 s.0.1 h s.1 in
      let two = q.takes s.0.1 t.0.0 t.0.1 one.left t.1 in
      let whole : Takes (Both IsA IsB) (write_both a b) bytes (s.0.0, t.0.0) t.0.1 = record {
        parts = one.parts ∙ ap (λ (z : List ℕ). a s.0.0 ++ z) two.parts ∙ sym (append_assoc (a s.0.0) (b t.0.0) t.0.1);
        left = two.left;
        is = (one.is, two.is);
      } in
      subst (λ (y : (A × B) × List ℕ). Takes (Both IsA IsB) (write_both a b) bytes y.0 y.1) (some_is ((s.0.0, t.0.0), t.0.1) (x, rest) t.2) whole

-- a value is made of its fields, and of no others
pub record Makes {A B : Type 0} (IsA : A → Type 0) (IsB : B → Type 0) (fields : B → A) (of : A → Option B) : Type 0 where
  pub back : (y : B) → IsB y → IsA (fields y) × (of (fields y) ≡ Some y)
  pub forth : (x : A) (y : B) → IsA x → of x ≡ Some y → (fields y ≡ x) × IsB y

pub reads_made : {A B : Type 0} {IsA : A → Type 0} {IsB : B → Type 0} {a : A → List ℕ} {reader : Reader A} {fields : B → A} {of : A → Option B} → Reads IsA a reader → Makes IsA IsB fields of → Reads IsB (λ y. a (fields y)) (made of reader)
reads_made {A = A} {B = B} {IsA = IsA} {IsB = IsB} {a = a} {reader = reader} {fields = fields} {of = of} p m = record { again = again; takes = takes } where
  again : (y : B) (rest : List ℕ) → IsB y → made of reader (a (fields y) ++ rest) ≡ Some (y, rest)
  again y rest is = let k = m.back y is in rw (p.again (fields y) rest k.0) (rw k.1 refl)

  takes : (bytes : List ℕ) (y : B) (rest : List ℕ) → IsBytes bytes → made of reader bytes ≡ Some (y, rest) → Takes IsB (λ y. a (fields y)) bytes y rest
  takes bytes y rest h e =
      let s = bind_some (reader bytes) (λ x. of x.0 >>= λ y. Some (y, x.1)) (y, rest) e in
      let t = bind_some (of s.0.0) (λ y. Some (y, s.0.1)) (y, rest) s.2 in
      let one = p.takes bytes s.0.0 s.0.1 h s.1 in
      let k = m.forth s.0.0 t.0 one.is t.1 in
      let whole : Takes IsB (λ y. a (fields y)) bytes t.0 s.0.1 = record { parts = one.parts ∙ ap (λ (z : A). a z ++ s.0.1) (sym k.0); left = one.left; is = k.1 } in
      subst (λ (z : B × List ℕ). Takes IsB (λ y. a (fields y)) bytes z.0 z.1) (some_is (t.0, s.0.1) (y, rest) t.2) whole

-- ---- numbers

pub record IsWide (w : Width) (limit : ℕ) : Type 0 where
  pub len : (n : ℕ) → length (to_be_bytes w n) ≡ byte_len w
  pub back : (bytes : List ℕ) → length bytes ≡ byte_len w → IsBytes bytes → to_be_bytes w (from_be_bytes w bytes) ≡ bytes
  pub again : (n : ℕ) → n < limit → from_be_bytes w (to_be_bytes w n) ≡ n
  pub below : (bytes : List ℕ) → IsBytes bytes → from_be_bytes w bytes < limit

pub wide16 : IsWide w16 (2 ^ 16)
wide16 = record {
  len = λ n. refl;
  back = λ bytes len fits. be_bytes_2 bytes _ len fits refl;
  again = λ n lt. from_be_bytes-to_be_bytes_2 n lt;
  below = λ bytes fits. omega (arith, fits 0, fits 1);
}

pub wide32 : IsWide w32 (2 ^ 32)
wide32 = record {
  len = λ n. refl;
  back = λ bytes len fits. be_bytes_4 bytes _ len fits refl;
  again = λ n lt. from_be_bytes-to_be_bytes_4 n lt;
  below = λ bytes fits. omega (arith, fits 0, fits 1, fits 2, fits 3);
}

pub wide64 : IsWide w64 (2 ^ 64)
wide64 = record {
  len = λ n. refl;
  back = λ bytes len fits. be_bytes_8 bytes _ len fits refl;
  again = λ n lt. from_be_bytes-to_be_bytes_8 n lt;
  below = λ bytes fits. omega (arith, fits 0, fits 1, fits 2, fits 3, fits 4, fits 5, fits 6, fits 7);
}

pub reads_number : {w : Width} {limit : ℕ} → IsWide w limit → Reads (λ n. n < limit) (to_be_bytes w) (number_at w)
unfolding number_at
reads_number {w = w} {limit = limit} wide = record { again = again; takes = takes } where
  again : (n : ℕ) (rest : List ℕ) → n < limit → number_at w (to_be_bytes w n ++ rest) ≡ Some (n, rest)
  again n rest lt =
      let len = wide.len n in
      let long : ltb (length (to_be_bytes w n ++ rest)) (byte_len w) ≡ false = le-ltb _ _ (omega (arith, length-append (to_be_bytes w n) rest)) in
      rw (long, take_at (to_be_bytes w n) rest (byte_len w) len, drop_at (to_be_bytes w n) rest (byte_len w) len, wide.again n lt) refl

  takes : (bytes : List ℕ) (n : ℕ) (rest : List ℕ) → IsBytes bytes → number_at w bytes ≡ Some (n, rest) → Takes (λ n. n < limit) (to_be_bytes w) bytes n rest
  takes bytes n rest h e =
      let g = unless_some (ltb (length bytes) (byte_len w)) (from_be_bytes w (take (byte_len w) bytes), drop (byte_len w) bytes) (n, rest) e in
      let long : byte_len w ≤ length bytes = ltb-false _ _ g.0 in
      let n-is : from_be_bytes w (take (byte_len w) bytes) ≡ n = ap (λ (p : ℕ × List ℕ). p.0) g.1 in
      let rest-is : drop (byte_len w) bytes ≡ rest = ap (λ (p : ℕ × List ℕ). p.1) g.1 in
      let front : to_be_bytes w n ≡ take (byte_len w) bytes = rw (← n-is) (wide.back (take (byte_len w) bytes) (omega (arith, length-take (byte_len w) bytes)) (IsBytes-take (byte_len w) bytes h)) in
      record { parts = rw (front, ← rest-is) (sym (take-append-drop (byte_len w) bytes)); left = rw (← rest-is) (IsBytes-drop (byte_len w) bytes h); is = rw (← n-is) (wide.below (take (byte_len w) bytes) (IsBytes-take (byte_len w) bytes h)) }

pub reads_byte : Reads (λ n. n < 256) (λ n. n ∷ []) byte_at
unfolding byte_at
reads_byte = record { again = λ x rest is. refl; takes = takes } where
  takes : (bytes : List ℕ) (n : ℕ) (rest : List ℕ) → IsBytes bytes → byte_at bytes ≡ Some (n, rest) → Takes (λ n. n < 256) (λ n. n ∷ []) bytes n rest
  takes [] n rest h e = absurd cc
  takes (b ∷ bytes) n rest h e =
      subst (λ (y : ℕ × List ℕ). Takes (λ n. n < 256) (λ n. n ∷ []) (b ∷ bytes) y.0 y.1) (some_is (b, bytes) (n, rest) e) (record { parts = refl; left = IsBytes-rest b bytes h; is = h 0 })

-- ---- texts and lists

pub reads_text : Reads IsText text text_at
unfolding text_at bytes_at
reads_text = record { again = again; takes = takes } where
  again : (t rest : List ℕ) → IsText t → text_at (text t ++ rest) ≡ Some (t, rest)
  again t rest is =
      let long : ltb (length (t ++ rest)) (length t) ≡ false = le-ltb _ _ (omega (arith, length-append t rest)) in
      rw ((reads_number wide16).again (length t) (t ++ rest) is.0, long, take_at t rest (length t) refl, drop_at t rest (length t) refl, is.1) refl

  takes : (bytes t rest : List ℕ) → IsBytes bytes → text_at bytes ≡ Some (t, rest) → Takes IsText text bytes t rest
  takes bytes t rest h e =
      let b = bind_some (number_at w16 bytes) (λ n. bytes_at n.0 n.1 >>= λ t. cond (is_utf8 t.0) (Some t) None) (t, rest) e in
      let n = b.0 in
      let d = bind_some (bytes_at n.0 n.1) (λ t. cond (is_utf8 t.0) (Some t) None) (t, rest) b.2 in
      let u = if_some (is_utf8 d.0.0) d.0 (t, rest) d.2 in
      let one = (reads_number wide16).takes bytes n.0 n.1 h b.1 in
      let g = unless_some (ltb (length n.1) n.0) (take n.0 n.1, drop n.0 n.1) d.0 d.1 in
      let long : n.0 ≤ length n.1 = ltb-false _ _ g.0 in
      let len : length (take n.0 n.1) ≡ n.0 = omega (arith, length-take n.0 n.1) in
      let front : bytes ≡ text (take n.0 n.1) ++ drop n.0 n.1 =
      one.parts ∙ ap (λ (z : List ℕ). to_be_bytes w16 n.0 ++ z) (sym (take-append-drop n.0 n.1))
      ∙ ap (λ (k : ℕ). to_be_bytes w16 k ++ (take n.0 n.1 ++ drop n.0 n.1)) (sym len)
      ∙ sym (append_assoc (to_be_bytes w16 (length (take n.0 n.1))) (take n.0 n.1) (drop n.0 n.1)) in
      let same : (take n.0 n.1, drop n.0 n.1) ≡ (t, rest) = g.1 ∙ u.1 in
      let utf8 : is_utf8 (take n.0 n.1) ≡ true = ap (λ (y : List ℕ × List ℕ). is_utf8 y.0) g.1 ∙ u.0 in
      let whole : Takes IsText text bytes (take n.0 n.1) (drop n.0 n.1) = record { parts = front; left = IsBytes-drop n.0 n.1 one.left; is = (rw len one.is, utf8) } in
      subst (λ (y : List ℕ × List ℕ). Takes IsText text bytes y.0 y.1) same whole

times_again : {A : Type 0} {Is : A → Type 0} {write : A → List ℕ} {item : Reader A} → Reads Is write item → (xs : List A) (rest : List ℕ) → AllByRecursion Is xs → times item (length xs) (flat_map write xs ++ rest) ≡ Some (xs, rest)
times_again p [] rest is = refl
times_again {write = write} {item = item} p (x ∷ xs) rest is =
    ap (times item (suc (length xs))) (append_assoc (write x) (flat_map write xs) rest)
    ∙ rw (p.again x (flat_map write xs ++ rest) is.0) (rw (times_again p xs rest is.1) refl)

record Listed {A : Type 0} (Is : A → Type 0) (write : A → List ℕ) (n : ℕ) (bytes : List ℕ) (xs : List A) (rest : List ℕ) : Type 0 where
  parts : bytes ≡ flat_map write xs ++ rest
  left : IsBytes rest
  is : AllByRecursion Is xs
  many : length xs ≡ n

times_takes : {A : Type 0} {Is : A → Type 0} {write : A → List ℕ} {item : Reader A} → Reads Is write item → (n : ℕ) (bytes : List ℕ) (xs : List A) (rest : List ℕ) → IsBytes bytes → times item n bytes ≡ Some (xs, rest) → Listed Is write n bytes xs rest
times_takes {A = A} {Is = Is} {write = write} p zero bytes xs rest h e =
    subst (λ (y : List A × List ℕ). Listed Is write 0 bytes y.0 y.1) (some_is ([], bytes) (xs, rest) e) (record { parts = refl; left = h; is = tt; many = refl })
times_takes {A = A} {Is = Is} {write = write} {item = item} p (suc n) bytes xs rest h e =
    let s = bind_some (item bytes) (λ x. times item n x.1 >>= λ xs. Some (x.0 ∷ xs.0, xs.1)) (xs, rest) e in
    let t = bind_some (times item n s.0.1) (λ xs. Some (s.0.0 ∷ xs.0, xs.1)) (xs, rest) s.2 in
    let one = p.takes bytes s.0.0 s.0.1 h s.1 in
    let more = times_takes p n s.0.1 t.0.0 t.0.1 one.left t.1 in
    let whole : Listed Is write (suc n) bytes (s.0.0 ∷ t.0.0) t.0.1 = record {
      parts = one.parts ∙ ap (λ (z : List ℕ). write s.0.0 ++ z) more.parts ∙ sym (append_assoc (write s.0.0) (flat_map write t.0.0) t.0.1);
      left = more.left;
      is = (one.is, more.is);
      many = ap suc more.many;
    } in
    subst (λ (y : List A × List ℕ). Listed Is write (suc n) bytes y.0 y.1) (some_is (s.0.0 ∷ t.0.0, t.0.1) (xs, rest) t.2) whole

pub reads_list : {A : Type 0} {Is : A → Type 0} {write : A → List ℕ} {item : Reader A} → Reads Is write item → Reads (AreItems Is) (list write) (list_at item)
unfolding list_at
reads_list {A = A} {Is = Is} {write = write} {item = item} p = record { again = again; takes = takes } where
  again : (xs : List A) (rest : List ℕ) → AreItems Is xs → list_at item (list write xs ++ rest) ≡ Some (xs, rest)
  again xs rest is =
      ap (λ (z : List ℕ). number_at w32 z >>= λ n. times item n.0 n.1) (append_assoc (to_be_bytes w32 (length xs)) (flat_map write xs) rest)
      ∙ rw ((reads_number wide32).again (length xs) (flat_map write xs ++ rest) is.0) (times_again p xs rest is.1)

  takes : (bytes : List ℕ) (xs : List A) (rest : List ℕ) → IsBytes bytes → list_at item bytes ≡ Some (xs, rest) → Takes (AreItems Is) (list write) bytes xs rest
  takes bytes xs rest h e =
      let b = bind_some (number_at w32 bytes) (λ n. times item n.0 n.1) (xs, rest) e in
      let one = (reads_number wide32).takes bytes b.0.0 b.0.1 h b.1 in
      let more = times_takes p b.0.0 b.0.1 xs rest one.left b.2 in
      record {
        parts = one.parts ∙ ap (λ (k : ℕ). to_be_bytes w32 k ++ b.0.1) (sym more.many) ∙ ap (λ (z : List ℕ). to_be_bytes w32 (length xs) ++ z) more.parts ∙ sym (append_assoc (to_be_bytes w32 (length xs)) (flat_map write xs) rest);
        left = more.left;
        is = (rw more.many one.is, more.is);
      }

pub reads_long_list : {A : Type 0} {Is : A → Type 0} {write : A → List ℕ} {item : Reader A} → Reads Is write item → Reads (AreLongItems Is) (long_list write) (long_list_at item)
unfolding long_list_at
reads_long_list {A = A} {Is = Is} {write = write} {item = item} p = record { again = again; takes = takes } where
  again : (xs : List A) (rest : List ℕ) → AreLongItems Is xs → long_list_at item (long_list write xs ++ rest) ≡ Some (xs, rest)
  again xs rest is =
      ap (λ (z : List ℕ). number_at w64 z >>= λ n. times item n.0 n.1) (append_assoc (to_be_bytes w64 (length xs)) (flat_map write xs) rest)
      ∙ rw ((reads_number wide64).again (length xs) (flat_map write xs ++ rest) is.0) (times_again p xs rest is.1)

  takes : (bytes : List ℕ) (xs : List A) (rest : List ℕ) → IsBytes bytes → long_list_at item bytes ≡ Some (xs, rest) → Takes (AreLongItems Is) (long_list write) bytes xs rest
  takes bytes xs rest h e =
      let b = bind_some (number_at w64 bytes) (λ n. times item n.0 n.1) (xs, rest) e in
      let one = (reads_number wide64).takes bytes b.0.0 b.0.1 h b.1 in
      let more = times_takes p b.0.0 b.0.1 xs rest one.left b.2 in
      record {
        parts = one.parts ∙ ap (λ (k : ℕ). to_be_bytes w64 k ++ b.0.1) (sym more.many) ∙ ap (λ (z : List ℕ). to_be_bytes w64 (length xs) ++ z) more.parts ∙ sym (append_assoc (to_be_bytes w64 (length xs)) (flat_map write xs) rest);
        left = more.left;
        is = (rw more.many one.is, more.is);
      }

-- a reader reads what is written the same way
pub reads_same : {A : Type 0} {Is : A → Type 0} {a b : A → List ℕ} {reader : Reader A} → ((x : A) → a x ≡ b x) → Reads Is a reader → Reads Is b reader
reads_same {Is = Is} {reader = reader} h p = subst (λ w. Reads Is w reader) (λ i x. h x i) p

-- ---- numbers of four and of eight bytes

pub n32 : Reads (λ n. n < 2 ^ 32) (to_be_bytes w32) (number_at w32)
n32 = reads_number wide32

pub n64 : Reads IsNumber number (number_at w64)
n64 = reads_number wide64

-- ---- bytes

pub reads_bytes : (n : ℕ) → Reads (λ b. length b ≡ n) (λ b. b) (bytes_at n)
unfolding bytes_at
reads_bytes n = record { again = again; takes = takes } where
  again : (b rest : List ℕ) → length b ≡ n → bytes_at n (b ++ rest) ≡ Some (b, rest)
  again b rest is =
      let long : ltb (length (b ++ rest)) n ≡ false = le-ltb _ _ (omega (arith, length-append b rest)) in
      rw (long, take_at b rest n is, drop_at b rest n is) refl

  takes : (bytes b rest : List ℕ) → IsBytes bytes → bytes_at n bytes ≡ Some (b, rest) → Takes (λ b. length b ≡ n) (λ b. b) bytes b rest
  takes bytes b rest h e =
      let g = unless_some (ltb (length bytes) n) (take n bytes, drop n bytes) (b, rest) e in
      let long : n ≤ length bytes = ltb-false _ _ g.0 in
      let whole : Takes (λ b. length b ≡ n) (λ b. b) bytes (take n bytes) (drop n bytes) = record {
        parts = sym (take-append-drop n bytes);
        left = IsBytes-drop n bytes h;
        is = omega (arith, length-take n bytes);
      } in
      subst (λ (y : List ℕ × List ℕ). Takes (λ b. length b ≡ n) (λ b. b) bytes y.0 y.1) g.1 whole

pub reads_long_bytes : Reads AreLongBytes long_bytes long_bytes_at
unfolding long_bytes_at
reads_long_bytes = record { again = again; takes = takes } where
  again : (b rest : List ℕ) → AreLongBytes b → long_bytes_at (long_bytes b ++ rest) ≡ Some (b, rest)
  again b rest is =
      ap (λ (z : List ℕ). number_at w64 z >>= λ n. bytes_at n.0 n.1) (append_assoc (to_be_bytes w64 (length b)) b rest)
      ∙ rw (n64.again (length b) (b ++ rest) is) ((reads_bytes (length b)).again b rest refl)

  takes : (bytes b rest : List ℕ) → IsBytes bytes → long_bytes_at bytes ≡ Some (b, rest) → Takes AreLongBytes long_bytes bytes b rest
  takes bytes b rest h e =
      let s = bind_some (number_at w64 bytes) (λ n. bytes_at n.0 n.1) (b, rest) e in
      let one = n64.takes bytes s.0.0 s.0.1 h s.1 in
      let two = (reads_bytes s.0.0).takes s.0.1 b rest one.left s.2 in
      record {
        parts = one.parts ∙ ap (λ (k : ℕ). to_be_bytes w64 k ++ s.0.1) (sym two.is) ∙ ap (λ (z : List ℕ). to_be_bytes w64 (length b) ++ z) two.parts ∙ sym (append_assoc (to_be_bytes w64 (length b)) b rest);
        left = two.left;
        is = rw two.is one.is;
      }

-- ---- flags, options, stamps

pub reads_flag : Reads (λ p. ⊤) flag flag_at
unfolding flag_at
reads_flag = reads_made reads_byte (record { back = back; forth = λ x y is e. forth x (eqb x 0) refl (eqb x 1) refl y e }) where
  back : (y : Bool) → ⊤ → (flag_number y < 256) × (flag_of (flag_number y) ≡ Some y)
  back true is = (omega arith, refl)
  back false is = (omega arith, refl)

  forth : (x : ℕ) (a : Bool) → eqb x 0 ≡ a → (b : Bool) → eqb x 1 ≡ b → (y : Bool) → cond a (Some false) (cond b (Some true) None) ≡ Some y → (flag_number y ≡ x) × ⊤
  forth x true p b q y e = (ap flag_number (sym (some_is false y e)) ∙ sym (eqb-true x 0 p), tt)
  forth x false p true q y e = (ap flag_number (sym (some_is true y e)) ∙ sym (eqb-true x 1 q), tt)
  forth x false p false q y e = absurd cc

pub reads_option : {A : Type 0} {Is : A → Type 0} {write : A → List ℕ} {item : Reader A} → Reads Is write item → Reads (IsOption Is) (option write) (option_at item)
unfolding option_at byte_at
reads_option {A = A} {Is = Is} {write = write} {item = item} p = record { again = again; takes = takes } where
  again : (x : Option A) (rest : List ℕ) → IsOption Is x → option_at item (option write x ++ rest) ≡ Some (x, rest)
  again None rest is = refl
  again (Some x) rest is = rw (p.again x rest is) refl

  takes : (bytes : List ℕ) (x : Option A) (rest : List ℕ) → IsBytes bytes → option_at item bytes ≡ Some (x, rest) → Takes (IsOption Is) (option write) bytes x rest
  takes [] x rest h e = absurd cc
  takes (b ∷ bytes) x rest h e = by (eqb b 0) refl (eqb b 1) refl e
    where
      by : (t : Bool) → eqb b 0 ≡ t → (u : Bool) → eqb b 1 ≡ u → cond t (Some (None, bytes)) (cond u (made some_of item bytes) None) ≡ Some (x, rest) → Takes (IsOption Is) (option write) (b ∷ bytes) x rest
      by true none u some e =
          subst (λ (y : Option A × List ℕ). Takes (IsOption Is) (option write) (b ∷ bytes) y.0 y.1) (some_is (None, bytes) (x, rest) e)
          (record { parts = ap (λ (k : ℕ). k ∷ bytes) (eqb-true b 0 none); left = IsBytes-rest b bytes h; is = tt })
      by false none true some e =
          let s = bind_some (item bytes) (λ x. some_of x.0 >>= λ y. Some (y, x.1)) (x, rest) e in
          let one = p.takes bytes s.0.0 s.0.1 (IsBytes-rest b bytes h) s.1 in
          subst (λ (y : Option A × List ℕ). Takes (IsOption Is) (option write) (b ∷ bytes) y.0 y.1) (some_is (Some s.0.0, s.0.1) (x, rest) s.2)
          (record { parts = ap (λ (k : ℕ). k ∷ bytes) (eqb-true b 1 some) ∙ ap (λ (z : List ℕ). 1 ∷ z) one.parts; left = one.left; is = one.is })
      by false none false some e = absurd cc

abbrev stamp_fields : Stamp → ℕ × ℕ
stamp_fields s = (s.epoch, s.version)

pub reads_stamp : Reads IsStamp stamp stamp_at
unfolding stamp_at
reads_stamp = reads_made {fields = stamp_fields} (reads_both n64 n64) (record { back = λ y is. (is, refl); forth = forth }) where
  forth : (x : ℕ × ℕ) (y : Stamp) → IsNumber x.0 × IsNumber x.1 → stamp_of x ≡ Some y → (stamp_fields y ≡ x) × IsStamp y
  forth x y is e = subst (λ (z : Stamp). (stamp_fields z ≡ x) × IsStamp z) (some_is (record { epoch = x.0; version = x.1 }) y e) (refl, is)
