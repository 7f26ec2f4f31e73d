-- Each field is read as it is written.
use Rattle.std.proofs.Common.{◌≡◌, ℕ, ◌^◌, ◌<◌, Bool, true, false, cond, ltb, eqb, nat_le, List, [], ◌∷◌, ◌++◌, Option, Some, None, Result, Ok, Err, refl, sym, ap, subst, ◌∙◌, arith}
use Rattle.std.specs.Int.{w32, w64, to_be_bytes}
use Rattle.std.proofs.lemmas.Bool.{ltb-true, lt-ltb, leb-true, le-leb, eqb-true}
use Rattle.gs_base.specs.MemberLaws.{bits_of-servers_where, eqb_other}
use Rattle.gs_base.specs.Members.{servers_where, has_bit, bits_of}
use Rattle.gs_base.specs.Refusals.{number_of}
use Rattle.gs_base.specs.Told.{detail_text, IsNumber}
use Rattle.gs_base.specs.declared.numbers.ReqId.{ReqId}
use Rattle.gs_base.specs.declared.refusal.Refusal.{Refusal}
use Rattle.gs_path.specs.Path.{Path, path_text}
use Rattle.gs_path.specs.Rules.{parse_hidden}
use Rattle.gs_path.specs.Element.{is_stored}
use Rattle.gs_path.proofs.PathLemmas.{path_text-read_by}
use Rattle.gs_lease.specs.declared.view.Term.{Term}
use Rattle.gs_master_record.proofs.Laws.{Reads, reads_both, reads_made, reads_number, reads_byte, reads_text, wide16, wide32, wide64, if_some, some_is, reads_same}
use Rattle.gs_master_record.proofs.Told.{told_tells, told_back, small}
use Rattle.gs_master_record.specs.Encoding.{number, path, members, request, refusal, term, settled, answered}
use Rattle.gs_master_record.specs.Writable.{IsHandle, IsServer, AreServers, IsText, IsPath, IsRequest, IsWritable, IsTerm, IsSettled, IsAnswered}
use Rattle.gs_master_record.specs.declared.entry.Answered.{Answered}
use Rattle.gs_master_record.specs.declared.entry.SettledView.{SettledView}
use Rattle.gs_master_record.specs.inner.Reading.{number_at, handle_of, handle_at, server_of, server_at, members_of, members_at, path_in, path_at, refusal_of, refusal_at, request_of, request_at, term_of, term_at, settled_of, settled_at, answered_of, answered_at}

abbrev pair : {A B : Type 0} → A → B → A × B
pair a b = (a, b)

pair_is : {A B : Type 0} {a b : A} {c d : B} → a ≡ b → c ≡ d → pair a c ≡ pair b d
pair_is p q = λ i. pair (p i) (q i)

pub n64 : Reads IsNumber number (number_at w64)
n64 = reads_number wide64

pub n32 : Reads (λ n. n < 2 ^ 32) (to_be_bytes w32) (number_at w32)
n32 = reads_number wide32

pub reads_handle : Reads IsHandle number handle_at
unfolding handle_at
reads_handle = reads_made n64 (record { back = back; forth = forth }) where
  back : (y : ℕ) → IsHandle y → IsNumber y × (handle_of y ≡ Some y)
  back y is = (is.1, rw (le-leb 1 y is.0) refl)

  forth : (x y : ℕ) → IsNumber x → handle_of x ≡ Some y → (y ≡ x) × IsHandle y
  forth x y is e = let k = if_some (nat_le 1 x) x y e in (sym k.1, subst IsHandle k.1 (leb-true 1 x k.0, is))

pub reads_server : Reads IsServer (λ s. s ∷ []) server_at
unfolding server_at
reads_server = reads_made reads_byte (record { back = back; forth = forth }) where
  back : (y : ℕ) → IsServer y → (y < 256) × (server_of y ≡ Some y)
  back y is = (omega arith, rw (lt-ltb y 16 is) refl)

  forth : (x y : ℕ) → x < 256 → server_of x ≡ Some y → (y ≡ x) × IsServer y
  forth x y is e = let k = if_some (ltb x 16) x y e in (sym k.1, subst IsServer k.1 (ltb-true x 16 k.0))

pub reads_members : Reads AreServers members members_at
unfolding members_at
reads_members = reads_made (reads_number wide16) (record { back = back; forth = forth }) where
  back : (y : List ℕ) → AreServers y → (bits_of y < 2 ^ 16) × (members_of (bits_of y) ≡ Some y)
  back y is =
      let k : bits_of y ≡ is.0 = ap bits_of is.2 ∙ bits_of-servers_where is.0 is.1 in
      (rw k is.1, rw k (ap Some (sym is.2)))

  forth : (x : ℕ) (y : List ℕ) → x < 2 ^ 16 → members_of x ≡ Some y → (bits_of y ≡ x) × AreServers y
  forth x y is e =
      let k = some_is (servers_where (has_bit x)) y e in
      (ap bits_of (sym k) ∙ bits_of-servers_where x is, (x, is, sym k))

path_some : (r : Result Path Refusal) (p : Path) → path_in r ≡ Some p → r ≡ Ok p
path_some (Ok q) p e = cc
path_some (Err f) p e = absurd cc

pub reads_path : Reads IsPath path path_at
unfolding path_at
reads_path = reads_made reads_text (record { back = back; forth = forth }) where
  back : (y : Path) → IsPath y → IsText (path_text y) × (path_in (parse_hidden (path_text y)) ≡ Some y)
  back y is = (is.0, rw is.1 refl)

  forth : (x : List ℕ) (y : Path) → IsText x → path_in (parse_hidden x) ≡ Some y → (path_text y ≡ x) × IsPath y
  forth x y is e =
      let read = path_some (parse_hidden x) y e in
      let same = path_text-read_by is_stored x y read in
      (same, (rw same is, rw same read))

pub reads_refusal : Reads IsWritable refusal refusal_at
unfolding refusal_at
reads_refusal = reads_made (reads_both reads_byte reads_text) (record { back = back; forth = forth }) where
  back : (y : Refusal) → IsWritable y → ((number_of y < 256) × IsText (detail_text y)) × (refusal_of (number_of y, detail_text y) ≡ Some y)
  back y is = ((let h = small y in omega arith, is.1), told_back y is.0)

  forth : (x : ℕ × List ℕ) (y : Refusal) → (x.0 < 256) × IsText x.1 → refusal_of x ≡ Some y → ((number_of y, detail_text y) ≡ x) × IsWritable y
  forth x y is e = let k = told_tells x.0 x.1 y e in (pair_is k.1.0 k.1.1, (k.0, rw k.1.1 is.1))

pub reads_request : Reads IsRequest request request_at
unfolding request_at
reads_request = reads_made (reads_both n32 n64) (record { back = λ y is. (is, refl); forth = forth }) where
  forth : (x : ℕ × ℕ) (y : ReqId) → (x.0 < 2 ^ 32) × IsNumber x.1 → request_of x ≡ Some y → ((y.client.0, y.number) ≡ x) × IsRequest y
  forth x y is e =
      let k = some_is (record { client = record { 0 = x.0 }; number = x.1 }) y e in
      subst (λ (z : ReqId). ((z.client.0, z.number) ≡ x) × IsRequest z) k (refl, is)

abbrev pub term_fields : Option Term → ℕ × ℕ
term_fields None = (255, 0)
term_fields (Some t) = (t.primary, t.end.0)

pub reads_term : Reads IsTerm term term_at
unfolding term_at
reads_term = reads_same same (reads_made (reads_both reads_byte n64) (record { back = back; forth = λ x y is e. forth x.0 x.1 (eqb x.0 255) refl (eqb x.1 0) refl (ltb x.0 16) refl y is.1 e })) where
  back : (y : Option Term) → IsTerm y → (((term_fields y).0 < 256) × IsNumber (term_fields y).1) × (term_of (term_fields y) ≡ Some y)
  back None is = ((omega arith, omega arith), refl)
  back (Some t) is =
      let other : eqb t.primary 255 ≡ false = eqb_other t.primary 255 (λ e. omega arith) in
      ((let h = is.0 in omega arith, is.1), rw (other, lt-ltb t.primary 16 is.0) refl)

  forth : (p e : ℕ) (b : Bool) → eqb p 255 ≡ b → (c : Bool) → eqb e 0 ≡ c → (d : Bool) → ltb p 16 ≡ d → (y : Option Term) → IsNumber e
      → cond b (cond c (Some None) None) (cond d (Some (Some (record { primary = p; end = record { 0 = e } }))) None) ≡ Some y → (term_fields y ≡ (p, e)) × IsTerm y
  forth p e true h true k d l y is r =
      subst (λ (z : Option Term). (term_fields z ≡ (p, e)) × IsTerm z) (some_is None y r) (pair_is (sym (eqb-true p 255 h)) (sym (eqb-true e 0 k)), tt)
  forth p e true h false k d l y is r = absurd cc
  forth p e false h c k true l y is r =
      subst (λ (z : Option Term). (term_fields z ≡ (p, e)) × IsTerm z) (some_is (Some (record { primary = p; end = record { 0 = e } })) y r) (refl, (ltb-true p 16 l, is))
  forth p e false h c k false l y is r = absurd cc

  same : (y : Option Term) → ((term_fields y).0 ∷ []) ++ number (term_fields y).1 ≡ term y
  same None = refl
  same (Some t) = refl

abbrev pub settled_fields : SettledView → ℕ × (ℕ × (ℕ × (ℕ × (List ℕ × Option Term))))
settled_fields v = (v.handle, (v.view.stamp.epoch, (v.view.stamp.version, (v.view.count, (v.view.members, v.view.term)))))

pub reads_settled : Reads IsSettled settled settled_at
unfolding settled_at
reads_settled = reads_made (reads_both reads_handle (reads_both n64 (reads_both n64 (reads_both n64 (reads_both reads_members reads_term))))) (record { back = λ y is. (is, refl); forth = forth }) where
  forth : (x : ℕ × (ℕ × (ℕ × (ℕ × (List ℕ × Option Term))))) (y : SettledView) → IsHandle x.0 × (IsNumber x.1.0 × (IsNumber x.1.1.0 × (IsNumber x.1.1.1.0 × (AreServers x.1.1.1.1.0 × IsTerm x.1.1.1.1.1)))) → settled_of x ≡ Some y → (settled_fields y ≡ x) × IsSettled y
  forth x y is e =
      let k = some_is (record { handle = x.0; view = record { stamp = record { epoch = x.1.0; version = x.1.1.0 }; count = x.1.1.1.0; members = x.1.1.1.1.0; term = x.1.1.1.1.1 } }) y e in
      subst (λ (z : SettledView). (settled_fields z ≡ x) × IsSettled z) k (refl, is)

pub reads_answered : Reads IsAnswered answered answered_at
unfolding answered_at
reads_answered = reads_made (reads_both reads_handle reads_members) (record { back = λ y is. (is, refl); forth = forth }) where
  forth : (x : ℕ × List ℕ) (y : Answered) → IsHandle x.0 × AreServers x.1 → answered_of x ≡ Some y → ((y.handle, y.members) ≡ x) × IsAnswered y
  forth x y is e =
      let k = some_is (record { handle = x.0; members = x.1 }) y e in
      subst (λ (z : Answered). ((z.handle, z.members) ≡ x) × IsAnswered z) k (refl, is)
