-- A store is read as it is written.
use Rattle.std.proofs.Common.{◌≡◌, ℕ, ◌+◌, ◌++◌, Bool, true, false, cond, eqb, List, [], ◌∷◌, length, map, Option, Some, None, refl, sym, ap, subst, ◌∙◌}
use Rattle.std.proofs.lemmas.Bool.{eqb-true}
use Rattle.std.proofs.lemmas.List.{append-nil, nil_from_length, length-map}
use Rattle.std.specs.List.{AllByRecursion}
use Rattle.gs_base.specs.MemberLaws.{eqb_itself}
use Rattle.gs_parts_image.specs.Encoding.{head, parts}
use Rattle.gs_parts_image.specs.Reading.{head_at, servers_in, counted_in, store_in}
use Rattle.gs_parts_image.specs.Stores.{Head, Store, store_with}
use Rattle.gs_parts_image.specs.Writable.{AreServers, IsStore}
use Rattle.gs_parts_image.proofs.Heads.{IsHead, reads_head}
use Rattle.gs_fields.specs.Laws.{IsBytes, Reads, bind_some, if_some, some_is}
use Rattle.gs_fields.specs.Reading.{◌>>=◌, Reader, whole}
use Rattle.gs_server.specs.Servers.{Server}
use Rattle.gs_server_image.specs.Encoding.{server}
use Rattle.gs_server_image.specs.Reading.{server_at}
use Rattle.gs_server_image.specs.Writable.{IsServer}
use Rattle.gs_server_image.proofs.Servers.{reads_server}

-- ---- all of some bytes

pub whole_again : {A : Type 0} {Is : A → Type 0} {write : A → List ℕ} {read : Reader A} → Reads Is write read → (x : A) → Is x → whole (read (write x)) ≡ Some x
whole_again {write = write} {read = read} p x is = ap (λ (z : List ℕ). whole (read z)) (sym (append-nil (write x))) ∙ ap whole (p.again x [] is)

end_of : {A : Type 0} (o : Option (A × List ℕ)) (x : A) → whole o ≡ Some x → o ≡ Some (x, [])
end_of None x e = absurd (cc)
end_of (Some y) x e =
    let k = if_some (eqb (length y.1) 0) y.0 x e in
    let none : y.1 ≡ [] = nil_from_length y.1 (eqb-true _ _ k.0) in
    λ i. Some (k.1 i, none i)

pub whole_takes : {A : Type 0} {Is : A → Type 0} {write : A → List ℕ} {read : Reader A} → Reads Is write read → (bytes : List ℕ) (x : A) → IsBytes bytes → whole (read bytes) ≡ Some x → Is x × (write x ≡ bytes)
whole_takes {write = write} {read = read} p bytes x h e =
    let t = p.takes bytes x [] h (end_of (read bytes) x e) in
    (t.is, sym (t.parts ∙ append-nil (write x)))

-- ---- servers, a part each

servers_again : (block chunk me : ℕ) (ss : List Server) → AreServers block chunk me ss → servers_in block chunk me (map server ss) ≡ Some ss
servers_again block chunk me [] are = refl
servers_again block chunk me (s ∷ ss) are =
    ap (λ (o : Option Server). o >>= λ t. servers_in block chunk (me + 1) (map server ss) >>= λ ts. Some (t ∷ ts)) (whole_again (reads_server me block chunk) s are.0)
    ∙ ap (λ (o : Option (List Server)). o >>= λ ts. Some (s ∷ ts)) (servers_again block chunk (me + 1) ss are.1)

abbrev Found : ℕ → ℕ → ℕ → List (List ℕ) → List Server → Type 0
Found block chunk me ps ss = AreServers block chunk me ss × (map server ss ≡ ps)

servers_take : (block chunk me : ℕ) (ps : List (List ℕ)) (ss : List Server) → AllByRecursion IsBytes ps → servers_in block chunk me ps ≡ Some ss → Found block chunk me ps ss
servers_take block chunk me [] ss h e = subst (λ (z : List Server). Found block chunk me [] z) (some_is [] ss e) (tt, refl)
servers_take block chunk me (p ∷ ps) ss h e =
    let s = bind_some (whole (server_at me block chunk p)) (λ t. servers_in block chunk (me + 1) ps >>= λ ts. Some (t ∷ ts)) ss e in
    let t = bind_some (servers_in block chunk (me + 1) ps) (λ ts. Some (s.0 ∷ ts)) ss s.2 in
    let one = whole_takes (reads_server me block chunk) p s.0 h.0 s.1 in
    let more = servers_take block chunk (me + 1) ps t.0 h.1 t.1 in
    subst (λ (z : List Server). Found block chunk me (p ∷ ps) z) (some_is (s.0 ∷ t.0) ss t.2) ((one.0, more.0), λ i. one.1 i ∷ more.1 i)

-- ---- a store

is_head : (s : Store) → IsStore s → IsHead s.head
is_head s is = ((is.head.0, is.sizes), is.head.1)

counted_again : (s : Store) → IsStore s → counted_in s.head (map server s.servers) ≡ Some s.servers
counted_again s is =
    let many : length (map server s.servers) ≡ s.head.sizes.servers = length-map s.servers server ∙ is.count in
    let passed : eqb (length (map server s.servers)) s.head.sizes.servers ≡ true = ap (λ n. eqb n s.head.sizes.servers) many ∙ eqb_itself s.head.sizes.servers in
    ap (λ (b : Bool). cond b (servers_in s.head.sizes.block s.head.sizes.chunk 0 (map server s.servers)) None) passed
    ∙ servers_again s.head.sizes.block s.head.sizes.chunk 0 s.servers is.servers

pub store_again : (s : Store) → IsStore s → store_in (parts s) ≡ Some s
unfolding store_in
store_again s is =
    ap (λ (o : Option Head). o >>= λ h. counted_in h (map server s.servers) >>= λ ss. Some (store_with h s.first s.second ss)) (whole_again reads_head s.head (is_head s is))
    ∙ ap (λ (o : Option (List Server)). o >>= λ ss. Some (store_with s.head s.first s.second ss)) (counted_again s is)

abbrev IsFound : List (List ℕ) → Store → Type 0
IsFound ps s = IsStore s × (parts s ≡ ps)

pub store_takes : (ps : List (List ℕ)) (s : Store) → AllByRecursion IsBytes ps → store_in ps ≡ Some s → IsFound ps s
unfolding store_in
store_takes [] s h e = absurd (cc)
store_takes (a ∷ []) s h e = absurd (cc)
store_takes (a ∷ b ∷ []) s h e = absurd (cc)
store_takes (a ∷ b ∷ c ∷ ps) s h e =
    let x = bind_some (whole (head_at a)) (λ hd. counted_in hd ps >>= λ ss. Some (store_with hd b c ss)) s e in
    let y = bind_some (counted_in x.0 ps) (λ ss. Some (store_with x.0 b c ss)) s x.2 in
    let front = whole_takes reads_head a x.0 h.0 x.1 in
    let counted = passed (eqb (length ps) x.0.sizes.servers) (servers_in x.0.sizes.block x.0.sizes.chunk 0 ps) y.0 y.1 in
    let found = servers_take x.0.sizes.block x.0.sizes.chunk 0 ps y.0 h.1.1.1 counted.1 in
    let many : length y.0 ≡ x.0.sizes.servers = sym (length-map y.0 server) ∙ ap (λ (z : List (List ℕ)). length z) found.1 ∙ eqb-true _ _ counted.0 in
    let whole_store : IsFound (a ∷ b ∷ c ∷ ps) (store_with x.0 b c y.0) =
    (record { head = (front.0.0.0, front.0.1); sizes = front.0.0.1; count = many; servers = found.0 }, λ i. front.1 i ∷ b ∷ c ∷ found.1 i) in
    subst (λ (z : Store). IsFound (a ∷ b ∷ c ∷ ps) z) (some_is (store_with x.0 b c y.0) s y.2) whole_store
  where
    passed : {A : Type 0} (b : Bool) (o : Option A) (x : A) → cond b o None ≡ Some x → (b ≡ true) × (o ≡ Some x)
    passed true o x e = (refl, e)
    passed false o x e = absurd (cc)
