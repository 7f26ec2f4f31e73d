-- What was sent, by the outboxes of all nodes in the order of their numbers.
use Rattle.std.proofs.Common.{◌≡◌, ◌∙◌, ◌+◌, ◌++◌, ℕ, Bool, false, List, [], ◌∷◌, length, length-append, refl, sym, ap, arith}
use Rattle.std.proofs.lemmas.List.{length-map, map-append, nil_from_length}
use Rattle.gs_msg.specs.Posts.{Posted}
use Rattle.gs_msg.specs.declared.outbox.Post.{Post}
use Rattle.gs_world.specs.Sent.{Sent, all_posts}

head_of : {X : Type 0} (x y : X) (xs ys : List X) → ◌≡◌ {A = List X} (x ∷ xs) (y ∷ ys) → x ≡ y
head_of x y xs ys e = cc

tail_of : {X : Type 0} (x y : X) (xs ys : List X) → ◌≡◌ {A = List X} (x ∷ xs) (y ∷ ys) → xs ≡ ys
tail_of x y xs ys e = cc

-- parts of equal lists, of which the first are equally long
same_split : {X : Type 0} (xs us ys vs : List X) → length xs ≡ length us → xs ++ ys ≡ us ++ vs → (xs ≡ us) × (ys ≡ vs)
same_split [] [] ys vs l e = (refl, e)
same_split [] (u ∷ us) ys vs l e = absurd (omega arith)
same_split (x ∷ xs) [] ys vs l e = absurd (omega arith)
same_split (x ∷ xs) (u ∷ us) ys vs l e =
    let r = same_split xs us ys vs (omega arith) (tail_of x u (xs ++ ys) (us ++ vs) e) in
    (ap (λ z. z ∷ xs) (head_of x u (xs ++ ys) (us ++ vs) e) ∙ ap (λ zs. u ∷ zs) r.0, r.1)

pub posts_are : (outboxes store masters servers clients rest : List Posted) (master : Posted) (posts s : Sent) (many : ℕ) → store ++ clients ≡ outboxes → length store ≡ many + 1 → masters ++ servers ≡ store
    → length masters ≡ 1 → masters ≡ rest ++ master ∷ [] → posts ≡ record { master = master.posts; servers = all_posts servers; clients = all_posts clients; has_lost = false }
    → all_posts outboxes ≡ s.master ∷ (s.servers ++ s.clients) → length s.servers ≡ many → s.has_lost ≡ false → posts ≡ s
posts_are outboxes store masters servers clients rest master posts s many all long parts one last are same many_servers none =
    let l1 = ap (λ (l : List Posted). length l) last in
    let l2 = length-append rest (master ∷ []) in
    let nothing : rest ≡ [] = nil_from_length rest (omega arith) in
    let is : masters ≡ master ∷ [] = last ∙ ap (λ (l : List Posted). l ++ master ∷ []) nothing in
    let l3 = ap (λ (l : List Posted). length l) parts in
    let l4 = length-append masters servers in
    let long_servers : length servers ≡ many = omega arith in
    let l5 = length-map servers (λ (o : Posted). o.posts) in
    let whole : outboxes ≡ master ∷ (servers ++ clients) = sym all ∙ ap (λ (l : List Posted). l ++ clients) (sym parts ∙ ap (λ (l : List Posted). l ++ servers) is) in
    let both : ◌≡◌ {A = List (List Post)} (master.posts ∷ (all_posts servers ++ all_posts clients)) (s.master ∷ (s.servers ++ s.clients)) =
    ap (λ (l : List (List Post)). master.posts ∷ l) (sym (map-append (λ (o : Posted). o.posts) servers clients)) ∙ ap (λ (l : List Posted). all_posts l) (sym whole) ∙ same in
    let first = head_of master.posts s.master (all_posts servers ++ all_posts clients) (s.servers ++ s.clients) both in
    let others = same_split (all_posts servers) s.servers (all_posts clients) s.clients (omega arith) (tail_of master.posts s.master (all_posts servers ++ all_posts clients) (s.servers ++ s.clients) both) in
    are
    ∙ ap (λ (x : List Post). record { master = x; servers = all_posts servers; clients = all_posts clients; has_lost = false }) first
    ∙ ap (λ (x : List (List Post)). record { master = s.master; servers = x; clients = all_posts clients; has_lost = false }) others.0
    ∙ ap (λ (x : List (List Post)). record { master = s.master; servers = s.servers; clients = x; has_lost = false }) others.1
    ∙ ap (λ (x : Bool). record { master = s.master; servers = s.servers; clients = s.clients; has_lost = x }) (sym none)
