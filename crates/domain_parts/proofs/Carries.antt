-- Ends of two domains towards each other, as they are found, and as they meet.
use Rattle.std.proofs.Common.{◌≡◌, ◌<◌, ℕ, zero, suc, Bool, true, false, cond, List, [], ◌∷◌, length, get_or, Option, Some, None, Vec, refl, sym, ap, ◌∙◌, subst, arith}
use Rattle.std.specs.Prelude.{find, map, option_and_then, option_map, position, slice_get, slice_set, ◌==◌}
use Rattle.std.proofs.lemmas.Option.{slice_get-get_or}
use Rattle.std.proofs.lemmas.List.{with_items_is}
use Rattle.std.specs.Vec.{with_items}
use Rattle.board_model.specs.Lists.{changed, changed_at}
use Rattle.board_model.proofs.MessageLists.{changed_first, changed-position, get-position}
use Rattle.buffer_book.specs.Book.{Book}
use Rattle.endpoint_table.specs.Table as endpoint_table
use Rattle.request_set.specs.Requests.{Requests}
use Rattle.domain_parts.specs.LaneSeen.{LaneSeen}
use Rattle.domain_parts.specs.declared.ends.Ends.{Ends}
use Rattle.domain_parts.specs.declared.ends.Ends.TheVariants.{Own, Linked}
use Rattle.domain_parts.specs.declared.link.Link.{Link}
use Rattle.domain_parts.specs.declared.peer.Peer.{Peer}
use Rattle.domain_parts.specs.AllMoved.{ends_of}
use Rattle.domain_parts.specs.Carried.{AreJoinedEnds, EndsMeet, MayMeet, FirstMeet, with_ends, with_peer}
use Rattle.domain_parts.specs.Carrying.{AreJoined, AreLinked, LinksMeet, Carries, leads_to, link_to, with_link}
use Rattle.domain_parts.specs.Parts.{Holding, holding_in, parts_in, peer_seen}
use Rattle.domain_parts.specs.Records.{Records}

some-is : {A : Type 0} (o : Option A) (x y : A) → o ≡ Some x → o ≡ Some y → x ≡ y
some-is o x y a b = cc

-- ---- what is found among the peers

module _ {P : Type 0} (leads : ℕ → P → Bool) (n : ℕ) where
  abbrev leads_p : Peer P → Bool
  leads_p p = leads n p.ends

  find-ends : (ps : List (Peer P)) → find (leads n) (ends_of ps) ≡ option_map (λ (p : Peer P). p.ends) (find leads_p ps)
  find-ends [] = refl
  find-ends (p ∷ ps) =
      let rest = find-ends ps in
      elim (leads n p.ends) as (λ b. cond b (Some p.ends) (find (leads n) (ends_of ps)) ≡ option_map (λ (q : Peer P). q.ends) (cond b (Some p) (find leads_p ps))) [ true ↦ refl | false ↦ rest ]

  pub no-ends : (ps : List (Peer P)) (e : P) → None ≡ position leads_p ps → find (leads n) (ends_of ps) ≡ Some e → ⊥
  no-ends ps e is has =
      let none : find leads_p ps ≡ None = sym (get-position leads_p ps) ∙ ap (option_and_then (λ i. slice_get ps i)) (sym is) in
      let gone : find (leads n) (ends_of ps) ≡ None = find-ends ps ∙ ap (option_map (λ (p : Peer P). p.ends)) none in
      absurd cc

  pub has-ends : (ps : List (Peer P)) (i : ℕ) (d : Peer P) (e : P) → Some i ≡ position leads_p ps → i < length ps → find (leads n) (ends_of ps) ≡ Some e → e ≡ (get_or ps i d).ends
  has-ends ps i d e is within has =
      let found : find leads_p ps ≡ Some (get_or ps i d) = sym (get-position leads_p ps) ∙ ap (option_and_then (λ j. slice_get ps j)) (sym is) ∙ slice_get-get_or ps i d within in
      some-is (find (leads n) (ends_of ps)) e (get_or ps i d).ends has (find-ends ps ∙ ap (option_map (λ (p : Peer P). p.ends)) found)

  changed-is : (f : Peer P → Peer P) (i : ℕ) (ps : List (Peer P)) (d : Peer P) → i < length ps → changed_at f i ps ≡ slice_set ps i (f (get_or ps i d))
  changed-is f i [] d within = absurd (omega (arith, within))
  changed-is f zero (p ∷ ps) d within = refl
  changed-is f (suc i) (p ∷ ps) d within = let inner : i < length ps = omega (arith, within) in ap (λ (qs : List (Peer P)). p ∷ qs) (changed-is f i ps d inner)

  abbrev with_this : P → Peer P → Peer P
  with_this e p = record p { ends = e }

  -- what is written at its place
  pub set-ends : (ps : List (Peer P)) (i : ℕ) (d : Peer P) (e : P) → Some i ≡ position leads_p ps → i < length ps → slice_set ps i (record (get_or ps i d) { ends = e }) ≡ with_peer leads n e ps
  set-ends ps i d e is within = sym (changed-is (with_this e) i ps d within) ∙ ap (λ (o : Option ℕ). changed (with_this e) o ps) is

  -- ---- the ends

  ends-first : (e : P) (ps : List (Peer P)) → ends_of (changed_first leads_p (with_this e) ps) ≡ changed_first (leads n) (λ x. e) (ends_of ps)
  ends-first e [] = refl
  ends-first e (p ∷ ps) =
      let rest = ends-first e ps in
      elim (leads_p p) as (λ b. ends_of (cond b (with_this e p ∷ ps) (p ∷ changed_first leads_p (with_this e) ps)) ≡ cond b (e ∷ ends_of ps) (p.ends ∷ changed_first (leads n) (λ x. e) (ends_of ps)))
      [ true ↦ refl | false ↦ ap (λ (es : List P). p.ends ∷ es) rest ]

  pub ends-with : (e : P) (ps : List (Peer P)) → ends_of (with_peer leads n e ps) ≡ with_ends leads n e (ends_of ps)
  ends-with e ps = ap ends_of (changed-position leads_p (with_this e) ps) ∙ ends-first e ps ∙ sym (changed-position (leads n) (λ x. e) (ends_of ps))

  -- ---- what is seen

  module _ (v : P → LaneSeen) (e e' : P) (same : v e' ≡ v e) where
    seen-first : (ps : List (Peer P)) → find (leads n) (ends_of ps) ≡ Some e → map (peer_seen v) (changed_first leads_p (with_this e') ps) ≡ map (peer_seen v) ps
    seen-first [] has = refl
    seen-first (p ∷ ps) has = go (leads_p p) has (seen-first ps)
      where
        go : (b : Bool) → cond b (Some p.ends) (find (leads n) (ends_of ps)) ≡ Some e → (find (leads n) (ends_of ps) ≡ Some e → map (peer_seen v) (changed_first leads_p (with_this e') ps) ≡ map (peer_seen v) ps)
            → map (peer_seen v) (cond b (with_this e' p ∷ ps) (p ∷ changed_first leads_p (with_this e') ps)) ≡ map (peer_seen v) (p ∷ ps)
        go true here later =
            let is : p.ends ≡ e = cc in
            ap (λ (l : LaneSeen). record { number = p.number; ends = l; known = p.known; replies = p.replies } ∷ map (peer_seen v) ps) (same ∙ sym (ap v is))
        go false there later = ap (λ (qs : List (Peer LaneSeen)). peer_seen v p ∷ qs) (later there)

    module _ (b : Book) (r : Records) (q : Requests) (t : endpoint_table.Table) (ps : List (Peer P)) (has : find (leads n) (ends_of ps) ≡ Some e) where
      pub parts-with : (qs : List (Peer P)) → qs ≡ with_peer leads n e' ps → parts_in v b r q t qs ≡ parts_in v b r q t ps
      parts-with qs is =
          ap (λ (xs : List (Peer LaneSeen)). record { book = b; records = r; requests = q; table = t; peers = xs }) (ap (map (peer_seen v)) (is ∙ changed-position leads_p (with_this e') ps) ∙ seen-first ps has)

      pub holding-with : (qs : List (Peer P)) → qs ≡ with_peer leads n e' ps → (h : Holding P) → holding_in v b r q t ps ≡ h → holding_in v b r q t qs ≡ record h { ends = ends_of qs }
      holding-with qs is h seen =
          let parts = parts-with qs is in
          subst (λ (x : Holding P). holding_in v b r q t qs ≡ record x { ends = ends_of qs }) seen (λ k. record { parts = parts k; ends = ends_of qs })

  length-with : (e : P) (ps : List (Peer P)) → length (with_peer leads n e ps) ≡ length ps
  length-with e ps = go (position leads_p ps)
    where
      at : (j : ℕ) (xs : List (Peer P)) → length (changed_at (with_this e) j xs) ≡ length xs
      at j [] = refl
      at zero (x ∷ xs) = refl
      at (suc j) (x ∷ xs) = ap suc (at j xs)

      go : (o : Option ℕ) → length (changed (with_this e) o ps) ≡ length ps
      go None = refl
      go (Some i) = at i ps

-- what is written over all peers
pub written-with : {P : Type 0} (leads : ℕ → P → Bool) {Z : Type 0} (v : Vec (Peer P) Z) (ws xs : List (Peer P)) (n m : ℕ) (e : P) → ws ≡ with_peer leads n e xs → n ≡ m → xs ≡ v.items → (with_items v ws).items ≡ with_peer leads m e v.items
written-with leads v ws xs n m e is number items =
    let same : ws ≡ with_peer leads m e v.items = is ∙ ap (λ (k : ℕ). with_peer leads k e xs) number ∙ ap (with_peer leads m e) items in
    with_items_is v ws (ap length same ∙ length-with leads m e v.items ∙ sym v.ok.0) ∙ same

pub same-found : {P : Type 0} (leads : ℕ → P → Bool) (n m : ℕ) (es fs : List P) (e : P) → n ≡ m → es ≡ fs → find (leads n) es ≡ Some e → find (leads m) fs ≡ Some e
same-found leads n m es fs e number ends has = sym (λ k. find (leads (number k)) (ends k)) ∙ has

-- ---- links

module _ {S R : Type 0} where
  pub find-linked : (n : ℕ) (es : List (Ends S R)) (a : Link S R) → link_to n es ≡ Some a → find (leads_to n) es ≡ Some (Linked a)
  find-linked n [] a has = absurd cc
  find-linked n (Own l ∷ es) a has = find-linked n es a has
  find-linked n (Linked l ∷ es) a has = go (l.peer == n) has (find-linked n es a)
    where
      go : (b : Bool) → cond b (Some l) (link_to n es) ≡ Some a → (link_to n es ≡ Some a → find (leads_to n) es ≡ Some (Linked a)) → cond b (Some (Linked l)) (find (leads_to n) es) ≡ Some (Linked a)
      go true here later = let is : l ≡ a = cc in ap (λ (x : Link S R). Some (Linked x)) is
      go false there later = later there

  linked-found : (n : ℕ) (es : List (Ends S R)) (e : Ends S R) → find (leads_to n) es ≡ Some e → (a : Link S R) × (e ≡ Linked a) × (link_to n es ≡ Some a)
  linked-found n [] e has = absurd cc
  linked-found n (Own l ∷ es) e has = linked-found n es e has
  linked-found n (Linked l ∷ es) e has = go (l.peer == n) has (linked-found n es e)
    where
      go : (b : Bool) → cond b (Some (Linked l)) (find (leads_to n) es) ≡ Some e → (find (leads_to n) es ≡ Some e → (a : Link S R) × (e ≡ Linked a) × (link_to n es ≡ Some a)) → (a : Link S R) × (e ≡ Linked a) × (cond b (Some l) (link_to n es) ≡ Some a)
      go true here later = let is : ◌≡◌ {A = Ends S R} (Linked l) e = cc in (l, sym is, refl)
      go false there later = later there

  -- domains that are linked may meet
  pub linked-may : (AreOne : S → R → Type 0) (one two : ℕ) (ones twos : List (Ends S R)) → AreLinked AreOne one two ones twos → MayMeet leads_to (AreJoinedEnds AreOne) one two ones twos
  linked-may AreOne one two ones twos l = record {
    there = Linked l.there;
    back = Linked l.back;
    one_has = find-linked two ones l.there l.one_has;
    two_has = find-linked one twos l.back l.two_has;
    may = l.joined;
  }

  record MetLinks (Meet : S → R → S → R → Type 0) (a b c d : Ends S R) : Type 0 where
    one : Link S R
    two : Link S R
    one_is : c ≡ Linked one
    two_is : d ≡ Linked two
    meets : (x y : Link S R) → a ≡ Linked x → b ≡ Linked y → LinksMeet Meet x y one two

  met-links : (Meet : S → R → S → R → Type 0) (a b c d : Ends S R) → EndsMeet Meet a b c d → MetLinks Meet a b c d
  met-links Meet (Linked a) (Linked b) (Linked c) (Linked d) met = record {
    one = c;
    two = d;
    one_is = refl;
    two_is = refl;
    meets = λ x y e f.
        let is_x : a ≡ x = cc in
        let is_y : b ≡ y = cc in
        subst (λ (u : Link S R). LinksMeet Meet u y c d) is_x (subst (λ (w : Link S R). LinksMeet Meet a w c d) is_y met);
  }
  met-links Meet (Own a) b c d met = absurd met
  met-links Meet (Linked a) (Own b) c d met = absurd met
  met-links Meet (Linked a) (Linked b) (Own c) d met = absurd met
  met-links Meet (Linked a) (Linked b) (Linked c) (Own d) met = absurd met

  -- ends that met are those of links that met
  pub ends-carry : (Meet : S → R → S → R → Type 0) (one two : ℕ) (ones twos ones' twos' : List (Ends S R)) → FirstMeet leads_to (EndsMeet Meet) one two ones twos ones' twos' → Carries Meet one two ones twos ones' twos'
  ends-carry Meet one two ones twos ones' twos' h =
      let a = linked-found two ones h.there h.one_had in
      let b = linked-found one twos h.back h.two_had in
      let m = met-links Meet h.there h.back h.there_after h.back_after h.met in
      record {
        there = a.0;
        back = b.0;
        there_after = m.one;
        back_after = m.two;
        one_had = a.2;
        two_had = b.2;
        meets = m.meets a.0 b.0 a.1 b.1;
        one_has = h.one_has ∙ ap (λ (e : Ends S R). with_ends leads_to two e ones) m.one_is;
        two_has = h.two_has ∙ ap (λ (e : Ends S R). with_ends leads_to one e twos) m.two_is;
      }

  -- ---- the link after it

  link-first : (n : ℕ) (es : List (Ends S R)) (a b : Link S R) → link_to n es ≡ Some a → b.peer ≡ a.peer → link_to n (changed_first (leads_to n) (λ e. Linked b) es) ≡ Some b
  link-first n [] a b has same = absurd cc
  link-first n (Own l ∷ es) a b has same = link-first n es a b has same
  link-first n (Linked l ∷ es) a b has same = go (l.peer == n) refl has (λ later. link-first n es a b later same)
    where
      go : (x : Bool) → (l.peer == n) ≡ x → cond x (Some l) (link_to n es) ≡ Some a → (link_to n es ≡ Some a → link_to n (changed_first (leads_to n) (λ e. Linked b) es) ≡ Some b) → link_to n (cond x (Linked b ∷ es) (Linked l ∷ changed_first (leads_to n) (λ e. Linked b) es)) ≡ Some b
      go true is here later =
          let at : l ≡ a = cc in
          ap (λ (x : Bool). cond x (Some b) (link_to n es)) (ap (λ (k : ℕ). k == n) (same ∙ sym (ap (λ (x : Link S R). x.peer) at)) ∙ is)
      go false is there later = ap (λ (x : Bool). cond x (Some l) (link_to n (changed_first (leads_to n) (λ e. Linked b) es))) is ∙ later there

  pub link-with : (n : ℕ) (es : List (Ends S R)) (a b : Link S R) → link_to n es ≡ Some a → b.peer ≡ a.peer → link_to n (with_link n b es) ≡ Some b
  link-with n es a b has same = ap (link_to n) (changed-position (leads_to n) (λ e. Linked b) es) ∙ link-first n es a b has same

  module _ (Meet : S → R → S → R → Type 0) (AreOne : S → R → Type 0) (still : (s : S) (r : R) (s' : S) (r' : R) → Meet s r s' r' → AreOne s r → AreOne s' r') where
    -- two domains that are carried are still linked
    pub linked-carried : (one two : ℕ) (ones twos ones' twos' : List (Ends S R)) → AreLinked AreOne one two ones twos → Carries Meet one two ones twos ones' twos' → AreLinked AreOne one two ones' twos'
    linked-carried one two ones twos ones' twos' l c =
        let a : l.there ≡ c.there = some-is (link_to two ones) l.there c.there l.one_has c.one_had in
        let b : l.back ≡ c.back = some-is (link_to one twos) l.back c.back l.two_has c.two_had in
        let joined : AreJoined AreOne c.there c.back = subst (λ (x : Link S R). AreJoined AreOne x c.back) a (subst (λ (y : Link S R). AreJoined AreOne l.there y) b l.joined) in
        record {
          there = c.there_after;
          back = c.back_after;
          one_has = ap (link_to two) c.one_has ∙ link-with two ones c.there c.there_after c.one_had c.meets.one_peer;
          two_has = ap (link_to one) c.two_has ∙ link-with one twos c.back c.back_after c.two_had c.meets.two_peer;
          joined = record {
            there = still c.there.send c.back.recv c.there_after.send c.back_after.recv c.meets.there joined.there;
            back = still c.back.send c.there.recv c.back_after.send c.there_after.recv c.meets.back joined.back;
          };
        }
