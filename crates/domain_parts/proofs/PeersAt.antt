-- The peers of a domain by their numbers, which rise: the one at a place, and what is seen of all of them as it changes.
use Rattle.std.proofs.Common.{◌≡◌, ℕ, zero, suc, ◌+◌, ◌<◌, ◌≤◌, Bool, true, false, not, cond, ◌||◌, List, [], ◌∷◌, length, map, Option, None, Some, slice_get, refl, sym, ap, ◌∙◌, subst, arith, ne_eqb, eq-eqb}
use Rattle.std.specs.Prelude.{◌==◌, find, slice_set}
use Rattle.std.specs.List.{AllByRecursion, list_any}
use Rattle.board_model.specs.State as state
use Rattle.board_model.specs.State.{is_numbered, is_owed_end}
use Rattle.board_model.proofs.ListsApart.{all-unmap}
use Rattle.board_model.proofs.MessageAlls.{all-at, all-filter}
use Rattle.board_model.proofs.MessageLists.{changed_first}
use Rattle.endpoint_table.specs.declared.announced.Announced.{Announced}
use Rattle.endpoint_table.specs.Table.{Owing, Table, owing_to, tells_gone, owes_gone}
use Rattle.domain_parts.specs.LaneSeen.{LaneSeen}
use Rattle.domain_parts.specs.declared.peer.Peer.{Peer}
use Rattle.domain_parts.specs.Owed.{owed_by}
use Rattle.domain_parts.specs.Table.{PartRead}
use Rattle.domain_parts.specs.Peers.{peer_in, peers_in, announcement_in}
use Rattle.domain_parts.specs.AllMoved.{numbers_of}
use Rattle.domain_parts.specs.Sound.{AreRising, outs_count, buffers_count}
use Rattle.domain_parts.specs.Tied.{linked_among}

-- ---- a place among peers in rising number

not-above : (n m : ℕ) → n < m → m ≡ n → ⊥
not-above n m lt same = omega (arith, lt, same)

-- the first is not the one further on
first-below : {L : Type 0} (x p : Peer L) (xs : List (Peer L)) (i : ℕ) → AllByRecursion (λ m. x.number < m) (numbers_of xs) → slice_get xs i ≡ Some p → x.number < p.number
first-below {L} x p xs i above at = all-at (λ (z : Peer L). x.number < z.number) xs i p (all-unmap (λ m. x.number < m) (λ (z : Peer L). z.number) xs above) at

first-differs : {L : Type 0} (x p : Peer L) (xs : List (Peer L)) (i : ℕ) → AllByRecursion (λ m. x.number < m) (numbers_of xs) → slice_get xs i ≡ Some p → x.number ≡ p.number → ⊥
first-differs x p xs i above at same = not-above x.number p.number (first-below x p xs i above at) (sym same)

-- what holds of all others stays, and the one at the place has it anew
pub all-set : {L : Type 0} (P Q : Peer L → Type 0) (i : ℕ) (ps : List (Peer L)) (p p' : Peer L) → AreRising (numbers_of ps) → slice_get ps i ≡ Some p → ((z : Peer L) → (z.number ≡ p.number → ⊥) → P z → Q z) → Q p' → AllByRecursion P ps → AllByRecursion Q (slice_set ps i p')
all-set P Q i [] p p' rising at stays here all = tt
all-set {L} P Q zero (x ∷ xs) p p' rising at stays here all =
    let same : x ≡ p = cc in
    (here, later xs (subst (λ (y : Peer L). AllByRecursion (λ m. y.number < m) (numbers_of xs)) same rising.0) all.1)
  where
    later : (ys : List (Peer L)) → AllByRecursion (λ m. p.number < m) (numbers_of ys) → AllByRecursion P ys → AllByRecursion Q ys
    later [] above all = tt
    later (y ∷ ys) above all = (stays y (not-above p.number y.number above.0) all.0, later ys above.1 all.1)
all-set P Q (suc i) (x ∷ xs) p p' rising at stays here all = (stays x (first-differs x p xs i rising.0 at) all.0, all-set P Q i xs p p' rising.1 at stays here all.1)

pub numbers-set : {L : Type 0} (i : ℕ) (ps : List (Peer L)) (p p' : Peer L) → slice_get ps i ≡ Some p → p'.number ≡ p.number → numbers_of (slice_set ps i p') ≡ numbers_of ps
numbers-set i [] p p' at is = refl
numbers-set {L} zero (x ∷ xs) p p' at is =
    let same : x ≡ p = cc in
    ap (λ (n : ℕ). n ∷ numbers_of xs) (is ∙ ap (λ (y : Peer L). y.number) (sym same))
numbers-set (suc i) (x ∷ xs) p p' at is = ap (λ (ns : List ℕ). x.number ∷ ns) (numbers-set i xs p p' at is)

-- ---- how many buffers are out

module _ {L : Type 0} (v : L → LaneSeen) where
  pub outs-set : (i : ℕ) (ps : List (Peer L)) (p p' : Peer L) → slice_get ps i ≡ Some p → outs_count v (slice_set ps i p') + length (v p.ends).out ≡ outs_count v ps + length (v p'.ends).out
  outs-set i [] p p' at = absurd cc
  outs-set zero (x ∷ xs) p p' at =
      let same : x ≡ p = cc in
      let out = ap (λ (y : Peer L). length (v y.ends).out) same in
      omega (arith, out)
  outs-set (suc i) (x ∷ xs) p p' at = omega (arith, outs-set i xs p p' at)

  pub buffers-set : (i : ℕ) (ps : List (Peer L)) (p p' : Peer L) → slice_get ps i ≡ Some p → (v p'.ends).size_from ≡ (v p.ends).size_from → buffers_count v (slice_set ps i p') ≡ buffers_count v ps
  buffers-set i [] p p' at is = refl
  buffers-set zero (x ∷ xs) p p' at is =
      let same : x ≡ p = cc in
      let size = ap (λ (y : Peer L). (v y.ends).size_from) same in
      omega (arith, size, is)
  buffers-set (suc i) (x ∷ xs) p p' at is = omega (arith, buffers-set i xs p p' at is)

  -- of each lane no more are out than it has
  abbrev pub Fit : Peer L → Type 0
  Fit p = length (v p.ends).out ≤ (v p.ends).size_from

  outs-fit : (ps : List (Peer L)) → AllByRecursion Fit ps → outs_count v ps ≤ buffers_count v ps
  outs-fit [] all = omega arith
  outs-fit (x ∷ xs) all = let here : length (v x.ends).out ≤ (v x.ends).size_from = all.0 in omega (arith, here, outs-fit xs all.1)

  -- there is room for all that may come from a peer
  pub outs-room : (i : ℕ) (ps : List (Peer L)) (p : Peer L) → AllByRecursion Fit ps → slice_get ps i ≡ Some p → outs_count v ps + (v p.ends).size_from ≤ buffers_count v ps + length (v p.ends).out
  outs-room i [] p all at = absurd cc
  outs-room zero (x ∷ xs) p all at =
      let same : x ≡ p = cc in
      let out = ap (λ (y : Peer L). length (v y.ends).out) same in
      let size = ap (λ (y : Peer L). (v y.ends).size_from) same in
      omega (arith, out, size, outs-fit xs all.1)
  outs-room (suc i) (x ∷ xs) p all at = let here : length (v x.ends).out ≤ (v x.ends).size_from = all.0 in omega (arith, here, outs-room i xs p all.1 at)

-- ---- the peers as the board's definitions see them

pub changed-twice : (n : ℕ) (f g : state.Peer → state.Peer) → ((x : state.Peer) → (g x).number ≡ x.number) → (ps : List state.Peer) → changed_first (is_numbered n) f (changed_first (is_numbered n) g ps) ≡ changed_first (is_numbered n) (λ x. f (g x)) ps
changed-twice n f g number [] = refl
changed-twice n f g number (x ∷ xs) = go (x.number == n) refl (changed-twice n f g number xs)
  where
    go : (b : Bool) → (x.number == n) ≡ b → changed_first (is_numbered n) f (changed_first (is_numbered n) g xs) ≡ changed_first (is_numbered n) (λ y. f (g y)) xs
        → changed_first (is_numbered n) f (changed_first (is_numbered n) g (x ∷ xs)) ≡ changed_first (is_numbered n) (λ y. f (g y)) (x ∷ xs)
    go true e rest =
        ap (λ (b : Bool). changed_first (is_numbered n) f (cond b (g x ∷ xs) (x ∷ changed_first (is_numbered n) g xs))) e
        ∙ ap (λ (m : ℕ). cond (m == n) (f (g x) ∷ xs) (g x ∷ changed_first (is_numbered n) f xs)) (number x)
        ∙ ap (λ (b : Bool). cond b (f (g x) ∷ xs) (g x ∷ changed_first (is_numbered n) f xs)) e
        ∙ sym (ap (λ (b : Bool). cond b (f (g x) ∷ xs) (x ∷ changed_first (is_numbered n) (λ y. f (g y)) xs)) e)
    go false e rest =
        ap (λ (b : Bool). changed_first (is_numbered n) f (cond b (g x ∷ xs) (x ∷ changed_first (is_numbered n) g xs))) e
        ∙ ap (λ (b : Bool). cond b (f x ∷ changed_first (is_numbered n) g xs) (x ∷ changed_first (is_numbered n) f (changed_first (is_numbered n) g xs))) e
        ∙ ap (λ (ys : List state.Peer). x ∷ ys) rest
        ∙ sym (ap (λ (b : Bool). cond b (f (g x) ∷ xs) (x ∷ changed_first (is_numbered n) (λ y. f (g y)) xs)) e)

module _ {L : Type 0} (v : L → LaneSeen) (os : List PartRead) (t : Table) where
  -- the first of the number is the one at the place
  pub find-place : (i : ℕ) (ps : List (Peer L)) (p : Peer L) → AreRising (numbers_of ps) → slice_get ps i ≡ Some p → find (is_numbered p.number) (peers_in v os t ps) ≡ Some (peer_in v os t p)
  find-place i [] p rising at = absurd cc
  find-place zero (x ∷ xs) p rising at =
      let same : x ≡ p = cc in
      ap (λ (b : Bool). cond b (Some (peer_in v os t x)) (find (is_numbered p.number) (peers_in v os t xs))) (eq-eqb x.number p.number (ap (λ (y : Peer L). y.number) same))
      ∙ ap (λ (y : Peer L). Some (peer_in v os t y)) same
  find-place (suc i) (x ∷ xs) p rising at =
      ap (λ (b : Bool). cond b (Some (peer_in v os t x)) (find (is_numbered p.number) (peers_in v os t xs))) (ne_eqb x.number p.number (first-differs x p xs i rising.0 at))
      ∙ find-place i xs p rising.1 at

module _ {L : Type 0} (v : L → LaneSeen) (os os' : List PartRead) (t t' : Table) where
  same-above : (n : ℕ) (ps : List (Peer L)) → AllByRecursion (λ m. n < m) (numbers_of ps) → ((z : Peer L) → (z.number ≡ n → ⊥) → peer_in v os t z ≡ peer_in v os' t' z) → peers_in v os t ps ≡ peers_in v os' t' ps
  same-above n [] above same = refl
  same-above n (x ∷ xs) above same =
      ap (λ (y : state.Peer). y ∷ peers_in v os t xs) (same x (not-above n x.number above.0))
      ∙ ap (λ (ys : List state.Peer). peer_in v os' t' x ∷ ys) (same-above n xs above.1 same)

  -- where the peer at the place changes, and all others are seen as before
  pub changed-place : (f : state.Peer → state.Peer) (i : ℕ) (ps : List (Peer L)) (p p' : Peer L) → AreRising (numbers_of ps) → slice_get ps i ≡ Some p → f (peer_in v os t p) ≡ peer_in v os' t' p' → ((z : Peer L) → (z.number ≡ p.number → ⊥) → peer_in v os t z ≡ peer_in v os' t' z)
      → changed_first (is_numbered p.number) f (peers_in v os t ps) ≡ peers_in v os' t' (slice_set ps i p')
  changed-place f i [] p p' rising at here others = absurd cc
  changed-place f zero (x ∷ xs) p p' rising at here others =
      let same : x ≡ p = cc in
      ap (λ (b : Bool). cond b (f (peer_in v os t x) ∷ peers_in v os t xs) (peer_in v os t x ∷ changed_first (is_numbered p.number) f (peers_in v os t xs))) (eq-eqb x.number p.number (ap (λ (y : Peer L). y.number) same))
      ∙ ap (λ (y : Peer L). f (peer_in v os t y) ∷ peers_in v os t xs) same
      ∙ ap (λ (y : state.Peer). y ∷ peers_in v os t xs) here
      ∙ ap (λ (ys : List state.Peer). peer_in v os' t' p' ∷ ys) (same-above p.number xs (subst (λ (y : Peer L). AllByRecursion (λ m. y.number < m) (numbers_of xs)) same rising.0) others)
  changed-place f (suc i) (x ∷ xs) p p' rising at here others =
      let differs = first-differs x p xs i rising.0 at in
      ap (λ (b : Bool). cond b (f (peer_in v os t x) ∷ peers_in v os t xs) (peer_in v os t x ∷ changed_first (is_numbered p.number) f (peers_in v os t xs))) (ne_eqb x.number p.number differs)
      ∙ ap (λ (y : state.Peer). y ∷ changed_first (is_numbered p.number) f (peers_in v os t xs)) (others x differs)
      ∙ ap (λ (ys : List state.Peer). peer_in v os' t' x ∷ ys) (changed-place f i xs p p' rising.1 at here others)

-- ---- which ends are owed to a peer

-- whether the end of the endpoint of an address is owed to the linked domain of a number
abbrev pub ends_at : ℕ → List Owing → ℕ → Bool
ends_at a os n = list_any (tells_gone a) (owed_by (find (λ o. o.peer == n) os))

any-in : (a : ℕ) (xs : List Announced) → list_any (state.tells_gone a) (map announcement_in xs) ≡ list_any (tells_gone a) xs
any-in a [] = refl
any-in a (x ∷ xs) = ap (λ (b : Bool). tells_gone a x || b) (any-in a xs)

pub owed-ends : {L : Type 0} (v : L → LaneSeen) (os : List PartRead) (t : Table) (a : ℕ) (ps : List (Peer L)) → is_owed_end (peers_in v os t ps) a ≡ list_any (ends_at a t.owing) (numbers_of ps)
owed-ends v os t a [] = refl
owed-ends v os t a (p ∷ ps) =
    ap (λ (b : Bool). b || is_owed_end (peers_in v os t ps) a) (any-in a (owed_by (owing_to t p.number)))
    ∙ ap (λ (b : Bool). ends_at a t.owing p.number || b) (owed-ends v os t a ps)

find-above : (n : ℕ) (os : List Owing) → AllByRecursion (λ o. n < o.peer) os → find (λ o. o.peer == n) os ≡ None
find-above n [] above = refl
find-above n (o ∷ os) above = ap (λ (b : Bool). cond b (Some o) (find (λ (x : Owing). x.peer == n) os)) (ne_eqb o.peer n (not-above n o.peer above.0)) ∙ find-above n os above.1

ends-above : (a : ℕ) (o : Owing) (os : List Owing) (ns : List ℕ) → AllByRecursion (λ m. o.peer < m) ns → list_any (ends_at a (o ∷ os)) ns ≡ list_any (ends_at a os) ns
ends-above a o os [] above = refl
ends-above a o os (m ∷ ms) above =
    ap (λ (b : Bool). list_any (tells_gone a) (owed_by (cond b (Some o) (find (λ (x : Owing). x.peer == m) os))) || list_any (ends_at a (o ∷ os)) ms) (ne_eqb o.peer m (λ e. not-above o.peer m above.0 (sym e)))
    ∙ ap (λ (b : Bool). ends_at a os m || b) (ends-above a o os ms above.1)

any-next : (a number n : ℕ) (ns : List ℕ) (os : List Owing) (b : Bool) → (n == number) ≡ b → map (λ (o : Owing). o.peer) os ≡ linked_among number (n ∷ ns) → AreRising (n ∷ ns) → ((us : List Owing) → map (λ (o : Owing). o.peer) us ≡ linked_among number ns → list_any (ends_at a us) ns ≡ list_any (owes_gone a) us) → list_any (ends_at a os) (n ∷ ns) ≡ list_any (owes_gone a) os
any-next a number n ns os true own is rising later =
    let rest : map (λ (o : Owing). o.peer) os ≡ linked_among number ns = is ∙ ap (λ (b : Bool). cond (not b) (n ∷ linked_among number ns) (linked_among number ns)) own in
    let above : AllByRecursion (λ (o : Owing). n < o.peer) os = all-unmap (λ m. n < m) (λ (o : Owing). o.peer) os (subst (AllByRecursion (λ m. n < m)) (sym rest) (all-filter (λ m. n < m) (λ m. not (m == number)) ns rising.0)) in
    ap (λ (o : Option Owing). list_any (tells_gone a) (owed_by o) || list_any (ends_at a os) ns) (find-above n os above) ∙ later os rest
any-next a number n ns [] false other is rising later =
    let all : [] ≡ n ∷ linked_among number ns = is ∙ ap (λ (b : Bool). cond (not b) (n ∷ linked_among number ns) (linked_among number ns)) other in
    absurd cc
any-next a number n ns (o ∷ os) false other is rising later =
    let all : o.peer ∷ map (λ (x : Owing). x.peer) os ≡ n ∷ linked_among number ns = is ∙ ap (λ (b : Bool). cond (not b) (n ∷ linked_among number ns) (linked_among number ns)) other in
    let head : o.peer ≡ n = cc in
    let rest : map (λ (x : Owing). x.peer) os ≡ linked_among number ns = cc in
    ap (λ (b : Bool). list_any (tells_gone a) (owed_by (cond b (Some o) (find (λ (x : Owing). x.peer == n) os))) || list_any (ends_at a (o ∷ os)) ns) (eq-eqb o.peer n head)
    ∙ ap (λ (b : Bool). owes_gone a o || b) (ends-above a o os ns (subst (λ (k : ℕ). AllByRecursion (λ m. k < m) ns) (sym head) rising.0) ∙ later os rest)

-- what is owed to the peers is what is owed to all linked domains
pub any-owed : (a number : ℕ) (ns : List ℕ) (os : List Owing) → map (λ (o : Owing). o.peer) os ≡ linked_among number ns → AreRising ns → list_any (ends_at a os) ns ≡ list_any (owes_gone a) os
any-owed a number [] [] is rising = refl
any-owed a number [] (o ∷ os) is rising = absurd cc
any-owed a number (n ∷ ns) os is rising = any-next a number n ns os (n == number) refl is rising (λ us e. any-owed a number ns us e rising.1)
