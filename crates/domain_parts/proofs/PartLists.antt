-- The list of open parts, as the state reads it: at most one a peer.
use Rattle.std.proofs.Common.{◌≡◌, ℕ, ◌+◌, ◌≤◌, Bool, true, false, cond, List, [], ◌∷◌, ◌++◌, map, Option, Some, None, refl, sym, ap, ap₂, ◌∙◌, arith, eq-eqb, ne_eqb, subst}
use Rattle.std.specs.Prelude.{count_by, filter, find, not, option_map, ◌==◌, nat_lt, ◌&&◌}
use Rattle.std.proofs.lemmas.Bool.{eqb-true}
use Rattle.std.proofs.lemmas.List.Elements.{filter-append}
use Rattle.mc_base.specs.Limits.{domain_limit}
use Rattle.mc_base.specs.declared.request.Slot.{Slot}
use Rattle.board_model.proofs.ListsCounts.{count-cons, count-append}
use Rattle.board_model.specs.Change.{held_as}
use Rattle.board_model.specs.State.{HeldFrame, holds_from}
use Rattle.buffer_book.specs.Book.{Book}
use Rattle.lane_end.specs.Numbers.{AreApart, often, inside}
use Rattle.lane_end.proofs.CountLemmas.{often-append, tick}
use Rattle.domain_parts.specs.declared.parts.OpenPart.{OpenPart}
use Rattle.domain_parts.specs.InBook.{frames_at, open_parts, part_read}
use Rattle.domain_parts.specs.InPlaces.{one_if, is_same, times_in}
use Rattle.domain_parts.specs.Peers.{held_in, is_read_of, part_from}
use Rattle.domain_parts.specs.Records.{is_part_of, part_slots, with_part, without_part}
use Rattle.domain_parts.specs.Table.{PartRead}
use Rattle.domain_parts.proofs.Placed.{HasMore}
use Rattle.std.specs.List.{AllByRecursion}
use Rattle.std.proofs.lemmas.List.{map-append}

abbrev peers_of : List OpenPart → List ℕ
peers_of os = map (λ (o : OpenPart). o.slot.peer) os

-- ---- what is read

module _ (b : Book) where
  pub read-found : (n : ℕ) (os : List OpenPart) → part_from (open_parts b os) n ≡ option_map (λ (o : OpenPart). (part_read b o).part) (find (is_part_of n) os)
  read-found n [] = refl
  read-found n (o ∷ os) = go (o.slot.peer == n) (read-found n os)
    where
      go : (c : Bool) → part_from (open_parts b os) n ≡ option_map (λ (x : OpenPart). (part_read b x).part) (find (is_part_of n) os)
          → option_map (λ (x : PartRead). x.part) (cond c (Some (part_read b o)) (find (is_read_of n) (open_parts b os))) ≡ option_map (λ (x : OpenPart). (part_read b x).part) (cond c (Some o) (find (is_part_of n) os))
      go true rest = refl
      go false rest = rest

  pub held-without : (n : ℕ) (os : List OpenPart) → held_in (open_parts b (without_part n os)) ≡ filter (λ h. not (holds_from n h)) (held_in (open_parts b os))
  held-without n [] = refl
  held-without n (o ∷ os) = go (o.slot.peer == n) refl (held-without n os)
    where
      named : List ℕ → List HeldFrame
      named ns = map (held_as o.slot.peer) ns

      others : List HeldFrame → List HeldFrame
      others hs = filter (λ h. not (holds_from n h)) hs

      rest_in : List HeldFrame
      rest_in = held_in (open_parts b os)

      kept : (c : Bool) → (o.slot.peer == n) ≡ c → (ns : List ℕ) → others (named ns) ≡ cond c [] (named ns)
      kept true e [] = refl
      kept false e [] = refl
      kept true e (m ∷ ns) = ap (λ (x : Bool). cond (not x) (held_as o.slot.peer m ∷ others (named ns)) (others (named ns))) e ∙ kept true e ns
      kept false e (m ∷ ns) = ap (λ (x : Bool). cond (not x) (held_as o.slot.peer m ∷ others (named ns)) (others (named ns))) e ∙ ap (λ (hs : List HeldFrame). held_as o.slot.peer m ∷ hs) (kept false e ns)

      go : (c : Bool) → (o.slot.peer == n) ≡ c → held_in (open_parts b (without_part n os)) ≡ others rest_in → held_in (open_parts b (cond (not c) (o ∷ without_part n os) (without_part n os))) ≡ others (named (frames_at b o.slot) ++ rest_in)
      go true e rest = rest ∙ sym (filter-append (λ h. not (holds_from n h)) (named (frames_at b o.slot)) rest_in ∙ ap (λ (hs : List HeldFrame). hs ++ others rest_in) (kept true e (frames_at b o.slot)))
      go false e rest = ap (λ (hs : List HeldFrame). named (frames_at b o.slot) ++ hs) rest ∙ sym (filter-append (λ h. not (holds_from n h)) (named (frames_at b o.slot)) rest_in ∙ ap (λ (hs : List HeldFrame). hs ++ others rest_in) (kept false e (frames_at b o.slot)))

-- ---- a part that is gone

pub none-gone : (n : ℕ) (os : List OpenPart) → find (is_part_of n) os ≡ None → without_part n os ≡ os
none-gone n [] none = refl
none-gone n (o ∷ os) none = go (o.slot.peer == n) none (none-gone n os)
  where
    go : (c : Bool) → cond c (Some o) (find (is_part_of n) os) ≡ None → (find (is_part_of n) os ≡ None → without_part n os ≡ os) → cond (not c) (o ∷ without_part n os) (without_part n os) ≡ o ∷ os
    go true e rest = absurd cc
    go false e rest = ap (λ (xs : List OpenPart). o ∷ xs) (rest e)

pub gone-found : (n : ℕ) (os : List OpenPart) → find (is_part_of n) (without_part n os) ≡ None
gone-found n [] = refl
gone-found n (o ∷ os) = go (o.slot.peer == n) refl (gone-found n os)
  where
    go : (c : Bool) → (o.slot.peer == n) ≡ c → find (is_part_of n) (without_part n os) ≡ None → find (is_part_of n) (cond (not c) (o ∷ without_part n os) (without_part n os)) ≡ None
    go true e rest = rest
    go false e rest = ap (λ (x : Bool). cond x (Some o) (find (is_part_of n) (without_part n os))) e ∙ rest

pub other-found : (n m : ℕ) → (m ≡ n → ⊥) → (os : List OpenPart) → find (is_part_of m) (without_part n os) ≡ find (is_part_of m) os
other-found n m differ [] = refl
other-found n m differ (o ∷ os) = go (o.slot.peer == n) refl (other-found n m differ os)
  where
    go : (c : Bool) → (o.slot.peer == n) ≡ c → find (is_part_of m) (without_part n os) ≡ find (is_part_of m) os → find (is_part_of m) (cond (not c) (o ∷ without_part n os) (without_part n os)) ≡ cond (o.slot.peer == m) (Some o) (find (is_part_of m) os)
    go true e rest = rest ∙ sym (ap (λ (x : Bool). cond x (Some o) (find (is_part_of m) os)) (ne_eqb o.slot.peer m (λ same. differ (sym same ∙ eqb-true o.slot.peer n e))))
    go false e rest = ap (λ (x : Option OpenPart). cond (o.slot.peer == m) (Some o) x) rest

find-last : (n : ℕ) (os : List OpenPart) (o : OpenPart) → find (is_part_of n) os ≡ None → find (is_part_of n) (os ++ o ∷ []) ≡ cond (o.slot.peer == n) (Some o) None
find-last n [] o none = refl
find-last n (x ∷ os) o none = go (x.slot.peer == n) none (λ e. find-last n os o e)
  where
    go : (c : Bool) → cond c (Some x) (find (is_part_of n) os) ≡ None → (find (is_part_of n) os ≡ None → find (is_part_of n) (os ++ o ∷ []) ≡ cond (o.slot.peer == n) (Some o) None) → cond c (Some x) (find (is_part_of n) (os ++ o ∷ [])) ≡ cond (o.slot.peer == n) (Some o) None
    go true e later = absurd cc
    go false e later = later e

find-before : (n : ℕ) (os : List OpenPart) (o : OpenPart) → (o.slot.peer == n) ≡ false → find (is_part_of n) (os ++ o ∷ []) ≡ find (is_part_of n) os
find-before n [] o other = ap (λ (x : Bool). cond x (Some o) None) other
find-before n (x ∷ os) o other = ap (λ (y : Option OpenPart). cond (x.slot.peer == n) (Some x) y) (find-before n os o other)

-- ---- a part that is open from now on

pub with-found : (o : OpenPart) (os : List OpenPart) → find (is_part_of o.slot.peer) (with_part o os) ≡ Some o
with-found o os = find-last o.slot.peer (without_part o.slot.peer os) o (gone-found o.slot.peer os) ∙ ap (λ (x : Bool). cond x (Some o) None) (eq-eqb o.slot.peer o.slot.peer refl)

pub with-other : (o : OpenPart) (m : ℕ) → (m ≡ o.slot.peer → ⊥) → (os : List OpenPart) → find (is_part_of m) (with_part o os) ≡ find (is_part_of m) os
with-other o m differ os = find-before m (without_part o.slot.peer os) o (ne_eqb o.slot.peer m (λ same. differ (sym same))) ∙ other-found o.slot.peer m differ os

-- ---- no peer has two

often-without : (n m : ℕ) (os : List OpenPart) → often m (peers_of (without_part n os)) ≡ cond (m == n) 0 (often m (peers_of os))
often-without n m [] = zero (m == n) (often m []) refl
  where
    zero : (c : Bool) (k : ℕ) → k ≡ 0 → k ≡ cond c 0 k
    zero true k e = e
    zero false k e = refl
often-without n m (o ∷ os) = go (o.slot.peer == n) refl (m == n) refl (often-without n m os)
  where
    go : (c : Bool) → (o.slot.peer == n) ≡ c → (d : Bool) → (m == n) ≡ d → often m (peers_of (without_part n os)) ≡ cond d 0 (often m (peers_of os)) → often m (peers_of (cond (not c) (o ∷ without_part n os) (without_part n os))) ≡ cond d 0 (tick o.slot.peer m + often m (peers_of os))
    go true e true f rest = rest
    go true e false f rest =
        let other : tick o.slot.peer m ≡ 0 = ap (λ (x : Bool). cond x 1 0) (ne_eqb o.slot.peer m (λ same. absurd (let is = eq-eqb m n (sym same ∙ eqb-true o.slot.peer n e) in cc (is, f)))) in
        omega (arith, rest, other)
    go false e true f rest =
        let other : tick o.slot.peer m ≡ 0 = ap (λ (x : Bool). cond x 1 0) (ne_eqb o.slot.peer m (λ same. absurd (let is = eq-eqb o.slot.peer n (same ∙ eqb-true m n f) in cc (is, e)))) in
        omega (arith, rest, other)
    go false e false f rest = ap (λ (k : ℕ). tick o.slot.peer m + k) rest

least : (c : Bool) (k : ℕ) → cond c 0 k ≤ k
least true k = omega arith
least false k = omega arith

pub without-apart : (n : ℕ) (os : List OpenPart) → AreApart domain_limit (peers_of os) → AreApart domain_limit (peers_of (without_part n os))
without-apart n os apart m = let was = apart m in let now = often-without n m os in let less = least (m == n) (often m (peers_of os)) in omega (arith, was, now, less)

tick-most : (c : Bool) → cond c 1 0 ≤ 1
tick-most true = omega arith
tick-most false = omega arith

pub with-apart : (o : OpenPart) (os : List OpenPart) → AreApart domain_limit (peers_of os) → nat_lt o.slot.peer domain_limit ≡ true → AreApart domain_limit (peers_of (with_part o os))
with-apart o os apart few m = go (m == o.slot.peer) refl
  where
    sum : often m (peers_of (with_part o os)) ≡ often m (peers_of (without_part o.slot.peer os)) + often m (o.slot.peer ∷ [])
    sum = ap (often m) (map-append (λ (x : OpenPart). x.slot.peer) (without_part o.slot.peer os) (o ∷ [])) ∙ often-append m (peers_of (without_part o.slot.peer os)) (o.slot.peer ∷ [])

    go : (c : Bool) → (m == o.slot.peer) ≡ c → often m (peers_of (with_part o os)) ≤ inside domain_limit m
    go true same =
        let none : often m (peers_of (without_part o.slot.peer os)) ≡ 0 = often-without o.slot.peer m os ∙ ap (λ (c : Bool). cond c 0 (often m (peers_of os))) same in
        let within : inside domain_limit m ≡ 1 = ap (λ (k : ℕ). inside domain_limit k) (eqb-true m o.slot.peer same) ∙ ap (λ (c : Bool). cond c 1 0) few in
        let most = tick-most (o.slot.peer == m) in
        omega (arith, sum, none, within, most)
    go false other =
        let none : tick o.slot.peer m ≡ 0 = ap (λ (x : Bool). cond x 1 0) (ne_eqb o.slot.peer m (λ same. absurd (let is = eq-eqb m o.slot.peer (sym same) in cc (is, other)))) in
        let was = without-apart o.slot.peer os apart m in
        omega (arith, sum, none, was)

-- the others are of other peers
pub none-often : (n : ℕ) (os : List OpenPart) → often n (peers_of os) ≡ 0 → find (is_part_of n) os ≡ None
none-often n [] none = refl
none-often n (o ∷ os) none = go (o.slot.peer == n) refl (λ e. none-often n os e)
  where
    go : (c : Bool) → (o.slot.peer == n) ≡ c → (often n (peers_of os) ≡ 0 → find (is_part_of n) os ≡ None) → cond c (Some o) (find (is_part_of n) os) ≡ None
    go true same later = let one : tick o.slot.peer n ≡ 1 = ap (λ (x : Bool). cond x 1 0) same in absurd (omega (arith, none, one))
    go false other later = later (omega (arith, none))

pub found-peer : (n : ℕ) (os : List OpenPart) (o : OpenPart) → find (is_part_of n) os ≡ Some o → o.slot.peer ≡ n
found-peer n [] o found = absurd cc
found-peer n (x ∷ os) o found = go (x.slot.peer == n) refl found (λ e. found-peer n os o e)
  where
    go : (c : Bool) → (x.slot.peer == n) ≡ c → cond c (Some x) (find (is_part_of n) os) ≡ Some o → (find (is_part_of n) os ≡ Some o → o.slot.peer ≡ n) → o.slot.peer ≡ n
    go true same e later = let is : x ≡ o = cc in subst (λ (y : OpenPart). y.slot.peer ≡ n) is (eqb-true x.slot.peer n same)
    go false other e later = later e

-- the slot of the open part of a peer is one more than those of the others
found-more : (n : ℕ) (os : List OpenPart) (o : OpenPart) → often n (peers_of os) ≤ 1 → find (is_part_of n) os ≡ Some o → HasMore o.slot (part_slots (without_part n os)) (part_slots os)
found-more n [] o most found test = absurd cc
found-more n (x ∷ os) o most found test = go (x.slot.peer == n) refl found (λ few e. found-more n os o few e test)
  where
    go : (c : Bool) → (x.slot.peer == n) ≡ c → cond c (Some x) (find (is_part_of n) os) ≡ Some o
        → (often n (peers_of os) ≤ 1 → find (is_part_of n) os ≡ Some o → count_by test (part_slots os) ≡ count_by test (part_slots (without_part n os)) + one_if (test o.slot)) → count_by test (part_slots (x ∷ os)) ≡ count_by test (part_slots (cond (not c) (x ∷ without_part n os) (without_part n os))) + one_if (test o.slot)
    go true same e later =
        let is : x ≡ o = cc in
        let one : tick x.slot.peer n ≡ 1 = ap (λ (y : Bool). cond y 1 0) same in
        let none = none-gone n os (none-often n os (omega (arith, most, one))) in
        count-cons test x.slot (part_slots os)
        ∙ ap₂ (λ (y : OpenPart) (xs : List OpenPart). one_if (test y.slot) + count_by test (part_slots xs)) is (sym none)
        ∙ omega arith
    go false other e later =
        let none : tick x.slot.peer n ≡ 0 = ap (λ (y : Bool). cond y 1 0) other in
        let rest = later (omega (arith, most, none)) e in
        omega (arith, rest, count-cons test x.slot (part_slots os), count-cons test x.slot (part_slots (without_part n os)))

pub open-more : (n : ℕ) (os : List OpenPart) (o : OpenPart) → AreApart domain_limit (peers_of os) → find (is_part_of n) os ≡ Some o → HasMore o.slot (part_slots (without_part n os)) (part_slots os)
open-more n os o apart found = found-more n os o (let most = apart n in let one = inside-most (nat_lt n domain_limit) in omega (arith, most, one)) found
  where
    inside-most : (c : Bool) → cond c 1 0 ≤ 1
    inside-most true = omega arith
    inside-most false = omega arith

-- and one more once it is open
pub kept-more : (o : OpenPart) (os : List OpenPart) → HasMore o.slot (part_slots (without_part o.slot.peer os)) (part_slots (with_part o os))
kept-more o os test =
    ap (count_by test) (map-append (λ (x : OpenPart). x.slot) (without_part o.slot.peer os) (o ∷ []))
    ∙ omega (arith, count-append test (part_slots (without_part o.slot.peer os)) (o.slot ∷ []), count-cons test o.slot [])

-- no other peer's part has a slot of this one
pub none-here : (s : Slot) (os : List OpenPart) → times_in s (part_slots (without_part s.peer os)) ≡ 0
none-here s [] = refl
none-here s (o ∷ os) = go (o.slot.peer == s.peer) refl (none-here s os)
  where
    go : (c : Bool) → (o.slot.peer == s.peer) ≡ c → times_in s (part_slots (without_part s.peer os)) ≡ 0 → times_in s (part_slots (cond (not c) (o ∷ without_part s.peer os) (without_part s.peer os))) ≡ 0
    go true same rest = rest
    go false other rest =
        let none : one_if (is_same o.slot s) ≡ 0 = ap (λ (x : Bool). one_if (x && o.slot.buffer == s.buffer)) other in
        omega (arith, rest, none, count-cons (λ (t : Slot). is_same t s) o.slot (part_slots (without_part s.peer os)))

-- what holds of all holds of those that are left, and of one more
pub all-left : (P : OpenPart → Type 0) (n : ℕ) (os : List OpenPart) → AllByRecursion P os → AllByRecursion P (without_part n os)
all-left P n [] all = tt
all-left P n (o ∷ os) all = go (o.slot.peer == n) (all-left P n os all.1)
  where
    go : (c : Bool) → AllByRecursion P (without_part n os) → AllByRecursion P (cond (not c) (o ∷ without_part n os) (without_part n os))
    go true rest = rest
    go false rest = (all.0, rest)

pub all-kept : (P : OpenPart → Type 0) (os : List OpenPart) (o : OpenPart) → AllByRecursion P os → P o → AllByRecursion P (os ++ o ∷ [])
all-kept P [] o all new = (new, tt)
all-kept P (x ∷ os) o all new = (all.0, all-kept P os o all.1 new)

pub all-found : (P : OpenPart → Type 0) (n : ℕ) (os : List OpenPart) (o : OpenPart) → AllByRecursion P os → find (is_part_of n) os ≡ Some o → P o
all-found P n [] o all found = absurd cc
all-found P n (x ∷ os) o all found = go (x.slot.peer == n) found (λ e. all-found P n os o all.1 e)
  where
    go : (c : Bool) → cond c (Some x) (find (is_part_of n) os) ≡ Some o → (find (is_part_of n) os ≡ Some o → P o) → P o
    go true e later = let is : x ≡ o = cc in subst P is all.0
    go false e later = later e
