-- The items that a domain holds are no more than the buffers that are out, and these no more than its lanes have.
use Rattle.std.proofs.Common.{◌≡◌, ℕ, zero, suc, ◌+◌, ◌<◌, ◌≤◌, Bool, true, false, cond, List, [], ◌∷◌, ◌++◌, length, map, refl, sym, ap, ◌∙◌, arith, eq-eqb, length-append}
use Rattle.std.specs.Prelude.{Contains, count_by, filter, is_some, ◌==◌, ◌&&◌}
use Rattle.std.specs.List.{AllByRecursion}
use Rattle.std.proofs.lemmas.List.{length-map}
use Rattle.mc_base.specs.declared.request.Slot.{Slot}
use Rattle.board_model.proofs.ListsCounts.{count-cons}
use Rattle.lane_end.specs.Numbers.{often}
use Rattle.lane_end.specs.ReceiverContract.{without}
use Rattle.lane_end.proofs.CountLemmas.{length-apart, length-without, often-without, tick}
use Rattle.buffer_book.specs.Book.{Book, item_at, kept_at, slot_of}
use Rattle.request_set.specs.Requests.{Requests}
use Rattle.endpoint_table.specs.Table as endpoint_table
use Rattle.domain_parts.specs.LaneSeen.{LaneSeen}
use Rattle.domain_parts.specs.declared.peer.Peer.{Peer}
use Rattle.domain_parts.specs.AllMoved.{numbers_of}
use Rattle.domain_parts.specs.InBook.{slot_at}
use Rattle.domain_parts.specs.InPlaces.{is_of, is_same, one_if, slots_of, times_in}
use Rattle.domain_parts.specs.Records.{Records, lent_slots}
use Rattle.domain_parts.specs.Sound.{AreSound, buffers_count, outs_count}
use Rattle.domain_parts.proofs.Books.{itself, often-own}
use Rattle.domain_parts.proofs.GivingLemmas.{InPlacesAt, all-stand, item-shelf}
use Rattle.domain_parts.proofs.Placed.{Stands, item-kept, item-times, one-there}

-- ---- lists of numbers

-- where no number stands more often in one, it is no longer
pub length-within : (xs ys : List ℕ) → ((n : ℕ) → often n xs ≤ often n ys) → length xs ≤ length ys
length-within [] ys least = omega arith
length-within (x ∷ xs) ys least =
    let some : 0 < often x ys = omega (arith, least x, often-own x xs) in
    let rest = length-within xs (without x ys) (λ n. let l = least n in let left = often-without n x ys some in let one : often n (x ∷ xs) ≡ tick x n + often n xs = refl in omega (arith, l, left, one)) in
    omega (arith, rest, length-without x ys some)

-- ---- the buffers that name slots of a peer

abbrev pub buffers : ℕ → List Slot → List ℕ
buffers peer ss = map (λ (s : Slot). s.buffer) (filter (is_of peer) ss)

pub buffers-often : (peer n : ℕ) (ss : List Slot) → often n (buffers peer ss) ≡ times_in (slot_at peer n) ss
buffers-often peer n [] = refl
buffers-often peer n (s ∷ ss) = go (s.peer == peer) (buffers-often peer n ss) ∙ sym (count-cons (λ (t : Slot). is_same t (slot_at peer n)) s ss)
  where
    go : (b : Bool) → often n (buffers peer ss) ≡ times_in (slot_at peer n) ss → often n (map (λ (x : Slot). x.buffer) (cond b (s ∷ filter (is_of peer) ss) (filter (is_of peer) ss))) ≡ one_if (b && s.buffer == n) + times_in (slot_at peer n) ss
    go true rest = ap (λ (k : ℕ). one_if (s.buffer == n) + k) rest
    go false rest = omega (arith, rest)

pub buffers-length : (peer : ℕ) (ss : List Slot) → length (buffers peer ss) ≡ count_by (is_of peer) ss
buffers-length peer [] = refl
buffers-length peer (s ∷ ss) = go (s.peer == peer) (buffers-length peer ss) ∙ sym (count-cons (is_of peer) s ss)
  where
    go : (b : Bool) → length (buffers peer ss) ≡ count_by (is_of peer) ss → length (map (λ (x : Slot). x.buffer) (cond b (s ∷ filter (is_of peer) ss) (filter (is_of peer) ss))) ≡ one_if b + count_by (is_of peer) ss
    go true rest = omega (arith, rest)
    go false rest = omega (arith, rest)

-- ---- each slot is of one of the peers

-- how many of these numbers are that of a slot's peer, and how many slots are of these peers
abbrev named : List ℕ → Slot → ℕ
named [] s = 0
named (n ∷ ns) s = one_if (is_of n s) + named ns s

abbrev of_all : List ℕ → List Slot → ℕ
of_all [] ss = 0
of_all (n ∷ ns) ss = count_by (is_of n) ss + of_all ns ss

of_all-more : (ns : List ℕ) (s : Slot) (ss : List Slot) → of_all ns (s ∷ ss) ≡ named ns s + of_all ns ss
of_all-more [] s ss = refl
of_all-more (n ∷ ns) s ss = let rest = of_all-more ns s ss in let one = count-cons (is_of n) s ss in omega (arith, rest, one)

named-there : (ns : List ℕ) (s : Slot) → Contains ns s.peer → 1 ≤ named ns s
named-there [] s (k, lt, e) = absurd (omega (arith, lt))
named-there (n ∷ ns) s (zero, lt, e) = let one : one_if (is_of n s) ≡ 1 = ap one_if (eq-eqb s.peer n (sym e)) in omega (arith, one)
named-there (n ∷ ns) s (suc k, lt, e) = let rest = named-there ns s (k, omega arith, e) in omega (arith, rest)

all-named : (ns : List ℕ) (ss : List Slot) → ((s : Slot) → 0 < times_in s ss → Contains ns s.peer) → length ss ≤ of_all ns ss
all-named ns [] each = omega arith
all-named ns (s ∷ ss) each =
    let sum : (t : Slot) → times_in t (s ∷ ss) ≡ one_if (is_same s t) + times_in t ss = λ t. count-cons (λ (x : Slot). is_same x t) s ss in
    let one : one_if (is_same s s) ≡ 1 = ap one_if (itself s) in
    let here = named-there ns s (each s (omega (arith, sum s, one))) in
    let rest = all-named ns ss (λ t some. each t (omega (arith, sum t, some))) in
    omega (arith, here, rest, of_all-more ns s ss)

-- ---- all that is held

module _ {L : Type 0} (v : L → LaneSeen) (b : Book) (r : Records) (q : Requests) (t : endpoint_table.Table) (ps : List (Peer L)) (sound : AreSound v b r q t ps) where
  abbrev all : List Slot
  all = slots_of r q ++ lent_slots r

  -- of one peer
  own-fit : (p : Peer L) → InPlacesAt v b r q p → count_by (is_of p.number) all ≤ length (v p.ends).out
  own-fit p places =
      let st = all-stand v b r q t ps sound in
      let within = length-within (buffers p.number all) (v p.ends).out (λ n. by n (is_some (item_at b (slot_at p.number n))) refl st (buffers-often p.number n all) (item-times (slots_of r q) (lent_slots r) b st (slot_at p.number n)) (places.each.once n)) in
      omega (arith, within, buffers-length p.number all)
    where
      by : (n : ℕ) (x : Bool) → is_some (item_at b (slot_at p.number n)) ≡ x → Stands (slots_of r q) (lent_slots r) b → often n (buffers p.number all) ≡ times_in (slot_at p.number n) all → times_in (slot_at p.number n) all ≡ one_if (is_some (item_at b (slot_at p.number n)))
          → often n [] + one_if (is_some (kept_at b (slot_at p.number n))) ≡ often n (v p.ends).out → often n (buffers p.number all) ≤ often n (v p.ends).out
      by n true is st many times once =
          let kept : one_if (is_some (kept_at b (slot_at p.number n))) ≡ 1 = ap one_if (item-kept (slots_of r q) (lent_slots r) b st (slot_at p.number n) is) in
          let one : one_if (is_some (item_at b (slot_at p.number n))) ≡ 1 = ap one_if is in
          omega (arith, many, times, once, kept, one)
      by n false none st many times once = let zero : one_if (is_some (item_at b (slot_at p.number n))) ≡ 0 = ap one_if none in omega (arith, many, times, zero)

  all-fit : (xs : List (Peer L)) → AllByRecursion (InPlacesAt v b r q) xs → of_all (numbers_of xs) all ≤ outs_count v xs
  all-fit [] places = omega arith
  all-fit (p ∷ xs) places = omega (arith, own-fit p places.0, all-fit xs places.1)

  outs-fit : (xs : List (Peer L)) → AllByRecursion (InPlacesAt v b r q) xs → outs_count v xs ≤ buffers_count v xs
  outs-fit [] places = omega arith
  outs-fit (p ∷ xs) places = let here = length-apart (v p.ends).size_from (v p.ends).out places.0.each.apart in omega (arith, here, outs-fit xs places.1)

  pub held-fits : length (slots_of r q) + length r.lent ≤ outs_count v ps
  held-fits =
      let st = all-stand v b r q t ps sound in
      let named = all-named (numbers_of ps) all (λ s some. sound.shelves s.peer (item-shelf b s (one-there (is_some (item_at b s)) (omega (arith, some, item-times (slots_of r q) (lent_slots r) b st s))))) in
      omega (arith, named, all-fit ps sound.places, length-append (slots_of r q) (lent_slots r), length-map r.lent slot_of)

  pub held-room : length (slots_of r q) + length r.lent ≤ r.room
  held-room = let room = sound.room in omega (arith, held-fits, outs-fit ps sound.places, room)
