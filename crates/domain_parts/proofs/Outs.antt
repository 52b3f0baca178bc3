-- The buffers that are out of the lane from a peer, as they are taken and given back.
use Rattle.std.proofs.Common.{◌≡◌, ℕ, ◌+◌, ◌<◌, ◌≤◌, Bool, true, false, List, [], ◌∷◌, ◌++◌, length, refl, sym, ap, ◌∙◌, subst, arith}
use Rattle.std.specs.Prelude.{Contains, is_some, nat_lt}
use Rattle.mc_base.specs.declared.request.Slot.{Slot}
use Rattle.lane_end.specs.Numbers.{often, AreApart}
use Rattle.lane_end.specs.ReceiverContract.{without}
use Rattle.lane_end.proofs.CountLemmas.{tick, contained-often, length-apart, length-without, often-append, often-without}
use Rattle.buffer_book.specs.Book.{Book, IsQueued, item_at, place_at, queued_at}
use Rattle.request_set.specs.Requests.{Requests}
use Rattle.domain_parts.specs.GivingBack.{AreOut}
use Rattle.domain_parts.specs.InBook.{slot_at}
use Rattle.domain_parts.specs.InPlaces.{AreInPlaces, AreInPlacesBeside, AreInPlacesBut, one_if, slots_of, times_in}
use Rattle.domain_parts.specs.Out.{Out, out_of, with_one_back}
use Rattle.domain_parts.specs.Records.{Records, lent_slots}
use Rattle.domain_parts.proofs.Books.{often-own}
use Rattle.domain_parts.proofs.Placed.{in-place, stands-of}

-- the same slots and book, for other buffers that are out
beside-out : (number : ℕ) (r : Records) (q : Requests) (b : Book) (o o' : Out) (ns ns' : List ℕ) → o'.size ≡ o.size → AreApart o'.size o'.numbers → ((m : ℕ) → often m ns' + often m o.numbers ≡ often m ns + often m o'.numbers) → AreInPlacesBeside ns number r q b o → AreInPlacesBeside ns' number r q b o'
beside-out number r q b o o' ns ns' size apart moved e =
    record {
      each = in-place (lent_slots r) number o' (slots_of r q) b ns' (stands-of (lent_slots r) number o (slots_of r q) b ns e.each) (record {
        known = subst (λ (k : ℕ). (n : ℕ) → is_some (place_at b (slot_at number n)) ≡ nat_lt n k) (sym size) e.each.known;
        once = λ m. let was = e.each.once m in let is = moved m in omega (arith, was, is);
        apart = apart;
      });
      priorities = e.priorities;
      lent = e.lent;
      parts = e.parts;
    }

-- a buffer out of all places is out
stands : (number : ℕ) (r : Records) (q : Requests) (b : Book) (o : Out) (n : ℕ) (ns : List ℕ) → AreInPlacesBeside (n ∷ ns) number r q b o → 0 < often n o.numbers
stands number r q b o n ns e = omega (arith, e.each.once n, often-own n ns)

pub is-out : (number : ℕ) (r : Records) (q : Requests) (b : Book) (o : Out) (n : ℕ) (ns : List ℕ) → AreInPlacesBeside (n ∷ ns) number r q b o → Contains o.numbers n
is-out number r q b o n ns e = contained-often o.numbers n (stands number r q b o n ns e)

-- it is given back
pub placed-given : (number : ℕ) (r : Records) (q : Requests) (b : Book) (o : Out) (n : ℕ) (ns : List ℕ) → AreInPlacesBeside (n ∷ ns) number r q b o → AreInPlacesBeside ns number r q b (with_one_back o n)
placed-given number r q b o n ns e =
    let some = stands number r q b o n ns e in
    beside-out number r q b o (with_one_back o n) (n ∷ ns) ns refl
    (λ m. let was = e.each.apart m in let left = often-without m n o.numbers some in omega (arith, was, left))
    (λ m. let left = often-without m n o.numbers some in let one : often m (n ∷ ns) ≡ tick n m + often m ns = refl in omega (arith, left, one)) e

-- buffers are given back, one after the other
abbrev pub with_back : List ℕ → Out → Out
with_back [] o = o
with_back (n ∷ ns) o = with_back ns (with_one_back o n)

pub all-out : (number : ℕ) (r : Records) (q : Requests) (b : Book) (o : Out) (ns : List ℕ) → AreInPlacesBeside ns number r q b o → AreOut o.numbers ns
all-out number r q b o [] e = tt
all-out number r q b o (n ∷ ns) e = (is-out number r q b o n ns e, all-out number r q b (with_one_back o n) ns (placed-given number r q b o n ns e))

pub all-given : (number : ℕ) (r : Records) (q : Requests) (b : Book) (o : Out) (ns : List ℕ) → AreInPlacesBeside ns number r q b o → AreInPlaces number r q b (with_back ns o)
all-given number r q b o [] e = e
all-given number r q b o (n ∷ ns) e = all-given number r q b (with_one_back o n) ns (placed-given number r q b o n ns e)

-- and one fewer is out
pub length-given : (number : ℕ) (r : Records) (q : Requests) (b : Book) (o : Out) (n : ℕ) → AreInPlacesBut n number r q b o → length (without n o.numbers) + 1 ≡ length o.numbers
length-given number r q b o n e = length-without n o.numbers (stands number r q b o n [] e)

-- a buffer is taken
pub placed-taken : (number : ℕ) (r : Records) (q : Requests) (b : Book) (o : Out) (n : ℕ) (numbers : List ℕ) → numbers ≡ o.numbers ++ n ∷ [] → AreApart o.size numbers → AreInPlaces number r q b o → AreInPlacesBut n number r q b (out_of o.size numbers)
placed-taken number r q b o n numbers taken apart e =
    beside-out number r q b o (out_of o.size numbers) [] (n ∷ []) refl apart
    (λ m. let more = ap (often m) taken ∙ often-append m o.numbers (n ∷ []) in let none : often m [] ≡ 0 = refl in omega (arith, more, none)) e

-- no more are out than the lane has
pub outs-fit : (number : ℕ) (r : Records) (q : Requests) (b : Book) (o : Out) → AreInPlaces number r q b o → length o.numbers ≤ o.size
outs-fit number r q b o e = length-apart o.size o.numbers e.each.apart

-- ---- a slot that waits or was handed

some-there : (x : Bool) (k : ℕ) → 0 < k → k ≡ one_if x → x ≡ true
some-there true k more is = refl
some-there false k more is = absurd (omega (arith, more, is))

-- names an item in a queue of the book
pub there-queued : (number : ℕ) (r : Records) (q : Requests) (b : Book) (o : Out) (s : Slot) → AreInPlaces number r q b o → 0 < times_in s (slots_of r q) → IsQueued b s
there-queued number r q b o s e there = some-there (is_some (queued_at b s)) (times_in s (slots_of r q)) there (e.each.stands_once s)

-- ---- a slot that is lent

pub lent-held : (number : ℕ) (r : Records) (q : Requests) (b : Book) (o : Out) (s : Slot) → AreInPlaces number r q b o → 0 < times_in s (lent_slots r) → is_some (item_at b s) ≡ true
lent-held number r q b o s e there = some-there (is_some (item_at b s)) (times_in s (lent_slots r) + one_if (is_some (queued_at b s))) (omega (arith, there)) (e.each.lent_once s)

-- ---- the same of a lane, by what its calls tell

pub given-places : (number : ℕ) (r : Records) (q : Requests) (b : Book) (ns : List ℕ) (size size' : ℕ) (out out' : List ℕ) → out_of size' out' ≡ with_back ns (out_of size out) → AreInPlacesBeside ns number r q b (out_of size out) → AreInPlaces number r q b (out_of size' out')
given-places number r q b ns size size' out out' is places = subst (AreInPlaces number r q b) (sym is) (all-given number r q b (out_of size out) ns places)

pub taken-places : (number : ℕ) (r : Records) (q : Requests) (b : Book) (n size size' : ℕ) (out out' : List ℕ) → size' ≡ size → out' ≡ out ++ n ∷ [] → AreApart size' out' → AreInPlaces number r q b (out_of size out) → AreInPlacesBut n number r q b (out_of size' out')
taken-places number r q b n size size' out out' same is apart places =
    subst (λ (k : ℕ). AreInPlacesBut n number r q b (out_of k out')) (sym same) (placed-taken number r q b (out_of size out) n out' is (subst (λ (k : ℕ). AreApart k out') same apart) places)

pub same-places : (number : ℕ) (r : Records) (q : Requests) (b : Book) (size size' : ℕ) (out out' : List ℕ) → size' ≡ size → out' ≡ out → AreInPlaces number r q b (out_of size out) → AreInPlaces number r q b (out_of size' out')
same-places number r q b size size' out out' same is places =
    subst (λ (k : ℕ). AreInPlaces number r q b (out_of k out')) (sym same) (subst (λ (ns : List ℕ). AreInPlaces number r q b (out_of size ns)) (sym is) places)
