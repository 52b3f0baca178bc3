-- Each buffer is in one item, and each item in one place, also after an item came in, was lent or left. What is told of all slots stays in
-- force for every lane; the numbers change for the lane of the item alone.
use Rattle.std.proofs.Common.{◌≡◌, ℕ, zero, suc, ◌+◌, ◌<◌, ◌≤◌, Bool, true, false, List, [], ◌∷◌, ◌++◌, Option, Some, None, refl, sym, ap, ap₂, ◌∙◌, subst, arith, eq-eqb}
use Rattle.std.specs.Prelude.{count_by, is_some, option_and_then, nat_lt, if◌then◌else◌, ◌==◌, ◌&&◌}
use Rattle.std.proofs.lemmas.Bool.{eqb-true, ltb-false, ltb-true, and_parts, false_from_ne_true}
use Rattle.mc_base.specs.declared.request.Slot.{Slot}
use Rattle.board_model.proofs.ListsCounts.{count-append, count-cons}
use Rattle.buffer_book.specs.Book.{Book, IsAway, IsFree, IsQueued, Item, Kept, NoneAside, if_state, is_state, item_at, kept_at, name_at, place_at, queued_at}
use Rattle.buffer_book.proofs.ItemLemmas.{item-name}
use Rattle.lane_end.specs.Numbers.{often, AreApart}
use Rattle.domain_parts.specs.InBook.{frames_at, slot_at, whole_at}
use Rattle.domain_parts.specs.InPlaces.{EachInPlace, IsNamed, IsShort, has_frame, is_of, is_same, one_if, times_in}
use Rattle.domain_parts.specs.Out.{Out}
use Rattle.domain_parts.proofs.Books.{Changes, differ-back, frame-item, frames-some, itself, kept-by, often-own, same-slot, whole-kept}

-- ---- counts of one

pub no-one : (b : Bool) → one_if b ≡ 0 → b ≡ false
no-one true none = absurd (omega arith)
no-one false none = refl

pub some-one : (b : Bool) (k : ℕ) → k + 1 ≡ one_if b → b ≡ true
some-one true k one = refl
some-one false k one = absurd (omega arith)

pub one-there : (b : Bool) → 0 < one_if b → b ≡ true
one-there true some = refl
one-there false some = absurd (omega (arith, some))

pub one-most : (b : Bool) → one_if b ≤ 1
one-most true = omega arith
one-most false = omega arith

lt-false : (n : ℕ) → nat_lt 0 n ≡ false → n ≡ 0
lt-false n e = let most = ltb-false 0 n e in omega (arith, most)

true-lt : (n : ℕ) → 0 < n → nat_lt 0 n ≡ true
true-lt n lt = go (nat_lt 0 n) refl
  where
    go : (b : Bool) → nat_lt 0 n ≡ b → nat_lt 0 n ≡ true
    go true e = e
    go false e = absurd (let most = ltb-false 0 n e in omega (arith, most, lt))

-- ---- the peer of a slot

pub of-own : (peer : ℕ) (s : Slot) → s.peer ≡ peer → is_of peer s ≡ true
of-own peer s own = eq-eqb s.peer peer own

pub of-other : (peer : ℕ) (s : Slot) → (peer ≡ s.peer → ⊥) → is_of peer s ≡ false
of-other peer s differ = false_from_ne_true (s.peer == peer) (λ same. differ (sym (eqb-true s.peer peer same)))

-- ---- slots, and one more

-- a slot more is among the second
abbrev pub HasMore : Slot → List Slot → List Slot → Type 0
HasMore s ss ts = (test : Slot → Bool) → count_by test ts ≡ count_by test ss + one_if (test s)

-- the same slots, in any order
abbrev pub HaveSame : List Slot → List Slot → Type 0
HaveSame ss ts = (test : Slot → Bool) → count_by test ts ≡ count_by test ss

pub more-before : (s : Slot) (ss ts ls : List Slot) → HasMore s ss ts → HasMore s (ss ++ ls) (ts ++ ls)
more-before s ss ts ls more test = let m = more test in omega (arith, m, count-append test ss ls, count-append test ts ls)

pub more-behind : (s : Slot) (ss ls ls' : List Slot) → HasMore s ls ls' → HasMore s (ss ++ ls) (ss ++ ls')
more-behind s ss ls ls' more test = let m = more test in omega (arith, m, count-append test ss ls, count-append test ss ls')

pub times-more : (s t : Slot) (ss ts : List Slot) → HasMore s ss ts → times_in t ts ≡ times_in t ss + one_if (is_same s t)
times-more s t ss ts more = more (λ (x : Slot). is_same x t)

pub times-there : (s t : Slot) (ss ts : List Slot) → HasMore s ss ts → is_same s t ≡ false → times_in t ts ≡ times_in t ss
times-there s t ss ts more differ = times-more s t ss ts more ∙ ap (λ (x : Bool). times_in t ss + one_if x) differ ∙ omega arith

pub times-here : (s : Slot) (ss ts : List Slot) → HasMore s ss ts → times_in s ts ≡ times_in s ss + 1
times-here s ss ts more = times-more s s ss ts more ∙ ap (λ (x : Bool). times_in s ss + one_if x) (itself s)

-- ---- how many slots pass a test

-- one that stands among them does
count-has : (test : Slot → Bool) (s : Slot) (xs : List Slot) → 0 < times_in s xs → test s ≡ true → 0 < count_by test xs
count-has test s [] some is = absurd (let none : times_in s [] ≡ 0 = refl in omega (arith, none, some))
count-has test s (x ∷ xs) some is = go (is_same x s) refl (λ left. count-has test s xs left is)
  where
    go : (b : Bool) → is_same x s ≡ b → (0 < times_in s xs → 0 < count_by test xs) → 0 < count_by test (x ∷ xs)
    go true same later =
        let here : one_if (test x) ≡ 1 = ap (λ (y : Slot). one_if (test y)) (same-slot x s same) ∙ ap one_if is in
        omega (arith, here, count-cons test x xs)
    go false other later =
        let none : one_if (is_same x s) ≡ 0 = ap one_if other in
        let rest = later (omega (arith, none, some, count-cons (λ (y : Slot). is_same y s) x xs)) in
        omega (arith, rest, count-cons test x xs)

-- two do that differ
count-two : (test : Slot → Bool) (s t : Slot) (xs : List Slot) → is_same s t ≡ false → 0 < times_in s xs → 0 < times_in t xs → test s ≡ true → test t ≡ true → 2 ≤ count_by test xs
count-two test s t [] differ some more is it = absurd (let none : times_in s [] ≡ 0 = refl in omega (arith, none, some))
count-two test s t (x ∷ xs) differ some more is it = go (is_same x s) refl (is_same x t) refl (λ a b. count-two test s t xs differ a b is it)
  where
    go : (b : Bool) → is_same x s ≡ b → (c : Bool) → is_same x t ≡ c → (0 < times_in s xs → 0 < times_in t xs → 2 ≤ count_by test xs) → 2 ≤ count_by test (x ∷ xs)
    go true same c other later =
        let here : one_if (test x) ≡ 1 = ap (λ (y : Slot). one_if (test y)) (same-slot x s same) ∙ ap one_if is in
        let none : one_if (is_same x t) ≡ 0 = ap (λ (y : Slot). one_if (is_same y t)) (same-slot x s same) ∙ ap one_if differ in
        let rest = count-has test t xs (omega (arith, none, more, count-cons (λ (y : Slot). is_same y t) x xs)) it in
        omega (arith, here, rest, count-cons test x xs)
    go false other true same later =
        let here : one_if (test x) ≡ 1 = ap (λ (y : Slot). one_if (test y)) (same-slot x t same) ∙ ap one_if it in
        let none : one_if (is_same x s) ≡ 0 = ap one_if other in
        let rest = count-has test s xs (omega (arith, none, some, count-cons (λ (y : Slot). is_same y s) x xs)) is in
        omega (arith, here, rest, count-cons test x xs)
    go false other false another later =
        let none : one_if (is_same x s) ≡ 0 = ap one_if other in
        let none' : one_if (is_same x t) ≡ 0 = ap one_if another in
        let rest = later (omega (arith, none, some, count-cons (λ (y : Slot). is_same y s) x xs)) (omega (arith, none', more, count-cons (λ (y : Slot). is_same y t) x xs)) in
        omega (arith, rest, count-cons test x xs)

-- where a slot is not among them, it does not matter
pub count-stays : (test test' : Slot → Bool) (s : Slot) (xs : List Slot) → times_in s xs ≡ 0 → ((t : Slot) → is_same s t ≡ false → test' t ≡ test t) → count_by test' xs ≡ count_by test xs
count-stays test test' s [] none same = refl
count-stays test test' s (x ∷ xs) none same =
    let sum = count-cons (λ (y : Slot). is_same y s) x xs in
    let here : one_if (is_same x s) ≡ 0 = omega (arith, sum, none) in
    let rest : times_in s xs ≡ 0 = omega (arith, sum, none) in
    count-cons test' x xs
    ∙ ap₂ (λ (c : Bool) (n : ℕ). one_if c + n) (same x (differ-back x s (no-one (is_same x s) here))) (count-stays test test' s xs rest same)
    ∙ sym (count-cons test x xs)

pub count-each : (test test' : Slot → Bool) (xs : List Slot) → ((t : Slot) → test' t ≡ test t) → count_by test' xs ≡ count_by test xs
count-each test test' [] same = refl
count-each test test' (x ∷ xs) same = count-cons test' x xs ∙ ap₂ (λ (c : Bool) (n : ℕ). one_if c + n) (same x) (count-each test test' xs same) ∙ sym (count-cons test x xs)

-- ---- what a book has

pub not-held : (o : Option (Option Kept)) → is_some o ≡ true → is_some (option_and_then (λ p. p) o) ≡ false → o ≡ Some None
not-held None known free = absurd cc
not-held (Some None) known free = refl
not-held (Some (Some k)) known free = absurd cc

-- what is in a queue is an item, and is what the slot names
pub queued-item : (o : Option Item) → is_some (option_and_then (if_state None) o) ≡ true → is_some o ≡ true
queued-item None is = absurd cc
queued-item (Some i) is = refl

pub state-same : (lent : Option ℕ) (o : Option Item) → is_some (option_and_then (if_state lent) o) ≡ true → (i : Item) × (o ≡ Some i) × (is_state i.lent lent ≡ true)
state-same lent None is = absurd cc
state-same lent (Some i) is = (i, refl, go (is_state i.lent lent) is)
  where
    go : (b : Bool) → is_some (if b then Some i else None) ≡ true → b ≡ true
    go true e = refl
    go false e = absurd cc

pub queued-same : (o : Option Item) → is_some (option_and_then (if_state None) o) ≡ true → (i : Item) × (o ≡ Some i) × (is_state i.lent None ≡ true)
queued-same o is = state-same None o is

pub some-item : (o : Option Item) → is_some o ≡ true → (i : Item) × (o ≡ Some i)
some-item None is = absurd cc
some-item (Some i) is = (i, refl)

pub beside_by : (here fits : Bool) (k all : ℕ) → (1 + k) + one_if here ≡ all → all ≤ one_if fits → (here ≡ false) × (fits ≡ true)
beside_by true true k all once most = absurd (omega (arith, once, most))
beside_by true false k all once most = absurd (omega (arith, once, most))
beside_by false true k all once most = (refl, refl)
beside_by false false k all once most = absurd (omega (arith, once, most))

-- a frame of an item, and none
pub frame-true : (b : Book) (s : Slot) (n : ℕ) → 0 < often n (frames_at b s) → has_frame b (slot_at s.peer n) s ≡ true
frame-true b s n among = ap₂ (λ (x y : Bool). x && y) (eq-eqb s.peer s.peer refl) (true-lt (often n (frames_at b s)) among)

pub frame-parts : (b : Book) (f s : Slot) → has_frame b f s ≡ true → (s.peer ≡ f.peer) × (0 < often f.buffer (frames_at b s))
frame-parts b f s is = let parts = and_parts (s.peer == f.peer) (nat_lt 0 (often f.buffer (frames_at b s))) is in (eqb-true s.peer f.peer parts.0, ltb-true 0 (often f.buffer (frames_at b s)) parts.1)

pub no-frame : (b : Book) (f s : Slot) → has_frame b f s ≡ false → s.peer ≡ f.peer → often f.buffer (frames_at b s) ≡ 0
no-frame b f s is own = lt-false (often f.buffer (frames_at b s)) (sym (ap (λ (x : Bool). x && nat_lt 0 (often f.buffer (frames_at b s))) (eq-eqb s.peer f.peer own)) ∙ is)

frames-same : (b b' : Book) (f s : Slot) → frames_at b' s ≡ frames_at b s → has_frame b' f s ≡ has_frame b f s
frames-same b b' f s same = ap (λ (fs : List ℕ). s.peer == f.peer && nat_lt 0 (often f.buffer fs)) same

-- ---- what is told of all slots

pub record Stands (ss ls : List Slot) (b : Book) : Type 0 where
  pub stands_once : (s : Slot) → times_in s ss ≡ one_if (is_some (queued_at b s))
  pub lent_once : (s : Slot) → times_in s ls + one_if (is_some (queued_at b s)) ≡ one_if (is_some (item_at b s))
  pub framed : (f : Slot) → count_by (has_frame b f) (ss ++ ls) ≡ one_if (is_some (kept_at b f))
  pub differ : (s : Slot) (f : ℕ) → often f (frames_at b s) ≤ 1
  pub named : (s : Slot) → IsNamed s (item_at b s)
  pub none_aside : NoneAside b
  pub names : (s : Slot) → is_some (name_at b s) ≡ is_some (place_at b s)
  pub short : (s : Slot) → IsShort (whole_at b s)

-- and of one lane
pub record IsLane (number : ℕ) (o : Out) (b : Book) (ns : List ℕ) : Type 0 where
  pub known : (n : ℕ) → is_some (place_at b (slot_at number n)) ≡ nat_lt n o.size
  pub once : (n : ℕ) → often n ns + one_if (is_some (kept_at b (slot_at number n))) ≡ often n o.numbers
  pub apart : AreApart o.size o.numbers

pub stands-of : (ls : List Slot) (number : ℕ) (o : Out) (ss : List Slot) (b : Book) (ns : List ℕ) → EachInPlace number o ss ls b ns → Stands ss ls b
stands-of ls number o ss b ns e = record { stands_once = e.stands_once; lent_once = e.lent_once; framed = e.framed; differ = e.differ; named = e.named; none_aside = e.none_aside; names = e.names; short = e.short }

pub lane-of : (ls : List Slot) (number : ℕ) (o : Out) (ss : List Slot) (b : Book) (ns : List ℕ) → EachInPlace number o ss ls b ns → IsLane number o b ns
lane-of ls number o ss b ns e = record { known = e.known; once = e.once; apart = e.apart }

pub in-place : (ls : List Slot) (number : ℕ) (o : Out) (ss : List Slot) (b : Book) (ns : List ℕ) → Stands ss ls b → IsLane number o b ns → EachInPlace number o ss ls b ns
in-place ls number o ss b ns st l = record { stands_once = st.stands_once; lent_once = st.lent_once; framed = st.framed; differ = st.differ; named = st.named; none_aside = st.none_aside; names = st.names; short = st.short; known = l.known; once = l.once; apart = l.apart }

-- the slots may stand in another order
pub stands-slots : (ss ss' ls : List Slot) (b : Book) → HaveSame ss ss' → Stands ss ls b → Stands ss' ls b
stands-slots ss ss' ls b same st = record {
  stands_once = λ s. same (λ (x : Slot). is_same x s) ∙ st.stands_once s;
  lent_once = st.lent_once;
  framed = λ f. let m = same (has_frame b f) in omega (arith, m, count-append (has_frame b f) ss ls, count-append (has_frame b f) ss' ls, st.framed f);
  differ = st.differ;
  named = st.named;
  none_aside = st.none_aside;
  names = st.names;
  short = st.short;
}

pub other-slots : (ls : List Slot) (number : ℕ) (o : Out) (ss ts : List Slot) (b : Book) (ns : List ℕ) → HaveSame ss ts → EachInPlace number o ss ls b ns → EachInPlace number o ts ls b ns
other-slots ls number o ss ts b ns same e = in-place ls number o ts b ns (stands-slots ss ts ls b same (stands-of ls number o ss b ns e)) (lane-of ls number o ss b ns e)

module _ (ss ls : List Slot) (b : Book) (st : Stands ss ls b) where
  -- a slot that names an item stands or is lent, once
  pub item-times : (s : Slot) → times_in s (ss ++ ls) ≡ one_if (is_some (item_at b s))
  item-times s = omega (arith, count-append (λ (x : Slot). is_same x s) ss ls, st.stands_once s, st.lent_once s)

  pub item-stands : (s : Slot) → is_some (item_at b s) ≡ true → 0 < times_in s (ss ++ ls)
  item-stands s is = let one : one_if (is_some (item_at b s)) ≡ 1 = ap one_if is in omega (arith, one, item-times s)

  frame-stands : (f s : Slot) → has_frame b f s ≡ true → 0 < times_in s (ss ++ ls)
  frame-stands f s is = item-stands s (frame-item b s f.buffer (frame-parts b f s is).1)

  -- a frame of an item is held, and of no other
  pub frame-kept : (f s : Slot) → has_frame b f s ≡ true → is_some (kept_at b f) ≡ true
  frame-kept f s is = one-there (is_some (kept_at b f)) (omega (arith, count-has (has_frame b f) s (ss ++ ls) (frame-stands f s is) is, st.framed f))

  pub frame-own : (f s t : Slot) → is_same s t ≡ false → has_frame b f s ≡ true → has_frame b f t ≡ false
  frame-own f s t differ is = go (has_frame b f t) refl
    where
      go : (x : Bool) → has_frame b f t ≡ x → has_frame b f t ≡ false
      go true it = absurd (omega (arith, count-two (has_frame b f) s t (ss ++ ls) differ (frame-stands f s is) (frame-stands f t it) is it, st.framed f, one-most (is_some (kept_at b f))))
      go false it = it

  -- what is not held is no frame
  pub away-frame : (f s : Slot) → is_some (kept_at b f) ≡ false → has_frame b f s ≡ false
  away-frame f s free = go (has_frame b f s) refl
    where
      go : (x : Bool) → has_frame b f s ≡ x → has_frame b f s ≡ false
      go true is = let it = frame-kept f s is in absurd (cc (it, free))
      go false is = is

  -- the buffer is held that names an item
  pub item-kept : (s : Slot) → is_some (item_at b s) ≡ true → is_some (kept_at b s) ≡ true
  item-kept s is =
      let i = some-item (item_at b s) is in
      let first : i.0.first ≡ s.buffer = subst (IsNamed s) i.1 (st.named s) in
      let one : often s.buffer (frames_at b s) ≡ 1 + often s.buffer i.0.more = ap (often s.buffer) (frames-some b s i.0 i.1) ∙ ap (λ (n : ℕ). often s.buffer (n ∷ i.0.more)) first ∙ often-own s.buffer i.0.more in
      frame-kept s s (frame-true b s s.buffer (omega (arith, one)))

  -- what is away names no item
  pub away-item : (s : Slot) → IsAway b s → item_at b s ≡ None
  away-item s away = go (item_at b s) refl
    where
      go : (o : Option Item) → item_at b s ≡ o → item_at b s ≡ None
      go None e = e
      go (Some i) e =
          let it = item-kept s (ap (λ (o : Option Item). is_some o) e) in
          let free : is_some (kept_at b s) ≡ false = ap (λ (o : Option (Option Kept)). is_some (option_and_then (λ p. p) o)) away in
          absurd (cc (it, free))

  pub away-free : (s : Slot) → IsAway b s → IsFree b s
  away-free s away = by (name_at b s) (st.names s ∙ ap (λ (o : Option (Option Kept)). is_some o) away) (sym (item-name b s) ∙ away-item s away)
    where
      by : (o : Option (Option Item)) → is_some o ≡ true → option_and_then (λ x. x) o ≡ None → o ≡ Some None
      by None is none = absurd cc
      by (Some None) is none = refl
      by (Some (Some i)) is none = absurd cc

  -- it stands nowhere
  pub away-nowhere : (s : Slot) → IsAway b s → times_in s (ss ++ ls) ≡ 0
  away-nowhere s away = item-times s ∙ ap (λ (o : Option Item). one_if (is_some o)) (away-item s away)

  pub away-none : (s : Slot) → IsAway b s → times_in s ss ≡ 0
  away-none s away = omega (arith, away-nowhere s away, count-append (λ (x : Slot). is_same x s) ss ls)

  pub away-lent : (s : Slot) → IsAway b s → times_in s ls ≡ 0
  away-lent s away = omega (arith, away-nowhere s away, count-append (λ (x : Slot). is_same x s) ss ls)

  -- what is in a queue is not lent
  pub queued-not_lent : (s : Slot) → IsQueued b s → times_in s ls ≡ 0
  queued-not_lent s is =
      let one : one_if (is_some (queued_at b s)) ≡ 1 = ap one_if is in
      omega (arith, one, st.lent_once s, one-most (is_some (item_at b s)))

  -- what stands is in a queue of the book
  pub one-queued : (s : Slot) (k : ℕ) → times_in s ss ≡ k + 1 → IsQueued b s
  one-queued s k stands = some-one (is_some (queued_at b s)) k (sym stands ∙ st.stands_once s)

  pub more-queued : (s : Slot) (vs : List Slot) → HasMore s vs ss → IsQueued b s
  more-queued s vs more = one-queued s (times_in s vs) (times-here s vs ss more)

  -- and stands no more once it is taken
  pub none-left : (s : Slot) (vs : List Slot) → HasMore s vs ss → times_in s vs ≡ 0
  none-left s vs more =
      let was : times_in s ss ≡ 1 = st.stands_once s ∙ ap one_if (more-queued s vs more) in
      omega (arith, was, times-here s vs ss more)

  -- what is lent names an item that is in no queue, and stands in no list
  pub lent-item : (s : Slot) (ls' : List Slot) → HasMore s ls' ls → is_some (item_at b s) ≡ true
  lent-item s ls' more = some-one (is_some (item_at b s)) (times_in s ls' + one_if (is_some (queued_at b s))) (omega (arith, st.lent_once s, times-here s ls' ls more))

  pub lent-nowhere : (s : Slot) (ls' : List Slot) → HasMore s ls' ls → (times_in s ss ≡ 0) × (times_in s ls' ≡ 0)
  lent-nowhere s ls' more =
      let most = one-most (is_some (item_at b s)) in
      let here = times-here s ls' ls more in
      let was = st.lent_once s in
      let once = st.stands_once s in
      (omega (arith, once, was, most, here), omega (arith, was, most, here))

  -- a change at a slot leaves each other item as it is, where they share no frame
  pub whole-there : (b' : Book) (s : Slot) (fs : List ℕ) (after : Option Item) → Changes b b' s fs after → ((f : ℕ) → 0 < often f fs → (t : Slot) → is_same s t ≡ false → has_frame b (slot_at s.peer f) t ≡ false) → (t : Slot) → is_same s t ≡ false → whole_at b' t ≡ whole_at b t
  whole-there b' s fs after c apart t differ = whole-kept b b' t (c.items t differ) (λ f among. kept-by b b' (slot_at t.peer f) (c.places (slot_at t.peer f) (λ own. by f among own (often f fs) refl)))
    where
      by : (f : ℕ) → 0 < often f (frames_at b t) → t.peer ≡ s.peer → (n : ℕ) → often f fs ≡ n → often f fs ≡ 0
      by f among own zero none = none
      by f among own (suc n) some =
          let is = subst (λ (p : ℕ). has_frame b (slot_at p f) t ≡ true) own (frame-true b t f among) in
          let not = apart f (omega (arith, some)) t differ in
          absurd (cc (is, not))
