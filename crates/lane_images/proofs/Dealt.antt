-- A sender puts in the numbers that the definitions tell, and no number comes back before its frame was put.
use Rattle.std.proofs.Common.{◌≡◌, ℕ, zero, suc, ◌+◌, ◌<◌, ◌≤◌, List, [], ◌∷◌, ◌++◌, length, map, take, drop, Some, refl, ap, sym, ◌∙◌, subst, arith, append_assoc, append-nil, length-append}
use Rattle.std.specs.Prelude.{slice_get}
use Rattle.std.specs.List.{AllByRecursion}
use Rattle.std.proofs.lemmas.List.{append_cancel_left, map-append}
use mathlib.Core.Logic.{dite}
use native.Mathlib.Decide.{dec_lt}
use Rattle.board_model.specs.RingImage.{Offer}
use Rattle.lane_end.specs.Numbers.{often, inside, AreApart}
use Rattle.lane_end.specs.SendMoves.{SendMove, Looked, Sent}
use Rattle.lane_end.specs.SendParts.{frames_sent}
use Rattle.lane_end.specs.RingSender.{Hand, Deals}
use Rattle.lane_end.proofs.CountLemmas.{tick-same, often-append}
use Rattle.ring_numbers.specs.InTime.{ComeBackLater}
use Rattle.ring_numbers.specs.SenderNumbers.{Numbers, number_at, put_in, after_sending, after_all}
use Rattle.lane_images.specs.Sendings.{sending_of, sendings}
use Rattle.lane_images.proofs.Early.{Early}
use Rattle.lane_images.proofs.Fronts.{get-front, front-next, front-whole}

-- ---- what is dealt later

pub record Later (old new : Hand) : Type 0 where
  pub sent : List ℕ
  pub back : List ℕ
  pub sent_is : new.sent ≡ old.sent ++ sent
  pub back_is : new.back ≡ old.back ++ back

pub later : (size : ℕ) (old new : Hand) (moves : List SendMove) → Deals size old moves new → Later old new
later size old new [] d = record { sent = []; back = []; sent_is = ap (λ (h : Hand). h.sent) d ∙ sym (append-nil old.sent); back_is = ap (λ (h : Hand). h.back) d ∙ sym (append-nil old.back) }
later size old new (Looked n ∷ ms) d =
    let l = later size (record { free = old.free ++ d.0; sent = old.sent; back = old.back ++ d.0 }) new ms d.3 in
    record { sent = l.sent; back = d.0 ++ l.back; sent_is = l.sent_is; back_is = l.back_is ∙ append_assoc old.back d.0 l.back }
later size old new (Sent frame ∷ ms) d =
    let l = later size (record { free = d.1; sent = old.sent ++ d.0 ∷ []; back = old.back }) new ms d.4 in
    record { sent = d.0 ∷ l.sent; back = l.back; sent_is = l.sent_is ∙ append_assoc old.sent (d.0 ∷ []) l.sent; back_is = l.back_is }

-- ---- numbers that come back

-- their frames were put, since each number came back no more often than it was put
these-later : (nums sent after before more places tail : List ℕ) → nums ≡ sent ++ after → ((x : ℕ) → often x (before ++ more) ≤ often x sent) → Early nums before places (more ++ tail) → AllByRecursion (λ place. place < length sent) (take (length more) places)
these-later nums sent after before [] places tail is least e = tt
these-later nums sent after before (m ∷ more) [] tail is least e = absurd e
these-later nums sent after before (m ∷ more) (place ∷ places) tail is least e = (
  dite (dec_lt place (length sent)) (λ l. l) (λ no. absurd (
      let f = front-next nums place m e.0 in let w = front-whole m sent after place (omega (arith, no)) in let s = ap (λ (l : List ℕ). often m (take place l)) is in
      let b = e.1 in let l = least m in let a = often-append m before (m ∷ more) in let t = tick-same m m refl in omega (arith, f, w, s, b, l, a, t))),
  these-later nums sent after (before ++ m ∷ []) more places tail is
      (λ x. subst (λ (l : List ℕ). often x l ≤ often x sent) (sym (append_assoc before (m ∷ []) more)) (least x)) e.2,
)

then-early : (nums before more places tail : List ℕ) → Early nums before places (more ++ tail) → Early nums (before ++ more) (drop (length more) places) tail
then-early nums before [] places tail e = subst (λ (l : List ℕ). Early nums l places tail) (sym (append-nil before)) e
then-early nums before (m ∷ more) [] tail e = absurd e
then-early nums before (m ∷ more) (place ∷ places) tail e = subst (λ (l : List ℕ). Early nums l (drop (length more) places) tail) (append_assoc before (m ∷ []) more) (then-early nums (before ++ m ∷ []) more places tail e.2)

abbrev pub numbers : List Offer → List ℕ
numbers used = map (λ (o : Offer). o.0) used

abbrev pub lengths : List Offer → List ℕ
lengths used = map (λ (o : Offer). o.1) used

pub number-there : (used : List Offer) (place n : ℕ) → slice_get (numbers used) place ≡ Some n → number_at used place ≡ n
number-there [] place n e = absurd cc
number-there (o ∷ used) zero n e = cc
number-there (o ∷ used) (suc place) n e = number-there used place n e

-- so they are those at the places
these-numbers : (used : List Offer) (nums after before more places tail : List ℕ) → nums ≡ numbers used ++ after → AllByRecursion (λ place. place < length (numbers used)) (take (length more) places)
    → Early nums before places (more ++ tail) → map (number_at used) (take (length more) places) ≡ more
these-numbers used nums after before [] places tail is put e = refl
these-numbers used nums after before (m ∷ more) [] tail is put e = absurd e
these-numbers used nums after before (m ∷ more) (place ∷ places) tail is put e =
    let there : slice_get (numbers used) place ≡ Some m = sym (get-front (numbers used) after place put.0) ∙ (ap (λ (l : List ℕ). slice_get l place) (sym is) ∙ e.0) in
    λ i. number-there used place m there i ∷ these-numbers used nums after (before ++ m ∷ []) more places tail is put.1 e.2 i

-- ---- the moves of a sender

-- a number is free, or was put once more than it came back
abbrev pub Balanced : ℕ → Hand → Type 0
Balanced size h = (x : ℕ) → often x h.free + often x h.sent ≡ inside size x + often x h.back

looked-balance : (size : ℕ) (h : Hand) (more : List ℕ) → Balanced size h → Balanced size (record { free = h.free ++ more; sent = h.sent; back = h.back ++ more })
looked-balance size h more b x = let e = b x in let f = often-append x h.free more in let g = often-append x h.back more in omega (arith, e, f, g)

sent-balance : (size : ℕ) (h : Hand) (first : ℕ) (rest : List ℕ) → h.free ≡ first ∷ rest → Balanced size h → Balanced size (record { free = rest; sent = h.sent ++ first ∷ []; back = h.back })
sent-balance size h first rest is b x = let e = b x in let f = ap (often x) is in let g = often-append x h.sent (first ∷ []) in omega (arith, e, f, g)

-- what is given back is what has come back and what is to come
record Given (old : Hand) (more back coming given : List ℕ) : Type 0 where
  tail : List ℕ
  is : given ≡ more ++ tail
  tail_is : (old.back ++ more) ++ tail ≡ back ++ coming

given-next : (size : ℕ) (old new : Hand) (more coming given : List ℕ) (moves : List SendMove) → Deals size (record { free = old.free ++ more; sent = old.sent; back = old.back ++ more }) moves new → old.back ++ given ≡ new.back ++ coming → Given old more new.back coming given
given-next size old new more coming given moves d is =
    let l = later size (record { free = old.free ++ more; sent = old.sent; back = old.back ++ more }) new moves d in record {
      tail = l.back ++ coming;
      is = append_cancel_left old.back given (more ++ (l.back ++ coming)) (is ∙ (ap (λ (b : List ℕ). b ++ coming) l.back_is ∙ (append_assoc (old.back ++ more) l.back coming ∙ append_assoc old.back more (l.back ++ coming))));
      tail_is = sym (append_assoc (old.back ++ more) l.back coming) ∙ ap (λ (b : List ℕ). b ++ coming) (sym l.back_is);
    }

-- the numbers that a look shows
record Shown (nums : List ℕ) (old : Hand) (more places tail : List ℕ) : Type 0 where
  put : AllByRecursion (λ place. place < length old.sent) (take (length more) places)
  next : Early nums (old.back ++ more) (drop (length more) places) tail

shown : (size : ℕ) (old new : Hand) (more places tail : List ℕ) (moves : List SendMove) → Balanced size old → AreApart size (old.free ++ more) → Deals size (record { free = old.free ++ more; sent = old.sent; back = old.back ++ more }) moves new
    → Early new.sent old.back places (more ++ tail) → Shown new.sent old more places tail
shown size old new more places tail moves b apart d e =
    let l = later size (record { free = old.free ++ more; sent = old.sent; back = old.back ++ more }) new moves d in record {
      put = these-later new.sent old.sent l.sent old.back more places tail l.sent_is (λ x. let q = looked-balance size old more b x in let a = apart x in omega (arith, q, a)) e;
      next = then-early new.sent old.back more places tail e;
    }

pub come-later : (size : ℕ) (old new : Hand) (places given coming : List ℕ) (moves : List SendMove) → Balanced size old → Deals size old moves new → old.back ++ given ≡ new.back ++ coming → Early new.sent old.back places given
    → ComeBackLater places (length old.sent) (sendings moves)
come-later size old new places given coming [] b d is e = tt
come-later size old new places given coming (Looked n ∷ ms) b d is e =
    let more = d.0 in let g = given-next size old new more coming given ms d.3 is in
    let s = shown size old new more places g.tail ms b d.2 d.3 (subst (Early new.sent old.back places) g.is e) in
    subst (λ (k : ℕ). AllByRecursion (λ place. place < length old.sent) (take k places) × ComeBackLater (drop k places) (length old.sent) (sendings ms)) d.1
    (s.put, come-later size (record { free = old.free ++ more; sent = old.sent; back = old.back ++ more }) new (drop (length more) places) g.tail coming ms (looked-balance size old more b) d.3 g.tail_is s.next)
come-later size old new places given coming (Sent frame ∷ ms) b d is e =
    subst (λ (k : ℕ). ComeBackLater places k (sendings ms)) (let l = length-append old.sent (d.0 ∷ []) in omega (arith, l))
    (come-later size (record { free = d.1; sent = old.sent ++ d.0 ∷ []; back = old.back }) new places given coming ms (sent-balance size old d.0 d.1 d.2 b) d.4 is e)

abbrev lengths_of : List (List ℕ) → List ℕ
lengths_of frames = map (λ (frame : List ℕ). length frame) frames

pub record Uses (n : Numbers) (new : Hand) (moves : List SendMove) (old : List Offer) : Type 0 where
  pub numbers_are : numbers n.used ≡ new.sent
  pub lengths_are : lengths n.used ≡ lengths old ++ lengths_of (frames_sent moves)

pub uses : (size : ℕ) (old new : Hand) (given coming : List ℕ) (moves : List SendMove) (n : Numbers) → Balanced size old → Deals size old moves new → old.back ++ given ≡ new.back ++ coming → Early new.sent old.back n.given given
    → n.free ≡ old.free → numbers n.used ≡ old.sent → Uses (after_all n (sendings moves)) new moves n.used
uses size old new given coming [] n b d is e free used = record { numbers_are = used ∙ ap (λ (h : Hand). h.sent) (sym d); lengths_are = sym (append-nil (lengths n.used)) }
uses size old new given coming (Looked k ∷ ms) n b d is e free used =
    let more = d.0 in let g = given-next size old new more coming given ms d.3 is in
    let early : Early new.sent old.back n.given (more ++ g.tail) = subst (Early new.sent old.back n.given) g.is e in
    let s = shown size old new more n.given g.tail ms b d.2 d.3 early in
    let l = later size (record { free = old.free ++ more; sent = old.sent; back = old.back ++ more }) new ms d.3 in
    let come : map (number_at n.used) (take k n.given) ≡ more =
    ap (λ (c : ℕ). map (number_at n.used) (take c n.given)) (sym d.1)
    ∙ these-numbers n.used new.sent l.sent old.back more n.given g.tail (l.sent_is ∙ ap (λ (ns : List ℕ). ns ++ l.sent) (sym used))
    (subst (λ (ns : List ℕ). AllByRecursion (λ place. place < length ns) (take (length more) n.given)) (sym used) s.put) early in
    let u = uses size (record { free = old.free ++ more; sent = old.sent; back = old.back ++ more }) new g.tail coming ms (after_sending n (sending_of (Looked k)))
    (looked-balance size old more b) d.3 g.tail_is (subst (λ (c : ℕ). Early new.sent (old.back ++ more) (drop c n.given) g.tail) d.1 s.next)
    (λ i. free i ++ come i) used in
    record { numbers_are = u.numbers_are; lengths_are = u.lengths_are }
uses size old new given coming (Sent frame ∷ ms) n b d is e free used =
    let first : n.free ≡ d.0 ∷ d.1 = free ∙ d.2 in
    let put : put_in n.free (length frame) ≡ (d.0, length frame) ∷ [] = ap (λ (ns : List ℕ). put_in ns (length frame)) first in
    let u = uses size (record { free = d.1; sent = old.sent ++ d.0 ∷ []; back = old.back }) new given coming ms (after_sending n (sending_of (Sent frame)))
    (sent-balance size old d.0 d.1 d.2 b) d.4 is e (ap (λ (ns : List ℕ). drop 1 ns) first)
    (ap (λ (os : List Offer). numbers (n.used ++ os)) put ∙ (map-append (λ (o : Offer). o.0) n.used ((d.0, length frame) ∷ []) ∙ ap (λ (ns : List ℕ). ns ++ d.0 ∷ []) used)) in record {
      numbers_are = u.numbers_are;
      lengths_are = u.lengths_are ∙ (ap (λ (os : List Offer). lengths (n.used ++ os) ++ lengths_of (frames_sent ms)) put
          ∙ (ap (λ (ls : List ℕ). ls ++ lengths_of (frames_sent ms)) (map-append (λ (o : Offer). o.1) n.used ((d.0, length frame) ∷ []))
          ∙ append_assoc (lengths n.used) (length frame ∷ []) (lengths_of (frames_sent ms))));
    }
