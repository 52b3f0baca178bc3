-- What a sender over a ring keeps, and where a put and a look lead.
use Rattle.std.proofs.Common.{◌≡◌, ℕ, ◌+◌, ◌≤◌, List, [], ◌∷◌, ◌++◌, length, drop, sym, refl, ap, ◌∙◌, subst, arith, length-append, append-nil, le_refl}
use Rattle.std.specs.Prelude.{sum}
use Rattle.std.proofs.lemmas.List.{map-append, drop-append-le}
use Rattle.std.proofs.lemmas.List.Sums.{sum_by-append}
use Rattle.mc_base.specs.Limits.{buffer_size}
use Rattle.shared_words.specs.Entry.{Entry, number_of, times}
use Rattle.shared_words.specs.Places.{begins, starts_with}
use Rattle.shared_words.specs.Shown.{RingId, TableShown, size_of}
use Rattle.split_ring.specs.Ends.{writes, HoldsNumber, IsSound}
use Rattle.lane_end.specs.Numbers.{often, AreApart}
use Rattle.lane_end.specs.SendMoves.{Looked, Sent}
use Rattle.lane_end.specs.Entries.{frame_in, frames_in, lengths_in, numbers_in}
use Rattle.lane_end.specs.Opened.{taken_before}
use Rattle.lane_end.specs.RingSender.{RingSender, sender_size, put_by, lengths_by, back_to, back_known, RingSends}
use Rattle.lane_end.specs.KeptRing.{KeepsSender}
use Rattle.lane_end.specs.LooksBack.{LooksBack}
use Rattle.lane_end.proofs.CountLemmas.{tick-same, often-append}
use Rattle.lane_end.proofs.EntryLemmas.{times-often, numbers-length, numbers-append}

abbrev pub put_with : Entry → List ℕ → RingSender → RingSender
put_with e rest s = record s { half = writes e s.half; free = rest }

times-append : (x : ℕ) (es fs : List Entry) → times x (es ++ fs) ≡ times x es + times x fs
times-append x es fs =
    let a = times-often x (es ++ fs) in let b = times-often x es in let c = times-often x fs in
    let n = ap (often x) (numbers-append es fs) in let o = often-append x (numbers_in es) (numbers_in fs) in omega (arith, a, b, c, n, o)

module _ (on : TableShown) (capacity : ℕ) (s : RingSender) (k : KeepsSender on capacity s) where
  pub free-apart : AreApart (sender_size s) s.free
  free-apart x = let h = k.held x in let d = k.sound.differ x in omega (arith, h, d)

  -- its ring's buffers have the bytes that those of a link have
  pub ring_width : s.half.ring.width ≡ buffer_size
  ring_width = ap (λ (i : RingId). i.width) k.ring ∙ k.width

  pub first-held : (n : ℕ) (rest : List ℕ) → s.free ≡ n ∷ rest → HoldsNumber s.role s.half n
  first-held n rest is = let h = k.held n in let f = ap (often n) is in let t = tick-same n n refl in omega (arith, h, f, t)

  pub put-keeps : (e : Entry) (rest : List ℕ) (more : ℕ) → s.free ≡ number_of e ∷ rest → IsSound s.role (writes e s.half) → capacity ≤ more → KeepsSender on more (put_with e rest s)
  put-keeps e rest more is sound room = record {
    ring = k.ring;
    width = k.width;
    sound = sound;
    held = λ x. let h = k.held x in let f = ap (often x) is in let w = times-append x s.half.written (e ∷ []) in omega (arith, h, f, w);
    count = let c = k.count in let f = ap (λ (l : List ℕ). length l) is in let w = length-append s.half.written (e ∷ []) in omega (arith, c, f, w);
    sender = k.sender;
    small = k.small;
    room = let r = k.room in omega (arith, r, room);
  }

pub put-moves : (on : TableShown) (capacity : ℕ) (s : RingSender) (e : Entry) (rest frame : List ℕ) → s.free ≡ number_of e ∷ rest → KeepsSender on capacity (put_with e rest s) → frame_in e ≡ frame → e.1 ≡ length frame → RingSends s (Sent frame ∷ []) (put_with e rest s)
put-moves on capacity s e rest frame is k carries long = record {
  ring = refl;
  role = refl;
  put = map-append frame_in s.half.written (e ∷ []) ∙ ap (λ (f : List ℕ). put_by s ++ f ∷ []) carries;
  lengths = map-append (λ (x : Entry). x.1) s.half.written (e ∷ []) ∙ ap (λ (n : ℕ). lengths_by s ++ n ∷ []) long;
  looks = sym (append-nil s.half.looks);
  known = le_refl (back_known s);
  seen = tt;
  deals = (number_of e, rest, is, free-apart on capacity (put_with e rest s) k, ap (λ (l : List ℕ). record { free = rest; sent = l; back = back_to s }) (numbers-append s.half.written (e ∷ [])));
}

module _ (on : TableShown) (capacity seen done : ℕ) (start now : RingSender) (l : LooksBack on capacity seen done start now) where
  taken-count : length now.half.taken ≡ length start.half.taken + done
  taken-count = let t = ap (λ (es : List Entry). length es) l.taken in let a = length-append start.half.taken l.more in let c = l.count in omega (arith, t, a, c)

  free-count : length now.free ≡ length start.free + done
  free-count = let f = ap (λ (ns : List ℕ). length ns) l.free in let a = length-append start.free (numbers_in l.more) in let n = numbers-length l.more in let c = l.count in omega (arith, f, a, n, c)

  same-size : sender_size now ≡ sender_size start
  same-size = ap size_of l.ring

  same-start : starts_with now.role (sender_size now) ≡ starts_with start.role (sender_size start)
  same-start = λ i. starts_with (l.role i) (same-size i)

  -- all that the look showed is taken
  module _ (all : done ≡ seen) where
    before-is : taken_before now.role (sender_size now) ≡ taken_before start.role (sender_size start)
    before-is = λ i. taken_before (l.role i) (same-size i)

    pub look-keeps : KeepsSender on capacity now
    look-keeps = record {
      ring = l.ring ∙ l.starts.ring;
      width = l.starts.width;
      sound = l.sound;
      held = λ x.
          let h = l.starts.held x in let f = ap (often x) l.free in let fa = often-append x start.free (numbers_in l.more) in let w = ap (times x) l.written in
          let t = ap (times x) l.taken in let ta = times-append x start.half.taken l.more in let tm = times-often x l.more in
          let b : begins now.role (sender_size now) x ≡ begins start.role (sender_size start) x = (λ i. begins (l.role i) (same-size i) x) in
          omega (arith, h, f, fa, w, t, ta, tm, b);
      count = let c = l.starts.count in let f = free-count in let w = ap (λ (es : List Entry). length es) l.written in let t = taken-count in let b = same-start in omega (arith, c, f, w, t, b);
      sender =
          let k = l.starts.sender in let s = ap sum l.looks in let sa = sum_by-append (λ (x : ℕ). x) start.half.looks (seen ∷ []) in
          let t = taken-count in let b = before-is in omega (arith, k, s, sa, t, b, all);
      small = let k = l.starts.small in let z = same-size in omega (arith, k, z);
      room = let k = l.starts.room in let z = same-size in omega (arith, k, z);
    }

    back-grows : back_to now ≡ back_to start ++ numbers_in l.more
    back-grows =
        let within : taken_before start.role (sender_size start) ≤ length start.half.taken = let k = l.starts.sender in omega (arith, k) in
        (λ i. numbers_in (drop (before-is i) (l.taken i)))
        ∙ (ap numbers_in (drop-append-le (taken_before start.role (sender_size start)) start.half.taken l.more within) ∙ numbers-append (drop (taken_before start.role (sender_size start)) start.half.taken) l.more)

    more-apart : AreApart (sender_size start) (start.free ++ numbers_in l.more)
    more-apart = subst (λ (x : ℕ × List ℕ). AreApart x.0 x.1) (λ i. (same-size i, l.free i)) (free-apart on capacity now look-keeps)

    pub look-moves : RingSends start (Looked seen ∷ []) now
    look-moves =
        let k = l.starts.sender in let s = l.shown in let g = l.known in let b = before-is in record {
          ring = l.ring;
          role = l.role;
          put = ap frames_in l.written ∙ sym (append-nil (put_by start));
          lengths = ap lengths_in l.written ∙ sym (append-nil (lengths_by start));
          looks = l.looks;
          known = omega (arith, g, b);
          seen = (omega (arith, k, s, g), omega (arith, k, s, b), tt);
          deals = (
            numbers_in l.more,
            (let n = numbers-length l.more in let c = l.count in omega (arith, n, c, all)),
            more-apart,
            (λ i. record { free = l.free i; sent = numbers_in (l.written i); back = back-grows i }),
          );
        }
