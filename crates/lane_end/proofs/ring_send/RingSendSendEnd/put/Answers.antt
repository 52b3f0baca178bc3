use Rattle.std.proofs.Common.{◌≡◌, ◌≤◌, ◌∙◌, refl, subst, arith, ℕ, ap, sym, List, ◌++◌, ◌∷◌, [], length, take, drop, Option, Some}
use Rattle.std.proofs.lemmas.List.{take-append-le, take-take}
use Rattle.std.proofs.lemmas.List.Elements.{All-head, All-rest, All-same}
use Rattle.std.specs.Option.{option_to_list}
use Rattle.std.specs.VecDeque.{deque_capacity}
use Rattle.mc_base.specs.Stored.{Stored}
use Rattle.shared_words.specs.Entry.{Entry}
use Rattle.split_ring.specs.Ends.{End, HasWidth, IsSound}
use Rattle.lane_end.specs.Held.{numbers_of}
use Rattle.lane_end.specs.SendMoves.{Sent}
use Rattle.lane_end.specs.RingSender.{RingSender, RingSends}
use Rattle.lane_end.specs.KeptRing.{sender_with, KeepsSender}
use Rattle.lane_end.proofs.SenderLemmas.{first-held, ring_width, put-keeps, put-moves}
use Rattle.lane_end.proofs.WideLemmas.{still_wide, length-written}
use Rattle.lane_end.proofs.ring_send.RingSendSendEnd.put.Goals as goal

-- the buffer with the frame over its first bytes
abbrev written-in : Stored → List ℕ → Stored
written-in b out = record { number = b.number; bytes = take (length b.bytes) (out ++ drop (length out) b.bytes) }

frame-back : (out bytes : List ℕ) (len : ℕ) → len ≤ length out → len ≤ length bytes → take len (take (length bytes) (out ++ drop (length out) bytes)) ≡ take len out
frame-back out bytes len within le = take-take len (length bytes) (out ++ drop (length out) bytes) le ∙ take-append-le len out (drop (length out) bytes) within

popped : (free rest : List Stored) (o : Option Stored) (b : Stored) → free ≡ option_to_list o ++ rest → o ≡ Some b → numbers_of free ≡ b.number ∷ numbers_of rest
popped free rest o b is some = ap numbers_of (is ∙ ap (λ (x : Option Stored). option_to_list x ++ rest) some)

fronted : (free rest : List Stored) (o : Option Stored) (b : Stored) → free ≡ option_to_list o ++ rest → o ≡ Some b → free ≡ b ∷ rest
fronted free rest o b is some = is ∙ ap (λ (x : Option Stored). option_to_list x ++ rest) some

pub write-requires-clause-holds : goal.write-requires-clause-holds
write-requires-clause-holds g c =
    let i = c.self.inside in let b = c.unwrap-buffer.result in
    let rest = c.pop_front.new.self.items in let one = fronted i.free.items rest c.pop_front.result b c.pop_front.ensures.items c.unwrap-buffer.ensures in (
      first-held i.on.now (deque_capacity i.free) (sender_with g.H.RingHalf.role (g.H.RingHalf.end i.half) i.free.items) c.self.invariant.keeps b.number (numbers_of rest)
          (popped i.free.items rest c.pop_front.result b c.pop_front.ensures.items c.unwrap-buffer.ensures),
      length-written c.copy.new.out b.bytes ∙ All-head (HasWidth (g.H.RingHalf.end i.half)) b rest (All-same (HasWidth (g.H.RingHalf.end i.half)) (b ∷ rest) i.free.items (sym one) c.self.invariant.wide),
    )

pub invariant_of-self : goal.invariant_of-self
invariant_of-self g c =
    let i = c.self.inside in let role = g.H.RingHalf.role in let b = c.unwrap-buffer.result in let rest = c.pop_front.new.self.items in
    let e : Entry = (written-in b c.copy.new.out, length c.args.frame.now) in let is = c.write.ensures.written in
    let s = sender_with role (g.H.RingHalf.end i.half) i.free.items in let room = c.pop_front.ensures.capacity in
    let one = fronted i.free.items rest c.pop_front.result b c.pop_front.ensures.items c.unwrap-buffer.ensures in record {
      keeps = subst (λ (h : End). KeepsSender i.on.now (deque_capacity c.pop_front.new.self) (sender_with role h rest)) (sym is)
          (put-keeps i.on.now (deque_capacity i.free) s c.self.invariant.keeps e (numbers_of rest) (deque_capacity c.pop_front.new.self)
          (popped i.free.items rest c.pop_front.result b c.pop_front.ensures.items c.unwrap-buffer.ensures) (subst (IsSound role) is c.write.ensures.sound) (omega (arith, room)));
      wide = still_wide (g.H.RingHalf.end i.half) (g.H.RingHalf.end c.write.new.self) rest (ap (λ (h : End). h.ring) is) (All-rest (HasWidth (g.H.RingHalf.end i.half)) b rest i.free.items one c.self.invariant.wide);
    }

pub returns-clause-moved : goal.returns-clause-moved
returns-clause-moved g c =
    let i = c.self.inside in let role = g.H.RingHalf.role in let b = c.unwrap-buffer.result in let rest = c.pop_front.new.self.items in let frame = c.args.frame.now in
    let e : Entry = (written-in b c.copy.new.out, length frame) in let is = c.write.ensures.written in
    let s = sender_with role (g.H.RingHalf.end i.half) i.free.items in let room = c.pop_front.ensures.capacity in
    let pop = popped i.free.items rest c.pop_front.result b c.pop_front.ensures.items c.unwrap-buffer.ensures in
    let keeps = put-keeps i.on.now (deque_capacity i.free) s c.self.invariant.keeps e (numbers_of rest) (deque_capacity c.pop_front.new.self) pop (subst (IsSound role) is c.write.ensures.sound) (omega (arith, room)) in
    let one = fronted i.free.items rest c.pop_front.result b c.pop_front.ensures.items c.unwrap-buffer.ensures in
    let wide : length b.bytes ≡ (g.H.RingHalf.end i.half).ring.width = All-head (HasWidth (g.H.RingHalf.end i.half)) b rest (All-same (HasWidth (g.H.RingHalf.end i.half)) (b ∷ rest) i.free.items (sym one) c.self.invariant.wide) in
    let fits : length frame ≤ length b.bytes = let r = c.requires.fits in let v = ring_width i.on.now (deque_capacity i.free) s c.self.invariant.keeps in omega (arith, r, v, wide) in
    let within : length frame ≤ length c.copy.new.out = let q = ap (length {A = ℕ}) c.bytes_mut.ensures.value in omega (arith, q, fits, c.copy.auto.out) in
    let moves = put-moves i.on.now (deque_capacity c.pop_front.new.self) s e (numbers_of rest) frame pop keeps (frame-back c.copy.new.out b.bytes (length frame) within fits ∙ c.copy.ensures) refl in
    subst (λ (x : RingSender × RingSender). RingSends x.0 (Sent frame ∷ []) x.1) (λ j. (c.self.view_is j, sender_with role (sym is j) rest)) moves

pub write-requires-clause-fits : goal.write-requires-clause-fits
write-requires-clause-fits g c =
    let i = c.self.inside in let r = c.requires.fits in
    let v = ring_width i.on.now (deque_capacity i.free) (sender_with g.H.RingHalf.role (g.H.RingHalf.end i.half) i.free.items) c.self.invariant.keeps in omega (arith, r, v)
