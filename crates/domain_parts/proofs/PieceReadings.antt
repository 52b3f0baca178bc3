-- What a frame that brings a piece has in its bytes.
use Rattle.std.proofs.Common.{◌≡◌, ℕ, ◌+◌, ◌-◌, ◌≤◌, ◌<◌, Bool, true, false, cond, List, length, Option, Some, None, refl, sym, ap, ◌∙◌, subst, arith, eqb-true, take, drop}
use Rattle.std.specs.Prelude.{if◌then◌else◌, ◌&&◌, nat_le, nat_lt, not, slice_index, ◌==◌}
use Rattle.std.proofs.lemmas.Bool.{leb-true}
use Rattle.std.proofs.lemmas.List.{drop-drop, drop-take, length-drop}
use Rattle.mc_base.specs.Bytes.{number_at}
use Rattle.mc_base.specs.Fault.{fault}
use Rattle.mc_base.specs.Frame.{destination_of, payload_of, source_of}
use Rattle.mc_base.specs.Letter.{Carrier, Fields, Piece, of_message, of_packet}
use Rattle.mc_base.specs.LetterFaults.{Form, a_channel, a_part, allows, fields_in, form, from_to, offset_in, only, part_forms, total_in}
use Rattle.mc_base.specs.Limits.{item_size}
use Rattle.mc_base.specs.Reading.{Reading, announced_in, brings, letter_of, piece_of, reading, reading_by, says}
use Rattle.mc_base.specs.declared.fault.Fault.{Fault}
use Rattle.domain_parts.specs.InBook.{channel_of, priority_of}
use Rattle.domain_parts.specs.Pieces.{carrier_channel, carrier_priority}
use Rattle.domain_parts.proofs.Readings.{Lies, sound-lies}

-- a packet's channel has a number
abbrev pub IsNumbered : Carrier → Type 0
IsNumbered (of_message priority) = Unit {0}
IsNumbered (of_packet channel) = 0 < channel

-- a frame brings a piece from this source: its bytes lie behind 28 bytes of headers, and the frame tells what carries it
pub record CarriesPiece (frame : List ℕ) (source : ℕ) (q : Piece) : Type 0 where
  pub from : source_of frame ≡ source
  pub says : priority_of frame ≡ carrier_priority q.carrier
  pub on : channel_of frame ≡ carrier_channel q.carrier
  pub numbered : IsNumbered q.carrier
  pub content_is : q.content ≡ take (length q.content) (drop 28 frame)
  pub inside : 28 + length q.content ≤ length frame
  pub some : 0 < length q.content
  pub within : q.offset + length q.content ≤ q.total
  pub most : q.total ≤ item_size

-- ---- what the forms of pieces allow

pub and-both : (a b : Bool) → (a && b) ≡ true → (a ≡ true) × (b ≡ true)
and-both true b e = (refl, e)
and-both false b e = absurd cc

not-one : (n : ℕ) → (n == 1) ≡ false → (1 == n) ≡ false
not-one n other = go (1 == n) refl
  where
    go : (b : Bool) → (1 == n) ≡ b → b ≡ false
    go true e = let clash : true ≡ false = subst (λ k. (k == 1) ≡ false) (sym (eqb-true 1 n e)) other in absurd cc
    go false e = refl

-- a kind that has a form is that of a message or that of a packet
module _ (f : Fields) where
  abbrev as_form : Bool → Bool → Option Form
  as_form one seven = cond one (Some (form 1 (from_to 0 3) (only 0) a_part)) (cond seven (Some (form 7 (only 0) a_channel a_part)) None)

  is-part : (one seven : Bool) → allows (as_form one seven) (λ form. form.content f) ≡ true → a_part f ≡ true
  is-part true seven e = e
  is-part false true e = e
  is-part false false e = absurd cc

  channel-numbered : (one seven : Bool) → one ≡ false → allows (as_form one seven) (λ form. form.channel f.channel) ≡ true → 0 < f.channel
  channel-numbered true seven other e = absurd cc
  channel-numbered false true other e = positive f.channel e
    where
      positive : (x : ℕ) → not (x == 0) ≡ true → 0 < x
      positive x e = grind arith
  channel-numbered false false other e = absurd cc

-- ---- the fields of a frame of version 2

module _ (frame : List ℕ) (lies : Lies frame part_forms) where
  abbrev f : Fields
  f = fields_in (payload_of frame)

  abbrev n : ℕ
  n = length f.content

  part : a_part f ≡ true
  part = is-part f (1 == f.kind) (7 == f.kind) lies.allowed

  long : 4 < n
  long = leb-true 5 n (and-both (nat_lt 4 n) _ part).0

  bounds : (nat_le (offset_in f + (n - 4)) (total_in f) ≡ true) × (nat_le (total_in f) item_size ≡ true)
  bounds = and-both _ _ (and-both (nat_lt 4 n) _ part).1

  behind : drop 4 f.content ≡ take (n - 4) (drop 28 frame)
  behind =
      let split : n ≡ 4 + (n - 4) = omega (arith, long) in
      ap (drop 4) (lies.content ∙ ap (λ k. take k (drop 24 frame)) split) ∙ drop-take 4 (n - 4) (drop 24 frame) ∙ ap (take (n - 4)) (drop-drop 4 24 frame)

  message_so : (b : Bool) → (f.kind == 1) ≡ b → (slice_index frame 18 == 1) ≡ b
  message_so b is = ap (λ k. k == 1) (sym lies.kind) ∙ is

  priority-so : (b : Bool) → (f.kind == 1) ≡ b → priority_of frame ≡ carrier_priority (cond b (of_message f.argument) (of_packet f.channel))
  priority-so true is = ap (λ b. if b then slice_index frame 19 else 0) (message_so true is) ∙ sym lies.argument
  priority-so false is = ap (λ b. if b then slice_index frame 19 else 0) (message_so false is)

  channel-so : (b : Bool) → (f.kind == 1) ≡ b → channel_of frame ≡ carrier_channel (cond b (of_message f.argument) (of_packet f.channel))
  channel-so true is = ap (λ b. if b then None else Some (number_at 20 4 frame)) (message_so true is)
  channel-so false is = ap (λ b. if b then None else Some (number_at 20 4 frame)) (message_so false is) ∙ ap (λ k. Some k) (sym lies.channel)

  numbered-so : (b : Bool) → (f.kind == 1) ≡ b → IsNumbered (cond b (of_message f.argument) (of_packet f.channel))
  numbered-so true is = tt
  numbered-so false is = channel-numbered f (1 == f.kind) (7 == f.kind) (not-one f.kind is) lies.numbered

  fields-carry : CarriesPiece frame (source_of frame) (piece_of f)
  fields-carry =
      let rest = length-drop 4 f.content in
      record {
        from = refl;
        says = priority-so (f.kind == 1) refl;
        on = channel-so (f.kind == 1) refl;
        numbered = numbered-so (f.kind == 1) refl;
        content_is = behind ∙ ap (λ k. take k (drop 28 frame)) (sym rest);
        inside = let inside = lies.inside in omega (arith, inside, rest, long);
        some = omega (arith, rest, long);
        within = let within = leb-true (offset_in f + (n - 4)) (total_in f) bounds.0 in omega (arith, within, rest);
        most = leb-true (total_in f) item_size bounds.1;
      }

-- ---- any frame

abbrev CarriesIt : List ℕ → Reading → Type 0
CarriesIt frame (brings source destination q) = CarriesPiece frame source q
CarriesIt frame other = Unit {0}

module _ (frame : List ℕ) where
  abbrev parsed : Fields
  parsed = fields_in (payload_of frame)

  abbrev said_by : Bool → Reading
  said_by parts = cond parts (brings (source_of frame) (destination_of frame) (piece_of parsed)) (says (source_of frame) (destination_of frame) (letter_of parsed))

  module _ (none : fault frame ≡ None) where
    by_version : (destination_of frame == 53) ≡ false → (parts : Bool) → (parsed.version == 2) ≡ parts → CarriesIt frame (said_by parts)
    by_version e true v = fields-carry frame (sound-lies frame none e true v)
    by_version e false v = tt

    by_destination : (b : Bool) → (destination_of frame == 53) ≡ b → CarriesIt frame (cond b (announced_in (payload_of frame)) (said_by (parsed.version == 2)))
    by_destination true e = tt
    by_destination false e = by_version e (parsed.version == 2) refl

  by_fault : (o : Option Fault) → fault frame ≡ o → CarriesIt frame (reading_by o frame)
  by_fault (Some x) e = tt
  by_fault None e = by_destination e (destination_of frame == 53) refl

  frame-carries : CarriesIt frame (reading frame)
  unfolding reading
  frame-carries = by_fault (fault frame) refl

pub piece-read : (frame : List ℕ) (source destination : ℕ) (q : Piece) → brings source destination q ≡ reading frame → CarriesPiece frame source q
piece-read frame source destination q is = subst (CarriesIt frame) (sym is) (frame-carries frame)
