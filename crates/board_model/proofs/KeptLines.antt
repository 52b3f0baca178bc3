-- What the lines of a journal tell of messages: those that it put, those of the frames that it took, and those that it dropped.
use Rattle.std.proofs.Common.{◌≡◌, ℕ, Bool, true, false, not, ◌&&◌, cond, List, [], ◌∷◌, Option, Some, None, ◌+◌, ◌-◌, ◌++◌, length, length-append, length-drop, eqb-true, refl, sym, ap, ap₂, ◌∙◌, arith}
use Rattle.std.specs.Prelude.{count_by, slice_index, is_none, ◌==◌}
use Rattle.mc_base.specs.Limits.{name_service_address}
use Rattle.mc_base.specs.Frame.{destination_of, source_of, payload_of}
use Rattle.mc_base.specs.Fault.{fault}
use Rattle.mc_base.specs.LetterFaults.{fields_in, total_in, offset_in}
use Rattle.mc_base.specs.Letter.{PlainLetter, Fields, Carrier, of_message, of_packet, carried, Piece, msg, connect, accept, reject, recv_open, send_open, packet, scalar, send_close, recv_close}
use Rattle.mc_base.specs.Bytes.{number_at}
use Rattle.mc_base.specs.Reading.{Reading, says, brings, said_in, piece_of, reading, reading_by, announced_in, letter_of, kind_numbered, reason_numbered, bits_of_bytes}
use Rattle.mc_base.specs.declared.fault.Fault.{Fault}
use Rattle.board_model.specs.Messages.{Message, said_by, messages_in, ends_item, carries_message}
use Rattle.std.proofs.lemmas.Bool.{and_parts}
use Rattle.board_model.specs.State.{Part}
use Rattle.board_model.specs.Parts.{same_carrier, goes_on, Coming, coming_so, begins, begun, with_piece, grown, alone, coming, readings}
use Rattle.board_model.proofs.PartReadings.{is_part, is_open, begins-first, AllSmooth}
use Rattle.board_model.proofs.ListsCounts.{one_if, count-cons, count-append}

-- ---- whether a frame says a message, by its bytes

abbrev pub any : Message → Bool
any m = true

-- what a part brings is held, and not stray
abbrev pub IsHeld : Coming → Type 0
IsHeld c = is_part c.reading ≡ true → is_open c.part ≡ true

module _ (a b : ℕ) where
  abbrev said : Reading → ℕ
  said r = count_by any (said_by a b r)

  module _ (src dst : ℕ) (f : Fields) where
    abbrev Silent : PlainLetter → Type 0
    Silent l = said (says src dst l) ≡ 0

    either : (c : Bool) (l k : PlainLetter) → Silent l → Silent k → Silent (cond c l k)
    either true l k x y = x
    either false l k x y = y

    -- the letters of the kinds from 9 down to 2
    abbrev from_9 : PlainLetter
    from_9 = cond (f.kind == 9) (send_close f.channel) (recv_close f.channel)

    abbrev from_8 : PlainLetter
    from_8 = cond (f.kind == 8) (scalar f.channel (bits_of_bytes f.argument) (number_at 0 f.argument f.content)) from_9

    abbrev from_7 : PlainLetter
    from_7 = cond (f.kind == 7) (packet f.channel f.content) from_8

    abbrev from_6 : PlainLetter
    from_6 = cond (f.kind == 6) (send_open f.channel) from_7

    abbrev from_5 : PlainLetter
    from_5 = cond (f.kind == 5) (recv_open f.channel) from_6

    abbrev from_4 : PlainLetter
    from_4 = cond (f.kind == 4) (reject f.channel (reason_numbered f.argument)) from_5

    abbrev from_3 : PlainLetter
    from_3 = cond (f.kind == 3) (accept f.channel) from_4

    abbrev from_2 : PlainLetter
    from_2 = cond (f.kind == 2) (connect f.channel (kind_numbered f.argument)) from_3

    others_silent : Silent from_2
    others_silent =
        either (f.kind == 2) (connect f.channel (kind_numbered f.argument)) from_3 refl
        (either (f.kind == 3) (accept f.channel) from_4 refl
        (either (f.kind == 4) (reject f.channel (reason_numbered f.argument)) from_5 refl
        (either (f.kind == 5) (recv_open f.channel) from_6 refl
        (either (f.kind == 6) (send_open f.channel) from_7 refl
        (either (f.kind == 7) (packet f.channel f.content) from_8 refl
        (either (f.kind == 8) (scalar f.channel (bits_of_bytes f.argument) (number_at 0 f.argument f.content)) from_9 refl
        (either (f.kind == 9) (send_close f.channel) (recv_close f.channel) refl refl)))))))

    -- a letter of kind 1 is a message, and no other
    said_kind : said (says src dst (letter_of f)) ≡ one_if (f.kind == 1)
    said_kind = go (f.kind == 1)
      where
        go : (c : Bool) → said (says src dst (cond c (msg f.argument f.content) from_2)) ≡ one_if c
        go true = refl
        go false = others_silent

  -- ---- parts

  abbrev is_msg : Carrier → Bool
  is_msg (of_message priority) = true
  is_msg (of_packet channel) = false

  carried_said : (src dst : ℕ) (k : Carrier) (bytes : List ℕ) → said (says src dst (carried k bytes)) ≡ one_if (is_msg k)
  carried_said src dst (of_message priority) bytes = refl
  carried_said src dst (of_packet channel) bytes = refl

  same_msg : (k l : Carrier) → same_carrier k l ≡ true → is_msg k ≡ is_msg l
  same_msg (of_message p) (of_message q) e = refl
  same_msg (of_message p) (of_packet q) e = absurd cc
  same_msg (of_packet p) (of_message q) e = absurd cc
  same_msg (of_packet p) (of_packet q) e = refl

  abbrev last : Piece → Bool
  last q = q.offset + length q.content == q.total

  and_true : (x : Bool) → one_if x ≡ one_if (x && true)
  and_true true = refl
  and_true false = refl

  and_false : (x : Bool) → 0 ≡ one_if (x && false)
  and_false true = refl
  and_false false = refl

  grown_said : (joins : Bool) (p : Part) (q : Piece) → is_msg p.carrier ≡ is_msg q.carrier → length p.content ≡ q.offset → p.total ≡ q.total → said (grown joins p q).reading ≡ one_if (is_msg q.carrier && last q)
  grown_said joins p q same at total = go (length (p.content ++ q.content) == p.total) ends
    where
      ends : (length (p.content ++ q.content) == p.total) ≡ last q
      ends = ap₂ (λ m n. m == n) (length-append p.content q.content ∙ ap (λ n. n + length q.content) at) total

      go : (c : Bool) → c ≡ last q → said (cond c (coming_so (says p.source p.destination (carried p.carrier (p.content ++ q.content))) None joins) (coming_so (brings p.source p.destination q) (Some (with_piece p q)) joins)).reading ≡ one_if (is_msg q.carrier && last q)
      go true e = carried_said p.source p.destination p.carrier (p.content ++ q.content) ∙ (ap one_if same ∙ (and_true (is_msg q.carrier) ∙ ap (λ x. one_if (is_msg q.carrier && x)) e))
      go false e = and_false (is_msg q.carrier) ∙ ap (λ x. one_if (is_msg q.carrier && x)) e

  module _ (src dst : ℕ) (q : Piece) where
    abbrev Ends : Coming → Type 0
    Ends c = said c.reading ≡ one_if (is_msg q.carrier && last q)

    alone_said : IsHeld (alone src dst q) → Ends (alone src dst q)
    alone_said held = go (begins q) refl held
      where
        go : (c : Bool) → begins q ≡ c → IsHeld (cond c (grown false (begun src dst q) q) (coming_so (brings src dst q) None false)) → Ends (cond c (grown false (begun src dst q) q) (coming_so (brings src dst q) None false))
        go true is k = grown_said false (begun src dst q) q refl (sym (begins-first q is)) refl
        go false is k = let clash : false ≡ true = k refl in absurd cc

    piece_said : (o : Option Part) → IsHeld (coming o (brings src dst q)) → Ends (coming o (brings src dst q))
    piece_said None held = alone_said held
    piece_said (Some p) held = go (goes_on p src dst q) refl held
      where
        go : (c : Bool) → goes_on p src dst q ≡ c → IsHeld (cond c (grown true p q) (alone src dst q)) → Ends (cond c (grown true p q) (alone src dst q))
        go true is k =
            let from = and_parts (p.source == src) (p.destination == dst && (same_carrier p.carrier q.carrier && (p.total == q.total && length p.content == q.offset))) is in
            let to = and_parts (p.destination == dst) (same_carrier p.carrier q.carrier && (p.total == q.total && length p.content == q.offset)) from.1 in
            let by = and_parts (same_carrier p.carrier q.carrier) (p.total == q.total && length p.content == q.offset) to.1 in
            let at = and_parts (p.total == q.total) (length p.content == q.offset) by.1 in
            grown_said true p q (same_msg p.carrier q.carrier by.0) (eqb-true (length p.content) q.offset at.1) (eqb-true p.total q.total at.0)
        go false is k = alone_said k

  -- ---- a frame, with the part that is open before it

  fields_said : (o : Option Part) (src dst : ℕ) (f : Fields) → IsHeld (coming o (said_in src dst f)) → said (coming o (said_in src dst f)).reading ≡ one_if (f.kind == 1 && ends_item f)
  fields_said o src dst f held = go (f.version == 2) held
    where
      by_kind : (c : Bool) → is_msg (cond c (of_message f.argument) (of_packet f.channel)) ≡ c
      by_kind true = refl
      by_kind false = refl

      go : (c : Bool) → IsHeld (coming o (cond c (brings src dst (piece_of f)) (says src dst (letter_of f)))) → said (coming o (cond c (brings src dst (piece_of f)) (says src dst (letter_of f)))).reading ≡ one_if (f.kind == 1 && cond c (offset_in f + (length f.content - 4) == total_in f) true)
      go true k = piece_said src dst (piece_of f) o k ∙ ap₂ (λ x n. one_if (x && (offset_in f + n == total_in f))) (by_kind (f.kind == 1)) (length-drop 4 f.content)
      go false k = said_kind src dst f ∙ and_true (f.kind == 1)

  said_of : (o : Option Part) (w : Option Fault) (frame : List ℕ) → IsHeld (coming o (reading_by w frame)) →
      said (coming o (reading_by w frame)).reading ≡ one_if (is_none w && ((not (destination_of frame == name_service_address) && slice_index (payload_of frame) 2 == 1) && ends_item (fields_in (payload_of frame))))
  said_of o (Some w) frame held = refl
  said_of o None frame held = go (destination_of frame == name_service_address) held
    where
      go : (c : Bool) → IsHeld (coming o (cond c (announced_in (payload_of frame)) (said_in (source_of frame) (destination_of frame) (fields_in (payload_of frame))))) →
          said (coming o (cond c (announced_in (payload_of frame)) (said_in (source_of frame) (destination_of frame) (fields_in (payload_of frame))))).reading ≡ one_if ((not c && slice_index (payload_of frame) 2 == 1) && ends_item (fields_in (payload_of frame)))
      go true k = refl
      go false k = fields_said o (source_of frame) (destination_of frame) (fields_in (payload_of frame)) k

  pub said_bytes : (o : Option Part) (frame : List ℕ) → IsHeld (coming o (reading frame)) → said (coming o (reading frame)).reading ≡ one_if (carries_message frame)
  unfolding reading
  said_bytes o frame held = said_of o (fault frame) frame held

  -- of frames
  pub said_frames : (o : Option Part) (fs : List (List ℕ)) → AllSmooth o fs → count_by any (messages_in a b (readings o fs)) ≡ count_by carries_message fs
  said_frames o [] all = refl
  said_frames o (f ∷ fs) all =
      omega (
        arith,
        count-append any (said_by a b (coming o (reading f)).reading) (messages_in a b (readings (coming o (reading f)).part fs)),
        said_bytes o f all.0.here,
        said_frames (coming o (reading f)).part fs all.1,
        count-cons carries_message f fs,
      )
