-- What is read of a frame of bytes: an address of four bytes, or a letter or a part of one whose content is bytes, of which there are few.
use Rattle.std.proofs.Common.{ℕ, zero, suc, ◌^◌, ◌<◌, Bool, true, false, cond, ◌≡◌, List, [], ◌∷◌, ◌++◌, length, take, drop, Option, Some, None, refl, slice_index, length-take, length-drop, arith, eqb-true}
use Rattle.std.specs.Prelude.{◌==◌}
use Rattle.byteorder.specs.Endian.{little_number}
use Rattle.byteorder.specs.Numbers.{little_from-lt}
use Rattle.mc_base.specs.Bytes.{number_at}
use Rattle.mc_base.specs.Fault.{fault}
use Rattle.mc_base.specs.Frame.{source_of, destination_of, payload_length_of, payload_of}
use Rattle.mc_base.specs.Letter.{Carrier, of_message, of_packet, carried, Piece, Fields, PlainLetter, msg, connect, accept, reject, recv_open, send_open, packet, scalar, send_close, recv_close}
use Rattle.mc_base.specs.LetterFaults.{fields_in, total_in}
use Rattle.mc_base.specs.Reading.{Reading, is_faulty, announces, says, brings, kind_numbered, reason_numbered, bits_of_bytes, letter_of, piece_of, said_in, announced_in, reading_by, reading}
use Rattle.mc_base.specs.declared.fault.Fault.{Fault}
use Rattle.board_model.specs.State.{Part}
use Rattle.board_model.specs.Parts.{Coming, coming, coming_so, alone, begins, begun, goes_on, grown, with_piece}
use Rattle.board_model.proofs.MessageAlls.{all-append, all-drop}
use Rattle.mc_journal.specs.EntryText.{AreBytes}
use Rattle.report_laws.proofs.FramesFit.{all-take}

-- ---- bytes

pub bytes-take : (n : ℕ) (xs : List ℕ) → AreBytes xs → AreBytes (take n xs)
bytes-take = all-take (λ b. b < 256)

pub bytes-drop : (n : ℕ) (xs : List ℕ) → AreBytes xs → AreBytes (drop n xs)
bytes-drop = all-drop (λ b. b < 256)

byte-at : (xs : List ℕ) → AreBytes xs → (i : ℕ) → slice_index xs i < 256
byte-at [] all i = omega arith
byte-at (x ∷ xs) all zero = all.0
byte-at (x ∷ xs) all (suc i) = byte-at xs all.1 i

pub little-number-fits : (width : ℕ) (xs : List ℕ) → AreBytes xs → little_number width xs < 256 ^ width
little-number-fits width xs all = little_from-lt 0 width xs (byte-at xs all)

number-fits : (place width : ℕ) (xs : List ℕ) → AreBytes xs → number_at place width xs < 256 ^ width
number-fits place width xs all = little-number-fits width (drop place xs) (bytes-drop place xs all)

-- ---- letters

-- a content: its size is that of a count, and its bytes are bytes
pub record FitsContent (bytes : List ℕ) : Type 0 where
  pub size : length bytes < 2 ^ 32
  pub all : AreBytes bytes

abbrev pub FitsSaid : PlainLetter → Type 0
FitsSaid (msg priority bytes) = FitsContent bytes
FitsSaid (packet channel bytes) = FitsContent bytes
FitsSaid other = Unit {0}

module _ (f : Fields) (fits : FitsContent f.content) where
  by-kind : (a b c d e g h i j : Bool) → FitsSaid (
      cond a (msg f.argument f.content)
      (cond b (connect f.channel (kind_numbered f.argument))
      (cond c (accept f.channel)
      (cond d (reject f.channel (reason_numbered f.argument))
      (cond e (recv_open f.channel)
      (cond g (send_open f.channel)
      (cond h (packet f.channel f.content)
      (cond i (scalar f.channel (bits_of_bytes f.argument) (number_at 0 f.argument f.content))
      (cond j (send_close f.channel)
      (recv_close f.channel))))))))))
  by-kind true b c d e g h i j = fits
  by-kind false true c d e g h i j = tt
  by-kind false false true d e g h i j = tt
  by-kind false false false true e g h i j = tt
  by-kind false false false false true g h i j = tt
  by-kind false false false false false true h i j = tt
  by-kind false false false false false false true i j = fits
  by-kind false false false false false false false true j = tt
  by-kind false false false false false false false false true = tt
  by-kind false false false false false false false false false = tt

  letter-fits : FitsSaid (letter_of f)
  letter-fits = by-kind (f.kind == 1) (f.kind == 2) (f.kind == 3) (f.kind == 4) (f.kind == 5) (f.kind == 6) (f.kind == 7) (f.kind == 8) (f.kind == 9)

-- ---- parts

pub record FitsPiece (q : Piece) : Type 0 where
  pub total : q.total < 2 ^ 32
  pub all : AreBytes q.content

abbrev pub FitsPart : Option Part → Type 0
FitsPart None = Unit {0}
FitsPart (Some p) = (p.total < 2 ^ 32) × AreBytes p.content

carried-fits : (k : Carrier) (bytes : List ℕ) → FitsContent bytes → FitsSaid (carried k bytes)
carried-fits (of_message priority) bytes fits = fits
carried-fits (of_packet channel) bytes fits = fits

-- ---- frames

abbrev pub FitsReading : Reading → Type 0
FitsReading (is_faulty f) = Unit {0}
FitsReading (announces text address there) = address < 2 ^ 32
FitsReading (says source destination l) = FitsSaid l
FitsReading (brings source destination q) = FitsPiece q

module _ (frame : List ℕ) (bytes : AreBytes frame) where
  payload-bytes : AreBytes (payload_of frame)
  payload-bytes = bytes-take (payload_length_of frame) (drop 16 frame) (bytes-drop 16 frame bytes)

  content-fits : FitsContent (fields_in (payload_of frame)).content
  content-fits = record {
    size =
        let most : payload_length_of frame < 65536 = number-fits 12 2 frame bytes in
        let taken = length-take (payload_length_of frame) (drop 16 frame) in
        let left = length-drop 8 (payload_of frame) in
        omega (arith, most, taken, left);
    all = bytes-drop 8 (payload_of frame) payload-bytes;
  }

  by-version : (b : Bool) → FitsReading (cond b (brings (source_of frame) (destination_of frame) (piece_of (fields_in (payload_of frame)))) (says (source_of frame) (destination_of frame) (letter_of (fields_in (payload_of frame)))))
  by-version true = record {
    total =
        let most : total_in (fields_in (payload_of frame)) < 65536 = number-fits 0 2 (fields_in (payload_of frame)).content content-fits.all in
        omega (arith, most);
    all = bytes-drop 4 (fields_in (payload_of frame)).content content-fits.all;
  }
  by-version false = letter-fits (fields_in (payload_of frame)) content-fits

  by-destination : (b : Bool) → FitsReading (cond b (announced_in (payload_of frame)) (said_in (source_of frame) (destination_of frame) (fields_in (payload_of frame))))
  by-destination true = number-fits 32 4 (payload_of frame) payload-bytes
  by-destination false = by-version ((fields_in (payload_of frame)).version == 2)

  by-fault : (o : Option Fault) → FitsReading (reading_by o frame)
  by-fault (Some f) = tt
  by-fault None = by-destination (destination_of frame == 53)

  pub reading-fits : FitsReading (reading frame)
  unfolding reading
  reading-fits = by-fault (fault frame)

-- ---- frames that go on with an open part

pub record FitsComing (c : Coming) : Type 0 where
  pub reading : FitsReading c.reading
  pub part : FitsPart c.part

grown-fits : (joins : Bool) (p : Part) (q : Piece) → FitsPart (Some p) → FitsPiece q → FitsComing (grown joins p q)
grown-fits joins p q open_fits fits = go (length (p.content ++ q.content) == p.total) refl
  where
    all : AreBytes (p.content ++ q.content)
    all = all-append (λ b. b < 256) p.content q.content open_fits.1 fits.all

    go : (b : Bool) → (length (p.content ++ q.content) == p.total) ≡ b
        → FitsComing (cond b (coming_so (says p.source p.destination (carried p.carrier (p.content ++ q.content))) None joins) (coming_so (brings p.source p.destination q) (Some (with_piece p q)) joins))
    go true is =
        let whole = eqb-true (length (p.content ++ q.content)) p.total is in
        record { reading = carried-fits p.carrier (p.content ++ q.content) (record { size = omega (arith, whole, open_fits.0); all = all }); part = tt }
    go false is = record { reading = fits; part = (open_fits.0, all) }

alone-fits : (source destination : ℕ) (q : Piece) → FitsPiece q → FitsComing (alone source destination q)
alone-fits source destination q fits = go (begins q)
  where
    go : (b : Bool) → FitsComing (cond b (grown false (begun source destination q) q) (coming_so (brings source destination q) None false))
    go true = grown-fits false (begun source destination q) q (fits.total, tt) fits
    go false = record { reading = fits; part = tt }

piece-fits : (o : Option Part) (source destination : ℕ) (q : Piece) → FitsPart o → FitsPiece q → FitsComing (coming o (brings source destination q))
piece-fits None source destination q open_fits fits = alone-fits source destination q fits
piece-fits (Some p) source destination q open_fits fits = go (goes_on p source destination q)
  where
    go : (b : Bool) → FitsComing (cond b (grown true p q) (alone source destination q))
    go true = grown-fits true p q open_fits fits
    go false = alone-fits source destination q fits

pub coming-fits : (o : Option Part) (r : Reading) → FitsPart o → FitsReading r → FitsComing (coming o r)
coming-fits o (brings source destination q) open_fits fits = piece-fits o source destination q open_fits fits
coming-fits o (is_faulty f) open_fits fits = record { reading = tt; part = tt }
coming-fits o (announces text address there) open_fits fits = record { reading = fits; part = tt }
coming-fits o (says source destination l) open_fits fits = record { reading = fits; part = tt }
