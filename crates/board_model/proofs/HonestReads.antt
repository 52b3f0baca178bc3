-- A letter that is made is read back.
use Rattle.mc_base.specs.Bytes.{number_at}
use Rattle.byteorder.specs.Endian.{little_bytes}
use Rattle.std.proofs.Common.{◌≡◌, ℕ, ◌+◌, ◌-◌, ◌≤◌, ◌<◌, ◌^◌, Bool, true, false, not, ◌&&◌, cond, List, [], ◌∷◌, take, length, None, refl, sym, ap, ap₂, ◌∙◌, subst, arith, ◌++◌}
use Rattle.std.specs.Prelude.{◌==◌, nat_lt, nat_le, ◌||◌}
use Rattle.std.proofs.lemmas.List.{take_all}
use Rattle.std.proofs.lemmas.Bool.{le-ltb, le-leb, ne_eqb, eq-eqb, lt-ltb}
use Rattle.byteorder.specs.Numbers.{little_number-reads_back}
use Rattle.mc_base.specs.Limits.{single_size, item_size, piece_size, buffer_size, frame_header_size, letter_header_size, name_service_address}
use Rattle.mc_base.specs.FaultRow.{FaultRow, row, first_fault, widened}
use Rattle.mc_base.specs.Frame.{made, source_of, destination_of, payload_length_of, payload_of}
use Rattle.mc_base.specs.Letter.{PlainLetter, msg, connect, accept, reject, recv_open, send_open, packet, scalar, send_close, recv_close, spelling, Fields, fields, fields_of, spelled, HasSpelling, Carrier, of_message, of_packet, IsCarrier, piece, carrier_fields, piece_spelling}
use Rattle.mc_base.specs.LetterFaults.{letter_faults, field_faults, fields_in}
use Rattle.mc_base.specs.Fault.{fault}
use Rattle.mc_base.specs.declared.fault.Fault.TheVariants as fault_of
use Rattle.mc_base.specs.declared.fault.LetterFault.{LetterFault}
use Rattle.mc_base.specs.declared.fault.LetterFault.TheVariants.{PayloadShort, Magic, Version}
use Rattle.mc_base.specs.declared.channel.Kind.TheVariants.{Packet, Scalar}
use Rattle.mc_base.specs.declared.channel.Reason.TheVariants.{NoEndpoint, Connected, Busy}
use Rattle.mc_base.specs.declared.channel.Bits.TheVariants.{B8, B16, B32, B64}
use Rattle.mc_base.specs.Reading.{says, reading, reading_by, announced_in, letter_of, brings, piece_of, said_in}

payload_length : (src dst : ℕ) (payload : List ℕ) → length payload ≤ 496 → payload_length_of (made src dst payload) ≡ length payload
payload_length src dst payload short = little_number-reads_back 2 (length payload) [] (omega arith)

pub payload_back : (src dst : ℕ) (payload : List ℕ) → length payload ≤ 496 → payload_of (made src dst payload) ≡ payload
payload_back src dst payload short = ap (λ n. take n payload) (payload_length src dst payload short) ∙ take_all (length payload) payload (omega arith)

pub source_back : (src dst : ℕ) (payload : List ℕ) → src < 2 ^ 32 → source_of (made src dst payload) ≡ src
source_back src dst payload fits = little_number-reads_back 4 src [] fits

pub destination_back : (src dst : ℕ) (payload : List ℕ) → dst < 2 ^ 32 → destination_of (made src dst payload) ≡ dst
destination_back src dst payload fits = little_number-reads_back 4 dst [] fits

sound_frame : (frame : List ℕ) → nat_lt (length frame) frame_header_size ≡ false → nat_lt buffer_size (length frame) ≡ false → nat_lt (length frame - frame_header_size) (payload_length_of frame) ≡ false →
    (destination_of frame == name_service_address) ≡ false → first_fault (widened fault_of.Letter (letter_faults (payload_of frame))) ≡ None → fault frame ≡ None
sound_frame frame whole fits inside letter none = rw (whole, fits, inside, letter) none

-- a frame with a sound payload says what the payload's fields say
made_says : (src dst : ℕ) (payload : List ℕ) → src < 2 ^ 32 → 1024 ≤ dst → dst < 2 ^ 32 → length payload ≤ 496 → first_fault (widened fault_of.Letter (letter_faults payload)) ≡ None →
    reading (made src dst payload) ≡ said_in src dst (fields_in payload)
unfolding reading
made_says src dst payload from above below short none =
    let frame = made src dst payload in
    let size : length (made src dst payload) ≡ 16 + length payload = omega arith in
    let count = payload_length src dst payload short in
    let at = destination_back src dst payload below in
    let other : (destination_of (made src dst payload) == name_service_address) ≡ false = ne_eqb (destination_of (made src dst payload)) name_service_address (λ e. absurd (omega arith)) in
    let clean : fault (made src dst payload) ≡ None = sound_frame (made src dst payload)
    (le-ltb (length (made src dst payload)) frame_header_size (omega arith))
    (le-ltb buffer_size (length (made src dst payload)) (omega arith))
    (le-ltb (length (made src dst payload) - frame_header_size) (payload_length_of (made src dst payload)) (omega arith))
    other (rw (payload_back src dst payload short) none) in
    ap (λ f. reading_by f frame) clean
    ∙ (ap (λ b. cond b (announced_in (payload_of frame)) (said_in (source_of frame) (destination_of frame) (fields_in (payload_of frame)))) other
    ∙ (ap (λ k. said_in (source_of frame) (destination_of frame) (fields_in k)) (payload_back src dst payload short)
    ∙ ap₂ (λ j k. said_in j k (fields_in payload)) (source_back src dst payload from) at))

-- the fields of a letter are read back
pub fields_back : (f : Fields) → f.channel < 2 ^ 32 → fields_in (spelled f) ≡ f
fields_back f fits = ap (λ m. fields f.version f.kind f.argument m f.content) (little_number-reads_back 4 f.channel f.content fits)

-- rows that do not hold leave those behind them
sound_rows : (short other : Bool) (rows : List (FaultRow LetterFault)) → short ≡ false → other ≡ false → first_fault (widened fault_of.Letter rows) ≡ None →
    first_fault (widened fault_of.Letter (row PayloadShort short 12 ∷ row Magic false 16 ∷ row Version other 17 ∷ rows)) ≡ None
sound_rows true other rows long first none = absurd cc
sound_rows false true rows long first none = absurd cc
sound_rows false false rows long first none = none

sound_spelled : (f : Fields) → (f.version == 1 || f.version == 2) ≡ true → f.channel < 2 ^ 32 → first_fault (widened fault_of.Letter (field_faults f)) ≡ None → first_fault (widened fault_of.Letter (letter_faults (spelled f))) ≡ None
sound_spelled f first fits none =
    sound_rows (nat_lt (length (spelled f)) letter_header_size) (not (f.version == 1 || f.version == 2)) (field_faults (fields_in (spelled f)))
    (le-ltb (length (spelled f)) letter_header_size (omega arith)) (ap not first)
    (subst (λ g. first_fault (widened fault_of.Letter (field_faults g)) ≡ None) (sym (fields_back f fits)) none)

-- the table of letters, row by row: each letter with a spelling is in its form, and its fields say it
pub record InForm (l : PlainLetter) : Type 0 where
  version : (fields_of l).version ≡ 1
  channel : (fields_of l).channel < 2 ^ 32
  content : length (fields_of l).content ≤ 488
  sound : first_fault (widened fault_of.Letter (field_faults (fields_of l))) ≡ None
  back : letter_of (fields_of l) ≡ l

some_channel : (m : ℕ) → 0 < m → (m == 0) ≡ false
some_channel m some = ne_eqb m 0 (λ e. absurd (omega arith))

pub in_form : (l : PlainLetter) → HasSpelling l → InForm l
in_form (msg priority bytes) has =
    let low : nat_le 0 priority ≡ true = le-leb 0 priority (omega arith) in
    record { version = refl; channel = omega arith; content = has.1; sound = rw (low, le-leb priority 3 has.0, le-leb (length bytes) single_size has.1) refl; back = refl }
in_form (packet m bytes) has = record { version = refl; channel = has.0.1; content = has.1; sound = rw (some_channel m has.0.0, le-leb (length bytes) single_size has.1) refl; back = refl }
in_form (connect m Packet) has = record { version = refl; channel = has.1; content = omega arith; sound = rw (some_channel m has.0) refl; back = refl }
in_form (connect m Scalar) has = record { version = refl; channel = has.1; content = omega arith; sound = rw (some_channel m has.0) refl; back = refl }
in_form (accept m) has = record { version = refl; channel = has.1; content = omega arith; sound = rw (some_channel m has.0) refl; back = refl }
in_form (reject m NoEndpoint) has = record { version = refl; channel = has.1; content = omega arith; sound = rw (some_channel m has.0) refl; back = refl }
in_form (reject m Connected) has = record { version = refl; channel = has.1; content = omega arith; sound = rw (some_channel m has.0) refl; back = refl }
in_form (reject m Busy) has = record { version = refl; channel = has.1; content = omega arith; sound = rw (some_channel m has.0) refl; back = refl }
in_form (recv_open m) has = record { version = refl; channel = has.1; content = omega arith; sound = rw (some_channel m has.0) refl; back = refl }
in_form (send_open m) has = record { version = refl; channel = has.1; content = omega arith; sound = rw (some_channel m has.0) refl; back = refl }
in_form (send_close m) has = record { version = refl; channel = has.1; content = omega arith; sound = rw (some_channel m has.0) refl; back = refl }
in_form (recv_close m) has = record { version = refl; channel = has.1; content = omega arith; sound = rw (some_channel m has.0) refl; back = refl }
in_form (scalar m B8 value) has = record { version = refl; channel = has.0.1; content = omega arith; sound = rw (some_channel m has.0.0) refl; back = ap (scalar m B8) (little_number-reads_back 1 value [] has.1) }
in_form (scalar m B16 value) has = record { version = refl; channel = has.0.1; content = omega arith; sound = rw (some_channel m has.0.0) refl; back = ap (scalar m B16) (little_number-reads_back 2 value [] has.1) }
in_form (scalar m B32 value) has = record { version = refl; channel = has.0.1; content = omega arith; sound = rw (some_channel m has.0.0) refl; back = ap (scalar m B32) (little_number-reads_back 4 value [] has.1) }
in_form (scalar m B64 value) has = record { version = refl; channel = has.0.1; content = omega arith; sound = rw (some_channel m has.0.0) refl; back = ap (scalar m B64) (little_number-reads_back 8 value [] has.1) }

-- each letter that has a spelling is read back where its addresses fit
pub letter_back : (a b : ℕ) (l : PlainLetter) → HasSpelling l → a < 2 ^ 32 → 1024 ≤ b → b < 2 ^ 32 → reading (made a b (spelling l)) ≡ says a b l
letter_back a b l has from above below =
    let form = in_form l has in
    let short : length (spelling l) ≤ 496 = let k : length (fields_of l).content ≤ 488 = form.content in omega arith in
    let first : ((fields_of l).version == 1) ≡ true = eq-eqb (fields_of l).version 1 form.version in
    let not_second : ((fields_of l).version == 2) ≡ false = ap (λ v. v == 2) form.version in
    made_says a b (spelling l) from above below short (sound_spelled (fields_of l) (ap (λ k. k || (fields_of l).version == 2) first) form.channel form.sound)
    ∙ (ap (said_in a b) (fields_back (fields_of l) form.channel)
    ∙ (ap (λ k. cond k (brings a b (piece_of (fields_of l))) (says a b (letter_of (fields_of l)))) not_second ∙ ap (says a b) form.back))

-- ---- and each part

number_twice : (x y : ℕ) (bytes : List ℕ) → x < 2 ^ 16 → y < 2 ^ 16 → (number_at 0 2 (little_bytes 2 x ++ (little_bytes 2 y ++ bytes)) ≡ x) × (number_at 2 2 (little_bytes 2 x ++ (little_bytes 2 y ++ bytes)) ≡ y)
number_twice x y bytes fits more = (little_number-reads_back 2 x (little_bytes 2 y ++ bytes) fits, little_number-reads_back 2 y bytes more)

-- the fields of a part, whatever carries it
module _ (t o : ℕ) (bytes : List ℕ) (within : o + length bytes ≤ t) (some : 0 < length bytes) (most : t ≤ 8192) where
  abbrev content : List ℕ
  content = little_bytes 2 t ++ (little_bytes 2 o ++ bytes)

  numbers : (number_at 0 2 content ≡ t) × (number_at 2 2 content ≡ o)
  numbers = number_twice t o bytes (omega arith) (omega arith)

  is_a_part : (nat_lt 4 (length content) && (nat_le (number_at 2 2 content + (length content - 4)) (number_at 0 2 content) && nat_le (number_at 0 2 content) item_size)) ≡ true
  is_a_part =
      let fits : o + (length content - 4) ≤ t = omega arith in
      rw (numbers.0, numbers.1, lt-ltb 4 (length content) (omega arith), le-leb (o + (length content - 4)) t fits, le-leb t item_size most) refl

  part_sound : (k : Carrier) → IsCarrier k → first_fault (widened fault_of.Letter (field_faults (carrier_fields k content))) ≡ None
  part_sound (of_message priority) is =
      let low : nat_le 0 priority ≡ true = le-leb 0 priority (omega arith) in
      rw (low, le-leb priority 3 is, is_a_part) refl
  part_sound (of_packet m) is = rw (some_channel m is.0, is_a_part) refl

  part_version : (k : Carrier) → (carrier_fields k content).version ≡ 2
  part_version (of_message priority) = refl
  part_version (of_packet m) = refl

  part_channel : (k : Carrier) → IsCarrier k → (carrier_fields k content).channel < 2 ^ 32
  part_channel (of_message priority) is = omega arith
  part_channel (of_packet m) is = is.1

  part_content : (k : Carrier) → (carrier_fields k content).content ≡ content
  part_content (of_message priority) = refl
  part_content (of_packet m) = refl

  part_read : (k : Carrier) → piece_of (carrier_fields k content) ≡ piece k t o bytes
  part_read (of_message priority) = ap₂ (λ x y. piece (of_message priority) x y bytes) numbers.0 numbers.1
  part_read (of_packet m) = ap₂ (λ x y. piece (of_packet m) x y bytes) numbers.0 numbers.1

  -- a part that has a spelling is read back where its addresses fit
  pub part_back : (a b : ℕ) (k : Carrier) → IsCarrier k → length bytes ≤ piece_size → a < 2 ^ 32 → 1024 ≤ b → b < 2 ^ 32 → reading (made a b (piece_spelling (piece k t o bytes))) ≡ brings a b (piece k t o bytes)
  part_back a b k is short from above below =
      let f : Fields = carrier_fields k content in
      let small : length (spelled f) ≤ 496 = omega (arith, ap (λ (c : List ℕ). length c) (part_content k)) in
      let second : (f.version == 2) ≡ true = ap (λ v. v == 2) (part_version k) in
      made_says a b (spelled f) from above below small (sound_spelled f (ap (λ v. v == 1 || v == 2) (part_version k)) (part_channel k is) (part_sound k is))
      ∙ (ap (said_in a b) (fields_back f (part_channel k is))
      ∙ (ap (λ c. cond c (brings a b (piece_of f)) (says a b (letter_of f))) second ∙ ap (brings a b) (part_read k)))
