use Rattle.std.proofs.Common.{◌≡◌, ◌-◌, ◌∙◌, length, drop, slice_index, refl, ap, subst, arith}
use Rattle.std.specs.Prelude.{◌==◌, ◌||◌}
use Rattle.byteorder.specs.Endian.{little_number}
use Rattle.byteorder.specs.Numbers.{little_from-take}
use Rattle.mc_base.specs.Letter.{Fields, fields}
use Rattle.mc_base.specs.LetterFaults.{fields_in}
use Rattle.bridge_frame.specs.Reading.{IsReading}
use Rattle.bridge_frame.proofs.Bytes.{IsBytes}
use Rattle.bridge_frame.proofs.Letters.{IsHeaded, reading_is_complete, reading_is_sound, reading_tells_fault}
use Rattle.bridge_frame.proofs.reading.read_letter.Goals as goal

-- version 1
headed_letter : (c : goal.After-letter_of) → IsHeaded c.args.payload.now
headed_letter c = record {
  long = c.if-payload-lt-LETTER_HEADER_SIZE.false;
  magic = c.if-payload-ne-MAGIC.false;
  version = ap (λ n. n == 1 || n == 2) c.in-1.is;
}

bytes_letter : (c : goal.After-letter_of) → IsBytes c.args.payload.now
bytes_letter c i = omega (arith, c.type_inv.payload i)

read_letter : (c : goal.After-letter_of) → IsReading (fields_in c.args.payload.now) c.letter_of.result
read_letter c =
    let payload = c.args.payload.now in
    let channel : c.read_u32-channel.result ≡ little_number 4 (drop 4 payload) =
    c.read_u32-channel.ensures ∙ little_from-take 0 4 (length payload - 4) (drop 4 payload) (omega arith) in
    let same : fields 1 (slice_index payload 2) (slice_index payload 3) c.read_u32-channel.result c.split_at.result.1.now ≡ fields_in payload =
    rw (channel, c.split_at.ensures.back, c.in-1.is) refl in
    subst (λ (f : Fields). IsReading f c.letter_of.result) same c.letter_of.ensures

pub returns-in-1-clause-sound : goal.returns-in-1-clause-sound
returns-in-1-clause-sound c = reading_is_sound c.args.payload.now c.letter_of.result (headed_letter c) (bytes_letter c) (read_letter c)

pub returns-in-1-clause-fault : goal.returns-in-1-clause-fault
returns-in-1-clause-fault c = reading_tells_fault c.args.payload.now c.letter_of.result (headed_letter c) (read_letter c)

pub returns-in-1-clause-complete : goal.returns-in-1-clause-complete
returns-in-1-clause-complete c = reading_is_complete c.args.payload.now c.letter_of.result (returns-in-1-clause-sound c) (returns-in-1-clause-fault c)

-- version 2
headed_part : (c : goal.After-part_of) → IsHeaded c.args.payload.now
headed_part c = record {
  long = c.if-payload-lt-LETTER_HEADER_SIZE.false;
  magic = c.if-payload-ne-MAGIC.false;
  version = ap (λ n. n == 1 || n == 2) c.in-2.is;
}

bytes_part : (c : goal.After-part_of) → IsBytes c.args.payload.now
bytes_part c i = omega (arith, c.type_inv.payload i)

read_part : (c : goal.After-part_of) → IsReading (fields_in c.args.payload.now) c.part_of.result
read_part c =
    let payload = c.args.payload.now in
    let channel : c.read_u32-channel.result ≡ little_number 4 (drop 4 payload) =
    c.read_u32-channel.ensures ∙ little_from-take 0 4 (length payload - 4) (drop 4 payload) (omega arith) in
    let same : fields 2 (slice_index payload 2) (slice_index payload 3) c.read_u32-channel.result c.split_at.result.1.now ≡ fields_in payload =
    rw (channel, c.split_at.ensures.back, c.in-2.is) refl in
    subst (λ (f : Fields). IsReading f c.part_of.result) same c.part_of.ensures

pub returns-in-2-clause-sound : goal.returns-in-2-clause-sound
returns-in-2-clause-sound c = reading_is_sound c.args.payload.now c.part_of.result (headed_part c) (bytes_part c) (read_part c)

pub returns-in-2-clause-fault : goal.returns-in-2-clause-fault
returns-in-2-clause-fault c = reading_tells_fault c.args.payload.now c.part_of.result (headed_part c) (read_part c)

pub returns-in-2-clause-complete : goal.returns-in-2-clause-complete
returns-in-2-clause-complete c = reading_is_complete c.args.payload.now c.part_of.result (returns-in-2-clause-sound c) (returns-in-2-clause-fault c)
