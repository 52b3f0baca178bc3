-- Letters and the fields of their payloads.
use Rattle.std.proofs.Common.{◌≡◌, ◌<◌, ◌≤◌, ◌^◌, ◌+◌, ◌-◌, ◌∙◌, take_all, ℕ, suc, List, [], ◌∷◌, ◌++◌, length, take, drop, slice_index, refl, sym, ap, arith, Result, Ok, Err, None, Some, IfOk, IsOkAnd, MatchResult}
use Rattle.std.proofs.Common.{rules}
use Rattle.std.proofs.lemmas.Grind.{common_steps}
use borrow.Author.Tests.{le-ltb}
use Rattle.std.proofs.lemmas.Bool.{le-leb, lt-ltb}
use Rattle.std.proofs.lemmas.List.{take-append-drop}
use Rattle.std.specs.Prelude.{true, false, not, ◌==◌, ◌||◌, nat_lt, nat_le}
use Rattle.mc_base.specs.FaultRow.{first_fault, row}
use Rattle.mc_base.proofs.FaultRows.{first_fault-passed}
use Rattle.mc_base.specs.declared.fault.LetterFault.TheVariants.{PayloadShort, Magic, Version}
use Rattle.byteorder.specs.Endian.{little_bytes, little_number}
use Rattle.mc_base.specs.Limits.{item_size}
use Rattle.mc_base.specs.Letter.{PlainLetter, msg, HasSpelling, spelling, Carrier, of_message, of_packet, IsCarrier, carrier_fields, Piece, HasPieceSpelling, fields_of_piece, piece_spelling, Saying, whole, in_part, saying_fields, IsSaying, saying_of, bytes_of_bits, spelled, fields, version_1}
use Rattle.mc_base.specs.Reading.{Reading, says, brings, says_so, said_in}
use Rattle.mc_base.proofs.Readings.{fields_in-spelled, saying_is_small, said_in-fields, number_twice}
use Rattle.mc_base.specs.LetterFaults.{fields_in, field_faults, letter_faults, a_part}
use Rattle.mc_base.specs.declared.letter.Letter.{Letter}
use Rattle.mc_base.specs.declared.letter.Letter.TheVariants as letter
use Rattle.mc_base.specs.declared.channel.Bits.{Bits}
use Rattle.mc_base.specs.declared.channel.Bits.TheVariants.{B8, B16, B32, B64}
use Rattle.byteorder.specs.Numbers.{little_from-lt}
use Rattle.mc_base.specs.declared.fault.LetterFault.{LetterFault}
use Rattle.bridge_frame.specs.Reading.{IsRead, IsReading}
use Rattle.bridge_frame.specs.Laws.{LettersReadBack, NoPayloadHasTwoLetters}
use Rattle.bridge_frame.proofs.Bytes.{IsBytes, little_bytes-little_number}

-- a payload that has the fields, magic and a version
pub record IsHeaded (payload : List ℕ) : Type 0 where
  pub long : 8 ≤ length payload
  pub magic : slice_index payload 0 ≡ 0x4d
  pub version : (slice_index payload 1 == 1 || slice_index payload 1 == 2) ≡ true

pub letter_faults-headed : (payload : List ℕ) → IsHeaded payload → first_fault (letter_faults payload) ≡ first_fault (field_faults (fields_in payload))
letter_faults-headed payload headed =
    let long : nat_lt (length payload) 8 ≡ false = le-ltb (length payload) 8 headed.long in
    let magic : not (slice_index payload 0 == 0x4d) ≡ false = ap (λ n. not (n == 0x4d)) headed.magic in
    let version : not (slice_index payload 1 == 1 || slice_index payload 1 == 2) ≡ false = ap not headed.version in
    let rest = field_faults (fields_in payload) in
    let third = row Version (not (slice_index payload 1 == 1 || slice_index payload 1 == 2)) 17 in
    let second = row Magic (not (slice_index payload 0 == 0x4d)) 16 in
    let first = row PayloadShort (nat_lt (length payload) 8) 12 in
    first_fault-passed first (second ∷ third ∷ rest) long ∙ first_fault-passed second (third ∷ rest) magic ∙ first_fault-passed third rest version

channel_stands : (channel : ℕ) → 0 < channel → (channel == 0) ≡ false
channel_stands channel positive = search rules

-- ---- what is written is read back

whole_reads_back : (l : PlainLetter) → HasSpelling l → first_fault (letter_faults (spelling l)) ≡ None
whole_reads_back l lawful = search rules

-- the content of a part is one
pub cut_passes : (t o : ℕ) (bytes : List ℕ) → o + length bytes ≤ t → 0 < length bytes → t ≤ item_size → a_part (fields 2 1 0 0 (little_bytes 2 t ++ (little_bytes 2 o ++ bytes))) ≡ true
cut_passes t o bytes within some most =
    let numbers = number_twice t o bytes (omega arith) (omega arith) in
    let content : List ℕ = little_bytes 2 t ++ (little_bytes 2 o ++ bytes) in
    rw (numbers.0, numbers.1, lt-ltb 4 (length content) (omega arith), le-leb (o + (length content - 4)) t (omega arith), le-leb t item_size most) refl

part_sound : (k : Carrier) (content : List ℕ) → IsCarrier k → a_part (fields 2 1 0 0 content) ≡ true → first_fault (field_faults (carrier_fields k content)) ≡ None
part_sound (of_message priority) content is passes =
    let low : nat_le 0 priority ≡ true = le-leb 0 priority (omega arith) in
    rw (low, le-leb priority 3 is, passes) refl
part_sound (of_packet channel) content is passes = rw (channel_stands channel is.0, passes) refl

part_headed : (k : Carrier) (content : List ℕ) → IsHeaded (spelled (carrier_fields k content))
part_headed (of_message priority) content = record { long = omega arith; magic = refl; version = refl }
part_headed (of_packet channel) content = record { long = omega arith; magic = refl; version = refl }

part_reads_back : (p : Piece) → HasPieceSpelling p → first_fault (letter_faults (piece_spelling p)) ≡ None
part_reads_back p lawful =
    letter_faults-headed (piece_spelling p) (part_headed p.carrier _)
    ∙ ap (λ f. first_fault (field_faults f)) (fields_in-spelled (fields_of_piece p) (saying_is_small (in_part p) lawful))
    ∙ part_sound p.carrier _ lawful.carries (cut_passes p.total p.offset p.content lawful.within lawful.some lawful.most)

pub letters_read_back : LettersReadBack
letters_read_back (whole l) lawful = (record { lawful = lawful; bytes = refl }, whole_reads_back l lawful)
letters_read_back (in_part p) lawful = (record { lawful = lawful; bytes = refl }, part_reads_back p lawful)

-- ---- what a payload says is what its fields say

said_back : Reading → Saying
said_back (says a b l) = whole l
said_back (brings a b p) = in_part p
said_back other = whole (msg 0 [])

back : (s : Saying) → said_back (says_so 0 0 s) ≡ s
unfolding said_back
back (whole l) = refl
back (in_part p) = refl

-- the fields of what a payload says say it
they_say : (payload : List ℕ) (s : Saying) → IsSaying payload s → said_in 0 0 (fields_in payload) ≡ says_so 0 0 s
they_say payload s said =
    ap (λ p. said_in 0 0 (fields_in p)) said.bytes
    ∙ ap (said_in 0 0) (fields_in-spelled (saying_fields s) (saying_is_small s said.lawful))
    ∙ said_in-fields 0 0 s said.lawful

pub no_payload_has_two_letters : NoPayloadHasTwoLetters
no_payload_has_two_letters payload s t first second = sym (back s) ∙ (ap said_back (sym (they_say payload s first) ∙ they_say payload t second) ∙ back t)

-- ---- the fields of a payload are its bytes

pub spelled-fields_in : (payload : List ℕ) → IsHeaded payload → IsBytes payload → spelled (fields_in payload) ≡ payload
spelled-fields_in (a ∷ b ∷ k ∷ g ∷ rest) headed bytes =
    let channel : little_bytes 4 (little_number 4 rest) ≡ take 4 rest = little_bytes-little_number 4 rest (omega (arith, headed.long)) (λ i. bytes (suc (suc (suc (suc i))))) in
    let magic : a ≡ 0x4d = headed.magic in
    ap (λ (front : List ℕ). 0x4d ∷ b ∷ k ∷ g ∷ (front ++ drop 4 rest)) channel ∙ rw (magic, take-append-drop 4 rest) refl
spelled-fields_in [] headed bytes = absurd (omega (arith, headed.long))
spelled-fields_in (a ∷ []) headed bytes = absurd (omega (arith, headed.long))
spelled-fields_in (a ∷ b ∷ []) headed bytes = absurd (omega (arith, headed.long))
spelled-fields_in (a ∷ b ∷ c ∷ []) headed bytes = absurd (omega (arith, headed.long))

pub reading_is_sound : (payload : List ℕ) (r : Result Letter LetterFault) → IsHeaded payload → IsBytes payload → IsReading (fields_in payload) r → IfOk r (λ l. IsSaying payload (saying_of l))
reading_is_sound payload (Ok l) headed bytes read = record { lawful = read.lawful; bytes = sym (ap spelled read.fields_are ∙ spelled-fields_in payload headed bytes) }
reading_is_sound payload (Err e) headed bytes read = tt

-- the fault is the first of the table, and there is none where a letter is read
abbrev pub TellsFault : List ℕ → Result Letter LetterFault → Type 0
TellsFault payload r = MatchResult r (λ l. first_fault (letter_faults payload) ≡ None) (λ e. first_fault (letter_faults payload) ≡ Some e)

pub reading_tells_fault : (payload : List ℕ) (r : Result Letter LetterFault) → IsHeaded payload → IsReading (fields_in payload) r → TellsFault payload r
reading_tells_fault payload (Ok l) headed read = letter_faults-headed payload headed ∙ read.faultless
reading_tells_fault payload (Err e) headed read = letter_faults-headed payload headed ∙ read

pub reading_is_complete : (payload : List ℕ) (r : Result Letter LetterFault) → IfOk r (λ l. IsSaying payload (saying_of l)) → TellsFault payload r
    → (s : Saying) → IsSaying payload s → IsOkAnd r (λ x. saying_of x ≡ s)
reading_is_complete payload (Ok x) sound fault s said = no_payload_has_two_letters payload (saying_of x) s sound said
reading_is_complete payload (Err e) sound fault s said =
    let none = (letters_read_back s said.lawful).1 in
    let same = ap (λ p. first_fault (letter_faults p)) said.bytes in
    absurd cc

-- the bytes of a full content
content_of : (n : ℕ) (content : List ℕ) → length content ≡ n → IsBytes content → little_bytes n (little_number n content) ≡ content
content_of n content full bytes = little_bytes-little_number n content (omega arith) bytes ∙ take_all n content (omega arith)

scalar_of_bits : (bits : Bits) (channel : ℕ) (content : List ℕ) → length content ≡ bytes_of_bits bits → 0 < channel → channel < 2 ^ 32 → IsBytes content
    → IsRead (version_1 8 (bytes_of_bits bits) channel content) (letter.Scalar channel bits (little_number (bytes_of_bits bits) content))
scalar_of_bits B8 channel content full positive small bytes = record {
  fields_are = ap (λ (xs : List ℕ). version_1 8 1 channel xs) (content_of 1 content full bytes);
  lawful = ((positive, small), little_from-lt 0 1 content bytes);
  faultless = rw (channel_stands channel positive, full) refl;
}
scalar_of_bits B16 channel content full positive small bytes = record {
  fields_are = ap (λ (xs : List ℕ). version_1 8 2 channel xs) (content_of 2 content full bytes);
  lawful = ((positive, small), little_from-lt 0 2 content bytes);
  faultless = rw (channel_stands channel positive, full) refl;
}
scalar_of_bits B32 channel content full positive small bytes = record {
  fields_are = ap (λ (xs : List ℕ). version_1 8 4 channel xs) (content_of 4 content full bytes);
  lawful = ((positive, small), little_from-lt 0 4 content bytes);
  faultless = rw (channel_stands channel positive, full) refl;
}
scalar_of_bits B64 channel content full positive small bytes = record {
  fields_are = ap (λ (xs : List ℕ). version_1 8 8 channel xs) (content_of 8 content full bytes);
  lawful = ((positive, small), little_from-lt 0 8 content bytes);
  faultless = rw (channel_stands channel positive, full) refl;
}

-- a scalar of as many bytes as the argument says
pub scalar_is_read : (bits : Bits) (argument channel value : ℕ) (content : List ℕ) → argument ≡ bytes_of_bits bits
    → value ≡ little_number argument content → length content ≡ argument → 0 < channel → channel < 2 ^ 32 → IsBytes content
    → IsRead (version_1 8 argument channel content) (letter.Scalar channel bits value)
scalar_is_read bits argument channel value content width number full positive small bytes = rw (number, width) (scalar_of_bits bits channel content (full ∙ width) positive small bytes)
