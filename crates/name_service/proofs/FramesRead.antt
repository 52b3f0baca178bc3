-- What a frame says is what it carries.
use Rattle.std.proofs.Common.{◌≡◌, ◌≤◌, ◌∙◌, ℕ, List, ◌++◌, length, None, ap, refl, arith}
use Rattle.std.proofs.lemmas.Bool.{ne_eqb}
use Rattle.mc_base.specs.Limits.{name_service_address, piece_size}
use Rattle.mc_base.specs.FaultRow.{first_fault}
use Rattle.mc_base.specs.Frame.{made}
use Rattle.byteorder.specs.Endian.{little_bytes}
use Rattle.mc_base.specs.Letter.{HasSpelling, PlainLetter, spelling, spelled, Carrier, of_message, of_packet, carrier_fields, Piece, piece_spelling, Saying, whole, in_part, saying_text, CanBeSaid, FitsFrame, msg, connect, accept, reject, recv_open, send_open, packet, scalar, send_close, recv_close}
use Rattle.mc_base.specs.LetterFaults.{letter_faults}
use Rattle.mc_base.specs.Announcement.{announcement}
use Rattle.mc_base.specs.Reading.{says_so}
use Rattle.mc_base.specs.declared.channel.Bits.TheVariants.{B8, B16, B32, B64}
use Rattle.mc_base.proofs.Readings.{fault_in, frame_is_sound, made_is_frame, reads_announcement, reads_saying}
use Rattle.bridge_frame.proofs.Letters.{letters_read_back}
use Rattle.name_service.proofs.Announcements.{announced_has_no_fault, announcements_read_back}
use Rattle.name_service.specs.ReadingLaws.{LettersAreRead, AnnouncementsAreRead, MadeLettersAreRead, MadeAnnouncementsAreRead}

pub letters_are_read : LettersAreRead
letters_are_read frame payload src dst s f to_endpoint said =
    let none : first_fault (letter_faults payload) ≡ None = ap (λ (p : List ℕ). first_fault (letter_faults p)) said.bytes ∙ (letters_read_back s said.lawful).1 in
    reads_saying frame payload src dst s f (frame_is_sound frame payload src dst f) (ne_eqb dst name_service_address to_endpoint) none said

pub announcements_are_read : AnnouncementsAreRead
announcements_are_read frame payload src name address create f said =
    reads_announcement frame payload src name_service_address name address create f (frame_is_sound frame payload src name_service_address f) refl
    (announced_has_no_fault payload name address create said) said

-- a letter's spelling fits a frame
spelling_is_short : (l : PlainLetter) → HasSpelling l → length (spelling l) ≤ 496
spelling_is_short (msg priority bytes) lawful = omega (arith, lawful.1)
spelling_is_short (connect channel kind) lawful = omega arith
spelling_is_short (accept channel) lawful = omega arith
spelling_is_short (reject channel reason) lawful = omega arith
spelling_is_short (recv_open channel) lawful = omega arith
spelling_is_short (send_open channel) lawful = omega arith
spelling_is_short (packet channel bytes) lawful = omega (arith, lawful.1)
spelling_is_short (scalar channel B8 value) lawful = omega arith
spelling_is_short (scalar channel B16 value) lawful = omega arith
spelling_is_short (scalar channel B32 value) lawful = omega arith
spelling_is_short (scalar channel B64 value) lawful = omega arith
spelling_is_short (send_close channel) lawful = omega arith
spelling_is_short (recv_close channel) lawful = omega arith

part_is_short : (p : Piece) → length p.content ≤ piece_size → length (piece_spelling p) ≤ 496
part_is_short p short = go p.carrier
  where
    go : (k : Carrier) → length (spelled (carrier_fields k (little_bytes 2 p.total ++ (little_bytes 2 p.offset ++ p.content)))) ≤ 496
    go (of_message priority) = omega arith
    go (of_packet channel) = omega arith

text_is_short : (s : Saying) → FitsFrame s → length (saying_text s) ≤ 496
text_is_short (whole l) fits = spelling_is_short l fits
text_is_short (in_part p) fits = part_is_short p fits.1

can_be_said : (s : Saying) → FitsFrame s → CanBeSaid s
can_be_said (whole l) fits = fits
can_be_said (in_part p) fits = fits.0

pub made_letters_are_read : MadeLettersAreRead
made_letters_are_read src dst s from to to_endpoint fits =
    letters_are_read (made src dst (saying_text s)) (saying_text s) src dst s
    (made_is_frame src dst (saying_text s) from to (text_is_short s fits)) to_endpoint (letters_read_back s (can_be_said s fits)).0

pub made_announcements_are_read : MadeAnnouncementsAreRead
made_announcements_are_read src name address create from lawful short small =
    let payload = announcement name address create in
    let said = (announcements_read_back name address create lawful short small).0 in
    let forty : length payload ≡ 40 = said.whole in
    announcements_are_read (made src name_service_address payload) payload src name address create
    (made_is_frame src name_service_address payload from (omega arith) (omega (arith, forty))) said

-- what says a letter or a part has no fault
pub no_fault_said : (src dst : ℕ) (s : Saying) → fault_in (says_so src dst s) ≡ None
no_fault_said src dst (whole l) = refl
no_fault_said src dst (in_part p) = refl
