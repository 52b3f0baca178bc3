-- What a frame says, by its fault, its announcement or its letter.
use Rattle.std.proofs.Common.{◌≡◌, ◌<◌, ◌≤◌, ◌-◌, ◌^◌, ◌∙◌, ℕ, Bool, true, false, cond, List, [], ◌++◌, length, take, take_all, Option, Some, None, refl, sym, ap, ap₂, arith}
use Rattle.std.specs.Prelude.{◌==◌, nat_lt, option_map}
use Rattle.std.proofs.lemmas.Bool.{le-ltb}
use Rattle.byteorder.specs.Endian.{little_bytes}
use Rattle.byteorder.specs.Numbers.{little_number-reads_back}
use Rattle.mc_base.specs.Limits.{frame_header_size, longest_frame, name_service_address}
use Rattle.mc_base.specs.Bytes.{number_at}
use Rattle.mc_base.specs.FaultRow.{first_fault}
use Rattle.mc_base.specs.Fault.{fault, payload_faults}
use Rattle.mc_base.specs.Frame.{IsFrame, frame_faults, made, source_of, destination_of, payload_of, payload_length_of}
use Rattle.mc_base.specs.Letter.{Fields, HasSpelling, PlainLetter, Saying, whole, in_part, saying_fields, CanBeSaid, IsSaying, Carrier, of_message, of_packet, IsCarrier, Piece, piece, carrier_fields, fields_of_piece, HasPieceSpelling, msg, connect, accept, reject, recv_open, send_open, packet, scalar, send_close, recv_close, fields, fields_of, spelled}
use Rattle.mc_base.specs.LetterFaults.{fields_in, letter_faults}
use Rattle.mc_base.specs.Announcement.{IsNs, announcement_faults, flags_of}
use Rattle.mc_base.specs.Reading.{Reading, is_faulty, announces, says, brings, says_so, piece_of, said_in, announced_in, letter_of, reading, reading_by}
use Rattle.mc_base.specs.declared.fault.Fault.{Fault}
use Rattle.mc_base.specs.declared.fault.Fault.TheVariants as fault_of
use Rattle.mc_base.specs.declared.fault.FrameFault.{FrameFault}
use Rattle.mc_base.specs.declared.fault.LetterFault.{LetterFault}
use Rattle.mc_base.specs.declared.fault.NsFault.{NsFault}
use Rattle.mc_base.specs.declared.channel.Kind.TheVariants.{Packet, Scalar}
use Rattle.mc_base.specs.declared.channel.Reason.TheVariants.{NoEndpoint, Connected, Busy}
use Rattle.mc_base.specs.declared.channel.Bits.TheVariants.{B8, B16, B32, B64}
use Rattle.mc_base.proofs.FaultRows.{first_fault-widened, widened-passed, widened-stands}

-- ---- letters

-- the fields of a letter's spelling are its fields
pub fields_in-spelled : (f : Fields) → f.channel < 2 ^ 32 → fields_in (spelled f) ≡ f
fields_in-spelled f small = ap (λ (n : ℕ). fields f.version f.kind f.argument n f.content) (little_number-reads_back 4 f.channel f.content small)

channel_is_small : (l : PlainLetter) → HasSpelling l → (fields_of l).channel < 2 ^ 32
channel_is_small (msg priority bytes) lawful = omega arith
channel_is_small (connect channel kind) lawful = lawful.1
channel_is_small (accept channel) lawful = lawful.1
channel_is_small (reject channel reason) lawful = lawful.1
channel_is_small (recv_open channel) lawful = lawful.1
channel_is_small (send_open channel) lawful = lawful.1
channel_is_small (packet channel bytes) lawful = lawful.0.1
channel_is_small (scalar channel bits value) lawful = lawful.0.1
channel_is_small (send_close channel) lawful = lawful.1
channel_is_small (recv_close channel) lawful = lawful.1

-- the letter of a letter's fields is this letter
pub letter_of-fields : (l : PlainLetter) → HasSpelling l → letter_of (fields_of l) ≡ l
letter_of-fields (msg priority bytes) lawful = refl
letter_of-fields (connect channel Packet) lawful = refl
letter_of-fields (connect channel Scalar) lawful = refl
letter_of-fields (accept channel) lawful = refl
letter_of-fields (reject channel NoEndpoint) lawful = refl
letter_of-fields (reject channel Connected) lawful = refl
letter_of-fields (reject channel Busy) lawful = refl
letter_of-fields (recv_open channel) lawful = refl
letter_of-fields (send_open channel) lawful = refl
letter_of-fields (packet channel bytes) lawful = refl
letter_of-fields (scalar channel B8 value) lawful = ap (scalar channel B8) (little_number-reads_back 1 value [] lawful.1)
letter_of-fields (scalar channel B16 value) lawful = ap (scalar channel B16) (little_number-reads_back 2 value [] lawful.1)
letter_of-fields (scalar channel B32 value) lawful = ap (scalar channel B32) (little_number-reads_back 4 value [] lawful.1)
letter_of-fields (scalar channel B64 value) lawful = ap (scalar channel B64) (little_number-reads_back 8 value [] lawful.1)
letter_of-fields (send_close channel) lawful = refl
letter_of-fields (recv_close channel) lawful = refl

first_version : (l : PlainLetter) → ((fields_of l).version == 2) ≡ false
first_version (msg priority bytes) = refl
first_version (connect channel kind) = refl
first_version (accept channel) = refl
first_version (reject channel reason) = refl
first_version (recv_open channel) = refl
first_version (send_open channel) = refl
first_version (packet channel bytes) = refl
first_version (scalar channel bits value) = refl
first_version (send_close channel) = refl
first_version (recv_close channel) = refl

-- ---- parts

piece_is_small : (k : Carrier) (content : List ℕ) → IsCarrier k → (carrier_fields k content).channel < 2 ^ 32
piece_is_small (of_message priority) content lawful = omega arith
piece_is_small (of_packet channel) content lawful = lawful.1

second_version : (k : Carrier) (content : List ℕ) → ((carrier_fields k content).version == 2) ≡ true
second_version (of_message priority) content = refl
second_version (of_packet channel) content = refl

-- the two numbers before a part's bytes are read back
pub number_twice : (x y : ℕ) (bytes : List ℕ) → x < 2 ^ 16 → y < 2 ^ 16 → (number_at 0 2 (little_bytes 2 x ++ (little_bytes 2 y ++ bytes)) ≡ x) × (number_at 2 2 (little_bytes 2 x ++ (little_bytes 2 y ++ bytes)) ≡ y)
number_twice x y bytes fits more = (little_number-reads_back 2 x (little_bytes 2 y ++ bytes) fits, little_number-reads_back 2 y bytes more)

piece_read : (k : Carrier) (t o : ℕ) (bytes : List ℕ) → t < 2 ^ 16 → o < 2 ^ 16 → piece_of (fields_of_piece (piece k t o bytes)) ≡ piece k t o bytes
piece_read (of_message priority) t o bytes small smaller = let numbers = number_twice t o bytes small smaller in ap₂ (λ x y. piece (of_message priority) x y bytes) numbers.0 numbers.1
piece_read (of_packet channel) t o bytes small smaller = let numbers = number_twice t o bytes small smaller in ap₂ (λ x y. piece (of_packet channel) x y bytes) numbers.0 numbers.1

-- the part of a part's fields is this part
piece_of-fields : (p : Piece) → HasPieceSpelling p → piece_of (fields_of_piece p) ≡ p
piece_of-fields p lawful = let within = lawful.within in let most = lawful.most in piece_read p.carrier p.total p.offset p.content (omega arith) (omega arith)

-- the fields of what is said are those of its text
pub saying_is_small : (s : Saying) → CanBeSaid s → (saying_fields s).channel < 2 ^ 32
saying_is_small (whole l) lawful = channel_is_small l lawful
saying_is_small (in_part p) lawful = piece_is_small p.carrier _ lawful.carries

-- and what they say is this
pub said_in-fields : (src dst : ℕ) (s : Saying) → CanBeSaid s → said_in src dst (saying_fields s) ≡ says_so src dst s
said_in-fields src dst (whole l) lawful =
    ap (λ (b : Bool). cond b (brings src dst (piece_of (fields_of l))) (says src dst (letter_of (fields_of l)))) (first_version l)
    ∙ ap (says src dst) (letter_of-fields l lawful)
said_in-fields src dst (in_part p) lawful =
    ap (λ (b : Bool). cond b (brings src dst (piece_of (fields_of_piece p))) (says src dst (letter_of (fields_of_piece p)))) (second_version p.carrier _)
    ∙ ap (brings src dst) (piece_of-fields p lawful)

-- ---- announcements

flags-back : (create : Bool) → (flags_of create == flags_of true) ≡ create
flags-back true = refl
flags-back false = refl

pub announced : (payload name : List ℕ) (address : ℕ) (create : Bool) → IsNs payload name address create → announced_in payload ≡ announces name address create
announced payload name address create said =
    let created : (number_at 36 4 payload == flags_of true) ≡ create = ap (λ (n : ℕ). n == flags_of true) said.flagged ∙ flags-back create in
    ap (λ (n : List ℕ). announces n (number_at 32 4 payload) (number_at 36 4 payload == flags_of true)) (sym said.named)
    ∙ ap (λ (a : ℕ). announces name a (number_at 36 4 payload == flags_of true)) (sym said.addressed)
    ∙ ap (announces name address) created

-- ---- frames

-- a frame says what its first fault, or none, leaves it to say
says_by : (frame : List ℕ) (o : Option Fault) → fault frame ≡ o → reading frame ≡ reading_by o frame
unfolding reading
says_by frame o is = ap (λ (o : Option Fault). reading_by o frame) is

-- the first fault of a frame without one of its own is that of its payload
payload_fault : (frame payload : List ℕ) (src dst : ℕ) → IsFrame frame src dst payload → first_fault (frame_faults frame) ≡ None
    → fault frame ≡ first_fault (payload_faults dst payload)
payload_fault frame payload src dst f sound =
    widened-passed fault_of.Frame (frame_faults frame) (payload_faults (destination_of frame) (payload_of frame)) sound
    ∙ ap (λ (d : ℕ). first_fault (payload_faults d (payload_of frame))) (sym f.destination)
    ∙ ap (λ (p : List ℕ). first_fault (payload_faults dst p)) (sym f.content)

pub reads_frame_fault : (frame : List ℕ) (e : FrameFault) → first_fault (frame_faults frame) ≡ Some e → reading frame ≡ is_faulty (fault_of.Frame e)
reads_frame_fault frame e is = says_by frame (Some (fault_of.Frame e)) (widened-stands fault_of.Frame (frame_faults frame) (payload_faults (destination_of frame) (payload_of frame)) e is)

-- the fault of an announcement and of a letter
by_destination : (frame payload : List ℕ) (src dst : ℕ) (to_names : Bool) → IsFrame frame src dst payload → first_fault (frame_faults frame) ≡ None → (dst == 53) ≡ to_names
    → fault frame ≡ cond to_names (option_map fault_of.Ns (first_fault (announcement_faults payload))) (option_map fault_of.Letter (first_fault (letter_faults payload)))
by_destination frame payload src dst true f sound is =
    payload_fault frame payload src dst f sound ∙ rw is (first_fault-widened fault_of.Ns (announcement_faults payload))
by_destination frame payload src dst false f sound is =
    payload_fault frame payload src dst f sound ∙ rw is (first_fault-widened fault_of.Letter (letter_faults payload))

pub reads_ns_fault : (frame payload : List ℕ) (src dst : ℕ) (e : NsFault) → IsFrame frame src dst payload → first_fault (frame_faults frame) ≡ None → (dst == 53) ≡ true
    → first_fault (announcement_faults payload) ≡ Some e → reading frame ≡ is_faulty (fault_of.Ns e)
reads_ns_fault frame payload src dst e f sound to_names is =
    says_by frame (Some (fault_of.Ns e)) (by_destination frame payload src dst true f sound to_names ∙ ap (option_map fault_of.Ns) is)

pub reads_letter_fault : (frame payload : List ℕ) (src dst : ℕ) (e : LetterFault) → IsFrame frame src dst payload → first_fault (frame_faults frame) ≡ None → (dst == 53) ≡ false
    → first_fault (letter_faults payload) ≡ Some e → reading frame ≡ is_faulty (fault_of.Letter e)
reads_letter_fault frame payload src dst e f sound to_endpoint is =
    says_by frame (Some (fault_of.Letter e)) (by_destination frame payload src dst false f sound to_endpoint ∙ ap (option_map fault_of.Letter) is)

pub reads_announcement : (frame payload : List ℕ) (src dst : ℕ) (name : List ℕ) (address : ℕ) (create : Bool) → IsFrame frame src dst payload → first_fault (frame_faults frame) ≡ None → (dst == 53) ≡ true
    → first_fault (announcement_faults payload) ≡ None → IsNs payload name address create → reading frame ≡ announces name address create
reads_announcement frame payload src dst name address create f sound to_names none said =
    says_by frame None (by_destination frame payload src dst true f sound to_names ∙ ap (option_map fault_of.Ns) none)
    ∙ ap (λ (b : Bool). cond b (announced_in (payload_of frame)) (said_in (source_of frame) (destination_of frame) (fields_in (payload_of frame))))
    (ap (λ (d : ℕ). d == 53) (sym f.destination) ∙ to_names)
    ∙ ap announced_in (sym f.content) ∙ announced payload name address create said

pub reads_saying : (frame payload : List ℕ) (src dst : ℕ) (s : Saying) → IsFrame frame src dst payload → first_fault (frame_faults frame) ≡ None → (dst == 53) ≡ false
    → first_fault (letter_faults payload) ≡ None → IsSaying payload s → reading frame ≡ says_so src dst s
reads_saying frame payload src dst s f sound to_endpoint none said =
    says_by frame None (by_destination frame payload src dst false f sound to_endpoint ∙ ap (option_map fault_of.Letter) none)
    ∙ ap (λ (b : Bool). cond b (announced_in (payload_of frame)) (said_in (source_of frame) (destination_of frame) (fields_in (payload_of frame))))
    (ap (λ (d : ℕ). d == 53) (sym f.destination) ∙ to_endpoint)
    ∙ ap (λ (a : ℕ). said_in a (destination_of frame) (fields_in (payload_of frame))) (sym f.source)
    ∙ ap (λ (a : ℕ). said_in src a (fields_in (payload_of frame))) (sym f.destination)
    ∙ ap (λ (p : List ℕ). said_in src dst (fields_in p)) (sym f.content)
    ∙ ap (λ (p : List ℕ). said_in src dst (fields_in p)) said.bytes
    ∙ ap (said_in src dst) (fields_in-spelled (saying_fields s) (saying_is_small s said.lawful))
    ∙ said_in-fields src dst s said.lawful

-- a frame has no fault of its own
pub frame_is_sound : (frame payload : List ℕ) (src dst : ℕ) → IsFrame frame src dst payload → first_fault (frame_faults frame) ≡ None
frame_is_sound frame payload src dst f =
    let whole : nat_lt (length frame) frame_header_size ≡ false = le-ltb (length frame) frame_header_size f.has_header in
    let fits : nat_lt longest_frame (length frame) ≡ false = le-ltb longest_frame (length frame) f.fits_buffer in
    let inside : nat_lt (length frame - frame_header_size) (payload_length_of frame) ≡ false = le-ltb (length frame - frame_header_size) (payload_length_of frame) f.length_fits in
    rw (whole, fits, inside) refl

-- what is made of two addresses and a payload is a frame of these
pub made_is_frame : (src dst : ℕ) (payload : List ℕ) → src < 2 ^ 32 → dst < 2 ^ 32 → length payload ≤ 496 → IsFrame (made src dst payload) src dst payload
made_is_frame src dst payload from to short =
    let count : payload_length_of (made src dst payload) ≡ length payload = little_number-reads_back 2 (length payload) [] (omega arith) in
    record {
      has_header = omega arith;
      fits_buffer = omega arith;
      source = sym (little_number-reads_back 4 src [] from);
      destination = sym (little_number-reads_back 4 dst [] to);
      length_fits = omega (arith, count);
      content = sym (ap (λ (n : ℕ). take n payload) count ∙ take_all (length payload) payload (omega arith));
    }

-- a frame that is read as faulty has this fault first, and one that says something has none
abbrev pub fault_in : Reading → Option Fault
fault_in (is_faulty f) = Some f
fault_in (announces name address create) = None
fault_in (says src dst l) = None
fault_in (brings s d q) = None

fault_by : (frame : List ℕ) (o : Option Fault) → o ≡ fault_in (reading_by o frame)
fault_by frame (Some f) = refl
fault_by frame None = neither (destination_of frame == name_service_address)
  where
    neither : (b : Bool) → None ≡ fault_in (cond b (announced_in (payload_of frame)) (said_in (source_of frame) (destination_of frame) (fields_in (payload_of frame))))
    neither true = refl
    neither false = letters ((fields_in (payload_of frame)).version == 2)
      where
        letters : (b : Bool) → None ≡ fault_in (cond b (brings (source_of frame) (destination_of frame) (piece_of (fields_in (payload_of frame)))) (says (source_of frame) (destination_of frame) (letter_of (fields_in (payload_of frame)))))
        letters true = refl
        letters false = refl

pub fault-read : (frame : List ℕ) (r : Reading) → r ≡ reading frame → fault_in r ≡ fault frame
unfolding reading
fault-read frame r is = ap fault_in is ∙ sym (fault_by frame (fault frame))
