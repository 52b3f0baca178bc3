-- What a frame that brings an item has in its bytes.
use Rattle.std.proofs.Common.{◌≡◌, ℕ, ◌+◌, ◌-◌, ◌≤◌, Bool, true, false, cond, List, [], ◌∷◌, length, Option, Some, None, refl, sym, ap, ◌∙◌, subst, arith, take, drop, eqb-true, ◌<◌}
use Rattle.std.specs.Prelude.{if◌then◌else◌, is_some, nat_le, nat_lt, not, option_map, slice_index, ◌==◌, ◌||◌}
use Rattle.byteorder.specs.Endian.{little_bytes, little_number}
use Rattle.byteorder.specs.Numbers.{little_from-take}
use Rattle.std.proofs.lemmas.List.{drop-drop, drop-take, get_or-drop, get_or-take, length-drop, length-take}
use Rattle.mc_base.specs.Bytes.{number_at}
use Rattle.mc_base.specs.Fault.{fault, payload_faults}
use Rattle.mc_base.specs.FaultRow.{FaultRow, first, first_fault, row, widened}
use Rattle.mc_base.specs.Frame.{destination_of, payload_length_of, payload_of, source_of}
use Rattle.mc_base.specs.Letter.{Fields, PlainLetter, accept, connect, msg, packet, recv_close, recv_open, reject, scalar, send_close, send_open, bytes_of_bits}
use Rattle.mc_base.specs.LetterFaults.{Form, a_width, allows, fields_in, form_in, form_of, forms, letter_faults, part_forms}
use Rattle.mc_base.specs.Announcement.{announcement_faults}
use Rattle.mc_base.specs.Reading.{Reading, announced_in, bits_of_bytes, brings, kind_numbered, letter_of, piece_of, reading, reading_by, reason_numbered, says}
use Rattle.mc_base.specs.declared.fault.Fault.{Fault}
use Rattle.mc_base.specs.declared.fault.Fault.TheVariants as fault_of
use Rattle.mc_base.specs.declared.fault.FrameFault.TheVariants.{FrameShort, FrameLong, HeaderLen}
use Rattle.mc_base.specs.declared.fault.LetterFault.TheVariants.{PayloadShort, Magic, Version, Kind, Argument, Channel, Size}
use Rattle.mc_base.specs.declared.fault.NsFault.TheVariants.{NsSize, NsFlags, NsName}
use Rattle.board_model.specs.Dealing.{fault_word, keeps_buffer}
use Rattle.domain_parts.specs.InBook.{channel_of, priority_of}
use Rattle.board_model.specs.Parts.{Came}
use Rattle.board_model.specs.State.{Item}
use Rattle.board_model.specs.TakenFrames as taken
use Rattle.bridge_frame.proofs.Bytes.{little_bytes-little_number}
use Rattle.mc_base.specs.declared.channel.Bits.{Bits}
use Rattle.mc_base.specs.declared.channel.Bits.TheVariants.{B8, B16, B32, B64}
use Rattle.domain_parts.specs.Verdicts.{AreBytes, Fits, IsItem, IsInBounds, framed_item, item_with}

pub none-from : {X : Type 0} (o : Option X) → ((x : X) → o ≡ Some x → ⊥) → o ≡ None
none-from None h = refl
none-from (Some x) h = absurd (h x refl)

-- the buffer of a frame with a fault is not kept
pub fault-returned : (f : Fault) → keeps_buffer (fault_word f) ≡ false
fault-returned (fault_of.Frame FrameShort) = refl
fault-returned (fault_of.Frame FrameLong) = refl
fault-returned (fault_of.Frame HeaderLen) = refl
fault-returned (fault_of.Letter PayloadShort) = refl
fault-returned (fault_of.Letter Magic) = refl
fault-returned (fault_of.Letter Version) = refl
fault-returned (fault_of.Letter Kind) = refl
fault-returned (fault_of.Letter Argument) = refl
fault-returned (fault_of.Letter Channel) = refl
fault-returned (fault_of.Letter Size) = refl
fault-returned (fault_of.Ns NsSize) = refl
fault-returned (fault_of.Ns NsFlags) = refl
fault-returned (fault_of.Ns NsName) = refl

-- ---- no row of faults stands

head_passes : {F : Type 0} (r : FaultRow F) (rs : List (FaultRow F)) → first_fault (r ∷ rs) ≡ None → (r.stands ≡ false) × (first_fault rs ≡ None)
head_passes {F} r rs = go r.stands refl
  where
    go : (b : Bool) → r.stands ≡ b → option_map (λ x. x.fault) (cond r.stands (Some r) (first rs)) ≡ None → (r.stands ≡ false) × (first_fault rs ≡ None)
    go true e none = absurd (some_none (sym (ap (λ c. option_map (λ (x : FaultRow F). x.fault) (cond c (Some r) (first rs))) e) ∙ none))
      where
        some_none : Some r.fault ≡ None → ⊥
        some_none h = cc
    go false e none = (e, sym (ap (λ c. option_map (λ (x : FaultRow F). x.fault) (cond c (Some r) (first rs))) e) ∙ none)

-- ---- what a frame without a fault has in its bytes

-- the fields of its payload, and what the kind allows by the forms of its version
pub record Lies (frame : List ℕ) (table : List Form) : Type 0 where
  pub kind : (fields_in (payload_of frame)).kind ≡ slice_index frame 18
  pub argument : (fields_in (payload_of frame)).argument ≡ slice_index frame 19
  pub channel : (fields_in (payload_of frame)).channel ≡ number_at 20 4 frame
  pub content : (fields_in (payload_of frame)).content ≡ take (length (fields_in (payload_of frame)).content) (drop 24 frame)
  pub inside : 24 + length (fields_in (payload_of frame)).content ≤ length frame
  pub allowed : allows (form_in (fields_in (payload_of frame)).kind table) (λ form. form.content (fields_in (payload_of frame))) ≡ true
  pub numbered : allows (form_in (fields_in (payload_of frame)).kind table) (λ form. form.channel (fields_in (payload_of frame)).channel) ≡ true
  pub argued : allows (form_in (fields_in (payload_of frame)).kind table) (λ form. form.argument (fields_in (payload_of frame)).argument) ≡ true

not_lt : (a b : ℕ) → nat_lt a b ≡ false → b ≤ a
not_lt a b e = grind arith

not_not : (b : Bool) → not b ≡ false → b ≡ true
not_not true e = refl
not_not false e = absurd cc

-- the form of a kind, by whether its version is 2
version-form : (f : Fields) (parts : Bool) → (f.version == 2) ≡ parts → (P : Option Form → Bool) → P (form_of f) ≡ P (form_in f.kind (if parts then part_forms else forms))
version-form f parts is P = ap (λ (b : Bool). P (form_in f.kind (if b then part_forms else forms))) is

pub sound-lies : (frame : List ℕ) → fault frame ≡ None → (destination_of frame == 53) ≡ false → (parts : Bool) → ((fields_in (payload_of frame)).version == 2) ≡ parts → Lies frame (if parts then part_forms else forms)
sound-lies frame none to_endpoint parts version_is =
    let payload = payload_of frame in
    let f = fields_in payload in
    let behind_frame = payload_faults (destination_of frame) payload in
    let len_row = row (fault_of.Frame HeaderLen) (nat_lt (length frame - 16) (payload_length_of frame)) 12 in
    let long_row = row (fault_of.Frame FrameLong) (nat_lt 512 (length frame)) (length frame) in
    let one = head_passes (row (fault_of.Frame FrameShort) (nat_lt (length frame) 16) (length frame)) (long_row ∷ len_row ∷ behind_frame) none in
    let two = head_passes long_row (len_row ∷ behind_frame) one.1 in
    let three = head_passes len_row behind_frame two.1 in
    let rows : first_fault (widened fault_of.Letter (letter_faults payload)) ≡ None = sym (ap (λ b. first_fault (cond b (widened fault_of.Ns (announcement_faults payload)) (widened fault_of.Letter (letter_faults payload)))) to_endpoint) ∙ three.1 in
    let size_row = row (fault_of.Letter Size) (not (allows (form_of f) (λ form. form.content f))) 12 in
    let channel_row = row (fault_of.Letter Channel) (not (allows (form_of f) (λ form. form.channel f.channel))) 20 in
    let argument_row = row (fault_of.Letter Argument) (not (allows (form_of f) (λ form. form.argument f.argument))) 19 in
    let kind_row = row (fault_of.Letter Kind) (not (is_some (form_of f))) 18 in
    let version_row = row (fault_of.Letter Version) (not (f.version == 1 || f.version == 2)) 17 in
    let magic_row = row (fault_of.Letter Magic) (not (slice_index payload 0 == 0x4d)) 16 in
    let long_enough = head_passes (row (fault_of.Letter PayloadShort) (nat_lt (length payload) 8) 12) (magic_row ∷ version_row ∷ kind_row ∷ argument_row ∷ channel_row ∷ size_row ∷ []) rows in
    let magic = head_passes magic_row (version_row ∷ kind_row ∷ argument_row ∷ channel_row ∷ size_row ∷ []) long_enough.1 in
    let version = head_passes version_row (kind_row ∷ argument_row ∷ channel_row ∷ size_row ∷ []) magic.1 in
    let kind = head_passes kind_row (argument_row ∷ channel_row ∷ size_row ∷ []) version.1 in
    let argument = head_passes argument_row (channel_row ∷ size_row ∷ []) kind.1 in
    let channel = head_passes channel_row (size_row ∷ []) argument.1 in
    let size = head_passes size_row [] channel.1 in
    let header : 16 ≤ length frame = not_lt (length frame) 16 one.0 in
    let within : payload_length_of frame ≤ length frame - 16 = not_lt (length frame - 16) (payload_length_of frame) three.0 in
    let letter : 8 ≤ length payload = not_lt (length payload) 8 long_enough.0 in
    let cut = length-take (payload_length_of frame) (drop 16 frame) in
    let left = length-drop 16 frame in
    let behind = length-drop 8 payload in
    let n : payload_length_of frame ≡ 8 + length (drop 8 payload) = omega (arith, header, within, letter, cut, left, behind) in
    let m : payload_length_of frame ≡ 4 + (payload_length_of frame - 4) = omega (arith, n) in
    let four : 0 + 4 ≤ payload_length_of frame - 4 = omega (arith, n) in
    record {
      kind = get_or-take (payload_length_of frame) (drop 16 frame) 2 0 (omega (arith, n)) ∙ get_or-drop 16 frame 2 0;
      argument = get_or-take (payload_length_of frame) (drop 16 frame) 3 0 (omega (arith, n)) ∙ get_or-drop 16 frame 3 0;
      channel =
          ap (λ (k : ℕ). number_at 4 4 (take k (drop 16 frame))) m
          ∙ ap (little_number 4) (drop-take 4 (payload_length_of frame - 4) (drop 16 frame))
          ∙ little_from-take 0 4 (payload_length_of frame - 4) (drop 4 (drop 16 frame)) four
          ∙ ap (little_number 4) (drop-drop 4 16 frame);
      content = ap (λ (k : ℕ). drop 8 (take k (drop 16 frame))) n ∙ drop-take 8 (length (drop 8 payload)) (drop 16 frame) ∙ ap (take (length (drop 8 payload))) (drop-drop 8 16 frame);
      inside = omega (arith, n, header, within);
      allowed = sym (version-form f parts version_is (λ o. allows o (λ form. form.content f))) ∙ not_not _ size.0;
      numbered = sym (version-form f parts version_is (λ o. allows o (λ form. form.channel f.channel))) ∙ not_not _ channel.0;
      argued = sym (version-form f parts version_is (λ o. allows o (λ form. form.argument f.argument))) ∙ not_not _ argument.0;
    }

-- ---- the fields of a letter, by its kind

module _ (f : Fields) where
  abbrev by_tests : Bool → Bool → Bool → Bool → Bool → Bool → Bool → Bool → Bool → PlainLetter
  by_tests one two three four five six seven eight nine =
      cond one (msg f.argument f.content)
      (cond two (connect f.channel (kind_numbered f.argument))
      (cond three (accept f.channel)
      (cond four (reject f.channel (reason_numbered f.argument))
      (cond five (recv_open f.channel)
      (cond six (send_open f.channel)
      (cond seven (packet f.channel f.content)
      (cond eight (scalar f.channel (bits_of_bytes f.argument) (number_at 0 f.argument f.content))
      (cond nine (send_close f.channel) (recv_close f.channel)))))))))

  -- what the fields are, where the letter is a Connect or brings an item; the tests are those of kinds 1, 2, 7 and 8
  abbrev ReadsBy : Bool → Bool → Bool → Bool → PlainLetter → Type 0
  ReadsBy one two seven eight (msg p c) = (one ≡ true) × (f.argument ≡ p) × (f.content ≡ c)
  ReadsBy one two seven eight (connect n k) = (two ≡ true) × (f.channel ≡ n)
  ReadsBy one two seven eight (packet n c) = (seven ≡ true) × (f.channel ≡ n) × (f.content ≡ c)
  ReadsBy one two seven eight (scalar n bits v) = (eight ≡ true) × (f.channel ≡ n) × (bits_of_bytes f.argument ≡ bits) × (number_at 0 f.argument f.content ≡ v)
  ReadsBy one two seven eight other = Unit {0}

  reads_by : (one two three four five six seven eight nine : Bool) → ReadsBy one two seven eight (by_tests one two three four five six seven eight nine)
  reads_by true two three four five six seven eight nine = (refl, refl, refl)
  reads_by false true three four five six seven eight nine = (refl, refl)
  reads_by false false true four five six seven eight nine = tt
  reads_by false false false true five six seven eight nine = tt
  reads_by false false false false true six seven eight nine = tt
  reads_by false false false false false true seven eight nine = tt
  reads_by false false false false false false true eight nine = (refl, refl, refl)
  reads_by false false false false false false false true nine = (refl, refl, refl, refl)
  reads_by false false false false false false false false true = tt
  reads_by false false false false false false false false false = tt

  abbrev Reads : PlainLetter → Type 0
  Reads l = ReadsBy (f.kind == 1) (f.kind == 2) (f.kind == 7) (f.kind == 8) l

  letter-reads : (l : PlainLetter) → letter_of f ≡ l → Reads l
  letter-reads l is = subst Reads is (reads_by (f.kind == 1) (f.kind == 2) (f.kind == 3) (f.kind == 4) (f.kind == 5) (f.kind == 6) (f.kind == 7) (f.kind == 8) (f.kind == 9))

-- ---- an item in a frame

-- a frame brings an item: from this source, of this priority and channel, with this content
pub record Carries (frame : List ℕ) (source priority : ℕ) (channel : Option ℕ) (content : List ℕ) : Type 0 where
  pub from : source_of frame ≡ source
  pub says : priority_of frame ≡ priority
  pub on : channel_of frame ≡ channel
  pub fits : Fits frame 24 (length content)
  pub content_is : take (length content) (drop 24 frame) ≡ content

not_le : (a b : ℕ) → nat_le a b ≡ true → a ≤ b
not_le a b e = grind arith

-- a width of a scalar is that of its bits
width-back : (a : ℕ) → a_width a ≡ true → bytes_of_bits (bits_of_bytes a) ≡ a
width-back a is = one (a == 1) refl
  where
    four : (b : Bool) → (a == 4) ≡ b → (a == 1) ≡ false → (a == 2) ≡ false → bytes_of_bits (if b then B32 else B64) ≡ a
    four true e f g = sym (eqb-true a 4 e)
    four false e f g =
        let left : (a == 8) ≡ true = sym (ap (λ (b : Bool). b || ((a == 2) || ((a == 4) || (a == 8)))) f ∙ ap (λ (b : Bool). b || ((a == 4) || (a == 8))) g ∙ ap (λ (b : Bool). b || (a == 8)) e) ∙ is in
        sym (eqb-true a 8 left)

    two : (b : Bool) → (a == 2) ≡ b → (a == 1) ≡ false → bytes_of_bits (if b then B16 else (if a == 4 then B32 else B64)) ≡ a
    two true e f = sym (eqb-true a 2 e)
    two false e f = four (a == 4) refl f e

    one : (b : Bool) → (a == 1) ≡ b → bytes_of_bits (if b then B8 else (if a == 2 then B16 else (if a == 4 then B32 else B64))) ≡ a
    one true e = sym (eqb-true a 1 e)
    one false e = two (a == 2) refl e

module _ (frame : List ℕ) (lies : Lies frame forms) where
  abbrev fs : Fields
  fs = fields_in (payload_of frame)

  fits_so : (n : ℕ) → n ≡ length fs.content → n ≤ 488 → Fits frame 24 n
  fits_so n is short = record {
    short = omega (arith, short);
    behind = omega arith;
    inside = let inside = lies.inside in omega (arith, inside, is);
  }

  -- a message
  carries-message : (priority : ℕ) (content : List ℕ) → Reads fs (msg priority content) → Carries frame (source_of frame) priority None content
  carries-message priority content reads =
      let kind : (slice_index frame 18 == 1) ≡ true = sym (ap (λ (k : ℕ). k == 1) lies.kind) ∙ reads.0 in
      let kind_is : fs.kind ≡ 1 = eqb-true fs.kind 1 reads.0 in
      let long = ap length reads.2 in
      let short : length fs.content ≤ 488 = not_le _ 488 (sym (ap (λ k. allows (form_in k forms) (λ form. form.content fs)) kind_is) ∙ lies.allowed) in
      record {
        from = refl;
        says = ap (λ (b : Bool). if b then slice_index frame 19 else 0) kind ∙ sym lies.argument ∙ reads.1;
        on = ap (λ (b : Bool). if b then None else Some (number_at 20 4 frame)) kind;
        fits = fits_so (length content) (sym long) (omega (arith, short, long));
        content_is = ap (λ (n : ℕ). take n (drop 24 frame)) (sym long) ∙ sym lies.content ∙ reads.2;
      }

  -- an item of a channel
  module _ (k : ℕ) (other : (k == 1) ≡ false) (kind_is : fs.kind ≡ k) (n : ℕ) (channel_is : fs.channel ≡ n) where
    kind_so : (slice_index frame 18 == 1) ≡ false
    kind_so = ap (λ (x : ℕ). x == 1) (sym lies.kind ∙ kind_is) ∙ other

    carries-channel : (content : List ℕ) → content ≡ fs.content → length fs.content ≤ 488 → Carries frame (source_of frame) 0 (Some n) content
    carries-channel content is short =
        let long = ap length is in
        record {
          from = refl;
          says = ap (λ (b : Bool). if b then slice_index frame 19 else 0) kind_so;
          on = ap (λ (b : Bool). if b then None else Some (number_at 20 4 frame)) kind_so ∙ ap (λ (x : ℕ). Some x) (sym lies.channel ∙ channel_is);
          fits = fits_so (length content) long (omega (arith, short, long));
          content_is = ap (λ (x : ℕ). take x (drop 24 frame)) long ∙ sym lies.content ∙ sym is;
        }

  carries-packet : (n : ℕ) (content : List ℕ) → Reads fs (packet n content) → Carries frame (source_of frame) 0 (Some n) content
  carries-packet n content reads =
      let kind_is : fs.kind ≡ 7 = eqb-true fs.kind 7 reads.0 in
      carries-channel 7 refl kind_is n reads.1 content (sym reads.2) (not_le _ 488 (sym (ap (λ k. allows (form_in k forms) (λ form. form.content fs)) kind_is) ∙ lies.allowed))

  carries-scalar : AreBytes frame → (n : ℕ) (bits : Bits) (v : ℕ) → Reads fs (scalar n bits v) → Carries frame (source_of frame) 0 (Some n) (little_bytes (bytes_of_bits bits) v)
  carries-scalar bytes n bits v reads =
      let kind_is : fs.kind ≡ 8 = eqb-true fs.kind 8 reads.0 in
      let w = fs.argument in
      let long : length fs.content ≡ w = eqb-true (length fs.content) w (sym (ap (λ k. allows (form_in k forms) (λ form. form.content fs)) kind_is) ∙ lies.allowed) in
      let wide : a_width w ≡ true = sym (ap (λ k. allows (form_in k forms) (λ form. form.argument w)) kind_is) ∙ lies.argued in
      let back : bytes_of_bits bits ≡ w = ap bytes_of_bits (sym reads.2) ∙ width-back w wide in
      let lower : w ≤ 8 = width-most w wide in
      let inside = lies.inside in
      let behind = length-drop 24 frame in
      let number : v ≡ little_number w (drop 24 frame) = sym reads.3 ∙ ap (little_number w) (lies.content ∙ ap (λ (x : ℕ). take x (drop 24 frame)) long) ∙ little_from-take 0 w w (drop 24 frame) (omega arith) in
      let whole : little_bytes w (little_number w (drop 24 frame)) ≡ take w (drop 24 frame) = little_bytes-little_number w (drop 24 frame) (omega (arith, inside, behind, long)) (λ i. let at = get_or-drop 24 frame i 0 in let byte = bytes (24 + i) in omega (arith, at, byte)) in
      let is : little_bytes (bytes_of_bits bits) v ≡ fs.content = ap (λ (x : ℕ). little_bytes x v) back ∙ ap (little_bytes w) number ∙ whole ∙ sym (lies.content ∙ ap (λ (x : ℕ). take x (drop 24 frame)) long) in
      carries-channel 8 refl kind_is n reads.1 (little_bytes (bytes_of_bits bits) v) is (omega (arith, long, lower))
    where
      width-most : (a : ℕ) → a_width a ≡ true → a ≤ 8
      width-most a is = let same = width-back a is in bound (bits_of_bytes a) same
        where
          bound : (b : Bits) → bytes_of_bits b ≡ a → a ≤ 8
          bound B8 e = omega (arith, e)
          bound B16 e = omega (arith, e)
          bound B32 e = omega (arith, e)
          bound B64 e = omega (arith, e)

  -- the content is short, and a channel has a number
  short-letter : (l : PlainLetter) → Reads fs l → IsInBounds l
  short-letter (msg priority content) reads = (carries-message priority content reads).fits.short
  short-letter (packet n content) reads = (carries-packet n content reads).fits.short
  short-letter (connect n kind) reads =
      let kind_is : fs.kind ≡ 2 = eqb-true fs.kind 2 reads.0 in
      let some : not (fs.channel == 0) ≡ true = sym (ap (λ k. allows (form_in k forms) (λ form. form.channel fs.channel)) kind_is) ∙ lies.numbered in
      positive n (ap (λ (x : ℕ). not (x == 0)) (sym reads.1) ∙ some)
    where
      positive : (x : ℕ) → not (x == 0) ≡ true → 0 < x
      positive x e = grind arith
  short-letter other reads = tt

-- ---- a frame that says a letter

-- the frame has no fault, and this letter is in its fields
pub record SaysLetter (frame : List ℕ) (source : ℕ) (l : PlainLetter) : Type 0 where
  pub lies : Lies frame forms
  pub from : source_of frame ≡ source
  pub reads : Reads (fields_in (payload_of frame)) l

module _ (frame : List ℕ) (source destination : ℕ) (l : PlainLetter) where
  abbrev parsed : Fields
  parsed = fields_in (payload_of frame)

  abbrev said_by : Bool → Reading
  said_by in_parts = cond in_parts (brings (source_of frame) (destination_of frame) (piece_of parsed)) (says (source_of frame) (destination_of frame) (letter_of parsed))

  by_version : (b : Bool) → (parsed.version == 2) ≡ b → (destination_of frame == 53) ≡ false → fault frame ≡ None → says source destination l ≡ said_by b → SaysLetter frame source l
  by_version true v e none is = absurd cc
  by_version false v e none is =
      let from : source_of frame ≡ source = cc in
      let letter : letter_of parsed ≡ l = cc in
      record { lies = sound-lies frame none e false v; from = from; reads = letter-reads parsed l letter }

  by_destination : (b : Bool) → (destination_of frame == 53) ≡ b → fault frame ≡ None → says source destination l ≡ cond b (announced_in (payload_of frame)) (said_by (parsed.version == 2)) → SaysLetter frame source l
  by_destination true e none is = absurd cc
  by_destination false e none is = by_version (parsed.version == 2) refl e none is

  by_fault : (o : Option Fault) → fault frame ≡ o → says source destination l ≡ reading_by o frame → SaysLetter frame source l
  by_fault (Some f) e is = absurd cc
  by_fault None e is = by_destination (destination_of frame == 53) refl e is

  pub letter-read : says source destination l ≡ reading frame → SaysLetter frame source l
  unfolding reading
  letter-read is = by_fault (fault frame) refl is

  pub short-read : says source destination l ≡ reading frame → IsInBounds l
  short-read is = let r = letter-read is in short-letter frame r.lies l r.reads

-- it is the item in the frame
pub record CarriesItem (names : List ℕ) (frame : List ℕ) (peer : ℕ) (item : Item) : Type 0 where
  pub is : item ≡ framed_item names peer frame 24 (length item.content)
  pub fits : Fits frame 24 (length item.content)
  pub says : priority_of frame ≡ item.priority

carried : (names : List ℕ) (peer : ℕ) (frame : List ℕ) (source source' priority : ℕ) (channel : Option ℕ) (content : List ℕ) → source' ≡ source → Carries frame source' priority channel content → CarriesItem names frame peer (item_with names peer source priority channel content)
carried names peer frame source source' priority channel content from c = record {
  is =
      ap (λ s. item_with names peer s priority channel content) (sym (c.from ∙ from))
      ∙ ap (λ k. item_with names peer (source_of frame) k channel content) (sym c.says)
      ∙ ap (λ k. item_with names peer (source_of frame) (priority_of frame) k content) (sym c.on)
      ∙ ap (item_with names peer (source_of frame) (priority_of frame) (channel_of frame)) (sym c.content_is);
  fits = c.fits;
  says = c.says;
}

pub item-read : (came : Came) (peer : ℕ) (frame : List ℕ) → AreBytes frame → (source destination : ℕ) (l : PlainLetter) → says source destination l ≡ reading frame → IsItem l → CarriesItem came.names frame peer (taken.item_of peer came source l)
item-read came peer frame bytes source destination l is item = go l (letter-read frame source destination l is) item
  where
    go : (l : PlainLetter) → SaysLetter frame source l → IsItem l → CarriesItem came.names frame peer (taken.item_of peer came source l)
    go (msg priority content) r item = carried came.names peer frame source (source_of frame) priority None content r.from (carries-message frame r.lies priority content r.reads)
    go (packet n content) r item = carried came.names peer frame source (source_of frame) 0 (Some n) content r.from (carries-packet frame r.lies n content r.reads)
    go (scalar n bits v) r item = carried came.names peer frame source (source_of frame) 0 (Some n) (little_bytes (bytes_of_bits bits) v) r.from (carries-scalar frame r.lies bytes n bits v r.reads)
    go other r item = absurd item
