-- What is read of any frame that a domain puts, whatever its numbers: a letter is read with its own kind or has a fault, and an
-- announcement is read as one of its own address or has a fault. So no letter is taken for an announcement.
use Rattle.std.proofs.Common.{◌≡◌, ℕ, ◌+◌, ◌-◌, ◌≤◌, ◌<◌, ◌^◌, Bool, true, false, not, ◌&&◌, cond, inl, inr, List, [], ◌∷◌, ◌++◌, take, drop, length, replicate, Option, Some, None, refl, sym, ap, ◌∙◌, subst, arith, append_assoc, length-append}
use Rattle.std.specs.Prelude.{◌==◌, nat_lt, nat_le, take_while, option_map}
use Rattle.std.specs.List.{AllByRecursion}
use Rattle.std.proofs.Math.Seq.{drop-append_seam}
use Rattle.std.proofs.lemmas.List.{drop-drop, length-replicate}
use Rattle.std.proofs.lemmas.List.Sums.{take_while-cons}
use Rattle.std.proofs.lemmas.Bool.{le-ltb, lt-ltb, leb-true, leb-false, eqb-true, cases_Bool}
use Rattle.byteorder.specs.Endian.{little_bytes, little_number}
use Rattle.byteorder.specs.Numbers.{little_number-reads_back}
use Rattle.mc_base.specs.Bytes.{number_at}
use Rattle.mc_base.specs.Limits.{buffer_size, frame_header_size, name_service_address, announcement_size, creation_limit}
use Rattle.mc_base.specs.FaultRow.{FaultRow, first, first_fault, widened}
use Rattle.mc_base.specs.Frame.{made, source_of, destination_of, payload_of}
use Rattle.mc_base.specs.FullName.{end_name, full_name, is_in_range, endpoint_named}
use Rattle.mc_base.specs.Letter.{PlainLetter, msg, connect, accept, reject, recv_open, send_open, packet, scalar, send_close, recv_close, spelling, Fields, fields, fields_of, spelled, IsChannel, Piece, piece_spelling, Carrier, of_message, of_packet, carrier_fields}
use Rattle.mc_base.specs.LetterFaults.{letter_faults, fields_in}
use Rattle.mc_base.specs.Announcement.{announcement, announcement_faults, flags_of, is_name, name_in}
use Rattle.mc_base.specs.Fault.{faults, fault}
use Rattle.mc_base.specs.declared.name.EndName.{EndName}
use Rattle.mc_base.specs.declared.channel.Reason.{Reason}
use Rattle.mc_base.specs.declared.fault.Fault.{Fault}
use Rattle.mc_base.specs.declared.fault.Fault.TheVariants as of
use Rattle.mc_base.specs.declared.fault.FrameFault.TheVariants.{FrameLong}
use Rattle.mc_base.specs.Reading.{Reading, is_faulty, announces, says, reading, reading_by, announced_in, letter_of, brings, piece_of, said_in}
use Rattle.mc_base.proofs.FullNames.{read_back}
use Rattle.mc_base.proofs.NameFields.{full-name-read}
use Rattle.board_model.specs.State.{Announcement, Reply, announcing, letter_by, replying}
use Rattle.board_model.specs.Honesty.{IsMade}
use Rattle.board_model.specs.Messages.{said_by}
use Rattle.board_model.proofs.HonestReads.{payload_back, source_back, destination_back}

-- ---- where there is no fault no row stands

none_here : {F : Type 0} (P : Type 0) (b : Bool) (r : FaultRow F) (o : Option (FaultRow F)) → (option_map (λ x. x.fault) o ≡ None → P) → option_map (λ x. x.fault) (cond b (Some r) o) ≡ None → (b ≡ false) × P
none_here P true r o rest none = absurd cc
none_here P false r o rest none = (refl, rest none)

none_stands : {F : Type 0} (rows : List (FaultRow F)) → first_fault rows ≡ None → AllByRecursion (λ r. r.stands ≡ false) rows
none_stands [] none = tt
none_stands (r ∷ rs) none = none_here (AllByRecursion (λ x. x.stands ≡ false) rs) r.stands r (first rs) (λ e. none_stands rs e) none

ns_rows : (b : Bool) (ns letters : List (FaultRow Fault)) → b ≡ true → AllByRecursion (λ r. r.stands ≡ false) (cond b ns letters) → AllByRecursion (λ r. r.stands ≡ false) ns
ns_rows true ns letters is all = all
ns_rows false ns letters is all = absurd cc

-- a sound announcement's payload
record SoundName (payload : List ℕ) : Type 0 where
  whole : not (length payload == announcement_size) ≡ false
  named : not (is_name (name_in payload)) ≡ false

sound_name : (frame : List ℕ) → fault frame ≡ None → (destination_of frame == name_service_address) ≡ true → SoundName (payload_of frame)
sound_name frame none to_names =
    let all : AllByRecursion (λ r. r.stands ≡ false) (faults frame) = none_stands (faults frame) none in
    let ns : AllByRecursion (λ r. r.stands ≡ false) (widened of.Ns (announcement_faults (payload_of frame)))
    = ns_rows (destination_of frame == name_service_address) (widened of.Ns (announcement_faults (payload_of frame))) (widened of.Letter (letter_faults (payload_of frame))) to_names all.1.1.1 in
    record { whole = ns.0; named = ns.1.1.0 }

too_long : (src dst : ℕ) (payload : List ℕ) → 496 < length payload → fault (made src dst payload) ≡ Some (of.Frame FrameLong)
too_long src dst payload long =
    let size : length (made src dst payload) ≡ 16 + length payload = omega arith in
    long_is (made src dst payload) (le-ltb (length (made src dst payload)) frame_header_size (omega arith)) (lt-ltb buffer_size (length (made src dst payload)) (omega arith))
  where
    long_is : (frame : List ℕ) → nat_lt (length frame) frame_header_size ≡ false → nat_lt buffer_size (length frame) ≡ true → fault frame ≡ Some (of.Frame FrameLong)
    long_is frame whole over = rw (whole, over) refl

-- ---- letters

-- a letter's version is no byte of a name
not_a_name : (rest : List ℕ) → is_name (name_in (0x4d ∷ 1 ∷ rest)) ≡ false
not_a_name rest =
    let more : ℕ → Bool = λ b. not (b == 0) in
    let begins : name_in (0x4d ∷ 1 ∷ rest) ≡ 0x4d ∷ 1 ∷ take_while more (take 29 rest)
    = take_while-cons more 0x4d (1 ∷ take 29 rest) ∙ ap (λ (bs : List ℕ). 0x4d ∷ bs) (take_while-cons more 1 (take 29 rest)) in
    ap is_name begins ∙ never (nat_lt 0 (length (0x4d ∷ 1 ∷ take_while more (take 29 rest))))
  where
    never : (b : Bool) → b && false ≡ false
    never true = refl
    never false = refl

pub data MadeReads (src : ℕ) (f : Fields) : Reading → Type 0 where
  made_faulty : (w : Fault) → MadeReads src f (is_faulty w)
  made_letter : (s d m : ℕ) → (src < 2 ^ 32 → s ≡ src) → (f.channel < 2 ^ 32 → m ≡ f.channel) → MadeReads src f (says s d (letter_of (fields f.version f.kind f.argument m f.content)))

module _ (src dst : ℕ) (f : Fields) (first : f.version ≡ 1) where
  abbrev letter_frame : List ℕ
  letter_frame = made src dst (spelled f)

  -- what it says where it has no fault
  abbrev said_of : Bool → Reading
  said_of b = cond b (announced_in (payload_of letter_frame)) (said_in (source_of letter_frame) (destination_of letter_frame) (fields_in (payload_of letter_frame)))

  whole_letter : payload_of letter_frame ≡ spelled f → fault letter_frame ≡ None → (b : Bool) → (destination_of letter_frame == name_service_address) ≡ b → MadeReads src f (said_of b)
  whole_letter back none true to_names =
      let no_name : not (is_name (name_in (payload_of letter_frame))) ≡ true
      = ap (λ p. not (is_name (name_in p))) back ∙ (ap (λ v. not (is_name (name_in (0x4d ∷ v ∷ f.kind ∷ f.argument ∷ (little_bytes 4 f.channel ++ f.content))))) first ∙ ap not (not_a_name (f.kind ∷ f.argument ∷ (little_bytes 4 f.channel ++ f.content)))) in
      let a_name = (sound_name letter_frame none to_names).named in
      absurd cc
  whole_letter back none false to_names = subst (λ p. MadeReads src f (said_in (source_of letter_frame) (destination_of letter_frame) (fields_in p))) (sym back)
      (subst (λ k. MadeReads src f (cond k (brings (source_of letter_frame) (destination_of letter_frame) (piece_of (fields_in (spelled f)))) (says (source_of letter_frame) (destination_of letter_frame) (letter_of (fields_in (spelled f)))))) (sym (ap (λ v. v == 2) first))
      (made_letter (source_of letter_frame) (destination_of letter_frame) (number_at 4 4 (spelled f)) (λ fits. source_back src dst (spelled f) fits) (λ fits. little_number-reads_back 4 f.channel f.content fits)))

  by_fault : payload_of letter_frame ≡ spelled f → (x : Option Fault) → fault letter_frame ≡ x → MadeReads src f (reading_by x letter_frame)
  by_fault back (Some w) is = made_faulty w
  by_fault back None is = whole_letter back is (destination_of letter_frame == name_service_address) refl

  pub reads_made : MadeReads src f (reading (made src dst (spelled f)))
  unfolding reading
  reads_made = elim (cases_Bool (nat_le (length (spelled f)) 496)) [
    | inl short ↦ by_fault (payload_back src dst (spelled f) (leb-true (length (spelled f)) 496 short)) (fault letter_frame) refl
    | inr long ↦ subst (λ x. MadeReads src f (reading_by x letter_frame)) (sym (too_long src dst (spelled f) (leb-false (length (spelled f)) 496 long))) (made_faulty _)
  ]

-- ---- parts

not_a_name_so : (rest : List ℕ) → is_name (name_in (0x4d ∷ 2 ∷ rest)) ≡ false
not_a_name_so rest =
    let more : ℕ → Bool = λ b. not (b == 0) in
    let begins : name_in (0x4d ∷ 2 ∷ rest) ≡ 0x4d ∷ 2 ∷ take_while more (take 29 rest)
    = take_while-cons more 0x4d (2 ∷ take 29 rest) ∙ ap (λ (bs : List ℕ). 0x4d ∷ bs) (take_while-cons more 2 (take 29 rest)) in
    ap is_name begins ∙ never (nat_lt 0 (length (0x4d ∷ 2 ∷ take_while more (take 29 rest))))
  where
    never : (b : Bool) → b && false ≡ false
    never true = refl
    never false = refl

-- a frame of a part is read as one, or has a fault
pub data MadePart : Reading → Type 0 where
  part_faulty : (w : Fault) → MadePart (is_faulty w)
  part_brings : (s d : ℕ) (q : Piece) → MadePart (brings s d q)

module _ (src dst : ℕ) (f : Fields) (second : f.version ≡ 2) where
  abbrev part_frame : List ℕ
  part_frame = made src dst (spelled f)

  whole_part : payload_of part_frame ≡ spelled f → fault part_frame ≡ None → (b : Bool) → (destination_of part_frame == name_service_address) ≡ b → MadePart (cond b (announced_in (payload_of part_frame)) (said_in (source_of part_frame) (destination_of part_frame) (fields_in (payload_of part_frame))))
  whole_part back none true to_names =
      let no_name : not (is_name (name_in (payload_of part_frame))) ≡ true
      = ap (λ p. not (is_name (name_in p))) back ∙ (ap (λ v. not (is_name (name_in (0x4d ∷ v ∷ f.kind ∷ f.argument ∷ (little_bytes 4 f.channel ++ f.content))))) second ∙ ap not (not_a_name_so (f.kind ∷ f.argument ∷ (little_bytes 4 f.channel ++ f.content)))) in
      let a_name = (sound_name part_frame none to_names).named in
      absurd cc
  whole_part back none false to_names = subst (λ p. MadePart (said_in (source_of part_frame) (destination_of part_frame) (fields_in p))) (sym back)
      (subst (λ k. MadePart (cond k (brings (source_of part_frame) (destination_of part_frame) (piece_of (fields_in (spelled f)))) (says (source_of part_frame) (destination_of part_frame) (letter_of (fields_in (spelled f)))))) (sym (ap (λ v. v == 2) second))
      (part_brings (source_of part_frame) (destination_of part_frame) (piece_of (fields_in (spelled f)))))

  part_by_fault : payload_of part_frame ≡ spelled f → (x : Option Fault) → fault part_frame ≡ x → MadePart (reading_by x part_frame)
  part_by_fault back (Some w) is = part_faulty w
  part_by_fault back None is = whole_part back is (destination_of part_frame == name_service_address) refl

  fields_made : MadePart (reading (made src dst (spelled f)))
  unfolding reading
  fields_made = elim (cases_Bool (nat_le (length (spelled f)) 496)) [
    | inl short ↦ part_by_fault (payload_back src dst (spelled f) (leb-true (length (spelled f)) 496 short)) (fault part_frame) refl
    | inr long ↦ subst (λ x. MadePart (reading_by x part_frame)) (sym (too_long src dst (spelled f) (leb-false (length (spelled f)) 496 long))) (part_faulty _)
  ]

pub part_made : (src dst : ℕ) (p : Piece) → MadePart (reading (made src dst (piece_spelling p)))
part_made src dst p = go p.carrier
  where
    go : (k : Carrier) → MadePart (reading (made src dst (spelled (carrier_fields k (little_bytes 2 p.total ++ (little_bytes 2 p.offset ++ p.content))))))
    go (of_message priority) = fields_made src dst (carrier_fields (of_message priority) (little_bytes 2 p.total ++ (little_bytes 2 p.offset ++ p.content))) refl
    go (of_packet n) = fields_made src dst (carrier_fields (of_packet n) (little_bytes 2 p.total ++ (little_bytes 2 p.offset ++ p.content))) refl

-- ---- announcements

pub data Tells (d : ℕ) (a : Announcement) : Reading → Type 0 where
  tells_faulty : (w : Fault) → Tells d a (is_faulty w)
  tells_name : (name : List ℕ) (m : ℕ) (create : Bool) → (a.address < 2 ^ 32 → m ≡ a.address) → (is_in_range (end_name d a.local) ≡ true → name ≡ full_name (end_name d a.local)) → create ≡ a.create → Tells d a (announces name m create)

-- what stands behind a name's field
behind_field : (name rest : List ℕ) → length name ≤ 32 → drop 32 (name ++ (replicate (32 - length name) 0 ++ rest)) ≡ rest
behind_field name rest short =
    let field : List ℕ = name ++ replicate (32 - length name) 0 in
    let long : length field ≡ 32 = omega (arith, length-append name (replicate (32 - length name) 0), length-replicate {A = ℕ} (32 - length name) 0) in
    ap (drop 32) (sym (append_assoc name (replicate (32 - length name) 0) rest)) ∙ (ap (λ n. drop n (field ++ rest)) (sym long) ∙ drop-append_seam field rest)

announcement_length : (name : List ℕ) (address : ℕ) (create : Bool) → length (announcement name address create) ≡ length name + (32 - length name) + 8
announcement_length name address create =
    let numbers : List ℕ = little_bytes 4 address ++ little_bytes 4 (flags_of create) in
    omega (arith, length-append name (replicate (32 - length name) 0 ++ numbers), length-append (replicate (32 - length name) 0) numbers, length-replicate {A = ℕ} (32 - length name) 0)

not_false : (b : Bool) → not b ≡ false → b ≡ true
not_false true h = refl
not_false false h = absurd cc

module _ (d : ℕ) (a : Announcement) where
  abbrev name : List ℕ
  name = full_name (end_name d a.local)

  abbrev payload : List ℕ
  payload = announcement name a.address a.create

  abbrev frame : List ℕ
  frame = announcing d a

  flags_fit : (create : Bool) → flags_of create < 256 ^ 4
  flags_fit true = omega arith
  flags_fit false = omega arith

  flags_say : (create : Bool) → (flags_of create == flags_of true) ≡ create
  flags_say true = refl
  flags_say false = refl

  -- the flags say what the announcement says
  flagged : length name ≤ 32 → (number_at 36 4 payload == flags_of true) ≡ a.create
  flagged short =
      let numbers : List ℕ = little_bytes 4 a.address ++ little_bytes 4 (flags_of a.create) in
      let flags : number_at 36 4 payload ≡ flags_of a.create
      = ap (little_number 4) (sym (drop-drop 4 32 payload) ∙ ap (drop 4) (behind_field name numbers short)) ∙ little_number-reads_back 4 (flags_of a.create) [] (flags_fit a.create) in
      ap (λ n. n == flags_of true) flags ∙ flags_say a.create

  whole_name : payload_of frame ≡ payload → fault frame ≡ None → (destination_of frame == name_service_address) ≡ true → Tells d a (announced_in (payload_of frame))
  whole_name back none here =
      let size : length payload ≡ 40 = sym (ap (λ (p : List ℕ). length p) back) ∙ eqb-true (length (payload_of frame)) announcement_size (not_false _ (sound_name frame none here).whole) in
      let short : length name ≤ 32 = omega (arith, size, announcement_length name a.address a.create) in
      subst (λ p. Tells d a (announced_in p)) (sym back)
      (tells_name (name_in payload) (number_at 32 4 payload) _
      (λ fits. ap (λ p. number_at 0 4 p) (behind_field name (little_bytes 4 a.address ++ little_bytes 4 (flags_of a.create)) short) ∙ little_number-reads_back 4 a.address (little_bytes 4 (flags_of a.create)) fits)
      (λ ranged. full-name-read (end_name d a.local) (little_bytes 4 a.address ++ little_bytes 4 (flags_of a.create)) ranged)
      (flagged short))

  to_names : (destination_of frame == name_service_address) ≡ true
  to_names = ap (λ k. k == name_service_address) (destination_back a.address name_service_address payload (omega arith))

  by_fault_of : payload_of frame ≡ payload → (x : Option Fault) → fault frame ≡ x → Tells d a (reading_by x frame)
  by_fault_of back (Some w) is = tells_faulty w
  by_fault_of back None is =
      subst (λ b. Tells d a (cond b (announced_in (payload_of frame)) (said_in (source_of frame) (destination_of frame) (fields_in (payload_of frame))))) (sym to_names) (whole_name back is to_names)

  pub tells_made : Tells d a (reading (announcing d a))
  unfolding reading
  tells_made = elim (cases_Bool (nat_le (length payload) 496)) [
    | inl short ↦ by_fault_of (payload_back a.address name_service_address payload (leb-true (length payload) 496 short)) (fault frame) refl
    | inr long ↦ subst (λ x. Tells d a (reading_by x frame)) (sym (too_long a.address name_service_address payload (leb-false (length payload) 496 long))) (tells_faulty _)
  ]

-- ---- what is put is honest: an announcement has an address of an endpoint of the domain, and a Connect comes from one, with the
-- number of a channel

abbrev pub HonestLetter : ℕ → ℕ → PlainLetter → Type 0
HonestLetter endpoints src (connect m kind) = IsMade endpoints src × IsChannel m
HonestLetter endpoints src other = Unit {0}

abbrev pub Honest : ℕ → Reading → Type 0
Honest endpoints (is_faulty w) = Unit {0}
Honest endpoints (announces text a create) = IsMade endpoints a
Honest endpoints (says src dst l) = HonestLetter endpoints src l
Honest endpoints (brings src dst q) = Unit {0}

pub first_version : (l : PlainLetter) → (fields_of l).version ≡ 1
first_version (msg priority bytes) = refl
first_version (connect m kind) = refl
first_version (accept m) = refl
first_version (reject m why) = refl
first_version (recv_open m) = refl
first_version (send_open m) = refl
first_version (packet m bytes) = refl
first_version (scalar m bits value) = refl
first_version (send_close m) = refl
first_version (recv_close m) = refl

small_made : (endpoints a : ℕ) → endpoints ≤ creation_limit → IsMade endpoints a → a < 2 ^ 32
small_made endpoints a few is = let below : a < 1024 + endpoints = is.below in omega arith

pub letter_honest : (endpoints a b : ℕ) (l : PlainLetter) → endpoints ≤ creation_limit → HonestLetter endpoints a l → Honest endpoints (reading (made a b (spelling l)))
letter_honest endpoints a b l few is = go (reading (made a b (spelling l))) (reads_made a b (fields_of l) (first_version l))
  where
    fields_honest : (k : PlainLetter) → HonestLetter endpoints a k → (s m : ℕ) → (a < 2 ^ 32 → s ≡ a) → ((fields_of k).channel < 2 ^ 32 → m ≡ (fields_of k).channel) →
        HonestLetter endpoints s (letter_of (fields (fields_of k).version (fields_of k).kind (fields_of k).argument m (fields_of k).content))
    fields_honest (connect n kind) k s m from number = (subst (IsMade endpoints) (sym (from (small_made endpoints a few k.0))) k.0, subst IsChannel (sym (number k.1.1)) k.1)
    fields_honest other k s m from number = tt

    go : (r : Reading) → MadeReads a (fields_of l) r → Honest endpoints r
    go r (made_faulty w) = tt
    go r (made_letter s d m from number) = fields_honest l is s m from number

pub announcing_honest : (endpoints d : ℕ) (a : Announcement) → endpoints ≤ creation_limit → IsMade endpoints a.address → Honest endpoints (reading (announcing d a))
announcing_honest endpoints d a few is = go (reading (announcing d a)) (tells_made d a)
  where
    go : (r : Reading) → Tells d a r → Honest endpoints r
    go r (tells_faulty w) = tt
    go r (tells_name bytes m create same named says_so) = subst (IsMade endpoints) (sym (same (small_made endpoints a.address few is))) is

-- it is no message
pub announcing_silent : (sender receiver d : ℕ) (a : Announcement) → said_by sender receiver (reading (announcing d a)) ≡ []
announcing_silent sender receiver d a = go (reading (announcing d a)) (tells_made d a)
  where
    go : (r : Reading) → Tells d a r → said_by sender receiver r ≡ []
    go r (tells_faulty w) = refl
    go r (tells_name bytes m create same named says_so) = refl

-- ---- what is announced of a name is so: it is an endpoint's, which has or had the address

abbrev pub Truthful : (EndName → ℕ → Type 0) → Reading → Type 0
Truthful had (announces text x true) = (n : EndName) → endpoint_named text ≡ Some n → had n x
Truthful had other = Unit {0}

pub announcing_truthful : (had : EndName → ℕ → Type 0) → ((n : EndName) (x : ℕ) → had n x → (is_in_range n ≡ true) × (x < 2 ^ 32)) → (d : ℕ) (a : Announcement) → (a.create ≡ true → had (end_name d a.local) a.address) → Truthful had (reading (announcing d a))
announcing_truthful had fits d a so = go (reading (announcing d a)) (tells_made d a)
  where
    go : (r : Reading) → Tells d a r → Truthful had r
    go r (tells_faulty w) = tt
    go r (tells_name text m true same named created) = λ n is.
        let its : had (end_name d a.local) a.address = so (sym created) in
        let in_range = fits (end_name d a.local) a.address its in
        let text_is : text ≡ full_name (end_name d a.local) = named in_range.0 in
        let read : Some (end_name d a.local) ≡ Some n = sym (read_back (end_name d a.local) in_range.0) ∙ (ap endpoint_named (sym text_is) ∙ is) in
        let name_is : end_name d a.local ≡ n = cc in
        subst (λ k. had k m) name_is (subst (had (end_name d a.local)) (sym (same in_range.1)) its)
    go r (tells_name text m false same named created) = tt

-- a letter announces nothing, and so does a reply
pub letter_truthful : (had : EndName → ℕ → Type 0) (a b : ℕ) (l : PlainLetter) → Truthful had (reading (made a b (spelling l)))
letter_truthful had a b l = go (reading (made a b (spelling l))) (reads_made a b (fields_of l) (first_version l))
  where
    go : (r : Reading) → MadeReads a (fields_of l) r → Truthful had r
    go r (made_faulty w) = tt
    go r (made_letter s d m from number) = tt

-- a letter of another kind is none either
abbrev pub IsSilent : PlainLetter → Type 0
IsSilent (msg priority bytes) = ⊥
IsSilent other = Unit {0}

pub letter_silent : (sender receiver a b : ℕ) (l : PlainLetter) → IsSilent l → said_by sender receiver (reading (made a b (spelling l))) ≡ []
letter_silent sender receiver a b l silent = go (reading (made a b (spelling l))) (reads_made a b (fields_of l) (first_version l))
  where
    fields_silent : (k : PlainLetter) → IsSilent k → (s d m : ℕ) → said_by sender receiver (says s d (letter_of (fields (fields_of k).version (fields_of k).kind (fields_of k).argument m (fields_of k).content))) ≡ []
    fields_silent (msg priority bytes) is s d m = absurd is
    fields_silent other is s d m = refl

    go : (r : Reading) → MadeReads a (fields_of l) r → said_by sender receiver r ≡ []
    go r (made_faulty w) = refl
    go r (made_letter s d m from number) = fields_silent l silent s d m

-- ---- a reply is read as one, or has a fault

abbrev pub IsReply : Reading → Type 0
IsReply (is_faulty w) = Unit {0}
IsReply (says src dst (accept m)) = Unit {0}
IsReply (says src dst (reject m why)) = Unit {0}
IsReply other = ⊥

pub replying_replies : (r : Reply) → IsReply (reading (replying r))
replying_replies r = go r.reason
  where
    by : (o : Option Reason) (x : Reading) → MadeReads r.source (fields_of (letter_by r.channel o)) x → IsReply x
    by o x (made_faulty w) = tt
    by None x (made_letter s d m from number) = tt
    by (Some why) x (made_letter s d m from number) = tt

    go : (o : Option Reason) → IsReply (reading (made r.source r.destination (spelling (letter_by r.channel o))))
    go o = by o (reading (made r.source r.destination (spelling (letter_by r.channel o)))) (reads_made r.source r.destination (fields_of (letter_by r.channel o)) (first_version (letter_by r.channel o)))

pub reply_honest : (endpoints : ℕ) (r : Reading) → IsReply r → Honest endpoints r
reply_honest endpoints (is_faulty w) is = tt
reply_honest endpoints (announces text a create) is = absurd is
reply_honest endpoints (brings src dst q) is = absurd is
reply_honest endpoints (says src dst (accept m)) is = tt
reply_honest endpoints (says src dst (reject m why)) is = tt
reply_honest endpoints (says src dst other) is = absurd is

pub reply_truthful : (had : EndName → ℕ → Type 0) (r : Reading) → IsReply r → Truthful had r
reply_truthful had (is_faulty w) is = tt
reply_truthful had (announces text a create) is = absurd is
reply_truthful had (brings src dst q) is = absurd is
reply_truthful had (says src dst l) is = tt

pub reply_silent : (sender receiver : ℕ) (r : Reading) → IsReply r → said_by sender receiver r ≡ []
reply_silent sender receiver (is_faulty w) is = refl
reply_silent sender receiver (announces text a create) is = refl
reply_silent sender receiver (brings src dst q) is = refl
reply_silent sender receiver (says src dst (accept m)) is = refl
reply_silent sender receiver (says src dst (reject m why)) is = refl
reply_silent sender receiver (says src dst other) is = absurd is
