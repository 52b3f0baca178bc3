-- The frames of a letter: they leave no part open, and together they say the letter.
use Rattle.board_model.specs.Answer.{Post, put_as, puts_of}
use Rattle.std.proofs.lemmas.Simd.{map-map}
use Rattle.std.proofs.Common.{◌≡◌, ℕ, zero, suc, ◌+◌, ◌-◌, ◌*◌, ◌/◌, ◌≤◌, ◌<◌, ◌^◌, arith, inl, inr, false, cond, List, [], ◌∷◌, ◌++◌, length, map, None, refl, sym, ap, ◌∙◌, subst, take, drop}
use Rattle.std.specs.Prelude.{nat_le}
use Rattle.std.specs.List.{AllByRecursion, flat_map}
use Rattle.std.proofs.lemmas.Bool.{cases_Bool, cond_both, leb-true, leb-false}
use Rattle.std.proofs.lemmas.List.{append-nil}
use Rattle.mc_base.specs.Limits.{single_size, item_size, piece_size}
use Rattle.mc_base.specs.Frame.{made}
use Rattle.mc_base.specs.Letter.{PlainLetter, msg, connect, accept, reject, recv_open, send_open, packet, scalar, send_close, recv_close, spelling, HasSpelling, IsChannel, Carrier, of_message, of_packet, carried, IsCarrier, Piece, piece, piece_spelling}
use Rattle.mc_base.specs.Pieces.{parts_from, parts_count, parts_of, item_spellings, spellings}
use Rattle.mc_base.specs.Reading.{Reading, is_faulty, says, brings, reading}
use Rattle.mc_base.specs.declared.fault.Fault.{Fault}
use Rattle.board_model.specs.Parts.{readings}
use Rattle.board_model.proofs.HonestReads.{letter_back, part_back}
use Rattle.board_model.proofs.HonestFrames.{MadePart, part_faulty, part_brings, part_made}
use Rattle.board_model.proofs.PartReadings.{Fits, is_part, Closed, plain-closed, plain-said, parts_said}

abbrev pub letter_frames : ℕ → ℕ → PlainLetter → List (List ℕ)
letter_frames a b l = map (made a b) (spellings l)

-- frames say this letter and, before it, parts alone
pub record FramesSaid (a b : ℕ) (l : PlainLetter) (fs : List (List ℕ)) : Type 0 where
  pub closed : Closed fs
  pub parts : List Piece
  pub are : readings None fs ≡ map (brings a b) parts ++ says a b l ∷ []

-- the letters that a domain puts
abbrev pub CanGo : PlainLetter → Type 0
CanGo (msg priority bytes) = (priority ≤ 3) × (length bytes ≤ item_size)
CanGo (packet channel bytes) = IsChannel channel × (length bytes ≤ item_size)
CanGo other = HasSpelling other

one_said : (a b : ℕ) (l : PlainLetter) → reading (made a b (spelling l)) ≡ says a b l → FramesSaid a b l (made a b (spelling l) ∷ [])
one_said a b l read =
    let plain : is_part (reading (made a b (spelling l))) ≡ false = ap is_part read in
    record { closed = plain-closed (made a b (spelling l)) plain; parts = []; are = plain-said (made a b (spelling l)) plain ∙ ap (λ r. r ∷ []) read }

-- how many parts the bytes need
record Needs (n : ℕ) : Type 0 where
  more : ℕ
  is : parts_count n ≡ suc more
  fits : Fits 484 more n

all_fit : (more n : ℕ) → 484 * more < n → n ≤ 484 * more + 484 → Fits 484 more n
all_fit zero n above below = (omega arith, omega arith)
all_fit (suc more) n above below = (omega arith, all_fit more (n - 484) (omega arith) (omega arith))

needs : (n : ℕ) → 0 < n → Needs n
needs n some = record { more = (n - 1) / 484; is = omega arith; fits = all_fit ((n - 1) / 484) n (omega arith) (omega arith) }

module _ (a b : ℕ) (from : a < 2 ^ 32) (above : 1024 ≤ b) (below : b < 2 ^ 32) where
  parts_are : (k : Carrier) → IsCarrier k → (bytes : List ℕ) → 0 < length bytes → length bytes ≤ 8192 → FramesSaid a b (carried k bytes) (map (made a b) (map piece_spelling (parts_of k bytes)))
  parts_are k is bytes some most =
      let n : ℕ = length bytes in
      let count = needs n some in
      let frame_of : Piece → List ℕ = λ q. made a b (piece_spelling q) in
      let said = parts_said 484 (omega arith) a b k n frame_of (λ o part some_here short within. part_back n o part within some_here most a b k is short from above below) count.more None [] bytes refl (omega arith) count.fits in
      subst (FramesSaid a b (carried k bytes)) (sym (map-map (made a b) piece_spelling (parts_of k bytes)))
      (subst (λ c. FramesSaid a b (carried k bytes) (map frame_of (parts_from 484 k n c 0 bytes))) (sym count.is)
      (record { closed = record { smooth = said.smooth; ends = said.ends }; parts = said.parts; are = said.are }))

  item_said : (k : Carrier) → IsCarrier k → (bytes : List ℕ) → length bytes ≤ 8192 → (length bytes ≤ 488 → HasSpelling (carried k bytes)) → FramesSaid a b (carried k bytes) (map (made a b) (item_spellings k bytes))
  item_said k is bytes most has = elim (cases_Bool (nat_le (length bytes) single_size)) [
    | inl short ↦
        subst (λ c. FramesSaid a b (carried k bytes) (map (made a b) (cond c (spelling (carried k bytes) ∷ []) (map piece_spelling (parts_of k bytes))))) (sym short)
        (one_said a b (carried k bytes) (letter_back a b (carried k bytes) (has (leb-true (length bytes) single_size short)) from above below))
    | inr long ↦
        let more : 488 < length bytes = leb-false (length bytes) single_size long in
        subst (λ c. FramesSaid a b (carried k bytes) (map (made a b) (cond c (spelling (carried k bytes) ∷ []) (map piece_spelling (parts_of k bytes))))) (sym long)
        (parts_are k is bytes (omega arith) most)
  ]

  pub letter_said : (l : PlainLetter) → CanGo l → FramesSaid a b l (letter_frames a b l)
  letter_said (msg priority bytes) has = item_said (of_message priority) has.0 bytes has.1 (λ short. (has.0, short))
  letter_said (packet n bytes) has = item_said (of_packet n) has.0 bytes has.1 (λ short. (has.0, short))
  letter_said (connect n kind) has = one_said a b (connect n kind) (letter_back a b (connect n kind) has from above below)
  letter_said (accept n) has = one_said a b (accept n) (letter_back a b (accept n) has from above below)
  letter_said (reject n why) has = one_said a b (reject n why) (letter_back a b (reject n why) has from above below)
  letter_said (recv_open n) has = one_said a b (recv_open n) (letter_back a b (recv_open n) has from above below)
  letter_said (send_open n) has = one_said a b (send_open n) (letter_back a b (send_open n) has from above below)
  letter_said (scalar n bits value) has = one_said a b (scalar n bits value) (letter_back a b (scalar n bits value) has from above below)
  letter_said (send_close n) has = one_said a b (send_close n) (letter_back a b (send_close n) has from above below)
  letter_said (recv_close n) has = one_said a b (recv_close n) (letter_back a b (recv_close n) has from above below)

-- what passes over parts finds the letter alone
pub said-once : {X : Type 0} (f : Reading → List X) → ((s d : ℕ) (q : Piece) → f (brings s d q) ≡ []) → (a b : ℕ) (l : PlainLetter) (fs : List (List ℕ)) → FramesSaid a b l fs → flat_map f (readings None fs) ≡ f (says a b l)
said-once f none a b l fs said = ap (flat_map f) said.are ∙ pass said.parts
  where
    pass : (ps : List Piece) → flat_map f (map (brings a b) ps ++ says a b l ∷ []) ≡ f (says a b l)
    pass [] = append-nil (f (says a b l))
    pass (p ∷ ps) = ap (λ xs. xs ++ flat_map f (map (brings a b) ps ++ says a b l ∷ [])) (none a b p) ∙ pass ps

-- ---- what each frame of a letter says alone, whatever its numbers

module _ (P : Reading → Type 0) (a b : ℕ) (l : PlainLetter) (letter : P (reading (made a b (spelling l)))) (faulty : (f : Fault) → P (is_faulty f)) (part : (s d : ℕ) (q : Piece) → P (brings s d q)) where
  abbrev Each : List (List ℕ) → Type 0
  Each payloads = AllByRecursion (λ f. P (reading f)) (map (made a b) payloads)

  of_part : (r : Reading) → MadePart r → P r
  of_part r (part_faulty w) = faulty w
  of_part r (part_brings s d q) = part s d q

  part_frames : (ps : List Piece) → Each (map piece_spelling ps)
  part_frames [] = tt
  part_frames (p ∷ ps) = (of_part (reading (made a b (piece_spelling p))) (part_made a b p), part_frames ps)

  item_frames : (k : Carrier) (bytes : List ℕ) → carried k bytes ≡ l → Each (item_spellings k bytes)
  item_frames k bytes is = cond_both (nat_le (length bytes) single_size) (spelling (carried k bytes) ∷ []) (map piece_spelling (parts_of k bytes)) Each (λ e. (subst (λ x. P (reading (made a b (spelling x)))) (sym is) letter, tt)) (λ e. part_frames (parts_of k bytes))

  frames_of : (x : PlainLetter) → x ≡ l → Each (spellings x)
  frames_of (msg priority bytes) is = item_frames (of_message priority) bytes is
  frames_of (packet n bytes) is = item_frames (of_packet n) bytes is
  frames_of (connect n kind) is = (subst (λ x. P (reading (made a b (spelling x)))) (sym is) letter, tt)
  frames_of (accept n) is = (subst (λ x. P (reading (made a b (spelling x)))) (sym is) letter, tt)
  frames_of (reject n why) is = (subst (λ x. P (reading (made a b (spelling x)))) (sym is) letter, tt)
  frames_of (recv_open n) is = (subst (λ x. P (reading (made a b (spelling x)))) (sym is) letter, tt)
  frames_of (send_open n) is = (subst (λ x. P (reading (made a b (spelling x)))) (sym is) letter, tt)
  frames_of (scalar n bits value) is = (subst (λ x. P (reading (made a b (spelling x)))) (sym is) letter, tt)
  frames_of (send_close n) is = (subst (λ x. P (reading (made a b (spelling x)))) (sym is) letter, tt)
  frames_of (recv_close n) is = (subst (λ x. P (reading (made a b (spelling x)))) (sym is) letter, tt)

  pub each-frame : AllByRecursion (λ f. P (reading f)) (letter_frames a b l)
  each-frame = frames_of l refl

-- and of the frames that a letter puts
pub each-put : (P : List ℕ → Type 0) (x : Post) → AllByRecursion P (letter_frames x.source x.destination x.letter) → AllByRecursion (λ (q : ℕ × List ℕ). P q.1) (puts_of x)
each-put P x all = go (spellings x.letter) all
  where
    go : (ps : List (List ℕ)) → AllByRecursion P (map (made x.source x.destination) ps) → AllByRecursion (λ (q : ℕ × List ℕ). P q.1) (map (put_as x) ps)
    go [] each = tt
    go (p ∷ ps) each = (each.0, go ps each.1)

-- there is at least one
pub record Some_frames (l : PlainLetter) : Type 0 where
  pub first : List ℕ
  pub others : List (List ℕ)
  pub are : spellings l ≡ first ∷ others

item_some : (k : Carrier) (bytes : List ℕ) (l : PlainLetter) → spellings l ≡ item_spellings k bytes → Some_frames l
item_some k bytes l same = elim (cases_Bool (nat_le (length bytes) single_size)) [
  | inl short ↦ record { first = spelling (carried k bytes); others = []; are = same ∙ ap (λ c. cond c (spelling (carried k bytes) ∷ []) (map piece_spelling (parts_of k bytes))) short }
  | inr long ↦
      let more : 488 < length bytes = leb-false (length bytes) single_size long in
      let count = needs (length bytes) (omega arith) in
      record {
        first = piece_spelling (piece k (length bytes) 0 (take piece_size bytes));
        others = map piece_spelling (parts_from piece_size k (length bytes) count.more (0 + piece_size) (drop piece_size bytes));
        are = same ∙ (ap (λ c. cond c (spelling (carried k bytes) ∷ []) (map piece_spelling (parts_of k bytes))) long ∙ ap (λ n. map piece_spelling (parts_from piece_size k (length bytes) n 0 bytes)) count.is);
      }
]

pub some-frames : (l : PlainLetter) → Some_frames l
some-frames (msg priority bytes) = item_some (of_message priority) bytes (msg priority bytes) refl
some-frames (packet n bytes) = item_some (of_packet n) bytes (packet n bytes) refl
some-frames (connect n kind) = record { first = spelling (connect n kind); others = []; are = refl }
some-frames (accept n) = record { first = spelling (accept n); others = []; are = refl }
some-frames (reject n why) = record { first = spelling (reject n why); others = []; are = refl }
some-frames (recv_open n) = record { first = spelling (recv_open n); others = []; are = refl }
some-frames (send_open n) = record { first = spelling (send_open n); others = []; are = refl }
some-frames (scalar n bits value) = record { first = spelling (scalar n bits value); others = []; are = refl }
some-frames (send_close n) = record { first = spelling (send_close n); others = []; are = refl }
some-frames (recv_close n) = record { first = spelling (recv_close n); others = []; are = refl }
