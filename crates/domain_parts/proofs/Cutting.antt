-- Messages and packets cut into parts.
use Rattle.std.proofs.Common.{◌≡◌, ℕ, zero, suc, ◌+◌, ◌-◌, ◌<◌, ◌≤◌, min, cond, List, [], ◌∷◌, length, map, take, drop, refl, sym, ap, ap₂, ◌∙◌, arith}
use Rattle.std.proofs.lemmas.List.{drop_min, length-map, take_min}
use Rattle.std.proofs.lemmas.Bool.{le-leb, lt-leb}
use Rattle.std.specs.Int.{div_ceil}
use Rattle.mc_base.specs.Letter.{Carrier, FitsFrame, IsCarrier, Piece, carried, in_part, of_message, of_packet, piece, piece_spelling, saying_text, spelling, whole}
use Rattle.mc_base.specs.Limits.{piece_size, single_size, item_size}
use Rattle.mc_base.specs.Pieces.{frames_needed, item_spellings, parts_count, parts_from, parts_of, spellings}
use Rattle.domain_parts.specs.Outgoing.{NeedsParts}

-- ---- how many parts bytes need

count-needs : (k n : ℕ) → k ≡ parts_count n → NeedsParts piece_size k n
count-needs zero n is = omega arith
count-needs (suc k) n is = (omega arith, count-needs k (n - piece_size) (omega arith))

pub needs-parts : (n : ℕ) → NeedsParts piece_size (parts_count n) n
needs-parts n = count-needs (parts_count n) n refl

-- where one is left, so are bytes
pub some-left : (cut left n : ℕ) → 0 < left → NeedsParts cut left n → 0 < n
some-left cut zero n some needs = absurd (omega arith)
some-left cut (suc left) n some needs = needs.0

pub parts-length : (cut : ℕ) (k : Carrier) (total count offset : ℕ) (rest : List ℕ) → length (parts_from cut k total count offset rest) ≡ count
parts-length cut k total zero offset rest = refl
parts-length cut k total (suc count) offset rest = let more = parts-length cut k total count (offset + cut) (drop cut rest) in omega (arith, more)

-- ---- the first part, and those after it

next-offset : (cut : ℕ) (k : Carrier) (total left offset : ℕ) (rest : List ℕ) → NeedsParts cut (suc left) (length rest) → parts_from cut k total left (offset + cut) (drop cut rest) ≡ parts_from cut k total left (offset + min cut (length rest)) (drop cut rest)
next-offset cut k total zero offset rest needs = refl
next-offset cut k total (suc left) offset rest needs =
    let some = needs.1.0 in
    let whole : cut ≡ min cut (length rest) = omega (arith, some) in
    ap (λ (n : ℕ). parts_from cut k total (suc left) (offset + n) (drop cut rest)) whole

pub next-part : (cut : ℕ) (k : Carrier) (total left offset : ℕ) (rest : List ℕ) → NeedsParts cut (suc left) (length rest) →
    parts_from cut k total (suc left) offset rest ≡ piece k total offset (take (min cut (length rest)) rest) ∷ parts_from cut k total left (offset + min cut (length rest)) (drop (min cut (length rest)) rest)
next-part cut k total left offset rest needs =
    ap₂ (λ (bytes : List ℕ) (ps : List Piece). piece k total offset bytes ∷ ps) (sym (take_min cut rest))
    (next-offset cut k total left offset rest needs ∙ ap (λ (bytes : List ℕ). parts_from cut k total left (offset + min cut (length rest)) bytes) (sym (drop_min cut rest)))

-- ---- in how many frames an item goes

carried-spellings : (k : Carrier) (bytes : List ℕ) → spellings (carried k bytes) ≡ item_spellings k bytes
carried-spellings (of_message priority) bytes = refl
carried-spellings (of_packet channel) bytes = refl

pub single-spelling : (k : Carrier) (bytes : List ℕ) → length bytes ≤ single_size → spellings (carried k bytes) ≡ spelling (carried k bytes) ∷ []
single-spelling k bytes short = carried-spellings k bytes ∙ ap (λ b. cond b (spelling (carried k bytes) ∷ []) (map piece_spelling (parts_of k bytes))) (le-leb (length bytes) single_size short)

pub part-spellings : (k : Carrier) (bytes : List ℕ) → single_size < length bytes → spellings (carried k bytes) ≡ map piece_spelling (parts_of k bytes)
part-spellings k bytes long = carried-spellings k bytes ∙ ap (λ b. cond b (spelling (carried k bytes) ∷ []) (map piece_spelling (parts_of k bytes))) (lt-leb (length bytes) single_size long)

pub part-frames : (k : Carrier) (bytes : List ℕ) → single_size < length bytes → frames_needed (carried k bytes) ≡ parts_count (length bytes)
part-frames k bytes long = ap (λ (ps : List (List ℕ)). length ps) (part-spellings k bytes long) ∙ length-map (parts_of k bytes) piece_spelling ∙ parts-length piece_size k (length bytes) (parts_count (length bytes)) 0 bytes

pub ceil-count : (n : ℕ) → div_ceil n piece_size ≡ parts_count n
ceil-count n = omega arith

-- ---- what a frame carries

pub single-fits : (k : Carrier) (bytes : List ℕ) → IsCarrier k → length bytes ≤ single_size → FitsFrame (whole (carried k bytes))
single-fits (of_message priority) bytes is short = (is, short)
single-fits (of_packet channel) bytes is short = (is, short)

pub part-fits : (k : Carrier) (total offset : ℕ) (bytes : List ℕ) → IsCarrier k → 0 < length bytes → length bytes ≤ piece_size → offset + length bytes ≤ total → total ≤ item_size → FitsFrame (in_part (piece k total offset bytes))
part-fits k total offset bytes is some fits within most = (record { carries = is; some = some; within = within; most = most }, fits)

pub single-short : (k : Carrier) (bytes : List ℕ) → length bytes ≤ single_size → length (saying_text (whole (carried k bytes))) ≤ 496
single-short (of_message priority) bytes short = omega arith
single-short (of_packet channel) bytes short = omega arith

pub part-short : (k : Carrier) (total offset : ℕ) (bytes : List ℕ) → length bytes ≤ piece_size → length (saying_text (in_part (piece k total offset bytes))) ≤ 496
part-short (of_message priority) total offset bytes fits = omega arith
part-short (of_packet channel) total offset bytes fits = omega arith
