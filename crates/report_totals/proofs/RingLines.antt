-- The lines that show the images of rings, piece by piece; and the lines of a text of such lines.
use Rattle.std.proofs.Common.{◌≡◌, ℕ, ◌<◌, List, [], ◌∷◌, ◌++◌, length, refl, ap, ◌∙◌, arith, append_assoc}
use Rattle.std.specs.Prelude.{codes, decimal}
use Rattle.std.specs.List.{flat_map}
use Rattle.mc_base.specs.Text.{hex_digits, hex_text}
use Rattle.board_model.specs.declared.scenario.LinkLine.{LinkLine}
use Rattle.ring_numbers.specs.RingTexts.{ring_text}
use Rattle.report_text.specs.TextLines.{lines_in}
use Rattle.report_text.proofs.UnendedWords.{line-first, ring-none}

pub ring-line : (driver device queue digits : List ℕ) → (codes "ring" ++ 32 ∷ (driver ++ 32 ∷ (device ++ 32 ∷ (queue ++ 32 ∷ digits)))) ++ 10 ∷ [] ≡ codes "ring " ++ (driver ++ (codes " " ++ (device ++ (codes " " ++ (queue ++ (codes " " ++ (digits ++ 10 ∷ [])))))))
ring-line driver device queue digits = simp append_assoc

pub digits-some : (bytes : List ℕ) → 0 < length bytes → hex_text bytes ≡ hex_digits bytes
digits-some [] some = absurd (omega (arith, some))
digits-some (b ∷ bs) some = refl

-- the line of a ring is the first of a text that begins with it
pub ring-first : (l : LinkLine) (queue : ℕ) (image rest : List ℕ) → lines_in (ring_text l queue image ++ rest) ≡ ring_text l queue image ∷ lines_in rest
ring-first l queue image rest =
    line-first (codes "ring" ∷ decimal l.driver ∷ decimal l.device ∷ decimal queue ∷ hex_digits image ∷ []) (ring-none l queue image) rest

-- the lines of a text that begins with the lines of two rings for each link
pub rings-first : (image : LinkLine → ℕ → List ℕ) (ls : List LinkLine) (rest : List ℕ) → lines_in (flat_map (λ line. line) (flat_map (λ l. ring_text l 0 (image l 0) ∷ ring_text l 1 (image l 1) ∷ []) ls) ++ rest) ≡ flat_map (λ l. ring_text l 0 (image l 0) ∷ ring_text l 1 (image l 1) ∷ []) ls ++ lines_in rest
rings-first image [] rest = refl
rings-first image (l ∷ ls) rest =
    let zero : List ℕ = ring_text l 0 (image l 0) in
    let one : List ℕ = ring_text l 1 (image l 1) in
    let later : List ℕ = flat_map (λ line. line) (flat_map (λ k. ring_text k 0 (image k 0) ∷ ring_text k 1 (image k 1) ∷ []) ls) in
    ap lines_in (append_assoc zero (one ++ later) rest ∙ ap (λ (t : List ℕ). zero ++ t) (append_assoc one later rest))
    ∙ ring-first l 0 (image l 0) (one ++ (later ++ rest))
    ∙ ap (λ (ts : List (List ℕ)). zero ∷ ts) (ring-first l 1 (image l 1) (later ++ rest) ∙ ap (λ (ts : List (List ℕ)). one ∷ ts) (rings-first image ls rest))
