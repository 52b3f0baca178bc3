-- The lines of rings, link by link.
use Rattle.std.proofs.Common.{◌≡◌, ℕ, zero, suc, ◌+◌, ◌*◌, ◌<◌, List, [], ◌∷◌, ◌++◌, length, take, get_or, refl, sym, ap, ◌∙◌, append_assoc, append-nil, add-one, arith}
use Rattle.std.specs.Prelude.{codes}
use Rattle.std.specs.List.{flat_map}
use Rattle.std.proofs.Math.Seq.{take-length}
use Rattle.split_ring.specs.Finished.{FinishedRing}
use Rattle.board_model.specs.declared.scenario.LinkLine.{LinkLine}
use Rattle.board_model.specs.declared.scenario.Scenario.{Scenario}
use Rattle.board_model.specs.Board.{DomainJournal}
use Rattle.board_runner.specs.RingLines.{AreOfLinks, image_of_ring, ring_lines}
use Rattle.ring_numbers.specs.RingTexts.{ring_text}
use Rattle.board_runner.specs.ThreadRun.{TellLanes}

-- there are two rings for each link
pub rings-each : (ls : List LinkLine) (rings : List FinishedRing) → AreOfLinks ls rings → length rings ≡ 2 * length ls
rings-each [] [] are = refl
rings-each [] (x ∷ rings) are = absurd are
rings-each (l ∷ ls) [] are = absurd are
rings-each (l ∷ ls) (x ∷ []) are = absurd are
rings-each (l ∷ ls) (x ∷ (y ∷ rings)) are = let h = rings-each ls rings are.2 in omega (arith, h)

-- the text of the rings of the links before a place
abbrev pub rings_before : ℕ → List LinkLine → List FinishedRing → List ℕ
rings_before i ls rings = flat_map (λ line. line) (ring_lines (take i ls) rings)

-- the two rings of a link
abbrev of_link : LinkLine → FinishedRing → FinishedRing → List ℕ
of_link l first last = ring_text l 0 (image_of_ring first) ++ ring_text l 1 (image_of_ring last)

next_link : (ls : List LinkLine) (rings : List FinishedRing) (i n m : ℕ) (l d : LinkLine) (first last : FinishedRing) → AreOfLinks ls rings → i < length ls → l ≡ get_or ls i d → n ≡ 2 * i → first ≡ get_or rings n first → m ≡ 2 * i + 1 → last ≡ get_or rings m last
    → rings_before (suc i) ls rings ≡ rings_before i ls rings ++ of_link l first last
next_link [] rings i n m l d first last are within line at one at_one two = absurd (omega (arith, within))
next_link (k ∷ ls) [] i n m l d first last are within line at one at_one two = absurd are
next_link (k ∷ ls) (x ∷ []) i n m l d first last are within line at one at_one two = absurd are
next_link (k ∷ ls) (x ∷ (y ∷ rings)) zero zero (suc zero) l d first last are within line at one at_one two =
    rw (← line, ← one, ← two) (ap (λ (t : List ℕ). ring_text l 0 (image_of_ring first) ++ t) (append-nil (ring_text l 1 (image_of_ring last))))
next_link (k ∷ ls) (x ∷ (y ∷ rings)) zero (suc n) m l d first last are within line at one at_one two = absurd (omega (arith, at))
next_link (k ∷ ls) (x ∷ (y ∷ rings)) zero zero zero l d first last are within line at one at_one two = absurd (omega (arith, at_one))
next_link (k ∷ ls) (x ∷ (y ∷ rings)) zero zero (suc (suc m)) l d first last are within line at one at_one two = absurd (omega (arith, at_one))
next_link (k ∷ ls) (x ∷ (y ∷ rings)) (suc i) (suc (suc n)) (suc (suc m)) l d first last are within line at one at_one two =
    ap (λ (t : List ℕ). ring_text k 0 (image_of_ring x) ++ (ring_text k 1 (image_of_ring y) ++ t)) (next_link ls rings i n m l d first last are.2 (omega (arith, within)) line (omega (arith, at)) one (omega (arith, at_one)) two)
    ∙ ap (λ (t : List ℕ). ring_text k 0 (image_of_ring x) ++ t) (sym (append_assoc (ring_text k 1 (image_of_ring y)) (rings_before i ls rings) (of_link l first last)))
    ∙ sym (append_assoc (ring_text k 0 (image_of_ring x)) (ring_text k 1 (image_of_ring y) ++ rings_before i ls rings) (of_link l first last))
next_link (k ∷ ls) (x ∷ (y ∷ rings)) (suc i) zero m l d first last are within line at one at_one two = absurd (omega (arith, at))
next_link (k ∷ ls) (x ∷ (y ∷ rings)) (suc i) (suc zero) m l d first last are within line at one at_one two = absurd (omega (arith, at))
next_link (k ∷ ls) (x ∷ (y ∷ rings)) (suc i) (suc (suc n)) zero l d first last are within line at one at_one two = absurd (omega (arith, at_one))
next_link (k ∷ ls) (x ∷ (y ∷ rings)) (suc i) (suc (suc n)) (suc zero) l d first last are within line at one at_one two = absurd (omega (arith, at_one))

-- of the links before a place, and of the next one
pub rings-more : (ls : List LinkLine) (rings : List FinishedRing) (i n m : ℕ) (l d : LinkLine) (first last : FinishedRing) → AreOfLinks ls rings → i < length ls → l ≡ get_or ls i d → n ≡ 2 * i → first ≡ get_or rings n first → m ≡ 2 * i + 1 → last ≡ get_or rings m last
    → rings_before (i + 1) ls rings ≡ rings_before i ls rings ++ of_link l first last
rings-more ls rings i n m l d first last are within line at one at_one two = ap (λ k. rings_before k ls rings) (add-one i) ∙ next_link ls rings i n m l d first last are within line at one at_one two

-- of all links
pub rings-all : (ls : List LinkLine) (rings : List FinishedRing) (i : ℕ) → i ≡ length ls → rings_before i ls rings ≡ flat_map (λ line. line) (ring_lines ls rings)
rings-all ls rings i all = ap (λ (ks : List LinkLine). flat_map (λ line. line) (ring_lines ks rings)) (ap (λ k. take k ls) all ∙ take-length ls)

-- ---- rings that tell the lanes of links are theirs

pub told-of-links : (s : Scenario) (js : List DomainJournal) (ls : List LinkLine) (rings : List FinishedRing) → TellLanes s js ls rings → AreOfLinks ls rings
told-of-links s js [] [] tell = tt
told-of-links s js [] (x ∷ rings) tell = absurd tell
told-of-links s js (l ∷ ls) [] tell = absurd tell
told-of-links s js (l ∷ ls) (x ∷ []) tell = absurd tell
told-of-links s js (l ∷ ls) (x ∷ (y ∷ rings)) tell = (tell.0.queue, tell.1.queue, told-of-links s js ls rings tell.2)

-- ---- the line of a ring, piece by piece

pub ring-line : (driver device queue digits : List ℕ) → (codes "ring" ++ 32 ∷ (driver ++ 32 ∷ (device ++ 32 ∷ (queue ++ 32 ∷ digits)))) ++ 10 ∷ [] ≡ codes "ring " ++ (driver ++ (codes " " ++ (device ++ (codes " " ++ (queue ++ (codes " " ++ (digits ++ 10 ∷ [])))))))
ring-line driver device queue digits = simp append_assoc
