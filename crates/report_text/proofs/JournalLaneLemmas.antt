-- The lines by which a journal puts frames, read again at their places.
use Rattle.std.proofs.Common.{◌≡◌, ℕ, ◌≤◌, zero, suc, Bool, true, false, cond, List, [], ◌∷◌, drop, Option, Some, None, refl, sym, ap, ◌∙◌, subst, arith}
use Rattle.std.specs.Prelude.{find, ◌==◌}
use Rattle.std.specs.List.{AllByRecursion, flat_map}
use Rattle.board_model.specs.FileLines.{onto_first}
use Rattle.report_text.specs.declared.journal_lanes.JournalLanes.{JournalLanes}
use Rattle.report_text.specs.JournalRead.{JournalText}
use Rattle.report_text.specs.LaneLeft.{AreShort, AreTold}
use Rattle.report_text.specs.LaneLines.{lanes_of, put_in}
use Rattle.report_text.specs.LinkPass.{lanes_in, frames_put}
use Rattle.report_text.specs.JournalLanes.{HasLanes, frames_at, journals_of}
use Rattle.report_text.specs.TextLines.{lines_in}
use Rattle.report_text.specs.Texts.{longest, longest_line}

-- ---- no line is longer behind a place

longest-onto : (b : ℕ) (ls : List (List ℕ)) → longest ls ≤ longest (onto_first b ls)
longest-onto b [] = omega arith
longest-onto b (l ∷ ls) = omega arith

longest-tail : (b : ℕ) (bs : List ℕ) → longest_line bs ≤ longest_line (b ∷ bs)
longest-tail b bs = go (b == 10)
  where
    go : (t : Bool) → longest (lines_in bs) ≤ longest (cond t ((10 ∷ []) ∷ lines_in bs) (onto_first b (lines_in bs)))
    go true = omega arith
    go false = longest-onto b (lines_in bs)

pub longest-drop : (n : ℕ) (text : List ℕ) → longest_line (drop n text) ≤ longest_line text
longest-drop zero text = omega arith
longest-drop (suc n) [] = omega arith
longest-drop (suc n) (b ∷ bs) = omega (arith, longest-drop n bs, longest-tail b bs)

-- ---- the frames that a domain puts, by the lines of its journal

abbrev pub frames_in : ℕ → Option JournalLanes → List (List ℕ)
frames_in to None = []
frames_in to (Some p) = frames_at to p.journal.text.now p.puts.items

pub frames-found : (js : List JournalText) (ps : List JournalLanes) (from to : ℕ) → AreTold js (journals_of ps) → AllByRecursion HasLanes ps → frames_put js from to ≡ frames_in to (find (λ p. p.journal.domain == from) ps)
frames-found [] [] from to told has = refl
frames-found [] (p ∷ ps) from to told has = absurd told
frames-found (j ∷ js) [] from to told has = absurd told
frames-found (j ∷ js) (p ∷ ps) from to told has =
    ap (λ (d : ℕ). flat_map (put_in to) (lanes_in (cond (d == from) (Some j) (find (λ (j : JournalText). j.line.domain == from) js)))) told.0.domain
    ∙ go (p.journal.domain == from) (frames-found js ps from to told.1 has.1)
  where
    go : (b : Bool) → frames_put js from to ≡ frames_in to (find (λ p. p.journal.domain == from) ps)
        → flat_map (put_in to) (lanes_in (cond b (Some j) (find (λ (j : JournalText). j.line.domain == from) js))) ≡ frames_in to (cond b (Some p) (find (λ p. p.journal.domain == from) ps))
    go true rest = ap (λ (ts : List (List ℕ)). flat_map (put_in to) (lanes_of ts)) told.0.texts ∙ sym (has.0.puts to)
    go false rest = rest

-- ---- what is found

pub short-found : (room : ℕ) (ps : List JournalLanes) (d : ℕ) (p : JournalLanes) → AreShort room (journals_of ps) → find (λ q. q.journal.domain == d) ps ≡ Some p → longest_line p.journal.text.now ≤ room
short-found room [] d p short e = absurd cc
short-found room (q ∷ ps) d p short e = go (q.journal.domain == d) (λ later. short-found room ps d p short.1 later) e
  where
    go : (b : Bool) → (find (λ q. q.journal.domain == d) ps ≡ Some p → longest_line p.journal.text.now ≤ room) → cond b (Some q) (find (λ q. q.journal.domain == d) ps) ≡ Some p → longest_line p.journal.text.now ≤ room
    go true rest e = let same : q ≡ p = cc in subst (λ (x : JournalLanes). longest_line x.journal.text.now ≤ room) same short.0.line
    go false rest e = rest e
