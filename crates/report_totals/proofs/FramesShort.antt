-- A frame that a line of a text tells is shorter than the text.
use Rattle.std.proofs.Common.{◌≡◌, ℕ, ◌^◌, ◌<◌, ◌≤◌, List, [], ◌∷◌, ◌++◌, length, Option, Some, None, option_map, refl, sym, ap, subst, ◌∙◌, arith, length-append}
use Rattle.std.specs.Prelude.{codes, decimal}
use Rattle.std.specs.List.{flat_map}
use Rattle.mc_base.specs.Text.{hex_byte, hex_text}
use Rattle.board_model.specs.Grammar.{spaced}
use Rattle.board_model.specs.Journal.{Line, idle_line, again_line, spin_line, turn_line, back_line, put_line, see_line, take_line, wait_line, call_line}
use Rattle.board_model.specs.Report.{line_words}
use Rattle.mc_journal.specs.LineForms.{line_in}
use Rattle.mc_journal.specs.Readers.{cut_at}
use Rattle.mc_journal.proofs.LinesRead.{line-is}
use Rattle.report_text.specs.LaneLines.{LaneLine, lane_of, lanes_told}
use Rattle.report_text.proofs.LaneLemmas.{said_first, said-cut, said-uncut}
use Rattle.report_text.specs.ScenarioPart.{text_of}
use Rattle.report_text.specs.TextLines.{lines_in}
use Rattle.report_text.proofs.TurnsDue.{cons-parts}
use Rattle.report_text.proofs.TextCuts.{lines-cut}
use Rattle.report_text.proofs.TextFronts.{text-back}
use Rattle.report_totals.specs.SenderLanes.{HasShortFrame}

digits-more : (bytes : List ℕ) → length bytes ≤ length (flat_map hex_byte bytes)
digits-more [] = omega arith
digits-more (b ∷ bs) = omega (arith, digits-more bs)

hex-more : (bytes : List ℕ) → length bytes ≤ length (hex_text bytes)
hex-more [] = omega arith
hex-more (b ∷ bs) = digits-more (b ∷ bs)

-- the frame of a put line is shorter than the line's text
line-short : (l : Line) (n : ℕ) → length (spaced (line_words l)) < n → n ≤ 2 ^ 32 → HasShortFrame (lane_of l)
line-short (put_line p frame) n less few = omega (arith, less, few, hex-more frame, length-append (codes "put") (32 ∷ (decimal p ++ 32 ∷ hex_text frame)), length-append (decimal p) (32 ∷ hex_text frame))
line-short (idle_line k) n less few = tt
line-short (again_line w) n less few = tt
line-short (spin_line k w) n less few = tt
line-short turn_line n less few = tt
line-short (back_line p k) n less few = tt
line-short (see_line p k) n less few = tt
line-short (take_line p frame fate) n less few = tt
line-short (wait_line k) n less few = tt
line-short (call_line k a) n less few = tt

pub first-short : (text after : List ℕ) (line : LaneLine) → length text < 2 ^ 32 → lanes_told text ≡ line ∷ lanes_told after → HasShortFrame line
first-short text after line few told = go (cut_at 10 text) refl
  where
    go : (o : Option (List ℕ × List ℕ)) → cut_at 10 text ≡ o → HasShortFrame line
    go None e = absurd (let none : [] ≡ line ∷ lanes_told after = sym (said-uncut lane_of text e) ∙ told in cc)
    go (Some x) e = by (line_in x.0) refl (sym (said-cut lane_of text x e) ∙ told)
      where
        shorter : length x.0 < length text
        shorter = omega (arith, ap length (text-back text), ap (λ (ls : List (List ℕ)). length (text_of ls)) (lines-cut text x e), length-append (x.0 ++ 10 ∷ []) (text_of (lines_in x.1)), length-append x.0 (10 ∷ []))

        by : (o : Option Line) → line_in x.0 ≡ o → said_first lane_of (option_map lane_of (line_in x.0)) (lanes_told x.1) ≡ line ∷ lanes_told after → HasShortFrame line
        by None is same = absurd (let none : [] ≡ line ∷ lanes_told after = sym (ap (λ (o : Option Line). said_first lane_of (option_map lane_of o) (lanes_told x.1)) is) ∙ same in cc)
        by (Some l) is same =
            let first : lane_of l ∷ lanes_told x.1 ≡ line ∷ lanes_told after = sym (ap (λ (o : Option Line). said_first lane_of (option_map lane_of o) (lanes_told x.1)) is) ∙ same in
            let own : lane_of l ≡ line = (cons-parts (lane_of l) line (lanes_told x.1) (lanes_told after) first).0 in
            subst HasShortFrame own (line-short l (length text) (omega (arith, ap length (line-is x.0 l is), shorter)) (omega (arith, few)))
