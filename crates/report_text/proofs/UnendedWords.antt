-- Words without a newline, those of numbers, bytes, and the lines of totals and rings, and the one line that they make.
use Rattle.std.proofs.Common.{◌≡◌, ℕ, ◌+◌, ◌/◌, ◌%◌, Bool, true, false, cond, List, [], ◌∷◌, ◌++◌, Some, refl, ap, ◌∙◌, arith, append_assoc}
use Rattle.std.specs.Prelude.{codes, decimal, nat_lt, not, ◌==◌}
use Rattle.std.specs.List.{AllByRecursion, list_all}
use Rattle.std.proofs.lemmas.Bool.{and_from}
use Rattle.std.proofs.lemmas.Bool.Decides.{nat_tests}
use Rattle.std.proofs.lemmas.List.Folds.{list_all-append}
use Rattle.mc_base.specs.Text.{hex_digit, hex_digits}
use Rattle.board_model.specs.declared.totals.ChannelTotals.{ChannelTotals}
use Rattle.board_model.specs.declared.totals.LanePlaces.{LanePlaces}
use Rattle.board_model.specs.declared.totals.Totals.{Totals}
use Rattle.board_model.specs.declared.scenario.LinkLine.{LinkLine}
use Rattle.board_model.specs.Grammar.{spaced, line_of}
use Rattle.board_model.specs.Numerals.{is_other}
use Rattle.board_model.specs.Report.{totals_words}
use Rattle.mc_journal.specs.Readers.{cut_at}
use Rattle.mc_journal.proofs.Cuts.{cut-found}
use Rattle.report_text.specs.TextLines.{lines_in}
use Rattle.report_text.proofs.KindsTold.{decimal-other}
use Rattle.report_text.proofs.TextCuts.{lines-cut}

-- no byte of a word is a newline
abbrev pub HasNone : List ℕ → Type 0
HasNone w = list_all (is_other 10) w ≡ true

abbrev pub HaveNone : List (List ℕ) → Type 0
HaveNone ws = AllByRecursion HasNone ws

pub spaced-none : (ws : List (List ℕ)) → HaveNone ws → HasNone (spaced ws)
spaced-none [] all = refl
spaced-none (w ∷ []) all = all.0
spaced-none (w ∷ v ∷ ws) all =
    list_all-append (is_other 10) w (32 ∷ spaced (v ∷ ws))
    ∙ and_from (list_all (is_other 10) w) (list_all (is_other 10) (spaced (v ∷ ws))) all.0 (spaced-none (v ∷ ws) all.1)

-- the line is the first of a text that begins with it
pub line-first : (ws : List (List ℕ)) → HaveNone ws → (rest : List ℕ) → lines_in (line_of ws ++ rest) ≡ line_of ws ∷ lines_in rest
line-first ws all rest =
    let cut : cut_at 10 (line_of ws ++ rest) ≡ Some (spaced ws, rest) = ap (cut_at 10) (append_assoc (spaced ws) (10 ∷ []) rest) ∙ cut-found 10 (spaced ws) rest (spaced-none ws all) in
    lines-cut (line_of ws ++ rest) (spaced ws, rest) cut

-- ---- words

pub decimal-none : (n : ℕ) → HasNone (decimal n)
decimal-none = decimal-other 10 (omega arith)

digit-none : (x : ℕ) → is_other 10 (hex_digit x) ≡ true
digit-none x = go (nat_lt x 10)
  where
    go : (a : Bool) → is_other 10 (cond a (48 + x) (87 + x)) ≡ true
    go true = let differs : (48 + x == 10) ≡ false = grind (arith, nat_tests) in ap not differs
    go false = let differs : (87 + x == 10) ≡ false = grind (arith, nat_tests) in ap not differs

pub digits-none : (bytes : List ℕ) → HasNone (hex_digits bytes)
digits-none [] = refl
digits-none (b ∷ bs) =
    and_from (is_other 10 (hex_digit (b / 16))) (list_all (is_other 10) (hex_digit (b % 16) ∷ hex_digits bs)) (digit-none (b / 16))
    (and_from (is_other 10 (hex_digit (b % 16))) (list_all (is_other 10) (hex_digits bs)) (digit-none (b % 16)) (digits-none bs))

-- ---- the words of lines

totals-none : (t : Totals) → HaveNone (totals_words t)
totals-none t = (refl, (decimal-none t.accepted, (refl, (decimal-none t.taken, (refl, (decimal-none t.dropped, (refl, (decimal-none t.queued, (refl, (decimal-none t.ring, tt))))))))))

pub channel-none : (c : ChannelTotals) → HaveNone (codes "channel" ∷ decimal c.owner ∷ decimal c.number ∷ totals_words c.totals)
channel-none c = (refl, (decimal-none c.owner, (decimal-none c.number, totals-none c.totals)))

pub messages-none : (t : Totals) → HaveNone (codes "messages" ∷ totals_words t)
messages-none t = (refl, totals-none t)

pub places-none : (p : LanePlaces) → HaveNone (codes "lane" ∷ decimal p.from ∷ decimal p.to ∷ codes "free" ∷ decimal p.free ∷ codes "ring" ∷ decimal p.ring ∷ codes "queue" ∷ decimal p.queue ∷ codes "lent" ∷ decimal p.lent ∷ [])
places-none p = (refl, (decimal-none p.from, (decimal-none p.to, (refl, (decimal-none p.free, (refl, (decimal-none p.ring, (refl, (decimal-none p.queue, (refl, (decimal-none p.lent, tt)))))))))))

pub ring-none : (l : LinkLine) (queue : ℕ) (image : List ℕ) → HaveNone (codes "ring" ∷ decimal l.driver ∷ decimal l.device ∷ decimal queue ∷ hex_digits image ∷ [])
ring-none l queue image = (refl, (decimal-none l.driver, (decimal-none l.device, (decimal-none queue, (digits-none image, tt)))))
