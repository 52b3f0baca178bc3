-- Lines in which the first pass finds none out of place are those of parts that stand behind each other.
use Rattle.std.proofs.Common.{◌≡◌, ℕ, zero, suc, ◌+◌, ◌-◌, ◌^◌, ◌<◌, ◌≤◌, Bool, true, false, not, ◌&&◌, cond, List, [], ◌∷◌, ◌++◌, length, map, Option, Some, None, option_map, refl, sym, ap, ap₂, subst, ◌∙◌, arith, append_assoc, append-nil, eqb-true, ne_eqb}
use Rattle.std.specs.Prelude.{nat_lt, nat_le, slice_get, unwrap_or, ◌==◌}
use Rattle.std.specs.List.{AllByRecursion, flat_map, list_all}
use Rattle.std.proofs.lemmas.Bool.{and_parts}
use Rattle.std.proofs.lemmas.Bool.Decides.{nat_tests}
use Rattle.mc_base.specs.declared.refusal.Refusal.{Refusal}
use Rattle.board_model.specs.declared.scenario.CallLine.{CallLine}
use Rattle.board_model.specs.Journal.{PlainAnswer, refuses, agrees, tells, connects, gives, completes, Visit, Line, idle_line, again_line, spin_line, turn_line, back_line, put_line, see_line, take_line, wait_line, call_line, visit_lines, is_idle, joinable, spinning}
use Rattle.board_model.specs.Journal as journal
use Rattle.board_model.specs.Unjoined.{frames_put, line_numbered, puts_of, visit_in}
use Rattle.board_model.specs.JournalParts.{Part, idles, spins, tries, turn_of, wait_of, call_of, part_lines, last_line, IsCount, StandsBehind, StandBehind}
use Rattle.board_model.proofs.BoardsRising.{AreRising}
use Rattle.board_model.proofs.JournalReading.{IsOfTurn}
use Rattle.board_model.proofs.JournalVisits.{idle_is}
use Rattle.board_model.proofs.JournalPartsJoined.{last-is}
use Rattle.report_text.specs.declared.outline.Outline.{Outline}
use Rattle.report_text.specs.declared.outline.Outline.TheVariants as outline
use Rattle.report_text.specs.Outlines.{outline_of}
use Rattle.report_text.specs.TextLines.{moved}
use Rattle.report_text.specs.TurnOrder.{is_under, is_put, under_lines, puts_first, puts_last, impossible_place, order_place, own_place, own_count, under_place}
use Rattle.report_text.specs.JournalOrder.{puts_numbered, puts_of_line, puts_claimed, is_turn, is_count, joins_idle, joins_spin, is_one_idle, stands, head_place, place_from, journal_place}
use Rattle.report_text.specs.JournalRead.{Parts, under_part, with_put, parts_from, parts_in}
use Rattle.report_text.specs.TextPass.{puts_of_script}
use Rattle.report_text.proofs.NothingWrong.{none-moved, none-either, none-sooner, none-if}
use Rattle.report_text.proofs.OrderTold.{turn-lines}
use Rattle.report_text.proofs.StepsDue.{Fits}

abbrev outlines : List Line → List Outline
outlines ls = map outline_of ls

not-true : (b : Bool) → not b ≡ true → b ≡ false
not-true true e = absurd cc
not-true false e = refl

-- ---- what stands behind the last line

joins-none : (o : Option Line) → joins_idle (option_map outline_of o) ≡ false → joinable o ≡ None
joins-none None e = refl
joins-none (Some (idle_line n)) e = ap (λ b. cond b (Some n) None) e
joins-none (Some (again_line w)) e = refl
joins-none (Some (spin_line n w)) e = refl
joins-none (Some turn_line) e = refl
joins-none (Some (back_line p n)) e = refl
joins-none (Some (put_line p f)) e = refl
joins-none (Some (see_line p n)) e = refl
joins-none (Some (take_line p f w)) e = refl
joins-none (Some (wait_line k)) e = refl
joins-none (Some (call_line k a)) e = refl

spins-none : (word : Refusal) (o : Option Line) → joins_spin word (option_map outline_of o) ≡ false → spinning word o ≡ None
spins-none word None e = refl
spins-none word (Some (spin_line n w)) e = ap (λ b. cond b (Some n) None) e
spins-none word (Some (idle_line n)) e = refl
spins-none word (Some (again_line w)) e = refl
spins-none word (Some turn_line) e = refl
spins-none word (Some (back_line p n)) e = refl
spins-none word (Some (put_line p f)) e = refl
spins-none word (Some (see_line p n)) e = refl
spins-none word (Some (take_line p f w)) e = refl
spins-none word (Some (wait_line k)) e = refl
spins-none word (Some (call_line k a)) e = refl

one-none : (o : Option Line) → is_one_idle (option_map outline_of o) ≡ false → journal.is_one_idle o ≡ false
one-none None e = refl
one-none (Some (idle_line n)) e = e
one-none (Some (again_line w)) e = refl
one-none (Some (spin_line n w)) e = refl
one-none (Some turn_line) e = refl
one-none (Some (back_line p n)) e = refl
one-none (Some (put_line p f)) e = refl
one-none (Some (see_line p n)) e = refl
one-none (Some (take_line p f w)) e = refl
one-none (Some (wait_line k)) e = refl
one-none (Some (call_line k a)) e = refl

count-is : (n : ℕ) → is_count n ≡ true → IsCount n
count-is n e = let parts = and_parts (nat_le 1 n) (nat_le n (2 ^ 64 - 1)) e in let low = parts.0 in let high = parts.1 in (grind (arith, nat_tests), grind (arith, nat_tests))

-- ---- how many puts are a call's

-- so many puts of a call are still before these lines, where all of them are puts
abbrev due_left : ℕ → List Outline → ℕ
due_left c us = cond (list_all is_put us) (c - length us) 0

puts-last : (n : ℕ) (us : List Outline) → puts_last n us ≡ cond (list_all is_put us) (n + length us) (puts_last 0 us)
puts-last n [] = omega arith
puts-last n (u ∷ us) = go (is_put u) (list_all is_put us) (puts-last (n + 1) us) (puts-last (0 + 1) us)
  where
    go : (a b : Bool) → puts_last (n + 1) us ≡ cond b (n + 1 + length us) (puts_last 0 us) → puts_last (0 + 1) us ≡ cond b (0 + 1 + length us) (puts_last 0 us)
        → puts_last (cond a (n + 1) 0) us ≡ cond (a && b) (n + suc (length us)) (puts_last (cond a (0 + 1) 0) us)
    go true true x y = omega (arith, x)
    go true false x y = x ∙ sym y
    go false b x y = refl

puts-few : (n : ℕ) (us : List Outline) → puts_last n us ≤ n + length us
puts-few n [] = omega arith
puts-few n (u ∷ us) = go (is_put u) (puts-few (n + 1) us) (puts-few 0 us)
  where
    go : (a : Bool) → puts_last (n + 1) us ≤ n + 1 + length us → puts_last 0 us ≤ 0 + length us → puts_last (cond a (n + 1) 0) us ≤ n + suc (length us)
    go true x y = omega (arith, x)
    go false x y = omega (arith, y)

if-true : (b : Bool) (m : ℕ) → 0 < cond b m 0 → (b ≡ true) × (0 < m)
if-true true m e = (refl, e)
if-true false m e = absurd (omega (arith, e))

-- one more put in front is the call's
claimed-count : (c : ℕ) (u : Outline) (us : List Outline) → is_put u ≡ true → 0 < due_left c us → (own_count c (u ∷ us) ≡ own_count c us) × (due_left c us - 1 ≡ due_left c (u ∷ us))
claimed-count c u us put some =
    let all = if-true (list_all is_put us) (c - length us) some in
    let more = all.1 in
    let last : puts_last 0 us ≡ 0 + length us = puts-last 0 us ∙ ap (λ b. cond b (0 + length us) (puts_last 0 us)) all.0 in
    let next : puts_last 0 (u ∷ us) ≡ 1 + length us = ap (λ b. puts_last (cond b (0 + 1) 0) us) put ∙ (puts-last (0 + 1) us ∙ ap (λ b. cond b (0 + 1 + length us) (puts_last 0 us)) all.0) ∙ omega arith in
    let old : due_left c us ≡ c - length us = ap (λ b. cond b (c - length us) 0) all.0 in
    let new : due_left c (u ∷ us) ≡ c - suc (length us) = ap₂ (λ a b. cond (a && b) (c - suc (length us)) 0) put all.0 in
    (omega (arith, last, next, more), omega (arith, old, new))

-- and is not, where no more are, or where it is no put
under-count : (c : ℕ) (u : Outline) (us : List Outline) → (is_put u ≡ true → due_left c us ≡ 0) → (own_count c (u ∷ us) ≡ suc (own_count c us)) × (0 ≡ due_left c (u ∷ us))
under-count c u us left = go (is_put u) (list_all is_put us) refl refl
  where
    few : puts_last 0 us ≤ 0 + length us
    few = puts-few 0 us

    go : (a b : Bool) → is_put u ≡ a → list_all is_put us ≡ b → (own_count c (u ∷ us) ≡ suc (own_count c us)) × (0 ≡ due_left c (u ∷ us))
    go false b put all =
        let next : puts_last 0 (u ∷ us) ≡ puts_last 0 us = ap (λ t. puts_last (cond t (0 + 1) 0) us) put in
        (omega (arith, next, few), sym (ap (λ t. cond (t && list_all is_put us) (c - suc (length us)) 0) put))
    go true true put all =
        let last : puts_last 0 us ≡ 0 + length us = puts-last 0 us ∙ ap (λ t. cond t (0 + length us) (puts_last 0 us)) all in
        let next : puts_last 0 (u ∷ us) ≡ 1 + length us = ap (λ t. puts_last (cond t (0 + 1) 0) us) put ∙ (puts-last (0 + 1) us ∙ ap (λ t. cond t (0 + 1 + length us) (puts_last 0 us)) all) ∙ omega arith in
        let none : c - length us ≡ 0 = sym (ap (λ t. cond t (c - length us) 0) all) ∙ left put in
        let new : due_left c (u ∷ us) ≡ c - suc (length us) = ap₂ (λ s t. cond (s && t) (c - suc (length us)) 0) put all in
        (omega (arith, last, next, none), omega (arith, new, none))
    go true false put all =
        let next : puts_last 0 (u ∷ us) ≡ puts_last 0 us = ap (λ t. puts_last (cond t (0 + 1) 0) us) put ∙ (puts-last (0 + 1) us ∙ ap (λ t. cond t (0 + 1 + length us) (puts_last 0 us)) all) in
        (omega (arith, next, few), sym (ap₂ (λ s t. cond (s && t) (c - suc (length us)) 0) put all))

-- ---- how many a call has

got-mapped : (script : List CallLine) (i : ℕ) → slice_get (puts_of_script script) i ≡ option_map (λ c. frames_put c.call) (slice_get script i)
got-mapped [] i = refl
got-mapped (c ∷ cs) zero = refl
got-mapped (c ∷ cs) (suc i) = got-mapped cs i

abbrev puts_there : Option CallLine → ℕ
puts_there None = 0
puts_there (Some line) = frames_put line.call

numbered : (script : List CallLine) (k : ℕ) → puts_numbered (puts_of_script script) k ≡ puts_there (line_numbered script k)
numbered script zero = refl
numbered script (suc i) =
    let some : (suc i == 0) ≡ false = ne_eqb (suc i) 0 (λ e. omega (arith, e)) in
    let less : suc i - 1 ≡ i = omega arith in
    ap (λ b. cond b 0 (unwrap_or (slice_get (puts_of_script script) (suc i - 1)) 0)) some
    ∙ ap (λ n. unwrap_or (slice_get (puts_of_script script) n) 0) less
    ∙ ap (λ o. unwrap_or o 0) (got-mapped script i)
    ∙ go (slice_get script i)
  where
    go : (o : Option CallLine) → unwrap_or (option_map (λ c. frames_put c.call) o) 0 ≡ puts_there o
    go None = refl
    go (Some c) = refl

pub puts-are : (script : List CallLine) (k : ℕ) (a : PlainAnswer) → puts_of (line_numbered script k) a ≡ puts_of_line (puts_of_script script) (outline_of (call_line k a))
puts-are script k (refuses w) = go (line_numbered script k)
  where
    go : (o : Option CallLine) → puts_of o (refuses w) ≡ 0
    go None = refl
    go (Some c) = refl
puts-are script k agrees = go (line_numbered script k) ∙ sym (numbered script k)
  where
    go : (o : Option CallLine) → puts_of o agrees ≡ puts_there o
    go None = refl
    go (Some c) = refl
puts-are script k (tells n) = go (line_numbered script k) ∙ sym (numbered script k)
  where
    go : (o : Option CallLine) → puts_of o (tells n) ≡ puts_there o
    go None = refl
    go (Some c) = refl
puts-are script k (connects n c) = go (line_numbered script k) ∙ sym (numbered script k)
  where
    go : (o : Option CallLine) → puts_of o (connects n c) ≡ puts_there o
    go None = refl
    go (Some l) = refl
puts-are script k (gives n bytes) = go (line_numbered script k) ∙ sym (numbered script k)
  where
    go : (o : Option CallLine) → puts_of o (gives n bytes) ≡ puts_there o
    go None = refl
    go (Some c) = refl
puts-are script k (completes place result) = go (line_numbered script k) ∙ sym (numbered script k)
  where
    go : (o : Option CallLine) → puts_of o (completes place result) ≡ puts_there o
    go None = refl
    go (Some c) = refl

-- ---- the lines from one on, behind those before them

record IsFirstCall (t : Parts) : Type 0 where
  nothing : t.behind ≡ []
  puts_then : List (ℕ × List ℕ)
  number : ℕ
  answer : PlainAnswer
  later : List Part
  parts_are : t.parts ≡ call_of puts_then number answer ∷ later

module _ (peers : List ℕ) (rise : AreRising peers) (script : List CallLine) where
  abbrev puts : List ℕ
  puts = puts_of_script script

  record Read (F ls : List Line) (t : Parts) : Type 0 where
    lines : ls ≡ t.behind ++ flat_map part_lines t.parts
    stand : StandBehind (F ++ t.behind) t.parts
    fits : AllByRecursion (Fits peers) t.parts
    turn : AllByRecursion IsOfTurn t.behind
    others : List Outline
    under : under_lines (outlines ls) ≡ outlines t.behind ++ others
    count : own_count (puts_claimed puts (outlines ls)) (under_lines (outlines ls)) ≡ length t.behind
    due : t.due ≡ due_left (puts_claimed puts (outlines ls)) (under_lines (outlines ls))
    call : 0 < t.due → IsFirstCall t

  -- ---- a line more under the one before

  under-more : (F : List Line) (l : Line) (ls : List Line) (t : Parts) → Read (F ++ l ∷ []) ls t → IsOfTurn l → is_under (outline_of l) ≡ true → (is_put (outline_of l) ≡ true → t.due ≡ 0) → Read F (l ∷ ls) (under_part l t)
  under-more F l ls t h turn is left =
      let c : ℕ = puts_claimed puts (outlines ls) in
      let us : List Outline = under_lines (outlines ls) in
      let claimed : puts_claimed puts (outlines (l ∷ ls)) ≡ c = ap (λ b. cond b c (puts_of_line puts (outline_of l))) is in
      let under : under_lines (outlines (l ∷ ls)) ≡ outline_of l ∷ us = ap (λ b. cond b (outline_of l ∷ us) []) is in
      let counts = under-count c (outline_of l) us (λ put. sym h.due ∙ left put) in
      record {
        lines = ap (λ xs. l ∷ xs) h.lines;
        stand = subst (λ xs. StandBehind xs t.parts) (append_assoc F (l ∷ []) t.behind) h.stand;
        fits = h.fits;
        turn = (turn, h.turn);
        others = h.others;
        under = under ∙ ap (λ os. outline_of l ∷ os) h.under;
        count = ap₂ own_count claimed under ∙ counts.0 ∙ ap suc h.count;
        due = counts.1 ∙ sym (ap₂ due_left claimed under);
        call = λ some. absurd (omega (arith, some));
      }

  -- a put that is the call's behind it
  put-more : (F : List Line) (p : ℕ) (f : List ℕ) (ls : List Line) (t : Parts) → Read (F ++ put_line p f ∷ []) ls t → 0 < t.due → Read F (put_line p f ∷ ls) (record { due = t.due - 1; behind = t.behind; parts = with_put p f t.parts })
  put-more F p f ls t h some =
      let call = h.call some in
      let c : ℕ = puts_claimed puts (outlines ls) in
      let us : List Outline = under_lines (outlines ls) in
      let old : Part = call_of call.puts_then call.number call.answer in
      let new : Part = call_of ((p, f) ∷ call.puts_then) call.number call.answer in
      let parts : with_put p f t.parts ≡ new ∷ call.later = ap (with_put p f) call.parts_are in
      let counts = claimed-count c (outline.Put p) us refl (subst (λ n. 0 < n) h.due some) in
      let stood : StandBehind ((F ++ put_line p f ∷ []) ++ []) (old ∷ call.later) = subst (λ xs. StandBehind ((F ++ put_line p f ∷ []) ++ xs) (old ∷ call.later)) call.nothing (subst (StandBehind ((F ++ put_line p f ∷ []) ++ t.behind)) call.parts_are h.stand) in
      let before : ((F ++ put_line p f ∷ []) ++ []) ++ part_lines old ≡ (F ++ []) ++ part_lines new =
      ap (λ xs. xs ++ part_lines old) (append-nil (F ++ put_line p f ∷ [])) ∙ append_assoc F (put_line p f ∷ []) (part_lines old) ∙ ap (λ xs. xs ++ part_lines new) (sym (append-nil F)) in
      record {
        lines =
            ap (λ xs. put_line p f ∷ xs) (h.lines ∙ ap₂ (λ (xs : List Line) (ps : List Part). xs ++ flat_map part_lines ps) call.nothing call.parts_are)
            ∙ sym (ap₂ (λ (xs : List Line) (ps : List Part). xs ++ flat_map part_lines ps) call.nothing parts);
        stand =
            subst (λ xs. StandBehind (F ++ xs) (with_put p f t.parts)) (sym call.nothing)
            (subst (StandBehind (F ++ [])) (sym parts) (tt, subst (λ xs. StandBehind xs call.later) before stood.1));
        fits = subst (AllByRecursion (Fits peers)) (sym parts) (tt, (subst (AllByRecursion (Fits peers)) call.parts_are h.fits).1);
        turn = h.turn;
        others = outline.Put p ∷ us;
        under = sym (ap (λ xs. outlines xs ++ outline.Put p ∷ us) call.nothing);
        count = counts.0 ∙ h.count;
        due = ap (λ n. n - 1) h.due ∙ counts.1;
        call = λ more. record { nothing = call.nothing; puts_then = (p, f) ∷ call.puts_then; number = call.number; answer = call.answer; later = call.later; parts_are = parts };
      }

  -- ---- a line that stands under none

  head-more : (F : List Line) (l : Line) (ls : List Line) (t : Parts) (p : Part) (d : ℕ) → Read (F ++ l ∷ []) ls t → part_lines p ≡ l ∷ t.behind → StandsBehind F p → Fits peers p
      → is_under (outline_of l) ≡ false → d ≡ puts_of_line puts (outline_of l) → (0 < d → IsFirstCall (record { due = d; behind = []; parts = p ∷ t.parts })) → Read F (l ∷ ls) (record { due = d; behind = []; parts = p ∷ t.parts })
  head-more F l ls t p d h is stands fits other number call =
      let claimed : puts_claimed puts (outlines (l ∷ ls)) ≡ d = ap (λ b. cond b (puts_claimed puts (outlines ls)) (puts_of_line puts (outline_of l))) other ∙ sym number in
      let under : under_lines (outlines (l ∷ ls)) ≡ [] = ap (λ b. cond b (outline_of l ∷ under_lines (outlines ls)) []) other in
      let before : (F ++ l ∷ []) ++ t.behind ≡ (F ++ []) ++ part_lines p = append_assoc F (l ∷ []) t.behind ∙ ap₂ (λ (xs ys : List Line). xs ++ ys) (sym (append-nil F)) (sym is) in
      record {
        lines = ap (λ xs. l ∷ xs) h.lines ∙ ap (λ xs. xs ++ flat_map part_lines t.parts) (sym is);
        stand = (subst (λ xs. StandsBehind xs p) (sym (append-nil F)) stands, subst (λ xs. StandBehind xs t.parts) before h.stand);
        fits = (fits, h.fits);
        turn = tt;
        others = [];
        under = under;
        count = ap₂ own_count claimed under ∙ none d;
        due = left d ∙ sym (ap₂ due_left claimed under);
        call = call;
      }
    where
      none : (c : ℕ) → own_count c [] ≡ 0
      none c = omega arith

      left : (c : ℕ) → c ≡ due_left c []
      left c = omega arith

  -- what the first pass asks of the lines under a line
  nothing-own : (F ls : List Line) (t : Parts) → Read F ls t → own_place false (own_count (puts_claimed puts (outlines ls)) (under_lines (outlines ls))) (under_lines (outlines ls)) ≡ None → t.behind ≡ []
  nothing-own F ls t h e = none t.behind (sym h.count ∙ zero-count (own_count (puts_claimed puts (outlines ls)) (under_lines (outlines ls))) (under_lines (outlines ls)) e)
    where
      none : (xs : List Line) → length xs ≡ 0 → xs ≡ []
      none [] e = refl
      none (x ∷ xs) e = absurd (omega (arith, e))

      zero-count : (n : ℕ) (us : List Outline) → own_place false n us ≡ None → n ≡ 0
      zero-count n us e = go (n == 0) refl e
        where
          go : (b : Bool) → (n == 0) ≡ b → cond b None (Some (puts_first us)) ≡ None → n ≡ 0
          go true is e = eqb-true n 0 is
          go false is e = absurd cc

  record TurnIs (behind : List Line) : Type 0 where
    lines : behind ≡ flat_map visit_lines (map (visit_in behind) peers)
    busy : list_all is_idle (map (visit_in behind) peers) ≡ false

  own-turn : (F ls : List Line) (t : Parts) → Read F ls t → impossible_place peers (under_lines (outlines ls)) ≡ None → own_place true (own_count (puts_claimed puts (outlines ls)) (under_lines (outlines ls))) (under_lines (outlines ls)) ≡ None → TurnIs t.behind
  own-turn F ls t h possible e =
      let us : List Outline = outlines t.behind ++ h.others in
      let order = some-count (length t.behind) us (subst (λ vs. own_place true (length t.behind) vs ≡ None) h.under (subst (λ n. own_place true n (under_lines (outlines ls)) ≡ None) h.count e)) in
      let lines = turn-lines peers t.behind h.others rise h.turn (subst (λ vs. impossible_place peers vs ≡ None) h.under possible) order.1 in
      record { lines = lines; busy = not-idle t.behind order.0 lines }
    where
      some-count : (n : ℕ) (us : List Outline) → own_place true n us ≡ None → (n ≡ 0 → ⊥) × (order_place n 0 None us ≡ None)
      some-count n us e = go (n == 0) refl e
        where
          other : (n == 0) ≡ false → n ≡ 0 → ⊥
          other is z = let same : (n == 0) ≡ true = ap (λ m. m == 0) z in let no : true ≡ false = sym same ∙ is in absurd cc

          go : (b : Bool) → (n == 0) ≡ b → cond b (Some (length us)) (order_place n 0 None us) ≡ None → (n ≡ 0 → ⊥) × (order_place n 0 None us ≡ None)
          go true is e = absurd cc
          go false is e = (other is, e)

      no-lines : (ps : List ℕ) → flat_map visit_lines (map (visit_in []) ps) ≡ []
      no-lines [] = refl
      no-lines (p ∷ ps) = no-lines ps

      not-idle : (behind : List Line) → (length behind ≡ 0 → ⊥) → behind ≡ flat_map visit_lines (map (visit_in behind) peers) → list_all is_idle (map (visit_in behind) peers) ≡ false
      not-idle behind some lines = go (list_all is_idle (map (visit_in behind) peers)) refl
        where
          vs : List Visit
          vs = map (visit_in behind) peers

          go : (b : Bool) → list_all is_idle (map (visit_in behind) peers) ≡ b → list_all is_idle (map (visit_in behind) peers) ≡ false
          go false e = e
          go true e = absurd (some (ap (λ xs. length xs) (lines ∙ ap (flat_map visit_lines) (sym (idle_is (map (visit_in behind) peers) e)) ∙ no-lines (map (λ v. v.peer) (map (visit_in behind) peers)))))

  turn-peers : (behind : List Line) (ps : List ℕ) → map (λ v. v.peer) (map (visit_in behind) ps) ≡ ps
  turn-peers behind [] = refl
  turn-peers behind (p ∷ ps) = ap (λ ns. p ∷ ns) (turn-peers behind ps)

  record Head (last : Option Outline) (l : Outline) (ls : List Outline) : Type 0 where
    stands_so : stands last l ≡ true
    possible : impossible_place peers (under_lines ls) ≡ None
    own : own_place (is_turn l) (own_count (puts_claimed puts ls) (under_lines ls)) (under_lines ls) ≡ None

  head-is : (last : Option Outline) (l : Outline) (ls : List Outline) → head_place peers puts last l ls ≡ None → Head last l ls
  head-is last l ls e =
      let one = none-if (stands last l) (moved 1 (under_place peers (is_turn l) (puts_claimed puts ls) (under_lines ls))) 0 e in
      let two = none-sooner (impossible_place peers (under_lines ls)) (own_place (is_turn l) (own_count (puts_claimed puts ls) (under_lines ls)) (under_lines ls)) (none-moved 1 _ one.1) in
      record { stands_so = one.0; possible = two.0; own = two.1 }

  lines-read : (ls F : List Line) (last : Option Outline) → option_map outline_of (last_line F) ≡ last → place_from peers puts last (outlines ls) ≡ None → Read F ls (parts_from peers script ls)
  lines-read [] F last is e = record {
    lines = refl;
    stand = tt;
    fits = tt;
    turn = tt;
    others = [];
    under = refl;
    count = omega arith;
    due = omega arith;
    call = λ some. absurd (omega (arith, some));
  }
  lines-read (back_line p n ∷ ls) F last is e =
      let h = lines-read ls (F ++ back_line p n ∷ []) (Some (outline.Back p n)) (ap (option_map outline_of) (last-is F (back_line p n))) (none-moved 1 _ e) in
      under-more F (back_line p n) ls (parts_from peers script ls) h tt refl (λ no. absurd cc)
  lines-read (see_line p n ∷ ls) F last is e =
      let h = lines-read ls (F ++ see_line p n ∷ []) (Some (outline.See p n)) (ap (option_map outline_of) (last-is F (see_line p n))) (none-moved 1 _ e) in
      under-more F (see_line p n) ls (parts_from peers script ls) h tt refl (λ no. absurd cc)
  lines-read (take_line p f w ∷ ls) F last is e =
      let h = lines-read ls (F ++ take_line p f w ∷ []) (Some (outline.Take p)) (ap (option_map outline_of) (last-is F (take_line p f w))) (none-moved 1 _ e) in
      under-more F (take_line p f w) ls (parts_from peers script ls) h tt refl (λ no. absurd cc)
  lines-read (put_line p f ∷ ls) F last is e =
      let h = lines-read ls (F ++ put_line p f ∷ []) (Some (outline.Put p)) (ap (option_map outline_of) (last-is F (put_line p f))) (none-moved 1 _ e) in
      go (parts_from peers script ls) h (nat_lt 0 (parts_from peers script ls).due) refl
    where
      go : (t : Parts) → Read (F ++ put_line p f ∷ []) ls t → (b : Bool) → nat_lt 0 t.due ≡ b → Read F (put_line p f ∷ ls) (cond b (record { due = t.due - 1; behind = t.behind; parts = with_put p f t.parts }) (under_part (put_line p f) t))
      go t h true is = let some : 0 < t.due = grind (arith, nat_tests) in put-more F p f ls t h some
      go t h false is = let none : t.due ≡ 0 = let le : t.due ≤ 0 = grind (arith, nat_tests) in omega (arith, le) in under-more F (put_line p f) ls t h tt refl (λ put. none)
  lines-read (idle_line n ∷ ls) F last is e =
      let both = none-either (head_place peers puts last (outline.Idle n) (outlines ls)) (moved 1 (place_from peers puts (Some (outline.Idle n)) (outlines ls))) e in
      let h = lines-read ls (F ++ idle_line n ∷ []) (Some (outline.Idle n)) (ap (option_map outline_of) (last-is F (idle_line n))) (none-moved 1 _ both.1) in
      let head = head-is last (outline.Idle n) (outlines ls) both.0 in
      let parts = and_parts (is_count n) (not (joins_idle last)) head.stands_so in
      let count = count-is n parts.0 in
      let alone = joins-none (last_line F) (ap joins_idle is ∙ not-true (joins_idle last) parts.1) in
      head-more F (idle_line n) ls (parts_from peers script ls) (idles n) 0 h (ap (λ xs. idle_line n ∷ xs) (sym (nothing-own (F ++ idle_line n ∷ []) ls (parts_from peers script ls) h head.own))) (count, alone) count refl refl (λ some. absurd (omega (arith, some)))
  lines-read (spin_line n w ∷ ls) F last is e =
      let both = none-either (head_place peers puts last (outline.Spin n w) (outlines ls)) (moved 1 (place_from peers puts (Some (outline.Spin n w)) (outlines ls))) e in
      let h = lines-read ls (F ++ spin_line n w ∷ []) (Some (outline.Spin n w)) (ap (option_map outline_of) (last-is F (spin_line n w))) (none-moved 1 _ both.1) in
      let head = head-is last (outline.Spin n w) (outlines ls) both.0 in
      let parts = and_parts (is_count n) (not (joins_idle last) && not (joins_spin w last)) head.stands_so in
      let rest = and_parts (not (joins_idle last)) (not (joins_spin w last)) parts.1 in
      let count = count-is n parts.0 in
      let alone = joins-none (last_line F) (ap joins_idle is ∙ not-true (joins_idle last) rest.0) in
      let apart = spins-none w (last_line F) (ap (joins_spin w) is ∙ not-true (joins_spin w last) rest.1) in
      head-more F (spin_line n w) ls (parts_from peers script ls) (spins n w) 0 h (ap (λ xs. spin_line n w ∷ xs) (sym (nothing-own (F ++ spin_line n w ∷ []) ls (parts_from peers script ls) h head.own))) (count, alone, apart) count refl refl (λ some. absurd (omega (arith, some)))
  lines-read (again_line w ∷ ls) F last is e =
      let both = none-either (head_place peers puts last (outline.Again w) (outlines ls)) (moved 1 (place_from peers puts (Some (outline.Again w)) (outlines ls))) e in
      let h = lines-read ls (F ++ again_line w ∷ []) (Some (outline.Again w)) (ap (option_map outline_of) (last-is F (again_line w))) (none-moved 1 _ both.1) in
      let head = head-is last (outline.Again w) (outlines ls) both.0 in
      let apart = one-none (last_line F) (ap is_one_idle is ∙ not-true (is_one_idle last) head.stands_so) in
      head-more F (again_line w) ls (parts_from peers script ls) (tries w) 0 h (ap (λ xs. again_line w ∷ xs) (sym (nothing-own (F ++ again_line w ∷ []) ls (parts_from peers script ls) h head.own))) apart tt refl refl (λ some. absurd (omega (arith, some)))
  lines-read (wait_line k ∷ ls) F last is e =
      let both = none-either (head_place peers puts last outline.Wait (outlines ls)) (moved 1 (place_from peers puts (Some outline.Wait) (outlines ls))) e in
      let h = lines-read ls (F ++ wait_line k ∷ []) (Some outline.Wait) (ap (option_map outline_of) (last-is F (wait_line k))) (none-moved 1 _ both.1) in
      let head = head-is last outline.Wait (outlines ls) both.0 in
      head-more F (wait_line k) ls (parts_from peers script ls) (wait_of k) 0 h (ap (λ xs. wait_line k ∷ xs) (sym (nothing-own (F ++ wait_line k ∷ []) ls (parts_from peers script ls) h head.own))) tt tt refl refl (λ some. absurd (omega (arith, some)))
  lines-read (call_line k a ∷ ls) F last is e =
      let o : Outline = outline_of (call_line k a) in
      let both = none-either (head_place peers puts last o (outlines ls)) (moved 1 (place_from peers puts (Some o) (outlines ls))) e in
      let h = lines-read ls (F ++ call_line k a ∷ []) (Some o) (ap (option_map outline_of) (last-is F (call_line k a))) (none-moved 1 _ both.1) in
      let head = head-is last o (outlines ls) both.0 in
      let t : Parts = parts_from peers script ls in
      head-more F (call_line k a) ls t (call_of [] k a) (puts_of (line_numbered script k) a) h (ap (λ xs. call_line k a ∷ xs) (sym (nothing-own (F ++ call_line k a ∷ []) ls t h head.own))) tt tt refl (puts-are script k a)
      (λ some. record { nothing = refl; puts_then = []; number = k; answer = a; later = t.parts; parts_are = refl })
  lines-read (turn_line ∷ ls) F last is e =
      let both = none-either (head_place peers puts last outline.Turn (outlines ls)) (moved 1 (place_from peers puts (Some outline.Turn) (outlines ls))) e in
      let h = lines-read ls (F ++ turn_line ∷ []) (Some outline.Turn) (ap (option_map outline_of) (last-is F turn_line)) (none-moved 1 _ both.1) in
      let head = head-is last outline.Turn (outlines ls) both.0 in
      let t : Parts = parts_from peers script ls in
      let turn = own-turn (F ++ turn_line ∷ []) ls t h head.possible head.own in
      head-more F turn_line ls t (turn_of (map (visit_in t.behind) peers)) 0 h (ap (λ xs. turn_line ∷ xs) (sym turn.lines)) turn.busy (turn-peers t.behind peers) refl refl (λ some. absurd (omega (arith, some)))

  -- a journal in which none is out of place
  pub record AreParts (ls : List Line) : Type 0 where
    pub lines : ls ≡ flat_map part_lines (parts_in peers script ls)
    pub stand : StandBehind [] (parts_in peers script ls)
    pub fits : AllByRecursion (Fits peers) (parts_in peers script ls)

  pub journal-parts : (ls : List Line) → journal_place peers puts (outlines ls) ≡ None → AreParts ls
  journal-parts ls e =
      let both = none-either (under_place peers false (puts_claimed puts (outlines ls)) (under_lines (outlines ls))) (place_from peers puts None (outlines ls)) e in
      let own = none-sooner (impossible_place peers (under_lines (outlines ls))) (own_place false (own_count (puts_claimed puts (outlines ls)) (under_lines (outlines ls))) (under_lines (outlines ls))) both.0 in
      let t : Parts = parts_from peers script ls in
      let h = lines-read ls [] None refl both.1 in
      let none = nothing-own [] ls t h own.1 in
      record { lines = h.lines ∙ ap (λ xs. xs ++ flat_map part_lines t.parts) none; stand = subst (λ xs. StandBehind xs t.parts) none h.stand; fits = h.fits }
