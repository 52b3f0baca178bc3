use Rattle.std.proofs.Common.{◌≡◌, ℕ, ap, sym, ◌∙◌, List, [], ◌∷◌, length, append-nil, Some, None, arith}
use Rattle.std.specs.Prelude.{option_map}
use Rattle.mc_journal.specs.Readers.{cut_at}
use Rattle.report_text.specs.ScenarioPart.{front_lines, text_of}
use Rattle.report_text.specs.TextLines.{lines_in}
use Rattle.report_text.proofs.TextFronts.{front-none, front-more, front-last, front-rest}
use Rattle.report_text.proofs.scenario.front_size.Goals as goal

pub returns-then-begins_journal-clause-bytes : goal.returns-then-begins_journal-clause-bytes
returns-then-begins_journal-clause-bytes c =
    let x : List ℕ × List ℕ = (c.in-Some.line.now, c.in-Some.after.now) in
    let cut : cut_at 10 c.loop-line.rest.now ≡ Some x = sym c.cut.ensures.value ∙ ap (option_map (λ y. (y.0.now, y.1.now))) c.in-Some.is in
    let empty = front-none c.loop-line.rest.now x cut (sym c.begins_journal.ensures ∙ c.if-begins_journal.true) in
    let size : length (text_of (front_lines (lines_in c.loop-line.rest.now))) ≡ 0 = ap (λ ls. length (text_of ls)) empty in
    omega (arith, c.loop-line.invariant.bytes, size)

pub returns-then-begins_journal-clause-lines : goal.returns-then-begins_journal-clause-lines
returns-then-begins_journal-clause-lines c =
    let x : List ℕ × List ℕ = (c.in-Some.line.now, c.in-Some.after.now) in
    let cut : cut_at 10 c.loop-line.rest.now ≡ Some x = sym c.cut.ensures.value ∙ ap (option_map (λ y. (y.0.now, y.1.now))) c.in-Some.is in
    let empty = front-none c.loop-line.rest.now x cut (sym c.begins_journal.ensures ∙ c.if-begins_journal.true) in
    let size : length (front_lines (lines_in c.loop-line.rest.now)) ≡ 0 = ap (λ ls. length ls) empty in
    omega (arith, c.loop-line.invariant.lines, size)

pub loop-line-preserved : goal.loop-line-preserved
loop-line-preserved c =
    let x : List ℕ × List ℕ = (c.in-Some.line.now, c.in-Some.after.now) in
    let cut : cut_at 10 c.loop-line.rest.now ≡ Some x = sym c.cut.ensures.value ∙ ap (option_map (λ y. (y.0.now, y.1.now))) c.in-Some.is in
    let more = front-more c.loop-line.rest.now x cut (sym c.begins_journal.ensures ∙ c.if-begins_journal.false) in
    let short = c.in-Some.ensures.shorter in
    record {
      bytes = omega (arith, c.loop-line.invariant.bytes, more.more_bytes);
      lines = omega (arith, c.loop-line.invariant.lines, more.more_lines);
      within = omega (arith, c.loop-line.invariant.within, short);
      few = omega (arith, c.loop-line.invariant.few);
    }

pub returns-then-begins_journal-2-clause-bytes : goal.returns-then-begins_journal-2-clause-bytes
returns-then-begins_journal-2-clause-bytes c =
    let none : cut_at 10 c.loop-line.rest.now ≡ None = sym c.cut.ensures.value ∙ ap (option_map (λ y. (y.0.now, y.1.now))) c.in_default.is in
    let empty = front-last c.loop-line.rest.now none (sym c.is_empty.ensures ∙ c.if-is_empty.false) (sym c.begins_journal-2.ensures ∙ c.if-begins_journal-2.true) in
    let size : length (text_of (front_lines (lines_in c.loop-line.rest.now))) ≡ 0 = ap (λ ls. length (text_of ls)) empty in
    omega (arith, c.loop-line.invariant.bytes, size)

pub returns-then-begins_journal-2-clause-lines : goal.returns-then-begins_journal-2-clause-lines
returns-then-begins_journal-2-clause-lines c =
    let none : cut_at 10 c.loop-line.rest.now ≡ None = sym c.cut.ensures.value ∙ ap (option_map (λ y. (y.0.now, y.1.now))) c.in_default.is in
    let empty = front-last c.loop-line.rest.now none (sym c.is_empty.ensures ∙ c.if-is_empty.false) (sym c.begins_journal-2.ensures ∙ c.if-begins_journal-2.true) in
    let size : length (front_lines (lines_in c.loop-line.rest.now)) ≡ 0 = ap (λ ls. length ls) empty in
    omega (arith, c.loop-line.invariant.lines, size)

pub returns-clause-bytes : goal.returns-clause-bytes
returns-clause-bytes c =
    let none : cut_at 10 c.loop-line.rest.now ≡ None = sym c.cut.ensures.value ∙ ap (option_map (λ y. (y.0.now, y.1.now))) c.in_default.is in
    let one = front-rest c.loop-line.rest.now none (sym c.is_empty.ensures ∙ c.if-is_empty.false) (sym c.begins_journal-2.ensures ∙ c.if-begins_journal-2.false) in
    let size : length (text_of (front_lines (lines_in c.loop-line.rest.now))) ≡ length c.loop-line.rest.now = ap (λ ls. length (text_of ls)) one ∙ ap (λ t. length t) (append-nil c.loop-line.rest.now) in
    omega (arith, c.loop-line.invariant.bytes, size)

pub returns-clause-lines : goal.returns-clause-lines
returns-clause-lines c =
    let none : cut_at 10 c.loop-line.rest.now ≡ None = sym c.cut.ensures.value ∙ ap (option_map (λ y. (y.0.now, y.1.now))) c.in_default.is in
    let one = front-rest c.loop-line.rest.now none (sym c.is_empty.ensures ∙ c.if-is_empty.false) (sym c.begins_journal-2.ensures ∙ c.if-begins_journal-2.false) in
    let size : length (front_lines (lines_in c.loop-line.rest.now)) ≡ length (c.loop-line.rest.now ∷ []) = ap (λ ls. length ls) one in
    omega (arith, c.loop-line.invariant.lines, size)
