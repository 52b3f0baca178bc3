use Rattle.std.proofs.Common.{◌≡◌, ◌+◌, ℕ, List, cond, ap, sym, ◌∙◌, Some, None, Ok, Err, arith}
use Rattle.std.specs.Prelude.{option_map}
use Rattle.mc_journal.specs.Readers.{cut_at}
use Rattle.report_text.specs.TextLines.{lines_in}
use Rattle.report_text.specs.ScenarioPart.{rest}
use Rattle.report_text.specs.Texts.{form_of}
use Rattle.report_text.proofs.TextCuts.{longest-cut, one_line-cut, one_line-uncut}
use Rattle.report_text.proofs.pieces.read_line.Goals as goal

pub returns-in_default-clause-value : goal.returns-in_default-clause-value
returns-in_default-clause-value c =
    let none : cut_at 10 c.args.unread.text.now ≡ None = sym c.cut.ensures.value ∙ ap (option_map (λ y. (y.0.now, y.1.now))) c.in_default.is in
    sym (one_line-uncut (form_of c.args.form.now) c.args.unread.number c.args.unread.text.now none)

pub returns-then-not-are_pieces-clause-value : goal.returns-then-not-are_pieces-clause-value
returns-then-not-are_pieces-clause-value c =
    let x : List ℕ × List ℕ = (c.in-Some.line.now, c.in-Some.text.now) in
    let cut : cut_at 10 c.args.unread.text.now ≡ Some x = sym c.cut.ensures.value ∙ ap (option_map (λ y. (y.0.now, y.1.now))) c.in-Some.is in
    sym (one_line-cut (form_of c.args.form.now) c.args.unread.number c.args.unread.text.now x cut
    ∙ ap (λ t. cond t (Ok (rest (c.args.unread.number + 1) (lines_in x.1))) (Err c.args.unread.number)) (sym c.are_pieces.ensures ∙ c.if-not-are_pieces.true))

pub returns-clause-value : goal.returns-clause-value
returns-clause-value c =
    let x : List ℕ × List ℕ = (c.in-Some.line.now, c.in-Some.text.now) in
    let cut : cut_at 10 c.args.unread.text.now ≡ Some x = sym c.cut.ensures.value ∙ ap (option_map (λ y. (y.0.now, y.1.now))) c.in-Some.is in
    sym (one_line-cut (form_of c.args.form.now) c.args.unread.number c.args.unread.text.now x cut
    ∙ ap (λ t. cond t (Ok (rest (c.args.unread.number + 1) (lines_in x.1))) (Err c.args.unread.number)) (sym c.are_pieces.ensures ∙ c.if-not-are_pieces.false))

pub returns-clause-past : goal.returns-clause-past
returns-clause-past c =
    let x : List ℕ × List ℕ = (c.in-Some.line.now, c.in-Some.text.now) in
    let cut : cut_at 10 c.args.unread.text.now ≡ Some x = sym c.cut.ensures.value ∙ ap (option_map (λ y. (y.0.now, y.1.now))) c.in-Some.is in
    let short = c.in-Some.ensures.shorter in
    record {
      behind = record {
        few = omega (arith, short);
        shorter = omega (arith, short);
        fits = omega (arith, longest-cut c.args.unread.text.now x cut);
      };
      past = omega (arith, short);
    }
