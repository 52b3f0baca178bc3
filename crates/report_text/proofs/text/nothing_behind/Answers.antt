use Rattle.std.proofs.Common.{cond, ap, sym, ◌∙◌, Ok, Err}
use Rattle.report_text.specs.Texts.{rest_of}
use Rattle.report_text.proofs.TextCuts.{lines-some}
use Rattle.report_text.proofs.text.nothing_behind.Goals as goal

pub returns-else-is_empty : goal.returns-else-is_empty
returns-else-is_empty c =
    let some = lines-some c.args.unread.text.now (sym c.is_empty.ensures ∙ c.if-is_empty.false) in
    sym (ap (λ t. cond t (Ok (rest_of c.args.unread)) (Err c.args.unread.number)) some)
