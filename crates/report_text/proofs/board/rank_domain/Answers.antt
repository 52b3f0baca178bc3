use Rattle.std.proofs.Common.{◌≡◌, true, cond, ap, ◌∙◌}
use Rattle.std.specs.Prelude.{insert, is_ok, not}
use Rattle.report_text.specs.Ranks.{domain_rank}
use Rattle.report_text.proofs.RanksFound.{domain-ranked}
use Rattle.report_text.proofs.board.rank_domain.Goals as goal

pub returns : goal.returns
returns c =
    let lines = c.args.lines.now.items in
    let line = c.args.line in
    let ok : is_ok c.insert.result ≡ true = c.is_err.ensures.negation ∙ ap not c.if-is_err.false in
    c.insert.ensures.items
    ∙ ap (λ t. cond t (insert lines c.domain_rank-rank.result line) lines) ok
    ∙ ap (λ n. insert lines n line) (c.domain_rank-rank.ensures.value ∙ ap (domain_rank line.domain) c.deref.ensures.value)
    ∙ domain-ranked line lines
