use Rattle.std.proofs.Common.{◌≡◌, true, cond, ap, ◌∙◌}
use Rattle.std.specs.Prelude.{insert, is_ok, not}
use Rattle.report_text.specs.Ranks.{neighbour_rank}
use Rattle.report_text.specs.Texts.{neighbours_of}
use Rattle.report_text.proofs.RanksFound.{neighbour-ranked}
use Rattle.report_text.proofs.board.rank_neighbour.Goals as goal

pub returns : goal.returns
returns c =
    let found = c.args.found.now.items in
    let other = c.args.neighbour in
    let ok : is_ok c.insert.result ≡ true = c.is_err.ensures.negation ∙ ap not c.if-is_err.false in
    ap neighbours_of
    (c.insert.ensures.items
    ∙ ap (λ t. cond t (insert found c.neighbour_rank-rank.result other) found) ok
    ∙ ap (λ n. insert found n other) (c.neighbour_rank-rank.ensures.value ∙ ap (λ ns. neighbour_rank other.number (neighbours_of ns)) c.deref.ensures.value))
    ∙ neighbour-ranked other found
