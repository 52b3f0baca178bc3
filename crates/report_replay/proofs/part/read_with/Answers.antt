use Rattle.std.proofs.Common.{◌≡◌, Option, ap, sym, ◌∙◌}
use Rattle.name_service.specs.Said.{reading_of}
use Rattle.board_model.specs.Parts.{Coming, piece_coming}
use Rattle.board_model.specs.State.{Part}
use Rattle.report_replay.specs.Coming.{piece_of}
use Rattle.report_replay.proofs.Comings.{open-with}
use Rattle.report_replay.proofs.part.read_with.Goals as goal

pub returns-clause-says : goal.returns-clause-says
returns-clause-says c =
    let p = c.in-Some-part.part in
    let piece = c.in-Some.piece in
    let same : c.args.before.now ≡ c.take-part.result = cc in
    let is = open-with c.args.before.now (reading_of c.args.said) piece.source piece.destination (piece_of piece) c.in-Some.ensures c.in-Some-part.joins p c.grow.new.self
    (ap (λ (o : Option Part). piece_coming o piece.source piece.destination (piece_of piece)) same ∙ c.in-Some-part.ensures) c.in_ok-grow.ensures (sym c.if-is_whole.ensures) in
    (p.source, p.destination, piece_of piece, c.grow.new.self, ap (λ (x : Coming). x.reading) is, ap (λ (x : Coming). x.part) is)
