use Rattle.domain_parts.proofs.Pieces.{begins-so}
use Rattle.domain_parts.proofs.parts.Piece.begins.Goals as goal

pub returns : goal.returns
returns c = λ q is. begins-so c.args.self.now q is
