use Rattle.std.proofs.Common.{◌∙◌, arith, sym}
use Rattle.domain_parts.proofs.PieceReadings.{piece-read}
use Rattle.domain_parts.proofs.dealing.deal_with.Goals as goal

pub deal_piece-requires-clause-small : goal.deal_piece-requires-clause-small
deal_piece-requires-clause-small c = λ o found.
    let piece = c.in-Some.piece in
    let is = rw c.in-Some.is at c.piece_of.ensures in
    let carries = piece-read c.args.frame.now piece.source piece.destination is.0 (sym is.1 ∙ c.read_frame-said.ensures) in
    let within = carries.within in
    let most = carries.most in
    let size = is.2.size in
    let small = c.requires.small o found in
    omega (arith, within, most, size, small)

pub returns-in-Some : goal.returns-in-Some
returns-in-Some c = λ b s name shows part.
    let is = rw c.in-Some.is at c.piece_of.ensures in
    c.deal_piece.ensures c.args.frame.now is.0 (sym is.1 ∙ c.read_frame-said.ensures) is.2 c.args.known.now c.args.replies.now b s name shows part
