use Rattle.std.proofs.Common.{◌≡◌, ◌<◌, [], ◌∷◌, ◌++◌, set, Some, length, sym, ap, ◌∙◌, subst, arith}
use Rattle.mc_journal.specs.Entry.{line_of_entry}
use Rattle.mc_journal.specs.Spelled.{spelled_line}
use Rattle.report_text.specs.LaneLines.{LaneLine, lane_of}
use Rattle.report_check.specs.ToldTurns.{AreToldPeers, peer_on}
use Rattle.report_check.proofs.ToldLines.{all-with}
use Rattle.report_check.proofs.told_turn.note.Goals as goal

pub returns-in-Some-clause-told : goal.returns-in-Some-clause-told
returns-in-Some-clause-told c = λ ks is told.
    let k : LaneLine = lane_of (spelled_line (line_of_entry c.args.entry)) in
    let small : c.from-place.result < 8 = omega (arith, c.from-place.ensures) in
    let within : c.from-place.result < length c.args.peers.now = omega (arith, c.told-peers) in
    let on : peer_on k ≡ Some c.from-place.result = sym c.in-Some.ensures ∙ ap Some (sym c.from-place.ensures) in
    subst (λ t. AreToldPeers (set c.args.peers.now c.from-place.result t) (ks ++ k ∷ [])) (sym c.noted.ensures.told)
    (all-with c.args.peers.now ks k c.from-place.result c.args.line _ within small on is told)
