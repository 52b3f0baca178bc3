use Rattle.std.proofs.Common.{◌<◌, ◌∙◌, arith, ap, length, ℕ, ◌++◌, ◌∷◌, []}
use Rattle.board_model.specs.Deeds.{looks_ahead}
use Rattle.board_model.specs.Journal.{back_line, see_line}
use Rattle.domain_parts.specs.Beginning.{look_lines}
use Rattle.lane_end.specs.ReceiveMoves as receiving
use Rattle.domain_parts.specs.LaneMoves.{receiver}
use Rattle.domain_parts.specs.LaneSeen.{LaneSeen}
use Rattle.domain_parts.specs.Parts.{peer_at}
use Rattle.domain_parts.proofs.Turning.{did-numbers, did-rests, doing-ends, same-length}
use Rattle.domain_parts.proofs.Visiting.{visited}
use Rattle.domain_parts.proofs.holdings.Holdings.visit_peer.Goals as goal

pub put_owed-begun-requires-clause-rests : goal.put_owed-begun-requires-clause-rests
put_owed-begun-requires-clause-rests g c =
    let d = c.look_back-back.ensures.doing in
    did-rests g.P.PeerLane.Moved g.met.P.PeerLane.none d.steps c.args.self.now c.look_back-back.new.self d.did

pub put_owed-begun-requires-clause-within : goal.put_owed-begun-requires-clause-within
put_owed-begun-requires-clause-within g c =
    let d = c.look_back-back.ensures.doing in
    let long = same-length c.args.self.now.parts c.look_back-back.new.self.parts (did-numbers g.P.PeerLane.Moved d.steps c.args.self.now c.look_back-back.new.self d.did) in
    omega (arith, long, c.requires.within)

pub look_ahead-see-requires : goal.look_ahead-see-requires
look_ahead-see-requires g c =
    let M = g.P.PeerLane.Moved in
    let d = c.look_back-back.ensures.doing in
    let e = c.put_owed-begun.ensures.puts.puts.doing in
    let numbers = did-numbers M e.steps c.look_back-back.new.self c.put_owed-begun.new.self e.did ∙ did-numbers M d.steps c.args.self.now c.look_back-back.new.self d.did in
    let long = same-length c.args.self.now.parts c.put_owed-begun.new.self.parts numbers in
    omega (arith, long, c.requires.within)

pub take_frames-requires-clause-rests : goal.take_frames-requires-clause-rests
take_frames-requires-clause-rests g c =
    let d = c.look_ahead-see.ensures.doing in
    did-rests g.P.PeerLane.Moved g.met.P.PeerLane.none d.steps c.put_owed-begun.new.self c.look_ahead-see.new.self d.did

pub take_frames-requires-clause-within : goal.take_frames-requires-clause-within
take_frames-requires-clause-within g c =
    let M = g.P.PeerLane.Moved in
    let d = c.look_back-back.ensures.doing in
    let e = c.put_owed-begun.ensures.puts.puts.doing in
    let f = c.look_ahead-see.ensures.doing in
    let numbers = did-numbers M f.steps c.put_owed-begun.new.self c.look_ahead-see.new.self f.did ∙ did-numbers M e.steps c.look_back-back.new.self c.put_owed-begun.new.self e.did ∙ did-numbers M d.steps c.args.self.now c.look_back-back.new.self d.did in
    let long = same-length c.args.self.now.parts c.look_ahead-see.new.self.parts numbers in
    omega (arith, long, c.requires.within)

pub take_frames-requires-clause-shown : goal.take_frames-requires-clause-shown
take_frames-requires-clause-shown g c =
    let M = g.P.PeerLane.Moved in
    let d = c.look_back-back.ensures.doing in
    let e = c.put_owed-begun.ensures.puts.puts.doing in
    let numbers = did-numbers M e.steps c.look_back-back.new.self c.put_owed-begun.new.self e.did ∙ did-numbers M d.steps c.args.self.now c.look_back-back.new.self d.did in
    let long = same-length c.args.self.now.parts c.put_owed-begun.new.self.parts numbers in
    let within : c.args.place < length c.put_owed-begun.new.self.parts.peers = omega (arith, long, c.requires.within) in
    let peer = (peer_at c.put_owed-begun.new.self.parts c.args.place).number in
    let ends = doing-ends M (looks_ahead peer c.look_ahead-see.result ∷ []) (receiver (receiving.Looked c.look_ahead-see.result) ∷ []) c.put_owed-begun.new.self c.look_ahead-see.new.self c.args.place within c.look_ahead-see.ensures.doing in
    let shown = ap (λ (l : LaneSeen). l.shown) ends in
    omega (arith, shown, c.min-count.ensures)

pub returns-clause-visits : goal.returns-clause-visits
returns-clause-visits g c =
    let back = c.look_back-back.ensures in
    let ahead = c.look_ahead-see.ensures in
    let number = c.number_at-peer.ensures.number in
    visited g.P.PeerLane.Moved g.met.P.PeerLane.both c.args.place c.look_back-back.result c.look_ahead-see.result c.min-count.result c.args.begun c.note_back-begun.result c.put_owed-begun.result c.note_see-begun.result c.args.self.now c.look_back-back.new.self c.put_owed-begun.new.self c.look_ahead-see.new.self c.take_frames.new.self
    c.args.journal.now.lines c.note_back-begun.new.journal.lines c.put_owed-begun.new.journal.lines c.note_see-begun.new.journal.lines c.take_frames.new.journal.lines c.requires.within c.number_at-peer.ensures.sound
    back.doing back.fits back.owed (c.note_back-begun.ensures.lines ∙ ap (λ (n : ℕ). c.args.journal.now.lines ++ look_lines c.args.begun (back_line n) c.look_back-back.result) number) c.note_back-begun.ensures.begins
    c.put_owed-begun.ensures.puts ahead.doing ahead.more ahead.fits (c.note_see-begun.ensures.lines ∙ ap (λ (n : ℕ). c.put_owed-begun.new.journal.lines ++ look_lines c.put_owed-begun.result (see_line n) c.look_ahead-see.result) number) c.note_see-begun.ensures.begins
    c.take_frames.ensures.takes c.min-count.ensures
