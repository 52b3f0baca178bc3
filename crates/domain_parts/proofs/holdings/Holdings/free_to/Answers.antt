use Rattle.std.proofs.Common.{◌≡◌, ◌<◌, ◌∙◌, ap, sym, subst, length, None, Some, Option}
use Rattle.std.specs.Prelude.{option_map, position, unwrap_or, ◌==◌}
use Rattle.board_model.specs.State as state
use Rattle.board_model.specs.State.{free_to}
use Rattle.domain_parts.specs.Parts.{state_of}
use Rattle.domain_parts.proofs.PeerPlaces.{free-there, no-peer-in}
use Rattle.domain_parts.proofs.Stepping.{state-seen}
use Rattle.domain_parts.proofs.Tables.{slice_get-read}
use Rattle.domain_parts.proofs.holdings.Holdings.free_to.Goals as goal

pub returns-in_default : goal.returns-in_default
returns-in_default g c =
    let d = c.self.inside in
    let v = g.P.PeerLane.seen in
    let at = subst (λ ps. None ≡ position (λ p. p.number == c.args.number) ps) c.deref.ensures.value c.in_default.ensures.place in
    ap (λ (o : Option state.Peer). unwrap_or (option_map (λ (x : state.Peer). x.free) o) 0) (sym (no-peer-in v d.book d.endpoints d.requests d.table d.peers.items c.args.number at))
    ∙ ap (λ s. free_to s c.args.number) (state-seen v d.book d.endpoints d.requests d.table d.peers.items)
    ∙ ap (λ x. free_to (state_of x.parts) c.args.number) c.self.view_is

pub returns : goal.returns
returns g c =
    let d = c.self.inside in
    let v = g.P.PeerLane.seen in
    let at = subst (λ ps. Some c.in-Some.place ≡ position (λ p. p.number == c.args.number) ps) c.deref.ensures.value c.in-Some.ensures.place in
    let within = subst (λ ps. c.in-Some.place < length ps) c.deref.ensures.value c.in-Some.ensures.within in
    let there = slice_get-read d.peers.items c.in-Some.place c.index.result.now within c.index.ensures in
    c.free_len.ensures.free
    ∙ sym (free-there v d.book d.endpoints d.requests d.table d.peers.items c.args.number c.in-Some.place c.index.result.now at there)
    ∙ ap (λ s. free_to s c.args.number) (state-seen v d.book d.endpoints d.requests d.table d.peers.items)
    ∙ ap (λ x. free_to (state_of x.parts) c.args.number) c.self.view_is
