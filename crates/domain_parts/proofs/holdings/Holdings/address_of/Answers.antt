use Rattle.std.proofs.Common.{◌≡◌, ◌≢◌, ◌<◌, ◌∙◌, ap, sym, subst, length, None, Some}
use Rattle.std.specs.Prelude.{position, ◌==◌}
use Rattle.board_model.specs.Answer.{address_of, known_address}
use Rattle.domain_parts.specs.Parts.{state_of}
use Rattle.domain_parts.proofs.PeerPlaces.{no-peer-in, other-address, peer-in}
use Rattle.domain_parts.proofs.Stepping.{state-seen}
use Rattle.domain_parts.proofs.Tables.{slice_get-read}
use Rattle.domain_parts.proofs.holdings.Holdings.address_of.Goals as goal

pub returns-in_err-place : goal.returns-in_err-place
returns-in_err-place g c =
    let d = c.self.inside in
    let v = g.P.PeerLane.seen in
    let other : c.args.name.domain ≢ d.table.domain = λ e. c.if-name-number.false (e ∙ c.self.invariant.tied.domain ∙ sym c.number.ensures) in
    let at = subst (λ ps. None ≡ position (λ p. p.number == c.args.name.domain) ps) c.deref.ensures.value c.in_err-place.ensures.place in
    c.from_residual.ensures
    ∙ sym (other-address v d.book d.endpoints d.requests d.table d.peers.items c.args.name other ∙ ap (known_address c.args.name) (no-peer-in v d.book d.endpoints d.requests d.table d.peers.items c.args.name.domain at))
    ∙ ap (λ s. address_of s c.args.name) (state-seen v d.book d.endpoints d.requests d.table d.peers.items)
    ∙ ap (λ x. address_of (state_of x.parts) c.args.name) c.self.view_is

pub returns : goal.returns
returns g c =
    let d = c.self.inside in
    let v = g.P.PeerLane.seen in
    let other : c.args.name.domain ≢ d.table.domain = λ e. c.if-name-number.false (e ∙ c.self.invariant.tied.domain ∙ sym c.number.ensures) in
    let at = subst (λ ps. Some c.in_ok-place.place ≡ position (λ p. p.number == c.args.name.domain) ps) c.deref.ensures.value c.in_ok-place.ensures.place in
    let within = subst (λ ps. c.in_ok-place.place < length ps) c.deref.ensures.value c.in_ok-place.ensures.within in
    let there = slice_get-read d.peers.items c.in_ok-place.place c.index.result.now within c.index.ensures in
    c.find.ensures.address
    ∙ sym (other-address v d.book d.endpoints d.requests d.table d.peers.items c.args.name other ∙ ap (known_address c.args.name) (peer-in v d.book d.endpoints d.requests d.table d.peers.items c.args.name.domain c.in_ok-place.place c.index.result.now at there))
    ∙ ap (λ s. address_of s c.args.name) (state-seen v d.book d.endpoints d.requests d.table d.peers.items)
    ∙ ap (λ x. address_of (state_of x.parts) c.args.name) c.self.view_is
