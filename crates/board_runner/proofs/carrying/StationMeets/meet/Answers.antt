use Rattle.std.proofs.Common.{◌≡◌, ◌∙◌, ℕ, Contains, refl, sym, subst, true≢false}
use Rattle.board_runner.specs.Near.{RunDomain, peers_of}
use Rattle.board_runner.specs.StationsMet.{apart}
use Rattle.board_runner.proofs.AllCarried.{domains-meet}
use Rattle.board_runner.proofs.PeersFound.{found-peer, peer-found}
use Rattle.board_runner.proofs.carrying.StationMeets.meet.Goals as goal

has_second : (one : RunDomain) (n m : ℕ) → n ≡ m → Contains (peers_of one) n → Contains (peers_of one) m
has_second one n m same has = subst (λ (k : ℕ). Contains (peers_of one) k) same has

pub carry-requires : goal.carry-requires
carry-requires c =
    let one = c.args.self.now.domain in
    record { linked = c.requires.peers (has_second one c.args.other.now.domain_number _ c.requires.number (found-peer one.state c.args.other.now.domain_number (sym c.has_peer.ensures ∙ c.if-has_peer.true))) }

pub returns-then-has_peer : goal.returns-then-has_peer
returns-then-has_peer c =
    let one = c.args.self.now.domain in
    record {
      domains = domains-meet _ _ _ _ c.requires.peers (has_second one c.args.other.now.domain_number _ c.requires.number (found-peer one.state c.args.other.now.domain_number (sym c.has_peer.ensures ∙ c.if-has_peer.true))) c.carry.ensures.carries c.carry.ensures.one c.carry.ensures.two;
      one_keeps = refl;
      two_keeps = refl;
    }

pub returns-else-has_peer : goal.returns-else-has_peer
returns-else-has_peer c =
    let one = c.args.self.now.domain in
    record {
      domains = apart (λ has. true≢false (sym (peer-found one.state c.args.other.now.domain_number (has_second one _ c.args.other.now.domain_number (sym c.requires.number) has)) ∙ sym c.has_peer.ensures ∙ c.if-has_peer.false)) refl refl;
      one_keeps = refl;
      two_keeps = refl;
    }
