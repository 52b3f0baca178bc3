use Rattle.std.proofs.Common.{◌≡◌, ℕ, ◌-◌, ◌<◌, length, length-set, ap, ◌∙◌, arith}
use Rattle.std.specs.Prelude.{slice_index, slice_set}
use Rattle.std.proofs.lemmas.List.Edits.{fill_by_more}
use Rattle.board_model.specs.State.{held_from}
use Rattle.report_check.proofs.given.given_by.Goals as goal

pub loop-peer-preserved : goal.loop-peer-preserved
loop-peer-preserved c =
    let i = c.loop-peer.peer in
    let left : ℕ → ℕ = λ p. slice_index c.args.takes.now p - held_from p c.args.state.now in
    let within : i < length c.loop-peer.given = omega (arith, c.loop-peer.invariant.many, c.loop-peer-test.true) in
    let is : c.saturating_sub.result ≡ left i = omega (arith, c.saturating_sub.ensures, c.held_from.ensures, c.loop-peer-test.true) in
    record {
      given = λ p below. ap (λ x. slice_index (slice_set c.loop-peer.given i x) p) is ∙ fill_by_more left c.loop-peer.given i 0 within c.loop-peer.invariant.given p below;
      many = length-set c.loop-peer.given i c.saturating_sub.result ∙ c.loop-peer.invariant.many;
    }

pub returns : goal.returns
returns c = λ p small. c.loop-peer.invariant.given p (omega (arith, small, c.loop-peer-test.false))
