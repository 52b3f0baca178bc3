use Rattle.std.proofs.Common.{sym, subst}
use Rattle.lane_end.specs.Halves.{AreHalvesOf}
use Rattle.lane_end.specs.LaneRun.{AreLaneRuns, HeldByEnds}
use Rattle.lane_end.specs.declared.finishing.SendHalf.{SendHalf}
use Rattle.lane_end.specs.declared.finishing.RecvHalf.{RecvHalf}
use Rattle.lane_end.specs.declared.finishing.SendHalf.TheVariants as sent
use Rattle.lane_end.specs.declared.finishing.RecvHalf.TheVariants as received
use Rattle.lane_end.proofs.FinishLemmas.{are-lane-runs, held-by-ends}
use Rattle.lane_end.proofs.finishing.finish_lane.Goals as goal

pub returns-in-Driver-recv-2-clause-run : goal.returns-in-Driver-recv-2-clause-run
returns-in-Driver-recv-2-clause-run c =
    let r = c.finish-in-Driver-recv-2.result in
    let on = sent.Device c.in-Device.device in let from = received.Driver c.in-Driver-recv-2.driver in
    subst (λ (x : SendHalf × RecvHalf). AreLaneRuns c.args.ring x.0 x.1 r) (λ i. (sym c.in-Device.is i, sym c.in-Driver-recv-2.is i)) (are-lane-runs c.args.ring on from r c.finish-in-Driver-recv-2.ensures)

pub returns-in-Driver-recv-2-clause-held : goal.returns-in-Driver-recv-2-clause-held
returns-in-Driver-recv-2-clause-held c =
    let r = c.finish-in-Driver-recv-2.result in
    let on = sent.Device c.in-Device.device in let from = received.Driver c.in-Driver-recv-2.driver in
    let halves : AreHalvesOf c.args.ring on from = subst (λ (x : SendHalf × RecvHalf). AreHalvesOf c.args.ring x.0 x.1) (λ i. (c.in-Device.is i, c.in-Driver-recv-2.is i)) c.requires.halves in
    subst (λ (x : SendHalf × RecvHalf). HeldByEnds x.0 x.1 r) (λ i. (sym c.in-Device.is i, sym c.in-Driver-recv-2.is i)) (held-by-ends c.args.ring on from r halves c.finish-in-Driver-recv-2.ensures)

pub returns-in-Device-recv-clause-run : goal.returns-in-Device-recv-clause-run
returns-in-Device-recv-clause-run c =
    let r = c.finish.result in let on = sent.Driver c.in-Driver.driver in let from = received.Device c.in-Device-recv.device in
    subst (λ (x : SendHalf × RecvHalf). AreLaneRuns c.args.ring x.0 x.1 r) (λ i. (sym c.in-Driver.is i, sym c.in-Device-recv.is i)) (are-lane-runs c.args.ring on from r c.finish.ensures)

pub returns-in-Device-recv-clause-held : goal.returns-in-Device-recv-clause-held
returns-in-Device-recv-clause-held c =
    let r = c.finish.result in let on = sent.Driver c.in-Driver.driver in let from = received.Device c.in-Device-recv.device in
    let halves : AreHalvesOf c.args.ring on from = subst (λ (x : SendHalf × RecvHalf). AreHalvesOf c.args.ring x.0 x.1) (λ i. (c.in-Driver.is i, c.in-Device-recv.is i)) c.requires.halves in
    subst (λ (x : SendHalf × RecvHalf). HeldByEnds x.0 x.1 r) (λ i. (sym c.in-Driver.is i, sym c.in-Device-recv.is i)) (held-by-ends c.args.ring on from r halves c.finish.ensures)
