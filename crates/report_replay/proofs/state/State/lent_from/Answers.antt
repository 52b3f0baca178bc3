use Rattle.std.proofs.Common.{ap, map, length, arith}
use Rattle.std.specs.List.{flat_map}
use Rattle.board_model.specs.State.{DomainState, LentPacket, Request, frames_from, item_in, lent_from}
use Rattle.report_replay.proofs.Counted.{frames-append}
use Rattle.report_replay.proofs.state.State.lent_from.Goals as goal

pub returns : goal.returns
returns c =
    let n = c.args.peer in
    let all = frames-append n (map (λ (p : LentPacket). p.item) c.self.inside.lent.items) (flat_map (λ (r : Request). item_in r.outcome) c.self.inside.requests.items) in
    let view = ap (λ (s : DomainState). lent_from n s) c.self.view_is in
    let packets = ap (λ ps. length (frames_from n (map (λ (p : LentPacket). p.item) ps))) c.deref.ensures.value in
    let requests = ap (λ rs. length (frames_from n (flat_map (λ (r : Request). item_in r.outcome) rs))) c.deref-2.ensures.value in
    omega (arith, c.packets_in.ensures, packets, c.held_in.ensures, requests, all, view, c.saturating_add.ensures)
