use Rattle.std.proofs.Common.{◌≡◌, ◌∙◌, ℕ, Bool, Option, Some, ap, ap₂, is_some, length, subst, sym}
use Rattle.std.specs.Prelude.{not, option_map, ◌==◌, ◌||◌}
use Rattle.mc_base.specs.declared.name.Local.{Local}
use Rattle.board_model.specs.State.{one_waits, place_at, queue_at}
use Rattle.request_set.specs.Requests.{oldest_waiting}
use Rattle.domain_parts.specs.declared.endpoints.Endpoint.{Endpoint}
use Rattle.domain_parts.specs.Parts.{Holding, Parts, parts_in, plain, state_of}
use Rattle.domain_parts.specs.Records.{waiting_in}
use Rattle.domain_parts.proofs.Channels.{queued-so, waits-so}
use Rattle.domain_parts.proofs.Removing.{the}
use Rattle.domain_parts.proofs.holdings.Holdings.is_busy.Goals as goal

some-is : {X : Type 0} {x y : X} → Some x ≡ Some y → x ≡ y
some-is e = cc

pub returns : goal.returns
returns g c =
    let d = c.self.inside in
    let p : Parts = parts_in g.P.PeerLane.seen d.book d.endpoints d.requests d.table d.peers.items in
    let at = c.args.at in
    let i = c.args.place in
    let there = subst (λ (x : Holding g.row.P.Denot). place_at (state_of x.parts) at ≡ Some i) (sym c.self.view_is) c.requires.there in
    let e = the plain p.book p.records p.requests p.table p.peers at i c.self.invariant there in
    let queued : length e.0.queue.waiting ≡ length (queue_at (state_of p) at) = queued-so p at i (length e.0.queue.waiting) there (ap (λ (o : Option Endpoint). length (waiting_in o)) (sym e.1)) in
    let waits : is_some (oldest_waiting p.requests e.0.local) ≡ one_waits (state_of p) at = ap (λ (l : Local). is_some (oldest_waiting p.requests l)) e.2 ∙ waits-so p at in
    some-is (c.is_busy.ensures ∙ ap (option_map (λ (x : Endpoint). not (length x.queue.waiting == 0) || is_some (oldest_waiting p.requests x.local))) e.1)
    ∙ ap₂ (λ (n : ℕ) (w : Bool). not (n == 0) || w) queued waits
    ∙ ap (λ (x : Holding g.row.P.Denot). not (length (queue_at (state_of x.parts) at) == 0) || one_waits (state_of x.parts) at) c.self.view_is
