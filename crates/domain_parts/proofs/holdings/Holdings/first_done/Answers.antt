use Rattle.std.proofs.Common.{◌≡◌, ◌∙◌, refl, subst, sym}
use Rattle.board_model.specs.Answer.{is_complete_at}
use Rattle.board_model.specs.Unnamed.{no_names, unnamed}
use Rattle.board_model.proofs.ListsMapped.{position-alike}
use Rattle.board_model.proofs.RenamedCalls.{complete-renamed}
use Rattle.domain_parts.specs.Awaiting.{first_complete_in, places_named}
use Rattle.domain_parts.specs.CallSteps.{Rests}
use Rattle.domain_parts.specs.Parts.{Holding, holding_in, shown, state_of}
use Rattle.domain_parts.proofs.Stepping.{quiet-moved}
use Rattle.domain_parts.proofs.WaitPlaces.{first-done, some-within}
use Rattle.domain_parts.proofs.holdings.Holdings.first_done.Goals as goal

pub returns : goal.returns
returns g c =
    let d = c.self.inside in
    let h = holding_in g.P.PeerLane.seen d.book d.endpoints d.requests d.table d.peers.items in
    let s = state_of h.parts in
    let first = c.first_done.ensures ∙ first-done d.book d.requests s refl c.args.ids.now ∙ position-alike (is_complete_at s) (is_complete_at (unnamed s)) (λ p. sym (complete-renamed no_names s p)) (places_named c.args.ids.now (shown h)) in
    record {
      first = subst (λ (x : Holding g.row.P.Denot). c.first_done.result ≡ first_complete_in c.args.ids.now (shown x)) c.self.view_is first;
      within = some-within c.args.ids.now (shown h) c.first_done.result first;
      rests = subst (λ (x : Holding g.row.P.Denot). Rests g.P.PeerLane.Moved x) c.self.view_is (quiet-moved g.P.PeerLane.Moved g.met.P.PeerLane.none g.P.PeerLane.seen d.peers.items);
    }
