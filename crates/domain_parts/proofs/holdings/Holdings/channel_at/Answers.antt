use Rattle.std.proofs.Common.{◌≡◌, ◌∙◌, ℕ, Option, Some, ap, sym, subst}
use Rattle.std.specs.Prelude.{option_and_then, slice_get}
use Rattle.board_model.proofs.MessageLists.{get-position}
use Rattle.board_model.specs.Answer.{channel_at}
use Rattle.board_model.specs.State.{channel_in, is_at, place_at}
use Rattle.domain_parts.specs.Parts.{Holding, parts_in, state_of}
use Rattle.domain_parts.proofs.Tables.{channel-there}
use Rattle.domain_parts.proofs.holdings.Holdings.channel_at.Goals as goal

pub returns-clause-there : goal.returns-clause-there
returns-clause-there g c =
    let d = c.self.inside in
    let s = state_of (parts_in g.P.PeerLane.seen d.book d.endpoints d.requests d.table d.peers.items) in
    let there = subst (λ (x : Holding g.row.P.Denot). place_at (state_of x.parts) c.args.at ≡ Some c.args.place) (sym c.self.view_is) c.requires.there in
    sym (channel-there d.book d.endpoints.endpoints c.args.place c.channel_at.result c.channel_at.ensures.there)
    ∙ ap (λ (o : Option ℕ). channel_in (option_and_then (λ i. slice_get s.endpoints i) o)) (sym there)
    ∙ ap channel_in (get-position (is_at c.args.at) s.endpoints)
    ∙ ap (λ x. channel_at (state_of x.parts) c.args.at) c.self.view_is
