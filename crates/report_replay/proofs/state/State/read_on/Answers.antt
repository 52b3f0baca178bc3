use Rattle.std.proofs.Common.{◌≡◌, IfOk, Option, ap, sym, subst, ◌∙◌}
use Rattle.std.specs.Prelude.{◌-◌}
use Rattle.name_service.specs.Said.{reading_of}
use Rattle.board_model.specs.Parts.{coming, part_of}
use Rattle.board_model.specs.State.{Part}
use Rattle.report_replay.specs.Coming.{SaysSo}
use Rattle.report_replay.specs.Dealt.{shown_less}
use Rattle.report_replay.specs.Read.{coming_read}
use Rattle.report_replay.proofs.Changed.{no-peer, part-at, part-nowhere, peer-set}
use Rattle.report_replay.proofs.Taken.{on-always, on-map}
use Rattle.report_replay.specs.contracts.state.State.{the_view}
use Rattle.report_replay.specs.contracts.peer.Peer.{the_view as peer_view}
use Rattle.report_replay.proofs.state.State.read_on.Goals as goal

pub returns-in_default-clause-state : goal.returns-in_default-clause-state
returns-in_default-clause-state c =
    on-always c.read_with.result (no-peer c.args.self.now c.args.peer (shown_less (coming_read c.args.self.now c.args.peer (reading_of c.args.said)).part) _ c.place_of_peer.ensures c.in_default.is)

pub returns-in_default-clause-joins : goal.returns-in_default-clause-joins
returns-in_default-clause-joins c =
    subst (λ (o : Option Part). IfOk c.read_with.result (λ x. x.joins ≡ (coming o (reading_of c.args.said)).joins)) (sym (part-nowhere c.args.self.now c.args.peer _ c.place_of_peer.ensures c.in_default.is)) c.read_with.ensures.joins

pub returns-in_default-clause-says : goal.returns-in_default-clause-says
returns-in_default-clause-says c =
    subst (λ (o : Option Part). IfOk c.read_with.result (λ x. SaysSo (reading_of c.args.said) x.says (coming o (reading_of c.args.said)))) (sym (part-nowhere c.args.self.now c.args.peer _ c.place_of_peer.ensures c.in_default.is)) c.read_with.ensures.says

pub returns-clause-state : goal.returns-clause-state
returns-clause-state c =
    let s = c.args.self.now in
    let r = reading_of c.args.said in
    let p = peer_view c.peer.inside in
    let at : part_of s c.args.peer ≡ p.part = part-at s c.args.peer (the_view c.self.inside) c.place_of_peer.result c.in-Some.place _ p.part c.self.view_is c.place_of_peer.ensures c.in-Some.is c.index_mut-peer.ensures.value (ap (λ x. x.part) (sym c.peer.view_is)) in
    let f = shown_less (coming_read s c.args.peer r).part in
    on-map c.read_with-2.result
    (λ is. peer-set s c.args.peer f (the_view c.self.inside) c.place_of_peer.result c.in-Some.place _ _ c.self.view_is c.place_of_peer.ensures c.in-Some.is c.index_mut-peer.ensures.value
    (ap (λ n. record p { shown = n; part = c.read_with-2.new.before }) c.saturating_sub-peer-inside.ensures
    ∙ ap (λ (o : Option Part). record p { shown = p.shown - 1; part = o }) (is ∙ ap (λ (o : Option Part). (coming o r).part) (sym at))
    ∙ ap f c.peer.view_is))
    c.read_with-2.ensures.part

pub returns-clause-joins : goal.returns-clause-joins
returns-clause-joins c =
    let at = part-at c.args.self.now c.args.peer (the_view c.self.inside) c.place_of_peer.result c.in-Some.place _ (peer_view c.peer.inside).part c.self.view_is c.place_of_peer.ensures c.in-Some.is c.index_mut-peer.ensures.value (ap (λ x. x.part) (sym c.peer.view_is)) in
    subst (λ (o : Option Part). IfOk c.read_with-2.result (λ x. x.joins ≡ (coming o (reading_of c.args.said)).joins)) (sym at) c.read_with-2.ensures.joins

pub returns-clause-says : goal.returns-clause-says
returns-clause-says c =
    let at = part-at c.args.self.now c.args.peer (the_view c.self.inside) c.place_of_peer.result c.in-Some.place _ (peer_view c.peer.inside).part c.self.view_is c.place_of_peer.ensures c.in-Some.is c.index_mut-peer.ensures.value (ap (λ x. x.part) (sym c.peer.view_is)) in
    subst (λ (o : Option Part). IfOk c.read_with-2.result (λ x. SaysSo (reading_of c.args.said) x.says (coming o (reading_of c.args.said)))) (sym at) c.read_with-2.ensures.says
