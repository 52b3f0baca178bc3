use Rattle.std.proofs.Common.{rules, arith, ◌≡◌, ◌∙◌, [], ◌∷◌, ◌++◌, length, ap, sym}
use Rattle.domain_parts.specs.AllMoved.{ends_of}
use Rattle.domain_parts.specs.Opening.{links_in}
use Rattle.domain_parts.proofs.LinksIn.{few-links, links-more, none-left, same-links, whole-more}
use Rattle.domain_parts.proofs.linking.links_of.Goals.{in-Some-link_in, in_default}
use Rattle.domain_parts.proofs.linking.links_of.Goals as goal

pub unwrap-requires : goal.unwrap-requires
unwrap-requires g c =
    let whole = ap (λ rest. c.loop-peer.yielded ++ rest) (sym c.in-Some.ensures.steps.0) ∙ c.loop-peer.invariant.whole in
    let few = few-links c.loop-peer.yielded c.in-Some.peer _ _ whole c.requires in
    let many = ap length c.loop-peer.invariant.links in
    c.push.ensures.succeeds (search (rules, arith))

pub loop-peer-preserved : goal.loop-peer-preserved
loop-peer-preserved g c =
    let rest = ap (λ rest. c.loop-peer.yielded ++ rest) (sym c.in-Some.ensures.steps.0) ∙ c.loop-peer.invariant.whole in
    let whole = whole-more c.loop-peer.yielded c.in-Some.peer c.next.new.self.rest.items c.args.peers.items rest in
    let more = sym (links-more c.loop-peer.yielded c.in-Some.peer) in
    elim c.match-link_in.branch [
      | in-Some-link_in w ↦
          let items : w.push.new.self.items ≡ c.loop-peer.links.items ++ w.in-Some-link_in.link ∷ [] = search rules in
          record {
            links = ap (λ v. v.items) w.links-is ∙ items ∙ ap (λ ls. ls ++ w.in-Some-link_in.link ∷ []) c.loop-peer.invariant.links ∙ ap (λ ls. links_in (ends_of c.loop-peer.yielded) ++ ls) w.in-Some-link_in.ensures ∙ more;
            whole = whole;
            room = search (rules, arith);
          }
      | in_default w ↦
          record {
            links = ap (λ v. v.items) w.links-is ∙ c.loop-peer.invariant.links ∙ sym (same-links (links_in (ends_of c.loop-peer.yielded)) c.in-Some.peer.ends w.in_default.ensures) ∙ more;
            whole = whole;
            room = search (rules, arith);
          }
    ]

pub returns : goal.returns
returns g c =
    let none : length c.loop-peer.peer-iterator.rest.items ≡ 0 = search rules in
    c.loop-peer.invariant.links ∙ ap (λ ps. links_in (ends_of ps)) (none-left c.loop-peer.yielded c.loop-peer.peer-iterator.rest.items c.args.peers.items none c.loop-peer.invariant.whole)
