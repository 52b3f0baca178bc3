use Rattle.domain_core_tests.proofs.ThreeLinks.{three-pushed}
use Rattle.domain_core_tests.proofs.tests.limits.three_links.Goals as goal

pub returns : goal.returns
returns c =
    three-pushed c.new-links.result.items c.push.new.self.items c.push-2.new.self.items c.push-3.new.self.items c.in_ok-loose_link.field-0 c.in_ok-loose_link-2.field-0 c.in_ok-loose_link-3.field-0
    c.new-links.ensures.items c.in_ok-push.ensures.items c.in_ok-push-2.ensures.items c.in_ok-push-3.ensures.items c.in_ok-loose_link.ensures.link c.in_ok-loose_link-2.ensures.link c.in_ok-loose_link-3.ensures.link
