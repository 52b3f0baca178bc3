use Rattle.std.proofs.Common.{◌∙◌, List, ap, sym, arith}
use Rattle.request_set.specs.Requests.{Standing}
use Rattle.domain_parts.specs.InRequests.{completed_with}
use Rattle.domain_parts.proofs.Completing.{all-so_far, next-done, next-stays, none-more}
use Rattle.domain_parts.proofs.requests.complete_all.Goals.{then-include, else-include}
use Rattle.domain_parts.proofs.requests.complete_all.Goals as goal

pub loop-at-preserved : goal.loop-at-preserved
loop-at-preserved c =
    let q = c.args.requests.now in
    let who = c.args.who in
    let how = c.args.how in
    let now = c.loop-at.requests in
    elim c.if-include.branch [
      | then-include w ↦ record { so = w.requests-is ∙ next-done q who how c.requires c.loop-at.at now c.in-Some.id c.in-Some.ask c.in-Some.complete c.loop-at.invariant.so c.in-Some.ensures.place (sym c.include.ensures ∙ w.if-include.true) w.complete.new.self w.complete.ensures }
      | else-include w ↦ record { so = w.requests-is ∙ next-stays q who how c.requires c.loop-at.at now c.in-Some.id c.in-Some.ask c.in-Some.complete c.loop-at.invariant.so c.in-Some.ensures.place (sym c.include.ensures ∙ w.if-include.false) }
    ]

pub returns-after-loop-at : goal.returns-after-loop-at
returns-after-loop-at c =
    let q = c.args.requests.now in
    let few = c.requires.few in
    let f = completed_with c.args.who c.args.how in
    c.loop-at.invariant.so ∙ ap (λ (xs : List Standing). record q { standing = xs }) (all-so_far f c.loop-at.at q.standing (omega (arith, few, c.loop-at-test.false)))

pub returns-in_default : goal.returns-in_default
returns-in_default c = none-more c.args.requests.now c.args.who c.args.how c.loop-at.at c.loop-at.requests c.loop-at.invariant.so c.in_default.ensures.place
