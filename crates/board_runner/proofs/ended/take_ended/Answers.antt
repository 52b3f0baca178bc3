use Rattle.std.proofs.Common.{◌≡◌, ◌<◌, List, None, Some, length, ap, sym, ◌∙◌, subst}
use Rattle.std.specs.Prelude.{position}
use Rattle.board_runner.specs.declared.ended.EndedLink.{EndedLink}
use Rattle.board_runner.specs.Ended.{is_ended_at, ended_at}
use Rattle.board_runner.proofs.EndedLemmas.{taken-there, taken-none, taken-others}
use Rattle.board_runner.proofs.ended.take_ended.Goals as goal

pub returns-in-Some-clause-taken : goal.returns-in-Some-clause-taken
returns-in-Some-clause-taken c =
    let a = c.args.owner in
    let b = c.args.peer in
    let i = c.in-Some.place in
    let is = subst (λ (es : List EndedLink). Some i ≡ position (is_ended_at a b) es) c.deref.ensures.value c.in-Some.ensures.place in
    let within = subst (λ (es : List EndedLink). i < length es) c.deref.ensures.value c.in-Some.ensures.within in
    sym (taken-there c.args.ended.now.items a b i c.remove.result is within c.remove.ensures.value)

pub returns-in-Some-clause-others : goal.returns-in-Some-clause-others
returns-in-Some-clause-others c x y other =
    let a = c.args.owner in
    let b = c.args.peer in
    let i = c.in-Some.place in
    let is = subst (λ (es : List EndedLink). Some i ≡ position (is_ended_at a b) es) c.deref.ensures.value c.in-Some.ensures.place in
    let within = subst (λ (es : List EndedLink). i < length es) c.deref.ensures.value c.in-Some.ensures.within in
    ap (λ (es : List EndedLink). ended_at es x y) c.remove.ensures.items ∙ taken-others c.args.ended.now.items a b i c.remove.result is within x y other

pub returns-in-None-clause-taken : goal.returns-in-None-clause-taken
returns-in-None-clause-taken c =
    let a = c.args.owner in
    let b = c.args.peer in
    sym (taken-none c.args.ended.now.items a b (subst (λ (es : List EndedLink). None ≡ position (is_ended_at a b) es) c.deref.ensures.value c.in-None.ensures.place))
