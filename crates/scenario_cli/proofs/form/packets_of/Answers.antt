use Rattle.std.proofs.Common.{◌≡◌, sym, ◌∙◌, arith}
use Rattle.scenario_cli.proofs.LoadWords.{number-word, word-number, some_is}
use Rattle.scenario_cli.proofs.form.packets_of.Goals as goal

pub returns-in_default-clause-none : goal.returns-in_default-clause-none
returns-in_default-clause-none c = λ none n some few is.
    let clash = c.in_default.ensures.value ∙ word-number c.args.word.now n few is in
    cc

pub returns-then-packets-eq0-clause-none : goal.returns-then-packets-eq0-clause-none
returns-then-packets-eq0-clause-none c = λ none n some few is.
    let packets = c.in-Some.packets in
    let same : packets ≡ n = some_is packets n (c.in-Some.ensures.value ∙ word-number c.args.word.now n few is) in
    let zero : packets ≡ 0 = c.if-packets-eq0.true in
    omega (arith, same, zero, some)

pub returns-clause-number : goal.returns-clause-number
returns-clause-number c = number-word c.args.word.now c.in-Some.packets (sym c.in-Some.ensures.value)
